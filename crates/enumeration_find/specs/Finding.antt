-- What is found for a table. Assumes nothing.
use Rattle.std.specs.Prelude.{Bool, true, false, List, ℕ, length, drop, eqb}
use Rattle.forms.specs.Forms.{Line}
use Rattle.fields.specs.Header.{header_bytes}
use Rattle.enumeration.specs.Numbering.{begins}
use Rattle.enumeration.specs.Search as search
use Rattle.enumeration.specs.Search.{Found}

-- What is found for a table given: it must begin with the header.
abbrev pub found_behind : (headed alone : Bool) (table : List ℕ) → List Line → Found
found_behind false alone table ls = search.not_among
found_behind true true table ls = search.first_of_depths 3 0 ls
found_behind true false table ls = search.next_of_depths 3 0 (drop 8 table) ls

abbrev pub found_for : (K : ℕ) (table : List ℕ) → List Line → Found
found_for K table ls = found_behind (begins (header_bytes 1 K) table) (eqb (length table) 8) table ls
