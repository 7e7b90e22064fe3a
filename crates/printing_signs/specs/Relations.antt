-- The texts between numbers and parts, as they are written: what is said of a form, and of a pair how it starts, what stands between its parts, and how it ends. Assumes nothing.
use Rattle.std.specs.Prelude.{Bool, true, false, List, [], ℕ}
use Rattle.printing.specs.Text.{ascii}

-- How an atom starts.
abbrev pub relation_text : (equality : Bool) → List ℕ
relation_text true = ascii "(= "
relation_text false = ascii "(<= "

-- The same in words, behind a sum.
abbrev pub said_text : (equality : Bool) → List ℕ
said_text true = ascii " = 0"
said_text false = ascii " <= 0"

-- How a pair starts, what stands between its parts, and how it ends.
abbrev pub open_text : (wording inner either : Bool) → List ℕ
open_text false inner true = ascii "(or "
open_text false inner false = ascii "(and "
open_text true true either = ascii "("
open_text true false either = []

abbrev pub between_text : (wording either : Bool) → List ℕ
between_text false either = ascii " "
between_text true true = ascii " or "
between_text true false = ascii " and "

abbrev pub close_text : (wording inner : Bool) → List ℕ
close_text false inner = ascii ")"
close_text true true = ascii ")"
close_text true false = []
