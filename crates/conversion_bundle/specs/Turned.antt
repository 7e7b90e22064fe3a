-- A bundle's constraints turned into the other edition, as the code goes over them. Assumes nothing.
use Rattle.std.specs.Prelude.{List, ◌++◌, ℕ}
use Rattle.forms.specs.Edition.{edition}
use Rattle.answers.specs.Answers.{file_a, Result}
use Rattle.fields.specs.Fields.{Fields}
use Rattle.fields.specs.Header.{header_bytes}
use Rattle.bundle.specs.Read.{kinds_of, numbers_of}
use Rattle.bundle.specs.Write.{constraints_bytes}
use Rattle.bundle_scan.specs.Scan.{stated}
use Rattle.conversion.specs.Turning.{other, each_field, numbers_fit}

-- How many bytes a number has before it is turned, and after.
abbrev pub old_width : (to : ℕ) → ℕ
old_width to = (edition (other to)).coefficient_width

abbrev pub new_width : (to : ℕ) → ℕ
new_width to = (edition to).coefficient_width

-- 13 for the first field with a number that the edition asked for does not hold.
abbrev pub numbers_held : (to K : ℕ) → Fields → Result (Unit {0})
numbers_held to K = each_field 13 file_a (numbers_fit (edition (other to)) (edition to) K)

-- What is written of the constraints that the fields state.
abbrev pub constraints_turned : (to K : ℕ) → Fields → List ℕ
constraints_turned to K fs = constraints_bytes (edition to) K (kinds_of (stated (old_width to) K fs)) (numbers_of (stated (old_width to) K fs))

-- And the header before it.
abbrev pub bundle_turned_bytes : (to K : ℕ) → Fields → List ℕ
bundle_turned_bytes to K fs = header_bytes to K ++ constraints_turned to K fs
