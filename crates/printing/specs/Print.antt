-- Printing a formula's file: its formula as text in a lent output. Assumes nothing.
use Rattle.std.specs.Prelude.{Bool, false, List, ℕ, leb, length}
use Rattle.std.proofs.Math.Option.{none}
use Rattle.forms.specs.Edition.{edition1}
use Rattle.answers.specs.Answers.{answer, file_proof, Result, accepted, ◌>>=◌, ◌>>◌, need, Written, written}
use Rattle.fields.specs.declared.FileKind.{FileKind}
use Rattle.fields.specs.Fields.{Fields, fields}
use Rattle.fields.specs.Header.{header, finished}
use Rattle.formula.specs.Formula.{formula_within}
use Rattle.printing.specs.Dialects.{formula_text}

-- The text of the formula behind the header, over so many constants.
unfoldable pub text_behind : (wording : Bool) → (K : ℕ) → Fields → Result (List ℕ)
text_behind wording K fs = do
  (I, after) ← formula_within edition1 K edition1.levels fs
  finished FileKind.Formula file_proof after
  accepted (formula_text wording false I)

-- As testing reads a formula, but for K, which is the file's own: 1, 2, 3, 19, 4, 6, 5, 7, 12, 17.
unfoldable pub printed : (wording : Bool) → (formula : List ℕ) → Result (List ℕ)
unfolding text_behind
printed wording formula = do
  need (answer 1 file_proof 0) (leb (length formula) edition1.formula_bytes)
  h ← header FileKind.Formula file_proof 1 none (fields formula)
  text_behind wording h.K h.rest

-- Last comes 21, where the output is too short.
unfoldable pub print_formula : (wording : Bool) → (formula output : List ℕ) → Written
unfolding printed
print_formula wording formula output = written (printed wording formula) output
