-- Testing one formula at a list of vectors. docs/FORMAT.md, "The order of tests". Assumes nothing.
use Rattle.std.specs.Prelude.{Bool, true, false, ◌&&◌, List, [], ◌∷◌, map, ℕ, zero, suc, ◌/◌, ◌%◌, leb, eqb, length, take, drop, ℤ, nat_abs}
use Rattle.forms.specs.Edition.{edition1}
use Rattle.forms.specs.Forms.{Formula}
use Rattle.answers.specs.Answers.{answer, file_proof, file_lent, Result, accepted, ◌>>=◌, ◌>>◌, need, each, Written, written}
use Rattle.fields.specs.Fields.{fields}
use Rattle.formula.specs.Formula.{read_formula}
use Rattle.formula.specs.Test.{judge, registers}

-- The first n vectors of a list: K values each, one vector after the other.
unfoldable pub vectors : (K n : ℕ) → List ℤ → List (List ℤ)
vectors K zero values = []
vectors K (suc n) values = take K values ∷ vectors K n (drop K values)

-- 7 for K, also where the list is not whole vectors of K; 23 at the index in the list; then 1, and the formula read as testing reads it, once for all
-- vectors and also where there is none.
unfoldable pub read_for_list : (formula : List ℕ) (K : ℕ) (values : List ℤ) → Result Formula
read_for_list formula K values = do
  need (answer 7 file_lent 0) (leb 1 K && leb K edition1.constants && eqb (length values % K) 0)
  each (λ i. answer 23 file_lent i) (λ z. leb (nat_abs z) edition1.values) 0 values
  need (answer 1 file_proof 0) (leb (length formula) edition1.formula_bytes)
  read_formula K (fields formula)

-- One byte a vector: 1 where the formula is true of it, 0 where it is false.
abbrev pub byte : Bool → ℕ
byte true = 1
byte false = 0

unfoldable pub truths : Formula → List (List ℤ) → List ℕ
truths I vs = map (λ v. byte (judge I (registers v))) vs

-- Last 21, the output too short: the bytes needed are the number of vectors.
unfoldable pub test_list : (formula : List ℕ) (K : ℕ) (values : List ℤ) (output : List ℕ) → Written
test_list formula K values output = written (read_for_list formula K values >>= λ I. accepted (truths I (vectors K (length values / K) values))) output
