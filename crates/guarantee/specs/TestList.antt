-- What testing a formula at a list of vectors tells: when it is accepted, what each byte says, and which refusal comes first. Of what the functions test and
-- test_list ensure. docs/FORMAT.md, "The order of tests". Assumes nothing.
use Rattle.std.specs.Prelude.{◌≡◌, ◌↔◌, List, ℕ, ◌*◌, ◌<◌, ◌≤◌, length, get_or, take, drop, ℤ, pos, nat_abs}
use Rattle.forms.specs.Forms.{All, Formula}
use Rattle.answers.specs.declared.WriteResult.{WriteResult}
use Rattle.answers.specs.Answers.{answer, acceptance, file_lent}
use Rattle.formula.specs.TestList.{byte}
use Rattle.formula_test.specs.declared.Tested.{Tested}
use Rattle.formula_test.specs.Promises.{Tests}
use Rattle.formula_list.specs.Promises.{TestsList}
use Rattle.guarantee.specs.Testing.{FormulaFile}

-- n whole vectors of K values each, K from 1 to 16.
pub record Vectors (K n : ℕ) (values : List ℤ) : Type 0 where
  pub low : 1 ≤ K
  pub high : K ≤ 16
  pub whole : length values ≡ n * K

-- Values that testing permits: within ±1,000,000.
abbrev pub ValuesInRange : List ℤ → Type 0
ValuesInRange values = All (λ z. nat_abs z ≤ 1_000_000) values

-- Vector i of a list.
abbrev pub vector_at : (K : ℕ) → List ℤ → (i : ℕ) → List ℤ
vector_at K values i = take K (drop (i * K) values)

-- What an accepted list has: n whole vectors of permitted values, a file of at most 65,536 bytes that states a formula over K constants, and a byte of the output for each.
pub record Acceptable (formula : List ℕ) (K n : ℕ) (values : List ℤ) (output : List ℕ) : Type 0 where
  pub vectors : Vectors K n values
  pub range : ValuesInRange values
  pub upto : length formula ≤ 65_536
  pub I : Formula
  pub states : FormulaFile K formula I
  pub room : n ≤ length output

pub record ListTells : Type 0 where
  -- accepted, with a count of n, just where the list is acceptable as n vectors
  pub accepts : (formula : List ℕ) (K : ℕ) (values : List ℤ) (output left : List ℕ) (r : WriteResult) → TestsList formula K values output left r
      → (n : ℕ) → (r.answer.number ≡ 0) × (r.count ≡ n) ↔ Acceptable formula K n values output
  -- then each byte is what testing gives for its vector, and the rest of the output stays
  pub each : (formula : List ℕ) (K : ℕ) (values : List ℤ) (output left : List ℕ) (r : WriteResult) → TestsList formula K values output left r → r.answer.number ≡ 0
      → (length left ≡ length output) × (drop r.count left ≡ drop r.count output)
      × ((i : ℕ) → i < r.count → (t : Tested) → Tests formula (vector_at K values i) t → (t.answer ≡ acceptance) × (get_or left i 0 ≡ byte t.holds))
  -- first 7, where K is not 1 to 16 or the list is not whole vectors
  pub shape : (formula : List ℕ) (K : ℕ) (values : List ℤ) (output left : List ℕ) (r : WriteResult) → TestsList formula K values output left r
      → ((n : ℕ) → ¬ Vectors K n values) → r.answer ≡ answer 7 file_lent 0
  -- then 23 at the index, in the whole list, of the first value that is not permitted
  pub value : (formula : List ℕ) (K n : ℕ) (values : List ℤ) (output left : List ℕ) (r : WriteResult) → TestsList formula K values output left r → Vectors K n values
      → (i : ℕ) → i < length values → ((j : ℕ) → j < i → nat_abs (get_or values j (pos 0)) ≤ 1_000_000) → 1_000_000 < nat_abs (get_or values i (pos 0))
      → r.answer ≡ answer 23 file_lent i
  -- then, in an empty list too, what testing refuses for any K permitted values, and where it refuses nothing, 21 for an output that is too short, with the number of vectors
  pub reading : (formula : List ℕ) (K n : ℕ) (values : List ℤ) (output left : List ℕ) (r : WriteResult) → TestsList formula K values output left r → Vectors K n values → ValuesInRange values
      → (v : List ℤ) → length v ≡ K → ValuesInRange v → (t : Tested) → Tests formula v t
      → (¬ (t.answer.number ≡ 0) → r.answer ≡ t.answer) × (t.answer.number ≡ 0 → length output < n → r.answer ≡ answer 21 file_lent n)
