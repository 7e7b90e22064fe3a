-- What testing the guards of a run tells of the registers, after one accepted call. Of what the functions that write the guards and test a formula ensure. Assumes nothing.
use Rattle.std.specs.Prelude.{◌≡◌, ◌↔◌, true, false, List, [], ℕ, suc, ◌≤◌, length, take, get_or, ℤ, nat_abs}
use Rattle.std.proofs.Math.Option.{some}
use Rattle.std.proofs.Math.ListN.{get_elem?}
use Rattle.forms.specs.Edition.{edition1, newest_edition}
use Rattle.forms.specs.Forms.{All, Meets, Formula, True}
use Rattle.answers.specs.declared.WriteResult.{WriteResult}
use Rattle.answers.specs.Answers.{acceptance}
use Rattle.number_bytes.specs.Numbers.{Bytes}
use Rattle.formula.specs.Test.{registers}
use Rattle.formula_test.specs.declared.Tested.{Tested}
use Rattle.formula_test.specs.Promises.{Tests}
use Rattle.chains.specs.Runs.{up_to, beyond}
use Rattle.run.specs.Run.{parts}
use Rattle.run.specs.Layout.{guard_at, RunCertifies}
use Rattle.run.specs.Promises.{WritesGuards}
use Rattle.guarantee.specs.Runs.{Writer, stated_by, buffer_by, lengths_by, run_by}

-- Guard i of a run of n stages: the output cut by the lengths that are left.
abbrev pub guard_file : (n : ℕ) (left sizesLeft : List ℕ) → ℕ → List ℕ
guard_file n left sizesLeft i = get_or (parts (take (suc n) sizesLeft) left) i []

-- The guards, tested at values.
pub record GuardsTold (ws : List Writer) (proof left sizesLeft : List ℕ) (values : List ℤ) : Type 0 where
  -- each test is accepted, and true just where the guard is true of the values
  pub accepts : (i : ℕ) → i ≤ length ws → (t : Tested) → Tests (guard_file (length ws) left sizesLeft i) values t → t.answer ≡ acceptance
  pub tells : (K : ℕ) (Is : List Formula) → RunCertifies newest_edition (buffer_by ws) (lengths_by ws) proof K (run_by ws) Is → (i : ℕ) → i ≤ length ws → (t : Tested)
      → Tests (guard_file (length ws) left sizesLeft i) values t → t.holds ≡ true ↔ True (guard_at Is i) (registers values)
  -- so true where the values meet T1 .. Ti, false where they meet the rest: I0 always true, In never
  pub met : (i : ℕ) → i ≤ length ws → (t : Tested) → Tests (guard_file (length ws) left sizesLeft i) values t
      → (All (Meets (registers values)) (up_to (run_by ws) i) → t.holds ≡ true) × (All (Meets (registers values)) (beyond (run_by ws) i) → t.holds ≡ false)
  -- and where I(i-1) is true and the values meet all of Ti, Ii is true
  pub next : (i : ℕ) (w : Writer) → get_elem? ws i ≡ some w → All (Meets (registers values)) (stated_by w)
      → (t t' : Tested) → Tests (guard_file (length ws) left sizesLeft i) values t → Tests (guard_file (length ws) left sizesLeft (suc i)) values t' → t.holds ≡ true → t'.holds ≡ true

-- At values within ±1,000,000, one for each constant.
pub record RunTells : Type 0 where
  pub tells : (ws : List Writer) (proof output sizes left sizesLeft : List ℕ) (r : WriteResult) → Bytes proof → WritesGuards (buffer_by ws) (lengths_by ws) proof output sizes left sizesLeft r
      → r.answer.number ≡ 0 → (values : List ℤ) → All (λ w. (w.means w.fields).0 ≡ length values) ws → All (λ z. nat_abs z ≤ edition1.values) values
      → GuardsTold ws proof left sizesLeft values
