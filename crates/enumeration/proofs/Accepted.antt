-- Check accepts, with some output, just where the files certify a formula. Assumes nothing.
use mathlib.Core.Path.{◌≡◌, refl, ap}
use mathlib.Core.Bool.{Bool, true, false}
use mathlib.Core.List.{List}
use Prim.Native.Nat.{ℕ, ◌≤◌}
use lib.Dec.{T, le→leb}
use lib.ListN.{length}
use Rattle.forms.specs.Edition.{edition1, newest_edition}
use Rattle.forms.specs.Forms.{Formula}
use Rattle.answers.specs.declared.Answer.{Answer}
use Rattle.answers.specs.Answers.{acceptance, Result, refused, accepted, ◌>>=◌, fit, Written, written}
use Rattle.formula.specs.Formula.{formula_file}
use Rattle.proof.specs.Check.{interpolant, check_by, check}
use Rattle.proof.specs.Layout.{Certifies}
use Rattle.proof.proofs.Agree.{interpolant-iff, never-0}

-- What an accepted check has found.
pub record Certified (A B proof : List ℕ) : Type 0 where
  pub K : ℕ
  pub formula : Formula
  pub certifies : Certifies newest_edition A B proof K formula

module _ (A B proof output : List ℕ) where
  fit-yes : (bytes : List ℕ) (b : Bool) → T b → (fit output b bytes).answer ≡ acceptance
  unfolding fit
  fit-yes bytes true t = refl
  fit-yes bytes false t = absurd t

  left_by : Result (ℕ × Formula) → Written
  left_by r = written (r >>= λ (K, I). accepted (formula_file edition1 K I)) output

  from : (r : Result (ℕ × Formula)) → interpolant newest_edition A B proof ≡ r → (left_by r).answer ≡ acceptance → Certified A B proof
  unfolding left_by written ◌>>=◌
  from (refused a) e h = absurd (never-0 newest_edition A B proof a e (ap (λ (a : Answer). a.number) h))
  from (accepted (K, I)) e h = record { K = K; formula = I; certifies = (interpolant-iff newest_edition A B proof K I).0 e }

  pub accepted-certified : (check A B proof output).answer ≡ acceptance → Certified A B proof
  unfolding check check_by left_by
  accepted-certified h = from (interpolant newest_edition A B proof) refl h

  pub certified-accepted : (K : ℕ) (I : Formula) → Certifies newest_edition A B proof K I → length (formula_file edition1 K I) ≤ length output → (check A B proof output).answer ≡ acceptance
  unfolding check check_by written ◌>>=◌
  certified-accepted K I c h = rw ((interpolant-iff newest_edition A B proof K I).1 c) (fit-yes (formula_file edition1 K I) _ (le→leb _ _ h))
