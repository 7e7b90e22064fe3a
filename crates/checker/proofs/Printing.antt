-- What the check program prints, over plain values. Assumes nothing.
use Prim.Native.Nat.{ℕ, ◌≤◌}
use mathlib.Core.Path.{◌≡◌, refl, sym, subst}
use mathlib.Core.Bool.{Bool, true, false}
use mathlib.Core.List.{List}
use native.Mathlib.Omega.{arith}
use lib.ListN.{length, take, drop, length-append}
use lib.Dec.{leb}
use borrow.Author.Tests.{leb-true}
use Rattle.answers.specs.Answers.{Result, refused, accepted, Written, written_of, over, fit, written}
use Rattle.answers.specs.declared.WriteResult.{WriteResult}
use Rattle.proof.specs.Check.{check_by, check}
use Rattle.answer_text.specs.Lines.{AnswerLines}
use Rattle.checker.specs.Said.{Printed}

-- ---- the bytes written are there
fit-counts : (out bytes : List ℕ) (b : Bool) → (fit out b bytes).count ≤ length (fit out b bytes).output
unfolding fit over
fit-counts out bytes true = omega (arith, length-append bytes (drop (length bytes) out))
fit-counts out bytes false = omega arith

written-counts : (x : Result (List ℕ)) (out : List ℕ) → (written x out).count ≤ length (written x out).output
unfolding written
written-counts (refused a) out = omega arith
written-counts (accepted bytes) out = fit-counts out bytes (leb (length bytes) (length out))

check-counts : (A B P out : List ℕ) → (check A B P out).count ≤ length (check A B P out).output
unfolding check check_by
check-counts A B P out = written-counts _ out

pub count-within : (A B P out : List ℕ) (c : WriteResult) (out₁ : List ℕ) → written_of c out₁ ≡ check A B P out → c.count ≤ length out₁
count-within A B P out c out₁ is = subst (λ (w : Written). w.count ≤ length w.output) (sym is) (check-counts A B P out)

-- and no more than were lent
fit-few : (out bytes : List ℕ) (b : Bool) → leb (length bytes) (length out) ≡ b → (fit out b bytes).count ≤ length out
unfolding fit over
fit-few out bytes true e = leb-true (length bytes) (length out) e
fit-few out bytes false e = omega arith

written-few : (x : Result (List ℕ)) (out : List ℕ) → (written x out).count ≤ length out
unfolding written
written-few (refused a) out = omega arith
written-few (accepted bytes) out = fit-few out bytes (leb (length bytes) (length out)) refl

check-few : (A B P out : List ℕ) → (check A B P out).count ≤ length out
unfolding check check_by
check-few A B P out = written-few _ out

pub few : (A B P out : List ℕ) (c : WriteResult) (out₁ : List ℕ) → written_of c out₁ ≡ check A B P out → c.count ≤ length out
few A B P out c out₁ is = subst (λ (w : Written). w.count ≤ length out) (sym is) (check-few A B P out)

-- ---- what is printed
module _ (c : WriteResult) (out₁ : List ℕ) {w : Written} {s : List ℕ} where
  pub prints : written_of c out₁ ≡ w → AnswerLines c.answer.number c.answer.file c.answer.place (take c.count out₁) s → Printed w s
  prints is l = subst (λ (w : Written). Printed w s) is (record { if-accepted = l.if-accepted; if_refused = l.if_refused })
