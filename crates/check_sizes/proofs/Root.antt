-- The root, one way after the other. Assumes nothing.
use mathlib.Core.Path.{◌≡◌, refl, sym, ap, ◌∙◌}
use mathlib.Core.Bool.{Bool, true, false, ◌&&◌}
use mathlib.Core.Logic.{inl, inr}
use mathlib.Core.List.{List}
use Prim.Native.Nat.{ℕ, ◌+◌, ◌*◌, ◌≤◌, ◌<◌}
use native.Mathlib.Omega.{arith}
use lib.Dec.{leb, ltb}
use lib.ListN.{length}
use lib.Seq.{sets, sets-eq, take_at}
use borrow.Author.Tests.{leb-true, ltb-true, ltb-false, le-leb}
use Rattle.forms.specs.Edition.{edition, edition1}
use Rattle.forms.specs.Forms.{Line}
use Rattle.answers.specs.declared.Answer.{Answer}
use Rattle.answers.specs.Answers.{root, Result, refused, accepted, ◌>>=◌, Written, written_of, fit, written}
use Rattle.answers.specs.declared.WriteResult.{WriteResult}
use Rattle.fields.specs.Places.{fields_at, unread_bytes}
use Rattle.formula.specs.Formula.{encode}
use Rattle.formula_write.specs.Writing.{scratch_limit}
use Rattle.proof.specs.Check.{Closing, check_branch}
use Rattle.check_output.specs.Output.{finishing, ScratchHolds, Finishes, InScratch}
use Rattle.check_sizes.specs.Root.{rooted, Told, Roots}

-- ---- the room for the formula
by_length : (l o : ℕ) (b : Bool) → leb o 65528 ≡ b → (b && ltb l o) ≡ true → (o ≤ 65528) × (l < o)
by_length l o true e q = (leb-true o 65528 e, ltb-true l o q)
by_length l o false e q = absurd (let z : ◌≡◌ {A = ℕ} 0 1 = cc in omega arith)

module _ {r : Bool} {l o : ℕ} (is : r ≡ (leb o 65528 && ltb l o)) where
  pub lacks-room : r ≡ true → (o ≤ 65528) × (l < o)
  lacks-room e = by_length l o (leb o 65528) refl (sym is ∙ e)

  pub has_room : r ≡ false → o + 8 ≤ 65536 → o ≤ l
  has_room e h =
      let q : (leb o 65528 && ltb l o) ≡ false = sym is ∙ e in
      omega (arith, ltb-false l o (rw (le-leb o 65528 (omega arith)) at q))

-- ---- a refusal by 1 leaves the output
fit_same : (b : Bool) (bytes : List ℕ) {out out' : List ℕ} {r : WriteResult} → written_of r out' ≡ fit out b bytes → r.answer.number ≡ 1 → out' ≡ out
unfolding fit
fit_same true bytes e one = absurd (let z = ap (λ (w : Written). w.answer.number) e in omega (arith, z, one))
fit_same false bytes e one = ap (λ (w : Written). w.output) e

written_same : (R : Result (List ℕ)) {out out' : List ℕ} {r : WriteResult} → written_of r out' ≡ written R out → r.answer.number ≡ 1 → out' ≡ out
unfolding written
written_same (refused a) e one = ap (λ (w : Written). w.output) e
written_same (accepted bytes) {out} e one = fit_same (leb (length bytes) (length out)) bytes e one

-- ---- each way from the root
not-told : {P : List ℕ} {at : ℕ} {S : List ℕ} (r : WriteResult) (o : ℕ) → o ≤ 39 * unread_bytes P at → o ≤ 65528 → length S < o → r.answer.number ≡ 1 → Told P at S r → ⊥
not-told r o w h l one (inl s) = omega (arith, s.enough o w (omega arith))
not-told r o w h l one (inr other) = other one

module _ (e : ℕ) {K : ℕ} {ls : List Line} {P : List ℕ} {at : ℕ} where
  pub root-fault : {S out : List ℕ} {x : Answer} {r : WriteResult} → check_branch (edition e) K 32 root 0 ls (fields_at P at) ≡ refused x → r ≡ record { answer = x; count = 0 }
      → Roots e K ls P at S out out r
  unfolding ◌>>=◌ written
  root-fault f q = record { is = λ t. rw (f, q); same = λ one. refl }

  pub root-short : {S out : List ℕ} {o : ℕ} {r : WriteResult} → o ≤ 39 * unread_bytes P at → o ≤ 65528 → length S < o → r.answer.number ≡ 1 → Roots e K ls P at S out out r
  root-short {o = o} {r = r} w h l one = record { is = λ t. absurd (not-told r o w h l one t); same = λ one. refl }

module _ (e K : ℕ) (ls : List Line) (P : List ℕ) (at : ℕ) where
  module _ (c : Closing) (f : check_branch (edition e) K 32 root 0 ls (fields_at P at) ≡ accepted c)
      (end o : ℕ) (after : c.after ≡ fields_at P end) (o_is : o ≡ length (encode edition1 c.formula)) (S : List ℕ) {S' : List ℕ} (long : length S' ≡ length S) (room : o + 8 ≤ 65536 → o ≤ length S') (few : o ≤ scratch_limit)
      (stored : length (encode edition1 c.formula) ≤ length S → S' ≡ sets S 0 (encode edition1 c.formula)) where
    pub root-ended : InScratch o S'
    root-ended = record { few = few; room = room }

    holds : ScratchHolds (encode edition1 c.formula) o S'
    holds = record {
      o_is = o_is;
      stored = λ f.
          let l = room f in
          let x = encode edition1 c.formula in
          rw (stored (omega arith), sets-eq x S 0 (omega arith)) (take_at x _ o (sym o_is));
    }

    rooted-is : finishing K (fields_at P end) (encode edition1 c.formula) ≡ rooted e K ls (fields_at P at)
    unfolding ◌>>=◌
    rooted-is = rw (f, after)

    pub root-closed : {out out' : List ℕ} {r : WriteResult} → Finishes K P end S' o out out' r → Roots e K ls P at S out out' r
    root-closed {out} {out'} {r} l = record { is = λ t. is; same = written_same (rooted e K ls (fields_at P at)) is }
      where
        is : written_of r out' ≡ written (rooted e K ls (fields_at P at)) out
        is = l.is (encode edition1 c.formula) holds ∙ ap (λ (R : Result (List ℕ)). written R out) rooted-is
