-- Kinds by their bytes, and the numbers of a form in a list. Assumes nothing.
use mathlib.Core.Path.{◌≡◌, refl, ap, ◌∙◌}
use mathlib.Core.Bool.{Bool, true, false}
use mathlib.Core.List.{List, [], ◌∷◌, ◌++◌}
use Prim.Native.Nat.{ℕ, zero, suc, ◌+◌, ◌<◌, ◌≤◌}
use native.Mathlib.Numerals.{add-one}
use native.Mathlib.Omega.{arith}
use lib.IntN.{ℤ, pos}
use lib.ListN.{length, take, drop, length-drop}
use lib.Seq.{take-suc, get_or-drop}
use borrow.Author.Tests.{eq-eqb, ne_eqb}
use Rattle.forms.specs.Forms.{≤0, =0, A, B, kind_on}
use Rattle.forms.specs.Flat.{kind_of, constraint_kind_of, line_kind_of, form_in}

pub kind-zero : {b : ℕ} → b ≡ 0 → kind_of b ≡ ≤0
unfolding kind_of
kind-zero {b} h = ap (λ (x : Bool). elim x [ true ↦ ≤0 | false ↦ =0 ]) (eq-eqb b 0 h)

pub kind-one : {b : ℕ} → (b ≡ 0 → ⊥) → kind_of b ≡ =0
unfolding kind_of
kind-one {b} h = ap (λ (x : Bool). elim x [ true ↦ ≤0 | false ↦ =0 ]) (ne_eqb b 0 h)

-- A line's byte is its constraint's, but 3 for a t ≠ 0 of B.
pub kind-in-A : (b : ℕ) → b ≤ 2 → line_kind_of b ≡ kind_on A (constraint_kind_of b)
unfolding line_kind_of constraint_kind_of kind_of
kind-in-A zero h = refl
kind-in-A (suc zero) h = refl
kind-in-A (suc (suc zero)) h = refl
kind-in-A (suc (suc (suc b))) h = absurd (omega arith)

pub kind-in-B : (b : ℕ) → b ≤ 1 → line_kind_of b ≡ kind_on B (constraint_kind_of b)
unfolding line_kind_of constraint_kind_of kind_of
kind-in-B zero h = refl
kind-in-B (suc zero) h = refl
kind-in-B (suc (suc b)) h = absurd (omega arith)

pub kind-apart-B : line_kind_of 3 ≡ kind_on B (constraint_kind_of 2)
unfolding line_kind_of constraint_kind_of
kind-apart-B = refl

-- The K + 1 numbers at a place are those of the form there.
pub part-form : (at K : ℕ) (buf : List ℤ) → at + K < length buf → take (K + 1) (drop at buf) ≡ (form_in K buf at).coeffs ++ ((form_in K buf at).d ∷ [])
part-form at K buf h =
    ap (λ (n : ℕ). take n (drop at buf)) (add-one K)
    ∙ take-suc (drop at buf) K (pos 0) (simp length-drop (omega arith))
    ∙ ap (λ (z : ℤ). take K (drop at buf) ++ (z ∷ [])) (get_or-drop at buf K (pos 0))
