-- The range of the numbers of lines: of a line, and of a branch with one line more. Assumes nothing.
use mathlib.Core.Path.{◌≡◌, refl, sym, ◌∙◌, ap, ap₂, subst}
use mathlib.Core.List.{List, [], ◌∷◌, ◌++◌}
use mathlib.Core.Bool.{Bool, true, false, ◌&&◌, and_assoc, and-true}
use mathlib.Core.Logic.{⊎_elim}
use Prim.Native.Nat.{ℕ, zero, suc, ◌+◌, ◌-◌, ◌*◌, ◌<◌, ◌≤◌}
use native.Mathlib.Nat.{eq-zero-or-pos}
use native.Mathlib.Omega.{arith}
use lib.Dec.{T, leb→le, le→leb}
use lib.IntN.{ℤ, pos}
use lib.ListN.{length, get_or, take, drop, length-drop}
use lib.Seq.{length-take-le, take-add, drop-drop}
use Rattle.integers.specs.Magnitude.{Within}
use Rattle.forms.specs.Edition.{edition1}
use Rattle.forms.proofs.Flat.{part-form}
use Rattle.forms.specs.Forms.{small, every}
use Rattle.calculus.specs.Rules.{in_range}
use Rattle.lines.specs.Parts.{part}
use Rattle.lines.proofs.Parts.{get_d_part}
use Rattle.lines.specs.Buffer.{size, line_in, Bounded}
use Rattle.lines.proofs.Lines.{before}

-- ---- every number of a list
pub every_append : (p : ℤ → Bool) (l m : List ℤ) → every p (l ++ m) ≡ every p l && every p m
unfolding every
every_append p [] m = refl
every_append p (c ∷ l) m = ap (λ (b : Bool). p c && b) (every_append p l m) ∙ sym (and_assoc (p c) (every p l) (every p m))

pub every-snoc : (p : ℤ → Bool) (l : List ℤ) (c : ℤ) → every p (l ++ (c ∷ [])) ≡ every p l && p c
unfolding every
every-snoc p l c = every_append p l (c ∷ []) ∙ ap (λ (b : Bool). every p l && b) (and-true (p c))

-- ---- both of two tests
pub and_left : (a b : Bool) → T (a && b) → T a
and_left true b t = tt
and_left false b t = absurd t

pub and_right : (a b : Bool) → T (a && b) → T b
and_right true b t = t
and_right false b t = absurd t

pub and_both : (a b : Bool) → T a → T b → T (a && b)
and_both true b s t = t
and_both false b s t = absurd s

pub every-at : (p : ℤ → Bool) (l : List ℤ) (i : ℕ) (z : ℤ) → T (every p l) → i < length l → T (p (get_or l i z))
unfolding every
every-at p [] i z t h = absurd (omega arith)
every-at p (c ∷ l) zero z t h = and_left (p c) (every p l) t
every-at p (c ∷ l) (suc i) z t h = every-at p l i z (and_right (p c) (every p l) t) (omega arith)

pub every-all : (p : ℤ → Bool) (l : List ℤ) (z : ℤ) → ((i : ℕ) → i < length l → T (p (get_or l i z))) → T (every p l)
unfolding every
every-all p [] z f = tt
every-all p (c ∷ l) z f = and_both (p c) (every p l) (f 0 (omega arith)) (every-all p l z (λ i h. f (suc i) (omega arith)))

-- ---- the numbers of a form, and of a line
part-add : {A : Type 0} (at n m : ℕ) (l : List A) → part at (n + m) l ≡ part at n l ++ part (at + n) m l
part-add at n m l = take-add n m (drop at l) ∙ ap (λ (r : List _). part at n l ++ take m r) (drop-drop n at l)

-- All numbers of line n, as they stand.
pub fits_line : (r K : ℕ) (kinds : List ℕ) (buf : List ℤ) (n : ℕ) → n * size K + size K ≤ length buf
    → in_range r (line_in K kinds buf n) ≡ every (small r) (part (n * size K) (size K) buf)
unfolding in_range line_in
fits_line r K kinds buf n h =
    let at = n * size K in
    let two : size K ≡ (K + 1) + (K + 1) = omega arith in
    sym
    (ap (λ (w : ℕ). every (small r) (part at w buf)) two
    ∙ ap (every (small r)) (part-add at (K + 1) (K + 1) buf ∙ ap₂ ◌++◌ (part-form at K buf (omega arith)) (part-form (at + (K + 1)) K buf (omega arith)))
    ∙ every_append (small r) (part at K buf ++ (get_or buf (at + K) (pos 0) ∷ [])) (part (at + (K + 1)) K buf ++ (get_or buf (at + (K + 1) + K) (pos 0) ∷ []))
    ∙ ap₂ ◌&&◌ (every-snoc (small r) (part at K buf) (get_or buf (at + K) (pos 0))) (every-snoc (small r) (part (at + (K + 1)) K buf) (get_or buf (at + (K + 1) + K) (pos 0)))
    ∙ sym (and_assoc (every (small r) (part at K buf) && small r (get_or buf (at + K) (pos 0))) (every (small r) (part (at + (K + 1)) K buf)) (small r (get_or buf (at + (K + 1) + K) (pos 0)))))

-- ---- a branch with one line more
module _ (K : ℕ) (buf : List ℤ) (n : ℕ) (room : n * size K + size K ≤ length buf) where
  len : length (part (n * size K) (size K) buf) ≡ size K
  len = length-take-le (size K) (drop (n * size K) buf) (simp length-drop (omega arith))

  at-line : T (every (small edition1.range) (part (n * size K) (size K) buf)) → (y : ℕ) → y < size K → Within edition1.range (get_or buf (n * size K + y) (pos 0))
  unfolding small
  at-line t y h =
      rw (sym (get_d_part (n * size K) (size K) buf y (pos 0) h))
      (record { abs = leb→le _ _ (every-at (small edition1.range) (part (n * size K) (size K) buf) y (pos 0) t (omega (arith, len))) })

  pub bounded-more : (kinds : List ℕ) → Bounded K buf n → T (in_range edition1.range (line_in K kinds buf n)) → Bounded K buf (suc n)
  bounded-more kinds b t = record {
    small = λ x h. ⊎_elim
        (λ (g : n * size K - x ≡ 0).
        let e : n * size K + (x - n * size K) ≡ x = omega arith in
        rw e at (at-line (subst T (fits_line edition1.range K kinds buf n room) t) (x - n * size K) (omega arith)))
        (λ (l : 0 < n * size K - x). b.small x (omega arith))
        (eq-zero-or-pos (n * size K - x));
  }

  pub bounded-line : (kinds : List ℕ) {m : ℕ} → Bounded K buf m → n < m → T (in_range edition1.range (line_in K kinds buf n))
  unfolding small
  bounded-line kinds {m} b h =
      subst T (sym (fits_line edition1.range K kinds buf n room))
      (every-all (small edition1.range) (part (n * size K) (size K) buf) (pos 0)
      (λ y l. rw (get_d_part (n * size K) (size K) buf y (pos 0) (omega (arith, len))) (le→leb _ _ (b.small (n * size K + y) (omega (arith, before K h, len))).abs)))
