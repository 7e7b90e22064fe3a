-- A file with notes has the same fields, each where the map puts it; so what is read of it moves with them. Assumes nothing.
use mathlib.Core.Path.{◌≡◌, refl, sym, ◌∙◌, ap, ap₂}
use mathlib.Core.Option.{some, map}
use mathlib.Core.Bool.{Bool, true, false, cond}
use mathlib.Core.List.{List}
use Prim.Native.Nat.{ℕ, zero, suc, ◌+◌, ◌-◌, ◌<◌}
use native.Mathlib.Omega.{arith}
use lib.Dec.{T, leb}
use lib.ListN.{length}
use borrow.Author.Tests.{le-leb, lt-leb, leb-true, leb-false}
use Rattle.fields.specs.Fields.{Field, Front, whole, broken, nothing, front, Fields, ends, cut, ◌▸◌, note, unless_note, fields_from, fields, Noted, same, noted, passed}
use Rattle.fields.proofs.Notes.{note-tags}
use Rattle.fields.proofs.Framing.{from_nothing, from-broken, from-whole, fields_starting, fields_at-field}
use Rattle.fields.proofs.Moved.{move}
use Rattle.proof.specs.Tree.{starts_at}
use Rattle.guarantee.specs.NotedPlaces.{moved_by, nth_start}

-- ---- maps of places
move-still : (φ : ℕ → ℕ) → ((p : ℕ) → φ p ≡ p) → (fs : Fields) → move φ fs ≡ fs
move-still φ h (ends at) = ap ends (h at)
move-still φ h (cut at) = ap cut (h at)
move-still φ h (f ▸ fs) = ap₂ ◌▸◌ (ap (λ (at : ℕ). let g : Field = record { at = at; tag = f.tag; contents = f.contents } in g) (h f.at)) (move-still φ h fs)

move-both : (φ ψ χ : ℕ → ℕ) → ((p : ℕ) → φ (ψ p) ≡ χ p) → (fs : Fields) → move φ (move ψ fs) ≡ move χ fs
move-both φ ψ χ h (ends at) = ap ends (h at)
move-both φ ψ χ h (cut at) = ap cut (h at)
move-both φ ψ χ h (f ▸ fs) = ap₂ ◌▸◌ (ap (λ (at : ℕ). let g : Field = record { at = at; tag = f.tag; contents = f.contents } in g) (h f.at)) (move-both φ ψ χ h fs)

unless-moved : (φ : ℕ → ℕ) (tag : ℕ) (contents : List ℕ) (a b : ℕ) (t : Bool) (fs gs : Fields) → b ≡ φ a → gs ≡ move φ fs
    → unless_note t (record { at = b; tag = tag; contents = contents }) gs ≡ move φ (unless_note t (record { at = a; tag = tag; contents = contents }) fs)
unfolding unless_note
unless-moved φ tag contents a b true fs gs p q = q
unless-moved φ tag contents a b false fs gs p q = rw (p, q)

-- fields that start further on
from-further : (fuel a b c : ℕ) → c ≡ a + b → (bs : List ℕ) → fields_from fuel c bs ≡ move (λ p. a + p) (fields_from fuel b bs)
unfolding fields_from
from-further zero a b c q bs = ap ends q
from-further (suc fuel) a b c q bs = go (front bs) refl (from-further fuel a)
  where
    go : (x : Front) → front bs ≡ x → ((b c : ℕ) → c ≡ a + b → (bs : List ℕ) → fields_from fuel c bs ≡ move (λ p. a + p) (fields_from fuel b bs))
        → fields_from (suc fuel) c bs ≡ move (λ p. a + p) (fields_from (suc fuel) b bs)
    go nothing e ih = from_nothing fuel c bs e ∙ ap ends q ∙ sym (ap (move (λ p. a + p)) (from_nothing fuel b bs e))
    go broken e ih = from-broken fuel c bs e ∙ ap cut q ∙ sym (ap (move (λ p. a + p)) (from-broken fuel b bs e))
    go (whole tag contents after) e ih =
        from-whole fuel c bs e
        ∙ unless-moved (λ p. a + p) tag contents b c (note tag) _ _ q (ih (b + 3 + length contents) (c + 3 + length contents) (omega arith) after)
        ∙ sym (ap (move (λ p. a + p)) (from-whole fuel b bs e))

unless-true : (t : Bool) → T t → (f : Field) (fs : Fields) → unless_note t f fs ≡ fs
unfolding unless_note
unless-true true h f fs = refl
unless-true false h f fs = absurd h

-- ---- the map that notes give
module _ (s : ℕ) (m : ℕ → ℕ) where
  before-field : (p : ℕ) → p < s → cond (leb s p) (s + m (p - s)) p ≡ p
  before-field p h = rw (lt-leb s p h)

  behind-field : (p : ℕ) → cond (leb s (s + p)) (s + m (s + p - s)) (s + p) ≡ s + m p
  behind-field p =
      let z : s + p - s ≡ p = omega arith in
      rw (le-leb s (s + p) (omega arith), z)

  field-rises : ((p q : ℕ) → p < q → m p < m q) → (p q : ℕ) → p < q → cond (leb s p) (s + m (p - s)) p < cond (leb s q) (s + m (q - s)) q
  field-rises up p q h = go (leb s p) (leb s q) refl refl
    where
      go : (a b : Bool) → leb s p ≡ a → leb s q ≡ b → cond (leb s p) (s + m (p - s)) p < cond (leb s q) (s + m (q - s)) q
      go true true d e = let l = leb-true s p d in rw (d, e) (omega (arith, up (p - s) (q - s) (omega arith)))
      go true false d e = absurd (omega (arith, leb-true s p d, leb-false s q e))
      go false true d e = rw (d, e) (omega (arith, leb-false s p d))
      go false false d e = rw (d, e) h

pub rises : {F F' : List ℕ} (n : Noted F F') (p q : ℕ) → p < q → moved_by n p < moved_by n q
unfolding moved_by
rises same p q h = h
rises (noted i f t n) p q h = omega (arith, rises n p q h)
rises (passed i f n) p q h = field-rises (3 + length i.contents) (moved_by n) (λ a b l. rises n a b l) p q h

further : (s : ℕ) (bs : List ℕ) (c : ℕ) → c ≡ s → fields_starting c bs ≡ move (λ p. s + p) (fields_starting 0 bs)
further s bs c q = from-further (length bs) s 0 c (omega arith) bs

moved-from : {F F' : List ℕ} (n : Noted F F') → fields_starting 0 F' ≡ move (moved_by n) (fields_starting 0 F)
unfolding moved_by
moved-from {F} same = sym (move-still (λ p. p) (λ p. refl) (fields_starting 0 F))
moved-from {F} (noted {ys = G} i h t n) =
    let s = 3 + length i.contents in
    fields_at-field 0 i h G
    ∙ unless-true (note i.tag) ((note-tags i.tag).1 t) _ _
    ∙ further s G (0 + 3 + length i.contents) (omega arith)
    ∙ ap (move (λ p. s + p)) (moved-from n)
    ∙ move-both (λ p. s + p) (moved_by n) (λ p. s + moved_by n p) (λ p. refl) (fields_starting 0 F)
moved-from (passed {xs = F} {ys = G} i h n) =
    let s = 3 + length i.contents in
    let c = 0 + 3 + length i.contents in
    let φ : ℕ → ℕ = λ p. cond (leb s p) (s + moved_by n (p - s)) p in
    let rest : fields_starting c G ≡ move φ (fields_starting c F) =
    further s G c (omega arith)
    ∙ ap (move (λ p. s + p)) (moved-from n)
    ∙ move-both (λ p. s + p) (moved_by n) (λ p. s + moved_by n p) (λ p. refl) (fields_starting 0 F)
    ∙ sym (move-both φ (λ p. s + p) (λ p. s + moved_by n p) (behind-field s (moved_by n)) (fields_starting 0 F))
    ∙ sym (ap (move φ) (further s F c (omega arith))) in
    fields_at-field 0 i h G
    ∙ unless-moved φ i.tag i.contents 0 0 (note i.tag) _ _ (sym (before-field s (moved_by n) 0 (omega arith))) rest
    ∙ sym (ap (move φ) (fields_at-field 0 i h F))

pub fields-moved : {F F' : List ℕ} (n : Noted F F') → fields F' ≡ move (moved_by n) (fields F)
unfolding fields
fields-moved n = moved-from n

-- each start moves with its field
starts-moved : (φ : ℕ → ℕ) (i : ℕ) (fs : Fields) → nth_start i (move φ fs) ≡ map φ (nth_start i fs)
unfolding nth_start starts_at
starts-moved φ zero (ends at) = refl
starts-moved φ zero (cut at) = refl
starts-moved φ zero (f ▸ fs) = refl
starts-moved φ (suc i) (ends at) = refl
starts-moved φ (suc i) (cut at) = refl
starts-moved φ (suc i) (f ▸ fs) = starts-moved φ i fs

pub start-moved : {F F' : List ℕ} (n : Noted F F') (i p : ℕ) → nth_start i (fields F) ≡ some p → nth_start i (fields F') ≡ some (moved_by n p)
start-moved n i p e = ap (nth_start i) (fields-moved n) ∙ starts-moved (moved_by n) i _ ∙ ap (map (moved_by n)) e
