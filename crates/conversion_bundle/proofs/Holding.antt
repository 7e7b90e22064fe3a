-- The numbers of constraints that a width holds: of one number, of a run, of field after field. Assumes nothing.
use mathlib.Core.Path.{◌≡◌, refl, sym, ◌∙◌, ap}
use mathlib.Core.Bool.{Bool, true, false, ◌&&◌}
use mathlib.Core.List.{List, [], ◌∷◌}
use Prim.Native.Nat.{ℕ, suc, ◌+◌, ◌*◌, ◌-◌, ◌^◌, ◌<◌}
use native.Mathlib.Nat.{suc-mul}
use native.Mathlib.Omega.{arith}
use lib.Dec.{T, leb, ltb, leb→le}
use lib.IntN.{ℤ, pos, negsuc}
use lib.ListN.{take, drop}
use lib.Seq.{drop-drop}
use lib.Signed.{le_z}
use borrow.Author.Tests.{leb-true, leb-false, lt-ltb, le-ltb}
use Rattle.forms.specs.Edition.{edition}
use Rattle.forms.specs.Forms.{small, every}
use Rattle.answers.specs.Answers.{answer, file_a, refused, accepted, ◌>>◌, need}
use Rattle.answers.proofs.Results.{never, needs, fail}
use Rattle.number_bytes.specs.Numbers.{signed, signeds, flat, form_from}
use Rattle.number_bytes.specs.Ranges.{Held}
use Rattle.number_bytes.proofs.Signed.{all-weaken}
use Rattle.fields.specs.Fields.{Fields, ends, cut, ◌▸◌, item}
use Rattle.fields.specs.Places.{fields_at}
use Rattle.fields.proofs.Places.{Starts}
use Rattle.bundle.specs.Bundle.{form_small}
use Rattle.bundle.specs.Write.{holdable}
use Rattle.bundle.proofs.Every.{every_of, of-every}
use Rattle.bundle.proofs.Writable.{holdable-both, holdable-held}
use Rattle.number_ranges.proofs.Ranging.{and-true, two-held}
use Rattle.std.specs.Prelude.{Ok}
use Rattle.bundle_scan.specs.Scan.{fault_of, counted, stated}
use Rattle.bundle_scan.proofs.Scanning.{proper-of, passed-both}
use Rattle.bundle_scan.proofs.SecondPass.{LeftTurn}
use Rattle.conversion.specs.Turning.{other, each_field, numbers_fit}
use Rattle.conversion_bundle.specs.Turned.{old_width, new_width, numbers_held}

-- ---- one number: two bytes hold those from -32,768 to 32,767
twice : (n : ℕ) → leb n 32_767 ≡ ltb (n + n) (256 ^ 2)
twice n = go (leb n 32_767) refl
  where
    go : (b : Bool) → leb n 32_767 ≡ b → b ≡ ltb (n + n) (256 ^ 2)
    go true e = sym (lt-ltb (n + n) (256 ^ 2) (omega (arith, leb-true n 32_767 e)))
    go false e = sym (le-ltb (n + n) (256 ^ 2) (omega (arith, leb-false n 32_767 e)))

pub short-held : (z : ℤ) → (le_z (negsuc 32_767) z && le_z z (pos 32_767)) ≡ holdable 2 z
short-held (pos n) = twice n ∙ sym (two-held (pos n))
short-held (negsuc n) = and-true (leb n 32_767) ∙ twice n ∙ sym (two-held (negsuc n))

-- ---- a run: the number at a place, and those behind it
module _ (w : ℕ) (s : List ℕ) (start i n : ℕ) (h : i < n) where
  pub run_on : signeds w (n - i) (drop (start + i * w) s) ≡ signed (take w (drop (start + i * w) s)) ∷ signeds w (n - (i + 1)) (drop (start + (i + 1) * w) s)
  unfolding signeds
  run_on =
      let m : n - i ≡ suc (n - (i + 1)) = omega arith in
      let e : i + 1 ≡ suc i = omega arith in
      let d : start + (i + 1) * w ≡ start + i * w + w = rw e (omega (arith, suc-mul i w)) in
      rw (m, d, drop-drop w (start + i * w) s)

  -- where all are held, it is, and they are
  pub run-held : (v : ℕ) → every (holdable v) (signeds w (n - i) (drop (start + i * w) s)) ≡ true
      → Held v (signed (take w (drop (start + i * w) s))) × (every (holdable v) (signeds w (n - (i + 1)) (drop (start + (i + 1) * w) s)) ≡ true)
  unfolding every
  run-held v q = go (holdable v (signed (take w (drop (start + i * w) s)))) refl (rw run_on at q)
    where
      go : (b : Bool) → holdable v (signed (take w (drop (start + i * w) s))) ≡ b → (b && every (holdable v) (signeds w (n - (i + 1)) (drop (start + (i + 1) * w) s))) ≡ true
          → Held v (signed (take w (drop (start + i * w) s))) × (every (holdable v) (signeds w (n - (i + 1)) (drop (start + (i + 1) * w) s)) ≡ true)
      go true e q = (holdable-held v _ (rw e tt), q)
      go false e q = absurd (let z : ◌≡◌ {A = ℕ} 0 1 = cc in omega arith)

-- ---- field after field
module _ (to : ℕ) {K n m : ℕ} {s : List ℕ} {here a tag start len next : ℕ} (k : Starts s here a tag start len next) (t : LeftTurn (old_width to) K n m s tag start len next) where
  abbrev own : Bool
  own = every (holdable (new_width to)) (signeds (old_width to) (K + 1) (drop start s))

  fits-is : numbers_fit (edition (other to)) (edition to) K (item tag (take len (drop start s))) ≡ own
  unfolding numbers_fit
  fits-is = let e : suc K ≡ K + 1 = omega arith in ap (every (holdable (new_width to))) (t.numbers ∙ ap (λ (n : ℕ). signeds (old_width to) n (drop start s)) e)

  held-here : numbers_held to K (fields_at s here) ≡ (need (answer 13 file_a a) (numbers_fit (edition (other to)) (edition to) K (item tag (take len (drop start s)))) >> numbers_held to K (fields_at s next))
  unfolding each_field
  held-here = rw k.is

  pub held_on : own ≡ true → numbers_held to K (fields_at s here) ≡ numbers_held to K (fields_at s next)
  held_on h = held-here ∙ needs _ _ _ (rw (fits-is ∙ h) tt)

  pub held-stop : own ≡ false → numbers_held to K (fields_at s here) ≡ refused (answer 13 file_a a)
  held-stop h = held-here ∙ fail _ _ (fits-is ∙ h)

  pub held_both : numbers_held to K (fields_at s here) ≡ accepted tt → (own ≡ true) × (numbers_held to K (fields_at s next) ≡ accepted tt)
  held_both h = go own refl
    where
      go : (b : Bool) → own ≡ b → (own ≡ true) × (numbers_held to K (fields_at s next) ≡ accepted tt)
      go true e = (e, sym (held_on e) ∙ h)
      go false e = absurd (never (sym (held-stop e) ∙ h))

-- where nothing is stated, nothing is refused
pub held_none : (to K : ℕ) (fs : Fields) → stated (old_width to) K fs ≡ [] → numbers_held to K fs ≡ accepted tt
unfolding each_field stated
held_none to K (ends at) e = refl
held_none to K (cut at) e = refl
held_none to K (f ▸ fs) e = absurd (let z : ◌≡◌ {A = ℕ} 0 1 = cc in omega arith)

-- ---- turning up
-- a number within the range has four bytes
small-wide : (z : ℤ) → T (small 2_147_483_647 z) → T (holdable 4 z)
unfolding small
small-wide (pos n) h = holdable-both 4 (pos n) (record { high = omega (arith, leb→le n 2_147_483_647 h); low = omega arith }) h
small-wide (negsuc n) h = holdable-both 4 (negsuc n) (record { high = omega arith; low = omega (arith, leb→le (suc n) 2_147_483_647 h) }) h

-- so that every number of a constraint without fault is held
pub up-held : (to K n m : ℕ) (fs : Fields) → new_width to ≡ 4 → counted (old_width to) K n fs ≡ Ok m → numbers_held to K fs ≡ accepted tt
unfolding counted each_field numbers_fit form_small
up-held to K n m (ends at) w e = refl
up-held to K n m (cut at) w e = refl
up-held to K n m (f ▸ fs) w e =
    let form = flat (form_from (old_width to) K f.contents) in
    let p = passed-both (fault_of (old_width to) K n f.tag f.contents) f.at m (counted (old_width to) K (suc n) fs) e in
    let r : T (every (small 2_147_483_647) form) = rw (proper-of (old_width to) K n f.tag f.contents p.0).range tt in
    let h : T (every (holdable (new_width to)) form) = rw w (every_of (holdable 4) (all-weaken small-wide (of-every (small 2_147_483_647) form r))) in
    needs _ _ _ h ∙ up-held to K (suc n) m fs w p.1
