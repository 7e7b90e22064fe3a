-- The stages of a buffer, one after the other. Assumes nothing.
use mathlib.Core.Path.{◌≡◌, refl, sym, ◌∙◌, ap}
use mathlib.Core.Option.{Option, some}
use mathlib.Core.List.{List, [], ◌∷◌}
use Prim.Native.Nat.{ℕ, suc, ◌+◌, ◌≤◌, ◌<◌}
use native.Mathlib.Omega.{arith}
use lib.ListN.{length, get_or, take, drop, length-drop, drop_of_length-le}
use lib.Seq.{drop-cons}
use Rattle.answers.specs.Answers.{Result, refused, accepted, ◌>>=◌}
use Rattle.answers.proofs.Results.{never, one_value}
use Rattle.bundle.specs.Bundle.{Bundle, bundle}
use Rattle.run.specs.Run.{total, parts, read_stages}

-- ---- the buffer: the lengths from i on part what is left of it
pub record PartsLeft (lengths : List ℕ) (i : ℕ) (left : List ℕ) : Type 0 where
  pub upto : i ≤ length lengths
  pub adds_up : total (drop i lengths) ≡ length left

pub parts-start : {buffer lengths : List ℕ} → total lengths ≡ length buffer → PartsLeft lengths 0 buffer
parts-start h = record { upto = omega arith; adds_up = h }

lengths-on : (lengths : List ℕ) (i : ℕ) → i < length lengths → drop i lengths ≡ get_or lengths i 0 ∷ drop (i + 1) lengths
lengths-on lengths i l = let z : suc i ≡ i + 1 = omega arith in drop-cons lengths i 0 l ∙ rw z

pub total-on : (lengths : List ℕ) (i : ℕ) → i < length lengths → total (drop i lengths) ≡ get_or lengths i 0 + total (drop (i + 1) lengths)
unfolding total
total-on lengths i l = rw (lengths-on lengths i l)

module _ {lengths : List ℕ} {i : ℕ} {left : List ℕ} (p : PartsLeft lengths i left) (l : i < length lengths) where
  pub part-upto : get_or lengths i 0 ≤ length left
  part-upto = omega (arith, p.adds_up, total-on lengths i l)

  pub parts_next : PartsLeft lengths (i + 1) (drop (get_or lengths i 0) left)
  parts_next = record { upto = omega arith; adds_up = omega (arith, p.adds_up, total-on lengths i l, length-drop (get_or lengths i 0) left) }

  pub parts-on : parts (drop i lengths) left ≡ take (get_or lengths i 0) left ∷ parts (drop (i + 1) lengths) (drop (get_or lengths i 0) left)
  unfolding parts
  parts-on = ap (λ (ns : List ℕ). parts ns left) (lengths-on lengths i l)

-- none is left
pub parts_none : (lengths : List ℕ) (i : ℕ) (s : List ℕ) → length lengths ≤ i → parts (drop i lengths) s ≡ []
unfolding parts
parts_none lengths i s h = rw (drop_of_length-le lengths {i = i} h)

-- ---- one stage read, and then the others
pub record ReadOn (newest file : ℕ) (given : Option ℕ) (T : List ℕ) (Ts : List (List ℕ)) (ts : List Bundle) : Type 0 where
  pub first : Bundle
  pub others : List Bundle
  pub is : ts ≡ first ∷ others
  pub first-is : bundle newest file given T ≡ accepted first
  pub others-are : read_stages newest (suc file) (some first.K) Ts ≡ accepted others

-- an accepted block, step by step
record Bound {X Y : Type 0} (m : Result X) (f : X → Result Y) (y : Y) : Type 0 where
  value : X
  is : m ≡ accepted value
  on : f value ≡ accepted y

bound : {X Y : Type 0} (m : Result X) (f : X → Result Y) {y : Y} → (m >>= f) ≡ accepted y → Bound m f y
unfolding ◌>>=◌
bound (refused a) f e = absurd (never e)
bound (accepted x) f e = record { value = x; is = refl; on = e }

pub reads_on : (newest file : ℕ) (given : Option ℕ) (T : List ℕ) (Ts : List (List ℕ)) {ts : List Bundle} → read_stages newest file given (T ∷ Ts) ≡ accepted ts → ReadOn newest file given T Ts ts
unfolding read_stages
reads_on newest file given T Ts e =
    let b = bound (bundle newest file given T) (λ t. (read_stages newest (suc file) (some t.K) Ts >>= λ ts. accepted (t ∷ ts))) e in
    let c = bound (read_stages newest (suc file) (some b.value.K) Ts) (λ ts. accepted (b.value ∷ ts)) b.on in
    record { first = b.value; others = c.value; is = sym (one_value refl c.on); first-is = b.is; others-are = c.is }

pub reads_none : (newest file : ℕ) (given : Option ℕ) {ts : List Bundle} → read_stages newest file given [] ≡ accepted ts → ts ≡ []
unfolding read_stages
reads_none newest file given e = sym (one_value refl e)
