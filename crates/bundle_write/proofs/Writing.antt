-- Writing a bundle: what an accepted one is like, and each way through `write` as a law over plain values. Assumes nothing.
use mathlib.Core.Path.{◌≡◌, refl, sym, ap, ◌∙◌}
use mathlib.Core.Bool.{Bool, true, false, ◌&&◌, not, cond}
use mathlib.Core.List.{List, [], ◌∷◌, ◌++◌}
use Prim.Native.Nat.{ℕ, suc, ◌+◌, ◌*◌, ◌≤◌, ◌<◌}
use native.Mathlib.Numerals.{add-one}
use native.Mathlib.Omega.{arith}
use lib.Dec.{leb}
use lib.IntN.{ℤ}
use lib.ListN.{length}
use lib.Seq.{sets}
use borrow.Author.Tests.{le-leb, lt-leb, eq-eqb, ne_eqb}
use Rattle.forms.specs.Edition.{edition}
use Rattle.std.specs.List.{position, position_from}
use Rattle.std.proofs.Common.{Option, Some, None, Ok, Err}
use Rattle.std.proofs.lemmas.Iterator.Adapters.{position_from-zero}
use Rattle.std.specs.declared.result.Result as code
use Rattle.answers.specs.Refusals.{number_of}
use Rattle.answers.specs.declared.refusals.Fault.{Fault}
use Rattle.answers.specs.declared.Answer.{Answer}
use Rattle.answers.specs.Answers.{answer, acceptance, file_lent, Result, refused, accepted, ◌>>◌, need, each, over, fit, written}
use Rattle.answers.proofs.Over.{sets_over}
use Rattle.number_bytes.specs.Numbers.{unsigned_bytes}
use Rattle.number_bytes.proofs.Stores.{sets-append}
use Rattle.fields.specs.Header.{header_bytes}
use Rattle.fields.specs.Fields.{field_bytes}
use Rattle.bundle.specs.Write.{constraints_bytes, holdable, encode_bundle, write_bundle}
use Rattle.bundle.specs.Writable.{field_size, InOrder}
use Rattle.bundle.proofs.Writable.{bytes_of, encode_bundle-gives, encode_bundle-accepted}
use Rattle.bundle_write.specs.declared.Ordered.{Ordered}
use Rattle.bundle_write.specs.Ordered.{Granted, Orders}
use Rattle.bundle_write.specs.Promises.{Writes}
use Rattle.bundle_write.proofs.Putting.{bundle-size}

-- ---- elements tested one by one
module _ {X : Type 0} (at : ℕ → Answer) (p : X → Bool) where
  good-from : (i : ℕ) (xs : List X) → position_from (λ x. not (p x)) i xs ≡ None → each at p i xs ≡ accepted tt
  unfolding each need ◌>>◌
  good-from i [] h = refl
  good-from i (x ∷ xs) h = go (p x) h (good-from (suc i) xs)
    where
      go : (b : Bool) → cond (not b) (Some i) (position_from (λ (x : X). not (p x)) (i + 1) xs) ≡ None → (position_from (λ (x : X). not (p x)) (suc i) xs ≡ None → each at p (suc i) xs ≡ accepted tt)
          → (need (at i) b >> each at p (suc i) xs) ≡ accepted tt
      go true h k = k (rw add-one at h)
      go false h k = absurd (let q : ◌≡◌ {A = ℕ} 0 1 = cc in omega arith)

  bad-from : (i j : ℕ) (xs : List X) → position_from (λ x. not (p x)) i xs ≡ Some j → each at p i xs ≡ refused (at j)
  unfolding each need ◌>>◌
  bad-from i j [] h = absurd (let q : ◌≡◌ {A = ℕ} 0 1 = cc in omega arith)
  bad-from i j (x ∷ xs) h = go (p x) h (bad-from (suc i) j xs)
    where
      go : (b : Bool) → cond (not b) (Some i) (position_from (λ (x : X). not (p x)) (i + 1) xs) ≡ Some j → (position_from (λ (x : X). not (p x)) (suc i) xs ≡ Some j → each at p (suc i) xs ≡ refused (at j))
          → (need (at i) b >> each at p (suc i) xs) ≡ refused (at j)
      go true h k = k (rw add-one at h)
      go false h k = let q : i ≡ j = cc in rw q

  each-good : (xs : List X) → position (λ x. not (p x)) xs ≡ None → each at p 0 xs ≡ accepted tt
  each-good xs h = good-from 0 xs (sym (position_from-zero (λ (x : X). not (p x)) xs) ∙ h)

  each-bad : {j : ℕ} (xs : List X) → position (λ x. not (p x)) xs ≡ Some j → each at p 0 xs ≡ refused (at j)
  each-bad {j} xs h = bad-from 0 j xs (sym (position_from-zero (λ (x : X). not (p x)) xs) ∙ h)

-- ---- each way through `order`
-- what `up_to` tells
pub within : {b : Bool} (n : ℕ) {x : ℕ} {r : Option ℕ} → r ≡ cond b (Some n) None → r ≡ Some x → (b ≡ true) × (x ≡ n)
within {b} n {x} e f = go b (sym e ∙ f)
  where
    go : (b : Bool) → cond b (Some n) None ≡ Some x → (b ≡ true) × (x ≡ n)
    go true q = (refl, let z : n ≡ x = cc in sym z)
    go false q = absurd (let z : ◌≡◌ {A = ℕ} 0 1 = cc in omega arith)

pub beyond : {b : Bool} (n : ℕ) {r : Option ℕ} → r ≡ cond b (Some n) None → r ≡ None → b ≡ false
beyond {b} n e f = go b (sym e ∙ f)
  where
    go : (b : Bool) → cond b (Some n) None ≡ None → b ≡ false
    go true q = absurd (let z : ◌≡◌ {A = ℕ} 0 1 = cc in omega arith)
    go false q = refl

module _ (newest n K : ℕ) (kinds : List ℕ) (numbers : List ℤ) where
  abbrev encoded : Result (List ℕ)
  encoded = encode_bundle newest n K kinds numbers

  pub fault-edition : (leb 1 n && leb n newest) ≡ false → encoded ≡ refused (answer 5 4 0)
  unfolding encode_bundle need ◌>>◌
  fault-edition h = rw h

  module _ (e : (leb 1 n && leb n newest) ≡ true) where
    pub fault-k : (leb 1 K && leb K 16) ≡ false → encoded ≡ refused (answer 7 4 0)
    unfolding encode_bundle need ◌>>◌
    fault-k h = rw (e, h)

    module _ (h : (leb 1 K && leb K 16) ≡ true) where
      pub fault-count : 32 < length kinds → encoded ≡ refused (answer 8 4 0)
      unfolding encode_bundle need ◌>>◌
      fault-count l = rw (e, h, lt-leb (length kinds) 32 l)

      module _ (l : length kinds ≤ 32) where
        pub fault-kind : {j : ℕ} → position (λ kind. not (leb kind 2)) kinds ≡ Some j → encoded ≡ refused (answer 24 4 j)
        unfolding encode_bundle need ◌>>◌
        fault-kind b = rw (e, h, le-leb (length kinds) 32 l, each-bad (λ i. answer 24 file_lent i) (λ kind. leb kind 2) kinds b)

        module _ (g : position (λ kind. not (leb kind 2)) kinds ≡ None) where
          pub fault-size : (length numbers ≡ length kinds * (K + 1) → ⊥) → encoded ≡ refused (answer 24 4 (length kinds))
          unfolding encode_bundle need ◌>>◌
          fault-size m =
              let z : K + 1 ≡ suc K = omega arith in
              rw (e, h, le-leb (length kinds) 32 l, each-good (λ i. answer 24 file_lent i) (λ kind. leb kind 2) kinds g, ne_eqb (length numbers) (length kinds * suc K) (rw z at m))

          module _ (m : length numbers ≡ length kinds * (K + 1)) where
            -- only the numbers are left to test
            numbers-only : encoded ≡ (each (λ i. answer 13 file_lent i) (holdable (edition n).coefficient_width) 0 numbers >> accepted (bytes_of n K kinds numbers))
            unfolding encode_bundle need ◌>>◌
            numbers-only =
                let z : K + 1 ≡ suc K = omega arith in
                rw (e, h, le-leb (length kinds) 32 l, each-good (λ i. answer 24 file_lent i) (λ kind. leb kind 2) kinds g, eq-eqb (length numbers) (length kinds * suc K) (rw z at m))

            module _ {w : ℕ} (v : w ≡ (edition n).coefficient_width) where
              pub fault-number : {j : ℕ} → position (λ x. not (holdable w x)) numbers ≡ Some j → encoded ≡ refused (answer 13 4 j)
              unfolding ◌>>◌
              fault-number b = numbers-only ∙ rw (each-bad (λ i. answer 13 file_lent i) (holdable (edition n).coefficient_width) numbers (rw v at b))

              pub in-order : position (λ x. not (holdable w x)) numbers ≡ None → InOrder newest n K kinds numbers
              unfolding ◌>>◌
              in-order b =
                  let z : encoded ≡ accepted (bytes_of n K kinds numbers) = numbers-only ∙ rw (each-good (λ i. answer 13 file_lent i) (holdable (edition n).coefficient_width) numbers (rw v at b)) in
                  ((encode_bundle-gives newest n K kinds numbers).gives _ z).0

-- ---- each way through `write`
-- what stands behind the header
after-header : (n K : ℕ) (bytes out : List ℕ) → sets (sets out 0 (header_bytes n K)) 8 bytes ≡ sets out 0 (header_bytes n K ++ bytes)
unfolding header_bytes field_bytes unsigned_bytes
after-header n K bytes out = sym (sets-append (header_bytes n K) bytes out 0)

-- what `order` tells, by its answer
module _ {newest n K : ℕ} {kinds : List ℕ} {numbers : List ℤ} {r : code.Result Ordered Fault} (h : Orders newest n K kinds numbers r) where
  pub granted : {x : Ordered} → r ≡ Ok x → Granted newest n K kinds numbers x
  granted e = rw e at h.by

  pub not-granted : {e : Fault} → r ≡ Err e → encode_bundle newest n K kinds numbers ≡ refused (answer (number_of e.refusal) 4 e.place)
  not-granted e = rw e at h.by

module _ (n K : ℕ) (kinds : List ℕ) (numbers : List ℤ) (out : List ℕ) where
  pub write-refused : {a : Answer} → encode_bundle 2 n K kinds numbers ≡ refused a
      → Writes n K kinds numbers out out (record { answer = a; count = 0 })
  unfolding write_bundle written
  write-refused e = record { is = rw e }

  module _ {x : Ordered} (t : Granted 2 n K kinds numbers x) {w : ℕ} (v : w ≡ (edition x.edition).coefficient_width) where
    grants : encode_bundle 2 n K kinds numbers ≡ accepted (bytes_of x.edition x.k kinds numbers)
    grants = rw (t.edition-is, t.k-is) (encode_bundle-accepted 2 n K kinds numbers t.order)

    size_is : length (bytes_of x.edition x.k kinds numbers) ≡ 8 + length kinds * field_size w x.k
    size_is =
        let e : suc K ≡ K + 1 = omega arith in
        let f : length numbers ≡ length kinds * (x.k + 1) = rw t.k-is (rw e at t.order.size) in
        rw v (bundle-size x.edition x.k kinds numbers f)

    pub write-short : length out < 8 + length kinds * field_size w x.k
        → Writes n K kinds numbers out out (record { answer = answer 21 4 (8 + length kinds * field_size w x.k); count = 0 })
    unfolding write_bundle written fit
    write-short h = record { is = rw (grants, size_is, lt-leb (8 + length kinds * field_size w x.k) (length out) h, size_is) }

    module _ (h : 8 + length kinds * field_size w x.k ≤ length out) where
      pub write-all : {out₁ out₂ : List ℕ} → out₁ ≡ sets out 0 (header_bytes x.edition x.k) → out₂ ≡ sets out₁ 8 (constraints_bytes (edition x.edition) x.k kinds numbers)
          → Writes n K kinds numbers out out₂ (record { answer = acceptance; count = 8 + length kinds * field_size w x.k })
      unfolding write_bundle written fit
      write-all {out₂} e₁ e₂ =
          let o : out₂ ≡ over (bytes_of x.edition x.k kinds numbers) out
          = e₂ ∙ ap (λ (l : List ℕ). sets l 8 (constraints_bytes (edition x.edition) x.k kinds numbers)) e₁
          ∙ after-header x.edition x.k (constraints_bytes (edition x.edition) x.k kinds numbers) out
          ∙ sets_over (bytes_of x.edition x.k kinds numbers) out (omega (arith, size_is)) in
          record { is = rw (grants, o, size_is, le-leb (8 + length kinds * field_size w x.k) (length out) h, size_is) }
