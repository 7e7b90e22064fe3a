-- Constraints written in the other width: one turn of each loop, as laws over plain values. Assumes nothing.
use mathlib.Core.Path.{◌≡◌, refl, sym, ◌∙◌, ap, ap₂}
use mathlib.Core.Bool.{true}
use mathlib.Core.List.{List, ◌++◌}
use Prim.Native.Nat.{ℕ, suc, ◌+◌, ◌*◌, ◌-◌, ◌≤◌, ◌<◌}
use native.Mathlib.Nat.{suc-mul, zero-mul, mul-le-mul_right}
use native.Mathlib.Omega.{arith}
use lib.ListN.{length, take, drop}
use lib.Seq.{sets, length-sets, take_at, drop_at}
use Rattle.forms.specs.Forms.{every}
use Rattle.answers.specs.Answers.{accepted}
use Rattle.number_bytes.specs.Numbers.{unsigned_bytes, signed, signeds, signed_bytes, signeds_bytes}
use Rattle.number_bytes.proofs.Signed.{length-signeds, length-signed_bytes, length-signeds_bytes}
use Rattle.number_bytes.proofs.Stores.{sets-append}
use Rattle.fields.specs.Fields.{field_bytes}
use Rattle.fields.specs.Header.{header_bytes}
use Rattle.fields.specs.Places.{fields_at}
use Rattle.fields.proofs.Places.{Starts}
use Rattle.fields.proofs.Framing.{length-field_bytes}
use Rattle.bundle.specs.Read.{kinds_of, numbers_of}
use Rattle.bundle.specs.Write.{constraints_bytes, holdable}
use Rattle.bundle.specs.Writable.{field_size}
use Rattle.bundle_scan.specs.Scan.{stated, ConstraintsLeft}
use Rattle.bundle_scan.proofs.SecondPass.{kind-number, left-done, LeftTurn, left-turn}
use Rattle.conversion_bundle.specs.Turned.{old_width, new_width, numbers_held, constraints_turned}
use Rattle.conversion_bundle.proofs.Holding.{run_on, held_both}

-- ---- a run of numbers
-- one number more
pub run-next : (w v : ℕ) (s : List ℕ) (start i n : ℕ) (out : List ℕ) (o : ℕ) → i < n
    → sets (sets out (o + i * v) (signed_bytes v (signed (take w (drop (start + i * w) s))))) (o + (i + 1) * v) (signeds_bytes v (signeds w (n - (i + 1)) (drop (start + (i + 1) * w) s)))
    ≡ sets out (o + i * v) (signeds_bytes v (signeds w (n - i) (drop (start + i * w) s)))
unfolding signeds_bytes
run-next w v s start i n out o h =
    let z = signed (take w (drop (start + i * w) s)) in
    let e : i + 1 ≡ suc i = omega arith in
    let a : o + (i + 1) * v ≡ o + i * v + v = rw e (omega (arith, suc-mul i v)) in
    rw (run_on w s start i n h, a) (sym (sets-append (signed_bytes v z) (signeds_bytes v (signeds w (n - (i + 1)) (drop (start + (i + 1) * w) s))) out (o + i * v) ∙ rw (length-signed_bytes v z)))

pub run-size : (w v n : ℕ) (bs : List ℕ) → length (signeds_bytes v (signeds w n bs)) ≡ n * v
run-size w v n bs = length-signeds_bytes v (signeds w n bs) ∙ ap (λ (m : ℕ). m * v) (length-signeds w n bs)

-- ---- one field, and those behind it
module _ (to : ℕ) {K n m : ℕ} {s : List ℕ} {here a tag start len next : ℕ} (k : Starts s here a tag start len next) (t : LeftTurn (old_width to) K n m s tag start len next) where
  abbrev field : List ℕ
  field = field_bytes tag (signeds_bytes (new_width to) (signeds (old_width to) (K + 1) (drop start s)))

  pub bytes_on : constraints_turned to K (fields_at s here) ≡ field ++ constraints_turned to K (fields_at s next)
  unfolding constraints_bytes kinds_of numbers_of stated
  bytes_on =
      let w = old_width to in
      let zs = signeds w (suc K) (drop start s) in
      let rest = numbers_of (stated w K (fields_at s next)) in
      let e : suc K ≡ K + 1 = omega arith in
      let tagged : 3 + (tag - 3) ≡ tag = omega (arith, t.from) in
      let own : length zs ≡ suc K = length-signeds w (suc K) (drop start s) in
      rw (k.is, kind-number tag t.proper.has t.proper.from, tagged, t.numbers, take_at zs rest (suc K) own, drop_at zs rest (suc K) own, ← e)

  field-size : length field ≡ field_size (new_width to) K
  field-size = length-field_bytes _ _ ∙ rw (run-size (old_width to) (new_width to) (K + 1) (drop start s))

-- ---- all of them
-- the invariant: what is left to write gives what the whole gives
pub record Putting (to K count : ℕ) (s : List ℕ) (at : ℕ) (out₀ : List ℕ) (o : ℕ) (out : List ℕ) (here end n : ℕ) : Type 0 where
  pub left : ConstraintsLeft (old_width to) K n count s here
  pub held : numbers_held to K (fields_at s here) ≡ accepted tt
  pub end_is : end ≡ o + n * field_size (new_width to) K
  pub is : sets out end (constraints_turned to K (fields_at s here)) ≡ sets out₀ o (constraints_turned to K (fields_at s at))
  pub long : length out ≡ length out₀

pub putting-start : {to K count : ℕ} {s : List ℕ} {at : ℕ} (out : List ℕ) (o : ℕ) → ConstraintsLeft (old_width to) K 0 count s at → numbers_held to K (fields_at s at) ≡ accepted tt → Putting to K count s at out o out at o 0
putting-start {to} {K} out o l h = record { left = l; held = h; end_is = (let z = zero-mul (field_size (new_width to) K) in omega (arith, z)); is = refl; long = refl }

module _ {to K count : ℕ} {s : List ℕ} {at : ℕ} {out₀ : List ℕ} {o : ℕ} {out : List ℕ} {here end n : ℕ} (v : Putting to K count s at out₀ o out here end n) where
  pub putting-room : o + count * field_size (new_width to) K ≤ length out₀ → n < count → end + field_size (new_width to) K ≤ length out
  putting-room f h =
      let size = field_size (new_width to) K in
      omega (arith, mul-le-mul_right {m = suc n} {n = count} size h, suc-mul n size, f, v.long, v.end_is)

  -- past a note the same is left
  pub putting-note : {next : ℕ} → fields_at s here ≡ fields_at s next → Putting to K count s at out₀ o out next end n
  putting-note e = record { left = record { counts = rw e at v.left.counts }; held = rw e at v.held; end_is = v.end_is; is = rw e at v.is; long = v.long }

  pub putting-done : count ≤ n → out ≡ sets out₀ o (constraints_turned to K (fields_at s at))
  unfolding constraints_bytes kinds_of numbers_of
  putting-done h = rw (left-done v.left h) at v.is

  module _ {a tag start len next : ℕ} (k : Starts s here a tag start len next) where
    pub putting-turn : LeftTurn (old_width to) K n count s tag start len next
    putting-turn = left-turn k v.left

    pub putting-held : every (holdable (new_width to)) (signeds (old_width to) (K + 1) (drop start s)) ≡ true
    putting-held = (held_both to k putting-turn v.held).0

    pub putting-next : {out' : List ℕ} → out' ≡ sets out end (field to k putting-turn) → Putting to K count s at out₀ o out' next (end + field_size (new_width to) K) (n + 1)
    putting-next {out'} w =
        let size = field_size (new_width to) K in
        let t = putting-turn in
        let f = field to k t in
        let z : n + 1 ≡ suc n = omega arith in
        let q : sets out end (constraints_turned to K (fields_at s here)) ≡ sets out' (end + size) (constraints_turned to K (fields_at s next))
        = ap (sets out end) (bytes_on to k t) ∙ sets-append f (constraints_turned to K (fields_at s next)) out end ∙ rw (field-size to k t, w) in
        record {
          left = t.left;
          held = (held_both to k t v.held).1;
          end_is = rw z (omega (arith, suc-mul n size, v.end_is));
          is = sym q ∙ v.is;
          long = ap length w ∙ length-sets out end f ∙ v.long;
        }

-- ---- the header, and all of them behind it
pub header-length : (n K : ℕ) → length (header_bytes n K) ≡ 8
unfolding header_bytes field_bytes unsigned_bytes
header-length n K = refl

pub header-put : (to K : ℕ) (out bytes : List ℕ) {x y : List ℕ} → x ≡ sets out 0 (header_bytes to K) → y ≡ sets x 8 bytes → y ≡ sets out 0 (header_bytes to K ++ bytes)
header-put to K out bytes hx hy =
    let first : 8 ≡ 0 + length (header_bytes to K) = omega (arith, header-length to K) in
    hy ∙ ap₂ (λ (o : List ℕ) (n : ℕ). sets o n bytes) hx first ∙ sym (sets-append (header_bytes to K) bytes out 0)
