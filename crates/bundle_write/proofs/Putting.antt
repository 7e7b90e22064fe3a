-- Writing constraints: one turn of each loop, as laws over plain values, and how many bytes there are. Assumes nothing.
use mathlib.Core.Path.{◌≡◌, refl, sym, ap, ◌∙◌}
use mathlib.Core.List.{List, [], ◌∷◌, ◌++◌}
use Prim.Native.Nat.{ℕ, suc, ◌+◌, ◌*◌, ◌≤◌, ◌<◌}
use native.Mathlib.Nat.{suc-mul, zero-mul, mul-le-mul_right}
use native.Mathlib.Omega.{arith}
use lib.IntN.{ℤ}
use lib.ListN.{length, get_or, take, drop, length-append, length-drop, drop_of_length-le}
use lib.Seq.{sets, length-sets, drop-cons, drop-drop, length-take-le}
use lib.Dec.{T, leb}
use Rattle.forms.specs.Edition.{Edition, edition}
use Rattle.forms.specs.Forms.{All}
use Rattle.number_bytes.specs.Numbers.{unsigned_bytes, signeds_bytes}
use Rattle.number_bytes.proofs.Signed.{length-signeds_bytes}
use Rattle.number_bytes.proofs.Stores.{sets-append}
use Rattle.fields.specs.Fields.{field_bytes}
use Rattle.fields.specs.Header.{header_bytes}
use Rattle.fields.proofs.Framing.{length-field_bytes}
use Rattle.bundle.specs.Write.{constraints_bytes}
use Rattle.bundle.specs.Writable.{field_size}

-- ---- all constraints
-- the invariant: what is left to write gives what the whole gives
pub record Putting (e : Edition) (K : ℕ) (kinds : List ℕ) (numbers : List ℤ) (out₀ : List ℕ) (at : ℕ) (out : List ℕ) (here from n : ℕ) : Type 0 where
  pub valid : All (λ kind. T (leb kind 2)) kinds
  pub size : length numbers ≡ length kinds * suc K
  pub fits : at + length kinds * field_size e.coefficient_width K ≤ length out₀
  pub here-is : here ≡ at + n * field_size e.coefficient_width K
  pub from_is : from ≡ n * (K + 1)
  pub upto : n ≤ length kinds
  pub is : sets out here (constraints_bytes e K (drop n kinds) (drop (n * (K + 1)) numbers)) ≡ sets out₀ at (constraints_bytes e K kinds numbers)
  pub long : length out ≡ length out₀

pub putting-start : (e : Edition) {K : ℕ} {kinds : List ℕ} {numbers : List ℤ} {out : List ℕ} {at : ℕ} → All (λ kind. T (leb kind 2)) kinds → length numbers ≡ length kinds * suc K
    → at + length kinds * field_size e.coefficient_width K ≤ length out → Putting e K kinds numbers out at out at 0 0
putting-start e {K} {at} v s f = record {
  valid = v;
  size = s;
  fits = f;
  here-is = (let z = zero-mul (field_size e.coefficient_width K) in omega (arith, z));
  from_is = sym (zero-mul (K + 1));
  upto = omega arith;
  is = rw (zero-mul (K + 1));
  long = refl;
}

module _ {e : Edition} {K : ℕ} {kinds : List ℕ} {numbers : List ℤ} {out₀ : List ℕ} {at : ℕ} {out : List ℕ} {here from n : ℕ} (v : Putting e K kinds numbers out₀ at out here from n) where
  pub putting-done : length kinds ≤ n → out ≡ sets out₀ at (constraints_bytes e K kinds numbers)
  unfolding constraints_bytes
  putting-done h = rw (drop_of_length-le kinds h) at v.is

  module _ (h : n < length kinds) where
    numbers_left : from + (K + 1) ≤ length numbers
    numbers_left =
        let e : suc K ≡ K + 1 = omega arith in
        omega (arith, mul-le-mul_right {m = suc n} {n = length kinds} (K + 1) h, suc-mul n (K + 1), rw e at v.size, v.from_is)

    pub putting-next : {out' : List ℕ}
        → out' ≡ sets out here (field_bytes (3 + get_or kinds n 0) (signeds_bytes e.coefficient_width (take (K + 1) (drop from numbers))))
        → Putting e K kinds numbers out₀ at out' (here + field_size e.coefficient_width K) (from + (K + 1)) (n + 1)
    unfolding constraints_bytes
    putting-next {out'} w =
        let size = field_size e.coefficient_width K in
        let f = field_bytes (3 + get_or kinds n 0) (signeds_bytes e.coefficient_width (take (K + 1) (drop from numbers))) in
        let rest = constraints_bytes e K (drop (suc n) kinds) (drop (suc n * (K + 1)) numbers) in
        let o : suc K ≡ K + 1 = omega arith in
        let z : n + 1 ≡ suc n = omega arith in
        let l : length f ≡ size = length-field_bytes _ _ ∙ rw (length-signeds_bytes e.coefficient_width (take (K + 1) (drop from numbers)), length-take-le (K + 1) (drop from numbers) (rw length-drop (omega (arith, numbers_left)))) in
        let d : drop (K + 1) (drop (n * (K + 1)) numbers) ≡ drop (suc n * (K + 1)) numbers = drop-drop (K + 1) (n * (K + 1)) numbers ∙ rw (suc-mul n (K + 1)) in
        let q : sets out here (constraints_bytes e K (drop n kinds) (drop (n * (K + 1)) numbers)) ≡ sets out' (here + size) rest
        = rw (drop-cons kinds n 0 h, o, d, ← v.from_is) (sets-append f rest out here ∙ rw (l, w)) in
        record {
          valid = v.valid;
          size = v.size;
          fits = v.fits;
          here-is = rw z (omega (arith, suc-mul n size, v.here-is));
          from_is = rw z (omega (arith, suc-mul n (K + 1), v.from_is));
          upto = omega arith;
          is = rw z (sym q ∙ v.is);
          long = ap length w ∙ length-sets out here f ∙ v.long;
        }

-- ---- how many bytes
constraints-size : (e : Edition) (K : ℕ) (kinds : List ℕ) (numbers : List ℤ) → length numbers ≡ length kinds * (K + 1)
    → length (constraints_bytes e K kinds numbers) ≡ length kinds * field_size e.coefficient_width K
unfolding constraints_bytes
constraints-size e K [] numbers h = sym (zero-mul (field_size e.coefficient_width K))
constraints-size e K (kind ∷ kinds) numbers h =
    let w = e.coefficient_width in
    let z : suc K ≡ K + 1 = omega arith in
    let s = suc-mul (length kinds) (K + 1) in
    let l : length (take (suc K) numbers) ≡ K + 1 = length-take-le (suc K) numbers (omega arith) ∙ z in
    let d : length (drop (suc K) numbers) ≡ length kinds * (K + 1) = length-drop (suc K) numbers ∙ omega arith in
    let b : length (signeds_bytes w (take (suc K) numbers)) ≡ (K + 1) * w = length-signeds_bytes w (take (suc K) numbers) ∙ rw l in
    length-append (field_bytes (3 + kind) (signeds_bytes w (take (suc K) numbers))) (constraints_bytes e K kinds (drop (suc K) numbers))
    ∙ omega (arith, length-field_bytes (3 + kind) (signeds_bytes w (take (suc K) numbers)), b, constraints-size e K kinds (drop (suc K) numbers) d, suc-mul (length kinds) (field_size w K))

pub bundle-size : (n K : ℕ) (kinds : List ℕ) (numbers : List ℤ) → length numbers ≡ length kinds * (K + 1)
    → length (header_bytes n K ++ constraints_bytes (edition n) K kinds numbers) ≡ 8 + length kinds * field_size (edition n).coefficient_width K
unfolding header_bytes field_bytes unsigned_bytes
bundle-size n K kinds numbers h = omega (arith, constraints-size (edition n) K kinds numbers h)
