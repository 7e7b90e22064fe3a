-- What forms the sum in words: a number as a word, the sum from the last term to the first, and the stride's test. Assumes nothing.
use Rattle.std.proofs.Common.{◌≡◌, ℕ, suc, ◌-◌, ◌%◌, ◌<◌, ◌≤◌, Bool, true, T, ℤ, pos, negsuc, ◌+ℤ◌, nat_abs, ◌≤ℤ◌, sym, refl, ap, ◌∙◌, subst, mod-eq_of_lt, arith, w64, Fits, SFits, to_z, of_z}
use native.Mathlib.Nat.{add-mod_right}
use lib.Signed.{non_neg}
use mir.ValLaws.{to_z-of_z}
use Rattle.integers.specs.Divides.{divb}
use Rattle.integers.specs.Remainder.{remainder}
use Rattle.integers.specs.Magnitude.{Within}
use Rattle.integers.proofs.Differences.{ints, add-pn}
use Rattle.integers.proofs.Magnitude.{within-add, within-fits}
use Rattle.number_bytes.specs.Ranges.{Held}
use Rattle.form_value.specs.Quick.{word, power}
use Rattle.form_value.proofs.Quick.{word-divides, power-true}

-- ---- a number raised by n: up to 2^32 it fits, by 2^31 at least it is not negative, by 2^32 its remainder is the word
module _ {x : ℤ} (h : Within 2_147_483_648 x) {n : ℕ} (k : n ≤ 4_294_967_296) where
  raised-within : Within 6_442_450_944 (x +ℤ pos n)
  raised-within = within-add {b = pos n} {n = 4_294_967_296} h (record { abs = k })

  pub raised-fits : SFits w64 (x +ℤ pos n)
  raised-fits = within-fits raised-within tt

  raised-same : to_z w64 (of_z w64 (x +ℤ pos n)) ≡ x +ℤ pos n
  raised-same = to_z-of_z w64 (x +ℤ pos n) raised-fits

below_raised : (m n : ℕ) → m < n → negsuc m +ℤ pos n ≡ pos (n - suc m)
below_raised m n h = omega (ints, h, add-pn (negsuc m) (pos n))

raised-positive : (x : ℤ) → Within 2_147_483_648 x → {n : ℕ} → 2_147_483_648 ≤ n → T (non_neg (x +ℤ pos n))
raised-positive (pos m) h k = tt
raised-positive (negsuc m) h {n} k = subst (λ (z : ℤ). T (non_neg z)) (sym (below_raised m n (omega (arith, h.abs)))) tt

pub raised-cast : {x : ℤ} → Within 2_147_483_648 x → {n : ℕ} → 2_147_483_648 ≤ n → n ≤ 4_294_967_296
    → T (non_neg (to_z w64 (of_z w64 (x +ℤ pos n)))) × Fits w64 (nat_abs (to_z w64 (of_z w64 (x +ℤ pos n))))
raised-cast {x} h l k = rw (raised-same h k) (raised-positive x h l, record { fits = omega (arith, (raised-within h k).abs) })

word-raised : (x : ℤ) → Within 2_147_483_648 x → nat_abs (x +ℤ pos 4_294_967_296) % 4_294_967_296 ≡ word x
unfolding remainder
word-raised (pos n) h = add-mod_right n 4_294_967_296
word-raised (negsuc n) h =
    let l : n < 4_294_967_296 = omega (arith, h.abs) in
    let k : 4_294_967_296 - suc n < 4_294_967_296 = omega arith in
    ap (λ (z : ℤ). nat_abs z % 4_294_967_296) (below_raised n 4_294_967_296 l) ∙ mod-eq_of_lt k
    ∙ (let q : 4_294_967_296 - suc n ≡ 4_294_967_296 - 1 - n = omega arith in q) ∙ ap (λ (r : ℕ). 4_294_967_296 - 1 - r) (sym (mod-eq_of_lt l))

pub raised-word : {x : ℤ} → Within 2_147_483_648 x → nat_abs (to_z w64 (of_z w64 (x +ℤ pos 4_294_967_296))) % 4_294_967_296 ≡ word x
raised-word {x} h = let m : 4_294_967_296 ≤ 4_294_967_296 = omega arith in rw (raised-same h m) (word-raised x h)

-- ---- a stride of four signed bytes
module _ {g : ℤ} (low : pos 2 ≤ℤ g) where
  pub stride-abs : pos (nat_abs g) ≡ g
  stride-abs = go g low
    where
      go : (g : ℤ) → pos 2 ≤ℤ g → pos (nat_abs g) ≡ g
      go (pos n) h = refl
      go (negsuc n) h = absurd h.le

  pub stride-positive : T (non_neg g)
  stride-positive = subst (λ (z : ℤ). T (non_neg z)) stride-abs tt

  pub stride-low : 2 ≤ nat_abs g
  stride-low = omega (ints, subst (λ (z : ℤ). pos 2 ≤ℤ z) (sym stride-abs) low)

  pub stride-high : Held 4 g → nat_abs g < 2_147_483_648
  stride-high h = go g low h
    where
      go : (g : ℤ) → pos 2 ≤ℤ g → Held 4 g → nat_abs g < 2_147_483_648
      go (pos n) l h = omega (arith, h.held.half)
      go (negsuc n) l h = absurd l.le

  pub quick-stride : {b p : Bool} {w : ℕ} (v : ℤ) → p ≡ power (nat_abs g) → p ≡ true → w ≡ word v → b ≡ divb (pos (nat_abs g)) (pos w) → b ≡ divb g v
  quick-stride v e t is k =
      k ∙ ap (λ (n : ℕ). divb (pos (nat_abs g)) (pos n)) is ∙ word-divides (power-true 30 (nat_abs g) (sym e ∙ t)) v ∙ ap (λ (z : ℤ). divb z v) stride-abs
