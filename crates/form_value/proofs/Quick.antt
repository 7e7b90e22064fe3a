-- Congruence modulo 2^32, and that the quick way agrees: g, a power of two, divides a word just where it divides the number. Assumes nothing.
use Rattle.std.proofs.Common.{◌≡◌, ℕ, zero, suc, ◌+◌, ◌-◌, ◌*◌, ◌/◌, ◌%◌, ◌^◌, ◌<◌, ◌≤◌, Bool, true, false, cond, ◌&&◌, ◌||◌, T, eqb, leb, List, [], ◌∷◌, ℤ, pos, ◌+ℤ◌, ◌-ℤ◌, ◌*ℤ◌, neg_ℤ, sym, refl, ap, ◌∙◌, subst, ap₂, mod-lt, pow-suc, div-add-mod', arith, eqb→eq, pow_pos, pow_mono, pow-add, eqb-true, leb-false, leb-true}
use native.Mathlib.Nat.{mod_self}
use lib.Bits.{bit_and, and_step, and_self, and_mask}
use borrow.Author.Tests.{eqb-false}
use Rattle.integers.specs.Divides.{◌∣ℤ◌, divb}
use Rattle.integers.specs.Remainder.{remainder}
use Rattle.integers.proofs.Differences.{ints, add-pn, neg-pn, mul-pn}
use Rattle.integers.proofs.Ring.{var, ring, poly}
use Rattle.integers.proofs.Divisibility.{∣-add, ∣-mul, divb→∣, ∣→divb}
use Rattle.integers.proofs.Remainders.{∣-back, ∣-through, remainder-congruent, remainder-unique}
use Rattle.forms.specs.Forms.{sum, rest, value, Form, Assignment, Formula, literal, ◌divides◌, ◌and◌, ◌or◌}
use Rattle.formula.specs.Test.{judge}
use Rattle.form_value.specs.Quick.{word_size, word, ◌⊕◌, ◌⊗◌, word_sum, word_value, PowerUpto, power_upto, Power, power, quick_divides, quick_judge}

-- ---- congruence modulo m: sum and product of remainders
module _ {m : ℕ} (positive : 1 ≤ m) where
  mod-congruent : (n : ℕ) → pos m ∣ℤ pos n -ℤ pos (n % m)
  mod-congruent n = record {
    q = pos (n / m);
    eq = omega (ints, div-add-mod' n m, add-pn (pos n) (neg_ℤ (pos (n % m))), neg-pn (pos (n % m)), mul-pn (pos (n / m)) (pos m));
  }

  -- what is congruent to z, brought below m, is the remainder
  by-congruence : (z : ℤ) (n : ℕ) → pos m ∣ℤ z -ℤ pos n → remainder m z ≡ n % m
  by-congruence z n d = remainder-unique positive z (n % m) (mod-lt n positive) (∣-through z (pos n) (pos (n % m)) d (mod-congruent n))

  sum-congruent : (a b x y : ℤ) → pos m ∣ℤ a -ℤ x → pos m ∣ℤ b -ℤ y → pos m ∣ℤ (a +ℤ b) -ℤ (x +ℤ y)
  sum-congruent a b x y d e =
      let p = var a in let q = var b in let r = var x in let s = var y in
      subst (λ (z : ℤ). pos m ∣ℤ z) (ring (search poly) (search poly) (omega arith)) (∣-add d e)

  product-congruent : (a b x y : ℤ) → pos m ∣ℤ a -ℤ x → pos m ∣ℤ b -ℤ y → pos m ∣ℤ (a *ℤ b) -ℤ (x *ℤ y)
  product-congruent a b x y d e =
      let p = var a in let q = var b in let r = var x in let s = var y in
      subst (λ (z : ℤ). pos m ∣ℤ z) (ring (search poly) (search poly) (omega arith)) (∣-add (∣-mul b d) (∣-mul x e))

  pub remainder-add : (a b : ℤ) → remainder m (a +ℤ b) ≡ (remainder m a + remainder m b) % m
  remainder-add a b = by-congruence (a +ℤ b) (remainder m a + remainder m b)
      (sum-congruent a b (pos (remainder m a)) (pos (remainder m b)) (remainder-congruent positive a) (remainder-congruent positive b))

  pub remainder-mul : (a b : ℤ) → remainder m (a *ℤ b) ≡ remainder m a * remainder m b % m
  remainder-mul a b = by-congruence (a *ℤ b) (remainder m a * remainder m b)
      (product-congruent a b (pos (remainder m a)) (pos (remainder m b)) (remainder-congruent positive a) (remainder-congruent positive b))

-- ---- the value in words is the word of the value
some_words : 1 ≤ word_size
some_words = omega arith

pub word-add : (a b : ℤ) → word (a +ℤ b) ≡ word a ⊕ word b
word-add a b = remainder-add some_words a b

pub word-mul : (a b : ℤ) → word (a *ℤ b) ≡ word a ⊗ word b
word-mul a b = remainder-mul some_words a b

sum-word : (cs : List ℤ) (v : Assignment) → word_sum cs v ≡ word (sum cs v)
unfolding word_sum sum remainder
sum-word [] v = refl
sum-word (c ∷ cs) v = rw (word-add (c *ℤ v 0) (sum cs (rest v)), word-mul c (v 0), sum-word cs (rest v))

pub value-word : (t : Form) (v : Assignment) → word_value t v ≡ word (value t v)
unfolding word_value value
value-word t v = rw (word-add (sum t.coeffs v) t.d, sum-word t.coeffs v)

-- ---- a power of two divides a word just where it divides the number
pub power_divides : {g : ℕ} → Power g → pos g ∣ℤ pos word_size
power_divides {g} p = record {
  q = pos (2 ^ (32 - p.e));
  eq =
      let a : 32 - p.e + p.e ≡ 32 = omega (arith, p.upto) in
      let b : 2 ^ 32 ≡ 2 ^ (32 - p.e) * 2 ^ p.e = sym (ap (λ (n : ℕ). 2 ^ n) a) ∙ pow-add 2 (32 - p.e) p.e in
      ap pos (b ∙ ap (λ (n : ℕ). 2 ^ (32 - p.e) * n) (sym p.is));
}

pub power-some : {g : ℕ} → Power g → 1 ≤ g
power-some p = rw p.is (pow_pos p.e)

∣-trans : {g m z : ℤ} → g ∣ℤ m → m ∣ℤ z → g ∣ℤ z
∣-trans {g} {m} {z} d e = subst (λ (t : ℤ). g ∣ℤ t) (sym (e.eq ∙ times-comm e.q m)) (∣-mul e.q d)
  where
    times-comm : (a b : ℤ) → a *ℤ b ≡ b *ℤ a
    times-comm a b = let x = var a in let y = var b in ring (search poly) (search poly) (omega arith)

told : (b : Bool) → T b → b ≡ true
told true t = refl
told false t = absurd t

both_ways : (a b : Bool) → (T a → T b) → (T b → T a) → a ≡ b
both_ways true true f g = refl
both_ways true false f g = absurd (f tt)
both_ways false true f g = absurd (g tt)
both_ways false false f g = refl

module _ {g : ℕ} (p : Power g) (z : ℤ) where
  near_word : pos g ∣ℤ z -ℤ pos (word z)
  near_word = ∣-trans (power_divides p) (remainder-congruent some_words z)

  back_from : (a b : ℤ) → pos g ∣ℤ a -ℤ b → pos g ∣ℤ b → pos g ∣ℤ a
  back_from a b d e = let x = var a in let y = var b in
      subst (λ (t : ℤ). pos g ∣ℤ t) (ring (search poly) x (omega arith)) (∣-add d e)

  pub word-divides : divb (pos g) (pos (word z)) ≡ divb (pos g) z
  word-divides = both_ways (divb (pos g) (pos (word z))) (divb (pos g) z)
      (λ t. ∣→divb (back_from z (pos (word z)) near_word (divb→∣ t)))
      (λ t. ∣→divb (back_from (pos (word z)) z (∣-back z (pos (word z)) near_word) (divb→∣ t)))

-- ---- the tests of powers of two
upto-more : {n g : ℕ} → PowerUpto n g → PowerUpto (suc n) g
upto-more p = record { e = p.e; some = p.some; upto = omega (arith, p.upto); is = p.is }

upto-less : {n g : ℕ} → PowerUpto (suc n) g → eqb g (2 ^ suc n) ≡ false → PowerUpto n g
upto-less {n} {g} p f = record { e = p.e; some = p.some; upto = omega (arith, p.upto, not-that); is = p.is }
  where
    not-that : p.e ≡ suc n → ⊥
    not-that q = eqb-false g (2 ^ suc n) f (p.is ∙ ap (λ (k : ℕ). 2 ^ k) q)

pub power-true : (n g : ℕ) → power_upto n g ≡ true → PowerUpto n g
unfolding power_upto
power-true zero g t = absurd (let z : ◌≡◌ {A = ℕ} 0 1 = cc in omega arith)
power-true (suc n) g t = go (eqb g (2 ^ suc n)) refl t (power-true n g)
  where
    go : (b : Bool) → eqb g (2 ^ suc n) ≡ b → (b || power_upto n g) ≡ true → (power_upto n g ≡ true → PowerUpto n g) → PowerUpto (suc n) g
    go true e u f = record { e = suc n; some = omega arith; upto = omega arith; is = eqb-true g (2 ^ suc n) e }
    go false e u f = upto-more (f u)

pub true-power : (n g : ℕ) → PowerUpto n g → power_upto n g ≡ true
unfolding power_upto
true-power zero g p = absurd (omega (arith, p.some, p.upto))
true-power (suc n) g p = go (eqb g (2 ^ suc n)) refl (true-power n g)
  where
    go : (b : Bool) → eqb g (2 ^ suc n) ≡ b → (PowerUpto n g → power_upto n g ≡ true) → (b || power_upto n g) ≡ true
    go true e f = refl
    go false e f = f (upto-less p e)

-- A number that has no bit in common with the one below it is a power of two.
data Halved : ℕ → Type 0 where
  even : (m : ℕ) → Halved (m * 2)
  odd : (m : ℕ) → Halved (m * 2 + 1)

halved : (n : ℕ) → Halved n
halved n = go (n % 2) refl (mod-lt n (omega arith))
  where
    go : (r : ℕ) → n % 2 ≡ r → n % 2 < 2 → Halved n
    go zero e h = subst Halved (let x : n / 2 * 2 ≡ n = omega (arith, div-add-mod' n 2) in x) (even (n / 2))
    go (suc zero) e h = subst Halved (let x : n / 2 * 2 + 1 ≡ n = omega (arith, div-add-mod' n 2) in x) (odd (n / 2))
    go (suc (suc r)) e h = absurd (omega arith)

record Bit (n : ℕ) : Type 0 where
  e : ℕ
  is : n ≡ 2 ^ e

even-below : (m : ℕ) → 1 ≤ m → bit_and (m * 2) (m * 2 - 1) ≡ 0 → bit_and m (m - 1) ≡ 0
even-below m k z =
    let a : m * 2 / 2 ≡ m = omega arith in
    let b : (m * 2 - 1) / 2 ≡ m - 1 = omega arith in
    let c = rw (a, b) at (and_step (m * 2) (m * 2 - 1)) in
    omega arith

odd-below : (m : ℕ) → bit_and (m * 2 + 1) (m * 2 + 1 - 1) ≡ 0 → m ≡ 0
odd-below m z =
    let a : (m * 2 + 1) / 2 ≡ m = omega arith in
    let b : (m * 2 + 1 - 1) / 2 ≡ m = omega arith in
    let c = rw (a, b, and_self m) at (and_step (m * 2 + 1) (m * 2 + 1 - 1)) in
    omega arith

twice : {m : ℕ} → Bit m → Bit (m * 2)
twice b = record { e = suc b.e; is = ap (λ (n : ℕ). n * 2) b.is ∙ sym (pow-suc 2 b.e) }

bit-by : (fuel n : ℕ) → n ≤ fuel → 1 ≤ n → bit_and n (n - 1) ≡ 0 → Bit n
bit-by zero n h k z = absurd (omega arith)
bit-by (suc fuel) n h k z = go (halved n) h k z (bit-by fuel)
  where
    go : {n : ℕ} → Halved n → n ≤ suc fuel → 1 ≤ n → bit_and n (n - 1) ≡ 0 → ((m : ℕ) → m ≤ fuel → 1 ≤ m → bit_and m (m - 1) ≡ 0 → Bit m) → Bit n
    go (even m) h k z f = let l : 1 ≤ m = omega arith in twice (f m (omega arith) l (even-below m l z))
    go (odd m) h k z f = record { e = 0; is = let q = odd-below m z in omega arith }

module _ {g : ℕ} (low : 2 ≤ g) (high : g < 2 ^ 31) where
  bit-power : Bit g → Power g
  bit-power b = record { e = b.e; some = some; upto = upto; is = b.is }
    where
      some : 1 ≤ b.e
      some = go b.e b.is
        where
          go : (e : ℕ) → g ≡ 2 ^ e → 1 ≤ e
          go zero q = absurd (omega arith)
          go (suc e) q = omega arith

      upto : b.e ≤ 30
      upto = go (leb b.e 30) refl
        where
          go : (t : Bool) → leb b.e 30 ≡ t → b.e ≤ 30
          go true q = leb-true b.e 30 q
          go false q = absurd (omega (arith, b.is, pow_mono {i = 31} {j = b.e} (omega (arith, leb-false b.e 30 q))))

  pub power-test : eqb (bit_and g (g - 1)) 0 ≡ power g
  power-test = both_ways (eqb (bit_and g (g - 1)) 0) (power g) there back
    where
      there : T (eqb (bit_and g (g - 1)) 0) → T (power g)
      there t = subst T (sym (true-power 30 g (bit-power (bit-by g g (omega arith) (omega arith) (eqb→eq _ 0 t))))) tt

      back : T (power g) → T (eqb (bit_and g (g - 1)) 0)
      back t =
          let p = power-true 30 g (told (power g) t) in
          let z : bit_and g (g - 1) ≡ 0 = ap (λ (n : ℕ). bit_and n (n - 1)) p.is ∙ and_mask (2 ^ p.e) p.e ∙ mod_self (2 ^ p.e) in
          subst (λ (n : ℕ). T (eqb n 0)) (sym z) tt

-- The bits of a word below those of a power of two, as a test.
pub mask-test : {g : ℕ} (w : ℕ) → Power g → eqb (bit_and w (g - 1)) 0 ≡ divb (pos g) (pos w)
mask-test {g} w p = ap (λ (n : ℕ). eqb n 0) (ap (λ (n : ℕ). bit_and w (n - 1)) p.is ∙ and_mask w p.e ∙ ap (λ (n : ℕ). w % n) (sym p.is))

-- ---- the quick way and the old one agree
pub quick-divides : (g : ℕ) (t : Form) (v : Assignment) → quick_divides g t v ≡ divb (pos g) (value t v)
unfolding quick_divides
quick-divides g t v = go (power g) refl
  where
    go : (b : Bool) → power g ≡ b → cond b (divb (pos g) (pos (word_value t v))) (divb (pos g) (value t v)) ≡ divb (pos g) (value t v)
    go true e = ap (λ (w : ℕ). divb (pos g) (pos w)) (value-word t v) ∙ word-divides (power-true 30 g e) (value t v)
    go false e = refl

pub quick-judge : (I : Formula) (v : Assignment) → quick_judge I v ≡ judge I v
unfolding quick_judge judge
quick-judge (literal k t) v = refl
quick-judge (g divides t) v = quick-divides g t v
quick-judge (I and J) v = ap₂ ◌&&◌ (quick-judge I v) (quick-judge J v)
quick-judge (I or J) v = ap₂ ◌||◌ (quick-judge I v) (quick-judge J v)
