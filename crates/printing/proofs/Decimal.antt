-- Decimal numbers. Assumes nothing.
use mathlib.Core.Path.{◌≡◌, refl, sym, ap, ◌∙◌}
use mathlib.Core.Bool.{Bool, true, false}
use mathlib.Core.List.{List, [], ◌∷◌, ◌++◌, append_assoc}
use mathlib.Core.Option.{some}
use Prim.Native.Nat.{ℕ, zero, suc, ◌+◌, ◌*◌, ◌-◌, ◌/◌, ◌%◌, ◌^◌, ◌≤◌, ◌<◌}
use native.Mathlib.Nat.{pow-zero, pow-succ'}
use native.Mathlib.Omega.{arith}
use lib.Dec.{ltb}
use lib.ListN.{length, length-append}
use borrow.Author.Tests.{ltb-true, ltb-false, le-leb, lt-ltb, le-ltb, ne_eqb}
use Rattle.printing.specs.Text.{decimal_by, decimal}
use Rattle.printing.specs.Reading.{digit, digits_from, read_number}

-- as much fuel as it takes, or more
enough : (f g n : ℕ) → n < f → n < g → decimal_by f n ≡ decimal_by g n
unfolding decimal_by
enough zero g n h k = absurd (omega arith)
enough (suc f) zero n h k = absurd (omega arith)
enough (suc f) (suc g) n h k = go (ltb n 10) refl (enough f g (n / 10))
  where
    go : (b : Bool) → ltb n 10 ≡ b → (n / 10 < f → n / 10 < g → decimal_by f (n / 10) ≡ decimal_by g (n / 10)) → decimal_by (suc f) n ≡ decimal_by (suc g) n
    go true e ih = rw e
    go false e ih =
        let l : 10 ≤ n = ltb-false n 10 e in
        let p : decimal_by f (n / 10) ≡ decimal_by g (n / 10) = ih (omega arith) (omega arith) in
        rw (e, p)

-- a number of one digit, and a longer one
pub decimal-short : {n : ℕ} → n < 10 → decimal n ≡ (48 + n) ∷ []
unfolding decimal decimal_by
decimal-short {n} h = rw (lt-ltb n 10 h)

pub decimal-long : {n : ℕ} → 10 ≤ n → decimal n ≡ decimal (n / 10) ++ ((48 + n % 10) ∷ [])
unfolding decimal decimal_by
decimal-long {n} h = rw (le-ltb n 10 h) (ap (λ (l : List ℕ). l ++ ((48 + n % 10) ∷ [])) (enough n (suc (n / 10)) (n / 10) (omega arith) (omega arith)))

-- ---- read back
abbrev pub starts_digit : List ℕ → Bool
starts_digit [] = false
starts_digit (b ∷ bs) = digit b

digits-end : (n : ℕ) (rest : List ℕ) → starts_digit rest ≡ false → digits_from n rest ≡ (n, rest)
unfolding digits_from
digits-end n [] h = refl
digits-end n (c ∷ rest) h = rw h

digit-of : (d : ℕ) → d < 10 → digit (48 + d) ≡ true
unfolding digit
digit-of d h = rw (le-leb 48 (48 + d) (omega arith), le-leb (48 + d) 57 (omega arith))

one-digit : (n d : ℕ) (rest : List ℕ) → d < 10 → digits_from n ((48 + d) ∷ rest) ≡ digits_from (n * 10 + d) rest
unfolding digits_from
one-digit n d rest h = let e : (48 + d) - 48 ≡ d = omega arith in rw (digit-of d h, e)

-- (below a bound on the number, so that the induction goes down)
digits-back : (f n : ℕ) (rest : List ℕ) → n < f → digits_from 0 (decimal n ++ rest) ≡ digits_from n rest
digits-back zero n rest h = absurd (omega arith)
digits-back (suc f) n rest h = go (ltb n 10) refl (digits-back f (n / 10))
  where
    go : (b : Bool) → ltb n 10 ≡ b → ((rest : List ℕ) → n / 10 < f → digits_from 0 (decimal (n / 10) ++ rest) ≡ digits_from (n / 10) rest)
        → digits_from 0 (decimal n ++ rest) ≡ digits_from n rest
    go true e ih =
        let l : n < 10 = ltb-true n 10 e in
        let z : 0 * 10 + n ≡ n = omega arith in
        rw (decimal-short {n = n} l, one-digit 0 n rest l, z)
    go false e ih =
        let l : 10 ≤ n = ltb-false n 10 e in
        let z : n / 10 * 10 + n % 10 ≡ n = omega arith in
        rw (decimal-long {n = n} l, append_assoc (decimal (n / 10)) ((48 + n % 10) ∷ []) rest, ih ((48 + n % 10) ∷ rest) (omega arith), one-digit (n / 10) (n % 10) rest (omega arith), z)

-- it starts with a digit
pub record Digits (s : List ℕ) : Type 0 where
  pub first : ℕ
  pub more : List ℕ
  pub is : s ≡ first ∷ more
  pub low : 48 ≤ first
  pub high : first < 58

-- which is 0 only where the number is
starts_by : (f n : ℕ) → n < f → 1 ≤ n → (d : Digits (decimal n)) × (49 ≤ d.first)
starts_by zero n h k = absurd (omega arith)
starts_by (suc f) n h k = go (ltb n 10) refl (starts_by f (n / 10))
  where
    go : (b : Bool) → ltb n 10 ≡ b → (n / 10 < f → 1 ≤ n / 10 → (d : Digits (decimal (n / 10))) × (49 ≤ d.first)) → (d : Digits (decimal n)) × (49 ≤ d.first)
    go true e ih = let l : n < 10 = ltb-true n 10 e in (record { first = 48 + n; more = []; is = decimal-short l; low = omega arith; high = omega arith }, omega arith)
    go false e ih =
        let l : 10 ≤ n = ltb-false n 10 e in
        let x = ih (omega arith) (omega arith) in
        let d = x.0 in
        (record { first = d.first; more = d.more ++ ((48 + n % 10) ∷ []); is = decimal-long l ∙ ap (λ (s : List ℕ). s ++ ((48 + n % 10) ∷ [])) d.is; low = d.low; high = d.high }, x.1)

pub starts : (n : ℕ) → Digits (decimal n)
starts zero = record { first = 48; more = []; is = decimal-short (omega arith); low = omega arith; high = omega arith }
starts (suc n) = (starts_by (suc (suc n)) (suc n) (omega arith) (omega arith)).0

read-zero : (rest : List ℕ) → read_number (48 ∷ rest) ≡ some (0, rest)
unfolding read_number
read-zero rest = refl

read-digit : (b : ℕ) (bs : List ℕ) → 49 ≤ b → b < 58 → read_number (b ∷ bs) ≡ some (digits_from 0 (b ∷ bs))
unfolding read_number digit
read-digit b bs h k = rw (ne_eqb b 48 (λ e. omega arith), le-leb 48 b (omega arith), le-leb b 57 (omega arith))

pub number-ends : (n : ℕ) (rest : List ℕ) → starts_digit rest ≡ false → read_number (decimal n ++ rest) ≡ some (n, rest)
number-ends zero rest h = rw (decimal-short {n = 0} (omega arith)) (read-zero rest)
number-ends (suc n) rest h =
    let x : (d : Digits (decimal (suc n))) × (49 ≤ d.first) = starts_by (suc (suc n)) (suc n) (omega arith) (omega arith) in
    let d = x.0 in
    let e : decimal (suc n) ++ rest ≡ d.first ∷ (d.more ++ rest) = rw d.is in
    ap read_number e ∙ read-digit d.first (d.more ++ rest) x.1 d.high
    ∙ ap some (ap (digits_from 0) (sym e) ∙ digits-back (suc (suc n)) (suc n) rest (omega arith) ∙ digits-end (suc n) rest h)

pub number-back : (n c : ℕ) (rest : List ℕ) → digit c ≡ false → read_number (decimal n ++ (c ∷ rest)) ≡ some (n, c ∷ rest)
number-back n c rest h = number-ends n (c ∷ rest) h

-- ---- how many digits
pub few : (k n : ℕ) → n < 10 ^ suc k → length (decimal n) ≤ suc k
few zero n h = rw (decimal-short {n = n} (omega (arith, pow-succ' 10 0, pow-zero 10))) (omega arith)
few (suc k) n h = go (ltb n 10) refl (few k (n / 10))
  where
    go : (b : Bool) → ltb n 10 ≡ b → (n / 10 < 10 ^ suc k → length (decimal (n / 10)) ≤ suc k) → length (decimal n) ≤ suc (suc k)
    go true e ih = rw (decimal-short {n = n} (ltb-true n 10 e)) (omega arith)
    go false e ih = rw (decimal-long {n = n} (ltb-false n 10 e)) (simp length-append (omega (arith, ih (omega (arith, pow-succ' 10 (suc k))))))
