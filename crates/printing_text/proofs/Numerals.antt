-- Decimal numbers: the library's digits are the definition's. Assumes nothing.
use Rattle.std.proofs.Common.{◌≡◌, ℕ, ◌/◌, ◌%◌, ◌^◌, ◌+◌, ◌≤◌, ◌<◌, List, [], ◌∷◌, ◌++◌, ap, ◌∙◌, arith}
use Rattle.std.specs.Fmt.{decimal as digits}
use Rattle.std.proofs.lemmas.Fmt.{decimal_by_steps}
use Rattle.printing.specs.Smt.{register}
use Rattle.printing.specs.Text.{decimal, term_text}
use Rattle.printing.proofs.Decimal.{decimal-short, decimal-long}

pub digits_are : (n : ℕ) → n < 2 ^ 64 → decimal n ≡ digits n
digits_are n h = decimal_by_steps (λ (m : ℕ) (ds : List ℕ). decimal m ≡ ds) (λ m few. decimal-short few) (λ m ds many e. decimal-long many ∙ ap (λ (l : List ℕ). l ++ ((48 + m % 10) ∷ [])) e) n h

pub one-digit : {n : ℕ} → n < 10 → (48 + n % 10) ∷ [] ≡ decimal n
one-digit {n} h = let m : n % 10 ≡ n = omega arith in rw (decimal-short {n = n} h, m)

-- ---- registers
pub register-short : (i : ℕ) → i < 10 → 114 ∷ (48 + i % 10) ∷ [] ≡ term_text (register i)
unfolding term_text
register-short i h = let m : i % 10 ≡ i = omega arith in rw (decimal-short {n = i} h, m)

pub register-long : (i : ℕ) → 10 ≤ i → i < 100 → 114 ∷ (48 + i / 10 % 10) ∷ (48 + i % 10) ∷ [] ≡ term_text (register i)
unfolding term_text
register-long i h k =
    let l : i / 10 < 10 = omega arith in
    let m : i / 10 % 10 ≡ i / 10 = omega arith in
    rw (decimal-long {n = i} h, decimal-short {n = i / 10} l, m)
