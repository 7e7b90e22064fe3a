-- The text of a proposition, in ASCII. Assumes nothing.
use Rattle.std.specs.Prelude.{ℕ, zero, suc, ◌+◌, ◌/◌, ◌%◌, Bool, true, false, List, [], ◌∷◌, ◌++◌, ltb}
use Prim.Native.Char.{code}
use Prim.Native.String.{String, [] as []ˢ, ◌∷◌ as ◌∷ˢ◌}
use Rattle.printing.specs.Smt.{Term, Terms, Prop, numeral, register, minus, times, modulo, plus, final, also, at_most, equals, conj, disj}

-- the codes of a text's characters
abbrev pub ascii : String → List ℕ
ascii []ˢ = []
ascii (c ∷ˢ s) = code c ∷ ascii s

-- The one where a test is passed, the other where not.
abbrev pub whether : {Y : Type 0} → Bool → (Unit {0} → Y) → (Unit {0} → Y) → Y
whether true f g = f tt
whether false f g = g tt

-- A number in decimal, with no zero in front. (`fuel` bounds the digits; a number has no more than one for each unit.)
unfoldable pub decimal_by : (fuel : ℕ) → ℕ → List ℕ
decimal_by zero n = []
decimal_by (suc fuel) n = whether (ltb n 10) (λ _. (48 + n) ∷ []) (λ _. decimal_by fuel (n / 10) ++ ((48 + n % 10) ∷ []))

unfoldable pub decimal : ℕ → List ℕ
decimal n = decimal_by (suc n) n

unfoldable mutual
  unfolding decimal

  pub term_text : Term → List ℕ
  term_text (numeral n) = decimal n
  term_text (register i) = ascii "r" ++ decimal i
  term_text (minus t) = ascii "(- " ++ term_text t ++ ascii ")"
  term_text (times s t) = ascii "(* " ++ term_text s ++ ascii " " ++ term_text t ++ ascii ")"
  term_text (modulo t n) = ascii "(mod " ++ term_text t ++ ascii " " ++ decimal n ++ ascii ")"
  term_text (plus ts) = ascii "(+" ++ terms_text ts ++ ascii ")"

  -- each behind a space
  pub terms_text : Terms → List ℕ
  terms_text (final t) = ascii " " ++ term_text t
  terms_text (also t ts) = ascii " " ++ term_text t ++ terms_text ts

unfoldable pub prop_text : Prop → List ℕ
unfolding term_text
prop_text (at_most s t) = ascii "(<= " ++ term_text s ++ ascii " " ++ term_text t ++ ascii ")"
prop_text (equals s t) = ascii "(= " ++ term_text s ++ ascii " " ++ term_text t ++ ascii ")"
prop_text (conj p q) = ascii "(and " ++ prop_text p ++ ascii " " ++ prop_text q ++ ascii ")"
prop_text (disj p q) = ascii "(or " ++ prop_text p ++ ascii " " ++ prop_text q ++ ascii ")"
