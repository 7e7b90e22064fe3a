-- The rows by their numbers: which block a number lies in, and bounds. Assumes nothing.
use mathlib.Core.Path.{◌≡◌, refl, ◌∙◌, ap, subst}
use mathlib.Core.Bool.{Bool}
use mathlib.Core.List.{List}
use Prim.Native.Nat.{ℕ, ◌-◌, ◌*◌, ◌≤◌, ◌<◌}
use native.Mathlib.Omega.{arith}
use borrow.Author.Tests.{lt-ltb, le-ltb}
use lib.IntN.{ℤ}
use Rattle.calculus.specs.Rules.{Inference, Row, CloseNumber, CloseStride}
use Rattle.enumeration.specs.Numbering.{combine_at, reduce_at, scale_at, inference_at, close_at}
use Rattle.tally.specs.declared.Tally.{Tally}
use Rattle.rows.specs.Rows.{Derives}
use Rattle.std.specs.declared.result.Result as code
use Rattle.std.specs.Prelude.{Ok, Err, is_ok}
use Rattle.answers.specs.declared.refusals.Refusal.{Refusal}
use Rattle.closes.specs.Closing.{ByNumber, Test}
use Rattle.closes.specs.Striding.{ByStride}
use Rattle.enumeration_rows.specs.Applied.{tally_of, Infers, CloseHolds}
use Rattle.enumeration_rows.proofs.Inferred.{made-tally, number-holds, stride_holds}

-- ---- where a number lies
module _ (n j : ℕ) where
  pub is-combine : j < 4 * n * n → inference_at n j ≡ combine_at n j
  unfolding inference_at
  is-combine h = rw (lt-ltb j (4 * n * n) h)

  pub is-reduce : 4 * n * n ≤ j → j < 2 * (4 * n * n) → inference_at n j ≡ reduce_at n (j - 4 * n * n)
  unfolding inference_at
  is-reduce h l = rw (le-ltb j (4 * n * n) h, lt-ltb j (2 * (4 * n * n)) l)

  pub is-scale : 4 * n * n ≤ j → 2 * (4 * n * n) ≤ j → inference_at n j ≡ scale_at (j - 2 * (4 * n * n))
  unfolding inference_at
  is-scale h l = rw (le-ltb j (4 * n * n) h, le-ltb j (2 * (4 * n * n)) l)

-- ---- the line of inference j is made, or not
pub infers-by : {K n j : ℕ} {kinds : List ℕ} {buf : List ℤ} {kinds' : List ℕ} {buf' : List ℤ} {b : Bool} (r : code.Result Tally Refusal) {t : Tally} {s : Inference} → b ≡ is_ok r → t ≡ tally_of n → s ≡ inference_at n j
    → Derives K kinds buf t s kinds' buf' r → Infers K n j kinds buf kinds' buf' b
infers-by {K} {n} {j} {kinds} {buf} {kinds'} {buf'} {b} r {t} {s} e p q d = go r e (subst (λ (t : Tally). Derives K kinds buf t (inference_at n j) kinds' buf' r) p (subst (λ (s : Inference). Derives K kinds buf t s kinds' buf' r) q d))
  where
    go : (r : code.Result Tally Refusal) → b ≡ is_ok r → Derives K kinds buf (tally_of n) (inference_at n j) kinds' buf' r → Infers K n j kinds buf kinds' buf' b
    go (Ok u) e d = record { derived = Ok u; derives = d; made = λ _. ap Ok (made-tally refl d refl); refused = λ f. absurd (let z : ◌≡◌ {A = ℕ} 0 1 = cc in omega arith) }
    go (Err x) e d = record { derived = Err x; derives = d; made = λ f. absurd (let z : ◌≡◌ {A = ℕ} 0 1 = cc in omega arith); refused = λ _. (x, refl) }

-- ---- closes
module _ {K l : ℕ} {kinds : List ℕ} {buf : List ℤ} {b : Bool} where
  other_row : {s s' : Row} → s ≡ s' → CloseHolds K kinds buf l s b → CloseHolds K kinds buf l s' b
  other_row e d = subst (λ (s : Row). CloseHolds K kinds buf l s b) e d

module _ {K : ℕ} {kinds : List ℕ} {buf : List ℤ} {t : Tally} {b : Bool} where
  pub number-held : {r : Test} {c l n : ℕ} → ByNumber K kinds buf t l r → l ≡ c → b ≡ is_ok r → t ≡ tally_of n → c < n → CloseHolds K kinds buf n (close_at n c) b
  unfolding close_at
  number-held {c = c} {n = n} h e q p l = subst (λ (t : Tally). CloseHolds K kinds buf t.lines.0 (close_at n c) b) p (other_row (ap (λ (c : ℕ). CloseNumber c) e ∙ rw (lt-ltb c n l)) (number-holds h q))

  pub stride-held : {r : Test} {i j : ℕ} {g : ℕ} → ByStride K kinds buf t j g r → j ≡ i → b ≡ is_ok r → CloseHolds K kinds buf t.lines.0 (CloseStride i g) b
  stride-held {g = g} h e q = other_row (ap (λ (i : ℕ). CloseStride i g) e) (stride_holds h q)
