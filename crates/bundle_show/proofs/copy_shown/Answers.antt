-- `bundle_show::copy_shown` meets its contract: the part that `show` hands back is copied where it fits. Assumes nothing.
use mathlib.Core.Path.{◌≡◌, refl, ap, ◌∙◌}
use mathlib.Core.List.{List, ◌++◌}
use Prim.Native.Nat.{ℕ, ◌+◌, ◌≤◌, ◌<◌}
use native.Mathlib.Omega.{arith}
use lib.ListN.{length, take, drop}
use lib.Seq.{sets, sets-eq, take_all}
use Rattle.answers.specs.Answers.{over}
use Rattle.bundle_show.specs.Copied.{Copied}
use borrow.Author.Rules.{rules}
use Rattle.bundle_show.proofs.copy_shown.Goals as goal

module _ {part p : List ℕ} (was : List ℕ) (e : p ≡ part) where
  kept : length was < length p → Copied part was was (length p)
  kept h = record { size = ap length e; fits = λ k. absurd (omega (arith, ap length e)); stays = λ _. refl }

  -- (All of p, from its start.)
  over-front : (n : ℕ) → n ≡ length p → n ≤ length was → sets was 0 (take n (drop 0 p)) ≡ p ++ drop (length p) was
  over-front n f h =
      let all : take n p ≡ p = take_all n p (omega arith) in
      let z : 0 + length p ≡ length p = omega arith in
      rw all (sets-eq p was 0 (omega arith) ∙ rw z)

  copied : {is : List ℕ} → length p ≤ length was → is ≡ sets was 0 (take (length p) (drop 0 p)) → Copied part was is (length p)
  unfolding over
  copied h i = let q = i ∙ over-front (length p) refl h in record { size = ap length e; fits = λ _. q ∙ ap (λ (l : List ℕ). l ++ drop (length l) was) e; stays = λ k. absurd (omega (arith, ap length e)) }

pub returns-then-out-n : goal.returns-then-out-n
returns-then-out-n c = kept _ c.show-part.ensures.bytes (search rules)

pub returns : goal.returns
returns c = copied _ c.show-part.ensures.bytes (search rules) c.copy_bytes.ensures
