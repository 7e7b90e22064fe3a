-- A loop that writes the list s into l from index d on, one element a turn: its invariant, and the laws of a turn. Assumes nothing.
use mathlib.Core.Path.{◌≡◌, sym, ◌∙◌, ap, ap₂}
use mathlib.Core.List.{List}
use Prim.Native.Nat.{ℕ, ◌+◌, ◌<◌, ◌≤◌}
use native.Mathlib.Numerals.{add-one}
use native.Mathlib.Omega.{arith}
use lib.ListN.{length, get_or, set}
use lib.Seq.{paste, paste-zero, paste-suc, length-paste}
use Rattle.lines.proofs.Parts.{agree-get_d, agree-paste}

-- m is l with the first j elements of s from d on.
pub record Filled {A : Type 0} (l : List A) (d : ℕ) (s m : List A) (j : ℕ) : Type 0 where
  pub is : m ≡ paste l d s j
  pub upto : j ≤ length s

module _ {A : Type 0} {l : List A} {d : ℕ} {s : List A} where
  pub filled_none : Filled l d s l 0
  filled_none = record { is = paste-zero l d s; upto = omega arith }

  module _ {m : List A} {j : ℕ} (room : d + length s ≤ length l) (v : Filled l d s m j) where
    pub filled-length : length m ≡ length l
    filled-length = ap length v.is ∙ length-paste l d s j (omega arith) v.upto

    -- Before d nothing has changed.
    pub filled-before : (k : ℕ) (z : A) → k < d → get_or m k z ≡ get_or l k z
    filled-before k z h = ap (λ (x : List A). get_or x k z) v.is ∙ sym (agree-get_d (agree-paste d l d s j (omega arith) (omega arith)) k z h)

    pub filled_next : (x z : A) → x ≡ get_or s j z → j < length s → Filled l d s (set m (d + j) x) (j + 1)
    filled_next x z e h = record {
      is = ap₂ (λ (y : List A) (u : A). set y (d + j) u) v.is e ∙ paste-suc l d s j z (omega arith) h ∙ ap (λ (n : ℕ). paste l d s n) (sym (add-one j));
      upto = omega arith;
    }
