-- A branch in the buffer and its next line: what the row that makes it leaves. Assumes nothing.
use mathlib.Core.Path.{◌≡◌, refl, ◌∙◌, ap}
use mathlib.Core.List.{List}
use Prim.Native.Nat.{ℕ, zero, suc, ◌*◌, ◌<◌, ◌≤◌}
use native.Mathlib.Omega.{arith}
use lib.IntN.{ℤ}
use lib.ListN.{length, get_or, set}
use lib.Seq.{get_or-set_same}
use Rattle.forms.specs.Forms.{≤0, =0, plain, Line}
use Rattle.calculus.specs.Rules.{◌▷◌}
use Rattle.lines.specs.Parts.{Agree}
use Rattle.forms.specs.Flat.{kind_of, line_kind_of}
use Rattle.lines.specs.Buffer.{size, line_in, lines_in}
use Rattle.lines.proofs.Lines.{lines_more}

-- ---- kinds by their bytes
pub inequality-byte : kind_of 0 ≡ ≤0
unfolding kind_of
inequality-byte = refl

pub equality-byte : kind_of 1 ≡ =0
unfolding kind_of
equality-byte = refl

-- ---- the kinds of line that rows make, by their bytes
pub plain_byte : (b : ℕ) → b ≤ 1 → line_kind_of b ≡ plain (kind_of b)
unfolding line_kind_of
plain_byte zero h = refl
plain_byte (suc zero) h = refl
plain_byte (suc (suc b)) h = absurd (omega arith)

-- The kind that a store of 0 or 1 at n gives line n.
pub plain-stored : (kinds : List ℕ) (n b : ℕ) → n < length kinds → b ≤ 1 → line_kind_of (get_or (set kinds n b) n 0) ≡ plain (kind_of b)
plain-stored kinds n b h l = ap line_kind_of (get_or-set_same kinds n b 0 h) ∙ plain_byte b l

-- ---- one line more
-- buf' and kinds' keep the first n lines, and l is line n.
pub lines_next : (K : ℕ) {n : ℕ} {buf buf' : List ℤ} {kinds kinds' : List ℕ} → Agree (n * size K) buf buf' → Agree n kinds kinds' → {l : Line} → line_in K kinds' buf' n ≡ l
    → lines_in K kinds' buf' (suc n) ≡ lines_in K kinds buf n ▷ l
lines_next K {n} {buf} {buf'} {kinds} a k e = lines_more K n a k ∙ ap (λ (l : Line). lines_in K kinds buf n ▷ l) e
