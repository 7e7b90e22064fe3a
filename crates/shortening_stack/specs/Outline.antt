-- What shortening takes of a row or a claim, beside the entry. Assumes nothing.
use Rattle.std.specs.Prelude.{◌≡◌, cond, List, ℕ, ◌+◌, ◌≤◌, eqb, leb, length, take, drop}
use Rattle.calculus.specs.Rules.{Combine, Reduce, Scale, Derive, Strengthen, Round, Split, CloseNumber, CloseStride, Entry, row, claim}
use Rattle.number_bytes.specs.Numbers.{unsigned}
use Rattle.shortening_stack.specs.declared.Class.{Class}
use Rattle.shortening_stack.specs.declared.Class.TheVariants.{Makes, Branches, Closes, Claims}
use Rattle.shortening_stack.specs.declared.Outline.{Outline}

abbrev pub outline : (class : Class) (first second come : ℕ) → Outline
outline c s t n = record { class = c; first = s; second = t; come = n }

-- By the entry,
abbrev pub outline_of : Entry → Outline
outline_of (row (Derive (Combine s t _ _))) = outline Makes s t 0
outline_of (row (Derive (Reduce s t _))) = outline Makes s t 0
outline_of (row (Derive (Scale t _))) = outline Makes t t 0
outline_of (row (Strengthen t)) = outline Branches t t 2
outline_of (row (CloseNumber t)) = outline Closes t t 0
outline_of (row (CloseStride t _)) = outline Closes t t 0
outline_of (row (Round t _ k)) = outline Branches t t k
outline_of (row (Split t)) = outline Branches t t 1
outline_of (claim _ _) = outline Claims 0 0 0

-- and by the tag and the bytes that the contents begin with; a line number has w.
abbrev pub row_by : (tag first second come : ℕ) → Outline
row_by tag first second come =
    cond (leb tag 0x11) (outline Makes first second 0)
    (cond (eqb tag 0x12) (outline Makes first first 0)
    (cond (eqb tag 0x13) (outline Branches first first 2)
    (cond (eqb tag 0x16) (outline Branches first first come)
    (cond (eqb tag 0x17) (outline Branches first first 1) (outline Closes first first 0)))))

abbrev pub outline_by : (w tag : ℕ) → List ℕ → Outline
outline_by w tag bs = cond (eqb tag 0x20) (outline Claims 0 0 0) (row_by tag (unsigned (take w bs)) (unsigned (take w (drop w bs))) (unsigned (take 2 (drop (w + 2) bs))))

-- The numbers that are read stand there.
pub record LaidBy (p : List ℕ) (tag start w : ℕ) : Type 0 where
  pub one : ¬ (tag ≡ 0x20) → start + w ≤ length p
  pub two : tag ≤ 0x11 → start + w + w ≤ length p
  pub rounding : tag ≡ 0x16 → start + w + 4 ≤ length p
