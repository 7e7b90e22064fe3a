-- Which tags are notes. Assumes nothing.
use mathlib.Core.Logic.{◌↔◌}
use Prim.Native.Nat.{ℕ, ◌≤◌}
use lib.Dec.{T, leb→le, le→leb}
use Rattle.fields.specs.Fields.{note}

-- Tags 0x80 to 0xFF are notes, and no others.
pub note-tags : (tag : ℕ) → T (note tag) ↔ 0x80 ≤ tag
unfolding note
note-tags tag = (leb→le 0x80 tag, le→leb 0x80 tag)
