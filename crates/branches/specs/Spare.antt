-- The room that a branch asks for: each row takes bytes of the proof, and makes one line at most. Assumes nothing.
use Rattle.std.specs.Prelude.{List, ℕ, ◌+◌, ◌*◌, ◌/◌, ◌≤◌, ◌<◌, ℤ, length}
use Rattle.forms.specs.Edition.{edition}
use Rattle.fields.specs.Places.{unread_bytes}
use Rattle.lines.specs.Buffer.{size}

-- The most lines that the bytes from a place on may make in a proof of edition e: a row has its tag, its length and a line number at least.
abbrev pub lines_left : (e : ℕ) (p : List ℕ) (at : ℕ) → ℕ
lines_left e p at = unread_bytes p at / (3 + (edition e).line_width)

-- A branch of a proof of edition e may come to have c lines, but never more than the limit: with each count of them the buffers have room for one more.
pub record Spare (e K c : ℕ) (kinds : List ℕ) (buf : List ℤ) : Type 0 where
  pub room : (n : ℕ) → n ≤ (edition e).lines → n ≤ c → n * size K + size K ≤ length buf
  pub kinds_room : (n : ℕ) → n ≤ (edition e).lines → n ≤ c → n < length kinds
