-- What the check program prints. docs/FORMAT.md, "One stage, byte by byte". Assumes nothing.
use Rattle.std.specs.Prelude.{ℕ, ◌≤◌, ◌≡◌, List, take}
use Rattle.answers.specs.Answers.{Written}
use Rattle.files.specs.Text.{RefusedLine}
use Rattle.answer_text.specs.Lines.{AcceptedLines}

-- s is what is printed of what a check leaves: the bytes written, or the number, file and place of its refusal
pub record Printed (w : Written) (s : List ℕ) : Type 0 where
  pub if-accepted : w.answer.number ≡ 0 → AcceptedLines (take w.count w.output) s
  pub if_refused : 1 ≤ w.answer.number → RefusedLine w.answer.number w.answer.file w.answer.place s
