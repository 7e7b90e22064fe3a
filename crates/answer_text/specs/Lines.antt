-- The lines that the check program prints. docs/FORMAT.md, "One stage, byte by byte". Assumes nothing.
use Rattle.std.specs.Prelude.{ℕ, ◌+◌, ◌*◌, ◌≤◌, ◌≡◌, List, ◌++◌, length}
use Rattle.files.specs.Text.{Put, Decimal, RefusedLine, ascii, hex_of}

-- s is two lines: the word and how many bytes there are, then their capital hexadecimal digits
pub record AcceptedLines (bytes s : List ℕ) : Type 0 where
  pub count_text : List ℕ
  pub count_is : Decimal (length bytes) count_text
  pub is : s ≡ ascii "accepted " ++ count_text ++ ascii "\n" ++ hex_of bytes ++ ascii "\n"

-- s is what is printed of an answer: the bytes written, or the number, file and place of a refusal
pub record AnswerLines (number file place : ℕ) (bytes s : List ℕ) : Type 0 where
  pub if-accepted : number ≡ 0 → AcceptedLines bytes s
  pub if_refused : 1 ≤ number → RefusedLine number file place s

-- as `Put` at 0, of the lines of an acceptance, which have 31 bytes at most beside the digits of the bytes
pub record PutAccepted (was bytes is : List ℕ) (r : ℕ) : Type 0 where
  pub lines : List ℕ
  pub acceptance : AcceptedLines bytes lines
  pub few : length lines ≤ length bytes * 2 + 31
  pub put : Put was 0 lines is r
