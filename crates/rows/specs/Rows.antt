-- What the rows that make a line leave: the answer, and the branch with the new line. Assumes nothing.
use Rattle.std.specs.declared.result.Result as code
use Rattle.std.specs.Prelude.{◌≡◌, Ok, Err, List, ℕ, ◌+◌, ◌≤◌, ◌<◌, ℤ}
use Rattle.integers.specs.Magnitude.{Within}
use Rattle.forms.specs.Edition.{edition, multiplier_range}
use Rattle.forms.specs.Forms.{Line, line, ◌⊞◌, ◌·◌}
use Rattle.forms.specs.Flat.{kind_of}
use Rattle.calculus.specs.Rules as rules
use Rattle.answers.specs.declared.Answer.{Answer}
use Rattle.answers.specs.declared.refusals.Refusal.{Refusal}
use Rattle.answers.specs.Refusals.{number_of}
use Rattle.answers.specs.Answers.{Result, refused, accepted, ◌>>=◌, ◌>>◌}
use Rattle.proof.specs.Rows.{derived, fitting}
use Rattle.proof.specs.Check.{Closing}
use Rattle.lines.specs.Buffer.{line_in, lines_in}
use Rattle.lines.specs.Ready.{Limited, LinesKept}
use Rattle.tally.specs.Tally.{more_lines}
use Rattle.tally.specs.declared.Tally.{Tally}

-- Factors and lines of a branch of n lines, and the kind of a line that rows make.
pub record Operands (n : ℕ) (f : ℤ) (i : ℕ) (g : ℤ) (j kind : ℕ) : Type 0 where
  pub plain : kind ≤ 1
  pub f_in : Within multiplier_range f
  pub first : i < n
  pub g_in : Within multiplier_range g
  pub second : j < n

-- f times line i plus g times line j.
abbrev pub sum_of : (K : ℕ) (kinds : List ℕ) (buf : List ℤ) (f : ℤ) (i : ℕ) (g : ℤ) (j kind : ℕ) → Line
sum_of K kinds buf f i g j kind =
    line (kind_of kind)
    (f · (line_in K kinds buf i).t ⊞ g · (line_in K kinds buf j).t)
    (f · (line_in K kinds buf i).t_A ⊞ g · (line_in K kinds buf j).t_A)

-- The branch has the line l more, within all limits.
pub record Grown (K : ℕ) (t : Tally) (l : Line) (kinds' : List ℕ) (buf' : List ℤ) (t' : Tally) : Type 0 where
  pub last : line_in K kinds' buf' t.lines.0 ≡ l
  pub limited : Limited t.edition K buf' (t.lines.0 + 1)
  pub tally : t' ≡ more_lines t

abbrev pub AppendedBy : (K : ℕ) (kinds : List ℕ) (buf : List ℤ) (t : Tally) (l : Line) (kinds' : List ℕ) (buf' : List ℤ) → code.Result Tally Refusal → Type 0
AppendedBy K kinds buf t l kinds' buf' (Err r) = (refusal : ℕ → Answer) → fitting refusal (lines_in K kinds buf t.lines.0) (edition t.edition) l ≡ refused (refusal (number_of r))
AppendedBy K kinds buf t l kinds' buf' (Ok t') =
    ((refusal : ℕ → Answer) → fitting refusal (lines_in K kinds buf t.lines.0) (edition t.edition) l ≡ accepted tt) × Grown K t l kinds' buf' t'

pub record Appended (K : ℕ) (kinds : List ℕ) (buf : List ℤ) (t : Tally) (f : ℤ) (i : ℕ) (g : ℤ) (j kind : ℕ) (kinds' : List ℕ) (buf' : List ℤ) (r : code.Result Tally Refusal) : Type 0 where
  pub kept : LinesKept K t.lines.0 kinds buf kinds' buf'
  pub by : AppendedBy K kinds buf t (sum_of K kinds buf f i g j kind) kinds' buf' r

-- A row 0x10 to 0x12 of a proof of edition e and what follows it, as `check_row` has it; `refusal` gives the refusal by a number at this row.
abbrev pub followed : (e : ℕ) (refusal : ℕ → Answer) → List Line → rules.Inference → (Line → Result Closing) → Result Closing
followed e refusal ls s next = derived refusal ls s >>= λ l. (fitting refusal ls (edition e) l >> next l)

abbrev pub DerivedBy : (K : ℕ) (kinds : List ℕ) (buf : List ℤ) (t : Tally) (s : rules.Inference) (kinds' : List ℕ) (buf' : List ℤ) → code.Result Tally Refusal → Type 0
DerivedBy K kinds buf t s kinds' buf' (Err r) =
    (refusal : ℕ → Answer) (next : Line → Result Closing) → followed t.edition refusal (lines_in K kinds buf t.lines.0) s next ≡ refused (refusal (number_of r))
DerivedBy K kinds buf t s kinds' buf' (Ok t') =
    ((refusal : ℕ → Answer) (next : Line → Result Closing)
    → followed t.edition refusal (lines_in K kinds buf t.lines.0) s next ≡ next (line_in K kinds' buf' t.lines.0))
    × Limited t.edition K buf' (t.lines.0 + 1) × (t' ≡ more_lines t)

pub record Derives (K : ℕ) (kinds : List ℕ) (buf : List ℤ) (t : Tally) (s : rules.Inference) (kinds' : List ℕ) (buf' : List ℤ) (r : code.Result Tally Refusal) : Type 0 where
  pub kept : LinesKept K t.lines.0 kinds buf kinds' buf'
  pub by : DerivedBy K kinds buf t s kinds' buf' r
