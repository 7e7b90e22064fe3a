-- The entries of a branch, by how the code finds that they end. docs/FORMAT.md, "The order of tests". Assumes nothing.
use Rattle.std.specs.declared.result.Result as code
use Rattle.std.specs.Prelude.{◌≡◌, Ok, Err, List, ℕ, suc, ◌+◌, ◌≤◌, ℤ}
use Rattle.std.proofs.Math.Option.{Option, none}
use Rattle.forms.specs.Edition.{edition}
use Rattle.calculus.specs.Rules as rules
use Rattle.answers.specs.declared.Position.{Position}
use Rattle.answers.specs.declared.refusals.Refusal.{Refusal}
use Rattle.answers.specs.Refusals.{fault, number_of}
use Rattle.forms.specs.declared.RowNumber.{RowNumber}
use Rattle.fields.specs.declared.End.{End}
use Rattle.answers.specs.Answers.{refusal_at, Result, refused}
use Rattle.fields.specs.Places.{fields_at, unread_bytes}
use Rattle.proof.specs.Check.{Closing, Checker, check_row, check_entries}
use Rattle.lines.specs.Buffer.{lines_in}
use Rattle.lines.specs.Ready.{Ready, LinesKept}
use Rattle.tally.specs.declared.Tally.{Tally}
use Rattle.branches.specs.Spare.{lines_left}
use Rattle.branches.specs.declared.branch.BranchFault.{BranchFault}
use Rattle.branches.specs.declared.branch.Ending.{Ending}
use Rattle.branches.specs.declared.branch.Stop.{Stop}

-- The entries from a place on, in a branch of the tally's lines at a position, where no claim may stand first.
abbrev pub entries_from : (K : ℕ) (p : List ℕ) (at : ℕ) (kinds : List ℕ) (buf : List ℤ) (t : Tally) (here : Position) (deeper : Option Checker) → Result Closing
entries_from K p at kinds buf t here deeper = check_entries (edition t.edition) K here deeper (fields_at p at) t.rows.0 none (lines_in K kinds buf t.lines.0)

-- They come to a row, by its number, at a, with the lines that there are then; each line more, and the row itself, took the bytes of a line, and the row's field has four at least.
pub record Comes (K : ℕ) (p : List ℕ) (at : ℕ) (kinds : List ℕ) (buf : List ℤ) (t : Tally) (kinds' : List ℕ) (buf' : List ℤ) (row : rules.Row) (number a next : ℕ) (t' : Tally) : Type 0 where
  pub rows_is : t'.rows.0 ≡ number + 1
  pub is : (here : Position) (deeper : Option Checker)
      → entries_from K p at kinds buf t here deeper
      ≡ check_row (edition t.edition) K deeper (check_entries (edition t.edition) K here deeper (fields_at p next)) (refusal_at here number a) number (lines_in K kinds' buf' t'.lines.0) (fields_at p next) row
  pub ready : Ready t.edition K kinds' buf' t'.lines.0
  pub from : t.lines.0 ≤ t'.lines.0
  pub open_is : t'.«open» ≡ t.«open»
  pub edition_is : t'.edition ≡ t.edition
  pub few : t'.lines.0 + suc (lines_left t.edition p next) ≤ t.lines.0 + lines_left t.edition p at
  pub unread : unread_bytes p next + 4 ≤ unread_bytes p at

-- The row of line i.
abbrev pub row_of : Ending → (i : ℕ) → rules.Row
row_of Ending.Strengthens i = rules.Strengthen i
row_of Ending.ClosesNumber i = rules.CloseNumber i
row_of (Ending.ClosesStride g) i = rules.CloseStride i g
row_of (Ending.Rounds g by) i = rules.Round i g by
row_of Ending.Splits i = rules.Split i

-- The branch is not closed where its fields end.
abbrev pub unclosed : End → RowNumber → Position → BranchFault
unclosed (End.Cut at) rows here = record { fault = fault Refusal.Truncated at; rows = rows; position = here }
unclosed (End.Ends at) rows here = record { fault = fault Refusal.BranchesOpen at; rows = rows; position = here }

-- The entries of a branch at a position are refused, as they are at any other, or they come to a row.
abbrev pub StoppedBy : (K : ℕ) (p : List ℕ) (at : ℕ) (here : Position) (kinds : List ℕ) (buf : List ℤ) (t : Tally) (kinds' : List ℕ) (buf' : List ℤ) → code.Result Stop BranchFault → Type 0
StoppedBy K p at here kinds buf t kinds' buf' (Err f) =
    (f.position ≡ here)
    × ((other : Position) (deeper : Option Checker) → entries_from K p at kinds buf t other deeper ≡ refused (refusal_at other f.rows.0 f.fault.place (number_of f.fault.refusal)))
StoppedBy K p at here kinds buf t kinds' buf' (Ok s) = Comes K p at kinds buf t kinds' buf' (row_of s.ending s.t.0) s.row.0 s.at s.next s.tally

pub record Stopped (K : ℕ) (p : List ℕ) (at : ℕ) (here : Position) (kinds : List ℕ) (buf : List ℤ) (t : Tally) (kinds' : List ℕ) (buf' : List ℤ) (r : code.Result Stop BranchFault) : Type 0 where
  pub kept : LinesKept K t.lines.0 kinds buf kinds' buf'
  pub by : StoppedBy K p at here kinds buf t kinds' buf' r
