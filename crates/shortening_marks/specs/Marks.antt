-- One mark a line, and the report, as the code goes over the rows from the last to the first. Assumes nothing.
use Rattle.std.specs.Prelude.{◌≡◌, Bool, false, ◌&&◌, ◌||◌, List, [], ◌∷◌, ℕ, zero, suc, ◌+◌, ◌≤◌, ◌<◌, eqb, length, get_or, set}
use Rattle.std.proofs.lemmas.List.Edits.{sets}
use Rattle.shortening.specs.Needed.{mark_of}
use Rattle.shortening.specs.Passes.{Backward, cleared, branching, closing}
use Rattle.shortening_stack.specs.declared.Class.{Class}
use Rattle.shortening_stack.specs.declared.Class.TheVariants.{Makes, Branches}
use Rattle.shortening_stack.specs.declared.Outline.{Outline}
use Rattle.shortening_marks.specs.declared.GatheredRow.{GatheredRow}

-- The array has the marks m.
pub record Marking (marks : List ℕ) (m : ℕ → Bool) : Type 0 where
  pub at : (j : ℕ) → j < length marks → get_or marks j 0 ≡ mark_of (m j)

-- A row that makes line n out of the lines s and t, by its own mark.
abbrev pub made_marks : (own : ℕ) → List ℕ → (n s t : ℕ) → List ℕ
made_marks zero marks n s t = set marks n 0
made_marks (suc own) marks n s t = set (set (set marks n 0) s 1) t 1

-- A row makes line n, branches on line s with the new line n, or closes line s.
abbrev pub row_marks : Class → List ℕ → (n s t : ℕ) → List ℕ
row_marks Makes marks n s t = made_marks (get_or marks n 0) marks n s t
row_marks Branches marks n s t = set (set marks n 0) s 1
row_marks _ marks n s t = set marks s 1

abbrev pub row_said : Class → List ℕ → (n : ℕ) → ℕ
row_said Makes marks n = get_or marks n 0
row_said _ marks n = 2

-- What stands where no row is gathered.
abbrev pub no_row : GatheredRow
no_row = record { class = Makes; lines = 0; first = 0; second = 0 }

-- A row of this outline with so many lines before it.
abbrev pub row_of : Outline → (lines : ℕ) → GatheredRow
row_of x lines = record { class = x.class; lines = lines; first = x.first; second = x.second }

pub record MarkedRow (marks : List ℕ) (row : GatheredRow) (marks' : List ℕ) (reported : ℕ) : Type 0 where
  pub marks_are : marks' ≡ row_marks row.class marks row.lines row.first row.second
  pub reported_is : reported ≡ row_said row.class marks row.lines

-- The same over the marks as a function.
abbrev pub making2 : (s t n : ℕ) → Backward → Backward
making2 s t n b = record { marks = λ j. ((eqb j s || eqb j t) && b.marks n) || cleared n b.marks j; reported = mark_of (b.marks n) ∷ b.reported }

abbrev pub row_back : Class → (n s t : ℕ) → Backward → Backward
row_back Makes n s t b = making2 s t n b
row_back Branches n s t b = branching s n b
row_back _ n s t b = closing s b

abbrev pub row_in : GatheredRow → Backward → Backward
row_in row b = row_back row.class row.lines row.first row.second b

-- So many rows from row r on.
abbrev pub back_in : (gathered : List GatheredRow) (left r : ℕ) → Backward
back_in gathered zero r = record { marks = λ j. false; reported = [] }
back_in gathered (suc left) r = row_in (get_or gathered r no_row) (back_in gathered left (suc r))

-- The rows are there, their lines have marks, and the report has room; no line is marked yet.
pub record Markable (gathered : List GatheredRow) (rows : ℕ) (marks report : List ℕ) : Type 0 where
  pub gathered_room : rows ≤ length gathered
  pub report-room : rows ≤ length report
  pub below : (r : ℕ) → r < rows → (get_or gathered r no_row).lines < length marks
  pub none : Marking marks (λ j. false)

-- The rows from r on are gone over: the marks that they leave, and their report.
pub record MarkedFrom (gathered : List GatheredRow) (rows r : ℕ) (marks₀ report₀ marks report : List ℕ) : Type 0 where
  pub left : ℕ
  pub left_is : r + left ≡ rows
  pub marking : Marking marks (back_in gathered left r).marks
  pub reported : report ≡ sets report₀ r (back_in gathered left r).reported
  pub marks_length : length marks ≡ length marks₀
