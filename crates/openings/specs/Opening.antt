-- The rows that open branches, strengthen and rounding: what their tests tell, and the lines that the branches start with. Assumes nothing.
use Rattle.std.specs.declared.result.Result as code
use Rattle.std.specs.Prelude.{Ok, Err, ◌≡◌, Bool, List, ℕ, zero, suc, ◌+◌, ◌-◌, ◌<◌, ◌≤◌, T, ℤ, set}
use Rattle.std.proofs.Math.Option.{Option, none, some}
use Rattle.forms.specs.Edition.{edition, edition1}
use Rattle.forms.specs.Forms.{≤0, =0, Line, line, Formula, ◌divides◌, ◌and◌, ◌or◌, ◌plus◌}
use Rattle.forms.specs.Reduced.{reduced}
use Rattle.calculus.specs.Rules as rules
use Rattle.calculus.specs.Rules.{◌▷◌, in_range}
use Rattle.answers.specs.declared.Answer.{Answer}
use Rattle.answers.specs.declared.refusals.Refusal.{Refusal}
use Rattle.answers.specs.Refusals.{number_of}
use Rattle.answers.specs.Answers.{position, Result, refused, accepted, ◌>>=◌, ◌>>◌, found}
use Rattle.fields.specs.Fields.{Fields}
use Rattle.formula_write.specs.Writing.{Stores, front_bytes}
use Rattle.proof.specs.Rows.{fitting, roundable}
use Rattle.proof.specs.Check.{Closing, Checker, Following, check_row, check_rounded, check_branch}
use Rattle.lines.specs.Buffer.{line_in, lines_in, LineStart, started_line}
use Rattle.lines.specs.Ready.{Limited, LinesKept}
use Rattle.tally.specs.Tally.{tally}
use Rattle.tally.specs.declared.Tally.{Tally}
use Rattle.closes.specs.Closing.{Test}

-- What checks the branches that a branch opens in a proof of edition e, if so many more may be open.
abbrev pub below : (e K : ℕ) (room : ℕ) → Option Checker
below e K zero = none
below e K (suc room) = some (check_branch (edition e) K room)

-- A closing, and one of the fields behind it, as one.
abbrev pub joining : (Formula → Formula → Formula) → Closing → Closing → Closing
joining make x y = record { formula = make x.formula y.formula; rows = y.rows; after = y.after }

abbrev pub in_turn : (Formula → Formula → Formula) → Result Closing → (ℕ → Fields → Result Closing) → Result Closing
in_turn make first second = first >>= λ x. (second x.rows x.after >>= λ y. accepted (joining make x y))

-- The lines that branches of line l start with: t + x ≤ 0 with tA + y, and in the middle branch of a strengthen t = 0 with tA.
abbrev pub start_of : (x y : ℕ) → Line → Line
start_of x y l = line ≤0 (l.t plus x) (l.t_A plus y)

abbrev pub middle_of : Line → Line
middle_of l = line =0 l.t l.t_A

abbrev pub third_of : Line → Line
third_of l = line ≤0 (l.t plus 1) l.t_A

-- ---- the branches that are checked once a row is opened; `step` is its row number, and there were `rows` rows before them
abbrev pub Branching : Type 0
Branching = (branch : Checker) (ls : List Line) (l : Line) (step rows : ℕ) (fs : Fields) → Result Closing

-- The second branch of a strengthen and its third, and all three.
abbrev pub last_two : Branching
last_two branch ls l step rows fs = in_turn ◌and◌ (branch (position step 1) rows (ls ▷ middle_of l) fs) (λ rows fs. branch (position step 2) rows (ls ▷ third_of l) fs)

abbrev pub three : Branching
three branch ls l step rows fs = in_turn ◌or◌ (branch (position step 0) rows (ls ▷ start_of 1 1 l) fs) (λ rows fs. last_two branch ls l step rows fs)

-- The branches of a rounding from j on, and all of them.
abbrev pub from_branch : (g by j : ℕ) → Branching
from_branch g by j branch ls l step rows fs = check_rounded branch ls l step g by j (by - suc j) rows fs

abbrev pub all_rounded : (g by : ℕ) → Branching
all_rounded g by branch ls l step rows fs = in_turn ◌or◌ (branch (position step 0) rows (ls ▷ start_of by by l) fs) (λ rows fs. from_branch g by 0 branch ls l step rows fs)

-- ---- opening them
-- The tally behind a row, or the refusal.
abbrev pub Opening : Type 0
Opening = code.Result Tally Refusal

-- The branch of n lines, in a proof of edition e, has the line l more.
pub record Longer (e K : ℕ) (kinds : List ℕ) (buf : List ℤ) (n : ℕ) (l : Line) (kinds' : List ℕ) (buf' : List ℤ) : Type 0 where
  pub kept : LinesKept K n kinds buf kinds' buf'
  pub limited : Limited e K buf' (n + 1)
  pub lines : lines_in K kinds' buf' (n + 1) ≡ lines_in K kinds buf n ▷ l
  pub small : T (in_range edition1.range l)

-- 17, 16, 13, and then what is checked deeper.
abbrev pub opening : (K : ℕ) (kinds : List ℕ) (buf : List ℤ) (t : Tally) (first : Line) (refusal : ℕ → Answer) (rest : Checker → Result Closing) → Result Closing
opening K kinds buf t first refusal rest =
    found (refusal 17) (below t.edition K (edition1.branchings - t.«open»)) >>= λ checker. (fitting refusal (lines_in K kinds buf t.lines.0) (edition t.edition) first >> rest checker)

-- The first branch's line, line i with t + x and tA + y, stands behind the others, and the step is counted.
pub record FirstLineStands (K : ℕ) (kinds : List ℕ) (buf : List ℤ) (t : Tally) (i x y : ℕ) (kinds' : List ℕ) (buf' : List ℤ) (t' : Tally) : Type 0 where
  pub longer : Longer t.edition K kinds buf t.lines.0 (start_of x y (line_in K kinds buf i)) kinds' buf'
  pub tally_is : t' ≡ tally t.edition t.rows.0 (t.lines.0 + 1) (t.«open» + 1)
  pub start : LineStart K buf i t.lines.0 x y
  pub open_less : t.«open» < edition1.branchings

abbrev pub OpenedBy : (K : ℕ) (kinds : List ℕ) (buf : List ℤ) (t : Tally) (i x y : ℕ) (kinds' : List ℕ) (buf' : List ℤ) → Opening → Type 0
OpenedBy K kinds buf t i x y kinds' buf' (Err r) =
    (refusal : ℕ → Answer) (rest : Checker → Result Closing) → opening K kinds buf t (start_of x y (line_in K kinds buf i)) refusal rest ≡ refused (refusal (number_of r))
OpenedBy K kinds buf t i x y kinds' buf' (Ok t') =
    ((refusal : ℕ → Answer) (rest : Checker → Result Closing) → opening K kinds buf t (start_of x y (line_in K kinds buf i)) refusal rest ≡ rest (check_branch (edition t.edition) K (edition1.branchings - (t.«open» + 1))))
    × FirstLineStands K kinds buf t i x y kinds' buf' t'

pub record Opens (K : ℕ) (kinds : List ℕ) (buf : List ℤ) (t : Tally) (i x y : ℕ) (kinds' : List ℕ) (buf' : List ℤ) (r : Opening) : Type 0 where
  pub kept : LinesKept K t.lines.0 kinds buf kinds' buf'
  pub by : OpenedBy K kinds buf t i x y kinds' buf' r

-- ---- a row with its own tests, and then its branches
abbrev pub row_opened : (K : ℕ) (kinds : List ℕ) (buf : List ℤ) (t : Tally) (row : rules.Row) (next : Following) (refusal : ℕ → Answer) (rows : ℕ) (fs : Fields) → Result Closing
row_opened K kinds buf t row next refusal rows fs = check_row (edition t.edition) K (below t.edition K (edition1.branchings - t.«open»)) next refusal rows (lines_in K kinds buf t.lines.0) fs row

abbrev pub RowOpenedBy : (row : rules.Row) (branching : Branching) (K : ℕ) (kinds : List ℕ) (buf : List ℤ) (t : Tally) (i x y : ℕ) (kinds' : List ℕ) (buf' : List ℤ) → Opening → Type 0
RowOpenedBy row branching K kinds buf t i x y kinds' buf' (Err r) =
    (next : Following) (refusal : ℕ → Answer) (rows : ℕ) (fs : Fields) → row_opened K kinds buf t row next refusal rows fs ≡ refused (refusal (number_of r))
RowOpenedBy row branching K kinds buf t i x y kinds' buf' (Ok t') =
    ((next : Following) (refusal : ℕ → Answer) (rows : ℕ) (fs : Fields) → row_opened K kinds buf t row next refusal rows fs
    ≡ branching (check_branch (edition t.edition) K (edition1.branchings - (t.«open» + 1))) (lines_in K kinds buf t.lines.0) (line_in K kinds buf i) rows (suc rows) fs)
    × FirstLineStands K kinds buf t i x y kinds' buf' t'

-- A row whose first branch starts with line i, t + x with tA + y, is refused, or its branches are what `branching` checks.
pub record RowOpens (row : rules.Row) (branching : Branching) (K : ℕ) (kinds : List ℕ) (buf : List ℤ) (t : Tally) (i x y : ℕ) (kinds' : List ℕ) (buf' : List ℤ) (r : Opening) : Type 0 where
  pub kept : LinesKept K t.lines.0 kinds buf kinds' buf'
  pub by : RowOpenedBy row branching K kinds buf t i x y kinds' buf' r

abbrev pub StrengthenOpens : (K : ℕ) (kinds : List ℕ) (buf : List ℤ) (t : Tally) (i : ℕ) (kinds' : List ℕ) (buf' : List ℤ) (r : Opening) → Type 0
StrengthenOpens K kinds buf t i kinds' buf' r = RowOpens (rules.Strengthen i) three K kinds buf t i 1 1 kinds' buf' r

-- ---- a rounding
-- A stride and what is rounded by, within their limits.
pub record RoundsBy (g by : ℕ) : Type 0 where
  pub stride : 2 ≤ g
  pub least : 1 ≤ by
  pub most : by ≤ edition1.rounding

-- Its own tests: the refusal at this row, whatever that is by its number, or its line.
abbrev pub RoundableBy : (K : ℕ) (kinds : List ℕ) (buf : List ℤ) (t : Tally) (i g by : ℕ) → Test → Type 0
RoundableBy K kinds buf t i g by (Err x) = (refusal : ℕ → Answer) → roundable refusal (lines_in K kinds buf t.lines.0) (edition t.edition) i g by ≡ refused (refusal (number_of x))
RoundableBy K kinds buf t i g by (Ok _) =
    ((refusal : ℕ → Answer) → roundable refusal (lines_in K kinds buf t.lines.0) (edition t.edition) i g by ≡ accepted (line_in K kinds buf i)) × (i < t.lines.0) × RoundsBy g by

pub record Roundable (K : ℕ) (kinds : List ℕ) (buf : List ℤ) (t : Tally) (i g more : ℕ) (r : Test) : Type 0 where
  pub by : RoundableBy K kinds buf t i g more r

pub record RoundOpens (K : ℕ) (kinds : List ℕ) (buf : List ℤ) (t : Tally) (i g by : ℕ) (kinds' : List ℕ) (buf' : List ℤ) (r : Opening) : Type 0 where
  pub opens : RowOpens (rules.Round i g by) (all_rounded g by) K kinds buf t i by by kinds' buf' r
  pub sizes : (t' : Tally) → r ≡ Ok t' → RoundsBy g by

-- Ej of a rounding of line l: g divides tA + j, reduced.
abbrev pub stride_part : (g j : ℕ) → Line → Formula
stride_part g j l = g divides reduced g (l.t_A plus j)

-- The branch of j starts: its line stands as line n, and what stands before its formula from o on.
pub record RoundedStarts (K i n g by j : ℕ) (others : Bool) (kinds : List ℕ) (buf : List ℤ) (scratch : List ℕ) (o : ℕ) (kinds' : List ℕ) (buf' : List ℤ) (scratch' : List ℕ) (o' : ℕ) : Type 0 where
  pub line : buf' ≡ started_line K i n by j buf
  pub kind : kinds' ≡ set kinds n 0
  pub front : Stores scratch o (front_bytes others (stride_part g j (line_in K kinds buf i))) scratch' o'
