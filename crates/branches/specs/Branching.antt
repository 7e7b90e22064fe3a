-- A branch and the branches it opens, by the answers of the code. docs/FORMAT.md, "Proof" and "The order of tests". Assumes nothing.
use Rattle.std.specs.declared.result.Result as code
use Rattle.std.specs.Prelude.{Ok, Err, ◌≡◌, List, ℕ, ◌+◌, ◌-◌, ◌*◌, ◌<◌, ◌≤◌, ℤ, length, get_or, T}
use Rattle.std.proofs.lemmas.List.Edits.{sets}
use Rattle.forms.specs.Edition.{edition, edition1}
use Rattle.forms.specs.Forms.{Formula}
use Rattle.calculus.specs.Rules.{in_range}
use Rattle.answers.specs.declared.Answer.{Answer}
use Rattle.answers.specs.declared.Position.{Position}
use Rattle.answers.specs.declared.refusals.Refusal.{Refusal}
use Rattle.answers.specs.Refusals.{fault, number_of}
use Rattle.answers.specs.Answers.{refusal_at, Result, refused, accepted}
use Rattle.fields.specs.Places.{fields_at, unread_bytes}
use Rattle.formula.specs.Formula.{encode}
use Rattle.formula_write.specs.Writing.{scratch_limit}
use Rattle.proof.specs.Check.{Closing, Checker, check_branch}
use Rattle.lines.specs.Buffer.{line_in, lines_in}
use Rattle.lines.specs.Ready.{Ready, LinesKept}
use Rattle.tally.specs.Tally.{returned_to}
use Rattle.tally.specs.declared.Tally.{Tally}
use Rattle.openings.specs.Opening.{Branching, start_of, Longer, from_branch, all_rounded}
use Rattle.openings.specs.Splitting.{owner_of, raised_by, negated_of, both_of}
use Rattle.branches.specs.Spare.{lines_left, Spare}
use Rattle.branches.specs.declared.branch.BranchFault.{BranchFault}
use Rattle.branches.specs.declared.branch.Closed.{Closed}
use Rattle.branches.specs.declared.branch.Stop.{Stop}

-- ---- the whole branch
-- The branch that is closed, or why it is not.
abbrev pub Branched : Type 0
Branched = code.Result Closed BranchFault

-- What a refusal is told as.
abbrev pub answer_of : BranchFault → Answer
answer_of f = refusal_at f.position f.rows.0 f.fault.place (number_of f.fault.refusal)

-- The row that the entries come to is refused at a position.
abbrev pub refused_row : Stop → Position → Refusal → BranchFault
refused_row s here w = record { fault = fault w s.at; rows = s.row; position = here }

-- It closes the branch, whose formula ends at o.
abbrev pub closed_by : Stop → (o : ℕ) (given : Tally) → Closed
closed_by s o given = record { at = s.next; o = o; tally = returned_to s.tally given }

-- The branch goes on where the branches that it opened end.
abbrev pub resumed_by : Closed → (given : Tally) → Closed
resumed_by c given = record { at = c.at; o = c.o; tally = returned_to c.tally given }

-- What a byte of the proof adds to the formula at most. A close by number has four bytes in its field, one by stride has six, and their formulas 71 and 75; where such a branch is one of a
-- rounding, 81 more stand before its formula: the stride part Ej and the heads of an or and an and. Every closed branch keeps these 81 back, and a rounding gives them to its branches.
abbrev pub per_byte : ℕ
per_byte = 39

abbrev pub kept_back : ℕ
kept_back = 81

-- What a branch asks: its lines, room for those that the bytes that are left may make, and that what is written, with what the bytes that are left may add, keeps its limit.
pub record Started (K : ℕ) (kinds : List ℕ) (buf : List ℤ) (t : Tally) (p : List ℕ) (at o : ℕ) : Type 0 where
  pub ready : Ready t.edition K kinds buf t.lines.0
  pub spare : Spare t.edition K (t.lines.0 + lines_left t.edition p at) kinds buf
  pub room : o + per_byte * unread_bytes p at ≤ scratch_limit

-- R, from `at` on, accepts a formula, whose bytes stand from o on if there is room for them; the fields go on at a. It keeps `back` bytes back.
pub record Closes (back : ℕ) (R : Result Closing) (p : List ℕ) (at : ℕ) (t : Tally) (a : ℕ) (scratch : List ℕ) (o o' : ℕ) (scratch' : List ℕ) (t' : Tally) : Type 0 where
  pub formula : Formula
  pub is : R ≡ accepted (record { formula = formula; rows = t'.rows.0; after = fields_at p a })
  pub o_is : o' ≡ o + length (encode edition1 formula)
  pub stored : o + length (encode edition1 formula) ≤ length scratch → scratch' ≡ sets scratch o (encode edition1 formula)
  pub within : o' + back + per_byte * unread_bytes p a ≤ o + per_byte * unread_bytes p at
  pub unread : unread_bytes p a < unread_bytes p at
  pub lines_is : t'.lines.0 ≡ t.lines.0
  pub open_is : t'.«open» ≡ t.«open»
  pub edition_is : t'.edition ≡ t.edition

abbrev pub BranchedBy : (back : ℕ) (R : Result Closing) (p : List ℕ) (at : ℕ) (t : Tally) (scratch : List ℕ) (o : ℕ) (scratch' : List ℕ) → Branched → Type 0
BranchedBy back R p at t scratch o scratch' (Err f) = R ≡ refused (answer_of f)
BranchedBy back R p at t scratch o scratch' (Ok c) = Closes back R p at t c.at scratch o c.o scratch' c.tally

-- R is checked from the n first lines on, which are kept.
pub record BranchChecked (back : ℕ) (R : Result Closing) (K n : ℕ) (p : List ℕ) (at : ℕ) (kinds : List ℕ) (buf : List ℤ) (t : Tally) (scratch : List ℕ) (o : ℕ)
    (kinds' : List ℕ) (buf' : List ℤ) (scratch' : List ℕ) (r : Branched) : Type 0 where
  pub kept : LinesKept K n kinds buf kinds' buf'
  pub long : length scratch' ≡ length scratch
  pub by : BranchedBy back R p at t scratch o scratch' r

-- What checks the branches behind the tally's open steps.
abbrev pub deeper : (K : ℕ) → Tally → Checker
deeper K t = check_branch (edition t.edition) K (edition1.branchings - t.«open»)

abbrev pub ChecksBranch : (K : ℕ) (p : List ℕ) (at : ℕ) (here : Position) (kinds : List ℕ) (buf : List ℤ) (t : Tally) (scratch : List ℕ) (o : ℕ)
    (kinds' : List ℕ) (buf' : List ℤ) (scratch' : List ℕ) (r : Branched) → Type 0
ChecksBranch K p at here kinds buf t scratch o kinds' buf' scratch' r =
    BranchChecked kept_back (deeper K t here t.rows.0 (lines_in K kinds buf t.lines.0) (fields_at p at)) K t.lines.0 p at kinds buf t scratch o kinds' buf' scratch' r

-- ---- the branches that a row opens, behind n lines
-- What they ask, where the first one starts with line i, t + x with tA + y: their own line comes behind the n lines, and the step that opened them is counted.
pub record Opened (K n x y : ℕ) (kinds : List ℕ) (buf : List ℤ) (t : Tally) (i : ℕ) (p : List ℕ) (at o : ℕ) : Type 0 where
  pub ready : Ready t.edition K kinds buf n
  pub spare : Spare t.edition K (n + 1 + lines_left t.edition p at) kinds buf
  pub room : o + kept_back + per_byte * unread_bytes p at ≤ scratch_limit
  pub line : i < n
  pub space : n < (edition t.edition).lines
  pub lines_is : t.lines.0 ≡ n + 1
  pub small : T (in_range edition1.range (start_of x y (line_in K kinds buf i)))

-- The first branch's line stands behind the n lines.
abbrev pub FirstStands : (e K n x y : ℕ) (kinds : List ℕ) (buf : List ℤ) (i : ℕ) → Type 0
FirstStands e K n x y kinds buf i = Longer e K kinds buf n (start_of x y (line_in K kinds buf i)) kinds buf

-- What `branching` checks of them.
abbrev pub OpenedChecked : (back : ℕ) (branching : Branching) (K step n : ℕ) (p : List ℕ) (at : ℕ) (kinds : List ℕ) (buf : List ℤ) (t : Tally) (i : ℕ) (scratch : List ℕ) (o : ℕ)
    (kinds' : List ℕ) (buf' : List ℤ) (scratch' : List ℕ) (r : Branched) → Type 0
OpenedChecked back branching K step n p at kinds buf t i scratch o kinds' buf' scratch' r =
    BranchChecked back (branching (deeper K t) (lines_in K kinds buf n) (line_in K kinds buf i) step t.rows.0 (fields_at p at)) K n p at kinds buf t scratch o kinds' buf' scratch' r

-- All branches of a rounding; and those from j on, which keep back the head of an or only.
abbrev pub RoundingChecked : (K step n : ℕ) (p : List ℕ) (at : ℕ) (kinds : List ℕ) (buf : List ℤ) (t : Tally) (i g by : ℕ) (scratch : List ℕ) (o : ℕ)
    (kinds' : List ℕ) (buf' : List ℤ) (scratch' : List ℕ) (r : Branched) → Type 0
RoundingChecked K step n p at kinds buf t i g by scratch o kinds' buf' scratch' r =
    OpenedChecked kept_back (all_rounded g by) K step n p at kinds buf t i scratch o kinds' buf' scratch' r

abbrev pub RoundedChecked : (K step n : ℕ) (p : List ℕ) (at : ℕ) (kinds : List ℕ) (buf : List ℤ) (t : Tally) (i g by j : ℕ) (scratch : List ℕ) (o : ℕ)
    (kinds' : List ℕ) (buf' : List ℤ) (scratch' : List ℕ) (r : Branched) → Type 0
RoundedChecked K step n p at kinds buf t i g by j scratch o kinds' buf' scratch' r =
    OpenedChecked 3 (from_branch g by j) K step n p at kinds buf t i scratch o kinds' buf' scratch' r

-- ---- a split
-- What its branches ask: the first one's line stands, and the second one's is within the range.
pub record SplitOpened (K n : ℕ) (kinds : List ℕ) (buf : List ℤ) (t : Tally) (i : ℕ) (p : List ℕ) (at o : ℕ) : Type 0 where
  pub opened : Opened K n 1 (raised_by (get_or kinds i 0)) kinds buf t i p at o
  pub stands : FirstStands t.edition K n 1 (raised_by (get_or kinds i 0)) kinds buf i
  pub second : T (in_range edition1.range (negated_of 1 (raised_by (get_or kinds i 0)) (line_in K kinds buf i)))

abbrev pub SplitChecked : (K step n : ℕ) (p : List ℕ) (at : ℕ) (kinds : List ℕ) (buf : List ℤ) (t : Tally) (i : ℕ) (scratch : List ℕ) (o : ℕ)
    (kinds' : List ℕ) (buf' : List ℤ) (scratch' : List ℕ) (r : Branched) → Type 0
SplitChecked K step n p at kinds buf t i scratch o kinds' buf' scratch' r =
    OpenedChecked kept_back (both_of (owner_of (get_or kinds i 0))) K step n p at kinds buf t i scratch o kinds' buf' scratch' r
