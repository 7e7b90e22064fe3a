-- Where 16 stands: at the first row that would make a line too many, told by the tags before it and a rounding's k. docs/FORMAT.md, "The order of tests", "Bytes and fields" and "Turning into the other edition". Of what the function check ensures. Assumes nothing.
use Rattle.std.specs.Prelude.{◌≡◌, Bool, true, false, List, [], ◌∷◌, ℕ, zero, suc, ◌+◌, ◌≤◌, ◌<◌, length}
use Rattle.std.proofs.Math.Option.{Option, none, some}
use Rattle.forms.specs.Edition.{newest_edition}
use Rattle.forms.specs.Forms.{Constraint}
use Rattle.answers.specs.declared.WriteResult.{WriteResult}
use Rattle.fields.specs.Fields.{Field, Fields, ◌▸◌, fields}
use Rattle.bundle.specs.Layout.{BundleFile, Says}
use Rattle.proof.specs.Entries.{EntryTag, combine_tag, reduce_tag, scale_tag, strengthen_tag, number_tag, stride_tag, round_tag, split_tag, claim_tag, entry_tagged}
use Rattle.proof.specs.Tree.{rounding_of}
use Rattle.proof.specs.Promises.{Checks}

-- A branching step that is open: how many of its branches are still to come, and how many lines there were at its row.
pub record StepLines : Type 0 where
  pub left : ℕ
  pub lines : ℕ

abbrev pub step_lines : (left lines : ℕ) → StepLines
step_lines left lines = record { left = left; lines = lines }

-- How many lines the branch has, and the steps that are open, the innermost first.
pub record BranchLines : Type 0 where
  pub lines : ℕ
  pub steps : List StepLines

abbrev pub branch_lines : (lines : ℕ) → List StepLines → BranchLines
branch_lines lines steps = record { lines = lines; steps = steps }

-- The lines made in a branch go when it is closed: the next branch of the innermost step that has one left starts with the lines at that step's row and its own new one. (Behind the root's close there is no branch.)
unfoldable pub lines_after_close : List StepLines → BranchLines
lines_after_close [] = branch_lines 0 []
lines_after_close (s ∷ ss) = elim s.left [ zero ↦ lines_after_close ss | suc n ↦ branch_lines (suc s.lines) (step_lines n s.lines ∷ ss) ]

-- The lines behind a field of these contents: a row 0x10 to 0x12 makes one, a branching step one on each of its branches, of which a strengthen has two more behind the first, a rounding k, a split one.
unfoldable pub lines_behind : Option EntryTag → (contents : List ℕ) → BranchLines → BranchLines
lines_behind none bs c = c
lines_behind (some combine_tag) bs c = branch_lines (suc c.lines) c.steps
lines_behind (some reduce_tag) bs c = branch_lines (suc c.lines) c.steps
lines_behind (some scale_tag) bs c = branch_lines (suc c.lines) c.steps
lines_behind (some strengthen_tag) bs c = branch_lines (suc c.lines) (step_lines 2 c.lines ∷ c.steps)
lines_behind (some number_tag) bs c = lines_after_close c.steps
lines_behind (some stride_tag) bs c = lines_after_close c.steps
lines_behind (some round_tag) bs c = branch_lines (suc c.lines) (step_lines (rounding_of bs) c.lines ∷ c.steps)
lines_behind (some split_tag) bs c = branch_lines (suc c.lines) (step_lines 1 c.lines ∷ c.steps)
lines_behind (some claim_tag) bs c = c

-- Whether it needs room for a line.
unfoldable pub needs_room : Option EntryTag → Bool
needs_room none = false
needs_room (some combine_tag) = true
needs_room (some reduce_tag) = true
needs_room (some scale_tag) = true
needs_room (some strengthen_tag) = true
needs_room (some number_tag) = false
needs_room (some stride_tag) = false
needs_room (some round_tag) = true
needs_room (some split_tag) = true
needs_room (some claim_tag) = false

-- The place of the first of these fields that would make a line more than the most; before them the branch had the lines c.
pub data TooManyLines (most : ℕ) : BranchLines → Fields → (place : ℕ) → Type 0 where
  here : {c : BranchLines} (f : Field) {fs : Fields} {place : ℕ} → needs_room (entry_tagged f.tag) ≡ true → most ≤ c.lines → place ≡ f.at → TooManyLines most c (f ▸ fs) place
  past : {c : BranchLines} (f : Field) {fs : Fields} {place : ℕ} → (needs_room (entry_tagged f.tag) ≡ true → c.lines < most) → TooManyLines most (lines_behind (entry_tagged f.tag) f.contents c) fs place
      → TooManyLines most c (f ▸ fs) place

-- 16 stands at the row that would make the 129th line of its branch in a proof of edition 1, the 1,001st in one of edition 2. (Its row, step and branch: `InTree`.)
pub record LinesCounted : Type 0 where
  pub check_16 : (A B proof output left : List ℕ) (r : WriteResult) → Checks A B proof output left r → r.answer.number ≡ 16
      → (n_A n_B K : ℕ) (a b : List Constraint) → BundleFile newest_edition A n_A K a → BundleFile newest_edition B n_B K b
      → (Says proof 1 → TooManyLines 128 (branch_lines (length a + length b) []) (fields proof) r.answer.place)
      × (Says proof 2 → TooManyLines 1_000 (branch_lines (length a + length b) []) (fields proof) r.answer.place)
