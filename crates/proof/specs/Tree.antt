-- Where in the tree a refusal stands, told from the fields before it: by their tags, and by a rounding's k. docs/FORMAT.md, "Where in the tree". Assumes nothing.
use Rattle.std.specs.Prelude.{◌≡◌, ◌⊎◌, true, false, List, [], ◌∷◌, ℕ, suc, ◌-◌, eqb, length, drop}
use Rattle.std.proofs.Math.Option.{Option, none, some}
use Rattle.answers.specs.declared.Answer.{Answer}
use Rattle.answers.specs.declared.Position.{Position}
use Rattle.answers.specs.Answers.{position, root, answer, refusal_at, file_proof}
use Rattle.number_bytes.specs.Numbers.{unsigned}
use Rattle.fields.specs.Fields.{Field, Fields, ends, cut, ◌▸◌, fields}
use Rattle.proof.specs.Entries.{EntryTag, combine_tag, reduce_tag, scale_tag, strengthen_tag, number_tag, stride_tag, round_tag, split_tag, claim_tag, entry_tagged}

-- A branching step that is open: its row number with the branch that is open, and the number of its last branch.
pub record OpenStep : Type 0 where
  pub at : Position
  pub last : ℕ

abbrev pub open_step : (step branch last : ℕ) → OpenStep
open_step step branch last = record { at = position step branch; last = last }

-- How many rows there were, and the steps that are open, the innermost first.
pub record Tree : Type 0 where
  pub rows : ℕ
  pub steps : List OpenStep

abbrev pub tree : (rows : ℕ) → List OpenStep → Tree
tree rows steps = record { rows = rows; steps = steps }

-- A close goes on to the innermost step's next branch; if that was its last, the step is closed, and with it a branch of the step around it.
unfoldable pub after_close : List OpenStep → List OpenStep
after_close [] = []
after_close (s ∷ ss) = elim (eqb s.at.branch s.last) [ true ↦ after_close ss | false ↦ open_step s.at.step.0 (suc s.at.branch) s.last ∷ ss ]

-- k of a rounding: the last two bytes of its field.
unfoldable pub rounding_of : (contents : List ℕ) → ℕ
rounding_of bs = unsigned (drop (length bs - 2) bs)

-- The tree behind a field of these contents. A strengthen has the branches 0 to 2, a rounding by k those from 0 to k, a split 0 and 1. A claim is no row.
unfoldable pub tree_behind : Option EntryTag → (contents : List ℕ) → Tree → Tree
tree_behind none bs t = t
tree_behind (some combine_tag) bs t = tree (suc t.rows) t.steps
tree_behind (some reduce_tag) bs t = tree (suc t.rows) t.steps
tree_behind (some scale_tag) bs t = tree (suc t.rows) t.steps
tree_behind (some strengthen_tag) bs t = tree (suc t.rows) (open_step t.rows 0 2 ∷ t.steps)
tree_behind (some number_tag) bs t = tree (suc t.rows) (after_close t.steps)
tree_behind (some stride_tag) bs t = tree (suc t.rows) (after_close t.steps)
tree_behind (some round_tag) bs t = tree (suc t.rows) (open_step t.rows 0 (rounding_of bs) ∷ t.steps)
tree_behind (some split_tag) bs t = tree (suc t.rows) (open_step t.rows 0 1 ∷ t.steps)
tree_behind (some claim_tag) bs t = t

-- The innermost step that is open, with its branch.
unfoldable pub innermost : List OpenStep → Position
innermost [] = root
innermost (s ∷ ss) = s.at

-- Where the first of some fields starts, or the file ends.
unfoldable pub starts_at : Fields → ℕ
starts_at (ends at) = at
starts_at (cut at) = at
starts_at (f ▸ fs) = f.at

-- The refusal is that of a field of fs, or of their end, whose fields before it lead from the tree t to where it stands.
pub data Stands : Tree → Fields → Answer → Type 0 where
  here : {t : Tree} {fs : Fields} {a : Answer} → a ≡ refusal_at (innermost t.steps) t.rows (starts_at fs) a.number → Stands t fs a
  past : {t : Tree} (f : Field) {fs : Fields} {a : Answer} → Stands (tree_behind (entry_tagged f.tag) f.contents t) fs a → Stands t (f ▸ fs) a

-- No row, step or branch is told.
abbrev pub Outside : Answer → Type 0
Outside a = a ≡ answer a.number a.file a.place

-- An answer of check. Amid the proof it stands where the fields before it lead; elsewhere (1 and 21 at the end too), and for a proof that is too long, it tells nothing.
pub data AnswerStands (proof : List ℕ) (a : Answer) : Type 0 where
  outside : ¬ (a.file ≡ file_proof) ⊎ (a.number ≡ 1) → Outside a → AnswerStands proof a
  amid : Stands (tree 0 []) (fields proof) a → AnswerStands proof a
