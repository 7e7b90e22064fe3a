-- Where in the tree an answer of a run stands. docs/FORMAT.md, "Where in the tree" and "Guards of a run of stages". Assumes nothing.
use Rattle.std.specs.Prelude.{◌≡◌, ◌⊎◌, List, [], ◌∷◌, ℕ, suc, ◌<◌}
use Rattle.forms.specs.Forms.{All}
use Rattle.answers.specs.declared.Answer.{Answer}
use Rattle.answers.specs.Answers.{answer_at, file_proof}
use Rattle.fields.specs.Fields.{Field, Fields, ◌▸◌, Item, item, fields}
use Rattle.proof.specs.Entries.{entry_tagged}
use Rattle.proof.specs.Tree.{OpenStep, open_step, Tree, tree, after_close, rounding_of, tree_behind, innermost, Stands, Outside}
use Rattle.run.specs.Uniform.{with_number}

-- ---- unlike branches
-- The branch at the front of fs, before which the tree was t: its fields, notes aside, up to a close, 0x14 or 0x15, behind which the steps are `closed`; the rows up to there, the fields behind it, and 28 at that row. (Where no step is then open that does not shut out fields behind the root's close, which come to 19 first.)
pub data BranchFields (closed : List OpenStep) : Tree → Fields → List Item → (rows : ℕ) → (after : Fields) → Answer → Type 0 where
  closes : {t : Tree} (f : Field) {fs : Fields} {a : Answer} → (f.tag ≡ 0x14) ⊎ (f.tag ≡ 0x15) → after_close t.steps ≡ closed → a ≡ answer_at t.rows (innermost t.steps) 28 file_proof f.at
      → BranchFields closed t (f ▸ fs) (item f.tag f.contents ∷ []) (suc t.rows) fs a
  goes_on : {t : Tree} (f : Field) {fs : Fields} {is : List Item} {rows : ℕ} {after : Fields} {a : Answer} → BranchFields closed (tree_behind (entry_tagged f.tag) f.contents t) fs is rows after a
      → BranchFields closed t (f ▸ fs) (item f.tag f.contents ∷ is) rows after a

-- The branches b to `last` of the step of row `step`, around which ps are open, and what the last of them comes to.
pub data AllBranchFields (step last : ℕ) (ps : List OpenStep) : (b rows : ℕ) → Fields → List (List Item) → (rowsBehind : ℕ) → (after : Fields) → Answer → Type 0 where
  final : {b rows : ℕ} {fs : Fields} {is : List Item} {rows' : ℕ} {after : Fields} {a : Answer} → b ≡ last → BranchFields (after_close ps) (tree rows (open_step step b last ∷ ps)) fs is rows' after a
      → AllBranchFields step last ps b rows fs (is ∷ []) rows' after a
  further : {b rows : ℕ} {fs : Fields} {is : List Item} {rows' : ℕ} {fs' : Fields} {a : Answer} {iss : List (List Item)} {rows'' : ℕ} {after : Fields} {a' : Answer}
      → b < last → BranchFields (open_step step (suc b) last ∷ ps) (tree rows (open_step step b last ∷ ps)) fs is rows' fs' a → AllBranchFields step last ps (suc b) rows' fs' iss rows'' after a'
      → AllBranchFields step last ps b rows fs (is ∷ iss) rows'' after a'

-- 28 at the close of the last branch of a strengthen, 0x13, whose first and third branch have not the same fields, or of a rounding, 0x16, of which some branch has not those of the first.
pub data Unlike : Tree → Fields → Answer → Type 0 where
  strengthen : {t : Tree} (f : Field) {fs : Fields} {first second third : List Item} {rows : ℕ} {after : Fields} {a : Answer} → f.tag ≡ 0x13
      → AllBranchFields t.rows 2 t.steps 0 (suc t.rows) fs (first ∷ second ∷ third ∷ []) rows after a → ¬ (third ≡ first) → Unlike t (f ▸ fs) a
  round : {t : Tree} (f : Field) {fs : Fields} {first : List Item} {others : List (List Item)} {rows : ℕ} {after : Fields} {a : Answer} → f.tag ≡ 0x16
      → AllBranchFields t.rows (rounding_of f.contents) t.steps 0 (suc t.rows) fs (first ∷ others) rows after a → ¬ (All (λ is. is ≡ first) others) → Unlike t (f ▸ fs) a
  past : {t : Tree} (f : Field) {fs : Fields} {a : Answer} → Unlike (tree_behind (entry_tagged f.tag) f.contents t) fs a → Unlike t (f ▸ fs) a

-- ---- an answer
-- Amid some fields, before which the tree was t: where check's refusal by that number would stand; a claim where a 14 would; unlike branches at the last one's closing row, which is the row told.
pub data StandsInRun (t : Tree) (fs : Fields) (a : Answer) : Type 0 where
  as_check : ¬ (a.number ≡ 27) → ¬ (a.number ≡ 28) → Stands t fs a → StandsInRun t fs a
  claim : a.number ≡ 27 → Stands t fs (with_number 14 a) → StandsInRun t fs a
  unlike : Unlike t fs a → StandsInRun t fs a

-- An answer of a run: amid the proof it stands there; elsewhere, and for a proof that is too long, it tells nothing.
pub data RunStands (proof : List ℕ) (a : Answer) : Type 0 where
  outside : ¬ (a.file ≡ file_proof) ⊎ (a.number ≡ 1) → Outside a → RunStands proof a
  amid : StandsInRun (tree 0 []) (fields proof) a → RunStands proof a
