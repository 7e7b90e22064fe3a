-- Showing a constraint: what is handed back where it is accepted. docs/FORMAT.md, "The order of tests". Of what the function show ensures. Assumes nothing.
use Rattle.std.specs.Prelude.{◌≡◌, List, ◌++◌, ℕ, ◌+◌, ◌-◌, ◌≤◌, ◌<◌, length}
use Rattle.std.proofs.Math.Option.{some}
use Rattle.std.proofs.Math.ListN.{get_elem?}
use Rattle.std.specs.Borrow.{Bor}
use Rattle.forms.specs.Edition.{edition}
use Rattle.forms.specs.Forms.{Constraint}
use Rattle.number_bytes.specs.Numbers.{Bytes}
use Rattle.fields.specs.Fields.{Field, fields, nth, item, field_bytes}
use Rattle.bundle.specs.Layout.{States}
use Rattle.bundle_show.specs.Promises.{Shows, behind}
use Rattle.guarantee.specs.Acceptance.{Showable}

-- The part is a whole field of the file: tag, length and contents. It lies in the file's own buffer and is no copy. Notes aside it stands behind the two header fields and i others, and it states the constraint `own` over K constants, by the layout of edition n.
pub record WholeField (file : Bor (List ℕ)) (n K i : ℕ) (own : Constraint) (part : Bor (List ℕ)) : Type 0 where
  pub field : Field
  pub there : nth (i + 2) (fields file.now) ≡ some field
  pub states : States (edition n) K (item field.tag field.contents) own
  pub bytes : part.now ≡ field_bytes field.tag field.contents
  pub before : List ℕ
  pub after : List ℕ
  pub file_is : file.now ≡ before ++ (part.now ++ after)
  pub at : field.at ≡ length before
  pub place : part.ref_ptr ≡ behind file.ref_ptr (length before)

-- The part is the field of constraint number `line` among A's, then B's: where A and B are bundles with one K and that many constraints (`s`).
pub record ShownAs (a b : Bor (List ℕ)) (line : ℕ) (part : Bor (List ℕ)) (s : Showable a.now b.now line) : Type 0 where
  pub own : Constraint
  pub is : get_elem? (s.a ++ s.b) line ≡ some own
  pub in_A : line < length s.a → WholeField a s.n_A s.K line own part
  pub in_B : length s.a ≤ line → WholeField b s.n_B s.K (line - length s.a) own part

pub record ShowingPromised : Type 0 where
  -- Wherever the number is 0, which is where A, B and the line are so (`show_iff`). Of buffers of bytes, as slices are: only then are the two bytes of a field's length those of its length.
  pub shows : (a b : Bor (List ℕ)) (line : ℕ) (part : Bor (List ℕ)) → Bytes a.now → Bytes b.now → Shows a b line part → (s : Showable a.now b.now line) → ShownAs a b line part s
