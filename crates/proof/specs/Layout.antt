-- What it is for three files to certify a formula, apart from checking them: demand 2's right-hand side. docs/FORMAT.md, "Bytes and fields". Assumes nothing.
use Rattle.std.specs.Prelude.{◌≡◌, List, [], ◌∷◌, ℕ, ◌≤◌, length}
use Rattle.std.proofs.Math.Option.{some}
use Rattle.forms.specs.Edition.{Edition, edition, edition1}
use Rattle.forms.specs.Forms.{Constraint, Formula}
use Rattle.calculus.specs.Rules.{Entry, Proves}
use Rattle.fields.specs.Fields.{Item, item, fields, items}
use Rattle.bundle.specs.Layout.{Each, BundleFile}
use Rattle.formula.specs.Formula.{formula_file}
use Rattle.proof.specs.Entries.{EntryTag, entry_tagged, size_of, entry_from}

-- A field of a row's or a claim's tag and length states that entry.
pub record Enters (e : Edition) (K : ℕ) (i : Item) (x : Entry) : Type 0 where
  pub tagged : EntryTag
  pub tag : entry_tagged i.tag ≡ some tagged
  pub size : length i.contents ≡ size_of e K tagged
  pub entry : entry_from e K tagged i.contents ≡ x

-- A proof's file of edition n, up to the newest: 0x01 with n, 0x02 with K from 1 to 16, then rows and claims of that edition; not too long.
pub record ProofFile (newest : ℕ) (file : List ℕ) (n K : ℕ) (es : List Entry) : Type 0 where
  pub first : 1 ≤ n
  pub last : n ≤ newest
  pub short : length file ≤ (edition n).proof_bytes
  pub body : List Item
  pub whole : items (fields file) ≡ some (item 0x01 (n ∷ []) ∷ item 0x02 (K ∷ []) ∷ body)
  pub low : 1 ≤ K
  pub high : K ≤ edition1.constants
  pub enters : Each (Enters (edition n) K) body es

-- A, B and the proof are laid out, each by its own edition and all with one K, and the proof's rows derive the formula from A and B within the limits of the proof's edition.
pub record Yields (newest : ℕ) (A B proof : List ℕ) (K : ℕ) (I : Formula) : Type 0 where
  pub edition_a : ℕ
  pub edition_b : ℕ
  pub edition_proof : ℕ
  pub a : List Constraint
  pub b : List Constraint
  pub es : List Entry
  pub file_a : BundleFile newest A edition_a K a
  pub file_b : BundleFile newest B edition_b K b
  pub file_proof : ProofFile newest proof edition_proof K es
  pub proves : Proves (edition edition_proof) a b es I

-- The same, and the formula's file, which is of edition 1, is not too long.
pub record Certifies (newest : ℕ) (A B proof : List ℕ) (K : ℕ) (I : Formula) : Type 0 where
  pub yields : Yields newest A B proof K I
  pub short : length (formula_file edition1 K I) ≤ edition1.formula_bytes
