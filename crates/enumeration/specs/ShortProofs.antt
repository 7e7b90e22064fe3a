-- The short proofs of two bundles, as a set. docs/FORMAT.md, "Short proofs". Assumes nothing.
use Rattle.std.specs.Prelude.{◌≡◌, List, [], ◌∷◌, ◌++◌, map, ℕ, ◌≤◌, length, ℤ, pos, negsuc}
use Rattle.forms.specs.Forms.{All}
use Rattle.calculus.specs.Rules.{Combine, Reduce, Scale, Row, Derive, Strengthen, Split, CloseNumber, CloseStride, Round}
use Rattle.answers.specs.Answers.{acceptance}
use Rattle.number_bytes.specs.Numbers.{unsigned_bytes, signed_bytes}
use Rattle.fields.specs.Fields.{Item, item, file_of}
use Rattle.proof.specs.Check.{check}

-- x is an element of the list.
infix 4 ◌∈◌
pub data ◌∈◌ {X : Type 0} (x : X) : List X → Type 0 where
  here : {y : X} {ys : List X} → x ≡ y → x ∈ (y ∷ ys)
  there : {y : X} {ys : List X} → x ∈ ys → x ∈ (y ∷ ys)

-- Multipliers 1 and 2, in reduce also -1 and -2, in the order of their bytes; strides 2 to 4.
abbrev pub multipliers : List ℕ
multipliers = 1 ∷ 2 ∷ []

abbrev pub signed_multipliers : List ℤ
signed_multipliers = pos 1 ∷ pos 2 ∷ negsuc 1 ∷ negsuc 0 ∷ []

abbrev pub strides : List ℕ
strides = 2 ∷ 3 ∷ 4 ∷ []

-- The rows that a short proof may have: 0x10 to 0x15, with any line numbers.
abbrev pub PermittedRow : Row → Type 0
PermittedRow (Derive (Combine s t α β)) = (α ∈ multipliers) × (β ∈ multipliers)
PermittedRow (Derive (Reduce s t α)) = α ∈ signed_multipliers
PermittedRow (Derive (Scale t α)) = α ∈ multipliers
PermittedRow (Strengthen t) = Unit {0}
PermittedRow (Split t) = ⊥
PermittedRow (CloseNumber t) = Unit {0}
PermittedRow (CloseStride t g) = g ∈ strides
PermittedRow (Round t g k) = ⊥

-- The row is no strengthen.
abbrev pub NoStrengthen : Row → Type 0
NoStrengthen (Derive s) = Unit {0}
NoStrengthen (Strengthen t) = ⊥
NoStrengthen (Split t) = Unit {0}
NoStrengthen (CloseNumber t) = Unit {0}
NoStrengthen (CloseStride t g) = Unit {0}
NoStrengthen (Round t g k) = Unit {0}

-- The field of a row, as edition 1 writes it: line numbers of one byte, multipliers and strides of two.
unfoldable pub row_item : Row → Item
row_item (Derive (Combine s t α β)) = item 0x10 (s ∷ t ∷ unsigned_bytes 2 α ++ unsigned_bytes 2 β)
row_item (Derive (Reduce s t α)) = item 0x11 (s ∷ t ∷ signed_bytes 2 α)
row_item (Derive (Scale t α)) = item 0x12 (t ∷ unsigned_bytes 2 α)
row_item (Strengthen t) = item 0x13 (t ∷ [])
row_item (CloseNumber t) = item 0x14 (t ∷ [])
row_item (CloseStride t g) = item 0x15 (t ∷ unsigned_bytes 2 g)
row_item (Round t g k) = item 0x16 (t ∷ unsigned_bytes 2 g ++ unsigned_bytes 2 k)
row_item (Split t) = item 0x17 (t ∷ [])

-- A proof's file of edition 1's header and these rows, without claims and notes.
unfoldable pub proof_file : (K : ℕ) → List Row → List ℕ
proof_file K rs = file_of (item 0x01 (1 ∷ []) ∷ item 0x02 (K ∷ []) ∷ map row_item rs)

-- The file is one of one to three permitted rows that check accepts with some output. (So K is that of A.)
pub record ShortProof (A B file : List ℕ) : Type 0 where
  pub K : ℕ
  pub rows : List Row
  pub is : file ≡ proof_file K rows
  pub one : 1 ≤ length rows
  pub three : length rows ≤ 3
  pub permitted : All PermittedRow rows
  pub output : List ℕ
  pub accepted : (check A B file output).answer ≡ acceptance
