-- What is laid out: whole fields of known tags, in their places, of right lengths, edition and one K, and of a proof one table whose branches are all closed. docs/FORMAT.md, "Bytes and fields" and "Proof". Assumes nothing.
-- (How long a file may be, how many constraints and rows it may have, and that no number of a bundle is -2,147,483,648, are limits of `BundleFile`, `ProofFile` and `Proves`.)
use Rattle.std.specs.Prelude.{◌≡◌, ◌⊎◌, List, [], ◌∷◌, ℕ, suc, ◌≤◌}
use Rattle.std.proofs.Math.Option.{some}
use Rattle.forms.specs.Edition.{edition, edition1}
use Rattle.forms.specs.Forms.{All, Form, Constraint}
use Rattle.calculus.specs.Rules.{Inference, Derive, Strengthen, CloseNumber, CloseStride, Round, Split, Entry, row, claim}
use Rattle.fields.specs.Fields.{Item, item, Framed, file_of, fields, items}
use Rattle.bundle.specs.Layout.{Each, StatesAll}
use Rattle.proof.specs.Layout.{Enters}

-- A file is some list of fields, whole, end to end, each length within its two bytes.
pub record WholeFields (file : List ℕ) : Type 0 where
  pub list : List Item
  pub framed : All Framed list
  pub are : file ≡ file_of list

-- A bundle of edition 1 or 2, by that edition's layout.
pub record LaidBundle (file : List ℕ) (K : ℕ) : Type 0 where
  pub n : ℕ
  pub one_or_two : (n ≡ 1) ⊎ (n ≡ 2)
  pub constraints : List Constraint
  pub list : List Item
  pub whole : items (fields file) ≡ some list
  pub laid : StatesAll n list K constraints

-- The entries of one closed branch, and then the rest.
mutual
  pub data Placed : List Entry → (rest : List Entry) → Type 0 where
    -- a row 0x10 to 0x12, without its claim or with it, goes on
    unclaimed : {es rest : List Entry} (s : Inference) → Placed es rest → Placed (row (Derive s) ∷ es) rest
    claimed : {es rest : List Entry} (s : Inference) (t t_A : Form) → Placed es rest → Placed (row (Derive s) ∷ claim t t_A ∷ es) rest
    -- three branches follow a strengthen, complete one after the other, k+1 a rounding by k, two a split
    strengthen : {es second third rest : List Entry} (t : ℕ) → Placed es second → Placed second third → Placed third rest → Placed (row (Strengthen t) ∷ es) rest
    round : {es second rest : List Entry} (t g k : ℕ) → Placed es second → PlacedTimes k second rest → Placed (row (Round t g k) ∷ es) rest
    split : {es second rest : List Entry} (t : ℕ) → Placed es second → Placed second rest → Placed (row (Split t) ∷ es) rest
    -- a branch ends at its close row
    number : {rest : List Entry} (t : ℕ) → Placed (row (CloseNumber t) ∷ rest) rest
    stride : {rest : List Entry} (t g : ℕ) → Placed (row (CloseStride t g) ∷ rest) rest

  -- so many closed branches, one after the other, and then the rest
  pub data PlacedTimes : ℕ → List Entry → (rest : List Entry) → Type 0 where
    none : {rest : List Entry} → PlacedTimes 0 rest rest
    more : {n : ℕ} {es next rest : List Entry} → Placed es next → PlacedTimes n next rest → PlacedTimes (suc n) es rest

-- A proof of edition 1 or 2, by that edition's layout. Nothing stands after the root is closed.
pub record LaidProof (file : List ℕ) (K : ℕ) : Type 0 where
  pub n : ℕ
  pub one_or_two : (n ≡ 1) ⊎ (n ≡ 2)
  pub entries : List Entry
  pub body : List Item
  pub whole : items (fields file) ≡ some (item 0x01 (n ∷ []) ∷ item 0x02 (K ∷ []) ∷ body)
  pub low : 1 ≤ K
  pub high : K ≤ edition1.constants
  pub enters : Each (Enters (edition n) K) body entries
  pub placed : Placed entries []

-- All three, with one K; their editions may differ.
pub record LaidOut (A B proof : List ℕ) : Type 0 where
  pub K : ℕ
  pub of_a : LaidBundle A K
  pub of_b : LaidBundle B K
  pub of_proof : LaidProof proof K
