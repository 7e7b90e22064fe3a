-- What is turned, and into what, apart from turning it. docs/FORMAT.md, "Turning into the other edition". Assumes nothing.
use Rattle.std.specs.Prelude.{◌≡◌, ◌⊎◌, Bool, true, false, List, [], ◌∷◌, ◌++◌, map, ℕ, ◌≤◌}
use Rattle.std.specs.Int.Signed.{mag}
use Rattle.forms.specs.Edition.{edition, edition2, newest_edition}
use Rattle.forms.specs.Forms.{Form, All, Constraint}
use Rattle.calculus.specs.Rules.{Row, Entry, row, claim}
use Rattle.number_bytes.specs.Numbers.{flat}
use Rattle.fields.specs.Fields.{Item, item, file_of}
use Rattle.fields.specs.Header.{header_bytes}
use Rattle.bundle.specs.Layout.{BundleFile}
use Rattle.bundle.specs.Read.{kinds_of, numbers_of}
use Rattle.bundle.specs.Write.{constraints_bytes}
use Rattle.proof.specs.Layout.{ProofFile}
use Rattle.conversion.specs.Turning.{other, lines_named, lines_turned, makes_line}

-- A bundle's file of the other edition; turned down, each number lies within -32,768 to 32,767 (`mag` is n of n and of -n-1). The bytes state the same constraints in the edition asked for.
pub record BundleTurnable (to : ℕ) (file bytes : List ℕ) : Type 0 where
  pub one_or_two : (to ≡ 1) ⊎ (to ≡ 2)
  pub K : ℕ
  pub constraints : List Constraint
  pub states : BundleFile newest_edition file (other to) K constraints
  pub held : to ≡ 1 → All (λ c. All (λ z. mag z ≤ 32_767) (flat c.form)) constraints
  pub are : bytes ≡ header_bytes to K ++ constraints_bytes (edition to) K (kinds_of constraints) (numbers_of constraints)

-- A claim stands directly after a row 0x10 to 0x12; `made` says whether one stands before the first.
pub data InTurn : (made : Bool) → List Entry → Type 0 where
  none_left : {made : Bool} → InTurn made []
  a_row : {made : Bool} {es : List Entry} (r : Row) → InTurn (makes_line (row r)) es → InTurn made (row r ∷ es)
  a_claim : {t t_A : Form} {es : List Entry} → InTurn false es → InTurn true (claim t t_A ∷ es)

-- A field of edition a in edition b.
abbrev pub turned_item : (a b : ℕ) → Item → Item
turned_item a b i = item i.tag (lines_turned (edition a) (edition b) i)

-- A proof's file of the other edition with each claim in its place; turned down, each line number is at most 255. The bytes are its fields, notes left out, in the edition asked for.
pub record ProofTurnable (to : ℕ) (file bytes : List ℕ) : Type 0 where
  pub one_or_two : (to ≡ 1) ⊎ (to ≡ 2)
  pub K : ℕ
  pub entries : List Entry
  pub states : ProofFile newest_edition file (other to) K entries
  pub in_turn : InTurn false entries
  pub held : to ≡ 1 → All (λ i. All (λ n. n ≤ 255) (lines_named edition2 i)) states.body
  pub are : bytes ≡ header_bytes to K ++ file_of (map (turned_item (other to) to) states.body)
