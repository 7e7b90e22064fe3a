-- The leaves of a formula, its parts that are no and/or, as the code tells them apart. Assumes nothing.
use Rattle.std.specs.Prelude.{◌≡◌, ℕ, ◌+◌, ◌*◌, ◌^◌, ◌<◌, ◌≤◌, List, length, ℤ}
use Rattle.forms.specs.Edition.{edition1}
use Rattle.forms.specs.Forms.{Form, Formula, literal, ◌divides◌}
use Rattle.form_value.specs.Quick.{Power}
use Rattle.form_value.specs.Registers.{AllWithin}
use Rattle.formula_read.specs.Nodes.{literal_kind}
use Rattle.formula_leaf.specs.declared.Leaf.{Leaf}

-- The formula that a leaf is of a form.
abbrev pub leaf_formula : Leaf → Form → Formula
leaf_formula (Leaf.Literal equality) t = literal (literal_kind equality) t
leaf_formula (Leaf.Power g) t = g divides t
leaf_formula (Leaf.Stride g) t = g divides t

-- Its stride is a power of two, 2 to 2^30, or any from 2 to 2^31 - 1.
abbrev pub Proper : Leaf → Type 0
Proper (Leaf.Literal equality) = Unit {0}
Proper (Leaf.Power g) = Power g
Proper (Leaf.Stride g) = (2 ≤ g) × (g < 2_147_483_648)

-- The values of vector i are there, all in range.
pub record VectorAt (values : List ℤ) (K i : ℕ) : Type 0 where
  pub all : AllWithin values
  pub room : i * K + K ≤ length values
  pub some : 1 ≤ K
  pub few : K ≤ edition1.constants

-- n vectors of K values in range, at most as many as a mask has bits, and a mask of some of them.
pub record Block (values : List ℤ) (K n active : ℕ) : Type 0 where
  pub all : AllWithin values
  pub count : length values ≡ n * K
  pub some : 1 ≤ K
  pub few : K ≤ edition1.constants
  pub size : n ≤ 63
  pub below : active < 2 ^ n
