-- The buffers of the search, and what making a line and testing a close tell. Assumes nothing.
use Rattle.std.specs.Prelude.{◌≡◌, Bool, true, false, List, ℕ, ◌+◌, ◌*◌, ◌≤◌, length, ℤ, Ok, Err}
use Rattle.std.specs.declared.result.Result as code
use Rattle.forms.specs.Edition.{edition1}
use Rattle.forms.specs.Forms.{Formula}
use Rattle.calculus.specs.Rules.{Row}
use Rattle.answers.specs.declared.Answer.{Answer}
use Rattle.answers.specs.declared.refusals.Refusal.{Refusal}
use Rattle.answers.specs.Answers.{refused, accepted}
use Rattle.enumeration.specs.Sequence.{close_formula}
use Rattle.enumeration.specs.Numbering.{inference_at}
use Rattle.lines.specs.Buffer.{size, lines_in, Bounded}
use Rattle.tally.specs.Tally.{tally}
use Rattle.tally.specs.declared.Tally.{Tally}
use Rattle.rows.specs.Rows.{Derives}

-- The tally of n lines, in a proof of edition 1.
abbrev pub tally_of : ℕ → Tally
tally_of n = tally 1 0 n 0

-- The lines of a proof of edition 1 stand in buffers for seven, and d more may come: six at most.
pub record SearchRoom (K d : ℕ) (kinds : List ℕ) (buf : List ℤ) (t : Tally) : Type 0 where
  pub constants : K ≤ edition1.constants
  pub room : 7 * size K ≤ length buf
  pub kinds_room : 7 ≤ length kinds
  pub bounded : Bounded K buf t.lines.0
  pub few : t.lines.0 + d ≤ 6
  pub first_edition : t.edition ≡ 1

-- Whether inference j makes line n.
pub record Infers (K n j : ℕ) (kinds : List ℕ) (buf : List ℤ) (kinds' : List ℕ) (buf' : List ℤ) (b : Bool) : Type 0 where
  pub derived : code.Result Tally Refusal
  pub derives : Derives K kinds buf (tally_of n) (inference_at n j) kinds' buf' derived
  pub made : b ≡ true → derived ≡ Ok (tally_of (n + 1))
  pub refused : b ≡ false → (x : Refusal) × (derived ≡ Err x)

-- Whether the row r closes the branch.
pub record CloseHolds (K : ℕ) (kinds : List ℕ) (buf : List ℤ) (n : ℕ) (r : Row) (b : Bool) : Type 0 where
  pub yes : b ≡ true → (I : Formula) × (close_formula (lines_in K kinds buf n) r ≡ accepted I)
  pub no : b ≡ false → (a : Answer) × (close_formula (lines_in K kinds buf n) r ≡ refused a)
