-- Registers that must not equal a limit. docs/FORMAT.md, "Proof". (That splits are sound, laid out and told by step and branch is in the demands, which speak of every row.) Assumes nothing.
use Rattle.std.specs.Prelude.{◌≡◌, Bool, List, ℕ, ◌-◌, ◌≤◌, ◌<◌, pos, length}
use Rattle.std.proofs.Math.Option.{some}
use Rattle.std.proofs.Math.ListN.{get_elem?}
use Rattle.forms.specs.Edition.{Edition}
use Rattle.forms.specs.Forms.{Form, Side, Line, ≠0, Constraint, Formula, line_apart, lines, neg, ◌·◌}
use Rattle.calculus.specs.Rules.{Nth, Closed}
use Rattle.calculus.specs.Reached.{Reached, Throughout}

-- On the lines that rows reach from A and B the rules of a split read as they are worded: a t ≠ 0 is a constraint's, its place tells whose it is,
-- A's has t itself for its partial interpolant, so that its branches have t+1 and -t+1; B's has 0, and -0 is 0 too.
pub record SplitsAsWorded : Type 0 where
  -- each row of a closed proof finds such lines
  pub of_rows : (A B : List Constraint) (e : Edition) (in_b : ℕ → Bool) (I : Formula) (p : Closed e in_b (lines A B) I) → Throughout (Reached A B) p
  pub of_A : (A B : List Constraint) (ls : List Line) (i : ℕ) (t t_A : Form) → Reached A B ls → Nth ls i (line_apart Side.A t t_A) → (i < length A) × (t_A ≡ t)
  pub of_B : (A B : List Constraint) (ls : List Line) (i : ℕ) (t t_A : Form) → Reached A B ls → Nth ls i (line_apart Side.B t t_A) → (length A ≤ i) × (t_A ≡ pos 0 · t) × (neg t_A ≡ pos 0 · t)
  -- and line i is that constraint, t ≠ 0, of A's then B's
  pub stated_A : (A B : List Constraint) (ls : List Line) (i : ℕ) (t t_A : Form) → Reached A B ls → Nth ls i (line_apart Side.A t t_A) → get_elem? A i ≡ some (record { kind = ≠0; form = t })
  pub stated_B : (A B : List Constraint) (ls : List Line) (i : ℕ) (t t_A : Form) → Reached A B ls → Nth ls i (line_apart Side.B t t_A) → get_elem? B (i - length A) ≡ some (record { kind = ≠0; form = t })
