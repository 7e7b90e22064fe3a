-- The guards' files in the output. Assumes nothing.
use Rattle.std.specs.Prelude.{◌≡◌, List, map, ℕ, ◌+◌, ◌≤◌, length}
use Rattle.forms.specs.Edition.{edition1}
use Rattle.forms.specs.Forms.{Formula}
use Rattle.answers.specs.Answers.{accepted, over}
use Rattle.formula.specs.Formula.{formula_file}
use Rattle.chains.specs.Runs.{joined}
use Rattle.run_cuts.specs.Cuts.{cut_of}
use Rattle.run_cuts.specs.All.{files, cuts_of}
use Rattle.run_cuts.specs.declared.begun.Run as begun

-- Cut c is accepted, and its guard's file has room in the output.
pub record GuardFits (r : begun.Run) (c : ℕ) (out : List ℕ) : Type 0 where
  pub formula : Formula
  pub is : cut_of r c ≡ accepted formula
  pub room : length (formula_file edition1 r.k formula) ≤ length out

-- Its file stands at the front of the output, and n is its size.
pub record WritesGuard (r : begun.Run) (c : ℕ) (out out' : List ℕ) (n : ℕ) : Type 0 where
  pub size : (I : Formula) → cut_of r c ≡ accepted I → n ≡ length (formula_file edition1 r.k I)
  pub output : (I : Formula) → cut_of r c ≡ accepted I → out' ≡ over (formula_file edition1 r.k I) out

-- Every cut is accepted, and the guards' files and their sizes have room in the outputs.
pub record GuardsFit (r : begun.Run) (out sizes : List ℕ) : Type 0 where
  pub formulas : List Formula
  pub are : cuts_of r ≡ accepted formulas
  pub room : length (joined (files r.k formulas)) ≤ length out
  pub slots : length r.lengths.now + 1 ≤ length sizes

pub record WritesAll (r : begun.Run) (out out' sizes sizes' : List ℕ) : Type 0 where
  pub output : (Is : List Formula) → cuts_of r ≡ accepted Is → out' ≡ over (joined (files r.k Is)) out
  pub told : (Is : List Formula) → cuts_of r ≡ accepted Is → sizes' ≡ over (map length (files r.k Is)) sizes
