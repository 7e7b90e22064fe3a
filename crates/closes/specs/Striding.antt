-- What the tests of a close by stride tell. Assumes nothing.
use Rattle.std.specs.Prelude.{List, ℕ, ℤ}
use Rattle.forms.specs.Forms.{◌divides◌}
use Rattle.forms.specs.Reduced.{reduced}
use Rattle.proof.specs.Rows.{by_stride}
use Rattle.lines.specs.Buffer.{line_in, lines_in}
use Rattle.tally.specs.declared.Tally.{Tally}
use Rattle.closes.specs.Closing.{Test, TestedBy}

pub record ByStride (K : ℕ) (kinds : List ℕ) (buf : List ℤ) (t : Tally) (i g : ℕ) (r : Test) : Type 0 where
  pub by : TestedBy (λ refusal. by_stride refusal (lines_in K kinds buf t.lines.0) i g)
      (g divides reduced g (line_in K kinds buf i).t_A) r
