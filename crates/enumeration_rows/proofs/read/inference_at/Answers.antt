-- `enumeration_rows::read::inference_at` meets its contract. Assumes nothing.
use native.Mathlib.Omega.{arith}
use Rattle.enumeration_rows.proofs.RecognisedRows.{inference-beyond, inference-other}
use Rattle.enumeration_rows.proofs.read.inference_at.Goals as goal
use Rattle.enumeration_rows.proofs.read.inference_at.Goals.{else-j-inference_count-via-then-j-inference_count+else-is_inference, else-j-inference_count-via-else-j-inference_count}

pub returns-else-j-inference_count : goal.returns-else-j-inference_count
returns-else-j-inference_count c = elim c.else-j-inference_count.branch [
  | else-j-inference_count-via-then-j-inference_count+else-is_inference w ↦ inference-other c.requires c.inference_guess-j.ensures w.is_inference.ensures w.if-is_inference.false
  | else-j-inference_count-via-else-j-inference_count w ↦ inference-beyond c.requires c.inference_guess-j.ensures (omega arith)
]
