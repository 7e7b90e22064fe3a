-- `enumeration_rows::read::is_inference` meets its contract. Assumes nothing.
use mathlib.Core.Path.{◌∙◌, ap}
use mathlib.Core.List.{List}
use Prim.Native.Nat.{ℕ}
use native.Mathlib.Omega.{arith}
use Rattle.enumeration.specs.Numbering.{begins, inference_bytes}
use Rattle.enumeration_rows.proofs.Stored.{inference-size}
use Rattle.enumeration_rows.proofs.RecognisedRows.{row-stored}
use Rattle.enumeration_rows.proofs.read.is_inference.Goals as goal

pub put_inference-requires : goal.put_inference-requires
put_inference-requires c = (c.requires.0, c.requires.1, omega (arith, inference-size c.args.n c.args.j))

pub stands-requires : goal.stands-requires
stands-requires c = (omega arith, omega (arith, c.inference_bytes.ensures, inference-size c.args.n c.args.j))

pub returns : goal.returns
returns c = c.stands.ensures ∙ ap (λ (bs : List ℕ). begins bs c.args.rest.now) (row-stored _ (inference_bytes c.args.n c.args.j) c.put_inference.ensures (inference-size c.args.n c.args.j) c.inference_bytes.ensures)
