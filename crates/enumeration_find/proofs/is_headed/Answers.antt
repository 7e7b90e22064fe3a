-- `enumeration_find::is_headed` meets its contract. Assumes nothing.
use mathlib.Core.Path.{◌∙◌, ap, sym}
use mathlib.Core.List.{List}
use Prim.Native.Nat.{ℕ}
use native.Mathlib.Omega.{arith}
use Rattle.fields.specs.Header.{header_bytes}
use Rattle.fields.proofs.Headers.{length-header_bytes}
use Rattle.enumeration.specs.Numbering.{begins}
use Rattle.enumeration_rows.proofs.RecognisedRows.{row-stored}
use Rattle.enumeration_find.proofs.is_headed.Goals as goal

pub put_header-requires : goal.put_header-requires
put_header-requires c = omega arith

pub stands-requires : goal.stands-requires
stands-requires c = (omega arith, omega arith)

pub returns : goal.returns
returns c = c.stands.ensures ∙ ap (λ (bs : List ℕ). begins bs c.args.table.now) (row-stored _ (header_bytes 1 c.args.k) c.put_header.ensures (omega (arith, length-header_bytes 1 c.args.k)) (sym (length-header_bytes 1 c.args.k)))
