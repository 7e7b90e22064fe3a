-- `enumeration_rows::read::is_close` meets its contract. Assumes nothing.
use mathlib.Core.Path.{◌∙◌, ap, sym}
use mathlib.Core.List.{List}
use Prim.Native.Nat.{ℕ}
use native.Mathlib.Omega.{arith}
use Rattle.enumeration.specs.Numbering.{begins, close_bytes}
use Rattle.enumeration_rows.proofs.Stored.{close-size}
use Rattle.enumeration_rows.proofs.RecognisedRows.{row-stored, same_whole, other_length}
use Rattle.enumeration_rows.proofs.read.is_close.Goals as goal

pub returns-then-rest-size : goal.returns-then-rest-size
returns-then-rest-size c = sym (other_length (close_bytes c.args.n c.args.c) c.args.rest.now (λ e. c.if-rest-size.true (omega (arith, e, c.close_bytes-size.ensures))))

pub put_close-requires : goal.put_close-requires
put_close-requires c = (c.requires.0, c.requires.1, omega (arith, close-size c.args.n c.args.c))

pub stands-requires : goal.stands-requires
stands-requires c = (omega arith, omega (arith, c.close_bytes-size.ensures, close-size c.args.n c.args.c))

pub returns : goal.returns
returns c = c.stands.ensures ∙ ap (λ (bs : List ℕ). begins bs c.args.rest.now) (row-stored _ (close_bytes c.args.n c.args.c) c.put_close.ensures (close-size c.args.n c.args.c) c.close_bytes-size.ensures) ∙ same_whole (close_bytes c.args.n c.args.c) c.args.rest.now (omega (arith, c.if-rest-size.false, c.close_bytes-size.ensures))
