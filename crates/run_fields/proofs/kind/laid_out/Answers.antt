-- `run_fields::kind::laid_out` meets its contract, tag by tag. Assumes nothing.
use borrow.Author.Rules.{rules}
use native.Mathlib.Omega.{arith}
use Rattle.proof.proofs.Entered.{unknown}
use Rattle.run_fields.proofs.ByTag.{combine-kind, reduce-kind, scale-kind, strengthen-kind, number-kind, stride-kind, split-kind, claim-kind, claim-out, header-out, unknown-out}
use Rattle.run_fields.proofs.kind.laid_out.Goals as goal

pub returns-in-16 : goal.returns-in-16
returns-in-16 c = combine-kind c.line_bytes-width.ensures c.in-16.is

pub returns-in-17 : goal.returns-in-17
returns-in-17 c = reduce-kind c.line_bytes-width.ensures c.in-17.is

pub returns-in-18 : goal.returns-in-18
returns-in-18 c = scale-kind c.line_bytes-width.ensures c.in-18.is

pub returns-in-19 : goal.returns-in-19
returns-in-19 c = strengthen-kind c.line_bytes-width.ensures c.in-19.is

pub returns-in-20 : goal.returns-in-20
returns-in-20 c = number-kind c.line_bytes-width.ensures c.in-20.is

pub returns-in-21 : goal.returns-in-21
returns-in-21 c = stride-kind c.line_bytes-width.ensures c.in-21.is

pub returns-in-23 : goal.returns-in-23
returns-in-23 c = split-kind c.line_bytes-width.ensures c.in-23.is

pub returns-then-made : goal.returns-then-made
returns-then-made c = claim-kind c.in-32.is c.if-made.true

pub returns-else-made : goal.returns-else-made
returns-else-made c = claim-out c.in-32.is c.if-made.false

pub returns-in-1 : goal.returns-in-1
returns-in-1 c = header-out (omega arith) (omega arith)

pub returns-in_default : goal.returns-in_default
returns-in_default c = unknown-out (search (rules, unknown))

pub returns-in_default-2 : goal.returns-in_default-2
returns-in_default-2 c = unknown-out (search (rules, unknown))
