-- `conversion_survey::laid_out` meets its contract, tag by tag. Assumes nothing.
use borrow.Author.Rules.{rules}
use Rattle.proof.proofs.Entered.{unknown}
use Rattle.conversion_survey.proofs.SurveyedFields.{combine-laid, reduce-laid, scale-laid, strengthen-laid, number-laid, stride-laid, round-laid, split-laid, claim-laid, claim-out, first_out, second-out, unknown-out}
use Rattle.conversion_survey.proofs.laid_out.Goals as goal

pub returns-then-made : goal.returns-then-made
returns-then-made c = claim-laid c.in-32.is c.if-made.true c.sized-then-made.ensures

pub returns-in-16 : goal.returns-in-16
returns-in-16 c = combine-laid c.line_bytes-width.ensures c.in-16.is c.sized.ensures

pub returns-in-17 : goal.returns-in-17
returns-in-17 c = reduce-laid c.line_bytes-width.ensures c.in-17.is c.sized-in-17.ensures

pub returns-in-18 : goal.returns-in-18
returns-in-18 c = scale-laid c.line_bytes-width.ensures c.in-18.is c.sized-in-18.ensures

pub returns-in-19 : goal.returns-in-19
returns-in-19 c = strengthen-laid c.line_bytes-width.ensures c.in-19.is c.sized-in-19.ensures

pub returns-in-20 : goal.returns-in-20
returns-in-20 c = number-laid c.line_bytes-width.ensures c.in-20.is c.sized-in-20.ensures

pub returns-in-21 : goal.returns-in-21
returns-in-21 c = stride-laid c.line_bytes-width.ensures c.in-21.is c.sized-in-21.ensures

pub returns-in-22 : goal.returns-in-22
returns-in-22 c = round-laid c.line_bytes-width.ensures c.in-22.is c.sized-in-22.ensures

pub returns-in-23 : goal.returns-in-23
returns-in-23 c = split-laid c.line_bytes-width.ensures c.in-23.is c.sized-in-23.ensures

pub returns-else-made : goal.returns-else-made
returns-else-made c = claim-out c.in-32.is c.if-made.false

pub returns-in-1 : goal.returns-in-1
returns-in-1 c = first_out c.in-1.is

pub returns-in-2 : goal.returns-in-2
returns-in-2 c = second-out c.in-2.is

pub returns-in_default : goal.returns-in_default
returns-in_default c = unknown-out (search (rules, unknown))
