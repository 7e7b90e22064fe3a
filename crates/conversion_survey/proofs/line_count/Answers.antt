-- `conversion_survey::line_count` meets its contract, by where the tag lies. Assumes nothing.
use native.Mathlib.Omega.{arith}
use Rattle.conversion_survey.proofs.SurveyedFields.{two-lines, one_line, no_line}
use Rattle.conversion_survey.proofs.line_count.Goals as goal

pub returns-in-16-to-17-clause-is : goal.returns-in-16-to-17-clause-is
returns-in-16-to-17-clause-is c = two-lines _ (omega arith) (omega arith)

pub returns-in-18-to-23-clause-is : goal.returns-in-18-to-23-clause-is
returns-in-18-to-23-clause-is c = one_line _ (omega arith) (omega arith)

pub returns-in_default-clause-is : goal.returns-in_default-clause-is
returns-in_default-clause-is c = no_line _ λ n low high e. omega arith

pub returns-in_default-2-clause-is : goal.returns-in_default-2-clause-is
returns-in_default-2-clause-is c = no_line _ λ n low high e. omega arith
