-- `answer_text::put_answer` puts the lines of an answer. Assumes nothing.
use Rattle.std.proofs.Common.{arith}
use Rattle.answer_text.proofs.Printing.{prints-refusal, prints-acceptance}
use Rattle.answer_text.proofs.put_answer.Goals as goal

pub returns-then-number-ne0-clause-answer_lines : goal.returns-then-number-ne0-clause-answer_lines
returns-then-number-ne0-clause-answer_lines c = prints-refusal c.requires.0 (omega arith) c.put_refused.ensures.put_refused

pub returns-clause-answer_lines : goal.returns-clause-answer_lines
returns-clause-answer_lines c = prints-acceptance c.requires.1 (omega arith) c.put_accepted.ensures.put_accepted
