-- What testing a formula gives, as the code's answers. Assumes nothing.
use Rattle.std.specs.Prelude.{Bool, false, ℕ, Ok, Err}
use Rattle.std.specs.declared.result.Result as code
use Rattle.answers.specs.Answers.{answer, acceptance, file_proof}
use Rattle.answers.specs.Refusals.{number_of}
use Rattle.answers.specs.declared.refusals.Fault.{Fault}
use Rattle.formula_test.specs.declared.Tested.{Tested}

abbrev pub test_refused : (number file place : ℕ) → Tested
test_refused number file place = record { answer = answer number file place; holds = false }

-- The formula is read: its truth, or the refusal.
abbrev pub given : code.Result Bool Fault → Tested
given (Ok holds) = record { answer = acceptance; holds = holds }
given (Err e) = test_refused (number_of e.refusal) file_proof e.place
