-- Refusals by their numbers, as answers tell them, and the code's results as those of the definitions. Assumes nothing.
use Rattle.std.specs.Prelude.{ℕ, Ok, Err}
use Rattle.std.specs.declared.result.Result as code
use Rattle.answers.specs.Answers.{answer, Result, refused, accepted}
use Rattle.answers.specs.declared.refusals.Refusal.{Refusal}
use Rattle.answers.specs.declared.refusals.Fault.{Fault}

abbrev pub number_of : Refusal → ℕ
number_of Refusal.TooLong = 1
number_of Refusal.Truncated = 2
number_of Refusal.UnknownTag = 3
number_of Refusal.MisplacedTag = 4
number_of Refusal.WrongEdition = 5
number_of Refusal.WrongLength = 6
number_of Refusal.WrongConstants = 7
number_of Refusal.TooManyConstraints = 8
number_of Refusal.OtherConstants = 9
number_of Refusal.NoSuchLine = 10
number_of Refusal.WrongLineKind = 11
number_of Refusal.WrongMultiplier = 12
number_of Refusal.OutOfRange = 13
number_of Refusal.WrongClaim = 14
number_of Refusal.ConditionNotMet = 15
number_of Refusal.TooManyLines = 16
number_of Refusal.TooDeep = 17
number_of Refusal.TooManyRows = 18
number_of Refusal.FieldAfterEnd = 19
number_of Refusal.BranchesOpen = 20
number_of Refusal.OutputTooShort = 21
number_of Refusal.ValueOutOfRange = 23
number_of Refusal.WrongKinds = 24
number_of Refusal.WrongStages = 25
number_of Refusal.TooManyInRun = 26
number_of Refusal.ClaimInRun = 27
number_of Refusal.BranchesDiffer = 28
number_of Refusal.NoSuchSeat = 29
number_of Refusal.SeatTaken = 30
number_of Refusal.SeatEmpty = 31
number_of Refusal.NotShortProof = 32
number_of Refusal.NoFollowingProof = 33
number_of Refusal.PartOutside = 34
number_of Refusal.NoJob = 35

abbrev pub fault : Refusal → (place : ℕ) → Fault
fault r at = record { refusal = r; place = at }

-- A result of the code as that of a definition: f of its value, or what it is refused for in that file.
abbrev pub told : {T X : Type 0} → (file : ℕ) → (T → X) → code.Result T Fault → Result X
told file f (Ok x) = accepted (f x)
told file f (Err e) = refused (answer (number_of e.refusal) file e.place)
