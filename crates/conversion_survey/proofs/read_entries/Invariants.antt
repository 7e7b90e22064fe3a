-- `conversion_survey::read_entries` meets its contract: what is left to read and to count from here is the whole from the start. Assumes nothing.
use mathlib.Core.Path.{◌≡◌}
use mathlib.Core.Bool.{true, false}
use Prim.Native.Nat.{◌+◌, ◌-◌, ◌≤◌}
use lib.ListN.{length}
use Rattle.fields.specs.Places.{fields_at}
use Rattle.conversion_survey.proofs.SurveyedFields.{read, turned, fits}
use Rattle.conversion_survey.proofs.read_entries.Given as goal

abbrev pub invariant-loop-field : goal.invariant-loop-field
invariant-loop-field l = (read l.editions.from l.k false (fields_at l.p l.at) ≡ read l.editions.from l.k l.made (fields_at l.p l.here)) × (length (turned l.editions.from l.editions.to (fields_at l.p l.at)) ≡ l.size + length (turned l.editions.from l.editions.to (fields_at l.p l.here)))
    × (l.size + (length l.p - l.here) + (length l.p - l.here) ≤ 131_072) × (l.fit ≡ true → fits l.editions.from l.editions.to (fields_at l.p l.at) ≡ fits l.editions.from l.editions.to (fields_at l.p l.here))

abbrev pub decreases-loop-field : goal.decreases-loop-field
decreases-loop-field l = length l.p - l.here
