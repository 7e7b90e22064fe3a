-- `conversion_write::put_entries` meets its contract. Assumes nothing.
use mathlib.Core.Path.{◌≡◌}
use Prim.Native.Nat.{◌+◌, ◌-◌, ◌≤◌}
use lib.ListN.{length}
use lib.Seq.{sets}
use Rattle.forms.specs.Edition.{edition}
use Rattle.fields.specs.Places.{fields_at}
use Rattle.conversion_survey.specs.SurveyAnswers.{LinesThere}
use Rattle.conversion_survey.proofs.SurveyedFields.{turned}
use Rattle.conversion_write.proofs.put_entries.Given as goal

abbrev pub invariant-loop-field : goal.invariant-loop-field
invariant-loop-field l = (sets l.initial.out l.o (turned l.editions.from l.editions.to (fields_at l.p l.at)) ≡ sets l.out l.end (turned l.editions.from l.editions.to (fields_at l.p l.here))) × LinesThere (edition l.editions.from).line_width (fields_at l.p l.here) × (l.end + length (turned l.editions.from l.editions.to (fields_at l.p l.here)) ≤ length l.out) × (length l.out ≡ length l.initial.out)

abbrev pub decreases-loop-field : goal.decreases-loop-field
decreases-loop-field l = length l.p - l.here
