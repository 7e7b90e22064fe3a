-- `conversion_survey::first_wide` meets its contract. Assumes nothing.
use mathlib.Core.Path.{◌≡◌}
use Prim.Native.Nat.{◌-◌}
use lib.ListN.{length}
use Rattle.forms.specs.Edition.{edition}
use Rattle.fields.specs.Places.{fields_at}
use Rattle.conversion_survey.specs.SurveyAnswers.{LinesThere}
use Rattle.conversion_survey.proofs.SurveyedFields.{fits}
use Rattle.conversion_survey.proofs.first_wide.Given as goal

abbrev pub invariant-loop-field : goal.invariant-loop-field
invariant-loop-field l = (fits l.editions.from l.editions.to (fields_at l.p l.at) ≡ fits l.editions.from l.editions.to (fields_at l.p l.here)) × LinesThere (edition l.editions.from).line_width (fields_at l.p l.here)

abbrev pub decreases-loop-field : goal.decreases-loop-field
decreases-loop-field l = length l.p - l.here
