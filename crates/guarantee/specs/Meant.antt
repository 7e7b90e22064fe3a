-- A meaning that is faithful: what is asked of a writer's meaning in `Soundness` can be met. Assumes nothing.
use Rattle.std.specs.Prelude.{List, [], ◌∷◌, map, ℕ, get_or}
use Rattle.std.proofs.Math.Option.{Option, none, some}
use Rattle.forms.specs.Edition.{edition}
use Rattle.forms.specs.Forms.{ConstraintKind, ≠0, Constraint}
use Rattle.number_bytes.specs.Numbers.{form_from}
use Rattle.fields.specs.Fields.{Item, without_notes}
use Rattle.bundle.specs.Bundle.{kind_tagged}
use Rattle.guarantee.specs.Soundness.{Meaning, Faithful}

-- A field as a constraint of edition n over K constants (one of an unknown tag as t ≠ 0: it must mean something).
abbrev pub kind_meant : Option ConstraintKind → ConstraintKind
kind_meant none = ≠0
kind_meant (some k) = k

abbrev pub constraint_meant : (n K : ℕ) → Item → Constraint
constraint_meant n K i = record { kind = kind_meant (kind_tagged i.tag); form = form_from (edition n).coefficient_width K i.contents }

-- The second field's byte is K, the first one's the edition, the others are constraints; notes aside.
abbrev pub meant_by : List Item → ℕ × List Constraint
meant_by [] = (0, [])
meant_by (i ∷ []) = (0, [])
meant_by (i ∷ j ∷ body) = (get_or j.contents 0 0, map (constraint_meant (get_or i.contents 0 0) (get_or j.contents 0 0)) body)

abbrev pub meant : Meaning
meant F = meant_by (without_notes F)

pub record MeaningExists : Type 0 where
  pub faithful : Faithful meant
