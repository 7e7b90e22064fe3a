-- A meaning that is faithful. Assumes nothing.
use mathlib.Core.Path.{◌≡◌, refl, ◌∙◌, ap, ap₂}
use mathlib.Core.List.{List, ◌∷◌, map}
use Prim.Native.Nat.{ℕ}
use Rattle.forms.specs.Edition.{edition}
use Rattle.forms.specs.Forms.{Form, ConstraintKind, Constraint}
use Rattle.fields.specs.Fields.{Item}
use Rattle.bundle.specs.Layout.{Each, nil, cons, States}
use Rattle.guarantee.specs.Meant.{kind_meant, constraint_meant, meant_by, MeaningExists}

one-meant : (n K : ℕ) {i : Item} {c : Constraint} → States (edition n) K i c → constraint_meant n K i ≡ c
one-meant n K s = ap₂ (λ (k : ConstraintKind) (t : Form). record { kind = k; form = t }) (ap kind_meant s.kind) s.form

all-meant : (n K : ℕ) {is : List Item} {cs : List Constraint} → Each (States (edition n) K) is cs → map (constraint_meant n K) is ≡ cs
all-meant n K nil = refl
all-meant n K (cons s h) = ap₂ ◌∷◌ (one-meant n K s) (all-meant n K h)

pub meaning-exists : MeaningExists
meaning-exists = record { faithful = λ n o F K cs s. ap meant_by s.are ∙ ap (λ (l : List Constraint). (K, l)) (all-meant n K s.states) }
