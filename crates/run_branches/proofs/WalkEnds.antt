-- How a walk ends, apart from its own fields. Assumes nothing.
use mathlib.Core.Path.{◌≡◌, refl, sym, ap}
use Rattle.answers.specs.declared.Answer.{Answer}
use Rattle.answers.specs.Answers.{Result, refused, accepted, ◌>>=◌}
use Rattle.answers.proofs.Results.{never}
use Rattle.fields.specs.Fields.{Field}
use Rattle.run.specs.Uniform.{Walked}
use Rattle.run_fields.specs.Kinds.{behind}
use Rattle.run_branches.specs.Walks.{End, ended}

abbrev pub end_at : Walked → End
end_at w = record { rows = w.rows; unlike = w.unlike; after = w.after }

-- One that ends so: refused, or closed by some walk.
pub ended-refused : {R : Result Walked} {a : Answer} → ended R ≡ refused a → R ≡ refused a
unfolding ended ◌>>=◌
ended-refused {R = refused b} {a = a} e = let p : b ≡ a = cc in ap refused p
ended-refused {R = accepted w} e = absurd (never (sym e))

pub record Accepted (R : Result Walked) (x : End) : Type 0 where
  pub walked : Walked
  pub is : R ≡ accepted walked
  pub rows_is : walked.rows ≡ x.rows
  pub unlike-is : walked.unlike ≡ x.unlike
  pub after_is : walked.after ≡ x.after

pub ended-accepted : {R : Result Walked} {x : End} → ended R ≡ accepted x → Accepted R x
unfolding ended ◌>>=◌
ended-accepted {R = refused a} e = absurd (never e)
ended-accepted {R = accepted w} {x = x} e =
    let p : end_at w ≡ x = cc in
    record { walked = w; is = refl; rows_is = ap (λ x. x.rows) p; unlike-is = ap (λ x. x.unlike) p; after_is = ap (λ x. x.after) p }

-- What stands before it does not matter.
pub ended-behind : (f : Field) (R : Result Walked) → ended (R >>= λ w. accepted (behind f w)) ≡ ended R
unfolding ended ◌>>=◌
ended-behind f (refused a) = refl
ended-behind f (accepted w) = refl
