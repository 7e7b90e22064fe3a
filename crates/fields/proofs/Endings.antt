-- Each way through `ending_at`, over plain values. Assumes nothing.
use mathlib.Core.Path.{◌≡◌}
use mathlib.Core.Bool.{true, false}
use mathlib.Core.List.{List}
use Prim.Native.Nat.{ℕ}
use Rattle.answers.specs.Answers.{◌>>◌, need}
use Rattle.fields.specs.declared.FileKind.{FileKind}
use Rattle.fields.specs.declared.WholeField.{WholeField}
use Rattle.fields.specs.declared.End.{End}
use Rattle.std.specs.Prelude.{Ok, Err}
use Rattle.std.specs.declared.result.Result as code
use Rattle.answers.specs.Refusals.{fault}
use Rattle.answers.specs.declared.refusals.Refusal.{Refusal}
use Rattle.fields.specs.Header.{known, finished}
use Rattle.fields.specs.Places.{fields_at, next_of}
use Rattle.fields.specs.Ending.{IsEnding}
use Rattle.fields.proofs.Places.{Starts, next-cut, next-ends}

module _ {kind : FileKind} {s : List ℕ} {at : ℕ} {r : code.Result WholeField End} (e : r ≡ next_of (fields_at s at)) where
  pub ending-none : {a : ℕ} → r ≡ Err (End.Ends a) → IsEnding kind s at (Ok tt)
  unfolding finished
  ending-none q = record { is = λ file. rw (next-ends (fields_at s at) e q) }

  pub ending-cut : {a : ℕ} → r ≡ Err (End.Cut a) → IsEnding kind s at (Err (fault Refusal.Truncated a))
  unfolding finished
  ending-cut q = record { is = λ file. rw (next-cut (fields_at s at) e q) }

module _ {kind : FileKind} {s : List ℕ} {at a tag start len next : ℕ} (k : Starts s at a tag start len next) where
  pub ending-known : known kind tag ≡ true → IsEnding kind s at (Err (fault Refusal.FieldAfterEnd a))
  unfolding finished need ◌>>◌
  ending-known h = record { is = λ file. rw (k.is, h) }

  pub ending-unknown : known kind tag ≡ false → IsEnding kind s at (Err (fault Refusal.UnknownTag a))
  unfolding finished need ◌>>◌
  ending-unknown h = record { is = λ file. rw (k.is, h) }
