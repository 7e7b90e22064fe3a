-- Two parts of a proof, compared field by field. Assumes nothing.
use Rattle.std.specs.Prelude.{◌≡◌, Bool, false, List, ℕ, suc, length, Some, None}
use Rattle.std.specs.declared.option.Option as code
use Rattle.fields.specs.Fields.{Fields, Item}
use Rattle.fields.specs.Places.{fields_at}
use Rattle.run.specs.Uniform.{same_items}
use Rattle.run_fields.specs.Spans.{Spans}

-- r tells whether the n fields from a on are those from b on, where there are so many.
pub record SameFields (p : List ℕ) (a b n : ℕ) (r : Bool) : Type 0 where
  pub is : {is js : List Item} {fs gs : Fields} → Spans (fields_at p a) is fs → Spans (fields_at p b) js gs → length is ≡ n → length js ≡ n → r ≡ same_items is js

-- The next fields are the same, so that it goes by those after them; or they differ, however many follow.
abbrev pub ComparesBy : (p : List ℕ) (a b : ℕ) → code.Option (ℕ × ℕ) → Type 0
ComparesBy p a b (Some next) = (n : ℕ) (r : Bool) → SameFields p next.0 next.1 n r → SameFields p a b (suc n) r
ComparesBy p a b None = (n : ℕ) → SameFields p a b (suc n) false

pub record Compares (p : List ℕ) (a b : ℕ) (r : code.Option (ℕ × ℕ)) : Type 0 where
  pub by : ComparesBy p a b r
