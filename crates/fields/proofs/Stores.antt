-- The stores of a field. Assumes nothing.
use mathlib.Core.Path.{◌≡◌, sym, ◌∙◌}
use mathlib.Core.List.{List, ◌∷◌}
use Prim.Native.Nat.{ℕ, ◌+◌}
use lib.ListN.{length}
use lib.Seq.{sets}
use Rattle.number_bytes.specs.Numbers.{unsigned_bytes}
use Rattle.number_bytes.proofs.Stores.{sets-append}
use Rattle.fields.specs.Fields.{field_bytes}

-- The stores of a head and of the contents behind it are those of the field.
pub put-field : (out : List ℕ) {out₁ out₂ : List ℕ} (at tag n : ℕ) (contents : List ℕ) → out₁ ≡ sets out at (tag ∷ unsigned_bytes 2 n) → out₂ ≡ sets out₁ (at + 3) contents
    → length contents ≡ n → out₂ ≡ sets out at (field_bytes tag contents)
unfolding field_bytes unsigned_bytes
put-field out at tag n contents e₁ e₂ l = e₂ ∙ rw (e₁, l) (sym (sets-append (tag ∷ unsigned_bytes 2 n) contents out at))
