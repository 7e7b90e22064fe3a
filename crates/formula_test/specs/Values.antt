-- The first register value that is out of range. Assumes nothing.
use Rattle.std.specs.Prelude.{◌≡◌, Bool, List, ℕ, ◌<◌, leb, ℤ, nat_abs, length, Some, None}
use Rattle.std.specs.declared.option.Option as opt
use Rattle.forms.specs.Edition.{edition1}
use Rattle.answers.specs.Answers.{answer, file_lent, Result, refused, accepted, each}
use Rattle.form_value.specs.Registers.{AllWithin}

-- A value is in range.
abbrev pub permitted : ℤ → Bool
permitted z = leb (nat_abs z) edition1.values

-- 23 at the first value out of range, if there is one; i is the first value's index.
unfoldable pub ranged : ℕ → List ℤ → Result (Unit {0})
ranged i values = each (λ j. answer 23 file_lent j) permitted i values

-- r is the index of the first value out of range, if there is one.
abbrev pub Outside : List ℤ → opt.Option ℕ → Type 0
Outside values None = (ranged 0 values ≡ accepted tt) × AllWithin values
Outside values (Some i) = (i < length values) × (ranged 0 values ≡ refused (answer 23 file_lent i))

pub record FirstOutside (values : List ℤ) (r : opt.Option ℕ) : Type 0 where
  pub is : Outside values r
