-- What the functions that write a formula's bytes ask and leave. docs/FORMAT.md, "Bytes and fields". Assumes nothing.
use Rattle.std.specs.Prelude.{◌≡◌, Bool, true, false, List, [], ◌++◌, ℕ, ◌+◌, ◌*◌, ◌<◌, ◌≤◌, ℤ, pos, length, get_or, take, ◌≤ℤ◌}
use Rattle.std.proofs.lemmas.List.Edits.{sets}
use Rattle.integers.specs.Magnitude.{Within}
use Rattle.integers.specs.Remainder.{remainder}
use Rattle.forms.specs.Edition.{edition1}
use Rattle.forms.specs.Forms.{Form, Formula, ◌divides◌}
use Rattle.forms.specs.Reduced.{reduced}
use Rattle.number_bytes.specs.Numbers.{signed_bytes}
use Rattle.number_bytes.specs.Ranges.{Held}
use Rattle.fields.specs.Fields.{field_bytes}
use Rattle.formula.specs.Formula.{encode}

-- No place in the scratch is above this, so no sum of places overflows: a byte of a proof adds at most 39 bytes to a formula.
abbrev pub scratch_limit : ℕ
scratch_limit = 80 * edition1.proof_bytes

-- The K + 1 numbers of the form at a place, all within the range.
pub record Numbered (K : ℕ) (buf : List ℤ) (at : ℕ) : Type 0 where
  pub constants : K ≤ edition1.constants
  pub room : at + K < length buf
  pub small : (x : ℕ) → x ≤ K → Within edition1.range (get_or buf (at + x) (pos 0))

-- A stride that can be written: 2 at least, and of four signed bytes.
pub record Divisor (g : ℤ) : Type 0 where
  pub low : pos 2 ≤ℤ g
  pub held : Held edition1.term_width g

-- How a number of a form is written may be asked of each, and gives one of four bytes; f is what it gives.
pub record Writes (asked : ℤ → Type 0) (gives : ℤ → ℤ → Type 0) : Type 0 where
  pub callable : (z : ℤ) → Within edition1.range z → asked z
  pub held : (z r : ℤ) → Within edition1.range z → gives z r → Held edition1.term_width r

pub record Gives (gives : ℤ → ℤ → Type 0) (f : ℤ → ℤ) : Type 0 where
  pub is : (z r : ℤ) → Within edition1.range z → gives z r → r ≡ f z

-- The bytes of I stand from o on, if there is room for them; o' is behind them.
pub record Puts (scratch : List ℕ) (o : ℕ) (I : Formula) (scratch' : List ℕ) (o' : ℕ) : Type 0 where
  pub long : length scratch' ≡ length scratch
  pub o_is : o' ≡ o + length (encode edition1 I)
  pub stored : o + length (encode edition1 I) ≤ length scratch → scratch' ≡ sets scratch o (encode edition1 I)

-- The same for the field without contents that an and or an or starts with.
pub record Heads (scratch : List ℕ) (o tag : ℕ) (scratch' : List ℕ) (o' : ℕ) : Type 0 where
  pub long : length scratch' ≡ length scratch
  pub o_is : o' ≡ o + 3
  pub stored : o + 3 ≤ length scratch → scratch' ≡ sets scratch o (field_bytes tag [])

-- The same for any bytes.
pub record Stores (scratch : List ℕ) (o : ℕ) (bytes scratch' : List ℕ) (o' : ℕ) : Type 0 where
  pub long : length scratch' ≡ length scratch
  pub o_is : o' ≡ o + length bytes
  pub stored : o + length bytes ≤ length scratch → scratch' ≡ sets scratch o bytes

-- The head of an or, where others follow; and what stands before a branch's formula in a rounding's: that, and then "E and".
abbrev pub or_bytes : (others : Bool) → List ℕ
or_bytes true = field_bytes 0x31 []
or_bytes false = []

abbrev pub front_bytes : (others : Bool) (E : Formula) → List ℕ
front_bytes others E = or_bytes others ++ field_bytes 0x32 [] ++ encode edition1 E

-- ---- the template of a stride part: what does not depend on the form's constant term, whose four bytes stand last
abbrev pub template_size : (K : ℕ) → ℕ
template_size K = 7 + edition1.term_width * K

-- The template begins like "g divides f", reduced.
pub record StrideTemplate (K g : ℕ) (f : Form) (template : List ℕ) : Type 0 where
  pub size : length f.coeffs ≡ K
  pub room : template_size K ≤ length template
  pub begins : take (template_size K) template ≡ take (template_size K) (encode edition1 (g divides reduced g f))

-- The stride part with the constant term d.
abbrev pub filled : (K g : ℕ) (d : ℤ) (template : List ℕ) → List ℕ
filled K g d template = take (template_size K) template ++ signed_bytes edition1.term_width (pos (remainder g d))
