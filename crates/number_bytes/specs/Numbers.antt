-- Big-endian numbers of any width, unsigned and two's complement. Assumes nothing.
use Rattle.std.specs.Prelude.{cond, List, [], ◌∷◌, ◌++◌, ℕ, zero, suc, ◌+◌, ◌*◌, ◌-◌, ◌/◌, ◌%◌, ◌^◌, ◌<◌, ltb, ℤ, pos, negsuc, ◌-ℤ◌, length, take, drop}
use Rattle.forms.specs.Forms.{Form, All}

-- Each is a byte, as the elements of a slice of bytes are.
abbrev pub Bytes : List ℕ → Type 0
Bytes = All (λ b. b < 256)

-- The number whose first part is n and whose other bytes these are.
abbrev pub nat_from : ℕ → List ℕ → ℕ
nat_from n [] = n
nat_from n (b ∷ bs) = nat_from (n * 256 + b) bs

-- All numbers are big-endian.
unfoldable pub unsigned : List ℕ → ℕ
unsigned bs = nat_from 0 bs

-- Signed ones are two's complement: n, below full, stands for n or, in the upper half, for n - full.
unfoldable pub complement : (full n : ℕ) → ℤ
complement full n = cond (ltb (n + n) full) (pos n) (pos n -ℤ pos full)

unfoldable pub signed : List ℕ → ℤ
signed bs = complement (256 ^ length bs) (unsigned bs)

-- The other way: w bytes of a number.
unfoldable pub unsigned_bytes : (w : ℕ) → ℕ → List ℕ
unsigned_bytes zero n = []
unsigned_bytes (suc w) n = unsigned_bytes w (n / 256) ++ (n % 256 ∷ [])

unfoldable pub residue : (full : ℕ) → ℤ → ℕ
residue full (pos n) = n
residue full (negsuc n) = full - suc n

unfoldable pub signed_bytes : (w : ℕ) → ℤ → List ℕ
signed_bytes w z = unsigned_bytes w (residue (256 ^ w) z)

-- n numbers of w bytes each.
unfoldable pub unsigneds : (w n : ℕ) → List ℕ → List ℕ
unsigneds w zero bs = []
unsigneds w (suc n) bs = unsigned (take w bs) ∷ unsigneds w n (drop w bs)

unfoldable pub unsigneds_bytes : (w : ℕ) → List ℕ → List ℕ
unsigneds_bytes w [] = []
unsigneds_bytes w (n ∷ ns) = unsigned_bytes w n ++ unsigneds_bytes w ns

-- n signed numbers of w bytes each.
unfoldable pub signeds : (w n : ℕ) → List ℕ → List ℤ
signeds w zero bs = []
signeds w (suc n) bs = signed (take w bs) ∷ signeds w n (drop w bs)

unfoldable pub signeds_bytes : (w : ℕ) → List ℤ → List ℕ
signeds_bytes w [] = []
signeds_bytes w (z ∷ zs) = signed_bytes w z ++ signeds_bytes w zs

-- A form as K+1 numbers: the K coefficients, then d.
unfoldable pub flat : Form → List ℤ
flat t = t.coeffs ++ (t.d ∷ [])

unfoldable pub form_from : (w K : ℕ) → List ℕ → Form
form_from w K bs = record { coeffs = signeds w K bs; d = signed (take w (drop (K * w) bs)) }

unfoldable pub form_bytes : (w : ℕ) → Form → List ℕ
form_bytes w t = signeds_bytes w (flat t)

-- the bytes of one form
abbrev pub form_width : (w K : ℕ) → ℕ
form_width w K = suc K * w
