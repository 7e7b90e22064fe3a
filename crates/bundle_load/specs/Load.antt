-- The constraints of a bundle as lines of the buffer: what loading asks and leaves. Assumes nothing.
use Rattle.std.specs.Prelude.{◌≡◌, Bool, true, false, cond, T, eqb, List, ◌++◌, ℕ, suc, ◌+◌, ◌*◌, ◌≤◌, ◌<◌, ℤ, pos, length, get_or, drop, Ok}
use Rattle.std.proofs.Math.Seq.{paste}
use Rattle.integers.specs.Magnitude.{Within}
use Rattle.forms.specs.Edition.{edition, edition1, newest_edition}
use Rattle.forms.specs.Forms.{Form, Side, Line, Constraint, kind_on, ◌·◌}
use Rattle.forms.specs.Flat.{constraint_kind_of}
use Rattle.number_bytes.specs.Numbers.{form_from, signeds}
use Rattle.fields.specs.Fields.{Fields}
use Rattle.bundle.specs.Bundle.{form_small}
use Rattle.bundle_scan.specs.Scan.{counted}
use Rattle.lines.specs.Buffer.{size, times, lines_in, Bounded}

-- n numbers of w bytes from `start` on are within the range, and have room at `at`.
pub record Copies (s : List ℕ) (start w n : ℕ) (buf : List ℤ) (at : ℕ) : Type 0 where
  pub bytes : start + n * w ≤ length s
  pub room : at + n ≤ length buf
  pub small : (j : ℕ) → j < n → Within edition1.range (get_or (signeds w n (drop start s)) j (pos 0))

-- n numbers are stored at a place, and are within the range.
pub record NumbersStored (buf : List ℤ) (at : ℕ) (zs : List ℤ) (n : ℕ) (buf' : List ℤ) : Type 0 where
  pub is : buf' ≡ paste buf at zs n
  pub small : (j : ℕ) → j < n → Within edition1.range (get_or zs j (pos 0))

-- An A line has tA = t; a B line has tA = 0.
abbrev pub partial_of : (in_a : Bool) → List ℤ → List ℤ
partial_of true zs = zs
partial_of false zs = times (pos 0) zs

abbrev pub partial_form : (in_a : Bool) → Form → Form
partial_form true t = t
partial_form false t = pos 0 · t

abbrev pub side_of : (in_a : Bool) → Side
side_of true = Side.A
side_of false = Side.B

abbrev pub line_of : (in_a : Bool) → Constraint → Line
line_of in_a c = record { kind = kind_on (side_of in_a) c.kind; t = c.form; t_A = partial_form in_a c.form }

-- The byte of a line's kind, by that of its constraint: 2 is a t ≠ 0, of B 3.
abbrev pub line_byte : (in_a : Bool) (byte : ℕ) → ℕ
line_byte true b = b
line_byte false b = cond (eqb b 2) 3 b

-- The buffers have room for c lines.
pub record Space (K c : ℕ) (kinds : List ℕ) (buf : List ℤ) : Type 0 where
  pub constants : K ≤ edition1.constants
  pub room : c * size K ≤ length buf
  pub most : c ≤ (edition newest_edition).lines
  pub kinds_room : c ≤ length kinds

-- Line n with the form of numbers of w bytes that starts at a place, of a constraint's kind.
pub record Loads (s : List ℕ) (start w K kind : ℕ) (kinds : List ℕ) (buf : List ℤ) (n : ℕ) : Type 0 where
  pub space : Space K (suc n) kinds buf
  pub bytes : start + (K + 1) * w ≤ length s
  pub small : T (form_small edition1.range (form_from w K (drop start s)))
  pub kind_few : kind ≤ 2

-- The lines ls stand behind the first n, which stay as they were; so do the lengths.
pub record Loaded (K : ℕ) (kinds : List ℕ) (buf : List ℤ) (n : ℕ) (ls : List Line) (kinds' : List ℕ) (buf' : List ℤ) : Type 0 where
  pub lines : lines_in K kinds' buf' (n + length ls) ≡ lines_in K kinds buf n ++ ls
  pub bounded : Bounded K buf n → Bounded K buf' (n + length ls)
  pub kinds_length : length kinds' ≡ length kinds
  pub lines_length : length buf' ≡ length buf

-- The line of one form.
abbrev pub form_line : (in_a : Bool) (w K kind : ℕ) (s : List ℕ) (start : ℕ) → Line
form_line in_a w K kind s start = line_of in_a (record { kind = constraint_kind_of kind; form = form_from w K (drop start s) })

-- Fields that are m constraints without fault, of numbers of w bytes, have room behind the first n lines.
pub record Able (w K : ℕ) (fs : Fields) (kinds : List ℕ) (buf : List ℤ) (n : ℕ) : Type 0 where
  pub m : ℕ
  pub is : counted w K 0 fs ≡ Ok m
  pub space : Space K (n + m) kinds buf
