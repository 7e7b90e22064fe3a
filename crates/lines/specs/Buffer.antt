-- The lines of a branch in one flat buffer. With K constants a form has K + 1 numbers, the coefficients first and d last; line i has its t and then its tA. Assumes nothing.
use Rattle.std.specs.Prelude.{◌≡◌, List, [], map, Bool, true, ℕ, zero, suc, ◌+◌, ◌*◌, ◌<◌, ◌≤◌, length, get_or, set, ℤ, pos, negsuc, ◌+ℤ◌, ◌*ℤ◌}
use Rattle.std.proofs.Math.Seq.{paste}
use Rattle.integers.specs.Magnitude.{Within, Factors}
use Rattle.forms.specs.Edition.{edition, edition1, newest_edition, multiplier_range}
use Rattle.forms.specs.Forms.{Line, sums, small, every}
use Rattle.forms.specs.Flat.{line_kind_of, form_in}
use Rattle.calculus.specs.Rules.{◌▷◌}
use Rattle.lines.specs.Parts.{part, Agree}

-- How many numbers a line has.
abbrev pub size : ℕ → ℕ
size K = 2 * (K + 1)

-- Line i of the buffer.
unfoldable pub line_in : (K : ℕ) (kinds : List ℕ) (buf : List ℤ) (i : ℕ) → Line
line_in K kinds buf i = record { kind = line_kind_of (get_or kinds i 0); t = form_in K buf (i * size K); t_A = form_in K buf (i * size K + (K + 1)) }

-- The first n lines of the buffer.
unfoldable pub lines_in : (K : ℕ) (kinds : List ℕ) (buf : List ℤ) (n : ℕ) → List Line
lines_in K kinds buf zero = []
lines_in K kinds buf (suc n) = lines_in K kinds buf n ▷ line_in K kinds buf n

-- Every number of the first n lines is within the range.
pub record Bounded (K : ℕ) (buf : List ℤ) (n : ℕ) : Type 0 where
  pub small : (x : ℕ) → x < n * size K → Within edition1.range (get_or buf x (pos 0))

-- A branch of n lines: they are bounded, and the buffer has room for one more.
pub record Branch (K : ℕ) (buf : List ℤ) (n : ℕ) : Type 0 where
  pub constants : K ≤ edition1.constants
  pub room : n * size K + size K ≤ length buf
  pub bounded : Bounded K buf n

-- f times each number.
abbrev pub times : ℤ → List ℤ → List ℤ
times f l = map (λ (c : ℤ). f *ℤ c) l

-- f times the w numbers at a and g times those at b, summed number by number.
unfoldable pub mixed : (f : ℤ) (a : ℕ) (g : ℤ) (b w : ℕ) → List ℤ → List ℤ
mixed f a g b w buf = sums (times f (part a w buf)) (times g (part b w buf))

-- What forming these sums leaves: r says whether all of them are within the range, and then buf' is buf with them in place of the w numbers at d; what is before d stays, and the length. A record, so that the places are inferred from it.
pub record Mixes (buf : List ℤ) (f : ℤ) (a : ℕ) (g : ℤ) (b d w : ℕ) (buf' : List ℤ) (r : Bool) : Type 0 where
  pub fits : r ≡ every (small edition1.range) (mixed f a g b w buf)
  pub is : r ≡ true → buf' ≡ paste buf d (mixed f a g b w buf) w
  pub keeps : Agree d buf buf'
  pub long : length buf' ≡ length buf

-- The buffer with f times line i and g times line j, summed, as line n.
unfoldable pub mixed_line : (K : ℕ) (f : ℤ) (i : ℕ) (g : ℤ) (j n : ℕ) → List ℤ → List ℤ
mixed_line K f i g j n buf = paste buf (n * size K) (mixed f (i * size K) g (j * size K) (size K) buf) (size K)

-- The buffer with x more at a place.
unfoldable pub raised : (at x : ℕ) → List ℤ → List ℤ
raised at x buf = set buf at (get_or buf at (pos 0) +ℤ pos x)

-- The buffer with t + x and tA + y in line n.
unfoldable pub raised_line : (K n x y : ℕ) → List ℤ → List ℤ
raised_line K n x y buf = raised (n * size K + (K + 1) + K) y (raised (n * size K + K) x buf)

-- The buffer with line i again as line n: as it stands, with t + x and tA + y, and with -t + x and -tA + y.
unfoldable pub copied_line : (K i n : ℕ) → List ℤ → List ℤ
copied_line K i n buf = mixed_line K (pos 1) i (pos 0) i n buf

unfoldable pub started_line : (K i n x y : ℕ) → List ℤ → List ℤ
started_line K i n x y buf = raised_line K n x y (copied_line K i n buf)

unfoldable pub negated_line : (K i n x y : ℕ) → List ℤ → List ℤ
negated_line K i n x y buf = raised_line K n x y (mixed_line K (negsuc 0) i (pos 0) i n buf)

-- What a sum of multiples asks: the w numbers at a and at b lie before the w numbers at d, and they and the factors are small. (Nothing is asked of the other numbers before d: when a line's tA is made its t stands there already.)
pub record SumAsked (buf : List ℤ) (f : ℤ) (a : ℕ) (g : ℤ) (b d w : ℕ) : Type 0 where
  pub first : a + w ≤ d
  pub second : b + w ≤ d
  pub third : d + w ≤ length buf
  pub factors : (x : ℕ) → x < w → Factors f (get_or buf (a + x) (pos 0)) g (get_or buf (b + x) (pos 0))

-- Lines i and j of a branch of n lines that has room for one more, and small factors.
pub record LineTerms (K : ℕ) (buf : List ℤ) (f : ℤ) (i : ℕ) (g : ℤ) (j n : ℕ) : Type 0 where
  pub branch : Branch K buf n
  pub first : i < n
  pub second : j < n
  pub space : n < (edition newest_edition).lines
  pub f_in : Within multiplier_range f
  pub g_in : Within multiplier_range g

-- The constant terms of line i's t and tA stay within the range when they are raised by x and y.
pub record Raised (K : ℕ) (buf : List ℤ) (i x y : ℕ) : Type 0 where
  pub t : Within edition1.range ((form_in K buf (i * size K)).d +ℤ pos x)
  pub t_A : Within edition1.range ((form_in K buf (i * size K + (K + 1))).d +ℤ pos y)

-- The same of line i negated.
pub record Negated (K : ℕ) (buf : List ℤ) (i x y : ℕ) : Type 0 where
  pub t : Within edition1.range (negsuc 0 *ℤ (form_in K buf (i * size K)).d +ℤ pos x)
  pub t_A : Within edition1.range (negsuc 0 *ℤ (form_in K buf (i * size K + (K + 1))).d +ℤ pos y)

-- Line i of a branch of n lines that has room for one more.
pub record LineCopy (K : ℕ) (buf : List ℤ) (i n : ℕ) : Type 0 where
  pub branch : Branch K buf n
  pub first : i < n
  pub space : n < (edition newest_edition).lines

-- The same, where it may be raised so.
pub record LineStart (K : ℕ) (buf : List ℤ) (i n x y : ℕ) : Type 0 where
  pub copy : LineCopy K buf i n
  pub fits : Raised K buf i x y

-- The same, where it may be negated and raised so.
pub record LineNegated (K : ℕ) (buf : List ℤ) (i n x y : ℕ) : Type 0 where
  pub copy : LineCopy K buf i n
  pub fits : Negated K buf i x y
