-- The laws of the lines in a buffer: the line at a number, and what a new line leaves of those before it. Assumes nothing.
use mathlib.Core.Path.{◌≡◌, refl, sym, ◌∙◌, ap, ap₂}
use mathlib.Core.List.{List, [], ◌∷◌}
use mathlib.Core.Logic.{⊎_elim}
use mathlib.Core.Option.{none, some}
use Prim.Native.Nat.{ℕ, zero, suc, ◌+◌, ◌*◌, ◌<◌, ◌≤◌}
use native.Mathlib.Nat.{mul-le-mul, mul-le-mul_right, eq-or-lt_of_le}
use native.Mathlib.Omega.{arith}
use lib.IntN.{ℤ, pos}
use lib.ListN.{length, get_elem?, length-append}
use Rattle.forms.specs.Edition.{edition, edition1, newest_edition}
use Rattle.forms.specs.Forms.{Form, LineKind, Line}
use Rattle.calculus.specs.Rules.{◌▷◌}
use Rattle.lines.specs.Parts.{Agree}
use Rattle.lines.proofs.Parts.{agree-le, agree-get_d, agree-part, get_elem?-snoc-below, get_elem?-snoc, get_elem?-past}
use Rattle.forms.specs.Flat.{line_kind_of, form_in}
use Rattle.lines.specs.Buffer.{size, line_in, lines_in, Bounded}

pub form-ext : {s t : Form} → s.coeffs ≡ t.coeffs → s.d ≡ t.d → s ≡ t
form-ext c e = ap₂ (λ (l : List ℤ) (z : ℤ). record { coeffs = l; d = z }) c e

-- A line of any kind.
abbrev pub line_as : LineKind → Form → Form → Line
line_as k t t_A = record { kind = k; t = t; t_A = t_A }

pub line-ext : {k l : LineKind} {s t s_A t_A : Form} → k ≡ l → s ≡ t → s_A ≡ t_A → line_as k s s_A ≡ line_as l t t_A
line-ext e f g = cc

-- Line i ends before line n starts.
pub before : (K : ℕ) {i n : ℕ} → i < n → i * size K + size K ≤ n * size K
before K {i} {n} h = omega (arith, mul-le-mul_right (size K) h)

-- A line's place is a small number.
pub place-small : {K i : ℕ} → K ≤ edition1.constants → i ≤ (edition newest_edition).lines → i * size K ≤ 34000
place-small {K} {i} hK hi = let h : size K ≤ 34 = omega arith in omega (arith, mul-le-mul hi h)

module _ (K : ℕ) (kinds : List ℕ) (buf : List ℤ) where
  pub length-lines : (n : ℕ) → length (lines_in K kinds buf n) ≡ n
  unfolding lines_in
  length-lines zero = refl
  length-lines (suc n) = length-append (lines_in K kinds buf n) (line_in K kinds buf n ∷ []) ∙ omega (arith, length-lines n)

  pub line-at : (n i : ℕ) → i < n → get_elem? (lines_in K kinds buf n) i ≡ some (line_in K kinds buf i)
  unfolding lines_in
  line-at zero i h = absurd (omega arith)
  line-at (suc n) i h =
      ⊎_elim
      (λ (e : i ≡ n). rw e (rw (length-lines n) at (get_elem?-snoc (lines_in K kinds buf n) (line_in K kinds buf n))))
      (λ (l : i < n). get_elem?-snoc-below (lines_in K kinds buf n) (line_in K kinds buf n) i (omega (arith, length-lines n)) ∙ line-at n i l)
      (eq-or-lt_of_le (omega arith))

  pub line-past : (n i : ℕ) → n ≤ i → get_elem? (lines_in K kinds buf n) i ≡ none
  line-past n i h = get_elem?-past (lines_in K kinds buf n) i (omega (arith, length-lines n))

-- A form depends on the numbers up to its end only.
module _ (K : ℕ) {buf buf' : List ℤ} where
  pub form-same : {m : ℕ} → Agree m buf buf' → (at : ℕ) → at + K < m → form_in K buf at ≡ form_in K buf' at
  form-same a at h = form-ext (agree-part a at K (omega arith)) (agree-get_d a (at + K) (pos 0) h)

  module _ {kinds kinds' : List ℕ} where
    pub line_same : {n : ℕ} → Agree (n * size K) buf buf' → Agree n kinds kinds' → (i : ℕ) → i < n → line_in K kinds buf i ≡ line_in K kinds' buf' i
    unfolding line_in
    line_same {n} a k i h =
        line-ext
        (ap line_kind_of (agree-get_d k i 0 h))
        (form-same a (i * size K) (omega (arith, before K h)))
        (form-same a (i * size K + (K + 1)) (omega (arith, before K h)))

    -- The first n lines depend on their numbers and kinds only.
    pub lines_same : (n : ℕ) → Agree (n * size K) buf buf' → Agree n kinds kinds' → lines_in K kinds buf n ≡ lines_in K kinds' buf' n
    unfolding lines_in
    lines_same zero a k = refl
    lines_same (suc n) a k =
        let h : n < suc n = omega arith in
        ap₂ ◌▷◌ (lines_same n (agree-le (omega (arith, before K h)) a) (agree-le (omega arith) k)) (line_same a k n h)

    -- What is written behind the first n lines keeps them, and makes line n.
    pub lines_more : (n : ℕ) → Agree (n * size K) buf buf' → Agree n kinds kinds'
        → lines_in K kinds' buf' (suc n) ≡ lines_in K kinds buf n ▷ line_in K kinds' buf' n
    unfolding lines_in
    lines_more n a k = ap (λ (ls : List Line). ls ▷ line_in K kinds' buf' n) (sym (lines_same n a k))

-- ---- bounds
pub bounded-same : {K n : ℕ} {buf buf' : List ℤ} → Agree (n * size K) buf buf' → Bounded K buf n → Bounded K buf' n
bounded-same {K} {n} a b = record { small = λ x h. rw (sym (agree-get_d a x (pos 0) h)) (b.small x h) }

pub bounded-less : {K m n : ℕ} {buf : List ℤ} → m ≤ n → Bounded K buf n → Bounded K buf m
bounded-less {K} {m} {n} h b = record { small = λ x l. b.small x (omega (arith, mul-le-mul_right (size K) h)) }
