-- Behind a new line only its own closes can hold, where none of the lines before it closes. Assumes nothing.
use mathlib.Core.Path.{◌≡◌, refl, sym, ◌∙◌, ap, subst}
use mathlib.Core.Bool.{Bool, true, false}
use mathlib.Core.List.{List, [], ◌∷◌}
use Prim.Native.Nat.{ℕ, zero, suc, ◌+◌, ◌-◌, ◌*◌, ◌/◌, ◌%◌, ◌≤◌, ◌<◌}
use native.Mathlib.Omega.{arith}
use borrow.Author.Tests.{lt-ltb, le-ltb}
use lib.IntN.{ℤ}
use lib.ListN.{length}
use Rattle.forms.specs.Forms.{Line, Formula}
use Rattle.calculus.specs.Rules.{Row, CloseNumber, CloseStride}
use Rattle.proof.specs.Rows.{line_at, by_number, by_stride}
use Rattle.enumeration.specs.Sequence.{close_formula, if_accepted}
use Rattle.enumeration.specs.Numbering.{close_count, close_at}
use Rattle.enumeration.specs.Search as search
use Rattle.enumeration.specs.Search.{Found, first_found, if_none_left, first_row_count, proofs_beginning, proofs_from}
use Rattle.enumeration.proofs.Searched.{next_more}
use Rattle.lines.specs.Buffer.{lines_in}
use Rattle.lines.proofs.Lines.{length-lines, line-at}
use Rattle.lines.specs.Ready.{LinesKept}
use Rattle.enumeration_rows.specs.Applied.{CloseHolds}
use Rattle.std.specs.Prelude.{Option, None, Some, Result, Ok, is_some, not}
use Rattle.enumeration_rows.specs.declared.found.Rows.{Rows}
use Rattle.enumeration_rows.specs.declared.found.Rows.TheVariants.{One}
use Rattle.enumeration_rows.specs.declared.found.NotAmong.{NotAmong}
use Rattle.enumeration_rows.specs.Searching.{Finds, Unclosed}
use Rattle.enumeration_rows.proofs.FoundRows.{or-none-left}
use Rattle.enumeration_rows.proofs.Closes.{kept-lines, ClosesLeft, closes-found, closes-on}

-- ---- closes that do not hold
none_both : (f g : Found) → if_none_left f g ≡ search.none_left → (f ≡ search.none_left) × (g ≡ search.none_left)
unfolding if_none_left
none_both search.not_among g e = absurd (let z : ◌≡◌ {A = ℕ} 0 1 = cc in omega arith)
none_both search.none_left g e = (refl, e)
none_both (search.at rs) g e = absurd (let z : ◌≡◌ {A = ℕ} 0 1 = cc in omega arith)

module _ (ls : List Line) where
  none_from : first_found (proofs_from 0 ls 0) ≡ search.none_left → (c : ℕ) → c ≤ close_count (length ls) → first_found (proofs_from 0 ls c) ≡ search.none_left
  unfolding first_row_count
  none_from e zero h = e
  none_from e (suc c) h = (none_both (first_found (proofs_beginning 0 ls c)) (first_found (proofs_from 0 ls (suc c))) (sym (next_more ls 0 c (omega arith)) ∙ none_from e c (omega arith))).1

  none-at : first_found (proofs_from 0 ls 0) ≡ search.none_left → (c : ℕ) → c < close_count (length ls) → first_found (proofs_beginning 0 ls c) ≡ search.none_left
  unfolding first_row_count
  none-at e c h = (none_both (first_found (proofs_beginning 0 ls c)) (first_found (proofs_from 0 ls (suc c))) (sym (next_more ls 0 c h) ∙ none_from e c (omega arith))).0

  -- m of them are passed over
  passed : (c m : ℕ) → c + m ≤ close_count (length ls) → ((x : ℕ) → c ≤ x → x < c + m → first_found (proofs_beginning 0 ls x) ≡ search.none_left) → first_found (proofs_from 0 ls c) ≡ first_found (proofs_from 0 ls (c + m))
  unfolding first_row_count
  passed c zero h p = let e : c ≡ c + 0 = omega arith in ap (λ (x : ℕ). first_found (proofs_from 0 ls x)) e
  passed c (suc m) h p =
      let e : suc c + m ≡ c + suc m = omega arith in
      next_more ls 0 c (omega arith)
      ∙ ap (λ (f : Found). if_none_left f (first_found (proofs_from 0 ls (suc c)))) (p c (omega arith) (omega arith))
      ∙ or-none-left (first_found (proofs_from 0 ls (suc c)))
      ∙ passed (suc c) m (omega arith) (λ x a b. p x (omega arith) (omega arith))
      ∙ ap (λ (x : ℕ). first_found (proofs_from 0 ls x)) e

-- ---- a line closes behind a new line as before it
by-formula : (ls : List Line) (r : Row) → List (List Row)
by-formula ls r = if_accepted (close_formula ls r) (λ (I : Formula). (r ∷ []) ∷ [])

module _ (K : ℕ) (kinds : List ℕ) (buf : List ℤ) (n : ℕ) where
  same_number : (i : ℕ) → i < n → close_formula (lines_in K kinds buf (n + 1)) (CloseNumber i) ≡ close_formula (lines_in K kinds buf n) (CloseNumber i)
  unfolding close_formula by_number line_at
  same_number i h = rw (line-at K kinds buf (n + 1) i (omega arith), line-at K kinds buf n i h)

  same-stride : (i g : ℕ) → i < n → close_formula (lines_in K kinds buf (n + 1)) (CloseStride i g) ≡ close_formula (lines_in K kinds buf n) (CloseStride i g)
  unfolding close_formula by_stride line_at
  same-stride i g h = rw (line-at K kinds buf (n + 1) i (omega arith), line-at K kinds buf n i h)

  numbered : (m c : ℕ) → first_found (proofs_beginning 0 (lines_in K kinds buf m) c) ≡ first_found (by-formula (lines_in K kinds buf m) (close_at m c))
  unfolding proofs_beginning by-formula
  numbered m c = ap (λ (x : ℕ). first_found (by-formula (lines_in K kinds buf m) (close_at x c))) (length-lines K kinds buf m)

  module _ (none : first_found (proofs_from 0 (lines_in K kinds buf n) 0) ≡ search.none_left) where
    -- close x, which was close c
    old-close : (x c : ℕ) (r : Row) → c < close_count n → close_at (n + 1) x ≡ r → close_at n c ≡ r → close_formula (lines_in K kinds buf (n + 1)) r ≡ close_formula (lines_in K kinds buf n) r
        → first_found (proofs_beginning 0 (lines_in K kinds buf (n + 1)) x) ≡ search.none_left
    unfolding by-formula
    old-close x c r h p q e =
        numbered (n + 1) x
        ∙ ap (λ (r : Row). first_found (by-formula (lines_in K kinds buf (n + 1)) r)) p
        ∙ ap (λ f. first_found (if_accepted f (λ (I : Formula). (r ∷ []) ∷ []))) e
        ∙ ap (λ (r : Row). first_found (by-formula (lines_in K kinds buf n) r)) (sym q)
        ∙ sym (numbered n c)
        ∙ none-at (lines_in K kinds buf n) none c (rw (length-lines K kinds buf n) h)

    old-number : (x : ℕ) → x < n → first_found (proofs_beginning 0 (lines_in K kinds buf (n + 1)) x) ≡ search.none_left
    unfolding close_at
    old-number x h = old-close x x (CloseNumber x) (omega arith) (rw (lt-ltb x (n + 1) (omega arith))) (rw (lt-ltb x n h)) (same_number x h)

    old-stride : (x : ℕ) → x < 3 * n → first_found (proofs_beginning 0 (lines_in K kinds buf (n + 1)) (n + 1 + x)) ≡ search.none_left
    unfolding close_at
    old-stride x h =
        let a : (n + 1 + x) - (n + 1) ≡ x = omega arith in
        let b : (n + x) - n ≡ x = omega arith in
        let i : x / 3 < n = omega arith in
        old-close (n + 1 + x) (n + x) (CloseStride (x / 3) (2 + x % 3)) (omega arith) (rw (le-ltb (n + 1 + x) (n + 1) (omega arith), a)) (rw (le-ltb (n + x) n (omega arith), b)) (same-stride (x / 3) (2 + x % 3) i)

    to_number : first_found (proofs_from 0 (lines_in K kinds buf (n + 1)) 0) ≡ first_found (proofs_from 0 (lines_in K kinds buf (n + 1)) n)
    to_number =
        let z : 0 + n ≡ n = omega arith in
        passed (lines_in K kinds buf (n + 1)) 0 n (omega (arith, length-lines K kinds buf (n + 1))) (λ x a b. old-number x (omega arith))
        ∙ ap (λ (x : ℕ). first_found (proofs_from 0 (lines_in K kinds buf (n + 1)) x)) z

    to-strides : first_found (proofs_from 0 (lines_in K kinds buf (n + 1)) (n + 1)) ≡ first_found (proofs_from 0 (lines_in K kinds buf (n + 1)) (n + 1 + 3 * n))
    to-strides = passed (lines_in K kinds buf (n + 1)) (n + 1) (3 * n) (omega (arith, length-lines K kinds buf (n + 1)))
        (λ x a b. let e : n + 1 + (x - (n + 1)) ≡ x = omega arith in
        subst (λ (y : ℕ). first_found (proofs_beginning 0 (lines_in K kinds buf (n + 1)) y) ≡ search.none_left) e (old-stride (x - (n + 1)) (omega arith)))

-- ---- as the search has it
module _ {K n : ℕ} {kinds : List ℕ} {buf : List ℤ} {b : Bool} (u : Unclosed K n kinds buf b) {h : Bool} (held : CloseHolds K kinds buf (n + 1) (close_at (n + 1) n) h) (t : b ≡ true) where
  -- up to the number of the new line
  to-own : ClosesLeft K (n + 1) kinds buf 0 n
  to-own = record { same = to_number K kinds buf n (u.none t) }

  below : n < close_count (n + 1)
  below = omega arith

  pub own-number : h ≡ true → Finds K (n + 1) 0 (first_found (proofs_from 0 (lines_in K kinds buf (n + 1)) 0)) kinds buf kinds buf (Ok (Some (One n)))
  own-number y = closes-found to-own below held y

  pub own-strides : h ≡ false → {r : Result (Option Rows) NotAmong} → Finds K (n + 1) 0 (first_found (proofs_from 0 (lines_in K kinds buf (n + 1)) (4 * n + 1))) kinds buf kinds buf r
      → Finds K (n + 1) 0 (first_found (proofs_from 0 (lines_in K kinds buf (n + 1)) 0)) kinds buf kinds buf r
  own-strides y s =
      let e : 4 * n + 1 ≡ n + 1 + 3 * n = omega arith in
      record {
        kept = s.kept;
        is = s.is ∙ ap (λ (c : ℕ). first_found (proofs_from 0 (lines_in K kinds buf (n + 1)) c)) e ∙ sym ((closes-on to-own below held y).same ∙ to-strides K kinds buf n (u.none t));
        within = s.within;
        inferences = s.inferences;
      }

pub unclosed-found : {K n : ℕ} {kinds : List ℕ} {buf : List ℤ} {r : Option Rows} {b : Bool} → Finds K n 0 (first_found (proofs_from 0 (lines_in K kinds buf n) 0)) kinds buf kinds buf (Ok r) → is_some r ≡ not b → Unclosed K n kinds buf b
unclosed-found {r = None} s e = record { none = λ _. sym s.is }
unclosed-found {r = Some rows} {b = b} s e = record { none = λ t. absurd (go b e t) }
  where
    go : (b : Bool) → true ≡ not b → b ≡ true → ⊥
    go true e t = cc
    go false e t = cc

pub unclosed-kept : {K n : ℕ} {kinds : List ℕ} {buf : List ℤ} {kinds' : List ℕ} {buf' : List ℤ} {b : Bool} → LinesKept K n kinds buf kinds' buf' → Unclosed K n kinds buf b → Unclosed K n kinds' buf' b
unclosed-kept k u = record { none = λ t. ap (λ (ls : List Line). first_found (proofs_from 0 ls 0)) (kept-lines k) ∙ u.none t }
