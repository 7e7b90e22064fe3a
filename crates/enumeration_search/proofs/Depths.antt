-- The proofs of one, two and three rows, one after the other. Assumes nothing.
use mathlib.Core.Path.{◌≡◌, sym, ◌∙◌, ap, ap₂, subst}
use mathlib.Core.List.{List}
use Prim.Native.Nat.{ℕ, suc, ◌+◌, ◌-◌, ◌≤◌, ◌<◌}
use native.Mathlib.Omega.{arith}
use lib.IntN.{ℤ}
use Rattle.forms.specs.Forms.{Line}
use Rattle.enumeration.specs.Sequence.{proofs_of}
use Rattle.enumeration.specs.Search as search
use Rattle.enumeration.specs.Search.{Found, first_found, next_found, if_none_left, if_not_among, proofs_from, first_of_depths, next_of_depths}
use Rattle.enumeration.proofs.Searched.{rows-numbered}
use Rattle.lines.specs.Buffer.{lines_in}
use Rattle.lines.proofs.Lines.{length-lines}
use Rattle.lines.specs.Ready.{LinesKept}
use Rattle.lines.proofs.Keeping.{kept_trans}
use Rattle.std.specs.Prelude.{Option, None, Some, Result, Ok, Err}
use Rattle.enumeration_rows.specs.declared.found.Rows.{Rows}
use Rattle.enumeration_rows.specs.declared.found.NotAmong.{NotAmong}
use Rattle.enumeration_rows.specs.Searching.{found_of, Finds, FindsAny}
use Rattle.enumeration_rows.proofs.FoundRows.{found-first, barred-first, among-first, or-none-left, or-not-among}
use Rattle.enumeration_rows.proofs.Closes.{kept-lines}

-- ---- the first of d inferences or more
pub record FirstLeft (K n : ℕ) (kinds₀ : List ℕ) (buf₀ : List ℤ) (start : ℕ) (kinds : List ℕ) (buf : List ℤ) (d : ℕ) : Type 0 where
  pub kept : LinesKept K n kinds₀ buf₀ kinds buf
  pub same : first_of_depths (3 - start) start (lines_in K kinds₀ buf₀ n) ≡ first_of_depths (3 - d) d (lines_in K kinds₀ buf₀ n)

first-unrolled : (d : ℕ) (ls : List Line) → d < 3 → first_of_depths (3 - d) d ls ≡ if_none_left (first_found (proofs_of d ls)) (first_of_depths (3 - suc d) (suc d) ls)
unfolding first_of_depths
first-unrolled d ls h = let e : 3 - d ≡ suc (3 - suc d) = omega arith in rw e

first-none : (d : ℕ) (ls : List Line) → 3 ≤ d → first_of_depths (3 - d) d ls ≡ search.none_left
unfolding first_of_depths
first-none d ls h = let e : 3 - d ≡ 0 = omega arith in rw e

module _ {K n : ℕ} {kinds₀ : List ℕ} {buf₀ : List ℤ} {start : ℕ} where
  module _ {kinds : List ℕ} {buf : List ℤ} {d : ℕ} (left : FirstLeft K n kinds₀ buf₀ start kinds buf d) where
    pub first_ended : 3 ≤ d → FindsAny K n (first_of_depths (3 - start) start (lines_in K kinds₀ buf₀ n)) kinds₀ buf₀ kinds buf (Ok None)
    first_ended h = record { kept = left.kept; is = sym (left.same ∙ first-none d (lines_in K kinds₀ buf₀ n) h); within = tt }

    module _ (few : n + 2 ≤ 6) (h : d < 3) {kinds₁ : List ℕ} {buf₁ : List ℤ} {found : Option Rows} (s : Finds K n d (first_found (proofs_from d (lines_in K kinds buf n) 0)) kinds buf kinds₁ buf₁ (Ok found)) where
      unrolled : first_of_depths (3 - d) d (lines_in K kinds₀ buf₀ n) ≡ if_none_left (found_of n (Ok found)) (first_of_depths (3 - suc d) (suc d) (lines_in K kinds₀ buf₀ n))
      unrolled = first-unrolled d (lines_in K kinds₀ buf₀ n) h
          ∙ ap (λ (f : Found). if_none_left f (first_of_depths (3 - suc d) (suc d) (lines_in K kinds₀ buf₀ n)))
          (ap first_found (rows-numbered (lines_in K kinds₀ buf₀ n) d (omega (arith, length-lines K kinds₀ buf₀ n))) ∙ ap (λ (ls : List Line). first_found (proofs_from d ls 0)) (sym (kept-lines left.kept)) ∙ sym s.is)

      pub first_found_lem : {rows : Rows} → found ≡ Some rows → FindsAny K n (first_of_depths (3 - start) start (lines_in K kinds₀ buf₀ n)) kinds₀ buf₀ kinds₁ buf₁ (Ok found)
      first_found_lem {rows} f = record {
        kept = kept_trans (omega arith) left.kept s.kept;
        is = sym (left.same ∙ unrolled ∙ rw f (found-first n (first_of_depths (3 - suc d) (suc d) (lines_in K kinds₀ buf₀ n)) rows));
        within = s.within;
      }

      pub first_on : found ≡ None → FirstLeft K n kinds₀ buf₀ start kinds₁ buf₁ (d + 1)
      first_on f =
          let i : suc d ≡ d + 1 = omega arith in
          record {
            kept = kept_trans (omega arith) left.kept s.kept;
            same = left.same ∙ unrolled ∙ rw f (or-none-left (first_of_depths (3 - suc d) (suc d) (lines_in K kinds₀ buf₀ n))) ∙ ap (λ (i : ℕ). first_of_depths (3 - i) i (lines_in K kinds₀ buf₀ n)) i;
          }

-- ---- the one after the table's, of d inferences, or the first of more
module _ {K n d : ℕ} (g : List ℕ) {kinds : List ℕ} {buf : List ℤ} {kinds₁ : List ℕ} {buf₁ : List ℤ} {found : Result (Option Rows) NotAmong} (h : d ≤ 2)
    (s : Finds K n d (next_found g (proofs_of d (lines_in K kinds buf n))) kinds buf kinds₁ buf₁ found) where
  ended : ((f : Found) → if_none_left (found_of n found) f ≡ found_of n found) → FindsAny K n (if_none_left (next_found g (proofs_of d (lines_in K kinds buf n))) (first_of_depths (2 - d) (suc d) (lines_in K kinds buf n))) kinds buf kinds₁ buf₁ found
  ended x = record {
    kept = s.kept;
    is = sym (ap (λ (x : Found). if_none_left x (first_of_depths (2 - d) (suc d) (lines_in K kinds buf n))) (sym s.is) ∙ x (first_of_depths (2 - d) (suc d) (lines_in K kinds buf n)));
    within = s.within;
  }

  pub after-found : {rows : Rows} → found ≡ Ok (Some rows) → FindsAny K n (if_none_left (next_found g (proofs_of d (lines_in K kinds buf n))) (first_of_depths (2 - d) (suc d) (lines_in K kinds buf n))) kinds buf kinds₁ buf₁ (Ok (Some rows))
  after-found {rows} q = subst (λ (p : Result (Option Rows) NotAmong). FindsAny K n (if_none_left (next_found g (proofs_of d (lines_in K kinds buf n))) (first_of_depths (2 - d) (suc d) (lines_in K kinds buf n))) kinds buf kinds₁ buf₁ p) q (ended (λ f. rw q (found-first n f rows)))

  pub after-barred : {a : NotAmong} → found ≡ Err a → FindsAny K n (if_none_left (next_found g (proofs_of d (lines_in K kinds buf n))) (first_of_depths (2 - d) (suc d) (lines_in K kinds buf n))) kinds buf kinds₁ buf₁ (Err a)
  after-barred {a} q = subst (λ (p : Result (Option Rows) NotAmong). FindsAny K n (if_none_left (next_found g (proofs_of d (lines_in K kinds buf n))) (first_of_depths (2 - d) (suc d) (lines_in K kinds buf n))) kinds buf kinds₁ buf₁ p) q (ended (λ f. rw q (barred-first n f a)))

  pub after_on : found ≡ Ok None → {kinds₂ : List ℕ} {buf₂ : List ℤ} {r : Result (Option Rows) NotAmong}
      → FindsAny K n (first_of_depths (3 - (d + 1)) (d + 1) (lines_in K kinds₁ buf₁ n)) kinds₁ buf₁ kinds₂ buf₂ r
      → FindsAny K n (if_none_left (next_found g (proofs_of d (lines_in K kinds buf n))) (first_of_depths (2 - d) (suc d) (lines_in K kinds buf n))) kinds buf kinds₂ buf₂ r
  after_on q r =
      let i : d + 1 ≡ suc d = omega arith in
      let j : 3 - (d + 1) ≡ 2 - d = omega arith in
      record {
        kept = kept_trans (omega arith) s.kept r.kept;
        is = r.is ∙ ap (first_of_depths (3 - (d + 1)) (d + 1)) (kept-lines s.kept) ∙ ap₂ (λ (j i : ℕ). first_of_depths j i (lines_in K kinds buf n)) j i
            ∙ sym (ap (λ (x : Found). if_none_left x (first_of_depths (2 - d) (suc d) (lines_in K kinds buf n))) (sym s.is ∙ ap (found_of n) q) ∙ or-none-left (first_of_depths (2 - d) (suc d) (lines_in K kinds buf n)));
        within = r.within;
      }

-- ---- of one, two and three rows
pub record FollowLeft (K n : ℕ) (g : List ℕ) (kinds₀ : List ℕ) (buf₀ : List ℤ) (kinds : List ℕ) (buf : List ℤ) (d : ℕ) : Type 0 where
  pub kept : LinesKept K n kinds₀ buf₀ kinds buf
  pub same : next_of_depths 3 0 g (lines_in K kinds₀ buf₀ n) ≡ next_of_depths (3 - d) d g (lines_in K kinds₀ buf₀ n)

follow-unrolled : (d : ℕ) (g : List ℕ) (ls : List Line) → d < 3 → next_of_depths (3 - d) d g ls ≡ if_not_among (if_none_left (next_found g (proofs_of d ls)) (first_of_depths (2 - d) (suc d) ls)) (next_of_depths (2 - d) (suc d) g ls)
unfolding next_of_depths
follow-unrolled d g ls h = let e : 3 - d ≡ suc (2 - d) = omega arith in rw e

follow-none : (d : ℕ) (g : List ℕ) (ls : List Line) → 3 ≤ d → next_of_depths (3 - d) d g ls ≡ search.not_among
unfolding next_of_depths
follow-none d g ls h = let e : 3 - d ≡ 0 = omega arith in rw e

module _ {K n : ℕ} {g : List ℕ} {kinds₀ : List ℕ} {buf₀ : List ℤ} where
  module _ {kinds : List ℕ} {buf : List ℤ} {d : ℕ} (left : FollowLeft K n g kinds₀ buf₀ kinds buf d) where
    pub follow-ended : 3 ≤ d → {e : NotAmong} → FindsAny K n (next_of_depths 3 0 g (lines_in K kinds₀ buf₀ n)) kinds₀ buf₀ kinds buf (Err e)
    follow-ended h = record { kept = left.kept; is = sym (left.same ∙ follow-none d g (lines_in K kinds₀ buf₀ n) h); within = tt }

    module _ (h : d < 3) {kinds₁ : List ℕ} {buf₁ : List ℤ} {found : Result (Option Rows) NotAmong}
        (s : FindsAny K n (if_none_left (next_found g (proofs_of d (lines_in K kinds buf n))) (first_of_depths (2 - d) (suc d) (lines_in K kinds buf n))) kinds buf kinds₁ buf₁ found) where
      opened : next_of_depths (3 - d) d g (lines_in K kinds₀ buf₀ n) ≡ if_not_among (found_of n found) (next_of_depths (2 - d) (suc d) g (lines_in K kinds₀ buf₀ n))
      opened = follow-unrolled d g (lines_in K kinds₀ buf₀ n) h
          ∙ ap (λ (f : Found). if_not_among f (next_of_depths (2 - d) (suc d) g (lines_in K kinds₀ buf₀ n)))
          (ap (λ (ls : List Line). if_none_left (next_found g (proofs_of d ls)) (first_of_depths (2 - d) (suc d) ls)) (sym (kept-lines left.kept)) ∙ sym s.is)

      pub follow-found : {r : Option Rows} → found ≡ Ok r → FindsAny K n (next_of_depths 3 0 g (lines_in K kinds₀ buf₀ n)) kinds₀ buf₀ kinds₁ buf₁ found
      follow-found {r} f = record {
        kept = kept_trans (omega arith) left.kept s.kept;
        is = sym (left.same ∙ opened ∙ rw f (among-first n (next_of_depths (2 - d) (suc d) g (lines_in K kinds₀ buf₀ n)) r));
        within = s.within;
      }

      pub follow-on : {a : NotAmong} → found ≡ Err a → FollowLeft K n g kinds₀ buf₀ kinds₁ buf₁ (d + 1)
      follow-on f =
          let i : suc d ≡ d + 1 = omega arith in
          let j : 2 - d ≡ 3 - (d + 1) = omega arith in
          record {
            kept = kept_trans (omega arith) left.kept s.kept;
            same = left.same ∙ opened ∙ rw f (or-not-among (next_of_depths (2 - d) (suc d) g (lines_in K kinds₀ buf₀ n))) ∙ ap₂ (λ (j i : ℕ). next_of_depths j i g (lines_in K kinds₀ buf₀ n)) j i;
          }
