-- The closes, one after the other, and the one after that which a table ends with. Assumes nothing.
use mathlib.Core.Path.{◌≡◌, refl, sym, ◌∙◌, ap, subst}
use mathlib.Core.Bool.{Bool, true, false}
use mathlib.Core.List.{List, [], ◌∷◌}
use Prim.Native.Nat.{ℕ, suc, ◌+◌, ◌≤◌, ◌<◌}
use native.Mathlib.Omega.{arith}
use lib.Dec.{T}
use lib.IntN.{ℤ}
use lib.ListN.{length}
use Rattle.forms.specs.Forms.{Line, Formula}
use Rattle.answers.specs.declared.Answer.{Answer}
use Rattle.answers.specs.Answers.{refused, accepted}
use Rattle.enumeration.specs.Sequence.{close_formula, proofs_of}
use Rattle.number_bytes.specs.Same.{same_bytes}
use Rattle.enumeration.specs.Numbering.{close_count, close_at, close_bytes}
use Rattle.enumeration.specs.Search as search
use Rattle.enumeration.specs.Search.{Found, first_found, next_found, if_none_left, first_row_count, proofs_from}
use Rattle.enumeration.proofs.Searched.{next_more, next-none, close-held, close-refused, close_follows, close-barred, close-not-among}
use Rattle.lines.specs.Buffer.{lines_in}
use Rattle.lines.proofs.Lines.{lines_same, length-lines}
use Rattle.lines.specs.Ready.{LinesKept}
use Rattle.lines.proofs.Keeping.{kept_refl}
use Rattle.enumeration_rows.specs.Recognised.{CloseFound}
use Rattle.enumeration_rows.specs.Applied.{CloseHolds}
use Rattle.std.specs.Prelude.{Option, None, Some, Result, Ok, Err}
use Rattle.enumeration_rows.specs.declared.found.Rows.{Rows}
use Rattle.enumeration_rows.specs.declared.found.Rows.TheVariants.{One}
use Rattle.enumeration_rows.specs.declared.found.NotAmong.{NotAmong}
use Rattle.enumeration_rows.specs.Searching.{Finds}

-- ---- lines that stay
module _ {K n : ℕ} {kinds : List ℕ} {buf : List ℤ} {kinds' : List ℕ} {buf' : List ℤ} (k : LinesKept K n kinds buf kinds' buf') where
  pub kept-lines : lines_in K kinds' buf' n ≡ lines_in K kinds buf n
  kept-lines = lines_same K n k.lines_same k.kinds_same

-- ---- closes
module _ (ls : List Line) {n : ℕ} (len : length ls ≡ n) where
  close-none : (c : ℕ) → close_count n ≤ c → first_found (proofs_from 0 ls c) ≡ search.none_left
  unfolding first_row_count
  close-none c h = next-none ls 0 c (rw len h)

  close-yes : (c : ℕ) → c < close_count n → {I : Formula} → close_formula ls (close_at n c) ≡ accepted I → first_found (proofs_from 0 ls c) ≡ search.at (close_at n c ∷ [])
  unfolding first_row_count if_none_left
  close-yes c h {I} e = next_more ls 0 c (rw len h) ∙ ap (λ (f : Found). if_none_left f (first_found (proofs_from 0 ls (suc c)))) (close-held ls c (ap (λ (m : ℕ). close_formula ls (close_at m c)) len ∙ e))
      ∙ ap (λ (m : ℕ). search.at (close_at m c ∷ [])) len

  close-no : (c : ℕ) → c < close_count n → {a : Answer} → close_formula ls (close_at n c) ≡ refused a → first_found (proofs_from 0 ls c) ≡ first_found (proofs_from 0 ls (suc c))
  unfolding first_row_count if_none_left
  close-no c h {a} e = next_more ls 0 c (rw len h) ∙ ap (λ (f : Found). if_none_left f (first_found (proofs_from 0 ls (suc c)))) (close-refused ls c (ap (λ (m : ℕ). close_formula ls (close_at m c)) len ∙ e))

-- No close of these numbers holds, so that what is left is the whole from the start.
pub record ClosesLeft (K n : ℕ) (kinds : List ℕ) (buf : List ℤ) (start c : ℕ) : Type 0 where
  pub same : first_found (proofs_from 0 (lines_in K kinds buf n) start) ≡ first_found (proofs_from 0 (lines_in K kinds buf n) c)

module _ {K n : ℕ} {kinds : List ℕ} {buf : List ℤ} {start : ℕ} where
  module _ {c : ℕ} (left : ClosesLeft K n kinds buf start c) where
    pub closes-ended : close_count n ≤ c → Finds K n 0 (first_found (proofs_from 0 (lines_in K kinds buf n) start)) kinds buf kinds buf (Ok None)
    closes-ended h = record { kept = kept_refl; is = sym (left.same ∙ close-none (lines_in K kinds buf n) (length-lines K kinds buf n) c h); within = tt; inferences = tt }

    module _ (l : c < close_count n) {b : Bool} (held : CloseHolds K kinds buf n (close_at n c) b) where
      pub closes-found : b ≡ true → Finds K n 0 (first_found (proofs_from 0 (lines_in K kinds buf n) start)) kinds buf kinds buf (Ok (Some (One c)))
      closes-found q = record { kept = kept_refl; is = sym (left.same ∙ close-yes (lines_in K kinds buf n) (length-lines K kinds buf n) c l (held.yes q).1); within = l; inferences = refl }

      pub closes-on : b ≡ false → ClosesLeft K n kinds buf start (c + 1)
      closes-on q =
          let s : suc c ≡ c + 1 = omega arith in
          record { same = left.same ∙ close-no (lines_in K kinds buf n) (length-lines K kinds buf n) c l (held.no q).1 ∙ ap (λ (m : ℕ). first_found (proofs_from 0 (lines_in K kinds buf n) m)) s }

-- ---- the table given
pub true-is : {b : Bool} → b ≡ true → T b
true-is e = subst T (sym e) tt

-- the close
module _ {K n : ℕ} {kinds : List ℕ} {buf : List ℤ} {s : List ℕ} (few : n ≤ 6) where
  pub no-close : {e : NotAmong} → CloseFound n s None → Finds K n 0 (next_found s (proofs_of 0 (lines_in K kinds buf n))) kinds buf kinds buf (Err e)
  no-close f = record {
    kept = kept_refl;
    is = sym (close-not-among s (lines_in K kinds buf n) (rw (length-lines K kinds buf n) few) (λ i l. ap (λ (m : ℕ). same_bytes (close_bytes m i) s) (length-lines K kinds buf n) ∙ f.is i (rw (sym (length-lines K kinds buf n)) l)));
    within = tt;
    inferences = tt;
  }

  module _ {c : ℕ} (f : CloseFound n s (Some c)) {b : Bool} (held : CloseHolds K kinds buf n (close_at n c) b) where
    stands-there : T (same_bytes (close_bytes (length (lines_in K kinds buf n)) c) s)
    stands-there = true-is (ap (λ (m : ℕ). same_bytes (close_bytes m c) s) (length-lines K kinds buf n) ∙ f.is.1)

    pub open-close : b ≡ false → {e : NotAmong} → Finds K n 0 (next_found s (proofs_of 0 (lines_in K kinds buf n))) kinds buf kinds buf (Err e)
    open-close q = record {
      kept = kept_refl;
      is = sym (close-barred s (lines_in K kinds buf n) c (rw (length-lines K kinds buf n) few) (rw (length-lines K kinds buf n) f.is.0) stands-there (ap (λ (m : ℕ). close_formula (lines_in K kinds buf n) (close_at m c)) (length-lines K kinds buf n) ∙ (held.no q).1));
      within = tt;
      inferences = tt;
    }

    pub next-close : {found : Result (Option Rows) NotAmong} → b ≡ true → Finds K n 0 (first_found (proofs_from 0 (lines_in K kinds buf n) (c + 1))) kinds buf kinds buf found → Finds K n 0 (next_found s (proofs_of 0 (lines_in K kinds buf n))) kinds buf kinds buf found
    next-close q r =
        let i : c + 1 ≡ suc c = omega arith in
        record {
          kept = r.kept;
          is = r.is ∙ ap (λ (m : ℕ). first_found (proofs_from 0 (lines_in K kinds buf n) m)) i
              ∙ sym (close_follows s (lines_in K kinds buf n) c (rw (length-lines K kinds buf n) few) (rw (length-lines K kinds buf n) f.is.0) stands-there (ap (λ (m : ℕ). close_formula (lines_in K kinds buf n) (close_at m c)) (length-lines K kinds buf n) ∙ (held.yes q).1));
          within = r.within;
          inferences = r.inferences;
        }
