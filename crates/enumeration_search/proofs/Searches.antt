-- The search, one way after the other, over plain values. Assumes nothing.
use mathlib.Core.Path.{◌≡◌, sym, ◌∙◌, ap, ap₂, subst}
use mathlib.Core.List.{List}
use Prim.Native.Nat.{ℕ, zero, suc, ◌+◌, ◌-◌, ◌≤◌, ◌<◌}
use native.Mathlib.Omega.{arith}
use lib.Dec.{T}
use lib.IntN.{ℤ}
use lib.ListN.{length, take, drop, length-drop}
use lib.Seq.{take_all}
use Rattle.forms.specs.Forms.{Line}
use Rattle.calculus.specs.Rules.{◌▷◌, Derive}
use Rattle.answers.specs.Answers.{accepted}
use Rattle.enumeration.specs.Sequence.{new_line, proofs_of}
use Rattle.enumeration.specs.Numbering.{inference_count, inference_at, inference_bytes, begins}
use Rattle.enumeration.specs.Search as search
use Rattle.enumeration.specs.Search.{Found, first_found, next_found, if_none_left, with_row, first_row_count, proofs_beginning, proofs_from}
use Rattle.enumeration.proofs.Searched.{rows-numbered, next_more, next-none, inference-made, inference-refused, inference-follows, inference-barred, inference-not-among}
use Rattle.lines.specs.Buffer.{line_in, lines_in}
use Rattle.lines.proofs.Lines.{length-lines}
use Rattle.lines.specs.Ready.{LinesKept}
use Rattle.lines.proofs.Keeping.{kept_refl, kept_trans}
use Rattle.tally.specs.declared.Tally.{Tally}
use Rattle.rows.specs.Rows.{Derives}
use Rattle.std.specs.declared.result.Result as code
use Rattle.answers.specs.declared.refusals.Refusal.{Refusal}
use Rattle.enumeration_rows.specs.Recognised.{InferenceFound}
use Rattle.enumeration_rows.specs.Applied.{SearchRoom}
use Rattle.enumeration_rows.proofs.Inferred.{line_refused, line_made, made-tally, lines-made, roomy-kept}
use Rattle.enumeration_rows.proofs.FoundRows.{prepended, prepend-is, prepend-in, prepend-inferences, first-found, found-first, barred-first, or-none-left}
use Rattle.enumeration_rows.proofs.Closes.{kept-lines, true-is}
use Rattle.enumeration_rows.proofs.RecognisedRows.{begins-longer}
use Rattle.std.specs.Prelude.{Option, None, Some, Result, Ok, Err}
use Rattle.enumeration_rows.specs.declared.found.Rows.{Rows}
use Rattle.enumeration_rows.specs.declared.found.NotAmong.{NotAmong}
use Rattle.enumeration_rows.specs.Searching.{found_of, NumbersIn, Inferences, with_first, Finds}

-- ---- an inference, and what follows it
module _ {K d : ℕ} {kinds : List ℕ} {buf : List ℤ} {t : Tally} (roomy : SearchRoom K (suc d) kinds buf t) (j : ℕ) {kinds₁ : List ℕ} {buf₁ : List ℤ} {r : code.Result Tally Refusal}
    (m : Derives K kinds buf t (inference_at t.lines.0 j) kinds₁ buf₁ r) where
  pub behind-refused : {x : Refusal} → r ≡ Err x → Finds K t.lines.0 (suc d) (first_found (proofs_beginning (suc d) (lines_in K kinds buf t.lines.0) j)) kinds buf kinds₁ buf₁ (Ok None)
  behind-refused e = record {
    kept = m.kept;
    is = sym (inference-refused (lines_in K kinds buf t.lines.0) d j (ap (λ (n : ℕ). new_line (lines_in K kinds buf t.lines.0) (inference_at n j)) (length-lines K kinds buf t.lines.0) ∙ line_refused roomy.first_edition m e));
    within = tt;
    inferences = tt;
  }

  module _ {u : Tally} (e : r ≡ Ok u) where
    next-count : u.lines.0 ≡ t.lines.0 + 1
    next-count = ap (λ (u : Tally). u.lines.0) (made-tally roomy.first_edition m e)

    next-lines : lines_in K kinds₁ buf₁ u.lines.0 ≡ (lines_in K kinds buf t.lines.0) ▷ line_in K kinds₁ buf₁ t.lines.0
    next-lines = ap (lines_in K kinds₁ buf₁) next-count ∙ lines-made roomy.first_edition m

    is_made : new_line (lines_in K kinds buf t.lines.0) (inference_at (length (lines_in K kinds buf t.lines.0)) j) ≡ accepted (line_in K kinds₁ buf₁ t.lines.0)
    is_made = ap (λ (n : ℕ). new_line (lines_in K kinds buf t.lines.0) (inference_at n j)) (length-lines K kinds buf t.lines.0) ∙ line_made roomy.first_edition m e

    few-next : d + length (lines_in K kinds₁ buf₁ u.lines.0) ≤ 6
    few-next = omega (arith, length-lines K kinds₁ buf₁ u.lines.0, next-count, roomy.few)

    next-kept : {kinds₂ : List ℕ} {buf₂ : List ℤ} → LinesKept K u.lines.0 kinds₁ buf₁ kinds₂ buf₂ → LinesKept K t.lines.0 kinds buf kinds₂ buf₂
    next-kept k = kept_trans (omega (arith, next-count)) m.kept k

    pub behind-made : {kinds₂ : List ℕ} {buf₂ : List ℤ} {found : Result (Option Rows) NotAmong} → Finds K u.lines.0 d (first_found (proofs_from d (lines_in K kinds₁ buf₁ u.lines.0) 0)) kinds₁ buf₁ kinds₂ buf₂ found
        → d ≤ 1 → j < inference_count t.lines.0 → Finds K t.lines.0 (suc d) (first_found (proofs_beginning (suc d) (lines_in K kinds buf t.lines.0) j)) kinds buf kinds₂ buf₂ (prepended j found)
    behind-made {kinds₂} {buf₂} {found} s h l = record {
      kept = next-kept s.kept;
      is = prepend-is t.lines.0 d j found s.inferences h
          ∙ ap (λ (n : ℕ). with_row (Derive (inference_at t.lines.0 j)) (found_of n found)) (sym next-count)
          ∙ ap (with_row (Derive (inference_at t.lines.0 j))) (s.is ∙ ap first_found (sym (rows-numbered (lines_in K kinds₁ buf₁ u.lines.0) d few-next) ∙ ap (proofs_of d) next-lines))
          ∙ ap (λ (n : ℕ). with_row (Derive (inference_at n j)) (first_found (proofs_of d ((lines_in K kinds buf t.lines.0) ▷ line_in K kinds₁ buf₁ t.lines.0)))) (sym (length-lines K kinds buf t.lines.0))
          ∙ sym (inference-made (lines_in K kinds buf t.lines.0) d j is_made);
      within = prepend-in t.lines.0 d j found s.inferences h l (subst (λ (n : ℕ). NumbersIn n found) next-count s.within);
      inferences = prepend-inferences t.lines.0 d j found s.inferences h;
    }

-- ---- the inferences, one after the other
-- What the loop of seek knows.
pub record InferencesLeft (K n d : ℕ) (kinds₀ : List ℕ) (buf₀ : List ℤ) (start : ℕ) (kinds : List ℕ) (buf : List ℤ) (j : ℕ) : Type 0 where
  pub kept : LinesKept K n kinds₀ buf₀ kinds buf
  pub same : first_found (proofs_from d (lines_in K kinds₀ buf₀ n) start) ≡ first_found (proofs_from d (lines_in K kinds₀ buf₀ n) j)

module _ {K n d : ℕ} {kinds₀ : List ℕ} {buf₀ : List ℤ} {start : ℕ} where
  module _ {kinds : List ℕ} {buf : List ℤ} {j : ℕ} (left : InferencesLeft K n d kinds₀ buf₀ start kinds buf j) where
    pub inferences-ended : {count : ℕ} → 1 ≤ d → count ≡ inference_count n → count ≤ j → Finds K n d (first_found (proofs_from d (lines_in K kinds₀ buf₀ n) start)) kinds₀ buf₀ kinds buf (Ok None)
    unfolding first_row_count
    inferences-ended {count} p e h = record { kept = left.kept; is = sym (left.same ∙ none d p (lines_in K kinds₀ buf₀ n) (length-lines K kinds₀ buf₀ n)); within = tt; inferences = tt }
      where
        none : (d : ℕ) → 1 ≤ d → (ls : List Line) → length ls ≡ n → first_found (proofs_from d ls j) ≡ search.none_left
        none zero p ls len = absurd (omega arith)
        none (suc d) p ls len = next-none ls (suc d) j (rw len (rw (sym e) h))

    module _ {m : ℕ} (p : suc m ≡ d) {kinds₁ : List ℕ} {buf₁ : List ℤ} {found : Option Rows} (s : Finds K n (suc m) (first_found (proofs_beginning (suc m) (lines_in K kinds buf n) j)) kinds buf kinds₁ buf₁ (Ok found))
        {count : ℕ} (e : count ≡ inference_count n) (h : j < count) where
      ls : List Line
      ls = lines_in K kinds₀ buf₀ n

      unrolled : first_found (proofs_from d (lines_in K kinds₀ buf₀ n) j) ≡ if_none_left (found_of n (Ok found)) (first_found (proofs_from d (lines_in K kinds₀ buf₀ n) (suc j)))
      unfolding first_row_count
      unrolled = subst (λ (d : ℕ). first_found (proofs_from d (lines_in K kinds₀ buf₀ n) j) ≡ if_none_left (found_of n (Ok found)) (first_found (proofs_from d (lines_in K kinds₀ buf₀ n) (suc j)))) p
          (next_more (lines_in K kinds₀ buf₀ n) (suc m) j (rw (length-lines K kinds₀ buf₀ n) (rw (sym e) h))
          ∙ ap (λ (f : Found). if_none_left f (first_found (proofs_from (suc m) (lines_in K kinds₀ buf₀ n) (suc j)))) (ap (λ (ls : List Line). first_found (proofs_beginning (suc m) ls j)) (sym (kept-lines left.kept)) ∙ sym s.is))

      all-kept : LinesKept K n kinds₀ buf₀ kinds₁ buf₁
      all-kept = kept_trans (omega arith) left.kept s.kept

      pub inferences-found : {rows : Rows} → found ≡ Some rows → Finds K n d (first_found (proofs_from d (lines_in K kinds₀ buf₀ n) start)) kinds₀ buf₀ kinds₁ buf₁ (Ok found)
      inferences-found {rows} f = record {
        kept = all-kept;
        is = sym (left.same ∙ unrolled ∙ rw f (found-first n (first_found (proofs_from d (lines_in K kinds₀ buf₀ n) (suc j))) rows));
        within = s.within;
        inferences = subst (λ (d : ℕ). Inferences d (Ok found)) p s.inferences;
      }

      pub inferences-on : found ≡ None → InferencesLeft K n d kinds₀ buf₀ start kinds₁ buf₁ (j + 1)
      inferences-on f =
          let i : suc j ≡ j + 1 = omega arith in
          record {
            kept = all-kept;
            same = left.same ∙ unrolled ∙ rw f (or-none-left (first_found (proofs_from d (lines_in K kinds₀ buf₀ n) (suc j)))) ∙ ap (λ (i : ℕ). first_found (proofs_from d (lines_in K kinds₀ buf₀ n) i)) i;
          }

-- ---- the table given
-- the row found ends within the table
pub inference-ends : {n j size : ℕ} {s : List ℕ} → InferenceFound n s (Some j) → size ≡ length (inference_bytes n j) → size ≤ length s
inference-ends {n} {j} {s = s} f e = omega (arith, e, begins-longer (inference_bytes n j) s (true-is f.is.1))

-- an inference
module _ {K n d : ℕ} {kinds : List ℕ} {buf : List ℤ} {s : List ℕ} (few : n + suc d ≤ 6) where
  pub no-inference : InferenceFound n s None → {e : NotAmong} → Finds K n (suc d) (next_found s (proofs_of (suc d) (lines_in K kinds buf n))) kinds buf kinds buf (Err e)
  no-inference f =
      let len = length-lines K kinds buf n in
      record {
        kept = kept_refl;
        is = sym (inference-not-among s (lines_in K kinds buf n) d (omega (arith, len)) (λ i l. ap (λ (m : ℕ). begins (inference_bytes m i) s) len ∙ f.is i (rw (sym len) l)));
        within = tt;
        inferences = tt;
      }

module _ {K d : ℕ} {kinds : List ℕ} {buf : List ℤ} {t : Tally} (roomy : SearchRoom K (suc d) kinds buf t) (s : List ℕ) (j : ℕ) (f : InferenceFound t.lines.0 s (Some j))
    {kinds₁ : List ℕ} {buf₁ : List ℤ} {r : code.Result Tally Refusal} (m : Derives K kinds buf t (inference_at t.lines.0 j) kinds₁ buf₁ r) where
  l : j < inference_count t.lines.0
  l = f.is.0

  inference-stands : T (begins (inference_bytes (length (lines_in K kinds buf t.lines.0)) j) s)
  inference-stands = true-is (ap (λ (m : ℕ). begins (inference_bytes m j) s) (length-lines K kinds buf t.lines.0) ∙ f.is.1)

  few-given : suc d + length (lines_in K kinds buf t.lines.0) ≤ 6
  few-given = omega (arith, (length-lines K kinds buf t.lines.0), roomy.few)

  pub given-refused : {x : Refusal} → r ≡ Err x → {a : NotAmong} → Finds K t.lines.0 (suc d) (next_found s (proofs_of (suc d) (lines_in K kinds buf t.lines.0))) kinds buf kinds₁ buf₁ (Err a)
  given-refused e = record {
    kept = m.kept;
    is = sym (inference-barred s (lines_in K kinds buf t.lines.0) d j few-given (rw (length-lines K kinds buf t.lines.0) l) inference-stands (ap (λ (n : ℕ). new_line (lines_in K kinds buf t.lines.0) (inference_at n j)) (length-lines K kinds buf t.lines.0) ∙ line_refused roomy.first_edition m e));
    within = tt;
    inferences = tt;
  }

  module _ {u : Tally} (e : r ≡ Ok u) {rest : List ℕ} (cut : rest ≡ drop (length (inference_bytes t.lines.0 j)) s) {kinds₂ : List ℕ} {buf₂ : List ℤ} {found : Result (Option Rows) NotAmong}
      (q : Finds K u.lines.0 d (next_found rest (proofs_of d (lines_in K kinds₁ buf₁ u.lines.0))) kinds₁ buf₁ kinds₂ buf₂ found) (h : d ≤ 1) where
    -- what is found behind the inference, as the definition has it
    inner : found_of t.lines.0 (prepended j found)
        ≡ with_row (Derive (inference_at (length (lines_in K kinds buf t.lines.0)) j)) (next_found (drop (length (inference_bytes (length (lines_in K kinds buf t.lines.0)) j)) s) (proofs_of d ((lines_in K kinds buf t.lines.0) ▷ line_in K kinds₁ buf₁ t.lines.0)))
    inner = prepend-is t.lines.0 d j found q.inferences h
        ∙ ap (λ (n : ℕ). with_row (Derive (inference_at t.lines.0 j)) (found_of n found)) (sym (next-count roomy j m e))
        ∙ ap (with_row (Derive (inference_at t.lines.0 j))) (q.is ∙ ap₂ (λ (g : List ℕ) (ls : List Line). next_found g (proofs_of d ls)) cut (next-lines roomy j m e))
        ∙ ap (λ (n : ℕ). with_row (Derive (inference_at n j)) (next_found (drop (length (inference_bytes n j)) s) (proofs_of d ((lines_in K kinds buf t.lines.0) ▷ line_in K kinds₁ buf₁ t.lines.0)))) (sym (length-lines K kinds buf t.lines.0))

    whole : next_found s (proofs_of (suc d) (lines_in K kinds buf t.lines.0)) ≡ if_none_left (found_of t.lines.0 (prepended j found)) (first_found (proofs_from (suc d) (lines_in K kinds buf t.lines.0) (suc j)))
    whole = inference-follows s (lines_in K kinds buf t.lines.0) d j few-given (rw (length-lines K kinds buf t.lines.0) l) inference-stands (is_made roomy j m e) ∙ ap (λ (f : Found). if_none_left f (first_found (proofs_from (suc d) (lines_in K kinds buf t.lines.0) (suc j)))) (sym inner)

    ended : ((f : Found) → if_none_left (found_of t.lines.0 (prepended j found)) f ≡ found_of t.lines.0 (prepended j found))
        → Finds K t.lines.0 (suc d) (next_found s (proofs_of (suc d) (lines_in K kinds buf t.lines.0))) kinds buf kinds₂ buf₂ (prepended j found)
    ended x = record {
      kept = next-kept roomy j m e q.kept;
      is = sym (whole ∙ x (first_found (proofs_from (suc d) (lines_in K kinds buf t.lines.0) (suc j))));
      within = prepend-in t.lines.0 d j found q.inferences h l (subst (λ (n : ℕ). NumbersIn n found) (next-count roomy j m e) q.within);
      inferences = prepend-inferences t.lines.0 d j found q.inferences h;
    }

    as-found : {p : Result (Option Rows) NotAmong} → found ≡ p → Finds K t.lines.0 (suc d) (next_found s (proofs_of (suc d) (lines_in K kinds buf t.lines.0))) kinds buf kinds₂ buf₂ (prepended j found)
        → Finds K t.lines.0 (suc d) (next_found s (proofs_of (suc d) (lines_in K kinds buf t.lines.0))) kinds buf kinds₂ buf₂ (prepended j p)
    as-found x y = subst (λ (p : Result (Option Rows) NotAmong). Finds K t.lines.0 (suc d) (next_found s (proofs_of (suc d) (lines_in K kinds buf t.lines.0))) kinds buf kinds₂ buf₂ (prepended j p)) x y

    pub given-found : {rows : Rows} → found ≡ Ok (Some rows) → Finds K t.lines.0 (suc d) (next_found s (proofs_of (suc d) (lines_in K kinds buf t.lines.0))) kinds buf kinds₂ buf₂ (Ok (with_first j rows))
    given-found {rows} x = as-found x (ended (λ f. rw x (first-found t.lines.0 d j rows (subst (λ (p : Result (Option Rows) NotAmong). Inferences d p) x q.inferences) h f)))

    pub given-barred : {a : NotAmong} → found ≡ Err a → Finds K t.lines.0 (suc d) (next_found s (proofs_of (suc d) (lines_in K kinds buf t.lines.0))) kinds buf kinds₂ buf₂ (Err a)
    given-barred {a} x = as-found x (ended (λ f. rw x (barred-first t.lines.0 f a)))

    -- the lines are still there for the next inference
    pub given-kept : LinesKept K t.lines.0 kinds buf kinds₂ buf₂
    given-kept = next-kept roomy j m e q.kept

    pub given-roomy : SearchRoom K (suc d) kinds₂ buf₂ t
    given-roomy = roomy-kept roomy given-kept

    pub given-on : found ≡ Ok None → {kinds₃ : List ℕ} {buf₃ : List ℤ} {p : Result (Option Rows) NotAmong}
        → Finds K t.lines.0 (suc d) (first_found (proofs_from (suc d) (lines_in K kinds₂ buf₂ t.lines.0) (j + 1))) kinds₂ buf₂ kinds₃ buf₃ p
        → Finds K t.lines.0 (suc d) (next_found s (proofs_of (suc d) (lines_in K kinds buf t.lines.0))) kinds buf kinds₃ buf₃ p
    given-on x r =
        let i : j + 1 ≡ suc j = omega arith in
        record {
          kept = kept_trans (omega arith) given-kept r.kept;
          is = r.is ∙ ap₂ (λ (ls : List Line) (i : ℕ). first_found (proofs_from (suc d) ls i)) (kept-lines given-kept) i
              ∙ sym (whole ∙ ap (λ (x : Result (Option Rows) NotAmong). if_none_left (found_of t.lines.0 (prepended j x)) (first_found (proofs_from (suc d) (lines_in K kinds buf t.lines.0) (suc j)))) x ∙ or-none-left (first_found (proofs_from (suc d) (lines_in K kinds buf t.lines.0) (suc j))));
          within = r.within;
          inferences = r.inferences;
        }

-- what is behind the row
pub rest-cut : (s : List ℕ) (n j : ℕ) {size : ℕ} → size ≡ length (inference_bytes n j) → take (length s - size) (drop size s) ≡ drop (length (inference_bytes n j)) s
rest-cut s n j {size} e = take_all (length s - size) (drop size s) (omega (arith, length-drop size s)) ∙ ap (λ (x : ℕ). drop x s) e

-- ---- by the number of inferences
pub one_less : {d : ℕ} → ¬ (d ≡ 0) → suc (d - 1) ≡ d
one_less h = omega arith

pub as-roomy : {K d e : ℕ} {kinds : List ℕ} {buf : List ℤ} {t : Tally} → d ≡ e → SearchRoom K d kinds buf t → SearchRoom K e kinds buf t
as-roomy {K} {kinds = kinds} {buf = buf} {t = t} q r = subst (λ (d : ℕ). SearchRoom K d kinds buf t) q r

pub as-deep : {K n d e : ℕ} (start : ℕ) {kinds : List ℕ} {buf : List ℤ} {kinds' : List ℕ} {buf' : List ℤ} {r : Result (Option Rows) NotAmong} → d ≡ e
    → Finds K n e (first_found (proofs_from e (lines_in K kinds buf n) start)) kinds buf kinds' buf' r → Finds K n d (first_found (proofs_from d (lines_in K kinds buf n) start)) kinds buf kinds' buf' r
as-deep {K} {n} start {kinds} {buf} {kinds'} {buf'} {r} q s = subst (λ (d : ℕ). Finds K n d (first_found (proofs_from d (lines_in K kinds buf n) start)) kinds buf kinds' buf' r) (sym q) s

pub as-deep-after : {K n d e : ℕ} (g : List ℕ) {kinds : List ℕ} {buf : List ℤ} {kinds' : List ℕ} {buf' : List ℤ} {r : Result (Option Rows) NotAmong} → d ≡ e
    → Finds K n e (next_found g (proofs_of e (lines_in K kinds buf n))) kinds buf kinds' buf' r → Finds K n d (next_found g (proofs_of d (lines_in K kinds buf n))) kinds buf kinds' buf' r
as-deep-after {K} {n} g {kinds} {buf} {kinds'} {buf'} {r} q s = subst (λ (d : ℕ). Finds K n d (next_found g (proofs_of d (lines_in K kinds buf n))) kinds buf kinds' buf' r) (sym q) s
