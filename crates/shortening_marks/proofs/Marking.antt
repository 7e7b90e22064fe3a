-- Laws of marks and of the report. Assumes nothing.
use mathlib.Core.Path.{◌≡◌, refl, sym, ◌∙◌, ap, ap₂, subst}
use mathlib.Core.Bool.{Bool, true, false, not, ◌&&◌, ◌||◌}
use mathlib.Core.List.{List, [], ◌∷◌}
use Prim.Native.Nat.{ℕ, zero, suc, ◌-◌, ◌<◌}
use native.Mathlib.Omega.{arith}
use lib.Dec.{eqb}
use lib.ListN.{length, get_or, set, length-set}
use lib.Seq.{get_or-set_same, get_or-set_other, set_comm, sets}
use borrow.Author.Tests.{eqb-true, eqb-false}
use Rattle.shortening.specs.Needed.{mark_of}
use Rattle.shortening.specs.Passes.{Backward, cleared}
use Rattle.shortening_stack.specs.declared.Class.{Class}
use Rattle.shortening_stack.specs.declared.Class.TheVariants.{Makes, Branches, Closes, Claims}
use Rattle.shortening_marks.specs.declared.GatheredRow.{GatheredRow}
use Rattle.shortening_marks.specs.Marks.{no_row, Marking, made_marks, row_marks, row_said, MarkedRow, making2, row_back, row_in, back_in, Markable, MarkedFrom}

-- a mark is set, or cleared
marking-set : (marks : List ℕ) (m : ℕ → Bool) (i : ℕ) → Marking marks m → Marking (set marks i 1) (λ j. eqb j i || m j)
marking-set marks m i h = record { at = λ j l. by j (subst (λ (n : ℕ). j < n) (length-set marks i 1) l) (eqb j i) refl }
  where
    by : (j : ℕ) → j < length marks → (b : Bool) → eqb j i ≡ b → get_or (set marks i 1) j 0 ≡ mark_of (b || m j)
    by j l true e =
        let q : j ≡ i = eqb-true j i e in
        ap (λ (k : ℕ). get_or (set marks i 1) k 0) q ∙ get_or-set_same marks i 1 0 (subst (λ (k : ℕ). k < length marks) q l)
    by j l false e = get_or-set_other marks i j 1 0 (eqb-false j i e) ∙ h.at j l

marking-clear : (marks : List ℕ) (m : ℕ → Bool) (n : ℕ) → Marking marks m → Marking (set marks n 0) (cleared n m)
marking-clear marks m n h = record { at = λ j l. by j (subst (λ (k : ℕ). j < k) (length-set marks n 0) l) (eqb j n) refl }
  where
    by : (j : ℕ) → j < length marks → (b : Bool) → eqb j n ≡ b → get_or (set marks n 0) j 0 ≡ mark_of (not b && m j)
    by j l true e =
        let q : j ≡ n = eqb-true j n e in
        ap (λ (k : ℕ). get_or (set marks n 0) k 0) q ∙ get_or-set_same marks n 0 0 (subst (λ (k : ℕ). k < length marks) q l)
    by j l false e = get_or-set_other marks n j 0 0 (eqb-false j n e) ∙ h.at j l

marking-as : (marks : List ℕ) (m m' : ℕ → Bool) → ((j : ℕ) → m j ≡ m' j) → Marking marks m → Marking marks m'
marking-as marks m m' e h = record { at = λ j l. h.at j l ∙ ap mark_of (e j) }

-- a row that makes a line
made-true : (a b c : Bool) → (b || (a || c)) ≡ (((a || b) && true) || c)
made-true true true c = refl
made-true true false c = refl
made-true false true c = refl
made-true false false c = refl

made-false : (a c : Bool) → c ≡ ((a && false) || c)
made-false true c = refl
made-false false c = refl

marking-made : (marks : List ℕ) (m : ℕ → Bool) (n s t : ℕ) → Marking marks m → (own : Bool) → Marking (made_marks (mark_of own) marks n s t) (λ j. ((eqb j s || eqb j t) && own) || cleared n m j)
marking-made marks m n s t h true =
    marking-as (set (set (set marks n 0) s 1) t 1) (λ j. eqb j t || (eqb j s || cleared n m j)) (λ j. ((eqb j s || eqb j t) && true) || cleared n m j) (λ j. made-true (eqb j s) (eqb j t) (cleared n m j))
    (marking-set (set (set marks n 0) s 1) (λ j. eqb j s || cleared n m j) t (marking-set (set marks n 0) (cleared n m) s (marking-clear marks m n h)))
marking-made marks m n s t h false =
    marking-as (set marks n 0) (cleared n m) (λ j. ((eqb j s || eqb j t) && false) || cleared n m j) (λ j. made-false (eqb j s || eqb j t) (cleared n m j)) (marking-clear marks m n h)

-- a row of any class
marking-row : (marks : List ℕ) (b : Backward) (class : Class) (n s t : ℕ) → n < length marks → Marking marks b.marks → Marking (row_marks class marks n s t) (row_back class n s t b).marks
marking-row marks b Makes n s t l h = subst (λ (own : ℕ). Marking (made_marks own marks n s t) (making2 s t n b).marks) (sym (h.at n l)) (marking-made marks b.marks n s t h (b.marks n))
marking-row marks b Branches n s t l h = marking-set (set marks n 0) (cleared n b.marks) s (marking-clear marks b.marks n h)
marking-row marks b Closes n s t l h = marking-set marks b.marks s h
marking-row marks b Claims n s t l h = marking-set marks b.marks s h

reported-row : (marks : List ℕ) (b : Backward) (class : Class) (n s t : ℕ) → n < length marks → Marking marks b.marks → (row_back class n s t b).reported ≡ row_said class marks n ∷ b.reported
reported-row marks b Makes n s t l h = ap (λ (x : ℕ). x ∷ b.reported) (sym (h.at n l))
reported-row marks b Branches n s t l h = refl
reported-row marks b Closes n s t l h = refl
reported-row marks b Claims n s t l h = refl

-- a store before a run
sets-before : (vs l : List ℕ) (i j a : ℕ) → j < i → set (sets l i vs) j a ≡ sets (set l j a) i vs
sets-before [] l i j a h = refl
sets-before (v ∷ vs) l i j a h =
    sets-before vs (set l i v) (suc i) j a (omega (arith, h)) ∙ ap (λ (m : List ℕ). sets m (suc i) vs) (set_comm l i j v a (λ e. absurd (let z : ⊥ = omega (arith, h, e) in z)))

length-row : (class : Class) (marks : List ℕ) (n s t : ℕ) → length (row_marks class marks n s t) ≡ length marks
length-row Makes marks n s t = by (get_or marks n 0)
  where
    by : (own : ℕ) → length (made_marks own marks n s t) ≡ length marks
    by zero = length-set marks n 0
    by (suc own) = length-set (set (set marks n 0) s 1) t 1 ∙ length-set (set marks n 0) s 1 ∙ length-set marks n 0
length-row Branches marks n s t = length-set (set marks n 0) s 1 ∙ length-set marks n 0
length-row Closes marks n s t = length-set marks s 1
length-row Claims marks n s t = length-set marks s 1

-- ---- the loop
module _ {gathered : List GatheredRow} {rows : ℕ} {marks₀ report₀ : List ℕ} (able : Markable gathered rows marks₀ report₀) where
  pub marked-less : {r : ℕ} {marks report : List ℕ} → MarkedFrom gathered rows r marks₀ report₀ marks report → 0 < r → r - 1 < rows
  marked-less v h = omega (arith, h, v.left_is)

  pub marked-below : {r : ℕ} {marks report : List ℕ} → MarkedFrom gathered rows r marks₀ report₀ marks report → 0 < r → (get_or gathered (r - 1) no_row).lines < length marks
  marked-below {r} v h = subst (λ (n : ℕ). (get_or gathered (r - 1) no_row).lines < n) (sym v.marks_length) (able.below (r - 1) (marked-less v h))

  marked_by : (r i : ℕ) {marks report marks' : List ℕ} {reported : ℕ} → suc i ≡ r → (v : MarkedFrom gathered rows r marks₀ report₀ marks report)
      → MarkedRow marks (get_or gathered i no_row) marks' reported → MarkedFrom gathered rows i marks₀ report₀ marks' (set report i reported)
  marked_by r i {marks} {report} {marks'} {reported} e v k =
      let w = get_or gathered i no_row in
      let b = back_in gathered v.left (suc i) in
      let vm : Marking marks b.marks = subst (λ (x : ℕ). Marking marks (back_in gathered v.left x).marks) (sym e) v.marking in
      let l : w.lines < length marks = subst (λ (n : ℕ). w.lines < n) (sym v.marks_length) (able.below i (omega (arith, e, v.left_is))) in
      let rep : report ≡ sets report₀ (suc i) b.reported = subst (λ (x : ℕ). report ≡ sets report₀ x (back_in gathered v.left x).reported) (sym e) v.reported in
      record {
        left = suc v.left;
        left_is = omega (arith, e, v.left_is);
        marking = subst (λ (xs : List ℕ). Marking xs (row_in w b).marks) (sym k.marks_are) (marking-row marks b w.class w.lines w.first w.second l vm);
        reported = ap₂ (λ (xs : List ℕ) (x : ℕ). set xs i x) rep k.reported_is ∙ sets-before b.reported report₀ (suc i) i (row_said w.class marks w.lines) (omega arith)
            ∙ ap (λ (ns : List ℕ). sets report₀ i ns) (sym (reported-row marks b w.class w.lines w.first w.second l vm));
        marks_length = ap length k.marks_are ∙ length-row w.class marks w.lines w.first w.second ∙ v.marks_length;
      }

  pub marked_next : {r : ℕ} {marks report marks' : List ℕ} {reported : ℕ} → (v : MarkedFrom gathered rows r marks₀ report₀ marks report) → 0 < r
      → MarkedRow marks (get_or gathered (r - 1) no_row) marks' reported → MarkedFrom gathered rows (r - 1) marks₀ report₀ marks' (set report (r - 1) reported)
  marked_next {r} v h k = marked_by r (r - 1) (omega (arith, h)) v k
