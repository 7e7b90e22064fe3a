-- The report computed of a table is that of its closed branch. Assumes nothing.
use mathlib.Core.Path.{◌≡◌, refl, sym, ◌∙◌, ap, ap₂, subst}
use mathlib.Core.List.{List, [], ◌∷◌}
use mathlib.Core.Bool.{Bool, true, false, not, ◌&&◌, ◌||◌}
use Prim.Native.Nat.{ℕ, zero, suc, ◌+◌, ◌≤◌, ◌<◌}
use native.Mathlib.Omega.{arith}
use lib.ListN.{length}
use lib.Dec.{T, eqb, eqb→eq}
use Rattle.forms.specs.Edition.{Edition}
use Rattle.forms.specs.Forms.{Form, Line, Formula}
use Rattle.calculus.specs.Rules.{Nth, ◌▷◌, Inference, inference, New, combine, reduce, scale, Closed, derive, strengthen, round, split_eq, split_neq, number, stride, Rounded, last, more, Entry, claims, entries, entries_rounded}
use Rattle.shortening.specs.Needed.{named, depends_on, depends_on_rounded, mark_of}
use Rattle.shortening.proofs.Computed.{report, report_rounded}
use Rattle.shortening.specs.Passes.{Backward, cleared, making, branching, closing, top, pop, pushed, backward, report_on}
use Rattle.shortening.proofs.Needed.{same}
use Rattle.shortening.proofs.Without.{length-▷, nth-below, is_false}

-- ---- marks
-- no mark from n on
pub record Low (n : ℕ) (b : Backward) : Type 0 where
  pub none : (j : ℕ) → n ≤ j → b.marks j ≡ false

-- rows of a branch with m lines, before which the marks are r and behind which they are s: they rest on the lines g, and report w
pub record Passing (m : ℕ) (g : ℕ → Bool) (w : List ℕ → List ℕ) (r s : Backward) : Type 0 where
  pub marks : (j : ℕ) → j < m → s.marks j ≡ (g j || r.marks j)
  pub none : (j : ℕ) → m ≤ j → s.marks j ≡ false
  pub reported : s.reported ≡ w r.reported

low-more : {n m : ℕ} {b : Backward} → n ≤ m → Low n b → Low m b
low-more h l = record { none = λ j k. l.none j (omega (arith, h, k)) }

low_of : {m : ℕ} {g : ℕ → Bool} {w : List ℕ → List ℕ} {r s : Backward} → Passing m g w r s → Low m s
low_of x = record { none = x.none }

eqb-other : (j i : ℕ) → (j ≡ i → ⊥) → eqb j i ≡ false
eqb-other j i d = is_false (eqb j i) (λ t. d (eqb→eq j i t))

or-false : (b : Bool) → (b || false) ≡ b
or-false true = refl
or-false false = refl

or_assoc : (a b c : Bool) → (a || (b || c)) ≡ ((a || b) || c)
or_assoc true b c = refl
or_assoc false b c = refl

or_turn : (a b c : Bool) → (a || (b || c)) ≡ ((b || a) || c)
or_turn true true c = refl
or_turn true false c = refl
or_turn false true c = refl
or_turn false false c = refl

-- what is cleared at n
cleared-below : (n j : ℕ) (m : ℕ → Bool) → j < n → cleared n m j ≡ m j
cleared-below n j m b = ap (λ (x : Bool). not x && m j) (eqb-other j n (λ q. let z : ⊥ = omega (arith, b, q) in z))

cleared-above : (n j : ℕ) (m : ℕ → Bool) → n ≤ j → ((i : ℕ) → suc n ≤ i → m i ≡ false) → cleared n m j ≡ false
cleared-above n j m b h = by (eqb j n) (same j n)
  where
    past : (j ≡ n → ⊥) → suc n ≤ j
    past d = omega (arith, b, d)

    by : (x : Bool) → (j ≡ n → T x) → (not x && m j) ≡ false
    by true s = refl
    by false s = h j (past s)

-- ---- the passes over parts
join : {m : ℕ} {g g1 : ℕ → Bool} {w w1 : List ℕ → List ℕ} {r s s1 : Backward} → Passing m g1 w1 s s1 → Passing m g w r s → Passing m (λ j. g1 j || g j) (λ ns. w1 (w ns)) r s1
join {g = g} {g1 = g1} {w1 = w1} {r = r} x1 x = record {
  marks = λ j b. x1.marks j b ∙ ap (λ (c : Bool). g1 j || c) (x.marks j b) ∙ or_assoc (g1 j) (g j) (r.marks j);
  none = x1.none;
  reported = x1.reported ∙ ap w1 x.reported;
}

at-branching : {n : ℕ} {g : ℕ → Bool} {w : List ℕ → List ℕ} {r s : Backward} (i : ℕ) → i < n → Passing (suc n) g w r s → Passing n (λ j. eqb j i || g j) (λ ns. 2 ∷ w ns) r (branching i n s)
at-branching {n = n} {g = g} {r = r} {s = s} i h x = record {
  marks = λ j b. ap (λ (c : Bool). eqb j i || c) (cleared-below n j s.marks b ∙ x.marks j (omega (arith, b))) ∙ or_assoc (eqb j i) (g j) (r.marks j);
  none = λ j b. ap₂ (λ (a c : Bool). a || c) (eqb-other j i (λ q. let z : ⊥ = omega (arith, b, q, h) in z)) (cleared-above n j s.marks b x.none);
  reported = ap (λ (ns : List ℕ). 2 ∷ ns) x.reported;
}

at-close : {n : ℕ} {r : Backward} (i : ℕ) → i < n → Low n r → Passing n (λ j. eqb j i) (λ ns. 2 ∷ ns) r (closing i r)
at-close i h l = record {
  marks = λ j b. refl;
  none = λ j b. ap₂ (λ (a c : Bool). a || c) (eqb-other j i (λ q. let z : ⊥ = omega (arith, b, q, h) in z)) (l.none j b);
  reported = refl;
}

at-derive : {n : ℕ} {g : ℕ → Bool} {w : List ℕ → List ℕ} {r s : Backward} (st : Inference) → ((j : ℕ) → n ≤ j → named st j ≡ false) → Low n r → Passing (suc n) g w r s
    → Passing n (λ j. g j || (named st j && g n)) (λ ns. mark_of (g n) ∷ w ns) r (making st n s)
at-derive {n = n} {g = g} {w = w} {r = r} {s = s} st h l x = record {
  marks = λ j b. ap₂ (λ (a c : Bool). (named st j && a) || c) own (cleared-below n j s.marks b ∙ x.marks j (omega (arith, b))) ∙ or_turn (named st j && g n) (g j) (r.marks j);
  none = λ j b. ap₂ (λ (a c : Bool). (a && s.marks n) || c) (h j b) (cleared-above n j s.marks b x.none);
  reported = ap₂ (λ (a : Bool) (ns : List ℕ). mark_of a ∷ ns) own x.reported;
}
  where
    own : s.marks n ≡ g n
    own = x.marks n (omega arith) ∙ ap (λ (c : Bool). g n || c) (l.none n (omega arith)) ∙ or-false (g n)

past : (ls : List Line) (i j : ℕ) (l : Line) → Nth ls i l → length ls ≤ j → eqb j i ≡ false
past ls i j l a h = eqb-other j i (λ q. let z : ⊥ = omega (arith, q, h, nth-below ls l i a) in z)

named-below : {ls : List Line} {l : Line} (n : New ls l) (j : ℕ) → length ls ≤ j → named (inference n) j ≡ false
named-below {ls} (combine i k _ _ a b _ _) j h = ap₂ (λ (x y : Bool). x || y) (past ls i j _ a h) (past ls k j _ b h)
named-below {ls} (reduce i k _ a b _) j h = ap₂ (λ (x y : Bool). x || y) (past ls i j _ a h) (past ls k j _ b h)
named-below {ls} (scale i _ a _) j h = past ls i j _ a h

pass-claims : (claimed : Bool) (l : Line) (es : List Entry) (n : ℕ) (opened : List ℕ) → backward (claims claimed l es) n opened ≡ backward es n opened
pass-claims true l es n opened = refl
pass-claims false l es n opened = refl

pub before : (k : ℕ) → 1 ≤ k → (c : ℕ) × (suc c ≡ k)
before zero h = absurd (let z : ⊥ = omega (arith, h) in z)
before (suc c) h = (c, refl)

-- ---- the pass over a closed branch
abbrev pub after : List Entry → List ℕ → Backward
after rest opened = backward rest (top 0 opened) (pop opened)

module _ {e : Edition} {in_b : ℕ → Bool} where
  -- a branch that a row opens
  in-branch : (ls : List Line) (l : Line) {I : Formula} (p : Closed e in_b (ls ▷ l) I) (rest : List Entry) (opened : List ℕ)
      → (Low (length (ls ▷ l)) (after rest opened) → Passing (length (ls ▷ l)) (depends_on p) (report p) (after rest opened) (backward (entries p rest) (length (ls ▷ l)) opened))
      → Low (suc (length ls)) (after rest opened) → Passing (suc (length ls)) (depends_on p) (report p) (after rest opened) (backward (entries p rest) (suc (length ls)) opened)
  in-branch ls l p rest opened deeper =
      subst (λ (m : ℕ). Low m (after rest opened) → Passing m (depends_on p) (report p) (after rest opened) (backward (entries p rest) m opened)) (length-▷ ls l) deeper

  mutual
    pub passed : {ls : List Line} {I : Formula} (p : Closed e in_b ls I) (rest : List Entry) (opened : List ℕ) → Low (length ls) (after rest opened)
        → Passing (length ls) (depends_on p) (report p) (after rest opened) (backward (entries p rest) (length ls) opened)
    passed (derive {ls = ls} {l = l} claimed n _ p) rest opened low =
        at-derive (inference n) (named-below n) low
        (subst (λ (s : Backward). Passing (suc (length ls)) (depends_on p) (report p) (after rest opened) s) (sym (pass-claims claimed l (entries p rest) (suc (length ls)) opened))
        (in-branch ls l p rest opened (λ h. passed p rest opened h) (low-more (omega arith) low)))
    passed (strengthen {ls = ls} i at _ p1 pE p0) rest opened low =
        let n = suc (length ls) in
        let x0 = in-branch ls _ p0 rest opened (λ h. passed p0 rest opened h) (low-more (omega arith) low) in
        let xE = in-branch ls _ pE (entries p0 rest) (n ∷ opened) (λ h. passed pE (entries p0 rest) (n ∷ opened) h) (low_of x0) in
        let x1 = in-branch ls _ p1 (entries pE (entries p0 rest)) (n ∷ (n ∷ opened)) (λ h. passed p1 (entries pE (entries p0 rest)) (n ∷ (n ∷ opened)) h) (low_of xE) in
        at-branching i (nth-below ls _ i at) (join x1 (join xE x0))
    passed (round {ls = ls} i g k r p ps) rest opened low =
        let n = suc (length ls) in
        let (c, q) = before k r.least in
        let y = passed-rounded ps c (omega (arith, q)) rest opened (low-more (omega arith) low) in
        let x = in-branch ls _ p (entries_rounded ps rest) (pushed (suc c) n opened) (λ h. passed p (entries_rounded ps rest) (pushed (suc c) n opened) h) (low_of y) in
        subst (λ (m : ℕ). Passing (length ls) (depends_on (round i g k r p ps)) (report (round i g k r p ps)) (after rest opened) (branching i (length ls) (backward (entries p (entries_rounded ps rest)) n (pushed m n opened)))) q
        (at-branching i (nth-below ls _ i r.at) (join x y))
    passed (split_eq {ls = ls} i at _ _ p q) rest opened low =
        let n = suc (length ls) in
        let y = in-branch ls _ q rest opened (λ h. passed q rest opened h) (low-more (omega arith) low) in
        let x = in-branch ls _ p (entries q rest) (n ∷ opened) (λ h. passed p (entries q rest) (n ∷ opened) h) (low_of y) in
        at-branching i (nth-below ls _ i at) (join x y)
    passed (split_neq {ls = ls} i at _ _ p q) rest opened low =
        let n = suc (length ls) in
        let y = in-branch ls _ q rest opened (λ h. passed q rest opened h) (low-more (omega arith) low) in
        let x = in-branch ls _ p (entries q rest) (n ∷ opened) (λ h. passed p (entries q rest) (n ∷ opened) h) (low_of y) in
        at-branching i (nth-below ls _ i at) (join x y)
    passed (number {ls = ls} i at _ _) rest opened low = at-close i (nth-below ls _ i at) low
    passed (stride {ls = ls} i _ at _ _ _ _) rest opened low = at-close i (nth-below ls _ i at) low

    -- c branches more
    passed-rounded : {ls : List Line} {t t_A : Form} {g k j : ℕ} {I : Formula} (p : Rounded e in_b ls t t_A g k j I) (c : ℕ) → suc (c + j) ≡ k → (rest : List Entry) (opened : List ℕ)
        → Low (suc (length ls)) (after rest opened)
        → Passing (suc (length ls)) (depends_on_rounded p) (report_rounded p) (after rest opened) (backward (entries_rounded p rest) (suc (length ls)) (pushed c (suc (length ls)) opened))
    passed-rounded (last {ls = ls} _ _ p) zero q rest opened low = in-branch ls _ p rest opened (λ h. passed p rest opened h) low
    passed-rounded (last b _ p) (suc c) q rest opened low = absurd (let z : ⊥ = omega (arith, b, q) in z)
    passed-rounded (more b _ p ps) zero q rest opened low = absurd (let z : ⊥ = omega (arith, b, q) in z)
    passed-rounded (more {ls = ls} b _ p ps) (suc c) q rest opened low =
        let n = suc (length ls) in
        let y = passed-rounded ps c (omega (arith, q)) rest opened low in
        let x = in-branch ls _ p (entries_rounded ps rest) (pushed (suc c) n opened) (λ h. passed p (entries_rounded ps rest) (pushed (suc c) n opened) h) (low_of y) in
        join x y

  -- the report computed of the table is that of the closed branch, and the marks left are the lines that it rests on
  pub reported : {ls : List Line} {I : Formula} (p : Closed e in_b ls I) → report_on (length ls) (entries p []) ≡ report p []
  reported p = (passed p [] [] (record { none = λ j h. refl })).reported

  pub marks-left : {ls : List Line} {I : Formula} (p : Closed e in_b ls I) (j : ℕ) → j < length ls → (backward (entries p []) (length ls) []).marks j ≡ depends_on p j
  marks-left p j h = (passed p [] [] (record { none = λ j h. refl })).marks j h ∙ or-false (depends_on p j)
