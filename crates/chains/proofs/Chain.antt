-- For two cuts of the same constraints the formulas of one uniform tree follow one another. Assumes nothing.
use mathlib.Core.Path.{◌≡◌, refl, sym, ap, subst}
use mathlib.Core.Logic.{◌⊎◌, inl, inr}
use mathlib.Core.List.{List}
use mathlib.Core.Bool.{Bool, false}
use Prim.Native.Nat.{ℕ, zero, suc, ◌+◌, ◌≤◌, ◌<◌}
use native.Mathlib.Decide.{dec_le}
use native.Mathlib.Omega.{arith}
use native.Mathlib.Nat.{eq-or-lt_of_le}
use lib.IntN.{ℤ, pos, negsuc, neg_ℤ, ◌+ℤ◌, ◌-ℤ◌}
use lib.Signed.{◌≤ℤ◌}
use Rattle.integers.proofs.Differences.{ints, add-pn, neg-pn}
use Rattle.integers.proofs.RingLaws.{sub-add}
use Rattle.integers.specs.Divides.{◌∣ℤ◌}
use Rattle.forms.specs.Edition.{Edition}
use Rattle.forms.specs.Forms.{Form, Kind, ≤0, =0, Holds, LineKind, plain, apart, Line, line, line_apart, neg, value, coeff, Assignment, ◌plus◌, Formula, ◌and◌, ◌or◌, True}
use Rattle.calculus.specs.Rules.{◌▷◌, StrideOf, Closed}
use Rattle.calculus.proofs.Readings.{value-plus}
use Rattle.calculus.proofs.Sides.{Side, A, B, all-nth, holds-plus}
use Rattle.calculus.proofs.Leaves.{split}
use Rattle.calculus.proofs.Splitting.{sign}
use Rattle.calculus.proofs.Reducing.{positive, unmasked, reduced-alike}
use Rattle.calculus.proofs.Vocabulary.{WithinVocabulary, words-new, words-raised, words-1, words-E, words-0, words-neg, words-neg-0}
use Rattle.calculus.proofs.Sound.{value-neg}
use Rattle.chains.proofs.Trees.{Tree, ByDerive, ByStrengthen, ByNumber, ByStride, ByRound, BySplit, Trees, tree, SameTrees, UniformTree}
use Rattle.chains.proofs.Grown.{Grown, derived, strengthened, by_number, by_stride, rounded, splits_eq, splits_neq, Growing, grown_final, grown_further, grown}
use Rattle.chains.proofs.Links.{Passed, plains, stays, passes, Link, Linked, same_kind, plain-delta, plain-linked, linked-nth, linked-and, linked-made}

-- ---- the two ways to close
holds-link : (k k' : Kind) (x x' : ℤ) → k ≡ k' → Holds k (x' -ℤ x) → Holds k x → Holds k' x'
holds-link k k' x x' e h g = subst (λ j. Holds j x') e (subst (Holds k) (sub-add x' x) (holds-plus k (x' -ℤ x) x h g))

-- a stride part is true just where g divides the value of tA: what leaves the form, and what is reduced, is a multiple of g
module _ (in_b : ℕ → Bool) (v : Assignment) {g : ℕ} (two : 2 ≤ g) (t t_A : Form) (all : (c : ℕ) → pos g ∣ℤ coeff t c) (same : (c : ℕ) → in_b c ≡ false → coeff t c -ℤ coeff t_A c ≡ pos 0)
    {E : Formula} (is : StrideOf in_b g t_A E) where
  stride-value : True E v → pos g ∣ℤ value t_A v
  stride-value h = (reduced-alike (positive two) t_A v).1 (rw (unmasked (positive two) in_b t t_A all same) at (subst (λ (F : Formula). True F v) is.is h))

  value-stride : pos g ∣ℤ value t_A v → True E v
  value-stride h = subst (λ (F : Formula). True F v) (sym is.is) (rw (unmasked (positive two) in_b t t_A all same) ((reduced-alike (positive two) t_A v).0 h))

-- ---- strengthen: where the difference is below 0, the third branch of the one is paired with the first of the other
strengthen-link : (I1 E I0 I1' E' I0' : Formula) (v : Assignment) (x x' : ℤ) → (x' -ℤ x) ≤ℤ pos 0
    → (((x' +ℤ pos 1) -ℤ (x +ℤ pos 1)) ≤ℤ pos 0 → True I1 v → True I1' v)
    → (x' -ℤ x ≡ pos 0 → True E v → True E' v)
    → ((x' -ℤ x) ≤ℤ pos 0 → True I0 v → True I0' v)
    → (((x' +ℤ pos 1) -ℤ x) ≤ℤ pos 0 → True I0 v → True I1' v)
    → True (I1 or (E and I0)) v → True (I1' or (E' and I0')) v
strengthen-link I1 E I0 I1' E' I0' v x x' h f1 fE f0 f01 = go
  where
    both : (x' -ℤ x ≡ pos 0) ⊎ ((x' -ℤ x +ℤ pos 1) ≤ℤ pos 0) → True E v → True I0 v → True (I1' or (E' and I0')) v
    both (inl z) e i = inr (fE z e, f0 h i)
    both (inr l) e i = inl (f01 (omega (ints, add-pn x' (neg_ℤ x), neg-pn x, add-pn (x' -ℤ x) (pos 1), add-pn x' (pos 1), add-pn (x' +ℤ pos 1) (neg_ℤ x))) i)

    go : True (I1 or (E and I0)) v → True (I1' or (E' and I0')) v
    go (inl i) = inl (f1 (omega (ints, add-pn x' (neg_ℤ x), neg-pn x, add-pn x' (pos 1), add-pn x (pos 1), neg-pn (x +ℤ pos 1), add-pn (x' +ℤ pos 1) (neg_ℤ (x +ℤ pos 1)))) i)
    go (inr p) = both (split (x' -ℤ x) h) p.0 p.1

-- ---- how far a number at most 0 is from 0
record Far (z : ℤ) : Type 0 where
  n : ℕ
  eq : z +ℤ pos n ≡ pos 0

far : (z : ℤ) → z ≤ℤ pos 0 → Far z
far (pos zero) h = record { n = 0; eq = refl }
far (pos (suc n)) h = absurd (omega ints)
far (negsuc n) h = record { n = suc n; eq = omega (ints, add-pn (negsuc n) (pos (suc n))) }

-- of a difference that is n short of 0: raised by j + n and j it is 0, raised by no more than that it is at most 0
module _ (x y : ℤ) (n : ℕ) (e : (x -ℤ y) +ℤ pos n ≡ pos 0) (j : ℕ) where
  just : (x +ℤ pos (j + n)) -ℤ (y +ℤ pos j) ≡ pos 0
  just = omega (ints, add-pn (x -ℤ y) (pos n), add-pn x (neg_ℤ y), neg-pn y, add-pn x (pos (j + n)), add-pn y (pos j), neg-pn (y +ℤ pos j), add-pn (x +ℤ pos (j + n)) (neg_ℤ (y +ℤ pos j)))

  short : (k : ℕ) → k ≤ j + n → ((x +ℤ pos k) -ℤ (y +ℤ pos j)) ≤ℤ pos 0
  short k h = omega (ints, add-pn (x -ℤ y) (pos n), add-pn x (neg_ℤ y), neg-pn y, add-pn x (pos k), add-pn y (pos j), neg-pn (y +ℤ pos j), add-pn (x +ℤ pos k) (neg_ℤ (y +ℤ pos j)))

level : (x y : ℤ) (k : ℕ) → (x -ℤ y) ≤ℤ pos 0 → ((x +ℤ pos k) -ℤ (y +ℤ pos k)) ≤ℤ pos 0
level x y k h = omega (ints, add-pn x (neg_ℤ y), neg-pn y, add-pn x (pos k), add-pn y (pos k), neg-pn (y +ℤ pos k), add-pn (x +ℤ pos k) (neg_ℤ (y +ℤ pos k)))

-- two numbers whose difference is 0 are one
same-value : (x y : ℤ) → x -ℤ y ≡ pos 0 → y ≡ x
same-value x y e = omega (ints, add-pn x (neg_ℤ y), neg-pn y)

-- ---- the lines with which the branches start
module _ (v : Assignment) {ls ls' : List Line} (hs : Linked v ls ls') (t t' a a' : Form) (e : t ≡ t') where
  linked-raised : (k m m' : ℕ) → ((value a' v +ℤ pos m') -ℤ (value a v +ℤ pos m)) ≤ℤ pos 0 → Linked v (ls ▷ line ≤0 (t plus k) (a plus m)) (ls' ▷ line ≤0 (t' plus k) (a' plus m'))
  linked-raised k m m' h = linked-and hs (plain-linked {k = ≤0} (ap (λ s. s plus k) e) (rw (value-plus a' m' v, value-plus a m v) h))

  linked-E : value a' v -ℤ value a v ≡ pos 0 → Linked v (ls ▷ line =0 t a) (ls' ▷ line =0 t' a')
  linked-E h = linked-and hs (plain-linked {k = =0} e h)

  linked-0 : (value a' v -ℤ value a v) ≤ℤ pos 0 → Linked v (ls ▷ line ≤0 (t plus 1) a) (ls' ▷ line ≤0 (t' plus 1) a')
  linked-0 h = linked-and hs (plain-linked {k = ≤0} (ap (λ s. s plus 1) e) h)

  linked-01 : ((value a' v +ℤ pos 1) -ℤ value a v) ≤ℤ pos 0 → Linked v (ls ▷ line ≤0 (t plus 1) a) (ls' ▷ line ≤0 (t' plus 1) (a' plus 1))
  linked-01 h = linked-and hs (plain-linked {k = ≤0} (ap (λ s. s plus 1) e) (rw (value-plus a' 1 v) h))

  lowered : neg t plus 1 ≡ neg t' plus 1
  lowered = ap (λ s. neg s plus 1) e

  linked-neg : ((neg_ℤ (value a' v) +ℤ pos 1) -ℤ (neg_ℤ (value a v) +ℤ pos 1)) ≤ℤ pos 0 → Linked v (ls ▷ line ≤0 (neg t plus 1) (neg a plus 1)) (ls' ▷ line ≤0 (neg t' plus 1) (neg a' plus 1))
  linked-neg h = linked-and hs (plain-linked {k = ≤0} lowered (rw (value-plus (neg a') 1 v, value-plus (neg a) 1 v, value-neg A v a', value-neg A v a) h))

  linked-neg-0 : (neg_ℤ (value a' v) -ℤ neg_ℤ (value a v)) ≤ℤ pos 0 → Linked v (ls ▷ line ≤0 (neg t plus 1) (neg a)) (ls' ▷ line ≤0 (neg t' plus 1) (neg a'))
  linked-neg-0 h = linked-and hs (plain-linked {k = ≤0} lowered (rw (value-neg A v a', value-neg A v a) h))

  linked-neg-01 : ((neg_ℤ (value a' v) +ℤ pos 1) -ℤ neg_ℤ (value a v)) ≤ℤ pos 0 → Linked v (ls ▷ line ≤0 (neg t plus 1) (neg a)) (ls' ▷ line ≤0 (neg t' plus 1) (neg a' plus 1))
  linked-neg-01 h = linked-and hs (plain-linked {k = ≤0} lowered (rw (value-plus (neg a') 1 v, value-neg A v a', value-neg A v a) h))

-- ---- split: both branches with one owner; where the constraint passes to A, "and" leads to "or" by one of them
module _ (I J I' J' : Formula) (v : Assignment) (x x' : ℤ) where
  split-eq : Passed (apart A) (apart A) (x' -ℤ x)
      → (((x' +ℤ pos 1) -ℤ (x +ℤ pos 1)) ≤ℤ pos 0 → True I v → True I' v)
      → (((neg_ℤ x' +ℤ pos 1) -ℤ (neg_ℤ x +ℤ pos 1)) ≤ℤ pos 0 → True J v → True J' v)
      → True (I or J) v → True (I' or J') v
  split-eq (stays z) f g (inl i) = inl (f (level x' x 1 (omega ints)) i)
  split-eq (stays z) f g (inr j) = inr (g (level (neg_ℤ x') (neg_ℤ x) 1 (omega (ints, add-pn x' (neg_ℤ x), neg-pn x, neg-pn x', neg-pn (neg_ℤ x), add-pn (neg_ℤ x') (neg_ℤ (neg_ℤ x))))) j)

  split-neq : Passed (apart B) (apart B) (x' -ℤ x)
      → ((x' -ℤ x) ≤ℤ pos 0 → True I v → True I' v)
      → ((neg_ℤ x' -ℤ neg_ℤ x) ≤ℤ pos 0 → True J v → True J' v)
      → True (I and J) v → True (I' and J') v
  split-neq (stays z) f g p = (f (omega ints) p.0, g (omega (ints, add-pn x' (neg_ℤ x), neg-pn x, neg-pn x', neg-pn (neg_ℤ x), add-pn (neg_ℤ x') (neg_ℤ (neg_ℤ x)))) p.1)

  split-over : Passed (apart B) (apart A) (x' -ℤ x)
      → (((x' +ℤ pos 1) -ℤ x) ≤ℤ pos 0 → True I v → True I' v)
      → (((neg_ℤ x' +ℤ pos 1) -ℤ neg_ℤ x) ≤ℤ pos 0 → True J v → True J' v)
      → True (I and J) v → True (I' or J') v
  split-over (passes n) f g p = go (sign (x' -ℤ x) n)
    where
      go : ((x' -ℤ x +ℤ pos 1) ≤ℤ pos 0) ⊎ ((neg_ℤ (x' -ℤ x) +ℤ pos 1) ≤ℤ pos 0) → True (I' or J') v
      go (inl l) = inl (f (omega (ints, add-pn x' (neg_ℤ x), neg-pn x, add-pn (x' -ℤ x) (pos 1), add-pn x' (pos 1), add-pn (x' +ℤ pos 1) (neg_ℤ x))) p.0)
      go (inr l) = inr (g (omega (ints, add-pn x' (neg_ℤ x), neg-pn x, neg-pn x', neg-pn (x' -ℤ x), add-pn (neg_ℤ (x' -ℤ x)) (pos 1), add-pn (neg_ℤ x') (pos 1), neg-pn (neg_ℤ x), add-pn (neg_ℤ x' +ℤ pos 1) (neg_ℤ (neg_ℤ x)))) p.1)

-- no constraint passes from A to B
abbrev Forwards : LineKind → LineKind → Type 0
Forwards (plain _) κ = Unit
Forwards (apart B) κ = Unit
Forwards (apart A) (plain _) = Unit
Forwards (apart A) (apart A) = Unit
Forwards (apart A) (apart B) = ⊥

never_back : {κ κ' : LineKind} {z : ℤ} → Passed κ κ' z → Forwards κ κ'
never_back (plains h) = tt
never_back (stays {σ = A} h) = tt
never_back (stays {σ = B} h) = tt
never_back (passes h) = tt

-- ---- rounding: the branch m of the one is paired with the branch m + n of the other, where n is how far the difference is below 0, or with the first if that is k or above
-- a branch whose stride part and formula are true
record Picked (v : Assignment) (in_b : ℕ → Bool) (a : Tree) (ls : List Line) (t t_A : Form) (g k : ℕ) : Type 0 where
  m : ℕ
  E : Formula
  I : Formula
  form : StrideOf in_b g (t_A plus m) E
  branch : Grown in_b a (ls ▷ line ≤0 (t plus k) (t_A plus m)) I
  strides : True E v
  holds : True I v

-- the branch m, and that its stride part and formula make J true
record Placed (v : Assignment) (in_b : ℕ → Bool) (a : Tree) (ls : List Line) (t t_A : Form) (g k m : ℕ) (J : Formula) : Type 0 where
  E : Formula
  I : Formula
  form : StrideOf in_b g (t_A plus m) E
  branch : Grown in_b a (ls ▷ line ≤0 (t plus k) (t_A plus m)) I
  gives : True E v → True I v → True J v

same-tree : {in_b : ℕ → Bool} {a b : Tree} {ls : List Line} {I : Formula} → a ≡ b → Grown in_b b ls I → Grown in_b a ls I
same-tree {in_b = in_b} {ls = ls} {I = I} e q = subst (λ x. Grown in_b x ls I) (sym e) q

module _ (v : Assignment) {in_b : ℕ → Bool} (a : Tree) {ls : List Line} {t t_A : Form} {g k : ℕ} where
  pick : {bs : Trees} {j : ℕ} {J : Formula} → Growing in_b bs ls t t_A g k j J → SameTrees a bs → True J v → Picked v in_b a ls t t_A g k
  pick (grown_final {j = j} {E = E} {I = I} n e q) s h = record { m = j; E = E; I = I; form = e; branch = same-tree s q; strides = h.0; holds = h.1 }
  pick (grown_further {j = j} {E = E} {I = I} {J = J} e q qs) s h = go (λ i. pick qs s.1 i) h
    where
      go : (True J v → Picked v in_b a ls t t_A g k) → True ((E and I) or J) v → Picked v in_b a ls t t_A g k
      go f (inl h) = record { m = j; E = E; I = I; form = e; branch = same-tree s.0 q; strides = h.0; holds = h.1 }
      go f (inr h) = f h

  place : {bs : Trees} {j : ℕ} {J : Formula} → Growing in_b bs ls t t_A g k j J → SameTrees a bs → (m : ℕ) → j ≤ m → m < k → Placed v in_b a ls t t_A g k m J
  place (grown_final {j = j} {E = E} {I = I} n e q) s m l b =
      let z : j ≡ m = omega arith in
      subst (λ i. Placed v in_b a ls t t_A g k i (E and I)) z (record { E = E; I = I; form = e; branch = same-tree s q; gives = λ d h. (d, h) })
  place (grown_further {j = j} {E = E} {I = I} {J = J} e q qs) s m l b = go (eq-or-lt_of_le l) (λ l. place qs s.1 m l b)
    where
      F : Formula
      F = (E and I) or J

      here : Placed v in_b a ls t t_A g k j F
      here = record { E = E; I = I; form = e; branch = same-tree s.0 q; gives = λ d h. inl (d, h) }

      go : (j ≡ m) ⊎ (j < m) → (j < m → Placed v in_b a ls t t_A g k m J) → Placed v in_b a ls t t_A g k m F
      go (inl z) f = subst (λ i. Placed v in_b a ls t t_A g k i F) z here
      go (inr l) f = let p = f l in record { E = p.E; I = p.I; form = p.form; branch = p.branch; gives = λ d h. inr (p.gives d h) }

-- the stride part of branch m of a rounding is true just where g divides the value of tA + m
module _ (in_b : ℕ → Bool) (v : Assignment) {g : ℕ} (two : 2 ≤ g) (t t_A : Form) (all : (c : ℕ) → pos g ∣ℤ coeff t c) (same : (c : ℕ) → in_b c ≡ false → coeff t c -ℤ coeff t_A c ≡ pos 0) where
  record Strides : Type 0 where
    told : (m : ℕ) (E : Formula) → StrideOf in_b g (t_A plus m) E → True E v → pos g ∣ℤ value t_A v +ℤ pos m
    tells : (m : ℕ) (E : Formula) → StrideOf in_b g (t_A plus m) E → pos g ∣ℤ value t_A v +ℤ pos m → True E v

  strides-of : Strides
  unfolding coeff ◌plus◌
  strides-of = record {
    told = λ m E is h. rw (value-plus t_A m v) at (stride-value in_b v two t (t_A plus m) all same is h);
    tells = λ m E is h. value-stride in_b v two t (t_A plus m) all same is (rw (value-plus t_A m v) h);
  }

module _ (v : Assignment) (in_b inB' : ℕ → Bool) (a : Tree) {bs : Trees} {ls ls' : List Line} {t t' t_A tA' : Form} {g k : ℕ} {Ik J Ik' J' : Formula}
    (told : (m : ℕ) (E : Formula) → StrideOf in_b g (t_A plus m) E → True E v → pos g ∣ℤ value t_A v +ℤ pos m)
    (tells : (m : ℕ) (E : Formula) → StrideOf inB' g (tA' plus m) E → pos g ∣ℤ value tA' v +ℤ pos m → True E v)
    (pair : (m m' : ℕ) (I I' : Formula) → Grown in_b a (ls ▷ line ≤0 (t plus k) (t_A plus m)) I → Grown inB' a (ls' ▷ line ≤0 (t' plus k) (tA' plus m')) I'
    → ((value tA' v +ℤ pos m') -ℤ (value t_A v +ℤ pos m)) ≤ℤ pos 0 → True I v → True I' v)
    (q : Grown in_b a (ls ▷ line ≤0 (t plus k) (t_A plus k)) Ik) (qs : Growing in_b bs ls t t_A g k 0 J)
    (q' : Grown inB' a (ls' ▷ line ≤0 (t' plus k) (tA' plus k)) Ik') (qs' : Growing inB' bs ls' t' tA' g k 0 J') (s : SameTrees a bs) (h : (value tA' v -ℤ value t_A v) ≤ℤ pos 0) where
  joins : (n : Far (value tA' v -ℤ value t_A v)) (p : Picked v in_b a ls t t_A g k) → p.m + n.n < k → Placed v inB' a ls' t' tA' g k (p.m + n.n) J' → True J' v
  joins n p b r =
      let z : (value tA' v +ℤ pos (p.m + n.n)) -ℤ (value t_A v +ℤ pos p.m) ≡ pos 0 = just (value tA' v) (value t_A v) n.n n.eq p.m in
      r.gives
      (tells (p.m + n.n) r.E r.form (subst (λ (x : ℤ). pos g ∣ℤ x) (same-value (value tA' v +ℤ pos (p.m + n.n)) (value t_A v +ℤ pos p.m) z) (told p.m p.E p.form p.strides)))
      (pair p.m (p.m + n.n) p.I r.I p.branch r.branch (omega ints) p.holds)

  meets : (n : Far (value tA' v -ℤ value t_A v)) (p : Picked v in_b a ls t t_A g k) → Dec (k ≤ p.m + n.n) → True (Ik' or J') v
  meets n p (no b) = inr (joins n p (omega arith) (place v a qs' s (p.m + n.n) (omega arith) (omega arith)))
  meets n p (yes b) = inl (pair p.m k p.I Ik' p.branch q' (short (value tA' v) (value t_A v) n.n n.eq p.m k b) p.holds)

  round-link : True (Ik or J) v → True (Ik' or J') v
  round-link (inl i) = inl (pair k k Ik Ik' q q' (level (value tA' v) (value t_A v) k h) i)
  round-link (inr j) = let n = far (value tA' v -ℤ value t_A v) h in let p = pick v a qs s j in meets n p (dec_le k (p.m + n.n))

-- ---- the chain
module _ (v : Assignment) (occ occ' : Side → ℕ → Bool) where
  chain : (T : Tree) {ls ls' : List Line} {I I' : Formula} → UniformTree T → Grown (occ B) T ls I → Grown (occ' B) T ls' I'
      → WithinVocabulary occ ls → WithinVocabulary occ' ls' → Linked v ls ls' → True I v → True I' v
  chain (ByDerive s a) u (derived n m p) (derived n' m' p') w w' hs =
      chain a u p p' (words-new occ w n) (words-new occ' w' n') (linked-and hs (linked-made v hs m m'))
  chain (ByStrengthen i a b c) u (strengthened {t = t} {t_A = t_A} {I1 = I1} {E = E} {I0 = I0} p p1 pE p0) (strengthened {ls = ls'} {t = t'} {t_A = tA'} {I1 = I1'} {E = E'} {I0 = I0'} p' p1' pE' p0') w w' hs =
      let h : Link v (line ≤0 t t_A) (line ≤0 t' tA') = linked-nth i hs p p' in
      strengthen-link I1 E I0 I1' E' I0' v (value t_A v) (value tA' v) (plain-delta h.delta)
      (λ g. chain a u.1 p1 p1' (words-1 occ w i p) (words-1 occ' w' i p') (linked-raised v hs t t' t_A tA' h.forms 1 1 1 g))
      (λ g. chain b u.2 pE pE' (words-E occ w i p) (words-E occ' w' i p') (linked-E v hs t t' t_A tA' h.forms g))
      (λ g. chain c (subst UniformTree u.0 u.1) p0 p0' (words-0 occ w i p) (words-0 occ' w' i p') (linked-0 v hs t t' t_A tA' h.forms g))
      (λ g. chain c (subst UniformTree u.0 u.1) p0 (subst (λ x. Grown (occ' B) x (ls' ▷ line ≤0 (t' plus 1) (tA' plus 1)) I1') u.0 p1') (words-0 occ w i p) (words-1 occ' w' i p') (linked-01 v hs t t' t_A tA' h.forms g))
  chain (ByNumber i) u (by_number {k = k} {t_A = t_A} p) (by_number {k = k'} {t_A = tA'} p') w w' hs =
      let h = linked-nth i hs p p' in holds-link k k' (value t_A v) (value tA' v) (same_kind h.delta) (plain-delta h.delta)
  chain (ByStride i g) u (by_stride {t = t} {t_A = t_A} {E = E} p two all e) (by_stride {t = t'} {t_A = tA'} {E = E'} p' two' all' e') w w' hs =
      λ h. value-stride (occ' B) v two' t' tA' all' (λ c o. all-nth i (w' B c o) p') e'
      (subst (λ (x : ℤ). pos g ∣ℤ x) (same-value (value tA' v) (value t_A v) (plain-delta (linked-nth i hs p p').delta)) (stride-value (occ B) v two t t_A all (λ c o. all-nth i (w B c o) p) e h))
  chain (ByRound i g k a bs) u (rounded {t = t} {t_A = t_A} p two all q qs) (rounded {t = t'} {t_A = tA'} p' two' all' q' qs') w w' hs =
      let h : Link v (line ≤0 t t_A) (line ≤0 t' tA') = linked-nth i hs p p' in
      round-link v (occ B) (occ' B) a
      (strides-of (occ B) v two t t_A all (λ c o. all-nth i (w B c o) p)).told (strides-of (occ' B) v two' t' tA' all' (λ c o. all-nth i (w' B c o) p')).tells
      (λ m m' I I' b b' l. chain a u.1 b b' (words-raised occ w i p ≤0 k m) (words-raised occ' w' i p' ≤0 k m') (linked-raised v hs t t' t_A tA' h.forms k m m' l))
      q qs q' qs' u.0 (plain-delta h.delta)
  chain (BySplit i a b) u (splits_eq {t = t} {t_A = t_A} {I = I} {J = J} p q r) (splits_eq {t = t'} {t_A = tA'} {I = I'} {J = J'} p' q' r') w w' hs =
      let h : Link v (line_apart A t t_A) (line_apart A t' tA') = linked-nth i hs p p' in
      split-eq I J I' J' v (value t_A v) (value tA' v) h.delta
      (λ l. chain a u.0 q q' (words-raised occ w i p ≤0 1 1) (words-raised occ' w' i p' ≤0 1 1) (linked-raised v hs t t' t_A tA' h.forms 1 1 1 l))
      (λ l. chain b u.1 r r' (words-neg occ w i p 1 1) (words-neg occ' w' i p' 1 1) (linked-neg v hs t t' t_A tA' h.forms l))
  chain (BySplit i a b) u (splits_neq {t = t} {t_A = t_A} {I = I} {J = J} p q r) (splits_neq {t = t'} {t_A = tA'} {I = I'} {J = J'} p' q' r') w w' hs =
      let h : Link v (line_apart B t t_A) (line_apart B t' tA') = linked-nth i hs p p' in
      split-neq I J I' J' v (value t_A v) (value tA' v) h.delta
      (λ l. chain a u.0 q q' (words-0 occ w i p) (words-0 occ' w' i p') (linked-0 v hs t t' t_A tA' h.forms l))
      (λ l. chain b u.1 r r' (words-neg-0 occ w i p 1) (words-neg-0 occ' w' i p' 1) (linked-neg-0 v hs t t' t_A tA' h.forms l))
  chain (BySplit i a b) u (splits_neq {t = t} {t_A = t_A} {I = I} {J = J} p q r) (splits_eq {t = t'} {t_A = tA'} {I = I'} {J = J'} p' q' r') w w' hs =
      let h : Link v (line_apart B t t_A) (line_apart A t' tA') = linked-nth i hs p p' in
      split-over I J I' J' v (value t_A v) (value tA' v) h.delta
      (λ l. chain a u.0 q q' (words-0 occ w i p) (words-raised occ' w' i p' ≤0 1 1) (linked-01 v hs t t' t_A tA' h.forms l))
      (λ l. chain b u.1 r r' (words-neg-0 occ w i p 1) (words-neg occ' w' i p' 1 1) (linked-neg-01 v hs t t' t_A tA' h.forms l))
  chain (BySplit i a b) u (splits_eq {t = t} {t_A = t_A} p q r) (splits_neq {t = t'} {t_A = tA'} p' q' r') w w' hs = absurd (never_back (linked-nth i hs p p').delta)

  -- two closed branches of one uniform tree, over linked lines
  pub chain-step : {e e' : Edition} {ls ls' : List Line} {I I' : Formula} (p : Closed e (occ B) ls I) (p' : Closed e' (occ' B) ls' I')
      → tree p ≡ tree p' → UniformTree (tree p) → WithinVocabulary occ ls → WithinVocabulary occ' ls' → Linked v ls ls' → True I v → True I' v
  chain-step {ls' = ls'} {I' = I'} p p' same u w w' hs = chain (tree p) u (grown p) (subst (λ x. Grown (occ' B) x ls' I') (sym same) (grown p')) w w' hs
