-- A closed branch without the rows that nothing rests on: it derives the same formula, and every row of it is needed. Assumes nothing.
use mathlib.Core.Path.{◌≡◌, refl, sym, ◌∙◌, ap, subst}
use mathlib.Core.Logic.{◌⊎◌, inl, inr}
use mathlib.Core.Option.{Option, some, none}
use mathlib.Core.List.{List, [], ◌∷◌}
use mathlib.Core.Bool.{Bool, true, false, false≢true, cond}
use Prim.Native.Nat.{ℕ, zero, suc, ◌≤◌, ◌<◌}
use native.Mathlib.Omega.{arith}
use lib.ListN.{length}
use lib.Dec.{T, eqb, eqb→eq, eqb_refl}
use Rattle.forms.specs.Edition.{Edition}
use Rattle.forms.specs.Forms.{Form, ≤0, =0, A, B, Line, line, line_apart, neg, Formula, ◌plus◌}
use Rattle.calculus.specs.Rules.{Nth, ◌▷◌, Inference, Combine, Reduce, Scale, inference, New, combine, reduce, scale, Room, Rounds, StrideOf, Closed, derive, strengthen, round, split_eq, split_neq, number, stride, Rounded, last, more, Derive, Strengthen, Round, Split, Entry, row, claims, entries, entries_rounded, row_count, row_count_rounded, depth, depth_rounded}
use Rattle.shortening.specs.Needed.{NamesLine, DependsOn, DependsOnRounded, depends_on, mark_of, without_zeros, renew, renumber, kept_row, kept_lines, shortened, shortened_rounded}
use Rattle.shortening.proofs.Computed.{AllNeeded, AllNeededRounded, report, report_rounded}
use Rattle.shortening.proofs.Needed.{same, depends_on-true, true-depends_on}

-- ---- lines and their numbers
no_line : {l : Line} {C : Type 0} → none ≡ some l → C
no_line h = absurd (false≢true (ap filled h))
  where
    filled : Option Line → Bool
    filled none = false
    filled (some _) = true

pub length-▷ : (ls : List Line) (l : Line) → length (ls ▷ l) ≡ suc (length ls)
length-▷ [] l = refl
length-▷ (x ∷ ls) l = ap suc (length-▷ ls l)

nth-new : (ls : List Line) (l : Line) → Nth (ls ▷ l) (length ls) l
nth-new [] l = refl
nth-new (x ∷ ls) l = nth-new ls l

nth_last : (ls : List Line) (l m : Line) → Nth (ls ▷ l) (length ls) m → l ≡ m
nth_last [] l m e = cc
nth_last (x ∷ ls) l m e = nth_last ls l m e

nth-grow : (ls : List Line) (l x : Line) (j : ℕ) → Nth ls j x → Nth (ls ▷ l) j x
nth-grow [] l x j h = no_line h
nth-grow (y ∷ ls) l x zero h = h
nth-grow (y ∷ ls) l x (suc j) h = nth-grow ls l x j h

nth-old : (ls : List Line) (l x : Line) (j : ℕ) → Nth (ls ▷ l) j x → (j ≡ length ls → ⊥) → Nth ls j x
nth-old [] l x zero h d = absurd (d refl)
nth-old [] l x (suc j) h d = h
nth-old (y ∷ ls) l x zero h d = h
nth-old (y ∷ ls) l x (suc j) h d = nth-old ls l x j h (λ e. d (ap suc e))

pub nth-below : (ls : List Line) (l : Line) (j : ℕ) → Nth ls j l → j < length ls
nth-below [] l j h = no_line h
nth-below (y ∷ ls) l zero h = omega arith
nth-below (y ∷ ls) l (suc j) h = omega (arith, nth-below ls l j h)

-- ---- new numbers
pub renew-other : (f : ℕ → ℕ) (n m j : ℕ) → (j ≡ n → ⊥) → renew f n m j ≡ f j
renew-other f n m j d = by (eqb j n) (λ t. d (eqb→eq j n t))
  where
    by : (b : Bool) → (T b → ⊥) → cond b m (f j) ≡ f j
    by true h = absurd (h tt)
    by false h = refl

pub renew-own : (f : ℕ → ℕ) (n m : ℕ) → renew f n m n ≡ m
renew-own f n m = by (eqb n n) (eqb_refl n)
  where
    by : (b : Bool) → T b → cond b m (f n) ≡ m
    by true h = refl
    by false h = absurd h

-- the lines of ls whose numbers are in R stand in ks, under their new numbers
pub record Keeps (R : ℕ → Type 0) (ls ks : List Line) (f : ℕ → ℕ) : Type 0 where
  pub at : (j : ℕ) → R j → (l : Line) → Nth ls j l → Nth ks (f j) l

less : {R R1 : ℕ → Type 0} {ls ks : List Line} {f : ℕ → ℕ} → ((j : ℕ) → R1 j → R j) → Keeps R ls ks f → Keeps R1 ls ks f
less h k = record { at = λ j r l. k.at j (h j r) l }

-- one more line, kept or not
module _ {R : ℕ → Type 0} {ls ks : List Line} {f : ℕ → ℕ} (k : Keeps R ls ks f) (l : Line) {R1 : ℕ → Type 0} (h : (j : ℕ) → R1 j → R j) where
  with-line : Keeps R1 (ls ▷ l) (ks ▷ l) (renew f (length ls) (length ks))
  with-line = record { at = λ j r x at. by j r x at (eqb j (length ls)) (λ t. eqb→eq j (length ls) t) (λ e. same j (length ls) e) }
    where
      by : (j : ℕ) → R1 j → (x : Line) → Nth (ls ▷ l) j x → (b : Bool) → (T b → j ≡ length ls) → (j ≡ length ls → T b) → Nth (ks ▷ l) (cond b (length ks) (f j)) x
      by j r x at true t s = subst (λ (y : Line). Nth (ks ▷ l) (length ks) y) (nth_last ls l x (subst (λ (i : ℕ). Nth (ls ▷ l) i x) (t tt) at)) (nth-new ks l)
      by j r x at false t s = nth-grow ks l x (f j) (k.at j (h j r) x (nth-old ls l x j at s))

  without-line : (m : ℕ) → (R1 (length ls) → ⊥) → Keeps R1 (ls ▷ l) ks (renew f (length ls) m)
  without-line m d = record { at = λ j r x at. by j r x at (λ e. d (subst R1 e r)) }
    where
      by : (j : ℕ) → R1 j → (x : Line) → Nth (ls ▷ l) j x → (j ≡ length ls → ⊥) → Nth ks (renew f (length ls) m j) x
      by j r x at s = subst (λ (i : ℕ). Nth ks i x) (sym (renew-other f (length ls) m j s)) (k.at j (h j r) x (nth-old ls l x j at s))

-- ---- a row over the lines kept
moved : {ls ks : List Line} {l : Line} (f : ℕ → ℕ) (n : New ls l) → Keeps (NamesLine (inference n)) ls ks f → New ks l
moved f (combine i j α β a b u v) k = combine (f i) (f j) α β (k.at i (inl refl) _ a) (k.at j (inr refl) _ b) u v
moved f (reduce i j α a b u) k = reduce (f i) (f j) α (k.at i (inl refl) _ a) (k.at j (inr refl) _ b) u
moved f (scale i α a u) k = scale (f i) α (k.at i refl _ a) u

inference-moved : {ls ks : List Line} {l : Line} (f : ℕ → ℕ) (n : New ls l) (k : Keeps (NamesLine (inference n)) ls ks f) → inference (moved f n k) ≡ renumber f (inference n)
unfolding moved
inference-moved f (combine i j α β a b u v) k = refl
inference-moved f (reduce i j α a b u) k = refl
inference-moved f (scale i α a u) k = refl

names-moved : (f : ℕ → ℕ) (s : Inference) (j : ℕ) → NamesLine s j → NamesLine (renumber f s) (f j)
names-moved f (Combine s t _ _) j (inl e) = inl (ap f e)
names-moved f (Combine s t _ _) j (inr e) = inr (ap f e)
names-moved f (Reduce s t _) j (inl e) = inl (ap f e)
names-moved f (Reduce s t _) j (inr e) = inr (ap f e)
names-moved f (Scale t _) j e = ap f e

room-less : {e : Edition} {ls ks : List Line} {l : Line} → length ks ≤ length ls → Room e ls l → Room e ks l
room-less h r = record { below = omega (arith, h, r.below); range = r.range }

rounds-less : {e : Edition} {ls ks : List Line} {i g k : ℕ} {t t_A : Form} (f : ℕ → ℕ) → length ks ≤ length ls → Nth ks (f i) (line ≤0 t t_A) → Rounds e ls i g k t t_A → Rounds e ks (f i) g k t t_A
rounds-less f fewer at r = record { at = at; stride = r.stride; least = r.least; most = r.most; divided = r.divided; never = r.never; room = room-less fewer r.room }

-- ---- tests
each : {P P1 Q Q1 : Type 0} → (P → P1) → (Q → Q1) → P ⊎ Q → P1 ⊎ Q1
each f g (inl p) = inl (f p)
each f g (inr q) = inr (g q)

pub is_true : (b : Bool) → T b → b ≡ true
is_true true h = refl
is_true false h = absurd h

pub is_false : (b : Bool) → (T b → ⊥) → b ≡ false
is_false true h = absurd (h tt)
is_false false h = refl

module _ {e : Edition} {in_b : ℕ → Bool} where
  -- ---- the branch p over the lines ks, which are those of p that are kept, under the new numbers f
  pub record Without {ls : List Line} {I : Formula} (p : Closed e in_b ls I) (ks : List Line) (f : ℕ → ℕ) : Type 0 where
    pub proof : Closed e in_b ks I
    pub are : (rest : List Entry) → entries proof rest ≡ shortened p f (length ks) rest
    pub few : row_count proof ≤ row_count p
    pub flat : depth proof ≡ depth p
    pub on : (j : ℕ) → j < length ls → DependsOn p j → DependsOn proof (f j)
    pub all : AllNeeded proof
    pub told : (rest : List ℕ) → report proof (without_zeros rest) ≡ without_zeros (report p rest)

  -- the branches of a rounding
  record WithoutRounded {ls : List Line} {t t_A : Form} {g k i : ℕ} {I : Formula} (p : Rounded e in_b ls t t_A g k i I) (ks : List Line) (f : ℕ → ℕ) : Type 0 where
    proof : Rounded e in_b ks t t_A g k i I
    are : (rest : List Entry) → entries_rounded proof rest ≡ shortened_rounded p f (length ks) rest
    few : row_count_rounded proof ≤ row_count_rounded p
    flat : depth_rounded proof ≡ depth_rounded p
    on : (j : ℕ) → j < length ls → DependsOnRounded p j → DependsOnRounded proof (f j)
    all : AllNeededRounded proof
    told : (rest : List ℕ) → report_rounded proof (without_zeros rest) ≡ without_zeros (report_rounded p rest)

  -- ---- a row 0x10 to 0x12
  module _ {ls : List Line} {l : Line} {I : Formula} (claimed : Bool) (n : New ls l) (room : Room e ls l) (p : Closed e in_b (ls ▷ l) I)
      (ks : List Line) (f : ℕ → ℕ) (fewer : length ks ≤ length ls) (k : Keeps (DependsOn (derive claimed n room p)) ls ks f) where
    other : (j : ℕ) → j < length ls → renew f (length ls) (length ks) j ≡ f j
    other j b = renew-other f (length ls) (length ks) j (λ e. absurd (let z : ⊥ = omega (arith, b, e) in z))

    kept_row_lem : DependsOn p (length ls) → Without p (ks ▷ l) (renew f (length ls) (length ks)) → Without (derive claimed n room p) ks f
    kept_row_lem r x = record {
      proof = derive claimed (moved f n km) (room-less fewer room) x.proof;
      are = λ rest. ap (λ (s : Inference). row (Derive s) ∷ claims claimed l (entries x.proof rest)) (inference-moved f n km)
          ∙ ap (λ (es : List Entry). row (Derive (renumber f (inference n))) ∷ claims claimed l es) (x.are rest ∙ ap (λ (m : ℕ). shortened p (renew f (length ls) (length ks)) m rest) (length-▷ ks l))
          ∙ sym (ap (λ (b : Bool). kept_row b (renumber f (inference n)) claimed l (shortened p (renew f (length ls) (length ks)) (kept_lines b (length ks)) rest)) t);
      few = omega (arith, x.few);
      flat = x.flat;
      on = on;
      all = (q, x.all);
      told = λ rest. ap (λ (b : Bool). mark_of b ∷ report x.proof (without_zeros rest)) (is_true (depends_on x.proof (length ks)) (true-depends_on x.proof (length ks) q))
          ∙ ap (λ (ns : List ℕ). 1 ∷ ns) (x.told rest)
          ∙ sym (ap (λ (b : Bool). without_zeros (mark_of b ∷ report p rest)) t);
    }
      where
        km : Keeps (NamesLine (inference n)) ls ks f
        km = less (λ j h. inr (h, r)) k

        t : depends_on p (length ls) ≡ true
        t = is_true (depends_on p (length ls)) (true-depends_on p (length ls) r)

        q : DependsOn x.proof (length ks)
        q = subst (λ (i : ℕ). DependsOn x.proof i) (renew-own f (length ls) (length ks)) (x.on (length ls) (omega (arith, length-▷ ls l)) r)

        on : (j : ℕ) → j < length ls → DependsOn p j ⊎ (NamesLine (inference n) j × DependsOn p (length ls)) → DependsOn x.proof (f j) ⊎ (NamesLine (inference (moved f n km)) (f j) × DependsOn x.proof (length ks))
        on j b (inl h) = inl (subst (λ (i : ℕ). DependsOn x.proof i) (other j b) (x.on j (omega (arith, b, length-▷ ls l)) h))
        on j b (inr (m, h)) = inr (subst (λ (s : Inference). NamesLine s (f j)) (sym (inference-moved f n km)) (names-moved f (inference n) j m), q)

    dropped-row : (DependsOn p (length ls) → ⊥) → Without p ks (renew f (length ls) (length ks)) → Without (derive claimed n room p) ks f
    dropped-row d x = record {
      proof = x.proof;
      are = λ rest. x.are rest ∙ sym (ap (λ (b : Bool). kept_row b (renumber f (inference n)) claimed l (shortened p (renew f (length ls) (length ks)) (kept_lines b (length ks)) rest)) t);
      few = omega (arith, x.few);
      flat = x.flat;
      on = on;
      all = x.all;
      told = λ rest. x.told rest ∙ sym (ap (λ (b : Bool). without_zeros (mark_of b ∷ report p rest)) t);
    }
      where
        t : depends_on p (length ls) ≡ false
        t = is_false (depends_on p (length ls)) (λ h. d (depends_on-true p (length ls) h))

        on : (j : ℕ) → j < length ls → DependsOn p j ⊎ (NamesLine (inference n) j × DependsOn p (length ls)) → DependsOn x.proof (f j)
        on j b (inl h) = subst (λ (i : ℕ). DependsOn x.proof i) (other j b) (x.on j (omega (arith, b, length-▷ ls l)) h)
        on j b (inr (m, h)) = absurd (d h)

    without-row : ((ks1 : List Line) (f1 : ℕ → ℕ) → length ks1 ≤ length (ls ▷ l) → Keeps (DependsOn p) (ls ▷ l) ks1 f1 → Without p ks1 f1)
        → (b : Bool) → (T b → DependsOn p (length ls)) → (DependsOn p (length ls) → T b) → Without (derive claimed n room p) ks f
    without-row deeper true y z = kept_row_lem (y tt)
        (deeper (ks ▷ l) (renew f (length ls) (length ks)) (omega (arith, fewer, length-▷ ls l, length-▷ ks l)) (with-line k l (λ j h. inl h)))
    without-row deeper false y z = dropped-row z
        (deeper ks (renew f (length ls) (length ks)) (omega (arith, fewer, length-▷ ls l)) (without-line k l (λ j h. inl h) (length ks) z))

  -- ---- a branch that a branching row opens
  record Branch (ls : List Line) (l : Line) {I : Formula} (p : Closed e in_b (ls ▷ l) I) (ks : List Line) (f : ℕ → ℕ) : Type 0 where
    proof : Closed e in_b (ks ▷ l) I
    are : (rest : List Entry) → entries proof rest ≡ shortened p (renew f (length ls) (length ks)) (suc (length ks)) rest
    few : row_count proof ≤ row_count p
    flat : depth proof ≡ depth p
    on : (j : ℕ) → j < length ls → DependsOn p j → DependsOn proof (f j)
    all : AllNeeded proof
    told : (rest : List ℕ) → report proof (without_zeros rest) ≡ without_zeros (report p rest)

  branch : (ls : List Line) (l : Line) {I : Formula} (p : Closed e in_b (ls ▷ l) I) (ks : List Line) (f : ℕ → ℕ) (R : ℕ → Type 0) → ((j : ℕ) → DependsOn p j → R j) → length ks ≤ length ls → Keeps R ls ks f
      → ((ks1 : List Line) (f1 : ℕ → ℕ) → length ks1 ≤ length (ls ▷ l) → Keeps (DependsOn p) (ls ▷ l) ks1 f1 → Without p ks1 f1) → Branch ls l p ks f
  branch ls l p ks f R within fewer k deeper = of (deeper (ks ▷ l) (renew f (length ls) (length ks)) (omega (arith, fewer, length-▷ ls l, length-▷ ks l)) (with-line k l within))
    where
      of : Without p (ks ▷ l) (renew f (length ls) (length ks)) → Branch ls l p ks f
      of x = record {
        proof = x.proof;
        are = λ rest. x.are rest ∙ ap (λ (m : ℕ). shortened p (renew f (length ls) (length ks)) m rest) (length-▷ ks l);
        few = x.few;
        flat = x.flat;
        on = λ j b h. subst (λ (i : ℕ). DependsOn x.proof i) (renew-other f (length ls) (length ks) j (λ e. absurd (let z : ⊥ = omega (arith, b, e) in z))) (x.on j (omega (arith, b, length-▷ ls l)) h);
        all = x.all;
        told = x.told;
      }

  module _ {ls : List Line} {t t_A : Form} {I1 E I0 : Formula} (i : ℕ) (at : Nth ls i (line ≤0 t t_A)) (room : Room e ls (line ≤0 (t plus 1) (t_A plus 1)))
      (p1 : Closed e in_b (ls ▷ line ≤0 (t plus 1) (t_A plus 1)) I1) (pE : Closed e in_b (ls ▷ line =0 t t_A) E) (p0 : Closed e in_b (ls ▷ line ≤0 (t plus 1) t_A) I0)
      (ks : List Line) (f : ℕ → ℕ) (fewer : length ks ≤ length ls) (k : Keeps (DependsOn (strengthen i at room p1 pE p0)) ls ks f) where
    without-strengthen : Branch ls (line ≤0 (t plus 1) (t_A plus 1)) p1 ks f → Branch ls (line =0 t t_A) pE ks f → Branch ls (line ≤0 (t plus 1) t_A) p0 ks f
        → Without (strengthen i at room p1 pE p0) ks f
    without-strengthen x1 xE x0 = record {
      proof = strengthen (f i) (k.at i (inl refl) (line ≤0 t t_A) at) (room-less fewer room) x1.proof xE.proof x0.proof;
      are = λ rest. ap (λ (es : List Entry). row (Strengthen (f i)) ∷ es) (ap (entries x1.proof) (ap (entries xE.proof) (x0.are rest) ∙ xE.are _) ∙ x1.are _);
      few = omega (arith, x1.few, xE.few, x0.few);
      flat = omega (arith, x1.flat, xE.flat, x0.flat);
      on = λ j b. each (ap f) (each (x1.on j b) (each (xE.on j b) (x0.on j b)));
      all = (x1.all, xE.all, x0.all);
      told = λ rest. ap (λ (ns : List ℕ). 2 ∷ ns) (ap (report x1.proof) (ap (report xE.proof) (x0.told rest) ∙ xE.told (report p0 rest)) ∙ x1.told (report pE (report p0 rest)));
    }

  module _ {ls : List Line} {t t_A : Form} {I J : Formula} (i : ℕ) (at : Nth ls i (line_apart A t t_A)) (r1 : Room e ls (line ≤0 (t plus 1) (t_A plus 1))) (r2 : Room e ls (line ≤0 (neg t plus 1) (neg t_A plus 1)))
      (p : Closed e in_b (ls ▷ line ≤0 (t plus 1) (t_A plus 1)) I) (q : Closed e in_b (ls ▷ line ≤0 (neg t plus 1) (neg t_A plus 1)) J)
      (ks : List Line) (f : ℕ → ℕ) (fewer : length ks ≤ length ls) (k : Keeps (DependsOn (split_eq i at r1 r2 p q)) ls ks f) where
    without-split-eq : Branch ls (line ≤0 (t plus 1) (t_A plus 1)) p ks f → Branch ls (line ≤0 (neg t plus 1) (neg t_A plus 1)) q ks f → Without (split_eq i at r1 r2 p q) ks f
    without-split-eq x y = record {
      proof = split_eq (f i) (k.at i (inl refl) (line_apart A t t_A) at) (room-less fewer r1) (room-less fewer r2) x.proof y.proof;
      are = λ rest. ap (λ (es : List Entry). row (Split (f i)) ∷ es) (ap (entries x.proof) (y.are rest) ∙ x.are _);
      few = omega (arith, x.few, y.few);
      flat = omega (arith, x.flat, y.flat);
      on = λ j b. each (ap f) (each (x.on j b) (y.on j b));
      all = (x.all, y.all);
      told = λ rest. ap (λ (ns : List ℕ). 2 ∷ ns) (ap (report x.proof) (y.told rest) ∙ x.told (report q rest));
    }

  module _ {ls : List Line} {t t_A : Form} {I J : Formula} (i : ℕ) (at : Nth ls i (line_apart B t t_A)) (r1 : Room e ls (line ≤0 (t plus 1) t_A)) (r2 : Room e ls (line ≤0 (neg t plus 1) (neg t_A)))
      (p : Closed e in_b (ls ▷ line ≤0 (t plus 1) t_A) I) (q : Closed e in_b (ls ▷ line ≤0 (neg t plus 1) (neg t_A)) J)
      (ks : List Line) (f : ℕ → ℕ) (fewer : length ks ≤ length ls) (k : Keeps (DependsOn (split_neq i at r1 r2 p q)) ls ks f) where
    without-split-neq : Branch ls (line ≤0 (t plus 1) t_A) p ks f → Branch ls (line ≤0 (neg t plus 1) (neg t_A)) q ks f → Without (split_neq i at r1 r2 p q) ks f
    without-split-neq x y = record {
      proof = split_neq (f i) (k.at i (inl refl) (line_apart B t t_A) at) (room-less fewer r1) (room-less fewer r2) x.proof y.proof;
      are = λ rest. ap (λ (es : List Entry). row (Split (f i)) ∷ es) (ap (entries x.proof) (y.are rest) ∙ x.are _);
      few = omega (arith, x.few, y.few);
      flat = omega (arith, x.flat, y.flat);
      on = λ j b. each (ap f) (each (x.on j b) (y.on j b));
      all = (x.all, y.all);
      told = λ rest. ap (λ (ns : List ℕ). 2 ∷ ns) (ap (report x.proof) (y.told rest) ∙ x.told (report q rest));
    }

  module _ {ls : List Line} {t t_A : Form} {I J : Formula} (i g m : ℕ) (r : Rounds e ls i g m t t_A) (p : Closed e in_b (ls ▷ line ≤0 (t plus m) (t_A plus m)) I) (ps : Rounded e in_b ls t t_A g m 0 J)
      (ks : List Line) (f : ℕ → ℕ) (fewer : length ks ≤ length ls) (k : Keeps (DependsOn (round i g m r p ps)) ls ks f) where
    without-round : Branch ls (line ≤0 (t plus m) (t_A plus m)) p ks f → WithoutRounded ps ks f → Without (round i g m r p ps) ks f
    without-round x y = record {
      proof = round (f i) g m (rounds-less f fewer (k.at i (inl refl) (line ≤0 t t_A) r.at) r) x.proof y.proof;
      are = λ rest. ap (λ (es : List Entry). row (Round (f i) g m) ∷ es) (ap (entries x.proof) (y.are rest) ∙ x.are _);
      few = omega (arith, x.few, y.few);
      flat = omega (arith, x.flat, y.flat);
      on = λ j b. each (ap f) (each (x.on j b) (y.on j b));
      all = (x.all, y.all);
      told = λ rest. ap (λ (ns : List ℕ). 2 ∷ ns) (ap (report x.proof) (y.told rest) ∙ x.told (report_rounded ps rest));
    }

  module _ {ls : List Line} {t t_A : Form} {E I : Formula} {g m i : ℕ} (b : suc i ≡ m) (is : StrideOf in_b g (t_A plus i) E) (p : Closed e in_b (ls ▷ line ≤0 (t plus m) (t_A plus i)) I)
      (ks : List Line) (f : ℕ → ℕ) where
    without-last : Branch ls (line ≤0 (t plus m) (t_A plus i)) p ks f → WithoutRounded {ls = ls} {t = t} {t_A = t_A} {g = g} {k = m} {i = i} (last b is p) ks f
    without-last x = record { proof = last b is x.proof; are = x.are; few = x.few; flat = x.flat; on = x.on; all = x.all; told = x.told }

  module _ {ls : List Line} {t t_A : Form} {E I J : Formula} {g m i : ℕ} (b : suc i < m) (is : StrideOf in_b g (t_A plus i) E) (p : Closed e in_b (ls ▷ line ≤0 (t plus m) (t_A plus i)) I)
      (ps : Rounded e in_b ls t t_A g m (suc i) J) (ks : List Line) (f : ℕ → ℕ) where
    without_more : Branch ls (line ≤0 (t plus m) (t_A plus i)) p ks f → WithoutRounded ps ks f → WithoutRounded {ls = ls} {t = t} {t_A = t_A} {g = g} {k = m} {i = i} (more b is p ps) ks f
    without_more x y = record {
      proof = more b is x.proof y.proof;
      are = λ rest. ap (entries x.proof) (y.are rest) ∙ x.are _;
      few = omega (arith, x.few, y.few);
      flat = omega (arith, x.flat, y.flat);
      on = λ j b. each (x.on j b) (y.on j b);
      all = (x.all, y.all);
      told = λ rest. ap (report x.proof) (y.told rest) ∙ x.told (report_rounded ps rest);
    }

  -- ---- all rows
  mutual
    pub without : {ls : List Line} {I : Formula} (p : Closed e in_b ls I) (ks : List Line) (f : ℕ → ℕ) → length ks ≤ length ls → Keeps (DependsOn p) ls ks f → Without p ks f
    without (derive {ls = ls} claimed n room p) ks f fewer k =
        without-row claimed n room p ks f fewer k (λ a b c d. without p a b c d) (depends_on p (length ls)) (depends_on-true p (length ls)) (true-depends_on p (length ls))
    without (strengthen {ls = ls} {t = t} {t_A = t_A} i at room p1 pE p0) ks f fewer k = without-strengthen i at room p1 pE p0 ks f fewer k
        (branch ls (line ≤0 (t plus 1) (t_A plus 1)) p1 ks f (DependsOn (strengthen i at room p1 pE p0)) (λ j h. inr (inl h)) fewer k (λ a b c d. without p1 a b c d))
        (branch ls (line =0 t t_A) pE ks f (DependsOn (strengthen i at room p1 pE p0)) (λ j h. inr (inr (inl h))) fewer k (λ a b c d. without pE a b c d))
        (branch ls (line ≤0 (t plus 1) t_A) p0 ks f (DependsOn (strengthen i at room p1 pE p0)) (λ j h. inr (inr (inr h))) fewer k (λ a b c d. without p0 a b c d))
    without (round {ls = ls} {t = t} {t_A = t_A} i g m r p ps) ks f fewer k = without-round i g m r p ps ks f fewer k
        (branch ls (line ≤0 (t plus m) (t_A plus m)) p ks f (DependsOn (round i g m r p ps)) (λ j h. inr (inl h)) fewer k (λ a b c d. without p a b c d))
        (without-rounded ps ks f fewer (less (λ j h. inr (inr h)) k))
    without (split_eq {ls = ls} {t = t} {t_A = t_A} i at r1 r2 p q) ks f fewer k = without-split-eq i at r1 r2 p q ks f fewer k
        (branch ls (line ≤0 (t plus 1) (t_A plus 1)) p ks f (DependsOn (split_eq i at r1 r2 p q)) (λ j h. inr (inl h)) fewer k (λ a b c d. without p a b c d))
        (branch ls (line ≤0 (neg t plus 1) (neg t_A plus 1)) q ks f (DependsOn (split_eq i at r1 r2 p q)) (λ j h. inr (inr h)) fewer k (λ a b c d. without q a b c d))
    without (split_neq {ls = ls} {t = t} {t_A = t_A} i at r1 r2 p q) ks f fewer k = without-split-neq i at r1 r2 p q ks f fewer k
        (branch ls (line ≤0 (t plus 1) t_A) p ks f (DependsOn (split_neq i at r1 r2 p q)) (λ j h. inr (inl h)) fewer k (λ a b c d. without p a b c d))
        (branch ls (line ≤0 (neg t plus 1) (neg t_A)) q ks f (DependsOn (split_neq i at r1 r2 p q)) (λ j h. inr (inr h)) fewer k (λ a b c d. without q a b c d))
    without (number {k = kind} {t = t} {t_A = t_A} i at z d) ks f fewer k = record {
      proof = number (f i) (k.at i refl (line kind t t_A) at) z d;
      are = λ rest. refl;
      few = omega arith;
      flat = refl;
      on = λ j b h. ap f h;
      all = tt;
      told = λ rest. refl;
    }
    without (stride {t = t} {t_A = t_A} i g at low all not is) ks f fewer k = record {
      proof = stride (f i) g (k.at i refl (line =0 t t_A) at) low all not is;
      are = λ rest. refl;
      few = omega arith;
      flat = refl;
      on = λ j b h. ap f h;
      all = tt;
      told = λ rest. refl;
    }

    without-rounded : {ls : List Line} {t t_A : Form} {g m i : ℕ} {I : Formula} (p : Rounded e in_b ls t t_A g m i I) (ks : List Line) (f : ℕ → ℕ) → length ks ≤ length ls → Keeps (DependsOnRounded p) ls ks f → WithoutRounded p ks f
    without-rounded (last {ls = ls} {t = t} {t_A = t_A} {k = m} {j = i} b is p) ks f fewer k =
        without-last b is p ks f (branch ls (line ≤0 (t plus m) (t_A plus i)) p ks f (DependsOn p) (λ j h. h) fewer k (λ a b c d. without p a b c d))
    without-rounded (more {ls = ls} {t = t} {t_A = t_A} {k = m} {j = i} b is p ps) ks f fewer k = without_more b is p ps ks f
        (branch ls (line ≤0 (t plus m) (t_A plus i)) p ks f (DependsOnRounded (more b is p ps)) (λ j h. inl h) fewer k (λ a b c d. without p a b c d))
        (without-rounded ps ks f fewer (less (λ j h. inr h) k))
