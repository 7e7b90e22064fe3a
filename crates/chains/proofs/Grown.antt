-- A closed branch, indexed by its tree, so that two of one tree are matched together. Assumes nothing.
use mathlib.Core.Path.{◌≡◌}
use mathlib.Core.List.{List}
use mathlib.Core.Bool.{Bool}
use Prim.Native.Nat.{ℕ, suc, ◌≤◌}
use lib.IntN.{ℤ, pos}
use Rattle.integers.specs.Divides.{◌∣ℤ◌}
use Rattle.forms.specs.Edition.{Edition}
use Rattle.forms.specs.Forms.{Form, Kind, ≤0, =0, A, B, Line, line, line_apart, neg, Formula, literal, ◌and◌, ◌or◌, coeff, ◌⊞◌, ◌·◌, ◌plus◌}
use Rattle.calculus.specs.Rules.{Inference, Combine, Reduce, Scale, Nth, ◌▷◌, New, combine, reduce, scale, StrideOf, Closed, derive, strengthen, round, split_eq, split_neq, number, stride, Rounded, last, more, inference}
use Rattle.chains.proofs.Trees.{Tree, ByDerive, ByStrengthen, ByNumber, ByStride, ByRound, BySplit, Trees, Final, Further, tree, trees}

pub data Made (ls : List Line) : Inference → Line → Type 0 where
  by-combine : {i j α β : ℕ} {s s_A t t_A : Form} → Nth ls i (line ≤0 s s_A) → Nth ls j (line ≤0 t t_A)
      → Made ls (Combine i j α β) (line ≤0 (pos α · s ⊞ pos β · t) (pos α · s_A ⊞ pos β · t_A))
  by-reduce : {i j : ℕ} {α : ℤ} {k : Kind} {s s_A t t_A : Form} → Nth ls i (line k s s_A) → Nth ls j (line =0 t t_A)
      → Made ls (Reduce i j α) (line k (s ⊞ α · t) (s_A ⊞ α · t_A))
  by-scale : {i α : ℕ} {k : Kind} {t t_A : Form} → Nth ls i (line k t t_A)
      → Made ls (Scale i α) (line k (pos α · t) (pos α · t_A))

pub made : {ls : List Line} {l : Line} (n : New ls l) → Made ls (inference n) l
made (combine i j α β p q _ _) = by-combine p q
made (reduce i j α p q _) = by-reduce p q
made (scale i α p _) = by-scale p

mutual
  pub data Grown (in_b : ℕ → Bool) : Tree → List Line → Formula → Type 0 where
    derived : {s : Inference} {a : Tree} {ls : List Line} {l : Line} {I : Formula} → New ls l → Made ls s l → Grown in_b a (ls ▷ l) I → Grown in_b (ByDerive s a) ls I
    strengthened : {i : ℕ} {a b c : Tree} {ls : List Line} {t t_A : Form} {I1 E I0 : Formula} → Nth ls i (line ≤0 t t_A)
        → Grown in_b a (ls ▷ line ≤0 (t plus 1) (t_A plus 1)) I1
        → Grown in_b b (ls ▷ line =0 t t_A) E
        → Grown in_b c (ls ▷ line ≤0 (t plus 1) t_A) I0
        → Grown in_b (ByStrengthen i a b c) ls (I1 or (E and I0))
    by_number : {i : ℕ} {ls : List Line} {k : Kind} {t t_A : Form} → Nth ls i (line k t t_A) → Grown in_b (ByNumber i) ls (literal k t_A)
    by_stride : {i g : ℕ} {ls : List Line} {t t_A : Form} {E : Formula} → Nth ls i (line =0 t t_A) → 2 ≤ g → ((c : ℕ) → pos g ∣ℤ coeff t c) → StrideOf in_b g t_A E
        → Grown in_b (ByStride i g) ls E
    rounded : {i g k : ℕ} {a : Tree} {bs : Trees} {ls : List Line} {t t_A : Form} {I J : Formula} → Nth ls i (line ≤0 t t_A) → 2 ≤ g → ((c : ℕ) → pos g ∣ℤ coeff t c)
        → Grown in_b a (ls ▷ line ≤0 (t plus k) (t_A plus k)) I
        → Growing in_b bs ls t t_A g k 0 J
        → Grown in_b (ByRound i g k a bs) ls (I or J)
    splits_eq : {i : ℕ} {a b : Tree} {ls : List Line} {t t_A : Form} {I J : Formula} → Nth ls i (line_apart A t t_A)
        → Grown in_b a (ls ▷ line ≤0 (t plus 1) (t_A plus 1)) I
        → Grown in_b b (ls ▷ line ≤0 (neg t plus 1) (neg t_A plus 1)) J
        → Grown in_b (BySplit i a b) ls (I or J)
    splits_neq : {i : ℕ} {a b : Tree} {ls : List Line} {t t_A : Form} {I J : Formula} → Nth ls i (line_apart B t t_A)
        → Grown in_b a (ls ▷ line ≤0 (t plus 1) t_A) I
        → Grown in_b b (ls ▷ line ≤0 (neg t plus 1) (neg t_A)) J
        → Grown in_b (BySplit i a b) ls (I and J)

  -- the branches of a rounding from j on
  pub data Growing (in_b : ℕ → Bool) : Trees → List Line → (t t_A : Form) (g k j : ℕ) → Formula → Type 0 where
    grown_final : {a : Tree} {ls : List Line} {t t_A : Form} {g k j : ℕ} {E I : Formula} → suc j ≡ k → StrideOf in_b g (t_A plus j) E
        → Grown in_b a (ls ▷ line ≤0 (t plus k) (t_A plus j)) I
        → Growing in_b (Final a) ls t t_A g k j (E and I)
    grown_further : {a : Tree} {bs : Trees} {ls : List Line} {t t_A : Form} {g k j : ℕ} {E I J : Formula} → StrideOf in_b g (t_A plus j) E
        → Grown in_b a (ls ▷ line ≤0 (t plus k) (t_A plus j)) I
        → Growing in_b bs ls t t_A g k (suc j) J
        → Growing in_b (Further a bs) ls t t_A g k j ((E and I) or J)

mutual
  pub grown : {e : Edition} {in_b : ℕ → Bool} {ls : List Line} {I : Formula} (p : Closed e in_b ls I) → Grown in_b (tree p) ls I
  grown (derive _ n _ p) = derived n (made n) (grown p)
  grown (strengthen i p _ p1 pE p0) = strengthened p (grown p1) (grown pE) (grown p0)
  grown (number i p _ _) = by_number p
  grown (stride i g p two all _ e) = by_stride p two all e
  grown (round i g k r q qs) = rounded r.at r.stride r.divided (grown q) (growing qs)
  grown (split_eq i p _ _ q r) = splits_eq p (grown q) (grown r)
  grown (split_neq i p _ _ q r) = splits_neq p (grown q) (grown r)

  growing : {e : Edition} {in_b : ℕ → Bool} {ls : List Line} {t t_A : Form} {g k j : ℕ} {J : Formula} (p : Rounded e in_b ls t t_A g k j J) → Growing in_b (trees p) ls t t_A g k j J
  growing (last n e q) = grown_final n e (grown q)
  growing (more _ e q qs) = grown_further e (grown q) (growing qs)
