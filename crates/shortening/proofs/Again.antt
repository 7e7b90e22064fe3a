-- A closed branch whose rows are all needed is its own shorter one. Assumes nothing.
use mathlib.Core.Path.{◌≡◌, sym, ◌∙◌, ap, ap₂}
use mathlib.Core.List.{List, ◌∷◌}
use mathlib.Core.Bool.{Bool, true, false, cond}
use Prim.Native.Nat.{ℕ, suc, ◌<◌}
use native.Mathlib.Omega.{arith}
use lib.ListN.{length}
use lib.Dec.{T, eqb, eqb→eq}
use Rattle.forms.specs.Edition.{Edition}
use Rattle.forms.specs.Forms.{Form, Line, Formula}
use Rattle.calculus.specs.Rules.{◌▷◌, Inference, Combine, Reduce, Scale, inference, New, combine, reduce, scale, Closed, derive, strengthen, round, split_eq, split_neq, number, stride, Rounded, last, more, Derive, Strengthen, Round, Split, CloseNumber, CloseStride, Entry, row, claims, entries, entries_rounded}
use Rattle.shortening.specs.Needed.{depends_on, renew, renumber, kept_row, kept_lines, shortened, shortened_rounded}
use Rattle.shortening.proofs.Computed.{AllNeeded, AllNeededRounded}
use Rattle.shortening.proofs.Needed.{same, true-depends_on}
use Rattle.shortening.proofs.Without.{length-▷, nth-below, is_true}

-- the numbers below n stay
pub record Stay (f : ℕ → ℕ) (n : ℕ) : Type 0 where
  pub at : (j : ℕ) → j < n → f j ≡ j

stay-line : (f : ℕ → ℕ) (ls : List Line) (l : Line) → Stay f (length ls) → Stay (renew f (length ls) (length ls)) (length (ls ▷ l))
stay-line f ls l h = record { at = λ j b. by j (omega (arith, b, length-▷ ls l)) (eqb j (length ls)) (eqb→eq j (length ls)) (same j (length ls)) }
  where
    by : (j : ℕ) → j < suc (length ls) → (b : Bool) → (T b → j ≡ length ls) → (j ≡ length ls → T b) → cond b (length ls) (f j) ≡ j
    by j c true t s = sym (t tt)
    by j c false t s = h.at j (below j c s)
      where
        below : (j : ℕ) → j < suc (length ls) → (j ≡ length ls → ⊥) → j < length ls
        below j c s = omega (arith, c, s)

inference-stays : {ls : List Line} {l : Line} (f : ℕ → ℕ) (n : New ls l) → Stay f (length ls) → renumber f (inference n) ≡ inference n
inference-stays {ls} f (combine i j α β a b _ _) h = ap₂ (λ (x y : ℕ). Combine x y α β) (h.at i (nth-below ls _ i a)) (h.at j (nth-below ls _ j b))
inference-stays {ls} f (reduce i j α a b _) h = ap₂ (λ (x y : ℕ). Reduce x y α) (h.at i (nth-below ls _ i a)) (h.at j (nth-below ls _ j b))
inference-stays {ls} f (scale i α a _) h = ap (λ (x : ℕ). Scale x α) (h.at i (nth-below ls _ i a))

module _ {e : Edition} {in_b : ℕ → Bool} where
  -- a branch that a row opens
  stays-branch : (ls : List Line) (l : Line) {I : Formula} (p : Closed e in_b (ls ▷ l) I) (f : ℕ → ℕ) → Stay f (length ls)
      → ((f : ℕ → ℕ) → Stay f (length (ls ▷ l)) → (rest : List Entry) → shortened p f (length (ls ▷ l)) rest ≡ entries p rest)
      → (rest : List Entry) → shortened p (renew f (length ls) (length ls)) (suc (length ls)) rest ≡ entries p rest
  stays-branch ls l p f h deeper rest =
      ap (λ (m : ℕ). shortened p (renew f (length ls) (length ls)) m rest) (sym (length-▷ ls l)) ∙ deeper (renew f (length ls) (length ls)) (stay-line f ls l h) rest

  mutual
    pub stays : {ls : List Line} {I : Formula} (p : Closed e in_b ls I) → AllNeeded p → (f : ℕ → ℕ) → Stay f (length ls) → (rest : List Entry) → shortened p f (length ls) rest ≡ entries p rest
    stays (derive {ls = ls} {l = l} claimed n _ p) a f h rest =
        ap (λ (b : Bool). kept_row b (renumber f (inference n)) claimed l (shortened p (renew f (length ls) (length ls)) (kept_lines b (length ls)) rest))
        (is_true (depends_on p (length ls)) (true-depends_on p (length ls) a.0))
        ∙ ap (λ (s : Inference). row (Derive s) ∷ claims claimed l (shortened p (renew f (length ls) (length ls)) (suc (length ls)) rest)) (inference-stays f n h)
        ∙ ap (λ (es : List Entry). row (Derive (inference n)) ∷ claims claimed l es) (stays-branch ls l p f h (λ g c r. stays p a.1 g c r) rest)
    stays (strengthen {ls = ls} i at _ p1 pE p0) a f h rest = ap₂ (λ (x : ℕ) (es : List Entry). row (Strengthen x) ∷ es) (h.at i (nth-below ls _ i at))
        (stays-branch ls _ p1 f h (λ g c r. stays p1 a.0 g c r) _
        ∙ ap (entries p1) (stays-branch ls _ pE f h (λ g c r. stays pE a.1 g c r) _ ∙ ap (entries pE) (stays-branch ls _ p0 f h (λ g c r. stays p0 a.2 g c r) rest)))
    stays (round {ls = ls} i g k r p ps) a f h rest = ap₂ (λ (x : ℕ) (es : List Entry). row (Round x g k) ∷ es) (h.at i (nth-below ls _ i r.at))
        (stays-branch ls _ p f h (λ g c r. stays p a.0 g c r) _ ∙ ap (entries p) (stays-rounded ps a.1 f h rest))
    stays (split_eq {ls = ls} i at _ _ p q) a f h rest = ap₂ (λ (x : ℕ) (es : List Entry). row (Split x) ∷ es) (h.at i (nth-below ls _ i at))
        (stays-branch ls _ p f h (λ g c r. stays p a.0 g c r) _ ∙ ap (entries p) (stays-branch ls _ q f h (λ g c r. stays q a.1 g c r) rest))
    stays (split_neq {ls = ls} i at _ _ p q) a f h rest = ap₂ (λ (x : ℕ) (es : List Entry). row (Split x) ∷ es) (h.at i (nth-below ls _ i at))
        (stays-branch ls _ p f h (λ g c r. stays p a.0 g c r) _ ∙ ap (entries p) (stays-branch ls _ q f h (λ g c r. stays q a.1 g c r) rest))
    stays (number {ls = ls} i at _ _) a f h rest = ap (λ (x : ℕ). row (CloseNumber x) ∷ rest) (h.at i (nth-below ls _ i at))
    stays (stride {ls = ls} i g at _ _ _ _) a f h rest = ap (λ (x : ℕ). row (CloseStride x g) ∷ rest) (h.at i (nth-below ls _ i at))

    stays-rounded : {ls : List Line} {t t_A : Form} {g k j : ℕ} {I : Formula} (p : Rounded e in_b ls t t_A g k j I) → AllNeededRounded p → (f : ℕ → ℕ) → Stay f (length ls) → (rest : List Entry)
        → shortened_rounded p f (length ls) rest ≡ entries_rounded p rest
    stays-rounded (last {ls = ls} _ _ p) a f h rest = stays-branch ls _ p f h (λ g c r. stays p a g c r) rest
    stays-rounded (more {ls = ls} _ _ p ps) a f h rest = stays-branch ls _ p f h (λ g c r. stays p a.0 g c r) _ ∙ ap (entries p) (stays-rounded ps a.1 f h rest)
