-- Stride parts are written in reduced form, which nothing tells from a formula as it stood. Assumes nothing.
use mathlib.Core.Path.{◌≡◌, refl, sym, ◌∙◌, ap, ap₂, subst}
use mathlib.Core.Logic.{◌↔◌}
use mathlib.Core.Bool.{Bool, true, false}
use mathlib.Core.List.{List}
use Prim.Native.Nat.{ℕ, ◌≤◌}
use lib.Dec.{eqb}
use lib.IntN.{ℤ}
use lib.ListN.{length}
use borrow.Author.Tests.{eqb-true, eqb-false}
use Rattle.forms.specs.Edition.{Edition, edition1}
use Rattle.forms.specs.Forms.{Form, Line, Formula, ◌divides◌, ◌and◌, ◌or◌, within, True, height}
use Rattle.forms.specs.Reduced.{reducing, Strides}
use Rattle.calculus.specs.Rules.{StrideOf, Closed, derive, strengthen, round, split_eq, split_neq, number, stride, Rounded, last, more}
use Rattle.calculus.proofs.Reducing.{reducing-alike, reducing-reduced, reducing-again, derived-reduced, derived-stands}
use Rattle.formula.specs.Formula.{formula_file, Encodable}
use Rattle.formula.specs.Test.{tested, test_formula}
use Rattle.formula.proofs.RoundTrip.{read_other}
use Rattle.formula_test.specs.Promises.{as_tested}
use Rattle.proof.proofs.ReducedTests.{tested_alike, file-length}
use Rattle.guarantee.specs.Reduced.{as_it_stood, rounded_as_it_stood, InReducedForm}
use Rattle.guarantee.proofs.Acceptance.{is-checkable, leaves}

-- ---- the formula with its numbers as they stand
-- a stride form as it stands, and reduced
stride-standing : {in_b : ℕ → Bool} {g : ℕ} {t_A : Form} {E : Formula} → StrideOf in_b g t_A E → reducing (g divides within in_b t_A) ≡ E
unfolding reducing
stride-standing is = sym is.is

module _ {e : Edition} {in_b : ℕ → Bool} where
  mutual
    standing-strides : {ls : List Line} {I : Formula} (p : Closed e in_b ls I) → Strides (as_it_stood p)
    standing-strides (derive _ _ _ p) = standing-strides p
    standing-strides (strengthen _ _ _ p1 pE p0) = (standing-strides p1, (standing-strides pE, standing-strides p0))
    standing-strides (round _ _ _ r p ps) = (standing-strides p, rounded-strides ps r.stride)
    standing-strides (split_eq _ _ _ _ p q) = (standing-strides p, standing-strides q)
    standing-strides (split_neq _ _ _ _ p q) = (standing-strides p, standing-strides q)
    standing-strides (number _ _ _ _) = tt
    standing-strides (stride _ g _ h _ _ _) = h

    rounded-strides : {ls : List Line} {t t_A : Form} {g k j : ℕ} {I : Formula} (p : Rounded e in_b ls t t_A g k j I) → 2 ≤ g → Strides (rounded_as_it_stood p)
    rounded-strides (last _ _ p) h = (h, standing-strides p)
    rounded-strides (more _ _ p ps) h = ((h, standing-strides p), rounded-strides ps h)

  mutual
    unfolding reducing

    standing-reduced : {ls : List Line} {I : Formula} (p : Closed e in_b ls I) → reducing (as_it_stood p) ≡ I
    standing-reduced (derive _ _ _ p) = standing-reduced p
    standing-reduced (strengthen _ _ _ p1 pE p0) = ap₂ ◌or◌ (standing-reduced p1) (ap₂ ◌and◌ (standing-reduced pE) (standing-reduced p0))
    standing-reduced (round _ _ _ _ p ps) = ap₂ ◌or◌ (standing-reduced p) (rounded-reduced ps)
    standing-reduced (split_eq _ _ _ _ p q) = ap₂ ◌or◌ (standing-reduced p) (standing-reduced q)
    standing-reduced (split_neq _ _ _ _ p q) = ap₂ ◌and◌ (standing-reduced p) (standing-reduced q)
    standing-reduced (number _ _ _ _) = refl
    standing-reduced (stride _ g _ _ _ _ is) = stride-standing is

    rounded-reduced : {ls : List Line} {t t_A : Form} {g k j : ℕ} {I : Formula} (p : Rounded e in_b ls t t_A g k j I) → reducing (rounded_as_it_stood p) ≡ I
    rounded-reduced (last _ is p) = ap₂ ◌and◌ (stride-standing is) (standing-reduced p)
    rounded-reduced (more _ is p ps) = ap₂ ◌or◌ (ap₂ ◌and◌ (stride-standing is) (standing-reduced p)) (rounded-reduced ps)

-- ---- testing
-- where the values are not as many as the file's constants, its header is refused whatever follows
module _ (K : ℕ) (I : Formula) (h : Encodable K I) (l : height I ≤ edition1.levels) (values : List ℤ) where
  other-count : ¬ (K ≡ length values) → test_formula (formula_file edition1 K (reducing I)) values ≡ test_formula (formula_file edition1 K I) values
  unfolding test_formula tested
  other-count n = rw (file-length K I h, read_other K (length values) (reducing I) n, read_other K (length values) I n)

  alike : test_formula (formula_file edition1 K (reducing I)) values ≡ test_formula (formula_file edition1 K I) values
  alike = go (eqb K (length values)) refl
    where
      go : (b : Bool) → eqb K (length values) ≡ b → test_formula (formula_file edition1 K (reducing I)) values ≡ test_formula (formula_file edition1 K I) values
      go true e =
          let k : K ≡ length values = eqb-true K (length values) e in
          subst (λ (n : ℕ). test_formula (formula_file edition1 n (reducing I)) values ≡ test_formula (formula_file edition1 n I) values) (sym k)
          (tested_alike values I (subst (λ (n : ℕ). Encodable n I) k h) l)
      go false e = other-count (eqb-false K (length values) e)

-- Point 5.
pub in-reduced-form : InReducedForm
in-reduced-form = record {
  writes = λ A B proof output left r c h.
      let a = is-checkable c h in
      let p = a.certified.yields.proves.proof in
      record { checked = a; written = leaves c a; numbers = derived-reduced p; stands = derived-stands p };
  of_document_01 = λ A B proof K I y.
      let p = y.proves.proof in
      let e = standing-reduced p in
      (e, λ v. subst (λ (J : Formula). True (as_it_stood p) v ↔ True J v) e (reducing-alike (as_it_stood p) v (standing-strides p)));
  reduces = λ I s. (reducing-reduced I s, reducing-again I s);
  true_alike = λ I s v. reducing-alike I v s;
  tests_alike = λ K I h l values r r' c c'. c'.is ∙ ap as_tested (alike K I h l values) ∙ sym c.is;
}
