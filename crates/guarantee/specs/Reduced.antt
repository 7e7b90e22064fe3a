-- Stride parts in reduced form: what check writes is reduced, and no register value tells it from the formula as it stood. docs/FORMAT.md, "Formula". Assumes nothing.
use Rattle.std.specs.Prelude.{◌≡◌, ◌↔◌, List, Bool, ℕ, ◌≤◌, ℤ}
use Rattle.forms.specs.Edition.{Edition, edition1, newest_edition}
use Rattle.forms.specs.Forms.{Form, Line, Assignment, Formula, literal, ◌divides◌, ◌and◌, ◌or◌, ◌plus◌, within, True, height}
use Rattle.forms.specs.Reduced.{reducing, Strides, Reduced}
use Rattle.calculus.specs.Rules.{Closed, derive, strengthen, round, split_eq, split_neq, number, stride, Rounded, last, more}
use Rattle.answers.specs.declared.WriteResult.{WriteResult}
use Rattle.formula.specs.Formula.{formula_file, Encodable}
use Rattle.formula_test.specs.declared.Tested.{Tested}
use Rattle.formula_test.specs.Promises.{Tests}
use Rattle.proof.specs.Layout.{Yields}
use Rattle.proof.specs.Promises.{Checks}
use Rattle.guarantee.specs.Acceptance.{Checkable, WrittenAs}

-- The formula of a closed branch with the numbers of a stride form as they stand.
abbrev mutual
  pub as_it_stood : {e : Edition} {in_b : ℕ → Bool} {ls : List Line} {I : Formula} → Closed e in_b ls I → Formula
  as_it_stood (derive _ _ _ p) = as_it_stood p
  as_it_stood (strengthen _ _ _ p1 pE p0) = as_it_stood p1 or (as_it_stood pE and as_it_stood p0)
  as_it_stood (round _ _ _ _ p ps) = as_it_stood p or rounded_as_it_stood ps
  as_it_stood (split_eq _ _ _ _ p q) = as_it_stood p or as_it_stood q
  as_it_stood (split_neq _ _ _ _ p q) = as_it_stood p and as_it_stood q
  as_it_stood (number {k = k} {t_A = t_A} _ _ _ _) = literal k t_A
  as_it_stood {in_b = in_b} (stride {t_A = t_A} _ g _ _ _ _ _) = g divides within in_b t_A

  pub rounded_as_it_stood : {e : Edition} {in_b : ℕ → Bool} {ls : List Line} {t t_A : Form} {g k j : ℕ} {I : Formula} → Rounded e in_b ls t t_A g k j I → Formula
  rounded_as_it_stood {in_b = in_b} {t_A = t_A} {g = g} {j = j} (last _ _ p) = (g divides within in_b (t_A plus j)) and as_it_stood p
  rounded_as_it_stood {in_b = in_b} {t_A = t_A} {g = g} {j = j} (more _ _ p ps) = ((g divides within in_b (t_A plus j)) and as_it_stood p) or rounded_as_it_stood ps

-- An accepted check wrote the bytes of a formula each number of whose stride parts lies from 0 to g-1, so that reducing it changes nothing.
pub record WrittenReduced (A B proof output left : List ℕ) (r : WriteResult) : Type 0 where
  pub checked : Checkable A B proof output
  pub written : WrittenAs (formula_file edition1 checked.K checked.formula) output left r.answer r.count
  pub numbers : Reduced checked.formula
  pub stands : reducing checked.formula ≡ checked.formula

pub record InReducedForm : Type 0 where
  pub writes : (A B proof output left : List ℕ) (r : WriteResult) → Checks A B proof output left r → r.answer.number ≡ 0 → WrittenReduced A B proof output left r
  -- It is the formula with the numbers as they stand, reduced, and true under the same assignments.
  pub of_document_01 : (A B proof : List ℕ) (K : ℕ) (I : Formula) (y : Yields newest_edition A B proof K I)
      → (reducing (as_it_stood y.proves.proof) ≡ I) × ((v : Assignment) → True (as_it_stood y.proves.proof) v ↔ True I v)
  -- Of every formula whose strides are 2 at least: the reduced one has numbers from 0 to g-1, and reducing it again changes nothing.
  pub reduces : (I : Formula) → Strides I → Reduced (reducing I) × (reducing (reducing I) ≡ reducing I)
  -- Under every assignment both are true alike,
  pub true_alike : (I : Formula) → Strides I → (v : Assignment) → True I v ↔ True (reducing I) v
  -- and testing answers alike on the files of both, whatever the values, right or wrong in number or range.
  pub tests_alike : (K : ℕ) (I : Formula) → Encodable K I → height I ≤ edition1.levels → (values : List ℤ) (r r' : Tested)
      → Tests (formula_file edition1 K I) values r → Tests (formula_file edition1 K (reducing I)) values r' → r' ≡ r
