-- What testing a filed guard tells of the registers holds of check and of testing a formula. Assumes nothing.
use mathlib.Core.Path.{◌≡◌, refl, sym, ◌∙◌, ap, subst}
use mathlib.Core.Bool.{Bool, true, false}
use mathlib.Core.List.{List}
use Prim.Native.Nat.{ℕ, ◌≤◌}
use native.Mathlib.Omega.{arith}
use mir.Facts.{yes_and}
use lib.Dec.{T, leb, le→leb}
use lib.ListN.{length, take, length-take}
use lib.IntN.{ℤ, nat_abs}
use Rattle.forms.specs.Edition.{edition1}
use Rattle.forms.specs.Forms.{All, nil, cons, Formula}
use Rattle.answers.specs.Answers.{acceptance, accepted}
use Rattle.answers.proofs.Results.{needs, passes, each-accepted}
use Rattle.fields.specs.Fields.{fields}
use Rattle.formula.specs.Formula.{read_formula}
use Rattle.formula.specs.Test.{judge, registers, tested, judged, test_formula}
use Rattle.formula.proofs.Judge.{judge-true}
use Rattle.formula_test.specs.declared.Tested.{Tested}
use Rattle.formula_test.specs.Promises.{as_tested}
use Rattle.proof.proofs.Agree.{one_formula}
use Rattle.guarantee.specs.Guard.{GuardTells}
use Rattle.guarantee.proofs.FormulaFiles.{file-read}
use Rattle.guarantee.proofs.Soundness.{soundness}

pub bool-true : (b : Bool) → T b → b ≡ true
bool-true true t = refl
bool-true false t = absurd t

pub bool_false : (b : Bool) → (T b → ⊥) → b ≡ false
bool_false true h = absurd (h tt)
bool_false false h = refl

-- A file that reads as I over as many constants as there are values is tested as I is judged.
module _ (file : List ℕ) (values : List ℤ) (I : Formula) (reads : read_formula (length values) (fields file) ≡ accepted I) (short : length file ≤ edition1.formula_bytes)
    (low : 1 ≤ length values) (high : length values ≤ edition1.constants) (range : All (λ z. nat_abs z ≤ edition1.values) values) where
  in-range : {zs : List ℤ} → All (λ z. nat_abs z ≤ edition1.values) zs → All (λ z. T (leb (nat_abs z) edition1.values)) zs
  in-range nil = nil
  in-range (cons {x = z} h hs) = cons (le→leb (nat_abs z) edition1.values h) (in-range hs)

  read_whole : tested file values ≡ accepted I
  unfolding tested
  read_whole =
      needs _ _ _ (yes_and (leb 1 (length values)) (leb (length values) edition1.constants) (le→leb 1 (length values) low) (le→leb (length values) edition1.constants high))
      ∙ passes _ (each-accepted _ _ 0 (in-range range))
      ∙ needs _ _ _ (le→leb (length file) edition1.formula_bytes short)
      ∙ reads

  pub tested-as : test_formula file values ≡ record { answer = acceptance; holds = judge I (registers values) }
  unfolding test_formula judged
  tested-as = rw read_whole

pub guard_tells : GuardTells
guard_tells = record {
  tells = λ FA FB framedA framedB MA MB faithfulA faithfulB proof output left r bytes c h values count range t d.
      let x = soundness.interpolates FA FB framedA framedB MA MB faithfulA faithfulB proof output left r c h in
      let low = x.certified.yields.file_proof.low in
      let high = x.certified.yields.file_proof.high in
      let reads = file-read x.K (take r.count left) x.formula low high (x.states bytes) in
      let K-is : length values ≡ x.K = count ∙ x.K_of_A in
      let told : t ≡ as_tested (record { answer = acceptance; holds = judge x.formula (registers values) }) =
      d.is ∙ ap as_tested (tested-as (take r.count left) values x.formula (subst (λ (k : ℕ). read_formula k (fields (take r.count left)) ≡ accepted x.formula) (sym K-is) reads)
      (omega (arith, x.upto, length-take r.count left)) (omega (arith, low)) (omega (arith, high)) range) in (
        ap (λ (t : Tested). t.answer) told,
        λ K I d.
            let same : I ≡ x.formula = (one_formula d.yields x.certified.yields).1 in (
              λ e. (judge-true I (registers values)).0 (rw (same, sym (ap (λ (t : Tested). t.holds) told), e) tt),
              λ t. ap (λ (t : Tested). t.holds) told ∙ bool-true _ ((judge-true x.formula (registers values)).1 (rw (sym same) t)),
            ),
        λ m. ap (λ (t : Tested). t.holds) told ∙ bool-true _ ((judge-true x.formula (registers values)).1 (x.interpolant.A_true (registers values) m)),
        λ m. ap (λ (t : Tested). t.holds) told ∙ bool_false _ (λ t. x.interpolant.B_false (registers values) m ((judge-true x.formula (registers values)).0 t)),
      );
}
