-- The guards of a run, tested, tell what their formulas say. Assumes nothing.
use mathlib.Core.Path.{◌≡◌, refl, sym, ◌∙◌, ap, subst}
use mathlib.Core.Option.{some}
use mathlib.Core.List.{List, [], ◌∷◌, map}
use Prim.Native.Nat.{ℕ, zero, suc, ◌≤◌, ◌<◌}
use native.Mathlib.Omega.{arith}
use lib.Dec.{T}
use lib.ListN.{length, take, get_or, get_elem?, length-map}
use lib.IntN.{ℤ, nat_abs}
use Rattle.forms.specs.Edition.{edition1}
use Rattle.forms.specs.Forms.{All, cons, Formula, True}
use Rattle.answers.specs.declared.WriteResult.{WriteResult}
use Rattle.answers.specs.Answers.{acceptance, accepted}
use Rattle.number_bytes.specs.Numbers.{Bytes}
use Rattle.fields.specs.Fields.{fields}
use Rattle.formula.specs.Formula.{formula_file, read_formula}
use Rattle.formula.specs.Test.{judge, registers, test_formula}
use Rattle.formula.proofs.Judge.{judge-true}
use Rattle.formula_test.specs.declared.Tested.{Tested}
use Rattle.formula_test.specs.Promises.{as_tested, Tests}
use Rattle.run.specs.Run.{parts}
use Rattle.run.specs.Layout.{guard_at}
use Rattle.guarantee.specs.Runs.{Writer, file_by, stated_by, lengths_by, run_by, DeliveredRun}
use Rattle.guarantee.specs.RunTells.{guard_file, GuardsTold, RunTells}
use Rattle.guarantee.proofs.FormulaFiles.{file-read}
use Rattle.guarantee.proofs.Guard.{bool-true, bool_false, tested-as}
use Rattle.guarantee.proofs.Runs.{all-at}
use Rattle.guarantee.proofs.RunPromised.{run-promised}

-- ---- elements by their number
file-at : (K : ℕ) (Is : List Formula) (i : ℕ) → i < length Is → get_or (map (formula_file edition1 K) Is) i [] ≡ formula_file edition1 K (guard_at Is i)
unfolding guard_at
file-at K [] i l = absurd (omega arith)
file-at K (I ∷ Is) zero l = refl
file-at K (I ∷ Is) (suc i) l = file-at K Is i (omega arith)

stage_at : (ws : List Writer) (i : ℕ) (w : Writer) → get_elem? ws i ≡ some w → get_elem? (run_by ws) i ≡ some (stated_by w)
stage_at [] i w e = absurd (let z : ◌≡◌ {A = ℕ} 0 1 = cc in omega arith)
stage_at (v ∷ ws) zero w e = let q : v ≡ w = cc in ap (λ (u : Writer). some (stated_by u)) q
stage_at (v ∷ ws) (suc i) w e = stage_at ws i w e

below : (ws : List Writer) (i : ℕ) (w : Writer) → get_elem? ws i ≡ some w → i < length ws
below [] i w e = absurd (let z : ◌≡◌ {A = ℕ} 0 1 = cc in omega arith)
below (v ∷ ws) zero w e = omega arith
below (v ∷ ws) (suc i) w e = let l = below ws i w e in omega arith

one-K : {n K : ℕ} (ws : List Writer) → 1 ≤ length ws → All (λ w. (w.means w.fields).0 ≡ n) ws → All (λ w. (w.means w.fields).0 ≡ K) ws → n ≡ K
one-K [] l h k = absurd (omega arith)
one-K (w ∷ ws) l (cons h hs) (cons k ks) = sym h ∙ k

-- ---- the theorem
module _ (ws : List Writer) (proof output sizes left sizesLeft : List ℕ) (r : WriteResult) (bytes : Bytes proof) (x : DeliveredRun ws proof output sizes left sizesLeft r)
    (values : List ℤ) (count : All (λ w. (w.means w.fields).0 ≡ length values) ws) (range : All (λ z. nat_abs z ≤ edition1.values) values) where
  K-is : length values ≡ x.K
  K-is = one-K ws (let l : length (lengths_by ws) ≡ length ws = length-map ws (λ w. length (file_by w)) in omega (arith, x.certified.yields.least)) count x.K_of

  file_is : (i : ℕ) → i ≤ length ws → guard_file (length ws) left sizesLeft i ≡ formula_file edition1 x.K (guard_at x.Is i)
  file_is i l =
      ap (λ (n : ℕ). get_or (parts (take n sizesLeft) left) i []) (sym x.guards) ∙ ap (λ (fs : List (List ℕ)). get_or fs i []) x.files ∙ file-at x.K x.Is i (omega (arith, x.guards))

  told : (i : ℕ) → i ≤ length ws → (t : Tested) → Tests (guard_file (length ws) left sizesLeft i) values t
      → t ≡ as_tested (record { answer = acceptance; holds = judge (guard_at x.Is i) (registers values) })
  told i l t d =
      let I = guard_at x.Is i in
      let file = formula_file edition1 x.K I in
      let low = x.certified.yields.file_proof.low in
      let high = x.certified.yields.file_proof.high in
      let reads = file-read x.K file I low high (all-at (x.states bytes) i (omega (arith, x.guards))) in
      d.is ∙ ap (λ (f : List ℕ). as_tested (test_formula f values)) (file_is i l)
      ∙ ap as_tested (tested-as file values I (subst (λ (k : ℕ). read_formula k (fields file) ≡ accepted I) (sym K-is) reads) (all-at x.upto i (omega (arith, x.guards)))
      (let z = K-is in omega (arith, low)) (let z = K-is in omega (arith, high)) range)

  holds_of : (i : ℕ) → i ≤ length ws → (t : Tested) → Tests (guard_file (length ws) left sizesLeft i) values t → t.holds ≡ judge (guard_at x.Is i) (registers values)
  holds_of i l t d = ap (λ (t : Tested). t.holds) (told i l t d)

  run_length : length (run_by ws) ≡ length ws
  run_length = length-map ws stated_by

  guards-told : GuardsTold ws proof left sizesLeft values
  guards-told = record {
    accepts = λ i l t d. ap (λ (t : Tested). t.answer) (told i l t d);
    tells = λ K Is c i l t d.
        let same : Is ≡ x.Is = (run-promised.one_list _ _ proof K x.K (run_by ws) (run_by ws) Is x.Is c.yields x.certified.yields).2 in (
          λ e. rw same ((judge-true (guard_at x.Is i) (registers values)).0 (subst T (sym e ∙ holds_of i l t d) tt)),
          λ h. holds_of i l t d ∙ bool-true _ ((judge-true (guard_at x.Is i) (registers values)).1 (rw same at h)),
        );
    met = λ i l t d.
        let I = x.chain.each i (omega (arith, run_length)) in (
          λ m. holds_of i l t d ∙ bool-true _ ((judge-true (guard_at x.Is i) (registers values)).1 (I.A_true (registers values) m)),
          λ m. holds_of i l t d ∙ bool_false _ (λ b. I.B_false (registers values) m ((judge-true (guard_at x.Is i) (registers values)).0 b)),
        );
    next = λ i w e m t t' d d' h.
        let l = below ws i w e in
        let here : True (guard_at x.Is i) (registers values) = (judge-true (guard_at x.Is i) (registers values)).0 (subst T (sym h ∙ holds_of i (omega arith) t d) tt) in
        holds_of (suc i) (omega arith) t' d'
        ∙ bool-true _ ((judge-true (guard_at x.Is (suc i)) (registers values)).1 (x.chain.next (registers values) i (stated_by w) (stage_at ws i w e) m here));
  }

pub run-tells : RunTells
run-tells = record {
  tells = λ ws proof output sizes left sizesLeft r bytes w h values count range.
      guards-told ws proof output sizes left sizesLeft r bytes (run-promised.interpolates ws proof output sizes left sizesLeft r w h) values count range;
}
