-- Testing at a list: each refusal, in its order, and what is written. Assumes nothing.
use mathlib.Core.Path.{◌≡◌, refl, sym, ap, ◌∙◌}
use mathlib.Core.Bool.{Bool, true, false}
use mathlib.Core.List.{List, [], ◌∷◌, ◌++◌}
use Prim.Native.Nat.{ℕ, zero, suc, ◌+◌, ◌*◌, ◌/◌, ◌%◌, ◌<◌, ◌≤◌}
use native.Mathlib.Omega.{arith}
use lib.Dec.{T, leb}
use lib.ListN.{length, get_or, take, drop, length-map}
use lib.Seq.{drop-drop}
use lib.IntN.{ℤ, pos, nat_abs}
use borrow.Author.Tests.{le-leb, lt-leb, eq-eqb, ne_eqb}
use Rattle.forms.specs.Forms.{All, Formula}
use Rattle.answers.specs.declared.Answer.{Answer}
use Rattle.answers.specs.Answers.{answer, acceptance, file_proof, file_lent, refused, accepted, ◌>>◌, need, each, written, fit, over}
use Rattle.answers.proofs.Results.{binds, bind-refused, pass, passes, fail, then-refused, each-accepted}
use Rattle.fields.specs.Fields.{fields}
use Rattle.formula.specs.Formula.{read_formula}
use Rattle.formula.specs.Test.{judge, registers, tested}
use Rattle.formula.specs.TestList.{vectors, read_for_list, byte, truths, test_list}

-- ---- sizes
pub vectors-length : (K n : ℕ) (values : List ℤ) → length (vectors K n values) ≡ n
unfolding vectors
vectors-length K zero values = refl
vectors-length K (suc n) values = ap suc (vectors-length K n (drop K values))

pub truths-length : (I : Formula) (vs : List (List ℤ)) → length (truths I vs) ≡ length vs
unfolding truths
truths-length I vs = length-map vs (λ v. byte (judge I (registers v)))

-- byte i is the truth at the K values from i * K on
pub truth-at : (I : Formula) (K n i : ℕ) (values : List ℤ) → i < n → get_or (truths I (vectors K n values)) i 0 ≡ byte (judge I (registers (take K (drop (i * K) values))))
unfolding truths vectors
truth-at I K zero i values h = absurd (omega arith)
truth-at I K (suc n) zero values h = let e : 0 * K ≡ 0 = omega arith in rw e
truth-at I K (suc n) (suc i) values h =
    let e : K + i * K ≡ suc i * K = omega arith in
    truth-at I K n i (drop K values) (omega arith) ∙ rw (drop-drop (i * K) K values, e)

-- ---- the first value that fails a test
each-refused : (at : ℕ → Answer) (p : ℤ → Bool) (i : ℕ) (zs : List ℤ) (n : ℕ) → n < length zs → ((k : ℕ) → k < n → p (get_or zs k (pos 0)) ≡ true) → p (get_or zs n (pos 0)) ≡ false
    → each at p i zs ≡ refused (at (i + n))
unfolding each
each-refused at p i [] n h all out = absurd (omega arith)
each-refused at p i (z ∷ zs) zero h all out = let e : i + 0 ≡ i = omega arith in rw e (fail _ _ out)
each-refused at p i (z ∷ zs) (suc n) h all out =
    let e : suc i + n ≡ i + suc n = omega arith in
    pass _ _ (all 0 (omega arith)) ∙ each-refused at p (suc i) zs n (omega arith) (λ k l. all (suc k) (omega arith)) out ∙ rw e

-- ---- 7, then 23, then 1 and the formula
module _ (formula : List ℕ) (K : ℕ) (values : List ℤ) where
  pub no-constant : K < 1 → read_for_list formula K values ≡ refused (answer 7 file_lent 0)
  unfolding read_for_list
  no-constant h = fail _ _ (rw (lt-leb 1 K h))

  module _ (low : 1 ≤ K) where
    pub many-constants : 16 < K → read_for_list formula K values ≡ refused (answer 7 file_lent 0)
    unfolding read_for_list
    many-constants h = fail _ _ (rw (le-leb 1 K low, lt-leb K 16 h))

    module _ (high : K ≤ 16) where
      pub not-whole : 0 < length values % K → read_for_list formula K values ≡ refused (answer 7 file_lent 0)
      unfolding read_for_list
      not-whole h = fail _ _ (rw (le-leb 1 K low, le-leb K 16 high, ne_eqb (length values % K) 0 (λ z. absurd (omega arith))))

      module _ (whole : length values % K ≡ 0) where
        counted : read_for_list formula K values ≡ (each (λ i. answer 23 file_lent i) (λ z. leb (nat_abs z) 1_000_000) 0 values >> (need (answer 1 file_proof 0) (leb (length formula) 65_536) >> read_formula K (fields formula)))
        unfolding read_for_list
        counted = pass _ _ (rw (le-leb 1 K low, le-leb K 16 high, eq-eqb (length values % K) 0 whole))

        pub outside : {a : Answer} → each (λ i. answer 23 file_lent i) (λ z. leb (nat_abs z) 1_000_000) 0 values ≡ refused a → read_for_list formula K values ≡ refused a
        outside e = counted ∙ then-refused _ e

        pub outside-at : (n : ℕ) → n < length values → ((k : ℕ) → k < n → nat_abs (get_or values k (pos 0)) ≤ 1_000_000) → 1_000_000 < nat_abs (get_or values n (pos 0))
            → read_for_list formula K values ≡ refused (answer 23 file_lent n)
        outside-at n h all out =
            let e : 0 + n ≡ n = omega arith in
            outside (each-refused _ _ 0 values n h (λ k l. le-leb _ 1_000_000 (all k l)) (lt-leb _ 1_000_000 out) ∙ ap (λ (m : ℕ). refused (answer 23 file_lent m)) e)

        pub inside : each (λ i. answer 23 file_lent i) (λ z. leb (nat_abs z) 1_000_000) 0 values ≡ accepted tt
            → read_for_list formula K values ≡ (need (answer 1 file_proof 0) (leb (length formula) 65_536) >> read_formula K (fields formula))
        inside e = counted ∙ passes _ e

        pub too_long : each (λ i. answer 23 file_lent i) (λ z. leb (nat_abs z) 1_000_000) 0 values ≡ accepted tt → 65_536 < length formula → read_for_list formula K values ≡ refused (answer 1 file_proof 0)
        too_long e h = inside e ∙ fail _ _ (lt-leb (length formula) 65_536 h)

        pub to_read : each (λ i. answer 23 file_lent i) (λ z. leb (nat_abs z) 1_000_000) 0 values ≡ accepted tt → length formula ≤ 65_536 → read_for_list formula K values ≡ read_formula K (fields formula)
        to_read e h = inside e ∙ pass _ _ (le-leb (length formula) 65_536 h)

-- K values that are permitted are tested as the list is, of which they need not be.
pub vector-is : (formula : List ℕ) (K : ℕ) (values v : List ℤ) → 1 ≤ K → K ≤ 16 → length values % K ≡ 0 → length v ≡ K
    → All (λ z. T (leb (nat_abs z) 1_000_000)) values → All (λ z. T (leb (nat_abs z) 1_000_000)) v → tested formula v ≡ read_for_list formula K values
unfolding tested
vector-is formula K values v low high whole long all each-v =
    pass _ _ (rw (long, le-leb 1 K low, le-leb K 16 high)) ∙ passes _ (each-accepted _ _ 0 each-v)
    ∙ ap (λ (k : ℕ). need (answer 1 file_proof 0) (leb (length formula) 65_536) >> read_formula k (fields formula)) long
    ∙ sym (inside formula K values low high whole (each-accepted _ _ 0 all))

-- ---- what is written, last 21
module _ (formula : List ℕ) (K : ℕ) (values : List ℤ) (output : List ℕ) where
  pub list-refused : {a : Answer} → read_for_list formula K values ≡ refused a → test_list formula K values output ≡ record { answer = a; count = 0; output = output }
  unfolding test_list written
  list-refused e = ap (λ w. written w output) (bind-refused _ e)

  module _ {I : Formula} (e : read_for_list formula K values ≡ accepted I) where
    abbrev pub bytes : List ℕ
    bytes = truths I (vectors K (length values / K) values)

    pub bytes-long : length bytes ≡ length values / K
    bytes-long = truths-length I (vectors K (length values / K) values) ∙ vectors-length K (length values / K) values

    pub byte_at : (i : ℕ) → i < length values / K → get_or bytes i 0 ≡ byte (judge I (registers (take K (drop (i * K) values))))
    byte_at i h = truth-at I K (length values / K) i values h

    list-accepted : test_list formula K values output ≡ fit output (leb (length values / K) (length output)) bytes
    unfolding test_list written
    list-accepted = ap (λ w. written w output) (binds _ e) ∙ ap (λ (m : ℕ). fit output (leb m (length output)) (truths I (vectors K (length values / K) values))) bytes-long

    pub list-short : length output < length values / K → test_list formula K values output ≡ record { answer = answer 21 file_lent (length values / K); count = 0; output = output }
    unfolding fit
    list-short h =
        list-accepted ∙ ap (λ (b : Bool). fit output b bytes) (lt-leb (length values / K) (length output) h)
        ∙ ap (λ (m : ℕ). record { answer = answer 21 file_lent m; count = 0; output = output }) bytes-long

    pub list-filled : length values / K ≤ length output → test_list formula K values output ≡ record { answer = acceptance; count = length values / K; output = bytes ++ drop (length values / K) output }
    unfolding fit over
    list-filled h =
        list-accepted ∙ ap (λ (b : Bool). fit output b bytes) (le-leb (length values / K) (length output) h)
        ∙ ap (λ (m : ℕ). record { answer = acceptance; count = m; output = bytes ++ drop m output }) bytes-long
