-- What testing a formula at a list tells. Assumes nothing.
use mathlib.Core.Path.{◌≡◌, refl, sym, ap, subst, ◌∙◌}
use mathlib.Core.Bool.{Bool, true, false, ◌&&◌}
use mathlib.Core.List.{List, ◌++◌}
use Prim.Native.Nat.{ℕ, suc, ◌*◌, ◌/◌, ◌%◌, ◌<◌, ◌≤◌}
use native.Mathlib.Nat.{mul-mod_left, mul-div_cancel, mul-le-mul, le_refl, div-add-mod'}
use native.Mathlib.Omega.{arith}
use mir.Facts.{and_yes}
use borrow.Author.Tests.{leb-true, leb-false}
use lib.Dec.{T, leb, eqb, le→leb, leb→le, eqb→eq}
use lib.ListN.{length, get_or, drop, length-drop, length-append, get_or-append}
use lib.Seq.{drop-append_seam, length-take-le}
use lib.IntN.{ℤ, pos, nat_abs}
use Rattle.forms.specs.Forms.{All, Formula}
use Rattle.answers.specs.declared.Answer.{Answer}
use Rattle.answers.specs.declared.WriteResult.{WriteResult}
use Rattle.answers.specs.Answers.{answer, acceptance, file_lent, Result, refused, accepted, Written, written_of}
use Rattle.answers.proofs.Results.{Gives, not-0, weaken, each-gives, each-accepted, test, seq}
use Rattle.number_bytes.proofs.Signed.{all-weaken, all_take, all_drop}
use Rattle.formula.specs.Test.{judge, registers, tested, judged, test_formula}
use Rattle.formula.specs.TestList.{read_for_list, byte, test_list}
use Rattle.formula.proofs.TestList.{no-constant, many-constants, not-whole, outside-at, to_read, vector-is, list-refused, list-short, list-filled, bytes, bytes-long, byte_at}
use Rattle.formula_test.specs.declared.Tested.{Tested}
use Rattle.formula_test.specs.Promises.{Tests}
use Rattle.formula_list.specs.Promises.{TestsList}
use Rattle.guarantee.specs.Testing.{FormulaFile}
use Rattle.guarantee.specs.TestList.{Vectors, ValuesInRange, vector_at, Acceptable, ListTells}
use Rattle.guarantee.proofs.FormulaFiles.{read-gives, file-read}

-- ---- shape and range, as tests
abbrev Allowed : List ℤ → Type 0
Allowed values = All (λ z. T (leb (nat_abs z) 1_000_000)) values

allowed : {values : List ℤ} → ValuesInRange values → Allowed values
allowed h = all-weaken (λ z k. le→leb (nat_abs z) 1_000_000 k) h

permitted : {values : List ℤ} → Allowed values → ValuesInRange values
permitted h = all-weaken (λ z k. leb→le (nat_abs z) 1_000_000 k) h

module _ {K n : ℕ} {values : List ℤ} (v : Vectors K n values) where
  rest_0 : length values % K ≡ 0
  rest_0 = ap (λ (m : ℕ). m % K) v.whole ∙ mul-mod_left n K

  size-n : length values / K ≡ n
  size-n = ap (λ (m : ℕ). m / K) v.whole ∙ mul-div_cancel n v.low

of-rest : {K : ℕ} {values : List ℤ} → 1 ≤ K → K ≤ 16 → length values % K ≡ 0 → Vectors K (length values / K) values
of-rest {K} {values} low high e = record { low = low; high = high; whole = omega (arith, div-add-mod' (length values) K, e) }

-- ---- what an accepted list has passed
record Passed (formula : List ℕ) (K : ℕ) (values : List ℤ) (I : Formula) : Type 0 where
  vectors : Vectors K (length values / K) values
  range : Allowed values
  upto : length formula ≤ 65_536
  states : FormulaFile K formula I

list-gives : (formula : List ℕ) (K : ℕ) (values : List ℤ) → Gives (read_for_list formula K values) (λ I. Passed formula K values I)
unfolding read_for_list
list-gives formula K values =
    test _ _ tt λ h. seq (each-gives _ _ (λ i. tt) 0 values) λ r. test _ _ tt λ s. weaken (read-gives K formula) λ I f.
    let (a, c) = and_yes (leb 1 K && leb K 16) (eqb (length values % K) 0) h in
    let (p, q) = and_yes (leb 1 K) (leb K 16) a in
    record { vectors = of-rest (leb→le 1 K p) (leb→le K 16 q) (eqb→eq (length values % K) 0 c); range = r; upto = leb→le (length formula) 65_536 s; states = f }

-- ---- what one vector's test gives, by what the list's reading gives
tested-refused : (formula : List ℕ) (v : List ℤ) (a : Answer) (t : Tested) → Tests formula v t → tested formula v ≡ refused a → t.answer ≡ a
unfolding test_formula judged
tested-refused formula v a t c e = ap (λ (x : Tested). x.answer) c.is ∙ rw e

tested-accepted : (formula : List ℕ) (v : List ℤ) (I : Formula) (t : Tested) → Tests formula v t → tested formula v ≡ accepted I → (t.answer ≡ acceptance) × (t.holds ≡ judge I (registers v))
unfolding test_formula judged
tested-accepted formula v I t c e = (ap (λ (x : Tested). x.answer) c.is ∙ rw e, ap (λ (x : Tested). x.holds) c.is ∙ rw e)

-- ---- bytes in front of an output
module _ (bs : List ℕ) (n : ℕ) (size : length bs ≡ n) (output left : List ℕ) (h : n ≤ length output) (e : left ≡ bs ++ drop n output) where
  front_long : length left ≡ length output
  front_long = ap length e ∙ simp (length-append, length-drop) (omega arith)

  front_rest : drop n left ≡ drop n output
  front_rest = ap (drop n) e ∙ ap (λ (m : ℕ). drop m (bs ++ drop n output)) (sym size) ∙ drop-append_seam bs (drop n output)

  front_at : (i : ℕ) → i < n → get_or left i 0 ≡ get_or bs i 0
  front_at i k = ap (λ (l : List ℕ). get_or l i 0) e ∙ get_or-append bs (drop n output) 0 i (omega arith)

vector-long : {K n : ℕ} {values : List ℤ} → Vectors K n values → (i : ℕ) → i < n → length (vector_at K values i) ≡ K
vector-long {K} {n} {values} v i h =
    let l : suc i * K ≤ n * K = mul-le-mul {n₁ = suc i} h (le_refl K) in
    length-take-le K (drop (i * K) values) (simp length-drop (omega (arith, v.whole, l)))

module _ (formula : List ℕ) (K : ℕ) (values : List ℤ) (output left : List ℕ) (r : WriteResult) (c : TestsList formula K values output left r) where
  answer-by : {w : Written} → test_list formula K values output ≡ w → r.answer ≡ w.answer
  answer-by e = ap (λ (v : Written). v.answer) (c.is ∙ e)

  -- ---- accepted
  record Taken : Type 0 where
    I : Formula
    passed : Passed formula K values I
    is : read_for_list formula K values ≡ accepted I
    room : length values / K ≤ length output

  taken : r.answer.number ≡ 0 → Taken
  taken z = go (read_for_list formula K values) refl
    where
      fits : (I : Formula) → read_for_list formula K values ≡ accepted I → (b : Bool) → leb (length values / K) (length output) ≡ b → Taken
      fits I e true q = record { I = I; passed = (list-gives formula K values).gives I e; is = e; room = leb-true (length values / K) (length output) q }
      fits I e false q =
          let w = answer-by (list-short formula K values output e (leb-false (length values / K) (length output) q)) in
          absurd (omega (arith, sym (ap (λ (a : Answer). a.number) w) ∙ z))

      go : (w : Result Formula) → read_for_list formula K values ≡ w → Taken
      go (refused a) e = absurd (not-0 ((list-gives formula K values).refusal a e) (sym (ap (λ (a : Answer). a.number) (answer-by (list-refused formula K values output e))) ∙ z))
      go (accepted I) e = fits I e (leb (length values / K) (length output)) refl

  filled : (k : Taken) → written_of r left ≡ record { answer = acceptance; count = length values / K; output = bytes formula K values output k.is ++ drop (length values / K) output }
  filled k = c.is ∙ list-filled formula K values output k.is k.room

  there : (n : ℕ) → (r.answer.number ≡ 0) × (r.count ≡ n) → Acceptable formula K n values output
  there n (z, e) =
      let k = taken z in
      let p = k.passed in
      let m : length values / K ≡ n = sym (ap (λ (w : Written). w.count) (filled k)) ∙ e in
      record { vectors = subst (λ (n : ℕ). Vectors K n values) m p.vectors; range = permitted p.range; upto = p.upto; I = k.I; states = p.states; room = subst (λ (n : ℕ). n ≤ length output) m k.room }

  back : (n : ℕ) → Acceptable formula K n values output → (r.answer.number ≡ 0) × (r.count ≡ n)
  back n a =
      let v = a.vectors in
      let e = to_read formula K values v.low v.high (rest_0 v) (each-accepted _ _ 0 (allowed a.range)) a.upto ∙ file-read K formula a.I v.low v.high a.states in
      let w = c.is ∙ list-filled formula K values output e (subst (λ (n : ℕ). n ≤ length output) (sym (size-n v)) a.room) in
      (ap (λ (x : Written). x.answer.number) w, ap (λ (x : Written). x.count) w ∙ size-n v)

  abbrev Each : (count : ℕ) → Type 0
  Each count = (length left ≡ length output) × (drop count left ≡ drop count output)
      × ((i : ℕ) → i < count → (t : Tested) → Tests formula (vector_at K values i) t → (t.answer ≡ acceptance) × (get_or left i 0 ≡ byte t.holds))

  each-byte : r.answer.number ≡ 0 → Each r.count
  each-byte z =
      let k = taken z in
      let p = k.passed in
      let v = p.vectors in
      let n = length values / K in
      let w = filled k in
      let bs = bytes formula K values output k.is in
      let size = bytes-long formula K values output k.is in
      let f : left ≡ bs ++ drop n output = ap (λ (x : Written). x.output) w in
      let all : Each n = (
        front_long bs n size output left k.room f,
        front_rest bs n size output left k.room f,
        λ i h t d.
            let x = tested-accepted formula (vector_at K values i) k.I t d (vector-is formula K values (vector_at K values i) v.low v.high (rest_0 v) (vector-long v i h) p.range (all_take K (all_drop (i * K) p.range)) ∙ k.is) in
            (x.0, front_at bs n size output left k.room f i h ∙ byte_at formula K values output k.is i h ∙ ap byte (sym x.1)),
      ) in
      subst Each (sym (ap (λ (x : Written). x.count) w)) all

  -- ---- refused
  of-shape : ((n : ℕ) → ¬ Vectors K n values) → r.answer ≡ answer 7 file_lent 0
  of-shape none = answer-by (list-refused formula K values output (go (leb 1 K) refl (leb K 16) refl (leb (length values % K) 0) refl))
    where
      go : (a : Bool) → leb 1 K ≡ a → (b : Bool) → leb K 16 ≡ b → (d : Bool) → leb (length values % K) 0 ≡ d → read_for_list formula K values ≡ refused (answer 7 file_lent 0)
      go false p b q d s = no-constant formula K values (leb-false 1 K p)
      go true p false q d s = many-constants formula K values (leb-true 1 K p) (leb-false K 16 q)
      go true p true q false s = not-whole formula K values (leb-true 1 K p) (leb-true K 16 q) (leb-false (length values % K) 0 s)
      go true p true q true s = absurd (none (length values / K) (of-rest (leb-true 1 K p) (leb-true K 16 q) (omega (arith, leb-true (length values % K) 0 s))))

  of-value : {n : ℕ} → Vectors K n values → (i : ℕ) → i < length values → ((j : ℕ) → j < i → nat_abs (get_or values j (pos 0)) ≤ 1_000_000) → 1_000_000 < nat_abs (get_or values i (pos 0))
      → r.answer ≡ answer 23 file_lent i
  of-value v i h before out = answer-by (list-refused formula K values output (outside-at formula K values v.low v.high (rest_0 v) i h before out))

  module _ {n : ℕ} (vs : Vectors K n values) (range : ValuesInRange values) (v : List ℤ) (long : length v ≡ K) (permits : ValuesInRange v) (t : Tested) (d : Tests formula v t) where
    abbrev Alike : Type 0
    Alike = (¬ (t.answer.number ≡ 0) → r.answer ≡ t.answer) × (t.answer.number ≡ 0 → length output < n → r.answer ≡ answer 21 file_lent n)

    alike : Alike
    alike = go (read_for_list formula K values) refl
      where
        as-list : tested formula v ≡ read_for_list formula K values
        as-list = vector-is formula K values v vs.low vs.high (rest_0 vs) long (allowed range) (allowed permits)

        go : (w : Result Formula) → read_for_list formula K values ≡ w → Alike
        go (refused a) e =
            let x : t.answer ≡ a = tested-refused formula v a t d (as-list ∙ e) in
            (λ _. answer-by (list-refused formula K values output e) ∙ sym x, λ z. absurd (not-0 ((list-gives formula K values).refusal a e) (sym (ap (λ (v : Answer). v.number) x) ∙ z)))
        go (accepted I) e =
            let x : t.answer ≡ acceptance = (tested-accepted formula v I t d (as-list ∙ e)).0 in (
              λ k. absurd (k (ap (λ (v : Answer). v.number) x)),
              λ _ k. answer-by (list-short formula K values output e (subst (λ (m : ℕ). length output < m) (sym (size-n vs)) k)) ∙ ap (answer 21 file_lent) (size-n vs),
            )

pub list_tells : ListTells
list_tells = record {
  accepts = λ formula K values output left r c n. (there formula K values output left r c n, back formula K values output left r c n);
  each = λ formula K values output left r c z. each-byte formula K values output left r c z;
  shape = λ formula K values output left r c none. of-shape formula K values output left r c none;
  value = λ formula K n values output left r c v i h before out. of-value formula K values output left r c v i h before out;
  reading = λ formula K n values output left r c vs range v long permits t d. alike formula K values output left r c vs range v long permits t d;
}
