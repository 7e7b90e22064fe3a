-- Each way through testing a list, over plain values. Assumes nothing.
use mathlib.Core.Path.{◌≡◌, refl, sym, ap, ap₂, ◌∙◌}
use mathlib.Core.List.{List, ◌++◌}
use Prim.Native.Nat.{ℕ, zero, suc, ◌+◌, ◌/◌, ◌%◌, ◌≤◌, ◌<◌}
use native.Mathlib.Nat.{div-add-mod'}
use native.Mathlib.Omega.{arith}
use lib.IntN.{ℤ, pos}
use lib.ListN.{length, get_or, take, drop, replicate}
use lib.Seq.{sets, sets-eq, length-take-le}
use Rattle.std.specs.Prelude.{Ok, Err, Some, None}
use Rattle.std.specs.declared.result.Result as code
use Rattle.std.specs.declared.option.Option as opt
use Rattle.answers.specs.Refusals.{number_of}
use Rattle.answers.specs.declared.refusals.Fault.{Fault}
use Rattle.formula_read.specs.Judging.{FormulaRead}
use Rattle.answers.specs.declared.WriteResult.{WriteResult}
use Rattle.answers.specs.Answers.{answer, acceptance, file_proof, file_lent, refused, accepted, written_of}
use Rattle.answers.proofs.Results.{binds, passes, bind-refused, then-refused}
use Rattle.fields.specs.declared.FileKind.{FileKind}
use Rattle.fields.specs.declared.header.Headed.{Headed}
use Rattle.fields.specs.Places.{fields_at, IsHeader}
use Rattle.fields.specs.Ending.{IsEnding}
use Rattle.formula.specs.Formula.{read_formula}
use Rattle.form_value.specs.Registers.{AllWithin, Registers}
use Rattle.formula_read.specs.declared.reading.Judged.{Judged}
use Rattle.formula_test.specs.Values.{ranged, FirstOutside}
use Rattle.formula_test.proofs.Phases.{header_is, header-K}
use Rattle.formula.specs.TestList.{vectors, read_for_list, truths}
use Rattle.formula.proofs.TestList.{list-refused, list-short, list-filled, bytes, bytes-long, outside, too_long, to_read}
use Rattle.formula_list.specs.Promises.{TestsList}
use Rattle.formula_block.specs.Blocks.{Fills}
use Rattle.formula_list.specs.Phases.{unwritten, ToRead, FormulaStands, ReadOnce}
use Rattle.formula_leaf.proofs.Leaves.{part-within}

-- ---- refused
pub refuses : {formula : List ℕ} {K : ℕ} {values : List ℤ} {number file place : ℕ} {r : WriteResult} (out : List ℕ) → read_for_list formula K values ≡ refused (answer number file place)
    → r ≡ unwritten number file place → TestsList formula K values out out r
refuses {formula} {K} {values} out e f = record { is = ap (λ x. written_of x out) f ∙ sym (list-refused formula K values out e) }

-- ---- the formula is known
module _ {formula : List ℕ} {start : ℕ} {values : List ℤ} {K n : ℕ} (k : ToRead formula values K n) (h : FormulaStands formula K start) where
  known : read_for_list formula K values ≡ accepted h.I
  known = k.next ∙ h.all

  pub too_short : {r : WriteResult} (out : List ℕ) → length out < n → r ≡ unwritten 21 file_lent n → TestsList formula K values out out r
  too_short out l f = record {
    is = ap (λ x. written_of x out) f ∙ sym (list-short formula K values out known (rw k.number l) ∙ ap (λ (m : ℕ). record { answer = answer 21 file_lent m; count = 0; output = out }) k.number);
  }

  pub filled : {out out' : List ℕ} → n ≤ length out → Fills formula start values K n out out' → TestsList formula K values out out' (record { answer = acceptance; count = n })
  filled {out} {out'} l f = record { is = sym (list-filled formula K values out known (rw k.number l) ∙ ap₂ (λ (m : ℕ) (o : List ℕ). record { answer = acceptance; count = m; output = o }) k.number (sym whole)) }
    where
      whole : out' ≡ bytes formula K values out known ++ drop (length values / K) out
      whole =
          let b = bytes formula K values out known in
          let m : length b ≡ length values / K = bytes-long formula K values out known in
          let z : 0 + length b ≡ length values / K = omega (arith, m) in
          f.is h.I h.rest h.is ∙ ap (λ (m : ℕ). sets out 0 (truths h.I (vectors K m values))) (sym k.number)
          ∙ sets-eq b out 0 (omega (arith, m, k.number)) ∙ rw z

-- ---- the formula's file read: its header, the formula, and what may stand after it
module _ {formula : List ℕ} {K : ℕ} (positive : 1 ≤ K) {h : code.Result Headed Fault} (d : IsHeader FileKind.Formula 1 K formula h) where
  pub header-fault : {e : Fault} → h ≡ Err e → ReadOnce formula K (Err e)
  unfolding read_formula
  header-fault q = record { read = bind-refused _ (header_is positive d ∙ rw q) }

  module _ {x : Headed} (e : h ≡ Ok x) {values : List ℤ} {j : code.Result Judged Fault} (b : FormulaRead formula x.next values K 600 j) where
    pub read-fault : {e : Fault} → j ≡ Err e → ReadOnce formula K (Err e)
    unfolding read_formula
    read-fault q = record { read = binds _ (header-K positive d e) ∙ bind-refused _ (rw q at b.judged) }

    module _ {r : Judged} (q : j ≡ Ok r) {a : code.Result (Unit {0}) Fault} (l : IsEnding FileKind.Formula formula r.next a) where
      pub end-fault : {e : Fault} → a ≡ Err e → ReadOnce formula K (Err e)
      unfolding read_formula
      end-fault f =
          let y = rw q at b.judged in
          record { read = binds _ (header-K positive d e) ∙ binds _ y.is ∙ then-refused _ (l.is file_proof ∙ rw f) }

      pub read-whole : {u : Unit {0}} → a ≡ Ok u → ReadOnce formula K (Ok x.next)
      unfolding read_formula
      read-whole f =
          let y = rw q at b.judged in
          record { read = record { I = y.formula; rest = fields_at formula r.next; is = y.is; all = binds _ (header-K positive d e) ∙ binds _ y.is ∙ passes _ (l.is file_proof ∙ rw f) } }

-- ---- the values are in order
module _ (formula : List ℕ) (K : ℕ) (values : List ℤ) (some : 1 ≤ K) (few : K ≤ 16) (whole : length values % K ≤ 0) {i : opt.Option ℕ} (o : FirstOutside values i) where
  pub value-outside : {j : ℕ} → i ≡ Some j → read_for_list formula K values ≡ refused (answer 23 file_lent j)
  unfolding ranged
  value-outside h = let q = rw h at o.is in outside formula K values some few (omega arith) q.1

  module _ (all : i ≡ None) where
    ranged-all : (ranged 0 values ≡ accepted tt) × AllWithin values
    ranged-all = rw all at o.is

    pub in_order : length formula ≤ 65_536 → ToRead formula values K (length values / K)
    unfolding ranged
    in_order short = record {
      vectors = record { all = ranged-all.1; count = omega (arith, div-add-mod' (length values) K); some = some; few = few };
      number = refl;
      next = to_read formula K values some few (omega arith) ranged-all.0 short;
    }

    pub formula-long : 65_536 < length formula → read_for_list formula K values ≡ refused (answer 1 file_proof 0)
    unfolding ranged
    formula-long long = too_long formula K values some few (omega arith) ranged-all.0 long

    -- what the formula is refused for, each behind the values
    pub formula-refused : (e : Fault) → length formula ≤ 65_536 → {r : code.Result ℕ Fault} → ReadOnce formula K r → r ≡ Err e
        → read_for_list formula K values ≡ refused (answer (number_of e.refusal) file_proof e.place)
    formula-refused e short c q = (in_order short).next ∙ (rw q at c.read)

-- ---- the formula read once, at zeros
pub zeros-at : (n i : ℕ) → get_or (replicate n (pos 0)) i (pos 0) ≡ pos 0
zeros-at zero i = refl
zeros-at (suc n) zero = refl
zeros-at (suc n) (suc i) = zeros-at n i

pub zero-registers : (zeros : List ℤ) {K : ℕ} → 1 ≤ K → K ≤ 16 → length zeros ≡ 16 → ((i : ℕ) → get_or zeros i (pos 0) ≡ pos 0) → Registers (take K zeros) K
zero-registers zeros {K} some few long z = record {
  all = part-within (record { at = λ i. rw (z i) (record { abs = omega arith }) }) K 0;
  count = length-take-le K zeros (omega arith);
  some = some;
  few = few;
}
