-- Each way through testing a formula, over plain values. Assumes nothing.
use mathlib.Core.Path.{◌≡◌, refl, sym, ap, ◌∙◌}
use mathlib.Core.Option.{some}
use mathlib.Core.Bool.{Bool}
use mathlib.Core.List.{List}
use Prim.Native.Nat.{ℕ, ◌≤◌, ◌<◌}
use lib.Dec.{leb, eqb→eq}
use lib.IntN.{ℤ}
use lib.ListN.{length}
use borrow.Author.Tests.{le-leb, lt-leb}
use Rattle.forms.specs.Forms.{Formula}
use Rattle.std.specs.Prelude.{Ok, Err, Some, None}
use Rattle.std.specs.declared.result.Result as code
use Rattle.std.specs.declared.option.Option as opt
use Rattle.answers.specs.Refusals.{told}
use Rattle.answers.specs.declared.refusals.Fault.{Fault}
use Rattle.answers.specs.Answers.{answer, file_proof, file_lent, Result, accepted, ◌>>◌, need}
use Rattle.answers.proofs.Results.{binds, passes, pass, fail, bind-refused, then-refused}
use Rattle.fields.specs.declared.FileKind.{FileKind}
use Rattle.fields.specs.declared.header.Headed.{Headed}
use Rattle.fields.specs.Fields.{fields}
use Rattle.fields.specs.Header.{agrees, header}
use Rattle.fields.specs.Places.{fields_at, header_of, IsHeader}
use Rattle.fields.specs.Ending.{IsEnding}
use Rattle.fields.proofs.Headers.{given-some}
use Rattle.fields.proofs.HeaderLaid.{header-gives}
use Rattle.formula.specs.Formula.{read_formula}
use Rattle.formula.specs.Test.{judged, tested, test_formula}
use Rattle.form_value.specs.Registers.{AllWithin, Registers}
use Rattle.formula_read.specs.Judging.{FormulaRead}
use Rattle.formula_read.specs.declared.reading.Judged.{Judged}
use Rattle.formula_test.specs.Values.{ranged, FirstOutside}
use Rattle.formula_test.specs.Promises.{as_tested, Tests}
use Rattle.formula_test.specs.Outcomes.{test_refused, given}
use Rattle.formula_test.specs.declared.Tested.{Tested}

-- ---- reading the formula whole
-- its header: K is the number of values
module _ {s : List ℕ} {K : ℕ} (positive : 1 ≤ K) {h : code.Result Headed Fault} (k : IsHeader FileKind.Formula 1 K s h) where
  pub header_is : header FileKind.Formula file_proof 1 (some K) (fields s) ≡ told file_proof (header_of s) h
  header_is = ap (λ o. header FileKind.Formula file_proof 1 o (fields s)) (sym (given-some K positive)) ∙ k.is file_proof

  pub header-K : {x : Headed} → h ≡ Ok x
      → header FileKind.Formula file_proof 1 (some K) (fields s) ≡ accepted (record { number = x.edition; K = K; rest = fields_at s x.next })
  unfolding agrees
  header-K {x} e =
      let p : header FileKind.Formula file_proof 1 (some K) (fields s) ≡ accepted (record { number = x.edition; K = x.k; rest = fields_at s x.next }) = header_is ∙ rw e in
      let q : x.k ≡ K = eqb→eq x.k K ((header-gives FileKind.Formula file_proof 1 (some K) (fields s)).gives _ p).agree in
      p ∙ rw q

module _ {s : List ℕ} {values : List ℤ} {K : ℕ} (g : Registers values K) {h : code.Result Headed Fault} (k : IsHeader FileKind.Formula 1 K s h) where
  pub header_refused : {e : Fault} → h ≡ Err e → given (Err e) ≡ as_tested (judged values (read_formula K (fields s)))
  unfolding read_formula judged
  header_refused q = sym (ap (λ w. as_tested (judged values w)) (bind-refused _ (header_is g.some k ∙ rw q)))

  module _ {x : Headed} (e : h ≡ Ok x) {j : code.Result Judged Fault} (b : FormulaRead s x.next values K 600 j) where
    pub formula-fault : {e : Fault} → j ≡ Err e → given (Err e) ≡ as_tested (judged values (read_formula K (fields s)))
    unfolding read_formula judged
    formula-fault q = sym (ap (λ w. as_tested (judged values w)) (binds _ (header-K g.some k e) ∙ bind-refused _ (rw q at b.judged)))

    -- what may stand after the formula
    module _ {r : Judged} (q : j ≡ Ok r) {d : code.Result (Unit {0}) Fault} (l : IsEnding FileKind.Formula s r.next d) where
      pub ending-fault : {e : Fault} → d ≡ Err e → given (Err e) ≡ as_tested (judged values (read_formula K (fields s)))
      unfolding read_formula judged
      ending-fault f =
          let y = rw q at b.judged in
          sym (ap (λ w. as_tested (judged values w)) (binds _ (header-K g.some k e) ∙ binds _ y.is ∙ then-refused _ (l.is file_proof ∙ rw f)))

      pub formula-value : {u : Unit {0}} → d ≡ Ok u → given (Ok r.holds) ≡ as_tested (judged values (read_formula K (fields s)))
      unfolding read_formula judged
      formula-value f =
          let y = rw q at b.judged in
          rw y.truth (sym (ap (λ w. as_tested (judged values w)) (binds _ (header-K g.some k e) ∙ binds _ y.is ∙ passes _ (l.is file_proof ∙ rw f))))

-- ---- the values, then the length, then the formula
module _ (formula : List ℕ) (values : List ℤ) where
  by-tested : {r : Tested} {w : Result Formula} → tested formula values ≡ w → r ≡ as_tested (judged values w) → Tests formula values r
  unfolding test_formula
  by-tested e f = record { is = f ∙ sym (ap (λ w. as_tested (judged values w)) e) }

  pub no-values : {r : Tested} → length values < 1 → r ≡ test_refused 7 file_lent 0 → Tests formula values r
  unfolding tested judged
  no-values h f = by-tested (fail _ _ (rw (lt-leb 1 (length values) h))) f

  module _ (some : 1 ≤ length values) where
    pub many-values : {r : Tested} → 16 < length values → r ≡ test_refused 7 file_lent 0 → Tests formula values r
    unfolding tested judged
    many-values h f = by-tested (fail _ _ (rw (le-leb 1 (length values) some, lt-leb (length values) 16 h))) f

    module _ (few : length values ≤ 16) where
      counted : tested formula values ≡ (ranged 0 values >> (need (answer 1 file_proof 0) (leb (length formula) 65_536) >> read_formula (length values) (fields formula)))
      unfolding tested ranged
      counted = pass _ _ (rw (le-leb 1 (length values) some, le-leb (length values) 16 few))

      module _ {i : opt.Option ℕ} (o : FirstOutside values i) where
        pub value-outside : {j : ℕ} {r : Tested} → i ≡ Some j → r ≡ test_refused 23 file_lent j → Tests formula values r
        unfolding judged
        value-outside h f = let q = rw h at o.is in by-tested (counted ∙ then-refused _ q.1) f

        module _ (all : i ≡ None) where
          ranged-all : (ranged 0 values ≡ accepted tt) × AllWithin values
          ranged-all = rw all at o.is

          pub in_registers : Registers values (length values)
          in_registers = record { all = ranged-all.1; count = refl; some = some; few = few }

          pub too_long : {r : Tested} → 65_536 < length formula → r ≡ test_refused 1 file_proof 0 → Tests formula values r
          unfolding judged
          too_long h f = by-tested (counted ∙ passes _ ranged-all.0 ∙ fail _ _ (lt-leb (length formula) 65_536 h)) f

          pub whole-read : {r : Tested} → length formula ≤ 65_536 → (w : code.Result Bool Fault) → given w ≡ as_tested (judged values (read_formula (length values) (fields formula)))
              → r ≡ given w → Tests formula values r
          whole-read h w e f = by-tested (counted ∙ passes _ ranged-all.0 ∙ pass _ _ (le-leb (length formula) 65_536 h)) (f ∙ e)
