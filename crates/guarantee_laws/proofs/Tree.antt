-- Each answer tells where in the tree it stands, or nothing. Assumes nothing.
use mathlib.Core.Path.{◌≡◌, refl, sym, ◌∙◌, ap, subst}
use mathlib.Core.Logic.{inl}
use mathlib.Core.Bool.{Bool, true, false, ◌&&◌}
use mathlib.Core.List.{List}
use Prim.Native.Nat.{ℕ, zero, suc}
use native.Mathlib.Omega.{arith}
use borrow.Author.Tests.{ltb-true, ltb-false}
use lib.Dec.{leb, ltb}
use lib.ListN.{length}
use Rattle.forms.specs.Edition.{newest_edition, edition1}
use Rattle.forms.specs.Forms.{Formula}
use Rattle.answers.specs.declared.Answer.{Answer}
use Rattle.answers.specs.declared.WriteResult.{WriteResult}
use Rattle.answers.specs.Answers.{Result, refused, accepted, Written, answer, written, fit, file_proof}
use Rattle.answers.proofs.Results.{never}
use Rattle.bundle.specs.Read.{BundleRead}
use Rattle.formula_test.specs.declared.Tested.{Tested}
use Rattle.proof.specs.Check.{interpolant}
use Rattle.proof.specs.Tree.{Outside, AnswerStands, outside}
use Rattle.proof.proofs.Agree.{interpolant-iff}
use mathlib.Core.Option.{none}
use Rattle.fields.specs.declared.FileKind.{FileKind}
use Rattle.fields.specs.Fields.{Field, Fields, ends, cut, ◌▸◌, fields}
use Rattle.fields.specs.Header.{header_field, edition_field, constants_field, header, finished}
use Rattle.formula.specs.Formula.{FormulaTag, pair, atom, stride, formula_of, formula_field, two_parts, formula_within}
use Rattle.printing.specs.Print.{text_behind, printed, print_formula}
use Rattle.proof.proofs.Satisfies.{Satisfies, says-refused, says-accepted, bind, seq, test as needed, finds}
use Rattle.proof.proofs.Outside.{check-located, read-outside, write-outside, show-outside, test-outside, list-outside}
use Rattle.enumeration.proofs.Refusals.{next-outside}
use Rattle.guarantee_laws.proofs.Outside.{bundle-outside, proof-outside}
use Rattle.proof.specs.Promises.{Checks}
use Rattle.shortening.specs.Shorten.{Shorter, shortening, Shortened, fit_both, written_both, shorten}
use Rattle.shortening.proofs.ShorterCertified.{shortening-is}
use Rattle.shortening.proofs.Promised.{refused-is, check-refused}
use Rattle.scheduler.specs.declared.Job.{Job}
use Rattle.scheduler.specs.declared.Scheduler.{Scheduler}
use Rattle.scheduler.specs.declared.Changed.{Changed}
use Rattle.scheduler.specs.declared.Turned.{Turned}
use Rattle.scheduler.specs.Scheduler.{slot_at, is_waiting}
use Rattle.scheduler.specs.Promises.{Submits, Cancels, Turns}
use Rattle.scheduler.specs.Fair.{AllLie}
use Rattle.scheduler.proofs.Fair.{answers}
use Rattle.run.specs.Run.{GuardsWritten}
use Rattle.guarantee.specs.RunTree.{RunStands}
use Rattle.guarantee.specs.Tree.{InTree}
use Rattle.guarantee.proofs.RunTree.{guards-told}

checked : (A B proof output left : List ℕ) (r : WriteResult) → Checks A B proof output left r → AnswerStands proof r.answer
checked A B proof output left r c = subst (AnswerStands proof) (sym (ap (λ (w : Written). w.answer) c.is)) (check-located A B proof output)

-- ---- shortening: as check, or outside
fit-stands : (proof report table : List ℕ) (b : Bool) (s : Shorter) → AnswerStands proof (fit_both report table b s).answer
unfolding fit_both
fit-stands proof report table true s = outside (inl (λ e. omega arith)) refl
fit-stands proof report table false s = outside (inl (λ e. omega arith)) refl

shorten-stands : (A B proof report table : List ℕ) → AnswerStands proof (shorten A B proof report table).answer
unfolding shorten written_both
shorten-stands A B proof report table = go (interpolant newest_edition A B proof) refl (shortening newest_edition A B proof) refl
  where
    go : (r : Result (ℕ × Formula)) → interpolant newest_edition A B proof ≡ r → (q : Result Shorter) → shortening newest_edition A B proof ≡ q → AnswerStands proof (shorten A B proof report table).answer
    go (refused a) e q k = subst (AnswerStands proof) (check-refused A B proof report e ∙ sym (refused-is A B proof report table e)) (check-located A B proof report)
    go (accepted KI) e (accepted s) k =
        subst (λ (q : Result Shorter). AnswerStands proof (written_both report table q).answer) (sym k) (fit-stands proof report table (leb (length s.report) (length report) && leb (length s.table) (length table)) s)
    go (accepted KI) e (refused a) k = absurd (never (sym k ∙ shortening-is ((interpolant-iff newest_edition A B proof KI.0 KI.1).0 e).yields e))

-- ---- printing, which reads a formula whatever K it has
abbrev Tells : {X : Type 0} → Result X → Type 0
Tells r = Satisfies Outside r (λ _. Unit {0})

header-field : (tag : ℕ) (fs : Fields) → Tells (header_field FileKind.Formula file_proof tag fs)
unfolding header_field
header-field tag (ends at) = says-refused refl
header-field tag (cut at) = says-refused refl
header-field tag (f ▸ fs) = needed _ _ refl λ _. needed _ _ refl λ _. needed _ _ refl λ _. says-accepted tt

header-outside : (fs : Fields) → Tells (header FileKind.Formula file_proof 1 none fs)
unfolding header edition_field constants_field
header-outside fs =
    bind {P = λ _. Unit {0}} (bind (header-field 0x01 fs) λ x _. needed _ _ refl λ _. says-accepted tt) λ x _.
    bind {P = λ _. Unit {0}} (bind (header-field 0x02 x.1) λ y _. needed _ _ refl λ _. needed _ _ refl λ _. says-accepted tt) λ y _. says-accepted tt

finished-outside : (fs : Fields) → Tells (finished FileKind.Formula file_proof fs)
unfolding finished
finished-outside (ends at) = says-accepted tt
finished-outside (cut at) = says-refused refl
finished-outside (f ▸ fs) = needed _ _ refl λ _. says-refused refl

module _ (K : ℕ) where
  abbrev Two : Type 0
  Two = (at : ℕ) → Fields → Result (Formula × Formula × Fields)

  field_of : (two : Two) → ((at : ℕ) (fs : Fields) → Tells (two at fs)) → (f : Field) (fs : Fields) (t : FormulaTag) → Tells (formula_of edition1 K two f fs t)
  unfolding formula_of
  field_of two h f fs (pair c) = bind (h f.at fs) λ x _. says-accepted tt
  field_of two h f fs (atom k) = says-accepted tt
  field_of two h f fs stride = needed _ _ refl λ _. says-accepted tt

  formula-field : (two : Two) → ((at : ℕ) (fs : Fields) → Tells (two at fs)) → (fs : Fields) → Tells (formula_field edition1 K two fs)
  unfolding formula_field
  formula-field two h (ends at) = says-refused refl
  formula-field two h (cut at) = says-refused refl
  formula-field two h (f ▸ fs) = needed _ _ refl λ _. bind (finds _ _ refl) λ t _. needed _ _ refl λ _. field_of two h f fs t

  within-outside : (levels : ℕ) (fs : Fields) → Tells (formula_within edition1 K levels fs)
  unfolding formula_within two_parts
  within-outside zero fs = formula-field _ (λ at fs. says-refused refl) fs
  within-outside (suc levels) fs = formula-field _ (λ at fs. bind (within-outside levels fs) λ x _. bind (within-outside levels x.1) λ y _. says-accepted tt) fs

written-outside : (r : Result (List ℕ)) (out : List ℕ) → Tells r → Outside (written r out).answer
unfolding written fit
written-outside (refused a) out s = s.refusal a refl
written-outside (accepted bytes) out s = of-fit (leb (length bytes) (length out))
  where
    of-fit : (fits : Bool) → Outside (fit out fits bytes).answer
    of-fit true = refl
    of-fit false = refl

print-outside : (wording : Bool) (formula output : List ℕ) → Outside (print_formula wording formula output).answer
unfolding print_formula printed text_behind
print-outside wording formula output = written-outside (printed wording formula) output (needed _ _ refl λ _. bind (header-outside (fields formula)) λ h _.
    bind (within-outside h.K 600 h.rest) λ x _. seq (finished-outside x.1) (says-accepted tt))

-- ---- the scheduler's calls
told-outside : {a : Answer} (number file place : ℕ) → a ≡ answer number file place → Outside a
told-outside number file place e = subst Outside (sym e) refl

submit-outside : (s : Scheduler) (seat : ℕ) (job : Job) (r : Changed) → Submits s seat job r → Outside r.answer
submit-outside s seat job r c = go (ltb seat 8) refl (is_waiting s seat) refl
  where
    go : (b : Bool) → ltb seat 8 ≡ b → (w : Bool) → is_waiting s seat ≡ w → Outside r.answer
    go false e w q = told-outside 29 4 0 (answers.submit_29 s seat job r c (ltb-false seat 8 e)).0
    go true e true q = told-outside 30 4 0 (answers.submit_30 s seat job r c (ltb-true seat 8 e) q).0
    go true e false q = told-outside 0 0 0 (answers.submit_taken s seat job r c (ltb-true seat 8 e) q).0

cancel-outside : (s : Scheduler) (seat : ℕ) (r : Changed) → Cancels s seat r → Outside r.answer
cancel-outside s seat r c = go (ltb seat 8) refl (is_waiting s seat) refl
  where
    go : (b : Bool) → ltb seat 8 ≡ b → (w : Bool) → is_waiting s seat ≡ w → Outside r.answer
    go false e w q = told-outside 29 4 0 (answers.cancel_29 s seat r c (ltb-false seat 8 e)).0
    go true e false q = told-outside 31 4 0 (answers.cancel_31 s seat r c (ltb-true seat 8 e) q).0
    go true e true q = told-outside 0 0 0 (answers.cancel_taken s seat r c (ltb-true seat 8 e) q).0

turn-outside : (s : Scheduler) (buffer output left : List ℕ) (r : Turned) → Turns s buffer output left r → (r.idle ≡ false → ¬ AllLie buffer (slot_at s r.seat).job) → Outside r.result.answer
turn-outside s buffer output left r c k = go r.idle refl
  where
    go : (b : Bool) → r.idle ≡ b → Outside r.result.answer
    go true e = told-outside 35 4 0 (answers.turn_idle s buffer output left r c e).3
    go false e = told-outside 34 4 0 ((answers.turn_serves s buffer output left r c e).4.outside (k e)).0

pub in_tree : InTree
in_tree = record {
  guards = λ buffer lengths proof output sizes left sizesLeft r w. subst (RunStands proof) (sym (ap (λ (g : GuardsWritten). g.answer) w.is)) (guards-told proof buffer lengths output sizes);
  check = checked;
  shorten = λ A B proof report table reportLeft tableLeft r c. subst (λ (w : Shortened). AnswerStands proof w.answer) (sym c.is) (shorten-stands A B proof report table);
  turn = λ s buffer output left r c h l. checked _ _ _ output left r.result ((answers.turn_serves s buffer output left r c h).4.checks l);
  turn_unchecked = turn-outside;
  read = λ file kinds numbers kinds' numbers' r c. subst Outside (sym (ap (λ (b : BundleRead). b.answer) c.is)) (read-outside kinds numbers newest_edition file);
  write = λ n K kinds numbers output left r c. subst Outside (sym (ap (λ (w : Written). w.answer) c.is)) (write-outside newest_edition n K kinds numbers output);
  turn-bundle = λ to file output left r c. subst Outside (sym (ap (λ (w : Written). w.answer) c.is)) (bundle-outside to file output);
  turn-proof = λ to file output left r c. subst Outside (sym (ap (λ (w : Written). w.answer) c.is)) (proof-outside to file output);
  next-proof = λ A B given output left r c. subst Outside (sym (ap (λ (w : Written). w.answer) c.is)) (next-outside A B given output);
  show = λ A B line r c. subst Outside (sym c.is) (show-outside newest_edition A B line);
  test-list = λ formula K values output left r c. subst Outside (sym (ap (λ (w : Written). w.answer) c.is)) (list-outside formula K values output);
  print = λ wording formula output left r c. subst Outside (sym (ap (λ (w : Written). w.answer) c.is)) (print-outside wording formula output);
  test = λ formula values r c. subst Outside (sym (ap (λ (t : Tested). t.answer) c.is)) (test-outside formula values);
  submit = submit-outside;
  cancel = cancel-outside;
}
