-- What is refused outside the proof's tree tells no row, step or branch, and each answer of check is located. Assumes nothing.
use mathlib.Core.Path.{◌≡◌, refl}
use mathlib.Core.Logic.{inl, inr}
use mathlib.Core.Bool.{Bool, true, false, ◌&&◌}
use mathlib.Core.List.{List}
use mathlib.Core.Option.{Option}
use Prim.Native.Nat.{ℕ, zero, suc}
use native.Mathlib.Omega.{arith}
use lib.Dec.{leb}
use lib.ListN.{length}
use lib.IntN.{ℤ}
use Rattle.forms.specs.Edition.{Edition, edition, edition1, newest_edition}
use Rattle.forms.specs.Forms.{Formula}
use Rattle.answers.specs.declared.Answer.{Answer}
use Rattle.answers.specs.Answers.{answer, file_a, file_b, file_proof, Result, refused, accepted, fit, written}
use Rattle.fields.specs.declared.FileKind.{FileKind}
use Rattle.fields.specs.Fields.{Field, Fields, ends, cut, ◌▸◌, fields}
use Rattle.fields.specs.Header.{header_field, edition_field, constants_field, header, finished}
use Rattle.bundle.specs.Bundle.{Bundle, at_most, constraints, bundle_header, bundle, bundles, both_read}
use Rattle.bundle.specs.Read.{kinds_of, numbers_of, unread, store, stored, read_bundle}
use Rattle.bundle.specs.Write.{encode_bundle, write_bundle}
use Rattle.bundle.specs.Show.{shown_part, answer_of, show_answer}
use Rattle.formula.specs.Formula.{FormulaTag, pair, atom, stride, formula_of, formula_field, two_parts, formula_within, read_formula}
use Rattle.formula.specs.Test.{tested, judged, test_formula}
use Rattle.formula.specs.TestList.{read_for_list, test_list}
use Rattle.proof.specs.Check.{check_proof, formula_at_most, interpolant, check_by, check}
use Rattle.proof.specs.Tree.{Outside, AnswerStands, outside, amid}
use Rattle.proof.proofs.Satisfies.{Satisfies, says-refused, says-accepted, bind, seq, says-need as need-says, test as needed, finds, weaken, each-says}
use Rattle.proof.proofs.Tree.{proof-stands}

-- A refusal in a file of that number, which tells nothing.
abbrev pub In : ℕ → Answer → Type 0
In file a = (a.file ≡ file) × Outside a

-- ---- headers and ends
module _ (kind : FileKind) (file : ℕ) where
  field_in : (tag : ℕ) (fs : Fields) → Satisfies (In file) (header_field kind file tag fs) (λ _. Unit {0})
  unfolding header_field
  field_in tag (ends at) = says-refused (refl, refl)
  field_in tag (cut at) = says-refused (refl, refl)
  field_in tag (f ▸ fs) = needed _ _ (refl, refl) λ _. needed _ _ (refl, refl) λ _. needed _ _ (refl, refl) λ _. says-accepted tt

  edition-in : (newest : ℕ) (fs : Fields) → Satisfies (In file) (edition_field kind file newest fs) (λ _. Unit {0})
  unfolding edition_field
  edition-in newest fs = bind (field_in 0x01 fs) λ x _. needed _ _ (refl, refl) λ _. says-accepted tt

  constants-in : (given : Option ℕ) (fs : Fields) → Satisfies (In file) (constants_field kind file given fs) (λ _. Unit {0})
  unfolding constants_field
  constants-in given fs = bind (field_in 0x02 fs) λ x _. needed _ _ (refl, refl) λ _. needed _ _ (refl, refl) λ _. says-accepted tt

  header-in : (newest : ℕ) (given : Option ℕ) (fs : Fields) → Satisfies (In file) (header kind file newest given fs) (λ _. Unit {0})
  unfolding header
  header-in newest given fs = bind (edition-in newest fs) λ x _. bind (constants-in given x.1) λ y _. says-accepted tt

  finished-in : (fs : Fields) → Satisfies (In file) (finished kind file fs) (λ _. Unit {0})
  unfolding finished
  finished-in (ends at) = says-accepted tt
  finished-in (cut at) = says-refused (refl, refl)
  finished-in (f ▸ fs) = needed _ _ (refl, refl) λ _. says-refused (refl, refl)

-- ---- bundles
module _ (file : ℕ) where
  constraints-in : (e : Edition) (K n : ℕ) (fs : Fields) → Satisfies (In file) (constraints file e K n fs) (λ _. Unit {0})
  unfolding constraints
  constraints-in e K n (ends at) = says-accepted tt
  constraints-in e K n (cut at) = says-refused (refl, refl)
  constraints-in e K n (f ▸ fs) = needed _ _ (refl, refl) λ _. bind (finds _ _ (refl, refl)) λ k _. needed _ _ (refl, refl) λ _. needed _ _ (refl, refl) λ _. needed _ _ (refl, refl) λ _.
      bind (constraints-in e K (suc n) fs) λ cs _. says-accepted tt

  pub short-in : (limit : ℕ) (bytes : List ℕ) → Satisfies (In file) (at_most limit file bytes) (λ _. Unit {0})
  unfolding at_most
  short-in limit bytes = weaken (need-says _ _ (refl, refl)) (λ a q. q) (λ _ _. tt)

  bundle_header-in : (newest : ℕ) (given : Option ℕ) (bytes : List ℕ) → Satisfies (In file) (bundle_header newest file given bytes) (λ _. Unit {0})
  unfolding bundle_header
  bundle_header-in newest given bytes = bind (edition-in FileKind.Bundle file newest (fields bytes)) λ x _. seq (short-in _ bytes) (bind (constants-in FileKind.Bundle file given x.1) λ y _. says-accepted tt)

  pub bundle-in : (newest : ℕ) (given : Option ℕ) (bytes : List ℕ) → Satisfies (In file) (bundle newest file given bytes) (λ _. Unit {0})
  unfolding bundle
  bundle-in newest given bytes = bind (bundle_header-in newest given bytes) λ h _. bind (constraints-in (edition h.number) h.K 0 h.rest) λ cs _. says-accepted tt

-- whatever the file
any : {X : Type 0} {file : ℕ} {r : Result X} → Satisfies (In file) r (λ _. Unit {0}) → Satisfies Outside r (λ _. Unit {0})
any s = weaken s (λ a q. q.1) (λ _ u. u)

bundles-in : (newest : ℕ) (A B : List ℕ) → Satisfies (λ a. (¬ (a.file ≡ file_proof)) × Outside a) (bundles newest A B) (λ _. Unit {0})
unfolding bundles
bundles-in newest A B = bind (weaken (bundle-in file_a newest _ A) (λ a q. (λ e. omega (arith, q.0), q.1)) (λ _ u. u)) λ a _.
    bind (weaken (bundle-in file_b newest _ B) (λ a q. (λ e. omega (arith, q.0), q.1)) (λ _ u. u)) λ b _. says-accepted tt

-- ---- the operations that check no proof
of-block : {X : Type 0} (r : Result X) → Satisfies Outside r (λ _. Unit {0}) → Outside (answer_of r)
unfolding answer_of
of-block (refused a) s = s.refusal a refl
of-block (accepted x) s = refl

pub show-outside : (newest : ℕ) (A B : List ℕ) (line : ℕ) → Outside (show_answer newest A B line)
unfolding show_answer shown_part both_read
show-outside newest A B line = of-block (shown_part newest A B line) (bind (seq (any (short-in file_a _ A)) (seq (any (short-in file_b _ B)) (weaken (bundles-in newest A B) (λ a q. q.1) (λ _ u. u)))) λ x _. weaken (finds _ _ refl) (λ a q. q) (λ _ _. tt))

of-stored : (kinds : List ℕ) (numbers : List ℤ) (r : Result Bundle) → Satisfies Outside r (λ _. Unit {0}) → Outside (stored kinds numbers r).answer
unfolding stored store unread
of-stored kinds numbers (refused a) s = s.refusal a refl
of-stored kinds numbers (accepted b) s = of-store (leb (length (kinds_of b.constraints)) (length kinds) && leb (length (numbers_of b.constraints)) (length numbers))
  where
    of-store : (fits : Bool) → Outside (store kinds numbers fits b).answer
    of-store true = refl
    of-store false = refl

pub read-outside : (kinds : List ℕ) (numbers : List ℤ) (newest : ℕ) (file : List ℕ) → Outside (read_bundle kinds numbers newest file).answer
unfolding read_bundle
read-outside kinds numbers newest file = of-stored kinds numbers _ (seq (any (short-in file_a _ file)) (any (bundle-in file_a newest _ file)))

of-written : (r : Result (List ℕ)) (out : List ℕ) → Satisfies Outside r (λ _. Unit {0}) → Outside (written r out).answer
unfolding written fit
of-written (refused a) out s = s.refusal a refl
of-written (accepted bytes) out s = of-fit (leb (length bytes) (length out))
  where
    of-fit : (fits : Bool) → Outside (fit out fits bytes).answer
    of-fit true = refl
    of-fit false = refl

pub write-outside : (newest n K : ℕ) (kinds : List ℕ) (numbers : List ℤ) (output : List ℕ) → Outside (write_bundle newest n K kinds numbers output).answer
unfolding write_bundle encode_bundle
write-outside newest n K kinds numbers output = of-written (encode_bundle newest n K kinds numbers) output
    (needed _ _ refl λ _. needed _ _ refl λ _. needed _ _ refl λ _. seq (each-says _ _ (λ i. refl) 0 kinds) (needed _ _ refl λ _. seq (each-says _ _ (λ i. refl) 0 numbers) (says-accepted tt)))

-- ---- formulas
module _ (e : Edition) (K : ℕ) where
  field_of : (two : (at : ℕ) → Fields → Result (Formula × Formula × Fields)) → ((at : ℕ) (fs : Fields) → Satisfies Outside (two at fs) (λ _. Unit {0}))
      → (f : Field) (fs : Fields) (t : FormulaTag) → Satisfies Outside (formula_of e K two f fs t) (λ _. Unit {0})
  unfolding formula_of
  field_of two h f fs (pair c) = bind (h f.at fs) λ x _. says-accepted tt
  field_of two h f fs (atom k) = says-accepted tt
  field_of two h f fs stride = needed _ _ refl λ _. says-accepted tt

  formula-field : (two : (at : ℕ) → Fields → Result (Formula × Formula × Fields)) → ((at : ℕ) (fs : Fields) → Satisfies Outside (two at fs) (λ _. Unit {0}))
      → (fs : Fields) → Satisfies Outside (formula_field e K two fs) (λ _. Unit {0})
  unfolding formula_field
  formula-field two h (ends at) = says-refused refl
  formula-field two h (cut at) = says-refused refl
  formula-field two h (f ▸ fs) = needed _ _ refl λ _. bind (finds _ _ refl) λ t _. needed _ _ refl λ _. field_of two h f fs t

  within-outside : (levels : ℕ) (fs : Fields) → Satisfies Outside (formula_within e K levels fs) (λ _. Unit {0})
  unfolding formula_within two_parts
  within-outside zero fs = formula-field _ (λ at fs. says-refused refl) fs
  within-outside (suc levels) fs = formula-field _ (λ at fs. bind (within-outside levels fs) λ x _. bind (within-outside levels x.1) λ y _. says-accepted tt) fs

of-judged : (values : List ℤ) (r : Result Formula) → Satisfies Outside r (λ _. Unit {0}) → Outside (judged values r).answer
unfolding judged
of-judged values (refused a) s = s.refusal a refl
of-judged values (accepted I) s = refl

formula-outside : (K : ℕ) (fs : Fields) → Satisfies Outside (read_formula K fs) (λ _. Unit {0})
unfolding read_formula
formula-outside K fs = bind (any (header-in FileKind.Formula file_proof 1 _ fs)) λ h _. bind (within-outside edition1 h.K edition1.levels h.rest) λ x _.
    seq (any (finished-in FileKind.Formula file_proof x.1)) (says-accepted tt)

pub test-outside : (formula : List ℕ) (values : List ℤ) → Outside (test_formula formula values).answer
unfolding test_formula tested
test-outside formula values = of-judged values (tested formula values)
    (needed _ _ refl λ _. seq (each-says _ _ (λ i. refl) 0 values) (needed _ _ refl λ _. formula-outside (length values) (fields formula)))

pub list-outside : (formula : List ℕ) (K : ℕ) (values : List ℤ) (output : List ℕ) → Outside (test_list formula K values output).answer
unfolding test_list read_for_list
list-outside formula K values output = of-written _ output (bind
    (needed _ _ refl λ _. seq (each-says _ _ (λ i. refl) 0 values) (needed _ _ refl λ _. formula-outside K (fields formula))) λ I _. says-accepted tt)

-- ---- check
proof_short : (limit : ℕ) (P : List ℕ) → Satisfies (AnswerStands P) (at_most limit file_proof P) (λ _. Unit {0})
unfolding at_most
proof_short limit P = weaken (need-says (answer 1 file_proof 0) _ (outside (inr refl) refl)) (λ a q. q) (λ _ _. tt)

proof-located : (newest : ℕ) (a b : Bundle) (P : List ℕ) → Satisfies (AnswerStands P) (check_proof newest a b (fields P)) (λ _. Unit {0})
proof-located newest a b P = record { refusal = λ x e. amid (proof-stands newest a b (fields P) x e); value = λ I e. tt }

file-located : (P : List ℕ) (K : ℕ) (I : Formula) → Satisfies (AnswerStands P) (formula_at_most K I) (λ _. Unit {0})
unfolding formula_at_most
file-located P K I = weaken (need-says _ _ (outside (inl λ e. omega arith) refl)) (λ a q. q) (λ _ _. tt)

interpolant-located : (newest : ℕ) (A B P : List ℕ) → Satisfies (AnswerStands P) (interpolant newest A B P) (λ _. Unit {0})
unfolding interpolant
interpolant-located newest A B P = seq (weaken (short-in file_a _ A) (λ a q. outside (inl λ e. omega (arith, q.0)) q.1) (λ _ u. u))
    (seq (weaken (short-in file_b _ B) (λ a q. outside (inl λ e. omega (arith, q.0)) q.1) (λ _ u. u))
    (seq (proof_short _ P)
    (bind (weaken (bundles-in newest A B) (λ a q. outside (inl q.0) q.1) (λ _ u. u)) λ x _.
    bind (proof-located newest x.0 x.1 P) λ I _. seq (file-located P x.0.K I) (says-accepted tt))))

of-located : (P : List ℕ) (r : Result (List ℕ)) (out : List ℕ) → Satisfies (AnswerStands P) r (λ _. Unit {0}) → AnswerStands P (written r out).answer
unfolding written fit
of-located P (refused a) out s = s.refusal a refl
of-located P (accepted bytes) out s = of-fit (leb (length bytes) (length out))
  where
    of-fit : (fits : Bool) → AnswerStands P (fit out fits bytes).answer
    of-fit true = outside (inl λ e. omega arith) refl
    of-fit false = outside (inl λ e. omega arith) refl

-- Whatever editions the office reads, and so this one.
pub check_by-located : (newest : ℕ) (A B P output : List ℕ) → AnswerStands P (check_by newest A B P output).answer
unfolding check_by
check_by-located newest A B P output = of-located P _ output (bind (interpolant-located newest A B P) λ x _. says-accepted tt)

pub check-located : (A B P output : List ℕ) → AnswerStands P (check A B P output).answer
unfolding check
check-located = check_by-located newest_edition
