-- What printing promises holds of print, print_words and check. Assumes nothing.
use mathlib.Core.Path.{◌≡◌, ◌∙◌, ap}
use mathlib.Core.Bool.{Bool, true, false}
use mathlib.Core.List.{List}
use Prim.Native.Nat.{ℕ, ◌≤◌, ◌<◌}
use native.Mathlib.Omega.{arith}
use lib.ListN.{length, take, length-take}
use borrow.Author.Tests.{le-leb}
use Rattle.forms.specs.Forms.{Constraint, Formula}
use Rattle.calculus.specs.Rules.{Interpolant}
use Rattle.answers.specs.declared.WriteResult.{WriteResult}
use Rattle.answers.specs.declared.Answer.{Answer}
use Rattle.answers.specs.Answers.{answer, file_lent, Result, accepted, Written, written_of, fit, written}
use Rattle.fields.specs.Fields.{fields}
use Rattle.formula.specs.Formula.{read_formula}
use Rattle.printing.specs.Translation.{smt}
use Rattle.printing.specs.Words.{worded}
use Rattle.printing.specs.Dialects.{formula_text, MeansAs}
use Rattle.printing.specs.Print.{print_formula}
use Rattle.printing.specs.Promises.{PrintsFile}
use Rattle.printing.proofs.Named.{names_only, words_names_only}
use Rattle.printing.proofs.Accepted.{one-reading, printer, printed-as, read_as_lem, means-read}
use Rattle.guarantee.specs.Acceptance.{WrittenAs}
use Rattle.guarantee.specs.Print.{text_of, Printable, SeparatesAs, PrintingPromised}
use Rattle.guarantee.proofs.Soundness.{soundness}
use Rattle.guarantee.proofs.FormulaFiles.{read-gives, file-read}
use Rattle.guarantee.proofs.PrintAsTest.{as_test}

-- ---- bytes that are to be written
module _ {bytes output left : List ℕ} {r : WriteResult} (e : written_of r left ≡ written (accepted bytes) output) where
  written_as_lem : length bytes ≤ length output → WrittenAs bytes output left r.answer r.count
  unfolding written fit
  written_as_lem h =
      let f : written_of r left ≡ fit output true bytes = e ∙ ap (λ (b : Bool). fit output b bytes) (le-leb (length bytes) (length output) h) in
      record { answer = ap (λ (w : Written). w.answer) f; count_is = ap (λ (w : Written). w.count) f; left_is = ap (λ (w : Written). w.output) f }

-- ---- of a file that is read
module _ (wording : Bool) (file output left : List ℕ) (r : WriteResult) (p : PrintsFile wording file output left r) where
  read-prints : (K : ℕ) (I : Formula) → length file ≤ 65_536 → read_formula K (fields file) ≡ accepted I
      → (length (text_of wording I) ≤ length output → WrittenAs (text_of wording I) output left r.answer r.count)
      × (length output < length (text_of wording I) → r.answer ≡ answer 21 file_lent (length (text_of wording I)))
  unfolding print_formula
  read-prints K I h e =
      let w : written_of r left ≡ written (accepted (formula_text wording false I)) output = p.is ∙ ap (λ (w : Result (List ℕ)). written w output) (printed-as wording K file I h e) in
      (written_as_lem w, (printer.room wording file output left r p h K I e).1)

  states-prints : (x : Printable file)
      → (length (text_of wording x.formula) ≤ length output → WrittenAs (text_of wording x.formula) output left r.answer r.count)
      × (length output < length (text_of wording x.formula) → r.answer ≡ answer 21 file_lent (length (text_of wording x.formula)))
  states-prints x = read-prints x.K x.formula x.upto (file-read x.K file x.formula x.low x.high x.states)

  accepts : r.answer.number ≡ 0 → (x : Printable file) × (length (text_of wording x.formula) ≤ length output)
  accepts z =
      let y = printer.prints wording file output left r p z in
      (record { K = y.K; formula = y.formula; low = y.low; high = y.high; upto = y.upto; states = (read-gives y.K file).gives y.formula y.stated }, y.fits)

-- ---- the text of an interpolant
separates : (wording : Bool) {A B : List Constraint} {I : Formula} → Interpolant A B I → ((v : _) → MeansAs wording I v) → SeparatesAs wording A B (text_of wording I)
separates false {I = I} t m = record {
  prop = smt I;
  reads = read_as_lem false I;
  A_true = λ v h. (m v).1 (t.A_true v h);
  B_false = λ v h s. t.B_false v h ((m v).0 s);
  shared = λ c h. t.shared c ((names_only I c).0 h);
}
separates true {I = I} t m = record {
  wording = worded I;
  reads = read_as_lem true I;
  A_true = λ v h. (m v).1 (t.A_true v h);
  B_false = λ v h s. t.B_false v h ((m v).0 s);
  shared = λ c h. t.shared c ((words_names_only I c).0 h);
}

pub printing-promised : PrintingPromised
printing-promised = record {
  texts = one-reading;
  print_iff = λ wording file output left r p. (accepts wording file output left r p, λ (x, room). ap (λ (a : Answer). a.number) ((states-prints wording file output left r p x).0 room).answer);
  prints = states-prints;
  as_test = as_test;
  tells = λ FA FB framedA framedB MA MB faithfulA faithfulB proof output left r bytes c h wording.
      let x = soundness.interpolates FA FB framedA framedB MA MB faithfulA faithfulB proof output left r c h in
      let reads = file-read x.K (take r.count left) x.formula x.certified.yields.file_proof.low x.certified.yields.file_proof.high (x.states bytes) in (
        x.formula,
        (x.K, x.certified),
        separates wording x.interpolant (means-read wording x.K (take r.count left) x.formula reads),
        λ page printed p d. read-prints wording (take r.count left) page printed p d x.K x.formula (omega (arith, x.upto, length-take r.count left)) reads,
      );
}
