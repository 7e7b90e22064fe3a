-- What the function print ensures is worth what `Printer` says, and the text what `OneReading` says. Assumes nothing.
use mathlib.Core.Path.{◌≡◌, refl, sym, ap, ap₂, ◌∙◌, subst}
use mathlib.Core.Bool.{Bool, true, false}
use mathlib.Core.List.{List}
use mathlib.Core.Option.{none, some}
use Prim.Native.Nat.{ℕ, ◌≤◌, ◌<◌}
use native.Mathlib.Omega.{arith}
use lib.Dec.{leb, leb→le}
use lib.ListN.{length, take}
use lib.Seq.{take_at}
use borrow.Author.Tests.{leb-true, le-leb, lt-leb}
use Rattle.forms.specs.Edition.{edition1}
use Rattle.forms.specs.Forms.{Assignment, Formula}
use Rattle.answers.specs.declared.WriteResult.{WriteResult}
use Rattle.answers.specs.Answers.{answer, acceptance, file_proof, file_lent, Result, refused, accepted, ◌>>◌, over, fit, Written, written_of, written}
use Rattle.answers.proofs.Results.{one_value, not-0, Gives, gives-refused, gives-accepted, bind, seq, test, weaken, binds, passes, pass}
use Rattle.fields.specs.declared.FileKind.{FileKind}
use Rattle.fields.specs.Fields.{Fields, ends, cut, ◌▸◌, fields}
use Rattle.fields.specs.Header.{Header, header, finished}
use Rattle.fields.proofs.HeaderLaid.{header-gives}
use Rattle.formula.specs.Formula.{formula_within, read_formula}
use Rattle.printing.specs.Words.{worded}
use Rattle.printing.specs.Translation.{smt}
use Rattle.printing.specs.Dialects.{formula_text, ReadsAs, MeansAs}
use Rattle.printing.specs.Print.{text_behind, printed, print_formula}
use Rattle.printing.specs.OneReading.{OverConstants, OneReading, PrintedAs, Printer}
use Rattle.printing.proofs.Meaning.{mod_standard, means_same}
use Rattle.printing.proofs.Named.{names_only, words_names_only}
use Rattle.printing.proofs.Unique.{unique}
use Rattle.printing.proofs.Exact.{exact}
use Rattle.printing.proofs.Worded.{says_same}
use Rattle.printing.proofs.WordsUnique.{words_unique}
use Rattle.printing.proofs.WordsBack.{words_kept}
use Rattle.printing.proofs.Back.{kept}
use Rattle.printing.proofs.ReadOverK.{over-strides, within-gives, header-own, header-any}

pub one-reading : OneReading
one-reading = record {
  mod_standard = mod_standard;
  means_same = means_same;
  names_only = names_only;
  unique = unique;
  exact = exact;
  kept = kept;
  says_same = says_same;
  words_names_only = words_names_only;
  words_unique = words_unique;
  words_kept = words_kept;
}

-- ---- the formula whose text is printed
pub record Stated (wording : Bool) (file bytes : List ℕ) : Type 0 where
  K : ℕ
  formula : Formula
  reads : read_formula K (fields file) ≡ accepted formula
  over_K : OverConstants K formula
  low : 1 ≤ K
  high : K ≤ 16
  upto : length file ≤ 65_536
  text-is : bytes ≡ formula_text wording false formula

-- what is given, and that it is
remember : {X : Type 0} {m : Result X} {P : X → Type 0} → Gives m P → Gives m (λ x. (m ≡ accepted x) × P x)
remember g = record { gives = λ x e. (e, g.gives x e); refusal = g.refusal }

finished-gives : (fs : Fields) → Gives (finished FileKind.Formula file_proof fs) (λ _. Unit {0})
unfolding finished
finished-gives (ends at) = gives-accepted tt
finished-gives (cut at) = gives-refused _ tt
finished-gives (f ▸ fs) = test _ _ tt λ _. gives-refused _ tt

finished-seq : (fs : Fields) {Q : List ℕ → Type 0} {r : Result (List ℕ)} → (finished FileKind.Formula file_proof fs ≡ accepted tt → Gives r Q) → Gives (finished FileKind.Formula file_proof fs >> r) Q
finished-seq fs k = seq {P = finished FileKind.Formula file_proof fs ≡ accepted tt} (weaken (remember (finished-gives fs)) λ x h. h.0) k

pub printed-gives : (wording : Bool) (file : List ℕ) → Gives (printed wording file) (Stated wording file)
unfolding printed text_behind read_formula
printed-gives wording file = test _ _ tt λ l. bind (remember (header-gives FileKind.Formula file_proof 1 none (fields file))) λ h k.
    bind (remember (within-gives h.K 600 h.rest)) λ (I, after) o. finished-seq after λ f. gives-accepted (record {
      K = h.K;
      formula = I;
      reads = binds _ (header-own FileKind.Formula file_proof 1 (fields file) h k.0) ∙ binds _ o.0 ∙ passes _ f;
      over_K = o.1;
      low = k.1.low;
      high = k.1.high;
      upto = leb→le (length file) 65_536 l;
      text-is = refl;
    })

-- ---- what is written
front-is : (bytes output : List ℕ) → take (length bytes) (over bytes output) ≡ bytes
unfolding over
front-is bytes output = take_at bytes _ (length bytes) refl

pub read_as_lem : (wording : Bool) (I : Formula) → ReadsAs wording (formula_text wording false I) I
read_as_lem false I = unique (smt I)
read_as_lem true I = words_unique (worded I)

means-as : (wording : Bool) (K : ℕ) (I : Formula) → OverConstants K I → (v : Assignment) → MeansAs wording I v
means-as false K I h v = means_same I (over-strides K I h) v
means-as true K I h v = says_same I v

module _ (wording : Bool) (file output left : List ℕ) (r : WriteResult) where
  fits-yes : (bytes : List ℕ) → Stated wording file bytes → (b : Bool) → leb (length bytes) (length output) ≡ b → written_of r left ≡ fit output b bytes → r.answer.number ≡ 0 → PrintedAs wording file output left r
  unfolding fit
  fits-yes bytes x true l e z =
      let c : r.count ≡ length (formula_text wording false x.formula) = ap (λ (w : Written). w.count) e ∙ ap length x.text-is in
      let o : left ≡ over (formula_text wording false x.formula) output = ap (λ (w : Written). w.output) e ∙ ap (λ (bs : List ℕ). over bs output) x.text-is in
      record {
        K = x.K;
        formula = x.formula;
        stated = x.reads;
        over_K = x.over_K;
        low = x.low;
        high = x.high;
        upto = x.upto;
        count = c;
        fits = subst (λ (bs : List ℕ). length bs ≤ length output) x.text-is (leb-true _ _ l);
        bytes = o;
        reads_back = subst (λ (bs : List ℕ). ReadsAs wording bs x.formula) (sym (ap₂ take c o ∙ front-is (formula_text wording false x.formula) output)) (read_as_lem wording x.formula);
        means = means-as wording x.K x.formula x.over_K;
      }
  fits-yes bytes x false l e z = absurd (let n : 21 ≡ 0 = sym (ap (λ (w : Written). w.answer.number) e) ∙ z in omega arith)

  prints-yes : (w : Result (List ℕ)) → printed wording file ≡ w → written_of r left ≡ written w output → r.answer.number ≡ 0 → PrintedAs wording file output left r
  unfolding written
  prints-yes (refused a) d e z = absurd (not-0 ((printed-gives wording file).refusal a d) (sym (ap (λ (w : Written). w.answer.number) e) ∙ z))
  prints-yes (accepted bytes) d e z = fits-yes bytes ((printed-gives wording file).gives bytes d) (leb (length bytes) (length output)) refl e z

  fits-no : (bytes : List ℕ) (b : Bool) → written_of r left ≡ fit output b bytes → ¬ (r.answer.number ≡ 0) → (left ≡ output) × (r.count ≡ 0)
  unfolding fit
  fits-no bytes true e n = absurd (n (ap (λ (w : Written). w.answer.number) e))
  fits-no bytes false e n = (ap (λ (w : Written). w.output) e, ap (λ (w : Written). w.count) e)

  prints-no : (w : Result (List ℕ)) → written_of r left ≡ written w output → ¬ (r.answer.number ≡ 0) → (left ≡ output) × (r.count ≡ 0)
  unfolding written
  prints-no (refused a) e n = (ap (λ (w : Written). w.output) e, ap (λ (w : Written). w.count) e)
  prints-no (accepted bytes) e n = fits-no bytes (leb (length bytes) (length output)) e n

-- ---- whatever is read is printed
-- (the header, what is read behind it, and its end, of a formula that is read)
record Read (K : ℕ) (file : List ℕ) (I : Formula) : Type 0 where
  head : Header
  after : Fields
  header_is : header FileKind.Formula file_proof 1 (some K) (fields file) ≡ accepted head
  formula-is : formula_within edition1 head.K 600 head.rest ≡ accepted (I, after)
  over_K : OverConstants head.K I
  end_is : finished FileKind.Formula file_proof after ≡ accepted tt

finished-read : (fs : Fields) {Q : Formula → Type 0} {r : Result Formula} → (finished FileKind.Formula file_proof fs ≡ accepted tt → Gives r Q) → Gives (finished FileKind.Formula file_proof fs >> r) Q
finished-read fs k = seq {P = finished FileKind.Formula file_proof fs ≡ accepted tt} (weaken (remember (finished-gives fs)) λ x h. h.0) k

read-gives : (K : ℕ) (file : List ℕ) → Gives (read_formula K (fields file)) (Read K file)
unfolding read_formula
read-gives K file = bind (remember (header-gives FileKind.Formula file_proof 1 (some K) (fields file))) λ h k.
    bind (remember (within-gives h.K 600 h.rest)) λ (I, after) o. finished-read after λ f. gives-accepted (record {
      head = h;
      after = after;
      header_is = k.0;
      formula-is = o.0;
      over_K = o.1;
      end_is = f;
    })

-- of a formula that a file states
pub means-read : (wording : Bool) (K : ℕ) (file : List ℕ) (I : Formula) → read_formula K (fields file) ≡ accepted I → (v : Assignment) → MeansAs wording I v
means-read wording K file I e v = let x = (read-gives K file).gives I e in means-as wording x.head.K I x.over_K v

pub printed-as : (wording : Bool) (K : ℕ) (file : List ℕ) (I : Formula) → length file ≤ 65_536 → read_formula K (fields file) ≡ accepted I → printed wording file ≡ accepted (formula_text wording false I)
unfolding printed text_behind
printed-as wording K file I h e =
    let x = (read-gives K file).gives I e in
    pass _ _ (le-leb (length file) 65_536 h) ∙ binds _ (header-any FileKind.Formula file_proof 1 K (fields file) x.head x.header_is) ∙ binds _ x.formula-is ∙ passes _ x.end_is

only_one : (file : List ℕ) (K L : ℕ) (I J : Formula) → read_formula K (fields file) ≡ accepted I → read_formula L (fields file) ≡ accepted J → I ≡ J
only_one file K L I J e f =
    let x = (read-gives K file).gives I e in
    let y = (read-gives L file).gives J f in
    let h : x.head ≡ y.head = one_value (header-any FileKind.Formula file_proof 1 K (fields file) x.head x.header_is) (header-any FileKind.Formula file_proof 1 L (fields file) y.head y.header_is) in
    ap (λ (z : Formula × Fields). z.0) (one_value x.formula-is (ap (λ (z : Header). formula_within edition1 z.K 600 z.rest) h ∙ y.formula-is))

room_as : (r : WriteResult) (left output bytes : List ℕ) → written_of r left ≡ written (accepted bytes) output
    → (length bytes ≤ length output → r.answer ≡ acceptance) × (length output < length bytes → r.answer ≡ answer 21 file_lent (length bytes))
unfolding written fit
room_as r left output bytes e = (
  (λ h.
      let f : written_of r left ≡ fit output true bytes = e ∙ ap (λ (b : Bool). fit output b bytes) (le-leb (length bytes) (length output) h) in
      ap (λ (w : Written). w.answer) f),
  λ h.
      let f : written_of r left ≡ fit output false bytes = e ∙ ap (λ (b : Bool). fit output b bytes) (lt-leb (length bytes) (length output) h) in
      ap (λ (w : Written). w.answer) f,
)

pub printer : Printer
unfolding print_formula
printer = record {
  prints = λ wording file output left r p z. prints-yes wording file output left r (printed wording file) refl p.is z;
  one_formula = only_one;
  leaves = λ wording file output left r p n. prints-no wording file output left r (printed wording file) p.is n;
  room = λ wording file output left r p h K I e. room_as r left output (formula_text wording false I) (p.is ∙ ap (λ (w : Result (List ℕ)). written w output) (printed-as wording K file I h e));
}
