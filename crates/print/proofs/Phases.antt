-- Each way through printing a file, over plain values. Assumes nothing.
use mathlib.Core.Path.{◌≡◌, refl, sym, ap, ◌∙◌}
use mathlib.Core.Option.{none}
use mathlib.Core.Bool.{Bool, false}
use mathlib.Core.List.{List}
use Prim.Native.Nat.{ℕ, ◌*◌, ◌≤◌, ◌<◌}
use native.Mathlib.Omega.{arith}
use Rattle.std.specs.Prelude.{Ok, Err}
use Rattle.std.specs.declared.result.Result as code
use lib.ListN.{length}
use lib.Seq.{sets}
use borrow.Author.Tests.{le-leb, lt-leb}
use Rattle.forms.specs.Edition.{edition1}
use Rattle.forms.specs.Forms.{Formula}
use Rattle.answers.specs.declared.Answer.{Answer}
use Rattle.answers.specs.declared.WriteResult.{WriteResult}
use Rattle.answers.specs.Answers.{answer, acceptance, file_proof, file_lent, Result, refused, accepted, over, fit, written_of, written}
use Rattle.answers.specs.Refusals.{number_of, fault}
use Rattle.answers.specs.declared.refusals.Refusal.{Refusal}
use Rattle.answers.specs.declared.refusals.Fault.{Fault}
use Rattle.answers.proofs.Results.{never, one_value, binds, passes, pass, fail, bind-refused, then-refused}
use Rattle.answers.proofs.Over.{sets_over}
use Rattle.fields.specs.declared.FileKind.{FileKind}
use Rattle.fields.specs.declared.header.Headed.{Headed}
use Rattle.fields.specs.Ending.{IsEnding}
use Rattle.fields.specs.Fields.{Fields, fields}
use Rattle.fields.specs.Header.{header}
use Rattle.fields.specs.Places.{fields_at, header_of, IsHeader}
use Rattle.fields.proofs.HeaderLaid.{header-gives}
use Rattle.formula.specs.Formula.{formula_within}
use Rattle.printing.specs.Dialects.{formula_text}
use Rattle.printing.specs.Print.{text_behind, printed, print_formula}
use Rattle.printing_formula.specs.Printing.{Place, PutOr, FormulaAt}
use Rattle.printing.specs.Promises.{PrintsFile}
use Rattle.print.specs.Phases.{Stated, Faulty, ReadsWhole, Puts, Sized, WritesText, PrintsBehind, Prints, refused_write}
use Rattle.printing_formula.specs.Reaching.{WholeAt}
use Rattle.printing_text.specs.declared.Text.{Text}

-- ---- a refusal
refusing : {w : Result (List ℕ)} {a : Answer} (out : List ℕ) {r : WriteResult} → w ≡ refused a → r ≡ record { answer = a; count = 0 } → written_of r out ≡ written w out
unfolding written
refusing out e f = rw (e, f)

-- ---- the text is put whole
one_formula : {w : Result (Formula × Fields)} {I J : Formula} {f g : Fields} → w ≡ accepted (I, f) → w ≡ accepted (J, g) → I ≡ J
one_formula p q = ap (λ (x : Formula × Fields). x.0) (one_value p q)

module _ {wording : Bool} {s : List ℕ} {at K size : ℕ} (z : Sized wording s at K size) where
  sized-as : (I : Formula) (after : Fields) → formula_within edition1 K 600 (fields_at s at) ≡ accepted (I, after) → size ≡ length (formula_text wording false I)
  sized-as I after e = z.size_is ∙ ap (λ (J : Formula). length (formula_text wording false J)) (one_formula z.is e)

  pub text-short : {out : List ℕ} {r : WriteResult} → length out < size → r ≡ refused_write 21 file_lent size → WritesText wording s at K out out r
  unfolding written fit
  text-short {out} h f = record {
    is = λ I after e.
        let l : size ≡ length (formula_text wording false I) = sized-as I after e in
        rw (f, l, lt-leb (length (formula_text wording false I)) (length out) (omega arith));
  }

  -- what the second reading puts
  put_as : (t u : Text) → t.end ≡ 0 → (p : code.Result ℕ Fault) → PutOr wording false s at 0 (formula_within edition1 K 600 (fields_at s at)) t u p → (I : Formula) (after : Fields)
      → formula_within edition1 K 600 (fields_at s at) ≡ accepted (I, after) → size ≤ length t.out.now → u.out.now ≡ over (formula_text wording false I) t.out.now
  put_as t u n (Err x) q I after e h = absurd (never (sym q ∙ e))
  put_as t u n (Ok next) q I after e h =
      let l : size ≡ length (formula_text wording false I) = sized-as I after e in
      let f : q.formula ≡ I = one_formula q.is e in
      let g : length (formula_text wording false q.formula) ≡ length (formula_text wording false I) = ap (λ (J : Formula). length (formula_text wording false J)) f in
      q.puts.stored (omega arith) ∙ ap (λ (o : ℕ). sets t.out.now o (formula_text wording false q.formula)) n ∙ ap (λ (J : Formula). sets t.out.now 0 (formula_text wording false J)) f ∙ sets_over (formula_text wording false I) t.out.now (omega arith)

  pub text-put : {t u : Text} {p : code.Result ℕ Fault} {a : Answer} → FormulaAt wording false s at K 600 t u p → t.end ≡ 0 → size ≤ length t.out.now → a ≡ acceptance
      → WritesText wording s at K t.out.now u.out.now (record { answer = a; count = size })
  unfolding written fit
  text-put {t} {u} {p} b n h f = record {
    is = λ I after e.
        let l : size ≡ length (formula_text wording false I) = sized-as I after e in
        rw (f, put_as t u n p b.put I after e h, l, le-leb (length (formula_text wording false I)) (length t.out.now) (omega arith));
  }

-- ---- what a reading with text finds
module _ {wording : Bool} {s : List ℕ} {at : ℕ} (K : ℕ) {t u : Text} {p : code.Result ℕ Fault} (b : FormulaAt wording false s at K 600 t u p) (n : t.end ≡ 0) where
  pub text-refused : {e : Fault} → p ≡ Err e → formula_within edition1 K 600 (fields_at s at) ≡ refused (answer (number_of e.refusal) file_proof e.place)
  text-refused q = rw q at b.put

  module _ {next : ℕ} (e : p ≡ Ok next) where
    pub text-read : (I : Formula) × (formula_within edition1 K 600 (fields_at s at) ≡ accepted (I, fields_at s next))
    text-read =
        let x = rw e at b.put in
        (x.formula, x.is)

    pub text-sized : Sized wording s at K u.end
    text-sized =
        let x = rw e at b.put in
        record { formula = x.formula; after = fields_at s next; is = x.is; size_is = omega (arith, x.puts.o_is) }

    text-within : u.end ≤ 6 * length s
    text-within =
        let x = rw e at b.put in
        omega (arith, x.puts.o_is, x.puts.few, x.upto)

    -- where there is room for every text
    pub surely-put : {a : Answer} → 6 * length s ≤ length t.out.now → a ≡ acceptance → WritesText wording s at K t.out.now u.out.now (record { answer = a; count = u.end })
    surely-put h f = text-put text-sized b n (omega (arith, text-within)) f

  -- a formula that was read is not refused
  pub surely-read : {e : Fault} {r : WriteResult} → p ≡ Err e → WritesText wording s at K t.out.now u.out.now r
  surely-read q = record { is = λ I after f. absurd (never (sym (text-refused q) ∙ f)) }

-- ---- what a reading without text finds
module _ {s : List ℕ} {at : ℕ} (K : ℕ) {j : code.Result ℕ Fault} (b : WholeAt s at K 600 j) where
  pub once-refused : {e : Fault} → j ≡ Err e → formula_within edition1 K 600 (fields_at s at) ≡ refused (answer (number_of e.refusal) file_proof e.place)
  once-refused q = rw q at b.read

  pub once-read : {next : ℕ} → j ≡ Ok next → (I : Formula) × (formula_within edition1 K 600 (fields_at s at) ≡ accepted (I, fields_at s next))
  once-read e =
      let x = rw e at b.read in
      (x.formula, x.is)

-- ---- the formula, and the end of the file behind it
module _ {s : List ℕ} {at K : ℕ} where
  pub formula-faulty : {e : Fault} → formula_within edition1 K 600 (fields_at s at) ≡ refused (answer (number_of e.refusal) file_proof e.place) → Faulty s at K e
  unfolding text_behind
  formula-faulty q = record { is = λ wording. bind-refused _ q }

  module _ {next : ℕ} (x : (I : Formula) × (formula_within edition1 K 600 (fields_at s at) ≡ accepted (I, fields_at s next))) {d : code.Result (Unit {0}) Fault} (k : IsEnding FileKind.Formula s next d) where
    pub ending-faulty : {e : Fault} → d ≡ Err e → Faulty s at K e
    unfolding text_behind
    ending-faulty q = record { is = λ wording. binds _ x.1 ∙ then-refused _ (k.is file_proof ∙ rw q) }

    pub stated : {u : Unit {0}} → d ≡ Ok u → Stated s at K
    unfolding text_behind
    stated q = record { formula = x.0; after = fields_at s next; is = x.1; whole = λ wording. binds _ x.1 ∙ passes _ (k.is file_proof ∙ rw q) }

pub ended-as : (s : List ℕ) (at K : ℕ) {next : ℕ} → ((I : Formula) × (formula_within edition1 K 600 (fields_at s at) ≡ accepted (I, fields_at s next))) → (d : code.Result (Unit {0}) Fault) → IsEnding FileKind.Formula s next d → ReadsWhole s at K d
ended-as s at K x (Ok u) k = stated x k refl
ended-as s at K x (Err e) k = ending-faulty x k refl

-- ---- behind the header
module _ {wording : Bool} {s : List ℕ} {at K : ℕ} where
  pub behind-fault : {out : List ℕ} {e : Fault} → Faulty s at K e → PrintsBehind wording s at K out out (Err e)
  behind-fault p = record { is = (p.is wording, refl) }

  pub behind-put : {out out' : List ℕ} {r : WriteResult} → Stated s at K → WritesText wording s at K out out' r → PrintsBehind wording s at K out out' (Ok r)
  behind-put {out} x g = record { is = g.is x.formula x.after x.is ∙ sym (ap (λ (w : Result (List ℕ)). written w out) (x.whole wording)) }

-- ---- the file
module _ {s : List ℕ} where
  pub file-long : {wording : Bool} {out : List ℕ} → 65_536 < length s → Prints wording s out out (Err (fault Refusal.TooLong 0))
  unfolding printed
  file-long h = record { is = (fail _ _ (lt-leb (length s) 65_536 h), refl) }

  module _ (h : length s ≤ 65_536) {d : code.Result Headed Fault} (k : IsHeader FileKind.Formula 1 0 s d) where
    pub header-fault : {wording : Bool} {out : List ℕ} {e : Fault} → d ≡ Err e → Prints wording s out out (Err e)
    unfolding printed
    header-fault q = record { is = (pass _ _ (le-leb (length s) 65_536 h) ∙ bind-refused _ (k.is file_proof ∙ rw q), refl) }

    module _ {head : Headed} (e : d ≡ Ok head) where
      header_is : header FileKind.Formula file_proof 1 none (fields s) ≡ accepted (header_of s head)
      header_is = k.is file_proof ∙ rw e

      pub header-place : Place s head.next head.k 0
      header-place = record { file = h; constants = ((header-gives FileKind.Formula file_proof 1 none (fields s)).gives _ header_is).high; paid = omega arith }

      pub file-printed : {wording : Bool} {out out' : List ℕ} {r : code.Result WriteResult Fault} → PrintsBehind wording s head.next head.k out out' r → Prints wording s out out' r
      unfolding printed
      file-printed {wording} {out} {out'} {r} g = record { is = go r g.is }
        where
          behind : printed wording s ≡ text_behind wording head.k (fields_at s head.next)
          behind = pass _ _ (le-leb (length s) 65_536 h) ∙ binds _ header_is

          go : (r : code.Result WriteResult Fault) → Puts (text_behind wording head.k (fields_at s head.next)) out out' r → Puts (printed wording s) out out' r
          go (Ok r) p = p ∙ sym (ap (λ (w : Result (List ℕ)). written w out) behind)
          go (Err e) p = (behind ∙ p.0, p.1)

  pub file-written : {wording : Bool} {out out' : List ℕ} {p : code.Result WriteResult Fault} {r : WriteResult} → Prints wording s out out' p → p ≡ Ok r → PrintsFile wording s out out' r
  unfolding print_formula
  file-written g e = record { is = rw e at g.is }

  pub file_refused : {wording : Bool} {out out' : List ℕ} {p : code.Result WriteResult Fault} {e : Fault} {r : WriteResult} → Prints wording s out out' p → p ≡ Err e → r ≡ refused_write (number_of e.refusal) file_proof e.place → PrintsFile wording s out out' r
  unfolding print_formula
  file_refused {out = out} g q f =
      let x = rw q at g.is in
      record { is = rw x.1 (refusing out x.0 f) }
