-- Printing: what is accepted, what is then left, and what the text of a filed guard tells whoever reads it. Of what the functions print, print_words and check ensure. Assumes nothing.
-- (What the text of a formula means, that it reads as one proposition only, and over a known K is that of one formula only: `OneReading`, printing/specs/OneReading.)
use Rattle.std.specs.Prelude.{◌≡◌, ◌↔◌, Bool, true, false, List, ℕ, ◌≤◌, ◌<◌, T, ℤ, length, take}
use Rattle.std.proofs.Math.Option.{some}
use Rattle.forms.specs.Edition.{newest_edition}
use Rattle.forms.specs.Forms.{All, Assignment, Constraint, Formula, Meets, occurs}
use Rattle.answers.specs.declared.WriteResult.{WriteResult}
use Rattle.answers.specs.Answers.{answer, file_lent}
use Rattle.number_bytes.specs.Numbers.{Bytes}
use Rattle.fields.specs.Fields.{Item, Framed, file_of}
use Rattle.formula_test.specs.declared.Tested.{Tested}
use Rattle.formula_test.specs.Promises.{Tests}
use Rattle.printing.specs.Smt.{Prop, PropTrue, PropNames}
use Rattle.printing.specs.Reading.{parse_prop}
use Rattle.printing.specs.Words.{Wording, WordingTrue, WordingNames}
use Rattle.printing.specs.WordsReading.{parse_wording}
use Rattle.printing.specs.Dialects.{formula_text}
use Rattle.printing.specs.Promises.{PrintsFile}
use Rattle.printing.specs.OneReading.{OneReading}
use Rattle.proof.specs.Layout.{Certifies}
use Rattle.proof.specs.Promises.{Checks}
use Rattle.guarantee.specs.Soundness.{Meaning, Faithful}
use Rattle.guarantee.specs.Acceptance.{WrittenAs}
use Rattle.guarantee.specs.Testing.{FormulaFile}
use Rattle.guarantee.specs.TestList.{ValuesInRange}

-- The text of a formula: as a term of SMT-LIB, or in words.
abbrev pub text_of : (wording : Bool) → Formula → List ℕ
text_of wording I = formula_text wording false I

-- A file of at most 65,536 bytes that states a formula over K constants, 1 to 16, whatever K is.
pub record Printable (file : List ℕ) : Type 0 where
  pub K : ℕ
  pub formula : Formula
  pub low : 1 ≤ K
  pub high : K ≤ 16
  pub upto : length file ≤ 65_536
  pub states : FormulaFile K file formula

-- A text that reads as a proposition of SMT-LIB which is true wherever all of A is met, false wherever all of B is, and names constants of both only.
pub record Separates (A B : List Constraint) (bytes : List ℕ) : Type 0 where
  pub prop : Prop
  pub reads : parse_prop bytes ≡ some prop
  pub A_true : (v : Assignment) → All (Meets v) A → PropTrue prop v
  pub B_false : (v : Assignment) → All (Meets v) B → ¬ (PropTrue prop v)
  pub shared : (c : ℕ) → PropNames prop c → T (occurs A c) × T (occurs B c)

-- The same of a text in words.
pub record SeparatesInWords (A B : List Constraint) (bytes : List ℕ) : Type 0 where
  pub wording : Wording
  pub reads : parse_wording bytes ≡ some wording
  pub A_true : (v : Assignment) → All (Meets v) A → WordingTrue wording v
  pub B_false : (v : Assignment) → All (Meets v) B → ¬ (WordingTrue wording v)
  pub shared : (c : ℕ) → WordingNames wording c → T (occurs A c) × T (occurs B c)

abbrev pub SeparatesAs : (wording : Bool) (A B : List Constraint) (bytes : List ℕ) → Type 0
SeparatesAs false = Separates
SeparatesAs true = SeparatesInWords

pub record PrintingPromised : Type 0 where
  -- the texts
  pub texts : OneReading
  -- accepted just where the file states a formula whose text has room
  pub print_iff : (wording : Bool) (file output left : List ℕ) (r : WriteResult) → PrintsFile wording file output left r
      → r.answer.number ≡ 0 ↔ ((p : Printable file) × (length (text_of wording p.formula) ≤ length output))
  -- then its text is what is written; and where only the room is too little, 21 with the bytes needed
  pub prints : (wording : Bool) (file output left : List ℕ) (r : WriteResult) → PrintsFile wording file output left r → (p : Printable file)
      → (length (text_of wording p.formula) ≤ length output → WrittenAs (text_of wording p.formula) output left r.answer r.count)
      × (length output < length (text_of wording p.formula) → r.answer ≡ answer 21 file_lent (length (text_of wording p.formula)))
  -- whatever testing the file at permitted values refuses, but by 9, which compares K with their number, is refused alike; so every refusal but 21 is testing's
  pub as_test : (wording : Bool) (file output left : List ℕ) (r : WriteResult) → PrintsFile wording file output left r
      → (values : List ℤ) → 1 ≤ length values → length values ≤ 16 → ValuesInRange values → (t : Tested) → Tests file values t
      → ¬ (t.answer.number ≡ 0) → ¬ (t.answer.number ≡ 9) → r.answer ≡ t.answer
  -- what an accepted check wrote has one text: that of the formula that the rules assign; it separates what the writers of A and B stated, and it is what is printed of those bytes
  pub tells : (FA FB : List Item) → All Framed FA → All Framed FB → (MA MB : Meaning) → Faithful MA → Faithful MB → (proof output left : List ℕ) (r : WriteResult)
      → Bytes proof → Checks (file_of FA) (file_of FB) proof output left r → r.answer.number ≡ 0 → (wording : Bool)
      → (I : Formula) × ((K : ℕ) × Certifies newest_edition (file_of FA) (file_of FB) proof K I)
      × SeparatesAs wording (MA FA).1 (MB FB).1 (text_of wording I)
      × ((page printed : List ℕ) (p : WriteResult) → PrintsFile wording (take r.count left) page printed p
      → (length (text_of wording I) ≤ length page → WrittenAs (text_of wording I) page printed p.answer p.count)
      × (length page < length (text_of wording I) → p.answer ≡ answer 21 file_lent (length (text_of wording I))))
