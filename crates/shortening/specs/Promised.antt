-- What statements say of shortening. docs/FORMAT.md, "Rows that nothing rests on". w is what one call leaves. Assumes nothing.
use Rattle.std.specs.Prelude.{◌≡◌, ◌⊎◌, List, [], ◌∷◌, ℕ, ◌≤◌, ◌<◌, length}
use Rattle.forms.specs.Edition.{newest_edition}
use Rattle.forms.specs.Forms.{lines, Formula}
use Rattle.calculus.specs.Rules.{Entry, row_count}
use Rattle.answers.specs.Answers.{acceptance, over}
use Rattle.fields.specs.Fields.{item, file_of}
use Rattle.proof.specs.Layout.{ProofFile, Certifies}
use Rattle.shortening.specs.Needed.{Reports, shortened}
use Rattle.shortening.specs.Shorten.{Shorter, shorter, Shortened}

-- The table is a proof's file of edition n over K constants with these entries; it has no notes, and is not longer than the proof.
pub record TableFiled (newest : ℕ) (proof table : List ℕ) (n K : ℕ) (es : List Entry) : Type 0 where
  pub file : ProofFile newest table n K es
  pub no_notes : table ≡ file_of (item 0x01 (n ∷ []) ∷ item 0x02 (K ∷ []) ∷ file.body)
  pub short : length table ≤ length proof

-- Of a proof that certifies I: the report says of each row of its derivation whether it is needed, and the table is a proof's file of the proof's own edition, without notes,
-- whose entries are those of the derivation without the rows that are not needed.
pub record ReportAndTable (A B proof : List ℕ) (K : ℕ) (I : Formula) (c : Certifies newest_edition A B proof K I) (report table : List ℕ) : Type 0 where
  pub tells : Reports c.yields.proves.proof [] report
  pub rows : length report ≡ row_count c.yields.proves.proof
  pub filed : TableFiled newest_edition proof table c.yields.edition_proof K (shortened c.yields.proves.proof (λ j. j) (length (lines c.yields.a c.yields.b)) [])

-- What the definition makes of files that certify a formula: the report and the table.
abbrev pub shorter_by : {A B proof : List ℕ} {K : ℕ} {I : Formula} → Certifies newest_edition A B proof K I → Shorter
shorter_by {K = K} c = shorter c.yields.edition_proof K (length (lines c.yields.a c.yields.b)) c.yields.file_proof.body

-- The files certify a formula, and both outputs are long enough;
pub record Shortenable (A B proof report table : List ℕ) : Type 0 where
  pub K : ℕ
  pub formula : Formula
  pub certified : Certifies newest_edition A B proof K formula
  pub report_fits : length (shorter_by certified).report ≤ length report
  pub table_fits : length (shorter_by certified).table ≤ length table

-- or one of them is not.
pub record ShortOutputs (A B proof report table : List ℕ) : Type 0 where
  pub K : ℕ
  pub formula : Formula
  pub certified : Certifies newest_edition A B proof K formula
  pub short : (length report < length (shorter_by certified).report) ⊎ (length table < length (shorter_by certified).table)

-- Both were written: the answer, both counts, and each byte of both outputs.
pub record BothWritten (reported short report table : List ℕ) (w : Shortened) : Type 0 where
  pub answer : w.answer ≡ acceptance
  pub rows : w.rows ≡ length reported
  pub count : w.count ≡ length short
  pub report_left : w.report ≡ over reported report
  pub table_left : w.table ≡ over short table
