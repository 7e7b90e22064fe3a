-- Shortening a proof: the report on its rows, and the table without those that nothing rests on. docs/FORMAT.md, "Rows that nothing rests on". Assumes nothing.
use Rattle.std.specs.Prelude.{Bool, true, false, ◌&&◌, List, [], ◌∷◌, ◌++◌, map, ℕ, leb, length}
use Rattle.std.proofs.Math.Option.{Option, none, some}
use Rattle.forms.specs.Edition.{Edition, edition, newest_edition}
use Rattle.forms.specs.Forms.{lines}
use Rattle.calculus.specs.Rules.{CloseNumber, Entry, row}
use Rattle.answers.specs.declared.Answer.{Answer}
use Rattle.answers.specs.Answers.{answer, acceptance, file_proof, file_lent, Result, refused, accepted, ◌>>=◌, over}
use Rattle.fields.specs.declared.FileKind.{FileKind}
use Rattle.fields.specs.Fields.{Fields, ends, cut, ◌▸◌, fields, Item, item, file_of}
use Rattle.fields.specs.Header.{header, header_bytes}
use Rattle.bundle.specs.Bundle.{bundles}
use Rattle.proof.specs.Entries.{EntryTag, entry_tagged, line_count, renumbered, entry_from}
use Rattle.proof.specs.Check.{interpolant}
use Rattle.shortening.specs.Passes.{report_on, retentions_on, remaining}

-- The fields of a file apart from their places; notes are left out already.
abbrev pub list_of : Fields → List Item
list_of (ends at) = []
list_of (cut at) = []
list_of (f ▸ fs) = item f.tag f.contents ∷ list_of fs

-- The entry that a field states. Behind the header of a proof that is accepted every field states one, so what is said of others never counts.
abbrev pub entry_stated : (e : Edition) (K : ℕ) → Option EntryTag → List ℕ → Entry
entry_stated e K none bs = row (CloseNumber 0)
entry_stated e K (some tagged) bs = entry_from e K tagged bs

abbrev pub stated_entry : (e : Edition) (K : ℕ) → Item → Entry
stated_entry e K i = entry_stated e K (entry_tagged i.tag) i.contents

-- A field with new line numbers; all its other bytes stay.
abbrev pub renumber_item : Edition → (ℕ → ℕ) → Item → Item
renumber_item e f i = item i.tag (renumbered e.line_width e.line_width f (line_count (entry_tagged i.tag)) i.contents)

-- The report, and the shorter table as a file.
pub record Shorter : Type 0 where
  pub report : List ℕ
  pub table : List ℕ

-- Of a proof of that edition over K constants and n constraints, whose entries these fields state. The table has the proof's own edition, and no notes.
unfoldable pub shorter : (number K n : ℕ) → List Item → Shorter
shorter number K n is =
    let es : List Entry = map (stated_entry (edition number) K) is in
    record { report = report_on n es; table = header_bytes number K ++ file_of (remaining (renumber_item (edition number)) (retentions_on n es) is) }

-- It refuses as check does with output enough, also by 1 where the formula's file is too long.
unfoldable pub shortening : (newest : ℕ) (A B proof : List ℕ) → Result Shorter
shortening newest A B proof = do
  KI ← interpolant newest A B proof
  (a, b) ← bundles newest A B
  h ← header FileKind.Proof file_proof newest (some a.K) (fields proof)
  accepted (shorter h.number h.K (length (lines a.constraints b.constraints)) (list_of h.rest))

-- What shortening leaves: its answer, the rows and the bytes that it counts, and both lent outputs afterwards.
pub record Shortened : Type 0 where
  pub answer : Answer
  pub rows : ℕ
  pub count : ℕ
  pub report : List ℕ
  pub table : List ℕ

-- Last comes 21: one of the outputs is too short, and the place is the table's bytes. A refusal leaves both unchanged.
unfoldable pub fit_both : (report table : List ℕ) → Bool → Shorter → Shortened
fit_both report table true s = record { answer = acceptance; rows = length s.report; count = length s.table; report = over s.report report; table = over s.table table }
fit_both report table false s = record { answer = answer 21 file_lent (length s.table); rows = 0; count = 0; report = report; table = table }

unfoldable pub written_both : (report table : List ℕ) → Result Shorter → Shortened
written_both report table (refused a) = record { answer = a; rows = 0; count = 0; report = report; table = table }
written_both report table (accepted s) = fit_both report table (leb (length s.report) (length report) && leb (length s.table) (length table)) s

unfoldable pub shorten : (A B proof report table : List ℕ) → Shortened
shorten A B proof report table = written_both report table (shortening newest_edition A B proof)
