-- Turning a bundle or a proof into the other edition. docs/FORMAT.md, "Turning into the other edition". Assumes nothing.
use Rattle.std.proofs.Math.Option.{none}
use Rattle.std.specs.Prelude.{Bool, true, false, cond, ◌&&◌, List, [], ◌++◌, ℕ, ◌^◌, leb, ltb, eqb, length}
use Rattle.forms.specs.Edition.{Edition, edition, newest_edition}
use Rattle.forms.specs.Forms.{every}
use Rattle.calculus.specs.Rules.{Derive, Strengthen, CloseNumber, CloseStride, Round, Split, Entry, row, claim}
use Rattle.answers.specs.Answers.{answer, file_a, file_proof, file_lent, Result, refused, accepted, ◌>>=◌, ◌>>◌, need, Written, written}
use Rattle.number_bytes.specs.Numbers.{unsigneds, flat, form_from}
use Rattle.fields.specs.declared.FileKind.{FileKind}
use Rattle.fields.specs.Fields.{Fields, ends, cut, ◌▸◌, fields, field_bytes, Item, item}
use Rattle.fields.specs.Header.{header_field, header, header_bytes}
use Rattle.bundle.specs.Bundle.{at_most, bundle}
use Rattle.bundle.specs.Read.{kinds_of, numbers_of}
use Rattle.bundle.specs.Write.{constraints_bytes, holdable}
use Rattle.proof.specs.Entries.{entry_tagged, line_count, renumbered, entry}

-- ---- the editions
-- A file is turned into the edition asked for from the other one.
abbrev pub other : (to : ℕ) → ℕ
other to = cond (eqb to 1) 2 1

-- 5 first: an edition asked for that is not 1 or 2. It concerns no file.
unfoldable pub asked : (to : ℕ) → Result (Unit {0})
asked to = need (answer 5 file_lent 0) (leb 1 to && leb to newest_edition)

-- A file is turned if its field 0x01 says the other edition: 2, 3, 4, 6; 5 for every other number, so for a file that already has the edition asked for.
unfoldable pub other_edition : FileKind → (file to : ℕ) → Fields → Result (Unit {0})
other_edition kind file to fs = do
  (at, number, rest) ← header_field kind file 0x01 fs
  need (answer 5 file at) (eqb number (other to))

-- ---- field by field
-- The first field that the test does not pass is refused by this number; the file is then already read whole.
unfoldable pub each_field : (number file : ℕ) → (Item → Bool) → Fields → Result (Unit {0})
each_field number file fits (ends at) = accepted tt
each_field number file fits (cut at) = accepted tt
each_field number file fits (f ▸ fs) = do
  need (answer number file f.at) (fits (item f.tag f.contents))
  each_field number file fits fs

-- 1, a result too long for its edition; the place is the bytes needed.
unfoldable pub result_within : (limit : ℕ) → List ℕ → Result (List ℕ)
result_within limit bytes = do
  need (answer 1 file_lent (length bytes)) (leb (length bytes) limit)
  accepted bytes

-- ---- a bundle
-- The constraints' fields stand behind the two of the header.
unfoldable pub behind_header : Fields → Fields
behind_header (ends at) = ends at
behind_header (cut at) = cut at
behind_header (f ▸ ends at) = ends at
behind_header (f ▸ cut at) = cut at
behind_header (f ▸ g ▸ fs) = fs

-- From the edition e to e': the new width holds each number. (Turning up it always does.)
unfoldable pub numbers_fit : (e e' : Edition) (K : ℕ) → Item → Bool
numbers_fit e e' K i = every (holdable e'.coefficient_width) (flat (form_from e.coefficient_width K i.contents))

-- 5; 1; 2, 3, 4, 6 and 5 for the field 0x01; then as reading, 1, 2, 3, 4, 6, 7, 8, 13. The whole file read, 13 for a number that the edition asked for cannot hold; 1.
-- The result: what writing writes of the constraints read, in the edition asked for.
unfoldable pub bundle_turned : (to : ℕ) → List ℕ → Result (List ℕ)
bundle_turned to file = do
  asked to
  at_most (edition newest_edition).bundle_bytes file_a file
  other_edition FileKind.Bundle file_a to (fields file)
  b ← bundle newest_edition file_a none file
  each_field 13 file_a (numbers_fit (edition b.edition) (edition to) b.K) (behind_header (fields file))
  result_within (edition to).bundle_bytes (header_bytes to b.K ++ constraints_bytes (edition to) b.K (kinds_of b.constraints) (numbers_of b.constraints))

-- Last 21. Accepted: the bytes written; the rest stays.
unfoldable pub turn_bundle : (to : ℕ) (file output : List ℕ) → Written
turn_bundle to file output = written (bundle_turned to file) output

-- ---- a proof: from the edition e to e', each line number in the other width
-- The line numbers that a field begins with; a claim has none.
abbrev pub lines_named : (e : Edition) → Item → List ℕ
lines_named e i = unsigneds e.line_width (line_count (entry_tagged i.tag)) i.contents

module _ (e e' : Edition) where
  -- The new width holds each line number. (Turning up it always does.)
  unfoldable pub lines_fit : Item → Bool
  lines_fit i = every (λ n. ltb n (256 ^ e'.line_width)) (lines_named e i)

  -- The line numbers in the new width, and what stands behind them as it is: multipliers, strides, and a claim's forms.
  unfoldable pub lines_turned : Item → List ℕ
  lines_turned i = renumbered e.line_width e'.line_width (λ n. n) (line_count (entry_tagged i.tag)) i.contents

-- The fields in order, each with its tag and its contents turned. Notes are not among them.
unfoldable pub fields_turned : (turn : Item → List ℕ) → Fields → List ℕ
fields_turned turn (ends at) = []
fields_turned turn (cut at) = []
fields_turned turn (f ▸ fs) = field_bytes f.tag (turn (item f.tag f.contents)) ++ fields_turned turn fs

-- Whether a claim may stand behind an entry: after a row 0x10 to 0x12, which makes a line. (Which line it is is not looked at here.)
unfoldable pub makes_line : Entry → Bool
makes_line (row (Derive s)) = true
makes_line (row (Strengthen t)) = false
makes_line (row (Split t)) = false
makes_line (row (CloseNumber t)) = false
makes_line (row (CloseStride t g)) = false
makes_line (row (Round t g k)) = false
makes_line (claim t t_A) = false

-- The fields after the header: each is an entry as in check. 2, 3, 4, 6.
unfoldable pub entries_read : (e : Edition) (K : ℕ) (made : Bool) → Fields → Result (Unit {0})
entries_read e K made (ends at) = accepted tt
entries_read e K made (cut at) = refused (answer 2 file_proof at)
entries_read e K made (f ▸ fs) = do
  x ← entry e K (λ n. answer n file_proof f.at) made f
  entries_read e K (makes_line x) fs

-- 5; 1; 2, 3, 4, 6 and 5 for the field 0x01; then as check, 2, 3, 4, 6, 7. The whole file read, 10 for a line number that the edition asked for cannot hold; 1.
unfoldable pub proof_turned : (to : ℕ) → List ℕ → Result (List ℕ)
proof_turned to file = do
  asked to
  at_most (edition newest_edition).proof_bytes file_proof file
  other_edition FileKind.Proof file_proof to (fields file)
  h ← header FileKind.Proof file_proof newest_edition none (fields file)
  entries_read (edition h.number) h.K false h.rest
  each_field 10 file_proof (lines_fit (edition h.number) (edition to)) h.rest
  result_within (edition to).proof_bytes (header_bytes to h.K ++ fields_turned (lines_turned (edition h.number) (edition to)) h.rest)

-- Last 21. Accepted: the bytes written; the rest stays.
unfoldable pub turn_proof : (to : ℕ) (file output : List ℕ) → Written
turn_proof to file output = written (proof_turned to file) output
