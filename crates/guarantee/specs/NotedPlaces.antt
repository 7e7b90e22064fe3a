-- Where a file's places stand once whole notes are put in, and answers with them. Assumes nothing.
use Rattle.std.proofs.Math.Option.{Option, none, some}
use Rattle.std.specs.Prelude.{cond, List, ℕ, zero, suc, ◌+◌, ◌-◌, leb, eqb, length}
use Rattle.answers.specs.declared.Answer.{Answer}
use Rattle.answers.specs.Answers.{file_a, file_b, file_proof}
use Rattle.fields.specs.Fields.{Fields, ends, cut, ◌▸◌, Noted, same, noted, passed}
use Rattle.proof.specs.Tree.{starts_at}

-- Where place p of the file stands then: each note put in before it moves it on by the note's bytes, three and its contents.
unfoldable pub moved_by : {F F' : List ℕ} → Noted F F' → ℕ → ℕ
moved_by same p = p
moved_by (noted i h t n) p = 3 + length i.contents + moved_by n p
moved_by (passed i h n) p = cond (leb (3 + length i.contents) p) (3 + length i.contents + moved_by n (p - (3 + length i.contents))) p

-- Where the field starts that has i fields before it, notes aside; behind the last one, where the file ends, or has bytes that are no whole field.
unfoldable pub nth_start : (i : ℕ) → Fields → Option ℕ
nth_start zero fs = some (starts_at fs)
nth_start (suc i) (ends at) = none
nth_start (suc i) (cut at) = none
nth_start (suc i) (f ▸ fs) = nth_start i fs

-- An answer with its place moved by the map of its file. 1 is about a file as a whole: its place, 0 or with file 4 a number of bytes, stays.
abbrev pub moved_answer : (places : (file place : ℕ) → ℕ) → Answer → Answer
moved_answer places a = record { number = a.number; file = a.file; place = cond (eqb a.number 1) a.place (places a.file a.place); row = a.row; step = a.step; branch = a.branch }

-- The places of A, B and the proof. (With file 4 the place is a number of bytes, and an acceptance has none: both stay.)
unfoldable pub check_places : {A A' B B' proof proof' : List ℕ} → Noted A A' → Noted B B' → Noted proof proof' → (file place : ℕ) → ℕ
check_places n_A n_B nP file p = cond (eqb file file_a) (moved_by n_A p) (cond (eqb file file_b) (moved_by n_B p) (cond (eqb file file_proof) (moved_by nP p) p))
