-- One cut of a run, by the answers of the code. Assumes nothing.
use Rattle.std.specs.Prelude.{◌≡◌, cond, List, [], ◌∷◌, ◌++◌, map, ℕ, ◌+◌, ◌-◌, ◌≤◌, eqb, ltb, ℤ, length, Ok, Err}
use Rattle.std.specs.declared.result.Result as code
use Rattle.std.proofs.Math.Option.{some}
use Rattle.std.proofs.lemmas.List.Edits.{sets}
use Rattle.forms.specs.Edition.{edition, edition1, newest_edition}
use Rattle.forms.specs.Forms.{Line, Formula}
use Rattle.answers.specs.declared.Answer.{Answer}
use Rattle.answers.specs.Answers.{file_proof, Result, refused, accepted}
use Rattle.fields.specs.declared.FileKind.{FileKind}
use Rattle.fields.specs.Fields.{fields}
use Rattle.fields.specs.Header.{header}
use Rattle.fields.specs.Places.{fields_at}
use Rattle.formula.specs.Formula.{encode}
use Rattle.formula_write.specs.Writing.{scratch_limit}
use Rattle.proof.specs.Check.{check_root}
use Rattle.branches.specs.Spare.{lines_left, Spare}
use Rattle.bundle_load.specs.Load.{line_of, Loaded}
use Rattle.chains.specs.Runs.{Run}
use Rattle.run.specs.Uniform.{with_number}
use Rattle.run.specs.Run.{check_cut}
use Rattle.run_stages.specs.Staged.{stages, Staged}
use Rattle.run_cuts.specs.declared.begun.Run as begun

-- ---- the lines of a cut
-- Those of cut c: the first c stages are A's.
abbrev pub cut_lines : (c : ℕ) → Run → List Line
cut_lines c [] = []
cut_lines c (T ∷ Ts) = map (line_of (ltb 0 c)) T ++ cut_lines (c - 1) Ts

-- The stages are read.
abbrev pub Read : begun.Run → Type 0
Read r = Staged r.buffer.now r.lengths.now r.k r.count

abbrev pub stages_of : begun.Run → Run
stages_of r = stages r.buffer.now r.lengths.now

abbrev pub LoadsCut : begun.Run → (c : ℕ) (kinds : List ℕ) (buf : List ℤ) (kinds' : List ℕ) (buf' : List ℤ) → Type 0
LoadsCut r c kinds buf kinds' buf' = Loaded r.k kinds buf 0 (cut_lines c (stages_of r)) kinds' buf'

-- ---- the check
-- 27 in place of 14.
abbrev pub claimed_as : Answer → Answer
claimed_as a = cond (eqb a.number 14) (with_number 27 a) a

-- R accepts a formula of o bytes, which stand in the scratch if there is room for them.
pub record CutDerives (R : Result Formula) (scratch scratch' : List ℕ) (o : ℕ) : Type 0 where
  pub formula : Formula
  pub is : R ≡ accepted formula
  pub o_is : o ≡ length (encode edition1 formula)
  pub stored : o ≤ length scratch → scratch' ≡ sets scratch 0 (encode edition1 formula)
  pub few : o ≤ scratch_limit

abbrev pub ChecksBy : (R : Result Formula) (scratch scratch' : List ℕ) → code.Result ℕ Answer → Type 0
ChecksBy R scratch scratch' (Err a) = R ≡ refused a
ChecksBy R scratch scratch' (Ok o) = CutDerives R scratch scratch' o

-- The answer r tells what R is: its refusal, or how many bytes its formula has.
pub record CutTells (R : Result Formula) (scratch scratch' : List ℕ) (r : code.Result ℕ Answer) : Type 0 where
  pub by : ChecksBy R scratch scratch' r

abbrev pub RootChecked : begun.Run → List Line → (scratch scratch' : List ℕ) → code.Result ℕ Answer → Type 0
RootChecked r ls scratch scratch' x = CutTells (check_root r.edition r.k ls (fields_at r.proof.now r.at)) scratch scratch' x

-- The stages are read, and so is the proof's header. There is room for the lines that may come.
pub record Asked (r : begun.Run) (kinds : List ℕ) (buf : List ℤ) : Type 0 where
  pub staged : Read r
  pub high : r.k ≤ edition1.constants
  pub short : length r.proof.now ≤ (edition newest_edition).proof_bytes
  pub header_is : header FileKind.Proof file_proof newest_edition (some r.k) (fields r.proof.now) ≡ accepted (record { number = r.edition; K = r.k; rest = fields_at r.proof.now r.at })
  pub spare : Spare r.edition r.k (r.count + lines_left r.edition r.proof.now r.at) kinds buf

abbrev pub cut_of : begun.Run → (c : ℕ) → Result Formula
cut_of r c = check_cut newest_edition r.k (stages_of r) (fields r.proof.now) c

abbrev pub CutChecked : begun.Run → (c : ℕ) (scratch scratch' : List ℕ) → code.Result ℕ Answer → Type 0
CutChecked r c scratch scratch' x = CutTells (cut_of r c) scratch scratch' x
