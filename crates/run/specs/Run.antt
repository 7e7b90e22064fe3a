-- Guards for a whole run of stages. docs/FORMAT.md, "Guards of a run of stages". Assumes nothing.
use Rattle.std.proofs.Math.Option.{Option, none, some}
use Rattle.std.specs.Prelude.{Bool, true, false, cond, ◌&&◌, List, [], ◌∷◌, map, ℕ, zero, suc, ◌+◌, leb, eqb, length, take, drop}
use Rattle.forms.specs.Edition.{edition, edition1, newest_edition}
use Rattle.forms.specs.Forms.{Constraint, Formula, every}
use Rattle.answers.specs.declared.Answer.{Answer}
use Rattle.answers.specs.Answers.{answer, acceptance, file_proof, file_lent, Result, refused, accepted, ◌>>=◌, ◌>>◌, need, over}
use Rattle.fields.specs.Fields.{Fields, fields}
use Rattle.bundle.specs.Bundle.{Bundle, at_most, bundle}
use Rattle.formula.specs.Formula.{formula_file}
use Rattle.proof.specs.Check.{check_proof}
use Rattle.chains.specs.Runs.{Run, joined, up_to, beyond}
use Rattle.run.specs.Uniform.{with_number, uniform}

-- The most stages, and the most constraints of all stages together.
abbrev pub most_stages : ℕ
most_stages = 16

abbrev pub most_constraints : ℕ
most_constraints = 64

-- Stage i, counted from 1, is file 10+i.
abbrev pub first_stage : ℕ
first_stage = 11

-- ---- the stages
-- The bundles stand end to end in one buffer.
unfoldable pub total : List ℕ → ℕ
total [] = 0
total (n ∷ ns) = n + total ns

unfoldable pub parts : (lengths : List ℕ) (buffer : List ℕ) → List (List ℕ)
parts [] buffer = []
parts (n ∷ ns) buffer = take n buffer ∷ parts ns (drop n buffer)

-- 25: n outside 1 to 16, or lengths that do not add up to the buffer.
unfoldable pub parted : (lengths : List ℕ) (buffer : List ℕ) → Bool
parted lengths buffer = leb 1 (length lengths) && leb (length lengths) most_stages && eqb (total lengths) (length buffer)

-- 1 for each stage in turn, too long for every edition that the office reads; the first is this file.
unfoldable pub stages_short : (newest file : ℕ) → List (List ℕ) → Result (Unit {0})
stages_short newest file [] = accepted tt
stages_short newest file (T ∷ Ts) = do
  at_most (edition newest).bundle_bytes file T
  stages_short newest (suc file) Ts

-- Each stage is read as check reads B: 9 where its K is not that of the first, which is read as A is.
unfoldable pub read_stages : (newest file : ℕ) → Option ℕ → List (List ℕ) → Result (List Bundle)
read_stages newest file given [] = accepted []
read_stages newest file given (T ∷ Ts) = do
  t ← bundle newest file given T
  ts ← read_stages newest (suc file) (some t.K) Ts
  accepted (t ∷ ts)

-- Their K, that of the first, and what they state.
unfoldable pub constants_of : List Bundle → ℕ
constants_of [] = 0
constants_of (t ∷ ts) = t.K

unfoldable pub run_of : List Bundle → Run
run_of = map (λ t. t.constraints)

-- ---- the cuts
-- Constraints as a bundle. (Of a bundle check uses K and the constraints only; a side may have more of them than a bundle's file.)
abbrev pub side : (K : ℕ) → List Constraint → Bundle
side K cs = record { edition = 1; K = K; constraints = cs }

-- 27 in place of 14.
unfoldable pub claim_refused : {X : Type 0} → Result X → Result X
claim_refused (refused a) = refused (cond (eqb a.number 14) (with_number 27 a) a)
claim_refused (accepted x) = accepted x

-- Cut i: the stages up to i are A and the others B; its guard is the formula of check.
unfoldable pub check_cut : (newest K : ℕ) → Run → Fields → (i : ℕ) → Result Formula
check_cut newest K Ts fs i = claim_refused (check_proof newest (side K (up_to Ts i)) (side K (beyond Ts i)) fs)

-- Of two results the refusal that comes first: that of the lesser place, and at one place the first one's.
unfoldable pub both : {X Y : Type 0} → Result X → Result Y → Result (X × Y)
both (refused a) (refused b) = refused (cond (leb a.place b.place) a b)
both (refused a) (accepted y) = refused a
both (accepted x) (refused b) = refused b
both (accepted x) (accepted y) = accepted (x, y)

-- The cuts i to i+n. (All but 13, and a claim's 14, is alike in every cut; so what is refused is refused as in each of them, or it is a 13 or a claim of some.)
unfoldable pub check_cuts : (newest K : ℕ) → Run → Fields → (i n : ℕ) → Result (List Formula)
check_cuts newest K Ts fs i zero = check_cut newest K Ts fs i >>= λ I. accepted (I ∷ [])
check_cuts newest K Ts fs i (suc n) = both (check_cut newest K Ts fs i) (check_cuts newest K Ts fs (suc i) n) >>= λ (I, Is). accepted (I ∷ Is)

-- The guards I0 to In; 28 comes after check's refusals at one place, as it comes after 15.
unfoldable pub check_run : (newest K : ℕ) → Run → Fields → Result (List Formula)
check_run newest K Ts fs = both (check_cuts newest K Ts fs 0 (length Ts)) (uniform newest K fs) >>= λ (Is, w). accepted Is

-- ---- the operation
-- The n+1 guard files. 25; 1; the stages; 26; the proof; at the end 1, whose place is the bytes of all guards.
unfoldable pub guard_files : (newest : ℕ) (buffer lengths proof : List ℕ) → Result (List (List ℕ))
guard_files newest buffer lengths proof = do
  need (answer 25 file_lent 0) (parted lengths buffer)
  stages_short newest first_stage (parts lengths buffer)
  at_most (edition newest).proof_bytes file_proof proof
  ts ← read_stages newest first_stage none (parts lengths buffer)
  need (answer 26 file_lent 0) (leb (length (joined (run_of ts))) most_constraints)
  Is ← check_run newest (constants_of ts) (run_of ts) (fields proof)
  need (answer 1 file_lent (length (joined (map (formula_file edition1 (constants_of ts)) Is)))) (every (λ file. leb (length file) edition1.formula_bytes) (map (formula_file edition1 (constants_of ts)) Is))
  accepted (map (formula_file edition1 (constants_of ts)) Is)

-- What the operation leaves: its answer, the bytes of all guards, and the two lent outputs afterwards.
pub record GuardsWritten : Type 0 where
  pub answer : Answer
  pub count : ℕ
  pub output : List ℕ
  pub sizes : List ℕ

-- Last 21, either output too short; the place is the bytes of all guards. Accepted: the files end to end, their n+1 lengths; the rest stays.
module _ (output sizes : List ℕ) where
  unfoldable pub unwritten : Answer → GuardsWritten
  unwritten a = record { answer = a; count = 0; output = output; sizes = sizes }

  unfoldable pub fit_guards : Bool → List (List ℕ) → GuardsWritten
  fit_guards true files = record { answer = acceptance; count = length (joined files); output = over (joined files) output; sizes = over (map length files) sizes }
  fit_guards false files = unwritten (answer 21 file_lent (length (joined files)))

  unfoldable pub written_guards : Result (List (List ℕ)) → GuardsWritten
  written_guards (refused a) = unwritten a
  written_guards (accepted files) = fit_guards (leb (length (joined files)) (length output) && leb (length files) (length sizes)) files

unfoldable pub guards_by : (newest : ℕ) (buffer lengths proof output sizes : List ℕ) → GuardsWritten
guards_by newest buffer lengths proof output sizes = written_guards output sizes (guard_files newest buffer lengths proof)

-- The guards of this office.
unfoldable pub guards : (buffer lengths proof output sizes : List ℕ) → GuardsWritten
guards = guards_by newest_edition
