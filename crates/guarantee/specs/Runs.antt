-- What the guards of a run are worth: sequence interpolants, for whatever the stages' writers made and meant. docs/FORMAT.md, "Guards of a run of stages". Of what the function ensures. Assumes nothing.
use Rattle.std.specs.Prelude.{◌≡◌, ◌↔◌, ◌⊎◌, cond, List, [], ◌∷◌, ◌++◌, map, ℕ, suc, ◌+◌, ◌≤◌, ◌<◌, eqb, length, take}
use Rattle.forms.specs.Edition.{edition1, newest_edition}
use Rattle.forms.specs.Forms.{All, Constraint, Formula}
use Rattle.answers.specs.declared.WriteResult.{WriteResult}
use Rattle.answers.specs.Answers.{answer, acceptance, file_proof, file_lent, accepted, over, written_of, written}
use Rattle.number_bytes.specs.Numbers.{Bytes}
use Rattle.fields.specs.Fields.{Item, Framed, file_of, fields, Noted, Kept}
use Rattle.bundle.specs.Layout.{Each, nil, cons, BundleFile, bundle_limit}
use Rattle.formula.specs.Formula.{formula_file}
use Rattle.proof.specs.Check.{check_proof}
use Rattle.proof.specs.Promises.{Checks}
use Rattle.chains.specs.Runs.{Run, joined, up_to, beyond, Chain}
use Rattle.run.specs.Run.{most_constraints, first_stage, parts, side}
use Rattle.run.specs.Layout.{guard_at, StageFile, RunYields, RunCertifies}
use Rattle.run.specs.Refused.{Earliest, RunRefused}
use Rattle.run.specs.Ordered.{Parted, RunWithinLimits}
use Rattle.run.specs.Promises.{WritesGuards}
use Rattle.guarantee.specs.LaidOut.{WholeFields}
use Rattle.guarantee.specs.RefusedIff.{JustWhere}
use Rattle.guarantee.specs.NotedPlaces.{moved_by, moved_answer}
use Rattle.guarantee.specs.Soundness.{Meaning, Faithful}
use Rattle.guarantee.specs.Testing.{FormulaFile}

-- A stage's writer: his fields, and what he meant by them.
pub record Writer : Type 0 where
  pub fields : List Item
  pub framed : All Framed fields
  pub means : Meaning
  pub faithful : Faithful means

-- His file, and what he stated.
abbrev pub file_by : Writer → List ℕ
file_by w = file_of w.fields

abbrev pub stated_by : Writer → List Constraint
stated_by w = (w.means w.fields).1

-- The files of the writers end to end, their lengths, and the run that they stated.
abbrev pub buffer_by : List Writer → List ℕ
buffer_by ws = joined (map file_by ws)

abbrev pub lengths_by : List Writer → List ℕ
lengths_by ws = map (λ w. length (file_by w)) ws

abbrev pub run_by : List Writer → Run
run_by ws = map stated_by ws

-- The files of these guards, end to end.
abbrev pub guards_file : (K : ℕ) → List Formula → List ℕ
guards_file K Is = joined (map (formula_file edition1 K) Is)

abbrev pub guard_sizes : (K : ℕ) → List Formula → List ℕ
guard_sizes K Is = map (λ I. length (formula_file edition1 K I)) Is

-- What one accepted call leaves.
pub record DeliveredRun (ws : List Writer) (proof output sizes left sizesLeft : List ℕ) (r : WriteResult) : Type 0 where
  pub K : ℕ
  pub Is : List Formula
  -- n+1 guards, those that the rules assign to the one table for each cut, over the K that every writer stated
  pub certified : RunCertifies newest_edition (buffer_by ws) (lengths_by ws) proof K (run_by ws) Is
  pub K_of : All (λ w. (w.means w.fields).0 ≡ K) ws
  pub guards : length Is ≡ suc (length ws)
  -- I0 is true under every assignment, In under none, wherever I(i-1) and Ti hold Ii holds, and each Ii is an interpolant of T1 .. Ti and the rest: Ti being what its writer stated
  pub chain : Chain (run_by ws) (guard_at Is)
  -- the files stand end to end at the front of the output, their n+1 lengths at that of the other; the rest of both stays
  pub fits : (length (guards_file K Is) ≤ length output) × (length Is ≤ length sizes)
  pub count : r.count ≡ length (guards_file K Is)
  pub bytes : left ≡ over (guards_file K Is) output
  pub lengths : sizesLeft ≡ over (guard_sizes K Is) sizes
  -- cut by the lengths that are left, the output gives the files
  pub files : parts (take (length Is) sizesLeft) left ≡ map (formula_file edition1 K) Is
  -- each is no more than a formula's file may have, and states its guard over K (of a proof that is bytes, as a slice is)
  pub upto : All (λ I. length (formula_file edition1 K I) ≤ 65_536) Is
  pub states : Bytes proof → All (λ I. FormulaFile K (formula_file edition1 K I) I) Is

-- What is accepted: the files certify the guards, and both outputs are long enough.
pub record RunCheckable (buffer lengths proof output sizes : List ℕ) : Type 0 where
  pub K : ℕ
  pub Ts : Run
  pub Is : List Formula
  pub certified : RunCertifies newest_edition buffer lengths proof K Ts Is
  pub fits : (length (guards_file K Is) ≤ length output) × (length Is ≤ length sizes)

-- These stages are bundles of one K.
pub record Bundled (files : List (List ℕ)) : Type 0 where
  pub K : ℕ
  pub Ts : Run
  pub stages : Each (StageFile newest_edition K) files Ts

-- A and B of a check that reads a stage T, behind those before it, as the run reads it, and T's number there: the first stage is read as A (B is not too long), every other as B behind the first one as A.
pub data ReadByCheck : (before : List (List ℕ)) (T A B : List ℕ) (file : ℕ) → Type 0 where
  as_A : {T B : List ℕ} → length B ≤ 8_192 → ReadByCheck [] T T B 1
  as_B : {F T : List ℕ} {before : List (List ℕ)} → ReadByCheck (F ∷ before) T F T 2

pub record RunPromised : Type 0 where
  -- sequence interpolants, whatever the stages' writers made and meant
  pub interpolates : (ws : List Writer) (proof output sizes left sizesLeft : List ℕ) (r : WriteResult) → WritesGuards (buffer_by ws) (lengths_by ws) proof output sizes left sizesLeft r
      → r.answer.number ≡ 0 → DeliveredRun ws proof output sizes left sizesLeft r
  -- and every stage that is accepted is the file of some writer's fields
  pub listed : (buffer lengths proof output sizes left sizesLeft : List ℕ) (r : WriteResult) → Bytes buffer → WritesGuards buffer lengths proof output sizes left sizesLeft r
      → r.answer.number ≡ 0 → All WholeFields (parts lengths buffer)
  -- the files certify one K, one run and one list of guards
  pub one_list : (buffer lengths proof : List ℕ) (K K' : ℕ) (Ts Ts' : Run) (Is Is' : List Formula) → RunYields newest_edition buffer lengths proof K Ts Is → RunYields newest_edition buffer lengths proof K' Ts' Is'
      → (K ≡ K') × (Ts ≡ Ts') × (Is ≡ Is')
  -- guard i is what check writes for the same proof, whatever output it is lent, where T1 .. Ti and the rest can be written as bundles
  pub as_check : (buffer lengths proof : List ℕ) (K : ℕ) (Ts : Run) (Is : List Formula) → RunCertifies newest_edition buffer lengths proof K Ts Is
      → (i : ℕ) → i ≤ length Ts → (A B : List ℕ) (n_A n_B : ℕ) → BundleFile newest_edition A n_A K (up_to Ts i) → BundleFile newest_edition B n_B K (beyond Ts i)
      → (lent checked : List ℕ) (q : WriteResult) → Checks A B proof lent checked q → written_of q checked ≡ written (accepted (formula_file edition1 K (guard_at Is i))) lent
  -- stage i, counted from 1, in its turn is refused with file 10+i just where those before it are bundles of one K and check, which reads it as A or as B with any proof that is not too long, refuses it; with check's number and place
  pub in_stage : (buffer lengths proof output sizes left sizesLeft : List ℕ) (r : WriteResult) → WritesGuards buffer lengths proof output sizes left sizesLeft r → RunWithinLimits lengths buffer proof
      → (before : List (List ℕ)) (T : List ℕ) (after : List (List ℕ)) → parts lengths buffer ≡ before ++ (T ∷ after)
      → (A B : List ℕ) (file : ℕ) → ReadByCheck before T A B file → (P lent checked : List ℕ) (q : WriteResult) → length P ≤ 65_536 → Checks A B P lent checked q
      → JustWhere (r.answer.file ≡ 11 + length before) (Bundled before × (q.answer.file ≡ file)) r.answer (λ _. answer q.answer.number (11 + length before) q.answer.place)
  -- where the stages are in order and the answer names the proof: every cut is refused so, or it is a 13 of some cut, 27 or 28; nothing is refused at a lesser place, and 14 never comes
  pub in-proof : (buffer lengths proof output sizes left sizesLeft : List ℕ) (r : WriteResult) → WritesGuards buffer lengths proof output sizes left sizesLeft r
      → (K : ℕ) (Ts : Run) → RunWithinLimits lengths buffer proof → Each (StageFile newest_edition K) (parts lengths buffer) Ts → length (joined Ts) ≤ most_constraints → r.answer.file ≡ file_proof
      → RunRefused newest_edition K Ts proof r.answer × Earliest newest_edition K Ts proof r.answer × (¬ (r.answer.number ≡ 14))
  -- and it does name the proof where the proof derives no guards; just there, if the proof is bytes, as a slice is (of other numbers 1, 0 and 0, 256 are one multiplier: unlike fields of like rows, which derive guards and give 28)
  pub names_proof : (buffer lengths proof output sizes left sizesLeft : List ℕ) (r : WriteResult) → WritesGuards buffer lengths proof output sizes left sizesLeft r
      → (K : ℕ) (Ts : Run) → RunWithinLimits lengths buffer proof → Each (StageFile newest_edition K) (parts lengths buffer) Ts → length (joined Ts) ≤ most_constraints
      → (((Is : List Formula) → ¬ (RunYields newest_edition buffer lengths proof K Ts Is)) → r.answer.file ≡ file_proof)
      × (Bytes proof → r.answer.file ≡ file_proof → (Is : List Formula) → ¬ (RunYields newest_edition buffer lengths proof K Ts Is))
  -- by 27 or 28 where check accepts every cut, the proof not being uniform
  pub not_uniform : (buffer lengths proof output sizes left sizesLeft : List ℕ) (r : WriteResult) → WritesGuards buffer lengths proof output sizes left sizesLeft r
      → (K : ℕ) (Ts : Run) → RunWithinLimits lengths buffer proof → Each (StageFile newest_edition K) (parts lengths buffer) Ts → length (joined Ts) ≤ most_constraints
      → ((i : ℕ) → i ≤ length Ts → (I : Formula) × (check_proof newest_edition (side K (up_to Ts i)) (side K (beyond Ts i)) (fields proof) ≡ accepted I))
      → ((Is : List Formula) → ¬ (RunYields newest_edition buffer lengths proof K Ts Is)) → (r.answer.number ≡ 27) ⊎ (r.answer.number ≡ 28)

-- The files certify guards, and either output is too short.
pub record ShortGuards (buffer lengths proof output sizes : List ℕ) : Type 0 where
  pub K : ℕ
  pub Ts : Run
  pub Is : List Formula
  pub certified : RunCertifies newest_edition buffer lengths proof K Ts Is
  pub short : (length output < length (guards_file K Is)) ⊎ (length sizes < length Is)

-- Each stage is a bundle of this K, no file is too long for every edition, and they have more than 64 constraints together.
pub record ManyConstraints (buffer lengths proof : List ℕ) : Type 0 where
  pub K : ℕ
  pub Ts : Run
  pub short : RunWithinLimits lengths buffer proof
  pub stages : Each (StageFile newest_edition K) (parts lengths buffer) Ts
  pub many : most_constraints < length (joined Ts)

-- The rows derive guards, and the file of some guard has more than 65,536 bytes.
pub record LongGuard (buffer lengths proof : List ℕ) : Type 0 where
  pub K : ℕ
  pub Ts : Run
  pub Is : List Formula
  pub yields : RunYields newest_edition buffer lengths proof K Ts Is
  pub long : (i : ℕ) × (i ≤ length Ts) × (65_536 < length (formula_file edition1 K (guard_at Is i)))

-- What is accepted, and what is then left; which refusals come just where they should. (Of a proof that is bytes, as a slice is, where guards are derived: two fields that state the same row are then the same.)
pub record RunAcceptance : Type 0 where
  pub accepted_iff : (buffer lengths proof output sizes left sizesLeft : List ℕ) (r : WriteResult) → Bytes proof → WritesGuards buffer lengths proof output sizes left sizesLeft r
      → r.answer.number ≡ 0 ↔ RunCheckable buffer lengths proof output sizes
  -- whatever the files certify is what is written
  pub writes : (buffer lengths proof output sizes left sizesLeft : List ℕ) (r : WriteResult) → Bytes proof → WritesGuards buffer lengths proof output sizes left sizesLeft r
      → (c : RunCheckable buffer lengths proof output sizes)
      → (r.answer ≡ acceptance) × (r.count ≡ length (guards_file c.K c.Is)) × (left ≡ over (guards_file c.K c.Is) output) × (sizesLeft ≡ over (guard_sizes c.K c.Is) sizes)
  -- 25 just where there are not 1 to 16 lengths that add up to the buffer
  pub guards_25 : (buffer lengths proof output sizes left sizesLeft : List ℕ) (r : WriteResult) → WritesGuards buffer lengths proof output sizes left sizesLeft r
      → JustWhere (r.answer.number ≡ 25) (¬ (Parted lengths buffer)) r.answer (λ _. answer 25 file_lent 0)
  -- 26 just where the stages are in order and have too many constraints together
  pub guards_26 : (buffer lengths proof output sizes left sizesLeft : List ℕ) (r : WriteResult) → WritesGuards buffer lengths proof output sizes left sizesLeft r
      → JustWhere (r.answer.number ≡ 26) (ManyConstraints buffer lengths proof) r.answer (λ _. answer 26 file_lent 0)
  -- 1 with file 4 just where a guard's file is too long, with the bytes of all guards, whatever is lent
  pub guards_1_at_end : (buffer lengths proof output sizes left sizesLeft : List ℕ) (r : WriteResult) → Bytes proof → WritesGuards buffer lengths proof output sizes left sizesLeft r
      → JustWhere ((r.answer.number ≡ 1) × (r.answer.file ≡ file_lent)) (LongGuard buffer lengths proof) r.answer (λ l. answer 1 file_lent (length (guards_file l.K l.Is)))
  -- 21 just where only an output is too short, with the bytes of all guards
  pub guards_21 : (buffer lengths proof output sizes left sizesLeft : List ℕ) (r : WriteResult) → Bytes proof → WritesGuards buffer lengths proof output sizes left sizesLeft r
      → JustWhere (r.answer.number ≡ 21) (ShortGuards buffer lengths proof output sizes) r.answer (λ s. answer 21 file_lent (length (guards_file s.K s.Is)))

-- A stage's file with notes, which leave it short enough for its edition.
pub record NotedStage (F F' : List ℕ) : Type 0 where
  pub noted : Noted F F'
  pub kept : Kept (bundle_limit F) F F'

-- The places of the stages, the first of these being this file, and those of a run's files. (With file 4 it is no place in a file, and stays.)
unfoldable pub stage_places : (first : ℕ) {Fs Fs' : List (List ℕ)} → Each NotedStage Fs Fs' → (file place : ℕ) → ℕ
stage_places first nil file p = p
stage_places first (cons n ns) file p = cond (eqb file first) (moved_by n.noted p) (stage_places (suc first) ns file p)

unfoldable pub run_places : {Fs Fs' : List (List ℕ)} {proof proof' : List ℕ} → Each NotedStage Fs Fs' → Noted proof proof' → (file place : ℕ) → ℕ
run_places ns nP file p = cond (eqb file file_proof) (moved_by nP p) (stage_places first_stage ns file p)

-- Whole notes between whole fields, in the stages and in the proof, change no number, file, row, step or branch, no count and no byte of the outputs, where no file gets too long by them, and the place stands where they move it: as of check.
pub record RunNotes : Type 0 where
  pub passed_over : (Fs Fs' : List (List ℕ)) (proof proof' output sizes left left' sizesLeft sizesLeft' : List ℕ) (r r' : WriteResult) (ns : Each NotedStage Fs Fs') (nP : Noted proof proof') → Kept edition1.proof_bytes proof proof'
      → WritesGuards (joined Fs) (map length Fs) proof output sizes left sizesLeft r → WritesGuards (joined Fs') (map length Fs') proof' output sizes left' sizesLeft' r'
      → (r'.answer ≡ moved_answer (run_places ns nP) r.answer) × (r'.count ≡ r.count) × (left' ≡ left) × (sizesLeft' ≡ sizesLeft)
