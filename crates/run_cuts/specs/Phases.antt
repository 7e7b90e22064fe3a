-- The stages of the operation: what each asks of those before it. Assumes nothing.
use Rattle.std.specs.Prelude.{◌≡◌, true, List, ℕ, ◌≤◌, length, Ok, Err}
use Rattle.std.specs.declared.result.Result as code
use Rattle.std.proofs.Math.Option.{some}
use Rattle.forms.specs.Edition.{edition, edition1, newest_edition}
use Rattle.answers.specs.declared.Answer.{Answer}
use Rattle.answers.specs.declared.WriteResult.{WriteResult}
use Rattle.answers.specs.Answers.{acceptance, file_proof, accepted}
use Rattle.fields.specs.declared.FileKind.{FileKind}
use Rattle.fields.specs.Fields.{fields}
use Rattle.fields.specs.Header.{header}
use Rattle.fields.specs.Places.{fields_at}
use Rattle.run.specs.Run.{first_stage, parts, parted as partedBy, stages_short, check_run}
use Rattle.run.specs.Promises.{WritesGuards}
use Rattle.run_stages.specs.Staged.{Staged}
use Rattle.run_cuts.specs.Cuts.{stages_of}
use Rattle.run_cuts.specs.All.{DerivesAll}
use Rattle.run_cuts.specs.declared.begun.Run as begun
use Rattle.run_cuts.specs.declared.all.Derived.{Derived}

-- All before the proof's header is passed: the stages are read.
pub record StagesPassed (buffer lengths P : List ℕ) (K count : ℕ) : Type 0 where
  pub parted : partedBy lengths buffer ≡ true
  pub short : stages_short newest_edition first_stage (parts lengths buffer) ≡ accepted tt
  pub proof_short : length P ≤ (edition newest_edition).proof_bytes
  pub staged : Staged buffer lengths K count
  pub low : 1 ≤ K
  pub high : K ≤ edition1.constants

-- The proof's header is read: its edition is e, and its fields go on at a place.
pub record ProofBegun (P : List ℕ) (K e at : ℕ) : Type 0 where
  pub is : header FileKind.Proof file_proof newest_edition (some K) (fields P) ≡ accepted (record { number = e; K = K; rest = fields_at P at })

abbrev pub Passed : begun.Run → Type 0
Passed r = StagesPassed r.buffer.now r.lengths.now r.proof.now r.k r.count

abbrev pub Begun : begun.Run → Type 0
Begun r = ProofBegun r.proof.now r.k r.edition r.at

-- The run is accepted: the bytes of all guards, and whether none of them is too long.
pub record Totals (r : begun.Run) (d : Derived) : Type 0 where
  pub derives : DerivesAll (check_run newest_edition r.k (stages_of r) (fields r.proof.now)) r.k d.total d.fit

-- ---- the answer
abbrev pub written : code.Result ℕ Answer → WriteResult
written (Err a) = record { answer = a; count = 0 }
written (Ok n) = record { answer = acceptance; count = n }

-- Refused, or so many bytes of guards written.
abbrev pub Guarded : (buffer lengths proof out sizes out' sizes' : List ℕ) → code.Result ℕ Answer → Type 0
Guarded buffer lengths proof out sizes out' sizes' r = WritesGuards buffer lengths proof out sizes out' sizes' (written r)
