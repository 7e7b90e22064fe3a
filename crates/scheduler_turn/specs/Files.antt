-- What a turn finds, as the code has it: the seat, and the files of its job in the buffer, where its parts lie within. Assumes nothing.
use Rattle.std.specs.Prelude.{◌≡◌, true, false, Option, Some, None, List, ℕ, length, MatchOption}
use Rattle.std.proofs.Math.Option as maybe
use Rattle.std.specs.Borrow.{Bor}
use Rattle.scheduler.specs.declared.Part.{Part}
use Rattle.scheduler.specs.declared.Job.{Job}
use Rattle.scheduler.specs.Scheduler.{is_within, part, parts_within}
use Rattle.scheduler_turn.specs.declared.Files.{Files}

-- The seat that a look finds, as the code's option; where it finds none, none.
abbrev pub seat_found : maybe.Option ℕ → Option ℕ
seat_found maybe.none = None
seat_found (maybe.some seat) = Some seat

-- A part, just where it lies within.
abbrev pub PartOf : (buffer : List ℕ) → Part → Option (Bor (List ℕ)) → Type 0
PartOf buffer p r = MatchOption r (is_within (length buffer) p ≡ false) (λ x. (is_within (length buffer) p ≡ true) × (x.now ≡ part buffer p))

-- The three parts of a job, just where all lie within.
pub record Within (buffer : List ℕ) (job : Job) (f : Files) : Type 0 where
  pub all : parts_within (length buffer) job ≡ true
  pub a : f.a.now ≡ part buffer job.a
  pub b : f.b.now ≡ part buffer job.b
  pub proof : f.proof.now ≡ part buffer job.proof

abbrev pub FilesOf : (buffer : List ℕ) → Job → Option Files → Type 0
FilesOf buffer job r = MatchOption r (parts_within (length buffer) job ≡ false) (λ f. Within buffer job f)
