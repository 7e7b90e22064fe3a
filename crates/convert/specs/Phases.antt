-- What the functions that turn a file know on the way. Assumes nothing.
use Rattle.std.specs.Prelude.{◌≡◌, false, List, ℕ, ◌≤◌, length, Ok, Err}
use Rattle.std.specs.declared.result.Result as code
use Rattle.std.proofs.Math.Option.{none}
use Rattle.forms.specs.Edition.{edition, newest_edition}
use Rattle.answers.specs.declared.refusals.Fault.{Fault}
use Rattle.answers.specs.Refusals.{number_of, told}
use Rattle.answers.specs.Answers.{answer, file_a, file_proof, refused, accepted}
use Rattle.fields.specs.declared.FileKind.{FileKind}
use Rattle.fields.specs.Fields.{fields}
use Rattle.fields.specs.Header.{header}
use Rattle.fields.specs.Places.{fields_at}
use Rattle.bundle_scan.specs.declared.Body.{Body}
use Rattle.bundle_scan.specs.declared.Scanned.{Scanned}
use Rattle.bundle_scan.specs.Scan.{IsBundle}
use Rattle.conversion.specs.Turning.{asked, other_edition, each_field, lines_fit, lines_turned, fields_turned, entries_read, bundle_turned, proof_turned}
use Rattle.conversion_bundle.specs.Turned.{numbers_held}
use Rattle.convert.specs.declared.Turnable.{Turnable}

pub record HasOther (kind : FileKind) (to : ℕ) (s : List ℕ) (r : code.Result (Unit {0}) Fault) : Type 0 where
  pub is : (file : ℕ) → other_edition kind file to (fields s) ≡ told file (λ x. x) r

-- ---- a bundle on its way
-- It is to be gone over.
pub record ToTurn (to : ℕ) (file : List ℕ) : Type 0 where
  pub asks : asked to ≡ accepted tt
  pub short : length file ≤ 8_192
  pub from : other_edition FileKind.Bundle file_a to (fields file) ≡ accepted tt

-- It is a bundle without fault.
pub record ToHold (to : ℕ) (file : List ℕ) (K : ℕ) (body : Body) : Type 0 where
  pub turn : ToTurn to file
  pub is : IsBundle 0 file K body

-- And the edition asked for holds each number.
pub record ToWrite (to : ℕ) (file : List ℕ) (K : ℕ) (body : Body) : Type 0 where
  pub hold : ToHold to file K body
  pub fits : numbers_held to K (fields_at file body.at) ≡ accepted tt

-- All of that, or the first fault.
abbrev pub BundleTurnable : (to : ℕ) (file : List ℕ) → code.Result Scanned Fault → Type 0
BundleTurnable to file (Ok s) = ToWrite to file s.k s.body
BundleTurnable to file (Err f) = bundle_turned to file ≡ refused (answer (number_of f.refusal) file_a f.place)

-- ---- a proof on its way: its header is read
pub record ToEnter (to : ℕ) (file : List ℕ) (at K e : ℕ) : Type 0 where
  pub asks : asked to ≡ accepted tt
  pub short : length file ≤ 65_536
  pub from : other_edition FileKind.Proof file_proof to (fields file) ≡ accepted tt
  pub heads : header FileKind.Proof file_proof newest_edition none (fields file) ≡ accepted (record { number = e; K = K; rest = fields_at file at })

-- Its fields are entries, which turned have so many bytes together.
pub record ToFit (to : ℕ) (file : List ℕ) (at K e turned : ℕ) : Type 0 where
  pub enter : ToEnter to file at K e
  pub read : entries_read (edition e) K false (fields_at file at) ≡ accepted tt
  pub size : turned ≡ length (fields_turned (lines_turned (edition e) (edition to)) (fields_at file at))
  pub most : turned ≤ 131_072

-- And the edition asked for holds each line number.
pub record ToPut (to : ℕ) (file : List ℕ) (at K e turned : ℕ) : Type 0 where
  pub entered : ToFit to file at K e turned
  pub fits : each_field 10 file_proof (lines_fit (edition e) (edition to)) (fields_at file at) ≡ accepted tt

-- All of that, or the first fault.
abbrev pub ProofTurnable : (to : ℕ) (file : List ℕ) → code.Result Turnable Fault → Type 0
ProofTurnable to file (Ok t) = ToPut to file t.head.next t.head.k t.head.edition t.size
ProofTurnable to file (Err f) = proof_turned to file ≡ refused (answer (number_of f.refusal) file_proof f.place)
