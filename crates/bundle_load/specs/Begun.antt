-- A check whose bundles and header are read. Assumes nothing.
use Rattle.std.specs.Prelude.{◌≡◌, List, ℕ, ◌≤◌, length}
use Rattle.std.proofs.Math.Option.{some}
use Rattle.forms.specs.Edition.{edition, newest_edition}
use Rattle.answers.specs.Answers.{file_proof, accepted}
use Rattle.fields.specs.declared.FileKind.{FileKind}
use Rattle.fields.specs.Fields.{fields}
use Rattle.fields.specs.Header.{header}
use Rattle.fields.specs.Places.{fields_at}
use Rattle.bundle_scan.specs.declared.Body.{Body}
use Rattle.bundle_load.specs.Both.{Both}

-- No file is too long for every edition.
pub record WithinLimits (A B P : List ℕ) : Type 0 where
  pub a : length A ≤ (edition newest_edition).bundle_bytes
  pub b : length B ≤ (edition newest_edition).bundle_bytes
  pub p : length P ≤ (edition newest_edition).proof_bytes

-- The proof's header is read too: its edition is e, and what follows it starts at a place.
pub record Begun (A B : List ℕ) (first second : Body) (P : List ℕ) (e K at : ℕ) : Type 0 where
  pub short : WithinLimits A B P
  pub both : Both A B first second K
  pub header_is : header FileKind.Proof file_proof newest_edition (some K) (fields P) ≡ accepted (record { number = e; K = K; rest = fields_at P at })
