-- All short proofs: a call gives the next one, and repeated calls give every one. docs/FORMAT.md, "Short proofs". Of what the function ensures. Assumes nothing.
-- Which files they are is `ShortProof`, by check's acceptance; their order is `Precedes`; what follows a table is `NextIs`.
use Rattle.std.specs.Prelude.{◌≡◌, ◌↔◌, ◌⊎◌, List, [], ◌∷◌, ℕ, ◌≤◌, ◌<◌, length, take}
use Rattle.forms.specs.Edition.{edition1}
use Rattle.forms.specs.Forms.{All}
use Rattle.calculus.specs.Rules.{Row, row}
use Rattle.answers.specs.declared.WriteResult.{WriteResult}
use Rattle.answers.specs.Answers.{answer, refused, accepted}
use Rattle.proof.specs.Layout.{Enters}
use Rattle.proof.specs.Promises.{Checks}
use Rattle.enumeration.specs.ShortProofs.{PermittedRow, NoStrengthen, row_item, proof_file, ShortProof}
use Rattle.enumeration.specs.Enumerates.{Enumerable, Fifth, Follows, Enumerates}
use Rattle.enumeration.specs.Promises.{WritesNext}
use Rattle.guarantee.specs.Acceptance.{WrittenAs}
use Rattle.guarantee.specs.RefusedIff.{JustWhere}

-- The short proof that follows the table given, and that it has more bytes than the output.
pub record NoRoom (A B given output : List ℕ) : Type 0 where
  pub file : List ℕ
  pub follows : Follows A B given (accepted file)
  pub short : length output < length file

-- What repeated calls write, from the header alone on: each is lent some output, and what an accepted one writes is given to the next.
pub data Called (A B : List ℕ) (K : ℕ) : List ℕ → Type 0 where
  start : Called A B K (proof_file K [])
  further : {given : List ℕ} → Called A B K given → (output left : List ℕ) (r : WriteResult) → WritesNext A B given output left r → r.answer.number ≡ 0 → Called A B K (take r.count left)

pub record ShortProofsEnumerated : Type 0 where
  -- A and B of at most four constraints together have a sequence of all their short proofs and of no other files, in order and each once
  pub enumerated : (A B : List ℕ) (K : ℕ) → Enumerable A B K → (rss : List (List Row)) × Enumerates A B K rss
  -- the calls write these, and no other files
  pub called_iff : (A B : List ℕ) (K : ℕ) → Enumerable A B K → (file : List ℕ) → Called A B K file ↔ ((file ≡ proof_file K []) ⊎ ShortProof A B file)
  -- a call is accepted just where a short proof follows the table given and the output has room for it; that is what it writes
  pub accepted_iff : {A B given output left : List ℕ} {r : WriteResult} → WritesNext A B given output left r
      → r.answer.number ≡ 0 ↔ ((file : List ℕ) × Follows A B given (accepted file) × (length file ≤ length output))
  pub writes : {A B given output left : List ℕ} {r : WriteResult} → WritesNext A B given output left r → (file : List ℕ) → Follows A B given (accepted file) → length file ≤ length output
      → WrittenAs file output left r.answer r.count
  -- 8 with file 4 (with 1 or 2 it is check's) just where there is a fifth constraint, 32 where the table is none of them, 33 where none follows it, 21 where the output is too short for the one that does
  pub next_8 : {A B given output left : List ℕ} {r : WriteResult} → WritesNext A B given output left r → JustWhere ((r.answer.number ≡ 8) × (r.answer.file ≡ 4)) (Fifth A B) r.answer (λ _. answer 8 4 0)
  pub next_32 : {A B given output left : List ℕ} {r : WriteResult} → WritesNext A B given output left r → JustWhere (r.answer.number ≡ 32) (Follows A B given (refused (answer 32 4 0))) r.answer (λ _. answer 32 4 0)
  pub next_33 : {A B given output left : List ℕ} {r : WriteResult} → WritesNext A B given output left r → JustWhere (r.answer.number ≡ 33) (Follows A B given (refused (answer 33 4 0))) r.answer (λ _. answer 33 4 0)
  pub next_21 : {A B given output left : List ℕ} {r : WriteResult} → WritesNext A B given output left r → JustWhere (r.answer.number ≡ 21) (NoRoom A B given output) r.answer (λ n. answer 21 4 (length n.file))
  -- whatever check refuses of A or B, with any proof of at most 65,536 bytes and whatever output it is lent, is refused so, whatever table is given; and nothing else is refused with file 1 or 2
  pub as_check : {A B given output left : List ℕ} {r : WriteResult} → WritesNext A B given output left r → {lent proof checked : List ℕ} {q : WriteResult} → Checks A B proof lent checked q → length proof ≤ 65_536
      → ((q.answer.file ≡ 1) ⊎ (q.answer.file ≡ 2) → r.answer ≡ q.answer) × ((r.answer.file ≡ 1) ⊎ (r.answer.file ≡ 2) → r.answer ≡ q.answer)
  -- no strengthen occurs in a short proof: it would need three closes
  pub no_strengthen : (A B file : List ℕ) (s : ShortProof A B file) → All NoStrengthen s.rows
  -- the header alone is these eight bytes, and a row's field is read as that row
  pub header : (K : ℕ) → proof_file K [] ≡ 0x01 ∷ 0 ∷ 1 ∷ 1 ∷ 0x02 ∷ 0 ∷ 1 ∷ K ∷ []
  pub rows_read : (K : ℕ) (r : Row) → PermittedRow r → Enters edition1 K (row_item r) (row r)
