-- Between the editions. docs/FORMAT.md, "Turning into the other edition". Of what the functions turn_bundle, turn_proof and check ensure. Assumes nothing.
use Rattle.std.specs.Prelude.{◌≡◌, ◌⊎◌, ◌↔◌, false, List, [], ◌∷◌, ◌++◌, ℕ, suc, ◌+◌, ◌≤◌, ◌<◌, length, take, ℤ}
use Rattle.std.proofs.Math.Option.{some}
use Rattle.std.specs.Int.Signed.{mag}
use Rattle.forms.specs.Edition.{edition2, newest_edition}
use Rattle.forms.specs.Forms.{All, Constraint, Formula}
use Rattle.calculus.specs.Rules.{Entry}
use Rattle.answers.specs.declared.WriteResult.{WriteResult}
use Rattle.answers.specs.Answers.{answer}
use Rattle.number_bytes.specs.Numbers.{Bytes, flat}
use Rattle.fields.specs.Fields.{Field, nth, Item, Framed, file_of, without_notes, fields}
use Rattle.bundle.specs.Layout.{BundleFile, Says}
use Rattle.bundle_read.specs.declared.ReadResult.{ReadResult}
use Rattle.bundle_read.specs.Promises.{Reads}
use Rattle.proof.specs.Layout.{ProofFile, Yields}
use Rattle.proof.specs.Tree.{starts_at}
use Rattle.proof.specs.Promises.{Checks}
use Rattle.conversion.specs.Turning.{other, lines_named}
use Rattle.conversion.specs.Turnable.{BundleTurnable, InTurn, ProofTurnable}
use Rattle.conversion.specs.Widest.{widest}
use Rattle.conversion.specs.Promises.{TurnsBundle, TurnsProof}
use Rattle.guarantee.specs.Acceptance.{WrittenAs}
use Rattle.guarantee.specs.RefusedIff.{JustWhere}
use Rattle.guarantee.specs.LaidOut.{WholeFields}
use Rattle.guarantee.specs.Soundness.{Meaning, Faithful}
use Rattle.guarantee.specs.TooManyLines.{branch_lines, TooManyLines}

-- ---- a choice of files
-- A bundle as it is, or what turning it left.
pub data BundleChoice (A : List ℕ) : List ℕ → Type 0 where
  as_it_is : BundleChoice A A
  turned : (to : ℕ) (output left : List ℕ) (r : WriteResult) → TurnsBundle to A output left r → r.answer.number ≡ 0 → BundleChoice A (take r.count left)

-- A proof as it is, turned up or turned down.
pub data Direction : Type 0 where
  kept up down : Direction

pub data ProofChoice (P : List ℕ) : Direction → List ℕ → Type 0 where
  as_it_is : ProofChoice P kept P
  turned_up : (output left : List ℕ) (r : WriteResult) → TurnsProof 2 P output left r → r.answer.number ≡ 0 → ProofChoice P up (take r.count left)
  turned_down : (output left : List ℕ) (r : WriteResult) → TurnsProof 1 P output left r → r.answer.number ≡ 0 → ProofChoice P down (take r.count left)

pub record ConversionPromised : Type 0 where
  -- ---- accepted just where the file is one to be turned (of a proof: a file of bytes, as a slice is) and its result fits; then these bytes are written. 21, and 1 with file 4 (with 3 it is for the proof's file), come just where the file is one to be turned and its result does not fit, or is too long, with the bytes needed
  pub bundle_iff : (to : ℕ) (file output left : List ℕ) (r : WriteResult) → TurnsBundle to file output left r → r.answer.number ≡ 0 ↔ ((bytes : List ℕ) × BundleTurnable to file bytes × (length bytes ≤ length output))
  pub bundle_turns : (to : ℕ) (file output left : List ℕ) (r : WriteResult) → TurnsBundle to file output left r → (bytes : List ℕ) → BundleTurnable to file bytes → length bytes ≤ length output
      → WrittenAs bytes output left r.answer r.count
  pub bundle_21 : (to : ℕ) (file output left : List ℕ) (r : WriteResult) → TurnsBundle to file output left r
      → JustWhere (r.answer.number ≡ 21) ((bytes : List ℕ) × BundleTurnable to file bytes × (length output < length bytes)) r.answer (λ w. answer 21 4 (length w.0))
  pub proof_iff : (to : ℕ) (file output left : List ℕ) (r : WriteResult) → Bytes file → TurnsProof to file output left r
      → r.answer.number ≡ 0 ↔ ((bytes : List ℕ) × ProofTurnable to file bytes × (length bytes ≤ 65_536) × (length bytes ≤ length output))
  pub proof_turns : (to : ℕ) (file output left : List ℕ) (r : WriteResult) → Bytes file → TurnsProof to file output left r → (bytes : List ℕ) → ProofTurnable to file bytes → length bytes ≤ 65_536
      → length bytes ≤ length output → WrittenAs bytes output left r.answer r.count
  pub proof_1 : (to : ℕ) (file output left : List ℕ) (r : WriteResult) → Bytes file → TurnsProof to file output left r
      → JustWhere ((r.answer.number ≡ 1) × (r.answer.file ≡ 4)) ((bytes : List ℕ) × ProofTurnable to file bytes × (65_536 < length bytes)) r.answer (λ w. answer 1 4 (length w.0))
  pub proof_21 : (to : ℕ) (file output left : List ℕ) (r : WriteResult) → Bytes file → TurnsProof to file output left r
      → JustWhere (r.answer.number ≡ 21) ((bytes : List ℕ) × ProofTurnable to file bytes × (length bytes ≤ 65_536) × (length output < length bytes)) r.answer (λ w. answer 21 4 (length w.0))
  -- Turning down, 13 and 10 come for what two bytes, or one, cannot hold, at the first such field: behind the header's two fields and those of `before`
  pub bundle_13 : (file output left : List ℕ) (r : WriteResult) → TurnsBundle 1 file output left r → (K : ℕ) (cs : List Constraint) → BundleFile newest_edition file 2 K cs
      → (before : List Constraint) (c : Constraint) (after : List Constraint) → cs ≡ before ++ (c ∷ after) → All (λ c. All (λ z. mag z ≤ 32_767) (flat c.form)) before → ¬ All (λ z. mag z ≤ 32_767) (flat c.form)
      → (f : Field) → nth (suc (suc (length before))) (fields file) ≡ some f → r.answer ≡ answer 13 1 f.at
  pub proof_10 : (file output left : List ℕ) (r : WriteResult) → TurnsProof 1 file output left r → (K : ℕ) (es : List Entry) (p : ProofFile newest_edition file 2 K es) → InTurn false es
      → (before : List Item) (i : Item) (after : List Item) → p.body ≡ before ++ (i ∷ after) → All (λ i. All (λ n. n ≤ 255) (lines_named edition2 i)) before → ¬ All (λ n. n ≤ 255) (lines_named edition2 i)
      → (f : Field) → nth (suc (suc (length before))) (fields file) ≡ some f → r.answer ≡ answer 10 3 f.at
  -- ---- turned and turned back: the same bytes, notes removed, in both directions, for every file that is turned at all (a file of bytes, as a slice is); no second turn into an output that is long enough is refused
  pub bundle_and_back : (to : ℕ) (F : List Item) → All Framed F → Bytes (file_of F) → (output left : List ℕ) (r : WriteResult) → TurnsBundle to (file_of F) output left r → r.answer.number ≡ 0
      → (output₂ left₂ : List ℕ) (r₂ : WriteResult) → length (file_of (without_notes F)) ≤ length output₂ → TurnsBundle (other to) (take r.count left) output₂ left₂ r₂
      → WrittenAs (file_of (without_notes F)) output₂ left₂ r₂.answer r₂.count
  pub proof_and_back : (to : ℕ) (F : List Item) → All Framed F → Bytes (file_of F) → (output left : List ℕ) (r : WriteResult) → TurnsProof to (file_of F) output left r → r.answer.number ≡ 0
      → (output₂ left₂ : List ℕ) (r₂ : WriteResult) → length (file_of (without_notes F)) ≤ length output₂ → TurnsProof (other to) (take r.count left) output₂ left₂ r₂
      → WrittenAs (file_of (without_notes F)) output₂ left₂ r₂.answer r₂.count
  -- and every file of bytes that is turned is the file of such fields
  pub bundle_listed : (to : ℕ) (file output left : List ℕ) (r : WriteResult) → Bytes file → TurnsBundle to file output left r → r.answer.number ≡ 0 → WholeFields file
  pub proof_listed : (to : ℕ) (file output left : List ℕ) (r : WriteResult) → Bytes file → TurnsProof to file output left r → r.answer.number ≡ 0 → WholeFields file
  -- ---- the turned bundle has the edition asked for and states what the bundle stated: K, and the constraints in order
  pub states_same : (to : ℕ) (A output left : List ℕ) (r : WriteResult) → TurnsBundle to A output left r → r.answer.number ≡ 0
      → (n K : ℕ) (cs : List Constraint) → BundleFile newest_edition A n K cs → BundleFile newest_edition (take r.count left) to K cs
  -- and a turned proof states the same entries
  pub enters_same : (to : ℕ) (P output left : List ℕ) (r : WriteResult) → TurnsProof to P output left r → r.answer.number ≡ 0
      → (n K : ℕ) (es : List Entry) → ProofFile newest_edition P n K es → ProofFile newest_edition (take r.count left) to K es
  -- so whatever any writers meant by their fields, what is stated by the turned file is what was stated by the file
  pub means_same : (to : ℕ) (F G : List Item) → All Framed F → All Framed G → (M N : Meaning) → Faithful M → Faithful N → (output left : List ℕ) (r : WriteResult)
      → TurnsBundle to (file_of F) output left r → r.answer.number ≡ 0 → take r.count left ≡ file_of G → N G ≡ M F
  -- ---- check, on any choice of the files of a proof: the same answer, count and bytes with the same output,
  pub checked_same : (A B P : List ℕ) (K : ℕ) (I : Formula) (y : Yields newest_edition A B P K I) (A₂ B₂ P₂ : List ℕ) (d : Direction) → BundleChoice A A₂ → BundleChoice B B₂ → ProofChoice P d P₂
      → (d ≡ down → widest y.proves.proof ≤ 128) → (output left left₂ : List ℕ) (r r₂ : WriteResult) → Checks A B P output left r → Checks A₂ B₂ P₂ output left₂ r₂
      → (r₂ ≡ r) × (left₂ ≡ left)
  -- unless the proof is turned down and a branch has over 128 lines: 16 in the proof, at the row that would make the first 129th line of a branch, and the output as it was
  pub checked_16 : (A B P : List ℕ) (K : ℕ) (I : Formula) (y : Yields newest_edition A B P K I) (A₂ B₂ P₂ : List ℕ) → BundleChoice A A₂ → BundleChoice B B₂ → ProofChoice P down P₂
      → 128 < widest y.proves.proof → (output left : List ℕ) (r : WriteResult) → Checks A₂ B₂ P₂ output left r
      → (r.answer.number ≡ 16) × (r.answer.file ≡ 3) × TooManyLines 128 (branch_lines (length y.a + length y.b) []) (fields P₂) r.answer.place × (r.count ≡ 0) × (left ≡ output)
  -- ---- refusals (that none writes is in `Refusals`, that none tells a row, step or branch in `InTree`)
  -- 5 first, for an edition asked for that is not 1 or 2, whatever the file is
  pub asked_bundle : (to : ℕ) (file output left : List ℕ) (r : WriteResult) → TurnsBundle to file output left r → ¬ (to ≡ 1) → ¬ (to ≡ 2) → r.answer ≡ answer 5 4 0
  pub asked_proof : (to : ℕ) (file output left : List ℕ) (r : WriteResult) → TurnsProof to file output left r → ¬ (to ≡ 1) → ¬ (to ≡ 2) → r.answer ≡ answer 5 4 0
  -- then 1 for a file that is too long for every edition
  pub long_bundle : (to : ℕ) (file output left : List ℕ) (r : WriteResult) → TurnsBundle to file output left r → (to ≡ 1) ⊎ (to ≡ 2) → 8_192 < length file → r.answer ≡ answer 1 1 0
  pub long_proof : (to : ℕ) (file output left : List ℕ) (r : WriteResult) → TurnsProof to file output left r → (to ≡ 1) ⊎ (to ≡ 2) → 65_536 < length file → r.answer ≡ answer 1 3 0
  -- 5 at its first field, notes aside, for a file that already has the edition asked for, before the late 1
  pub there_bundle : (to : ℕ) (file output left : List ℕ) (r : WriteResult) → TurnsBundle to file output left r → (to ≡ 1) ⊎ (to ≡ 2) → length file ≤ 8_192 → Says file to
      → r.answer ≡ answer 5 1 (starts_at (fields file))
  pub there_proof : (to : ℕ) (file output left : List ℕ) (r : WriteResult) → TurnsProof to file output left r → (to ≡ 1) ⊎ (to ≡ 2) → length file ≤ 65_536 → Says file to
      → r.answer ≡ answer 5 3 (starts_at (fields file))
  -- every other refusal of reading for the file is that of turning it,
  pub as_reading : (file kinds : List ℕ) (numbers : List ℤ) (kinds' : List ℕ) (numbers' : List ℤ) (r : ReadResult) → Reads file kinds numbers kinds' numbers' r → r.answer.file ≡ 1
      → (to : ℕ) → (to ≡ 1) ⊎ (to ≡ 2) → ¬ (Says file to) → (output left : List ℕ) (r₂ : WriteResult) → TurnsBundle to file output left r₂ → r₂.answer ≡ r.answer
  -- and every refusal of check in a proof by a number up to 7, whatever A and B are, is that of turning it: number, file and place
  pub as_check : (A B P output left : List ℕ) (r : WriteResult) → Checks A B P output left r → r.answer.file ≡ 3 → r.answer.number ≤ 7
      → (to : ℕ) → (to ≡ 1) ⊎ (to ≡ 2) → ¬ (Says P to) → (output₂ left₂ : List ℕ) (r₂ : WriteResult) → TurnsProof to P output₂ left₂ r₂ → r₂.answer ≡ answer r.answer.number 3 r.answer.place
  -- 1 for a result that is too long never comes for a bundle: where 1 comes, the file is too long for every edition, or, turned up, for edition 1, which it says
  pub never_too_long : (to : ℕ) (file output left : List ℕ) (r : WriteResult) → TurnsBundle to file output left r → r.answer.number ≡ 1
      → (r.answer ≡ answer 1 1 0) × ((8_192 < length file) ⊎ ((to ≡ 2) × Says file 1 × (4_096 < length file)))
  -- and for a proof only turning up
  pub never_too_long_down : (file output left : List ℕ) (r : WriteResult) → TurnsProof 1 file output left r → r.answer.number ≡ 1 → r.answer.file ≡ 3
