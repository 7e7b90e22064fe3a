-- What follows the root, and the formula's file in the output. Assumes nothing.
use Rattle.std.specs.Prelude.{◌≡◌, List, ◌++◌, ℕ, ◌+◌, ◌≤◌, leb, length, take}
use Rattle.forms.specs.Edition.{edition1}
use Rattle.answers.specs.Answers.{answer, file_proof, file_lent, Result, accepted, ◌>>◌, need, written_of, written}
use Rattle.answers.specs.declared.WriteResult.{WriteResult}
use Rattle.fields.specs.declared.FileKind.{FileKind}
use Rattle.fields.specs.Fields.{Fields}
use Rattle.fields.specs.Header.{finished, header_bytes}
use Rattle.fields.specs.Places.{fields_at}
use Rattle.formula_write.specs.Writing.{scratch_limit}

-- The bytes of a formula's file, which may not be too long: 1.
abbrev pub file_within : List ℕ → Result (List ℕ)
file_within bytes = need (answer 1 file_lent (length bytes)) (leb (length bytes) edition1.formula_bytes) >> accepted bytes

-- What may follow the root, and then the formula's bytes behind the two header fields.
abbrev pub finishing : (K : ℕ) → Fields → List ℕ → Result (List ℕ)
finishing K fs bytes = finished FileKind.Proof file_proof fs >> file_within (header_bytes 1 K ++ bytes)

-- The o bytes of a formula, which stand in the scratch if its file is not too long.
pub record ScratchHolds (bytes : List ℕ) (o : ℕ) (scratch : List ℕ) : Type 0 where
  pub o_is : o ≡ length bytes
  pub stored : o + 8 ≤ edition1.formula_bytes → take o scratch ≡ bytes

-- The answer, the count and the output, from each of these places on.
pub record Delivers (K : ℕ) (scratch : List ℕ) (o : ℕ) (out out' : List ℕ) (r : WriteResult) : Type 0 where
  pub is : (bytes : List ℕ) → ScratchHolds bytes o scratch → written_of r out' ≡ written (file_within (header_bytes 1 K ++ bytes)) out

pub record Finishes (K : ℕ) (P : List ℕ) (at : ℕ) (scratch : List ℕ) (o : ℕ) (out out' : List ℕ) (r : WriteResult) : Type 0 where
  pub is : (bytes : List ℕ) → ScratchHolds bytes o scratch → written_of r out' ≡ written (finishing K (fields_at P at) bytes) out

-- The bytes stand in the scratch, where their file is not too long.
pub record InScratch (o : ℕ) (scratch : List ℕ) : Type 0 where
  pub few : o ≤ scratch_limit
  pub room : o + 8 ≤ edition1.formula_bytes → o ≤ length scratch
