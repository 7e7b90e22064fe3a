-- What is printed of stages 1 and 2. Assumes nothing.
use Rattle.std.specs.Prelude.{ℕ, List, [], ◌∷◌, ◌++◌}
use Prim.Native.String.{String}
use Rattle.proof.specs.Stages.{K3, A1, B1, P1}

-- three files, and what is printed of them
pub record Shown : Type 0 where
  pub A : List ℕ
  pub B : List ℕ
  pub proof : List ℕ
  pub text : String

abbrev pub stage_1 : Shown
stage_1 = record { A = K3 ++ A1; B = K3 ++ B1; proof = K3 ++ P1; text = "accepted 31\n01000101020001033500140000000200000000000000010000000000000000\n" }

-- the same with stride 3
abbrev pub stage_2 : Shown
stage_2 = record {
  A = K3 ++ A1;
  B = K3 ++ B1;
  proof = K3 ++ (0x11 ∷ 0x00 ∷ 0x04 ∷ 0x01 ∷ 0x00 ∷ 0x00 ∷ 0x01 ∷ 0x15 ∷ 0x00 ∷ 0x03 ∷ 0x02 ∷ 0x00 ∷ 0x03 ∷ []);
  text = "refused 15 file 3 at 15\n";
}
