-- A check that is refused on the way, over plain values. Assumes nothing.
use mathlib.Core.Path.{◌≡◌, sym, ap, ◌∙◌}
use mathlib.Core.List.{List}
use mathlib.Core.Option.{Option, some}
use Prim.Native.Nat.{ℕ, ◌≤◌}
use Rattle.std.specs.declared.result.Result as code
use Rattle.std.specs.Prelude.{Ok}
use Rattle.answers.specs.Answers.{answer, file_proof, refused, accepted, ◌>>=◌, written}
use Rattle.answers.specs.declared.refusals.Fault.{Fault}
use Rattle.answers.specs.declared.WriteResult.{WriteResult}
use Rattle.fields.specs.declared.FileKind.{FileKind}
use Rattle.fields.specs.declared.header.Headed.{Headed}
use Rattle.fields.specs.Fields.{fields}
use Rattle.fields.specs.Header.{header}
use Rattle.fields.specs.Places.{header_of, IsHeader}
use Rattle.fields.proofs.HeaderLaid.{header-gives}
use Rattle.fields.proofs.Headers.{given-some}
use Rattle.proof.proofs.Agree.{agreed}
use Rattle.proof.specs.Check.{interpolant, check_by, check}
use Rattle.proof.specs.Promises.{Checks}
use Rattle.check_output.proofs.Delivering.{unwritten}

pub checks-refused : {A B P out : List ℕ} {number file place : ℕ} {r : WriteResult} → interpolant 2 A B P ≡ refused (answer number file place) → r ≡ unwritten number file place
    → Checks A B P out out r
unfolding check check_by written ◌>>=◌
checks-refused e q = record { is = rw (e, q) }

-- The proof's header has the K that it must have.
pub header-k : {P : List ℕ} {K : ℕ} {r : code.Result Headed Fault} → 1 ≤ K → IsHeader FileKind.Proof 2 K P r → {x : Headed} → r ≡ Ok x → x.k ≡ K
header-k {P} {K} low h {x} e =
    let d : header FileKind.Proof file_proof 2 (some K) (fields P) ≡ accepted (header_of P x)
    = ap (λ (o : Option ℕ). header FileKind.Proof file_proof 2 o (fields P)) (sym (given-some K low)) ∙ h.is file_proof ∙ rw e in
    agreed K x.k ((header-gives FileKind.Proof file_proof 2 (some K) (fields P)).gives _ d).agree
