-- The end of the check, over plain values: what follows the root, and the output. Assumes nothing.
use mathlib.Core.Path.{◌≡◌, sym, ap, ◌∙◌}
use mathlib.Core.Bool.{Bool}
use mathlib.Core.List.{List, ◌++◌}
use Prim.Native.Nat.{ℕ, ◌+◌, ◌≤◌, ◌<◌}
use native.Mathlib.Omega.{arith}
use lib.ListN.{length, take, length-append}
use lib.Seq.{sets, sets-eq, length-take-le}
use borrow.Author.Tests.{le-leb, lt-leb}
use Rattle.answers.specs.declared.Answer.{Answer}
use Rattle.answers.specs.Refusals.{number_of}
use Rattle.answers.specs.Answers.{answer, acceptance, refused, accepted, ◌>>◌, need, Written, over, fit, written}
use Rattle.answers.specs.declared.WriteResult.{WriteResult}
use Rattle.fields.specs.declared.FileKind.{FileKind}
use Rattle.fields.specs.Header.{header_bytes}
use Rattle.fields.proofs.Headers.{length-header_bytes}
use Rattle.fields.specs.Ending.{IsEnding}
use Rattle.std.specs.Prelude.{Ok, Err}
use Rattle.answers.specs.declared.refusals.Fault.{Fault}
use Rattle.number_bytes.proofs.Stores.{sets-append}
use Rattle.check_output.specs.Output.{file_within, ScratchHolds, Delivers, Finishes}

abbrev pub unwritten : (number file place : ℕ) → WriteResult
unwritten number file place = record { answer = answer number file place; count = 0 }

-- ---- the output
-- a header and then some bytes over the front of the output
delivered : (h f out : List ℕ) (n : ℕ) → length h ≡ n → n + length f ≤ length out → sets (sets out 0 h) n f ≡ over (h ++ f) out
unfolding over
delivered h f out n e l =
    let z : n ≡ 0 + length h = omega (arith, e) in
    let w : 0 + length (h ++ f) ≡ length (h ++ f) = omega arith in
    ap (λ (k : ℕ). sets (sets out 0 h) k f) z ∙ sym (sets-append h f out 0) ∙ sets-eq (h ++ f) out 0 (omega (arith, length-append h f, e)) ∙ rw w

holds-size : (K : ℕ) {bytes : List ℕ} {o : ℕ} {S : List ℕ} → ScratchHolds bytes o S → length (header_bytes 1 K ++ bytes) ≡ 8 + o
holds-size K {bytes} h = length-append (header_bytes 1 K) bytes ∙ omega (arith, length-header_bytes 1 K, h.o_is)

-- a file that is too long, and one that is not
file-long : (bytes : List ℕ) (n : ℕ) → length bytes ≡ n → 65536 < n → file_within bytes ≡ refused (answer 1 4 n)
unfolding need ◌>>◌
file-long bytes n e h = ap (λ (b : Bool). need (answer 1 4 (length bytes)) b >> accepted bytes) (lt-leb (length bytes) 65536 (omega arith)) ∙ rw e

file-fits : (bytes : List ℕ) (n : ℕ) → length bytes ≡ n → n ≤ 65536 → file_within bytes ≡ accepted bytes
unfolding need ◌>>◌
file-fits bytes n e h = ap (λ (b : Bool). need (answer 1 4 (length bytes)) b >> accepted bytes) (le-leb (length bytes) 65536 (omega arith))

abbrev done : List ℕ → List ℕ → ℕ → Written
done bytes out n = record { answer = answer 0 0 0; count = n; output = over bytes out }

fit-short : (bytes out : List ℕ) (n : ℕ) → length bytes ≡ n → length out < n → written (accepted bytes) out ≡ record { answer = answer 21 4 n; count = 0; output = out }
unfolding written fit
fit-short bytes out n e h = ap (λ (b : Bool). fit out b bytes) (lt-leb (length bytes) (length out) (omega arith)) ∙ rw e

fit-done : (bytes out : List ℕ) (n : ℕ) → length bytes ≡ n → n ≤ length out → written (accepted bytes) out ≡ record { answer = answer 0 0 0; count = n; output = over bytes out }
unfolding written fit
fit-done bytes out n e h = ap (λ (b : Bool). fit out b bytes) (le-leb (length bytes) (length out) (omega arith)) ∙ ap (done bytes out) e

module _ {K : ℕ} {S : List ℕ} {o : ℕ} {out : List ℕ} where
  pub deliver-long : {r : WriteResult} → 65536 < 8 + o → r ≡ unwritten 1 4 (8 + o) → Delivers K S o out out r
  unfolding written
  deliver-long h e = record { is = λ bytes x. rw (e, file-long (header_bytes 1 K ++ bytes) (8 + o) (holds-size K x) h) }

  module _ (few : 8 + o ≤ 65536) (room : o ≤ length S) where
    pub deliver-short : {r : WriteResult} → length out < 8 + o → r ≡ unwritten 21 4 (8 + o) → Delivers K S o out out r
    deliver-short h e = record {
      is = λ bytes x. rw (e, file-fits (header_bytes 1 K ++ bytes) (8 + o) (holds-size K x) few) (sym (fit-short (header_bytes 1 K ++ bytes) out (8 + o) (holds-size K x) h));
    }

    pub deliver-done : {out₁ out₂ : List ℕ} {x : Answer} → 8 + o ≤ length out → out₁ ≡ sets out 0 (header_bytes 1 K) → out₂ ≡ sets out₁ 8 (take o S) → x ≡ acceptance
        → Delivers K S o out out₂ (record { answer = x; count = 8 + o })
    deliver-done {out₁} {out₂} h p q e = record {
      is = λ bytes x.
          let w : out₂ ≡ over (header_bytes 1 K ++ bytes) out
          = q ∙ ap (λ (y : List ℕ). sets y 8 (take o S)) p ∙ delivered (header_bytes 1 K) (take o S) out 8 (length-header_bytes 1 K) (omega (arith, length-take-le o S room))
          ∙ ap (λ (y : List ℕ). over (header_bytes 1 K ++ y) out) (x.stored (omega arith)) in
          rw (e, w, file-fits (header_bytes 1 K ++ bytes) (8 + o) (holds-size K x) few) (sym (fit-done (header_bytes 1 K ++ bytes) out (8 + o) (holds-size K x) h));
    }

-- ---- what follows the root
module _ {P : List ℕ} {at K : ℕ} {S : List ℕ} {o : ℕ} {out : List ℕ} where
  pub finish-fault : {e : Fault} {r : WriteResult} → IsEnding FileKind.Proof P at (Err e) → r ≡ unwritten (number_of e.refusal) 3 e.place → Finishes K P at S o out out r
  unfolding ◌>>◌ written
  finish-fault k f = record { is = λ bytes x. rw (k.is 3, f) }

  pub finish-ended : {out' : List ℕ} {r : WriteResult} → IsEnding FileKind.Proof P at (Ok tt) → Delivers K S o out out' r → Finishes K P at S o out out' r
  unfolding ◌>>◌
  finish-ended k l = record { is = λ bytes x. rw (k.is 3) (l.is bytes x) }
