-- A check whose bundles and header are read is the check of its root. Assumes nothing.
use mathlib.Core.Path.{◌≡◌, refl, sym, ap, subst, ◌∙◌}
use mathlib.Core.Logic.{inr}
use mathlib.Core.Option.{some}
use mathlib.Core.Bool.{Bool, true, false}
use mathlib.Core.List.{List, ◌++◌}
use Prim.Native.Nat.{ℕ, ◌+◌}
use lib.Dec.{leb}
use native.Mathlib.Omega.{arith}
use lib.IntN.{ℤ}
use lib.ListN.{length}
use Rattle.forms.specs.Edition.{edition, edition1}
use Rattle.forms.specs.Forms.{Formula, lines}
use Rattle.answers.specs.declared.Answer.{Answer}
use Rattle.answers.specs.Answers.{root, answer, file_proof, Result, refused, accepted, ◌>>=◌, ◌>>◌, need, written}
use Rattle.answers.specs.declared.WriteResult.{WriteResult}
use Rattle.fields.specs.declared.FileKind.{FileKind}
use Rattle.fields.specs.Fields.{Fields, fields}
use Rattle.fields.specs.Header.{header, finished, header_bytes}
use Rattle.fields.specs.Places.{fields_at}
use Rattle.bundle.specs.Bundle.{Bundle}
use Rattle.bundle_scan.specs.declared.Body.{Body}
use Rattle.formula.specs.Formula.{encode, formula_file}
use Rattle.proof.specs.Check.{Closing, check_branch, check_proof, formula_at_most, interpolant, check_by, check}
use Rattle.proof.specs.Promises.{Checks}
use Rattle.lines.specs.Buffer.{lines_in}
use Rattle.tally.specs.Tally.{tally}
use Rattle.branches.specs.Spare.{lines_left, Spare}
use Rattle.branches.specs.Branching.{Started}
use Rattle.bundle_load.specs.Both.{stated_in, Prepared}
use Rattle.bundle_load.specs.Begun.{Begun}
use Rattle.bundle_load.proofs.Preparing.{few}
use Rattle.bundle_load.proofs.Phases.{bundle_of, both_is}
use Rattle.check_output.specs.Output.{file_within, finishing}
use Rattle.check_sizes.specs.Root.{rooted, Roots}
use Rattle.check_sizes.specs.Sizes.{CheckedWithin, Tries}

-- ---- the root
proof-root : (a b : Bundle) (e K : ℕ) (fs rest : Fields) → a.K ≡ K → header FileKind.Proof file_proof 2 (some K) fs ≡ accepted (record { number = e; K = K; rest = rest })
    → check_proof 2 a b fs
    ≡ (check_branch (edition e) K 32 root 0 (lines a.constraints b.constraints) rest
    >>= λ c. (finished FileKind.Proof file_proof c.after >> accepted c.formula))
unfolding check_proof ◌>>=◌
proof-root a b e K fs rest q h = rw (q, h)

module _ {A B : List ℕ} {first second : Body} {P : List ℕ} {e K at : ℕ} (g : Begun A B first second P e K at) where
  abbrev tree : Result Closing
  tree = check_branch (edition e) K 32 root 0 (lines (stated_in A K first) (stated_in B K second)) (fields_at P at)

  begun-is : interpolant 2 A B P ≡ ((tree >>= λ c. (finished FileKind.Proof file_proof c.after >> accepted c.formula)) >>= λ I. (formula_at_most K I >> accepted (K, I)))
  begun-is =
      both_is g.short g.both
      ∙ ap (λ (x : Result Formula). x >>= λ I. (formula_at_most K I >> accepted (K, I))) (proof-root (bundle_of A K first) (bundle_of B K second) e K (fields P) (fields_at P at) refl g.header_is)

-- one step after the other, by what the root gives
within-bytes : (K : ℕ) (I : Formula) (x : Answer) (b : Bool)
    → ((need x b >> accepted (K, I)) >>= λ (k, J). accepted (formula_file edition1 k J)) ≡ (need x b >> accepted (formula_file edition1 K I))
unfolding ◌>>=◌ ◌>>◌ need
within-bytes K I x true = refl
within-bytes K I x false = refl

file-bytes : (K : ℕ) (I : Formula)
    → ((formula_at_most K I >> accepted (K, I)) >>= λ (k, J). accepted (formula_file edition1 k J)) ≡ file_within (header_bytes 1 K ++ encode edition1 I)
unfolding formula_at_most formula_file
file-bytes K I = within-bytes K I (answer 1 4 (length (formula_file edition1 K I))) (leb (length (formula_file edition1 K I)) 65536)

end-bytes : (K : ℕ) (I : Formula) (y : Result (Unit {0}))
    → (((y >> accepted I) >>= λ J. (formula_at_most K J >> accepted (K, J))) >>= λ (k, J). accepted (formula_file edition1 k J)) ≡ (y >> file_within (header_bytes 1 K ++ encode edition1 I))
unfolding ◌>>=◌ ◌>>◌
end-bytes K I (refused z) = refl
end-bytes K I (accepted z) = file-bytes K I

then-bytes : (K : ℕ) (x : Result Closing)
    → (((x >>= λ c. (finished FileKind.Proof file_proof c.after >> accepted c.formula)) >>= λ I. (formula_at_most K I >> accepted (K, I))) >>= λ (k, I). accepted (formula_file edition1 k I))
    ≡ (x >>= λ c. finishing K c.after (encode edition1 c.formula))
unfolding ◌>>=◌
then-bytes K (refused y) = refl
then-bytes K (accepted c) = end-bytes K c.formula (finished FileKind.Proof file_proof c.after)

module _ {A B : List ℕ} {first second : Body} {P : List ℕ} {e K at : ℕ} (g : Begun A B first second P e K at) {kinds : List ℕ} {buf : List ℤ} (q : Prepared A B first second K kinds buf) where
  same-root : check_branch (edition e) K 32 root 0 (lines_in K kinds buf (first.count + second.count)) (fields_at P at) ≡ tree g
  same-root = rw q.lines_are

  same_bytes : rooted e K (lines_in K kinds buf (first.count + second.count)) (fields_at P at) ≡ (interpolant 2 A B P >>= λ (k, I). accepted (formula_file edition1 k I))
  same_bytes =
      ap (λ (x : Result Closing). x >>= λ c. finishing K c.after (encode edition1 c.formula)) same-root
      ∙ sym (ap (λ (x : Result (ℕ × Formula)). x >>= λ (k, I). accepted (formula_file edition1 k I)) (begun-is g) ∙ then-bytes K (tree g))

  pub checks-root : {S out out' : List ℕ} {r : WriteResult} → Roots e K (lines_in K kinds buf (first.count + second.count)) P at S out out' r → CheckedWithin A B P at S out out' r
  unfolding check check_by
  checks-root {out = out} l = record { is = λ t. record { is = l.is t ∙ ap (λ (R : Result (List ℕ)). written R out) same_bytes }; same = l.same }

-- ---- what the root asks
module _ {A B : List ℕ} {first second : Body} {P : List ℕ} {e K at : ℕ} (g : Begun A B first second P e K at) {kinds : List ℕ} {buf : List ℤ} (q : Prepared A B first second K kinds buf) where
  pub started : Spare e K (first.count + second.count + lines_left e P at) kinds buf
      → Started K kinds buf (tally e 0 (first.count + second.count) 0) P at 0
  started spare = record {
    ready = record {
      branch = record { constants = g.both.high; room = spare.room (first.count + second.count) (few g.both e) (omega arith); bounded = q.bounded };
      room = spare.kinds_room (first.count + second.count) (few g.both e) (omega arith);
      most = few g.both e;
    };
    spare = spare;
    room = omega (arith, g.short.p);
  }

-- ---- a check that is tried
module _ {A B P : List ℕ} where
  pub tried : {at : ℕ} {S out out' : List ℕ} {r : WriteResult} → CheckedWithin A B P at S out out' r → Tries A B P out out' r
  tried w = record { is = λ other. w.is (inr other); same = w.same }

  pub tried-again : {out out₁ out₂ : List ℕ} {r₁ r : WriteResult} → Tries A B P out out₁ r₁ → r₁.answer.number ≡ 1 → Checks A B P out₁ out₂ r → Checks A B P out out₂ r
  tried-again {out₂ = out₂} {r = r} t one k = subst (λ (o : List ℕ). Checks A B P o out₂ r) (t.same one) k
