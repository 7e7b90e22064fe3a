-- One byte more than A, B and the proof may have tells as much as the whole files: the program reads no more of each. docs/FORMAT.md, "Bytes and fields". Assumes nothing.
use Prim.Native.Nat.{ℕ, ◌+◌, ◌-◌, ◌<◌}
use mathlib.Core.Path.{◌≡◌, sym, ap, ◌∙◌}
use mathlib.Core.Logic.{⊎_elim}
use mathlib.Core.List.{List}
use native.Mathlib.Nat.{eq-zero-or-pos}
use native.Mathlib.Omega.{arith}
use lib.ListN.{length, take}
use lib.Seq.{length-take-le, take_all}
use borrow.Author.Tests.{lt-leb}
use Rattle.forms.specs.Edition.{edition1, newest_edition}
use Rattle.forms.specs.Forms.{Formula}
use Rattle.answers.specs.Answers.{file_a, file_b, file_proof, Result, refused, accepted, answer, ◌>>=◌, ◌>>◌, written}
use Rattle.answers.proofs.Results.{fail}
use Rattle.bundle.specs.Bundle.{at_most}
use Rattle.formula.specs.Formula.{formula_file}
use Rattle.proof.specs.Check.{interpolant, check_by, check}

-- a file that is too long, whatever would follow
too_long : {Y : Type 0} (limit file : ℕ) (bytes : List ℕ) (r : Result Y) → limit < length bytes → (at_most limit file bytes >> r) ≡ refused (answer 1 file 0)
unfolding at_most
too_long limit file bytes r h = fail _ r (lt-leb (length bytes) limit h)

-- the front of a file that is one byte longer than the limit is the file, or both are too long
cut : {X : Type 0} (f : List ℕ → X) (limit n : ℕ) (bytes : List ℕ) → n ≡ 1 + limit → ((xs ys : List ℕ) → limit < length xs → limit < length ys → f xs ≡ f ys) → f (take n bytes) ≡ f bytes
cut f limit n bytes e h =
    ⊎_elim
    (λ (z : length bytes - n ≡ 0). ap f (take_all n bytes (omega arith)))
    (λ (k : 0 < length bytes - n). h (take n bytes) bytes (omega (arith, length-take-le n bytes (omega arith))) (omega arith))
    (eq-zero-or-pos (length bytes - n))

cut-A : (A B P : List ℕ) → interpolant newest_edition (take 8_193 A) B P ≡ interpolant newest_edition A B P
unfolding interpolant
cut-A A B P = cut (λ (x : List ℕ). interpolant newest_edition x B P) 8_192 8_193 A (omega arith) λ xs ys h k. too_long 8_192 file_a xs _ h ∙ sym (too_long 8_192 file_a ys _ k)

cut-B : (A B P : List ℕ) → interpolant newest_edition A (take 8_193 B) P ≡ interpolant newest_edition A B P
unfolding interpolant
cut-B A B P = cut (λ (x : List ℕ). interpolant newest_edition A x P) 8_192 8_193 B (omega arith) λ xs ys h k.
    ap (λ (r : Result (ℕ × Formula)). at_most 8_192 file_a A >> r) (too_long 8_192 file_b xs _ h ∙ sym (too_long 8_192 file_b ys _ k))

cut-P : (A B P : List ℕ) → interpolant newest_edition A B (take 65_537 P) ≡ interpolant newest_edition A B P
unfolding interpolant
cut-P A B P = cut (λ (x : List ℕ). interpolant newest_edition A B x) 65_536 65_537 P (omega arith) λ xs ys h k.
    ap (λ (r : Result (ℕ × Formula)). at_most 8_192 file_a A >> (at_most 8_192 file_b B >> r)) (too_long 65_536 file_proof xs _ h ∙ sym (too_long 65_536 file_proof ys _ k))

pub read-enough : (A B P output : List ℕ) → check (take 8_193 A) (take 8_193 B) (take 65_537 P) output ≡ check A B P output
unfolding check check_by
read-enough A B P output =
    ap (λ (r : Result (ℕ × Formula)). written (r >>= λ (K, I). accepted (formula_file edition1 K I)) output)
    (cut-A A (take 8_193 B) (take 65_537 P) ∙ cut-B A B (take 65_537 P) ∙ cut-P A B P)
