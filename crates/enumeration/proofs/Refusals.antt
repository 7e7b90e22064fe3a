-- A and B are refused as check refuses them; no answer tells a row, step or branch. Assumes nothing.
use mathlib.Core.Path.{◌≡◌, refl, sym, ap, subst}
use mathlib.Core.Logic.{◌⊎◌, inl, inr}
use mathlib.Core.Bool.{Bool, true, false}
use mathlib.Core.List.{List}
use Prim.Native.Nat.{ℕ, ◌≤◌}
use native.Mathlib.Omega.{arith}
use lib.Dec.{leb}
use lib.ListN.{length}
use Rattle.forms.specs.Edition.{edition, edition1, newest_edition}
use Rattle.forms.specs.Forms.{Formula}
use Rattle.answers.specs.declared.Answer.{Answer}
use Rattle.answers.specs.Answers.{answer, file_a, file_b, file_lent, file_proof, Result, refused, accepted, ◌>>=◌, ◌>>◌, need, fit, written}
use Rattle.answers.proofs.Results.{never, bind-refused}
use Rattle.fields.specs.Fields.{Fields, fields}
use Rattle.bundle.specs.Bundle.{Bundle, at_most, bundles, both_read}
use Rattle.bundle.proofs.Laid.{short-accepted}
use Rattle.formula.specs.Formula.{formula_file}
use Rattle.proof.specs.Check.{check_proof, formula_at_most, interpolant, check_by, check}
use Rattle.proof.specs.Tree.{Tree, Stands, here, past, Outside}
use Rattle.proof.proofs.Satisfies.{Satisfies, says-accepted, says-need, bind, seq, weaken}
use Rattle.proof.proofs.Outside.{In, short-in, bundle-in}
use Rattle.proof.proofs.Tree.{proof-stands}
use Rattle.enumeration.specs.Sequence.{short_proofs}
use Rattle.enumeration.specs.Next.{NextIs, next_file, next_proof}
use Rattle.enumeration.specs.Next as next
use Rattle.enumeration.proofs.Enumerates.{Answered, unread, five, follows, answered}

-- ---- what is refused of A and B has their file, and tells nothing
abbrev pub OfBundle : Answer → Type 0
OfBundle a = (a.file ≡ file_a) ⊎ (a.file ≡ file_b)

pub both-in : (A B : List ℕ) → Satisfies (λ a. OfBundle a × Outside a) (both_read newest_edition A B) (λ _. Unit {0})
unfolding both_read bundles
both-in A B = seq (of_A (short-in file_a _ A)) (seq (of_B (short-in file_b _ B)) (bind (of_A (bundle-in file_a newest_edition _ A)) λ a _. bind (of_B (bundle-in file_b newest_edition _ B)) λ b _. says-accepted tt))
  where
    of_A : {X : Type 0} {P : X → Type 0} {r : Result X} → Satisfies (In file_a) r P → Satisfies (λ a. OfBundle a × Outside a) r P
    of_A s = weaken s (λ a q. (inl q.0, q.1)) (λ _ u. u)

    of_B : {X : Type 0} {P : X → Type 0} {r : Result X} → Satisfies (In file_b) r P → Satisfies (λ a. OfBundle a × Outside a) r P
    of_B s = weaken s (λ a q. (inr q.0, q.1)) (λ _ u. u)

-- ---- where in the tree
follows-outside : {A B given : List ℕ} {K : ℕ} {told : Result (List ℕ)} → NextIs A B given K told → (output : List ℕ) → Outside (written told output).answer
unfolding written fit
follows-outside (next.follows rs qs k s h l) output = by-room _ (leb _ (length output))
  where
    by-room : (bytes : List ℕ) (b : Bool) → Outside (fit output b bytes).answer
    by-room bytes true = refl
    by-room bytes false = refl
follows-outside (next.none_left rs k n) output = refl
follows-outside (next.not_among n m) output = refl

answered-outside : {A B given : List ℕ} {told : Result (List ℕ)} → Answered A B given told → (output : List ℕ) → Outside (written told output).answer
unfolding written
answered-outside {A} {B} (unread a e) output = ((both-in A B).refusal a e).1
answered-outside (five f) output = refl
answered-outside (follows f) output = follows-outside f.next output

pub next-outside : (A B given output : List ℕ) → Outside (next_proof A B given output).answer
unfolding next_proof
next-outside A B given output = answered-outside (answered A B given) output

-- ---- as check
-- a test that is passed between two that are the same
module _ {X Y : Type 0} where
  between : (m n o : Result (Unit {0})) (r : Result X) (f : X → Result Y) {a : Answer} → o ≡ accepted tt → (m >> (n >> r)) ≡ refused a → (m >> (n >> (o >> (r >>= f)))) ≡ refused a
  unfolding ◌>>◌ ◌>>=◌
  between (refused b) n o r f {a} p e = ap refused (let q : b ≡ a = cc in q)
  between (accepted _) (refused b) o r f {a} p e = ap refused (let q : b ≡ a = cc in q)
  between (accepted _) (accepted _) (refused b) r f p e = absurd (never p)
  between (accepted _) (accepted _) (accepted _) (refused b) f {a} p e = ap refused (let q : b ≡ a = cc in q)
  between (accepted _) (accepted _) (accepted _) (accepted x) f p e = absurd (never (sym e))

  between-on : (m n o : Result (Unit {0})) (r : Result X) (f : X → Result Y) {x : X} → o ≡ accepted tt → (m >> (n >> r)) ≡ accepted x → (m >> (n >> (o >> (r >>= f)))) ≡ f x
  unfolding ◌>>◌ ◌>>=◌
  between-on (refused b) n o r f p e = absurd (never e)
  between-on (accepted _) (refused b) o r f p e = absurd (never e)
  between-on (accepted _) (accepted _) (refused b) r f p e = absurd (never p)
  between-on (accepted _) (accepted _) (accepted _) (refused b) f p e = absurd (never e)
  between-on (accepted _) (accepted _) (accepted _) (accepted y) f {x} p e = ap f (let q : y ≡ x = cc in q)

stands-file : {t : Tree} {fs : Fields} {a : Answer} → Stands t fs a → a.file ≡ file_proof
stands-file (here e) = ap (λ (a : Answer). a.file) e
stands-file (past f s) = stands-file s

module _ (A B proof : List ℕ) (short : length proof ≤ (edition newest_edition).proof_bytes) where
  behind : (ab : Bundle × Bundle) → Result (ℕ × Formula)
  behind (a, b) = check_proof newest_edition a b (fields proof) >>= λ I. formula_at_most a.K I >> accepted (a.K, I)

  read-refused : {a : Answer} → both_read newest_edition A B ≡ refused a → interpolant newest_edition A B proof ≡ refused a
  unfolding both_read interpolant
  read-refused e = between (at_most (edition newest_edition).bundle_bytes file_a A) (at_most (edition newest_edition).bundle_bytes file_b B) (at_most (edition newest_edition).proof_bytes file_proof proof) (bundles newest_edition A B) _ (short-accepted _ file_proof proof short) e

  read-on : {ab : Bundle × Bundle} → both_read newest_edition A B ≡ accepted ab → interpolant newest_edition A B proof ≡ behind ab
  unfolding both_read interpolant behind
  read-on e = between-on (at_most (edition newest_edition).bundle_bytes file_a A) (at_most (edition newest_edition).bundle_bytes file_b B) (at_most (edition newest_edition).proof_bytes file_proof proof) (bundles newest_edition A B) _ (short-accepted _ file_proof proof short) e

  -- what check refuses behind the bundles has file 3 or 4
  behind-file : (ab : Bundle × Bundle) → Satisfies (λ a. ¬ (OfBundle a)) (behind ab) (λ _. Unit {0})
  unfolding behind formula_at_most
  behind-file (a, b) = bind {P = λ _. Unit {0}} (record { refusal = λ x e. not-bundle x (stands-file (proof-stands newest_edition a b (fields proof) x e)); value = λ _ _. tt }) λ I _.
      seq {P = λ _. Unit {0}} (fits (length (formula_file edition1 a.K I)) _) (says-accepted tt)
    where
      not-bundle : (x : Answer) → x.file ≡ file_proof → ¬ (OfBundle x)
      not-bundle x p (inl q) = omega (arith, p, q)
      not-bundle x p (inr q) = omega (arith, p, q)

      lent : (n place : ℕ) → ¬ (OfBundle (answer n file_lent place))
      lent n place (inl q) = omega arith
      lent n place (inr q) = omega arith

      fits : (place : ℕ) (b : Bool) → Satisfies (λ x. ¬ (OfBundle x)) (need (answer 1 file_lent place) b) (λ _. Unit {0})
      fits place b = weaken (says-need (answer 1 file_lent place) b (lent 1 place)) (λ _ q. q) (λ _ _. tt)

  check-file : (r : Result (ℕ × Formula)) (output : List ℕ) → Satisfies (λ a. ¬ (OfBundle a)) r (λ _. Unit {0}) → ¬ (OfBundle (written (r >>= λ (K, I). accepted (formula_file edition1 K I)) output).answer)
  unfolding written fit ◌>>=◌
  check-file (refused a) output s = s.refusal a refl
  check-file (accepted (K, I)) output s = by-room (leb (length (formula_file edition1 K I)) (length output))
    where
      by-room : (b : Bool) → ¬ (OfBundle (fit output b (formula_file edition1 K I)).answer)
      by-room true (inl q) = omega arith
      by-room true (inr q) = omega arith
      by-room false (inl q) = omega arith
      by-room false (inr q) = omega arith

  -- A or B is refused where check's answer has its file
  pub checked-file : (output : List ℕ) → OfBundle (check A B proof output).answer → (a : Answer) × (both_read newest_edition A B ≡ refused a)
  unfolding check check_by
  checked-file output h = go (both_read newest_edition A B) refl
    where
      go : (r : Result (Bundle × Bundle)) → both_read newest_edition A B ≡ r → (a : Answer) × (both_read newest_edition A B ≡ refused a)
      go (refused a) e = (a, e)
      go (accepted ab) e = absurd (check-file (interpolant newest_edition A B proof) output (subst (λ (r : Result (ℕ × Formula)). Satisfies (λ a. ¬ (OfBundle a)) r (λ _. Unit {0})) (sym (read-on e)) (behind-file ab)) h)

  -- and then check, with any proof that is not too long, answers and leaves the same as the next proof, whatever table is given
  pub as_check : (given output : List ℕ) {a : Answer} → both_read newest_edition A B ≡ refused a
      → (check A B proof output ≡ record { answer = a; count = 0; output = output }) × (next_proof A B given output ≡ record { answer = a; count = 0; output = output })
  unfolding check check_by next_proof next_file short_proofs written
  as_check given output {a} e = (
    ap (λ (r : Result (List ℕ)). written r output) (bind-refused _ (read-refused e)),
    ap (λ (r : Result (List ℕ)). written r output) (bind-refused _ (bind-refused _ e)),
  )
