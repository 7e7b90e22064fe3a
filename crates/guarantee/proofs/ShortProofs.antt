-- Repeated calls give all short proofs, and every answer has its reason. Assumes nothing.
use mathlib.Core.Path.{◌≡◌, refl, sym, ◌∙◌, ap, subst}
use mathlib.Core.Logic.{inl, inr}
use mathlib.Core.Option.{none, some}
use mathlib.Core.Bool.{Bool, true, false}
use mathlib.Core.List.{List, [], ◌∷◌}
use Prim.Native.Nat.{ℕ, ◌≤◌}
use native.Mathlib.Omega.{arith}
use borrow.Author.Tests.{le-leb, lt-leb, leb-true, leb-false}
use lib.Dec.{leb}
use lib.ListN.{length}
use Rattle.forms.specs.Edition.{newest_edition}
use Rattle.answers.specs.declared.Answer.{Answer}
use Rattle.answers.specs.declared.WriteResult.{WriteResult}
use Rattle.answers.specs.Answers.{answer, acceptance, file_a, file_b, Result, refused, accepted, fit, over, Written, written_of, written}
use Rattle.answers.proofs.Results.{not-0}
use Rattle.fields.specs.Fields.{field_bytes, file_of}
use Rattle.number_bytes.specs.Numbers.{unsigned_bytes}
use Rattle.bundle.specs.Bundle.{bundles, both_read}
use Rattle.bundle.proofs.Laid.{both-read-gives}
use Rattle.proof.specs.Promises.{Checks}
use Rattle.proof.proofs.Satisfies.{Satisfies, says-accepted, bind, seq, weaken}
use Rattle.enumeration.specs.ShortProofs.{proof_file}
use Rattle.enumeration.specs.Sequence.{short_proofs_of}
use Rattle.enumeration.specs.Next.{NextIs, next_file, next_proof}
use Rattle.enumeration.specs.Next as next
use Rattle.enumeration.specs.Enumerates.{Enumerable, Fifth, Follows}
use Rattle.enumeration.specs.Promises.{WritesNext}
use Rattle.enumeration.proofs.Bytes.{row-enters}
use Rattle.enumeration.proofs.Listed.{no_strengthen}
use Rattle.enumeration.proofs.Next.{next-turns}
use Rattle.enumeration.proofs.Enumerates.{Answered, unread, five, follows, answered, enumerable-sequence, enumerates, fifth-refused}
use Rattle.enumeration.proofs.One.{one}
use Rattle.enumeration.proofs.Refusals.{OfBundle, both-in, checked-file, as_check}
use Rattle.enumeration.proofs.Called as calls
use Rattle.guarantee.specs.Acceptance.{WrittenAs}
use Rattle.guarantee.specs.ShortProofs.{NoRoom, Called, start, further, ShortProofsEnumerated}
use Rattle.guarantee.proofs.BundleNumbers.{Plain, short-plain, bundle-plain}

-- ---- calls as their record says, and as the definition has it
module _ {A B : List ℕ} {K : ℕ} where
  as-defined : {file : List ℕ} → Called A B K file → calls.Called A B K file
  as-defined start = calls.start
  as-defined (further c output left r n e) = calls.further (as-defined c) output (written_of r left) n.is e

  as-ensured : {file : List ℕ} → calls.Called A B K file → Called A B K file
  as-ensured calls.start = start
  as-ensured (calls.further c output w q e) = further (as-ensured c) output w.output (record { answer = w.answer; count = w.count }) (record { is = q }) e

-- ---- what follows is what is answered
follows_is : (A B given : List ℕ) {told : Result (List ℕ)} → Follows A B given told → next_file A B given ≡ told
follows_is A B given f =
    let s = enumerable-sequence f.enumerable in
    one A B given f.K _ s (next-turns A B given f.K _ s) f.next

-- ---- why an answer is given
module _ (A B given output : List ℕ) where
  record Why (a : Answer) : Type 0 where
    zero : a.number ≡ 0 → (file : List ℕ) × Follows A B given (accepted file) × (length file ≤ length output)
    by_8 : a.number ≡ 8 → a.file ≡ 4 → Fifth A B
    by-32 : a.number ≡ 32 → Follows A B given (refused (answer 32 4 0))
    by-33 : a.number ≡ 33 → Follows A B given (refused (answer 33 4 0))
    by-21 : a.number ≡ 21 → NoRoom A B given output
    of-bundle : OfBundle a → (b : Answer) × (both_read newest_edition A B ≡ refused b)

  not-lent : (a : Answer) → both_read newest_edition A B ≡ refused a → a.file ≡ 4 → ⊥
  not-lent a e f = go ((both-in A B).refusal a e).0
    where
      go : OfBundle a → ⊥
      go (inl q) = omega (arith, q, f)
      go (inr q) = omega (arith, q, f)

  -- A and B are refused by a number up to 20
  read-few : (a : Answer) → both_read newest_edition A B ≡ refused a → a.number ≤ 20
  unfolding both_read bundles
  read-few a e = reads.refusal a e
    where
      few : {file : ℕ} {X : Type 0} {P : X → Type 0} {r : Result X} → Satisfies (Plain file) r P → Satisfies (λ a. a.number ≤ 20) r P
      few s = weaken s (λ a q. q.0) (λ _ u. u)

      reads : Satisfies (λ a. a.number ≤ 20) (both_read newest_edition A B) (λ _. Unit {0})
      reads = seq (few (short-plain _ file_a A)) (seq (few (short-plain _ file_b B)) (bind (few (bundle-plain file_a none A)) λ a _. bind (few (bundle-plain file_b (some a.K) B)) λ b _. says-accepted tt))

  lent_none : (n place : ℕ) → OfBundle (answer n 4 place) → ⊥
  lent_none n place (inl q) = omega arith
  lent_none n place (inr q) = omega arith

  none-none : OfBundle acceptance → ⊥
  none-none (inl q) = omega arith
  none-none (inr q) = omega arith

  why-fit : (file : List ℕ) → Follows A B given (accepted file) → (b : Bool) → leb (length file) (length output) ≡ b → Why (fit output b file).answer
  unfolding fit
  why-fit file x true e = record {
    zero = λ _. (file, x, leb-true _ _ e);
    by_8 = λ q _. absurd (omega arith);
    by-32 = λ q. absurd (omega arith);
    by-33 = λ q. absurd (omega arith);
    by-21 = λ q. absurd (omega arith);
    of-bundle = λ o. absurd (none-none o);
  }
  why-fit file x false e = record {
    zero = λ q. absurd (omega arith);
    by_8 = λ q _. absurd (omega arith);
    by-32 = λ q. absurd (omega arith);
    by-33 = λ q. absurd (omega arith);
    by-21 = λ _. record { file = file; follows = x; short = leb-false _ _ e };
    of-bundle = λ o. absurd (lent_none 21 (length file) o);
  }

  why-next : (K : ℕ) → Enumerable A B K → {told : Result (List ℕ)} → NextIs A B given K told → Why (written told output).answer
  unfolding written
  why-next K e (next.follows rs qs k s h l) = why-fit (proof_file K qs) (record { K = K; enumerable = e; next = next.follows rs qs k s h l }) (leb (length (proof_file K qs)) (length output)) refl
  why-next K e (next.none_left rs k n) = record {
    zero = λ q. absurd (omega arith);
    by_8 = λ q _. absurd (omega arith);
    by-32 = λ q. absurd (omega arith);
    by-33 = λ _. record { K = K; enumerable = e; next = next.none_left rs k n };
    by-21 = λ q. absurd (omega arith);
    of-bundle = λ o. absurd (lent_none 33 0 o);
  }
  why-next K e (next.not_among n m) = record {
    zero = λ q. absurd (omega arith);
    by_8 = λ q _. absurd (omega arith);
    by-32 = λ _. record { K = K; enumerable = e; next = next.not_among n m };
    by-33 = λ q. absurd (omega arith);
    by-21 = λ q. absurd (omega arith);
    of-bundle = λ o. absurd (lent_none 32 0 o);
  }

  why-answered : {told : Result (List ℕ)} → Answered A B given told → Why (written told output).answer
  unfolding written
  why-answered (unread a e) = record {
    zero = λ q. absurd (not-0 ((both-read-gives newest_edition A B).refusal a e) q);
    by_8 = λ _ f. absurd (not-lent a e f);
    by-32 = λ q. absurd (omega (arith, read-few a e));
    by-33 = λ q. absurd (omega (arith, read-few a e));
    by-21 = λ q. absurd (omega (arith, read-few a e));
    of-bundle = λ _. (a, e);
  }
  why-answered (five x) = record {
    zero = λ q. absurd (omega arith);
    by_8 = λ _ _. x;
    by-32 = λ q. absurd (omega arith);
    by-33 = λ q. absurd (omega arith);
    by-21 = λ q. absurd (omega arith);
    of-bundle = λ o. absurd (lent_none 8 0 o);
  }
  why-answered (follows f) = why-next f.K f.enumerable f.next

  why : Why (next_proof A B given output).answer
  unfolding next_proof
  why = why-answered (answered A B given)

-- ---- what is left where there is a reason
module _ {A B given output left : List ℕ} {r : WriteResult} (c : WritesNext A B given output left r) where
  why-told : Why A B given output r.answer
  why-told = subst (λ (w : Written). Why A B given output w.answer) (sym c.is) (why A B given output)

  left_by : {told : Result (List ℕ)} → next_file A B given ≡ told → written_of r left ≡ written told output
  unfolding next_proof
  left_by e = c.is ∙ ap (λ (t : Result (List ℕ)). written t output) e

  answer-of : {w : Written} → written_of r left ≡ w → r.answer ≡ w.answer
  answer-of e = ap (λ (w : Written). w.answer) e

  refused_as : {a : Answer} → next_file A B given ≡ refused a → r.answer ≡ a
  unfolding written
  refused_as e = answer-of (left_by e)

  written_as_lem : (file : List ℕ) → Follows A B given (accepted file) → length file ≤ length output → written_of r left ≡ record { answer = acceptance; count = length file; output = over file output }
  unfolding written fit
  written_as_lem file f h = left_by (follows_is A B given f) ∙ ap (λ (b : Bool). fit output b file) (le-leb (length file) (length output) h)

  writes : (file : List ℕ) → Follows A B given (accepted file) → length file ≤ length output → WrittenAs file output left r.answer r.count
  writes file f h = let e = written_as_lem file f h in record { answer = answer-of e; count_is = ap (λ (w : Written). w.count) e; left_is = ap (λ (w : Written). w.output) e }

  short-as : (n : NoRoom A B given output) → r.answer ≡ answer 21 4 (length n.file)
  unfolding written fit
  short-as n = answer-of (left_by (follows_is A B given n.follows) ∙ ap (λ (b : Bool). fit output b n.file) (lt-leb (length n.file) (length output) n.short))

  -- as check
  module _ {lent proof checked : List ℕ} {q : WriteResult} (k : Checks A B proof lent checked q) (short : length proof ≤ 65_536) where
    both-refused : {a : Answer} → both_read newest_edition A B ≡ refused a → r.answer ≡ q.answer
    both-refused e = answer-of (c.is ∙ (as_check A B proof short given output e).1) ∙ sym (ap (λ (w : Written). w.answer) (k.is ∙ (as_check A B proof short given lent e).0))

    as-checked : OfBundle q.answer → r.answer ≡ q.answer
    as-checked o = let (a, e) = checked-file A B proof short lent (subst (λ (w : Written). OfBundle w.answer) k.is o) in both-refused e

    checked-as : OfBundle r.answer → r.answer ≡ q.answer
    checked-as o = let (a, e) = why-told.of-bundle o in both-refused e

header-bytes : (K : ℕ) → proof_file K [] ≡ 0x01 ∷ 0 ∷ 1 ∷ 1 ∷ 0x02 ∷ 0 ∷ 1 ∷ K ∷ []
unfolding proof_file file_of field_bytes unsigned_bytes
header-bytes K = refl

pub short-proofs-enumerated : ShortProofsEnumerated
short-proofs-enumerated = record {
  enumerated = λ A B K e. (short_proofs_of _, enumerates A B K _ (enumerable-sequence e));
  called_iff = λ A B K e file. let (only, all) = calls.called_iff A B K _ (enumerable-sequence e) file in (λ c. only (as-defined c), λ s. as-ensured (all s));
  accepted_iff = λ c. ((why-told c).zero, λ (file, f, h). ap (λ (a : Answer). a.number) (writes c file f h).answer);
  writes = writes;
  next_8 = λ {A} {B} {given} c. (λ (n, f). (why-told c).by_8 n f, λ x. refused_as c (fifth-refused A B given x));
  next_32 = λ {A} {B} {given} c. ((why-told c).by-32, λ x. refused_as c (follows_is A B given x));
  next_33 = λ {A} {B} {given} c. ((why-told c).by-33, λ x. refused_as c (follows_is A B given x));
  next_21 = λ c. ((why-told c).by-21, short-as c);
  as_check = λ c k h. (as-checked c k h, checked-as c k h);
  no_strengthen = no_strengthen;
  header = header-bytes;
  rows_read = row-enters;
}
