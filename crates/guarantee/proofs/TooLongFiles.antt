-- 1 comes in A, B and the proof only for a file that is too long: for every edition, or for edition 1, which it says. Assumes nothing.
use mathlib.Core.Path.{◌≡◌, refl, sym, ◌∙◌, ap, subst}
use mathlib.Core.Logic.{◌⊎◌, inl, inr}
use mathlib.Core.Option.{Option, none, some}
use mathlib.Core.Bool.{Bool, true, false, cond, ◌&&◌}
use mathlib.Core.List.{List}
use Prim.Native.Nat.{ℕ, zero, suc, ◌-◌, ◌≤◌, ◌<◌}
use native.Mathlib.Omega.{arith}
use borrow.Author.Tests.{leb-true, leb-false}
use lib.Dec.{T, leb, eqb, eqb→eq}
use lib.ListN.{length}
use lib.IntN.{ℤ}
use Rattle.forms.specs.Edition.{Edition, edition, newest_edition}
use Rattle.forms.specs.Forms.{Form, Side, A, B, Line}
use Rattle.calculus.specs.Rules.{Row, Derive, Strengthen, CloseNumber, CloseStride, Round, Split, Entry, row, claim}
use Rattle.answers.specs.declared.Answer.{Answer}
use Rattle.answers.specs.declared.WriteResult.{WriteResult}
use Rattle.answers.specs.declared.Position.{Position}
use Rattle.answers.specs.Answers.{answer, refusal_at, file_a, file_b, file_proof, file_lent, Result, refused, accepted, ◌>>=◌, ◌>>◌, need, found, Written, fit, written}
use Rattle.fields.specs.declared.FileKind.{FileKind}
use Rattle.fields.specs.Fields.{Fields, ends, cut, ◌▸◌, fields}
use Rattle.fields.specs.Header.{header_field, edition_field, constants_field, header, finished}
use Rattle.bundle.specs.Bundle.{Bundle, at_most, constraints, bundle_header, bundle, bundles, both_read}
use Rattle.bundle.specs.Layout.{edition_said, Says}
use Rattle.bundle.specs.Read.{BundleRead, kinds_of, numbers_of, unread, store, stored, read_bundle}
use Rattle.bundle.specs.Show.{shown_part, answer_of, show_answer}
use Rattle.bundle.proofs.Laid.{Laid, bundle-gives}
use Rattle.bundle_show.specs.Promises.{AnswersShow}
use Rattle.bundle_read.specs.declared.ReadResult.{ReadResult}
use Rattle.bundle_read.specs.Promises.{Reads}
use Rattle.proof.specs.Check.{Checker, Following, there, check_rounded, check_split, check_row, check_entry, check_entries, check_branch, check_proof, formula_at_most, interpolant, check_by, check}
use Rattle.proof.proofs.Satisfies.{Satisfies as Tells, says-refused, says-accepted, bind, seq, test, finds, weaken}
use Rattle.proof.proofs.Tree.{amidst, derived-says, fitting-says, inequality-says, roundable-says, disequality-says, by_number-says, by_stride-says, entry-says}
use Rattle.proof.specs.Promises.{Checks}
use Rattle.guarantee.specs.Editions.{BundlesWithinLimits, ReadA, TooLong, long_A, long_B, late_A, late_B}

-- ---- the proof's fields: each of their refusals is by a number from 2 to 20
abbrev pub Amidst : Answer → Type 0
Amidst a = T (amidst a.number)

abbrev pub AllAmidst : {X : Type 0} → Result X → Type 0
AllAmidst r = Tells Amidst r (λ _. Unit {0})

abbrev ChecksAmidst : Checker → Type 0
ChecksAmidst checker = (p : Position) (rows : ℕ) (ls : List Line) (fs : Fields) → AllAmidst (checker p rows ls fs)

abbrev AmidstIn : Option Checker → Type 0
AmidstIn none = Unit
AmidstIn (some checker) = ChecksAmidst checker

rounded-amidst : (checker : Checker) → ChecksAmidst checker → (ls : List Line) (l : Line) (step g k j left rows : ℕ) (fs : Fields) → AllAmidst (check_rounded checker ls l step g k j left rows fs)
unfolding check_rounded
rounded-amidst checker d ls l step g k j zero rows fs = bind (d _ rows _ fs) λ own _. says-accepted tt
rounded-amidst checker d ls l step g k j (suc left) rows fs =
    bind (d _ rows _ fs) λ own _. bind (rounded-amidst checker d ls l step g k (suc j) left own.rows own.after) λ others _. says-accepted tt

module _ (e : Edition) (refusal : ℕ → Answer) (h : (n : ℕ) → T (amidst n) → Amidst (refusal n)) where
  split-amidst : (checker : Checker) → ChecksAmidst checker → (σ : Side) (ls : List Line) (t t_A : Form) (rows : ℕ) (fs : Fields) → AllAmidst (check_split e refusal checker σ ls t t_A rows fs)
  unfolding check_split
  split-amidst checker d A ls t t_A rows fs =
      seq (fitting-says refusal h ls e _) (seq (fitting-says refusal h ls e _) (bind (d _ _ _ fs) λ first _. bind (d _ _ _ first.after) λ second _. says-accepted tt))
  split-amidst checker d B ls t t_A rows fs =
      seq (fitting-says refusal h ls e _) (seq (fitting-says refusal h ls e _) (bind (d _ _ _ fs) λ first _. bind (d _ _ _ first.after) λ second _. says-accepted tt))

  -- the checker of deeper branches, and what is done with it
  deeper-amidst : {X : Type 0} (deeper : Option Checker) → AmidstIn deeper → {k : Checker → Result X} → ((c : Checker) → ChecksAmidst c → AllAmidst (k c)) → AllAmidst (found (refusal 17) deeper >>= k)
  unfolding found ◌>>=◌
  deeper-amidst none p k = says-refused (h 17 tt)
  deeper-amidst (some c) p k = k c p

  module _ (K : ℕ) (deeper : Option Checker) (p : AmidstIn deeper) (next : Following) (q : (rows : ℕ) (made : Option Line) (ls : List Line) → AllAmidst (next rows made ls)) (rows : ℕ) (ls : List Line) (fs : Fields) where
    row-amidst : (r : Row) → AllAmidst (check_row e K deeper next refusal rows ls fs r)
    unfolding check_row
    row-amidst (Derive s) = bind (derived-says refusal h ls s) λ l _. seq (fitting-says refusal h ls e l) (q _ _ _)
    row-amidst (Strengthen i) = bind (inequality-says refusal h ls i) λ l _. deeper-amidst deeper p λ branch d. seq (fitting-says refusal h ls e _)
        (bind (d _ _ _ fs) λ first _. bind (d _ _ _ first.after) λ second _. bind (d _ _ _ second.after) λ third _. says-accepted tt)
    row-amidst (Round i g k) = bind (roundable-says refusal h ls e i g k) λ l _. deeper-amidst deeper p λ branch d. seq (fitting-says refusal h ls e _)
        (bind (d _ _ _ fs) λ first _. bind (rounded-amidst branch d ls l rows g k 0 (k - 1) first.rows first.after) λ others _. says-accepted tt)
    row-amidst (Split i) = bind (disequality-says refusal h ls i) λ (σ, l) _. deeper-amidst deeper p λ branch d. split-amidst branch d σ ls l.t l.t_A rows fs
    row-amidst (CloseNumber i) = bind (by_number-says refusal h ls i) λ I _. says-accepted tt
    row-amidst (CloseStride i g) = bind (by_stride-says refusal h ls i g) λ I _. says-accepted tt

    check_entry-amidst : (made : Option Line) (x : Entry) → AllAmidst (check_entry e K deeper next refusal rows made ls fs x)
    unfolding check_entry
    check_entry-amidst made (row r) = test _ _ (h 18 tt) λ _. row-amidst r
    check_entry-amidst made (claim t t_A) = bind (finds _ made (h 4 tt)) λ l _. test _ _ (h 14 tt) λ _. q _ _ _

pub above-1 : {n : ℕ} → T (amidst n) → ¬ (n ≡ 1)
above-1 t e = subst (λ (n : ℕ). T (amidst n)) e t

module _ (e : Edition) (K : ℕ) where
  entries-amidst : (p : Position) (deeper : Option Checker) → AmidstIn deeper → (fs : Fields) (rows : ℕ) (made : Option Line) (ls : List Line) → AllAmidst (check_entries e K p deeper fs rows made ls)
  unfolding check_entries
  entries-amidst p deeper d (ends at) rows made ls = says-refused tt
  entries-amidst p deeper d (cut at) rows made ls = says-refused tt
  entries-amidst p deeper d (f ▸ fs) rows made ls = bind (entry-says e K (refusal_at p rows f.at) (there made) f (λ n t. t)) λ x _.
      check_entry-amidst e (refusal_at p rows f.at) (λ n t. t) K deeper d (check_entries e K p deeper fs) (entries-amidst p deeper d fs) rows ls fs made x

  branch-amidst : (room : ℕ) → ChecksAmidst (check_branch e K room)
  unfolding check_branch
  branch-amidst zero p rows ls fs = entries-amidst p none tt fs rows none ls
  branch-amidst (suc room) p rows ls fs = entries-amidst p (some (check_branch e K room)) (branch-amidst room) fs rows none ls

-- ---- headers and ends
module _ (kind : FileKind) (file : ℕ) where
  -- the edition that is read is the one that the file says
  pub edition-field-amidst : (fs : Fields) → Tells Amidst (header_field kind file 0x01 fs) (λ x. edition_said fs ≡ some x.1)
  unfolding header_field edition_said
  edition-field-amidst (ends at) = says-refused tt
  edition-field-amidst (cut at) = says-refused tt
  edition-field-amidst (f ▸ fs) = test _ _ tt λ _. test _ _ tt λ t. test _ _ tt λ l. says-accepted (rw (eqb→eq f.tag 0x01 t, eqb→eq (length f.contents) 1 l))

  pub edition-amidst : (newest : ℕ) (fs : Fields) → Tells Amidst (edition_field kind file newest fs) (λ x. edition_said fs ≡ some x.0)
  unfolding edition_field
  edition-amidst newest fs = bind (edition-field-amidst fs) λ x s. test _ _ tt λ _. says-accepted s

  constants-field-amidst : (fs : Fields) → AllAmidst (header_field kind file 0x02 fs)
  unfolding header_field
  constants-field-amidst (ends at) = says-refused tt
  constants-field-amidst (cut at) = says-refused tt
  constants-field-amidst (f ▸ fs) = test _ _ tt λ _. test _ _ tt λ _. test _ _ tt λ _. says-accepted tt

  pub constants-amidst : (given : Option ℕ) (fs : Fields) → AllAmidst (constants_field kind file given fs)
  unfolding constants_field
  constants-amidst given fs = bind (constants-field-amidst fs) λ x _. test _ _ tt λ _. test _ _ tt λ _. says-accepted tt

  pub header-amidst : (newest : ℕ) (given : Option ℕ) (fs : Fields) → AllAmidst (header kind file newest given fs)
  unfolding header
  header-amidst newest given fs = bind (edition-amidst newest fs) λ x _. bind (constants-amidst given x.1) λ y _. says-accepted tt

  finished-amidst : (fs : Fields) → AllAmidst (finished kind file fs)
  unfolding finished
  finished-amidst (ends at) = says-accepted tt
  finished-amidst (cut at) = says-refused tt
  finished-amidst (f ▸ fs) = test _ _ tt λ _. says-refused tt

pub proof-amidst : (newest : ℕ) (a b : Bundle) (fs : Fields) → AllAmidst (check_proof newest a b fs)
unfolding check_proof
proof-amidst newest a b fs = bind (header-amidst FileKind.Proof file_proof newest _ fs) λ h _. bind (branch-amidst (edition h.number) h.K _ _ _ _ h.rest) λ c _.
    seq (finished-amidst FileKind.Proof file_proof c.after) (says-accepted tt)

pub constraints-amidst : (file : ℕ) (e : Edition) (K n : ℕ) (fs : Fields) → AllAmidst (constraints file e K n fs)
unfolding constraints
constraints-amidst file e K n (ends at) = says-accepted tt
constraints-amidst file e K n (cut at) = says-refused tt
constraints-amidst file e K n (f ▸ fs) = test _ _ tt λ _. bind (finds _ _ tt) λ k _. test _ _ tt λ _. test _ _ tt λ _. test _ _ tt λ _.
    bind (constraints-amidst file e K (suc n) fs) λ cs _. says-accepted tt

-- ---- a refusal by 1 has a reason
module _ (Why : Answer → Type 0) where
  abbrev pub One : Answer → Type 0
  One a = a.number ≡ 1 → Why a

  -- no reason is needed for what is never refused by 1
  pub never1 : {X : Type 0} {P : X → Type 0} {r : Result X} → Tells Amidst r P → Tells One r P
  never1 s = weaken s (λ a q e. absurd (above-1 q e)) (λ _ u. u)

  -- a length is tested, and what follows knows it
  pub at-most : {X : Type 0} {P : X → Type 0} {r : Result X} (limit file : ℕ) (bytes : List ℕ) → (limit < length bytes → Why (answer 1 file 0)) → (length bytes ≤ limit → Tells One r P) → Tells One (at_most limit file bytes >> r) P
  unfolding at_most need ◌>>◌
  at-most {X} {P} {r} limit file bytes h k = go (leb (length bytes) limit) refl
    where
      go : (b : Bool) → leb (length bytes) limit ≡ b → Tells One (need (answer 1 file 0) b >> r) P
      go true q = k (leb-true _ _ q)
      go false q = says-refused λ _. h (leb-false _ _ q)

  -- a bundle that is not too long for every edition
  module _ (file : ℕ) (given : Option ℕ) (bytes : List ℕ) (short : length bytes ≤ 8_192) (h : Says bytes 1 → 4_096 < length bytes → Why (answer 1 file 0)) where
    late : (n : ℕ) → Says bytes n → (edition n).bundle_bytes < length bytes → Why (answer 1 file 0)
    late n s l = go (eqb n 1) refl l
      where
        go : (b : Bool) → eqb n 1 ≡ b → cond b 4_096 8_192 < length bytes → Why (answer 1 file 0)
        go true q l = h (s ∙ ap some (eqb→eq n 1 (rw q tt))) l
        go false q l = absurd (omega arith)

    header-one : Tells One (bundle_header newest_edition file given bytes) (λ _. Unit {0})
    unfolding bundle_header
    header-one = bind (never1 (edition-amidst FileKind.Bundle file newest_edition (fields bytes))) λ x s. at-most _ file bytes (late x.0 s) λ _. bind (never1 (constants-amidst FileKind.Bundle file given x.1)) λ y _. says-accepted tt

    constraints-one : Tells One (bundle newest_edition file given bytes) (λ _. Unit {0})
    unfolding bundle
    constraints-one = bind header-one λ x _. bind (never1 (constraints-amidst file (edition x.number) x.K 0 x.rest)) λ cs _. says-accepted tt

    pub bundle-one : Tells One (bundle newest_edition file given bytes) (Laid newest_edition given bytes)
    bundle-one = record { refusal = constraints-one.refusal; value = (bundle-gives newest_edition file given bytes).gives }

-- ---- the operations
-- A and B, where no other file stands in the way
module _ (Why : Answer → Type 0) (A B : List ℕ) (Rest : Type 0) (why : (file : ℕ) → TooLong A B Rest file → Why (answer 1 file 0)) where
  bundles-one : BundlesWithinLimits A B → Rest → Tells (One Why) (bundles newest_edition A B) (λ _. Unit {0})
  unfolding bundles
  bundles-one s p = bind (bundle-one Why file_a none A s.a λ e l. why file_a (late_A s p e l)) λ x f.
      let read : ReadA A B = record { short = s; n_A = x.edition; K = x.K; a = x.constraints; states_a = f.file } in
      bind (bundle-one Why file_b (some x.K) B s.b λ e l. why file_b (late_B read p e l)) λ y _. says-accepted tt

  -- their lengths are tested first, and what follows knows them
  lengths-one : {X : Type 0} {P : X → Type 0} {r : Result X} → (BundlesWithinLimits A B → Tells (One Why) r P) → Tells (One Why) (at_most 8_192 file_a A >> (at_most 8_192 file_b B >> r)) P
  lengths-one k = at-most Why 8_192 file_a A (λ h. why file_a (long_A h)) λ a. at-most Why 8_192 file_b B (λ h. why file_b (long_B a h)) λ b. k (record { a = a; b = b })

module _ (A B proof : List ℕ) where
  -- Why check is refused by 1, by the file.
  abbrev Why1 : Answer → Type 0
  Why1 a = TooLong A B (length proof ≤ 65_536) a.file ⊎ ((a.file ≡ file_proof) × BundlesWithinLimits A B × (65_536 < length proof)) ⊎ (a.file ≡ file_lent)

  interpolant-one : Tells (One Why1) (interpolant newest_edition A B proof) (λ _. Unit {0})
  unfolding interpolant formula_at_most
  interpolant-one = lengths-one Why1 A B (length proof ≤ 65_536) (λ _ w. inl w) λ s. at-most Why1 _ file_proof proof (λ h. inr (inl (refl, s, h))) λ p.
      bind (bundles-one Why1 A B (length proof ≤ 65_536) (λ _ w. inl w) s p) λ x _. bind (never1 Why1 (proof-amidst newest_edition x.0 x.1 (fields proof))) λ I _. test _ _ (λ _. inr (inr refl)) λ _. says-accepted tt

  -- what is left, by the bytes or the refusal
  left_one : (r : Result (List ℕ)) (output : List ℕ) → Tells (One Why1) r (λ _. Unit {0}) → One Why1 (written r output).answer
  unfolding written fit
  left_one (refused a) output s = s.refusal a refl
  left_one (accepted bytes) output s = go (leb (length bytes) (length output))
    where
      go : (b : Bool) → One Why1 (fit output b bytes).answer
      go true e = absurd (omega arith)
      go false e = absurd (omega arith)

  check-one : (output : List ℕ) → One Why1 (check A B proof output).answer
  unfolding check check_by
  check-one output = left_one _ output (bind interpolant-one λ x _. says-accepted tt)

pub check_1 : {A B proof output left : List ℕ} {r : WriteResult} → Checks A B proof output left r → r.answer.number ≡ 1 → Why1 A B proof r.answer
check_1 {A = X} {B = Y} {proof} {output} c = subst (λ (w : Written). One (Why1 X Y proof) w.answer) (sym c.is) (check-one X Y proof output)

module _ (A B : List ℕ) where
  abbrev Shown1 : Answer → Type 0
  Shown1 a = TooLong A B (Unit {0}) a.file

  shown-one : (line : ℕ) → Tells (One Shown1) (shown_part newest_edition A B line) (λ _. Unit {0})
  unfolding shown_part both_read
  shown-one line = bind (lengths-one Shown1 A B (Unit {0}) (λ _ w. w) λ s. bundles-one Shown1 A B (Unit {0}) (λ _ w. w) s tt) λ x _. weaken (finds _ _ (λ e. absurd (omega arith))) (λ _ q. q) (λ _ _. tt)

  shown_by : {X : Type 0} (r : Result X) → Tells (One Shown1) r (λ _. Unit {0}) → One Shown1 (answer_of r)
  unfolding answer_of
  shown_by (refused a) s = s.refusal a refl
  shown_by (accepted x) s = λ e. absurd (omega arith)

  show-one : (line : ℕ) → One Shown1 (show_answer newest_edition A B line)
  unfolding show_answer
  show-one line = shown_by (shown_part newest_edition A B line) (shown-one line)

pub show_1 : {A B : List ℕ} {line : ℕ} {r : Answer} → AnswersShow A B line r → r.number ≡ 1 → TooLong A B (Unit {0}) r.file
show_1 {A = X} {B = Y} {line} c = subst (One (Shown1 X Y)) (sym c.is) (show-one X Y line)

-- what is read, in whatever file it is refused: too long for every edition, or for edition 1
abbrev Long : List ℕ → Type 0
Long bytes = (8_192 < length bytes) ⊎ (Says bytes 1 × (4_096 < length bytes))

module _ (file kinds : List ℕ) (numbers : List ℤ) where
  stored_one : (r : Result Bundle) → Tells (One (λ _. Long file)) r (λ _. Unit {0}) → One (λ _. Long file) (stored kinds numbers r).answer
  unfolding stored store unread
  stored_one (refused a) s = s.refusal a refl
  stored_one (accepted b) s = go (leb (length (kinds_of b.constraints)) (length kinds) && leb (length (numbers_of b.constraints)) (length numbers))
    where
      go : (t : Bool) → One (λ _. Long file) (store kinds numbers t b).answer
      go true e = absurd (omega arith)
      go false e = absurd (omega arith)

  read_one : One (λ _. Long file) (read_bundle kinds numbers newest_edition file).answer
  unfolding read_bundle
  read_one = stored_one _ (at-most (λ _. Long file) _ file_a file (λ h. inl h) λ s. weaken (bundle-one (λ _. Long file) file_a none file s λ e l. inr (e, l)) (λ _ q. q) (λ _ _. tt))

pub read_1 : {file kinds : List ℕ} {numbers : List ℤ} {kinds' : List ℕ} {numbers' : List ℤ} {r : ReadResult} → Reads file kinds numbers kinds' numbers' r → r.answer.number ≡ 1 → Long file
read_1 {file} {kinds} {numbers} c = subst (λ (b : BundleRead). One (λ _. Long file) b.answer) (sym c.is) (read_one file kinds numbers)
