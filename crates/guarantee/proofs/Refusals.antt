-- Demand 1 holds of the operations. Assumes nothing.
use mathlib.Core.Path.{◌≡◌, refl, sym, ◌∙◌, ap, subst}
use mathlib.Core.Bool.{Bool, true, false, ◌&&◌}
use mathlib.Core.List.{List, [], ◌∷◌}
use mathlib.Core.Option.{some}
use mathlib.Core.Logic.{◌⊎◌, inl, inr}
use Prim.Native.Nat.{ℕ, zero, suc, ◌/◌}
use native.Mathlib.Nat.{zero-add}
use native.Mathlib.Omega.{arith}
use lib.Dec.{leb, ltb}
use borrow.Author.Tests.{ltb-true, ltb-false}
use lib.ListN.{length}
use lib.IntN.{ℤ}
use Rattle.forms.specs.Edition.{Edition, edition1, newest_edition}
use Rattle.forms.specs.Forms.{Formula}
use Rattle.calculus.specs.Rules.{Row}
use Rattle.answers.specs.declared.Answer.{Answer}
use Rattle.answers.specs.declared.WriteResult.{WriteResult}
use Rattle.answers.specs.Answers.{answer, acceptance, file_lent, file_a, file_proof, Result, refused, accepted, ◌>>=◌, Written, over, fit, written}
use Rattle.answers.proofs.Results.{Gives, never, not-0, not-22, gives-refused, gives-accepted, weaken, bind, seq, test, finds, each-gives}
use Rattle.number_bytes.specs.Same.{same_bytes}
use Rattle.fields.specs.declared.FileKind.{FileKind}
use Rattle.fields.specs.Fields.{Field, Fields, ends, cut, ◌▸◌, fields}
use Rattle.fields.proofs.HeaderLaid.{header-gives, finished-gives}
use Rattle.bundle.specs.Bundle.{Bundle}
use Rattle.bundle.specs.Read.{BundleRead, kinds_of, numbers_of, unread, store, stored, read_bundle}
use Rattle.bundle.specs.Write.{write_bundle}
use Rattle.bundle.specs.Show.{Part, shown_part, answer_of, handed, show_part, show_answer}
use Rattle.bundle.proofs.Laid.{short-gives, bundle-gives, both-read-gives}
use Rattle.bundle.proofs.Writable.{encode_bundle-gives}
use Rattle.bundle_show.specs.Promises.{part_bytes, behind, part_place}
use Rattle.formula.specs.Formula.{FormulaTag, pair, atom, stride, formula_of, formula_field, two_parts, formula_within, read_formula, formula_file}
use Rattle.formula.specs.Test.{Tested as Outcome, tested, judged, test_formula}
use Rattle.formula.specs.TestList.{vectors, read_for_list, truths, test_list}
use Rattle.printing.specs.Print.{print_formula}
use Rattle.printing.proofs.Accepted.{printed-gives}
use Rattle.proof.specs.Check.{interpolant, check_by, check}
use Rattle.proof.proofs.Agree.{never-0, never_22}
use Rattle.proof.specs.Promises.{Checks}
use Rattle.enumeration.specs.ShortProofs.{proof_file}
use Rattle.enumeration.specs.Next.{first_rows, following, next_rows, next_file, next_proof}
use Rattle.enumeration.proofs.Listed.{short_proofs-gives}
use Rattle.conversion.specs.Turning.{turn_bundle, turn_proof}
use Rattle.conversion.proofs.Bundles.{bundle-turned-gives}
use Rattle.conversion.proofs.Proofs.{proof-turned-gives}
use Rattle.bundle_show.specs.Copied.{Copied}
use Rattle.shortening.specs.Shorten.{Shorter, shortening, Shortened, fit_both, written_both, shorten}
use Rattle.shortening.proofs.Promised.{shortening-not-0, shortening-not-22}
use Rattle.scheduler.specs.declared.Job.{Job}
use Rattle.scheduler.specs.declared.Scheduler.{Scheduler}
use Rattle.scheduler.specs.declared.Changed.{Changed}
use Rattle.scheduler.specs.declared.Turned.{Turned}
use Rattle.scheduler.specs.Scheduler.{slot_at, is_waiting}
use Rattle.scheduler.specs.Promises.{Submits, Cancels, Turns}
use Rattle.scheduler.specs.Fair.{AllLie, CheckedAlone}
use Rattle.scheduler.proofs.Fair.{lie-or-not, answers}
use Rattle.guarantee.proofs.Runs.{told_of}
use Rattle.guarantee.specs.Refusals.{ToldByNumber, Refusals}

-- ---- a result whose refusals all have a number that is given: neither 0 nor 22
record Numbered {X : Type 0} (r : Result X) : Type 0 where
  not-zero : (a : Answer) → r ≡ refused a → ¬ (a.number ≡ 0)
  not_free : (a : Answer) → r ≡ refused a → ¬ (a.number ≡ 22)

by_number : {X : Type 0} {P : X → Type 0} {r : Result X} → Gives r P → Numbered r
by_number g = record { not-zero = λ a e. not-0 (g.refusal a e); not_free = λ a e. not-22 (g.refusal a e) }

-- ---- the number tells acceptance
told-refused : {a : Answer} → ¬ (a.number ≡ 0) → ¬ (a.number ≡ 22) → ToldByNumber a
told-refused h k = record { accepts = (λ e. absurd (h e), λ e. ap (λ (a : Answer). a.number) e); never_22 = k }

told-accepted : ToldByNumber acceptance
told-accepted = record { accepts = (λ _. refl, λ _. refl); never_22 = λ e. omega arith }

told-by : {X : Type 0} {a : Answer} → Numbered {X = X} (refused a) → ToldByNumber a
told-by {a = a} h = told-refused (h.not-zero a refl) (h.not_free a refl)

-- ---- what is written
abbrev pub Unwritten : (output : List ℕ) → Written → Type 0
Unwritten output w = ToldByNumber w.answer × (¬ (w.answer.number ≡ 0) → (w.output ≡ output) × (w.count ≡ 0))

fit-told : (output : List ℕ) (b : Bool) (bytes : List ℕ) → Unwritten output (fit output b bytes)
unfolding fit
fit-told output true bytes = (told-accepted, λ h. absurd (h refl))
fit-told output false bytes = (told-refused (λ e. omega arith) (λ e. omega arith), λ _. (refl, refl))

written-told : (r : Result (List ℕ)) → Numbered r → (output : List ℕ) → Unwritten output (written r output)
unfolding written
written-told (refused a) h output = (told-by h, λ _. (refl, refl))
written-told (accepted bytes) h output = fit-told output (leb (length bytes) (length output)) bytes

then-numbered : {X : Type 0} (r : Result X) (f : X → List ℕ) → Numbered r → Numbered (r >>= λ x. accepted (f x))
unfolding ◌>>=◌
then-numbered (refused a) f h = record {
  not-zero = λ b e. h.not-zero b (let p : a ≡ b = cc in ap refused p);
  not_free = λ b e. h.not_free b (let p : a ≡ b = cc in ap refused p);
}
then-numbered (accepted x) f h = record { not-zero = λ b e. absurd (never (sym e)); not_free = λ b e. absurd (never (sym e)) }

pub check-told : (A B proof output : List ℕ) → Unwritten output (check A B proof output)
unfolding check check_by
check-told A B proof output =
    written-told _ (then-numbered (interpolant newest_edition A B proof) (λ (K, I). formula_file edition1 K I) (record { not-zero = never-0 newest_edition A B proof; not_free = never_22 newest_edition A B proof })) output

pub write-told : (n K : ℕ) (kinds : List ℕ) (numbers : List ℤ) (output : List ℕ) → Unwritten output (write_bundle newest_edition n K kinds numbers output)
unfolding write_bundle
write-told n K kinds numbers output = written-told _ (by_number (encode_bundle-gives newest_edition n K kinds numbers)) output

turn-bundle-told : (to : ℕ) (file output : List ℕ) → Unwritten output (turn_bundle to file output)
unfolding turn_bundle
turn-bundle-told to file output = written-told _ (by_number (bundle-turned-gives to file)) output

turn-proof-told : (to : ℕ) (file output : List ℕ) → Unwritten output (turn_proof to file output)
unfolding turn_proof
turn-proof-told to file output = written-told _ (by_number (proof-turned-gives to file)) output

-- ---- what is shortened
module _ (report table : List ℕ) where
  abbrev Unshortened : Shortened → Type 0
  Unshortened w = ToldByNumber w.answer × (¬ (w.answer.number ≡ 0) → (w.report ≡ report) × (w.table ≡ table) × (w.rows ≡ 0) × (w.count ≡ 0))

  both_told : (b : Bool) (s : Shorter) → Unshortened (fit_both report table b s)
  unfolding fit_both
  both_told true s = (told-accepted, λ h. absurd (h refl))
  both_told false s = (told-refused (λ e. omega arith) (λ e. omega arith), λ _. (refl, refl, refl, refl))

  shortened-told : (r : Result Shorter) → Numbered r → Unshortened (written_both report table r)
  unfolding written_both
  shortened-told (refused a) h = (told-by h, λ _. (refl, refl, refl, refl))
  shortened-told (accepted s) h = both_told (leb (length s.report) (length report) && leb (length s.table) (length table)) s

  shorten-told : (A B proof : List ℕ) → Unshortened (shorten A B proof report table)
  unfolding shorten
  shorten-told A B proof = shortened-told (shortening newest_edition A B proof) (record { not-zero = shortening-not-0 A B proof; not_free = shortening-not-22 A B proof })

-- the next short proof
either-gives : {X : Type 0} {P : X → Type 0} (b : Bool) {p q : Result X} → Gives p P → Gives q P → Gives (elim b [ true ↦ p | false ↦ q ]) P
either-gives true g h = g
either-gives false g h = h

first_gives : (rss : List (List Row)) → Gives (first_rows rss) (λ _. Unit {0})
unfolding first_rows
first_gives [] = gives-refused _ tt
first_gives (rs ∷ rss) = gives-accepted tt

following-gives : (K : ℕ) (table : List ℕ) (rss : List (List Row)) → Gives (following K table rss) (λ _. Unit {0})
unfolding following
following-gives K table [] = gives-refused _ tt
following-gives K table (rs ∷ rss) = either-gives (same_bytes (proof_file K rs) table) (first_gives rss) (following-gives K table rss)

next-told : (A B table output : List ℕ) → Unwritten output (next_proof A B table output)
unfolding next_proof next_file next_rows
next-told A B table output =
    written-told _ (by_number {P = λ _. Unit {0}} (bind (short_proofs-gives A B) λ (K, rss) _. bind (either-gives (same_bytes (proof_file K []) table) (first_gives rss) (following-gives K table rss)) λ rs _. gives-accepted tt)) output

-- ---- what is read
abbrev Unread : (kinds : List ℕ) (numbers : List ℤ) → BundleRead → Type 0
Unread kinds numbers r = ToldByNumber r.answer × (¬ (r.answer.number ≡ 0) → (r.kinds ≡ kinds) × (r.numbers ≡ numbers) × (r.edition ≡ 0) × (r.count ≡ 0) × (r.K ≡ 0))

module _ (kinds : List ℕ) (numbers : List ℤ) where
  store_told : (t : Bool) (b : Bundle) → Unread kinds numbers (store kinds numbers t b)
  unfolding store unread
  store_told true b = (told-accepted, λ h. absurd (h refl))
  store_told false b = (told-refused (λ e. omega arith) (λ e. omega arith), λ _. (refl, refl, refl, refl, refl))

  stored-told : (r : Result Bundle) → Numbered r → Unread kinds numbers (stored kinds numbers r)
  unfolding stored unread
  stored-told (refused a) h = (told-by h, λ _. (refl, refl, refl, refl, refl))
  stored-told (accepted b) h = store_told (leb (length (kinds_of b.constraints)) (length kinds) && leb (length (numbers_of b.constraints)) (length numbers)) b

  pub read_told : (file : List ℕ) → Unread kinds numbers (read_bundle kinds numbers newest_edition file)
  unfolding read_bundle
  read_told file = stored-told _ (by_number (seq (short-gives _ _ file) λ _. bundle-gives newest_edition file_a _ file))

-- ---- what is shown
shown-told : (r : Result Part) → Numbered r
    → ToldByNumber (answer_of r) × (¬ ((answer_of r).number ≡ 0) → handed r ≡ record { file = file_a; start = 0; size = 0 })
unfolding answer_of handed
shown-told (refused a) h = (told-by h, λ _. refl)
shown-told (accepted p) h = (told-accepted, λ h. absurd (h refl))

show-told : (A B : List ℕ) (line : ℕ)
    → ToldByNumber (show_answer newest_edition A B line) × (¬ ((show_answer newest_edition A B line).number ≡ 0) → show_part newest_edition A B line ≡ record { file = file_a; start = 0; size = 0 })
unfolding show_answer show_part shown_part
show-told A B line = shown-told _ (by_number {P = λ _. Unit {0}} (bind (both-read-gives newest_edition A B) λ (a, b) _. weaken (finds _ _ tt) λ _ _. tt))

-- ---- what is tested
abbrev pub GivesAny : {X : Type 0} → Result X → Type 0
GivesAny r = Gives r (λ _. Unit {0})

module _ (e : Edition) (K : ℕ) where
  abbrev Two : Type 0
  Two = (at : ℕ) → Fields → Result (Formula × Formula × Fields)

  of-gives : (two : Two) → ((at : ℕ) (fs : Fields) → GivesAny (two at fs)) → (f : Field) (fs : Fields) (t : FormulaTag) → GivesAny (formula_of e K two f fs t)
  unfolding formula_of
  of-gives two h f fs (pair c) = bind (h f.at fs) λ (I, J, after) _. gives-accepted tt
  of-gives two h f fs (atom k) = gives-accepted tt
  of-gives two h f fs stride = test _ _ tt λ _. gives-accepted tt

  field-gives : (two : Two) → ((at : ℕ) (fs : Fields) → GivesAny (two at fs)) → (fs : Fields) → GivesAny (formula_field e K two fs)
  unfolding formula_field
  field-gives two h (ends at) = gives-refused _ tt
  field-gives two h (cut at) = gives-refused _ tt
  field-gives two h (f ▸ fs) = test _ _ tt λ _. bind (finds _ _ tt) λ t _. test _ _ tt λ _. of-gives two h f fs t

  within-gives : (levels : ℕ) (fs : Fields) → GivesAny (formula_within e K levels fs)
  unfolding formula_within two_parts
  within-gives zero fs = field-gives _ (λ at fs. gives-refused _ tt) fs
  within-gives (suc levels) fs = field-gives _ (λ at fs. bind (within-gives levels fs) λ (I, fs1) _. bind (within-gives levels fs1) λ (J, fs2) _. gives-accepted tt) fs

reading-gives : (K : ℕ) (fs : Fields) → GivesAny (read_formula K fs)
unfolding read_formula
reading-gives K fs =
    bind (header-gives FileKind.Formula file_proof 1 (some K) fs) λ h _. bind (within-gives edition1 h.K edition1.levels h.rest) λ (I, after) _.
    seq (finished-gives FileKind.Formula file_proof after) λ _. gives-accepted tt

tested-numbered : (formula : List ℕ) (values : List ℤ) → Numbered (tested formula values)
unfolding tested
tested-numbered formula values =
    by_number (test _ _ tt λ _. seq (each-gives _ _ (λ i. tt) 0 values) λ _. test _ _ tt λ _. reading-gives (length values) (fields formula))

abbrev Untested : Outcome → Type 0
Untested t = ToldByNumber t.answer × (¬ (t.answer.number ≡ 0) → t.holds ≡ false)

judged-told : (values : List ℤ) (r : Result Formula) → Numbered r → Untested (judged values r)
unfolding judged
judged-told values (refused a) h = (told-by h, λ _. refl)
judged-told values (accepted I) h = (told-accepted, λ h. absurd (h refl))

pub test-told : (formula : List ℕ) (values : List ℤ) → Untested (test_formula formula values)
unfolding test_formula
test-told formula values = judged-told values (tested formula values) (tested-numbered formula values)

pub list-told : (formula : List ℕ) (K : ℕ) (values : List ℤ) (output : List ℕ) → Unwritten output (test_list formula K values output)
unfolding test_list read_for_list
list-told formula K values output =
    written-told _ (then-numbered _ (λ I. truths I (vectors K (length values / K) values)) (by_number (test _ _ tt λ _. seq (each-gives _ _ (λ i. tt) 0 values) λ _. test _ _ tt λ _. reading-gives K (fields formula)))) output

print-told : (wording : Bool) (formula output : List ℕ) → Unwritten output (print_formula wording formula output)
unfolding print_formula
print-told wording formula output = written-told _ (by_number (printed-gives wording formula)) output

behind-0 : (p : ℕ × ℕ) → behind p 0 ≡ p
behind-0 p = ap (λ (n : ℕ). (p.0, n)) (zero-add p.1)

-- nothing is copied of an empty part
none-copied : {part output left : List ℕ} {count : ℕ} → Copied part output left count → part ≡ [] → (left ≡ output) × (count ≡ 0)
unfolding over
none-copied {part} {output} c e =
    let size : length part ≡ 0 = ap length e in
    (c.fits (omega arith) ∙ ap (λ (bs : List ℕ). over bs output) e, c.size ∙ size)

-- ---- the scheduler's calls
refused-so : {a : Answer} (n : ℕ) → a ≡ answer n file_lent 0 → ¬ (n ≡ 0) → ¬ (n ≡ 22) → ToldByNumber a
refused-so n e h k = rw e (told-refused h k)

accepted-so : {a : Answer} {P : Type 0} → a ≡ acceptance → ToldByNumber a × (¬ (a.number ≡ 0) → P)
accepted-so e = (rw e told-accepted, λ h. absurd (h (ap (λ (x : Answer). x.number) e)))

submit-told : (s : Scheduler) (seat : ℕ) (job : Job) (r : Changed) → Submits s seat job r → ToldByNumber r.answer × (¬ (r.answer.number ≡ 0) → r.scheduler ≡ s)
submit-told s seat job r c = go (ltb seat 8) refl (is_waiting s seat) refl
  where
    go : (b : Bool) → ltb seat 8 ≡ b → (w : Bool) → is_waiting s seat ≡ w → ToldByNumber r.answer × (¬ (r.answer.number ≡ 0) → r.scheduler ≡ s)
    go false e w q = let x = answers.submit_29 s seat job r c (ltb-false seat 8 e) in (refused-so 29 x.0 (λ z. omega arith) (λ z. omega arith), λ _. x.1)
    go true e true q = let x = answers.submit_30 s seat job r c (ltb-true seat 8 e) q in (refused-so 30 x.0 (λ z. omega arith) (λ z. omega arith), λ _. x.1)
    go true e false q = accepted-so (answers.submit_taken s seat job r c (ltb-true seat 8 e) q).0

cancel-told : (s : Scheduler) (seat : ℕ) (r : Changed) → Cancels s seat r → ToldByNumber r.answer × (¬ (r.answer.number ≡ 0) → r.scheduler ≡ s)
cancel-told s seat r c = go (ltb seat 8) refl (is_waiting s seat) refl
  where
    go : (b : Bool) → ltb seat 8 ≡ b → (w : Bool) → is_waiting s seat ≡ w → ToldByNumber r.answer × (¬ (r.answer.number ≡ 0) → r.scheduler ≡ s)
    go false e w q = let x = answers.cancel_29 s seat r c (ltb-false seat 8 e) in (refused-so 29 x.0 (λ z. omega arith) (λ z. omega arith), λ _. x.1)
    go true e false q = let x = answers.cancel_31 s seat r c (ltb-true seat 8 e) q in (refused-so 31 x.0 (λ z. omega arith) (λ z. omega arith), λ _. x.1)
    go true e true q = accepted-so (answers.cancel_taken s seat r c (ltb-true seat 8 e) q).0

check-unwritten : (A B proof output left : List ℕ) (r : WriteResult) → Checks A B proof output left r → ToldByNumber r.answer × (¬ (r.answer.number ≡ 0) → (left ≡ output) × (r.count ≡ 0))
check-unwritten A B proof output left r c = subst (Unwritten output) (sym c.is) (check-told A B proof output)

turn-told : (s : Scheduler) (buffer output left : List ℕ) (r : Turned) → Turns s buffer output left r
    → (r.result.answer.number ≡ 0 → r.idle ≡ false) × ToldByNumber r.result.answer × (¬ (r.result.answer.number ≡ 0) → (left ≡ output) × (r.result.count ≡ 0))
turn-told s buffer output left r c = go r.idle refl
  where
    job : Job
    job = (slot_at s r.seat).job

    served : CheckedAlone job buffer output left r.result → AllLie buffer job ⊎ (AllLie buffer job → ⊥) → ToldByNumber r.result.answer × (¬ (r.result.answer.number ≡ 0) → (left ≡ output) × (r.result.count ≡ 0))
    served a (inl l) = check-unwritten _ _ _ output left r.result (a.checks l)
    served a (inr l) = let x = a.outside l in (refused-so 34 x.0 (λ z. omega arith) (λ z. omega arith), λ _. (x.2, x.1))

    go : (b : Bool) → r.idle ≡ b → (r.result.answer.number ≡ 0 → r.idle ≡ false) × ToldByNumber r.result.answer × (¬ (r.result.answer.number ≡ 0) → (left ≡ output) × (r.result.count ≡ 0))
    go true e =
        let x = answers.turn_idle s buffer output left r c e in
        let n : r.result.answer.number ≡ 35 = ap (λ (a : Answer). a.number) x.3 in (
          λ z. absurd (omega (arith, n, z)),
          refused-so 35 x.3 (λ z. omega arith) (λ z. omega arith),
          λ _. (x.1, x.4),
        )
    go false e = let (told, none) = served (answers.turn_serves s buffer output left r c e).4 (lie-or-not buffer job) in (λ _. e, told, none)

-- Demand 1.
pub refusals : Refusals
refusals = record {
  guards = λ buffer lengths proof output sizes left sizesLeft r w. told_of w;
  check = λ A B proof output left r c. subst (Unwritten output) (sym c.is) (check-told A B proof output);
  read = λ file kinds numbers kinds' numbers' r c. subst (Unread kinds numbers) (sym c.is) (read_told kinds numbers file);
  turn-bundle = λ to file output left r c. subst (Unwritten output) (sym c.is) (turn-bundle-told to file output);
  turn-proof = λ to file output left r c. subst (Unwritten output) (sym c.is) (turn-proof-told to file output);
  next-proof = λ A B table output left r c. subst (Unwritten output) (sym c.is) (next-told A B table output);
  write = λ n K kinds numbers output left r c. subst (Unwritten output) (sym c.is) (write-told n K kinds numbers output);
  show = λ a b line part r s c.
      let (told, empty) = show-told a.now b.now line in (
        subst ToldByNumber (sym c.is) told,
        λ h.
            let e = empty (λ z. h (ap (λ (x : Answer). x.number) c.is ∙ z)) in
            (s.bytes ∙ ap (λ (p : Part). part_bytes p a.now b.now) e, s.place ∙ ap (λ (p : Part). part_place p a.ref_ptr b.ref_ptr) e ∙ behind-0 a.ref_ptr),
      );
  show_copied = λ A B line output left count r k c h.
      let e = (show-told A B line).1 (λ z. h (ap (λ (x : Answer). x.number) c.is ∙ z)) in
      none-copied k (ap (λ (p : Part). part_bytes p A B) e);
  test = λ formula values r c. let t = test-told formula values in rw c.is t;
  submit = submit-told;
  cancel = cancel-told;
  turn = turn-told;
  test-list = λ formula K values output left r c. subst (Unwritten output) (sym c.is) (list-told formula K values output);
  shorten = λ A B proof report table reportLeft tableLeft r c. subst (Unshortened report table) (sym c.is) (shorten-told report table A B proof);
  print = λ wording formula output left r c. subst (Unwritten output) (sym c.is) (print-told wording formula output);
}
