-- What check refuses in a proof by a number up to 7, turning refuses at the same place. Assumes nothing.
use mathlib.Core.Path.{◌≡◌, refl, sym, ◌∙◌, ap, subst}
use mathlib.Core.Option.{Option, none, some}
use mathlib.Core.Bool.{Bool, true, false, ◌&&◌}
use mathlib.Core.List.{List}
use Prim.Native.Nat.{ℕ, zero, suc, ◌-◌, ◌≤◌}
use native.Mathlib.Omega.{arith}
use borrow.Author.Tests.{leb-true, eq-eqb, ne_eqb}
use mir.Facts.{and_yes}
use lib.Dec.{T, leb, eqb, leb→le}
use lib.ListN.{length}
use Rattle.forms.specs.Edition.{Edition, edition, edition1, newest_edition}
use Rattle.forms.specs.Forms.{Form, Side, Line, Formula}
use Rattle.calculus.specs.Rules.{Row, Derive, Strengthen, CloseNumber, CloseStride, Round, Split, Inference, Combine, Reduce, Scale, Entry, row, claim}
use Rattle.answers.specs.declared.Answer.{Answer}
use Rattle.answers.specs.declared.Position.{Position}
use Rattle.answers.specs.Answers.{answer, refusal_at, file_a, file_b, file_proof, Result, refused, accepted, ◌>>=◌, ◌>>◌, need, found, fit, written}
use Rattle.answers.proofs.Results.{binds, passes, bind-refused, then-refused}
use Rattle.fields.specs.declared.FileKind.{FileKind}
use Rattle.fields.specs.Fields.{Field, Fields, ends, cut, ◌▸◌, fields}
use Rattle.fields.specs.Header.{Header, known, agrees, header_field, edition_field, constants_field, header, finished}
use Rattle.bundle.specs.Bundle.{Bundle, at_most, constraints, bundle_header, bundle, bundles}
use Rattle.formula.specs.Formula.{formula_file}
use Rattle.bundle.specs.Layout.{edition_said, Says as Names}
use Rattle.bundle.proofs.Laid.{short-accepted}
use Rattle.proof.specs.Entries.{EntryTag, combine_tag, reduce_tag, scale_tag, strengthen_tag, number_tag, stride_tag, round_tag, split_tag, claim_tag, entry_tagged, in_place, size_of, entry_from, entry}
use Rattle.proof.specs.Rows.{line_at, derived, fitting, inequality, roundable, disequality, by_number, by_stride}
use Rattle.proof.specs.Check.{Closing, Checker, Following, there, check_rounded, check_split, check_row, check_entry, check_entries, check_branch, check_proof, formula_at_most, interpolant, check_by, check}
use Rattle.proof.proofs.Satisfies.{Satisfies, says-refused, says-accepted, bind, seq, says-need, test, finds, weaken}
use Rattle.proof.proofs.Entered.{entry-unknown, entry-none, entry-out, entry_in}
use Rattle.conversion.specs.Turning.{other, other_edition, makes_line, entries_read, proof_turned}
use Rattle.conversion.proofs.Asking.{Asked, down, up, asked-accepted, said-gives}

-- ---- what a row refuses has a number above 7
module _ {Q : Answer → Type 0} (refusal : ℕ → Answer) (h : (n : ℕ) → T (leb 8 n) → Q (refusal n)) (ls : List Line) where
  line-late : (i : ℕ) → Satisfies Q (line_at refusal ls i) (λ _. Unit {0})
  unfolding line_at
  line-late i = weaken (finds _ _ (h 10 tt)) (λ a q. q) (λ _ _. tt)

  derived-late : (s : Inference) → Satisfies Q (derived refusal ls s) (λ _. Unit {0})
  unfolding derived
  derived-late (Combine i j α β) = bind (line-late i) λ s _. bind (line-late j) λ t _. test _ _ (h 11 tt) λ _. test _ _ (h 12 tt) λ _. says-accepted tt
  derived-late (Reduce i j α) = bind (line-late i) λ s _. bind (line-late j) λ t _. bind (finds _ _ (h 11 tt)) λ k _. test _ _ (h 11 tt) λ _. test _ _ (h 12 tt) λ _. says-accepted tt
  derived-late (Scale i α) = bind (line-late i) λ t _. bind (finds _ _ (h 11 tt)) λ k _. test _ _ (h 12 tt) λ _. says-accepted tt

  fitting-late : (e : Edition) (l : Line) → Satisfies Q (fitting refusal ls e l) (λ _. Unit {0})
  unfolding fitting
  fitting-late e l = test _ _ (h 16 tt) λ _. weaken (says-need _ _ (h 13 tt)) (λ a q. q) (λ _ _. tt)

  inequality-late : (i : ℕ) → Satisfies Q (inequality refusal ls i) (λ _. Unit {0})
  unfolding inequality
  inequality-late i = bind (line-late i) λ t _. test _ _ (h 11 tt) λ _. says-accepted tt

  roundable-late : (e : Edition) (i g k : ℕ) → Satisfies Q (roundable refusal ls e i g k) (λ _. Unit {0})
  unfolding roundable
  roundable-late e i g k = bind (inequality-late i) λ t _. test _ _ (h 12 tt) λ _. test _ _ (h 15 tt) λ _. says-accepted tt

  disequality-late : (i : ℕ) → Satisfies Q (disequality refusal ls i) (λ _. Unit {0})
  unfolding disequality
  disequality-late i = bind (line-late i) λ t _. bind (finds _ _ (h 11 tt)) λ σ _. says-accepted tt

  by_number-late : (i : ℕ) → Satisfies Q (by_number refusal ls i) (λ _. Unit {0})
  unfolding by_number
  by_number-late i = bind (line-late i) λ t _. bind (finds _ _ (h 11 tt)) λ k _. test _ _ (h 15 tt) λ _. says-accepted tt

  by_stride-late : (i g : ℕ) → Satisfies Q (by_stride refusal ls i g) (λ _. Unit {0})
  unfolding by_stride
  by_stride-late i g = bind (line-late i) λ t _. test _ _ (h 11 tt) λ _. test _ _ (h 12 tt) λ _. test _ _ (h 15 tt) λ _. says-accepted tt

-- ---- a field is the same entry, or refused by the same number, whatever else a refusal tells
data Alike (refusal refusal' : ℕ → Answer) (made : Bool) (r r' : Result Entry) : Type 0 where
  both-refused : (n : ℕ) → r ≡ refused (refusal n) → r' ≡ refused (refusal' n) → Alike refusal refusal' made r r'
  both-entries : (x : Entry) → r ≡ accepted x → r' ≡ accepted x → ((t t_A : Form) → x ≡ claim t t_A → T made) → Alike refusal refusal' made r r'

claim-placed : (e : Edition) (K : ℕ) (made : Bool) (x : EntryTag) (bs : List ℕ) → in_place made x ≡ true → (t t_A : Form) → entry_from e K x bs ≡ claim t t_A → T made
unfolding in_place entry_from
claim-placed e K made combine_tag bs p t t_A h = absurd (let z : ◌≡◌ {A = ℕ} 0 1 = cc in omega arith)
claim-placed e K made reduce_tag bs p t t_A h = absurd (let z : ◌≡◌ {A = ℕ} 0 1 = cc in omega arith)
claim-placed e K made scale_tag bs p t t_A h = absurd (let z : ◌≡◌ {A = ℕ} 0 1 = cc in omega arith)
claim-placed e K made strengthen_tag bs p t t_A h = absurd (let z : ◌≡◌ {A = ℕ} 0 1 = cc in omega arith)
claim-placed e K made number_tag bs p t t_A h = absurd (let z : ◌≡◌ {A = ℕ} 0 1 = cc in omega arith)
claim-placed e K made stride_tag bs p t t_A h = absurd (let z : ◌≡◌ {A = ℕ} 0 1 = cc in omega arith)
claim-placed e K made round_tag bs p t t_A h = absurd (let z : ◌≡◌ {A = ℕ} 0 1 = cc in omega arith)
claim-placed e K made split_tag bs p t t_A h = absurd (let z : ◌≡◌ {A = ℕ} 0 1 = cc in omega arith)
claim-placed e K made claim_tag bs p t t_A h = rw p tt

module _ (e : Edition) (K : ℕ) (refusal refusal' : ℕ → Answer) (made : Bool) (f : Field) where
  abbrev Same : Type 0
  Same = Alike refusal refusal' made (entry e K refusal made f) (entry e K refusal' made f)

  module _ (k : known FileKind.Proof f.tag ≡ true) (x : EntryTag) (t : entry_tagged f.tag ≡ some x) where
    alike-sized : in_place made x ≡ true → (b : Bool) → eqb (length f.contents) (size_of e K x) ≡ b → Same
    unfolding need ◌>>◌
    alike-sized p true s = both-entries (entry_from e K x f.contents) (entry_in e K refusal made f x k t p ∙ rw s) (entry_in e K refusal' made f x k t p ∙ rw s) (claim-placed e K made x f.contents p)
    alike-sized p false s = both-refused 6 (entry_in e K refusal made f x k t p ∙ rw s) (entry_in e K refusal' made f x k t p ∙ rw s)

    alike-placed : (b : Bool) → in_place made x ≡ b → Same
    alike-placed true p = alike-sized p (eqb (length f.contents) (size_of e K x)) refl
    alike-placed false p = both-refused 4 (entry-out e K refusal made f x k t p) (entry-out e K refusal' made f x k t p)

  alike-tagged : known FileKind.Proof f.tag ≡ true → (o : Option EntryTag) → entry_tagged f.tag ≡ o → Same
  alike-tagged k none t = both-refused 4 (entry-none e K refusal made f k t) (entry-none e K refusal' made f k t)
  alike-tagged k (some x) t = alike-placed k x t (in_place made x) refl

  alike-known : (b : Bool) → known FileKind.Proof f.tag ≡ b → Same
  alike-known true k = alike-tagged k (entry_tagged f.tag) refl
  alike-known false k = both-refused 3 (entry-unknown e K refusal made f k) (entry-unknown e K refusal' made f k)

  alike : Same
  alike = alike-known (known FileKind.Proof f.tag) refl

-- ---- the entries of a branch: a refusal up to 7 is that of reading them (R), and behind a closed branch both go on
abbrev Told : Result (Unit {0}) → Answer → Type 0
Told R a = a.number ≤ 7 → R ≡ refused (answer a.number file_proof a.place)

module _ (e : Edition) (K : ℕ) where
  abbrev read : (made : Bool) → Fields → Result (Unit {0})
  read = entries_read e K

  abbrev Follows : Result (Unit {0}) → Result Closing → Type 0
  Follows R r = Satisfies (Told R) r (λ c. R ≡ read false c.after)

  abbrev Reads : Checker → Type 0
  Reads checker = (p : Position) (rows : ℕ) (ls : List Line) (fs : Fields) → Follows (read false fs) (checker p rows ls fs)

  abbrev ReadsIn : Option Checker → Type 0
  ReadsIn none = Unit
  ReadsIn (some checker) = Reads checker

  follows_on : {R R' : Result (Unit {0})} {r : Result Closing} → R ≡ R' → Follows R' r → Follows R r
  follows_on q s = weaken s (λ a t n. q ∙ t n) (λ c m. q ∙ m)

  rounded-follows : (checker : Checker) → Reads checker → (ls : List Line) (l : Line) (step g k j left rows : ℕ) (fs : Fields) → Follows (read false fs) (check_rounded checker ls l step g k j left rows fs)
  unfolding check_rounded
  rounded-follows checker d ls l step g k j zero rows fs = bind (d _ rows _ fs) λ own m. says-accepted m
  rounded-follows checker d ls l step g k j (suc left) rows fs =
      bind (d _ rows _ fs) λ own m. bind (follows_on m (rounded-follows checker d ls l step g k (suc j) left own.rows own.after)) λ others m2. says-accepted m2

  module _ (refusal : ℕ → Answer) (late : (R : Result (Unit {0})) (n : ℕ) → T (leb 8 n) → Told R (refusal n)) where
    split-follows : (checker : Checker) → Reads checker → (σ : Side) (ls : List Line) (t t_A : Form) (rows : ℕ) (fs : Fields) → Follows (read false fs) (check_split e refusal checker σ ls t t_A rows fs)
    unfolding check_split
    split-follows checker d Side.A ls t t_A rows fs =
        seq (fitting-late refusal (late (read false fs)) ls e _) (seq (fitting-late refusal (late (read false fs)) ls e _)
        (bind (d _ _ _ fs) λ first m. bind (follows_on m (d _ _ _ first.after)) λ second m2. says-accepted m2))
    split-follows checker d Side.B ls t t_A rows fs =
        seq (fitting-late refusal (late (read false fs)) ls e _) (seq (fitting-late refusal (late (read false fs)) ls e _)
        (bind (d _ _ _ fs) λ first m. bind (follows_on m (d _ _ _ first.after)) λ second m2. says-accepted m2))

    deeper-follows : (R : Result (Unit {0})) (deeper : Option Checker) → ReadsIn deeper → {k : Checker → Result Closing} → ((c : Checker) → Reads c → Follows R (k c)) → Follows R (found (refusal 17) deeper >>= k)
    unfolding found ◌>>=◌
    deeper-follows R none p k = says-refused (late R 17 tt)
    deeper-follows R (some c) p k = k c p

    module _ (deeper : Option Checker) (p : ReadsIn deeper) (fs : Fields) (next : Following) (q : (rows : ℕ) (made : Option Line) (ls : List Line) → Follows (read (there made) fs) (next rows made ls)) (rows : ℕ) (ls : List Line) where
      abbrev R₀ : Result (Unit {0})
      R₀ = read false fs

      row-follows : (r : Row) → Follows (read (makes_line (row r)) fs) (check_row e K deeper next refusal rows ls fs r)
      unfolding check_row makes_line
      row-follows (Derive s) = bind (derived-late refusal (late (read true fs)) ls s) λ l _. seq (fitting-late refusal (late (read true fs)) ls e l) (q _ (some l) _)
      row-follows (Strengthen i) = bind (inequality-late refusal (late R₀) ls i) λ l _. deeper-follows R₀ deeper p λ branch d. seq (fitting-late refusal (late R₀) ls e _)
          (bind (d _ _ _ fs) λ first m. bind (follows_on m (d _ _ _ first.after)) λ second m2. bind (follows_on m2 (d _ _ _ second.after)) λ third m3. says-accepted m3)
      row-follows (Round i g k) = bind (roundable-late refusal (late R₀) ls e i g k) λ l _. deeper-follows R₀ deeper p λ branch d. seq (fitting-late refusal (late R₀) ls e _)
          (bind (d _ _ _ fs) λ first m. bind (follows_on m (rounded-follows branch d ls l rows g k 0 (k - 1) first.rows first.after)) λ others m2. says-accepted m2)
      row-follows (Split i) = bind (disequality-late refusal (late R₀) ls i) λ (σ, l) _. deeper-follows R₀ deeper p λ branch d. split-follows branch d σ ls l.t l.t_A rows fs
      row-follows (CloseNumber i) = bind (by_number-late refusal (late R₀) ls i) λ I _. says-accepted refl
      row-follows (CloseStride i g) = bind (by_stride-late refusal (late R₀) ls i g) λ I _. says-accepted refl

      entry_follows : (made : Option Line) (x : Entry) → ((t t_A : Form) → x ≡ claim t t_A → T (there made)) → Follows (read (makes_line x) fs) (check_entry e K deeper next refusal rows made ls fs x)
      unfolding check_entry makes_line found ◌>>=◌
      entry_follows made (row r) c = test _ _ (late (read (makes_line (row r)) fs) 18 tt) λ _. row-follows r
      entry_follows none (claim t t_A) c = absurd (c t t_A refl)
      entry_follows (some l) (claim t t_A) c = test _ _ (late R₀ 14 tt) λ _. q _ none _

  late-at : (p : Position) (rows at : ℕ) (R : Result (Unit {0})) (n : ℕ) → T (leb 8 n) → Told R (refusal_at p rows at n)
  late-at p rows at R n t h = absurd (omega (arith, leb→le 8 n t))

  module _ (p : Position) (deeper : Option Checker) (d : ReadsIn deeper) (f : Field) (fs : Fields) (rows : ℕ) (made : Option Line) (ls : List Line) where
    -- One field, if those behind it follow.
    field-follows : ((rows : ℕ) (made : Option Line) (ls : List Line) → Follows (read (there made) fs) (check_entries e K p deeper fs rows made ls))
        → Alike (refusal_at p rows f.at) (λ n. answer n file_proof f.at) (there made) (entry e K (refusal_at p rows f.at) (there made) f) (entry e K (λ n. answer n file_proof f.at) (there made) f)
        → Follows (read (there made) (f ▸ fs)) (check_entries e K p deeper (f ▸ fs) rows made ls)
    unfolding check_entries entries_read
    field-follows others (both-refused n q q') = subst (Follows (read (there made) (f ▸ fs))) (sym (bind-refused _ q)) (says-refused (λ _. bind-refused _ q'))
    field-follows others (both-entries x q q' c) = subst (Follows (read (there made) (f ▸ fs))) (sym (binds _ q))
        (follows_on (binds _ q') (entry_follows (refusal_at p rows f.at) (late-at p rows f.at) deeper d fs (check_entries e K p deeper fs) others rows ls made x c))

  entries-follow : (p : Position) (deeper : Option Checker) → ReadsIn deeper → (fs : Fields) (rows : ℕ) (made : Option Line) (ls : List Line) → Follows (read (there made) fs) (check_entries e K p deeper fs rows made ls)
  unfolding check_entries entries_read
  entries-follow p deeper d (ends at) rows made ls = says-refused (λ h. absurd (omega arith))
  entries-follow p deeper d (cut at) rows made ls = says-refused (λ _. refl)
  entries-follow p deeper d (f ▸ fs) rows made ls =
      field-follows p deeper d f fs rows made ls (entries-follow p deeper d fs) (alike e K (refusal_at p rows f.at) (λ n. answer n file_proof f.at) (there made) f)

  branch_follows : (room : ℕ) → Reads (check_branch e K room)
  unfolding check_branch
  branch_follows zero p rows ls fs = entries-follow p none tt fs rows none ls
  branch_follows (suc room) p rows ls fs = entries-follow p (some (check_branch e K room)) (branch_follows room) fs rows none ls

  -- what follows the root is read on
  root-known : (R : Result (Unit {0})) (at : ℕ) (b : Bool) → (b ≡ false → R ≡ refused (answer 3 file_proof at)) → Satisfies {X = Unit {0}} (Told R) (need (answer 3 file_proof at) b >> refused (answer 19 file_proof at)) (λ _. Unit {0})
  unfolding need ◌>>◌
  root-known R at true k = says-refused (λ h. absurd (omega arith))
  root-known R at false k = says-refused (λ _. k refl)

  finished-follows : (R : Result (Unit {0})) (fs : Fields) → R ≡ read false fs → Satisfies (Told R) (finished FileKind.Proof file_proof fs) (λ _. Unit {0})
  unfolding finished entries_read
  finished-follows R (ends at) q = says-accepted tt
  finished-follows R (cut at) q = says-refused (λ _. q)
  finished-follows R (f ▸ fs) q = root-known R f.at (known FileKind.Proof f.tag) λ k. q ∙ bind-refused _ (entry-unknown e K (λ n. answer n file_proof f.at) false f k)

-- ---- the header
abbrev kind : FileKind
kind = FileKind.Proof

module _ (to : ℕ) (asks : Asked to) (fs : Fields) (h : ¬ (edition_said fs ≡ some to)) where
  abbrev others : Result (Unit {0})
  others = other_edition kind file_proof to fs

  abbrev EditionTold : Result (ℕ × Fields) → Type 0
  EditionTold r = Satisfies (λ a. others ≡ refused a) r (λ _. others ≡ accepted tt)

  is-other : {to : ℕ} → Asked to → (n : ℕ) → T (leb 1 n && leb n newest_edition) → ¬ (n ≡ to) → n ≡ other to
  is-other down n t k = let (l, m) = and_yes (leb 1 n) (leb n 2) t in omega (arith, leb→le 1 n l, leb→le n 2 m, k)
  is-other up n t k = let (l, m) = and_yes (leb 1 n) (leb n 2) t in omega (arith, leb→le 1 n l, leb→le n 2 m, k)

  other-in : {to : ℕ} → Asked to → T (leb 1 (other to) && leb (other to) newest_edition)
  other-in down = tt
  other-in up = tt

  module _ (at n : ℕ) (rest : Fields) (q : header_field kind file_proof 0x01 fs ≡ accepted (at, n, rest)) where
    edition-by : (b : Bool) → (leb 1 n && leb n newest_edition) ≡ b → EditionTold (need (answer 5 file_proof at) b >> accepted (n, rest))
    unfolding other_edition need ◌>>◌
    edition-by true e =
        let is : n ≡ other to = is-other asks n (rw e tt) (λ z. h ((said-gives kind file_proof fs).gives (at, n, rest) q ∙ ap some z)) in
        says-accepted (binds _ q ∙ rw (eq-eqb n (other to) is))
    edition-by false e =
        let not : ¬ (n ≡ other to) = λ z. subst T e (subst (λ (m : ℕ). T (leb 1 m && leb m newest_edition)) (sym z) (other-in asks)) in
        says-refused (binds _ q ∙ rw (ne_eqb n (other to) not))

  edition-told : EditionTold (edition_field kind file_proof newest_edition fs)
  unfolding edition_field other_edition
  edition-told = go (header_field kind file_proof 0x01 fs) refl
    where
      go : (r : Result (ℕ × ℕ × Fields)) → header_field kind file_proof 0x01 fs ≡ r → EditionTold (edition_field kind file_proof newest_edition fs)
      go (refused b) q = subst EditionTold (sym (bind-refused _ q)) (says-refused (bind-refused _ q))
      go (accepted x) q = subst EditionTold (sym (binds _ q)) (edition-by x.0 x.1 x.2 q (leb 1 x.1 && leb x.1 newest_edition) refl)

-- K is not compared with A's: 9 is above 7.
module _ (K : ℕ) (fs : Fields) where
  abbrev ConstantsTold : Result (ℕ × Fields) → Type 0
  ConstantsTold r = Satisfies (λ a. a.number ≤ 7 → constants_field kind file_proof none fs ≡ refused a) r (λ y. constants_field kind file_proof none fs ≡ accepted y)

  constants-by : (at n : ℕ) (rest : Fields) → header_field kind file_proof 0x02 fs ≡ accepted (at, n, rest) → (b : Bool) → (leb 1 n && leb n 16) ≡ b
      → ConstantsTold (need (answer 7 file_proof at) b >> (need (answer 9 file_proof at) (agrees (some K) n) >> accepted (n, rest)))
  unfolding constants_field agrees need ◌>>◌
  constants-by at n rest q true e = test (answer 9 file_proof at) (agrees (some K) n) (λ h. absurd (omega arith)) λ _. says-accepted (binds _ q ∙ rw e)
  constants-by at n rest q false e = says-refused (λ _. binds _ q ∙ rw e)

  constants-told : ConstantsTold (constants_field kind file_proof (some K) fs)
  unfolding constants_field
  constants-told = go (header_field kind file_proof 0x02 fs) refl
    where
      go : (r : Result (ℕ × ℕ × Fields)) → header_field kind file_proof 0x02 fs ≡ r → ConstantsTold (constants_field kind file_proof (some K) fs)
      go (refused b) q = subst ConstantsTold (sym (bind-refused _ q)) (says-refused (λ _. bind-refused _ q))
      go (accepted x) q = subst ConstantsTold (sym (binds _ q)) (constants-by x.0 x.1 x.2 q (leb 1 x.1 && leb x.1 16) refl)

with_value : {X : Type 0} {Q : Answer → Type 0} {m : Result X} {P : X → Type 0} → Satisfies Q m P → Satisfies Q m (λ x. P x × (m ≡ accepted x))
with_value s = record { refusal = s.refusal; value = λ x e. (s.value x e, e) }

-- a step that is accepted, and then the rest
then : {Y : Type 0} {Q : Answer → Type 0} {P : Unit {0} → Type 0} {R : Y → Type 0} {m : Result (Unit {0})} {r : Result Y} → Satisfies Q m P → (P tt → Satisfies Q r R) → Satisfies Q (m >> r) R
unfolding ◌>>◌
then {m = refused a} h k = says-refused (h.refusal a refl)
then {m = accepted u} h k = k (h.value tt refl)

-- ---- the whole proof
-- Turning refuses it by the number and at the place of a.
pub record Refuses (to : ℕ) (P : List ℕ) (a : Answer) : Type 0 where
  pub b : Answer
  pub turned : proof_turned to P ≡ refused b
  pub number : b.number ≡ a.number
  pub file : b.file ≡ 3
  pub place : b.place ≡ a.place

abbrev AsCheck : (to : ℕ) (P : List ℕ) → Answer → Type 0
AsCheck to P a = a.file ≡ 3 → a.number ≤ 7 → Refuses to P a

module _ (to : ℕ) (asks : Asked to) (P : List ℕ) (short : length P ≤ 65_536) (h : ¬ Names P to) where
  itself : {a : Answer} → proof_turned to P ≡ refused a → AsCheck to P a
  itself e f n = record { b = _; turned = e; number = refl; file = f; place = refl }

  no-edition : {a : Answer} → other_edition kind file_proof to (fields P) ≡ refused a → proof_turned to P ≡ refused a
  unfolding proof_turned
  no-edition o = passes _ (asked-accepted asks) ∙ passes _ (short-accepted _ file_proof P short) ∙ then-refused _ o

  module _ (n : ℕ) (fs : Fields) (q : edition_field kind file_proof newest_edition (fields P) ≡ accepted (n, fs)) (o : other_edition kind file_proof to (fields P) ≡ accepted tt) where
    no-constants : {a : Answer} → constants_field kind file_proof none fs ≡ refused a → proof_turned to P ≡ refused a
    unfolding proof_turned header
    no-constants c = passes _ (asked-accepted asks) ∙ passes _ (short-accepted _ file_proof P short) ∙ passes _ o ∙ bind-refused _ (binds _ q ∙ bind-refused _ c)

    no-entries : {a : Answer} (K : ℕ) (rest : Fields) → constants_field kind file_proof none fs ≡ accepted (K, rest) → entries_read (edition n) K false rest ≡ refused a → proof_turned to P ≡ refused a
    unfolding proof_turned header
    no-entries K rest c e = passes _ (asked-accepted asks) ∙ passes _ (short-accepted _ file_proof P short) ∙ passes _ o ∙ binds _ (binds _ q ∙ binds _ c) ∙ then-refused _ e

    told-as : (K : ℕ) (rest : Fields) → constants_field kind file_proof none fs ≡ accepted (K, rest) → (a : Answer) → Told (entries_read (edition n) K false rest) a → AsCheck to P a
    told-as K rest c a t f l = record { b = answer a.number file_proof a.place; turned = no-entries K rest c (t l); number = refl; file = refl; place = refl }

  -- what is known of a header that check reads
  record Read (hd : Header) : Type 0 where
    fs : Fields
    edition_is : edition_field kind file_proof newest_edition (fields P) ≡ accepted (hd.number, fs)
    from : other_edition kind file_proof to (fields P) ≡ accepted tt
    constants-are : constants_field kind file_proof none fs ≡ accepted (hd.K, hd.rest)

  header_read : (K : ℕ) → Satisfies (AsCheck to P) (header kind file_proof newest_edition (some K) (fields P)) Read
  unfolding header
  header_read K =
      bind (weaken (with_value (edition-told to asks (fields P) h)) (λ a o. itself (no-edition o)) (λ x p. p)) λ (n, fs) (o, q).
      bind (weaken (constants-told K fs) (λ a t f l. itself (no-constants n fs q o (t l)) f l) (λ y c. c)) λ (k, rest) c.
      says-accepted (record { fs = fs; edition_is = q; from = o; constants-are = c })

  proof-as-check : (x y : Bundle) → Satisfies (AsCheck to P) (check_proof newest_edition x y (fields P)) (λ _. Unit {0})
  unfolding check_proof
  proof-as-check x y = bind (header_read x.K) λ hd r.
      bind (weaken (branch_follows (edition hd.number) hd.K _ _ _ _ hd.rest) (λ a t. told-as hd.number r.fs r.edition_is r.from hd.K hd.rest r.constants-are a t) (λ c m. m)) λ closing m.
      seq (weaken (finished-follows (edition hd.number) hd.K _ closing.after m) (λ a t. told-as hd.number r.fs r.edition_is r.from hd.K hd.rest r.constants-are a t) (λ _ u. u))
      (says-accepted tt)

-- ---- A and B: what is refused of them is not of file 3
abbrev OfFile : (file : ℕ) {X : Type 0} → Result X → Type 0
OfFile file r = Satisfies (λ a. a.file ≡ file) r (λ _. Unit {0})

module _ (file : ℕ) where
  field-file : (tag : ℕ) (fs : Fields) → OfFile file (header_field FileKind.Bundle file tag fs)
  unfolding header_field
  field-file tag (ends at) = says-refused refl
  field-file tag (cut at) = says-refused refl
  field-file tag (f ▸ fs) = test _ _ refl λ _. test _ _ refl λ _. test _ _ refl λ _. says-accepted tt

  most-file : (limit : ℕ) (bytes : List ℕ) → OfFile file (at_most limit file bytes)
  unfolding at_most
  most-file limit bytes = weaken (says-need _ _ refl) (λ a h. h) (λ _ _. tt)

  constraints-file : (e : Edition) (K n : ℕ) (fs : Fields) → OfFile file (constraints file e K n fs)
  unfolding constraints
  constraints-file e K n (ends at) = says-accepted tt
  constraints-file e K n (cut at) = says-refused refl
  constraints-file e K n (f ▸ fs) = test _ _ refl λ _. bind (finds _ _ refl) λ k _. test _ _ refl λ _. test _ _ refl λ _. test _ _ refl λ _. bind (constraints-file e K (suc n) fs) λ cs _. says-accepted tt

  bundle-file : (given : Option ℕ) (bytes : List ℕ) → OfFile file (bundle newest_edition file given bytes)
  unfolding bundle bundle_header edition_field constants_field
  bundle-file given bytes =
      bind
      (bind (bind (field-file 0x01 (fields bytes)) λ x _. test {R = λ _. Unit {0}} _ _ refl λ _. says-accepted tt) λ (n, fs) _.
      seq (most-file _ bytes)
      (bind (bind (field-file 0x02 fs) λ x _. test {R = λ _. Unit {0}} _ _ refl λ _. test _ _ refl λ _. says-accepted tt) λ (K, rest) _. says-accepted {P = λ _. Unit {0}} tt))
      λ hd _. bind (constraints-file (edition hd.number) hd.K 0 hd.rest) λ cs _. says-accepted tt

-- ---- check
module _ (to : ℕ) (asks : Asked to) (P : List ℕ) (h : ¬ Names P to) where
  elsewhere : (file : ℕ) → ¬ (file ≡ 3) → (a : Answer) → a.file ≡ file → AsCheck to P a
  elsewhere file k a e f n = absurd (k (sym e ∙ f))

  long-refused : leb (length P) 65_536 ≡ false → at_most 65_536 file_proof P ≡ refused (answer 1 file_proof 0)
  unfolding at_most need
  long-refused e = rw e

  too_long : leb (length P) 65_536 ≡ false → proof_turned to P ≡ refused (answer 1 file_proof 0)
  unfolding proof_turned
  too_long e = passes _ (asked-accepted asks) ∙ then-refused _ (long-refused e)

  not-long : (b : Bool) → leb (length P) 65_536 ≡ b → Satisfies (AsCheck to P) (need (answer 1 file_proof 0) b) (λ _. length P ≤ 65_536)
  unfolding need
  not-long true e = says-accepted (leb-true (length P) 65_536 e)
  not-long false e = says-refused (λ f n. record { b = answer 1 file_proof 0; turned = too_long e; number = refl; file = refl; place = refl })

  formula-elsewhere : (K : ℕ) (I : Formula) → Satisfies (AsCheck to P) (formula_at_most K I) (λ _. Unit {0})
  unfolding formula_at_most
  formula-elsewhere K I = weaken (says-need _ _ (elsewhere 4 (λ e. omega arith) _ refl)) (λ a q. q) (λ _ _. tt)

  within : (A B : List ℕ) → length P ≤ 65_536 → Satisfies {X = ℕ × Formula} (AsCheck to P) (bundles newest_edition A B >>= λ (a, b). check_proof newest_edition a b (fields P) >>= λ I. formula_at_most a.K I >> accepted (a.K, I)) (λ _. Unit {0})
  unfolding bundles
  within A B short =
      bind
      (bind (weaken (bundle-file file_a none A) (elsewhere 1 (λ e. omega arith)) (λ _ u. u)) λ a _. bind (weaken (bundle-file file_b (some a.K) B) (elsewhere 2 (λ e. omega arith)) (λ _ u. u)) λ b _. says-accepted {P = λ _. Unit {0}} tt)
      λ (a, b) _. bind (proof-as-check to asks P short h a b) λ I _. seq (formula-elsewhere a.K I) (says-accepted tt)

  interpolant-as-check : (A B : List ℕ) → Satisfies (AsCheck to P) (interpolant newest_edition A B P) (λ _. Unit {0})
  unfolding interpolant at_most
  interpolant-as-check A B =
      seq (weaken (most-file file_a _ A) (elsewhere 1 (λ e. omega arith)) (λ _ u. u)) (seq (weaken (most-file file_b _ B) (elsewhere 2 (λ e. omega arith)) (λ _ u. u))
      (then (not-long (leb (length P) 65_536) refl) λ short. within A B short))

  -- A refusal of check in the proof by a number up to 7 is turning's.
  pub as_check : (A B output : List ℕ) → AsCheck to P (check A B P output).answer
  unfolding check check_by written fit ◌>>=◌
  as_check A B output = go (interpolant newest_edition A B P) (interpolant-as-check A B)
    where
      by-fit : (b : Bool) (bytes : List ℕ) → AsCheck to P (fit output b bytes).answer
      by-fit true bytes f n = absurd (omega arith)
      by-fit false bytes f n = absurd (omega arith)

      go : (r : Result (ℕ × Formula)) → Satisfies (AsCheck to P) r (λ _. Unit {0}) → AsCheck to P (written (r >>= λ (K, I). accepted (formula_file edition1 K I)) output).answer
      go (refused a) s = s.refusal a refl
      go (accepted x) s = by-fit (leb (length (formula_file edition1 x.0 x.1)) (length output)) (formula_file edition1 x.0 x.1)
