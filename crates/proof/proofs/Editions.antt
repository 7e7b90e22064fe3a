-- What the office before edition 2 accepts, and that this one does so too and answers alike; where its 1 comes later. docs/FORMAT.md, "Bytes and fields". Assumes nothing.
use mathlib.Core.Path.{◌≡◌, refl, sym, ◌∙◌, ap, ap₂, subst}
use mathlib.Core.Logic.{◌⊎◌, inl, inr}
use mathlib.Core.Option.{Option, none, some}
use mathlib.Core.Bool.{Bool, true, false, cond, ◌&&◌}
use mathlib.Core.List.{List, [], ◌∷◌}
use Prim.Native.Nat.{ℕ, zero, suc, ◌≤◌, ◌<◌}
use native.Mathlib.Omega.{arith}
use borrow.Author.Tests.{le-leb, lt-leb}
use lib.Dec.{T, leb, eqb, eqb→eq, le→leb}
use lib.ListN.{length, get_or}
use mir.Facts.{and_yes}
use Rattle.forms.specs.Edition.{edition, edition1}
use Rattle.forms.specs.Forms.{Constraint, Formula}
use Rattle.calculus.specs.Rules.{Entry}
use Rattle.answers.specs.Answers.{answer, file_a, file_b, file_proof, Result, refused, accepted, ◌>>=◌, ◌>>◌, need, Written, written}
use Rattle.answers.proofs.Results.{binds, passes, needs, fail, bind-refused}
use Rattle.fields.specs.declared.FileKind.{FileKind}
use Rattle.fields.specs.Fields.{Field, Fields, ends, cut, ◌▸◌, Item, item, fields, items}
use Rattle.fields.specs.Header.{header_tag, known, header_field, edition_field, header}
use Rattle.fields.proofs.HeaderLaid.{first_of}
use Rattle.bundle.specs.Bundle.{Bundle, at_most, bundle_header, bundle, bundles}
use Rattle.bundle.specs.Layout.{BundleFile, edition_said, Says}
use Rattle.bundle.proofs.Laid.{short-accepted}
use Rattle.formula.specs.Formula.{formula_file}
use Rattle.proof.specs.Check.{check_proof, formula_at_most, interpolant, check_by, check}
use Rattle.proof.specs.Layout.{ProofFile, Certifies}
use Rattle.proof.specs.Editions.{InFirst, Accepts, Offices}
use Rattle.proof.proofs.Agree.{interpolant-iff, never-0}

-- ---- what a file says
one-said : {m n : ℕ} → some m ≡ some n → m ≡ n
one-said e = cc

-- The fields fs start with a 0x01 that says n.
pub record Starting (fs : Fields) (n : ℕ) : Type 0 where
  pub first : Field
  pub after : Fields
  pub are : fs ≡ first ▸ after
  pub tag : first.tag ≡ 0x01
  pub size : length first.contents ≡ 1
  pub says : get_or first.contents 0 0 ≡ n

pub starting : (fs : Fields) (n : ℕ) → edition_said fs ≡ some n → Starting fs n
unfolding edition_said
starting (ends at) n e = absurd (let z : ◌≡◌ {A = ℕ} 0 1 = cc in omega arith)
starting (cut at) n e = absurd (let z : ◌≡◌ {A = ℕ} 0 1 = cc in omega arith)
starting (f ▸ fs) n e = go (eqb f.tag 0x01 && eqb (length f.contents) 1) refl e
  where
    go : (b : Bool) → (eqb f.tag 0x01 && eqb (length f.contents) 1) ≡ b
        → cond b (some (get_or f.contents 0 0)) none ≡ some n → Starting (f ▸ fs) n
    go true t e =
        let (p, q) = and_yes (eqb f.tag 0x01) (eqb (length f.contents) 1) (rw t tt) in
        record { first = f; after = fs; are = refl; tag = eqb→eq f.tag 0x01 p; size = eqb→eq (length f.contents) 1 q; says = one-said e }
    go false t e = absurd (let z : ◌≡◌ {A = ℕ} 0 1 = cc in omega arith)

-- What is laid out says its edition.
laid-says : (file : List ℕ) (n : ℕ) (is : List Item) → items (fields file) ≡ some (item 0x01 (n ∷ []) ∷ is) → Says file n
unfolding edition_said
laid-says file n is h =
    let f = first_of (fields file) (item 0x01 (n ∷ [])) is h in
    ap edition_said f.are ∙ ap₂ (λ (t : ℕ) (bs : List ℕ). cond (eqb t 0x01 && eqb (length bs) 1) (some (get_or bs 0 0)) none) f.tag f.contents

bundle-says : {newest : ℕ} {file : List ℕ} {n K : ℕ} {cs : List Constraint} → BundleFile newest file n K cs → Says file n
bundle-says {file = file} {n = n} f = laid-says file n _ (f.whole ∙ ap some f.laid.are)

proof-says : {newest : ℕ} {file : List ℕ} {n K : ℕ} {es : List Entry} → ProofFile newest file n K es → Says file n
proof-says {file = file} {n = n} f = laid-says file n _ f.whole

-- ---- what an office certifies, another does that reads these editions
bundle-for : {newest m : ℕ} {file : List ℕ} {n K : ℕ} {cs : List Constraint} → n ≤ m → BundleFile newest file n K cs → BundleFile m file n K cs
bundle-for h f = record { first = f.first; last = h; short = f.short; list = f.list; whole = f.whole; laid = f.laid; few = f.few; within = f.within }

proof-for : {newest m : ℕ} {file : List ℕ} {n K : ℕ} {es : List Entry} → n ≤ m → ProofFile newest file n K es → ProofFile m file n K es
proof-for h f = record { first = f.first; last = h; short = f.short; body = f.body; whole = f.whole; low = f.low; high = f.high; enters = f.enters }

module _ {A B P : List ℕ} {K : ℕ} {I : Formula} where
  certifies-for : {newest : ℕ} (m : ℕ) (c : Certifies newest A B P K I) → c.yields.edition_a ≤ m → c.yields.edition_b ≤ m → c.yields.edition_proof ≤ m → Certifies m A B P K I
  certifies-for m c a b p =
      let y = c.yields in
      record {
        yields = record {
          edition_a = y.edition_a;
          edition_b = y.edition_b;
          edition_proof = y.edition_proof;
          a = y.a;
          b = y.b;
          es = y.es;
          file_a = bundle-for a y.file_a;
          file_b = bundle-for b y.file_b;
          file_proof = proof-for p y.file_proof;
          proves = y.proves;
        };
        short = c.short;
      }

  first-in-second : Certifies 1 A B P K I → Certifies 2 A B P K I
  first-in-second c =
      let y = c.yields in
      certifies-for 2 c (omega (arith, y.file_a.last)) (omega (arith, y.file_b.last)) (omega (arith, y.file_proof.last))

  second-in-first : InFirst A B P → Certifies 2 A B P K I → Certifies 1 A B P K I
  second-in-first f c =
      let y = c.yields in
      let a : y.edition_a ≡ 1 = one-said (sym (bundle-says y.file_a) ∙ f.of_a) in
      let b : y.edition_b ≡ 1 = one-said (sym (bundle-says y.file_b) ∙ f.of_b) in
      let p : y.edition_proof ≡ 1 = one-said (sym (proof-says y.file_proof) ∙ f.of_proof) in
      certifies-for 1 c (omega arith) (omega arith) (omega arith)

  -- the office before edition 2 certifies only what says edition 1
  certified-first : Certifies 1 A B P K I → InFirst A B P
  certified-first c =
      let y = c.yields in
      let a : y.edition_a ≡ 1 = omega (arith, y.file_a.first, y.file_a.last) in
      let b : y.edition_b ≡ 1 = omega (arith, y.file_b.first, y.file_b.last) in
      let p : y.edition_proof ≡ 1 = omega (arith, y.file_proof.first, y.file_proof.last) in
      record { of_a = bundle-says y.file_a ∙ ap some a; of_b = bundle-says y.file_b ∙ ap some b; of_proof = proof-says y.file_proof ∙ ap some p }

-- ---- what is accepted
record Accepted (newest : ℕ) (A B P : List ℕ) : Type 0 where
  K : ℕ
  formula : Formula
  is : interpolant newest A B P ≡ accepted (K, formula)

-- what the check leaves, by the formula or the refusal
abbrev leaving : (output : List ℕ) → Result (ℕ × Formula) → Written
leaving output r = written (r >>= λ (K, I). accepted (formula_file edition1 K I)) output

module _ (newest : ℕ) (A B P output : List ℕ) where
  accepted-so : Accepts (check_by newest A B P output) → Accepted newest A B P
  unfolding check_by written ◌>>=◌
  accepted-so h = go (interpolant newest A B P) refl h
    where
      go : (r : Result (ℕ × Formula)) → interpolant newest A B P ≡ r → Accepts (leaving output r) → Accepted newest A B P
      go (refused a) e h = absurd (never-0 newest A B P a e h)
      go (accepted (K, I)) e h = record { K = K; formula = I; is = e }

module _ (A B P output : List ℕ) where
  -- where both offices give the same, they leave the same
  left-alike : interpolant 2 A B P ≡ interpolant 1 A B P → check A B P output ≡ check_by 1 A B P output
  unfolding check check_by
  left-alike e = ap (leaving output) e

  accepted-alike : {K : ℕ} {I : Formula} → interpolant 2 A B P ≡ accepted (K, I) → interpolant 1 A B P ≡ accepted (K, I) → check A B P output ≡ check_by 1 A B P output
  accepted-alike p q = left-alike (p ∙ sym q)

  by_first : Accepts (check_by 1 A B P output) → check A B P output ≡ check_by 1 A B P output
  by_first h =
      let x = accepted-so 1 A B P output h in
      accepted-alike ((interpolant-iff 2 A B P x.K x.formula).1 (first-in-second ((interpolant-iff 1 A B P x.K x.formula).0 x.is))) x.is

  by-second : InFirst A B P → Accepts (check A B P output) → check A B P output ≡ check_by 1 A B P output
  unfolding check
  by-second f h =
      let x = accepted-so 2 A B P output h in
      accepted-alike x.is ((interpolant-iff 1 A B P x.K x.formula).1 (second-in-first f ((interpolant-iff 2 A B P x.K x.formula).0 x.is)))

  said-first : Accepts (check_by 1 A B P output) → InFirst A B P
  said-first h =
      let x = accepted-so 1 A B P output h in
      certified-first ((interpolant-iff 1 A B P x.K x.formula).0 x.is)

  no_other : (n : ℕ) → ¬ (n ≡ 1) → Says A n ⊎ Says B n ⊎ Says P n → ¬ (Accepts (check_by 1 A B P output))
  no_other n h (inl s) k = h (one-said (sym s ∙ (said-first k).of_a))
  no_other n h (inr (inl s)) k = h (one-said (sym s ∙ (said-first k).of_b))
  no_other n h (inr (inr s)) k = h (one-said (sym s ∙ (said-first k).of_proof))

-- ---- the same reading
-- Two blocks whose steps are the same.
bind-alike : {X Y : Type 0} {r s : Result X} {f g : X → Result Y} → r ≡ s → ((x : X) → f x ≡ g x) → (r >>= f) ≡ (s >>= g)
unfolding ◌>>=◌
bind-alike {s = refused a} e k = rw e
bind-alike {s = accepted x} e k = rw e (k x)

module _ (kind : FileKind) (file : ℕ) (k : T (known kind 0x01)) where
  -- what a file says is the edition that is tested
  pub field-said : {fs : Fields} {n : ℕ} (s : Starting fs n) (newest : ℕ) → edition_field kind file newest fs ≡ (need (answer 5 file s.first.at) (leb 1 n && leb n newest) >> accepted (n, s.after))
  unfolding edition_field header_field
  field-said s newest =
      let f = s.first in
      ap (edition_field kind file newest) s.are
      ∙ binds _ (needs _ _ _ (rw s.tag k) ∙ needs _ _ _ (rw s.tag tt) ∙ needs _ _ _ (rw s.size tt) ∙ ap (λ (n : ℕ). accepted (f.at, n, s.after)) s.says)

  -- 0x01 of edition 1 is read by every office
  first_read : (newest : ℕ) → 1 ≤ newest → {fs : Fields} (s : Starting fs 1) → edition_field kind file newest fs ≡ accepted (1, s.after)
  first_read newest h s = field-said s newest ∙ needs _ _ _ (le→leb 1 newest h)

  read_alike : (fs : Fields) → edition_said fs ≡ some 1 → edition_field kind file 2 fs ≡ edition_field kind file 1 fs
  read_alike fs e = let s = starting fs 1 e in first_read 2 (omega arith) s ∙ sym (first_read 1 (omega arith) s)

-- neither 1 nor 2 is read
pub not-read : (n : ℕ) → ¬ (n ≡ 1) → ¬ (n ≡ 2) → (leb 1 n && leb n 2) ≡ false
not-read zero h k = refl
not-read (suc zero) h k = absurd (h refl)
not-read (suc (suc zero)) h k = absurd (k refl)
not-read (suc (suc (suc n))) h k = rw (le-leb 1 (suc (suc (suc n))) (omega arith), lt-leb (suc (suc (suc n))) 2 (omega arith))

pub other-bundle : (file : ℕ) (given : Option ℕ) (bytes : List ℕ) (n : ℕ) (s : Starting (fields bytes) n) → ¬ (n ≡ 1) → ¬ (n ≡ 2) → bundle 2 file given bytes ≡ refused (answer 5 file s.first.at)
unfolding bundle bundle_header known header_tag
other-bundle file given bytes n s h k = bind-refused _ (bind-refused _ (field-said FileKind.Bundle file tt s 2 ∙ fail _ _ (not-read n h k)))

bundle-alike : (file : ℕ) (given : Option ℕ) (bytes : List ℕ) → Says bytes 1 → bundle 2 file given bytes ≡ bundle 1 file given bytes
unfolding bundle bundle_header known header_tag
bundle-alike file given bytes s = bind-alike (bind-alike (read_alike FileKind.Bundle file tt (fields bytes) s) λ x. refl) λ h. refl

bundles-alike : (A B : List ℕ) → Says A 1 → Says B 1 → bundles 2 A B ≡ bundles 1 A B
unfolding bundles
bundles-alike A B s_A sB = bind-alike (bundle-alike file_a none A s_A) λ a. bind-alike (bundle-alike file_b (some a.K) B sB) λ b. refl

proof-alike : (a b : Bundle) (P : List ℕ) → Says P 1 → check_proof 2 a b (fields P) ≡ check_proof 1 a b (fields P)
unfolding check_proof header known header_tag
proof-alike a b P s = bind-alike (bind-alike (read_alike FileKind.Proof file_proof tt (fields P) s) λ x. refl) λ h. refl

-- What follows where the bundles are short enough.
module _ (newest : ℕ) (A B P : List ℕ) where
  abbrev derived : Result (ℕ × Formula)
  derived = bundles newest A B >>= λ (a, b). check_proof newest a b (fields P) >>= λ I. formula_at_most a.K I >> accepted (a.K, I)

  short-bundles : length A ≤ (edition newest).bundle_bytes → length B ≤ (edition newest).bundle_bytes → interpolant newest A B P ≡ (at_most 65_536 file_proof P >> derived)
  unfolding interpolant
  short-bundles hA hB = passes _ (short-accepted _ file_a A hA) ∙ passes _ (short-accepted _ file_b B hB)

module _ (A B P : List ℕ) where
  derived-alike : InFirst A B P → derived 2 A B P ≡ derived 1 A B P
  derived-alike f = bind-alike (bundles-alike A B f.of_a f.of_b) λ (a, b). bind-alike (proof-alike a b P f.of_proof) λ I. refl

  interpolant-alike : InFirst A B P → length A ≤ 4_096 → length B ≤ 4_096 → interpolant 2 A B P ≡ interpolant 1 A B P
  interpolant-alike f hA hB =
      short-bundles 2 A B P (omega arith) (omega arith)
      ∙ ap (λ (r : Result (ℕ × Formula)). at_most 65_536 file_proof P >> r) (derived-alike f)
      ∙ sym (short-bundles 1 A B P hA hB)

-- ---- the late 1
pub late-bundle : (file : ℕ) (given : Option ℕ) (bytes : List ℕ) → Says bytes 1 → 4_096 < length bytes → bundle 2 file given bytes ≡ refused (answer 1 file 0)
unfolding bundle bundle_header at_most known header_tag
late-bundle file given bytes s h =
    let t = starting (fields bytes) 1 s in
    bind-refused _ (binds _ (first_read FileKind.Bundle file tt 2 (omega arith) t) ∙ fail _ _ (lt-leb (length bytes) 4_096 h))

pub offices : Offices
offices = record {
  first_only = said-first;
  refuses_others = no_other;
  same_accepted = λ A B P output f.
      (λ h. subst Accepts (sym (by_first A B P output h)) h, λ h. subst Accepts (by-second A B P output f h) h);
  same_bytes = by-second;
  same_answer = λ A B P output f hA hB. left-alike A B P output (interpolant-alike A B P f hA hB);
}
