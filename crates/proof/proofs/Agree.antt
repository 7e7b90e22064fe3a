-- The check accepts just where the three files certify the formula, never refuses by 22, and what it accepts is an interpolant. Assumes nothing.
use mathlib.Core.Path.{◌≡◌, refl, sym, ◌∙◌, ap, subst}
use mathlib.Core.Logic.{◌↔◌}
use mathlib.Core.Option.{none, some}
use mathlib.Core.Bool.{Bool}
use mathlib.Core.List.{List, [], ◌∷◌}
use Prim.Native.Nat.{ℕ, ◌≤◌, ◌<◌}
use native.Mathlib.Omega.{arith}
use borrow.Author.Tests.{lt-leb}
use lib.Dec.{T, eqb→eq, eqb_refl, leb→le, le→leb}
use lib.ListN.{length}
use Rattle.forms.specs.Edition.{Edition, edition, edition1}
use Rattle.forms.proofs.Editions.{bundle_bytes-grows}
use Rattle.forms.specs.Forms.{Constraint, Formula, lines, occurs}
use Rattle.calculus.specs.Rules.{Entry, entries, Proves, Interpolant}
use Rattle.calculus.proofs.Sides.{Side}
use Rattle.calculus.proofs.Interpolation.{interpolation, initial-words, sides}
use Rattle.answers.specs.declared.Answer.{Answer}
use Rattle.answers.specs.Answers.{answer, file_a, file_b, file_proof, file_lent, Result, refused, accepted, ◌>>=◌, ◌>>◌}
use Rattle.answers.proofs.Results.{one_value, Gives, gives-accepted, weaken, gives-need, bind, seq, binds, passes, need-yes, fail, not-0, not-22, not-21}
use Rattle.fields.specs.declared.FileKind.{FileKind}
use Rattle.fields.specs.Fields.{Fields, Item, item, fields, items}
use Rattle.fields.specs.Header.{Header, agrees}
use Rattle.fields.proofs.HeaderLaid.{LaidHeader, header-gives, header_read, finished-gives, finished-ends}
use Rattle.bundle.specs.Bundle.{Bundle, bundles}
use Rattle.bundle.specs.Layout.{Each, nil, BundleFile}
use Rattle.bundle.proofs.Laid.{Itemed, itemed, no_items, listed, BothLaid, bundles-give, bundles-accept, short-gives, short-accepted}
use Rattle.formula.specs.Formula.{formula_file}
use Rattle.proof.specs.Check.{Closing, check_proof, formula_at_most, interpolant}
use Rattle.proof.specs.Layout.{Enters, Yields, Certifies}
use Rattle.proof.proofs.Branches.{BranchDerived, branch-derives, branch-accepts}

-- which constants occur in A and in B
abbrev occurring : Bundle → Bundle → Side → ℕ → Bool
occurring a b σ = occurs (sides a.constraints b.constraints σ)

-- ---- the proof
-- The fields fs are laid out as a proof of I from a and b, of an edition up to the newest.
pub record Proof (newest : ℕ) (a b : Bundle) (fs : Fields) (I : Formula) : Type 0 where
  pub number : ℕ
  pub first : 1 ≤ number
  pub last : number ≤ newest
  pub es : List Entry
  pub body : List Item
  pub whole : items fs ≡ some (item 0x01 (number ∷ []) ∷ item 0x02 (a.K ∷ []) ∷ body)
  pub low : 1 ≤ a.K
  pub high : a.K ≤ edition1.constants
  pub enters : Each (Enters (edition number) a.K) body es
  pub proves : Proves (edition number) a.constraints b.constraints es I

pub agreed : (K L : ℕ) → T (agrees (some K) L) → L ≡ K
unfolding agrees
agreed K L t = eqb→eq L K t

pub agrees-refl : (K : ℕ) → T (agrees (some K) K)
unfolding agrees
agrees-refl K = eqb_refl K

module _ (newest : ℕ) (a b : Bundle) (fs : Fields) where
  -- what the check of the root finds
  abbrev Root : Edition → ℕ → Fields → Closing → Type 0
  Root e K rest root = BranchDerived e K (occurring a b) e.branchings 0 none (lines a.constraints b.constraints) rest root

  root-proof : (n : ℕ) → 1 ≤ n → n ≤ newest → (rest : Fields) (root : Closing) → Root (edition n) a.K rest root → items root.after ≡ some [] → 1 ≤ a.K → a.K ≤ edition1.constants
      → ((is : List Item) → items rest ≡ some is → items fs ≡ some (item 0x01 (n ∷ []) ∷ item 0x02 (a.K ∷ []) ∷ is)) → Proof newest a b fs root.formula
  root-proof n first last rest root r ended low high from =
      let t : Itemed (Enters (edition n) a.K) rest (entries r.proof []) = itemed (r.from [] (listed root.after ended nil)) in
      record {
        number = n;
        first = first;
        last = last;
        es = entries r.proof [];
        body = t.list;
        whole = from t.list t.are;
        low = low;
        high = high;
        enters = t.each;
        proves = record { proof = r.proof; are = refl; rows = omega (arith, r.count, r.few); opened = r.fits };
      }

  -- K is that of A
  header-proof : (h : Header) → LaidHeader newest (some a.K) fs h → (root : Closing) → Root (edition h.number) h.K h.rest root → items root.after ≡ some [] → Proof newest a b fs root.formula
  header-proof h d root r ended =
      let k : h.K ≡ a.K = agreed a.K h.K d.agree in
      root-proof h.number d.first d.last h.rest root (subst (λ (K : ℕ). Root (edition h.number) K h.rest root) k r) ended
      (rw k at d.low) (rw k at d.high) (λ is q. rw k at (d.from is q))

  pub proof-gives : Gives (check_proof newest a b fs) (Proof newest a b fs)
  unfolding check_proof
  proof-gives = bind (header-gives FileKind.Proof file_proof newest (some a.K) fs) λ h d.
      bind (branch-derives (edition h.number) h.K (occurring a b) (edition h.number).branchings _ 0 _ h.rest (initial-words (sides a.constraints b.constraints))) λ root r.
      seq (finished-gives FileKind.Proof file_proof root.after) λ ended. gives-accepted (header-proof h d root r ended)

  pub proof-accepts : (I : Formula) → Proof newest a b fs I → check_proof newest a b fs ≡ accepted I
  unfolding check_proof
  proof-accepts I p =
      let h = header_read FileKind.Proof file_proof newest (some a.K) fs p.number a.K p.body p.whole p.first p.last p.low p.high (agrees-refl a.K) in
      let e = edition p.number in
      let r = branch-accepts e a.K (occurring a b) e.branchings _ 0 _ I p.proves.proof [] h.after (initial-words (sides a.constraints b.constraints))
      p.proves.opened _ refl (omega (arith, p.proves.rows)) (listed h.after h.rest (subst (Each (Enters e a.K) p.body) (sym p.proves.are) p.enters)) in
      binds _ h.reads ∙ binds _ r.is ∙ passes _ (finished-ends FileKind.Proof file_proof r.after (no_items r.lists))

-- ---- the formula's file
formula_at_most-gives : (K : ℕ) (I : Formula) → Gives (formula_at_most K I) (λ _. length (formula_file edition1 K I) ≤ edition1.formula_bytes)
unfolding formula_at_most
formula_at_most-gives K I = weaken (gives-need _ _ tt) λ _ t. leb→le _ _ t

formula_at_most-accepts : (K : ℕ) (I : Formula) → length (formula_file edition1 K I) ≤ edition1.formula_bytes → formula_at_most K I ≡ accepted tt
unfolding formula_at_most
formula_at_most-accepts K I h = need-yes _ _ (le→leb _ _ h)

formula_at_most-refuses : {Y : Type 0} (r : Result Y) (K : ℕ) (I : Formula) → edition1.formula_bytes < length (formula_file edition1 K I)
    → (formula_at_most K I >> r) ≡ refused (answer 1 file_lent (length (formula_file edition1 K I)))
unfolding formula_at_most
formula_at_most-refuses r K I h = fail _ r (lt-leb (length (formula_file edition1 K I)) edition1.formula_bytes h)

-- ---- the three files
module _ (newest : ℕ) (A B P : List ℕ) where
  pub yielded : (a b : Bundle) → BothLaid newest A B (a, b) → length P ≤ (edition newest).proof_bytes → (I : Formula) → Proof newest a b (fields P) I → Yields newest A B P a.K I
  yielded a b l sP I p = record {
    edition_a = a.edition;
    edition_b = b.edition;
    edition_proof = p.number;
    a = a.constraints;
    b = b.constraints;
    es = p.es;
    file_a = l.laid_a.file;
    file_b = subst (λ (K : ℕ). BundleFile newest B b.edition K b.constraints) (agreed a.K b.K l.laid_b.agree) l.laid_b.file;
    file_proof = record { first = p.first; last = p.last; short = sP; body = p.body; whole = p.whole; low = p.low; high = p.high; enters = p.enters };
    proves = p.proves;
  }

  interpolant-gives : Gives (interpolant newest A B P) (λ r. Certifies newest A B P r.0 r.1)
  unfolding interpolant
  interpolant-gives = seq (short-gives _ file_a A) λ _. seq (short-gives _ file_b B) λ _. seq (short-gives _ file_proof P) λ sP.
      bind (bundles-give newest A B) λ (a, b) l. bind (proof-gives newest a b (fields P)) λ I p. seq (formula_at_most-gives a.K I) λ sI.
      gives-accepted (record { yields = yielded a b l sP I p; short = sI })

  -- the formula that the proof's fields derive, however long its file
  derives : Result (ℕ × Formula)
  derives = bundles newest A B >>= λ (a, b). check_proof newest a b (fields P) >>= λ I. accepted (a.K, I)

  -- what is short enough for its edition is so for those after it
  short-file : {file : List ℕ} {n K : ℕ} {cs : List Constraint} → BundleFile newest file n K cs → length file ≤ (edition newest).bundle_bytes
  short-file {n = n} f = omega (arith, f.short, bundle_bytes-grows n newest f.first f.last)

  module _ (K : ℕ) (I : Formula) (y : Yields newest A B P K I) where
    abbrev of_a : Bundle
    of_a = record { edition = y.edition_a; K = K; constraints = y.a }

    abbrev of_b : Bundle
    of_b = record { edition = y.edition_b; K = K; constraints = y.b }

    bundles-read : bundles newest A B ≡ accepted (of_a, of_b)
    unfolding agrees
    bundles-read = bundles-accept newest A B of_a of_b (record { laid_a = record { file = y.file_a; agree = tt }; laid_b = record { file = y.file_b; agree = agrees-refl K } })

    proof-read : check_proof newest of_a of_b (fields P) ≡ accepted I
    proof-read =
        let f = y.file_proof in
        proof-accepts newest of_a of_b (fields P) I (record {
          number = y.edition_proof;
          first = f.first;
          last = f.last;
          es = y.es;
          body = f.body;
          whole = f.whole;
          low = f.low;
          high = f.high;
          enters = f.enters;
          proves = y.proves;
        })

    -- where the rows derive I, all that is left to ask is whether its file is too long
    pub interpolant-yields : interpolant newest A B P ≡ (formula_at_most K I >> accepted (K, I))
    unfolding interpolant
    interpolant-yields =
        passes _ (short-accepted _ file_a A (short-file y.file_a)) ∙ passes _ (short-accepted _ file_b B (short-file y.file_b)) ∙ passes _ (short-accepted _ file_proof P y.file_proof.short)
        ∙ binds _ bundles-read ∙ binds _ proof-read

    -- where it is, 1
    pub interpolant-long : edition1.formula_bytes < length (formula_file edition1 K I) → interpolant newest A B P ≡ refused (answer 1 file_lent (length (formula_file edition1 K I)))
    interpolant-long h = interpolant-yields ∙ formula_at_most-refuses _ K I h

    derives-yields : derives ≡ accepted (K, I)
    unfolding derives
    derives-yields = binds _ bundles-read ∙ binds _ proof-read

  interpolant-accepts : (K : ℕ) (I : Formula) → Certifies newest A B P K I → interpolant newest A B P ≡ accepted (K, I)
  interpolant-accepts K I c = interpolant-yields K I c.yields ∙ passes _ (formula_at_most-accepts K I c.short)

  -- the check accepts with K and I just where the files certify I over K constants
  pub interpolant-iff : (K : ℕ) (I : Formula) → interpolant newest A B P ≡ accepted (K, I) ↔ Certifies newest A B P K I
  interpolant-iff K I = (interpolant-gives.gives (K, I), interpolant-accepts K I)

  -- the refusal by 22 never comes
  pub never_22 : (a : Answer) → interpolant newest A B P ≡ refused a → ¬ (a.number ≡ 22)
  never_22 a e = not-22 (interpolant-gives.refusal a e)

  -- and that by 21 only from the output that is lent: without one, 21 tells that the proof is accepted
  pub never-21 : (a : Answer) → interpolant newest A B P ≡ refused a → ¬ (a.number ≡ 21)
  never-21 a e = not-21 (interpolant-gives.refusal a e)

  -- a refusal's number is never that of acceptance
  pub never-0 : (a : Answer) → interpolant newest A B P ≡ refused a → ¬ (a.number ≡ 0)
  never-0 a e = not-0 (interpolant-gives.refusal a e)

-- three files derive one formula at most
pub one_formula : {newest : ℕ} {A B P : List ℕ} {K K' : ℕ} {I I' : Formula} → Yields newest A B P K I → Yields newest A B P K' I' → (K ≡ K') × (I ≡ I')
one_formula {newest} {A} {B} {P} {K} {K'} {I} {I'} y y' =
    let same : ◌≡◌ {A = ℕ × Formula} (K, I) (K', I') = one_value (derives-yields newest A B P K I y) (derives-yields newest A B P K' I' y') in
    (ap (λ (r : ℕ × Formula). r.0) same, ap (λ (r : ℕ × Formula). r.1) same)

-- and it is an interpolant of what A and B state
pub yielded-interpolant : {newest : ℕ} {A B P : List ℕ} {K : ℕ} {I : Formula} (y : Yields newest A B P K I) → Interpolant y.a y.b I
yielded-interpolant y = interpolation y.a y.b y.proves.proof
