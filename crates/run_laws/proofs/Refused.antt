-- A run is refused as check refuses every cut, but for a 13 of some cut, a claim and unlike branches. Assumes nothing.
use mathlib.Core.Path.{◌≡◌, refl, sym, ◌∙◌, ap, subst}
use mathlib.Core.Logic.{◌⊎◌, inl, inr}
use mathlib.Core.Option.{Option, some}
use mathlib.Core.Bool.{Bool, true, false, cond, true≢false}
use mathlib.Core.List.{List, [], ◌∷◌, ◌++◌, map}
use Prim.Native.Nat.{ℕ, zero, suc, ◌+◌, ◌≤◌, ◌<◌}
use native.Mathlib.Decide.{dec_le, ℕ_discrete}
use native.Mathlib.Omega.{arith}
use lib.Dec.{T, leb, eqb, leb→le, nleb→lt, eqb→eq}
use lib.ListN.{length}
use Rattle.forms.specs.Edition.{edition}
use Rattle.forms.specs.Forms.{ConstraintKind, says, ≠0, kind_on, A, B, line_b, lines, Constraint, Formula}
use Rattle.answers.specs.declared.Answer.{Answer}
use Rattle.answers.specs.Answers.{root, file_proof, Result, refused, accepted, ◌>>=◌, ◌>>◌}
use Rattle.answers.proofs.Results.{never}
use Rattle.fields.specs.declared.FileKind.{FileKind}
use Rattle.fields.specs.Fields.{Fields, ends, cut, ◌▸◌, fields}
use Rattle.fields.specs.Header.{Header, header_field, edition_field, constants_field, header, finished}
use Rattle.proof.specs.Check.{Closing, check_proof}
use Rattle.proof.specs.Tree.{starts_at}
use Rattle.proof.proofs.Satisfies.{Satisfies, says-refused, says-accepted, bind, seq, test}
use Rattle.chains.specs.Runs.{Run, joined, up_to, beyond}
use Rattle.run.specs.Uniform.{with_number, Walked, uniform}
use Rattle.run.specs.Run.{side, claim_refused, check_cut, both, check_cuts, check_run}
use Rattle.run.specs.Refused.{CutRefused, Earliest, RunRefused, every_cut, some_cut, differing, of_run, RefusedAsCheck}
use Rattle.run_laws.proofs.Ascending.{Ascending, Later, From, fields-ascend}
use Rattle.run_laws.proofs.TwoCuts.{SameKind, plains, aparts, SameLines, nil, cons, OfCut, TwoCuts, alike, same, left, right, all-branch-cuts}
use Rattle.run_laws.proofs.CheckAndWalk.{end_of, Ours, Beside, closed, told, first, branch-beside}

-- ---- the lines of every cut are those of cut 0, partial interpolants apart
same-kinds : (k : ConstraintKind) → SameKind (kind_on A k) (kind_on B k)
same-kinds (says k) = plains
same-kinds ≠0 = aparts

self-kinds : (k : ConstraintKind) → SameKind (kind_on B k) (kind_on B k)
self-kinds (says k) = plains
self-kinds ≠0 = aparts

same-B : (Q : List Constraint) → SameLines (map line_b Q) (map line_b Q)
same-B [] = nil
same-B (c ∷ Q) = cons (record { forms = refl; kinds = self-kinds c.kind }) (same-B Q)

same-cut : (P Q : List Constraint) → SameLines (lines P Q) (lines [] (P ++ Q))
same-cut [] Q = same-B Q
same-cut (c ∷ P) Q = cons (record { forms = refl; kinds = same-kinds c.kind }) (same-cut P Q)

whole_run : (Ts : Run) (i : ℕ) → up_to Ts i ++ beyond Ts i ≡ joined Ts
whole_run Ts zero = refl
whole_run [] (suc i) = refl
whole_run (T ∷ Ts) (suc i) = assoc T (up_to Ts i) (beyond Ts i) ∙ ap (λ l. T ++ l) (whole_run Ts i)
  where
    assoc : (a b c : List Constraint) → (a ++ b) ++ c ≡ a ++ (b ++ c)
    assoc [] b c = refl
    assoc (x ∷ a) b c = ap (λ l. x ∷ l) (assoc a b c)

cut-lines : (Ts : Run) (i : ℕ) → SameLines (lines (up_to Ts i) (beyond Ts i)) (lines (up_to Ts 0) (beyond Ts 0))
cut-lines Ts i = subst (λ cs. SameLines (lines (up_to Ts i) (beyond Ts i)) (lines [] cs)) (whole_run Ts i) (same-cut (up_to Ts i) (beyond Ts i))

-- ---- the header, and what may stand behind the root
abbrev Any : Answer → Type 0
Any a = Unit

field-up : (tag : ℕ) (fs : Fields) → Ascending fs → Satisfies Any (header_field FileKind.Proof file_proof tag fs) (λ x. Ascending x.2)
unfolding header_field
field-up tag (ends at) up = says-refused tt
field-up tag (cut at) up = says-refused tt
field-up tag (f ▸ fs) up = test _ _ tt λ _. test _ _ tt λ _. test _ _ tt λ _. says-accepted up.1

edition-up : (newest : ℕ) (fs : Fields) → Ascending fs → Satisfies Any (edition_field FileKind.Proof file_proof newest fs) (λ x. Ascending x.1)
unfolding edition_field
edition-up newest fs up = bind (field-up 0x01 fs up) λ x u. test _ _ tt λ _. says-accepted u

constants-up : (given : Option ℕ) (fs : Fields) → Ascending fs → Satisfies Any (constants_field FileKind.Proof file_proof given fs) (λ x. Ascending x.1)
unfolding constants_field
constants-up given fs up = bind (field-up 0x02 fs up) λ x u. test _ _ tt λ _. test _ _ tt λ _. says-accepted u

header-up : (newest : ℕ) (given : Option ℕ) (fs : Fields) → Ascending fs → Satisfies Any (header FileKind.Proof file_proof newest given fs) (λ h. Ascending h.rest)
unfolding header
header-up newest given fs up = bind (edition-up newest fs up) λ x u. bind (constants-up given x.1 u) λ y v. says-accepted v

finished_from : (fs : Fields) (n : ℕ) → Later n fs → Satisfies (From n) (finished FileKind.Proof file_proof fs) (λ _. Unit {0})
unfolding finished starts_at
finished_from (ends at) n l = says-accepted tt
finished_from (cut at) n l = says-refused l.from
finished_from (f ▸ fs) n l = test _ _ l.from λ _. says-refused l.from

-- ---- two cuts of one proof
data NearProof : Result Formula → Result Formula → Type 0 where
  both-close : {I J : Formula} → NearProof (accepted I) (accepted J)
  same_answer : (a : Answer) → NearProof (refused a) (refused a)
  left_cut : (a : Answer) {r : Result Formula} → OfCut a → ((b : Answer) → r ≡ refused b → a.place < b.place) → NearProof (refused a) r
  right-cut : (a : Answer) {r : Result Formula} → OfCut a → ((b : Answer) → r ≡ refused b → a.place < b.place) → NearProof r (refused a)

-- what follows the root
abbrev ending : Closing → Result Formula
ending c = finished FileKind.Proof file_proof c.after >> accepted c.formula

ended-cuts : (f : Result (Unit {0})) (I J : Formula) → NearProof (f >> accepted I) (f >> accepted J)
unfolding ◌>>◌
ended-cuts (refused a) I J = same_answer a
ended-cuts (accepted x) I J = both-close

later-than : {n : ℕ} {r : Result Closing} → Satisfies (From (suc n)) r (λ c. Later (suc n) c.after) → (b : Answer) → (r >>= ending) ≡ refused b → n < b.place
later-than {n} {r} s b q =
    let t : Satisfies (From (suc n)) (r >>= ending) (λ _. Unit {0}) = bind s λ c l. seq (finished_from c.after (suc n) l) (says-accepted tt) in
    t.refusal b q

closing-cuts : {r s : Result Closing} → TwoCuts r s → NearProof (r >>= ending) (s >>= ending)
unfolding ◌>>=◌
closing-cuts (alike {c = c} {d = d} p q a) = subst (λ (fs : Fields). NearProof (ending c) (finished FileKind.Proof file_proof fs >> accepted d.formula)) q (ended-cuts (finished FileKind.Proof file_proof c.after) c.formula d.formula)
closing-cuts (same a) = same_answer a
closing-cuts (left a k o) = left_cut a k (later-than o)
closing-cuts (right a k o) = right-cut a k (later-than o)

header-cuts : {r : Result Header} {f g : Header → Result Formula} → Satisfies Any r (λ h. Ascending h.rest) → ((h : Header) → Ascending h.rest → NearProof (f h) (g h)) → NearProof (r >>= f) (r >>= g)
unfolding ◌>>=◌
header-cuts {r = refused a} s k = same_answer a
header-cuts {r = accepted h} s k = k h (s.value h refl)

module _ (newest K : ℕ) (Ts : Run) (fs : Fields) (up : Ascending fs) where
  abbrev at_cut : ℕ → Result Formula
  at_cut i = check_proof newest (side K (up_to Ts i)) (side K (beyond Ts i)) fs

  cut-cuts : (i : ℕ) → NearProof (at_cut i) (at_cut 0)
  unfolding check_proof
  cut-cuts i = header-cuts (header-up newest (some K) fs up) λ h u.
      closing-cuts (all-branch-cuts (edition h.number) h.K (edition h.number).branchings root 0 (lines (up_to Ts i) (beyond Ts i)) (lines (up_to Ts 0) (beyond Ts 0)) h.rest (cut-lines Ts i) u)

  -- ---- the walk beside cut 0: whatever it refuses, but for 27 and 28, cut 0 has refused before or there
  walk-closing : {r : Result Closing} {s : Result Walked} (a : Answer) → Beside end_of r s → s ≡ refused a → Ours a ⊎ ((b : Answer) × (r ≡ refused b) × (b.place ≤ a.place))
  walk-closing a (closed p q u n) e = absurd (never (sym e))
  walk-closing a (told b k) e = inl (subst Ours (let q : b ≡ a = cc in q) k)
  walk-closing a (first b s) e = inr (b, refl, s.refusal a e)

  walk-header : (r : Result Header) (f : Header → Result Formula) (g : Header → Result Walked) (a : Answer) → Satisfies Any r (λ h. Ascending h.rest)
      → ((h : Header) → Ascending h.rest → g h ≡ refused a → Ours a ⊎ ((b : Answer) × (f h ≡ refused b) × (b.place ≤ a.place)))
      → (r >>= g) ≡ refused a → Ours a ⊎ ((b : Answer) × ((r >>= f) ≡ refused b) × (b.place ≤ a.place))
  unfolding ◌>>=◌
  walk-header (refused b) f g a s k e = let q : b ≡ a = cc in inr (a, ap refused q, omega arith)
  walk-header (accepted h) f g a s k e = k h (s.value h refl) e

  then-ends : {r : Result Closing} (a : Answer) → Ours a ⊎ ((b : Answer) × (r ≡ refused b) × (b.place ≤ a.place)) → Ours a ⊎ ((b : Answer) × ((r >>= ending) ≡ refused b) × (b.place ≤ a.place))
  unfolding ◌>>=◌
  then-ends a (inl k) = inl k
  then-ends a (inr (b, e, l)) = inr (b, ap (λ r. r >>= ending) e, l)

  walked : (a : Answer) → uniform newest K fs ≡ refused a → Ours a ⊎ ((b : Answer) × (at_cut 0 ≡ refused b) × (b.place ≤ a.place))
  unfolding uniform check_proof
  walked a e = walk-header (header FileKind.Proof file_proof newest (some K) fs) _ _ a (header-up newest (some K) fs up)
      (λ h u q. then-ends a (walk-closing a (branch-beside (edition h.number) h.K (edition h.number).branchings root 0 (lines (up_to Ts 0) (beyond Ts 0)) h.rest u) q)) e

-- ---- the refusal that comes first
both-refused : {X Y : Type 0} (r : Result X) (s : Result Y) (a : Answer) → both r s ≡ refused a
    → ((r ≡ refused a) × ((b : Answer) → s ≡ refused b → a.place ≤ b.place)) ⊎ ((s ≡ refused a) × ((b : Answer) → r ≡ refused b → a.place < b.place))
unfolding both
both-refused {X} {Y} (refused x) (refused y) a e = go (leb x.place y.place) refl e
  where
    go : (c : Bool) → leb x.place y.place ≡ c → ◌≡◌ {A = Result (X × Y)} (refused (cond c x y)) (refused a)
        → ((◌≡◌ {A = Result X} (refused x) (refused a)) × ((b : Answer) → ◌≡◌ {A = Result Y} (refused y) (refused b) → a.place ≤ b.place))
        ⊎ ((◌≡◌ {A = Result Y} (refused y) (refused a)) × ((b : Answer) → ◌≡◌ {A = Result X} (refused x) (refused b) → a.place < b.place))
    go true l e = let q : x ≡ a = cc in inl (ap refused q, λ b f. let p : y ≡ b = cc in subst (λ (u : Answer). u.place ≤ b.place) q (subst (λ (u : Answer). x.place ≤ u.place) p (leb→le _ _ (rw l tt))))
    go false l e = let q : y ≡ a = cc in inr (ap refused q, λ b f. let p : x ≡ b = cc in subst (λ (u : Answer). u.place < b.place) q (subst (λ (u : Answer). y.place < u.place) p (nleb→lt _ _ (rw l tt))))
both-refused (refused x) (accepted y) a e = inl (let q : x ≡ a = cc in ap refused q, λ b f. absurd (never (sym f)))
both-refused (accepted x) (refused y) a e = inr (let q : y ≡ a = cc in ap refused q, λ b f. absurd (never (sym f)))
both-refused (accepted x) (accepted y) a e = absurd (never (sym e))

mapped : {X Y : Type 0} (r : Result X) (f : X → Y) (a : Answer) → (r >>= λ x. accepted (f x)) ≡ refused a → r ≡ refused a
unfolding ◌>>=◌
mapped (refused x) f a e = let q : x ≡ a = cc in ap refused q
mapped (accepted x) f a e = absurd (never (sym e))

-- ---- 27 in place of 14
differs : (n : ℕ) → eqb n 14 ≡ false → n ≡ 14 → ⊥
differs n l q = true≢false (sym (ap (λ (n : ℕ). eqb n 14) q) ∙ l)

claim-refused : {X : Type 0} (r : Result X) (a : Answer) → claim_refused r ≡ refused a
    → ((r ≡ refused a) × (¬ (a.number ≡ 14))) ⊎ ((b : Answer) × (r ≡ refused b) × (b.number ≡ 14) × (a ≡ with_number 27 b))
unfolding claim_refused
claim-refused {X} (refused x) a e = go (eqb x.number 14) refl e
  where
    go : (c : Bool) → eqb x.number 14 ≡ c → ◌≡◌ {A = Result X} (refused (cond c (with_number 27 x) x)) (refused a)
        → ((◌≡◌ {A = Result X} (refused x) (refused a)) × (¬ (a.number ≡ 14))) ⊎ ((b : Answer) × (◌≡◌ {A = Result X} (refused x) (refused b)) × (b.number ≡ 14) × (a ≡ with_number 27 b))
    go true l e = let q : with_number 27 x ≡ a = cc in inr (x, refl, eqb→eq x.number 14 (subst T (sym l) tt), sym q)
    go false l e = let q : x ≡ a = cc in inl (ap refused q, λ n. differs x.number l (ap (λ (u : Answer). u.number) q ∙ n))
claim-refused (accepted x) a e = absurd (never (sym e))

-- a refusal of check stands at the same place in a run
claim-place : {X : Type 0} (r : Result X) (b : Answer) → r ≡ refused b → (c : Answer) × (claim_refused r ≡ refused c) × (c.place ≡ b.place)
unfolding claim_refused with_number
claim-place {X} (refused x) b e = let q : x ≡ b = cc in go (eqb x.number 14) q
  where
    go : (c : Bool) → x ≡ b → (y : Answer) × (◌≡◌ {A = Result X} (refused (cond c (with_number 27 x) x)) (refused y)) × (y.place ≡ b.place)
    go true q = (with_number 27 x, refl, ap (λ (u : Answer). u.place) q)
    go false q = (x, refl, ap (λ (u : Answer). u.place) q)
claim-place (accepted x) b e = absurd (never (sym e))

-- ---- a refusal is not passed over
record NoLater {X : Type 0} (r : Result X) (b : Answer) : Type 0 where
  by : Answer
  is : r ≡ refused by
  place : by.place ≤ b.place

least : (c : Bool) (x y : Answer) → leb x.place y.place ≡ c → ((cond c x y).place ≤ x.place) × ((cond c x y).place ≤ y.place)
least true x y l = (omega arith, leb→le _ _ (rw l tt))
least false x y l = (let h = nleb→lt x.place y.place (rw l tt) in omega arith, omega arith)

both_left : {X Y : Type 0} {r : Result X} (s : Result Y) {b : Answer} → r ≡ refused b → NoLater (both r s) b
unfolding both
both_left {r = r} (refused y) {b = b} e = rw e (record { by = cond (leb b.place y.place) b y; is = refl; place = (least (leb b.place y.place) b y refl).0 })
both_left {r = r} (accepted y) {b = b} e = rw e (record { by = b; is = refl; place = omega arith })

both_right : {X Y : Type 0} (r : Result X) {s : Result Y} {b : Answer} → s ≡ refused b → NoLater (both r s) b
unfolding both
both_right (refused x) {b = b} e = rw e (record { by = cond (leb x.place b.place) x b; is = refl; place = (least (leb x.place b.place) x b refl).1 })
both_right (accepted x) {b = b} e = rw e (record { by = b; is = refl; place = omega arith })

map-later : {X Y : Type 0} {r : Result X} (f : X → Y) {b : Answer} → NoLater r b → NoLater (r >>= λ x. accepted (f x)) b
unfolding ◌>>=◌
map-later f h = record { by = h.by; is = ap (λ r. r >>= λ x. accepted (f x)) h.is; place = h.place }

trans-later : {X : Type 0} {r : Result X} {a b : Answer} → NoLater r a → a.place ≤ b.place → NoLater r b
trans-later h l = record { by = h.by; is = h.is; place = omega (arith, h.place) }

module _ (newest K : ℕ) (Ts : Run) (fs : Fields) where
  -- of the cuts i to i+n
  cuts-refuse : (i n j : ℕ) (b : Answer) → i ≤ j → j ≤ i + n → check_cut newest K Ts fs j ≡ refused b → NoLater (check_cuts newest K Ts fs i n) b
  unfolding check_cuts
  cuts-refuse i zero j b l m e =
      let z : j ≡ i = omega arith in
      map-later _ (record { by = b; is = subst (λ (k : ℕ). check_cut newest K Ts fs k ≡ refused b) z e; place = omega arith })
  cuts-refuse i (suc n) j b l m e = pick (dec_le (suc i) j) (λ h. cuts-refuse (suc i) n j b h (omega arith) e)
    where
      pick : Dec (suc i ≤ j) → (suc i ≤ j → NoLater (check_cuts newest K Ts fs (suc i) n) b)
          → NoLater (both (check_cut newest K Ts fs i) (check_cuts newest K Ts fs (suc i) n) >>= λ (I, Is). accepted (I ∷ Is)) b
      pick (yes h) k = let t = k h in map-later _ (trans-later (both_right (check_cut newest K Ts fs i) t.is) t.place)
      pick (no h) k =
          let z : j ≡ i = omega arith in
          map-later _ (both_left (check_cuts newest K Ts fs (suc i) n) (subst (λ (k : ℕ). check_cut newest K Ts fs k ≡ refused b) z e))

  record SomeCut (i n : ℕ) (a : Answer) : Type 0 where
    at : ℕ
    to : at ≤ i + n
    is : check_cut newest K Ts fs at ≡ refused a

  some_of : (i n : ℕ) (a : Answer) → check_cuts newest K Ts fs i n ≡ refused a → SomeCut i n a
  unfolding check_cuts
  some_of i zero a e = record { at = i; to = omega arith; is = mapped (check_cut newest K Ts fs i) _ a e }
  some_of i (suc n) a e = pick (both-refused (check_cut newest K Ts fs i) (check_cuts newest K Ts fs (suc i) n) a (mapped (both (check_cut newest K Ts fs i) (check_cuts newest K Ts fs (suc i) n)) _ a e)) (some_of (suc i) n a)
    where
      pick : ((check_cut newest K Ts fs i ≡ refused a) × ((b : Answer) → check_cuts newest K Ts fs (suc i) n ≡ refused b → a.place ≤ b.place))
          ⊎ ((check_cuts newest K Ts fs (suc i) n ≡ refused a) × ((b : Answer) → check_cut newest K Ts fs i ≡ refused b → a.place < b.place))
          → (check_cuts newest K Ts fs (suc i) n ≡ refused a → SomeCut (suc i) n a) → SomeCut i (suc n) a
      pick (inl h) k = record { at = i; to = omega arith; is = h.0 }
      pick (inr h) k = let t = k h.0 in record { at = t.at; to = omega (arith, t.to); is = t.is }

  one_answer : {X : Type 0} {r : Result X} {a b : Answer} → r ≡ refused a → r ≡ refused b → a ≡ b
  one_answer p q = cc

  -- where the cuts are refused by a, no cut is refused at a lesser place
  first-of-all : (a : Answer) → check_cuts newest K Ts fs 0 (length Ts) ≡ refused a → (j : ℕ) → j ≤ length Ts → (b : Answer)
      → check_proof newest (side K (up_to Ts j)) (side K (beyond Ts j)) fs ≡ refused b → a.place ≤ b.place
  unfolding check_cut
  first-of-all a e j m b f =
      let (c, q, p) = claim-place (check_proof newest (side K (up_to Ts j)) (side K (beyond Ts j)) fs) b f in
      let t = cuts-refuse 0 (length Ts) j c (omega arith) (omega arith) q in
      let z : a ≡ t.by = one_answer e t.is in
      let y : a.place ≡ t.by.place = ap (λ (u : Answer). u.place) z in
      omega (arith, t.place)

-- ---- from one cut to another
module _ {a : Answer} (other : ¬ (OfCut a)) where
  forwards : {r s : Result Formula} → NearProof r s → r ≡ refused a → ((b : Answer) → s ≡ refused b → a.place ≤ b.place) → s ≡ refused a
  forwards both-close e h = absurd (never (sym e))
  forwards (same_answer x) e h = e
  forwards (left_cut x k l) e h = absurd (other (subst OfCut (let q : x ≡ a = cc in q) k))
  forwards (right-cut x k l) e h = absurd (let p : a.place ≤ x.place = h x refl in let q : x.place < a.place = l a e in omega arith)

  backwards : {r s : Result Formula} → NearProof r s → s ≡ refused a → ((b : Answer) → r ≡ refused b → a.place ≤ b.place) → r ≡ refused a
  backwards both-close e h = absurd (never (sym e))
  backwards (same_answer x) e h = e
  backwards (left_cut x k l) e h = absurd (let p : a.place ≤ x.place = h x refl in let q : x.place < a.place = l a e in omega arith)
  backwards (right-cut x k l) e h = absurd (other (subst OfCut (let q : x ≡ a = cc in q) k))

module _ (newest K : ℕ) (Ts : Run) (proof : List ℕ) where
  abbrev fs : Fields
  fs = fields proof

  abbrev Cuts : Answer → Type 0
  Cuts a = check_cuts newest K Ts fs 0 (length Ts) ≡ refused a

  neither : (a : Answer) → ¬ (a.number ≡ 13) → ¬ (a.number ≡ 14) → OfCut a → ⊥
  neither a n d (inl k) = n k
  neither a n d (inr k) = d k

  by-cut : (a : Answer) → Cuts a → (i : ℕ) → i ≤ length Ts → CutRefused newest K Ts proof a i → ¬ (a.number ≡ 14) → Dec (a.number ≡ 13) → RunRefused newest K Ts proof a
  by-cut a e i l q d (yes n) = some_cut i l n q
  by-cut a e i l q d (no n) =
      let other : ¬ (OfCut a) = neither a n d in
      let up = fields-ascend proof in
      let first = first-of-all newest K Ts fs a e in
      let zero : CutRefused newest K Ts proof a 0 = forwards other (cut-cuts newest K Ts fs up i) q (first 0 (omega arith)) in
      every_cut (λ j m. backwards other (cut-cuts newest K Ts fs up j) zero (first j m))

  by-claim : (a : Answer) → Cuts a → (i : ℕ) → i ≤ length Ts
      → (CutRefused newest K Ts proof a i × (¬ (a.number ≡ 14))) ⊎ ((b : Answer) × CutRefused newest K Ts proof b i × (b.number ≡ 14) × (a ≡ with_number 27 b)) → RunRefused newest K Ts proof a × (¬ (a.number ≡ 14))
  unfolding with_number
  by-claim a e i l (inl (q, d)) = (by-cut a e i l q d (ℕ_discrete a.number 13), d)
  by-claim a e i l (inr (b, q, n, z)) = (differing i l b n q z, λ d. let w : a.number ≡ 27 = ap (λ (u : Answer). u.number) z in omega arith)

  by-cuts : (a : Answer) → Cuts a → RunRefused newest K Ts proof a × (¬ (a.number ≡ 14))
  unfolding check_cut
  by-cuts a e = let c = some_of newest K Ts fs 0 (length Ts) a e in by-claim a e c.at (omega (arith, c.to)) (claim-refused _ a c.is)

  -- where the walk refuses before the cuts, no cut is refused there or before
  before : (a : Answer) → ((b : Answer) → Cuts b → a.place < b.place) → (j : ℕ) → j ≤ length Ts → (b : Answer) → CutRefused newest K Ts proof b j → a.place < b.place
  unfolding check_cut
  before a strict j m b q =
      let (c, f, p) = claim-place (check_proof newest (side K (up_to Ts j)) (side K (beyond Ts j)) fs) b q in
      let t = cuts-refuse newest K Ts fs 0 (length Ts) j c (omega arith) (omega arith) f in
      let s : a.place < t.by.place = strict t.by t.is in
      omega (arith, t.place)

  not-14 : (a : Answer) → Ours a → ¬ (a.number ≡ 14)
  not-14 a (inl k) d = omega arith
  not-14 a (inr k) d = omega arith

  by-walk : (a : Answer) → uniform newest K fs ≡ refused a → ((b : Answer) → Cuts b → a.place < b.place) → Ours a ⊎ ((b : Answer) × CutRefused newest K Ts proof b 0 × (b.place ≤ a.place))
      → RunRefused newest K Ts proof a × (¬ (a.number ≡ 14))
  by-walk a e strict (inl k) = (of_run k e (before a strict), not-14 a k)
  by-walk a e strict (inr (b, q, l)) = absurd (let s : a.place < b.place = before a strict 0 (omega arith) b q in omega arith)

  by-either : (a : Answer) → (Cuts a × ((b : Answer) → uniform newest K fs ≡ refused b → a.place ≤ b.place)) ⊎ ((uniform newest K fs ≡ refused a) × ((b : Answer) → Cuts b → a.place < b.place))
      → RunRefused newest K Ts proof a × Earliest newest K Ts proof a × (¬ (a.number ≡ 14))
  by-either a (inl (e, w)) = let (r, d) = by-cuts a e in (r, record { cuts = first-of-all newest K Ts fs a e; walk = w }, d)
  by-either a (inr (e, strict)) =
      let (r, d) = by-walk a e strict (walked newest K Ts fs (fields-ascend proof) a e) in
      (r, record { cuts = λ j m b q. let s : a.place < b.place = before a strict j m b q in omega arith; walk = λ b f. subst (λ (u : Answer). a.place ≤ u.place) (let z : a ≡ b = cc in z) (omega arith) }, d)

  run-refused : (a : Answer) → check_run newest K Ts fs ≡ refused a → RunRefused newest K Ts proof a × Earliest newest K Ts proof a × (¬ (a.number ≡ 14))
  unfolding check_run
  run-refused a e = by-either a (both-refused (check_cuts newest K Ts fs 0 (length Ts)) (uniform newest K fs) a (mapped (both (check_cuts newest K Ts fs 0 (length Ts)) (uniform newest K fs)) _ a e))

pub refused-as-check : RefusedAsCheck
refused-as-check = record { as_check = run-refused }
