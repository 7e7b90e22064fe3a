-- Over lines that differ in their partial interpolants only the check goes the same way, up to a 13 or a 14. Assumes nothing.
use mathlib.Core.Path.{◌≡◌, refl, ap, ap₂, subst}
use mathlib.Core.Logic.{◌⊎◌, inl, inr}
use mathlib.Core.Option.{Option, none, some}
use mathlib.Core.Bool.{Bool, true, false, not, ◌&&◌}
use mathlib.Core.List.{List, [], ◌∷◌}
use Prim.Native.Nat.{ℕ, zero, suc, ◌-◌}
use lib.Dec.{ltb}
use lib.ListN.{length, get_elem?}
use lib.IntN.{pos}
use Rattle.integers.specs.Linear.{eq_z}
use Rattle.integers.specs.Divides.{divb}
use Rattle.forms.specs.Edition.{Edition}
use Rattle.forms.specs.Forms.{Form, Kind, ≤0, =0, Side, A, B, LineKind, plain, apart, Line, line, neg, Formula, ◌and◌, ◌or◌, ◌⊞◌, ◌·◌, ◌plus◌, every}
use Rattle.calculus.specs.Rules.{◌▷◌, in_range, Inference, Combine, Reduce, Scale, Row, Derive, Strengthen, CloseNumber, CloseStride, Round, Split, Entry, row, claim}
use Rattle.answers.specs.declared.Answer.{Answer}
use Rattle.answers.specs.declared.Position.{Position}
use Rattle.answers.specs.Answers.{position, refusal_at, Result, refused, accepted, ◌>>=◌, ◌>>◌, need, found}
use Rattle.fields.specs.Fields.{Field, Fields, ends, cut, ◌▸◌}
use Rattle.proof.specs.Entries.{entry}
use Rattle.proof.specs.Rows.{is, plain_kind, owner, fails, undivided, line_at, derived, fitting, inequality, roundable, disequality, by_number, by_stride, states}
use Rattle.proof.specs.Check.{Closing, Checker, Following, there, check_rounded, check_split, check_row, check_entry, check_entries, check_branch}
use Rattle.proof.proofs.Satisfies.{says-accepted, bind}
use Rattle.run_laws.proofs.Ascending.{Ascending, Later, StandsFrom, AllFrom, AllFromIn, shut, opens, rounded-from, entries_from, branch-from}

-- ---- lines that differ in their partial interpolants, and in whose they are
pub data SameKind : LineKind → LineKind → Type 0 where
  plains : {k : Kind} → SameKind (plain k) (plain k)
  aparts : {σ τ : Side} → SameKind (apart σ) (apart τ)

pub record SameLine (l m : Line) : Type 0 where
  pub forms : l.t ≡ m.t
  pub kinds : SameKind l.kind m.kind

pub data SameLines : List Line → List Line → Type 0 where
  nil : SameLines [] []
  cons : {l m : Line} {ls ms : List Line} → SameLine l m → SameLines ls ms → SameLines (l ∷ ls) (m ∷ ms)

same_length : {ls ms : List Line} → SameLines ls ms → length ls ≡ length ms
same_length nil = refl
same_length (cons h hs) = ap suc (same_length hs)

same-and : {ls ms : List Line} {l m : Line} → SameLines ls ms → SameLine l m → SameLines (ls ▷ l) (ms ▷ m)
same-and nil h = cons h nil
same-and (cons g gs) h = cons g (same-and gs h)

data Both {X Y : Type 0} (R : X → Y → Type 0) : Option X → Option Y → Type 0 where
  nones : Both R none none
  somes : {x : X} {y : Y} → R x y → Both R (some x) (some y)

same-nth : {ls ms : List Line} → SameLines ls ms → (i : ℕ) → Both SameLine (get_elem? ls i) (get_elem? ms i)
same-nth nil i = nones
same-nth (cons h hs) zero = somes h
same-nth (cons h hs) (suc i) = same-nth hs i

-- ---- results that are alike
data Pair {X Y : Type 0} (R : X → Y → Type 0) : Result X → Result Y → Type 0 where
  agree : {x : X} {y : Y} → R x y → Pair R (accepted x) (accepted y)
  stop : (a : Answer) → Pair R (refused a) (refused a)

pair-bind : {X Y X' Y' : Type 0} {R : X → X' → Type 0} {S : Y → Y' → Type 0} {m : Result X} {m' : Result X'} {f : X → Result Y} {f' : X' → Result Y'}
    → Pair R m m' → ((x : X) (y : X') → R x y → Pair S (f x) (f' y)) → Pair S (m >>= f) (m' >>= f')
unfolding ◌>>=◌
pair-bind (agree r) h = h _ _ r
pair-bind (stop a) h = stop a

pair-test : {Y Y' : Type 0} {S : Y → Y' → Type 0} (a : Answer) (b b' : Bool) {r : Result Y} {r' : Result Y'} → b ≡ b' → Pair S r r' → Pair S (need a b >> r) (need a b' >> r')
unfolding need ◌>>◌
pair-test a true true q h = h
pair-test a false false q h = stop a
pair-test a true false q h = absurd (subst (λ (b : Bool). T' b) q tt)
  where
    T' : Bool → Type 0
    T' true = Unit
    T' false = ⊥
pair-test a false true q h = absurd (subst (λ (b : Bool). F' b) q tt)
  where
    F' : Bool → Type 0
    F' true = ⊥
    F' false = Unit

pair_found : {X Y : Type 0} {R : X → Y → Type 0} (a : Answer) {o : Option X} {o' : Option Y} → Both R o o' → Pair R (found a o) (found a o')
unfolding found
pair_found a nones = stop a
pair_found a (somes r) = agree r

is_same : (k : Kind) {κ κ' : LineKind} → SameKind κ κ' → is k κ ≡ is k κ'
unfolding is
is_same k plains = refl
is_same ≤0 aparts = refl
is_same =0 aparts = refl

plain-same : {κ κ' : LineKind} → SameKind κ κ' → Both (λ k k'. k ≡ k') (plain_kind κ) (plain_kind κ')
unfolding plain_kind
plain-same plains = somes refl
plain-same aparts = nones

owner-same : {κ κ' : LineKind} → SameKind κ κ' → Both (λ σ τ. Unit) (owner κ) (owner κ')
unfolding owner
owner-same plains = nones
owner-same aparts = somes tt

plain-line : (k k' : Kind) (t t' a a' : Form) → k ≡ k' → t ≡ t' → SameLine (line k t a) (line k' t' a')
plain-line k k' t t' a a' q e = record { forms = e; kinds = subst (λ (j : Kind). SameKind (plain k) (plain j)) q plains }

module _ (refusal : ℕ → Answer) {ls ms : List Line} (h : SameLines ls ms) where
  line-pair : (i : ℕ) → Pair SameLine (line_at refusal ls i) (line_at refusal ms i)
  unfolding line_at
  line-pair i = pair_found (refusal 10) (same-nth h i)

  derived-pair : (s : Inference) → Pair SameLine (derived refusal ls s) (derived refusal ms s)
  unfolding derived
  derived-pair (Combine i j α β) = pair-bind (line-pair i) λ s s' p. pair-bind (line-pair j) λ t t' q.
      pair-test _ _ _ (ap₂ ◌&&◌ (is_same ≤0 p.kinds) (is_same ≤0 q.kinds)) (pair-test _ _ _ refl (agree (plain-line ≤0 ≤0 _ _ _ _ refl (ap₂ (λ x y. pos α · x ⊞ pos β · y) p.forms q.forms))))
  derived-pair (Reduce i j α) = pair-bind (line-pair i) λ s s' p. pair-bind (line-pair j) λ t t' q. pair-bind (pair_found _ (plain-same p.kinds)) λ k k' e.
      pair-test _ _ _ (is_same =0 q.kinds) (pair-test _ _ _ refl (agree (plain-line k k' _ _ _ _ e (ap₂ (λ x y. x ⊞ α · y) p.forms q.forms))))
  derived-pair (Scale i α) = pair-bind (line-pair i) λ t t' p. pair-bind (pair_found _ (plain-same p.kinds)) λ k k' e. pair-test _ _ _ refl (agree (plain-line k k' _ _ _ _ e (ap (λ x. pos α · x) p.forms)))

  inequality-pair : (i : ℕ) → Pair SameLine (inequality refusal ls i) (inequality refusal ms i)
  unfolding inequality
  inequality-pair i = pair-bind (line-pair i) λ t t' p. pair-test _ _ _ (is_same ≤0 p.kinds) (agree p)

  roundable-pair : (e : Edition) (i g k : ℕ) → Pair SameLine (roundable refusal ls e i g k) (roundable refusal ms e i g k)
  unfolding roundable
  roundable-pair e i g k = pair-bind (inequality-pair i) λ t t' p. pair-test _ _ _ refl (pair-test _ _ _ (ap (λ (u : Form). every (divb (pos g)) u.coeffs && undivided g u.d k) p.forms) (agree p))

  disequality-pair : (i : ℕ) → Pair (λ x y. SameLine x.1 y.1) (disequality refusal ls i) (disequality refusal ms i)
  unfolding disequality
  disequality-pair i = pair-bind (line-pair i) λ t t' p. pair-bind (pair_found _ (owner-same p.kinds)) λ σ τ _. agree p

  number-test : (k k' : Kind) (t t' : Form) → k ≡ k' → t ≡ t' → every (λ c. eq_z c (pos 0)) t.coeffs && fails k t.d ≡ every (λ c. eq_z c (pos 0)) t'.coeffs && fails k' t'.d
  number-test k k' t t' p q = ap₂ (λ (k : Kind) (u : Form). every (λ c. eq_z c (pos 0)) u.coeffs && fails k u.d) p q

  by_number-pair : (i : ℕ) → Pair (λ I J. Unit {0}) (by_number refusal ls i) (by_number refusal ms i)
  unfolding by_number
  by_number-pair i = pair-bind (line-pair i) λ t t' p. pair-bind (pair_found _ (plain-same p.kinds)) λ k k' e. pair-test _ _ _ (number-test k k' t.t t'.t e p.forms) (agree tt)

  by_stride-pair : (i g : ℕ) → Pair (λ I J. Unit {0}) (by_stride refusal ls i g) (by_stride refusal ms i g)
  unfolding by_stride
  by_stride-pair i g = pair-bind (line-pair i) λ t t' p. pair-test _ _ _ (is_same =0 p.kinds) (pair-test _ _ _ refl
      (pair-test _ _ _ (ap (λ (u : Form). every (divb (pos g)) u.coeffs && not (divb (pos g) u.d)) p.forms) (agree tt)))

-- ---- what may differ from cut to cut: a 13, or a claim that differs
abbrev pub OfCut : Answer → Type 0
OfCut a = (a.number ≡ 13) ⊎ (a.number ≡ 14)

-- Two checks of the same fields: closed alike; the same refusal; or one is refused by 13 or 14, and the other not before that place, nor at it.
pub data TwoCuts : Result Closing → Result Closing → Type 0 where
  alike : {c d : Closing} → c.rows ≡ d.rows → c.after ≡ d.after → Ascending c.after → TwoCuts (accepted c) (accepted d)
  same : (a : Answer) → TwoCuts (refused a) (refused a)
  left : (a : Answer) {r : Result Closing} → OfCut a → StandsFrom (suc a.place) r → TwoCuts (refused a) r
  right : (a : Answer) {r : Result Closing} → OfCut a → StandsFrom (suc a.place) r → TwoCuts r (refused a)

cuts-bind : {m m' : Result Closing} {f f' : Closing → Result Closing} → TwoCuts m m'
    → ((c d : Closing) → c.rows ≡ d.rows → c.after ≡ d.after → Ascending c.after → TwoCuts (f c) (f' d))
    → ((n : ℕ) (c : Closing) → Later n c.after → StandsFrom n (f c)) → ((n : ℕ) (c : Closing) → Later n c.after → StandsFrom n (f' c))
    → TwoCuts (m >>= f) (m' >>= f')
unfolding ◌>>=◌
cuts-bind (alike p q a) h o o' = h _ _ p q a
cuts-bind (same a) h o o' = same a
cuts-bind (left a k s) h o o' = left a k (bind s λ c l. o' _ c l)
cuts-bind (right a k s) h o o' = right a k (bind s λ c l. o _ c l)

pair-cuts : {X Y : Type 0} {R : X → Y → Type 0} {m : Result X} {m' : Result Y} {f : X → Result Closing} {f' : Y → Result Closing} → Pair R m m' → ((x : X) (y : Y) → R x y → TwoCuts (f x) (f' y)) → TwoCuts (m >>= f) (m' >>= f')
unfolding ◌>>=◌
pair-cuts (agree r) h = h _ _ r
pair-cuts (stop a) h = same a

bind-same : {X Y : Type 0} (m : Result X) {k k' : X → Result Y} → ((x : X) → k x ≡ k' x) → (m >>= k) ≡ (m >>= k')
unfolding ◌>>=◌
bind-same (refused a) h = refl
bind-same (accepted x) h = h x

self-cuts : {X : Type 0} (m : Result X) {k k' : X → Result Closing} → ((x : X) → TwoCuts (k x) (k' x)) → TwoCuts (m >>= k) (m >>= k')
unfolding ◌>>=◌
self-cuts (refused a) h = same a
self-cuts (accepted x) h = h x

test-cuts : (a : Answer) (b : Bool) {r r' : Result Closing} → TwoCuts r r' → TwoCuts (need a b >> r) (need a b >> r')
unfolding need ◌>>◌
test-cuts a true h = h
test-cuts a false h = same a

-- a test that may come out otherwise in another cut
cut-cuts : (a : Answer) (b b' : Bool) {r r' : Result Closing} → OfCut a → TwoCuts r r' → StandsFrom (suc a.place) r → StandsFrom (suc a.place) r' → TwoCuts (need a b >> r) (need a b' >> r')
unfolding need ◌>>◌
cut-cuts a true true k h o o' = h
cut-cuts a true false k h o o' = right a k o
cut-cuts a false true k h o o' = left a k o'
cut-cuts a false false k h o o' = same a

fit-cuts : (x a : Answer) (b c c' : Bool) {r r' : Result Closing} → OfCut a → TwoCuts r r' → StandsFrom (suc a.place) r → StandsFrom (suc a.place) r'
    → TwoCuts ((need x b >> need a c) >> r) ((need x b >> need a c') >> r')
unfolding need ◌>>◌
fit-cuts x a false c c' k h o o' = same x
fit-cuts x a true true true k h o o' = h
fit-cuts x a true true false k h o o' = right a k o
fit-cuts x a true false true k h o o' = left a k o'
fit-cuts x a true false false k h o o' = same a

fits-cuts : (x a : Answer) (b c1 c2 d1 d2 : Bool) {r r' : Result Closing} → OfCut a → TwoCuts r r' → StandsFrom (suc a.place) r → StandsFrom (suc a.place) r'
    → TwoCuts ((need x b >> need a c1) >> ((need x b >> need a c2) >> r)) ((need x b >> need a d1) >> ((need x b >> need a d2) >> r'))
unfolding need ◌>>◌
fits-cuts x a false c1 c2 d1 d2 k h o o' = same x
fits-cuts x a true true true true true k h o o' = h
fits-cuts x a true true true true false k h o o' = right a k o
fits-cuts x a true true true false d2 k h o o' = right a k o
fits-cuts x a true true false true true k h o o' = left a k o'
fits-cuts x a true false c2 true true k h o o' = left a k o'
fits-cuts x a true true false true false k h o o' = same a
fits-cuts x a true true false false d2 k h o o' = same a
fits-cuts x a true false c2 true false k h o o' = same a
fits-cuts x a true false c2 false d2 k h o o' = same a

module _ (here : Position) (rows at : ℕ) (e : Edition) {ls ms : List Line} (h : SameLines ls ms) where
  fitting-cuts : (l m : Line) {r r' : Result Closing} → TwoCuts r r' → StandsFrom (suc at) r → StandsFrom (suc at) r'
      → TwoCuts (fitting (refusal_at here rows at) ls e l >> r) (fitting (refusal_at here rows at) ms e m >> r')
  unfolding fitting
  fitting-cuts l m {r} {r'} n o o' = subst
      (λ (k : ℕ). TwoCuts ((need (refusal_at here rows at 16) (ltb (length ls) e.lines) >> need (refusal_at here rows at 13) (in_range e.range l)) >> r)
      ((need (refusal_at here rows at 16) (ltb k e.lines) >> need (refusal_at here rows at 13) (in_range e.range m)) >> r'))
      (same_length h)
      (fit-cuts (refusal_at here rows at 16) (refusal_at here rows at 13) (ltb (length ls) e.lines) (in_range e.range l) (in_range e.range m) (inl refl) n o o')

  -- two lines that are tested at one row
  both-fit : (l1 l2 m1 m2 : Line) {r r' : Result Closing} → TwoCuts r r' → StandsFrom (suc at) r → StandsFrom (suc at) r'
      → TwoCuts (fitting (refusal_at here rows at) ls e l1 >> (fitting (refusal_at here rows at) ls e l2 >> r)) (fitting (refusal_at here rows at) ms e m1 >> (fitting (refusal_at here rows at) ms e m2 >> r'))
  unfolding fitting
  both-fit l1 l2 m1 m2 {r} {r'} n o o' =
      let x = refusal_at here rows at 16 in
      let a = refusal_at here rows at 13 in
      let b = ltb (length ls) e.lines in
      subst (λ (k : ℕ). TwoCuts ((need x b >> need a (in_range e.range l1)) >> ((need x b >> need a (in_range e.range l2)) >> r))
      ((need x (ltb k e.lines) >> need a (in_range e.range m1)) >> ((need x (ltb k e.lines) >> need a (in_range e.range m2)) >> r')))
      (same_length h)
      (fits-cuts x a b (in_range e.range l1) (in_range e.range l2) (in_range e.range m1) (in_range e.range m2) (inl refl) n o o')

-- ---- the branches
abbrev pub AllTwoCuts : Checker → Type 0
AllTwoCuts checker = (here : Position) (rows : ℕ) (ls ms : List Line) (fs : Fields) → SameLines ls ms → Ascending fs → TwoCuts (checker here rows ls fs) (checker here rows ms fs)

checker-cuts : {checker : Checker} → AllTwoCuts checker → (here : Position) (rows rows' : ℕ) (ls ms : List Line) (fs fs' : Fields) → rows ≡ rows' → fs ≡ fs' → SameLines ls ms → Ascending fs
    → TwoCuts (checker here rows ls fs) (checker here rows' ms fs')
checker-cuts {checker} d here rows rows' ls ms fs fs' p q h a =
    subst (λ (n : ℕ). TwoCuts (checker here rows ls fs) (checker here n ms fs')) p (subst (λ (gs : Fields). TwoCuts (checker here rows ls fs) (checker here rows ms gs)) q (d here rows ls ms fs h a))

module _ {checker : Checker} (near : AllTwoCuts checker) (on : AllFrom checker) {ls ms : List Line} (h : SameLines ls ms) where
  -- a branch that starts with one more line, and then what follows it
  branch-cuts : (here : Position) (rows rows' : ℕ) (fs fs' : Fields) (l m : Line) → SameLine l m → rows ≡ rows' → fs ≡ fs' → Ascending fs
      → TwoCuts (checker here rows (ls ▷ l) fs) (checker here rows' (ms ▷ m) fs')
  branch-cuts here rows rows' fs fs' l m s p q a = checker-cuts near here rows rows' (ls ▷ l) (ms ▷ m) fs fs' p q (same-and h s) a

  rounded-cuts : (l m : Line) → SameLine l m → (at g k j more rows rows' : ℕ) (fs fs' : Fields) → rows ≡ rows' → fs ≡ fs' → Ascending fs
      → TwoCuts (check_rounded checker ls l at g k j more rows fs) (check_rounded checker ms m at g k j more rows' fs')
  unfolding check_rounded
  rounded-cuts l m s at g k j zero rows rows' fs fs' p q a = cuts-bind
      (branch-cuts (position at (suc j)) rows rows' fs fs' _ _ (plain-line ≤0 ≤0 _ _ _ _ refl (ap (λ (u : Form). u plus k) s.forms)) p q a)
      (λ c d p q a. alike p q a) (λ n c l. says-accepted l) (λ n c l. says-accepted l)
  rounded-cuts l m s at g k j (suc more) rows rows' fs fs' p q a = cuts-bind
      (branch-cuts (position at (suc j)) rows rows' fs fs' _ _ (plain-line ≤0 ≤0 _ _ _ _ refl (ap (λ (u : Form). u plus k) s.forms)) p q a)
      (λ c d p q a. cuts-bind (rounded-cuts l m s at g k (suc j) more c.rows d.rows c.after d.after p q a) (λ c d p q a. alike p q a) (λ n c l. says-accepted l) (λ n c l. says-accepted l))
      (λ n c i. bind (rounded-from checker on ls l at g k (suc j) more c.rows c.after n i) λ d m. says-accepted m)
      (λ n c i. bind (rounded-from checker on ms m at g k (suc j) more c.rows c.after n i) λ d m. says-accepted m)

  -- two branches, and three
  two-cuts : (f g : Formula → Formula → Formula) (here here2 : Position) (rows : ℕ) (fs : Fields) (l1 m1 l2 m2 : Line) → SameLine l1 m1 → SameLine l2 m2 → Ascending fs
      → TwoCuts (checker here rows (ls ▷ l1) fs >>= λ x. checker here2 x.rows (ls ▷ l2) x.after >>= λ y. accepted (record { formula = f x.formula y.formula; rows = y.rows; after = y.after }))
      (checker here rows (ms ▷ m1) fs >>= λ x. checker here2 x.rows (ms ▷ m2) x.after >>= λ y. accepted (record { formula = g x.formula y.formula; rows = y.rows; after = y.after }))
  two-cuts f g here here2 rows fs l1 m1 l2 m2 s1 s2 a = cuts-bind (branch-cuts here rows rows fs fs l1 m1 s1 refl refl a)
      (λ c d p q a. cuts-bind (branch-cuts here2 c.rows d.rows c.after d.after l2 m2 s2 p q a) (λ c d p q a. alike p q a) (λ n c l. says-accepted l) (λ n c l. says-accepted l))
      (λ n c i. bind (on here2 c.rows (ls ▷ l2) c.after n i) λ d m. says-accepted m)
      (λ n c i. bind (on here2 c.rows (ms ▷ m2) c.after n i) λ d m. says-accepted m)

  two_from : (f : Formula → Formula → Formula) (here here2 : Position) (rows : ℕ) (fs : Fields) (xs : List Line) (l1 l2 : Line) (n : ℕ) → Later n fs
      → StandsFrom n (checker here rows (xs ▷ l1) fs >>= λ x. checker here2 x.rows (xs ▷ l2) x.after >>= λ y. accepted (record { formula = f x.formula y.formula; rows = y.rows; after = y.after }))
  two_from f here here2 rows fs xs l1 l2 n i = bind (on here rows (xs ▷ l1) fs n i) λ c i. bind (on here2 c.rows (xs ▷ l2) c.after n i) λ d m. says-accepted m

  split-lines : {t t' : Form} → t ≡ t' → (a a' : Form) → SameLine (line ≤0 (t plus 1) a) (line ≤0 (t' plus 1) a')
  split-lines q a a' = plain-line ≤0 ≤0 _ _ _ _ refl (ap (λ (u : Form). u plus 1) q)

  neg-lines : {t t' : Form} → t ≡ t' → (a a' : Form) → SameLine (line ≤0 (neg t plus 1) a) (line ≤0 (neg t' plus 1) a')
  neg-lines q a a' = plain-line ≤0 ≤0 _ _ _ _ refl (ap (λ (u : Form). neg u plus 1) q)

  module _ (e : Edition) (here : Position) (rows at : ℕ) (fs : Fields) (l : Later (suc at) fs) where
    -- a split, whoever its line's owner is
    split-as : (f g : Formula → Formula → Formula) (l1 m1 l2 m2 : Line) → SameLine l1 m1 → SameLine l2 m2
        → TwoCuts (fitting (refusal_at here rows at) ls e l1 >> (fitting (refusal_at here rows at) ls e l2 >> (checker (position rows 0) (suc rows) (ls ▷ l1) fs >>= λ x. checker (position rows 1) x.rows (ls ▷ l2) x.after >>= λ y. accepted (record { formula = f x.formula y.formula; rows = y.rows; after = y.after }))))
        (fitting (refusal_at here rows at) ms e m1 >> (fitting (refusal_at here rows at) ms e m2 >> (checker (position rows 0) (suc rows) (ms ▷ m1) fs >>= λ x. checker (position rows 1) x.rows (ms ▷ m2) x.after >>= λ y. accepted (record { formula = g x.formula y.formula; rows = y.rows; after = y.after }))))
    split-as f g l1 m1 l2 m2 s1 s2 = both-fit here rows at e h l1 l2 m1 m2
        (two-cuts f g (position rows 0) (position rows 1) (suc rows) fs l1 m1 l2 m2 s1 s2 l.up)
        (two_from f (position rows 0) (position rows 1) (suc rows) fs ls l1 l2 (suc at) l) (two_from g (position rows 0) (position rows 1) (suc rows) fs ms m1 m2 (suc at) l)

    split-cuts : (σ τ : Side) (t t' a a' : Form) → t ≡ t' → TwoCuts (check_split e (refusal_at here rows at) checker σ ls t a rows fs) (check_split e (refusal_at here rows at) checker τ ms t' a' rows fs)
    unfolding check_split
    split-cuts A A t t' a a' q = split-as ◌or◌ ◌or◌ _ _ _ _ (split-lines q _ _) (neg-lines q _ _)
    split-cuts A B t t' a a' q = split-as ◌or◌ ◌and◌ _ _ _ _ (split-lines q _ _) (neg-lines q _ _)
    split-cuts B A t t' a a' q = split-as ◌and◌ ◌or◌ _ _ _ _ (split-lines q _ _) (neg-lines q _ _)
    split-cuts B B t t' a a' q = split-as ◌and◌ ◌and◌ _ _ _ _ (split-lines q _ _) (neg-lines q _ _)

    -- the three branches of a strengthen
    three-from : (xs : List Line) (l1 l2 l3 : Line) → StandsFrom (suc at) (checker (position rows 0) (suc rows) (xs ▷ l1) fs >>= λ x. checker (position rows 1) x.rows (xs ▷ l2) x.after >>= λ y. checker (position rows 2) y.rows (xs ▷ l3) y.after >>= λ z.
        accepted (record { formula = x.formula or (y.formula and z.formula); rows = z.rows; after = z.after }))
    three-from xs l1 l2 l3 = bind (on _ _ (xs ▷ l1) fs (suc at) l) λ x i. bind (on _ _ (xs ▷ l2) x.after (suc at) i) λ y i. bind (on _ _ (xs ▷ l3) y.after (suc at) i) λ z i. says-accepted i

    three-cuts : (l1 m1 l2 m2 l3 m3 : Line) → SameLine l1 m1 → SameLine l2 m2 → SameLine l3 m3
        → TwoCuts (checker (position rows 0) (suc rows) (ls ▷ l1) fs >>= λ x. checker (position rows 1) x.rows (ls ▷ l2) x.after >>= λ y. checker (position rows 2) y.rows (ls ▷ l3) y.after >>= λ z.
        accepted (record { formula = x.formula or (y.formula and z.formula); rows = z.rows; after = z.after }))
        (checker (position rows 0) (suc rows) (ms ▷ m1) fs >>= λ x. checker (position rows 1) x.rows (ms ▷ m2) x.after >>= λ y. checker (position rows 2) y.rows (ms ▷ m3) y.after >>= λ z.
        accepted (record { formula = x.formula or (y.formula and z.formula); rows = z.rows; after = z.after }))
    three-cuts l1 m1 l2 m2 l3 m3 s1 s2 s3 = cuts-bind (branch-cuts (position rows 0) (suc rows) (suc rows) fs fs l1 m1 s1 refl refl l.up)
        (λ c d p q a. cuts-bind (branch-cuts (position rows 1) c.rows d.rows c.after d.after l2 m2 s2 p q a)
        (λ c d p q a. cuts-bind (branch-cuts (position rows 2) c.rows d.rows c.after d.after l3 m3 s3 p q a) (λ c d p q a. alike p q a) (λ n c i. says-accepted i) (λ n c i. says-accepted i))
        (λ n c i. bind (on (position rows 2) c.rows (ls ▷ l3) c.after n i) λ z i. says-accepted i)
        (λ n c i. bind (on (position rows 2) c.rows (ms ▷ m3) c.after n i) λ z i. says-accepted i))
        (λ n c i. bind (on (position rows 1) c.rows (ls ▷ l2) c.after n i) λ y i. bind (on (position rows 2) y.rows (ls ▷ l3) y.after n i) λ z i. says-accepted i)
        (λ n c i. bind (on (position rows 1) c.rows (ms ▷ m2) c.after n i) λ y i. bind (on (position rows 2) y.rows (ms ▷ m3) y.after n i) λ z i. says-accepted i)

    -- those of a rounding
    round-cuts : (x y : Line) → SameLine x y → (g k : ℕ)
        → TwoCuts (checker (position rows 0) (suc rows) (ls ▷ line ≤0 (x.t plus k) (x.t_A plus k)) fs >>= λ c. check_rounded checker ls x rows g k 0 (k - 1) c.rows c.after >>= λ z. accepted (record { formula = c.formula or z.formula; rows = z.rows; after = z.after }))
        (checker (position rows 0) (suc rows) (ms ▷ line ≤0 (y.t plus k) (y.t_A plus k)) fs >>= λ c. check_rounded checker ms y rows g k 0 (k - 1) c.rows c.after >>= λ z. accepted (record { formula = c.formula or z.formula; rows = z.rows; after = z.after }))
    round-cuts x y s g k = cuts-bind (branch-cuts (position rows 0) (suc rows) (suc rows) fs fs _ _ (plain-line ≤0 ≤0 _ _ _ _ refl (ap (λ (u : Form). u plus k) s.forms)) refl refl l.up)
        (λ c d p q a. cuts-bind (rounded-cuts x y s rows g k 0 (k - 1) c.rows d.rows c.after d.after p q a) (λ c d p q a. alike p q a) (λ n c i. says-accepted i) (λ n c i. says-accepted i))
        (λ n c i. bind (rounded-from checker on ls x rows g k 0 (k - 1) c.rows c.after n i) λ z i. says-accepted i)
        (λ n c i. bind (rounded-from checker on ms y rows g k 0 (k - 1) c.rows c.after n i) λ z i. says-accepted i)

    round-from : (xs : List Line) (x : Line) (g k : ℕ)
        → StandsFrom (suc at) (checker (position rows 0) (suc rows) (xs ▷ line ≤0 (x.t plus k) (x.t_A plus k)) fs >>= λ c. check_rounded checker xs x rows g k 0 (k - 1) c.rows c.after >>= λ z. accepted (record { formula = c.formula or z.formula; rows = z.rows; after = z.after }))
    round-from xs x g k = bind (on (position rows 0) (suc rows) (xs ▷ line ≤0 (x.t plus k) (x.t_A plus k)) fs (suc at) l) λ c i. bind (rounded-from checker on xs x rows g k 0 (k - 1) c.rows c.after (suc at) i) λ z i. says-accepted i

-- ---- the entries of a branch
data SameMade : Option Line → Option Line → Type 0 where
  nones : SameMade none none
  somes : {l m : Line} → SameLine l m → SameMade (some l) (some m)

made-both : {made made' : Option Line} → SameMade made made' → Both SameLine made made'
made-both nones = nones
made-both (somes s) = somes s

data DeepTwoCuts : Option Checker → Type 0 where
  cuts-shut : DeepTwoCuts none
  cuts-opens : {checker : Checker} → AllTwoCuts checker → AllFrom checker → DeepTwoCuts (some checker)

deep-from : {deeper : Option Checker} → DeepTwoCuts deeper → AllFromIn deeper
deep-from cuts-shut = shut
deep-from (cuts-opens n o) = opens o

deeper-cuts : (a : Answer) {deeper : Option Checker} → DeepTwoCuts deeper → {k k' : Checker → Result Closing} → ((c : Checker) → AllTwoCuts c → AllFrom c → TwoCuts (k c) (k' c)) → TwoCuts (found a deeper >>= k) (found a deeper >>= k')
unfolding found ◌>>=◌
deeper-cuts a cuts-shut h = same a
deeper-cuts a (cuts-opens n o) h = h _ n o

module _ (e : Edition) (K : ℕ) (here : Position) (deeper : Option Checker) (deep : DeepTwoCuts deeper) where
  module _ (f : Field) (fs : Fields) (up : Ascending (f ▸ fs)) (next : Following)
      (near : (rows : ℕ) (made made' : Option Line) (ls ms : List Line) → SameMade made made' → SameLines ls ms → TwoCuts (next rows made ls) (next rows made' ms))
      (on : (rows : ℕ) (made : Option Line) (ls : List Line) → StandsFrom (suc f.at) (next rows made ls)) (rows : ℕ) {ls ms : List Line} (h : SameLines ls ms) where
    behind-it : Later (suc f.at) fs
    behind-it = record { from = up.0; up = up.1 }

    row-cuts : (r : Row) → TwoCuts (check_row e K deeper next (refusal_at here rows f.at) rows ls fs r) (check_row e K deeper next (refusal_at here rows f.at) rows ms fs r)
    unfolding check_row
    row-cuts (Derive s) = pair-cuts (derived-pair _ h s) λ l m q. fitting-cuts here rows f.at e h l m (near (suc rows) (some l) (some m) _ _ (somes q) (same-and h q)) (on _ _ _) (on _ _ _)
    row-cuts (Strengthen i) = pair-cuts (inequality-pair _ h i) λ l m q. deeper-cuts _ deep λ c n o. fitting-cuts here rows f.at e h _ _
        (three-cuts n o h e here rows f.at fs behind-it _ _ _ _ _ _ (split-lines n o h q.forms _ _) (plain-line =0 =0 _ _ _ _ refl q.forms) (split-lines n o h q.forms _ _))
        (three-from n o h e here rows f.at fs behind-it ls _ _ _) (three-from n o h e here rows f.at fs behind-it ms _ _ _)
    row-cuts (Round i g k) = pair-cuts (roundable-pair _ h e i g k) λ l m q. deeper-cuts _ deep λ c n o. fitting-cuts here rows f.at e h _ _
        (round-cuts n o h e here rows f.at fs behind-it l m q g k) (round-from n o h e here rows f.at fs behind-it ls l g k) (round-from n o h e here rows f.at fs behind-it ms m g k)
    row-cuts (Split i) = pair-cuts (disequality-pair _ h i) λ (σ, l) (τ, m) q. deeper-cuts _ deep λ c n o. split-cuts n o h e here rows f.at fs behind-it σ τ l.t m.t l.t_A m.t_A q.forms
    row-cuts (CloseNumber i) = pair-cuts (by_number-pair _ h i) λ I J _. alike refl refl up.1
    row-cuts (CloseStride i g) = pair-cuts (by_stride-pair _ h i g) λ I J _. alike refl refl up.1

    entry-cuts : {made made' : Option Line} → SameMade made made' → (x : Entry)
        → TwoCuts (check_entry e K deeper next (refusal_at here rows f.at) rows made ls fs x) (check_entry e K deeper next (refusal_at here rows f.at) rows made' ms fs x)
    unfolding check_entry
    entry-cuts q (row r) = test-cuts _ _ (row-cuts r)
    entry-cuts q (claim t t_A) = pair-cuts (pair_found _ (made-both q)) λ l m _. cut-cuts _ (states t t_A l) (states t t_A m) (inr refl) (near rows none none ls ms nones h) (on _ _ _) (on _ _ _)

  entry-same : {made made' : Option Line} (refusal : ℕ → Answer) (f : Field) → SameMade made made' → entry e K refusal (there made) f ≡ entry e K refusal (there made') f
  entry-same refusal f nones = refl
  entry-same refusal f (somes q) = refl

  entries-cuts : (fs : Fields) → Ascending fs → (rows : ℕ) (made made' : Option Line) (ls ms : List Line) → SameMade made made' → SameLines ls ms
      → TwoCuts (check_entries e K here deeper fs rows made ls) (check_entries e K here deeper fs rows made' ms)
  unfolding check_entries
  entries-cuts (ends at) up rows made made' ls ms q h = same _
  entries-cuts (cut at) up rows made made' ls ms q h = same _
  entries-cuts (f ▸ fs) up rows made made' ls ms q h = subst
      (λ r. TwoCuts (entry e K (refusal_at here rows f.at) (there made) f >>= λ x. check_entry e K deeper (check_entries e K here deeper fs) (refusal_at here rows f.at) rows made ls fs x)
      (r >>= λ x. check_entry e K deeper (check_entries e K here deeper fs) (refusal_at here rows f.at) rows made' ms fs x))
      (entry-same (refusal_at here rows f.at) f q)
      (self-cuts (entry e K (refusal_at here rows f.at) (there made) f) λ x. entry-cuts f fs up _ (λ rows made made' ls ms q h. entries-cuts fs up.1 rows made made' ls ms q h)
      (λ rows made ls. entries_from e K here deeper (deep-from deep) fs (suc f.at) (record { from = up.0; up = up.1 }) rows made ls) rows h q x)

pub all-branch-cuts : (e : Edition) (K room : ℕ) → AllTwoCuts (check_branch e K room)
unfolding check_branch
all-branch-cuts e K zero here rows ls ms fs h up = entries-cuts e K here none cuts-shut fs up rows none none ls ms nones h
all-branch-cuts e K (suc room) here rows ls ms fs h up = entries-cuts e K here (some (check_branch e K room)) (cuts-opens (all-branch-cuts e K room) (branch-from e K room)) fs up rows none none ls ms nones h
