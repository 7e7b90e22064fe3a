-- The sequence is in strict order, by number of rows and then by bytes, so each proof comes once. Assumes nothing.
use mathlib.Core.Path.{◌≡◌, refl, sym, ◌∙◌, ap, subst}
use mathlib.Core.Option.{Option, some}
use mathlib.Core.Logic.{◌⊎◌, inl, inr}
use mathlib.Core.Bool.{Bool, true, false, ◌&&◌, ◌||◌}
use mathlib.Core.List.{List, [], ◌∷◌, ◌++◌, map}
use Prim.Native.Nat.{ℕ, zero, suc, ◌+◌, ◌<◌, ◌≤◌}
use native.Mathlib.Omega.{arith}
use lib.Dec.{T, ltb, eqb, ltb→lt, eqb→eq}
use lib.ListN.{length, length-append, length-map}
use mir.Facts.{and_yes}
use Rattle.forms.specs.Forms.{All, nil, cons, Line}
use Rattle.calculus.specs.Rules.{◌▷◌, Inference, Row, Derive}
use Rattle.answers.specs.Answers.{Result, refused, accepted}
use Rattle.number_bytes.specs.Numbers.{unsigned_bytes, residue, signed_bytes}
use Rattle.fields.specs.Fields.{Item, items, fields, file_of, field_bytes}
use Rattle.enumeration.specs.ShortProofs.{row_item, proof_file}
use Rattle.enumeration.specs.Sequence.{concat_map, up_from, combines, reduces, scales, inferences, number_closes, stride_closes, close_rows, new_line, close_formula, if_accepted, proofs_of, short_proofs_of}
use Rattle.enumeration.specs.Order.{Lexicographic, Precedes, Increasing}
use Rattle.enumeration.proofs.Members.{all_in, in_all, all_both, all-concat_map, all-mapped}
use Rattle.enumeration.proofs.Bytes.{table-items}
use Rattle.enumeration.proofs.Branches.{if_accepted-all}

-- ---- bytes that differ
-- xs and ys differ at a byte, and at the first such xs has the lesser.
pub data Differs : List ℕ → List ℕ → Type 0 where
  less : {x y : ℕ} {xs ys : List ℕ} → x < y → Differs (x ∷ xs) (y ∷ ys)
  same : {x y : ℕ} {xs ys : List ℕ} → x ≡ y → Differs xs ys → Differs (x ∷ xs) (y ∷ ys)

lt-lt : {x y z : ℕ} → x < y → y < z → x < z
lt-lt a b = omega arith

lt-eq : {x y z : ℕ} → x < y → y ≡ z → x < z
lt-eq a b = omega arith

eq-lt : {x y z : ℕ} → x ≡ y → y < z → x < z
eq-lt a b = omega arith

differs-trans : {xs ys zs : List ℕ} → Differs xs ys → Differs ys zs → Differs xs zs
differs-trans (less a) (less b) = less (lt-lt a b)
differs-trans (less a) (same e q) = less (lt-eq a e)
differs-trans (same e p) (less b) = less (eq-lt e b)
differs-trans (same e p) (same d q) = same (e ∙ d) (differs-trans p q)

differs-before : {xs ys : List ℕ} (us vs : List ℕ) → Differs xs ys → Differs (xs ++ us) (ys ++ vs)
differs-before us vs (less a) = less a
differs-before us vs (same e p) = same e (differs-before us vs p)

differs-after : (zs : List ℕ) {xs ys : List ℕ} → Differs xs ys → Differs (zs ++ xs) (zs ++ ys)
differs-after [] p = p
differs-after (z ∷ zs) p = same refl (differs-after zs p)

differs-below : {xs ys : List ℕ} → Differs xs ys → Lexicographic xs ys
differs-below (less a) = Lexicographic.less a
differs-below (same {x = x} {xs = xs} {ys = ys} e p) = subst (λ (y : ℕ). Lexicographic (x ∷ xs) (y ∷ ys)) e (Lexicographic.same (differs-below p))

unfoldable differing : List ℕ → List ℕ → Bool
differing [] ys = false
differing (x ∷ xs) [] = false
differing (x ∷ xs) (y ∷ ys) = ltb x y || (eqb x y && differing xs ys)

or-either : (a b : Bool) → T (a || b) → T a ⊎ T b
or-either true b t = inl tt
or-either false b t = inr t

tested : (xs ys : List ℕ) → T (differing xs ys) → Differs xs ys
unfolding differing
tested [] ys t = absurd t
tested (x ∷ xs) [] t = absurd t
tested (x ∷ xs) (y ∷ ys) t = go (or-either (ltb x y) (eqb x y && differing xs ys) t) (tested xs ys)
  where
    go : T (ltb x y) ⊎ T (eqb x y && differing xs ys) → (T (differing xs ys) → Differs xs ys) → Differs (x ∷ xs) (y ∷ ys)
    go (inl a) ih = less (ltb→lt x y a)
    go (inr b) ih = let (e, d) = and_yes (eqb x y) (differing xs ys) b in same (eqb→eq x y e) (ih d)

-- ---- lists in order
unfoldable ordered : List (List ℕ) → Bool
ordered [] = true
ordered (xs ∷ []) = true
ordered (xs ∷ ys ∷ zss) = differing xs ys && ordered (ys ∷ zss)

all-weaken : {X : Type 0} {P Q : X → Type 0} {xs : List X} → ((x : X) → P x → Q x) → All P xs → All Q xs
all-weaken h nil = nil
all-weaken h (cons {x = x} p ps) = cons (h x p) (all-weaken h ps)

ordered-increasing : (xss : List (List ℕ)) → T (ordered xss) → Increasing Differs xss
unfolding ordered
ordered-increasing [] t = tt
ordered-increasing (xs ∷ []) t = (nil, tt)
ordered-increasing (xs ∷ ys ∷ zss) t =
    let (d, o) = and_yes (differing xs ys) (ordered (ys ∷ zss)) t in
    let (first, others) = ordered-increasing (ys ∷ zss) o in
    let p = tested xs ys d in
    (cons p (all-weaken (λ (zs : List ℕ) q. differs-trans p q) first), (first, others))

increasing-of : {X Y : Type 0} (R : Y → Y → Type 0) (f : X → Y) (xs : List X) → Increasing R (map f xs) → Increasing (λ x y. R (f x) (f y)) xs
increasing-of R f [] i = tt
increasing-of R f (x ∷ xs) (a, i) = (go xs a, increasing-of R f xs i)
  where
    go : (ys : List _) → All (R (f x)) (map f ys) → All (λ y. R (f x) (f y)) ys
    go [] nil = nil
    go (y ∷ ys) (cons p ps) = cons p (go ys ps)

increasing-map : {X Y : Type 0} (R : Y → Y → Type 0) (f : X → Y) (xs : List X) → Increasing (λ x y. R (f x) (f y)) xs → Increasing R (map f xs)
increasing-map R f [] i = tt
increasing-map R f (x ∷ xs) (a, i) = (all-mapped (R (f x)) f xs (all_in (λ y. R (f x) (f y)) xs a), increasing-map R f xs i)

increasing-append : {X : Type 0} (R : X → X → Type 0) (xs ys : List X) → Increasing R xs → Increasing R ys → All (λ x. All (R x) ys) xs → Increasing R (xs ++ ys)
increasing-append R [] ys i j h = j
increasing-append R (x ∷ xs) ys (a, i) j (cons p ps) = (all_both a p, increasing-append R xs ys i j ps)

increasing-weaken : {X : Type 0} (P : X → Type 0) (R Q : X → X → Type 0) (xs : List X) → All P xs → ((x y : X) → P x → P y → R x y → Q x y) → Increasing R xs → Increasing Q xs
increasing-weaken P R Q [] ps h i = tt
increasing-weaken P R Q (x ∷ xs) (cons p ps) h (a, i) =
    (in_all (Q x) xs (λ y m. h x y p (all_in P xs ps y m) (all_in (R x) xs a y m)), increasing-weaken P R Q xs ps h i)

-- blocks, where the first of two blocks is before the second
increasing-concat_map : {X Y : Type 0} (S : X → X → Type 0) (R : Y → Y → Type 0) (f : X → List Y) (xs : List X) → Increasing S xs → ((x : X) → Increasing R (f x))
    → ((x y : X) → S x y → All (λ a. All (R a) (f y)) (f x)) → Increasing R (concat_map f xs)
unfolding concat_map
increasing-concat_map S R f [] i own across = tt
increasing-concat_map S R f (x ∷ xs) (a, i) own across =
    increasing-append R (f x) (concat_map f xs) (own x) (increasing-concat_map S R f xs i own across)
    (in_all (λ b. All (R b) (concat_map f xs)) (f x) (λ b m. all-concat_map (R b) f xs (λ y n. all_in (λ b. All (R b) (f y)) (f x) (across x y (all_in (S x) xs a y n)) b m)))

-- ---- the rows by number, for at most six lines
row_bytes : Row → List ℕ
row_bytes r = field_bytes (row_item r).tag (row_item r).contents

inferences-tested : (n : ℕ) → n ≤ 5 → T (ordered (map (λ s. row_bytes (Derive s)) (inferences n)))
unfolding ordered differing row_bytes row_item field_bytes unsigned_bytes residue signed_bytes concat_map up_from combines reduces scales inferences
inferences-tested zero h = tt
inferences-tested (suc zero) h = tt
inferences-tested (suc (suc zero)) h = tt
inferences-tested (suc (suc (suc zero))) h = tt
inferences-tested (suc (suc (suc (suc zero)))) h = tt
inferences-tested (suc (suc (suc (suc (suc zero))))) h = tt
inferences-tested (suc (suc (suc (suc (suc (suc n)))))) h = absurd (omega arith)

closes-tested : (n : ℕ) → n ≤ 6 → T (ordered (map row_bytes (close_rows n)))
unfolding ordered differing row_bytes row_item field_bytes unsigned_bytes residue signed_bytes concat_map up_from number_closes stride_closes close_rows
closes-tested zero h = tt
closes-tested (suc zero) h = tt
closes-tested (suc (suc zero)) h = tt
closes-tested (suc (suc (suc zero))) h = tt
closes-tested (suc (suc (suc (suc zero)))) h = tt
closes-tested (suc (suc (suc (suc (suc zero))))) h = tt
closes-tested (suc (suc (suc (suc (suc (suc zero)))))) h = tt
closes-tested (suc (suc (suc (suc (suc (suc (suc n))))))) h = absurd (omega arith)

abbrev StepBefore : Inference → Inference → Type 0
StepBefore s t = Differs (row_bytes (Derive s)) (row_bytes (Derive t))

inferences-increasing : (n : ℕ) → n ≤ 5 → Increasing StepBefore (inferences n)
inferences-increasing n h = increasing-of Differs (λ (s : Inference). row_bytes (Derive s)) (inferences n) (ordered-increasing _ (inferences-tested n h))

closes-increasing : (n : ℕ) → n ≤ 6 → Increasing (λ r q. Differs (row_bytes r) (row_bytes q)) (close_rows n)
closes-increasing n h = increasing-of Differs row_bytes (close_rows n) (ordered-increasing _ (closes-tested n h))

-- ---- the tables of one number of rows
rows_bytes : List Row → List ℕ
rows_bytes rs = file_of (map row_item rs)

abbrev Before : List Row → List Row → Type 0
Before rs qs = Differs (rows_bytes rs) (rows_bytes qs)

first-before : (r q : Row) (rs qs : List Row) → Differs (row_bytes r) (row_bytes q) → Before (r ∷ rs) (q ∷ qs)
unfolding rows_bytes row_bytes file_of
first-before r q rs qs d = differs-before (file_of (map row_item rs)) (file_of (map row_item qs)) d

later-before : (r : Row) (rs qs : List Row) → Before rs qs → Before (r ∷ rs) (r ∷ qs)
unfolding rows_bytes row_bytes file_of
later-before r rs qs d = differs-after (field_bytes (row_item r).tag (row_item r).contents) d

-- each of what follows an accepted inference
if_accepted-increasing : {X Y : Type 0} (R : Y → Y → Type 0) (m : Result X) (f : X → List Y) → ((x : X) → Increasing R (f x)) → Increasing R (if_accepted m f)
unfolding if_accepted
if_accepted-increasing R (refused a) f h = tt
if_accepted-increasing R (accepted x) f h = h x

rows-increasing : (k : ℕ) (ls : List Line) → k + length ls ≤ 6 → Increasing Before (proofs_of k ls)
unfolding proofs_of
rows-increasing zero ls h = increasing-concat_map (λ r q. Differs (row_bytes r) (row_bytes q)) Before _ (close_rows (length ls)) (closes-increasing (length ls) (omega arith))
    (λ r. if_accepted-increasing Before (close_formula ls r) _ (λ I. (nil, tt)))
    (λ r q d. if_accepted-all _ (close_formula ls r) _ (λ I _. cons {x = r ∷ []} (if_accepted-all (Before (r ∷ [])) (close_formula ls q) _ (λ J _. cons {x = q ∷ []} (first-before r q [] [] d) nil)) nil))
rows-increasing (suc k) ls h = increasing-concat_map StepBefore Before _ (inferences (length ls)) (inferences-increasing (length ls) (omega arith))
    (λ s. if_accepted-increasing Before (new_line ls s) _ (λ l. increasing-map Before (λ (rs : List Row). Derive s ∷ rs) (proofs_of k (ls ▷ l))
    (increasing-weaken (λ _. Unit {0}) Before (λ rs qs. Before (Derive s ∷ rs) (Derive s ∷ qs)) (proofs_of k (ls ▷ l)) (in_all (λ _. Unit {0}) (proofs_of k (ls ▷ l)) (λ _ _. tt)) (λ rs qs _ _ d. later-before (Derive s) rs qs d)
    (rows-increasing k (ls ▷ l) (rw length-append (omega arith))))))
    (λ s t d. if_accepted-all _ (new_line ls s) _ (λ l _. all-mapped (λ (a : List Row). All (Before a) (if_accepted (new_line ls t) (λ (l : Line). map (λ (rs : List Row). Derive t ∷ rs) (proofs_of k (ls ▷ l))))) (λ (rs : List Row). Derive s ∷ rs) (proofs_of k (ls ▷ l))
    (λ rs _. if_accepted-all (Before (Derive s ∷ rs)) (new_line ls t) _ (λ m _. all-mapped (Before (Derive s ∷ rs)) (λ (qs : List Row). Derive t ∷ qs) (proofs_of k (ls ▷ m)) (λ qs _. first-before (Derive s) (Derive t) rs qs d)))))

rows-count : (k : ℕ) (ls : List Line) → All (λ rs. length rs ≡ suc k) (proofs_of k ls)
unfolding proofs_of
rows-count zero ls = all-concat_map _ _ (close_rows (length ls)) λ r _. if_accepted-all (λ (rs : List Row). length rs ≡ 1) (close_formula ls r) _ λ I _. cons {x = r ∷ []} refl nil
rows-count (suc k) ls = all-concat_map _ _ (inferences (length ls)) λ s _. if_accepted-all (λ (rs : List Row). length rs ≡ suc (suc k)) (new_line ls s) _ λ l _.
    all-mapped (λ (rs : List Row). length rs ≡ suc (suc k)) (λ (rs : List Row). Derive s ∷ rs) (proofs_of k (ls ▷ l)) λ rs m. ap suc (all_in (λ (rs : List Row). length rs ≡ suc k) (proofs_of k (ls ▷ l)) (rows-count k (ls ▷ l)) rs m)

some-row : (k : ℕ) (rs : List Row) → length rs ≡ suc k → 1 ≤ length rs
some-row k rs n = omega arith

pub short-count : (ls : List Line) → All (λ rs. 1 ≤ length rs) (short_proofs_of ls)
unfolding short_proofs_of
short-count ls = all_both (all-weaken (some-row 0) (rows-count 0 ls)) (all_both (all-weaken (some-row 1) (rows-count 1 ls)) (all-weaken (some-row 2) (rows-count 2 ls)))

-- ---- all of them
module _ (K : ℕ) (ls : List Line) (few : length ls ≤ 4) where
  before-earlier : (k : ℕ) (rs qs : List Row) → length rs ≡ suc k → length qs ≡ suc k → Before rs qs → Precedes K rs qs
  unfolding proof_file rows_bytes file_of
  before-earlier k rs qs n m d = inr (n ∙ sym m, differs-below (differs-after (field_bytes 0x01 (1 ∷ [])) (differs-after (field_bytes 0x02 (K ∷ [])) d)))

  of_one : (k : ℕ) → k ≤ 2 → Increasing (Precedes K) (proofs_of k ls)
  of_one k h = increasing-weaken (λ rs. length rs ≡ suc k) Before (Precedes K) (proofs_of k ls) (rows-count k ls) (before-earlier k) (rows-increasing k ls (omega arith))

  fewer : (k j : ℕ) → k < j → (rs qs : List Row) → length rs ≡ suc k → length qs ≡ suc j → Precedes K rs qs
  fewer k j h rs qs n m = inl (omega arith)

  fewer-earlier : (k j : ℕ) → k < j → All (λ rs. All (Precedes K rs) (proofs_of j ls)) (proofs_of k ls)
  fewer-earlier k j h = all-weaken (λ (rs : List Row) n. all-weaken (λ (qs : List Row) m. fewer k j h rs qs n m) (rows-count j ls)) (rows-count k ls)

  all_append : {X Y : Type 0} {R : X → Y → Type 0} {ys zs : List Y} {xs : List X} → All (λ x. All (R x) ys) xs → All (λ x. All (R x) zs) xs → All (λ x. All (R x) (ys ++ zs)) xs
  all_append nil nil = nil
  all_append (cons p ps) (cons q qs) = cons (all_both p q) (all_append ps qs)

  -- the sequence is strictly increasing
  pub in_order : Increasing (Precedes K) (short_proofs_of ls)
  unfolding short_proofs_of
  in_order = increasing-append (Precedes K) (proofs_of 0 ls) (proofs_of 1 ls ++ proofs_of 2 ls) (of_one 0 (omega arith))
      (increasing-append (Precedes K) (proofs_of 1 ls) (proofs_of 2 ls) (of_one 1 (omega arith)) (of_one 2 (omega arith)) (fewer-earlier 1 2 (omega arith)))
      (all_append (fewer-earlier 0 1 (omega arith)) (fewer-earlier 0 2 (omega arith)))

-- ---- each once
below-not-back : {xs ys us vs : List ℕ} → Lexicographic xs ys → Lexicographic us vs → us ≡ ys → vs ≡ xs → ⊥
below-not-back Lexicographic.ended Lexicographic.ended e d = let z : ◌≡◌ {A = ℕ} 0 1 = cc in omega arith
below-not-back Lexicographic.ended (Lexicographic.less b) e d = let z : ◌≡◌ {A = ℕ} 0 1 = cc in omega arith
below-not-back Lexicographic.ended (Lexicographic.same q) e d = let z : ◌≡◌ {A = ℕ} 0 1 = cc in omega arith
below-not-back (Lexicographic.less a) Lexicographic.ended e d = let z : ◌≡◌ {A = ℕ} 0 1 = cc in omega arith
below-not-back (Lexicographic.less {x = x} {y = y} a) (Lexicographic.less {x = u} {y = v} b) e d = let p : u ≡ y = cc in let q : v ≡ x = cc in omega arith
below-not-back (Lexicographic.less {x = x} {y = y} a) (Lexicographic.same {x = u} b) e d = let p : u ≡ y = cc in let q : u ≡ x = cc in omega arith
below-not-back (Lexicographic.same p) Lexicographic.ended e d = let z : ◌≡◌ {A = ℕ} 0 1 = cc in omega arith
below-not-back (Lexicographic.same {x = x} p) (Lexicographic.less {x = u} {y = v} b) e d = let q : u ≡ x = cc in let r : v ≡ x = cc in omega arith
below-not-back (Lexicographic.same {xs = xs} {ys = ys} p) (Lexicographic.same {xs = us} {ys = vs} q) e d = below-not-back p q (let h : us ≡ ys = cc in h) (let h : vs ≡ xs = cc in h)

pub not-both : (K : ℕ) (rs qs : List Row) → Precedes K rs qs → Precedes K qs rs → ⊥
not-both K rs qs (inl a) (inl b) = omega arith
not-both K rs qs (inl a) (inr (e, b)) = omega arith
not-both K rs qs (inr (e, a)) (inl b) = omega arith
not-both K rs qs (inr (e, a)) (inr (d, b)) = below-not-back a b refl refl

some-rows : {i j k : Item} {is js : List Item} {o : Option (List Item)} → o ≡ some (i ∷ j ∷ is) → o ≡ some (i ∷ k ∷ js) → is ≡ js
some-rows p q = cc

pub same_count : (K : ℕ) (rs qs : List Row) → proof_file K rs ≡ proof_file K qs → length rs ≡ length qs
same_count K rs qs e =
    let same : map row_item rs ≡ map row_item qs = some-rows (table-items K rs) (ap (λ (f : List ℕ). items (fields f)) e ∙ table-items K qs) in
    sym (length-map rs row_item) ∙ ap length same ∙ length-map qs row_item

pub earlier-other : (K : ℕ) (rs qs : List Row) → Precedes K rs qs → ¬ (proof_file K rs ≡ proof_file K qs)
earlier-other K rs qs (inl a) e = omega (arith, same_count K rs qs e)
earlier-other K rs qs (inr (n, b)) e = below-not-back b b (e) (sym e)

-- no file comes twice
pub each_once : (K : ℕ) (ls : List Line) → length ls ≤ 4 → Increasing (λ f g. ¬ (f ≡ g)) (map (proof_file K) (short_proofs_of ls))
each_once K ls few = increasing-map (λ f g. ¬ (f ≡ g)) (proof_file K) (short_proofs_of ls)
    (increasing-weaken (λ _. Unit {0}) (Precedes K) (λ rs qs. ¬ (proof_file K rs ≡ proof_file K qs)) (short_proofs_of ls) (in_all (λ _. Unit {0}) (short_proofs_of ls) (λ _ _. tt)) (λ rs qs _ _ h. earlier-other K rs qs h) (in_order K ls few))
