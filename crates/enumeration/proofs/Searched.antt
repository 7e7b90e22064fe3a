-- The search through the sequence finds what the sequence has. Assumes nothing.
use mathlib.Core.Path.{◌≡◌, refl, sym, ◌∙◌, ap, subst}
use mathlib.Core.Bool.{Bool, true, false, ◌&&◌}
use mathlib.Core.List.{List, [], ◌∷◌, ◌++◌, map}
use Prim.Native.Nat.{ℕ, zero, suc, ◌+◌, ◌-◌, ◌<◌, ◌≤◌}
use native.Mathlib.Omega.{arith}
use lib.Dec.{T, eqb}
use lib.ListN.{length, drop}
use mir.Facts.{and_yes}
use Rattle.forms.specs.Forms.{All, nil, cons, Line, Formula}
use Rattle.calculus.specs.Rules.{◌▷◌, Row, Derive}
use Rattle.answers.specs.declared.Answer.{Answer}
use Rattle.answers.specs.Answers.{refused, accepted}
use Rattle.number_bytes.specs.Same.{same_bytes}
use Rattle.number_bytes.proofs.Comparing.{same-is}
use Rattle.fields.specs.Fields.{file_of}
use Rattle.enumeration.specs.Sequence.{concat_map, up_from, new_line, close_formula, if_accepted, proofs_of}
use Rattle.enumeration.specs.Numbering.{inference_count, close_count, inference_at, close_at, row_bytes, inference_bytes, close_bytes, close_guess, begins}
use Rattle.enumeration.specs.Search.{Found, not_among, none_left, at, first_found, rows_bytes, next_found, if_none_left, if_not_among, with_row, first_row_count, proofs_beginning, proofs_from}
use Rattle.enumeration.proofs.Members.{all_both}
use Rattle.enumeration.proofs.Branches.{if_accepted-all}
use Rattle.enumeration.proofs.Numbered.{inferences-numbered, closes-numbered, inference-bytes, close-bytes, inference-guessed, close-guessed}

-- ---- one list behind another
pub first-append : (xs ys : List (List Row)) → first_found (xs ++ ys) ≡ if_none_left (first_found xs) (first_found ys)
unfolding first_found if_none_left
first-append [] ys = refl
first-append (x ∷ xs) ys = refl

is_among : (xs ys : List (List Row)) (f : Found) → if_not_among (if_none_left (first_found xs) (first_found ys)) f ≡ if_none_left (first_found xs) (first_found ys)
unfolding first_found if_none_left if_not_among
is_among [] [] f = refl
is_among [] (y ∷ ys) f = refl
is_among (x ∷ xs) ys f = refl

module _ (g : List ℕ) where
  pub next-append : (xs ys : List (List Row)) → next_found g (xs ++ ys) ≡ if_not_among (if_none_left (next_found g xs) (first_found ys)) (next_found g ys)
  unfolding next_found if_none_left if_not_among
  next-append [] ys = refl
  next-append (x ∷ xs) ys = go (same_bytes (rows_bytes x) g) (next-append xs ys)
    where
      go : (b : Bool) → next_found g (xs ++ ys) ≡ if_not_among (if_none_left (next_found g xs) (first_found ys)) (next_found g ys)
          → elim b as (λ _. Found) [ true ↦ first_found (xs ++ ys) | false ↦ next_found g (xs ++ ys) ] ≡ if_not_among (if_none_left (elim b as (λ _. Found) [ true ↦ first_found xs | false ↦ next_found g xs ]) (first_found ys)) (next_found g ys)
      go true ih = first-append xs ys ∙ sym (is_among xs ys (next_found g ys))
      go false ih = ih

  -- none of them has these bytes
  abbrev Other : List Row → Type 0
  Other rs = same_bytes (rows_bytes rs) g ≡ false

  follow-none : (xs : List (List Row)) → All Other xs → next_found g xs ≡ not_among
  unfolding next_found
  follow-none [] nil = refl
  follow-none (x ∷ xs) (cons p ps) = picks (same_bytes (rows_bytes x) g) p (follow-none xs ps)
    where
      picks : (b : Bool) → b ≡ false → next_found g xs ≡ not_among → elim b as (λ _. Found) [ true ↦ first_found xs | false ↦ next_found g xs ] ≡ not_among
      picks true e ih = absurd (let z : ◌≡◌ {A = ℕ} 0 1 = cc in omega arith)
      picks false e ih = ih

pub else-not-among : (f : Found) → if_not_among f not_among ≡ f
unfolding if_not_among
else-not-among not_among = refl
else-not-among none_left = refl
else-not-among (at rs) = refl

-- ---- gathered by numbers
concat_map-map : {X Y Z : Type 0} (f : Y → List Z) (h : X → Y) (xs : List X) → concat_map f (map h xs) ≡ concat_map (λ x. f (h x)) xs
unfolding concat_map
concat_map-map f h [] = refl
concat_map-map f h (x ∷ xs) = ap (λ (zs : List _). f (h x) ++ zs) (concat_map-map f h xs)

pub append_assoc : {X : Type 0} (xs ys zs : List X) → (xs ++ ys) ++ zs ≡ xs ++ (ys ++ zs)
append_assoc [] ys zs = refl
append_assoc (x ∷ xs) ys zs = ap (λ (us : List _). x ∷ us) (append_assoc xs ys zs)

concat_map-append : {X Y : Type 0} (f : X → List Y) (xs ys : List X) → concat_map f (xs ++ ys) ≡ concat_map f xs ++ concat_map f ys
unfolding concat_map
concat_map-append f [] ys = refl
concat_map-append f (x ∷ xs) ys = ap (λ (zs : List _). f x ++ zs) (concat_map-append f xs ys) ∙ sym (append_assoc (f x) (concat_map f xs) (concat_map f ys))

from-split : (i j c : ℕ) → up_from i (j + c) ≡ up_from i j ++ up_from (i + j) c
unfolding up_from
from-split i zero c = let e : zero + c ≡ c = omega arith in let d : i + zero ≡ i = omega arith in rw (e, d)
from-split i (suc j) c =
    let e : suc j + c ≡ suc (j + c) = omega arith in
    let d : i + suc j ≡ suc i + j = omega arith in
    rw (e, d) (ap (λ (xs : List ℕ). i ∷ xs) (from-split (suc i) j c))

-- the numbers lie in the range
from-range : (i c : ℕ) → All (λ j. (i ≤ j) × (j < i + c)) (up_from i c)
unfolding up_from
from-range i zero = nil
from-range i (suc c) = cons {x = i} (omega arith, omega arith) (weaken (from-range (suc i) c))
  where
    weaken : {xs : List ℕ} → All (λ j. (suc i ≤ j) × (j < suc i + c)) xs → All (λ j. (i ≤ j) × (j < i + suc c)) xs
    weaken nil = nil
    weaken (cons {x = j} (p, q) ps) = cons {x = j} (omega arith, omega arith) (weaken ps)

all-concat_maped : {X Y : Type 0} {Q : X → Type 0} (P : Y → Type 0) (f : X → List Y) {xs : List X} → All Q xs → ((x : X) → Q x → All P (f x)) → All P (concat_map f xs)
unfolding concat_map
all-concat_maped P f nil h = nil
all-concat_maped P f (cons {x = x} q qs) h = all_both (h x q) (all-concat_maped P f qs h)

-- ---- the sequence from a number on
module _ (ls : List Line) where
  pub rows-numbered : (k : ℕ) → k + length ls ≤ 6 → proofs_of k ls ≡ proofs_from k ls 0
  unfolding proofs_of proofs_from proofs_beginning first_row_count
  rows-numbered zero h =
      let e : close_count (length ls) - 0 ≡ close_count (length ls) = omega arith in
      ap (concat_map (λ r. if_accepted (close_formula ls r) (λ (I : Formula). (r ∷ []) ∷ []))) (closes-numbered (length ls) (omega arith))
      ∙ concat_map-map (λ r. if_accepted (close_formula ls r) (λ (I : Formula). (r ∷ []) ∷ [])) (close_at (length ls)) (up_from 0 (close_count (length ls)))
      ∙ ap (λ (c : ℕ). concat_map (proofs_beginning zero ls) (up_from 0 c)) (sym e)
  rows-numbered (suc k) h =
      let e : inference_count (length ls) - 0 ≡ inference_count (length ls) = omega arith in
      ap (concat_map (λ s. if_accepted (new_line ls s) (λ (l : Line). map (λ (rs : List Row). Derive s ∷ rs) (proofs_of k (ls ▷ l))))) (inferences-numbered (length ls) (omega arith))
      ∙ concat_map-map (λ s. if_accepted (new_line ls s) (λ (l : Line). map (λ (rs : List Row). Derive s ∷ rs) (proofs_of k (ls ▷ l)))) (inference_at (length ls)) (up_from 0 (inference_count (length ls)))
      ∙ ap (λ (c : ℕ). concat_map (proofs_beginning (suc k) ls) (up_from 0 c)) (sym e)

  module _ (k : ℕ) where
    pub rows_more : (f : ℕ) → f < first_row_count k (length ls) → proofs_from k ls f ≡ proofs_beginning k ls f ++ proofs_from k ls (suc f)
    unfolding proofs_from concat_map up_from
    rows_more f h =
        let e : first_row_count k (length ls) - f ≡ suc (first_row_count k (length ls) - suc f) = omega arith in
        rw e

    pub rows_none : (f : ℕ) → first_row_count k (length ls) ≤ f → proofs_from k ls f ≡ []
    unfolding proofs_from concat_map up_from
    rows_none f h =
        let e : first_row_count k (length ls) - f ≡ 0 = omega arith in
        rw e

    pub next_more : (f : ℕ) → f < first_row_count k (length ls) → first_found (proofs_from k ls f) ≡ if_none_left (first_found (proofs_beginning k ls f)) (first_found (proofs_from k ls (suc f)))
    next_more f h = ap first_found (rows_more f h) ∙ first-append (proofs_beginning k ls f) (proofs_from k ls (suc f))

    pub next-none : (f : ℕ) → first_row_count k (length ls) ≤ f → first_found (proofs_from k ls f) ≡ none_left
    unfolding first_found
    next-none f h = ap first_found (rows_none f h)

    -- before, at and behind a number
    rows_split : (j : ℕ) → j < first_row_count k (length ls) → proofs_from k ls 0 ≡ concat_map (proofs_beginning k ls) (up_from 0 j) ++ (proofs_beginning k ls j ++ proofs_from k ls (suc j))
    unfolding proofs_from
    rows_split j h =
        let c : first_row_count k (length ls) - 0 ≡ j + (first_row_count k (length ls) - j) = omega arith in
        let z : 0 + j ≡ j = omega arith in
        ap (λ (c : ℕ). concat_map (proofs_beginning k ls) (up_from 0 c)) c
        ∙ ap (concat_map (proofs_beginning k ls)) (from-split 0 j (first_row_count k (length ls) - j) ∙ ap (λ (i : ℕ). up_from 0 j ++ up_from i (first_row_count k (length ls) - j)) z)
        ∙ concat_map-append (proofs_beginning k ls) (up_from 0 j) (up_from j (first_row_count k (length ls) - j))
        ∙ ap (λ (xs : List (List Row)). concat_map (proofs_beginning k ls) (up_from 0 j) ++ xs) (rows_more j h)

-- ---- what a block has
heads-map : (r : Row) (xs : List (List Row)) → first_found (map (λ rs. r ∷ rs) xs) ≡ with_row r (first_found xs)
unfolding first_found with_row
heads-map r [] = refl
heads-map r (x ∷ xs) = refl

module _ (ls : List Line) where
  pub close-held : (c : ℕ) {I : Formula} → close_formula ls (close_at (length ls) c) ≡ accepted I → first_found (proofs_beginning 0 ls c) ≡ at (close_at (length ls) c ∷ [])
  unfolding proofs_beginning if_accepted first_found
  close-held c e = rw e

  pub close-refused : (c : ℕ) {a : Answer} → close_formula ls (close_at (length ls) c) ≡ refused a → first_found (proofs_beginning 0 ls c) ≡ none_left
  unfolding proofs_beginning if_accepted first_found
  close-refused c e = rw e

  pub inference-made : (k j : ℕ) {l : Line} → new_line ls (inference_at (length ls) j) ≡ accepted l → first_found (proofs_beginning (suc k) ls j) ≡ with_row (Derive (inference_at (length ls) j)) (first_found (proofs_of k (ls ▷ l)))
  unfolding proofs_beginning if_accepted
  inference-made k j {l} e = rw e (heads-map (Derive (inference_at (length ls) j)) (proofs_of k (ls ▷ l)))

  pub inference-refused : (k j : ℕ) {a : Answer} → new_line ls (inference_at (length ls) j) ≡ refused a → first_found (proofs_beginning (suc k) ls j) ≡ none_left
  unfolding proofs_beginning if_accepted first_found
  inference-refused k j e = rw e

-- ---- bytes that begin with others
pub same-behind : (xs ys s : List ℕ) → T (begins xs s) → same_bytes (xs ++ ys) s ≡ same_bytes ys (drop (length xs) s)
unfolding begins same_bytes
same-behind [] ys s t = refl
same-behind (x ∷ xs) ys [] t = absurd t
same-behind (x ∷ xs) ys (z ∷ s) t =
    let (e, b) = and_yes (eqb x z) (begins xs s) t in
    rw (is_true (eqb x z) e) (same-behind xs ys s b)
  where
    is_true : (b : Bool) → T b → b ≡ true
    is_true true t = refl
    is_true false t = absurd t

pub same_not : (xs ys s : List ℕ) → begins xs s ≡ false → same_bytes (xs ++ ys) s ≡ false
unfolding begins same_bytes
same_not [] ys s e = absurd (let z : ◌≡◌ {A = ℕ} 0 1 = cc in omega arith)
same_not (x ∷ xs) ys [] e = refl
same_not (x ∷ xs) ys (z ∷ s) e = go (eqb x z) e (same_not xs ys s)
  where
    go : (b : Bool) → (b && begins xs s) ≡ false → (begins xs s ≡ false → same_bytes (xs ++ ys) s ≡ false) → (b && same_bytes (xs ++ ys) s) ≡ false
    go true e ih = ih e
    go false e ih = refl

false-is : (b : Bool) → ¬ (T b) → b ≡ false
false-is true h = absurd (h tt)
false-is false h = refl

pub rows-one : (r : Row) (rs : List Row) → rows_bytes (r ∷ rs) ≡ row_bytes r ++ rows_bytes rs
unfolding rows_bytes row_bytes file_of
rows-one r rs = refl

pub append-nil : (xs : List ℕ) → xs ++ [] ≡ xs
append-nil [] = refl
append-nil (x ∷ xs) = ap (λ (ys : List ℕ). x ∷ ys) (append-nil xs)

-- ---- the number of the first row
-- The bytes g are, or begin with, those of row i.
unfoldable matching : (k n : ℕ) (g : List ℕ) (i : ℕ) → Bool
matching zero n g i = same_bytes (close_bytes n i) g
matching (suc k) n g i = begins (inference_bytes n i) g

module _ (g : List ℕ) (ls : List Line) where
  -- no other row stands there
  one-match : (k i j : ℕ) → k + length ls ≤ 6 → i < first_row_count k (length ls) → j < first_row_count k (length ls) → T (matching k (length ls) g j) → ¬ (i ≡ j) → matching k (length ls) g i ≡ false
  unfolding matching first_row_count
  one-match zero i j h p q t d = false-is (same_bytes (close_bytes (length ls) i) g) (λ u. d (
      sym (close-guessed (length ls) i (omega arith) p) ∙ ap (close_guess (length ls)) (same-is (close_bytes (length ls) i) g u ∙ sym (same-is (close_bytes (length ls) j) g t)) ∙ close-guessed (length ls) j (omega arith) q))
  one-match (suc k) i j h p q t d = false-is (begins (inference_bytes (length ls) i) g) (λ u. d (sym (inference-guessed (length ls) i g (omega arith) p u) ∙ inference-guessed (length ls) j g (omega arith) q t))

  -- a block whose row does not stand there has none with these bytes
  block-other : (k i : ℕ) → k + length ls ≤ 6 → i < first_row_count k (length ls) → matching k (length ls) g i ≡ false → All (Other g) (proofs_beginning k ls i)
  unfolding matching first_row_count proofs_beginning rows_bytes close_bytes file_of
  block-other zero i h p e = if_accepted-all (Other g) (close_formula ls (close_at (length ls) i)) (λ (I : Formula). (close_at (length ls) i ∷ []) ∷ []) λ I _.
      cons {x = close_at (length ls) i ∷ []} (ap (λ (bs : List ℕ). same_bytes bs g) (rows-one (close_at (length ls) i) [] ∙ append-nil (row_bytes (close_at (length ls) i)) ∙ close-bytes (length ls) i (omega arith) p) ∙ e) nil
  block-other (suc k) i h p e = if_accepted-all (Other g) (new_line ls (inference_at (length ls) i)) (λ (l : Line). map (λ (rs : List Row). Derive (inference_at (length ls) i) ∷ rs) (proofs_of k (ls ▷ l))) λ l _.
      mapped (proofs_of k (ls ▷ l))
    where
      mapped : (rss : List (List Row)) → All (Other g) (map (λ (rs : List Row). Derive (inference_at (length ls) i) ∷ rs) rss)
      mapped [] = nil
      mapped (rs ∷ rss) = cons {x = Derive (inference_at (length ls) i) ∷ rs}
          (ap (λ (bs : List ℕ). same_bytes bs g) (rows-one (Derive (inference_at (length ls) i)) rs ∙ ap (λ (bs : List ℕ). bs ++ rows_bytes rs) (inference-bytes (length ls) i (omega arith) p)) ∙ same_not (inference_bytes (length ls) i) (rows_bytes rs) g e)
          (mapped rss)

  range_other : (k i c : ℕ) → k + length ls ≤ 6 → i + c ≤ first_row_count k (length ls) → ((j : ℕ) → i ≤ j → j < i + c → matching k (length ls) g j ≡ false) → All (Other g) (concat_map (proofs_beginning k ls) (up_from i c))
  range_other k i c h l m = all-concat_maped (Other g) (proofs_beginning k ls) (from-range i c) λ j (p, q). block-other k j h (omega arith) (m j p q)

  -- row j stands there
  at-match : (k j : ℕ) → k + length ls ≤ 6 → j < first_row_count k (length ls) → T (matching k (length ls) g j) → next_found g (proofs_of k ls) ≡ if_none_left (next_found g (proofs_beginning k ls j)) (first_found (proofs_from k ls (suc j)))
  unfolding if_none_left if_not_among proofs_from
  at-match k j h l t =
      let others : (i : ℕ) → i < first_row_count k (length ls) → ¬ (i ≡ j) → matching k (length ls) g i ≡ false = λ i p d. one-match k i j h p l t d in
      let before : next_found g (concat_map (proofs_beginning k ls) (up_from 0 j)) ≡ not_among = follow-none g (concat_map (proofs_beginning k ls) (up_from 0 j)) (range_other k 0 j h (omega arith) (λ i p q. others i (omega arith) (λ d. absurd (omega arith)))) in
      let after : next_found g (proofs_from k ls (suc j)) ≡ not_among = follow-none g (proofs_from k ls (suc j)) (range_other k (suc j) (first_row_count k (length ls) - suc j) h (omega arith) (λ i p q. others i (omega arith) (λ d. absurd (omega arith)))) in
      ap (next_found g) (rows-numbered ls k h ∙ rows_split ls k j l)
      ∙ next-append g (concat_map (proofs_beginning k ls) (up_from 0 j)) (proofs_beginning k ls j ++ proofs_from k ls (suc j))
      ∙ ap (λ (f : Found). if_not_among (if_none_left f (first_found (proofs_beginning k ls j ++ proofs_from k ls (suc j)))) (next_found g (proofs_beginning k ls j ++ proofs_from k ls (suc j)))) before
      ∙ next-append g (proofs_beginning k ls j) (proofs_from k ls (suc j))
      ∙ ap (λ (f : Found). if_not_among (if_none_left (next_found g (proofs_beginning k ls j)) (first_found (proofs_from k ls (suc j)))) f) after
      ∙ else-not-among (if_none_left (next_found g (proofs_beginning k ls j)) (first_found (proofs_from k ls (suc j))))

  no-match : (k : ℕ) → k + length ls ≤ 6 → ((j : ℕ) → j < first_row_count k (length ls) → matching k (length ls) g j ≡ false) → next_found g (proofs_of k ls) ≡ not_among
  unfolding proofs_from
  no-match k h m = ap (next_found g) (rows-numbered ls k h) ∙ follow-none g (proofs_from k ls 0) (range_other k 0 (first_row_count k (length ls) - 0) h (omega arith) (λ j p q. m j (omega arith)))

  -- ---- an inference
  follow-map : (r : Row) → T (begins (row_bytes r) g) → (xs : List (List Row)) → next_found g (map (λ rs. r ∷ rs) xs) ≡ with_row r (next_found (drop (length (row_bytes r)) g) xs)
  unfolding next_found with_row
  follow-map r t [] = refl
  follow-map r t (x ∷ xs) = go (same_bytes (rows_bytes x) (drop (length (row_bytes r)) g)) (ap (λ (bs : List ℕ). same_bytes bs g) (rows-one r x) ∙ same-behind (row_bytes r) (rows_bytes x) g t) (follow-map r t xs)
    where
      go : (b : Bool) → same_bytes (rows_bytes (r ∷ x)) g ≡ b → next_found g (map (λ (rs : List Row). r ∷ rs) xs) ≡ with_row r (next_found (drop (length (row_bytes r)) g) xs)
          → elim (same_bytes (rows_bytes (r ∷ x)) g) as (λ _. Found) [ true ↦ first_found (map (λ (rs : List Row). r ∷ rs) xs) | false ↦ next_found g (map (λ (rs : List Row). r ∷ rs) xs) ]
          ≡ with_row r (elim b as (λ _. Found) [ true ↦ first_found xs | false ↦ next_found (drop (length (row_bytes r)) g) xs ])
      go true e ih = rw e (heads-map r xs)
      go false e ih = rw e ih

  made-block : (k j : ℕ) {l : Line} → new_line ls (inference_at (length ls) j) ≡ accepted l → proofs_beginning (suc k) ls j ≡ map (λ (rs : List Row). Derive (inference_at (length ls) j) ∷ rs) (proofs_of k (ls ▷ l))
  unfolding proofs_beginning if_accepted
  made-block k j e = rw e

  barred : (k j : ℕ) {a : Answer} → new_line ls (inference_at (length ls) j) ≡ refused a → next_found g (proofs_beginning (suc k) ls j) ≡ not_among
  unfolding proofs_beginning if_accepted next_found
  barred k j e = rw e

  first-not-among : (f : Found) → if_none_left not_among f ≡ not_among
  unfolding if_none_left
  first-not-among f = refl

  pub inference-follows : (k j : ℕ) → suc k + length ls ≤ 6 → j < inference_count (length ls) → T (begins (inference_bytes (length ls) j) g) → {l : Line} → new_line ls (inference_at (length ls) j) ≡ accepted l
      → next_found g (proofs_of (suc k) ls) ≡ if_none_left (with_row (Derive (inference_at (length ls) j)) (next_found (drop (length (inference_bytes (length ls) j)) g) (proofs_of k (ls ▷ l)))) (first_found (proofs_from (suc k) ls (suc j)))
  unfolding matching first_row_count
  inference-follows k j h p t {l} e = at-match (suc k) j h p t ∙ ap (λ (f : Found). if_none_left f (first_found (proofs_from (suc k) ls (suc j)))) own
    where
      same : row_bytes (Derive (inference_at (length ls) j)) ≡ inference_bytes (length ls) j
      same = inference-bytes (length ls) j (omega arith) p

      own : next_found g (proofs_beginning (suc k) ls j) ≡ with_row (Derive (inference_at (length ls) j)) (next_found (drop (length (inference_bytes (length ls) j)) g) (proofs_of k (ls ▷ l)))
      own = ap (next_found g) (made-block k j e)
          ∙ follow-map (Derive (inference_at (length ls) j)) (subst (λ (bs : List ℕ). T (begins bs g)) (sym same) t) (proofs_of k (ls ▷ l))
          ∙ ap (λ (bs : List ℕ). with_row (Derive (inference_at (length ls) j)) (next_found (drop (length bs) g) (proofs_of k (ls ▷ l)))) same

  pub inference-barred : (k j : ℕ) → suc k + length ls ≤ 6 → j < inference_count (length ls) → T (begins (inference_bytes (length ls) j) g) → {a : Answer} → new_line ls (inference_at (length ls) j) ≡ refused a → next_found g (proofs_of (suc k) ls) ≡ not_among
  unfolding matching first_row_count
  inference-barred k j h p t e = at-match (suc k) j h p t ∙ ap (λ (f : Found). if_none_left f (first_found (proofs_from (suc k) ls (suc j)))) (barred k j e) ∙ first-not-among (first_found (proofs_from (suc k) ls (suc j)))

  pub inference-not-among : (k : ℕ) → suc k + length ls ≤ 6 → ((j : ℕ) → j < inference_count (length ls) → begins (inference_bytes (length ls) j) g ≡ false) → next_found g (proofs_of (suc k) ls) ≡ not_among
  unfolding matching first_row_count
  inference-not-among k h m = no-match (suc k) h m

  -- ---- a close
  first_ended : (f : Found) → if_none_left none_left f ≡ f
  unfolding if_none_left
  first_ended f = refl

  held : (c : ℕ) → c < close_count (length ls) → T (same_bytes (close_bytes (length ls) c) g) → length ls ≤ 6 → {I : Formula} → close_formula ls (close_at (length ls) c) ≡ accepted I → next_found g (proofs_beginning 0 ls c) ≡ none_left
  unfolding proofs_beginning if_accepted next_found first_found rows_bytes close_bytes file_of
  held c p t h e = rw e (picks (same_bytes (rows_bytes (close_at (length ls) c ∷ [])) g) (subst T (ap (λ (bs : List ℕ). same_bytes bs g) (sym (rows-one (close_at (length ls) c) [] ∙ append-nil (row_bytes (close_at (length ls) c)) ∙ close-bytes (length ls) c h p))) t))
    where
      picks : (b : Bool) → T b → elim b as (λ _. Found) [ true ↦ none_left | false ↦ not_among ] ≡ none_left
      picks true t = refl
      picks false t = absurd t

  shut : (c : ℕ) {a : Answer} → close_formula ls (close_at (length ls) c) ≡ refused a → next_found g (proofs_beginning 0 ls c) ≡ not_among
  unfolding proofs_beginning if_accepted next_found
  shut c e = rw e

  pub close_follows : (c : ℕ) → length ls ≤ 6 → c < close_count (length ls) → T (same_bytes (close_bytes (length ls) c) g) → {I : Formula} → close_formula ls (close_at (length ls) c) ≡ accepted I
      → next_found g (proofs_of 0 ls) ≡ first_found (proofs_from 0 ls (suc c))
  unfolding matching first_row_count
  close_follows c h p t e = at-match 0 c (omega arith) p t ∙ ap (λ (f : Found). if_none_left f (first_found (proofs_from 0 ls (suc c)))) (held c p t h e) ∙ first_ended (first_found (proofs_from 0 ls (suc c)))

  pub close-barred : (c : ℕ) → length ls ≤ 6 → c < close_count (length ls) → T (same_bytes (close_bytes (length ls) c) g) → {a : Answer} → close_formula ls (close_at (length ls) c) ≡ refused a → next_found g (proofs_of 0 ls) ≡ not_among
  unfolding matching first_row_count
  close-barred c h p t e = at-match 0 c (omega arith) p t ∙ ap (λ (f : Found). if_none_left f (first_found (proofs_from 0 ls (suc c)))) (shut c e) ∙ first-not-among (first_found (proofs_from 0 ls (suc c)))

  pub close-not-among : length ls ≤ 6 → ((c : ℕ) → c < close_count (length ls) → same_bytes (close_bytes (length ls) c) g ≡ false) → next_found g (proofs_of 0 ls) ≡ not_among
  unfolding matching first_row_count
  close-not-among h m = no-match 0 (omega arith) m
