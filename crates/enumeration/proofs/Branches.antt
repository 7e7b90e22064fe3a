-- The sequence: each closes the branch, and none that does is left out; no strengthen can occur. Assumes nothing.
use mathlib.Core.Path.{◌≡◌, refl, sym, ◌∙◌, ap, ap₂, subst}
use mathlib.Core.Bool.{Bool, true, false}
use mathlib.Core.List.{List, [], ◌∷◌, ◌++◌, map}
use Prim.Native.Nat.{ℕ, zero, suc, ◌<◌, ◌≤◌}
use native.Mathlib.Omega.{arith}
use lib.ListN.{length, length-map}
use lib.IntN.{ℤ}
use Rattle.forms.specs.Edition.{Edition, edition1}
use Rattle.forms.specs.Forms.{Form, All, nil, cons, Line, Formula}
use Rattle.calculus.specs.Rules.{Nth, ◌▷◌, Room, New, combine, reduce, scale, Closed, derive, strengthen, round, split_eq, split_neq, number, stride, Rounded, last, more, Inference, Combine, Reduce, Scale, Row, Derive, Strengthen, Split, CloseNumber, CloseStride, Round, Entry, row, claim, inference, entries, entries_rounded, row_count, depth}
use Rattle.calculus.proofs.Sides.{Side, B}
use Rattle.calculus.proofs.Vocabulary.{WithinVocabulary, words-new}
use Rattle.answers.specs.Answers.{root, Result, refused, accepted}
use Rattle.answers.proofs.Results.{Gives, gives-accepted, bind, seq, binds, passes}
use Rattle.proof.specs.Rows.{by_number, by_stride}
use Rattle.proof.proofs.RowsAgree.{Makes, derived-gives, derived-accepted, fitting-gives, fitting-accepted, RowCloses, number-gives, number-accepted, stride-gives, stride-accepted}
use Rattle.enumeration.specs.ShortProofs.{◌∈◌, here, multipliers, signed_multipliers, strides, PermittedRow, NoStrengthen}
use Rattle.enumeration.specs.Sequence.{concat_map, up_from, combines, reduces, scales, inferences, number_closes, stride_closes, close_rows, any_refusal, new_line, close_formula, if_accepted, proofs_of}
use Rattle.enumeration.proofs.Members.{in_left, in_right, all_in, all_both, in_map, in-concat_map, all-concat_map, all-mapped, in-from}

-- ---- the candidates
inferences-permitted : (n : ℕ) → All (λ s. PermittedRow (Derive s)) (inferences n)
unfolding inferences combines reduces scales
inferences-permitted n = all_both
    (all-concat_map _ _ (up_from 0 n) λ i _. all-concat_map _ _ (up_from 0 n) λ j _. all-concat_map _ _ multipliers λ α a. all-mapped (λ (s : Inference). PermittedRow (Derive s)) (λ (β : ℕ). Combine i j α β) multipliers λ β b. (a, b))
    (all_both (all-concat_map _ _ (up_from 0 n) λ i _. all-concat_map _ _ (up_from 0 n) λ j _. all-mapped (λ (s : Inference). PermittedRow (Derive s)) (λ (α : ℤ). Reduce i j α) signed_multipliers λ α a. a)
    (all-concat_map _ _ (up_from 0 n) λ i _. all-mapped (λ (s : Inference). PermittedRow (Derive s)) (λ (α : ℕ). Scale i α) multipliers λ α a. a))

closes-permitted : (n : ℕ) → All PermittedRow (close_rows n)
unfolding close_rows number_closes stride_closes
closes-permitted n = all_both (all-mapped PermittedRow (λ (i : ℕ). CloseNumber i) (up_from 0 n) λ i _. tt)
    (all-concat_map _ _ (up_from 0 n) λ i _. all-mapped PermittedRow (λ (g : ℕ). CloseStride i g) strides λ g m. m)

nth-below : (ls : List Line) (i : ℕ) {l : Line} → Nth ls i l → i < length ls
nth-below [] i h = absurd (let z : ◌≡◌ {A = ℕ} 0 1 = cc in omega arith)
nth-below (x ∷ ls) zero h = omega arith
nth-below (x ∷ ls) (suc i) h = omega (arith, nth-below ls i h)

numbered : (ls : List Line) (i : ℕ) {l : Line} → Nth ls i l → i ∈ up_from 0 (length ls)
numbered ls i h = in-from 0 (length ls) i (omega arith) (omega (arith, nth-below ls i h))

combine-in : (n i j α β : ℕ) → i ∈ up_from 0 n → j ∈ up_from 0 n → α ∈ multipliers → β ∈ multipliers → Combine i j α β ∈ combines n
unfolding combines
combine-in n i j α β p q a b = in-concat_map (λ (i : ℕ). concat_map (λ (j : ℕ). concat_map (λ (α : ℕ). map (λ (β : ℕ). Combine i j α β) multipliers) multipliers) (up_from 0 n)) i _ (up_from 0 n) p
    (in-concat_map (λ (j : ℕ). concat_map (λ (α : ℕ). map (λ (β : ℕ). Combine i j α β) multipliers) multipliers) j _ (up_from 0 n) q
    (in-concat_map (λ (α : ℕ). map (λ (β : ℕ). Combine i j α β) multipliers) α _ multipliers a (in_map (λ (β : ℕ). Combine i j α β) β multipliers b)))

reduce-in : (n i j : ℕ) (α : ℤ) → i ∈ up_from 0 n → j ∈ up_from 0 n → α ∈ signed_multipliers → Reduce i j α ∈ reduces n
unfolding reduces
reduce-in n i j α p q a = in-concat_map (λ (i : ℕ). concat_map (λ (j : ℕ). map (λ (α : ℤ). Reduce i j α) signed_multipliers) (up_from 0 n)) i _ (up_from 0 n) p
    (in-concat_map (λ (j : ℕ). map (λ (α : ℤ). Reduce i j α) signed_multipliers) j _ (up_from 0 n) q (in_map (λ (α : ℤ). Reduce i j α) α signed_multipliers a))

scale_in : (n i α : ℕ) → i ∈ up_from 0 n → α ∈ multipliers → Scale i α ∈ scales n
unfolding scales
scale_in n i α p a = in-concat_map (λ (i : ℕ). map (λ (α : ℕ). Scale i α) multipliers) i _ (up_from 0 n) p (in_map (λ (α : ℕ). Scale i α) α multipliers a)

inference-in : (ls : List Line) {l : Line} (n : New ls l) → PermittedRow (Derive (inference n)) → inference n ∈ inferences (length ls)
unfolding inferences
inference-in ls (combine i j α β p q _ _) (a, b) =
    in_left _ (combines (length ls)) (reduces (length ls) ++ scales (length ls)) (combine-in (length ls) i j α β (numbered ls i p) (numbered ls j q) a b)
inference-in ls (reduce i j α p q _) a =
    in_right _ (combines (length ls)) _ (in_left _ (reduces (length ls)) (scales (length ls)) (reduce-in (length ls) i j α (numbered ls i p) (numbered ls j q) a))
inference-in ls (scale i α p _) a =
    in_right _ (combines (length ls)) _ (in_right _ (reduces (length ls)) (scales (length ls)) (scale_in (length ls) i α (numbered ls i p) a))

number_in : (ls : List Line) (i : ℕ) {l : Line} → Nth ls i l → CloseNumber i ∈ close_rows (length ls)
unfolding close_rows number_closes
number_in ls i p = in_left _ (number_closes (length ls)) (stride_closes (length ls)) (in_map (λ (i : ℕ). CloseNumber i) i (up_from 0 (length ls)) (numbered ls i p))

stride-in : (ls : List Line) (i g : ℕ) {l : Line} → Nth ls i l → g ∈ strides → CloseStride i g ∈ close_rows (length ls)
unfolding close_rows stride_closes
stride-in ls i g p m = in_right _ (number_closes (length ls)) (stride_closes (length ls))
    (in-concat_map (λ (i : ℕ). map (λ (g : ℕ). CloseStride i g) strides) i _ (up_from 0 (length ls)) (numbered ls i p) (in_map (λ (g : ℕ). CloseStride i g) g strides m))

-- ---- only these
pub if_accepted-all : {X Y : Type 0} (P : Y → Type 0) (m : Result X) (f : X → List Y) → ((x : X) → m ≡ accepted x → All P (f x)) → All P (if_accepted m f)
unfolding if_accepted
if_accepted-all P (refused a) f h = nil
if_accepted-all P (accepted x) f h = h x refl

made-gives : (ls : List Line) (s : Inference) → Gives (new_line ls s) (λ l. Makes root 0 0 ls s l × Room edition1 ls l)
unfolding new_line
made-gives ls s = bind (derived-gives root 0 0 ls s) λ l m. seq (fitting-gives root 0 0 ls edition1 l) λ r. gives-accepted (m, r)

made-accepted : (ls : List Line) {l : Line} (n : New ls l) → Room edition1 ls l → new_line ls (inference n) ≡ accepted l
unfolding new_line
made-accepted ls {l} n r = binds _ (derived-accepted root 0 0 ls n) ∙ passes _ (fitting-accepted root 0 0 ls edition1 l r)

module _ (occ : Side → ℕ → Bool) where
  -- The rows rs close the branch with k inferences and a close.
  pub record Good (k : ℕ) (ls : List Line) (rs : List Row) : Type 0 where
    pub permitted : All PermittedRow rs
    pub straight : All NoStrengthen rs
    pub count : length rs ≡ suc k
    pub formula : Formula
    pub proof : Closed edition1 (occ B) ls formula
    pub are : entries proof [] ≡ map row rs
    pub rows : row_count proof ≡ suc k
    pub flat : depth proof ≡ 0

  closed-good : (ls : List Line) (r : Row) {I : Formula} → PermittedRow r → NoStrengthen r → RowCloses edition1 (occ B) ls r I → Good 0 ls (r ∷ [])
  closed-good ls r {I} p s c = record { permitted = cons p nil; straight = cons s nil; count = refl; formula = I; proof = c.proof; are = c.are []; rows = c.one; flat = c.flat }

  close-good : (ls : List Line) → WithinVocabulary occ ls → (r : Row) → PermittedRow r → All (Good 0 ls) (if_accepted (close_formula ls r) (λ I. (r ∷ []) ∷ []))
  unfolding close_formula if_accepted
  close-good ls w (CloseNumber i) p = if_accepted-all (Good 0 ls) (by_number any_refusal ls i) (λ I. (CloseNumber i ∷ []) ∷ []) λ I e. cons (closed-good ls (CloseNumber i) p tt ((number-gives root 0 0 ls edition1 (occ B) i).gives I e)) nil
  close-good ls w (CloseStride i g) p = if_accepted-all (Good 0 ls) (by_stride any_refusal ls i g) (λ I. (CloseStride i g ∷ []) ∷ []) λ I e. cons (closed-good ls (CloseStride i g) p tt ((stride-gives root 0 0 ls occ w edition1 i g).gives I e)) nil
  close-good ls w (Derive s) p = nil
  close-good ls w (Strengthen i) p = nil
  close-good ls w (Split i) p = nil
  close-good ls w (Round i g k) p = nil

  inference-good : (k : ℕ) (ls : List Line) (s : Inference) (l : Line) (rs : List Row) → PermittedRow (Derive s) → Makes root 0 0 ls s l → Room edition1 ls l → Good k (ls ▷ l) rs → Good (suc k) ls (Derive s ∷ rs)
  inference-good k ls s l rs p m r g = record {
    permitted = cons p g.permitted;
    straight = cons tt g.straight;
    count = ap suc g.count;
    formula = g.formula;
    proof = derive false m.new r g.proof;
    are = ap₂ (λ (s : Inference) (es : List Entry). row (Derive s) ∷ es) m.by g.are;
    rows = ap suc g.rows;
    flat = g.flat;
  }

  pub rows-good : (k : ℕ) (ls : List Line) → WithinVocabulary occ ls → All (Good k ls) (proofs_of k ls)
  unfolding proofs_of
  rows-good zero ls w = all-concat_map (Good 0 ls) _ (close_rows (length ls)) λ r m. close-good ls w r (all_in PermittedRow (close_rows (length ls)) (closes-permitted (length ls)) r m)
  rows-good (suc k) ls w = all-concat_map (Good (suc k) ls) _ (inferences (length ls)) λ s m. if_accepted-all (Good (suc k) ls) (new_line ls s) _ λ l e.
      let (t, r) = (made-gives ls s).gives l e in
      all-mapped (Good (suc k) ls) (λ (rs : List Row). Derive s ∷ rs) (proofs_of k (ls ▷ l)) λ rs h.
      inference-good k ls s l rs (all_in (λ (s : Inference). PermittedRow (Derive s)) (inferences (length ls)) (inferences-permitted (length ls)) s m) t r
      (all_in (Good k (ls ▷ l)) (proofs_of k (ls ▷ l)) (rows-good k (ls ▷ l) (words-new occ w t.new)) rs h)

-- ---- none is left out
module _ {e : Edition} {in_b : ℕ → Bool} where
  -- a branch has a row of its own
  mutual
    own_row : {ls : List Line} {I : Formula} (p : Closed e in_b ls I) (rest : List Entry) → suc (length rest) ≤ length (entries p rest)
    own_row (derive true _ _ p) rest = omega (arith, own_row p rest)
    own_row (derive false _ _ p) rest = omega (arith, own_row p rest)
    own_row (strengthen _ _ _ p1 pE p0) rest = omega (arith, own_row p1 (entries pE (entries p0 rest)), own_row pE (entries p0 rest), own_row p0 rest)
    own_row (round _ _ _ _ p ps) rest = omega (arith, own_row p (entries_rounded ps rest), own-rows ps rest)
    own_row (split_eq _ _ _ _ p q) rest = omega (arith, own_row p (entries q rest), own_row q rest)
    own_row (split_neq _ _ _ _ p q) rest = omega (arith, own_row p (entries q rest), own_row q rest)
    own_row (number _ _ _ _) rest = omega arith
    own_row (stride _ _ _ _ _ _ _) rest = omega arith

    own-rows : {ls : List Line} {t t_A : Form} {g k j : ℕ} {J : Formula} (p : Rounded e in_b ls t t_A g k j J) (rest : List Entry) → suc (length rest) ≤ length (entries_rounded p rest)
    own-rows (last _ _ p) rest = own_row p rest
    own-rows (more _ _ p ps) rest = omega (arith, own_row p (entries_rounded ps rest), own-rows ps rest)

-- what the entries of a branch begin with
first-row : {r s : Row} {es ds : List Entry} → row r ∷ es ≡ row s ∷ ds → r ≡ s
first-row e = cc

after_first : {x y : Entry} {es ds : List Entry} → x ∷ es ≡ y ∷ ds → es ≡ ds
after_first e = cc

not-nothing : {x : Entry} {es : List Entry} → x ∷ es ≡ [] → ⊥
not-nothing e = let z : ◌≡◌ {A = ℕ} 0 1 = cc in omega arith

not-claim : (rs : List Row) {t t_A : Form} {es : List Entry} → claim t t_A ∷ es ≡ map row rs → ⊥
not-claim [] e = let z : ◌≡◌ {A = ℕ} 0 1 = cc in omega arith
not-claim (r ∷ rs) e = let z : ◌≡◌ {A = ℕ} 0 1 = cc in omega arith

same_length : (rs : List Row) {es : List Entry} → es ≡ map row rs → length es ≡ length rs
same_length rs e = ap length e ∙ length-map rs row

module _ (occ : Side → ℕ → Bool) where
  -- a closed branch of at most three entries, all of them permitted rows, is in the sequence
  pub rows-found : (ls : List Line) {I : Formula} (p : Closed edition1 (occ B) ls I) → WithinVocabulary occ ls → (rs : List Row) → All PermittedRow rs → length rs ≤ 3 → entries p [] ≡ map row rs
      → (k : ℕ) → length rs ≡ suc k → rs ∈ proofs_of k ls
  unfolding proofs_of if_accepted close_formula
  rows-found ls p w [] q h e k c = absurd (omega arith)
  rows-found ls (derive {l = l} false n room p) w (r ∷ rs) (cons q qs) h e zero c = absurd (let m = same_length rs (after_first e) in omega (arith, own_row p []))
  rows-found ls (derive {l = l} false n room p) w (r ∷ rs) (cons q qs) h e (suc k) c =
      let d : Derive (inference n) ≡ r = first-row e in
      let m : rs ∈ proofs_of k (ls ▷ l) = rows-found (ls ▷ l) p (words-new occ w n) rs qs (omega arith) (after_first e) k (omega arith) in
      subst (λ (r : Row). (r ∷ rs) ∈ proofs_of (suc k) ls) d
      (in-concat_map _ (inference n) (Derive (inference n) ∷ rs) (inferences (length ls)) (inference-in ls n (subst PermittedRow (sym d) q))
      (subst (λ (x : Result Line). (Derive (inference n) ∷ rs) ∈ if_accepted x (λ (l : Line). map (λ (rs : List Row). Derive (inference n) ∷ rs) (proofs_of k (ls ▷ l)))) (sym (made-accepted ls n room)) (in_map (λ (rs : List Row). Derive (inference n) ∷ rs) rs (proofs_of k (ls ▷ l)) m)))
  rows-found ls (derive true n room p) w (r ∷ rs) (cons q qs) h e k c = absurd (not-claim rs (after_first e))
  rows-found ls (strengthen i _ _ p1 pE p0) w (r ∷ rs) q h e k c =
      absurd (let m = same_length (r ∷ rs) e in omega (arith, own_row p1 (entries pE (entries p0 [])), own_row pE (entries p0 []), own_row p0 []))
  rows-found ls (round i g j _ p ps) w (r ∷ rs) (cons q qs) h e k c = absurd (subst PermittedRow (sym (first-row e)) q)
  rows-found ls (split_eq i _ _ _ p1 p2) w (r ∷ rs) (cons q qs) h e k c = absurd (subst PermittedRow (sym (first-row e)) q)
  rows-found ls (split_neq i _ _ _ p1 p2) w (r ∷ rs) (cons q qs) h e k c = absurd (subst PermittedRow (sym (first-row e)) q)
  rows-found ls (number i p z f) w (r ∷ s ∷ rs) (cons q qs) h e k c = absurd (not-nothing (sym (after_first e)))
  rows-found ls (number i p z f) w (r ∷ []) (cons q qs) h e (suc k) c = absurd (omega arith)
  rows-found ls (number i p z f) w (r ∷ []) (cons q qs) h e zero c =
      subst (λ (r : Row). (r ∷ []) ∈ proofs_of 0 ls) (first-row e)
      (in-concat_map _ (CloseNumber i) (CloseNumber i ∷ []) (close_rows (length ls)) (number_in ls i p)
      (subst (λ (x : Result Formula). (CloseNumber i ∷ []) ∈ if_accepted x (λ (I : Formula). (CloseNumber i ∷ []) ∷ [])) (sym (number-accepted root 0 0 ls i p z f)) (here refl)))
  rows-found ls (stride i g p low all d is) w (r ∷ s ∷ rs) (cons q qs) h e k c = absurd (not-nothing (sym (after_first e)))
  rows-found ls (stride i g p low all d is) w (r ∷ []) (cons q qs) h e (suc k) c = absurd (omega arith)
  rows-found ls (stride i g p low all d is) w (r ∷ []) (cons q qs) h e zero c =
      subst (λ (r : Row). (r ∷ []) ∈ proofs_of 0 ls) (first-row e)
      (in-concat_map _ (CloseStride i g) (CloseStride i g ∷ []) (close_rows (length ls)) (stride-in ls i g p (subst PermittedRow (sym (first-row e)) q))
      (subst (λ (x : Result Formula). (CloseStride i g ∷ []) ∈ if_accepted x (λ (I : Formula). (CloseStride i g ∷ []) ∷ [])) (sym (stride-accepted root 0 0 ls occ w i g p low all d is)) (here refl)))
