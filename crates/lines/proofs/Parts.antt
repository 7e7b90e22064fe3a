-- Facts about lists that the library lacks: parts of a list, and a list with a part replaced. Assumes nothing.
use mathlib.Core.Path.{◌≡◌, refl, sym, ◌∙◌, ap, ap₂}
use mathlib.Core.List.{List, [], ◌∷◌, ◌++◌, append_assoc}
use mathlib.Core.Option.{none, some}
use Prim.Native.Nat.{ℕ, zero, suc, ◌+◌, ◌<◌, ◌≤◌}
use native.Mathlib.Nat.{add-zero, add_assoc}
use native.Mathlib.Omega.{arith}
use lib.ListN.{length, get_or, take, drop, set, get_elem?, length-drop}
use lib.Seq.{paste, take-paste, drop-paste, length-take-le, take-append-le, drop-append-add, take-take, take-set-le, drop-drop, get_or-drop, get_or-take}
use Rattle.number_bytes.proofs.Stores.{part-take}
use Rattle.lines.specs.Parts.{part, Agree}

module _ {A : Type 0} where
  pub length_part : (at n : ℕ) (l : List A) → at + n ≤ length l → length (part at n l) ≡ n
  length_part at n l h = length-take-le n (drop at l) (simp length-drop (omega arith))

  pub get_d_part : (at n : ℕ) (l : List A) (j : ℕ) (z : A) → j < n → get_or (part at n l) j z ≡ get_or l (at + j) z
  get_d_part at n l j z h = get_or-take n (drop at l) j z h ∙ get_or-drop at l j z

  pub part-append : (at n : ℕ) (l m : List A) → at + n ≤ length l → part at n (l ++ m) ≡ part at n l
  part-append zero n l m h = take-append-le n l m (omega arith)
  part-append (suc at) n [] m h = absurd (omega arith)
  part-append (suc at) n (x ∷ l) m h = part-append at n l m (omega arith)

  -- l with s in place of its w elements at d: what is before d stays, and at d stands s.
  module _ (l : List A) (d : ℕ) (s : List A) (w : ℕ) (room : d ≤ length l) where
    pub take-paste-below : (n : ℕ) → n ≤ d → take n (paste l d s w) ≡ take n l
    take-paste-below n h =
        ap (take n) (append_assoc (take d l) (take w s) (drop (d + w) l))
        ∙ take-append-le n (take d l) (take w s ++ drop (d + w) l) (rw (length-take-le d l room) h)
        ∙ take-take n d l h

    drop-paste-in : (o : ℕ) → drop (d + o) (paste l d s w) ≡ drop o (take w s ++ drop (d + w) l)
    drop-paste-in o =
        ap (drop (d + o)) (append_assoc (take d l) (take w s) (drop (d + w) l))
        ∙ rw (length-take-le d l room) at (drop-append-add (take d l) (take w s ++ drop (d + w) l) o)

    pub part-paste : (o n : ℕ) → w ≤ length s → o + n ≤ w → part (d + o) n (paste l d s w) ≡ part o n s
    part-paste o n full h =
        ap (take n) (drop-paste-in o)
        ∙ part-append o n (take w s) (drop (d + w) l) (rw (length-take-le w s full) h)
        ∙ part-take o n w s h

    pub get_d-paste : (o : ℕ) (z : A) → w ≤ length s → o < w → get_or (paste l d s w) (d + o) z ≡ get_or s o z
    get_d-paste o z full h =
        sym (get_d_part d w (paste l d s w) o z h)
        ∙ ap (λ (x : List A). get_or x o z) (rw add-zero at (part-paste 0 w full (omega arith)))
        ∙ get_or-take w s o z h

  -- Two parts replaced one after the other are one.
  pub paste-paste : (l : List A) (d : ℕ) (s : List A) (w : ℕ) (t : List A) (v : ℕ) (r : List A) → d ≤ length l → w ≤ length s → take (w + v) r ≡ take w s ++ take v t
      → paste (paste l d s w) (d + w) t v ≡ paste l d r (w + v)
  paste-paste l d s w t v r room full e =
      let p = paste l d s w in
      let rest : drop (d + w + v) p ≡ drop (d + (w + v)) l = sym (drop-drop v (d + w) p) ∙ ap (drop v) (drop-paste l d s w room full) ∙ drop-drop v (d + w) l ∙ ap (λ (k : ℕ). drop k l) (add_assoc d w v) in
      ap₂ (λ (x y : List A). x ++ take v t ++ y) (take-paste l d s w room full) rest
      ∙ ap (λ (x : List A). x ++ drop (d + (w + v)) l) (append_assoc (take d l) (take w s) (take v t) ∙ ap (λ (x : List A). take d l ++ x) (sym e))

  -- The element at an index, of a list with one element more.
  pub get_elem?-snoc-below : (l : List A) (x : A) (i : ℕ) → i < length l → get_elem? (l ++ (x ∷ [])) i ≡ get_elem? l i
  get_elem?-snoc-below [] x i h = absurd (omega arith)
  get_elem?-snoc-below (y ∷ l) x zero h = refl
  get_elem?-snoc-below (y ∷ l) x (suc i) h = get_elem?-snoc-below l x i (omega arith)

  pub get_elem?-snoc : (l : List A) (x : A) → get_elem? (l ++ (x ∷ [])) (length l) ≡ some x
  get_elem?-snoc [] x = refl
  get_elem?-snoc (y ∷ l) x = get_elem?-snoc l x

  pub get_elem?-past : (l : List A) (i : ℕ) → length l ≤ i → get_elem? l i ≡ none
  get_elem?-past [] i h = refl
  get_elem?-past (y ∷ l) zero h = absurd (omega arith)
  get_elem?-past (y ∷ l) (suc i) h = get_elem?-past l i (omega arith)

module _ {A : Type 0} where
  pub agree_refl : {m : ℕ} {l : List A} → Agree m l l
  agree_refl = record { first = refl }

  pub agree-sym : {m : ℕ} {l k : List A} → Agree m l k → Agree m k l
  agree-sym a = record { first = sym a.first }

  pub agree_trans : {m : ℕ} {l k j : List A} → Agree m l k → Agree m k j → Agree m l j
  agree_trans a b = record { first = a.first ∙ b.first }

  pub agree-le : {n m : ℕ} {l k : List A} → n ≤ m → Agree m l k → Agree n l k
  agree-le {n} {m} {l} {k} h a = record { first = sym (take-take n m l h) ∙ ap (take n) a.first ∙ take-take n m k h }

  pub agree-get_d : {m : ℕ} {l k : List A} → Agree m l k → (i : ℕ) (z : A) → i < m → get_or l i z ≡ get_or k i z
  agree-get_d {m} {l} {k} a i z h = sym (get_or-take m l i z h) ∙ ap (λ (x : List A). get_or x i z) a.first ∙ get_or-take m k i z h

  pub agree-part : {m : ℕ} {l k : List A} → Agree m l k → (at n : ℕ) → at + n ≤ m → part at n l ≡ part at n k
  agree-part {m} {l} {k} a at n h = sym (part-take at n m l h) ∙ ap (part at n) a.first ∙ part-take at n m k h

  -- A store behind the first m elements.
  pub agree-set : (m : ℕ) (l : List A) (i : ℕ) (x : A) → m ≤ i → Agree m l (set l i x)
  agree-set m l i x h = record { first = sym (take-set-le m l i x h) }

  pub agree-paste : (m : ℕ) (l : List A) (d : ℕ) (s : List A) (w : ℕ) → d ≤ length l → m ≤ d → Agree m l (paste l d s w)
  agree-paste m l d s w room h = record { first = sym (take-paste-below l d s w room m h) }
