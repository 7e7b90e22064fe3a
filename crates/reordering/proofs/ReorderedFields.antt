-- Files with reordered fields: where K is the reordering's number their forms are moved, and elsewhere they are the same. Assumes nothing.
use mathlib.Core.Path.{◌≡◌, refl, sym, subst, ap, ap₂, ◌∙◌}
use mathlib.Core.Option.{some}
use mathlib.Core.Bool.{Bool, true, false, cond, ◌&&◌, ◌||◌}
use mathlib.Core.List.{List, [], ◌∷◌, ◌++◌, append_assoc, append-nil}
use Prim.Native.Nat.{ℕ, zero, suc, ◌+◌, ◌*◌, ◌/◌, ◌<◌, ◌≤◌}
use native.Mathlib.Nat.{suc-mul, mul-div_cancel}
use native.Mathlib.Omega.{arith}
use lib.Dec.{T, eqb}
use lib.ListN.{length, take, drop, length-append, length-drop, take-append-drop}
use lib.Seq.{take_at, drop_at, take-append-le, drop-append-le, length-take-le, ext_get_or}
use lib.IntN.{ℤ, pos}
use borrow.Author.Tests.{eqb-true, eqb-false, eq-eqb, ne_eqb}
use Rattle.forms.specs.Edition.{Edition, edition, edition1}
use Rattle.forms.specs.Forms.{Form, ≤0, =0, ConstraintKind, says, ≠0, Formula}
use Rattle.calculus.specs.Rules.{Row, Entry, row}
use Rattle.number_bytes.specs.Numbers.{signed, unsigned_bytes, signeds, signed_bytes, form_from, form_bytes, form_width}
use Rattle.number_bytes.proofs.Signed.{length-signeds, length-signed_bytes, length-form_bytes}
use Rattle.fields.specs.Fields.{Front, whole, broken, nothing, front, field_bytes}
use Rattle.fields.specs.Header.{header_bytes}
use Rattle.fields.proofs.Framing.{front-whole, front-shorter}
use Rattle.fields.proofs.HeaderLaid.{by-tag}
use Rattle.bundle.specs.Bundle.{kind_tagged}
use Rattle.formula.specs.Formula.{encode, formula_file}
use Rattle.proof.specs.Entries.{EntryTag, combine_tag, reduce_tag, scale_tag, strengthen_tag, number_tag, stride_tag, round_tag, split_tag, claim_tag, entry_tagged, size_of, entry_from}
use Rattle.reordering.specs.Reordering.{Reordering, map_contents_from, map_contents, if_right, form_reordered, claim_reordered, stride_reordered, in_bundle, in_proof, in_formula}
use Rattle.reordering.proofs.MappedContents.{ContentsMap, KeepsLength, map_contents-nothing, map_contents-broken, map_contents-whole}
use Rattle.reordering.proofs.RelatedChecks.{Laws, EntryLike, a_row, a_claim, FormulaLike, literals, strides, ands, ors}
use Rattle.reordering.proofs.ReorderedForms.{Moved, moved_laws, length-form_reordered, read-moved, written-moved}

-- ---- fields of the tags meant and of right length, and others
module _ (meant : Bool) (n : ℕ) (f : List ℕ → List ℕ) (c : List ℕ) where
  pub right-one : T meant → length c ≡ n → if_right meant n f c ≡ f c
  unfolding if_right
  right-one t e = rw (is_true meant t, eq-eqb (length c) n e)
    where
      is_true : (b : Bool) → T b → b ≡ true
      is_true true t = refl
      is_true false t = absurd t

  wrong-length : ¬ (length c ≡ n) → if_right meant n f c ≡ c
  unfolding if_right
  wrong-length u = go meant (ne_eqb (length c) n u)
    where
      go : (a : Bool) → eqb (length c) n ≡ false → cond (a && eqb (length c) n) (f c) c ≡ c
      go true e = rw e
      go false e = refl

  pub other-one : meant ≡ false → if_right meant n f c ≡ c
  unfolding if_right
  other-one e = rw e

  either-length : (length c ≡ n → length (f c) ≡ length c) → length (if_right meant n f c) ≡ length c
  unfolding if_right
  either-length k = go meant (eqb (length c) n) refl
    where
      go : (a b : Bool) → eqb (length c) n ≡ b → length (cond (a && b) (f c) c) ≡ length c
      go true true e = k (eqb-true (length c) n e)
      go true false e = refl
      go false b e = refl

halves : (n : ℕ) (c : List ℕ) → length c ≡ 2 * n → (length (take n c) ≡ n) × (length (drop n c) ≡ n)
halves n c h = (length-take-le n c (omega arith), length-drop n c ∙ omega arith)

-- right lengths are those of one K only
same_width : (w n k : ℕ) → 1 ≤ w → form_width w n ≡ form_width w k → n ≡ k
same_width w n k h e =
    let same : suc n ≡ suc k = sym (mul-div_cancel (suc n) h) ∙ ap (λ (x : ℕ). x / w) e ∙ mul-div_cancel (suc k) h in
    omega arith

module _ {K : ℕ} (π : Reordering K) where
  -- a form of right length
  length-right : (w : ℕ) (c : List ℕ) → length c ≡ form_width w K → length (form_reordered π w c) ≡ length c
  length-right w c h = length-form_reordered π w c (omega (arith, suc-mul K w))

  pub bundle-keeps : (e : Edition) → KeepsLength (in_bundle π e)
  unfolding in_bundle
  bundle-keeps e = record { keeps = λ tag c. either-length _ _ _ c (length-right e.coefficient_width c) }

  claim-length : (c : List ℕ) → length c ≡ 2 * form_width 4 K → length (claim_reordered π c) ≡ length c
  unfolding claim_reordered
  claim-length c h =
      let (first, second) = halves (form_width 4 K) c h in
      length-append (form_reordered π 4 (take (form_width 4 K) c)) (form_reordered π 4 (drop (form_width 4 K) c))
      ∙ ap₂ ◌+◌ (length-right 4 _ first) (length-right 4 _ second)
      ∙ sym (length-append (take (form_width 4 K) c) (drop (form_width 4 K) c))
      ∙ ap length (take-append-drop (form_width 4 K) c)

  pub proof-keeps : KeepsLength (in_proof π)
  unfolding in_proof
  proof-keeps = record { keeps = λ tag c. either-length _ _ _ c (claim-length c) }

  stride-length : (c : List ℕ) → length c ≡ 4 + form_width 4 K → length (stride_reordered π c) ≡ length c
  unfolding stride_reordered
  stride-length c h =
      let second : length (drop 4 c) ≡ form_width 4 K = length-drop 4 c ∙ omega arith in
      length-append (take 4 c) (form_reordered π 4 (drop 4 c)) ∙ ap₂ ◌+◌ (length-take-le 4 c (omega arith)) (length-right 4 _ second ∙ second) ∙ sym h

  pub stride-moved : (g : ℕ) (s : Form) → stride_reordered π (signed_bytes 4 (pos g) ++ form_bytes 4 s) ≡ signed_bytes 4 (pos g) ++ form_reordered π 4 (form_bytes 4 s)
  unfolding stride_reordered
  stride-moved g s =
      let own = length-signed_bytes 4 (pos g) in
      ap₂ (λ (x y : List ℕ). x ++ form_reordered π 4 y) (take_at (signed_bytes 4 (pos g)) (form_bytes 4 s) 4 own) (drop_at (signed_bytes 4 (pos g)) (form_bytes 4 s) 4 own)

  pub formula-keeps : KeepsLength (in_formula π)
  unfolding in_formula
  formula-keeps = record { keeps = λ tag c. either-length _ _ _ _ (length-right 4 _) ∙ either-length _ _ _ c (stride-length c) }

-- ---- two instances
abbrev pub identity : (K : ℕ) → Reordering K
identity K = record { to = λ k. k; from = λ k. k; to_below = λ k h. h; from_below = λ k h. h; from_to = λ k h. refl; to_from = λ k h. refl }

-- By the identity a form is the same.
unmoved : {K : ℕ} {s t : Form} → Moved (identity K) s t → s ≡ t
unmoved {K} {s} {t} m =
    let coeffs : s.coeffs ≡ t.coeffs
    = ext_get_or (pos 0) s.coeffs t.coeffs (m.size ∙ sym m.size') (λ i h. sym (m.moved i (subst (λ (n : ℕ). i < n) m.size h))) in
    λ i. record { coeffs = coeffs i; d = m.d i }

read_same : (w K : ℕ) (bs : List ℕ) → Moved (identity K) (form_from w K bs) (form_from w K bs)
unfolding form_from
read_same w K bs = record { size = length-signeds w K bs; size' = length-signeds w K bs; d = refl; moved = λ k h. refl }

-- ---- a form is read from its own bytes
signeds-front : (w n : ℕ) (x y : List ℕ) → n * w ≤ length x → signeds w n (x ++ y) ≡ signeds w n x
unfolding signeds
signeds-front w zero x y h = refl
signeds-front w (suc n) x y h =
    let more : n * w + w ≤ length x = rw suc-mul at h in
    ap₂ (λ (a : List ℕ) (zs : List ℤ). signed a ∷ zs) (take-append-le w x y (omega arith))
    (ap (signeds w n) (drop-append-le w x y (omega arith)) ∙ signeds-front w n (drop w x) y (rw length-drop (omega arith)))

form-front : (w K : ℕ) (x y : List ℕ) → length x ≡ form_width w K → form_from w K (x ++ y) ≡ form_from w K x
unfolding form_from
form-front w K x y h =
    let size : length x ≡ K * w + w = h ∙ suc-mul K w in
    let cs : signeds w K (x ++ y) ≡ signeds w K x = signeds-front w K x y (omega arith) in
    let last : take w (drop (K * w) (x ++ y)) ≡ take w (drop (K * w) x)
    = ap (take w) (drop-append-le (K * w) x y (omega arith)) ∙ take-append-le w (drop (K * w) x) y (rw length-drop (omega arith)) in
    λ i. record { coeffs = cs i; d = signed (last i) }

-- ---- a file with other contents, field by field
module _ (m : ContentsMap) where
  fuel-step : (n k : ℕ) (bs : List ℕ) → ((after : List ℕ) → length after < length bs → map_contents_from m n after ≡ map_contents_from m k after)
      → (x : Front) → front bs ≡ x → map_contents_from m (suc n) bs ≡ map_contents_from m (suc k) bs
  fuel-step n k bs ih nothing e = map_contents-nothing m n bs e ∙ sym (map_contents-nothing m k bs e)
  fuel-step n k bs ih broken e = map_contents-broken m n bs e ∙ sym (map_contents-broken m k bs e)
  fuel-step n k bs ih (whole tag c after) e =
      map_contents-whole m n bs e ∙ ap (λ (l : List ℕ). take 3 bs ++ (m tag c ++ l)) (ih after (front-shorter bs e)) ∙ sym (map_contents-whole m k bs e)

  fuel-apart : (n k : ℕ) (bs : List ℕ) → length bs ≤ n → length bs ≤ k → map_contents_from m n bs ≡ map_contents_from m k bs
  unfolding map_contents_from front
  fuel-apart zero zero bs h l = refl
  fuel-apart zero (suc k) [] h l = refl
  fuel-apart zero (suc k) (b ∷ bs) h l = absurd (omega arith)
  fuel-apart (suc n) zero [] h l = refl
  fuel-apart (suc n) zero (b ∷ bs) h l = absurd (omega arith)
  fuel-apart (suc n) (suc k) bs h l = fuel-step n k bs (λ after s. fuel-apart n k after (omega arith) (omega arith)) (front bs) refl

  take-three : (tag : ℕ) (c c' more more' : List ℕ) → length c' ≡ length c → take 3 (field_bytes tag c ++ more) ++ (c' ++ more') ≡ field_bytes tag c' ++ more'
  unfolding field_bytes unsigned_bytes
  take-three tag c c' more more' e = rw e

  pub map_contents-none : map_contents m [] ≡ []
  unfolding map_contents map_contents_from
  map_contents-none = refl

  pub map_contents-field : KeepsLength m → (tag : ℕ) (c more : List ℕ) → length c < 0x10000 → map_contents m (field_bytes tag c ++ more) ≡ field_bytes tag (m tag c) ++ map_contents m more
  unfolding map_contents
  map_contents-field keeping tag c more h =
      let bs = field_bytes tag c ++ more in
      let f : front bs ≡ whole tag c more = front-whole tag c more h in
      let shorter : length more < length bs = front-shorter bs f in
      fuel-apart (length bs) (suc (length bs)) bs (omega arith) (omega arith)
      ∙ map_contents-whole m (length bs) bs f
      ∙ take-three tag c (m tag c) more (map_contents_from m (length bs) more) (keeping.keeps tag c)
      ∙ ap (λ (l : List ℕ). field_bytes tag (m tag c) ++ l) (fuel-apart (length bs) (length more) more (omega arith) (omega arith))

-- ---- forms of files over n constants
module _ {K : ℕ} (π : Reordering K) (n : ℕ) where
  abbrev pub NearIf : Bool → Form → Form → Type 0
  NearIf true s t = Moved π s t
  NearIf false s t = Moved (identity n) s t

  -- Moved if there are K constants, else the same.
  abbrev pub Near : Form → Form → Type 0
  Near = NearIf (eqb n K)

  pub near-laws : Laws Near
  near-laws = go (eqb n K)
    where
      go : (b : Bool) → Laws (NearIf b)
      go true = moved_laws π
      go false = moved_laws (identity n)

  -- s is read from the bytes c, and t from c reordered or, if there are not K constants, from c too
  near-forms : (w : ℕ) (c x : List ℕ) {s : Form} → s ≡ form_from w n c → length c ≡ form_width w n
      → (n ≡ K → form_from w n x ≡ form_from w n (form_reordered π w c)) → (¬ (n ≡ K) → form_from w n x ≡ form_from w n c) → Near s (form_from w n x)
  near-forms w c x {s} own h f g = go (eqb n K) refl
    where
      go : (b : Bool) → eqb n K ≡ b → NearIf b s (form_from w n x)
      go true p =
          let e : n ≡ K = eqb-true n K p in
          let long : K * w ≤ length c = rw (sym e) (omega (arith, suc-mul n w)) in
          let there : Moved π (form_from w n c) (form_from w n (form_reordered π w c))
          = subst (λ (k : ℕ). Moved π (form_from w k c) (form_from w k (form_reordered π w c))) (sym e) (read-moved π w c long) in
          subst (λ (t : Form). Moved π s t) (sym (f e)) (subst (λ (t : Form). Moved π t (form_from w n (form_reordered π w c))) (sym own) there)
      go false p =
          subst (λ (t : Form). Moved (identity n) s t) (sym (g (eqb-false n K p))) (subst (λ (t : Form). Moved (identity n) t (form_from w n c)) (sym own) (read_same w n c))

  read-near : (w : ℕ) (c x : List ℕ) → length c ≡ form_width w n → (n ≡ K → x ≡ form_reordered π w c) → (¬ (n ≡ K) → x ≡ c) → Near (form_from w n c) (form_from w n x)
  read-near w c x h f g = near-forms w c x refl h (λ e. ap (form_from w n) (f e)) (λ u. ap (form_from w n) (g u))

  -- ---- bundles
  constraint-tag : (tag : ℕ) (k : ConstraintKind) → kind_tagged tag ≡ some k → T (eqb tag 0x03 || eqb tag 0x04 || eqb tag 0x05)
  unfolding kind_tagged
  constraint-tag tag k h =
      let P : ℕ → Type 0 = λ n. T (eqb n 0x03 || eqb n 0x04 || eqb n 0x05) in
      by-tag P tag 0x03 (says ≤0) tt (by-tag P tag 0x04 (says =0) tt (by-tag P tag 0x05 ≠0 tt (λ e. absurd (let z : ◌≡◌ {A = ℕ} 0 1 = cc in omega arith)))) h

  pub constraint-near : (e : Edition) → 1 ≤ e.coefficient_width → (tag : ℕ) (k : ConstraintKind) → kind_tagged tag ≡ some k → (c : List ℕ) → length c ≡ form_width e.coefficient_width n
      → Near (form_from e.coefficient_width n c) (form_from e.coefficient_width n (in_bundle π e tag c))
  unfolding in_bundle
  constraint-near e wide tag k t c h = read-near e.coefficient_width c _ h
      (λ q. right-one _ _ _ c (constraint-tag tag k t) (h ∙ ap (form_width e.coefficient_width) q))
      (λ u. wrong-length _ _ _ c λ q. u (same_width e.coefficient_width n K wide (sym h ∙ q)))

  -- ---- claims
  claim-tag : (tag : ℕ) → entry_tagged tag ≡ some claim_tag → T (eqb tag 0x20)
  unfolding entry_tagged
  claim-tag tag h =
      let P : ℕ → Type 0 = λ n. entry_tagged n ≡ some claim_tag → T (eqb n 0x20) in
      by-tag P tag 0x10 combine_tag (λ e. absurd (let z : ◌≡◌ {A = ℕ} 0 1 = cc in omega arith))
      (by-tag P tag 0x11 reduce_tag (λ e. absurd (let z : ◌≡◌ {A = ℕ} 0 1 = cc in omega arith))
      (by-tag P tag 0x12 scale_tag (λ e. absurd (let z : ◌≡◌ {A = ℕ} 0 1 = cc in omega arith))
      (by-tag P tag 0x13 strengthen_tag (λ e. absurd (let z : ◌≡◌ {A = ℕ} 0 1 = cc in omega arith))
      (by-tag P tag 0x14 number_tag (λ e. absurd (let z : ◌≡◌ {A = ℕ} 0 1 = cc in omega arith))
      (by-tag P tag 0x15 stride_tag (λ e. absurd (let z : ◌≡◌ {A = ℕ} 0 1 = cc in omega arith))
      (by-tag P tag 0x16 round_tag (λ e. absurd (let z : ◌≡◌ {A = ℕ} 0 1 = cc in omega arith))
      (by-tag P tag 0x17 split_tag (λ e. absurd (let z : ◌≡◌ {A = ℕ} 0 1 = cc in omega arith))
      (by-tag P tag 0x20 claim_tag (λ e. tt) (λ e. absurd (let z : ◌≡◌ {A = ℕ} 0 1 = cc in omega arith)))))))))) h h

  claim-first : (c : List ℕ) → length c ≡ 2 * form_width 4 n → n ≡ K → form_from 4 n (claim_reordered π c) ≡ form_from 4 n (form_reordered π 4 (take (form_width 4 n) c))
  unfolding claim_reordered
  claim-first c h e =
      let first : length (take (form_width 4 n) c) ≡ form_width 4 n = (halves (form_width 4 n) c h).0 in
      subst (λ (k : ℕ). form_from 4 n (form_reordered π 4 (take (form_width 4 k) c) ++ form_reordered π 4 (drop (form_width 4 k) c)) ≡ form_from 4 n (form_reordered π 4 (take (form_width 4 n) c))) e
      (form-front 4 n (form_reordered π 4 (take (form_width 4 n) c)) (form_reordered π 4 (drop (form_width 4 n) c)) (length-right π 4 (take (form_width 4 n) c) (first ∙ ap (form_width 4) e) ∙ first))

  claim-second : (c : List ℕ) → length c ≡ 2 * form_width 4 n → n ≡ K → drop (form_width 4 n) (claim_reordered π c) ≡ form_reordered π 4 (drop (form_width 4 n) c)
  unfolding claim_reordered
  claim-second c h e =
      let first : length (take (form_width 4 n) c) ≡ form_width 4 n = (halves (form_width 4 n) c h).0 in
      subst (λ (k : ℕ). drop (form_width 4 n) (form_reordered π 4 (take (form_width 4 k) c) ++ form_reordered π 4 (drop (form_width 4 k) c)) ≡ form_reordered π 4 (drop (form_width 4 n) c)) e
      (drop_at (form_reordered π 4 (take (form_width 4 n) c)) (form_reordered π 4 (drop (form_width 4 n) c)) (form_width 4 n) (length-right π 4 (take (form_width 4 n) c) (first ∙ ap (form_width 4) e) ∙ first))

  -- a field that states anything else
  other_tag : (tag : ℕ) {x : EntryTag} → entry_tagged tag ≡ some x → ¬ (x ≡ claim_tag) → (c : List ℕ) → in_proof π tag c ≡ c
  unfolding in_proof entry_tagged
  other_tag tag {x} t u c = other-one _ _ _ c (ne_eqb tag 0x20 λ q.
      let there : entry_tagged 0x20 ≡ some x = subst (λ (n : ℕ). entry_tagged n ≡ some x) q t in
      u (let same : x ≡ claim_tag = cc in same))

  module _ (number : ℕ) where
    row_near : (tag : ℕ) (x : EntryTag) → entry_tagged tag ≡ some x → ¬ (x ≡ claim_tag) → (c : List ℕ) {r : Row} → entry_from (edition number) n x c ≡ row r
        → EntryLike Near (entry_from (edition number) n x c) (entry_from (edition number) n x (in_proof π tag c))
    row_near tag x t u c {r} q =
        subst (λ (b : List ℕ). EntryLike Near (entry_from (edition number) n x c) (entry_from (edition number) n x b)) (sym (other_tag tag t u c))
        (subst (λ (y : Entry). EntryLike Near y y) (sym q) (a_row r))

    claim-near : (tag : ℕ) → entry_tagged tag ≡ some claim_tag → (c : List ℕ) → length c ≡ 2 * form_width 4 n
        → EntryLike Near (entry_from (edition number) n claim_tag c) (entry_from (edition number) n claim_tag (in_proof π tag c))
    unfolding entry_from in_proof
    claim-near tag t c h =
        let l = form_width 4 n in
        let c' = in_proof π tag c in
        let first : length (take l c) ≡ l = (halves l c h).0 in
        let second : length (drop l c) ≡ l = (halves l c h).1 in
        let yes-it : n ≡ K → c' ≡ claim_reordered π c = λ q. right-one _ _ _ c (claim-tag tag t) (h ∙ ap (λ (k : ℕ). 2 * form_width 4 k) q) in
        let not-it : ¬ (n ≡ K) → c' ≡ c = λ u. wrong-length _ _ _ c λ q. u (omega arith) in
        let own : form_from 4 n c ≡ form_from 4 n (take l c) = ap (form_from 4 n) (sym (take-append-drop l c)) ∙ form-front 4 n (take l c) (drop l c) first in
        a_claim
        (near-forms 4 (take l c) c' own first (λ q. ap (form_from 4 n) (yes-it q) ∙ claim-first c h q) (λ u. ap (form_from 4 n) (not-it u) ∙ own))
        (near-forms 4 (drop l c) (drop l c') refl second (λ q. ap (form_from 4 n) (ap (drop l) (yes-it q) ∙ claim-second c h q)) (λ u. ap (form_from 4 n) (ap (drop l) (not-it u))))

    pub entry-near : (tag : ℕ) (x : EntryTag) → entry_tagged tag ≡ some x → (c : List ℕ) → length c ≡ size_of (edition number) n x
        → EntryLike Near (entry_from (edition number) n x c) (entry_from (edition number) n x (in_proof π tag c))
    unfolding entry_from size_of
    entry-near tag combine_tag t c h = row_near tag combine_tag t (λ e. absurd (let z : ◌≡◌ {A = ℕ} 0 1 = cc in omega arith)) c refl
    entry-near tag reduce_tag t c h = row_near tag reduce_tag t (λ e. absurd (let z : ◌≡◌ {A = ℕ} 0 1 = cc in omega arith)) c refl
    entry-near tag scale_tag t c h = row_near tag scale_tag t (λ e. absurd (let z : ◌≡◌ {A = ℕ} 0 1 = cc in omega arith)) c refl
    entry-near tag strengthen_tag t c h = row_near tag strengthen_tag t (λ e. absurd (let z : ◌≡◌ {A = ℕ} 0 1 = cc in omega arith)) c refl
    entry-near tag number_tag t c h = row_near tag number_tag t (λ e. absurd (let z : ◌≡◌ {A = ℕ} 0 1 = cc in omega arith)) c refl
    entry-near tag stride_tag t c h = row_near tag stride_tag t (λ e. absurd (let z : ◌≡◌ {A = ℕ} 0 1 = cc in omega arith)) c refl
    entry-near tag round_tag t c h = row_near tag round_tag t (λ e. absurd (let z : ◌≡◌ {A = ℕ} 0 1 = cc in omega arith)) c refl
    entry-near tag split_tag t c h = row_near tag split_tag t (λ e. absurd (let z : ◌≡◌ {A = ℕ} 0 1 = cc in omega arith)) c refl
    entry-near tag claim_tag t c h = claim-near tag t c (omega (arith, h))

  -- ---- formulas
  -- how many coefficients
  size-near : (s t : Form) → Near s t → length s.coeffs ≡ n
  size-near s t m = go (eqb n K) refl m
    where
      go : (b : Bool) → eqb n K ≡ b → NearIf b s t → length s.coeffs ≡ n
      go true p m = m.size ∙ sym (eqb-true n K p)
      go false p m = m.size

  literal-bytes : (tag : ℕ) → T (eqb tag 0x33 || eqb tag 0x34) → eqb tag 0x35 ≡ false → (s t : Form) → Near s t → in_formula π tag (form_bytes 4 s) ≡ form_bytes 4 t
  unfolding in_formula
  literal-bytes tag a b s t m = ap (if_right (eqb tag 0x33 || eqb tag 0x34) (form_width 4 K) (form_reordered π 4)) (other-one _ _ _ (form_bytes 4 s) b) ∙ go (eqb n K) refl m
    where
      go : (b : Bool) → eqb n K ≡ b → NearIf b s t → if_right (eqb tag 0x33 || eqb tag 0x34) (form_width 4 K) (form_reordered π 4) (form_bytes 4 s) ≡ form_bytes 4 t
      go true p m = right-one _ _ _ (form_bytes 4 s) a (length-form_bytes 4 K s m.size) ∙ written-moved π 4 m
      go false p m =
          let long : length (form_bytes 4 s) ≡ form_width 4 n = length-form_bytes 4 n s m.size in
          wrong-length _ _ _ (form_bytes 4 s) (λ e. eqb-false n K p (omega arith)) ∙ ap (form_bytes 4) (unmoved m)

  stride-bytes : (g : ℕ) (s t : Form) → Near s t → in_formula π 0x35 (signed_bytes 4 (pos g) ++ form_bytes 4 s) ≡ signed_bytes 4 (pos g) ++ form_bytes 4 t
  unfolding in_formula
  stride-bytes g s t m = other-one _ _ _ _ refl ∙ go (eqb n K) refl m (stride-moved π g s)
    where
      go : (b : Bool) → eqb n K ≡ b → NearIf b s t → (stride_reordered π (signed_bytes 4 (pos g) ++ form_bytes 4 s) ≡ signed_bytes 4 (pos g) ++ form_reordered π 4 (form_bytes 4 s))
          → if_right (eqb 0x35 0x35) (4 + form_width 4 K) (stride_reordered π) (signed_bytes 4 (pos g) ++ form_bytes 4 s) ≡ signed_bytes 4 (pos g) ++ form_bytes 4 t
      go true p m q =
          let long : length (signed_bytes 4 (pos g) ++ form_bytes 4 s) ≡ 4 + form_width 4 K = length-append (signed_bytes 4 (pos g)) (form_bytes 4 s) ∙ ap₂ ◌+◌ (length-signed_bytes 4 (pos g)) (length-form_bytes 4 K s m.size) in
          right-one _ _ _ (signed_bytes 4 (pos g) ++ form_bytes 4 s) tt long ∙ q ∙ ap (λ (l : List ℕ). signed_bytes 4 (pos g) ++ l) (written-moved π 4 m)
      go false p m q =
          let long : length (signed_bytes 4 (pos g) ++ form_bytes 4 s) ≡ 4 + form_width 4 n = length-append (signed_bytes 4 (pos g)) (form_bytes 4 s) ∙ ap₂ ◌+◌ (length-signed_bytes 4 (pos g)) (length-form_bytes 4 n s m.size) in
          wrong-length _ _ _ (signed_bytes 4 (pos g) ++ form_bytes 4 s) (λ e. eqb-false n K p (omega arith)) ∙ ap (λ (u : Form). signed_bytes 4 (pos g) ++ form_bytes 4 u) (unmoved m)

  pair-bytes : (tag : ℕ) → in_formula π tag [] ≡ [] → (a a' b b' more : List ℕ)
      → ((more : List ℕ) → map_contents (in_formula π) (a ++ more) ≡ a' ++ map_contents (in_formula π) more)
      → ((more : List ℕ) → map_contents (in_formula π) (b ++ more) ≡ b' ++ map_contents (in_formula π) more)
      → map_contents (in_formula π) (field_bytes tag [] ++ a ++ b ++ more) ≡ field_bytes tag [] ++ a' ++ b' ++ map_contents (in_formula π) more
  pair-bytes tag e a a' b b' more f g =
      let m = in_formula π in
      ap (map_contents m) (append_assoc (field_bytes tag [] ++ a) b more ∙ append_assoc (field_bytes tag []) a (b ++ more))
      ∙ map_contents-field m (formula-keeps π) tag [] (a ++ (b ++ more)) (omega arith)
      ∙ ap₂ (λ (c l : List ℕ). field_bytes tag c ++ l) e (f (b ++ more) ∙ ap (λ (l : List ℕ). a' ++ l) (g more))
      ∙ sym (append_assoc (field_bytes tag [] ++ a') b' (map_contents m more) ∙ append_assoc (field_bytes tag []) a' (b' ++ map_contents m more))

  module _ (few : n ≤ 16) where
    form-bytes : (s t : Form) → Near s t → length (form_bytes 4 s) < 0x10000
    form-bytes s t m = let long : length (form_bytes 4 s) ≡ form_width 4 n = length-form_bytes 4 n s (size-near s t m) in omega arith

    encode-near : {I J : Formula} → FormulaLike Near I J → (more : List ℕ) → map_contents (in_formula π) (encode edition1 I ++ more) ≡ encode edition1 J ++ map_contents (in_formula π) more
    unfolding encode in_formula if_right
    encode-near (literals {t = s} {t' = t} ≤0 m) more =
        map_contents-field (in_formula π) (formula-keeps π) 0x33 (form_bytes 4 s) more (form-bytes s t m)
        ∙ ap (λ (c : List ℕ). field_bytes 0x33 c ++ map_contents (in_formula π) more) (literal-bytes 0x33 tt refl s t m)
    encode-near (literals {t = s} {t' = t} =0 m) more =
        map_contents-field (in_formula π) (formula-keeps π) 0x34 (form_bytes 4 s) more (form-bytes s t m)
        ∙ ap (λ (c : List ℕ). field_bytes 0x34 c ++ map_contents (in_formula π) more) (literal-bytes 0x34 tt refl s t m)
    encode-near (strides {t = s} {t' = t} g m) more =
        let c = signed_bytes 4 (pos g) ++ form_bytes 4 s in
        let long : length c ≡ 4 + form_width 4 n = length-append (signed_bytes 4 (pos g)) (form_bytes 4 s) ∙ ap₂ ◌+◌ (length-signed_bytes 4 (pos g)) (length-form_bytes 4 n s (size-near s t m)) in
        map_contents-field (in_formula π) (formula-keeps π) 0x35 c more (omega arith)
        ∙ ap (λ (c : List ℕ). field_bytes 0x35 c ++ map_contents (in_formula π) more) (stride-bytes g s t m)
    encode-near (ands {I = I} {I' = I'} {J = J} {J' = J'} p q) more = pair-bytes 0x32 refl (encode edition1 I) (encode edition1 I') (encode edition1 J) (encode edition1 J') more (encode-near p) (encode-near q)
    encode-near (ors {I = I} {I' = I'} {J = J} {J' = J'} p q) more = pair-bytes 0x31 refl (encode edition1 I) (encode edition1 I') (encode edition1 J) (encode edition1 J') more (encode-near p) (encode-near q)

    one_field : (tag b : ℕ) → ((c : List ℕ) → in_formula π tag c ≡ c) → (more : List ℕ)
        → map_contents (in_formula π) (field_bytes tag (b ∷ []) ++ more) ≡ field_bytes tag (b ∷ []) ++ map_contents (in_formula π) more
    one_field tag b e more =
        map_contents-field (in_formula π) (formula-keeps π) tag (b ∷ []) more (omega arith) ∙ ap (λ (c : List ℕ). field_bytes tag c ++ map_contents (in_formula π) more) (e (b ∷ []))

    -- The file of the related formula is the file reordered.
    pub formula-near : {I J : Formula} → FormulaLike Near I J → map_contents (in_formula π) (formula_file edition1 n I) ≡ formula_file edition1 n J
    unfolding formula_file header_bytes in_formula if_right
    formula-near {I} {J} p =
        let m = in_formula π in
        let one = field_bytes 0x01 (1 ∷ []) in
        let two = field_bytes 0x02 (n ∷ []) in
        ap (map_contents m) (append_assoc one two (encode edition1 I))
        ∙ one_field 0x01 1 (λ c. refl) (two ++ encode edition1 I)
        ∙ ap (λ (l : List ℕ). one ++ l) (one_field 0x02 n (λ c. refl) (encode edition1 I)
        ∙ ap (λ (l : List ℕ). two ++ l) (ap (map_contents m) (sym (append-nil (encode edition1 I))) ∙ encode-near p [] ∙ ap (λ (l : List ℕ). encode edition1 J ++ l) (map_contents-none m) ∙ append-nil (encode edition1 J)))
        ∙ sym (append_assoc one two (encode edition1 J))
