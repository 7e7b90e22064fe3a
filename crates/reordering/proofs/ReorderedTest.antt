-- A formula's file reordered, tested at values so reordered, is judged as the old file at the old values. Assumes nothing.
use mathlib.Core.Path.{◌≡◌, refl, sym, subst, ap, ap₂, ◌∙◌}
use mathlib.Core.Option.{some}
use mathlib.Core.Bool.{Bool, false, ◌&&◌, ◌||◌}
use mathlib.Core.List.{List, [], ◌∷◌}
use Prim.Native.Nat.{ℕ, zero, suc, ◌+◌, ◌≤◌, ◌<◌}
use native.Mathlib.Omega.{arith}
use borrow.Author.Tests.{eq-eqb}
use lib.Dec.{T, eqb, leb, eqb→eq, le→leb}
use lib.ListN.{length, get_or, take, drop, length-drop}
use lib.Seq.{take_at, drop_at, length-take-le}
use lib.IntN.{ℤ, pos, nat_abs}
use lib.Signed.{le_z}
use Rattle.integers.specs.Divides.{divb}
use Rattle.forms.specs.Edition.{edition1}
use Rattle.forms.specs.Forms.{All, nil, cons, rest, Form, Kind, ≤0, =0, Assignment, value, Formula, ◌divides◌}
use Rattle.answers.specs.Answers.{answer, acceptance, file_proof, file_lent, Result, accepted, ◌>>=◌, ◌>>◌, each}
use Rattle.answers.proofs.Results.{never, each-accepted}
use Rattle.number_bytes.specs.Numbers.{signed, form_from, form_width}
use Rattle.fields.specs.declared.FileKind.{FileKind}
use Rattle.fields.specs.Fields.{Field, Fields, ends, cut, ◌▸◌, fields}
use Rattle.fields.specs.Header.{Header, finished}
use Rattle.fields.proofs.HeaderLaid.{by-tag}
use Rattle.formula.specs.Formula.{Connective, disjunction, conjunction, FormulaTag, pair, atom, stride, formula_tagged, compound, Reader, formula_size, formula_of, formula_field, two_parts, formula_within, read_formula}
use Rattle.formula.specs.Test.{holds, judge, registers, tested, judged, test_formula}
use Rattle.proof.specs.Check.{interpolant}
use Rattle.reordering.specs.Reordering.{Reordering, concat_below, if_right, form_reordered, stride_reordered, in_formula, bundle_reordered, proof_reordered, formula_reordered, values_reordered}
use Rattle.reordering.proofs.MappedContents.{map_fields, length-map_contents, fields-map_contents}
use Rattle.reordering.proofs.RelatedResults.{Like, alike, related, Passed, need-same, need-like, found-same, bind-like, then_like}
use Rattle.reordering.proofs.RelatedChecks.{FormulaLike, literals, strides, ands, ors}
use Rattle.reordering.proofs.ReorderedForms.{Moved, read-moved}
use Rattle.reordering.proofs.ReorderedFields.{right-one, other-one, formula-keeps, Near, NearIf}
use Rattle.reordering.proofs.ReorderedCheck.{agrees-is, header-like, finished-like, GivenLike, interpolant-like}
use Rattle.reordering.proofs.PermutedSums.{moved_value}

-- ---- values by index
all-at : {P : ℤ → Type 0} (zs : List ℤ) → All P zs → (k : ℕ) → k < length zs → P (get_or zs k (pos 0))
all-at [] h k l = absurd (omega arith)
all-at (z ∷ zs) (cons h hs) zero l = h
all-at (z ∷ zs) (cons h hs) (suc k) l = all-at zs hs k (omega arith)

-- The values f 0, f 1, .., n of them.
abbrev singles : (ℕ → ℤ) → ℕ → List ℤ
singles f n = concat_below (λ k. f k ∷ []) n

singles-at : (f : ℕ → ℤ) (n k : ℕ) → k < n → get_or (singles f n) k (pos 0) ≡ f k
unfolding concat_below
singles-at f zero k l = absurd (omega arith)
singles-at f (suc n) zero l = refl
singles-at f (suc n) (suc k) l = singles-at (rest f) n k (omega arith)

length-singles : (f : ℕ → ℤ) (n : ℕ) → length (singles f n) ≡ n
unfolding concat_below
length-singles f zero = refl
length-singles f (suc n) = ap suc (length-singles (rest f) n)

all-singles : {P : ℤ → Type 0} (f : ℕ → ℤ) (n : ℕ) → ((k : ℕ) → k < n → P (f k)) → All P (singles f n)
unfolding concat_below
all-singles f zero h = nil
all-singles f (suc n) h = cons (h 0 (omega arith)) (all-singles (rest f) n λ k l. h (suc k) (omega arith))

-- ---- permitted values
abbrev ranged : List ℤ → Result (Unit {0})
ranged zs = each (λ i. answer 23 file_lent i) (λ z. leb (nat_abs z) 1_000_000) 0 zs

in-range : {zs : List ℤ} → All (λ z. nat_abs z ≤ 1_000_000) zs → All (λ z. T (leb (nat_abs z) 1_000_000)) zs
in-range nil = nil
in-range (cons {x = z} h hs) = cons (le→leb (nat_abs z) 1_000_000 h) (in-range hs)

ranged-passes : (zs : List ℤ) → All (λ z. nat_abs z ≤ 1_000_000) zs → accepted tt ≡ ranged zs
ranged-passes zs h = sym (each-accepted (λ i. answer 23 file_lent i) (λ z. leb (nat_abs z) 1_000_000) 0 (in-range h))

both-ranged : (zs zs' : List ℤ) → All (λ z. nat_abs z ≤ 1_000_000) zs → All (λ z. nat_abs z ≤ 1_000_000) zs' → Like Passed (ranged zs) (ranged zs')
both-ranged zs zs' h h' =
    subst (λ (r : Result (Unit {0})). Like Passed r (ranged zs')) (ranged-passes zs h) (subst (λ (r : Result (Unit {0})). Like Passed (accepted tt) r) (ranged-passes zs' h') (related tt))

-- ---- a formula's fields
atom-tag : (tag : ℕ) (k : Kind) → formula_tagged tag ≡ some (atom k) → T (eqb tag 0x33 || eqb tag 0x34) × (eqb tag 0x35 ≡ false)
unfolding formula_tagged
atom-tag tag k h =
    let P : ℕ → Type 0 = λ n. formula_tagged n ≡ some (atom k) → T (eqb n 0x33 || eqb n 0x34) × (eqb n 0x35 ≡ false) in
    by-tag P tag 0x31 (pair disjunction) (λ e. absurd (let z : ◌≡◌ {A = ℕ} 0 1 = cc in omega arith))
    (by-tag P tag 0x32 (pair conjunction) (λ e. absurd (let z : ◌≡◌ {A = ℕ} 0 1 = cc in omega arith))
    (by-tag P tag 0x33 (atom ≤0) (λ e. (tt, refl))
    (by-tag P tag 0x34 (atom =0) (λ e. (tt, refl))
    (by-tag P tag 0x35 stride (λ e. absurd (let z : ◌≡◌ {A = ℕ} 0 1 = cc in omega arith)) (λ e. absurd (let z : ◌≡◌ {A = ℕ} 0 1 = cc in omega arith)))))) h h

stride-tag : (tag : ℕ) → formula_tagged tag ≡ some stride → tag ≡ 0x35
unfolding formula_tagged
stride-tag tag h =
    let P : ℕ → Type 0 = λ n. formula_tagged n ≡ some stride → n ≡ 0x35 in
    by-tag P tag 0x31 (pair disjunction) (λ e. absurd (let z : ◌≡◌ {A = ℕ} 0 1 = cc in omega arith))
    (by-tag P tag 0x32 (pair conjunction) (λ e. absurd (let z : ◌≡◌ {A = ℕ} 0 1 = cc in omega arith))
    (by-tag P tag 0x33 (atom ≤0) (λ e. absurd (let z : ◌≡◌ {A = ℕ} 0 1 = cc in omega arith))
    (by-tag P tag 0x34 (atom =0) (λ e. absurd (let z : ◌≡◌ {A = ℕ} 0 1 = cc in omega arith))
    (by-tag P tag 0x35 stride (λ e. refl) (λ e. absurd (let z : ◌≡◌ {A = ℕ} 0 1 = cc in omega arith)))))) h h

given_both : {X Y : Type 0} {R : X → Y → Type 0} {r : Result X} {r' : Result Y} {x : X} {y : Y} → Like R r r' → r ≡ accepted x → r' ≡ accepted y → R x y
given_both (alike a) p q = absurd (never p)
given_both {R = R} {x = x} {y = y} (related {x = u} {y = v} h) p q =
    subst (λ (z : _). R z y) (let e : u ≡ x = cc in e) (subst (R u) (let e : v ≡ y = cc in e) h)

module _ {K : ℕ} (π : Reordering K) where
  -- ---- truth
  -- Forms that have the same value make formulas that are judged alike.
  judged-alike : {R : Form → Form → Type 0} (v w : Assignment) → ((s t : Form) → R s t → value t w ≡ value s v) → {I J : Formula} → FormulaLike R I J → judge J w ≡ judge I v
  unfolding judge
  judged-alike v w same (literals {t = s} {t' = t} k n) = ap (holds k) (same s t n)
  judged-alike v w same (strides {t = s} {t' = t} g n) = ap (divb (pos g)) (same s t n)
  judged-alike v w same (ands p q) = ap₂ ◌&&◌ (judged-alike v w same p) (judged-alike v w same q)
  judged-alike v w same (ors p q) = ap₂ ◌||◌ (judged-alike v w same p) (judged-alike v w same q)

  near-moved : (s t : Form) → Near π K s t → Moved π s t
  near-moved s t n = subst (λ (b : Bool). NearIf π K b s t) (eq-eqb K K refl) n

  -- The formulas that an accepted check gives on both, over K constants.
  pub given-judged : (newest : ℕ) (A B proof : List ℕ) (I J : Formula) → interpolant newest A B proof ≡ accepted (K, I)
      → interpolant newest (bundle_reordered π A) (bundle_reordered π B) (proof_reordered π proof) ≡ accepted (K, J)
      → (v w : Assignment) → ((k : ℕ) → k < K → w k ≡ v (π.from k)) → judge J w ≡ judge I v
  given-judged newest A B proof I J p q v w along =
      let given : GivenLike π (K, I) (K, J) = given_both (interpolant-like π newest A B proof) p q in
      judged-alike v w (λ s t n. moved_value π (near-moved s t n) v w along) given.formula

  -- ---- reading
  literal-read : (tag : ℕ) (k : Kind) → formula_tagged tag ≡ some (atom k) → (c : List ℕ) → length c ≡ form_width 4 K → Moved π (form_from 4 K c) (form_from 4 K (in_formula π tag c))
  unfolding in_formula
  literal-read tag k t c h =
      let (is, other) = atom-tag tag k t in
      let there : in_formula π tag c ≡ form_reordered π 4 c
      = ap (if_right (eqb tag 0x33 || eqb tag 0x34) (form_width 4 K) (form_reordered π 4)) (other-one _ _ _ c other) ∙ right-one _ _ _ c is h in
      subst (λ (b : List ℕ). Moved π (form_from 4 K c) (form_from 4 K b)) (sym there) (read-moved π 4 c (omega arith))

  stride-read : (tag : ℕ) → tag ≡ 0x35 → (c : List ℕ) → length c ≡ 4 + form_width 4 K → (take 4 c ≡ take 4 (in_formula π tag c)) × Moved π (form_from 4 K (drop 4 c)) (form_from 4 K (drop 4 (in_formula π tag c)))
  unfolding in_formula stride_reordered
  stride-read tag e c h =
      let there : in_formula π tag c ≡ stride_reordered π c = subst (λ (n : ℕ). in_formula π n c ≡ stride_reordered π c) (sym e) (other-one _ _ _ _ refl ∙ right-one _ _ _ c tt h) in
      let four : length (take 4 c) ≡ 4 = length-take-le 4 c (omega arith) in
      let long : length (drop 4 c) ≡ form_width 4 K = length-drop 4 c ∙ omega arith in (
        sym (ap (take 4) there ∙ take_at (take 4 c) (form_reordered π 4 (drop 4 c)) 4 four),
        subst (λ (b : List ℕ). Moved π (form_from 4 K (drop 4 c)) (form_from 4 K b)) (sym (ap (drop 4) there ∙ drop_at (take 4 c) (form_reordered π 4 (drop 4 c)) 4 four)) (read-moved π 4 (drop 4 c) (omega arith)),
      )

  pub record PartLike (x y : Formula × Fields) : Type 0 where
    pub formula : FormulaLike (Moved π) x.0 y.0
    pub after : map_fields (in_formula π) x.1 ≡ y.1

  pub record TwoLike (x y : Formula × Formula × Fields) : Type 0 where
    pub first : FormulaLike (Moved π) x.0 y.0
    pub second : FormulaLike (Moved π) x.1 y.1
    pub after : map_fields (in_formula π) x.2 ≡ y.2

  abbrev Reads : Reader → Type 0
  Reads part = (fs : Fields) → Like PartLike (part fs) (part (map_fields (in_formula π) fs))

  abbrev ReadsTwo : (ℕ → Fields → Result (Formula × Formula × Fields)) → Type 0
  ReadsTwo two = (at : ℕ) (fs : Fields) → Like TwoLike (two at fs) (two at (map_fields (in_formula π) fs))

  compound-like : (c : Connective) {I I' J J' : Formula} → FormulaLike (Moved π) I I' → FormulaLike (Moved π) J J' → FormulaLike (Moved π) (compound c I J) (compound c I' J')
  unfolding compound
  compound-like disjunction p q = ors p q
  compound-like conjunction p q = ands p q

  formula_of-like : (two : ℕ → Fields → Result (Formula × Formula × Fields)) → ReadsTwo two → (f : Field) (fs : Fields) (x : FormulaTag) → formula_tagged f.tag ≡ some x → length f.contents ≡ formula_size edition1 K x
      → Like PartLike (formula_of edition1 K two f fs x) (formula_of edition1 K two (record { at = f.at; tag = f.tag; contents = in_formula π f.tag f.contents }) (map_fields (in_formula π) fs) x)
  unfolding formula_of formula_size
  formula_of-like two h f fs (pair c) t l = bind-like (h f.at fs) λ x y q. related (record { formula = compound-like c q.first q.second; after = q.after })
  formula_of-like two h f fs (atom k) t l = related (record { formula = literals k (literal-read f.tag k t f.contents l); after = refl })
  formula_of-like two h f fs stride t l =
      let (g, form) = stride-read f.tag (stride-tag f.tag t) f.contents l in
      need-like _ (ap (λ (bs : List ℕ). le_z (pos 2) (signed bs)) g) λ _.
      related (record {
        formula = subst (λ (bs : List ℕ). FormulaLike (Moved π) (nat_abs (signed (take 4 f.contents)) divides form_from 4 K (drop 4 f.contents)) (nat_abs (signed bs) divides form_from 4 K (drop 4 (in_formula π f.tag f.contents)))) g
            (strides _ form);
        after = refl;
      })

  formula_field-like : (two : ℕ → Fields → Result (Formula × Formula × Fields)) → ReadsTwo two → Reads (formula_field edition1 K two)
  unfolding formula_field
  formula_field-like two h (ends at) = alike _
  formula_field-like two h (cut at) = alike _
  formula_field-like two h (f ▸ fs) =
      need-same _ _ λ _. found-same _ _ λ x t.
      need-like _ (ap (λ (n : ℕ). eqb n (formula_size edition1 K x)) (sym ((formula-keeps π).keeps f.tag f.contents))) λ s.
      formula_of-like two h f fs x t (eqb→eq _ _ s)

  two_parts-like : (part : Reader) → Reads part → (fs : Fields) → Like TwoLike (two_parts edition1 K part fs) (two_parts edition1 K part (map_fields (in_formula π) fs))
  unfolding two_parts
  two_parts-like part h fs =
      bind-like (h fs) λ x y p.
      bind-like (subst (λ (gs : Fields). Like PartLike (part x.1) (part gs)) p.after (h x.1)) λ u v q.
      related (record { first = p.formula; second = q.formula; after = q.after })

  formula_within-like : (levels : ℕ) → Reads (formula_within edition1 K levels)
  unfolding formula_within
  formula_within-like zero = formula_field-like _ (λ at fs. alike _)
  formula_within-like (suc levels) = formula_field-like _ (λ at fs. two_parts-like _ (formula_within-like levels) fs)

  header-stays : (tag : ℕ) → eqb tag 0x33 || eqb tag 0x34 ≡ false → eqb tag 0x35 ≡ false → (c : List ℕ) → in_formula π tag c ≡ c
  unfolding in_formula
  header-stays tag p q c = other-one _ _ _ _ p ∙ other-one _ _ _ c q

  read_formula-like : (fs : Fields) → Like (FormulaLike (Moved π)) (read_formula K fs) (read_formula K (map_fields (in_formula π) fs))
  unfolding read_formula
  read_formula-like fs =
      bind-like (header-like (formula-keeps π) FileKind.Formula file_proof 1 refl (header-stays 0x01 refl refl) (header-stays 0x02 refl refl) fs) λ h h' q.
      let reads : Reads (formula_within edition1 h.K edition1.levels) = subst (λ (n : ℕ). Reads (formula_within edition1 n edition1.levels)) (sym (agrees-is K h.K q.agreed)) (formula_within-like edition1.levels) in
      subst (λ (x : Header). Like (FormulaLike (Moved π))
      (formula_within edition1 h.K edition1.levels h.rest >>= λ y. finished FileKind.Formula file_proof y.1 >> accepted y.0)
      (formula_within edition1 x.K edition1.levels x.rest >>= λ y. finished FileKind.Formula file_proof y.1 >> accepted y.0)) q.same
      (bind-like (reads h.rest) λ x y p.
      then_like (subst (λ (gs : Fields). Like Passed (finished FileKind.Formula file_proof x.1) (finished FileKind.Formula file_proof gs)) p.after (finished-like (formula-keeps π) FileKind.Formula file_proof x.1))
      (related p.formula))

  -- ---- testing
  module _ (file : List ℕ) (values : List ℤ) (count : length values ≡ K) (range : All (λ z. nat_abs z ≤ 1_000_000) values) where
    -- register k has the value of the old register `from k`
    abbrev chosen : ℕ → ℤ
    chosen k = get_or values (π.from k) (pos 0)

    size : length (values_reordered π values) ≡ K
    size = length-singles chosen K

    range' : All (λ z. nat_abs z ≤ 1_000_000) (values_reordered π values)
    range' = all-singles chosen K λ k l. all-at values range (π.from k) (omega (arith, count, π.from_below k l))

    tested-like : Like (FormulaLike (Moved π)) (tested file values) (tested (formula_reordered π file) (values_reordered π values))
    unfolding tested
    tested-like =
        need-like _ (ap (λ (n : ℕ). leb 1 n && leb n 16) (count ∙ sym size)) λ _.
        then_like (both-ranged values (values_reordered π values) range range')
        (need-like _ (ap (λ (n : ℕ). leb n 65_536) (sym (length-map_contents (formula-keeps π) file))) λ _.
        subst (λ (n : ℕ). Like (FormulaLike (Moved π)) (read_formula n (fields file)) (read_formula (length (values_reordered π values)) (fields (formula_reordered π file)))) (sym count)
        (subst (λ (n : ℕ). Like (FormulaLike (Moved π)) (read_formula K (fields file)) (read_formula n (fields (formula_reordered π file)))) (sym size)
        (subst (λ (fs : Fields). Like (FormulaLike (Moved π)) (read_formula K (fields file)) (read_formula K fs)) (sym (fields-map_contents (formula-keeps π) file)) (read_formula-like (fields file)))))

    judged-like : {r r' : Result Formula} → Like (FormulaLike (Moved π)) r r' → judged (values_reordered π values) r' ≡ judged values r
    unfolding judged
    judged-like (alike a) = refl
    judged-like (related p) =
        ap (λ (b : Bool). record { answer = acceptance; holds = b })
        (judged-alike (registers values) (registers (values_reordered π values)) (λ s t m. moved_value π m (registers values) (registers (values_reordered π values)) (λ k l. singles-at (λ j. get_or values (π.from j) (pos 0)) K k l)) p)

    pub tested-same : test_formula (formula_reordered π file) (values_reordered π values) ≡ test_formula file values
    unfolding test_formula
    tested-same = judged-like tested-like
