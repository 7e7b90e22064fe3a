-- Registers listed in another sequence: the check gives the same answer, and the same formula so reordered. Assumes nothing.
use mathlib.Core.Path.{◌≡◌, refl, sym, subst, ap, ap₂, ◌∙◌}
use mathlib.Core.Option
use mathlib.Core.Option.{Option, none, some}
use mathlib.Core.Bool.{Bool, true, false, cond, ◌&&◌}
use mathlib.Core.List.{List, [], ◌∷◌, ◌++◌}
use Prim.Native.Nat.{ℕ, suc, ◌≤◌}
use borrow.Author.Tests.{eq-eqb}
use native.Mathlib.Omega.{arith}
use lib.Dec.{T, leb, eqb, eqb→eq, leb→le}
use lib.ListN.{length, get_or, take, drop}
use lib.Seq.{take_at, drop_at}
use lib.IntN.{ℤ}
use mir.Facts.{and_yes}
use Rattle.forms.specs.Edition.{Edition, edition, edition1}
use Rattle.forms.specs.Forms.{Form, ConstraintKind, lines, Formula, small, every}
use Rattle.answers.specs.Answers.{answer, root, file_a, file_b, file_proof, file_lent, Result, refused, accepted, ◌>>=◌, ◌>>◌, need, written, fit, over}
use Rattle.number_bytes.specs.Numbers.{flat, form_from, form_width}
use Rattle.fields.specs.declared.FileKind.{FileKind}
use Rattle.fields.specs.Fields.{Fields, ends, cut, ◌▸◌, fields}
use Rattle.fields.specs.Header.{Header, agrees, header_field, edition_field, constants_field, header, finished}
use Rattle.bundle.specs.Bundle.{Bundle, kind_tagged, at_most, form_small, constraints, bundle_header, bundle, bundles}
use Rattle.bundle.specs.Layout.{Each, nil, cons, edition_said}
use Rattle.formula.specs.Formula.{formula_file}
use Rattle.proof.specs.Check.{check_branch, check_proof, formula_at_most, interpolant, check_by}
use Rattle.reordering.specs.Reordering.{Reordering, map_contents, if_right, edition_of, in_bundle, in_proof, in_formula, bundle_reordered, proof_reordered, reordered_written}
use Rattle.reordering.proofs.MappedContents.{ContentsMap, KeepsLength, map_fields, length-map_contents, fields-map_contents}
use Rattle.reordering.proofs.RelatedResults.{Like, alike, related, Passed, test-like, need-same, need-like, found-same, bind-like, then_like}
use Rattle.reordering.proofs.RelatedChecks.{Laws, ConstraintLike, FormulaLike, Entering, lines-like, check_branch-like}
use Rattle.reordering.proofs.ReorderedFields.{bundle-keeps, proof-keeps, formula-keeps, map_contents-none, Near, near-laws, constraint-near, entry-near, formula-near}

-- ---- the header and the end of a file
-- Every edition's numbers have bytes.
wide : (n : ℕ) → 1 ≤ (edition n).coefficient_width
wide n = go (eqb n 1)
  where
    go : (b : Bool) → 1 ≤ cond b 2 4
    go true = omega arith
    go false = omega arith

pub agrees-is : (given n : ℕ) → T (agrees (some given) n) → n ≡ given
unfolding agrees
agrees-is given n t = eqb→eq n given t

module _ {m : ContentsMap} (keeping : KeepsLength m) (kind : FileKind) (file : ℕ) where
  abbrev moved_field : ℕ × ℕ × Fields → ℕ × ℕ × Fields
  moved_field x = (x.0, x.1, map_fields m x.2)

  abbrev moved_read : ℕ × Fields → ℕ × Fields
  moved_read x = (x.0, map_fields m x.1)

  abbrev pub moved_header : Header → Header
  moved_header h = record { number = h.number; K = h.K; rest = map_fields m h.rest }

  -- The field's number is the edition that the file says, if it is that field.
  pub record FieldLike (tag : ℕ) (fs : Fields) (x y : ℕ × ℕ × Fields) : Type 0 where
    pub same : moved_field x ≡ y
    pub said : tag ≡ 0x01 → edition_said fs ≡ some x.1

  header_field-like : (tag : ℕ) → ((c : List ℕ) → m tag c ≡ c) → (fs : Fields) → Like (FieldLike tag fs) (header_field kind file tag fs) (header_field kind file tag (map_fields m fs))
  unfolding header_field edition_said
  header_field-like tag stays (ends at) = alike _
  header_field-like tag stays (cut at) = alike _
  header_field-like tag stays (f ▸ fs) =
      need-same _ _ λ _. need-same _ _ λ t. need-like _ (ap (λ (n : ℕ). eqb n 1) (sym (keeping.keeps f.tag f.contents))) λ l.
      related (record {
        same = ap (λ (c : List ℕ). (f.at, get_or c 0 0, map_fields m fs)) (sym (ap (λ (x : ℕ). m x f.contents) (eqb→eq _ _ t) ∙ stays f.contents));
        said = λ e. rw (eq-eqb f.tag 0x01 (eqb→eq _ _ t ∙ e), eq-eqb (length f.contents) 1 (eqb→eq _ _ l)) refl;
      })

  -- A header field, and what is done with it.
  field-then : {X Y : Type 0} {R : X → Y → Type 0} (tag : ℕ) → ((c : List ℕ) → m tag c ≡ c) → (fs : Fields) {k : ℕ × ℕ × Fields → Result X} (k' : ℕ × ℕ × Fields → Result Y)
      → ((x : ℕ × ℕ × Fields) → (tag ≡ 0x01 → edition_said fs ≡ some x.1) → Like R (k x) (k' (moved_field x)))
      → Like R (header_field kind file tag fs >>= k) (header_field kind file tag (map_fields m fs) >>= k')
  field-then {R = R} tag stays fs {k} k' h = bind-like (header_field-like tag stays fs) λ x y q. subst (λ z. Like R (k x) (k' z)) q.same (h x q.said)

  pub record EditionLike (fs : Fields) (x y : ℕ × Fields) : Type 0 where
    pub same : moved_read x ≡ y
    pub said : edition_said fs ≡ some x.0

  edition_field-like : (newest : ℕ) → ((c : List ℕ) → m 0x01 c ≡ c) → (fs : Fields) → Like (EditionLike fs) (edition_field kind file newest fs) (edition_field kind file newest (map_fields m fs))
  unfolding edition_field
  edition_field-like newest stays fs = field-then 0x01 stays fs _ λ x said. need-same _ _ λ _. related (record { same = refl; said = said refl })

  edition-then : {X Y : Type 0} {R : X → Y → Type 0} (newest : ℕ) → ((c : List ℕ) → m 0x01 c ≡ c) → (fs : Fields) {k : ℕ × Fields → Result X} (k' : ℕ × Fields → Result Y)
      → ((x : ℕ × Fields) → edition_said fs ≡ some x.0 → Like R (k x) (k' (moved_read x))) → Like R (edition_field kind file newest fs >>= k) (edition_field kind file newest (map_fields m fs) >>= k')
  edition-then {R = R} newest stays fs {k} k' h = bind-like (edition_field-like newest stays fs) λ x y q. subst (λ z. Like R (k x) (k' z)) q.same (h x q.said)

  pub record ConstantsLike (asked : Option ℕ) (x y : ℕ × Fields) : Type 0 where
    pub same : moved_read x ≡ y
    pub few : x.0 ≤ 16
    pub agreed : T (agrees asked x.0)

  constants_field-like : {given given' : Option ℕ} → given ≡ given' → ((c : List ℕ) → m 0x02 c ≡ c) → (fs : Fields) → Like (ConstantsLike given) (constants_field kind file given fs) (constants_field kind file given' (map_fields m fs))
  unfolding constants_field
  constants_field-like e stays fs =
      field-then 0x02 stays fs _ λ x _.
      need-same _ _ λ t.
      need-like _ (ap (λ (g : Option ℕ). agrees g x.1) e) λ g.
      related (record { same = refl; few = leb→le x.1 16 (and_yes (leb 1 x.1) (leb x.1 16) t).1; agreed = g })

  constants-then : {X Y : Type 0} {R : X → Y → Type 0} {given given' : Option ℕ} → given ≡ given' → ((c : List ℕ) → m 0x02 c ≡ c) → (fs : Fields) {k : ℕ × Fields → Result X} (k' : ℕ × Fields → Result Y)
      → ((x : ℕ × Fields) → x.0 ≤ 16 → T (agrees given x.0) → Like R (k x) (k' (moved_read x))) → Like R (constants_field kind file given fs >>= k) (constants_field kind file given' (map_fields m fs) >>= k')
  constants-then {R = R} e stays fs {k} k' h = bind-like (constants_field-like e stays fs) λ x y q. subst (λ z. Like R (k x) (k' z)) q.same (h x q.few q.agreed)

  pub record HeaderLike (fs : Fields) (asked : Option ℕ) (h h' : Header) : Type 0 where
    pub same : moved_header h ≡ h'
    pub said : edition_said fs ≡ some h.number
    pub few : h.K ≤ 16
    pub agreed : T (agrees asked h.K)

  pub header-like : (newest : ℕ) {given given' : Option ℕ} → given ≡ given' → ((c : List ℕ) → m 0x01 c ≡ c) → ((c : List ℕ) → m 0x02 c ≡ c) → (fs : Fields)
      → Like (HeaderLike fs given) (header kind file newest given fs) (header kind file newest given' (map_fields m fs))
  unfolding header
  header-like newest e s1 s2 fs =
      edition-then newest s1 fs _ λ x said.
      constants-then e s2 x.1 _ λ y few agreed.
      related (record { same = refl; said = said; few = few; agreed = agreed })

  pub finished-like : (fs : Fields) → Like Passed (finished kind file fs) (finished kind file (map_fields m fs))
  unfolding finished
  finished-like (ends at) = related tt
  finished-like (cut at) = alike _
  finished-like (f ▸ fs) = need-same _ _ λ _. alike _

-- ---- constraints
every-snoc : (p : ℤ → Bool) (l : List ℤ) (c : ℤ) → every p (l ++ (c ∷ [])) ≡ every p l && p c
unfolding every
every-snoc p [] c = and-true (p c)
  where
    and-true : (b : Bool) → b && true ≡ b
    and-true true = refl
    and-true false = refl
every-snoc p (x ∷ l) c = ap (λ (b : Bool). p x && b) (every-snoc p l c) ∙ assoc (p x) (every p l) (p c)
  where
    assoc : (a b c : Bool) → a && (b && c) ≡ a && b && c
    assoc true b c = refl
    assoc false b c = refl

small-like : {R : Form → Form → Type 0} → Laws R → (range : ℕ) (s t : Form) → R s t → form_small range s ≡ form_small range t
unfolding form_small flat
small-like laws range s t r =
    every-snoc (small range) s.coeffs s.d ∙ ap₂ (λ (a : Bool) (d : ℤ). a && small range d) (laws.tests (small range) r) (laws.d r) ∙ sym (every-snoc (small range) t.coeffs t.d)

module _ {R : Form → Form → Type 0} (laws : Laws R) where
  abbrev Reading : ContentsMap → Edition → ℕ → Type 0
  Reading m e n = (tag : ℕ) (k : ConstraintKind) → kind_tagged tag ≡ some k → (c : List ℕ) → length c ≡ form_width e.coefficient_width n
      → R (form_from e.coefficient_width n c) (form_from e.coefficient_width n (m tag c))

  constraints-like : (file : ℕ) (e : Edition) (n : ℕ) {m : ContentsMap} → KeepsLength m → Reading m e n → (i : ℕ) (fs : Fields)
      → Like (Each (ConstraintLike R)) (constraints file e n i fs) (constraints file e n i (map_fields m fs))
  unfolding constraints
  constraints-like file e n keeping reading i (ends at) = related nil
  constraints-like file e n keeping reading i (cut at) = alike _
  constraints-like file e n keeping reading i (f ▸ fs) =
      need-same _ _ λ _. found-same _ _ λ kind t.
      need-like _ (ap (λ (l : ℕ). eqb l (form_width e.coefficient_width n)) (sym (keeping.keeps f.tag f.contents))) λ s.
      need-same _ _ λ _.
      need-like _ (small-like laws e.range _ _ (reading f.tag kind t f.contents (eqb→eq _ _ s))) λ _.
      bind-like (constraints-like file e n keeping reading (suc i) fs) λ cs cs' h.
      related (cons (record { kind = refl; form = reading f.tag kind t f.contents (eqb→eq _ _ s) }) h)

-- ---- editions
-- What is read by the edition that it says is reordered by it.
by-edition : (bytes : List ℕ) (n : ℕ) → edition_said (fields bytes) ≡ some n → edition_of bytes ≡ edition n
unfolding edition_of
by-edition bytes n e = ap (λ (o : Option ℕ). edition (Option.get_or o 2)) e

-- ---- what is written
like-same : (r : Result (Unit {0})) → Like Passed r r
like-same (refused a) = alike a
like-same (accepted u) = related tt

module _ {K : ℕ} (π : Reordering K) where
  -- the header's fields stay
  bundle-first : (e : Edition) (c : List ℕ) → in_bundle π e 0x01 c ≡ c
  unfolding in_bundle if_right
  bundle-first e c = refl

  bundle-second : (e : Edition) (c : List ℕ) → in_bundle π e 0x02 c ≡ c
  unfolding in_bundle if_right
  bundle-second e c = refl

  proof-first : (c : List ℕ) → in_proof π 0x01 c ≡ c
  unfolding in_proof if_right
  proof-first c = refl

  proof-second : (c : List ℕ) → in_proof π 0x02 c ≡ c
  unfolding in_proof if_right
  proof-second c = refl

  pub record BundleLike (asked : Option ℕ) (a a' : Bundle) : Type 0 where
    pub number : a.K ≡ a'.K
    pub few : a.K ≤ 16
    pub agreed : T (agrees asked a.K)
    pub constraints : Each (ConstraintLike (Near π a.K)) a.constraints a'.constraints

  pub record BundlesLike (x y : Bundle × Bundle) : Type 0 where
    pub of_A : BundleLike none x.0 y.0
    pub of_B : BundleLike (some x.0.K) x.1 y.1

  pub record GivenLike (x y : ℕ × Formula) : Type 0 where
    pub number : x.0 ≡ y.0
    pub few : x.0 ≤ 16
    pub formula : FormulaLike (Near π x.0) x.1 y.1

  files-like : {x y : ℕ × Formula} → GivenLike x y → map_contents (in_formula π) (formula_file edition1 x.0 x.1) ≡ formula_file edition1 y.0 y.1
  files-like {x} {y} s = formula-near π x.0 s.few s.formula ∙ ap (λ (n : ℕ). formula_file edition1 n y.1) s.number

  at_most-equal : {x y : ℕ × Formula} → GivenLike x y → formula_at_most x.0 x.1 ≡ formula_at_most y.0 y.1
  unfolding formula_at_most
  at_most-equal {x} {y} s =
      let size : length (formula_file edition1 y.0 y.1) ≡ length (formula_file edition1 x.0 x.1) = sym (ap length (files-like s)) ∙ length-map_contents (formula-keeps π) (formula_file edition1 x.0 x.1) in
      ap (λ (n : ℕ). need (answer 1 file_lent n) (leb n edition1.formula_bytes)) (sym size)

  bundle-fields : (file : List ℕ) → map_fields (in_bundle π (edition_of file)) (fields file) ≡ fields (bundle_reordered π file)
  bundle-fields file = sym (fields-map_contents (bundle-keeps π (edition_of file)) file)

  at_most-same : {m : ContentsMap} → KeepsLength m → (limit file : ℕ) (bytes : List ℕ) → Like Passed (at_most limit file bytes) (at_most limit file (map_contents m bytes))
  unfolding at_most
  at_most-same keeping limit file bytes = test-like _ (ap (λ (n : ℕ). leb n limit) (sym (length-map_contents keeping bytes)))

  -- `newest` is the newest edition that the office reads
  module _ (newest : ℕ) where
    bundle_header-like : (file : ℕ) {given given' : Option ℕ} → given ≡ given' → (bytes : List ℕ)
        → Like (HeaderLike (bundle-keeps π (edition_of bytes)) FileKind.Bundle file (fields bytes) given) (bundle_header newest file given bytes) (bundle_header newest file given' (bundle_reordered π bytes))
    unfolding bundle_header
    bundle_header-like file {given} {given'} e bytes =
        let ed = edition_of bytes in
        let keeps = bundle-keeps π ed in
        subst (λ (fs : Fields). Like (HeaderLike keeps FileKind.Bundle file (fields bytes) given) (bundle_header newest file given bytes)
        (edition_field FileKind.Bundle file newest fs >>= λ x. at_most (edition x.0).bundle_bytes file (bundle_reordered π bytes) >> (constants_field FileKind.Bundle file given' x.1 >>= λ y. accepted (record { number = x.0; K = y.0; rest = y.1 })))) (bundle-fields bytes)
        (edition-then keeps FileKind.Bundle file newest (bundle-first ed) (fields bytes) _ λ x said.
        then_like (at_most-same keeps (edition x.0).bundle_bytes file bytes)
        (constants-then keeps FileKind.Bundle file e (bundle-second ed) x.1 _ λ y few agreed.
        related (record { same = refl; said = said; few = few; agreed = agreed })))

    bundle-like : (file : ℕ) {given given' : Option ℕ} → given ≡ given' → (bytes : List ℕ) → Like (BundleLike given) (bundle newest file given bytes) (bundle newest file given' (bundle_reordered π bytes))
    unfolding bundle
    bundle-like file {given} e bytes =
        let keeps = bundle-keeps π (edition_of bytes) in
        bind-like (bundle_header-like file e bytes) λ h h' q.
        let laws = near-laws π h.K in
        let reads : Reading laws (in_bundle π (edition_of bytes)) (edition h.number) h.K
        = subst (λ (x : Edition). Reading laws (in_bundle π x) (edition h.number) h.K) (sym (by-edition bytes h.number q.said)) (constraint-near π h.K (edition h.number) (wide h.number)) in
        subst (λ (x : Header). Like (BundleLike given)
        (constraints file (edition h.number) h.K 0 h.rest >>= λ cs. accepted (record { edition = h.number; K = h.K; constraints = cs }))
        (constraints file (edition x.number) x.K 0 x.rest >>= λ cs. accepted (record { edition = x.number; K = x.K; constraints = cs }))) q.same
        (bind-like (constraints-like laws file (edition h.number) h.K keeps reads 0 h.rest) λ cs cs' p.
        related (record { number = refl; few = q.few; agreed = q.agreed; constraints = p }))

    bundles-like : (A B : List ℕ) → Like BundlesLike (bundles newest A B) (bundles newest (bundle_reordered π A) (bundle_reordered π B))
    unfolding bundles
    bundles-like A B =
        bind-like (bundle-like file_a refl A) λ a a' p.
        bind-like (bundle-like file_b (ap some p.number) B) λ b b' q.
        related (record { of_A = p; of_B = q })

    -- ---- the proof
    check_proof-like : {a b a' b' : Bundle} → BundleLike none a a' → BundleLike (some a.K) b b' → (fs : Fields)
        → Like (FormulaLike (Near π a.K)) (check_proof newest a b fs) (check_proof newest a' b' (map_fields (in_proof π) fs))
    unfolding check_proof
    check_proof-like {a} {b} {a'} {b'} p q fs =
        let R = Near π a.K in
        let laws = near-laws π a.K in
        let keeps = proof-keeps π in
        let bs : Each (ConstraintLike R) b.constraints b'.constraints
        = subst (λ (n : ℕ). Each (ConstraintLike (Near π n)) b.constraints b'.constraints) (agrees-is a.K b.K q.agreed) q.constraints in
        bind-like (header-like keeps FileKind.Proof file_proof newest (ap some p.number) proof-first proof-second fs) λ h h' r.
        let e = edition h.number in
        let enters : Entering laws (in_proof π) e h.K
        = subst (λ (n : ℕ). Entering laws (in_proof π) e n) (sym (agrees-is a.K h.K r.agreed)) (entry-near π a.K h.number) in
        subst (λ (x : Header). Like (FormulaLike R)
        (check_branch e h.K e.branchings root 0 (lines a.constraints b.constraints) h.rest >>= λ c. finished FileKind.Proof file_proof c.after >> accepted c.formula)
        (check_branch (edition x.number) x.K (edition x.number).branchings root 0 (lines a'.constraints b'.constraints) x.rest >>= λ c. finished FileKind.Proof file_proof c.after >> accepted c.formula)) r.same
        (bind-like (check_branch-like laws (in_proof π) e h.K keeps enters e.branchings root 0 _ _ (lines-like laws p.constraints bs) h.rest) λ c c' s.
        then_like (subst (λ (x : Fields). Like Passed (finished FileKind.Proof file_proof c.after) (finished FileKind.Proof file_proof x)) s.at.after (finished-like keeps FileKind.Proof file_proof c.after))
        (related s.formula))

    pub interpolant-like : (A B proof : List ℕ) → Like GivenLike (interpolant newest A B proof) (interpolant newest (bundle_reordered π A) (bundle_reordered π B) (proof_reordered π proof))
    unfolding interpolant
    interpolant-like A B proof =
        then_like (at_most-same (bundle-keeps π (edition_of A)) _ _ A) (then_like (at_most-same (bundle-keeps π (edition_of B)) _ _ B) (then_like (at_most-same (proof-keeps π) _ _ proof)
        (bind-like (bundles-like A B) λ x y p.
        bind-like (subst (λ (fs : Fields). Like (FormulaLike (Near π x.0.K)) (check_proof newest x.0 x.1 (fields proof)) (check_proof newest y.0 y.1 fs)) (sym (fields-map_contents (proof-keeps π) proof)) (check_proof-like p.of_A p.of_B (fields proof))) λ I J q.
        let s : GivenLike (x.0.K, I) (y.0.K, J) = record { number = p.of_A.number; few = p.of_A.few; formula = q } in
        then_like (subst (λ (r : Result (Unit {0})). Like Passed (formula_at_most x.0.K I) r) (at_most-equal s) (like-same (formula_at_most x.0.K I))) (related s))))

  -- ---- what is left
  fit_same : (out bytes bytes' : List ℕ) → map_contents (in_formula π) bytes ≡ bytes' → length bytes' ≡ length bytes → (b : Bool) → fit out b bytes' ≡ reordered_written π (fit out b bytes)
  unfolding fit over reordered_written
  fit_same out bytes bytes' e size true =
      let front : take (length bytes) (bytes ++ drop (length bytes) out) ≡ bytes = take_at bytes (drop (length bytes) out) (length bytes) refl in
      let back : drop (length bytes) (bytes ++ drop (length bytes) out) ≡ drop (length bytes) out = drop_at bytes (drop (length bytes) out) (length bytes) refl in
      rw (size, front, back, e)
  fit_same out bytes bytes' e size false = rw (size, map_contents-none)

  written_same : {r r' : Result (List ℕ)} → Like (λ x y. map_contents (in_formula π) x ≡ y) r r' → (out : List ℕ) → written r' out ≡ reordered_written π (written r out)
  unfolding written reordered_written
  written_same (alike a) out = rw map_contents-none
  written_same (related {x = bytes} {y = bytes'} e) out =
      let size : length bytes' ≡ length bytes = sym (ap length e) ∙ length-map_contents (formula-keeps π) bytes in
      ap (λ (n : ℕ). fit out (leb n (length out)) bytes') size ∙ fit_same out bytes bytes' e size (leb (length bytes) (length out))

  -- Whatever the files hold, and whatever output is lent: the answer and the count stay, and the bytes written are the old ones so reordered.
  pub reordered : (newest : ℕ) (A B proof output : List ℕ)
      → check_by newest (bundle_reordered π A) (bundle_reordered π B) (proof_reordered π proof) output ≡ reordered_written π (check_by newest A B proof output)
  unfolding check_by
  reordered newest A B proof output = written_same (bind-like (interpolant-like newest A B proof) λ x y s. related (files-like s)) output
