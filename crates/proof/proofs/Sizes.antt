-- What three files certify can be written: every number fits its bytes, the levels and the length stay within limits, and the file reads back. Assumes nothing.
use mathlib.Core.Path.{◌≡◌, sym, ◌∙◌, ap, subst}
use mathlib.Core.Bool.{Bool, true, false, ◌&&◌}
use mathlib.Core.List.{List, [], ◌∷◌, ◌++◌, map}
use Prim.Native.Nat.{ℕ, ◌+◌, ◌*◌, ◌^◌, ◌<◌, ◌≤◌}
use native.Mathlib.Nat.{pow-le-pow_right}
use native.Mathlib.Omega.{arith}
use lib.Dec.{T, leb→le}
use lib.ListN.{length, take, drop, length-map, length-take}
use lib.IntN.{ℤ, pos, negsuc, nat_abs, ◌*ℤ◌, zero-*ℤ}
use Rattle.integers.proofs.Differences.{ints}
use Rattle.integers.specs.Remainder.{remainder}
use Rattle.integers.specs.Magnitude.{Within}
use Rattle.integers.proofs.Magnitude.{within-between}
use Rattle.forms.specs.Reduced.{reduced, Residue, Residues}
use Rattle.forms.proofs.Residues.{residues}
use Rattle.forms.specs.Edition.{Edition, edition, edition1}
use Rattle.forms.specs.Forms.{Form, ≤0, Constraint, Line, line, neg, line_a, line_b, lines, All, nil, cons, ◌⊞◌, ◌·◌, ◌plus◌, within, Formula, literal, ◌divides◌, ◌and◌, ◌or◌, height, small, every}
use Rattle.calculus.proofs.Reducing.{positive}
use Rattle.calculus.specs.Rules.{Row, CloseStride, Derive, Strengthen, CloseNumber, Round, Split, Entry, row, claim, in_range, New, combine, reduce, scale, StrideOf, Closed, derive, strengthen, round, split_eq, split_neq, number, stride, Rounded, last, more, claims, entries, entries_rounded, Proves}
use Rattle.calculus.proofs.Sizes.{closed-height}
use Rattle.calculus.proofs.Readings.{length-sums, length-only}
use Rattle.calculus.proofs.Sides.{all-nth, all-and, all_map, all_append}
use Rattle.answers.specs.Answers.{accepted}
use Rattle.number_bytes.specs.Numbers.{Bytes, unsigned, flat, form_from}
use Rattle.number_bytes.specs.Ranges.{InWidth, FormInWidth}
use Rattle.number_bytes.proofs.Signed.{all-weaken, all_take, all_drop, unsigned-below, length-signeds}
use Rattle.fields.specs.Fields.{Item, fields}
use Rattle.fields.proofs.Contents.{ItemBytes, contents-bytes}
use Rattle.bundle.specs.Bundle.{form_small}
use Rattle.bundle.specs.Layout.{Each, States, BundleFile}
use Rattle.formula.specs.Formula.{formula_file, Encodable, read_formula}
use Rattle.formula.proofs.RoundTrip.{read-written}
use Rattle.proof.specs.Entries.{EntryTag, combine_tag, reduce_tag, scale_tag, strengthen_tag, number_tag, stride_tag, round_tag, split_tag, claim_tag, entry_from, multiplier}
use Rattle.proof.specs.Layout.{Enters, ProofFile, Certifies}

-- ---- forms of K coefficients
pub record Size (K : ℕ) (t : Form) : Type 0 where
  pub size : length t.coeffs ≡ K

module _ {K : ℕ} where
  size-sum : {s t : Form} → Size K s → Size K t → Size K (s ⊞ t)
  unfolding ◌⊞◌
  size-sum {s} {t} h g = record { size = length-sums s.coeffs t.coeffs (h.size ∙ sym g.size) ∙ h.size }

  size-times : (α : ℤ) {t : Form} → Size K t → Size K (α · t)
  unfolding ◌·◌
  size-times α {t} h = record { size = length-map t.coeffs (λ (c : ℤ). α *ℤ c) ∙ h.size }

  size-plus : (n : ℕ) {t : Form} → Size K t → Size K (t plus n)
  unfolding ◌plus◌
  size-plus n h = record { size = h.size }

  size-within : (p : ℕ → Bool) {t : Form} → Size K t → Size K (within p t)
  unfolding within
  size-within p {t} h = record { size = length-only p t.coeffs ∙ h.size }

  size-reduced : (g : ℕ) {t : Form} → Size K t → Size K (reduced g t)
  unfolding reduced
  size-reduced g {t} h = record { size = length-map t.coeffs (λ (c : ℤ). pos (remainder g c)) ∙ h.size }

-- ---- forms of numbers within the edition's range
pub record FormRanged (range : ℕ) (t : Form) : Type 0 where
  pub coeffs : All (Within range) t.coeffs
  pub d : Within range t.d

and_both : (a b : Bool) → T (a && b) → T a × T b
and_both true b t = (tt, t)
and_both false b t = absurd t

module _ {range : ℕ} where
  small-within : (z : ℤ) → T (small range z) → Within range z
  unfolding small
  small-within z t = record { abs = leb→le (nat_abs z) range t }

  every-within : (zs : List ℤ) → T (every (small range) zs) → All (Within range) zs
  unfolding every
  every-within [] t = nil
  every-within (z ∷ zs) t = let b = and_both (small range z) (every (small range) zs) t in cons (small-within z b.0) (every-within zs b.1)

  small-parts : (cs : List ℤ) (d : ℤ) → T (every (small range) (cs ++ (d ∷ []))) → All (Within range) cs × Within range d
  unfolding every
  small-parts [] d t = (nil, small-within d (and_both (small range d) true t).0)
  small-parts (c ∷ cs) d t =
      let b = and_both (small range c) (every (small range) (cs ++ (d ∷ []))) t in
      let r = small-parts cs d b.1 in
      (cons (small-within c b.0) r.0, r.1)

  form-ranged : (t : Form) → T (form_small range t) → FormRanged range t
  unfolding form_small flat
  form-ranged t h = let r = small-parts t.coeffs t.d h in record { coeffs = r.0; d = r.1 }

  t_A-ranged : (l : Line) → T (in_range range l) → FormRanged range l.t_A
  unfolding in_range
  t_A-ranged l t =
      let last = and_both (every (small range) l.t.coeffs && small range l.t.d && every (small range) l.t_A.coeffs) (small range l.t_A.d) t in
      let third = and_both (every (small range) l.t.coeffs && small range l.t.d) (every (small range) l.t_A.coeffs) last.0 in
      record { coeffs = every-within l.t_A.coeffs third.1; d = small-within l.t_A.d last.1 }

  zero-within : (z : ℤ) → Within range (pos 0 *ℤ z)
  zero-within z = rw zero-*ℤ (record { abs = omega arith })

  zeros_within : (zs : List ℤ) → All (Within range) (map (λ (c : ℤ). pos 0 *ℤ c) zs)
  zeros_within [] = nil
  zeros_within (z ∷ zs) = cons (zero-within z) (zeros_within zs)

  zero-ranged : (t : Form) → FormRanged range (pos 0 · t)
  unfolding ◌·◌
  zero-ranged t = record { coeffs = zeros_within t.coeffs; d = zero-within t.d }

  raised-ranged : {t_A : Form} {j k : ℕ} → j ≤ k → FormRanged range t_A → FormRanged range (t_A plus k) → FormRanged range (t_A plus j)
  unfolding ◌plus◌
  raised-ranged h own top = record { coeffs = own.coeffs; d = within-between h own.d top.d }

-- ---- the partial interpolants of a branch
-- A form of K coefficients whose numbers are within the range, which is the same in every edition.
pub record Fit (K : ℕ) (t : Form) : Type 0 where
  pub sized : Size K t
  pub ranged : FormRanged 2147483647 t

record FitLine (K : ℕ) (l : Line) : Type 0 where
  fit : Fit K l.t_A

abbrev FitFormula : ℕ → Formula → Type 0
FitFormula K (literal k t) = Fit K t
FitFormula K (g divides t) = (2 ≤ g) × Size K t × Residues g t
FitFormula K (I and J) = FitFormula K I × FitFormula K J
FitFormula K (I or J) = FitFormula K I × FitFormula K J

module _ (K : ℕ) where
  initial-fit : {a b : List Constraint} → All (λ c. Fit K c.form) a → All (λ c. Fit K c.form) b → All (FitLine K) (lines a b)
  initial-fit a b = all_append
      (all_map line_a (λ c h. record { fit = h }) a)
      (all_map line_b (λ c h. record { fit = record { sized = size-times (pos 0) h.sized; ranged = zero-ranged c.form } }) b)

  new-sized : {ls : List Line} {l : Line} → All (FitLine K) ls → New ls l → Size K l.t_A
  new-sized h (combine i j α β p q _ _) = size-sum (size-times (pos α) (all-nth i h p).fit.sized) (size-times (pos β) (all-nth j h q).fit.sized)
  new-sized h (reduce i j α p q _) = size-sum (all-nth i h p).fit.sized (size-times α (all-nth j h q).fit.sized)
  new-sized h (scale i α p _) = size-times (pos α) (all-nth i h p).fit.sized

  stride-fit : {in_b : ℕ → Bool} {g : ℕ} {t_A : Form} {E : Formula} → 2 ≤ g → Size K t_A → StrideOf in_b g t_A E → FitFormula K E
  stride-fit {in_b} {g} low h is = subst (FitFormula K) (sym is.is) (low, size-reduced g (size-within in_b h), residues (positive low) _)

-- by the rows of a proof of edition n
module _ (K n : ℕ) where
  mutual
    closed-fit : {in_b : ℕ → Bool} {ls : List Line} {I : Formula} → Closed (edition n) in_b ls I → All (FitLine K) ls → FitFormula K I
    closed-fit (derive {l = l} _ new room c) h = closed-fit c (all-and h (record { fit = record { sized = new-sized K h new; ranged = t_A-ranged l room.range } }))
    closed-fit (strengthen {t = t} {t_A = t_A} i p room c1 cE c0) h =
        let own = (all-nth i h p).fit in (
          closed-fit c1 (all-and h (record { fit = record { sized = size-plus 1 own.sized; ranged = t_A-ranged (line ≤0 (t plus 1) (t_A plus 1)) room.range } })),
          (closed-fit cE (all-and h (record { fit = own })), closed-fit c0 (all-and h (record { fit = own }))),
        )
    closed-fit (round {t = t} {t_A = t_A} i g k r c cs) h =
        let own = (all-nth i h r.at).fit in
        let top = t_A-ranged (line ≤0 (t plus k) (t_A plus k)) r.room.range in
        (closed-fit c (all-and h (record { fit = record { sized = size-plus k own.sized; ranged = top } })), rounded-fit cs h r.stride own top)
    closed-fit (split_eq {t = t} {t_A = t_A} i p r1 r2 c1 c2) h = let own = (all-nth i h p).fit in (
      closed-fit c1 (all-and h (record { fit = record { sized = size-plus 1 own.sized; ranged = t_A-ranged (line ≤0 (t plus 1) (t_A plus 1)) r1.range } })),
      closed-fit c2 (all-and h (record { fit = record { sized = size-plus 1 (size-times (negsuc 0) own.sized); ranged = t_A-ranged (line ≤0 (neg t plus 1) (neg t_A plus 1)) r2.range } })),
    )
    closed-fit (split_neq {t = t} {t_A = t_A} i p r1 r2 c1 c2) h = let own = (all-nth i h p).fit in (
      closed-fit c1 (all-and h (record { fit = own })),
      closed-fit c2 (all-and h (record { fit = record { sized = size-times (negsuc 0) own.sized; ranged = t_A-ranged (line ≤0 (neg t plus 1) (neg t_A)) r2.range } })),
    )
    closed-fit (number i p _ _) h = (all-nth i h p).fit
    closed-fit (stride i g p low _ _ is) h = stride-fit K low (all-nth i h p).fit.sized is

    rounded-fit : {in_b : ℕ → Bool} {ls : List Line} {t t_A : Form} {g k j : ℕ} {J : Formula} → Rounded (edition n) in_b ls t t_A g k j J
        → All (FitLine K) ls → 2 ≤ g → Fit K t_A → FormRanged 2147483647 (t_A plus k) → FitFormula K J
    rounded-fit (last {j = j} b is c) h low own top =
        (stride-fit K low (size-plus j own.sized) is, closed-fit c (all-and h (record { fit = record { sized = size-plus j own.sized; ranged = raised-ranged (omega arith) own.ranged top } })))
    rounded-fit (more {j = j} b is c cs) h low own top = (
      (stride-fit K low (size-plus j own.sized) is, closed-fit c (all-and h (record { fit = record { sized = size-plus j own.sized; ranged = raised-ranged (omega arith) own.ranged top } }))),
      rounded-fit cs h low own top,
    )

-- ---- the strides
-- The rows of a close by stride and of a rounding give g two bytes.
abbrev pub RowShort : Row → Type 0
RowShort (Derive s) = Unit {0}
RowShort (Strengthen t) = Unit {0}
RowShort (CloseNumber t) = Unit {0}
RowShort (CloseStride t g) = g < 65536
RowShort (Round t g k) = g < 65536
RowShort (Split t) = Unit {0}

abbrev pub EntryShort : Entry → Type 0
EntryShort (row r) = RowShort r
EntryShort (claim t t_A) = Unit {0}

abbrev ShortFormula : Formula → Type 0
ShortFormula (literal k t) = Unit {0}
ShortFormula (g divides t) = g < 65536
ShortFormula (I and J) = ShortFormula I × ShortFormula J
ShortFormula (I or J) = ShortFormula I × ShortFormula J

all_head : {P : Entry → Type 0} {x : Entry} {xs : List Entry} → All P (x ∷ xs) → P x
all_head (cons h hs) = h

all_tail : {P : Entry → Type 0} {x : Entry} {xs : List Entry} → All P (x ∷ xs) → All P xs
all_tail (cons h hs) = hs

unclaimed : (claimed : Bool) (l : Line) (es : List Entry) → All EntryShort (claims claimed l es) → All EntryShort es
unclaimed true l es h = all_tail h
unclaimed false l es h = h

stride-short : {in_b : ℕ → Bool} {g : ℕ} {t_A : Form} {E : Formula} → g < 65536 → StrideOf in_b g t_A E → ShortFormula E
stride-short s is = subst ShortFormula (sym is.is) s

mutual
  closed-short : {e : Edition} {in_b : ℕ → Bool} {ls : List Line} {I : Formula} (p : Closed e in_b ls I) (es : List Entry) → All EntryShort (entries p es) → ShortFormula I × All EntryShort es
  closed-short (derive {l = l} claimed n _ p) es h = closed-short p es (unclaimed claimed l (entries p es) (all_tail h))
  closed-short (strengthen i _ _ p1 pE p0) es h =
      let first = closed-short p1 (entries pE (entries p0 es)) (all_tail h) in
      let second = closed-short pE (entries p0 es) first.1 in
      let third = closed-short p0 es second.1 in
      ((first.0, (second.0, third.0)), third.1)
  closed-short (round i g k _ p ps) es h =
      let first = closed-short p (entries_rounded ps es) (all_tail h) in
      let others = rounded-short ps es (all_head h) first.1 in
      ((first.0, others.0), others.1)
  closed-short (split_eq i _ _ _ p q) es h =
      let first = closed-short p (entries q es) (all_tail h) in
      let second = closed-short q es first.1 in
      ((first.0, second.0), second.1)
  closed-short (split_neq i _ _ _ p q) es h =
      let first = closed-short p (entries q es) (all_tail h) in
      let second = closed-short q es first.1 in
      ((first.0, second.0), second.1)
  closed-short (number i _ _ _) es h = (tt, all_tail h)
  closed-short (stride i g _ _ _ _ is) es h = (stride-short (all_head h) is, all_tail h)

  rounded-short : {e : Edition} {in_b : ℕ → Bool} {ls : List Line} {t t_A : Form} {g k j : ℕ} {J : Formula} (p : Rounded e in_b ls t t_A g k j J) (es : List Entry)
      → g < 65536 → All EntryShort (entries_rounded p es) → ShortFormula J × All EntryShort es
  rounded-short (last _ is p) es s h = let own = closed-short p es h in ((stride-short s is, own.0), own.1)
  rounded-short (more _ is p ps) es s h =
      let own = closed-short p (entries_rounded ps es) h in
      let others = rounded-short ps es s own.1 in
      (((stride-short s is, own.0), others.0), others.1)

-- ---- what fits can be written
-- The range is that of four bytes, but for -2,147,483,648.
in_four : (z : ℤ) → Within 2147483647 z → InWidth 4 z
in_four (pos n) h = record { high = omega arith; low = omega arith }
in_four (negsuc n) h = record { high = omega arith; low = omega arith }

fit-in-four : {K : ℕ} {t : Form} → Fit K t → FormInWidth 4 K t
fit-in-four {t = t} h = record { size = h.sized.size; coeffs = all-weaken in_four h.ranged.coeffs; d = in_four t.d h.ranged.d }

-- a remainder is below g, and g has two bytes
residue-in-four : {g : ℕ} → g < 65536 → (z : ℤ) → Residue g z → InWidth 4 z
residue-in-four s (pos n) h = record { high = omega (ints, h.high); low = omega arith }
residue-in-four s (negsuc n) h = absurd (omega (ints, h.low))

residues-in-four : {K g : ℕ} {t : Form} → Size K t → g < 65536 → Residues g t → FormInWidth 4 K t
residues-in-four {t = t} k s h = record { size = k.size; coeffs = all-weaken (residue-in-four s) h.of_coeffs; d = residue-in-four s t.d h.of_d }

encodable : (K : ℕ) (I : Formula) → FitFormula K I → ShortFormula I → Encodable K I
encodable K (literal k t) h s = fit-in-four h
encodable K (g divides t) h s = (h.0, in_four (pos g) (record { abs = omega arith }), residues-in-four h.1 s h.2)
encodable K (I and J) h s = (encodable K I h.0 s.0, encodable K J h.1 s.1)
encodable K (I or J) h s = (encodable K I h.0 s.0, encodable K J h.1 s.1)

-- ---- a closed proof
-- Every form has K coefficients, and every number is within the range.
abbrev pub Stated : ℕ → List Constraint → Type 0
Stated K cs = All (λ c. Fit K c.form) cs

pub proves-height : (n : ℕ) {a b : List Constraint} {es : List Entry} {I : Formula} → Proves (edition n) a b es I → height I ≤ 600
proves-height n p = omega (arith, closed-height p.proof (omega arith), p.opened)

module _ (K n : ℕ) {a b : List Constraint} {es : List Entry} {I : Formula} (p : Proves (edition n) a b es I) (in_a : Stated K a) (in_b : Stated K b) (short : All EntryShort es) where
  pub proves-encodable : Encodable K I
  proves-encodable = encodable K I (closed-fit K n p.proof (initial-fit K in_a in_b)) (closed-short p.proof [] (rw p.are short)).0

-- ---- from the files
-- A constraint's form has K coefficients, whatever bytes they are read from.
states-size : (n K : ℕ) {i : Item} {c : Constraint} → States (edition n) K i c → Size K c.form
unfolding form_from
states-size n K {i} s = record { size = ap (λ (t : Form). length t.coeffs) (sym s.form) ∙ length-signeds (edition n).coefficient_width K i.contents }

states-in : (n K : ℕ) {is : List Item} {cs : List Constraint} → Each (States (edition n) K) is cs → All (λ c. T (form_small 2147483647 c.form)) cs → Stated K cs
states-in n K Each.nil nil = nil
states-in n K (Each.cons {y = c} s ss) (cons h hs) = cons (record { sized = states-size n K s; ranged = form-ranged c.form h }) (states-in n K ss hs)

pub bundle-in : {newest n K : ℕ} {file : List ℕ} {cs : List Constraint} → BundleFile newest file n K cs → Stated K cs
bundle-in {n = n} {K = K} f = states-in n K f.laid.states f.within

-- g is read from two bytes, behind a line number.
short-unsigned : (at : ℕ) (bs : List ℕ) → Bytes bs → unsigned (take 2 (drop at bs)) < 65536
short-unsigned at bs h =
    let own = take 2 (drop at bs) in
    let few : length own ≤ 2 = rw length-take (omega arith) in
    let most : 256 ^ length own ≤ 256 ^ 2 = pow-le-pow_right (omega arith) few in
    omega (arith, unsigned-below own (all_take 2 (all_drop at h)))

two_bytes : (n : ℕ) (bs : List ℕ) → Bytes bs → unsigned (multiplier (edition n) 1 0 bs) < 65536
unfolding multiplier
two_bytes n bs h = short-unsigned (1 * (edition n).line_width + 0 * 2) bs h

entry-short : (n K : ℕ) (tagged : EntryTag) (bs : List ℕ) → Bytes bs → EntryShort (entry_from (edition n) K tagged bs)
unfolding entry_from
entry-short n K combine_tag bs h = tt
entry-short n K reduce_tag bs h = tt
entry-short n K scale_tag bs h = tt
entry-short n K strengthen_tag bs h = tt
entry-short n K number_tag bs h = tt
entry-short n K stride_tag bs h = two_bytes n bs h
entry-short n K round_tag bs h = two_bytes n bs h
entry-short n K split_tag bs h = tt
entry-short n K claim_tag bs h = tt

enters-short : (n K : ℕ) {is : List Item} {es : List Entry} → All ItemBytes is → Each (Enters (edition n) K) is es → All EntryShort es
enters-short n K h Each.nil = nil
enters-short n K (cons {x = i} h hs) (Each.cons s ss) = cons (subst EntryShort s.entry (entry-short n K s.tagged i.contents h.bytes)) (enters-short n K hs ss)

pub proof_short : {newest n K : ℕ} {file : List ℕ} {es : List Entry} → Bytes file → ProofFile newest file n K es → All EntryShort es
proof_short {n = n} {K = K} {file = file} h f = enters-short n K (all_drop 2 (contents-bytes file h f.whole)) f.enters

-- What three files certify is written as a file that reads back, and is not too long. (Only the proof need be of bytes: a bundle's numbers are tested.)
pub written-reads-back : {newest : ℕ} (A B P : List ℕ) {K : ℕ} {I : Formula} → All (λ x. x < 256) P → Certifies newest A B P K I
    → (read_formula K (fields (formula_file edition1 K I)) ≡ accepted I) × (length (formula_file edition1 K I) ≤ edition1.formula_bytes)
written-reads-back A B P {K} {I} hP c =
    let in_a = bundle-in c.yields.file_a in
    let in_b = bundle-in c.yields.file_b in
    let short = proof_short hP c.yields.file_proof in
    let n = c.yields.edition_proof in
    let low = c.yields.file_proof.low in
    let high = c.yields.file_proof.high in (
      read-written K I low high (proves-encodable K n c.yields.proves in_a in_b short) (proves-height n c.yields.proves),
      c.short,
    )
