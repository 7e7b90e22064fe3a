-- The formula of a branch without branching steps is one part, and its file is short. Assumes nothing.
use mathlib.Core.Path.{◌≡◌, sym, ◌∙◌, ap, subst}
use mathlib.Core.Bool.{Bool, true}
use mathlib.Core.List.{List, [], ◌∷◌, ◌++◌}
use Prim.Native.Nat.{ℕ, ◌≤◌}
use native.Mathlib.Omega.{arith}
use lib.Dec.{T, leb→le}
use mir.Facts.{and_yes}
use lib.IntN.{ℤ, pos, nat_abs}
use lib.ListN.{length, length-append}
use Rattle.integers.specs.Magnitude.{Within}
use Rattle.forms.specs.Edition.{edition, edition1}
use Rattle.forms.specs.Forms.{Form, ≤0, =0, All, nil, cons, Line, Constraint, Formula, literal, ◌divides◌, ◌and◌, ◌or◌, small, every}
use Rattle.calculus.specs.Rules.{Closed, derive, strengthen, round, split_eq, split_neq, number, stride, Entry, depth, Proves}
use Rattle.number_bytes.specs.Numbers.{flat, form_from, form_bytes, signed_bytes}
use Rattle.number_bytes.proofs.Signed.{length-form_bytes, length-signed_bytes, length-signeds}
use Rattle.fields.specs.Fields.{Item}
use Rattle.fields.specs.Header.{header_bytes}
use Rattle.fields.proofs.Framing.{length-field_bytes}
use Rattle.fields.proofs.Headers.{length-header_bytes}
use Rattle.bundle.specs.Bundle.{form_small}
use Rattle.bundle.specs.Layout.{Each, States, BundleFile}
use Rattle.formula.specs.Formula.{encode, formula_file, Encodable}
use Rattle.proof.proofs.Sizes.{Size, FormRanged, Stated, EntryShort, proves-encodable}

-- ---- what a bundle's constraints are (`proof/proofs/Sizes` has the same, not for others to cite)
states-size : (n K : ℕ) {i : Item} {c : Constraint} → States (edition n) K i c → Size K c.form
unfolding form_from
states-size n K {i} s = record { size = ap (λ (t : Form). length t.coeffs) (sym s.form) ∙ length-signeds (edition n).coefficient_width K i.contents }

small-within : (z : ℤ) → T (small 2147483647 z) → Within 2147483647 z
unfolding small
small-within z t = record { abs = leb→le (nat_abs z) 2147483647 t }

small-parts : (cs : List ℤ) (d : ℤ) → T (every (small 2147483647) (cs ++ (d ∷ []))) → All (Within 2147483647) cs × Within 2147483647 d
unfolding every
small-parts [] d t = (nil, small-within d (and_yes (small 2147483647 d) true t).0)
small-parts (c ∷ cs) d t =
    let b = and_yes (small 2147483647 c) (every (small 2147483647) (cs ++ (d ∷ []))) t in
    let r = small-parts cs d b.1 in
    (cons (small-within c b.0) r.0, r.1)

form-ranged : (t : Form) → T (form_small 2147483647 t) → FormRanged 2147483647 t
unfolding form_small flat
form-ranged t h = let r = small-parts t.coeffs t.d h in record { coeffs = r.0; d = r.1 }

states-in : (n K : ℕ) {is : List Item} {cs : List Constraint} → Each (States (edition n) K) is cs → All (λ c. T (form_small 2147483647 c.form)) cs → Stated K cs
states-in n K Each.nil nil = nil
states-in n K (Each.cons {y = c} s ss) (cons h hs) = cons (record { sized = states-size n K s; ranged = form-ranged c.form h }) (states-in n K ss hs)

bundle-in : {newest n K : ℕ} {file : List ℕ} {cs : List Constraint} → BundleFile newest file n K cs → Stated K cs
bundle-in {n = n} {K = K} f = states-in n K f.laid.states f.within

-- ---- one part
abbrev One : Formula → Type 0
One (literal k t) = Unit {0}
One (g divides t) = Unit {0}
One (I and J) = ⊥
One (I or J) = ⊥

flat-one : {in_b : ℕ → Bool} {ls : List Line} {I : Formula} (p : Closed edition1 in_b ls I) → depth p ≡ 0 → One I
flat-one (derive _ _ _ p) h = flat-one p h
flat-one (strengthen _ _ _ _ _ _) h = absurd (omega arith)
flat-one (round _ _ _ _ _ _) h = absurd (omega arith)
flat-one (split_eq _ _ _ _ _ _) h = absurd (omega arith)
flat-one (split_neq _ _ _ _ _ _) h = absurd (omega arith)
flat-one (number _ _ _ _) h = tt
flat-one (stride _ _ _ _ _ _ is) h = subst One (sym is.is) tt

one-length : (K : ℕ) (I : Formula) → One I → Encodable K I → K ≤ 16 → length (encode edition1 I) ≤ 75
unfolding encode
one-length K (literal ≤0 t) o e h = omega (arith, length-field_bytes 0x33 (form_bytes 4 t), length-form_bytes 4 K t e.size)
one-length K (literal =0 t) o e h = omega (arith, length-field_bytes 0x34 (form_bytes 4 t), length-form_bytes 4 K t e.size)
one-length K (g divides t) o (_, _, e) h =
    omega (arith, length-field_bytes 0x35 (signed_bytes 4 (pos g) ++ form_bytes 4 t), length-append (signed_bytes 4 (pos g)) (form_bytes 4 t), length-signed_bytes 4 (pos g), length-form_bytes 4 K t e.size)
one-length K (I and J) o e h = absurd o
one-length K (I or J) o e h = absurd o

pub flat-file : (K : ℕ) {A B : List ℕ} {newest n m : ℕ} {a b : List Constraint} {es : List Entry} {I : Formula} (p : Proves edition1 a b es I) → BundleFile newest A n K a → BundleFile newest B m K b
    → All EntryShort es → K ≤ 16 → depth p.proof ≡ 0 → length (formula_file edition1 K I) ≤ 65_536
unfolding formula_file
flat-file K {I = I} p fA fB short h flat =
    omega (arith, length-append (header_bytes 1 K) (encode edition1 I), length-header_bytes 1 K, one-length K I (flat-one p.proof flat) (proves-encodable K 1 p (bundle-in fA) (bundle-in fB) short) h)
