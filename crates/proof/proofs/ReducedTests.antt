-- Testing answers alike on a formula's file and on that of the formula with its stride parts reduced. docs/FORMAT.md, "Formula". Assumes nothing.
use mathlib.Core.Path.{◌≡◌, refl, sym, ◌∙◌, ap, ap₂}
use mathlib.Core.Logic.{◌↔◌}
use mathlib.Core.Bool.{Bool, true, false, ◌&&◌}
use mathlib.Core.List.{List, [], ◌++◌}
use Prim.Native.Nat.{ℕ, suc, max, ◌+◌, ◌≤◌}
use native.Mathlib.Omega.{arith}
use mir.Facts.{and_yes}
use lib.Dec.{T, leb, leb→le}
use lib.ListN.{length, length-append, length-map}
use lib.IntN.{ℤ, pos, negsuc, nat_abs}
use Rattle.integers.proofs.Differences.{ints}
use Rattle.integers.specs.Remainder.{remainder}
use Rattle.forms.specs.Edition.{edition1}
use Rattle.forms.specs.Forms.{Form, ≤0, =0, Assignment, Formula, literal, ◌divides◌, ◌and◌, ◌or◌, height}
use Rattle.forms.specs.Reduced.{reduced, reducing, Residue, Strides}
use Rattle.forms.proofs.Residues.{residues}
use Rattle.calculus.proofs.Reducing.{positive, reducing-alike}
use Rattle.answers.specs.Answers.{answer, file_proof, file_lent, Result, refused, accepted, ◌>>◌, need, each}
use Rattle.number_bytes.specs.Numbers.{signed_bytes, form_bytes, form_width}
use Rattle.number_bytes.specs.Ranges.{InWidth, FormInWidth}
use Rattle.number_bytes.proofs.Signed.{all-weaken, length-signed_bytes, length-form_bytes}
use Rattle.fields.specs.Fields.{fields, field_bytes}
use Rattle.fields.specs.Header.{header_bytes}
use Rattle.fields.proofs.Framing.{length-field_bytes}
use Rattle.formula.specs.Formula.{encode, formula_file, Encodable, read_formula}
use Rattle.formula.specs.Test.{judge, registers, tested, judged, Tested, test_formula}
use Rattle.formula.proofs.Judge.{judge-true}
use Rattle.formula.proofs.RoundTrip.{read-written}

-- ---- the reduced formula can be written, in as many bytes and levels
residue-in-width : {g : ℕ} → InWidth 4 (pos g) → (z : ℤ) → Residue g z → InWidth 4 z
residue-in-width w (pos n) h = record { high = omega (ints, h.high, w.high); low = omega arith }
residue-in-width w (negsuc n) h = absurd (omega (ints, h.low))

reduced-in-width : {K g : ℕ} (t : Form) → 2 ≤ g → InWidth 4 (pos g) → length t.coeffs ≡ K → FormInWidth 4 K (reduced g t)
unfolding reduced
reduced-in-width {g = g} t n w h = record {
  size = length-map t.coeffs (λ (c : ℤ). pos (remainder g c)) ∙ h;
  coeffs = all-weaken (residue-in-width w) (residues (positive n) t).of_coeffs;
  d = residue-in-width w _ (residues (positive n) t).of_d;
}

reducing-encodable : (K : ℕ) (I : Formula) → Encodable K I → Encodable K (reducing I)
unfolding reducing
reducing-encodable K (literal k t) h = h
reducing-encodable K (g divides t) h = (h.0, h.1, reduced-in-width t h.0 h.1 h.2.size)
reducing-encodable K (I and J) h = (reducing-encodable K I h.0, reducing-encodable K J h.1)
reducing-encodable K (I or J) h = (reducing-encodable K I h.0, reducing-encodable K J h.1)

encodable-strides : (K : ℕ) (I : Formula) → Encodable K I → Strides I
encodable-strides K (literal k t) h = tt
encodable-strides K (g divides t) h = h.0
encodable-strides K (I and J) h = (encodable-strides K I h.0, encodable-strides K J h.1)
encodable-strides K (I or J) h = (encodable-strides K I h.0, encodable-strides K J h.1)

reducing-height : (I : Formula) → height (reducing I) ≡ height I
unfolding reducing
reducing-height (literal k t) = refl
reducing-height (g divides t) = refl
reducing-height (I and J) = ap₂ (λ (m n : ℕ). suc (max m n)) (reducing-height I) (reducing-height J)
reducing-height (I or J) = ap₂ (λ (m n : ℕ). suc (max m n)) (reducing-height I) (reducing-height J)

stride-length : (K g : ℕ) (t : Form) → length t.coeffs ≡ K → length (field_bytes 0x35 (signed_bytes 4 (pos g) ++ form_bytes 4 t)) ≡ 7 + form_width 4 K
stride-length K g t h = omega (arith, length-field_bytes 0x35 (signed_bytes 4 (pos g) ++ form_bytes 4 t), length-append (signed_bytes 4 (pos g)) (form_bytes 4 t), length-signed_bytes 4 (pos g), length-form_bytes 4 K t h)

pair-length : (tag : ℕ) (xs ys xs' ys' : List ℕ) → length xs ≡ length xs' → length ys ≡ length ys' → length (field_bytes tag [] ++ xs ++ ys) ≡ length (field_bytes tag [] ++ xs' ++ ys')
pair-length tag xs ys xs' ys' p q =
    omega (arith, length-append (field_bytes tag [] ++ xs) ys, length-append (field_bytes tag []) xs, length-append (field_bytes tag [] ++ xs') ys', length-append (field_bytes tag []) xs')

reducing-length : (K : ℕ) (I : Formula) → Encodable K I → length (encode edition1 (reducing I)) ≡ length (encode edition1 I)
unfolding reducing encode
reducing-length K (literal ≤0 t) h = refl
reducing-length K (literal =0 t) h = refl
reducing-length K (g divides t) h = stride-length K g (reduced g t) (reduced-in-width t h.0 h.1 h.2.size).size ∙ sym (stride-length K g t h.2.size)
reducing-length K (I and J) h = pair-length 0x32 _ _ (encode edition1 I) (encode edition1 J) (reducing-length K I h.0) (reducing-length K J h.1)
reducing-length K (I or J) h = pair-length 0x31 _ _ (encode edition1 I) (encode edition1 J) (reducing-length K I h.0) (reducing-length K J h.1)

pub file-length : (K : ℕ) (I : Formula) → Encodable K I → length (formula_file edition1 K (reducing I)) ≡ length (formula_file edition1 K I)
unfolding formula_file
file-length K I h = length-append (header_bytes 1 K) _ ∙ ap (λ (n : ℕ). length (header_bytes 1 K) + n) (reducing-length K I h) ∙ sym (length-append (header_bytes 1 K) _)

-- ---- and is judged alike
same_bool : (a b : Bool) → T a ↔ T b → a ≡ b
same_bool true true e = refl
same_bool true false e = absurd (e.0 tt)
same_bool false true e = absurd (e.1 tt)
same_bool false false e = refl

judged-alike : (K : ℕ) (I : Formula) (v : Assignment) → Encodable K I → judge (reducing I) v ≡ judge I v
judged-alike K I v h =
    let e = reducing-alike I v (encodable-strides K I h) in
    same_bool (judge (reducing I) v) (judge I v) (λ t. (judge-true I v).1 (e.1 ((judge-true (reducing I) v).0 t)), λ t. (judge-true (reducing I) v).1 (e.0 ((judge-true I v).0 t)))

-- Whatever the values, right or wrong in number or range: the same answer, and the same truth.
module _ (values : List ℤ) (I : Formula) (h : Encodable (length values) I) (l : height I ≤ edition1.levels) where
  both_read : T (leb 1 (length values) && leb (length values) 16)
      → (read_formula (length values) (fields (formula_file edition1 (length values) (reducing I))) ≡ accepted (reducing I)) × (read_formula (length values) (fields (formula_file edition1 (length values) I)) ≡ accepted I)
  both_read t =
      let (low, high) = and_yes (leb 1 (length values)) (leb (length values) 16) t in (
        read-written (length values) (reducing I) (leb→le 1 (length values) low) (leb→le (length values) 16 high) (reducing-encodable (length values) I h) (omega (arith, reducing-height I)),
        read-written (length values) I (leb→le 1 (length values) low) (leb→le (length values) 16 high) h l,
      )

  -- what testing a file of so many bytes gives, where the count of values is right or not, and the file reads so
  testing : (b : Bool) (bytes : ℕ) → Result Formula → Tested
  testing b bytes r = judged values (need (answer 7 file_lent 0) b >> (each (λ i. answer 23 file_lent i) (λ z. leb (nat_abs z) edition1.values) 0 values
      >> (need (answer 1 file_proof 0) (leb bytes edition1.formula_bytes) >> r)))

  last-steps : (m : Result (Unit {0})) (n : Bool) → judged values (m >> (need (answer 1 file_proof 0) n >> accepted (reducing I))) ≡ judged values (m >> (need (answer 1 file_proof 0) n >> accepted I))
  unfolding judged need ◌>>◌
  last-steps (refused a) n = refl
  last-steps (accepted u) true = rw (judged-alike (length values) I (registers values) h)
  last-steps (accepted u) false = refl

  by_count : (b : Bool) (bytes : ℕ) (r s : Result Formula) → (T b → (r ≡ accepted (reducing I)) × (s ≡ accepted I)) → testing b bytes r ≡ testing b bytes s
  unfolding testing need ◌>>◌
  by_count false bytes r s e = refl
  by_count true bytes r s e = rw ((e tt).0, (e tt).1)
      (last-steps (each (λ i. answer 23 file_lent i) (λ z. leb (nat_abs z) edition1.values) 0 values) (leb bytes edition1.formula_bytes))

  pub tested_alike : test_formula (formula_file edition1 (length values) (reducing I)) values ≡ test_formula (formula_file edition1 (length values) I) values
  unfolding test_formula tested testing
  tested_alike = ap (λ (n : ℕ). testing (leb 1 (length values) && leb (length values) 16) n (read_formula (length values) (fields (formula_file edition1 (length values) (reducing I))))) (file-length (length values) I h)
      ∙ by_count (leb 1 (length values) && leb (length values) 16) (length (formula_file edition1 (length values) I)) _ _ both_read
