-- Writing the bytes of a formula: one turn of the loop, and each way through the functions. Assumes nothing.
use mathlib.Core.Path.{◌≡◌, refl, sym, ap, ◌∙◌}
use mathlib.Core.List.{List, [], ◌∷◌, ◌++◌, map}
use Prim.Native.Nat.{ℕ, suc, ◌+◌, ◌*◌, ◌≤◌, ◌<◌}
use native.Mathlib.Omega.{arith}
use lib.IntN.{ℤ, pos, negsuc, nat_abs}
use lib.ListN.{length, get_or, drop, drop_of_length-le, length-drop, length-append, length-map}
use lib.Seq.{sets, length-sets, drop-cons, length-take-le, get_or-take, get_or-drop}
use lib.Signed.{mag, ◌≤ℤ◌}
use Rattle.std.proofs.lemmas.List.{get_or-map, map-id, map-append}
use Rattle.integers.specs.Magnitude.{Within}
use Rattle.integers.proofs.Differences.{ints}
use Rattle.integers.specs.Remainder.{remainder}
use Rattle.integers.proofs.Remainders.{remainder-below}
use Rattle.forms.specs.Edition.{edition1}
use Rattle.forms.specs.Forms.{Kind, ≤0, =0, Form, literal, ◌divides◌}
use Rattle.forms.specs.Reduced.{reduced}
use Rattle.forms.specs.Flat.{kind_of, form_in}
use Rattle.forms.proofs.Flat.{kind-zero, kind-one, part-form}
use Rattle.number_bytes.specs.Numbers.{unsigned_bytes, signed_bytes, signeds_bytes, flat, form_bytes}
use Rattle.number_bytes.specs.Ranges.{Held}
use Rattle.number_bytes.proofs.Stores.{sets-append}
use Rattle.number_bytes.proofs.Signed.{length-form_bytes, length-signed_bytes}
use Rattle.fields.specs.Fields.{field_bytes}
use Rattle.fields.proofs.Stores.{put-field}
use Rattle.fields.proofs.Framing.{length-field_bytes as field-size}
use Rattle.formula.specs.Formula.{encode}
use Rattle.formula_write.specs.Writing.{Numbered, Divisor, Heads, Puts}

-- ---- numbers
mag-abs : (z : ℤ) → mag z ≤ nat_abs z
mag-abs (pos n) = omega arith
mag-abs (negsuc n) = omega arith

pub held : {z : ℤ} → Within 2147483647 z → Held 4 z
held {z} h = record { held = record { half = omega (arith, mag-abs z, h.abs) } }

pub positive : (g : ℤ) → pos 2 ≤ℤ g → g ≡ pos (nat_abs g)
positive (pos n) h = refl
positive (negsuc n) h = absurd (omega (ints, h))

magnitude : (g : ℤ) → pos 2 ≤ℤ g → (2 ≤ nat_abs g) × (nat_abs g ≡ mag g)
magnitude (pos n) h = (omega (ints, h), refl)
magnitude (negsuc n) h = absurd (omega (ints, h))

-- A remainder is below g, and g has four bytes.
pub held-remainder : {g : ℤ} → Divisor g → (z : ℤ) → Held 4 (pos (remainder (nat_abs g) z))
held-remainder {g} s z =
    let two : 2 ≤ nat_abs g = (magnitude g s.low).0 in
    record { held = record { half = omega (arith, remainder-below {g = nat_abs g} (omega (arith, two)) z, (magnitude g s.low).1, s.held.held.half) } }

pub reduced-size : {K : ℕ} (g : ℕ) (f : Form) → length f.coeffs ≡ K → length (reduced g f).coeffs ≡ K
unfolding reduced
reduced-size g f h = length-map f.coeffs (λ (c : ℤ). pos (remainder g c)) ∙ h

module _ {K : ℕ} {buf : List ℤ} {at : ℕ} (n : Numbered K buf at) where
  pub coeffs-long : length (form_in K buf at).coeffs ≡ K
  coeffs-long = length-take-le K (drop at buf) (simp length-drop (omega (arith, n.room)))

  pub reduced-long : (g : ℕ) → length (reduced g (form_in K buf at)).coeffs ≡ K
  reduced-long g = reduced-size g (form_in K buf at) coeffs-long

  pub form-long : length (flat (form_in K buf at)) ≡ K + 1
  unfolding flat
  form-long = length-append (form_in K buf at).coeffs ((form_in K buf at).d ∷ []) ∙ rw coeffs-long

  pub form-number : (x : ℕ) → x ≤ K → get_or (flat (form_in K buf at)) x (pos 0) ≡ get_or buf (at + x) (pos 0)
  unfolding flat
  form-number x h = ap (λ (l : List ℤ). get_or l x (pos 0)) (sym (part-form at K buf n.room)) ∙ get_or-take (K + 1) (drop at buf) x (pos 0) (omega arith) ∙ get_or-drop at buf x (pos 0)

  pub written-long : (f : ℤ → ℤ) → length (map f (flat (form_in K buf at))) ≡ K + 1
  written-long f = length-map (flat (form_in K buf at)) f ∙ form-long

  pub written-number : (f : ℤ → ℤ) (x : ℕ) → x ≤ K → get_or (map f (flat (form_in K buf at))) x (pos 0) ≡ f (get_or buf (at + x) (pos 0))
  written-number f x h = get_or-map f (flat (form_in K buf at)) x (pos 0) (pos 0) (omega (arith, form-long)) ∙ ap f (form-number x h)

-- each number written as it is, and as its remainder
pub flat-same : (t : Form) → signeds_bytes 4 (map (λ (z : ℤ). z) (flat t)) ≡ form_bytes 4 t
unfolding form_bytes
flat-same t = ap (signeds_bytes 4) (map-id (flat t))

pub flat-reduced : (g : ℕ) (t : Form) → signeds_bytes 4 (map (λ (z : ℤ). pos (remainder g z)) (flat t)) ≡ form_bytes 4 (reduced g t)
unfolding form_bytes flat reduced
flat-reduced g t = ap (signeds_bytes 4) (map-append (λ (z : ℤ). pos (remainder g z)) t.coeffs (t.d ∷ []))

-- ---- the loop
-- What is left to write gives what the whole gives.
pub record Putting (zs : List ℤ) (out₀ : List ℕ) (o : ℕ) (out : List ℕ) (x : ℕ) : Type 0 where
  pub is : sets out (o + 4 * x) (signeds_bytes 4 (drop x zs)) ≡ sets out₀ o (signeds_bytes 4 zs)
  pub long : length out ≡ length out₀
  pub upto : x ≤ length zs

pub putting-start : (zs : List ℤ) (out : List ℕ) (o : ℕ) → Putting zs out o out 0
putting-start zs out o = let z : o + 4 * 0 ≡ o = omega arith in record { is = rw z; long = refl; upto = omega arith }

put_next : (zs : List ℤ) (out : List ℕ) (o x : ℕ) → x < length zs
    → sets (sets out (o + 4 * x) (signed_bytes 4 (get_or zs x (pos 0)))) (o + 4 * (x + 1)) (signeds_bytes 4 (drop (x + 1) zs)) ≡ sets out (o + 4 * x) (signeds_bytes 4 (drop x zs))
unfolding signeds_bytes
put_next zs out o x h =
    let z = get_or zs x (pos 0) in
    let rest = signeds_bytes 4 (drop (suc x) zs) in
    let f : x + 1 ≡ suc x = omega arith in
    let a : o + 4 * suc x ≡ o + 4 * x + 4 = omega arith in
    rw (f, a, drop-cons zs x (pos 0) h)
    (sym (sets-append (signed_bytes 4 z) rest out (o + 4 * x) ∙ rw (length-signed_bytes 4 z)))

module _ {zs : List ℤ} {out₀ : List ℕ} {o : ℕ} {out : List ℕ} {x : ℕ} (v : Putting zs out₀ o out x) where
  pub putting-on : {out' : List ℕ} {z : ℤ} → x < length zs → z ≡ get_or zs x (pos 0) → out' ≡ sets out (o + 4 * x) (signed_bytes 4 z) → Putting zs out₀ o out' (x + 1)
  putting-on {z = z} h e w = record {
    is = rw (w, e) (put_next zs out o x h ∙ v.is);
    long = ap length w ∙ length-sets out (o + 4 * x) (signed_bytes 4 z) ∙ v.long;
    upto = omega arith;
  }

  pub putting-end : length zs ≤ x → out ≡ sets out₀ o (signeds_bytes 4 zs)
  unfolding signeds_bytes
  putting-end h = rw (drop_of_length-le zs h) at v.is

-- ---- the fields
length-literal : (k : Kind) (t : Form) → length (encode edition1 (literal k t)) ≡ 3 + length (form_bytes 4 t)
unfolding encode
length-literal ≤0 t = field-size 0x33 (form_bytes 4 t)
length-literal =0 t = field-size 0x34 (form_bytes 4 t)

length-stride : (g : ℕ) (t : Form) → length (encode edition1 (g divides t)) ≡ 7 + length (form_bytes 4 t)
unfolding encode
length-stride g t = field-size 0x35 (signed_bytes 4 (pos g) ++ form_bytes 4 t) ∙ omega (arith, length-append (signed_bytes 4 (pos g)) (form_bytes 4 t), length-signed_bytes 4 (pos g))

module _ {K : ℕ} {buf : List ℤ} {at : ℕ} (n : Numbered K buf at) where
  pub literal-size : (k : Kind) → length (encode edition1 (literal k (form_in K buf at))) ≡ 3 + 4 * (K + 1)
  literal-size k = length-literal k (form_in K buf at) ∙ omega (arith, length-form_bytes 4 K (form_in K buf at) (coeffs-long n))

  pub literal-out : (b : ℕ) {out : List ℕ} {o o' : ℕ} → o' ≡ o + 3 + 4 * (K + 1) → length out < o' → Puts out o (literal (kind_of b) (form_in K buf at)) out o'
  literal-out b e h = record {
    long = refl;
    o_is = omega (arith, literal-size (kind_of b));
    stored = λ l. absurd (omega (arith, literal-size (kind_of b)));
  }

  pub literal-≤ : {b : ℕ} {o o' : ℕ} {out out₁ out₂ : List ℕ} → b ≡ 0 → o' ≡ o + 3 + 4 * (K + 1) → out₁ ≡ sets out o (0x33 ∷ unsigned_bytes 2 (4 * (K + 1)))
      → out₂ ≡ sets out₁ (o + 3) (form_bytes 4 (form_in K buf at)) → length out₂ ≡ length out → Puts out o (literal (kind_of b) (form_in K buf at)) out₂ o'
  unfolding encode
  literal-≤ {b} {o = o} {out = out} h e w₁ w₂ l = record {
    long = l;
    o_is = omega (arith, literal-size (kind_of b));
    stored = λ _. rw (kind-zero h) (put-field out o 0x33 (4 * (K + 1)) (form_bytes 4 (form_in K buf at)) w₁ w₂ (omega (arith, length-form_bytes 4 K (form_in K buf at) (coeffs-long n))));
  }

  pub literal-= : {b : ℕ} {o o' : ℕ} {out out₁ out₂ : List ℕ} → (b ≡ 0 → ⊥) → o' ≡ o + 3 + 4 * (K + 1) → out₁ ≡ sets out o (0x34 ∷ unsigned_bytes 2 (4 * (K + 1)))
      → out₂ ≡ sets out₁ (o + 3) (form_bytes 4 (form_in K buf at)) → length out₂ ≡ length out → Puts out o (literal (kind_of b) (form_in K buf at)) out₂ o'
  unfolding encode
  literal-= {b} {o = o} {out = out} h e w₁ w₂ l = record {
    long = l;
    o_is = omega (arith, literal-size (kind_of b));
    stored = λ _. rw (kind-one h) (put-field out o 0x34 (4 * (K + 1)) (form_bytes 4 (form_in K buf at)) w₁ w₂ (omega (arith, length-form_bytes 4 K (form_in K buf at) (coeffs-long n))));
  }

  module _ (g : ℕ) where
    pub stride-size : length (encode edition1 (g divides reduced g (form_in K buf at))) ≡ 7 + 4 * (K + 1)
    stride-size = length-stride g (reduced g (form_in K buf at)) ∙ omega (arith, length-form_bytes 4 K (reduced g (form_in K buf at)) (reduced-long n g))

    pub stride-out : {out : List ℕ} {o o' : ℕ} → o' ≡ o + 3 + 4 * (K + 2) → length out < o' → Puts out o (g divides reduced g (form_in K buf at)) out o'
    stride-out e h = record {
      long = refl;
      o_is = omega (arith, stride-size);
      stored = λ l. absurd (omega (arith, stride-size));
    }

    pub stride-in : {z : ℤ} {o o' : ℕ} {out out₁ out₂ out₃ : List ℕ} → z ≡ pos g → o' ≡ o + 3 + 4 * (K + 2) → out₁ ≡ sets out o (0x35 ∷ unsigned_bytes 2 (4 * (K + 2)))
        → out₂ ≡ sets out₁ (o + 3) (signed_bytes 4 z) → out₃ ≡ sets out₂ (o + 7) (form_bytes 4 (reduced g (form_in K buf at))) → length out₃ ≡ length out
        → Puts out o (g divides reduced g (form_in K buf at)) out₃ o'
    unfolding encode
    stride-in {z} {o = o} {out = out} {out₁ = out₁} ez e w₁ w₂ w₃ l =
        let f = form_bytes 4 (reduced g (form_in K buf at)) in
        let s : o + 7 ≡ o + 3 + 4 = omega arith in
        let both : sets (sets out₁ (o + 3) (signed_bytes 4 (pos g))) (o + 7) f ≡ sets out₁ (o + 3) (signed_bytes 4 (pos g) ++ f)
        = sym (sets-append (signed_bytes 4 (pos g)) f out₁ (o + 3) ∙ rw (length-signed_bytes 4 (pos g), s)) in
        let size : length (signed_bytes 4 (pos g) ++ f) ≡ 4 * (K + 2)
        = length-append (signed_bytes 4 (pos g)) f ∙ omega (arith, length-signed_bytes 4 (pos g), length-form_bytes 4 K (reduced g (form_in K buf at)) (reduced-long n g)) in
        record {
          long = l;
          o_is = omega (arith, stride-size);
          stored = λ _. put-field out o 0x35 (4 * (K + 2)) (signed_bytes 4 (pos g) ++ f) w₁ (w₃ ∙ rw (w₂, ez) both) size;
        }

-- ---- and, or
pub pair-out : {out : List ℕ} {o o' : ℕ} (tag : ℕ) → o' ≡ o + 3 → length out < o' → Heads out o tag out o'
pair-out tag e h = record { long = refl; o_is = e; stored = λ l. absurd (omega arith) }

pub pair-in : {out out' : List ℕ} {o o' : ℕ} (tag : ℕ) → o' ≡ o + 3 → out' ≡ sets out o (tag ∷ unsigned_bytes 2 0) → length out' ≡ length out → Heads out o tag out' o'
unfolding field_bytes unsigned_bytes
pair-in tag e w l = record { long = l; o_is = e; stored = λ _. w }
