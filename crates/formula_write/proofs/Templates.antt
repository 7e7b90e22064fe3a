-- A stride part by its template: its bytes but for the last four do not depend on the constant term. Assumes nothing.
use mathlib.Core.Path.{◌≡◌, refl, sym, ap, subst, ◌∙◌}
use mathlib.Core.Bool.{Bool}
use mathlib.Core.List.{List, [], ◌∷◌, ◌++◌, append_assoc, append-nil}
use Prim.Native.Nat.{ℕ, ◌+◌, ◌*◌, ◌≤◌, ◌<◌}
use native.Mathlib.Omega.{arith}
use lib.IntN.{ℤ, pos}
use lib.ListN.{length, take, drop, length-append}
use lib.Seq.{sets, sets-eq, length-take-le, take_at, take-append-le}
use Rattle.integers.specs.Remainder.{remainder}
use Rattle.forms.specs.Edition.{edition1}
use Rattle.forms.specs.Forms.{Form, ◌divides◌}
use Rattle.forms.specs.Reduced.{reduced}
use Rattle.forms.specs.Flat.{form_in}
use Rattle.number_bytes.specs.Numbers.{unsigned_bytes, signed_bytes, signeds_bytes, flat, form_bytes}
use Rattle.number_bytes.proofs.Stores.{sets-append}
use Rattle.number_bytes.proofs.Signed.{length-form_bytes, length-signed_bytes, length-signeds_bytes, length-unsigned_bytes, signeds_bytes-append}
use Rattle.fields.specs.Fields.{field_bytes}
use Rattle.formula.specs.Formula.{encode}
use Rattle.formula_write.specs.Writing.{Numbered, Puts, Stores, or_bytes, front_bytes, StrideTemplate, template_size, filled}
use Rattle.formula_write.proofs.Written.{reduced-size, coeffs-long, stride-size}

-- ---- what does not depend on the constant term
-- "g divides" the form of K coefficients, as far as its constant term.
abbrev before_constant : (K g : ℕ) (coeffs : List ℤ) → List ℕ
before_constant K g coeffs = 0x35 ∷ unsigned_bytes 2 (4 * (K + 2)) ++ (signed_bytes 4 (pos g) ++ signeds_bytes 4 coeffs)

module _ {K : ℕ} (g : ℕ) (t : Form) (h : length t.coeffs ≡ K) where
  before-size : length (before_constant K g t.coeffs) ≡ template_size K
  before-size =
      let c : length (signeds_bytes 4 t.coeffs) ≡ K * 4 = length-signeds_bytes 4 t.coeffs ∙ ap (λ (n : ℕ). n * 4) h in
      omega (arith, length-append (unsigned_bytes 2 (4 * (K + 2))) (signed_bytes 4 (pos g) ++ signeds_bytes 4 t.coeffs), length-unsigned_bytes 2 (4 * (K + 2)), length-append (signed_bytes 4 (pos g)) (signeds_bytes 4 t.coeffs), length-signed_bytes 4 (pos g))

  stride-bytes : encode edition1 (g divides t) ≡ before_constant K g t.coeffs ++ signed_bytes 4 t.d
  unfolding encode field_bytes form_bytes flat signeds_bytes
  stride-bytes =
      let n : length (signed_bytes 4 (pos g) ++ form_bytes 4 t) ≡ 4 * (K + 2) = length-append (signed_bytes 4 (pos g)) (form_bytes 4 t) ∙ omega (arith, length-signed_bytes 4 (pos g), length-form_bytes 4 K t h) in
      let head : List ℕ = 0x35 ∷ unsigned_bytes 2 (4 * (K + 2)) in
      let cs = signeds_bytes 4 t.coeffs in
      let last = signed_bytes 4 t.d in
      rw (n, signeds_bytes-append, append-nil, append_assoc head (signed_bytes 4 (pos g) ++ cs) last, append_assoc (signed_bytes 4 (pos g)) cs last)

  stride-begins : take (template_size K) (encode edition1 (g divides t)) ≡ before_constant K g t.coeffs
  stride-begins = ap (take (template_size K)) stride-bytes ∙ take_at (before_constant K g t.coeffs) (signed_bytes 4 t.d) (template_size K) before-size

-- Filled in, the template of f is the stride part of the form with f's coefficients and this constant term.
filled-stride : {K g : ℕ} {f : Form} {template : List ℕ} → StrideTemplate K g f template → (d : ℤ) → filled K g d template ≡ encode edition1 (g divides reduced g (record { coeffs = f.coeffs; d = d }))
unfolding reduced
filled-stride {K} {g} {f} s d =
    let own : Form = record { coeffs = f.coeffs; d = d } in
    ap (λ (bs : List ℕ). bs ++ signed_bytes 4 (pos (remainder g d))) (s.begins ∙ stride-begins g (reduced g f) (reduced-size g f s.size))
    ∙ sym (stride-bytes g (reduced g own) (reduced-size g own s.size))

pub filled-front : {K g : ℕ} {f : Form} {template : List ℕ} → StrideTemplate K g f template → (d : ℤ) (others : Bool) {scratch : List ℕ} {o : ℕ} {scratch' : List ℕ} {o' : ℕ}
    → Stores scratch o (or_bytes others ++ field_bytes 0x32 [] ++ filled K g d template) scratch' o' → Stores scratch o (front_bytes others (g divides reduced g (record { coeffs = f.coeffs; d = d }))) scratch' o'
filled-front s d others {scratch} {o} {scratch'} {o'} h = subst (λ (bytes : List ℕ). Stores scratch o (or_bytes others ++ field_bytes 0x32 [] ++ bytes) scratch' o') (filled-stride s d) h

-- ---- the functions
-- A stride part as it was written, from the start of an array on, is a template.
pub stride-template : {K : ℕ} {buf : List ℤ} {at : ℕ} → Numbered K buf at → {g : ℕ} {out template : List ℕ} {o' : ℕ} → template_size K + 4 ≤ length out
    → Puts out 0 (g divides reduced g (form_in K buf at)) template o' → StrideTemplate K g (form_in K buf at) template
stride-template {K} {buf} {at} n {g} {out} r p =
    let bytes = encode edition1 (g divides reduced g (form_in K buf at)) in
    let is = p.stored (omega (arith, stride-size n g)) ∙ sets-eq bytes out 0 (omega (arith, stride-size n g)) in
    record {
      size = coeffs-long n;
      room = omega (arith, p.long);
      begins = ap (take (template_size K)) is ∙ take-append-le (template_size K) bytes (drop (0 + length bytes) out) (omega (arith, stride-size n g));
    }

module _ (K g : ℕ) (d : ℤ) (template : List ℕ) (r : template_size K ≤ length template) where
  filled-size : length (filled K g d template) ≡ template_size K + 4
  filled-size = omega (arith, length-append (take (template_size K) template) (signed_bytes 4 (pos (remainder g d))), length-take-le (template_size K) template r, length-signed_bytes 4 (pos (remainder g d)))

  pub filled-out : {out : List ℕ} {o o' : ℕ} → o' ≡ o + template_size K + 4 → length out < o' → Stores out o (filled K g d template) out o'
  filled-out e h = record { long = refl; o_is = omega (arith, filled-size); stored = λ l. absurd (omega (arith, filled-size)) }

  pub filled_in : {z : ℤ} {out out₁ out₂ : List ℕ} {o o' : ℕ} → o' ≡ o + template_size K + 4 → z ≡ pos (remainder g d) → out₁ ≡ sets out o (take (template_size K) (drop 0 template))
      → out₂ ≡ sets out₁ (o + template_size K) (signed_bytes 4 z) → length out₂ ≡ length out → Stores out o (filled K g d template) out₂ o'
  filled_in {out = out} {o = o} e ez w₁ w₂ l = record {
    long = l;
    o_is = omega (arith, filled-size);
    stored = λ _. w₂ ∙ rw (w₁, ez) (sym (sets-append (take (template_size K) template) (signed_bytes 4 (pos (remainder g d))) out o ∙ rw (length-take-le (template_size K) template r)));
  }
