-- The numbers of a form by their places in a file, and its products, one after the other. Assumes nothing.
use mathlib.Core.Path.{◌≡◌, refl, sym, ap, ◌∙◌}
use mathlib.Core.Bool.{Bool, true, false, not, ◌&&◌}
use mathlib.Core.List.{List, [], ◌∷◌, ◌++◌}
use Prim.Native.Nat.{ℕ, zero, suc, ◌+◌, ◌*◌, ◌-◌, ◌≤◌, ◌<◌}
use native.Mathlib.Nat.{zero-mul, suc-mul}
use native.Mathlib.Omega.{arith}
use lib.IntN.{ℤ, pos, nat_abs}
use lib.ListN.{length, get_or, take, drop, drop_of_length-le}
use lib.Seq.{drop-cons, drop-drop}
use mir.Syntax.{w64}
use mir.Val.{SFits, to_z, of_z}
use mir.ValLaws.{to_z-of_z}
use Rattle.integers.specs.Linear.{eq_z}
use Rattle.forms.specs.Forms.{Form, nonzero, ◌divides◌}
use Rattle.number_bytes.specs.Numbers.{signed, signeds, form_from, form_width}
use Rattle.form_value.specs.FormAt.{form_at}
use Rattle.form_value.proofs.Value.{part_of}
use Rattle.printing.specs.Smt.{register}
use Rattle.printing.specs.Text.{ascii, decimal, term_text, prop_text}
use Rattle.printing.specs.Translation.{integer, term_of, smt}
use Rattle.printing.specs.Words.{scaled, plain, unless_none, summands_of}
use Rattle.printing_text.specs.PutsText.{PutsText}
use Rattle.printing_formula.specs.Pieces.{product_text, pieces, zeros, Skipped, FirstNonzero}
use Rattle.printing_text.proofs.PutsText.{puts_none, puts_then, puts-is}
use Rattle.printing_formula.proofs.Texts.{product-some, form-constant, form-sum, stride-text}
use Rattle.printing.proofs.ReadOverK.{signeds-long}

-- ---- numbers
signeds-at : (w n i : ℕ) (bs : List ℕ) → i < n → get_or (signeds w n bs) i (pos 0) ≡ signed (take w (drop (i * w) bs))
unfolding signeds
signeds-at w zero i bs h = absurd (omega arith)
signeds-at w (suc n) zero bs h = rw zero-mul
signeds-at w (suc n) (suc i) bs h =
    let e : w + i * w ≡ suc i * w = omega (arith, suc-mul i w) in
    signeds-at w n i (drop w bs) (omega arith) ∙ rw (drop-drop (i * w) w bs, e)

module _ (s : List ℕ) (at K : ℕ) where
  pub coeffs-long : length (form_at s at K).coeffs ≡ K
  unfolding form_at form_from
  coeffs-long = signeds-long 4 K (take (form_width 4 K) (drop at s))

  number_at : (i : ℕ) → i ≤ K → take 4 (drop (i * 4) (take (form_width 4 K) (drop at s))) ≡ take 4 (drop (at + i * 4) s)
  number_at i h = part_of 4 (i * 4) (suc K * 4) (drop at s) (omega arith) ∙ ap (take 4) (drop-drop (i * 4) at s)

  pub coefficient : (i : ℕ) → i < K → get_or (form_at s at K).coeffs i (pos 0) ≡ signed (take 4 (drop (at + i * 4) s))
  unfolding form_at form_from
  coefficient i h = signeds-at 4 K i (take (form_width 4 K) (drop at s)) h ∙ ap signed (number_at i (omega arith))

  pub constant : (form_at s at K).d ≡ signed (take 4 (drop (at + K * 4) s))
  unfolding form_at form_from
  constant = ap signed (number_at K (omega arith))

-- ---- every coefficient so far is 0
pub skip-start : (cs : List ℤ) → Skipped cs 0
skip-start cs = record { upto = omega arith; zero = refl; same = λ d. refl }

module _ {cs : List ℤ} {i : ℕ} (p : Skipped cs i) (h : i < length cs) where
  next-zero : zeros cs ≡ (not (nonzero (get_or cs i (pos 0))) && zeros (drop (suc i) cs))
  unfolding zeros
  next-zero = p.zero ∙ ap zeros (drop-cons cs i (pos 0) h)

  next-items : (d : ℤ) → summands_of 0 cs d ≡ unless_none (nonzero (get_or cs i (pos 0))) (scaled (get_or cs i (pos 0)) i) (summands_of (suc i) (drop (suc i) cs) d)
  unfolding summands_of
  next-items d = p.same d ∙ ap (λ (l : List ℤ). summands_of i l d) (drop-cons cs i (pos 0) h)

  pub skip-on : nonzero (get_or cs i (pos 0)) ≡ false → Skipped cs (i + 1)
  unfolding unless_none
  skip-on e = let f : i + 1 ≡ suc i = omega arith in record { upto = omega arith; zero = next-zero ∙ rw (e, f); same = λ d. next-items d ∙ rw (e, f) }

  pub skip-here : nonzero (get_or cs i (pos 0)) ≡ true → FirstNonzero cs i
  skip-here e = record { skipped = p; here = λ _. e }

pub skip-end : {cs : List ℤ} {i : ℕ} → Skipped cs i → length cs ≤ i → FirstNonzero cs i
skip-end p h = record { skipped = p; here = λ l. absurd (omega arith) }

module _ {cs : List ℤ} {i : ℕ} (p : FirstNonzero cs i) where
  pub none-nonzero : length cs ≤ i → zeros cs ≡ true
  unfolding zeros
  none-nonzero h = p.skipped.zero ∙ rw (drop_of_length-le cs h)

  pub some-nonzero : i < length cs → zeros cs ≡ false
  some-nonzero h = next-zero p.skipped h ∙ rw (p.here h)

  pub no_items : (d : ℤ) → length cs ≤ i → summands_of 0 cs d ≡ unless_none (nonzero d) (plain d) []
  unfolding summands_of
  no_items d h = p.skipped.same d ∙ ap (λ (l : List ℤ). summands_of i l d) (drop_of_length-le cs h)

  pub first-item : (d : ℤ) → i < length cs → summands_of 0 cs d ≡ scaled (get_or cs i (pos 0)) i ∷ summands_of (suc i) (drop (suc i) cs) d
  unfolding unless_none
  first-item d h = next-items p.skipped h d ∙ rw (p.here h)

-- ---- pieces, one after the other: what is left to put gives what the whole gives
pub record Pieces (piece : ℕ → ℤ → List ℕ) (cs : List ℤ) (from : ℕ) (out₀ : List ℕ) (o : ℕ) (out : List ℕ) (end i : ℕ) : Type 0 where
  pub on : from ≤ i
  pub upto : i ≤ length cs
  pub long : length out ≡ length out₀
  pub far : end ≤ o + 23 * (i - from)
  pub rest : (out' : List ℕ) (end' n : ℕ) → PutsText out end (pieces piece i (drop i cs)) n out' end' → PutsText out₀ o (pieces piece from (drop from cs)) (23 * (i - from) + n) out' end'

pub pieces-start : (piece : ℕ → ℤ → List ℕ) (cs : List ℤ) (from : ℕ) (out : List ℕ) (o : ℕ) → from ≤ length cs → Pieces piece cs from out o out o from
pieces-start piece cs from out o h = record { on = omega arith; upto = h; long = refl; far = omega arith; rest = λ out' end' n p. puts-is p refl (omega arith) }

module _ {piece : ℕ → ℤ → List ℕ} {cs : List ℤ} {from : ℕ} {out₀ : List ℕ} {o : ℕ} {out : List ℕ} {end i : ℕ} (p : Pieces piece cs from out₀ o out end i) where
  pub pieces-on : i < length cs → (c : ℤ) → get_or cs i (pos 0) ≡ c → {out₁ : List ℕ} {end₁ : ℕ} → PutsText out end (piece i c) 23 out₁ end₁ → Pieces piece cs from out₀ o out₁ end₁ (i + 1)
  unfolding pieces
  pieces-on h c e {out₁} {end₁} q =
      let f : i + 1 ≡ suc i = omega arith in
      let whole : piece i c ++ pieces piece (suc i) (drop (suc i) cs) ≡ pieces piece i (drop i cs) = rw (drop-cons cs i (pos 0) h, e) in
      record {
        on = omega (arith, p.on);
        upto = omega arith;
        long = q.long ∙ p.long;
        far = omega (arith, p.on, p.far, q.o_is, q.few);
        rest = λ out' end' n r.
            let left : PutsText out₁ end₁ (pieces piece (suc i) (drop (suc i) cs)) n out' end' = rw f at r in
            puts-is (p.rest out' end' (23 + n) (puts-is (puts_then q left) whole (omega arith))) refl (omega (arith, p.on));
      }

  pub pieces_end : (K : ℕ) → length cs ≡ K → K ≤ i → PutsText out₀ o (pieces piece from (drop from cs)) (23 * (K - from)) out end
  unfolding pieces
  pieces_end K l h =
      let none : pieces piece i (drop i cs) ≡ [] = rw (drop_of_length-le cs (let k : length cs ≤ i = omega arith in k)) in
      puts-is (p.rest out end 0 (puts-is (puts_none out end) (sym none) (omega arith))) refl (omega (arith, p.on, p.upto))

-- ---- a number as the machine reads it back
module _ {b : Bool} {r z : ℤ} (f : SFits w64 r) (e : r ≡ z) where
  pub read-zero : b ≡ eq_z (to_z w64 (of_z w64 r)) (pos 0) → b ≡ true → nonzero z ≡ false
  unfolding nonzero
  read-zero k h = ap not (ap (λ (x : ℤ). eq_z x (pos 0)) (sym (to_z-of_z w64 r f ∙ e)) ∙ sym k ∙ h)

  pub read-nonzero : b ≡ eq_z (to_z w64 (of_z w64 r)) (pos 0) → b ≡ false → nonzero z ≡ true
  unfolding nonzero
  read-nonzero k h = ap not (ap (λ (x : ℤ). eq_z x (pos 0)) (sym (to_z-of_z w64 r f ∙ e)) ∙ sym k ∙ h)

module _ (i : ℕ) {r z : ℤ} (f : SFits w64 r) (e : r ≡ z) (h : nonzero z ≡ true) where
  pub product-put : (((ascii " (* " ++ term_text (integer (to_z w64 (of_z w64 r)))) ++ ascii " ") ++ term_text (register i)) ++ ascii ")" ≡ product_text i z
  product-put = rw (to_z-of_z w64 r f, e) (sym (product-some i z h))

module _ (t : Form) {r : ℤ} (f : SFits w64 r) (e : r ≡ t.d) where
  pub constant-put : zeros t.coeffs ≡ true → term_text (integer (to_z w64 (of_z w64 r))) ≡ term_text (term_of t)
  constant-put h = rw (to_z-of_z w64 r f, e) (form-constant t h)

  pub sum-put : zeros t.coeffs ≡ false
      → (((ascii "(+" ++ pieces product_text 0 t.coeffs) ++ ascii " ") ++ term_text (integer (to_z w64 (of_z w64 r)))) ++ ascii ")" ≡ term_text (term_of t)
  sum-put h = rw (to_z-of_z w64 r f, e) (form-sum t h)

pub stride-put : (t : Form) {n : ℕ} {g : ℤ} → SFits w64 g → n ≡ nat_abs (to_z w64 (of_z w64 g))
    → (((ascii "(= (mod " ++ term_text (term_of t)) ++ ascii " ") ++ decimal n) ++ ascii ") 0)" ≡ prop_text (smt (nat_abs g divides t))
stride-put t {g = g} f e = rw (e, to_z-of_z w64 g f) (stride-text (nat_abs g) t)
