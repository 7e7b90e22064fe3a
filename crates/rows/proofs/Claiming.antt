-- The numbers of a claim against those of a line: one after the other, and form by form. Assumes nothing.
use mathlib.Core.Path.{◌≡◌, sym, ap, ap₂, ◌∙◌}
use mathlib.Core.Bool.{Bool, true, false, ◌&&◌, and_assoc, and-true}
use mathlib.Core.List.{List, [], ◌∷◌, ◌++◌}
use Prim.Native.Nat.{ℕ, suc, ◌+◌, ◌-◌, ◌*◌, ◌^◌, ◌≤◌, ◌<◌}
use native.Mathlib.Nat.{add-zero}
use native.Mathlib.Numerals.{add-one}
use native.Mathlib.Omega.{arith}
use lib.ListN.{length, get_or, take, drop, length-drop}
use lib.Seq.{drop-cons, drop-drop, length-take-le}
use lib.IntN.{ℤ, pos}
use lib.Signed.{mag}
use mir.Syntax.{w64}
use mir.Val.{to_z, of_z, hbits}
use mir.ValLaws.{to_z-of_z}
use Rattle.integers.specs.Linear.{eq_z}
use Rattle.forms.specs.Flat.{form_in}
use Rattle.forms.proofs.Flat.{part-form}
use Rattle.number_bytes.specs.Numbers.{signed, signeds, form_from, form_width}
use Rattle.number_bytes.proofs.Signed.{length-signeds, signeds-last}
use Rattle.proof.specs.Rows.{equals, same_form, states}
use Rattle.lines.specs.Parts.{part}
use Rattle.lines.specs.Buffer.{size, line_in}
use Rattle.rows.specs.Claims.{Claimed}

-- ---- number by number
module _ (bs : List ℕ) (buf : List ℤ) (at : ℕ) where
  abbrev pub rest : (x m : ℕ) → Bool
  rest x m = equals (signeds 4 m (drop (4 * x) bs)) (part (at + x) m buf)

  rest-next : (x m : ℕ) → at + x < length buf
      → rest x (suc m) ≡ eq_z (signed (take 4 (drop (4 * x) bs))) (get_or buf (at + x) (pos 0)) && rest (x + 1) m
  unfolding equals signeds
  rest-next x m h =
      let e : 4 * x + 4 ≡ 4 * (x + 1) = omega arith in
      let f : suc (at + x) ≡ at + (x + 1) = omega arith in
      rw (drop-cons buf (at + x) (pos 0) h, drop-drop 4 (4 * x) bs, e, f)

  whole : (m : ℕ) → rest 0 m ≡ equals (signeds 4 m bs) (part at m buf)
  whole m = rw add-zero

  -- What is left gives the same result.
  pub record Going (k x : ℕ) : Type 0 where
    pub same : rest 0 (k + 1) ≡ rest x (k + 1 - x)
    pub upto : x ≤ k + 1

  module _ {k x : ℕ} (g : Going k x) (more : x < k + 1) (room : at + k < length buf) {b : Bool} {n m : ℤ} (is : n ≡ signed (take 4 (drop (4 * x) bs))) (is_b : m ≡ get_or buf (at + x) (pos 0))
      (fn : mag n < 2 ^ hbits w64) (fm : mag m < 2 ^ hbits w64) (bits : b ≡ eq_z (to_z w64 (of_z w64 n)) (to_z w64 (of_z w64 m))) where
    -- the machine has the bits of both, and they fit
    test : b ≡ eq_z n (get_or buf (at + x) (pos 0))
    test = bits ∙ ap₂ eq_z (to_z-of_z w64 n (record { sfits = fn })) (to_z-of_z w64 m (record { sfits = fm }) ∙ is_b)

    left : k + 1 - x ≡ suc (k + 1 - (x + 1))
    left = omega arith

    next : rest 0 (k + 1) ≡ b && rest (x + 1) (k + 1 - (x + 1))
    next = g.same ∙ ap (rest x) left ∙ rest-next x (k + 1 - (x + 1)) (omega arith) ∙ rw (← is, ← test)

    pub claim-on : b ≡ true → Going k (x + 1)
    claim-on h = record { same = next ∙ rw h; upto = omega arith }

    pub claim-off : b ≡ false → false ≡ equals (signeds 4 (k + 1) bs) (part at (k + 1) buf)
    claim-off h =
        let q : rest 0 (k + 1) ≡ false = next ∙ rw h in
        sym q ∙ whole (k + 1)

  pub claim-start : (k : ℕ) → Going k 0
  claim-start k = let e : k + 1 - 0 ≡ k + 1 = omega arith in record { same = rw e; upto = omega arith }

  pub claim-end : {k x : ℕ} → Going k x → k + 1 ≤ x → true ≡ equals (signeds 4 (k + 1) bs) (part at (k + 1) buf)
  unfolding equals signeds
  claim-end {k} {x} g h =
      let z : k + 1 - x ≡ 0 = omega arith in
      sym (g.same ∙ ap (rest x) z) ∙ whole (k + 1)

-- ---- form by form
equals-snoc : (l m : List ℤ) (x y : ℤ) → length l ≡ length m → equals (l ++ (x ∷ [])) (m ++ (y ∷ [])) ≡ equals l m && eq_z x y
unfolding equals
equals-snoc [] [] x y h = and-true (eq_z x y)
equals-snoc [] (b ∷ m) x y h = absurd (omega arith)
equals-snoc (a ∷ l) [] x y h = absurd (omega arith)
equals-snoc (a ∷ l) (b ∷ m) x y h = ap (λ (c : Bool). eq_z a b && c) (equals-snoc l m x y (omega arith)) ∙ sym (and_assoc (eq_z a b) (equals l m) (eq_z x y))

module _ (K : ℕ) (bs : List ℕ) (buf : List ℤ) (at : ℕ) (room : at + K < length buf) where
  form-same-as : equals (signeds 4 (K + 1) bs) (part at (K + 1) buf) ≡ same_form (form_from 4 K bs) (form_in K buf at)
  unfolding same_form form_from
  form-same-as =
      rw (add-one K, signeds-last 4 K bs, ← add-one K, part-form at K buf room)
      (equals-snoc (signeds 4 K bs) (part at K buf) (signed (take 4 (drop (K * 4) bs))) (get_or buf (at + K) (pos 0))
      (length-signeds 4 K bs ∙ sym (length-take-le K (drop at buf) (simp length-drop (omega arith)))))

module _ (K : ℕ) (bs : List ℕ) (buf : List ℤ) (i : ℕ) (long : i * size K + size K ≤ length buf) {x : ℕ} {b : Bool} (ex : x ≡ i * size K)
    (eb : b ≡ equals (signeds 4 (K + 1) bs) (part x (K + 1) buf)) where
  first : same_form (form_from 4 K bs) (form_in K buf (i * size K)) ≡ b
  first = sym (form-same-as K bs buf (i * size K) (omega arith)) ∙ sym (rw ex at eb)

  pub claim-first : b ≡ false → Claimed K bs buf i false
  unfolding states line_in
  claim-first h = record { is = λ kinds. rw (first, h) }

  pub claim-second : b ≡ true → {y : ℕ} {c : Bool} → y ≡ i * size K + (K + 1) → c ≡ equals (signeds 4 (K + 1) (drop (4 * (K + 1)) bs)) (part y (K + 1) buf) → Claimed K bs buf i c
  unfolding states line_in
  claim-second h {y} {c} ey ec = record { is = λ kinds. rw (first, h) second }
    where
      second : same_form (form_from 4 K (drop (form_width 4 K) bs)) (form_in K buf (i * size K + (K + 1))) ≡ c
      second =
          let o : suc K * 4 ≡ 4 * (K + 1) = omega arith in
          rw o (sym (form-same-as K (drop (4 * (K + 1)) bs) buf (i * size K + (K + 1)) (omega arith)) ∙ sym (rw ey at ec))
