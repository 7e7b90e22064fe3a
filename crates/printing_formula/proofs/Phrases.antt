-- The words as the code writes them, piece by piece; numbers as the machine reads them back. Assumes nothing.
use mathlib.Core.Path.{◌≡◌, refl, sym, ap, ◌∙◌}
use mathlib.Core.Bool.{Bool, true, false}
use mathlib.Core.List.{List, [], ◌∷◌, ◌++◌, append_assoc, append-nil}
use Prim.Native.Nat.{ℕ, suc, ◌+◌, ◌≤◌, ◌<◌}
use native.Mathlib.Omega.{arith}
use lib.IntN.{ℤ, pos, negsuc, nat_abs}
use lib.ListN.{length, get_or, drop}
use mir.Syntax.{w64}
use mir.Val.{SFits, to_z, of_z}
use mir.ValLaws.{to_z-of_z}
use Rattle.integers.specs.Linear.{eq_z}
use Rattle.forms.specs.Forms.{Form, nonzero, literal, ◌divides◌}
use Rattle.number_bytes.specs.Ranges.{Held}
use Rattle.formula_read.specs.Nodes.{literal_kind}
use Rattle.printing.specs.Smt.{register}
use Rattle.printing.specs.Text.{ascii, decimal, term_text}
use Rattle.printing.specs.Words.{Summand, scaled, plain, unless_none, summands_of, as_sum, sum_of, worded}
use Rattle.printing.specs.WordsText.{sign_text, size_text, summand_text, summands_text, sum_text, wording_text}
use Rattle.printing_formula.specs.Pieces.{pieces, FirstNonzero}
use Rattle.printing_formula.specs.Pieces.{word_text, constant_text}
use Rattle.printing_signs.specs.Relations.{said_text}
use Rattle.printing.proofs.Meaning.{zero_or}
use Rattle.printing_formula.proofs.Forms.{read-zero, read-nonzero, no_items, first-item}

-- ---- signs and sizes
pub held_back : {z : ℤ} → SFits w64 z → Held 4 z → Held 4 (to_z w64 (of_z w64 z))
held_back {z} f h = rw (to_z-of_z w64 z f) h

starred : (u a b d : List ℕ) → (u ++ a) ++ (b ++ d) ≡ (u ++ (a ++ b)) ++ d
starred u a b d = simp append_assoc

size_is : (z : ℤ) → decimal (nat_abs z) ≡ size_text z
size_is (pos n) = refl
size_is (negsuc n) = refl

module _ (front : Bool) {n : ℕ} {z : ℤ} (f : SFits w64 z) (e : n ≡ nat_abs (to_z w64 (of_z w64 z))) where
  pub alone-put : sign_text front (to_z w64 (of_z w64 z)) ++ decimal n ≡ summand_text front (plain z)
  unfolding summand_text
  alone-put = rw (e, to_z-of_z w64 z f, size_is z)

  pub scaled-put : (i : ℕ) → ((sign_text front (to_z w64 (of_z w64 z)) ++ decimal n) ++ ascii "*") ++ term_text (register i) ≡ summand_text front (scaled z i)
  unfolding summand_text term_text
  scaled-put i = rw (e, to_z-of_z w64 z f, size_is z) (starred (sign_text front z ++ size_text z) (ascii "*") (ascii "r") (decimal i))

-- ---- items
pub word-zero : (i : ℕ) (z : ℤ) → nonzero z ≡ false → [] ≡ word_text i z
unfolding word_text
word-zero i z h = rw h

pub word-put : (i : ℕ) {r z : ℤ} → SFits w64 r → r ≡ z → nonzero z ≡ true → summand_text false (scaled (to_z w64 (of_z w64 r)) i) ≡ word_text i z
unfolding word_text
word-put i {r} {z} f e h = rw (to_z-of_z w64 r f, e, h)

module _ {b : Bool} {z : ℤ} (f : SFits w64 z) (k : b ≡ eq_z (to_z w64 (of_z w64 z)) (pos 0)) where
  pub constant-none : b ≡ true → [] ≡ constant_text z
  unfolding constant_text
  constant-none h = rw (read-zero f refl k h)

  pub constant-some : b ≡ false → summand_text false (plain (to_z w64 (of_z w64 z))) ≡ constant_text z
  unfolding constant_text
  constant-some h = rw (to_z-of_z w64 z f, read-nonzero f refl k h)

last-text : (d : ℤ) (b : Bool) → nonzero d ≡ b → summands_text (unless_none b (plain d) []) ≡ constant_text d
unfolding unless_none summands_text constant_text
last-text d true e = rw (e, append-nil)
last-text d false e = rw e

more-text : (i : ℕ) (c : ℤ) (xs : List Summand) (b : Bool) → nonzero c ≡ b → summands_text (unless_none b (scaled c i) xs) ≡ word_text i c ++ summands_text xs
unfolding unless_none summands_text word_text
more-text i c xs true e = rw e
more-text i c xs false e = rw e

items-text : (i : ℕ) (cs : List ℤ) (d : ℤ) → summands_text (summands_of i cs d) ≡ pieces word_text i cs ++ constant_text d
unfolding summands_of pieces
items-text i [] d = last-text d (nonzero d) refl
items-text i (c ∷ cs) d =
    more-text i c (summands_of (suc i) cs d) (nonzero c) refl
    ∙ ap (λ (l : List ℕ). word_text i c ++ l) (items-text (suc i) cs d)
    ∙ sym (append_assoc (word_text i c) (pieces word_text (suc i) cs) (constant_text d))

-- ---- lines
alone-line : (d : ℤ) (b : Bool) → nonzero d ≡ b → summand_text true (plain d) ≡ sum_text (as_sum (unless_none b (plain d) []))
unfolding unless_none sum_text summands_text
alone-line d true e = sym (append-nil (summand_text true (plain d)))
alone-line d false e = ap (λ (x : ℤ). summand_text true (plain x)) (zero_or d e) ∙ sym (append-nil (summand_text true (plain (pos 0))))

module _ (t : Form) {f : ℕ} (p : FirstNonzero t.coeffs f) {r : ℤ} (s : SFits w64 r) (e : r ≡ t.d) where
  pub line-alone : length t.coeffs ≤ f → summand_text true (plain (to_z w64 (of_z w64 r))) ≡ sum_text (sum_of t)
  unfolding sum_of
  line-alone h =
      ap (λ (x : ℤ). summand_text true (plain x)) (to_z-of_z w64 r s ∙ e)
      ∙ alone-line t.d (nonzero t.d) refl
      ∙ ap (λ (xs : List Summand). sum_text (as_sum xs)) (sym (no_items p t.d h))

  pub line-sum : f < length t.coeffs → {c : ℤ} → SFits w64 c → c ≡ get_or t.coeffs f (pos 0)
      → (summand_text true (scaled (to_z w64 (of_z w64 c)) f) ++ pieces word_text (f + 1) (drop (f + 1) t.coeffs)) ++ constant_text (to_z w64 (of_z w64 r)) ≡ sum_text (sum_of t)
  unfolding sum_of sum_text
  line-sum h {c} g k =
      let n : f + 1 ≡ suc f = omega arith in
      rw (n, to_z-of_z w64 c g, k, to_z-of_z w64 r s, e)
      (append_assoc (summand_text true (scaled (get_or t.coeffs f (pos 0)) f)) (pieces word_text (suc f) (drop (suc f) t.coeffs)) (constant_text t.d)
      ∙ ap (λ (l : List ℕ). summand_text true (scaled (get_or t.coeffs f (pos 0)) f) ++ l) (sym (items-text (suc f) (drop (suc f) t.coeffs) t.d))
      ∙ ap (λ (xs : List Summand). sum_text (as_sum xs)) (sym (first-item p t.d h)))

-- ---- atoms
pub said_put : (equality : Bool) (t : Form) → sum_text (sum_of t) ++ said_text equality ≡ wording_text (worded (literal (literal_kind equality) t))
unfolding wording_text worded
said_put true t = refl
said_put false t = refl

pub divides-put : (t : Form) {n : ℕ} {g : ℤ} → SFits w64 g → n ≡ nat_abs (to_z w64 (of_z w64 g)) → (decimal n ++ ascii " divides ") ++ sum_text (sum_of t) ≡ wording_text (worded (nat_abs g divides t))
unfolding wording_text worded
divides-put t {g = g} f e = rw (e, to_z-of_z w64 g f)
