-- The texts of a form, a literal and a stride part as the code writes them, piece by piece. Assumes nothing.
use mathlib.Core.Path.{◌≡◌, refl, sym, ap, ◌∙◌}
use mathlib.Core.Bool.{Bool, true, false, not, ◌&&◌}
use mathlib.Core.List.{List, [], ◌∷◌, ◌++◌, append_assoc}
use Prim.Native.Nat.{ℕ, suc}
use native.Mathlib.Omega.{arith}
use lib.IntN.{ℤ}
use Rattle.forms.specs.Forms.{Form, nonzero, literal, ◌divides◌}
use Rattle.formula_read.specs.Nodes.{literal_kind}
use Rattle.printing.specs.Smt.{Terms, register, times, plus, final}
use Rattle.printing.specs.Text.{ascii, decimal, decimal_by, term_text, terms_text, prop_text}
use Rattle.printing.specs.Translation.{integer, unless_zero, terms_of, summed, term_of, smt}
use Rattle.printing_formula.specs.Pieces.{product_text, pieces, zeros}
use Rattle.printing_signs.specs.Relations.{relation_text}
use Rattle.printing.proofs.Back.{zero-first, some_first}

-- ---- products
pub product-zero : (i : ℕ) (c : ℤ) → nonzero c ≡ false → product_text i c ≡ []
unfolding product_text
product-zero i c e = rw e

regroup : (x a s b r e : List ℕ) → x ++ ((((a ++ s) ++ b) ++ r) ++ e) ≡ ((((x ++ a) ++ s) ++ b) ++ r) ++ e
regroup x a s b r e = simp append_assoc

pub product-some : (i : ℕ) (c : ℤ) → nonzero c ≡ true → product_text i c ≡ ((((ascii " (* " ++ term_text (integer c)) ++ ascii " ") ++ term_text (register i)) ++ ascii ")")
unfolding product_text term_text
product-some i c e = rw e (regroup (ascii " ") (ascii "(* ") (term_text (integer c)) (ascii " ") (term_text (register i)) (ascii ")"))

-- ---- forms
summands-by : (i : ℕ) (c : ℤ) (ts : Terms) (b : Bool) → nonzero c ≡ b → terms_text (unless_zero b (times (integer c) (register i)) ts) ≡ product_text i c ++ terms_text ts
unfolding product_text unless_zero term_text
summands-by i c ts true e = rw e
summands-by i c ts false e = rw e

summands-text : (i : ℕ) (cs : List ℤ) (d : ℤ) → terms_text (terms_of i cs d) ≡ pieces product_text i cs ++ (ascii " " ++ term_text (integer d))
unfolding terms_of pieces term_text
summands-text i [] d = refl
summands-text i (c ∷ cs) d =
    summands-by i c (terms_of (suc i) cs d) (nonzero c) refl
    ∙ ap (λ (l : List ℕ). product_text i c ++ l) (summands-text (suc i) cs d)
    ∙ sym (append_assoc (product_text i c) (pieces product_text (suc i) cs) (ascii " " ++ term_text (integer d)))

no-products : (i : ℕ) (cs : List ℤ) (d : ℤ) → zeros cs ≡ true → terms_of i cs d ≡ final (integer d)
unfolding terms_of zeros
no-products i [] d h = refl
no-products i (c ∷ cs) d h = go (nonzero c) refl h (no-products (suc i) cs d)
  where
    go : (b : Bool) → nonzero c ≡ b → (not b && zeros cs) ≡ true → (zeros cs ≡ true → terms_of (suc i) cs d ≡ final (integer d)) → terms_of i (c ∷ cs) d ≡ final (integer d)
    go true e k ih = absurd (let z : ◌≡◌ {A = ℕ} 0 1 = cc in omega arith)
    go false e k ih = zero-first i c cs d e ∙ ih k

some-products : (i : ℕ) (cs : List ℤ) (d : ℤ) → zeros cs ≡ false → summed (terms_of i cs d) ≡ plus (terms_of i cs d)
unfolding zeros summed
some-products i [] d h = absurd (let z : ◌≡◌ {A = ℕ} 0 1 = cc in omega arith)
some-products i (c ∷ cs) d h = go (nonzero c) refl h (some-products (suc i) cs d)
  where
    go : (b : Bool) → nonzero c ≡ b → (not b && zeros cs) ≡ false → (zeros cs ≡ false → summed (terms_of (suc i) cs d) ≡ plus (terms_of (suc i) cs d)) → summed (terms_of i (c ∷ cs) d) ≡ plus (terms_of i (c ∷ cs) d)
    go true e k ih = rw (some_first i c cs d e)
    go false e k ih = rw (zero-first i c cs d e) (ih k)

pub form-constant : (t : Form) → zeros t.coeffs ≡ true → term_text (integer t.d) ≡ term_text (term_of t)
unfolding term_of summed
form-constant t h = sym (rw (no-products 0 t.coeffs t.d h))

pub form-sum : (t : Form) → zeros t.coeffs ≡ false
    → (((ascii "(+" ++ pieces product_text 0 t.coeffs) ++ ascii " ") ++ term_text (integer t.d)) ++ ascii ")" ≡ term_text (term_of t)
unfolding term_of term_text
form-sum t h = sym (rw (some-products 0 t.coeffs t.d h, summands-text 0 t.coeffs t.d) (simp append_assoc))

-- ---- formulas without parts
pub literal-text : (equality : Bool) (t : Form) → (relation_text equality ++ term_text (term_of t)) ++ ascii " 0)" ≡ prop_text (smt (literal (literal_kind equality) t))
unfolding prop_text smt term_text decimal decimal_by
literal-text true t = simp append_assoc
literal-text false t = simp append_assoc

pub stride-text : (g : ℕ) (t : Form) → (((ascii "(= (mod " ++ term_text (term_of t)) ++ ascii " ") ++ decimal g) ++ ascii ") 0)" ≡ prop_text (smt (g divides t))
unfolding prop_text smt term_text decimal_by
stride-text g t = simp append_assoc
