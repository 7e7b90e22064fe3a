-- The nodes of a formula: what the code's tests of a tag say. Assumes nothing.
use mathlib.Core.Path.{◌≡◌, refl}
use mathlib.Core.Option.{some}
use mathlib.Core.Bool.{Bool, true, false, ◌&&◌, ◌||◌}
use Prim.Native.Nat.{ℕ, zero, suc, ◌+◌, ◌*◌, ◌≤◌, ◌<◌}
use native.Mathlib.Omega.{arith}
use lib.Dec.{eqb, leb}
use borrow.Author.Tests.{eqb-true, eqb-false, leb-true}
use Rattle.std.specs.Prelude.{Err}
use Rattle.answers.specs.declared.refusals.Refusal.{Refusal}
use Rattle.forms.specs.Edition.{edition1}
use Rattle.forms.specs.Forms.{≤0, =0}
use Rattle.fields.specs.declared.FileKind.{FileKind}
use Rattle.fields.specs.Header.{known, header_tag}
use Rattle.formula.specs.Formula.{disjunction, conjunction, FormulaTag, pair, atom, formula_tagged, formula_size}
use Rattle.formula_read.specs.Nodes.{node_tagged, sized, node_if, node_of}
use Rattle.formula_read.specs.declared.node.Node.{Node}

pub by-tag : (K len n size : ℕ) (t : FormulaTag) {tag : ℕ} → tag ≡ n → known FileKind.Formula n ≡ true → formula_tagged n ≡ some t → size ≡ formula_size edition1 K t
    → sized len size (node_tagged t) ≡ node_of K tag len
unfolding node_of node_if
by-tag K len n size t e k f s = rw (e, k, f, s)

-- a tag that formulas lack
pub not_known : (tag : ℕ) → (tag ≡ 1 → ⊥) → (tag ≡ 2 → ⊥) → (0x31 ≤ tag → tag ≤ 0x35 → ⊥) → known FileKind.Formula tag ≡ false
unfolding known header_tag
not_known tag h₁ h₂ g = go (eqb tag 1) (eqb tag 2) (leb 0x31 tag) (leb tag 0x35) refl refl refl refl
  where
    go : (a b c d : Bool) → eqb tag 1 ≡ a → eqb tag 2 ≡ b → leb 0x31 tag ≡ c → leb tag 0x35 ≡ d → ((a || b) || (c && d)) ≡ false
    go true b c d p q r s = absurd (h₁ (eqb-true _ _ p))
    go false true c d p q r s = absurd (h₂ (eqb-true _ _ q))
    go false false true true p q r s = absurd (g (leb-true _ _ r) (leb-true _ _ s))
    go false false true false p q r s = refl
    go false false false d p q r s = refl

pub unknown : (K tag len : ℕ) → known FileKind.Formula tag ≡ false → Err Refusal.UnknownTag ≡ node_of K tag len
unfolding node_of node_if
unknown K tag len e = rw e

-- 0x01 or 0x02
pub header-tag : (K tag len : ℕ) → 1 ≤ tag → tag < 3 → Err Refusal.MisplacedTag ≡ node_of K tag len
unfolding node_of node_if known header_tag formula_tagged
header-tag K zero len h l = absurd (omega arith)
header-tag K (suc zero) len h l = refl
header-tag K (suc (suc zero)) len h l = refl
header-tag K (suc (suc (suc tag))) len h l = absurd (omega arith)

-- 0x31 or 0x32, 0x33 or 0x34
pub pair-tag : (K tag len : ℕ) → 0x31 ≤ tag → tag < 0x33 → sized len 0 (Node.Pair (eqb tag 0x31)) ≡ node_of K tag len
unfolding known header_tag formula_tagged formula_size
pair-tag K tag len h l = go (eqb tag 0x31) refl
  where
    go : (p : Bool) → eqb tag 0x31 ≡ p → sized len 0 (Node.Pair p) ≡ node_of K tag len
    go true e = by-tag K len 0x31 0 (pair disjunction) (eqb-true tag 0x31 e) refl refl refl
    go false e = by-tag K len 0x32 0 (pair conjunction) (omega (arith, eqb-false tag 0x31 e)) refl refl refl

pub literal-tag : (K tag len size : ℕ) → 0x33 ≤ tag → tag < 0x35 → size ≡ (K + 1) * 4 → sized len size (Node.Literal (eqb tag 0x34)) ≡ node_of K tag len
unfolding known header_tag formula_tagged formula_size
literal-tag K tag len size h l s = go (eqb tag 0x34) refl
  where
    go : (p : Bool) → eqb tag 0x34 ≡ p → sized len size (Node.Literal p) ≡ node_of K tag len
    go true e = by-tag K len 0x34 size (atom =0) (eqb-true tag 0x34 e) refl refl (omega arith)
    go false e = by-tag K len 0x33 size (atom ≤0) (omega (arith, eqb-false tag 0x34 e)) refl refl (omega arith)
