-- Each way through judging a formula at a block, over plain values. Assumes nothing.
use mathlib.Core.Path.{◌≡◌, refl, sym, ap, subst, ◌∙◌}
use mathlib.Core.Bool.{Bool, true, false}
use mathlib.Core.List.{List}
use Prim.Native.Nat.{ℕ, suc, ◌+◌, ◌-◌, ◌≤◌}
use native.Mathlib.Omega.{arith}
use lib.Dec.{T}
use lib.IntN.{ℤ, pos, nat_abs}
use lib.ListN.{take, drop}
use lib.Signed.{le_z, ◌≤ℤ◌}
use Rattle.forms.specs.Edition.{edition1}
use Rattle.forms.specs.Forms.{Formula, ◌divides◌}
use Rattle.std.specs.Prelude.{Ok, Err}
use Rattle.std.specs.declared.result.Result as code
use Rattle.answers.specs.declared.refusals.Refusal.{Refusal}
use Rattle.answers.specs.declared.refusals.Fault.{Fault}
use Rattle.answers.specs.declared.Answer.{Answer}
use Rattle.answers.specs.Answers.{Result, refused, accepted}
use Rattle.answers.proofs.Results.{never, one_value, binds, bind-refused, pass, fail}
use Rattle.number_bytes.specs.Numbers.{signed}
use Rattle.fields.specs.declared.WholeField.{WholeField}
use Rattle.fields.specs.Fields.{Fields}
use Rattle.fields.specs.Places.{fields_at, next_or_fault}
use Rattle.fields.proofs.Places.{Starts}
use Rattle.formula.specs.Formula.{Reader, formula_within, compound, two_parts}
use Rattle.form_value.specs.FormAt.{form_at}
use Rattle.formula_read.specs.Nodes.{connective, node_of}
use Rattle.formula_read.specs.Judging.{two_within}
use Rattle.formula_read.specs.declared.node.Node.{Node}
use Rattle.formula_read.proofs.FormulaReader.{formula-missing, formula-refused, literal-is, stride-is, pair_is}
use Rattle.formula_leaf.specs.Masks.{Marks}
use Rattle.formula_leaf.specs.Leaves.{leaf_formula, Block}
use Rattle.formula_block.specs.Blocks.{BlockJudged, BothJudged}
use Rattle.formula_leaf.specs.declared.Leaf.{Leaf}
use Rattle.formula_block.specs.declared.block.Masked.{Masked}
use Rattle.formula_leaf.proofs.Masks.{marks-and, marks-or}

-- ---- what is read, and what is not
module _ {s : List ℕ} {at : ℕ} (values : List ℤ) {K : ℕ} (n levels active : ℕ) where
  block-by : {I : Formula} {rest : Fields} {r : Masked} → formula_within edition1 K levels (fields_at s at) ≡ accepted (I, rest)
      → r.mask ≤ active → Marks I values K n active r.mask → rest ≡ fields_at s r.next → BlockJudged s at values K n levels active r
  block-by {I} {rest} {r} w h m e = record {
    small = h;
    is = λ J more q.
        let p : ◌≡◌ {A = Formula × Fields} (I, rest) (J, more) = one_value w q in
        (subst (λ (x : Formula). Marks x values K n active r.mask) (ap (λ (x : Formula × Fields). x.0) p) m, sym (ap (λ (x : Formula × Fields). x.1) p) ∙ e);
  }

  block_none : {a : Answer} → formula_within edition1 K levels (fields_at s at) ≡ refused a → (r : Masked) → r.mask ≤ active → BlockJudged s at values K n levels active r
  block_none w r h = record { small = h; is = λ I rest q. absurd (never (sym w ∙ q)) }

  pub block-missing : {r : code.Result WholeField Fault} → r ≡ next_or_fault (fields_at s at) → {e : Fault} → r ≡ Err e → (next : ℕ) → BlockJudged s at values K n levels active (record { mask = 0; next = next })
  block-missing p q next = block_none (formula-missing s at values K levels p q).judged _ (omega arith)

module _ {s : List ℕ} {at place tag start len next : ℕ} (k : Starts s at place tag start len next) (K : ℕ) {node : code.Result Node Refusal} (e : node ≡ node_of K tag len)
    (values : List ℤ) (n levels active : ℕ) where
  pub block_refused : {refusal : Refusal} → node ≡ Err refusal → (after : ℕ) → BlockJudged s at values K n levels active (record { mask = 0; next = after })
  block_refused f after = block_none values n levels active (formula-refused k K e values levels f refl).judged _ (omega arith)

  pub block-literal : {equality : Bool} {m : ℕ} → node ≡ Ok (Node.Literal equality) → m ≤ active → Marks (leaf_formula (Leaf.Literal equality) (form_at s start K)) values K n active m
      → BlockJudged s at values K n levels active (record { mask = m; next = next })
  block-literal f h m = block-by values n levels active (literal-is k K e levels f) h m refl

  module _ (f : node ≡ Ok Node.Stride) {m : ℕ} (h : m ≤ active)
      (p : pos 2 ≤ℤ signed (take 4 (drop start s)) → Marks (nat_abs (signed (take 4 (drop start s))) divides form_at s (start + 4) K) values K n active m) where
    stride-by : (b : Bool) → le_z (pos 2) (signed (take 4 (drop start s))) ≡ b → BlockJudged s at values K n levels active (record { mask = m; next = next })
    stride-by true q = block-by values n levels active (stride-is k K e levels f ∙ pass _ _ q) h (p (record { le = subst T (sym q) tt })) refl
    stride-by false q = block_none values n levels active (stride-is k K e levels f ∙ fail _ _ q) _ h

    pub block-stride : BlockJudged s at values K n levels active (record { mask = m; next = next })
    block-stride = stride-by (le_z (pos 2) (signed (take 4 (drop start s)))) refl

  pub block-pair : {either : Bool} {r : Masked} → node ≡ Ok (Node.Pair either) → BothJudged s next values K n levels active either r → BlockJudged s at values K n levels active r
  block-pair {either} {r} f b = go (two_within K levels place (fields_at s next)) refl
    where
      go : (w : Result (Formula × Formula × Fields)) → two_within K levels place (fields_at s next) ≡ w → BlockJudged s at values K n levels active r
      go (refused a) q = block_none values n levels active (pair_is k K e levels f ∙ bind-refused _ q) r b.small
      go (accepted (I, J, rest)) q =
          let x = b.is place I J rest q in
          block-by values n levels active (pair_is k K e levels f ∙ binds _ q) b.small x.0 x.1

-- ---- the two parts
record TwoRead (part : Reader) (fs : Fields) (I J : Formula) (rest : Fields) : Type 0 where
  middle : Fields
  first : part fs ≡ accepted (I, middle)
  second : part middle ≡ accepted (J, rest)

two-read : (K : ℕ) (part : Reader) (fs : Fields) {I J : Formula} {rest : Fields} → two_parts edition1 K part fs ≡ accepted (I, J, rest) → TwoRead part fs I J rest
unfolding two_parts
two-read K part fs {I} {J} {rest} e = go (part fs) refl
  where
    end : (I₁ : Formula) (mid : Fields) → part fs ≡ accepted (I₁, mid) → (w : Result (Formula × Fields)) → part mid ≡ w → TwoRead part fs I J rest
    end I₁ mid p (refused a) q = absurd (never (sym (binds _ p ∙ bind-refused _ q) ∙ e))
    end I₁ mid p (accepted (J₁, after)) q =
        let x : ◌≡◌ {A = Formula × Formula × Fields} (I₁, J₁, after) (I, J, rest) = one_value (binds _ p ∙ binds _ q) e in
        record {
          middle = mid;
          first = p ∙ ap (λ (y : Formula × Formula × Fields). accepted (y.0, mid)) x;
          second = q ∙ ap (λ (y : Formula × Formula × Fields). accepted (y.1, y.2)) x;
        }

    go : (w : Result (Formula × Fields)) → part fs ≡ w → TwoRead part fs I J rest
    go (refused a) p = absurd (never (sym (bind-refused _ p) ∙ e))
    go (accepted (I₁, mid)) p = end I₁ mid p (part mid) refl

pub both-none : {s : List ℕ} {at : ℕ} {values : List ℤ} {K n levels active : ℕ} {either : Bool} → levels ≡ 0 → (next : ℕ) → BothJudged s at values K n levels active either (record { mask = 0; next = next })
unfolding two_within
both-none {s} {at} {K = K} z next = record {
  small = omega arith;
  is = λ place I J rest q. absurd (never (rw z at q));
}

module _ {s : List ℕ} {at : ℕ} {values : List ℤ} {K n levels active : ℕ} (z : levels ≡ 0 → ⊥) {first : Masked} (b : BlockJudged s at values K n (levels - 1) active first) where
  two_is : (place : ℕ) → two_within K levels place (fields_at s at) ≡ two_parts edition1 K (formula_within edition1 K (levels - 1)) (fields_at s at)
  unfolding two_within
  two_is place = let e : levels ≡ suc (levels - 1) = omega arith in ap (λ (l : ℕ). two_within K l place (fields_at s at)) e

  pub both-and : {either : Bool} {r : Masked} → either ≡ false → BlockJudged s first.next values K n (levels - 1) first.mask r → BothJudged s at values K n levels active either r
  unfolding compound
  both-and {either} {r} f d = record { small = omega (arith, b.small, d.small); is = parts }
    where
      parts : (place : ℕ) (I J : Formula) (rest : Fields) → two_within K levels place (fields_at s at) ≡ accepted (I, J, rest)
          → Marks (compound (connective either) I J) values K n active r.mask × (rest ≡ fields_at s r.next)
      parts place I J rest q =
          let t = two-read K (formula_within edition1 K (levels - 1)) (fields_at s at) (sym (two_is place) ∙ q) in
          let x = b.is I t.middle t.first in
          let y = d.is J rest (ap (formula_within edition1 K (levels - 1)) (sym x.1) ∙ t.second) in
          (rw f (marks-and x.0 y.0), y.1)

  pub both-or : {either : Bool} {second : Masked} → either ≡ true → BlockJudged s first.next values K n (levels - 1) (active - first.mask) second
      → BothJudged s at values K n levels active either (record { mask = first.mask + second.mask; next = second.next })
  unfolding compound
  both-or {either} {second} f d = record { small = omega (arith, b.small, d.small); is = parts }
    where
      parts : (place : ℕ) (I J : Formula) (rest : Fields) → two_within K levels place (fields_at s at) ≡ accepted (I, J, rest)
          → Marks (compound (connective either) I J) values K n active (first.mask + second.mask) × (rest ≡ fields_at s second.next)
      parts place I J rest q =
          let t = two-read K (formula_within edition1 K (levels - 1)) (fields_at s at) (sym (two_is place) ∙ q) in
          let x = b.is I t.middle t.first in
          let y = d.is J rest (ap (formula_within edition1 K (levels - 1)) (sym x.1) ∙ t.second) in
          (rw f (marks-or x.0 y.0), y.1)

-- a mask of fewer vectors
pub block-fewer : {values : List ℤ} {K n active m : ℕ} → Block values K n active → m ≤ active → Block values K n m
block-fewer b h = record { all = b.all; count = b.count; some = b.some; few = b.few; size = b.size; below = omega (arith, b.below) }
