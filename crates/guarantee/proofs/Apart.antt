-- On the lines that rows reach the rules of a split read as they are worded. Assumes nothing.
use mathlib.Core.Path.{◌≡◌, refl, ◌∙◌, ap, ap₂}
use mathlib.Core.List.{List, [], ◌∷◌, map}
use mathlib.Core.Option.{some}
use Prim.Native.Nat.{ℕ, zero, suc, ◌-◌, ◌≤◌, ◌<◌}
use native.Mathlib.Omega.{arith}
use lib.ListN.{length, get_elem?}
use Rattle.forms.specs.Forms.{Form, Side, Line, apart, ConstraintKind, says, ≠0, kind_on, Constraint, line_apart, line_a, line_b, lines}
use Rattle.calculus.specs.Rules.{Nth}
use Rattle.calculus.specs.Reached.{root}
use Rattle.calculus.proofs.Drawn.{reached}
use Rattle.calculus.proofs.Apart.{given, place-A, place-B, apart-A, apart-B, apart-B-negated}
use Rattle.guarantee.specs.Apart.{SplitsAsWorded}

-- ---- a line t ≠ 0 is that of the constraint t ≠ 0 in its place
apart-kind : (σ τ : Side) (k : ConstraintKind) → kind_on σ k ≡ apart τ → k ≡ ≠0
apart-kind σ τ (says k) e = absurd (let z : ◌≡◌ {A = ℕ} 0 1 = cc in omega arith)
apart-kind σ τ ≠0 e = refl

-- the constraint t ≠ 0
abbrev differs : Form → Constraint
differs t = record { kind = ≠0; form = t }

made_of : (σ τ : Side) (c : Constraint) (t : Form) → kind_on σ c.kind ≡ apart τ → c.form ≡ t → c ≡ differs t
made_of σ τ c t k f = ap₂ (λ (k : ConstraintKind) (t : Form). record { kind = k; form = t }) (apart-kind σ τ c.kind k) f

module _ (σ : Side) (t t_A : Form) where
  first-A : (c : Constraint) → line_a c ≡ line_apart σ t t_A → c ≡ differs t
  first-A c e = made_of Side.A σ c t (ap (λ (l : Line). l.kind) e) (ap (λ (l : Line). l.t) e)

  first-B : (c : Constraint) → line_b c ≡ line_apart σ t t_A → c ≡ differs t
  first-B c e = made_of Side.B σ c t (ap (λ (l : Line). l.kind) e) (ap (λ (l : Line). l.t) e)

  among-A : (a b : List Constraint) (i : ℕ) → i < length a → Nth (lines a b) i (line_apart σ t t_A) → get_elem? a i ≡ some (differs t)
  among-A [] b i h e = absurd (omega arith)
  among-A (c ∷ a) b zero h e = ap some (first-A c (let same : line_a c ≡ line_apart σ t t_A = cc in same))
  among-A (c ∷ a) b (suc i) h e = among-A a b i (omega arith) e

  alone-B : (b : List Constraint) (i : ℕ) → get_elem? (map line_b b) i ≡ some (line_apart σ t t_A) → get_elem? b i ≡ some (differs t)
  alone-B [] i e = absurd (let z : ◌≡◌ {A = ℕ} 0 1 = cc in omega arith)
  alone-B (c ∷ b) zero e = ap some (first-B c (let same : line_b c ≡ line_apart σ t t_A = cc in same))
  alone-B (c ∷ b) (suc i) e = alone-B b i e

  among-B : (a b : List Constraint) (i : ℕ) → length a ≤ i → Nth (lines a b) i (line_apart σ t t_A) → get_elem? b (i - length a) ≡ some (differs t)
  among-B [] b i h e = let z : i - 0 ≡ i = omega arith in ap (get_elem? b) z ∙ alone-B b i e
  among-B (c ∷ a) b zero h e = absurd (omega arith)
  among-B (c ∷ a) b (suc i) h e = let z : suc i - suc (length a) ≡ i - length a = omega arith in ap (get_elem? b) z ∙ among-B a b i (omega arith) e

-- Point 6.
pub splits-as-worded : SplitsAsWorded
splits-as-worded = record {
  of_rows = λ A B e in_b I p. reached p root;
  of_A = λ A B ls i t t_A r p. (place-A r i p, apart-A r i p);
  of_B = λ A B ls i t t_A r p. (place-B r i p, apart-B r i p, apart-B-negated r i p);
  stated_A = λ A B ls i t t_A r p. among-A Side.A t t_A A B i (place-A r i p) (given r i p);
  stated_B = λ A B ls i t t_A r p. among-B Side.B t t_A A B i (place-B r i p) (given r i p);
}
