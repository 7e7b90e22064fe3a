-- Two branches of the same kinds and forms whose partial interpolants differ, at v, as their kinds allow. Assumes nothing.
use mathlib.Core.Path.{◌≡◌, refl, ap, ap₂, subst}
use mathlib.Core.List.{List, [], ◌∷◌, ◌++◌}
use Prim.Native.Nat.{ℕ, zero, suc}
use native.Mathlib.Omega.{arith}
use lib.IntN.{ℤ, pos, ◌-ℤ◌, ◌*ℤ◌}
use Rattle.forms.specs.Forms.{Form, Kind, ≤0, Holds, LineKind, plain, apart, Line, line, value, Assignment, ◌⊞◌, ◌·◌}
use Rattle.calculus.specs.Rules.{Inference, Nth, ◌▷◌}
use Rattle.calculus.proofs.Readings.{value-reading}
use Rattle.calculus.proofs.Sides.{Side, A, B, holds-cone, sum-literal, times-literal}
use Rattle.chains.proofs.Grown.{Made, by-combine, by-reduce, by-scale}

-- a' - a, of the line's partial interpolants, is at most 0 for an inequality and 0 for an equality
abbrev pub Delta : Assignment → Kind → Form → Form → Type 0
Delta v k a a' = Holds k (value a' v -ℤ value a v)

-- and of a constraint t ≠ 0 it is 0 if the cuts give it to one bundle, and not 0 if it passes from B to A
pub data Passed : LineKind → LineKind → ℤ → Type 0 where
  plains : {k : Kind} {z : ℤ} → Holds k z → Passed (plain k) (plain k) z
  stays : {σ : Side} {z : ℤ} → z ≡ pos 0 → Passed (apart σ) (apart σ) z
  passes : {z : ℤ} → ¬ (z ≡ pos 0) → Passed (apart B) (apart A) z

pub record Link (v : Assignment) (l l' : Line) : Type 0 where
  pub forms : l.t ≡ l'.t
  pub delta : Passed l.kind l'.kind (value l'.t_A v -ℤ value l.t_A v)

-- what that is for the kinds that the rows name
pub same_kind : {k k' : Kind} {z : ℤ} → Passed (plain k) (plain k') z → k ≡ k'
same_kind (plains h) = refl

pub plain-delta : {k k' : Kind} {z : ℤ} → Passed (plain k) (plain k') z → Holds k z
plain-delta (plains h) = h

of-kind : {k k' : Kind} {z : ℤ} → k ≡ k' → Holds k z → Passed (plain k) (plain k') z
of-kind {k} {k'} {z} e h = subst (λ j. Passed (plain k) (plain j) z) e (plains h)

pub plain-linked : {v : Assignment} {k : Kind} {t t' a a' : Form} → t ≡ t' → Delta v k a a' → Link v (line k t a) (line k t' a')
plain-linked e h = record { forms = e; delta = plains h }

pub data Linked (v : Assignment) : List Line → List Line → Type 0 where
  nil : Linked v [] []
  cons : {l l' : Line} {ls ls' : List Line} → Link v l l' → Linked v ls ls' → Linked v (l ∷ ls) (l' ∷ ls')

pub linked-nth : {v : Assignment} {ls ls' : List Line} {l l' : Line} (i : ℕ) → Linked v ls ls' → Nth ls i l → Nth ls' i l' → Link v l l'
linked-nth i nil e e' = absurd (let z : ◌≡◌ {A = ℕ} 0 1 = cc in omega arith)
linked-nth {v} {l = l} zero (cons {l = m} {l' = m'} h hs) e e' =
    subst (Link v l) (let q : m' ≡ _ = cc in q) (subst (λ x. Link v x m') (let q : m ≡ l = cc in q) h)
linked-nth (suc i) (cons h hs) e e' = linked-nth i hs e e'

pub linked-and : {v : Assignment} {ls ls' : List Line} {l l' : Line} → Linked v ls ls' → Link v l l' → Linked v (ls ▷ l) (ls' ▷ l')
linked-and nil h = cons h nil
linked-and (cons g gs) h = cons g (linked-and gs h)

pub linked-append : {v : Assignment} {ls ls' ms ms' : List Line} → Linked v ls ls' → Linked v ms ms' → Linked v (ls ++ ms) (ls' ++ ms')
linked-append nil g = g
linked-append (cons h hs) g = cons h (linked-append hs g)

module _ (v : Assignment) where
  delta-sum : (k : Kind) (s s' t t' : Form) → Delta v k s s' → Delta v k t t' → Delta v k (s ⊞ t) (s' ⊞ t')
  delta-sum k s s' t t' h g = sum-literal B (holds-cone B) (value-reading v) {k = k} s' s t' t h g

  delta-times : (k : Kind) (α : ℤ) (t t' : Form) → Holds k (α *ℤ (value t' v -ℤ value t v)) → Delta v k (α · t) (α · t')
  delta-times k α t t' h = times-literal B (holds-cone B) (value-reading v) {k = k} α t' t h

  pub linked-made : {ls ls' : List Line} {s : Inference} {l l' : Line} → Linked v ls ls' → Made ls s l → Made ls' s l' → Link v l l'
  linked-made hs (by-combine {i = i} {j = j} {α = α} {β = β} {s = s} {s_A = s_A} {t = t} {t_A = t_A} p q) (by-combine {s = s'} {s_A = sA'} {t = t'} {t_A = tA'} p' q') =
      let h = linked-nth i hs p p' in
      let g = linked-nth j hs q q' in
      record {
        forms = ap₂ (λ x y. pos α · x ⊞ pos β · y) h.forms g.forms;
        delta = plains (delta-sum ≤0 (pos α · s_A) (pos α · sA') (pos β · t_A) (pos β · tA') (delta-times ≤0 (pos α) s_A sA' ((holds-cone B).times {k = ≤0} α (plain-delta h.delta))) (delta-times ≤0 (pos β) t_A tA' ((holds-cone B).times {k = ≤0} β (plain-delta g.delta))));
      }
  linked-made hs (by-reduce {i = i} {j = j} {α = α} {k = k} {s_A = s_A} {t_A = t_A} p q) (by-reduce {s_A = sA'} {t_A = tA'} p' q') =
      let h = linked-nth i hs p p' in
      let g = linked-nth j hs q q' in
      record {
        forms = ap₂ (λ x y. x ⊞ α · y) h.forms g.forms;
        delta = of-kind (same_kind h.delta) (delta-sum k s_A sA' (α · t_A) (α · tA') (plain-delta h.delta) (delta-times k α t_A tA' ((holds-cone B).any {k = k} α (plain-delta g.delta))));
      }
  linked-made hs (by-scale {i = i} {α = α} {k = k} {t_A = t_A} p) (by-scale {t_A = tA'} p') =
      let h = linked-nth i hs p p' in
      record {
        forms = ap (λ x. pos α · x) h.forms;
        delta = of-kind (same_kind h.delta) (delta-times k (pos α) t_A tA' ((holds-cone B).times {k = k} α (plain-delta h.delta)));
      }
