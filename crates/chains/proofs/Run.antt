-- The guards of a run follow one another. Assumes nothing.
use mathlib.Core.Path.{◌≡◌, refl, sym, ◌∙◌, ap, subst}
use mathlib.Core.List.{List, [], ◌∷◌, ◌++◌, map, append_assoc, append-nil}
use mathlib.Core.Option.{some}
use Prim.Native.Nat.{ℕ, zero, suc, ◌≤◌}
use native.Mathlib.Omega.{arith}
use lib.ListN.{get_elem?, length}
use lib.IntN.{ℤ, pos, +ℤ_idr}
use Rattle.integers.proofs.RingLaws.{sub_self}
use Rattle.forms.specs.Edition.{Edition}
use Rattle.forms.specs.Forms.{ConstraintKind, says, ≠0, ConstraintHolds, kind_on, Constraint, line_a, line_b, lines, occurs, All, nil, cons, Meets, Assignment, value, Formula, True}
use Rattle.calculus.specs.Rules.{Entry, Interpolant}
use Rattle.calculus.proofs.Readings.{value-reading}
use Rattle.calculus.proofs.Sides.{Side, A, B, holds-cone, zero-form}
use Rattle.calculus.proofs.Interpolation.{interpolation, initial-words, sides}
use Rattle.chains.specs.Runs.{Run, joined, up_to, beyond, Guards, Chain}
use Rattle.chains.proofs.Links.{Passed, plains, stays, passes, Link, Linked, nil, cons}
use Rattle.chains.proofs.Trees.{table-unique, uniform-tree}
use Rattle.chains.proofs.Chain.{chain-step}

-- ---- the initial lines of two cuts that follow one another
module _ (v : Assignment) where
  stay : (σ : Side) (k : ConstraintKind) → Passed (kind_on σ k) (kind_on σ k) (pos 0)
  stay σ (says k) = plains {k = k} ((holds-cone A).none (says k))
  stay σ ≠0 = stays refl

  pass-over : (k : ConstraintKind) (z : ℤ) → ConstraintHolds k z → Passed (kind_on B k) (kind_on A k) z
  pass-over (says k) z h = plains h
  pass-over ≠0 z h = passes h

  same_A : (c : Constraint) → Link v (line_a c) (line_a c)
  same_A c = record { forms = refl; delta = rw sub_self (stay A c.kind) }

  same-B : (c : Constraint) → Link v (line_b c) (line_b c)
  same-B c = record { forms = refl; delta = rw sub_self (stay B c.kind) }

  -- a constraint that passes from B to A, and that v meets
  over : (c : Constraint) → Meets v c → Link v (line_b c) (line_a c)
  over c h = record { forms = refl; delta = rw (zero-form (value-reading v), +ℤ_idr) (pass-over c.kind (value c.form v) h) }

  all_same : (Q : List Constraint) → Linked v (map line_b Q) (map line_b Q)
  all_same [] = nil
  all_same (c ∷ Q) = cons (same-B c) (all_same Q)

  pass : {T : List Constraint} (Q : List Constraint) → All (Meets v) T → Linked v (map line_b (T ++ Q)) (map line_a T ++ map line_b Q)
  pass Q nil = all_same Q
  pass Q (cons {x = c} h hs) = cons (over c h) (pass Q hs)

  pub linked-initial : (P T Q : List Constraint) → All (Meets v) T → Linked v (lines P (T ++ Q)) (lines (P ++ T) Q)
  linked-initial [] T Q h = pass Q h
  linked-initial (c ∷ P) T Q h = cons (same_A c) (linked-initial P T Q h)

-- ---- the cuts of a run
pub more : (Ts : Run) (i : ℕ) (T : List Constraint) → get_elem? Ts i ≡ some T → up_to Ts (suc i) ≡ up_to Ts i ++ T
more [] i T e = absurd (let z : ◌≡◌ {A = ℕ} 0 1 = cc in omega arith)
more (S ∷ Ts) zero T e = append-nil S ∙ (let q : S ≡ T = cc in q)
more (S ∷ Ts) (suc i) T e = ap (λ l. S ++ l) (more Ts i T e) ∙ sym (append_assoc S (up_to Ts i) T)

pub less : (Ts : Run) (i : ℕ) (T : List Constraint) → get_elem? Ts i ≡ some T → beyond Ts i ≡ T ++ beyond Ts (suc i)
less [] i T e = absurd (let z : ◌≡◌ {A = ℕ} 0 1 = cc in omega arith)
less (S ∷ Ts) zero T e = ap (λ l. l ++ joined Ts) (let q : S ≡ T = cc in q)
less (S ∷ Ts) (suc i) T e = less Ts i T e

pub within-run : (Ts : Run) (i : ℕ) (T : List Constraint) → get_elem? Ts i ≡ some T → suc i ≤ length Ts
within-run [] i T e = absurd (let z : ◌≡◌ {A = ℕ} 0 1 = cc in omega arith)
within-run (S ∷ Ts) zero T e = omega arith
within-run (S ∷ Ts) (suc i) T e = let h = within-run Ts i T e in omega arith

nothing-beyond : (Ts : Run) → beyond Ts (length Ts) ≡ []
nothing-beyond [] = refl
nothing-beyond (S ∷ Ts) = nothing-beyond Ts

pub linked-cuts : (v : Assignment) (Ts : Run) (i : ℕ) (T : List Constraint) → get_elem? Ts i ≡ some T → All (Meets v) T
    → Linked v (lines (up_to Ts i) (beyond Ts i)) (lines (up_to Ts (suc i)) (beyond Ts (suc i)))
linked-cuts v Ts i T e h = subst (λ P. Linked v (lines (up_to Ts i) (beyond Ts i)) (lines P (beyond Ts (suc i)))) (sym (more Ts i T e))
    (subst (λ Q. Linked v (lines (up_to Ts i) Q) (lines (up_to Ts i ++ T) (beyond Ts (suc i)))) (sym (less Ts i T e)) (linked-initial v (up_to Ts i) T (beyond Ts (suc i)) h))

-- ---- the theorem
module _ {e : Edition} {Ts : Run} {es : List Entry} {I : ℕ → Formula} (gs : Guards e Ts es I) where
  an-interpolant : (i : ℕ) → i ≤ length Ts → Interpolant (up_to Ts i) (beyond Ts i) (I i)
  an-interpolant i h = interpolation (up_to Ts i) (beyond Ts i) (gs.proves i h).proof

  follows : (v : Assignment) (i : ℕ) (S : List Constraint) → get_elem? Ts i ≡ some S → All (Meets v) S → True (I i) v → True (I (suc i)) v
  follows v i S at m =
      let h' : suc i ≤ length Ts = within-run Ts i S at in
      let h : i ≤ length Ts = omega arith in
      chain-step v (λ σ. occurs (sides (up_to Ts i) (beyond Ts i) σ)) (λ σ. occurs (sides (up_to Ts (suc i)) (beyond Ts (suc i)) σ))
      (gs.proves i h).proof (gs.proves (suc i) h').proof
      (table-unique (gs.proves i h).proof (gs.proves (suc i) h').proof ((gs.proves i h).are ∙ sym (gs.proves (suc i) h').are))
      (uniform-tree (gs.proves i h).proof (gs.uniform i h))
      (initial-words (sides (up_to Ts i) (beyond Ts i))) (initial-words (sides (up_to Ts (suc i)) (beyond Ts (suc i)))) (linked-cuts v Ts i S at m)

  pub run-chain : Chain Ts I
  run-chain = record {
    first = λ v. (an-interpolant 0 (omega arith)).A_true v nil;
    last = λ v. (an-interpolant (length Ts) (omega arith)).B_false v (subst (All (Meets v)) (sym (nothing-beyond Ts)) nil);
    next = follows;
    each = an-interpolant;
  }
