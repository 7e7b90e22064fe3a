-- A table with strengthens replaced by roundings by 1 derives the same formula. Assumes nothing.
use mathlib.Core.Path.{◌≡◌, refl, sym, ◌∙◌, ap, subst}
use mathlib.Core.Logic.{inl, inr}
use mathlib.Core.List.{List, [], ◌∷◌}
use mathlib.Core.Bool.{Bool}
use Prim.Native.Nat.{ℕ, suc, max, ◌+◌, ◌≤◌, ◌<◌}
use native.Mathlib.Omega.{arith}
use lib.ListN.{length}
use lib.IntN.{ℤ, pos, ◌+ℤ◌, +ℤ_idr}
use Rattle.integers.specs.Divides.{◌∣ℤ◌}
use Rattle.forms.specs.Edition.{Edition}
use Rattle.forms.specs.Forms.{Form, ≤0, =0, Line, line, Constraint, occurs, Formula, ◌and◌, ◌or◌, coeff, ◌plus◌}
use Rattle.calculus.specs.Rules.{Nth, ◌▷◌, inference, Room, StrideOf, Closed, derive, strengthen, round, split_eq, split_neq, number, stride, Rounded, last, more, Derive, Strengthen, Round, Entry, row, claims, entries, entries_rounded, row_count, row_count_rounded, depth, depth_rounded, Proves}
use Rattle.calculus.specs.Tied.{◌then◌, OnlyStride, Tied, TiedRounded}
use Rattle.calculus.proofs.Drawn.{plus-0}

-- ---- the line made last
nth_last : (ls : List Line) (l m : Line) → Nth (ls ▷ l) (length ls) m → l ≡ m
nth_last [] l m e = cc
nth_last (x ∷ ls) l m e = nth_last ls l m e

-- ---- a close by stride, taken apart
record Middle (in_b : ℕ → Bool) (ls : List Line) (E : Formula) (m g : ℕ) : Type 0 where
  s : Form
  s_A : Form
  at : Nth ls m (line =0 s s_A)
  low : 2 ≤ g
  all : (c : ℕ) → pos g ∣ℤ coeff s c
  not : ¬ (pos g ∣ℤ s.d)
  is : StrideOf in_b g s_A E

module _ (e : Edition) (in_b : ℕ → Bool) where
  middle : {ls : List Line} {E : Formula} (p : Closed e in_b ls E) (m g : ℕ) → OnlyStride p m g → Middle in_b ls E m g
  middle (derive _ _ _ _) m g h = absurd h
  middle (strengthen _ _ _ _ _ _) m g h = absurd h
  middle (round _ _ _ _ _ _) m g h = absurd h
  middle (split_eq _ _ _ _ _ _) m g h = absurd h
  middle (split_neq _ _ _ _ _ _) m g h = absurd h
  middle (number _ _ _ _) m g h = absurd h
  middle {ls} {E} (stride {t = t} {t_A = t_A} i k at low all not is) m g h =
      subst (λ (m : ℕ). Middle in_b ls E m g) h.0 (subst (λ (g : ℕ). Middle in_b ls E i g) h.1 (record { s = t; s_A = t_A; at = at; low = low; all = all; not = not; is = is }))

  -- the same, of the line made last
  own : (ls : List Line) (t t_A : Form) {E : Formula} (g : ℕ) → Middle in_b (ls ▷ line =0 t t_A) E (length ls) g
      → (2 ≤ g) × ((c : ℕ) → pos g ∣ℤ coeff t c) × (¬ (pos g ∣ℤ t.d)) × StrideOf in_b g t_A E
  own ls t t_A {E} g m =
      let same : line =0 m.s m.s_A ≡ line =0 t t_A = sym (nth_last ls (line =0 t t_A) (line =0 m.s m.s_A) m.at) in
      subst (λ (l : Line). (2 ≤ g) × ((c : ℕ) → pos g ∣ℤ coeff l.t c) × (¬ (pos g ∣ℤ l.t.d)) × StrideOf in_b g l.t_A E) same (m.low, m.all, m.not, m.is)

  -- ---- what derives I with the entries es and then the rest, in so many rows and so deep
  pub record Tie (ls : List Line) (I : Formula) (rest es : List Entry) (rows deep : ℕ) : Type 0 where
    pub proof : Closed e in_b ls I
    pub are : entries proof rest ≡ es
    pub few : row_count proof ≤ rows
    pub flat : depth proof ≤ deep

  record TieRounded (ls : List Line) (t t_A : Form) (g k j : ℕ) (I : Formula) (rest es : List Entry) (rows deep : ℕ) : Type 0 where
    proof : Rounded e in_b ls t t_A g k j I
    are : entries_rounded proof rest ≡ es
    few : row_count_rounded proof ≤ rows
    flat : depth_rounded proof ≤ deep

  module _ {ls : List Line} {t t_A : Form} {I1 E I0 : Formula} (i : ℕ) (at : Nth ls i (line ≤0 t t_A)) (room : Room e ls (line ≤0 (t plus 1) (t_A plus 1))) where
    kept : {rest b a es1 es : List Entry} {r1 rE r0 d1 dE d0 : ℕ} → Tie (ls ▷ line ≤0 (t plus 1) (t_A plus 1)) I1 a es1 r1 d1 → Tie (ls ▷ line =0 t t_A) E b a rE dE
        → Tie (ls ▷ line ≤0 (t plus 1) t_A) I0 rest b r0 d0 → es ≡ row (Strengthen i) ∷ es1
        → Tie ls (I1 or (E and I0)) rest es (suc (r1 + rE + r0)) (suc (max d1 (max dE d0)))
    kept x1 xE x0 q = record {
      proof = strengthen i at room x1.proof xE.proof x0.proof;
      are = rw (x0.are, xE.are, x1.are) (sym q);
      few = omega (arith, x1.few, xE.few, x0.few);
      flat = omega (arith, x1.flat, xE.flat, x0.flat);
    }

    -- t+1 with tA is t+1 with tA+0
    replaced : {rest a es1 es : List Entry} {r1 r0 d1 d0 : ℕ} (rE dE g : ℕ) → 1 ≤ e.rounding → Middle in_b (ls ▷ line =0 t t_A) E (length ls) g
        → Tie (ls ▷ line ≤0 (t plus 1) (t_A plus 1)) I1 a es1 r1 d1 → Tie (ls ▷ line ≤0 (t plus 1) t_A) I0 rest a r0 d0 → es ≡ row (Round i g 1) ∷ es1
        → Tie ls (I1 or (E and I0)) rest es (suc (r1 + rE + r0)) (suc (max d1 (max dE d0)))
    replaced {rest = rest} {a = a} {r0 = r0} {d0 = d0} rE dE g most m x1 x0 q =
        let (low, all, not, is) = own ls t t_A g m in
        let y0 = subst (λ (u : Form). Tie (ls ▷ line ≤0 (t plus 1) u) I0 rest a r0 d0) (sym (plus-0 t_A)) x0 in
        let is0 = subst (λ (u : Form). StrideOf in_b g u E) (sym (plus-0 t_A)) is in
        record {
          proof = round i g 1 (record { at = at; stride = low; least = omega arith; most = most; divided = all; never = never not; room = room }) x1.proof (last refl is0 y0.proof);
          are = rw (y0.are, x1.are) (sym q);
          few = omega (arith, x1.few, y0.few);
          flat = omega (arith, x1.flat, y0.flat);
        }
      where
        never : {g : ℕ} → ¬ (pos g ∣ℤ t.d) → (j : ℕ) → j < 1 → ¬ (pos g ∣ℤ t.d +ℤ pos j)
        never {g} not j b h = not (subst (λ (z : ℤ). pos g ∣ℤ z) (ap (λ (n : ℕ). t.d +ℤ pos n) (let z : j ≡ 0 = omega arith in z) ∙ +ℤ_idr t.d) h)

    strengthened : {r1 r0 d1 d0 : ℕ} (rE dE : ℕ) (p1 : Closed e in_b (ls ▷ line ≤0 (t plus 1) (t_A plus 1)) I1) (pE : Closed e in_b (ls ▷ line =0 t t_A) E) (p0 : Closed e in_b (ls ▷ line ≤0 (t plus 1) t_A) I0)
        → 1 ≤ e.rounding
        → ((rest es : List Entry) → Tied p1 rest es → Tie (ls ▷ line ≤0 (t plus 1) (t_A plus 1)) I1 rest es r1 d1)
        → ((rest es : List Entry) → Tied pE rest es → Tie (ls ▷ line =0 t t_A) E rest es rE dE)
        → ((rest es : List Entry) → Tied p0 rest es → Tie (ls ▷ line ≤0 (t plus 1) t_A) I0 rest es r0 d0)
        → (rest es : List Entry) → Tied (strengthen i at room p1 pE p0) rest es → Tie ls (I1 or (E and I0)) rest es (suc (r1 + rE + r0)) (suc (max d1 (max dE d0)))
    strengthened rE dE p1 pE p0 most k1 kE k0 rest es (inl (es1, (a, (b, h0, hE), h1), q)) = kept (k1 a es1 h1) (kE b a hE) (k0 rest b h0) q
    strengthened rE dE p1 pE p0 most k1 kE k0 rest es (inr (g, only, (es1, (a, h0, h1), q))) = replaced rE dE g most (middle pE (length ls) g only) (k1 a es1 h1) (k0 rest a h0) q

  mutual
    pub tied : {ls : List Line} {I : Formula} (p : Closed e in_b ls I) → 1 ≤ e.rounding → (rest es : List Entry) → Tied p rest es → Tie ls I rest es (row_count p) (depth p)
    tied (derive {l = l} claimed n room p) most rest es h =
        let x = tied p most rest h.0 h.1 in
        record {
          proof = derive claimed n room x.proof;
          are = ap (λ (y : List Entry). row (Derive (inference n)) ∷ claims claimed l y) x.are ∙ sym h.2;
          few = omega (arith, x.few);
          flat = x.flat;
        }
    tied (strengthen i at room p1 pE p0) most rest es h =
        strengthened i at room (row_count pE) (depth pE) p1 pE p0 most (λ r x. tied p1 most r x) (λ r x. tied pE most r x) (λ r x. tied p0 most r x) rest es h
    tied (round i g k r p ps) most rest es h =
        let y = tied-rounded ps most rest h.1.0 h.1.1 in
        let x = tied p most h.1.0 h.0 h.1.2 in
        record { proof = round i g k r x.proof y.proof; are = rw (y.are, x.are) (sym h.2); few = omega (arith, x.few, y.few); flat = omega (arith, x.flat, y.flat) }
    tied (split_eq i at r1 r2 p q) most rest es h =
        let y = tied q most rest h.1.0 h.1.1 in
        let x = tied p most h.1.0 h.0 h.1.2 in
        record { proof = split_eq i at r1 r2 x.proof y.proof; are = rw (y.are, x.are) (sym h.2); few = omega (arith, x.few, y.few); flat = omega (arith, x.flat, y.flat) }
    tied (split_neq i at r1 r2 p q) most rest es h =
        let y = tied q most rest h.1.0 h.1.1 in
        let x = tied p most h.1.0 h.0 h.1.2 in
        record { proof = split_neq i at r1 r2 x.proof y.proof; are = rw (y.are, x.are) (sym h.2); few = omega (arith, x.few, y.few); flat = omega (arith, x.flat, y.flat) }
    tied (number i at z f) most rest es h = record { proof = number i at z f; are = sym h; few = omega arith; flat = omega arith }
    tied (stride i g at low all not is) most rest es h = record { proof = stride i g at low all not is; are = sym h; few = omega arith; flat = omega arith }

    tied-rounded : {ls : List Line} {t t_A : Form} {g k j : ℕ} {I : Formula} (p : Rounded e in_b ls t t_A g k j I) → 1 ≤ e.rounding → (rest es : List Entry) → TiedRounded p rest es
        → TieRounded ls t t_A g k j I rest es (row_count_rounded p) (depth_rounded p)
    tied-rounded (last b is p) most rest es h =
        let x = tied p most rest es h in
        record { proof = last b is x.proof; are = x.are; few = x.few; flat = x.flat }
    tied-rounded (more b is p ps) most rest es h =
        let y = tied-rounded ps most rest h.0 h.1 in
        let x = tied p most h.0 es h.2 in
        record { proof = more b is x.proof y.proof; are = ap (entries x.proof) y.are ∙ x.are; few = omega (arith, x.few, y.few); flat = omega (arith, x.flat, y.flat) }

-- a table with any number of strengthens so replaced proves the same formula
pub tied-proves : {e : Edition} {A B : List Constraint} {es es1 : List Entry} {I : Formula} → 1 ≤ e.rounding → (p : Proves e A B es I) → Tied p.proof [] es1 → Proves e A B es1 I
tied-proves {e} {B = B} {es1 = es1} most p h =
    let x = tied e (occurs B) p.proof most [] es1 h in
    record { proof = x.proof; are = x.are; rows = omega (arith, p.rows, x.few); opened = omega (arith, p.opened, x.flat) }
