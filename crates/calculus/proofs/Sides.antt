-- The two sides of a line, tA and t - tA, and that every line made by a rule inherits what holds of them. Assumes nothing.
use mathlib.Core.Path.{◌≡◌, refl, sym, ◌∙◌, ap₂, subst}
use mathlib.Core.List.{List, [], ◌∷◌, ◌++◌, map}
use Prim.Native.Nat.{ℕ, zero, suc}
use native.Mathlib.Omega.{arith}
use native.Mathlib.Nat.{mul-le-mul_left}
use lib.IntN.{ℤ, pos, ◌+ℤ◌, ◌-ℤ◌, ◌*ℤ◌, +ℤ_idr, zero-*ℤ}
use lib.Signed.{◌≤ℤ◌}
use Rattle.integers.proofs.Differences.{ints, add-pn, mul-pn, pn-le}
use Rattle.integers.proofs.RingLaws.{ring-laws, sub_self}
pub use Rattle.forms.specs.Forms.{Side, A, B}
use Rattle.forms.specs.Forms.{Form, Kind, ≤0, =0, Holds, ConstraintHolds, ConstraintKind, says, ≠0, LineKind, plain, apart, kind_on, Constraint, Line, line_a, line_b, lines, All, nil, cons, ◌⊞◌, ◌·◌}
use Rattle.calculus.specs.Rules.{Nth, ◌▷◌, New, combine, reduce, scale}
use Rattle.calculus.proofs.Readings.{Reading}

-- ---- lists of lines
pub all-nth : {P : Line → Type 0} {ls : List Line} {l : Line} (i : ℕ) → All P ls → Nth ls i l → P l
all-nth i nil e = absurd (let z : ◌≡◌ {A = ℕ} 0 1 = cc in omega arith)
all-nth {P} zero (cons {x = x} h hs) e = subst P (let q : x ≡ _ = cc in q) h
all-nth (suc i) (cons h hs) e = all-nth i hs e

pub all_append : {P : Line → Type 0} {ls ms : List Line} → All P ls → All P ms → All P (ls ++ ms)
all_append nil g = g
all_append (cons h hs) g = cons h (all_append hs g)

pub all_map : {P : Constraint → Type 0} {Q : Line → Type 0} (f : Constraint → Line) {cs : List Constraint} → ((c : Constraint) → P c → Q (f c)) → All P cs → All Q (map f cs)
all_map f k nil = nil
all_map f k (cons {x = c} h hs) = cons (k c h) (all_map f k hs)

pub all_made : {Q : Line → Type 0} (f : Constraint → Line) (cs : List Constraint) → ((c : Constraint) → Q (f c)) → All Q (map f cs)
all_made f [] k = nil
all_made f (c ∷ cs) k = cons (k c) (all_made f cs k)

pub all-and : {P : Line → Type 0} {ls : List Line} {l : Line} → All P ls → P l → All P (ls ▷ l)
all-and nil h = cons h nil
all-and (cons g gs) h = cons g (all-and gs h)

-- ---- the sides
abbrev pub other : Side → Side
other A = B
other B = A

abbrev pub part : Side → ℤ → ℤ → ℤ
part A x xA = xA
part B x xA = x -ℤ xA

part-plus : (σ : Side) (x xA y yA : ℤ) → part σ (x +ℤ y) (xA +ℤ yA) ≡ part σ x xA +ℤ part σ y yA
part-plus A x xA y yA = refl
part-plus B x xA y yA = simp ring-laws

part-times : (σ : Side) (α x xA : ℤ) → part σ (α *ℤ x) (α *ℤ xA) ≡ α *ℤ part σ x xA
part-times A α x xA = refl
part-times B α x xA = simp ring-laws

pub part-multiple : (σ : Side) {π : Form → ℤ} (r : Reading π) (α : ℤ) (t t_A : Form) → part σ (π (α · t)) (π (α · t_A)) ≡ α *ℤ part σ (π t) (π t_A)
part-multiple σ {π} r α t t_A = ap₂ (part σ) (r.of-times α t) (r.of-times α t_A) ∙ part-times σ α (π t) (π t_A)

pub zero-form : {π : Form → ℤ} (r : Reading π) (t : Form) → π (pos 0 · t) ≡ pos 0
zero-form {π} r t = r.of-times (pos 0) t ∙ zero-*ℤ (π t)

-- what may be said of the side σ of a line by its kind, so that it passes to sums and multiples, and holds where the side is 0 since the line is the other's
pub record Cone (σ : Side) (H : LineKind → ℤ → Type 0) : Type 0 where
  pub plus : {k : Kind} {x y : ℤ} → H (plain k) x → H (plain k) y → H (plain k) (x +ℤ y)
  pub times : {k : Kind} {x : ℤ} (α : ℕ) → H (plain k) x → H (plain k) (pos α *ℤ x)
  pub any : {k : Kind} {x : ℤ} (α : ℤ) → H (plain =0) x → H (plain k) (α *ℤ x)
  pub none : (k : ConstraintKind) → H (kind_on (other σ) k) (pos 0)

abbrev pub Says : (H : LineKind → ℤ → Type 0) (π : Form → ℤ) (σ : Side) → Line → Type 0
Says H π σ l = H l.kind (part σ (π l.t) (π l.t_A))

abbrev pub On : (H : LineKind → ℤ → Type 0) (π : Form → ℤ) (σ : Side) → Constraint → Type 0
On H π σ c = H (kind_on σ c.kind) (π c.form)

module _ (σ : Side) {H : LineKind → ℤ → Type 0} (cone : Cone σ H) {π : Form → ℤ} (r : Reading π) where
  pub sum-literal : {k : Kind} (s s_A t t_A : Form) → H (plain k) (part σ (π s) (π s_A)) → H (plain k) (part σ (π t) (π t_A)) → H (plain k) (part σ (π (s ⊞ t)) (π (s_A ⊞ t_A)))
  sum-literal {k} s s_A t t_A h g = subst (H (plain k)) (sym (ap₂ (part σ) (r.of-sum s t) (r.of-sum s_A t_A) ∙ part-plus σ (π s) (π s_A) (π t) (π t_A))) (cone.plus h g)

  pub times-literal : {k : Kind} (α : ℤ) (t t_A : Form) → H (plain k) (α *ℤ part σ (π t) (π t_A)) → H (plain k) (part σ (π (α · t)) (π (α · t_A)))
  times-literal {k} α t t_A h = subst (H (plain k)) (sym (part-multiple σ r α t t_A)) h

  pub new-literal : {ls : List Line} {l : Line} → All (Says H π σ) ls → New ls l → Says H π σ l
  new-literal hs (combine {s} {s_A} {t} {t_A} i j α β p q _ _) =
      sum-literal (pos α · s) (pos α · s_A) (pos β · t) (pos β · t_A)
      (times-literal (pos α) s s_A (cone.times α (all-nth i hs p))) (times-literal (pos β) t t_A (cone.times β (all-nth j hs q)))
  new-literal hs (reduce {s = s} {s_A = s_A} {t = t} {t_A = t_A} i j α p q _) =
      sum-literal s s_A (α · t) (α · t_A) (all-nth i hs p) (times-literal α t t_A (cone.any α (all-nth j hs q)))
  new-literal hs (scale {t = t} {t_A = t_A} i α p _) = times-literal (pos α) t t_A (cone.times α (all-nth i hs p))

-- what is said of the bundle σ is said of the side σ of all initial lines
module _ {H : LineKind → ℤ → Type 0} {π : Form → ℤ} (r : Reading π) where
  other-A : Cone A H → (c : Constraint) → Says H π A (line_b c)
  other-A cone c = rw (zero-form r) (cone.none c.kind)

  other-B : Cone B H → (c : Constraint) → Says H π B (line_a c)
  other-B cone c = rw sub_self (cone.none c.kind)

  pub initial : (σ : Side) → Cone σ H → (bundle : Side → List Constraint) → All (On H π σ) (bundle σ) → All (Says H π σ) (lines (bundle A) (bundle B))
  initial A cone bundle h = all_append (all_map line_a (λ c h. h) h) (all_made line_b (bundle B) (other-A cone))
  initial B cone bundle h = all_append (all_made line_a (bundle A) (other-B cone)) (all_map line_b (λ c h. rw (zero-form r, +ℤ_idr) h) h)

-- ---- what is said
abbrev pub Zero : LineKind → ℤ → Type 0
Zero k z = z ≡ pos 0

zero-times : (α x : ℤ) → x ≡ pos 0 → α *ℤ x ≡ pos 0
zero-times α x h = rw h (simp ring-laws)

pub zeros : (σ : Side) → Cone σ Zero
zeros σ = record {
  plus = λ {k} {x} {y} h g. omega (ints, add-pn x y);
  times = λ {k} {x} α h. zero-times (pos α) x h;
  any = λ {k} {x} α h. zero-times α x h;
  none = λ k. refl;
}

-- a constraint t ≠ 0 keeps its side from 0, and the other side is 0
abbrev pub Holding : Side → LineKind → ℤ → Type 0
Holding σ (plain k) z = Holds k z
Holding A (apart A) z = ¬ (z ≡ pos 0)
Holding A (apart B) z = z ≡ pos 0
Holding B (apart A) z = z ≡ pos 0
Holding B (apart B) z = ¬ (z ≡ pos 0)

pub held : (σ : Side) (k : ConstraintKind) (z : ℤ) → ConstraintHolds k z → Holding σ (kind_on σ k) z
held σ (says k) z h = h
held A ≠0 z h = h
held B ≠0 z h = h

pub holds-plus : (k : Kind) (x y : ℤ) → Holds k x → Holds k y → Holds k (x +ℤ y)
holds-plus ≤0 x y h g = omega (ints, add-pn x y)
holds-plus =0 x y h g = omega (ints, add-pn x y)

le-times : (x : ℤ) (α : ℕ) → x ≤ℤ pos 0 → (pos α *ℤ x) ≤ℤ pos 0
le-times x α h = omega (ints, mul-pn (pos α) x, mul-le-mul_left α (pn-le h))

holds-times : (k : Kind) (x : ℤ) (α : ℕ) → Holds k x → Holds k (pos α *ℤ x)
holds-times ≤0 x α h = le-times x α h
holds-times =0 x α h = zero-times (pos α) x h

holds-zero : (k : Kind) (x : ℤ) → x ≡ pos 0 → Holds k x
holds-zero ≤0 x h = omega ints
holds-zero =0 x h = h

pub holds-cone : (σ : Side) → Cone σ (Holding σ)
holds-cone σ = record {
  plus = λ {k} {x} {y} h g. holds-plus k x y h g;
  times = λ {k} {x} α h. holds-times k x α h;
  any = λ {k} {x} α h. holds-zero k (α *ℤ x) (zero-times α x h);
  none = λ k. none σ k;
}
  where
    none : (σ : Side) (k : ConstraintKind) → Holding σ (kind_on (other σ) k) (pos 0)
    none σ (says k) = holds-zero k (pos 0) refl
    none A ≠0 = refl
    none B ≠0 = refl
