-- The line that a branch starts with, line i with t + x and tA + y: the laws of `started_line`. Assumes nothing.
use mathlib.Core.Path.{◌≡◌, refl, sym, ◌∙◌, ap, subst}
use mathlib.Core.List.{List, []}
use mathlib.Core.Bool.{Bool, true, false, ◌&&◌, and-true}
use Prim.Native.Nat.{ℕ, suc, ◌+◌, ◌*◌, ◌<◌, ◌≤◌}
use native.Mathlib.Omega.{arith}
use lib.Dec.{T, leb→le, le→leb}
use lib.IntN.{ℤ, pos, ◌+ℤ◌, ◌*ℤ◌, +ℤ_idr}
use lib.ListN.{length, get_or}
use Rattle.integers.specs.Magnitude.{Within}
use Rattle.forms.specs.Edition.{edition1}
use Rattle.forms.specs.Forms.{Form, Kind, ≤0, LineKind, plain, Line, line, ◌·◌, ◌plus◌, small, every}
use Rattle.calculus.specs.Rules.{in_range}
use Rattle.lines.specs.Parts.{Agree}
use Rattle.lines.proofs.Parts.{agree_trans}
use Rattle.forms.specs.Flat.{line_kind_of, form_in}
use Rattle.lines.specs.Buffer.{size, line_in, Bounded, Raised, LineCopy, LineStart, mixed_line, raised_line, copied_line, started_line}
use Rattle.lines.proofs.Lines.{line_as, before, form-ext, line-ext, bounded-same}
use Rattle.lines.proofs.Mixing.{mixed-keeps, mixed-line, length-mixed_line, mix-zero, one-mul, one_form}
use Rattle.lines.proofs.Range.{and_left, and_right, and_both, bounded-more, bounded-line}
use Rattle.lines.proofs.Raising.{length-raised_line, raised_line-keeps, raised_line-line}

-- ---- f times line i as line n, and what is raised in it
module _ {K : ℕ} {buf : List ℤ} {i n : ℕ} (p : LineCopy K buf i n) (f : ℤ) where
  length-times : length (mixed_line K f i (pos 0) i n buf) ≡ length buf
  length-times = length-mixed_line K f i (pos 0) i n buf p.branch.room p.first p.first

  pub times-line : (kinds kinds' : List ℕ) {s : Line} → line_in K kinds buf i ≡ s → line_in K kinds' (mixed_line K f i (pos 0) i n buf) n ≡ line_as (line_kind_of (get_or kinds' n 0)) (f · s.t) (f · s.t_A)
  times-line kinds kinds' {s} es =
      mixed-line K f i (pos 0) i n buf p.branch.room p.first p.first kinds kinds' s s es es
      ∙ line-ext refl (mix-zero f s.t) (mix-zero f s.t_A)

  pub times-room : n * size K + size K ≤ length (mixed_line K f i (pos 0) i n buf)
  times-room = omega (arith, p.branch.room, length-times)

  module _ (x y : ℕ) where
    pub length-new : length (raised_line K n x y (mixed_line K f i (pos 0) i n buf)) ≡ length buf
    length-new = length-raised_line K n x y (mixed_line K f i (pos 0) i n buf) ∙ length-times

    pub new-keeps : Agree (n * size K) buf (raised_line K n x y (mixed_line K f i (pos 0) i n buf))
    new-keeps = agree_trans (mixed-keeps K f i (pos 0) i n buf p.branch.room p.first p.first) (raised_line-keeps K n x y (mixed_line K f i (pos 0) i n buf))

    pub new_line : (kinds kinds' : List ℕ) {s : Line} → line_in K kinds buf i ≡ s
        → line_in K kinds' (raised_line K n x y (mixed_line K f i (pos 0) i n buf)) n ≡ line_as (line_kind_of (get_or kinds' n 0)) (f · s.t plus x) (f · s.t_A plus y)
    new_line kinds kinds' es = raised_line-line K n x y (mixed_line K f i (pos 0) i n buf) times-room kinds' _ (times-line kinds kinds' es)

    -- Its constant terms are f times those of line i.
    pub new-raised : Within edition1.range (f *ℤ (form_in K buf (i * size K)).d +ℤ pos x) → Within edition1.range (f *ℤ (form_in K buf (i * size K + (K + 1))).d +ℤ pos y)
        → Raised K (mixed_line K f i (pos 0) i n buf) n x y
    unfolding line_in ◌·◌
    new-raised t t_A =
        let e = times-line [] [] refl in
        record { t = rw (ap (λ (l : Line). l.t.d) e) t; t_A = rw (ap (λ (l : Line). l.t_A.d) e) t_A }

module _ {K : ℕ} {buf : List ℤ} {i n x y : ℕ} (p : LineStart K buf i n x y) where
  -- ---- what stays
  pub length-started : length (started_line K i n x y buf) ≡ length buf
  unfolding started_line copied_line
  length-started = length-new p.copy (pos 1) x y

  pub started-keeps : Agree (n * size K) buf (started_line K i n x y buf)
  unfolding started_line copied_line
  started-keeps = new-keeps p.copy (pos 1) x y

  -- ---- the new line, whose kind is stored apart
  pub started-line : (kinds kinds' : List ℕ) {s : Line} → line_in K kinds buf i ≡ s → {k : Kind} → line_kind_of (get_or kinds' n 0) ≡ plain k
      → line_in K kinds' (started_line K i n x y buf) n ≡ line k (s.t plus x) (s.t_A plus y)
  unfolding started_line copied_line
  started-line kinds kinds' {s} es e =
      new_line p.copy (pos 1) x y kinds kinds' es
      ∙ line-ext e (ap (λ (t : Form). t plus x) (one_form s.t)) (ap (λ (t : Form). t plus y) (one_form s.t_A))

  -- ---- the copy may be raised
  pub copy-raised : (buf' : List ℤ) → buf' ≡ copied_line K i n buf → (n * size K + size K ≤ length buf') × Raised K buf' n x y
  unfolding copied_line
  copy-raised buf' e =
      rw e
      (times-room p.copy (pos 1), new-raised p.copy (pos 1) x y (rw (one-mul (form_in K buf (i * size K)).d) p.fits.t) (rw (one-mul (form_in K buf (i * size K + (K + 1))).d) p.fits.t_A))

-- Nothing more.
pub plus_none : (t : Form) → t plus 0 ≡ t
unfolding ◌plus◌
plus_none t = form-ext refl (+ℤ_idr t.d)

-- ---- two constant terms that are in range where the line that has them is
pub terms-within : (x y : ℕ) (k : Kind) (t t_A : Form) → T (in_range edition1.range (line k (t plus x) (t_A plus y))) → Within edition1.range (t.d +ℤ pos x) × Within edition1.range (t_A.d +ℤ pos y)
unfolding in_range small ◌plus◌
terms-within x y k t t_A h =
    let r = edition1.range in
    let all : List ℤ → Bool = every (small r) in
    let one = all t.coeffs && small r (t.d +ℤ pos x) in
    let two = and_left (one && all t_A.coeffs) (small r (t_A.d +ℤ pos y)) h in (
      record { abs = leb→le _ _ (and_right (all t.coeffs) (small r (t.d +ℤ pos x)) (and_left one (all t_A.coeffs) two)) },
      record { abs = leb→le _ _ (and_right (one && all t_A.coeffs) (small r (t_A.d +ℤ pos y)) h) },
    )

-- ---- line i may be raised: where the raised line is in range
pub raised-line : (K : ℕ) (kinds : List ℕ) (buf : List ℤ) (i x y : ℕ) (k : Kind) → T (in_range edition1.range (line k ((line_in K kinds buf i).t plus x) ((line_in K kinds buf i).t_A plus y))) → Raised K buf i x y
unfolding line_in
raised-line K kinds buf i x y k h = let w = terms-within x y k (line_in K kinds buf i).t (line_in K kinds buf i).t_A h in record { t = w.0; t_A = w.1 }

-- ---- ranges
-- A raised line is in range if the two constant terms that are raised are.
pub raised-range : (r x y : ℕ) (k : LineKind) (k' : Kind) (t t_A : Form) → T (in_range r (line_as k t t_A)) → in_range r (line k' (t plus x) (t_A plus y)) ≡ small r (t.d +ℤ pos x) && small r (t_A.d +ℤ pos y)
unfolding in_range ◌plus◌
raised-range r x y k k' t t_A h =
    let all : List ℤ → Bool = every (small r) in
    let one = all t.coeffs && small r t.d in
    let both = and_left (one && all t_A.coeffs) (small r t_A.d) h in
    let e : all t.coeffs ≡ true = holds (all t.coeffs) (and_left (all t.coeffs) (small r t.d) (and_left one (all t_A.coeffs) both)) in
    let f : all t_A.coeffs ≡ true = holds (all t_A.coeffs) (and_right one (all t_A.coeffs) both) in
    rw (e, f) (ap (λ (b : Bool). b && small r (t_A.d +ℤ pos y)) (and-true (small r (t.d +ℤ pos x))))
  where
    holds : (b : Bool) → T b → b ≡ true
    holds true h = refl
    holds false h = absurd h

-- Line i of n bounded lines.
module _ {K : ℕ} {buf : List ℤ} {i n : ℕ} (room : n * size K ≤ length buf) (b : Bounded K buf n) (h : i < n) (kinds : List ℕ) (x y : ℕ) (k : Kind) where
  in-range : T (in_range edition1.range (line_in K kinds buf i))
  in-range = bounded-line K buf i (omega (arith, before K h)) kinds b h

  -- What a test of its two constant terms tells.
  pub tested-range : {r : Bool} → r ≡ small edition1.range ((form_in K buf (i * size K)).d +ℤ pos x) && small edition1.range ((form_in K buf (i * size K + (K + 1))).d +ℤ pos y)
      → in_range edition1.range (line k ((line_in K kinds buf i).t plus x) ((line_in K kinds buf i).t_A plus y)) ≡ r
  unfolding line_in
  tested-range e = raised-range edition1.range x y (line_in K kinds buf i).kind k (line_in K kinds buf i).t (line_in K kinds buf i).t_A in-range ∙ sym e

  pub fitting-range : Raised K buf i x y → T (in_range edition1.range (line k ((line_in K kinds buf i).t plus x) ((line_in K kinds buf i).t_A plus y)))
  unfolding line_in small
  fitting-range f =
      subst T
      (sym (raised-range edition1.range x y (line_in K kinds buf i).kind k (line_in K kinds buf i).t (line_in K kinds buf i).t_A in-range))
      (and_both (small edition1.range ((line_in K kinds buf i).t.d +ℤ pos x)) (small edition1.range ((line_in K kinds buf i).t_A.d +ℤ pos y)) (le→leb _ _ f.t.abs) (le→leb _ _ f.t_A.abs))

-- Where no kinds are stored all are inequalities, as good as any in a proof about numbers.
pub none-stored : (n : ℕ) → line_kind_of (get_or [] n 0) ≡ plain ≤0
unfolding line_kind_of
none-stored n = refl

-- The new line of a start is in range, and so the lines are bounded with it.
module _ {K : ℕ} {buf : List ℤ} {i n x y : ℕ} (p : LineStart K buf i n x y) where
  pub started-range : (kinds : List ℕ) (k : Kind) {s : Line} → line_in K kinds buf i ≡ s → T (in_range edition1.range (line k (s.t plus x) (s.t_A plus y)))
  started-range kinds k e =
      subst (λ (l : Line). T (in_range edition1.range (line k (l.t plus x) (l.t_A plus y)))) e
      (fitting-range (omega (arith, p.copy.branch.room)) p.copy.branch.bounded p.copy.first kinds x y k p.fits)

  pub started-bounded : Bounded K (started_line K i n x y buf) (suc n)
  started-bounded =
      bounded-more K (started_line K i n x y buf) n (omega (arith, p.copy.branch.room, length-started p)) []
      (bounded-same (started-keeps p) p.copy.branch.bounded)
      (subst (λ (l : Line). T (in_range edition1.range l)) (sym (started-line p [] [] refl (none-stored n))) (started-range [] ≤0 refl))
