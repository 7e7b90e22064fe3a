-- More in the constant term of a line's t or tA: the laws of `raised`. Assumes nothing.
use mathlib.Core.Path.{◌≡◌, refl, sym, ◌∙◌, ap}
use mathlib.Core.List.{List}
use Prim.Native.Nat.{ℕ, ◌+◌, ◌*◌, ◌<◌, ◌≤◌}
use native.Mathlib.Omega.{arith}
use lib.IntN.{ℤ, pos, ◌+ℤ◌}
use lib.ListN.{length, get_or, take, length-set}
use lib.Seq.{drop-set-lt, get_or-set_same, get_or-set_other}
use Rattle.integers.specs.Magnitude.{Within}
use Rattle.forms.specs.Edition.{edition1}
use Rattle.forms.specs.Forms.{Line, ◌plus◌}
use Rattle.lines.specs.Parts.{Agree}
use Rattle.lines.proofs.Parts.{agree-set, agree-part, agree_trans}
use Rattle.forms.specs.Flat.{form_in}
use Rattle.lines.specs.Buffer.{size, line_in, raised, raised_line, Raised}
use Rattle.lines.proofs.Lines.{line_as, form-ext, line-ext, form-same}

module _ (buf : List ℤ) (at x : ℕ) where
  pub length-raised : length (raised at x buf) ≡ length buf
  unfolding raised
  length-raised = length-set buf at (get_or buf at (pos 0) +ℤ pos x)

  pub raised_keeps : (m : ℕ) → m ≤ at → Agree m buf (raised at x buf)
  unfolding raised
  raised_keeps m h = agree-set m buf at (get_or buf at (pos 0) +ℤ pos x) h

-- The form whose constant term it is, a form behind it, and one before it.
module _ (K : ℕ) (buf : List ℤ) (at x : ℕ) where
  form-raised : at + K < length buf → form_in K (raised (at + K) x buf) at ≡ form_in K buf at plus x
  unfolding raised ◌plus◌
  form-raised h =
      let v = get_or buf (at + K) (pos 0) +ℤ pos x in
      form-ext (sym (agree-part (agree-set (at + K) buf (at + K) v (omega arith)) at K (omega arith))) (get_or-set_same buf (at + K) v (pos 0) h)

  form-behind : (o : ℕ) → o < at → form_in K (raised o x buf) at ≡ form_in K buf at
  unfolding raised
  form-behind o h =
      let v = get_or buf o (pos 0) +ℤ pos x in
      form-ext (ap (take K) (drop-set-lt at buf o v h)) (get_or-set_other buf o (at + K) v (pos 0) (λ e. omega arith))

  form-before : (o : ℕ) → at + K < o → form_in K (raised o x buf) at ≡ form_in K buf at
  form-before o h = sym (form-same K (raised_keeps buf o x o (omega arith)) at h)

module _ (K : ℕ) (kinds : List ℕ) (buf : List ℤ) (n x : ℕ) (room : n * size K + size K ≤ length buf) (l : Line) (is : line_in K kinds buf n ≡ l) where
  pub raised-t : line_in K kinds (raised (n * size K + K) x buf) n ≡ line_as l.kind (l.t plus x) l.t_A
  unfolding line_in
  raised-t =
      line-ext refl (form-raised K buf (n * size K) x (omega arith)) (form-behind K buf (n * size K + (K + 1)) x (n * size K + K) (omega arith))
      ∙ ap (λ (z : Line). line_as z.kind (z.t plus x) z.t_A) is

  pub raised-t_a : line_in K kinds (raised (n * size K + (K + 1) + K) x buf) n ≡ line_as l.kind l.t (l.t_A plus x)
  unfolding line_in
  raised-t_a =
      line-ext refl (form-before K buf (n * size K) x (n * size K + (K + 1) + K) (omega arith)) (form-raised K buf (n * size K + (K + 1)) x (omega arith))
      ∙ ap (λ (z : Line). line_as z.kind z.t (z.t_A plus x)) is

-- ---- both constant terms of line n
module _ (K n x y : ℕ) (buf : List ℤ) where
  abbrev half : List ℤ
  half = raised (n * size K + K) x buf

  pub length-raised_line : length (raised_line K n x y buf) ≡ length buf
  unfolding raised_line
  length-raised_line = length-raised half (n * size K + (K + 1) + K) y ∙ length-raised buf (n * size K + K) x

  pub raised_line-keeps : Agree (n * size K) buf (raised_line K n x y buf)
  unfolding raised_line
  raised_line-keeps = agree_trans (raised_keeps buf (n * size K + K) x (n * size K) (omega arith)) (raised_keeps half (n * size K + (K + 1) + K) y (n * size K) (omega arith))

  module _ (room : n * size K + size K ≤ length buf) where
    pub raised_line-line : (kinds : List ℕ) (l : Line) → line_in K kinds buf n ≡ l → line_in K kinds (raised_line K n x y buf) n ≡ line_as l.kind (l.t plus x) (l.t_A plus y)
    unfolding raised_line
    raised_line-line kinds l is = raised-t_a K kinds half n y (omega (arith, length-raised buf (n * size K + K) x)) _ (raised-t K kinds buf n x room l is)

    -- What the two raises ask, at the places that the code computed.
    module _ (fits : Raised K buf n x y) (at : ℕ) (buf' : List ℤ) where
      pub t-term : at ≡ n * size K → buf' ≡ buf → (at + K < length buf') × Within edition1.range (get_or buf' (at + K) (pos 0) +ℤ pos x)
      t-term e b = (omega (arith, ap length b), rw (e, b) fits.t)

      pub t_A-term : at ≡ n * size K + (K + 1) → buf' ≡ raised (n * size K + K) x buf → (at + K < length buf') × Within edition1.range (get_or buf' (at + K) (pos 0) +ℤ pos y)
      unfolding raised
      t_A-term e b =
          let v = get_or buf (n * size K + K) (pos 0) +ℤ pos x in
          (omega (arith, ap length b, length-raised buf (n * size K + K) x), rw (e, b, get_or-set_other buf (n * size K + K) (n * size K + (K + 1) + K) v (pos 0) (λ i. omega arith)) fits.t_A)
