-- What testing the files tells: laws over plain values. Assumes nothing.
use Prim.Native.Nat.{ℕ, ◌-◌, ◌/◌, ◌%◌, ◌≤◌, ◌<◌, min}
use mathlib.Core.Path.{◌≡◌, sym, ap, ◌∙◌}
use mathlib.Core.Logic.{⊎_elim}
use mathlib.Core.Bool.{false, ◌&&◌}
use mathlib.Core.List.{List}
use native.Mathlib.Nat.{min-eq_left, min-eq_right, eq-zero-or-pos}
use native.Mathlib.Omega.{arith}
use lib.Dec.{leb}
use lib.IntN.{ℤ, nat_abs}
use lib.ListN.{length, take}
use lib.Seq.{length-take-le, take_all}
use borrow.Author.Tests.{le-leb, lt-leb, eq-eqb, ne_eqb}
use Rattle.std.proofs.Math.Nat.{min_comm}
use Rattle.forms.specs.Forms.{Formula}
use Rattle.answers.specs.Answers.{answer, file_lent, Result, ◌>>◌, need, each}
use Rattle.answers.proofs.Results.{fail}
use Rattle.number_bytes.specs.Numbers.{signeds}
use Rattle.number_bytes.proofs.Signed.{length-signeds}
use Rattle.formula.specs.Test.{Tested, tested, judged, test_formula}
use Rattle.formula_test.specs.declared.Tested.{Tested as Answered}
use Rattle.formula_test.specs.Promises.{as_tested}
use Rattle.guard.specs.Said.{values_of, test_files}

-- 7, file 4, place 0
abbrev pub refused-7 : Tested
refused-7 = record { answer = answer 7 file_lent 0; holds = false }

-- ---- what testing the files gives
-- more than 16 values are refused alike, however many
many : (f : List ℕ) (values : List ℤ) → 16 < length values → test_formula f values ≡ refused-7
unfolding test_formula tested judged
many f values h = ap (judged values) (fail _ _ (rw (le-leb 1 (length values) (omega arith), lt-leb (length values) 16 h)))

first-values : (f v : List ℕ) (n m : ℕ) → n ≡ min m 17 → test_formula f (signeds 4 n v) ≡ test_formula f (signeds 4 m v)
first-values f v n m e =
    ⊎_elim
    (λ (h : m - 17 ≡ 0). let q : n ≡ m = e ∙ min-eq_left (omega arith) in rw q)
    (λ (h : 0 < m - 17). let q : n ≡ 17 = e ∙ min-eq_right (omega arith) in
    many f (signeds 4 n v) (omega (arith, length-signeds 4 n v)) ∙ sym (many f (signeds 4 m v) (omega (arith, length-signeds 4 m v))))
    (eq-zero-or-pos (m - 17))

module _ (f v : List ℕ) where
  pub files-odd : 0 < length v % 4 → test_files f v ≡ refused-7
  unfolding test_files
  files-odd h = rw (ne_eqb (length v % 4) 0 (λ e. omega arith))

  files-whole : length v % 4 ≡ 0 → test_files f v ≡ test_formula f (values_of v)
  unfolding test_files
  files-whole h = rw (eq-eqb (length v % 4) 0 h)

  -- the first 17 values, in the front of an array, tell as much as all
  pub files-loaded : {c : Answered} (array : List ℤ) {values : List ℤ} (n : ℕ) → length v % 4 ≡ 0 → n ≡ min 17 (length v / 4) → n ≤ length array
      → values ≡ signeds 4 (length (take n array)) v → c ≡ as_tested (test_formula f values) → c ≡ as_tested (test_files f v)
  unfolding values_of
  files-loaded array n h e k s q =
      q ∙ ap as_tested
      (ap (test_formula f) s ∙ ap (λ (m : ℕ). test_formula f (signeds 4 m v)) (length-take-le n array k)
      ∙ first-values f v n (length v / 4) (e ∙ min_comm 17 (length v / 4)) ∙ sym (files-whole h))

-- ---- 65,537 bytes of the formula and 68 of the values tell as much as whole files
-- the values are judged first, then w, which comes of the formula
abbrev values-first : List ℤ → Result Formula → Tested
values-first values w = judged values (need (answer 7 file_lent 0) (leb 1 (length values) && leb (length values) 16) >> (each (λ i. answer 23 file_lent i) (λ z. leb (nat_abs z) 1_000_000) 0 values >> w))

formula-long : (values : List ℤ) (f g : List ℕ) → 65_536 < length f → 65_536 < length g → test_formula f values ≡ test_formula g values
unfolding test_formula tested
formula-long values f g h k = ap (values-first values) (fail _ _ (lt-leb (length f) 65_536 h) ∙ sym (fail _ _ (lt-leb (length g) 65_536 k)))

formula-cut : (values : List ℤ) (f : List ℕ) → test_formula (take 65_537 f) values ≡ test_formula f values
formula-cut values f =
    ⊎_elim
    (λ (e : length f - 65_537 ≡ 0). ap (λ (g : List ℕ). test_formula g values) (take_all 65_537 f (omega arith)))
    (λ (h : 0 < length f - 65_537). formula-long values (take 65_537 f) f (omega (arith, length-take-le 65_537 f (omega arith))) (omega arith))
    (eq-zero-or-pos (length f - 65_537))

files-long : (f v : List ℕ) → 68 ≤ length v → test_files f v ≡ refused-7
unfolding values_of
files-long f v h =
    ⊎_elim
    (λ (e : length v % 4 ≡ 0). files-whole f v e ∙ many f (values_of v) (omega (arith, length-signeds 4 (length v / 4) v)))
    (λ (k : 0 < length v % 4). files-odd f v k)
    (eq-zero-or-pos (length v % 4))

files-cut : (f v : List ℕ) → test_files (take 65_537 f) v ≡ test_files f v
unfolding test_files
files-cut f v = rw (formula-cut (values_of v) f)

pub read-enough : (f v : List ℕ) → test_files (take 65_537 f) (take 68 v) ≡ test_files f v
read-enough f v =
    files-cut f (take 68 v)
    ∙ ⊎_elim
    (λ (e : length v - 68 ≡ 0). ap (test_files f) (take_all 68 v (omega arith)))
    (λ (h : 0 < length v - 68). files-long f (take 68 v) (omega (arith, length-take-le 68 v (omega arith))) ∙ sym (files-long f v (omega arith)))
    (eq-zero-or-pos (length v - 68))
