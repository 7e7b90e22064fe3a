-- Strides that are powers of two, quickly: the quick way, in 32-bit words that wrap, and the old one agree for every formula and all permitted values; they
-- agree for every integer assignment. docs/FORMAT.md, "The order of tests". Assumes nothing.
use Rattle.std.specs.Prelude.{◌≡◌, ◌↔◌, true, List, ℕ, ◌+◌, ◌*◌, ◌%◌, ◌^◌, ◌≤◌, ◌<◌, length, ℤ, pos, ◌+ℤ◌, ◌-ℤ◌, ◌*ℤ◌}
use Rattle.integers.specs.Divides.{◌∣ℤ◌}
use Rattle.forms.specs.Forms.{Form, value, Assignment, Formula}
use Rattle.number_bytes.specs.Numbers.{Bytes, unsigned, signed}
use Rattle.formula.specs.Test.{judge, registers}
use Rattle.form_value.specs.Quick.{word, word_value, Power, power, quick_judge}
use Rattle.formula_test.specs.declared.Tested.{Tested}
use Rattle.formula_test.specs.Promises.{Tests}
use Rattle.guarantee.specs.Testing.{Testable}

pub record QuickAgrees : Type 0 where
  -- the word of a number is below 2^32 and differs from it by a multiple of that
  pub congruent : (z : ℤ) → (word z < 4_294_967_296) × (pos 4_294_967_296 ∣ℤ z -ℤ pos (word z))
  -- words are added and multiplied as their numbers are, modulo 2^32
  pub sum : (a b : ℤ) → word (a +ℤ b) ≡ (word a + word b) % 4_294_967_296
  pub product : (a b : ℤ) → word (a *ℤ b) ≡ word a * word b % 4_294_967_296
  -- the word of a number of four bytes is what they say unsigned
  pub bytes : (bs : List ℕ) → Bytes bs → length bs ≡ 4 → word (signed bs) ≡ unsigned bs
  -- the sum in words is a word, below 2^32, and the sum modulo 2^32
  pub words : (t : Form) (v : Assignment) → (word_value t v < 4_294_967_296) × (pos 4_294_967_296 ∣ℤ value t v -ℤ pos (word_value t v))
  -- so that a power of two, up to 2^30, divides the word just where it divides the sum
  pub divides : (e : ℕ) → 1 ≤ e → e ≤ 30 → (t : Form) (v : Assignment) → pos (2 ^ e) ∣ℤ pos (word_value t v) ↔ pos (2 ^ e) ∣ℤ value t v
  -- words are used just where g is 2^e for an e from 1 to 30
  pub powers : (g : ℕ) → power g ≡ true ↔ Power g
  -- both ways agree
  pub agrees : (I : Formula) (v : Assignment) → quick_judge I v ≡ judge I v
  -- and wherever testing a formula accepts, which it does just where there is such an x (`TestingPromised`), what it tells is the quick way's truth
  pub tells : (formula : List ℕ) (values : List ℤ) (r : Tested) → Tests formula values r → (x : Testable formula values) → r.holds ≡ quick_judge x.formula (registers values)
