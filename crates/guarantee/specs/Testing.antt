-- Testing a formula: what is accepted, and what is then told, of every file, whoever wrote it, to 600 levels. Of what the function test ensures. Assumes nothing.
use Rattle.std.specs.Prelude.{◌≡◌, ◌↔◌, true, List, [], ◌∷◌, ℕ, ◌+◌, ◌*◌, ◌≤◌, ℤ, pos, nat_abs, length, take, drop}
use Rattle.std.proofs.Math.Option.{some}
use Rattle.forms.specs.Forms.{All, ≤0, =0, Form, Formula, literal, ◌divides◌, ◌and◌, ◌or◌, height, True}
use Rattle.number_bytes.specs.Numbers.{signed, form_from}
use Rattle.fields.specs.Fields.{Item, item, fields, items}
use Rattle.formula.specs.Test.{registers}
use Rattle.formula_test.specs.declared.Tested.{Tested}
use Rattle.formula_test.specs.Promises.{Tests}

-- The first fields of a list (notes are not in it) state a formula over K constants, an and/or before its two parts; the others are the rest.
pub data Spells (K : ℕ) : List Item → Formula → (rest : List Item) → Type 0 where
  -- 0x31 or, 0x32 and: length 0, then two formulas
  either : {is js rest : List Item} {I J : Formula} → Spells K is I js → Spells K js J rest → Spells K (item 0x31 [] ∷ is) (I or J) rest
  both : {is js rest : List Item} {I J : Formula} → Spells K is I js → Spells K js J rest → Spells K (item 0x32 [] ∷ is) (I and J) rest
  -- 0x33 "t ≤ 0", 0x34 "t = 0": K+1 numbers of four bytes
  at-most : {rest : List Item} (bytes : List ℕ) (t : Form) → length bytes ≡ 4 * (K + 1) → form_from 4 K bytes ≡ t → Spells K (item 0x33 bytes ∷ rest) (literal ≤0 t) rest
  equal : {rest : List Item} (bytes : List ℕ) (t : Form) → length bytes ≡ 4 * (K + 1) → form_from 4 K bytes ≡ t → Spells K (item 0x34 bytes ∷ rest) (literal =0 t) rest
  -- 0x35 stride: g, 2 at least, in four bytes, then K+1 numbers of four
  stride : {rest : List Item} (bytes : List ℕ) (g : ℕ) (t : Form) → length bytes ≡ 4 * (K + 2) → signed (take 4 bytes) ≡ pos g → 2 ≤ g → form_from 4 K (drop 4 bytes) ≡ t
      → Spells K (item 0x35 bytes ∷ rest) (g divides t) rest

-- The file states this formula over K constants: whole fields, 0x01 of edition 1, 0x02 with K, then one formula of at most 600 levels of and/or, and nothing behind it; notes aside.
pub record FormulaFile (K : ℕ) (file : List ℕ) (I : Formula) : Type 0 where
  pub body : List Item
  pub whole : items (fields file) ≡ some (item 0x01 (1 ∷ []) ∷ item 0x02 (K ∷ []) ∷ body)
  pub spells : Spells K body I []
  pub levels : height I ≤ 600

-- 1 to 16 values, all within ±1,000,000, and a file of at most 65,536 bytes that states a formula over as many constants.
pub record Testable (file : List ℕ) (values : List ℤ) : Type 0 where
  pub low : 1 ≤ length values
  pub high : length values ≤ 16
  pub range : All (λ z. nat_abs z ≤ 1_000_000) values
  pub short : length file ≤ 65_536
  pub formula : Formula
  pub states : FormulaFile (length values) file formula

pub record TestingPromised : Type 0 where
  -- the number is 0 just where values and file are so
  pub test_iff : (file : List ℕ) (values : List ℤ) (t : Tested) → Tests file values t → t.answer.number ≡ 0 ↔ Testable file values
  -- then it is true just where the formula is true of the values
  pub tells : (file : List ℕ) (values : List ℤ) (t : Tested) → Tests file values t → (x : Testable file values) → t.holds ≡ true ↔ True x.formula (registers values)
  -- and a file states one formula at most
  pub one_formula : (K : ℕ) (file : List ℕ) (I J : Formula) → FormulaFile K file I → FormulaFile K file J → I ≡ J
