-- How a file states a formula. docs/FORMAT.md, "Bytes and fields", "Register values" and "The order of tests". Assumes nothing.
use Rattle.std.proofs.Math.Option.{Option, none, some}
use Rattle.std.specs.Prelude.{true, false, List, [], ◌++◌, ℕ, zero, suc, ◌+◌, ◌≤◌, eqb, length, take, drop, pos, nat_abs}
use Rattle.std.specs.Int.Signed.{le_z}
use Rattle.forms.specs.Edition.{Edition, edition1}
use Rattle.forms.specs.Forms.{Kind, ≤0, =0, Formula, literal, ◌divides◌, ◌and◌, ◌or◌}
use Rattle.answers.specs.Answers.{answer, file_proof, Result, refused, accepted, ◌>>=◌, ◌>>◌, need, found}
use Rattle.number_bytes.specs.Numbers.{signed, signed_bytes, form_from, form_bytes, form_width}
use Rattle.number_bytes.specs.Ranges.{InWidth, FormInWidth}
use Rattle.fields.specs.declared.FileKind.{FileKind}
use Rattle.fields.specs.Fields.{Field, Fields, ends, cut, ◌▸◌, field_bytes}
use Rattle.fields.specs.Header.{known, header, finished, header_bytes}

-- ---- writing
-- 0x31 or, 0x32 and (length 0, two formulas follow); 0x33 "t ≤ 0", 0x34 "t = 0"; 0x35 stride (g in four signed bytes, then the form).
module _ (e : Edition) where
  unfoldable pub encode : Formula → List ℕ
  encode (I or J) = field_bytes 0x31 [] ++ encode I ++ encode J
  encode (I and J) = field_bytes 0x32 [] ++ encode I ++ encode J
  encode (literal ≤0 t) = field_bytes 0x33 (form_bytes e.term_width t)
  encode (literal =0 t) = field_bytes 0x34 (form_bytes e.term_width t)
  encode (g divides t) = field_bytes 0x35 (signed_bytes e.term_width (pos g) ++ form_bytes e.term_width t)

  -- The two header fields and the formula, no notes.
  unfoldable pub formula_file : (K : ℕ) → Formula → List ℕ
  formula_file K I = header_bytes 1 K ++ encode I

-- Every form has K coefficients, every number fits its four bytes, and g is at least 2.
abbrev pub Encodable : ℕ → Formula → Type 0
Encodable K (literal k t) = FormInWidth 4 K t
Encodable K (g divides t) = (2 ≤ g) × InWidth 4 (pos g) × FormInWidth 4 K t
Encodable K (I and J) = Encodable K I × Encodable K J
Encodable K (I or J) = Encodable K I × Encodable K J

-- ---- reading
pub data Connective : Type 0 where
  disjunction conjunction : Connective

pub data FormulaTag : Type 0 where
  pair : Connective → FormulaTag
  atom : Kind → FormulaTag
  stride : FormulaTag

unfoldable pub formula_tagged : ℕ → Option FormulaTag
formula_tagged tag =
    elim (eqb tag 0x31) [
      | true ↦ some (pair disjunction)
      | false ↦
          elim (eqb tag 0x32) [
            | true ↦ some (pair conjunction)
            | false ↦
                elim (eqb tag 0x33) [
                  | true ↦ some (atom ≤0)
                  | false ↦
                      elim (eqb tag 0x34) [
                        | true ↦ some (atom =0)
                        | false ↦
                            elim (eqb tag 0x35) [ true ↦ some stride | false ↦ none ]
                      ]
                ]
          ]
    ]

unfoldable pub compound : Connective → Formula → Formula → Formula
compound disjunction I J = I or J
compound conjunction I J = I and J

-- A formula at the front of the fields, and the fields after it.
abbrev pub Reader : Type 0
Reader = Fields → Result (Formula × Fields)

module _ (e : Edition) (K : ℕ) where
  unfoldable pub formula_size : FormulaTag → ℕ
  formula_size (pair c) = 0
  formula_size (atom k) = form_width e.term_width K
  formula_size stride = e.term_width + form_width e.term_width K

  -- The formula of a field; `two` reads the two parts of an and/or whose field starts at a place. 12.
  unfoldable pub formula_of : (two : (at : ℕ) → Fields → Result (Formula × Formula × Fields)) → Field → Fields → FormulaTag → Result (Formula × Fields)
  formula_of two f fs (pair c) = do
    (I, J, after) ← two f.at fs
    accepted (compound c I J, after)
  formula_of two f fs (atom k) = accepted (literal k (form_from e.term_width K f.contents), fs)
  formula_of two f fs stride = do
    need (answer 12 file_proof f.at) (le_z (pos 2) (signed (take e.term_width f.contents)))
    accepted (nat_abs (signed (take e.term_width f.contents)) divides form_from e.term_width K (drop e.term_width f.contents), fs)

  -- 2 (also where it ends unfinished), 3, 4, 6.
  unfoldable pub formula_field : (two : (at : ℕ) → Fields → Result (Formula × Formula × Fields)) → Reader
  formula_field two (ends at) = refused (answer 2 file_proof at)
  formula_field two (cut at) = refused (answer 2 file_proof at)
  formula_field two (f ▸ fs) = do
    need (answer 3 file_proof f.at) (known FileKind.Formula f.tag)
    tagged ← found (answer 4 file_proof f.at) (formula_tagged f.tag)
    need (answer 6 file_proof f.at) (eqb (length f.contents) (formula_size tagged))
    formula_of two f fs tagged

  -- Reading a formula calls on reading its two parts, each again a formula.
  unfoldable pub two_parts : Reader → Fields → Result (Formula × Formula × Fields)
  two_parts part fs = do
    (I, fs1) ← part fs
    (J, fs2) ← part fs1
    accepted (I, J, fs2)

  -- With so many levels of and/or allowed. 17.
  unfoldable pub formula_within : (levels : ℕ) → Reader
  formula_within zero = formula_field (λ at fs. refused (answer 17 file_proof at))
  formula_within (suc levels) = formula_field (λ at fs. two_parts (formula_within levels) fs)

-- The formula of a file over the given number of constants. Formulas stay in edition 1. 2, 3, 19, 4, 6, 5, 7, 9, 12, 17.
unfoldable pub read_formula : (K : ℕ) → Fields → Result Formula
read_formula given fs = do
  h ← header FileKind.Formula file_proof 1 (some given) fs
  (I, after) ← formula_within edition1 h.K edition1.levels h.rest
  finished FileKind.Formula file_proof after
  accepted I
