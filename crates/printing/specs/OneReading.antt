-- What a printed formula is worth, to a person or to another solver. Statements only. Assumes nothing.
use Rattle.std.specs.Prelude.{◌≡◌, ◌↔◌, Bool, false, List, ℕ, ◌≤◌, ◌<◌, T, length, take, pos, ◌-ℤ◌, ◌≤ℤ◌, ◌<ℤ◌}
use Rattle.std.proofs.Math.Option.{some}
use Rattle.integers.specs.Divides.{◌∣ℤ◌}
use Rattle.forms.specs.Edition.{edition1}
use Rattle.forms.specs.Forms.{Assignment, Formula, literal, ◌divides◌, ◌and◌, ◌or◌, True, names}
use Rattle.forms.specs.Reduced.{Strides}
use Rattle.answers.specs.Answers.{answer, acceptance, file_lent, accepted, over}
use Rattle.answers.specs.declared.WriteResult.{WriteResult}
use Rattle.fields.specs.Fields.{fields}
use Rattle.formula.specs.Formula.{read_formula}
use Rattle.printing.specs.Smt.{Term, modulo, Prop, value_of, PropTrue, PropNames}
use Rattle.printing.specs.Text.{prop_text}
use Rattle.printing.specs.Reading.{parse_prop}
use Rattle.printing.specs.Translation.{smt}
use Rattle.printing.specs.Words.{Wording, worded, WordingTrue, WordingNames}
use Rattle.printing.specs.WordsText.{wording_text}
use Rattle.printing.specs.WordsReading.{parse_wording}
use Rattle.printing.specs.Dialects.{formula_text, ReadsAs, MeansAs}
use Rattle.printing.specs.Promises.{PrintsFile}

-- Every form has K coefficients, and each g is 2 at least: what every file states.
abbrev pub OverConstants : ℕ → Formula → Type 0
OverConstants K (literal k t) = length t.coeffs ≡ K
OverConstants K (g divides t) = (2 ≤ g) × (length t.coeffs ≡ K)
OverConstants K (I and J) = OverConstants K I × OverConstants K J
OverConstants K (I or J) = OverConstants K I × OverConstants K J

-- Of the texts.
pub record OneReading : Type 0 where
  -- `mod` is what the theory Ints says: t = n q + (mod t n) for some integer q, and 0 ≤ (mod t n) < n
  pub mod_standard : (t : Term) (n : ℕ) → 1 ≤ n → (v : Assignment)
      → (pos n ∣ℤ value_of t v -ℤ value_of (modulo t n) v) × (pos 0 ≤ℤ value_of (modulo t n) v) × (value_of (modulo t n) v <ℤ pos n)
  -- it means what the formula says, at every assignment
  pub means_same : (I : Formula) → Strides I → (v : Assignment) → PropTrue (smt I) v ↔ True I v
  -- it names just the constants that the formula names
  pub names_only : (I : Formula) (c : ℕ) → PropNames (smt I) c ↔ T (names I c)
  -- it reads as one proposition only
  pub unique : (p : Prop) → parse_prop (prop_text p) ≡ some p
  -- and no other text reads as that one
  pub exact : (bs : List ℕ) (p : Prop) → parse_prop bs ≡ some p → bs ≡ prop_text p
  -- and is that of one formula only, where K is known (coefficients of 0 are left out, and no text tells how many there are)
  pub kept : (K : ℕ) (I J : Formula) → OverConstants K I → OverConstants K J → prop_text (smt I) ≡ prop_text (smt J) → I ≡ J
  -- the same in words
  pub says_same : (I : Formula) (v : Assignment) → WordingTrue (worded I) v ↔ True I v
  pub words_names_only : (I : Formula) (c : ℕ) → WordingNames (worded I) c ↔ T (names I c)
  pub words_unique : (w : Wording) → parse_wording (wording_text w) ≡ some w
  pub words_kept : (K : ℕ) (I J : Formula) → OverConstants K I → OverConstants K J → wording_text (worded I) ≡ wording_text (worded J) → I ≡ J

-- What one accepted call of print or print_words leaves.
pub record PrintedAs (wording : Bool) (file output left : List ℕ) (r : WriteResult) : Type 0 where
  -- the formula that the file states, as test reads it
  pub K : ℕ
  pub formula : Formula
  pub stated : read_formula K (fields file) ≡ accepted formula
  pub over_K : OverConstants K formula
  pub low : 1 ≤ K
  pub high : K ≤ edition1.constants
  pub upto : length file ≤ edition1.formula_bytes
  -- its text, as many bytes as are counted, stands at the front of the output; the rest stays
  pub count : r.count ≡ length (formula_text wording false formula)
  pub fits : length (formula_text wording false formula) ≤ length output
  pub bytes : left ≡ over (formula_text wording false formula) output
  -- the bytes written read as its proposition, or its wording, which means what it says
  pub reads_back : ReadsAs wording (take r.count left) formula
  pub means : (v : Assignment) → MeansAs wording formula v

-- Of what the functions print and print_words ensure.
pub record Printer : Type 0 where
  pub prints : (wording : Bool) (file output left : List ℕ) (r : WriteResult) → PrintsFile wording file output left r → r.answer.number ≡ 0 → PrintedAs wording file output left r
  -- and that formula is the only one that the file states
  pub one_formula : (file : List ℕ) (K L : ℕ) (I J : Formula) → read_formula K (fields file) ≡ accepted I → read_formula L (fields file) ≡ accepted J → I ≡ J
  -- a refusal leaves the output
  pub leaves : (wording : Bool) (file output left : List ℕ) (r : WriteResult) → PrintsFile wording file output left r → ¬ (r.answer.number ≡ 0) → (left ≡ output) × (r.count ≡ 0)
  -- whatever is read as a formula is printed where there is room, and needs so many bytes where there is not
  pub room : (wording : Bool) (file output left : List ℕ) (r : WriteResult) → PrintsFile wording file output left r → length file ≤ edition1.formula_bytes
      → (K : ℕ) (I : Formula) → read_formula K (fields file) ≡ accepted I
      → (length (formula_text wording false I) ≤ length output → r.answer ≡ acceptance)
      × (length output < length (formula_text wording false I) → r.answer ≡ answer 21 file_lent (length (formula_text wording false I)))
