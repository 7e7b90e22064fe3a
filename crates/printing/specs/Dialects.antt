-- A formula as text in either dialect: SMT-LIB, or words. In words a part of an and/or that is one itself (`inner`) stands in parentheses. Assumes nothing.
use Rattle.std.specs.Prelude.{◌≡◌, ◌↔◌, Bool, true, false, List, ℕ}
use Rattle.std.proofs.Math.Option.{some}
use Rattle.forms.specs.Forms.{Assignment, Formula, True}
use Rattle.printing.specs.Smt.{PropTrue}
use Rattle.printing.specs.Text.{prop_text}
use Rattle.printing.specs.Reading.{parse_prop}
use Rattle.printing.specs.Translation.{smt}
use Rattle.printing.specs.Words.{worded, WordingTrue}
use Rattle.printing.specs.WordsText.{wording_text, part_text}
use Rattle.printing.specs.WordsReading.{parse_wording}

abbrev pub formula_text : (wording inner : Bool) → Formula → List ℕ
formula_text false inner I = prop_text (smt I)
formula_text true false I = wording_text (worded I)
formula_text true true I = part_text (worded I)

-- Bytes read as a formula's proposition, or its wording; and that means what the formula says.
abbrev pub ReadsAs : (wording : Bool) → List ℕ → Formula → Type 0
ReadsAs false bytes I = parse_prop bytes ≡ some (smt I)
ReadsAs true bytes I = parse_wording bytes ≡ some (worded I)

abbrev pub MeansAs : (wording : Bool) → Formula → Assignment → Type 0
MeansAs false I v = PropTrue (smt I) v ↔ True I v
MeansAs true I v = WordingTrue (worded I) v ↔ True I v
