-- The text of an and/or, piece by piece, in either dialect. Assumes nothing.
use mathlib.Core.Path.{◌≡◌, refl}
use mathlib.Core.Bool.{Bool, true, false}
use mathlib.Core.List.{List, ◌++◌, append_assoc, append-nil}
use Prim.Native.Nat.{ℕ}
use Rattle.forms.specs.Forms.{Form, Kind, ≤0, =0, Formula, literal, ◌divides◌}
use Rattle.formula.specs.Formula.{compound}
use Rattle.formula_read.specs.Nodes.{connective}
use Rattle.printing.specs.Text.{ascii, prop_text}
use Rattle.printing.specs.Translation.{smt}
use Rattle.printing.specs.Words.{worded}
use Rattle.printing.specs.WordsText.{wording_text, part_text}
use Rattle.printing.specs.Dialects.{formula_text}
use Rattle.printing_signs.specs.Relations.{open_text, between_text, close_text}

in_words : (a p b q e : List ℕ) → (((a ++ p) ++ b) ++ q) ++ e ≡ (a ++ ((p ++ b) ++ q)) ++ e
in_words a p b q e = simp append_assoc

pub pair-text : (wording inner either : Bool) (I J : Formula)
    → (((open_text wording inner either ++ formula_text wording true I) ++ between_text wording either) ++ formula_text wording true J) ++ close_text wording inner ≡ formula_text wording inner (compound (connective either) I J)
unfolding prop_text smt compound wording_text worded
pair-text false inner true I J = refl
pair-text false inner false I J = refl
pair-text true true true I J = in_words (ascii "(") (part_text (worded I)) (ascii " or ") (part_text (worded J)) (ascii ")")
pair-text true true false I J = in_words (ascii "(") (part_text (worded I)) (ascii " and ") (part_text (worded J)) (ascii ")")
pair-text true false true I J = append-nil _
pair-text true false false I J = append-nil _

-- an atom is shown alike wherever it stands
pub literal-shown : (wording inner : Bool) (k : Kind) (t : Form) → formula_text wording false (literal k t) ≡ formula_text wording inner (literal k t)
unfolding wording_text worded
literal-shown false inner k t = refl
literal-shown true false k t = refl
literal-shown true true ≤0 t = refl
literal-shown true true =0 t = refl

pub stride-shown : (wording inner : Bool) (g : ℕ) (t : Form) → formula_text wording false (g divides t) ≡ formula_text wording inner (g divides t)
unfolding wording_text worded
stride-shown false inner g t = refl
stride-shown true false g t = refl
stride-shown true true g t = refl
