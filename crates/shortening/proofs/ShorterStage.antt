-- A table with rows that nothing rests on, its report and its shorter table. By evaluation. Assumes nothing.
use mathlib.Core.Path.{◌≡◌, refl}
use mathlib.Core.List.{List, [], ◌∷◌}
use lib.IntN.{pos}
use Rattle.forms.specs.Forms.{Form}
use Rattle.calculus.specs.Rules.{Combine, Reduce, Scale, Derive, Strengthen, CloseNumber, CloseStride, Entry, row, claim}
use Rattle.shortening.specs.Passes.{report_on}
use Rattle.shortening.proofs.Computed.{shorten_table}

-- over the constraints 0 and 1: line 3 is named only by a row that is not needed itself, line 5 is needed on the first branch and not on the second
abbrev long : Form → Form → List Entry
long t t_A =
    row (Derive (Combine 0 1 1 1)) ∷ (claim t t_A ∷ (row (Derive (Scale 0 2)) ∷ (claim t t ∷ (row (Strengthen 2)
    ∷ (row (Derive (Scale 4 3)) ∷ (row (Derive (Scale 5 2)) ∷ (row (CloseNumber 5)
    ∷ (row (Derive (Scale 3 1)) ∷ (row (Derive (Reduce 2 4 (pos 7))) ∷ (claim t_A t ∷ (row (CloseStride 6 2)
    ∷ (row (CloseNumber 4) ∷ []))))))))))))

abbrev short : Form → Form → List Entry
short t t_A =
    row (Derive (Combine 0 1 1 1)) ∷ (claim t t_A ∷ (row (Strengthen 2)
    ∷ (row (Derive (Scale 3 3)) ∷ (row (CloseNumber 4)
    ∷ (row (Derive (Reduce 2 3 (pos 7))) ∷ (claim t_A t ∷ (row (CloseStride 4 2)
    ∷ (row (CloseNumber 3) ∷ []))))))))

stage-report : (t t_A : Form) → report_on 2 (long t t_A) ≡ 1 ∷ (0 ∷ (2 ∷ (1 ∷ (0 ∷ (2 ∷ (0 ∷ (1 ∷ (2 ∷ (2 ∷ [])))))))))
stage-report t t_A = refl

stage-table : (t t_A : Form) → shorten_table 2 (long t t_A) ≡ short t t_A
stage-table t t_A = refl

stage-again : (t t_A : Form) → shorten_table 2 (short t t_A) ≡ short t t_A
stage-again t t_A = refl
