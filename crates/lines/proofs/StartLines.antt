-- The lines that a branch starts with. Assumes nothing.
use mathlib.Core.Path.{◌≡◌}
use mathlib.Core.List.{List}
use Prim.Native.Nat.{ℕ, suc}
use lib.IntN.{ℤ}
use lib.ListN.{get_or}
use Rattle.forms.specs.Forms.{Kind, plain, Line, line, neg, ◌plus◌}
use Rattle.calculus.specs.Rules.{◌▷◌}
use Rattle.lines.specs.Parts.{Agree}
use Rattle.forms.specs.Flat.{line_kind_of}
use Rattle.lines.specs.Buffer.{line_in, lines_in, LineStart, LineNegated, started_line, negated_line}
use Rattle.lines.proofs.Branch.{lines_next}
use Rattle.lines.proofs.Starting.{started-keeps, started-line}
use Rattle.lines.proofs.Negating.{negated-keeps, negated-line}

-- kinds' keeps the first n kinds and has kind k at n: line i again, raised; and negated, then raised.
module _ (K : ℕ) (kinds kinds' : List ℕ) (buf : List ℤ) (n : ℕ) (same : Agree n kinds kinds') {k : Kind} (new : line_kind_of (get_or kinds' n 0) ≡ plain k) {i x y : ℕ} where
  pub started-lines : LineStart K buf i n x y → {s : Line} → line_in K kinds buf i ≡ s
      → lines_in K kinds' (started_line K i n x y buf) (suc n) ≡ lines_in K kinds buf n ▷ line k (s.t plus x) (s.t_A plus y)
  started-lines p e = lines_next K (started-keeps p) same (started-line p kinds kinds' e new)

  pub negated-lines : LineNegated K buf i n x y → {s : Line} → line_in K kinds buf i ≡ s
      → lines_in K kinds' (negated_line K i n x y buf) (suc n) ≡ lines_in K kinds buf n ▷ line k (neg s.t plus x) (neg s.t_A plus y)
  negated-lines p e = lines_next K (negated-keeps p) same (negated-line p kinds kinds' e new)
