-- What the comparison of a claim with a line tells. Assumes nothing.
use Rattle.std.specs.Prelude.{◌≡◌, Bool, List, ℕ, drop, ℤ}
use Rattle.forms.specs.Edition.{edition1}
use Rattle.number_bytes.specs.Numbers.{form_from, form_width}
use Rattle.proof.specs.Rows.{states}
use Rattle.lines.specs.Buffer.{line_in}

-- r tells whether the claim of these contents states line i.
pub record Claimed (K : ℕ) (bs : List ℕ) (buf : List ℤ) (i : ℕ) (r : Bool) : Type 0 where
  pub is : (kinds : List ℕ) → states (form_from edition1.term_width K bs) (form_from edition1.term_width K (drop (form_width edition1.term_width K) bs)) (line_in K kinds buf i) ≡ r
