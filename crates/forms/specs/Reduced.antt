-- Stride parts in reduced form: each number is its remainder from 0 to g-1. docs/FORMAT.md, "Formula". Assumes nothing.
use Rattle.std.specs.Prelude.{map, ℕ, ◌≤◌, ℤ, pos, ◌≤ℤ◌, ◌<ℤ◌}
use Rattle.integers.specs.Remainder.{remainder}
use Rattle.forms.specs.Forms.{Form, All, Formula, literal, ◌divides◌, ◌and◌, ◌or◌}

-- Each coefficient and d as its remainder from 0 to g-1.
unfoldable pub reduced : ℕ → Form → Form
reduced g t = record { coeffs = map (λ (c : ℤ). pos (remainder g c)) t.coeffs; d = pos (remainder g t.d) }

-- A formula with each stride part so reduced, and all else as it stands.
unfoldable pub reducing : Formula → Formula
unfolding reduced
reducing (literal k t) = literal k t
reducing (g divides t) = g divides reduced g t
reducing (I and J) = reducing I and reducing J
reducing (I or J) = reducing I or reducing J

-- z lies from 0 to g-1.
pub record Residue (g : ℕ) (z : ℤ) : Type 0 where
  pub low : pos 0 ≤ℤ z
  pub high : z <ℤ pos g

-- Every number of the form does.
pub record Residues (g : ℕ) (t : Form) : Type 0 where
  pub of_coeffs : All (Residue g) t.coeffs
  pub of_d : Residue g t.d

-- Each stride part has a g of 2 at least.
abbrev pub Strides : Formula → Type 0
Strides (literal k t) = Unit
Strides (g divides t) = 2 ≤ g
Strides (I and J) = Strides I × Strides J
Strides (I or J) = Strides I × Strides J

-- Each stride part has numbers from 0 to g-1 only.
abbrev pub Reduced : Formula → Type 0
Reduced (literal k t) = Unit
Reduced (g divides t) = Residues g t
Reduced (I and J) = Reduced I × Reduced J
Reduced (I or J) = Reduced I × Reduced J
