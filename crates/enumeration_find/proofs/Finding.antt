-- How a table begins. Assumes nothing.
use mathlib.Core.Path.{◌≡◌, sym, subst, ◌∙◌}
use mathlib.Core.Bool.{Bool, true}
use mathlib.Core.List.{List}
use Prim.Native.Nat.{ℕ, ◌≤◌}
use native.Mathlib.Omega.{arith}
use lib.Dec.{T}
use lib.ListN.{length}
use Rattle.fields.specs.Header.{header_bytes}
use Rattle.fields.proofs.Headers.{length-header_bytes}
use Rattle.enumeration.specs.Numbering.{begins}
use Rattle.enumeration_rows.proofs.RecognisedRows.{begins-longer}

-- a table that begins with the header has eight bytes
pub headed-long : (K : ℕ) (table : List ℕ) {b : Bool} → b ≡ begins (header_bytes 1 K) table → b ≡ true → 8 ≤ length table
headed-long K table e t = omega (arith, begins-longer (header_bytes 1 K) table (subst T (sym (sym e ∙ t)) tt), length-header_bytes 1 K)
