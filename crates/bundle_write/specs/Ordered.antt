-- A bundle to write, tested: its edition and K, or what it is refused for. Assumes nothing.
use Rattle.std.specs.Prelude.{◌≡◌, List, ℕ, ℤ, Ok, Err}
use Rattle.std.specs.declared.result.Result as code
use Rattle.answers.specs.Answers.{answer, file_lent, refused}
use Rattle.answers.specs.Refusals.{number_of}
use Rattle.answers.specs.declared.refusals.Fault.{Fault}
use Rattle.bundle.specs.Write.{encode_bundle}
use Rattle.bundle.specs.Writable.{InOrder}
use Rattle.bundle_write.specs.declared.Ordered.{Ordered}

-- It may be written, with the edition and K that were given.
pub record Granted (newest n K : ℕ) (kinds : List ℕ) (numbers : List ℤ) (x : Ordered) : Type 0 where
  pub edition-is : x.edition ≡ n
  pub k-is : x.k ≡ K
  pub order : InOrder newest n K kinds numbers

abbrev pub OrdersBy : (newest n K : ℕ) (kinds : List ℕ) (numbers : List ℤ) → code.Result Ordered Fault → Type 0
OrdersBy newest n K kinds numbers (Ok x) = Granted newest n K kinds numbers x
OrdersBy newest n K kinds numbers (Err e) = encode_bundle newest n K kinds numbers ≡ refused (answer (number_of e.refusal) file_lent e.place)

pub record Orders (newest n K : ℕ) (kinds : List ℕ) (numbers : List ℤ) (r : code.Result Ordered Fault) : Type 0 where
  pub by : OrdersBy newest n K kinds numbers r
