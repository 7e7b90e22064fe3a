-- What the code's option tells of what a look finds. Assumes nothing.
use mathlib.Core.Path.{◌≡◌, refl}
use mathlib.Core.Option.{Option, none, some}
use Prim.Native.Nat.{ℕ}
use Rattle.std.specs.Prelude.{Some, None}
use Rattle.scheduler_turn.specs.Files.{seat_found}

pub one-found : (x : Option ℕ) {seat : ℕ} → seat_found x ≡ Some seat → x ≡ some seat
one-found none e = cc
one-found (some found) e = cc

pub none_found : (x : Option ℕ) → seat_found x ≡ None → x ≡ none
none_found none e = refl
none_found (some found) e = cc
