-- What arrays are long enough for a check whose bundles and header are read. Assumes nothing.
use Rattle.std.specs.Prelude.{◌≡◌, List, ℕ, ◌+◌, ◌*◌, ◌/◌, ◌≤◌, min}
use Rattle.forms.specs.Edition.{edition, edition1, newest_edition}
use Rattle.answers.specs.declared.WriteResult.{WriteResult}
use Rattle.proof.specs.Promises.{Checks}
use Rattle.lines.specs.Buffer.{size}
use Rattle.bundle_load.specs.Begun.{Begun}
use Rattle.branches.specs.Spare.{lines_left}
use Rattle.check_sizes.specs.Root.{Told}
use Rattle.check_sizes.specs.declared.inputs.Inputs.{Inputs}

-- The bundles and the header are read.
abbrev pub IsBegun : Inputs → Type 0
IsBegun x = Begun x.a.now x.b.now x.first x.second x.proof.now x.header.edition x.header.k x.header.next

-- The most lines that a branch may come to have: those of both bundles, and those that the bytes of the proof may make.
abbrev pub lines_to_come : Inputs → ℕ
lines_to_come x = x.first.count + x.second.count + lines_left x.header.edition x.proof.now x.header.next

-- Where c lines may come in a proof of edition e, a branch has N lines at most; and they, and one more, have N numbers at most.
abbrev pub LinesWithin : (e c N : ℕ) → Type 0
LinesWithin e c N = min c (edition e).lines ≤ N

abbrev pub NumbersWithin : (e K c N : ℕ) → Type 0
NumbersWithin e K c N = (min c (edition e).lines + 1) * size K ≤ N

-- Arrays of so many bytes of scratch, kinds and numbers: none is larger than any proof asks, and there are kinds enough for lines of so many
-- numbers, since a line has four numbers at least, and no edition has more lines than the newest.
pub record Arrays (scratch kinds numbers : ℕ) : Type 0 where
  pub scratch_few : scratch ≤ edition1.formula_bytes
  pub numbers_few : numbers ≤ ((edition newest_edition).lines + 1) * size 16
  pub kinds_few : kinds ≤ numbers
  pub kinds_enough : min (numbers / 4) ((edition newest_edition).lines + 1) ≤ kinds

-- A check in a scratch that may be too short: it is check's where that can be told of its answer, and with 1 the output stays.
pub record CheckedWithin (A B P : List ℕ) (at : ℕ) (scratch out out' : List ℕ) (r : WriteResult) : Type 0 where
  pub is : Told P at scratch r → Checks A B P out out' r
  pub same : r.answer.number ≡ 1 → out' ≡ out

-- The same to a caller who does not know the scratch: every answer but 1 is check's.
pub record Tries (A B P out out' : List ℕ) (r : WriteResult) : Type 0 where
  pub is : (r.answer.number ≡ 1 → ⊥) → Checks A B P out out' r
  pub same : r.answer.number ≡ 1 → out' ≡ out
