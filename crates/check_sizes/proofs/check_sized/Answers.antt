-- `check_sizes::check_sized` meets its contract: its arrays have the room that is asked. Assumes nothing.
use mathlib.Core.Logic.{inl}
use native.Mathlib.Omega.{arith}
use Prim.Native.Nat.{ℕ}
use lib.IntN.{ℤ, pos}
use lib.ListN.{length-replicate}
use Rattle.check_sizes.specs.Sizes.{lines_to_come}
use Rattle.check_sizes.proofs.Sizes.{spare-most, kinds-within}
use Rattle.check_sizes.proofs.Begun.{tried}
use Rattle.check_sizes.proofs.check_sized.Goals as goal

pub whole_as_slice-check_within : goal.whole_as_slice-check_within
whole_as_slice-check_within g c = omega (arith, c.requires.arrays)

pub whole_as_slice-check_within-2 : goal.whole_as_slice-check_within-2
whole_as_slice-check_within-2 g c = omega (arith, c.requires.arrays)

pub whole_as_slice-check_within-3 : goal.whole_as_slice-check_within-3
whole_as_slice-check_within-3 g c = omega (arith, c.requires.arrays)

pub check_within-requires : goal.check_within-requires
check_within-requires g c =
    let w = c.requires in
    let x = c.args.inputs.now in
    record {
      begun = w.begun;
      spare = spare-most x.header.edition (lines_to_come x) w.numbers_within (omega (arith, length-replicate {A = ℤ} g.row.NUMBERS (pos 0)))
          (omega (arith, length-replicate {A = ℕ} g.row.KINDS 0, kinds-within x.header.edition x.header.k (lines_to_come x) w.numbers_within w.begun.both.low w.arrays));
    }

pub returns : goal.returns
returns g c = record {
  enough = λ h. c.check_within.ensures.is (inl (record { enough = λ l i u. omega (arith, h, length-replicate {A = ℕ} g.row.SCRATCH 0) }));
  tries = tried c.check_within.ensures;
}
