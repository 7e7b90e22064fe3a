-- `bundle_load::load::load_partial` meets its contract, both ways. Assumes nothing.
use native.Mathlib.Omega.{arith}
use lib.ListN.{drop}
use Rattle.number_bytes.specs.Numbers.{signeds}
use Rattle.number_bytes.specs.Widths.{bytes_of}
use Rattle.number_bytes.proofs.Signed.{length-signeds}
use Rattle.bundle_load.proofs.Loading.{stored-all, part-length, cleared, partial-A, partial-B}
use Rattle.bundle_load.proofs.load.load_partial.Goals as goal

pub returns-then-in_a : goal.returns-then-in_a
returns-then-in_a c = let a = c.args in partial-A _ _ c.if-in_a.true (stored-all c.requires (omega arith) (part-length a.at a.n a.lines.now c.requires.room) c.store_numbers.ensures)

pub returns : goal.returns
returns c =
    let a = c.args in
    let zs = signeds (bytes_of a.width) a.n (drop a.start a.s.now) in
    partial-B _ zs c.if-in_a.false (length-signeds (bytes_of a.width) a.n (drop a.start a.s.now))
    (cleared (omega arith) (part-length a.at a.n a.lines.now c.requires.room) (c.fill.ensures.after (λ y e. e)))
