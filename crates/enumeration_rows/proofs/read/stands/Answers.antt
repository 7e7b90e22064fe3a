-- `enumeration_rows::read::stands` meets its contract. Assumes nothing.
use native.Mathlib.Omega.{arith}
use Rattle.enumeration_rows.proofs.RecognisedRows.{stands_same, stands-short}
use Rattle.enumeration_rows.proofs.read.stands.Goals as goal

pub returns-then-s-at : goal.returns-then-s-at
returns-then-s-at c = stands-short c.args.s.now c.args.part.now c.args.at c.args.n c.requires.1 c.if-s-at.true

pub same_bytes-requires : goal.same_bytes-requires
same_bytes-requires c = (omega (arith, c.requires.1), omega (arith, c.requires.0, c.if-s-at.false))

pub returns : goal.returns
returns c = stands_same c.args.s.now c.args.part.now c.args.at c.args.n (omega (arith, c.if-s-at.false)) c.requires.1 c.same_bytes.ensures
