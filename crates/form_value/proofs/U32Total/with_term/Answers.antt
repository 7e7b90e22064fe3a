-- A term and the total so far, in words. Assumes nothing.
use Rattle.std.proofs.Common.{◌*ℤ◌, sym, ◌∙◌, arith, w64}
use mir.ValLaws.{to_z-of_z}
use Rattle.integers.proofs.Magnitude.{within-le}
use Rattle.form_value.proofs.Quick.{word-add, word-mul}
use Rattle.form_value.proofs.U32Total.with_term.Goals as goal

pub word-requires : goal.word-requires
word-requires c = rw (to_z-of_z w64 c.args.c c.ranges.c) c.requires.c_small

pub word-requires-2 : goal.word-requires-2
word-requires-2 c = rw (to_z-of_z w64 c.args.x c.ranges.x) (within-le (omega arith) c.requires.x_small)

pub returns : goal.returns
returns c z h =
    rw (c.word.ensures, c.word-2.ensures, to_z-of_z w64 c.args.c c.ranges.c, to_z-of_z w64 c.args.x c.ranges.x, h)
    (sym (word-add (c.args.c *ℤ c.args.x) z ∙ rw (word-mul c.args.c c.args.x)))
