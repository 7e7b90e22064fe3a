-- `fields::field_at` meets its contract: at each `return` the tests that led there say what `front` gives. Assumes nothing.
use mathlib.Core.Path.{sym}
use Rattle.fields.proofs.Places.{found-end, found-short, found-cut, found-whole}
use Rattle.fields.proofs.field_at.Goals as goal

pub returns-then-s-at : goal.returns-then-s-at
returns-then-s-at c = sym (found-end _ _ c.if-s-at.true)

pub returns-then-left-lt3 : goal.returns-then-left-lt3
returns-then-left-lt3 c = sym (found-short _ _ c.if-s-at.false c.if-left-lt3.true)

pub returns-then-left-len : goal.returns-then-left-len
returns-then-left-len c = sym (found-cut _ _ c.if-s-at.false c.if-left-lt3.false c.if-left-len.true)

pub returns : goal.returns
returns c = sym (found-whole _ _ c.if-s-at.false c.if-left-lt3.false c.if-left-len.false)
