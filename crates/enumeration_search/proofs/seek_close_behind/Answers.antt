-- `enumeration_search::seek_close_behind` meets its contract. Assumes nothing.
use Rattle.enumeration_search.proofs.NewCloses.{own-number, own-strides}
use Rattle.enumeration_search.proofs.seek_close_behind.Goals as goal

pub returns-then-holds : goal.returns-then-holds
returns-then-holds c = own-number c.requires.unclosed c.holds.ensures c.if-not-unclosed.false c.if-holds.true

pub returns : goal.returns
returns c = own-strides c.requires.unclosed c.holds.ensures c.if-not-unclosed.false c.if-holds.false c.seek_close-2.ensures
