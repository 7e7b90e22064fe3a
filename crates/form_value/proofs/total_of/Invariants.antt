-- `form_value::total_of`: the terms from i on are summed. Assumes nothing.
use Rattle.form_value.proofs.Value.{Told}
use Rattle.form_value.proofs.total_of.Given as goal

abbrev pub invariant-loop-i : goal.invariant-loop-i
invariant-loop-i g l = Told g.T.Total.of (g.N.Numbers.numbers l.form) l.values l.k l.i l.total
