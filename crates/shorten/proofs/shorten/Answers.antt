-- `shorten::shorten` meets its contract. Assumes nothing.
use mathlib.Core.Path.{sym, ap, ◌∙◌}
use Rattle.answers.specs.declared.Answer.{Answer}
use Rattle.shorten.proofs.Accepting.{is-accepted, is-refused}
use Rattle.shorten.proofs.shorten.Goals as goal

pub returns-then-checked-ne21 : goal.returns-then-checked-ne21
returns-then-checked-ne21 c =
    let k = c.requires in
    is-refused k.checks k.one (λ e. c.if-checked-ne21.true (ap (λ (a : Answer). a.number) k.is ∙ e)) k.is c.refused.ensures

pub shorten_accepted-requires : goal.shorten_accepted-requires
shorten_accepted-requires c =
    let k = c.requires in
    is-accepted k.checks k.one (sym (ap (λ (a : Answer). a.number) k.is) ∙ c.if-checked-ne21.false)
