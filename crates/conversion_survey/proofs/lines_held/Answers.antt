-- `conversion_survey::lines_held` meets its contract. Assumes nothing.
use mathlib.Core.Path.{sym, ◌∙◌}
use Rattle.forms.specs.Edition.{edition}
use Rattle.conversion_survey.proofs.SurveyedFields.{held_none, held_one, held_two, held-not}
use Rattle.conversion_survey.proofs.lines_held.Goals as goal

pub returns-then-n-eq0 : goal.returns-then-n-eq0
returns-then-n-eq0 c = held_none (edition c.args.editions.from).line_width (edition c.args.editions.to).line_width c.args.n c.args.p.now c.args.start c.if-n-eq0.true

pub returns-then-n-eq1 : goal.returns-then-n-eq1
returns-then-n-eq1 c = held_one (edition c.args.editions.from).line_width (edition c.args.editions.to).line_width c.args.n c.args.p.now c.args.start c.if-n-eq1.true (sym c.line_held.ensures ∙ c.if-line_held.true)

pub returns-then-line_held : goal.returns-then-line_held
returns-then-line_held c = (rw c.line_bytes.ensures at c.line_held-then-line_held.ensures) ∙ held_two (edition c.args.editions.from).line_width (edition c.args.editions.to).line_width c.args.n c.args.p.now c.args.start c.if-n-eq0.false c.if-n-eq1.false c.requires.n_bound (sym c.line_held.ensures ∙ c.if-line_held.true)

pub returns : goal.returns
returns c = held-not (edition c.args.editions.from).line_width (edition c.args.editions.to).line_width c.args.n c.args.p.now c.args.start c.if-n-eq0.false c.requires.n_bound (sym c.line_held.ensures ∙ c.if-line_held.false)
