-- `conversion_write::put_lines` meets its contract. Assumes nothing.
use Rattle.forms.specs.Edition.{edition}
use Rattle.conversion_write.proofs.Putting.{put-none, put_one, put_two}
use Rattle.conversion_write.proofs.put_lines.Goals as goal

pub returns-then-n-eq0 : goal.returns-then-n-eq0
returns-then-n-eq0 c = put-none (edition c.args.editions.from).line_width (edition c.args.editions.to).line_width c.args.n c.args.p.now c.args.start c.args.out.now c.args.o c.if-n-eq0.true

pub returns-then-n-eq1 : goal.returns-then-n-eq1
returns-then-n-eq1 c = put_one (edition c.args.editions.from).line_width (edition c.args.editions.to).line_width c.args.n c.args.p.now c.args.start c.args.out.now c.args.o c.if-n-eq1.true c.put_line.ensures

pub returns : goal.returns
returns c = put_two (edition c.args.editions.from).line_width (edition c.args.editions.to).line_width c.args.n c.args.p.now c.args.start c.args.out.now c.args.o c.if-n-eq0.false c.if-n-eq1.false c.requires.n_bound c.put_line.ensures (rw (c.line_bytes.ensures, c.line_bytes-2.ensures) at c.put_line-2.ensures)
