-- `shortening_table::put_field` meets its contract, each way. Assumes nothing.
use Rattle.forms.specs.Edition.{edition}
use Rattle.shortening_table.proofs.Putting.{put-none, put_one, put_two}
use Rattle.shortening_table.proofs.put_field.Goals as goal

pub returns-then-count-eq0 : goal.returns-then-count-eq0
returns-then-count-eq0 c = put-none c.args.p.now c.args.field.tag c.args.field.start c.args.field.len (edition c.args.e).line_width c.args.count c.args.first c.args.second c.args.out.now c.args.o c.requires _ _ c.if-count-eq0.true c.put_head.ensures c.copy_bytes.ensures

pub returns-then-count-eq1 : goal.returns-then-count-eq1
returns-then-count-eq1 c = put_one c.args.p.now c.args.field.tag c.args.field.start c.args.field.len (edition c.args.e).line_width c.args.count c.args.first c.args.second c.args.out.now c.args.o c.requires _ _ _ c.line_bytes-width.ensures c.if-count-eq1.true c.put_head.ensures c.put_number.ensures c.copy_bytes-then-count-eq1.ensures

pub returns : goal.returns
returns c = put_two c.args.p.now c.args.field.tag c.args.field.start c.args.field.len (edition c.args.e).line_width c.args.count c.args.first c.args.second c.args.out.now c.args.o c.requires _ _ _ _ c.line_bytes-width.ensures c.if-count-eq0.false c.if-count-eq1.false c.put_head.ensures c.put_number.ensures c.put_number-2.ensures c.copy_bytes-2.ensures
