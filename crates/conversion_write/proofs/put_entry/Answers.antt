-- `conversion_write::put_entry` meets its contract. Assumes nothing.
use Rattle.conversion_write.proofs.Putting.{entry-put}
use Rattle.conversion_write.proofs.put_entry.Goals as goal

pub returns : goal.returns
returns c = entry-put c.args.editions.from c.args.editions.to c.args.field.tag c.args.field.start c.args.field.len c.args.o c.args.p.now c.args.out.now c.line_count-n.ensures.is c.line_bytes.ensures c.line_bytes-2.ensures c.turned_len.ensures.is c.requires.e_bound c.requires.len_in_bounds.0 c.put_head.ensures c.put_lines.ensures c.copy_bytes.ensures
