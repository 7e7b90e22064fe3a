-- `shortening_table::arrays::write_both` meets its contract. Assumes nothing.
use mathlib.Core.Path.{refl}
use Rattle.shortening_table.proofs.Delivering.{countable, report-short, table-short, writable, reported-there, both-written}
use Rattle.shortening_table.proofs.arrays.write_both.Goals as goal

pub table_bytes-needed-requires : goal.table_bytes-needed-requires
table_bytes-needed-requires c = countable c.requires

pub returns-then-report-rows : goal.returns-then-report-rows
returns-then-report-rows c = report-short c.requires c.table_bytes-needed.ensures.is c.args.report.now c.args.table.now c.if-report-rows.true c.refusal.ensures c.refused-short.ensures

pub returns-then-table-needed : goal.returns-then-table-needed
returns-then-table-needed c = table-short c.requires c.table_bytes-needed.ensures.is c.args.report.now c.args.table.now c.if-table-needed.true c.refusal.ensures c.refused-short.ensures

pub put_table-requires : goal.put_table-requires
put_table-requires c = writable c.requires c.table_bytes-needed.ensures.is c.args.report.now c.args.table.now c.if-report-rows.false c.if-table-needed.false c.put_header.auto.out

pub copy_bytes-requires : goal.copy_bytes-requires
copy_bytes-requires c =
    let there = reported-there c.requires c.table_bytes-needed.ensures.is c.args.report.now c.args.table.now c.if-report-rows.false c.if-table-needed.false in
    record { n_in_bounds = there.0; n_in_bounds_2 = there.1 }

pub returns : goal.returns
returns c = both-written c.requires c.table_bytes-needed.ensures.is c.args.report.now c.args.table.now c.if-report-rows.false c.if-table-needed.false c.put_header.ensures c.put_table.ensures c.copy_bytes.ensures c.acceptance-answer.ensures refl
