-- `files::put_hex` puts two digits for each byte. Assumes nothing.
use Rattle.std.proofs.Common.{arith, rules}
use Rattle.files.specs.Text.{hex_of}
use Rattle.files.proofs.Texts.{none, hex-put, hex-all}
use Rattle.files.proofs.Counts.{prefix_len_of_le}
use Rattle.files.proofs.put_hex.Goals as goal

pub loop-b-init : goal.loop-b-init
unfolding hex_of
loop-b-init c = (omega arith, none _ _ _ c.min-end.ensures (omega arith))

pub loop-b-preserved : goal.loop-b-preserved
loop-b-preserved c = (
  c.put_byte-end.ensures.prefix_len.0,
  hex-put c.args.bytes.now c.loop-b.b-index (omega arith) c.loop-b.invariant.1 c.put_byte-end.ensures.put,
)

pub shape_of-buf : goal.shape_of-buf
shape_of-buf c = c.loop-b.invariant.1.same

pub returns : goal.returns
returns c = record {
  prefix_len = prefix_len_of_le _ _ (search rules);
  put = hex-all c.args.bytes.now c.loop-b.b-index (omega arith) c.loop-b.invariant.1;
}
