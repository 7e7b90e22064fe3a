-- `printing_formula::reading::stride_at` meets its contract. Assumes nothing.
use Rattle.printing_formula.proofs.PrintingReader.{stride-divisor, stride-refused, stride-put}
use Rattle.printing_formula.proofs.reading.stride_at.Goals as goal

pub returns-then-g-lt2-clause-read : goal.returns-then-g-lt2-clause-read
returns-then-g-lt2-clause-read g c = stride-refused _ _ c.args.start _ _ (record { sfits = c.signed_at-g.type_inv }) c.signed_at-g.ensures.is c.if-g-lt2.true

pub put_stride-requires : goal.put_stride-requires
put_stride-requires g c = record { whole = c.requires.whole.0; k_le_constants = c.requires.k_le_constants; divisor = stride-divisor (record { sfits = c.signed_at-g.type_inv }) c.signed_at-g.ensures.range c.if-g-lt2.false; end_bound = c.requires.end_bound }

pub returns-clause-read : goal.returns-clause-read
returns-clause-read g c = stride-put g.L.Language.wording _ c.args.start _ _ (record { sfits = c.signed_at-g.type_inv }) c.signed_at-g.ensures.is c.if-g-lt2.false c.requires.whole.1 c.put_stride.ensures.puts
