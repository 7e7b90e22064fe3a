-- `printing_text::Text::put` meets its contract. Assumes nothing.
use Rattle.std.proofs.Common.{◌≡◌, ◌+◌, ◌-◌, length, refl, arith}
use Rattle.printing_text.proofs.PutsText.{puts-out, puts-in}
use Rattle.printing_text.proofs.Text.put.Goals as goal

pub returns-then-self-end-clause-puts : goal.returns-then-self-end-clause-puts
returns-then-self-end-clause-puts c = puts-out _ _ refl c.if-self-end.true

pub returns-clause-puts : goal.returns-clause-puts
returns-clause-puts c =
    let k : c.args.self.now.end + length c.args.bytes.now - c.args.self.now.end ≡ length c.args.bytes.now = omega arith in
    rw c.copy_from_slice.ensures.after (puts-in _ _ refl c.if-self-end.false k)
