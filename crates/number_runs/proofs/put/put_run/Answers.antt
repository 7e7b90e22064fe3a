-- `number_runs::put::put_run` meets its contract: the first i are written. Assumes nothing.
use mathlib.Core.Path.{◌≡◌, ◌∙◌}
use native.Mathlib.Omega.{arith}
use lib.IntN.{ℤ, pos}
use lib.ListN.{get_or}
use mir.Syntax.{w32, w64}
use mir.Val.{SFits, to_z, of_z}
use mir.ValLaws.{to_z-of_z}
use Rattle.number_bytes.specs.Ranges.{Held}
use Rattle.number_bytes.specs.declared.words.Width.{Width}
use Rattle.number_bytes.specs.Widths.{bytes_of}
use Rattle.number_bytes.proofs.Signed.{all_get_d}
use Rattle.number_bytes.proofs.Widths.{held-bits}
use Rattle.number_runs.proofs.Putting.{put-none, put-one}
use Rattle.number_runs.proofs.put.put_run.Goals as goal

pub loop-i-init : goal.loop-i-init
loop-i-init c = put-none _ _ _

-- a number of 32 bits in 64
number : (w : Width) (x r : ℤ) → Held (bytes_of w) x → r ≡ to_z w32 (of_z w32 x) → SFits w64 r → to_z w64 (of_z w64 r) ≡ x
number w x r h e f = to_z-of_z w64 r f ∙ e ∙ to_z-of_z w32 x (held-bits w h)

pub put_signed-requires-clause-held : goal.put_signed-requires-clause-held
put_signed-requires-clause-held c =
    let h = all_get_d c.loop-i.i (pos 0) c.requires.held_all.each (omega arith) in
    rw (number c.args.width (get_or c.args.numbers.now c.loop-i.i (pos 0)) c.from.result h c.from.ensures (record { sfits = c.from.type_inv })) h

pub loop-i-preserved : goal.loop-i-preserved
loop-i-preserved c =
    let a = c.args in
    let i = c.loop-i.i in
    let n = number a.width (get_or a.numbers.now i (pos 0)) c.from.result (all_get_d i (pos 0) c.requires.held_all.each (omega arith)) c.from.ensures (record { sfits = c.from.type_inv }) in
    put-one (bytes_of a.width) a.out.now a.at a.numbers.now i (omega arith) c.loop-i.invariant (c.put_signed.ensures ∙ rw (n, c.bytes.ensures))
