-- `conversion_bundle::turn_run` meets its contract: what is left to write gives what the whole gives. Assumes nothing.
use mathlib.Core.Path.{◌≡◌, ◌∙◌}
use Prim.Native.Nat.{◌+◌, ◌*◌, ◌-◌}
use native.Mathlib.Omega.{arith}
use lib.ListN.{take, drop}
use lib.Seq.{sets}
use mir.Syntax.{w64}
use mir.ValLaws.{to_z-of_z}
use Rattle.number_bytes.specs.Numbers.{signed, signeds, signed_bytes, signeds_bytes}
use Rattle.number_bytes.specs.Widths.{bytes_of}
use Rattle.number_bytes.proofs.Widths.{part-before}
use Rattle.conversion_bundle.proofs.Holding.{run-held}
use Rattle.conversion_bundle.proofs.Putting.{run-next}
use Rattle.conversion_bundle.proofs.turn_run.Goals as goal

pub put_signed-requires : goal.put_signed-requires
put_signed-requires c =
    let a = c.args in
    let e = to_z-of_z w64 c.signed_at-x.result (record { sfits = c.signed_at-x.type_inv }) ∙ (rw c.bytes-old.ensures at c.signed_at-x.ensures.is) in
    record {
      at_in_bounds = rw c.bytes-new.ensures (omega (arith, part-before c.loop-i.i a.n (bytes_of a.width) c.loop-i-test.true, c.requires.width_in_bounds, c.loop-i.invariant.2));
      held = rw e (run-held (bytes_of a.from) a.s.now a.start c.loop-i.i a.n c.loop-i-test.true (bytes_of a.width) c.loop-i.invariant.1).0;
    }

pub loop-i-preserved : goal.loop-i-preserved
loop-i-preserved c =
    let a = c.args in
    let x = signed (take (bytes_of a.from) (drop (a.start + c.loop-i.i * bytes_of a.from) a.s.now)) in
    let e = to_z-of_z w64 c.signed_at-x.result (record { sfits = c.signed_at-x.type_inv }) ∙ (rw c.bytes-old.ensures at c.signed_at-x.ensures.is) in
    let p : c.put_signed.new.out ≡ sets c.loop-i.out (a.o + c.loop-i.i * bytes_of a.width) (signed_bytes (bytes_of a.width) x) = (rw c.bytes-new.ensures at c.put_signed.ensures) ∙ rw e in (
      rw p (run-next (bytes_of a.from) (bytes_of a.width) a.s.now a.start c.loop-i.i a.n c.loop-i.out a.o c.loop-i-test.true ∙ c.loop-i.invariant.0),
      (run-held (bytes_of a.from) a.s.now a.start c.loop-i.i a.n c.loop-i-test.true (bytes_of a.width) c.loop-i.invariant.1).1,
      c.put_signed.auto.out ∙ c.loop-i.invariant.2,
    )

pub returns : goal.returns
unfolding signeds signeds_bytes
returns c =
    let e : c.args.n - c.loop-i.i ≡ 0 = omega arith in
    rw e at c.loop-i.invariant.0
