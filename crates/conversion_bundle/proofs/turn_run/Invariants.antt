-- `conversion_bundle::turn_run` meets its contract: what is left to write gives what the whole gives. Assumes nothing.
use mathlib.Core.Path.{◌≡◌}
use mathlib.Core.Bool.{true}
use Prim.Native.Nat.{◌+◌, ◌*◌, ◌-◌}
use lib.ListN.{length, drop}
use lib.Seq.{sets}
use Rattle.forms.specs.Forms.{every}
use Rattle.number_bytes.specs.Numbers.{signeds, signeds_bytes}
use Rattle.number_bytes.specs.Widths.{bytes_of}
use Rattle.bundle.specs.Write.{holdable}
use Rattle.conversion_bundle.proofs.turn_run.Given as goal

abbrev pub invariant-loop-i : goal.invariant-loop-i
invariant-loop-i l =
    (sets l.out (l.o + l.i * bytes_of l.width) (signeds_bytes (bytes_of l.width) (signeds (bytes_of l.from) (l.n - l.i) (drop (l.start + l.i * bytes_of l.from) l.s))) ≡ sets l.initial.out l.o (signeds_bytes (bytes_of l.width) (signeds (bytes_of l.from) l.n (drop l.start l.s))))
    × (every (holdable (bytes_of l.width)) (signeds (bytes_of l.from) (l.n - l.i) (drop (l.start + l.i * bytes_of l.from) l.s)) ≡ true) × (length l.out ≡ length l.initial.out)
