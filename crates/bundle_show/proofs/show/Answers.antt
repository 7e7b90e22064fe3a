-- `bundle_show::show` meets its contract: the part's bytes, and that they lie in the buffer itself. Assumes nothing.
use Prim.Native.Nat.{◌^◌}
use Rattle.bundle_show.proofs.Showing.{shown-nothing, part-below}
use Rattle.bundle_show.proofs.show.Goals as goal

pub overflow_add-end : goal.overflow_add-end
overflow_add-end c = record { fits = part-below c.locate.ensures c.in-Ok.is (2 ^ 64) c.well_formed.0.0 c.well_formed.1.0.0 }

pub returns-in-Err : goal.returns-in-Err
returns-in-Err c =
    let s = shown-nothing c.locate.ensures c.in-Err.is in
    record { bytes = rw s; place = rw s }
