-- `bundle_load::load::load` meets its contract. The invariant `Loading`: what is left to load gives what the whole gives. Assumes nothing.
use mathlib.Core.Path.{◌∙◌}
use native.Mathlib.Omega.{arith}
use Rattle.fields.proofs.Places.{starts, starts-less}
use Rattle.bundle_load.proofs.Loading.{loading-start, fit, loading-next, loading-done}
use Rattle.bundle_load.proofs.load.load.Goals as goal

pub loop-field-init : goal.loop-field-init
loop-field-init c = loading-start c.requires

pub overflow_sub-field : goal.overflow_sub-field
overflow_sub-field c = (fit c.loop-field.invariant (starts c.next_field.ensures c.in-Ok.is)).from

pub load_line-requires : goal.load_line-requires
load_line-requires c = (fit c.loop-field.invariant (starts c.next_field.ensures c.in-Ok.is)).loads

pub overflow_add-m : goal.overflow_add-m
overflow_add-m c = omega (arith, (fit c.loop-field.invariant (starts c.next_field.ensures c.in-Ok.is)).loads.space.most)

pub loop-field-smaller : goal.loop-field-smaller
loop-field-smaller c = starts-less (starts c.next_field.ensures c.in-Ok.is)

pub loop-field-preserved : goal.loop-field-preserved
loop-field-preserved c = loading-next c.loop-field.invariant (starts c.next_field.ensures c.in-Ok.is) c.load_line.ensures

pub returns : goal.returns
returns c = loading-done c.loop-field.invariant (λ f e. c.in_default.not-Ok f (c.next_field.ensures ∙ e))
