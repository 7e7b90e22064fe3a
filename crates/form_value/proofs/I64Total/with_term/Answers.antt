-- A term and the total so far, in whole numbers. Assumes nothing.
use Rattle.std.proofs.Common.{◌+ℤ◌, ◌*ℤ◌, ap, w64, SFits}
use mir.ValLaws.{to_z-of_z}
use Rattle.form_value.proofs.Value.{product-fits, sum_fits}
use Rattle.form_value.proofs.I64Total.with_term.Goals as goal
use Rattle.form_value.proofs.I64Total.with_term.Goals.{Start}

module _ (c : Start) where
  product-in : SFits w64 (c.args.c *ℤ c.args.x)
  product-in = product-fits c.requires.c_small c.requires.x_small

  sum-in : SFits w64 (c.args.c *ℤ c.args.x +ℤ c.args.self)
  sum-in = sum_fits c.requires.c_small c.requires.x_small (rw c.requires.total.is c.requires.total.small)

pub overflow_mul-result : goal.overflow_mul-result
overflow_mul-result c = rw (to_z-of_z w64 c.args.c c.ranges.c, to_z-of_z w64 c.args.x c.ranges.x) (product-in c)

pub overflow_add-result : goal.overflow_add-result
overflow_add-result c = rw (to_z-of_z w64 c.args.c c.ranges.c, to_z-of_z w64 c.args.x c.ranges.x, to_z-of_z w64 _ (product-in c), to_z-of_z w64 c.args.self c.ranges.self) (sum-in c)

pub returns : goal.returns
returns c z h =
    rw (to_z-of_z w64 c.args.c c.ranges.c, to_z-of_z w64 c.args.x c.ranges.x, to_z-of_z w64 _ (product-in c), to_z-of_z w64 c.args.self c.ranges.self, to_z-of_z w64 _ (sum-in c)) (ap (λ t. c.args.c *ℤ c.args.x +ℤ t) h)
