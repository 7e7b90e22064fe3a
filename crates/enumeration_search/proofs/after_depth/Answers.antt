-- `enumeration_search::after_depth` meets its contract. Assumes nothing.
use mathlib.Core.Path.{◌∙◌, ap}
use Rattle.std.specs.Prelude.{Option, Ok}
use Rattle.std.proofs.lemmas.Result.{err_from_is_err_and}
use Rattle.enumeration_rows.specs.declared.found.Rows.{Rows}
use Rattle.enumeration_rows.proofs.Inferred.{roomy-kept}
use Rattle.enumeration_search.proofs.Depths.{after-found, after-barred, after_on}
use Rattle.enumeration_search.proofs.after_depth.Goals as goal

pub returns-in_err-rows : goal.returns-in_err-rows
returns-in_err-rows c = let p = err_from_is_err_and c.from_residual.result c.from_residual.ensures.1 in rw (p.1, p.2) (after-barred c.args.rest.now c.requires.depth_bound c.after.ensures c.in_err-rows.was)

pub first_from-requires-clause-search_room : goal.first_from-requires-clause-search_room
first_from-requires-clause-search_room c = roomy-kept c.requires.search_room c.after.ensures.kept

pub returns-in-Some : goal.returns-in-Some
returns-in-Some c = after-found c.args.rest.now c.requires.depth_bound c.after.ensures (c.in_ok-rows.was ∙ ap (λ (r : Option Rows). Ok r) c.in-Some.is)

pub returns-in-None : goal.returns-in-None
returns-in-None c = after_on c.args.rest.now c.requires.depth_bound c.after.ensures (c.in_ok-rows.was ∙ ap (λ (r : Option Rows). Ok r) c.in-None.is) c.first_from.ensures
