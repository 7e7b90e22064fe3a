-- `formula_test::values::first_outside` meets its contract. Assumes nothing.
use Rattle.std.proofs.Common.{rules, ℕ, ◌<◌, ◌≡◌, true, false, length, get_or, pos, MatchOption}
use Rattle.formula_test.specs.Values.{permitted}
use Rattle.formula_test.proofs.Registers.{search-outside}
use Rattle.formula_test.proofs.values.first_outside.Goals as goal

pub returns : goal.returns
returns c =
    let vs = c.args.values.now in
    let h : MatchOption c.position.result ((j : ℕ) → j < length vs → permitted (get_or vs j (pos 0)) ≡ true) (λ i. (i < length vs) × (permitted (get_or vs i (pos 0)) ≡ false) × ((j : ℕ) → j < i → permitted (get_or vs j (pos 0)) ≡ true)) = search rules in
    search-outside vs c.position.result h
