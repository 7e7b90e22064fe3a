-- `run_stages::reading::long_stage` meets its contract. Assumes nothing.
use borrow.Author.Rules.{rules}
use Rattle.std.proofs.Common.{ℕ, ◌<◌, ◌≤◌, length, get_or, MatchOption}
use Rattle.run_stages.proofs.StagesRead.{all-short, first-long}
use Rattle.run_stages.proofs.reading.long_stage.Goals as goal

pub returns-in_err-i : goal.returns-in_err-i
returns-in_err-i c =
    let ls = c.args.lengths.now in
    let h : MatchOption c.position.result ((j : ℕ) → j < length ls → get_or ls j 0 ≤ 8192) (λ i. (i < length ls) × (8192 < get_or ls i 0) × ((j : ℕ) → j < i → get_or ls j 0 ≤ 8192)) = search rules in
    rw c.from_residual.ensures (all-short c.requires (rw c.in_err-i.was at h))

pub returns : goal.returns
returns c =
    let ls = c.args.lengths.now in
    let h : MatchOption c.position.result ((j : ℕ) → j < length ls → get_or ls j 0 ≤ 8192) (λ i. (i < length ls) × (8192 < get_or ls i 0) × ((j : ℕ) → j < i → get_or ls j 0 ≤ 8192)) = search rules in
    let k = rw c.in_ok-i.was at h in
    first-long c.requires c.in_ok-i.i k.0 k.1 k.2
