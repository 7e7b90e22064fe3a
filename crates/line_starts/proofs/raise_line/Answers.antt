-- `line_starts::raise_line` meets its contract. Assumes nothing.
use mathlib.Core.Path.{◌≡◌, refl, ◌∙◌, ap₂}
use mathlib.Core.List.{List}
use Prim.Native.Nat.{ℕ, ◌+◌}
use native.Mathlib.Omega.{arith}
use lib.IntN.{ℤ}
use Rattle.lines.specs.Buffer.{raised, raised_line}
use Rattle.lines.proofs.Raising.{t_A-term}
use Rattle.line_starts.proofs.raise_line.Goals as goal

-- What `raise` leaves, by where it raised and in what.
raise-is : (k x : ℕ) {at at' : ℕ} {buf buf' buf'' : List ℤ} → buf'' ≡ raised (at + k) x buf → at ≡ at' → buf ≡ buf' → buf'' ≡ raised (at' + k) x buf'
raise-is k x r e b = r ∙ ap₂ (λ (n : ℕ) (l : List ℤ). raised (n + k) x l) e b

pub raise-requires-2-clause-within : goal.raise-requires-2-clause-within
raise-requires-2-clause-within c =
    (t_A-term c.args.k c.args.n.0 c.args.x c.args.y c.args.lines.now (omega arith) c.requires.raised c.place_a-at_a.result c.raise.new.lines c.place_a-at_a.ensures (raise-is c.args.k c.args.x c.raise.ensures c.place-at.ensures refl)).1

pub returns : goal.returns
unfolding raised_line
returns c =
    let a = c.args in
    raise-is a.k a.y c.raise-2.ensures c.place_a-at_a.ensures (raise-is a.k a.x c.raise.ensures c.place-at.ensures refl)
