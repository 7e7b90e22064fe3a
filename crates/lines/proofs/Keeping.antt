-- What keeps the lines of a branch, and keeps it ready for one more. Assumes nothing.
use mathlib.Core.List.{List}
use Prim.Native.Nat.{ℕ, ◌≤◌, ◌+◌, ◌*◌, ◌<◌}
use native.Mathlib.Omega.{arith}
use lib.IntN.{ℤ}
use mathlib.Core.Path.{◌∙◌, refl}
use native.Mathlib.Nat.{mul-le-mul_right}
use lib.ListN.{length}
use Rattle.lines.specs.Ready.{Ready, LinesKept, Limited}
use Rattle.lines.specs.Buffer.{size}
use Rattle.lines.proofs.Parts.{agree-sym, agree_trans, agree-le, agree_refl}
use Rattle.lines.proofs.Lines.{bounded-same}

pub ready-kept : {e K n : ℕ} {kinds : List ℕ} {buf : List ℤ} {kinds' : List ℕ} {buf' : List ℤ} → Ready e K kinds buf n → LinesKept K n kinds buf kinds' buf' → Ready e K kinds' buf' n
ready-kept r k = record {
  branch = record {
    constants = r.branch.constants;
    room = omega (arith, r.branch.room, k.lines_length);
    bounded = bounded-same (agree-sym k.lines_same) r.branch.bounded;
  };
  room = omega (arith, r.room, k.kinds_length);
  most = r.most;
}

pub kept_trans : {K m n : ℕ} {kinds : List ℕ} {buf : List ℤ} {kinds' : List ℕ} {buf' : List ℤ} {kinds'' : List ℕ} {buf'' : List ℤ}
    → m ≤ n → LinesKept K m kinds buf kinds' buf' → LinesKept K n kinds' buf' kinds'' buf'' → LinesKept K m kinds buf kinds'' buf''
kept_trans {K} {m} {n} h a b = record {
  lines_same = agree_trans (agree-le (mul-le-mul_right (size K) h) b.lines_same) a.lines_same;
  kinds_same = agree_trans (agree-le h b.kinds_same) a.kinds_same;
  lines_length = b.lines_length ∙ a.lines_length;
  kinds_length = b.kinds_length ∙ a.kinds_length;
}

pub kept_refl : {K n : ℕ} {kinds : List ℕ} {buf : List ℤ} → LinesKept K n kinds buf kinds buf
kept_refl = record { lines_same = agree_refl; kinds_same = agree_refl; lines_length = refl; kinds_length = refl }

-- ---- one more line
-- A branch with one line more, if the buffers have room for yet another.
pub ready-more : {e K n : ℕ} {kinds : List ℕ} {buf : List ℤ} {kinds' : List ℕ} {buf' : List ℤ}
    → Ready e K kinds buf n → LinesKept K n kinds buf kinds' buf' → Limited e K buf' (n + 1) → (n + 1) * size K + size K ≤ length buf → n + 1 < length kinds → Ready e K kinds' buf' (n + 1)
ready-more r k l h q = record {
  branch = record { constants = r.branch.constants; room = omega (arith, k.lines_length); bounded = l.bounded };
  room = omega (arith, k.kinds_length);
  most = l.most;
}
