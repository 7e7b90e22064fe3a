-- `checker::answer` prints what the check leaves. Assumes nothing.
use Prim.Native.Nat.{ℕ, ◌≤◌}
use mathlib.Core.Path.{◌≡◌, sym}
use mathlib.Core.List.{List}
use native.Mathlib.Omega.{arith}
use lib.ListN.{length, take, replicate, length-replicate}
use lib.Seq.{length-take-le}
use Rattle.checker.proofs.Printing.{count-within, few, prints}
use Rattle.checker.proofs.answer.Goals as goal
use Rattle.checker.proofs.answer.Goals.{After-check-r}

-- the bytes written are there, and no more than the output has
module _ (c : After-check-r) where
  abbrev a : List ℕ
  a = c.args.a.now

  abbrev b : List ℕ
  b = c.args.b.now

  abbrev p : List ℕ
  p = c.args.p.now

  there : c.check-r.result.count ≤ length c.check-r.new.out
  there = count-within a b p (replicate 65536 0) c.check-r.result c.check-r.new.out c.check-r.ensures.is

  fits : c.check-r.result.count ≤ 65536
  fits = omega (arith, few a b p (replicate 65536 0) c.check-r.result c.check-r.new.out c.check-r.ensures.is, length-replicate {A = ℕ} 65536 0)

pub slice_bounds-out-end : goal.slice_bounds-out-end
slice_bounds-out-end c = there (goal.at.slice_bounds-out-end c).After-check-r

pub slice_bounds-put_answer-end-2 : goal.slice_bounds-put_answer-end-2
slice_bounds-put_answer-end-2 c = sym (length-take-le _ _ (there (goal.at.slice_bounds-put_answer-end-2 c).After-check-r))

pub put_answer-requires : goal.put_answer-requires
put_answer-requires c =
    let h = (goal.at.put_answer-requires c).After-check-r in
    let l : length (take h.check-r.result.count h.check-r.new.out) ≡ h.check-r.result.count = length-take-le _ _ (there h) in
    (omega arith, omega (arith, fits h, l))

pub returns : goal.returns
returns c = record {
  prefix_len = c.put_answer.ensures.prefix_len;
  printed = prints c.check-r.result c.check-r.new.out c.check-r.ensures.is c.put_answer.ensures.answer_lines;
}
