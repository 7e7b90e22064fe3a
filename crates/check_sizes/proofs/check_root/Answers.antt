-- `check_sizes::check_root` meets its contract: each answer cites the law for its way. Assumes nothing.
use mathlib.Core.Path.{refl, ap}
use native.Mathlib.Omega.{arith}
use Rattle.forms.proofs.Editions.{lines-most}
use Rattle.answers.specs.declared.WriteResult.{WriteResult}
use Rattle.check_sizes.proofs.Root.{lacks-room, has_room}
use Rattle.check_sizes.proofs.RootBranched.{by-fault, by-short, by-closed-ended, by-closed}
use Rattle.check_sizes.proofs.check_root.Goals as goal

pub overflow_cast-made : goal.overflow_cast-made
overflow_cast-made c = omega (arith, lines-most c.args.e, c.requires.ready.most)

pub returns-then-lacks_room : goal.returns-then-lacks_room
returns-then-lacks_room c =
    let q = lacks-room c.lacks_room.ensures c.if-lacks_room.true in
    by-short c.check_branch.ensures c.root.ensures refl c.in-Ok.is q.0 q.1 (ap (λ (w : WriteResult). w.answer.number) c.refusal.ensures)

pub finish-requires : goal.finish-requires
finish-requires c = by-closed-ended c.check_branch.ensures c.root.ensures refl c.in-Ok.is c.requires (has_room c.lacks_room.ensures c.if-lacks_room.false)

pub returns-in-Err : goal.returns-in-Err
returns-in-Err c = by-fault c.check_branch.ensures c.root.ensures refl c.in-Err.is c.answer.ensures

pub returns-else-lacks_room : goal.returns-else-lacks_room
returns-else-lacks_room c = by-closed c.check_branch.ensures c.root.ensures refl c.in-Ok.is c.requires (has_room c.lacks_room.ensures c.if-lacks_room.false) c.finish.ensures
