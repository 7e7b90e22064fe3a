-- The proof of the cycle {check_branch, check_rounded, check_rounding, check_split}: the measure is how many bytes are unread and how many more branching steps may be open, twice, and one more where the branches of a rounding or a split are gone through.
-- Each answer collects the facts on its way and cites a lemma of `BranchStops`, `OpenedBranches`, `Rounds` or `Splits`; what is checked in a turn of the loop over j gives what is checked from 0 on. Assumes nothing.
use native.Mathlib.Omega.{arith}
use mathlib.Core.Path.{refl, ◌∙◌}
use lib.Dec.{ltb}
use borrow.Author.Rules.{rules}
use mir.Syntax.{w64}
use mir.ValLaws.{to_z-of_z}
use Rattle.std.proofs.lemmas.Result.{err_from_is_err_and}
use Rattle.forms.specs.Forms.{◌or◌}
use Rattle.openings.specs.Opening.{last_two, from_branch}
use Rattle.branches.specs.Branching.{refused_row}
use Rattle.branches.proofs.Spare.{one_less, next-falls, own-falls, others-fall, turn-falls}
use Rattle.branches.proofs.BranchStops.{Told, told-ok, told-err, stopped-fault, comes-ready, stop-comes, number-refused, number-closed, stride-refused, stride-closed, opens-refused}
use Rattle.branches.proofs.OpenedBranches.{first-started, first-fault, rest-open, rest-unread, rest-opened, first-checks, head-short, none-short, start-asked, some-started, some-open, some-unread, some-opened, two-fault, two-checks, opening-falls, opened, first-stands, resumed-fault, resumed-checks}
use Rattle.branches.proofs.JoinedClosings.{or_bytes}
use Rattle.branches.proofs.Splits.{split_started, split-fault, split-open, split-unread, negated-asked, negated-started, split-checks, split-opened, split-refused, split-resumed}
use Rattle.branches.proofs.Rounds.{template-asked, template-kept, start-rounded-asked, rounded-started, rounding-fault, rounding-turn}
use Prim.Native.Nat.{◌+◌}
use Rattle.branches.proofs.branch.+check_branch_check_rounded_check_rounding_check_split.Goals as goal

pub check_branch-returns-in_err-stop : goal.check_branch-returns-in_err-stop
check_branch-returns-in_err-stop t c =
    let p = err_from_is_err_and c.from_residual.result c.from_residual.ensures.1 in
    rw (p.1, p.2) (stopped-fault _ _ c.in_err-stop.ensures)

pub check_branch-returns-in_err-o-in-ClosesNumber : goal.check_branch-returns-in_err-o-in-ClosesNumber
check_branch-returns-in_err-o-in-ClosesNumber t c =
    let of = refused_row c.in_ok-stop.stop c.args.position in
    let told : Told of c.close_number.result c.map_err.result = search rules in
    let w = told-err of c.close_number.result told c.in_err-o-in-ClosesNumber.was in
    let p = err_from_is_err_and c.from_residual-in_err-o-in-ClosesNumber.result c.from_residual-in_err-o-in-ClosesNumber.ensures.1 in
    rw (p.1, p.2) (number-refused c.in_ok-stop.ensures c.in-ClosesNumber.is c.close_number.ensures w)

pub check_branch-returns-in_ok-o-in-ClosesNumber : goal.check_branch-returns-in_ok-o-in-ClosesNumber
check_branch-returns-in_ok-o-in-ClosesNumber t c =
    let of = refused_row c.in_ok-stop.stop c.args.position in
    let told : Told of c.close_number.result c.map_err.result = search rules in
    rw c.closed.ensures (number-closed c.in_ok-stop.ensures c.in-ClosesNumber.is c.close_number.ensures (told-ok of c.close_number.result told c.in_ok-o-in-ClosesNumber.was))

pub check_branch-returns-in_err-o-in-ClosesStride : goal.check_branch-returns-in_err-o-in-ClosesStride
check_branch-returns-in_err-o-in-ClosesStride t c =
    let of = refused_row c.in_ok-stop.stop c.args.position in
    let told : Told of c.close_stride.result c.map_err-in-ClosesStride.result = search rules in
    let w = told-err of c.close_stride.result told c.in_err-o-in-ClosesStride.was in
    let p = err_from_is_err_and c.from_residual-in_err-o-in-ClosesStride.result c.from_residual-in_err-o-in-ClosesStride.ensures.1 in
    rw (p.1, p.2) (stride-refused c.in_ok-stop.ensures c.in-ClosesStride.is c.close_stride.ensures w)

pub check_branch-returns-in_ok-o-in-ClosesStride : goal.check_branch-returns-in_ok-o-in-ClosesStride
check_branch-returns-in_ok-o-in-ClosesStride t c =
    let of = refused_row c.in_ok-stop.stop c.args.position in
    let told : Told of c.close_stride.result c.map_err-in-ClosesStride.result = search rules in
    rw c.closed-in-ClosesStride.ensures (stride-closed c.in_ok-stop.ensures c.in-ClosesStride.is c.close_stride.ensures (told-ok of c.close_stride.result told c.in_ok-o-in-ClosesStride.was))

pub check_branch-returns-in_err-v-in-Strengthens : goal.check_branch-returns-in_err-v-in-Strengthens
check_branch-returns-in_err-v-in-Strengthens t c =
    let stop = c.in_ok-stop.ensures in
    let m = stop-comes stop c.in-Strengthens.is in
    let s = c.strengthen.ensures in
    let of = refused_row c.in_ok-stop.stop c.args.position in
    let told : Told of c.strengthen.result c.map_err-in-Strengthens.result = search rules in
    let w = told-err of c.strengthen.result told c.in_err-v-in-Strengthens.was in
    let p = err_from_is_err_and c.from_residual-in_err-v-in-Strengthens.result c.from_residual-in_err-v-in-Strengthens.ensures.1 in
    rw (p.1, p.2) (opens-refused _ m stop.kept _ _ s w refl)

pub check_branch-check_branch-requires : goal.check_branch-check_branch-requires
check_branch-check_branch-requires t c =
    let stop = c.in_ok-stop.ensures in
    let m = stop-comes stop c.in-Strengthens.is in
    let s = c.strengthen.ensures in
    let of = refused_row c.in_ok-stop.stop c.args.position in
    let told : Told of c.strengthen.result c.map_err-in-Strengthens.result = search rules in
    let made = told-ok of c.strengthen.result told c.in_ok-v-in-Strengthens.was in
    let d = opened m stop.kept s made c.requires in
    let f = first-stands m stop.kept s made in
    let h = c.put_pair-head.ensures in
    rw c.on-from.ensures (one_less (opening-falls m stop.kept s made c.decreases), first-started d ◌or◌ or_bytes last_two 0 f h)

pub check_branch-returns-in_err-first-in-Strengthens : goal.check_branch-returns-in_err-first-in-Strengthens
check_branch-returns-in_err-first-in-Strengthens t c =
    let stop = c.in_ok-stop.ensures in
    let m = stop-comes stop c.in-Strengthens.is in
    let s = c.strengthen.ensures in
    let of = refused_row c.in_ok-stop.stop c.args.position in
    let told : Told of c.strengthen.result c.map_err-in-Strengthens.result = search rules in
    let made = told-ok of c.strengthen.result told c.in_ok-v-in-Strengthens.was in
    let d = opened m stop.kept s made c.requires in
    let f = first-stands m stop.kept s made in
    let h = c.put_pair-head.ensures in
    let b = rw (c.on-from.ensures, c.branch_of-place.ensures) at c.check_branch.ensures in
    let p = err_from_is_err_and c.from_residual-in_err-first-in-Strengthens.result c.from_residual-in_err-first-in-Strengthens.ensures.1 in
    let e = c.in_err-first-in-Strengthens.was in
    rw (p.1, p.2) (resumed-fault m stop.kept s made c.args.position (first-fault d ◌or◌ or_bytes last_two _ f h b e) e)

pub check_branch-start_line-requires : goal.check_branch-start_line-requires
check_branch-start_line-requires t c =
    let stop = c.in_ok-stop.ensures in
    let m = stop-comes stop c.in-Strengthens.is in
    let s = c.strengthen.ensures in
    let of = refused_row c.in_ok-stop.stop c.args.position in
    let told : Told of c.strengthen.result c.map_err-in-Strengthens.result = search rules in
    let made = told-ok of c.strengthen.result told c.in_ok-v-in-Strengthens.was in
    let d = opened m stop.kept s made c.requires in
    let f = first-stands m stop.kept s made in
    let h = c.put_pair-head.ensures in
    let b = rw (c.on-from.ensures, c.branch_of-place.ensures) at c.check_branch.ensures in
    let e = c.in_ok-first-in-Strengthens.was in
    let d₂ = rest-opened d ◌or◌ or_bytes last_two _ f h b e in
    start-asked d₂ (omega arith) (omega arith)

pub check_branch-check_branch-requires-in-Strengthens : goal.check_branch-check_branch-requires-in-Strengthens
check_branch-check_branch-requires-in-Strengthens t c =
    let stop = c.in_ok-stop.ensures in
    let m = stop-comes stop c.in-Strengthens.is in
    let s = c.strengthen.ensures in
    let of = refused_row c.in_ok-stop.stop c.args.position in
    let told : Told of c.strengthen.result c.map_err-in-Strengthens.result = search rules in
    let made = told-ok of c.strengthen.result told c.in_ok-v-in-Strengthens.was in
    let d = opened m stop.kept s made c.requires in
    let f = first-stands m stop.kept s made in
    let h = c.put_pair-head.ensures in
    let b = rw (c.on-from.ensures, c.branch_of-place.ensures) at c.check_branch.ensures in
    let e = c.in_ok-first-in-Strengthens.was in
    let d₂ = rest-opened d ◌or◌ or_bytes last_two _ f h b e in
    let lines₂ = c.start_line.ensures.lines in
    let kinds₂ = c.start_line.ensures.kinds in
    let h₂ = c.put_pair-head2.ensures in
    rw c.on-from2.ensures (next-falls (rest-open d ◌or◌ or_bytes last_two _ f h b e) (rest-unread d ◌or◌ or_bytes last_two _ f h b e) (one_less (opening-falls m stop.kept s made c.decreases)), some-started d₂ _ _ _ lines₂ kinds₂ (omega arith) (omega arith) (omega arith) (head-short h₂))

pub check_branch-returns-in_err-second-in-Strengthens : goal.check_branch-returns-in_err-second-in-Strengthens
check_branch-returns-in_err-second-in-Strengthens t c =
    let stop = c.in_ok-stop.ensures in
    let m = stop-comes stop c.in-Strengthens.is in
    let s = c.strengthen.ensures in
    let of = refused_row c.in_ok-stop.stop c.args.position in
    let told : Told of c.strengthen.result c.map_err-in-Strengthens.result = search rules in
    let made = told-ok of c.strengthen.result told c.in_ok-v-in-Strengthens.was in
    let d = opened m stop.kept s made c.requires in
    let f = first-stands m stop.kept s made in
    let h = c.put_pair-head.ensures in
    let b = rw (c.on-from.ensures, c.branch_of-place.ensures) at c.check_branch.ensures in
    let e = c.in_ok-first-in-Strengthens.was in
    let d₂ = rest-opened d ◌or◌ or_bytes last_two _ f h b e in
    let lines₂ = c.start_line.ensures.lines in
    let kinds₂ = c.start_line.ensures.kinds in
    let h₂ = c.put_pair-head2.ensures in
    let b₂ = rw (c.on-from2.ensures, c.branch_of-place2.ensures) at c.check_branch-in-Strengthens.ensures in
    let p = err_from_is_err_and c.from_residual-in_err-second-in-Strengthens.result c.from_residual-in_err-second-in-Strengthens.ensures.1 in
    let e₂ = c.in_err-second-in-Strengthens.was in
    rw (p.1, p.2) (resumed-fault m stop.kept s made c.args.position (first-checks d ◌or◌ or_bytes last_two _ f h b e (omega arith) (two-fault d₂ _ lines₂ kinds₂ h₂ b₂ e₂)) e₂)

pub check_branch-start_line-requires-in-Strengthens : goal.check_branch-start_line-requires-in-Strengthens
check_branch-start_line-requires-in-Strengthens t c =
    let stop = c.in_ok-stop.ensures in
    let m = stop-comes stop c.in-Strengthens.is in
    let s = c.strengthen.ensures in
    let of = refused_row c.in_ok-stop.stop c.args.position in
    let told : Told of c.strengthen.result c.map_err-in-Strengthens.result = search rules in
    let made = told-ok of c.strengthen.result told c.in_ok-v-in-Strengthens.was in
    let d = opened m stop.kept s made c.requires in
    let f = first-stands m stop.kept s made in
    let h = c.put_pair-head.ensures in
    let b = rw (c.on-from.ensures, c.branch_of-place.ensures) at c.check_branch.ensures in
    let e = c.in_ok-first-in-Strengthens.was in
    let d₂ = rest-opened d ◌or◌ or_bytes last_two _ f h b e in
    let lines₂ = c.start_line.ensures.lines in
    let kinds₂ = c.start_line.ensures.kinds in
    let h₂ = c.put_pair-head2.ensures in
    let b₂ = rw (c.on-from2.ensures, c.branch_of-place2.ensures) at c.check_branch-in-Strengthens.ensures in
    let e₂ = c.in_ok-second-in-Strengthens.was in
    start-asked (some-opened d₂ _ _ _ lines₂ kinds₂ (omega arith) (omega arith) (omega arith) (head-short h₂) _ b₂ e₂) (omega arith) (omega arith)

pub check_branch-check_branch-requires-in-Strengthens-2 : goal.check_branch-check_branch-requires-in-Strengthens-2
check_branch-check_branch-requires-in-Strengthens-2 t c =
    let stop = c.in_ok-stop.ensures in
    let m = stop-comes stop c.in-Strengthens.is in
    let s = c.strengthen.ensures in
    let of = refused_row c.in_ok-stop.stop c.args.position in
    let told : Told of c.strengthen.result c.map_err-in-Strengthens.result = search rules in
    let made = told-ok of c.strengthen.result told c.in_ok-v-in-Strengthens.was in
    let d = opened m stop.kept s made c.requires in
    let f = first-stands m stop.kept s made in
    let h = c.put_pair-head.ensures in
    let b = rw (c.on-from.ensures, c.branch_of-place.ensures) at c.check_branch.ensures in
    let e = c.in_ok-first-in-Strengthens.was in
    let d₂ = rest-opened d ◌or◌ or_bytes last_two _ f h b e in
    let lines₂ = c.start_line.ensures.lines in
    let kinds₂ = c.start_line.ensures.kinds in
    let h₂ = c.put_pair-head2.ensures in
    let b₂ = rw (c.on-from2.ensures, c.branch_of-place2.ensures) at c.check_branch-in-Strengthens.ensures in
    let e₂ = c.in_ok-second-in-Strengthens.was in
    rw c.on-from3.ensures (next-falls (some-open d₂ _ _ _ lines₂ kinds₂ (omega arith) (omega arith) (omega arith) (head-short h₂) _ b₂ e₂) (some-unread d₂ _ _ _ lines₂ kinds₂ (omega arith) (omega arith) (omega arith) (head-short h₂) _ b₂ e₂) (next-falls (rest-open d ◌or◌ or_bytes last_two _ f h b e) (rest-unread d ◌or◌ or_bytes last_two _ f h b e) (one_less (opening-falls m stop.kept s made c.decreases))), some-started (some-opened d₂ _ _ _ lines₂ kinds₂ (omega arith) (omega arith) (omega arith) (head-short h₂) _ b₂ e₂) _ _ _ c.start_line-in-Strengthens.ensures.lines c.start_line-in-Strengthens.ensures.kinds (omega arith) (omega arith) (omega arith) none-short)

pub check_branch-returns-in_err-third-in-Strengthens : goal.check_branch-returns-in_err-third-in-Strengthens
check_branch-returns-in_err-third-in-Strengthens t c =
    let stop = c.in_ok-stop.ensures in
    let m = stop-comes stop c.in-Strengthens.is in
    let s = c.strengthen.ensures in
    let of = refused_row c.in_ok-stop.stop c.args.position in
    let told : Told of c.strengthen.result c.map_err-in-Strengthens.result = search rules in
    let made = told-ok of c.strengthen.result told c.in_ok-v-in-Strengthens.was in
    let d = opened m stop.kept s made c.requires in
    let f = first-stands m stop.kept s made in
    let h = c.put_pair-head.ensures in
    let b = rw (c.on-from.ensures, c.branch_of-place.ensures) at c.check_branch.ensures in
    let e = c.in_ok-first-in-Strengthens.was in
    let d₂ = rest-opened d ◌or◌ or_bytes last_two _ f h b e in
    let lines₂ = c.start_line.ensures.lines in
    let kinds₂ = c.start_line.ensures.kinds in
    let h₂ = c.put_pair-head2.ensures in
    let b₂ = rw (c.on-from2.ensures, c.branch_of-place2.ensures) at c.check_branch-in-Strengthens.ensures in
    let e₂ = c.in_ok-second-in-Strengthens.was in
    let b₃ = rw (c.on-from3.ensures, c.branch_of-place3.ensures) at c.check_branch-in-Strengthens-2.ensures in
    let all = first-checks d ◌or◌ or_bytes last_two _ f h b e (omega arith) (two-checks d₂ _ lines₂ kinds₂ h₂ b₂ e₂ c.start_line-in-Strengthens.ensures.lines c.start_line-in-Strengthens.ensures.kinds b₃) in
    let p = err_from_is_err_and c.from_residual-in_err-third-in-Strengthens.result c.from_residual-in_err-third-in-Strengthens.ensures.1 in
    rw (p.1, p.2) (resumed-fault m stop.kept s made c.args.position all c.in_err-third-in-Strengthens.was)

pub check_branch-returns-in_ok-third-in-Strengthens : goal.check_branch-returns-in_ok-third-in-Strengthens
check_branch-returns-in_ok-third-in-Strengthens t c =
    let stop = c.in_ok-stop.ensures in
    let m = stop-comes stop c.in-Strengthens.is in
    let s = c.strengthen.ensures in
    let of = refused_row c.in_ok-stop.stop c.args.position in
    let told : Told of c.strengthen.result c.map_err-in-Strengthens.result = search rules in
    let made = told-ok of c.strengthen.result told c.in_ok-v-in-Strengthens.was in
    let d = opened m stop.kept s made c.requires in
    let f = first-stands m stop.kept s made in
    let h = c.put_pair-head.ensures in
    let b = rw (c.on-from.ensures, c.branch_of-place.ensures) at c.check_branch.ensures in
    let e = c.in_ok-first-in-Strengthens.was in
    let d₂ = rest-opened d ◌or◌ or_bytes last_two _ f h b e in
    let lines₂ = c.start_line.ensures.lines in
    let kinds₂ = c.start_line.ensures.kinds in
    let h₂ = c.put_pair-head2.ensures in
    let b₂ = rw (c.on-from2.ensures, c.branch_of-place2.ensures) at c.check_branch-in-Strengthens.ensures in
    let e₂ = c.in_ok-second-in-Strengthens.was in
    let b₃ = rw (c.on-from3.ensures, c.branch_of-place3.ensures) at c.check_branch-in-Strengthens-2.ensures in
    let all = first-checks d ◌or◌ or_bytes last_two _ f h b e (omega arith) (two-checks d₂ _ lines₂ kinds₂ h₂ b₂ e₂ c.start_line-in-Strengthens.ensures.lines c.start_line-in-Strengthens.ensures.kinds b₃) in
    resumed-checks m stop.kept s made c.args.position all c.in_ok-third-in-Strengthens.was c.resumed.ensures

pub check_branch-round-requires : goal.check_branch-round-requires
check_branch-round-requires t c =
    let stop = c.in_ok-stop.ensures in
    let m = stop-comes stop c.in-Rounds.is in
    comes-ready m

pub check_branch-returns-in_err-v-in-Rounds : goal.check_branch-returns-in_err-v-in-Rounds
check_branch-returns-in_err-v-in-Rounds t c =
    let stop = c.in_ok-stop.ensures in
    let m = stop-comes stop c.in-Rounds.is in
    let s = c.round.ensures in
    let of = refused_row c.in_ok-stop.stop c.args.position in
    let told : Told of c.round.result c.map_err-in-Rounds.result = search rules in
    let w = told-err of c.round.result told c.in_err-v-in-Rounds.was in
    let p = err_from_is_err_and c.from_residual-in_err-v-in-Rounds.result c.from_residual-in_err-v-in-Rounds.ensures.1 in
    rw (p.1, p.2) (opens-refused _ m stop.kept _ _ s.opens w refl)

pub check_branch-check_rounding-requires : goal.check_branch-check_rounding-requires
check_branch-check_rounding-requires t c =
    let stop = c.in_ok-stop.ensures in
    let m = stop-comes stop c.in-Rounds.is in
    let s = c.round.ensures in
    let of = refused_row c.in_ok-stop.stop c.args.position in
    let told : Told of c.round.result c.map_err-in-Rounds.result = search rules in
    let made = told-ok of c.round.result told c.in_ok-v-in-Rounds.was in
    rw c.on-from-in-Rounds.ensures (opening-falls m stop.kept s.opens made c.decreases, ((opened m stop.kept s.opens made c.requires, first-stands m stop.kept s.opens made), s.sizes _ made))

pub check_branch-returns-in_err-all-in-Rounds : goal.check_branch-returns-in_err-all-in-Rounds
check_branch-returns-in_err-all-in-Rounds t c =
    let stop = c.in_ok-stop.ensures in
    let m = stop-comes stop c.in-Rounds.is in
    let s = c.round.ensures in
    let of = refused_row c.in_ok-stop.stop c.args.position in
    let told : Told of c.round.result c.map_err-in-Rounds.result = search rules in
    let made = told-ok of c.round.result told c.in_ok-v-in-Rounds.was in
    let all = rw c.on-from-in-Rounds.ensures at c.check_rounding.ensures in
    let p = err_from_is_err_and c.from_residual-in_err-all-in-Rounds.result c.from_residual-in_err-all-in-Rounds.ensures.1 in
    rw (p.1, p.2) (resumed-fault m stop.kept s.opens made c.args.position all c.in_err-all-in-Rounds.was)

pub check_branch-returns-in_ok-all-in-Rounds : goal.check_branch-returns-in_ok-all-in-Rounds
check_branch-returns-in_ok-all-in-Rounds t c =
    let stop = c.in_ok-stop.ensures in
    let m = stop-comes stop c.in-Rounds.is in
    let s = c.round.ensures in
    let of = refused_row c.in_ok-stop.stop c.args.position in
    let told : Told of c.round.result c.map_err-in-Rounds.result = search rules in
    let made = told-ok of c.round.result told c.in_ok-v-in-Rounds.was in
    let all = rw c.on-from-in-Rounds.ensures at c.check_rounding.ensures in
    resumed-checks m stop.kept s.opens made c.args.position all c.in_ok-all-in-Rounds.was c.resumed-in-Rounds.ensures

pub check_branch-returns-in_err-v-in-Splits : goal.check_branch-returns-in_err-v-in-Splits
check_branch-returns-in_err-v-in-Splits t c =
    let stop = c.in_ok-stop.ensures in
    let m = stop-comes stop c.in-Splits.is in
    let s = c.split.ensures in
    let of = refused_row c.in_ok-stop.stop c.args.position in
    let told : Told of c.split.result c.map_err-in-Splits.result = search rules in
    let w = told-err of c.split.result told c.in_err-v-in-Splits.was in
    let p = err_from_is_err_and c.from_residual-in_err-v-in-Splits.result c.from_residual-in_err-v-in-Splits.ensures.1 in
    rw (p.1, p.2) (opens-refused _ m stop.kept _ _ s.opens w refl)

pub check_branch-check_split-requires : goal.check_branch-check_split-requires
check_branch-check_split-requires t c =
    let stop = c.in_ok-stop.ensures in
    let m = stop-comes stop c.in-Splits.is in
    let s = c.split.ensures in
    let of = refused_row c.in_ok-stop.stop c.args.position in
    let told : Told of c.split.result c.map_err-in-Splits.result = search rules in
    let made = told-ok of c.split.result told c.in_ok-v-in-Splits.was in
    rw c.on-from-in-Splits.ensures (opening-falls m stop.kept s.opens made c.decreases, split-opened m stop.kept s made c.requires)

pub check_branch-returns-in_err-both-in-Splits : goal.check_branch-returns-in_err-both-in-Splits
check_branch-returns-in_err-both-in-Splits t c =
    let stop = c.in_ok-stop.ensures in
    let m = stop-comes stop c.in-Splits.is in
    let s = c.split.ensures in
    let of = refused_row c.in_ok-stop.stop c.args.position in
    let told : Told of c.split.result c.map_err-in-Splits.result = search rules in
    let made = told-ok of c.split.result told c.in_ok-v-in-Splits.was in
    let both = rw c.on-from-in-Splits.ensures at c.check_split.ensures in
    let p = err_from_is_err_and c.from_residual-in_err-both-in-Splits.result c.from_residual-in_err-both-in-Splits.ensures.1 in
    rw (p.1, p.2) (split-refused m stop.kept s made c.args.position both c.in_err-both-in-Splits.was)

pub check_branch-returns-in_ok-both-in-Splits : goal.check_branch-returns-in_ok-both-in-Splits
check_branch-returns-in_ok-both-in-Splits t c =
    let stop = c.in_ok-stop.ensures in
    let m = stop-comes stop c.in-Splits.is in
    let s = c.split.ensures in
    let of = refused_row c.in_ok-stop.stop c.args.position in
    let told : Told of c.split.result c.map_err-in-Splits.result = search rules in
    let made = told-ok of c.split.result told c.in_ok-v-in-Splits.was in
    let both = rw c.on-from-in-Splits.ensures at c.check_split.ensures in
    split-resumed m stop.kept s made c.args.position both c.in_ok-both-in-Splits.was c.resumed-in-Splits.ensures

pub check_rounded-put_stride-requires-clause-numbered : goal.check_rounded-put_stride-requires-clause-numbered
check_rounded-put_stride-requires-clause-numbered t c =
    template-asked c.requires.opened c.place_a-ta.ensures (to_z-of_z w64 c.from-stride.result (record { sfits = c.from-stride.type_inv }) ∙ c.from-stride.ensures) (omega arith) c.requires.rounds

pub check_rounded-start_rounded-front-requires : goal.check_rounded-start_rounded-front-requires
check_rounded-start_rounded-front-requires t c =
    let turn = c.loop-j.invariant.turn c.loop-j-test.true in
    let z = to_z-of_z w64 c.from-stride.result (record { sfits = c.from-stride.type_inv }) ∙ c.from-stride.ensures in
    let w = template-kept c.requires.opened c.place_a-ta.ensures refl (rw z at c.put_stride.ensures) turn.kept in
    let asked = start-rounded-asked turn.opened turn.less (omega arith) c.requires.rounds w in
    rw z (record { line_start = asked.0; divisor = asked.1.0; stride_template = asked.1.1 })

pub check_rounded-check_branch-requires : goal.check_rounded-check_branch-requires
check_rounded-check_branch-requires t c =
    let turn = c.loop-j.invariant.turn c.loop-j-test.true in
    let z = to_z-of_z w64 c.from-stride.result (record { sfits = c.from-stride.type_inv }) ∙ c.from-stride.ensures in
    let h = rw z at c.start_rounded-front.ensures in
    rw c.on-from.ensures (turn-falls turn.open_is turn.unread c.decreases, rounded-started turn.opened turn.less _ (ltb (c.loop-j.j + 1) c.args.by) h)

pub check_rounded-returns-in_err-end : goal.check_rounded-returns-in_err-end
check_rounded-returns-in_err-end t c =
    let turn = c.loop-j.invariant.turn c.loop-j-test.true in
    let z = to_z-of_z w64 c.from-stride.result (record { sfits = c.from-stride.type_inv }) ∙ c.from-stride.ensures in
    let h = rw z at c.start_rounded-front.ensures in
    let b = rw (c.on-from.ensures, c.branch_of-place.ensures) at c.check_branch.ensures in
    let p = err_from_is_err_and c.from_residual.result c.from_residual.ensures.1 in
    rw (p.1, p.2) (rounding-fault turn h b c.in_err-end.was)

pub check_rounded-loop-j-preserved : goal.check_rounded-loop-j-preserved
check_rounded-loop-j-preserved t c =
    let turn = c.loop-j.invariant.turn c.loop-j-test.true in
    let z = to_z-of_z w64 c.from-stride.result (record { sfits = c.from-stride.type_inv }) ∙ c.from-stride.ensures in
    let h = rw z at c.start_rounded-front.ensures in
    let b = rw (c.on-from.ensures, c.branch_of-place.ensures) at c.check_branch.ensures in
    rounding-turn turn h b c.in_ok-end.was

pub check_rounding-check_branch-requires : goal.check_rounding-check_branch-requires
check_rounding-check_branch-requires t c =
    let d = c.requires.opened.0 in
    let f = c.requires.opened.1 in
    let rest = from_branch c.args.g c.args.by 0 in
    let h = c.put_pair-head.ensures in
    rw c.on-from.ensures (own-falls c.decreases, first-started d ◌or◌ or_bytes rest 0 f h)

pub check_rounding-returns-in_err-first : goal.check_rounding-returns-in_err-first
check_rounding-returns-in_err-first t c =
    let d = c.requires.opened.0 in
    let f = c.requires.opened.1 in
    let rest = from_branch c.args.g c.args.by 0 in
    let h = c.put_pair-head.ensures in
    let b = rw (c.on-from.ensures, c.branch_of-place.ensures) at c.check_branch.ensures in
    let p = err_from_is_err_and c.from_residual.result c.from_residual.ensures.1 in
    let e = c.in_err-first.was in
    rw (p.1, p.2) (rw e at (first-fault d ◌or◌ or_bytes rest _ f h b e))

pub check_rounding-check_rounded-requires : goal.check_rounding-check_rounded-requires
check_rounding-check_rounded-requires t c =
    let d = c.requires.opened.0 in
    let f = c.requires.opened.1 in
    let rest = from_branch c.args.g c.args.by 0 in
    let h = c.put_pair-head.ensures in
    let b = rw (c.on-from.ensures, c.branch_of-place.ensures) at c.check_branch.ensures in
    let e = c.in_ok-first.was in
    rw c.on-from2.ensures (others-fall (rest-open d ◌or◌ or_bytes rest _ f h b e) (rest-unread d ◌or◌ or_bytes rest _ f h b e) c.decreases, (rest-opened d ◌or◌ or_bytes rest _ f h b e, c.requires.rounds))

pub check_rounding-returns : goal.check_rounding-returns
check_rounding-returns t c =
    let d = c.requires.opened.0 in
    let f = c.requires.opened.1 in
    let rest = from_branch c.args.g c.args.by 0 in
    let h = c.put_pair-head.ensures in
    let b = rw (c.on-from.ensures, c.branch_of-place.ensures) at c.check_branch.ensures in
    let e = c.in_ok-first.was in
    first-checks d ◌or◌ or_bytes rest _ f h b e (omega arith) (rw c.on-from2.ensures at c.check_rounded.ensures)

pub check_split-check_branch-requires : goal.check_split-check_branch-requires
check_split-check_branch-requires t c =
    let s = c.requires in
    let k = c.kind_of-kind.ensures in
    let et = c.joined_by.ensures in
    let h = c.put_pair-head.ensures in
    rw c.on-from.ensures (own-falls c.decreases, split_started s k 0 et h)

pub check_split-returns-in_err-first : goal.check_split-returns-in_err-first
check_split-returns-in_err-first t c =
    let s = c.requires in
    let k = c.kind_of-kind.ensures in
    let et = c.joined_by.ensures in
    let h = c.put_pair-head.ensures in
    let b = rw (c.on-from.ensures, c.branch_of-place.ensures) at c.check_branch.ensures in
    let p = err_from_is_err_and c.from_residual.result c.from_residual.ensures.1 in
    let e = c.in_err-first.was in
    rw (p.1, p.2) (rw e at (split-fault s k _ et h b e))

pub check_split-start_negated-requires : goal.check_split-start_negated-requires
check_split-start_negated-requires t c =
    let s = c.requires in
    let k = c.kind_of-kind.ensures in
    let et = c.joined_by.ensures in
    let h = c.put_pair-head.ensures in
    let b = rw (c.on-from.ensures, c.branch_of-place.ensures) at c.check_branch.ensures in
    let e = c.in_ok-first.was in
    negated-asked s k _ et h b e c.raised_by.ensures

pub check_split-check_branch-requires-2 : goal.check_split-check_branch-requires-2
check_split-check_branch-requires-2 t c =
    let s = c.requires in
    let k = c.kind_of-kind.ensures in
    let et = c.joined_by.ensures in
    let h = c.put_pair-head.ensures in
    let b = rw (c.on-from.ensures, c.branch_of-place.ensures) at c.check_branch.ensures in
    let e = c.in_ok-first.was in
    let lines = c.start_negated.ensures.lines in
    let kinds = c.start_negated.ensures.kinds in
    rw c.on-from2.ensures (one_less (others-fall (split-open s k _ et h b e) (split-unread s k _ et h b e) c.decreases), negated-started s k _ et h b e c.raised_by.ensures lines kinds)

pub check_split-returns : goal.check_split-returns
check_split-returns t c =
    let s = c.requires in
    let k = c.kind_of-kind.ensures in
    let et = c.joined_by.ensures in
    let h = c.put_pair-head.ensures in
    let b = rw (c.on-from.ensures, c.branch_of-place.ensures) at c.check_branch.ensures in
    let e = c.in_ok-first.was in
    let lines = c.start_negated.ensures.lines in
    let kinds = c.start_negated.ensures.kinds in
    split-checks s k _ et h b e c.raised_by.ensures lines kinds (rw (c.on-from2.ensures, c.branch_of-place2.ensures) at c.check_branch-2.ensures)
