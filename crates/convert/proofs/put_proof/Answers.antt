-- `convert::put_proof` meets its contract. Assumes nothing.
use native.Mathlib.Omega.{arith}
use Rattle.convert.proofs.Phases.{lines-stand, result-too-long, output-short, put-fits, all-put}
use Rattle.convert.proofs.put_proof.Goals as goal

pub returns-then-size-gt-PROOF_BYTES : goal.returns-then-size-gt-PROOF_BYTES
returns-then-size-gt-PROOF_BYTES c = result-too-long c.args.to c.args.file.now c.args.out.now c.args.proof.head.next c.args.proof.head.k c.args.proof.head.edition c.args.proof.size c.requires c.if-size-gt-PROOF_BYTES.true c.refused.ensures

pub returns-then-out-size : goal.returns-then-out-size
returns-then-out-size c = output-short c.args.to c.args.file.now c.args.out.now c.args.proof.head.next c.args.proof.head.k c.args.proof.head.edition c.args.proof.size c.requires (omega (arith, c.if-size-gt-PROOF_BYTES.false)) c.if-out-size.true c.refused-then-out-size.ensures

pub put_entries-requires : goal.put_entries-requires
put_entries-requires c = record { lines_there = lines-stand c.args.to c.args.file.now c.args.proof.head.next c.args.proof.head.k c.args.proof.head.edition c.args.proof.size c.requires.entered; p_len_bound = c.requires.entered.enter.short; at_in_bounds = put-fits c.args.to c.args.file.now c.args.out.now c.args.proof.head.next c.args.proof.head.k c.args.proof.head.edition c.args.proof.size c.requires (omega (arith, c.if-out-size.false)) c.put_header.ensures }

pub returns : goal.returns
returns c = all-put c.args.to c.args.file.now c.args.out.now c.args.proof.head.next c.args.proof.head.k c.args.proof.head.edition c.args.proof.size c.requires (omega (arith, c.if-size-gt-PROOF_BYTES.false)) (omega (arith, c.if-out-size.false)) c.put_header.ensures c.put_entries.ensures c.acceptance.ensures
