-- `enumeration_rows::infer::infer` meets its contract. Assumes nothing.
use mathlib.Core.Path.{◌≡◌}
use mir.Syntax.{w64}
use mir.ValLaws.{to_z-of_z}
use Rattle.calculus.specs.Rules.{Combine, Reduce, Scale}
use Rattle.enumeration.specs.Numbering.{inference_at}
use Rattle.enumeration_rows.proofs.Numbers.{is-combine, is-reduce, is-scale, infers-by}
use Rattle.enumeration_rows.proofs.infer.infer.Goals as goal

pub returns-then-j-block : goal.returns-then-j-block
returns-then-j-block c =
    let e : Combine c.line-s.result.0 c.line-t.result.0 c.factor-alpha.result c.factor-beta.result ≡ inference_at c.args.n c.args.j = cc (is-combine c.args.n c.args.j c.if-j-block.true) in
    infers-by c.combine.result c.is_ok.ensures.value c.tally_of-tally.ensures e c.combine.ensures

pub returns-then-j-block-2 : goal.returns-then-j-block-2
returns-then-j-block-2 c =
    let a = to_z-of_z w64 c.signed_factor-alpha.result (record { sfits = c.signed_factor-alpha.type_inv }) in
    let e : Reduce c.line-s-then-j-block-2.result.0 c.line-t-then-j-block-2.result.0 c.signed_factor-alpha.result ≡ inference_at c.args.n c.args.j = cc (is-reduce c.args.n c.args.j c.if-j-block.false c.if-j-block-2.true) in
    infers-by c.reduce.result c.is_ok-then-j-block-2.ensures.value c.tally_of-tally.ensures e (rw a at c.reduce.ensures)

pub returns : goal.returns
returns c =
    let e : Scale c.line-t-2.result.0 c.factor-alpha-2.result ≡ inference_at c.args.n c.args.j = cc (is-scale c.args.n c.args.j c.if-j-block.false c.if-j-block-2.false) in
    infers-by c.scale.result c.is_ok-2.ensures.value c.tally_of-tally.ensures e c.scale.ensures
