-- `formula_read::node::node_of` meets its contract: each arm is the node of its tags. Assumes nothing.
use mathlib.Core.Path.{refl, ◌∙◌}
use native.Mathlib.Omega.{arith}
use Rattle.fields.specs.Header.{known, header_tag}
use Rattle.formula.specs.Formula.{stride, formula_tagged, formula_size}
use Rattle.formula_read.proofs.Nodes.{by-tag, not_known, unknown, header-tag, pair-tag, literal-tag}
use Rattle.formula_read.proofs.node.node_of.Goals as goal

pub returns-in-53 : goal.returns-in-53
unfolding known header_tag formula_tagged formula_size
returns-in-53 c = c.sized.ensures ∙ by-tag _ _ 0x35 _ stride c.in-53.is refl refl (omega arith)

pub returns-in-1 : goal.returns-in-1
returns-in-1 c = header-tag _ _ _ (omega arith) (omega arith)

pub returns-in-49 : goal.returns-in-49
returns-in-49 c = c.sized-in-49.ensures ∙ pair-tag _ _ _ (omega arith) (omega arith)

pub returns-in-51 : goal.returns-in-51
returns-in-51 c = c.sized-in-51.ensures ∙ literal-tag _ _ _ _ (omega arith) (omega arith) refl

pub returns-in_default : goal.returns-in_default
returns-in_default c = unknown _ _ _ (not_known c.args.tag (omega arith) (omega arith) (λ l m. omega arith))

pub returns-in_default-2 : goal.returns-in_default-2
returns-in_default-2 c = unknown _ _ _ (not_known c.args.tag (omega arith) (omega arith) (λ l m. omega arith))

pub returns-in_default-3 : goal.returns-in_default-3
returns-in_default-3 c = unknown _ _ _ (not_known c.args.tag (omega arith) (omega arith) (λ l m. omega arith))
