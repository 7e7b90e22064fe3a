-- The nodes of a formula as the code tells them apart, and what each gives. Assumes nothing.
use Rattle.std.proofs.Math.Option.{Option, none, some}
use Rattle.std.specs.Prelude.{Bool, true, false, cond, ℕ, eqb, Ok, Err}
use Rattle.std.specs.declared.result.Result as code
use Rattle.forms.specs.Edition.{edition1}
use Rattle.forms.specs.Forms.{Kind, ≤0, =0, Formula}
use Rattle.answers.specs.Answers.{answer, file_proof, Result, refused}
use Rattle.answers.specs.Refusals.{number_of}
use Rattle.answers.specs.declared.refusals.Refusal.{Refusal}
use Rattle.fields.specs.declared.FileKind.{FileKind}
use Rattle.fields.specs.Fields.{Field, Fields}
use Rattle.fields.specs.Header.{known}
use Rattle.formula.specs.Formula.{Connective, disjunction, conjunction, FormulaTag, pair, atom, stride, formula_tagged, formula_size, formula_of}
use Rattle.formula_read.specs.declared.node.Node.{Node}

abbrev pub connective : (either : Bool) → Connective
connective true = disjunction
connective false = conjunction

abbrev pub literal_kind : (equality : Bool) → Kind
literal_kind true = =0
literal_kind false = ≤0

abbrev pub node_tagged : FormulaTag → Node
node_tagged (pair disjunction) = Node.Pair true
node_tagged (pair conjunction) = Node.Pair false
node_tagged (atom ≤0) = Node.Literal false
node_tagged (atom =0) = Node.Literal true
node_tagged stride = Node.Stride

unfoldable pub sized : (len size : ℕ) → Node → code.Result Node Refusal
sized len size node = cond (eqb len size) (Ok node) (Err Refusal.WrongLength)

-- 3, 4, 6 of a tag and a length.
unfoldable pub node_if : (K len : ℕ) → (known : Bool) → Option FormulaTag → code.Result Node Refusal
node_if K len false t = Err Refusal.UnknownTag
node_if K len true none = Err Refusal.MisplacedTag
node_if K len true (some t) = sized len (formula_size edition1 K t) (node_tagged t)

unfoldable pub node_of : (K tag len : ℕ) → code.Result Node Refusal
node_of K tag len = node_if K len (known FileKind.Formula tag) (formula_tagged tag)

-- What a node's field gives; `two` reads the two parts of a pair.
unfoldable pub node_read : (K : ℕ) → (two : (at : ℕ) → Fields → Result (Formula × Formula × Fields)) → Field → Fields → code.Result Node Refusal → Result (Formula × Fields)
node_read K two f fs (Ok (Node.Pair either)) = formula_of edition1 K two f fs (pair (connective either))
node_read K two f fs (Ok (Node.Literal equality)) = formula_of edition1 K two f fs (atom (literal_kind equality))
node_read K two f fs (Ok Node.Stride) = formula_of edition1 K two f fs stride
node_read K two f fs (Err refusal) = refused (answer (number_of refusal) file_proof f.at)
