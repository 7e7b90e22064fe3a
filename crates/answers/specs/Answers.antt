-- Answers, and the first refusal that applies. docs/FORMAT.md, "Answers and refusals". Assumes nothing.
use Rattle.std.specs.Prelude.{List, [], ◌∷◌, ◌++◌, Bool, true, false, cond, ◌&&◌, ℕ, suc, ◌-◌, length, drop, leb, eqb}
use Rattle.std.proofs.Math.Option.{Option, none, some}
use Rattle.answers.specs.declared.Answer.{Answer}
use Rattle.answers.specs.declared.Position.{Position}
use Rattle.answers.specs.declared.WriteResult.{WriteResult}

-- What a row, a branching step or a branch is where there is none. docs/FORMAT.md, "Where in the tree".
abbrev pub nowhere : ℕ
nowhere = 65_535

-- Where in the tree a field stands: the row number of the innermost open branching step, and its branch. The root is no branch.
abbrev pub position : (step branch : ℕ) → Position
position s b = record { step = record { 0 = s }; branch = b }

abbrev pub root : Position
root = position nowhere nowhere

-- An answer has a number, a file and a place; and the row at fault, with the step and the branch that the field at fault finds open.
abbrev pub answer_at : (row : ℕ) → Position → (number file place : ℕ) → Answer
answer_at r p n f at = record { number = n; file = f; place = at; row = record { 0 = r }; step = p.step; branch = p.branch }

-- An answer outside the proof's tree.
abbrev pub answer : (number file place : ℕ) → Answer
answer n f at = answer_at nowhere root n f at

-- The files: A or a bundle read alone, B, proof or formula, a lent output (also for what concerns no file).
abbrev pub file_a : ℕ
file_a = 1

abbrev pub file_b : ℕ
file_b = 2

abbrev pub file_proof : ℕ
file_proof = 3

abbrev pub file_lent : ℕ
file_lent = 4

abbrev pub acceptance : Answer
acceptance = answer 0 0 0

-- The row that a refusal amid the proof tells, at a field before which there were so many rows. What check tests for from 18 on (10 to 18) tells the field's own row,
-- but for a claim's 14, which belongs to the row before it; what it tests for before 18, and at the end, tells none. docs/FORMAT.md, "Where in the tree".
unfoldable pub row_told : (number rows : ℕ) → ℕ
row_told n rows = cond (eqb n 14) (rows - 1) (cond (leb 10 n && leb n 18) rows nowhere)

-- The refusal by number n at a place of the proof, in the branch at a position, after so many rows.
abbrev pub refusal_at : Position → (rows place n : ℕ) → Answer
refusal_at p rows at n = answer_at (row_told n rows) p n file_proof at

-- A value, or the refusal in its place. A `do` block of these gives the first refusal that applies.
pub data Result (X : Type 0) : Type 0 where
  refused : Answer → Result X
  accepted : X → Result X

infixl 1 ◌>>=◌ ◌>>◌
unfoldable pub ◌>>=◌ : {X Y : Type 0} → Result X → (X → Result Y) → Result Y
refused a >>= f = refused a
accepted x >>= f = f x

unfoldable pub ◌>>◌ : {Y : Type 0} → Result (Unit {0}) → Result Y → Result Y
refused a >> r = refused a
accepted x >> r = r

-- The test must be passed, or the refusal is given.
unfoldable pub need : Answer → Bool → Result (Unit {0})
need a true = accepted tt
need a false = refused a

-- There must be something, or the refusal is given.
unfoldable pub found : {X : Type 0} → Answer → Option X → Result X
found a none = refused a
found a (some x) = accepted x

-- Each element must pass the test, or the refusal is given at the index of the first that does not; i is the first one's index.
unfoldable pub each : {X : Type 0} → (ℕ → Answer) → (X → Bool) → ℕ → List X → Result (Unit {0})
each at p i [] = accepted tt
each at p i (x ∷ xs) = need (at i) (p x) >> each at p (suc i) xs

-- What an operation that writes bytes leaves: its answer, the number of bytes written and the lent output afterwards.
pub record Written : Type 0 where
  pub answer : Answer
  pub count : ℕ
  pub output : List ℕ

-- The code's struct, and the output as it is left.
abbrev pub written_of : WriteResult → List ℕ → Written
written_of r left = record { answer = r.answer; count = r.count; output = left }

-- `xs` over the front of `out`; the rest stays.
unfoldable pub over : {X : Type 0} → List X → List X → List X
over xs out = xs ++ drop (length xs) out

-- Last comes 21: the output is too short, and the place is the bytes needed. A refusal leaves the output unchanged.
unfoldable pub fit : List ℕ → Bool → List ℕ → Written
fit out true bytes = record { answer = acceptance; count = length bytes; output = over bytes out }
fit out false bytes = record { answer = answer 21 file_lent (length bytes); count = 0; output = out }

unfoldable pub written : Result (List ℕ) → List ℕ → Written
written (refused a) out = record { answer = a; count = 0; output = out }
written (accepted bytes) out = fit out (leb (length bytes) (length out)) bytes
