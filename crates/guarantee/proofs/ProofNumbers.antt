-- Check refuses a proof's fields by a number from 2 to 20. Assumes nothing.
use mathlib.Core.Option.{Option, none, some}
use mathlib.Core.List.{List}
use Prim.Native.Nat.{ℕ, zero, suc, ◌-◌}
use lib.Dec.{T}
use Rattle.forms.specs.Edition.{Edition, edition}
use Rattle.forms.specs.Forms.{Form, Side, A, B, Line}
use Rattle.calculus.specs.Rules.{Row, Derive, Strengthen, CloseNumber, CloseStride, Round, Split, Entry, row, claim}
use Rattle.answers.specs.declared.Answer.{Answer}
use Rattle.answers.specs.declared.Position.{Position}
use Rattle.answers.specs.Answers.{refusal_at, file_proof, Result, found}
use Rattle.fields.specs.declared.FileKind.{FileKind}
use Rattle.fields.specs.Fields.{Field, Fields, ends, cut, ◌▸◌}
use Rattle.fields.specs.Header.{header_field, edition_field, constants_field, header, finished}
use Rattle.bundle.specs.Bundle.{Bundle}
use Rattle.proof.specs.Check.{Checker, Following, there, check_rounded, check_split, check_row, check_entry, check_entries, check_branch, check_proof}
use Rattle.proof.proofs.Satisfies.{Satisfies, says-refused, says-accepted, bind, seq, test, finds}
use Rattle.proof.proofs.Tree.{amidst, derived-says, fitting-says, inequality-says, roundable-says, disequality-says, by_number-says, by_stride-says, entry-says}

abbrev pub Amidst : Answer → Type 0
Amidst a = T (amidst a.number)

abbrev pub Numbered : {X : Type 0} → Result X → Type 0
Numbered r = Satisfies Amidst r (λ _. Unit {0})

-- ---- the header, and what follows the root
field-numbered : (tag : ℕ) (fs : Fields) → Numbered (header_field FileKind.Proof file_proof tag fs)
unfolding header_field
field-numbered tag (ends at) = says-refused tt
field-numbered tag (cut at) = says-refused tt
field-numbered tag (f ▸ fs) = test _ _ tt λ _. test _ _ tt λ _. test _ _ tt λ _. says-accepted tt

edition-numbered : (newest : ℕ) (fs : Fields) → Numbered (edition_field FileKind.Proof file_proof newest fs)
unfolding edition_field
edition-numbered newest fs = bind (field-numbered 0x01 fs) λ x _. test _ _ tt λ _. says-accepted tt

constants-numbered : (given : Option ℕ) (fs : Fields) → Numbered (constants_field FileKind.Proof file_proof given fs)
unfolding constants_field
constants-numbered given fs = bind (field-numbered 0x02 fs) λ x _. test _ _ tt λ _. test _ _ tt λ _. says-accepted tt

pub header-numbered : (newest : ℕ) (given : Option ℕ) (fs : Fields) → Numbered (header FileKind.Proof file_proof newest given fs)
unfolding header
header-numbered newest given fs = bind (edition-numbered newest fs) λ x _. bind (constants-numbered given x.1) λ y _. says-accepted tt

finished-numbered : (fs : Fields) → Numbered (finished FileKind.Proof file_proof fs)
unfolding finished
finished-numbered (ends at) = says-accepted tt
finished-numbered (cut at) = says-refused tt
finished-numbered (f ▸ fs) = test _ _ tt λ _. says-refused tt

-- ---- the branches
abbrev AllNumbered : Checker → Type 0
AllNumbered checker = (here : Position) (rows : ℕ) (ls : List Line) (fs : Fields) → Numbered (checker here rows ls fs)

data Deep : Option Checker → Type 0 where
  shut : Deep none
  opens : {checker : Checker} → AllNumbered checker → Deep (some checker)

deeper-numbered : {deeper : Option Checker} → Deep deeper → (a : Answer) → Amidst a → Satisfies Amidst (found a deeper) AllNumbered
unfolding found
deeper-numbered shut a h = says-refused h
deeper-numbered (opens d) a h = says-accepted d

rounded-numbered : (checker : Checker) → AllNumbered checker → (ls : List Line) (l : Line) (at g k j left rows : ℕ) (fs : Fields) → Numbered (check_rounded checker ls l at g k j left rows fs)
unfolding check_rounded
rounded-numbered checker d ls l at g k j zero rows fs = bind (d _ rows _ fs) λ c _. says-accepted tt
rounded-numbered checker d ls l at g k j (suc left) rows fs = bind (d _ rows _ fs) λ c _. bind (rounded-numbered checker d ls l at g k (suc j) left c.rows c.after) λ cs _. says-accepted tt

module _ (e : Edition) (K : ℕ) (here : Position) (deeper : Option Checker) (deep : Deep deeper) where
  module _ (f : Field) (fs : Fields) (next : Following) (q : (rows : ℕ) (made : Option Line) (ls : List Line) → Numbered (next rows made ls)) (rows : ℕ) (ls : List Line) where
    told : (n : ℕ) → T (amidst n) → Amidst (refusal_at here rows f.at n)
    told n t = t

    split-numbered : (checker : Checker) → AllNumbered checker → (σ : Side) (t t_A : Form) → Numbered (check_split e (refusal_at here rows f.at) checker σ ls t t_A rows fs)
    unfolding check_split
    split-numbered checker d A t t_A = seq (fitting-says _ told ls e _) (seq (fitting-says _ told ls e _) (bind (d _ _ _ fs) λ c _. bind (d _ _ _ c.after) λ c2 _. says-accepted tt))
    split-numbered checker d B t t_A = seq (fitting-says _ told ls e _) (seq (fitting-says _ told ls e _) (bind (d _ _ _ fs) λ c _. bind (d _ _ _ c.after) λ c2 _. says-accepted tt))

    row-numbered : (r : Row) → Numbered (check_row e K deeper next (refusal_at here rows f.at) rows ls fs r)
    unfolding check_row
    row-numbered (Derive s) = bind (derived-says _ told ls s) λ x _. seq (fitting-says _ told ls e x) (q _ _ _)
    row-numbered (Strengthen i) = bind (inequality-says _ told ls i) λ x _. bind (deeper-numbered deep _ tt) λ checker d. seq (fitting-says _ told ls e _)
        (bind (d _ _ _ fs) λ c1 _. bind (d _ _ _ c1.after) λ c2 _. bind (d _ _ _ c2.after) λ c3 _. says-accepted tt)
    row-numbered (Round i g k) = bind (roundable-says _ told ls e i g k) λ x _. bind (deeper-numbered deep _ tt) λ checker d. seq (fitting-says _ told ls e _)
        (bind (d _ _ _ fs) λ c _. bind (rounded-numbered checker d ls x rows g k 0 (k - 1) c.rows c.after) λ cs _. says-accepted tt)
    row-numbered (Split i) = bind (disequality-says _ told ls i) λ (σ, x) _. bind (deeper-numbered deep _ tt) λ checker d. split-numbered checker d σ x.t x.t_A
    row-numbered (CloseNumber i) = bind (by_number-says _ told ls i) λ I _. says-accepted tt
    row-numbered (CloseStride i g) = bind (by_stride-says _ told ls i g) λ I _. says-accepted tt

    entry-numbered : (made : Option Line) (x : Entry) → Numbered (check_entry e K deeper next (refusal_at here rows f.at) rows made ls fs x)
    unfolding check_entry
    entry-numbered made (row r) = test _ _ tt λ _. row-numbered r
    entry-numbered made (claim t t_A) = bind (finds _ made tt) λ x _. test _ _ tt λ _. q _ _ _

  entries-numbered : (fs : Fields) (rows : ℕ) (made : Option Line) (ls : List Line) → Numbered (check_entries e K here deeper fs rows made ls)
  unfolding check_entries
  entries-numbered (ends at) rows made ls = says-refused tt
  entries-numbered (cut at) rows made ls = says-refused tt
  entries-numbered (f ▸ fs) rows made ls = bind (entry-says e K (refusal_at here rows f.at) (there made) f (λ n t. t)) λ x _. entry-numbered f fs _ (entries-numbered fs) rows ls made x

branch-numbered : (e : Edition) (K room : ℕ) → AllNumbered (check_branch e K room)
unfolding check_branch
branch-numbered e K zero here rows ls fs = entries-numbered e K here none shut fs rows none ls
branch-numbered e K (suc room) here rows ls fs = entries-numbered e K here (some (check_branch e K room)) (opens (branch-numbered e K room)) fs rows none ls

pub proof-numbered : (newest : ℕ) (a b : Bundle) (fs : Fields) → Numbered (check_proof newest a b fs)
unfolding check_proof
proof-numbered newest a b fs = bind (header-numbered newest (some a.K) fs) λ h _. bind (branch-numbered (edition h.number) h.K _ _ 0 _ h.rest) λ c _. seq (finished-numbered c.after) (says-accepted tt)
