-- Every refusal at some fields stands at one of them, and these stand one behind the other. Assumes nothing.
use mathlib.Core.Path.{◌≡◌, refl}
use mathlib.Core.Option.{Option, none, some}
use mathlib.Core.Bool.{Bool, true, false}
use mathlib.Core.List.{List}
use Prim.Native.Nat.{ℕ, zero, suc, ◌+◌, ◌-◌, ◌≤◌, ◌<◌}
use native.Mathlib.Omega.{arith}
use lib.Dec.{T}
use lib.ListN.{length}
use Rattle.forms.specs.Edition.{Edition}
use Rattle.forms.specs.Forms.{Form, Side, A, B, Line}
use Rattle.calculus.specs.Rules.{Row, Derive, Strengthen, CloseNumber, CloseStride, Round, Split, Entry, row, claim}
use Rattle.answers.specs.declared.Answer.{Answer}
use Rattle.answers.specs.declared.Position.{Position}
use Rattle.answers.specs.Answers.{refusal_at, Result, found}
use Rattle.fields.specs.Fields.{Field, Fields, ends, cut, ◌▸◌, Front, whole, broken, nothing, front, note, unless_note, fields_from, fields}
use Rattle.proof.specs.Check.{Closing, Checker, Following, there, check_rounded, check_split, check_row, check_entry, check_entries, check_branch}
use Rattle.proof.specs.Tree.{starts_at}
use Rattle.proof.proofs.Satisfies.{Satisfies, says-refused, says-accepted, bind, seq, test, finds}
use Rattle.proof.proofs.Tree.{amidst, derived-says, fitting-says, inequality-says, roundable-says, disequality-says, by_number-says, by_stride-says, entry-says}

-- Each field starts before the next.
abbrev pub Ascending : Fields → Type 0
Ascending (ends at) = Unit
Ascending (cut at) = Unit
Ascending (f ▸ fs) = (f.at < starts_at fs) × Ascending fs

-- The fields start at n or behind it.
pub record Later (n : ℕ) (fs : Fields) : Type 0 where
  pub from : n ≤ starts_at fs
  pub up : Ascending fs

module _ {n : ℕ} {f : Field} {fs : Fields} (l : Later n (f ▸ fs)) where
  pub at_least : n ≤ f.at
  unfolding starts_at
  at_least = l.from

  pub behind : Later n fs
  unfolding starts_at
  behind = record { from = omega (arith, l.from, l.up.0); up = l.up.1 }

  pub just_behind : Later (suc f.at) fs
  just_behind = record { from = l.up.0; up = l.up.1 }

-- ---- the fields of a file
unless-later : (at : ℕ) (t : ℕ) (c : List ℕ) (b : Bool) (fs : Fields) → Later (at + 3 + length c) fs → Later at (unless_note b (record { at = at; tag = t; contents = c }) fs)
unfolding unless_note starts_at
unless-later at t c true fs l = record { from = omega (arith, l.from); up = l.up }
unless-later at t c false fs l = record { from = omega arith; up = (omega (arith, l.from), l.up) }

fields-step : (fuel at : ℕ) (bs : List ℕ) → ((p : ℕ) (cs : List ℕ) → Later p (fields_from fuel p cs)) → (r : Front) → front bs ≡ r → Later at (fields_from (suc fuel) at bs)
unfolding fields_from starts_at
fields-step fuel at bs ih (whole t c after) e = rw (e, fields_from) (unless-later at t c (note t) _ (ih (at + 3 + length c) after))
fields-step fuel at bs ih broken e = rw (e, fields_from) (record { from = omega arith; up = tt })
fields-step fuel at bs ih nothing e = rw (e, fields_from) (record { from = omega arith; up = tt })

fields-later : (fuel at : ℕ) (bs : List ℕ) → Later at (fields_from fuel at bs)
unfolding fields_from starts_at
fields-later zero at bs = record { from = omega arith; up = tt }
fields-later (suc fuel) at bs = fields-step fuel at bs (fields-later fuel) (front bs) refl

pub fields-ascend : (file : List ℕ) → Ascending (fields file)
unfolding fields
fields-ascend file = (fields-later (length file) 0 file).up

-- ---- the check: a refusal stands at n or behind, and what a closed branch leaves starts there
abbrev pub From : ℕ → Answer → Type 0
From n a = n ≤ a.place

abbrev pub StandsFrom : ℕ → Result Closing → Type 0
StandsFrom n r = Satisfies (From n) r (λ c. Later n c.after)

abbrev pub AllFrom : Checker → Type 0
AllFrom checker = (here : Position) (rows : ℕ) (ls : List Line) (fs : Fields) (n : ℕ) → Later n fs → StandsFrom n (checker here rows ls fs)

pub data AllFromIn : Option Checker → Type 0 where
  shut : AllFromIn none
  opens : {checker : Checker} → AllFrom checker → AllFromIn (some checker)

deeper-from : {n : ℕ} (deeper : Option Checker) → AllFromIn deeper → (a : Answer) → From n a → Satisfies (From n) (found a deeper) AllFrom
unfolding found
deeper-from _ shut a h = says-refused h
deeper-from _ (opens p) a h = says-accepted p

pub rounded-from : (checker : Checker) → AllFrom checker → (ls : List Line) (l : Line) (at g k j left rows : ℕ) (fs : Fields) (n : ℕ) → Later n fs → StandsFrom n (check_rounded checker ls l at g k j left rows fs)
unfolding check_rounded
rounded-from checker d ls l at g k j zero rows fs n h = bind (d _ rows _ fs n h) λ c m. says-accepted m
rounded-from checker d ls l at g k j (suc left) rows fs n h = bind (d _ rows _ fs n h) λ c m. bind (rounded-from checker d ls l at g k (suc j) left c.rows c.after n m) λ cs ms. says-accepted ms

module _ (e : Edition) (K : ℕ) (here : Position) (deeper : Option Checker) (p : AllFromIn deeper) where
  module _ (f : Field) (fs : Fields) (n : ℕ) (l : Later n (f ▸ fs)) (next : Following) (q : (rows : ℕ) (made : Option Line) (ls : List Line) → StandsFrom n (next rows made ls)) (rows : ℕ) (ls : List Line) where
    told : (m : ℕ) → T (amidst m) → From n (refusal_at here rows f.at m)
    told m _ = at_least l

    split_from : (checker : Checker) → AllFrom checker → (σ : Side) (t t_A : Form) → StandsFrom n (check_split e (refusal_at here rows f.at) checker σ ls t t_A rows fs)
    unfolding check_split
    split_from checker d A t t_A = seq (fitting-says _ told ls e _) (seq (fitting-says _ told ls e _) (bind (d _ _ _ fs n (behind l)) λ c m. bind (d _ _ _ c.after n m) λ c2 m2. says-accepted m2))
    split_from checker d B t t_A = seq (fitting-says _ told ls e _) (seq (fitting-says _ told ls e _) (bind (d _ _ _ fs n (behind l)) λ c m. bind (d _ _ _ c.after n m) λ c2 m2. says-accepted m2))

    row_from : (r : Row) → StandsFrom n (check_row e K deeper next (refusal_at here rows f.at) rows ls fs r)
    unfolding check_row
    row_from (Derive s) = bind (derived-says _ told ls s) λ x _. seq (fitting-says _ told ls e x) (q _ _ _)
    row_from (Strengthen i) = bind (inequality-says _ told ls i) λ x _. bind (deeper-from deeper p _ (told 17 tt)) λ checker d. seq (fitting-says _ told ls e _)
        (bind (d _ _ _ fs n (behind l)) λ c1 m1. bind (d _ _ _ c1.after n m1) λ c2 m2. bind (d _ _ _ c2.after n m2) λ c3 m3. says-accepted m3)
    row_from (Round i g k) = bind (roundable-says _ told ls e i g k) λ x _. bind (deeper-from deeper p _ (told 17 tt)) λ checker d. seq (fitting-says _ told ls e _)
        (bind (d _ _ _ fs n (behind l)) λ c m. bind (rounded-from checker d ls x rows g k 0 (k - 1) c.rows c.after n m) λ cs ms. says-accepted ms)
    row_from (Split i) = bind (disequality-says _ told ls i) λ (σ, x) _. bind (deeper-from deeper p _ (told 17 tt)) λ checker d. split_from checker d σ x.t x.t_A
    row_from (CloseNumber i) = bind (by_number-says _ told ls i) λ I _. says-accepted (behind l)
    row_from (CloseStride i g) = bind (by_stride-says _ told ls i g) λ I _. says-accepted (behind l)

    entry-from : (made : Option Line) (x : Entry) → StandsFrom n (check_entry e K deeper next (refusal_at here rows f.at) rows made ls fs x)
    unfolding check_entry
    entry-from made (row r) = test _ _ (told 18 tt) λ _. row_from r
    entry-from made (claim t t_A) = bind (finds _ made (told 4 tt)) λ x _. test _ _ (told 14 tt) λ _. q _ _ _

  pub entries_from : (fs : Fields) (n : ℕ) → Later n fs → (rows : ℕ) (made : Option Line) (ls : List Line) → StandsFrom n (check_entries e K here deeper fs rows made ls)
  unfolding check_entries starts_at
  entries_from (ends at) n l rows made ls = says-refused l.from
  entries_from (cut at) n l rows made ls = says-refused l.from
  entries_from (f ▸ fs) n l rows made ls = bind (entry-says e K (refusal_at here rows f.at) (there made) f (λ m _. at_least l)) λ x _. entry-from f fs n l _ (entries_from fs n (behind l)) rows ls made x

pub branch-from : (e : Edition) (K room : ℕ) → AllFrom (check_branch e K room)
unfolding check_branch
branch-from e K zero here rows ls fs n l = entries_from e K here none shut fs n l rows none ls
branch-from e K (suc room) here rows ls fs n l = entries_from e K here (some (check_branch e K room)) (opens (branch-from e K room)) fs n l rows none ls
