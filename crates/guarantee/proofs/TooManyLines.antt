-- 16 stands at the first row that would make a line too many. Assumes nothing.
use mathlib.Core.Path.{◌≡◌, refl, sym, ◌∙◌, ap, subst}
use mathlib.Core.Option.{Option, none, some}
use mathlib.Core.Bool.{Bool, true, false, not, ◌&&◌}
use mathlib.Core.List.{List, [], ◌∷◌, map}
use Prim.Native.Nat.{ℕ, zero, suc, ◌+◌, ◌-◌, ◌≤◌, ◌<◌}
use native.Mathlib.Omega.{arith}
use borrow.Author.Tests.{ltb-true, ltb-false}
use lib.Dec.{T, leb, ltb, eqb, leb→le, eqb→eq}
use lib.ListN.{length, length-append, length-map}
use mir.Facts.{and_yes}
use Rattle.forms.specs.Edition.{Edition, edition, edition1, newest_edition}
use Rattle.forms.specs.Forms.{Form, Side, A, B, Line, line_a, line_b, lines, Constraint, Formula}
use Rattle.calculus.specs.Rules.{◌▷◌, in_range, Row, Inference, Combine, Reduce, Scale, Derive, Strengthen, CloseNumber, CloseStride, Round, Split, Entry, row, claim}
use Rattle.answers.specs.declared.Answer.{Answer}
use Rattle.answers.specs.declared.WriteResult.{WriteResult}
use Rattle.answers.specs.declared.Position.{Position}
use Rattle.answers.specs.Answers.{refusal_at, file_proof, Result, refused, accepted, ◌>>=◌, ◌>>◌, need, found, Written, fit, written}
use Rattle.answers.proofs.Results.{never, one_value}
use Rattle.fields.specs.declared.FileKind.{FileKind}
use Rattle.fields.specs.Fields.{Field, Fields, ends, cut, ◌▸◌, item, fields}
use Rattle.fields.specs.Header.{agrees, header_field, edition_field, constants_field, header, finished}
use Rattle.bundle.specs.Bundle.{Bundle, at_most, bundles}
use Rattle.bundle.specs.Layout.{BundleFile, edition_said, Says}
use Rattle.bundle.proofs.Laid.{bundles-accept}
use Rattle.formula.specs.Formula.{formula_file}
use Rattle.proof.specs.Entries.{entry_tagged, size_of, entry}
use Rattle.proof.specs.Rows.{line_at, derived, fitting, inequality, roundable, disequality, by_number, by_stride}
use Rattle.proof.specs.Check.{Closing, Checker, Following, there, check_rounded, check_split, check_row, check_entry, check_entries, check_branch, check_proof, formula_at_most, interpolant, check_by, check}
use Rattle.proof.specs.Layout.{Enters}
use Rattle.proof.specs.Promises.{Checks}
use Rattle.proof.specs.Tree.{tree}
use Rattle.proof.proofs.Agree.{agrees-refl}
use Rattle.proof.proofs.Satisfies.{Satisfies, says-refused, says-accepted, bind, seq, test, finds, weaken}
use Rattle.proof.proofs.Tree.{field-behind}
use Rattle.conversion.proofs.Narrow.{one_more}
use Rattle.guarantee.specs.TooManyLines.{StepLines, step_lines, BranchLines, branch_lines, lines_after_close, lines_behind, needs_room, TooManyLines, here, past, LinesCounted}
use Rattle.guarantee.proofs.TooLongFiles.{edition-amidst}
use Rattle.guarantee.proofs.RunTree.{tag_number, field-tag, rounding-told}

-- ---- from one count to another, with room for each line that is made
data Passes (most : ℕ) : BranchLines → Fields → BranchLines → Fields → Type 0 where
  stays : {c : BranchLines} {fs : Fields} → Passes most c fs c fs
  on : {c c' : BranchLines} (f : Field) {fs fs' : Fields} → (needs_room (entry_tagged f.tag) ≡ true → c.lines < most) → Passes most (lines_behind (entry_tagged f.tag) f.contents c) fs c' fs'
      → Passes most c (f ▸ fs) c' fs'

many-on : {most : ℕ} {c c' : BranchLines} {fs fs' : Fields} {place : ℕ} → Passes most c fs c' fs' → TooManyLines most c' fs' place → TooManyLines most c fs place
many-on stays m = m
many-on (on f r l) m = past f r (many-on l m)

pass_on : {most : ℕ} {c c' c'' : BranchLines} {fs fs' fs'' : Fields} → Passes most c fs c' fs' → Passes most c' fs' c'' fs'' → Passes most c fs c'' fs''
pass_on stays m = m
pass_on (on f r l) m = on f r (pass_on l m)

abbrev Full : (most : ℕ) → BranchLines → Fields → Answer → Type 0
Full most c fs a = a.number ≡ 16 → TooManyLines most c fs a.place

abbrev Through : (most : ℕ) → BranchLines → Fields → Result Closing → Type 0
Through most c fs r = Satisfies (Full most c fs) r (λ k. Passes most c fs (lines_after_close c.steps) k.after)

through-on : {most : ℕ} {c c' : BranchLines} {fs fs' : Fields} {r : Result Closing} → c'.steps ≡ c.steps → Passes most c fs c' fs' → Through most c' fs' r → Through most c fs r
through-on {most} {c} {c'} {fs} {fs'} e l s =
    weaken s (λ a q n. many-on l (q n)) (λ k m. pass_on l (subst (λ (ss : List StepLines). Passes most c' fs' (lines_after_close ss) k.after) e m))

-- ---- the tests of a row: 16 comes for a line too many only
abbrev not16 : ℕ → Bool
not16 n = not (eqb n 16)

module _ {Q : Answer → Type 0} (refusal : ℕ → Answer) (h : (n : ℕ) → T (not16 n) → Q (refusal n)) (ls : List Line) where
  line-says : (i : ℕ) → Satisfies Q (line_at refusal ls i) (λ _. Unit {0})
  unfolding line_at
  line-says i = weaken (finds (refusal 10) _ (h 10 tt)) (λ a q. q) (λ _ _. tt)

  derived-says : (s : Inference) → Satisfies Q (derived refusal ls s) (λ _. Unit {0})
  unfolding derived
  derived-says (Combine i j α β) = bind (line-says i) λ s _. bind (line-says j) λ t _. test _ _ (h 11 tt) λ _. test _ _ (h 12 tt) λ _. says-accepted tt
  derived-says (Reduce i j α) = bind (line-says i) λ s _. bind (line-says j) λ t _. bind (finds _ _ (h 11 tt)) λ k _. test _ _ (h 11 tt) λ _. test _ _ (h 12 tt) λ _. says-accepted tt
  derived-says (Scale i α) = bind (line-says i) λ t _. bind (finds _ _ (h 11 tt)) λ k _. test _ _ (h 12 tt) λ _. says-accepted tt

  inequality-says : (i : ℕ) → Satisfies Q (inequality refusal ls i) (λ _. Unit {0})
  unfolding inequality
  inequality-says i = bind (line-says i) λ t _. test _ _ (h 11 tt) λ _. says-accepted tt

  roundable-says : (e : Edition) (i g k : ℕ) → Satisfies Q (roundable refusal ls e i g k) (λ _. 1 ≤ k)
  unfolding roundable
  roundable-says e i g k = bind (inequality-says i) λ t _. test _ _ (h 12 tt) λ n. test _ _ (h 15 tt) λ _.
      says-accepted (leb→le 1 k (and_yes (leb 2 g) (leb 1 k) (and_yes (leb 2 g && leb 1 k) (leb k e.rounding) n).0).1)

  disequality-says : (i : ℕ) → Satisfies Q (disequality refusal ls i) (λ _. Unit {0})
  unfolding disequality
  disequality-says i = bind (line-says i) λ t _. bind (finds _ _ (h 11 tt)) λ σ _. says-accepted tt

  by_number-says : (i : ℕ) → Satisfies Q (by_number refusal ls i) (λ _. Unit {0})
  unfolding by_number
  by_number-says i = bind (line-says i) λ t _. bind (finds _ _ (h 11 tt)) λ k _. test _ _ (h 15 tt) λ _. says-accepted tt

  by_stride-says : (i g : ℕ) → Satisfies Q (by_stride refusal ls i g) (λ _. Unit {0})
  unfolding by_stride
  by_stride-says i g = bind (line-says i) λ t _. test _ _ (h 11 tt) λ _. test _ _ (h 12 tt) λ _. test _ _ (h 15 tt) λ _. says-accepted tt

entry-says : (e : Edition) (K : ℕ) (refusal : ℕ → Answer) (made : Bool) (f : Field) {Q : Answer → Type 0} → ((n : ℕ) → T (not16 n) → Q (refusal n))
    → Satisfies Q (entry e K refusal made f) (Enters e K (item f.tag f.contents))
unfolding entry
entry-says e K refusal made f h = test _ _ (h 3 tt) λ _. bind (finds _ (entry_tagged f.tag) (h 4 tt)) λ x t. test _ _ (h 4 tt) λ _. test _ _ (h 6 tt) λ n.
    says-accepted (record { tagged = x; tag = t; size = eqb→eq (length f.contents) (size_of e K x) n; entry = refl })

-- ---- the lines behind a field, by the entry that it states
abbrev entry_lines : Entry → BranchLines → BranchLines
entry_lines (row (Derive s)) c = branch_lines (suc c.lines) c.steps
entry_lines (row (Strengthen i)) c = branch_lines (suc c.lines) (step_lines 2 c.lines ∷ c.steps)
entry_lines (row (CloseNumber i)) c = lines_after_close c.steps
entry_lines (row (CloseStride i g)) c = lines_after_close c.steps
entry_lines (row (Round i g k)) c = branch_lines (suc c.lines) (step_lines k c.lines ∷ c.steps)
entry_lines (row (Split i)) c = branch_lines (suc c.lines) (step_lines 1 c.lines ∷ c.steps)
entry_lines (claim u uA) c = c

abbrev entry_makes : Entry → Bool
entry_makes (row (Derive s)) = true
entry_makes (row (Strengthen i)) = true
entry_makes (row (CloseNumber i)) = false
entry_makes (row (CloseStride i g)) = false
entry_makes (row (Round i g k)) = true
entry_makes (row (Split i)) = true
entry_makes (claim u uA) = false

module _ (f : Field) where
  makes-told : (x : Entry) → f.tag ≡ tag_number x → needs_room (entry_tagged f.tag) ≡ entry_makes x
  unfolding needs_room entry_tagged
  makes-told (row (Derive (Combine i j α β))) t = rw t
  makes-told (row (Derive (Reduce i j α))) t = rw t
  makes-told (row (Derive (Scale i α))) t = rw t
  makes-told (row (Strengthen i)) t = rw t
  makes-told (row (CloseNumber i)) t = rw t
  makes-told (row (CloseStride i g)) t = rw t
  makes-told (row (Round i g k)) t = rw t
  makes-told (row (Split i)) t = rw t
  makes-told (claim u uA) t = rw t

  module _ (e : Edition) (two : e.multiplier_width ≡ 2) (K : ℕ) (c : BranchLines) where
    lines-told : (x : Entry) → Enters e K (item f.tag f.contents) x → f.tag ≡ tag_number x → lines_behind (entry_tagged f.tag) f.contents c ≡ entry_lines x c
    unfolding lines_behind entry_tagged
    lines-told (row (Derive (Combine i j α β))) n t = rw t
    lines-told (row (Derive (Reduce i j α))) n t = rw t
    lines-told (row (Derive (Scale i α))) n t = rw t
    lines-told (row (Strengthen i)) n t = rw t
    lines-told (row (CloseNumber i)) n t = rw t
    lines-told (row (CloseStride i g)) n t = rw t
    lines-told (row (Round i g k)) n t = let q = rounding-told f (tree 0 []) k t (field-behind e two K f n (tree 0 [])) in rw (t, q)
    lines-told (row (Split i)) n t = rw t
    lines-told (claim u uA) n t = rw t

-- ---- the branches
module _ (e : Edition) (two : e.multiplier_width ≡ 2) (K : ℕ) where
  abbrev most : ℕ
  most = e.lines

  abbrev Counts : Checker → Type 0
  Counts checker = (ss : List StepLines) (p : Position) (rows : ℕ) (ls : List Line) (fs : Fields) → Through most (branch_lines (length ls) ss) fs (checker p rows ls fs)

  -- a branch that starts with one new line
  branch-from : (checker : Checker) → Counts checker → (ss : List StepLines) (p : Position) (rows : ℕ) (ls : List Line) (l : Line) (fs : Fields) → Through most (branch_lines (suc (length ls)) ss) fs (checker p rows (ls ▷ l) fs)
  branch-from checker d ss p rows ls l fs = subst (λ (n : ℕ). Through most (branch_lines n ss) fs (checker p rows (ls ▷ l) fs)) (one_more ls l) (d ss p rows (ls ▷ l) fs)

  data Deep : Option Checker → Type 0 where
    shut : Deep none
    opens : {checker : Checker} → Counts checker → Deep (some checker)

  deeper-says : {Q : Answer → Type 0} (a : Answer) {deeper : Option Checker} → Deep deeper → Q a → Satisfies Q (found a deeper) Counts
  unfolding found
  deeper-says a shut h = says-refused h
  deeper-says a (opens d) h = says-accepted d

  module _ (checker : Checker) (d : Counts checker) (ls : List Line) (l : Line) (step g k : ℕ) (ss : List StepLines) where
    rounded-through : (j left rows : ℕ) (fs : Fields)
        → Satisfies (Full most (branch_lines (suc (length ls)) (step_lines left (length ls) ∷ ss)) fs) (check_rounded checker ls l step g k j left rows fs)
        (λ c. Passes most (branch_lines (suc (length ls)) (step_lines left (length ls) ∷ ss)) fs (lines_after_close ss) c.after)
    unfolding check_rounded lines_after_close
    rounded-through j zero rows fs = bind (branch-from checker d (step_lines 0 (length ls) ∷ ss) _ rows ls _ fs) λ own m. says-accepted m
    rounded-through j (suc left) rows fs = bind (branch-from checker d (step_lines (suc left) (length ls) ∷ ss) _ rows ls _ fs) λ own m.
        bind (weaken (rounded-through (suc j) left own.rows own.after) (λ a q n. many-on m (q n)) (λ c o. pass_on m o)) λ others o. says-accepted o

  module _ (deeper : Option Checker) (deep : Deep deeper) (ss : List StepLines) (here-at : Position) where
    module _ (f : Field) (fs : Fields) (next : Following) (q : (rows : ℕ) (made : Option Line) (ls : List Line) → Through most (branch_lines (length ls) ss) fs (next rows made ls)) (rows : ℕ) (ls : List Line) where
      abbrev c : BranchLines
      c = branch_lines (length ls) ss

      abbrev refusal : ℕ → Answer
      refusal = refusal_at here-at rows f.at

      told : (n : ℕ) → T (not16 n) → Full most c (f ▸ fs) (refusal n)
      told n t z = absurd (subst (λ (m : ℕ). T (not16 m)) z t)

      abbrev Behind : BranchLines → Type 0
      Behind c' = lines_behind (entry_tagged f.tag) f.contents c ≡ c'

      passes-behind : {c' : BranchLines} → Behind c' → (needs_room (entry_tagged f.tag) ≡ true → length ls < most) → Passes most c (f ▸ fs) c' fs
      passes-behind b r = on f r (subst (λ (x : BranchLines). Passes most (lines_behind (entry_tagged f.tag) f.contents c) fs x fs) b stays)

      -- 16 where there is no room
      fits : needs_room (entry_tagged f.tag) ≡ true → (l : Line) {X : Type 0} {P : X → Type 0} {r : Result X} → (length ls < most → Satisfies (Full most c (f ▸ fs)) r P) → Satisfies (Full most c (f ▸ fs)) (fitting refusal ls e l >> r) P
      unfolding fitting need ◌>>◌
      fits makes l {X} {P} {r} k = go (ltb (length ls) most) (in_range e.range l) refl
        where
          go : (b b' : Bool) → ltb (length ls) most ≡ b → Satisfies (Full most c (f ▸ fs)) ((need (refusal 16) b >> need (refusal 13) b') >> r) P
          go true true z = k (ltb-true (length ls) most z)
          go true false z = says-refused (told 13 tt)
          go false b' z = says-refused (λ _. here f makes (ltb-false (length ls) most z) refl)

      strengthen-through : (i : ℕ) → needs_room (entry_tagged f.tag) ≡ true → Behind (branch_lines (suc (length ls)) (step_lines 2 (length ls) ∷ ss)) → Through most c (f ▸ fs) (check_row e K deeper next refusal rows ls fs (Strengthen i))
      unfolding check_row lines_after_close
      strengthen-through i makes b =
          bind (inequality-says _ told ls i) λ l _.
          bind (deeper-says _ deep (told 17 tt)) λ checker d.
          fits makes _ λ room.
          let p0 = passes-behind b (λ _. room) in
          bind (weaken (branch-from checker d (step_lines 2 (length ls) ∷ ss) _ _ ls _ fs) (λ a s n. many-on p0 (s n)) (λ k m. pass_on p0 m)) λ first p1.
          bind (weaken (branch-from checker d (step_lines 1 (length ls) ∷ ss) _ _ ls _ first.after) (λ a s n. many-on p1 (s n)) (λ k m. pass_on p1 m)) λ second p2.
          bind (weaken (branch-from checker d (step_lines 0 (length ls) ∷ ss) _ _ ls _ second.after) (λ a s n. many-on p2 (s n)) (λ k m. pass_on p2 m)) λ third p3.
          says-accepted p3

      round-through : (i g k : ℕ) → needs_room (entry_tagged f.tag) ≡ true → Behind (branch_lines (suc (length ls)) (step_lines k (length ls) ∷ ss)) → Through most c (f ▸ fs) (check_row e K deeper next refusal rows ls fs (Round i g k))
      unfolding check_row lines_after_close
      round-through i g k makes b =
          bind (roundable-says _ told ls e i g k) λ l low.
          bind (deeper-says _ deep (told 17 tt)) λ checker d.
          fits makes _ λ room.
          let z : k ≡ suc (k - 1) = omega (arith, low) in
          let p0 = passes-behind (subst (λ (n : ℕ). Behind (branch_lines (suc (length ls)) (step_lines n (length ls) ∷ ss))) z b) (λ _. room) in
          bind (weaken (branch-from checker d (step_lines (suc (k - 1)) (length ls) ∷ ss) _ _ ls _ fs) (λ a s n. many-on p0 (s n)) (λ x m. pass_on p0 m)) λ first p1.
          bind (weaken (rounded-through checker d ls l rows g k ss 0 (k - 1) first.rows first.after) (λ a s n. many-on p1 (s n)) (λ x m. pass_on p1 m)) λ others p2.
          says-accepted p2

      split-through : (σ : Side) (t t_A : Form) (checker : Checker) → Counts checker → needs_room (entry_tagged f.tag) ≡ true → Behind (branch_lines (suc (length ls)) (step_lines 1 (length ls) ∷ ss))
          → Through most c (f ▸ fs) (check_split e refusal checker σ ls t t_A rows fs)
      unfolding check_split lines_after_close
      split-through A t t_A checker d makes b =
          fits makes _ λ room. fits makes _ λ _.
          let p0 = passes-behind b (λ _. room) in
          bind (weaken (branch-from checker d (step_lines 1 (length ls) ∷ ss) _ _ ls _ fs) (λ a s n. many-on p0 (s n)) (λ k m. pass_on p0 m)) λ first p1.
          bind (weaken (branch-from checker d (step_lines 0 (length ls) ∷ ss) _ _ ls _ first.after) (λ a s n. many-on p1 (s n)) (λ k m. pass_on p1 m)) λ second p2.
          says-accepted p2
      split-through B t t_A checker d makes b =
          fits makes _ λ room. fits makes _ λ _.
          let p0 = passes-behind b (λ _. room) in
          bind (weaken (branch-from checker d (step_lines 1 (length ls) ∷ ss) _ _ ls _ fs) (λ a s n. many-on p0 (s n)) (λ k m. pass_on p0 m)) λ first p1.
          bind (weaken (branch-from checker d (step_lines 0 (length ls) ∷ ss) _ _ ls _ first.after) (λ a s n. many-on p1 (s n)) (λ k m. pass_on p1 m)) λ second p2.
          says-accepted p2

      no_line : {b : Bool} → b ≡ false → b ≡ true → length ls < most
      no_line h z = absurd (subst T (sym z ∙ h) tt)

      row-through : (r : Row) → needs_room (entry_tagged f.tag) ≡ entry_makes (row r) → Behind (entry_lines (row r) c) → Through most c (f ▸ fs) (check_row e K deeper next refusal rows ls fs r)
      unfolding check_row
      row-through (Derive s) makes b = bind (derived-says _ told ls s) λ l _. fits makes l λ room.
          through-on refl (passes-behind b (λ _. room)) (subst (λ (n : ℕ). Through most (branch_lines n ss) fs (next (suc rows) (some l) (ls ▷ l))) (one_more ls l) (q (suc rows) (some l) (ls ▷ l)))
      row-through (Strengthen i) makes b = strengthen-through i makes b
      row-through (Round i g k) makes b = round-through i g k makes b
      row-through (Split i) makes b = bind (disequality-says _ told ls i) λ (σ, l) _. bind (deeper-says _ deep (told 17 tt)) λ checker d. split-through σ l.t l.t_A checker d makes b
      row-through (CloseNumber i) makes b = bind (by_number-says _ told ls i) λ I _. says-accepted (passes-behind b (no_line makes))
      row-through (CloseStride i g) makes b = bind (by_stride-says _ told ls i g) λ I _. says-accepted (passes-behind b (no_line makes))

      entry-through : (made : Option Line) (x : Entry) → needs_room (entry_tagged f.tag) ≡ entry_makes x → Behind (entry_lines x c) → Through most c (f ▸ fs) (check_entry e K deeper next refusal rows made ls fs x)
      unfolding check_entry
      entry-through made (row r) makes b = test _ _ (told 18 tt) λ _. row-through r makes b
      entry-through made (claim t t_A) makes b = bind (finds _ made (told 4 tt)) λ l _. test _ _ (told 14 tt) λ _. through-on refl (passes-behind b (no_line makes)) (q rows none ls)

    entries-through : (fs : Fields) (rows : ℕ) (made : Option Line) (ls : List Line) → Through most (branch_lines (length ls) ss) fs (check_entries e K here-at deeper fs rows made ls)
    unfolding check_entries
    entries-through (ends at) rows made ls = says-refused (λ z. absurd (omega arith))
    entries-through (cut at) rows made ls = says-refused (λ z. absurd (omega arith))
    entries-through (f ▸ fs) rows made ls = bind (entry-says e K _ (there made) f (told f fs _ (entries-through fs) rows ls)) λ x n.
        let t = field-tag e K f n in
        entry-through f fs _ (entries-through fs) rows ls made x (makes-told f x t) (lines-told f e two K (branch_lines (length ls) ss) x n t)

  branch-through : (room : ℕ) → Counts (check_branch e K room)
  unfolding check_branch
  branch-through zero ss p rows ls fs = entries-through none shut ss p fs rows none ls
  branch-through (suc room) ss p rows ls fs = entries-through (some (check_branch e K room)) (opens (branch-through room)) ss p fs rows none ls

-- ---- the header and the end
module _ (most : ℕ) (c : BranchLines) where
  header-passes : (tag : ℕ) → entry_tagged tag ≡ none → (fs : Fields) → Satisfies (Full most c fs) (header_field FileKind.Proof file_proof tag fs) (λ x. Passes most c fs c x.2)
  unfolding header_field lines_behind needs_room
  header-passes tag h (ends at) = says-refused (λ z. absurd (omega arith))
  header-passes tag h (cut at) = says-refused (λ z. absurd (omega arith))
  header-passes tag h (f ▸ fs) = test _ _ (λ z. absurd (omega arith)) λ _. test _ _ (λ z. absurd (omega arith)) λ t. test _ _ (λ z. absurd (omega arith)) λ _.
      let n : entry_tagged f.tag ≡ none = rw (eqb→eq f.tag tag t) h in
      says-accepted (on f (λ z. absurd (subst T (sym z ∙ ap needs_room n) tt)) (subst (λ (o : Option _). Passes most (lines_behind o f.contents c) fs c fs) (sym n) stays))

  edition-passes : (newest : ℕ) (fs : Fields) → Satisfies (Full most c fs) (edition_field FileKind.Proof file_proof newest fs) (λ x. Passes most c fs c x.1)
  unfolding edition_field entry_tagged
  edition-passes newest fs = bind (header-passes 0x01 refl fs) λ x p. test _ _ (λ z. absurd (omega arith)) λ _. says-accepted p

  constants-pass : (given : Option ℕ) (fs : Fields) → Satisfies (Full most c fs) (constants_field FileKind.Proof file_proof given fs) (λ x. Passes most c fs c x.1)
  unfolding constants_field entry_tagged
  constants-pass given fs = bind (header-passes 0x02 refl fs) λ x p. test _ _ (λ z. absurd (omega arith)) λ _. test _ _ (λ z. absurd (omega arith)) λ _. says-accepted p

  finished-full : {fs : Fields} (gs : Fields) → Satisfies (Full most c fs) (finished FileKind.Proof file_proof gs) (λ _. Unit {0})
  unfolding finished
  finished-full (ends at) = says-accepted tt
  finished-full (cut at) = says-refused (λ z. absurd (omega arith))
  finished-full (f ▸ gs) = test _ _ (λ z. absurd (omega arith)) λ _. says-refused (λ z. absurd (omega arith))

-- ---- the proof
length-lines : (a b : List Constraint) → length (lines a b) ≡ length a + length b
length-lines a b = length-append (map line_a a) (map line_b b) ∙ omega (arith, length-map a line_a, length-map b line_b)

some_is : {m n : ℕ} → some m ≡ some n → m ≡ n
some_is e = cc

module _ (a b : Bundle) (fs : Fields) (n : ℕ) (says : edition_said fs ≡ some n) where
  abbrev start : BranchLines
  start = branch_lines (length a.constraints + length b.constraints) []

  root-full : (m : ℕ) → m ≡ n → (K room : ℕ) (p : Position) (rest : Fields) → Through (edition n).lines start rest (check_branch (edition m) K room p 0 (lines a.constraints b.constraints) rest)
  root-full m z K room p rest =
      subst (λ (k : ℕ). Through (edition n).lines (branch_lines k []) rest (check_branch (edition m) K room p 0 (lines a.constraints b.constraints) rest)) (length-lines a.constraints b.constraints)
      (subst (λ (k : ℕ). Through (edition k).lines (branch_lines (length (lines a.constraints b.constraints)) []) rest (check_branch (edition m) K room p 0 (lines a.constraints b.constraints) rest)) z
      (branch-through (edition m) refl K room [] p 0 (lines a.constraints b.constraints) rest))

  record HeaderPassed (m : ℕ) (rest : Fields) : Type 0 where
    number : m ≡ n
    passes : Passes (edition n).lines start fs start rest

  edition-told : Satisfies (Full (edition n).lines start fs) (edition_field FileKind.Proof file_proof newest_edition fs) (λ x. HeaderPassed x.0 x.1)
  edition-told = record {
    refusal = (edition-passes (edition n).lines start newest_edition fs).refusal;
    value = λ x e. record { number = some_is (sym ((edition-amidst FileKind.Proof file_proof newest_edition fs).value x e) ∙ says); passes = (edition-passes (edition n).lines start newest_edition fs).value x e };
  }

  proof-full : Satisfies (Full (edition n).lines start fs) (check_proof newest_edition a b fs) (λ _. Unit {0})
  unfolding check_proof header
  proof-full = bind {P = λ h. HeaderPassed h.number h.rest} (bind edition-told λ x h.
      bind (weaken (constants-pass (edition n).lines start (some a.K) x.1) (λ y q z. many-on h.passes (q z)) (λ y p. pass_on h.passes p)) λ y p. says-accepted (record { number = h.number; passes = p })) λ h p.
      bind {P = λ _. Unit {0}} (weaken (root-full h.number p.number h.K _ _ h.rest) (λ y q z. many-on p.passes (q z)) (λ _ _. tt)) λ k _.
      seq (finished-full (edition n).lines start k.after) (says-accepted tt)

-- ---- check
module _ {A B proof output left : List ℕ} {r : WriteResult} (d : Checks A B proof output left r) (z : r.answer.number ≡ 16)
    {n_A n_B K : ℕ} {a b : List Constraint} (fA : BundleFile newest_edition A n_A K a) (fB : BundleFile newest_edition B n_B K b) (n : ℕ) (says : Says proof n) where
  abbrev bundle_a : Bundle
  bundle_a = record { edition = n_A; K = K; constraints = a }

  abbrev bundle_b : Bundle
  bundle_b = record { edition = n_B; K = K; constraints = b }

  abbrev Here : Answer → Type 0
  Here = Full (edition n).lines (branch_lines (length a + length b) []) (fields proof)

  both_read : bundles newest_edition A B ≡ accepted (bundle_a, bundle_b)
  unfolding agrees
  both_read = bundles-accept newest_edition A B bundle_a bundle_b (record { laid_a = record { file = fA; agree = tt }; laid_b = record { file = fB; agree = agrees-refl K } })

  interpolant-full : Satisfies Here (interpolant newest_edition A B proof) (λ _. Unit {0})
  unfolding interpolant at_most formula_at_most
  interpolant-full = test _ _ (λ z. absurd (omega arith)) λ _. test _ _ (λ z. absurd (omega arith)) λ _. test _ _ (λ z. absurd (omega arith)) λ _.
      bind {P = λ x. x ≡ (bundle_a, bundle_b)} (record { refusal = λ x e. absurd (never (sym e ∙ both_read)); value = λ x e. one_value e both_read }) λ x q.
      bind (subst (λ (ab : Bundle × Bundle). Satisfies Here (check_proof newest_edition ab.0 ab.1 (fields proof)) (λ _. Unit {0})) (sym q) (proof-full bundle_a bundle_b (fields proof) n says)) λ I _.
      test _ _ (λ z. absurd (omega arith)) λ _. says-accepted tt

  fit-full : (t : Bool) (bytes : List ℕ) → Here (fit output t bytes).answer
  unfolding fit
  fit-full true bytes e = absurd (omega arith)
  fit-full false bytes e = absurd (omega arith)

  written-full : (x : Result (ℕ × Formula)) → Satisfies Here x (λ _. Unit {0}) → Here (written (x >>= λ (K, I). accepted (formula_file edition1 K I)) output).answer
  unfolding written ◌>>=◌
  written-full (refused y) s = s.refusal y refl
  written-full (accepted (K, I)) s = fit-full _ (formula_file edition1 K I)

  pub lines-full : TooManyLines (edition n).lines (branch_lines (length a + length b) []) (fields proof) r.answer.place
  unfolding check check_by
  lines-full = subst (λ (w : Written). Here w.answer) (sym d.is) (written-full (interpolant newest_edition A B proof) interpolant-full) z

pub lines-counted : LinesCounted
lines-counted = record {
  check_16 = λ A B proof output left r d z n_A n_B K a b fA fB. (λ says. lines-full d z fA fB 1 says, λ says. lines-full d z fA fB 2 says);
}
