-- Laws of writing the shorter table. Assumes nothing.
use mathlib.Core.Path.{◌≡◌, refl, sym, ◌∙◌, ap, ap₂, subst}
use mathlib.Core.Option.{Option, none, some}
use mathlib.Core.Bool.{Bool, true, false, cond}
use mathlib.Core.List.{List, [], ◌∷◌, ◌++◌}
use Prim.Native.Nat.{ℕ, zero, suc, ◌+◌, ◌*◌, ◌-◌, ◌≤◌, ◌<◌}
use native.Mathlib.Omega.{arith}
use lib.Dec.{eqb}
use lib.ListN.{length, get_or, set, length-set, take, drop}
use lib.Seq.{sets, get_or-set_same, get_or-set_other, drop-cons, drop-drop}
use borrow.Author.Tests.{eqb-true, eqb-false, eq-eqb, ne_eqb}
use Rattle.forms.specs.Edition.{Edition, edition}
use Rattle.forms.specs.Forms.{All, nil, cons}
use Rattle.calculus.specs.Rules.{Combine, Reduce, Scale, Derive, Strengthen, Round, Split, CloseNumber, CloseStride, Entry, row, claim}
use Rattle.number_bytes.specs.Numbers.{unsigned, unsigned_bytes}
use Rattle.number_bytes.proofs.Stores.{sets-append}
use Rattle.fields.specs.Fields.{Fields, ends, cut, ◌▸◌, Item, item, field_bytes, file_of}
use Rattle.std.specs.Prelude.{Ok}
use Rattle.std.specs.declared.result.Result as code
use Rattle.fields.specs.declared.WholeField.{WholeField}
use Rattle.fields.specs.declared.End.{End}
use Rattle.fields.specs.Places.{fields_at, next_of}
use Rattle.fields.proofs.Places.{Starts, starts-size}
use Rattle.fields.proofs.Framing.{length-field_bytes}
use Rattle.proof.specs.Entries.{EntryTag, combine_tag, reduce_tag, scale_tag, strengthen_tag, number_tag, stride_tag, round_tag, split_tag, claim_tag, entry_tagged, line_count, renumbered, line_number, entry_from}
use Rattle.proof.specs.Layout.{Enters}
use Rattle.shortening.specs.Needed.{renew, kept_lines}
use Rattle.shortening.specs.Passes.{top, pop, pushed, is_kept, Retention, retention, Start, no_start, branch_start, retentions, remaining}
use Rattle.shortening.specs.Shorten.{list_of, renumber_item}
use Rattle.shortening.proofs.Renumbering.{anew-none, anew-more, numbers_fit, length-put}
use Rattle.shortening.proofs.Filed.{line-width, never-cut}
use Rattle.shortening_stack.specs.declared.Class.{Class}
use Rattle.shortening_stack.specs.declared.Class.TheVariants.{Makes, Branches, Closes, Claims}
use Rattle.shortening_stack.specs.declared.Outline.{Outline}
use Rattle.shortening_stack.specs.declared.stack.Step.{Step}
use Rattle.shortening_stack.specs.Outline.{outline, outline_of, outline_by, LaidBy}
use Rattle.shortening_stack.specs.Stack.{stack_of, Alive, Bound, lines_after, kept_after, opened_after, MovedOn}
use Rattle.shortening_stack.proofs.Outlines.{outline-is, laid_by}
use Rattle.shortening_marks.specs.Gathered.{rows_of, Stating}
use Rattle.shortening_marks.proofs.Gathering.{no_claim, Head, head_of, nothing_left, rows-claim, rows_row, bound-more}
use Rattle.shortening_marks.proofs.Reported.{stated-entries}
use Rattle.shortening_table.specs.Table.{Fewer, renewed, numbered, Puttable, PutField, new_number, Keepable, PutKept}
use Rattle.shortening_table.specs.Written.{written_from, table_from, Tells, TableWritable}
use Rattle.shortening_table.proofs.Bytes.{claims, claim-field, one_more}

-- ---- a field that stays or goes
module _ {p : List ℕ} {tag start len w i j : ℕ} {stays : Bool} {gones out : List ℕ} {o : ℕ} where
  pub put-goes : stays ≡ false → PutKept p tag start len w i j stays gones out o out o
  put-goes s = record {
    is = sym (ap (λ (b : Bool). cond b (sets out o (field_bytes tag (numbered (line_count (entry_tagged tag)) w (new_number gones i) (new_number gones j) (take len (drop start p))))) out) s);
    next = sym (ap (λ (b : Bool). cond b (o + 3 + len) o) s);
    out_length = refl;
  }

  pub put-stays : {count first second : ℕ} {out' : List ℕ} → stays ≡ true → count ≡ line_count (entry_tagged tag) → first ≡ new_number gones i → second ≡ new_number gones j
      → PutField p tag start len w count first second out o out' → PutKept p tag start len w i j stays gones out o out' (o + 3 + len)
  put-stays {count} {first} {second} s c a b u = record {
    is = u.is
        ∙ ap (λ (n : ℕ). sets out o (field_bytes tag (numbered n w first second (take len (drop start p))))) c
        ∙ ap₂ (λ (x y : ℕ). sets out o (field_bytes tag (numbered (line_count (entry_tagged tag)) w x y (take len (drop start p))))) a b
        ∙ sym (ap (λ (b : Bool). cond b (sets out o (field_bytes tag (numbered (line_count (entry_tagged tag)) w (new_number gones i) (new_number gones j) (take len (drop start p))))) out) s);
    next = sym (ap (λ (b : Bool). cond b (o + 3 + len) o) s);
    out_length = u.out_length;
  }

pub puttable : {p : List ℕ} {tag start len w : ℕ} {stays : Bool} {gones out : List ℕ} {o count : ℕ} → Keepable p tag start len w stays gones out o → stays ≡ true → count ≡ line_count (entry_tagged tag) → Puttable p start len w count out o
puttable {p} {start = start} {len = len} {w = w} {out = out} {o = o} k s c = subst (λ (n : ℕ). Puttable p start len w n out o) (sym c) (k.able s)

-- ---- new line numbers of a field
module _ (e : Edition) (K : ℕ) (f : ℕ → ℕ) where
  line-0 : (bs : List ℕ) → line_number e 0 bs ≡ unsigned (take e.line_width bs)
  unfolding line_number
  line-0 bs = ap (λ (n : ℕ). unsigned (take e.line_width (drop n bs))) (let z : 0 * e.line_width ≡ 0 = omega arith in z)

  line-1 : (bs : List ℕ) → line_number e 1 bs ≡ unsigned (take e.line_width (drop e.line_width bs))
  unfolding line_number
  line-1 bs = ap (λ (n : ℕ). unsigned (take e.line_width (drop n bs))) (let z : 1 * e.line_width ≡ e.line_width = omega arith in z)

  numbered-one : (bs : List ℕ) (second : ℕ) → numbered 1 e.line_width (f (line_number e 0 bs)) second bs ≡ renumbered e.line_width e.line_width f 1 bs
  numbered-one bs second =
      let w = e.line_width in
      ap (λ (n : ℕ). unsigned_bytes w (f n) ++ drop w bs) (line-0 bs)
      ∙ sym (anew-more w f 0 bs ∙ ap (λ (xs : List ℕ). unsigned_bytes w (f (unsigned (take w bs))) ++ xs) (anew-none w f (drop w bs)))

  numbered-two : (bs : List ℕ) → numbered 2 e.line_width (f (line_number e 0 bs)) (f (line_number e 1 bs)) bs ≡ renumbered e.line_width e.line_width f 2 bs
  numbered-two bs =
      let w = e.line_width in
      let One = unsigned_bytes w (f (unsigned (take w bs))) in
      let Two = unsigned_bytes w (f (unsigned (take w (drop w bs)))) in
      ap₂ (λ (n m : ℕ). unsigned_bytes w (f n) ++ (unsigned_bytes w (f m) ++ drop (w + w) bs)) (line-0 bs) (line-1 bs)
      ∙ ap (λ (xs : List ℕ). One ++ (Two ++ xs)) (sym (drop-drop w w bs))
      ∙ sym (anew-more w f 1 bs ∙ ap (λ (xs : List ℕ). One ++ xs) (anew-more w f 0 (drop w bs) ∙ ap (λ (xs : List ℕ). Two ++ xs) (anew-none w f (drop w (drop w bs)))))

  numbered-none : (bs : List ℕ) (first second : ℕ) → numbered 0 e.line_width first second bs ≡ renumbered e.line_width e.line_width f 0 bs
  numbered-none bs first second = sym (anew-none e.line_width f bs)

  numbered-by : (x : EntryTag) (bs : List ℕ)
      → numbered (line_count (some x)) e.line_width (f (outline_of (entry_from e K x bs)).first) (f (outline_of (entry_from e K x bs)).second) bs ≡ renumbered e.line_width e.line_width f (line_count (some x)) bs
  unfolding entry_from
  numbered-by combine_tag bs = numbered-two bs
  numbered-by reduce_tag bs = numbered-two bs
  numbered-by scale_tag bs = numbered-one bs (f (line_number e 0 bs))
  numbered-by strengthen_tag bs = numbered-one bs (f (line_number e 0 bs))
  numbered-by number_tag bs = numbered-one bs (f (line_number e 0 bs))
  numbered-by stride_tag bs = numbered-one bs (f (line_number e 0 bs))
  numbered-by round_tag bs = numbered-one bs (f (line_number e 0 bs))
  numbered-by split_tag bs = numbered-one bs (f (line_number e 0 bs))
  numbered-by claim_tag bs = numbered-none bs (f 0) (f 0)

  -- what the code writes of a field is the field with new line numbers
  numbered_is : (i : Item) (y : Entry) → Enters e K i y → numbered (line_count (entry_tagged i.tag)) e.line_width (f (outline_of y).first) (f (outline_of y).second) i.contents ≡ (renumber_item e f i).contents
  numbered_is i y h =
      let w = e.line_width in
      let bs = i.contents in
      ap (λ (n : ℕ). numbered n w (f (outline_of y).first) (f (outline_of y).second) bs) (ap line_count h.tag)
      ∙ sym (ap (λ (z : Entry). numbered (line_count (some h.tagged)) w (f (outline_of z).first) (f (outline_of z).second) bs) h.entry)
      ∙ numbered-by h.tagged bs
      ∙ sym (ap (λ (o : Option EntryTag). renumbered w w f (line_count o) bs) h.tag)

  numbers-fit-in : (i : Item) (y : Entry) → Enters e K i y → line_count (entry_tagged i.tag) * e.line_width ≤ length i.contents
  numbers-fit-in i y h =
      subst (λ (n : ℕ). n * e.line_width ≤ length i.contents) (sym (ap line_count h.tag))
      (subst (λ (n : ℕ). line_count (some h.tagged) * e.line_width ≤ n) (sym h.size) (numbers_fit e K f h.tagged))

numbers-few : (tag : ℕ) → line_count (entry_tagged tag) ≤ 2
numbers-few tag = by (entry_tagged tag)
  where
    by : (o : Option EntryTag) → line_count o ≤ 2
    by none = omega arith
    by (some combine_tag) = omega arith
    by (some reduce_tag) = omega arith
    by (some scale_tag) = omega arith
    by (some strengthen_tag) = omega arith
    by (some number_tag) = omega arith
    by (some stride_tag) = omega arith
    by (some round_tag) = omega arith
    by (some split_tag) = omega arith
    by (some claim_tag) = omega arith

-- ---- what becomes of one entry
-- Whether a row of a class stays: one that makes a line if it is reported so.
abbrev row_kept : (class : Class) (reported : ℕ) → Bool
row_kept Makes reported = is_kept reported
row_kept _ reported = true

kept-true : (class : Class) (reported : ℕ) → ¬ (reported ≡ 0) → row_kept class reported ≡ true
kept-true Makes zero h = absurd (h refl)
kept-true Makes (suc n) h = refl
kept-true Branches n h = refl
kept-true Closes n h = refl
kept-true Claims n h = refl

abbrev renew_by : Class → (ℕ → ℕ) → (lines kept : ℕ) → ℕ → ℕ
renew_by Makes f lines kept = renew f lines kept
renew_by Branches f lines kept = renew f lines kept
renew_by _ f lines kept = f

abbrev kept_by : Class → (stays : Bool) (kept first : ℕ) → ℕ
kept_by Makes b kept first = kept_lines b kept
kept_by Branches b kept first = suc kept
kept_by _ b kept first = first

kept-stays : (class : Class) (kept first : ℕ) → kept_by class true kept first ≡ kept_after class kept first
kept-stays Makes kept first = refl
kept-stays Branches kept first = refl
kept-stays Closes kept first = refl
kept-stays Claims kept first = refl

fates-row : (y : Entry) (es : List Entry) (reported : List ℕ) (b : Bool) (f : ℕ → ℕ) (lines kept : ℕ) (opened : List Start) → ¬ ((outline_of y).class ≡ Claims)
    → retentions (y ∷ es) reported b f lines kept opened
    ≡ retention (row_kept (outline_of y).class (top 0 reported)) f
    ∷ retentions es (pop reported) (row_kept (outline_of y).class (top 0 reported)) (renew_by (outline_of y).class f lines kept) (lines_after (outline_of y).class lines opened)
    (kept_by (outline_of y).class (row_kept (outline_of y).class (top 0 reported)) kept (top no_start opened).kept) (opened_after (outline_of y).class (outline_of y).come lines kept opened)
fates-row (row (Derive (Combine s t α β))) es reported b f lines kept opened d = refl
fates-row (row (Derive (Reduce s t α))) es reported b f lines kept opened d = refl
fates-row (row (Derive (Scale t α))) es reported b f lines kept opened d = refl
fates-row (row (Strengthen i)) es reported b f lines kept opened d = refl
fates-row (row (Round i g k)) es reported b f lines kept opened d = refl
fates-row (row (Split i)) es reported b f lines kept opened d = refl
fates-row (row (CloseNumber i)) es reported b f lines kept opened d = refl
fates-row (row (CloseStride i g)) es reported b f lines kept opened d = refl
fates-row (claim t t_A) es reported b f lines kept opened d = absurd (d refl)

fates-claim : (y : Entry) (es : List Entry) (reported : List ℕ) (b : Bool) (f : ℕ → ℕ) (lines kept : ℕ) (opened : List Start) → (outline_of y).class ≡ Claims
    → retentions (y ∷ es) reported b f lines kept opened ≡ retention b f ∷ retentions es reported b f lines kept opened
fates-claim (claim t t_A) es reported b f lines kept opened h = refl
fates-claim (row r) es reported b f lines kept opened h = absurd (no_claim r h)

-- by the tag
as-claim : (y : Entry) → claims y ≡ true → outline_of y ≡ outline Claims 0 0 0
as-claim (claim t t_A) h = refl
as-claim (row r) h = absurd (let z : ◌≡◌ {A = ℕ} 0 1 = cc in omega arith)

as_row : (y : Entry) → claims y ≡ false → ¬ ((outline_of y).class ≡ Claims)
as_row (row r) h = no_claim r
as_row (claim t t_A) h = absurd (let z : ◌≡◌ {A = ℕ} 0 1 = cc in omega arith)

-- what the report says
tells_row : (y : Entry) (es : List Entry) (reported : List ℕ) → claims y ≡ false → Tells (y ∷ es) reported → (top 0 reported ≡ 0 → (outline_of y).class ≡ Makes) × Tells es (pop reported)
tells_row (row r) es reported h t = t
tells_row (claim t t_A) es reported h k = absurd (let z : ◌≡◌ {A = ℕ} 0 1 = cc in omega arith)

tells-claim : (y : Entry) (es : List Entry) (reported : List ℕ) → claims y ≡ true → Tells (y ∷ es) reported → Tells es reported
tells-claim (claim t t_A) es reported h k = k
tells-claim (row r) es reported h t = absurd (let z : ◌≡◌ {A = ℕ} 0 1 = cc in omega arith)

-- ---- new numbers and counts behind a row
new-set : (gones : List ℕ) (f : ℕ → ℕ) (lines kept : ℕ) → lines < length gones → kept ≤ lines → ((j : ℕ) → f j ≡ new_number gones j)
    → (j : ℕ) → renew f lines kept j ≡ new_number (set gones lines (lines - kept)) j
new-set gones f lines kept h k q j = by (eqb j lines) refl
  where
    by : (b : Bool) → eqb j lines ≡ b → cond (eqb j lines) kept (f j) ≡ new_number (set gones lines (lines - kept)) j
    by true e =
        let s : j ≡ lines = eqb-true j lines e in
        let g : get_or (set gones lines (lines - kept)) j 0 ≡ lines - kept = ap (λ (i : ℕ). get_or (set gones lines (lines - kept)) i 0) s ∙ get_or-set_same gones lines (lines - kept) 0 h in
        ap (λ (b : Bool). cond b kept (f j)) e ∙ (let z : kept ≡ j - get_or (set gones lines (lines - kept)) j 0 = omega (arith, g, s, k) in z)
    by false e =
        ap (λ (b : Bool). cond b kept (f j)) e ∙ q j ∙ sym (ap (λ (n : ℕ). j - n) (get_or-set_other gones lines j (lines - kept) 0 (eqb-false j lines e)))

new-renewed : (class : Class) (gones : List ℕ) (f : ℕ → ℕ) (lines kept : ℕ) → lines < length gones → kept ≤ lines → ((j : ℕ) → f j ≡ new_number gones j)
    → (j : ℕ) → renew_by class f lines kept j ≡ new_number (renewed class gones lines kept) j
new-renewed Makes gones f lines kept h k q j = new-set gones f lines kept h k q j
new-renewed Branches gones f lines kept h k q j = new-set gones f lines kept h k q j
new-renewed Closes gones f lines kept h k q j = q j
new-renewed Claims gones f lines kept h k q j = q j

fewer-set : (gones : List ℕ) (lines kept : ℕ) → lines < length gones → Fewer gones → Fewer (set gones lines (lines - kept))
fewer-set gones lines kept h a = record { fewer = λ j l. by j l (eqb j lines) refl }
  where
    by : (j : ℕ) → j < length (set gones lines (lines - kept)) → (b : Bool) → eqb j lines ≡ b → get_or (set gones lines (lines - kept)) j 0 ≤ j
    by j l true e =
        let s : j ≡ lines = eqb-true j lines e in
        let g : get_or (set gones lines (lines - kept)) j 0 ≡ lines - kept = ap (λ (i : ℕ). get_or (set gones lines (lines - kept)) i 0) s ∙ get_or-set_same gones lines (lines - kept) 0 h in
        omega (arith, g, s)
    by j l false e =
        subst (λ (n : ℕ). n ≤ j) (sym (get_or-set_other gones lines j (lines - kept) 0 (eqb-false j lines e))) (a.fewer j (omega (arith, l, length-set gones lines (lines - kept))))

fewer-renewed : (class : Class) (gones : List ℕ) (lines kept : ℕ) → lines < length gones → Fewer gones → Fewer (renewed class gones lines kept)
fewer-renewed Makes gones lines kept h a = fewer-set gones lines kept h a
fewer-renewed Branches gones lines kept h a = fewer-set gones lines kept h a
fewer-renewed Closes gones lines kept h a = a
fewer-renewed Claims gones lines kept h a = a

renewed-length : (class : Class) (gones : List ℕ) (lines kept : ℕ) → length (renewed class gones lines kept) ≡ length gones
renewed-length Makes gones lines kept = length-set gones lines (lines - kept)
renewed-length Branches gones lines kept = length-set gones lines (lines - kept)
renewed-length Closes gones lines kept = refl
renewed-length Claims gones lines kept = refl

-- No more lines are kept than there are.
pub record Under (s : Start) : Type 0 where
  pub under : s.kept ≤ s.lines

under-times : (k : ℕ) (s : Start) (opened : List Start) → Under s → All Under opened → All Under (pushed k s opened)
under-times zero s opened u a = a
under-times (suc k) s opened u a = cons u (under-times k s opened u a)

under-pop : (opened : List Start) → All Under opened → All Under (pop opened)
under-pop [] a = nil
under-pop (s ∷ opened) (cons u a) = a

under_top : (opened : List Start) → All Under opened → (top no_start opened).kept ≤ (top no_start opened).lines
under_top [] a = omega arith
under_top (s ∷ opened) (cons u a) = u.under

under-after : (class : Class) (come lines kept : ℕ) (opened : List Start) → kept ≤ lines → All Under opened → All Under (opened_after class come lines kept opened)
under-after Makes come lines kept opened h a = a
under-after Branches come lines kept opened h a = under-times come (branch_start (suc lines) (suc kept)) opened (record { under = omega (arith, h) }) a
under-after Closes come lines kept opened h a = under-pop opened a
under-after Claims come lines kept opened h a = under-pop opened a

kept_under : (class : Class) (lines kept : ℕ) (opened : List Start) → kept ≤ lines → All Under opened → kept_after class kept (top no_start opened).kept ≤ lines_after class lines opened
kept_under Makes lines kept opened h a = omega (arith, h)
kept_under Branches lines kept opened h a = omega (arith, h)
kept_under Closes lines kept opened h a = under_top opened a
kept_under Claims lines kept opened h a = under_top opened a

-- ---- one field more
nothing_written : (out : List ℕ) (to : ℕ) → sets out to (file_of []) ≡ out
unfolding file_of
nothing_written out to = refl

one_written : (e : Edition) (f : ℕ → ℕ) (i : Item) (b : Bool) (ds : List Retention) (is : List Item) (n : ℕ) → length (renumber_item e f i).contents ≡ n → (out : List ℕ) (to : ℕ)
    → sets (cond b (sets out to (field_bytes i.tag (renumber_item e f i).contents)) out) (cond b (to + 3 + n) to) (file_of (remaining (renumber_item e) ds is))
    ≡ sets out to (file_of (remaining (renumber_item e) (retention b f ∷ ds) (i ∷ is)))
unfolding file_of
one_written e f i true ds is n l out to =
    let j = renumber_item e f i in
    ap (λ (m : ℕ). sets (sets out to (field_bytes j.tag j.contents)) m (file_of (remaining (renumber_item e) ds is)))
    (let z : to + 3 + n ≡ to + length (field_bytes j.tag j.contents) = omega (arith, l, length-field_bytes j.tag j.contents) in z)
    ∙ sym (sets-append (field_bytes j.tag j.contents) (file_of (remaining (renumber_item e) ds is)) out to)
one_written e f i false ds is n l out to = refl

-- ---- the invariant
pub record Writing (p : List ℕ) (at e K n : ℕ) (report gones₀ : List ℕ) (steps₀ : List Step) (out₀ : List ℕ) (o : ℕ) (gones : List ℕ) (steps : List Step) (out : List ℕ) (here to lines kept depth rows : ℕ) (stays : Bool) : Type 0 where
  pub able : TableWritable e K (fields_at p at) n report gones₀ steps₀ out₀ o
  pub es : List Entry
  pub stating : Stating e K (fields_at p here) es
  pub tells : Tells es (drop rows report)
  pub new : ℕ → ℕ
  pub new_is : (j : ℕ) → new j ≡ new_number gones j
  pub rows_are : rows + rows_of es ≡ rows_of able.es
  pub alive : Alive steps depth
  pub depth-most : depth ≤ rows
  pub lines-most : lines ≤ n + rows
  pub bounded : Bound steps depth (n + rows)
  pub kept-most : kept ≤ lines
  pub under : All Under (stack_of steps depth)
  pub fewer : Fewer gones
  pub gones-length : length gones ≡ length gones₀
  pub steps_length : length steps ≡ length steps₀
  pub out_length : length out ≡ length out₀
  -- what is left to write from here is the whole from the start
  pub rest : sets out to (written_from e es (drop rows report) stays new lines kept (stack_of steps depth) (list_of (fields_at p here))) ≡ sets out₀ o (table_from e K n (fields_at p at) report)
  pub room : to + length (written_from e es (drop rows report) stays new lines kept (stack_of steps depth) (list_of (fields_at p here))) ≤ length out

pub writing_start : {p : List ℕ} {at e K n : ℕ} {report gones : List ℕ} {steps : List Step} {out : List ℕ} {o : ℕ} → TableWritable e K (fields_at p at) n report gones steps out o
    → Writing p at e K n report gones steps out o gones steps out at o n n 0 0 true
writing_start {p} {at} {e} {K} {n} {report} {gones} {out = out} {o = o} a =
    let q = stated-entries e K (fields_at p at) a.es a.stating in
    let same : table_from e K n (fields_at p at) report ≡ written_from e a.es report true (λ j. j) n n [] (list_of (fields_at p at)) = ap (λ (xs : List Entry). written_from e xs report true (λ j. j) n n [] (list_of (fields_at p at))) q in
    record {
      able = a;
      es = a.es;
      stating = a.stating;
      tells = a.tells;
      new = λ j. j;
      new_is = λ j. let c : get_or gones j 0 ≡ 0 = a.clear j in omega (arith, c);
      rows_are = omega arith;
      alive = record { alive = λ i h. absurd (omega (arith, h)) };
      depth-most = omega arith;
      lines-most = omega arith;
      bounded = record { bound = λ i h. absurd (omega (arith, h)) };
      kept-most = omega arith;
      under = nil;
      fewer = record { fewer = λ j h. let c : get_or gones j 0 ≡ 0 = a.clear j in omega (arith, c) };
      gones-length = refl;
      steps_length = refl;
      out_length = refl;
      rest = ap (sets out o) (sym same);
      room = subst (λ (bs : List ℕ). o + length bs ≤ length out) same a.room;
    }

module _ {p : List ℕ} {at e K n : ℕ} {report gones₀ : List ℕ} {steps₀ : List Step} {out₀ : List ℕ} {o : ℕ} {gones : List ℕ} {steps : List Step} {out : List ℕ} {here to lines kept depth rows : ℕ} {stays : Bool}
    (v : Writing p at e K n report gones₀ steps₀ out₀ o gones steps out here to lines kept depth rows stays) where
  -- bytes that are no whole field state nothing
  writing-cut : {a : ℕ} → fields_at p here ≡ cut a → ⊥
  writing-cut {a} q =
      let s = subst (λ (fs : Fields). Stating e K fs v.es) q v.stating in
      never-cut a s.list s.are

  writing-done : {a : ℕ} → fields_at p here ≡ ends a → out ≡ sets out₀ o (table_from e K n (fields_at p at) report)
  writing-done {a} q =
      let none : v.es ≡ [] = nothing_left e K a v.es (subst (λ (fs : Fields). Stating e K fs v.es) q v.stating) in
      sym (nothing_written out to)
      ∙ sym (ap (λ (es : List Entry). sets out to (written_from e es (drop rows report) stays v.new lines kept (stack_of steps depth) (list_of (fields_at p here)))) none)
      ∙ v.rest

  -- where no whole field is left
  pub writing-over : {r : code.Result WholeField End} → r ≡ next_of (fields_at p here) → ((f : WholeField) → ¬ (r ≡ Ok f)) → out ≡ sets out₀ o (table_from e K n (fields_at p at) report)
  writing-over {r} q h = go (fields_at p here) refl q
    where
      go : (fs : Fields) → fields_at p here ≡ fs → r ≡ next_of fs → out ≡ sets out₀ o (table_from e K n (fields_at p at) report)
      go (ends a) e q = writing-done e
      go (cut a) e q = absurd (writing-cut e)
      go (f ▸ fs) e q = absurd (h _ q)

  module _ {a tag start len next : ℕ} (k : Starts p here a tag start len next) where
    inside : start + len ≤ length p
    inside = omega (arith, k.upto, k.next-is)

    abbrev field : Item
    field = item tag (take len (drop start p))

    abbrev opened : List Start
    opened = stack_of steps depth

    head : Head e K (fields_at p next) field v.es
    head = head_of e K (record { at = a; tag = tag; contents = take len (drop start p) }) (fields_at p next) v.es (subst (λ (fs : Fields). Stating e K fs v.es) k.is v.stating)

    pub entry-there : LaidBy p tag start (edition e).line_width
    entry-there = laid_by e K p tag start len head.y inside head.enters

    tells-here : Tells (head.y ∷ head.others) (drop rows report)
    tells-here = subst (λ (es : List Entry). Tells es (drop rows report)) head.are v.tells

    -- the field with new line numbers
    same_size : length (renumber_item (edition e) v.new field).contents ≡ len
    same_size =
        let i = head.enters in
        ap (λ (o : Option EntryTag). length (renumbered (edition e).line_width (edition e).line_width v.new (line_count o) (take len (drop start p)))) i.tag
        ∙ length-put (edition e) K v.new i.tagged (take len (drop start p)) i.size ∙ sym i.size ∙ starts-size k

    as-field : (first second : ℕ) → first ≡ (outline_of head.y).first → second ≡ (outline_of head.y).second
        → numbered (line_count (entry_tagged tag)) (edition e).line_width (new_number gones first) (new_number gones second) (take len (drop start p)) ≡ (renumber_item (edition e) v.new field).contents
    as-field first second f g =
        ap₂ (λ (i j : ℕ). numbered (line_count (entry_tagged tag)) (edition e).line_width i j (take len (drop start p))) (sym (v.new_is first)) (sym (v.new_is second))
        ∙ ap₂ (λ (i j : ℕ). numbered (line_count (entry_tagged tag)) (edition e).line_width (v.new i) (v.new j) (take len (drop start p))) f g
        ∙ numbered_is (edition e) K v.new field head.y head.enters

    -- the first entry stays or goes
    module _ (b : Bool) (ds : List Retention) (d : retentions v.es (drop rows report) stays v.new lines kept opened ≡ retention b v.new ∷ ds) where
      from-here : written_from e v.es (drop rows report) stays v.new lines kept opened (list_of (fields_at p here))
          ≡ file_of (remaining (renumber_item (edition e)) (retention b v.new ∷ ds) (field ∷ list_of (fields_at p next)))
      from-here = ap₂ (λ (fs : List Retention) (is : List Item). file_of (remaining (renumber_item (edition e)) fs is)) d (ap list_of k.is)

      bytes-here : cond b (3 + length (take len (drop start p))) 0 + length (file_of (remaining (renumber_item (edition e)) ds (list_of (fields_at p next))))
          ≡ length (written_from e v.es (drop rows report) stays v.new lines kept opened (list_of (fields_at p here)))
      bytes-here = one_more (edition e) K v.new field head.y head.enters b ds (list_of (fields_at p next)) _ refl ∙ sym (ap length from-here)

      keepable : Keepable p tag start len (edition e).line_width b gones out to
      keepable = record {
        fewer = v.fewer;
        able = λ s.
            let c : cond b (3 + length (take len (drop start p))) 0 ≡ 3 + length (take len (drop start p)) = ap (λ (b : Bool). cond b (3 + length (take len (drop start p))) 0) s in
            record {
              there = inside;
              room = omega (arith, v.room, bytes-here, c, starts-size k);
              numbers = subst (λ (m : ℕ). line_count (entry_tagged tag) * (edition e).line_width ≤ m) (starts-size k) (numbers-fit-in (edition e) K v.new field head.y head.enters);
              few = numbers-few tag;
              narrow = line-width e;
            };
      }

      module _ {first second : ℕ} (f : first ≡ (outline_of head.y).first) (g : second ≡ (outline_of head.y).second) {out' : List ℕ} {to' : ℕ}
          (u : PutKept p tag start len (edition e).line_width first second b gones out to out' to') where
        rest-next : sets out' to' (file_of (remaining (renumber_item (edition e)) ds (list_of (fields_at p next)))) ≡ sets out₀ o (table_from e K n (fields_at p at) report)
        rest-next =
            ap₂ (λ (xs : List ℕ) (m : ℕ). sets xs m (file_of (remaining (renumber_item (edition e)) ds (list_of (fields_at p next))))) u.is u.next
            ∙ ap (λ (bs : List ℕ). sets (cond b (sets out to (field_bytes tag bs)) out) (cond b (to + 3 + len) to) (file_of (remaining (renumber_item (edition e)) ds (list_of (fields_at p next))))) (as-field first second f g)
            ∙ one_written (edition e) v.new field b ds (list_of (fields_at p next)) len same_size out to
            ∙ sym (ap (sets out to) from-here)
            ∙ v.rest

        room_next : to' + length (file_of (remaining (renumber_item (edition e)) ds (list_of (fields_at p next)))) ≤ length out'
        room_next = by b u.next bytes-here
          where
            by : (b : Bool) → to' ≡ cond b (to + 3 + len) to
                → cond b (3 + length (take len (drop start p))) 0 + length (file_of (remaining (renumber_item (edition e)) ds (list_of (fields_at p next))))
                ≡ length (written_from e v.es (drop rows report) stays v.new lines kept opened (list_of (fields_at p here)))
                → to' + length (file_of (remaining (renumber_item (edition e)) ds (list_of (fields_at p next)))) ≤ length out'
            by true a c = omega (arith, a, c, v.room, starts-size k, u.out_length)
            by false a c = omega (arith, a, c, v.room, u.out_length)

    -- a claim goes with its row
    module _ (c : tag ≡ 0x20) where
      is-claim : claims head.y ≡ true
      is-claim = sym (claim-field (edition e) K field head.y head.enters) ∙ eq-eqb tag 0x20 c

      claim-outline : outline_of head.y ≡ outline Claims 0 0 0
      claim-outline = as-claim head.y is-claim

      claim-fates : retentions v.es (drop rows report) stays v.new lines kept opened ≡ retention stays v.new ∷ retentions head.others (drop rows report) stays v.new lines kept opened
      claim-fates = ap (λ (es : List Entry). retentions es (drop rows report) stays v.new lines kept opened) head.are
          ∙ fates-claim head.y head.others (drop rows report) stays v.new lines kept opened (ap (λ (s : Outline). s.class) claim-outline)

      pub claim-keepable : stays ≡ true → Keepable p tag start len (edition e).line_width true gones out to
      claim-keepable s = subst (λ (b : Bool). Keepable p tag start len (edition e).line_width b gones out to) s (keepable stays _ claim-fates)

      writing-claim : {out' : List ℕ} {to' : ℕ} → PutKept p tag start len (edition e).line_width 0 0 stays gones out to out' to'
          → Writing p at e K n report gones₀ steps₀ out₀ o gones steps out' next to' lines kept depth rows stays
      writing-claim u =
          let f : 0 ≡ (outline_of head.y).first = sym (ap (λ (s : Outline). s.first) claim-outline) in
          let g : 0 ≡ (outline_of head.y).second = sym (ap (λ (s : Outline). s.second) claim-outline) in
          record {
            able = v.able;
            es = head.others;
            stating = head.rest;
            tells = tells-claim head.y head.others (drop rows report) is-claim tells-here;
            new = v.new;
            new_is = v.new_is;
            rows_are = omega (arith, v.rows_are, ap rows_of head.are, rows-claim head.y head.others (ap (λ (s : Outline). s.class) claim-outline));
            alive = v.alive;
            depth-most = v.depth-most;
            lines-most = v.lines-most;
            bounded = v.bounded;
            kept-most = v.kept-most;
            under = v.under;
            fewer = v.fewer;
            gones-length = v.gones-length;
            steps_length = v.steps_length;
            out_length = u.out_length ∙ v.out_length;
            rest = rest-next stays _ claim-fates f g u;
            room = room_next stays _ claim-fates f g u;
          }

      pub claim-stays : stays ≡ true → {out' : List ℕ} {to' : ℕ} → PutKept p tag start len (edition e).line_width 0 0 true gones out to out' to'
          → Writing p at e K n report gones₀ steps₀ out₀ o gones steps out' next to' lines kept depth rows stays
      claim-stays s {out'} {to'} u = writing-claim (subst (λ (b : Bool). PutKept p tag start len (edition e).line_width 0 0 b gones out to out' to') (sym s) u)

      pub claim-goes : stays ≡ false → Writing p at e K n report gones₀ steps₀ out₀ o gones steps out next to lines kept depth rows stays
      claim-goes s = writing-claim (put-goes s)

    -- a row
    module _ (c : ¬ (tag ≡ 0x20)) where
      is_row : claims head.y ≡ false
      is_row = sym (claim-field (edition e) K field head.y head.enters) ∙ ne_eqb tag 0x20 c

      no-claim : ¬ ((outline_of head.y).class ≡ Claims)
      no-claim = as_row head.y is_row

      more_rows : rows + suc (rows_of head.others) ≡ rows_of v.able.es
      more_rows = omega (arith, v.rows_are, ap rows_of head.are, rows_row head.y head.others no-claim)

      pub row-reported : rows < length report
      row-reported = omega (arith, more_rows, v.able.report-room)

      pub rows_fit : rows + 1 < 0x10000
      rows_fit = omega (arith, more_rows, v.able.few)

      pub lines_fit : lines < 0xFFFF
      lines_fit = omega (arith, more_rows, v.lines-most, v.able.few)

      line-there : lines < length gones
      line-there = omega (arith, more_rows, v.lines-most, v.able.gones_room, v.gones-length)

      pub row-renewable : (lines < length gones) × (kept ≤ lines)
      row-renewable = (line-there, v.kept-most)

      reported_is : drop rows report ≡ get_or report rows 0 ∷ drop (rows + 1) report
      reported_is = drop-cons report rows 0 row-reported ∙ ap (λ (m : ℕ). get_or report rows 0 ∷ drop m report) (let z : suc rows ≡ rows + 1 = omega arith in z)

      told : (get_or report rows 0 ≡ 0 → (outline_of head.y).class ≡ Makes) × Tells head.others (drop (rows + 1) report)
      told = tells_row head.y head.others (get_or report rows 0 ∷ drop (rows + 1) report) is_row (subst (Tells (head.y ∷ head.others)) reported_is tells-here)

      -- what follows a row of a class, which stays or not
      abbrev behind : Bool → (class : Class) (come : ℕ) → List Retention
      behind b class come = retentions head.others (drop (rows + 1) report) b (renew_by class v.new lines kept) (lines_after class lines opened) (kept_by class b kept (top no_start opened).kept) (opened_after class come lines kept opened)

      row-fates : (b : Bool) → row_kept (outline_of head.y).class (get_or report rows 0) ≡ b
          → retentions v.es (drop rows report) stays v.new lines kept opened ≡ retention b v.new ∷ behind b (outline_of head.y).class (outline_of head.y).come
      row-fates b t =
          let y = head.y in
          ap₂ (λ (es : List Entry) (ns : List ℕ). retentions es ns stays v.new lines kept opened) head.are reported_is
          ∙ fates-row y head.others (get_or report rows 0 ∷ drop (rows + 1) report) stays v.new lines kept opened no-claim
          ∙ ap (λ (b : Bool). retention b v.new ∷ behind b (outline_of y).class (outline_of y).come) t

      -- one that is reported 0 goes
      module _ (s : get_or report rows 0 ≡ 0) where
        makes : (outline_of head.y).class ≡ Makes
        makes = told.0 s

        gone-fates : retentions v.es (drop rows report) stays v.new lines kept opened ≡ retention false v.new ∷ retentions head.others (drop (rows + 1) report) false (renew v.new lines kept) (lines + 1) kept opened
        gone-fates =
            row-fates false (ap₂ row_kept makes s)
            ∙ ap (λ (class : Class). retention false v.new ∷ behind false class (outline_of head.y).come) makes
            ∙ ap (λ (m : ℕ). retention false v.new ∷ retentions head.others (drop (rows + 1) report) false (renew v.new lines kept) m kept opened) (let z : suc lines ≡ lines + 1 = omega arith in z)

        pub writing-gone : {gones' : List ℕ} → gones' ≡ renewed Makes gones lines kept
            → Writing p at e K n report gones₀ steps₀ out₀ o gones' steps out next to (lines + 1) kept depth (rows + 1) false
        writing-gone {gones'} q =
            let u : PutKept p tag start len (edition e).line_width (outline_of head.y).first (outline_of head.y).second false gones out to out to = put-goes refl in
            record {
              able = v.able;
              es = head.others;
              stating = head.rest;
              tells = told.1;
              new = renew v.new lines kept;
              new_is = subst (λ (xs : List ℕ). (j : ℕ) → renew v.new lines kept j ≡ new_number xs j) (sym q) (new-set gones v.new lines kept line-there v.kept-most v.new_is);
              rows_are = omega (arith, more_rows);
              alive = v.alive;
              depth-most = omega (arith, v.depth-most);
              lines-most = omega (arith, v.lines-most);
              bounded = bound-more steps depth (n + rows) (n + (rows + 1)) (omega arith) v.bounded;
              kept-most = omega (arith, v.kept-most);
              under = v.under;
              fewer = subst Fewer (sym q) (fewer-set gones lines kept line-there v.fewer);
              gones-length = ap length q ∙ length-set gones lines (lines - kept) ∙ v.gones-length;
              steps_length = v.steps_length;
              out_length = v.out_length;
              rest = rest-next false _ gone-fates refl refl u;
              room = room_next false _ gone-fates refl refl u;
            }

      -- every other stays
      module _ (s : ¬ (get_or report rows 0 ≡ 0)) where
        stay-fates : retentions v.es (drop rows report) stays v.new lines kept opened ≡ retention true v.new ∷ behind true (outline_of head.y).class (outline_of head.y).come
        stay-fates = row-fates true (kept-true (outline_of head.y).class (get_or report rows 0) s)

        pub row-keepable : Keepable p tag start len (edition e).line_width true gones out to
        row-keepable = keepable true _ stay-fates

        pub stack-room : (lines < 0xFFFF) × (kept < 0xFFFF) × (depth < length steps)
        stack-room = (
          lines_fit,
          omega (arith, lines_fit, v.kept-most),
          omega (arith, more_rows, v.depth-most, v.able.steps_room, v.steps_length),
        )

        module _ {x : Outline} (q : x ≡ outline_by (edition e).line_width tag (drop start p)) where
          is-outline : x ≡ outline_of head.y
          is-outline = q ∙ outline-is e K p tag start len head.y inside head.enters

          module _ {out' gones' : List ℕ} {steps' : List Step} {to' lines' kept' depth' : ℕ} (u : PutKept p tag start len (edition e).line_width x.first x.second true gones out to out' to')
              (g : gones' ≡ renewed x.class gones lines kept) (w : MovedOn x.class x.come lines kept depth steps steps' lines' kept' depth') where
            opened-is : stack_of steps' depth' ≡ opened_after x.class x.come lines kept opened
            opened-is = w.is v.alive

            lines_is : lines' ≡ lines_after x.class lines opened
            lines_is = w.lines_are v.alive

            kept-is : kept' ≡ kept_after x.class kept (top no_start opened).kept
            kept-is = w.kept_are v.alive

            after : retentions v.es (drop rows report) stays v.new lines kept opened
                ≡ retention true v.new ∷ retentions head.others (drop (rows + 1) report) true (renew_by x.class v.new lines kept) lines' kept' (stack_of steps' depth')
            after =
                stay-fates
                ∙ ap (λ (z : Outline). retention true v.new ∷ behind true z.class z.come) (sym is-outline)
                ∙ ap₂ (λ (i j : ℕ). retention true v.new ∷ retentions head.others (drop (rows + 1) report) true (renew_by x.class v.new lines kept) i j (opened_after x.class x.come lines kept opened)) (sym lines_is) (kept-stays x.class kept (top no_start opened).kept ∙ sym kept-is)
                ∙ ap (λ (ss : List Start). retention true v.new ∷ retentions head.others (drop (rows + 1) report) true (renew_by x.class v.new lines kept) lines' kept' ss) (sym opened-is)

            pub writing-row : Writing p at e K n report gones₀ steps₀ out₀ o gones' steps' out' next to' lines' kept' depth' (rows + 1) true
            writing-row =
                let grown = w.bounded (n + (rows + 1)) (omega (arith, v.lines-most)) (bound-more steps depth (n + rows) (n + (rows + 1)) (omega arith) v.bounded) in
                let f : x.first ≡ (outline_of head.y).first = ap (λ (z : Outline). z.first) is-outline in
                let f₂ : x.second ≡ (outline_of head.y).second = ap (λ (z : Outline). z.second) is-outline in
                record {
                  able = v.able;
                  es = head.others;
                  stating = head.rest;
                  tells = told.1;
                  new = renew_by x.class v.new lines kept;
                  new_is = subst (λ (xs : List ℕ). (j : ℕ) → renew_by x.class v.new lines kept j ≡ new_number xs j) (sym g) (new-renewed x.class gones v.new lines kept line-there v.kept-most v.new_is);
                  rows_are = omega (arith, more_rows);
                  alive = w.alive v.alive;
                  depth-most = omega (arith, w.most, v.depth-most);
                  lines-most = grown.1;
                  bounded = grown.0;
                  kept-most = subst (λ (i : ℕ). i ≤ lines') (sym kept-is) (subst (λ (i : ℕ). kept_after x.class kept (top no_start opened).kept ≤ i) (sym lines_is) (kept_under x.class lines kept opened v.kept-most v.under));
                  under = subst (All Under) (sym opened-is) (under-after x.class x.come lines kept opened v.kept-most v.under);
                  fewer = subst Fewer (sym g) (fewer-renewed x.class gones lines kept line-there v.fewer);
                  gones-length = ap length g ∙ renewed-length x.class gones lines kept ∙ v.gones-length;
                  steps_length = w.steps_length ∙ v.steps_length;
                  out_length = u.out_length ∙ v.out_length;
                  rest = rest-next true _ after f f₂ u;
                  room = room_next true _ after f f₂ u;
                }
