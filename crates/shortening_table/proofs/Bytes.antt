-- The bytes that are counted are those of the fields that are left. Assumes nothing.
use mathlib.Core.Path.{◌≡◌, refl, sym, ◌∙◌, ap, subst}
use mathlib.Core.Option.{Option, some}
use mathlib.Core.Bool.{Bool, true, false, cond}
use mathlib.Core.List.{List, [], ◌∷◌, ◌++◌}
use Prim.Native.Nat.{ℕ, suc, ◌+◌}
use native.Mathlib.Omega.{arith}
use lib.Dec.{eqb}
use lib.ListN.{length, length-append}
use Rattle.forms.specs.Edition.{Edition}
use Rattle.calculus.specs.Rules.{Row, Derive, Strengthen, Round, Split, CloseNumber, CloseStride, Entry, row, claim}
use Rattle.fields.specs.Fields.{Field, Fields, ends, cut, ◌▸◌, Item, item, items, field_bytes, file_of}
use Rattle.fields.proofs.Framing.{length-field_bytes}
use Rattle.bundle.specs.Layout.{Each}
use Rattle.proof.specs.Entries.{EntryTag, combine_tag, reduce_tag, scale_tag, strengthen_tag, number_tag, stride_tag, round_tag, split_tag, claim_tag, entry_tagged, line_count, renumbered, entry_from}
use Rattle.proof.specs.Layout.{Enters}
use Rattle.shortening.specs.Needed.{mark_of, renew, kept_lines}
use Rattle.shortening.specs.Passes.{top, pop, pushed, backward, is_kept, Retention, retention, Start, no_start, branch_start, retentions, remaining}
use Rattle.shortening.specs.Shorten.{renumber_item}
use Rattle.shortening.proofs.Renumbering.{length-put}
use Rattle.shortening.proofs.Filed.{onward, ended, never-cut}
use Rattle.shortening_stack.proofs.Outlines.{each-tag}
use Rattle.shortening_marks.specs.Gathered.{rows_of}
use Rattle.shortening_table.specs.Table.{row_fields, bytes_from}

-- ---- the tag of a claim
is_claim : EntryTag → Bool
is_claim combine_tag = false
is_claim reduce_tag = false
is_claim scale_tag = false
is_claim strengthen_tag = false
is_claim number_tag = false
is_claim stride_tag = false
is_claim round_tag = false
is_claim split_tag = false
is_claim claim_tag = true

claim-tag : (tag : ℕ) (x : EntryTag) → entry_tagged tag ≡ some x → eqb tag 0x20 ≡ is_claim x
unfolding is_claim
claim-tag tag x = each-tag (λ n y. eqb n 0x20 ≡ is_claim y) tag x refl refl refl refl refl refl refl refl refl

abbrev pub claims : Entry → Bool
claims (row r) = false
claims (claim _ _) = true

claim-entry : (e : Edition) (K : ℕ) (x : EntryTag) (bs : List ℕ) → is_claim x ≡ claims (entry_from e K x bs)
unfolding entry_from is_claim
claim-entry e K combine_tag bs = refl
claim-entry e K reduce_tag bs = refl
claim-entry e K scale_tag bs = refl
claim-entry e K strengthen_tag bs = refl
claim-entry e K number_tag bs = refl
claim-entry e K stride_tag bs = refl
claim-entry e K round_tag bs = refl
claim-entry e K split_tag bs = refl
claim-entry e K claim_tag bs = refl

pub claim-field : (e : Edition) (K : ℕ) (i : Item) (y : Entry) → Enters e K i y → eqb i.tag 0x20 ≡ claims y
claim-field e K i y h = claim-tag i.tag h.tagged h.tag ∙ claim-entry e K h.tagged i.contents ∙ ap claims h.entry

-- the fields that are no claims state the rows
pub row_field : (e : Edition) (K : ℕ) (fs : Fields) (is : List Item) (es : List Entry) → items fs ≡ some is → Each (Enters e K) is es → row_fields fs ≡ rows_of es
row_field e K (ends at) is es a h = by is es (ended at is a) h
  where
    by : (is : List Item) (es : List Entry) → is ≡ [] → Each (Enters e K) is es → 0 ≡ rows_of es
    by [] [] q h = refl
    by [] (y ∷ es) q h = elim h [ ]
    by (i ∷ is) [] q h = elim h [ ]
    by (i ∷ is) (y ∷ es) q h = absurd (let x : suc (length is) ≡ 0 = ap length q in omega (arith, x))
row_field e K (cut at) is es a h = absurd (never-cut at is a)
row_field e K (g ▸ fs) is es a h =
    let x = onward g fs is a in
    by es (subst (λ (js : List Item). Each (Enters e K) js es) x.are h) (λ ys k. row_field e K fs x.others ys x.rest k)
  where
    by : {js : List Item} (es : List Entry) → Each (Enters e K) (item g.tag g.contents ∷ js) es → ((ys : List Entry) → Each (Enters e K) js ys → row_fields fs ≡ rows_of ys) → row_fields (g ▸ fs) ≡ rows_of es
    by [] h k = elim h [ ]
    by (row r ∷ es) (Each.cons q h) k = ap (λ (b : Bool). cond b (row_fields fs) (suc (row_fields fs))) (claim-field e K (item g.tag g.contents) (row r) q) ∙ ap suc (k es h)
    by (claim t t_A ∷ es) (Each.cons q h) k = ap (λ (b : Bool). cond b (row_fields fs) (suc (row_fields fs))) (claim-field e K (item g.tag g.contents) (claim t t_A) q) ∙ k es h

-- ---- lengths
field-length : (e : Edition) (K : ℕ) (f : ℕ → ℕ) (i : Item) (y : Entry) → Enters e K i y → (is : List Item) → length (file_of (renumber_item e f i ∷ is)) ≡ 3 + length i.contents + length (file_of is)
unfolding file_of
field-length e K f i y h is =
    let j = renumber_item e f i in
    let same : length j.contents ≡ length i.contents = ap (λ (o : Option EntryTag). length (renumbered e.line_width e.line_width f (line_count o) i.contents)) h.tag ∙ length-put e K f h.tagged i.contents h.size ∙ sym h.size in
    length-append (field_bytes j.tag j.contents) (file_of is) ∙ ap (λ (n : ℕ). n + length (file_of is)) (length-field_bytes j.tag j.contents ∙ ap (λ (n : ℕ). 3 + n) same)

none-length : length (file_of []) ≡ 0
unfolding file_of
none-length = refl

-- one field more, which stays or goes
pub one_more : (e : Edition) (K : ℕ) (f : ℕ → ℕ) (i : Item) (y : Entry) → Enters e K i y → (b : Bool) (ds : List Retention) (is : List Item) (n : ℕ) → n ≡ length (file_of (remaining (renumber_item e) ds is))
    → cond b (3 + length i.contents) 0 + n ≡ length (file_of (remaining (renumber_item e) (retention b f ∷ ds) (i ∷ is)))
one_more e K f i y h true ds is n q = ap (λ (m : ℕ). 3 + length i.contents + m) q ∙ sym (field-length e K f i y h (remaining (renumber_item e) ds is))
one_more e K f i y h false ds is n q = (let z : 0 + n ≡ n = omega arith in z) ∙ q

-- ---- all fields; the report is that of the entries, and anything behind it
module _ (e : Edition) (K : ℕ) (zs : List ℕ) where
  abbrev pub Counts : Fields → List Item → List Entry → Type 0
  Counts fs is es = (n : ℕ) (opened : List ℕ) (b : Bool) (f : ℕ → ℕ) (l m : ℕ) (starts : List Start)
      → bytes_from fs ((backward es n opened).reported ++ zs) b ≡ length (file_of (remaining (renumber_item e) (retentions es ((backward es n opened).reported ++ zs) b f l m starts) is))

  claim-case : (g : Field) (fs : Fields) (is : List Item) (y : Entry) (es : List Entry) → Enters e K (item g.tag g.contents) y → claims y ≡ true → Counts fs is es → Counts (g ▸ fs) (item g.tag g.contents ∷ is) (y ∷ es)
  claim-case g fs is (claim t t_A) es h c k n opened b f l m starts =
      ap (λ (x : Bool). cond x (cond b (3 + length g.contents) 0 + bytes_from fs ((backward es n opened).reported ++ zs) b) (cond (is_kept (top 0 ((backward es n opened).reported ++ zs))) (3 + length g.contents) 0 + bytes_from fs (pop ((backward es n opened).reported ++ zs)) (is_kept (top 0 ((backward es n opened).reported ++ zs)))))
      (claim-field e K (item g.tag g.contents) (claim t t_A) h)
      ∙ one_more e K f (item g.tag g.contents) (claim t t_A) h b (retentions es ((backward es n opened).reported ++ zs) b f l m starts) is _ (k n opened b f l m starts)
  claim-case g fs is (row r) es h c k n opened b f l m starts = absurd (let z : ◌≡◌ {A = ℕ} 0 1 = cc in omega arith)

  -- a row, with the report on it in front
  row-bytes : (g : Field) (fs : Fields) (r : Row) → Enters e K (item g.tag g.contents) (row r) → (q : ℕ) (reported : List ℕ) (b : Bool)
      → bytes_from (g ▸ fs) (q ∷ reported) b ≡ cond (is_kept q) (3 + length g.contents) 0 + bytes_from fs reported (is_kept q)
  row-bytes g fs r h q reported b =
      ap (λ (x : Bool). cond x (cond b (3 + length g.contents) 0 + bytes_from fs (q ∷ reported) b) (cond (is_kept q) (3 + length g.contents) 0 + bytes_from fs reported (is_kept q))) (claim-field e K (item g.tag g.contents) (row r) h)

  row-case : (g : Field) (fs : Fields) (is : List Item) (r : Row) (es : List Entry) → Enters e K (item g.tag g.contents) (row r) → Counts fs is es → Counts (g ▸ fs) (item g.tag g.contents ∷ is) (row r ∷ es)
  row-case g fs is (Derive s) es h k n opened b f l m starts =
      let q = mark_of ((backward es (suc n) opened).marks n) in
      let reported = (backward es (suc n) opened).reported ++ zs in
      row-bytes g fs (Derive s) h q reported b
      ∙ one_more e K f (item g.tag g.contents) (row (Derive s)) h (is_kept q) (retentions es reported (is_kept q) (renew f l m) (suc l) (kept_lines (is_kept q) m) starts) is _ (k (suc n) opened (is_kept q) (renew f l m) (suc l) (kept_lines (is_kept q) m) starts)
  row-case g fs is (Strengthen i) es h k n opened b f l m starts =
      let reported = (backward es (suc n) (pushed 2 (suc n) opened)).reported ++ zs in
      let more = pushed 2 (branch_start (suc l) (suc m)) starts in
      row-bytes g fs (Strengthen i) h 2 reported b
      ∙ one_more e K f (item g.tag g.contents) (row (Strengthen i)) h true (retentions es reported true (renew f l m) (suc l) (suc m) more) is _ (k (suc n) (pushed 2 (suc n) opened) true (renew f l m) (suc l) (suc m) more)
  row-case g fs is (Round i u c) es h k n opened b f l m starts =
      let reported = (backward es (suc n) (pushed c (suc n) opened)).reported ++ zs in
      let more = pushed c (branch_start (suc l) (suc m)) starts in
      row-bytes g fs (Round i u c) h 2 reported b
      ∙ one_more e K f (item g.tag g.contents) (row (Round i u c)) h true (retentions es reported true (renew f l m) (suc l) (suc m) more) is _ (k (suc n) (pushed c (suc n) opened) true (renew f l m) (suc l) (suc m) more)
  row-case g fs is (Split i) es h k n opened b f l m starts =
      let reported = (backward es (suc n) (pushed 1 (suc n) opened)).reported ++ zs in
      let more = pushed 1 (branch_start (suc l) (suc m)) starts in
      row-bytes g fs (Split i) h 2 reported b
      ∙ one_more e K f (item g.tag g.contents) (row (Split i)) h true (retentions es reported true (renew f l m) (suc l) (suc m) more) is _ (k (suc n) (pushed 1 (suc n) opened) true (renew f l m) (suc l) (suc m) more)
  row-case g fs is (CloseNumber i) es h k n opened b f l m starts =
      let reported = (backward es (top 0 opened) (pop opened)).reported ++ zs in
      row-bytes g fs (CloseNumber i) h 2 reported b
      ∙ one_more e K f (item g.tag g.contents) (row (CloseNumber i)) h true (retentions es reported true f (top no_start starts).lines (top no_start starts).kept (pop starts)) is _ (k (top 0 opened) (pop opened) true f (top no_start starts).lines (top no_start starts).kept (pop starts))
  row-case g fs is (CloseStride i u) es h k n opened b f l m starts =
      let reported = (backward es (top 0 opened) (pop opened)).reported ++ zs in
      row-bytes g fs (CloseStride i u) h 2 reported b
      ∙ one_more e K f (item g.tag g.contents) (row (CloseStride i u)) h true (retentions es reported true f (top no_start starts).lines (top no_start starts).kept (pop starts)) is _ (k (top 0 opened) (pop opened) true f (top no_start starts).lines (top no_start starts).kept (pop starts))

  entry_case : (g : Field) (fs : Fields) (is : List Item) (y : Entry) (es : List Entry) → Enters e K (item g.tag g.contents) y → Counts fs is es → Counts (g ▸ fs) (item g.tag g.contents ∷ is) (y ∷ es)
  entry_case g fs is (row r) es h k = row-case g fs is r es h k
  entry_case g fs is (claim t t_A) es h k = claim-case g fs is (claim t t_A) es h refl k

  head-case : (g : Field) (fs : Fields) (is : List Item) (es : List Entry) → Each (Enters e K) (item g.tag g.contents ∷ is) es → ((es : List Entry) → Each (Enters e K) is es → Counts fs is es)
      → Counts (g ▸ fs) (item g.tag g.contents ∷ is) es
  head-case g fs is [] h k = elim h [ ]
  head-case g fs is (y ∷ es) (Each.cons r h) k = entry_case g fs is y es r (k es h)

  none-case : (fs : Fields) (is : List Item) (es : List Entry) → is ≡ [] → ((reported : List ℕ) (b : Bool) → bytes_from fs reported b ≡ 0) → Each (Enters e K) is es → Counts fs is es
  none-case fs [] [] q z h n opened b f l m starts = z ((backward [] n opened).reported ++ zs) b ∙ sym none-length
  none-case fs [] (y ∷ es) q z h n opened b f l m starts = elim h [ ]
  none-case fs (i ∷ is) [] q z h n opened b f l m starts = elim h [ ]
  none-case fs (i ∷ is) (y ∷ es) q z h n opened b f l m starts = absurd (let x : suc (length is) ≡ 0 = ap length q in omega (arith, x))

  -- the bytes that are counted are those of the fields that are left
  pub counts : (fs : Fields) (is : List Item) (es : List Entry) → items fs ≡ some is → Each (Enters e K) is es → Counts fs is es
  counts (ends at) is es a h = none-case (ends at) is es (ended at is a) (λ reported b. refl) h
  counts (cut at) is es a h = absurd (never-cut at is a)
  counts (g ▸ fs) is es a h =
      let x = onward g fs is a in
      subst (λ (js : List Item). Counts (g ▸ fs) js es) (sym x.are)
      (head-case g fs x.others es (subst (λ (js : List Item). Each (Enters e K) js es) x.are h) (λ ys k. counts fs x.others ys x.rest k))
