-- Laws of the whole operation: the report, the table's bytes, 21, and both outputs. Assumes nothing.
use mathlib.Core.Path.{◌≡◌, refl, sym, ◌∙◌, ap, ap₂, subst}
use mathlib.Core.Logic.{◌⊎◌, inl, inr}
use mathlib.Core.Bool.{Bool, true, false, ◌&&◌}
use mathlib.Core.List.{List, [], ◌∷◌, ◌++◌}
use Prim.Native.Nat.{ℕ, zero, suc, ◌+◌, ◌≤◌, ◌<◌}
use native.Mathlib.Omega.{arith}
use lib.Dec.{leb}
use lib.ListN.{length, get_or, take, drop, length-append, replicate, length-replicate}
use lib.Seq.{sets, take_at}
use borrow.Author.Tests.{le-leb, lt-leb}
use Rattle.forms.specs.Edition.{edition}
use Rattle.calculus.specs.Rules.{Inference, Combine, Reduce, Scale, Derive, Strengthen, Round, Split, CloseNumber, CloseStride, Entry, row, claim}
use Rattle.answers.specs.declared.Answer.{Answer}
use Rattle.answers.specs.Answers.{answer, acceptance, file_lent, accepted, over}
use Rattle.answers.proofs.Over.{sets_over}
use Rattle.number_bytes.proofs.Stores.{sets-append}
use Rattle.fields.specs.Fields.{Fields, Item, file_of}
use Rattle.fields.specs.Header.{header_bytes}
use Rattle.fields.proofs.Headers.{length-header_bytes}
use Rattle.shortening.specs.Needed.{renew, kept_lines}
use Rattle.shortening.specs.Passes.{top, pop, pushed, backward, report_on, is_kept, Retention, stays, retention, Start, no_start, branch_start, retentions, retentions_on, remaining}
use Rattle.shortening.specs.Shorten as definition
use Rattle.shortening.specs.Shorten.{Shorter, list_of, renumber_item, shorter, fit_both, written_both}
use Rattle.shortening.proofs.Filed.{listed-items}
use Rattle.shortening_stack.specs.declared.Class.TheVariants.{Makes}
use Rattle.shortening_stack.specs.declared.stack.Step.{Step}
use Rattle.shortening_stack.specs.Stack.{no_step}
use Rattle.shortening_stack.specs.Outline.{outline_of}
use Rattle.shortening_marks.specs.declared.GatheredRow.{GatheredRow}
use Rattle.shortening_marks.specs.Marks.{no_row}
use Rattle.shortening_marks.specs.Gathered.{rows_of, Reportable, Reported, entries_in}
use Rattle.shortening_marks.proofs.Gathering.{report-length}
use Rattle.shortening_marks.proofs.Reported.{stated-entries}
use Rattle.shortening_table.specs.Table.{bytes_from, ReportCovers}
use Rattle.shortening_table.specs.Written.{table_from, Tells, TableWritable}
use Rattle.shortening_table.proofs.Bytes.{row_field, counts}
use Rattle.shortening.specs.declared.ShortenResult.{ShortenResult}
use Rattle.shortening.specs.Promises.{shortened_of}
use Rattle.shortening_table.specs.Arrays.{Stated, Deliverable, ArraysFit, ShortensFields}

-- ---- what becomes of the entries goes by the report alone, and not by what stands behind it
fates-front : (es : List Entry) (reported behind : List ℕ) (b : Bool) (f : ℕ → ℕ) (n m : ℕ) (opened : List Start) → rows_of es ≤ length reported
    → retentions es (reported ++ behind) b f n m opened ≡ retentions es reported b f n m opened
fates-front [] reported behind b f n m opened h = refl
fates-front (claim _ _ ∷ es) reported behind b f n m opened h = ap (λ (ds : List Retention). retention b f ∷ ds) (fates-front es reported behind b f n m opened h)
fates-front (row r ∷ es) [] behind b f n m opened h = absurd (omega (arith, h))
fates-front (row (Derive s) ∷ es) (q ∷ reported) behind b f n m opened h =
    ap (λ (ds : List Retention). retention (is_kept q) f ∷ ds) (fates-front es reported behind (is_kept q) (renew f n m) (suc n) (kept_lines (is_kept q) m) opened (omega (arith, h)))
fates-front (row (Strengthen i) ∷ es) (q ∷ reported) behind b f n m opened h =
    ap (λ (ds : List Retention). stays f ∷ ds) (fates-front es reported behind true (renew f n m) (suc n) (suc m) (pushed 2 (branch_start (suc n) (suc m)) opened) (omega (arith, h)))
fates-front (row (Round i g k) ∷ es) (q ∷ reported) behind b f n m opened h =
    ap (λ (ds : List Retention). stays f ∷ ds) (fates-front es reported behind true (renew f n m) (suc n) (suc m) (pushed k (branch_start (suc n) (suc m)) opened) (omega (arith, h)))
fates-front (row (Split i) ∷ es) (q ∷ reported) behind b f n m opened h =
    ap (λ (ds : List Retention). stays f ∷ ds) (fates-front es reported behind true (renew f n m) (suc n) (suc m) (pushed 1 (branch_start (suc n) (suc m)) opened) (omega (arith, h)))
fates-front (row (CloseNumber i) ∷ es) (q ∷ reported) behind b f n m opened h =
    ap (λ (ds : List Retention). stays f ∷ ds) (fates-front es reported behind true f (top no_start opened).lines (top no_start opened).kept (pop opened) (omega (arith, h)))
fates-front (row (CloseStride i g) ∷ es) (q ∷ reported) behind b f n m opened h =
    ap (λ (ds : List Retention). stays f ∷ ds) (fates-front es reported behind true f (top no_start opened).lines (top no_start opened).kept (pop opened) (omega (arith, h)))

-- the report says 0 only of rows that make a line
step-class : (s : Inference) → (outline_of (row (Derive s))).class ≡ Makes
step-class (Combine s t α β) = refl
step-class (Reduce s t α) = refl
step-class (Scale t α) = refl

report-tells : (es : List Entry) (n : ℕ) (opened behind : List ℕ) → Tells es ((backward es n opened).reported ++ behind)
report-tells [] n opened behind = tt
report-tells (claim _ _ ∷ es) n opened behind = report-tells es n opened behind
report-tells (row (Derive s) ∷ es) n opened behind = (λ _. step-class s, report-tells es (suc n) opened behind)
report-tells (row (Strengthen i) ∷ es) n opened behind = (λ h. absurd (omega (arith, h)), report-tells es (suc n) (pushed 2 (suc n) opened) behind)
report-tells (row (Round i g k) ∷ es) n opened behind = (λ h. absurd (omega (arith, h)), report-tells es (suc n) (pushed k (suc n) opened) behind)
report-tells (row (Split i) ∷ es) n opened behind = (λ h. absurd (omega (arith, h)), report-tells es (suc n) (pushed 1 (suc n) opened) behind)
report-tells (row (CloseNumber i) ∷ es) n opened behind = (λ h. absurd (omega (arith, h)), report-tells es (top 0 opened) (pop opened) behind)
report-tells (row (CloseStride i g) ∷ es) n opened behind = (λ h. absurd (omega (arith, h)), report-tells es (top 0 opened) (pop opened) behind)

-- ---- both outputs
fit_none : (report table : List ℕ) (s : Shorter) (b c : Bool) → (b ≡ false) ⊎ (c ≡ false)
    → fit_both report table (b && c) s ≡ record { answer = answer 21 file_lent (length s.table); rows = 0; count = 0; report = report; table = table }
unfolding fit_both
fit_none report table s false c h = refl
fit_none report table s true false h = refl
fit_none report table s true true (inl e) = absurd (let z : ◌≡◌ {A = ℕ} 1 0 = cc in omega arith)
fit_none report table s true true (inr e) = absurd (let z : ◌≡◌ {A = ℕ} 1 0 = cc in omega arith)

fit_all : (report table : List ℕ) (s : Shorter) (b c : Bool) → b ≡ true → c ≡ true
    → fit_both report table (b && c) s ≡ record { answer = acceptance; rows = length s.report; count = length s.table; report = over s.report report; table = over s.table table }
unfolding fit_both
fit_all report table s true true p q = refl
fit_all report table s false c p q = absurd (let z : ◌≡◌ {A = ℕ} 1 0 = cc in omega arith)
fit_all report table s true false p q = absurd (let z : ◌≡◌ {A = ℕ} 1 0 = cc in omega arith)

module _ {e K : ℕ} {fs : Fields} {n : ℕ} {reported : List ℕ} {rows : ℕ} {gones : List ℕ} {steps : List Step} (d : Deliverable e K fs n reported rows gones steps) where
  same_entries : entries_in e K fs ≡ d.es
  same_entries = stated-entries e K fs d.es d.stating

  abbrev short : Shorter
  short = record { report = report_on n d.es; table = header_bytes e K ++ table_from e K n fs reported }

  reported-length : length (report_on n d.es) ≡ rows_of d.es
  reported-length = report-length n d.es

  table_is : file_of (remaining (renumber_item (edition e)) (retentions_on n d.es) (list_of fs)) ≡ table_from e K n fs reported
  table_is =
      ap (λ (ds : List Retention). file_of (remaining (renumber_item (edition e)) ds (list_of fs)))
      (sym (fates-front d.es (report_on n d.es) d.behind true (λ j. j) n n [] (omega (arith, reported-length)))
      ∙ ap₂ (λ (es : List Entry) (ns : List ℕ). retentions es ns true (λ j. j) n n []) (sym same_entries) (sym d.reported_is))

  shorter-is : shorter e K n (list_of fs) ≡ short
  unfolding shorter
  shorter-is =
      ap (λ (es : List Entry). let s : Shorter = record { report = report_on n es; table = header_bytes e K ++ file_of (remaining (renumber_item (edition e)) (retentions_on n es) (list_of fs)) } in s) same_entries
      ∙ ap (λ (bs : List ℕ). let s : Shorter = record { report = report_on n d.es; table = header_bytes e K ++ bs } in s) table_is

  pub countable : ReportCovers fs reported
  countable = record { room = omega (arith, row_field (edition e) K fs d.stating.list d.es d.stating.are d.stating.each, ap length d.reported_is, length-append (report_on n d.es) d.behind, reported-length) }

  module _ {bytes : ℕ} (b : bytes ≡ bytes_from fs reported true) where
    bytes-are : bytes ≡ length (table_from e K n fs reported)
    bytes-are =
        b ∙ ap (λ (ns : List ℕ). bytes_from fs ns true) d.reported_is
        ∙ counts (edition e) K d.behind fs d.stating.list d.es d.stating.are d.stating.each n [] true (λ j. j) n n []
        ∙ ap₂ (λ (ds : List Retention) (is : List Item). length (file_of (remaining (renumber_item (edition e)) ds is)))
        (ap₂ (λ (es : List Entry) (ns : List ℕ). retentions es ns true (λ j. j) n n []) (sym same_entries) (sym d.reported_is)) (sym (listed-items fs d.stating.list d.stating.are))

    needed-is : 8 + bytes ≡ length short.table
    needed-is = omega (arith, bytes-are, length-append (header_bytes e K) (table_from e K n fs reported), length-header_bytes e K)

    rows_is : rows ≡ length short.report
    rows_is = d.rows_are ∙ sym reported-length

    module _ (report table : List ℕ) where
      -- the answer is by what is computed
      as-computed : {w : definition.Shortened} → w ≡ fit_both report table (leb (length short.report) (length report) && leb (length short.table) (length table)) short → w ≡ written_both report table (accepted (shorter e K n (list_of fs)))
      unfolding written_both
      as-computed h = h ∙ sym (ap (λ (s : Shorter). written_both report table (accepted s)) shorter-is)

      refused-21 : {x : Answer} {r : ShortenResult} → (length report < rows) ⊎ (length table < 8 + bytes) → x ≡ answer 21 4 (8 + bytes) → r ≡ record { answer = x; rows = 0; count = 0 } → ShortensFields e K fs n report table report table r
      refused-21 {x} {r} h p q = record {
        is = as-computed (
            ap (λ (y : ShortenResult). shortened_of y report table) q
            ∙ ap (λ (y : Answer). let w : definition.Shortened = record { answer = y; rows = 0; count = 0; report = report; table = table } in w) (p ∙ ap (answer 21 4) needed-is)
            ∙ sym (fit_none report table short (leb (length short.report) (length report)) (leb (length short.table) (length table)) (by h))
            );
      }
        where
          by : (length report < rows) ⊎ (length table < 8 + bytes) → (leb (length short.report) (length report) ≡ false) ⊎ (leb (length short.table) (length table) ≡ false)
          by (inl l) = inl (lt-leb (length short.report) (length report) (omega (arith, l, rows_is)))
          by (inr l) = inr (lt-leb (length short.table) (length table) (omega (arith, l, needed-is)))

      pub report-short : {x : Answer} {r : ShortenResult} → length report < rows → x ≡ answer 21 4 (8 + bytes) → r ≡ record { answer = x; rows = 0; count = 0 } → ShortensFields e K fs n report table report table r
      report-short l p q = refused-21 (inl l) p q

      pub table-short : {x : Answer} {r : ShortenResult} → length table < 8 + bytes → x ≡ answer 21 4 (8 + bytes) → r ≡ record { answer = x; rows = 0; count = 0 } → ShortensFields e K fs n report table report table r
      table-short l p q = refused-21 (inr l) p q

      module _ (h : rows ≤ length report) (k : 8 + bytes ≤ length table) where
        pub writable : {table₁ : List ℕ} → length table₁ ≡ length table → TableWritable e K fs n reported gones steps table₁ 8
        writable l = record {
          es = d.es;
          stating = d.stating;
          tells = subst (Tells d.es) (sym d.reported_is) (report-tells d.es n [] d.behind);
          report-room = omega (arith, ap length d.reported_is, length-append (report_on n d.es) d.behind, reported-length);
          gones_room = d.gones_room;
          steps_room = d.steps_room;
          few = d.few;
          clear = d.clear;
          room = omega (arith, k, bytes-are, l);
        }

        pub reported-there : (0 + rows ≤ length reported) × (0 + rows ≤ length report)
        reported-there = (omega (arith, ap length d.reported_is, length-append (report_on n d.es) d.behind, reported-length, d.rows_are), omega (arith, h))

        table-over : {table₁ table₂ : List ℕ} → table₁ ≡ sets table 0 (header_bytes e K) → table₂ ≡ sets table₁ 8 (table_from e K n fs reported) → table₂ ≡ over short.table table
        table-over p q =
            q ∙ ap₂ (λ (xs : List ℕ) (m : ℕ). sets xs m (table_from e K n fs reported)) p (let z : 8 ≡ 0 + length (header_bytes e K) = omega (arith, length-header_bytes e K) in z)
            ∙ sym (sets-append (header_bytes e K) (table_from e K n fs reported) table 0)
            ∙ sets_over short.table table (omega (arith, k, needed-is))

        report-over : {report₁ : List ℕ} → report₁ ≡ sets report 0 (take rows (drop 0 reported)) → report₁ ≡ over short.report report
        report-over {report₁} q =
            let front : take rows (drop 0 reported) ≡ report_on n d.es = ap (take rows) d.reported_is ∙ take_at (report_on n d.es) d.behind rows (sym rows_is) in
            q ∙ ap (sets report 0) front
            ∙ sets_over (report_on n d.es) report (omega (arith, h, rows_is))

        pub both-written : {table₁ table₂ report₁ : List ℕ} {x : Answer} {r : ShortenResult} → table₁ ≡ sets table 0 (header_bytes e K) → table₂ ≡ sets table₁ 8 (table_from e K n fs reported) → report₁ ≡ sets report 0 (take rows (drop 0 reported)) → x ≡ acceptance
            → r ≡ record { answer = x; rows = rows; count = 8 + bytes } → ShortensFields e K fs n report table report₁ table₂ r
        both-written {table₂ = table₂} {report₁ = report₁} p q s a l = record {
          is = as-computed (
              ap (λ (y : ShortenResult). shortened_of y report₁ table₂) l
              ∙ ap (λ (y : Answer). let w : definition.Shortened = record { answer = y; rows = rows; count = 8 + bytes; report = report₁; table = table₂ } in w) a
              ∙ ap₂ (λ (i j : ℕ). let w : definition.Shortened = record { answer = acceptance; rows = i; count = j; report = report₁; table = table₂ } in w) rows_is needed-is
              ∙ ap₂ (λ (xs ys : List ℕ). let w : definition.Shortened = record { answer = acceptance; rows = length short.report; count = length short.table; report = xs; table = ys } in w) (report-over s) (table-over p q)
              ∙ sym (fit_all report table short (leb (length short.report) (length report)) (leb (length short.table) (length table)) (le-leb (length short.report) (length report) (omega (arith, h, rows_is))) (le-leb (length short.table) (length table) (omega (arith, k, needed-is))))
              );
        }

-- ---- the report, and then both
module _ {e K : ℕ} {fs : Fields} {n : ℕ} {gathered : List GatheredRow} {steps : List Step} {marks gones reported : List ℕ} (d : ArraysFit e K fs n gathered steps marks gones reported) where
  pub reportable : Reportable e K fs n gathered steps marks reported
  reportable = record {
    gatherable = record {
      es = d.es;
      stating = d.stating;
      gathered_room = d.gathered_room;
      steps_room = d.steps_room;
      few = d.few;
    };
    marks_room = d.marks_room;
    report-room = d.reported_room;
    clear = d.marks_clear;
  }

  pub deliverable : {reported' : List ℕ} {steps' : List Step} {rows : ℕ} → Reported e K fs n reported reported' rows → length steps' ≡ length steps → Deliverable e K fs n reported' rows gones steps'
  unfolding over
  deliverable {reported'} {rows = rows} r a =
      let q = stated-entries e K fs d.es d.stating in
      let ns = report_on n d.es in
      record {
        es = d.es;
        stating = d.stating;
        behind = drop (length ns) reported;
        reported_is = r.is ∙ ap (λ (es : List Entry). sets reported 0 (report_on n es)) q ∙ sets_over ns reported (omega (arith, report-length n d.es, d.reported_room));
        rows_are = r.rows_are ∙ ap (λ (es : List Entry). length (report_on n es)) q ∙ report-length n d.es;
        gones_room = d.gones_room;
        steps_room = omega (arith, a, d.steps_room);
        few = d.few;
        clear = d.gones_clear;
      }

-- ---- cleared arrays for so many rows and lines
cleared : (n j : ℕ) → ◌≡◌ {A = ℕ} (get_or (replicate n 0) j 0) 0
cleared zero j = refl
cleared (suc n) zero = refl
cleared (suc n) (suc j) = cleared n j

pub shortenable : {e K : ℕ} {fs : Fields} {n : ℕ} (rows lines : ℕ) → rows ≤ 1_024 → 64 + rows < lines → Stated e K fs n rows
    → ArraysFit e K fs n (replicate rows no_row) (replicate rows no_step) (replicate lines 0) (replicate lines 0) (replicate rows 0)
shortenable rows lines m l d =
    record {
      es = d.es;
      stating = d.stating;
      gathered_room = omega (arith, d.few, length-replicate rows no_row);
      steps_room = omega (arith, d.few, length-replicate rows no_step);
      reported_room = omega (arith, d.few, length-replicate {A = ℕ} rows 0);
      marks_room = omega (arith, d.few, d.constraints, l, length-replicate {A = ℕ} lines 0);
      gones_room = omega (arith, d.few, d.constraints, l, length-replicate {A = ℕ} lines 0);
      few = omega (arith, d.few, d.constraints, m);
      marks_clear = λ j. cleared lines j;
      gones_clear = λ j. cleared lines j;
    }
