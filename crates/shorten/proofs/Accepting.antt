-- Laws of the whole operation: what the check tells of a proof, what is read again of one that is accepted, and how many rows it has. Assumes nothing.
use mathlib.Core.Path.{◌≡◌, refl, sym, ◌∙◌, ap, subst}
use mathlib.Core.Option.{Option, none, some}
use mathlib.Core.Bool.{Bool, true, false, cond}
use mathlib.Core.List.{List, [], ◌∷◌, map}
use Prim.Native.Nat.{ℕ, ◌+◌, ◌*◌, ◌≤◌, ◌<◌}
use native.Mathlib.Omega.{arith}
use lib.Dec.{eqb, leb}
use lib.ListN.{length, length-append, length-map}
use borrow.Author.Tests.{lt-leb}
use Rattle.forms.specs.Edition.{edition, edition1, newest_edition}
use Rattle.forms.specs.Forms.{Formula, line_a, line_b, lines}
use Rattle.calculus.specs.Rules.{Entry, row, claim}
use Rattle.std.specs.Prelude.{Ok, Err}
use Rattle.std.specs.declared.result.Result as code
use Rattle.answers.specs.declared.refusals.Fault.{Fault}
use Rattle.answers.specs.declared.Answer.{Answer}
use Rattle.answers.specs.declared.WriteResult.{WriteResult}
use Rattle.answers.specs.Answers.{file_a, file_b, file_proof, Result, refused, accepted, fit, written, Written}
use Rattle.answers.proofs.Results.{never, one_value, binds, bind-refused}
use Rattle.fields.specs.declared.FileKind.{FileKind}
use Rattle.fields.specs.declared.header.Headed.{Headed}
use Rattle.fields.specs.Fields.{Item, item, fields, items, file_of}
use Rattle.fields.specs.Header.{Header, agrees, header, header_bytes}
use Rattle.fields.specs.Places.{fields_at, IsHeader}
use Rattle.fields.proofs.Headers.{given-some, length-header_bytes}
use Rattle.fields.proofs.HeaderLaid.{header_read}
use Rattle.bundle.specs.Bundle.{Bundle, bundle, bundles}
use Rattle.bundle.specs.Layout.{Each}
use Rattle.bundle.proofs.Laid.{bundle-accepts}
use Rattle.bundle_scan.specs.Scan.{Scans}
use Rattle.bundle_scan.specs.declared.Body.{Body}
use Rattle.bundle_scan.specs.declared.Scanned.{Scanned}
use Rattle.bundle_scan.proofs.Bodies as bodies
use Rattle.formula.specs.Formula.{encode, formula_file}
use Rattle.proof.specs.Entries.{EntryTag, combine_tag, reduce_tag, scale_tag, strengthen_tag, number_tag, stride_tag, round_tag, split_tag, claim_tag, size_of}
use Rattle.proof.specs.Layout.{Enters, Yields}
use Rattle.proof.specs.Check.{interpolant, check_by, check}
use Rattle.proof.proofs.Agree.{agrees-refl, interpolant-iff, never-21}
use Rattle.proof.specs.Promises.{Checks}
use Rattle.shortening.specs.Passes.{report_on}
use Rattle.shortening.specs.Shorten as definition
use Rattle.shortening.specs.Shorten.{list_of, shorter, shortening, written_both, shorten}
use Rattle.shortening.proofs.Filed.{file-length, more_bytes}
use Rattle.shortening.proofs.Reports.{reports-rows}
use Rattle.bundle_load.specs.Both.{stated_in, Both}
use Rattle.bundle_load.specs.Begun.{WithinLimits, Begun}
use Rattle.bundle_load.proofs.Phases.{long_A, long_B, long-P, unscanned-A, unscanned-B, scanned-both, unheaded, begun}
use Rattle.shortening_marks.specs.Gathered.{rows_of, Stating}
use Rattle.shortening_marks.proofs.Gathering.{report-length}
use Rattle.shortening.specs.declared.ShortenResult.{ShortenResult}
use Rattle.shortening.specs.Promises.{shortened_of, Shortens}
use Rattle.shortening_table.specs.Arrays.{Stated, ShortensFields}
use Rattle.shorten.specs.Phases.{Accepted}

-- ---- what the check tells, with an output of one byte: a formula's file has eight at least
formula-long : (K : ℕ) (I : Formula) → 8 ≤ length (formula_file edition1 K I)
unfolding formula_file
formula-long K I = omega (arith, length-append (header_bytes 1 K) (encode edition1 I), length-header_bytes 1 K)

fit-21 : (output bytes : List ℕ) (b : Bool) → b ≡ false → (fit output b bytes).answer.number ≡ 21
unfolding fit
fit-21 output bytes b e = rw e

refused_as : (report table : List ℕ) (a : Answer) → written_both report table (refused a) ≡ record { answer = a; rows = 0; count = 0; report = report; table = table }
unfolding written_both
refused_as report table a = refl

module _ {A B P output left : List ℕ} {r : WriteResult} (c : Checks A B P output left r) (l : length output ≡ 1) where
  checked_refused : {a : Answer} → interpolant newest_edition A B P ≡ refused a → r.answer ≡ a
  unfolding check check_by written
  checked_refused e = ap (λ (w : Written). w.answer) c.is ∙ ap (λ (x : Result (List ℕ)). (written x output).answer) (bind-refused _ e)

  checked-21 : {K : ℕ} {I : Formula} → interpolant newest_edition A B P ≡ accepted (K, I) → r.answer.number ≡ 21
  unfolding check check_by written
  checked-21 {K} {I} e =
      ap (λ (w : Written). w.answer.number) c.is ∙ ap (λ (x : Result (List ℕ)). (written x output).answer.number) (binds _ e)
      ∙ fit-21 output (formula_file edition1 K I) (leb (length (formula_file edition1 K I)) (length output)) (lt-leb (length (formula_file edition1 K I)) (length output) (omega (arith, l, formula-long K I)))

  -- 21 comes from the output only
  pub is-accepted : r.answer.number ≡ 21 → Accepted A B P
  is-accepted h = go (interpolant newest_edition A B P) refl
    where
      go : (x : Result (ℕ × Formula)) → interpolant newest_edition A B P ≡ x → Accepted A B P
      go (refused a) e = absurd (never-21 newest_edition A B P a e (sym (ap (λ (y : Answer). y.number) (checked_refused e)) ∙ h))
      go (accepted KI) e = record { K = KI.0; I = KI.1; is = e }

  -- any other answer is the refusal
  pub is-refused : {report table : List ℕ} {x : Answer} {q : ShortenResult} → ¬ (r.answer.number ≡ 21) → x ≡ r.answer → q ≡ record { answer = x; rows = 0; count = 0 } → Shortens A B P report table report table q
  unfolding shorten shortening
  is-refused {report} {table} {x} {q} h d k = record { is = go (interpolant newest_edition A B P) refl }
    where
      go : (y : Result (ℕ × Formula)) → interpolant newest_edition A B P ≡ y → shortened_of q report table ≡ written_both report table (shortening newest_edition A B P)
      go (refused a) e =
          ap (λ (z : ShortenResult). shortened_of z report table) k
          ∙ ap (λ (z : Answer). let w : definition.Shortened = record { answer = z; rows = 0; count = 0; report = report; table = table } in w) (d ∙ checked_refused e)
          ∙ sym (ap (written_both report table) (bind-refused _ e) ∙ refused_as report table a)
      go (accepted KI) e = absurd (h (checked-21 e))

-- ---- what is read again of a proof that is accepted is not refused
module _ {A B P : List ℕ} (a : Accepted A B P) where
  short : WithinLimits A B P
  short =
      let no-A : ¬ (8192 < length A) = λ h. never (sym (long_A A B P h) ∙ a.is) in
      let short-A : length A ≤ 8192 = omega (arith, no-A) in
      let no-B : ¬ (8192 < length B) = λ h. never (sym (long_B A B P short-A h) ∙ a.is) in
      let short-B : length B ≤ 8192 = omega (arith, no-B) in
      let no-P : ¬ (65536 < length P) = λ h. never (sym (long-P A B P short-A short-B h) ∙ a.is) in
      record { a = short-A; b = short-B; p = omega (arith, no-P) }

  module _ {r : code.Result Scanned Fault} (s : Scans 0 A 0 r) where
    pub scans-A : {f : Fault} → r ≡ Err f → ⊥
    scans-A e = never (sym (unscanned-A s short e) ∙ a.is)

    module _ {x : Scanned} (e : r ≡ Ok x) {q : code.Result Scanned Fault} (t : Scans x.k B 0 q) where
      pub scans-B : {f : Fault} → q ≡ Err f → ⊥
      scans-B f = never (sym (unscanned-B s e t short f) ∙ a.is)

      module _ {y : Scanned} (f : q ≡ Ok y) {h : code.Result Headed Fault} (i : IsHeader FileKind.Proof 2 x.k P h) where
        both : Both A B x.body y.body x.k
        both = scanned-both s e t f

        pub reads-header : {d : Fault} → h ≡ Err d → ⊥
        reads-header g = never (sym (unheaded short both i g) ∙ a.is)

        pub has-begun : {z : Headed} → h ≡ Ok z → Begun A B x.body y.body P z.edition x.k z.next
        has-begun g = begun short both i g

        pub counts-fit : x.body.count + y.body.count ≤ 64
        counts-fit = omega (arith, both.a_few, both.b_few)

-- ---- a row has four bytes at least
width : (n : ℕ) → 1 ≤ (edition n).line_width
width n = by (eqb n 1)
  where
    by : (b : Bool) → 1 ≤ cond b 1 2
    by true = omega arith
    by false = omega arith

one_byte : (n K : ℕ) (x : EntryTag) → 1 ≤ size_of (edition n) K x
unfolding size_of
one_byte n K combine_tag = omega (arith, width n)
one_byte n K reduce_tag = omega (arith, width n)
one_byte n K scale_tag = omega (arith, width n)
one_byte n K strengthen_tag = omega (arith, width n)
one_byte n K number_tag = omega (arith, width n)
one_byte n K stride_tag = omega (arith, width n)
one_byte n K round_tag = omega (arith, width n)
one_byte n K split_tag = omega (arith, width n)
one_byte n K claim_tag = omega arith

row-bytes : (n K : ℕ) {is : List Item} {es : List Entry} → Each (Enters (edition n) K) is es → 4 * rows_of es ≤ length (file_of is)
row-bytes n K Each.nil = omega arith
row-bytes n K (Each.cons {x = i} {y = row r} {xs = is} {ys = es} q h) = omega (arith, q.size, one_byte n K q.tagged, more_bytes i is, row-bytes n K h)
row-bytes n K (Each.cons {x = i} {y = claim t t_A} {xs = is} {ys = es} q h) = omega (arith, more_bytes i is, row-bytes n K h)

-- ---- shortening by the fields behind the header
module _ {A B P : List ℕ} (a : Accepted A B P) {first second : Body} {e K at : ℕ} (g : Begun A B first second P e K at) where
  bundle_a : Bundle
  bundle_a = record { edition = first.edition; K = K; constraints = stated_in A K first }

  bundle_b : Bundle
  bundle_b = record { edition = second.edition; K = K; constraints = stated_in B K second }

  A-is : bundle newest_edition file_a none A ≡ accepted bundle_a
  unfolding bundle_a
  A-is = bodies.states g.both.a file_a

  B-is : bundle newest_edition file_b (some K) B ≡ accepted bundle_b
  unfolding bundle_b
  B-is = ap (λ (o : Option ℕ). bundle newest_edition file_b o B) (sym (given-some K g.both.low)) ∙ bodies.states g.both.b file_b

  both-are : bundles newest_edition A B ≡ accepted (bundle_a, bundle_b)
  unfolding bundles bundle_a
  both-are = binds _ A-is ∙ binds _ B-is

  count_is : length (lines (stated_in A K first) (stated_in B K second)) ≡ first.count + second.count
  count_is = omega (
    arith,
    length-append (map line_a (stated_in A K first)) (map line_b (stated_in B K second)),
    length-map (stated_in A K first) line_a,
    length-map (stated_in B K second) line_b,
    bodies.count_is g.both.a,
    bodies.count_is g.both.b,
  )

  shortening-is : shortening newest_edition A B P ≡ accepted (shorter e K (first.count + second.count) (list_of (fields_at P at)))
  unfolding shortening bundle_a bundle_b
  shortening-is =
      binds _ a.is ∙ binds _ both-are ∙ binds _ g.header_is
      ∙ ap (λ (m : ℕ). accepted (shorter e K m (list_of (fields_at P at)))) count_is

  pub fields-shortened : {report table report' table' : List ℕ} {r : ShortenResult} → ShortensFields e K (fields_at P at) (first.count + second.count) report table report' table' r
      → Shortens A B P report table report' table' r
  unfolding shorten
  fields-shortened {report} {table} s = record { is = s.is ∙ sym (ap (written_both report table) shortening-is) }

  -- ---- the entries that they state
  abbrev y : Yields newest_edition A B P a.K a.I
  y = ((interpolant-iff newest_edition A B P a.K a.I).0 a.is).yields

  same-K : a.K ≡ K
  unfolding agrees bundle_a
  same-K =
      let b : Bundle = record { edition = y.edition_a; K = a.K; constraints = y.a } in
      ap (λ (x : Bundle). x.K) (one_value (bundle-accepts newest_edition file_a none A b (record { file = y.file_a; agree = tt })) A-is)

  record Behind : Type 0 where
    number_is : y.edition_proof ≡ e
    rest-are : items (fields_at P at) ≡ some y.file_proof.body

  behind : Behind
  behind =
      let f = y.file_proof in
      let r = header_read FileKind.Proof file_proof newest_edition (some a.K) (fields P) y.edition_proof a.K f.body f.whole f.first f.last f.low f.high (agrees-refl a.K) in
      let h = subst (λ (k : ℕ). header FileKind.Proof file_proof newest_edition (some k) (fields P) ≡ accepted (record { number = e; K = k; rest = fields_at P at })) (sym same-K) g.header_is in
      let same = one_value r.reads h in
      record { number_is = ap (λ (x : Header). x.number) same; rest-are = sym (ap (λ (x : Header). items x.rest) same) ∙ r.rest }

  stating : Stating e K (fields_at P at) y.es
  stating =
      let f = y.file_proof in
      record {
        list = f.body;
        are = behind.rest-are;
        each = subst (λ (k : ℕ). Each (Enters (edition e) k) f.body y.es) same-K (subst (λ (n : ℕ). Each (Enters (edition n) a.K) f.body y.es) behind.number_is f.enters);
        few = g.both.high;
      }

  rows-kept_lines : rows_of y.es ≤ 1_024
  rows-kept_lines = omega (
    arith,
    y.proves.rows,
    reports-rows y.proves.proof,
    ap (λ (es : List Entry). length (report_on (length (lines y.a y.b)) es)) y.proves.are,
    report-length (length (lines y.a y.b)) y.es,
  )

  few-constraints : first.count + second.count ≤ 64
  few-constraints = omega (arith, g.both.a_few, g.both.b_few)

  pub stated-any : Stated e K (fields_at P at) (first.count + second.count) 1_024
  stated-any = record { es = y.es; stating = stating; few = rows-kept_lines; constraints = few-constraints }

  pub stated-few : length P ≤ 256 → Stated e K (fields_at P at) (first.count + second.count) 64
  stated-few h =
      let f = y.file_proof in
      let n = y.edition_proof in
      record {
        es = y.es;
        stating = stating;
        few = omega (
          arith,
          h,
          file-length P (item 0x01 (n ∷ []) ∷ item 0x02 (a.K ∷ []) ∷ f.body) f.whole,
          more_bytes (item 0x01 (n ∷ [])) (item 0x02 (a.K ∷ []) ∷ f.body),
          more_bytes (item 0x02 (a.K ∷ [])) f.body,
          row-bytes n a.K f.enters,
        );
        constraints = few-constraints;
      }
