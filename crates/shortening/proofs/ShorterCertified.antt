-- Shortening: what it gives where the files certify a formula; the shorter table is checked alike, and is its own shorter table. Assumes nothing.
use mathlib.Core.Path.{◌≡◌, refl, sym, ◌∙◌, ap, ap₂, subst}
use mathlib.Core.Option.{some}
use mathlib.Core.Bool.{Bool, true, false, cond}
use mathlib.Core.List.{List, [], ◌∷◌, ◌++◌, map}
use Prim.Native.Nat.{ℕ, ◌+◌, ◌^◌, ◌≤◌}
use native.Mathlib.Omega.{arith}
use lib.ListN.{length, length-append, length-map}
use lib.Dec.{eqb}
use Rattle.forms.specs.Edition.{edition, edition1}
use Rattle.forms.specs.Forms.{All, nil, Constraint, line_a, line_b, lines, Formula}
use Rattle.calculus.specs.Rules.{Entry, row_count}
use Rattle.answers.specs.Answers.{file_proof, Result, refused, accepted, ◌>>=◌, written}
use Rattle.answers.proofs.Results.{never, one_value, binds, bind-refused}
use Rattle.number_bytes.proofs.Signed.{all-weaken}
use Rattle.fields.specs.declared.FileKind.{FileKind}
use Rattle.fields.specs.Fields.{Item, item, fields, file_of}
use Rattle.fields.specs.Header.{agrees, header_bytes}
use Rattle.fields.proofs.HeaderLaid.{header_read}
use Rattle.bundle.specs.Bundle.{Bundle, bundles}
use Rattle.bundle.specs.Layout.{Each}
use Rattle.bundle.proofs.Laid.{bundles-accept}
use Rattle.formula.specs.Formula.{formula_file}
use Rattle.proof.specs.Check.{interpolant, check_by}
use Rattle.proof.specs.Layout.{Enters, ProofFile, Yields, Certifies}
use Rattle.proof.proofs.Agree.{agrees-refl, interpolant-yields, interpolant-iff, one_formula}
use Rattle.shortening.specs.Needed.{Reports, without_zeros, shortened}
use Rattle.shortening.specs.Passes.{report_on, retentions_on, remaining}
use Rattle.shortening.proofs.Computed.{shorten_table}
use Rattle.shortening.specs.Shorten.{renumber_item, Shorter, shorter, shortening}
use Rattle.shortening.specs.Promised.{TableFiled}
use Rattle.shortening.proofs.Renumbering.{Below, below_more, left-enters, entries-of}
use Rattle.shortening.proofs.Filed.{entries_below, lines_fit, table-items, listed-items, file-length, left-length, table-length, table-list}
use Rattle.shortening.proofs.Unchanged.{left-unchanged, same_left}
use Rattle.shortening.proofs.OneArray.{shortens}
use Rattle.shortening.proofs.Shorter.{shorten-proves, shorten-twice, shorten-report}
use Rattle.shortening.proofs.Reports.{report-iff, reports-rows}

length-lines : (a b : List Constraint) → length (lines a b) ≡ length a + length b
length-lines a b = length-append (map line_a a) (map line_b b) ∙ ap₂ (λ (m n : ℕ). m + n) (length-map a line_a) (length-map b line_b)

least : (n : ℕ) → 64 ≤ (edition n).lines
least n = by (eqb n 1)
  where
    by : (b : Bool) → 64 ≤ cond b 128 1_000
    by true = omega arith
    by false = omega arith

module _ {newest : ℕ} {A B P : List ℕ} {K : ℕ} {I : Formula} (y : Yields newest A B P K I) where
  -- the constraints, the proof's edition, its fields behind the header, and what is left of them
  abbrev pub many : ℕ
  many = length (lines y.a y.b)

  abbrev kept : List Item
  kept = remaining (renumber_item (edition y.edition_proof)) (retentions_on many y.es) y.file_proof.body

  abbrev pub table_of : List ℕ
  table_of = header_bytes y.edition_proof K ++ file_of kept

  few-lines : many ≤ (edition y.edition_proof).lines
  few-lines = omega (arith, length-lines y.a y.b, y.file_a.few, y.file_b.few, least y.edition_proof)

  below : All (Below (256 ^ (edition y.edition_proof).line_width)) (shorten_table many y.es)
  below =
      let p = shorten-proves y.proves in
      all-weaken (λ x h. below_more (lines_fit y.edition_proof) x h) (subst (All (Below (edition y.edition_proof).lines)) p.are (entries_below p.proof few-lines [] nil))

  enters : Each (Enters (edition y.edition_proof) K) kept (shorten_table many y.es)
  enters = left-enters (edition y.edition_proof) K (retentions_on many y.es) y.file_proof.body y.es y.file_proof.enters below

  shorter-file : length table_of ≤ length P
  shorter-file =
      let n = y.edition_proof in
      let b = y.file_proof.body in
      omega (
        arith,
        file-length P (item 0x01 (n ∷ []) ∷ item 0x02 (K ∷ []) ∷ b) y.file_proof.whole,
        table-length n K b,
        length-append (header_bytes n K) (file_of b),
        length-append (header_bytes n K) (file_of kept),
        left-length (edition n) K (retentions_on many y.es) y.file_proof.enters,
      )

  -- the shorter table is a proof's file of the same edition, with the entries that are left
  pub table-file : ProofFile newest table_of y.edition_proof K (shorten_table many y.es)
  table-file = record {
    first = y.file_proof.first;
    last = y.file_proof.last;
    short = omega (arith, shorter-file, y.file_proof.short);
    body = kept;
    whole = table-items y.edition_proof K y.file_proof.high enters;
    low = y.file_proof.low;
    high = y.file_proof.high;
    enters = enters;
  }

  -- and derives the same formula
  pub table-yields : Yields newest A B table_of K I
  table-yields = record {
    edition_a = y.edition_a;
    edition_b = y.edition_b;
    edition_proof = y.edition_proof;
    a = y.a;
    b = y.b;
    es = shorten_table many y.es;
    file_a = y.file_a;
    file_b = y.file_b;
    file_proof = table-file;
    proves = shorten-proves y.proves;
  }

  pub same-interpolant : interpolant newest A B table_of ≡ interpolant newest A B P
  same-interpolant = interpolant-yields newest A B table_of K I table-yields ∙ sym (interpolant-yields newest A B P K I y)

  filed : TableFiled newest P table_of y.edition_proof K (shorten_table many y.es)
  unfolding table-file
  filed = record { file = table-file; no_notes = table-list y.edition_proof K kept; short = shorter-file }

  -- ---- what shortening gives
  abbrev pub shorter_of : Shorter
  shorter_of = record { report = report_on many y.es; table = table_of }

  pub shorter-is : shorter y.edition_proof K many y.file_proof.body ≡ shorter_of
  unfolding shorter
  shorter-is = ap (λ (es : List Entry). let s : Shorter = record { report = report_on many es; table = header_bytes y.edition_proof K ++ file_of (remaining (renumber_item (edition y.edition_proof)) (retentions_on many es) y.file_proof.body) } in s)
      (entries-of (edition y.edition_proof) K y.file_proof.enters)

  abbrev of_a : Bundle
  of_a = record { edition = y.edition_a; K = K; constraints = y.a }

  abbrev of_b : Bundle
  of_b = record { edition = y.edition_b; K = K; constraints = y.b }

  bundles-read : bundles newest A B ≡ accepted (of_a, of_b)
  unfolding agrees
  bundles-read = bundles-accept newest A B of_a of_b (record { laid_a = record { file = y.file_a; agree = tt }; laid_b = record { file = y.file_b; agree = agrees-refl K } })

  pub shortening-is : interpolant newest A B P ≡ accepted (K, I) → shortening newest A B P ≡ accepted shorter_of
  unfolding shortening
  shortening-is h =
      let f = y.file_proof in
      let r = header_read FileKind.Proof file_proof newest (some K) (fields P) y.edition_proof K f.body f.whole f.first f.last f.low f.high (agrees-refl K) in
      binds _ h ∙ binds _ bundles-read ∙ binds _ r.reads
      ∙ ap (λ (is : List Item). accepted (shorter y.edition_proof K many is)) (listed-items r.after f.body r.rest) ∙ ap accepted shorter-is

-- ---- shortening again
module _ {newest : ℕ} {A B P : List ℕ} {K : ℕ} {I : Formula} (y : Yields newest A B P K I) where
  same-table : table_of (table-yields y) ≡ table_of y
  unfolding table-yields table-file
  same-table =
      let e = edition y.edition_proof in
      ap (λ (is : List Item). header_bytes y.edition_proof K ++ file_of is)
      (same_left e (retentions_on (many y) (shorten_table (many y) y.es)) (kept y) (shorten_table (many y) y.es)
      (left-unchanged e K (retentions_on (many y) y.es) y.file_proof.body y.es y.file_proof.enters (below y)) (shorten-twice y.proves))

  same-again : shorter_of (table-yields y) ≡ record { report = without_zeros (shorter_of y).report; table = (shorter_of y).table }
  unfolding table-yields
  same-again = ap₂ (λ (ns bs : List ℕ). let s : Shorter = record { report = ns; table = bs } in s) (shorten-report y.proves) same-table

-- ---- of what is accepted
module _ (newest : ℕ) (A B P : List ℕ) where
  pub record Given (s : Shorter) : Type 0 where
    pub K : ℕ
    pub I : Formula
    pub certified : Certifies newest A B P K I
    pub is : s ≡ shorter_of certified.yields

  -- where the files certify a formula, and nowhere else
  pub given : (s : Shorter) → shortening newest A B P ≡ accepted s → Given s
  unfolding shortening
  given s h = go (interpolant newest A B P) refl
    where
      go : (r : Result (ℕ × Formula)) → interpolant newest A B P ≡ r → Given s
      go (refused a) e = absurd (never (sym (bind-refused _ e) ∙ h))
      go (accepted KI) e =
          let c = (interpolant-iff newest A B P KI.0 KI.1).0 e in
          record { K = KI.0; I = KI.1; certified = c; is = one_value h (shortening-is c.yields e) }

  module _ (s : Shorter) (h : shortening newest A B P ≡ accepted s) where
    -- whatever derivation the proof has
    shorter-of : {K : ℕ} {I : Formula} (y : Yields newest A B P K I) → s ≡ shorter_of y
    shorter-of {K} {I} y =
        let g = given s h in
        let (p, q) = one_formula g.certified.yields y in
        one_value h (shortening-is y ((interpolant-iff newest A B P g.K g.I).1 g.certified ∙ ap₂ (λ (k : ℕ) (J : Formula). accepted (k, J)) p q))

    -- the shorter table is checked as the proof is, whatever output is lent
    pub checked_alike : (output : List ℕ) → check_by newest A B s.table output ≡ check_by newest A B P output
    unfolding check_by
    checked_alike output =
        let g = given s h in
        ap (λ (r : Result (ℕ × Formula)). written (r >>= λ (K, I). accepted (formula_file edition1 K I)) output)
        (ap (λ (t : Shorter). interpolant newest A B t.table) g.is ∙ same-interpolant g.certified.yields)

    -- shortening it again gives the same table, and the report without its 0s
    pub shortened-again : shortening newest A B s.table ≡ accepted (record { report = without_zeros s.report; table = s.table })
    shortened-again =
        let g = given s h in
        let y = g.certified.yields in
        ap (λ (t : Shorter). shortening newest A B t.table) g.is
        ∙ shortening-is (table-yields y) (same-interpolant y ∙ (interpolant-iff newest A B P g.K g.I).1 g.certified)
        ∙ ap accepted (same-again y)
        ∙ sym (ap (λ (t : Shorter). accepted (let u : Shorter = record { report = without_zeros t.report; table = t.table } in u)) g.is)

    -- the report says of each row whether it is needed
    pub report-tells : {K : ℕ} {I : Formula} (y : Yields newest A B P K I) → Reports y.proves.proof [] s.report
    report-tells y = (report-iff y.proves.proof s.report).0 (ap (report_on (many y)) y.proves.are ∙ sym (ap (λ (t : Shorter). t.report) (shorter-of y)))

    pub report-rows : {K : ℕ} {I : Formula} (y : Yields newest A B P K I) → length s.report ≡ row_count y.proves.proof
    report-rows y = ap (λ (t : Shorter). length t.report) (shorter-of y) ∙ sym (ap (λ (es : List Entry). length (report_on (many y) es)) y.proves.are) ∙ reports-rows y.proves.proof

    -- the table is a proof's file of the proof's own edition, without notes, whose entries are those of the derivation without the rows that are not needed
    pub table-filed : {K : ℕ} {I : Formula} (y : Yields newest A B P K I) → TableFiled newest P s.table y.edition_proof K (shortened y.proves.proof (λ j. j) (many y) [])
    table-filed {K} y =
        let es : shorten_table (many y) y.es ≡ shortened y.proves.proof (λ j. j) (many y) [] = sym (ap (shorten_table (many y)) y.proves.are) ∙ shortens y.proves.proof in
        subst (λ (es : List Entry). TableFiled newest P s.table y.edition_proof K es) es
        (subst (λ (t : Shorter). TableFiled newest P t.table y.edition_proof K (shorten_table (many y) y.es)) (sym (shorter-of y)) (filed y))
