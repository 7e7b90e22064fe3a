-- What is promised of shortening holds of the definition. Assumes nothing.
use mathlib.Core.Path.{◌≡◌, refl, sym, ◌∙◌, ap, ap₂, subst}
use mathlib.Core.Logic.{◌⊎◌, inl, inr, ◌↔◌}
use mathlib.Core.Bool.{Bool, true, false, ◌&&◌}
use mathlib.Core.List.{List, []}
use Prim.Native.Nat.{ℕ, ◌≤◌, ◌<◌}
use native.Mathlib.Omega.{arith}
use lib.Dec.{T, leb, leb→le, le→leb}
use lib.ListN.{length, take, drop}
use lib.Seq.{take_at}
use borrow.Author.Tests.{lt-leb, leb-true, leb-false}
use Rattle.forms.specs.Edition.{edition1, newest_edition}
use Rattle.forms.specs.Forms.{Formula}
use Rattle.answers.specs.declared.Answer.{Answer}
use Rattle.answers.specs.Answers.{answer, acceptance, file_lent, Result, refused, accepted, over, fit, written}
use Rattle.answers.proofs.Results.{never, one_value, bind-refused, binds}
use Rattle.formula.specs.Formula.{formula_file}
use Rattle.proof.specs.Layout.{Certifies}
use Rattle.proof.specs.Check.{interpolant, check_by, check}
use Rattle.proof.proofs.Agree.{interpolant-iff, never-0, never-21, never_22}
use Rattle.shortening.specs.Needed.{without_zeros}
use Rattle.shortening.specs.Shorten.{Shorter, shortening, Shortened, fit_both, written_both, shorten}
use Rattle.shortening.specs.Promised.{ReportAndTable, shorter_by, Shortenable, ShortOutputs, BothWritten}
use Rattle.shortening.proofs.ShorterCertified.{shorter-is, shortening-is, given, checked_alike, shortened-again, report-tells, report-rows, table-filed}

-- ---- the laws of the definition; w is what one call leaves
-- Neither output was written.
pub record NeitherWritten (report table : List ℕ) (w : Shortened) : Type 0 where
  pub rows : w.rows ≡ 0
  pub count : w.count ≡ 0
  pub report_left : w.report ≡ report
  pub table_left : w.table ≡ table

pub record Shortening : Type 0 where
  -- a refusal leaves both outputs as they were
  pub refused : (A B proof report table : List ℕ) (w : Shortened) → w ≡ shorten A B proof report table → ¬ (w.answer.number ≡ 0) → NeitherWritten report table w
  -- what check refuses is refused alike: every refusal but 21, and with output enough every one
  pub as_check : (A B proof report table : List ℕ) (w : Shortened) → w ≡ shorten A B proof report table → (output : List ℕ)
      → ¬ ((check A B proof output).answer.number ≡ 0) → ¬ ((check A B proof output).answer.number ≡ 21) → w.answer ≡ (check A B proof output).answer
  pub as_check_enough : (A B proof report table : List ℕ) (w : Shortened) → w ≡ shorten A B proof report table → (output : List ℕ) → edition1.formula_bytes ≤ length output
      → ¬ ((check A B proof output).answer.number ≡ 0) → w.answer ≡ (check A B proof output).answer
  -- what is made of files that certify a formula
  pub makes : (A B proof : List ℕ) (K : ℕ) (I : Formula) (c : Certifies newest_edition A B proof K I) → ReportAndTable A B proof K I c (shorter_by c).report (shorter_by c).table
  pub accepted_iff : (A B proof report table : List ℕ) (w : Shortened) → w ≡ shorten A B proof report table → w.answer.number ≡ 0 ↔ Shortenable A B proof report table
  pub writes : (A B proof report table : List ℕ) (w : Shortened) → w ≡ shorten A B proof report table → (s : Shortenable A B proof report table)
      → BothWritten (shorter_by s.certified).report (shorter_by s.certified).table report table w
  pub only-21 : (A B proof report table : List ℕ) (w : Shortened) → w ≡ shorten A B proof report table → w.answer.number ≡ 21 → ShortOutputs A B proof report table
  pub always-21 : (A B proof report table : List ℕ) (w : Shortened) → w ≡ shorten A B proof report table → (s : ShortOutputs A B proof report table)
      → w.answer ≡ answer 21 file_lent (length (shorter_by s.certified).table)
  -- the shorter table is checked as the proof is, whatever output is lent
  pub checked_alike : (A B proof report table : List ℕ) (w : Shortened) → w ≡ shorten A B proof report table → w.answer.number ≡ 0
      → (output : List ℕ) → check A B (take w.count w.table) output ≡ check A B proof output
  -- shortening it again gives the same table, and the report without its 0s
  pub again : (A B proof report table : List ℕ) (w : Shortened) → w ≡ shorten A B proof report table → w.answer.number ≡ 0
      → (report₁ table₁ : List ℕ) (w₁ : Shortened) → w₁ ≡ shorten A B (take w.count w.table) report₁ table₁
      → length (without_zeros (take w.rows w.report)) ≤ length report₁ → w.count ≤ length table₁
      → BothWritten (without_zeros (take w.rows w.report)) (take w.count w.table) report₁ table₁ w₁

and-false : (b : Bool) → (b && false) ≡ false
and-false true = refl
and-false false = refl

same-refusal : {X : Type 0} {a b : Answer} → ◌≡◌ {A = Result X} (refused a) (refused b) → a ≡ b
same-refusal h = cc

true-false : true ≡ false → ⊥
true-false h = let z : ◌≡◌ {A = ℕ} 1 0 = cc in omega arith

-- ---- both outputs
module _ (report table : List ℕ) (s : Shorter) where
  fit-yes : (b c : Bool) → T b → T c → BothWritten s.report s.table report table (fit_both report table (b && c) s)
  unfolding fit_both
  fit-yes true true p q = record { answer = refl; rows = refl; count = refl; report_left = refl; table_left = refl }
  fit-yes true false p q = absurd q
  fit-yes false c p q = absurd p

  fits : (length s.report ≤ length report) × (length s.table ≤ length table) → BothWritten s.report s.table report table (written_both report table (accepted s))
  unfolding written_both
  fits (h, k) = fit-yes (leb (length s.report) (length report)) (leb (length s.table) (length table)) (le→leb _ _ h) (le→leb _ _ k)

  fit-no : (b c : Bool) → (b ≡ false) ⊎ (c ≡ false) → (fit_both report table (b && c) s).answer ≡ answer 21 file_lent (length s.table)
  unfolding fit_both
  fit-no b false h = rw (and-false b)
  fit-no false true h = refl
  fit-no true true (inl e) = absurd (true-false e)
  fit-no true true (inr e) = absurd (true-false e)

  too_short : (length report < length s.report) ⊎ (length table < length s.table) → (written_both report table (accepted s)).answer ≡ answer 21 file_lent (length s.table)
  unfolding written_both
  too_short (inl h) = fit-no (leb (length s.report) (length report)) (leb (length s.table) (length table)) (inl (lt-leb (length s.report) (length report) h))
  too_short (inr h) = fit-no (leb (length s.report) (length report)) (leb (length s.table) (length table)) (inr (lt-leb (length s.table) (length table) h))

  -- where the number is 0, both fit
  fit-0 : (b c : Bool) → (fit_both report table (b && c) s).answer.number ≡ 0 → T b × T c
  unfolding fit_both
  fit-0 true true h = (tt, tt)
  fit-0 true false h = absurd (omega (arith, h))
  fit-0 false c h = absurd (omega (arith, h))

  alone : (b : Bool) → ¬ ((fit_both report table b s).answer.number ≡ 0) → NeitherWritten report table (fit_both report table b s)
  unfolding fit_both
  alone true h = absurd (h refl)
  alone false h = record { rows = refl; count = refl; report_left = refl; table_left = refl }

-- ---- what is refused
left_alone : (report table : List ℕ) (r : Result Shorter) → ¬ ((written_both report table r).answer.number ≡ 0) → NeitherWritten report table (written_both report table r)
unfolding written_both
left_alone report table (refused a) h = record { rows = refl; count = refl; report_left = refl; table_left = refl }
left_alone report table (accepted s) h = alone report table s (leb (length s.report) (length report) && leb (length s.table) (length table)) h

refused-answer : (report table : List ℕ) (a : Answer) → (written_both report table (refused a)).answer ≡ a
unfolding written_both
refused-answer report table a = refl

written-0 : (bytes output : List ℕ) (b : Bool) → T b → (fit output b bytes).answer.number ≡ 0
unfolding fit
written-0 bytes output true t = refl
written-0 bytes output false t = absurd t

module _ (A B proof : List ℕ) where
  -- a refusal of check but the output's, and what comes else
  pub refused-is : (report table : List ℕ) {a : Answer} → interpolant newest_edition A B proof ≡ refused a → (shorten A B proof report table).answer ≡ a
  unfolding shorten shortening written_both
  refused-is report table e = ap (λ (r : Result Shorter). (written_both report table r).answer) (bind-refused _ e)

  pub check-refused : (output : List ℕ) {a : Answer} → interpolant newest_edition A B proof ≡ refused a → (check A B proof output).answer ≡ a
  unfolding check check_by written
  check-refused output e = ap (λ (r : Result (List ℕ)). (written r output).answer) (bind-refused _ e)

  written-or-21 : (bytes output : List ℕ) (b : Bool) → ((fit output b bytes).answer.number ≡ 0) ⊎ ((fit output b bytes).answer.number ≡ 21)
  unfolding fit
  written-or-21 bytes output true = inl refl
  written-or-21 bytes output false = inr refl

  check-or-21 : (output : List ℕ) (K : ℕ) (I : Formula) → interpolant newest_edition A B proof ≡ accepted (K, I)
      → ((check A B proof output).answer.number ≡ 0) ⊎ ((check A B proof output).answer.number ≡ 21)
  unfolding check check_by written
  check-or-21 output K I e =
      subst (λ (r : Result (List ℕ)). ((written r output).answer.number ≡ 0) ⊎ ((written r output).answer.number ≡ 21)) (sym (binds _ e)) (written-or-21 (formula_file edition1 K I) output (leb (length (formula_file edition1 K I)) (length output)))

  certified-0 : (output : List ℕ) → edition1.formula_bytes ≤ length output → (K : ℕ) (I : Formula) → interpolant newest_edition A B proof ≡ accepted (K, I) → (check A B proof output).answer.number ≡ 0
  unfolding check check_by written
  certified-0 output enough K I e =
      let c = (interpolant-iff newest_edition A B proof K I).0 e in
      ap (λ (r : Result (List ℕ)). (written r output).answer.number) (binds _ e)
      ∙ written-0 (formula_file edition1 K I) output (leb (length (formula_file edition1 K I)) (length output)) (le→leb (length (formula_file edition1 K I)) (length output) (omega (arith, c.short, enough)))

  alike : (report table output : List ℕ) → ¬ ((check A B proof output).answer.number ≡ 0) → ((K : ℕ) (I : Formula) → interpolant newest_edition A B proof ≡ accepted (K, I) → ⊥)
      → (shorten A B proof report table).answer ≡ (check A B proof output).answer
  alike report table output h never = go (interpolant newest_edition A B proof) refl
    where
      go : (r : Result (ℕ × Formula)) → interpolant newest_edition A B proof ≡ r → (shorten A B proof report table).answer ≡ (check A B proof output).answer
      go (refused a) e = refused-is report table e ∙ sym (check-refused output e)
      go (accepted KI) e = absurd (never KI.0 KI.1 e)

  alike-refused : (report table output : List ℕ) → ¬ ((check A B proof output).answer.number ≡ 0) → ¬ ((check A B proof output).answer.number ≡ 21) → (shorten A B proof report table).answer ≡ (check A B proof output).answer
  alike-refused report table output h k = alike report table output h (λ K I e. by (check-or-21 output K I e))
    where
      by : ((check A B proof output).answer.number ≡ 0) ⊎ ((check A B proof output).answer.number ≡ 21) → ⊥
      by (inl z) = h z
      by (inr z) = k z

-- ---- what is accepted
-- what shortening is refused for is what check is refused for
as-interpolant : (A B proof : List ℕ) (a : Answer) → shortening newest_edition A B proof ≡ refused a → interpolant newest_edition A B proof ≡ refused a
unfolding shortening
as-interpolant A B proof a e = go (interpolant newest_edition A B proof) refl
  where
    go : (r : Result (ℕ × Formula)) → interpolant newest_edition A B proof ≡ r → interpolant newest_edition A B proof ≡ refused a
    go (refused b) q = q ∙ ap refused (let p : b ≡ a = same-refusal (sym (bind-refused _ q) ∙ e) in p)
    go (accepted KI) q =
        let c = (interpolant-iff newest_edition A B proof KI.0 KI.1).0 q in
        absurd (never (sym e ∙ shortening-is c.yields q))

-- so neither 0 nor 22
pub shortening-not-0 : (A B proof : List ℕ) (a : Answer) → shortening newest_edition A B proof ≡ refused a → ¬ (a.number ≡ 0)
shortening-not-0 A B proof a e = never-0 newest_edition A B proof a (as-interpolant A B proof a e)

pub shortening-not-22 : (A B proof : List ℕ) (a : Answer) → shortening newest_edition A B proof ≡ refused a → ¬ (a.number ≡ 22)
shortening-not-22 A B proof a e = never_22 newest_edition A B proof a (as-interpolant A B proof a e)

refused-alone : (A B proof report table : List ℕ) (w : Shortened) → w ≡ shorten A B proof report table → ¬ (w.answer.number ≡ 0) → NeitherWritten report table w
unfolding shorten
refused-alone A B proof report table w e h =
    subst (NeitherWritten report table) (sym e) (left_alone report table (shortening newest_edition A B proof) (λ z. h (ap (λ (v : Shortened). v.answer.number) e ∙ z)))

check-same : (A B proof : List ℕ) (s : Shorter) → shortening newest_edition A B proof ≡ accepted s → (output : List ℕ) → check A B s.table output ≡ check A B proof output
unfolding check
check-same A B proof s h output = checked_alike newest_edition A B proof s h output

module _ (A B proof : List ℕ) where
  -- what a call leaves goes by what is computed
  shorten-as : (report table : List ℕ) {s : Shorter} → shortening newest_edition A B proof ≡ accepted s → shorten A B proof report table ≡ written_both report table (accepted s)
  unfolding shorten
  shorten-as report table e = rw e

  record Accepted (report table : List ℕ) : Type 0 where
    s : Shorter
    is : shortening newest_edition A B proof ≡ accepted s
    report_fits : length s.report ≤ length report
    table_fits : length s.table ≤ length table

  from-0 : (report table : List ℕ) (r : Result Shorter) → shortening newest_edition A B proof ≡ r → (written_both report table r).answer.number ≡ 0 → Accepted report table
  unfolding written_both
  from-0 report table (refused a) e h = absurd (shortening-not-0 A B proof a e h)
  from-0 report table (accepted s) e h =
      let (b, c) = fit-0 report table s (leb (length s.report) (length report)) (leb (length s.table) (length table)) h in
      record { s = s; is = e; report_fits = leb→le _ _ b; table_fits = leb→le _ _ c }

  accepted-0 : (report table : List ℕ) → (shorten A B proof report table).answer.number ≡ 0 → Accepted report table
  unfolding shorten
  accepted-0 report table h = from-0 report table (shortening newest_edition A B proof) refl h

front-over : (xs out : List ℕ) → take (length xs) (over xs out) ≡ xs
unfolding over
front-over xs out = take_at xs (drop (length xs) out) (length xs) refl

-- what was written is read off the outputs
record Front (A B proof report table : List ℕ) (w : Shortened) : Type 0 where
  s : Shorter
  is : shortening newest_edition A B proof ≡ accepted s
  report-is : take w.rows w.report ≡ s.report
  table_is : take w.count w.table ≡ s.table
  bytes-are : w.count ≡ length s.table

front : (A B proof report table : List ℕ) (w : Shortened) → w ≡ shorten A B proof report table → w.answer.number ≡ 0 → Front A B proof report table w
front A B proof report table w e h =
    let a = accepted-0 A B proof report table (sym (ap (λ (v : Shortened). v.answer.number) e) ∙ h) in
    let l = subst (BothWritten a.s.report a.s.table report table) (sym (e ∙ shorten-as A B proof report table a.is)) (fits report table a.s (a.report_fits, a.table_fits)) in
    record {
      s = a.s;
      is = a.is;
      report-is = ap₂ take l.rows l.report_left ∙ front-over a.s.report report;
      table_is = ap₂ take l.count l.table_left ∙ front-over a.s.table table;
      bytes-are = l.count;
    }

-- ---- what is made, and where it fits
module _ (A B proof report table : List ℕ) where
  module _ {K : ℕ} {I : Formula} (c : Certifies newest_edition A B proof K I) where
    accepts : shortening newest_edition A B proof ≡ accepted (shorter_by c)
    accepts = shortening-is c.yields ((interpolant-iff newest_edition A B proof K I).1 c) ∙ ap accepted (sym (shorter-is c.yields))

    made : ReportAndTable A B proof K I c (shorter_by c).report (shorter_by c).table
    made = record {
      tells = report-tells newest_edition A B proof (shorter_by c) accepts c.yields;
      rows = report-rows newest_edition A B proof (shorter_by c) accepts c.yields;
      filed = table-filed newest_edition A B proof (shorter_by c) accepts c.yields;
    }

    both : (length (shorter_by c).report ≤ length report) × (length (shorter_by c).table ≤ length table) → BothWritten (shorter_by c).report (shorter_by c).table report table (shorten A B proof report table)
    both h = subst (BothWritten (shorter_by c).report (shorter_by c).table report table) (sym (shorten-as A B proof report table accepts)) (fits report table (shorter_by c) h)

    short_21 : (length report < length (shorter_by c).report) ⊎ (length table < length (shorter_by c).table) → (shorten A B proof report table).answer ≡ answer 21 file_lent (length (shorter_by c).table)
    short_21 h = ap (λ (v : Shortened). v.answer) (shorten-as A B proof report table accepts) ∙ too_short report table (shorter_by c) h

  shortenable : (shorten A B proof report table).answer.number ≡ 0 → Shortenable A B proof report table
  shortenable h =
      let a = accepted-0 A B proof report table h in
      let g = given newest_edition A B proof a.s a.is in
      let q : a.s ≡ shorter_by g.certified = one_value a.is (accepts g.certified) in
      record {
        K = g.K;
        formula = g.I;
        certified = g.certified;
        report_fits = subst (λ (s : Shorter). length s.report ≤ length report) q a.report_fits;
        table_fits = subst (λ (s : Shorter). length s.table ≤ length table) q a.table_fits;
      }

  short-outputs : (shorten A B proof report table).answer.number ≡ 21 → ShortOutputs A B proof report table
  short-outputs h = go (interpolant newest_edition A B proof) refl
    where
      fitting : {K : ℕ} {I : Formula} (c : Certifies newest_edition A B proof K I) (b d : Bool) → leb (length (shorter_by c).report) (length report) ≡ b → leb (length (shorter_by c).table) (length table) ≡ d
          → (length report < length (shorter_by c).report) ⊎ (length table < length (shorter_by c).table)
      fitting c false d p q = inl (leb-false _ _ p)
      fitting c true false p q = inr (leb-false _ _ q)
      fitting c true true p q = absurd (let z : acceptance.number ≡ 21 = sym (ap (λ (x : Answer). x.number) (both c (leb-true _ _ p, leb-true _ _ q)).answer) ∙ h in omega (arith, z))

      go : (r : Result (ℕ × Formula)) → interpolant newest_edition A B proof ≡ r → ShortOutputs A B proof report table
      go (refused a) e = absurd (never-21 newest_edition A B proof a e (sym (ap (λ (x : Answer). x.number) (refused-is A B proof report table e)) ∙ h))
      go (accepted KI) e =
          let c = (interpolant-iff newest_edition A B proof KI.0 KI.1).0 e in
          record { K = KI.0; formula = KI.1; certified = c; short = fitting c (leb (length (shorter_by c).report) (length report)) (leb (length (shorter_by c).table) (length table)) refl refl }

-- Point 12.
pub shortening-holds : Shortening
shortening-holds = record {
  refused = λ A B proof report table w e h. refused-alone A B proof report table w e h;
  as_check = λ A B proof report table w e output h k. ap (λ (v : Shortened). v.answer) e ∙ alike-refused A B proof report table output h k;
  as_check_enough = λ A B proof report table w e output enough h. ap (λ (v : Shortened). v.answer) e ∙ alike A B proof report table output h (λ K I q. h (certified-0 A B proof output enough K I q));
  makes = λ A B proof K I c. made A B proof [] [] c;
  accepted_iff = λ A B proof report table w e. (
    λ h. shortenable A B proof report table (sym (ap (λ (v : Shortened). v.answer.number) e) ∙ h),
    λ s. ap (λ (v : Shortened). v.answer.number) e ∙ ap (λ (x : Answer). x.number) (both A B proof report table s.certified (s.report_fits, s.table_fits)).answer,
  );
  writes = λ A B proof report table w e s. subst (BothWritten (shorter_by s.certified).report (shorter_by s.certified).table report table) (sym e) (both A B proof report table s.certified (s.report_fits, s.table_fits));
  only-21 = λ A B proof report table w e h. short-outputs A B proof report table (sym (ap (λ (v : Shortened). v.answer.number) e) ∙ h);
  always-21 = λ A B proof report table w e s. ap (λ (v : Shortened). v.answer) e ∙ short_21 A B proof report table s.certified s.short;
  checked_alike = λ A B proof report table w e h output.
      let f = front A B proof report table w e h in
      ap (λ (t : List ℕ). check A B t output) f.table_is ∙ check-same A B proof f.s f.is output;
  again = λ A B proof report table w e h report₁ table₁ w₁ e₁ a b.
      let f = front A B proof report table w e h in
      let s₁ : Shorter = record { report = without_zeros f.s.report; table = f.s.table } in
      let is₁ : shortening newest_edition A B (take w.count w.table) ≡ accepted s₁ = ap (shortening newest_edition A B) f.table_is ∙ shortened-again newest_edition A B proof f.s f.is in
      let l = fits report₁ table₁ s₁ (subst (λ (ns : List ℕ). length (without_zeros ns) ≤ length report₁) f.report-is a, omega (arith, b, f.bytes-are)) in
      subst (λ (v : Shortened). BothWritten (without_zeros (take w.rows w.report)) (take w.count w.table) report₁ table₁ v) (sym (e₁ ∙ shorten-as A B (take w.count w.table) report₁ table₁ is₁))
      (subst (λ (ns : List ℕ). BothWritten (without_zeros ns) (take w.count w.table) report₁ table₁ (written_both report₁ table₁ (accepted s₁))) (sym f.report-is)
      (subst (λ (t : List ℕ). BothWritten (without_zeros f.s.report) t report₁ table₁ (written_both report₁ table₁ (accepted s₁))) (sym f.table_is) l));
}
