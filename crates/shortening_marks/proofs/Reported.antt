-- What the marks report. Assumes nothing.
use mathlib.Core.Path.{◌≡◌, sym, ◌∙◌, ap}
use mathlib.Core.List.{List, map}
use Prim.Native.Nat.{ℕ}
use native.Mathlib.Omega.{arith}
use lib.ListN.{length}
use lib.Seq.{sets}
use Rattle.forms.specs.Edition.{edition}
use Rattle.calculus.specs.Rules.{Entry}
use Rattle.fields.specs.Fields.{Fields}
use Rattle.shortening.specs.Passes.{report_on}
use Rattle.shortening.specs.Shorten.{list_of, stated_entry}
use Rattle.shortening.proofs.Renumbering.{entries-of}
use Rattle.shortening.proofs.Filed.{listed-items}
use Rattle.shortening_stack.specs.declared.stack.Step.{Step}
use Rattle.shortening_marks.specs.declared.GatheredRow.{GatheredRow}
use Rattle.shortening_marks.specs.Gathered.{Gathered, GathersAll, Reportable, Reported, Stating}
use Rattle.shortening_marks.specs.Marks.{Markable, MarkedFrom}
use Rattle.shortening_marks.proofs.Gathering.{report_left, report-rows, markable}

-- the entries that the fields state are those that they are read as
pub stated-entries : (e K : ℕ) (fs : Fields) (es : List Entry) → Stating e K fs es → map (stated_entry (edition e) K) (list_of fs) ≡ es
stated-entries e K fs es s = ap (map (stated_entry (edition e) K)) (listed-items fs s.list s.are) ∙ entries-of (edition e) K s.each

-- ---- the report
module _ {e K : ℕ} {fs : Fields} {n : ℕ} {gathered₀ : List GatheredRow} {steps₀ : List Step} {marks report : List ℕ} (d : Reportable e K fs n gathered₀ steps₀ marks report) {gathered : List GatheredRow} {rows : ℕ} (g : GathersAll e K fs n gathered rows) where
  all-gathered : Gathered d.gatherable.es n gathered rows
  all-gathered = g.all d.gatherable.es d.gatherable.stating

  pub rows-markable : length gathered ≡ length gathered₀ → Markable gathered rows marks report
  rows-markable a =
      let r = all-gathered.rows_are in
      markable marks report all-gathered (omega (arith, r, a, d.gatherable.gathered_room)) (omega (arith, r, d.report-room)) (omega (arith, r, d.marks_room)) (record { at = λ j h. d.clear j })

  pub rows-reported : {marks' report' : List ℕ} → MarkedFrom gathered rows 0 marks report marks' report' → Reported e K fs n report report' rows
  rows-reported m =
      let q = sym (stated-entries e K fs d.gatherable.es d.gatherable.stating) in
      record {
        is = report_left all-gathered m ∙ ap (λ (es : List Entry). sets report 0 (report_on n es)) q;
        rows_are = sym (report-rows all-gathered) ∙ ap (λ (es : List Entry). length (report_on n es)) q;
      }
