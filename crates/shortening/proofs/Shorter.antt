-- The table without the rows that nothing rests on: it proves the same formula, and shortening it again changes nothing. Assumes nothing.
use mathlib.Core.Path.{◌≡◌, refl, sym, ◌∙◌, ap, subst}
use mathlib.Core.List.{List, []}
use mathlib.Core.Bool.{Bool}
use Prim.Native.Nat.{ℕ}
use native.Mathlib.Omega.{arith}
use lib.ListN.{length}
use Rattle.forms.specs.Edition.{Edition}
use Rattle.forms.specs.Forms.{Line, Constraint, lines, Formula}
use Rattle.calculus.specs.Rules.{Closed, Entry, entries, Proves}
use Rattle.shortening.specs.Needed.{without_zeros}
use Rattle.shortening.specs.Passes.{report_on}
use Rattle.shortening.proofs.Computed.{AllNeeded, shorten_table}
use Rattle.shortening.proofs.Without.{Without, without}
use Rattle.shortening.proofs.Again.{stays}
use Rattle.shortening.proofs.Passes.{reported}
use Rattle.shortening.proofs.OneArray.{shortens}

module _ {e : Edition} {in_b : ℕ → Bool} where
  pub without_rows : {ls : List Line} {I : Formula} (p : Closed e in_b ls I) → Without p ls (λ j. j)
  without_rows {ls} p = without p ls (λ j. j) (omega arith) (record { at = λ j r l h. h })

  -- the shorter table is that of the branch without those rows, and is its own shorter table
  pub shorter-table : {ls : List Line} {I : Formula} (p : Closed e in_b ls I) → entries (without_rows p).proof [] ≡ shorten_table (length ls) (entries p [])
  shorter-table p = (without_rows p).are [] ∙ sym (shortens p)

  without-again : {ls : List Line} {I : Formula} (p : Closed e in_b ls I) → AllNeeded p → shorten_table (length ls) (entries p []) ≡ entries p []
  without-again p a = shortens p ∙ stays p a (λ j. j) (record { at = λ j h. refl }) []

  twice : {ls : List Line} {I : Formula} (p : Closed e in_b ls I) → shorten_table (length ls) (shorten_table (length ls) (entries p [])) ≡ shorten_table (length ls) (entries p [])
  twice {ls} p = ap (shorten_table (length ls)) (sym (shorter-table p)) ∙ without-again (without_rows p).proof (without_rows p).all ∙ shorter-table p

  report-twice : {ls : List Line} {I : Formula} (p : Closed e in_b ls I) → report_on (length ls) (shorten_table (length ls) (entries p [])) ≡ without_zeros (report_on (length ls) (entries p []))
  report-twice {ls} p = ap (report_on (length ls)) (sym (shorter-table p)) ∙ reported (without_rows p).proof ∙ (without_rows p).told [] ∙ ap without_zeros (sym (reported p))

-- ---- point 12: the shorter table of a proof proves the same formula; its own shorter table is itself, and its report the one there was, without the 0s
module _ {e : Edition} {As Bs : List Constraint} {es : List Entry} {I : Formula} (p : Proves e As Bs es I) where
  pub shorten-proves : Proves e As Bs (shorten_table (length (lines As Bs)) es) I
  shorten-proves = record {
    proof = (without_rows p.proof).proof;
    are = shorter-table p.proof ∙ ap (shorten_table (length (lines As Bs))) p.are;
    rows = omega (arith, p.rows, (without_rows p.proof).few);
    opened = omega (arith, p.opened, (without_rows p.proof).flat);
  }

  pub shorten-twice : shorten_table (length (lines As Bs)) (shorten_table (length (lines As Bs)) es) ≡ shorten_table (length (lines As Bs)) es
  shorten-twice = subst (λ (xs : List Entry). shorten_table (length (lines As Bs)) (shorten_table (length (lines As Bs)) xs) ≡ shorten_table (length (lines As Bs)) xs) p.are (twice p.proof)

  pub shorten-report : report_on (length (lines As Bs)) (shorten_table (length (lines As Bs)) es) ≡ without_zeros (report_on (length (lines As Bs)) es)
  shorten-report = subst (λ (xs : List Entry). report_on (length (lines As Bs)) (shorten_table (length (lines As Bs)) xs) ≡ without_zeros (report_on (length (lines As Bs)) xs)) p.are (report-twice p.proof)
