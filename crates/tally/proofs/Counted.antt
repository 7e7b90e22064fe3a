-- A row, a line or a branching step that is counted, or none more. Assumes nothing.
use mathlib.Core.Path.{◌≡◌, sym}
use Rattle.std.proofs.Common.{ℕ, ◌≤◌, ◌<◌, Some, None, ltb, Bool, true, false}
use borrow.Author.Tests.{ltb-true, ltb-false}
use Rattle.std.proofs.lemmas.Option.{cond_some}
use Rattle.forms.specs.Edition.{edition}
use Rattle.tally.specs.Tally.{tallied, open_counted, line_counted, more_lines, row_counted, more_rows, more_open}
use Rattle.tally.specs.declared.Tally.{Tally}

-- a step that was made had room, and one that was not had none
counted-some : {A : Type 0} (count limit : ℕ) (next : A) {next' : A} → Some next' ≡ tallied (ltb count limit) next → (count < limit) × (next' ≡ next)
counted-some count limit next e = let c = cond_some (ltb count limit) next _ (sym e) in (ltb-true count limit c.0, sym c.1)

refused : {A : Type 0} (b : Bool) (next : A) → None ≡ tallied b next → b ≡ false
refused true next e = cc
refused false next e = cc

counted-none : {A : Type 0} (count limit : ℕ) (next : A) → None ≡ tallied (ltb count limit) next → limit ≤ count
counted-none count limit next e = ltb-false count limit (refused (ltb count limit) next e)

pub counted-open : {t u : Tally} → Some u ≡ open_counted t → (t.«open» < 32) × (u ≡ more_open t)
unfolding open_counted
counted-open {t} e = counted-some t.«open» 32 (more_open t) e

pub full-open : (t : Tally) → None ≡ open_counted t → 32 ≤ t.«open»
unfolding open_counted
full-open t e = counted-none t.«open» 32 (more_open t) e

pub counted-line : {t u : Tally} → Some u ≡ line_counted t → (t.lines.0 < (edition t.edition).lines) × (u ≡ more_lines t)
unfolding line_counted
counted-line {t} e = counted-some t.lines.0 (edition t.edition).lines (more_lines t) e

pub full-line : (t : Tally) → None ≡ line_counted t → (edition t.edition).lines ≤ t.lines.0
unfolding line_counted
full-line t e = counted-none t.lines.0 (edition t.edition).lines (more_lines t) e

pub counted-row : {t u : Tally} → Some u ≡ row_counted t → (t.rows.0 < 1024) × (u ≡ more_rows t)
unfolding row_counted
counted-row {t} e = counted-some t.rows.0 1024 (more_rows t) e

pub full-row : (t : Tally) → None ≡ row_counted t → 1024 ≤ t.rows.0
unfolding row_counted
full-row t e = counted-none t.rows.0 1024 (more_rows t) e
