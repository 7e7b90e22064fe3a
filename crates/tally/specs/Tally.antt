-- What each step of the tally leaves. Assumes nothing.
use Rattle.std.specs.Prelude.{◌≡◌, ℕ, ◌+◌, Option, Some, None, Result, Ok, Err, Bool, cond, ltb}
use Rattle.answers.specs.declared.refusals.Refusal.{Refusal}
use Rattle.forms.specs.Edition.{edition, edition1}
use Rattle.tally.specs.declared.Tally.{Tally}

-- A tally of so many rows, lines and open branching steps, in a proof of edition n.
abbrev pub tally : (n rows lines branchings : ℕ) → Tally
tally n r l s = record { rows = record { 0 = r }; lines = record { 0 = l }; «open» = s; edition = n }

-- The tally with one line more.
abbrev pub more_lines : Tally → Tally
more_lines t = tally t.edition t.rows.0 (t.lines.0 + 1) t.«open»

abbrev pub more_rows : Tally → Tally
more_rows t = tally t.edition (t.rows.0 + 1) t.lines.0 t.«open»

abbrev pub more_open : Tally → Tally
more_open t = tally t.edition t.rows.0 t.lines.0 (t.«open» + 1)

-- A step that is made gives the next tally; one that is refused, none, so the tally is as it was.
abbrev pub tallied : {A : Type 0} → Bool → (next : A) → Option A
tallied made next = cond made (Some next) None

-- As many rows, lines on a branch and open branching steps as the proof's edition allows.
unfoldable pub row_counted : Tally → Option Tally
row_counted t = tallied (ltb t.rows.0 edition1.rows) (more_rows t)

unfoldable pub line_counted : Tally → Option Tally
line_counted t = tallied (ltb t.lines.0 (edition t.edition).lines) (more_lines t)

unfoldable pub open_counted : Tally → Option Tally
open_counted t = tallied (ltb t.«open» edition1.branchings) (more_open t)

-- A closed branch gives back its lines and open branching steps: they are again those of the tally given.
abbrev pub returned_to : Tally → (given : Tally) → Tally
returned_to t given = tally given.edition t.rows.0 given.lines.0 given.«open»

-- A step on a tally that is lent, by what f says of it: the tally before and after, and what is answered. A refused step leaves the tally as it was.
abbrev pub Advanced : (f : Tally → Option Tally) (refusal : Refusal) (before after : Tally) → Result Unit Refusal → Type 0
Advanced f refusal before after (Ok x) = Some after ≡ f before
Advanced f refusal before after (Err r) = (r ≡ refusal) × (None ≡ f before) × (after ≡ before)
