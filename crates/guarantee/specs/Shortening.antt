-- Rows that nothing rests on. docs/FORMAT.md, "Rows that nothing rests on". Of what `dulgaverk_shorten` ensures, beside what check ensures. Assumes nothing.
-- (That a refusal writes nothing is in `Refusals`, where in the tree it stands in `InTree`.)
use Rattle.std.specs.Prelude.{◌≡◌, ◌↔◌, Bool, List, ℕ, ◌≤◌, T, length, take}
use Rattle.forms.specs.Edition.{Edition, newest_edition}
use Rattle.forms.specs.Forms.{Line, Formula}
use Rattle.calculus.specs.Rules.{Closed}
use Rattle.answers.specs.declared.WriteResult.{WriteResult}
use Rattle.answers.specs.Answers.{answer}
use Rattle.proof.specs.Layout.{Certifies}
use Rattle.proof.specs.Promises.{Checks}
use Rattle.shortening.specs.Needed.{DependsOn, depends_on, without_zeros}
use Rattle.shortening.specs.Promised.{ReportAndTable, shorter_by, Shortenable, ShortOutputs, BothWritten}
use Rattle.shortening.specs.declared.ShortenResult.{ShortenResult}
use Rattle.shortening.specs.Promises.{shortened_of, Shortens}
use Rattle.guarantee.specs.RefusedIff.{JustWhere, LongFormula, bytes_needed}

pub record ShorteningPromised : Type 0 where
  -- ---- what is made of files that certify a formula: the report says of each row whether a close or branching row depends on it, and the table is the derivation without the rows on which none does
  pub makes : (A B proof : List ℕ) (K : ℕ) (I : Formula) (c : Certifies newest_edition A B proof K I) → ReportAndTable A B proof K I c (shorter_by c).report (shorter_by c).table
  -- (the test by which rows are kept in that table decides the relation by which the report goes)
  pub decided : {e : Edition} {in_b : ℕ → Bool} {ls : List Line} {I : Formula} (p : Closed e in_b ls I) (j : ℕ) → T (depends_on p j) ↔ DependsOn p j
  -- ---- accepted just where the files certify a formula and both outputs are long enough; then both are written
  pub accepted_iff : (A B proof report table reportLeft tableLeft : List ℕ) (r : ShortenResult) → Shortens A B proof report table reportLeft tableLeft r → r.answer.number ≡ 0 ↔ Shortenable A B proof report table
  pub writes : (A B proof report table reportLeft tableLeft : List ℕ) (r : ShortenResult) → Shortens A B proof report table reportLeft tableLeft r → (s : Shortenable A B proof report table)
      → BothWritten (shorter_by s.certified).report (shorter_by s.certified).table report table (shortened_of r reportLeft tableLeft)
  -- ---- refused by 21 just where they certify one and either output is too short, with the table's bytes for its place
  pub short_21 : (A B proof report table reportLeft tableLeft : List ℕ) (r : ShortenResult) → Shortens A B proof report table reportLeft tableLeft r
      → JustWhere (r.answer.number ≡ 21) (ShortOutputs A B proof report table) r.answer (λ s. answer 21 4 (length (shorter_by s.certified).table))
  -- every other refusal is check's: whatever check refuses, but by 21, with any output, and so whatever it refuses with output enough
  pub as_check : (A B proof report table reportLeft tableLeft : List ℕ) (r : ShortenResult) → Shortens A B proof report table reportLeft tableLeft r
      → (output left : List ℕ) (c : WriteResult) → Checks A B proof output left c → ¬ (c.answer.number ≡ 0) → ¬ (c.answer.number ≡ 21) → r.answer ≡ c.answer
  pub as_check_enough : (A B proof report table reportLeft tableLeft : List ℕ) (r : ShortenResult) → Shortens A B proof report table reportLeft tableLeft r
      → (output left : List ℕ) (c : WriteResult) → Checks A B proof output left c → 65_536 ≤ length output → ¬ (c.answer.number ≡ 0) → r.answer ≡ c.answer
  -- among them 1 at the end, for a formula that is too long
  pub too_long : (A B proof report table reportLeft tableLeft : List ℕ) (r : ShortenResult) → Shortens A B proof report table reportLeft tableLeft r
      → (l : LongFormula A B proof) → r.answer ≡ answer 1 4 (bytes_needed l.derives)
  -- ---- check gives the same on the shorter table as on the proof: answer, count and output, whatever output is lent
  pub checked_alike : (A B proof report table reportLeft tableLeft : List ℕ) (r : ShortenResult) → Shortens A B proof report table reportLeft tableLeft r → r.answer.number ≡ 0
      → (output left left₁ : List ℕ) (c c₁ : WriteResult) → Checks A B proof output left c → Checks A B (take r.count tableLeft) output left₁ c₁ → (c₁ ≡ c) × (left₁ ≡ left)
  -- ---- shortening it again gives the same table, and the report without its 0s
  pub again : (A B proof report table reportLeft tableLeft : List ℕ) (r : ShortenResult) → Shortens A B proof report table reportLeft tableLeft r → r.answer.number ≡ 0
      → (report₁ table₁ reportLeft₁ tableLeft₁ : List ℕ) (r₁ : ShortenResult) → Shortens A B (take r.count tableLeft) report₁ table₁ reportLeft₁ tableLeft₁ r₁
      → length (without_zeros (take r.rows reportLeft)) ≤ length report₁ → r.count ≤ length table₁
      → BothWritten (without_zeros (take r.rows reportLeft)) (take r.count tableLeft) report₁ table₁ (shortened_of r₁ reportLeft₁ tableLeft₁)
