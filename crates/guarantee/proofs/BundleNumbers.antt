-- A bundle is refused by a number up to 20, and by 1 in its own file. Assumes nothing.
use mathlib.Core.Path.{◌≡◌, refl}
use mathlib.Core.Bool.{Bool, true, false}
use mathlib.Core.List.{List}
use mathlib.Core.Option.{Option}
use Prim.Native.Nat.{ℕ, ◌≤◌}
use native.Mathlib.Omega.{arith}
use mir.Facts.{and_yes}
use lib.Dec.{T, leb, leb→le}
use Rattle.forms.specs.Edition.{edition, newest_edition}
use Rattle.answers.specs.declared.Answer.{Answer}
use Rattle.answers.specs.Answers.{Result, ◌>>◌, need}
use Rattle.fields.specs.declared.FileKind.{FileKind}
use Rattle.fields.specs.Fields.{fields}
use Rattle.bundle.specs.Bundle.{at_most, bundle_header, bundle}
use Rattle.proof.proofs.Satisfies.{Satisfies, says-refused, says-accepted, bind, seq, says-need, weaken}
use Rattle.proof.proofs.Tree.{amidst}
use Rattle.guarantee.proofs.TooLongFiles.{Amidst, above-1, edition-amidst, constants-amidst, constraints-amidst}

pub up-to-20 : (n : ℕ) → T (amidst n) → n ≤ 20
up-to-20 n t = leb→le n 20 (and_yes (leb 2 n) (leb n 20) t).1

-- a test, with what its failure tells
pub because : {Q : Answer → Type 0} {Y : Type 0} {R : Y → Type 0} (a : Answer) (b : Bool) {r : Result Y} → (b ≡ false → Q a) → (b ≡ true → Satisfies Q r R) → Satisfies Q (need a b >> r) R
unfolding need ◌>>◌
because a true h k = k refl
because a false h k = says-refused (h refl)

abbrev pub Plain : ℕ → Answer → Type 0
Plain file a = (a.number ≤ 20) × (a.number ≡ 1 → a.file ≡ file)

plain : {X : Type 0} {P : X → Type 0} {r : Result X} (file : ℕ) → Satisfies Amidst r P → Satisfies (Plain file) r (λ _. Unit {0})
plain file s = weaken s (λ a t. (up-to-20 a.number t, λ e. absurd (above-1 t e))) (λ _ _. tt)

pub short-plain : (limit file : ℕ) (bytes : List ℕ) → Satisfies (Plain file) (at_most limit file bytes) (λ _. Unit {0})
unfolding at_most
short-plain limit file bytes = weaken (says-need _ _ (omega arith, λ _. refl)) (λ a q. q) (λ _ _. tt)

header-plain : (file : ℕ) (given : Option ℕ) (bytes : List ℕ) → Satisfies (Plain file) (bundle_header newest_edition file given bytes) (λ _. Unit {0})
unfolding bundle_header
header-plain file given bytes = bind (plain file (edition-amidst FileKind.Bundle file newest_edition (fields bytes))) λ x _. seq (short-plain _ file bytes)
    (bind (plain file (constants-amidst FileKind.Bundle file given x.1)) λ y _. says-accepted tt)

pub bundle-plain : (file : ℕ) (given : Option ℕ) (bytes : List ℕ) → Satisfies (Plain file) (bundle newest_edition file given bytes) (λ _. Unit {0})
unfolding bundle
bundle-plain file given bytes = bind (header-plain file given bytes) λ h _. bind (plain file (constraints-amidst file (edition h.number) h.K 0 h.rest)) λ cs _. says-accepted tt
