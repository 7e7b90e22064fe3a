-- Demand 3 of the user, in one piece: what an accepted check is worth, for whatever any writer made and meant. Of what the function check ensures. Assumes nothing.
use Rattle.std.specs.Prelude.{◌≡◌, ◌⊎◌, List, ℕ, ◌≤◌, length, take, ℤ}
use Rattle.std.proofs.Math.Option.{some}
use Rattle.forms.specs.Edition.{edition1, newest_edition}
use Rattle.forms.specs.Forms.{All, Constraint, Formula}
use Rattle.calculus.specs.Rules.{Interpolant}
use Rattle.answers.specs.Answers.{over}
use Rattle.answers.specs.declared.WriteResult.{WriteResult}
use Rattle.number_bytes.specs.Numbers.{Bytes}
use Rattle.fields.specs.Fields.{Item, Framed, file_of, without_notes, fields, Noted, Kept}
use Rattle.bundle.specs.Layout.{StatesAll, bundle_limit}
use Rattle.bundle_read.specs.declared.ReadResult.{ReadResult}
use Rattle.bundle_read.specs.Promises.{Reads}
use Rattle.formula.specs.Formula.{formula_file}
use Rattle.proof.specs.Layout.{Certifies}
use Rattle.proof.specs.Editions.{limit_a, limit_b}
use Rattle.proof.specs.Promises.{Checks}
use Rattle.guarantee.specs.LaidOut.{WholeFields, LaidOut}
use Rattle.guarantee.specs.NotedPlaces.{moved_by, nth_start, moved_answer, check_places}
use Rattle.guarantee.specs.Testing.{FormulaFile}

-- What a writer stated is given by any function of his list of fields. It gives a K and constraints.
abbrev pub Meaning : Type 0
Meaning = List Item → ℕ × List Constraint

-- It is free except where every field is a known one, laid out in edition 1 or in edition 2, each by its own layout:
-- there it gives that K and those constraints in file order.
abbrev pub Faithful : Meaning → Type 0
Faithful M = (n : ℕ) → (n ≡ 1) ⊎ (n ≡ 2) → (F : List Item) (K : ℕ) (cs : List Constraint) → StatesAll n (without_notes F) K cs → M F ≡ (K, cs)

-- What one accepted check of the files of FA and FB leaves.
pub record Delivered (FA FB : List Item) (MA MB : Meaning) (proof output left : List ℕ) (r : WriteResult) : Type 0 where
  pub K : ℕ
  pub formula : Formula
  -- it is demand 2's formula, over the K that both writers stated
  pub certified : Certifies newest_edition (file_of FA) (file_of FB) proof K formula
  pub K_of_A : (MA FA).0 ≡ K
  pub K_of_B : (MB FB).0 ≡ K
  -- its bytes, as many as are counted, stand at the front of the output; the rest stays
  pub fits : length (formula_file edition1 K formula) ≤ length output
  pub count : r.count ≡ length (formula_file edition1 K formula)
  pub bytes : left ≡ over (formula_file edition1 K formula) output
  -- they are no more than a formula's file may have, and are a file that states the formula over K (of a proof that is bytes, as a slice is)
  pub upto : r.count ≤ 65_536
  pub states : Bytes proof → FormulaFile K (take r.count left) formula
  -- true wherever all of A is met, false wherever all of B is, naming only constants of both: A and B being what the writers stated
  pub interpolant : Interpolant (MA FA).1 (MB FB).1 formula

-- Whole notes between whole fields change no number, file, row, step or branch, no count and no output byte, where no file gets too long by them: a bundle, by the lengths given.
-- The place stands where the notes move it: in a file where the same field, the end, or bytes that are no whole field, now stand; 1 stays at place 0, whatever note comes first; with file 4 the whole answer stays.
abbrev pub NotesPassedOver : (lengthA lengthB : (A B proof : List ℕ) → ℕ) → Type 0
NotesPassedOver lengthA lengthB =
    (A A' B B' proof proof' output left left' : List ℕ) (r r' : WriteResult) (n_A : Noted A A') (n_B : Noted B B') (nP : Noted proof proof')
    → Kept (lengthA A B proof) A A' → Kept (lengthB A B proof) B B' → Kept edition1.proof_bytes proof proof'
    → Checks A B proof output left r → Checks A' B' proof' output left' r'
    → (r'.answer ≡ moved_answer (check_places n_A n_B nP) r.answer) × (r'.count ≡ r.count) × (left' ≡ left)

pub record Soundness : Type 0 where
  -- after one accepted check
  pub interpolates : (FA FB : List Item) → All Framed FA → All Framed FB → (MA MB : Meaning) → Faithful MA → Faithful MB → (proof output left : List ℕ) (r : WriteResult)
      → Checks (file_of FA) (file_of FB) proof output left r → r.answer.number ≡ 0
      → Delivered FA FB MA MB proof output left r
  -- and every A and B that is accepted is the file of some writer's fields
  pub listed : (A B proof output left : List ℕ) (r : WriteResult) → Bytes A → Bytes B → Checks A B proof output left r → r.answer.number ≡ 0 → WholeFields A × WholeFields B
  -- and so is every bundle that read accepts
  pub listed_read : (file kinds : List ℕ) (numbers : List ℤ) (kinds' : List ℕ) (numbers' : List ℤ) (r : ReadResult) → Bytes file → Reads file kinds numbers kinds' numbers' r → r.answer.number ≡ 0 → WholeFields file
  -- notes are passed over, a bundle's length being 4,096 where check reads edition 1 in it, 8,192 where it does not or never comes to read it (in numerals in `EditionsPromised`)
  pub notes : NotesPassedOver limit_a limit_b
  -- and with the length by the file alone: 4,096 for a bundle whose first field, notes aside, is a whole 0x01 of length 1 that says 1, 8,192 for any other
  pub notes_plain : NotesPassedOver (λ A B proof. bundle_limit A) (λ A B proof. bundle_limit B)
  -- where notes move places: each field, notes aside, and what stands behind the last one, starts where the map puts it
  pub notes_places : (F F' : List ℕ) (n : Noted F F') (i p : ℕ) → nth_start i (fields F) ≡ some p → nth_start i (fields F') ≡ some (moved_by n p)
  -- what is accepted is laid out, and a file that carries anything else is refused
  pub laid_out : (A B proof output left : List ℕ) (r : WriteResult) → Checks A B proof output left r → r.answer.number ≡ 0 → LaidOut A B proof
  pub refuses : (A B proof output left : List ℕ) (r : WriteResult) → Checks A B proof output left r → ¬ (LaidOut A B proof) → ¬ (r.answer.number ≡ 0)
