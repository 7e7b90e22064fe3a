-- A bundle as the code goes over it: the first fault or the count, and what the fields state where nothing is amiss. Assumes nothing.
use Rattle.std.proofs.Math.Option.{Option, none, some}
use Rattle.std.specs.Prelude.{cond, ◌≡◌, List, [], ◌∷◌, ℕ, suc, ◌+◌, ◌-◌, ltb, eqb, length, Ok, Err}
use Rattle.std.specs.declared.result.Result as code
use Rattle.forms.specs.Edition.{edition, edition1, newest_edition}
use Rattle.forms.specs.Forms.{Constraint}
use Rattle.forms.specs.Flat.{constraint_kind_of}
use Rattle.answers.specs.Answers.{answer, Result, refused}
use Rattle.answers.specs.Refusals.{fault, number_of, told}
use Rattle.answers.specs.declared.refusals.Refusal.{Refusal}
use Rattle.answers.specs.declared.refusals.Fault.{Fault}
use Rattle.number_bytes.specs.Numbers.{form_from, form_width}
use Rattle.fields.specs.declared.FileKind.{FileKind}
use Rattle.fields.specs.Fields.{Field, Fields, ends, cut, ◌▸◌, fields, nth}
use Rattle.fields.specs.Header.{known}
use Rattle.fields.specs.Places.{given_k, header_of, fields_at}
use Rattle.fields.specs.declared.header.Headed.{Headed}
use Rattle.bundle.specs.Bundle.{form_small, bundle_header, bundle}
use Rattle.bundle_scan.specs.declared.constraints.Sought.{Sought}
use Rattle.bundle_scan.specs.declared.Scanned.{Scanned}
use Rattle.bundle_scan.specs.declared.Body.{Body}

-- What stands before the constraints, by the code's answer, whatever the file is called.
pub record IsBundleHeader (newest given : ℕ) (s : List ℕ) (r : code.Result Headed Fault) : Type 0 where
  pub is : (file : ℕ) → bundle_header newest file (given_k given) s ≡ told file (header_of s) r

-- What a field after the header is refused for, as constraint n of a bundle with K constants whose numbers have w bytes.
abbrev pub fault_of : (w K n tag : ℕ) → List ℕ → code.Result (Unit {0}) Refusal
fault_of w K n tag contents =
    cond (known FileKind.Bundle tag)
    (cond (ltb tag 0x03) (Err Refusal.MisplacedTag)
    (cond (eqb (length contents) (form_width w K))
    (cond (ltb n edition1.constraints) (cond (form_small edition1.range (form_from w K contents)) (Ok tt) (Err Refusal.OutOfRange)) (Err Refusal.TooManyConstraints))
    (Err Refusal.WrongLength)))
    (Err Refusal.UnknownTag)

-- A field's refusal at its place, before those after it.
abbrev pub unless_fault : code.Result (Unit {0}) Refusal → (at : ℕ) → code.Result ℕ Fault → code.Result ℕ Fault
unless_fault (Ok u) at next = next
unless_fault (Err r) at next = Err (fault r at)

-- The constraints counted, n of them already, or the first fault.
unfoldable pub counted : (w K n : ℕ) → Fields → code.Result ℕ Fault
counted w K n (ends at) = Ok n
counted w K n (cut at) = Err (fault Refusal.Truncated at)
counted w K n (f ▸ fs) = unless_fault (fault_of w K n f.tag f.contents) f.at (counted w K (suc n) fs)

-- What the fields after the header state, where none is at fault.
unfoldable pub stated : (w K : ℕ) → Fields → List Constraint
stated w K (ends at) = []
stated w K (cut at) = []
stated w K (f ▸ fs) = record { kind = constraint_kind_of (f.tag - 0x03); form = form_from w K f.contents } ∷ stated w K fs

-- The count and the fault, as what `constraints` gives; `file` is the number that an answer names the file by.
abbrev pub counted_of : (file w K : ℕ) → Fields → code.Result ℕ Fault → Result (List Constraint)
counted_of file w K fs = told file (λ n. stated w K fs)

-- ---- the place of one constraint, kept on the way
-- Where a field starts, 0 where there is none.
abbrev pub start_of : Option Field → ℕ
start_of none = 0
start_of (some f) = f.at

-- Constraint i of a file: its field stands behind the two header fields.
abbrev pub constraint_start : List ℕ → (i : ℕ) → ℕ
constraint_start s i = start_of (nth (i + 2) (fields s))

abbrev pub sought_of : (start : ℕ) → code.Result ℕ Fault → code.Result Sought Fault
sought_of start (Ok n) = Ok (record { count = n; start = start })
sought_of start (Err e) = Err e

-- ---- what going over a bundle tells
-- The file is a bundle's: its header, with K, and behind it the body, constraints without fault.
pub record IsBundle (given : ℕ) (s : List ℕ) (K : ℕ) (body : Body) : Type 0 where
  pub header : IsBundleHeader newest_edition given s (Ok (record { edition = body.edition; k = K; next = body.at }))
  pub counts : counted (edition body.edition).coefficient_width K 0 (fields_at s body.at) ≡ Ok body.count

-- From a place on m constraints are without fault, with the n before it: what a pass knows that tests nothing again.
pub record ConstraintsLeft (w K n m : ℕ) (s : List ℕ) (at : ℕ) : Type 0 where
  pub counts : counted w K n (fields_at s at) ≡ Ok m

abbrev pub ScannedBy : (given : ℕ) (s : List ℕ) (wanted : ℕ) → code.Result Scanned Fault → Type 0
ScannedBy given s wanted (Ok x) = IsBundle given s x.k x.body × (x.start ≡ constraint_start s wanted)
ScannedBy given s wanted (Err e) = (file : ℕ) → bundle newest_edition file (given_k given) s ≡ refused (answer (number_of e.refusal) file e.place)

pub record Scans (given : ℕ) (s : List ℕ) (wanted : ℕ) (r : code.Result Scanned Fault) : Type 0 where
  pub by : ScannedBy given s wanted r
