-- The fields of a file by place, as the code reads them: one field at a place, and the next that is no note. Assumes nothing.
use Rattle.std.specs.Prelude.{◌≡◌, List, ℕ, zero, suc, ◌+◌, ◌-◌, length, drop, Ok, Err, Some, None}
use Rattle.std.proofs.Math.Option.{Option, none, some}
use Rattle.std.specs.declared.result.Result as code
use Rattle.std.specs.declared.option.Option as opt
use Rattle.answers.specs.Refusals.{fault, told}
use Rattle.answers.specs.declared.refusals.Refusal.{Refusal}
use Rattle.answers.specs.declared.refusals.Fault.{Fault}
use Rattle.fields.specs.Fields.{Front, whole, broken, nothing, front, Fields, ends, cut, ◌▸◌, fields_from, fields}
use Rattle.fields.specs.Header.{Header, header_field, edition_field, constants_field, header}
use Rattle.fields.specs.declared.FileKind.{FileKind}
use Rattle.fields.specs.declared.WholeField.{WholeField}
use Rattle.fields.specs.declared.Broken.{Broken}
use Rattle.fields.specs.declared.End.{End}
use Rattle.fields.specs.declared.header.HeaderField.{HeaderField}
use Rattle.fields.specs.declared.header.Numbered.{Numbered}
use Rattle.fields.specs.declared.header.Headed.{Headed}

-- A field at a place, with its tag and how many bytes its contents have: where they start, and the place after them.
abbrev pub whole_field : (at tag len : ℕ) → WholeField
whole_field at tag n = record { at = at; tag = tag; start = at + 3; len = n; next = at + 3 + n }

-- What stands at a place.
abbrev pub found_in : ℕ → Front → code.Result (opt.Option WholeField) Broken
found_in at nothing = Ok None
found_in at broken = Err (record {})
found_in at (whole tag contents after) = Ok (Some (whole_field at tag (length contents)))

unfoldable pub found_at : List ℕ → ℕ → code.Result (opt.Option WholeField) Broken
found_at s at = found_in at (front (drop at s))

-- The fields from a place on, notes left out; from 0 they are the file's. Past the end there are none.
unfoldable pub fields_at : List ℕ → ℕ → Fields
fields_at s at = fields_from (length s) at (drop at s)

-- How many fields there are, and how many from a place on.
unfoldable pub field_count : Fields → ℕ
field_count (ends at) = 0
field_count (cut at) = 0
field_count (f ▸ fs) = suc (field_count fs)

abbrev pub fields_left : List ℕ → ℕ → ℕ
fields_left s at = field_count (fields_at s at)

-- How many bytes are unread at a place.
abbrev pub unread_bytes : List ℕ → ℕ → ℕ
unread_bytes s at = length s - at

-- The first of some fields, or how they end.
abbrev pub next_of : Fields → code.Result WholeField End
next_of (ends at) = Err (End.Ends at)
next_of (cut at) = Err (End.Cut at)
next_of (f ▸ fs) = Ok (whole_field f.at f.tag (length f.contents))

-- The same where a field must follow.
abbrev pub truncated : End → Fault
truncated (End.Cut at) = fault Refusal.Truncated at
truncated (End.Ends at) = fault Refusal.Truncated at

abbrev pub required : code.Result WholeField End → code.Result WholeField Fault
required (Ok f) = Ok f
required (Err e) = Err (truncated e)

abbrev pub next_or_fault : Fields → code.Result WholeField Fault
next_or_fault fs = required (next_of fs)

-- ---- the header
-- A given K of 0 is none.
abbrev pub given_k : ℕ → Option ℕ
given_k zero = none
given_k (suc k) = some (suc k)

-- The code's answer is that of a definition, whatever the file is called; what is accepted leaves the place at which it ends.
pub record IsHeaderField (kind : FileKind) (tag : ℕ) (s : List ℕ) (at : ℕ) (r : code.Result HeaderField Fault) : Type 0 where
  pub is : (file : ℕ) → header_field kind file tag (fields_at s at) ≡ told file (λ h. (h.at, h.value, fields_at s h.next)) r

pub record IsEdition (kind : FileKind) (newest : ℕ) (s : List ℕ) (r : code.Result Numbered Fault) : Type 0 where
  pub is : (file : ℕ) → edition_field kind file newest (fields s) ≡ told file (λ n. (n.value, fields_at s n.next)) r

pub record IsConstants (kind : FileKind) (given : ℕ) (s : List ℕ) (at : ℕ) (r : code.Result Numbered Fault) : Type 0 where
  pub is : (file : ℕ) → constants_field kind file (given_k given) (fields_at s at) ≡ told file (λ n. (n.value, fields_at s n.next)) r

abbrev pub header_of : List ℕ → Headed → Header
header_of s h = record { number = h.edition; K = h.k; rest = fields_at s h.next }

pub record IsHeader (kind : FileKind) (newest given : ℕ) (s : List ℕ) (r : code.Result Headed Fault) : Type 0 where
  pub is : (file : ℕ) → header kind file newest (given_k given) (fields s) ≡ told file (header_of s) r
