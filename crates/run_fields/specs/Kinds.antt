-- What an entry is to the walk, by the code's answer. Assumes nothing.
use Rattle.std.specs.Prelude.{◌≡◌, Bool, true, false, not, List, ◌∷◌, ℕ, suc, ◌+◌, eqb, length, Ok, Err}
use Rattle.std.specs.declared.result.Result as code
use Rattle.std.proofs.Math.Option.{Option}
use Rattle.forms.specs.Edition.{edition}
use Rattle.answers.specs.declared.Answer.{Answer}
use Rattle.answers.specs.Answers.{Result, refused, accepted, ◌>>=◌}
use Rattle.answers.specs.Refusals.{number_of}
use Rattle.answers.specs.declared.refusals.Refusal.{Refusal}
use Rattle.fields.specs.Fields.{Field, Fields, Item, item}
use Rattle.number_bytes.specs.Numbers.{unsigned}
use Rattle.proof.specs.Entries.{multiplier, entry}
use Rattle.run.specs.Uniform.{with_number, Walked, Walker, FollowingWalk, first_and_third, all_alike, walk_opened, walk_closed, walk_entry}
use Rattle.run_fields.specs.declared.kind.Matching.{Matching}
use Rattle.run_fields.specs.declared.kind.EntryKind.{EntryKind}

-- The branches that must be alike are.
abbrev pub alike_by : Matching → List (List Item) → Bool
alike_by Matching.FirstAndThird = first_and_third
alike_by Matching.All = all_alike
alike_by Matching.Nothing = λ owns. true

-- Whether branch b must be as the first.
abbrev pub compared_in : Matching → ℕ → Bool
compared_in Matching.FirstAndThird b = eqb b 2
compared_in Matching.All b = not (eqb b 0)
compared_in Matching.Nothing b = false

-- Contents of `len` bytes where `size` are laid out.
abbrev pub sized_by : (fits : Bool) → EntryKind → code.Result EntryKind Refusal
sized_by true kind = Ok kind
sized_by false kind = Err Refusal.WrongLength

abbrev pub sized_as : (len size : ℕ) → EntryKind → code.Result EntryKind Refusal
sized_as len size kind = sized_by (eqb len size) kind

-- The walk behind the row f.
abbrev pub behind : Field → Walked → Walked
behind f w = record { own = item f.tag f.contents ∷ w.own; rows = w.rows; unlike = w.unlike; after = w.after }

module _ (deeper : Option Walker) (next : FollowingWalk) (refusal : ℕ → Answer) (rows : ℕ) (f : Field) (fs : Fields) where
  abbrev pub walk_kind : code.Result EntryKind Refusal → Result Walked
  walk_kind (Ok EntryKind.Derives) = next (suc rows) true >>= λ w. accepted (behind f w)
  walk_kind (Ok (EntryKind.Opens last alike)) = walk_opened deeper refusal rows f fs last (alike_by alike)
  walk_kind (Ok EntryKind.Closes) = walk_closed refusal rows f fs
  walk_kind (Ok EntryKind.Claims) = refused (with_number 27 (refusal 14))
  walk_kind (Err n) = refused (refusal (number_of n))

-- A field of a proof of edition n with this tag and these contents is walked as its kind.
pub record IsKind (n K : ℕ) (tag : ℕ) (bs : List ℕ) (made : Bool) (r : code.Result EntryKind Refusal) : Type 0 where
  pub is : (deeper : Option Walker) (next : FollowingWalk) (refusal : ℕ → Answer) (rows : ℕ) (f : Field) (fs : Fields) → f.tag ≡ tag → f.contents ≡ bs
      → (entry (edition n) K refusal made f >>= λ x. walk_entry deeper next refusal rows f fs x) ≡ walk_kind deeper next refusal rows f fs r

-- How many bytes such a field's contents have, and what it then is; or its refusal, whatever its contents.
abbrev pub sized_of : (len : ℕ) → code.Result (ℕ × EntryKind) Refusal → code.Result EntryKind Refusal
sized_of len (Ok x) = sized_as len x.0 x.1
sized_of len (Err r) = Err r

pub record LaidOut (n K : ℕ) (tag : ℕ) (made : Bool) (r : code.Result (ℕ × EntryKind) Refusal) : Type 0 where
  pub is : (bs : List ℕ) → IsKind n K tag bs made (sized_of (length bs) r)

-- The contents of a rounding's field, of a proof of edition n: its k, or 6.
pub record RoundKind (n : ℕ) (bs : List ℕ) (r : code.Result EntryKind Refusal) : Type 0 where
  pub is : r ≡ sized_as (length bs) ((edition n).line_width + 4) (EntryKind.Opens (unsigned (multiplier (edition n) 1 1 bs)) Matching.All)
