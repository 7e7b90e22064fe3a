-- A written field is the front of the fields. Assumes nothing.
use mathlib.Core.Path.{◌≡◌, refl}
use mathlib.Core.Bool.{false}
use mathlib.Core.List.{List, [], ◌++◌}
use Prim.Native.Nat.{ℕ, zero, suc, ◌+◌, ◌<◌}
use lib.ListN.{length}
use Rattle.fields.specs.Fields.{front, ends, ◌▸◌, note, unless_note, fields_from, field_bytes}
use Rattle.fields.proofs.Framing.{front-whole}

pub fields-field : (tag : ℕ) (contents more : List ℕ) (fuel at : ℕ) → length contents < 0x10000 → note tag ≡ false
    → fields_from (suc fuel) at (field_bytes tag contents ++ more) ≡ record { at = at; tag = tag; contents = contents } ▸ fields_from fuel (at + 3 + length contents) more
unfolding fields_from unless_note
fields-field tag contents more fuel at h n = rw (front-whole tag contents more h, fields_from, n)

pub fields-end : (fuel at : ℕ) → fields_from fuel at [] ≡ ends at
unfolding fields_from front
fields-end zero at = refl
fields-end (suc fuel) at = refl
