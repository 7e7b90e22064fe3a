-- A table of permitted rows is read as these rows. Assumes nothing.
use mathlib.Core.Path.{◌≡◌, refl, sym, ◌∙◌, ap, ap₂}
use mathlib.Core.Option.{Option, some}
use mathlib.Core.List.{List, [], ◌∷◌, map}
use Prim.Native.Nat.{ℕ, ◌+◌, ◌*◌, ◌≤◌}
use native.Mathlib.Omega.{arith}
use lib.ListN.{length, length-append}
use lib.IntN.{ℤ, pos, negsuc}
use Rattle.forms.specs.Edition.{edition1}
use Rattle.forms.specs.Forms.{All, nil, cons}
use Rattle.calculus.specs.Rules.{Combine, Reduce, Scale, Row, Derive, Strengthen, Split, CloseNumber, CloseStride, Round, Entry, row}
use Rattle.number_bytes.specs.Numbers.{unsigned, complement, signed, unsigned_bytes, residue, signed_bytes}
use Rattle.fields.specs.Fields.{Item, item, items, fields, note, Framed, file_of, field_bytes, unless_note_item, without_notes}
use Rattle.fields.proofs.Framing.{items-file_of, length-field_bytes}
use Rattle.bundle.specs.Layout.{Each, nil, cons}
use Rattle.proof.specs.Entries.{EntryTag, combine_tag, reduce_tag, scale_tag, strengthen_tag, number_tag, stride_tag, entry_tagged, line_number, multiplier, size_of, entry_from}
use Rattle.proof.specs.Layout.{Enters}
use Rattle.enumeration.specs.ShortProofs.{multipliers, signed_multipliers, strides, PermittedRow, row_item, proof_file}
use Rattle.enumeration.proofs.Members.{all_in}

-- ---- one row
none : (i : ℕ) → 0 + i ≡ i
none i = omega arith

module _ (K : ℕ) where
  abbrev Read : Row → Type 0
  Read r = Enters edition1 K (row_item r) (row r)

  combine-enters : (i j : ℕ) → All (λ α. All (λ β. Read (Derive (Combine i j α β))) multipliers) multipliers
  unfolding row_item entry_tagged size_of entry_from line_number multiplier unsigned unsigned_bytes
  combine-enters i j =
      cons {x = 1} (cons {x = 1} (record { tagged = combine_tag; tag = refl; size = omega arith; entry = ap₂ (λ (i j : ℕ). row (Derive (Combine i j 1 1))) (none i) (none j) }) (cons {x = 2} (record { tagged = combine_tag; tag = refl; size = omega arith; entry = ap₂ (λ (i j : ℕ). row (Derive (Combine i j 1 2))) (none i) (none j) }) nil))
      (cons {x = 2} (cons {x = 1} (record { tagged = combine_tag; tag = refl; size = omega arith; entry = ap₂ (λ (i j : ℕ). row (Derive (Combine i j 2 1))) (none i) (none j) }) (cons {x = 2} (record { tagged = combine_tag; tag = refl; size = omega arith; entry = ap₂ (λ (i j : ℕ). row (Derive (Combine i j 2 2))) (none i) (none j) }) nil)) nil)

  reduce-enters : (i j : ℕ) → All (λ α. Read (Derive (Reduce i j α))) signed_multipliers
  unfolding row_item entry_tagged size_of entry_from line_number multiplier unsigned complement signed unsigned_bytes residue signed_bytes
  reduce-enters i j =
      cons {x = pos 1} (record { tagged = reduce_tag; tag = refl; size = omega arith; entry = ap₂ (λ (i j : ℕ). row (Derive (Reduce i j (pos 1)))) (none i) (none j) }) (cons {x = pos 2} (record { tagged = reduce_tag; tag = refl; size = omega arith; entry = ap₂ (λ (i j : ℕ). row (Derive (Reduce i j (pos 2)))) (none i) (none j) })
      (cons {x = negsuc 1} (record { tagged = reduce_tag; tag = refl; size = omega arith; entry = ap₂ (λ (i j : ℕ). row (Derive (Reduce i j (negsuc 1)))) (none i) (none j) }) (cons {x = negsuc 0} (record { tagged = reduce_tag; tag = refl; size = omega arith; entry = ap₂ (λ (i j : ℕ). row (Derive (Reduce i j (negsuc 0)))) (none i) (none j) }) nil)))

  scale-enters : (i : ℕ) → All (λ α. Read (Derive (Scale i α))) multipliers
  unfolding row_item entry_tagged size_of entry_from line_number multiplier unsigned unsigned_bytes
  scale-enters i = cons {x = 1} (record { tagged = scale_tag; tag = refl; size = omega arith; entry = ap (λ (i : ℕ). row (Derive (Scale i 1))) (none i) }) (cons {x = 2} (record { tagged = scale_tag; tag = refl; size = omega arith; entry = ap (λ (i : ℕ). row (Derive (Scale i 2))) (none i) }) nil)

  stride-enters : (i : ℕ) → All (λ g. Read (CloseStride i g)) strides
  unfolding row_item entry_tagged size_of entry_from line_number multiplier unsigned unsigned_bytes
  stride-enters i =
      cons {x = 2} (record { tagged = stride_tag; tag = refl; size = omega arith; entry = ap (λ (i : ℕ). row (CloseStride i 2)) (none i) }) (cons {x = 3} (record { tagged = stride_tag; tag = refl; size = omega arith; entry = ap (λ (i : ℕ). row (CloseStride i 3)) (none i) })
      (cons {x = 4} (record { tagged = stride_tag; tag = refl; size = omega arith; entry = ap (λ (i : ℕ). row (CloseStride i 4)) (none i) }) nil))

  pub row-enters : (r : Row) → PermittedRow r → Enters edition1 K (row_item r) (row r)
  unfolding row_item entry_tagged size_of entry_from line_number unsigned
  row-enters (Derive (Combine i j α β)) (p, q) = all_in (λ (β : ℕ). Read (Derive (Combine i j α β))) multipliers (all_in (λ (α : ℕ). All (λ (β : ℕ). Read (Derive (Combine i j α β))) multipliers) multipliers (combine-enters i j) α p) β q
  row-enters (Derive (Reduce i j α)) p = all_in (λ (α : ℤ). Read (Derive (Reduce i j α))) signed_multipliers (reduce-enters i j) α p
  row-enters (Derive (Scale i α)) p = all_in (λ (α : ℕ). Read (Derive (Scale i α))) multipliers (scale-enters i) α p
  row-enters (Strengthen i) p = record { tagged = strengthen_tag; tag = refl; size = omega arith; entry = ap (λ (i : ℕ). row (Strengthen i)) (none i) }
  row-enters (Split i) p = absurd p
  row-enters (CloseNumber i) p = record { tagged = number_tag; tag = refl; size = omega arith; entry = ap (λ (i : ℕ). row (CloseNumber i)) (none i) }
  row-enters (CloseStride i g) p = all_in (λ (g : ℕ). Read (CloseStride i g)) strides (stride-enters i) g p
  row-enters (Round i g k) p = absurd p

  -- a field states one entry at most
  one-tagged : {o : Option EntryTag} {x y : EntryTag} → o ≡ some x → o ≡ some y → x ≡ y
  one-tagged p q = cc

  one_entry : {i : Item} {x y : Entry} → Enters edition1 K i x → Enters edition1 K i y → x ≡ y
  one_entry {i} h g = sym h.entry ∙ ap (λ (t : EntryTag). entry_from edition1 K t i.contents) (one-tagged h.tag g.tag) ∙ g.entry

  pub rows-enter : {rs : List Row} → All PermittedRow rs → Each (Enters edition1 K) (map row_item rs) (map row rs)
  rows-enter nil = nil
  rows-enter (cons {x = r} p ps) = cons (row-enters r p) (rows-enter ps)

  pub entered-rows : (rs : List Row) → All PermittedRow rs → (es : List Entry) → Each (Enters edition1 K) (map row_item rs) es → es ≡ map row rs
  entered-rows [] nil _ nil = refl
  entered-rows (r ∷ rs) (cons p ps) _ (cons {y = x} {ys = es} h hs) = ap₂ (λ (x : Entry) (es : List Entry). x ∷ es) (one_entry h (row-enters r p)) (entered-rows rs ps es hs)

-- ---- the whole table
-- a row has 9 bytes at most, and no row is a note
row-length : (r : Row) → length (row_item r).contents ≤ 6
unfolding row_item unsigned_bytes signed_bytes
row-length (Derive (Combine i j α β)) = omega arith
row-length (Derive (Reduce i j α)) = omega arith
row-length (Derive (Scale i α)) = omega arith
row-length (Strengthen i) = omega arith
row-length (Split i) = omega arith
row-length (CloseNumber i) = omega arith
row-length (CloseStride i g) = omega arith
row-length (Round i g k) = omega arith

row_kept : (r : Row) (is : List Item) → unless_note_item (note (row_item r).tag) (row_item r) is ≡ row_item r ∷ is
unfolding row_item note unless_note_item
row_kept (Derive (Combine i j α β)) is = refl
row_kept (Derive (Reduce i j α)) is = refl
row_kept (Derive (Scale i α)) is = refl
row_kept (Strengthen i) is = refl
row_kept (Split i) is = refl
row_kept (CloseNumber i) is = refl
row_kept (CloseStride i g) is = refl
row_kept (Round i g k) is = refl

rows-kept : (rs : List Row) → without_notes (map row_item rs) ≡ map row_item rs
unfolding without_notes
rows-kept [] = refl
rows-kept (r ∷ rs) = row_kept r (without_notes (map row_item rs)) ∙ ap (λ (is : List Item). row_item r ∷ is) (rows-kept rs)

rows-framed : (rs : List Row) → All Framed (map row_item rs)
rows-framed [] = nil
rows-framed (r ∷ rs) = cons {x = row_item r} (record { framed = omega (arith, row-length r) }) (rows-framed rs)

pub table-items : (K : ℕ) (rs : List Row) → items (fields (proof_file K rs)) ≡ some (item 0x01 (1 ∷ []) ∷ item 0x02 (K ∷ []) ∷ map row_item rs)
unfolding proof_file without_notes note unless_note_item
table-items K rs = items-file_of _ (cons {x = item 0x01 (1 ∷ [])} (record { framed = omega arith }) (cons {x = item 0x02 (K ∷ [])} (record { framed = omega arith }) (rows-framed rs)))
    ∙ ap (λ (is : List Item). some (item 0x01 (1 ∷ []) ∷ item 0x02 (K ∷ []) ∷ is)) (rows-kept rs)

-- it is short
rows-length : (rs : List Row) → length (file_of (map row_item rs)) ≤ 9 * length rs
unfolding file_of
rows-length [] = omega arith
rows-length (r ∷ rs) = rw length-append (omega (arith, length-field_bytes (row_item r).tag (row_item r).contents, row-length r, rows-length rs))

pub table-length : (K : ℕ) (rs : List Row) → length rs ≤ 3 → length (proof_file K rs) ≤ 35
unfolding proof_file file_of field_bytes unsigned_bytes
table-length K rs h = omega (arith, rows-length rs)
