-- A proof turned down is not longer than it was. Assumes nothing.
use mathlib.Core.Path.{◌≡◌, refl, sym, ◌∙◌, ap, subst}
use mathlib.Core.Option.{none}
use mathlib.Core.Bool.{Bool, true, false, cond}
use mathlib.Core.List.{List, [], ◌∷◌, ◌++◌}
use Prim.Native.Nat.{ℕ, zero, suc, ◌+◌, ◌*◌, ◌-◌, ◌≤◌}
use native.Mathlib.Omega.{arith}
use borrow.Author.Tests.{leb-true}
use lib.Dec.{leb, eqb}
use lib.ListN.{length, take, drop, length-append, length-drop}
use lib.Seq.{length-take-le}
use Rattle.forms.specs.Edition.{edition, edition1, newest_edition}
use Rattle.calculus.specs.Rules.{Entry}
use Rattle.answers.specs.Answers.{file_proof, accepted}
use Rattle.number_bytes.specs.Numbers.{unsigned, unsigneds, unsigneds_bytes}
use Rattle.fields.specs.declared.FileKind.{FileKind}
use Rattle.fields.specs.Fields.{Field, Front, whole, broken, nothing, front, Fields, ◌▸◌, note, unless_note, fields_from, fields, field_bytes, Item, item}
use Rattle.fields.specs.Header.{Header, header, header_bytes}
use Rattle.fields.proofs.Framing.{length-field_bytes, from_nothing, from-broken, from-whole}
use Rattle.fields.proofs.Headers.{length-header_bytes}
use Rattle.fields.proofs.HeaderLaid.{first_of, header-gives}
use Rattle.bundle.proofs.Laid.{Lists, done, next, itemed}
use Rattle.proof.specs.Entries.{entry_tagged, line_count}
use Rattle.proof.specs.Layout.{Enters}
use Rattle.conversion.specs.Turning.{behind_header, lines_turned, fields_turned, entries_read}
use Rattle.conversion.proofs.Carried.{turned-is, head-size, there}
use Rattle.conversion.proofs.First.{rest_gives}
use Rattle.conversion.proofs.Proofs.{entries-give}

-- ---- the fields of a file are not longer than the file
-- The fields as they are, notes left out.
abbrev unturned : Fields → List ℕ
unturned fs = fields_turned (λ i. i.contents) fs

abbrev Sized : Front → ℕ → Type 0
Sized (whole tag contents after) n = 3 + length contents + length after ≤ n
Sized broken n = Unit {0}
Sized nothing n = Unit {0}

front-sized : (bs : List ℕ) → Sized (front bs) (length bs)
unfolding front
front-sized [] = tt
front-sized (t ∷ []) = tt
front-sized (t ∷ h ∷ []) = tt
front-sized (t ∷ h ∷ l ∷ bs) = go (leb n (length bs)) refl
  where
    n : ℕ
    n = unsigned (h ∷ l ∷ [])

    go : (b : Bool) → leb n (length bs) ≡ b → Sized (elim b [ true ↦ whole t (take n bs) (drop n bs) | false ↦ broken ]) (length (t ∷ h ∷ l ∷ bs))
    go true e = omega (arith, leb-true n (length bs) e, length-take-le n bs (leb-true n (length bs) e), length-drop n bs)
    go false e = tt

unless-size : (b : Bool) (f : Field) (fs : Fields) → length (unturned (unless_note b f fs)) ≤ 3 + length f.contents + length (unturned fs)
unfolding unless_note fields_turned
unless-size true f fs = omega arith
unless-size false f fs = omega (arith, length-append (field_bytes f.tag f.contents) (unturned fs), length-field_bytes f.tag f.contents)

from-size : (fuel at : ℕ) (bs : List ℕ) → length (unturned (fields_from fuel at bs)) ≤ length bs
unfolding fields_from fields_turned
from-size zero at bs = omega arith
from-size (suc fuel) at bs = go (from-size fuel) (front bs) refl
  where
    go : ((at : ℕ) (bs : List ℕ) → length (unturned (fields_from fuel at bs)) ≤ length bs) → (x : Front) → front bs ≡ x → length (unturned (fields_from (suc fuel) at bs)) ≤ length bs
    go ih nothing e = subst (λ (fs : Fields). length (unturned fs) ≤ length bs) (sym (from_nothing fuel at bs e)) (omega arith)
    go ih broken e = subst (λ (fs : Fields). length (unturned fs) ≤ length bs) (sym (from-broken fuel at bs e)) (omega arith)
    go ih (whole tag contents after) e =
        let s : 3 + length contents + length after ≤ length bs = rw e at (front-sized bs) in
        subst (λ (fs : Fields). length (unturned fs) ≤ length bs) (sym (from-whole fuel at bs e))
        (omega (arith, s, ih (at + 3 + length contents) after, unless-size (note tag) (record { at = at; tag = tag; contents = contents }) (fields_from fuel (at + 3 + length contents) after)))

fields-size : (file : List ℕ) → length (unturned (fields file)) ≤ length file
unfolding fields
fields-size file = from-size (length file) 0 file

-- ---- no line number is narrower than edition 1's
no-narrower : (b : Bool) (n : ℕ) → n * 1 ≤ n * cond b 1 2
no-narrower true n = omega arith
no-narrower false n = omega arith

shorter-by : (turned size narrow wide : ℕ) → turned ≡ narrow + (size - wide) → wide ≤ size → narrow ≤ wide → turned ≤ size
shorter-by turned size narrow wide e h k = omega arith

module _ (a K : ℕ) where
  lines-shorter : (i : Item) {x : Entry} → Enters (edition a) K i x → length (lines_turned (edition a) edition1 i) ≤ length i.contents
  lines-shorter i h =
      let n = line_count (entry_tagged i.tag) in
      let w = (edition a).line_width in
      shorter-by _ _ (n * 1) (n * w)
      (ap length (turned-is a 1 i) ∙ length-append (unsigneds_bytes 1 (unsigneds w n i.contents)) (drop (n * w) i.contents) ∙ rw (head-size w 1 n i.contents, length-drop (n * w) i.contents))
      (there a 1 K i h) (no-narrower (eqb a 1) n)

  fields-shorter : {fs : Fields} {es : List Entry} → Lists (Enters (edition a) K) fs es → length (fields_turned (lines_turned (edition a) edition1) fs) ≤ length (unturned fs)
  unfolding fields_turned
  fields-shorter (done at) = omega arith
  fields-shorter (next f {fs = fs} s l) =
      let i = item f.tag f.contents in
      let turned = lines_turned (edition a) edition1 i in
      omega (
        arith,
        lines-shorter i s,
        fields-shorter l,
        length-append (field_bytes f.tag turned) (fields_turned (lines_turned (edition a) edition1) fs),
        length-field_bytes f.tag turned,
        length-append (field_bytes f.tag f.contents) (unturned fs),
        length-field_bytes f.tag f.contents,
      )

-- ---- the header's two fields have eight bytes
two-first : (f g : Field) (fs : Fields) {m n : ℕ} → f.contents ≡ m ∷ [] → g.contents ≡ n ∷ [] → length (unturned (f ▸ g ▸ fs)) ≡ 8 + length (unturned fs)
unfolding fields_turned
two-first f g fs p q =
    omega (
      arith,
      ap length p,
      ap length q,
      length-field_bytes f.tag f.contents,
      length-field_bytes g.tag g.contents,
      length-append (field_bytes f.tag f.contents) (field_bytes g.tag g.contents ++ unturned fs),
      length-append (field_bytes g.tag g.contents) (unturned fs),
    )

-- A proof that is read whole: turned down it is not longer.
pub down-shorter : (file : List ℕ) (h : Header) → header FileKind.Proof file_proof newest_edition none (fields file) ≡ accepted h → entries_read (edition h.number) h.K false h.rest ≡ accepted tt
    → length (header_bytes 1 h.K ++ fields_turned (lines_turned (edition h.number) edition1) h.rest) ≤ length file
unfolding behind_header
down-shorter file h e r =
    let x = (entries-give (edition h.number) h.K false h.rest).gives tt r in
    let t = itemed x.lists in
    let f = first_of (fields file) _ _ (((header-gives FileKind.Proof file_proof newest_edition none (fields file)).gives h e).from t.list t.are) in
    let g = first_of f.after _ _ f.rest in
    let are : fields file ≡ f.first ▸ g.first ▸ g.after = f.are ∙ ap (λ (fs : Fields). f.first ▸ fs) g.are in
    let rest : h.rest ≡ g.after = (rest_gives FileKind.Proof file_proof newest_edition none (fields file)).gives h e ∙ ap behind_header are in
    let size : length (unturned (fields file)) ≡ 8 + length (unturned h.rest) = ap (λ (fs : Fields). length (unturned fs)) are ∙ two-first f.first g.first g.after f.contents g.contents ∙ ap (λ (fs : Fields). 8 + length (unturned fs)) (sym rest) in
    let turned = fields_turned (lines_turned (edition h.number) edition1) h.rest in
    omega (arith, size, fields-size file, fields-shorter h.number h.K x.lists, length-append (header_bytes 1 h.K) turned, length-header_bytes 1 h.K)
