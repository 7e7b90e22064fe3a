-- What is shown is the whole field of the constraint. Assumes nothing.
use mathlib.Core.Path.{◌≡◌, refl, sym, ◌∙◌, ap, subst}
use mathlib.Core.Bool.{Bool, true, false}
use mathlib.Core.List.{List, [], ◌∷◌, ◌++◌, append_assoc}
use mathlib.Core.Option.{Option, none, some}
use Prim.Native.Nat.{ℕ, zero, suc, ◌+◌, ◌-◌, ◌≤◌, ◌<◌}
use native.Mathlib.Omega.{arith}
use borrow.Author.Tests.{lt-ltb, le-ltb, ltb-true, ltb-false}
use denote.Ref.{Bor}
use lib.Dec.{ltb}
use lib.ListN.{length, take, drop, get_elem?, length-append}
use lib.Seq.{take_at, drop_at}
use Rattle.forms.specs.Edition.{edition, newest_edition}
use Rattle.forms.specs.Forms.{Constraint}
use Rattle.answers.specs.Answers.{file_a, file_b}
use Rattle.answers.proofs.Results.{binds, found_some}
use Rattle.number_bytes.specs.Numbers.{Bytes}
use Rattle.fields.specs.Fields.{Field, Front, whole, broken, nothing, front, Fields, note, unless_note, fields_from, fields, nth, Item, item, field_bytes}
use Rattle.fields.specs.Header.{agrees}
use Rattle.fields.proofs.Framing.{length-field_bytes, from_nothing, from-broken, from-whole}
use Rattle.fields.proofs.WholeFiles.{whole-front}
use Rattle.fields.proofs.HeaderLaid.{First, first_of}
use Rattle.bundle.specs.Layout.{States, BundleFile}
use Rattle.bundle.specs.Show.{Part, part_of, constraint_part, shown_part, handed, show_part}
use Rattle.bundle.proofs.Laid.{Lists, done, next, listed, both-read-accepts}
use Rattle.bundle_show.specs.Promises.{Shows, part_bytes, part_place, behind}
use Rattle.proof.proofs.Agree.{agrees-refl}
use Rattle.guarantee.specs.Acceptance.{Showable}
use Rattle.guarantee.specs.Showing.{WholeField, ShownAs, ShowingPromised}

-- ---- where a field stands in its file
-- These bytes, which start at a place, have the field f.
record Stands (at : ℕ) (bs : List ℕ) (f : Field) : Type 0 where
  before : List ℕ
  after : List ℕ
  are : bs ≡ before ++ (field_bytes f.tag f.contents ++ after)
  at-is : f.at ≡ at + length before

none-some : {X : Type 0} {x : X} → none ≡ some x → ⊥
none-some e = let z : ◌≡◌ {A = ℕ} 0 1 = cc in omega arith

-- behind one more field
further : (at : ℕ) (bs : List ℕ) (tag : ℕ) (contents rest : List ℕ) (f : Field) → bs ≡ field_bytes tag contents ++ rest → Stands (at + 3 + length contents) rest f → Stands at bs f
further at bs tag contents rest f e s = record {
  before = field_bytes tag contents ++ s.before;
  after = s.after;
  are = e ∙ ap (λ (r : List ℕ). field_bytes tag contents ++ r) s.are ∙ sym (append_assoc (field_bytes tag contents) s.before _);
  at-is = omega (arith, s.at-is, length-append (field_bytes tag contents) s.before, length-field_bytes tag contents);
}

module _ (f : Field) where
  stands-step : (fuel at : ℕ) (bs : List ℕ) → Bytes bs → ((i at : ℕ) (rest : List ℕ) → Bytes rest → nth i (fields_from fuel at rest) ≡ some f → Stands at rest f)
      → (x : Front) → front bs ≡ x → (i : ℕ) → nth i (fields_from (suc fuel) at bs) ≡ some f → Stands at bs f
  unfolding nth unless_note
  stands-step fuel at bs k ih nothing e i h = absurd (none-some (sym (ap (nth i) (from_nothing fuel at bs e)) ∙ h))
  stands-step fuel at bs k ih broken e i h = absurd (none-some (sym (ap (nth i) (from-broken fuel at bs e)) ∙ h))
  stands-step fuel at bs k ih (whole tag contents after) e i h =
      let b = whole-front bs k e in
      go b.are (note tag) i (sym (ap (nth i) (from-whole fuel at bs e)) ∙ h) b.rest
    where
      go : bs ≡ field_bytes tag contents ++ after → (n : Bool) (i : ℕ) → nth i (unless_note n (record { at = at; tag = tag; contents = contents }) (fields_from fuel (at + 3 + length contents) after)) ≡ some f → Bytes after → Stands at bs f
      go q true i p r = further at bs tag contents after f q (ih i _ after r p)
      go q false zero p r =
          let z : record { at = at; tag = tag; contents = contents } ≡ f = cc in
          subst (Stands at bs) z (record { before = []; after = after; are = q; at-is = omega arith })
      go q false (suc i) p r = further at bs tag contents after f q (ih i _ after r p)

  stands_from : (fuel i at : ℕ) (bs : List ℕ) → Bytes bs → nth i (fields_from fuel at bs) ≡ some f → Stands at bs f
  unfolding fields_from nth
  stands_from zero i at bs k h = absurd (none-some h)
  stands_from (suc fuel) i at bs k h = stands-step fuel at bs k (λ i at rest k h. stands_from fuel i at rest k h) (front bs) refl i h

  stands : (file : List ℕ) → Bytes file → (i : ℕ) → nth i (fields file) ≡ some f → Stands 0 file f
  unfolding fields
  stands file k i h = stands_from (length file) i 0 file k h

-- ---- the field of a constraint
record Stated (fs : Fields) (i n K : ℕ) (cs : List Constraint) (j : ℕ) : Type 0 where
  field : Field
  own : Constraint
  there : nth i fs ≡ some field
  is : get_elem? cs j ≡ some own
  states : States (edition n) K (item field.tag field.contents) own

stated-in : (n K : ℕ) {fs : Fields} {cs : List Constraint} → Lists (States (edition n) K) fs cs → (i : ℕ) → i < length cs → Stated fs i n K cs i
unfolding nth
stated-in n K (done at) i h = absurd (omega arith)
stated-in n K (next f {x = c} s l) zero h = record { field = f; own = c; there = refl; is = refl; states = s }
stated-in n K (next f s l) (suc i) h = let t = stated-in n K l i (omega arith) in record { field = t.field; own = t.own; there = t.there; is = t.is; states = t.states }

two-behind : {fs : Fields} {i j : Item} {is js : List Item} (f : First fs i is) (g : First f.after j js) (n : ℕ) → nth (n + 2) fs ≡ nth n g.after
unfolding nth
two-behind f g n = let z : n + 2 ≡ suc (suc n) = omega arith in rw (z, f.are, g.are)

stated : {file : List ℕ} {n K : ℕ} {cs : List Constraint} → BundleFile newest_edition file n K cs → (i : ℕ) → i < length cs → Stated (fields file) (i + 2) n K cs i
stated {file} {n} {K} b i h =
    let f = first_of (fields file) _ _ (b.whole ∙ ap some b.laid.are) in
    let g = first_of f.after _ _ f.rest in
    let t = stated-in n K (listed g.after g.rest b.laid.states) i h in
    record { field = t.field; own = t.own; there = two-behind f g i ∙ t.there; is = t.is; states = t.states }

-- ---- the constraint of a line
left-of : {X : Type 0} (xs ys : List X) (i : ℕ) → i < length xs → get_elem? (xs ++ ys) i ≡ get_elem? xs i
left-of [] ys i h = absurd (omega arith)
left-of (x ∷ xs) ys zero h = refl
left-of (x ∷ xs) ys (suc i) h = left-of xs ys i (omega arith)

right_of : {X : Type 0} (xs ys : List X) (i : ℕ) → length xs ≤ i → get_elem? (xs ++ ys) i ≡ get_elem? ys (i - length xs)
right_of [] ys i h = let z : i ≡ i - 0 = omega arith in ap (get_elem? ys) z
right_of (x ∷ xs) ys zero h = absurd (omega arith)
right_of (x ∷ xs) ys (suc i) h = let z : i - length xs ≡ suc i - suc (length xs) = omega arith in right_of xs ys i (omega arith) ∙ ap (get_elem? ys) z

module _ (A B : List ℕ) (line : ℕ) (s : Showable A B line) where
  shown-is : {p : Part} → constraint_part A B (length s.a) line ≡ some p → show_part newest_edition A B line ≡ p
  unfolding show_part shown_part handed agrees
  shown-is e = ap handed (binds _ (both-read-accepts newest_edition A B (record { edition = s.n_A; K = s.K; constraints = s.a }) (record { edition = s.n_B; K = s.K; constraints = s.b })
      (record { laid_a = record { file = s.states_a; agree = tt }; laid_b = record { file = s.states_b; agree = agrees-refl s.K } })) ∙ found_some _ e)

  part-A : line < length s.a → {f : Field} → nth (line + 2) (fields A) ≡ some f → constraint_part A B (length s.a) line ≡ some (record { file = file_a; start = f.at; size = 3 + length f.contents })
  unfolding constraint_part part_of
  part-A h {f} e = go (ltb line (length s.a)) (lt-ltb line _ h)
    where
      go : (t : Bool) → t ≡ true → ◌≡◌ {A = Option Part} (elim t [ true ↦ part_of file_a (nth (line + 2) (fields A)) | false ↦ part_of file_b (nth (line - length s.a + 2) (fields B)) ]) (some (record { file = file_a; start = f.at; size = 3 + length f.contents }))
      go true q = rw e
      go false q = absurd (let z : ◌≡◌ {A = ℕ} 0 1 = cc in omega arith)

  part-B : length s.a ≤ line → {f : Field} → nth (line - length s.a + 2) (fields B) ≡ some f → constraint_part A B (length s.a) line ≡ some (record { file = file_b; start = f.at; size = 3 + length f.contents })
  unfolding constraint_part part_of
  part-B h {f} e = go (ltb line (length s.a)) (le-ltb line _ h)
    where
      go : (t : Bool) → t ≡ false → ◌≡◌ {A = Option Part} (elim t [ true ↦ part_of file_a (nth (line + 2) (fields A)) | false ↦ part_of file_b (nth (line - length s.a + 2) (fields B)) ]) (some (record { file = file_b; start = f.at; size = 3 + length f.contents }))
      go false q = rw e
      go true q = absurd (let z : ◌≡◌ {A = ℕ} 0 1 = cc in omega arith)

-- the bytes of a field at its place
cut_out : {file : List ℕ} {f : Field} (s : Stands 0 file f) → take (3 + length f.contents) (drop f.at file) ≡ field_bytes f.tag f.contents
cut_out {file} {f} s =
    ap (take (3 + length f.contents)) (ap (drop f.at) s.are ∙ drop_at s.before _ f.at (omega (arith, s.at-is)))
    ∙ take_at (field_bytes f.tag f.contents) s.after _ (length-field_bytes f.tag f.contents)

module _ (file : Bor (List ℕ)) (bytes : Bytes file.now) {n K i j : ℕ} {cs : List Constraint} (t : Stated (fields file.now) (i + 2) n K cs j) (part : Bor (List ℕ)) where
  whole-field : part.now ≡ take (3 + length t.field.contents) (drop t.field.at file.now) → part.ref_ptr ≡ behind file.ref_ptr t.field.at → WholeField file n K i t.own part
  whole-field b p =
      let s = stands t.field file.now bytes (i + 2) t.there in
      let is : part.now ≡ field_bytes t.field.tag t.field.contents = b ∙ cut_out s in
      record {
        field = t.field;
        there = t.there;
        states = t.states;
        bytes = is;
        before = s.before;
        after = s.after;
        file_is = s.are ∙ ap (λ (x : List ℕ). s.before ++ (x ++ s.after)) (sym is);
        at = omega (arith, s.at-is);
        place = p ∙ ap (behind file.ref_ptr) (let z : t.field.at ≡ length s.before = omega (arith, s.at-is) in z);
      }

module _ {a b : Bor (List ℕ)} {line : ℕ} {part : Bor (List ℕ)} (ka : Bytes a.now) (kb : Bytes b.now) (c : Shows a b line part) (s : Showable a.now b.now line) where
  in_A : line < length s.a → ShownAs a b line part s
  in_A h =
      let t = stated s.states_a line h in
      let e = shown-is a.now b.now line s (part-A a.now b.now line s h t.there) in
      record {
        own = t.own;
        is = left-of s.a s.b line h ∙ t.is;
        in_A = λ _. whole-field a ka t part (c.bytes ∙ ap (λ (p : Part). part_bytes p a.now b.now) e) (c.place ∙ ap (λ (p : Part). part_place p a.ref_ptr b.ref_ptr) e);
        in_B = λ l. absurd (omega arith);
      }

  in_B : length s.a ≤ line → ShownAs a b line part s
  in_B h =
      let t = stated s.states_b (line - length s.a) (omega (arith, s.there)) in
      let e = shown-is a.now b.now line s (part-B a.now b.now line s h t.there) in
      record {
        own = t.own;
        is = right_of s.a s.b line h ∙ t.is;
        in_A = λ l. absurd (omega arith);
        in_B = λ _. whole-field b kb t part (c.bytes ∙ ap (λ (p : Part). part_bytes p a.now b.now) e) (c.place ∙ ap (λ (p : Part). part_place p a.ref_ptr b.ref_ptr) e);
      }

  shows-it : ShownAs a b line part s
  shows-it = go (ltb line (length s.a)) refl
    where
      go : (t : Bool) → ltb line (length s.a) ≡ t → ShownAs a b line part s
      go true e = in_A (ltb-true line (length s.a) e)
      go false e = in_B (ltb-false line (length s.a) e)

pub showing-promised : ShowingPromised
showing-promised = record { shows = λ a b line part ka kb c s. shows-it ka kb c s }
