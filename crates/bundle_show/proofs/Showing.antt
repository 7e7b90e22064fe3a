-- Showing a constraint: where its field stands, and each way through the code as a law over plain values. Assumes nothing.
use mathlib.Core.Path.{◌≡◌, refl, sym, ap, ◌∙◌}
use mathlib.Core.Option.{Option, none, some}
use mathlib.Core.Bool.{Bool, true, false, cond}
use mathlib.Core.List.{List}
use Prim.Native.Nat.{ℕ, zero, suc, ◌+◌, ◌-◌, ◌*◌, ◌≤◌, ◌<◌}
use native.Mathlib.Omega.{arith}
use lib.Dec.{ltb, eqb}
use lib.ListN.{length}
use borrow.Author.Tests.{lt-ltb, le-ltb, ltb-true, ltb-false, lt-leb, le-leb, eq-eqb, ne_eqb}
use Rattle.forms.specs.Edition.{Edition, edition}
use Rattle.forms.specs.Forms.{Constraint}
use Rattle.std.specs.Prelude.{Ok, Err}
use Rattle.std.specs.declared.result.Result as code
use Rattle.answers.specs.declared.refusals.Fault.{Fault}
use Rattle.answers.specs.declared.Answer.{Answer}
use Rattle.answers.specs.Answers.{answer, acceptance, file_a, file_b, refused, accepted, ◌>>=◌, ◌>>◌, need, found}
use Rattle.fields.specs.Fields.{Field, Fields, ends, cut, ◌▸◌, Item, fields, nth}
use Rattle.fields.specs.Places.{fields_at}
use Rattle.fields.proofs.HeaderLaid.{First, first_of}
use Rattle.fields.proofs.Places.{Starts, starts, fields-whole-file}
use Rattle.bundle.specs.Bundle.{Bundle, at_most, bundles, both_read}
use Rattle.bundle.specs.Layout.{States}
use Rattle.bundle.specs.Show.{part_of, constraint_part, shown_part, answer_of, show_answer, handed, show_part}
use Rattle.bundle.specs.Writable.{field_size}
use Rattle.bundle.proofs.Laid.{Lists, done, next, listed, Laid, both-read-short}
use Rattle.bundle_scan.specs.Scan.{constraint_start, IsBundle}
use Rattle.bundle_scan.specs.declared.Body.{Body}
use Rattle.bundle_scan.proofs.Bodies.{count_is, laid_out}
use Rattle.bundle_scan.proofs.BothBundles.{same-k, accepted-both}
use Rattle.bundle_show.specs.Locate.{IsLocated}
use Rattle.bundle_show.specs.Promises.{of_file}
use Rattle.bundle_show.specs.declared.locate.Located.{Located}

-- ---- a field lies in its file
first-starts : (s : List ℕ) (at : ℕ) (f : Field) (fs : Fields) → fields_at s at ≡ f ▸ fs
    → Starts s at f.at f.tag (f.at + 3) (length f.contents) (f.at + 3 + length f.contents)
first-starts s at f fs q = starts refl (rw q)

inside-at : (s : List ℕ) (i at : ℕ) (f : Field) → nth i (fields_at s at) ≡ some f → f.at + (3 + length f.contents) ≤ length s
unfolding nth
inside-at s zero at f e = go (fields_at s at) refl e
  where
    go : (fs : Fields) → fields_at s at ≡ fs → nth 0 fs ≡ some f → f.at + (3 + length f.contents) ≤ length s
    go (ends a) q e = absurd (let z : ◌≡◌ {A = ℕ} 0 1 = cc in omega arith)
    go (cut a) q e = absurd (let z : ◌≡◌ {A = ℕ} 0 1 = cc in omega arith)
    go (g ▸ fs) q e =
        let z : g ≡ f = cc in
        let k = first-starts s at g fs q in
        rw (← z) (omega (arith, k.upto))
inside-at s (suc i) at f e = go (λ n q. inside-at s i n f q) (fields_at s at) refl e
  where
    go : ((n : ℕ) → nth i (fields_at s n) ≡ some f → f.at + (3 + length f.contents) ≤ length s)
        → (fs : Fields) → fields_at s at ≡ fs → nth (suc i) fs ≡ some f → f.at + (3 + length f.contents) ≤ length s
    go rec (ends a) q e = absurd (let z : ◌≡◌ {A = ℕ} 0 1 = cc in omega arith)
    go rec (cut a) q e = absurd (let z : ◌≡◌ {A = ℕ} 0 1 = cc in omega arith)
    go rec (g ▸ fs) q e =
        let k = first-starts s at g fs q in
        let p = sym q ∙ k.is in
        let z : fs ≡ fields_at s (g.at + 3 + length g.contents) = cc in
        rec (g.at + 3 + length g.contents) (rw z at e)

-- ---- the field of a constraint
-- The i-th field is there, and has the size of a constraint with K constants, of numbers of w bytes.
record Stands (fs : Fields) (i w K : ℕ) : Type 0 where
  field : Field
  is : nth i fs ≡ some field
  size : length field.contents ≡ (K + 1) * w

module _ {e : Edition} {K : ℕ} where
  stands-in : {fs : Fields} {cs : List Constraint} → Lists (States e K) fs cs → (i : ℕ) → i < length cs → Stands fs i e.coefficient_width K
  unfolding nth
  stands-in (done at) i h = absurd (omega arith)
  stands-in (next f s l) zero h = let z : suc K ≡ K + 1 = omega arith in record { field = f; is = refl; size = rw z at s.size }
  stands-in (next f s l) (suc i) h = let t = stands-in l i (omega arith) in record { field = t.field; is = t.is; size = t.size }

  gone-in : {fs : Fields} {cs : List Constraint} → Lists (States e K) fs cs → (i : ℕ) → length cs ≤ i → nth i fs ≡ none
  unfolding nth
  gone-in (done at) i h = refl
  gone-in (next f s l) zero h = absurd (omega arith)
  gone-in (next f s l) (suc i) h = gone-in l i (omega arith)

-- a bundle's constraints stand behind two other fields
record Behind (fs : Fields) (b : Bundle) : Type 0 where
  rest : Fields
  nth-is : (i : ℕ) → nth (i + 2) fs ≡ nth i rest
  lists : Lists (States (edition b.edition) b.K) rest b.constraints

two-behind : {fs : Fields} {i j : Item} {is js : List Item} (f : First fs i is) (g : First f.after j js) (n : ℕ) → nth (n + 2) fs ≡ nth n g.after
unfolding nth
two-behind f g n = let z : n + 2 ≡ suc (suc n) = omega arith in rw (z, f.are, g.are)

module _ {newest : ℕ} {given : Option ℕ} {s : List ℕ} {b : Bundle} (l : Laid newest given s b) where
  behind : Behind (fields s) b
  behind =
      let f = first_of (fields s) _ _ (l.file.whole ∙ ap some l.file.laid.are) in
      let g = first_of f.after _ _ f.rest in
      record { rest = g.after; nth-is = two-behind f g; lists = listed g.after g.rest l.file.laid.states }

  stands : (i : ℕ) → i < length b.constraints → Stands (fields s) (i + 2) (edition b.edition).coefficient_width b.K
  stands i h =
      let t = stands-in behind.lists i h in
      record { field = t.field; is = behind.nth-is i ∙ t.is; size = t.size }

  gone : (i : ℕ) → length b.constraints ≤ i → nth (i + 2) (fields s) ≡ none
  gone i h = behind.nth-is i ∙ gone-in behind.lists i h

module _ (s : List ℕ) (i : ℕ) {w K : ℕ} (t : Stands (fields s) (i + 2) w K) where
  found_part : (file : ℕ) → found (answer 10 file_a 0) (part_of file (nth (i + 2) (fields s))) ≡ accepted (record { file = file; start = constraint_start s i; size = field_size w K })
  unfolding found part_of
  found_part file = rw (t.is, t.size)

  lies : constraint_start s i + field_size w K ≤ length s
  lies = rw (t.is, ← t.size) (inside-at s (i + 2) 0 t.field (ap (nth (i + 2)) (sym (fields-whole-file s)) ∙ t.is))

-- ---- the part that a line names
module _ (A B : List ℕ) (i : ℕ) where
  of_A : (count : ℕ) → ltb i count ≡ true → constraint_part A B count i ≡ part_of file_a (nth (i + 2) (fields A))
  unfolding constraint_part
  of_A count h = go (ltb i count) h
    where
      go : (b : Bool) → b ≡ true → elim b [ true ↦ part_of file_a (nth (i + 2) (fields A)) | false ↦ part_of file_b (nth (i - count + 2) (fields B)) ] ≡ part_of file_a (nth (i + 2) (fields A))
      go true e = refl
      go false e = absurd (let z : ◌≡◌ {A = ℕ} 0 1 = cc in omega arith)

  of_B : (count : ℕ) → ltb i count ≡ false → constraint_part A B count i ≡ part_of file_b (nth (i - count + 2) (fields B))
  unfolding constraint_part
  of_B count h = go (ltb i count) h
    where
      go : (b : Bool) → b ≡ false → elim b [ true ↦ part_of file_a (nth (i + 2) (fields A)) | false ↦ part_of file_b (nth (i - count + 2) (fields B)) ] ≡ part_of file_b (nth (i - count + 2) (fields B))
      go true e = absurd (let z : ◌≡◌ {A = ℕ} 0 1 = cc in omega arith)
      go false e = refl

-- ---- each way through the code, up to both bundles
module _ (A B : List ℕ) (i : ℕ) where
  pub shown-long-A : 8192 < length A → shown_part 2 A B i ≡ refused (answer 1 1 0)
  unfolding shown_part both_read at_most need ◌>>◌ ◌>>=◌
  shown-long-A h = rw (lt-leb (length A) 8192 h)

  module _ (la : length A ≤ 8192) where
    pub shown-long-B : 8192 < length B → shown_part 2 A B i ≡ refused (answer 1 2 0)
    unfolding shown_part both_read at_most need ◌>>◌ ◌>>=◌
    shown-long-B h = rw (le-leb (length A) 8192 la, lt-leb (length B) 8192 h)

    module _ (lb : length B ≤ 8192) where
      shown-short : shown_part 2 A B i ≡ (bundles 2 A B >>= (λ (p : Bundle × Bundle). found (answer 10 file_a 0) (constraint_part A B (length p.0.constraints) i)))
      unfolding shown_part
      shown-short = rw (both-read-short 2 A B la lb)

      pub shown-refused : {x : Answer} → bundles 2 A B ≡ refused x → shown_part 2 A B i ≡ refused x
      unfolding ◌>>=◌
      shown-refused e = shown-short ∙ rw e

      shown-both : {a b : Bundle} → bundles 2 A B ≡ accepted (a, b) → shown_part 2 A B i ≡ found (answer 10 file_a 0) (constraint_part A B (length a.constraints) i)
      unfolding ◌>>=◌
      shown-both e = shown-short ∙ rw e

-- ---- each way from there
-- Both files are short enough, and both were gone over.
pub record Pair (A B : List ℕ) (K K' : ℕ) (first second : Body) : Type 0 where
  pub short_a : length A ≤ 8192
  pub short_b : length B ≤ 8192
  pub a : IsBundle 0 A K first
  pub b : IsBundle K B K' second

module _ {A B : List ℕ} {K K' : ℕ} {first second : Body} (p : Pair A B K K' first second) (i : ℕ) where
  shown : shown_part 2 A B i ≡ found (answer 10 file_a 0) (constraint_part A B first.count i)
  shown = shown-both A B i p.short_a p.short_b (accepted-both p.a p.b) ∙ rw (count_is p.a)

  stands-A : i < first.count → Stands (fields A) (i + 2) (edition first.edition).coefficient_width K
  stands-A h = stands (laid_out p.a) i (omega (arith, count_is p.a))

  shown-A : i < first.count → shown_part 2 A B i ≡ accepted (record { file = 1; start = constraint_start A i; size = field_size (edition first.edition).coefficient_width K })
  shown-A h = shown ∙ ap (found (answer 10 file_a 0)) (of_A A B i first.count (lt-ltb i _ h)) ∙ found_part A i (stands-A h) file_a

  module _ (h : first.count ≤ i) where
    in_B : shown_part 2 A B i ≡ found (answer 10 file_a 0) (part_of file_b (nth (i - first.count + 2) (fields B)))
    in_B = shown ∙ ap (found (answer 10 file_a 0)) (of_B A B i first.count (le-ltb i _ h))

    stands-B : i - first.count < second.count → Stands (fields B) (i - first.count + 2) (edition second.edition).coefficient_width K
    stands-B g = rw (← same-k p.a p.b) (stands (laid_out p.b) (i - first.count) (omega (arith, count_is p.b)))

    shown-B : i - first.count < second.count
        → shown_part 2 A B i ≡ accepted (record { file = 2; start = constraint_start B (i - first.count); size = field_size (edition second.edition).coefficient_width K })
    shown-B g = in_B ∙ found_part B (i - first.count) (stands-B g) file_b

    pub shown-none : second.count ≤ i - first.count → shown_part 2 A B i ≡ refused (answer 10 1 0)
    unfolding found part_of
    shown-none g = in_B ∙ rw (gone (laid_out p.b) (i - first.count) (omega (arith, count_is p.b)))

  -- ---- what `locate` finds
  pub located-A : i < first.count → {start size : ℕ} → start ≡ constraint_start A i → size ≡ field_size (edition first.edition).coefficient_width K → IsLocated A B i (Ok (record { file = 1; start = start; size = size }))
  unfolding show_part handed
  located-A h s q = rw (s, q) (record { is = rw (shown-A h); inside = lies A i (stands-A h) })

  pub located-B : first.count ≤ i → i - first.count < second.count → {start size : ℕ} → start ≡ constraint_start B (i - first.count)
      → size ≡ field_size (edition second.edition).coefficient_width K → IsLocated A B i (Ok (record { file = 2; start = start; size = size }))
  unfolding show_part handed
  located-B h g s q = rw (s, q) (record { is = rw (shown-B h g); inside = lies B (i - first.count) (stands-B h g) })

  -- ---- what `show_answer` answers
  pub answer-part : i < first.count + second.count → show_answer 2 A B i ≡ acceptance
  unfolding show_answer answer_of
  answer-part h = go (ltb i first.count) refl
    where
      go : (t : Bool) → ltb i first.count ≡ t → show_answer 2 A B i ≡ acceptance
      go true e = rw (shown-A (ltb-true i first.count e))
      go false e = let l = ltb-false i first.count e in rw (shown-B l (omega arith))

  pub answer-none : first.count + second.count ≤ i → show_answer 2 A B i ≡ answer 10 1 0
  unfolding show_answer answer_of
  answer-none h = rw (shown-none (omega arith) (omega arith))

module _ (A B : List ℕ) (i : ℕ) {x : Answer} (e : shown_part 2 A B i ≡ refused x) where
  pub located-nowhere : {f : Fault} → IsLocated A B i (Err f)
  unfolding show_part handed
  located-nowhere = record { is = rw e; inside = tt }

  pub answer-refused : show_answer 2 A B i ≡ x
  unfolding show_answer answer_of
  answer-refused = rw e

-- ---- what is handed back
module _ {A B : List ℕ} {i : ℕ} {r : code.Result Located Fault} (k : IsLocated A B i r) where
  pub shown-part : {p : Located} → r ≡ Ok p → show_part 2 A B i ≡ record { file = p.file; start = p.start; size = p.size }
  shown-part e = rw (k.is, e)

  pub shown-nothing : {f : Fault} → r ≡ Err f → show_part 2 A B i ≡ record { file = file_a; start = 0; size = 0 }
  shown-nothing e = rw (k.is, e)

  -- the part lies in its file
  module _ {p : Located} (e : r ≡ Ok p) where
    lies_in : p.start + p.size ≤ length (of_file p.file A B)
    lies_in = rw e at k.inside

    pub part-below : (n : ℕ) → length A < n → length B < n → p.start + p.size < n
    part-below n a b = go (eqb p.file file_a) lies_in
      where
        go : (b : Bool) → p.start + p.size ≤ length (cond b A B) → p.start + p.size < n
        go true h = omega arith
        go false h = omega arith

    pub part-A : p.file ≡ 1 → p.start + p.size ≤ length A
    part-A f = rw (eq-eqb p.file file_a f) at lies_in

    pub part-B : (p.file ≡ 1 → ⊥) → p.start + p.size ≤ length B
    part-B f = rw (ne_eqb p.file file_a f) at lies_in
