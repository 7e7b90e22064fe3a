-- Laws of counting the bytes that stay. Assumes nothing.
use mathlib.Core.Path.{◌≡◌, refl, sym, ◌∙◌, ap}
use mathlib.Core.Bool.{Bool, true, false, not, cond}
use mathlib.Core.List.{List, ◌∷◌}
use Prim.Native.Nat.{ℕ, zero, suc, ◌+◌, ◌≤◌, ◌<◌}
use native.Mathlib.Omega.{arith}
use lib.Dec.{eqb}
use lib.ListN.{length, get_or, take, drop}
use lib.Seq.{drop-cons}
use borrow.Author.Tests.{eq-eqb, ne_eqb}
use Rattle.fields.specs.Fields.{Field, Fields}
use Rattle.fields.specs.Places.{fields_at}
use Rattle.fields.proofs.Places.{Starts, starts-size}
use Rattle.shortening.specs.Passes.{is_kept}
use Rattle.shortening_table.specs.Table.{row_fields, bytes_from, ReportCovers}

pub kept_test : (n : ℕ) → is_kept n ≡ not (eqb n 0)
kept_test zero = refl
kept_test (suc n) = sym (ap not (ne_eqb (suc n) 0 (λ e. absurd (let z : ⊥ = omega (arith, e) in z))))

-- What is left to count, with what is counted, gives the whole; it fits the file.
pub record CountingBytes (p : List ℕ) (at : ℕ) (report : List ℕ) (here rows : ℕ) (stays : Bool) (bytes : ℕ) : Type 0 where
  pub is : bytes + bytes_from (fields_at p here) (drop rows report) stays ≡ bytes_from (fields_at p at) report true
  pub room : rows + row_fields (fields_at p here) ≤ length report
  pub few : bytes ≤ here
  pub within : bytes ≤ length p

pub counting-start : {p : List ℕ} {at : ℕ} {report : List ℕ} → ReportCovers (fields_at p at) report → CountingBytes p at report at 0 true 0
counting-start c = record { is = omega arith; room = omega (arith, c.room); few = omega arith; within = omega arith }

module _ {p : List ℕ} {at : ℕ} {report : List ℕ} {here rows : ℕ} {stays : Bool} {bytes : ℕ} (v : CountingBytes p at report here rows stays bytes) where
  module _ {a tag start len next : ℕ} (k : Starts p here a tag start len next) where
    abbrev field : Field
    field = record { at = a; tag = tag; contents = take len (drop start p) }

    ahead : here + 3 + len ≤ next
    ahead = omega (arith, k.from, k.start_is, k.next-is)

    pub kept_lines-fit : bytes + (3 + len) ≤ length p
    kept_lines-fit = omega (arith, v.few, ahead, k.upto)

    -- the field is gone by, which stays or goes: so many rows before the next one
    pub record Passed (rows' : ℕ) (stays' : Bool) : Type 0 where
      pub is : bytes_from (fields_at p here) (drop rows report) stays ≡ cond stays' (3 + len) 0 + bytes_from (fields_at p next) (drop rows' report) stays'
      pub room : rows' + row_fields (fields_at p next) ≡ rows + row_fields (fields_at p here)

    -- a claim does as the row before it
    pub passed-claim : {rows' : ℕ} {stays' : Bool} → tag ≡ 0x20 → rows' ≡ rows → stays' ≡ stays → Passed rows' stays'
    passed-claim c r s =
        let own : Passed rows stays = record {
          is = ap (λ (fs : Fields). bytes_from fs (drop rows report) stays) k.is ∙ rw (eq-eqb tag 0x20 c, starts-size k);
          room = ap (λ (m : ℕ). rows + m) (sym (ap row_fields k.is ∙ rw (eq-eqb tag 0x20 c)));
        } in
        rw (r, s) own

    module _ (c : ¬ (tag ≡ 0x20)) where
      row-rows : row_fields (fields_at p here) ≡ suc (row_fields (fields_at p next))
      row-rows = ap row_fields k.is ∙ rw (ne_eqb tag 0x20 c)

      pub row-there : rows < length report
      row-there = omega (arith, v.room, row-rows)

      -- a row by its report
      pub passed-row : {rows' : ℕ} {stays' : Bool} → rows' ≡ rows + 1 → stays' ≡ not (eqb (get_or report rows 0) 0) → Passed rows' stays'
      passed-row r s =
          let one : suc rows ≡ rows + 1 = omega arith in
          let d : drop rows report ≡ get_or report rows 0 ∷ drop (rows + 1) report = drop-cons report rows 0 row-there ∙ ap (λ (n : ℕ). get_or report rows 0 ∷ drop n report) one in
          let own : Passed (rows + 1) (not (eqb (get_or report rows 0) 0)) = record {
            is = ap (λ (fs : Fields). bytes_from fs (drop rows report) stays) k.is ∙ rw (ne_eqb tag 0x20 c, starts-size k, d, kept_test (get_or report rows 0));
            room = omega (arith, row-rows);
          } in
          rw (r, s) own

    -- the bytes with it and without it
    module _ {rows' : ℕ} {stays' : Bool} (q : Passed rows' stays') where
      pub field-stays : stays' ≡ true → CountingBytes p at report next rows' stays' (bytes + (3 + len))
      field-stays s =
          let z : cond stays' (3 + len) 0 ≡ 3 + len = ap (λ (b : Bool). cond b (3 + len) 0) s in
          record { is = omega (arith, v.is, q.is, z); room = omega (arith, v.room, q.room); few = omega (arith, v.few, ahead); within = omega (arith, v.within, kept_lines-fit) }

      pub field-goes : stays' ≡ false → CountingBytes p at report next rows' stays' bytes
      field-goes s =
          let z : cond stays' (3 + len) 0 ≡ 0 = ap (λ (b : Bool). cond b (3 + len) 0) s in
          record { is = omega (arith, v.is, q.is, z); room = omega (arith, v.room, q.room); few = omega (arith, v.few, ahead); within = omega (arith, v.within) }
