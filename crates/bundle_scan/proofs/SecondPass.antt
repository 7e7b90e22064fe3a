-- A second pass over a bundle's constraints, which tests nothing again: where one is left, a whole field of the known size stands. Assumes nothing.
use mathlib.Core.Path.{◌≡◌, refl, sym, ◌∙◌}
use mathlib.Core.Bool.{true, false}
use mathlib.Core.List.{List, [], ◌∷◌}
use Prim.Native.Nat.{ℕ, zero, suc, ◌+◌, ◌*◌, ◌-◌, ◌≤◌, ◌<◌}
use native.Mathlib.Omega.{arith}
use lib.Dec.{ltb}
use lib.ListN.{length, get_or, take, drop}
use borrow.Author.Tests.{ltb-true, ltb-false, eqb-true}
use Rattle.forms.specs.Forms.{Constraint}
use Rattle.forms.specs.Flat.{kind_of, constraint_kind_of}
use Rattle.number_bytes.specs.Numbers.{signeds, flat, form_from}
use Rattle.number_bytes.proofs.Signed.{signeds-take, flat-signeds}
use Rattle.fields.specs.declared.FileKind.{FileKind}
use Rattle.fields.specs.Fields.{ends, cut}
use Rattle.fields.specs.Header.{known}
use Rattle.fields.specs.Places.{fields_at}
use Rattle.std.specs.Prelude.{Ok, Err}
use Rattle.std.specs.declared.result.Result as code
use Rattle.answers.specs.Refusals.{fault}
use Rattle.answers.specs.declared.refusals.Refusal.{Refusal}
use Rattle.answers.specs.declared.refusals.Fault.{Fault}
use Rattle.fields.proofs.Places.{len_at, Took, took-here, Starts, starts-size}
use Rattle.bundle.specs.Read.{kind_number}
use Rattle.bundle_scan.specs.Scan.{fault_of, counted, stated, ConstraintsLeft}
use Rattle.bundle_scan.proofs.Scanning.{Proper, counted-on, count_is, proper-of, tag-most, passed-both}

-- the kind's number, as the code computes it
number-kind : (n : ℕ) → n ≤ 2 → kind_number (constraint_kind_of n) ≡ n
unfolding kind_number constraint_kind_of kind_of
number-kind zero h = refl
number-kind (suc zero) h = refl
number-kind (suc (suc zero)) h = refl
number-kind (suc (suc (suc n))) h = absurd (omega arith)

pub kind-number : (tag : ℕ) → known FileKind.Bundle tag ≡ true → ltb tag 0x03 ≡ false → kind_number (constraint_kind_of (tag - 3)) ≡ tag - 3
kind-number tag h l = number-kind (tag - 3) (omega (arith, tag-most tag h l, ltb-false tag 3 l))

module _ {w K n m : ℕ} {s : List ℕ} {at : ℕ} (v : ConstraintsLeft w K n m s at) where
  no_cut : {a : ℕ} → fields_at s at ≡ cut a → ⊥
  unfolding counted
  no_cut {a} e =
      let q : Err (fault Refusal.Truncated a) ≡ Ok m = sym (rw e) ∙ v.counts in
      let z : ◌≡◌ {A = ℕ} 0 1 = cc in omega arith

  no_end : n < m → {a : ℕ} → fields_at s at ≡ ends a → ⊥
  unfolding counted
  no_end h {a} e =
      let q : ◌≡◌ {A = code.Result ℕ Fault} (Ok n) (Ok m) = sym (rw e) ∙ v.counts in
      let z : n ≡ m = cc in omega arith

  -- where a constraint is left, a field stands
  pub left-took : n < m → Took s at (get_or s at 0) (at + 3) (len_at s at) (at + 3 + len_at s at)
  left-took h = took-here s at no_cut (no_end h)

  -- past a note the same is left
  pub left-note : {next : ℕ} → fields_at s at ≡ fields_at s next → ConstraintsLeft w K n m s next
  left-note e = record { counts = rw e at v.counts }

  -- where none is left, nothing is stated
  pub left-done : m ≤ n → stated w K (fields_at s at) ≡ []
  left-done h = none_left (stated w K (fields_at s at)) (omega (arith, count_is w K n m (fields_at s at) v.counts))
    where
      none_left : (cs : List Constraint) → length cs ≡ 0 → cs ≡ []
      none_left [] e = refl
      none_left (c ∷ cs) e = absurd (omega arith)

-- what is known of the constraint that stands there
pub record LeftTurn (w K n m : ℕ) (s : List ℕ) (tag start len next : ℕ) : Type 0 where
  pub proper : Proper w K n tag (take len (drop start s))
  pub from : 3 ≤ tag
  pub few : n < 32
  pub below : n < m
  pub size : len ≡ (K + 1) * w
  pub goes : next ≡ start + (K + 1) * w
  pub bytes : start + (K + 1) * w ≤ length s
  pub numbers : flat (form_from w K (take len (drop start s))) ≡ signeds w (suc K) (drop start s)
  pub left : ConstraintsLeft w K (n + 1) m s next

pub left-turn : {w K n m : ℕ} {s : List ℕ} {at a tag start len next : ℕ} → Starts s at a tag start len next → ConstraintsLeft w K n m s at → LeftTurn w K n m s tag start len next
left-turn {w} {K} {n} {m} {s} {at} {a} {tag} {start} {len} {next} k v =
    let bs = take len (drop start s) in
    let p = passed-both (fault_of w K n tag bs) a m (counted w K (suc n) (fields_at s next)) (sym (counted-on k w K n) ∙ v.counts) in
    let r = proper-of w K n tag bs p.0 in
    let e : suc K ≡ K + 1 = omega arith in
    let l : len ≡ (K + 1) * w = rw e at (sym (starts-size k) ∙ eqb-true (length bs) (suc K * w) r.size) in
    let z : suc K * w ≡ len = rw e (sym l) in
    record {
      proper = r;
      from = ltb-false tag 3 r.from;
      few = ltb-true n 32 r.room;
      below = omega (arith, count_is w K (suc n) m (fields_at s next) p.1);
      size = l;
      goes = omega (arith, k.next-is, l);
      bytes = omega (arith, k.upto, k.next-is, l);
      numbers = flat-signeds w K bs ∙ signeds-take w (suc K) len (drop start s) (omega (arith, z));
      left = record { counts = (let z : n + 1 ≡ suc n = omega arith in rw z p.1) };
    }
