-- The entries of a branch, one after the other: each way through `walk_entries`, over plain values. Assumes nothing.
use mathlib.Core.Path.{◌≡◌, refl, ◌∙◌, ap}
use mathlib.Core.Bool.{Bool, true, false}
use mathlib.Core.List.{List}
use mathlib.Core.Option.{Option}
use Prim.Native.Nat.{ℕ, suc, ◌+◌, ◌≤◌, ◌<◌}
use native.Mathlib.Omega.{arith}
use native.Mathlib.Numerals.{add-one}
use lib.ListN.{take, drop}
use Rattle.forms.specs.Edition.{edition}
use Rattle.forms.specs.declared.RowNumber.{RowNumber}
use Rattle.answers.specs.declared.Answer.{Answer}
use Rattle.answers.specs.declared.Position.{Position}
use Rattle.answers.specs.Answers.{refusal_at, ◌>>=◌}
use Rattle.fields.specs.Fields.{Field, ends, cut}
use Rattle.fields.specs.Places.{fields_at, unread_bytes}
use Rattle.fields.proofs.Places.{Starts, starts-less, count-starts}
use Rattle.run.specs.Uniform.{with_number, Walker, walk_closed, walk_entries}
use Rattle.run_fields.specs.declared.kind.Matching.{Matching}
use Rattle.run_fields.specs.declared.kind.EntryKind.{EntryKind}
use Rattle.run_fields.specs.declared.kind.EntryKind.TheVariants as kind
use Rattle.run_branches.specs.declared.walk.Stop.{Stop}
use Rattle.std.specs.Prelude.{Ok, Err}
use Rattle.std.specs.declared.result.Result as code
use Rattle.answers.specs.Refusals.{number_of}
use Rattle.answers.specs.declared.refusals.Refusal.{Refusal}
use Rattle.run_fields.specs.Kinds.{walk_kind, IsKind}
use Rattle.run_branches.specs.Walks.{Countable, ended, walked_from, Stops}
use Rattle.run_branches.proofs.WalkEnds.{ended-behind}

-- ---- the loop: the walk from the start is that from here
pub record Going (e K : ℕ) (p : List ℕ) (at : ℕ) (pos : Position) (rows here count : ℕ) (made : Bool) : Type 0 where
  pub is : (deeper : Option Walker) → ended (walked_from e K p at pos rows deeper) ≡ ended (walk_entries (edition e) K pos deeper (fields_at p here) count made)
  pub countable : Countable p here count
  pub unread : unread_bytes p here ≤ unread_bytes p at

pub going_start : {e K : ℕ} {p : List ℕ} {at : ℕ} {pos : Position} {rows : ℕ} → Countable p at rows → Going e K p at pos rows at rows false
going_start c = record { is = λ deeper. refl; countable = c; unread = omega arith }

module _ {e K : ℕ} {p : List ℕ} {at : ℕ} {pos : Position} {rows here count : ℕ} {made : Bool} (g : Going e K p at pos rows here count made) where
  pub going-ends : {a : ℕ} → fields_at p here ≡ ends a → {x : Answer} → x ≡ refusal_at pos count a 20 → Stops e K p at pos rows (Err x)
  unfolding ended ◌>>=◌ walk_entries
  going-ends h q = record { by = λ deeper. record { is = g.is deeper ∙ rw (h, q); falls = tt } }

  pub going-cut : {a : ℕ} → fields_at p here ≡ cut a → {x : Answer} → x ≡ refusal_at pos count a 2 → Stops e K p at pos rows (Err x)
  unfolding ended ◌>>=◌ walk_entries
  going-cut h q = record { by = λ deeper. record { is = g.is deeper ∙ rw (h, q); falls = tt } }

  module _ {a tag start len next : ℕ} (k : Starts p here a tag start len next) {r : code.Result EntryKind Refusal} (is-kind : IsKind e K tag (take len (drop start p)) made r) where
    abbrev field_of : Field
    field_of = record { at = a; tag = tag; contents = take len (drop start p) }

    turn : (deeper : Option Walker) → walk_entries (edition e) K pos deeper (fields_at p here) count made
        ≡ walk_kind deeper (walk_entries (edition e) K pos deeper (fields_at p next)) (refusal_at pos count a) count field_of (fields_at p next) r
    unfolding walk_entries
    turn deeper = rw k.is (is-kind.is deeper (walk_entries (edition e) K pos deeper (fields_at p next)) (refusal_at pos count a) count field_of (fields_at p next) refl refl)

    turned : (deeper : Option Walker) {s : code.Result EntryKind Refusal} → r ≡ s → ended (walked_from e K p at pos rows deeper)
        ≡ ended (walk_kind deeper (walk_entries (edition e) K pos deeper (fields_at p next)) (refusal_at pos count a) count field_of (fields_at p next) s)
    turned deeper h = g.is deeper ∙ ap ended (turn deeper) ∙ rw h

    left : Countable p next (count + 1)
    left = record { few = omega (arith, g.countable.few, count-starts k) }

    less : unread_bytes p next < unread_bytes p at
    less = omega (arith, g.unread, starts-less k)

    pub row-few : count + 1 ≤ 65_535
    row-few = omega (arith, g.countable.few, count-starts k)

    pub going-goes : r ≡ Ok kind.Derives → Going e K p at pos rows next (count + 1) true
    going-goes h = record {
      is = λ deeper. turned deeper h ∙ ended-behind field_of (walk_entries (edition e) K pos deeper (fields_at p next) (suc count) true) ∙ rw add-one;
      countable = left;
      unread = omega (arith, less);
    }

    pub going-opens : {last : ℕ} {alike : Matching} → r ≡ Ok (kind.Opens last alike) → {row : RowNumber} → row.0 ≡ count → Stops e K p at pos rows (Ok (Stop.Opens last alike row a next))
    going-opens h q = rw q (record { by = record { field = field_of; is = λ deeper. turned deeper h; falls = less; countable = left } })

    pub going-closes : r ≡ Ok kind.Closes → {row : RowNumber} → row.0 ≡ count + 1 → {y : Answer} → y ≡ with_number 28 (refusal_at pos count a 15) → Stops e K p at pos rows (Ok (Stop.Closes (record { next = next; rows = row; unlike = y })))
    unfolding ended ◌>>=◌ walk_closed
    going-closes h q z = record { by = λ deeper. record { is = turned deeper h ∙ rw (q, z, add-one); falls = less } }

    pub going-claims : r ≡ Ok kind.Claims → {y : Answer} → y ≡ with_number 27 (refusal_at pos count a 14) → Stops e K p at pos rows (Err y)
    unfolding ended ◌>>=◌
    going-claims h z = record { by = λ deeper. record { is = turned deeper h ∙ rw z; falls = tt } }

    pub going-fault : {n : Refusal} → r ≡ Err n → {y : Answer} → y ≡ refusal_at pos count a (number_of n) → Stops e K p at pos rows (Err y)
    unfolding ended ◌>>=◌
    going-fault h z = record { by = λ deeper. record { is = turned deeper h ∙ rw z; falls = tt } }
