-- The tests of a close by number, one way after the other; and that a line stands within the buffer. Assumes nothing.
use mathlib.Core.Path.{◌≡◌, sym, ap, ◌∙◌}
use mathlib.Core.Bool.{Bool, true, false, not}
use mathlib.Core.List.{List}
use mathlib.Core.Option.{none, some}
use Prim.Native.Nat.{ℕ, ◌+◌, ◌*◌, ◌≤◌, ◌<◌}
use native.Mathlib.Omega.{arith}
use lib.ListN.{length, get_or}
use lib.IntN.{ℤ, pos}
use lib.Signed.{lt_z}
use Rattle.integers.specs.Linear.{eq_z}
use Rattle.forms.specs.Edition.{edition, newest_edition}
use Rattle.forms.specs.Forms.{nonzero, every}
use Rattle.forms.proofs.Editions.{lines-most}
use Rattle.forms.proofs.Flat.{kind-zero, kind-one}
use Rattle.forms.specs.Flat.{kind_of}
use Rattle.answers.specs.Answers.{◌>>=◌, ◌>>◌, need, found}
use Rattle.proof.specs.Rows.{plain_kind, fails, line_at, by_number}
use Rattle.lines.specs.Parts.{part}
use Rattle.lines.specs.Buffer.{size, line_in}
use Rattle.lines.proofs.Lines.{line-at, line-past, before}
use Rattle.lines.specs.Ready.{KindRead, Ready}
use Rattle.lines.proofs.KindBytes.{kind-plain}
use Rattle.tally.specs.declared.Tally.{Tally}
use Rattle.closes.specs.Closing.{ByNumber}
use Rattle.std.specs.Prelude.{Ok, Err}
use Rattle.answers.specs.declared.refusals.Refusal.{Refusal}

pub false-≤ : {b : ℕ} (d : ℤ) {r : Bool} → b ≡ 0 → r ≡ lt_z (pos 0) d → r ≡ fails (kind_of b) d
unfolding fails
false-≤ d h e = rw (kind-zero h) e

pub false-= : {b : ℕ} (d : ℤ) {r : Bool} → (b ≡ 0 → ⊥) → r ≡ eq_z d (pos 0) → not r ≡ fails (kind_of b) d
unfolding fails nonzero
false-= d h e = rw (kind-one h) (ap not e)

-- A line of the branch ends within the buffer, and its number is one that the newest edition has.
module _ {e K : ℕ} {kinds : List ℕ} {buf : List ℤ} {n i : ℕ} where
  pub line-end : Ready e K kinds buf n → i < n → i * size K + size K ≤ length buf
  line-end r h = omega (arith, before K h, r.branch.room)

  pub line_low : Ready e K kinds buf n → i < n → i ≤ (edition newest_edition).lines
  line_low r h = omega (arith, r.most, lines-most e)

module _ (K : ℕ) (kinds : List ℕ) (buf : List ℤ) (t : Tally) (i : ℕ) where
  pub number-none : t.lines.0 ≤ i → ByNumber K kinds buf t i (Err Refusal.NoSuchLine)
  unfolding by_number line_at ◌>>=◌ found
  number-none h = record { by = λ refusal. rw (line-past K kinds buf t.lines.0 i h) }

  module _ (hi : i < t.lines.0) where
    pub number-apart : plain_kind (line_in K kinds buf i).kind ≡ none → ByNumber K kinds buf t i (Err Refusal.WrongLineKind)
    unfolding by_number line_at ◌>>=◌ found
    number-apart h = record { by = λ refusal. rw (line-at K kinds buf t.lines.0 i hi, h) }

    module _ {kind : ℕ} (read : KindRead (get_or kinds i 0) kind) (low : kind ≤ 1) {x : ℕ} (ex : x ≡ i * size K) {b : Bool} (zero : b ≡ every (λ c. eq_z c (pos 0)) (part x K buf)) where
      plains : plain_kind (line_in K kinds buf i).kind ≡ some (kind_of (get_or kinds i 0))
      plains = kind-plain K kinds buf i read low ∙ ap some (ap kind_of read.is)

      zeros : every (λ c. eq_z c (pos 0)) (line_in K kinds buf i).t.coeffs ≡ b
      unfolding line_in
      zeros = sym (rw ex at zero)

      pub number-coeffs : b ≡ false → ByNumber K kinds buf t i (Err Refusal.ConditionNotMet)
      unfolding by_number line_at ◌>>=◌ ◌>>◌ found need
      number-coeffs h = record { by = λ refusal. rw (line-at K kinds buf t.lines.0 i hi, plains, zeros, h) }

      module _ (h : b ≡ true) {c : Bool} {d : ℤ} (ed : d ≡ get_or buf (x + K) (pos 0)) (false-is : c ≡ fails (kind_of kind) d) where
        falses : fails (kind_of (get_or kinds i 0)) (line_in K kinds buf i).t.d ≡ c
        unfolding line_in
        falses = sym (rw (ap kind_of read.is, ed, ex) at false-is)

        pub number-d : c ≡ false → ByNumber K kinds buf t i (Err Refusal.ConditionNotMet)
        unfolding by_number line_at ◌>>=◌ ◌>>◌ found need
        number-d k = record { by = λ refusal. rw (line-at K kinds buf t.lines.0 i hi, plains, zeros, h, falses, k) }

        pub number_passed : c ≡ true → ByNumber K kinds buf t i (Ok tt)
        unfolding by_number line_at ◌>>=◌ ◌>>◌ found need
        number_passed k = record { by = λ refusal. rw (line-at K kinds buf t.lines.0 i hi, plains, zeros, h, falses, k) }
