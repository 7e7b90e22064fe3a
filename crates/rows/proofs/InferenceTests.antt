-- The tests of the rows that make a line, one way through each function after the other. Assumes nothing.
use mathlib.Core.Path.{◌≡◌, refl, ◌∙◌}
use mathlib.Core.Bool.{Bool, true, false, ◌&&◌}
use mathlib.Core.List.{List}
use mathlib.Core.Option.{none, some}
use Prim.Native.Nat.{ℕ, ◌≤◌, ◌<◌}
use native.Mathlib.Omega.{arith}
use lib.Dec.{leb}
use lib.IntN.{ℤ, pos}
use borrow.Author.Tests.{le-leb, lt-leb}
use Rattle.integers.specs.Linear.{eq_z}
use Rattle.forms.specs.Forms.{≤0, =0, Line, line, nonzero, ◌⊞◌, ◌·◌}
use Rattle.forms.specs.Flat.{kind_of}
use Rattle.calculus.specs.Rules.{Inference, Combine, Reduce, Scale}
use Rattle.answers.specs.declared.Answer.{Answer}
use Rattle.std.specs.declared.result.Result as code
use Rattle.std.specs.Prelude.{Ok, Err}
use Rattle.answers.specs.Refusals.{number_of}
use Rattle.answers.specs.declared.refusals.Refusal.{Refusal}
use Rattle.answers.specs.declared.refusals.Refusal.TheVariants.{NoSuchLine, WrongLineKind, WrongMultiplier}
use Rattle.answers.specs.Answers.{refused, accepted, ◌>>=◌, ◌>>◌, need, found}
use Rattle.proof.specs.Rows.{is, plain_kind, line_at, derived}
use Rattle.lines.specs.Buffer.{line_in, lines_in}
use Rattle.lines.proofs.Lines.{line-at, line-past, line-ext}
use Rattle.lines.proofs.Mixing.{mix-one, mix-zero}
use Rattle.lines.proofs.Keeping.{kept_refl}
use Rattle.tally.specs.declared.Tally.{Tally}
use Rattle.rows.specs.Rows.{sum_of, Appended, Derives}

zero-none : (z : ℤ) {b : Bool} → b ≡ eq_z z (pos 0) → b ≡ true → nonzero z ≡ false
unfolding nonzero
zero-none z e h = rw (← e, h)

some-nonzero : (z : ℤ) {b : Bool} → b ≡ eq_z z (pos 0) → b ≡ false → nonzero z ≡ true
unfolding nonzero
some-nonzero z e h = rw (← e, h)

-- ---- from `derived` to what follows the row
module _ {K : ℕ} {kinds : List ℕ} {buf : List ℤ} {t : Tally} {s : Inference} where
  derives-refused : {x : Refusal} → ((refusal : ℕ → Answer) → derived refusal (lines_in K kinds buf t.lines.0) s ≡ refused (refusal (number_of x))) → Derives K kinds buf t s kinds buf (Err x)
  unfolding ◌>>=◌
  derives-refused e = record { kept = kept_refl; by = λ refusal next. rw (e refusal) }

  derives-appended : {f : ℤ} {i : ℕ} {g : ℤ} {j kind : ℕ} {kinds' : List ℕ} {buf' : List ℤ} {r : code.Result Tally Refusal} {l : Line}
      → ((refusal : ℕ → Answer) → derived refusal (lines_in K kinds buf t.lines.0) s ≡ accepted l) → sum_of K kinds buf f i g j kind ≡ l
      → Appended K kinds buf t f i g j kind kinds' buf' r → Derives K kinds buf t s kinds' buf' r
  unfolding ◌>>=◌ ◌>>◌
  derives-appended {r = Err x} e q a = record { kept = a.kept; by = λ refusal next. rw (e refusal, ← q, a.by refusal) }
  derives-appended {r = Ok t'} e q a = record {
    kept = a.kept;
    by = (λ refusal next. rw (e refusal, ← q, a.by.0 refusal, a.by.1.last), a.by.1.limited, a.by.1.tally);
  }

-- ---- combine
module _ (K : ℕ) (kinds : List ℕ) (buf : List ℤ) (t : Tally) (i j α β : ℕ) where
  pub combine-none : t.lines.0 ≤ i → Derives K kinds buf t (Combine i j α β) kinds buf (Err NoSuchLine)
  unfolding derived line_at ◌>>=◌ found
  combine-none h = derives-refused (λ refusal. rw (line-past K kinds buf t.lines.0 i h))

  module _ (hi : i < t.lines.0) where
    pub combine-none-2 : t.lines.0 ≤ j → Derives K kinds buf t (Combine i j α β) kinds buf (Err NoSuchLine)
    unfolding derived line_at ◌>>=◌ found
    combine-none-2 h = derives-refused (λ refusal. rw (line-at K kinds buf t.lines.0 i hi, line-past K kinds buf t.lines.0 j h))

    module _ (hj : j < t.lines.0) where
      pub combine-kind : is ≤0 (line_in K kinds buf i).kind ≡ false → Derives K kinds buf t (Combine i j α β) kinds buf (Err WrongLineKind)
      unfolding derived line_at ◌>>=◌ ◌>>◌ found need
      combine-kind h = derives-refused (λ refusal. rw (line-at K kinds buf t.lines.0 i hi, line-at K kinds buf t.lines.0 j hj, h))

      module _ (ki : is ≤0 (line_in K kinds buf i).kind ≡ true) where
        pub combine-kind-2 : is ≤0 (line_in K kinds buf j).kind ≡ false → Derives K kinds buf t (Combine i j α β) kinds buf (Err WrongLineKind)
        unfolding derived line_at ◌>>=◌ ◌>>◌ found need
        combine-kind-2 h = derives-refused (λ refusal. rw (line-at K kinds buf t.lines.0 i hi, line-at K kinds buf t.lines.0 j hj, ki, h))

        module _ (kj : is ≤0 (line_in K kinds buf j).kind ≡ true) where
          tests : (refusal : ℕ → Answer) → derived refusal (lines_in K kinds buf t.lines.0) (Combine i j α β)
              ≡ (need (refusal 12) (leb 1 α && leb 1 β) >> accepted (line ≤0 (pos α · (line_in K kinds buf i).t ⊞ pos β · (line_in K kinds buf j).t) (pos α · (line_in K kinds buf i).t_A ⊞ pos β · (line_in K kinds buf j).t_A)))
          unfolding derived line_at ◌>>=◌ ◌>>◌ found need
          tests refusal = rw (line-at K kinds buf t.lines.0 i hi, line-at K kinds buf t.lines.0 j hj, ki, kj)

          pub combine-zero : α ≡ 0 → Derives K kinds buf t (Combine i j α β) kinds buf (Err WrongMultiplier)
          unfolding ◌>>◌ need
          combine-zero h = derives-refused (λ refusal. tests refusal ∙ rw (lt-leb 1 α (omega arith)))

          pub combine-zero-2 : 1 ≤ α → β ≡ 0 → Derives K kinds buf t (Combine i j α β) kinds buf (Err WrongMultiplier)
          unfolding ◌>>◌ need
          combine-zero-2 ha h = derives-refused (λ refusal. tests refusal ∙ rw (le-leb 1 α ha, lt-leb 1 β (omega arith)))

          pub combine-made : {f g : ℤ} {kinds' : List ℕ} {buf' : List ℤ} {r : code.Result Tally Refusal} → 1 ≤ α → 1 ≤ β → f ≡ pos α → g ≡ pos β
              → Appended K kinds buf t f i g j 0 kinds' buf' r → Derives K kinds buf t (Combine i j α β) kinds' buf' r
          unfolding ◌>>◌ need kind_of
          combine-made ha hb ef eg a = derives-appended (λ refusal. tests refusal ∙ rw (le-leb 1 α ha, le-leb 1 β hb, ← ef, ← eg)) refl a

-- ---- reduce
module _ (K : ℕ) (kinds : List ℕ) (buf : List ℤ) (t : Tally) (i j : ℕ) (α : ℤ) where
  pub reduce-none : t.lines.0 ≤ i → Derives K kinds buf t (Reduce i j α) kinds buf (Err NoSuchLine)
  unfolding derived line_at ◌>>=◌ found
  reduce-none h = derives-refused (λ refusal. rw (line-past K kinds buf t.lines.0 i h))

  module _ (hi : i < t.lines.0) where
    pub reduce-none-2 : t.lines.0 ≤ j → Derives K kinds buf t (Reduce i j α) kinds buf (Err NoSuchLine)
    unfolding derived line_at ◌>>=◌ found
    reduce-none-2 h = derives-refused (λ refusal. rw (line-at K kinds buf t.lines.0 i hi, line-past K kinds buf t.lines.0 j h))

    module _ (hj : j < t.lines.0) where
      pub reduce-apart : plain_kind (line_in K kinds buf i).kind ≡ none → Derives K kinds buf t (Reduce i j α) kinds buf (Err WrongLineKind)
      unfolding derived line_at ◌>>=◌ found
      reduce-apart h = derives-refused (λ refusal. rw (line-at K kinds buf t.lines.0 i hi, line-at K kinds buf t.lines.0 j hj, h))

      -- kind is what was read of line i's.
      module _ (kind : ℕ) (ki : plain_kind (line_in K kinds buf i).kind ≡ some (kind_of kind)) where
        pub reduce-kind : is =0 (line_in K kinds buf j).kind ≡ false → Derives K kinds buf t (Reduce i j α) kinds buf (Err WrongLineKind)
        unfolding derived line_at ◌>>=◌ ◌>>◌ found need
        reduce-kind h = derives-refused (λ refusal. rw (line-at K kinds buf t.lines.0 i hi, line-at K kinds buf t.lines.0 j hj, ki, h))

        module _ (kj : is =0 (line_in K kinds buf j).kind ≡ true) where
          reduce-tests : (refusal : ℕ → Answer) → derived refusal (lines_in K kinds buf t.lines.0) (Reduce i j α)
              ≡ (need (refusal 12) (nonzero α) >> accepted (line (kind_of kind) ((line_in K kinds buf i).t ⊞ α · (line_in K kinds buf j).t) ((line_in K kinds buf i).t_A ⊞ α · (line_in K kinds buf j).t_A)))
          unfolding derived line_at ◌>>=◌ ◌>>◌ found need
          reduce-tests refusal = rw (line-at K kinds buf t.lines.0 i hi, line-at K kinds buf t.lines.0 j hj, ki, kj)

          module _ {b : Bool} (z : b ≡ eq_z α (pos 0)) where
            pub reduce-zero : b ≡ true → Derives K kinds buf t (Reduce i j α) kinds buf (Err WrongMultiplier)
            unfolding ◌>>◌ need
            reduce-zero h = derives-refused (λ refusal. reduce-tests refusal ∙ rw (zero-none α z h))

            pub reduce-made : {kinds' : List ℕ} {buf' : List ℤ} {r : code.Result Tally Refusal} → b ≡ false
                → Appended K kinds buf t (pos 1) i α j kind kinds' buf' r → Derives K kinds buf t (Reduce i j α) kinds' buf' r
            unfolding ◌>>◌ need
            reduce-made h a =
                let s = line_in K kinds buf i in
                let u = line_in K kinds buf j in
                derives-appended {l = line (kind_of kind) (s.t ⊞ α · u.t) (s.t_A ⊞ α · u.t_A)} (λ refusal. reduce-tests refusal ∙ rw (some-nonzero α z h))
                (line-ext refl (mix-one s.t α u.t) (mix-one s.t_A α u.t_A)) a

-- ---- scale
module _ (K : ℕ) (kinds : List ℕ) (buf : List ℤ) (t : Tally) (i α : ℕ) where
  pub scale-none : t.lines.0 ≤ i → Derives K kinds buf t (Scale i α) kinds buf (Err NoSuchLine)
  unfolding derived line_at ◌>>=◌ found
  scale-none h = derives-refused (λ refusal. rw (line-past K kinds buf t.lines.0 i h))

  module _ (hi : i < t.lines.0) where
    pub scale-apart : plain_kind (line_in K kinds buf i).kind ≡ none → Derives K kinds buf t (Scale i α) kinds buf (Err WrongLineKind)
    unfolding derived line_at ◌>>=◌ found
    scale-apart h = derives-refused (λ refusal. rw (line-at K kinds buf t.lines.0 i hi, h))

    module _ (kind : ℕ) (ki : plain_kind (line_in K kinds buf i).kind ≡ some (kind_of kind)) where
      pub scale-zero : α ≡ 0 → Derives K kinds buf t (Scale i α) kinds buf (Err WrongMultiplier)
      unfolding derived line_at ◌>>=◌ ◌>>◌ found need
      scale-zero h = derives-refused (λ refusal. rw (line-at K kinds buf t.lines.0 i hi, ki, lt-leb 1 α (omega arith)))

      pub scale-made : {f : ℤ} {kinds' : List ℕ} {buf' : List ℤ} {r : code.Result Tally Refusal} → 1 ≤ α → f ≡ pos α
          → Appended K kinds buf t f i (pos 0) i kind kinds' buf' r → Derives K kinds buf t (Scale i α) kinds' buf' r
      unfolding derived line_at ◌>>=◌ ◌>>◌ found need
      scale-made {f} h e a =
          let s = line_in K kinds buf i in
          derives-appended {l = line (kind_of kind) (f · s.t) (f · s.t_A)} (λ refusal. rw (line-at K kinds buf t.lines.0 i hi, ki, le-leb 1 α h, ← e))
          (line-ext refl (mix-zero f s.t) (mix-zero f s.t_A)) a
