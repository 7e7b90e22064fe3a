-- The order in which a run is refused before its proof's fields. Assumes nothing.
use mathlib.Core.Path.{◌≡◌, refl, ◌∙◌, ap}
use mathlib.Core.Option.{none}
use mathlib.Core.Bool.{Bool, true, false, ◌&&◌}
use mathlib.Core.List.{List, [], ◌∷◌, ◌++◌}
use Prim.Native.Nat.{ℕ, suc, ◌+◌, ◌≤◌, ◌<◌}
use native.Mathlib.Omega.{arith}
use lib.Dec.{T, leb, eqb, leb→le, le→leb, eqb→eq, eqb_refl}
use lib.ListN.{length}
use mir.Facts.{and_yes, yes_and}
use Rattle.forms.specs.Edition.{newest_edition}
use Rattle.forms.specs.Forms.{All, nil, cons}
use Rattle.answers.specs.declared.Answer.{Answer}
use Rattle.answers.specs.declared.WriteResult.{WriteResult}
use Rattle.answers.specs.Answers.{answer, file_proof, refused, accepted, need}
use Rattle.answers.proofs.Results.{binds, passes, needs, fail, bind-refused, then-refused}
use Rattle.fields.specs.Fields.{fields}
use Rattle.bundle.specs.Bundle.{Bundle, at_most}
use Rattle.chains.specs.Runs.{joined}
use Rattle.run.specs.Run.{GuardsWritten, first_stage, most_stages, most_constraints, total, parts, parted, stages_short, read_stages, constants_of, run_of, check_run, guard_files, unwritten, written_guards, guards_by, guards}
use Rattle.run.specs.Promises.{WritesGuards}
use Rattle.run.specs.Ordered.{Parted, RunWithinLimits, RunInOrder}

not-true : (b : Bool) → (T b → ⊥) → b ≡ false
not-true true h = absurd (h tt)
not-true false h = refl

-- ---- the lengths of the files
long : (limit file : ℕ) (bytes : List ℕ) → limit < length bytes → at_most limit file bytes ≡ refused (answer 1 file 0)
unfolding at_most need
long limit file bytes l = ap (need (answer 1 file 0)) (not-true (leb (length bytes) limit) (λ t. let m = leb→le (length bytes) limit t in omega arith))

short : (limit file : ℕ) (bytes : List ℕ) → length bytes ≤ limit → at_most limit file bytes ≡ accepted tt
unfolding at_most need
short limit file bytes l = ap (need (answer 1 file 0)) (yes (leb (length bytes) limit) (le→leb (length bytes) limit l))
  where
    yes : (b : Bool) → T b → b ≡ true
    yes true t = refl
    yes false t = absurd t

stages-short : (file : ℕ) {Ts : List (List ℕ)} → All (λ T. length T ≤ 8_192) Ts → stages_short newest_edition file Ts ≡ accepted tt
unfolding stages_short
stages-short file nil = refl
stages-short file (cons {x = T} h hs) = passes _ (short 8_192 file T h) ∙ stages-short (suc file) hs

stages-long : (file : ℕ) (before : List (List ℕ)) (T : List ℕ) (after : List (List ℕ)) → All (λ S. length S ≤ 8_192) before → 8_192 < length T
    → stages_short newest_edition file (before ++ (T ∷ after)) ≡ refused (answer 1 (file + length before) 0)
unfolding stages_short
stages-long file [] T after h l = then-refused _ (long 8_192 file T l) ∙ ap (λ (f : ℕ). refused (answer 1 f 0)) (omega arith)
stages-long file (S ∷ before) T after (cons h hs) l = passes _ (short 8_192 file S h) ∙ stages-long (suc file) before T after hs l ∙ ap (λ (f : ℕ). refused (answer 1 f 0)) (omega arith)

-- ---- the whole operation
module _ (buffer lengths proof : List ℕ) where
  is-parted : Parted lengths buffer → T (parted lengths buffer)
  unfolding parted
  is-parted (a, b, c) = yes_and (leb 1 (length lengths) && leb (length lengths) most_stages) (eqb (total lengths) (length buffer))
      (yes_and (leb 1 (length lengths)) (leb (length lengths) most_stages) (le→leb 1 (length lengths) a) (le→leb (length lengths) most_stages b)) (rw c (eqb_refl (length buffer)))

  parted-is : T (parted lengths buffer) → Parted lengths buffer
  unfolding parted
  parted-is t =
      let (ab, c) = and_yes (leb 1 (length lengths) && leb (length lengths) most_stages) (eqb (total lengths) (length buffer)) t in
      let (a, b) = and_yes (leb 1 (length lengths)) (leb (length lengths) most_stages) ab in
      (leb→le 1 (length lengths) a, leb→le (length lengths) most_stages b, eqb→eq (total lengths) (length buffer) c)

  abbrev Refuses : Answer → Type 0
  Refuses a = guard_files newest_edition buffer lengths proof ≡ refused a

  unparted : ¬ (Parted lengths buffer) → Refuses (answer 25 4 0)
  unfolding guard_files
  unparted n = fail _ _ (not-true (parted lengths buffer) (λ t. n (parted-is t)))

  long_stage : Parted lengths buffer → (before : List (List ℕ)) (T : List ℕ) (after : List (List ℕ)) → parts lengths buffer ≡ before ++ (T ∷ after) → All (λ S. length S ≤ 8_192) before → 8_192 < length T
      → Refuses (answer 1 (11 + length before) 0)
  unfolding guard_files
  long_stage p before T after e h l = needs _ _ _ (is-parted p) ∙ then-refused _ (ap (stages_short newest_edition first_stage) e ∙ stages-long first_stage before T after h l)

  long_proof : Parted lengths buffer → All (λ T. length T ≤ 8_192) (parts lengths buffer) → 65_536 < length proof → Refuses (answer 1 3 0)
  unfolding guard_files
  long_proof p s l = needs _ _ _ (is-parted p) ∙ passes _ (stages-short first_stage s) ∙ then-refused _ (long 65_536 file_proof proof l)

  stage : RunWithinLimits lengths buffer proof → (a : Answer) → read_stages newest_edition 11 none (parts lengths buffer) ≡ refused a → Refuses a
  unfolding guard_files
  stage (p, s, l) a e = needs _ _ _ (is-parted p) ∙ passes _ (stages-short first_stage s) ∙ passes _ (short 65_536 file_proof proof l) ∙ bind-refused _ e

  module _ (h : RunWithinLimits lengths buffer proof) (ts : List Bundle) (e : read_stages newest_edition 11 none (parts lengths buffer) ≡ accepted ts) where
    many : 64 < length (joined (run_of ts)) → Refuses (answer 26 4 0)
    unfolding guard_files
    many l = needs _ _ _ (is-parted h.0) ∙ passes _ (stages-short first_stage h.1) ∙ passes _ (short 65_536 file_proof proof h.2) ∙ binds _ e
        ∙ fail _ _ (not-true (leb (length (joined (run_of ts))) most_constraints) (λ t. let m = leb→le (length (joined (run_of ts))) most_constraints t in omega arith))

    amid : length (joined (run_of ts)) ≤ 64 → (a : Answer) → check_run newest_edition (constants_of ts) (run_of ts) (fields proof) ≡ refused a → Refuses a
    unfolding guard_files
    amid l a q = needs _ _ _ (is-parted h.0) ∙ passes _ (stages-short first_stage h.1) ∙ passes _ (short 65_536 file_proof proof h.2) ∙ binds _ e
        ∙ needs _ _ _ (le→leb (length (joined (run_of ts))) most_constraints l) ∙ bind-refused _ q

-- what is refused is the answer
module _ {buffer lengths proof output sizes left sizesLeft : List ℕ} {r : WriteResult} (w : WritesGuards buffer lengths proof output sizes left sizesLeft r) where
  answered : (a : Answer) → Refuses buffer lengths proof a → r.answer ≡ a
  unfolding guards guards_by written_guards unwritten
  answered a e = ap (λ (g : GuardsWritten). g.answer) (w.is ∙ ap (written_guards output sizes) e)

pub run-in-order : RunInOrder
run-in-order = record {
  ordered = λ buffer lengths proof output sizes left sizesLeft r w. record {
    unparted = λ n. answered w _ (unparted buffer lengths proof n);
    long_stage = λ p before T after e h l. answered w _ (long_stage buffer lengths proof p before T after e h l);
    long_proof = λ p s l. answered w _ (long_proof buffer lengths proof p s l);
    stage = λ s a e. answered w _ (stage buffer lengths proof s a e);
    many = λ s ts e l. answered w _ (many buffer lengths proof s ts e l);
    amid = λ s ts e l a q. answered w _ (amid buffer lengths proof s ts e l a q);
  };
}
