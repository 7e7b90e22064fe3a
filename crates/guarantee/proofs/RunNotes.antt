-- What a run answers moves with the fields of its files, where notes are put in, and nothing else changes. docs/FORMAT.md, "Bytes and fields" and "Guards of a run of stages". Assumes nothing.
use mathlib.Core.Path.{◌≡◌, refl, sym, ap, ap₂, ◌∙◌}
use mathlib.Core.Bool.{Bool, true, false, cond, ◌&&◌}
use mathlib.Core.Option.{Option, none, some}
use mathlib.Core.List.{List, [], ◌∷◌, map}
use Prim.Native.Nat.{ℕ, suc, ◌≤◌, ◌<◌}
use native.Mathlib.Omega.{arith}
use lib.Dec.{leb, eqb}
use lib.ListN.{length, length-append, length-map}
use lib.Seq.{take_at, drop_at}
use borrow.Author.Tests.{eq-eqb, ne_eqb}
use Rattle.forms.specs.Edition.{edition}
use Rattle.answers.specs.declared.Answer.{Answer}
use Rattle.answers.specs.Answers.{answer, acceptance, file_proof, file_lent, Result, refused, accepted, ◌>>◌, need}
use Rattle.fields.specs.Fields.{fields, Noted, Kept}
use Rattle.bundle.specs.Bundle.{at_most}
use Rattle.bundle.specs.Layout.{Each, nil, cons}
use Rattle.bundle.proofs.Notes.{limit-most, kept-higher, at_most-kept}
use Rattle.proof.proofs.Satisfies.{Satisfies, says-accepted, test}
use Rattle.chains.specs.Runs.{Run, joined}
use Rattle.run.specs.Run.{first_stage, total, parts, parted, stages_short, read_stages, constants_of, run_of, check_run, guard_files, GuardsWritten, unwritten, fit_guards, written_guards, guards_by, guards}
use Rattle.run_laws.proofs.Refused.{refused-as-check}
use Rattle.guarantee.specs.NotedPlaces.{moved_by, moved_answer}
use Rattle.guarantee.specs.Runs.{NotedStage, stage_places, run_places, RunNotes}
use Rattle.guarantee.proofs.NotedPlaces.{rises, fields-moved}
use Rattle.guarantee.proofs.NotedAnswers.{Maps, maps-computed, bind-maps, then-maps, moved-maps, one-stays, other-moves, short-maps, bundle-mapped}
use Rattle.guarantee.proofs.RunMoved.{run_moved}
use Rattle.guarantee.proofs.RunReasons.{run-amid}

-- ---- the stages
total_is : (Fs : List (List ℕ)) → total (map length Fs) ≡ length (joined Fs)
unfolding total
total_is [] = refl
total_is (F ∷ Fs) = omega (arith, total_is Fs, length-append F (joined Fs))

pub parts_are : (Fs : List (List ℕ)) → parts (map length Fs) (joined Fs) ≡ Fs
unfolding parts
parts_are [] = refl
parts_are (F ∷ Fs) = ap₂ ◌∷◌ (take_at F (joined Fs) (length F) refl) (ap (parts (map length Fs)) (drop_at F (joined Fs) (length F) refl) ∙ parts_are Fs)

each-count : {Fs Gs : List (List ℕ)} → Each NotedStage Fs Gs → length Gs ≡ length Fs
each-count nil = refl
each-count (cons h hs) = ap suc (each-count hs)

parted-many : (Fs : List (List ℕ)) → parted (map length Fs) (joined Fs) ≡ (leb 1 (length Fs) && leb (length Fs) 16 && true)
unfolding parted
parted-many Fs = rw (length-map Fs length, eq-eqb (total (map length Fs)) (length (joined Fs)) (total_is Fs))

parted-noted : {Fs Gs : List (List ℕ)} → Each NotedStage Fs Gs → parted (map length Gs) (joined Gs) ≡ parted (map length Fs) (joined Fs)
parted-noted {Fs} {Gs} h = parted-many Gs ∙ ap (λ (n : ℕ). leb 1 n && leb n 16 && true) (each-count h) ∙ sym (parted-many Fs)

short-noted : (file : ℕ) {Fs Gs : List (List ℕ)} → Each NotedStage Fs Gs → stages_short 2 file Gs ≡ stages_short 2 file Fs
unfolding stages_short
short-noted file nil = refl
short-noted file (cons {x = F} h hs) = rw (at_most-kept 8_192 file h.noted (kept-higher (limit-most F) h.kept), short-noted (suc file) hs)

short-one : (file : ℕ) (Fs : List (List ℕ)) → Satisfies (λ a. a.number ≡ 1) (stages_short 2 file Fs) (λ _. Unit {0})
unfolding stages_short at_most
short-one file [] = says-accepted tt
short-one file (F ∷ Fs) = test _ _ refl λ _. short-one (suc file) Fs

-- ---- where a stage's places go
module _ (first : ℕ) {F G : List ℕ} (h : NotedStage F G) {Fs Gs : List (List ℕ)} (hs : Each NotedStage Fs Gs) where
  of-first : (p : ℕ) → stage_places first (cons h hs) first p ≡ moved_by h.noted p
  unfolding stage_places
  of-first p = rw (eq-eqb first first refl)

  of_others : (file p : ℕ) → suc first ≤ file → stage_places first (cons h hs) file p ≡ stage_places (suc first) hs file p
  unfolding stage_places
  of_others file p l = rw (ne_eqb file first (λ e. omega arith))

of_none : (first : ℕ) {Fs Gs : List (List ℕ)} (hs : Each NotedStage Fs Gs) (file p : ℕ) → file < first → stage_places first hs file p ≡ p
unfolding stage_places
of_none first nil file p l = refl
of_none first (cons h hs) file p l = rw (ne_eqb file first (λ e. omega arith)) (of_none (suc first) hs file p (omega arith))

read-maps : (places : (file place : ℕ) → ℕ) (first : ℕ) (given : Option ℕ) {Fs Gs : List (List ℕ)} (hs : Each NotedStage Fs Gs) → ((file p : ℕ) → first ≤ file → places file p ≡ stage_places first hs file p)
    → Maps (moved_answer places) (λ x. x) (read_stages 2 first given Fs) (read_stages 2 first given Gs)
unfolding read_stages
read-maps places first given nil at = maps-computed
read-maps places first given (cons h hs) at =
    bind-maps _ (bundle-mapped first given h.noted h.kept places (λ p. at first p (omega arith) ∙ of-first first h hs p)) λ t _.
    bind-maps _ (read-maps places (suc first) (some t.K) hs (λ file p l. at file p (omega arith) ∙ of_others first h hs file p l)) λ ts _. maps-computed

-- ---- the operation
module _ {Fs Gs : List (List ℕ)} (h : Each NotedStage Fs Gs) {P Q : List ℕ} (p : Noted P Q) (k : Kept (edition 2).proof_bytes P Q) where
  abbrev μ : Answer → Answer
  μ = moved_answer (run_places h p)

  in-proof : (x : ℕ) → run_places h p file_proof x ≡ moved_by p x
  unfolding run_places
  in-proof x = refl

  in-stages : (file x : ℕ) → first_stage ≤ file → run_places h p file x ≡ stage_places first_stage h file x
  unfolding run_places
  in-stages file x l = rw (ne_eqb file file_proof (λ e. omega arith))

  -- with file 4, and without a file, the place stays
  lent-stays : (number x : ℕ) → μ (answer number file_lent x) ≡ answer number file_lent x
  unfolding run_places
  lent-stays number x = go (eqb number 1) (of_none first_stage h file_lent x (omega arith))
    where
      go : (b : Bool) {y : ℕ} → y ≡ x
          → ◌≡◌ {A = Answer} (record { number = number; file = 4; place = cond b x y; row = (answer number 4 x).row; step = (answer number 4 x).step; branch = (answer number 4 x).branch }) (answer number 4 x)
      go true e = refl
      go false e = rw e

  none_stays : μ acceptance ≡ acceptance
  unfolding run_places
  none_stays = rw (of_none first_stage h 0 0 (omega arith))

  run-maps : (K : ℕ) (Ts : Run) → Maps μ (λ x. x) (check_run 2 K Ts (fields P)) (check_run 2 K Ts (fields Q))
  run-maps K Ts = rw (fields-moved p) (moved-maps (λ a e.
      let r = run-amid K Ts P a (refused-as-check.as_check 2 K Ts P a e).0 in
      other-moves (run_places h p) (moved_by p) a r.1 (ap (λ (x : ℕ). run_places h p x a.place) r.0 ∙ in-proof a.place))
      (run_moved (moved_by p) (rises p) 2 K Ts (fields P)))

  lent-maps : {X : Type 0} (number x : ℕ) (t : Bool) {s s' : Result X} → Maps μ (λ x. x) s s' → Maps μ (λ x. x) (need (answer number file_lent x) t >> s) (need (answer number file_lent x) t >> s')
  unfolding need ◌>>◌
  lent-maps number x true d = d
  lent-maps number x false d = record { equal = ap refused (lent-stays number x) }

  files-map : Maps μ (λ x. x) (guard_files 2 (joined Fs) (map length Fs) P) (guard_files 2 (joined Gs) (map length Gs) Q)
  unfolding guard_files
  files-map =
      rw (parted-noted h, parts_are Gs, parts_are Fs, short-noted 11 h, at_most-kept (edition 2).proof_bytes file_proof p k)
      (lent-maps 25 0 _ (then-maps _ (λ a e. one-stays (run_places h p) a ((short-one 11 Fs).refusal a e)) λ _. short-maps (run_places h p) _ file_proof P λ _.
      bind-maps _ (read-maps (run_places h p) 11 none h in-stages) λ ts _.
      lent-maps 26 0 _ (bind-maps _ (run-maps (constants_of ts) (run_of ts)) λ Is _. lent-maps 1 _ _ maps-computed)))

  pub record AlikeGuards (w w' : GuardsWritten) : Type 0 where
    pub answer : w'.answer ≡ μ w.answer
    pub count : w'.count ≡ w.count
    pub output : w'.output ≡ w.output
    pub sizes : w'.sizes ≡ w.sizes

  module _ (output sizes : List ℕ) where
    fit-mapped : (b : Bool) (files : List (List ℕ)) → μ (fit_guards output sizes b files).answer ≡ (fit_guards output sizes b files).answer
    unfolding fit_guards unwritten
    fit-mapped true files = none_stays
    fit-mapped false files = lent-stays 21 (length (joined files))

    written-mapped : (r r' : Result (List (List ℕ))) → Maps μ (λ x. x) r r' → AlikeGuards (written_guards output sizes r) (written_guards output sizes r')
    unfolding written_guards unwritten
    written-mapped (refused a) r' d = rw (sym d.equal) (record { answer = refl; count = refl; output = refl; sizes = refl })
    written-mapped (accepted files) r' d = rw (sym d.equal) (record { answer = sym (fit-mapped _ files); count = refl; output = refl; sizes = refl })

    guards-moved : AlikeGuards (guards (joined Fs) (map length Fs) P output sizes) (guards (joined Gs) (map length Gs) Q output sizes)
    unfolding guards guards_by
    guards-moved = written-mapped (guard_files 2 (joined Fs) (map length Fs) P) (guard_files 2 (joined Gs) (map length Gs) Q) files-map

-- Notes are passed over.
pub run-notes : RunNotes
run-notes = record {
  passed_over = λ Fs Fs' proof proof' output sizes left left' sizesLeft sizesLeft' r r' h p k w w'.
      let m = guards-moved h p k output sizes in (
        ap (λ (g : GuardsWritten). g.answer) w'.is ∙ m.answer ∙ sym (ap (λ (g : GuardsWritten). moved_answer (run_places h p) g.answer) w.is),
        ap (λ (g : GuardsWritten). g.count) w'.is ∙ m.count ∙ sym (ap (λ (g : GuardsWritten). g.count) w.is),
        ap (λ (g : GuardsWritten). g.output) w'.is ∙ m.output ∙ sym (ap (λ (g : GuardsWritten). g.output) w.is),
        ap (λ (g : GuardsWritten). g.sizes) w'.is ∙ m.sizes ∙ sym (ap (λ (g : GuardsWritten). g.sizes) w.is),
      );
}
