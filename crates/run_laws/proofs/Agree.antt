-- What the operation accepts the run's files certify. Assumes nothing.
use mathlib.Core.Path.{◌≡◌, refl, subst}
use mathlib.Core.Option.{Option, none, some}
use mathlib.Core.Bool.{◌&&◌}
use mathlib.Core.List.{List, [], ◌∷◌, map}
use Prim.Native.Nat.{ℕ, suc, ◌≤◌}
use lib.Dec.{T, leb, eqb, leb→le, eqb→eq}
use lib.ListN.{length}
use mir.Facts.{and_yes}
use Rattle.forms.specs.Edition.{edition, edition1}
use Rattle.forms.specs.Forms.{All, nil, cons, Formula, every}
use Rattle.answers.specs.declared.Answer.{Answer}
use Rattle.answers.specs.Answers.{file_proof, refused}
use Rattle.answers.proofs.Results.{Gives, gives-accepted, weaken, bind, seq, test, not-0, not-22}
use Rattle.fields.specs.Fields.{fields}
use Rattle.bundle.specs.Bundle.{Bundle}
use Rattle.bundle.specs.Layout.{Each, nil as nil-each, cons as cons-each, BundleFile}
use Rattle.bundle.proofs.Laid.{Laid, bundle-gives, short-gives}
use Rattle.formula.specs.Formula.{formula_file}
use Rattle.proof.proofs.Agree.{agreed}
use Rattle.chains.specs.Runs.{Run, joined}
use Rattle.run.specs.Run.{most_stages, most_constraints, first_stage, total, parts, parted, stages_short, read_stages, constants_of, run_of, guard_files}
use Rattle.run.specs.Layout.{StageFile, RunYields, RunCertifies}
use Rattle.run_laws.proofs.OneTable.{RunAs, run-gives}

-- ---- the stages
stages-short : (newest file : ℕ) (Ts : List (List ℕ)) → Gives (stages_short newest file Ts) (λ _. All (λ T. length T ≤ (edition newest).bundle_bytes) Ts)
unfolding stages_short
stages-short newest file [] = gives-accepted nil
stages-short newest file (T ∷ Ts) = seq (short-gives _ file T) λ s. weaken (stages-short newest (suc file) Ts) λ _ h. cons s h

stage-file : {newest : ℕ} {given : Option ℕ} {file : List ℕ} {t : Bundle} → Laid newest given file t → (K : ℕ) → t.K ≡ K → StageFile newest K file t.constraints
stage-file {newest} {file = file} {t = t} l K q = record { number = t.edition; states = subst (λ (K : ℕ). BundleFile newest file t.edition K t.constraints) q l.file }

later-stages : (newest file K : ℕ) (Ts : List (List ℕ)) → Gives (read_stages newest file (some K) Ts) (λ ts. Each (StageFile newest K) Ts (run_of ts))
unfolding read_stages run_of
later-stages newest file K [] = gives-accepted nil-each
later-stages newest file K (T ∷ Ts) = bind (bundle-gives newest file (some K) T) λ t l.
    let q : t.K ≡ K = agreed K t.K l.agree in
    bind (later-stages newest (suc file) t.K Ts) λ ts h.
    gives-accepted (cons-each (stage-file l K q) (subst (λ (K : ℕ). Each (StageFile newest K) Ts (run_of ts)) q h))

pub all-stages : (newest file : ℕ) (Ts : List (List ℕ)) → Gives (read_stages newest file none Ts) (λ ts. Each (StageFile newest (constants_of ts)) Ts (run_of ts))
unfolding read_stages run_of constants_of
all-stages newest file [] = gives-accepted nil-each
all-stages newest file (T ∷ Ts) = bind (bundle-gives newest file none T) λ t l. bind (later-stages newest (suc file) t.K Ts) λ ts h.
    gives-accepted (cons-each (stage-file l t.K refl) h)

-- ---- the guards' files
all_short : (K : ℕ) (Is : List Formula) → T (every (λ file. leb (length file) edition1.formula_bytes) (map (formula_file edition1 K) Is)) → All (λ I. length (formula_file edition1 K I) ≤ edition1.formula_bytes) Is
unfolding every
all_short K [] t = nil
all_short K (I ∷ Is) t = let (a, b) = and_yes (leb (length (formula_file edition1 K I)) edition1.formula_bytes) _ t in cons (leb→le _ _ a) (all_short K Is b)

-- What the operation writes where it is not refused.
pub record Certified (newest : ℕ) (buffer lengths proof : List ℕ) (files : List (List ℕ)) : Type 0 where
  pub K : ℕ
  pub Ts : Run
  pub Is : List Formula
  pub certifies : RunCertifies newest buffer lengths proof K Ts Is
  pub are : files ≡ map (formula_file edition1 K) Is

module _ (newest : ℕ) (buffer lengths proof : List ℕ) where
  yielded : T (parted lengths buffer) → length proof ≤ (edition newest).proof_bytes → (ts : List Bundle) → Each (StageFile newest (constants_of ts)) (parts lengths buffer) (run_of ts)
      → T (leb (length (joined (run_of ts))) most_constraints) → (Is : List Formula) → RunAs newest (constants_of ts) (run_of ts) (fields proof) Is
      → RunYields newest buffer lengths proof (constants_of ts) (run_of ts) Is
  unfolding parted
  yielded p s ts h f Is r =
      let (a, adds) = and_yes (leb 1 (length lengths) && leb (length lengths) most_stages) (eqb (total lengths) (length buffer)) p in
      let (least, most) = and_yes (leb 1 (length lengths)) (leb (length lengths) most_stages) a in
      record {
        least = leb→le 1 (length lengths) least;
        most = leb→le (length lengths) most_stages most;
        adds_up = eqb→eq (total lengths) (length buffer) adds;
        stages = h;
        few = leb→le _ _ f;
        edition_proof = r.number;
        es = r.es;
        file_proof = record { first = r.first; last = r.last; short = s; body = r.body; whole = r.whole; low = r.low; high = r.high; enters = r.enters };
        count = r.count;
        guards = r.guards;
      }

  pub guards-give : Gives (guard_files newest buffer lengths proof) (Certified newest buffer lengths proof)
  unfolding guard_files
  guards-give = test _ _ tt λ p. seq (stages-short newest first_stage (parts lengths buffer)) λ _. seq (short-gives _ file_proof proof) λ s.
      bind (all-stages newest first_stage (parts lengths buffer)) λ ts h. test _ _ tt λ f. bind (run-gives newest (constants_of ts) (run_of ts) (fields proof)) λ Is r. test _ _ tt λ sI.
      gives-accepted (record {
        K = constants_of ts;
        Ts = run_of ts;
        Is = Is;
        certifies = record { yields = yielded p s ts h f Is r; short = all_short (constants_of ts) Is sI };
        are = refl;
      })

  -- a refusal's number is never that of acceptance, nor 22
  pub never-0 : (a : Answer) → guard_files newest buffer lengths proof ≡ refused a → ¬ (a.number ≡ 0)
  never-0 a e = not-0 (guards-give.refusal a e)

  pub never_22 : (a : Answer) → guard_files newest buffer lengths proof ≡ refused a → ¬ (a.number ≡ 22)
  never_22 a e = not-22 (guards-give.refusal a e)
