-- All cuts, from the last down. Assumes nothing.
use mathlib.Core.Path.{◌≡◌, refl, ◌∙◌, ap, subst}
use mathlib.Core.Bool.{true}
use mathlib.Core.List.{List, [], ◌∷◌}
use mathlib.Core.Option.{Option}
use Prim.Native.Nat.{ℕ, zero, suc, ◌+◌, ◌*◌, ◌-◌, ◌≤◌}
use native.Mathlib.Omega.{arith}
use lib.IntN.{ℤ}
use lib.ListN.{length, drop, length-append, length-map}
use Rattle.forms.specs.Edition.{edition1}
use Rattle.forms.specs.Forms.{Formula, every}
use Rattle.answers.specs.declared.Position.{Position}
use Rattle.answers.specs.Answers.{root, Result, refused, accepted, ◌>>=◌}
use Rattle.fields.specs.Fields.{Fields, fields}
use Rattle.fields.specs.Header.{header_bytes}
use Rattle.fields.specs.Places.{fields_at}
use Rattle.fields.proofs.Headers.{length-header_bytes}
use Rattle.bundle.specs.Bundle.{Bundle}
use Rattle.formula.specs.Formula.{encode, formula_file}
use Rattle.chains.specs.Runs.{Run, joined}
use Rattle.run.specs.Run.{parts, read_stages, run_of, check_cut, both, check_cuts, check_run}
use Rattle.run.specs.Uniform.{Walked, uniform}
use Rattle.run_branches.specs.Walks.{ended, end_of, deeper, WalksBranch}
use Rattle.std.specs.Prelude.{Ok, Err}
use Rattle.std.specs.declared.result.Result as code
use Rattle.answers.specs.declared.Answer.{Answer}
use Rattle.run_branches.specs.declared.walk.Closed.{Closed}
use Rattle.run_branches.proofs.WalkEnds.{ended-refused, ended-accepted}
use Rattle.run_stages.specs.Staged.{staged, stages, Staged}
use Rattle.run_cuts.specs.Cuts.{stages_of, CutTells, Asked, cut_of, CutChecked}
use Rattle.run_cuts.specs.All.{judged_by, RunChecked, joined_by, cut_size, cuts_total, Summable, files, AllBy, cuts_of, CutsChecked}
use Rattle.run_cuts.specs.declared.begun.Run as begun
use Rattle.run_cuts.specs.declared.all.Derived.{Derived}
use Rattle.run_stages.proofs.StagesInTurn.{reads_on, reads_none}
use Rattle.run_cuts.proofs.OneCut.{asked-again}

-- ---- the cuts from i on, n of them
abbrev pub cuts_from : (K : ℕ) → Run → Fields → (i n : ℕ) → Result (List Formula)
cuts_from K Ts fs i zero = accepted []
cuts_from K Ts fs i (suc n) = both (check_cut 2 K Ts fs i) (cuts_from K Ts fs (suc i) n) >>= λ (I, Is). accepted (I ∷ Is)

alone : (r : Result Formula) → (both r (accepted []) >>= λ (I, Is). accepted (I ∷ Is)) ≡ (r >>= λ I. accepted (I ∷ []))
unfolding both ◌>>=◌
alone (refused a) = refl
alone (accepted I) = refl

pub cuts-from : (K : ℕ) (Ts : Run) (fs : Fields) (i n : ℕ) → cuts_from K Ts fs i (suc n) ≡ check_cuts 2 K Ts fs i n
unfolding check_cuts
cuts-from K Ts fs i zero = alone (check_cut 2 K Ts fs i)
cuts-from K Ts fs i (suc n) = ap (λ (r : Result (List Formula)). both (check_cut 2 K Ts fs i) r >>= λ (I, Is). accepted (I ∷ Is)) (cuts-from K Ts fs (suc i) n)

-- ---- a cut, and those after it
pub file-size : (K : ℕ) (I : Formula) → length (formula_file edition1 K I) ≡ length (encode edition1 I) + 8
unfolding formula_file
file-size K I = omega (arith, length-append (header_bytes 1 K) (encode edition1 I), length-header_bytes 1 K)

joins : (K : ℕ) (R : Result Formula) (Rs : Result (List Formula)) {S S' : List ℕ} (own : code.Result ℕ Answer) (others : code.Result Derived Answer) → CutTells R S S' own → AllBy Rs K others
    → AllBy (both R Rs >>= λ (I, Is). accepted (I ∷ Is)) K (joined_by own others)
unfolding both ◌>>=◌ every
joins K R Rs (Err a) (Err b) p q = rw (p.by, q)
joins K R Rs (Err a) (Ok d) p q = rw (p.by, q.is)
joins K R Rs (Ok o) (Err b) p q = rw (p.by.is, q)
joins K R Rs (Ok o) (Ok ds) p q =
    let d = p.by in
    let z : o + 8 ≡ length (formula_file edition1 K d.formula) = omega (arith, d.o_is, file-size K d.formula) in
    record {
      formulas = d.formula ∷ q.formulas;
      is = rw (d.is, q.is);
      total_is = omega (arith, z, q.total_is, length-append (formula_file edition1 K d.formula) (joined (files K q.formulas)));
      fit_is = rw (z, q.fit_is);
    }

total-joins : (own : code.Result ℕ Answer) (others : code.Result Derived Answer) → cuts_total (joined_by own others) ≤ cuts_total others + (cut_size own + 8)
total-joins (Err a) (Err b) = omega arith
total-joins (Err a) (Ok d) = omega arith
total-joins (Ok o) (Err b) = omega arith
total-joins (Ok o) (Ok d) = omega arith

own-size : {R : Result Formula} {S S' : List ℕ} (own : code.Result ℕ Answer) → CutTells R S S' own → cut_size own ≤ 5_242_880
own-size (Err a) p = omega arith
own-size (Ok o) p = p.by.few

-- ---- how many stages there are
parts-count : (ls buffer : List ℕ) → length (parts ls buffer) ≡ length ls
unfolding parts
parts-count [] buffer = refl
parts-count (l ∷ ls) buffer = ap suc (parts-count ls (drop l buffer))

read_count : (file : ℕ) (given : Option ℕ) (Ts : List (List ℕ)) (ts : List Bundle) → read_stages 2 file given Ts ≡ accepted ts → length ts ≡ length Ts
read_count file given [] ts e = ap length (reads_none 2 file given e)
read_count file given (T ∷ Ts) ts e =
    let r = reads_on 2 file given T Ts e in
    ap length r.is ∙ ap suc (read_count (suc file) _ Ts r.others r.others-are)

pub stages-count : {buffer lengths : List ℕ} {K count : ℕ} → Staged buffer lengths K count → length (stages buffer lengths) ≡ length lengths
unfolding run_of
stages-count {buffer} {lengths} s = length-map (staged buffer lengths) _ ∙ read_count 11 _ (parts lengths buffer) (staged buffer lengths) s.is ∙ parts-count lengths buffer

-- ---- the loop
pub record CutsLeft (r : begun.Run) (kinds₀ : List ℕ) (buf₀ : List ℤ) (S₀ kinds : List ℕ) (buf : List ℤ) (S : List ℕ) (all : code.Result Derived Answer) (c : ℕ) : Type 0 where
  pub upto : c ≤ length r.lengths.now + 1
  pub kinds_length : length kinds ≡ length kinds₀
  pub lines_length : length buf ≡ length buf₀
  pub scratch-length : length S ≡ length S₀
  pub is : AllBy (cuts_from r.k (stages_of r) (fields r.proof.now) c (length r.lengths.now + 1 - c)) r.k all
  pub few : cuts_total all ≤ (length r.lengths.now + 1 - c) * 5_242_888

module _ {r : begun.Run} {kinds₀ : List ℕ} {buf₀ : List ℤ} (a : Asked r kinds₀ buf₀) {S₀ : List ℕ} where
  pub all_start : CutsLeft r kinds₀ buf₀ S₀ kinds₀ buf₀ S₀ (Ok (record { total = 0; fit = true })) (length r.lengths.now + 1)
  unfolding every
  all_start =
      let z : length r.lengths.now + 1 - (length r.lengths.now + 1) ≡ 0 = omega arith in
      record {
        upto = omega arith;
        kinds_length = refl;
        lines_length = refl;
        scratch-length = refl;
        is = rw z (record { formulas = []; is = refl; total_is = refl; fit_is = refl });
        few = omega arith;
      }

  module _ {kinds : List ℕ} {buf : List ℤ} {S : List ℕ} {all : code.Result Derived Answer} where
    pub all_done : CutsLeft r kinds₀ buf₀ S₀ kinds buf S all 0 → CutsChecked r all
    all_done g =
        let z : length r.lengths.now + 1 - 0 ≡ suc (length (stages_of r)) = omega (arith, stages-count a.staged) in
        record {
          by = rw (← cuts-from r.k (stages_of r) (fields r.proof.now) 0 (length (stages_of r))) (rw z at g.is);
          few = omega (arith, g.few, a.staged.most);
        }

    module _ (c : ℕ) (g : CutsLeft r kinds₀ buf₀ S₀ kinds buf S all (c + 1)) where
      pub all_asked : Asked r kinds buf
      all_asked = asked-again a g.kinds_length g.lines_length

      module _ {S₁ : List ℕ} {own : code.Result ℕ Answer} (q : CutChecked r c S S₁ own) where
        pub all-summable : Summable own all
        all-summable = record { own = own-size own q; rest = omega (arith, g.few, a.staged.most) }

        pub all-next : {kinds₁ : List ℕ} {buf₁ : List ℤ} → length kinds₁ ≡ length kinds → length buf₁ ≡ length buf → length S₁ ≡ length S → {x : code.Result Derived Answer} → x ≡ joined_by own all
            → CutsLeft r kinds₀ buf₀ S₀ kinds₁ buf₁ S₁ x c
        all-next hk hl hs h =
            let z : length r.lengths.now + 1 - c ≡ suc (length r.lengths.now + 1 - (c + 1)) = omega (arith, g.upto) in
            let y : c + 1 ≡ suc c = omega arith in
            let others = subst (λ (i : ℕ). AllBy (cuts_from r.k (stages_of r) (fields r.proof.now) i (length r.lengths.now + 1 - (c + 1))) r.k all) y g.is in
            record {
              upto = omega (arith, g.upto);
              kinds_length = hk ∙ g.kinds_length;
              lines_length = hl ∙ g.lines_length;
              scratch-length = hs ∙ g.scratch-length;
              is = rw (h, z) (joins r.k (cut_of r c) (cuts_from r.k (stages_of r) (fields r.proof.now) (suc c) (length r.lengths.now + 1 - (c + 1))) own all q others);
              few = rw h (omega (arith, g.few, total-joins own all, own-size own q, z));
            }

-- ---- the walk
judges : (K : ℕ) (P : List ℕ) (R : Result (List Formula)) (U : Result Walked) (all : code.Result Derived Answer) (w : code.Result Closed Answer) → AllBy R K all → ended U ≡ end_of P w
    → AllBy (both R U >>= λ (Is, w). accepted Is) K (judged_by all w)
unfolding both ◌>>=◌
judges K P R U (Err a) (Err b) p q = rw (p, ended-refused q)
judges K P R U (Ok d) (Err b) p q = rw (p.is, ended-refused q)
judges K P R U (Err a) (Ok w) p q = rw (p, (ended-accepted q).is)
judges K P R U (Ok d) (Ok w) p q = record { formulas = p.formulas; is = rw (p.is, (ended-accepted q).is); total_is = p.total_is; fit_is = p.fit_is }

judged-few : (all : code.Result Derived Answer) (w : code.Result Closed Answer) → cuts_total (judged_by all w) ≤ cuts_total all
judged-few (Err a) (Err b) = omega arith
judged-few (Ok d) (Err b) = omega arith
judged-few (Err a) (Ok w) = omega arith
judged-few (Ok d) (Ok w) = omega arith

module _ {r : begun.Run} {kinds : List ℕ} {buf : List ℤ} (a : Asked r kinds buf) where
  uniform-is : uniform 2 r.k (fields r.proof.now) ≡ deeper r.edition r.k 0 root 0 (fields_at r.proof.now r.at)
  unfolding uniform ◌>>=◌
  uniform-is = rw a.header_is

  pub run-judged : {all : code.Result Derived Answer} → CutsChecked r all → {here : Position} → here ≡ root → {w : code.Result Closed Answer} → WalksBranch r.edition r.k r.proof.now r.at here 0 0 w
      → {x : code.Result Derived Answer} → x ≡ judged_by all w → RunChecked r x
  unfolding check_run
  run-judged {all} c h {w} q z =
      let u = (rw h at q).is in
      rw z (record {
        by = judges r.k r.proof.now (cuts_of r) (uniform 2 r.k (fields r.proof.now)) all w c.by (ap ended uniform-is ∙ u);
        few = omega (arith, c.few, judged-few all w);
      })
