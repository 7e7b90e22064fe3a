-- The lines of a cut, stage by stage. Assumes nothing.
use mathlib.Core.Path.{◌≡◌, refl, sym, ◌∙◌, ap, subst}
use mathlib.Core.Bool.{Bool, true, false}
use mathlib.Core.List.{List, [], ◌∷◌, ◌++◌, map, append_assoc}
use Prim.Native.Nat.{ℕ, zero, suc, ◌+◌, ◌-◌, ◌≤◌, ◌<◌}
use native.Mathlib.Omega.{arith}
use lib.Dec.{ltb}
use lib.IntN.{ℤ}
use lib.ListN.{length, get_or, take, drop, length-map, length-append}
use borrow.Author.Tests.{lt-ltb, le-ltb, ltb-true, ltb-false}
use Rattle.forms.specs.Edition.{edition}
use Rattle.forms.specs.Forms.{Constraint, Line, line_a, line_b, lines}
use Rattle.answers.specs.Answers.{accepted}
use Rattle.answers.proofs.Results.{never, one_value}
use Rattle.fields.specs.Places.{given_k, fields_at}
use Rattle.fields.proofs.Headers.{given-some}
use Rattle.bundle.specs.Bundle.{Bundle}
use Rattle.bundle_scan.specs.Scan.{stated, IsBundle, Scans}
use Rattle.bundle_scan.specs.declared.Scanned.{Scanned}
use Rattle.bundle_scan.proofs.Bodies as bodies
use Rattle.bundle_load.specs.Load.{line_of, Space, Loaded, Able}
use Rattle.bundle_load.proofs.Loading.{space-less, space-kept, loaded-none, loaded-then}
use Rattle.chains.specs.Runs.{Run, joined, up_to, beyond}
use Rattle.run.specs.Run.{parts, read_stages, constants_of, run_of}
use Rattle.run_cuts.specs.Cuts.{cut_lines, Read, LoadsCut}
use Rattle.run_cuts.specs.declared.begun.Run as begun
use Rattle.std.specs.Prelude.{Ok, Err, IsOk}
use Rattle.std.specs.declared.result.Result as code
use Rattle.answers.specs.declared.refusals.Fault.{Fault}
use Rattle.run_stages.proofs.StagesInTurn.{PartsLeft, parts-start, parts_next, parts-on, parts_none, ReadOn, reads_on, reads_none}

-- ---- they are the lines of check's two sides
map-append : {X Y : Type 0} (f : X → Y) (xs ys : List X) → map f (xs ++ ys) ≡ map f xs ++ map f ys
map-append f [] ys = refl
map-append f (x ∷ xs) ys = ap (λ l. f x ∷ l) (map-append f xs ys)

none-A : (Ts : Run) → cut_lines 0 Ts ≡ map line_b (joined Ts)
none-A [] = refl
none-A (T ∷ Ts) = ap (λ l. map line_b T ++ l) (none-A Ts) ∙ sym (map-append line_b T (joined Ts))

pub cut-lines : (c : ℕ) (Ts : Run) → cut_lines c Ts ≡ lines (up_to Ts c) (beyond Ts c)
cut-lines zero Ts = none-A Ts
cut-lines (suc c) [] = refl
cut-lines (suc c) (T ∷ Ts) =
    let z : suc c - 1 ≡ c = omega arith in
    let y : ltb 0 (suc c) ≡ true = lt-ltb 0 (suc c) (omega arith) in
    rw (z, y, cut-lines c Ts, map-append line_a T (joined (take c Ts)), append_assoc (map line_a T) (map line_a (joined (take c Ts))) (map line_b (joined (drop c Ts))))

-- ---- the loop
run-cons : (t : Bundle) (ts : List Bundle) → run_of (t ∷ ts) ≡ t.constraints ∷ run_of ts
unfolding run_of
run-cons t ts = refl

ltb-from : (i c : ℕ) → ltb 0 (c - i) ≡ ltb i c
ltb-from i c = go (ltb i c) refl
  where
    go : (b : Bool) → ltb i c ≡ b → ltb 0 (c - i) ≡ ltb i c
    go true e = let h = ltb-true i c e in lt-ltb 0 (c - i) (omega arith) ∙ sym e
    go false e = let h = ltb-false i c e in le-ltb 0 (c - i) (omega arith) ∙ sym e

pub record LoadingCut (r : begun.Run) (c : ℕ) (kinds₀ : List ℕ) (buf₀ : List ℤ) (kinds : List ℕ) (buf : List ℤ) (left : List ℕ) (i m given : ℕ) : Type 0 where
  pub stands : PartsLeft r.lengths.now i left
  pub us : List Bundle
  pub are : read_stages 2 (11 + i) (given_k given) (parts (drop i r.lengths.now) left) ≡ accepted us
  pub first-k : given ≡ 0 → constants_of us ≡ r.k
  pub later-k : 1 ≤ given → given ≡ r.k
  pub space : Space r.k (m + length (joined (run_of us))) kinds buf
  pub few : m + length (joined (run_of us)) ≤ 64
  pub kinds_length : length kinds ≡ length kinds₀
  pub lines_length : length buf ≡ length buf₀
  pub later : {kinds' : List ℕ} {buf' : List ℤ} → Loaded r.k kinds buf m (cut_lines (c - i) (run_of us)) kinds' buf' → LoadsCut r c kinds₀ buf₀ kinds' buf'

pub cut-start : {r : begun.Run} {c : ℕ} {kinds : List ℕ} {buf : List ℤ} → Read r → Space r.k r.count kinds buf → LoadingCut r c kinds buf kinds buf r.buffer.now 0 0 0
cut-start {c = c} s f = record {
  stands = parts-start s.adds_up;
  us = _;
  are = s.is;
  first-k = λ e. s.k_is;
  later-k = λ h. absurd (omega arith);
  space = space-less (omega (arith, s.count_is)) f;
  few = omega (arith, s.count_is, s.few);
  kinds_length = refl;
  lines_length = refl;
  later = λ l. let z : c - 0 ≡ c = omega arith in rw z at l;
}

module _ {r : begun.Run} {c : ℕ} {kinds₀ : List ℕ} {buf₀ : List ℤ} {kinds : List ℕ} {buf : List ℤ} {left : List ℕ} {i m given : ℕ} (g : LoadingCut r c kinds₀ buf₀ kinds buf left i m given) where
  pub cut-done : length r.lengths.now ≤ i → LoadsCut r c kinds₀ buf₀ kinds buf
  unfolding run_of
  cut-done h =
      let z : g.us ≡ [] = reads_none 2 (11 + i) (given_k given) (rw (parts_none r.lengths.now i left h) at g.are) in
      g.later (rw z loaded-none)

  module _ (l : i < length r.lengths.now) {part rest : List ℕ} (front : part ≡ take (get_or r.lengths.now i 0) left) (back : rest ≡ drop (get_or r.lengths.now i 0) left) where
    on : ReadOn 2 (11 + i) (given_k given) part (parts (drop (i + 1) r.lengths.now) rest) g.us
    on = reads_on 2 (11 + i) (given_k given) part (parts (drop (i + 1) r.lengths.now) rest)
        (rw (front, back) (sym (ap (read_stages 2 (11 + i) (given_k given)) (parts-on g.stands l)) ∙ g.are))

    -- it is no stage that is refused
    stage-read : (x : code.Result Scanned Fault) → Scans given part 0 x → IsOk x
    stage-read (Ok x) sc = refl
    stage-read (Err e) sc = absurd (never (sym (sc.by (11 + i)) ∙ on.first-is))

    module _ {x : code.Result Scanned Fault} (sc : Scans given part 0 x) where
      pub cut-read : IsOk x
      cut-read = stage-read x sc

      module _ {stage : Scanned} (e : x ≡ Ok stage) where
        b : IsBundle given part stage.k stage.body
        b = (rw e at sc).by.0

        abbrev Stated : List Constraint
        Stated = stated (edition stage.body.edition).coefficient_width stage.k (fields_at part stage.body.at)

        first-is : on.first ≡ record { edition = stage.body.edition; K = stage.k; constraints = Stated }
        first-is = one_value on.first-is (bodies.states b (11 + i))

        found-is : stage.k ≡ r.k
        unfolding constants_of
        found-is = go given refl
          where
            go : (x : ℕ) → x ≡ given → stage.k ≡ r.k
            go zero e = sym (ap (λ t. t.K) first-is) ∙ ap constants_of (sym on.is) ∙ g.first-k (sym e)
            go (suc x) e = bodies.as-given b (omega arith) ∙ g.later-k (omega arith)

        us-run : run_of g.us ≡ Stated ∷ run_of on.others
        us-run = ap run_of on.is ∙ run-cons on.first on.others ∙ rw first-is

        us-count : length (joined (run_of g.us)) ≡ stage.body.count + length (joined (run_of on.others))
        us-count = ap (λ (Ts : Run). length (joined Ts)) us-run ∙ omega (arith, length-append Stated (joined (run_of on.others)), bodies.count_is b)

        pub cut-few : m + stage.body.count ≤ 64
        cut-few = omega (arith, g.few, us-count)

        pub cut-able : {w : ℕ} → w ≡ (edition stage.body.edition).coefficient_width → Able w stage.k (fields_at part stage.body.at) kinds buf m
        cut-able e = rw e (record {
          m = stage.body.count;
          is = b.counts;
          space = rw found-is (space-less (omega (arith, us-count)) g.space);
        })

        others-are : read_stages 2 (11 + (i + 1)) (given_k stage.k) (parts (drop (i + 1) r.lengths.now) rest) ≡ accepted on.others
        others-are =
            let z : suc (11 + i) ≡ 11 + (i + 1) = omega arith in
            rw (← z, given-some stage.k (bodies.low b), ← ap (λ t. t.K) first-is) on.others-are

        lines-on : cut_lines (c - i) (run_of g.us) ≡ map (line_of (ltb i c)) Stated ++ cut_lines (c - (i + 1)) (run_of on.others)
        lines-on =
            let z : c - i - 1 ≡ c - (i + 1) = omega arith in
            rw (us-run, ltb-from i c, z)

        own : {kinds₁ : List ℕ} {buf₁ : List ℤ} → Loaded stage.k kinds buf m (map (line_of (ltb i c)) Stated) kinds₁ buf₁ → Loaded r.k kinds buf m (map (line_of (ltb i c)) Stated) kinds₁ buf₁
        own {kinds₁} {buf₁} p = subst (λ (k : ℕ). Loaded k kinds buf m (map (line_of (ltb i c)) Stated) kinds₁ buf₁) found-is p

        behind : {kinds₁ kinds₂ : List ℕ} {buf₁ buf₂ : List ℤ} {ls : List Line} → Loaded r.k kinds₁ buf₁ (m + stage.body.count) ls kinds₂ buf₂
            → Loaded r.k kinds₁ buf₁ (m + length (map (line_of (ltb i c)) Stated)) ls kinds₂ buf₂
        behind q =
            let z : length (map (line_of (ltb i c)) Stated) ≡ stage.body.count = length-map Stated (line_of (ltb i c)) ∙ bodies.count_is b in
            rw z q

        pub cut-next : {w : ℕ} → w ≡ (edition stage.body.edition).coefficient_width → {kinds₁ : List ℕ} {buf₁ : List ℤ}
            → Loaded stage.k kinds buf m (map (line_of (ltb i c)) (stated w stage.k (fields_at part stage.body.at))) kinds₁ buf₁
            → LoadingCut r c kinds₀ buf₀ kinds₁ buf₁ rest (i + 1) (m + stage.body.count) stage.k
        cut-next e p = record {
          stands = rw back (parts_next g.stands l);
          us = on.others;
          are = others-are;
          first-k = λ z. absurd (omega (arith, bodies.low b));
          later-k = λ z. found-is;
          space = space-kept p.kinds_length p.lines_length (space-less (omega (arith, us-count)) g.space);
          few = omega (arith, g.few, us-count);
          kinds_length = p.kinds_length ∙ g.kinds_length;
          lines_length = p.lines_length ∙ g.lines_length;
          later = λ {kinds'} {buf'} q. g.later (subst (λ (ls : List Line). Loaded r.k kinds buf m ls kinds' buf') (sym lines-on) (loaded-then (own (rw e at p)) (behind q)));
        }
