-- Every short proof is reached from the header alone by repeating the call. Assumes nothing.
use mathlib.Core.Path.{◌≡◌, refl, sym, ◌∙◌, ap, subst}
use mathlib.Core.Bool.{Bool, true, false}
use mathlib.Core.List.{List, [], ◌∷◌, ◌++◌}
use Prim.Native.Nat.{ℕ, ◌≤◌}
use native.Mathlib.Omega.{arith}
use lib.Dec.{T}
use lib.ListN.{length}
use Rattle.forms.specs.Forms.{All, nil, cons}
use Rattle.calculus.specs.Rules.{Row}
use Rattle.answers.specs.Answers.{Result, accepted}
use Rattle.answers.proofs.Results.{binds}
use Rattle.number_bytes.specs.Same.{same_bytes}
use Rattle.number_bytes.proofs.Comparing.{same-is, same_refl}
use Rattle.enumeration.specs.ShortProofs.{◌∈◌, here, there, proof_file, ShortProof}
use Rattle.enumeration.specs.Sequence.{short_proofs}
use Rattle.enumeration.specs.Order.{Precedes, Increasing}
use Rattle.enumeration.specs.Next.{first_rows, following, next_rows, next_file}
use Rattle.enumeration.proofs.Members.{all_in, in_right}
use Rattle.enumeration.proofs.Listed.{short_proofs-gives, rows-listed}
use Rattle.enumeration.proofs.Ordered.{same_count, earlier-other}
use Rattle.enumeration.proofs.Next.{increasing, none-empty}

-- ---- the files that are reached from the header alone by repeating the call.
pub data Reachable (A B : List ℕ) (K : ℕ) : List ℕ → Type 0 where
  start : Reachable A B K (proof_file K [])
  further : {given next : List ℕ} → Reachable A B K given → next_file A B given ≡ accepted next → Reachable A B K next

-- ---- the choices
pick_true : (b : Bool) (x y : Result (List Row)) → T b → elim b as (λ _. Result (List Row)) [ true ↦ x | false ↦ y ] ≡ x
pick_true true x y t = refl
pick_true false x y t = absurd t

pick-false : (b : Bool) (x y : Result (List Row)) → ¬ (T b) → elim b as (λ _. Result (List Row)) [ true ↦ x | false ↦ y ] ≡ y
pick-false true x y h = absurd (h tt)
pick-false false x y h = refl

-- ---- in a list
before-all : {X : Type 0} (R : X → X → Type 0) (pre : List X) (x : X) (rest : List X) → Increasing R (pre ++ (x ∷ rest)) → All (λ p. R p x) pre
before-all R [] x rest i = nil
before-all R (p ∷ pre) x rest (a, i) = cons (all_in (R p) (pre ++ (x ∷ rest)) a x (in_right x pre (x ∷ rest) (here refl))) (before-all R pre x rest i)

one_on : {X : Type 0} (pre : List X) (x : X) (rest : List X) → pre ++ (x ∷ rest) ≡ (pre ++ (x ∷ [])) ++ rest
one_on [] x rest = refl
one_on (p ∷ pre) x rest = ap (λ (xs : List _). p ∷ xs) (one_on pre x rest)

following-is : (K : ℕ) (pre : List (List Row)) (rs q : List Row) (rest : List (List Row)) → All (λ p. Precedes K p rs) pre → following K (proof_file K rs) (pre ++ (rs ∷ q ∷ rest)) ≡ accepted q
unfolding following first_rows
following-is K [] rs q rest a = pick_true (same_bytes (proof_file K rs) (proof_file K rs)) _ _ (same_refl (proof_file K rs))
following-is K (p ∷ pre) rs q rest (cons h hs) =
    pick-false (same_bytes (proof_file K p) (proof_file K rs)) _ _ (λ t. earlier-other K p rs h (same-is (proof_file K p) (proof_file K rs) t)) ∙ following-is K pre rs q rest hs

module _ (A B : List ℕ) (K : ℕ) (rss : List (List Row)) (e : short_proofs A B ≡ accepted (K, rss)) where
  next-is : (given : List ℕ) (rs : List Row) → next_rows K given rss ≡ accepted rs → next_file A B given ≡ accepted (proof_file K rs)
  unfolding next_file
  next-is given rs h = binds _ e ∙ binds _ h

  walk : Increasing (Precedes K) rss → (pre : List (List Row)) (rs : List Row) (rest : List (List Row)) → rss ≡ pre ++ (rs ∷ rest) → All (λ rs. 1 ≤ length rs) (rs ∷ rest) → Reachable A B K (proof_file K rs) → (qs : List Row) → qs ∈ rest → Reachable A B K (proof_file K qs)
  unfolding next_rows
  walk i pre rs [] d _ r qs m = elim m [ ]
  walk i pre rs (q ∷ rest) d (cons n ns) r qs m = go (λ m. walk i (pre ++ (rs ∷ [])) q rest (d ∙ one_on pre rs (q ∷ rest)) ns reached qs m) m
    where
      other : ¬ (T (same_bytes (proof_file K []) (proof_file K rs)))
      other t = let c = same_count K [] rs (same-is (proof_file K []) (proof_file K rs) t) in omega arith

      on : next_rows K (proof_file K rs) rss ≡ accepted q
      on = pick-false (same_bytes (proof_file K []) (proof_file K rs)) _ _ other
          ∙ ap (following K (proof_file K rs)) d ∙ following-is K pre rs q rest (before-all (Precedes K) pre rs (q ∷ rest) (subst (Increasing (Precedes K)) d i))

      reached : Reachable A B K (proof_file K q)
      reached = further r (next-is (proof_file K rs) q on)

      go : (qs ∈ rest → Reachable A B K (proof_file K qs)) → qs ∈ (q ∷ rest) → Reachable A B K (proof_file K qs)
      go more (here p) = subst (λ (qs : List Row). Reachable A B K (proof_file K qs)) (sym p) reached
      go more (there m) = more m

  from_start : (qss : List (List Row)) → rss ≡ qss → Increasing (Precedes K) rss → All (λ rs. 1 ≤ length rs) qss → (qs : List Row) → qs ∈ qss → Reachable A B K (proof_file K qs)
  unfolding next_rows first_rows
  from_start [] d i n qs m = elim m [ ]
  from_start (q ∷ rest) d i n qs m = go m
    where
      on : next_rows K (proof_file K []) rss ≡ accepted q
      on = pick_true (same_bytes (proof_file K []) (proof_file K [])) _ _ (same_refl (proof_file K [])) ∙ ap (first_rows) d

      reached : Reachable A B K (proof_file K q)
      reached = further start (next-is (proof_file K []) q on)

      go : qs ∈ (q ∷ rest) → Reachable A B K (proof_file K qs)
      go (here p) = subst (λ (qs : List Row). Reachable A B K (proof_file K qs)) (sym p) reached
      go (there m) = walk i [] q rest d n reached qs m

-- Where the sequence is given, each short proof is reached.
pub all-reached : (A B : List ℕ) → (K : ℕ) (rss : List (List Row)) → short_proofs A B ≡ accepted (K, rss) → (file : List ℕ) → ShortProof A B file → Reachable A B K file
all-reached A B K rss e file s =
    let l = (short_proofs-gives A B).gives (K, rss) e in
    let (k, m) = rows-listed A B l file s in
    subst (Reachable A B K) (sym (s.is ∙ ap (λ (n : ℕ). proof_file n s.rows) k)) (from_start A B K rss e rss refl (increasing A B l) (none-empty A B l) s.rows m)
