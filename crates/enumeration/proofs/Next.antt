-- The proof answered is the least after the given one. Assumes nothing.
use mathlib.Core.Path.{◌≡◌, refl, sym, ◌∙◌, ap, subst}
use mathlib.Core.Logic.{◌⊎◌, inl, inr}
use mathlib.Core.Bool.{Bool, true, false}
use mathlib.Core.List.{List, [], ◌∷◌}
use Prim.Native.Nat.{ℕ, ◌≤◌}
use native.Mathlib.Omega.{arith}
use lib.Dec.{T}
use lib.ListN.{length, length-append, length-map}
use Rattle.forms.specs.Forms.{All, nil, cons, lines, line_a, line_b}
use Rattle.calculus.specs.Rules.{Row}
use Rattle.answers.specs.Answers.{answer, file_lent, Result, refused, accepted, ◌>>=◌}
use Rattle.answers.proofs.Results.{binds}
use Rattle.number_bytes.specs.Same.{same_bytes}
use Rattle.number_bytes.proofs.Comparing.{same-is, same_refl}
use Rattle.enumeration.specs.ShortProofs.{◌∈◌, here, there, proof_file, ShortProof}
use Rattle.enumeration.specs.Sequence.{short_proofs}
use Rattle.enumeration.specs.Order.{Precedes, Increasing}
use Rattle.enumeration.specs.Next.{first_rows, following, next_rows, next_file, StandsAt, NextIs}
use Rattle.enumeration.proofs.Members.{all_in, in_map}
use Rattle.enumeration.proofs.Listed.{Listing, short_proofs-gives, rows-listed, only_these}
use Rattle.enumeration.proofs.Ordered.{in_order, not-both, short-count}

-- ---- bytes
not_same : (xs ys : List ℕ) → same_bytes xs ys ≡ false → ¬ (ys ≡ xs)
not_same xs ys e d = subst T (subst (λ (ys : List ℕ). same_bytes xs ys ≡ false) d e) (same_refl xs)

-- ---- in a list in order
-- What follows the table given, among the rows of rss; N tells what its own rows are.
data Turn (N : List Row → Type 0) (K : ℕ) (given : List ℕ) (rss : List (List Row)) : Result (List Row) → Type 0 where
  follows : (rs qs : List Row) → given ≡ proof_file K rs → N rs → qs ∈ rss → Precedes K rs qs → ((ps : List Row) → ps ∈ rss → Precedes K rs ps → (ps ≡ qs) ⊎ Precedes K qs ps)
      → Turn N K given rss (accepted qs)
  none_left : (rs : List Row) → given ≡ proof_file K rs → N rs → ((ps : List Row) → ps ∈ rss → ¬ (Precedes K rs ps)) → Turn N K given rss (refused (answer 33 file_lent 0))
  not_among : ¬ (given ≡ proof_file K []) → ((ps : List Row) → ps ∈ rss → ¬ (given ≡ proof_file K ps)) → Turn N K given rss (refused (answer 32 file_lent 0))

module _ (K : ℕ) (given : List ℕ) where
  not_itself : (rs ps : List Row) → ps ≡ rs → ¬ (Precedes K rs ps)
  not_itself rs ps q h = let h' : Precedes K rs rs = subst (Precedes K rs) q h in not-both K rs rs h' h'

  -- the first of a list is the least of it
  least : (q : List Row) (rss : List (List Row)) → All (Precedes K q) rss → (ps : List Row) → ps ∈ (q ∷ rss) → (ps ≡ q) ⊎ Precedes K q ps
  least q rss a ps (here e) = inl e
  least q rss a ps (there m) = inr (all_in (Precedes K q) rss a ps m)

  header-turn : (rss : List (List Row)) → Increasing (Precedes K) rss → All (λ rs. 1 ≤ length rs) rss → given ≡ proof_file K [] → Turn (λ rs. rs ≡ []) K given rss (first_rows rss)
  unfolding first_rows
  header-turn [] i n e = none_left [] e refl (λ ps m h. all_in (λ _. ⊥) [] nil ps m)
  header-turn (q ∷ rss) (a, i) (cons n ns) e = follows [] q e refl (here refl) (inl n) (λ ps m h. least q rss a ps m)

  own_turn : (rs : List Row) (rss : List (List Row)) → All (Precedes K rs) rss → Increasing (Precedes K) rss → given ≡ proof_file K rs → Turn (λ qs. qs ∈ (rs ∷ rss)) K given (rs ∷ rss) (first_rows rss)
  unfolding first_rows
  own_turn rs [] a i e = none_left rs e (here refl) (only rs)
    where
      only : (rs ps : List Row) → ps ∈ (rs ∷ []) → ¬ (Precedes K rs ps)
      only rs ps (here q) h = not_itself rs ps q h
      only rs ps (there m) h = all_in (λ _. ⊥) [] nil ps m
  own_turn rs (q ∷ rss) (cons p ps) (a, i) e = follows rs q e (here refl) (there (here refl)) p later
    where
      later : (ps : List Row) → ps ∈ (rs ∷ q ∷ rss) → Precedes K rs ps → (ps ≡ q) ⊎ Precedes K q ps
      later ps (here e) h = absurd (not_itself rs ps e h)
      later ps (there m) h = least q rss a ps m

  -- one more in front that is not the one given
  before-turn : (rs : List Row) (rss : List (List Row)) → All (Precedes K rs) rss → ¬ (given ≡ proof_file K rs) → {r : Result (List Row)} → Turn (λ qs. qs ∈ rss) K given rss r → Turn (λ qs. qs ∈ (rs ∷ rss)) K given (rs ∷ rss) r
  before-turn rs rss a d (follows os qs e n m h l) = follows os qs e (there n) (there m) h later
    where
      later : (ps : List Row) → ps ∈ (rs ∷ rss) → Precedes K os ps → (ps ≡ qs) ⊎ Precedes K qs ps
      later ps (here q) h = absurd (not-both K os rs (subst (Precedes K os) q h) (all_in (Precedes K rs) rss a os n))
      later ps (there m) h = l ps m h
  before-turn rs rss a d (none_left os e n l) = none_left os e (there n) later
    where
      later : (ps : List Row) → ps ∈ (rs ∷ rss) → ¬ (Precedes K os ps)
      later ps (here q) h = not-both K os rs (subst (Precedes K os) q h) (all_in (Precedes K rs) rss a os n)
      later ps (there m) h = l ps m h
  before-turn rs rss a d (not_among h l) = not_among h other
    where
      other : (ps : List Row) → ps ∈ (rs ∷ rss) → ¬ (given ≡ proof_file K ps)
      other ps (here q) e = d (e ∙ ap (proof_file K) q)
      other ps (there m) e = l ps m e

  following-turn : ¬ (given ≡ proof_file K []) → (rss : List (List Row)) → Increasing (Precedes K) rss → Turn (λ rs. rs ∈ rss) K given rss (following K given rss)
  unfolding following
  following-turn h [] i = not_among h (λ ps m e. all_in (λ _. ⊥) [] nil ps m)
  following-turn h (rs ∷ rss) (a, i) = go (same_bytes (proof_file K rs) given) refl (following-turn h rss i)
    where
      go : (b : Bool) → same_bytes (proof_file K rs) given ≡ b → Turn (λ qs. qs ∈ rss) K given rss (following K given rss)
          → Turn (λ qs. qs ∈ (rs ∷ rss)) K given (rs ∷ rss) (elim b [ true ↦ first_rows rss | false ↦ following K given rss ])
      go true t ih = own_turn rs rss a i (sym (same-is (proof_file K rs) given (subst T (sym t) tt)))
      go false t ih = before-turn rs rss a (not_same (proof_file K rs) given t) ih

-- ---- of the files
module _ (A B : List ℕ) {K : ℕ} {rss : List (List Row)} (l : Listing A B (K, rss)) where
  pub initial-few : length (lines l.a.constraints l.b.constraints) ≤ 4
  initial-few = rw length-append (omega (arith, length-map l.a.constraints line_a, length-map l.b.constraints line_b, l.few))

  pub increasing : Increasing (Precedes K) rss
  increasing = subst (Increasing (Precedes K)) (sym (ap (λ (r : ℕ × List (List Row)). r.1) l.is)) (in_order K (lines l.a.constraints l.b.constraints) initial-few)

  pub none-empty : All (λ rs. 1 ≤ length rs) rss
  none-empty = subst (All (λ (rs : List Row). 1 ≤ length rs)) (sym (ap (λ (r : ℕ × List (List Row)). r.1) l.is)) (short-count (lines l.a.constraints l.b.constraints))

module _ (A B given : List ℕ) {K : ℕ} {rss : List (List Row)} (l : Listing A B (K, rss)) where
  short : (rs : List Row) → rs ∈ rss → ShortProof A B (proof_file K rs)
  short rs m = only_these A B l (proof_file K rs) (in_map (proof_file K) rs rss m)

  among : (file : List ℕ) (s : ShortProof A B file) → s.rows ∈ rss
  among file s = (rows-listed A B l file s).1

  -- the rows of a table given
  finish : (N : List Row → Type 0) → ((rs : List Row) → given ≡ proof_file K rs → N rs → StandsAt A B given K rs) → {r : Result (List Row)} → Turn N K given rss r → NextIs A B given K (r >>= λ rs. accepted (proof_file K rs))
  unfolding ◌>>=◌
  finish N known (follows rs qs e n m h least) = NextIs.follows rs qs (known rs e n) (short qs m) h (λ file s g. least s.rows (among file s) g)
  finish N known (none_left rs e n least) = NextIs.none_left rs (known rs e n) (λ file s g. least s.rows (among file s) g)
  finish N known (not_among h other) = NextIs.not_among h (λ s. other s.rows (among given s) (s.is ∙ ap (λ (n : ℕ). proof_file n s.rows) (rows-listed A B l given s).0))

  rows-turn : NextIs A B given K (next_rows K given rss >>= λ rs. accepted (proof_file K rs))
  unfolding next_rows
  rows-turn = go (same_bytes (proof_file K []) given) refl
    where
      go : (b : Bool) → same_bytes (proof_file K []) given ≡ b → NextIs A B given K ((elim b as (λ _. Result (List Row)) [ true ↦ first_rows rss | false ↦ following K given rss ]) >>= λ rs. accepted (proof_file K rs))
      go true t = finish (λ rs. rs ≡ []) (λ rs e n. record { is = e; started = inl n })
          (header-turn K given rss (increasing A B l) (none-empty A B l) (sym (same-is (proof_file K []) given (subst T (sym t) tt))))
      go false t = finish (λ rs. rs ∈ rss) (λ rs e m. record { is = e; started = inr (subst (ShortProof A B) (sym e) (short rs m)) })
          (following-turn K given (not_same (proof_file K []) given t) rss (increasing A B l))

-- Where the sequence is given: the least proof after the table given, 33 where there is none, and 32 where the table is neither a short proof nor the header alone.
pub next-turns : (A B given : List ℕ) (K : ℕ) (rss : List (List Row)) → short_proofs A B ≡ accepted (K, rss) → NextIs A B given K (next_file A B given)
unfolding next_file
next-turns A B given K rss e = subst (NextIs A B given K) (sym (binds _ e)) (rows-turn A B given ((short_proofs-gives A B).gives (K, rss) e))
