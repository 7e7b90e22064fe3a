-- What follows a table is one answer only. Assumes nothing.
use mathlib.Core.Path.{◌≡◌, refl, sym, ◌∙◌, ap, subst}
use mathlib.Core.Logic.{◌⊎◌, inl, inr}
use mathlib.Core.List.{List, []}
use Prim.Native.Nat.{ℕ}
use native.Mathlib.Omega.{arith}
use Rattle.calculus.specs.Rules.{Row}
use Rattle.answers.specs.Answers.{Result, accepted}
use Rattle.enumeration.specs.ShortProofs.{proof_file, ShortProof}
use Rattle.enumeration.specs.Order.{Lexicographic, Precedes}
use Rattle.enumeration.specs.Sequence.{short_proofs}
use Rattle.enumeration.specs.Next.{StandsAt, NextIs, follows, none_left, not_among}
use Rattle.enumeration.proofs.Listed.{short_proofs-gives, rows-listed}
use Rattle.enumeration.proofs.Ordered.{not-both, same_count}

-- ---- the order goes by the files
as_first : (K : ℕ) (rs rs' qs : List Row) → proof_file K rs ≡ proof_file K rs' → Precedes K rs qs → Precedes K rs' qs
as_first K rs rs' qs p (inl h) = let c = same_count K rs rs' p in inl (omega arith)
as_first K rs rs' qs p (inr (n, b)) = inr (sym (same_count K rs rs' p) ∙ n, subst (λ (f : List ℕ). Lexicographic f (proof_file K qs)) p b)

as-second : (K : ℕ) (rs qs qs' : List Row) → proof_file K qs ≡ proof_file K qs' → Precedes K rs qs → Precedes K rs qs'
as-second K rs qs qs' p (inl h) = let c = same_count K qs qs' p in inl (omega arith)
as-second K rs qs qs' p (inr (n, b)) = inr (n ∙ same_count K qs qs' p, subst (λ (f : List ℕ). Lexicographic (proof_file K rs) f) p b)

module _ (A B given : List ℕ) (K : ℕ) (rss : List (List Row)) (e : short_proofs A B ≡ accepted (K, rss)) where
  same-file : (qs : List Row) (s : ShortProof A B (proof_file K qs)) → proof_file K qs ≡ proof_file K s.rows
  same-file qs s =
      let l = (short_proofs-gives A B).gives (K, rss) e in
      let (k, m) = rows-listed A B l (proof_file K qs) s in
      s.is ∙ ap (λ (n : ℕ). proof_file n s.rows) k

  abbrev Least : (rs qs : List Row) → Type 0
  Least rs qs = (file : List ℕ) (s : ShortProof A B file) → Precedes K rs s.rows → (s.rows ≡ qs) ⊎ Precedes K qs s.rows

  -- one that is after the table is the least, or after the least
  behind-least : (rs qs rs' qs' : List Row) → proof_file K rs ≡ proof_file K rs' → Least rs qs → (s : ShortProof A B (proof_file K qs')) → Precedes K rs' qs' → (proof_file K qs ≡ proof_file K qs') ⊎ Precedes K qs qs'
  behind-least rs qs rs' qs' p least s h = go (least (proof_file K qs') s (as-second K rs qs' s.rows (same-file qs' s) (as_first K rs' rs qs' (sym p) h)))
    where
      go : (s.rows ≡ qs) ⊎ Precedes K qs s.rows → (proof_file K qs ≡ proof_file K qs') ⊎ Precedes K qs qs'
      go (inl q) = inl (ap (proof_file K) (sym q) ∙ sym (same-file qs' s))
      go (inr q) = inr (as-second K qs s.rows qs' (sym (same-file qs' s)) q)

  none-and-one : (rs rs' qs : List Row) → proof_file K rs ≡ proof_file K rs' → ((file : List ℕ) (s : ShortProof A B file) → ¬ (Precedes K rs s.rows)) → ShortProof A B (proof_file K qs) → Precedes K rs' qs → ⊥
  none-and-one rs rs' qs p none s h = none (proof_file K qs) s (as-second K rs qs s.rows (same-file qs s) (as_first K rs' rs qs (sym p) h))

  known_among : (rs : List Row) → StandsAt A B given K rs → ¬ (given ≡ proof_file K []) → ¬ (ShortProof A B given) → ⊥
  known_among rs k n m = go k.started
    where
      go : (rs ≡ []) ⊎ ShortProof A B given → ⊥
      go (inl q) = n (k.is ∙ ap (proof_file K) q)
      go (inr s) = m s

  pub one : {x y : Result (List ℕ)} → NextIs A B given K x → NextIs A B given K y → x ≡ y
  one (follows rs qs k s h l) (follows rs' qs' k' s' h' l') = ap accepted (go (behind-least rs qs rs' qs' (sym k.is ∙ k'.is) l s' h') (behind-least rs' qs' rs qs (sym k'.is ∙ k.is) l' s h))
    where
      go : (proof_file K qs ≡ proof_file K qs') ⊎ Precedes K qs qs' → (proof_file K qs' ≡ proof_file K qs) ⊎ Precedes K qs' qs → proof_file K qs ≡ proof_file K qs'
      go (inl p) q = p
      go (inr p) (inl q) = sym q
      go (inr p) (inr q) = absurd (not-both K qs qs' p q)
  one (follows rs qs k s h l) (none_left rs' k' n') = absurd (none-and-one rs' rs qs (sym k'.is ∙ k.is) n' s h)
  one (follows rs qs k s h l) (not_among n m) = absurd (known_among rs k n m)
  one (none_left rs k n) (follows rs' qs' k' s' h' l') = absurd (none-and-one rs rs' qs' (sym k.is ∙ k'.is) n s' h')
  one (none_left rs k n) (none_left rs' k' n') = refl
  one (none_left rs k n) (not_among n' m') = absurd (known_among rs k n' m')
  one (not_among n m) (follows rs' qs' k' s' h' l') = absurd (known_among rs' k' n m)
  one (not_among n m) (none_left rs' k' n') = absurd (known_among rs' k' n m)
  one (not_among n m) (not_among n' m') = refl
