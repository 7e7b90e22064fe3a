-- Repeated calls write the short proofs and no other files. Assumes nothing.
use mathlib.Core.Path.{◌≡◌, refl, sym, ◌∙◌, ap, subst}
use mathlib.Core.Logic.{◌↔◌, ◌⊎◌, inl, inr}
use mathlib.Core.Bool.{Bool, true, false}
use mathlib.Core.List.{List, []}
use Prim.Native.Nat.{ℕ}
use native.Mathlib.Omega.{arith}
use borrow.Author.Tests.{le-leb}
use lib.Dec.{leb}
use lib.ListN.{length, take, drop}
use lib.Seq.{take_at}
use Rattle.calculus.specs.Rules.{Row}
use Rattle.answers.specs.Answers.{acceptance, Result, accepted, Written, over, fit, written}
use Rattle.enumeration.specs.ShortProofs.{proof_file, ShortProof}
use Rattle.enumeration.specs.Sequence.{short_proofs}
use Rattle.enumeration.specs.Next.{next_file, next_proof, NextIs, follows, none_left, not_among}
use Rattle.enumeration.proofs.Next.{next-turns}
use Rattle.enumeration.proofs.Reachable.{Reachable, start as at-start, further as step-on, all-reached}

-- Each call is lent some output, and what an accepted one writes is given to the next.
pub data Called (A B : List ℕ) (K : ℕ) : List ℕ → Type 0 where
  start : Called A B K (proof_file K [])
  further : {given : List ℕ} → Called A B K given → (output : List ℕ) (w : Written) → w ≡ next_proof A B given output → w.answer.number ≡ 0 → Called A B K (take w.count w.output)

-- ---- what a call leaves
taken : (file output : List ℕ) → take (length file) (over file output) ≡ file
unfolding over
taken file output = take_at file (drop (length file) output) (length file) refl

wrote : (A B given next : List ℕ) → next_file A B given ≡ accepted next → next_proof A B given next ≡ record { answer = acceptance; count = length next; output = over next next }
unfolding next_proof written fit
wrote A B given next e = ap (λ (r : Result (List ℕ)). written r next) e ∙ ap (λ (b : Bool). fit next b next) (le-leb (length next) (length next) (omega arith))

-- ---- every table that is reached is called for
called_of : {A B : List ℕ} {K : ℕ} {file : List ℕ} → Reachable A B K file → Called A B K file
called_of at-start = start
called_of {A} {B} {K} (step-on {given} {next} r e) =
    let w = wrote A B given next e in
    subst (Called A B K) (ap (λ (x : Written). take x.count x.output) w ∙ taken next next) (further (called_of r) next (next_proof A B given next) refl (ap (λ (x : Written). x.answer.number) w))

-- ---- and what is called for is a short proof
fitted : (P : List ℕ → Type 0) (file output : List ℕ) (b : Bool) → P file → (fit output b file).answer.number ≡ 0 → P (take (fit output b file).count (fit output b file).output)
unfolding fit
fitted P file output true p h = subst P (sym (taken file output)) p
fitted P file output false p h = absurd (omega arith)

left_by : (A B given : List ℕ) (K : ℕ) (output : List ℕ) (told : Result (List ℕ)) → NextIs A B given K told → (written told output).answer.number ≡ 0
    → ShortProof A B (take (written told output).count (written told output).output)
unfolding written
left_by A B given K output _ (follows rs qs k s l least) h = fitted (ShortProof A B) (proof_file K qs) output (leb (length (proof_file K qs)) (length output)) s h
left_by A B given K output _ (none_left rs k least) h = absurd (omega arith)
left_by A B given K output _ (not_among n s) h = absurd (omega arith)

module _ (A B : List ℕ) (K : ℕ) (rss : List (List Row)) (e : short_proofs A B ≡ accepted (K, rss)) where
  short-of : {file : List ℕ} → Called A B K file → (file ≡ proof_file K []) ⊎ ShortProof A B file
  unfolding next_proof
  short-of start = inl refl
  short-of (further {given} c output w q h) =
      inr (subst (λ (x : Written). ShortProof A B (take x.count x.output)) (sym q) (left_by A B given K output (next_file A B given) (next-turns A B given K rss e) (subst (λ (x : Written). x.answer.number ≡ 0) q h)))

  called : {file : List ℕ} → (file ≡ proof_file K []) ⊎ ShortProof A B file → Called A B K file
  called (inl p) = subst (Called A B K) (sym p) start
  called {file} (inr s) = called_of (all-reached A B K rss e file s)

pub called_iff : (A B : List ℕ) (K : ℕ) (rss : List (List Row)) → short_proofs A B ≡ accepted (K, rss) → (file : List ℕ) → Called A B K file ↔ ((file ≡ proof_file K []) ⊎ ShortProof A B file)
called_iff A B K rss e file = (short-of A B K rss e, called A B K rss e)
