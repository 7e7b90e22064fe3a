-- Bundles of four constraints at most have a sequence; it has all their short proofs, in order and each once. Assumes nothing.
use mathlib.Core.Path.{◌≡◌, refl, sym, ◌∙◌, ap, subst}
use mathlib.Core.Bool.{Bool, true, false}
use mathlib.Core.List.{List, map}
use Prim.Native.Nat.{ℕ, ◌+◌}
use borrow.Author.Tests.{leb-true, leb-false, le-leb, lt-leb}
use lib.Dec.{leb}
use lib.ListN.{length}
use Rattle.forms.specs.Edition.{newest_edition}
use Rattle.forms.specs.Forms.{Constraint, lines}
use Rattle.calculus.specs.Rules.{Row}
use Rattle.answers.specs.declared.Answer.{Answer}
use Rattle.answers.specs.Answers.{answer, file_lent, Result, refused, accepted}
use Rattle.answers.proofs.Results.{bind-refused, binds, pass, fail}
use Rattle.fields.specs.Header.{agrees}
use Rattle.bundle.specs.Bundle.{Bundle, both_read}
use Rattle.bundle.specs.Layout.{BundleFile}
use Rattle.bundle.proofs.Laid.{BothLaid, both-read-gives, both-read-accepts}
use Rattle.proof.proofs.Agree.{agreed, agrees-refl}
use Rattle.enumeration.specs.ShortProofs.{proof_file}
use Rattle.enumeration.specs.Order.{Increasing}
use Rattle.enumeration.specs.Sequence.{short_proofs_of, short_proofs}
use Rattle.enumeration.specs.Next.{next_file}
use Rattle.enumeration.specs.Enumerates.{BothState, Enumerable, Fifth, Follows, Enumerates}
use Rattle.enumeration.proofs.Listed.{short_proofs-gives, none_left_out, only_these}
use Rattle.enumeration.proofs.Ordered.{each_once}
use Rattle.enumeration.proofs.Next.{initial-few, increasing, next-turns}

-- ---- what is read, by what the files state
module _ {A B : List ℕ} {K : ℕ} {a b : List Constraint} (s : BothState A B K a b) where
  pub state-read : both_read newest_edition A B ≡ accepted (record { edition = s.n_A; K = K; constraints = a }, record { edition = s.n_B; K = K; constraints = b })
  unfolding agrees
  state-read = both-read-accepts newest_edition A B _ _ (record { laid_a = record { file = s.states_a; agree = tt }; laid_b = record { file = s.states_b; agree = agrees-refl K } })

laid-state : {A B : List ℕ} {a b : Bundle} → BothLaid newest_edition A B (a, b) → BothState A B a.K a.constraints b.constraints
laid-state {B = B} {a = a} {b = b} l = record {
  n_A = a.edition;
  n_B = b.edition;
  states_a = l.laid_a.file;
  states_b = subst (λ (K : ℕ). BundleFile newest_edition B b.edition K b.constraints) (agreed a.K b.K l.laid_b.agree) l.laid_b.file;
}

-- ---- the sequence
pub enumerable-sequence : {A B : List ℕ} {K : ℕ} (e : Enumerable A B K) → short_proofs A B ≡ accepted (K, short_proofs_of (lines e.a e.b))
unfolding short_proofs
enumerable-sequence e = binds _ (state-read e.state) ∙ pass _ _ (le-leb (length e.a + length e.b) 4 e.four)

pub enumerates : (A B : List ℕ) (K : ℕ) (rss : List (List Row)) → short_proofs A B ≡ accepted (K, rss) → Enumerates A B K rss
enumerates A B K rss e =
    let l = (short_proofs-gives A B).gives (K, rss) e in
    record {
      none_left_out = none_left_out A B l;
      only_these = only_these A B l;
      in_order = increasing A B l;
      each_once = subst (λ (rss : List (List Row)). Increasing (λ f g. ¬ (f ≡ g)) (map (proof_file K) rss)) (sym (ap (λ (r : ℕ × List (List Row)). r.1) l.is))
          (each_once K (lines l.a.constraints l.b.constraints) (initial-few A B l));
    }

-- ---- what is answered, and why
pub data Answered (A B given : List ℕ) : Result (List ℕ) → Type 0 where
  unread : (a : Answer) → both_read newest_edition A B ≡ refused a → Answered A B given (refused a)
  five : Fifth A B → Answered A B given (refused (answer 8 file_lent 0))
  follows : {told : Result (List ℕ)} → Follows A B given told → Answered A B given told

pub answered : (A B given : List ℕ) → Answered A B given (next_file A B given)
unfolding next_file short_proofs
answered A B given = go (both_read newest_edition A B) refl
  where
    by_count : (a b : Bundle) (t : Bool) → leb (length a.constraints + length b.constraints) 4 ≡ t → both_read newest_edition A B ≡ accepted (a, b) → Answered A B given (next_file A B given)
    by_count a b true q e =
        let s = laid-state ((both-read-gives newest_edition A B).gives (a, b) e) in
        follows (record { K = a.K; enumerable = record { a = a.constraints; b = b.constraints; state = s; four = leb-true _ _ q }; next = next-turns A B given a.K _ (binds _ e ∙ pass _ _ q) })
    by_count a b false q e =
        let s = laid-state ((both-read-gives newest_edition A B).gives (a, b) e) in
        subst (Answered A B given) (sym (bind-refused _ (binds _ e ∙ fail _ _ q))) (five (record { K = a.K; a = a.constraints; b = b.constraints; state = s; five = leb-false _ _ q }))

    go : (r : Result (Bundle × Bundle)) → both_read newest_edition A B ≡ r → Answered A B given (next_file A B given)
    go (refused a) e = subst (Answered A B given) (sym (bind-refused _ (bind-refused _ e))) (unread a e)
    go (accepted (a, b)) e = by_count a b (leb (length a.constraints + length b.constraints) 4) refl e

-- A fifth constraint is refused by 8, whatever table is given.
pub fifth-refused : (A B given : List ℕ) → Fifth A B → next_file A B given ≡ refused (answer 8 file_lent 0)
unfolding next_file short_proofs
fifth-refused A B given x = bind-refused _ (binds _ (state-read x.state) ∙ fail _ _ (lt-leb (length x.a + length x.b) 4 x.five))
