-- Two closings as one behind bytes that are written, and one behind bytes. Assumes nothing.
use mathlib.Core.Path.{◌≡◌, refl, sym, subst, ◌∙◌}
use mathlib.Core.List.{List, [], ◌++◌}
use Prim.Native.Nat.{ℕ, ◌+◌, ◌≤◌}
use native.Mathlib.Omega.{arith}
use lib.IntN.{ℤ}
use lib.ListN.{length, length-append}
use Rattle.forms.specs.Edition.{edition1}
use Rattle.forms.specs.Forms.{Formula, ◌and◌, ◌or◌}
use Rattle.answers.specs.declared.Answer.{Answer}
use Rattle.answers.specs.Answers.{Result, refused, accepted, ◌>>=◌}
use Rattle.fields.specs.Fields.{Fields, field_bytes}
use Rattle.fields.specs.Places.{fields_at}
use Rattle.formula.specs.Formula.{encode}
use Rattle.formula_write.specs.Writing.{Stores}
use Rattle.proof.specs.Check.{Closing}
use Rattle.tally.specs.declared.Tally.{Tally}
use Rattle.openings.specs.Opening.{in_turn}
use Rattle.formula_write.proofs.Storing.{both_stored, stores_both}
use Rattle.std.specs.Prelude.{Ok, Err}
use Rattle.branches.specs.Branching.{Branched, Closes, BranchedBy, BranchChecked}
use Rattle.branches.specs.declared.branch.BranchFault.{BranchFault}
use Rattle.branches.specs.declared.branch.Closed.{Closed}

-- ---- the bytes of a formula of one or of two
pub or_bytes : (f g : Formula) → encode edition1 (f or g) ≡ field_bytes 0x31 [] ++ encode edition1 f ++ encode edition1 g
unfolding encode
or_bytes f g = refl

pub and_bytes : (f g : Formula) → encode edition1 (f and g) ≡ field_bytes 0x32 [] ++ encode edition1 f ++ encode edition1 g
unfolding encode
and_bytes f g = refl

-- ---- what is checked is the same
pub checked-as : {back : ℕ} {R R' : Result Closing} {K n : ℕ} {p : List ℕ} {at : ℕ} {kinds : List ℕ} {buf : List ℤ} {t : Tally} {scratch : List ℕ} {o : ℕ} {kinds' : List ℕ} {buf' : List ℤ} {scratch' : List ℕ} {r : Branched}
    → R ≡ R' → BranchChecked back R' K n p at kinds buf t scratch o kinds' buf' scratch' r → BranchChecked back R K n p at kinds buf t scratch o kinds' buf' scratch' r
checked-as {back} {p = p} {at} {t = t} {scratch = scratch} {o} {scratch' = scratch'} {r} e c = record { kept = c.kept; long = c.long; by = subst (λ (R : Result Closing). BranchedBy back R p at t scratch o scratch' r) (sym e) c.by }

-- A closing with its formula in another.
abbrev pub alone : (Formula → Formula) → Result Closing → Result Closing
alone make R = R >>= λ x. accepted (record { formula = make x.formula; rows = x.rows; after = x.after })

-- ---- a closing behind bytes, which are the front of the formula's
module _ {p : List ℕ} {at : ℕ} {t : Tally} {scratch : List ℕ} {o : ℕ} {pre : List ℕ} {scratch₁ : List ℕ} {o₁ : ℕ} (h : Stores scratch o pre scratch₁ o₁) {R : Result Closing} (back₁ : ℕ) where
  -- A formula of one.
  module _ (make : Formula → Formula) (bytes : (f : Formula) → encode edition1 (make f) ≡ pre ++ encode edition1 f) (back : ℕ) (room : length pre + back ≤ back₁) where
    pub alone-checks : {K n : ℕ} {kinds : List ℕ} {buf : List ℤ} {kinds₁ : List ℕ} {buf₁ : List ℤ} {scratch₂ : List ℕ} {r : Branched}
        → BranchChecked back₁ R K n p at kinds buf t scratch₁ o₁ kinds₁ buf₁ scratch₂ r → BranchChecked back (alone make R) K n p at kinds buf t scratch o kinds₁ buf₁ scratch₂ r
    unfolding ◌>>=◌
    alone-checks {r = Err f} w = record { kept = w.kept; long = w.long ∙ h.long; by = rw w.by }
    alone-checks {r = Ok end} w =
        let c = w.by in
        let e = bytes c.formula in
        let s = stores_both pre (encode edition1 c.formula) h (record { long = w.long; o_is = c.o_is; stored = c.stored }) in
        record {
          kept = w.kept;
          long = w.long ∙ h.long;
          by = record {
            formula = make c.formula;
            is = rw c.is;
            o_is = rw e s.o_is;
            stored = rw e s.stored;
            within = omega (arith, c.within, h.o_is);
            unread = c.unread;
            lines_is = c.lines_is;
            open_is = c.open_is;
            edition_is = c.edition_is;
          };
        }

  -- A formula of two, the second of the fields behind the first.
  module _ (make : Formula → Formula → Formula) (bytes : (f g : Formula) → encode edition1 (make f g) ≡ pre ++ encode edition1 f ++ encode edition1 g) (second : ℕ → Fields → Result Closing) where
    module _ {a o₂ : ℕ} {scratch₂ : List ℕ} {t₁ : Tally} (c : Closes back₁ R p at t a scratch₁ o₁ o₂ scratch₂ t₁) (l : length scratch₂ ≡ length scratch₁) where
      in-turn-refused : {x : Answer} → second t₁.rows.0 (fields_at p a) ≡ refused x → in_turn make R second ≡ refused x
      unfolding ◌>>=◌
      in-turn-refused e = rw (c.is, e)

      module _ (back₂ back : ℕ) (room : length pre + back ≤ back₁ + back₂) where
        in-turn-closes : {b o₃ : ℕ} {t₂ : Tally} {scratch₃ : List ℕ} → Closes back₂ (second t₁.rows.0 (fields_at p a)) p a t₁ b scratch₂ o₂ o₃ scratch₃ t₂ → Closes back (in_turn make R second) p at t b scratch o o₃ scratch₃ t₂
        unfolding ◌>>=◌
        in-turn-closes d =
            let f = encode edition1 c.formula in
            let g = encode edition1 d.formula in
            let e = bytes c.formula d.formula in
            let s = stores_both pre f h (record { long = l; o_is = c.o_is; stored = c.stored }) in
            let n = length-append (pre ++ f) g in
            record {
              formula = make c.formula d.formula;
              is = rw (c.is, d.is);
              o_is = rw e (omega (arith, d.o_is, s.o_is));
              stored = rw e (both_stored scratch o (pre ++ f) g s.o_is s.long s.stored d.stored);
              within = omega (arith, d.within, c.within, h.o_is);
              unread = omega (arith, d.unread, c.unread);
              lines_is = d.lines_is ∙ c.lines_is;
              open_is = d.open_is ∙ c.open_is;
              edition_is = d.edition_is ∙ c.edition_is;
            }

        in-turn-by : (scratch₃ : List ℕ) (r : Branched) → BranchedBy back₂ (second t₁.rows.0 (fields_at p a)) p a t₁ scratch₂ o₂ scratch₃ r → BranchedBy back (in_turn make R second) p at t scratch o scratch₃ r
        in-turn-by scratch₃ (Err f) e = in-turn-refused e
        in-turn-by scratch₃ (Ok end) d = in-turn-closes d

    module _ {K n : ℕ} {kinds : List ℕ} {buf : List ℤ} {kinds₁ : List ℕ} {buf₁ : List ℤ} {scratch₂ : List ℕ} {r₁ : Branched} (c : BranchChecked back₁ R K n p at kinds buf t scratch₁ o₁ kinds₁ buf₁ scratch₂ r₁) (back : ℕ) where
      pub in-turn-fault : {w : BranchFault} → r₁ ≡ Err w → BranchChecked back (in_turn make R second) K n p at kinds buf t scratch o kinds₁ buf₁ scratch₂ r₁
      unfolding ◌>>=◌
      in-turn-fault e = let refuses = rw e at c.by in record { kept = c.kept; long = c.long ∙ h.long; by = rw e (rw refuses) }

      pub in-turn-checks : (back₂ : ℕ) → length pre + back ≤ back₁ + back₂ → {end : Closed} → r₁ ≡ Ok end
          → {kinds₂ : List ℕ} {buf₂ : List ℤ} {scratch₃ : List ℕ} {r : Branched} → BranchChecked back₂ (second end.tally.rows.0 (fields_at p end.at)) K n p end.at kinds buf end.tally scratch₂ end.o kinds₂ buf₂ scratch₃ r
          → BranchChecked back (in_turn make R second) K n p at kinds buf t scratch o kinds₂ buf₂ scratch₃ r
      in-turn-checks back₂ room e {scratch₃ = scratch₃} {r = r} d = record {
        kept = d.kept;
        long = d.long ∙ c.long ∙ h.long;
        by = in-turn-by (rw e at c.by) c.long back₂ back room scratch₃ r d.by;
      }
