-- The rows that make a line, as plain mathematics: the new line, its limits, and each test. Assumes nothing.
use mathlib.Core.Path.{◌≡◌, refl, sym, ap, subst, ◌∙◌}
use mathlib.Core.Bool.{Bool, true, false}
use mathlib.Core.List.{List}
use Prim.Native.Nat.{ℕ, ◌*◌, ◌≤◌, ◌<◌}
use native.Mathlib.Numerals.{add-one}
use native.Mathlib.Omega.{arith}
use lib.Dec.{T}
use lib.ListN.{set, length-set}
use lib.IntN.{ℤ}
use borrow.Author.Tests.{lt-ltb, le-ltb}
use Rattle.forms.specs.Edition.{edition, edition1}
use Rattle.calculus.specs.Rules.{in_range}
use Rattle.std.specs.Prelude.{Ok, Err}
use Rattle.answers.specs.declared.refusals.Refusal.TheVariants.{OutOfRange, TooManyLines}
use Rattle.answers.specs.Answers.{◌>>◌, need}
use Rattle.proof.specs.Rows.{fitting}
use Rattle.lines.proofs.Parts.{agree_refl, agree-set, agree-sym}
use Rattle.lines.specs.Buffer.{size, line_in, Mixes, mixed_line}
use Rattle.lines.proofs.Lines.{length-lines, line-ext, bounded-same}
use Rattle.lines.proofs.Branch.{plain-stored}
use Rattle.lines.proofs.Mixing.{mixed-line, mixed-range, mixes-line}
use Rattle.lines.proofs.Range.{bounded-more}
use Rattle.lines.specs.Ready.{Ready}
use Rattle.lines.proofs.Keeping.{kept_refl}
use Rattle.tally.specs.Tally.{more_lines}
use Rattle.tally.specs.declared.Tally.{Tally}
use Rattle.rows.specs.Rows.{Operands, sum_of, Appended}

module _ {K : ℕ} {kinds : List ℕ} {buf : List ℤ} (t : Tally) (f : ℤ) (i : ℕ) (g : ℤ) (j kind : ℕ) (ready : Ready t.edition K kinds buf t.lines.0) where
  pub append-full : (edition t.edition).lines ≤ t.lines.0 → Appended K kinds buf t f i g j kind kinds buf (Err TooManyLines)
  unfolding fitting ◌>>◌ need
  append-full h = record { kept = kept_refl; by = λ refusal. rw (length-lines K kinds buf t.lines.0, le-ltb t.lines.0 (edition t.edition).lines h) }

  -- What `mix_line` left; the kind is stored where the line is made.
  module _ (terms : Operands t.lines.0 f i g j kind) (space : t.lines.0 < (edition t.edition).lines) {buf' : List ℤ} {b : Bool}
      (mixes : Mixes buf f (i * size K) g (j * size K) (t.lines.0 * size K) (size K) buf' b) where
    sum_is : {kinds' : List ℕ} → kinds' ≡ set kinds t.lines.0 kind → line_in K kinds' (mixed_line K f i g j t.lines.0 buf) t.lines.0 ≡ sum_of K kinds buf f i g j kind
    sum_is {kinds'} sets =
        mixed-line K f i g j t.lines.0 buf ready.branch.room terms.first terms.second kinds kinds' (line_in K kinds buf i) (line_in K kinds buf j) refl refl
        ∙ line-ext (rw sets (plain-stored kinds t.lines.0 kind (omega (arith, ready.room)) terms.plain)) refl refl

    range : in_range edition1.range (sum_of K kinds buf f i g j kind) ≡ b
    range =
        ap (in_range edition1.range) (sym (sum_is refl))
        ∙ mixed-range K f i g j t.lines.0 buf ready.branch.room terms.first terms.second edition1.range (set kinds t.lines.0 kind)
        ∙ sym mixes.fits

    pub append-range : b ≡ false → Appended K kinds buf t f i g j kind kinds buf' (Err OutOfRange)
    unfolding fitting ◌>>◌ need
    append-range e = record {
      kept = record { lines_same = agree-sym mixes.keeps; kinds_same = agree_refl; lines_length = mixes.long; kinds_length = refl };
      by = λ refusal. rw (length-lines K kinds buf t.lines.0, lt-ltb t.lines.0 (edition t.edition).lines space, range, e);
    }

    pub append-made : {t' : Tally} {kinds' : List ℕ} → b ≡ true → kinds' ≡ set kinds t.lines.0 kind → t' ≡ more_lines t → Appended K kinds buf t f i g j kind kinds' buf' (Ok t')
    unfolding fitting ◌>>◌ need
    append-made {kinds' = kinds'} e sets u =
        let new : line_in K kinds' buf' t.lines.0 ≡ sum_of K kinds buf f i g j kind = ap (λ (x : List ℤ). line_in K kinds' x t.lines.0) (mixes-line K i j t.lines.0 mixes e) ∙ sum_is sets in
        record {
          kept = record {
            lines_same = agree-sym mixes.keeps;
            kinds_same = rw sets (agree-sym (agree-set t.lines.0 kinds t.lines.0 kind (omega arith)));
            lines_length = mixes.long;
            kinds_length = rw sets (length-set kinds t.lines.0 kind);
          };
          by = (
            λ refusal. rw (length-lines K kinds buf t.lines.0, lt-ltb t.lines.0 (edition t.edition).lines space, range, e),
            record {
              last = new;
              limited = record {
                bounded = rw add-one (bounded-more K buf' t.lines.0 (omega (arith, ready.branch.room, mixes.long)) kinds' (bounded-same mixes.keeps ready.branch.bounded) (subst T (sym (ap (in_range edition1.range) new ∙ range ∙ e)) tt));
                most = omega arith;
              };
              tally = u;
            },
          );
        }
