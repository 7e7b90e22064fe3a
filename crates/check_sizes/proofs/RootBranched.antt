-- What the branch checker leaves at the root, as what the check leaves. Assumes nothing.
use mathlib.Core.Path.{◌≡◌, refl}
use mathlib.Core.List.{List}
use Prim.Native.Nat.{ℕ, ◌+◌, ◌≤◌, ◌<◌}
use native.Mathlib.Omega.{arith}
use lib.IntN.{ℤ}
use lib.ListN.{length}
use Rattle.forms.specs.Edition.{edition}
use Rattle.answers.specs.declared.Answer.{Answer}
use Rattle.answers.specs.declared.Position.{Position}
use Rattle.answers.specs.Answers.{root}
use Rattle.answers.specs.declared.WriteResult.{WriteResult}
use Rattle.fields.specs.Places.{fields_at}
use Rattle.proof.specs.Check.{check_branch}
use Rattle.lines.specs.Buffer.{lines_in}
use Rattle.tally.specs.Tally.{tally}
use Rattle.tally.specs.declared.Tally.{Tally}
use Rattle.branches.specs.Branching.{Branched, answer_of, kept_back, Started, Closes, ChecksBranch}
use Rattle.std.specs.Prelude.{Ok, Err}
use Rattle.branches.specs.declared.branch.BranchFault.{BranchFault}
use Rattle.check_output.specs.Output.{Finishes, InScratch}
use Rattle.check_sizes.specs.Root.{Roots}
use Rattle.check_sizes.proofs.Root.{root-fault, root-short, root-ended, root-closed}

module _ {e K : ℕ} {P : List ℕ} {at n rows : ℕ} {kinds kinds' : List ℕ} {buf buf' : List ℤ} {S S' : List ℕ} {x : Branched}
    {here : Position} (b : ChecksBranch K P at here kinds buf (tally e rows n 0) S 0 kinds' buf' S' x) (at-root : here ≡ root) (none : rows ≡ 0) where
  pub by-fault : {f : BranchFault} {y : Answer} {out : List ℕ} → x ≡ Err f → y ≡ answer_of f
      → Roots e K (lines_in K kinds buf n) P at S out out (record { answer = y; count = 0 })
  by-fault f q = rw q (root-fault e (rw (f, at-root, none) at b.by) refl)

  module _ {end o : ℕ} {t' : Tally} (f : x ≡ Ok (record { at = end; o = o; tally = t' })) where
    c : Closes kept_back (check_branch (edition e) K 32 root 0 (lines_in K kinds buf n) (fields_at P at)) P at (tally e 0 n 0) end S 0 o S' t'
    c = rw (f, at-root, none) at b.by

    pub by-short : {out : List ℕ} {r : WriteResult} → o ≤ 65528 → length S' < o → r.answer.number ≡ 1 → Roots e K (lines_in K kinds buf n) P at S out out r
    by-short h l one = root-short e {o = o} (omega (arith, c.within)) h (omega (arith, b.long)) one

    module _ (st : Started K kinds buf (tally e rows n 0) P at 0) (room : o + 8 ≤ 65536 → o ≤ length S') where
      pub by-closed-ended : InScratch o S'
      by-closed-ended = root-ended e K (lines_in K kinds buf n) P at (record { formula = c.formula; rows = t'.rows.0; after = fields_at P end }) c.is end o refl (omega (arith, c.o_is)) S b.long room (omega (arith, c.within, st.room)) (λ h. c.stored (omega arith))

      pub by-closed : {out out' : List ℕ} {r : WriteResult} → Finishes K P end S' o out out' r → Roots e K (lines_in K kinds buf n) P at S out out' r
      by-closed l = root-closed e K (lines_in K kinds buf n) P at (record { formula = c.formula; rows = t'.rows.0; after = fields_at P end }) c.is end o refl (omega (arith, c.o_is)) S b.long room (omega (arith, c.within, st.room)) (λ h. c.stored (omega arith)) l
