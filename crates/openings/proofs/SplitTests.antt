-- The tests of a split of a t ≠ 0, one way after the other. Assumes nothing.
use mathlib.Core.Path.{◌≡◌, sym, ap, ap₂, subst, ◌∙◌}
use mathlib.Core.Bool.{Bool, true, false, cond, ◌&&◌}
use mathlib.Core.Option.{some}
use mathlib.Core.List.{List}
use Prim.Native.Nat.{ℕ, suc, ◌+◌, ◌*◌, ◌-◌, ◌≤◌, ◌<◌}
use native.Mathlib.Omega.{arith}
use lib.Dec.{T, eqb}
use lib.IntN.{ℤ, pos, negsuc, ◌+ℤ◌, ◌*ℤ◌}
use lib.ListN.{length, get_or}
use borrow.Author.Tests.{lt-ltb, eqb-true, eqb-false}
use Rattle.forms.specs.Edition.{edition, edition1, newest_edition}
use Rattle.forms.specs.Forms.{≤0, Side, Line, line, Form, neg, ◌plus◌, small}
use Rattle.forms.specs.Flat.{form_in}
use Rattle.calculus.specs.Rules as rules
use Rattle.calculus.specs.Rules.{in_range}
use Rattle.answers.specs.declared.Answer.{Answer}
use Rattle.answers.specs.Answers.{Result, refused, ◌>>=◌, ◌>>◌, need, found}
use Rattle.fields.specs.Fields.{Fields}
use Rattle.proof.specs.Rows.{line_at, owner, disequality, fitting}
use Rattle.proof.specs.Check.{Closing, Checker, Following, check_row, check_split, check_branch}
use Rattle.lines.specs.Buffer.{size, line_in, lines_in, Bounded}
use Rattle.lines.proofs.Lines.{before, line-at, line-past, line_same, length-lines, bounded-less}
use Rattle.lines.proofs.Starting.{plus_none}
use Rattle.lines.proofs.Negating.{tested-neg}
use Rattle.lines.specs.Ready.{KindRead, Ready, LinesKept}
use Rattle.lines.proofs.Keeping.{kept_refl, ready-kept}
use Rattle.lines.proofs.KindBytes.{apart-A, apart-B, kind-unowned}
use Rattle.tally.specs.declared.Tally.{Tally}
use Rattle.std.specs.Prelude.{Ok, Err}
use Rattle.answers.specs.declared.refusals.Refusal.{Refusal}
use Rattle.answers.specs.Refusals.{number_of}
use Rattle.openings.specs.Opening.{Opening, start_of, opening, FirstLineStands, Opens, row_opened}
use Rattle.openings.specs.Splitting.{owner_of, raised_by, negated_of, both_of, SplitOpens}

-- ---- whose line it is, by what is read of the byte that is stored
pub read-two : {b r : ℕ} → KindRead b r → eqb r 2 ≡ eqb b 2
read-two k = ap (λ (x : ℕ). eqb x 2) k.is

-- ---- the tests
module _ (K : ℕ) (kinds : List ℕ) (buf : List ℤ) (t : Tally) (i : ℕ) where
  refuses : {x : Refusal} → ((next : Following) (refusal : ℕ → Answer) (rows : ℕ) (fs : Fields) → row_opened K kinds buf t (rules.Split i) next refusal rows fs ≡ refused (refusal (number_of x)))
      → {kinds' : List ℕ} {buf' : List ℤ} → LinesKept K t.lines.0 kinds buf kinds' buf' → SplitOpens K kinds buf t i kinds' buf' (Err x)
  refuses is k = record { opens = record { kept = k; by = is }; second = λ t' z. absurd (let w : ◌≡◌ {A = ℕ} 0 1 = cc in omega arith) }

  pub split-none : t.lines.0 ≤ i → SplitOpens K kinds buf t i kinds buf (Err Refusal.NoSuchLine)
  unfolding check_row disequality line_at ◌>>=◌ found
  split-none h = refuses (λ next refusal rows fs. rw (line-past K kinds buf t.lines.0 i h)) kept_refl

  module _ (hi : i < t.lines.0) {r : ℕ} (k : KindRead (get_or kinds i 0) r) where
    pub split-kind : r < 2 → SplitOpens K kinds buf t i kinds buf (Err Refusal.WrongLineKind)
    unfolding check_row disequality line_at ◌>>=◌ found
    split-kind h = refuses (λ next refusal rows fs. rw (line-at K kinds buf t.lines.0 i hi, kind-unowned K kinds buf i k (omega arith))) kept_refl

    module _ (h : 2 ≤ r) where
      owner-is : (c : Bool) → eqb r 2 ≡ c → owner (line_in K kinds buf i).kind ≡ some (cond c Side.A Side.B)
      unfolding owner
      owner-is true e = ap owner (apart-A K kinds buf i k (eqb-true r 2 e))
      owner-is false e = ap owner (apart-B K kinds buf i k (omega arith) (eqb-false r 2 e))

      split-row : (c : Bool) → eqb r 2 ≡ c → (next : Following) (refusal : ℕ → Answer) (rows : ℕ) (fs : Fields) → row_opened K kinds buf t (rules.Split i) next refusal rows fs
          ≡ opening K kinds buf t (start_of 1 (cond c 1 0) (line_in K kinds buf i)) refusal
          (λ branch. fitting refusal (lines_in K kinds buf t.lines.0) (edition t.edition) (negated_of 1 (cond c 1 0) (line_in K kinds buf i)) >> both_of (cond c Side.A Side.B) branch (lines_in K kinds buf t.lines.0) (line_in K kinds buf i) rows (suc rows) fs)
      unfolding check_row check_split disequality line_at ◌>>=◌ ◌>>◌ found
      split-row true e next refusal rows fs = rw (line-at K kinds buf t.lines.0 i hi, owner-is true e)
      split-row false e next refusal rows fs =
          let l = line_in K kinds buf i in
          let ls = lines_in K kinds buf t.lines.0 in
          let as-stated : row_opened K kinds buf t (rules.Split i) next refusal rows fs
          ≡ opening K kinds buf t (line ≤0 (l.t plus 1) l.t_A) refusal (λ branch. fitting refusal ls (edition t.edition) (line ≤0 (neg l.t plus 1) (neg l.t_A)) >> both_of Side.B branch ls l rows (suc rows) fs)
          = rw (line-at K kinds buf t.lines.0 i hi, owner-is false e) in
          as-stated
          ∙ ap₂ (λ (f g : Form). opening K kinds buf t (line ≤0 (l.t plus 1) f) refusal (λ branch. fitting refusal ls (edition t.edition) (line ≤0 (neg l.t plus 1) g) >> both_of Side.B branch ls l rows (suc rows) fs))
          (sym (plus_none l.t_A)) (sym (plus_none (neg l.t_A)))

      -- What `open_step` leaves.
      module _ (ready : Ready t.edition K kinds buf t.lines.0) {y : ℕ} (ey : y ≡ raised_by r) {kinds' : List ℕ} {buf' : List ℤ} {d : Opening} (given : Opens K kinds buf t i 1 y kinds' buf' d) where
        same-y : y ≡ raised_by (get_or kinds i 0)
        same-y = ey ∙ ap (λ (c : Bool). cond {A = ℕ} c 1 0) (read-two k)

        opens : Opens K kinds buf t i 1 (raised_by (get_or kinds i 0)) kinds' buf' d
        opens = subst (λ (z : ℕ). Opens K kinds buf t i 1 z kinds' buf' d) same-y given

        abbrev rest : (refusal : ℕ → Answer) (rows : ℕ) (fs : Fields) → Checker → Result Closing
        rest refusal rows fs branch =
            fitting refusal (lines_in K kinds buf t.lines.0) (edition t.edition) (negated_of 1 (raised_by (get_or kinds i 0)) (line_in K kinds buf i))
            >> both_of (owner_of (get_or kinds i 0)) branch (lines_in K kinds buf t.lines.0) (line_in K kinds buf i) rows (suc rows) fs

        pub split-refused : {x : Refusal} → d ≡ Err x → SplitOpens K kinds buf t i kinds' buf' (Err x)
        split-refused e = refuses (λ next refusal rows fs. split-row (eqb (get_or kinds i 0) 2) (read-two k) next refusal rows fs ∙ (rw e at opens).by refusal (rest refusal rows fs)) opens.kept

        still : Ready t.edition K kinds' buf' t.lines.0
        still = ready-kept ready opens.kept

        module _ {t' : Tally} (e : d ≡ Ok t') where
          stands : FirstLineStands K kinds buf t i 1 (raised_by (get_or kinds i 0)) kinds' buf' t'
          stands = (rw e at opens.by).1

          row_is : (next : Following) (refusal : ℕ → Answer) (rows : ℕ) (fs : Fields) → row_opened K kinds buf t (rules.Split i) next refusal rows fs ≡ rest refusal rows fs (check_branch (edition t.edition) K (32 - (t.«open» + 1)))
          row_is next refusal rows fs = split-row (eqb (get_or kinds i 0) 2) (read-two k) next refusal rows fs ∙ (rw e at opens.by).0 refusal (rest refusal rows fs)

          space : t.lines.0 < (edition t.edition).lines
          space = omega (arith, stands.longer.limited.most)

          pub negated-fit-asked : ((i < (edition newest_edition).lines) × (K ≤ edition1.constants) × (i * size K + size K ≤ length buf')) × Bounded K buf' (i + 1)
          negated-fit-asked =
              let h = before K hi in
              ((omega (arith, stands.start.copy.space), still.branch.constants, omega (arith, still.branch.room)), bounded-less (omega arith) still.branch.bounded)

          -- What `negated_fit` tells of line i, which is the same.
          module _ {f : Bool} (fits : f ≡ small edition1.range (negsuc 0 *ℤ (form_in K buf' (i * size K)).d +ℤ pos 1) && small edition1.range (negsuc 0 *ℤ (form_in K buf' (i * size K + (K + 1))).d +ℤ pos y)) where
            range : in_range edition1.range (negated_of 1 (raised_by (get_or kinds i 0)) (line_in K kinds buf i)) ≡ f
            range =
                subst (λ (l : Line). in_range edition1.range (negated_of 1 (raised_by (get_or kinds i 0)) l) ≡ f) (line_same K opens.kept.lines_same opens.kept.kinds_same i hi)
                (subst (λ (z : ℕ). in_range edition1.range (negated_of 1 z (line_in K kinds' buf' i)) ≡ f) same-y
                (tested-neg (omega (arith, still.branch.room)) still.branch.bounded hi kinds' 1 y ≤0 fits))

            pub split-second : f ≡ false → SplitOpens K kinds buf t i kinds' buf' (Err Refusal.OutOfRange)
            unfolding fitting ◌>>◌ need
            split-second h =
                refuses (λ next refusal rows fs. row_is next refusal rows fs ∙ rw (length-lines K kinds buf t.lines.0, lt-ltb t.lines.0 (edition t.edition).lines space, range, h)) opens.kept

            pub split-made : f ≡ true → SplitOpens K kinds buf t i kinds' buf' (Ok t')
            unfolding fitting ◌>>◌ need
            split-made h = record {
              opens = record {
                kept = opens.kept;
                by = (λ next refusal rows fs. row_is next refusal rows fs ∙ rw (length-lines K kinds buf t.lines.0, lt-ltb t.lines.0 (edition t.edition).lines space, range, h), stands);
              };
              second = λ t'' z. subst T (sym (range ∙ h)) tt;
            }
