-- A row that opens branches, one way through its tests after the other. Assumes nothing.
use mathlib.Core.Path.{◌≡◌, refl, sym, subst, ◌∙◌}
use mathlib.Core.Bool.{Bool, true, false, ◌&&◌}
use mathlib.Core.List.{List}
use Prim.Native.Nat.{ℕ, suc, ◌+◌, ◌*◌, ◌-◌, ◌≤◌, ◌<◌}
use native.Mathlib.Omega.{arith}
use lib.Dec.{T}
use lib.ListN.{set}
use lib.IntN.{ℤ, pos, ◌+ℤ◌}
use borrow.Author.Tests.{lt-ltb, le-ltb}
use Rattle.std.specs.Prelude.{Some, None}
use Rattle.forms.specs.Edition.{edition, edition1}
use Rattle.forms.specs.Forms.{≤0, Line, ◌and◌, ◌or◌, small}
use Rattle.forms.specs.Flat.{form_in}
use Rattle.calculus.specs.Rules as rules
use Rattle.calculus.specs.Rules.{◌▷◌, in_range}
use Rattle.answers.specs.declared.Answer.{Answer}
use Rattle.answers.specs.Answers.{position, Result, refused, accepted, ◌>>=◌, ◌>>◌, need, found}
use Rattle.fields.specs.Fields.{Fields}
use Rattle.proof.specs.Rows.{is, line_at, inequality, fitting}
use Rattle.proof.specs.Check.{Closing, Checker, Following, check_row, check_branch}
use Rattle.lines.specs.Buffer.{size, line_in, lines_in, LineStart, started_line}
use Rattle.lines.proofs.Lines.{line-at, line-past, length-lines}
use Rattle.lines.proofs.Branch.{inequality-byte}
use Rattle.lines.proofs.Starting.{tested-range}
use Rattle.lines.specs.Ready.{Ready}
use Rattle.lines.proofs.Keeping.{kept_refl}
use Rattle.tally.specs.Tally.{tally, line_counted, open_counted}
use Rattle.tally.specs.declared.Tally.{Tally}
use Rattle.tally.proofs.Counted.{counted-line, full-line, counted-open}
use Rattle.std.specs.Prelude.{Ok, Err}
use Rattle.answers.specs.declared.refusals.Refusal.{Refusal}
use Rattle.openings.specs.Opening.{Opening, joining, in_turn, start_of, middle_of, third_of, Branching, three, all_rounded, opening, Opens, row_opened, RowOpens, StrengthenOpens, Roundable, RoundOpens}
use Rattle.openings.proofs.Starting.{starts, start-less}

-- both counts, of a branching step and of its first line, are made, or the second is refused
module _ (t : Tally) {u : Tally} (e : Some u ≡ open_counted t) where
  pub counted-both : {v : Tally} → Some v ≡ line_counted u → (t.lines.0 < (edition t.edition).lines) × (v ≡ tally t.edition t.rows.0 (t.lines.0 + 1) (t.«open» + 1))
  counted-both f = let h = counted-line f in rw (counted-open e).1 at h

  pub full-both : None ≡ line_counted u → (edition t.edition).lines ≤ t.lines.0
  full-both f = let h = full-line u f in rw (counted-open e).1 at h

-- ---- the tests that every such row has
module _ {K : ℕ} {kinds : List ℕ} {buf : List ℤ} (t : Tally) (i x y : ℕ) (ready : Ready t.edition K kinds buf t.lines.0) where
  pub open_none : 32 ≤ t.«open» → Opens K kinds buf t i x y kinds buf (Err Refusal.TooDeep)
  unfolding ◌>>=◌ found
  open_none h =
      let z : 32 - t.«open» ≡ 0 = omega arith in
      record { kept = kept_refl; by = λ refusal rest. rw z }

  module _ (ho : t.«open» < 32) where
    tests : (refusal : ℕ → Answer) (rest : Checker → Result Closing) → opening K kinds buf t (start_of x y (line_in K kinds buf i)) refusal rest
        ≡ (fitting refusal (lines_in K kinds buf t.lines.0) (edition t.edition) (start_of x y (line_in K kinds buf i)) >> rest (check_branch (edition t.edition) K (32 - (t.«open» + 1))))
    unfolding ◌>>=◌ found
    tests refusal rest =
        let z : 32 - t.«open» ≡ suc (32 - (t.«open» + 1)) = omega arith in
        rw z

    pub open_full : (edition t.edition).lines ≤ t.lines.0 → Opens K kinds buf t i x y kinds buf (Err Refusal.TooManyLines)
    unfolding fitting ◌>>◌ need
    open_full h = record { kept = kept_refl; by = λ refusal rest. tests refusal rest ∙ rw (length-lines K kinds buf t.lines.0, le-ltb t.lines.0 (edition t.edition).lines h) }

    -- What `raised_fit` tells of line i.
    module _ (hi : i < t.lines.0) (space : t.lines.0 < (edition t.edition).lines) {b : Bool}
        (fits : b ≡ small edition1.range ((form_in K buf (i * size K)).d +ℤ pos x) && small edition1.range ((form_in K buf (i * size K + (K + 1))).d +ℤ pos y)) where
      range : in_range edition1.range (start_of x y (line_in K kinds buf i)) ≡ b
      range = tested-range (omega (arith, ready.branch.room)) ready.branch.bounded hi kinds x y ≤0 fits

      pub open-range : b ≡ false → Opens K kinds buf t i x y kinds buf (Err Refusal.OutOfRange)
      unfolding fitting ◌>>◌ need
      open-range e = record {
        kept = kept_refl;
        by = λ refusal rest. tests refusal rest ∙ rw (length-lines K kinds buf t.lines.0, lt-ltb t.lines.0 (edition t.edition).lines space, range, e);
      }

      module _ (e : b ≡ true) where
        pub open-start : {u w : ℕ} → u ≤ x → w ≤ y → LineStart K buf i t.lines.0 u w
        open-start hu hw = start-less ready hi space x y (subst T (sym (range ∙ e)) tt) hu hw

        pub open_made : {kinds' : List ℕ} {buf' : List ℤ} → buf' ≡ started_line K i t.lines.0 x y buf → kinds' ≡ set kinds t.lines.0 0
            → {t' : Tally} → t' ≡ tally t.edition t.rows.0 (t.lines.0 + 1) (t.«open» + 1) → Opens K kinds buf t i x y kinds' buf' (Ok t')
        unfolding fitting ◌>>◌ need
        open_made eb ek u =
            let start : LineStart K buf i t.lines.0 x y = open-start (omega arith) (omega arith) in
            let longer = starts ready space start 0 (omega arith) inequality-byte eb ek in
            record {
              kept = longer.kept;
              by = (
                λ refusal rest. tests refusal rest ∙ rw (length-lines K kinds buf t.lines.0, lt-ltb t.lines.0 (edition t.edition).lines space, range, e),
                record { longer = longer; tally_is = u; start = start; open_less = ho },
              );
            }

-- ---- a row whose own tests are passed, so that it is as its branches are opened
-- The row is what `flat` checks once it is opened, and that is `branching`.
module _ {row : rules.Row} {branching : Branching} (flat : Branching) (same : (branch : Checker) (ls : List Line) (l : Line) (step rows : ℕ) (fs : Fields) → flat branch ls l step rows fs ≡ branching branch ls l step rows fs)
    {K : ℕ} {kinds : List ℕ} {buf : List ℤ} {t : Tally} {i x y : ℕ}
    (opened : (next : Following) (refusal : ℕ → Answer) (rows : ℕ) (fs : Fields) → row_opened K kinds buf t row next refusal rows fs
    ≡ opening K kinds buf t (start_of x y (line_in K kinds buf i)) refusal (λ branch. flat branch (lines_in K kinds buf t.lines.0) (line_in K kinds buf i) rows (suc rows) fs)) where
  row_opens : {kinds' : List ℕ} {buf' : List ℤ} {r : Opening} → Opens K kinds buf t i x y kinds' buf' r → RowOpens row branching K kinds buf t i x y kinds' buf' r
  row_opens {r = Err x} o = record { kept = o.kept; by = λ next refusal rows fs. opened next refusal rows fs ∙ o.by refusal (λ branch. flat branch (lines_in K kinds buf t.lines.0) (line_in K kinds buf i) rows (suc rows) fs) }
  row_opens {r = Ok t'} o = record {
    kept = o.kept;
    by = (
      λ next refusal rows fs. opened next refusal rows fs ∙ o.by.0 refusal (λ branch. flat branch (lines_in K kinds buf t.lines.0) (line_in K kinds buf i) rows (suc rows) fs)
          ∙ same (check_branch (edition t.edition) K (32 - (t.«open» + 1))) (lines_in K kinds buf t.lines.0) (line_in K kinds buf i) rows (suc rows) fs,
      o.by.1,
    );
  }

-- ---- a strengthen
-- Its three branches one after the other, as one and two.
three-in-turn : (first : Result Closing) (second third : ℕ → Fields → Result Closing)
    → (first >>= λ x. (second x.rows x.after >>= λ y. (third y.rows y.after >>= λ z. accepted (joining ◌or◌ x (joining ◌and◌ y z)))))
    ≡ in_turn ◌or◌ first (λ rows fs. in_turn ◌and◌ (second rows fs) third)
unfolding ◌>>=◌
three-in-turn (refused a) second third = refl
three-in-turn (accepted x) second third = last-two (second x.rows x.after)
  where
    last_one : (y : Closing) (r : Result Closing)
        → (r >>= λ z. accepted (joining ◌or◌ x (joining ◌and◌ y z))) ≡ ((r >>= λ z. accepted (joining ◌and◌ y z)) >>= λ w. accepted (joining ◌or◌ x w))
    last_one y (refused a) = refl
    last_one y (accepted z) = refl

    last-two : (r : Result Closing)
        → (r >>= λ y. (third y.rows y.after >>= λ z. accepted (joining ◌or◌ x (joining ◌and◌ y z)))) ≡ (in_turn ◌and◌ r third >>= λ w. accepted (joining ◌or◌ x w))
    last-two (refused a) = refl
    last-two (accepted y) = last_one y (third y.rows y.after)

abbrev three_flat : Branching
three_flat branch ls l step rows fs =
    branch (position step 0) rows (ls ▷ start_of 1 1 l) fs
    >>= λ x. (branch (position step 1) x.rows (ls ▷ middle_of l) x.after
    >>= λ y. (branch (position step 2) y.rows (ls ▷ third_of l) y.after >>= λ z. accepted (joining ◌or◌ x (joining ◌and◌ y z))))

three-flat : (branch : Checker) (ls : List Line) (l : Line) (step rows : ℕ) (fs : Fields) → three_flat branch ls l step rows fs ≡ three branch ls l step rows fs
three-flat branch ls l step rows fs =
    three-in-turn (branch (position step 0) rows (ls ▷ start_of 1 1 l) fs) (λ n fs. branch (position step 1) n (ls ▷ middle_of l) fs) (λ n fs. branch (position step 2) n (ls ▷ third_of l) fs)

module _ (K : ℕ) (kinds : List ℕ) (buf : List ℤ) (t : Tally) (i : ℕ) where
  pub strengthen-none : t.lines.0 ≤ i → StrengthenOpens K kinds buf t i kinds buf (Err Refusal.NoSuchLine)
  unfolding check_row inequality line_at ◌>>=◌ found
  strengthen-none h = record { kept = kept_refl; by = λ next refusal rows fs. rw (line-past K kinds buf t.lines.0 i h) }

  module _ (hi : i < t.lines.0) where
    pub strengthen-kind : is ≤0 (line_in K kinds buf i).kind ≡ false → StrengthenOpens K kinds buf t i kinds buf (Err Refusal.WrongLineKind)
    unfolding check_row inequality line_at ◌>>=◌ ◌>>◌ found need
    strengthen-kind h = record { kept = kept_refl; by = λ next refusal rows fs. rw (line-at K kinds buf t.lines.0 i hi, h) }

    module _ (hk : is ≤0 (line_in K kinds buf i).kind ≡ true) where
      strengthen-row : (next : Following) (refusal : ℕ → Answer) (rows : ℕ) (fs : Fields) → row_opened K kinds buf t (rules.Strengthen i) next refusal rows fs
          ≡ opening K kinds buf t (start_of 1 1 (line_in K kinds buf i)) refusal (λ branch. three_flat branch (lines_in K kinds buf t.lines.0) (line_in K kinds buf i) rows (suc rows) fs)
      unfolding check_row inequality line_at ◌>>=◌ ◌>>◌ found need
      strengthen-row next refusal rows fs = rw (line-at K kinds buf t.lines.0 i hi, hk)

      pub strengthen-opens : {kinds' : List ℕ} {buf' : List ℤ} {r : Opening} → Opens K kinds buf t i 1 1 kinds' buf' r → StrengthenOpens K kinds buf t i kinds' buf' r
      strengthen-opens o = row_opens three_flat three-flat strengthen-row o

-- ---- a rounding
module _ {K : ℕ} {kinds : List ℕ} {buf : List ℤ} {t : Tally} {i g by : ℕ} where
  pub round-refused : {x : Refusal} → Roundable K kinds buf t i g by (Err x) → RoundOpens K kinds buf t i g by kinds buf (Err x)
  unfolding check_row ◌>>=◌
  round-refused p = record {
    opens = record { kept = kept_refl; by = λ next refusal rows fs. rw (p.by refusal) };
    sizes = λ t' z. absurd (let w : ◌≡◌ {A = ℕ} 0 1 = cc in omega arith);
  }

  module _ (p : Roundable K kinds buf t i g by (Ok tt)) where
    pub round-line : i < t.lines.0
    round-line = p.by.1

    round-row : (next : Following) (refusal : ℕ → Answer) (rows : ℕ) (fs : Fields) → row_opened K kinds buf t (rules.Round i g by) next refusal rows fs
        ≡ opening K kinds buf t (start_of by by (line_in K kinds buf i)) refusal (λ branch. all_rounded g by branch (lines_in K kinds buf t.lines.0) (line_in K kinds buf i) rows (suc rows) fs)
    unfolding check_row ◌>>=◌
    round-row next refusal rows fs = rw (p.by.0 refusal)

    pub round-opens : {kinds' : List ℕ} {buf' : List ℤ} {d : Opening} → Opens K kinds buf t i by by kinds' buf' d → RoundOpens K kinds buf t i g by kinds' buf' d
    round-opens o = record { opens = row_opens (all_rounded g by) (λ branch ls l step rows fs. refl) round-row o; sizes = λ t' z. p.by.2 }
