-- The two branches of a split of a t ≠ 0. Assumes nothing.
use mathlib.Core.Path.{◌≡◌, refl, sym, ap, ap₂, subst, ◌∙◌}
use mathlib.Core.Bool.{Bool, true, false, cond}
use mathlib.Core.List.{List, [], ◌++◌}
use Prim.Native.Nat.{ℕ, ◌<◌}
use native.Mathlib.Omega.{arith}
use lib.Dec.{T, eqb}
use lib.IntN.{ℤ}
use lib.ListN.{length, get_or, set}
use Rattle.forms.specs.Edition.{edition1}
use Rattle.forms.specs.Forms.{≤0, Side, Line, line, Form, neg, Formula, ◌and◌, ◌or◌, ◌plus◌}
use Rattle.calculus.specs.Rules as rules
use Rattle.calculus.specs.Rules.{◌▷◌, in_range}
use Rattle.answers.specs.declared.Position.{Position}
use Rattle.answers.specs.Answers.{position}
use Rattle.fields.specs.Fields.{Fields, field_bytes}
use Rattle.fields.specs.Places.{fields_at, unread_bytes}
use Rattle.formula.specs.Formula.{encode}
use Rattle.formula_write.specs.Writing.{Heads}
use Rattle.proof.specs.Check.{Checker}
use Rattle.lines.specs.Buffer.{line_in, lines_in, LineNegated, negated_line}
use Rattle.lines.proofs.Parts.{agree-get_d}
use Rattle.lines.proofs.Lines.{line_same}
use Rattle.lines.proofs.Starting.{plus_none}
use Rattle.lines.specs.Ready.{KindRead, LinesKept}
use Rattle.tally.specs.declared.Tally.{Tally}
use Rattle.openings.specs.Opening.{Opening}
use Rattle.openings.specs.Opening.{in_turn, Branching, Longer}
use Rattle.openings.specs.Splitting.{owner_of, raised_by, joined_by, negated_of, both_of, SplitOpens}
use Rattle.openings.proofs.Starting.{negated-starts, negated-less}
use Rattle.openings.proofs.SplitTests.{read-two}
use Rattle.branches.specs.Branches.{Comes}
use Rattle.branches.specs.Branching.{Branched, resumed_by, kept_back, Started, ChecksBranch, deeper, Opened, FirstStands, OpenedChecked, SplitOpened, SplitChecked}
use Rattle.std.specs.Prelude.{Ok, Err}
use Rattle.branches.specs.declared.branch.BranchFault.{BranchFault}
use Rattle.branches.specs.declared.branch.Closed.{Closed}
use Rattle.branches.proofs.JoinedClosings.{checked-as, or_bytes, and_bytes}
use Rattle.branches.proofs.OpenedBranches.{none-short, first_then, own-started, own-checked, first-started, first-kept, first-fault, rest-open, rest-unread, rest-opened, first-checks, opened, first-stands, resumed-fault, resumed-checks}

-- ---- both branches, by whose line it is
abbrev join_of : Bool → Formula → Formula → Formula
join_of c = cond c ◌or◌ ◌and◌

join-bytes : (c : Bool) (f g : Formula) → encode edition1 (join_of c f g) ≡ field_bytes (cond c 0x31 0x32) [] ++ encode edition1 f ++ encode edition1 g
join-bytes true f g = or_bytes f g
join-bytes false f g = and_bytes f g

abbrev negated_branch : (y : ℕ) → Branching
negated_branch y branch ls l step rows fs = branch (position step 1) rows (ls ▷ negated_of 1 y l) fs

both_is : (c : Bool) (branch : Checker) (ls : List Line) (l : Line) (step rows : ℕ) (fs : Fields)
    → both_of (cond c Side.A Side.B) branch ls l step rows fs ≡ first_then 1 (cond c 1 0) (join_of c) (negated_branch (cond c 1 0)) branch ls l step rows fs
both_is true branch ls l step rows fs = refl
both_is false branch ls l step rows fs =
    ap₂ (λ (f g : Form). in_turn ◌and◌ (branch (position step 0) rows (ls ▷ line ≤0 (l.t plus 1) f) fs) (λ rows fs. branch (position step 1) rows (ls ▷ line ≤0 (neg l.t plus 1) g) fs))
    (sym (plus_none l.t_A)) (sym (plus_none (neg l.t_A)))

-- ---- its branches
pub split-there : {K n : ℕ} {p : List ℕ} {kinds : List ℕ} {buf : List ℤ} {t : Tally} {i at o : ℕ} → SplitOpened K n kinds buf t i p at o → i < length kinds
split-there s = omega (arith, s.opened.line, s.opened.ready.room)

module _ {K n : ℕ} {p : List ℕ} {kinds : List ℕ} {buf : List ℤ} {t : Tally} {i at o : ℕ} (s : SplitOpened K n kinds buf t i p at o) {r : ℕ} (k : KindRead (get_or kinds i 0) r) where
  module _ (step : ℕ) {tag : ℕ} (et : tag ≡ joined_by r) {scratch : List ℕ} {scratch₁ : List ℕ} {o₁ : ℕ} (given : Heads scratch o tag scratch₁ o₁) where
    head : Heads scratch o (joined_by (get_or kinds i 0)) scratch₁ o₁
    head = subst (λ (m : ℕ). Heads scratch o m scratch₁ o₁) (et ∙ ap (λ (c : Bool). cond {A = ℕ} c 0x31 0x32) (read-two k)) given

    pub split_started : Started K kinds buf t p at o₁
    split_started = first-started s.opened (join_of (eqb (get_or kinds i 0) 2)) (join-bytes (eqb (get_or kinds i 0) 2)) (negated_branch (raised_by (get_or kinds i 0))) step s.stands head

    as-both : {kinds' : List ℕ} {buf' : List ℤ} {scratch' : List ℕ} {r' : Branched}
        → OpenedChecked kept_back (first_then 1 (raised_by (get_or kinds i 0)) (join_of (eqb (get_or kinds i 0) 2)) (negated_branch (raised_by (get_or kinds i 0)))) K step n p at kinds buf t i scratch o kinds' buf' scratch' r'
        → SplitChecked K step n p at kinds buf t i scratch o kinds' buf' scratch' r'
    as-both x = checked-as (both_is (eqb (get_or kinds i 0) 2) (deeper K t) (lines_in K kinds buf n) (line_in K kinds buf i) step t.rows.0 (fields_at p at)) x

    module _ {kinds₁ : List ℕ} {buf₁ : List ℤ} {scratch₂ : List ℕ} {r₁ : Branched} (b : ChecksBranch K p at (position step 0) kinds buf t scratch₁ o₁ kinds₁ buf₁ scratch₂ r₁) where
      pub split-fault : {f : BranchFault} → r₁ ≡ Err f → SplitChecked K step n p at kinds buf t i scratch o kinds₁ buf₁ scratch₂ r₁
      split-fault e = as-both (first-fault s.opened (join_of (eqb (get_or kinds i 0) 2)) (join-bytes (eqb (get_or kinds i 0) 2)) (negated_branch (raised_by (get_or kinds i 0))) step s.stands head b e)

      module _ {a o₂ : ℕ} {t₁ : Tally} (e : r₁ ≡ Ok (record { at = a; o = o₂; tally = t₁ })) where
        pub split-open : t₁.«open» ≡ t.«open»
        split-open = rest-open s.opened (join_of (eqb (get_or kinds i 0) 2)) (join-bytes (eqb (get_or kinds i 0) 2)) (negated_branch (raised_by (get_or kinds i 0))) step s.stands head b e

        pub split-unread : unread_bytes p a < unread_bytes p at
        split-unread = rest-unread s.opened (join_of (eqb (get_or kinds i 0) 2)) (join-bytes (eqb (get_or kinds i 0) 2)) (negated_branch (raised_by (get_or kinds i 0))) step s.stands head b e

        d₂ : Opened K n 1 (raised_by (get_or kinds i 0)) kinds₁ buf₁ t₁ i p a o₂
        d₂ = rest-opened s.opened (join_of (eqb (get_or kinds i 0) 2)) (join-bytes (eqb (get_or kinds i 0) 2)) (negated_branch (raised_by (get_or kinds i 0))) step s.stands head b e

        kept₁ : LinesKept K n kinds buf kinds₁ buf₁
        kept₁ = first-kept s.opened (join_of (eqb (get_or kinds i 0) 2)) (join-bytes (eqb (get_or kinds i 0) 2)) (negated_branch (raised_by (get_or kinds i 0))) step s.stands head b

        second₁ : T (in_range edition1.range (negated_of 1 (raised_by (get_or kinds i 0)) (line_in K kinds₁ buf₁ i)))
        second₁ = subst (λ (l : Line). T (in_range edition1.range (negated_of 1 (raised_by (get_or kinds i 0)) l))) (sym (line_same K kept₁.lines_same kept₁.kinds_same i s.opened.line)) s.second

        module _ {y : ℕ} (ey : y ≡ raised_by r) where
          y-is : y ≡ raised_by (get_or kinds i 0)
          y-is = ey ∙ ap (λ (c : Bool). cond {A = ℕ} c 1 0) (read-two k)

          pub negated-asked : LineNegated K buf₁ i n 1 y × (n < length kinds₁)
          negated-asked = (negated-less d₂.ready d₂.line d₂.space second₁ (omega (arith, y-is)), d₂.ready.room)

          module _ {kinds₂ : List ℕ} {buf₂ : List ℤ} (eb : buf₂ ≡ negated_line K i n 1 y buf₁) (ek : kinds₂ ≡ set kinds₁ n 0) where
            negated : Longer t₁.edition K kinds₁ buf₁ n (negated_of 1 (raised_by (get_or kinds i 0)) (line_in K kinds₁ buf₁ i)) kinds₂ buf₂
            negated = subst (λ (z : ℕ). Longer t₁.edition K kinds₁ buf₁ n (negated_of 1 z (line_in K kinds₁ buf₁ i)) kinds₂ buf₂) y-is (negated-starts d₂.ready d₂.space negated-asked.0 eb ek)

            pub negated-started : Started K kinds₂ buf₂ t₁ p a o₂
            negated-started = own-started d₂ negated none-short

            pub split-checks : {kinds₃ : List ℕ} {buf₃ : List ℤ} {scratch₃ : List ℕ} {r₂ : Branched} → ChecksBranch K p a (position step 1) kinds₂ buf₂ t₁ scratch₂ o₂ kinds₃ buf₃ scratch₃ r₂
                → SplitChecked K step n p at kinds buf t i scratch o kinds₃ buf₃ scratch₃ r₂
            split-checks x =
                as-both
                (first-checks s.opened (join_of (eqb (get_or kinds i 0) 2)) (join-bytes (eqb (get_or kinds i 0) 2)) (negated_branch (raised_by (get_or kinds i 0))) step s.stands head b e (omega arith)
                (own-checked d₂ negated none-short (position step 1) x))

-- ---- the branch with the split, which is opened
module _ {K : ℕ} {p : List ℕ} {at : ℕ} {kinds : List ℕ} {buf : List ℤ} {t : Tally} {kinds' : List ℕ} {buf' : List ℤ} {i number a next : ℕ} {u : Tally}
    (m : Comes K p at kinds buf t kinds' buf' (rules.Split i) number a next u) (k : LinesKept K t.lines.0 kinds buf kinds' buf')
    {kinds'' : List ℕ} {buf'' : List ℤ} {s : Opening} {v : Tally} (w : SplitOpens K kinds' buf' u i kinds'' buf'' s) (e : s ≡ Ok v) where
  there : i < u.lines.0
  there = (rw e at w.opens.by).1.start.copy.first

  byte : get_or kinds'' i 0 ≡ get_or kinds' i 0
  byte = agree-get_d w.opens.kept.kinds_same i 0 there

  pub split-opened : {o : ℕ} → Started K kinds buf t p at o → SplitOpened K u.lines.0 kinds'' buf'' v i p next o
  split-opened {o} st = record {
    opened = subst (λ (b : ℕ). Opened K u.lines.0 1 (raised_by b) kinds'' buf'' v i p next o) (sym byte) (opened m k w.opens e st);
    stands = subst (λ (b : ℕ). FirstStands v.edition K u.lines.0 1 (raised_by b) kinds'' buf'' i) (sym byte) (first-stands m k w.opens e);
    second =
        subst (λ (b : ℕ). T (in_range edition1.range (negated_of 1 (raised_by b) (line_in K kinds'' buf'' i)))) (sym byte)
        (subst (λ (l : Line). T (in_range edition1.range (negated_of 1 (raised_by (get_or kinds' i 0)) l))) (sym (line_same K w.opens.kept.lines_same w.opens.kept.kinds_same i there)) (w.second v e));
  }

  module _ (here : Position) {scratch : List ℕ} {o : ℕ} {kinds₁ : List ℕ} {buf₁ : List ℤ} {scratch₁ : List ℕ} {b : Branched} (x : SplitChecked K number u.lines.0 p next kinds'' buf'' v i scratch o kinds₁ buf₁ scratch₁ b) where
    both : OpenedChecked kept_back (both_of (owner_of (get_or kinds' i 0))) K number u.lines.0 p next kinds'' buf'' v i scratch o kinds₁ buf₁ scratch₁ b
    both = subst (λ (c : ℕ). OpenedChecked kept_back (both_of (owner_of c)) K number u.lines.0 p next kinds'' buf'' v i scratch o kinds₁ buf₁ scratch₁ b) byte x

    pub split-refused : {f : BranchFault} → b ≡ Err f → ChecksBranch K p at here kinds buf t scratch o kinds₁ buf₁ scratch₁ (Err f)
    split-refused q = resumed-fault m k w.opens e here both q

    pub split-resumed : {end : Closed} → b ≡ Ok end → {r : Closed} → r ≡ resumed_by end t → ChecksBranch K p at here kinds buf t scratch o kinds₁ buf₁ scratch₁ (Ok r)
    split-resumed q er = resumed-checks m k w.opens e here both q er
