-- The branches that a row opens: what one leaves for the next, and their formulas as one. Assumes nothing.
use mathlib.Core.Path.{◌≡◌, refl, sym, ap, subst, ◌∙◌}
use mathlib.Core.List.{List, [], ◌++◌}
use Prim.Native.Nat.{ℕ, suc, ◌+◌, ◌*◌, ◌-◌, ◌≤◌, ◌<◌}
use native.Mathlib.Omega.{arith}
use lib.Dec.{T}
use lib.IntN.{ℤ}
use lib.ListN.{length, set}
use Rattle.forms.specs.Edition.{edition1}
use Rattle.forms.specs.Forms.{Line, line, Formula, ◌and◌, ◌plus◌}
use Rattle.forms.specs.Flat.{kind_of}
use Rattle.calculus.specs.Rules as rules
use Rattle.calculus.specs.Rules.{◌▷◌, in_range}
use Rattle.answers.specs.declared.Position.{Position}
use Rattle.answers.specs.Answers.{position, refusal_at, Result}
use Rattle.fields.specs.Fields.{field_bytes}
use Rattle.fields.specs.Places.{fields_at, unread_bytes}
use Rattle.fields.proofs.Framing.{length-field_bytes as field-size}
use Rattle.formula.specs.Formula.{encode}
use Rattle.formula_write.specs.Writing.{scratch_limit, Heads}
use Rattle.proof.specs.Check.{Closing}
use Rattle.lines.specs.Buffer.{line_in, lines_in, LineStart, started_line}
use Rattle.lines.proofs.Lines.{line_same, lines_same}
use Rattle.lines.specs.Ready.{Ready, LinesKept}
use Rattle.lines.proofs.Keeping.{kept_refl, ready-more, ready-kept, kept_trans}
use Rattle.tally.specs.declared.Tally.{Tally}
use Rattle.openings.specs.Opening.{Opening}
use Rattle.openings.specs.Opening.{in_turn, start_of, middle_of, third_of, Branching, last_two, Longer, FirstLineStands, RowOpens}
use Rattle.openings.proofs.Starting.{starts, start-less, middle-starts, third-starts}
use Rattle.formula_write.proofs.Storing.{stores-head}
use Rattle.branches.specs.Branches.{Comes}
use Rattle.branches.specs.Branching.{Branched, resumed_by, kept_back, Started, Closes, BranchedBy, BranchChecked, deeper, ChecksBranch, Opened, FirstStands, OpenedChecked}
use Rattle.std.specs.Prelude.{Ok, Err}
use Rattle.branches.specs.declared.branch.BranchFault.{BranchFault}
use Rattle.branches.specs.declared.branch.Closed.{Closed}
use Rattle.branches.proofs.Spare.{lines-fewer, spare-less}
use Rattle.branches.proofs.BranchStops.{comes-opened}
use Rattle.branches.proofs.JoinedClosings.{and_bytes, in-turn-fault, in-turn-checks}

-- The first branch, of line l raised by x and y, and the rest of them.
abbrev pub first_then : (x y : ℕ) (make : Formula → Formula → Formula) (rest : Branching) → Branching
first_then x y make rest branch ls l step rows fs = in_turn make (branch (position step 0) rows (ls ▷ start_of x y l) fs) (λ rows fs. rest branch ls l step rows fs)

-- ---- what stands before a branch's formula, which has 81 bytes at most
pub head-short : {scratch : List ℕ} {o tag : ℕ} {scratch₁ : List ℕ} {o₁ : ℕ} → Heads scratch o tag scratch₁ o₁ → o₁ ≤ o + kept_back
head-short h = omega (arith, h.o_is)

pub none-short : {o : ℕ} → o ≤ o + kept_back
none-short = omega arith

-- ---- one of the branches, of the n lines and l, behind bytes that are written
module _ {K n x y : ℕ} {p : List ℕ} {kinds : List ℕ} {buf : List ℤ} {t : Tally} {i at o : ℕ} (d : Opened K n x y kinds buf t i p at o) where
  pub room-left : o + kept_back ≤ scratch_limit
  room-left = omega (arith, d.room)

  module _ {kinds₁ : List ℕ} {buf₁ : List ℤ} {l : Line} (g : Longer t.edition K kinds buf n l kinds₁ buf₁) where
    pub own-ready : Ready t.edition K kinds₁ buf₁ (n + 1)
    own-ready = ready-more d.ready g.kept g.limited (d.spare.room (n + 1) g.limited.most (omega arith)) (d.spare.kinds_room (n + 1) g.limited.most (omega arith))

    module _ {o₁ : ℕ} (short : o₁ ≤ o + kept_back) where
      pub own-started : Started K kinds₁ buf₁ t p at o₁
      own-started = record {
        ready = subst (Ready t.edition K kinds₁ buf₁) (sym d.lines_is) own-ready;
        spare = spare-less (omega (arith, d.lines_is)) g.kept.kinds_length g.kept.lines_length d.spare;
        room = omega (arith, d.room);
      }

      module _ (here : Position) {scratch₁ : List ℕ} {kinds₂ : List ℕ} {buf₂ : List ℤ} {scratch₂ : List ℕ} {r : Branched} (b : ChecksBranch K p at here kinds₁ buf₁ t scratch₁ o₁ kinds₂ buf₂ scratch₂ r) where
        pub own-checked : BranchChecked kept_back (deeper K t here t.rows.0 (lines_in K kinds buf n ▷ l) (fields_at p at)) K n p at kinds buf t scratch₁ o₁ kinds₂ buf₂ scratch₂ r
        own-checked = record {
          kept = kept_trans {n = t.lines.0} (omega (arith, d.lines_is)) g.kept b.kept;
          long = b.long;
          by = subst (λ (ls : List Line). BranchedBy kept_back (deeper K t here t.rows.0 ls (fields_at p at)) p at t scratch₁ o₁ scratch₂ r) (ap (lines_in K kinds₁ buf₁) d.lines_is ∙ g.lines) b.by;
        }

        -- It is closed.
        module _ {a o₂ : ℕ} {t₁ : Tally} (e : r ≡ Ok (record { at = a; o = o₂; tally = t₁ })) where
          closes : Closes kept_back (deeper K t here t.rows.0 (lines_in K kinds₁ buf₁ t.lines.0) (fields_at p at)) p at t a scratch₁ o₁ o₂ scratch₂ t₁
          closes = rw e at b.by

          pub next-open : t₁.«open» ≡ t.«open»
          next-open = closes.open_is

          pub next-unread : unread_bytes p a < unread_bytes p at
          next-unread = closes.unread

          on : LinesKept K n kinds buf kinds₂ buf₂
          on = own-checked.kept

          line-is : line_in K kinds₂ buf₂ i ≡ line_in K kinds buf i
          line-is = line_same K on.lines_same on.kinds_same i d.line

          pub next-opened : Opened K n x y kinds₂ buf₂ t₁ i p a o₂
          next-opened = record {
            ready = rw closes.edition_is (ready-kept d.ready on);
            spare = rw closes.edition_is (spare-less (omega (arith, lines-fewer t.edition closes.unread)) on.kinds_length on.lines_length d.spare);
            room = omega (arith, closes.within, d.room);
            line = d.line;
            space = rw closes.edition_is d.space;
            lines_is = closes.lines_is ∙ d.lines_is;
            small = subst (λ (l : Line). T (in_range edition1.range (start_of x y l))) (sym line-is) d.small;
          }

          -- What is checked of the branches that follow is the same for the lines before.
          pub next-same : {back : ℕ} (branching : Branching) (step : ℕ) {kinds₃ : List ℕ} {buf₃ : List ℤ} {scratch₃ : List ℕ} {r : Branched}
              → OpenedChecked back branching K step n p a kinds₂ buf₂ t₁ i scratch₂ o₂ kinds₃ buf₃ scratch₃ r
              → BranchChecked back (branching (deeper K t) (lines_in K kinds buf n) (line_in K kinds buf i) step t₁.rows.0 (fields_at p a)) K n p a kinds buf t₁ scratch₂ o₂ kinds₃ buf₃ scratch₃ r
          next-same {back} branching step {scratch₃ = scratch₃} {r = r} x =
              let same : branching (deeper K t₁) (lines_in K kinds₂ buf₂ n) (line_in K kinds₂ buf₂ i) step t₁.rows.0 (fields_at p a)
              ≡ branching (deeper K t) (lines_in K kinds buf n) (line_in K kinds buf i) step t₁.rows.0 (fields_at p a)
              = rw (closes.open_is, closes.edition_is, line-is, lines_same K n on.lines_same on.kinds_same) in
              record {
                kept = kept_trans (omega arith) on x.kept;
                long = x.long;
                by = subst (λ (R : Result Closing). BranchedBy back R p a t₁ scratch₂ o₂ scratch₃ r) same x.by;
              }

  -- ---- any start of line n, raised by x and y at most: what a branch asks holds for each
  pub start-asked : {u w : ℕ} → u ≤ x → w ≤ y → LineStart K buf i n u w × (n < length kinds)
  start-asked hu hw = (start-less d.ready d.line d.space x y d.small hu hw, d.ready.room)

  module _ (u w m : ℕ) {kinds₁ : List ℕ} {buf₁ : List ℤ} (eb : buf₁ ≡ started_line K i n u w buf) (ek : kinds₁ ≡ set kinds n m) (hu : u ≤ x) (hw : w ≤ y) (hm : m ≤ 1) where
    pub some-longer : Longer t.edition K kinds buf n (line (kind_of m) ((line_in K kinds buf i).t plus u) ((line_in K kinds buf i).t_A plus w)) kinds₁ buf₁
    some-longer = starts d.ready d.space (start-asked hu hw).0 m hm refl eb ek

    module _ {o₁ : ℕ} (short : o₁ ≤ o + kept_back) where
      pub some-started : Started K kinds₁ buf₁ t p at o₁
      some-started = own-started some-longer short

      module _ (here : Position) {scratch₁ : List ℕ} {kinds₂ : List ℕ} {buf₂ : List ℤ} {scratch₂ : List ℕ} {r : Branched} (b : ChecksBranch K p at here kinds₁ buf₁ t scratch₁ o₁ kinds₂ buf₂ scratch₂ r)
          {a o₂ : ℕ} {t₁ : Tally} (e : r ≡ Ok (record { at = a; o = o₂; tally = t₁ })) where
        pub some-open : t₁.«open» ≡ t.«open»
        some-open = next-open some-longer short here b e

        pub some-unread : unread_bytes p a < unread_bytes p at
        some-unread = next-unread some-longer short here b e

        pub some-opened : Opened K n x y kinds₂ buf₂ t₁ i p a o₂
        some-opened = next-opened some-longer short here b e

  -- ---- the first branch, whose line stands, and the rest of them
  module _ (make : Formula → Formula → Formula) {tag : ℕ} (bytes : (f g : Formula) → encode edition1 (make f g) ≡ field_bytes tag [] ++ encode edition1 f ++ encode edition1 g) (rest : Branching) (step : ℕ)
      (f : FirstStands t.edition K n x y kinds buf i) {scratch : List ℕ} {scratch₁ : List ℕ} {o₁ : ℕ} (h : Heads scratch o tag scratch₁ o₁) where
    pub first-started : Started K kinds buf t p at o₁
    first-started = own-started f (head-short h)

    module _ {kinds₁ : List ℕ} {buf₁ : List ℤ} {scratch₂ : List ℕ} {r₁ : Branched} (b : ChecksBranch K p at (position step 0) kinds buf t scratch₁ o₁ kinds₁ buf₁ scratch₂ r₁) where
      pub first-fault : {f : BranchFault} → r₁ ≡ Err f → OpenedChecked kept_back (first_then x y make rest) K step n p at kinds buf t i scratch o kinds₁ buf₁ scratch₂ r₁
      first-fault e = in-turn-fault (stores-head h) kept_back make bytes (λ rows fs. rest (deeper K t) (lines_in K kinds buf n) (line_in K kinds buf i) step rows fs) (own-checked f (head-short h) (position step 0) b) kept_back e

      pub first-kept : LinesKept K n kinds buf kinds₁ buf₁
      first-kept = (own-checked f (head-short h) (position step 0) b).kept

      module _ {a o₂ : ℕ} {t₁ : Tally} (e : r₁ ≡ Ok (record { at = a; o = o₂; tally = t₁ })) where
        pub rest-open : t₁.«open» ≡ t.«open»
        rest-open = next-open f (head-short h) (position step 0) b e

        pub rest-unread : unread_bytes p a < unread_bytes p at
        rest-unread = next-unread f (head-short h) (position step 0) b e

        pub rest-opened : Opened K n x y kinds₁ buf₁ t₁ i p a o₂
        rest-opened = next-opened f (head-short h) (position step 0) b e

        pub first-checks : {back : ℕ} → 3 ≤ back → {kinds₂ : List ℕ} {buf₂ : List ℤ} {scratch₃ : List ℕ} {r : Branched} → OpenedChecked back rest K step n p a kinds₁ buf₁ t₁ i scratch₂ o₂ kinds₂ buf₂ scratch₃ r
            → OpenedChecked kept_back (first_then x y make rest) K step n p at kinds buf t i scratch o kinds₂ buf₂ scratch₃ r
        first-checks {back} q x =
            in-turn-checks (stores-head h) kept_back make bytes (λ rows fs. rest (deeper K t) (lines_in K kinds buf n) (line_in K kinds buf i) step rows fs) (own-checked f (head-short h) (position step 0) b) kept_back back (omega (arith, q, field-size tag [])) e
            (next-same f (head-short h) (position step 0) b e rest step x)

-- ---- the second branch of a strengthen and its third
abbrev third_branch : Branching
third_branch branch ls l step rows fs = branch (position step 2) rows (ls ▷ third_of l) fs

module _ {K n : ℕ} {p : List ℕ} {kinds : List ℕ} {buf : List ℤ} {t : Tally} {i at o : ℕ} (d : Opened K n 1 1 kinds buf t i p at o)
    (step : ℕ) {kinds₁ : List ℕ} {buf₁ : List ℤ} (eb : buf₁ ≡ started_line K i n 0 0 buf) (ek : kinds₁ ≡ set kinds n 1) {scratch : List ℕ} {scratch₁ : List ℕ} {o₁ : ℕ} (h : Heads scratch o 0x32 scratch₁ o₁) where
  middle : Longer t.edition K kinds buf n (middle_of (line_in K kinds buf i)) kinds₁ buf₁
  middle = middle-starts d.ready d.line d.space 1 1 d.small eb ek

  module _ {kinds₂ : List ℕ} {buf₂ : List ℤ} {scratch₂ : List ℕ} {r₁ : Branched} (b : ChecksBranch K p at (position step 1) kinds₁ buf₁ t scratch₁ o₁ kinds₂ buf₂ scratch₂ r₁) where
    pub two-fault : {f : BranchFault} → r₁ ≡ Err f → OpenedChecked kept_back last_two K step n p at kinds buf t i scratch o kinds₂ buf₂ scratch₂ r₁
    two-fault e = in-turn-fault (stores-head h) kept_back ◌and◌ and_bytes (λ rows fs. third_branch (deeper K t) (lines_in K kinds buf n) (line_in K kinds buf i) step rows fs) (own-checked d middle (head-short h) (position step 1) b) kept_back e

    module _ {a o₂ : ℕ} {t₁ : Tally} (e : r₁ ≡ Ok (record { at = a; o = o₂; tally = t₁ })) {kinds₃ : List ℕ} {buf₃ : List ℤ} (eb₃ : buf₃ ≡ started_line K i n 1 0 buf₂) (ek₃ : kinds₃ ≡ set kinds₂ n 0) where
      d₃ : Opened K n 1 1 kinds₂ buf₂ t₁ i p a o₂
      d₃ = next-opened d middle (head-short h) (position step 1) b e

      third : Longer t₁.edition K kinds₂ buf₂ n (third_of (line_in K kinds₂ buf₂ i)) kinds₃ buf₃
      third = third-starts d₃.ready d₃.line d₃.space 1 1 d₃.small (omega arith) eb₃ ek₃

      pub two-checks : {kinds₄ : List ℕ} {buf₄ : List ℤ} {scratch₃ : List ℕ} {r : Branched} → ChecksBranch K p a (position step 2) kinds₃ buf₃ t₁ scratch₂ o₂ kinds₄ buf₄ scratch₃ r
          → OpenedChecked kept_back last_two K step n p at kinds buf t i scratch o kinds₄ buf₄ scratch₃ r
      two-checks x =
          in-turn-checks (stores-head h) kept_back ◌and◌ and_bytes (λ rows fs. third_branch (deeper K t) (lines_in K kinds buf n) (line_in K kinds buf i) step rows fs) (own-checked d middle (head-short h) (position step 1) b) kept_back kept_back (omega (arith, field-size 0x32 [])) e
          (next-same d middle (head-short h) (position step 1) b e third_branch step (own-checked d₃ third none-short (position step 2) x))

-- ---- the branch with the row that opens branches
module _ {K : ℕ} {p : List ℕ} {at : ℕ} {kinds : List ℕ} {buf : List ℤ} {t : Tally} {kinds' : List ℕ} {buf' : List ℤ} {row : rules.Row} {branching : Branching} {i x y number a next : ℕ} {u : Tally}
    (m : Comes K p at kinds buf t kinds' buf' row number a next u) (k : LinesKept K t.lines.0 kinds buf kinds' buf')
    {kinds'' : List ℕ} {buf'' : List ℤ} {s : Opening} {v : Tally} (w : RowOpens row branching K kinds' buf' u i x y kinds'' buf'' s) (e : s ≡ Ok v) where
  stands : FirstLineStands K kinds' buf' u i x y kinds'' buf'' v
  stands = (rw e at w.by).1

  same_line : line_in K kinds'' buf'' i ≡ line_in K kinds' buf' i
  same_line = line_same K w.kept.lines_same w.kept.kinds_same i stands.start.copy.first

  same_lines : lines_in K kinds'' buf'' u.lines.0 ≡ lines_in K kinds' buf' u.lines.0
  same_lines = lines_same K u.lines.0 w.kept.lines_same w.kept.kinds_same

  same-edition : v.edition ≡ u.edition
  same-edition = ap (λ (w : Tally). w.edition) stands.tally_is

  opens-less : v.«open» ≡ t.«open» + 1
  opens-less = ap (λ (w : Tally). w.«open») stands.tally_is ∙ rw m.open_is

  few-open : t.«open» < 32
  few-open = omega (arith, stands.open_less, m.open_is)

  -- What falls, and one is left.
  pub opening-falls : {μ : ℕ} → 2 * (unread_bytes p at + (32 - t.«open»)) ≡ μ → 2 * (unread_bytes p next + (32 - v.«open»)) + 1 < μ
  opening-falls h = omega (arith, opens-less, few-open, m.unread)

  module _ {o : ℕ} (st : Started K kinds buf t p at o) where
    pub opened : Opened K u.lines.0 x y kinds'' buf'' v i p next o
    opened = record {
      ready = rw (same-edition, m.edition_is) (ready-kept m.ready w.kept);
      spare = rw (same-edition, m.edition_is) (spare-less (omega (arith, m.few)) (w.kept.kinds_length ∙ k.kinds_length) (w.kept.lines_length ∙ k.lines_length) st.spare);
      room = omega (arith, st.room, m.unread);
      line = stands.start.copy.first;
      space = rw same-edition (omega (arith, stands.longer.limited.most));
      lines_is = ap (λ (w : Tally). w.lines.0) stands.tally_is;
      small = subst (λ (l : Line). T (in_range edition1.range (start_of x y l))) (sym same_line) stands.longer.small;
    }

  pub first-stands : FirstStands v.edition K u.lines.0 x y kinds'' buf'' i
  first-stands =
      let g = stands.longer in
      rw (same_line, same-edition) (record { kept = kept_refl; limited = g.limited; lines = g.lines ∙ rw same_lines; small = g.small })

  module _ (here : Position) {scratch : List ℕ} {o : ℕ} {kinds₁ : List ℕ} {buf₁ : List ℤ} {scratch₁ : List ℕ} {b : Branched}
      (all : OpenedChecked kept_back branching K number u.lines.0 p next kinds'' buf'' v i scratch o kinds₁ buf₁ scratch₁ b) where
    branches : deeper K t here t.rows.0 (lines_in K kinds buf t.lines.0) (fields_at p at)
        ≡ branching (deeper K v) (lines_in K kinds'' buf'' u.lines.0) (line_in K kinds'' buf'' i) number v.rows.0 (fields_at p next)
    branches =
        let r : v.rows.0 ≡ suc number = omega (arith, ap (λ (w : Tally). w.rows.0) stands.tally_is, m.rows_is) in
        let n : 32 - v.«open» ≡ 32 - (u.«open» + 1) = omega (arith, opens-less, m.open_is) in
        comes-opened here m k ∙ (rw e at w.by).0 _ (refusal_at here number a) number (fields_at p next) ∙ rw (same_line, same_lines, same-edition, r, n)

    here-all : BranchedBy kept_back (deeper K t here t.rows.0 (lines_in K kinds buf t.lines.0) (fields_at p at)) p next v scratch o scratch₁ b
    here-all = subst (λ (R : Result Closing). BranchedBy kept_back R p next v scratch o scratch₁ b) (sym branches) all.by

    here-kept : LinesKept K t.lines.0 kinds buf kinds₁ buf₁
    here-kept = kept_trans m.from k (kept_trans (omega arith) w.kept all.kept)

    pub resumed-fault : {f : BranchFault} → b ≡ Err f → ChecksBranch K p at here kinds buf t scratch o kinds₁ buf₁ scratch₁ (Err f)
    resumed-fault q = record { kept = here-kept; long = all.long; by = rw q at here-all }

    pub resumed-checks : {end : Closed} → b ≡ Ok end → {r : Closed} → r ≡ resumed_by end t → ChecksBranch K p at here kinds buf t scratch o kinds₁ buf₁ scratch₁ (Ok r)
    resumed-checks q er =
        let g = rw q at here-all in
        rw er (record {
          kept = here-kept;
          long = all.long;
          by = record {
            formula = g.formula;
            is = g.is;
            o_is = g.o_is;
            stored = g.stored;
            within = omega (arith, g.within, m.unread);
            unread = omega (arith, g.unread, m.unread);
            lines_is = refl;
            open_is = refl;
            edition_is = refl;
          };
        })
