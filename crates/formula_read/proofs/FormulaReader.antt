-- Each way through the formula reader and the pair reader, over plain values. Assumes nothing.
use mathlib.Core.Path.{◌≡◌, refl, sym, ap, ap₂, subst, ◌∙◌}
use mathlib.Core.Option.{Option, none, some}
use mathlib.Core.Bool.{Bool, true, false, cond, ◌&&◌, ◌||◌}
use mathlib.Core.List.{List, [], ◌∷◌}
use Prim.Native.Nat.{ℕ, zero, suc, ◌+◌, ◌-◌, ◌≤◌, ◌<◌}
use native.Mathlib.Omega.{arith}
use lib.Dec.{eqb}
use lib.IntN.{ℤ, pos, nat_abs}
use lib.Signed.{le_z}
use lib.ListN.{length, take, drop}
use lib.Seq.{take-take, take-nil, drop-drop}
use borrow.Author.Tests.{eqb-true}
use Rattle.integers.specs.Divides.{divb}
use Rattle.forms.specs.Edition.{edition1}
use Rattle.forms.specs.Forms.{≤0, =0, value, Formula, literal, ◌divides◌}
use Rattle.std.specs.Prelude.{Ok, Err}
use Rattle.std.specs.declared.result.Result as code
use Rattle.answers.specs.Refusals.{fault}
use Rattle.answers.specs.declared.refusals.Refusal.{Refusal}
use Rattle.answers.specs.declared.refusals.Fault.{Fault}
use Rattle.answers.specs.Answers.{answer, file_proof, Result, refused, accepted, ◌>>=◌, ◌>>◌, need, found}
use Rattle.answers.proofs.Results.{binds, bind-refused}
use Rattle.number_bytes.specs.Numbers.{signed, form_width}
use Rattle.fields.specs.declared.FileKind.{FileKind}
use Rattle.fields.specs.declared.WholeField.{WholeField}
use Rattle.fields.specs.Fields.{Field, Fields, ◌▸◌}
use Rattle.fields.specs.Header.{known}
use Rattle.fields.specs.Places.{fields_at, next_or_fault}
use Rattle.fields.proofs.Places.{Starts, starts-size, Ended, whole-to-end, cut-before, ended}
use Rattle.formula.specs.Formula.{disjunction, conjunction, FormulaTag, pair, atom, stride, formula_tagged, compound, formula_size, formula_of, formula_field, two_parts, formula_within}
use Rattle.formula.specs.Test.{holds, judge, registers}
use Rattle.form_value.specs.FormAt.{form_at, Whole}
use Rattle.formula_read.specs.Nodes.{connective, literal_kind, node_tagged, sized, node_if, node_of, node_read}
use Rattle.formula_read.specs.Judging.{two_within, FormulaRead, PairRead, connected, stride_judged}
use Rattle.formula_read.specs.declared.node.Node.{Node}
use Rattle.formula_read.specs.declared.reading.Judged.{Judged}
use Rattle.formula_read.specs.declared.reading.Pair.{Pair}

-- ---- a formula by its first field
within-field : (K levels : ℕ) (fs : Fields) → formula_within edition1 K levels fs ≡ formula_field edition1 K (two_within K levels) fs
unfolding formula_within two_within
within-field K zero fs = refl
within-field K (suc levels) fs = refl

module _ (K : ℕ) (two : (at : ℕ) → Fields → Result (Formula × Formula × Fields)) (f : Field) (fs : Fields) where
  sized-read : (t : FormulaTag) (b : Bool)
      → (need (answer 6 file_proof f.at) b >> formula_of edition1 K two f fs t) ≡ node_read K two f fs (cond b (Ok (node_tagged t)) (Err Refusal.WrongLength))
  unfolding need ◌>>◌ node_read
  sized-read t false = refl
  sized-read (pair disjunction) true = refl
  sized-read (pair conjunction) true = refl
  sized-read (atom ≤0) true = refl
  sized-read (atom =0) true = refl
  sized-read stride true = refl

  read-if : (b : Bool) (o : Option FormulaTag)
      → (need (answer 3 file_proof f.at) b >> (found (answer 4 file_proof f.at) o >>= λ t.
      need (answer 6 file_proof f.at) (eqb (length f.contents) (formula_size edition1 K t)) >> formula_of edition1 K two f fs t))
      ≡ node_read K two f fs (node_if K (length f.contents) b o)
  unfolding need ◌>>◌ ◌>>=◌ found node_read node_if sized
  read-if false o = refl
  read-if true none = refl
  read-if true (some t) = sized-read t (eqb (length f.contents) (formula_size edition1 K t))

  node-read : formula_field edition1 K two (f ▸ fs) ≡ node_read K two f fs (node_of K f.tag (length f.contents))
  unfolding formula_field node_of
  node-read = read-if (known FileKind.Formula f.tag) (formula_tagged f.tag)

-- ---- the length that a node's field has
abbrev SizeFor : (K len : ℕ) → code.Result Node Refusal → Type 0
SizeFor K len (Ok (Node.Pair either)) = Unit {0}
SizeFor K len (Ok (Node.Literal equality)) = len ≡ form_width 4 K
SizeFor K len (Ok Node.Stride) = len ≡ 4 + form_width 4 K
SizeFor K len (Err refusal) = Unit {0}

size-by : (K len : ℕ) (t : FormulaTag) (b : Bool) → eqb len (formula_size edition1 K t) ≡ b → SizeFor K len (cond b (Ok (node_tagged t)) (Err Refusal.WrongLength))
unfolding formula_size
size-by K len t false e = tt
size-by K len (pair disjunction) true e = tt
size-by K len (pair conjunction) true e = tt
size-by K len (atom ≤0) true e = eqb-true _ _ e
size-by K len (atom =0) true e = eqb-true _ _ e
size-by K len stride true e = eqb-true _ _ e

size-if : (K len : ℕ) (b : Bool) (o : Option FormulaTag) → SizeFor K len (node_if K len b o)
unfolding node_if sized
size-if K len false o = tt
size-if K len true none = tt
size-if K len true (some t) = size-by K len t (eqb len (formula_size edition1 K t)) refl

sizes : (K tag len : ℕ) → SizeFor K len (node_of K tag len)
unfolding node_of
sizes K tag len = size-if K len (known FileKind.Formula tag) (formula_tagged tag)

-- ---- the file ends, or is cut
missing : (K levels : ℕ) (fs : Fields) {a : ℕ} → Ended fs a → formula_within edition1 K levels fs ≡ refused (answer 2 file_proof a)
unfolding formula_field
missing K levels fs (whole-to-end e) = within-field K levels fs ∙ rw e
missing K levels fs (cut-before e) = within-field K levels fs ∙ rw e

pub formula-missing : (s : List ℕ) (at : ℕ) (values : List ℤ) (K levels : ℕ) {r : code.Result WholeField Fault} {e : Fault} → r ≡ next_or_fault (fields_at s at) → r ≡ Err e → FormulaRead s at values K levels (Err e)
formula-missing s at values K levels {e = e} p q =
    let h = ended (fields_at s at) p q in
    record { judged = rw h.0 (missing K levels (fields_at s at) h.1) }

-- ---- a field: its node is n
drop-take : (m n : ℕ) (l : List ℕ) → drop m (take (m + n) l) ≡ take n (drop m l)
drop-take zero n l = rw (let e : 0 + n ≡ n = omega arith in e)
drop-take (suc m) n [] = rw (let e : suc m + n ≡ suc (m + n) = omega arith in e, take-nil)
drop-take (suc m) n (x ∷ l) = rw (let e : suc m + n ≡ suc (m + n) = omega arith in e) (drop-take m n l)

compound-truth : (values : List ℤ) (either : Bool) (I J : Formula) {x y : Bool} → x ≡ judge I (registers values) → y ≡ judge J (registers values)
    → connected either x y ≡ judge (compound (connective either) I J) (registers values)
unfolding judge compound
compound-truth values true I J u v = ap₂ ◌||◌ u v
compound-truth values false I J u v = ap₂ ◌&&◌ u v

module _ {s : List ℕ} {at place tag start len next : ℕ} (k : Starts s at place tag start len next) (K : ℕ) {node : code.Result Node Refusal} (e : node ≡ node_of K tag len) where
  pub further : at ≤ next
  further = omega (arith, k.from, k.start_is, k.next-is)

  -- how long the field is
  pub literal-long : {equality : Bool} → node ≡ Ok (Node.Literal equality) → len ≡ form_width 4 K
  literal-long f = rw (sym e ∙ f) at (sizes K tag len)

  pub stride-long : node ≡ Ok Node.Stride → len ≡ 4 + form_width 4 K
  stride-long f = rw (sym e ∙ f) at (sizes K tag len)

  pub literal-whole : {equality : Bool} → node ≡ Ok (Node.Literal equality) → Whole s start K
  literal-whole f =
      let h : len ≡ form_width 4 K = rw (sym e ∙ f) at (sizes K tag len) in
      record { upto = omega (arith, k.upto, k.next-is) }

  pub stride-whole : node ≡ Ok Node.Stride → Whole s (start + 4) K
  stride-whole f =
      let h : len ≡ 4 + form_width 4 K = rw (sym e ∙ f) at (sizes K tag len) in
      record { upto = omega (arith, k.upto, k.next-is) }

  -- what the node's field gives, as an equation
  module _ (levels : ℕ) where
    pub formula-node : {n : code.Result Node Refusal} → node ≡ n
        → formula_within edition1 K levels (fields_at s at)
        ≡ node_read K (two_within K levels) (record { at = place; tag = tag; contents = take len (drop start s) }) (fields_at s next) n
    formula-node f =
        within-field K levels (fields_at s at)
        ∙ ap (formula_field edition1 K (two_within K levels)) k.is
        ∙ node-read K (two_within K levels) _ _
        ∙ ap (node_read K (two_within K levels) (record { at = place; tag = tag; contents = take len (drop start s) }) (fields_at s next)) (ap (node_of K tag) (starts-size k) ∙ sym e ∙ f)

    pub literal-is : {equality : Bool} → node ≡ Ok (Node.Literal equality)
        → formula_within edition1 K levels (fields_at s at) ≡ accepted (literal (literal_kind equality) (form_at s start K), fields_at s next)
    unfolding node_read formula_of form_at
    literal-is f =
        let h : len ≡ form_width 4 K = rw (sym e ∙ f) at (sizes K tag len) in
        formula-node f ∙ rw h

    pub stride-is : node ≡ Ok Node.Stride → formula_within edition1 K levels (fields_at s at) ≡ (need (answer 12 file_proof place) (le_z (pos 2) (signed (take 4 (drop start s))))
        >> accepted (nat_abs (signed (take 4 (drop start s))) divides form_at s (start + 4) K, fields_at s next))
    unfolding node_read formula_of form_at
    stride-is f =
        let h : len ≡ 4 + form_width 4 K = rw (sym e ∙ f) at (sizes K tag len) in
        formula-node f ∙ rw (h, take-take 4 (4 + form_width 4 K) (drop start s) (omega arith), drop-take 4 (form_width 4 K) (drop start s), drop-drop 4 start s)

    pub pair_is : {either : Bool} → node ≡ Ok (Node.Pair either) → formula_within edition1 K levels (fields_at s at)
        ≡ (two_within K levels place (fields_at s next) >>= λ p. accepted (compound (connective either) p.0 p.1, p.2))
    unfolding node_read formula_of
    pair_is f = formula-node f

  module _ (values : List ℤ) (levels : ℕ) where
    pub formula-refused : {refusal : Refusal} {x : Fault} → node ≡ Err refusal → x ≡ fault refusal place → FormulaRead s at values K levels (Err x)
    unfolding node_read
    formula-refused f g = rw g (record { judged = formula-node levels f })

    pub formula-literal : {equality b : Bool} → node ≡ Ok (Node.Literal equality)
        → b ≡ holds (literal_kind equality) (value (form_at s start K) (registers values)) → FormulaRead s at values K levels (Ok (record { holds = b; next = next }))
    unfolding judge
    formula-literal {equality} f g =
        record { judged = record { formula = literal (literal_kind equality) (form_at s start K); is = literal-is levels f; truth = g; on = further } }

    -- by the stride's test
    module _ (f : node ≡ Ok Node.Stride) where
      abbrev StrideRead : code.Result Bool Refusal → Type 0
      StrideRead (Ok b) = FormulaRead s at values K levels (Ok (record { holds = b; next = next }))
      StrideRead (Err refusal) = FormulaRead s at values K levels (Err (fault refusal place))

      stride-by : (b : Bool) → le_z (pos 2) (signed (take 4 (drop start s))) ≡ b
          → StrideRead (cond b (Ok (divb (signed (take 4 (drop start s))) (value (form_at s (start + 4) K) (registers values)))) (Err Refusal.WrongMultiplier))
      unfolding need ◌>>◌ judge
      stride-by true h = record { judged = record { formula = nat_abs (signed (take 4 (drop start s))) divides form_at s (start + 4) K; is = stride-is levels f ∙ rw h; truth = refl; on = further } }
      stride-by false h = record { judged = stride-is levels f ∙ rw h }

      stride-read : {r : code.Result Bool Refusal} → r ≡ stride_judged (signed (take 4 (drop start s))) (value (form_at s (start + 4) K) (registers values)) → StrideRead r
      unfolding stride_judged
      stride-read g = subst StrideRead (sym g) (stride-by (le_z (pos 2) (signed (take 4 (drop start s)))) refl)

      pub formula-stride : {r : code.Result Bool Refusal} {b : Bool} → r ≡ stride_judged (signed (take 4 (drop start s))) (value (form_at s (start + 4) K) (registers values))
          → r ≡ Ok b → FormulaRead s at values K levels (Ok (record { holds = b; next = next }))
      formula-stride g h = subst StrideRead h (stride-read g)

      pub stride-fault : {r : code.Result Bool Refusal} {refusal : Refusal} {x : Fault} → r ≡ stride_judged (signed (take 4 (drop start s))) (value (form_at s (start + 4) K) (registers values))
          → r ≡ Err refusal → x ≡ fault refusal place → FormulaRead s at values K levels (Err x)
      stride-fault g h k = rw k (subst StrideRead h (stride-read g))

    module _ {either : Bool} (f : node ≡ Ok (Node.Pair either)) {p : code.Result Pair Fault} (b : PairRead s place next values K levels p) where
      pub pair-fault : {x : Fault} → p ≡ Err x → FormulaRead s at values K levels (Err x)
      unfolding node_read formula_of
      pair-fault e = let q = rw e at b.judged in record { judged = formula-node levels f ∙ bind-refused _ q }

      pub formula-pair : {both : Pair} {t : Bool} → p ≡ Ok both → t ≡ connected either both.first both.second → FormulaRead s at values K levels (Ok (record { holds = t; next = both.next }))
      unfolding node_read formula_of
      formula-pair e g =
          let q = rw e at b.judged in
          record {
            judged = record {
              formula = compound (connective either) q.left q.right;
              is = formula-node levels f ∙ binds _ q.is;
              truth = g ∙ compound-truth values either _ _ q.left_truth q.right_truth;
              on = omega (arith, further, q.on);
            };
          }

-- ---- the two parts
pub read-on : {s : List ℕ} {values : List ℤ} {K levels at : ℕ} {r : code.Result Judged Fault} → FormulaRead s at values K levels r → {part : Judged} → r ≡ Ok part → at ≤ part.next
read-on b e = let x = rw e at b.judged in x.on

pub no-level : (s : List ℕ) (place at : ℕ) (values : List ℤ) (K : ℕ) {levels : ℕ} → levels ≡ 0 → PairRead s place at values K levels (Err (fault Refusal.TooDeep place))
unfolding two_within
no-level s place at values K z = record { judged = rw z }

module _ {s : List ℕ} {values : List ℤ} {K at : ℕ} (place levels : ℕ) (z : levels ≡ 0 → ⊥) {r : code.Result Judged Fault} (b : FormulaRead s at values K (levels - 1) r) where
  two_is : two_within K levels place (fields_at s at) ≡ two_parts edition1 K (formula_within edition1 K (levels - 1)) (fields_at s at)
  unfolding two_within
  two_is = let e : levels ≡ suc (levels - 1) = omega arith in ap (λ (n : ℕ). two_within K n place (fields_at s at)) e

  pub first-fault : {x : Fault} → r ≡ Err x → PairRead s place at values K levels (Err x)
  unfolding two_parts
  first-fault e = record { judged = two_is ∙ bind-refused _ (rw e at b.judged) }

  module _ {left : Judged} (e : r ≡ Ok left) {q : code.Result Judged Fault} (d : FormulaRead s left.next values K (levels - 1) q) where
    pub second-fault : {x : Fault} → q ≡ Err x → PairRead s place at values K levels (Err x)
    unfolding two_parts
    second-fault f =
        let x = rw e at b.judged in
        record { judged = two_is ∙ binds _ x.is ∙ bind-refused _ (rw f at d.judged) }

    pub both_read : {right : Judged} → q ≡ Ok right → PairRead s place at values K levels (Ok (record { first = left.holds; second = right.holds; next = right.next }))
    unfolding two_parts
    both_read f =
        let x = rw e at b.judged in
        let y = rw f at d.judged in
        record {
          judged = record {
            left = x.formula;
            right = y.formula;
            is = two_is ∙ binds _ x.is ∙ binds _ y.is;
            left_truth = x.truth;
            right_truth = y.truth;
            on = omega (arith, x.on, y.on);
          };
        }

-- ---- the two parts, read by a loop: i of them are read, up to here
abbrev Parts : (s : List ℕ) (place at : ℕ) (values : List ℤ) (K levels : ℕ) (first second : Bool) (here i : ℕ) → Type 0
Parts s place at values K levels first second here zero = here ≡ at
Parts s place at values K levels first second here (suc zero) = FormulaRead s at values K (levels - 1) (Ok (record { holds = second; next = here }))
Parts s place at values K levels first second here (suc (suc i)) = PairRead s place at values K levels (Ok (record { first = first; second = second; next = here }))

pub record PartsRead (s : List ℕ) (place at : ℕ) (values : List ℤ) (K levels : ℕ) (first second : Bool) (here i : ℕ) : Type 0 where
  pub read : Parts s place at values K levels first second here i

module _ {s : List ℕ} {place at : ℕ} {values : List ℤ} {K levels : ℕ} {first second : Bool} {here i : ℕ} (p : PartsRead s place at values K levels first second here i) where
  pub parts-on : i < 2 → at ≤ here
  parts-on h = go i h p.read
    where
      go : (i : ℕ) → i < 2 → Parts s place at values K levels first second here i → at ≤ here
      go zero h q = omega arith
      go (suc zero) h q = read-on q refl
      go (suc (suc i)) h q = absurd (omega arith)

  pub parts-both : 2 ≤ i → PairRead s place at values K levels (Ok (record { first = first; second = second; next = here }))
  parts-both h = go i h p.read
    where
      go : (i : ℕ) → 2 ≤ i → Parts s place at values K levels first second here i → PairRead s place at values K levels (Ok (record { first = first; second = second; next = here }))
      go zero h q = absurd (omega arith)
      go (suc zero) h q = absurd (omega arith)
      go (suc (suc i)) h q = q

  module _ (z : levels ≡ 0 → ⊥) (h : i < 2) {r : code.Result Judged Fault} (b : FormulaRead s here values K (levels - 1) r) where
    pub parts-fault : {x : Fault} → r ≡ Err x → PairRead s place at values K levels (Err x)
    parts-fault {x} e = go i h p.read
      where
        go : (i : ℕ) → i < 2 → Parts s place at values K levels first second here i → PairRead s place at values K levels (Err x)
        go zero h q = first-fault place levels z (rw q at b) e
        go (suc zero) h q = second-fault place levels z q refl b e
        go (suc (suc i)) h q = absurd (omega arith)

    pub parts_next : {part : Judged} → r ≡ Ok part → PartsRead s place at values K levels second part.holds part.next (i + 1)
    parts_next {part} e = record { read = go i h p.read }
      where
        go : (i : ℕ) → i < 2 → Parts s place at values K levels first second here i → Parts s place at values K levels second part.holds part.next (i + 1)
        go zero h q = rw (q, e) at b
        go (suc zero) h q = both_read place levels z q refl b e
        go (suc (suc i)) h q = absurd (omega arith)
