-- Each way through printing's own formula reader and pair reader, over plain values. Assumes nothing.
use mathlib.Core.Path.{◌≡◌, refl, ap, ◌∙◌}
use mathlib.Core.Bool.{Bool, true, false}
use mathlib.Core.List.{List, []}
use Prim.Native.Nat.{ℕ, suc, ◌+◌, ◌*◌, ◌-◌, ◌≤◌}
use native.Mathlib.Omega.{arith}
use Rattle.std.specs.Prelude.{Ok, Err}
use Rattle.std.specs.declared.result.Result as code
use lib.IntN.{ℤ, pos, nat_abs}
use lib.ListN.{length, take, drop}
use lib.Signed.{lt_z}
use mir.Syntax.{w64}
use mir.Val.{SFits, to_z, of_z}
use mir.ValLaws.{to_z-of_z}
use Rattle.forms.specs.Edition.{edition1}
use Rattle.forms.specs.Forms.{Formula, literal, ◌divides◌}
use Rattle.answers.specs.Answers.{Result}
use Rattle.answers.specs.Refusals.{fault}
use Rattle.answers.specs.declared.refusals.Refusal.{Refusal}
use Rattle.answers.specs.declared.refusals.Fault.{Fault}
use Rattle.answers.proofs.Results.{binds, bind-refused, pass, fail}
use Rattle.number_bytes.specs.Numbers.{signed}
use Rattle.number_bytes.specs.Ranges.{Held}
use Rattle.fields.specs.Fields.{Fields}
use Rattle.fields.specs.declared.WholeField.{WholeField}
use Rattle.fields.specs.Places.{fields_at, next_or_fault}
use Rattle.fields.proofs.Places.{Starts}
use Rattle.formula.specs.Formula.{compound, formula_of, formula_within, two_parts}
use Rattle.formula_write.specs.Writing.{Divisor}
use Rattle.form_value.specs.FormAt.{form_at}
use Rattle.formula_read.specs.Judging.{two_within}
use Rattle.formula_read.specs.Nodes.{connective, literal_kind, node_of, node_read}
use Rattle.formula_read.specs.declared.node.Node.{Node}
use Rattle.formula_read.proofs.Parts.{low, high, at-least-two}
use Rattle.formula_read.proofs.FormulaReader.{formula-missing, further, literal-long, stride-long, formula-node, formula-refused, literal-is, stride-is, no-level}
use Rattle.printing.specs.Dialects.{formula_text}
use Rattle.printing_signs.specs.Relations.{open_text, between_text, close_text}
use Rattle.printing_text.specs.declared.Text.{Text}
use Rattle.printing_text.specs.PutsText.{Puts}
use Rattle.printing_formula.specs.Printing.{Place, PutOr, Prints, StrideAt, FormulaAt, PairAt}
use Rattle.printing_text.proofs.PutsText.{puts_then, puts-is}
use Rattle.printing_formula.proofs.PairTexts.{pair-text, literal-shown, stride-shown}

-- The same, read from an earlier place, of which the bytes pay for what was more.
module _ {wording inner : Bool} {s : List ℕ} {from more : ℕ} {w : Result (Formula × Fields)} {t u : Text} {r : code.Result ℕ Fault} (p : Prints wording inner s from more w t u r) where
  pub prints-weaken : (from' more' : ℕ) {w' : Result (Formula × Fields)} → w' ≡ w → from' ≤ from → more ≤ more' + 6 * (from - from') → Prints wording inner s from' more' w' t u r
  prints-weaken from' more' {w'} e h l = record { put = go r p.put }
    where
      go : (r : code.Result ℕ Fault) → PutOr wording inner s from more w t u r → PutOr wording inner s from' more' w' t u r
      go (Err x) q = e ∙ q
      go (Ok r) q = record {
        formula = q.formula;
        is = e ∙ q.is;
        on = omega (arith, q.on);
        upto = q.upto;
        puts = puts-is q.puts refl (omega (arith, q.on));
      }

-- ---- a stride part
pub stride-divisor : {g : ℤ} → SFits w64 g → Held 4 g → lt_z (to_z w64 (of_z w64 g)) (pos 2) ≡ false → Divisor (to_z w64 (of_z w64 g))
stride-divisor {g} f k h = record { low = at-least-two _ h; held = rw (to_z-of_z w64 g f) k }

module _ (wording : Bool) {s : List ℕ} (place start next K : ℕ) {g : ℤ} (f : SFits w64 g) (e : g ≡ signed (take 4 (drop start s))) {t u : Text} where
  pub stride-refused : lt_z (to_z w64 (of_z w64 g)) (pos 2) ≡ true → StrideAt wording s place start next K t u (Err (fault Refusal.WrongMultiplier place))
  stride-refused h = record { at = λ inner. record { put = fail _ _ (low (signed (take 4 (drop start s))) (rw (to_z-of_z w64 g f, e) at h)) } }

  pub stride-put : lt_z (to_z w64 (of_z w64 g)) (pos 2) ≡ false → next ≤ length s
      → Puts t u (formula_text wording false (nat_abs (to_z w64 (of_z w64 g)) divides form_at s (start + 4) K)) (41 + 23 * K)
      → StrideAt wording s place start next K t u (Ok next)
  stride-put h l p = record {
    at = λ inner. record {
      put = record {
        formula = nat_abs (signed (take 4 (drop start s))) divides form_at s (start + 4) K;
        is = pass _ _ (high (signed (take 4 (drop start s))) (rw (to_z-of_z w64 g f, e) at h));
        on = omega arith;
        upto = l;
        puts = puts-is p (ap (λ (x : ℤ). formula_text wording false (nat_abs x divides form_at s (start + 4) K)) (to_z-of_z w64 g f ∙ e)
            ∙ stride-shown wording inner (nat_abs (signed (take 4 (drop start s)))) (form_at s (start + 4) K)) (omega arith);
      };
    };
  }

-- ---- the file ends, or is cut
pub at_fault : {wording inner : Bool} {s : List ℕ} {at : ℕ} (K levels : ℕ) {t u : Text} {r : code.Result WholeField Fault} {e : Fault} → r ≡ next_or_fault (fields_at s at) → r ≡ Err e → FormulaAt wording inner s at K levels t u (Err e)
at_fault {s = s} {at} K levels p q = record { put = (formula-missing s at [] K levels p q).judged }

-- ---- a field: its node is n
module _ {wording inner : Bool} {s : List ℕ} {at place tag start len next : ℕ} (k : Starts s at place tag start len next) (K : ℕ) {node : code.Result Node Refusal} (e : node ≡ node_of K tag len) (levels : ℕ) {t u : Text} where
  pub node-refused : {refusal : Refusal} {x : Fault} → node ≡ Err refusal → x ≡ fault refusal place → FormulaAt wording inner s at K levels t u (Err x)
  node-refused f g = record { put = (formula-refused k K e [] levels f g).judged }

  pub node-literal : {equality : Bool} → node ≡ Ok (Node.Literal equality) → Puts t u (formula_text wording false (literal (literal_kind equality) (form_at s start K))) (25 + 23 * K)
      → FormulaAt wording inner s at K levels t u (Ok next)
  node-literal {equality} f p =
      let l : len ≡ suc K * 4 = literal-long k K e f in
      record {
        put = record {
          formula = literal (literal_kind equality) (form_at s start K);
          is = literal-is k K e levels f;
          on = further k K e;
          upto = k.upto;
          puts = puts-is p (literal-shown wording inner (literal_kind equality) (form_at s start K)) (omega (arith, k.from, k.start_is, k.next-is));
        };
      }

  pub node-stride : {r : code.Result ℕ Fault} → node ≡ Ok Node.Stride → StrideAt wording s place start next K t u r → FormulaAt wording inner s at K levels t u r
  node-stride f p =
      let l : len ≡ 4 + suc K * 4 = stride-long k K e f in
      prints-weaken (p.at inner) at 0 (stride-is k K e levels f) (further k K e) (omega (arith, k.from, k.start_is, k.next-is))

  pub node-pair : {either : Bool} {r : code.Result ℕ Fault} → node ≡ Ok (Node.Pair either) → PairAt wording inner s place next K levels either t u r → FormulaAt wording inner s at K levels t u r
  unfolding node_read formula_of
  node-pair f p = prints-weaken p at 0 (formula-node k K e levels f) (further k K e) (omega (arith, k.from, k.start_is, k.next-is))

-- ---- the two parts
pub pair-none : {wording inner : Bool} {s : List ℕ} (place at K : ℕ) (either : Bool) {levels : ℕ} {t u : Text} → levels ≡ 0 → PairAt wording inner s place at K levels either t u (Err (fault Refusal.TooDeep place))
pair-none {s = s} place at K either z = record { put = bind-refused _ (no-level s place at [] K z).judged }

pub two_is : (K levels place : ℕ) (fs : Fields) → (levels ≡ 0 → ⊥) → two_within K levels place fs ≡ two_parts edition1 K (formula_within edition1 K (levels - 1)) fs
unfolding two_within
two_is K levels place fs z = let e : levels ≡ suc (levels - 1) = omega arith in ap (λ (n : ℕ). two_within K n place fs) e

module _ {wording : Bool} (inner : Bool) {s : List ℕ} {at : ℕ} (K place levels : ℕ) (either : Bool) (z : levels ≡ 0 → ⊥) {t₁ t₂ : Text} {r : code.Result ℕ Fault} (b : FormulaAt wording true s at K (levels - 1) t₁ t₂ r) where
  pub first-fault : {x : Fault} {t u : Text} → r ≡ Err x → PairAt wording inner s place at K levels either t u (Err x)
  unfolding two_parts
  first-fault e = record { put = bind-refused _ (two_is K levels place (fields_at s at) z ∙ bind-refused _ (rw e at b.put)) }

  module _ {middle : ℕ} (e : r ≡ Ok middle) {t₃ t₄ : Text} {q : code.Result ℕ Fault} (d : FormulaAt wording true s middle K (levels - 1) t₃ t₄ q) where
    pub second-fault : {x : Fault} {t u : Text} → q ≡ Err x → PairAt wording inner s place at K levels either t u (Err x)
    unfolding two_parts
    second-fault f =
        let x = rw e at b.put in
        record { put = bind-refused _ (two_is K levels place (fields_at s at) z ∙ binds _ x.is ∙ bind-refused _ (rw f at d.put)) }

    pub both-put : {next : ℕ} → q ≡ Ok next → {t t₅ : Text} → Puts t t₁ (open_text wording inner either) 5 → Puts t₂ t₃ (between_text wording either) 5
        → Puts t₄ t₅ (close_text wording inner) 1 → PairAt wording inner s place at K levels either t t₅ (Ok next)
    unfolding two_parts
    both-put f opened spaced closed =
        let x = rw e at b.put in
        let y = rw f at d.put in
        record {
          put = record {
            formula = compound (connective either) x.formula y.formula;
            is = binds _ (two_is K levels place (fields_at s at) z ∙ binds _ x.is ∙ binds _ y.is);
            on = omega (arith, x.on, y.on);
            upto = y.upto;
            puts = puts-is (puts_then (puts_then (puts_then (puts_then opened x.puts) spaced) y.puts) closed) (pair-text wording inner either x.formula y.formula) (omega (arith, x.on, y.on));
          };
        }

-- ---- how far the text is
module _ {wording inner : Bool} {s : List ℕ} {at : ℕ} (K levels : ℕ) {t u : Text} {r : code.Result ℕ Fault} (b : FormulaAt wording inner s at K levels t u r) {next : ℕ} (e : r ≡ Ok next) where
  pub text-on : at ≤ next
  text-on = let x = rw e at b.put in x.on

  pub text-upto : next ≤ length s
  text-upto = let x = rw e at b.put in x.upto

  pub text-few : u.end ≤ t.end + 6 * (next - at)
  text-few = let x = rw e at b.put in omega (arith, x.puts.o_is, x.puts.few)

-- the text of a field's node starts below the limit; and where its parts start, the three bytes of its head are paid for
module _ {s : List ℕ} {at place tag start len next K o : ℕ} (k : Starts s at place tag start len next) (p : Place s at K o) where
  pub node-room : o + 800 ≤ 1_000_000
  node-room = omega (arith, p.file, p.paid, k.from, k.start_is, k.next-is, k.upto)

  pub parts-place : Place s next K (o + 16)
  parts-place = record { file = p.file; constants = p.constants; paid = omega (arith, p.paid, k.from, k.start_is, k.next-is) }
