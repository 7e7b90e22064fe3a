-- Each way through reading a formula without its text, over plain values. Assumes nothing.
use mathlib.Core.Path.{◌≡◌, ◌∙◌}
use mathlib.Core.Bool.{Bool, true, false}
use mathlib.Core.List.{List, []}
use Prim.Native.Nat.{ℕ, ◌+◌, ◌-◌, ◌≤◌}
use native.Mathlib.Omega.{arith}
use Rattle.std.specs.Prelude.{Ok, Err}
use Rattle.std.specs.declared.result.Result as code
use lib.IntN.{ℤ, pos, nat_abs}
use lib.ListN.{take, drop}
use lib.Signed.{lt_z}
use mir.Syntax.{w64}
use mir.Val.{SFits, to_z, of_z}
use mir.ValLaws.{to_z-of_z}
use Rattle.forms.specs.Edition.{edition1}
use Rattle.forms.specs.Forms.{Formula, literal, ◌divides◌}
use Rattle.answers.specs.Answers.{Result}
use Rattle.answers.specs.Refusals.{fault}
use Rattle.answers.specs.declared.refusals.Refusal.{Refusal}
use Rattle.answers.specs.declared.refusals.Fault.{Fault}
use Rattle.answers.proofs.Results.{binds, bind-refused, pass, fail}
use Rattle.number_bytes.specs.Numbers.{signed}
use Rattle.fields.specs.Fields.{Fields}
use Rattle.fields.specs.declared.WholeField.{WholeField}
use Rattle.fields.specs.Places.{fields_at, next_or_fault}
use Rattle.fields.proofs.Places.{Starts}
use Rattle.formula.specs.Formula.{compound, formula_of, formula_within, two_parts}
use Rattle.form_value.specs.FormAt.{form_at}
use Rattle.formula_read.specs.Nodes.{connective, literal_kind, node_of, node_read}
use Rattle.formula_read.specs.declared.node.Node.{Node}
use Rattle.formula_read.proofs.Parts.{low, high}
use Rattle.formula_read.proofs.FormulaReader.{formula-missing, further, formula-node, formula-refused, literal-is, stride-is, no-level}
use Rattle.printing_formula.specs.Printing.{pair_within}
use Rattle.printing_formula.specs.Reaching.{ReadOr, ReadsFormula, StrideReached, WholeAt, PartsAt}
use Rattle.printing_formula.proofs.PrintingReader.{two_is}

-- The same, read from an earlier place.
module _ {s : List ℕ} {from : ℕ} {w : Result (Formula × Fields)} {r : code.Result ℕ Fault} (p : ReadsFormula s from w r) where
  reads-weaken : (from' : ℕ) {w' : Result (Formula × Fields)} → w' ≡ w → from' ≤ from → ReadsFormula s from' w' r
  reads-weaken from' {w'} e h = record { read = go r p.read }
    where
      go : (r : code.Result ℕ Fault) → ReadOr s from w r → ReadOr s from' w' r
      go (Err x) q = e ∙ q
      go (Ok next) q = record { formula = q.formula; is = e ∙ q.is; on = omega (arith, q.on) }

-- ---- a stride part
module _ {s : List ℕ} (place start next : ℕ) {g : ℤ} (f : SFits w64 g) (e : g ≡ signed (take 4 (drop start s))) where
  pub stride-refused : lt_z (to_z w64 (of_z w64 g)) (pos 2) ≡ true → StrideReached s place start next (Err (fault Refusal.WrongMultiplier place))
  stride-refused h = record { at = λ K. record { read = fail _ _ (low (signed (take 4 (drop start s))) (rw (to_z-of_z w64 g f, e) at h)) } }

  pub stride-read : lt_z (to_z w64 (of_z w64 g)) (pos 2) ≡ false → StrideReached s place start next (Ok next)
  stride-read h = record {
    at = λ K. record {
      read = record {
        formula = nat_abs (signed (take 4 (drop start s))) divides form_at s (start + 4) K;
        is = pass _ _ (high (signed (take 4 (drop start s))) (rw (to_z-of_z w64 g f, e) at h));
        on = omega arith;
      };
    };
  }

-- ---- the file ends, or is cut
pub at_fault : {s : List ℕ} {at : ℕ} (K levels : ℕ) {r : code.Result WholeField Fault} {e : Fault} → r ≡ next_or_fault (fields_at s at) → r ≡ Err e → WholeAt s at K levels (Err e)
at_fault {s} {at} K levels p q = record { read = (formula-missing s at [] K levels p q).judged }

-- ---- a field: its node is n
module _ {s : List ℕ} {at place tag start len next : ℕ} (k : Starts s at place tag start len next) (K : ℕ) {node : code.Result Node Refusal} (e : node ≡ node_of K tag len) (levels : ℕ) where
  pub node-refused : {refusal : Refusal} {x : Fault} → node ≡ Err refusal → x ≡ fault refusal place → WholeAt s at K levels (Err x)
  node-refused f g = record { read = (formula-refused k K e [] levels f g).judged }

  pub node-literal : {equality : Bool} → node ≡ Ok (Node.Literal equality) → WholeAt s at K levels (Ok next)
  node-literal {equality} f = record { read = record { formula = literal (literal_kind equality) (form_at s start K); is = literal-is k K e levels f; on = further k K e } }

  pub node-stride : {r : code.Result ℕ Fault} → node ≡ Ok Node.Stride → StrideReached s place start next r → WholeAt s at K levels r
  node-stride f p = reads-weaken (p.at K) at (stride-is k K e levels f) (further k K e)

  pub node-pair : {either : Bool} {r : code.Result ℕ Fault} → node ≡ Ok (Node.Pair either) → PartsAt s place next K levels r → WholeAt s at K levels r
  unfolding node_read formula_of
  node-pair {either} f p = reads-weaken (p.of either) at (formula-node k K e levels f) (further k K e)

-- ---- the two parts
pub parts_none : {s : List ℕ} (place at K : ℕ) {levels : ℕ} → levels ≡ 0 → PartsAt s place at K levels (Err (fault Refusal.TooDeep place))
parts_none {s} place at K z = record { of = λ either. record { read = bind-refused _ (no-level s place at [] K z).judged } }

module _ {s : List ℕ} {at : ℕ} (K place levels : ℕ) (z : levels ≡ 0 → ⊥) {r : code.Result ℕ Fault} (b : WholeAt s at K (levels - 1) r) where
  pub first-fault : {x : Fault} → r ≡ Err x → PartsAt s place at K levels (Err x)
  unfolding two_parts
  first-fault e = record { of = λ either. record { read = bind-refused _ (two_is K levels place (fields_at s at) z ∙ bind-refused _ (rw e at b.read)) } }

  pub second-part : {middle : ℕ} → r ≡ Ok middle → {q : code.Result ℕ Fault} → WholeAt s middle K (levels - 1) q → PartsAt s place at K levels q
  unfolding two_parts
  second-part {middle} e {q} d = record { of = λ either. record { read = go either q d.read } }
    where
      go : (either : Bool) (q : code.Result ℕ Fault) → ReadOr s middle (formula_within edition1 K (levels - 1) (fields_at s middle)) q → ReadOr s at (pair_within K levels either place (fields_at s at)) q
      go either (Err _) y =
          let x = rw e at b.read in
          bind-refused _ (two_is K levels place (fields_at s at) z ∙ binds _ x.is ∙ bind-refused _ y)
      go either (Ok next) y =
          let x = rw e at b.read in
          record {
            formula = compound (connective either) x.formula y.formula;
            is = binds _ (two_is K levels place (fields_at s at) z ∙ binds _ x.is ∙ binds _ y.is);
            on = omega (arith, x.on, y.on);
          }

pub whole-on : {s : List ℕ} {at : ℕ} (K levels : ℕ) {r : code.Result ℕ Fault} → WholeAt s at K levels r → {next : ℕ} → r ≡ Ok next → at ≤ next
whole-on K levels b e = let x = rw e at b.read in x.on
