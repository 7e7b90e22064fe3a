-- The rows that close a branch, one way after the other. Assumes nothing.
use mathlib.Core.Path.{◌≡◌, refl, sym, ap, ◌∙◌}
use mathlib.Core.Bool.{Bool, true, false}
use mathlib.Core.Logic.{⊎_elim}
use mathlib.Core.List.{List}
use Prim.Native.Nat.{ℕ, ◌+◌, ◌*◌, ◌-◌, ◌≤◌, ◌<◌}
use native.Mathlib.Nat.{eq-zero-or-pos}
use native.Mathlib.Omega.{arith}
use lib.ListN.{get_or}
use lib.IntN.{ℤ, pos}
use borrow.Author.Tests.{lt-leb}
use Rattle.integers.proofs.Differences.{ints}
use Rattle.forms.specs.Forms.{=0, literal, ◌divides◌}
use Rattle.forms.specs.Reduced.{reduced}
use Rattle.forms.specs.Flat.{kind_of, form_in}
use Rattle.answers.specs.declared.Answer.{Answer}
use Rattle.answers.specs.Answers.{answer, file_proof}
use Rattle.answers.proofs.Results.{never}
use Rattle.formula_write.specs.Writing.{Numbered, Divisor, Puts}
use Rattle.formula_write.proofs.Written.{held, literal-size, stride-size}
use Rattle.proof.specs.Rows.{is, by_number, by_stride}
use Rattle.lines.specs.Buffer.{size, line_in, lines_in}
use Rattle.lines.proofs.Lines.{before}
use Rattle.lines.specs.Ready.{KindRead, Ready}
use Rattle.tally.specs.declared.Tally.{Tally}
use Rattle.closes.specs.Closing.{ByNumber}
use Rattle.closes.specs.Striding.{ByStride}
use Rattle.closes.specs.Ends.{EndedBy}
use Rattle.std.specs.Prelude.{Ok}
use Rattle.closes.proofs.NumberTests.{number-none}
use Rattle.closes.proofs.StrideTests.{stride-none, stride-kind, stride-small}

pub numbered : {e K : ℕ} {kinds : List ℕ} {buf : List ℤ} {n i x : ℕ} → Ready e K kinds buf n → i < n → x ≡ i * size K + (K + 1) → Numbered K buf x
numbered {K = K} {buf = buf} {n = n} {i = i} r h e =
    let b : i * size K + size K ≤ n * size K = before K h in
    record {
      constants = r.branch.constants;
      room = omega (arith, r.branch.room);
      small = λ y l. r.branch.bounded.small _ (omega arith);
    }

-- A stride that the tests let pass can be written.
pub divisor : {g : ℕ} {z : ℤ} → z ≡ pos g → g < 65536 → 2 ≤ g → Divisor z
divisor e few l = rw e (record { low = omega (ints, l); held = held (record { abs = omega arith }) })

-- the refusals at any row, to compare two results
some-refusal : ℕ → Answer
some-refusal n = answer n file_proof 0

module _ {K : ℕ} {kinds : List ℕ} {buf : List ℤ} {t : Tally} {i : ℕ} where
  pub number-there : ByNumber K kinds buf t i (Ok tt) → i < t.lines.0
  number-there b =
      ⊎_elim
      (λ (g : t.lines.0 - i ≡ 0). absurd (never (sym ((number-none K kinds buf t i (omega arith)).by some-refusal) ∙ b.by some-refusal)))
      (λ (l : 0 < t.lines.0 - i). omega arith)
      (eq-zero-or-pos (t.lines.0 - i))

  pub stride-there : {g : ℕ} → ByStride K kinds buf t i g (Ok tt) → i < t.lines.0
  stride-there {g} b =
      ⊎_elim
      (λ (z : t.lines.0 - i ≡ 0). absurd (never (sym ((stride-none K kinds buf t i g (omega arith)).by some-refusal) ∙ b.by some-refusal)))
      (λ (l : 0 < t.lines.0 - i). omega arith)
      (eq-zero-or-pos (t.lines.0 - i))

  pub stride-two : {g : ℕ} → ByStride K kinds buf t i g (Ok tt) → 2 ≤ g
  stride-two {g} b =
      ⊎_elim
      (λ (z : 2 - g ≡ 0). omega arith)
      (λ (l : 0 < 2 - g). absurd (no_test (omega arith) (is =0 (line_in K kinds buf i).kind) refl))
      (eq-zero-or-pos (2 - g))
    where
      no_test : g < 2 → (a : Bool) → is =0 (line_in K kinds buf i).kind ≡ a → ⊥
      no_test l false e = never (sym ((stride-kind K kinds buf t i g (stride-there b) e).by some-refusal) ∙ b.by some-refusal)
      no_test l true d = never (sym ((stride-small K kinds buf t i g (stride-there b) d refl (lt-leb 2 g l)).by some-refusal) ∙ b.by some-refusal)

  module _ (r : Ready t.edition K kinds buf t.lines.0) {x : ℕ} (ex : x ≡ i * size K + (K + 1)) {scratch scratch' : List ℕ} {o o' : ℕ} where
    pub number-written : {kind : ℕ} → ByNumber K kinds buf t i (Ok tt) → KindRead (get_or kinds i 0) kind
        → Puts scratch o (literal (kind_of kind) (form_in K buf x)) scratch' o'
        → EndedBy (λ refusal. by_number refusal (lines_in K kinds buf t.lines.0) i) scratch o scratch' (Ok o')
    unfolding line_in
    number-written {kind = kind} b ek p =
        let n = numbered r (number-there b) ex in
        record {
          formula = literal (kind_of (get_or kinds i 0)) (line_in K kinds buf i).t_A;
          is = b.by;
          puts = rw (← ap kind_of ek.is, ← ex) p;
          short = omega (arith, p.o_is, literal-size n (kind_of kind), n.constants);
        }

    pub stride-written : {g : ℕ} → ByStride K kinds buf t i g (Ok tt)
        → Puts scratch o (g divides reduced g (form_in K buf x)) scratch' o'
        → EndedBy (λ refusal. by_stride refusal (lines_in K kinds buf t.lines.0) i g) scratch o scratch' (Ok o')
    unfolding line_in
    stride-written {g} b p =
        let n = numbered r (stride-there b) ex in
        record {
          formula = g divides reduced g (line_in K kinds buf i).t_A;
          is = b.by;
          puts = rw (← ex) p;
          short = omega (arith, p.o_is, stride-size n g, n.constants);
        }
