-- What making a line and testing a close tell of the definitions. Assumes nothing.
use mathlib.Core.Path.{◌≡◌, refl, sym, ◌∙◌, ap, subst}
use mathlib.Core.Bool.{Bool}
use mathlib.Core.List.{List}
use Prim.Native.Nat.{ℕ, suc, ◌+◌}
use native.Mathlib.Omega.{arith}
use lib.IntN.{ℤ}
use Rattle.forms.specs.Edition.{edition1}
use Rattle.forms.specs.Flat.{kind_of, line_kind_of}
use Rattle.forms.specs.Forms.{Form, ≤0, =0, A, B, LineKind, plain, apart, Line, literal}
use Rattle.calculus.specs.Rules.{◌▷◌, Inference, CloseNumber, CloseStride}
use Rattle.answers.specs.declared.Answer.{Answer}
use Rattle.answers.specs.Answers.{Result, refused, accepted, ◌>>=◌, ◌>>◌}
use Rattle.answers.proofs.Results.{never}
use Rattle.fields.specs.Fields.{ends}
use Rattle.proof.specs.Rows.{derived, fitting}
use Rattle.proof.specs.Check.{Closing}
use Rattle.enumeration.specs.Sequence.{any_refusal, new_line, close_formula}
use Rattle.lines.specs.Buffer.{line_in, lines_in}
use Rattle.lines.proofs.Parts.{agree-sym}
use Rattle.lines.proofs.Lines.{lines_more, bounded-same}
use Rattle.lines.specs.Ready.{Limited, LinesKept}
use Rattle.tally.specs.Tally.{more_lines}
use Rattle.tally.specs.declared.Tally.{Tally}
use Rattle.rows.specs.Rows.{followed, Derives}
use Rattle.std.specs.declared.result.Result as rust
use Rattle.std.specs.Prelude.{Ok, Err, is_ok}
use Rattle.answers.specs.declared.refusals.Refusal.{Refusal}
use Rattle.answers.specs.Refusals.{number_of}
use Rattle.closes.specs.Closing.{ByNumber}
use Rattle.closes.specs.Striding.{ByStride}
use Rattle.closes.specs.Closing.{Test}
use Rattle.enumeration_rows.specs.Applied.{SearchRoom, CloseHolds}

-- ---- the buffers
pub roomy-kept : {K d : ℕ} {kinds : List ℕ} {buf : List ℤ} {kinds' : List ℕ} {buf' : List ℤ} {t : Tally} → SearchRoom K d kinds buf t → LinesKept K t.lines.0 kinds buf kinds' buf' → SearchRoom K d kinds' buf' t
roomy-kept r k = record {
  constants = r.constants;
  room = omega (arith, r.room, k.lines_length);
  kinds_room = omega (arith, r.kinds_room, k.kinds_length);
  bounded = bounded-same (agree-sym k.lines_same) r.bounded;
  few = r.few;
  first_edition = r.first_edition;
}

-- ---- a close
pub number-holds : {K : ℕ} {kinds : List ℕ} {buf : List ℤ} {t : Tally} {i : ℕ} {r : Test} {b : Bool} → ByNumber K kinds buf t i r → b ≡ is_ok r → CloseHolds K kinds buf t.lines.0 (CloseNumber i) b
unfolding close_formula
number-holds {r = Err x} h e = record { yes = λ y. absurd (let z : ◌≡◌ {A = ℕ} 0 1 = cc in omega arith); no = λ _. (any_refusal (number_of x), h.by any_refusal) }
number-holds {r = Ok _} h e = record { yes = λ _. (_, h.by any_refusal); no = λ n. absurd (let z : ◌≡◌ {A = ℕ} 0 1 = cc in omega arith) }

pub stride_holds : {K : ℕ} {kinds : List ℕ} {buf : List ℤ} {t : Tally} {i g : ℕ} {r : Test} {b : Bool} → ByStride K kinds buf t i g r → b ≡ is_ok r → CloseHolds K kinds buf t.lines.0 (CloseStride i g) b
unfolding close_formula
stride_holds {r = Err x} h e = record { yes = λ y. absurd (let z : ◌≡◌ {A = ℕ} 0 1 = cc in omega arith); no = λ _. (any_refusal (number_of x), h.by any_refusal) }
stride_holds {r = Ok _} h e = record { yes = λ _. (_, h.by any_refusal); no = λ n. absurd (let z : ◌≡◌ {A = ℕ} 0 1 = cc in omega arith) }

-- ---- a line
-- what follows a row may tell the whole line
code : LineKind → ℕ
code (plain ≤0) = 0
code (plain =0) = 1
code (apart A) = 2
code (apart B) = 3

decoded : (κ : LineKind) → line_kind_of (code κ) ≡ κ
unfolding line_kind_of kind_of code
decoded (plain ≤0) = refl
decoded (plain =0) = refl
decoded (apart A) = refl
decoded (apart B) = refl

closing : (t : Form) (n : ℕ) → Closing
closing t n = record { formula = literal ≤0 t; rows = n; after = ends 0 }

same-formula : {s t : Form} → literal ≤0 s ≡ literal ≤0 t → s ≡ t
same-formula e = cc

same-closing : {x y : Closing} → accepted x ≡ accepted y → x ≡ y
same-closing e = cc

one_line : (l m : Line) → ((next : Line → Result Closing) → next l ≡ next m) → l ≡ m
unfolding closing
one_line l m h =
    let t : l.t ≡ m.t = same-formula (ap (λ (c : Closing). c.formula) (same-closing (h (λ l. accepted (closing l.t 0))))) in
    let t_A : l.t_A ≡ m.t_A = same-formula (ap (λ (c : Closing). c.formula) (same-closing (h (λ l. accepted (closing l.t_A 0))))) in
    let k : code l.kind ≡ code m.kind = ap (λ (c : Closing). c.rows) (same-closing (h (λ l. accepted (closing l.t (code l.kind))))) in
    let κ : l.kind ≡ m.kind = sym (decoded l.kind) ∙ ap line_kind_of k ∙ decoded m.kind in
    same_line l m κ t t_A
  where
    same_line : (l m : Line) → l.kind ≡ m.kind → l.t ≡ m.t → l.t_A ≡ m.t_A → l ≡ m
    same_line l m p q r =
        ap (λ (κ : LineKind). let x : Line = record { kind = κ; t = l.t; t_A = l.t_A } in x) p
        ∙ ap (λ (f : Form). let x : Line = record { kind = m.kind; t = f; t_A = l.t_A } in x) q
        ∙ ap (λ (f : Form). let x : Line = record { kind = m.kind; t = m.t; t_A = f } in x) r

same-refused : {b a : Answer} → ◌≡◌ {A = Result Closing} (refused b) (refused a) → b ≡ a
same-refused e = cc

module _ (f : Line → Result (Unit {0})) where
  made-from : (m : Result Line) (l : Line) → ((next : Line → Result Closing) → (m >>= λ x. (f x >> next x)) ≡ next l) → (m >>= λ x. (f x >> accepted x)) ≡ accepted l
  unfolding ◌>>=◌ ◌>>◌
  made-from (refused a) l h = absurd (never (h (λ x. accepted (closing x.t 0))))
  made-from (accepted x) l h = go (f x) h
    where
      go : (r : Result (Unit {0})) → ((next : Line → Result Closing) → (r >> next x) ≡ next l) → (r >> accepted x) ≡ accepted l
      go (refused a) h = absurd (never (h (λ y. accepted (closing y.t 0))))
      go (accepted _) h = ap accepted (one_line x l h)

  refused-from : (m : Result Line) (a : Answer) → ((next : Line → Result Closing) → (m >>= λ x. (f x >> next x)) ≡ refused a) → (m >>= λ x. (f x >> accepted x)) ≡ refused a
  unfolding ◌>>=◌ ◌>>◌
  refused-from (refused b) a h = ap refused (same-refused (h (λ x. accepted (closing x.t 0))))
  refused-from (accepted x) a h = go (f x) (h (λ y. accepted (closing y.t 0)))
    where
      go : (r : Result (Unit {0})) → (r >> accepted (closing x.t 0)) ≡ refused a → (r >> accepted x) ≡ refused a
      go (refused b) e = ap refused (same-refused e)
      go (accepted _) e = absurd (never (sym e))

module _ {K : ℕ} {kinds : List ℕ} {buf : List ℤ} {t : Tally} {s : Inference} {kinds' : List ℕ} {buf' : List ℤ} {r : rust.Result Tally Refusal} (first : t.edition ≡ 1) (d : Derives K kinds buf t s kinds' buf' r) where
  abbrev Followed : ℕ → (Line → Result Closing) → Result Closing
  Followed e next = followed e any_refusal (lines_in K kinds buf t.lines.0) s next

  pub line_refused : {x : Refusal} → r ≡ Err x → new_line (lines_in K kinds buf t.lines.0) s ≡ refused (any_refusal (number_of x))
  unfolding new_line
  line_refused {x} e = refused-from (fitting any_refusal (lines_in K kinds buf t.lines.0) edition1) (derived any_refusal (lines_in K kinds buf t.lines.0) s) (any_refusal (number_of x))
      (λ next. subst (λ (n : ℕ). Followed n next ≡ refused (any_refusal (number_of x))) first ((rw e at d.by) any_refusal next))

  pub line_made : {u : Tally} → r ≡ Ok u → new_line (lines_in K kinds buf t.lines.0) s ≡ accepted (line_in K kinds' buf' t.lines.0)
  unfolding new_line
  line_made e = made-from (fitting any_refusal (lines_in K kinds buf t.lines.0) edition1) (derived any_refusal (lines_in K kinds buf t.lines.0) s) (line_in K kinds' buf' t.lines.0)
      (λ next. subst (λ (n : ℕ). Followed n next ≡ next (line_in K kinds' buf' t.lines.0)) first ((rw e at d.by).0 any_refusal next))

  pub made-tally : {u : Tally} → r ≡ Ok u → u ≡ more_lines t
  made-tally e = (rw e at d.by).2

  pub made-limited : {u : Tally} → r ≡ Ok u → Limited t.edition K buf' (t.lines.0 + 1)
  made-limited e = (rw e at d.by).1

  pub lines-made : lines_in K kinds' buf' (t.lines.0 + 1) ≡ lines_in K kinds buf t.lines.0 ▷ line_in K kinds' buf' t.lines.0
  lines-made =
      let e : t.lines.0 + 1 ≡ suc t.lines.0 = omega arith in
      ap (lines_in K kinds' buf') e ∙ lines_more K t.lines.0 (agree-sym d.kept.lines_same) (agree-sym d.kept.kinds_same)

  pub roomy-more : {e : ℕ} {u : Tally} → SearchRoom K (suc e) kinds buf t → r ≡ Ok u → SearchRoom K e kinds' buf' u
  roomy-more {e} h q = subst (λ (u : Tally). SearchRoom K e kinds' buf' u) (sym (made-tally q)) (record {
    constants = h.constants;
    room = omega (arith, h.room, d.kept.lines_length);
    kinds_room = omega (arith, h.kinds_room, d.kept.kinds_length);
    bounded = (made-limited q).bounded;
    few = omega (arith, h.few);
    first_edition = h.first_edition;
  })
