-- What is promised of roundings holds of the check. Assumes nothing.
use mathlib.Core.Path.{◌≡◌, refl, sym, ◌∙◌, ap, ap₂}
use mathlib.Core.Bool.{Bool}
use mathlib.Core.List.{List, []}
use Prim.Native.Nat.{ℕ, max, ◌+◌, ◌≤◌}
use native.Mathlib.Omega.{arith}
use Rattle.forms.specs.Edition.{edition, newest_edition}
use Rattle.forms.specs.Forms.{Form, Line, Formula, Constraint, occurs}
use Rattle.calculus.specs.Rules.{Entry, Room, Rounds, Closed, derive, strengthen, round, split_eq, split_neq, number, stride, Rounded, last, more, entries, entries_rounded, row_count, row_count_rounded, depth, depth_rounded, Proves}
use Rattle.calculus.specs.Tied.{Tied}
use Rattle.calculus.proofs.Sizes.{closed-height}
use Rattle.calculus.proofs.Tied.{tied-proves}
use Rattle.answers.specs.declared.WriteResult.{WriteResult}
use Rattle.answers.specs.Answers.{Written}
use Rattle.proof.specs.Check.{check}
use Rattle.proof.specs.Layout.{ProofFile, Yields}
use Rattle.guarantee.specs.Rounding.{RoundingPromised}
use Rattle.guarantee.proofs.Acceptance.{yielded-left}

-- ---- what is closed in an edition is closed, by the same rows, in one that allows as many lines
module _ (n m : ℕ) (in_b : ℕ → Bool) (h : (edition n).lines ≤ (edition m).lines) where
  room_for : {ls : List Line} {l : Line} → Room (edition n) ls l → Room (edition m) ls l
  room_for r = record { below = omega (arith, r.below); range = r.range }

  rounds-for : {ls : List Line} {i g k : ℕ} {t t_A : Form} → Rounds (edition n) ls i g k t t_A → Rounds (edition m) ls i g k t t_A
  rounds-for r = record { at = r.at; stride = r.stride; least = r.least; most = r.most; divided = r.divided; never = r.never; room = room_for r.room }

  record Wider {ls : List Line} {I : Formula} (p : Closed (edition n) in_b ls I) : Type 0 where
    proof : Closed (edition m) in_b ls I
    are : (rest : List Entry) → entries proof rest ≡ entries p rest
    rows : row_count proof ≡ row_count p
    deep : depth proof ≡ depth p

  record WiderRounded {ls : List Line} {t t_A : Form} {g k j : ℕ} {I : Formula} (p : Rounded (edition n) in_b ls t t_A g k j I) : Type 0 where
    proof : Rounded (edition m) in_b ls t t_A g k j I
    are : (rest : List Entry) → entries_rounded proof rest ≡ entries_rounded p rest
    rows : row_count_rounded proof ≡ row_count_rounded p
    deep : depth_rounded proof ≡ depth_rounded p

  mutual
    wider : {ls : List Line} {I : Formula} (p : Closed (edition n) in_b ls I) → Wider p
    wider (derive claimed s room p) =
        let x = wider p in
        record { proof = derive claimed s (room_for room) x.proof; are = λ rest. rw (x.are rest); rows = rw x.rows; deep = x.deep }
    wider (strengthen i at room p1 pE p0) =
        let x = wider p1 in
        let y = wider pE in
        let z = wider p0 in
        record {
          proof = strengthen i at (room_for room) x.proof y.proof z.proof;
          are = λ rest. rw (z.are rest, y.are (entries p0 rest), x.are (entries pE (entries p0 rest)));
          rows = rw (x.rows, y.rows, z.rows);
          deep = rw (x.deep, y.deep, z.deep);
        }
    wider (round i g k r p ps) =
        let x = wider p in
        let y = wider-rounded ps in
        record {
          proof = round i g k (rounds-for r) x.proof y.proof;
          are = λ rest. rw (y.are rest, x.are (entries_rounded ps rest));
          rows = rw (x.rows, y.rows);
          deep = rw (x.deep, y.deep);
        }
    wider (split_eq i at r1 r2 p q) =
        let x = wider p in
        let y = wider q in
        record {
          proof = split_eq i at (room_for r1) (room_for r2) x.proof y.proof;
          are = λ rest. rw (y.are rest, x.are (entries q rest));
          rows = rw (x.rows, y.rows);
          deep = rw (x.deep, y.deep);
        }
    wider (split_neq i at r1 r2 p q) =
        let x = wider p in
        let y = wider q in
        record {
          proof = split_neq i at (room_for r1) (room_for r2) x.proof y.proof;
          are = λ rest. rw (y.are rest, x.are (entries q rest));
          rows = rw (x.rows, y.rows);
          deep = rw (x.deep, y.deep);
        }
    wider (number i at z f) = record { proof = number i at z f; are = λ rest. refl; rows = refl; deep = refl }
    wider (stride i g at low all not is) = record { proof = stride i g at low all not is; are = λ rest. refl; rows = refl; deep = refl }

    wider-rounded : {ls : List Line} {t t_A : Form} {g k j : ℕ} {I : Formula} (p : Rounded (edition n) in_b ls t t_A g k j I) → WiderRounded p
    wider-rounded (last b is p) =
        let x = wider p in
        record { proof = last b is x.proof; are = x.are; rows = x.rows; deep = x.deep }
    wider-rounded (more b is p ps) =
        let x = wider p in
        let y = wider-rounded ps in
        record {
          proof = more b is x.proof y.proof;
          are = λ rest. ap (entries x.proof) (y.are rest) ∙ x.are (entries_rounded ps rest);
          rows = ap₂ (λ (a b : ℕ). a + b) x.rows y.rows;
          deep = ap₂ max x.deep y.deep;
        }

wider-proves : (n m : ℕ) → (edition n).lines ≤ (edition m).lines → {A B : List Constraint} {es : List Entry} {I : Formula} → Proves (edition n) A B es I → Proves (edition m) A B es I
wider-proves n m h {B = B} p =
    let x = wider n m (occurs B) h p.proof in
    record { proof = x.proof; are = x.are [] ∙ p.are; rows = omega (arith, x.rows, p.rows); opened = omega (arith, x.deep, p.opened) }

-- ---- the tie
-- The tied table derives the same formula,
tied-yields : {A B proof proof₁ : List ℕ} {K : ℕ} {I : Formula} (y : Yields newest_edition A B proof K I) (n₁ : ℕ) {es : List Entry} → ProofFile newest_edition proof₁ n₁ K es
    → (edition y.edition_proof).lines ≤ (edition n₁).lines → Tied y.proves.proof [] es → Yields newest_edition A B proof₁ K I
tied-yields y n₁ {es} f l h = record {
  edition_a = y.edition_a;
  edition_b = y.edition_b;
  edition_proof = n₁;
  a = y.a;
  b = y.b;
  es = es;
  file_a = y.file_a;
  file_b = y.file_b;
  file_proof = f;
  proves = wider-proves y.edition_proof n₁ l (tied-proves (omega arith) y.proves h);
}

-- and the check leaves the same, be the formula's file too long or not, and the output long enough or not.
same_left : (A B proof proof₁ output : List ℕ) (K : ℕ) (I : Formula) → Yields newest_edition A B proof K I → Yields newest_edition A B proof₁ K I → check A B proof₁ output ≡ check A B proof output
same_left A B proof proof₁ output K I y y₁ = yielded-left output A B proof₁ K I y₁ ∙ sym (yielded-left output A B proof K I y)

abbrev result_of : Written → WriteResult
result_of w = record { answer = w.answer; count = w.count }

-- Point 1.
pub rounding-promised : RoundingPromised
rounding-promised = record {
  tie = λ A B proof proof₁ output left left₁ r r₁ K I y n₁ es f l h d d₁.
      let same = d₁.is ∙ same_left A B proof proof₁ output K I y (tied-yields y n₁ f l h) ∙ sym d.is in
      (ap (λ (w : Written). result_of w) same, ap (λ (w : Written). w.output) same);
  levels = λ A B proof K I y. (omega (arith, closed-height y.proves.proof (omega arith), y.proves.opened), omega arith);
}
