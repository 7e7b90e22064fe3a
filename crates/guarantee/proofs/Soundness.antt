-- Demand 3 holds of the check. Assumes nothing.
use mathlib.Core.Path.{◌≡◌, refl, sym, ◌∙◌, ap, ap₂, subst}
use mathlib.Core.Bool.{Bool, true, false}
use mathlib.Core.List.{List, []}
use mathlib.Core.Option.{none, some}
use Prim.Native.Nat.{ℕ, zero, suc, ◌+◌, ◌≤◌}
use native.Mathlib.Omega.{arith}
use lib.ListN.{take}
use lib.Seq.{take_at}
use Rattle.forms.specs.Edition.{Edition, edition1, newest_edition}
use Rattle.forms.specs.Forms.{All, Form, Line, Constraint, Formula}
use Rattle.calculus.specs.Rules.{Entry, Closed, derive, strengthen, round, split_eq, split_neq, number, stride, Rounded, last, more, inference, entries, entries_rounded}
use Rattle.answers.specs.Answers.{file_a, Result, refused, accepted, ◌>>◌, over, Written}
use Rattle.answers.specs.declared.WriteResult.{WriteResult}
use Rattle.number_bytes.specs.Numbers.{Bytes}
use Rattle.fields.specs.Fields.{Item, Framed, file_of, without_notes, fields, items}
use Rattle.fields.proofs.Framing.{items-file_of}
use Rattle.fields.proofs.WholeFiles.{whole-file}
use Rattle.bundle.specs.Bundle.{bundle}
use Rattle.bundle.specs.Layout.{StatesAll, BundleFile, bundle_limit}
use Rattle.bundle.proofs.Notes.{limit-most, kept-higher}
use Rattle.formula.specs.Formula.{formula_file}
use Rattle.proof.specs.Check.{check}
use Rattle.proof.specs.Layout.{Yields}
use Rattle.proof.specs.Editions.{limit_behind, lengths_fit, limit_a, limit_b}
use Rattle.proof.proofs.Agree.{yielded-interpolant}
use Rattle.proof.proofs.Sizes.{written-reads-back}
use Rattle.proof.specs.Promises.{Checks}
use Rattle.guarantee.specs.LaidOut.{WholeFields, LaidBundle, Placed, unclaimed, claimed, strengthen as strengthens, round as rounds, split as splits, number as numbers, stride as strides, PlacedTimes, none as nones, more as mores, LaidOut}
use Rattle.guarantee.specs.Acceptance.{Checkable}
use Rattle.guarantee.specs.NotedPlaces.{moved_answer, check_places}
use Rattle.guarantee.specs.Testing.{FormulaFile}
use Rattle.guarantee.specs.Soundness.{Meaning, Faithful, Delivered, NotesPassedOver, Soundness}
use Rattle.guarantee.proofs.FormulaFiles.{read-gives}
use Rattle.guarantee.proofs.NotedPlaces.{start-moved}
use Rattle.guarantee.proofs.NotedAnswers.{check-moved}
use Rattle.guarantee.proofs.Acceptance.{of-editions, is-checkable, leaves, acceptance-holds}

-- ---- what a writer stated is what the check read
some_is : {X : Type 0} {x y : X} → some x ≡ some y → x ≡ y
some_is e = cc

pub meaning-is : (F : List Item) → All Framed F → (M : Meaning) → Faithful M → (n K : ℕ) (cs : List Constraint) → BundleFile newest_edition (file_of F) n K cs → M F ≡ (K, cs)
meaning-is F framed M faithful n K cs b =
    let e : without_notes F ≡ b.list = some_is (sym (items-file_of F framed) ∙ b.whole) in
    faithful n (of-editions n b.first b.last) F K cs (subst (λ (l : List Item). StatesAll n l K cs) (sym e) b.laid)

module _ (F : List Item) (framed : All Framed F) (M : Meaning) (faithful : Faithful M) {n : ℕ} (K : ℕ) (cs : List Constraint) (b : BundleFile newest_edition (file_of F) n K cs) where
  stated-K : (M F).0 ≡ K
  stated-K = ap (λ (m : ℕ × List Constraint). m.0) (meaning-is F framed M faithful n K cs b)

  stated : (M F).1 ≡ cs
  stated = ap (λ (m : ℕ × List Constraint). m.1) (meaning-is F framed M faithful n K cs b)

-- ---- a closed proof's entries are one closed table
mutual
  closed-placed : {e : Edition} {in_b : ℕ → Bool} {ls : List Line} {I : Formula} (p : Closed e in_b ls I) (rest : List Entry) → Placed (entries p rest) rest
  closed-placed (derive true n _ p) rest = claimed (inference n) _ _ (closed-placed p rest)
  closed-placed (derive false n _ p) rest = unclaimed (inference n) (closed-placed p rest)
  closed-placed (strengthen i _ _ p1 pE p0) rest = strengthens i (closed-placed p1 _) (closed-placed pE _) (closed-placed p0 rest)
  closed-placed (round i g k _ p ps) rest = rounds i g k (closed-placed p _) (rounded-placed ps rest k (omega arith))
  closed-placed (split_eq i _ _ _ p q) rest = splits i (closed-placed p _) (closed-placed q rest)
  closed-placed (split_neq i _ _ _ p q) rest = splits i (closed-placed p _) (closed-placed q rest)
  closed-placed (number i _ _ _) rest = numbers i
  closed-placed (stride i g _ _ _ _ _) rest = strides i g

  -- the branches of a rounding from j to k-1 are k-j
  rounded-placed : {e : Edition} {in_b : ℕ → Bool} {ls : List Line} {t t_A : Form} {g k j : ℕ} {I : Formula} (p : Rounded e in_b ls t t_A g k j I) (rest : List Entry)
      → (n : ℕ) → n + j ≡ k → PlacedTimes n (entries_rounded p rest) rest
  rounded-placed (last b _ p) rest zero e = absurd (omega arith)
  rounded-placed (last b _ p) rest (suc zero) e = mores (closed-placed p rest) nones
  rounded-placed (last b _ p) rest (suc (suc n)) e = absurd (omega arith)
  rounded-placed (more b _ p ps) rest zero e = absurd (omega arith)
  rounded-placed (more b _ p ps) rest (suc n) e = mores (closed-placed p _) (rounded-placed ps rest n (omega arith))

laid-bundle : {file : List ℕ} {n K : ℕ} {cs : List Constraint} → BundleFile newest_edition file n K cs → LaidBundle file K
laid-bundle {n = n} {cs = cs} b = record { n = n; one_or_two = of-editions n b.first b.last; constraints = cs; list = b.list; whole = b.whole; laid = b.laid }

laid_out : {A B proof : List ℕ} {K : ℕ} {I : Formula} → Yields newest_edition A B proof K I → LaidOut A B proof
laid_out {K = K} y = record {
  K = K;
  of_a = laid-bundle y.file_a;
  of_b = laid-bundle y.file_b;
  of_proof = record {
    n = y.edition_proof;
    one_or_two = of-editions y.edition_proof y.file_proof.first y.file_proof.last;
    entries = y.es;
    body = y.file_proof.body;
    whole = y.file_proof.whole;
    low = y.file_proof.low;
    high = y.file_proof.high;
    enters = y.file_proof.enters;
    placed = subst (λ (es : List Entry). Placed es []) y.proves.are (closed-placed y.proves.proof []);
  };
}

pub lists : {file : List ℕ} {is : List Item} → Bytes file → items (fields file) ≡ some is → WholeFields file
lists {file} {is} k e = let o = whole-file file k is e in record { list = o.list; framed = o.framed; are = o.are }

-- ---- what is delivered
module _ (FA FB : List Item) (framedA : All Framed FA) (framedB : All Framed FB) (MA MB : Meaning) (faithfulA : Faithful MA) (faithfulB : Faithful MB)
    (proof output left : List ℕ) (r : WriteResult) (c : Checks (file_of FA) (file_of FB) proof output left r) (a : Checkable (file_of FA) (file_of FB) proof output) where
  abbrev file : List ℕ
  file = formula_file edition1 a.K a.formula

  front-is : take r.count left ≡ file
  unfolding over
  front-is = ap₂ (λ (n : ℕ) (bs : List ℕ). take n bs) (leaves c a).count_is (leaves c a).left_is ∙ take_at file _ _ refl

  pub delivered : Delivered FA FB MA MB proof output left r
  delivered = record {
    K = a.K;
    formula = a.formula;
    certified = a.certified;
    K_of_A = stated-K FA framedA MA faithfulA a.K _ a.certified.yields.file_a;
    K_of_B = stated-K FB framedB MB faithfulB a.K _ a.certified.yields.file_b;
    fits = a.fits;
    count = (leaves c a).count_is;
    bytes = (leaves c a).left_is;
    upto = subst (λ (n : ℕ). n ≤ edition1.formula_bytes) (sym (leaves c a).count_is) a.certified.short;
    states = λ bytes. subst (λ (bs : List ℕ). FormulaFile a.K bs a.formula) (sym front-is)
        ((read-gives a.K file).gives a.formula (written-reads-back (file_of FA) (file_of FB) proof bytes a.certified).0);
    interpolant = rw (stated FA framedA MA faithfulA a.K _ a.certified.yields.file_a, stated FB framedB MB faithfulB a.K _ a.certified.yields.file_b) (yielded-interpolant a.certified.yields);
  }

-- ---- notes
-- the length by the file alone is no more than that behind what was read before
behind-least : {X : Type 0} (r : Result X) (file : List ℕ) → bundle_limit file ≤ limit_behind r file
unfolding limit_behind
behind-least (refused a) file = limit-most file
behind-least (accepted x) file = omega arith

limit-A-least : (A B proof : List ℕ) → bundle_limit A ≤ limit_a A B proof
unfolding limit_a
limit-A-least A B proof = behind-least (lengths_fit A B proof) A

limit-B-least : (A B proof : List ℕ) → bundle_limit B ≤ limit_b A B proof
unfolding limit_b
limit-B-least A B proof = behind-least (lengths_fit A B proof >> bundle newest_edition file_a none A) B

notes : NotesPassedOver limit_a limit_b
notes A A' B B' proof proof' output left left' r r' n_A n_B nP kA kB kP c c' =
    let m = check-moved n_A n_B nP kA kB kP output in
    let answered : r'.answer ≡ moved_answer (check_places n_A n_B nP) (check A B proof output).answer = ap (λ (w : Written). w.answer) c'.is ∙ m.answer in (
      answered ∙ sym (ap (λ (w : Written). moved_answer (check_places n_A n_B nP) w.answer) c.is),
      ap (λ (w : Written). w.count) c'.is ∙ m.count ∙ sym (ap (λ (w : Written). w.count) c.is),
      ap (λ (w : Written). w.output) c'.is ∙ m.output ∙ sym (ap (λ (w : Written). w.output) c.is),
    )

notes_plain : NotesPassedOver (λ A B proof. bundle_limit A) (λ A B proof. bundle_limit B)
notes_plain A A' B B' proof proof' output left left' r r' n_A n_B nP kA kB =
    notes A A' B B' proof proof' output left left' r r' n_A n_B nP (kept-higher (limit-A-least A B proof) kA) (kept-higher (limit-B-least A B proof) kB)

-- Demand 3.
pub soundness : Soundness
soundness = record {
  interpolates = λ FA FB framedA framedB MA MB faithfulA faithfulB proof output left r c h.
      delivered FA FB framedA framedB MA MB faithfulA faithfulB proof output left r c (is-checkable c h);
  listed = λ A B proof output left r bytesA bytesB c h. let x = (is-checkable c h).certified.yields in (lists bytesA x.file_a.whole, lists bytesB x.file_b.whole);
  listed_read = λ file kinds numbers kinds' numbers' r bytes c h. lists bytes ((acceptance-holds.read_iff file kinds numbers kinds' numbers' r c).0 h).states.whole;
  notes = notes;
  notes_plain = notes_plain;
  notes_places = λ F F' n i p e. start-moved n i p e;
  laid_out = λ A B proof output left r c h. laid_out (is-checkable c h).certified.yields;
  refuses = λ A B proof output left r c none h. none (laid_out (is-checkable c h).certified.yields);
}
