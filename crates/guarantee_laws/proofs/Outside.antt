-- No answer of turning tells a row, step or branch. Assumes nothing.
use mathlib.Core.Path.{refl}
use mathlib.Core.Bool.{Bool, true, false}
use mathlib.Core.List.{List}
use mathlib.Core.Option.{Option, none}
use Prim.Native.Nat.{ℕ, suc}
use lib.Dec.{leb}
use lib.ListN.{length}
use Rattle.forms.specs.Edition.{Edition, edition, newest_edition}
use Rattle.answers.specs.Answers.{answer, file_a, file_proof, Result, refused, accepted, fit, written}
use Rattle.fields.specs.declared.FileKind.{FileKind}
use Rattle.fields.specs.Fields.{Field, Fields, ends, cut, ◌▸◌, Item, fields}
use Rattle.fields.specs.Header.{header_field, edition_field, constants_field, header}
use Rattle.bundle.specs.Bundle.{at_most, constraints, bundle_header, bundle}
use Rattle.proof.specs.Entries.{entry}
use Rattle.proof.specs.Tree.{Outside}
use Rattle.proof.proofs.Satisfies.{Satisfies, says-refused, says-accepted, bind, seq, says-need, test, finds, weaken}
use Rattle.conversion.specs.Turning.{asked, other_edition, each_field, result_within, makes_line, entries_read, bundle_turned, turn_bundle, proof_turned, turn_proof}

abbrev Tells : {X : Type 0} → Result X → Type 0
Tells r = Satisfies Outside r (λ _. Unit {0})

most-tells : (limit file : ℕ) (bytes : List ℕ) → Tells (at_most limit file bytes)
unfolding at_most
most-tells limit file bytes = weaken (says-need _ _ refl) (λ a h. h) (λ _ _. tt)

asked-tells : (to : ℕ) → Tells (asked to)
unfolding asked
asked-tells to = weaken (says-need _ _ refl) (λ a h. h) (λ _ _. tt)

module _ (kind : FileKind) (file : ℕ) where
  field-tells : (tag : ℕ) (fs : Fields) → Tells (header_field kind file tag fs)
  unfolding header_field
  field-tells tag (ends at) = says-refused refl
  field-tells tag (cut at) = says-refused refl
  field-tells tag (f ▸ fs) = test _ _ refl λ _. test _ _ refl λ _. test _ _ refl λ _. says-accepted tt

  other-tells : (to : ℕ) (fs : Fields) → Tells (other_edition kind file to fs)
  unfolding other_edition
  other-tells to fs = bind (field-tells 0x01 fs) λ x _. weaken (says-need _ _ refl) (λ a h. h) (λ _ _. tt)

  edition-tells : (newest : ℕ) (fs : Fields) → Tells (edition_field kind file newest fs)
  unfolding edition_field
  edition-tells newest fs = bind (field-tells 0x01 fs) λ x _. test _ _ refl λ _. says-accepted tt

  constants-tell : (given : Option ℕ) (fs : Fields) → Tells (constants_field kind file given fs)
  unfolding constants_field
  constants-tell given fs = bind (field-tells 0x02 fs) λ x _. test _ _ refl λ _. test _ _ refl λ _. says-accepted tt

  header-tells : (newest : ℕ) (given : Option ℕ) (fs : Fields) → Tells (header kind file newest given fs)
  unfolding header
  header-tells newest given fs = bind (edition-tells newest fs) λ x _. bind (constants-tell given x.1) λ y _. says-accepted tt

constraints-tell : (e : Edition) (K n : ℕ) (fs : Fields) → Tells (constraints file_a e K n fs)
unfolding constraints
constraints-tell e K n (ends at) = says-accepted tt
constraints-tell e K n (cut at) = says-refused refl
constraints-tell e K n (f ▸ fs) = test _ _ refl λ _. bind (finds _ _ refl) λ k _. test _ _ refl λ _. test _ _ refl λ _. test _ _ refl λ _. bind (constraints-tell e K (suc n) fs) λ cs _. says-accepted tt

bundle-tells : (file : List ℕ) → Tells (bundle newest_edition file_a none file)
unfolding bundle bundle_header
bundle-tells file = bind (bind (edition-tells FileKind.Bundle file_a newest_edition (fields file)) λ x _. seq (most-tells _ file_a file) (bind (constants-tell FileKind.Bundle file_a none x.1) λ y _. says-accepted {P = λ _. Unit {0}} tt)) λ h _.
    bind (constraints-tell (edition h.number) h.K 0 h.rest) λ cs _. says-accepted tt

each_tells : (number file : ℕ) (fits : Item → Bool) (fs : Fields) → Tells (each_field number file fits fs)
unfolding each_field
each_tells number file fits (ends at) = says-accepted tt
each_tells number file fits (cut at) = says-accepted tt
each_tells number file fits (f ▸ fs) = test _ _ refl λ _. each_tells number file fits fs

within-tells : (limit : ℕ) (bytes : List ℕ) → Tells (result_within limit bytes)
unfolding result_within
within-tells limit bytes = test _ _ refl λ _. says-accepted tt

entry-tells : (e : Edition) (K : ℕ) (made : Bool) (f : Field) → Tells (entry e K (λ n. answer n file_proof f.at) made f)
unfolding entry
entry-tells e K made f = test _ _ refl λ _. bind (finds _ _ refl) λ t _. test _ _ refl λ _. test _ _ refl λ _. says-accepted tt

entries-tell : (e : Edition) (K : ℕ) (made : Bool) (fs : Fields) → Tells (entries_read e K made fs)
unfolding entries_read
entries-tell e K made (ends at) = says-accepted tt
entries-tell e K made (cut at) = says-refused refl
entries-tell e K made (f ▸ fs) = bind (entry-tells e K made f) λ x _. entries-tell e K (makes_line x) fs

of-written : (r : Result (List ℕ)) (out : List ℕ) → Tells r → Outside (written r out).answer
unfolding written fit
of-written (refused a) out s = s.refusal a refl
of-written (accepted bytes) out s = of-fit (leb (length bytes) (length out))
  where
    of-fit : (fits : Bool) → Outside (fit out fits bytes).answer
    of-fit true = refl
    of-fit false = refl

pub bundle-outside : (to : ℕ) (file output : List ℕ) → Outside (turn_bundle to file output).answer
unfolding turn_bundle bundle_turned
bundle-outside to file output = of-written (bundle_turned to file) output
    (seq (asked-tells to) (seq (most-tells _ file_a file) (seq (other-tells FileKind.Bundle file_a to (fields file)) (bind (bundle-tells file) λ b _. seq (each_tells 13 file_a _ _) (within-tells _ _)))))

pub proof-outside : (to : ℕ) (file output : List ℕ) → Outside (turn_proof to file output).answer
unfolding turn_proof proof_turned
proof-outside to file output = of-written (proof_turned to file) output
    (seq (asked-tells to) (seq (most-tells _ file_proof file) (seq (other-tells FileKind.Proof file_proof to (fields file)) (bind (header-tells FileKind.Proof file_proof newest_edition none (fields file)) λ h _.
    seq (entries-tell (edition h.number) h.K false h.rest) (seq (each_tells 10 file_proof _ _) (within-tells _ _))))))
