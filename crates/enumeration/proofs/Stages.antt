-- The sequence evaluated on worked stages. By evaluation. Assumes nothing.
use mathlib.Core.Path.{◌≡◌, refl}
use mathlib.Core.List.{List, [], ◌∷◌, ◌++◌}
use Prim.Native.Nat.{ℕ}
use lib.IntN.{pos, negsuc}
use Rattle.integers.specs.Remainder.{remainder}
use Rattle.forms.specs.Edition.{newest_edition}
use Rattle.forms.specs.Reduced.{reduced}
use Rattle.forms.specs.Forms.{All, nil, cons, lines, coeff, sum, value, sums, ◌⊞◌, ◌·◌, nonzero, small, every}
use Rattle.calculus.specs.Rules.{in_range, Reduce, Row, Derive, CloseStride}
use Rattle.answers.specs.Answers.{Result, accepted, ◌>>=◌, ◌>>◌, need, found}
use Rattle.number_bytes.specs.Numbers.{unsigned, complement, signed, signeds, flat, form_from}
use Rattle.fields.specs.Fields.{front, note, unless_note, fields_from, fields}
use Rattle.fields.specs.Header.{header_tag, known, agrees, header_field, edition_field, constants_field}
use Rattle.bundle.specs.Bundle.{kind_tagged, at_most, form_small, constraints, bundle_header, bundle, bundles}
use Rattle.proof.specs.Rows.{is, plain_kind, fails, line_at, derived, fitting, by_number, by_stride}
use Rattle.proof.specs.Stages.{K3, A1, B1}
use Rattle.enumeration.specs.Sequence.{concat_map, up_from, combines, reduces, scales, inferences, number_closes, stride_closes, close_rows, new_line, close_formula, if_accepted, proofs_of}
use Rattle.enumeration.specs.Tables.{proof_count, proof_counts}

unfoldable pub listed : (k : ℕ) (A B : List ℕ) → Result (List (List Row))
listed k A B = do
  (a, b) ← bundles newest_edition A B
  accepted (proofs_of k (lines a.constraints b.constraints))

-- stage 1: no proof of one row, four of two
pub stage-1-one : listed 0 (K3 ++ A1) (K3 ++ B1) ≡ accepted []
unfolding coeff sum value sums ◌⊞◌ ◌·◌ remainder reduced nonzero small every in_range ◌>>=◌ ◌>>◌ need found unsigned complement signed signeds flat form_from front note unless_note fields_from fields header_tag known agrees header_field edition_field constants_field kind_tagged at_most form_small constraints bundle_header bundle bundles is plain_kind fails line_at derived fitting by_number by_stride concat_map up_from combines reduces scales inferences number_closes stride_closes close_rows new_line close_formula if_accepted proofs_of listed
stage-1-one = refl

pub stage-1-two : listed 1 (K3 ++ A1) (K3 ++ B1) ≡ accepted
    ((Derive (Reduce 0 1 (pos 1)) ∷ CloseStride 2 2 ∷ []) ∷ (Derive (Reduce 0 1 (negsuc 0)) ∷ CloseStride 2 2 ∷ []) ∷ (Derive (Reduce 1 0 (pos 1)) ∷ CloseStride 2 2 ∷ []) ∷ (Derive (Reduce 1 0 (negsuc 0)) ∷ CloseStride 2 2 ∷ []) ∷ [])
unfolding coeff sum value sums ◌⊞◌ ◌·◌ remainder reduced nonzero small every in_range ◌>>=◌ ◌>>◌ need found unsigned complement signed signeds flat form_from front note unless_note fields_from fields header_tag known agrees header_field edition_field constants_field kind_tagged at_most form_small constraints bundle_header bundle bundles is plain_kind fails line_at derived fitting by_number by_stride concat_map up_from combines reduces scales inferences number_closes stride_closes close_rows new_line close_formula if_accepted proofs_of listed
stage-1-two = refl

-- the table's numbers of proofs of one row and of two; those of three rows are `three-rows-counted` of enumeration_rows, since every
-- edit of this crate would pay for their evaluation
pub proofs-counted : All (λ c. (proof_count 0 c.A c.B ≡ accepted c.one) × (proof_count 1 c.A c.B ≡ accepted c.two)) proof_counts
unfolding coeff sum value sums ◌⊞◌ ◌·◌ remainder reduced nonzero small every in_range ◌>>=◌ ◌>>◌ need found unsigned complement signed signeds flat form_from front note unless_note fields_from fields header_tag known agrees header_field edition_field constants_field kind_tagged at_most form_small constraints bundle_header bundle bundles is plain_kind fails line_at derived fitting by_number by_stride concat_map up_from combines reduces scales inferences number_closes stride_closes close_rows new_line close_formula if_accepted proofs_of proof_count
proofs-counted = cons (refl, refl) (cons (refl, refl) (cons (refl, refl) (cons (refl, refl) (cons (refl, refl) (cons (refl, refl) (cons (refl, refl) (cons (refl, refl) nil)))))))
