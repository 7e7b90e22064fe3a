-- How many proofs of three rows there are, of the table's lines (`proof_counts` of enumeration/specs/Tables.antt). By evaluation. Assumes nothing.
use mathlib.Core.Path.{◌≡◌, refl}
use Rattle.integers.specs.Remainder.{remainder}
use Rattle.forms.specs.Reduced.{reduced}
use Rattle.forms.specs.Forms.{All, nil, cons, coeff, sum, value, sums, ◌⊞◌, ◌·◌, nonzero, small, every}
use Rattle.calculus.specs.Rules.{in_range}
use Rattle.answers.specs.Answers.{accepted, ◌>>=◌, ◌>>◌, need, found}
use Rattle.number_bytes.specs.Numbers.{unsigned, complement, signed, signeds, flat, form_from}
use Rattle.fields.specs.Fields.{front, note, unless_note, fields_from, fields}
use Rattle.fields.specs.Header.{header_tag, known, agrees, header_field, edition_field, constants_field}
use Rattle.bundle.specs.Bundle.{kind_tagged, at_most, form_small, constraints, bundle_header, bundle, bundles}
use Rattle.proof.specs.Rows.{is, plain_kind, fails, line_at, derived, fitting, by_number, by_stride}
use Rattle.enumeration.specs.Sequence.{concat_map, up_from, combines, reduces, scales, inferences, number_closes, stride_closes, close_rows, new_line, close_formula, if_accepted, proofs_of}
use Rattle.enumeration.specs.Tables.{proof_count, proof_counts}

pub three-rows-counted : All (λ c. proof_count 2 c.A c.B ≡ accepted c.three) proof_counts
unfolding coeff sum value sums ◌⊞◌ ◌·◌ remainder reduced nonzero small every in_range ◌>>=◌ ◌>>◌ need found unsigned complement signed signeds flat form_from front note unless_note fields_from fields header_tag known agrees header_field edition_field constants_field kind_tagged at_most form_small constraints bundle_header bundle bundles is plain_kind fails line_at derived fitting by_number by_stride concat_map up_from combines reduces scales inferences number_closes stride_closes close_rows new_line close_formula if_accepted proofs_of proof_count
three-rows-counted = cons refl (cons refl (cons refl (cons refl (cons refl (cons refl (cons refl (cons refl nil)))))))
