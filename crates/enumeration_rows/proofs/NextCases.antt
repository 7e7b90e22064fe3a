-- What the call for the next proof answers and leaves in directed cases. By evaluation. Assumes nothing.
use mathlib.Core.Path.{◌≡◌, refl}
use Rattle.integers.specs.Remainder.{remainder}
use Rattle.forms.specs.Reduced.{reduced}
use Rattle.forms.specs.Forms.{All, nil, cons, coeff, sum, value, sums, ◌⊞◌, ◌·◌, nonzero, small, every}
use Rattle.calculus.specs.Rules.{in_range}
use Rattle.answers.specs.Answers.{◌>>=◌, ◌>>◌, need, found, over, fit, written}
use Rattle.number_bytes.specs.Numbers.{unsigned, complement, signed, unsigned_bytes, residue, signed_bytes, signeds, flat, form_from}
use Rattle.number_bytes.specs.Same.{same_bytes}
use Rattle.fields.specs.Fields.{front, note, unless_note, fields_from, fields, field_bytes, file_of}
use Rattle.fields.specs.Header.{header_tag, known, agrees, header_field, edition_field, constants_field}
use Rattle.bundle.specs.Bundle.{kind_tagged, at_most, form_small, constraints, bundle_header, bundle, bundles, both_read}
use Rattle.proof.specs.Rows.{is, plain_kind, fails, line_at, derived, fitting, by_number, by_stride}
use Rattle.enumeration.specs.ShortProofs.{row_item, proof_file}
use Rattle.enumeration.specs.Sequence.{concat_map, up_from, combines, reduces, scales, inferences, number_closes, stride_closes, close_rows, new_line, close_formula, if_accepted, proofs_of, short_proofs_of, short_proofs}
use Rattle.enumeration.specs.Next.{first_rows, following, next_rows, next_file, next_proof}
use Rattle.enumeration.specs.Tables.{cases}

pub cases-hold : All (λ c. next_proof c.A c.B c.given c.output ≡ c.leaves) cases
unfolding coeff sum value sums ◌⊞◌ ◌·◌ remainder reduced nonzero small every in_range ◌>>=◌ ◌>>◌ need found over fit written unsigned complement signed unsigned_bytes residue signed_bytes signeds flat form_from front note unless_note fields_from fields field_bytes file_of header_tag known agrees header_field edition_field constants_field kind_tagged at_most form_small constraints bundle_header bundle bundles is plain_kind fails line_at derived fitting by_number by_stride concat_map up_from combines reduces scales inferences number_closes stride_closes close_rows new_line close_formula if_accepted proofs_of short_proofs_of both_read short_proofs row_item proof_file same_bytes first_rows following next_rows next_file next_proof
cases-hold = cons refl (cons refl (cons refl (cons refl (cons refl (cons refl (cons refl (cons refl (cons refl (cons refl (cons refl (cons refl (cons refl (cons refl (cons refl (cons refl (cons refl (cons refl (cons refl (cons refl (cons refl (cons refl (cons refl (cons refl (cons refl (cons refl (cons refl (cons refl (cons refl (cons refl (nil))))))))))))))))))))))))))))))
