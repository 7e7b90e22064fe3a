-- The definitions give each step's outcome of the directed sequences. By evaluation. Assumes nothing.
use mathlib.Core.Path.{◌≡◌, refl}
use Rattle.integers.specs.Remainder.{remainder}
use Rattle.forms.specs.Reduced.{reduced}
use Rattle.forms.specs.Forms.{All, nil, cons, coeff, sum, value, sums, ◌⊞◌, ◌·◌, ◌plus◌, nonzero, small, every}
use Rattle.calculus.specs.Rules.{in_range}
use Rattle.answers.specs.Answers.{row_told, ◌>>=◌, ◌>>◌, need, found, over, fit, written}
use Rattle.number_bytes.specs.Numbers.{unsigned, complement, signed, unsigned_bytes, residue, signed_bytes, signeds, signeds_bytes, flat, form_from, form_bytes}
use Rattle.fields.specs.Fields.{front, note, unless_note, fields_from, fields, field_bytes}
use Rattle.fields.specs.Header.{header_tag, known, agrees, header_field, edition_field, constants_field, header, finished, header_bytes}
use Rattle.bundle.specs.Bundle.{kind_tagged, at_most, form_small, constraints, bundle_header, bundle, bundles}
use Rattle.formula.specs.Formula.{encode, formula_file}
use Rattle.proof.specs.Entries.{entry_tagged, in_place, line_number, multiplier, size_of, entry_from, entry}
use Rattle.proof.specs.Rows.{is, plain_kind, owner, fails, equals, same_form, line_at, derived, fitting, undivided, inequality, roundable, disequality, by_number, by_stride, states}
use Rattle.proof.specs.Check.{check_rounded, check_split, formula_at_most, check_row, check_entry, check_entries, check_branch, check_proof, interpolant, check_by, check}
use Rattle.scheduler.specs.Scheduler.{empty, is_waiting, submission, cancellation, next_from, next_seat, check_job, turn_at, turn}
use Rattle.scheduler.specs.Promises.{changed}
use Rattle.scheduler.specs.Table.{played, table}

pub sequences : All (λ s. played empty s.moves ≡ s.tells) table
unfolding row_told coeff sum value sums ◌⊞◌ ◌·◌ ◌plus◌ remainder reduced nonzero small every in_range ◌>>=◌ ◌>>◌ need found over fit written unsigned complement signed unsigned_bytes residue signed_bytes signeds signeds_bytes flat form_from form_bytes front note unless_note fields_from fields field_bytes header_tag known agrees header_field edition_field constants_field header finished header_bytes kind_tagged at_most form_small constraints bundle_header bundle bundles encode formula_file entry_tagged in_place line_number multiplier size_of entry_from entry is plain_kind owner fails equals same_form line_at derived fitting undivided inequality roundable disequality by_number by_stride states check_rounded check_split formula_at_most check_row check_entry check_entries check_branch check_proof interpolant check_by check is_waiting submission cancellation next_from next_seat check_job turn_at turn changed
sequences = cons refl (cons refl (cons refl (cons refl (cons refl (cons refl (cons refl (cons refl (cons refl (cons refl (cons refl (cons refl (cons refl (cons refl (cons refl (cons refl (cons refl (cons refl (nil))))))))))))))))))
