-- The definitions give each case's answer and bytes. By evaluation. Assumes nothing.
use mathlib.Core.Path.{◌≡◌, refl}
use lib.ListN.{replicate}
use Rattle.integers.specs.Remainder.{remainder}
use Rattle.forms.specs.Reduced.{reduced}
use Rattle.forms.specs.Forms.{All, nil, cons, coeff, sum, value, sums, ◌⊞◌, ◌·◌, ◌plus◌, nonzero, small, every}
use Rattle.calculus.specs.Rules.{in_range}
use Rattle.answers.specs.Answers.{row_told, ◌>>=◌, ◌>>◌, need, found, over}
use Rattle.number_bytes.specs.Numbers.{unsigned, complement, signed, unsigned_bytes, residue, signed_bytes, signeds, signeds_bytes, flat, form_from, form_bytes}
use Rattle.number_bytes.specs.Same.{same_bytes}
use Rattle.fields.specs.Fields.{front, note, unless_note, fields_from, fields, field_bytes}
use Rattle.fields.specs.Header.{header_tag, known, agrees, header_field, edition_field, constants_field, header, finished, header_bytes}
use Rattle.bundle.specs.Bundle.{kind_tagged, at_most, form_small, constraints, bundle_header, bundle}
use Rattle.formula.specs.Formula.{encode, formula_file}
use Rattle.proof.specs.Entries.{entry_tagged, in_place, line_number, multiplier, size_of, entry_from, entry}
use Rattle.proof.specs.Rows.{is, plain_kind, owner, fails, equals, same_form, line_at, derived, fitting, undivided, inequality, roundable, disequality, by_number, by_stride, states}
use Rattle.proof.specs.Check.{check_rounded, check_split, check_row, check_entry, check_entries, check_branch, check_proof}
use Rattle.run.specs.Uniform.{with_number, same_items, walk_branches, first_and_third, all_alike, walk_opened, walk_closed, walk_row, walk_entry, walk_entries, walk_branch, uniform}
use Rattle.run.specs.Run.{parted, total, parts, stages_short, read_stages, constants_of, run_of, claim_refused, check_cut, both, check_cuts, check_run, guard_files, unwritten, fit_guards, written_guards, guards_by, guards}
use Rattle.run.specs.Tables.{table}

pub cases : All (λ c. guards c.buffer c.lengths c.proof (replicate c.output 0xAA) (replicate c.sizes 7) ≡ c.leaves) table
unfolding row_told coeff sum value sums ◌⊞◌ ◌·◌ ◌plus◌ remainder reduced nonzero small every in_range ◌>>=◌ ◌>>◌ need found over unsigned complement signed unsigned_bytes residue signed_bytes signeds signeds_bytes flat form_from form_bytes front note unless_note fields_from fields field_bytes header_tag known agrees header_field edition_field constants_field header finished header_bytes kind_tagged at_most form_small constraints bundle_header bundle encode formula_file entry_tagged in_place line_number multiplier size_of entry_from entry is plain_kind owner fails equals same_form line_at derived fitting undivided inequality roundable disequality by_number by_stride states check_rounded check_split check_row check_entry check_entries check_branch check_proof parted total parts stages_short read_stages constants_of run_of claim_refused check_cut both check_cuts check_run guard_files unwritten fit_guards written_guards guards_by guards with_number same_bytes same_items walk_branches first_and_third all_alike walk_opened walk_closed walk_row walk_entry walk_entries walk_branch uniform
cases = cons refl (cons refl (cons refl (cons refl (cons refl (cons refl (cons refl (cons refl (cons refl (cons refl (cons refl (cons refl (cons refl (cons refl (cons refl (cons refl (cons refl (cons refl (cons refl (cons refl (cons refl (cons refl (cons refl (cons refl (cons refl (cons refl (cons refl (cons refl (cons refl (cons refl (cons refl (cons refl (cons refl (cons refl (cons refl (cons refl (cons refl (cons refl (cons refl (cons refl (cons refl (cons refl (cons refl (cons refl (cons refl (cons refl (cons refl (cons refl (cons refl (cons refl (cons refl (cons refl (cons refl (cons refl (cons refl (cons refl (cons refl (cons refl (cons refl (cons refl (cons refl (cons refl (cons refl (cons refl (cons refl (cons refl (cons refl (cons refl (cons refl (cons refl (cons refl (cons refl (cons refl (cons refl (cons refl (cons refl (cons refl (cons refl (cons refl (cons refl (cons refl (cons refl (nil))))))))))))))))))))))))))))))))))))))))))))))))))))))))))))))))))))))))))))))))))
