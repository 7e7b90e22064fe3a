-- The definitions give each answer of the tables. By evaluation. Assumes nothing.
use mathlib.Core.Path.{◌≡◌, refl}
use lib.ListN.{replicate}
use Rattle.forms.specs.Forms.{All, nil, cons, small, every}
use Rattle.answers.specs.Answers.{◌>>=◌, ◌>>◌, need, found, over, fit, written}
use Rattle.number_bytes.specs.Numbers.{unsigned, complement, signed, unsigned_bytes, unsigneds, unsigneds_bytes, residue, signed_bytes, signeds, signeds_bytes, flat, form_from, form_bytes}
use Rattle.fields.specs.Fields.{front, note, unless_note, fields_from, fields, field_bytes}
use Rattle.fields.specs.Header.{header_tag, known, agrees, header_field, edition_field, constants_field, header, header_bytes}
use Rattle.bundle.specs.Bundle.{kind_tagged, at_most, form_small, constraints, bundle_header, bundle}
use Rattle.bundle.specs.Write.{constraints_bytes, holdable}
use Rattle.bundle.specs.Read.{kind_number, kinds_of, numbers_of}
use Rattle.proof.specs.Entries.{entry_tagged, in_place, line_number, multiplier, size_of, renumbered, entry_from, entry}
use Rattle.conversion.specs.Turning.{asked, other_edition, each_field, fields_turned, result_within, behind_header, numbers_fit, bundle_turned, turn_bundle, lines_fit, lines_turned, makes_line, entries_read, proof_turned, turn_proof}
use Rattle.conversion.specs.Tables.{bundles, proofs}

pub bundles-turned : All (λ t. turn_bundle t.to t.file (replicate t.lent 0xAA) ≡ t.leaves) bundles
unfolding small every ◌>>=◌ ◌>>◌ need found over fit written unsigned complement signed unsigned_bytes residue signed_bytes signeds signeds_bytes flat form_from form_bytes front note unless_note fields_from fields field_bytes header_tag known agrees header_field edition_field constants_field header_bytes kind_tagged at_most form_small constraints bundle_header bundle kind_number kinds_of numbers_of constraints_bytes holdable asked other_edition each_field result_within behind_header numbers_fit bundle_turned turn_bundle
bundles-turned = cons refl (cons refl (cons refl (cons refl (cons refl (cons refl (cons refl (cons refl (cons refl (cons refl (cons refl (cons refl (cons refl (cons refl (cons refl (cons refl (cons refl (cons refl (cons refl (cons refl (cons refl (cons refl (cons refl (cons refl (cons refl (cons refl (cons refl (cons refl (cons refl (cons refl (cons refl (cons refl (cons refl (cons refl nil)))))))))))))))))))))))))))))))))

pub proofs-turned : All (λ t. turn_proof t.to t.file (replicate t.lent 0xAA) ≡ t.leaves) proofs
unfolding small every ◌>>=◌ ◌>>◌ need found over fit written unsigned complement signed unsigned_bytes residue signed_bytes signeds signeds_bytes flat form_from form_bytes front note unless_note fields_from fields field_bytes header_tag known agrees header_field edition_field constants_field header header_bytes at_most entry_tagged in_place line_number multiplier size_of entry_from entry asked other_edition each_field fields_turned result_within unsigneds unsigneds_bytes renumbered lines_fit lines_turned makes_line entries_read proof_turned turn_proof
proofs-turned = cons refl (cons refl (cons refl (cons refl (cons refl (cons refl (cons refl (cons refl (cons refl (cons refl (cons refl (cons refl (cons refl (cons refl (cons refl (cons refl (cons refl (cons refl (cons refl (cons refl (cons refl (cons refl (cons refl (cons refl (cons refl (cons refl (cons refl (cons refl (cons refl (cons refl (cons refl (cons refl (cons refl (cons refl (cons refl (cons refl (cons refl (cons refl (cons refl (cons refl (cons refl (cons refl (cons refl (cons refl (cons refl (cons refl (cons refl (cons refl nil)))))))))))))))))))))))))))))))))))))))))))))))
