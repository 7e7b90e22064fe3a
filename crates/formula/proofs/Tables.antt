-- The definitions give each answer of the table. By evaluation. Assumes nothing.
use mathlib.Core.Path.{◌≡◌, refl}
use Rattle.forms.specs.Forms.{All, nil, cons, coeff, sum, value}
use Rattle.answers.specs.Answers.{◌>>=◌, ◌>>◌, need, found, each}
use Rattle.number_bytes.specs.Numbers.{unsigned, complement, signed, signeds, flat, form_from}
use Rattle.fields.specs.Fields.{front, note, unless_note, fields_from, fields}
use Rattle.fields.specs.Header.{header_tag, known, agrees, header_field, edition_field, constants_field, header, finished}
use Rattle.formula.specs.Formula.{formula_tagged, compound, formula_size, formula_of, formula_field, two_parts, formula_within, read_formula}
use Rattle.formula.specs.Test.{holds, judge, tested, judged, test_formula}
use Rattle.formula.specs.Tables.{deep_or, testings}

pub tests : All (λ t. test_formula t.formula t.values ≡ t.gives) testings
unfolding deep_or coeff sum value ◌>>=◌ ◌>>◌ need found each unsigned complement signed signeds flat form_from front note unless_note fields_from fields header_tag known agrees header_field edition_field constants_field header finished formula_tagged compound formula_size formula_of formula_field two_parts formula_within read_formula holds judge tested judged test_formula
tests = cons refl (cons refl (cons refl (cons refl (cons refl (cons refl (cons refl (cons refl (cons refl (cons refl (cons refl (cons refl (cons refl (cons refl (cons refl (cons refl (cons refl (cons refl (cons refl (cons refl (cons refl (cons refl (cons refl (cons refl (cons refl (cons refl (cons refl (cons refl (cons refl nil))))))))))))))))))))))))))))
