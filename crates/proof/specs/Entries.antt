-- How a proof file states its rows and claims. docs/FORMAT.md, "Proof" and "Bytes and fields". Assumes nothing.
use Rattle.std.proofs.Math.Option.{Option, none, some}
use Rattle.std.specs.Prelude.{Bool, true, false, List, ◌++◌, map, ℕ, ◌+◌, ◌*◌, eqb, length, take, drop}
use Rattle.forms.specs.Edition.{Edition}
use Rattle.calculus.specs.Rules.{Combine, Reduce, Scale, Derive, Strengthen, CloseNumber, CloseStride, Round, Split, Entry, row, claim}
use Rattle.answers.specs.declared.Answer.{Answer}
use Rattle.answers.specs.Answers.{Result, accepted, ◌>>=◌, ◌>>◌, need, found}
use Rattle.number_bytes.specs.Numbers.{unsigned, unsigneds, unsigneds_bytes, signed, form_from, form_width}
use Rattle.fields.specs.declared.FileKind.{FileKind}
use Rattle.fields.specs.Fields.{Field}
use Rattle.fields.specs.Header.{known}

-- 0x10 to 0x17 and 0x20.
pub data EntryTag : Type 0 where
  combine_tag reduce_tag scale_tag strengthen_tag number_tag stride_tag round_tag split_tag claim_tag : EntryTag

unfoldable pub entry_tagged : ℕ → Option EntryTag
entry_tagged tag =
    elim (eqb tag 0x10) [
      | true ↦ some combine_tag
      | false ↦
          elim (eqb tag 0x11) [
            | true ↦ some reduce_tag
            | false ↦
                elim (eqb tag 0x12) [
                  | true ↦ some scale_tag
                  | false ↦
                      elim (eqb tag 0x13) [
                        | true ↦ some strengthen_tag
                        | false ↦
                            elim (eqb tag 0x14) [
                              | true ↦ some number_tag
                              | false ↦
                                  elim (eqb tag 0x15) [
                                    | true ↦ some stride_tag
                                    | false ↦
                                        elim (eqb tag 0x16) [
                                          | true ↦ some round_tag
                                          | false ↦
                                              elim (eqb tag 0x17) [
                                                | true ↦ some split_tag
                                                | false ↦
                                                    elim (eqb tag 0x20) [ true ↦ some claim_tag | false ↦ none ]
                                              ]
                                        ]
                                  ]
                            ]
                      ]
                ]
          ]
    ]

-- What stands in the contents of a tag, in this order: so many line numbers, so many multipliers (or g, or k), so many forms.
pub record Shape : Type 0 where
  pub line_numbers : ℕ
  pub multipliers : ℕ
  pub forms : ℕ

abbrev pub shape : EntryTag → Shape
shape combine_tag = record { line_numbers = 2; multipliers = 2; forms = 0 }
shape reduce_tag = record { line_numbers = 2; multipliers = 1; forms = 0 }
shape scale_tag = record { line_numbers = 1; multipliers = 1; forms = 0 }
shape strengthen_tag = record { line_numbers = 1; multipliers = 0; forms = 0 }
shape number_tag = record { line_numbers = 1; multipliers = 0; forms = 0 }
shape stride_tag = record { line_numbers = 1; multipliers = 1; forms = 0 }
shape round_tag = record { line_numbers = 1; multipliers = 2; forms = 0 }
shape split_tag = record { line_numbers = 1; multipliers = 0; forms = 0 }
shape claim_tag = record { line_numbers = 0; multipliers = 0; forms = 2 }

-- How many line numbers a field of a proof begins with; none where it is no entry.
abbrev pub line_count : Option EntryTag → ℕ
line_count none = 0
line_count (some x) = (shape x).line_numbers

-- The n line numbers that contents begin with, w bytes each, written anew: each by way of `number` and in w' bytes. The bytes behind them stay.
unfoldable pub renumbered : (w w' : ℕ) (number : ℕ → ℕ) (n : ℕ) → List ℕ → List ℕ
renumbered w w' number n bs = unsigneds_bytes w' (map number (unsigneds w n bs)) ++ drop (n * w) bs

-- A claim stands directly after a row 0x10 to 0x12 only; `made` says whether what stands directly before it, notes aside, is one of these.
unfoldable pub in_place : (made : Bool) → EntryTag → Bool
in_place made combine_tag = true
in_place made reduce_tag = true
in_place made scale_tag = true
in_place made strengthen_tag = true
in_place made number_tag = true
in_place made stride_tag = true
in_place made round_tag = true
in_place made split_tag = true
in_place made claim_tag = made

module _ (e : Edition) where
  -- Line number i of a row, and the bytes of its multiplier i (or g, or k) behind n line numbers. (Line numbers have one byte in edition 1, two in edition 2.)
  unfoldable pub line_number : (i : ℕ) → List ℕ → ℕ
  line_number i bs = unsigned (take e.line_width (drop (i * e.line_width) bs))

  unfoldable pub multiplier : (n i : ℕ) → List ℕ → List ℕ
  multiplier n i bs = take e.multiplier_width (drop (n * e.line_width + i * e.multiplier_width) bs)

  module _ (K : ℕ) where
    unfoldable pub size_of : EntryTag → ℕ
    size_of x = (shape x).line_numbers * e.line_width + (shape x).multipliers * e.multiplier_width + (shape x).forms * form_width e.term_width K

    -- Parameters in the order given; multipliers are signed only in 0x11. A claim is t then tA.
    unfoldable pub entry_from : EntryTag → List ℕ → Entry
    entry_from combine_tag bs = row (Derive (Combine (line_number 0 bs) (line_number 1 bs) (unsigned (multiplier 2 0 bs)) (unsigned (multiplier 2 1 bs))))
    entry_from reduce_tag bs = row (Derive (Reduce (line_number 0 bs) (line_number 1 bs) (signed (multiplier 2 0 bs))))
    entry_from scale_tag bs = row (Derive (Scale (line_number 0 bs) (unsigned (multiplier 1 0 bs))))
    entry_from strengthen_tag bs = row (Strengthen (line_number 0 bs))
    entry_from number_tag bs = row (CloseNumber (line_number 0 bs))
    entry_from stride_tag bs = row (CloseStride (line_number 0 bs) (unsigned (multiplier 1 0 bs)))
    entry_from round_tag bs = row (Round (line_number 0 bs) (unsigned (multiplier 1 0 bs)) (unsigned (multiplier 1 1 bs)))
    entry_from split_tag bs = row (Split (line_number 0 bs))
    entry_from claim_tag bs = claim (form_from e.term_width K bs) (form_from e.term_width K (drop (form_width e.term_width K) bs))

    -- The entry that a field states; `refusal` gives the refusal by a number at this field. 3, 4, 6.
    unfoldable pub entry : (refusal : ℕ → Answer) (made : Bool) → Field → Result Entry
    entry refusal made f = do
      need (refusal 3) (known FileKind.Proof f.tag)
      tagged ← found (refusal 4) (entry_tagged f.tag)
      need (refusal 4) (in_place made tagged)
      need (refusal 6) (eqb (length f.contents) (size_of tagged))
      accepted (entry_from tagged f.contents)
