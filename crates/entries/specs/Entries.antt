-- What the code answers of a field, as the entry that the definitions give. Assumes nothing.
use Rattle.std.specs.Prelude.{◌≡◌, Bool, true, List, ℕ, ◌*◌, ◌≤◌, length, drop, Ok, Err, IfOk}
use Rattle.std.specs.declared.result.Result as code
use Rattle.integers.specs.Magnitude.{Within}
use Rattle.forms.specs.Edition.{edition, edition1, multiplier_range}
use Rattle.calculus.specs.Rules as rules
use Rattle.answers.specs.Answers.{Result, refused, accepted}
use Rattle.answers.specs.Refusals.{number_of}
use Rattle.answers.specs.declared.Answer.{Answer}
use Rattle.answers.specs.declared.refusals.Refusal.{Refusal}
use Rattle.number_bytes.specs.Numbers.{form_from, form_width}
use Rattle.proof.specs.Entries.{entry}
use Rattle.entries.specs.declared.Entry.{Entry}
use Rattle.entries.specs.declared.Entry.TheVariants.{Combine, Reduce, Scale, Strengthen, CloseNumber, CloseStride, Round, Split, Claim}

-- The entry that an answer stands for, of a field with these contents.
abbrev pub stated : (K : ℕ) → List ℕ → Entry → rules.Entry
stated K bs (Combine s t α β) = rules.row (rules.Derive (rules.Combine s.0 t.0 α β))
stated K bs (Reduce s t α) = rules.row (rules.Derive (rules.Reduce s.0 t.0 α))
stated K bs (Scale t α) = rules.row (rules.Derive (rules.Scale t.0 α))
stated K bs (Strengthen t) = rules.row (rules.Strengthen t.0)
stated K bs (CloseNumber t) = rules.row (rules.CloseNumber t.0)
stated K bs (CloseStride t g) = rules.row (rules.CloseStride t.0 g)
stated K bs (Round t g by) = rules.row (rules.Round t.0 g by)
stated K bs (Split t) = rules.row (rules.Split t.0)
stated K bs Claim = rules.claim (form_from edition1.term_width K bs) (form_from edition1.term_width K (drop (form_width edition1.term_width K) bs))

-- The same of a result; `refusal` gives the refusal by a number at this field.
abbrev pub entry_for : (refusal : ℕ → Answer) (K : ℕ) → List ℕ → code.Result Entry Refusal → Result rules.Entry
entry_for refusal K bs (Ok x) = accepted (stated K bs x)
entry_for refusal K bs (Err r) = refused (refusal (number_of r))

-- A signed multiplier is as the width of its field keeps it; a claim stands behind a row that made a line, and its contents have their length.
abbrev pub Ranged : (K len : ℕ) (made : Bool) → Entry → Type 0
Ranged K len made (Combine s t α β) = Unit {0}
Ranged K len made (Reduce s t α) = Within multiplier_range α
Ranged K len made (Scale t α) = Unit {0}
Ranged K len made (Strengthen t) = Unit {0}
Ranged K len made (CloseNumber t) = Unit {0}
Ranged K len made (CloseStride t g) = Unit {0}
Ranged K len made (Round t g by) = Unit {0}
Ranged K len made (Split t) = Unit {0}
Ranged K len made Claim = (made ≡ true) × (len ≡ 2 * form_width edition1.term_width K)

-- The answer for a field of a proof of edition n: 3, 4, 6, or the entry, whose contents have as many bytes as a line number at least.
pub record Entered (n K : ℕ) (bs : List ℕ) (tag : ℕ) (made : Bool) (r : code.Result Entry Refusal) : Type 0 where
  pub is : (refusal : ℕ → Answer) (at : ℕ) → entry (edition n) K refusal made (record { at = at; tag = tag; contents = bs }) ≡ entry_for refusal K bs r
  pub ranged : IfOk r (λ x. Ranged K (length bs) made x)
  pub filled : IfOk r (λ x. (edition n).line_width ≤ length bs)
