-- What a function that writes text leaves. Assumes nothing.
use Rattle.std.specs.Prelude.{◌≡◌, List, ℕ, ◌+◌, ◌≤◌, length}
use Rattle.std.proofs.lemmas.List.Edits.{sets}
use Rattle.printing_text.specs.declared.Text.{Text}

-- No place in the output is above this, so no sum of places overflows: a byte of a formula adds at most 6 bytes of text.
abbrev pub text_limit : ℕ
text_limit = 1_000_000

-- The bytes, of which there are so many at most, stand from o on, if there is room for them; o' is behind them.
pub record PutsText (out : List ℕ) (o : ℕ) (bytes : List ℕ) (most : ℕ) (out' : List ℕ) (o' : ℕ) : Type 0 where
  pub long : length out' ≡ length out
  pub o_is : o' ≡ o + length bytes
  pub few : length bytes ≤ most
  pub stored : o + length bytes ≤ length out → out' ≡ sets out o bytes

-- The same of an output with its place.
abbrev pub Puts : (before after : Text) → (bytes : List ℕ) (most : ℕ) → Type 0
Puts before after bytes most = PutsText before.out.now before.end bytes most after.out.now after.end
