-- Bytes stored one part behind the other. Assumes nothing.
use mathlib.Core.Path.{◌≡◌, refl, sym, ◌∙◌}
use mathlib.Core.Bool.{Bool, true, false}
use mathlib.Core.List.{List, [], ◌++◌}
use Prim.Native.Nat.{ℕ, ◌+◌, ◌≤◌}
use native.Mathlib.Omega.{arith}
use lib.ListN.{length, length-append}
use lib.Seq.{sets}
use Rattle.forms.specs.Edition.{edition1}
use Rattle.forms.specs.Forms.{Formula}
use Rattle.number_bytes.proofs.Stores.{sets-append}
use Rattle.fields.specs.Fields.{field_bytes}
use Rattle.fields.proofs.Framing.{length-field_bytes as field-size}
use Rattle.formula.specs.Formula.{encode}
use Rattle.formula_write.specs.Writing.{Heads, Stores, or_bytes, front_bytes}

-- What is written behind a run that is written.
pub both_stored : (scratch₀ : List ℕ) (o₀ : ℕ) (bytes bs : List ℕ) {scratch scratch' : List ℕ} {o : ℕ} → o ≡ o₀ + length bytes → length scratch ≡ length scratch₀
    → (o₀ + length bytes ≤ length scratch₀ → scratch ≡ sets scratch₀ o₀ bytes) → (o + length bs ≤ length scratch → scratch' ≡ sets scratch o bs)
    → o₀ + length (bytes ++ bs) ≤ length scratch₀ → scratch' ≡ sets scratch₀ o₀ (bytes ++ bs)
both_stored scratch₀ o₀ bytes bs {o = o} e l f g h =
    let s = length-append bytes bs in
    g (omega arith) ∙ rw (f (omega arith), e) (sym (sets-append bytes bs scratch₀ o₀))

pub stores_both : {scratch scratch₁ scratch₂ : List ℕ} {o o₁ o₂ : ℕ} (bytes bs : List ℕ) → Stores scratch o bytes scratch₁ o₁ → Stores scratch₁ o₁ bs scratch₂ o₂ → Stores scratch o (bytes ++ bs) scratch₂ o₂
stores_both {scratch} {o = o} bytes bs s t = record {
  long = t.long ∙ s.long;
  o_is = omega (arith, s.o_is, t.o_is, length-append bytes bs);
  stored = both_stored scratch o bytes bs s.o_is s.long s.stored t.stored;
}

pub stores-head : {scratch scratch' : List ℕ} {o o' tag : ℕ} → Heads scratch o tag scratch' o' → Stores scratch o (field_bytes tag []) scratch' o'
stores-head {tag = tag} h =
    let w : length (field_bytes tag []) ≡ 3 = field-size tag [] in
    record { long = h.long; o_is = omega (arith, h.o_is); stored = λ r. h.stored (omega arith) }

pub stores-none : {scratch : List ℕ} {o : ℕ} → Stores scratch o [] scratch o
stores-none = record { long = refl; o_is = omega arith; stored = λ r. refl }

-- ---- what stands before Ij in a rounding's formula
pub or-size : (others : Bool) → length (or_bytes others) ≤ 3
or-size true = omega (arith, field-size 0x31 [])
or-size false = omega arith

pub front-size : (others : Bool) (E : Formula) → length (front_bytes others E) ≡ length (or_bytes others) + 3 + length (encode edition1 E)
front-size others E = omega (arith, length-append (or_bytes others ++ field_bytes 0x32 []) (encode edition1 E), length-append (or_bytes others) (field_bytes 0x32 []), field-size 0x32 [])
