-- Laws of `Puts`, each for any output and bytes. Assumes nothing.
use mathlib.Core.Path.{◌≡◌, refl, sym, ap, ◌∙◌}
use mathlib.Core.List.{List, [], ◌++◌}
use Prim.Native.Nat.{ℕ, ◌+◌, ◌≤◌, ◌<◌}
use native.Mathlib.Omega.{arith}
use lib.ListN.{length, length-append}
use lib.Seq.{sets, length-sets}
use borrow.Rule.Slice.PartMut.{put_mid}
use Rattle.number_bytes.proofs.Stores.{sets-append, sets-mid}
use Rattle.printing_text.specs.PutsText.{PutsText}

-- nothing, where there is nothing to put or no room
pub puts_none : (out : List ℕ) (o : ℕ) → PutsText out o [] 0 out o
puts_none out o = record { long = refl; o_is = omega arith; few = omega arith; stored = λ _. refl }

pub puts-out : (out : List ℕ) {o o' : ℕ} (bytes : List ℕ) → o' ≡ o + length bytes → length out < o' → PutsText out o bytes (length bytes) out o'
puts-out out bytes e h = record { long = refl; o_is = e; few = omega arith; stored = λ l. absurd (omega arith) }

-- one piece after another
pub puts_then : {out out₁ out₂ : List ℕ} {o o₁ o₂ : ℕ} {a b : List ℕ} {m n : ℕ} → PutsText out o a m out₁ o₁ → PutsText out₁ o₁ b n out₂ o₂ → PutsText out o (a ++ b) (m + n) out₂ o₂
puts_then {out} {out₁} {out₂} {o} {o₁} {o₂} {a} {b} p q =
    let l : length (a ++ b) ≡ length a + length b = length-append a b in
    record {
      long = q.long ∙ p.long;
      o_is = omega (arith, p.o_is, q.o_is);
      few = omega (arith, p.few, q.few);
      stored = λ h.
          let e₁ : out₁ ≡ sets out o a = p.stored (omega arith) in
          let e₂ : out₂ ≡ sets out₁ o₁ b = q.stored (omega (arith, p.o_is, p.long)) in
          e₂ ∙ rw (p.o_is, e₁) (sym (sets-append a b out o));
    }

-- the same bytes by another name, and a larger bound
pub puts-is : {out out' : List ℕ} {o o' : ℕ} {a b : List ℕ} {m n : ℕ} → PutsText out o a m out' o' → a ≡ b → m ≤ n → PutsText out o b n out' o'
puts-is p e l = rw (sym e) (record { long = p.long; o_is = p.o_is; few = omega (arith, p.few); stored = p.stored })

-- the bytes where there is room
pub puts-in : (out : List ℕ) {o o' k : ℕ} (bytes : List ℕ) → o' ≡ o + length bytes → o' ≤ length out → k ≡ length bytes → PutsText out o bytes (length bytes) (put_mid o k out bytes) o'
puts-in out {o} {o'} {k} bytes e h l =
    let s : put_mid o k out bytes ≡ sets out o bytes = sets-mid o (length bytes) k out bytes bytes refl refl (sym l) (omega arith) in
    record { long = ap length s ∙ length-sets out o bytes; o_is = e; few = omega arith; stored = λ _. s }
