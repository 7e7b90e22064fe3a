-- The quick way for powers of two agrees with the old one. Assumes nothing.
use mathlib.Core.Path.{◌≡◌, refl, sym, ap, subst, ◌∙◌}
use mathlib.Core.Bool.{Bool, true, false, cond}
use mathlib.Core.List.{List}
use Prim.Native.Nat.{ℕ, ◌+◌, ◌^◌, ◌<◌}
use native.Mathlib.Omega.{arith}
use lib.Dec.{T, ltb}
use lib.IntN.{pos, negsuc, ◌-ℤ◌}
use lib.ListN.{length}
use Rattle.integers.specs.Divides.{◌∣ℤ◌, divb}
use Rattle.integers.specs.Remainder.{remainder}
use Rattle.integers.proofs.Ring.{lit, ring, poly}
use Rattle.integers.proofs.Divisibility.{divb→∣, ∣→divb}
use Rattle.integers.proofs.Remainders.{remainder-below, remainder-congruent, remainder-unique}
use Rattle.forms.specs.Forms.{value}
use Rattle.number_bytes.specs.Numbers.{Bytes, unsigned, complement, signed}
use Rattle.number_bytes.proofs.Signed.{unsigned-below}
use Rattle.formula.specs.Test.{registers}
use Rattle.form_value.specs.Quick.{word_size, word, Power}
use Rattle.form_value.proofs.Quick.{word-add, word-mul, value-word, word-divides, power-true, true-power, quick-judge}
use Rattle.guarantee.specs.Quick.{QuickAgrees}
use Rattle.guarantee.proofs.Testing.{holds-is}

-- ---- four bytes
complement-word : (n : ℕ) → n < word_size → (b : Bool) → remainder word_size (cond b (pos n) (pos n -ℤ pos word_size)) ≡ n
complement-word n h true = remainder-unique (omega arith) (pos n) n h (record { q = pos 0; eq = let x = lit n in ring (search poly) (search poly) (omega arith) })
complement-word n h false = remainder-unique (omega arith) (pos n -ℤ pos word_size) n h (record { q = negsuc 0; eq = ring (search poly) (search poly) (omega arith) })

four_bytes : (bs : List ℕ) → Bytes bs → length bs ≡ 4 → word (signed bs) ≡ unsigned bs
unfolding signed complement
four_bytes bs h e =
    let n = unsigned bs in
    let m : n < word_size = omega (arith, unsigned-below bs h, ap (λ (k : ℕ). 256 ^ k) e) in
    ap (λ (k : ℕ). remainder word_size (cond (ltb (n + n) (256 ^ k)) (pos n) (pos n -ℤ pos (256 ^ k)))) e ∙ complement-word n m (ltb (n + n) word_size)

pub quick-agrees : QuickAgrees
quick-agrees = record {
  congruent = λ z. (remainder-below (omega arith) z, remainder-congruent (omega arith) z);
  sum = word-add;
  product = word-mul;
  bytes = four_bytes;
  words = λ t v. (rw (value-word t v) (remainder-below (omega arith) (value t v)), subst (λ (w : ℕ). pos word_size ∣ℤ value t v -ℤ pos w) (sym (value-word t v)) (remainder-congruent (omega arith) (value t v)));
  divides = λ e low high t v.
      let g = 2 ^ e in
      let p : Power (2 ^ e) = record { e = e; some = low; upto = high; is = refl } in
      let e : divb (pos g) (pos (word (value t v))) ≡ divb (pos g) (value t v) = word-divides p (value t v) in
      let w = value-word t v in (
        λ d. divb→∣ (subst T e (∣→divb (subst (λ (x : ℕ). pos g ∣ℤ pos x) w d))),
        λ d. subst (λ (x : ℕ). pos g ∣ℤ pos x) (sym w) (divb→∣ (subst T (sym e) (∣→divb d))),
      );
  powers = λ g. (power-true 30 g, true-power 30 g);
  agrees = quick-judge;
  tells = λ formula values r c x. holds-is c x ∙ sym (quick-judge x.formula (registers values));
}
