-- Numbers and forms as bytes: what was written reads back, and what was read is written as it stood. Assumes nothing.
use mathlib.Core.Path.{◌≡◌, refl, sym, ◌∙◌, ap, ap₂, subst}
use mathlib.Core.List.{List, [], ◌∷◌, ◌++◌, append_assoc, append-nil}
use Prim.Native.Nat.{ℕ, zero, suc, ◌+◌, ◌*◌, ◌-◌, ◌/◌, ◌%◌, ◌^◌, ◌<◌, ◌≤◌}
use native.Mathlib.Nat.{zero-mul, suc-mul, zero-add, add-zero, div-lt_iff_lt-mul, pow-suc}
use native.Mathlib.Numerals.{add-one}
use native.Mathlib.Omega.{arith}
use lib.Dec.{ltb, ltb→lt, nltb→le}
use lib.Arith.{digits_div, digits_mod, digits_lt}
use lib.IntN.{ℤ, pos, negsuc, neg_ℤ, ◌-ℤ◌}
use lib.ListN.{length, take, drop, length-append, length-drop, take-append-drop, get_or}
use lib.Seq.{take_at, drop_at, drop-drop, take-take, length-take-le}
use Rattle.integers.specs.Linear.{pp, np}
use Rattle.integers.proofs.Differences.{ints, add-pn, neg-pn, cond_ind}
use Rattle.forms.specs.Forms.{Form, All, nil, cons}
use Rattle.number_bytes.specs.Ranges.{InWidth, FormInWidth}
use Rattle.number_bytes.specs.Numbers.{Bytes, nat_from, unsigned, complement, signed, unsigned_bytes, residue, signed_bytes, signeds, signeds_bytes, flat, form_from, form_bytes, form_width}

-- ---- what holds of each element
module _ {X : Type 0} {P : X → Type 0} where
  pub all-weaken : {Q : X → Type 0} → ((x : X) → P x → Q x) → {xs : List X} → All P xs → All Q xs
  all-weaken f nil = nil
  all-weaken f (cons {x = x} h hs) = cons (f x h) (all-weaken f hs)

  pub all_take : (n : ℕ) {xs : List X} → All P xs → All P (take n xs)
  all_take zero h = nil
  all_take (suc n) nil = nil
  all_take (suc n) (cons h hs) = cons h (all_take n hs)

  pub all_drop : (n : ℕ) {xs : List X} → All P xs → All P (drop n xs)
  all_drop zero h = h
  all_drop (suc n) nil = nil
  all_drop (suc n) (cons h hs) = all_drop n hs

-- ---- a part of a list
pub drop-take : {A : Type 0} (o n : ℕ) (l : List A) → o ≤ n → drop o (take n l) ≡ take (n - o) (drop o l)
drop-take zero n l h = let e : n - 0 ≡ n = omega arith in rw e
drop-take (suc o) zero l h = absurd (omega arith)
drop-take (suc o) (suc n) [] h = none (suc n - suc o)
  where
    none : {A : Type 0} (n : ℕ) → ◌≡◌ {A = List A} [] (take n [])
    none zero = refl
    none (suc n) = refl
drop-take (suc o) (suc n) (x ∷ l) h = let e : suc n - suc o ≡ n - o = omega arith in rw e (drop-take o n l (omega arith))

-- ---- unsigned
pub length-unsigned_bytes : (w n : ℕ) → length (unsigned_bytes w n) ≡ w
unfolding unsigned_bytes
length-unsigned_bytes zero n = refl
length-unsigned_bytes (suc w) n = length-append (unsigned_bytes w (n / 256)) (n % 256 ∷ []) ∙ omega (arith, length-unsigned_bytes w (n / 256))

pub nat_from-append : (n : ℕ) (xs ys : List ℕ) → nat_from n (xs ++ ys) ≡ nat_from (nat_from n xs) ys
nat_from-append n [] ys = refl
nat_from-append n (x ∷ xs) ys = nat_from-append (n * 256 + x) xs ys

nat_from-bytes : (w n : ℕ) → n < 256 ^ w → nat_from 0 (unsigned_bytes w n) ≡ n
unfolding unsigned_bytes
nat_from-bytes zero n h = omega arith
nat_from-bytes (suc w) n h =
    let less : n / 256 < 256 ^ w = (div-lt_iff_lt-mul {k = 256} (omega arith)).1 (rw pow-suc at h) in
    nat_from-append 0 (unsigned_bytes w (n / 256)) (n % 256 ∷ []) ∙ omega (arith, nat_from-bytes w (n / 256) less)

pub unsigned-unsigned_bytes : (w n : ℕ) → n < 256 ^ w → unsigned (unsigned_bytes w n) ≡ n
unfolding unsigned
unsigned-unsigned_bytes = nat_from-bytes

-- The bytes of the number that starts with n and goes on with these bytes: n's own k bytes, then these.
bytes-nat_from : (k n : ℕ) (bs : List ℕ) → Bytes bs → unsigned_bytes (length bs + k) (nat_from n bs) ≡ unsigned_bytes k n ++ bs
unfolding unsigned_bytes
bytes-nat_from k n [] nil = rw (zero-add, append-nil)
bytes-nat_from k n (b ∷ bs) (cons h hs) =
    let one_more : suc (length bs) + k ≡ length bs + suc k = omega arith in
    ap (λ (w : ℕ). unsigned_bytes w (nat_from (n * 256 + b) bs)) one_more
    ∙ bytes-nat_from (suc k) (n * 256 + b) bs hs
    ∙ rw (digits_div n h, digits_mod n h, append_assoc)

nat_from-below : (k n : ℕ) (bs : List ℕ) → n < 256 ^ k → Bytes bs → nat_from n bs < 256 ^ (length bs + k)
nat_from-below k n [] h nil = rw zero-add h
nat_from-below k n (b ∷ bs) h (cons l ls) =
    let more : n * 256 + b < 256 ^ suc k = rw pow-suc (digits_lt h l) in
    subst (λ (w : ℕ). nat_from (n * 256 + b) bs < 256 ^ w) (omega arith) (nat_from-below (suc k) (n * 256 + b) bs more ls)

pub unsigned-below : (bs : List ℕ) → Bytes bs → unsigned bs < 256 ^ length bs
unfolding unsigned
unsigned-below bs h = rw add-zero at (nat_from-below 0 0 bs (omega arith) h)

pub unsigned_bytes-unsigned : (bs : List ℕ) → Bytes bs → unsigned_bytes (length bs) (unsigned bs) ≡ bs
unfolding unsigned unsigned_bytes
unsigned_bytes-unsigned bs h = rw add-zero at (bytes-nat_from 0 0 bs h)

-- ---- signed
complement-residue : (full : ℕ) (z : ℤ) → pp z + pp z < full → np z + np z ≤ full → complement full (residue full z) ≡ z
unfolding complement residue
complement-residue full (pos n) h l = cond_ind (ltb (n + n) full) (pos n) (pos n -ℤ pos full) (λ z. z ≡ pos n) (λ t. refl) (λ t. let k = nltb→le (n + n) full t in absurd (omega arith))
complement-residue full (negsuc n) h l =
    let r = full - suc n in
    cond_ind (ltb (r + r) full) (pos r) (pos r -ℤ pos full) (λ z. z ≡ negsuc n)
    (λ t. let k = ltb→lt (r + r) full t in absurd (omega arith)) (λ t. omega (ints, add-pn (pos r) (neg_ℤ (pos full)), neg-pn (pos full)))

-- In the upper half the value is n - full.
upper : (full n : ℕ) → pp (pos n -ℤ pos full) + full ≡ np (pos n -ℤ pos full) + n
upper full n = omega (ints, add-pn (pos n) (neg_ℤ (pos full)), neg-pn (pos full))

residue-complement : (full n : ℕ) → n < full → residue full (complement full n) ≡ n
unfolding complement residue
residue-complement full n h = cond_ind (ltb (n + n) full) (pos n) (pos n -ℤ pos full) (λ z. residue full z ≡ n) (λ t. refl) (λ t. high (pos n -ℤ pos full) (upper full n))
  where
    high : (z : ℤ) → pp z + full ≡ np z + n → residue full z ≡ n
    high (pos m) e = absurd (omega arith)
    high (negsuc m) e = omega arith

residue-below : (full : ℕ) (z : ℤ) → pp z + pp z < full → residue full z < full
unfolding residue
residue-below full (pos n) h = omega arith
residue-below full (negsuc n) h = omega arith

pub length-signed_bytes : (w : ℕ) (z : ℤ) → length (signed_bytes w z) ≡ w
unfolding signed_bytes
length-signed_bytes w z = length-unsigned_bytes w (residue (256 ^ w) z)

pub signed-signed_bytes : (w : ℕ) (z : ℤ) → InWidth w z → signed (signed_bytes w z) ≡ z
unfolding signed signed_bytes
signed-signed_bytes w z h =
    ap₂ (λ (k n : ℕ). complement (256 ^ k) n) (length-unsigned_bytes w (residue (256 ^ w) z)) (unsigned-unsigned_bytes w (residue (256 ^ w) z) (residue-below (256 ^ w) z h.high))
    ∙ complement-residue (256 ^ w) z h.high h.low

pub signed_bytes-signed : (bs : List ℕ) → Bytes bs → signed_bytes (length bs) (signed bs) ≡ bs
unfolding signed signed_bytes
signed_bytes-signed bs h = ap (unsigned_bytes (length bs)) (residue-complement (256 ^ length bs) (unsigned bs) (unsigned-below bs h)) ∙ unsigned_bytes-unsigned bs h

-- A number read from w bytes has a two's complement of w bytes.
complement-in : (full n : ℕ) → n < full → (pp (complement full n) + pp (complement full n) < full) × (np (complement full n) + np (complement full n) ≤ full)
unfolding complement
complement-in full n h = cond_ind (ltb (n + n) full) (pos n) (pos n -ℤ pos full) (λ z. (pp z + pp z < full) × (np z + np z ≤ full))
    (λ t. let k = ltb→lt (n + n) full t in omega arith) (λ t. high (pos n -ℤ pos full) (nltb→le (n + n) full t) (upper full n))
  where
    high : (z : ℤ) → full ≤ n + n → pp z + full ≡ np z + n → (pp z + pp z < full) × (np z + np z ≤ full)
    high (pos m) k e = absurd (omega arith)
    high (negsuc m) k e = omega arith

pub signed-in : (bs : List ℕ) → Bytes bs → InWidth (length bs) (signed bs)
unfolding signed
signed-in bs h = let b = complement-in (256 ^ length bs) (unsigned bs) (unsigned-below bs h) in record { high = b.0; low = b.1 }

-- ---- several signed numbers
module _ (w : ℕ) where
  pub length-signeds_bytes : (zs : List ℤ) → length (signeds_bytes w zs) ≡ length zs * w
  unfolding signeds_bytes
  length-signeds_bytes [] = rw zero-mul
  length-signeds_bytes (z ∷ zs) = length-append (signed_bytes w z) (signeds_bytes w zs) ∙ rw suc-mul (omega (arith, length-signed_bytes w z, length-signeds_bytes zs))

  pub signeds_bytes-append : (xs ys : List ℤ) → signeds_bytes w (xs ++ ys) ≡ signeds_bytes w xs ++ signeds_bytes w ys
  unfolding signeds_bytes
  signeds_bytes-append [] ys = refl
  signeds_bytes-append (x ∷ xs) ys = ap (λ (bs : List ℕ). signed_bytes w x ++ bs) (signeds_bytes-append xs ys) ∙ sym (append_assoc (signed_bytes w x) (signeds_bytes w xs) (signeds_bytes w ys))

  pub signeds-signeds_bytes : {zs : List ℤ} (more : List ℕ) → All (InWidth w) zs → signeds w (length zs) (signeds_bytes w zs ++ more) ≡ zs
  unfolding signeds signeds_bytes
  signeds-signeds_bytes more nil = refl
  signeds-signeds_bytes more (cons {x = z} {xs = zs} h hs) =
      let own = length-signed_bytes w z in
      let front : take w ((signed_bytes w z ++ signeds_bytes w zs) ++ more) ≡ signed_bytes w z = rw append_assoc (take_at (signed_bytes w z) (signeds_bytes w zs ++ more) w own) in
      let back : drop w ((signed_bytes w z ++ signeds_bytes w zs) ++ more) ≡ signeds_bytes w zs ++ more = rw append_assoc (drop_at (signed_bytes w z) (signeds_bytes w zs ++ more) w own) in
      ap₂ (λ (bs cs : List ℕ). signed bs ∷ signeds w (length zs) cs) front back
      ∙ ap₂ (λ (x : ℤ) (xs : List ℤ). x ∷ xs) (signed-signed_bytes w z h) (signeds-signeds_bytes more hs)

  pub signeds_bytes-signeds : (n : ℕ) (bs : List ℕ) → length bs ≡ n * w → Bytes bs → signeds_bytes w (signeds w n bs) ≡ bs
  unfolding signeds signeds_bytes
  signeds_bytes-signeds zero bs h b = sym (nothing bs (h ∙ zero-mul w))
    where
      nothing : (xs : List ℕ) → length xs ≡ 0 → xs ≡ []
      nothing [] e = refl
      nothing (x ∷ xs) e = absurd (omega arith)
  signeds_bytes-signeds (suc n) bs h b =
      let whole : length bs ≡ n * w + w = h ∙ suc-mul n w in
      let own : length (take w bs) ≡ w = length-take-le w bs (omega arith) in
      let left : length (drop w bs) ≡ n * w = rw length-drop (omega arith) in
      let first : signed_bytes w (signed (take w bs)) ≡ take w bs = rw own at (signed_bytes-signed (take w bs) (all_take w b)) in
      ap₂ (λ (xs ys : List ℕ). xs ++ ys) first (signeds_bytes-signeds n (drop w bs) left (all_drop w b)) ∙ take-append-drop w bs

  pub length-signeds : (n : ℕ) (bs : List ℕ) → length (signeds w n bs) ≡ n
  unfolding signeds
  length-signeds zero bs = refl
  length-signeds (suc n) bs = ap suc (length-signeds n (drop w bs))

  -- What stands behind them does not matter.
  pub signeds-take : (n m : ℕ) (bs : List ℕ) → n * w ≤ m → signeds w n (take m bs) ≡ signeds w n bs
  unfolding signeds
  signeds-take zero m bs h = refl
  signeds-take (suc n) m bs h =
      let z : suc n * w ≡ n * w + w = suc-mul n w in
      let q : w ≤ m = omega arith in
      ap₂ (λ (x : List ℕ) (ys : List ℤ). signed x ∷ ys) (take-take w m bs q)
      (ap (signeds w n) (drop-take w m bs q) ∙ signeds-take n (m - w) (drop w bs) (omega arith))

  -- One more number stands at the end.
  pub signeds-last : (n : ℕ) (bs : List ℕ) → signeds w (suc n) bs ≡ signeds w n bs ++ (signed (take w (drop (n * w) bs)) ∷ [])
  unfolding signeds
  signeds-last zero bs = rw zero-mul
  signeds-last (suc n) bs =
      let place : w + n * w ≡ suc n * w = rw suc-mul (omega arith) in
      ap (λ (zs : List ℤ). signed (take w bs) ∷ zs) (signeds-last n (drop w bs))
      ∙ rw (drop-drop (n * w) w bs, place)

  pub signeds-in : (n : ℕ) (bs : List ℕ) → n * w ≤ length bs → Bytes bs → All (InWidth w) (signeds w n bs)
  unfolding signeds
  signeds-in zero bs h b = nil
  signeds-in (suc n) bs h b =
      let whole : n * w + w ≤ length bs = rw suc-mul at h in
      let own : length (take w bs) ≡ w = length-take-le w bs (omega arith) in
      let left : n * w ≤ length (drop w bs) = rw length-drop (omega arith) in
      cons (rw own at (signed-in (take w bs) (all_take w b))) (signeds-in n (drop w bs) left (all_drop w b))

-- ---- a form
module _ (w K : ℕ) where
  pub length-form_bytes : (t : Form) → length t.coeffs ≡ K → length (form_bytes w t) ≡ form_width w K
  unfolding form_bytes flat
  length-form_bytes t h = length-signeds_bytes w (t.coeffs ++ (t.d ∷ [])) ∙ rw (length-append, h) (ap (λ (n : ℕ). n * w) (add-one K))

  -- The K coefficients, then d, then whatever follows.
  parts : (t : Form) (more : List ℕ) → form_bytes w t ++ more ≡ signeds_bytes w t.coeffs ++ (signed_bytes w t.d ++ more)
  unfolding form_bytes flat signeds_bytes
  parts t more = rw (signeds_bytes-append, append-nil, append_assoc)

  pub form_from-form_bytes : {t : Form} (more : List ℕ) → FormInWidth w K t → form_from w K (form_bytes w t ++ more) ≡ t
  unfolding form_from
  form_from-form_bytes {t} more h =
      let tail = signed_bytes w t.d ++ more in
      let front : length (signeds_bytes w t.coeffs) ≡ K * w = length-signeds_bytes w t.coeffs ∙ ap (λ (n : ℕ). n * w) h.size in
      let cs : signeds w K (signeds_bytes w t.coeffs ++ tail) ≡ t.coeffs = rw h.size at (signeds-signeds_bytes w tail h.coeffs) in
      let last : signed (take w (drop (K * w) (signeds_bytes w t.coeffs ++ tail))) ≡ t.d
      = rw (drop_at (signeds_bytes w t.coeffs) tail (K * w) front, take_at (signed_bytes w t.d) more w (length-signed_bytes w t.d)) (signed-signed_bytes w t.d h.d) in
      ap (form_from w K) (parts t more) ∙ λ i. record { coeffs = cs i; d = last i }

  pub form_from-written : {t : Form} → FormInWidth w K t → form_from w K (form_bytes w t) ≡ t
  form_from-written {t} h = rw append-nil at (form_from-form_bytes {t = t} [] h)

  pub form_bytes-form_from : (bs : List ℕ) → length bs ≡ form_width w K → Bytes bs → form_bytes w (form_from w K bs) ≡ bs
  unfolding form_from form_bytes flat
  form_bytes-form_from bs h b = ap (signeds_bytes w) (sym (signeds-last w K bs)) ∙ signeds_bytes-signeds w (suc K) bs h b

  pub form_from-in : (bs : List ℕ) → length bs ≡ form_width w K → Bytes bs → FormInWidth w K (form_from w K bs)
  unfolding form_from
  form_from-in bs h b =
      let whole : length bs ≡ K * w + w = h ∙ suc-mul K w in
      let left : length (drop (K * w) bs) ≡ w = rw length-drop (omega arith) in
      let own : length (take w (drop (K * w) bs)) ≡ w = length-take-le w (drop (K * w) bs) (omega arith) in
      record {
        size = length-signeds w K bs;
        coeffs = signeds-in w K bs (omega arith) b;
        d = rw own at (signed-in (take w (drop (K * w) bs)) (all_take w (all_drop (K * w) b)));
      }

-- ---- numbers of some bytes each, over the width
-- the coefficients and then d are K+1 numbers in a row
pub flat-signeds : (w K : ℕ) (bs : List ℕ) → flat (form_from w K bs) ≡ signeds w (suc K) bs
unfolding flat form_from
flat-signeds w K bs = sym (signeds-last w K bs)

pub all_get_d : {X : Type 0} {P : X → Type 0} {xs : List X} (i : ℕ) (x : X) → All P xs → i < length xs → P (get_or xs i x)
all_get_d i x nil h = absurd (omega arith)
all_get_d zero x (cons p ps) h = p
all_get_d (suc i) x (cons p ps) h = all_get_d i x ps (omega arith)
