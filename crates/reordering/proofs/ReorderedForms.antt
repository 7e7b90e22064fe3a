-- Forms whose coefficients are reordered: the check does not tell them apart, and their bytes are the bytes reordered. Assumes nothing.
use mathlib.Core.Path.{◌≡◌, refl, sym, subst, ap, ap₂, ◌∙◌}
use mathlib.Core.Bool.{Bool, true, false}
use mathlib.Core.List.{List, [], ◌∷◌, ◌++◌, map, append_assoc, append-nil}
use Prim.Native.Nat.{ℕ, zero, suc, ◌+◌, ◌*◌, ◌<◌, ◌≤◌}
use native.Mathlib.Nat.{zero-mul, suc-mul, mul-le-mul_right}
use native.Mathlib.Omega.{arith}
use lib.Dec.{T}
use lib.ListN.{length, get_or, take, drop, length-append, length-drop, length-map}
use lib.Seq.{take_at, drop_at, drop-drop, length-take-le}
use lib.IntN.{ℤ, pos, ◌+ℤ◌, ◌*ℤ◌}
use mir.Facts.{and_yes, yes_and}
use Rattle.integers.specs.Linear.{eq_z}
use Rattle.integers.specs.Remainder.{remainder}
use Rattle.forms.specs.Reduced.{reduced}
use Rattle.forms.specs.Forms.{Form, rest, sums, ◌⊞◌, ◌·◌, ◌plus◌, every}
use Rattle.number_bytes.specs.Numbers.{signed, signed_bytes, signeds, signeds_bytes, flat, form_from, form_bytes}
use Rattle.number_bytes.proofs.Signed.{length-signed_bytes, length-signeds_bytes, signeds_bytes-append, length-signeds}
use Rattle.proof.specs.Rows.{equals, same_form}
use Rattle.reordering.specs.Reordering.{Reordering, concat_below, form_reordered}
use Rattle.reordering.proofs.RelatedChecks.{Laws}

-- ---- lists by index
bool-equal : (a b : Bool) → (T a → T b) → (T b → T a) → a ≡ b
bool-equal true true f g = refl
bool-equal true false f g = absurd (f tt)
bool-equal false true f g = absurd (g tt)
bool-equal false false f g = refl

abbrev at : List ℤ → ℕ → ℤ
at l k = get_or l k (pos 0)

length-sums : (l m : List ℤ) → length l ≡ length m → length (sums l m) ≡ length l
unfolding sums
length-sums [] [] e = refl
length-sums [] (b ∷ m) e = absurd (omega arith)
length-sums (a ∷ l) [] e = refl
length-sums (a ∷ l) (b ∷ m) e = ap suc (length-sums l m (omega arith))

at-sums : (l m : List ℤ) → length l ≡ length m → (k : ℕ) → k < length l → at (sums l m) k ≡ at l k +ℤ at m k
unfolding sums
at-sums [] m e k h = absurd (omega arith)
at-sums (a ∷ l) [] e k h = absurd (omega arith)
at-sums (a ∷ l) (b ∷ m) e zero h = refl
at-sums (a ∷ l) (b ∷ m) e (suc k) h = at-sums l m (omega arith) k (omega arith)

at_map : (f : ℤ → ℤ) (l : List ℤ) (k : ℕ) → k < length l → at (map f l) k ≡ f (at l k)
at_map f [] k h = absurd (omega arith)
at_map f (x ∷ l) zero h = refl
at_map f (x ∷ l) (suc k) h = at_map f l k (omega arith)

every-at : (p : ℤ → Bool) (l : List ℤ) → T (every p l) → (k : ℕ) → k < length l → T (p (at l k))
unfolding every
every-at p [] t k h = absurd (omega arith)
every-at p (x ∷ l) t zero h = (and_yes (p x) (every p l) t).0
every-at p (x ∷ l) t (suc k) h = every-at p l (and_yes (p x) (every p l) t).1 k (omega arith)

at_every : (p : ℤ → Bool) (l : List ℤ) → ((k : ℕ) → k < length l → T (p (at l k))) → T (every p l)
unfolding every
at_every p [] f = tt
at_every p (x ∷ l) f = yes_and (p x) (every p l) (f 0 (omega arith)) (at_every p l λ k h. f (suc k) (omega arith))

equals-at : (l m : List ℤ) → T (equals l m) → (k : ℕ) → k < length l → T (eq_z (at l k) (at m k))
unfolding equals
equals-at [] m t k h = absurd (omega arith)
equals-at (x ∷ l) [] t k h = absurd t
equals-at (x ∷ l) (y ∷ m) t zero h = (and_yes (eq_z x y) (equals l m) t).0
equals-at (x ∷ l) (y ∷ m) t (suc k) h = equals-at l m (and_yes (eq_z x y) (equals l m) t).1 k (omega arith)

at-equals : (l m : List ℤ) → length l ≡ length m → ((k : ℕ) → k < length l → T (eq_z (at l k) (at m k))) → T (equals l m)
unfolding equals
at-equals [] [] e f = tt
at-equals [] (y ∷ m) e f = absurd (omega arith)
at-equals (x ∷ l) [] e f = absurd (omega arith)
at-equals (x ∷ l) (y ∷ m) e f = yes_and (eq_z x y) (equals l m) (f 0 (omega arith)) (at-equals l m (omega arith) λ k h. f (suc k) (omega arith))

module _ {K : ℕ} (π : Reordering K) where
  -- t is s reordered; both have K coefficients.
  pub record Moved (s t : Form) : Type 0 where
    pub size : length s.coeffs ≡ K
    pub size' : length t.coeffs ≡ K
    pub d : s.d ≡ t.d
    pub moved : (k : ℕ) → k < K → at t.coeffs k ≡ at s.coeffs (π.from k)

  back : {s t : Form} → Moved s t → (k : ℕ) → k < K → at s.coeffs k ≡ at t.coeffs (π.to k)
  back {s} m k h = sym (m.moved (π.to k) (π.to_below k h) ∙ ap (at s.coeffs) (π.from_to k h))

  moved_sum : {s s' t t' : Form} → Moved s s' → Moved t t' → Moved (s ⊞ t) (s' ⊞ t')
  unfolding ◌⊞◌
  moved_sum {s} {s'} {t} {t'} m n =
      let both : length s.coeffs ≡ length t.coeffs = m.size ∙ sym n.size in
      let both' : length s'.coeffs ≡ length t'.coeffs = m.size' ∙ sym n.size' in
      record {
        size = length-sums s.coeffs t.coeffs both ∙ m.size;
        size' = length-sums s'.coeffs t'.coeffs both' ∙ m.size';
        d = ap₂ ◌+ℤ◌ m.d n.d;
        moved = λ k h.
            at-sums s'.coeffs t'.coeffs both' k (subst (λ (n : ℕ). k < n) (sym m.size') h)
            ∙ ap₂ ◌+ℤ◌ (m.moved k h) (n.moved k h)
            ∙ sym (at-sums s.coeffs t.coeffs both (π.from k) (subst (λ (n : ℕ). π.from k < n) (sym m.size) (π.from_below k h)));
      }

  -- a function of each coefficient
  moved-map : (f : ℤ → ℤ) {s s' : Form} → Moved s s' → (x x' : ℤ) → x ≡ x' → Moved (record { coeffs = map f s.coeffs; d = x }) (record { coeffs = map f s'.coeffs; d = x' })
  moved-map f {s} {s'} m x x' e = record {
    size = length-map s.coeffs f ∙ m.size;
    size' = length-map s'.coeffs f ∙ m.size';
    d = e;
    moved = λ k h.
        at_map f s'.coeffs k (subst (λ (n : ℕ). k < n) (sym m.size') h)
        ∙ ap f (m.moved k h)
        ∙ sym (at_map f s.coeffs (π.from k) (subst (λ (n : ℕ). π.from k < n) (sym m.size) (π.from_below k h)));
  }

  moved-times : {s s' : Form} (α : ℤ) → Moved s s' → Moved (α · s) (α · s')
  unfolding ◌·◌
  moved-times α m = moved-map (λ (c : ℤ). α *ℤ c) m _ _ (ap (λ (c : ℤ). α *ℤ c) m.d)

  moved-plus : {s s' : Form} (n : ℕ) → Moved s s' → Moved (s plus n) (s' plus n)
  unfolding ◌plus◌
  moved-plus n m = record { size = m.size; size' = m.size'; d = ap (λ (z : ℤ). z +ℤ pos n) m.d; moved = m.moved }

  moved-reduced : {s s' : Form} (g : ℕ) → Moved s s' → Moved (reduced g s) (reduced g s')
  unfolding reduced
  moved-reduced g m = moved-map (λ (c : ℤ). pos (remainder g c)) m _ _ (ap (λ (c : ℤ). pos (remainder g c)) m.d)

  moved-every : {s s' : Form} (p : ℤ → Bool) → Moved s s' → every p s.coeffs ≡ every p s'.coeffs
  moved-every {s} {s'} p m = bool-equal _ _
      (λ t. at_every p s'.coeffs λ k h.
      let l : k < K = subst (λ (n : ℕ). k < n) m.size' h in
      subst (λ (z : ℤ). T (p z)) (sym (m.moved k l)) (every-at p s.coeffs t (π.from k) (subst (λ (n : ℕ). π.from k < n) (sym m.size) (π.from_below k l))))
      (λ t. at_every p s.coeffs λ k h.
      let l : k < K = subst (λ (n : ℕ). k < n) m.size h in
      subst (λ (z : ℤ). T (p z)) (sym (back m k l)) (every-at p s'.coeffs t (π.to k) (subst (λ (n : ℕ). π.to k < n) (sym m.size') (π.to_below k l))))

  moved-equals : {s s' t t' : Form} → Moved s s' → Moved t t' → equals s.coeffs t.coeffs ≡ equals s'.coeffs t'.coeffs
  moved-equals {s} {s'} {t} {t'} m n = bool-equal _ _
      (λ e. at-equals s'.coeffs t'.coeffs (m.size' ∙ sym n.size') λ k h.
      let l : k < K = subst (λ (n : ℕ). k < n) m.size' h in
      subst (λ (z : ℤ). T (eq_z z (at t'.coeffs k))) (sym (m.moved k l))
      (subst (λ (z : ℤ). T (eq_z (at s.coeffs (π.from k)) z)) (sym (n.moved k l))
      (equals-at s.coeffs t.coeffs e (π.from k) (subst (λ (n : ℕ). π.from k < n) (sym m.size) (π.from_below k l)))))
      (λ e. at-equals s.coeffs t.coeffs (m.size ∙ sym n.size) λ k h.
      let l : k < K = subst (λ (n : ℕ). k < n) m.size h in
      subst (λ (z : ℤ). T (eq_z z (at t.coeffs k))) (sym (back m k l))
      (subst (λ (z : ℤ). T (eq_z (at s'.coeffs (π.to k)) z)) (sym (back n k l))
      (equals-at s'.coeffs t'.coeffs e (π.to k) (subst (λ (n : ℕ). π.to k < n) (sym m.size') (π.to_below k l)))))

  moved_same : {s s' t t' : Form} → Moved s s' → Moved t t' → same_form s t ≡ same_form s' t'
  unfolding same_form
  moved_same m n = rw (moved-equals m n, m.d, n.d)

  pub moved_laws : Laws Moved
  moved_laws = record {
    d = λ m. m.d;
    sum = moved_sum;
    times = moved-times;
    added = moved-plus;
    residues = moved-reduced;
    tests = moved-every;
    equals = moved_same;
  }

-- ---- bytes
module _ (w : ℕ) where
  length-concat : (f : ℕ → List ℕ) (n : ℕ) → ((k : ℕ) → k < n → length (f k) ≡ w) → length (concat_below f n) ≡ n * w
  unfolding concat_below
  length-concat f zero h = sym (zero-mul w)
  length-concat f (suc n) h = length-append (f 0) (concat_below (rest f) n) ∙ omega (arith, h 0 (omega arith), length-concat (rest f) n (λ k l. h (suc k) (omega arith)), suc-mul n w)

  concat-at : (f : ℕ → List ℕ) (n : ℕ) → ((k : ℕ) → k < n → length (f k) ≡ w) → (more : List ℕ) (k : ℕ) → k < n → take w (drop (k * w) (concat_below f n ++ more)) ≡ f k
  unfolding concat_below
  concat-at f zero h more k l = absurd (omega arith)
  concat-at f (suc n) h more zero l = rw (zero-mul, append_assoc) (take_at (f 0) (concat_below (rest f) n ++ more) w (h 0 (omega arith)))
  concat-at f (suc n) h more (suc k) l =
      let y = concat_below (rest f) n in
      let place : suc k * w ≡ w + k * w = rw suc-mul (omega arith) in
      ap (λ (l : List ℕ). take w l)
      (ap₂ (λ (i : ℕ) (l : List ℕ). drop i l) place (append_assoc (f 0) y more) ∙ sym (drop-drop (k * w) w (f 0 ++ (y ++ more))) ∙ ap (drop (k * w)) (drop_at (f 0) (y ++ more) w (h 0 (omega arith))))
      ∙ concat-at (rest f) n (λ j l. h (suc j) (omega arith)) more k (omega arith)

  -- the bytes of these numbers, one after the other
  concat-are : (f : ℕ → List ℕ) (n : ℕ) (zs : List ℤ) → length zs ≡ n → ((k : ℕ) → k < n → f k ≡ signed_bytes w (at zs k)) → concat_below f n ≡ signeds_bytes w zs
  unfolding concat_below signeds_bytes
  concat-are f zero [] e h = refl
  concat-are f zero (z ∷ zs) e h = absurd (omega arith)
  concat-are f (suc n) [] e h = absurd (omega arith)
  concat-are f (suc n) (z ∷ zs) e h = ap₂ (λ (x y : List ℕ). x ++ y) (h 0 (omega arith)) (concat-are (rest f) n zs (omega arith) λ k l. h (suc k) (omega arith))

at-signeds : (w n : ℕ) (bs : List ℕ) (j : ℕ) → j < n → at (signeds w n bs) j ≡ signed (take w (drop (j * w) bs))
unfolding signeds
at-signeds w zero bs j h = absurd (omega arith)
at-signeds w (suc n) bs zero h = let z : 0 * w ≡ 0 = omega arith in rw z
at-signeds w (suc n) bs (suc j) h =
    let z : w + j * w ≡ suc j * w = omega (arith, suc-mul j w) in
    at-signeds w n (drop w bs) j (omega arith) ∙ rw (drop-drop (j * w) w bs, z)

bytes-at : (w : ℕ) (zs : List ℤ) (more : List ℕ) (j : ℕ) → j < length zs → take w (drop (j * w) (signeds_bytes w zs ++ more)) ≡ signed_bytes w (at zs j)
unfolding signeds_bytes
bytes-at w [] more j h = absurd (omega arith)
bytes-at w (z ∷ zs) more zero h = rw (zero-mul, append_assoc) (take_at (signed_bytes w z) (signeds_bytes w zs ++ more) w (length-signed_bytes w z))
bytes-at w (z ∷ zs) more (suc j) h =
    let x = signed_bytes w z in
    let y = signeds_bytes w zs in
    let place : suc j * w ≡ w + j * w = rw suc-mul (omega arith) in
    ap (λ (l : List ℕ). take w l)
    (ap₂ (λ (i : ℕ) (l : List ℕ). drop i l) place (append_assoc x y more) ∙ sym (drop-drop (j * w) w (x ++ (y ++ more))) ∙ ap (drop (j * w)) (drop_at x (y ++ more) w (length-signed_bytes w z)))
    ∙ bytes-at w zs more j (omega arith)

module _ {K : ℕ} (π : Reordering K) (w : ℕ) where
  -- the coefficient that becomes coefficient k
  abbrev chosen : List ℕ → ℕ → List ℕ
  chosen bs k = take w (drop (π.from k * w) bs)

  length-chosen : (bs : List ℕ) → K * w ≤ length bs → (k : ℕ) → k < K → length (chosen bs k) ≡ w
  length-chosen bs h k l =
      let b : suc (π.from k) * w ≤ K * w = mul-le-mul_right w (π.from_below k l) in
      length-take-le w (drop (π.from k * w) bs) (rw length-drop (omega (arith, suc-mul (π.from k) w)))

  pub length-form_reordered : (bs : List ℕ) → K * w ≤ length bs → length (form_reordered π w bs) ≡ length bs
  unfolding form_reordered
  length-form_reordered bs h =
      length-append (concat_below (chosen bs) K) (drop (K * w) bs) ∙ omega (arith, length-concat w (chosen bs) K (length-chosen bs h), length-drop (K * w) bs)

  -- What is read of the bytes reordered.
  pub read-moved : (bs : List ℕ) → K * w ≤ length bs → Moved π (form_from w K bs) (form_from w K (form_reordered π w bs))
  unfolding form_from form_reordered
  read-moved bs h =
      let front = concat_below (chosen bs) K in
      let more = drop (K * w) bs in
      record {
        size = length-signeds w K bs;
        size' = length-signeds w K (front ++ more);
        d = ap (λ (l : List ℕ). signed (take w l)) (sym (drop_at front more (K * w) (length-concat w (chosen bs) K (length-chosen bs h))));
        moved = λ k l.
            at-signeds w K (front ++ more) k l
            ∙ ap signed (concat-at w (chosen bs) K (length-chosen bs h) more k l)
            ∙ sym (at-signeds w K bs (π.from k) (π.from_below k l));
      }

  parts : (t : Form) → form_bytes w t ≡ signeds_bytes w t.coeffs ++ signed_bytes w t.d
  unfolding form_bytes flat signeds_bytes
  parts t = rw (signeds_bytes-append, append-nil)

  -- What is written of the form moved.
  pub written-moved : {s t : Form} → Moved π s t → form_reordered π w (form_bytes w s) ≡ form_bytes w t
  unfolding form_reordered
  written-moved {s} {t} m =
      let front : length (signeds_bytes w s.coeffs) ≡ K * w = length-signeds_bytes w s.coeffs ∙ ap (λ (n : ℕ). n * w) m.size in
      let numbers : concat_below (chosen (form_bytes w s)) K ≡ signeds_bytes w t.coeffs
      = concat-are w (chosen (form_bytes w s)) K t.coeffs m.size' λ k h.
      ap (λ (l : List ℕ). take w (drop (π.from k * w) l)) (parts s)
      ∙ bytes-at w s.coeffs (signed_bytes w s.d) (π.from k) (subst (λ (n : ℕ). π.from k < n) (sym m.size) (π.from_below k h))
      ∙ ap (signed_bytes w) (sym (m.moved k h)) in
      let last : drop (K * w) (form_bytes w s) ≡ signed_bytes w t.d
      = ap (drop (K * w)) (parts s) ∙ drop_at (signeds_bytes w s.coeffs) (signed_bytes w s.d) (K * w) front ∙ ap (signed_bytes w) m.d in
      ap₂ (λ (x y : List ℕ). x ++ y) numbers last ∙ sym (parts t)
