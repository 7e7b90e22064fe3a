-- Loading the constraints of a bundle: one turn of each loop, and what the lines of the buffer then are. Assumes nothing.
use mathlib.Core.Path.{◌≡◌, refl, sym, ap, ap₂, ◌∙◌}
use mathlib.Core.Bool.{Bool, true, false}
use mathlib.Core.List.{List, [], ◌∷◌, ◌++◌, map, append_assoc, append-nil}
use mathlib.Core.Logic.{◌⊎◌, inl, inr, ⊎_elim}
use Prim.Native.Nat.{ℕ, zero, suc, ◌+◌, ◌*◌, ◌-◌, ◌≤◌, ◌<◌}
use native.Mathlib.Nat.{suc-mul, mul-le-mul_right, eq-zero-or-pos}
use native.Mathlib.Numerals.{add-one}
use native.Mathlib.Omega.{arith}
use lib.Dec.{T, leb→le}
use borrow.Author.Tests.{ltb-false, eqb-true}
use lib.IntN.{ℤ, pos, ◌*ℤ◌, zero-*ℤ}
use lib.ListN.{length, get_or, take, drop, set, replicate, length-replicate, get_or-replicate, length-append, length-drop, length-map, length-set}
use borrow.Rule.Slice.PartMut.{put_mid, same_len_mid}
use Rattle.std.specs.Prelude.{Ok, Err}
use Rattle.std.specs.declared.result.Result as code
use Rattle.std.proofs.lemmas.Slice.{put_mid-paste}
use Rattle.answers.specs.Refusals.{fault}
use Rattle.answers.specs.declared.refusals.Refusal.{Refusal}
use Rattle.answers.specs.declared.refusals.Fault.{Fault}
use lib.Seq.{paste, length-paste, length-take-le, take-take, take_all, take_at, get_or_at, get_or-set_same}
use Rattle.integers.specs.Magnitude.{Within}
use Rattle.forms.specs.Forms.{Form, LineKind, Line, kind_on, small, every, ◌·◌}
use Rattle.forms.specs.Flat.{constraint_kind_of, line_kind_of, form_in}
use Rattle.forms.proofs.Flat.{kind-in-A, kind-in-B, kind-apart-B}
use Rattle.calculus.specs.Rules.{◌▷◌}
use Rattle.number_bytes.specs.Numbers.{signed, signeds, flat, form_from}
use Rattle.number_bytes.proofs.Signed.{length-signeds, signeds-take, signeds-last}
use Rattle.fields.specs.Fields.{Fields, ends, cut, ◌▸◌}
use Rattle.fields.specs.Places.{fields_at, whole_field, next_of}
use Rattle.fields.specs.declared.WholeField.{WholeField}
use Rattle.fields.proofs.Places.{Starts, starts-size}
use Rattle.bundle.specs.Bundle.{form_small}
use Rattle.bundle_scan.specs.Scan.{fault_of, counted, stated}
use Rattle.bundle_scan.proofs.Scanning.{counted-on, passed-both, count_is, proper-of, tag-most}
use Rattle.lines.specs.Parts.{part, Agree}
use Rattle.number_bytes.proofs.Stores.{part-take}
use Rattle.lines.proofs.Parts.{part-paste, get_d_part, agree-sym, agree_trans, agree-le, agree-get_d, agree-part, agree-set, agree-paste}
use Rattle.lines.specs.Buffer.{size, times, line_in, lines_in, Bounded}
use Rattle.lines.proofs.Lines.{form-ext, line-ext, before, lines_more}
use Rattle.lines.proofs.Range.{every-at}
use Rattle.bundle_load.specs.Load.{Copies, NumbersStored, partial_of, partial_form, side_of, line_byte, line_of, Space, Loads, Loaded, form_line, Able}

le-or-lt : (a b : ℕ) → (a ≤ b) ⊎ (b < a)
le-or-lt a b = ⊎_elim (λ e. inl (omega arith)) (λ h. inr (omega arith)) (eq-zero-or-pos (a - b))

-- ---- numbers of a bundle
-- numbers read into their part
pub stored-all : {s : List ℕ} {start w n : ℕ} {buf : List ℤ} {at : ℕ} → Copies s start w n buf at → {k m : ℕ} {ys : List ℤ} → k ≡ n → m ≡ n → ys ≡ signeds w m (drop start s)
    → NumbersStored buf at (signeds w n (drop start s)) n (put_mid at k buf ys)
stored-all {s} {start} {w} {n} {buf} {at} q {k} {m} {ys} z f e = record {
  is = put_mid-paste at k buf ys (signeds w n (drop start s)) n (rw f at e) (sym z) (sym (length-signeds w n (drop start s)));
  small = q.small;
}

-- how many a part has
pub part-length : {X : Type 0} (at n : ℕ) (l : List X) → at + n ≤ length l → length (take (at + n - at) (drop at l)) ≡ n
part-length at n l h = let z : at + n - at ≡ n = omega arith in rw z (length-take-le n (drop at l) (rw length-drop (omega arith)))

pub same-length : {X : Type 0} (at n : ℕ) (l ys : List X) → at + n ≤ length l → length ys ≡ n → length (put_mid at (at + n - at) l ys) ≡ length l
same-length at n l ys h e = same_len_mid at (at + n - at) l ys (e ∙ sym (part-length at n l h))

-- ---- zeros
zero-small : Within 2147483647 (pos 0)
zero-small = record { abs = omega arith }

pub cleared : {buf : List ℤ} {at n k m : ℕ} {ys : List ℤ} → k ≡ n → m ≡ n → ys ≡ replicate m (pos 0) → NumbersStored buf at (replicate n (pos 0)) n (put_mid at k buf ys)
cleared {buf} {at} {n} {k} {m} {ys} z f e = record {
  is = put_mid-paste at k buf ys (replicate n (pos 0)) n (rw f at e) (sym z) (sym (length-replicate n (pos 0)));
  small = λ j l. rw (get_or-replicate n j (pos 0) (pos 0) l) zero-small;
}

-- ---- tA
zeros : (zs : List ℤ) → replicate (length zs) (pos 0) ≡ times (pos 0) zs
zeros [] = refl
zeros (z ∷ zs) = ap₂ (λ (x : ℤ) (y : List ℤ). x ∷ y) (sym (zero-*ℤ z)) (zeros zs)

module _ (in_a : Bool) (zs : List ℤ) {buf : List ℤ} {at n : ℕ} {buf' : List ℤ} where
  pub partial-A : in_a ≡ true → NumbersStored buf at zs n buf' → NumbersStored buf at (partial_of in_a zs) n buf'
  partial-A e p = rw e p

  pub partial-B : in_a ≡ false → length zs ≡ n → NumbersStored buf at (replicate n (pos 0)) n buf' → NumbersStored buf at (partial_of in_a zs) n buf'
  partial-B e l p =
      let z : replicate n (pos 0) ≡ times (pos 0) zs = ap (λ (m : ℕ). replicate m (pos 0)) (sym l) ∙ zeros zs in
      rw e (rw z at p)

-- ---- the form that K + 1 numbers are
pub form_of : (K : ℕ) (buf : List ℤ) (at : ℕ) (t : Form) → length t.coeffs ≡ K → part at (K + 1) buf ≡ flat t → form_in K buf at ≡ t
unfolding flat
form_of K buf at t h e =
    form-ext
    (sym (take-take K (K + 1) (drop at buf) (omega arith)) ∙ ap (take K) e ∙ take_at t.coeffs (t.d ∷ []) K h)
    (sym (get_d_part at (K + 1) buf K (pos 0) (omega arith)) ∙ ap (λ (l : List ℤ). get_or l K (pos 0)) e ∙ get_or_at t.coeffs t.d [] (pos 0) K h)

flat-from : (w K : ℕ) (bs : List ℕ) → flat (form_from w K bs) ≡ signeds w (K + 1) bs
unfolding flat form_from
flat-from w K bs = sym (rw (add-one K) (signeds-last w K bs))

map_snoc : (f : ℤ → ℤ) (l : List ℤ) (z : ℤ) → map f l ++ (f z ∷ []) ≡ map f (l ++ (z ∷ []))
map_snoc f [] z = refl
map_snoc f (x ∷ l) z = ap (λ (m : List ℤ). f x ∷ m) (map_snoc f l z)

flat-partial : (in_a : Bool) (t : Form) → flat (partial_form in_a t) ≡ partial_of in_a (flat t)
unfolding flat ◌·◌
flat-partial true t = refl
flat-partial false t = map_snoc (λ (c : ℤ). pos 0 *ℤ c) t.coeffs t.d

partial-coeffs : (in_a : Bool) (t : Form) → length (partial_form in_a t).coeffs ≡ length t.coeffs
unfolding ◌·◌
partial-coeffs true t = refl
partial-coeffs false t = length-map t.coeffs (λ (c : ℤ). pos 0 *ℤ c)

partial-length : (in_a : Bool) (zs : List ℤ) → length (partial_of in_a zs) ≡ length zs
partial-length true zs = refl
partial-length false zs = length-map zs (λ (c : ℤ). pos 0 *ℤ c)

from-coeffs : (w K : ℕ) (bs : List ℕ) → length (form_from w K bs).coeffs ≡ K
unfolding form_from
from-coeffs w K bs = length-signeds w K bs

-- ---- room for lines
pub space-less : {K c d : ℕ} {kinds : List ℕ} {buf : List ℤ} → d ≤ c → Space K c kinds buf → Space K d kinds buf
space-less {K} h s = record { constants = s.constants; room = omega (arith, s.room, mul-le-mul_right (size K) h); most = omega (arith, s.most); kinds_room = omega (arith, s.kinds_room) }

-- it is kept where the lengths are
pub space-kept : {K c : ℕ} {kinds kinds₁ : List ℕ} {buf buf₁ : List ℤ} → length kinds₁ ≡ length kinds → length buf₁ ≡ length buf → Space K c kinds buf → Space K c kinds₁ buf₁
space-kept k l s = record { constants = s.constants; room = omega (arith, s.room); most = s.most; kinds_room = omega (arith, s.kinds_room) }

pub space-end : {K n : ℕ} {kinds : List ℕ} {buf : List ℤ} → Space K (suc n) kinds buf → n * size K + size K ≤ length buf
space-end {K} {n} s = omega (arith, s.room, before K {i = n} {n = suc n} (omega arith))

-- ---- a line is loaded by its two forms
put-part : (l : List ℤ) (d : ℕ) (s : List ℤ) (w : ℕ) → d ≤ length l → length s ≡ w → part d w (paste l d s w) ≡ s
put-part l d s w h e =
    let z : d + 0 ≡ d = omega arith in
    (rw z at (part-paste l d s w h 0 w (omega arith) (omega arith))) ∙ take_all w s (omega arith)

module _ (K : ℕ) (kinds : List ℕ) (buf : List ℤ) (n : ℕ) (kind : ℕ) (zs za : List ℤ) (sp : Space K (suc n) kinds buf) (lz : length zs ≡ K + 1) (la : length za ≡ K + 1)
    {buf₁ buf₂ : List ℤ} (p : NumbersStored buf (n * size K) zs (K + 1) buf₁) (q : NumbersStored buf₁ (n * size K + (K + 1)) za (K + 1) buf₂) where
  end : n * size K + size K ≤ length buf
  end = space-end sp

  len₁ : length buf₁ ≡ length buf
  len₁ = ap length p.is ∙ length-paste buf (n * size K) zs (K + 1) (omega (arith, end)) (omega arith)

  len₂ : length buf₂ ≡ length buf
  len₂ = ap length q.is ∙ length-paste buf₁ (n * size K + (K + 1)) za (K + 1) (omega (arith, end, len₁)) (omega arith) ∙ len₁

  agree₁ : Agree (n * size K) buf₁ buf
  agree₁ = rw p.is (agree-sym (agree-paste (n * size K) buf (n * size K) zs (K + 1) (omega (arith, end)) (omega arith)))

  agree₂ : Agree (n * size K + (K + 1)) buf₂ buf₁
  agree₂ = rw q.is (agree-sym (agree-paste (n * size K + (K + 1)) buf₁ (n * size K + (K + 1)) za (K + 1) (omega (arith, end, len₁)) (omega arith)))

  kept : Agree (n * size K) buf₂ buf
  kept = agree_trans (agree-le (omega arith) agree₂) agree₁

  t-part : part (n * size K) (K + 1) buf₂ ≡ zs
  t-part = agree-part agree₂ (n * size K) (K + 1) (omega arith) ∙ ap (part (n * size K) (K + 1)) p.is ∙ put-part buf (n * size K) zs (K + 1) (omega (arith, end)) lz

  t_A-part : part (n * size K + (K + 1)) (K + 1) buf₂ ≡ za
  t_A-part = ap (part (n * size K + (K + 1)) (K + 1)) q.is ∙ put-part buf₁ (n * size K + (K + 1)) za (K + 1) (omega (arith, end, len₁)) la

  -- a number of the new line
  small-t : (y : ℕ) → y < K + 1 → Within 2147483647 (get_or buf₂ (n * size K + y) (pos 0))
  small-t y h =
      let e : get_or zs y (pos 0) ≡ get_or buf₂ (n * size K + y) (pos 0) = ap (λ (l : List ℤ). get_or l y (pos 0)) (sym t-part) ∙ get_d_part (n * size K) (K + 1) buf₂ y (pos 0) h in
      rw e at (p.small y h)

  small-t_a : (y : ℕ) → y < K + 1 → Within 2147483647 (get_or buf₂ (n * size K + (K + 1) + y) (pos 0))
  small-t_a y h =
      let e : get_or za y (pos 0) ≡ get_or buf₂ (n * size K + (K + 1) + y) (pos 0)
      = ap (λ (l : List ℤ). get_or l y (pos 0)) (sym t_A-part) ∙ get_d_part (n * size K + (K + 1)) (K + 1) buf₂ y (pos 0) h in
      rw e at (q.small y h)

  small_at : Bounded K buf n → (x : ℕ) → x < (n + 1) * size K → Within 2147483647 (get_or buf₂ x (pos 0))
  small_at b x h =
      let whole : (n + 1) * size K ≡ n * size K + size K = (let z : n + 1 ≡ suc n = omega arith in rw z (suc-mul n (size K))) in
      ⊎_elim
      (λ (g : n * size K ≤ x). ⊎_elim
      (λ (g₂ : n * size K + (K + 1) ≤ x).
      let e : n * size K + (K + 1) + (x - (n * size K + (K + 1))) ≡ x = omega arith in
      rw e at (small-t_a (x - (n * size K + (K + 1))) (omega (arith, whole))))
      (λ (l₂ : x < n * size K + (K + 1)).
      let e : n * size K + (x - n * size K) ≡ x = omega arith in
      rw e at (small-t (x - n * size K) (omega arith)))
      (le-or-lt (n * size K + (K + 1)) x))
      (λ (l : x < n * size K). rw (agree-get_d kept x (pos 0) l) (b.small x l))
      (le-or-lt (n * size K) x)

  line-loaded : {κ : LineKind} → line_kind_of kind ≡ κ → (t t_A : Form) → length t.coeffs ≡ K → length t_A.coeffs ≡ K → flat t ≡ zs → flat t_A ≡ za
      → Loaded K kinds buf n (record { kind = κ; t = t; t_A = t_A } ∷ []) (set kinds n kind) buf₂
  unfolding line_in
  line-loaded {κ} named t t_A ct cA ft fA =
      let one : n + 1 ≡ suc n = omega arith in
      let is : line_in K (set kinds n kind) buf₂ n ≡ record { kind = κ; t = t; t_A = t_A }
      = line-ext (ap line_kind_of (get_or-set_same kinds n kind 0 (omega (arith, sp.most, sp.kinds_room))) ∙ named)
      (form_of K buf₂ (n * size K) t ct (t-part ∙ sym ft))
      (form_of K buf₂ (n * size K + (K + 1)) t_A cA (t_A-part ∙ sym fA)) in
      record {
        lines = rw one (lines_more K n (agree-sym kept) (agree-set n kinds n kind (omega arith)) ∙ ap (λ (l : Line). lines_in K kinds buf n ▷ l) is);
        bounded = λ b. record { small = small_at b };
        kinds_length = length-set kinds n kind;
        lines_length = len₂;
      }

line-named : (in_a : Bool) (kind : ℕ) → kind ≤ 2 → line_kind_of (line_byte in_a kind) ≡ kind_on (side_of in_a) (constraint_kind_of kind)
line-named true kind h = kind-in-A kind h
line-named false zero h = kind-in-B 0 (omega arith)
line-named false (suc zero) h = kind-in-B 1 (omega arith)
line-named false (suc (suc zero)) h = kind-apart-B
line-named false (suc (suc (suc kind))) h = absurd (omega arith)

-- A form whose numbers are within the range, number by number.
pub numbers-small : (w K : ℕ) (bs : List ℕ) → T (form_small 2_147_483_647 (form_from w K bs)) → (j : ℕ) → j < K + 1 → Within 2_147_483_647 (get_or (signeds w (K + 1) bs) j (pos 0))
unfolding form_small small
numbers-small w K bs t j h =
    let u : T (every (small 2_147_483_647) (signeds w (K + 1) bs)) = rw (← flat-from w K bs) t in
    record { abs = leb→le _ _ (every-at (small 2_147_483_647) (signeds w (K + 1) bs) j (pos 0) u (omega (arith, length-signeds w (K + 1) bs))) }

-- The form at a place and its tA.
module _ {s : List ℕ} {start w K kind : ℕ} {kinds : List ℕ} {buf : List ℤ} {n : ℕ} (g : Loads s start w K kind kinds buf n) where
  -- both have room
  pub copies-t : {at : ℕ} → at ≡ n * size K → Copies s start w (K + 1) buf at
  copies-t e = record { bytes = g.bytes; room = omega (arith, space-end g.space, e); small = numbers-small w K (drop start s) g.small }

  pub copies-t_a : {at : ℕ} {buf₁ : List ℤ} → at ≡ n * size K → length buf₁ ≡ length buf → Copies s start w (K + 1) buf₁ (at + (K + 1))
  copies-t_a {at} e q = record { bytes = g.bytes; room = omega (arith, space-end g.space, e); small = numbers-small w K (drop start s) g.small }

  pub form-loaded : (in_a : Bool) {buf₁ buf₂ : List ℤ} → NumbersStored buf (n * size K) (signeds w (K + 1) (drop start s)) (K + 1) buf₁
      → NumbersStored buf₁ (n * size K + (K + 1)) (partial_of in_a (signeds w (K + 1) (drop start s))) (K + 1) buf₂
      → Loaded K kinds buf n (form_line in_a w K kind s start ∷ []) (set kinds n (line_byte in_a kind)) buf₂
  form-loaded in_a p q =
      let t = form_from w K (drop start s) in
      let l = length-signeds w (K + 1) (drop start s) in
      line-loaded K kinds buf n (line_byte in_a kind) (signeds w (K + 1) (drop start s)) (partial_of in_a (signeds w (K + 1) (drop start s))) g.space l
      (partial-length in_a (signeds w (K + 1) (drop start s)) ∙ l) p q
      (line-named in_a kind g.kind_few) t (partial_form in_a t) (from-coeffs w K (drop start s)) (partial-coeffs in_a t ∙ from-coeffs w K (drop start s)) (flat-from w K (drop start s))
      (flat-partial in_a t ∙ ap (partial_of in_a) (flat-from w K (drop start s)))

-- ---- lines one after the other
pub loaded-none : {K : ℕ} {kinds : List ℕ} {buf : List ℤ} {n : ℕ} → Loaded K kinds buf n [] kinds buf
loaded-none {K} {kinds} {buf} {n} =
    let z : n + 0 ≡ n = omega arith in
    record { lines = rw z (sym (append-nil (lines_in K kinds buf n))); bounded = λ b. rw z b; kinds_length = refl; lines_length = refl }

pub loaded-then : {K : ℕ} {kinds kinds₁ kinds₂ : List ℕ} {buf buf₁ buf₂ : List ℤ} {n : ℕ} {ls ms : List Line}
    → Loaded K kinds buf n ls kinds₁ buf₁ → Loaded K kinds₁ buf₁ (n + length ls) ms kinds₂ buf₂ → Loaded K kinds buf n (ls ++ ms) kinds₂ buf₂
loaded-then {K} {kinds} {buf} {n} {ls} {ms} p q =
    let z : n + length (ls ++ ms) ≡ n + length ls + length ms = omega (arith, length-append ls ms) in
    record {
      lines = rw z (q.lines ∙ ap (λ (x : List Line). x ++ ms) p.lines ∙ append_assoc (lines_in K kinds buf n) ls ms);
      bounded = λ b. rw z (q.bounded (p.bounded b));
      kinds_length = q.kinds_length ∙ p.kinds_length;
      lines_length = q.lines_length ∙ p.lines_length;
    }

-- ---- what stands behind a form's bytes does not matter
form-front : (w K m : ℕ) (bs : List ℕ) → suc K * w ≤ m → form_from w K (take m bs) ≡ form_from w K bs
unfolding form_from
form-front w K m bs h =
    form-ext
    (signeds-take w K m bs (omega (arith, suc-mul K w)))
    (ap signed (part-take (K * w) w m bs (omega (arith, suc-mul K w))))

-- ---- the fields of a bundle
-- The invariant: what is left to load gives what the whole gives.
pub record Loading (in_a : Bool) (s : List ℕ) (at w K : ℕ) (kinds₀ : List ℕ) (buf₀ : List ℤ) (n : ℕ) (kinds : List ℕ) (buf : List ℤ) (here m : ℕ) : Type 0 where
  pub done : ℕ
  pub m-is : m ≡ n + done
  pub total : ℕ
  pub space : Space K (n + total) kinds buf
  pub is : counted w K done (fields_at s here) ≡ Ok total
  pub kinds_length : length kinds ≡ length kinds₀
  pub lines_length : length buf ≡ length buf₀
  pub rest : {kinds' : List ℕ} {buf' : List ℤ} → Loaded K kinds buf m (map (line_of in_a) (stated w K (fields_at s here))) kinds' buf'
      → Loaded K kinds₀ buf₀ n (map (line_of in_a) (stated w K (fields_at s at))) kinds' buf'

pub loading-start : {in_a : Bool} {s : List ℕ} {at w K : ℕ} {kinds : List ℕ} {buf : List ℤ} {n : ℕ} → Able w K (fields_at s at) kinds buf n → Loading in_a s at w K kinds buf n kinds buf at n
loading-start a = record { done = 0; m-is = omega arith; total = a.m; space = a.space; is = a.is; kinds_length = refl; lines_length = refl; rest = λ l. l }

-- What a turn needs.
pub record Fit (s : List ℕ) (w K : ℕ) (kinds : List ℕ) (buf : List ℤ) (m tag start len : ℕ) : Type 0 where
  pub from : 3 ≤ tag
  pub len_is : len ≡ suc K * w
  pub loads : Loads s start w K (tag - 3) kinds buf m

module _ {in_a : Bool} {s : List ℕ} {at w K : ℕ} {kinds₀ : List ℕ} {buf₀ : List ℤ} {n : ℕ} {kinds : List ℕ} {buf : List ℤ} {here m : ℕ}
    (v : Loading in_a s at w K kinds₀ buf₀ n kinds buf here m) where
  module _ {a tag start len next : ℕ} (k : Starts s here a tag start len next) where
    on : (fault_of w K v.done tag (take len (drop start s)) ≡ Ok tt) × (counted w K (suc v.done) (fields_at s next) ≡ Ok v.total)
    on = passed-both (fault_of w K v.done tag (take len (drop start s))) a v.total (counted w K (suc v.done) (fields_at s next)) (sym (counted-on k w K v.done) ∙ v.is)

    pub fit : Fit s w K kinds buf m tag start len
    fit =
        let r = proper-of w K v.done tag (take len (drop start s)) on.0 in
        let l : len ≡ suc K * w = sym (starts-size k) ∙ eqb-true (length (take len (drop start s))) (suc K * w) r.size in
        let one : K + 1 ≡ suc K = omega arith in
        record {
          from = ltb-false tag 3 r.from;
          len_is = l;
          loads = record {
            space = space-less (omega (arith, v.m-is, count_is w K (suc v.done) v.total (fields_at s next) on.1)) v.space;
            bytes = rw one (omega (arith, k.upto, k.next-is, l));
            small = rw (← form-front w K len (drop start s) (omega arith), r.range) tt;
            kind_few = omega (arith, tag-most tag r.has r.from);
          };
        }

    line-is : form_line in_a w K (tag - 3) s start ≡ line_of in_a (record { kind = constraint_kind_of (tag - 3); form = form_from w K (take len (drop start s)) })
    line-is = ap (λ (t : Form). line_of in_a (record { kind = constraint_kind_of (tag - 3); form = t })) (sym (form-front w K len (drop start s) (omega (arith, fit.len_is))))

    pub loading-next : {kinds₁ : List ℕ} {buf₁ : List ℤ} → Loaded K kinds buf m (form_line in_a w K (tag - 3) s start ∷ []) kinds₁ buf₁
        → Loading in_a s at w K kinds₀ buf₀ n kinds₁ buf₁ next (m + 1)
    unfolding stated
    loading-next p =
        let fs : map (line_of in_a) (stated w K (fields_at s here)) ≡ form_line in_a w K (tag - 3) s start ∷ map (line_of in_a) (stated w K (fields_at s next))
        = rw k.is (ap (λ (l : Line). l ∷ map (line_of in_a) (stated w K (fields_at s next))) (sym line-is)) in
        record {
          done = suc v.done;
          m-is = omega (arith, v.m-is);
          total = v.total;
          space = space-kept p.kinds_length p.lines_length v.space;
          is = on.1;
          kinds_length = p.kinds_length ∙ v.kinds_length;
          lines_length = p.lines_length ∙ v.lines_length;
          rest = λ l. v.rest (rw fs (loaded-then p l));
        }

  -- where no field follows, all is loaded: bytes that are no whole field would be a fault
  pub loading-done : ((f : WholeField) → next_of (fields_at s here) ≡ Ok f → ⊥) → Loaded K kinds₀ buf₀ n (map (line_of in_a) (stated w K (fields_at s at))) kinds buf
  unfolding stated counted
  loading-done none = go (fields_at s here) refl
    where
      go : (fs : Fields) → fields_at s here ≡ fs → Loaded K kinds₀ buf₀ n (map (line_of in_a) (stated w K (fields_at s at))) kinds buf
      go (ends a) e = v.rest (rw e loaded-none)
      go (cut a) e =
          absurd
          (let q : ◌≡◌ {A = code.Result ℕ Fault} (Err (fault Refusal.Truncated a)) (Ok v.total) = sym (rw e) ∙ v.is in
          let z : ◌≡◌ {A = ℕ} 0 1 = cc in omega arith)
      go (f ▸ fs) e = absurd (none (whole_field f.at f.tag (length f.contents)) (rw e))
