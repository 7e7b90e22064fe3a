-- What was found, written into the output. Assumes nothing.
use mathlib.Core.Path.{◌≡◌, refl, sym, ◌∙◌, ap, ap₂, subst}
use mathlib.Core.Bool.{Bool}
use mathlib.Core.List.{List, [], ◌∷◌, ◌++◌, map}
use Prim.Native.Nat.{ℕ, suc, ◌+◌, ◌*◌, ◌≤◌, ◌<◌}
use native.Mathlib.Omega.{arith}
use borrow.Author.Tests.{le-leb, lt-leb}
use lib.ListN.{length, get_or, drop, length-append}
use lib.Seq.{sets, drop-cons}
use Rattle.calculus.specs.Rules.{Row, Derive}
use Rattle.answers.specs.declared.WriteResult.{WriteResult}
use Rattle.answers.specs.Answers.{answer, acceptance, accepted, over, fit, Written, written}
use Rattle.answers.proofs.Over.{sets_over}
use Rattle.number_bytes.proofs.Stores.{sets-append}
use Rattle.fields.specs.Fields.{file_of, field_bytes}
use Rattle.fields.specs.Header.{header_bytes}
use Rattle.fields.proofs.Headers.{length-header_bytes}
use Rattle.enumeration.specs.ShortProofs.{row_item, proof_file}
use Rattle.enumeration.specs.Numbering.{inference_at, close_at, row_bytes, inference_bytes, close_bytes}
use Rattle.enumeration.specs.Search as search
use Rattle.enumeration.specs.Search.{Found, rows_bytes, found_file}
use Rattle.enumeration.proofs.Searched.{append_assoc, append-nil, rows-one}
use Rattle.enumeration.proofs.Numbered.{inference-bytes, close-bytes}
use Rattle.std.proofs.lemmas.List.{drop_all}
use Rattle.check_output.proofs.Delivering.{unwritten}
use Rattle.enumeration_rows.specs.Delivered.{WritesFound}
use Rattle.enumeration_rows.specs.Searching.{rows_at, NumbersAt}
use Rattle.enumeration_rows.proofs.Stored.{inference-size, close-size}

-- ---- the output
done : List ℕ → List ℕ → ℕ → Written
done bytes out n = record { answer = answer 0 0 0; count = n; output = over bytes out }

fit-short : (bytes out : List ℕ) (n : ℕ) → length bytes ≡ n → length out < n → written (accepted bytes) out ≡ record { answer = answer 21 4 n; count = 0; output = out }
unfolding written fit
fit-short bytes out n e h = ap (λ (b : Bool). fit out b bytes) (lt-leb (length bytes) (length out) (omega arith)) ∙ rw e

fit-done : (bytes out : List ℕ) (n : ℕ) → length bytes ≡ n → n ≤ length out → written (accepted bytes) out ≡ record { answer = answer 0 0 0; count = n; output = over bytes out }
unfolding written fit done
fit-done bytes out n e h = ap (λ (b : Bool). fit out b bytes) (le-leb (length bytes) (length out) (omega arith)) ∙ ap (done bytes out) e

module _ {K : ℕ} {f : Found} {out : List ℕ} (bytes : List ℕ) (is : found_file K f ≡ accepted bytes) {needed : ℕ} (size : length bytes ≡ needed) where
  pub tell-short : {r : WriteResult} → length out < needed → r ≡ unwritten 21 4 needed → WritesFound K f out out r
  tell-short h e = record { is = rw (e, is) (sym (fit-short bytes out needed size h)) }

  pub tell-done : {out' : List ℕ} {r : WriteResult} → needed ≤ length out → out' ≡ sets out 0 bytes → r ≡ record { answer = acceptance; count = needed } → WritesFound K f out out' r
  tell-done {out'} h e q =
      let w : out' ≡ over bytes out = e ∙ sets_over bytes out (omega arith) in
      record { is = rw (q, w, is) (sym (fit-done bytes out needed size h)) }

-- ---- the tables
table-headed : (K : ℕ) (rs : List Row) → proof_file K rs ≡ header_bytes 1 K ++ rows_bytes rs
unfolding proof_file header_bytes rows_bytes file_of
table-headed K rs = sym (append_assoc (field_bytes 0x01 (1 ∷ [])) (field_bytes 0x02 (K ∷ [])) (file_of (map row_item rs)))

rows_none : rows_bytes [] ≡ []
unfolding rows_bytes file_of
rows_none = refl

one-row : (r : Row) → rows_bytes (r ∷ []) ≡ row_bytes r
one-row r = rows-one r [] ∙ ap (λ (bs : List ℕ). row_bytes r ++ bs) rows_none ∙ append-nil (row_bytes r)

-- the bytes of the inferences js and of close c
abbrev pub bytes_at : (n : ℕ) (js : List ℕ) (c : ℕ) → List ℕ
bytes_at n [] c = close_bytes n c
bytes_at n (j ∷ js) c = inference_bytes n j ++ bytes_at (n + 1) js c

pub length-bytes_at : (n : ℕ) (js : List ℕ) (c : ℕ) → length (bytes_at n js c) ≤ 9 * length js + 6
length-bytes_at n [] c = omega (arith, close-size n c)
length-bytes_at n (j ∷ js) c = omega (arith, length-append (inference_bytes n j) (bytes_at (n + 1) js c), inference-size n j, length-bytes_at (n + 1) js c)

rows-bytes : (n : ℕ) (js : List ℕ) (c : ℕ) → n + length js ≤ 6 → NumbersAt n js c → rows_bytes (rows_at n js c) ≡ bytes_at n js c
rows-bytes n [] c h l = one-row (close_at n c) ∙ close-bytes n c (omega arith) l
rows-bytes n (j ∷ js) c h (l, m) = rows-one (Derive (inference_at n j)) (rows_at (n + 1) js c) ∙ ap₂ (λ (xs ys : List ℕ). xs ++ ys) (inference-bytes n j (omega arith) l) (rows-bytes (n + 1) js c (omega arith) m)

pub told-rows : (K n : ℕ) (js : List ℕ) (c : ℕ) → n + length js ≤ 6 → NumbersAt n js c → found_file K (search.at (rows_at n js c)) ≡ accepted (header_bytes 1 K ++ bytes_at n js c)
unfolding found_file
told-rows K n js c h l = ap accepted (table-headed K (rows_at n js c) ∙ ap (λ (bs : List ℕ). header_bytes 1 K ++ bs) (rows-bytes n js c h l))

pub headed-size : (K : ℕ) (xs : List ℕ) → length (header_bytes 1 K ++ xs) ≡ 8 + length xs
headed-size K xs = omega (arith, length-append (header_bytes 1 K) xs, length-header_bytes 1 K)

-- ---- one row after the other: the rows from the i-th on stand from `at` on
pub record RowsLeft (n : ℕ) (js : List ℕ) (c i at : ℕ) : Type 0 where
  pub within : NumbersAt (n + i) (drop i js) c
  pub size : at + length (bytes_at (n + i) (drop i js) c) ≡ 8 + length (bytes_at n js c)

module _ {n : ℕ} {js : List ℕ} {c : ℕ} where
  pub rows-start : NumbersAt n js c → RowsLeft n js c 0 8
  rows-start h = let z : n ≡ n + 0 = omega arith in record { within = subst (λ (m : ℕ). NumbersAt m js c) z h; size = ap (λ (m : ℕ). 8 + length (bytes_at m js c)) (sym z) }

  module _ {i at : ℕ} (left : RowsLeft n js c i at) where
    pub rows-few : at ≤ 14 + 9 * length js
    rows-few = omega (arith, left.size, length-bytes_at n js c)

    module _ {j : ℕ} (h : i < length js) (e : j ≡ get_or js i 0) where
      front : NumbersAt (n + i) (j ∷ drop (suc i) js) c
      front = subst (λ (xs : List ℕ). NumbersAt (n + i) xs c) (drop-cons js i 0 h ∙ ap (λ (j : ℕ). j ∷ drop (suc i) js) (sym e)) left.within

      rest-is : bytes_at (n + i) (drop i js) c ≡ inference_bytes (n + i) j ++ bytes_at (n + (i + 1)) (drop (i + 1) js) c
      rest-is =
          let a : n + i + 1 ≡ n + (i + 1) = omega arith in
          let b : suc i ≡ i + 1 = omega arith in
          ap (λ (xs : List ℕ). bytes_at (n + i) xs c) (drop-cons js i 0 h ∙ ap (λ (j : ℕ). j ∷ drop (suc i) js) (sym e))
          ∙ ap₂ (λ (m k : ℕ). inference_bytes (n + i) j ++ bytes_at m (drop k js) c) a b

      rest-size : length (bytes_at (n + i) (drop i js) c) ≡ length (inference_bytes (n + i) j) + length (bytes_at (n + (i + 1)) (drop (i + 1) js) c)
      rest-size = ap length rest-is ∙ length-append (inference_bytes (n + i) j) (bytes_at (n + (i + 1)) (drop (i + 1) js) c)

      pub rows-on : {size : ℕ} → size ≡ length (inference_bytes (n + i) j) → RowsLeft n js c (i + 1) (at + size)
      rows-on q =
          let a : n + i + 1 ≡ n + (i + 1) = omega arith in
          let b : suc i ≡ i + 1 = omega arith in
          record {
            within = subst (λ (k : ℕ). NumbersAt (n + (i + 1)) (drop k js) c) b (subst (λ (m : ℕ). NumbersAt m (drop (suc i) js) c) a front.1);
            size = omega (arith, q, rest-size, left.size);
          }

    module _ (h : length js ≤ i) (k : i ≤ length js) where
      none : drop i js ≡ []
      none = drop_all i js h

      at-end : i ≡ length js
      at-end = omega arith

      pub close-left : bytes_at (n + i) (drop i js) c ≡ close_bytes (n + length js) c
      close-left = ap (λ (xs : List ℕ). bytes_at (n + i) xs c) none ∙ ap (λ (i : ℕ). close_bytes (n + i) c) at-end

      pub close-size-left : at + length (close_bytes (n + length js) c) ≡ 8 + length (bytes_at n js c)
      close-size-left = omega (arith, left.size, ap length close-left)

-- what is left to write is the whole from the start
pub record TableLeft (K n : ℕ) (js : List ℕ) (c : ℕ) (out₀ : List ℕ) (i at : ℕ) (out : List ℕ) : Type 0 where
  pub rows : RowsLeft n js c i at
  pub puts : sets out at (bytes_at (n + i) (drop i js) c) ≡ sets out₀ 0 (header_bytes 1 K ++ bytes_at n js c)

module _ {K n : ℕ} {js : List ℕ} {c : ℕ} {out₀ : List ℕ} where
  pub table-start : NumbersAt n js c → {out : List ℕ} → out ≡ sets out₀ 0 (header_bytes 1 K) → TableLeft K n js c out₀ 0 8 out
  table-start h {out} e =
      let z : n + 0 ≡ n = omega arith in
      let eight : 8 ≡ 0 + length (header_bytes 1 K) = omega (arith, length-header_bytes 1 K) in
      record {
        rows = rows-start h;
        puts = ap₂ (λ (o : List ℕ) (m : ℕ). sets o 8 (bytes_at m js c)) e z
            ∙ ap (λ (p : ℕ). sets (sets out₀ 0 (header_bytes 1 K)) p (bytes_at n js c)) eight
            ∙ sym (sets-append (header_bytes 1 K) (bytes_at n js c) out₀ 0);
      }

  module _ {i at : ℕ} {out : List ℕ} (left : TableLeft K n js c out₀ i at out) where
    pub table-on : {j : ℕ} → i < length js → j ≡ get_or js i 0 → {out' : List ℕ} → out' ≡ sets out at (inference_bytes (n + i) j) → {size : ℕ} → size ≡ length (inference_bytes (n + i) j)
        → TableLeft K n js c out₀ (i + 1) (at + size) out'
    table-on {j} h e {out'} p {size} q = record {
      rows = rows-on left.rows h e q;
      puts = ap₂ (λ (o : List ℕ) (s : ℕ). sets o (at + s) (bytes_at (n + (i + 1)) (drop (i + 1) js) c)) p q
          ∙ sym (sets-append (inference_bytes (n + i) j) (bytes_at (n + (i + 1)) (drop (i + 1) js) c) out at)
          ∙ ap (sets out at) (sym (rest-is left.rows h e)) ∙ left.puts;
    }

    pub table-closed : length js ≤ i → i ≤ length js → {out' : List ℕ} → out' ≡ sets out at (close_bytes (n + length js) c) → out' ≡ sets out₀ 0 (header_bytes 1 K ++ bytes_at n js c)
    table-closed h k p = p ∙ ap (sets out at) (sym (close-left left.rows h k)) ∙ left.puts
