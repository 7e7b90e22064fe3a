-- The call's answer is what the search finds. Assumes nothing.
use mathlib.Core.Path.{◌≡◌, refl, sym, ◌∙◌, ap, ap₂}
use mathlib.Core.Bool.{Bool, true, false}
use mathlib.Core.List.{List, [], ◌∷◌, ◌++◌, map}
use Prim.Native.Nat.{ℕ, ◌≤◌}
use native.Mathlib.Omega.{arith}
use lib.Dec.{T}
use lib.ListN.{length, drop, length-drop}
use Rattle.forms.specs.Forms.{Line}
use Rattle.calculus.specs.Rules.{Row}
use Rattle.answers.specs.Answers.{answer, file_lent, Result, refused, accepted, ◌>>=◌}
use Rattle.answers.proofs.Results.{binds}
use Rattle.number_bytes.specs.Same.{same_bytes}
use Rattle.fields.specs.Fields.{file_of, field_bytes}
use Rattle.fields.specs.Header.{header_bytes}
use Rattle.fields.proofs.Headers.{length-header_bytes}
use Rattle.enumeration.specs.ShortProofs.{row_item, proof_file}
use Rattle.enumeration.specs.Sequence.{proofs_of, short_proofs_of, short_proofs}
use Rattle.enumeration.specs.Next.{first_rows, following, next_rows, next_file}
use Rattle.enumeration.specs.Numbering.{begins}
use Rattle.enumeration.specs.Search.{Found, not_among, none_left, at, first_found, rows_bytes, next_found, if_none_left, if_not_among, first_of_depths, next_of_depths, found_file}
use Rattle.enumeration.proofs.Searched.{first-append, next-append, else-not-among, append_assoc, same-behind, same_not}

-- ---- one, two and three rows
or-none-left : (f : Found) → if_none_left f none_left ≡ f
unfolding if_none_left
or-none-left not_among = refl
or-none-left none_left = refl
or-none-left (at rs) = refl

module _ (ls : List Line) where
  two-heads : first_found (proofs_of 1 ls ++ proofs_of 2 ls) ≡ first_of_depths 2 1 ls
  unfolding first_of_depths
  two-heads = first-append (proofs_of 1 ls) (proofs_of 2 ls) ∙ ap (if_none_left (first_found (proofs_of 1 ls))) (sym (or-none-left (first_found (proofs_of 2 ls))))

  short-heads : first_found (short_proofs_of ls) ≡ first_of_depths 3 0 ls
  unfolding short_proofs_of first_of_depths
  short-heads = first-append (proofs_of 0 ls) (proofs_of 1 ls ++ proofs_of 2 ls) ∙ ap (if_none_left (first_found (proofs_of 0 ls))) two-heads

  module _ (g : List ℕ) where
    three : next_found g (proofs_of 2 ls) ≡ next_of_depths 1 2 g ls
    unfolding next_of_depths first_of_depths
    three = sym (else-not-among (if_none_left (next_found g (proofs_of 2 ls)) none_left) ∙ or-none-left (next_found g (proofs_of 2 ls)))

    two : next_found g (proofs_of 1 ls ++ proofs_of 2 ls) ≡ next_of_depths 2 1 g ls
    unfolding next_of_depths first_of_depths
    two = next-append g (proofs_of 1 ls) (proofs_of 2 ls)
        ∙ ap₂ (λ (h f : Found). if_not_among (if_none_left (next_found g (proofs_of 1 ls)) h) f) (sym (or-none-left (first_found (proofs_of 2 ls)))) three

    short-follow : next_found g (short_proofs_of ls) ≡ next_of_depths 3 0 g ls
    unfolding short_proofs_of next_of_depths
    short-follow = next-append g (proofs_of 0 ls) (proofs_of 1 ls ++ proofs_of 2 ls)
        ∙ ap₂ (λ (h f : Found). if_not_among (if_none_left (next_found g (proofs_of 0 ls)) h) f) two-heads two

-- ---- the header
table-headed : (K : ℕ) (rs : List Row) → proof_file K rs ≡ header_bytes 1 K ++ rows_bytes rs
unfolding proof_file header_bytes rows_bytes file_of
table-headed K rs = sym (append_assoc (field_bytes 0x01 (1 ∷ [])) (field_bytes 0x02 (K ∷ [])) (file_of (map row_item rs)))

module _ (K : ℕ) (given : List ℕ) where
  first-told : (rss : List (List Row)) → (first_rows rss >>= λ rs. accepted (proof_file K rs)) ≡ found_file K (first_found rss)
  unfolding first_rows first_found found_file ◌>>=◌
  first-told [] = refl
  first-told (rs ∷ rss) = refl

  pick : (b d : Bool) (x y : Result (List Row)) (u v : Found) → b ≡ d → (x >>= λ rs. accepted (proof_file K rs)) ≡ found_file K u → (y >>= λ rs. accepted (proof_file K rs)) ≡ found_file K v
      → ((elim b as (λ _. Result (List Row)) [ true ↦ x | false ↦ y ]) >>= λ rs. accepted (proof_file K rs)) ≡ found_file K (elim d as (λ _. Found) [ true ↦ u | false ↦ v ])
  pick true true x y u v e p q = p
  pick true false x y u v e p q = absurd (let z : ◌≡◌ {A = ℕ} 0 1 = cc in omega arith)
  pick false true x y u v e p q = absurd (let z : ◌≡◌ {A = ℕ} 0 1 = cc in omega arith)
  pick false false x y u v e p q = q

  takes : (b : Bool) (x y : Result (List Row)) → b ≡ true → elim b as (λ _. Result (List Row)) [ true ↦ x | false ↦ y ] ≡ x
  takes true x y e = refl
  takes false x y e = absurd (let z : ◌≡◌ {A = ℕ} 0 1 = cc in omega arith)

  module _ (t : T (begins (header_bytes 1 K) given)) where
    same_rows : (rs : List Row) → same_bytes (proof_file K rs) given ≡ same_bytes (rows_bytes rs) (drop 8 given)
    same_rows rs =
        ap (λ (bs : List ℕ). same_bytes bs given) (table-headed K rs) ∙ same-behind (header_bytes 1 K) (rows_bytes rs) given t ∙ ap (λ (n : ℕ). same_bytes (rows_bytes rs) (drop n given)) (length-header_bytes 1 K)

    following-told : (rss : List (List Row)) → (following K given rss >>= λ rs. accepted (proof_file K rs)) ≡ found_file K (next_found (drop 8 given) rss)
    unfolding following next_found found_file ◌>>=◌
    following-told [] = refl
    following-told (rs ∷ rss) = pick (same_bytes (proof_file K rs) given) (same_bytes (rows_bytes rs) (drop 8 given)) (first_rows rss) (following K given rss) (first_found rss) (next_found (drop 8 given) rss)
        (same_rows rs) (first-told rss) (following-told rss)

    -- the header alone
    alone : (rest : List ℕ) → drop 8 given ≡ rest → (rss : List (List Row)) → length rest ≡ 0 → (next_rows K given rss >>= λ rs. accepted (proof_file K rs)) ≡ found_file K (first_found rss)
    unfolding next_rows rows_bytes file_of same_bytes
    alone [] e rss h = ap (λ (r : Result (List Row)). r >>= λ rs. accepted (proof_file K rs)) (takes (same_bytes (proof_file K []) given) (first_rows rss) (following K given rss) (same_rows [] ∙ ap (same_bytes []) e)) ∙ first-told rss
    alone (x ∷ rest) e rss h = absurd (omega arith)

    more : (rest : List ℕ) → drop 8 given ≡ rest → (rss : List (List Row)) → ¬ (length rest ≡ 0) → (next_rows K given rss >>= λ rs. accepted (proof_file K rs)) ≡ found_file K (next_found (drop 8 given) rss)
    unfolding next_rows rows_bytes file_of same_bytes
    more [] e rss h = absurd (h refl)
    more (x ∷ rest) e rss h = pick (same_bytes (proof_file K []) given) false (first_rows rss) (following K given rss) (first_found rss) (next_found (drop 8 given) rss) (same_rows [] ∙ ap (same_bytes []) e) (first-told rss) (following-told rss)

  -- no header
  module _ (f : begins (header_bytes 1 K) given ≡ false) where
    never-same : (rs : List Row) → same_bytes (proof_file K rs) given ≡ false
    never-same rs = ap (λ (bs : List ℕ). same_bytes bs given) (table-headed K rs) ∙ same_not (header_bytes 1 K) (rows_bytes rs) given f

    passes : (b : Bool) (x y : Result (List Row)) → b ≡ false → elim b as (λ _. Result (List Row)) [ true ↦ x | false ↦ y ] ≡ y
    passes true x y e = absurd (let z : ◌≡◌ {A = ℕ} 0 1 = cc in omega arith)
    passes false x y e = refl

    unheaded : (rss : List (List Row)) → following K given rss ≡ refused (answer 32 file_lent 0)
    unfolding following
    unheaded [] = refl
    unheaded (rs ∷ rss) = passes (same_bytes (proof_file K rs) given) (first_rows rss) (following K given rss) (never-same rs) ∙ unheaded rss

    none : (rss : List (List Row)) → (next_rows K given rss >>= λ rs. accepted (proof_file K rs)) ≡ found_file K not_among
    unfolding next_rows found_file ◌>>=◌
    none rss = ap (λ (r : Result (List Row)). r >>= λ rs. accepted (proof_file K rs)) (passes (same_bytes (proof_file K []) given) (first_rows rss) (following K given rss) (never-same []) ∙ unheaded rss)

-- ---- the call
module _ (A B given : List ℕ) (K : ℕ) (ls : List Line) (e : short_proofs A B ≡ accepted (K, short_proofs_of ls)) where
  pub told-not-among : begins (header_bytes 1 K) given ≡ false → next_file A B given ≡ found_file K not_among
  unfolding next_file
  told-not-among f = binds _ e ∙ none K given f (short_proofs_of ls)

  pub told-first : T (begins (header_bytes 1 K) given) → length given ≡ 8 → next_file A B given ≡ found_file K (first_of_depths 3 0 ls)
  unfolding next_file
  told-first t h = binds _ e ∙ alone K given t (drop 8 given) refl (short_proofs_of ls) (omega (arith, length-drop 8 given)) ∙ ap (found_file K) (short-heads ls)

  pub told-next : T (begins (header_bytes 1 K) given) → 8 ≤ length given → ¬ (length given ≡ 8) → next_file A B given ≡ found_file K (next_of_depths 3 0 (drop 8 given) ls)
  unfolding next_file
  told-next t l h = binds _ e ∙ more K given t (drop 8 given) refl (short_proofs_of ls) (λ z. h (omega (arith, length-drop 8 given))) ∙ ap (found_file K) (short-follow ls (drop 8 given))
