-- The kind of a line, by what is read of its byte. Assumes nothing.
use mathlib.Core.Path.{◌≡◌, refl, sym, ap, ◌∙◌}
use mathlib.Core.Bool.{Bool, true, false, true≢false}
use mathlib.Core.List.{List}
use mathlib.Core.Option.{none, some}
use Prim.Native.Nat.{ℕ, zero, suc, ◌≤◌, ◌<◌}
use native.Mathlib.Omega.{arith}
use lib.Dec.{eqb, leb}
use lib.ListN.{get_or}
use lib.IntN.{ℤ}
use borrow.Author.Tests.{ne_eqb, lt-leb}
use Rattle.forms.specs.Forms.{≤0, =0, Side, A, B, LineKind, plain, apart}
use Rattle.forms.specs.Flat.{kind_of, line_kind_of}
use Rattle.proof.specs.Rows.{is, plain_kind, owner}
use Rattle.lines.specs.Buffer.{line_in}
use Rattle.lines.specs.Ready.{KindRead}
use Rattle.lines.proofs.Branch.{plain_byte}

-- ---- a byte above 1 is a t ≠ 0
module _ {X : Type 0} (f : LineKind → X) {x : X} (of : (σ : Side) → f (apart σ) ≡ x) where
  pub apart-byte : {r : ℕ} → 1 < r → f (line_kind_of r) ≡ x
  unfolding line_kind_of
  apart-byte {r} h = go (eqb r 2) (leb r 1) (lt-leb r 1 h)
    where
      go : (c d : Bool) → d ≡ false → f (elim c [ true ↦ apart A | false ↦ elim d [ true ↦ plain (kind_of r) | false ↦ apart B ] ]) ≡ x
      go true d e = of A
      go false true e = absurd (true≢false e)
      go false false e = of B

-- ---- what it tells of line i, whose kind was read as r
module _ (K : ℕ) (kinds : List ℕ) (buf : List ℤ) (i : ℕ) where
  kind-is : {r : ℕ} → KindRead (get_or kinds i 0) r → (line_in K kinds buf i).kind ≡ line_kind_of r
  unfolding line_in
  kind-is k = ap line_kind_of (sym k.is)

  pub plain-kind : {r : ℕ} → KindRead (get_or kinds i 0) r → r ≤ 1 → (line_in K kinds buf i).kind ≡ plain (kind_of r)
  plain-kind {r} k h = kind-is k ∙ plain_byte r h

  pub apart-A : {r : ℕ} → KindRead (get_or kinds i 0) r → r ≡ 2 → (line_in K kinds buf i).kind ≡ apart A
  unfolding line_kind_of
  apart-A k h = kind-is k ∙ ap line_kind_of h

  pub apart-B : {r : ℕ} → KindRead (get_or kinds i 0) r → 1 < r → (r ≡ 2 → ⊥) → (line_in K kinds buf i).kind ≡ apart B
  unfolding line_kind_of
  apart-B {r} k h n = kind-is k ∙ go (eqb r 2) (leb r 1) (ne_eqb r 2 n) (lt-leb r 1 h)
    where
      go : (c d : Bool) → c ≡ false → d ≡ false → elim c [ true ↦ apart A | false ↦ elim d [ true ↦ plain (kind_of r) | false ↦ apart B ] ] ≡ apart B
      go true d e f = absurd (true≢false e)
      go false true e f = absurd (true≢false f)
      go false false e f = refl

  -- ---- what the tests ask
  pub kind-≤ : {r : ℕ} → KindRead (get_or kinds i 0) r → r ≡ 0 → is ≤0 (line_in K kinds buf i).kind ≡ true
  unfolding is line_kind_of kind_of
  kind-≤ k h = ap (is ≤0) (kind-is k ∙ ap line_kind_of h)

  pub kind-not-≤ : {r : ℕ} → KindRead (get_or kinds i 0) r → (r ≡ 0 → ⊥) → is ≤0 (line_in K kinds buf i).kind ≡ false
  unfolding is line_kind_of kind_of
  kind-not-≤ {r} k h = ap (is ≤0) (kind-is k) ∙ go r h
    where
      go : (r : ℕ) → (r ≡ 0 → ⊥) → is ≤0 (line_kind_of r) ≡ false
      go zero h = absurd (h refl)
      go (suc zero) h = refl
      go (suc (suc r)) h = apart-byte (is ≤0) (λ (σ : Side). refl) {r = suc (suc r)} (omega arith)

  pub kind-= : {r : ℕ} → KindRead (get_or kinds i 0) r → r ≡ 1 → is =0 (line_in K kinds buf i).kind ≡ true
  unfolding is line_kind_of kind_of
  kind-= k h = ap (is =0) (kind-is k ∙ ap line_kind_of h)

  pub kind-not-= : {r : ℕ} → KindRead (get_or kinds i 0) r → (r ≡ 1 → ⊥) → is =0 (line_in K kinds buf i).kind ≡ false
  unfolding is line_kind_of kind_of
  kind-not-= {r} k h = ap (is =0) (kind-is k) ∙ go r h
    where
      go : (r : ℕ) → (r ≡ 1 → ⊥) → is =0 (line_kind_of r) ≡ false
      go zero h = refl
      go (suc zero) h = absurd (h refl)
      go (suc (suc r)) h = apart-byte (is =0) (λ (σ : Side). refl) {r = suc (suc r)} (omega arith)

  pub kind-plain : {r : ℕ} → KindRead (get_or kinds i 0) r → r ≤ 1 → plain_kind (line_in K kinds buf i).kind ≡ some (kind_of r)
  unfolding plain_kind
  kind-plain k h = ap plain_kind (plain-kind k h)

  pub kind-apart : {r : ℕ} → KindRead (get_or kinds i 0) r → 1 < r → plain_kind (line_in K kinds buf i).kind ≡ none
  unfolding plain_kind line_kind_of
  kind-apart {r} k h = ap plain_kind (kind-is k) ∙ apart-byte plain_kind (λ (σ : Side). refl) h

  pub kind-unowned : {r : ℕ} → KindRead (get_or kinds i 0) r → r ≤ 1 → owner (line_in K kinds buf i).kind ≡ none
  unfolding owner
  kind-unowned k h = ap owner (plain-kind k h)
