-- The ring laws of ℤ that `lib.IntN` lacks. Assumes nothing.
use mathlib.Core.Path.{◌≡◌}
use native.Mathlib.Omega.{arith}
use lib.IntN.{ℤ, pos, neg_ℤ, ◌+ℤ◌, ◌-ℤ◌, ◌*ℤ◌, +ℤ_assoc, +ℤ_comm, *ℤ_comm, +ℤ_idl, +ℤ_idr, *ℤ-zero, zero-*ℤ, neg_ℤ-+ℤ, neg_ℤ-neg_ℤ}
use Rattle.integers.proofs.Ring.{var, ring, poly}

module _ (a b : ℤ) where
  pub +-lswap : (c : ℤ) → a +ℤ (b +ℤ c) ≡ b +ℤ (a +ℤ c)
  +-lswap c = let x = var a in let y = var b in let z = var c in ring (search poly) (search poly) (omega arith)

  pub *-assoc : (c : ℤ) → (a *ℤ b) *ℤ c ≡ a *ℤ (b *ℤ c)
  *-assoc c = let x = var a in let y = var b in let z = var c in ring (search poly) (search poly) (omega arith)

  pub *-lswap : (c : ℤ) → a *ℤ (b *ℤ c) ≡ b *ℤ (a *ℤ c)
  *-lswap c = let x = var a in let y = var b in let z = var c in ring (search poly) (search poly) (omega arith)

  pub *-distl : (c : ℤ) → a *ℤ (b +ℤ c) ≡ a *ℤ b +ℤ a *ℤ c
  *-distl c = let x = var a in let y = var b in let z = var c in ring (search poly) (search poly) (omega arith)

  pub *-distr : (c : ℤ) → (a +ℤ b) *ℤ c ≡ a *ℤ c +ℤ b *ℤ c
  *-distr c = let x = var a in let y = var b in let z = var c in ring (search poly) (search poly) (omega arith)

  pub *-negl : neg_ℤ a *ℤ b ≡ neg_ℤ (a *ℤ b)
  *-negl = let x = var a in let y = var b in ring (search poly) (search poly) (omega arith)

  pub *-negr : a *ℤ neg_ℤ b ≡ neg_ℤ (a *ℤ b)
  *-negr = let x = var a in let y = var b in ring (search poly) (search poly) (omega arith)

  pub sub-add : a -ℤ b +ℤ b ≡ a
  sub-add = let x = var a in let y = var b in ring (search poly) x (omega arith)

-- both sides of a ring equation as sorted sums of sorted products: `simp ring-laws` proves it, of any size, where nothing cancels and no numerals have to be added up
pub ruleset ring-laws = (+ℤ_idl, +ℤ_idr, *ℤ-zero, zero-*ℤ, neg_ℤ-+ℤ, neg_ℤ-neg_ℤ, *-negl, *-negr, *-distl, *-distr, *-assoc, *ℤ_comm, *-lswap, +ℤ_assoc, +ℤ_comm, +-lswap)

pub sub_self : (a : ℤ) → a -ℤ a ≡ pos 0
sub_self a = let x = var a in ring (search poly) (search poly) (omega arith)
