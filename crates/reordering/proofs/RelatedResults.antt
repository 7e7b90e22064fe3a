-- The same refusal, or related values: rules by which a proof about two `do` blocks reads like the block. Assumes nothing.
use mathlib.Core.Path.{◌≡◌, refl, subst, ap}
use mathlib.Core.Option.{Option, none, some}
use mathlib.Core.Bool.{Bool, true, false}
use mathlib.Core.List.{List, ◌++◌}
use Prim.Native.Nat.{ℕ, zero, suc}
use lib.Dec.{T}
use lib.ListN.{length, get_elem?}
use Rattle.answers.specs.declared.Answer.{Answer}
use Rattle.answers.specs.Answers.{Result, refused, accepted, ◌>>=◌, ◌>>◌, need, found}
use Rattle.bundle.specs.Layout.{Each, nil, cons}

pub data Like {X Y : Type 0} (R : X → Y → Type 0) : Result X → Result Y → Type 0 where
  alike : (a : Answer) → Like R (refused a) (refused a)
  related : {x : X} {y : Y} → R x y → Like R (accepted x) (accepted y)

-- Nothing in both, or related values.
pub data Both {X Y : Type 0} (R : X → Y → Type 0) : Option X → Option Y → Type 0 where
  neither : Both R none none
  both : {x : X} {y : Y} → R x y → Both R (some x) (some y)

abbrev pub Passed : Unit {0} → Unit {0} → Type 0
Passed u v = Unit {0}

pub test-like : (a : Answer) {t t' : Bool} → t ≡ t' → Like Passed (need a t) (need a t')
unfolding need
test-like a {t} e = subst (λ (b : Bool). Like Passed (need a t) (need a b)) e (go t)
  where
    go : (t : Bool) → Like Passed (need a t) (need a t)
    go true = related tt
    go false = alike a

module _ {X Y : Type 0} {R : X → Y → Type 0} where
  -- The same test, known to be passed in what follows.
  pub need-same : (a : Answer) (t : Bool) {r : Result X} {r' : Result Y} → (T t → Like R r r') → Like R (need a t >> r) (need a t >> r')
  unfolding need ◌>>◌
  need-same a true l = l tt
  need-same a false l = alike a

  pub need-like : (a : Answer) {t t' : Bool} → t ≡ t' → {r : Result X} {r' : Result Y} → (T t → Like R r r') → Like R (need a t >> r) (need a t' >> r')
  need-like a {t} e {r} {r'} l = subst (λ (b : Bool). Like R (need a t >> r) (need a b >> r')) e (need-same a t l)

  pub found-same : {Z : Type 0} (a : Answer) (o : Option Z) {k : Z → Result X} {k' : Z → Result Y} → ((z : Z) → o ≡ some z → Like R (k z) (k' z)) → Like R (found a o >>= k) (found a o >>= k')
  unfolding found ◌>>=◌
  found-same a none l = alike a
  found-same a (some z) l = l z refl

  pub found-equal : {Z : Type 0} (a : Answer) {o o' : Option Z} → o ≡ o' → {k : Z → Result X} {k' : Z → Result Y} → ((z : Z) → Like R (k z) (k' z)) → Like R (found a o >>= k) (found a o' >>= k')
  found-equal a {o} e {k} {k'} l = subst (λ o'. Like R (found a o >>= k) (found a o' >>= k')) e (found-same a o λ z _. l z)

  pub found-like : {Z W : Type 0} {S : Z → W → Type 0} (a : Answer) {o : Option Z} {o' : Option W} → Both S o o'
      → {k : Z → Result X} {k' : W → Result Y} → ((z : Z) (z' : W) → S z z' → Like R (k z) (k' z')) → Like R (found a o >>= k) (found a o' >>= k')
  unfolding found ◌>>=◌
  found-like a neither l = alike a
  found-like a (both {x = x} {y = y} s) l = l x y s

  pub bind-like : {Z W : Type 0} {S : Z → W → Type 0} {r : Result Z} {r' : Result W} → Like S r r'
      → {k : Z → Result X} {k' : W → Result Y} → ((z : Z) (z' : W) → S z z' → Like R (k z) (k' z')) → Like R (r >>= k) (r' >>= k')
  unfolding ◌>>=◌
  bind-like (alike a) l = alike a
  bind-like (related {x = x} {y = y} s) l = l x y s

  pub then_like : {r r' : Result (Unit {0})} → Like Passed r r' → {s : Result X} {s' : Result Y} → Like R s s' → Like R (r >> s) (r' >> s')
  unfolding ◌>>◌
  then_like (alike a) l = alike a
  then_like (related p) l = l

-- ---- lists
module _ {X Y : Type 0} {R : X → Y → Type 0} where
  pub each-nth : {xs : List X} {ys : List Y} → Each R xs ys → (i : ℕ) → Both R (get_elem? xs i) (get_elem? ys i)
  each-nth nil i = neither
  each-nth (cons h hs) zero = both h
  each-nth (cons h hs) (suc i) = each-nth hs i

  pub each-length : {xs : List X} {ys : List Y} → Each R xs ys → length xs ≡ length ys
  each-length nil = refl
  each-length (cons h hs) = ap suc (each-length hs)

  pub each_append : {xs xs₁ : List X} {ys ys₁ : List Y} → Each R xs ys → Each R xs₁ ys₁ → Each R (xs ++ xs₁) (ys ++ ys₁)
  each_append nil k = k
  each_append (cons h hs) k = cons h (each_append hs k)
