-- Rules to reason about a `do` block of results, one for each form of step, forwards and backwards. Assumes nothing.
use mathlib.Core.Path.{◌≡◌, refl, sym, ◌∙◌, ap, subst}
use mathlib.Core.List.{List, [], ◌∷◌}
use mathlib.Core.Option.{Option, none, some}
use mathlib.Core.Bool.{Bool, true, false, not, ◌&&◌}
use Prim.Native.Nat.{ℕ, suc}
use native.Mathlib.Omega.{arith}
use lib.Dec.{T, eqb}
use Rattle.forms.specs.Forms.{All, nil, cons}
use Rattle.answers.specs.declared.Answer.{Answer}
use Rattle.answers.specs.Answers.{Result, refused, accepted, ◌>>=◌, ◌>>◌, need, found, each}

-- ---- forwards: if r is accepted, P holds of its value; if it is refused, then by a number that can come
-- A refusal's number is not that of acceptance, 22 never comes, and 21 only at the end, from the output.
abbrev pub given : ℕ → Bool
given n = not (eqb n 0) && not (eqb n 22) && not (eqb n 21)

pub not-0 : {n : ℕ} → T (given n) → ¬ (n ≡ 0)
not-0 t e = subst (λ (n : ℕ). T (given n)) e t

pub not-22 : {n : ℕ} → T (given n) → ¬ (n ≡ 22)
not-22 t e = subst (λ (n : ℕ). T (given n)) e t

pub not-21 : {n : ℕ} → T (given n) → ¬ (n ≡ 21)
not-21 t e = subst (λ (n : ℕ). T (given n)) e t

pub never : {X : Type 0} {a : Answer} {x : X} → refused a ≡ accepted x → ⊥
never e = let z : ◌≡◌ {A = ℕ} 0 1 = cc in omega arith

pub one_value : {X : Type 0} {r : Result X} {x y : X} → r ≡ accepted x → r ≡ accepted y → x ≡ y
one_value p q = cc

pub record Gives {X : Type 0} (r : Result X) (P : X → Type 0) : Type 0 where
  pub gives : (x : X) → r ≡ accepted x → P x
  pub refusal : (a : Answer) → r ≡ refused a → T (given a.number)

pub gives-refused : {X : Type 0} {P : X → Type 0} (a : Answer) → T (given a.number) → Gives (refused a) P
gives-refused a t = record {
  gives = λ x e. absurd (never e);
  refusal = λ b e. subst (λ (x : Answer). T (given x.number)) (let p : a ≡ b = cc in p) t;
}

pub gives-accepted : {X : Type 0} {P : X → Type 0} {x : X} → P x → Gives (accepted x) P
gives-accepted {P = P} {x = x} h = record { gives = λ y e. subst P (let q : x ≡ y = cc in q) h; refusal = λ a e. absurd (never (sym e)) }

pub weaken : {X : Type 0} {r : Result X} {P Q : X → Type 0} → Gives r P → ((x : X) → P x → Q x) → Gives r Q
weaken h k = record { gives = λ x e. k x (h.gives x e); refusal = h.refusal }

-- what a refused first step leaves of the rest
stops : {X Y : Type 0} {a : Answer} {P : X → Type 0} {Q : Y → Type 0} → Gives {X = X} (refused a) P → Gives {X = Y} (refused a) Q
stops {a = a} h = record { gives = λ x e. absurd (never e); refusal = λ b e. h.refusal b (let p : a ≡ b = cc in ap refused p) }

pub bind : {X Y : Type 0} {m : Result X} {f : X → Result Y} {P : X → Type 0} {Q : Y → Type 0} → Gives m P → ((x : X) → P x → Gives (f x) Q) → Gives (m >>= f) Q
unfolding ◌>>=◌
bind {m = refused a} h k = stops h
bind {m = accepted x} h k = k x (h.gives x refl)

pub seq : {Y : Type 0} {P : Type 0} {Q : Y → Type 0} {m : Result (Unit {0})} {r : Result Y} → Gives m (λ _. P) → (P → Gives r Q) → Gives (m >> r) Q
unfolding ◌>>◌
seq {m = refused a} h k = stops h
seq {m = accepted x} h k = k (h.gives x refl)

pub gives-need : (a : Answer) (b : Bool) → T (given a.number) → Gives (need a b) (λ _. T b)
unfolding need
gives-need a true t = gives-accepted tt
gives-need a false t = gives-refused a t

pub test : {Y : Type 0} {Q : Y → Type 0} (a : Answer) (b : Bool) {r : Result Y} → T (given a.number) → (T b → Gives r Q) → Gives (need a b >> r) Q
test a b t k = seq (gives-need a b t) k

-- a test that never fails, whatever its number
pub passed : {Y : Type 0} {Q : Y → Type 0} (a : Answer) (b : Bool) {r : Result Y} → T b → Gives r Q → Gives (need a b >> r) Q
unfolding need ◌>>◌
passed a true t g = g
passed a false t g = absurd t

pub finds : {X : Type 0} (a : Answer) (o : Option X) → T (given a.number) → Gives (found a o) (λ x. o ≡ some x)
unfolding found
finds a none t = gives-refused a t
finds a (some x) t = gives-accepted refl

-- ---- backwards: each step that is accepted hands on to the rest
pub binds : {X Y : Type 0} {m : Result X} {x : X} (f : X → Result Y) → m ≡ accepted x → (m >>= f) ≡ f x
unfolding ◌>>=◌
binds f e = rw e

pub passes : {Y : Type 0} {m : Result (Unit {0})} (r : Result Y) → m ≡ accepted tt → (m >> r) ≡ r
unfolding ◌>>◌
passes r e = rw e

pub need-yes : (a : Answer) (b : Bool) → T b → need a b ≡ accepted tt
unfolding need
need-yes a true t = refl
need-yes a false t = absurd t

pub needs : {Y : Type 0} (a : Answer) (b : Bool) (r : Result Y) → T b → (need a b >> r) ≡ r
needs a b r t = passes r (need-yes a b t)

pub found_some : {X : Type 0} (a : Answer) {o : Option X} {x : X} → o ≡ some x → found a o ≡ accepted x
unfolding found
found_some a e = rw e

-- a test by its equation: passed, or refused whatever would follow
pub pass : {Y : Type 0} (a : Answer) {b : Bool} (r : Result Y) → b ≡ true → (need a b >> r) ≡ r
pass a {b} r e = needs a b r (rw e tt)

pub fail : {Y : Type 0} (a : Answer) {b : Bool} (r : Result Y) → b ≡ false → (need a b >> r) ≡ refused a
unfolding need ◌>>◌
fail a r e = rw e

-- a step that is refused is the last
pub bind-refused : {X Y : Type 0} {m : Result X} {a : Answer} (f : X → Result Y) → m ≡ refused a → (m >>= f) ≡ refused a
unfolding ◌>>=◌
bind-refused f e = rw e

pub then-refused : {Y : Type 0} {m : Result (Unit {0})} {a : Answer} (r : Result Y) → m ≡ refused a → (m >> r) ≡ refused a
unfolding ◌>>◌
then-refused r e = rw e

-- ---- each element of a list passes a test
module _ {X : Type 0} (at : ℕ → Answer) (p : X → Bool) where
  pub each-gives : ((i : ℕ) → T (given (at i).number)) → (i : ℕ) (xs : List X) → Gives (each at p i xs) (λ _. All (λ x. T (p x)) xs)
  unfolding each
  each-gives t i [] = gives-accepted nil
  each-gives t i (x ∷ xs) = test (at i) (p x) (t i) λ h. record {
    gives = λ u e. cons h ((each-gives t (suc i) xs).gives u e);
    refusal = (each-gives t (suc i) xs).refusal;
  }

  pub each-accepted : (i : ℕ) {xs : List X} → All (λ x. T (p x)) xs → each at p i xs ≡ accepted tt
  unfolding each
  each-accepted i nil = refl
  each-accepted i (cons h hs) = needs _ _ _ h ∙ each-accepted (suc i) hs
