-- What a block of results says of its refusal and of its value, by one rule for each form of step. Assumes nothing.
use mathlib.Core.Path.{◌≡◌, refl, sym, subst}
use mathlib.Core.Option.{Option, none, some}
use mathlib.Core.Bool.{Bool, true, false}
use mathlib.Core.List.{List, [], ◌∷◌}
use Prim.Native.Nat.{ℕ, suc}
use lib.Dec.{T}
use Rattle.answers.specs.declared.Answer.{Answer}
use Rattle.answers.specs.Answers.{Result, refused, accepted, ◌>>=◌, ◌>>◌, need, found, each}
use Rattle.answers.proofs.Results.{never}

pub record Satisfies {X : Type 0} (Q : Answer → Type 0) (r : Result X) (P : X → Type 0) : Type 0 where
  pub refusal : (a : Answer) → r ≡ refused a → Q a
  pub value : (x : X) → r ≡ accepted x → P x

module _ {Q : Answer → Type 0} where
  pub says-refused : {X : Type 0} {P : X → Type 0} {a : Answer} → Q a → Satisfies {X = X} Q (refused a) P
  says-refused {a = a} h = record { refusal = λ b e. subst Q (let p : a ≡ b = cc in p) h; value = λ x e. absurd (never e) }

  pub says-accepted : {X : Type 0} {P : X → Type 0} {x : X} → P x → Satisfies Q (accepted x) P
  says-accepted {P = P} {x = x} h = record { refusal = λ a e. absurd (never (sym e)); value = λ y e. subst P (let q : x ≡ y = cc in q) h }

  pub bind : {X Y : Type 0} {m : Result X} {f : X → Result Y} {P : X → Type 0} {R : Y → Type 0} → Satisfies Q m P → ((x : X) → P x → Satisfies Q (f x) R) → Satisfies Q (m >>= f) R
  unfolding ◌>>=◌
  bind {m = refused a} h k = says-refused (h.refusal a refl)
  bind {m = accepted x} h k = k x (h.value x refl)

  pub seq : {Y : Type 0} {P : Unit {0} → Type 0} {R : Y → Type 0} {m : Result (Unit {0})} {r : Result Y} → Satisfies Q m P → Satisfies Q r R → Satisfies Q (m >> r) R
  unfolding ◌>>◌
  seq {m = refused a} h k = says-refused (h.refusal a refl)
  seq {m = accepted x} h k = k

  pub says-need : (a : Answer) (b : Bool) → Q a → Satisfies Q (need a b) (λ _. T b)
  unfolding need
  says-need a true h = says-accepted tt
  says-need a false h = says-refused h

  pub test : {Y : Type 0} {R : Y → Type 0} (a : Answer) (b : Bool) {r : Result Y} → Q a → (T b → Satisfies Q r R) → Satisfies Q (need a b >> r) R
  unfolding need ◌>>◌
  test a true h k = k tt
  test a false h k = says-refused h

  pub finds : {X : Type 0} (a : Answer) (o : Option X) → Q a → Satisfies Q (found a o) (λ x. o ≡ some x)
  unfolding found
  finds a none h = says-refused h
  finds a (some x) h = says-accepted refl

pub weaken : {X : Type 0} {Q Q' : Answer → Type 0} {r : Result X} {P P' : X → Type 0} → Satisfies Q r P → ((a : Answer) → Q a → Q' a) → ((x : X) → P x → P' x) → Satisfies Q' r P'
weaken h k l = record { refusal = λ a e. k a (h.refusal a e); value = λ x e. l x (h.value x e) }

pub each-says : {X : Type 0} {Q : Answer → Type 0} (at : ℕ → Answer) (p : X → Bool) → ((i : ℕ) → Q (at i)) → (i : ℕ) (xs : List X) → Satisfies Q (each at p i xs) (λ _. Unit {0})
unfolding each
each-says at p h i [] = says-accepted tt
each-says at p h i (x ∷ xs) = test _ _ (h i) λ _. each-says at p h (suc i) xs
