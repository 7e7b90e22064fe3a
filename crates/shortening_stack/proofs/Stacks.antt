-- Laws of the branches to come. Assumes nothing.
use mathlib.Core.Path.{◌≡◌, refl, sym, ◌∙◌, ap, ap₂, subst}
use mathlib.Core.Bool.{Bool, true, false}
use mathlib.Core.List.{List}
use Prim.Native.Nat.{ℕ, zero, suc, ◌+◌, ◌-◌, ◌≤◌, ◌<◌}
use native.Mathlib.Omega.{arith}
use lib.Dec.{eqb}
use lib.ListN.{length, get_or, set, length-set}
use lib.Seq.{get_or-set_same, get_or-set_other}
use borrow.Author.Tests.{eqb-true, eqb-false}
use Rattle.shortening.specs.Passes.{top, pop, pushed, Start, no_start}
use Rattle.shortening_stack.specs.declared.Class.{Class}
use Rattle.shortening_stack.specs.declared.Class.TheVariants.{Makes, Branches, Closes, Claims}
use Rattle.shortening_stack.specs.declared.stack.Step.{Step}
use Rattle.shortening_stack.specs.Stack.{no_step, start_in, stack_of, Alive, SameBelow, top_of, Bound, Pushed, Popped, lines_after, kept_after, opened_after, MovedOn, Few, StaysFew}

same-less : {d : ℕ} {xs ys : List Step} → SameBelow no_step (suc d) xs ys → SameBelow no_step d xs ys
same-less s = record { same = λ i h. s.same i (omega (arith, h)) }

-- what the stack is goes by its first d steps
same-stack : (steps steps' : List Step) (d : ℕ) → SameBelow no_step d steps' steps → stack_of steps' d ≡ stack_of steps d
same-stack steps steps' zero s = refl
same-stack steps steps' (suc d) s =
    ap₂ (λ (x : Step) (ss : List Start). pushed x.left (start_in x) ss) (s.same d (omega arith)) (same-stack steps steps' d (same-less s))

pub same_self : {A : Type 0} (none : A) (d : ℕ) (xs : List A) → SameBelow none d xs xs
same_self none d xs = record { same = λ i h. refl }

-- a store at d
pub same_set : {A : Type 0} (none : A) (d : ℕ) (xs : List A) (x : A) → SameBelow none d (set xs d x) xs
same_set none d xs x = record { same = λ i h. get_or-set_other xs d i x none (λ e. absurd (let z : ⊥ = omega (arith, h, e) in z)) }

stack_set : (steps : List Step) (d : ℕ) (x : Step) → d < length steps → stack_of (set steps d x) (suc d) ≡ pushed x.left (start_in x) (stack_of steps d)
stack_set steps d x h =
    ap₂ (λ (y : Step) (ss : List Start). pushed y.left (start_in y) ss) (get_or-set_same steps d x no_step h) (same-stack steps (set steps d x) d (same_set no_step d steps x))

-- what holds of x, and at i of a step that is not d, holds at i behind the store
set-at : (P : Step → Type 0) (steps : List Step) (d : ℕ) (x : Step) (i : ℕ) → d < length steps → P x → (¬ (i ≡ d) → P (get_or steps i no_step)) → P (get_or (set steps d x) i no_step)
set-at P steps d x i h k a = by (eqb i d) refl
  where
    by : (b : Bool) → eqb i d ≡ b → P (get_or (set steps d x) i no_step)
    by true e = subst P (sym (ap (λ (j : ℕ). get_or (set steps d x) j no_step) (eqb-true i d e) ∙ get_or-set_same steps d x no_step h)) k
    by false e = let other : ¬ (i ≡ d) = eqb-false i d e in subst P (sym (get_or-set_other steps d i x no_step other)) (a other)

-- what holds of the steps below d and of x holds of all
set-each : (P : Step → Type 0) (steps : List Step) (d : ℕ) (x : Step) → d < length steps → P x → ((i : ℕ) → i < d → P (get_or steps i no_step)) → (i : ℕ) → i < suc d → P (get_or (set steps d x) i no_step)
set-each P steps d x h k a i l = set-at P steps d x i h k (λ other. a i (omega (arith, l, other)))

alive-set : (steps : List Step) (d : ℕ) (x : Step) → d < length steps → 1 ≤ x.left → Alive steps d → Alive (set steps d x) (suc d)
alive-set steps d x h k a = record { alive = set-each (λ y. 1 ≤ y.left) steps d x h k a.alive }

alive-less : (steps : List Step) (d : ℕ) → Alive steps (suc d) → Alive steps d
alive-less steps d a = record { alive = λ i h. a.alive i (omega (arith, h)) }

bound-set : (steps : List Step) (d b : ℕ) (x : Step) → d < length steps → x.lines ≤ b → Bound steps d b → Bound (set steps d x) (suc d) b
bound-set steps d b x h k a = record { bound = set-each (λ y. y.lines ≤ b) steps d x h k a.bound }

bound-less : (steps : List Step) (d b : ℕ) → Bound steps (suc d) b → Bound steps d b
bound-less steps d b a = record { bound = λ i l. a.bound i (omega (arith, l)) }

-- ---- one more
pub pushed-some : (steps : List Step) (d lines kept left : ℕ) → d < length steps → ¬ (left ≡ 0) → Pushed steps d lines kept left (set steps d (record { lines = lines; kept = kept; left = left })) (d + 1)
pushed-some steps d lines kept left h e =
    let x : Step = record { lines = lines; kept = kept; left = left } in
    let one : suc d ≡ d + 1 = omega arith in
    let on : Pushed steps d lines kept left (set steps d x) (suc d) = record {
      is = stack_set steps d x h;
      alive = λ a. alive-set steps d x h (omega (arith, e)) a;
      most = omega arith;
      bounded = λ b q r. bound-set steps d b x h q r;
      steps_length = length-set steps d x;
    } in
    subst (λ (n : ℕ). Pushed steps d lines kept left (set steps d x) n) one on

-- ---- one less
times-less : (n : ℕ) (x : Start) (xs : List Start) → 1 < n → pushed (n - 1) x xs ≡ pop (pushed n x xs)
times-less zero x xs h = absurd (omega (arith, h))
times-less (suc n) x xs h = ap (λ (m : ℕ). pushed m x xs) (let z : suc n - 1 ≡ n = omega arith in z)

abbrev step_at : List Step → ℕ → Step
step_at steps d = get_or steps d no_step

-- the same with one branch fewer to come
abbrev one_fewer : Step → Step
one_fewer s = record { lines = s.lines; kept = s.kept; left = s.left - 1 }

popped-one : (steps : List Step) (d : ℕ) → d < length steps → 1 < (step_at steps d).left → Popped steps (suc d) (set steps d (one_fewer (step_at steps d))) (step_at steps d).lines (step_at steps d).kept (suc d)
popped-one steps d h k =
    let s = step_at steps d in
    record {
      is = λ a. stack_set steps d (one_fewer s) h ∙ times-less s.left (start_in s) (stack_of steps d) k;
      lines_are = refl;
      kept_are = refl;
      alive = λ a. alive-set steps d (one_fewer s) h (omega (arith, k)) (alive-less steps d a);
      most = omega arith;
      bounded = λ b a. bound-set steps d b (one_fewer s) h (a.bound d (omega arith)) (bound-less steps d b a);
      steps_length = length-set steps d (one_fewer s);
    }

pub close-one : (steps : List Step) (d : ℕ) → ¬ (d ≡ 0) → d ≤ length steps → 1 < (step_at steps (d - 1)).left
    → Popped steps d (set steps (d - 1) (one_fewer (step_at steps (d - 1)))) (step_at steps (d - 1)).lines (step_at steps (d - 1)).kept d
close-one steps d h l k =
    let e : suc (d - 1) ≡ d = omega (arith, h) in
    subst (λ (m : ℕ). Popped steps m (set steps (d - 1) (one_fewer (step_at steps (d - 1)))) (step_at steps (d - 1)).lines (step_at steps (d - 1)).kept m) e
    (popped-one steps (d - 1) (omega (arith, h, l)) k)

-- ---- the top
top-is : (steps : List Step) (d : ℕ) → Alive steps d → top no_start (stack_of steps d) ≡ top_of steps d
top-is steps zero a = refl
top-is steps (suc d) a = by (step_at steps d).left (a.alive d (omega arith))
  where
    by : (n : ℕ) → 1 ≤ n → top no_start (pushed n (start_in (step_at steps d)) (stack_of steps d)) ≡ start_in (step_at steps d)
    by zero h = absurd (omega (arith, h))
    by (suc n) h = refl

-- ---- a row goes by
bound-top : (steps : List Step) (d b : ℕ) → Bound steps d b → (top_of steps d).lines ≤ b
bound-top steps zero b a = omega arith
bound-top steps (suc d) b a = a.bound d (omega arith)

-- as a close does
closed : (class : Class) (come lines kept d : ℕ) (steps : List Step) {steps' : List Step} {l m d' : ℕ} → Popped steps d steps' l m d'
    → ((o : List Start) → lines_after class lines o ≡ (top no_start o).lines) → ((n : ℕ) → kept_after class kept n ≡ n) → ((o : List Start) → opened_after class come lines kept o ≡ pop o)
    → MovedOn class come lines kept d steps steps' l m d'
closed class come lines kept d steps p lines-so kept-so opened-so = record {
  is = λ a. p.is a ∙ sym (opened-so (stack_of steps d));
  lines_are = λ a. p.lines_are ∙ sym (ap (λ (x : Start). x.lines) (top-is steps d a)) ∙ sym (lines-so (stack_of steps d));
  kept_are = λ a. p.kept_are ∙ sym (ap (λ (x : Start). x.kept) (top-is steps d a)) ∙ sym (kept-so (top no_start (stack_of steps d)).kept);
  alive = p.alive;
  most = omega (arith, p.most);
  bounded = λ b q k. (p.bounded b k, subst (λ (n : ℕ). n ≤ b) (sym p.lines_are) (bound-top steps d b k));
  steps_length = p.steps_length;
}

pub advanced-closes : (class : Class) (come lines kept d : ℕ) (steps : List Step) {steps' : List Step} {l m d' : ℕ} → ¬ (class ≡ Makes) → ¬ (class ≡ Branches) → Popped steps d steps' l m d'
    → MovedOn class come lines kept d steps steps' l m d'
advanced-closes Makes come lines kept d steps e f p = absurd (e refl)
advanced-closes Branches come lines kept d steps e f p = absurd (f refl)
advanced-closes Closes come lines kept d steps e f p = closed Closes come lines kept d steps p (λ o. refl) (λ o. refl) (λ o. refl)
advanced-closes Claims come lines kept d steps e f p = closed Claims come lines kept d steps p (λ o. refl) (λ o. refl) (λ o. refl)

-- ---- how many branches are to come
few-set : (steps : List Step) (d b : ℕ) (x : Step) → d < length steps → x.left ≤ b → Few steps b → Few (set steps d x) b
few-set steps d b x h k a = record { few = λ i. set-at (λ y. y.left ≤ b) steps d x i h k (λ _. a.few i) }

pub pushed-few : (steps : List Step) (d lines kept left : ℕ) → d < length steps → StaysFew left steps (set steps d (record { lines = lines; kept = kept; left = left }))
pushed-few steps d lines kept left h = record { stays = λ b q a. few-set steps d b (record { lines = lines; kept = kept; left = left }) h q a }

pub close-few : (steps : List Step) (d : ℕ) → ¬ (d ≡ 0) → d ≤ length steps → StaysFew 0 steps (set steps (d - 1) (one_fewer (step_at steps (d - 1))))
close-few steps d h l = record { stays = λ b q a. few-set steps (d - 1) b (one_fewer (step_at steps (d - 1))) (omega (arith, h, l)) (omega (arith, a.few (d - 1))) a }

pub closed-few : (come : ℕ) {steps steps' : List Step} → StaysFew 0 steps steps' → StaysFew come steps steps'
closed-few come s = record { stays = λ b q a. s.stays b (omega arith) a }
