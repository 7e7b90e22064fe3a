-- The branches to come as the code keeps them: for each branching step that has some, one `Step`. Assumes nothing.
use Rattle.std.specs.Prelude.{◌≡◌, cond, eqb, List, [], ℕ, zero, suc, ◌≤◌, ◌<◌, length, get_or}
use Rattle.shortening.specs.Passes.{top, pop, pushed, Start, no_start, branch_start}
use Rattle.shortening_stack.specs.declared.Class.{Class}
use Rattle.shortening_stack.specs.declared.Class.TheVariants.{Makes, Branches, Closes, Claims}
use Rattle.shortening_stack.specs.declared.stack.Step.{Step}

-- What stands where no step does.
abbrev pub no_step : Step
no_step = record { lines = 0; kept = 0; left = 0 }

-- How its branches start.
abbrev pub start_in : Step → Start
start_in s = branch_start s.lines s.kept

-- The d steps from the outermost on.
abbrev pub stack_of : (steps : List Step) (d : ℕ) → List Start
stack_of steps zero = []
stack_of steps (suc d) = pushed (get_or steps d no_step).left (start_in (get_or steps d no_step)) (stack_of steps d)

-- Each has one branch at least.
pub record Alive (steps : List Step) (d : ℕ) : Type 0 where
  pub alive : (i : ℕ) → i < d → 1 ≤ (get_or steps i no_step).left

-- Below d both lists are the same.
pub record SameBelow {A : Type 0} (none : A) (d : ℕ) (xs ys : List A) : Type 0 where
  pub same : (i : ℕ) → i < d → get_or xs i none ≡ get_or ys i none

abbrev pub top_of : List Step → ℕ → Start
top_of steps zero = no_start
top_of steps (suc d) = start_in (get_or steps d no_step)

-- The branches of the first d start with at most b lines.
pub record Bound (steps : List Step) (d b : ℕ) : Type 0 where
  pub bound : (i : ℕ) → i < d → (get_or steps i no_step).lines ≤ b

-- A step with so many branches to come is put on top.
pub record Pushed (steps : List Step) (d lines kept left : ℕ) (steps' : List Step) (d' : ℕ) : Type 0 where
  pub is : stack_of steps' d' ≡ pushed left (branch_start lines kept) (stack_of steps d)
  pub alive : Alive steps d → Alive steps' d'
  pub most : d' ≤ suc d
  pub bounded : (b : ℕ) → lines ≤ b → Bound steps d b → Bound steps' d' b
  pub steps_length : length steps' ≡ length steps

-- A branch of the step on top is taken away: with how many lines it starts, and how many of them are kept.
pub record Popped (steps : List Step) (d : ℕ) (steps' : List Step) (lines kept d' : ℕ) : Type 0 where
  pub is : Alive steps d → stack_of steps' d' ≡ pop (stack_of steps d)
  pub lines_are : lines ≡ (top_of steps d).lines
  pub kept_are : kept ≡ (top_of steps d).kept
  pub alive : Alive steps d → Alive steps' d'
  pub most : d' ≤ d
  pub bounded : (b : ℕ) → Bound steps d b → Bound steps' d' b
  pub steps_length : length steps' ≡ length steps

-- The class that a number stands for: 0 makes a line, 1 branches, 3 claims; 2 and every number above 3 ends a branch, as a close does.
abbrev pub class_of : ℕ → Class
class_of number = cond (eqb number 0) Makes (cond (eqb number 1) Branches (cond (eqb number 3) Claims Closes))

-- A row of a class that stays goes by: how many lines stand on the branch behind it, how many of them are kept, and the branches to come.
-- `come` are those of the row, `first` the kept lines with which the next branch starts.
abbrev pub lines_after : (class : Class) (lines : ℕ) → List Start → ℕ
lines_after Makes lines opened = suc lines
lines_after Branches lines opened = suc lines
lines_after _ lines opened = (top no_start opened).lines

abbrev pub kept_after : (class : Class) (kept first : ℕ) → ℕ
kept_after Makes kept first = suc kept
kept_after Branches kept first = suc kept
kept_after _ kept first = first

abbrev pub opened_after : (class : Class) (come lines kept : ℕ) → List Start → List Start
opened_after Makes come lines kept opened = opened
opened_after Branches come lines kept opened = pushed come (branch_start (suc lines) (suc kept)) opened
opened_after _ come lines kept opened = pop opened

pub record MovedOn (class : Class) (come lines kept d : ℕ) (steps steps' : List Step) (lines' kept' d' : ℕ) : Type 0 where
  pub is : Alive steps d → stack_of steps' d' ≡ opened_after class come lines kept (stack_of steps d)
  pub lines_are : Alive steps d → lines' ≡ lines_after class lines (stack_of steps d)
  pub kept_are : Alive steps d → kept' ≡ kept_after class kept (top no_start (stack_of steps d)).kept
  pub alive : Alive steps d → Alive steps' d'
  pub most : d' ≤ suc d
  pub bounded : (b : ℕ) → suc lines ≤ b → Bound steps d b → Bound steps' d' b × (lines' ≤ b)
  pub steps_length : length steps' ≡ length steps

-- No step has more than b branches to come, not even one that is over.
pub record Few (steps : List Step) (b : ℕ) : Type 0 where
  pub few : (i : ℕ) → (get_or steps i no_step).left ≤ b

-- No step comes to have more of them than some step had, or than the row has.
pub record StaysFew (come : ℕ) (steps steps' : List Step) : Type 0 where
  pub stays : (b : ℕ) → come ≤ b → Few steps b → Few steps' b
