-- All cuts of a run, by the answers of the code. Assumes nothing.
use Rattle.std.specs.Prelude.{◌≡◌, Bool, cond, ◌&&◌, List, map, ℕ, ◌+◌, ◌*◌, ◌≤◌, leb, length, Ok, Err}
use Rattle.std.specs.declared.result.Result as code
use Rattle.forms.specs.Edition.{edition1, newest_edition}
use Rattle.forms.specs.Forms.{Formula, every}
use Rattle.answers.specs.declared.Answer.{Answer}
use Rattle.answers.specs.Answers.{Result, refused, accepted}
use Rattle.fields.specs.Fields.{fields}
use Rattle.formula.specs.Formula.{formula_file}
use Rattle.formula_write.specs.Writing.{scratch_limit}
use Rattle.chains.specs.Runs.{joined}
use Rattle.run.specs.Run.{most_stages, check_cuts, check_run}
use Rattle.run_branches.specs.declared.walk.Closed.{Closed}
use Rattle.run_cuts.specs.Cuts.{stages_of}
use Rattle.run_cuts.specs.declared.begun.Run as begun
use Rattle.run_cuts.specs.declared.all.Derived.{Derived}

-- Of two refusals the one of the lesser place; at one place the first.
abbrev pub earlier_refusal : Answer → Answer → Answer
earlier_refusal a b = cond (leb a.place b.place) a b

-- Of two results the refusal that comes first.
abbrev pub both_of : {X Y : Type 0} → code.Result X Answer → code.Result Y Answer → code.Result (X × Y) Answer
both_of (Err a) (Err b) = Err (earlier_refusal a b)
both_of (Err a) (Ok y) = Err a
both_of (Ok x) (Err b) = Err b
both_of (Ok x) (Ok y) = Ok (x, y)

-- A cut and those after it.
abbrev pub added : code.Result (ℕ × Derived) Answer → code.Result Derived Answer
added (Err a) = Err a
added (Ok x) = Ok (record { total = x.1.total + (x.0 + 8); fit = leb (x.0 + 8) edition1.formula_bytes && x.1.fit })

abbrev pub joined_by : code.Result ℕ Answer → code.Result Derived Answer → code.Result Derived Answer
joined_by cut others = added (both_of cut others)

-- The cuts, and then the walk.
abbrev pub first_of : code.Result (Derived × Closed) Answer → code.Result Derived Answer
first_of (Err a) = Err a
first_of (Ok x) = Ok x.0

abbrev pub judged_by : code.Result Derived Answer → code.Result Closed Answer → code.Result Derived Answer
judged_by all walked = first_of (both_of all walked)

-- What is to be added fits the machine.
abbrev pub most_total : ℕ
most_total = (most_stages + 1) * (scratch_limit + 8)

-- The bytes of one cut's formula, and of all guards' files; 0 where refused.
abbrev pub cut_size : code.Result ℕ Answer → ℕ
cut_size (Err a) = 0
cut_size (Ok o) = o

abbrev pub cuts_total : code.Result Derived Answer → ℕ
cuts_total (Err a) = 0
cuts_total (Ok d) = d.total

pub record Summable (cut : code.Result ℕ Answer) (others : code.Result Derived Answer) : Type 0 where
  pub own : cut_size cut ≤ scratch_limit
  pub rest : cuts_total others ≤ most_total

-- The guards' files.
abbrev pub files : (K : ℕ) → List Formula → List (List ℕ)
files K Is = map (formula_file edition1 K) Is

-- R accepts formulas whose files have so many bytes together; and whether none of them is too long.
pub record DerivesAll (R : Result (List Formula)) (K total : ℕ) (fit : Bool) : Type 0 where
  pub formulas : List Formula
  pub is : R ≡ accepted formulas
  pub total_is : total ≡ length (joined (files K formulas))
  pub fit_is : fit ≡ every (λ file. leb (length file) edition1.formula_bytes) (files K formulas)

abbrev pub AllBy : (R : Result (List Formula)) (K : ℕ) → code.Result Derived Answer → Type 0
AllBy R K (Err a) = R ≡ refused a
AllBy R K (Ok d) = DerivesAll R K d.total d.fit

pub record AllChecked (R : Result (List Formula)) (K : ℕ) (r : code.Result Derived Answer) : Type 0 where
  pub by : AllBy R K r
  pub few : cuts_total r ≤ most_total

abbrev pub cuts_of : begun.Run → Result (List Formula)
cuts_of r = check_cuts newest_edition r.k (stages_of r) (fields r.proof.now) 0 (length (stages_of r))

abbrev pub CutsChecked : begun.Run → code.Result Derived Answer → Type 0
CutsChecked r x = AllChecked (cuts_of r) r.k x

-- The cuts and the walk.
abbrev pub RunChecked : begun.Run → code.Result Derived Answer → Type 0
RunChecked r x = AllChecked (check_run newest_edition r.k (stages_of r) (fields r.proof.now)) r.k x
