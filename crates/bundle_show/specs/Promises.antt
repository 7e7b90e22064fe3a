-- What the functions show and show_answer ensure, each as one record; the theorems of `guarantee` speak of these very records.
-- This office reads editions up to the newest. Assumes nothing.
use Rattle.std.specs.Prelude.{◌≡◌, cond, List, ℕ, ◌+◌, eqb, take, drop}
use Rattle.std.specs.Borrow.{Bor}
use Rattle.forms.specs.Edition.{newest_edition}
use Rattle.answers.specs.declared.Answer.{Answer}
use Rattle.answers.specs.Answers.{file_a}
use Rattle.bundle.specs.Show.{Part, show_part, show_answer}

-- ---- showing
-- A's or B's, by a part's file.
abbrev pub of_file : {X : Type 0} → (file : ℕ) → (a b : X) → X
of_file file a b = cond (eqb file file_a) a b

-- The bytes of a part, and where they lie: in the buffer itself, `start` bytes behind its beginning.
abbrev pub part_bytes : Part → (A B : List ℕ) → List ℕ
part_bytes p A B = take p.size (drop p.start (of_file p.file A B))

abbrev pub behind : ℕ × ℕ → ℕ → ℕ × ℕ
behind p n = (p.0, n + p.1)

abbrev pub part_place : Part → (a b : ℕ × ℕ) → ℕ × ℕ
part_place p a b = behind (of_file p.file a b) p.start

-- It returns r, a part of the buffers a and b: these bytes, and in these places.
pub record Shows (a b : Bor (List ℕ)) (line : ℕ) (r : Bor (List ℕ)) : Type 0 where
  pub bytes : r.now ≡ part_bytes (show_part newest_edition a.now b.now line) a.now b.now
  pub place : r.ref_ptr ≡ part_place (show_part newest_edition a.now b.now line) a.ref_ptr b.ref_ptr

pub record AnswersShow (A B : List ℕ) (line : ℕ) (r : Answer) : Type 0 where
  pub is : r ≡ show_answer newest_edition A B line
