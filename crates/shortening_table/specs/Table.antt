-- The fields that stay as the code counts and writes them. Assumes nothing.
use Rattle.std.specs.Prelude.{Bool, true, cond, List, ◌++◌, ℕ, zero, suc, ◌+◌, ◌*◌, ◌-◌, ◌≤◌, ◌<◌, eqb, ◌≡◌, length, get_or, set, take, drop}
use Rattle.std.proofs.lemmas.List.Edits.{sets}
use Rattle.number_bytes.specs.Numbers.{unsigned_bytes}
use Rattle.fields.specs.Fields.{Fields, ends, cut, ◌▸◌, field_bytes}
use Rattle.proof.specs.Entries.{entry_tagged, line_count}
use Rattle.shortening.specs.Passes.{top, pop, is_kept}
use Rattle.shortening_stack.specs.declared.Class.{Class}
use Rattle.shortening_stack.specs.declared.Class.TheVariants.{Makes, Branches}

-- How many of the fields are no claims.
abbrev pub row_fields : Fields → ℕ
row_fields (ends at) = 0
row_fields (cut at) = 0
row_fields (f ▸ fs) = cond (eqb f.tag 0x20) (row_fields fs) (suc (row_fields fs))

-- `reported` is the report on the rows to come, and `b` tells whether the row before stays.
abbrev pub bytes_from : Fields → (reported : List ℕ) (b : Bool) → ℕ
bytes_from (ends at) reported b = 0
bytes_from (cut at) reported b = 0
bytes_from (f ▸ fs) reported b =
    cond (eqb f.tag 0x20) (cond b (3 + length f.contents) 0 + bytes_from fs reported b)
    (cond (is_kept (top 0 reported)) (3 + length f.contents) 0 + bytes_from fs (pop reported) (is_kept (top 0 reported)))

-- The report has a byte for each row.
pub record ReportCovers (fs : Fields) (report : List ℕ) : Type 0 where
  pub room : row_fields fs ≤ length report

-- ---- new line numbers
-- How many of the lines before each are gone; no more than there are.
pub record Fewer (gones : List ℕ) : Type 0 where
  pub fewer : (j : ℕ) → j < length gones → get_or gones j 0 ≤ j

-- A row that makes a line, or the lines of branches: how many of the lines before it are gone. A close makes none.
abbrev pub renewed : Class → List ℕ → (lines kept : ℕ) → List ℕ
renewed Makes gones lines kept = set gones lines (lines - kept)
renewed Branches gones lines kept = set gones lines (lines - kept)
renewed _ gones lines kept = gones

-- ---- a field with new line numbers
-- The contents, whose first `count` numbers of w bytes are these.
abbrev pub numbered : (count w first second : ℕ) → List ℕ → List ℕ
numbered zero w first second bs = bs
numbered (suc zero) w first second bs = unsigned_bytes w first ++ drop w bs
numbered (suc (suc _)) w first second bs = unsigned_bytes w first ++ (unsigned_bytes w second ++ drop (w + w) bs)

-- The field and the output have room.
pub record Puttable (p : List ℕ) (start len w count : ℕ) (out : List ℕ) (o : ℕ) : Type 0 where
  pub there : start + len ≤ length p
  pub room : o + 3 + len ≤ length out
  pub numbers : count * w ≤ len
  pub few : count ≤ 2
  pub narrow : w ≤ 2

pub record PutField (p : List ℕ) (tag start len w count first second : ℕ) (out : List ℕ) (o : ℕ) (out' : List ℕ) : Type 0 where
  pub is : out' ≡ sets out o (field_bytes tag (numbered count w first second (take len (drop start p))))
  pub out_length : length out' ≡ length out

-- ---- a field that stays or goes
-- The new number of line i.
abbrev pub new_number : List ℕ → ℕ → ℕ
new_number gones i = i - get_or gones i 0

-- If it stays, there is room for it.
pub record Keepable (p : List ℕ) (tag start len w : ℕ) (stays : Bool) (gones out : List ℕ) (o : ℕ) : Type 0 where
  pub fewer : Fewer gones
  pub able : stays ≡ true → Puttable p start len w (line_count (entry_tagged tag)) out o

pub record PutKept (p : List ℕ) (tag start len w first second : ℕ) (stays : Bool) (gones out : List ℕ) (o : ℕ) (out' : List ℕ) (o' : ℕ) : Type 0 where
  pub is : out' ≡ cond stays (sets out o (field_bytes tag (numbered (line_count (entry_tagged tag)) w (new_number gones first) (new_number gones second) (take len (drop start p))))) out
  pub next : o' ≡ cond stays (o + 3 + len) o
  pub out_length : length out' ≡ length out
