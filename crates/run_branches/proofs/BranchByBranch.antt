-- The branches of a step, one after the other, are its branches together. Assumes nothing.
use mathlib.Core.Path.{◌≡◌, refl, sym, ◌∙◌, ap}
use mathlib.Core.Bool.{Bool, true, false, ◌&&◌}
use mathlib.Core.List.{List, [], ◌∷◌}
use mathlib.Core.Option.{none, some}
use Prim.Native.Nat.{ℕ, zero, suc}
use native.Mathlib.Omega.{arith}
use lib.Dec.{eqb}
use lib.ListN.{length}
use borrow.Author.Tests.{ne_eqb}
use Rattle.forms.specs.Forms.{every}
use Rattle.answers.specs.declared.Answer.{Answer}
use Rattle.answers.specs.Answers.{position, Result, refused, accepted, ◌>>=◌, ◌>>◌, need, found}
use Rattle.fields.specs.Fields.{Field, Fields, Item, item}
use Rattle.chains.specs.Runs.{joined}
use Rattle.number_bytes.specs.Same.{same_bytes}
use Rattle.run.specs.Uniform.{same_items, Walked, WalkedBranches, Walker, walk_branches, first_and_third, all_alike, walk_opened}
use Rattle.run_fields.specs.declared.kind.Matching.{Matching}
use Rattle.run_fields.specs.Kinds.{alike_by, compared_in}
use Rattle.run_branches.specs.Branches.{like_first, walk_from, Likens}
use Rattle.run_branches.specs.declared.walk.Own.{Own}
use Rattle.run_fields.specs.Same.{SameFields}
use Rattle.run_branches.specs.Walks.{End, ended}
use Rattle.run_branches.proofs.WalkEnds.{end_at}

-- ---- a branch compared to the first
and_no : (b : Bool) {c : Bool} → c ≡ false → (b && c) ≡ false
and_no true e = e
and_no false e = refl

items-lengths : (is js : List Item) → (length is ≡ length js → ⊥) → same_items is js ≡ false
unfolding same_items
items-lengths [] [] d = absurd (d refl)
items-lengths [] (j ∷ js) d = refl
items-lengths (i ∷ is) [] d = refl
items-lengths (i ∷ is) (j ∷ js) d = and_no (eqb i.tag j.tag && same_bytes i.contents j.contents) (items-lengths is js (λ e. d (ap suc e)))

module _ {p : List ℕ} {alike : Matching} {b : ℕ} {first own : Own} where
  pub likened-not : {like : Bool} → like ≡ false → Likens p like alike b first own like
  likened-not h = record { is = λ s t k l. rw h }

  module _ {like : Bool} (h : like ≡ true) {c : Bool} (q : c ≡ compared_in alike b) where
    pub likened-free : c ≡ false → Likens p like alike b first own like
    likened-free e = record { is = λ s t k l. rw (h, ← q, e) }

    module _ (e : c ≡ true) where
      pub likened-counts : (first.rows ≡ own.rows → ⊥) → Likens p like alike b first own false
      likened-counts d = record { is = λ {firsts} {owns} s t k l. let z = items-lengths firsts owns (λ x. d (omega (arith, x, k, l))) in rw (h, ← q, e, z) }

      pub likened-fields : first.rows ≡ own.rows → {r : Bool} → SameFields p first.at own.at own.rows r → Likens p like alike b first own r
      likened-fields f x = record { is = λ s t k l. rw (h, ← q, e) (x.is s t (k ∙ f) l) }

-- ---- all that must be alike
abbrev alike_from : Matching → (first : List Item) (b : ℕ) → List (List Item) → Bool
alike_from alike first b [] = true
alike_from alike first b (o ∷ os) = like_first alike b first o && alike_from alike first (suc b) os

third-on : (a : List Item) (b : ℕ) (os : List (List Item)) → alike_from Matching.FirstAndThird a (suc (suc (suc b))) os ≡ true
third-on a b [] = refl
third-on a b (o ∷ os) =
    let z : eqb (suc (suc (suc b))) 2 ≡ false = ne_eqb (suc (suc (suc b))) 2 (λ e. omega arith) in
    rw (z, third-on a (suc b) os)

all_from : (a : List Item) (b : ℕ) (os : List (List Item)) → every (same_items a) os ≡ alike_from Matching.All a (suc b) os
unfolding every
all_from a b [] = refl
all_from a b (o ∷ os) =
    let z : eqb (suc b) 0 ≡ false = ne_eqb (suc b) 0 (λ e. omega arith) in
    rw (z, ← all_from a (suc b) os)

none_from : (a : List Item) (b : ℕ) (os : List (List Item)) → alike_from Matching.Nothing a b os ≡ true
none_from a b [] = refl
none_from a b (o ∷ os) = none_from a (suc b) os

and_yes : (x : Bool) → (x && true) ≡ x
and_yes true = refl
and_yes false = refl

and_assoc : (x y z : Bool) → (x && (y && z)) ≡ ((x && y) && z)
and_assoc true y z = refl
and_assoc false y z = refl

alike_is : (alike : Matching) (a : List Item) (os : List (List Item)) → alike_by alike (a ∷ os) ≡ alike_from alike a 1 os
unfolding first_and_third all_alike
alike_is Matching.FirstAndThird a [] = refl
alike_is Matching.FirstAndThird a (b ∷ []) = refl
alike_is Matching.FirstAndThird a (b ∷ c ∷ ds) = sym (ap (λ x. same_items a c && x) (third-on a 0 ds) ∙ and_yes (same_items a c))
alike_is Matching.All a os = all_from a 0 os
alike_is Matching.Nothing a os = sym (none_from a 1 os)

-- ---- the branches from one on
abbrev end_of_all : WalkedBranches → End
end_of_all ws = record { rows = ws.rows; unlike = ws.unlike; after = ws.after }

-- all of them, and then the test
abbrev judged : (like : Bool) (alike : Matching) (first : List Item) (b : ℕ) → WalkedBranches → Result End
judged like alike first b ws = need ws.unlike (like && alike_from alike first b ws.owns) >> accepted (end_of_all ws)

abbrev last_of : Walked → WalkedBranches
last_of w = record { owns = w.own ∷ []; rows = w.rows; unlike = w.unlike; after = w.after }

abbrev cons_of : Walked → WalkedBranches → WalkedBranches
cons_of w ws = record { owns = w.own ∷ ws.owns; rows = ws.rows; unlike = ws.unlike; after = ws.after }

tested : (w : Walked) (x : Bool) → ended (need w.unlike x >> accepted w) ≡ (need w.unlike x >> accepted (end_at w))
unfolding ended ◌>>=◌ ◌>>◌ need
tested w true = refl
tested w false = refl

last-judged : (like : Bool) (alike : Matching) (first : List Item) (b : ℕ) (r : Result Walked)
    → ended (r >>= λ w. (need w.unlike (like && like_first alike b first w.own) >> accepted w)) ≡ ((r >>= λ w. accepted (last_of w)) >>= λ ws. judged like alike first b ws)
unfolding ended ◌>>=◌
last-judged like alike first b (refused a) = refl
last-judged like alike first b (accepted w) = tested w (like && like_first alike b first w.own) ∙ rw (and_yes (like_first alike b first w.own))

cons-judged : (like : Bool) (alike : Matching) (first : List Item) (b : ℕ) (w : Walked) (r : Result WalkedBranches)
    → (r >>= λ ws. judged (like && like_first alike b first w.own) alike first (suc b) ws) ≡ ((r >>= λ ws. accepted (cons_of w ws)) >>= λ ws. judged like alike first b ws)
unfolding ◌>>=◌
cons-judged like alike first b w (refused a) = refl
cons-judged like alike first b w (accepted ws) = rw (and_assoc like (like_first alike b first w.own) (alike_from alike first (suc b) ws.owns))

then-judged : (like : Bool) (alike : Matching) (first : List Item) (b : ℕ) (F : Walked → Result Walked) (G : Walked → Result WalkedBranches)
    → ((w : Walked) → ended (F w) ≡ (G w >>= λ ws. judged (like && like_first alike b first w.own) alike first (suc b) ws))
    → (r : Result Walked) → ended (r >>= F) ≡ ((r >>= λ w. (G w >>= λ ws. accepted (cons_of w ws))) >>= λ ws. judged like alike first b ws)
unfolding ended ◌>>=◌
then-judged like alike first b F G h (refused a) = refl
then-judged like alike first b F G h (accepted w) = h w ∙ cons-judged like alike first b w (G w)

from-later : (walker : Walker) (step : ℕ) (alike : Matching) (first : List Item) (like : Bool) (b left rows : ℕ) (fs : Fields)
    → ended (walk_from walker step alike first like (suc b) left rows fs) ≡ (walk_branches walker step (suc b) left rows fs >>= λ ws. judged like alike first (suc b) ws)
unfolding walk_from walk_branches
from-later walker step alike first like b zero rows fs = last-judged like alike first (suc b) (walker (position step (suc b)) rows fs)
from-later walker step alike first like b (suc left) rows fs =
    then-judged like alike first (suc b) (λ w. walk_from walker step alike first (like && like_first alike (suc b) first w.own) (suc (suc b)) left w.rows w.after)
    (λ w. walk_branches walker step (suc (suc b)) left w.rows w.after)
    (λ w. from-later walker step alike first (like && like_first alike (suc b) first w.own) (suc b) left w.rows w.after) (walker (position step (suc b)) rows fs)

-- ---- all branches of a step
-- The first is compared to none.
pub first-free : (alike : Matching) (first own : List Item) → like_first alike 0 first own ≡ true
first-free Matching.FirstAndThird first own = refl
first-free Matching.All first own = refl
first-free Matching.Nothing first own = refl

abbrev judged_by : Matching → WalkedBranches → Result End
judged_by alike ws = need ws.unlike (alike_by alike ws.owns) >> accepted (end_of_all ws)

first-last : (alike : Matching) (r : Result Walked)
    → ((r >>= λ w. accepted (last_of w)) >>= λ ws. judged_by alike ws) ≡ ended (r >>= λ w. (need w.unlike (true && like_first alike 0 [] w.own) >> accepted w))
unfolding ended ◌>>=◌
first-last alike (refused a) = refl
first-last alike (accepted w) = rw (first-free alike [] w.own, alike_is alike w.own []) (sym (tested w true))

cons-by : (alike : Matching) (w : Walked) (r : Result WalkedBranches) → ((r >>= λ ws. accepted (cons_of w ws)) >>= λ ws. judged_by alike ws) ≡ (r >>= λ ws. judged true alike w.own 1 ws)
unfolding ◌>>=◌
cons-by alike w (refused a) = refl
cons-by alike w (accepted ws) = rw (alike_is alike w.own ws.owns)

first_then : (alike : Matching) (F : Walked → Result Walked) (G : Walked → Result WalkedBranches)
    → ((w : Walked) → ended (F w) ≡ (G w >>= λ ws. judged true alike w.own 1 ws))
    → (r : Result Walked) → ((r >>= λ w. (G w >>= λ ws. accepted (cons_of w ws))) >>= λ ws. judged_by alike ws) ≡ ended (r >>= F)
unfolding ended ◌>>=◌
first_then alike F G h (refused a) = refl
first_then alike F G h (accepted w) = cons-by alike w (G w) ∙ sym (h w)

all-from-first : (walker : Walker) (step : ℕ) (alike : Matching) (last rows : ℕ) (fs : Fields)
    → (walk_branches walker step 0 last rows fs >>= λ ws. judged_by alike ws) ≡ ended (walk_from walker step alike [] true 0 last rows fs)
unfolding walk_from walk_branches
all-from-first walker step alike zero rows fs = first-last alike (walker (position step 0) rows fs)
all-from-first walker step alike (suc left) rows fs =
    first_then alike (λ w. walk_from walker step alike w.own (true && like_first alike 0 [] w.own) 1 left w.rows w.after) (λ w. walk_branches walker step 1 left w.rows w.after)
    (λ w. rw (first-free alike [] w.own) (from-later walker step alike w.own true 0 left w.rows w.after)) (walker (position step 0) rows fs)

tested-all : (ws : WalkedBranches) (own : List Item) (x : Bool)
    → ended (need ws.unlike x >> accepted (record { own = own; rows = ws.rows; unlike = ws.unlike; after = ws.after })) ≡ (need ws.unlike x >> accepted (end_of_all ws))
unfolding ended ◌>>=◌ ◌>>◌ need
tested-all ws own true = refl
tested-all ws own false = refl

module _ (alike : Matching) (f : Field) where
  abbrev opens_with : WalkedBranches → Result Walked
  opens_with ws = need ws.unlike (alike_by alike ws.owns) >> accepted (record { own = item f.tag f.contents ∷ joined ws.owns; rows = ws.rows; unlike = ws.unlike; after = ws.after })

  ended-all : (r : Result WalkedBranches) → ended (r >>= λ ws. opens_with ws) ≡ (r >>= λ ws. judged_by alike ws)
  unfolding ended ◌>>=◌
  ended-all (refused a) = refl
  ended-all (accepted ws) = tested-all ws (item f.tag f.contents ∷ joined ws.owns) (alike_by alike ws.owns)

-- What a row opens is walked branch by branch.
pub opened-from : (walker : Walker) (refusal : ℕ → Answer) (rows : ℕ) (f : Field) (fs : Fields) (last : ℕ) (alike : Matching)
    → ended (walk_opened (some walker) refusal rows f fs last (alike_by alike)) ≡ ended (walk_from walker rows alike [] true 0 last (suc rows) fs)
unfolding walk_opened found ◌>>=◌
opened-from walker refusal rows f fs last alike = ended-all alike f (walk_branches walker rows 0 last (suc rows) fs) ∙ all-from-first walker rows alike last (suc rows) fs

-- or refused, where no more may be open
pub opened-shut : (refusal : ℕ → Answer) (rows : ℕ) (f : Field) (fs : Fields) (last : ℕ) (alike : Matching) → ended (walk_opened none refusal rows f fs last (alike_by alike)) ≡ refused (refusal 17)
unfolding walk_opened found ended ◌>>=◌
opened-shut refusal rows f fs last alike = refl
