-- A file's first field, and whether it says the other edition. Assumes nothing.
use mathlib.Core.Path.{◌≡◌, refl, sym, ◌∙◌, ap, subst}
use mathlib.Core.Bool.{Bool, true, false, ◌&&◌}
use mathlib.Core.List.{List}
use Prim.Native.Nat.{ℕ, ◌≤◌}
use native.Mathlib.Omega.{arith}
use borrow.Author.Tests.{ne_eqb}
use lib.Dec.{leb, eqb}
use Rattle.std.specs.Prelude.{Ok, Err}
use Rattle.std.specs.declared.result.Result as code
use Rattle.answers.specs.declared.refusals.Refusal.{Refusal}
use Rattle.answers.specs.declared.refusals.Fault.{Fault}
use Rattle.answers.specs.Refusals.{fault, told}
use Rattle.answers.specs.declared.Answer.{Answer}
use Rattle.answers.specs.Answers.{answer, Result, refused, accepted, ◌>>◌, need}
use Rattle.answers.proofs.Results.{Gives, gives-refused, gives-accepted, test, never, binds, bind-refused}
use Rattle.fields.specs.declared.FileKind.{FileKind}
use Rattle.fields.specs.declared.WholeField.{WholeField}
use Rattle.fields.specs.declared.End.{End}
use Rattle.fields.specs.declared.header.Numbered.{Numbered}
use Rattle.fields.specs.Fields.{Fields, ends, cut, ◌▸◌, fields}
use Rattle.fields.specs.Header.{header_field, edition_field}
use Rattle.fields.specs.Places.{fields_at, next_of, IsEdition}
use Rattle.fields.proofs.HeaderLaid.{edition-gives}
use Rattle.fields.proofs.Places.{starts, next-cut, next-ends, fields-whole-file}
use Rattle.proof.specs.Tree.{starts_at}
use Rattle.conversion.specs.Turning.{other, asked, other_edition}
use Rattle.conversion.proofs.Asking.{Asked, down, up, asked-gives}
use Rattle.convert.specs.Phases.{HasOther}

-- ---- where the first field starts
module _ (s : List ℕ) {r : code.Result WholeField End} (e : r ≡ next_of (fields_at s 0)) where
  first-at : starts_at (fields s) ≡ starts_at (fields_at s 0)
  first-at = ap starts_at (fields-whole-file s)

  pub first_field : {f : WholeField} → r ≡ Ok f → f.at ≡ starts_at (fields s)
  unfolding starts_at
  first_field f = sym (first-at ∙ ap starts_at (starts e f).is)

  pub first-cut : {a : ℕ} → r ≡ Err (End.Cut a) → a ≡ starts_at (fields s)
  unfolding starts_at
  first-cut f = sym (first-at ∙ ap starts_at (next-cut (fields_at s 0) e f))

  pub first_ends : {a : ℕ} → r ≡ Err (End.Ends a) → a ≡ starts_at (fields s)
  unfolding starts_at
  first_ends f = sym (first-at ∙ ap starts_at (next-ends (fields_at s 0) e f))

-- ---- the other edition
place-gives : (kind : FileKind) (file : ℕ) (fs : Fields) → Gives (header_field kind file 0x01 fs) (λ x. x.0 ≡ starts_at fs)
unfolding header_field starts_at
place-gives kind file (ends at) = gives-refused _ tt
place-gives kind file (cut at) = gives-refused _ tt
place-gives kind file (f ▸ fs) = test _ _ tt λ _. test _ _ tt λ _. test _ _ tt λ _. gives-accepted refl

need-value : {X : Type 0} (a : Answer) (b : Bool) {x y : X} → (need a b >> accepted x) ≡ accepted y → x ≡ y
unfolding need ◌>>◌
need-value a true {x} {y} e = let z : x ≡ y = cc in z
need-value a false e = absurd (never e)

need-refused : {X : Type 0} (a c : Answer) (b : Bool) (x : X) → (need a b >> accepted x) ≡ refused c → (b ≡ false) × (a ≡ c)
unfolding need ◌>>◌
need-refused a c true x e = absurd (never (sym e))
need-refused a c false x e = (refl, let z : a ≡ c = cc in z)

one-refusal : {X : Type 0} {a b : Answer} {r : Result X} → r ≡ refused a → r ≡ refused b → a ≡ b
one-refusal p q = cc

need-no : (b : Answer) {t : Bool} → t ≡ false → need b t ≡ refused b
unfolding need
need-no b z = rw z

need-ok : (b : Answer) {t : Bool} → t ≡ true → need b t ≡ accepted tt
unfolding need
need-ok b z = rw z

pair-first : {m n : ℕ} {fs gs : Fields} → ◌≡◌ {A = ℕ × Fields} (m, fs) (n, gs) → m ≡ n
pair-first e = ap (λ (x : ℕ × Fields). x.0) e

module _ (kind : FileKind) (file to : ℕ) (fs : Fields) where
  tested : {x : ℕ × ℕ × Fields} → header_field kind file 0x01 fs ≡ accepted x → other_edition kind file to fs ≡ need (answer 5 file (starts_at fs)) (eqb x.1 (other to))
  unfolding other_edition
  tested {x} q = binds _ q ∙ ap (λ (at : ℕ). need (answer 5 file at) (eqb x.1 (other to))) ((place-gives kind file fs).gives x q)

  other-value : {n : ℕ} {rest : Fields} → edition_field kind file 2 fs ≡ accepted (n, rest) → other_edition kind file to fs ≡ need (answer 5 file (starts_at fs)) (eqb n (other to))
  unfolding edition_field
  other-value {n} {rest} e = go (header_field kind file 0x01 fs) refl
    where
      go : (r : Result (ℕ × ℕ × Fields)) → header_field kind file 0x01 fs ≡ r → other_edition kind file to fs ≡ need (answer 5 file (starts_at fs)) (eqb n (other to))
      go (refused b) q = absurd (never (sym (bind-refused _ q) ∙ e))
      go (accepted x) q =
          let same : x.1 ≡ n = pair-first (need-value (answer 5 file x.0) (leb 1 x.1 && leb x.1 2) (sym (binds _ q) ∙ e)) in
          tested q ∙ ap (λ (m : ℕ). need (answer 5 file (starts_at fs)) (eqb m (other to))) same

  other-no : Asked to → {a : Answer} → edition_field kind file 2 fs ≡ refused a → other_edition kind file to fs ≡ refused a
  unfolding edition_field other_edition
  other-no asks {a} e = go (header_field kind file 0x01 fs) refl
    where
      not-it : {to : ℕ} → Asked to → (n : ℕ) → (leb 1 n && leb n 2) ≡ false → eqb n (other to) ≡ false
      not-it down n h = ne_eqb n 2 (λ z. let w : ◌≡◌ {A = Bool} true false = subst (λ (m : ℕ). (leb 1 m && leb m 2) ≡ false) z h in let v : ◌≡◌ {A = ℕ} 0 1 = cc in omega arith)
      not-it up n h = ne_eqb n 1 (λ z. let w : ◌≡◌ {A = Bool} true false = subst (λ (m : ℕ). (leb 1 m && leb m 2) ≡ false) z h in let v : ◌≡◌ {A = ℕ} 0 1 = cc in omega arith)

      go : (r : Result (ℕ × ℕ × Fields)) → header_field kind file 0x01 fs ≡ r → other_edition kind file to fs ≡ refused a
      go (refused b) q = bind-refused _ q ∙ ap refused (one-refusal (bind-refused _ q) e)
      go (accepted x) q =
          let (t, is) = need-refused (answer 5 file x.0) a (leb 1 x.1 && leb x.1 2) (x.1, x.2) (sym (binds _ q) ∙ e) in
          binds _ q ∙ need-no (answer 5 file x.0) (not-it asks x.1 t) ∙ ap refused is

is-asked : (to : ℕ) → asked to ≡ accepted tt → Asked to
is-asked to a = (asked-gives to).gives tt a

module _ (kind : FileKind) (to : ℕ) (s : List ℕ) {r : code.Result Numbered Fault} (e : IsEdition kind 2 s r) (a : asked to ≡ accepted tt) where
  by_value : {n : Numbered} → r ≡ Ok n → (file : ℕ) → other_edition kind file to (fields s) ≡ need (answer 5 file (starts_at (fields s))) (eqb n.value (other to))
  by_value f file = other-value kind file to (fields s) (e.is file ∙ ap (told file (λ n. (n.value, fields_at s n.next))) f)

  pub other-fine : {n : Numbered} → r ≡ Ok n → 1 ≤ n.value → n.value ≤ 2 → ¬ (n.value ≡ to) → HasOther kind to s (Ok tt)
  other-fine {n} f l m h = record { is = λ file. by_value f file ∙ need-ok _ (go (is-asked to a) n.value l m h) }
    where
      go : {to : ℕ} → Asked to → (v : ℕ) → 1 ≤ v → v ≤ 2 → ¬ (v ≡ to) → eqb v (other to) ≡ true
      go down v l m h = let z : v ≡ 2 = omega arith in rw z
      go up v l m h = let z : v ≡ 1 = omega arith in rw z

  pub other-there : {n : Numbered} {place : ℕ} → r ≡ Ok n → n.value ≡ to → place ≡ starts_at (fields s) → HasOther kind to s (Err (fault Refusal.WrongEdition place))
  other-there {n} f h p = record { is = λ file. by_value f file ∙ need-no _ (rw h (go (is-asked to a))) ∙ ap (λ (at : ℕ). refused (answer 5 file at)) (sym p) }
    where
      go : {to : ℕ} → Asked to → eqb to (other to) ≡ false
      go down = refl
      go up = refl

  pub other-refused : {f : Fault} → r ≡ Err f → HasOther kind to s (Err f)
  other-refused f = record { is = λ file. other-no kind file to (fields s) (is-asked to a) (e.is file ∙ ap (told file (λ n. (n.value, fields_at s n.next))) f) }

-- the edition that is read is 1 or 2
pub read-within : (kind : FileKind) (s : List ℕ) {r : code.Result Numbered Fault} → IsEdition kind 2 s r → {n : Numbered} → r ≡ Ok n → (1 ≤ n.value) × (n.value ≤ 2)
read-within kind s e f =
    let h = (edition-gives kind 0 2 (fields s)).gives _ (e.is 0 ∙ ap (told 0 (λ n. (n.value, fields_at s n.next))) f) in
    (h.first, h.last)
