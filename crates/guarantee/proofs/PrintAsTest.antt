-- Every refusal of printing but 21 is that of testing, which alone compares K (9). Assumes nothing.
use mathlib.Core.Path.{◌≡◌, refl, sym, ap, ◌∙◌}
use mathlib.Core.Bool.{Bool, true, false, ◌&&◌}
use mathlib.Core.List.{List}
use mathlib.Core.Option.{none, some}
use Prim.Native.Nat.{ℕ, ◌≤◌}
use lib.Dec.{leb, eqb, le→leb}
use lib.IntN.{ℤ, nat_abs}
use lib.ListN.{length}
use borrow.Author.Tests.{le-leb}
use Rattle.forms.specs.Edition.{edition1}
use Rattle.forms.specs.Forms.{All, Formula}
use Rattle.number_bytes.proofs.Signed.{all-weaken}
use Rattle.answers.specs.declared.Answer.{Answer}
use Rattle.answers.specs.declared.WriteResult.{WriteResult}
use Rattle.answers.specs.Answers.{answer, file_proof, Result, refused, accepted, ◌>>=◌, ◌>>◌, need, Written, written_of, written}
use Rattle.answers.proofs.Results.{never, bind-refused, pass, passes, each-accepted}
use Rattle.fields.specs.declared.FileKind.{FileKind}
use Rattle.fields.specs.Fields.{Fields, fields}
use Rattle.fields.specs.Header.{agrees, header_field, edition_field, constants_field, header, finished}
use Rattle.formula.specs.Formula.{formula_within, read_formula}
use Rattle.formula.specs.Test.{tested, judged, test_formula}
use Rattle.formula_test.specs.declared.Tested.{Tested}
use Rattle.formula_test.specs.Promises.{Tests, as_tested}
use Rattle.printing.specs.Print.{text_behind, printed, print_formula}
use Rattle.printing.specs.Promises.{PrintsFile}
use Rattle.printing.proofs.ReadOverK.{header-any}

-- What the one refuses, but for 9, the other refuses alike.
abbrev Follows : {X Y : Type 0} → Result X → Result Y → Type 0
Follows r s = (a : Answer) → r ≡ refused a → ¬ (a.number ≡ 9) → s ≡ refused a

follows-accepted : {X Y : Type 0} (x : X) (s : Result Y) → Follows (accepted x) s
follows-accepted x s a e n = absurd (never (sym e))

module _ {X Y Z : Type 0} where
  same_first : (m : Result X) {f : X → Result Y} {g : X → Result Z} → ((x : X) → Follows (f x) (g x)) → Follows (m >>= f) (m >>= g)
  unfolding ◌>>=◌
  same_first (refused a) h b e n = let p : a ≡ b = cc in ap refused p
  same_first (accepted x) h b e n = h x b e n

  like-first : (m m' : Result X) {f : X → Result Y} {g : X → Result Z} → Follows m m' → ((x : X) → m ≡ accepted x → m' ≡ accepted x) → ((x : X) → Follows (f x) (g x)) → Follows (m >>= f) (m' >>= g)
  unfolding ◌>>=◌
  like-first (refused a) m' {g = g} p q h b e n = let k : a ≡ b = cc in bind-refused g (p b (ap refused k) n)
  like-first (accepted x) m' {g = g} p q h b e n = rw (q x refl) (h x b e n)

same_test : {Y Z : Type 0} (m : Result (Unit {0})) {r : Result Y} {s : Result Z} → Follows r s → Follows (m >> r) (m >> s)
unfolding ◌>>◌
same_test (refused a) h b e n = let p : a ≡ b = cc in ap refused p
same_test (accepted tt) h b e n = h b e n

then-follows : {X Y : Type 0} (m m' : Result X) (f : X → Y) → Follows m m' → Follows (m >>= λ y. accepted (f y)) (m' >>= λ y. accepted (f y))
unfolding ◌>>=◌
then-follows (refused a) m' f p b e n = bind-refused _ (p b (let k : a ≡ b = cc in ap refused k) n)
then-follows (accepted y) m' f p b e n = absurd (never (sym e))

-- ---- the header: K given, or not
module _ (kind : FileKind) (file newest K : ℕ) where
  agree-follows : (x : ℕ × ℕ × Fields) (b : Bool) → Follows {X = ℕ × Fields} {Y = ℕ × Fields} (need (answer 9 file x.0) b >> accepted (x.1, x.2)) (need (answer 9 file x.0) true >> accepted (x.1, x.2))
  unfolding need ◌>>◌
  agree-follows x true = follows-accepted {X = ℕ × Fields} {Y = ℕ × Fields} (x.1, x.2) (accepted (x.1, x.2))
  agree-follows x false = λ a e n. let p : answer 9 file x.0 ≡ a = cc in absurd (n (ap (λ (y : Answer). y.number) (sym p)))

  constants-follow : (fs : Fields) → Follows (constants_field kind file (some K) fs) (constants_field kind file none fs)
  unfolding constants_field agrees
  constants-follow fs = same_first (header_field kind file 0x02 fs) λ x. same_test (need (answer 7 file x.0) (leb 1 x.1 && leb x.1 edition1.constants)) (agree-follows x (eqb x.1 K))

  header-follows : (fs : Fields) → Follows (header kind file newest (some K) fs) (header kind file newest none fs)
  unfolding header
  header-follows fs = same_first (edition_field kind file newest fs) λ x. then-follows (constants_field kind file (some K) x.1) (constants_field kind file none x.1) (λ (y : ℕ × Fields). record { number = x.0; K = y.0; rest = y.1 }) (constants-follow x.1)

-- ---- the file
printed-follows : (wording : Bool) (K : ℕ) (file : List ℕ) → Follows (need (answer 1 file_proof 0) (leb (length file) 65_536) >> read_formula K (fields file)) (printed wording file)
unfolding printed text_behind read_formula
printed-follows wording K file = same_test (need (answer 1 file_proof 0) (leb (length file) 65_536)) (like-first (header FileKind.Formula file_proof 1 (some K) (fields file)) (header FileKind.Formula file_proof 1 none (fields file))
    (header-follows FileKind.Formula file_proof 1 K (fields file)) (header-any FileKind.Formula file_proof 1 K (fields file))
    λ h. same_first (formula_within edition1 h.K edition1.levels h.rest) λ x. same_test (finished FileKind.Formula file_proof x.1) (follows-accepted x.0 _))

-- ---- what is told
of-refused : (w : Result (List ℕ)) (a : Answer) (output left : List ℕ) (r : WriteResult) → written_of r left ≡ written w output → w ≡ refused a → r.answer ≡ a
unfolding written
of-refused w a output left r e f = ap (λ (x : Written). x.answer) (e ∙ ap (λ (v : Result (List ℕ)). written v output) f)

of-tested : (values : List ℤ) (w : Result Formula) (t : Tested) → t ≡ as_tested (judged values w) → ¬ (t.answer.number ≡ 0) → w ≡ refused t.answer
unfolding judged
of-tested values (refused a) t e n = ap refused (sym (ap (λ (x : Tested). x.answer) e))
of-tested values (accepted I) t e n = absurd (n (ap (λ (x : Tested). x.answer.number) e))

values-pass : (values : List ℤ) (file : List ℕ) → 1 ≤ length values → length values ≤ 16 → All (λ z. nat_abs z ≤ 1_000_000) values
    → tested file values ≡ (need (answer 1 file_proof 0) (leb (length file) 65_536) >> read_formula (length values) (fields file))
unfolding tested
values-pass values file low high range =
    let b : (leb 1 (length values) && leb (length values) 16) ≡ true = rw (le-leb 1 (length values) low, le-leb (length values) 16 high) in
    pass _ _ b ∙ passes _ (each-accepted _ _ 0 (all-weaken (λ z k. le→leb (nat_abs z) 1_000_000 k) range))

pub as_test : (wording : Bool) (file output left : List ℕ) (r : WriteResult) → PrintsFile wording file output left r
    → (values : List ℤ) → 1 ≤ length values → length values ≤ 16 → All (λ z. nat_abs z ≤ 1_000_000) values → (t : Tested) → Tests file values t
    → ¬ (t.answer.number ≡ 0) → ¬ (t.answer.number ≡ 9) → r.answer ≡ t.answer
unfolding print_formula test_formula
as_test wording file output left r p values low high range t q n n9 =
    let e : tested file values ≡ refused t.answer = of-tested values (tested file values) t q.is n in
    of-refused (printed wording file) t.answer output left r p.is (printed-follows wording (length values) file t.answer (sym (values-pass values file low high range) ∙ e) n9)
