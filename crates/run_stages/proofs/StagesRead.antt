-- The stages parted, tested for their lengths, and read, one after the other. Assumes nothing.
use mathlib.Core.Path.{◌≡◌, refl, sym, ◌∙◌, ap}
use mathlib.Core.Bool.{Bool, true, false, ◌&&◌}
use mathlib.Core.Option.{Option, none, some}
use Rattle.std.specs.Prelude.{Some, None, Ok, Err, MatchResult, IsErrAnd}
use Rattle.std.specs.declared.result.Result as code
use mathlib.Core.List.{List, [], ◌∷◌, ◌++◌, append_assoc, append-nil}
use Prim.Native.Nat.{ℕ, zero, suc, ◌+◌, ◌*◌, ◌-◌, ◌≤◌, ◌<◌}
use native.Mathlib.Omega.{arith}
use lib.Dec.{T, leb, eqb}
use lib.ListN.{length, get_or, take, drop, length-append, drop_of_length-le}
use lib.Seq.{length-take-le}
use borrow.Author.Tests.{le-leb, lt-leb, eq-eqb, ne_eqb, leb-true, eqb-true, eqb-false}
use Rattle.forms.specs.Edition.{edition}
use Rattle.answers.specs.declared.Answer.{Answer}
use Rattle.answers.specs.Answers.{answer, Result, refused, accepted, ◌>>=◌, ◌>>◌, need}
use Rattle.fields.specs.Places.{given_k, fields_at}
use Rattle.fields.proofs.Headers.{given-some}
use Rattle.bundle.specs.Bundle.{Bundle, at_most, bundle}
use Rattle.bundle_scan.specs.Scan.{stated, IsBundle, Scans}
use Rattle.bundle_scan.specs.declared.Scanned.{Scanned}
use Rattle.answers.specs.Refusals.{number_of}
use Rattle.answers.specs.declared.refusals.Fault.{Fault}
use Rattle.bundle_scan.proofs.Bodies as bodies
use Rattle.chains.specs.Runs.{joined}
use Rattle.run.specs.Run.{total, parts, parted, stages_short, read_stages, constants_of, run_of}
use Rattle.run_stages.specs.Staged.{staged}
use Rattle.run_stages.proofs.MappedErrors.{mapped-ok, mapped-err}
use Rattle.run_stages.proofs.StagesInTurn.{PartsLeft, parts-start, total-on, part-upto, parts_next, parts-on, parts_none}
use Rattle.run_stages.specs.Reading.{LengthsAddUp, FindsLong, ReadsStages}

-- ---- 25: the lengths are taken from the buffer's, one after the other
pub record Counting (buffer lengths : List ℕ) (i left : ℕ) : Type 0 where
  pub upto : i ≤ length lengths
  pub less : left ≤ length buffer
  pub is : total lengths + left ≡ length buffer + total (drop i lengths)

pub counting-start : (buffer lengths : List ℕ) → Counting buffer lengths 0 (length buffer)
counting-start buffer lengths = record { upto = omega arith; less = omega arith; is = omega arith }

pub counting-next : {buffer lengths : List ℕ} {i left rest : ℕ} → Counting buffer lengths i left → i < length lengths → (get_or lengths i 0 ≤ left) × (rest ≡ left - get_or lengths i 0) → Counting buffer lengths (i + 1) rest
counting-next {lengths = lengths} {i = i} g l h = record { upto = omega arith; less = omega (arith, g.less, h.1); is = omega (arith, g.is, h.0, h.1, total-on lengths i l) }

module _ (buffer lengths : List ℕ) (least : 1 ≤ length lengths) (most : length lengths ≤ 16) where
  parted-as : (b : Bool) → eqb (total lengths) (length buffer) ≡ b → b ≡ parted lengths buffer
  unfolding parted
  parted-as b e = rw (le-leb 1 (length lengths) least, le-leb (length lengths) 16 most, e)

  module _ {i left : ℕ} (g : Counting buffer lengths i left) where
    pub parted-over : i < length lengths → ¬ (get_or lengths i 0 ≤ left) → false ≡ parted lengths buffer
    parted-over l h = parted-as false (ne_eqb (total lengths) (length buffer) (λ e. h (omega (arith, g.is, total-on lengths i l))))

    pub parted-done : length lengths ≤ i → eqb left 0 ≡ parted lengths buffer
    unfolding total
    parted-done h =
        let z : total (drop i lengths) ≡ 0 = rw (drop_of_length-le lengths {i = i} h) in
        go z (eqb left 0) refl
      where
        go : total (drop i lengths) ≡ 0 → (b : Bool) → eqb left 0 ≡ b → b ≡ parted lengths buffer
        go z true e = parted-as true (eq-eqb (total lengths) (length buffer) (let q = eqb-true left 0 e in omega (arith, g.is)))
        go z false e = parted-as false (ne_eqb (total lengths) (length buffer) (λ q. eqb-false left 0 e (omega (arith, g.is))))

and_left : (a b : Bool) → (a && b) ≡ true → a ≡ true
and_left true b e = refl
and_left false b e = e

and_right : (a b : Bool) → (a && b) ≡ true → b ≡ true
and_right true b e = e
and_right false b e = absurd (let z : ◌≡◌ {A = ℕ} 0 1 = cc in omega arith)

pub parted-is : {buffer lengths : List ℕ} → parted lengths buffer ≡ true → LengthsAddUp buffer lengths
unfolding parted
parted-is {buffer} {lengths} e =
    let ab = and_left (leb 1 (length lengths) && leb (length lengths) 16) (eqb (total lengths) (length buffer)) e in
    record {
      least = leb-true 1 (length lengths) (and_left (leb 1 (length lengths)) (leb (length lengths) 16) ab);
      most = leb-true (length lengths) 16 (and_right (leb 1 (length lengths)) (leb (length lengths) 16) ab);
      adds_up = eqb-true (total lengths) (length buffer) (and_right (leb 1 (length lengths) && leb (length lengths) 16) (eqb (total lengths) (length buffer)) e);
    }

-- ---- 1 for each stage
record ShortLeft (buffer lengths : List ℕ) (i : ℕ) : Type 0 where
  left : List ℕ
  stands : PartsLeft lengths i left
  is : stages_short 2 11 (parts lengths buffer) ≡ stages_short 2 (11 + i) (parts (drop i lengths) left)

module _ {buffer lengths : List ℕ} {i : ℕ} (g : ShortLeft buffer lengths i) where
  short-done : length lengths ≤ i → FindsLong buffer lengths None
  unfolding stages_short
  short-done h = record { is = g.is ∙ rw (parts_none lengths i g.left h) }

  module _ (l : i < length lengths) where
    size_is : length (take (get_or lengths i 0) g.left) ≡ get_or lengths i 0
    size_is = length-take-le (get_or lengths i 0) g.left (part-upto g.stands l)

    short-long : 8192 < get_or lengths i 0 → FindsLong buffer lengths (Some (11 + i))
    unfolding stages_short at_most need ◌>>◌
    short-long h = record { is = g.is ∙ rw (parts-on g.stands l, size_is, lt-leb (get_or lengths i 0) 8192 h) }

    short-next : get_or lengths i 0 ≤ 8192 → ShortLeft buffer lengths (suc i)
    unfolding stages_short at_most need ◌>>◌
    short-next h =
        let z : suc (11 + i) ≡ 11 + suc i = omega arith in
        let y : i + 1 ≡ suc i = omega arith in
        record { left = drop (get_or lengths i 0) g.left; stands = rw y at (parts_next g.stands l); is = g.is ∙ rw (parts-on g.stands l, size_is, le-leb (get_or lengths i 0) 8192 h, z, y) }

module _ {buffer lengths : List ℕ} (p : LengthsAddUp buffer lengths) where
  -- the stages up to i are not too long
  short-upto : (i : ℕ) → i ≤ length lengths → ((j : ℕ) → j < i → get_or lengths j 0 ≤ 8192) → ShortLeft buffer lengths i
  short-upto zero l h = record { left = buffer; stands = parts-start p.adds_up; is = refl }
  short-upto (suc i) l h = short-next (short-upto i (omega arith) (λ j m. h j (omega arith))) (omega arith) (h i (omega arith))

  pub all-short : ((j : ℕ) → j < length lengths → get_or lengths j 0 ≤ 8192) → FindsLong buffer lengths None
  all-short h = short-done (short-upto (length lengths) (omega arith) h) (omega arith)

  pub first-long : (i : ℕ) → i < length lengths → 8192 < get_or lengths i 0 → ((j : ℕ) → j < i → get_or lengths j 0 ≤ 8192) → FindsLong buffer lengths (Some (11 + i))
  first-long i l m h = short-long (short-upto i (omega arith) h) l m

-- ---- the stages read
-- what a stage is read as, its refusal told as that of its file
abbrev pub ReadAs : (file : ℕ) → code.Result Scanned Fault → code.Result Scanned Answer → Type 0
ReadAs file r m = MatchResult r (λ x. m ≡ Ok x) (λ e. IsErrAnd m (λ a. a ≡ answer (number_of e.refusal) file e.place))

abbrev named : (file : ℕ) → Fault → Answer → Type 0
named file f a = a ≡ answer (number_of f.refusal) file f.place

pub record Reading (buffer lengths left : List ℕ) (i k count : ℕ) : Type 0 where
  pub stands : PartsLeft lengths i left
  pub done : List Bundle
  pub is : read_stages 2 11 none (parts lengths buffer) ≡ (read_stages 2 (11 + i) (given_k k) (parts (drop i lengths) left) >>= λ us. accepted (done ++ us))
  pub k_is : constants_of done ≡ k
  pub done-i : length done ≡ i
  pub low : 1 ≤ i → 1 ≤ k
  pub high : k ≤ 16
  pub count_is : length (joined (run_of done)) ≡ count
  pub few : count ≤ 32 * i

whole : {X : Type 0} (r : Result (List X)) → r ≡ (r >>= λ us. accepted ([] ++ us))
unfolding ◌>>=◌
whole (refused a) = refl
whole (accepted us) = refl

shift : (done : List Bundle) (t : Bundle) (r : Result (List Bundle)) → ((r >>= λ us. accepted (t ∷ us)) >>= λ us. accepted (done ++ us)) ≡ (r >>= λ us. accepted ((done ++ (t ∷ [])) ++ us))
unfolding ◌>>=◌
shift done t (refused a) = refl
shift done t (accepted us) = ap accepted (sym (append_assoc done (t ∷ []) us))

read_one : (file : ℕ) (given : Option ℕ) (T : List ℕ) (Ts : List (List ℕ)) {t : Bundle} → bundle 2 file given T ≡ accepted t → read_stages 2 file given (T ∷ Ts) ≡ (read_stages 2 (suc file) (some t.K) Ts >>= λ us. accepted (t ∷ us))
unfolding read_stages ◌>>=◌
read_one file given T Ts e = rw e

read-stop : (file : ℕ) (given : Option ℕ) (T : List ℕ) (Ts : List (List ℕ)) {a : Answer} → bundle 2 file given T ≡ refused a → read_stages 2 file given (T ∷ Ts) ≡ refused a
unfolding read_stages ◌>>=◌
read-stop file given T Ts e = rw e

constants-on : (done : List Bundle) (t : Bundle) → (1 ≤ length done → constants_of done ≡ t.K) → constants_of (done ++ (t ∷ [])) ≡ t.K
unfolding constants_of
constants-on [] t h = refl
constants-on (d ∷ ds) t h = h (omega arith)

count-on : (done : List Bundle) (t : Bundle) → length (joined (run_of (done ++ (t ∷ [])))) ≡ length (joined (run_of done)) + length t.constraints
unfolding run_of
count-on [] t = omega (arith, length-append t.constraints [])
count-on (d ∷ ds) t = omega (arith, length-append d.constraints (joined (run_of (ds ++ (t ∷ [])))), length-append d.constraints (joined (run_of ds)), count-on ds t)

pub reading-start : {buffer lengths : List ℕ} → LengthsAddUp buffer lengths → Reading buffer lengths buffer 0 0 0
unfolding constants_of run_of
reading-start {buffer} {lengths} p = record {
  stands = parts-start p.adds_up;
  done = [];
  is = whole (read_stages 2 11 none (parts lengths buffer));
  k_is = refl;
  done-i = refl;
  low = λ h. absurd (omega arith);
  high = omega arith;
  count_is = refl;
  few = omega arith;
}

module _ {buffer lengths left : List ℕ} {i k count : ℕ} (g : Reading buffer lengths left i k count) where
  pub reading-done : 1 ≤ length lengths → length lengths ≤ i → ReadsStages buffer lengths (Ok (record { k = k; count = count }))
  unfolding staged read_stages ◌>>=◌
  reading-done n h =
      let e : read_stages 2 11 none (parts lengths buffer) ≡ accepted g.done = g.is ∙ rw (parts_none lengths i left h, append-nil g.done) in
      let z : staged buffer lengths ≡ g.done = rw e in
      record { by = record { is = e ∙ rw z; k_is = rw z g.k_is; count_is = rw z g.count_is; low = g.low (omega arith); high = g.high } }

  module _ (l : i < length lengths) {part rest : List ℕ} (front : part ≡ take (get_or lengths i 0) left) (back : rest ≡ drop (get_or lengths i 0) left) where
    on : parts (drop i lengths) left ≡ part ∷ parts (drop (i + 1) lengths) rest
    on = parts-on g.stands l ∙ rw (front, back)

    reading-stop : {f : Fault} → Scans k part 0 (Err f) → {a : Answer} → a ≡ answer (number_of f.refusal) (11 + i) f.place → ReadsStages buffer lengths (Err a)
    unfolding ◌>>=◌
    reading-stop sc q =
        let z = read-stop (11 + i) (given_k k) part (parts (drop (i + 1) lengths) rest) (sc.by (11 + i)) in
        record { by = g.is ∙ rw (on, z, q) }

    module _ {r : code.Result Scanned Fault} (sc : Scans k part 0 r) {m : code.Result Scanned Answer} (told : ReadAs (11 + i) r m) where
      pub reading-refused : {a : Answer} → m ≡ Err a → ReadsStages buffer lengths (Err a)
      reading-refused e = let f = mapped-err (named (11 + i)) r told e in reading-stop (rw f.1 at sc) f.2

      module _ {x : Scanned} (e : m ≡ Ok x) where
        stage-is : IsBundle k part x.k x.body
        stage-is = (rw (mapped-ok (named (11 + i)) r told e) at sc).by.0

        abbrev bundle_of : Bundle
        bundle_of = record { edition = x.body.edition; K = x.k; constraints = stated (edition x.body.edition).coefficient_width x.k (fields_at part x.body.at) }

        pub reading-few : count + x.body.count ≤ 32 * (i + 1)
        reading-few = omega (arith, g.few, bodies.few stage-is)

        pub reading-next : Reading buffer lengths rest (i + 1) x.k (count + x.body.count)
        reading-next =
            let z : suc (11 + i) ≡ 11 + (i + 1) = omega arith in
            let o = read_one (11 + i) (given_k k) part (parts (drop (i + 1) lengths) rest) (bodies.states stage-is (11 + i)) in
            record {
              stands = rw back (parts_next g.stands l);
              done = g.done ++ (bundle_of ∷ []);
              is = g.is ∙ rw (on, o, given-some x.k (bodies.low stage-is), ← z) (shift g.done bundle_of (read_stages 2 (suc (11 + i)) (some x.k) (parts (drop (i + 1) lengths) rest)));
              k_is = constants-on g.done bundle_of (λ n. g.k_is ∙ sym (bodies.as-given stage-is (g.low (omega (arith, g.done-i)))));
              done-i = omega (arith, g.done-i, length-append g.done (bundle_of ∷ []));
              low = λ h. bodies.low stage-is;
              high = bodies.high stage-is;
              count_is = count-on g.done bundle_of ∙ omega (arith, g.count_is, bodies.count_is stage-is);
              few = reading-few;
            }
