-- The guards' files in the output, one after the other, and their sizes. Assumes nothing.
use mathlib.Core.Path.{◌≡◌, refl, sym, ◌∙◌, ap, subst}
use mathlib.Core.List.{List, [], ◌∷◌, ◌++◌, map, append_assoc, append-nil}
use Prim.Native.Nat.{ℕ, suc, ◌+◌, ◌-◌, ◌≤◌, ◌<◌}
use native.Mathlib.Omega.{arith}
use lib.IntN.{ℤ}
use lib.ListN.{length, take, drop, set, length-drop, length-append, length-set, take-append-drop, drop_of_length-le}
use lib.Seq.{sets, sets-eq, take_all, take_at, drop_at, drop-drop, length-take-le, take-suc-set, drop-set-lt}
use Rattle.forms.specs.Edition.{edition1}
use Rattle.forms.specs.Forms.{Formula}
use Rattle.answers.specs.declared.Answer.{Answer}
use Rattle.answers.specs.Answers.{Result, refused, accepted, ◌>>=◌, over}
use Rattle.answers.proofs.Results.{never, one_value}
use Rattle.fields.specs.Fields.{Fields, fields}
use Rattle.fields.specs.Header.{header_bytes}
use Rattle.fields.proofs.Headers.{length-header_bytes}
use Rattle.formula.specs.Formula.{encode, formula_file}
use Rattle.chains.specs.Runs.{Run, joined}
use Rattle.run.specs.Run.{check_cut, both}
use Rattle.std.specs.Prelude.{Ok, Err, IsOk}
use Rattle.std.specs.declared.result.Result as code
use Rattle.run_cuts.specs.Cuts.{stages_of, CutDerives, Asked, cut_of, CutChecked}
use Rattle.run_cuts.specs.All.{files, cuts_of}
use Rattle.run_cuts.specs.declared.begun.Run as begun
use Rattle.run_cuts.proofs.OneCut.{asked-again}
use Rattle.run_cuts.proofs.AllCuts.{cuts_from, cuts-from, file-size, stages-count}
use Rattle.run_cuts.specs.Writing.{GuardFits, WritesGuard, GuardsFit, WritesAll}

-- ---- bytes over the front of others
over-on : {X : Type 0} (f g d : List X) → over (f ++ g) d ≡ f ++ over g (drop (length f) d)
unfolding over
over-on f g d = rw (append_assoc, length-append f g, drop-drop (length g) (length f) d)

-- a part from a place to the end, put back
pub record PartIs {X : Type 0} (n : ℕ) (out : List X) : Type 0 where
  pub is : take (length out - n) (drop n out) ≡ drop n out
  pub none : drop (length out - n) (drop n out) ≡ []

part-is : {X : Type 0} (n : ℕ) (out : List X) → PartIs n out
part-is n out = record {
  is = take_all (length out - n) (drop n out) (omega (arith, length-drop n out));
  none = drop_of_length-le (drop n out) {i = length out - n} (omega (arith, length-drop n out));
}

put-length : {X : Type 0} (n : ℕ) (out part : List X) → n ≤ length out → length part ≡ length (take (length out - n) (drop n out)) → length (take n out ++ (part ++ drop (length out - n) (drop n out))) ≡ length out
put-length n out part h q = rw ((part-is n out).none, append-nil part) (omega (arith, length-append (take n out) part, length-take-le n out h, q, ap length (part-is n out).is, length-drop n out))

-- ---- one guard
-- the header at the front, and then the formula behind it
module _ (h f out : List ℕ) (eight : length h ≡ 8) (fits : length f + 8 ≤ length out) where
  headed : sets out 0 h ≡ h ++ drop 8 out
  headed = sets-eq h out 0 (omega arith) ∙ rw eight

  head-is : take 8 (sets out 0 h) ≡ h
  head-is = rw headed (take_at h (drop 8 out) 8 eight)

  tail-is : drop 8 (sets out 0 h) ≡ drop 8 out
  tail-is = rw headed (drop_at h (drop 8 out) 8 eight)

  part-size : length (take (length (sets out 0 h) - 8) (drop 8 (sets out 0 h))) ≡ length out - 8
  part-size = rw ((part-is 8 (sets out 0 h)).is, tail-is) (length-drop 8 out)

  filed : {part : List ℕ} → part ≡ sets (take (length (sets out 0 h) - 8) (drop 8 (sets out 0 h))) 0 f
      → take 8 (sets out 0 h) ++ (part ++ drop (length (sets out 0 h) - 8) (drop 8 (sets out 0 h))) ≡ over (h ++ f) out
  unfolding over
  filed e =
      let p : take (length (sets out 0 h) - 8) (drop 8 (sets out 0 h)) ≡ drop 8 out = (part-is 8 (sets out 0 h)).is ∙ tail-is in
      let z : 0 + length f ≡ length f = omega arith in
      let q : sets (drop 8 out) 0 f ≡ f ++ drop (length f) (drop 8 out) = sets-eq f (drop 8 out) 0 (omega (arith, length-drop 8 out)) ∙ rw z in
      rw (e, p, q, head-is, (part-is 8 (sets out 0 h)).none, append-nil (f ++ drop (length f) (drop 8 out)), over-on h f out, eight)

module _ {r : begun.Run} {c : ℕ} {out : List ℕ} (g : GuardFits r c out) where
  pub guard-room : 8 ≤ length out
  guard-room = omega (arith, g.room, file-size r.k g.formula)

  -- what is lent to the check behind the header, and the output when that is back
  abbrev behind : List ℕ → List ℕ
  behind x = take (length x - 8) (drop 8 x)

  abbrev put : (x part : List ℕ) → List ℕ
  put x part = take 8 x ++ (part ++ drop (length x - 8) (drop 8 x))

  module _ {part : List ℕ} {o : ℕ} (d : CutDerives (cut_of r c) (behind (sets out 0 (header_bytes 1 r.k))) part o) where
    fits : length (encode edition1 d.formula) + 8 ≤ length out
    fits = rw (← one_value g.is d.is) (omega (arith, g.room, file-size r.k g.formula))

    stored : part ≡ sets (behind (sets out 0 (header_bytes 1 r.k))) 0 (encode edition1 d.formula)
    stored = d.stored (omega (arith, d.o_is, fits, part-size (header_bytes 1 r.k) (encode edition1 d.formula) out (length-header_bytes 1 r.k) fits))

    derived : WritesGuard r c out (put (sets out 0 (header_bytes 1 r.k)) part) (o + 8)
    unfolding formula_file
    derived = record {
      size = λ I i. rw (← one_value d.is i) (omega (arith, d.o_is, file-size r.k d.formula));
      output = λ I i. rw (← one_value d.is i) (filed (header_bytes 1 r.k) (encode edition1 d.formula) out (length-header_bytes 1 r.k) fits stored);
    }

  guard-read : (x : code.Result ℕ Answer) {S part : List ℕ} → CutChecked r c S part x → IsOk x
  guard-read (Ok o) q = refl
  guard-read (Err a) q = absurd (never (sym q.by ∙ g.is))

  module _ {S part : List ℕ} {x : code.Result ℕ Answer} (q : CutChecked r c S part x) where
    pub guard-derives : IsOk x
    guard-derives = guard-read x q

    pub guard-few : {o : ℕ} → x ≡ Ok o → o ≤ 5_242_880
    guard-few h = (rw h at q).by.few

  pub guard-written : {out₁ part : List ℕ} {x : code.Result ℕ Answer} → CutChecked r c (behind out₁) part x → {o : ℕ} → x ≡ Ok o → out₁ ≡ sets out 0 (header_bytes 1 r.k) → WritesGuard r c out (put out₁ part) (o + 8)
  guard-written {out₁} {part} q {o} h e =
      let d = (rw h at q).by in
      subst (λ (x : List ℕ). WritesGuard r c out (put x part) (o + 8)) (sym e)
      (derived (subst (λ (x : List ℕ). CutDerives (cut_of r c) (behind x) part o) e d))

-- ---- all guards
-- a cut that is accepted with those after it
pub record CutsOn (K : ℕ) (Ts : Run) (fs : Fields) (i n : ℕ) (Js : List Formula) : Type 0 where
  pub first : Formula
  pub others : List Formula
  pub is : Js ≡ first ∷ others
  pub first-is : check_cut 2 K Ts fs i ≡ accepted first
  pub others-are : cuts_from K Ts fs (suc i) n ≡ accepted others

both-accepted : (K : ℕ) (Ts : Run) (fs : Fields) (i n : ℕ) {Js : List Formula} (r : Result Formula) (rs : Result (List Formula)) → check_cut 2 K Ts fs i ≡ r → cuts_from K Ts fs (suc i) n ≡ rs
    → (both r rs >>= λ (I, Is). accepted (I ∷ Is)) ≡ accepted Js → CutsOn K Ts fs i n Js
unfolding both ◌>>=◌
both-accepted K Ts fs i n (refused a) (refused b) p q e = absurd (never e)
both-accepted K Ts fs i n (refused a) (accepted Is) p q e = absurd (never e)
both-accepted K Ts fs i n (accepted I) (refused b) p q e = absurd (never e)
both-accepted K Ts fs i n (accepted I) (accepted Is) p q e = record { first = I; others = Is; is = sym (one_value refl e); first-is = p; others-are = q }

pub cuts-on : (K : ℕ) (Ts : Run) (fs : Fields) (i n : ℕ) {Js : List Formula} → cuts_from K Ts fs i (suc n) ≡ accepted Js → CutsOn K Ts fs i n Js
cuts-on K Ts fs i n e = both-accepted K Ts fs i n (check_cut 2 K Ts fs i) (cuts_from K Ts fs (suc i) n) refl refl e

-- a file more, at o
module _ (o : ℕ) (f g out : List ℕ) (h : o + length f ≤ length out) where
  front-size : length (take o out ++ f) ≡ o + length f
  front-size = omega (arith, length-append (take o out) f, length-take-le o out (omega arith))

  file-on : {part : List ℕ} → part ≡ over f (take (length out - o) (drop o out)) → {x : List ℕ} → x ≡ take o out ++ (part ++ drop (length out - o) (drop o out))
      → take (o + length f) x ++ over g (drop (o + length f) x) ≡ take o out ++ over (f ++ g) (drop o out)
  unfolding over
  file-on e q =
      let y : take o out ++ (f ++ drop (length f) (drop o out)) ≡ (take o out ++ f) ++ drop (length f) (drop o out) = sym (append_assoc (take o out) f (drop (length f) (drop o out))) in
      rw (
        q,
        e,
        (part-is o out).is,
        (part-is o out).none,
        append-nil (f ++ drop (length f) (drop o out)),
        y,
        take_at (take o out ++ f) (drop (length f) (drop o out)) (o + length f) front-size,
        drop_at (take o out ++ f) (drop (length f) (drop o out)) (o + length f) front-size,
      )
      (append_assoc (take o out) f (over g (drop (length f) (drop o out))) ∙ ap (λ (l : List ℕ). take o out ++ l) (sym (over-on f g (drop o out))))

-- a size more, at c
size-on : (c v : ℕ) (vs sizes : List ℕ) → c < length sizes → take (c + 1) (set sizes c v) ++ over vs (drop (c + 1) (set sizes c v)) ≡ take c sizes ++ over (v ∷ vs) (drop c sizes)
size-on c v vs sizes h =
    let z : c + 1 ≡ suc c = omega arith in
    let d : drop (suc c) sizes ≡ drop 1 (drop c sizes) = rw (drop-drop 1 c sizes, z) in
    rw (z, take-suc-set sizes c v h, drop-set-lt (suc c) sizes c v (omega arith), d)
    (append_assoc (take c sizes) (v ∷ []) (over vs (drop 1 (drop c sizes))) ∙ ap (λ (l : List ℕ). take c sizes ++ l) (sym (over-on (v ∷ []) vs (drop c sizes))))

-- the guards from c on are left, and the output from o on
pub record FilesLeft (r : begun.Run) (kinds₀ : List ℕ) (buf₀ : List ℤ) (out₀ sizes₀ kinds : List ℕ) (buf : List ℤ) (out sizes : List ℕ) (o c : ℕ) : Type 0 where
  pub kinds_length : length kinds ≡ length kinds₀
  pub lines_length : length buf ≡ length buf₀
  pub out_length : length out ≡ length out₀
  pub sizes-length : length sizes ≡ length sizes₀
  pub upto : c ≤ length r.lengths.now + 1
  pub left : List Formula
  pub are : cuts_from r.k (stages_of r) (fields r.proof.now) c (length r.lengths.now + 1 - c) ≡ accepted left
  pub room : o + length (joined (files r.k left)) ≤ length out
  pub output : (Is : List Formula) → cuts_of r ≡ accepted Is → take o out ++ over (joined (files r.k left)) (drop o out) ≡ over (joined (files r.k Is)) out₀
  pub told : (Is : List Formula) → cuts_of r ≡ accepted Is → take c sizes ++ over (map length (files r.k left)) (drop c sizes) ≡ over (map length (files r.k Is)) sizes₀

module _ {r : begun.Run} {kinds₀ : List ℕ} {buf₀ : List ℤ} (a : Asked r kinds₀ buf₀) {out₀ sizes₀ : List ℕ} (f : GuardsFit r out₀ sizes₀) where
  pub files-start : FilesLeft r kinds₀ buf₀ out₀ sizes₀ kinds₀ buf₀ out₀ sizes₀ 0 0
  files-start =
      let z : length r.lengths.now + 1 - 0 ≡ suc (length (stages_of r)) = omega (arith, stages-count a.staged) in
      record {
        kinds_length = refl;
        lines_length = refl;
        out_length = refl;
        sizes-length = refl;
        upto = omega arith;
        left = f.formulas;
        are = rw z (cuts-from r.k (stages_of r) (fields r.proof.now) 0 (length (stages_of r)) ∙ f.are);
        room = omega (arith, f.room);
        output = λ Is i. rw (one_value f.are i);
        told = λ Is i. rw (one_value f.are i);
      }

  module _ {kinds : List ℕ} {buf : List ℤ} {out sizes : List ℕ} {o c : ℕ} (g : FilesLeft r kinds₀ buf₀ out₀ sizes₀ kinds buf out sizes o c) where
    pub files-asked : Asked r kinds buf
    files-asked = asked-again a g.kinds_length g.lines_length

    pub files-done : length r.lengths.now < c → WritesAll r out₀ out sizes₀ sizes
    unfolding over
    files-done h =
        let z : length r.lengths.now + 1 - c ≡ 0 = omega arith in
        let e : g.left ≡ [] = sym (one_value refl (rw z at g.are)) in
        let x = rw e at g.output in
        let y = rw e at g.told in
        record { output = λ Is i. sym (take-append-drop o out) ∙ x Is i; told = λ Is i. sym (take-append-drop c sizes) ∙ y Is i }

    module _ (l : c ≤ length r.lengths.now) where
      on : CutsOn r.k (stages_of r) (fields r.proof.now) c (length r.lengths.now - c) g.left
      on = let z : length r.lengths.now + 1 - c ≡ suc (length r.lengths.now - c) = omega arith in cuts-on r.k (stages_of r) (fields r.proof.now) c (length r.lengths.now - c) (rw z at g.are)

      abbrev file_of : List ℕ
      file_of = formula_file edition1 r.k on.first

      left-size : length (joined (files r.k g.left)) ≡ length file_of + length (joined (files r.k on.others))
      left-size = ap (λ (Js : List Formula). length (joined (files r.k Js))) on.is ∙ length-append file_of (joined (files r.k on.others))

      file-fits : o + length file_of ≤ length out
      file-fits = omega (arith, g.room, left-size)

      pub files-place : o ≤ length out
      files-place = omega (arith, file-fits)

      pub files-slot : c < length sizes
      files-slot = omega (arith, g.sizes-length, f.slots)

      pub files-fit : GuardFits r c (take (length out - o) (drop o out))
      files-fit = record { formula = on.first; is = on.first-is; room = rw (part-is o out).is (omega (arith, length-drop o out, file-fits)) }

      module _ {part : List ℕ} {size : ℕ} (w : WritesGuard r c (take (length out - o) (drop o out)) part size) where
        size_is : size ≡ length file_of
        size_is = w.size on.first on.first-is

        pub files-size : o + size ≤ length out
        files-size = omega (arith, size_is, file-fits)

        pub files-next : {kinds₁ : List ℕ} {buf₁ : List ℤ} {out₁ : List ℕ} → length kinds₁ ≡ length kinds → length buf₁ ≡ length buf → length part ≡ length (take (length out - o) (drop o out))
            → out₁ ≡ take o out ++ (part ++ drop (length out - o) (drop o out)) → FilesLeft r kinds₀ buf₀ out₀ sizes₀ kinds₁ buf₁ out₁ (set sizes c size) (o + size) (c + 1)
        files-next hk hl hp e =
            let ho = ap length e ∙ put-length o out part files-place hp in
            let y : suc c ≡ c + 1 = omega arith in
            let z : length r.lengths.now - c ≡ length r.lengths.now + 1 - (c + 1) = omega arith in
            record {
              kinds_length = hk ∙ g.kinds_length;
              lines_length = hl ∙ g.lines_length;
              out_length = ho ∙ g.out_length;
              sizes-length = length-set sizes c size ∙ g.sizes-length;
              upto = omega arith;
              left = on.others;
              are = rw (y, z) at on.others-are;
              room = omega (arith, ho, g.room, left-size, size_is);
              output = λ Is i. rw size_is (file-on o file_of (joined (files r.k on.others)) out file-fits (w.output on.first on.first-is) e)
                  ∙ ap (λ (Js : List Formula). take o out ++ over (joined (files r.k Js)) (drop o out)) (sym on.is) ∙ g.output Is i;
              told = λ Is i. size-on c size (map length (files r.k on.others)) sizes files-slot ∙ rw size_is (ap (λ (Js : List Formula). take c sizes ++ over (map length (files r.k Js)) (drop c sizes)) (sym on.is))
                  ∙ g.told Is i;
            }
