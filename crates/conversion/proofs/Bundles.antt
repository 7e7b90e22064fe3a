-- A bundle that is turned is the file of the same constraints in the other edition, and turned back it is what it was, without notes. Assumes nothing.
use mathlib.Core.Path.{◌≡◌, sym, ◌∙◌, ap, subst}
use mathlib.Core.Logic.{◌⊎◌}
use mathlib.Core.Option.{Option, none, some}
use mathlib.Core.List.{List, [], ◌∷◌, ◌++◌}
use Prim.Native.Nat.{ℕ, ◌≤◌}
use native.Mathlib.Omega.{arith}
use lib.Dec.{T}
use lib.ListN.{length}
use Rattle.forms.specs.Edition.{Edition, edition, newest_edition}
use Rattle.forms.proofs.Editions.{coefficient_width-is, bundle_bytes-grows}
use Rattle.forms.specs.Forms.{Form, Constraint, All, nil, cons, every, small}
use Rattle.answers.specs.Answers.{file_a, accepted}
use Rattle.answers.proofs.Results.{Gives, weaken, bind, seq, binds, passes}
use Rattle.number_bytes.specs.Numbers.{Bytes, flat, form_from}
use Rattle.number_bytes.specs.Ranges.{FormInWidth}
use Rattle.number_bytes.proofs.Signed.{length-signeds, all-weaken}
use Rattle.fields.specs.declared.FileKind.{FileKind}
use Rattle.fields.specs.Fields.{Fields, Item, item, fields, Framed, file_of, without_notes}
use Rattle.fields.specs.Header.{header_tag, known, agrees}
use Rattle.fields.proofs.Framing.{items-file_of}
use Rattle.fields.proofs.Contents.{ItemBytes, contents-bytes}
use Rattle.bundle.specs.Bundle.{Bundle, form_small, bundle}
use Rattle.bundle.specs.Layout.{Each, States, BundleFile}
use Rattle.bundle.specs.Read.{kinds_of, numbers_of}
use Rattle.bundle.specs.Write.{holdable}
use Rattle.bundle.proofs.Laid.{Lists, done, next, listed, AllSmall, Laid, bundle-gives, bundle-accepts, short-gives, short-accepted}
use Rattle.bundle.proofs.Every.{every_of, of-every}
use Rattle.bundle.proofs.Writable.{FormsInWidth, bytes_of, bytes_of-file, sized, bundle_items, bundle_items-short, restated, holdable-both, holdable-in, all_append, all_both}
use Rattle.bundle.proofs.RoundTrips.{items-file}
use Rattle.conversion.specs.Turning.{other, asked, other_edition, each_field, numbers_fit, bundle_turned, behind_header}
use Rattle.conversion.proofs.Asking.{Asked, asked-gives, asked-accepted, asked-first, asked-last, asked-back, other-other, other-gives, other-accepted, same-edition, Fit, ends-fit, next_fits, each-field-gives, each-field-accepted, within-gives, within-accepted, behind}

-- ---- numbers that a width holds
-- Each number of each constraint.
abbrev pub AllHeld : (w : ℕ) → List Constraint → Type 0
AllHeld w = All (λ c. T (every (holdable w) (flat c.form)))

all_split : {X : Type 0} {P : X → Type 0} (xs : List X) {y : X} → All P (xs ++ (y ∷ [])) → All P xs × P y
all_split [] (cons p nil) = (nil, p)
all_split (x ∷ xs) (cons p ps) = let (qs, q) = all_split xs ps in (cons p qs, q)

form-held : (w K : ℕ) → (w ≡ 2) ⊎ (w ≡ 4) → (t : Form) → length t.coeffs ≡ K → T (every (holdable w) (flat t)) → FormInWidth w K t
unfolding flat
form-held w K e t s h =
    let (cs, d) = all_split t.coeffs (of-every (holdable w) (t.coeffs ++ (t.d ∷ [])) h) in
    record { size = s; coeffs = all-weaken (holdable-in w e) cs; d = holdable-in w e _ d }

-- A stated form has K coefficients.
pub stated-size : {e : Edition} {K : ℕ} {i : Item} {c : Constraint} → States e K i c → length c.form.coeffs ≡ K
unfolding form_from
stated-size {e} {K} {i} s = ap (λ (t : Form). length t.coeffs) (sym s.form) ∙ length-signeds e.coefficient_width K i.contents

held-widths : {e : Edition} {K : ℕ} (w : ℕ) → (w ≡ 2) ⊎ (w ≡ 4) → {is : List Item} {cs : List Constraint} → Each (States e K) is cs → AllHeld w cs → FormsInWidth w K cs
held-widths w e Each.nil nil = nil
held-widths {K = K} w e (Each.cons {y = c} s ss) (cons h hs) = cons (form-held w K e c.form (stated-size s) h) (held-widths w e ss hs)

-- ---- each field, and each constraint
module _ (e e' : Edition) (K : ℕ) where
  fit-held : {fs : Fields} {cs : List Constraint} → Lists (States e K) fs cs → Fit (λ f. T (numbers_fit e e' K f)) fs → AllHeld e'.coefficient_width cs
  unfolding numbers_fit
  fit-held (done at) ends-fit = nil
  fit-held (next f s l) (next_fits h k) = cons (subst (λ (t : Form). T (every (holdable e'.coefficient_width) (flat t))) s.form h) (fit-held l k)

  held-fit : {fs : Fields} {cs : List Constraint} → Lists (States e K) fs cs → AllHeld e'.coefficient_width cs → Fit (λ f. T (numbers_fit e e' K f)) fs
  unfolding numbers_fit
  held-fit (done at) nil = ends-fit
  held-fit (next f s l) (cons h k) = next_fits (subst (λ (t : Form). T (every (holdable e'.coefficient_width) (flat t))) (sym s.form) h) (held-fit l k)

-- ---- what is turned
-- The bytes are the file, in the edition asked for, of the constraints that the file states in the other one; and each number is held.
pub record BundleTurns (to : ℕ) (file bytes : List ℕ) : Type 0 where
  pub asks : Asked to
  pub K : ℕ
  pub cs : List Constraint
  pub source : BundleFile newest_edition file (other to) K cs
  pub held : AllHeld (edition to).coefficient_width cs
  pub are : bytes ≡ file_of (bundle_items to K cs)

-- The constraints' fields.
pub body-lists : {file : List ℕ} {n K : ℕ} {cs : List Constraint} → BundleFile newest_edition file n K cs → Lists (States (edition n) K) (behind_header (fields file)) cs
body-lists {file} {n} {K} f = listed (behind_header (fields file)) (behind (fields file) _ _ f.laid.body (f.whole ∙ ap some f.laid.are)) f.laid.states

pub file-widths : {file : List ℕ} {n K : ℕ} {cs : List Constraint} (w : ℕ) → (w ≡ 2) ⊎ (w ≡ 4) → BundleFile newest_edition file n K cs → AllHeld w cs → FormsInWidth w K cs
file-widths w e f h = held-widths w e f.laid.states h

module _ (to : ℕ) (file : List ℕ) where
  -- as the other edition states them
  turned-from : Asked to → (b : Bundle) → Laid newest_edition none file b → b.edition ≡ other to
      → Fit (λ f. T (numbers_fit (edition b.edition) (edition to) b.K f)) (behind_header (fields file))
      → BundleTurns to file (bytes_of to b.K (kinds_of b.constraints) (numbers_of b.constraints))
  turned-from a b l e h =
      let held : AllHeld (edition to).coefficient_width b.constraints = fit-held (edition b.edition) (edition to) b.K (body-lists l.file) h in
      record {
        asks = a;
        K = b.K;
        cs = b.constraints;
        source = subst (λ (n : ℕ). BundleFile newest_edition file n b.K b.constraints) e l.file;
        held = held;
        are = bytes_of-file to b.K (sized (file-widths (edition to).coefficient_width (coefficient_width-is to) l.file held));
      }

  pub bundle-turned-gives : Gives (bundle_turned to file) (BundleTurns to file)
  unfolding bundle_turned
  bundle-turned-gives = seq (asked-gives to) λ a. seq (short-gives _ file_a file) λ _. seq (other-gives FileKind.Bundle file_a to (fields file)) λ s.
      bind (bundle-gives newest_edition file_a none file) λ b l. seq (each-field-gives 13 file_a _ tt (behind_header (fields file))) λ h.
      weaken (within-gives _ _) λ bs r.
      subst (BundleTurns to file) (sym r.0) (turned-from a b l (same-edition (fields file) (other to) b.edition _ s (l.file.whole ∙ ap some l.file.laid.are)) h)

  -- Where all that is accepted, the result is not too long.
  pub result-short : (b : Bundle) → asked to ≡ accepted tt → other_edition FileKind.Bundle file_a to (fields file) ≡ accepted tt → bundle newest_edition file_a none file ≡ accepted b
      → each_field 13 file_a (numbers_fit (edition b.edition) (edition to) b.K) (behind_header (fields file)) ≡ accepted tt
      → length (bytes_of to b.K (kinds_of b.constraints) (numbers_of b.constraints)) ≤ (edition to).bundle_bytes
  unfolding turned-from
  result-short b a o e f =
      let l = (bundle-gives newest_edition file_a none file).gives b e in
      let s = (other-gives FileKind.Bundle file_a to (fields file)).gives tt o in
      let t = turned-from ((asked-gives to).gives tt a) b l (same-edition (fields file) (other to) b.edition _ s (l.file.whole ∙ ap some l.file.laid.are)) ((each-field-gives 13 file_a _ tt (behind_header (fields file))).gives tt f) in
      subst (λ (bs : List ℕ). length bs ≤ (edition to).bundle_bytes) (sym t.are)
      (bundle_items-short to l.file.laid.high (file-widths (edition to).coefficient_width (coefficient_width-is to) l.file t.held) l.file.few)

  -- The other way: whatever the other edition states is turned, if each number is held. (The result is never too long.)
  pub bundle-turned-accepts : Asked to → {K : ℕ} {cs : List Constraint} → BundleFile newest_edition file (other to) K cs → AllHeld (edition to).coefficient_width cs
      → bundle_turned to file ≡ accepted (file_of (bundle_items to K cs))
  unfolding bundle_turned agrees known header_tag
  bundle-turned-accepts a {K} {cs} f h =
      let b : Bundle = record { edition = other to; K = K; constraints = cs } in
      let short : length file ≤ (edition newest_edition).bundle_bytes = omega (arith, f.short, bundle_bytes-grows (other to) newest_edition f.first f.last) in
      let widths : FormsInWidth (edition to).coefficient_width K cs = file-widths (edition to).coefficient_width (coefficient_width-is to) f h in
      let same : bytes_of to K (kinds_of cs) (numbers_of cs) ≡ file_of (bundle_items to K cs) = bytes_of-file to K (sized widths) in
      passes _ (asked-accepted a)
      ∙ passes _ (short-accepted _ file_a file short)
      ∙ passes _ (other-accepted FileKind.Bundle file_a to (fields file) _ tt (f.whole ∙ ap some f.laid.are))
      ∙ binds _ (bundle-accepts newest_edition file_a none file b (record { file = f; agree = tt }))
      ∙ passes _ (each-field-accepted 13 file_a _ (held-fit (edition (other to)) (edition to) K (body-lists f) h))
      ∙ within-accepted (edition to).bundle_bytes _ (rw same (bundle_items-short to f.laid.high widths f.few))
      ∙ ap accepted same

-- ---- the turned bundle states what the bundle stated: its K, and its constraints in order
pub turned-states : {to : ℕ} {file bytes : List ℕ} (t : BundleTurns to file bytes) → BundleFile newest_edition bytes to t.K t.cs
turned-states {to} {file} {bytes} t =
    let f = t.source in
    subst (λ (bs : List ℕ). BundleFile newest_edition bs to t.K t.cs) (sym t.are)
    (items-file newest_edition to (asked-first t.asks) (asked-last t.asks) f.laid.low f.laid.high f.few
    (file-widths (edition to).coefficient_width (coefficient_width-is to) f t.held) f.within)

-- ---- turned back
form-holdable : (w K : ℕ) (t : Form) → FormInWidth w K t → T (form_small 2_147_483_647 t) → T (every (holdable w) (flat t))
unfolding flat form_small
form-holdable w K t h r = every_of (holdable w) (all_both (holdable-both w) (all_append h.coeffs (cons h.d nil)) (of-every (small 2_147_483_647) (t.coeffs ++ (t.d ∷ [])) r))

-- The numbers that a file of bytes states are held by its own edition.
all_held : {w K : ℕ} {cs : List Constraint} → FormsInWidth w K cs → AllSmall 2_147_483_647 cs → AllHeld w cs
all_held nil nil = nil
all_held {w} {K} (cons {x = c} h hs) (cons r rs) = cons (form-holdable w K c.form h r) (all_held hs rs)

body_bytes : {i j : Item} {is : List Item} → All ItemBytes (i ∷ j ∷ is) → All ItemBytes is
body_bytes (cons _ (cons _ h)) = h

turned-back : {to : ℕ} {file bytes : List ℕ} → Bytes file → (t : BundleTurns to file bytes) → bundle_turned (other to) bytes ≡ accepted (file_of t.source.list)
turned-back {to} {file} {bytes} k t =
    let f = t.source in
    let r = restated (body_bytes (subst (All ItemBytes) f.laid.are (contents-bytes file k f.whole))) f.laid.states in
    bundle-turned-accepts (other to) bytes (asked-back t.asks)
    (subst (λ (n : ℕ). BundleFile newest_edition bytes n t.K t.cs) (sym (other-other t.asks)) (turned-states t))
    (all_held r.widths f.within)
    ∙ ap (λ (is : List Item). accepted (file_of is)) (sym (f.laid.are ∙ ap (λ (is : List Item). item 0x01 (other to ∷ []) ∷ item 0x02 (t.K ∷ []) ∷ is) r.are))

-- The file of any framed fields, if it is turned, is turned back as the file of these fields without notes.
pub bundle-back : (to : ℕ) (F : List Item) → All Framed F → Bytes (file_of F) → (bytes : List ℕ) → bundle_turned to (file_of F) ≡ accepted bytes → bundle_turned (other to) bytes ≡ accepted (file_of (without_notes F))
bundle-back to F framed k bytes e =
    let t = (bundle-turned-gives to (file_of F)).gives bytes e in
    turned-back k t ∙ ap (λ (is : List Item). accepted (file_of is)) (one_list t.source.whole (items-file_of F framed))
  where
    one_list : {is js : List Item} {o : Option (List Item)} → o ≡ some is → o ≡ some js → is ≡ js
    one_list p q = cc
