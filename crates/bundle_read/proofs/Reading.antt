-- Reading a bundle: each way through `read` and `store_body` as a law over plain values. Assumes nothing.
use mathlib.Core.Path.{◌≡◌, sym, ◌∙◌}
use mathlib.Core.Option.{none}
use mathlib.Core.List.{List}
use Prim.Native.Nat.{ℕ, suc, ◌+◌, ◌*◌, ◌≤◌, ◌<◌}
use native.Mathlib.Nat.{suc-mul, zero-mul}
use native.Mathlib.Omega.{arith}
use lib.IntN.{ℤ}
use lib.ListN.{length, length-map, length-append}
use lib.Seq.{sets}
use borrow.Author.Tests.{le-leb, lt-leb}
use Rattle.forms.specs.Edition.{edition}
use Rattle.forms.specs.Forms.{Constraint}
use Rattle.answers.specs.declared.Answer.{Answer}
use Rattle.answers.specs.Answers.{answer, acceptance, file_a, Result, refused, ◌>>◌, need, over}
use Rattle.answers.proofs.Over.{sets_over}
use Rattle.number_bytes.specs.Numbers.{flat, form_from}
use Rattle.number_bytes.proofs.Signed.{length-signeds, flat-signeds}
use Rattle.fields.specs.Fields.{Fields, ends, cut, ◌▸◌}
use Rattle.fields.specs.Places.{fields_at}
use Rattle.bundle.specs.Bundle.{Bundle, at_most, bundle}
use Rattle.bundle.specs.Read.{kinds_of, numbers_of, unread, store, stored, read_bundle}
use Rattle.bundle_scan.specs.Scan.{stated, IsBundle}
use Rattle.bundle_scan.specs.declared.Body.{Body}
use Rattle.bundle_scan.proofs.Bodies.{states, count_is}
use Rattle.bundle_read.specs.Promises.{read_of}
use Rattle.bundle_read.specs.declared.ReadResult.{ReadResult}

-- K+1 numbers a constraint
stated-size : (w K : ℕ) (fs : Fields) → length (numbers_of (stated w K fs)) ≡ length (stated w K fs) * suc K
unfolding numbers_of stated
stated-size w K (ends at) = sym (zero-mul (suc K))
stated-size w K (cut at) = sym (zero-mul (suc K))
stated-size w K (f ▸ fs) =
    length-append (flat (form_from w K f.contents)) (numbers_of (stated w K fs))
    ∙ rw (flat-signeds w K f.contents, length-signeds w (suc K) f.contents) (omega (arith, suc-mul (length (stated w K fs)) (suc K), stated-size w K fs))

module _ (kinds : List ℕ) (numbers : List ℤ) where
  -- ---- each way through `read`
  pub read-unread : {x : ReadResult} {a : Answer} → x ≡ record { answer = a; count = 0; k = 0; edition = 0 } → read_of x kinds numbers ≡ unread kinds numbers a
  unfolding unread
  read-unread e = rw e

  pub read_long : (file : List ℕ) → 8192 < length file → read_bundle kinds numbers 2 file ≡ unread kinds numbers (answer 1 1 0)
  unfolding read_bundle stored at_most need ◌>>◌
  read_long file h = rw (lt-leb (length file) 8192 h)

  pub read_short : (file : List ℕ) → length file ≤ 8192 → read_bundle kinds numbers 2 file ≡ stored kinds numbers (bundle 2 file_a none file)
  unfolding read_bundle at_most need ◌>>◌
  read_short file h = rw (le-leb (length file) 8192 h)

  pub stored_refused : {R : Result Bundle} {a : Answer} → R ≡ refused a → stored kinds numbers R ≡ unread kinds numbers a
  unfolding stored
  stored_refused e = rw e

  -- ---- each way through `store_body`
  module _ {file : List ℕ} {K : ℕ} {body : Body} (b : IsBundle 0 file K body) where
    abbrev all : List Constraint
    all = stated (edition body.edition).coefficient_width K (fields_at file body.at)

    kinds-size : length (kinds_of all) ≡ body.count
    unfolding kinds_of
    kinds-size = length-map all _ ∙ count_is b

    numbers-size : length (numbers_of all) ≡ body.count * (K + 1)
    numbers-size =
        let e : suc K ≡ K + 1 = omega arith in
        stated-size (edition body.edition).coefficient_width K (fields_at file body.at) ∙ rw (count_is b, e)

    pub short-kinds : length kinds < body.count → stored kinds numbers (bundle 2 file_a none file) ≡ unread kinds numbers (answer 21 4 body.count)
    unfolding stored store
    short-kinds h = rw (states b file_a, kinds-size, lt-leb body.count (length kinds) h, count_is b)

    module _ (fits : body.count ≤ length kinds) where
      pub short-numbers : length numbers < body.count * (K + 1) → stored kinds numbers (bundle 2 file_a none file) ≡ unread kinds numbers (answer 21 4 body.count)
      unfolding stored store
      short-numbers h = rw (states b file_a, kinds-size, le-leb body.count (length kinds) fits, numbers-size, lt-leb (body.count * (K + 1)) (length numbers) h, count_is b)

      module _ (fit : body.count * (K + 1) ≤ length numbers) {w : ℕ} (v : w ≡ (edition body.edition).coefficient_width) where
        pub read-stored : {kinds' : List ℕ} {numbers' : List ℤ} → kinds' ≡ sets kinds 0 (kinds_of (stated w K (fields_at file body.at))) → numbers' ≡ sets numbers 0 (numbers_of (stated w K (fields_at file body.at)))
            → read_of (record { answer = acceptance; count = body.count; k = K; edition = body.edition }) kinds' numbers' ≡ stored kinds numbers (bundle 2 file_a none file)
        unfolding stored store
        read-stored x y =
            let kx : sets kinds 0 (kinds_of all) ≡ over (kinds_of all) kinds = sets_over (kinds_of all) kinds (omega (arith, kinds-size)) in
            let ny : sets numbers 0 (numbers_of all) ≡ over (numbers_of all) numbers = sets_over (numbers_of all) numbers (omega (arith, numbers-size)) in
            rw (x, y, v, states b file_a, kinds-size, le-leb body.count (length kinds) fits, numbers-size, le-leb (body.count * (K + 1)) (length numbers) fit, kx, ny, count_is b)
