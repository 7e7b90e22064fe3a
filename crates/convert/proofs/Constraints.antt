-- Laws for each way through the functions that turn a bundle, once it is gone over. Assumes nothing.
use mathlib.Core.Path.{◌≡◌, sym, ◌∙◌, ap}
use mathlib.Core.Option.{none, some}
use mathlib.Core.List.{List}
use Prim.Native.Nat.{ℕ, suc, ◌+◌, ◌*◌, ◌≤◌, ◌<◌}
use native.Mathlib.Nat.{suc-mul}
use native.Mathlib.Omega.{arith}
use borrow.Author.Tests.{le-leb, lt-leb}
use lib.ListN.{length, length-append}
use lib.Seq.{sets}
use Rattle.forms.specs.Edition.{Edition, edition, newest_edition}
use Rattle.forms.specs.Forms.{Constraint}
use Rattle.forms.proofs.Editions.{bundle_bytes-most}
use Rattle.std.specs.Prelude.{Ok, Err}
use Rattle.std.specs.declared.result.Result as code
use Rattle.answers.specs.declared.refusals.Fault.{Fault}
use Rattle.answers.specs.Refusals.{told}
use Rattle.answers.specs.declared.Answer.{Answer}
use Rattle.answers.specs.declared.WriteResult.{WriteResult}
use Rattle.answers.specs.Answers.{acceptance, file_a, accepted, ◌>>◌, over, fit, written}
use Rattle.answers.proofs.Results.{passes, binds, then-refused, bind-refused}
use Rattle.answers.proofs.Over.{sets_over}
use Rattle.number_bytes.specs.Numbers.{flat}
use Rattle.fields.specs.declared.FileKind.{FileKind}
use Rattle.fields.specs.Fields.{Fields, Item, fields}
use Rattle.fields.specs.Places.{fields_at}
use Rattle.bundle.specs.Bundle.{bundle}
use Rattle.bundle.specs.Layout.{Each, States}
use Rattle.bundle.specs.Read.{kinds_of, numbers_of}
use Rattle.bundle.specs.Writable.{field_size}
use Rattle.bundle.proofs.Laid.{short-accepted}
use Rattle.bundle.proofs.Writable.{length-flat, length-kinds_of}
use Rattle.bundle_scan.specs.Scan.{stated, Scans, ConstraintsLeft}
use Rattle.bundle_scan.specs.declared.Body.{Body}
use Rattle.bundle_scan.specs.declared.Scanned.{Scanned}
use Rattle.bundle_scan.proofs.Scanning.{scanned-bundle, scanned-refused}
use Rattle.bundle_scan.proofs.Scanning as scanning
use Rattle.bundle_scan.proofs.Bodies as bodies
use Rattle.bundle_write.proofs.Putting.{bundle-size}
use Rattle.conversion.specs.Turning.{other, behind_header, result_within, bundle_turned, turn_bundle}
use Rattle.conversion.specs.Promises.{TurnsBundle}
use Rattle.conversion.proofs.Asking.{other-gives, same-edition, within-accepted}
use Rattle.conversion.proofs.Bundles.{stated-size, result-short}
use Rattle.conversion.proofs.First.{bundle-rest-gives}
use Rattle.conversion_bundle.specs.Turned.{old_width, new_width, numbers_held, bundle_turned_bytes}
use Rattle.convert.specs.Phases.{BundleTurnable, ToTurn, ToHold, ToWrite}
use Rattle.convert.proofs.Phases.{refused_as}

-- ---- gone over
module _ (to : ℕ) (file : List ℕ) (t : ToTurn to file) {s : code.Result Scanned Fault} (i : Scans 0 file 0 s) where
  pub bundle-fault : {f : Fault} → s ≡ Err f → BundleTurnable to file (Err f)
  unfolding bundle_turned
  bundle-fault e = passes _ t.asks ∙ passes _ (short-accepted _ file_a file t.short) ∙ passes _ t.from ∙ bind-refused _ (scanned-refused i e file_a)

  pub to-hold : {x : Scanned} → s ≡ Ok x → ToHold to file x.k x.body
  to-hold e = record { turn = t; is = (scanned-bundle i e).0 }

-- Constraints have K+1 numbers each.
numbers-size : {e : Edition} {K : ℕ} {is : List Item} {cs : List Constraint} → Each (States e K) is cs → length (numbers_of cs) ≡ length cs * (K + 1)
unfolding numbers_of
numbers-size Each.nil = omega arith
numbers-size {K = K} (Each.cons {y = c} {ys = cs} s ss) =
    let rest = numbers-size ss in
    let z : suc K ≡ K + 1 = omega arith in
    length-append (flat c.form) (numbers_of cs) ∙ omega (arith, length-flat c.form, stated-size s, suc-mul (length cs) (K + 1))

-- ---- a bundle without fault
module _ (to : ℕ) (file : List ℕ) (K : ℕ) (body : Body) (t : ToHold to file K body) where
  abbrev body-fields : Fields
  body-fields = fields_at file body.at

  abbrev own : List Constraint
  own = stated (old_width to) K body-fields

  -- it has the other edition
  edition_is : body.edition ≡ other to
  edition_is =
      let l = bodies.laid_out t.is in
      same-edition (fields file) (other to) body.edition _ ((other-gives FileKind.Bundle file_a to (fields file)).gives tt t.turn.from) (l.file.whole ∙ ap some l.file.laid.are)

  pub left : ConstraintsLeft (old_width to) K 0 body.count file body.at
  left = record { counts = rw edition_is at t.is.counts }

  reads : bundle newest_edition file_a none file ≡ accepted (record { edition = other to; K = K; constraints = own })
  reads = rw edition_is at (bodies.states t.is file_a)

  rest-is : body-fields ≡ behind_header (fields file)
  rest-is = (bundle-rest-gives newest_edition file_a none file).gives _ (t.is.header.is file_a)

  by_field : bundle_turned to file ≡ (numbers_held to K body-fields >> result_within (edition to).bundle_bytes (bundle_turned_bytes to K body-fields))
  unfolding bundle_turned
  by_field = passes _ t.turn.asks ∙ passes _ (short-accepted _ file_a file t.turn.short) ∙ passes _ t.turn.from ∙ binds _ reads
      ∙ ap (λ (fs : Fields). numbers_held to K fs >> result_within (edition to).bundle_bytes (bundle_turned_bytes to K body-fields)) (sym rest-is)

  module _ {u : code.Result (Unit {0}) Fault} (j : numbers_held to K body-fields ≡ told file_a (λ x. x) u) where
    pub number-unheld : {f : Fault} → u ≡ Err f → BundleTurnable to file (Err f)
    number-unheld g = by_field ∙ then-refused _ (j ∙ ap (told file_a (λ x. x)) g)

    pub none-unheld : u ≡ Ok tt → ToWrite to file K body
    none-unheld g = record { hold = t; fits = j ∙ ap (told file_a (λ x. x)) g }

-- ---- and each number held
module _ (to : ℕ) (file out : List ℕ) (K : ℕ) (body : Body) (t : ToWrite to file K body) where
  abbrev cs : List Constraint
  cs = own to file K body t.hold

  abbrev bytes : List ℕ
  bytes = bundle_turned_bytes to K (fields_at file body.at)

  abbrev size : ℕ
  size = 8 + body.count * field_size (new_width to) K

  count_is : length (kinds_of cs) ≡ body.count
  count_is = length-kinds_of cs ∙ omega (arith, scanning.count_is (old_width to) K 0 body.count (fields_at file body.at) (left to file K body t.hold).counts)

  numbers-are : length (numbers_of cs) ≡ length (kinds_of cs) * (K + 1)
  numbers-are =
      let n = rw (edition_is to file K body t.hold) at (numbers-size (bodies.laid_out t.hold.is).file.laid.states) in
      n ∙ ap (λ (m : ℕ). m * (K + 1)) (sym (length-kinds_of cs))

  size_is : size ≡ length bytes
  size_is = sym (bundle-size to K (kinds_of cs) (numbers_of cs) numbers-are ∙ ap (λ (n : ℕ). 8 + n * field_size (new_width to) K) count_is)

  -- never too long for its edition
  short : length bytes ≤ (edition to).bundle_bytes
  short = result-short to file (record { edition = other to; K = K; constraints = cs }) t.hold.turn.asks t.hold.turn.from (reads to file K body t.hold)
      (ap (numbers_held to K) (sym (rest-is to file K body t.hold)) ∙ t.fits)

  pub size-most : size ≤ 8_192
  size-most = omega (arith, size_is, short, bundle_bytes-most to)

  done-bytes : bundle_turned to file ≡ accepted bytes
  done-bytes = by_field to file K body t.hold ∙ passes _ t.fits ∙ within-accepted (edition to).bundle_bytes bytes short

  pub bundle-output-short : {r : WriteResult} → length out < size → r ≡ refused_as 21 4 size → TurnsBundle to file out out r
  unfolding turn_bundle written fit
  bundle-output-short l r = rw r (record { is = rw (done-bytes, lt-leb (length bytes) (length out) (omega (arith, size_is)), size_is) })

  pub bundle-put : {y : List ℕ} {a : Answer} → size ≤ length out → y ≡ sets out 0 bytes → a ≡ acceptance → TurnsBundle to file out y (record { answer = a; count = size })
  unfolding turn_bundle written fit
  bundle-put {y} l hy ha =
      let whole : y ≡ over bytes out = hy ∙ sets_over bytes out (omega (arith, size_is)) in
      rw (ha, whole) (record { is = rw (done-bytes, le-leb (length bytes) (length out) (omega (arith, size_is)), size_is) })
