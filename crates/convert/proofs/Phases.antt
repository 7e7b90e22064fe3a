-- Laws for each way through turn_proof and turn_bundle. Assumes nothing.
use mathlib.Core.Path.{◌≡◌, sym, ◌∙◌, ap}
use mathlib.Core.Option.{none}
use mathlib.Core.Bool.{Bool, true, false, ◌&&◌}
use mathlib.Core.List.{List, ◌++◌}
use Prim.Native.Nat.{ℕ, ◌+◌, ◌≤◌, ◌<◌}
use native.Mathlib.Omega.{arith}
use borrow.Author.Tests.{le-leb, lt-leb}
use lib.Dec.{leb, le→leb}
use lib.ListN.{length, length-append}
use lib.Seq.{sets, length-sets}
use Rattle.forms.specs.Edition.{edition, newest_edition}
use Rattle.calculus.specs.Rules.{Entry}
use Rattle.std.specs.Prelude.{Ok, Err}
use Rattle.std.specs.declared.result.Result as code
use Rattle.answers.specs.declared.refusals.Refusal.{Refusal}
use Rattle.answers.specs.declared.refusals.Fault.{Fault}
use Rattle.answers.specs.Refusals.{fault, told}
use Rattle.answers.specs.declared.Answer.{Answer}
use Rattle.answers.specs.declared.WriteResult.{WriteResult}
use Rattle.answers.specs.Answers.{answer, acceptance, file_a, file_proof, file_lent, refused, accepted, ◌>>◌, need, over, fit, written}
use Rattle.answers.proofs.Results.{passes, binds, bind-refused, then-refused, needs, fail}
use Rattle.answers.proofs.Over.{sets_over}
use Rattle.fields.specs.declared.FileKind.{FileKind}
use Rattle.fields.specs.declared.header.Headed.{Headed}
use Rattle.fields.specs.Fields.{Fields, item, fields}
use Rattle.fields.specs.Header.{header_bytes}
use Rattle.fields.specs.Places.{fields_at, header_of, IsHeader}
use Rattle.fields.proofs.HeaderLaid.{header-gives}
use Rattle.bundle.specs.Bundle.{at_most}
use Rattle.bundle.proofs.Laid.{Lists, done, next, short-accepted}
use Rattle.proof.specs.Layout.{Enters}
use Rattle.conversion.specs.Turning.{asked, other_edition, result_within, entries_read, bundle_turned, turn_bundle, proof_turned, turn_proof}
use Rattle.conversion.specs.Promises.{TurnsBundle, TurnsProof}
use Rattle.conversion.proofs.Carried.{there}
use Rattle.conversion.proofs.Proofs.{entries-give}
use Rattle.conversion_survey.specs.SurveyAnswers.{EntriesReadAs, LinesThere, at_end, at_field}
use Rattle.conversion_survey.specs.declared.Turned.{Turned}
use Rattle.conversion_survey.proofs.SurveyedFields.{fits, turned}
use Rattle.conversion_bundle.proofs.Putting.{header-length, header-put}
use Rattle.convert.specs.Phases.{HasOther, BundleTurnable, ProofTurnable, ToTurn, ToEnter, ToFit, ToPut}

-- ---- what a refusal leaves
abbrev pub refused_as : (number file place : ℕ) → WriteResult
refused_as n f at = record { answer = answer n f at; count = 0 }

module _ (to : ℕ) (file out : List ℕ) where
  pub proof-refused : {n f at : ℕ} {r : WriteResult} → r ≡ refused_as n f at → proof_turned to file ≡ refused (answer n f at) → TurnsProof to file out out r
  unfolding turn_proof written
  proof-refused e h = rw e (record { is = rw h })

  pub bundle-refused : {n f at : ℕ} {r : WriteResult} → r ≡ refused_as n f at → bundle_turned to file ≡ refused (answer n f at) → TurnsBundle to file out out r
  unfolding turn_bundle written
  bundle-refused e h = rw e (record { is = rw h })

-- ---- before a file is read
module _ (to : ℕ) (file out : List ℕ) where
  -- the edition asked for
  pub asked_by : {b : Bool} → b ≡ (leb 1 to && leb to 2) → b ≡ true → asked to ≡ accepted tt
  unfolding asked need
  asked_by e f = rw (sym e ∙ f)

  asked-not : {b : Bool} → b ≡ (leb 1 to && leb to 2) → b ≡ false → asked to ≡ refused (answer 5 file_lent 0)
  unfolding asked need
  asked-not e f = rw (sym e ∙ f)

  pub proof-unasked : {b : Bool} {r : WriteResult} → b ≡ (leb 1 to && leb to 2) → b ≡ false → r ≡ refused_as 5 4 0 → TurnsProof to file out out r
  unfolding proof_turned
  proof-unasked e f r = proof-refused to file out r (then-refused _ (asked-not e f))

  pub bundle-unasked : {b : Bool} {r : WriteResult} → b ≡ (leb 1 to && leb to 2) → b ≡ false → r ≡ refused_as 5 4 0 → TurnsBundle to file out out r
  unfolding bundle_turned
  bundle-unasked e f r = bundle-refused to file out r (then-refused _ (asked-not e f))

too_long : (file : List ℕ) (limit f : ℕ) → limit < length file → at_most limit f file ≡ refused (answer 1 f 0)
unfolding at_most need
too_long file limit f h = rw (lt-leb (length file) limit h)

module _ (to : ℕ) (file : List ℕ) (a : asked to ≡ accepted tt) where
  pub proof-long : 65_536 < length file → ProofTurnable to file (Err (fault Refusal.TooLong 0))
  unfolding proof_turned
  proof-long h = passes _ a ∙ then-refused _ (too_long file 65_536 file_proof h)

  pub bundle-long : 8_192 < length file → BundleTurnable to file (Err (fault Refusal.TooLong 0))
  unfolding bundle_turned
  bundle-long h = passes _ a ∙ then-refused _ (too_long file 8_192 file_a h)

  module _ (l : length file ≤ 8_192) {s : code.Result (Unit {0}) Fault} (o : HasOther FileKind.Bundle to file s) where
    pub bundle-not-other : {f : Fault} → s ≡ Err f → BundleTurnable to file (Err f)
    unfolding bundle_turned
    bundle-not-other f = passes _ a ∙ passes _ (short-accepted _ file_a file l) ∙ then-refused _ (o.is file_a ∙ ap (told file_a (λ x. x)) f)

    pub to-turn : s ≡ Ok tt → ToTurn to file
    to-turn f = record { asks = a; short = l; from = o.is file_a ∙ ap (told file_a (λ x. x)) f }

  module _ (l : length file ≤ 65_536) {s : code.Result (Unit {0}) Fault} (o : HasOther FileKind.Proof to file s) where
    pub proof-not-other : {f : Fault} → s ≡ Err f → ProofTurnable to file (Err f)
    unfolding proof_turned
    proof-not-other f = passes _ a ∙ passes _ (short-accepted _ file_proof file l) ∙ then-refused _ (o.is file_proof ∙ ap (told file_proof (λ x. x)) f)

    -- the header
    module _ (f : s ≡ Ok tt) {r : code.Result Headed Fault} (i : IsHeader FileKind.Proof 2 0 file r) where
      other-is : other_edition FileKind.Proof file_proof to (fields file) ≡ accepted tt
      other-is = o.is file_proof ∙ ap (told file_proof (λ x. x)) f

      pub proof-no-header : {d : Fault} → r ≡ Err d → ProofTurnable to file (Err d)
      unfolding proof_turned
      proof-no-header g = passes _ a ∙ passes _ (short-accepted _ file_proof file l) ∙ passes _ other-is ∙ bind-refused _ (i.is file_proof ∙ ap (told file_proof (header_of file)) g)

      pub to-enter : {h : Headed} → r ≡ Ok h → ToEnter to file h.next h.k h.edition
      to-enter g = record { asks = a; short = l; from = other-is; heads = i.is file_proof ∙ ap (told file_proof (header_of file)) g }

-- ---- behind the header of a proof
lines_of : (e K : ℕ) {fs : Fields} {es : List Entry} → Lists (Enters (edition e) K) fs es → LinesThere (edition e).line_width fs
lines_of e K (done at) = at_end
lines_of e K (next f s l) = at_field (there e e K (item f.tag f.contents) s) (lines_of e K l)

module _ (to : ℕ) (file : List ℕ) (at K e : ℕ) (t : ToEnter to file at K e) where
  abbrev body : Fields
  body = fields_at file at

  abbrev bytes : List ℕ
  bytes = header_bytes to K ++ turned e to body

  pub constants-most : K ≤ 16
  constants-most = ((header-gives FileKind.Proof file_proof newest_edition none (fields file)).gives _ t.heads).high

  prefix : proof_turned to file ≡ (entries_read (edition e) K false body >> (fits e to body >> result_within 65_536 bytes))
  unfolding proof_turned
  prefix = passes _ t.asks ∙ passes _ (short-accepted _ file_proof file t.short) ∙ passes _ t.from ∙ binds _ t.heads

  bytes-size : length bytes ≡ 8 + length (turned e to body)
  bytes-size = length-append (header_bytes to K) (turned e to body) ∙ ap (λ (n : ℕ). n + length (turned e to body)) (header-length to K)

  -- what reading the entries answers
  module _ {r : code.Result Turned Fault} (i : EntriesReadAs e to K body r) where
    pub no-entries : {f : Fault} → r ≡ Err f → ProofTurnable to file (Err f)
    no-entries f = prefix ∙ then-refused _ (rw f at i)

    module _ {x : Turned} (f : r ≡ Ok x) where
      pub to-fit : ToFit to file at K e x.size
      to-fit = let (read, size, most, held) = rw f at i in record { enter = t; read = read; size = size; most = most }

      pub to-put : x.fit ≡ true → ToPut to file at K e x.size
      to-put h = let (read, size, most, held) = rw f at i in record { entered = to-fit; fits = held h }

module _ (to : ℕ) (file : List ℕ) (at K e size : ℕ) (t : ToFit to file at K e size) where
  abbrev body_of : Fields
  body_of = fields_at file at

  abbrev bytes_of : List ℕ
  bytes_of = header_bytes to K ++ turned e to body_of

  pub lines-stand : LinesThere (edition e).line_width body_of
  lines-stand = lines_of e K ((entries-give (edition e) K false body_of).gives tt t.read).lists

  entered : proof_turned to file ≡ (fits e to body_of >> result_within 65_536 bytes_of)
  entered = prefix to file at K e t.enter ∙ passes _ t.read

  module _ {u : code.Result (Unit {0}) Fault} (j : fits e to body_of ≡ told file_proof (λ x. x) u) where
    pub too_wide : {f : Fault} → u ≡ Err f → ProofTurnable to file (Err f)
    too_wide g = entered ∙ then-refused _ (j ∙ ap (told file_proof (λ x. x)) g)

    pub none-wide : u ≡ Ok tt → ToPut to file at K e size
    none-wide g = record { entered = t; fits = j ∙ ap (told file_proof (λ x. x)) g }

module _ (to : ℕ) (file out : List ℕ) (at K e size : ℕ) (t : ToPut to file at K e size) where
  abbrev body_in : Fields
  body_in = fields_at file at

  abbrev bytes_in : List ℕ
  bytes_in = header_bytes to K ++ turned e to body_in

  held : proof_turned to file ≡ result_within 65_536 bytes_in
  held = entered to file at K e size t.entered ∙ passes _ t.fits

  size_is : 8 + size ≡ length bytes_in
  size_is = ap (λ (n : ℕ). 8 + n) t.entered.size ∙ sym (bytes-size to file at K e t.entered.enter)

  result-long : 65_536 < 8 + size → result_within 65_536 bytes_in ≡ refused (answer 1 file_lent (8 + size))
  unfolding result_within
  result-long h = fail _ _ (lt-leb (length bytes_in) 65_536 (omega (arith, size_is))) ∙ ap (λ (n : ℕ). refused (answer 1 file_lent n)) (sym size_is)

  pub result-too-long : {r : WriteResult} → 65_536 < 8 + size → r ≡ refused_as 1 4 (8 + size) → TurnsProof to file out out r
  result-too-long h r = proof-refused to file out r (held ∙ result-long h)

  done-bytes : 8 + size ≤ 65_536 → proof_turned to file ≡ accepted bytes_in
  unfolding result_within
  done-bytes h = held ∙ needs _ _ _ (le→leb (length bytes_in) 65_536 (omega (arith, size_is)))

  pub output-short : {r : WriteResult} → 8 + size ≤ 65_536 → length out < 8 + size → r ≡ refused_as 21 4 (8 + size) → TurnsProof to file out out r
  unfolding turn_proof written fit
  output-short h l r = rw r (record { is = rw (done-bytes h, lt-leb (length bytes_in) (length out) (omega (arith, size_is)), size_is) })

  pub put-fits : {x : List ℕ} → 8 + size ≤ length out → x ≡ sets out 0 (header_bytes to K) → 8 + length (turned e to body_in) ≤ length x
  put-fits {x} l h = omega (arith, ap length h ∙ length-sets out 0 (header_bytes to K), t.entered.size)

  pub all-put : {x y : List ℕ} {a : Answer} → 8 + size ≤ 65_536 → 8 + size ≤ length out → x ≡ sets out 0 (header_bytes to K) → y ≡ sets x 8 (turned e to body_in) → a ≡ acceptance
      → TurnsProof to file out y (record { answer = a; count = 8 + size })
  unfolding turn_proof written fit
  all-put {x} {y} h l hx hy ha =
      let whole : y ≡ over bytes_in out = header-put to K out (turned e to body_in) hx hy ∙ sets_over bytes_in out (omega (arith, size_is)) in
      rw (ha, whole) (record { is = rw (done-bytes h, le-leb (length bytes_in) (length out) (omega (arith, size_is)), size_is) })
