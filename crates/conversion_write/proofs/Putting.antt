-- Fields put into the output one by one. Assumes nothing.
use mathlib.Core.Path.{◌≡◌, sym, ◌∙◌, ap, ap₂}
use mathlib.Core.List.{List, [], ◌∷◌, ◌++◌, append-nil}
use Prim.Native.Nat.{ℕ, ◌+◌, ◌-◌, ◌*◌, ◌≤◌}
use native.Mathlib.Omega.{arith}
use lib.ListN.{length, take, drop, length-drop, length-append}
use lib.Seq.{sets, length-take-le, drop-drop, length-sets}
use Rattle.forms.specs.Edition.{edition}
use Rattle.number_bytes.specs.Numbers.{unsigned, unsigned_bytes, unsigneds, unsigneds_bytes}
use Rattle.number_bytes.proofs.Signed.{drop-take, length-unsigned_bytes}
use Rattle.number_bytes.proofs.Stores.{sets-append}
use Rattle.fields.specs.Fields.{item, field_bytes}
use Rattle.fields.specs.Places.{fields_at}
use Rattle.fields.proofs.Places.{Starts}
use Rattle.fields.proofs.Framing.{length-field_bytes}
use Rattle.fields.proofs.Stores.{put-field}
use Rattle.proof.specs.Entries.{entry_tagged, line_count}
use Rattle.conversion.specs.Turning.{lines_turned}
use Rattle.conversion.proofs.Carried.{head-size, turned-is}
use Rattle.conversion_survey.proofs.SurveyedFields.{unsigneds-take, turned, turned-size, turned_on, size-on, size_step}

-- ---- line numbers put
module _ (w w' n : ℕ) (p : List ℕ) (start : ℕ) (out : List ℕ) (o : ℕ) where
  abbrev put : List ℕ
  put = sets out o (unsigneds_bytes w' (unsigneds w n (drop start p)))

  pub put-none : n ≡ 0 → out ≡ put
  unfolding unsigneds unsigneds_bytes
  put-none e = rw e

  pub put_one : n ≡ 1 → {x : List ℕ} → x ≡ sets out o (unsigned_bytes w' (unsigned (take w (drop start p)))) → x ≡ put
  unfolding unsigneds unsigneds_bytes
  put_one e f = rw e (f ∙ ap (sets out o) (sym (append-nil (unsigned_bytes w' (unsigned (take w (drop start p)))))))

  pub put_two : ¬ (n ≡ 0) → ¬ (n ≡ 1) → n ≤ 2 → {x y : List ℕ} → x ≡ sets out o (unsigned_bytes w' (unsigned (take w (drop start p))))
      → y ≡ sets x (o + w') (unsigned_bytes w' (unsigned (take w (drop (start + w) p)))) → y ≡ put
  unfolding unsigneds unsigneds_bytes
  put_two a b c {x} {y} e f =
      let z : n ≡ 2 = omega arith in
      let first = unsigned_bytes w' (unsigned (take w (drop start p))) in
      let second = unsigned_bytes w' (unsigned (take w (drop w (drop start p)))) in
      rw z (f ∙ ap₂ (λ (l : List ℕ) (q : List ℕ). sets l (o + w') (unsigned_bytes w' (unsigned (take w q)))) e (sym (drop-drop w start p))
      ∙ ap (λ (k : ℕ). sets (sets out o first) (o + k) second) (sym (length-unsigned_bytes w' (unsigned (take w (drop start p)))))
      ∙ sym (sets-append first second out o)
      ∙ ap (λ (q : List ℕ). sets out o (first ++ q)) (sym (append-nil second)))

pub second-room : (out vs : List ℕ) (o : ℕ) {x : List ℕ} {m : ℕ} → x ≡ sets out o vs → m ≤ length out → m ≤ length x
second-room out vs o e h = rw (e, length-sets out o vs) h

-- ---- one field put
module _ (a b tag start len o : ℕ) (p out : List ℕ) where
  abbrev pub N : ℕ
  N = line_count (entry_tagged tag)

  abbrev pub wa : ℕ
  wa = (edition a).line_width

  abbrev pub wb : ℕ
  wb = (edition b).line_width

  pub entry-room : (n : ℕ) → n ≡ N → N * wa ≤ len → start + len ≤ length p → start + n * wa ≤ length p
  entry-room n e h k = rw e (omega arith)

  abbrev Lines : List ℕ
  Lines = unsigneds_bytes wb (unsigneds wa N (drop start p))

  abbrev Rest : List ℕ
  Rest = take (len - N * wa) (drop (start + N * wa) p)

  contents-turned : N * wa ≤ len → lines_turned (edition a) (edition b) (item tag (take len (drop start p))) ≡ Lines ++ Rest
  contents-turned h = turned-is a b (item tag (take len (drop start p))) ∙ ap₂ (λ (x y : List ℕ). x ++ y) (ap (unsigneds_bytes wb) (unsigneds-take wa wb N len (drop start p) h))
      (drop-take (N * wa) len (drop start p) h ∙ ap (take (len - N * wa)) (drop-drop (N * wa) start p))

  size_is : N * wa ≤ len → start + len ≤ length p → length (Lines ++ Rest) ≡ N * wb + (len - N * wa)
  size_is h k = length-append Lines Rest ∙ ap₂ (λ (x y : ℕ). x + y) (head-size wa wb N (drop start p)) (length-take-le (len - N * wa) (drop (start + N * wa) p) (rw (length-drop (start + N * wa) p) (omega arith)))

  pub entry-put : {n ba bb r : ℕ} {y x z : List ℕ} → n ≡ N → ba ≡ wa → bb ≡ wb → r ≡ N * wb + (len - N * wa) → N * wa ≤ len → start + len ≤ length p
      → y ≡ sets out o (tag ∷ unsigned_bytes 2 r) → x ≡ sets y (o + 3) (unsigneds_bytes wb (unsigneds wa n (drop start p))) → z ≡ sets x (o + 3 + n * bb) (take (len - n * ba) (drop (start + n * ba) p))
      → z ≡ sets out o (field_bytes tag (lines_turned (edition a) (edition b) (item tag (take len (drop start p)))))
  entry-put {n} {ba} {bb} {r} {y} {x} {z} en ea eb er h k ey ex ez =
      let ex' : x ≡ sets y (o + 3) Lines = rw en at ex in
      let ez' : z ≡ sets x (o + 3 + N * wb) Rest = rw (en, ea, eb) at ez in
      let whole : z ≡ sets y (o + 3) (Lines ++ Rest) =
      ez' ∙ ap₂ (λ (l : List ℕ) (m : ℕ). sets l (o + 3 + m) Rest) ex' (sym (head-size wa wb N (drop start p))) ∙ sym (sets-append Lines Rest y (o + 3)) in
      put-field out o tag r (Lines ++ Rest) ey whole (size_is h k ∙ sym er) ∙ ap (λ (c : List ℕ). sets out o (field_bytes tag c)) (sym (contents-turned h))

-- ---- all fields put
module _ (a b : ℕ) {s : List ℕ} {at c t start len next : ℕ} (k : Starts s at c t start len next) (out : List ℕ) (end : ℕ) where
  pub room-step : end + length (turned a b (fields_at s at)) ≤ length out → end + 3 + (line_count (entry_tagged t) * (edition b).line_width + (len - line_count (entry_tagged t) * (edition a).line_width)) ≤ length out
  room-step h = omega (arith, size-on a b k)

  module _ {x : List ℕ} (e : x ≡ sets out end (field_bytes t (lines_turned (edition a) (edition b) (item t (take len (drop start s)))))) (r : ℕ) (f : r ≡ line_count (entry_tagged t) * (edition b).line_width + (len - line_count (entry_tagged t) * (edition a).line_width)) where
    abbrev own : List ℕ
    own = field_bytes t (lines_turned (edition a) (edition b) (item t (take len (drop start s))))

    own-size : length own ≡ 3 + r
    own-size = length-field_bytes t (lines_turned (edition a) (edition b) (item t (take len (drop start s)))) ∙ ap (λ (n : ℕ). 3 + n) (turned-size a b k ∙ sym f)

    pub put_step : sets out end (turned a b (fields_at s at)) ≡ sets x (end + (3 + r)) (turned a b (fields_at s next))
    put_step = ap (sets out end) (turned_on a b k) ∙ sets-append own (turned a b (fields_at s next)) out end
        ∙ ap₂ (λ (l : List ℕ) (n : ℕ). sets l (end + n) (turned a b (fields_at s next))) (sym e) own-size

    pub put-length : length x ≡ length out
    put-length = ap length e ∙ length-sets out end own

    pub put-room : end + length (turned a b (fields_at s at)) ≤ length out → end + (3 + r) + length (turned a b (fields_at s next)) ≤ length x
    put-room h = omega (arith, size_step a b k end r f, put-length)

pub put-over : (out₀ out all : List ℕ) (o end : ℕ) {rest : List ℕ} → sets out₀ o all ≡ sets out end rest → rest ≡ [] → out ≡ sets out₀ o all
put-over out₀ out all o end e f = sym (e ∙ ap (sets out end) f)
