-- What a tag and a length tell of an entry: each way through `kind_at`, over plain values. Assumes nothing.
use mathlib.Core.Path.{◌≡◌, refl, sym, ◌∙◌, ap, ap₂}
use mathlib.Core.Bool.{Bool, true, false}
use mathlib.Core.List.{List}
use mathlib.Core.Option.{Option, some}
use Prim.Native.Nat.{ℕ, zero, suc, ◌+◌, ◌-◌, ◌*◌, ◌≤◌, ◌<◌}
use native.Mathlib.Omega.{arith}
use borrow.Author.Tests.{eq-eqb, ne_eqb}
use lib.Dec.{eqb}
use lib.ListN.{length, take, drop, length-drop}
use lib.Seq.{length-take-le, drop-drop, take-take}
use Rattle.forms.specs.Edition.{edition}
use Rattle.forms.proofs.Editions.{line_width-most}
use Rattle.calculus.specs.Rules.{Entry}
use Rattle.std.specs.Prelude.{Ok, Err}
use Rattle.std.specs.declared.result.Result as code
use Rattle.answers.specs.Refusals.{number_of}
use Rattle.answers.specs.declared.refusals.Refusal.{Refusal}
use Rattle.answers.specs.declared.Answer.{Answer}
use Rattle.answers.specs.Answers.{Result, refused, accepted, ◌>>=◌, ◌>>◌, need}
use Rattle.number_bytes.specs.Numbers.{unsigned}
use Rattle.number_bytes.proofs.Signed.{drop-take}
use Rattle.fields.specs.declared.FileKind.{FileKind}
use Rattle.fields.specs.Fields.{Field, Fields}
use Rattle.fields.specs.Header.{known, header_tag}
use Rattle.proof.specs.Entries.{EntryTag, combine_tag, reduce_tag, scale_tag, strengthen_tag, number_tag, stride_tag, round_tag, split_tag, claim_tag, entry_tagged, in_place, multiplier, size_of, entry_from, entry}
use Rattle.proof.proofs.Entered.{entry-unknown, entry-none, entry-out, entry_in}
use Rattle.run.specs.Uniform.{Walker, FollowingWalk, walk_row, walk_entry}
use Rattle.run_fields.specs.declared.kind.Matching.{Matching}
use Rattle.run_fields.specs.declared.kind.EntryKind.{EntryKind}
use Rattle.run_fields.specs.Kinds.{sized_by, sized_as, walk_kind, LaidOut, RoundKind, IsKind}

-- a line number has few bytes
pub ruleset widths = (line_width-most)

pub sized-fits : {len size : ℕ} (kind : EntryKind) → len ≡ size → Ok kind ≡ sized_as len size kind
sized-fits {len} {size} kind h = ap (λ (b : Bool). sized_by b kind) (sym (eq-eqb len size h))

pub sized-not : {len size : ℕ} (kind : EntryKind) → ¬ (len ≡ size) → Err Refusal.WrongLength ≡ sized_as len size kind
sized-not {len} {size} kind h = ap (λ (b : Bool). sized_by b kind) (sym (ne_eqb len size h))

-- Where the contents have their length it is walked as its kind; else 6.
by_size : (b : Bool) (kind : EntryKind) (x : Entry) (deeper : Option Walker) (next : FollowingWalk) (refusal : ℕ → Answer) (rows : ℕ) (f : Field) (fs : Fields)
    → walk_entry deeper next refusal rows f fs x ≡ walk_kind deeper next refusal rows f fs (Ok kind)
    → ((need (refusal 6) b >> accepted x) >>= λ y. walk_entry deeper next refusal rows f fs y) ≡ walk_kind deeper next refusal rows f fs (sized_by b kind)
unfolding need ◌>>◌ ◌>>=◌
by_size true kind x deeper next refusal rows f fs w = w
by_size false kind x deeper next refusal rows f fs w = refl

-- the k of a rounding is what its contents say
round-walk : (n K : ℕ) (bs : List ℕ) (deeper : Option Walker) (next : FollowingWalk) (refusal : ℕ → Answer) (rows : ℕ) (f : Field) (fs : Fields) → f.contents ≡ bs
    → walk_entry deeper next refusal rows f fs (entry_from (edition n) K round_tag f.contents) ≡ walk_kind deeper next refusal rows f fs (Ok (EntryKind.Opens (unsigned (multiplier (edition n) 1 1 bs)) Matching.All))
unfolding entry_from walk_entry walk_row
round-walk n K bs deeper next refusal rows f fs c = rw c

module _ {n K tag : ℕ} {made : Bool} where
  kind-in : (bs : List ℕ) (x : EntryTag) (t : ℕ) (kind : EntryKind) {size : ℕ} → tag ≡ t → known FileKind.Proof t ≡ true → entry_tagged t ≡ some x → in_place made x ≡ true → size_of (edition n) K x ≡ size
      → ((deeper : Option Walker) (next : FollowingWalk) (refusal : ℕ → Answer) (rows : ℕ) (f : Field) (fs : Fields) → f.contents ≡ bs
      → walk_entry deeper next refusal rows f fs (entry_from (edition n) K x f.contents) ≡ walk_kind deeper next refusal rows f fs (Ok kind))
      → IsKind n K tag bs made (sized_as (length bs) size kind)
  kind-in bs x t kind {size} is k g there z w = record {
    is = λ deeper next refusal rows f fs tagged contents.
        ap (λ (m : Result Entry). m >>= λ y. walk_entry deeper next refusal rows f fs y)
        (entry_in (edition n) K refusal made f x (ap (known FileKind.Proof) (tagged ∙ is) ∙ k) (ap entry_tagged (tagged ∙ is) ∙ g) there)
        ∙ ap (λ (b : Bool). (need (refusal 6) b >> accepted (entry_from (edition n) K x f.contents)) >>= λ y. walk_entry deeper next refusal rows f fs y)
        (ap₂ eqb (ap length contents) z)
        ∙ by_size (eqb (length bs) size) kind (entry_from (edition n) K x f.contents) deeper next refusal rows f fs (w deeper next refusal rows f fs contents);
  }

  module _ {w : ℕ} (width : w ≡ (edition n).line_width) where
    pub combine-kind : tag ≡ 0x10 → LaidOut n K tag made (Ok (2 * w + 4, EntryKind.Derives))
    unfolding known header_tag entry_tagged in_place size_of entry_from walk_entry walk_row
    combine-kind e = record { is = λ bs. kind-in bs combine_tag 0x10 EntryKind.Derives e refl refl refl (omega (arith, width)) (λ deeper next refusal rows f fs c. refl) }

    pub reduce-kind : tag ≡ 0x11 → LaidOut n K tag made (Ok (2 * w + 2, EntryKind.Derives))
    unfolding known header_tag entry_tagged in_place size_of entry_from walk_entry walk_row
    reduce-kind e = record { is = λ bs. kind-in bs reduce_tag 0x11 EntryKind.Derives e refl refl refl (omega (arith, width)) (λ deeper next refusal rows f fs c. refl) }

    pub scale-kind : tag ≡ 0x12 → LaidOut n K tag made (Ok (w + 2, EntryKind.Derives))
    unfolding known header_tag entry_tagged in_place size_of entry_from walk_entry walk_row
    scale-kind e = record { is = λ bs. kind-in bs scale_tag 0x12 EntryKind.Derives e refl refl refl (omega (arith, width)) (λ deeper next refusal rows f fs c. refl) }

    pub strengthen-kind : tag ≡ 0x13 → LaidOut n K tag made (Ok (w, (EntryKind.Opens 2 Matching.FirstAndThird)))
    unfolding known header_tag entry_tagged in_place size_of entry_from walk_entry walk_row
    strengthen-kind e = record { is = λ bs. kind-in bs strengthen_tag 0x13 (EntryKind.Opens 2 Matching.FirstAndThird) e refl refl refl (omega (arith, width)) (λ deeper next refusal rows f fs c. refl) }

    pub number-kind : tag ≡ 0x14 → LaidOut n K tag made (Ok (w, EntryKind.Closes))
    unfolding known header_tag entry_tagged in_place size_of entry_from walk_entry walk_row
    number-kind e = record { is = λ bs. kind-in bs number_tag 0x14 EntryKind.Closes e refl refl refl (omega (arith, width)) (λ deeper next refusal rows f fs c. refl) }

    pub stride-kind : tag ≡ 0x15 → LaidOut n K tag made (Ok (w + 2, EntryKind.Closes))
    unfolding known header_tag entry_tagged in_place size_of entry_from walk_entry walk_row
    stride-kind e = record { is = λ bs. kind-in bs stride_tag 0x15 EntryKind.Closes e refl refl refl (omega (arith, width)) (λ deeper next refusal rows f fs c. refl) }

    pub split-kind : tag ≡ 0x17 → LaidOut n K tag made (Ok (w, (EntryKind.Opens 1 Matching.Nothing)))
    unfolding known header_tag entry_tagged in_place size_of entry_from walk_entry walk_row
    split-kind e = record { is = λ bs. kind-in bs split_tag 0x17 (EntryKind.Opens 1 Matching.Nothing) e refl refl refl (omega (arith, width)) (λ deeper next refusal rows f fs c. refl) }

  pub round-kind : {bs : List ℕ} {r : code.Result EntryKind Refusal} → tag ≡ 0x16 → RoundKind n bs r → IsKind n K tag bs made r
  unfolding known header_tag entry_tagged in_place size_of
  round-kind {bs} e q = rw q.is (kind-in bs round_tag 0x16 (EntryKind.Opens (unsigned (multiplier (edition n) 1 1 bs)) Matching.All) e refl refl refl (omega arith) (round-walk n K bs))

  pub claim-kind : tag ≡ 0x20 → made ≡ true → LaidOut n K tag made (Ok (8 * (K + 1), EntryKind.Claims))
  unfolding known header_tag entry_tagged in_place size_of entry_from walk_entry
  claim-kind e h = record { is = λ bs. kind-in bs claim_tag 0x20 EntryKind.Claims e refl refl h (omega arith) (λ deeper next refusal rows f fs c. refl) }

-- a field that is no entry here
module _ {n K tag : ℕ} {made : Bool} where
  out : {x : Refusal} → ((refusal : ℕ → Answer) (f : Field) → f.tag ≡ tag → entry (edition n) K refusal made f ≡ refused (refusal (number_of x))) → LaidOut n K tag made (Err x)
  unfolding ◌>>=◌
  out h = record { is = λ bs. record { is = λ deeper next refusal rows f fs tagged contents. ap (λ (m : Result Entry). m >>= λ y. walk_entry deeper next refusal rows f fs y) (h refusal f tagged) } }

  pub claim-out : tag ≡ 0x20 → made ≡ false → LaidOut n K tag made (Err Refusal.MisplacedTag)
  unfolding known header_tag entry_tagged in_place
  claim-out e h = out λ refusal f tagged. entry-out (edition n) K refusal made f claim_tag (rw (tagged, e)) (rw (tagged, e)) h

  first_out : tag ≡ 0x01 → LaidOut n K tag made (Err Refusal.MisplacedTag)
  unfolding known header_tag entry_tagged
  first_out e = out λ refusal f tagged. entry-none (edition n) K refusal made f (rw (tagged, e)) (rw (tagged, e))

  second-out : tag ≡ 0x02 → LaidOut n K tag made (Err Refusal.MisplacedTag)
  unfolding known header_tag entry_tagged
  second-out e = out λ refusal f tagged. entry-none (edition n) K refusal made f (rw (tagged, e)) (rw (tagged, e))

  pub header-out : 1 ≤ tag → tag < 3 → LaidOut n K tag made (Err Refusal.MisplacedTag)
  header-out l h = go tag refl
    where
      go : (t : ℕ) → tag ≡ t → LaidOut n K tag made (Err Refusal.MisplacedTag)
      go zero e = absurd (omega arith)
      go (suc zero) e = first_out e
      go (suc (suc zero)) e = second-out e
      go (suc (suc (suc t))) e = absurd (omega arith)

  pub unknown-out : known FileKind.Proof tag ≡ false → LaidOut n K tag made (Err Refusal.UnknownTag)
  unknown-out k = out λ refusal f tagged. entry-unknown (edition n) K refusal made f (ap (known FileKind.Proof) tagged ∙ k)

-- ---- what is laid out, and the contents' length
pub part_length : (p : List ℕ) (start len : ℕ) → start + len ≤ length p → length (take len (drop start p)) ≡ len
part_length p start len h = length-take-le len (drop start p) (omega (arith, length-drop start p))

module _ {n K tag : ℕ} {made : Bool} (p : List ℕ) (start len : ℕ) where
  pub kind-refused : {x : Refusal} → LaidOut n K tag made (Err x) → IsKind n K tag (take len (drop start p)) made (Err x)
  kind-refused l = l.is (take len (drop start p))

  module _ (inside : start + len ≤ length p) {x : ℕ × EntryKind} (l : LaidOut n K tag made (Ok x)) where
    pub kind-sized : len ≡ x.0 → IsKind n K tag (take len (drop start p)) made (Ok x.1)
    kind-sized h = rw (sized-fits x.1 (part_length p start len inside ∙ h)) (l.is (take len (drop start p)))

    pub kind-other : ¬ (len ≡ x.0) → IsKind n K tag (take len (drop start p)) made (Err Refusal.WrongLength)
    kind-other h = rw (sized-not x.1 (λ e. h (sym (part_length p start len inside) ∙ e))) (l.is (take len (drop start p)))

-- ---- the code's reading of a rounding
module _ (n : ℕ) (p : List ℕ) (start len w : ℕ) (inside : start + len ≤ length p) (width : w ≡ (edition n).line_width) where
  pub round-read : len ≡ w + 4 → {by : ℕ} → by ≡ unsigned (take 2 (drop (start + w + 2) p)) → RoundKind n (take len (drop start p)) (Ok (EntryKind.Opens by Matching.All))
  unfolding multiplier
  round-read h {by} q =
      let l : length (take len (drop start p)) ≡ (edition n).line_width + 4 = part_length p start len inside ∙ h ∙ ap (λ (m : ℕ). m + 4) width in
      let o : 1 * (edition n).line_width + 1 * 2 ≡ w + 2 = omega (arith, width) in
      let there : drop (start + w + 2) p ≡ drop (w + 2) (drop start p) = (let z : start + w + 2 ≡ start + (w + 2) = omega arith in rw z (sym (drop-drop (w + 2) start p))) in
      let k : by ≡ unsigned (multiplier (edition n) 1 1 (take len (drop start p))) = q ∙ ap (λ (bs : List ℕ). unsigned (take 2 bs)) there ∙ sym (ap unsigned (rw o (taken (drop start p)))) in
      record { is = rw k (sized-fits (EntryKind.Opens _ Matching.All) l) }
    where
      taken : (xs : List ℕ) → take 2 (drop (w + 2) (take len xs)) ≡ take 2 (drop (w + 2) xs)
      taken xs = ap (take 2) (drop-take (w + 2) len xs (omega arith)) ∙ take-take 2 (len - (w + 2)) (drop (w + 2) xs) (omega arith)

  pub round-not : ¬ (len ≡ w + 4) → RoundKind n (take len (drop start p)) (Err Refusal.WrongLength)
  round-not h = record { is = sized-not (EntryKind.Opens _ Matching.All) (λ l. h (sym (part_length p start len inside) ∙ l ∙ ap (λ (m : ℕ). m + 4) (sym width))) }
