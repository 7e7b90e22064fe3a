-- A field with new line numbers states the row with these; all else of it stays. Assumes nothing.
use mathlib.Core.Path.{◌≡◌, refl, sym, ◌∙◌, ap, ap₂, subst}
use mathlib.Core.Option.{Option, some}
use mathlib.Core.List.{List, [], ◌∷◌, ◌++◌, map, append_assoc}
use Prim.Native.Nat.{ℕ, zero, suc, ◌+◌, ◌*◌, ◌-◌, ◌^◌, ◌≤◌, ◌<◌}
use native.Mathlib.Omega.{arith}
use lib.ListN.{length, take, drop, length-append, length-drop}
use lib.Seq.{take_at, drop_at, drop-drop}
use Rattle.forms.specs.Edition.{Edition}
use Rattle.forms.specs.Forms.{All, cons}
use Rattle.calculus.specs.Rules.{Inference, Combine, Reduce, Scale, Row, Derive, Strengthen, Round, Split, CloseNumber, CloseStride, Entry, row, claim}
use Rattle.number_bytes.specs.Numbers.{unsigned, unsigned_bytes, unsigneds, unsigneds_bytes}
use Rattle.number_bytes.proofs.Signed.{length-unsigned_bytes, unsigned-unsigned_bytes}
use Rattle.fields.specs.Fields.{Item}
use Rattle.bundle.specs.Layout.{Each}
use Rattle.proof.specs.Entries.{EntryTag, combine_tag, reduce_tag, scale_tag, strengthen_tag, number_tag, stride_tag, round_tag, split_tag, claim_tag, line_count, renumbered, line_number, multiplier, size_of, entry_from}
use Rattle.proof.specs.Layout.{Enters}
use Rattle.shortening.specs.Passes.{Retention, goes, stays, remaining}
use Rattle.shortening.proofs.Computed.{renumber_entry}
use Rattle.shortening.specs.Shorten.{entry_stated, stated_entry, renumber_item}

-- ---- the line numbers of an entry
abbrev pub InferenceBelow : ℕ → Inference → Type 0
InferenceBelow n (Combine s t _ _) = (s < n) × (t < n)
InferenceBelow n (Reduce s t _) = (s < n) × (t < n)
InferenceBelow n (Scale t _) = t < n

abbrev pub RowBelow : ℕ → Row → Type 0
RowBelow n (Derive s) = InferenceBelow n s
RowBelow n (Strengthen i) = i < n
RowBelow n (Round i _ _) = i < n
RowBelow n (Split i) = i < n
RowBelow n (CloseNumber i) = i < n
RowBelow n (CloseStride i _) = i < n

-- every line number that the entry names is below n
abbrev pub Below : ℕ → Entry → Type 0
Below n (row r) = RowBelow n r
Below n (claim _ _) = Unit {0}

inference-more : {n m : ℕ} → n ≤ m → (s : Inference) → InferenceBelow n s → InferenceBelow m s
inference-more h (Combine s t _ _) b = (omega (arith, h, b.0), omega (arith, h, b.1))
inference-more h (Reduce s t _) b = (omega (arith, h, b.0), omega (arith, h, b.1))
inference-more h (Scale t _) b = omega (arith, h, b)

pub below_more : {n m : ℕ} → n ≤ m → (x : Entry) → Below n x → Below m x
below_more h (row (Derive s)) b = inference-more h s b
below_more h (row (Strengthen i)) b = omega (arith, h, b)
below_more h (row (Round i _ _)) b = omega (arith, h, b)
below_more h (row (Split i)) b = omega (arith, h, b)
below_more h (row (CloseNumber i)) b = omega (arith, h, b)
below_more h (row (CloseStride i _)) b = omega (arith, h, b)
below_more h (claim _ _) b = tt

-- ---- contents with new line numbers
module _ (w : ℕ) (f : ℕ → ℕ) where
  abbrev pub anew : ℕ → List ℕ → List ℕ
  anew count bs = renumbered w w f count bs

  pub anew-none : (bs : List ℕ) → anew 0 bs ≡ bs
  unfolding renumbered unsigneds unsigneds_bytes
  anew-none bs = let z : 0 * w ≡ 0 = omega arith in ap (λ (n : ℕ). drop n bs) z

  -- one number, and then the others
  pub anew-more : (count : ℕ) (bs : List ℕ) → anew (suc count) bs ≡ unsigned_bytes w (f (unsigned (take w bs))) ++ anew count (drop w bs)
  unfolding renumbered unsigneds unsigneds_bytes
  anew-more count bs =
      let s : suc count * w ≡ w + count * w = omega arith in
      append_assoc (unsigned_bytes w (f (unsigned (take w bs)))) (unsigneds_bytes w (map f (unsigneds w count (drop w bs)))) (drop (suc count * w) bs)
      ∙ ap (λ (xs : List ℕ). unsigned_bytes w (f (unsigned (take w bs))) ++ (unsigneds_bytes w (map f (unsigneds w count (drop w bs))) ++ xs))
      (ap (λ (n : ℕ). drop n bs) s ∙ sym (drop-drop (count * w) w bs))

  pub length-anew : (count : ℕ) (bs : List ℕ) → count * w ≤ length bs → length (anew count bs) ≡ length bs
  length-anew zero bs h = ap length (anew-none bs)
  length-anew (suc count) bs h =
      let s : suc count * w ≡ w + count * w = omega arith in
      let b : count * w ≤ length (drop w bs) = rw length-drop (omega (arith, h, s)) in
      ap length (anew-more count bs)
      ∙ length-append (unsigned_bytes w (f (unsigned (take w bs)))) (anew count (drop w bs))
      ∙ ap₂ (λ (a b : ℕ). a + b) (length-unsigned_bytes w (f (unsigned (take w bs)))) (length-anew count (drop w bs) b ∙ length-drop w bs)
      ∙ (let z : w + (length bs - w) ≡ length bs = omega (arith, h, s) in z)

  behind : (count : ℕ) (bs : List ℕ) → drop (count * w) (anew count bs) ≡ drop (count * w) bs
  behind zero bs = ap (drop (0 * w)) (anew-none bs)
  behind (suc count) bs =
      let s : suc count * w ≡ w + count * w = omega arith in
      let u = unsigned_bytes w (f (unsigned (take w bs))) in
      ap₂ drop s (anew-more count bs)
      ∙ sym (drop-drop (count * w) w (u ++ anew count (drop w bs)))
      ∙ ap (drop (count * w)) (drop_at u (anew count (drop w bs)) w (length-unsigned_bytes w (f (unsigned (take w bs)))))
      ∙ behind count (drop w bs)
      ∙ drop-drop (count * w) w bs
      ∙ ap (λ (n : ℕ). drop n bs) (sym s)

  first-number : (count : ℕ) (bs : List ℕ) → f (unsigned (take w bs)) < 256 ^ w → unsigned (take w (anew (suc count) bs)) ≡ f (unsigned (take w bs))
  first-number count bs h = ap (λ (xs : List ℕ). unsigned (take w xs)) (anew-more count bs)
      ∙ ap unsigned (take_at (unsigned_bytes w (f (unsigned (take w bs)))) (anew count (drop w bs)) w (length-unsigned_bytes w (f (unsigned (take w bs)))))
      ∙ unsigned-unsigned_bytes w (f (unsigned (take w bs))) h

  second-number : (count : ℕ) (bs : List ℕ) → f (unsigned (take w (drop w bs))) < 256 ^ w → unsigned (take w (drop w (anew (suc (suc count)) bs))) ≡ f (unsigned (take w (drop w bs)))
  second-number count bs h =
      ap (λ (xs : List ℕ). unsigned (take w (drop w xs))) (anew-more (suc count) bs)
      ∙ ap (λ (xs : List ℕ). unsigned (take w xs)) (drop_at (unsigned_bytes w (f (unsigned (take w bs)))) (anew (suc count) (drop w bs)) w (length-unsigned_bytes w (f (unsigned (take w bs)))))
      ∙ first-number count (drop w bs) h

module _ (e : Edition) (K : ℕ) (f : ℕ → ℕ) where
  abbrev put : ℕ → List ℕ → List ℕ
  put count bs = anew e.line_width f count bs

  number-0 : (count : ℕ) (bs : List ℕ) → f (line_number e 0 bs) < 256 ^ e.line_width → line_number e 0 (put (suc count) bs) ≡ f (line_number e 0 bs)
  unfolding line_number
  number-0 count bs h =
      let none : 0 * e.line_width ≡ 0 = omega arith in
      ap (λ (n : ℕ). unsigned (take e.line_width (drop n (put (suc count) bs)))) none
      ∙ first-number e.line_width f count bs (subst (λ (n : ℕ). f (unsigned (take e.line_width (drop n bs))) < 256 ^ e.line_width) none h)
      ∙ sym (ap (λ (n : ℕ). f (unsigned (take e.line_width (drop n bs)))) none)

  number-1 : (count : ℕ) (bs : List ℕ) → f (line_number e 1 bs) < 256 ^ e.line_width → line_number e 1 (put (suc (suc count)) bs) ≡ f (line_number e 1 bs)
  unfolding line_number
  number-1 count bs h =
      let one : 1 * e.line_width ≡ e.line_width = omega arith in
      ap (λ (n : ℕ). unsigned (take e.line_width (drop n (put (suc (suc count)) bs)))) one
      ∙ second-number e.line_width f count bs (subst (λ (n : ℕ). f (unsigned (take e.line_width (drop n bs))) < 256 ^ e.line_width) one h)
      ∙ sym (ap (λ (n : ℕ). f (unsigned (take e.line_width (drop n bs)))) one)

  same-multiplier : (count i : ℕ) (bs : List ℕ) → multiplier e count i (put count bs) ≡ multiplier e count i bs
  unfolding multiplier
  same-multiplier count i bs =
      ap (take e.multiplier_width) (sym (drop-drop (i * e.multiplier_width) (count * e.line_width) (put count bs)) ∙ ap (drop (i * e.multiplier_width)) (behind e.line_width f count bs)
      ∙ drop-drop (i * e.multiplier_width) (count * e.line_width) bs)

  entered : (tagged : EntryTag) (bs : List ℕ) → Below (256 ^ e.line_width) (renumber_entry f (entry_from e K tagged bs))
      → entry_from e K tagged (put (line_count (some tagged)) bs) ≡ renumber_entry f (entry_from e K tagged bs)
  unfolding entry_from
  entered combine_tag bs h = rw (number-0 1 bs h.0, number-1 0 bs h.1, same-multiplier 2 0 bs, same-multiplier 2 1 bs)
  entered reduce_tag bs h = rw (number-0 1 bs h.0, number-1 0 bs h.1, same-multiplier 2 0 bs)
  entered scale_tag bs h = rw (number-0 0 bs h, same-multiplier 1 0 bs)
  entered strengthen_tag bs h = rw (number-0 0 bs h)
  entered number_tag bs h = rw (number-0 0 bs h)
  entered stride_tag bs h = rw (number-0 0 bs h, same-multiplier 1 0 bs)
  entered round_tag bs h = rw (number-0 0 bs h, same-multiplier 1 0 bs, same-multiplier 1 1 bs)
  entered split_tag bs h = rw (number-0 0 bs h)
  entered claim_tag bs h = ap (entry_from e K claim_tag) (anew-none e.line_width f bs)

  pub numbers_fit : (tagged : EntryTag) → line_count (some tagged) * e.line_width ≤ size_of e K tagged
  unfolding size_of
  numbers_fit combine_tag = omega arith
  numbers_fit reduce_tag = omega arith
  numbers_fit scale_tag = omega arith
  numbers_fit strengthen_tag = omega arith
  numbers_fit number_tag = omega arith
  numbers_fit stride_tag = omega arith
  numbers_fit round_tag = omega arith
  numbers_fit split_tag = omega arith
  numbers_fit claim_tag = omega arith

  pub length-put : (tagged : EntryTag) (bs : List ℕ) → length bs ≡ size_of e K tagged → length (put (line_count (some tagged)) bs) ≡ size_of e K tagged
  length-put tagged bs h = length-anew e.line_width f (line_count (some tagged)) bs (omega (arith, h, numbers_fit tagged)) ∙ h

  pub enters-put : (i : Item) (x : Entry) → Enters e K i x → Below (256 ^ e.line_width) (renumber_entry f x) → Enters e K (renumber_item e f i) (renumber_entry f x)
  enters-put i x h b = record {
    tagged = h.tagged;
    tag = h.tag;
    size = ap (λ (o : Option EntryTag). length (put (line_count o) i.contents)) h.tag ∙ length-put h.tagged i.contents h.size;
    entry = ap (λ (o : Option EntryTag). entry_from e K h.tagged (put (line_count o) i.contents)) h.tag
        ∙ entered h.tagged i.contents (subst (λ (x : Entry). Below (256 ^ e.line_width) (renumber_entry f x)) (sym h.entry) b)
        ∙ ap (renumber_entry f) h.entry;
  }

-- ---- the fields that are left state the entries that are left
module _ (e : Edition) (K : ℕ) where
  pub left-enters : (ds : List Retention) (is : List Item) (es : List Entry) → Each (Enters e K) is es → All (Below (256 ^ e.line_width)) (remaining renumber_entry ds es)
      → Each (Enters e K) (remaining (renumber_item e) ds is) (remaining renumber_entry ds es)
  left-enters (d ∷ ds) [] (x ∷ es) h b = elim h [ ]
  left-enters (goes ∷ ds) (i ∷ is) [] h b = elim h [ ]
  left-enters (stays f ∷ ds) (i ∷ is) [] h b = elim h [ ]
  left-enters [] is es h b = Each.nil
  left-enters (d ∷ ds) [] [] h b = Each.nil
  left-enters (goes ∷ ds) (i ∷ is) (x ∷ es) (Each.cons r h) b = left-enters ds is es h b
  left-enters (stays f ∷ ds) (i ∷ is) (x ∷ es) (Each.cons r h) (cons c b) = Each.cons (enters-put e K f i x r c) (left-enters ds is es h b)

  entry-by : (i : Item) (x : Entry) → Enters e K i x → stated_entry e K i ≡ x
  entry-by i x h = ap (λ (o : Option EntryTag). entry_stated e K o i.contents) h.tag ∙ h.entry

  pub entries-of : {is : List Item} {es : List Entry} → Each (Enters e K) is es → map (stated_entry e K) is ≡ es
  entries-of Each.nil = refl
  entries-of (Each.cons {x = i} {y = x} h hs) = ap₂ (λ (y : Entry) (ys : List Entry). y ∷ ys) (entry-by i x h) (entries-of hs)
