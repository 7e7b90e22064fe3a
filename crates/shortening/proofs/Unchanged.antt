-- Fields whose line numbers were written anew stay as they are where these numbers do. Assumes nothing.
use mathlib.Core.Path.{◌≡◌, refl, sym, ◌∙◌, ap, ap₂, subst}
use mathlib.Core.Option.{Option, some}
use mathlib.Core.List.{List, [], ◌∷◌, ◌++◌}
use Prim.Native.Nat.{ℕ, zero, suc, ◌*◌, ◌^◌, ◌≤◌, ◌<◌}
use native.Mathlib.Omega.{arith}
use lib.ListN.{length, take, drop}
use lib.Seq.{take_at, drop_at}
use Rattle.forms.specs.Edition.{Edition}
use Rattle.forms.specs.Forms.{All, cons}
use Rattle.calculus.specs.Rules.{Combine, Reduce, Scale, Derive, Strengthen, Round, Split, CloseNumber, CloseStride, Entry, row, claim}
use Rattle.number_bytes.specs.Numbers.{unsigned, unsigned_bytes}
use Rattle.number_bytes.proofs.Signed.{length-unsigned_bytes, unsigned-unsigned_bytes}
use Rattle.fields.specs.Fields.{Item, item}
use Rattle.bundle.specs.Layout.{Each}
use Rattle.proof.specs.Entries.{EntryTag, combine_tag, reduce_tag, scale_tag, strengthen_tag, number_tag, stride_tag, round_tag, split_tag, claim_tag, line_count, line_number, entry_from}
use Rattle.proof.specs.Layout.{Enters}
use Rattle.shortening.specs.Passes.{Retention, goes, stays, remaining}
use Rattle.shortening.proofs.Computed.{renumber_entry}
use Rattle.shortening.specs.Shorten.{renumber_item}
use Rattle.shortening.proofs.Renumbering.{Below, anew, anew-none, anew-more}

-- ---- contents
module _ (w : ℕ) (f g : ℕ → ℕ) where
  -- of each of the first line numbers: the new one fits its bytes, and g leaves it
  abbrev Stable : (count : ℕ) → List ℕ → Type 0
  Stable zero bs = Unit {0}
  Stable (suc count) bs = (f (unsigned (take w bs)) < 256 ^ w) × (g (f (unsigned (take w bs))) ≡ f (unsigned (take w bs))) × Stable count (drop w bs)

  again : (count : ℕ) (bs : List ℕ) → Stable count bs → anew w g count (anew w f count bs) ≡ anew w f count bs
  again zero bs h = anew-none w g (anew w f 0 bs)
  again (suc count) bs h =
      let n = f (unsigned (take w bs)) in
      let r = anew w f count (drop w bs) in
      let l = length-unsigned_bytes w n in
      ap (anew w g (suc count)) (anew-more w f count bs)
      ∙ anew-more w g count (unsigned_bytes w n ++ r)
      ∙ ap₂ (λ (m : ℕ) (xs : List ℕ). unsigned_bytes w (g m) ++ anew w g count xs)
      (ap unsigned (take_at (unsigned_bytes w n) r w l) ∙ unsigned-unsigned_bytes w n h.0) (drop_at (unsigned_bytes w n) r w l)
      ∙ ap₂ (λ (m : ℕ) (xs : List ℕ). unsigned_bytes w m ++ xs) h.1 (again count (drop w bs) h.2)
      ∙ sym (anew-more w f count bs)

-- ---- fields
-- the line numbers of an entry
abbrev first_of : Entry → ℕ
first_of (row (Derive (Combine s _ _ _))) = s
first_of (row (Derive (Reduce s _ _))) = s
first_of (row (Derive (Scale t _))) = t
first_of (row (Strengthen i)) = i
first_of (row (Round i _ _)) = i
first_of (row (Split i)) = i
first_of (row (CloseNumber i)) = i
first_of (row (CloseStride i _)) = i
first_of (claim _ _) = 0

abbrev second_of : Entry → ℕ
second_of (row (Derive (Combine _ t _ _))) = t
second_of (row (Derive (Reduce _ t _))) = t
second_of (row (Derive (Scale _ _))) = 0
second_of (row (Strengthen _)) = 0
second_of (row (Round _ _ _)) = 0
second_of (row (Split _)) = 0
second_of (row (CloseNumber _)) = 0
second_of (row (CloseStride _ _)) = 0
second_of (claim _ _) = 0

-- where new numbers leave the entry, they leave the field
pub record Unchanged (e : Edition) (i : Item) (x : Entry) : Type 0 where
  pub unchanged : (g : ℕ → ℕ) → renumber_entry g x ≡ x → renumber_item e g i ≡ i

module _ (e : Edition) (K : ℕ) (f g : ℕ → ℕ) where
  one : (bs : List ℕ) → f (line_number e 0 bs) < 256 ^ e.line_width → g (f (line_number e 0 bs)) ≡ f (line_number e 0 bs) → Stable e.line_width f g 1 bs
  unfolding line_number
  one bs h k =
      let z : 0 * e.line_width ≡ 0 = omega arith in (
        subst (λ (n : ℕ). f (unsigned (take e.line_width (drop n bs))) < 256 ^ e.line_width) z h,
        subst (λ (n : ℕ). g (f (unsigned (take e.line_width (drop n bs)))) ≡ f (unsigned (take e.line_width (drop n bs)))) z k,
        tt,
      )

  two : (bs : List ℕ) → f (line_number e 0 bs) < 256 ^ e.line_width → g (f (line_number e 0 bs)) ≡ f (line_number e 0 bs)
      → f (line_number e 1 bs) < 256 ^ e.line_width → g (f (line_number e 1 bs)) ≡ f (line_number e 1 bs) → Stable e.line_width f g 2 bs
  unfolding line_number
  two bs h k h1 k1 =
      let (a, b, _) = one bs h k in
      let z : 1 * e.line_width ≡ e.line_width = omega arith in (
        a,
        b,
        (
          subst (λ (n : ℕ). f (unsigned (take e.line_width (drop n bs))) < 256 ^ e.line_width) z h1,
          subst (λ (n : ℕ). g (f (unsigned (take e.line_width (drop n bs)))) ≡ f (unsigned (take e.line_width (drop n bs)))) z k1,
          tt,
        ),
      )

  stable : (tagged : EntryTag) (bs : List ℕ) → Below (256 ^ e.line_width) (renumber_entry f (entry_from e K tagged bs))
      → renumber_entry g (renumber_entry f (entry_from e K tagged bs)) ≡ renumber_entry f (entry_from e K tagged bs) → Stable e.line_width f g (line_count (some tagged)) bs
  unfolding entry_from
  stable combine_tag bs h k = two bs h.0 (ap first_of k) h.1 (ap second_of k)
  stable reduce_tag bs h k = two bs h.0 (ap first_of k) h.1 (ap second_of k)
  stable scale_tag bs h k = one bs h (ap first_of k)
  stable strengthen_tag bs h k = one bs h (ap first_of k)
  stable number_tag bs h k = one bs h (ap first_of k)
  stable stride_tag bs h k = one bs h (ap first_of k)
  stable round_tag bs h k = one bs h (ap first_of k)
  stable split_tag bs h k = one bs h (ap first_of k)
  stable claim_tag bs h k = tt

  item-again : (i : Item) (x : Entry) → Enters e K i x → Below (256 ^ e.line_width) (renumber_entry f x) → renumber_entry g (renumber_entry f x) ≡ renumber_entry f x
      → renumber_item e g (renumber_item e f i) ≡ renumber_item e f i
  item-again i x h b k =
      let s = stable h.tagged i.contents (subst (λ (x : Entry). Below (256 ^ e.line_width) (renumber_entry f x)) (sym h.entry) b)
      (subst (λ (x : Entry). renumber_entry g (renumber_entry f x) ≡ renumber_entry f x) (sym h.entry) k) in
      ap (λ (bs : List ℕ). item i.tag bs) (subst (λ (o : Option EntryTag). anew e.line_width g (line_count o) (anew e.line_width f (line_count o) i.contents) ≡ anew e.line_width f (line_count o) i.contents)
      (sym h.tag) (again e.line_width f g (line_count (some h.tagged)) i.contents s))

-- ---- lists
module _ (e : Edition) (K : ℕ) where
  pub left-unchanged : (ds : List Retention) (is : List Item) (es : List Entry) → Each (Enters e K) is es → All (Below (256 ^ e.line_width)) (remaining renumber_entry ds es)
      → Each (Unchanged e) (remaining (renumber_item e) ds is) (remaining renumber_entry ds es)
  left-unchanged (d ∷ ds) [] (x ∷ es) h b = elim h [ ]
  left-unchanged (goes ∷ ds) (i ∷ is) [] h b = elim h [ ]
  left-unchanged (stays f ∷ ds) (i ∷ is) [] h b = elim h [ ]
  left-unchanged [] is es h b = Each.nil
  left-unchanged (d ∷ ds) [] [] h b = Each.nil
  left-unchanged (goes ∷ ds) (i ∷ is) (x ∷ es) (Each.cons r h) b = left-unchanged ds is es h b
  left-unchanged (stays f ∷ ds) (i ∷ is) (x ∷ es) (Each.cons r h) (cons c b) = Each.cons (record { unchanged = λ g k. item-again e K f g i x r c k }) (left-unchanged ds is es h b)

few-left : (ds : List Retention) (es : List Entry) → length (remaining renumber_entry ds es) ≤ length es
few-left [] es = omega arith
few-left (d ∷ ds) [] = omega arith
few-left (goes ∷ ds) (x ∷ es) = omega (arith, few-left ds es)
few-left (stays f ∷ ds) (x ∷ es) = omega (arith, few-left ds es)

-- where all entries are left as they were, so are the fields
pub same_left : (e : Edition) (ds : List Retention) (is : List Item) (es : List Entry) → Each (Unchanged e) is es → remaining renumber_entry ds es ≡ es → remaining (renumber_item e) ds is ≡ is
same_left e [] [] (x ∷ es) h k = elim h [ ]
same_left e [] (i ∷ is) [] h k = elim h [ ]
same_left e (d ∷ ds) [] (x ∷ es) h k = elim h [ ]
same_left e (goes ∷ ds) (i ∷ is) [] h k = elim h [ ]
same_left e (stays f ∷ ds) (i ∷ is) [] h k = elim h [ ]
same_left e [] [] [] h k = refl
same_left e [] (i ∷ is) (x ∷ es) h k = absurd (let z : ◌≡◌ {A = ℕ} 0 (suc (length es)) = ap length k in omega (arith, z))
same_left e (d ∷ ds) [] [] h k = refl
same_left e (goes ∷ ds) (i ∷ is) (x ∷ es) (Each.cons r h) k = absurd (let z : length (remaining renumber_entry ds es) ≡ suc (length es) = ap length k in omega (arith, z, few-left ds es))
same_left e (stays f ∷ ds) (i ∷ is) (x ∷ es) (Each.cons r h) k =
    ap₂ (λ (j : Item) (js : List Item). j ∷ js) (r.unchanged f (let p : renumber_entry f x ≡ x = cc in p)) (same_left e ds is es h (let q : remaining renumber_entry ds es ≡ es = cc in q))
