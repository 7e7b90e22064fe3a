-- A row whose line numbers are turned states the same entry. Assumes nothing.
use mathlib.Core.Path.{◌≡◌, refl, sym, ◌∙◌, ap, ap₂, subst}
use mathlib.Core.Option.{Option, some}
use mathlib.Core.Bool.{false}
use mathlib.Core.List.{List, [], ◌∷◌, ◌++◌, map, append_assoc}
use Prim.Native.Nat.{ℕ, zero, suc, ◌+◌, ◌*◌, ◌-◌, ◌^◌, ◌≤◌, ◌<◌}
use native.Mathlib.Nat.{suc-mul}
use native.Mathlib.Omega.{arith}
use mir.Facts.{and_yes, yes_and}
use lib.Dec.{T, ltb, ltb→lt, lt→ltb}
use lib.ListN.{length, take, drop, length-append, length-drop, take-append-drop}
use lib.Seq.{take_at, drop_at, drop-append-add, drop-drop, length-take-le}
use Rattle.forms.specs.Edition.{edition, edition1}
use Rattle.forms.proofs.Editions.{line_width-most}
use Rattle.forms.specs.Forms.{All, nil, cons, every}
use Rattle.calculus.specs.Rules.{Entry}
use Rattle.number_bytes.specs.Numbers.{Bytes, unsigned, unsigned_bytes, unsigneds, unsigneds_bytes}
use Rattle.number_bytes.proofs.Signed.{length-unsigned_bytes, unsigned-unsigned_bytes, unsigned-below, unsigned_bytes-unsigned, all_take, all_drop}
use Rattle.fields.specs.Fields.{Item, item, note, Framed}
use Rattle.fields.proofs.HeaderLaid.{by-tag}
use Rattle.proof.specs.Entries.{EntryTag, combine_tag, reduce_tag, scale_tag, strengthen_tag, number_tag, stride_tag, round_tag, split_tag, claim_tag, entry_tagged, line_count, renumbered, line_number, multiplier, size_of, entry_from}
use Rattle.proof.specs.Layout.{Enters}
use Rattle.conversion.specs.Turnable.{turned_item}
use Rattle.conversion.specs.Turning.{lines_named, lines_fit, lines_turned}

-- ---- numbers in another width
drop-behind : (p q : List ℕ) (n m : ℕ) → length p ≡ n → drop (n + m) (p ++ q) ≡ drop m q
drop-behind p q n m e = ap (λ (k : ℕ). drop (k + m) (p ++ q)) (sym e) ∙ drop-append-add p q m

pub length-unsigneds : (w n : ℕ) (bs : List ℕ) → length (unsigneds w n bs) ≡ n
unfolding unsigneds
length-unsigneds w zero bs = refl
length-unsigneds w (suc n) bs = ap suc (length-unsigneds w n (drop w bs))

pub length-unsigneds_bytes : (w : ℕ) (ns : List ℕ) → length (unsigneds_bytes w ns) ≡ length ns * w
unfolding unsigneds_bytes
length-unsigneds_bytes w [] = omega arith
length-unsigneds_bytes w (n ∷ ns) = length-append (unsigned_bytes w n) (unsigneds_bytes w ns) ∙ omega (arith, length-unsigned_bytes w n, length-unsigneds_bytes w ns, suc-mul (length ns) w)

abbrev pub Below : (w : ℕ) → List ℕ → Type 0
Below w = All (λ n. n < 256 ^ w)

module _ (w w' : ℕ) where
  -- Number i is the same.
  number_same : (n i : ℕ) (bs rest : List ℕ) → i < n → Below w' (unsigneds w n bs)
      → unsigned (take w' (drop (i * w') (unsigneds_bytes w' (unsigneds w n bs) ++ rest))) ≡ unsigned (take w (drop (i * w) bs))
  unfolding unsigneds unsigneds_bytes
  number_same zero i bs rest h k = absurd (omega arith)
  number_same (suc n) zero bs rest h (cons x xs) =
      let front = unsigned_bytes w' (unsigned (take w bs)) in
      let others = unsigneds_bytes w' (unsigneds w n (drop w bs)) in
      let z : 0 * w' ≡ 0 = omega arith in
      let y : 0 * w ≡ 0 = omega arith in
      ap (λ (k : ℕ). unsigned (take w' (drop k ((front ++ others) ++ rest)))) z
      ∙ ap (λ (l : List ℕ). unsigned (take w' l)) (append_assoc front others rest)
      ∙ ap unsigned (take_at front (others ++ rest) w' (length-unsigned_bytes w' (unsigned (take w bs))))
      ∙ unsigned-unsigned_bytes w' (unsigned (take w bs)) x
      ∙ ap (λ (k : ℕ). unsigned (take w (drop k bs))) (sym y)
  number_same (suc n) (suc i) bs rest h (cons x xs) =
      let front = unsigned_bytes w' (unsigned (take w bs)) in
      let others = unsigneds_bytes w' (unsigneds w n (drop w bs)) in
      let z : suc i * w' ≡ w' + i * w' = omega (arith, suc-mul i w') in
      let y : suc i * w ≡ w + i * w = omega (arith, suc-mul i w) in
      ap (λ (k : ℕ). unsigned (take w' (drop k ((front ++ others) ++ rest)))) z
      ∙ ap (λ (l : List ℕ). unsigned (take w' (drop (w' + i * w') l))) (append_assoc front others rest)
      ∙ ap (λ (l : List ℕ). unsigned (take w' l)) (drop-behind front (others ++ rest) w' (i * w') (length-unsigned_bytes w' (unsigned (take w bs))))
      ∙ number_same n i (drop w bs) rest (omega arith) xs
      ∙ ap (λ (l : List ℕ). unsigned (take w l)) (drop-drop (i * w) w bs)
      ∙ ap (λ (k : ℕ). unsigned (take w (drop k bs))) (sym y)

-- ---- a row's contents in another edition
-- The contents bs of an edition a, with n line numbers, are those of edition b with the same numbers and the same behind them.
pub record Carries (a b n : ℕ) (bs turned : List ℕ) : Type 0 where
  pub line : (i : ℕ) → i < n → line_number (edition b) i turned ≡ line_number (edition a) i bs
  pub behind : (m : ℕ) → drop (n * (edition b).line_width + m) turned ≡ drop (n * (edition a).line_width + m) bs
  pub size : length turned ≡ n * (edition b).line_width + (length bs - n * (edition a).line_width)

abbrev pub turned_bytes : (a b n : ℕ) → List ℕ → List ℕ
turned_bytes a b n bs = unsigneds_bytes (edition b).line_width (unsigneds (edition a).line_width n bs) ++ drop (n * (edition a).line_width) bs

map_same : (ns : List ℕ) → map (λ n. n) ns ≡ ns
map_same [] = refl
map_same (n ∷ ns) = ap (λ (ms : List ℕ). n ∷ ms) (map_same ns)

-- The contents of a turned field: its line numbers as they are, in the new width.
pub turned-is : (a b : ℕ) (i : Item) → lines_turned (edition a) (edition b) i ≡ turned_bytes a b (line_count (entry_tagged i.tag)) i.contents
unfolding lines_turned renumbered
turned-is a b i = ap (λ (ns : List ℕ). unsigneds_bytes (edition b).line_width ns ++ drop (line_count (entry_tagged i.tag) * (edition a).line_width) i.contents) (map_same (lines_named (edition a) i))

pub head-size : (w w' n : ℕ) (bs : List ℕ) → length (unsigneds_bytes w' (unsigneds w n bs)) ≡ n * w'
head-size w w' n bs = length-unsigneds_bytes w' (unsigneds w n bs) ∙ ap (λ (k : ℕ). k * w') (length-unsigneds w n bs)

carries : (a b n : ℕ) (bs : List ℕ) → Below (edition b).line_width (unsigneds (edition a).line_width n bs) → Carries a b n bs (turned_bytes a b n bs)
unfolding line_number
carries a b n bs h =
    let w = (edition a).line_width in
    let w' = (edition b).line_width in
    record {
      line = λ i l. number_same w w' n i bs (drop (n * w) bs) l h;
      behind = λ m. drop-behind (unsigneds_bytes w' (unsigneds w n bs)) (drop (n * w) bs) (n * w') m (head-size w w' n bs) ∙ drop-drop m (n * w) bs;
      size = length-append (unsigneds_bytes w' (unsigneds w n bs)) (drop (n * w) bs) ∙ ap₂ (λ (x y : ℕ). x + y) (head-size w w' n bs) (length-drop (n * w) bs);
    }

module _ (a b K : ℕ) {bs turned : List ℕ} where
  multiplier-same : {n : ℕ} → Carries a b n bs turned → (i : ℕ) → multiplier (edition b) n i turned ≡ multiplier (edition a) n i bs
  unfolding multiplier
  multiplier-same c i = ap (take 2) (c.behind (i * 2))

  whole_same : Carries a b 0 bs turned → turned ≡ bs
  whole_same c =
      let z : 0 * (edition b).line_width + 0 ≡ 0 = omega arith in
      let y : 0 * (edition a).line_width + 0 ≡ 0 = omega arith in
      ap (λ (k : ℕ). drop k turned) (sym z) ∙ c.behind 0 ∙ ap (λ (k : ℕ). drop k bs) y

  pub entry-same : (x : EntryTag) → Carries a b (line_count (some x)) bs turned → entry_from (edition b) K x turned ≡ entry_from (edition a) K x bs
  unfolding entry_from
  entry-same combine_tag c = rw (c.line 0 (omega arith), c.line 1 (omega arith), multiplier-same c 0, multiplier-same c 1)
  entry-same reduce_tag c = rw (c.line 0 (omega arith), c.line 1 (omega arith), multiplier-same c 0)
  entry-same scale_tag c = rw (c.line 0 (omega arith), multiplier-same c 0)
  entry-same strengthen_tag c = rw (c.line 0 (omega arith))
  entry-same number_tag c = rw (c.line 0 (omega arith))
  entry-same stride_tag c = rw (c.line 0 (omega arith), multiplier-same c 0)
  entry-same round_tag c = rw (c.line 0 (omega arith), multiplier-same c 0, multiplier-same c 1)
  entry-same split_tag c = rw (c.line 0 (omega arith))
  entry-same claim_tag c = rw (whole_same c)

  pub size_same : (x : EntryTag) → Carries a b (line_count (some x)) bs turned → length bs ≡ size_of (edition a) K x → length turned ≡ size_of (edition b) K x
  unfolding size_of
  size_same combine_tag c h = omega (arith, c.size)
  size_same reduce_tag c h = omega (arith, c.size)
  size_same scale_tag c h = omega (arith, c.size)
  size_same strengthen_tag c h = omega (arith, c.size)
  size_same number_tag c h = omega (arith, c.size)
  size_same stride_tag c h = omega (arith, c.size)
  size_same round_tag c h = omega (arith, c.size)
  size_same split_tag c h = omega (arith, c.size)
  size_same claim_tag c h = ap length (whole_same c) ∙ omega (arith, h)

-- ---- and back again
unsigneds-back : (w : ℕ) {ns : List ℕ} (rest : List ℕ) → Below w ns → unsigneds w (length ns) (unsigneds_bytes w ns ++ rest) ≡ ns
unfolding unsigneds unsigneds_bytes
unsigneds-back w rest nil = refl
unsigneds-back w rest (cons {x = n} {xs = ns} h hs) =
    let others = unsigneds_bytes w ns in
    ap (λ (l : List ℕ). unsigned (take w l) ∷ unsigneds w (length ns) (drop w l)) (append_assoc (unsigned_bytes w n) others rest)
    ∙ ap₂ (λ (x : ℕ) (l : List ℕ). x ∷ unsigneds w (length ns) l)
    (ap unsigned (take_at (unsigned_bytes w n) (others ++ rest) w (length-unsigned_bytes w n)) ∙ unsigned-unsigned_bytes w n h)
    (drop_at (unsigned_bytes w n) (others ++ rest) w (length-unsigned_bytes w n))
    ∙ ap (λ (l : List ℕ). n ∷ l) (unsigneds-back w rest hs)

bytes_back : (w n : ℕ) (bs : List ℕ) → n * w ≤ length bs → Bytes bs → unsigneds_bytes w (unsigneds w n bs) ++ drop (n * w) bs ≡ bs
unfolding unsigneds unsigneds_bytes
bytes_back w zero bs h k = ap (λ (m : ℕ). drop m bs) (let z : 0 * w ≡ 0 = omega arith in z)
bytes_back w (suc n) bs h k =
    let e : suc n * w ≡ w + n * w = omega (arith, suc-mul n w) in
    let own : length (take w bs) ≡ w = length-take-le w bs (omega arith) in
    let front : unsigned_bytes w (unsigned (take w bs)) ≡ take w bs = ap (λ (m : ℕ). unsigned_bytes m (unsigned (take w bs))) (sym own) ∙ unsigned_bytes-unsigned (take w bs) (all_take w k) in
    let others = unsigneds_bytes w (unsigneds w n (drop w bs)) in
    append_assoc (unsigned_bytes w (unsigned (take w bs))) others (drop (suc n * w) bs)
    ∙ ap₂ (λ (x y : List ℕ). x ++ y) front
    (ap (λ (m : ℕ). others ++ drop m bs) e ∙ ap (λ (l : List ℕ). others ++ l) (sym (drop-drop (n * w) w bs)) ∙ bytes_back w n (drop w bs) (rw (length-drop w bs) (omega arith)) (all_drop w k))
    ∙ take-append-drop w bs

pub below-own : (w n : ℕ) (bs : List ℕ) → n * w ≤ length bs → Bytes bs → Below w (unsigneds w n bs)
unfolding unsigneds
below-own w zero bs h k = nil
below-own w (suc n) bs h k =
    let e : suc n * w ≡ w + n * w = omega (arith, suc-mul n w) in
    let own : length (take w bs) ≡ w = length-take-le w bs (omega arith) in
    cons (subst (λ (m : ℕ). unsigned (take w bs) < 256 ^ m) own (unsigned-below (take w bs) (all_take w k))) (below-own w n (drop w bs) (rw (length-drop w bs) (omega arith)) (all_drop w k))

-- ---- a field
pub every-below : (w : ℕ) (ns : List ℕ) → T (every (λ n. ltb n (256 ^ w)) ns) → Below w ns
unfolding every
every-below w [] t = nil
every-below w (n ∷ ns) t = let (h, k) = and_yes (ltb n (256 ^ w)) (every (λ n. ltb n (256 ^ w)) ns) t in cons (ltb→lt n (256 ^ w) h) (every-below w ns k)

pub below-every : (w : ℕ) {ns : List ℕ} → Below w ns → T (every (λ n. ltb n (256 ^ w)) ns)
unfolding every
below-every w nil = tt
below-every w (cons {x = n} {xs = ns} h hs) = yes_and (ltb n (256 ^ w)) (every (λ n. ltb n (256 ^ w)) ns) (lt→ltb n (256 ^ w) h) (below-every w hs)

-- Its line numbers stand in its contents.
lines-there : (a K : ℕ) (x : EntryTag) (bs : List ℕ) → length bs ≡ size_of (edition a) K x → line_count (some x) * (edition a).line_width ≤ length bs
unfolding size_of
lines-there a K combine_tag bs h = omega arith
lines-there a K reduce_tag bs h = omega arith
lines-there a K scale_tag bs h = omega arith
lines-there a K strengthen_tag bs h = omega arith
lines-there a K number_tag bs h = omega arith
lines-there a K stride_tag bs h = omega arith
lines-there a K round_tag bs h = omega arith
lines-there a K split_tag bs h = omega arith
lines-there a K claim_tag bs h = omega arith

size-most : (b K : ℕ) → K ≤ edition1.constants → (x : EntryTag) → size_of (edition b) K x ≤ 136
unfolding size_of
size-most b K h combine_tag = omega (arith, line_width-most b)
size-most b K h reduce_tag = omega (arith, line_width-most b)
size-most b K h scale_tag = omega (arith, line_width-most b)
size-most b K h strengthen_tag = omega (arith, line_width-most b)
size-most b K h number_tag = omega (arith, line_width-most b)
size-most b K h stride_tag = omega (arith, line_width-most b)
size-most b K h round_tag = omega (arith, line_width-most b)
size-most b K h split_tag = omega (arith, line_width-most b)
size-most b K h claim_tag = omega arith

pub entry-no-note : (tag : ℕ) (x : EntryTag) → entry_tagged tag ≡ some x → note tag ≡ false
unfolding entry_tagged note
entry-no-note tag x h =
    let P : ℕ → Type 0 = λ n. note n ≡ false in
    by-tag P tag 0x10 combine_tag refl (by-tag P tag 0x11 reduce_tag refl (by-tag P tag 0x12 scale_tag refl (by-tag P tag 0x13 strengthen_tag refl
    (by-tag P tag 0x14 number_tag refl (by-tag P tag 0x15 stride_tag refl (by-tag P tag 0x16 round_tag refl (by-tag P tag 0x17 split_tag refl (by-tag P tag 0x20 claim_tag refl (λ e. absurd (let z : ◌≡◌ {A = ℕ} 0 1 = cc in omega arith)))))))))) h

module _ (a b K : ℕ) (i : Item) {x : Entry} (h : Enters (edition a) K i x) where
  abbrev tagged : EntryTag
  tagged = h.tagged

  item-carries : T (lines_fit (edition a) (edition b) i) → Carries a b (line_count (some tagged)) i.contents (turned_item a b i).contents
  unfolding lines_fit
  item-carries t =
      subst (λ (o : Option EntryTag). Carries a b (line_count o) i.contents (turned_item a b i).contents) h.tag
      (subst (Carries a b (line_count (entry_tagged i.tag)) i.contents) (sym (turned-is a b i)) (carries a b (line_count (entry_tagged i.tag)) i.contents (every-below (edition b).line_width _ t)))

  -- It states the same entry.
  pub turned-enters : T (lines_fit (edition a) (edition b) i) → Enters (edition b) K (turned_item a b i) x
  turned-enters t =
      let c = item-carries t in
      record { tagged = tagged; tag = h.tag; size = size_same a b K tagged c h.size; entry = entry-same a b K tagged c ∙ h.entry }

  pub turned-framed : K ≤ edition1.constants → T (lines_fit (edition a) (edition b) i) → Framed (turned_item a b i)
  turned-framed k t = record { framed = omega (arith, size_same a b K tagged (item-carries t) h.size, size-most b K k tagged) }

  pub there : line_count (entry_tagged i.tag) * (edition a).line_width ≤ length i.contents
  there = subst (λ (o : Option EntryTag). line_count o * (edition a).line_width ≤ length i.contents) (sym h.tag) (lines-there a K tagged i.contents h.size)

  -- The line numbers of the turned field are its own,
  lines_same : T (lines_fit (edition a) (edition b) i) → lines_named (edition b) (turned_item a b i) ≡ lines_named (edition a) i
  unfolding lines_fit
  lines_same t =
      let n = line_count (entry_tagged i.tag) in
      let ns = lines_named (edition a) i in
      ap (λ (m : ℕ). unsigneds (edition b).line_width m (turned_item a b i).contents) (sym (length-unsigneds (edition a).line_width n i.contents))
      ∙ ap (unsigneds (edition b).line_width (length ns)) (turned-is a b i)
      ∙ unsigneds-back (edition b).line_width {ns = ns} _ (every-below (edition b).line_width ns t)

  -- so it is turned back,
  pub back_fits : Bytes i.contents → T (lines_fit (edition a) (edition b) i) → T (lines_fit (edition b) (edition a) (turned_item a b i))
  unfolding lines_fit
  back_fits k t = subst (λ (ns : List ℕ). T (every (λ n. ltb n (256 ^ (edition a).line_width)) ns)) (sym (lines_same t))
      (below-every (edition a).line_width (below-own (edition a).line_width (line_count (entry_tagged i.tag)) i.contents there k))

  -- and is then itself.
  pub back-same : Bytes i.contents → T (lines_fit (edition a) (edition b) i) → turned_item b a (turned_item a b i) ≡ i
  back-same k t =
      let n = line_count (entry_tagged i.tag) in
      let w = (edition a).line_width in
      let w' = (edition b).line_width in
      ap (item i.tag)
      (turned-is b a (turned_item a b i)
      ∙ ap₂ (λ (ns rest : List ℕ). unsigneds_bytes w ns ++ rest) (lines_same t)
      (ap (drop (n * w')) (turned-is a b i) ∙ drop_at (unsigneds_bytes w' (unsigneds w n i.contents)) (drop (n * w) i.contents) (n * w') (head-size w w' n i.contents))
      ∙ bytes_back w n i.contents there k)
