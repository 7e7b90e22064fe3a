-- A file is in the sequence just where it is one of the short proofs; no strengthen occurs in one. Assumes nothing.
use mathlib.Core.Path.{◌≡◌, refl, sym, ◌∙◌, ap, subst}
use mathlib.Core.Logic.{◌↔◌, ◌⊎◌, inl, inr}
use mathlib.Core.Option.{Option, some}
use mathlib.Core.Bool.{Bool}
use mathlib.Core.List.{List, [], ◌∷◌, ◌++◌, map}
use Prim.Native.Nat.{ℕ, ◌+◌, ◌<◌, ◌≤◌}
use native.Mathlib.Omega.{arith}
use lib.Dec.{leb→le}
use lib.ListN.{length}
use Rattle.forms.specs.Edition.{edition, edition1, newest_edition}
use Rattle.forms.specs.Forms.{All, nil, cons, Line, lines, occurs, Formula}
use Rattle.calculus.specs.Rules.{Closed, Row, Derive, Strengthen, Split, CloseNumber, CloseStride, Round, row, entries, Proves}
use Rattle.calculus.proofs.Sides.{Side}
use Rattle.calculus.proofs.Vocabulary.{WithinVocabulary}
use Rattle.calculus.proofs.Interpolation.{sides, initial-words}
use Rattle.answers.specs.Answers.{accepted}
use Rattle.answers.proofs.Results.{Gives, one_value, gives-accepted, bind, test}
use Rattle.fields.specs.Fields.{Item, item, items, fields}
use Rattle.fields.specs.Header.{agrees}
use Rattle.bundle.specs.Bundle.{Bundle}
use Rattle.bundle.specs.Layout.{Each, BundleFile}
use Rattle.bundle.proofs.Laid.{BothLaid, bundles-accept, bundle-short, both-read-gives}
use Rattle.formula.specs.Formula.{formula_file}
use Rattle.proof.specs.Layout.{Enters, Yields, Certifies}
use Rattle.proof.proofs.Agree.{agreed, agrees-refl}
use Rattle.proof.proofs.Sizes.{EntryShort}
use Rattle.enumeration.specs.ShortProofs.{◌∈◌, here, there, strides, PermittedRow, NoStrengthen, row_item, proof_file, ShortProof}
use Rattle.enumeration.specs.Sequence.{proofs_of, short_proofs_of, short_proofs}
use Rattle.enumeration.proofs.Members.{in_left, in_right, all_in, in_map}
use Rattle.enumeration.proofs.Bytes.{rows-enter, entered-rows, table-items, table-length}
use Rattle.enumeration.proofs.Branches.{Good, rows-good, rows-found}
use Rattle.enumeration.proofs.Accepted.{accepted-certified, certified-accepted}
use Rattle.enumeration.proofs.Written.{flat-file}

-- ---- what is listed
pub record Listing (A B : List ℕ) (r : ℕ × List (List Row)) : Type 0 where
  pub a : Bundle
  pub b : Bundle
  pub short_a : length A ≤ (edition newest_edition).bundle_bytes
  pub short_b : length B ≤ (edition newest_edition).bundle_bytes
  pub laid : BothLaid newest_edition A B (a, b)
  pub few : length a.constraints + length b.constraints ≤ 4
  pub is : r ≡ (a.K, short_proofs_of (lines a.constraints b.constraints))

pub short_proofs-gives : (A B : List ℕ) → Gives (short_proofs A B) (Listing A B)
unfolding short_proofs
short_proofs-gives A B = bind (both-read-gives newest_edition A B) λ (a, b) l. test _ _ tt λ f.
    gives-accepted (record { a = a; b = b; short_a = bundle-short l.laid_a.file; short_b = bundle-short l.laid_b.file; laid = l; few = leb→le (length a.constraints + length b.constraints) 4 f; is = refl })

-- ---- the rows of all lengths
module _ (occ : Side → ℕ → Bool) (ls : List Line) (w : WithinVocabulary occ ls) where
  pub record GoodShort (rs : List Row) : Type 0 where
    pub k : ℕ
    pub few : k ≤ 2
    pub good : Good occ k ls rs

  good_of : (k : ℕ) → k ≤ 2 → (rs : List Row) → rs ∈ proofs_of k ls → GoodShort rs
  good_of k h rs m = record { k = k; few = h; good = all_in (Good occ k ls) (proofs_of k ls) (rows-good occ k ls w) rs m }

  in_either : (rs : List Row) (xs ys : List (List Row)) → rs ∈ xs ++ ys → (rs ∈ xs) ⊎ (rs ∈ ys)
  in_either rs [] ys m = inr m
  in_either rs (x ∷ xs) ys (here q) = inl (here q)
  in_either rs (x ∷ xs) ys (there m) = go (in_either rs xs ys m)
    where
      go : (rs ∈ xs) ⊎ (rs ∈ ys) → (rs ∈ (x ∷ xs)) ⊎ (rs ∈ ys)
      go (inl m) = inl (there m)
      go (inr m) = inr m

  pub short-good : (rs : List Row) → rs ∈ short_proofs_of ls → GoodShort rs
  unfolding short_proofs_of
  short-good rs m = go (in_either rs (proofs_of 0 ls) (proofs_of 1 ls ++ proofs_of 2 ls) m)
    where
      more : (rs ∈ proofs_of 1 ls) ⊎ (rs ∈ proofs_of 2 ls) → GoodShort rs
      more (inl m) = good_of 1 (omega arith) rs m
      more (inr m) = good_of 2 (omega arith) rs m

      go : (rs ∈ proofs_of 0 ls) ⊎ (rs ∈ proofs_of 1 ls ++ proofs_of 2 ls) → GoodShort rs
      go (inl m) = good_of 0 (omega arith) rs m
      go (inr m) = more (in_either rs (proofs_of 1 ls) (proofs_of 2 ls) m)

  pub short-found : {I : Formula} (p : Closed edition1 (occ Side.B) ls I) (rs : List Row) → All PermittedRow rs → 1 ≤ length rs → length rs ≤ 3 → entries p [] ≡ map row rs → rs ∈ short_proofs_of ls
  unfolding short_proofs_of
  short-found p [] q l h e = absurd (omega arith)
  short-found p (r ∷ []) q l h e = in_left _ (proofs_of 0 ls) _ (rows-found occ ls p w (r ∷ []) q h e 0 refl)
  short-found p (r ∷ s ∷ []) q l h e = in_right _ (proofs_of 0 ls) _ (in_left _ (proofs_of 1 ls) (proofs_of 2 ls) (rows-found occ ls p w (r ∷ s ∷ []) q h e 1 refl))
  short-found p (r ∷ s ∷ t ∷ []) q l h e = in_right _ (proofs_of 0 ls) _ (in_right _ (proofs_of 1 ls) (proofs_of 2 ls) (rows-found occ ls p w (r ∷ s ∷ t ∷ []) q h e 2 refl))
  short-found p (r ∷ s ∷ t ∷ u ∷ rs) q l h e = absurd (omega arith)

-- ---- none is left out
same_byte : {K L : ℕ} → (K ∷ []) ≡ (L ∷ []) → K ≡ L
same_byte e = cc

first-bytes : {n m K L : ℕ} {is js : List Item} {o : Option (List Item)} → o ≡ some (item 0x01 (n ∷ []) ∷ item 0x02 (K ∷ []) ∷ is) → o ≡ some (item 0x01 (m ∷ []) ∷ item 0x02 (L ∷ []) ∷ js)
    → (n ≡ m) × (K ≡ L) × (is ≡ js)
first-bytes {n} {m} {K} {L} p q =
    let h : item 0x01 (n ∷ []) ≡ item 0x01 (m ∷ []) = cc in
    let i : item 0x02 (K ∷ []) ≡ item 0x02 (L ∷ []) = cc in
    (same_byte (ap (λ (i : Item). i.contents) h), same_byte (ap (λ (i : Item). i.contents) i), cc)

-- what a certified table of permitted rows derives: its edition is 1
pub record CertifiedRows {A B file : List ℕ} {K : ℕ} {I : Formula} (y : Yields newest_edition A B file K I) (L : ℕ) (rs : List Row) : Type 0 where
  pub same-K : L ≡ K
  pub first_edition : 1 ≡ y.edition_proof
  pub are-rows : y.es ≡ map row rs

certified-rows : {A B file : List ℕ} {K : ℕ} {I : Formula} (y : Yields newest_edition A B file K I) (L : ℕ) (rs : List Row) → file ≡ proof_file L rs → All PermittedRow rs → CertifiedRows y L rs
certified-rows {K = K} y L rs e q =
    let (n, k, body) = first-bytes (table-items L rs) (ap (λ (f : List ℕ). items (fields f)) (sym e) ∙ y.file_proof.whole) in
    record {
      same-K = k;
      first_edition = n;
      are-rows = entered-rows K rs q y.es
          (subst (λ (is : List Item). Each (Enters edition1 K) is y.es) (sym body) (subst (λ (n : ℕ). Each (Enters (edition n) K) y.file_proof.body y.es) (sym n) y.file_proof.enters));
    }

-- the closed branch, in edition 1
proved : {A B file : List ℕ} {K : ℕ} {I : Formula} (y : Yields newest_edition A B file K I) {L : ℕ} {rs : List Row} → CertifiedRows y L rs → Proves edition1 y.a y.b y.es I
proved {I = I} y c = subst (λ (n : ℕ). Proves (edition n) y.a y.b y.es I) (sym c.first_edition) y.proves

-- the strides have two bytes
rows_short : {rs : List Row} → All PermittedRow rs → All EntryShort (map row rs)
rows_short nil = nil
rows_short (cons {x = r} p ps) = cons (go r p) (rows_short ps)
  where
    go : (r : Row) → PermittedRow r → EntryShort (row r)
    go (Derive s) p = tt
    go (Strengthen i) p = tt
    go (Split i) p = tt
    go (CloseNumber i) p = tt
    go (CloseStride i g) p = all_in (λ (g : ℕ). g < 65536) strides (cons {x = 2} (omega arith) (cons {x = 3} (omega arith) (cons {x = 4} (omega arith) nil))) g p
    go (Round i g k) p = absurd p

-- an element of a list mapped
pub record Mapped {X Y : Type 0} (f : X → Y) (xs : List X) (y : Y) : Type 0 where
  pub element : X
  pub among : element ∈ xs
  pub is : y ≡ f element

pub in-mapped : {X Y : Type 0} (f : X → Y) (xs : List X) (y : Y) → y ∈ map f xs → Mapped f xs y
in-mapped {X = X} {Y = Y} f [] y h = elim h [ ]
in-mapped f (x ∷ xs) y (here q) = record { element = x; among = here refl; is = q }
in-mapped f (x ∷ xs) y (there m) = let h = in-mapped f xs y m in record { element = h.element; among = there h.among; is = h.is }

module _ (A B : List ℕ) {K : ℕ} {rss : List (List Row)} (l : Listing A B (K, rss)) where
  abbrev occurring : Side → ℕ → Bool
  occurring σ = occurs (sides l.a.constraints l.b.constraints σ)

  abbrev initials : List Line
  initials = lines l.a.constraints l.b.constraints

  -- the bundles are those that a check reads
  same-bundles : {file : List ℕ} {L : ℕ} {I : Formula} (y : Yields newest_edition A B file L I) → ◌≡◌ {A = ℕ × List (List Row)} (K, rss) (L, short_proofs_of (lines y.a y.b))
  unfolding agrees
  same-bundles {L = L} y =
      let a : Bundle = record { edition = y.edition_a; K = L; constraints = y.a } in
      let b : Bundle = record { edition = y.edition_b; K = L; constraints = y.b } in
      let same : ◌≡◌ {A = Bundle × Bundle} (l.a, l.b) (a, b) =
      one_value (bundles-accept newest_edition A B l.a l.b l.laid) (bundles-accept newest_edition A B a b (record { laid_a = record { file = y.file_a; agree = tt }; laid_b = record { file = y.file_b; agree = agrees-refl L } })) in
      l.is ∙ ap (λ (ab : Bundle × Bundle). (ab.0.K, short_proofs_of (lines ab.0.constraints ab.1.constraints))) same

  -- the rows of a short proof, and its K
  pub rows-listed : (file : List ℕ) (s : ShortProof A B file) → (s.K ≡ K) × (s.rows ∈ rss)
  rows-listed file s =
      let y = (accepted-certified A B file s.output s.accepted).certifies.yields in
      let c = certified-rows y s.K s.rows s.is s.permitted in
      let p = proved y c in
      let same = same-bundles y in
      let m = short-found (λ σ. occurs (sides y.a y.b σ)) (lines y.a y.b) (initial-words (sides y.a y.b)) p.proof s.rows s.permitted s.one s.three (p.are ∙ c.are-rows) in
      (c.same-K ∙ sym (ap (λ (r : ℕ × List (List Row)). r.0) same), subst (λ (xs : List (List Row)). s.rows ∈ xs) (sym (ap (λ (r : ℕ × List (List Row)). r.1) same)) m)

  pub none_left_out : (file : List ℕ) → ShortProof A B file → file ∈ map (proof_file K) rss
  none_left_out file s =
      let (k, m) = rows-listed file s in
      subst (λ (f : List ℕ). f ∈ map (proof_file K) rss) (sym (s.is ∙ ap (λ (n : ℕ). proof_file n s.rows) k)) (in_map (proof_file K) s.rows rss m)

  -- ---- only these
  module _ (rs : List Row) (g : GoodShort occurring initials (initial-words (sides l.a.constraints l.b.constraints)) rs) where
    laid_a : BundleFile newest_edition A l.a.edition l.a.K l.a.constraints
    laid_a = l.laid.laid_a.file

    laid_b : BundleFile newest_edition B l.b.edition l.a.K l.b.constraints
    laid_b = subst (λ (K : ℕ). BundleFile newest_edition B l.b.edition K l.b.constraints) (agreed l.a.K l.b.K l.laid.laid_b.agree) l.laid.laid_b.file

    abbrev derives : Proves edition1 l.a.constraints l.b.constraints (map row rs) g.good.formula
    derives = record { proof = g.good.proof; are = g.good.are; rows = omega (arith, g.good.rows, g.few); opened = omega (arith, g.good.flat) }

    good-certifies : Certifies newest_edition A B (proof_file l.a.K rs) l.a.K g.good.formula
    good-certifies = record {
      yields = record {
        edition_a = l.a.edition;
        edition_b = l.b.edition;
        edition_proof = 1;
        a = l.a.constraints;
        b = l.b.constraints;
        es = map row rs;
        file_a = laid_a;
        file_b = laid_b;
        file_proof = record {
          first = omega arith;
          last = omega arith;
          short = omega (arith, table-length l.a.K rs (omega (arith, g.good.count, g.few)));
          body = map row_item rs;
          whole = table-items l.a.K rs;
          low = laid_a.laid.low;
          high = laid_a.laid.high;
          enters = rows-enter l.a.K g.good.permitted;
        };
        proves = derives;
      };
      short = flat-file l.a.K derives laid_a laid_b (rows_short g.good.permitted) laid_a.laid.high g.good.flat;
    }

    good-short : ShortProof A B (proof_file l.a.K rs)
    good-short = record {
      K = l.a.K;
      rows = rs;
      is = refl;
      one = omega (arith, g.good.count);
      three = omega (arith, g.good.count, g.few);
      permitted = g.good.permitted;
      output = formula_file edition1 l.a.K g.good.formula;
      accepted = certified-accepted A B (proof_file l.a.K rs) _ l.a.K g.good.formula good-certifies (omega arith);
    }

  pub only_these : (file : List ℕ) → file ∈ map (proof_file K) rss → ShortProof A B file
  only_these file m =
      let h = in-mapped (proof_file K) rss file m in
      let k : K ≡ l.a.K = ap (λ (r : ℕ × List (List Row)). r.0) l.is in
      let among : h.element ∈ short_proofs_of initials = subst (λ (xs : List (List Row)). h.element ∈ xs) (ap (λ (r : ℕ × List (List Row)). r.1) l.is) h.among in
      subst (ShortProof A B) (sym (h.is ∙ ap (λ (n : ℕ). proof_file n h.element) k)) (good-short h.element (short-good occurring initials (initial-words (sides l.a.constraints l.b.constraints)) h.element among))

-- Where the sequence is given, the files of its tables are the short proofs.
pub listed-iff : (A B : List ℕ) → (K : ℕ) (rss : List (List Row)) → short_proofs A B ≡ accepted (K, rss) → (file : List ℕ) → ShortProof A B file ↔ (file ∈ map (proof_file K) rss)
listed-iff As Bs K rss e file =
    let l = (short_proofs-gives As Bs).gives (K, rss) e in
    (none_left_out As Bs l file, only_these As Bs l file)

-- No strengthen occurs in a short proof: it would need three closes.
pub no_strengthen : (A B file : List ℕ) (s : ShortProof A B file) → All NoStrengthen s.rows
no_strengthen As Bs file s =
    let y = (accepted-certified As Bs file s.output s.accepted).certifies.yields in
    let c = certified-rows y s.K s.rows s.is s.permitted in
    let p = proved y c in
    let occ : Side → ℕ → Bool = λ σ. occurs (sides y.a y.b σ) in
    let w = initial-words (sides y.a y.b) in
    let m = short-found occ (lines y.a y.b) w p.proof s.rows s.permitted s.one s.three (p.are ∙ c.are-rows) in
    (short-good occ (lines y.a y.b) w s.rows m).good.straight
