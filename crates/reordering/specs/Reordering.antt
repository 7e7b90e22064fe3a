-- Registers listed in another sequence. Assumes nothing.
use Rattle.std.specs.Prelude.{◌≡◌, Bool, cond, ◌&&◌, ◌||◌, List, [], ◌∷◌, ◌++◌, ℕ, zero, suc, ◌+◌, ◌*◌, ◌<◌, eqb, length, get_or, take, drop, ℤ, pos}
use Rattle.std.proofs.Math.Option
use Rattle.forms.specs.Edition.{Edition, edition}
use Rattle.forms.specs.Forms.{rest}
use Rattle.answers.specs.Answers.{Written}
use Rattle.number_bytes.specs.Numbers.{form_width}
use Rattle.fields.specs.Fields.{whole, broken, nothing, front, fields}
use Rattle.bundle.specs.Layout.{edition_said}

-- "The K constants are reordered": constant k becomes constant `to k`, and what becomes constant k is constant `from k`.
pub record Reordering (K : ℕ) : Type 0 where
  pub to : ℕ → ℕ
  pub from : ℕ → ℕ
  pub to_below : (k : ℕ) → k < K → to k < K
  pub from_below : (k : ℕ) → k < K → from k < K
  pub from_to : (k : ℕ) → k < K → from (to k) ≡ k
  pub to_from : (k : ℕ) → k < K → to (from k) ≡ k

-- f 0, f 1, .. end to end, n of them.
unfoldable pub concat_below : {X : Type 0} (f : ℕ → List X) (n : ℕ) → List X
concat_below f zero = []
concat_below f (suc n) = f 0 ++ concat_below (rest f) n

-- A file in which each whole field's contents c become m tag c, and every other byte stays. (m keeps lengths; `fuel` bounds the number of fields by that of bytes.)
unfoldable pub map_contents_from : (m : (tag : ℕ) → List ℕ → List ℕ) (fuel : ℕ) → List ℕ → List ℕ
map_contents_from m zero bs = bs
map_contents_from m (suc fuel) bs = elim (front bs) [ nothing ↦ bs | broken ↦ bs | whole tag c after ↦ take 3 bs ++ (m tag c ++ map_contents_from m fuel after) ]

unfoldable pub map_contents : (m : (tag : ℕ) → List ℕ → List ℕ) → List ℕ → List ℕ
map_contents m file = map_contents_from m (length file) file

-- "In fields of right length": f c, if the tag is one of those meant and the length of c is n; else c stays.
unfoldable pub if_right : (meant : Bool) (n : ℕ) (f : List ℕ → List ℕ) → List ℕ → List ℕ
if_right meant n f c = cond (meant && eqb (length c) n) (f c) c

-- The edition by which a bundle's fields are measured: the one that it says. Where it says none, or one that is not there, edition 2, as for its length (`limit_said`);
-- nothing turns on that, since such a file is refused at its header and no constraint of it is read.
unfoldable pub edition_of : List ℕ → Edition
edition_of file = edition (Option.get_or (edition_said (fields file)) 2)

module _ {K : ℕ} (π : Reordering K) where
  -- The bytes of a form whose numbers have w bytes: coefficient k is now the old coefficient `from k`; d stays.
  unfoldable pub form_reordered : (w : ℕ) → List ℕ → List ℕ
  form_reordered w bs = concat_below (λ k. take w (drop (π.from k * w) bs)) K ++ drop (K * w) bs

  -- ---- "alike in A, B and all claims"
  -- A bundle's constraints, by its edition.
  unfoldable pub in_bundle : Edition → (tag : ℕ) → List ℕ → List ℕ
  in_bundle e tag c = if_right (eqb tag 0x03 || eqb tag 0x04 || eqb tag 0x05) (form_width e.coefficient_width K) (form_reordered e.coefficient_width) c

  -- A proof's claims, both forms of each. Their numbers have four bytes in both editions.
  unfoldable pub claim_reordered : List ℕ → List ℕ
  claim_reordered c = form_reordered 4 (take (form_width 4 K) c) ++ form_reordered 4 (drop (form_width 4 K) c)

  unfoldable pub in_proof : (tag : ℕ) → List ℕ → List ℕ
  in_proof tag c = if_right (eqb tag 0x20) (2 * form_width 4 K) claim_reordered c

  abbrev pub bundle_reordered : List ℕ → List ℕ
  bundle_reordered file = map_contents (in_bundle (edition_of file)) file

  abbrev pub proof_reordered : List ℕ → List ℕ
  proof_reordered file = map_contents in_proof file

  -- ---- "an accepted formula is the old one so reordered": its literals, and its stride parts behind g. Formulas are of edition 1.
  unfoldable pub stride_reordered : List ℕ → List ℕ
  stride_reordered c = take 4 c ++ form_reordered 4 (drop 4 c)

  unfoldable pub in_formula : (tag : ℕ) → List ℕ → List ℕ
  in_formula tag c = if_right (eqb tag 0x33 || eqb tag 0x34) (form_width 4 K) (form_reordered 4) (if_right (eqb tag 0x35) (4 + form_width 4 K) stride_reordered c)

  abbrev pub formula_reordered : List ℕ → List ℕ
  formula_reordered file = map_contents in_formula file

  -- What check leaves with the bytes written so reordered: "the refusal and its place stay", the count and the rest of the output too.
  unfoldable pub reordered_written : Written → Written
  reordered_written w = record { answer = w.answer; count = w.count; output = formula_reordered (take w.count w.output) ++ drop w.count w.output }

  -- Register values so reordered: register k has the value of the old register `from k`.
  abbrev pub values_reordered : List ℤ → List ℤ
  values_reordered values = concat_below (λ k. get_or values (π.from k) (pos 0) ∷ []) K
