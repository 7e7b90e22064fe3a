-- One array of new numbers gives the shorter table. Assumes nothing.
use mathlib.Core.Path.{◌≡◌, refl, sym, ◌∙◌, ap, ap₂, subst}
use mathlib.Core.List.{List, [], ◌∷◌}
use mathlib.Core.Bool.{Bool, true, false, cond}
use Prim.Native.Nat.{ℕ, zero, suc, ◌+◌, ◌≤◌, ◌<◌}
use native.Mathlib.Omega.{arith}
use lib.ListN.{length}
use lib.Dec.{T, eqb}
use Rattle.forms.specs.Edition.{Edition}
use Rattle.forms.specs.Forms.{Form, ≤0, =0, Line, line, Formula, ◌plus◌}
use Rattle.calculus.specs.Rules.{Nth, Room, ◌▷◌, Inference, Combine, Reduce, Scale, inference, New, combine, reduce, scale, Closed, derive, strengthen, round, split_eq, split_neq, number, stride, Rounded, last, more, Derive, Strengthen, Round, Split, CloseNumber, CloseStride, Entry, row, claim, claims, entries, entries_rounded}
use Rattle.shortening.specs.Needed.{mark_of, depends_on, renew, renumber, kept_row, kept_lines, shortened, shortened_rounded}
use Rattle.shortening.specs.Passes.{top, pop, pushed, report_on, is_kept, Start, no_start, Retention, retention, retentions, remaining}
use Rattle.shortening.proofs.Computed.{report, report_rounded, renumber_entry, shorten_table}
use Rattle.shortening.proofs.Without.{length-▷, nth-below, renew-other}
use Rattle.shortening.proofs.Needed.{same}
use Rattle.shortening.proofs.Passes.{before, reported}

-- ---- the entries that are left, in one piece: f is the array; n lines stand on the branch, m of them kept
abbrev keeping : Bool → Entry → List Entry → List Entry
keeping true x es = x ∷ es
keeping false x es = es

abbrev pub in_one : List Entry → (reported : List ℕ) (b : Bool) (f : ℕ → ℕ) (n m : ℕ) → (opened : List Start) → List Entry
in_one [] reported b f n m opened = []
in_one (claim t t_A ∷ es) reported b f n m opened = keeping b (claim t t_A) (in_one es reported b f n m opened)
in_one (row (Derive s) ∷ es) reported b f n m opened =
    keeping (is_kept (top 0 reported)) (row (Derive (renumber f s))) (in_one es (pop reported) (is_kept (top 0 reported)) (renew f n m) (suc n) (kept_lines (is_kept (top 0 reported)) m) opened)
in_one (row (Strengthen i) ∷ es) reported b f n m opened =
    row (Strengthen (f i)) ∷ in_one es (pop reported) true (renew f n m) (suc n) (suc m) (pushed 2 (record { lines = suc n; kept = suc m }) opened)
in_one (row (Round i g k) ∷ es) reported b f n m opened =
    row (Round (f i) g k) ∷ in_one es (pop reported) true (renew f n m) (suc n) (suc m) (pushed k (record { lines = suc n; kept = suc m }) opened)
in_one (row (Split i) ∷ es) reported b f n m opened =
    row (Split (f i)) ∷ in_one es (pop reported) true (renew f n m) (suc n) (suc m) (pushed 1 (record { lines = suc n; kept = suc m }) opened)
in_one (row (CloseNumber i) ∷ es) reported b f n m opened =
    row (CloseNumber (f i)) ∷ in_one es (pop reported) true f (top no_start opened).lines (top no_start opened).kept (pop opened)
in_one (row (CloseStride i g) ∷ es) reported b f n m opened =
    row (CloseStride (f i) g) ∷ in_one es (pop reported) true f (top no_start opened).lines (top no_start opened).kept (pop opened)

one-row : (f : ℕ → ℕ) (s : Inference) (es : List Entry) (c : Bool) (ds : List Retention) (xs : List Entry) → remaining renumber_entry ds es ≡ xs
    → remaining renumber_entry (retention c f ∷ ds) (row (Derive s) ∷ es) ≡ keeping c (row (Derive (renumber f s))) xs
one-row f s es true ds xs q = ap (λ (xs : List Entry). row (Derive (renumber f s)) ∷ xs) q
one-row f s es false ds xs q = q

in_one_lem : (es : List Entry) (reported : List ℕ) (b : Bool) (f : ℕ → ℕ) (n m : ℕ) (opened : List Start) → remaining renumber_entry (retentions es reported b f n m opened) es ≡ in_one es reported b f n m opened
in_one_lem [] reported b f n m opened = refl
in_one_lem (claim t t_A ∷ es) reported true f n m opened = ap (λ (xs : List Entry). claim t t_A ∷ xs) (in_one_lem es reported true f n m opened)
in_one_lem (claim t t_A ∷ es) reported false f n m opened = in_one_lem es reported false f n m opened
in_one_lem (row (Derive s) ∷ es) reported b f n m opened =
    let c = is_kept (top 0 reported) in
    one-row f s es c (retentions es (pop reported) c (renew f n m) (suc n) (kept_lines c m) opened) (in_one es (pop reported) c (renew f n m) (suc n) (kept_lines c m) opened)
    (in_one_lem es (pop reported) c (renew f n m) (suc n) (kept_lines c m) opened)
in_one_lem (row (Strengthen i) ∷ es) reported b f n m opened = ap (λ (xs : List Entry). row (Strengthen (f i)) ∷ xs) (in_one_lem es _ _ _ _ _ _)
in_one_lem (row (Round i g k) ∷ es) reported b f n m opened = ap (λ (xs : List Entry). row (Round (f i) g k) ∷ xs) (in_one_lem es _ _ _ _ _ _)
in_one_lem (row (Split i) ∷ es) reported b f n m opened = ap (λ (xs : List Entry). row (Split (f i)) ∷ xs) (in_one_lem es _ _ _ _ _ _)
in_one_lem (row (CloseNumber i) ∷ es) reported b f n m opened = ap (λ (xs : List Entry). row (CloseNumber (f i)) ∷ xs) (in_one_lem es _ _ _ _ _ _)
in_one_lem (row (CloseStride i g) ∷ es) reported b f n m opened = ap (λ (xs : List Entry). row (CloseStride (f i) g) ∷ xs) (in_one_lem es _ _ _ _ _ _)

kept-mark : (b : Bool) → is_kept (mark_of b) ≡ b
kept-mark true = refl
kept-mark false = refl

-- ---- arrays that agree below n
pub record Alike (f h : ℕ → ℕ) (n : ℕ) : Type 0 where
  pub at : (j : ℕ) → j < n → f j ≡ h j

alike_self : (f : ℕ → ℕ) (n : ℕ) → Alike f f n
alike_self f n = record { at = λ j b. refl }

alike-through : {f g h : ℕ → ℕ} {n : ℕ} → Alike f g n → Alike g h n → Alike f h n
alike-through x y = record { at = λ j b. x.at j b ∙ y.at j b }

alike-less : {f g : ℕ → ℕ} {n m : ℕ} → n ≤ m → Alike f g m → Alike f g n
alike-less h x = record { at = λ j b. x.at j (omega (arith, h, b)) }

alike-line : {f h : ℕ → ℕ} (ls : List Line) (l : Line) (m : ℕ) → Alike f h (length ls) → Alike (renew f (length ls) m) (renew h (length ls) m) (length (ls ▷ l))
alike-line {f} {h} ls l m x = record { at = λ j b. by j (eqb j (length ls)) (λ d. x.at j (below j b d)) (same j (length ls)) }
  where
    below : (j : ℕ) → j < length (ls ▷ l) → (j ≡ length ls → ⊥) → j < length ls
    below j b d = omega (arith, b, d, length-▷ ls l)

    by : (j : ℕ) (b : Bool) → ((j ≡ length ls → ⊥) → f j ≡ h j) → (j ≡ length ls → T b) → cond b m (f j) ≡ cond b m (h j)
    by j true y s = refl
    by j false y s = y s

-- what was written for a line of the branch is not seen below it
unseen : (f h : ℕ → ℕ) (n m : ℕ) → Alike h (renew f n m) (suc n) → Alike h f n
unseen f h n m x = record { at = λ j b. x.at j (omega (arith, b)) ∙ renew-other f n m j (λ q. let z : ⊥ = omega (arith, b, q) in z) }

inference-alike : {ls : List Line} {l : Line} {f h : ℕ → ℕ} (n : New ls l) → Alike f h (length ls) → renumber f (inference n) ≡ renumber h (inference n)
inference-alike {ls} (combine i j α β a b _ _) x = ap₂ (λ (y z : ℕ). Combine y z α β) (x.at i (nth-below ls _ i a)) (x.at j (nth-below ls _ j b))
inference-alike {ls} (reduce i j α a b _) x = ap₂ (λ (y z : ℕ). Reduce y z α) (x.at i (nth-below ls _ i a)) (x.at j (nth-below ls _ j b))
inference-alike {ls} (scale i α a _) x = ap (λ (y : ℕ). Scale y α) (x.at i (nth-below ls _ i a))

module _ {e : Edition} {in_b : ℕ → Bool} where
  -- ---- a closed branch sees only the new numbers of its lines
  mutual
    pub alike : {ls : List Line} {I : Formula} (p : Closed e in_b ls I) (f h : ℕ → ℕ) → Alike f h (length ls) → (m : ℕ) (rest : List Entry) → shortened p f m rest ≡ shortened p h m rest
    alike (derive {ls = ls} {l = l} claimed n _ p) f h x m rest =
        ap₂ (λ (s : Inference) (es : List Entry). kept_row (depends_on p (length ls)) s claimed l es) (inference-alike n x)
        (alike p (renew f (length ls) m) (renew h (length ls) m) (alike-line ls l m x) (kept_lines (depends_on p (length ls)) m) rest)
    alike (strengthen {ls = ls} i at _ p1 pE p0) f h x m rest =
        ap₂ (λ (y : ℕ) (es : List Entry). row (Strengthen y) ∷ es) (x.at i (nth-below ls _ i at))
        (alike p1 (renew f (length ls) m) (renew h (length ls) m) (alike-line ls _ m x) (suc m) _
        ∙ ap (shortened p1 (renew h (length ls) m) (suc m)) (alike pE (renew f (length ls) m) (renew h (length ls) m) (alike-line ls _ m x) (suc m) _
        ∙ ap (shortened pE (renew h (length ls) m) (suc m)) (alike p0 (renew f (length ls) m) (renew h (length ls) m) (alike-line ls _ m x) (suc m) rest)))
    alike (round {ls = ls} i g k r p ps) f h x m rest =
        ap₂ (λ (y : ℕ) (es : List Entry). row (Round y g k) ∷ es) (x.at i (nth-below ls _ i r.at))
        (alike p (renew f (length ls) m) (renew h (length ls) m) (alike-line ls _ m x) (suc m) _ ∙ ap (shortened p (renew h (length ls) m) (suc m)) (alike-rounded ps f h x m rest))
    alike (split_eq {ls = ls} i at _ _ p q) f h x m rest =
        ap₂ (λ (y : ℕ) (es : List Entry). row (Split y) ∷ es) (x.at i (nth-below ls _ i at))
        (alike p (renew f (length ls) m) (renew h (length ls) m) (alike-line ls _ m x) (suc m) _
        ∙ ap (shortened p (renew h (length ls) m) (suc m)) (alike q (renew f (length ls) m) (renew h (length ls) m) (alike-line ls _ m x) (suc m) rest))
    alike (split_neq {ls = ls} i at _ _ p q) f h x m rest =
        ap₂ (λ (y : ℕ) (es : List Entry). row (Split y) ∷ es) (x.at i (nth-below ls _ i at))
        (alike p (renew f (length ls) m) (renew h (length ls) m) (alike-line ls _ m x) (suc m) _
        ∙ ap (shortened p (renew h (length ls) m) (suc m)) (alike q (renew f (length ls) m) (renew h (length ls) m) (alike-line ls _ m x) (suc m) rest))
    alike (number {ls = ls} i at _ _) f h x m rest = ap (λ (y : ℕ). row (CloseNumber y) ∷ rest) (x.at i (nth-below ls _ i at))
    alike (stride {ls = ls} i g at _ _ _ _) f h x m rest = ap (λ (y : ℕ). row (CloseStride y g) ∷ rest) (x.at i (nth-below ls _ i at))

    alike-rounded : {ls : List Line} {t t_A : Form} {g k j : ℕ} {I : Formula} (p : Rounded e in_b ls t t_A g k j I) (f h : ℕ → ℕ) → Alike f h (length ls) → (m : ℕ) (rest : List Entry)
        → shortened_rounded p f m rest ≡ shortened_rounded p h m rest
    alike-rounded (last {ls = ls} _ _ p) f h x m rest = alike p (renew f (length ls) m) (renew h (length ls) m) (alike-line ls _ m x) (suc m) rest
    alike-rounded (more {ls = ls} _ _ p ps) f h x m rest = alike p (renew f (length ls) m) (renew h (length ls) m) (alike-line ls _ m x) (suc m) _
        ∙ ap (shortened p (renew h (length ls) m) (suc m)) (alike-rounded ps f h x m rest)

-- ---- one array
abbrev pub following : List Entry → List ℕ → (ℕ → ℕ) → List Start → List Entry
following rest ns f opened = in_one rest ns true f (top no_start opened).lines (top no_start opened).kept (pop opened)

with-claims : (b claimed : Bool) (s : Inference) (l : Line) (es : List Entry) (ns : List ℕ) (f : ℕ → ℕ) (n m : ℕ) (opened : List Start)
    → keeping b (row (Derive s)) (in_one (claims claimed l es) ns b f n m opened) ≡ kept_row b s claimed l (in_one es ns b f n m opened)
with-claims true true s l es ns f n m opened = refl
with-claims true false s l es ns f n m opened = refl
with-claims false true s l es ns f n m opened = refl
with-claims false false s l es ns f n m opened = refl

module _ {e : Edition} {in_b : ℕ → Bool} where
  -- the array that a closed branch leaves: at the lines with which it started nothing has changed
  pub record Walk {ls : List Line} {I : Formula} (p : Closed e in_b ls I) (rest : List Entry) (ns : List ℕ) (b : Bool) (f : ℕ → ℕ) (n m : ℕ) (opened : List Start) : Type 0 where
    pub left : ℕ → ℕ
    pub agrees : Alike left f n
    pub is : in_one (entries p rest) (report p ns) b f n m opened ≡ shortened p f m (following rest ns left opened)

  -- a branch that a row opens: the array need only agree with f at the lines with which the branch starts
  record Gone (ls : List Line) (l : Line) {I : Formula} (p : Closed e in_b (ls ▷ l) I) (rest : List Entry) (ns : List ℕ) (f h : ℕ → ℕ) (m : ℕ) (opened : List Start) : Type 0 where
    left : ℕ → ℕ
    agrees : Alike left f (suc (length ls))
    is : in_one (entries p rest) (report p ns) true h (suc (length ls)) m opened ≡ shortened p f m (following rest ns left opened)

  record GoneRounded {ls : List Line} {t t_A : Form} {g k j : ℕ} {I : Formula} (p : Rounded e in_b ls t t_A g k j I) (rest : List Entry) (ns : List ℕ) (f h : ℕ → ℕ) (m c : ℕ) (opened : List Start) : Type 0 where
    left : ℕ → ℕ
    agrees : Alike left (renew f (length ls) m) (suc (length ls))
    is : in_one (entries_rounded p rest) (report_rounded p ns) true h (suc (length ls)) (suc m) (pushed c (record { lines = suc (length ls); kept = suc m }) opened)
        ≡ shortened_rounded p f m (following rest ns left opened)

  in-branch : (ls : List Line) (l : Line) {I : Formula} (p : Closed e in_b (ls ▷ l) I) (rest : List Entry) (ns : List ℕ) (b : Bool) (f : ℕ → ℕ) (m : ℕ) (opened : List Start)
      → Walk p rest ns b f (length (ls ▷ l)) m opened → Walk p rest ns b f (suc (length ls)) m opened
  in-branch ls l p rest ns b f m opened w = subst (λ (n : ℕ). Walk p rest ns b f n m opened) (length-▷ ls l) w

  go : (ls : List Line) (l : Line) {I : Formula} (p : Closed e in_b (ls ▷ l) I) (rest : List Entry) (ns : List ℕ) (f h : ℕ → ℕ) (m : ℕ) (opened : List Start) → Alike h f (suc (length ls))
      → Walk p rest ns true h (length (ls ▷ l)) m opened → Gone ls l p rest ns f h m opened
  go ls l p rest ns f h m opened x w = of (in-branch ls l p rest ns true h m opened w)
    where
      of : Walk p rest ns true h (suc (length ls)) m opened → Gone ls l p rest ns f h m opened
      of w = record {
        left = w.left;
        agrees = alike-through w.agrees x;
        is = w.is ∙ alike p h f (alike-less (omega (arith, length-▷ ls l)) x) m (following rest ns w.left opened);
      }

  module _ {ls : List Line} {t t_A : Form} {I1 E I0 : Formula} (i : ℕ) (at : Nth ls i (line ≤0 t t_A)) (room : Room e ls (line ≤0 (t plus 1) (t_A plus 1)))
      (p1 : Closed e in_b (ls ▷ line ≤0 (t plus 1) (t_A plus 1)) I1) (pE : Closed e in_b (ls ▷ line =0 t t_A) E) (p0 : Closed e in_b (ls ▷ line ≤0 (t plus 1) t_A) I0)
      (rest : List Entry) (ns : List ℕ) (b : Bool) (f : ℕ → ℕ) (m : ℕ) (opened : List Start) where
    strengthened : (x1 : Gone ls (line ≤0 (t plus 1) (t_A plus 1)) p1 (entries pE (entries p0 rest)) (report pE (report p0 ns)) (renew f (length ls) m) (renew f (length ls) m) (suc m) (pushed 2 (record { lines = suc (length ls); kept = suc m }) opened))
        (xE : Gone ls (line =0 t t_A) pE (entries p0 rest) (report p0 ns) (renew f (length ls) m) x1.left (suc m) (pushed 1 (record { lines = suc (length ls); kept = suc m }) opened))
        (x0 : Gone ls (line ≤0 (t plus 1) t_A) p0 rest ns (renew f (length ls) m) xE.left (suc m) opened)
        → Walk (strengthen i at room p1 pE p0) rest ns b f (length ls) m opened
    strengthened x1 xE x0 = record {
      left = x0.left;
      agrees = unseen f x0.left (length ls) m x0.agrees;
      is = ap (λ (es : List Entry). row (Strengthen (f i)) ∷ es)
          (x1.is ∙ ap (shortened p1 (renew f (length ls) m) (suc m)) (xE.is ∙ ap (shortened pE (renew f (length ls) m) (suc m)) x0.is));
    }

  mutual
    pub walk : {ls : List Line} {I : Formula} (p : Closed e in_b ls I) (rest : List Entry) (ns : List ℕ) (b : Bool) (f : ℕ → ℕ) (m : ℕ) (opened : List Start) → Walk p rest ns b f (length ls) m opened
    walk (derive {ls = ls} {l = l} claimed n _ p) rest ns b f m opened =
        let c = depends_on p (length ls) in
        let w = in-branch ls l p rest ns c (renew f (length ls) m) (kept_lines c m) opened (walk p rest ns c (renew f (length ls) m) (kept_lines c m) opened) in
        record {
          left = w.left;
          agrees = unseen f w.left (length ls) m w.agrees;
          is = ap (λ (x : Bool). keeping x (row (Derive (renumber f (inference n)))) (in_one (claims claimed l (entries p rest)) (report p ns) x (renew f (length ls) m) (suc (length ls)) (kept_lines x m) opened)) (kept-mark c)
              ∙ with-claims c claimed (renumber f (inference n)) l (entries p rest) (report p ns) (renew f (length ls) m) (suc (length ls)) (kept_lines c m) opened
              ∙ ap (kept_row c (renumber f (inference n)) claimed l) w.is;
        }
    walk (strengthen {ls = ls} i at room p1 pE p0) rest ns b f m opened =
        let a : Start = record { lines = suc (length ls); kept = suc m } in
        let g = renew f (length ls) m in
        let x1 = go ls _ p1 (entries pE (entries p0 rest)) (report pE (report p0 ns)) g g (suc m) (pushed 2 a opened) (alike_self g (suc (length ls))) (walk p1 (entries pE (entries p0 rest)) (report pE (report p0 ns)) true g (suc m) (pushed 2 a opened)) in
        let xE = go ls _ pE (entries p0 rest) (report p0 ns) g x1.left (suc m) (pushed 1 a opened) x1.agrees (walk pE (entries p0 rest) (report p0 ns) true x1.left (suc m) (pushed 1 a opened)) in
        let x0 = go ls _ p0 rest ns g xE.left (suc m) opened xE.agrees (walk p0 rest ns true xE.left (suc m) opened) in
        strengthened i at room p1 pE p0 rest ns b f m opened x1 xE x0
    walk (round {ls = ls} i u k r p ps) rest ns b f m opened =
        let a : Start = record { lines = suc (length ls); kept = suc m } in
        let g = renew f (length ls) m in
        let (c, q) = before k r.least in
        let x = go ls _ p (entries_rounded ps rest) (report_rounded ps ns) g g (suc m) (pushed (suc c) a opened) (alike_self g (suc (length ls))) (walk p (entries_rounded ps rest) (report_rounded ps ns) true g (suc m) (pushed (suc c) a opened)) in
        let y = walk-rounded ps c (omega (arith, q)) rest ns f x.left m opened x.agrees in
        record {
          left = y.left;
          agrees = unseen f y.left (length ls) m y.agrees;
          is = ap (λ (es : List Entry). row (Round (f i) u k) ∷ es)
              (ap (λ (v : ℕ). in_one (entries p (entries_rounded ps rest)) (report p (report_rounded ps ns)) true g (suc (length ls)) (suc m) (pushed v a opened)) (sym q) ∙ x.is ∙ ap (shortened p g (suc m)) y.is);
        }
    walk (split_eq {ls = ls} i _ _ _ p q) rest ns b f m opened =
        let a : Start = record { lines = suc (length ls); kept = suc m } in
        let g = renew f (length ls) m in
        let x = go ls _ p (entries q rest) (report q ns) g g (suc m) (pushed 1 a opened) (alike_self g (suc (length ls))) (walk p (entries q rest) (report q ns) true g (suc m) (pushed 1 a opened)) in
        let y = go ls _ q rest ns g x.left (suc m) opened x.agrees (walk q rest ns true x.left (suc m) opened) in
        record {
          left = y.left;
          agrees = unseen f y.left (length ls) m y.agrees;
          is = ap (λ (es : List Entry). row (Split (f i)) ∷ es) (x.is ∙ ap (shortened p g (suc m)) y.is);
        }
    walk (split_neq {ls = ls} i _ _ _ p q) rest ns b f m opened =
        let a : Start = record { lines = suc (length ls); kept = suc m } in
        let g = renew f (length ls) m in
        let x = go ls _ p (entries q rest) (report q ns) g g (suc m) (pushed 1 a opened) (alike_self g (suc (length ls))) (walk p (entries q rest) (report q ns) true g (suc m) (pushed 1 a opened)) in
        let y = go ls _ q rest ns g x.left (suc m) opened x.agrees (walk q rest ns true x.left (suc m) opened) in
        record {
          left = y.left;
          agrees = unseen f y.left (length ls) m y.agrees;
          is = ap (λ (es : List Entry). row (Split (f i)) ∷ es) (x.is ∙ ap (shortened p g (suc m)) y.is);
        }
    walk (number {ls = ls} i _ _ _) rest ns b f m opened = record { left = f; agrees = alike_self f (length ls); is = refl }
    walk (stride {ls = ls} i g _ _ _ _ _) rest ns b f m opened = record { left = f; agrees = alike_self f (length ls); is = refl }

    walk-rounded : {ls : List Line} {t t_A : Form} {g k j : ℕ} {I : Formula} (p : Rounded e in_b ls t t_A g k j I) (c : ℕ) → suc (c + j) ≡ k → (rest : List Entry) (ns : List ℕ) (f h : ℕ → ℕ) (m : ℕ) (opened : List Start)
        → Alike h (renew f (length ls) m) (suc (length ls)) → GoneRounded p rest ns f h m c opened
    walk-rounded (last {ls = ls} _ _ p) zero q rest ns f h m opened x =
        let y = go ls _ p rest ns (renew f (length ls) m) h (suc m) opened x (walk p rest ns true h (suc m) opened) in
        record { left = y.left; agrees = y.agrees; is = y.is }
    walk-rounded (last b _ p) (suc c) q rest ns f h m opened x = absurd (let z : ⊥ = omega (arith, b, q) in z)
    walk-rounded (more b _ p ps) zero q rest ns f h m opened x = absurd (let z : ⊥ = omega (arith, b, q) in z)
    walk-rounded (more {ls = ls} b _ p ps) (suc c) q rest ns f h m opened x =
        let a : Start = record { lines = suc (length ls); kept = suc m } in
        let g = renew f (length ls) m in
        let y = go ls _ p (entries_rounded ps rest) (report_rounded ps ns) g h (suc m) (pushed (suc c) a opened) x (walk p (entries_rounded ps rest) (report_rounded ps ns) true h (suc m) (pushed (suc c) a opened)) in
        let z = walk-rounded ps c (omega (arith, q)) rest ns f y.left m opened y.agrees in
        record { left = z.left; agrees = z.agrees; is = y.is ∙ ap (shortened p g (suc m)) z.is }

  -- so the table that is left is that of the closed branch, one array serving for all branches
  pub shortens : {ls : List Line} {I : Formula} (p : Closed e in_b ls I) → shorten_table (length ls) (entries p []) ≡ shortened p (λ j. j) (length ls) []
  shortens {ls} p = in_one_lem (entries p []) (report_on (length ls) (entries p [])) true (λ j. j) (length ls) (length ls) []
      ∙ ap (λ (ns : List ℕ). in_one (entries p []) ns true (λ j. j) (length ls) (length ls) []) (reported p) ∙ (walk p [] [] true (λ j. j) (length ls) []).is
