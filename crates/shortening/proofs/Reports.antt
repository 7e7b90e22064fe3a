-- The report computed of a table is the one that says which rows are needed, and has one number for each row. Assumes nothing.
use mathlib.Core.Path.{◌≡◌, refl, sym, ◌∙◌, ap, subst}
use mathlib.Core.Logic.{inl, inr, ◌↔◌}
use mathlib.Core.List.{List, [], ◌∷◌}
use mathlib.Core.Bool.{Bool, true, false}
use Prim.Native.Nat.{ℕ, ◌+◌}
use native.Mathlib.Omega.{arith}
use lib.ListN.{length}
use lib.Dec.{T}
use Rattle.forms.specs.Edition.{Edition}
use Rattle.forms.specs.Forms.{Form, Line, Formula}
use Rattle.calculus.specs.Rules.{Closed, derive, strengthen, round, split_eq, split_neq, number, stride, Rounded, last, more, entries, row_count, row_count_rounded}
use Rattle.shortening.specs.Needed.{DependsOn, depends_on, mark_of, Decides, Reports, ReportsRounded}
use Rattle.shortening.proofs.Computed.{report, report_rounded}
use Rattle.shortening.specs.Passes.{report_on}
use Rattle.shortening.proofs.Needed.{depends_on-true, true-depends_on}
use Rattle.shortening.proofs.Passes.{reported}

telling : (Need : Type 0) (b : Bool) → (T b → Need) → (Need → T b) → (ns : List ℕ) → Decides Need ns (mark_of b ∷ ns)
telling Need true y z ns = inl (y tt, refl)
telling Need false y z ns = inr (z, refl)

only : (Need : Type 0) (b : Bool) → (T b → Need) → (Need → T b) → (ns1 ns : List ℕ) → Decides Need ns1 ns → ns ≡ mark_of b ∷ ns1
only Need true y z ns1 ns (inl (h, q)) = q
only Need true y z ns1 ns (inr (h, q)) = absurd (h (y tt))
only Need false y z ns1 ns (inl (h, q)) = absurd (z h)
only Need false y z ns1 ns (inr (h, q)) = q

module _ {e : Edition} {in_b : ℕ → Bool} where
  mutual
    reports : {ls : List Line} {I : Formula} (p : Closed e in_b ls I) (rest : List ℕ) → Reports p rest (report p rest)
    reports (derive {ls = ls} _ _ _ p) rest = (report p rest, reports p rest, telling (DependsOn p (length ls)) (depends_on p (length ls)) (depends_on-true p (length ls)) (true-depends_on p (length ls)) (report p rest))
    reports (strengthen _ _ _ p1 pE p0) rest =
        (report p0 rest, report pE (report p0 rest), report p1 (report pE (report p0 rest)), reports p0 rest, reports pE (report p0 rest), reports p1 (report pE (report p0 rest)), refl)
    reports (round _ _ _ _ p ps) rest = (report_rounded ps rest, report p (report_rounded ps rest), reports-rounded ps rest, reports p (report_rounded ps rest), refl)
    reports (split_eq _ _ _ _ p q) rest = (report q rest, report p (report q rest), reports q rest, reports p (report q rest), refl)
    reports (split_neq _ _ _ _ p q) rest = (report q rest, report p (report q rest), reports q rest, reports p (report q rest), refl)
    reports (number _ _ _ _) rest = refl
    reports (stride _ _ _ _ _ _ _) rest = refl

    reports-rounded : {ls : List Line} {t t_A : Form} {g k j : ℕ} {I : Formula} (p : Rounded e in_b ls t t_A g k j I) (rest : List ℕ) → ReportsRounded p rest (report_rounded p rest)
    reports-rounded (last _ _ p) rest = reports p rest
    reports-rounded (more _ _ p ps) rest = (report_rounded ps rest, reports-rounded ps rest, reports p (report_rounded ps rest))

  mutual
    one-report : {ls : List Line} {I : Formula} (p : Closed e in_b ls I) (rest ns : List ℕ) → Reports p rest ns → ns ≡ report p rest
    one-report (derive {ls = ls} _ _ _ p) rest ns (ns1, h, t) = only (DependsOn p (length ls)) (depends_on p (length ls)) (depends_on-true p (length ls)) (true-depends_on p (length ls)) ns1 ns t
        ∙ ap (λ (x : List ℕ). mark_of (depends_on p (length ls)) ∷ x) (one-report p rest ns1 h)
    one-report (strengthen _ _ _ p1 pE p0) rest ns (a, b, c, h0, hE, h1, q) =
        q ∙ ap (λ (x : List ℕ). 2 ∷ x) (one-report p1 b c h1 ∙ ap (report p1) (one-report pE a b hE ∙ ap (report pE) (one-report p0 rest a h0)))
    one-report (round _ _ _ _ p ps) rest ns (a, b, h, h1, q) = q ∙ ap (λ (x : List ℕ). 2 ∷ x) (one-report p a b h1 ∙ ap (report p) (one-report-rounded ps rest a h))
    one-report (split_eq _ _ _ _ p r) rest ns (a, b, h, h1, q) = q ∙ ap (λ (x : List ℕ). 2 ∷ x) (one-report p a b h1 ∙ ap (report p) (one-report r rest a h))
    one-report (split_neq _ _ _ _ p r) rest ns (a, b, h, h1, q) = q ∙ ap (λ (x : List ℕ). 2 ∷ x) (one-report p a b h1 ∙ ap (report p) (one-report r rest a h))
    one-report (number _ _ _ _) rest ns q = q
    one-report (stride _ _ _ _ _ _ _) rest ns q = q

    one-report-rounded : {ls : List Line} {t t_A : Form} {g k j : ℕ} {I : Formula} (p : Rounded e in_b ls t t_A g k j I) (rest ns : List ℕ) → ReportsRounded p rest ns → ns ≡ report_rounded p rest
    one-report-rounded (last _ _ p) rest ns h = one-report p rest ns h
    one-report-rounded (more _ _ p ps) rest ns (a, h, h1) = one-report p a ns h1 ∙ ap (report p) (one-report-rounded ps rest a h)

  -- the report computed of the table is the one of the relation
  pub report-iff : {ls : List Line} {I : Formula} (p : Closed e in_b ls I) (ns : List ℕ) → (report_on (length ls) (entries p []) ≡ ns) ↔ Reports p [] ns
  report-iff p ns = (λ h. there ns (sym (reported p) ∙ h), λ h. reported p ∙ sym (one-report p [] ns h))
    where
      there : (ns : List ℕ) → report p [] ≡ ns → Reports p [] ns
      there ns q = subst (λ (x : List ℕ). Reports p [] x) q (reports p [])

  -- ---- one number for each row
  mutual
    report-length : {ls : List Line} {I : Formula} (p : Closed e in_b ls I) (rest : List ℕ) → length (report p rest) ≡ row_count p + length rest
    report-length (derive _ _ _ p) rest = omega (arith, report-length p rest)
    report-length (strengthen _ _ _ p1 pE p0) rest = omega (arith, report-length p1 (report pE (report p0 rest)), report-length pE (report p0 rest), report-length p0 rest)
    report-length (round _ _ _ _ p ps) rest = omega (arith, report-length p (report_rounded ps rest), report-length-rounded ps rest)
    report-length (split_eq _ _ _ _ p q) rest = omega (arith, report-length p (report q rest), report-length q rest)
    report-length (split_neq _ _ _ _ p q) rest = omega (arith, report-length p (report q rest), report-length q rest)
    report-length (number _ _ _ _) rest = omega arith
    report-length (stride _ _ _ _ _ _ _) rest = omega arith

    report-length-rounded : {ls : List Line} {t t_A : Form} {g k j : ℕ} {I : Formula} (p : Rounded e in_b ls t t_A g k j I) (rest : List ℕ) → length (report_rounded p rest) ≡ row_count_rounded p + length rest
    report-length-rounded (last _ _ p) rest = report-length p rest
    report-length-rounded (more _ _ p ps) rest = omega (arith, report-length p (report_rounded ps rest), report-length-rounded ps rest)

  pub reports-rows : {ls : List Line} {I : Formula} (p : Closed e in_b ls I) → length (report_on (length ls) (entries p [])) ≡ row_count p
  reports-rows p = ap length (reported p) ∙ report-length p [] ∙ add-zero (row_count p)
    where
      add-zero : (n : ℕ) → n + 0 ≡ n
      add-zero n = omega arith
