-- The check stage by stage, over plain values: each refusal on the way, and the check that is begun. Assumes nothing.
use mathlib.Core.Path.{◌≡◌, sym, ap, ◌∙◌, subst}
use mathlib.Core.Option.{Option, none, some}
use mathlib.Core.List.{List}
use Prim.Native.Nat.{ℕ, ◌≤◌, ◌<◌}
use lib.ListN.{length}
use borrow.Author.Tests.{le-leb, lt-leb}
use Rattle.answers.specs.declared.Answer.{Answer}
use Rattle.answers.specs.Answers.{answer, file_a, file_b, file_proof, refused, accepted, ◌>>=◌, ◌>>◌, need}
use Rattle.fields.specs.declared.FileKind.{FileKind}
use Rattle.fields.specs.declared.header.Headed.{Headed}
use Rattle.fields.specs.Fields.{fields}
use Rattle.fields.specs.Header.{header}
use Rattle.fields.specs.Places.{fields_at, header_of, IsHeader}
use Rattle.std.specs.Prelude.{Ok, Err}
use Rattle.std.specs.declared.result.Result as code
use Rattle.answers.specs.Refusals.{number_of, told}
use Rattle.answers.specs.declared.refusals.Fault.{Fault}
use Rattle.fields.proofs.HeaderLaid.{header-gives}
use Rattle.fields.proofs.Headers.{given-some}
use Rattle.bundle.specs.Bundle.{Bundle, at_most, bundle, bundles}
use Rattle.bundle_scan.specs.Scan.{IsBundle, Scans}
use Rattle.bundle_scan.specs.declared.Body.{Body}
use Rattle.bundle_scan.specs.declared.Scanned.{Scanned}
use Rattle.bundle_scan.proofs.Bodies as bodies
use Rattle.proof.specs.Check.{check_proof, formula_at_most, interpolant}
use Rattle.proof.proofs.Agree.{agreed}
use Rattle.bundle_load.specs.Both.{stated_in, Both}
use Rattle.bundle_load.specs.Begun.{WithinLimits, Begun}

-- ---- too long
module _ (A B P : List ℕ) where
  pub long_A : 8192 < length A → interpolant 2 A B P ≡ refused (answer 1 1 0)
  unfolding interpolant at_most need ◌>>◌
  long_A h = rw (lt-leb (length A) 8192 h)

  module _ (a : length A ≤ 8192) where
    pub long_B : 8192 < length B → interpolant 2 A B P ≡ refused (answer 1 2 0)
    unfolding interpolant at_most need ◌>>◌
    long_B h = rw (le-leb (length A) 8192 a, lt-leb (length B) 8192 h)

    module _ (b : length B ≤ 8192) where
      pub long-P : 65536 < length P → interpolant 2 A B P ≡ refused (answer 1 3 0)
      unfolding interpolant at_most need ◌>>◌
      long-P h = rw (le-leb (length A) 8192 a, le-leb (length B) 8192 b, lt-leb (length P) 65536 h)

-- ---- the bundles
-- A bundle's file as what it states.
abbrev pub bundle_of : List ℕ → ℕ → Body → Bundle
bundle_of s K body = record { edition = body.edition; K = K; constraints = stated_in s K body }

b-is : {B : List ℕ} {second : Body} {K : ℕ} → 1 ≤ K → IsBundle K B K second → bundle 2 file_b (some K) B ≡ accepted (bundle_of B K second)
b-is {K} h b = rw (← given-some K h) (bodies.states b file_b)

module _ {A B P : List ℕ} (s : WithinLimits A B P) where
  short-is : interpolant 2 A B P ≡ (bundles 2 A B >>= λ (a, b). (check_proof 2 a b (fields P) >>= λ I. (formula_at_most a.K I >> accepted (a.K, I))))
  unfolding interpolant at_most need ◌>>◌
  short-is = rw (le-leb (length A) 8192 s.a, le-leb (length B) 8192 s.b, le-leb (length P) 65536 s.p)

  pub refused-A : {x : Answer} → bundle 2 file_a none A ≡ refused x → interpolant 2 A B P ≡ refused x
  unfolding bundles ◌>>=◌
  refused-A e = short-is ∙ rw e

  pub refused-B : {first : Body} {K : ℕ} → IsBundle 0 A K first → {x : Answer} → bundle 2 file_b (some K) B ≡ refused x → interpolant 2 A B P ≡ refused x
  unfolding bundles ◌>>=◌
  refused-B a e = short-is ∙ rw (bodies.states a file_a, e)

  module _ {first second : Body} {K : ℕ} (w : Both A B first second K) where
    pub both_is : interpolant 2 A B P ≡ (check_proof 2 (bundle_of A K first) (bundle_of B K second) (fields P) >>= λ I. (formula_at_most K I >> accepted (K, I)))
    unfolding bundles ◌>>=◌
    both_is = short-is ∙ rw (bodies.states w.a file_a, b-is w.low w.b)

    pub refused-P : {x : Answer} → header FileKind.Proof file_proof 2 (some K) (fields P) ≡ refused x → interpolant 2 A B P ≡ refused x
    unfolding check_proof ◌>>=◌
    refused-P e = both_is ∙ rw e

-- ---- what the scans and the header tell
is-bundle : {given : ℕ} {A : List ℕ} {x : Scanned} {r : code.Result Scanned Fault} → Scans given A 0 r → r ≡ Ok x → IsBundle given A x.k x.body
is-bundle a e = (rw e at a.by).0

module _ {A : List ℕ} {r : code.Result Scanned Fault} (a : Scans 0 A 0 r) where
  pub unscanned-A : {B P : List ℕ} {e : Fault} → WithinLimits A B P → r ≡ Err e → interpolant 2 A B P ≡ refused (answer (number_of e.refusal) 1 e.place)
  unscanned-A s e = refused-A s ((rw e at a.by) file_a)

  module _ {x : Scanned} (e : r ≡ Ok x) {B : List ℕ} {q : code.Result Scanned Fault} (b : Scans x.k B 0 q) where
    pub unscanned-B : {P : List ℕ} {e : Fault} → WithinLimits A B P → q ≡ Err e → interpolant 2 A B P ≡ refused (answer (number_of e.refusal) 2 e.place)
    unscanned-B s f =
        let is-A = is-bundle a e in
        refused-B s is-A (rw (given-some x.k (bodies.low is-A)) at ((rw f at b.by) file_b))

    pub scanned-both : {y : Scanned} → q ≡ Ok y → Both A B x.body y.body x.k
    scanned-both {y} f =
        let is-A = is-bundle a e in
        let is-B = is-bundle b f in
        let same : y.k ≡ x.k = bodies.as-given is-B (bodies.low is-A) in
        record { a = is-A; b = subst (λ (k : ℕ). IsBundle x.k B k y.body) same is-B; low = bodies.low is-A; high = bodies.high is-A; a_few = bodies.few is-A; b_few = bodies.few is-B }

module _ {A B : List ℕ} {first second : Body} {P : List ℕ} {K : ℕ} (s : WithinLimits A B P) (w : Both A B first second K) {r : code.Result Headed Fault} (h : IsHeader FileKind.Proof 2 K P r) where
  header-as : header FileKind.Proof file_proof 2 (some K) (fields P) ≡ told file_proof (header_of P) r
  header-as = ap (λ (o : Option ℕ). header FileKind.Proof file_proof 2 o (fields P)) (sym (given-some K w.low)) ∙ h.is file_proof

  pub unheaded : {e : Fault} → r ≡ Err e → interpolant 2 A B P ≡ refused (answer (number_of e.refusal) 3 e.place)
  unheaded e = refused-P s w (header-as ∙ rw e)

  pub begun : {x : Headed} → r ≡ Ok x → Begun A B first second P x.edition K x.next
  begun {x} e =
      let d : header FileKind.Proof file_proof 2 (some K) (fields P) ≡ accepted (header_of P x) = header-as ∙ rw e in
      let z : x.k ≡ K = agreed K x.k ((header-gives FileKind.Proof file_proof 2 (some K) (fields P)).gives _ d).agree in
      record { short = s; both = w; header_is = d ∙ ap (λ (k : ℕ). accepted (record { number = x.edition; K = k; rest = fields_at P x.next })) z }
