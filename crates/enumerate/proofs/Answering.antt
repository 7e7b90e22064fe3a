-- The call's answer, stage by stage, over plain values. Assumes nothing.
use mathlib.Core.Path.{◌≡◌, refl, sym, ◌∙◌, ap, subst}
use mathlib.Core.Bool.{Bool, true, false}
use mathlib.Core.List.{List}
use mathlib.Core.Option.{none, some}
use Prim.Native.Nat.{ℕ, ◌+◌, ◌≤◌, ◌<◌}
use native.Mathlib.Omega.{arith}
use borrow.Author.Tests.{le-leb, lt-leb, eqb-true, eqb-false}
use lib.Dec.{T, eqb}
use lib.IntN.{ℤ}
use lib.ListN.{length}
use Rattle.forms.specs.Edition.{newest_edition}
use Rattle.forms.specs.Forms.{Line, lines}
use Rattle.answers.specs.declared.Answer.{Answer}
use Rattle.answers.specs.declared.WriteResult.{WriteResult}
use Rattle.answers.specs.Answers.{answer, file_a, file_b, Result, refused, accepted, ◌>>=◌, ◌>>◌, need, written}
use Rattle.answers.proofs.Results.{binds, bind-refused}
use Rattle.fields.specs.Header.{header_bytes}
use Rattle.fields.proofs.Headers.{length-header_bytes, given-some}
use Rattle.bundle.specs.Bundle.{Bundle, at_most, bundle, bundles, both_read}
use Rattle.bundle.proofs.Laid.{both-read-short}
use Rattle.bundle_scan.specs.Scan.{IsBundle, Scans}
use Rattle.bundle_scan.specs.declared.Body.{Body}
use Rattle.bundle_scan.specs.declared.Scanned.{Scanned}
use Rattle.std.specs.declared.result.Result as rust
use Rattle.std.specs.Prelude.{Option, Ok, Err}
use Rattle.answers.specs.declared.refusals.Fault.{Fault}
use Rattle.answers.specs.Refusals.{number_of}
use Rattle.bundle_scan.proofs.Bodies as bodies
use Rattle.bundle_scan.proofs.Scanning.{scanned-bundle}
use Rattle.enumeration.specs.Sequence.{short_proofs, short_proofs_of}
use Rattle.enumeration.specs.Next.{next_file, next_proof}
use Rattle.enumeration.specs.Numbering.{begins}
use Rattle.enumeration.specs.Search.{Found, found_file}
use Rattle.enumeration.proofs.FoundFile.{told-not-among, told-first, told-next}
use Rattle.enumeration.specs.Promises.{WritesNext}
use Rattle.lines.specs.Buffer.{lines_in}
use Rattle.bundle_load.specs.Both.{stated_in, Both, Prepared}
use Rattle.check_output.proofs.Delivering.{unwritten}
use Rattle.enumeration_rows.proofs.RecognisedRows.{begins-longer}
use Rattle.enumeration_rows.specs.declared.found.Rows.{Rows}
use Rattle.enumeration_rows.specs.declared.found.NotAmong.{NotAmong}
use Rattle.enumeration_rows.specs.Searching.{found_of, FindsAny}
use Rattle.enumeration_rows.specs.Delivered.{WritesFound}
use Rattle.enumeration_find.specs.Finding.{found_behind, found_for}
use Rattle.enumerate.specs.Limits.{BothWithinLimits}

-- ---- the bundles
abbrev bundle_of : List ℕ → ℕ → Body → Bundle
bundle_of s K body = record { edition = body.edition; K = K; constraints = stated_in s K body }

b-is : {B : List ℕ} {second : Body} {K : ℕ} → 1 ≤ K → IsBundle K B K second → bundle 2 file_b (some K) B ≡ accepted (bundle_of B K second)
b-is {K} h b = rw (← given-some K h) (bodies.states b file_b)

pub list-long-A : (A B : List ℕ) → 8192 < length A → short_proofs A B ≡ refused (answer 1 1 0)
unfolding short_proofs both_read at_most need ◌>>◌ ◌>>=◌
list-long-A A B h = rw (lt-leb (length A) 8192 h)

pub list-long-B : (A B : List ℕ) → length A ≤ 8192 → 8192 < length B → short_proofs A B ≡ refused (answer 1 2 0)
unfolding short_proofs both_read at_most need ◌>>◌ ◌>>=◌
list-long-B A B a h = rw (le-leb (length A) 8192 a, lt-leb (length B) 8192 h)

module _ {A B : List ℕ} where
  pub nexts-refused : {table out : List ℕ} {number file place : ℕ} {r : WriteResult} → short_proofs A B ≡ refused (answer number file place) → r ≡ unwritten number file place → WritesNext A B table out out r
  unfolding next_proof next_file written ◌>>=◌
  nexts-refused e q = record { is = rw (e, q) }

  module _ (s : BothWithinLimits A B) where
    short-reading : both_read newest_edition A B ≡ bundles 2 A B
    short-reading = both-read-short newest_edition A B s.a s.b

    refused-A : {x : Answer} → bundle 2 file_a none A ≡ refused x → short_proofs A B ≡ refused x
    unfolding short_proofs bundles
    refused-A e = bind-refused _ (short-reading ∙ bind-refused _ e)

    refused-B : {first : Body} {K : ℕ} → IsBundle 0 A K first → {x : Answer} → bundle 2 file_b (some K) B ≡ refused x → short_proofs A B ≡ refused x
    unfolding short_proofs bundles
    refused-B a e = bind-refused _ (short-reading ∙ binds _ (bodies.states a file_a) ∙ bind-refused _ e)

    module _ {first second : Body} {K : ℕ} (w : Both A B first second K) where
      read-both : both_read newest_edition A B ≡ accepted (bundle_of A K first, bundle_of B K second)
      unfolding bundles
      read-both = short-reading ∙ binds _ (bodies.states w.a file_a) ∙ binds _ (b-is w.low w.b)

      counted : length (stated_in A K first) + length (stated_in B K second) ≡ first.count + second.count
      counted = omega (arith, bodies.count_is w.a, bodies.count_is w.b)

      pub list-fifth : 4 < first.count + second.count → short_proofs A B ≡ refused (answer 8 4 0)
      unfolding short_proofs need ◌>>◌
      list-fifth h = binds _ read-both ∙ rw (lt-leb (length (stated_in A K first) + length (stated_in B K second)) 4 (omega (arith, counted)))

      list-is : first.count + second.count ≤ 4 → short_proofs A B ≡ accepted (K, short_proofs_of (lines (stated_in A K first) (stated_in B K second)))
      unfolding short_proofs need ◌>>◌
      list-is h = binds _ read-both ∙ rw (le-leb (length (stated_in A K first) + length (stated_in B K second)) 4 (omega (arith, counted)))

      -- what is told of a table
      told-found : first.count + second.count ≤ 4 → (given : List ℕ) → next_file A B given ≡ found_file K (found_for K given (lines (stated_in A K first) (stated_in B K second)))
      told-found h given = go (begins (header_bytes 1 K) given) refl (eqb (length given) 8) refl
        where
          ls : List Line
          ls = lines (stated_in A K first) (stated_in B K second)

          long : begins (header_bytes 1 K) given ≡ true → 8 ≤ length given
          long e = omega (arith, begins-longer (header_bytes 1 K) given (subst T (sym e) tt), length-header_bytes 1 K)

          go : (b : Bool) → begins (header_bytes 1 K) given ≡ b → (d : Bool) → eqb (length given) 8 ≡ d → next_file A B given ≡ found_file K (found_behind b d given (lines (stated_in A K first) (stated_in B K second)))
          go false e d q = told-not-among A B given K (lines (stated_in A K first) (stated_in B K second)) (list-is h) e
          go true e true q = told-first A B given K (lines (stated_in A K first) (stated_in B K second)) (list-is h) (subst T (sym e) tt) (eqb-true (length given) 8 q)
          go true e false q = told-next A B given K (lines (stated_in A K first) (stated_in B K second)) (list-is h) (subst T (sym e) tt) (long e) (eqb-false (length given) 8 q)

      pub nexts-told : {n : ℕ} {given out out' : List ℕ} {kinds : List ℕ} {buf : List ℤ} {kinds' : List ℕ} {buf' : List ℤ} {found : rust.Result (Option Rows) NotAmong} {r : WriteResult} → n ≡ first.count + second.count → n ≤ 4
          → Prepared A B first second K kinds buf → FindsAny K n (found_for K given (lines_in K kinds buf n)) kinds buf kinds' buf' found → WritesFound K (found_of n found) out out' r → WritesNext A B given out out' r
      unfolding next_proof
      nexts-told {n} {given} {out} {kinds = kinds} {buf = buf} e h p s t = record {
        is = t.is
            ∙ ap (λ (f : Found). written (found_file K f) out) (s.is ∙ ap (λ (n : ℕ). found_for K given (lines_in K kinds buf n)) e ∙ ap (found_for K given) p.lines_are)
            ∙ ap (λ (x : Result (List ℕ)). written x out) (sym (told-found (omega arith) given));
      }

-- ---- what the scans tell
module _ {A : List ℕ} {r : rust.Result Scanned Fault} (a : Scans 0 A 0 r) where
  pub list-unscanned-A : {B : List ℕ} {e : Fault} → BothWithinLimits A B → r ≡ Err e → short_proofs A B ≡ refused (answer (number_of e.refusal) 1 e.place)
  list-unscanned-A s e = refused-A s ((rw e at a.by) file_a)

  module _ {x : Scanned} (e : r ≡ Ok x) {B : List ℕ} {q : rust.Result Scanned Fault} (b : Scans x.k B 0 q) where
    pub list-unscanned-B : {e : Fault} → BothWithinLimits A B → q ≡ Err e → short_proofs A B ≡ refused (answer (number_of e.refusal) 2 e.place)
    list-unscanned-B s f =
        let is-A = (scanned-bundle a e).0 in
        refused-B s is-A (rw (given-some x.k (bodies.low is-A)) at ((rw f at b.by) file_b))
