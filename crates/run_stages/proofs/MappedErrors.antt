-- A result whose error `map_err` makes another: what it was before. Assumes nothing.
use mathlib.Core.Path.{◌≡◌, refl, sym, ◌∙◌, ap}
use Rattle.std.specs.Prelude.{Ok, Err, MatchResult, IsErrAnd}
use Rattle.std.specs.declared.result.Result as code

pub mapped-ok : {T E D : Type 0} (P : E → D → Type 0) (r : code.Result T E) {m : code.Result T D} → MatchResult r (λ y. m ≡ Ok y) (λ e. IsErrAnd m (P e)) → {x : T} → m ≡ Ok x → r ≡ Ok x
mapped-ok P (Ok y) h {x} e =
    let z = sym h ∙ e in
    let q : y ≡ x = cc in
    ap Ok q
mapped-ok P (Err f) h e = absurd (rw e at h)

pub mapped-err : {T E D : Type 0} (P : E → D → Type 0) (r : code.Result T E) {m : code.Result T D} → MatchResult r (λ y. m ≡ Ok y) (λ e. IsErrAnd m (P e)) → {a : D} → m ≡ Err a → (e : E) × (r ≡ Err e) × (P e a)
mapped-err P (Ok y) h e = absurd (let z = sym h ∙ e in cc)
mapped-err P (Err f) h e = (f, refl, rw e at h)
