-- What is accepted for every cut, and walked through, is one uniform table that derives every guard. Assumes nothing.
use mathlib.Core.Path.{◌≡◌, refl, sym, ◌∙◌, ap, subst}
use mathlib.Core.Option.{Option, some}
use mathlib.Core.Bool.{Bool, true, false, cond}
use mathlib.Core.List.{List, [], ◌∷◌}
use Prim.Native.Nat.{ℕ, zero, suc, ◌+◌, ◌≤◌}
use native.Mathlib.Omega.{arith}
use lib.Dec.{T, leb, eqb}
use lib.ListN.{length}
use Rattle.forms.specs.Edition.{edition, edition1}
use Rattle.forms.specs.Forms.{Formula}
use Rattle.calculus.specs.Rules.{Entry, Proves}
use Rattle.answers.specs.declared.Answer.{Answer}
use Rattle.answers.specs.Answers.{root, file_proof, Result, refused, accepted}
use Rattle.answers.proofs.Results.{given, Gives, gives-refused, gives-accepted, bind, binds}
use Rattle.fields.specs.declared.FileKind.{FileKind}
use Rattle.fields.specs.Fields.{Fields, Item, item, items}
use Rattle.fields.proofs.HeaderLaid.{header_read}
use Rattle.bundle.specs.Layout.{Each}
use Rattle.bundle.proofs.Laid.{listed}
use Rattle.proof.specs.Layout.{Enters}
use Rattle.proof.proofs.Agree.{Proof, proof-gives, agrees-refl}
use Rattle.chains.specs.Runs.{Uniform, Run, up_to, beyond, Guards}
use Rattle.run.specs.Uniform.{with_number, Walked, walk_branch, uniform}
use Rattle.run.specs.Run.{side, claim_refused, check_cut, both, check_cuts, check_run}
use Rattle.run.specs.Layout.{guard_at}
use Rattle.run_laws.proofs.WalkedUniform.{entered-once, walk-uniform}
use Rattle.run_laws.proofs.WalkNumbers.{uniform-gives}

-- ---- the refusal that comes first
either : (b : Bool) (x y : Answer) → T (given x.number) → T (given y.number) → T (given (cond b x y).number)
either true x y t u = t
either false x y t u = u

module _ {X Y : Type 0} {P : X → Type 0} {Q : Y → Type 0} where
  pub both-gives : {r : Result X} {s : Result Y} → Gives r P → Gives s Q → Gives (both r s) (λ (x, y). P x × Q y)
  unfolding both
  both-gives {r = refused a} {s = refused b} g h = gives-refused _ (either (leb a.place b.place) a b (g.refusal a refl) (h.refusal b refl))
  both-gives {r = refused a} {s = accepted y} g h = gives-refused a (g.refusal a refl)
  both-gives {r = accepted x} {s = refused b} g h = gives-refused b (h.refusal b refl)
  both-gives {r = accepted x} {s = accepted y} g h = gives-accepted (g.gives x refl, h.gives y refl)

pub claim-gives : {X : Type 0} {P : X → Type 0} {r : Result X} → Gives r P → Gives (claim_refused r) P
unfolding claim_refused with_number
claim-gives {r = refused a} g = gives-refused _ (either (eqb a.number 14) (with_number 27 a) a tt (g.refusal a refl))
claim-gives {r = accepted x} g = gives-accepted (g.gives x refl)

module _ (newest K : ℕ) (Ts : Run) (fs : Fields) where
  -- ---- the cuts
  abbrev CutProof : ℕ → Formula → Type 0
  CutProof i I = Proof newest (side K (up_to Ts i)) (side K (beyond Ts i)) fs I

  cut-gives : (i : ℕ) → Gives (check_cut newest K Ts fs i) (CutProof i)
  unfolding check_cut
  cut-gives i = claim-gives (proof-gives newest (side K (up_to Ts i)) (side K (beyond Ts i)) fs)

  -- the cuts i to i+n
  pub record CutsAs (i n : ℕ) (Is : List Formula) : Type 0 where
    pub count : length Is ≡ suc n
    pub each : (j : ℕ) → j ≤ n → CutProof (i + j) (guard_at Is j)

  first-cut : (i : ℕ) (I : Formula) (Is : List Formula) → CutProof i I → CutProof (i + 0) (guard_at (I ∷ Is) 0)
  unfolding guard_at
  first-cut i I Is p = let q : i ≡ i + 0 = omega arith in subst (λ (j : ℕ). CutProof j I) q p

  later-cut : (i j : ℕ) (I : Formula) (Is : List Formula) → CutProof (suc i + j) (guard_at Is j) → CutProof (i + suc j) (guard_at (I ∷ Is) (suc j))
  unfolding guard_at
  later-cut i j I Is p = let q : suc i + j ≡ i + suc j = omega arith in subst (λ (m : ℕ). CutProof m (guard_at Is j)) q p

  one-cut : (i : ℕ) (I : Formula) → CutProof i I → (j : ℕ) → j ≤ 0 → CutProof (i + j) (guard_at (I ∷ []) j)
  one-cut i I p zero h = first-cut i I [] p
  one-cut i I p (suc j) h = absurd (omega arith)

  more-cuts : (i n : ℕ) (I : Formula) (Is : List Formula) → CutProof i I → CutsAs (suc i) n Is → (j : ℕ) → j ≤ suc n → CutProof (i + j) (guard_at (I ∷ Is) j)
  more-cuts i n I Is p c zero h = first-cut i I Is p
  more-cuts i n I Is p c (suc j) h = later-cut i j I Is (c.each j (omega arith))

  cuts-give : (i n : ℕ) → Gives (check_cuts newest K Ts fs i n) (CutsAs i n)
  unfolding check_cuts
  cuts-give i zero = bind (cut-gives i) λ I p. gives-accepted (record { count = refl; each = one-cut i I p })
  cuts-give i (suc n) = bind (both-gives (cut-gives i) (cuts-give (suc i) n)) λ (I, Is) (p, c). gives-accepted (record { count = ap suc c.count; each = more-cuts i n I Is p c })

  -- ---- a proof of a cut that is walked through is uniform
  record UniformProof (n : ℕ) (es : List Entry) (i : ℕ) (I : Formula) : Type 0 where
    proves : Proves (edition n) (up_to Ts i) (beyond Ts i) es I
    uniform : Uniform proves.proof

  walked-uniform : {w : Walked} → uniform newest K fs ≡ accepted w → (i : ℕ) (I : Formula) (p : CutProof i I) → UniformProof p.number p.es i I
  unfolding uniform
  walked-uniform {w} q i I p =
      let e = edition p.number in
      let h = header_read FileKind.Proof file_proof newest (some K) fs p.number K p.body p.whole p.first p.last p.low p.high (agrees-refl K) in
      let walked : walk_branch e K e.branchings root 0 h.after ≡ accepted w = sym (binds _ h.reads) ∙ q in
      let states = listed h.after h.rest (subst (Each (Enters e K) p.body) (sym p.proves.are) p.enters) in
      record { proves = p.proves; uniform = ((walk-uniform e K e.branchings root 0 _ _ I p.proves.proof [] h.after states).gives w walked).uniform }

  -- ---- one file has one edition and one table
  same-edition : (x : Option (List Item)) (n m : ℕ) (is js : List Item) → x ≡ some (item 0x01 (n ∷ []) ∷ item 0x02 (K ∷ []) ∷ is) → x ≡ some (item 0x01 (m ∷ []) ∷ item 0x02 (K ∷ []) ∷ js) → n ≡ m
  same-edition x n m is js p q =
      let e : item 0x01 (n ∷ []) ≡ item 0x01 (m ∷ []) = cc in
      let c : ◌≡◌ {A = List ℕ} (n ∷ []) (m ∷ []) = ap (λ (i : Item). i.contents) e in
      cc

  same_body : (x : Option (List Item)) (n m : ℕ) (is js : List Item) → x ≡ some (item 0x01 (n ∷ []) ∷ item 0x02 (K ∷ []) ∷ is) → x ≡ some (item 0x01 (m ∷ []) ∷ item 0x02 (K ∷ []) ∷ js) → is ≡ js
  same_body x n m is js p q = cc

  module _ (i j : ℕ) (I J : Formula) (p : CutProof i I) (q : CutProof j J) where
    one-edition : p.number ≡ q.number
    one-edition = same-edition (items fs) p.number q.number p.body q.body p.whole q.whole

    one_table : p.es ≡ q.es
    one_table =
        let enters : Each (Enters (edition q.number) K) q.body p.es =
        subst (λ (n : ℕ). Each (Enters (edition n) K) q.body p.es) one-edition
        (subst (λ (is : List Item). Each (Enters (edition p.number) K) is p.es) (same_body (items fs) p.number q.number p.body q.body p.whole q.whole) p.enters) in
        entered-once enters q.enters

    moved : UniformProof p.number p.es i I → UniformProof q.number q.es i I
    moved u = subst (λ (n : ℕ). UniformProof n q.es i I) one-edition (subst (λ (es : List Entry). UniformProof p.number es i I) one_table u)

  -- ---- the run
  pub record RunAs (Is : List Formula) : Type 0 where
    pub number : ℕ
    pub first : 1 ≤ number
    pub last : number ≤ newest
    pub es : List Entry
    pub body : List Item
    pub whole : items fs ≡ some (item 0x01 (number ∷ []) ∷ item 0x02 (K ∷ []) ∷ body)
    pub low : 1 ≤ K
    pub high : K ≤ edition1.constants
    pub enters : Each (Enters (edition number) K) body es
    pub count : length Is ≡ suc (length Ts)
    pub guards : Guards (edition number) Ts es (guard_at Is)

  module _ (Is : List Formula) (c : CutsAs 0 (length Ts) Is) {w : Walked} (q : uniform newest K fs ≡ accepted w) where
    cut_of : (i : ℕ) → i ≤ length Ts → CutProof i (guard_at Is i)
    cut_of i h = let q : 0 + i ≡ i = omega arith in subst (λ (m : ℕ). CutProof m (guard_at Is i)) q (c.each i h)

    abbrev root-cut : CutProof 0 (guard_at Is 0)
    root-cut = c.each 0 (omega arith)

    every_cut : (i : ℕ) → i ≤ length Ts → UniformProof root-cut.number root-cut.es i (guard_at Is i)
    every_cut i h = moved i 0 (guard_at Is i) (guard_at Is 0) (cut_of i h) root-cut (walked-uniform q i (guard_at Is i) (cut_of i h))

    run-as : RunAs Is
    run-as = record {
      number = root-cut.number;
      first = root-cut.first;
      last = root-cut.last;
      es = root-cut.es;
      body = root-cut.body;
      whole = root-cut.whole;
      low = root-cut.low;
      high = root-cut.high;
      enters = root-cut.enters;
      count = c.count;
      guards = record { proves = λ i h. (every_cut i h).proves; uniform = λ i h. (every_cut i h).uniform };
    }

  pub run-gives : Gives (check_run newest K Ts fs) RunAs
  unfolding check_run
  run-gives = bind (both-gives (cuts-give 0 (length Ts)) (uniform-gives newest K fs)) λ (Is, w) (c, q). gives-accepted (run-as Is c q)
