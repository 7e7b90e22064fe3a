-- What is printed of an answer, over plain values. Assumes nothing.
use Prim.Native.Nat.{ℕ, ◌+◌, ◌*◌, ◌≤◌, ◌<◌}
use mathlib.Core.Path.{◌≡◌, refl, subst}
use mathlib.Core.List.{List, [], ◌∷◌, ◌++◌}
use native.Mathlib.Omega.{arith}
use lib.ListN.{length, take, length-append}
use Rattle.files.specs.Text.{Put, PutNumber, PutRefused, RefusedLine, ascii, hex_of}
use Rattle.files.proofs.Texts.{both, uncut}
use Rattle.answer_text.specs.Lines.{AcceptedLines, AnswerLines, PutAccepted}

-- ---- the lines of an acceptance
hex-length : (bytes : List ℕ) → length (hex_of bytes) ≡ length bytes * 2
unfolding hex_of
hex-length [] = refl
hex-length (b ∷ bytes) = omega (arith, hex-length bytes)

pub accepted-put : {was one two three is : List ℕ} {r s t u : ℕ} (bytes : List ℕ) → PutNumber was 0 (ascii "accepted ") (length bytes) one r → Put one r (ascii "\n") two s → Put two s (hex_of bytes) three t → Put three t (ascii "\n") is u → PutAccepted was bytes is u
accepted-put bytes n e h l =
    let first = ascii "accepted " ++ n.text ++ ascii "\n" in
    record {
      lines = first ++ hex_of bytes ++ ascii "\n";
      acceptance = record { count_text = n.text; count_is = n.decimal; is = refl };
      few = omega (arith, length-append (first ++ hex_of bytes) (ascii "\n"), length-append first (hex_of bytes), length-append (ascii "accepted " ++ n.text) (ascii "\n"), length-append (ascii "accepted ") n.text, n.few, hex-length bytes);
      put = both (both (both n.put e) h) l;
    }

-- ---- what is printed
module _ {was text : List ℕ} {r : ℕ} where
  pub prints-refusal : {number file place : ℕ} {bytes : List ℕ} → 79 ≤ length was → 0 < number → PutRefused was number file place text r → AnswerLines number file place bytes (take r text)
  prints-refusal {number} {file} {place} room h p =
      let s : RefusedLine number file place (take r text) = subst (λ (s : List ℕ). RefusedLine number file place s) (uncut p.put (omega (arith, p.few))) p.refusal in
      record { if-accepted = λ e. absurd (omega arith); if_refused = λ _. s }

  pub prints-acceptance : {number file place : ℕ} {bytes : List ℕ} → length bytes * 2 + 31 ≤ length was → number ≡ 0 → PutAccepted was bytes text r → AnswerLines number file place bytes (take r text)
  prints-acceptance {bytes = bytes} room e p =
      let s : AcceptedLines bytes (take r text) = subst (λ (s : List ℕ). AcceptedLines bytes s) (uncut p.put (omega (arith, p.few))) p.acceptance in
      record { if-accepted = λ _. s; if_refused = λ h. absurd (omega arith) }
