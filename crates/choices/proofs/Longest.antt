-- Contents of 65,536 bytes, with a digit behind them.
use Rattle.std.proofs.Common.{◌≡◌, ℕ, ◌+◌, ◌*◌, ◌<◌, ◌≤◌, ◌==◌, true, List, [], ◌∷◌, ◌++◌, length, take, get_or, codes, refl, ap, ◌∙◌, subst, length-append, arith, nat_le, le-leb, Option, is_some, if◌then◌else◌}
use Rattle.std.specs.List.{All, flat_map}
use Rattle.std.proofs.lemmas.Bool.{cond-true, cond-false, ne_eqb}
use Rattle.std.proofs.Math.Seq.{take-append_seam}
use Rattle.choices.specs.declared.part.Part.TheVariants.{Contents, Whole}
use Rattle.choices.specs.declared.part.Step.{Step}
use Rattle.choices.specs.declared.part.Step.TheVariants.{Refuse}
use Rattle.choices.specs.declared.refusal.Refusal.TheVariants as refusal
use Rattle.choices.specs.declared.refusal.ReadChoices.TheVariants.{Refused}
use Rattle.choices.specs.Format.{AreContents, two_digits}
use Rattle.choices.specs.Reading.{goes_on, hex_value, whole_step, whole_refusal}
use Rattle.choices.specs.Run.{Goes, Stops, after, step, run, start}
use Rattle.choices.specs.Answers.{IsAnswer, IsRefusal, is_hexadecimal}
use Rattle.choices.proofs.Fronts.{run_then}
use Rattle.choices.proofs.Complete.{reading, filled_run}
use Rattle.choices.proofs.Refusals.{HasValue, has_value, length_digits, refused}

-- full contents take no digit more
stops : (base byte : ℕ) (bytes : List ℕ) → length bytes ≡ 65536 → HasValue byte → step (reading [] (Whole base) bytes) byte ≡ Stops
stops base byte bytes full h =
    let above : 48 ≤ byte = h.above in
    let none : whole_step base (nat_le 65536 (length bytes)) byte ≡ Refuse =
    cond-false (byte == 10) _ _ (ne_eqb byte 10 (λ same. omega arith))
    ∙ cond-true (nat_le 65536 (length bytes)) _ (goes_on _ (hex_value byte)) (le-leb 65536 (length bytes) (omega arith)) in
    ap (λ (s : Step). after (reading [] (Whole base) bytes) s) none

filled : (bytes : List ℕ) → 0 < length bytes → AreContents bytes → run start (codes "block 16 " ++ flat_map two_digits bytes) ≡ Goes (reading [] (Whole 16) bytes)
filled [] some are = absurd (omega arith)
filled (byte ∷ bytes) some are = run_then start (codes "block 16 ") (flat_map two_digits (byte ∷ bytes)) (reading [] (Contents 16) []) _ refl (filled_run [] 16 byte bytes are)

at_seam : (xs : List ℕ) (y : ℕ) (ys : List ℕ) → get_or (xs ++ y ∷ ys) (length xs) 0 ≡ y
at_seam [] y ys = refl
at_seam (x ∷ xs) y ys = at_seam xs y ys

pub one_byte_more : (bytes rest : List ℕ) (byte : ℕ) → length bytes ≡ 65536 → All (λ byte. byte < 256) bytes → is_hexadecimal byte ≡ true
    → IsAnswer ((codes "block 16 " ++ flat_map two_digits bytes) ++ byte ∷ rest) (Refused (refusal.TooLong 131081))
one_byte_more bytes rest byte full all digit =
    let front = codes "block 16 " ++ flat_map two_digits bytes in
    let text = front ++ byte ∷ rest in
    let h = has_value byte digit in
    let are : AreContents bytes = record { are_bytes = all; few = omega arith } in
    let digits : length (flat_map two_digits bytes) ≡ 2 * length bytes = length_digits bytes in
    let long : length front ≡ 131081 = length-append (codes "block 16 ") (flat_map two_digits bytes) ∙ omega arith in
    let whole : length text ≡ length front + length (byte ∷ rest) = length-append front (byte ∷ rest) in
    let before : take (length front) text ≡ front = take-append_seam front (byte ∷ rest) in
    let here : get_or text (length front) 0 ≡ byte = at_seam front byte rest in
    let reader = reading [] (Whole 16) bytes in
    let goes = ap (λ (w : List ℕ). run start w) before ∙ filled bytes (omega arith) are in
    let stopped = ap (λ (b : ℕ). step reader b) here ∙ stops 16 byte bytes full h in
    let is : IsRefusal text (whole_refusal (get_or text (length front) 0) (length front)) = refused text (length front) reader goes (omega arith) stopped in
    let named : whole_refusal (get_or text (length front) 0) (length front) ≡ refusal.TooLong 131081 =
    ap (λ (b : ℕ). whole_refusal b (length front)) here
    ∙ ap (λ (o : Option ℕ). if is_some o then refusal.TooLong (length front) else refusal.Contents (length front)) h.is
    ∙ ap (λ (n : ℕ). refusal.TooLong n) long in
    subst (λ r. IsRefusal text r) named is
