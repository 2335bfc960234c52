-- Roots are found one behind the other.
use Rattle.std.proofs.Common.{◌≡◌, ℕ, ◌+◌, ◌≤◌, List, [], ◌∷◌, ◌++◌, length, drop, refl, sym, ap, ◌∙◌, append_assoc}
use Rattle.std.proofs.lemmas.List.{append-nil}
use Rattle.std.specs.List.{flat_map}
use Rattle.bytes_core.specs.declared.word.Word.{Word}
use Rattle.bytes_core.specs.declared.word.Word.TheVariants.{Plain, To}
use Rattle.c_machine.specs.State.{Scope, Frame, blocks_of, objects_of, led_to}
use Rattle.c_steps.proofs.Behind.{none_left}
use Rattle.c_steps.proofs.Names.{blocks_of-append}

pub with_scope : (roots : List ℕ) (scope : Scope) (rest : Frame) →
    (roots ++ blocks_of scope) ++ blocks_of (objects_of rest) ≡ roots ++ blocks_of (objects_of (scope ∷ rest))
with_scope roots scope rest =
    append_assoc roots (blocks_of scope) (blocks_of (objects_of rest)) ∙ ap (λ (more : List ℕ). roots ++ more) (sym (blocks_of-append scope (objects_of rest)))

pub with_frame : (roots : List ℕ) (frame : Frame) (rest : List Frame) →
    (roots ++ blocks_of (objects_of frame)) ++ blocks_of (flat_map objects_of rest) ≡ roots ++ blocks_of (flat_map objects_of (frame ∷ rest))
with_frame roots frame rest =
    append_assoc roots (blocks_of (objects_of frame)) (blocks_of (flat_map objects_of rest))
    ∙ ap (λ (more : List ℕ). roots ++ more) (sym (blocks_of-append (objects_of frame) (flat_map objects_of rest)))

led_apart : (operand : Word) (rest : List Word) → led_to (operand ∷ []) ++ led_to rest ≡ led_to (operand ∷ rest)
led_apart (Plain number) rest = refl
led_apart (To block offset) rest = refl

pub with_operand : (roots : List ℕ) (operand : Word) (rest : List Word) → (roots ++ led_to (operand ∷ [])) ++ led_to rest ≡ roots ++ led_to (operand ∷ rest)
with_operand roots operand rest =
    append_assoc roots (led_to (operand ∷ [])) (led_to rest) ∙ ap (λ (more : List ℕ). roots ++ more) (led_apart operand rest)

-- a turn of a loop over a row, and its end: the roots that are found with those of what is left of the row are the same at each turn
pub one_further : {X : Type 0} (found : List X → List ℕ) (roots more start new : List ℕ) (row : List X) (at : ℕ) (item : X) →
    drop at row ≡ item ∷ drop (at + 1) row → more ≡ roots ++ new → (roots ++ new) ++ found (drop (at + 1) row) ≡ roots ++ found (item ∷ drop (at + 1) row) →
    roots ++ found (drop at row) ≡ start → more ++ found (drop (at + 1) row) ≡ start
one_further {X} found roots more start new row at item left more_is apart before =
    ap (λ (both : List ℕ). both ++ found (drop (at + 1) row)) more_is ∙ (apart ∙ (ap (λ (rest : List X). roots ++ found rest) (sym left) ∙ before))

pub all_found : {X : Type 0} (found : List X → List ℕ) (roots start : List ℕ) (row : List X) (at : ℕ) → length row ≤ at → found [] ≡ [] →
    roots ++ found (drop at row) ≡ start → roots ≡ start
all_found {X} found roots start row at past none before =
    sym (append-nil roots) ∙ (ap (λ (rest : List ℕ). roots ++ rest) (sym (ap found (none_left row at past) ∙ none)) ∙ before)
