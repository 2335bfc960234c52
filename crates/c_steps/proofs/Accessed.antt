-- What accesses come to, from what their parts answer.
use Rattle.std.proofs.Common.{◌≡◌, ℕ, List, Option, None, Some, sym, ap, ◌∙◌}
use Rattle.cbase.specs.declared.place.Place.{Place}
use Rattle.bytes_core.specs.declared.block.Block.{Block}
use Rattle.bytes_core.specs.declared.word.Word.{Word}
use Rattle.bytes_core.specs.Access.{access_fault, loaded}
use Rattle.choices.specs.declared.choice.Choice.{Choice}
use Rattle.c_machine.specs.declared.kind.Kind.{Kind}
use Rattle.c_machine.specs.State.{State, Went, popped, unless_fault, with_operand}
use Rattle.c_machine.specs.Step.{load_step}
use Rattle.c_machine.specs.Words.{is_pointer, scalar_bytes}

pub load_went : {E S I : Type 0} (place : Place) (kind : Kind) (bytes : ℕ) (at word : Word) (memory : List Block) (old state new : State E S I)
    (choices : List Choice) → old ≡ with_operand at state → Some bytes ≡ scalar_bytes kind → memory ≡ state.memory → access_fault memory at bytes ≡ None →
    word ≡ loaded memory at bytes (is_pointer kind) → new ≡ with_operand word state →
    Went new choices ≡ popped old (λ at after. load_step place kind (scalar_bytes kind) at after choices)
load_went {E} {S} {I} place kind bytes at word memory old state new choices old_is bytes_is memory_is fault word_is new_is =
    ap (λ (next : State E S I). Went next choices)
    (new_is ∙ ap (λ (value : Word). with_operand value state) (word_is ∙ ap (λ (blocks : List Block). loaded blocks at bytes (is_pointer kind)) memory_is))
    ∙ (ap (λ (found : Option ℕ). unless_fault found place (Went (with_operand (loaded state.memory at bytes (is_pointer kind)) state) choices))
    (sym fault ∙ ap (λ (blocks : List Block). access_fault blocks at bytes) memory_is)
    ∙ (ap (λ (found : Option ℕ). load_step place kind found at state choices) bytes_is
    ∙ ap (λ (before : State E S I). popped before (λ at after. load_step place kind (scalar_bytes kind) at after choices)) (sym old_is)))
