-- What a call answers says which fault is met.
use Rattle.std.proofs.Common.{◌≡◌, ◌∙◌, ℕ, Bool, List, Option, None, Some, refl, sym, ap, subst}
use Rattle.std.specs.Prelude.{Result, Ok, Err, OnOk}
use Rattle.cbase.specs.declared.place.Place.{Place}
use Rattle.bytes_core.specs.declared.block.Block.{Block}
use Rattle.bytes_core.specs.declared.word.Word.{Word}
use Rattle.bytes_core.specs.Access.{loaded}
use Rattle.bytes_core.specs.Answer.{answer}
use Rattle.c_machine.specs.declared.kind.Kind.{Kind}
use Rattle.choices.specs.declared.choice.Choice.{Choice}
use Rattle.c_machine.specs.State.{State, Outcome, Went, Faulted, unless_fault}
use Rattle.c_machine.specs.Words.{is_pointer}

pub faulted : {T E S I : Type 0} (fault : Option ℕ) (value : T) (kind : ℕ) (place : Place) (onward : Outcome E S I) →
    Err kind ≡ answer fault value → unless_fault fault place onward ≡ Faulted kind place
faulted None value kind place onward is = absurd cc
faulted (Some other) value kind place onward is = cc

pub passed : {T E S I : Type 0} (fault : Option ℕ) (value found : T) (place : Place) (onward : Outcome E S I) →
    Ok found ≡ answer fault value → unless_fault fault place onward ≡ onward
passed None value found place onward is = refl
passed (Some other) value found place onward is = absurd cc

pub answered : {T : Type 0} (fault : Option ℕ) (value found : T) → Ok found ≡ answer fault value → found ≡ value
answered None value found is = cc
answered (Some other) value found is = absurd cc

pub fault_met : {T : Type 0} (fault : Option ℕ) (value : T) (kind : ℕ) → Err kind ≡ answer fault value → fault ≡ Some kind
fault_met None value kind is = absurd cc
fault_met (Some other) value kind is = cc

pub no_fault : {T : Type 0} (fault : Option ℕ) (value found : T) → Ok found ≡ answer fault value → fault ≡ None
no_fault None value found is = refl
no_fault (Some other) value found is = absurd cc

pub loaded_as : (fault : Option ℕ) (memory : List Block) (at : Word) (bytes : ℕ) (kind : Kind) (pointer : Bool) (found : Word) → pointer ≡ is_pointer kind →
    Ok found ≡ answer fault (loaded memory at bytes pointer) → found ≡ loaded memory at bytes (is_pointer kind)
loaded_as fault memory at bytes kind pointer found same is =
    answered fault (loaded memory at bytes pointer) found is ∙ ap (loaded memory at bytes) same

pub never_answered : {T : Type 0} (fault : Option ℕ) (value : T) (kind : ℕ) → fault ≡ None → Err kind ≡ answer fault value → ⊥
never_answered None value kind free is = absurd cc
never_answered (Some other) value kind free is = absurd cc

-- the step went on
pub went_unless : {T E S I : Type 0} (fault : Option ℕ) (value found : T) (place : Place) (new next : State E S I) (choices : List Choice) →
    new ≡ next → Ok found ≡ answer fault value → Went new choices ≡ unless_fault fault place (Went next choices)
went_unless {T} {E} {S} {I} fault value found place new next choices same is =
    ap (λ (state : State E S I). Went state choices) same ∙ sym (passed fault value found place (Went next choices) is)

-- what a call ensures where it succeeds
pub on_ok : {T R : Type 0} {P : Type 0} (result : Result T R) (found : T) → result ≡ Ok found → OnOk result P → P
on_ok {T} {R} {P} result found is holds = subst (λ (one : Result T R). OnOk one P) is holds
