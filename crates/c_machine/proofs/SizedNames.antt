-- A name leads to a block of the size of its object.
use Rattle.std.proofs.Common.{◌≡◌, ℕ, List, [], ◌∷◌, ◌++◌, Bool, true, false, refl, ap, subst, ◌∙◌, ◌⊎◌, inl, inr, Option, None, Some}
use Rattle.std.specs.Prelude.{if◌then◌else◌}
use Rattle.std.specs.List.{flat_map}
use Rattle.std.proofs.lemmas.Bool.{eqb-true, false≢true}
use Rattle.bytes_core.specs.declared.block.Block.{Block}
use Rattle.c_machine.specs.declared.object.Object.{Object}
use Rattle.c_machine.specs.Fitting.{Each, IsLocalOf, IsStaticOf, HasBytes, HasItsSize}
use Rattle.c_machine.specs.RunStates.{DoNamesLeadToSizes}
use Rattle.c_machine.specs.State.{Scope, is_named, block_in, objects_of}
use Rattle.c_machine.specs.Text.{Text}
use Rattle.c_machine.specs.Trees.{text_of}
use Rattle.c_machine.proofs.FittingTasks.{each_both}
use Rattle.c_machine.proofs.StandingParts.{each_front}

-- an object of either kind
abbrev Either : Text → Object → Type 0
Either t object = IsLocalOf t object ⊎ IsStaticOf t object

wider : (Is Other : Object → Type 0) (memory : List Block) (scope : Scope) → ((object : Object) → Is object → Other object) → Each (HasItsSize Is memory) scope → Each (HasItsSize Other memory) scope
wider Is Other memory [] each have = tt
wider Is Other memory (variable ∷ rest) each have =
    let own : HasItsSize Is memory variable = have.0 in
    (record { object = own.object; is = each own.object own.is; token = own.token; bytes = own.bytes }, wider Is Other memory rest each have.1)

name_is : (token : Option ℕ) (name : ℕ) → is_named token name ≡ true → token ≡ Some name
name_is None name is = absurd (false≢true is)
name_is (Some other) name is = ap Some (eqb-true other name is)

found : (Is : Object → Type 0) (memory : List Block) (scope : Scope) (token block : ℕ) → Each (HasItsSize Is memory) scope → block_in scope token ≡ Some block →
    (object : Object) × (object.token ≡ Some token) × Is object × HasBytes memory block object.bytes
found Is memory [] token block have is = absurd cc
found Is memory (variable ∷ rest) token block have is = by_name (is_named variable.token token) refl is (found Is memory rest token block have.1)
  where
    by_name : (b : Bool) → is_named variable.token token ≡ b → (if b then Some variable.block else block_in rest token) ≡ Some block →
        (block_in rest token ≡ Some block → (object : Object) × (object.token ≡ Some token) × Is object × HasBytes memory block object.bytes) →
        (object : Object) × (object.token ≡ Some token) × Is object × HasBytes memory block object.bytes
    by_name true named is later =
        let own : HasItsSize Is memory variable = have.0 in
        let same : variable.block ≡ block = cc in
        (own.object, own.token ∙ name_is variable.token token named, own.is, subst (λ (number : ℕ). HasBytes memory number own.object.bytes) same own.bytes)
    by_name false named is later = later is

pub names_lead_to_sizes : DoNamesLeadToSizes
names_lead_to_sizes p state token block fits is =
    found (Either (text_of p)) state.memory (objects_of state.frame ++ state.statics) token block
    (each_both (HasItsSize (Either (text_of p)) state.memory) (objects_of state.frame) state.statics
    (wider (IsLocalOf (text_of p)) (Either (text_of p)) state.memory (objects_of state.frame) (λ object own. inl own)
    (each_front (HasItsSize (IsLocalOf (text_of p)) state.memory) (objects_of state.frame) (flat_map objects_of state.callers) fits.objects))
    (wider (IsStaticOf (text_of p)) (Either (text_of p)) state.memory state.statics (λ object own. inr own) fits.statics)) is
