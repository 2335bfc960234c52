-- What is declared in front of the first item of a file.
use Rattle.std.proofs.Common.{◌≡◌, ◌∙◌, ◌<◌, ◌≤◌, ◌+◌, ℕ, Bool, List, [], drop, length, get_or, sym, ap, Result, Ok, Err, OnOk}
use Rattle.std.proofs.lemmas.List.{drop_all}
use Rattle.cbase.specs.declared.abi.Abi.{Abi}
use Rattle.cbase.specs.declared.no_memory.NoMemory.{NoMemory}
use Rattle.typing.specs.environment.BuiltIns.{built_ins}
use Rattle.typing.specs.environment.Environment.{name_defined, scope_entered, strict_set}
use Rattle.expressions.specs.Context.{Context, declared, Agrees}
use Rattle.expressions.specs.Numbers.{Numbering}
use Rattle.expressions.proofs.Loops.{next_item}
use Rattle.items.specs.Begun.{HasMore, all_defined, at_first, begun, built_ins_declared}

-- names of which so many are known to be defined
abbrev pub Defining : List (List ℕ) → Context → Context → ℕ → Type 0
Defining names old context index =
    record context { environment = all_defined (drop index names) context.environment } ≡ record old { environment = all_defined names old.environment }

pub defining_next : (names : List (List ℕ)) (old mid new : Context) (index : ℕ) (name text : List ℕ) → index < length names → name ≡ get_or names index name → text ≡ name
    → new ≡ record mid { environment = name_defined text mid.environment } → Defining names old mid index → Defining names old new (index + 1)
defining_next names old mid new index name text within is same defines before =
    ap (λ (c : Context). record c { environment = all_defined (drop (index + 1) names) c.environment }) defines
    ∙ (ap (λ (t : List ℕ). record mid { environment = all_defined (drop (index + 1) names) (name_defined t mid.environment) }) same
    ∙ (ap (λ (these : List (List ℕ)). record mid { environment = all_defined these mid.environment }) (sym (next_item names index name within is)) ∙ before))

pub defining_end : (names : List (List ℕ)) (old new : Context) (index : ℕ) → length names ≤ index → Defining names old new index → new ≡ record old { environment = all_defined names old.environment }
defining_end names old new index past defines =
    ap (λ (these : List (List ℕ)). record new { environment = all_defined these new.environment }) (sym (drop_all index names past)) ∙ defines

module _ (abi : Abi) (strict : Bool) (bodied defined : List (List ℕ)) (first set known around last : Context) (is : first ≡ at_first)
    (sets : set ≡ record first { environment = strict_set strict first.environment })
    (knows : known ≡ record set { environment = all_defined defined set.environment })
    (opens : around ≡ record known { environment = scope_entered known.environment }) where
  opened : around ≡ record at_first { environment = scope_entered (all_defined defined (strict_set strict at_first.environment)) }
  opened = opens
      ∙ (ap (λ (c : Context). record c { environment = scope_entered c.environment }) knows
      ∙ (ap (λ (c : Context). record c { environment = scope_entered (all_defined defined c.environment) }) sets
      ∙ ap (λ (c : Context). record c { environment = scope_entered (all_defined defined (strict_set strict c.environment)) }) is))

  begun_there : HasMore bodied (built_ins abi) around last → (n : Numbering) → Agrees n last → declared last ≡ begun n abi strict bodied defined
  begun_there declares n agrees =
      let structs : last.structs ≡ [] = declares.structs ∙ ap (λ (c : Context). c.structs) opened in
      λ i. record {
        environment = (declares.declares n agrees ∙ ap (λ (c : Context). built_ins_declared n bodied (built_ins abi) c.environment) opened) i;
        structs = structs i;
      }

  pub begun_result : (r : Result (Unit {0}) NoMemory) → OnOk r (HasMore bodied (built_ins abi) around last)
      → (n : Numbering) → OnOk r (Agrees n last → declared last ≡ begun n abi strict bodied defined)
  begun_result (Ok told) declares n = λ agrees. begun_there declares n agrees
  begun_result (Err error) declares n = tt

  pub handed_result : (r : Result (Unit {0}) NoMemory) → OnOk r (HasMore bodied (built_ins abi) around last) → OnOk r (last.handed ≡ [])
  handed_result (Ok told) declares = declares.handed ∙ ap (λ (c : Context). c.handed) opened
  handed_result (Err error) declares = tt
