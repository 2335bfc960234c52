-- What names stand for in front of a text.
use Rattle.std.proofs.Common.{◌≡◌, ℕ, List, [], ◌∷◌, Option, None, Some, refl, ap, ◌∙◌}
use Rattle.std.specs.Prelude.{Bool, true, false, not, is_some, option_map, if◌then◌else◌}
use Rattle.std.specs.Str.{bytes_eq}
use Rattle.std.proofs.lemmas.Slice.Eq.{bytes_eq-Decides}
use Rattle.typing.specs.environment.BuiltIns.{FunctionType, built_ins}
use Rattle.typing.specs.environment.Names.{Entries, value_in}
use Rattle.typing.specs.environment.Scopes.{first_answer}
use Rattle.items.specs.languages.CBegin.{is_among, without_body, built_in_link, with_linkage}
use Rattle.items.specs.languages.CLaws.{built_in, BuiltInsStand, BuiltInsAreHere}
use Rattle.items.specs.languages.Mapped.{entries_named}
use Rattle.items.specs.languages.Meanings.{Binding, Link, meaning_of, entity_of}
use Rattle.items.proofs.languages.Mapped.{value_named}

-- a name that is left out has no value, and any other one has what it had
kept_value : (bodied : List (List ℕ)) (name : List ℕ) (table : Entries FunctionType)
    → value_in name (without_body bodied table) ≡ (if is_among name bodied then None else value_in name table)
kept_value bodied name [] = nothing (is_among name bodied)
  where
    nothing : (among : Bool) → ◌≡◌ {A = Option FunctionType} None (if among then None else None)
    nothing true = refl
    nothing false = refl
kept_value bodied name (entry ∷ table) = step (bytes_eq name entry.0) refl (is_among entry.0 bodied) refl (is_among name bodied) refl (kept_value bodied name table)
  where
    kept : Entries FunctionType
    kept = without_body bodied table

    step : (same : Bool) → bytes_eq name entry.0 ≡ same → (there : Bool) → is_among entry.0 bodied ≡ there → (here : Bool) → is_among name bodied ≡ here
        → value_in name kept ≡ (if here then None else value_in name table)
        → value_in name (if not there then entry ∷ kept else kept) ≡ (if here then None else (if same then Some entry.1 else value_in name table))
    step true same true there true here rest = rest
    step true same false there false here rest = ap (λ b. if b then Some entry.1 else value_in name kept) same
    step true same true there false here rest =
        let e : is_among name bodied ≡ is_among entry.0 bodied = ap (λ x. is_among x bodied) ((bytes_eq-Decides name entry.0).0 same) in cc
    step true same false there true here rest =
        let e : is_among name bodied ≡ is_among entry.0 bodied = ap (λ x. is_among x bodied) ((bytes_eq-Decides name entry.0).0 same) in cc
    step false other true there here among rest = rest
    step false other false there here among rest = ap (λ b. if b then Some entry.1 else value_in name kept) other ∙ rest

-- what has linkage under a name, and nothing else, is declared in the file scope
module _ (defined : List (List ℕ)) (name : List ℕ) (table : Entries FunctionType) where
  stands : (o : Option FunctionType) (links : Entries Link) → value_in name links ≡ option_map (built_in_link defined name) o
      → option_map entity_of (meaning_of name links (first_answer (option_map (with_linkage name) o) None)) ≡ option_map (built_in (is_among name defined)) o
  stands None links same = refl
  stands (Some function) links same = ap (λ (link : Option Link). option_map entity_of (option_map (λ (l : Link). l.meaning) link)) same

  stands_so : option_map entity_of (meaning_of name (entries_named (built_in_link defined) table) (first_answer (value_in name (entries_named with_linkage table)) None))
      ≡ option_map (built_in (is_among name defined)) (value_in name table)
  stands_so =
      ap (λ (b : Option Binding). option_map entity_of (meaning_of name (entries_named (built_in_link defined) table) (first_answer b None))) (value_named with_linkage name table)
      ∙ stands (value_in name table) (entries_named (built_in_link defined) table) (value_named (built_in_link defined) name table)

option_if : {B : Type 0} (f : FunctionType → B) (test : Bool) (o : Option FunctionType) → option_map f (if test then None else o) ≡ (if test then None else option_map f o)
option_if f true o = refl
option_if f false o = refl

pub built_ins_stand : BuiltInsStand
built_ins_stand abi strict bodied defined name =
    stands_so defined name (without_body bodied (built_ins abi))
    ∙ (ap (option_map (built_in (is_among name defined))) (kept_value bodied name (built_ins abi))
    ∙ option_if (built_in (is_among name defined)) (is_among name bodied) (value_in name (built_ins abi)))

some_mapped : (name : List ℕ) (o : Option FunctionType) → is_some (option_map (with_linkage name) o) ≡ is_some o
some_mapped name None = refl
some_mapped name (Some function) = refl

some_if : (test : Bool) (o : Option FunctionType) → is_some (if test then None else o) ≡ (if test then false else is_some o)
some_if true o = refl
some_if false o = refl

pub built_ins_are_here : BuiltInsAreHere
built_ins_are_here abi strict bodied defined name =
    ap is_some (value_named with_linkage name (without_body bodied (built_ins abi)))
    ∙ (some_mapped name (value_in name (without_body bodied (built_ins abi)))
    ∙ (ap is_some (kept_value bodied name (built_ins abi)) ∙ some_if (is_among name bodied) (value_in name (built_ins abi))))
