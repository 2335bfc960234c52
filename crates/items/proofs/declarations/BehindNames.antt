-- What is found behind a name: no initialiser, that of an object, that of an array whose size it tells, and one for which there is no place.
use Rattle.std.proofs.Common.{◌≡◌, ◌<◌, ◌∙◌, ℕ, Bool, true, false, List, [], ◌∷◌, ◌++◌, map, length, refl, sym, ap, subst, Option, None, Some, Result, Ok, Err, IfOk}
use Rattle.std.proofs.lemmas.List.{append_assoc, map-append}
use Rattle.cbase.specs.declared.abi.Abi.{Abi}
use Rattle.cbase.specs.declared.ctype.CType.{CType}
use Rattle.cbase.specs.declared.ctype.CType.TheVariants.{Array as ArrayType}
use Rattle.cbase.specs.declared.no_memory.NoMemory.{NoMemory}
use Rattle.cbase.specs.declared.tree.decl.Declared.{Declared as DeclaredTree}
use Rattle.cbase.specs.declared.tree.decl.Storage.{Storage}
use Rattle.cbase.specs.declared.tree.decl.Storage.TheVariants.{Plain, Typedef, Extern, Static}
use Rattle.cbase.specs.declared.tree.expr.ExprForm.TheOpen.{Value, Braces}
use Rattle.cbase.specs.declared.tree.expr.ExprForm.TheViews.{out-Declared, out-Init, outs-Value, outs-Braces}
use Rattle.cbase.specs.declared.tree.expr.Expr.{Expr}
use Rattle.cbase.specs.declared.tree.init.Init.{Init}
use Rattle.cbase.specs.declared.tree.init.Init.TheVariants.{Value as ValueTree, Braces as BracesTree}
use Rattle.cbase.specs.declared.tree.init.InitPart.{InitPart}
use Rattle.cbase.specs.declared.place.Place.{Place}
use Rattle.typing.specs.declared.environment.entity.DeclaredType.{DeclaredType}
use Rattle.typing.specs.declared.environment.entity.DeclaredType.TheVariants.{Whole}
use Rattle.typing.specs.declared.fault.Fault.{Fault}
use Rattle.typing.specs.Declarations.{Given, ObjectGiven, given, in_braces, name_of, object_row, told_type}
use Rattle.typing.specs.Entities.{DeclaredType as TypeDeclared, WholeType, ItemsOf}
use Rattle.typing.specs.Outcomes.{Outcome, Handed, Passes, Refused}
use Rattle.typing.specs.Typing.{InitialiserIs, InitialisedIs, SurplusIs, Finds, NotInitialised, ObjectInitialised, ArrayInitialised, ArrayOfWrongSize, ArrayPartsRefused, ArrayByValue, LinkedInitialised, TypeInitialised}
use Rattle.expressions.specs.declared.found.Found.{Found}
use Rattle.expressions.specs.declared.found.Found.TheVariants.{Passes as FoundToPass, Refused as FoundRefused}
use Rattle.expressions.specs.declared.handed_row.HandedRow.{HandedRow}
use Rattle.expressions.specs.declared.handed_row.HandedRow.TheVariants.{Object as ObjectRow}
use Rattle.expressions.specs.declared.part.Slot.{Slot as SlotByNumber}
use Rattle.expressions.specs.declared.part.Subject.{Subject as SubjectKept}
use Rattle.expressions.specs.Context.{Context, Declared, declared, Agrees, Grows}
use Rattle.expressions.specs.Found.{nothing}
use Rattle.expressions.specs.Language.{language, object_declared}
use Rattle.expressions.specs.Nests.{subject_of, slot_at}
use Rattle.expressions.specs.Numbers.{Numbering, declared_type_at, handed_at}
use Rattle.expressions.specs.Operated.{Numbers}
use Rattle.expressions.specs.Walked.{Tells, Passed, Stopped, Walked, Says, SaysBy}
use Rattle.expressions.proofs.Growth.{agrees_before, below_grows, grows_trans, only_types_grows}
use Rattle.expressions.proofs.TypeWords.{declared_by_types, grows_to}
use Rattle.expressions.proofs.Walking.{passed_of, stopped_of}
use Rattle.items.specs.declarations.Given.{SizeTold, IsSizeTold, fixed_of, object_rows}
use Rattle.items.proofs.declarations.Bound.{object_bound, rows_are}
use Rattle.items.proofs.declarations.DeclaredNames.{walked_by}

-- an initialiser as one layer of a tree
pub value_layer : (init : Init) (value : Expr) (behind_it : Place) → init ≡ ValueTree value behind_it → out-Init init ≡ Value value behind_it
value_layer init value behind_it is = ap out-Init is ∙ outs-Value value behind_it

pub braces_layer : (init : Init) (parts : List InitPart) → init ≡ BracesTree parts → out-Init init ≡ Braces parts
braces_layer init parts is = ap out-Init is ∙ outs-Braces parts

-- an object of a storage word
object_given : (storage : Storage) (fixed : Bool) (t : TypeDeclared) → Some fixed ≡ fixed_of storage → ObjectGiven fixed t ≡ given storage t
object_given Plain fixed t is = cc is
object_given Static fixed t is = cc is
object_given Typedef fixed t is = cc is
object_given Extern fixed t is = cc is

module _ (abi : Abi) (storage : Storage) (t : DeclaredType) (name : DeclaredTree) where
  -- what is said behind the name
  abbrev pub SaysBehind : Tells (Unit {0})
  SaysBehind = SaysBy abi (λ n o. InitialisedIs (name_of (out-Declared name)) (given storage (declared_type_at n t)) (out-Declared name).init o)

  -- nothing stands there
  pub not_initialised : (old new : Context) → (out-Declared name).init ≡ None → new ≡ record old { handed = old.handed ++ object_rows (out-Declared name).place storage t }
      → Passed SaysBehind nothing old new tt
  not_initialised old new none is = record {
    rows = object_rows (out-Declared name).place storage t;
    handed = ap (λ (c : Context). c.handed) is;
    grows = grows_to old new (ap (λ (c : Context). c.types) is) (rw (ap (λ (c : Context). c.structs) is) (λ at item there. there)) (ap (λ (c : Context). c.environment.signatures) is);
    below = tt;
    found = λ n agrees.
        let gives : Given = given storage (declared_type_at n t) in
        let found : Finds (language abi n) (declared old) (InitialisedIs (name_of (out-Declared name)) gives None (Passes tt (object_row (out-Declared name).place gives false))) (declared old) = NotInitialised in
        let rows = subst (λ (handed : List Handed). Finds (language abi n) (declared old) (InitialisedIs (name_of (out-Declared name)) gives None (Passes tt handed)) (declared old)) (sym (rows_are n (out-Declared name).place storage t)) found in
        let there = subst (λ (init : Option Init). Finds (language abi n) (declared old) (InitialisedIs (name_of (out-Declared name)) gives init (Passes tt (map (handed_at n) (object_rows (out-Declared name).place storage t)))) (declared old)) (sym none) rows in
        subst (λ (after : Declared). Finds (language abi n) (declared old) (InitialisedIs (name_of (out-Declared name)) gives (out-Declared name).init (Passes tt (map (handed_at n) (object_rows (out-Declared name).place storage t)))) after)
        (sym (ap declared is)) there;
  }

  -- an initialiser for which there is no place
  surplus_of : (n : Numbering) (place : Place) (init : Init) (before after : Declared) (outcome : Outcome (Unit {0})) (s : Storage) → None ≡ fixed_of s
      → Finds (language abi n) before (SurplusIs (out-Declared name).place init outcome) after
      → Finds (language abi n) before (InitialisedIs (name_of (out-Declared name)) (given s (declared_type_at n t)) (Some init) outcome) after
  surplus_of n place init before after outcome Plain is found = cc is
  surplus_of n place init before after outcome Static is found = cc is
  surplus_of n place init before after outcome Typedef is found = TypeInitialised found
  surplus_of n place init before after outcome Extern is found = LinkedInitialised found

  pub surplus_behind : (old new : Context) (init : Init) (place : Place) (r : Result (Found (Unit {0})) NoMemory) → (out-Declared name).init ≡ Some init → None ≡ fixed_of storage → place ≡ (out-Declared name).place
      → IfOk r (λ found. Walked (Says abi (λ o. SurplusIs place init o)) nothing old new found) → IfOk r (λ found. Walked SaysBehind nothing old new found)
  surplus_behind old new init place r some none same walked = walked_by (Says abi (λ o. SurplusIs place init o)) SaysBehind nothing old new r (λ n outcome found.
      subst (λ (there : Option Init). Finds (language abi n) (declared old) (InitialisedIs (name_of (out-Declared name)) (given storage (declared_type_at n t)) there outcome) (declared new)) (sym some)
      (surplus_of n place init (declared old) (declared new) outcome storage none
      (subst (λ (at : Place). Finds (language abi n) (declared old) (SurplusIs at init outcome) (declared new)) same found))) walked

  -- one of an object
  pub object_behind : (old new : Context) (init : Init) (fixed : Bool) (r : Result (Found (Unit {0})) NoMemory) → (out-Declared name).init ≡ Some init → Some fixed ≡ fixed_of storage
      → IfOk r (λ found. Walked (SaysBy abi (λ n o. InitialisedIs (name_of (out-Declared name)) (ObjectGiven fixed (declared_type_at n t)) (Some init) o)) nothing old new found)
      → IfOk r (λ found. Walked SaysBehind nothing old new found)
  object_behind old new init fixed r some is walked =
      walked_by (SaysBy abi (λ n o. InitialisedIs (name_of (out-Declared name)) (ObjectGiven fixed (declared_type_at n t)) (Some init) o)) SaysBehind nothing old new r (λ n outcome found.
      subst (λ (there : Option Init). Finds (language abi n) (declared old) (InitialisedIs (name_of (out-Declared name)) (given storage (declared_type_at n t)) there outcome) (declared new)) (sym some)
      (subst (λ (gives : Given). Finds (language abi n) (declared old) (InitialisedIs (name_of (out-Declared name)) gives (Some init) outcome) (declared new)) (object_given storage fixed (declared_type_at n t) is) found)) walked

module _ (abi : Abi) (name : DeclaredTree) (fixed : Bool) (init : Init) where
  -- the object that is set, and the whole of it
  abbrev pub the_subject : SubjectKept
  the_subject = record { place = (out-Declared name).place; fixed = fixed }

  abbrev pub the_whole : ℕ → SlotByNumber
  the_whole number = record { ctype = number; offset = 0; braces = true }

  abbrev pub SaysStored : ℕ → Tells (Unit {0})
  SaysStored number = SaysBy abi (λ n o. InitialiserIs (subject_of the_subject) (slot_at n (the_whole number)) init o)

  abbrev pub SaysObject : ℕ → Tells (Unit {0})
  SaysObject number = SaysBy abi (λ n o. InitialisedIs (name_of (out-Declared name)) (ObjectGiven fixed (WholeType (n.ctype number))) (Some init) o)

  abbrev pub SaysArray : ℕ → Tells (Unit {0})
  SaysArray item = SaysBy abi (λ n o. InitialisedIs (name_of (out-Declared name)) (ObjectGiven fixed (ItemsOf (n.ctype item))) (Some init) o)

  abbrev the_row : ℕ → Bool → HandedRow
  the_row number zeroed = ObjectRow (out-Declared name).place.at number fixed zeroed

  -- an object of a whole type, behind its initialiser
  pub object_passes : (old mid new : Context) (number : ℕ) (zeroed : Bool) (told : Unit {0}) (found : Found (Unit {0})) → found ≡ FoundToPass told → zeroed ≡ in_braces (out-Init init)
      → Walked (SaysStored number) nothing old mid found → new ≡ record mid { handed = mid.handed ++ the_row number zeroed ∷ [] }
      → Passed (SaysObject number) nothing old new tt
  object_passes old mid new number zeroed told found is braced walked handed =
      let passed = passed_of (SaysStored number) nothing old mid told found is walked in
      let further : Grows mid new = grows_to mid new (ap (λ (c : Context). c.types) handed) (rw (ap (λ (c : Context). c.structs) handed) (λ at item there. there)) (ap (λ (c : Context). c.environment.signatures) handed) in
      record {
        rows = passed.rows ++ the_row number zeroed ∷ [];
        handed = ap (λ (c : Context). c.handed) handed ∙ (ap (λ (rows : List HandedRow). rows ++ the_row number zeroed ∷ []) passed.handed ∙ append_assoc old.handed passed.rows (the_row number zeroed ∷ []));
        grows = grows_trans old mid new passed.grows further;
        below = tt;
        found = λ n agrees.
            let whole = ObjectInitialised refl (passed.found n (agrees_before mid new n further agrees)) in
            let rows : map (handed_at n) (passed.rows ++ the_row number zeroed ∷ []) ≡ map (handed_at n) passed.rows ++ object_row (out-Declared name).place (ObjectGiven fixed (WholeType (n.ctype number))) (in_braces (out-Init init)) =
            map-append (handed_at n) passed.rows (the_row number zeroed ∷ [])
            ∙ ap (λ (b : Bool). map (handed_at n) passed.rows ++ object_row (out-Declared name).place (ObjectGiven fixed (WholeType (n.ctype number))) b) braced in
            subst (λ (after : Declared). SaysObject number n (declared old) (Passes tt (map (handed_at n) (passed.rows ++ the_row number zeroed ∷ []))) after) (sym (ap declared handed))
            (subst (λ (all : List Handed). SaysObject number n (declared old) (Passes tt all) (declared mid)) (sym rows) whole);
      }

  pub object_refused : (old new : Context) (number : ℕ) (first : Fault) (found : Found (Unit {0})) → found ≡ FoundRefused first
      → Walked (SaysStored number) nothing old new found → Stopped (SaysObject number) old new first
  object_refused old new number first found is walked =
      let stopped = stopped_of (SaysStored number) nothing old new first found is walked in
      record { grows = stopped.grows; found = λ n agrees. ObjectInitialised refl (stopped.found n agrees) }

  -- an array by an expression
  pub array_by_value : (old new : Context) (item : ℕ) (value : Expr) (behind_it : Place) (place : Place) (r : Result (Found (Unit {0})) NoMemory) → out-Init init ≡ Value value behind_it → place ≡ (out-Declared name).place
      → IfOk r (λ found. Walked (Says abi (λ o. SurplusIs place init o)) nothing old new found) → IfOk r (λ found. Walked (SaysArray item) nothing old new found)
  array_by_value old new item value behind_it place r layer same walked = walked_by (Says abi (λ o. SurplusIs place init o)) (SaysArray item) nothing old new r (λ n outcome found.
      ArrayByValue layer (subst (λ (at : Place). Finds (language abi n) (declared old) (SurplusIs at init outcome) (declared new)) same found)) walked

  module _ (parts : List InitPart) (layer : out-Init init ≡ Braces parts) (item number count : ℕ) (old typed mid : Context) (same : count ≡ length parts)
      (counted : Numbers (λ n. ArrayType (n.ctype item) count) old typed number) where
    numbers : Numbers (λ n. ArrayType (n.ctype item) (length parts)) old typed number
    numbers = subst (λ (many : ℕ). Numbers (λ n. ArrayType (n.ctype item) many) old typed number) same counted

    -- what is found of it as of an array of so many items
    stored_in : (n : Numbering) (outcome : Outcome (Unit {0})) → Agrees n typed → SaysStored number n (declared typed) outcome (declared mid)
        → Finds (language abi n) (declared old) (InitialiserIs (record { place = (out-Declared name).place; fixed = fixed }) (record { ctype = ArrayType (n.ctype item) (length parts); offset = 0; braces = true }) init outcome) (declared mid)
    stored_in n outcome agrees found =
        subst (λ (before : Declared). Finds (language abi n) before (InitialiserIs (record { place = (out-Declared name).place; fixed = fixed }) (record { ctype = ArrayType (n.ctype item) (length parts); offset = 0; braces = true }) init outcome) (declared mid))
        (sym (declared_by_types old typed numbers.only_types))
        (subst (λ (t : CType). Finds (language abi n) (declared typed) (InitialiserIs (record { place = (out-Declared name).place; fixed = fixed }) (record { ctype = t; offset = 0; braces = true }) init outcome) (declared mid))
        (numbers.meant n agrees) found)

    pub array_refused : (first : Fault) (found : Found (Unit {0})) → found ≡ FoundRefused first → Walked (SaysStored number) nothing typed mid found → Stopped (SaysArray item) old mid first
    array_refused first found is walked =
        let stopped = stopped_of (SaysStored number) nothing typed mid first found is walked in
        record {
          grows = grows_trans old typed mid (only_types_grows old typed numbers.only_types) stopped.grows;
          found = λ n agrees. ArrayPartsRefused layer (stored_in n (Refused first) (agrees_before typed mid n stopped.grows agrees) (stopped.found n agrees));
        }

    module _ (new : Context) (passed : Passed (SaysStored number) nothing typed mid tt) where
      meant_then : (n : Numbering) → Agrees n mid → n.ctype number ≡ ArrayType (n.ctype item) (length parts)
      meant_then n agrees = numbers.meant n (agrees_before typed mid n passed.grows agrees)

      -- its size is told
      size_passes : SizeTold abi name fixed number (length parts) mid new → Passed (SaysArray item) nothing old new tt
      size_passes told =
          let further : Grows mid new = grows_to mid new (ap (λ (c : Context). c.types) told.whole) (rw (ap (λ (c : Context). c.structs) told.whole) (λ at one there. there)) (ap (λ (c : Context). c.environment.signatures) told.whole) in
          let front : Grows old mid = grows_trans old typed mid (only_types_grows old typed numbers.only_types) passed.grows in
          record {
            rows = passed.rows ++ the_row number true ∷ [];
            handed = ap (λ (c : Context). c.handed) told.whole
                ∙ (ap (λ (rows : List HandedRow). rows ++ the_row number true ∷ []) (passed.handed ∙ ap (λ (rows : List HandedRow). rows ++ passed.rows) numbers.only_types.handed)
                ∙ append_assoc old.handed passed.rows (the_row number true ∷ []));
            grows = grows_trans old mid new front further;
            below = tt;
            found = λ n agrees.
                let then : Agrees n mid = agrees_before mid new n further agrees in
                let meant : n.ctype number ≡ ArrayType (n.ctype item) (length parts) = meant_then n then in
                let whole = ArrayInitialised layer (stored_in n (Passes tt (map (handed_at n) passed.rows)) (agrees_before typed mid n passed.grows then) (passed.found n then)) (told.unbroken n (n.ctype item) then meant) in
                let rows : map (handed_at n) (passed.rows ++ the_row number true ∷ []) ≡ map (handed_at n) passed.rows ++ object_row (out-Declared name).place (ObjectGiven fixed (told_type (n.ctype item) (length parts))) true =
                map-append (handed_at n) passed.rows (the_row number true ∷ [])
                ∙ ap (λ (t : CType). map (handed_at n) passed.rows ++ object_row (out-Declared name).place (ObjectGiven fixed (WholeType t)) true) meant in
                let after : declared new ≡ object_declared n (out-Declared name).name (out-Declared name).place.at fixed (told_type (n.ctype item) (length parts)) (declared mid) =
                ap declared told.whole
                ∙ (object_bound n mid (out-Declared name).name (out-Declared name).place.at fixed (Whole number) (declared mid) then (below_grows typed mid passed.grows number numbers.below)
                ∙ ap (λ (t : CType). object_declared n (out-Declared name).name (out-Declared name).place.at fixed (WholeType t) (declared mid)) meant) in
                subst (λ (env : Declared). SaysArray item n (declared old) (Passes tt (map (handed_at n) (passed.rows ++ the_row number true ∷ []))) env) (sym after)
                (subst (λ (all : List Handed). SaysArray item n (declared old) (Passes tt all) (object_declared n (out-Declared name).name (out-Declared name).place.at fixed (told_type (n.ctype item) (length parts)) (declared mid))) (sym rows) whole);
          }

      size_found : (found : Found (Unit {0})) → IsSizeTold abi name fixed number (length parts) mid new found → Walked (SaysArray item) nothing old new found
      size_found (FoundToPass told) tells = size_passes tells
      size_found (FoundRefused first) tells =
          subst (λ (late : Context). Stopped (SaysArray item) old late first) (sym tells.0) (record {
            grows = grows_trans old typed mid (only_types_grows old typed numbers.only_types) passed.grows;
            found = λ n agrees.
                ArrayOfWrongSize layer (stored_in n (Passes tt (map (handed_at n) passed.rows)) (agrees_before typed mid n passed.grows agrees) (passed.found n agrees)) refl (tells.1 n (n.ctype item) agrees (meant_then n agrees));
          })

    pub number_below : (told : Unit {0}) (found : Found (Unit {0})) → found ≡ FoundToPass told → Walked (SaysStored number) nothing typed mid found → number < length mid.types
    number_below told found is walked = below_grows typed mid (passed_of (SaysStored number) nothing typed mid told found is walked).grows number numbers.below

    pub array_told : (new : Context) (told : Unit {0}) (found : Found (Unit {0})) (r : Result (Found (Unit {0})) NoMemory) → found ≡ FoundToPass told → Walked (SaysStored number) nothing typed mid found
        → IfOk r (λ answer. IsSizeTold abi name fixed number count mid new answer) → IfOk r (λ answer. Walked (SaysArray item) nothing old new answer)
    array_told new told found (Ok answer) is walked tells = size_found new (passed_of (SaysStored number) nothing typed mid told found is walked) answer
        (subst (λ (many : ℕ). IsSizeTold abi name fixed number many mid new answer) same tells)
    array_told new told found (Err error) is walked tells = tt
