-- What is found behind the name of an object outside of functions: no initialiser, that of an object, and that of an array whose size it tells.
use Rattle.std.proofs.Common.{◌≡◌, ◌<◌, ◌∙◌, ℕ, Bool, true, false, List, ◌++◌, map, length, refl, sym, ap, subst, Option, None, Some, Result, IfOk}
use Rattle.cbase.specs.declared.abi.Abi.{Abi}
use Rattle.cbase.specs.declared.ctype.CType.{CType}
use Rattle.cbase.specs.declared.ctype.CType.TheVariants.{Array as ArrayType}
use Rattle.cbase.specs.declared.no_memory.NoMemory.{NoMemory}
use Rattle.cbase.specs.declared.place.Place.{Place}
use Rattle.cbase.specs.declared.tree.decl.Declared.{Declared as DeclaredTree}
use Rattle.cbase.specs.declared.tree.expr.Expr.{Expr}
use Rattle.cbase.specs.declared.tree.expr.ExprForm.TheOpen.{Value, Braces}
use Rattle.cbase.specs.declared.tree.expr.ExprForm.TheViews.{out-Declared, out-Init}
use Rattle.cbase.specs.declared.tree.init.Init.{Init}
use Rattle.cbase.specs.declared.tree.init.InitPart.{InitPart}
use Rattle.typing.specs.declared.environment.entity.DeclaredType.{DeclaredType}
use Rattle.typing.specs.declared.environment.entity.DeclaredType.TheVariants.{Whole, UnsizedArray}
use Rattle.typing.specs.declared.fault.Fault.{Fault}
use Rattle.typing.specs.Declarations.{LinkedGiven, in_braces, name_declared, name_of, told_type}
use Rattle.typing.specs.Entities.{ObjectLinked, WholeType}
use Rattle.typing.specs.FileNames.{static_row}
use Rattle.typing.specs.Items.{FileInitialisedIs, FileNotInitialised, FileInitialised, FileArrayInitialised, FileArrayOfWrongSize, FileArrayPartsRefused, FileArrayByValue}
use Rattle.typing.specs.Outcomes.{Outcome, Handed, Passes, Refused}
use Rattle.typing.specs.Typing.{InitialiserIs, SurplusIs, Finds}
use Rattle.expressions.specs.declared.found.Found.{Found}
use Rattle.expressions.specs.declared.found.Found.TheVariants.{Passes as FoundToPass, Refused as FoundRefused}
use Rattle.expressions.specs.declared.handed_row.HandedRow.{HandedRow}
use Rattle.expressions.specs.declared.part.Slot.{Slot as SlotByNumber}
use Rattle.expressions.specs.declared.part.Subject.{Subject as SubjectKept}
use Rattle.expressions.specs.Context.{Context, Declared, declared, Agrees, Grows}
use Rattle.expressions.specs.Found.{nothing}
use Rattle.expressions.specs.Language.{language}
use Rattle.expressions.specs.Nests.{subject_of, slot_at}
use Rattle.expressions.specs.Numbers.{Numbering, declared_type_at, handed_at}
use Rattle.expressions.specs.Operated.{Numbers}
use Rattle.expressions.specs.Walked.{Tells, Passed, Stopped, Walked, Says, SaysBy}
use Rattle.expressions.proofs.Growth.{agrees_before, below_grows, grows_trans, only_types_grows}
use Rattle.expressions.proofs.TypeWords.{declared_by_types, grows_to}
use Rattle.expressions.proofs.Walking.{passed_of, stopped_of}
use Rattle.items.proofs.declarations.DeclaredNames.{walked_by}
use Rattle.items.specs.InFile.{SaysInFileBy}
use Rattle.items.specs.Objects.{ArrayTold, IsArrayTold, static_rows}
use Rattle.items.proofs.Behind.{of_result, rows_behind}

-- the row of an object
static_rows_are : (n : Numbering) (listed : Bool) (place : Place) (t : DeclaredType) (zeroed : Bool) → map (handed_at n) (static_rows listed place t zeroed) ≡ static_row listed place (declared_type_at n t) zeroed
static_rows_are n true place (Whole number) zeroed = refl
static_rows_are n true place (UnsizedArray item) zeroed = refl
static_rows_are n false place t zeroed = refl

-- a context with more rows
grows_by_rows : (old new : Context) → new.types ≡ old.types → new.structs ≡ old.structs → new.environment.signatures ≡ old.environment.signatures → Grows old new
grows_by_rows old new types structs signatures = grows_to old new types (rw structs (λ at item there. there)) signatures

module _ (abi : Abi) (name : DeclaredTree) (listed : Bool) where
  -- what is said behind the name
  abbrev pub SaysBehind : DeclaredType → Option Init → Tells (Unit {0})
  SaysBehind t init = SaysInFileBy abi (λ n o. FileInitialisedIs (name_of (out-Declared name)) listed (declared_type_at n t) init o)

  -- nothing stands there
  pub not_initialised : (t : DeclaredType) (old new : Context) → (out-Declared name).init ≡ None → new ≡ record old { handed = old.handed ++ static_rows listed (out-Declared name).place t false }
      → Passed (SaysBehind t (out-Declared name).init) nothing old new tt
  not_initialised t old new none is = record {
    rows = static_rows listed (out-Declared name).place t false;
    handed = ap (λ (c : Context). c.handed) is;
    grows = grows_by_rows old new (ap (λ (c : Context). c.types) is) (ap (λ (c : Context). c.structs) is) (ap (λ (c : Context). c.environment.signatures) is);
    below = tt;
    found = λ n agrees.
        let rows = map (handed_at n) (static_rows listed (out-Declared name).place t false) in
        let found : SaysBehind t None n (declared old) (Passes tt (static_row listed (out-Declared name).place (declared_type_at n t) false)) (declared old) = FileNotInitialised in
        let there = subst (λ (handed : List Handed). SaysBehind t None n (declared old) (Passes tt handed) (declared old)) (sym (static_rows_are n listed (out-Declared name).place t false)) found in
        subst (λ (after : Declared). SaysBehind t (out-Declared name).init n (declared old) (Passes tt rows) after) (sym (ap declared is))
        (subst (λ (init : Option Init). SaysBehind t init n (declared old) (Passes tt rows) (declared old)) (sym none) there);
  }

  -- one stands there
  pub some_initialised : (t given : DeclaredType) (init : Init) (old new : Context) (r : Result (Found (Unit {0})) NoMemory) → (out-Declared name).init ≡ Some init → t ≡ given
      → IfOk r (λ found. Walked (SaysBehind given (Some init)) nothing old new found) → IfOk r (λ found. Walked (SaysBehind t (out-Declared name).init) nothing old new found)
  some_initialised t given init old new r some is walked =
      subst (λ (there : Option Init). IfOk r (λ found. Walked (SaysBehind t there) nothing old new found)) (sym some)
      (subst (λ (of : DeclaredType). IfOk r (λ found. Walked (SaysBehind of (Some init)) nothing old new found)) (sym is) walked)

  module _ (init : Init) where
    -- the object that is set, and the whole of it
    abbrev pub the_subject : SubjectKept
    the_subject = record { place = (out-Declared name).place; fixed = true }

    abbrev pub the_whole : ℕ → SlotByNumber
    the_whole number = record { ctype = number; offset = 0; braces = true }

    abbrev pub SaysStored : ℕ → Tells (Unit {0})
    SaysStored number = SaysBy abi (λ n o. InitialiserIs (subject_of the_subject) (slot_at n (the_whole number)) init o)

    -- an object of a whole type, behind its initialiser
    pub object_passes : (old mid new : Context) (number : ℕ) (zeroed : Bool) (told : Unit {0}) (found : Found (Unit {0})) → found ≡ FoundToPass told → zeroed ≡ in_braces (out-Init init)
        → Walked (SaysStored number) nothing old mid found → new ≡ record mid { handed = mid.handed ++ static_rows listed (out-Declared name).place (Whole number) zeroed }
        → Passed (SaysBehind (Whole number) (Some init)) nothing old new tt
    object_passes old mid new number zeroed told found is braced walked handed =
        rows_behind (SaysStored number) (SaysBehind (Whole number) (Some init)) old mid new (static_rows listed (out-Declared name).place (Whole number) zeroed)
        (grows_by_rows mid new (ap (λ (c : Context). c.types) handed) (ap (λ (c : Context). c.structs) handed) (ap (λ (c : Context). c.environment.signatures) handed))
        (ap (λ (c : Context). c.handed) handed)
        (λ n front then agrees stored.
        let whole : SaysBehind (Whole number) (Some init) n (declared old) (Passes tt (front ++ static_row listed (out-Declared name).place (WholeType (n.ctype number)) (in_braces (out-Init init)))) (declared mid) = FileInitialised refl stored in
        let rows : front ++ static_row listed (out-Declared name).place (WholeType (n.ctype number)) (in_braces (out-Init init)) ≡ front ++ map (handed_at n) (static_rows listed (out-Declared name).place (Whole number) zeroed) =
        ap (λ (all : Bool). front ++ static_row listed (out-Declared name).place (WholeType (n.ctype number)) all) (sym braced)
        ∙ ap (λ (more : List Handed). front ++ more) (sym (static_rows_are n listed (out-Declared name).place (Whole number) zeroed)) in
        subst (λ (after : Declared). SaysBehind (Whole number) (Some init) n (declared old) (Passes tt (front ++ map (handed_at n) (static_rows listed (out-Declared name).place (Whole number) zeroed))) after) (sym (ap declared handed))
        (subst (λ (all : List Handed). SaysBehind (Whole number) (Some init) n (declared old) (Passes tt all) (declared mid)) rows whole))
        (passed_of (SaysStored number) nothing old mid told found is walked)

    pub object_refused : (old new : Context) (number : ℕ) (first : Fault) (found : Found (Unit {0})) → found ≡ FoundRefused first
        → Walked (SaysStored number) nothing old new found → Stopped (SaysBehind (Whole number) (Some init)) old new first
    object_refused old new number first found is walked =
        let stopped = stopped_of (SaysStored number) nothing old new first found is walked in
        record { grows = stopped.grows; found = λ n agrees. FileInitialised refl (stopped.found n agrees) }

    -- an array by an expression
    pub array_by_value : (old new : Context) (item : ℕ) (value : Expr) (behind_it : Place) (place : Place) (r : Result (Found (Unit {0})) NoMemory) → out-Init init ≡ Value value behind_it → place ≡ (out-Declared name).place
        → IfOk r (λ found. Walked (Says abi (λ o. SurplusIs place init o)) nothing old new found) → IfOk r (λ found. Walked (SaysBehind (UnsizedArray item) (Some init)) nothing old new found)
    array_by_value old new item value behind_it place r layer same walked = walked_by (Says abi (λ o. SurplusIs place init o)) (SaysBehind (UnsizedArray item) (Some init)) nothing old new r (λ n outcome found.
        FileArrayByValue layer (subst (λ (at : Place). Finds (language abi n) (declared old) (SurplusIs at init outcome) (declared new)) same found)) walked

    module _ (parts : List InitPart) (layer : out-Init init ≡ Braces parts) (item number count : ℕ) (old typed mid : Context) (same : count ≡ length parts)
        (counted : Numbers (λ n. ArrayType (n.ctype item) count) old typed number) where
      numbers : Numbers (λ n. ArrayType (n.ctype item) (length parts)) old typed number
      numbers = subst (λ (many : ℕ). Numbers (λ n. ArrayType (n.ctype item) many) old typed number) same counted

      -- what is found of it as of an array of so many items
      abbrev SaysItems : Tells (Unit {0})
      SaysItems n before outcome after =
          Finds (language abi n) before (InitialiserIs (record { place = (out-Declared name).place; fixed = true }) (record { ctype = ArrayType (n.ctype item) (length parts); offset = 0; braces = true }) init outcome) after

      stored_in : (n : Numbering) (outcome : Outcome (Unit {0})) → Agrees n typed → SaysStored number n (declared typed) outcome (declared mid) → SaysItems n (declared old) outcome (declared mid)
      stored_in n outcome agrees found =
          subst (λ (before : Declared). SaysItems n before outcome (declared mid)) (sym (declared_by_types old typed numbers.only_types))
          (subst (λ (t : CType). Finds (language abi n) (declared typed) (InitialiserIs (record { place = (out-Declared name).place; fixed = true }) (record { ctype = t; offset = 0; braces = true }) init outcome) (declared mid))
          (numbers.meant n agrees) found)

      pub array_refused : (first : Fault) (found : Found (Unit {0})) → found ≡ FoundRefused first → Walked (SaysStored number) nothing typed mid found → Stopped (SaysBehind (UnsizedArray item) (Some init)) old mid first
      array_refused first found is walked =
          let stopped = stopped_of (SaysStored number) nothing typed mid first found is walked in
          record {
            grows = grows_trans old typed mid (only_types_grows old typed numbers.only_types) stopped.grows;
            found = λ n agrees. FileArrayPartsRefused layer (stored_in n (Refused first) (agrees_before typed mid n stopped.grows agrees) (stopped.found n agrees));
          }

      module _ (new : Context) (passed : Passed (SaysStored number) nothing typed mid tt) where
        meant_then : (n : Numbering) → Agrees n mid → n.ctype number ≡ ArrayType (n.ctype item) (length parts)
        meant_then n agrees = numbers.meant n (agrees_before typed mid n passed.grows agrees)

        items_pass : Passed SaysItems nothing old mid tt
        items_pass = record {
          rows = passed.rows;
          handed = passed.handed ∙ ap (λ (rows : List HandedRow). rows ++ passed.rows) numbers.only_types.handed;
          grows = grows_trans old typed mid (only_types_grows old typed numbers.only_types) passed.grows;
          below = tt;
          found = λ n agrees. stored_in n (Passes tt (map (handed_at n) passed.rows)) (agrees_before typed mid n passed.grows agrees) (passed.found n agrees);
        }

        -- its size is told
        size_passes : ArrayTold abi name listed number (length parts) mid new → Passed (SaysBehind (UnsizedArray item) (Some init)) nothing old new tt
        size_passes told =
            rows_behind SaysItems (SaysBehind (UnsizedArray item) (Some init)) old mid new (static_rows listed (out-Declared name).place (Whole number) true) told.grows told.handed
            (λ n front then agrees stored.
            let meant : n.ctype number ≡ ArrayType (n.ctype item) (length parts) = meant_then n then in
            let asked = told.asked n (n.ctype item) then meant in
            let whole = FileArrayInitialised asked.0 layer stored asked.1 asked.2 in
            let rows : front ++ static_row listed (out-Declared name).place (told_type (n.ctype item) (length parts)) true ≡ front ++ map (handed_at n) (static_rows listed (out-Declared name).place (Whole number) true) =
            ap (λ (t : CType). front ++ static_row listed (out-Declared name).place (WholeType t) true) (sym meant)
            ∙ ap (λ (more : List Handed). front ++ more) (sym (static_rows_are n listed (out-Declared name).place (Whole number) true)) in
            subst (λ (after : Declared). SaysBehind (UnsizedArray item) (Some init) n (declared old) (Passes tt (front ++ map (handed_at n) (static_rows listed (out-Declared name).place (Whole number) true))) after)
            (sym (told.declares n (n.ctype item) then meant))
            (subst (λ (all : List Handed). SaysBehind (UnsizedArray item) (Some init) n (declared old) (Passes tt all)
            (name_declared (language abi n) (out-Declared name).name (out-Declared name).place.at (LinkedGiven (ObjectLinked (told_type (n.ctype item) (length parts)))) (declared mid))) rows whole))
            items_pass

        size_found : (found : Found (Unit {0})) → IsArrayTold abi name listed number (length parts) mid new found → Walked (SaysBehind (UnsizedArray item) (Some init)) nothing old new found
        size_found (FoundToPass told) tells = size_passes tells
        size_found (FoundRefused first) tells =
            subst (λ (late : Context). Stopped (SaysBehind (UnsizedArray item) (Some init)) old late first) (sym tells.0) (record {
              grows = items_pass.grows;
              found = λ n agrees.
                  let asked = tells.1 n (n.ctype item) agrees (meant_then n agrees) in
                  FileArrayOfWrongSize asked.0 layer (items_pass.found n agrees) asked.1 refl asked.2;
            })

      pub number_below : (told : Unit {0}) (found : Found (Unit {0})) → found ≡ FoundToPass told → Walked (SaysStored number) nothing typed mid found → number < length mid.types
      number_below told found is walked = below_grows typed mid (passed_of (SaysStored number) nothing typed mid told found is walked).grows number numbers.below

      pub array_told : (new : Context) (told : Unit {0}) (found : Found (Unit {0})) (r : Result (Found (Unit {0})) NoMemory) → found ≡ FoundToPass told → Walked (SaysStored number) nothing typed mid found
          → IfOk r (λ answer. IsArrayTold abi name listed number count mid new answer) → IfOk r (λ answer. Walked (SaysBehind (UnsizedArray item) (Some init)) nothing old new answer)
      array_told new told found r is walked =
          of_result (λ answer. IsArrayTold abi name listed number count mid new answer) r (λ answer. Walked (SaysBehind (UnsizedArray item) (Some init)) nothing old new answer)
          (λ answer tells. size_found new (passed_of (SaysStored number) nothing typed mid told found is walked) answer
          (subst (λ (many : ℕ). IsArrayTold abi name listed number many mid new answer) same tells))
