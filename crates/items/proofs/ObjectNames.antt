-- What is found of the name of an object outside of functions: its sizes, what is broken at it, and what stands behind it.
use Rattle.std.proofs.Common.{◌≡◌, ◌∙◌, List, ◌++◌, map, refl, sym, ap, subst, Bool, false, Option, None, Result, IfOk}
use Rattle.std.proofs.lemmas.List.{map-append}
use Rattle.cbase.specs.declared.abi.Abi.{Abi}
use Rattle.cbase.specs.declared.no_memory.NoMemory.{NoMemory}
use Rattle.cbase.specs.declared.tree.decl.Declared.{Declared as DeclaredTree}
use Rattle.cbase.specs.declared.tree.decl.Storage.{Storage}
use Rattle.cbase.specs.declared.tree.expr.Expr.{Expr}
use Rattle.cbase.specs.declared.tree.expr.ExprForm.TheViews.{out-Declared}
use Rattle.typing.specs.declared.fault.Fault.{Fault}
use Rattle.typing.specs.declared.size.Size.{Size}
use Rattle.typing.specs.Declarations.{is_typedef, name_of}
use Rattle.typing.specs.Entities.{DeclaredType as TypeDeclared}
use Rattle.typing.specs.FileNames.{is_listed, is_listed_by, link_row, object_declared, object_type}
use Rattle.typing.specs.Items.{FileInitialisedIs, FileNameIs, FindsInFile, FileSizesRefused, FileNameBroken, FileNameGiven}
use Rattle.typing.specs.Outcomes.{Outcome, Handed, Passes, Refused, with_front}
use Rattle.typing.specs.Typing.{MemberSizesAre}
use Rattle.expressions.specs.declared.found.Found.{Found}
use Rattle.expressions.specs.declared.found.Found.TheVariants.{Passes as FoundToPass, Refused as FoundRefused}
use Rattle.expressions.specs.declared.named_type.NamedType.{NamedType as NamedByNumber}
use Rattle.expressions.specs.Context.{Context, Declared, declared, Agrees, Grows}
use Rattle.expressions.specs.FileScope.{definition_at, file_scope}
use Rattle.expressions.specs.Found.{nothing, some_sizes}
use Rattle.expressions.specs.Language.{language}
use Rattle.expressions.specs.Numbers.{Numbering, declared_type_at, handed_at, named_at}
use Rattle.expressions.specs.Walked.{Tells, Passed, Stopped, Walked, Says}
use Rattle.expressions.proofs.Growth.{agrees_before, agrees_before_types, grows_trans, only_types_grows}
use Rattle.expressions.proofs.TypeWords.{declared_by_types}
use Rattle.expressions.proofs.Walking.{handed_behind, passed_of, stopped_of}
use Rattle.items.specs.declared.object.Object.{Object}
use Rattle.items.specs.InFile.{SaysInFileBy}
use Rattle.items.specs.Objects.{IsObjectGiven, ObjectGives, ObjectBreaks, link_rows}
use Rattle.items.proofs.Behind.{in_front, of_result}

module _ (abi : Abi) (storage : Storage) (base : NamedByNumber) (name : DeclaredTree) where
  -- what is said of the name
  abbrev pub SaysObject : Tells (Unit {0})
  SaysObject = SaysInFileBy abi (λ n o. FileNameIs storage (named_at n base) name o)

  abbrev pub SaysSizes : List (Option Expr) → Tells (List Size)
  SaysSizes items = Says abi (λ o. MemberSizesAre items o)

  -- and behind it
  abbrev pub SaysBehind : Bool → Object → Tells (Unit {0})
  SaysBehind listed object = SaysInFileBy abi (λ n o. FileInitialisedIs (name_of (out-Declared name)) listed (declared_type_at n object.ctype) (out-Declared name).init o)

  -- what is found of it in front of what stands behind it
  abbrev SaysInFront : Object → Tells (Unit {0})
  SaysInFront object n before (Passes told handed) after = (outcome : Outcome (Unit {0})) (last : Declared)
      → SaysBehind (is_listed (definition_at object.before) (definition_at object.adds)) object n after outcome last
      → SaysObject n before (with_front handed outcome) last
  SaysInFront object n before (Refused first) after = Unit {0}

  module _ (items : List (Option Expr)) (sizes : List Size) (old mid : Context) (counted : Found (Unit {0})) (params : (out-Declared name).params ≡ None)
      (no_typedef : is_typedef storage ≡ false) (same : items ≡ (out-Declared name).sizes) (walked : Walked (SaysSizes items) (some_sizes sizes) old mid counted) where
    there : Walked (SaysSizes (out-Declared name).sizes) (some_sizes sizes) old mid counted
    there = subst (λ (these : List (Option Expr)). Walked (SaysSizes these) (some_sizes sizes) old mid counted) same walked

    -- what is refused in its sizes
    pub sizes_stop : (first : Fault) → counted ≡ FoundRefused first → Stopped SaysObject old mid first
    sizes_stop first is =
        let stopped = stopped_of (SaysSizes (out-Declared name).sizes) (some_sizes sizes) old mid first counted is there in
        record { grows = stopped.grows; found = λ n agrees. FileSizesRefused refl params no_typedef (stopped.found n agrees) }

    sizes_pass : (told : Unit {0}) → counted ≡ FoundToPass told → Passed (SaysSizes (out-Declared name).sizes) (some_sizes sizes) old mid told
    sizes_pass told is = passed_of (SaysSizes (out-Declared name).sizes) (some_sizes sizes) old mid told counted is there

    pub sizes_grow : (told : Unit {0}) → counted ≡ FoundToPass told → Grows old mid
    sizes_grow told is = (sizes_pass told is).grows

    module _ (told : Unit {0}) (is : counted ≡ FoundToPass told) where
      -- what is broken at it behind them
      name_breaks : (new : Context) (first : Fault) → ObjectBreaks abi storage base name sizes mid new first → Stopped SaysObject old new first
      name_breaks new first breaks =
          let passed = sizes_pass told is in
          record {
            grows = grows_trans old mid new passed.grows (only_types_grows mid new breaks.only_types);
            found = λ n agrees.
                let here : Agrees n mid = agrees_before_types mid new n breaks.only_types agrees in
                let asked = breaks.asked n agrees in
                subst (λ (place : Declared). FindsInFile (language abi n) (file_scope abi n) (declared old) (FileNameIs storage (named_at n base) name (Refused first)) place) (declared_by_types mid new breaks.only_types)
                (FileNameBroken asked.0 refl params no_typedef (passed.found n here) asked.1 refl asked.2);
          }

      pub name_broken : (new : Context) (first : Fault) (answer : Found Object) → answer ≡ FoundRefused first
          → IsObjectGiven abi storage base name sizes mid new answer → Stopped SaysObject old new first
      name_broken new first answer refused gives =
          name_breaks new first (subst (λ (f : Found Object). IsObjectGiven abi storage base name sizes mid new f) refused gives)

      module _ (late : Context) (object : Object) (gives : ObjectGives abi storage base name sizes mid late object) where
        -- the object is declared, and its declaration handed on
        behind_declared : (n : Numbering) (outcome : Outcome (Unit {0})) (last : Declared) → Agrees n late
            → SaysBehind (is_listed (definition_at object.before) (definition_at object.adds)) object n (declared late) outcome last
            → FindsInFile (language abi n) (file_scope abi n) (object_declared (language abi n) (file_scope abi n) storage (named_at n base) (out-Declared name) sizes (declared mid))
            (FileInitialisedIs (name_of (out-Declared name)) (is_listed_by (language abi n) (file_scope abi n) storage (out-Declared name) (declared mid))
            (object_type (language abi n) (named_at n base) (out-Declared name) sizes (declared mid)) (out-Declared name).init outcome) last
        behind_declared n outcome last agrees found =
            subst (λ (before : Declared). FindsInFile (language abi n) (file_scope abi n) before
            (FileInitialisedIs (name_of (out-Declared name)) (is_listed_by (language abi n) (file_scope abi n) storage (out-Declared name) (declared mid))
            (object_type (language abi n) (named_at n base) (out-Declared name) sizes (declared mid)) (out-Declared name).init outcome) last) (gives.declares n agrees)
            (subst (λ (listed : Bool). FindsInFile (language abi n) (file_scope abi n) (declared late)
            (FileInitialisedIs (name_of (out-Declared name)) listed (object_type (language abi n) (named_at n base) (out-Declared name) sizes (declared mid)) (out-Declared name).init outcome) last) (gives.listed n)
            (subst (λ (t : TypeDeclared). FindsInFile (language abi n) (file_scope abi n) (declared late)
            (FileInitialisedIs (name_of (out-Declared name)) (is_listed (definition_at object.before) (definition_at object.adds)) t (out-Declared name).init outcome) last) (gives.meant n agrees) found))

        in_front_of_all : (n : Numbering) → Agrees n late → SaysInFront object n (declared old) (Passes tt (map (handed_at n) ((sizes_pass told is).rows ++ link_rows name late))) (declared late)
        in_front_of_all n agrees = λ outcome last found.
            let here : Agrees n mid = agrees_before mid late n gives.grows agrees in
            let asked = gives.asked n agrees in
            let front = sizes_pass told is in
            let whole = FileNameGiven asked.0 refl params no_typedef (front.found n here) asked.1 asked.2 (behind_declared n outcome last agrees found) in
            let rows : map (handed_at n) front.rows ++ link_row (language abi n) (file_scope abi n) (out-Declared name) (object_declared (language abi n) (file_scope abi n) storage (named_at n base) (out-Declared name) sizes (declared mid))
            ≡ map (handed_at n) (front.rows ++ link_rows name late) =
            ap (λ (place : Declared). map (handed_at n) front.rows ++ link_row (language abi n) (file_scope abi n) (out-Declared name) place) (sym (gives.declares n agrees))
            ∙ sym (map-append (handed_at n) front.rows (link_rows name late)) in
            subst (λ (handed : List Handed). SaysObject n (declared old) (with_front handed outcome) last) rows whole

        front_passes : Passed (SaysInFront object) nothing old late tt
        front_passes = record {
          rows = (sizes_pass told is).rows ++ link_rows name late;
          handed = handed_behind old.handed mid.handed late.handed (sizes_pass told is).rows (link_rows name late) (sizes_pass told is).handed gives.handed;
          grows = grows_trans old mid late (sizes_pass told is).grows gives.grows;
          below = tt;
          found = in_front_of_all;
        }

        object_found : (listed : Bool) (new : Context) (found : Found (Unit {0})) → listed ≡ is_listed (definition_at object.before) (definition_at object.adds)
            → Walked (SaysBehind listed object) nothing late new found → Walked SaysObject nothing old new found
        object_found listed new found same behind_it =
            in_front (SaysBehind (is_listed (definition_at object.before) (definition_at object.adds)) object) SaysObject (SaysInFront object) nothing old late new tt front_passes
            (λ n handed outcome agrees front rest. front outcome (declared new) rest) found
            (subst (λ (all : Bool). Walked (SaysBehind all object) nothing late new found) same behind_it)

      -- an object that is given its type, as code reads that
      pub gives_of : (late : Context) (object : Object) (answer : Found Object) → answer ≡ FoundToPass object → IsObjectGiven abi storage base name sizes mid late answer → ObjectGives abi storage base name sizes mid late object
      gives_of late object answer passes gives = subst (λ (f : Found Object). IsObjectGiven abi storage base name sizes mid late f) passes gives

      pub object_initialised : (late new : Context) (object : Object) (listed : Bool) (answer : Found Object) (r : Result (Found (Unit {0})) NoMemory) → answer ≡ FoundToPass object
          → IsObjectGiven abi storage base name sizes mid late answer → listed ≡ is_listed (definition_at object.before) (definition_at object.adds)
          → IfOk r (λ found. Walked (SaysBehind listed object) nothing late new found) → IfOk r (λ found. Walked SaysObject nothing old new found)
      object_initialised late new object listed answer r passes gives same =
          of_result (λ found. Walked (SaysBehind listed object) nothing late new found) r (λ found. Walked SaysObject nothing old new found)
          (λ found walk. object_found late object (gives_of late object answer passes gives) listed new found same walk)
