-- What is found of the name of an object or of a typedef, and of the names of a declaration, one behind the other.
use Rattle.std.proofs.Common.{◌≡◌, ◌<◌, ◌≤◌, ◌+◌, ◌∙◌, ℕ, List, [], ◌++◌, map, drop, length, get_or, refl, sym, ap, subst, append-nil, Option, None, Result, Ok, Err, IfOk}
use Rattle.std.proofs.lemmas.List.{append_assoc, map-append, drop_all}
use Rattle.cbase.specs.declared.abi.Abi.{Abi}
use Rattle.cbase.specs.declared.no_memory.NoMemory.{NoMemory}
use Rattle.cbase.specs.declared.tree.decl.Declared.{Declared as DeclaredTree}
use Rattle.cbase.specs.declared.tree.decl.Storage.{Storage}
use Rattle.cbase.specs.declared.tree.expr.Expr.{Expr}
use Rattle.cbase.specs.declared.tree.expr.ExprForm.TheViews.{out-Declared}
use Rattle.typing.specs.declared.environment.entity.DeclaredType.{DeclaredType}
use Rattle.typing.specs.declared.fault.Fault.{Fault}
use Rattle.typing.specs.declared.size.Size.{Size}
use Rattle.typing.specs.Declarations.{Given, given, is_fixed_size, name_declared, name_of}
use Rattle.typing.specs.Outcomes.{Outcome, Handed, Passes, Refused, with_front}
use Rattle.typing.specs.Typing.{DeclaredNameIs, DeclaredNamesAre, DeclaredSizesAre, InitialisedIs, Finds, NameWithSizesRefused, NameBroken, NameGiven, NoMoreDeclarators, MoreDeclarators, DeclaratorRefused}
use Rattle.expressions.specs.declared.found.Found.{Found}
use Rattle.expressions.specs.declared.found.Found.TheVariants.{Passes as FoundToPass, Refused as FoundRefused}
use Rattle.expressions.specs.declared.handed_row.HandedRow.{HandedRow}
use Rattle.expressions.specs.declared.named_type.NamedType.{NamedType as NamedByNumber}
use Rattle.expressions.specs.Context.{Context, Declared, declared, Agrees, Grows}
use Rattle.expressions.specs.Found.{Reading, nothing, some_sizes}
use Rattle.expressions.specs.Language.{language}
use Rattle.expressions.specs.Numbers.{Numbering, declared_type_at, handed_at, named_at}
use Rattle.expressions.specs.Walked.{Tells, Passed, Stopped, Walked, Says, SaysBy}
use Rattle.expressions.proofs.Growth.{agrees_before, agrees_before_types, grows_same, grows_trans, only_types_grows}
use Rattle.expressions.proofs.Loops.{next_item}
use Rattle.expressions.proofs.TypeWords.{declared_by_types}
use Rattle.expressions.proofs.Walking.{handed_behind, passed_of, stopped_of}
use Rattle.items.specs.declarations.Given.{IsNameGiven, NameGives, NameBreaks}

-- what is found in one way is found in another
pub walked_by : {A B : Type 0} (tells others : Tells A) (reading : Reading B A) (old new : Context) (r : Result (Found B) NoMemory)
    → ((n : Numbering) (outcome : Outcome A) → tells n (declared old) outcome (declared new) → others n (declared old) outcome (declared new))
    → IfOk r (λ found. Walked tells reading old new found) → IfOk r (λ found. Walked others reading old new found)
walked_by tells others reading old new (Ok (FoundToPass told)) leads passed = record {
  rows = passed.rows;
  handed = passed.handed;
  grows = passed.grows;
  below = passed.below;
  found = λ n agrees. leads n (Passes (reading.means n told) (map (handed_at n) passed.rows)) (passed.found n agrees);
}
walked_by tells others reading old new (Ok (FoundRefused first)) leads stopped = record { grows = stopped.grows; found = λ n agrees. leads n (Refused first) (stopped.found n agrees) }
walked_by tells others reading old new (Err error) leads found = tt

module _ (abi : Abi) (storage : Storage) (base : NamedByNumber) (name : DeclaredTree) where
  -- what is said of the name
  abbrev pub SaysName : Tells (Unit {0})
  SaysName = SaysBy abi (λ n o. DeclaredNameIs storage (named_at n base) name o)

  abbrev pub SizesWalked : List (Option Expr) → List Size → Context → Context → Found (Unit {0}) → Type 0
  SizesWalked items sizes = Walked (Says abi (λ o. DeclaredSizesAre (is_fixed_size storage) items o)) (some_sizes sizes)

  module _ (items : List (Option Expr)) (sizes : List Size) (old mid : Context) (counted : Found (Unit {0})) (params : (out-Declared name).params ≡ None)
      (same : items ≡ (out-Declared name).sizes) (walked : SizesWalked items sizes old mid counted) where
    there : SizesWalked (out-Declared name).sizes sizes old mid counted
    there = subst (λ (these : List (Option Expr)). SizesWalked these sizes old mid counted) same walked

    -- what is refused in its sizes
    pub sizes_stop : (first : Fault) → counted ≡ FoundRefused first → Stopped SaysName old mid first
    sizes_stop first is =
        let stopped = stopped_of (Says abi (λ o. DeclaredSizesAre (is_fixed_size storage) (out-Declared name).sizes o)) (some_sizes sizes) old mid first counted is there in
        record { grows = stopped.grows; found = λ n agrees. NameWithSizesRefused refl params (stopped.found n agrees) }

    sizes_pass : (told : Unit {0}) → counted ≡ FoundToPass told → Passed (Says abi (λ o. DeclaredSizesAre (is_fixed_size storage) (out-Declared name).sizes o)) (some_sizes sizes) old mid told
    sizes_pass told is = passed_of (Says abi (λ o. DeclaredSizesAre (is_fixed_size storage) (out-Declared name).sizes o)) (some_sizes sizes) old mid told counted is there

    pub sizes_grow : (told : Unit {0}) → counted ≡ FoundToPass told → Grows old mid
    sizes_grow told is = (sizes_pass told is).grows

    -- what is broken at it behind them
    name_breaks : (told : Unit {0}) (new : Context) (first : Fault) → counted ≡ FoundToPass told → NameBreaks abi storage base name sizes mid new first → Stopped SaysName old new first
    name_breaks told new first is breaks =
        let passed = sizes_pass told is in
        record {
          grows = grows_trans old mid new passed.grows (only_types_grows mid new breaks.only_types);
          found = λ n agrees.
              let here : Agrees n mid = agrees_before_types mid new n breaks.only_types agrees in
              let asked = breaks.asked n agrees in
              subst (λ (place : Declared). Finds (language abi n) (declared old) (DeclaredNameIs storage (named_at n base) name (Refused first)) place) (declared_by_types mid new breaks.only_types)
              (NameBroken asked.0 refl params (passed.found n here) asked.1 refl asked.2);
        }

    pub name_broken : (told : Unit {0}) (new : Context) (first : Fault) (answer : Found DeclaredType) → counted ≡ FoundToPass told → answer ≡ FoundRefused first
        → IsNameGiven abi storage base name sizes mid new answer → Stopped SaysName old new first
    name_broken told new first answer is refused gives =
        name_breaks told new first is (subst (λ (f : Found DeclaredType). IsNameGiven abi storage base name sizes mid new f) refused gives)

    module _ (told : Unit {0}) (late new : Context) (t : DeclaredType) (is : counted ≡ FoundToPass told) (gives : NameGives abi storage base name sizes mid late t) where
      -- what stands behind the name, in which it is in scope
      abbrev pub SaysInitialised : Tells (Unit {0})
      SaysInitialised = SaysBy abi (λ n o. InitialisedIs (name_of (out-Declared name)) (given storage (declared_type_at n t)) (out-Declared name).init o)

      name_in_front : (n : Numbering) (outcome : Outcome (Unit {0})) → Agrees n late → SaysInitialised n (declared late) outcome (declared new)
          → SaysName n (declared old) (with_front (map (handed_at n) (sizes_pass told is).rows) outcome) (declared new)
      name_in_front n outcome agrees found =
          let here : Agrees n mid = agrees_before mid late n gives.grows agrees in
          let asked = gives.asked n agrees in
          let behind_it = subst (λ (before : Declared). Finds (language abi n) before (InitialisedIs (name_of (out-Declared name)) (given storage (declared_type_at n t)) (out-Declared name).init outcome) (declared new)) (gives.declares n agrees) found in
          NameGiven asked.0 refl params ((sizes_pass told is).found n here) asked.1 asked.2
          (subst (λ (g : Given). Finds (language abi n) (name_declared (language abi n) (out-Declared name).name (out-Declared name).place.at g (declared mid)) (InitialisedIs (name_of (out-Declared name)) g (out-Declared name).init outcome) (declared new))
          (ap (given storage) (gives.meant n agrees)) behind_it)

      name_found : (found : Found (Unit {0})) → Walked SaysInitialised nothing late new found → Walked SaysName nothing old new found
      name_found (FoundToPass last) passed =
          let front = sizes_pass told is in
          record {
            rows = front.rows ++ passed.rows;
            handed = handed_behind old.handed mid.handed new.handed front.rows passed.rows front.handed (passed.handed ∙ ap (λ (rows : List HandedRow). rows ++ passed.rows) gives.handed);
            grows = grows_trans old mid new front.grows (grows_trans mid late new gives.grows passed.grows);
            below = tt;
            found = λ n agrees.
                subst (λ (handed : List Handed). SaysName n (declared old) (Passes tt handed) (declared new)) (sym (map-append (handed_at n) front.rows passed.rows))
                (name_in_front n (Passes tt (map (handed_at n) passed.rows)) (agrees_before late new n passed.grows agrees) (passed.found n agrees));
          }
      name_found (FoundRefused first) stopped = record {
        grows = grows_trans old mid new (sizes_pass told is).grows (grows_trans mid late new gives.grows stopped.grows);
        found = λ n agrees. name_in_front n (Refused first) (agrees_before late new n stopped.grows agrees) (stopped.found n agrees);
      }

      name_walked : (r : Result (Found (Unit {0})) NoMemory) → IfOk r (λ found. Walked SaysInitialised nothing late new found) → IfOk r (λ found. Walked SaysName nothing old new found)
      name_walked (Ok found) walked = name_found found walked
      name_walked (Err error) walked = tt

    -- a name that is given its type, as code reads that
    pub gives_of : (late : Context) (t : DeclaredType) (answer : Found DeclaredType) → answer ≡ FoundToPass t → IsNameGiven abi storage base name sizes mid late answer → NameGives abi storage base name sizes mid late t
    gives_of late t answer passes gives = subst (λ (f : Found DeclaredType). IsNameGiven abi storage base name sizes mid late f) passes gives

    pub name_initialised : (told : Unit {0}) (late new : Context) (t : DeclaredType) (answer : Found DeclaredType) (r : Result (Found (Unit {0})) NoMemory) → counted ≡ FoundToPass told → answer ≡ FoundToPass t
        → IsNameGiven abi storage base name sizes mid late answer
        → IfOk r (λ found. Walked (SaysBy abi (λ n o. InitialisedIs (name_of (out-Declared name)) (given storage (declared_type_at n t)) (out-Declared name).init o)) nothing late new found)
        → IfOk r (λ found. Walked SaysName nothing old new found)
    name_initialised told late new t answer r is passes gives walked = name_walked told late new t is (gives_of late t answer passes gives) r walked

-- rows in front of what is found
front_of_nothing : (outcome : Outcome (Unit {0})) → with_front [] outcome ≡ outcome
front_of_nothing (Passes told further) = refl
front_of_nothing (Refused first) = refl

front_twice : (handed further : List Handed) (outcome : Outcome (Unit {0})) → with_front handed (with_front further outcome) ≡ with_front (handed ++ further) outcome
front_twice handed further (Passes told rows) = λ i. Passes told (sym (append_assoc handed further rows) i)
front_twice handed further (Refused first) = refl

module _ (abi : Abi) (storage : Storage) (base : NamedByNumber) (names : List DeclaredTree) where
  -- what is said of names
  abbrev pub SaysNames : List DeclaredTree → Tells (Unit {0})
  SaysNames these = SaysBy abi (λ n o. DeclaredNamesAre storage (named_at n base) these o)

  -- names of which so many are walked: what is found of the rest makes what is found of all
  pub record Names (old new : Context) (index : ℕ) : Type 0 where
    pub rows : List HandedRow
    pub handed : new.handed ≡ old.handed ++ rows
    pub grows : Grows old new
    pub goes : (n : Numbering) → Agrees n new → (outcome : Outcome (Unit {0})) (after : Declared)
        → SaysNames (drop index names) n (declared new) outcome after
        → SaysNames names n (declared old) (with_front (map (handed_at n) rows) outcome) after

  pub names_start : (context : Context) → Names context context 0
  names_start context = record {
    rows = [];
    handed = sym (append-nil context.handed);
    grows = grows_same context;
    goes = λ n agrees outcome after found.
        subst (λ (o : Outcome (Unit {0})). SaysNames names n (declared context) o after) (sym (front_of_nothing outcome)) found;
  }

  -- one more name
  pub names_next : (old mid new : Context) (index : ℕ) (name : DeclaredTree) (told : Unit {0}) (found : Found (Unit {0})) → index < length names → name ≡ get_or names index name → found ≡ FoundToPass told
      → Walked (SaysName abi storage base name) nothing mid new found → Names old mid index → Names old new (index + 1)
  names_next old mid new index name told found within is passes walked walk =
      let passed = passed_of (SaysName abi storage base name) nothing mid new told found passes walked in
      record {
        rows = walk.rows ++ passed.rows;
        handed = handed_behind old.handed mid.handed new.handed walk.rows passed.rows walk.handed passed.handed;
        grows = grows_trans old mid new walk.grows passed.grows;
        goes = λ n agrees outcome after rest.
            let whole = walk.goes n (agrees_before mid new n passed.grows agrees) (with_front (map (handed_at n) passed.rows) outcome) after
            (subst (λ (these : List DeclaredTree). SaysNames these n (declared mid) (with_front (map (handed_at n) passed.rows) outcome) after) (sym (next_item names index name within is))
            (MoreDeclarators (passed.found n agrees) rest)) in
            let twice = front_twice (map (handed_at n) walk.rows) (map (handed_at n) passed.rows) outcome in
            let rows = ap (λ (handed : List Handed). with_front handed outcome) (sym (map-append (handed_at n) walk.rows passed.rows)) in
            subst (λ (o : Outcome (Unit {0})). SaysNames names n (declared old) o after) (twice ∙ rows) whole;
      }

  -- and one that is refused
  pub names_refused : (old mid new : Context) (index : ℕ) (name : DeclaredTree) (first : Fault) (found : Found (Unit {0})) → index < length names → name ≡ get_or names index name → found ≡ FoundRefused first
      → Walked (SaysName abi storage base name) nothing mid new found → Names old mid index → Stopped (SaysNames names) old new first
  names_refused old mid new index name first found within is refused walked walk =
      let stopped = stopped_of (SaysName abi storage base name) nothing mid new first found refused walked in
      record {
        grows = grows_trans old mid new walk.grows stopped.grows;
        found = λ n agrees. walk.goes n (agrees_before mid new n stopped.grows agrees) (Refused first) (declared new)
            (subst (λ (these : List DeclaredTree). SaysNames these n (declared mid) (Refused first) (declared new)) (sym (next_item names index name within is))
            (DeclaratorRefused (stopped.found n agrees)));
      }

  pub names_end : (old new : Context) (index : ℕ) → length names ≤ index → Names old new index → Passed (SaysNames names) nothing old new tt
  names_end old new index past walk = record {
    rows = walk.rows;
    handed = walk.handed;
    grows = walk.grows;
    below = tt;
    found = λ n agrees.
        let whole = walk.goes n agrees (Passes tt []) (declared new)
        (subst (λ (these : List DeclaredTree). SaysNames these n (declared new) (Passes tt []) (declared new)) (sym (drop_all index names past)) NoMoreDeclarators) in
        subst (λ (handed : List Handed). SaysNames names n (declared old) (Passes tt handed) (declared new)) (append-nil (map (handed_at n) walk.rows)) whole;
  }
