-- What is found of the members of a struct: declarations one behind the other, the names of one, and a member of a name.
use Rattle.std.proofs.Common.{◌≡◌, ◌<◌, ◌≤◌, ◌+◌, ◌∙◌, ℕ, List, [], ◌∷◌, ◌++◌, map, drop, length, get_or, refl, sym, ap, subst, append-nil, Option, Result, Ok, Err, IfOk, All}
use Rattle.std.proofs.lemmas.List.{append_assoc, map-append, drop_all}
use Rattle.cbase.specs.declared.abi.Abi.{Abi}
use Rattle.cbase.specs.declared.layout.Layout.{Layout}
use Rattle.cbase.specs.declared.no_memory.NoMemory.{NoMemory}
use Rattle.cbase.specs.declared.structs.Field.{Field}
use Rattle.cbase.specs.declared.structs.StructDef.{StructDef}
use Rattle.cbase.specs.declared.tree.expr.Expr.{Expr}
use Rattle.cbase.specs.declared.tree.expr.ExprForm.TheViews.{out-TypeSpec, out-FieldDecl, out-FieldName}
use Rattle.cbase.specs.declared.tree.spec.FieldDecl.{FieldDecl}
use Rattle.cbase.specs.declared.tree.spec.FieldName.{FieldName}
use Rattle.typing.specs.declared.ctypes.structs.Member.{Member}
use Rattle.typing.specs.environment.Names.{Entries}
use Rattle.typing.specs.declared.fault.Fault.{Fault}
use Rattle.typing.specs.declared.size.Size.{Size}
use Rattle.typing.specs.Braces.{member, faults_of_member, name_or_none}
use Rattle.typing.specs.Faults.{IsFirst}
use Rattle.typing.specs.Outcomes.{Outcome, Handed, Passes, Refused, with_front}
use Rattle.typing.specs.Typing.{Saying, WordsAre, MembersAre, DeclarationIs, NamesAre, MemberIs, MemberSizesAre, WidthIs, Finds, NoDeclarations, MoreDeclarations, DeclarationRefused, MembersDeclared, MemberWordsRefused, NoNames, MoreNames, NameRefused, MemberFound, MemberSizesRefused, MemberWidthRefused}
use Rattle.expressions.specs.declared.found.Found.{Found}
use Rattle.expressions.specs.declared.found.Found.TheVariants.{Passes as FoundToPass, Refused as FoundRefused}
use Rattle.expressions.specs.declared.handed_row.HandedRow.{HandedRow}
use Rattle.expressions.specs.declared.named_type.NamedType.{NamedType as NamedByNumber}
use Rattle.expressions.specs.Context.{Context, Declared, declared, Agrees, Grows}
use Rattle.expressions.specs.Counted.{WherePasses}
use Rattle.expressions.specs.Declaring.{IsMemberTaken}
use Rattle.expressions.specs.Found.{a_type, some_sizes, some_members, nothing}
use Rattle.expressions.specs.Members.{AreMembers}
use Rattle.expressions.specs.Numbers.{Numbering, named_at, handed_at, fields_at, field_at}
use Rattle.expressions.specs.Language.{language}
use Rattle.expressions.specs.Types.{IsDeclared}
use Rattle.expressions.specs.Walked.{Passed, Stopped, Walked, Says, SaysBy}
use Rattle.expressions.proofs.Growth.{agrees_before, grows_same, grows_trans, only_types_grows}
use Rattle.expressions.proofs.Loops.{next_item}
use Rattle.expressions.proofs.TypeWords.{declared_by_types}
use Rattle.expressions.proofs.Walking.{handed_behind, passed_of, stopped_of}

-- rows in front of what is found
pub front_of_nothing : {A : Type 0} (outcome : Outcome A) → with_front [] outcome ≡ outcome
front_of_nothing (Passes told further) = refl
front_of_nothing (Refused first) = refl

pub front_twice : {A : Type 0} (handed further : List Handed) (outcome : Outcome A) → with_front handed (with_front further outcome) ≡ with_front (handed ++ further) outcome
front_twice handed further (Passes told rows) = λ i. Passes told (sym (append_assoc handed further rows) i)
front_twice handed further (Refused first) = refl

-- what holds where a part passes
pub where_passes : {A : Type 0} (Holds : Type 0) (told : A) (found : Found A) → found ≡ FoundToPass told → WherePasses found Holds → Holds
where_passes {A} Holds told found is holds = subst (λ (f : Found A). WherePasses f Holds) is holds

-- the numbers in the members are those of types, whatever the members are called
pub members_below : (context : Context) (members items : List Member) (names : Entries (Unit {0})) (layout : Layout) (r : Result (Found (Unit {0})) NoMemory) → items ≡ members
    → IfOk r (λ found. WherePasses found (AreMembers context members names layout)) → IfOk r (λ found. WherePasses found (All (λ member. member.ctype < length context.types) items))
members_below context members items names layout (Ok (FoundToPass told)) same are = subst (λ (these : List Member). All (λ member. member.ctype < length context.types) these) (sym same) are.below
members_below context members items names layout (Ok (FoundRefused first)) same are = tt
members_below context members items names layout (Err error) same are = tt

-- how parts of a struct that stand one behind the other are found: each of them behind the members before it
pub record InOrder {X : Type 0} (abi : Abi) (say : Numbering → List Field → List X → Outcome (List Field) → Saying)
    (one : Numbering → List Field → X → Outcome (List Field) → Saying) : Type 0 where
  pub none : (n : Numbering) (env : Declared) (members : List Field) → Finds (language abi n) env (say n members [] (Passes members [])) env
  pub more : (n : Numbering) (before middle after : Declared) (members further : List Field) (item : X) (rest : List X) (handed : List Handed) (outcome : Outcome (List Field))
      → Finds (language abi n) before (one n members item (Passes further handed)) middle
      → Finds (language abi n) middle (say n further rest outcome) after
      → Finds (language abi n) before (say n members (item ∷ rest) (with_front handed outcome)) after
  pub refused : (n : Numbering) (before after : Declared) (members : List Field) (item : X) (rest : List X) (first : Fault)
      → Finds (language abi n) before (one n members item (Refused first)) after
      → Finds (language abi n) before (say n members (item ∷ rest) (Refused first)) after

pub declarations_in_order : (abi : Abi) → InOrder abi (λ n members fields o. MembersAre members fields o) (λ n members field o. DeclarationIs members field o)
declarations_in_order abi = record {
  none = λ n env members. NoDeclarations;
  more = λ n before middle after members further item rest handed outcome found behind_it. MoreDeclarations found behind_it;
  refused = λ n before after members item rest first found. DeclarationRefused found;
}

pub names_in_order : (abi : Abi) (base : NamedByNumber)
    → InOrder abi (λ n members names o. NamesAre (named_at n base) members names o) (λ n members name o. MemberIs (named_at n base) members name o)
names_in_order abi base = record {
  none = λ n env members. NoNames;
  more = λ n before middle after members further item rest handed outcome found behind_it. MoreNames found behind_it;
  refused = λ n before after members item rest first found. NameRefused found;
}

module _ {X : Type 0} (abi : Abi) (say : Numbering → List Field → List X → Outcome (List Field) → Saying)
    (one : Numbering → List Field → X → Outcome (List Field) → Saying) (items : List X) (before : List Member) where
  -- parts of which so many are walked, behind which these are the members: what is found of the rest makes what is found of all
  pub record Behind (members : List Member) (old new : Context) (index : ℕ) : Type 0 where
    pub rows : List HandedRow
    pub handed : new.handed ≡ old.handed ++ rows
    pub grows : Grows old new
    pub goes : (n : Numbering) → Agrees n new → (outcome : Outcome (List Field)) (after : Declared)
        → Finds (language abi n) (declared new) (say n (fields_at n members) (drop index items) outcome) after
        → Finds (language abi n) (declared old) (say n (fields_at n before) items (with_front (map (handed_at n) rows) outcome)) after

  pub behind_start : (context : Context) → Behind before context context 0
  behind_start context = record {
    rows = [];
    handed = sym (append-nil context.handed);
    grows = grows_same context;
    goes = λ n agrees outcome after found.
        subst (λ (o : Outcome (List Field)). Finds (language abi n) (declared context) (say n (fields_at n before) items o) after) (sym (front_of_nothing outcome)) found;
  }

  -- a part that passes
  pub behind_next : (order : InOrder abi say one) (members more : List Member) (old mid new : Context) (index : ℕ) (item : X) (told : Unit {0}) (found : Found (Unit {0}))
      → index < length items → item ≡ get_or items index item → found ≡ FoundToPass told
      → Walked (SaysBy abi (λ n o. one n (fields_at n members) item o)) (some_members more) mid new found
      → Behind members old mid index → Behind more old new (index + 1)
  behind_next order members more old mid new index item told found within is passes walked walk =
      let passed = passed_of (SaysBy abi (λ n o. one n (fields_at n members) item o)) (some_members more) mid new told found passes walked in
      record {
        rows = walk.rows ++ passed.rows;
        handed = handed_behind old.handed mid.handed new.handed walk.rows passed.rows walk.handed passed.handed;
        grows = grows_trans old mid new walk.grows passed.grows;
        goes = λ n agrees outcome after rest.
            let whole = walk.goes n (agrees_before mid new n passed.grows agrees) (with_front (map (handed_at n) passed.rows) outcome) after
            (subst (λ (these : List X). Finds (language abi n) (declared mid) (say n (fields_at n members) these (with_front (map (handed_at n) passed.rows) outcome)) after) (sym (next_item items index item within is))
            (order.more n (declared mid) (declared new) after (fields_at n members) (fields_at n more) item (drop (index + 1) items) (map (handed_at n) passed.rows) outcome (passed.found n agrees) rest)) in
            let twice = front_twice (map (handed_at n) walk.rows) (map (handed_at n) passed.rows) outcome in
            let rows = ap (λ (handed : List Handed). with_front handed outcome) (sym (map-append (handed_at n) walk.rows passed.rows)) in
            subst (λ (o : Outcome (List Field)). Finds (language abi n) (declared old) (say n (fields_at n before) items o) after) (twice ∙ rows) whole;
      }

  -- and one that is refused
  pub behind_refused : (order : InOrder abi say one) (members more : List Member) (old mid new : Context) (index : ℕ) (item : X) (first : Fault) (found : Found (Unit {0}))
      → index < length items → item ≡ get_or items index item → found ≡ FoundRefused first
      → Walked (SaysBy abi (λ n o. one n (fields_at n members) item o)) (some_members more) mid new found
      → Behind members old mid index → Stopped (SaysBy abi (λ n o. say n (fields_at n before) items o)) old new first
  behind_refused order members more old mid new index item first found within is refused walked walk =
      let stopped = stopped_of (SaysBy abi (λ n o. one n (fields_at n members) item o)) (some_members more) mid new first found refused walked in
      record {
        grows = grows_trans old mid new walk.grows stopped.grows;
        found = λ n agrees. walk.goes n (agrees_before mid new n stopped.grows agrees) (Refused first) (declared new)
            (subst (λ (these : List X). Finds (language abi n) (declared mid) (say n (fields_at n members) these (Refused first)) (declared new)) (sym (next_item items index item within is))
            (order.refused n (declared mid) (declared new) (fields_at n members) item (drop (index + 1) items) first (stopped.found n agrees)));
      }

  pub behind_end : (order : InOrder abi say one) (members : List Member) (old new : Context) (index : ℕ) → length items ≤ index
      → All (λ member. member.ctype < length new.types) members
      → Behind members old new index → Passed (SaysBy abi (λ n o. say n (fields_at n before) items o)) (some_members members) old new tt
  behind_end order members old new index past below walk = record {
    rows = walk.rows;
    handed = walk.handed;
    grows = walk.grows;
    below = below;
    found = λ n agrees.
        let whole = walk.goes n agrees (Passes (fields_at n members) []) (declared new)
        (subst (λ (these : List X). Finds (language abi n) (declared new) (say n (fields_at n members) these (Passes (fields_at n members) [])) (declared new)) (sym (drop_all index items past))
        (order.none n (declared new) (fields_at n members))) in
        subst (λ (handed : List Handed). Finds (language abi n) (declared old) (say n (fields_at n before) items (Passes (fields_at n members) handed)) (declared new)) (append-nil (map (handed_at n) walk.rows)) whole;
  }

module _ (abi : Abi) (field : FieldDecl) (before : List Member) where
  -- what is said of a declaration behind those members
  abbrev pub SaysDeclaration : Numbering → Declared → Outcome (List Field) → Declared → Type 0
  SaysDeclaration = SaysBy abi (λ n o. DeclarationIs (fields_at n before) field o)

  -- what is refused in its words
  pub words_stop : (old new : Context) (first : Fault) (found : Found NamedByNumber) → found ≡ FoundRefused first
      → Walked (Says abi (λ o. WordsAre (out-TypeSpec (out-FieldDecl field).spec) o)) a_type old new found → Stopped SaysDeclaration old new first
  words_stop old new first found is walked =
      let stopped = stopped_of (Says abi (λ o. WordsAre (out-TypeSpec (out-FieldDecl field).spec) o)) a_type old new first found is walked in
      record { grows = stopped.grows; found = λ n agrees. MemberWordsRefused refl refl (stopped.found n agrees) }

  pub words_grow : (old new : Context) (base : NamedByNumber) (found : Found NamedByNumber) → found ≡ FoundToPass base
      → Walked (Says abi (λ o. WordsAre (out-TypeSpec (out-FieldDecl field).spec) o)) a_type old new found → Grows old new
  words_grow old new base found is walked = (passed_of (Says abi (λ o. WordsAre (out-TypeSpec (out-FieldDecl field).spec) o)) a_type old new base found is walked).grows

  -- and its names behind its words
  named_members : (old mid new : Context) (base : NamedByNumber) (after : List Member) (names : List FieldName) (found : Found (Unit {0})) → names ≡ (out-FieldDecl field).names
      → Passed (Says abi (λ o. WordsAre (out-TypeSpec (out-FieldDecl field).spec) o)) a_type old mid base
      → Walked (SaysBy abi (λ n o. NamesAre (named_at n base) (fields_at n before) names o)) (some_members after) mid new found
      → Walked SaysDeclaration (some_members after) old new found
  named_members old mid new base after names (FoundToPass told) same words walked = record {
    rows = words.rows ++ walked.rows;
    handed = handed_behind old.handed mid.handed new.handed words.rows walked.rows words.handed walked.handed;
    grows = grows_trans old mid new words.grows walked.grows;
    below = walked.below;
    found = λ n agrees.
        let there = subst (λ (these : List FieldName). Finds (language abi n) (declared mid) (NamesAre (named_at n base) (fields_at n before) these (Passes (fields_at n after) (map (handed_at n) walked.rows))) (declared new)) same (walked.found n agrees) in
        subst (λ (handed : List Handed). Finds (language abi n) (declared old) (DeclarationIs (fields_at n before) field (Passes (fields_at n after) handed)) (declared new)) (sym (map-append (handed_at n) words.rows walked.rows))
        (MembersDeclared refl refl (words.found n (agrees_before mid new n walked.grows agrees)) there);
  }
  named_members old mid new base after names (FoundRefused first) same words walked = record {
    grows = grows_trans old mid new words.grows walked.grows;
    found = λ n agrees.
        let there = subst (λ (these : List FieldName). Finds (language abi n) (declared mid) (NamesAre (named_at n base) (fields_at n before) these (Refused first)) (declared new)) same (walked.found n agrees) in
        MembersDeclared refl refl (words.found n (agrees_before mid new n walked.grows agrees)) there;
  }

  pub declaration_found : (old mid new : Context) (base : NamedByNumber) (after : List Member) (names : List FieldName) (words : Found NamedByNumber) (r : Result (Found (Unit {0})) NoMemory)
      → names ≡ (out-FieldDecl field).names → words ≡ FoundToPass base
      → Walked (Says abi (λ o. WordsAre (out-TypeSpec (out-FieldDecl field).spec) o)) a_type old mid words
      → IfOk r (λ found. Walked (SaysBy abi (λ n o. NamesAre (named_at n base) (fields_at n before) names o)) (some_members after) mid new found)
      → IfOk r (λ found. Walked SaysDeclaration (some_members after) old new found)
  declaration_found old mid new base after names words (Ok found) same is walked behind_it =
      named_members old mid new base after names found same (passed_of (Says abi (λ o. WordsAre (out-TypeSpec (out-FieldDecl field).spec) o)) a_type old mid base words is walked) behind_it
  declaration_found old mid new base after names words (Err error) same is walked behind_it = tt

module _ (abi : Abi) (base : NamedByNumber) (name : FieldName) (before : List Member) where
  -- what is said of a member behind those
  abbrev pub SaysMember : Numbering → Declared → Outcome (List Field) → Declared → Type 0
  SaysMember = SaysBy abi (λ n o. MemberIs (named_at n base) (fields_at n before) name o)

  abbrev pub SizesWalked : List (Option Expr) → List Size → Context → Context → Found (Unit {0}) → Type 0
  SizesWalked items sizes = Walked (Says abi (λ o. MemberSizesAre items o)) (some_sizes sizes)

  abbrev pub WidthWalked : Context → Context → Found (Unit {0}) → Type 0
  WidthWalked = Walked (Says abi (λ o. WidthIs (out-FieldName name).bits o)) nothing

  -- its sizes, whatever they are called
  sizes_of : (items : List (Option Expr)) (sizes : List Size) (old new : Context) (found : Found (Unit {0})) → items ≡ (out-FieldName name).sizes
      → SizesWalked items sizes old new found → SizesWalked (out-FieldName name).sizes sizes old new found
  sizes_of items sizes old new found same walked = subst (λ (these : List (Option Expr)). SizesWalked these sizes old new found) same walked

  -- what is refused in them
  pub sizes_stop : (items : List (Option Expr)) (sizes : List Size) (old new : Context) (first : Fault) (found : Found (Unit {0})) → items ≡ (out-FieldName name).sizes → found ≡ FoundRefused first
      → SizesWalked items sizes old new found → Stopped SaysMember old new first
  sizes_stop items sizes old new first found same is walked =
      let stopped = stopped_of (Says abi (λ o. MemberSizesAre (out-FieldName name).sizes o)) (some_sizes sizes) old new first found is (sizes_of items sizes old new found same walked) in
      record { grows = stopped.grows; found = λ n agrees. MemberSizesRefused refl (stopped.found n agrees) }

  module _ (items : List (Option Expr)) (sizes : List Size) (old mid late : Context) (counted : Unit {0}) (counts width : Found (Unit {0})) where
    -- what is refused in its width
    pub width_stop : (first : Fault) → items ≡ (out-FieldName name).sizes → counts ≡ FoundToPass counted → width ≡ FoundRefused first
        → SizesWalked items sizes old mid counts → WidthWalked mid late width → Stopped SaysMember old late first
    width_stop first same passes is walked wide =
        let passed = passed_of (Says abi (λ o. MemberSizesAre (out-FieldName name).sizes o)) (some_sizes sizes) old mid counted counts passes (sizes_of items sizes old mid counts same walked) in
        let stopped = stopped_of (Says abi (λ o. WidthIs (out-FieldName name).bits o)) nothing mid late first width is wide in
        record {
          grows = grows_trans old mid late passed.grows stopped.grows;
          found = λ n agrees. MemberWidthRefused refl (passed.found n (agrees_before mid late n stopped.grows agrees)) (stopped.found n agrees);
        }

    -- the context grows behind both
    pub parts_grow : (bits : Unit {0}) → items ≡ (out-FieldName name).sizes → counts ≡ FoundToPass counted → width ≡ FoundToPass bits
        → SizesWalked items sizes old mid counts → WidthWalked mid late width → Grows old late
    parts_grow bits same passes is walked wide =
        let passed = passed_of (Says abi (λ o. MemberSizesAre (out-FieldName name).sizes o)) (some_sizes sizes) old mid counted counts passes (sizes_of items sizes old mid counts same walked) in
        let further = passed_of (Says abi (λ o. WidthIs (out-FieldName name).bits o)) nothing mid late bits width is wide in
        grows_trans old mid late passed.grows further.grows

    -- the member at its name behind both, and what is found there
    member_walked : (bits : Unit {0}) (later : Context) (named : NamedByNumber) (after : List Member) (names : Entries (Unit {0})) (layout : Layout) (found : Found (Unit {0})) → items ≡ (out-FieldName name).sizes → counts ≡ FoundToPass counted
        → width ≡ FoundToPass bits → SizesWalked items sizes old mid counts → WidthWalked mid late width → IsDeclared abi base (out-FieldName name).stars sizes late later named
        → IsMemberTaken abi later before after name named found → WherePasses found (AreMembers later after names layout)
        → Walked SaysMember (some_members after) old later found
    member_walked bits later named after names layout (FoundToPass told) same passes is walked wide declares taken are =
        let passed = passed_of (Says abi (λ o. MemberSizesAre (out-FieldName name).sizes o)) (some_sizes sizes) old mid counted counts passes (sizes_of items sizes old mid counts same walked) in
        let further = passed_of (Says abi (λ o. WidthIs (out-FieldName name).bits o)) nothing mid late bits width is wide in
        let only = declares.only_types in
        record {
          rows = passed.rows ++ further.rows;
          handed = only.handed ∙ handed_behind old.handed mid.handed late.handed passed.rows further.rows passed.handed further.handed;
          grows = grows_trans old mid later passed.grows (grows_trans mid late later further.grows (only_types_grows late later only));
          below = are.below;
          found = λ n agrees.
              let here : Agrees n late = agrees_before late later n (only_types_grows late later only) agrees in
              let there : Agrees n mid = agrees_before mid late n further.grows here in
              let all : fields_at n after ≡ fields_at n before ++ member (out-FieldName name).name (n.ctype named.ctype) ∷ [] =
              ap (fields_at n) taken.1 ∙ map-append (field_at n) before (record { name = name_or_none (out-FieldName name).name; ctype = named.ctype } ∷ []) in
              let unbroken : faults_of_member abi late.structs (fields_at n before) (out-FieldName name) (named_at n named) ≡ [] =
              subst (λ (structs : List StructDef). faults_of_member abi structs (fields_at n before) (out-FieldName name) (named_at n named) ≡ []) only.structs (taken.0 n agrees) in
              subst (λ (place : Declared). Finds (language abi n) (declared old) (MemberIs (named_at n base) (fields_at n before) name (Passes (fields_at n after) (map (handed_at n) (passed.rows ++ further.rows)))) place) (declared_by_types late later only)
              (MemberFound refl (passed.found n there) (further.found n here) (sym (declares.meant n agrees)) refl (unbroken, all, map-append (handed_at n) passed.rows further.rows));
        }
    member_walked bits later named after names layout (FoundRefused first) same passes is walked wide declares taken are =
        let passed = passed_of (Says abi (λ o. MemberSizesAre (out-FieldName name).sizes o)) (some_sizes sizes) old mid counted counts passes (sizes_of items sizes old mid counts same walked) in
        let further = passed_of (Says abi (λ o. WidthIs (out-FieldName name).bits o)) nothing mid late bits width is wide in
        let only = declares.only_types in
        record {
          grows = grows_trans old mid later passed.grows (grows_trans mid late later further.grows (only_types_grows late later only));
          found = λ n agrees.
              let here : Agrees n late = agrees_before late later n (only_types_grows late later only) agrees in
              let there : Agrees n mid = agrees_before mid late n further.grows here in
              let broken : IsFirst (faults_of_member abi late.structs (fields_at n before) (out-FieldName name) (named_at n named)) first =
              subst (λ (structs : List StructDef). IsFirst (faults_of_member abi structs (fields_at n before) (out-FieldName name) (named_at n named)) first) only.structs (taken n agrees) in
              subst (λ (place : Declared). Finds (language abi n) (declared old) (MemberIs (named_at n base) (fields_at n before) name (Refused first)) place) (declared_by_types late later only)
              (MemberFound refl (passed.found n there) (further.found n here) (sym (declares.meant n agrees)) refl broken);
        }

    pub member_found : (bits : Unit {0}) (later : Context) (named : NamedByNumber) (after : List Member) (names : Entries (Unit {0})) (layout : Layout) (r : Result (Found (Unit {0})) NoMemory) → items ≡ (out-FieldName name).sizes
        → counts ≡ FoundToPass counted → width ≡ FoundToPass bits → SizesWalked items sizes old mid counts → WidthWalked mid late width → IsDeclared abi base (out-FieldName name).stars sizes late later named
        → IfOk r (λ found. IsMemberTaken abi later before after name named found) → IfOk r (λ found. WherePasses found (AreMembers later after names layout))
        → IfOk r (λ found. Walked SaysMember (some_members after) old later found)
    member_found bits later named after names layout (Ok found) same passes is walked wide declares taken are = member_walked bits later named after names layout found same passes is walked wide declares taken are
    member_found bits later named after names layout (Err error) same passes is walked wide declares taken are = tt
