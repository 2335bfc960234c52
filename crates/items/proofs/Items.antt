-- What is found of an item of a file: of a declaration with its names, of a name of a function, and of a function with its body.
use Rattle.std.proofs.Common.{◌≡◌, ◌∙◌, ◌<◌, ℕ, length, List, [], ◌∷◌, map, append-nil, refl, sym, ap, subst, false, true, Option, None, Some, Result, IfOk}
use Rattle.std.specs.Prelude.{is_some}
use Rattle.cbase.specs.declared.abi.Abi.{Abi}
use Rattle.cbase.specs.declared.ctype.CType.{CType}
use Rattle.cbase.specs.declared.no_memory.NoMemory.{NoMemory}
use Rattle.cbase.specs.declared.place.Place.{Place}
use Rattle.cbase.specs.declared.tree.decl.Decl.{Decl}
use Rattle.cbase.specs.declared.tree.decl.Declared.{Declared as DeclaredTree}
use Rattle.cbase.specs.declared.tree.decl.Param.{Param}
use Rattle.cbase.specs.declared.tree.decl.Storage.{Storage}
use Rattle.cbase.specs.declared.tree.expr.ExprForm.TheViews.{out-Decl, out-Declared, out-TypeSpec}
use Rattle.cbase.specs.declared.tree.item.Item.{Item}
use Rattle.cbase.specs.declared.tree.item.Item.TheVariants.{Empty, Declare, Function}
use Rattle.cbase.specs.declared.tree.spec.TypeSpec.{TypeSpec}
use Rattle.cbase.specs.declared.tree.stmt.Stmt.{Stmt}
use Rattle.typing.specs.environment.Environment.{function_set}
use Rattle.typing.specs.declared.fault.Fault.{Fault}
use Rattle.typing.specs.Declarations.{is_typedef}
use Rattle.typing.specs.Items.{ItemIs, FileNameIs, FileNamesAre, HeadIs, DefinitionIs, FindsInFile, EmptyItem, NamelessItem, ItemWithNames, ItemWordsRefused, FunctionItem, FunctionWordsRefused, FileTypedef, FileFunction}
use Rattle.typing.specs.NamedTypes.{NamedType}
use Rattle.typing.specs.Outcomes.{Outcome, Handed, Passes, Refused, with_front}
use Rattle.typing.specs.Statements.{without_value}
use Rattle.typing.specs.Typing.{DeclaredIs, DeclaredNameIs, WordsAre}
use Rattle.expressions.specs.declared.found.Found.{Found}
use Rattle.expressions.specs.declared.found.Found.TheVariants.{Passes as FoundToPass, Refused as FoundRefused}
use Rattle.expressions.specs.declared.named_type.NamedType.{NamedType as NamedByNumber}
use Rattle.expressions.specs.Context.{Context, Declared, declared, Grows}
use Rattle.expressions.specs.FileScope.{file_scope, result_set}
use Rattle.expressions.specs.Found.{a_type, a_value_type, nothing}
use Rattle.expressions.specs.Language.{language, left}
use Rattle.expressions.specs.Numbers.{Numbering, handed_at, named_at}
use Rattle.expressions.specs.Walked.{Tells, Passed, Stopped, Walked, Says, SaysBy}
use Rattle.expressions.proofs.Blocks.{outside}
use Rattle.expressions.proofs.Growth.{agrees_before, grows_same, grows_trans}
use Rattle.expressions.proofs.TypeWords.{grows_to}
use Rattle.expressions.proofs.Walking.{passed_of, stopped_of}
use Rattle.items.proofs.declarations.DeclaredNames.{walked_by}
use Rattle.items.specs.InFile.{SaysInFile, SaysInFileBy}
use Rattle.items.specs.Names.{found_alone}
use Rattle.items.proofs.Behind.{closed_behind, in_front, of_result}

-- the scope of the parameters is left, with nothing else changed
leaves : (late new : Context) → new ≡ outside late → Grows late new
leaves late new closed = grows_to late new (ap (λ (c : Context). c.types) closed) (rw (ap (λ (c : Context). c.structs) closed) (λ at item is. is)) (ap (λ (c : Context). c.environment.signatures) closed)

-- in no function
abbrev pub in_none : Context → Context
in_none context = record context { environment = function_set None context.environment }

-- the number of the type that words hold
pub words_below : (abi : Abi) (spec : TypeSpec) (old mid : Context) (words : Found NamedByNumber) (base : NamedByNumber) → words ≡ FoundToPass base
    → Walked (Says abi (λ o. WordsAre (out-TypeSpec spec) o)) a_type old mid words → base.ctype < length mid.types
words_below abi spec old mid words base is walked = (passed_of (Says abi (λ o. WordsAre (out-TypeSpec spec) o)) a_type old mid base words is walked).below

module _ (abi : Abi) (place : Place) where
  abbrev pub SaysItem : Item → Tells (Unit {0})
  SaysItem item = SaysInFile abi (λ o. ItemIs place item o)

  -- a `;` alone
  empty_item : (context : Context) → Passed (SaysItem Empty) nothing context context tt
  empty_item context = record {
    rows = [];
    handed = sym (append-nil context.handed);
    grows = grows_same context;
    below = tt;
    found = λ n agrees. EmptyItem;
  }

  pub empty_as : (item : Item) (context : Context) → item ≡ Empty → Passed (SaysItem item) nothing context context tt
  empty_as item context is = subst (λ (one : Item). Passed (SaysItem one) nothing context context tt) (sym is) (empty_item context)

  -- an item, as code reads it
  pub item_as : (item known : Item) (old new : Context) (r : Result (Found (Unit {0})) NoMemory) → item ≡ known
      → IfOk r (λ found. Walked (SaysItem known) nothing old new found) → IfOk r (λ found. Walked (SaysItem item) nothing old new found)
  item_as item known old new r is walked = subst (λ (one : Item). IfOk r (λ found. Walked (SaysItem one) nothing old new found)) (sym is) walked

  module _ (decl : Decl) where
    -- no names
    pub nameless : (old new : Context) (r : Result (Found (Unit {0})) NoMemory) → (out-Decl decl).names ≡ []
        → IfOk r (λ found. Walked (Says abi (λ o. DeclaredIs place decl o)) nothing old new found) → IfOk r (λ found. Walked (SaysItem (Declare decl)) nothing old new found)
    nameless old new r none = walked_by (Says abi (λ o. DeclaredIs place decl o)) (SaysItem (Declare decl)) nothing old new r (λ n outcome found. NamelessItem refl none found)

    abbrev SaysWords : Tells NamedType
    SaysWords = Says abi (λ o. WordsAre (out-TypeSpec (out-Decl decl).spec) o)

    module _ (old mid : Context) (words : Found NamedByNumber) (some : (out-Decl decl).names ≡ [] → ⊥)
        (walked : Walked SaysWords a_type old mid words) where
      refused_words : (names : List DeclaredTree) (n : Numbering) (first : Fault) → (out-Decl decl).names ≡ names → (names ≡ [] → ⊥)
          → SaysWords n (declared old) (Refused first) (declared mid) → SaysItem (Declare decl) n (declared old) (Refused first) (declared mid)
      refused_words [] n first are some found = absurd (some refl)
      refused_words (name ∷ names) n first are some found = ItemWordsRefused refl refl are found

      -- what is refused in its words
      pub words_stop : (first : Fault) → words ≡ FoundRefused first → Stopped (SaysItem (Declare decl)) old mid first
      words_stop first is =
          let stopped = stopped_of SaysWords a_type old mid first words is walked in
          record { grows = stopped.grows; found = λ n agrees. refused_words (out-Decl decl).names n first refl some (stopped.found n agrees) }

      module _ (base : NamedByNumber) (is : words ≡ FoundToPass base) where
        words_pass : Passed SaysWords a_type old mid base
        words_pass = passed_of SaysWords a_type old mid base words is walked

        -- names behind its words
        named : (names : List DeclaredTree) (n : Numbering) (handed : List Handed) (outcome : Outcome (Unit {0})) (after : Declared) → (out-Decl decl).names ≡ names → (names ≡ [] → ⊥)
            → SaysWords n (declared old) (Passes (named_at n base) handed) (declared mid)
            → FindsInFile (language abi n) (file_scope abi n) (declared mid) (FileNamesAre (out-Decl decl).storage (named_at n base) names outcome) after
            → SaysItem (Declare decl) n (declared old) (with_front handed outcome) after
        named [] n handed outcome after are some front found = absurd (some refl)
        named (name ∷ names) n handed outcome after are some front found = ItemWithNames refl refl are front found

        abbrev SaysNames : List DeclaredTree → Tells (Unit {0})
        SaysNames items = SaysInFileBy abi (λ n o. FileNamesAre (out-Decl decl).storage (named_at n base) items o)

        pub names_walked : (new : Context) (items : List DeclaredTree) (r : Result (Found (Unit {0})) NoMemory) → items ≡ (out-Decl decl).names
            → IfOk r (λ found. Walked (SaysNames items) nothing mid new found) → IfOk r (λ found. Walked (SaysItem (Declare decl)) nothing old new found)
        names_walked new items r same = of_result (λ found. Walked (SaysNames items) nothing mid new found) r (λ found. Walked (SaysItem (Declare decl)) nothing old new found)
            λ found walk. in_front (SaysNames (out-Decl decl).names) (SaysItem (Declare decl)) SaysWords a_type old mid new base words_pass
            (λ n handed outcome agrees front rest. named (out-Decl decl).names n handed outcome (declared new) refl some front rest) found
            (subst (λ (these : List DeclaredTree). Walked (SaysNames these) nothing mid new found) same walk)

  module _ (close : Place) (spec : TypeSpec) (storage : Storage) (head : DeclaredTree) (body : List Stmt) (old mid : Context) (words : Found NamedByNumber)
      (walked : Walked (Says abi (λ o. WordsAre (out-TypeSpec spec) o)) a_type old mid words) where
    -- what is refused in the words of the result of a function
    pub result_stops : (first : Fault) → words ≡ FoundRefused first → Stopped (SaysItem (Function spec storage head body close)) old mid first
    result_stops first is =
        let stopped = stopped_of (Says abi (λ o. WordsAre (out-TypeSpec spec) o)) a_type old mid first words is walked in
        record { grows = stopped.grows; found = λ n agrees. FunctionWordsRefused refl (stopped.found n agrees) }

    module _ (base : NamedByNumber) (is : words ≡ FoundToPass base) where
      result_passes : Passed (Says abi (λ o. WordsAre (out-TypeSpec spec) o)) a_type old mid base
      result_passes = passed_of (Says abi (λ o. WordsAre (out-TypeSpec spec) o)) a_type old mid base words is walked

      abbrev SaysDefinition : Tells (Unit {0})
      SaysDefinition = SaysInFileBy abi (λ n o. DefinitionIs storage (named_at n base) head body o)

      -- a definition behind which the scope of the parameters is left
      abbrev SaysClosed : Tells (Unit {0})
      SaysClosed n before outcome after = (inside : Declared) × (after ≡ result_set n None (left inside)) × SaysDefinition n before outcome inside

      closed_item : (n : Numbering) (handed : List Handed) (outcome : Outcome (Unit {0})) (after : Declared)
          → Says abi (λ o. WordsAre (out-TypeSpec spec) o) n (declared old) (Passes (named_at n base) handed) (declared mid) → SaysClosed n (declared mid) outcome after
          → SaysItem (Function spec storage head body close) n (declared old) (with_front handed outcome) after
      closed_item n handed outcome after front rest =
          subst (λ (last : Declared). SaysItem (Function spec storage head body close) n (declared old) (with_front handed outcome) last) (sym rest.1) (FunctionItem refl front rest.2)

      pub function_found : (late closed new : Context) (found : Found (Unit {0})) → closed ≡ outside late → new ≡ in_none closed
          → Walked SaysDefinition nothing mid late found → Walked (SaysItem (Function spec storage head body close)) nothing old new found
      function_found late closed new found leave none walk =
          let after : new ≡ in_none (outside late) = none ∙ ap in_none leave in
          let grows : Grows late new = grows_to late new (ap (λ (c : Context). c.types) after) (rw (ap (λ (c : Context). c.structs) after) (λ at item there. there)) (ap (λ (c : Context). c.environment.signatures) after) in
          in_front SaysClosed (SaysItem (Function spec storage head body close)) (Says abi (λ o. WordsAre (out-TypeSpec spec) o)) a_type old mid new base result_passes
          (λ n handed outcome agrees front rest. closed_item n handed outcome (declared new) front rest) found
          (closed_behind SaysDefinition SaysClosed mid late new found grows (ap (λ (c : Context). c.handed) after) (λ n outcome there. (declared late, ap declared after, there)) walk)

module _ (abi : Abi) (storage : Storage) (base : NamedByNumber) (name : DeclaredTree) where
  abbrev SaysName : Tells (Unit {0})
  SaysName = SaysInFileBy abi (λ n o. FileNameIs storage (named_at n base) name o)

  -- a typedef
  pub typedef_name : (old new : Context) (r : Result (Found (Unit {0})) NoMemory) → (out-Declared name).params ≡ None → is_typedef storage ≡ true
      → IfOk r (λ found. Walked (SaysBy abi (λ n o. DeclaredNameIs storage (named_at n base) name o)) nothing old new found) → IfOk r (λ found. Walked SaysName nothing old new found)
  typedef_name old new r none typedef = walked_by (SaysBy abi (λ n o. DeclaredNameIs storage (named_at n base) name o)) SaysName nothing old new r (λ n outcome found. FileTypedef refl none typedef found)

  -- a function
  abbrev SaysHead : Tells CType
  SaysHead = SaysInFileBy abi (λ n o. HeadIs false storage (named_at n base) name o)

  function_rule : (params : Option (List Param)) (n : Numbering) (found : Outcome CType) (before inside : Declared) → (out-Declared name).params ≡ params → is_some params ≡ true
      → SaysHead n before found inside → SaysName n before (without_value found) (left inside)
  function_rule None n found before inside are some head = cc some
  function_rule (Some params) n found before inside are some head = FileFunction refl are head

  head_found : (old late new : Context) (found : Found ℕ) → is_some (out-Declared name).params ≡ true → new ≡ outside late
      → Walked SaysHead a_value_type old late found → Walked SaysName nothing old new (found_alone found)
  head_found old late new (FoundToPass told) some closed passed = record {
    rows = passed.rows;
    handed = ap (λ (c : Context). c.handed) closed ∙ passed.handed;
    grows = grows_trans old late new passed.grows (leaves late new closed);
    below = tt;
    found = λ n agrees. subst (λ (after : Declared). SaysName n (declared old) (Passes tt (map (handed_at n) passed.rows)) after) (sym (ap declared closed))
        (function_rule (out-Declared name).params n (Passes (n.ctype told) (map (handed_at n) passed.rows)) (declared old) (declared late) refl some (passed.found n (agrees_before late new n (leaves late new closed) agrees)));
  }
  head_found old late new (FoundRefused first) some closed stopped = record {
    grows = grows_trans old late new stopped.grows (leaves late new closed);
    found = λ n agrees. subst (λ (after : Declared). SaysName n (declared old) (Refused first) after) (sym (ap declared closed))
        (function_rule (out-Declared name).params n (Refused first) (declared old) (declared late) refl some (stopped.found n (agrees_before late new n (leaves late new closed) agrees)));
  }

  pub head_left : (old late new : Context) (found : Found ℕ) (result : Found (Unit {0})) → is_some (out-Declared name).params ≡ true → new ≡ outside late → result ≡ found_alone found
      → Walked SaysHead a_value_type old late found → Walked SaysName nothing old new result
  head_left old late new found result some closed is walked = subst (λ (f : Found (Unit {0})). Walked SaysName nothing old new f) (sym is) (head_found old late new found some closed walked)

pub no_params : (params : Option (List Param)) → is_some params ≡ false → params ≡ None
no_params None none = refl
no_params (Some params) none = cc none
