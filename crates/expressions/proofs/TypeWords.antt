-- What is found of the words of a type, from the number that a context gives it.
use Rattle.std.proofs.Common.{◌≡◌, ◌<◌, ℕ, Bool, subst, List, [], length, refl, sym, ap, ◌∙◌, Option, None, Some, append-nil, map, Result, Ok, Err, IfOk}
use Rattle.std.specs.Prelude.{option_map}
use Rattle.cbase.specs.declared.abi.Abi.{Abi}
use Rattle.cbase.specs.declared.ctype.CType.{CType}
use Rattle.cbase.specs.declared.ctype.CType.TheVariants.{Void as VoidType, Struct as StructType}
use Rattle.cbase.specs.declared.no_memory.NoMemory.{NoMemory}
use Rattle.cbase.specs.declared.tree.expr.Expr.{Expr}
use Rattle.cbase.specs.declared.tree.expr.ExprForm.TheOpen.{Basic, Named, Struct as StructWords, Enum as EnumWords, OfExpr, OfType as OfTypeWords}
use Rattle.cbase.specs.declared.tree.expr.ExprForm.TheViews.{out-TypeSpec, out-roll-TypeSpec}
use Rattle.cbase.specs.declared.tree.identifier.Identifier.{Identifier}
use Rattle.cbase.specs.declared.tree.decl.TypeName.{TypeName}
use Rattle.cbase.specs.declared.tree.spec.BasicType.{BasicType}
use Rattle.cbase.specs.declared.tree.spec.Enumerator.{Enumerator}
use Rattle.cbase.specs.declared.tree.spec.FieldDecl.{FieldDecl}
use Rattle.cbase.specs.declared.tree.spec.TypeSpec.{TypeSpec}
use Rattle.cbase.specs.Completing.{fieldless}
use Rattle.cbase.specs.declared.tree.spec.TypeSpec.TheVariants.{Basic as BasicSpec, Named as NamedSpec, Struct as StructSpec, Enum as EnumSpec, OfExpr as TypeofExprSpec, OfType as TypeofSpec, rolls-Basic, rolls-Named, rolls-Struct, rolls-Enum, rolls-OfExpr, rolls-OfType}
use Rattle.typing.specs.declared.environment.entity.DeclaredType.TheVariants.{Whole}
use Rattle.typing.specs.declared.environment.entity.Entity.{Entity}
use Rattle.typing.specs.declared.environment.entity.Entity.TheVariants.{Typedef}
use Rattle.typing.specs.declared.environment.entity.Tag.{Tag}
use Rattle.typing.specs.declared.environment.entity.Tag.TheVariants.{Struct, Enum}
use Rattle.typing.specs.declared.environment.entity.TagForm.TheVariants.{Mentioned}
use Rattle.typing.specs.declared.environment.environment.Environment.{Environment}
use Rattle.typing.specs.environment.Environment.{name_found, tag_found}
use Rattle.typing.specs.declared.ctypes.found.Broken.{Broken}
use Rattle.typing.specs.declared.ctypes.found.Broken.TheVariants.{Rule}
use Rattle.typing.specs.ctypes.Binary.{int_type}
use Rattle.typing.specs.declared.fault.Fault.{Fault}
use Rattle.typing.specs.Faults.{fault}
use Rattle.typing.specs.Forms.{Words}
use Rattle.typing.specs.NamedTypes.{NamedType, whole, basic_type, no_type, typedef_of}
use Rattle.typing.specs.Outcomes.{Outcome, Passes, Refused}
use Rattle.typing.specs.Pieces.{Unloaded}
use Rattle.typing.specs.Typing.{PieceIs, WordsAre, NameOfTypeIs, BasicSpecifier, TypedefSpecifier, StructSpecifier, StructDeclared, StructIsEnum, EnumSpecifier, EnumDeclared, EnumIsStruct, TypeofExpression, TypeofRefused, TypeofType}
use Rattle.expressions.specs.declared.found.Found.{Found}
use Rattle.expressions.specs.declared.found.Found.TheVariants.{Passes as FoundToPass, Refused as FoundRefused}
use Rattle.expressions.specs.declared.known.Known.{Known as KnownByNumber}
use Rattle.expressions.specs.declared.named_type.NamedType.{NamedType as NamedByNumber}
use Rattle.expressions.specs.Context.{Context, Declared, declared, Agrees, Grows, OnlyTypes}
use Rattle.expressions.specs.Found.{Reading, an_operand, a_type}
use Rattle.expressions.specs.Numbers.{Numbering, handed_at, entity_at, tag_at, named_at}
use Rattle.expressions.specs.Operated.{Numbers}
use Rattle.expressions.specs.Language.{struct_declared, enum_declared}
use Rattle.expressions.specs.Walked.{Tells, Passed, Stopped, Walked, Says}
use Rattle.expressions.proofs.Walking.{passed_of, stopped_of}
use Rattle.expressions.proofs.Growth.{Keeps, keeps_behind, keeps_length, only_types_grows, grows_trans, grows_same}

-- a type of which nothing is found, by its number
abbrev pub whole_at : ℕ → NamedByNumber
whole_at number = record { ctype = number; found = None }

-- what a tag stands for that was asked for by its spelling
pub tag_known : (environment : Environment) (name spelled : List ℕ) (result found : Option Tag) → spelled ≡ name → result ≡ tag_found Mentioned spelled environment → result ≡ found
    → tag_found Mentioned name environment ≡ found
tag_known environment name spelled result found same asked is = ap (λ (n : List ℕ). tag_found Mentioned n environment) (sym same) ∙ (sym asked ∙ is)

-- the same is left where what is found has another name
pub walked_as : {A B : Type 0} (tells : Tells A) (reading : Reading B A) (old new : Context) (found named : Found B)
    → found ≡ named → Walked tells reading old new named → Walked tells reading old new found
walked_as {A} {B} tells reading old new found named is walked = subst (λ (f : Found B). Walked tells reading old new f) (sym is) walked

-- a type is named, and no row is handed on
pub named_alone : (tells : Tells NamedType) (old new : Context) (named : NamedByNumber) → Grows old new → new.handed ≡ old.handed → named.ctype < length new.types
    → ((n : Numbering) → Agrees n new → tells n (declared old) (Passes (named_at n named) []) (declared new)) → Passed tells a_type old new named
named_alone tells old new named grows handed below found = record {
  rows = [];
  handed = handed ∙ sym (append-nil old.handed);
  grows = grows;
  below = below;
  found = found;
}

-- the same is declared where only types got numbers
pub declared_by_types : (old new : Context) → OnlyTypes old new → declared old ≡ declared new
declared_by_types old new only = λ i. record { environment = sym only.environment i; structs = sym only.structs i }

-- words behind which other things are declared, before only types get numbers
pub named_behind : (tells : Tells NamedType) (old mid new : Context) (t : Numbering → CType) (number : ℕ)
    → Grows old mid → mid.handed ≡ old.handed → Numbers t mid new number
    → ((n : Numbering) → tells n (declared old) (Passes (whole (t n)) []) (declared mid)) → Passed tells a_type old new (whole_at number)
named_behind tells old mid new t number grows handed numbers found =
    named_alone tells old new (whole_at number) (grows_trans old mid new grows (only_types_grows mid new numbers.only_types)) (numbers.only_types.handed ∙ handed) numbers.below
    (λ n agrees. subst (λ (after : Declared). tells n (declared old) (Passes (named_at n (whole_at number)) []) after) (declared_by_types mid new numbers.only_types)
    (subst (λ (meant : CType). tells n (declared old) (Passes (whole meant) []) (declared mid)) (sym (numbers.meant n agrees)) (found n)))

-- words that declare nothing
pub named_there : (tells : Tells NamedType) (old new : Context) (t : Numbering → CType) (number : ℕ) → Numbers t old new number
    → ((n : Numbering) → tells n (declared old) (Passes (whole (t n)) []) (declared old)) → Passed tells a_type old new (whole_at number)
named_there tells old new t number numbers found = named_behind tells old old new t number (grows_same old) refl numbers found

-- the types and signatures that stay, and structs behind which others may stand
pub grows_to : (old new : Context) → new.types ≡ old.types → Keeps old.structs new.structs → new.environment.signatures ≡ old.environment.signatures → Grows old new
grows_to old new types structs signatures = record {
  types = λ number t is. rw types is;
  structs = λ number s is complete. structs number s is;
  longer = keeps_length old.structs new.structs structs;
  signatures = λ number s is. rw signatures is;
}

-- words as one layer of a tree
pub struct_layer : (spec : TypeSpec) (name : Option Identifier) (fields : Option (List FieldDecl)) (members : List FieldDecl)
    → spec ≡ StructSpec name fields → fields ≡ Some members → out-TypeSpec spec ≡ StructWords name (Some members)
struct_layer spec name fields members is braced =
    ap out-TypeSpec (is ∙ sym (rolls-Struct name fields)) ∙ (out-roll-TypeSpec (StructWords name fields) ∙ ap (λ (there : Option (List FieldDecl)). StructWords name there) braced)

pub enum_layer : (spec : TypeSpec) (name : Option Identifier) (values : Option (List Enumerator)) (listed : List Enumerator)
    → spec ≡ EnumSpec name values → values ≡ Some listed → out-TypeSpec spec ≡ EnumWords name (Some listed)
enum_layer spec name values listed is braced =
    ap out-TypeSpec (is ∙ sym (rolls-Enum name values)) ∙ (out-roll-TypeSpec (EnumWords name values) ∙ ap (λ (there : Option (List Enumerator)). EnumWords name there) braced)

pub struct_alone_layer : (spec : TypeSpec) (name tag : Option Identifier) (fields : Option (List FieldDecl)) → spec ≡ StructSpec name fields → fields ≡ None → name ≡ tag
    → out-TypeSpec spec ≡ StructWords tag None
struct_alone_layer spec name tag fields is bare named =
    ap out-TypeSpec (is ∙ sym (rolls-Struct name fields)) ∙ (out-roll-TypeSpec (StructWords name fields) ∙ (λ i. StructWords (named i) (bare i)))

pub enum_alone_layer : (spec : TypeSpec) (name tag : Option Identifier) (values : Option (List Enumerator)) → spec ≡ EnumSpec name values → values ≡ None → name ≡ tag
    → out-TypeSpec spec ≡ EnumWords tag None
enum_alone_layer spec name tag values is bare named =
    ap out-TypeSpec (is ∙ sym (rolls-Enum name values)) ∙ (out-roll-TypeSpec (EnumWords name values) ∙ (λ i. EnumWords (named i) (bare i)))

pub basic_layer : (spec : TypeSpec) (basic : BasicType) → spec ≡ BasicSpec basic → out-TypeSpec spec ≡ Basic basic
basic_layer spec basic is = ap out-TypeSpec (is ∙ sym (rolls-Basic basic)) ∙ out-roll-TypeSpec (Basic basic)

pub named_layer : (spec : TypeSpec) (name read : List ℕ) → spec ≡ NamedSpec name → read ≡ name → out-TypeSpec spec ≡ Named read
named_layer spec name read is same = ap out-TypeSpec (is ∙ sym (rolls-Named name)) ∙ (out-roll-TypeSpec (Named name) ∙ ap Named (sym same))

pub typeof_expr_layer : (spec : TypeSpec) (expr read : Expr) → spec ≡ TypeofExprSpec expr → read ≡ expr → out-TypeSpec spec ≡ OfExpr read
typeof_expr_layer spec expr read is same = ap out-TypeSpec (is ∙ sym (rolls-OfExpr expr)) ∙ (out-roll-TypeSpec (OfExpr expr) ∙ ap OfExpr (sym same))

pub typeof_layer : (spec : TypeSpec) (to : TypeName) → spec ≡ TypeofSpec to → out-TypeSpec spec ≡ OfTypeWords to
typeof_layer spec to is = ap out-TypeSpec (is ∙ sym (rolls-OfType to)) ∙ out-roll-TypeSpec (OfTypeWords to)

module _ (abi : Abi) (old new : Context) where
  -- what is said of words
  abbrev pub SaysWords : Words → Tells NamedType
  SaysWords words = Says abi (λ o. WordsAre words o)

  pub basic_words : (basic : BasicType) (number : ℕ) → Numbers (λ n. basic_type abi basic) old new number → Passed (SaysWords (Basic basic)) a_type old new (whole_at number)
  basic_words basic number numbers = named_there (SaysWords (Basic basic)) old new (λ n. basic_type abi basic) number numbers (λ n. BasicSpecifier)

  -- a name, by what it stands for
  name_words : (name : List ℕ) (entity : Option Entity) (named : NamedByNumber) → name_found name old.environment ≡ entity → OnlyTypes old new → named.ctype < length new.types
      → ((n : Numbering) → Agrees n new → typedef_of (option_map (entity_at n) entity) ≡ named_at n named) → Passed (SaysWords (Named name)) a_type old new named
  name_words name entity named found only below meant = named_alone (SaysWords (Named name)) old new named (only_types_grows old new only) only.handed below
      (λ n agrees. subst (λ (after : Declared). SaysWords (Named name) n (declared old) (Passes (named_at n named) []) after) (declared_by_types old new only)
      (subst (λ (is : NamedType). SaysWords (Named name) n (declared old) (Passes is []) (declared old)) (ap (λ (stands : Option Entity). typedef_of (option_map (entity_at n) stands)) found ∙ meant n agrees) TypedefSpecifier))

  pub whole_name : (name : List ℕ) (number : ℕ) → name_found name old.environment ≡ Some (Typedef (Whole number)) → OnlyTypes old new → number < length new.types
      → Passed (SaysWords (Named name)) a_type old new (whole_at number)
  whole_name name number found only below = name_words name (Some (Typedef (Whole number))) (whole_at number) found only below (λ n agrees. refl)

  -- a name of no type that can be written down
  pub untyped_name : (name : List ℕ) (entity : Option Entity) (broken : Broken) (number : ℕ) → name_found name old.environment ≡ entity → Numbers (λ n. VoidType) old new number
      → ((n : Numbering) → typedef_of (option_map (entity_at n) entity) ≡ record { ctype = VoidType; found = Some broken })
      → Passed (SaysWords (Named name)) a_type old new (record { ctype = number; found = Some broken })
  untyped_name name entity broken number found numbers meant = name_words name entity (record { ctype = number; found = Some broken }) found numbers.only_types numbers.below
      (λ n agrees. meant n ∙ ap (λ (t : CType). record { ctype = t; found = Some broken }) (sym (numbers.meant n agrees)))

  pub struct_words : (tag : Identifier) (of : ℕ) (listed : Bool) (number : ℕ) → tag_found Mentioned tag.name old.environment ≡ Some (Struct of listed) → Numbers (λ n. StructType of) old new number
      → Passed (SaysWords (StructWords (Some tag) None)) a_type old new (whole_at number)
  struct_words tag of listed number found numbers = named_there (SaysWords (StructWords (Some tag) None)) old new (λ n. StructType of) number numbers
      (λ n. StructSpecifier (ap (option_map tag_at) found))

  pub enum_words : (tag : Identifier) (listed : Bool) (number : ℕ) → tag_found Mentioned tag.name old.environment ≡ Some (Enum listed) → Numbers (λ n. int_type) old new number
      → Passed (SaysWords (EnumWords (Some tag) None)) a_type old new (whole_at number)
  enum_words tag listed number found numbers = named_there (SaysWords (EnumWords (Some tag) None)) old new (λ n. int_type) number numbers
      (λ n. EnumSpecifier (ap (option_map tag_at) found))

  -- tags that are declared there
  pub new_struct : (mid : Context) (tag : Identifier) (number : ℕ) → tag_found Mentioned tag.name old.environment ≡ None
      → declared mid ≡ struct_declared tag.name (declared old) → mid.types ≡ old.types → mid.handed ≡ old.handed → Numbers (λ n. StructType (length old.structs)) mid new number
      → Passed (SaysWords (StructWords (Some tag) None)) a_type old new (whole_at number)
  new_struct mid tag number found after types handed numbers = named_behind (SaysWords (StructWords (Some tag) None)) old mid new (λ n. StructType (length old.structs)) number
      (grows_to old mid types (rw (ap (λ (there : Declared). there.structs) after) (keeps_behind old.structs (fieldless tag.name))) (ap (λ (there : Declared). there.environment.signatures) after)) handed numbers
      (λ n. subst (λ (there : Declared). SaysWords (StructWords (Some tag) None) n (declared old) (Passes (whole (StructType (length old.structs))) []) there) (sym after)
      (StructDeclared (ap (option_map tag_at) found)))

  pub new_enum : (mid : Context) (tag : Identifier) (number : ℕ) → tag_found Mentioned tag.name old.environment ≡ None
      → declared mid ≡ enum_declared tag.name (declared old) → mid.types ≡ old.types → mid.handed ≡ old.handed → Numbers (λ n. int_type) mid new number
      → Passed (SaysWords (EnumWords (Some tag) None)) a_type old new (whole_at number)
  new_enum mid tag number found after types handed numbers = named_behind (SaysWords (EnumWords (Some tag) None)) old mid new (λ n. int_type) number
      (grows_to old mid types (rw (ap (λ (there : Declared). there.structs) after) (λ at item is. is)) (ap (λ (there : Declared). there.environment.signatures) after)) handed numbers
      (λ n. subst (λ (there : Declared). SaysWords (EnumWords (Some tag) None) n (declared old) (Passes (whole int_type) []) there) (sym after)
      (EnumDeclared (ap (option_map tag_at) found)))

  -- tags of the other kind
  pub struct_of_enum : (tag : Identifier) (listed : Bool) → tag_found Mentioned tag.name old.environment ≡ Some (Enum listed)
      → Stopped (SaysWords (StructWords (Some tag) None)) old old (fault tag.place (Rule 2))
  struct_of_enum tag listed found = record { grows = grows_same old; found = λ n agrees. StructIsEnum (ap (option_map tag_at) found) }

  pub enum_of_struct : (tag : Identifier) (number : ℕ) (listed : Bool) → tag_found Mentioned tag.name old.environment ≡ Some (Struct number listed)
      → Stopped (SaysWords (EnumWords (Some tag) None)) old old (fault tag.place (Rule 2))
  enum_of_struct tag number listed found = record { grows = grows_same old; found = λ n agrees. EnumIsStruct (ap (option_map tag_at) found) }

  -- neither a tag nor braces
  pub nothing_named : (words : Words) (number : ℕ) → Numbers (λ n. VoidType) old new number → ((n : Numbering) → SaysWords words n (declared old) (Passes no_type []) (declared old))
      → Passed (SaysWords words) a_type old new (record { ctype = number; found = Some (Rule 1) })
  nothing_named words number numbers found = named_alone (SaysWords words) old new (record { ctype = number; found = Some (Rule 1) })
      (only_types_grows old new numbers.only_types) numbers.only_types.handed numbers.below
      (λ n agrees. subst (λ (after : Declared). SaysWords words n (declared old) (Passes (named_at n (record { ctype = number; found = Some (Rule 1) })) []) after) (declared_by_types old new numbers.only_types)
      (subst (λ (t : CType). SaysWords words n (declared old) (Passes (record { ctype = t; found = Some (Rule 1) }) []) (declared old)) (sym (numbers.meant n agrees)) (found n)))

  -- what is found of a type name is found of `typeof` of it
  pub named_as : (tells : Tells NamedType) (words : Words) (r : Result (Found NamedByNumber) NoMemory)
      → ((n : Numbering) (outcome : Outcome NamedType) → tells n (declared old) outcome (declared new) → SaysWords words n (declared old) outcome (declared new))
      → IfOk r (λ found. Walked tells a_type old new found) → IfOk r (λ found. Walked (SaysWords words) a_type old new found)
  named_as tells words (Ok (FoundToPass named)) names passed = record {
    rows = passed.rows;
    handed = passed.handed;
    grows = passed.grows;
    below = passed.below;
    found = λ n agrees. names n (Passes (named_at n named) (map (handed_at n) passed.rows)) (passed.found n agrees);
  }
  named_as tells words (Ok (FoundRefused first)) names refused = record { grows = refused.grows; found = λ n agrees. names n (Refused first) (refused.found n agrees) }
  named_as tells words (Err error) names found = tt

  -- `typeof` of an expression
  pub typeof_passes : (expr : Expr) (known : KnownByNumber) (found : Found KnownByNumber) → found ≡ FoundToPass known
      → Walked (Says abi (λ o. PieceIs (Unloaded expr) o)) an_operand old new found → Passed (SaysWords (OfExpr expr)) a_type old new (whole_at known.ctype)
  typeof_passes expr known found is walked =
      let passed = passed_of (Says abi (λ o. PieceIs (Unloaded expr) o)) an_operand old new known found is walked in
      record {
        rows = passed.rows;
        handed = passed.handed;
        grows = passed.grows;
        below = passed.below;
        found = λ n agrees. TypeofExpression (passed.found n agrees);
      }

  pub typeof_refused : (expr : Expr) (first : Fault) (found : Found KnownByNumber) → found ≡ FoundRefused first
      → Walked (Says abi (λ o. PieceIs (Unloaded expr) o)) an_operand old new found → Stopped (SaysWords (OfExpr expr)) old new first
  typeof_refused expr first found is walked =
      let stopped = stopped_of (Says abi (λ o. PieceIs (Unloaded expr) o)) an_operand old new first found is walked in
      record { grows = stopped.grows; found = λ n agrees. TypeofRefused (stopped.found n agrees) }

  -- words with braces, as one layer of a tree
  pub layered : (spec : TypeSpec) (words : Words) (r : Result (Found NamedByNumber) NoMemory) → out-TypeSpec spec ≡ words
      → IfOk r (λ found. Walked (SaysWords words) a_type old new found) → IfOk r (λ found. Walked (SaysWords (out-TypeSpec spec)) a_type old new found)
  layered spec words r is found = subst (λ (layer : Words). IfOk r (λ f. Walked (SaysWords layer) a_type old new f)) (sym is) found

  -- `typeof` of a type
  pub typeof_type : (spec : TypeSpec) (to : TypeName) (r : Result (Found NamedByNumber) NoMemory) → out-TypeSpec spec ≡ OfTypeWords to
      → IfOk r (λ found. Walked (Says abi (λ o. NameOfTypeIs to o)) a_type old new found) → IfOk r (λ found. Walked (SaysWords (out-TypeSpec spec)) a_type old new found)
  typeof_type spec to r is = named_as (Says abi (λ o. NameOfTypeIs to o)) (out-TypeSpec spec) r (λ n outcome found.
      subst (λ (words : Words). SaysWords words n (declared old) outcome (declared new)) (sym is) (TypeofType found))
