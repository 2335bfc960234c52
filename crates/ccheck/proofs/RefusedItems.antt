-- What is refused in an item of the file is refused at its first token or at a place in it, and has a number.
use Rattle.std.proofs.Common.{ℕ, Bool, true, false, List, [], ◌∷◌, lit≤, subst}
use Rattle.std.specs.Prelude.{not}
use Rattle.cbase.specs.declared.abi.Abi.{Abi}
use Rattle.cbase.specs.declared.ctype.CType.{CType}
use Rattle.cbase.specs.declared.ctype.CType.TheOpen.{CType-F}
use Rattle.cbase.specs.declared.ctype.CType.TheViews.{out-CType}
use Rattle.cbase.specs.declared.place.Place.{Place}
use Rattle.cbase.specs.declared.structs.StructDef.{StructDef}
use Rattle.cbase.specs.declared.tree.decl.Declared.{Declared}
use Rattle.cbase.specs.declared.tree.decl.Storage.{Storage}
use Rattle.cbase.specs.declared.tree.expr.ExprForm.TheViews.{out-TypeSpec, out-Decl, out-Declared}
use Rattle.cbase.specs.declared.tree.item.Item.{Item}
use Rattle.cbase.specs.declared.tree.item.Item.TheVariants.{Empty, Declare, Function}
use Rattle.typing.specs.declared.ctypes.found.Broken.TheVariants.{Construct, Rule}
use Rattle.typing.specs.Declarations.{Parameter, in_braces}
use Rattle.typing.specs.Entities.{DeclaredType, WholeType}
use Rattle.typing.specs.FileNames.{initialised_in_file, told_faults_in_file}
use Rattle.typing.specs.FileScope.{FileScope}
use Rattle.typing.specs.Forms.{DeclaratorParts}
use Rattle.typing.specs.Heads.{result_of, main_faults, body_faults, head_faults, has_struct, is_main, is_int}
use Rattle.typing.specs.Items.{ItemSaying, ItemsAre, ItemIs, FileNamesAre, FileNameIs, FileInitialisedIs, HeadIs, DefinitionIs, FindsInFile, NoItems, MoreItems, ItemRefused, EmptyItem, NamelessItem, ItemWithNames, ItemWordsRefused, FunctionItem, FunctionWordsRefused, NoMoreFileNames, MoreFileNames, FileNameRefused, FileTypedef, FileSizesRefused, FileNameBroken, FileNameGiven, FileFunction, FileNotInitialised, FileInitialised, FileArrayInitialised, FileArrayOfWrongSize, FileArrayPartsRefused, FileArrayByValue, HeadRefused, HeadBroken, HeadGiven, DefinitionHeadRefused, DefinitionWithBody}
use Rattle.typing.specs.Language.{Language}
use Rattle.typing.specs.NamedTypes.{NamedType}
use Rattle.typing.specs.Outcomes.{Outcome, Passes, Refused}
use Rattle.ccheck.proofs.Holding.{Holds, SomeWords, Statements, ADeclaration, DeclaredNames, ADeclarator, PerhapsInitialised, words_in_declaration, names_in_declaration, first_name, other_names, at_declarator, sizes_in_declarator, parameters_in, initialiser_behind, initialiser_in}
use Rattle.ccheck.proofs.Refusing.{FaultsHold, Refuses, join, hold_unless, hold_first, hold_behind}
use Rattle.ccheck.proofs.RefusedNames.{ParametersHold, name_numbered, hold_without, hold_name, hold_told, hold_function}
use Rattle.ccheck.proofs.RefusedParts.{NamedIsNumbered, refused, as_words, as_declaration, as_declarator}

module _ (P : Place → Type 0) where
  -- it holds of the places in an item
  abbrev pub ItemHolds : Item → Type 0
  ItemHolds Empty = Unit {0}
  ItemHolds (Declare decl) = Holds P (ADeclaration (out-Decl decl))
  ItemHolds (Function spec storage head body close) =
      Holds P (SomeWords (out-TypeSpec spec)) × Holds P (ADeclarator (out-Declared head)) × Holds P (Statements body)

  abbrev pub ItemsHold : List (Place × Item) → Type 0
  ItemsHold [] = Unit {0}
  ItemsHold ((place, item) ∷ items) = P place × ItemHolds item × ItemsHold items

  abbrev pub InsideItem : ItemSaying → Type 0
  InsideItem (ItemsAre items outcome) = ItemsHold items
  InsideItem (ItemIs place item outcome) = P place × ItemHolds item
  InsideItem (FileNamesAre storage base names outcome) = NamedIsNumbered base × Holds P (DeclaredNames names)
  InsideItem (FileNameIs storage base name outcome) = NamedIsNumbered base × Holds P (ADeclarator (out-Declared name))
  InsideItem (FileInitialisedIs name listed t init outcome) = P name.place × Holds P (PerhapsInitialised init)
  InsideItem (HeadIs bodied storage base name outcome) = NamedIsNumbered base × Holds P (ADeclarator (out-Declared name))
  InsideItem (DefinitionIs storage base head body outcome) = NamedIsNumbered base × Holds P (ADeclarator (out-Declared head)) × Holds P (Statements body)

  abbrev pub ItemIsAnswered : ItemSaying → Type 0
  ItemIsAnswered (ItemsAre items outcome) = Refuses P outcome
  ItemIsAnswered (ItemIs place item outcome) = Refuses P outcome
  ItemIsAnswered (FileNamesAre storage base names outcome) = Refuses P outcome
  ItemIsAnswered (FileNameIs storage base name outcome) = Refuses P outcome
  ItemIsAnswered (FileInitialisedIs name listed t init outcome) = Refuses P outcome
  ItemIsAnswered (HeadIs bodied storage base name outcome) = Refuses P outcome
  ItemIsAnswered (DefinitionIs storage base head body outcome) = Refuses P outcome

  hold_initialised_in_file : (listed : Bool) (place : Place) (t : DeclaredType) (zeroed : Bool) (outcome : Outcome (Unit {0})) → Refuses P outcome
      → Refuses P (initialised_in_file listed place t zeroed outcome)
  hold_initialised_in_file listed place t zeroed (Passes told handed) is = tt
  hold_initialised_in_file listed place t zeroed (Refused first) is = is

  hold_told_in_file : (abi : Abi) (structs : List StructDef) (place : Place) (item : CType) (count : ℕ) (other : Bool) → P place
      → FaultsHold P (told_faults_in_file abi structs place item count other)
  hold_told_in_file abi structs place item count other at =
      join P _ _ (hold_told P abi structs place item count at) (hold_unless P (not other) place (Rule 2) at (lit≤ tt, lit≤ tt))

  hold_main : (main : Bool) (place : Place) (result : CType-F CType) → P place → FaultsHold P (main_faults main place result)
  hold_main false place result at = tt
  hold_main true place result at = hold_unless P (is_int result) place (Rule 12) at (lit≤ tt, lit≤ tt)

  hold_body : (bodied : Bool) (place : Place) (struct : Bool) → P place → FaultsHold P (body_faults bodied place struct)
  hold_body false place struct at = tt
  hold_body true place struct at = hold_unless P (not struct) place (Construct 13) at (lit≤ tt, lit≤ tt)

  hold_head : (l : Language) (file : FileScope l) (bodied : Bool) (storage : Storage) (base : NamedType) (parts : DeclaratorParts) (told : List Parameter) (other : Bool)
      (env : l.Environment) → P parts.place → NamedIsNumbered base → ParametersHold P told → FaultsHold P (head_faults l file bodied storage base parts told other env)
  hold_head l file bodied storage base parts told other env at is all =
      join P _ _ (hold_function P (l.structs env) storage parts base told _ at is all)
      (join P _ _ (hold_body bodied parts.place (has_struct (l.structs env) (result_of base parts) told) at)
      (hold_main (is_main parts.name) parts.place (out-CType (result_of base parts)) at))

  pub refused_in_file : {l : Language} {file : FileScope l} {before after : l.Environment} {saying : ItemSaying} → FindsInFile l file before saying after → InsideItem saying
      → ItemIsAnswered saying
  refused_in_file NoItems holds = tt
  refused_in_file (MoreItems {handed} {outcome} first rest) holds = hold_behind P (λ told. Unit {0}) handed outcome (refused_in_file rest holds.2)
  refused_in_file (ItemRefused it) holds = refused_in_file it (holds.0, holds.1)
  refused_in_file EmptyItem holds = tt
  refused_in_file (NamelessItem e none it) holds = refused P it holds
  refused_in_file (ItemWithNames {handed} {outcome} e g some words names) holds =
      hold_behind P (λ told. Unit {0}) handed outcome
      (refused_in_file names (
        refused P words (as_words P g (words_in_declaration P (as_declaration P e holds.1))),
        subst (λ (names : List Declared). Holds P (DeclaredNames names)) some (names_in_declaration P (as_declaration P e holds.1)),
      ))
  refused_in_file (ItemWordsRefused e g some words) holds = refused P words (as_words P g (words_in_declaration P (as_declaration P e holds.1)))
  refused_in_file (FunctionItem {handed} {outcome} e words it) holds =
      hold_behind P (λ told. Unit {0}) handed outcome (refused_in_file it (refused P words (as_words P e holds.1.0), holds.1.1, holds.1.2))
  refused_in_file (FunctionWordsRefused e words) holds = refused P words (as_words P e holds.1.0)
  refused_in_file NoMoreFileNames holds = tt
  refused_in_file (MoreFileNames {handed} {outcome} first rest) holds = hold_behind P (λ told. Unit {0}) handed outcome (refused_in_file rest (holds.0, other_names P holds.1))
  refused_in_file (FileNameRefused it) holds = refused_in_file it (holds.0, first_name P holds.1)
  refused_in_file (FileTypedef e none typedef it) holds = refused P it holds
  refused_in_file (FileSizesRefused e none plain sizes) holds = refused P sizes (sizes_in_declarator P (as_declarator P e holds.1))
  refused_in_file (FileNameBroken {base} {parts} {counts} {faults} {first} other e none plain sizes is g first_is) holds =
      hold_first P faults first (subst (FaultsHold P) g (hold_name P parts.place _ _ _ (at_declarator P (as_declarator P e holds.1)) (name_numbered base counts _ holds.0))) first_is
  refused_in_file (FileNameGiven {outcome} other e none plain sizes is g it) holds =
      hold_behind P (λ told. Unit {0}) _ outcome (refused_in_file it (at_declarator P (as_declarator P e holds.1), initialiser_behind P (as_declarator P e holds.1)))
  refused_in_file (FileFunction {found = outcome} e some it) holds = hold_without P (λ told. Unit {0}) outcome (refused_in_file it holds)
  refused_in_file FileNotInitialised holds = tt
  refused_in_file (FileInitialised {name} {listed} {t} {form} {found = outcome} e it) holds =
      hold_initialised_in_file listed name.place (WholeType t) (in_braces form) outcome (refused P it (holds.0, initialiser_in P holds.1))
  refused_in_file (FileArrayInitialised other e it is g) holds = tt
  refused_in_file {l} (FileArrayOfWrongSize {after} {name} {item} {parts} {faults} {first} other e it is g first_is) holds =
      hold_first P faults first (subst (FaultsHold P) g (hold_told_in_file l.abi (l.structs after) name.place item _ other holds.0)) first_is
  refused_in_file (FileArrayPartsRefused e it) holds = refused P it (holds.0, initialiser_in P holds.1)
  refused_in_file (FileArrayByValue e it) holds = refused P it (holds.0, initialiser_in P holds.1)
  refused_in_file (HeadRefused e it) holds = refused P it (parameters_in P (as_declarator P e holds.1))
  refused_in_file {l} {file} (HeadBroken {after} {bodied} {storage} {base} {parts} {told} {faults} {first} other e it is g first_is) holds =
      hold_first P faults first
      (subst (FaultsHold P) g (hold_head l file bodied storage base parts told other after (at_declarator P (as_declarator P e holds.1)) holds.0
      (refused P it (parameters_in P (as_declarator P e holds.1)))))
      first_is
  refused_in_file (HeadGiven other e it is g) holds = tt
  refused_in_file (DefinitionHeadRefused it) holds = refused_in_file it (holds.0, holds.1)
  refused_in_file (DefinitionWithBody {handed} {found = outcome} head it) holds =
      hold_behind P (λ told. Unit {0}) handed _ (hold_without P (λ told. Unit {0}) outcome (refused P it holds.2))
