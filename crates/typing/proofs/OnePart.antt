-- Parts of the walk, each with one outcome where what it is made of has one.
use Rattle.std.proofs.Common.{◌≡◌, ℕ, Bool, true, false, List, [], ◌∷◌, ◌++◌, Option, Some, None, sym, ap, ◌∙◌, subst}
use Rattle.cbase.specs.declared.ctype.CType.{CType}
use Rattle.cbase.specs.declared.ctype.CType.TheVariants.{Struct as StructType}
use Rattle.cbase.specs.declared.structs.Field.{Field}
use Rattle.cbase.specs.declared.tree.decl.TypeName.{TypeName}
use Rattle.cbase.specs.declared.tree.expr.Expr.{Expr}
use Rattle.cbase.specs.declared.tree.expr.ExprForm.TheViews.{out-ExprForm, out-StmtForm, out-TypeName, out-TypeSpec, out-FieldName, out-Enumerator}
use Rattle.cbase.specs.declared.tree.expr.ExprForm.TheOpen.{Struct, Enum}
use Rattle.cbase.specs.declared.tree.identifier.Identifier.{Identifier}
use Rattle.cbase.specs.declared.tree.spec.Enumerator.{Enumerator}
use Rattle.cbase.specs.declared.tree.spec.FieldDecl.{FieldDecl}
use Rattle.cbase.specs.declared.tree.spec.FieldName.{FieldName}
use Rattle.cbase.specs.declared.tree.stmt.Stmt.{Stmt}
use Rattle.typing.specs.declared.ctypes.found.Broken.TheVariants.{Rule}
use Rattle.typing.specs.declared.fault.Fault.{Fault}
use Rattle.typing.specs.declared.size.Size.{Size}
use Rattle.typing.specs.Braces.{Opening, Opens, struct_opening, enum_opening, member, member_type, faults_of_member}
use Rattle.typing.specs.Entities.{FunctionEntity, FunctionIs}
use Rattle.typing.specs.Faults.{fault}
use Rattle.typing.specs.Forms.{Form, Words, NameParts, MemberParts, EnumeratorParts, value_in}
use Rattle.typing.specs.Known.{Known, behind}
use Rattle.typing.specs.Language.{Language}
use Rattle.typing.specs.NamedTypes.{NamedType, whole}
use Rattle.typing.specs.Nodes.{function_faults, called_of, is_last_value}
use Rattle.typing.specs.Outcomes.{Outcome, Handed, Passes, Refused, IsSettled}
use Rattle.typing.specs.Pieces.{Piece, Loaded, SizeOfArray, pieces_in}
use Rattle.typing.specs.Told.{Told, FunctionNamed, SizeIs}
use Rattle.typing.specs.Typing.{Saying, ExpressionIs, PieceIs, PiecesAre, WordsAre, SizesAre, NameOfTypeIs, StatementsAre, StatementIs, StatementPartsAre, StatementPartIs, ValueUsed, DeclaredIs, DeclaratorsAre, DeclaredNamesAre, DeclaredNameIs, DeclaredSizesAre, ParametersAre, ParameterIs, InitialisedIs, InitialiserIs, PartsFill, SurplusIs, SurplusAre, MembersAre, DeclarationIs, NamesAre, MemberIs, MemberSizesAre, MemberSizeIs, WidthIs, EnumeratorsAre, ValueOfEnumerator, named, Finds}
use Rattle.typing.proofs.OneFault.{one_settled, settled_alike}
use Rattle.typing.proofs.BraceRows as braces
use Rattle.typing.proofs.StatementRows as statements
use Rattle.typing.proofs.DeclarationRows as declarations
use Rattle.typing.proofs.InitialiserRows as initialisers
use Rattle.typing.proofs.Sequences.{Same, via, OneOf, one_given, one_refused, one_both}
use Rattle.typing.proofs.WalkRows as row
use Rattle.typing.proofs.WalkRows.{IsNode, IsRest, IsCall, Direct, Otherwise, IsBlock, Last, Front, IsRestOfBlock, IsRestOfSizes, IsTypeName, IsRestOfType, called_found, names_function, block_found, last_found, statement_joined, sizes_joined, type_joined, joined}

-- every other derivation of the same part finds the same
abbrev pub One : (l : Language) → l.Environment → Saying → l.Environment → Type 0
One l before (ExpressionIs expr first) after = (second : Outcome Known) (other : l.Environment) → Finds l before (ExpressionIs expr second) other → Same first second after other
One l before (PieceIs piece first) after = (second : Outcome Told) (other : l.Environment) → Finds l before (PieceIs piece second) other → Same first second after other
One l before (PiecesAre pieces first) after = (second : Outcome (List Told)) (other : l.Environment) → Finds l before (PiecesAre pieces second) other → Same first second after other
One l before (WordsAre words first) after = (second : Outcome NamedType) (other : l.Environment) → Finds l before (WordsAre words second) other → Same first second after other
One l before (SizesAre sizes first) after = (second : Outcome (List Size)) (other : l.Environment) → Finds l before (SizesAre sizes second) other → Same first second after other
One l before (NameOfTypeIs to first) after = (second : Outcome NamedType) (other : l.Environment) → Finds l before (NameOfTypeIs to second) other → Same first second after other
One l before (StatementsAre stmts first) after = (second : Outcome CType) (other : l.Environment) → Finds l before (StatementsAre stmts second) other → Same first second after other
One l before (StatementIs stmt first) after = OneOf (statements.StatementFound l before stmt) first after
One l before (StatementPartsAre parts first) after = OneOf (statements.PartsFound l before parts) first after
One l before (StatementPartIs part first) after = OneOf (statements.PartFound l before part) first after
One l before (ValueUsed demand expr first) after = OneOf (statements.ValueFound l before demand expr) first after
One l before (DeclaredIs place decl first) after = OneOf (declarations.DeclarationFound l before place decl) first after
One l before (DeclaratorsAre place storage base names first) after = OneOf (declarations.DeclaratorsFound l before place storage base names) first after
One l before (DeclaredNamesAre storage base names first) after = OneOf (declarations.NamesFound l before storage base names) first after
One l before (DeclaredNameIs storage base name first) after = OneOf (declarations.NameFound l before storage base name) first after
One l before (DeclaredSizesAre fixed sizes first) after = OneOf (declarations.SizesFound l before fixed sizes) first after
One l before (ParametersAre params first) after = OneOf (declarations.ParametersFound l before params) first after
One l before (ParameterIs param first) after = OneOf (declarations.OneParameterFound l before param) first after
One l before (InitialisedIs name gives init first) after = OneOf (declarations.InitialisedFound l before name gives init) first after
One l before (InitialiserIs subject slot init first) after = OneOf (initialisers.InitialiserFound l before subject slot init) first after
One l before (PartsFill subject filled index parts first) after = OneOf (initialisers.PartsFound l before subject filled index parts) first after
One l before (SurplusIs place init first) after = OneOf (initialisers.SurplusFound l before place init) first after
One l before (SurplusAre place parts first) after = OneOf (initialisers.SurplusPartsFound l before place parts) first after
One l before (MembersAre members fields first) after = (second : Outcome (List Field)) (other : l.Environment) → Finds l before (MembersAre members fields second) other → Same first second after other
One l before (DeclarationIs members field first) after = (second : Outcome (List Field)) (other : l.Environment) → Finds l before (DeclarationIs members field second) other → Same first second after other
One l before (NamesAre base members names first) after = (second : Outcome (List Field)) (other : l.Environment) → Finds l before (NamesAre base members names second) other → Same first second after other
One l before (MemberIs base members name first) after = (second : Outcome (List Field)) (other : l.Environment) → Finds l before (MemberIs base members name second) other → Same first second after other
One l before (MemberSizesAre sizes first) after = (second : Outcome (List Size)) (other : l.Environment) → Finds l before (MemberSizesAre sizes second) other → Same first second after other
One l before (MemberSizeIs given first) after = (second : Outcome Size) (other : l.Environment) → Finds l before (MemberSizeIs given second) other → Same first second after other
One l before (WidthIs given first) after = (second : Outcome (Unit {0})) (other : l.Environment) → Finds l before (WidthIs given second) other → Same first second after other
One l before (EnumeratorsAre next constants first) after = (second : Outcome NamedType) (other : l.Environment) → Finds l before (EnumeratorsAre next constants second) other → Same first second after other
One l before (ValueOfEnumerator place next given first) after = (second : Outcome ℕ) (other : l.Environment) → Finds l before (ValueOfEnumerator place next given second) other → Same first second after other

-- an expression whose parts are found in one way
pub one_expression : (l : Language) (before : l.Environment) (expr : Expr) (form : Form) (walked : Outcome (List Told)) (first : Outcome Known) (after : l.Environment)
    → out-ExprForm expr.form ≡ form → IsNode l after expr walked first → One l before (PiecesAre (pieces_in form) walked) after → One l before (ExpressionIs expr first) after
one_expression l before expr form walked first after e node one second other found =
    let is : row.IsExpression l before expr second other = row.expression_row found in
    row.nodes_alike l expr after other walked is.0 first second node is.2
    (one is.0 other (subst (λ (f : Form). Finds l before (PiecesAre (pieces_in f) is.0) other) e is.1))

-- parts one behind the other
pub one_refused_here : (l : Language) (before : l.Environment) (piece : Piece) (pieces : List Piece) (broken : Fault) (after : l.Environment)
    → One l before (PieceIs piece (Refused broken)) after → One l before (PiecesAre (piece ∷ pieces) (Refused broken)) after
one_refused_here l before piece pieces broken after one second other found =
    let is : row.IsPieces l before piece pieces second other = row.pieces_row found in
    let same : Same (Refused broken) is.0 after is.1 = one is.0 is.1 is.2 in
    let rest : IsRest l after (Refused broken) pieces second other = row.rest_of l after is.1 other (Refused broken) is.0 pieces second same is.3 in
    (sym rest.0, rest.1)

pub one_more : (l : Language) (before middle after : l.Environment) (piece : Piece) (pieces : List Piece) (told : Told) (handed : List Handed) (others : Outcome (List Told))
    → One l before (PieceIs piece (Passes told handed)) middle → One l middle (PiecesAre pieces others) after
    → One l before (PiecesAre (piece ∷ pieces) (joined told handed others)) after
one_more l before middle after piece pieces told handed others one more second other found =
    let is : row.IsPieces l before piece pieces second other = row.pieces_row found in
    let same : Same (Passes told handed) is.0 middle is.1 = one is.0 is.1 is.2 in
    let rest : IsRest l middle (Passes told handed) pieces second other = row.rest_of l middle is.1 other (Passes told handed) is.0 pieces second same is.3 in
    let behind : Same others rest.0 after other = more rest.0 other rest.1 in
    (ap (joined told handed) behind.0 ∙ sym rest.2, behind.1)

-- what is called
pub one_direct : (l : Language) (before : l.Environment) (callee : Expr) (name : List ℕ) (function : FunctionEntity) (first : Outcome Told)
    → named callee ≡ Some name → l.entity name before ≡ Some (FunctionIs function)
    → IsSettled (function_faults callee.place function) (FunctionNamed name function) (behind [] callee.number (called_of function)) first
    → (second : Outcome Told) (other : l.Environment) → IsCall l before callee second other → Same first second before other
one_direct l before callee name function first e g settled second other (Direct name2 function2 e2 g2 also same) =
    let names : name ≡ name2 = (let both : Some name ≡ Some name2 = sym e ∙ e2 in cc both) in
    let functions : function ≡ function2 = (let both : Some (FunctionIs function) ≡ Some (FunctionIs function2) = sym g ∙ (ap (λ (n : List ℕ). l.entity n before) names ∙ g2) in cc both) in
    (settled_alike _ _ _ _ _ _ first second (ap (function_faults callee.place) functions) (λ i. FunctionNamed (names i) (functions i)) (ap (λ (f : FunctionEntity). behind [] callee.number (called_of f)) functions) settled also, same)
one_direct l before callee name function first e g settled second other (Otherwise none inner found is) =
    let both : true ≡ false = sym (row.is_named_function l before callee name function e g) ∙ none in absurd (cc both)

pub one_otherwise : (l : Language) (before : l.Environment) (callee : Expr) (inner first : Outcome Told) (after : l.Environment)
    → names_function l before callee ≡ false → first ≡ called_found inner → One l before (PieceIs (Loaded callee) inner) after
    → (second : Outcome Told) (other : l.Environment) → IsCall l before callee second other → Same first second after other
one_otherwise l before callee inner first after none e one second other (Direct name function is g settled same) =
    let both : true ≡ false = sym (row.is_named_function l before callee name function is g) ∙ none in absurd (cc both)
one_otherwise l before callee inner first after none e one second other (Otherwise also below found is) =
    via (λ env o. called_found o) e is (one below other found)

-- statements
pub last_or_not : {A : Type 0} {b : Bool} → b ≡ true → b ≡ false → A
last_or_not e f = let both : true ≡ false = sym e ∙ f in absurd (cc both)

pub one_last : (l : Language) (before : l.Environment) (stmt : Stmt) (stmts : List Stmt) (expr : Expr) (inner : Outcome Told) (first : Outcome CType) (after : l.Environment)
    → is_last_value (stmt ∷ stmts) ≡ true → value_in (out-StmtForm stmt.form) ≡ Some expr → first ≡ last_found (l.structs after) expr inner
    → One l before (PieceIs (Loaded expr) inner) after → (second : Outcome CType) (other : l.Environment) → IsBlock l before stmt stmts second other → Same first second after other
one_last l before stmt stmts expr inner first after last e is one second other (Last value also f below found it) =
    let values : value ≡ expr = (let both : Some value ≡ Some expr = sym f ∙ e in cc both) in
    via (λ env o. last_found (l.structs env) expr o) is (it ∙ ap (λ (v : Expr). last_found (l.structs other) v below) values)
    (one below other (subst (λ (v : Expr). Finds l before (PieceIs (Loaded v) below) other) values found))
one_last l before stmt stmts expr inner first after last e is one second other (Front not_last begun middle it rest) = last_or_not last not_last

pub one_front_refused : (l : Language) (before : l.Environment) (stmt : Stmt) (stmts : List Stmt) (broken : Fault) (after : l.Environment)
    → is_last_value (stmt ∷ stmts) ≡ false → One l before (StatementIs stmt (Refused broken)) after
    → (second : Outcome CType) (other : l.Environment) → IsBlock l before stmt stmts second other → Same (Refused broken) second after other
one_front_refused l before stmt stmts broken after not_last it second other (Last value last f below found made) = last_or_not last not_last
one_front_refused l before stmt stmts broken after not_last it second other (Front also begun middle this rest) =
    let same : Same (Refused broken) begun after middle = it begun middle this in
    let behind : IsRestOfBlock l after (Refused broken) stmts second other =
    subst (λ (f : Outcome (Unit {0})). IsRestOfBlock l after f stmts second other) (sym same.0) (subst (λ (env : l.Environment). IsRestOfBlock l env begun stmts second other) (sym same.1) rest) in
    (sym behind.0, behind.1)

pub one_front : (l : Language) (before middle after : l.Environment) (stmt : Stmt) (stmts : List Stmt) (handed : List Handed) (others : Outcome CType)
    → is_last_value (stmt ∷ stmts) ≡ false → One l before (StatementIs stmt (Passes tt handed)) middle → One l middle (StatementsAre stmts others) after
    → (second : Outcome CType) (other : l.Environment) → IsBlock l before stmt stmts second other → Same (statement_joined handed others) second after other
one_front l before middle after stmt stmts handed others not_last it more second other (Last value last f below found made) = last_or_not last not_last
one_front l before middle after stmt stmts handed others not_last it more second other (Front also begun further this rest) =
    let same : Same (Passes tt handed) begun middle further = it begun further this in
    let behind : IsRestOfBlock l middle (Passes tt handed) stmts second other =
    subst (λ (f : Outcome (Unit {0})). IsRestOfBlock l middle f stmts second other) (sym same.0) (subst (λ (env : l.Environment). IsRestOfBlock l env begun stmts second other) (sym same.1) rest) in
    let last : Same others behind.0 after other = more behind.0 other behind.1 in
    (ap (statement_joined handed) last.0 ∙ sym behind.2, last.1)

-- sizes
pub one_sizes_refused : (l : Language) (before : l.Environment) (expr : Expr) (sizes : List (Option Expr)) (broken : Fault) (after : l.Environment)
    → One l before (PieceIs (SizeOfArray expr) (Refused broken)) after → One l before (SizesAre (Some expr ∷ sizes) (Refused broken)) after
one_sizes_refused l before expr sizes broken after one second other found =
    let is : row.IsSizes l before expr sizes second other = row.sizes_row found in
    let same : Same (Refused broken) is.0 after is.1 = one is.0 is.1 is.2 in
    let rest : IsRestOfSizes l after (Refused broken) sizes second other =
    subst (λ (f : Outcome Told). IsRestOfSizes l after f sizes second other) (sym same.0) (subst (λ (env : l.Environment). IsRestOfSizes l env is.0 sizes second other) (sym same.1) is.3) in
    (sym rest.0, rest.1)

pub one_more_sizes : (l : Language) (before middle after : l.Environment) (expr : Expr) (sizes : List (Option Expr)) (size : Size) (handed : List Handed) (others : Outcome (List Size))
    → One l before (PieceIs (SizeOfArray expr) (Passes (SizeIs size) handed)) middle → One l middle (SizesAre sizes others) after
    → One l before (SizesAre (Some expr ∷ sizes) (sizes_joined size handed others)) after
one_more_sizes l before middle after expr sizes size handed others one more second other found =
    let is : row.IsSizes l before expr sizes second other = row.sizes_row found in
    let same : Same (Passes (SizeIs size) handed) is.0 middle is.1 = one is.0 is.1 is.2 in
    let rest : IsRestOfSizes l middle (Passes (SizeIs size) handed) sizes second other =
    subst (λ (f : Outcome Told). IsRestOfSizes l middle f sizes second other) (sym same.0) (subst (λ (env : l.Environment). IsRestOfSizes l env is.0 sizes second other) (sym same.1) is.3) in
    let behind : Same others rest.0 after other = more rest.0 other rest.1 in
    (ap (sizes_joined size handed) behind.0 ∙ sym rest.2, behind.1)

-- type names
pub one_words_refused : (l : Language) (before : l.Environment) (to : TypeName) (name : NameParts) (words : Words) (broken : Fault) (after : l.Environment)
    → out-TypeName to ≡ name → out-TypeSpec name.spec ≡ words → One l before (WordsAre words (Refused broken)) after → One l before (NameOfTypeIs to (Refused broken)) after
one_words_refused l before to name words broken after e f one second other found =
    let is : IsTypeName l before name words second other = row.settled_name l before other to name words second e f (row.type_name_row found) in
    let same : Same (Refused broken) is.0 after is.1 = one is.0 is.1 is.2 in
    let rest : IsRestOfType l after (Refused broken) name second other =
    subst (λ (o : Outcome NamedType). IsRestOfType l after o name second other) (sym same.0) (subst (λ (env : l.Environment). IsRestOfType l env is.0 name second other) (sym same.1) is.3) in
    (sym rest.0, rest.1)

pub one_type_name : (l : Language) (before middle after : l.Environment) (to : TypeName) (name : NameParts) (words : Words) (base : NamedType) (handed : List Handed) (counts : Outcome (List Size)) (first : Outcome NamedType)
    → out-TypeName to ≡ name → out-TypeSpec name.spec ≡ words → first ≡ type_joined l base name.stars handed after counts
    → One l before (WordsAre words (Passes base handed)) middle → One l middle (SizesAre name.sizes counts) after → One l before (NameOfTypeIs to first) after
one_type_name l before middle after to name words base handed counts first e f made one more second other found =
    let is : IsTypeName l before name words second other = row.settled_name l before other to name words second e f (row.type_name_row found) in
    let same : Same (Passes base handed) is.0 middle is.1 = one is.0 is.1 is.2 in
    let rest : IsRestOfType l middle (Passes base handed) name second other =
    subst (λ (o : Outcome NamedType). IsRestOfType l middle o name second other) (sym same.0) (subst (λ (env : l.Environment). IsRestOfType l env is.0 name second other) (sym same.1) is.3) in
    via (type_joined l base name.stars handed) made rest.2 (more rest.0 other rest.1)

-- blocks
pub one_block : (l : Language) (inside : l.Environment) (inner : Outcome CType) (body : List Stmt) {before : l.Environment} (second : Outcome Told) (other : l.Environment)
    (is : row.IsBlockPiece l before body second other) → Same inner is.0 inside is.1 → Same (block_found inner) second (l.left inside) other
one_block l inside inner body second other is same = (ap block_found same.0 ∙ sym is.3, ap l.left same.1 ∙ is.4)

-- a struct with braces, by its tag
pub struct_by : (l : Language) (before : l.Environment) (name : Option Identifier) (fields : List FieldDecl) (opening : Opening (ℕ × l.Environment)) (second : Outcome NamedType) (other : l.Environment)
    → struct_opening l name before ≡ opening → Finds l before (WordsAre (Struct name (Some fields)) second) other → braces.IsOpened l before name fields opening second other
struct_by l before name fields opening second other e found =
    subst (λ (o : Opening (ℕ × l.Environment)). braces.IsOpened l before name fields o second other) e (braces.struct_braces_row found)

pub one_struct_closed : (l : Language) (before inside middle : l.Environment) (number : ℕ) (members : List Field) (handed : List Handed) (name : Option Identifier) (fields : List FieldDecl)
    → struct_opening l name before ≡ Opens (number, inside) → One l inside (MembersAre [] fields (Passes members handed)) middle
    → One l before (WordsAre (Struct name (Some fields)) (Passes (whole (StructType number)) handed)) (l.struct_completed number members middle)
one_struct_closed l before inside middle number members handed name fields e one second other found =
    one_both (braces.MembersFound l inside [] fields) (braces.Closes l number) members handed middle (Passes (whole (StructType number)) handed) (l.struct_completed number members middle) one
    (one_given (Passes (whole (StructType number)) handed) (l.struct_completed number members middle)) second other (struct_by l before name fields (Opens (number, inside)) second other e found)

pub one_members_refused : (l : Language) (before inside after : l.Environment) (number : ℕ) (name : Option Identifier) (fields : List FieldDecl) (broken : Fault)
    → struct_opening l name before ≡ Opens (number, inside) → One l inside (MembersAre [] fields (Refused broken)) after
    → One l before (WordsAre (Struct name (Some fields)) (Refused broken)) after
one_members_refused l before inside after number name fields broken e one second other found =
    one_refused (braces.MembersFound l inside [] fields) (braces.Closes l number) broken after one second other (struct_by l before name fields (Opens (number, inside)) second other e found)

-- an enum with braces
pub enum_by : (l : Language) (before : l.Environment) (name : Option Identifier) (values : List Enumerator) (opening : Opening l.Environment) (second : Outcome NamedType) (other : l.Environment)
    → enum_opening l name before ≡ opening → Finds l before (WordsAre (Enum name (Some values)) second) other → braces.IsListed l before values opening second other
enum_by l before name values opening second other e found =
    subst (λ (o : Opening l.Environment). braces.IsListed l before values o second other) e (braces.enum_braces_row found)

-- one member
pub one_judged : (l : Language) (after : l.Environment) (base : NamedType) (members : List Field) (parts : MemberParts) (counts : List Size) (handed : List Handed) (told : Unit {0}) (further : List Handed) (first : Outcome (List Field))
    → braces.IsJudgedMember l after members parts (member_type l.abi (l.structs after) base parts counts) (handed ++ further) first
    → OneOf (braces.IsBehindWidth l base members parts counts handed told further after) first after
one_judged l after base members parts counts handed told further first settled second other also = (one_settled _ _ _ first second settled also.0, also.1)

pub one_member : (l : Language) (before middle after : l.Environment) (base named : NamedType) (members : List Field) (name : FieldName) (parts : MemberParts) (counts : List Size) (faults : List Fault) (handed further : List Handed) (first : Outcome (List Field))
    → out-FieldName name ≡ parts → One l before (MemberSizesAre parts.sizes (Passes counts handed)) middle → One l middle (WidthIs parts.bits (Passes tt further)) after
    → member_type l.abi (l.structs after) base parts counts ≡ named → faults_of_member l.abi (l.structs after) members parts named ≡ faults
    → IsSettled faults (members ++ member parts.name named.ctype ∷ []) (handed ++ further) first → One l before (MemberIs base members name first) after
one_member l before middle after base named members name parts counts faults handed further first e sizes width t f settled second other found =
    let is : braces.IsMember l before base members parts second other = subst (λ (p : MemberParts). braces.IsMember l before base members p second other) e (braces.member_row found) in
    one_both (braces.SizesFound l before parts.sizes) (braces.IsBehindSizes l base members parts) counts handed middle first after sizes
    (one_both (braces.WidthFound l middle parts.bits) (braces.IsBehindWidth l base members parts counts handed) tt further after first after width
    (one_judged l after base members parts counts handed tt further first (braces.judged_member l after base named members parts counts faults (handed ++ further) first t f settled))) second other is

pub one_sizes_of_member : (l : Language) (before after : l.Environment) (base : NamedType) (members : List Field) (name : FieldName) (parts : MemberParts) (broken : Fault)
    → out-FieldName name ≡ parts → One l before (MemberSizesAre parts.sizes (Refused broken)) after → One l before (MemberIs base members name (Refused broken)) after
one_sizes_of_member l before after base members name parts broken e sizes second other found =
    one_refused (braces.SizesFound l before parts.sizes) (braces.IsBehindSizes l base members parts) broken after sizes second other
    (subst (λ (p : MemberParts). braces.IsMember l before base members p second other) e (braces.member_row found))

pub one_width_of_member : (l : Language) (before middle after : l.Environment) (base : NamedType) (members : List Field) (name : FieldName) (parts : MemberParts) (counts : List Size) (handed : List Handed) (broken : Fault)
    → out-FieldName name ≡ parts → One l before (MemberSizesAre parts.sizes (Passes counts handed)) middle → One l middle (WidthIs parts.bits (Refused broken)) after
    → One l before (MemberIs base members name (Refused broken)) after
one_width_of_member l before middle after base members name parts counts handed broken e sizes width second other found =
    one_both (braces.SizesFound l before parts.sizes) (braces.IsBehindSizes l base members parts) counts handed middle (Refused broken) after sizes
    (one_refused (braces.WidthFound l middle parts.bits) (braces.IsBehindWidth l base members parts counts handed) broken after width) second other
    (subst (λ (p : MemberParts). braces.IsMember l before base members p second other) e (braces.member_row found))

-- constants of an enum
pub one_twice : (l : Language) (before : l.Environment) (next : Option ℕ) (constant : Enumerator) (parts : EnumeratorParts) (constants : List Enumerator)
    → out-Enumerator constant ≡ parts → l.is_declared_here parts.name before ≡ true
    → One l before (EnumeratorsAre next (constant ∷ constants) (Refused (fault parts.place (Rule 2)))) before
one_twice l before next constant parts constants e here second other found =
    one_given (Refused (fault parts.place (Rule 2))) before second other (braces.enumerators_by l before other next constant parts constants second true e here (braces.enumerators_row found))

pub one_enumerator_refused : (l : Language) (before after : l.Environment) (next : Option ℕ) (constant : Enumerator) (parts : EnumeratorParts) (constants : List Enumerator) (broken : Fault)
    → out-Enumerator constant ≡ parts → l.is_declared_here parts.name before ≡ false → One l before (ValueOfEnumerator parts.place next parts.value (Refused broken)) after
    → One l before (EnumeratorsAre next (constant ∷ constants) (Refused broken)) after
one_enumerator_refused l before after next constant parts constants broken e here one second other found =
    one_refused (braces.ValueFound l before parts.place next parts.value) (braces.IsBehindValue l parts constants) broken after one second other
    (braces.enumerators_by l before other next constant parts constants second false e here (braces.enumerators_row found))

pub one_behind_value : (l : Language) (parts : EnumeratorParts) (constants : List Enumerator) (bits : ℕ) (handed : List Handed) (middle : l.Environment) (inside : Bool) (first : Outcome NamedType) (after : l.Environment)
    → l.is_declared_here parts.name middle ≡ inside → OneOf (braces.IsDeclaredBehind l parts constants bits handed middle inside) first after
    → OneOf (braces.IsBehindValue l parts constants bits handed middle) first after
one_behind_value l parts constants bits handed middle inside first after e one second other is =
    one second other (subst (λ (b : Bool). braces.IsDeclaredBehind l parts constants bits handed middle b second other) e is)

pub one_enumerator : (l : Language) (before middle after : l.Environment) (next : Option ℕ) (constant : Enumerator) (parts : EnumeratorParts) (constants : List Enumerator) (bits : ℕ) (handed : List Handed) (inside : Bool) (first : Outcome NamedType)
    → out-Enumerator constant ≡ parts → l.is_declared_here parts.name before ≡ false → One l before (ValueOfEnumerator parts.place next parts.value (Passes bits handed)) middle
    → l.is_declared_here parts.name middle ≡ inside → OneOf (braces.IsDeclaredBehind l parts constants bits handed middle inside) first after
    → One l before (EnumeratorsAre next (constant ∷ constants) first) after
one_enumerator l before middle after next constant parts constants bits handed inside first e here one also more second other found =
    one_both (braces.ValueFound l before parts.place next parts.value) (braces.IsBehindValue l parts constants) bits handed middle first after one
    (one_behind_value l parts constants bits handed middle inside first after also more) second other
    (braces.enumerators_by l before other next constant parts constants second false e here (braces.enumerators_row found))
