-- The names with linkage that a text defines, asked of its tokens alone (C11 6.9p5).
--
-- An item that ends with a body defines each name that it declares at depth 0 (C11 6.9.1). An item without a body and without
-- `typedef` defines those of them that no `(` follows, since a head alone declares a function; and where it has `extern`, only
-- those of these that have an initialiser (C11 6.9.2). The first word of an item, storage words left out, begins its type where an
-- item of the text makes it a typedef's name (C11 6.7.8); else it is a name like any other, whose type is left out.
use Rattle.std.specs.Prelude.{ℕ, Bool, true, false, not, ◌&&◌, ◌||◌, if◌then◌else◌, List, [], ◌∷◌, ◌++◌, map, nat_eq}
use Rattle.std.specs.List.{flat_map}
use Rattle.ctokens.specs.declared.item_span.ItemSpan.{ItemSpan}
use Rattle.ctokens.specs.declared.token.Tokens.{Tokens}
use Rattle.ctokens.specs.Gathered.{is_among, with_name}
use Rattle.definitions.specs.declared.form.Form.{Form}
use Rattle.definitions.specs.declared.form.Form.TheVariants.{Body, Typedef, Extern, Plain}
use Rattle.definitions.specs.declared.form.StorageWord.TheVariants as storage
use Rattle.definitions.specs.declared.role.Role.{Role}
use Rattle.definitions.specs.declared.role.Role.TheVariants.{Other}
use Rattle.definitions.specs.declared.sign.Sign.{Sign}
use Rattle.definitions.specs.Roles.{follows_declared, is_comma, is_equals, is_left_parenthesis, is_name, is_semicolon, is_storage_word, is_tag_word}
use Rattle.definitions.specs.Rows.{depth_after, ends_with_body, has_storage, item_row, sign_word}

-- the form of an item with this row: one that ends with a body, and else a declaration, by its storage word
abbrev pub form_of : List Sign → Form
form_of row =
    if ends_with_body row then Body
    else (if has_storage storage.Typedef 0 row then Typedef else (if has_storage storage.Extern 0 row then Extern else Plain))

-- whether an item of the form defines a name that it declares, where it is known whether a `(` follows the name, and whether
-- its declarator has an initialiser (C11 6.9.1p1, 6.9.2p1, 6.9.2p2)
abbrev pub defines : Form → Bool → Bool → Bool
defines Body function initialised = true
defines Typedef function initialised = false
defines Extern function initialised = not function && initialised
defines Plain function initialised = not function

-- whether an initialiser begins at a token: a `=` at depth 0
abbrev pub begins_initialiser : ℕ → Role → Bool
begins_initialiser depth role = nat_eq depth 0 && is_equals role

-- whether a declarator ends at a token: a `,` or `;` at depth 0
abbrev pub ends_declarator : ℕ → Role → Bool
ends_declarator depth role = nat_eq depth 0 && (is_comma role || is_semicolon role)

-- whether the declarator that begins at a row has an initialiser: a `=` stands at depth 0 before the next `,` or `;`
-- there (C11 6.7p1)
abbrev pub has_initialiser : ℕ → List Sign → Bool
has_initialiser depth [] = false
has_initialiser depth (sign ∷ rest) =
    if begins_initialiser depth sign.role then true
    else (if ends_declarator depth sign.role then false else has_initialiser (depth_after depth sign.role) rest)

-- whether a `=` stands at depth 0 since the last `,` there, behind a token
abbrev pub set_after : ℕ → Bool → Role → Bool
set_after depth set role = if nat_eq depth 0 then (is_equals role || (not (is_comma role) && set)) else set

-- whether the type stands in front, or is left out, behind a token: the first that is no storage word begins it
abbrev pub typed_after : Bool → Role → Bool
typed_after typed role = typed || not (is_storage_word role)

-- whether an item declares the word that a row begins with, where `before` is the token before it: a word, not a keyword, at
-- depth 0 that is followed by `(`, `[`, `=`, `,`, `;` or `asm`, stands behind no `=` at depth 0 since the last `,` at depth 0, and
-- is neither a tag, which stands behind `struct`, `union` or `enum`, nor begins the type (C11 6.7p2, 6.7.6)
abbrev pub declares : Role → ℕ → Bool → Bool → List Sign → Bool
declares before depth set typed [] = false
declares before depth set typed (word ∷ []) = false
declares before depth set typed (word ∷ (next ∷ rest)) =
    (nat_eq depth 0 && not set) && ((is_name word.role && follows_declared next.role) && (typed && not (is_tag_word before)))

-- whether a `(` stands behind the word that a row begins with
abbrev pub is_function : List Sign → Bool
is_function [] = false
is_function (word ∷ []) = false
is_function (word ∷ (next ∷ rest)) = is_left_parenthesis next.role

-- whether an item of the form defines the word that a row begins with
abbrev pub defines_word : Form → Role → ℕ → Bool → Bool → List Sign → Bool
defines_word form before depth set typed row = declares before depth set typed row && defines form (is_function row) (has_initialiser depth row)

-- the words that an item of the form defines in a row; `before` is the token before the row, `depth` the number of brackets
-- that are open there, `set` whether a `=` stands at depth 0 since the last `,` at depth 0, and `typed` whether the type stands in
-- front of the row or is left out: else the first word of the row that is no storage word begins it
abbrev pub defined_in : Form → Role → ℕ → Bool → Bool → List Sign → List Sign
defined_in form before depth set typed [] = []
defined_in form before depth set typed (sign ∷ rest) =
    (if defines_word form before depth set typed (sign ∷ rest) then sign ∷ [] else [])
    ++ defined_in form sign.role (depth_after depth sign.role) (set_after depth set sign.role) (typed_after typed sign.role) rest

-- the names that an item of the form with this row defines, where it is known whether its type is left out
abbrev pub names_in : List ℕ → Bool → Form → List Sign → List (List ℕ)
names_in text untyped form row = map (sign_word text) (defined_in form Other 0 false untyped row)

-- those names where the form is that of an item that ends with a body, and else none
abbrev pub bodied_in : List ℕ → Bool → Form → List Sign → List (List ℕ)
bodied_in text untyped Body row = names_in text untyped Body row
bodied_in text untyped Typedef row = []
bodied_in text untyped Extern row = []
bodied_in text untyped Plain row = []

-- what is left of the names that an item of the form defines as those that it defines with a body
unfoldable pub with_body : Form → List (List ℕ) → List (List ℕ)
with_body Body names = names
with_body Typedef names = []
with_body Extern names = []
with_body Plain names = []

-- the names that an item of the form with this row makes a typedef's: with `typedef`, all that it declares, as a body would define
-- them (C11 6.7.8p3)
abbrev pub typedefs_in : List ℕ → Form → List Sign → List (List ℕ)
typedefs_in text Body row = []
typedefs_in text Typedef row = names_in text false Body row
typedefs_in text Extern row = []
typedefs_in text Plain row = []

-- names behind others, each once
abbrev pub each_once : List (List ℕ) → List (List ℕ) → List (List ℕ)
each_once known [] = known
each_once known (name ∷ names) = each_once (with_name name known) names

-- the names that items of a text make a typedef's, in order
abbrev pub typedefs_of : Tokens → List ItemSpan → List (List ℕ)
typedefs_of t items = flat_map (λ (span : ItemSpan). typedefs_in t.text (form_of (item_row t span)) (item_row t span)) items

-- the names that the items of a text make a typedef's, each once
abbrev pub typedef_names : Tokens → List ItemSpan → List (List ℕ)
typedef_names t items = each_once [] (typedefs_of t items)

-- the first word of a row that is no storage word; none where that is no word, or a token is wanting
abbrev pub first_word : List ℕ → List Sign → List ℕ
first_word text [] = []
first_word text (sign ∷ rest) = if is_storage_word sign.role then first_word text rest else sign_word text sign

-- whether an item with this row leaves its type out, as far as its first word says so: no typedef has its name
abbrev pub is_untyped : List ℕ → List (List ℕ) → List Sign → Bool
is_untyped text typedefs row = not (is_among (first_word text row) typedefs)

-- the names that an item with this row defines with a body, where these are the typedefs of the text
abbrev pub bodied_by : List ℕ → List (List ℕ) → List Sign → List (List ℕ)
bodied_by text typedefs row = bodied_in text (is_untyped text typedefs row) (form_of row) row

-- the names that an item with this row defines
abbrev pub defined_by : List ℕ → List (List ℕ) → List Sign → List (List ℕ)
defined_by text typedefs row = names_in text (is_untyped text typedefs row) (form_of row) row

-- the names that items of a text define with a body, in order, where these are the typedefs of the text
abbrev pub bodied_among : Tokens → List (List ℕ) → List ItemSpan → List (List ℕ)
bodied_among t typedefs items = flat_map (λ (span : ItemSpan). bodied_by t.text typedefs (item_row t span)) items

-- the names that items of a text define, in order, where these are the typedefs of the text
abbrev pub defined_among : Tokens → List (List ℕ) → List ItemSpan → List (List ℕ)
defined_among t typedefs items = flat_map (λ (span : ItemSpan). defined_by t.text typedefs (item_row t span)) items

-- the names that the items of a text define with a body, in order
abbrev pub bodied_names : Tokens → List ItemSpan → List (List ℕ)
bodied_names t items = bodied_among t (typedef_names t items) items

-- the names that the items of a text define, in order
abbrev pub defined_names : Tokens → List ItemSpan → List (List ℕ)
defined_names t items = defined_among t (typedef_names t items) items
