-- Of an item at most one answer is true: one tree with what stands behind it, or one reason why it is not read. A reason
-- has a number, and its place a name.
use Rattle.std.proofs.Common.{◌≡◌, ℕ, ◌-◌, ◌<◌, inl, inr, rules, lit≤, Bool, true, false, Some, List, [], ◌∷◌, length, map, take, drop, slice_get, cond, ap, sym, ◌∙◌, subst, arith}
use Rattle.std.specs.List.{All}
use Rattle.std.specs.Str.{bytes_eq}
use Rattle.std.proofs.lemmas.List.Elements.{All-cons, All-drop, All-head, All-map, All-nil, All-tail, All-take}
use Rattle.std.proofs.lemmas.Option.{get_or_from_slice_get, slice_get_within}
use Rattle.cbase.specs.Refused.{IsConstruct}
use Rattle.cbase.specs.declared.place.Place.{Place}
use Rattle.cbase.specs.declared.tree.item.Item.{Item}
use Rattle.cconstructs.specs.Constructs.{IsConstructAt, IsFirstConstruct, NamedWord, FloatingWord, FloatingConstant, VariableArguments, StringLiteral, FunctionPointer, word_rows}
use Rattle.cconstructs.specs.Finding.{found_at}
use Rattle.cconstructs.specs.declared.found.Found.{Found}
use Rattle.cconstructs.proofs.First.{first_exact}
use Rattle.cgrammar.specs.Phrases.{Context}
use Rattle.cgrammar.specs.Readings.{row_between}
use Rattle.cgrammar.specs.Operators.{row_of}
use Rattle.cgrammar.specs.Terminals.{Terminal, terminal_of}
use Rattle.ctokens.specs.declared.token.Token.{Token}
use Rattle.ctokens.specs.declared.token.Tokens.{Tokens}
use Rattle.ctokens.specs.Passed.{passed_tokens, unpassed}
use Rattle.ctokens.specs.TokenList.{HasNamedFiles}
use Rattle.cread.specs.UnreadItems.{IsPlaceIn, IsPlaceOf, IsUnread, ShowsConstruct, ShowsLayout}
use Rattle.cread.specs.ItemsRead.{IsItemRead}
use Rattle.cread.specs.declared.unread.Unread.{Unread}
use Rattle.cread.specs.declared.unread.Unread.TheVariants.{Construct, Syntax}
use Rattle.cread.specs.Named.{HasNumber, IsNamed, place_in}
use Rattle.cread.proofs.Complete.{one_item}

-- one row is read in one way
pub one_read : (t : Tokens) (from to : ℕ) (before middle second : Context) (item other : Item) → IsItemRead t from to before item middle
    → IsItemRead t from to before other second → (item ≡ other) × (middle ≡ second)
one_read t from to before middle second item other read also = one_item item other before middle second (row_between t from to) read.spelled also.spelled

-- what is read is not unread
pub read_or_unread : (t : Tokens) (from to : ℕ) (before middle : Context) (item : Item) (unread : Unread) → IsItemRead t from to before item middle
    → IsUnread t from to before unread → ⊥
read_or_unread t from to before middle item (Construct number place) read (inl layout) = read.plain layout.at layout.is.is
read_or_unread t from to before middle item (Construct number place) read (inr construct) = construct.none item middle read.spelled read.small
read_or_unread t from to before middle item (Syntax place) read nothing = nothing.none item middle read.spelled read.small

-- the first of numbers with a property
one_first : (P : ℕ → Type 0) (at other : ℕ) → P at → ((earlier : ℕ) → earlier < at → P earlier → ⊥) → P other
    → ((earlier : ℕ) → earlier < other → P earlier → ⊥) → at ≡ other
one_first P at other is first also second =
    let before : other < at → ⊥ = λ less. first other less also in
    let behind : at < other → ⊥ = λ less. second at less is in
    omega (arith, before, behind)

one_place : (t : Tokens) (number : ℕ) (place other : Place) → IsPlaceOf t number place → IsPlaceOf t number other → place ≡ other
one_place t number place other is also =
    let same : is.token ≡ also.token = (let both = sym is.is_token ∙ also.is_token in cc) in
    sym is.is_place ∙ (ap (λ (token : Token). token.place) same ∙ also.is_place)

place_in_row : (row : List Terminal) (number : ℕ) (place other : Place) → IsPlaceIn row number place → IsPlaceIn row number other → place ≡ other
place_in_row row number place other is also =
    let same : is.token ≡ also.token = (let both = sym is.is_token ∙ also.is_token in cc) in
    sym is.is_place ∙ (ap (λ (token : Terminal). token.place) same ∙ also.is_place)

one_layout : (t : Tokens) (from to number other : ℕ) (place second : Place) → ShowsLayout t from to number place → ShowsLayout t from to other second
    → Construct number place ≡ Construct other second
one_layout t from to number other place second is also =
    let at : is.at ≡ also.at = one_first _ is.at also.at is.is.is is.is.first also.is.is also.is.first in
    let places = one_place t also.at place second (subst (λ (n : ℕ). IsPlaceOf t n place) at is.placed) also.placed in
    let numbers : number ≡ other = is.is_layout ∙ sym also.is_layout in
    cc

one_construct : (row : List Terminal) (at other number second : ℕ) → IsFirstConstruct row at number → IsFirstConstruct row other second
    → (at ≡ other) × (number ≡ second)
one_construct row at other number second is also =
    let one = (first_exact row at number).1 is in
    let two = (first_exact row other second).1 also in
    let same : found_at number at ≡ found_at second other = cc in
    (ap (λ (found : Found). found.at) same, ap (λ (found : Found). found.number) same)

two_constructs : (t : Tokens) (from to number other : ℕ) (before : Context) (place second : Place) → ShowsConstruct t from to before number place
    → ShowsConstruct t from to before other second → Construct number place ≡ Construct other second
two_constructs t from to number other before place second is also =
    let row = row_between t from to in
    let (at, numbers) = one_construct row is.at also.at number other is.is also.is in
    let places = place_in_row row also.at place second (subst (λ (n : ℕ). IsPlaceIn row n place) at is.placed) also.placed in
    cc

-- an item is not read for one reason
pub one_unread : (t : Tokens) (from to : ℕ) (before : Context) (unread other : Unread) → IsUnread t from to before unread
    → IsUnread t from to before other → unread ≡ other
one_unread t from to before (Construct number place) (Construct other second) (inl layout) (inl also) = one_layout t from to number other place second layout also
one_unread t from to before (Construct number place) (Construct other second) (inl layout) (inr also) = absurd (also.plain layout.at layout.is.is)
one_unread t from to before (Construct number place) (Construct other second) (inr is) (inl layout) = absurd (is.plain layout.at layout.is.is)
one_unread t from to before (Construct number place) (Construct other second) (inr is) (inr also) = two_constructs t from to number other before place second is also
one_unread t from to before (Construct number place) (Syntax second) (inl layout) also = absurd (also.plain layout.at layout.is.is)
one_unread t from to before (Construct number place) (Syntax second) (inr is) also = absurd (also.free is.at number is.is.is)
one_unread t from to before (Syntax place) (Construct other second) is (inl layout) = absurd (is.plain layout.at layout.is.is)
one_unread t from to before (Syntax place) (Construct other second) is (inr also) = absurd (is.free also.at other also.is.is)
one_unread t from to before (Syntax place) (Syntax second) is also = ap Syntax (one_place t from place second is.placed also.placed)

-- ---- numbers and names

pub All-at : {A : Type 0} (P : A → Type 0) (xs : List A) (at : ℕ) (x : A) → All P xs → slice_get xs at ≡ Some x → P x
All-at P xs at x all found = subst P (get_or_from_slice_get xs at x x found) (all at x (slice_get_within xs at x found))

abbrev HaveNumbers : List (List ℕ × ℕ) → Type 0
HaveNumbers [] = Unit {0}
HaveNumbers (row ∷ rows) = IsConstruct row.1 × HaveNumbers rows

row_chosen : (same : Bool) (bytes : List ℕ) (rows : List (List ℕ × ℕ)) (first number : ℕ) → IsConstruct first
    → (row_of bytes rows ≡ Some number → IsConstruct number) → cond same (Some first) (row_of bytes rows) ≡ Some number
    → IsConstruct number
row_chosen true bytes rows first number (low, high) others is = let same : first ≡ number = cc in (omega (arith, same, low), omega (arith, same, high))
row_chosen false bytes rows first number here others is = others is

row_numbered : (bytes : List ℕ) (rows : List (List ℕ × ℕ)) (number : ℕ) → HaveNumbers rows → row_of bytes rows ≡ Some number
    → IsConstruct number
row_numbered bytes [] number have is = cc
row_numbered bytes (row ∷ rows) number (here, others) is =
    row_chosen (bytes_eq row.0 bytes) bytes rows row.1 number here (row_numbered bytes rows number others) is

construct_numbered : {row : List Terminal} {at number : ℕ} → IsConstructAt row at number → IsConstruct number
construct_numbered {number} (NamedWord token found word listed) = row_numbered token.bytes word_rows number (search rules) listed
construct_numbered (FloatingWord token found word floating) = (lit≤ tt, lit≤ tt)
construct_numbered (FloatingConstant token found number none) = (lit≤ tt, lit≤ tt)
construct_numbered (VariableArguments token found mark) = (lit≤ tt, lit≤ tt)
construct_numbered (StringLiteral token found quoted free) = (lit≤ tt, lit≤ tt)
construct_numbered (FunctionPointer opening star first opens second stars headed pointed) = (lit≤ tt, lit≤ tt)

unread_numbered : (t : Tokens) (from to : ℕ) (before : Context) (unread : Unread) → IsUnread t from to before unread → HasNumber unread
unread_numbered t from to before (Construct number place) (inl layout) = let seven = layout.is_layout in (omega (arith, seven), omega (arith, seven))
unread_numbered t from to before (Construct number place) (inr is) = construct_numbered is.is.is
unread_numbered t from to before (Syntax place) is = tt

pub All-unpassed : (P : Terminal → Type 0) (passed : List Bool) (row : List Terminal) → All P row → All P (unpassed passed row)
All-unpassed P [] row all = All-nil P
All-unpassed P (first ∷ others) [] all = All-nil P
All-unpassed P (true ∷ others) (token ∷ row) all = All-unpassed P others row (All-tail P token row all)
All-unpassed P (false ∷ others) (token ∷ row) all =
    All-cons P token (unpassed others row) (All-head P token row all) (All-unpassed P others row (All-tail P token row all))

place_named : (t : Tokens) (at : ℕ) (place : Place) → HasNamedFiles t → IsPlaceOf t at place → place.file < length t.names
place_named t at place (some, files) is =
    subst (λ (p : Place). p.file < length t.names) is.is_place
    (All-at (λ (token : Token). token.place.file < length t.names) t.list at is.token files is.is_token)

row_named : (t : Tokens) (from to at : ℕ) (place : Place) → HasNamedFiles t → IsPlaceIn (row_between t from to) at place → place.file < length t.names
row_named t from to at place (some, files) is =
    let Named : Terminal → Type 0 = λ (token : Terminal). token.place.file < length t.names in
    let all : All Named (row_between t from to) = All-unpassed Named (take (to - from) (drop from (passed_tokens t))) (take (to - from) (drop from (map (terminal_of t.text) t.list)))
    (All-take Named (to - from) (drop from (map (terminal_of t.text) t.list)) (All-drop Named from (map (terminal_of t.text) t.list) (All-map Named (terminal_of t.text) t.list files))) in
    subst (λ (p : Place). p.file < length t.names) is.is_place (All-at Named (row_between t from to) at is.token all is.is_token)

place_is_named : (t : Tokens) (from to : ℕ) (before : Context) (unread : Unread) → HasNamedFiles t → IsUnread t from to before unread
    → (place_in unread).file < length t.names
place_is_named t from to before (Construct number place) named (inl layout) = place_named t layout.at place named layout.placed
place_is_named t from to before (Construct number place) named (inr is) = row_named t from to is.at place named is.placed
place_is_named t from to before (Syntax place) named is = place_named t from place named is.placed

-- what is not read can be named
pub unread_named : (t : Tokens) (from to : ℕ) (before : Context) (unread : Unread) → HasNamedFiles t → IsUnread t from to before unread → IsNamed t.names unread
unread_named t from to before unread named is = (unread_numbered t from to before unread is, place_is_named t from to before unread named is)
