-- How the two definitions of what an item declares agree: that of `definitions` says which names it defines, that of `ctokens` which ones it offers, so that it is needed where they are used.
use Rattle.std.specs.Prelude.{◌≡◌, ℕ, false, List}
use Rattle.std.specs.List.{Contains}
use Rattle.ctokens.specs.Bodies as offering
use Rattle.ctokens.specs.ItemRows.{all_lexemes, item_row, words_in}
use Rattle.ctokens.specs.Need.{declares_built_in, needed_by}
use Rattle.ctokens.specs.Offered.{declared}
use Rattle.ctokens.specs.declared.item_span.ItemSpan.{ItemSpan}
use Rattle.ctokens.specs.declared.token.Tokens.{Tokens}
use Rattle.definitions.specs.Defined.{defined_by}
use Rattle.definitions.specs.Rows as defining

-- the names that an item of a text defines, whichever names are those of typedefs
abbrev pub defined : Tokens → List (List ℕ) → ItemSpan → List (List ℕ)
defined t typedefs span = defined_by t.text typedefs (defining.item_row t span)

-- those of its names that it offers as words which it declares at depth 0
abbrev pub declared_words : Tokens → ItemSpan → List (List ℕ)
declared_words t span = words_in (declared 0 false (item_row (all_lexemes t) span))

-- each name that an item defines it offers
abbrev pub AreOffered : Type 0
AreOffered = (t : Tokens) (typedefs : List (List ℕ)) (span : ItemSpan) (name : List ℕ) → Contains (defined t typedefs span) name → Contains (declared_words t span) name

-- so the item is needed where the name is used, but for one without a body whose names are all those of functions that are built in
abbrev pub AreNeededBy : Type 0
AreNeededBy =
    (t : Tokens) (typedefs : List (List ℕ)) (span : ItemSpan) (name : List ℕ) → declares_built_in (item_row (all_lexemes t) span) ≡ false
    → Contains (defined t typedefs span) name → Contains (needed_by (item_row (all_lexemes t) span)) name

-- and an item ends with a body by the one where it does by the other
abbrev pub DoBodiesAgree : Type 0
DoBodiesAgree =
    (t : Tokens) (span : ItemSpan) → defining.ends_with_body (defining.item_row t span) ≡ offering.ends_with_body (item_row (all_lexemes t) span)
