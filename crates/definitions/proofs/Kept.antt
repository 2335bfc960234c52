-- The tokens of a row that are not passed over.
use Rattle.std.proofs.Common.{◌≡◌, ℕ, Bool, true, false, ◌||◌, List, [], ◌∷◌, ◌++◌, if◌then◌else◌, map, nat_eq, sym, subst, arith}
use Rattle.std.specs.List.{All}
use Rattle.std.proofs.lemmas.List.Elements.{All-nil, All-cons, All-drop, All-map}
use Rattle.ctokens.specs.declared.token.Token.{Token}
use Rattle.ctokens.specs.Passed.{unpassed}
use Rattle.definitions.specs.declared.sign.Sign.{Sign}
use Rattle.definitions.specs.declared.form.Form.{Form}
use Rattle.definitions.specs.declared.role.Role.{Role}
use Rattle.definitions.specs.declared.role.Role.TheVariants.{Other}
use Rattle.definitions.specs.Defined.{defined_in, defines_word, set_after, typed_after}
use Rattle.definitions.specs.Rows.{HasBytes, HasSignBytes, depth_after, outermost, sign_of}

unpassed_all : {X : Type 0} (P : X → Type 0) (passed : List Bool) (xs : List X) → All P xs → All P (unpassed passed xs)
unpassed_all P [] xs all = All-nil P
unpassed_all P (p ∷ ps) [] all = All-nil P
unpassed_all P (true ∷ ps) (x ∷ xs) all = unpassed_all P ps xs (All-drop P 1 (x ∷ xs) all)
unpassed_all P (false ∷ ps) (x ∷ xs) all =
    All-cons P x (unpassed ps xs) (all 0 x (omega arith)) (unpassed_all P ps xs (All-drop P 1 (x ∷ xs) all))

-- a token that is left of a row stands in the row
chosen_all : (P : Sign → Type 0) (here : Bool) (sign : Sign) (others : List Sign) → P sign → All P others → All P ((if here then sign ∷ [] else []) ++ others)
chosen_all P true sign others of_sign of_others = All-cons P sign others of_sign of_others
chosen_all P false sign others of_sign of_others = of_others

outermost_all : (P : Sign → Type 0) (depth : ℕ) (row : List Sign) → All P row → All P (outermost depth row)
outermost_all P depth [] all = All-nil P
outermost_all P depth (sign ∷ rest) all =
    chosen_all P (nat_eq depth 0 || nat_eq (depth_after depth sign.role) 0) sign (outermost (depth_after depth sign.role) rest) (all 0 sign (omega arith))
    (outermost_all P (depth_after depth sign.role) rest (All-drop P 1 (sign ∷ rest) all))

-- what is kept of tokens with bytes has bytes
pub kept_bytes : (text : List ℕ) (passed : List Bool) (tokens : List Token) (row : List Sign) → All (HasBytes text) tokens
    → row ≡ outermost 0 (map (sign_of text) (unpassed passed tokens)) → All (HasSignBytes text) row
kept_bytes text passed tokens row all is =
    subst (λ (signs : List Sign). All (HasSignBytes text) signs) (sym is)
    (outermost_all (HasSignBytes text) 0 (map (sign_of text) (unpassed passed tokens))
    (All-map (HasSignBytes text) (sign_of text) (unpassed passed tokens) (unpassed_all (HasBytes text) passed tokens all)))

-- what names something in a row stands in the row
defined_all : (P : Sign → Type 0) (form : Form) (before : Role) (depth : ℕ) (set typed : Bool) (row : List Sign) → All P row → All P (defined_in form before depth set typed row)
defined_all P form before depth set typed [] all = All-nil P
defined_all P form before depth set typed (sign ∷ rest) all =
    chosen_all P (defines_word form before depth set typed (sign ∷ rest)) sign (defined_in form sign.role (depth_after depth sign.role) (set_after depth set sign.role) (typed_after typed sign.role) rest)
    (all 0 sign (omega arith)) (defined_all P form sign.role (depth_after depth sign.role) (set_after depth set sign.role) (typed_after typed sign.role) rest (All-drop P 1 (sign ∷ rest) all))

-- what names something has bytes
pub defined_bytes : (text : List ℕ) (form : Form) (untyped : Bool) (row names : List Sign) → All (HasSignBytes text) row → names ≡ defined_in form Other 0 false untyped row
    → All (HasSignBytes text) names
defined_bytes text form untyped row names all is =
    subst (λ (signs : List Sign). All (HasSignBytes text) signs) (sym is) (defined_all (HasSignBytes text) form Other 0 false untyped row all)
