-- Names in a set of vectors of bytes, each once.
use Rattle.std.proofs.Common.{◌≡◌, ℕ, ◌+◌, ◌<◌, Bool, List, [], ◌∷◌, ◌++◌, ◌||◌, map, length, take, get_or, refl, ap, sym, ◌∙◌}
use Rattle.std.proofs.lemmas.List.{take_more, append-nil}
use Rattle.std.proofs.lemmas.Grind.{flat_map-append}
use Rattle.std.specs.List.{flat_map, list_any}
use Rattle.ctokens.specs.declared.item_span.ItemSpan.{ItemSpan}
use Rattle.ctokens.specs.declared.token.Tokens.{Tokens}
use Rattle.ctokens.specs.Gathered.{with_name}
use Rattle.definitions.specs.Defined.{each_once, form_of, typedef_names, typedefs_in, typedefs_of}
use Rattle.definitions.specs.Rows.{item_row}

pub any-map : {X : Type 0} (test : List ℕ → Bool) (bytes : X → List ℕ) (keys : List X) → list_any (λ x. test (bytes x)) keys ≡ list_any test (map bytes keys)
any-map test bytes [] = refl
any-map test bytes (key ∷ keys) = ap (λ (b : Bool). test (bytes key) || b) (any-map test bytes keys)

-- the names of two lists, one behind the other
pub each_once_append : (known names others : List (List ℕ)) → each_once known (names ++ others) ≡ each_once (each_once known names) others
each_once_append known [] others = refl
each_once_append known (name ∷ names) others = each_once_append (with_name name known) names others

-- the names of one more part
flat_more : {X : Type 0} (f : X → List (List ℕ)) (xs : List X) (i : ℕ) (d : X) → i < length xs → flat_map f (take (i + 1) xs) ≡ flat_map f (take i xs) ++ f (get_or xs i d)
flat_more f xs i d inside =
    ap (flat_map f) (take_more xs i d inside)
    ∙ (flat_map-append f (take i xs) (get_or xs i d ∷ []) ∙ ap (λ (names : List (List ℕ)). flat_map f (take i xs) ++ names) (append-nil (f (get_or xs i d))))

-- one more item makes its names typedefs behind those of the items before it
pub typedefs_more : (t : Tokens) (items : List ItemSpan) (i : ℕ) (d : ItemSpan) (found : List (List ℕ)) → i < length items → found ≡ typedef_names t (take i items)
    → each_once found (typedefs_in t.text (form_of (item_row t (get_or items i d))) (item_row t (get_or items i d))) ≡ typedef_names t (take (i + 1) items)
typedefs_more t items i d found inside is =
    let names : List (List ℕ) = typedefs_in t.text (form_of (item_row t (get_or items i d))) (item_row t (get_or items i d)) in
    ap (λ (known : List (List ℕ)). each_once known names) is
    ∙ sym (ap (each_once []) (flat_more (λ (span : ItemSpan). typedefs_in t.text (form_of (item_row t span)) (item_row t span)) items i d inside) ∙ each_once_append [] (typedefs_of t (take i items)) names)
