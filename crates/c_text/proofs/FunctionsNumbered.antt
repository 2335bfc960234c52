-- A function that stands behind others gets the number of these, unless one of them has its name.
use Rattle.std.proofs.Common.{◌≡◌, ℕ, suc, Bool, true, false, List, [], ◌∷◌, ◌++◌, length, Option, None, Some, is_some, if◌then◌else◌, Result, Ok, Err, OnOk, append_assoc, append-nil, refl, sym, ap, ◌∙◌, subst}
use Rattle.std.specs.Prelude.{option_map}
use Rattle.std.specs.Str.{bytes_eq}
use Rattle.std.proofs.lemmas.Slice.Eq.{bytes_eq-Decides}
use Rattle.cbase.specs.declared.tree.item.Item.{Item}
use Rattle.cbase.specs.declared.tree.item.Item.TheVariants.{Empty, Declare, Function}
use Rattle.typing.specs.environment.Names.{Entries, value_in, with_value}
use Rattle.typing.proofs.environment.Tables.{value-put}
use Rattle.c_machine.specs.Program.{FunctionItem, functions_in, number_in}
use Rattle.c_text.specs.FirstRows.{or_else}
use Rattle.c_text.specs.Numbered.{AreNumbers, with_first}
use Rattle.c_text.proofs.FirstRows.{or_none}

number_behind : (functions : List FunctionItem) (function : FunctionItem) (name : List ℕ) → number_in (functions ++ function ∷ []) name
    ≡ or_else (number_in functions name) (if bytes_eq function.name name then Some (length functions) else None)
number_behind [] function name = at (bytes_eq function.name name)
  where
    at : (same : Bool) → (if same then Some 0 else option_map suc None) ≡ (if same then Some 0 else None)
    at true = refl
    at false = refl
number_behind (first ∷ functions) function name = at (bytes_eq first.name name) (number_behind functions function name)
  where
    mapped : (found : Option ℕ) (same : Bool) → option_map suc (or_else found (if same then Some (length functions) else None))
        ≡ or_else (option_map suc found) (if same then Some (suc (length functions)) else None)
    mapped (Some number) same = refl
    mapped None true = refl
    mapped None false = refl

    at : (same : Bool)
        → number_in (functions ++ function ∷ []) name ≡ or_else (number_in functions name) (if bytes_eq function.name name then Some (length functions) else None)
        → (if same then Some 0 else option_map suc (number_in (functions ++ function ∷ []) name))
        ≡ or_else (if same then Some 0 else option_map suc (number_in functions name)) (if bytes_eq function.name name then Some (suc (length functions)) else None)
    at true behind = refl
    at false behind = ap (option_map suc) behind ∙ mapped (number_in functions name) (bytes_eq function.name name)

-- names are compared either way
same_either_way : (one other : List ℕ) → bytes_eq one other ≡ bytes_eq other one
same_either_way one other = at (bytes_eq one other) refl
  where
    at : (same : Bool) → bytes_eq one other ≡ same → same ≡ bytes_eq other one
    at true is = sym ((bytes_eq-Decides other one).1 (sym ((bytes_eq-Decides one other).0 is)))
    at false is = other_way (bytes_eq other one) refl
      where
        other_way : (same : Bool) → bytes_eq other one ≡ same → false ≡ same
        other_way false also = refl
        other_way true also = sym is ∙ (bytes_eq-Decides one other).1 (sym ((bytes_eq-Decides other one).0 also))

first_has : (own name : List ℕ) (number : ℕ) (numbers : Entries ℕ) → value_in name (with_first own number numbers)
    ≡ or_else (value_in name numbers) (if bytes_eq own name then Some number else None)
first_has own name number numbers = at (value_in own numbers) refl
  where
    has : (found : Option ℕ) (same : Bool) (there : ℕ) → (same ≡ true → found ≡ Some there) → found ≡ or_else found (if same then Some number else None)
    has found true there is = is refl ∙ sym (ap (λ (o : Option ℕ). or_else o (Some number)) (is refl))
    has found false there is = sym (or_none found)

    gets : (found : Option ℕ) (same : Bool) → (same ≡ true → found ≡ None) → (if same then Some number else found) ≡ or_else found (if same then Some number else None)
    gets found true is = sym (ap (λ (o : Option ℕ). or_else o (Some number)) (is refl))
    gets found false is = sym (or_none found)

    at : (found : Option ℕ) → value_in own numbers ≡ found → value_in name (with_first own number numbers)
        ≡ or_else (value_in name numbers) (if bytes_eq own name then Some number else None)
    at (Some there) is =
        ap (λ (o : Option ℕ). value_in name (if is_some o then numbers else with_value own number numbers)) is
        ∙ has (value_in name numbers) (bytes_eq own name) there (λ same. ap (λ (n : List ℕ). value_in n numbers) (sym ((bytes_eq-Decides own name).0 same)) ∙ is)
    at None is =
        ap (λ (o : Option ℕ). value_in name (if is_some o then numbers else with_value own number numbers)) is
        ∙ value-put name own number numbers
        ∙ ap (λ (same : Bool). if same then Some number else value_in name numbers) (same_either_way name own)
        ∙ gets (value_in name numbers) (bytes_eq own name) (λ same. ap (λ (n : List ℕ). value_in n numbers) (sym ((bytes_eq-Decides own name).0 same)) ∙ is)

pub numbered : (functions : List FunctionItem) (function : FunctionItem) (numbers : Entries ℕ) → AreNumbers functions numbers →
    AreNumbers (functions ++ function ∷ []) (with_first function.name (length functions) numbers)
numbered functions function numbers are = λ name.
    first_has function.name name (length functions) numbers
    ∙ ap (λ (found : Option ℕ). or_else found (if bytes_eq function.name name then Some (length functions) else None)) (are name)
    ∙ sym (number_behind functions function name)

-- the functions of items, one item behind the other
one_item : (item : Item) (rest : List Item) → functions_in (item ∷ rest) ≡ functions_in (item ∷ []) ++ functions_in rest
one_item Empty rest = refl
one_item (Declare decl) rest = refl
one_item (Function spec storage head body close) rest = refl

pub item_put : (rest next : List Item) (item : Item) (list new whole : List FunctionItem) → rest ≡ item ∷ next → new ≡ list ++ functions_in (item ∷ []) →
    list ++ functions_in rest ≡ whole → new ++ functions_in next ≡ whole
item_put rest next item list new whole is put all =
    ap (λ (l : List FunctionItem). l ++ functions_in next) put
    ∙ append_assoc list (functions_in (item ∷ [])) (functions_in next)
    ∙ ap (λ (l : List FunctionItem). list ++ l) (sym (one_item item next))
    ∙ ap (λ (items : List Item). list ++ functions_in items) (sym is)
    ∙ all

pub all_put : (rest : List Item) (list whole : List FunctionItem) → rest ≡ [] → list ++ functions_in rest ≡ whole → list ≡ whole
all_put rest list whole is all = sym (append-nil list) ∙ ap (λ (items : List Item). list ++ functions_in items) (sym is) ∙ all

pub put_numbers : {E : Type 0} (functions : List FunctionItem) (function : FunctionItem) (numbers after : Entries ℕ) (result : Result (Unit {0}) E) (more : List FunctionItem) (count : ℕ) →
    AreNumbers functions numbers → count ≡ length functions → after ≡ with_first function.name count numbers → OnOk result (more ≡ functions ++ function ∷ [])
    → OnOk result (AreNumbers more after)
put_numbers functions function numbers after (Err error) more count are counted put pushed = tt
put_numbers functions function numbers after (Ok value) more count are counted put pushed =
    subst (λ (l : List FunctionItem). AreNumbers l after) (sym pushed)
    (subst (AreNumbers (functions ++ function ∷ [])) (sym (put ∙ ap (λ (k : ℕ). with_first function.name k numbers) counted)) (numbered functions function numbers are))
