-- Functions, one after the other.
use Rattle.std.proofs.Common.{◌≡◌, ℕ, zero, suc, ◌+◌, ◌-◌, ◌<◌, Bool, true, false, List, [], ◌∷◌, ◌++◌, drop, length, map, Option, None, Some, option_map, slice_get, refl, sym, ap, ◌∙◌, add-one, arith, length-append, if◌then◌else◌}
use Rattle.std.proofs.lemmas.Option.{same_Some, none-some}
use Rattle.c_machine.specs.Text.{Function, Text}
use Rattle.flow.specs.declared.flow_graph.FlowFunction.{FlowFunction}
use Rattle.simulation.specs.Names.{Name}
use Rattle.lowering.specs.Lowering.{Functions, flow_function, main_number, place_function, place_functions}
use Rattle.lowering.specs.Placing.{Made}

-- what stands at a number, and behind it
stands_at_number : {A : Type 0} (items : List A) (number : ℕ) (item : A) → slice_get items number ≡ Some item → drop number items ≡ item ∷ drop (suc number) items
stands_at_number [] number item is = absurd (none-some item is)
stands_at_number {A} (one ∷ items) zero item is = ap (λ (first : A). first ∷ items) (same_Some one item is)
stands_at_number (one ∷ items) (suc number) item is = stands_at_number items number item is

pub found_at : {A : Type 0} (items : List A) (number : ℕ) (item : A) → slice_get items number ≡ Some item → drop number items ≡ item ∷ drop (number + 1) items
found_at items number item is = stands_at_number items number item is ∙ ap (λ (k : ℕ). item ∷ drop k items) (sym (add-one number))

pub found_next : {A : Type 0} (items : List A) (number next : ℕ) (item : A) → slice_get items number ≡ Some item → next ≡ number + 1 → drop number items ≡ item ∷ drop next items
found_next items number next item is is_next = found_at items number item is ∙ ap (λ (k : ℕ). item ∷ drop k items) (sym is_next)

pub below : {A : Type 0} (items : List A) (number : ℕ) (item : A) → slice_get items number ≡ Some item → number < length items
below [] number item is = absurd (none-some item is)
below (one ∷ items) zero item is = omega arith
below (one ∷ items) (suc number) item is = let less : number < length items = below items number item is in omega arith

pub fewer_left : {A : Type 0} (items : List A) (number next : ℕ) (item : A) → slice_get items number ≡ Some item → next ≡ number + 1 → length items - next < length items - number
fewer_left items number next item is is_next = let less : number < length items = below items number item is in omega (arith, is_next)

pub none_at : {A : Type 0} (items : List A) (number : ℕ) → slice_get items number ≡ None → drop number items ≡ []
none_at [] zero is = refl
none_at [] (suc number) is = refl
none_at (one ∷ items) zero is = absurd (none-some one (sym is))
none_at (one ∷ items) (suc number) is = none_at items number is

-- the number of the first one that is main, where so many stand in front
pub main_here : {S : Type 0} (functions rest : List (Function S)) (function : Function S) (number : ℕ) (all : Option ℕ) → functions ≡ function ∷ rest → function.is_main ≡ true →
    option_map (λ (behind : ℕ). number + behind) (main_number functions) ≡ all → Some number ≡ all
main_here {S} functions rest function number all is main so_far =
    ap Some (omega arith) ∙ ap (λ (here : Bool). option_map (λ (behind : ℕ). number + behind) (if here then Some 0 else option_map suc (main_number rest))) (sym main)
    ∙ ap (λ (functions : List (Function S)). option_map (λ (behind : ℕ). number + behind) (main_number functions)) (sym is) ∙ so_far

more_behind : (number : ℕ) (found : Option ℕ) → option_map (λ (behind : ℕ). number + 1 + behind) found ≡ option_map (λ (behind : ℕ). number + behind) (option_map suc found)
more_behind number None = refl
more_behind number (Some behind) = ap Some (omega arith)

pub main_behind : {S : Type 0} (functions rest : List (Function S)) (function : Function S) (number next : ℕ) (all : Option ℕ) → next ≡ number + 1 → functions ≡ function ∷ rest →
    function.is_main ≡ false → option_map (λ (behind : ℕ). number + behind) (main_number functions) ≡ all → option_map (λ (behind : ℕ). next + behind) (main_number rest) ≡ all
main_behind {S} functions rest function number next all is_next is other so_far =
    ap (λ (next : ℕ). option_map (λ (behind : ℕ). next + behind) (main_number rest)) is_next ∙ more_behind number (main_number rest)
    ∙ ap (λ (here : Bool). option_map (λ (behind : ℕ). number + behind) (if here then Some 0 else option_map suc (main_number rest))) (sym other)
    ∙ ap (λ (functions : List (Function S)). option_map (λ (behind : ℕ). number + behind) (main_number functions)) (sym is) ∙ so_far

pub no_main : {S : Type 0} (functions : List (Function S)) (number : ℕ) (all : Option ℕ) → functions ≡ [] →
    option_map (λ (behind : ℕ). number + behind) (main_number functions) ≡ all → None ≡ all
no_main {S} functions number all is so_far = ap (λ (functions : List (Function S)). option_map (λ (behind : ℕ). number + behind) (main_number functions)) (sym is) ∙ so_far

-- one is placed in front of those behind it
pub one_placed : (t : Text) (statics : List Name) (functions rest : List (Function t.Stmt)) (function : Function t.Stmt) (made after : Made) (placed placed' : List FlowFunction)
    (one : FlowFunction) (all : Functions) → functions ≡ function ∷ rest → one ≡ flow_function t made function → after ≡ place_function t statics false made function →
    placed' ≡ placed ++ one ∷ [] → place_functions t statics functions made placed ≡ all → place_functions t statics rest after placed' ≡ all
one_placed t statics functions rest function made after placed placed' one all is is_one is_after is_placed so_far =
    ap (λ (placed : List FlowFunction). place_functions t statics rest after placed) (is_placed ∙ ap (λ (one : FlowFunction). placed ++ one ∷ []) is_one)
    ∙ ap (λ (made' : Made). place_functions t statics rest made' (placed ++ flow_function t made function ∷ [])) is_after
    ∙ ap (λ (functions : List (Function t.Stmt)). place_functions t statics functions made placed) (sym is) ∙ so_far

pub all_placed : (t : Text) (statics : List Name) (functions : List (Function t.Stmt)) (made : Made) (placed : List FlowFunction) (all : Functions) → functions ≡ [] →
    place_functions t statics functions made placed ≡ all → record { made = made; functions = placed } ≡ all
all_placed t statics functions made placed all is so_far =
    ap (λ (functions : List (Function t.Stmt)). place_functions t statics functions made placed) (sym is) ∙ so_far

-- how many there are
pub count_placed : (t : Text) (statics : List Name) (functions : List (Function t.Stmt)) (made : Made) (placed : List FlowFunction) →
    length (place_functions t statics functions made placed).functions ≡ length placed + length functions
count_placed t statics [] made placed = omega arith
count_placed t statics (function ∷ functions) made placed =
    let one : length (placed ++ flow_function t made function ∷ []) ≡ length placed + 1 = length-append placed (flow_function t made function ∷ []) in
    let rest = count_placed t statics functions (place_function t statics false made function) (placed ++ flow_function t made function ∷ []) in
    omega arith
