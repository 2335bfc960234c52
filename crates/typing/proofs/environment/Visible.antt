-- What the look-up finds is what is visible; and names with linkage.
use Rattle.std.proofs.Common.{◌≡◌, ◌≢◌, ℕ, Bool, true, false, List, [], ◌∷◌, ◌++◌, ◌↔◌, refl, sym, ap, ◌∙◌, Option, None, Some}
use Rattle.std.specs.Prelude.{if◌then◌else◌, option_map, is_some}
use Rattle.std.specs.List.{AllByRecursion}
use Rattle.std.specs.Str.{bytes_eq}
use Rattle.std.proofs.lemmas.Slice.Eq.{bytes_eq-Decides}
use Rattle.typing.specs.declared.environment.entity.Linked.{Linked}
use Rattle.typing.specs.declared.environment.entity.Binding.TheVariants.{WithLinkage}
use Rattle.typing.specs.environment.Names.{Entries, value_in, with_value}
use Rattle.typing.specs.environment.Scopes.{Scopes, IsVisible, first_answer, found, declared, all_declared, entered, left}
use Rattle.typing.specs.declared.environment.environment.Environment.{Environment}
use Rattle.typing.specs.environment.Environment.{shown, resolved, name_defined, is_defined}
use Rattle.typing.specs.environment.Linkage.{LastIsFound, IsOneThing}
use Rattle.typing.proofs.environment.Tables.{value-put}

-- where the scopes in front say nothing, what those behind them say is found
found-behind : {A : Type 0} (name : List ℕ) (inner outer : Scopes A) → AllByRecursion (λ other. value_in name other ≡ None) inner → found name (inner ++ outer) ≡ found name outer
found-behind name [] outer none = refl
found-behind {A} name (scope ∷ inner) outer none = ap (λ (o : Option A). first_answer o (found name (inner ++ outer))) none.0 ∙ found-behind name inner outer none.1

visible : {A : Type 0} (name : List ℕ) (value : A) (scopes : Scopes A) → found name scopes ≡ Some value → IsVisible name value scopes
visible name value [] is = absurd (cc is)
visible {A} name value (scope ∷ outer) is = step (visible name value outer) (value_in name scope) refl is
  where
    step : (found name outer ≡ Some value → IsVisible name value outer) → (o : Option A) → value_in name scope ≡ o → first_answer o (found name outer) ≡ Some value → IsVisible name value (scope ∷ outer)
    step further None e i =
        let around : IsVisible name value outer = further i in
        record {
          inner = scope ∷ around.inner;
          scope = around.scope;
          outer = around.outer;
          whole = ap (λ (xs : Scopes A). scope ∷ xs) around.whole;
          declares = around.declares;
          unhidden = (e, around.unhidden);
        }
    step further (Some other) e i = record { inner = []; scope = scope; outer = outer; whole = refl; declares = e ∙ i; unhidden = tt }

seen_as : {A : Type 0} (name : List ℕ) (value : A) (scopes : Scopes A) → IsVisible name value scopes → found name scopes ≡ Some value
seen_as {A} name value scopes is =
    ap (λ (xs : Scopes A). found name xs) is.whole
    ∙ (found-behind name is.inner (is.scope ∷ is.outer) is.unhidden ∙ ap (λ (o : Option A). first_answer o (found name is.outer)) is.declares)

pub visible_found : (A : Type 0) (name : List ℕ) (value : A) (scopes : Scopes A) → (found name scopes ≡ Some value) ↔ IsVisible name value scopes
visible_found A name value scopes = (visible name value scopes, seen_as name value scopes)

-- what is put has a value from then on, and other names what they had
put_is : {A : Type 0} (name : List ℕ) (value : A) (table : Entries A) → value_in name (with_value name value table) ≡ Some value
put_is name value table = value-put name name value table ∙ ap (λ (b : Bool). if b then Some value else value_in name table) ((bytes_eq-Decides name name).1 refl)

put_elsewhere : {A : Type 0} (other name : List ℕ) (value : A) (table : Entries A) → other ≢ name → value_in other (with_value name value table) ≡ value_in other table
put_elsewhere {A} other name value table apart = value-put other name value table ∙ step (bytes_eq other name) refl
  where
    step : (asked : Bool) → bytes_eq other name ≡ asked → (if asked then Some value else value_in other table) ≡ value_in other table
    step true asks = absurd (apart ((bytes_eq-Decides other name).0 asks))
    step false asks = refl

-- what is declared is found, and other names are found as before
pub found_declared : (A : Type 0) (name : List ℕ) (value : A) (scopes : Scopes A) → scopes ≢ [] → found name (declared name value scopes) ≡ Some value
found_declared A name value [] some = absurd (some refl)
found_declared A name value (scope ∷ outer) some = ap (λ (o : Option A). first_answer o (found name outer)) (put_is name value scope)

pub found_other : (A : Type 0) (other name : List ℕ) (value : A) (scopes : Scopes A) → other ≢ name → found other (declared name value scopes) ≡ found other scopes
found_other A other name value [] apart = refl
found_other A other name value (scope ∷ outer) apart = ap (λ (o : Option A). first_answer o (found other outer)) (put_elsewhere other name value scope apart)

-- what was said to be defined is defined, and other names are as before
pub defined_is : (name : List ℕ) (env : Environment) → is_defined name (name_defined name env) ≡ true
defined_is name env = ap is_some (put_is name tt env.definitions)

pub others_defined : (other name : List ℕ) (env : Environment) → other ≢ name → is_defined other (name_defined name env) ≡ is_defined other env
others_defined other name env apart = ap is_some (put_elsewhere other name tt env.definitions apart)

-- a scope that is left gives back what was visible, whatever it declared
pub left_declared : (A : Type 0) (names : Entries A) (scopes : Scopes A) → left (all_declared names (entered scopes)) ≡ scopes
left_declared A names scopes = inside names []
  where
    inside : (entries : Entries A) (scope : Entries A) → left (all_declared entries (scope ∷ scopes)) ≡ scopes
    inside [] scope = refl
    inside (entry ∷ entries) scope = inside entries (with_value entry.0 entry.1 scope)

pub last_found : LastIsFound
last_found name items meaning env is =
    ap (resolved name (with_value name meaning env.linked)) is
    ∙ ap (option_map (λ linked. shown items linked.entity)) (put_is name meaning env.linked)

pub one_thing : IsOneThing
one_thing name items one other same is there =
    ap (resolved name one.linked) is ∙ (ap (λ (linked : Entries Linked). resolved name linked (Some (WithLinkage items))) same ∙ ap (resolved name other.linked) (sym there))
