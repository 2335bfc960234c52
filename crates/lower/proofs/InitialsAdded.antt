-- Scalars of one initialiser after the other.
use Rattle.std.proofs.Common.{◌≡◌, ℕ, suc, Bool, true, false, List, [], ◌∷◌, ◌++◌, Option, None, Some, option_map, refl, sym, ap, ◌∙◌, append_assoc, append-nil, if◌then◌else◌}
use Rattle.std.proofs.lemmas.Option.{same_Some, none-some}
use Rattle.cbase.specs.declared.place.Place.{Place}
use Rattle.cbase.specs.declared.tree.expr.Expr.{Expr}
use Rattle.cbase.specs.declared.tree.init.Init.{Init}
use Rattle.c_machine.specs.Program.{Program}
use Rattle.c_machine.specs.Text.{Initialiser, Value, Braces}
use Rattle.c_machine.specs.Trees.{text_of}
use Rattle.flow.specs.declared.flow_graph.Initial.{Initial}
use Rattle.simulation.specs.Names.{Name}
use Rattle.lower.specs.Sets.{AddsInitials}
use Rattle.lowering.specs.Initials.{initials_by, initials_within, joined, joined_all, set_initial}
use Rattle.lowering.specs.Source.{Source, IsSource}

-- those of the first stand behind others, and then the rest behind these
pub adds_one : {B : Type 0} (one other : Option (List B)) (before after : List B) → option_map (λ (more : List B). before ++ more) one ≡ Some after →
    option_map (λ (more : List B). after ++ more) other ≡ option_map (λ (more : List B). before ++ more) (joined one other)
adds_one None other before after is = absurd (none-some after is)
adds_one (Some one) None before after is = refl
adds_one {B} (Some one) (Some other) before after is =
    ap Some (ap (λ (front : List B). front ++ other) (sym (same_Some (before ++ one) after is)) ∙ append_assoc before one other)

-- there are none where the first has none
pub adds_none : {B : Type 0} (one other : Option (List B)) (before : List B) → option_map (λ (more : List B). before ++ more) one ≡ None →
    option_map (λ (more : List B). before ++ more) (joined one other) ≡ None
adds_none None None before is = refl
adds_none None (Some other) before is = refl
adds_none (Some one) other before is = absurd (none-some (before ++ one) (sym is))

-- one turn of a loop over them, its end, and a turn that is the last one
pub next_added : {A B : Type 0} (f : A → Option (List B)) (items rest : List A) (item : A) (before after : List B) (all : Option (List B)) → items ≡ item ∷ rest →
    option_map (λ (more : List B). before ++ more) (f item) ≡ Some after → option_map (λ (more : List B). before ++ more) (joined_all f items) ≡ all →
    option_map (λ (more : List B). after ++ more) (joined_all f rest) ≡ all
next_added {A} {B} f items rest item before after all is first so_far =
    adds_one (f item) (joined_all f rest) before after first
    ∙ ap (λ (items : List A). option_map (λ (more : List B). before ++ more) (joined_all f items)) (sym is) ∙ so_far

pub none_added : {A B : Type 0} (f : A → Option (List B)) (items rest : List A) (item : A) (before : List B) (all : Option (List B)) → items ≡ item ∷ rest →
    option_map (λ (more : List B). before ++ more) (f item) ≡ None → option_map (λ (more : List B). before ++ more) (joined_all f items) ≡ all →
    all ≡ None
none_added {A} {B} f items rest item before all is first so_far =
    sym so_far ∙ ap (λ (items : List A). option_map (λ (more : List B). before ++ more) (joined_all f items)) is ∙ adds_none (f item) (joined_all f rest) before first

pub all_added : {A B : Type 0} (f : A → Option (List B)) (items : List A) (before : List B) (all : Option (List B)) → items ≡ [] →
    option_map (λ (more : List B). before ++ more) (joined_all f items) ≡ all → all ≡ Some before
all_added {A} {B} f items before all is so_far =
    sym so_far ∙ ap (λ (items : List A). option_map (λ (more : List B). before ++ more) (joined_all f items)) is ∙ ap Some (append-nil before)

-- an initialiser, for each program that the source stands for
abbrev pub told_as : Bool → List Initial → Option (List Initial)
told_as whole after = if whole then Some after else None

pub set_told : (source : Source) (statics : List Name) (p : Program) (levels : ℕ) (place own : Place) (init tree : Init) (before after : List Initial) (whole told : Bool) →
    IsSource source p → levels ≡ source.levels → place ≡ own → init ≡ tree → whole ≡ told →
    AddsInitials before (initials_within levels (text_of p) statics place init) whole after →
    option_map (λ (more : List Initial). before ++ more) (initials_within (text_of p).enough (text_of p) statics own tree) ≡ told_as told after
set_told source statics p levels place own init tree before after whole told reads is_levels is_place is_init is_whole adds =
    sym (ap (λ (levels : ℕ). option_map (λ (more : List Initial). before ++ more) (initials_within levels (text_of p) statics place init)) (is_levels ∙ reads.levels)
    ∙ ap (λ (place : Place). option_map (λ (more : List Initial). before ++ more) (initials_within (text_of p).enough (text_of p) statics place init)) is_place
    ∙ ap (λ (init : Init). option_map (λ (more : List Initial). before ++ more) (initials_within (text_of p).enough (text_of p) statics own init)) is_init)
    ∙ adds ∙ ap (λ (whole : Bool). told_as whole after) is_whole

-- an initialiser of at most so many levels, by what it is
pub within_value : (p : Program) (statics : List Name) (levels fewer : ℕ) (place : Place) (init : Init) (value : Expr) (end : Place) → levels ≡ suc fewer →
    Value value end ≡ (text_of p).initialiser init →
    set_initial (text_of p) statics place value ((text_of p).store place value) ≡ initials_within levels (text_of p) statics place init
within_value p statics levels fewer place init value end is_levels is =
    ap (λ (one : Initialiser Expr Init). initials_by (text_of p) statics (initials_within fewer (text_of p) statics place) place one) is
    ∙ ap (λ (levels : ℕ). initials_within levels (text_of p) statics place init) (sym is_levels)

pub within_braces : (p : Program) (statics : List Name) (levels fewer : ℕ) (place : Place) (init : Init) (parts : List Init) → levels ≡ suc fewer →
    Braces parts ≡ (text_of p).initialiser init →
    joined_all (initials_within fewer (text_of p) statics place) parts ≡ initials_within levels (text_of p) statics place init
within_braces p statics levels fewer place init parts is_levels is =
    ap (λ (one : Initialiser Expr Init). initials_by (text_of p) statics (initials_within fewer (text_of p) statics place) place one) is
    ∙ ap (λ (levels : ℕ). initials_within levels (text_of p) statics place init) (sym is_levels)
