-- What calls that leave a scope need.
use Rattle.std.proofs.Common.{◌≡◌, ℕ, suc, ◌-◌, ◌≤◌, true, List, [], ◌∷◌, length, take, drop, get_or, Option, Some, refl, sym, ◌∙◌, ap, subst, arith}
use Rattle.std.specs.Prelude.{IsSome, IfOk, IfSome, Result, Ok, Err, is_some}
use Rattle.std.specs.List.{list_all}
use Rattle.cbase.specs.declared.no_memory.NoMemory.{NoMemory}
use Rattle.graph.specs.declared.object.Object.{Object}
use Rattle.graph.specs.declared.parts.Parts.{Parts}
use Rattle.graph.specs.Maps.{object_at, storage_of}
use Rattle.graph.specs.Whole.{IsGraph}
use Rattle.graph.proofs.Found.{Holds-some}
use Rattle.graph.proofs.Closed.{closed_of}
use Rattle.graph.proofs.Tests.{and_left}
use Rattle.changes.specs.Dying.{died}
use Rattle.changes.specs.Parts.{with_object}
use Rattle.heap_steps.specs.Leaving.{MayLeave, without_variable, with_dead, with_dead_at, without_one, left}
use Rattle.heap_steps.proofs.Left.{all_graph, middle_graph, rest_may}
use Rattle.heap_steps.proofs.VariableGone.{gone_graph}

pub gone_ready : (variable : ℕ) (parts gone : Parts) → IsGraph parts → gone ≡ without_variable variable parts → IsGraph gone
gone_ready variable parts gone graph is = subst IsGraph (sym is) (gone_graph variable parts graph)

pub there_ready : (variable key : ℕ) (parts gone : Parts) → IsGraph parts → storage_of parts.variables variable ≡ Some key → gone ≡ without_variable variable parts → IsSome (object_at gone.objects key)
there_ready variable key parts gone graph stored is = subst (λ (p : Parts). IsSome (object_at p.objects key)) (sym is) ((closed_of parts graph.well_formed).variables variable key stored)

pub one_ready : (variable key : ℕ) (parts gone : Parts) (result : Result Parts NoMemory) → IsGraph parts → storage_of parts.variables variable ≡ Some key → gone ≡ without_variable variable parts →
    IfOk result (λ after. IfSome (object_at gone.objects key) (λ object. after ≡ with_object key (died object) gone)) → IfOk result (λ after. after ≡ without_one variable parts)
one_ready variable key parts gone (Err error) graph stored is made = tt
one_ready variable key parts gone (Ok after) graph stored is made =
    let object = Holds-some (object_at parts.objects key) ((closed_of parts graph.well_formed).variables variable key stored) in
    let found : object_at gone.objects key ≡ Some object.item = ap (λ (p : Parts). object_at p.objects key) is ∙ object.is in
    let after_is : after ≡ with_object key (died object.item) gone = subst (λ (o : Option Object). IfSome o (λ object. after ≡ with_object key (died object) gone)) found made in
    after_is ∙ ap (with_object key (died object.item)) is
    ∙ sym (ap (λ (o : Option ℕ). with_dead_at o (without_variable variable parts)) stored ∙ ap (λ (o : Option Object). with_dead key o (without_variable variable parts)) object.is)

pub left_ready : (which : List ℕ) (graph parts after : Parts) → IsGraph graph → MayLeave graph which → parts ≡ graph → after ≡ left which parts → IsGraph after
left_ready which graph parts after is may parts_is after_is = subst IsGraph (sym (after_is ∙ ap (left which) parts_is)) (all_graph which graph is may)

-- one more variable
pub first_named : (first : ℕ) (rest : List ℕ) (parts : Parts) → MayLeave parts (first ∷ rest) → is_some (storage_of parts.variables first) ≡ true
first_named first rest parts may = and_left (is_some (storage_of parts.variables first)) (list_all (λ variable. is_some (storage_of parts.variables variable)) rest) may.named

take_all : {X : Type 0} (xs : List X) → take (length xs) xs ≡ xs
take_all [] = refl
take_all (x ∷ xs) = ap (λ (ys : List _). x ∷ ys) (take_all xs)

rest_is : (first : ℕ) (rest : List ℕ) (count : ℕ) → suc (length rest) ≡ count → take (count - 1) rest ≡ rest
rest_is first rest count is = ap (λ (n : ℕ). take n rest) (let e : count - 1 ≡ length rest = omega arith in e) ∙ take_all rest

-- what is left of a list of variables is left behind the first one
pub left_next : (which all : List ℕ) (start parts after : Parts) (count : ℕ) → 1 ≤ length which → length which ≡ count → left all start ≡ left which parts → after ≡ without_one (get_or which 0 0) parts →
    left all start ≡ left (take (count - 1) (drop 1 which)) after
left_next [] all start parts after count some is same after_is = absurd (omega arith)
left_next (first ∷ rest) all start parts after count some is same after_is = same ∙ ap (left rest) (sym after_is) ∙ ap (λ (xs : List ℕ). left xs after) (sym (rest_is first rest count is))

pub graph_next : (which : List ℕ) (parts after : Parts) → 1 ≤ length which → IsGraph parts → MayLeave parts which → after ≡ without_one (get_or which 0 0) parts → IsGraph after
graph_next [] parts after some graph may after_is = absurd (omega arith)
graph_next (first ∷ rest) parts after some graph may after_is = subst IsGraph (sym after_is) (middle_graph first rest parts graph may)

pub may_next : (which : List ℕ) (parts after : Parts) (count : ℕ) → 1 ≤ length which → length which ≡ count → IsGraph parts → MayLeave parts which → after ≡ without_one (get_or which 0 0) parts → MayLeave after (take (count - 1) (drop 1 which))
may_next [] parts after count some is graph may after_is = absurd (omega arith)
may_next (first ∷ rest) parts after count some is graph may after_is =
    subst (λ (p : Parts). MayLeave p (take (count - 1) rest)) (sym after_is) (subst (MayLeave (without_one first parts)) (sym (rest_is first rest count is)) (rest_may first rest parts graph may))

pub named_next : (which : List ℕ) (parts : Parts) → 1 ≤ length which → MayLeave parts which → is_some (storage_of parts.variables (get_or which 0 0)) ≡ true
named_next [] parts some may = absurd (omega arith)
named_next (first ∷ rest) parts some may = first_named first rest parts may
