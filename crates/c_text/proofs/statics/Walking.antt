-- Parts that are taken off one by one, with the initialisers that stand in them.
use Rattle.std.proofs.Common.{◌≡◌, ◌+◌, ℕ, suc, List, [], ◌∷◌, ◌++◌, sym, ap, ◌∙◌, append_assoc, arith}
use Rattle.std.specs.Prelude.{Result, Ok, Err, IfOk}
use Rattle.std.proofs.lemmas.List.{append-nil}
use Rattle.cbase.specs.declared.tree.init.Init.{Init}
use Rattle.cbase.specs.declared.tree.item.Item.{Item}
use Rattle.c_machine.specs.Statics.{Node, in_node, in_item, nodes_of, sets_at, sets_in_item, sets_of, sets_within}
use Rattle.c_machine.specs.Text.{Set}
use Rattle.c_text.specs.statics.Weights.{weights}
use Rattle.c_text.proofs.statics.Weights.{weights-append, one_more, item_weighs}

-- what a value says, where there is one
pub on_ok : {A E : Type 0} (P Q : A → Type 0) (result : Result A E) → ((value : A) → P value → Q value) → IfOk result P → IfOk result Q
on_ok P Q (Ok value) onward is = onward value is
on_ok P Q (Err error) onward is = tt

-- a part that is taken off counts one, and what stands in it still counts
pub one_taken : (node : Node) (nodes rest inner : List Node) → nodes ≡ node ∷ rest → inner ≡ in_node node ++ rest → weights nodes ≡ suc (weights inner)
one_taken node nodes rest inner was is =
    let all = ap weights was in
    let one = one_more node in
    let both = ap weights is ∙ weights-append (in_node node) rest in
    omega (arith, all, one, both)

pub sets_taken : (node : Node) (nodes rest inner : List Node) (sets after all : List (Set Init)) → nodes ≡ node ∷ rest → inner ≡ in_node node ++ rest → after ≡ sets ++ sets_at node
    → sets ++ sets_within (weights nodes) nodes ≡ all → after ++ sets_within (weights inner) inner ≡ all
sets_taken node nodes rest inner sets after all was is noted before =
    ap (λ (these : List (Set Init)). these ++ sets_within (weights inner) inner) noted
    ∙ append_assoc sets (sets_at node) (sets_within (weights inner) inner)
    ∙ ap (λ (these : List Node). sets ++ (sets_at node ++ sets_within (weights inner) these)) is
    ∙ ap (λ (count : ℕ). sets ++ sets_within count (node ∷ rest)) (sym (one_taken node nodes rest inner was is))
    ∙ ap (λ (these : List Node). sets ++ sets_within (weights nodes) these) (sym was)
    ∙ before

-- nothing is left
pub none_left : (nodes : List Node) (sets all : List (Set Init)) → nodes ≡ [] → sets ++ sets_within (weights nodes) nodes ≡ all → sets ≡ all
none_left nodes sets all none before =
    sym (append-nil sets) ∙ ap (λ (these : List Node). sets ++ sets_within (weights these) these) (sym none) ∙ before

pub all_counted : (nodes : List Node) (count all : ℕ) → nodes ≡ [] → count + weights nodes ≡ all → count ≡ all
all_counted nodes count all none before = let left = ap weights none in omega (arith, left, before)

-- all parts of an item
pub item_noted : (item : Item) (nodes : List Node) (sets before after : List (Set Init)) → nodes ≡ in_item item ++ [] → before ≡ sets ++ sets_in_item item
    → after ≡ before ++ sets_within (weights nodes) nodes → after ≡ sets ++ sets_of item
item_noted item nodes sets before after is noted walked =
    walked
    ∙ ap (λ (these : List Node). before ++ sets_within (weights these) these) (is ∙ append-nil (in_item item))
    ∙ ap (λ (count : ℕ). before ++ sets_within count (in_item item)) (sym (item_weighs item))
    ∙ ap (λ (these : List (Set Init)). these ++ sets_within (nodes_of item) (in_item item)) noted
    ∙ append_assoc sets (sets_in_item item) (sets_within (nodes_of item) (in_item item))

pub item_counted : (item : Item) (nodes : List Node) (count : ℕ) → nodes ≡ in_item item ++ [] → count ≡ weights nodes → count ≡ nodes_of item
item_counted item nodes count is counted = counted ∙ ap weights (is ∙ append-nil (in_item item)) ∙ sym (item_weighs item)
