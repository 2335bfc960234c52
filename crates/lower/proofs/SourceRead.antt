-- How many levels are enough, as the code counts them.
use Rattle.std.proofs.Common.{◌≡◌, ℕ, ◌+◌, ◌*◌, List, length, sym, ap, ◌∙◌}
use Rattle.std.proofs.lemmas.List.{length-map}
use Rattle.c_machine.specs.declared.object.Object.{Object}
use Rattle.c_machine.specs.Program.{Program}
use Rattle.c_machine.specs.Trees.{nodes_in, object_of, static_rows, text_of}

pub levels_are : (p : Program) (objects : List Object) (levels count nodes : ℕ) → (text_of p).statics ≡ objects → nodes ≡ nodes_in p.items → count ≡ length objects → levels ≡ count + 8 * nodes →
    levels ≡ (text_of p).enough
levels_are p objects levels count nodes are nodes_are count_is is =
    is ∙ ap (λ (count : ℕ). count + 8 * nodes) (count_is ∙ ap (λ (objects : List Object). length objects) (sym are) ∙ length-map (static_rows p) (object_of p))
    ∙ ap (λ (nodes : ℕ). length (static_rows p) + 8 * nodes) nodes_are
