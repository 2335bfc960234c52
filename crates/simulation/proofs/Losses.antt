-- Alike states lose the same memory.
use Rattle.std.proofs.Common.{◌≡◌, ℕ, List, [], ◌∷◌, ◌++◌, map, true, refl, sym, ap, subst, ◌⊎◌, inl, inr, ⊎_elim}
use Rattle.std.specs.Prelude.{Contains}
use Rattle.std.specs.List.{flat_map}
use Rattle.std.proofs.lemmas.List.Elements.{Contains-append_left, Contains-append_right, Contains-append_cases}
use Rattle.bytes_core.specs.declared.block.Block.{Block}
use Rattle.bytes_core.specs.declared.word.Word.{Word}
use Rattle.bytes_core.specs.declared.word.Word.TheVariants.{Plain, To}
use Rattle.bytes_core.specs.Loss.{is_lost}
use Rattle.c_machine.specs.Text.{Text}
use Rattle.c_machine.specs.State.{TaskIn, Scope, led_to, blocks_of, objects_of, roots}
use Rattle.c_machine.specs.Step.{without_objects}
use Rattle.flow.specs.Holding.{Held}
use Rattle.flow.specs.Machine as graph
use Rattle.simulation.specs.Names.{Name}
use Rattle.simulation.specs.Running.{Setting, Running}
use Rattle.simulation.specs.Slots.{Slot, is_whole, Holds}
use Rattle.simulation.specs.Worlds.{World, Side, AreAlike, AreSame, source, state}
use Rattle.simulation.proofs.Before.{lost_after}
use Rattle.simulation.proofs.Roots.{lost_same, same_all, operands_lead, leads_back}
use Rattle.simulation.proofs.Scopes.{same_objects}

pub led_to-append : (one other : List Word) → led_to (one ++ other) ≡ led_to one ++ led_to other
led_to-append [] other = refl
led_to-append (Plain number ∷ one) other = led_to-append one other
led_to-append (To block offset ∷ one) other = ap (λ (rest : List ℕ). block ∷ rest) (led_to-append one other)

-- the operands of callers stand behind those of the function that runs, and their order is no matter
same_turned : (a b c d e : List ℕ) → AreSame (a ++ (b ++ (c ++ (d ++ e)))) (a ++ (b ++ ((c ++ e) ++ d)))
same_turned a b c d e x = (λ is. in_a (Contains-append_cases a (b ++ (c ++ (d ++ e))) x is), λ is. out_a (Contains-append_cases a (b ++ ((c ++ e) ++ d)) x is))
  where
    third : Contains ((c ++ e) ++ d) x → Contains (a ++ (b ++ ((c ++ e) ++ d))) x
    third is = Contains-append_right a (b ++ ((c ++ e) ++ d)) x (Contains-append_right b ((c ++ e) ++ d) x is)

    in_d : Contains d x ⊎ Contains e x → Contains (a ++ (b ++ ((c ++ e) ++ d))) x
    in_d (inl is) = third (Contains-append_right (c ++ e) d x is)
    in_d (inr is) = third (Contains-append_left (c ++ e) d x (Contains-append_right c e x is))

    in_c : Contains c x ⊎ Contains (d ++ e) x → Contains (a ++ (b ++ ((c ++ e) ++ d))) x
    in_c (inl is) = third (Contains-append_left (c ++ e) d x (Contains-append_left c e x is))
    in_c (inr is) = in_d (Contains-append_cases d e x is)

    in_b : Contains b x ⊎ Contains (c ++ (d ++ e)) x → Contains (a ++ (b ++ ((c ++ e) ++ d))) x
    in_b (inl is) = Contains-append_right a (b ++ ((c ++ e) ++ d)) x (Contains-append_left b ((c ++ e) ++ d) x is)
    in_b (inr is) = in_c (Contains-append_cases c (d ++ e) x is)

    in_a : Contains a x ⊎ Contains (b ++ (c ++ (d ++ e))) x → Contains (a ++ (b ++ ((c ++ e) ++ d))) x
    in_a (inl is) = Contains-append_left a (b ++ ((c ++ e) ++ d)) x is
    in_a (inr is) = in_b (Contains-append_cases b (c ++ (d ++ e)) x is)

    behind : Contains (c ++ (d ++ e)) x → Contains (a ++ (b ++ (c ++ (d ++ e)))) x
    behind is = Contains-append_right a (b ++ (c ++ (d ++ e))) x (Contains-append_right b (c ++ (d ++ e)) x is)

    out_ce : Contains c x ⊎ Contains e x → Contains (a ++ (b ++ (c ++ (d ++ e)))) x
    out_ce (inl is) = behind (Contains-append_left c (d ++ e) x is)
    out_ce (inr is) = behind (Contains-append_right c (d ++ e) x (Contains-append_right d e x is))

    out_c : Contains (c ++ e) x ⊎ Contains d x → Contains (a ++ (b ++ (c ++ (d ++ e)))) x
    out_c (inl is) = out_ce (Contains-append_cases c e x is)
    out_c (inr is) = behind (Contains-append_right c (d ++ e) x (Contains-append_left d e x is))

    out_b : Contains b x ⊎ Contains ((c ++ e) ++ d) x → Contains (a ++ (b ++ (c ++ (d ++ e)))) x
    out_b (inl is) = Contains-append_right a (b ++ (c ++ (d ++ e))) x (Contains-append_left b (c ++ (d ++ e)) x is)
    out_b (inr is) = out_c (Contains-append_cases (c ++ e) d x is)

    out_a : Contains a x ⊎ Contains (b ++ ((c ++ e) ++ d)) x → Contains (a ++ (b ++ (c ++ (d ++ e)))) x
    out_a (inl is) = Contains-append_left a (b ++ (c ++ (d ++ e))) x is
    out_a (inr is) = out_b (Contains-append_cases b ((c ++ e) ++ d) x is)

-- the roots of alike states, where each operand stands in a register or is known
pub roots_alike : (t : Text) (setting : Setting) (running : Running) (scopes : List (List Name)) (tasks : List (TaskIn t)) (operands : List Word) (registers : List Held) (slots : List Slot)
    (w : World t) (v : Side) (memory : List Block) (point : ℕ) → is_whole slots ≡ true → Holds memory registers slots operands → AreAlike t setting running scopes w v →
    AreSame (roots (source t tasks operands w memory)) (graph.roots (state point registers v memory))
roots_alike t setting running scopes tasks operands registers slots w v memory point whole holds alike block =
    let objects = blocks_of (objects_of w.frame) in
    let callers = blocks_of (flat_map objects_of w.callers) in
    let fixed = blocks_of w.statics in
    let turned = same_turned objects callers fixed (led_to operands) (led_to w.below) block in
    let same = same_all objects callers (fixed ++ led_to w.below) (led_to operands)
    (map (λ owned. owned.block) v.variables) (graph.blocks_of registers) (map (λ owned. owned.block) v.statics) (graph.caller_roots v.callers) v.outer
    (same_objects v.variables scopes w.frame alike.frame alike.owned) alike.others
    (λ one. (operands_lead memory registers slots operands whole holds.stands one, leads_back registers slots operands holds.rooted one)) block in
    let led : led_to (operands ++ w.below) ≡ led_to operands ++ led_to w.below = led_to-append operands w.below in (
      λ is. same.0 (turned.0 (subst (λ (rest : List ℕ). Contains (objects ++ (callers ++ (fixed ++ rest))) block) led is)),
      λ is. subst (λ (rest : List ℕ). Contains (objects ++ (callers ++ (fixed ++ rest))) block) (sym led) (turned.1 (same.1 is)),
    )

pub lost_alike : (t : Text) (setting : Setting) (running : Running) (scopes : List (List Name)) (tasks : List (TaskIn t)) (operands : List Word) (registers : List Held) (slots : List Slot)
    (w : World t) (v : Side) (memory : List Block) (point : ℕ) → is_whole slots ≡ true → Holds memory registers slots operands → AreAlike t setting running scopes w v →
    is_lost memory (roots (source t tasks operands w memory)) ≡ is_lost memory (graph.roots (state point registers v memory))
lost_alike t setting running scopes tasks operands registers slots w v memory point whole holds alike =
    lost_same memory (roots (source t tasks operands w memory)) (graph.roots (state point registers v memory))
    (roots_alike t setting running scopes tasks operands registers slots w v memory point whole holds alike)

pub blocks-append : (one other : Scope) → blocks_of (one ++ other) ≡ blocks_of one ++ blocks_of other
blocks-append [] other = refl
blocks-append (object ∷ one) other = ap (λ (rest : List ℕ). object.block ∷ rest) (blocks-append one other)

-- what is lost before a block is left, or a function, is lost behind it
pub lost_behind : (memory : List Block) (scope other : Scope) (rest : List ℕ) → is_lost memory (blocks_of (scope ++ other) ++ rest) ≡ true →
    is_lost (without_objects (blocks_of scope) memory) (blocks_of other ++ rest) ≡ true
lost_behind memory scope other rest lost =
    let split : blocks_of (scope ++ other) ++ rest ≡ (blocks_of scope ++ blocks_of other) ++ rest = ap (λ (blocks : List ℕ). blocks ++ rest) (blocks-append scope other) in
    lost_after (blocks_of scope) memory (blocks_of (scope ++ other) ++ rest) (blocks_of other ++ rest)
    (λ block inside. subst (λ (blocks : List ℕ). Contains blocks block) (sym split)
    (⊎_elim (λ here. Contains-append_left (blocks_of scope ++ blocks_of other) rest block (Contains-append_right (blocks_of scope) (blocks_of other) block here))
    (Contains-append_right (blocks_of scope ++ blocks_of other) rest block) (Contains-append_cases (blocks_of other) rest block inside)))
    (λ block inside. subst (λ (blocks : List ℕ). Contains blocks block) (sym split)
    (Contains-append_left (blocks_of scope ++ blocks_of other) rest block (Contains-append_left (blocks_of scope) (blocks_of other) block inside))) lost
