-- The first choice makes the block that is placed.
use Rattle.std.proofs.Common.{◌∙◌, ◌+◌, List, length, All, refl, sym, ap, subst}
use Rattle.std.specs.Prelude.{IsTrue}
use Rattle.bytes_core.specs.declared.block.Block.{Block}
use Rattle.bytes_core.specs.Placement.{can_be_placed}
use Rattle.bytes_core.specs.Valid.{NamesBelow}
use Rattle.choices.specs.declared.choice.Choice.TheVariants.{Block as NewBlock}
use Rattle.c_steps.proofs.Making.{places_block, places_none, placed_below, placed_longer, placed_whole, if_some, if_none}
use Rattle.c_steps.proofs.choosing.with_block.Goals as goal

pub place-requires-clause-apart : goal.place-requires-clause-apart
place-requires-clause-apart g c =
    subst (λ (blocks : List Block). IsTrue (can_be_placed blocks c.in-Some-made.block)) c.memory.ensures
    (if_some _ c.in_ok-made.made c.in-Some-made.block c.in-Some-made.is c.in_ok-made.ensures.apart)

pub place-requires-clause-names : goal.place-requires-clause-names
place-requires-clause-names g c =
    subst (λ (blocks : List Block). All (NamesBelow (length blocks + 1)) c.in-Some-made.block.bytes) c.memory.ensures
    (if_some _ c.in_ok-made.made c.in-Some-made.block c.in-Some-made.is c.in_ok-made.ensures.names)

pub returns-clause-made : goal.returns-clause-made
returns-clause-made g c =
    places_block c.args.kind c.args.size c.args.zeroed c.in-Block.base c.as_slice.result.now c.in-Some.first.now c.in-Some-made.block c.memory.result.now
    c.in_ok-place.field-0 c.args.state.now c.place.new.self c.args.choices.now _ c.in-Some.ensures.some
    (c.in-Block.is ∙ ap (NewBlock c.in-Block.base) (sym c.as_slice.ensures)) refl c.memory.ensures
    (if_some _ c.in_ok-made.made c.in-Some-made.block c.in-Some-made.is c.in_ok-made.ensures.some)
    (if_some _ c.in_ok-made.made c.in-Some-made.block c.in-Some-made.is c.in_ok-made.ensures.block) c.in_ok-place.ensures.placed c.in_ok-place.ensures.number

pub returns-clause-whole : goal.returns-clause-whole
returns-clause-whole g c =
    placed_whole c.args.kind c.args.size c.args.zeroed c.in-Block.base c.as_slice.result.now c.in-Some-made.block c.memory.result.now c.in_ok-place.field-0
    c.args.state.now c.place.new.self c.memory.ensures (if_some _ c.in_ok-made.made c.in-Some-made.block c.in-Some-made.is c.in_ok-made.ensures.some)
    (if_some _ c.in_ok-made.made c.in-Some-made.block c.in-Some-made.is c.in_ok-made.ensures.block) c.in_ok-place.ensures.placed c.in_ok-place.ensures.number

pub returns-clause-longer : goal.returns-clause-longer
returns-clause-longer g c word names =
    placed_longer word c.in-Some-made.block c.args.state.now c.place.new.self c.in_ok-place.ensures.placed names

pub returns-clause-below : goal.returns-clause-below
returns-clause-below g c =
    placed_below c.in_ok-place.field-0 c.in-Some-made.block c.args.state.now c.place.new.self c.in_ok-place.ensures.placed c.in_ok-place.ensures.number

pub returns-in_default-made-clause-made : goal.returns-in_default-made-clause-made
returns-in_default-made-clause-made g c =
    places_none c.args.kind c.args.size c.args.zeroed c.in-Block.base c.as_slice.result.now c.in-Some.first.now c.memory.result.now c.args.state.now
    c.args.choices.now c.in-Some.ensures.some (c.in-Block.is ∙ ap (NewBlock c.in-Block.base) (sym c.as_slice.ensures)) c.memory.ensures
    (if_none c.in_ok-made.made c.in_default-made.is c.in_ok-made.ensures.none)
