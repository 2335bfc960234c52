-- The reader and the grammar say the same.
use Rattle.cgrammar.proofs.Complete.{complete}
use Rattle.cgrammar.proofs.OneTree.{each_has_one_tree}
use Rattle.cgrammar.proofs.ReadAt.{ExpressionsComplete, ExpressionsSound, BlocksComplete, BlocksSound}
use Rattle.cgrammar.proofs.Sound.{sound_expression, sound_block}
use Rattle.cgrammar.specs.OneTree.{EachHasOneTree}
use Rattle.cgrammar.specs.Phrases.{Expression, CompoundStatement}

pub one_tree : EachHasOneTree
one_tree = each_has_one_tree complete

pub expressions_complete : ExpressionsComplete
expressions_complete most expr before after front rest spells small = complete (Expression expr) before after front spells most rest small

pub blocks_complete : BlocksComplete
blocks_complete most body before after front rest spells small = complete (CompoundStatement body) before after front spells most rest small

pub expressions_sound : ExpressionsSound
expressions_sound = sound_expression

pub blocks_sound : BlocksSound
blocks_sound = sound_block
