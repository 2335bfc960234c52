-- Rows of nodes, one behind the other.
use Rattle.std.specs.Prelude.{ℕ, ◌^◌, ◌<◌, List, [], ◌∷◌, ◌++◌, pos, ℤ, Option, ◌↔◌}
use Rattle.bytes_core.specs.declared.block.Block.{Block}
use Rattle.bytes_core.specs.declared.word.Word.{Word}
use Rattle.bytes_core.specs.declared.word.Word.TheVariants.{To}
use Rattle.graph.specs.declared.object.Links.{Links}
use Rattle.graph.specs.declared.object.Object.{Object}
use Rattle.graph.specs.declared.template.Node.{Node}
use Rattle.graph.specs.Meaning.{AreNodes}

-- the word that lies before what follows these nodes: the address of the last of them, at the place to which links back lead
abbrev pub word_before : Links → Word → List ℕ → Word
word_before links before [] = before
word_before links before (number ∷ rest) = word_before links (To number (pos links.back)) rest

-- blocks are the nodes of a segment where the front ones are, with the first of the others behind them, and the others are, with the last of
-- the front ones before them. So a first node is split off, or a last one, and two segments become one
abbrev pub RowsAreAppended : Type 0
RowsAreAppended = (memory : List Block) (object : Object) (links : Links) (node : Node) (word : ℕ → Word) (own : ℕ → Option ℤ) (after before : Word) (front : List ℕ) (number : ℕ) (rest : List ℕ) →
    links.head < 2 ^ 63 →
    (AreNodes memory object links node word own after before (front ++ number ∷ rest)
    ↔ (AreNodes memory object links node word own (To number (pos links.head)) before front × AreNodes memory object links node word own after (word_before links before front) (number ∷ rest)))
