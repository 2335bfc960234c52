-- Rows of nodes by the word that follows them, one behind the other.
use Rattle.std.proofs.Common.{◌≡◌, ℕ, List, [], ◌∷◌, ◌++◌, ℤ, pos, Option, None, Some, refl}
use Rattle.std.specs.Prelude.{◌-ℤ◌}
use Rattle.bytes_core.specs.declared.block.Block.{Block}
use Rattle.bytes_core.specs.declared.word.Word.{Word}
use Rattle.bytes_core.specs.declared.word.Word.TheVariants.{To}
use Rattle.bytes_core.specs.Value.{moved}
use Rattle.graph.specs.declared.object.Links.{Links}
use Rattle.graph.specs.declared.object.Object.{Object}
use Rattle.graph.specs.declared.template.Node.{Node}
use Rattle.graph.specs.Meaning.{first_of, last_or, last_of, end_word, word_at, IsLinked, AreNodes}

-- the address of the node that follows, or the word that lies behind all
abbrev pub next_or : ℕ → Word → Option ℕ → Word
next_or head onward None = onward
next_or head onward (Some number) = To number (pos head)

-- the word before what follows a row of nodes
abbrev pub last_word : ℕ → Word → List ℕ → Word
last_word back before [] = before
last_word back before (number ∷ rest) = last_word back (To number (pos back)) rest

module _ (memory : List Block) (object : Object) (links : Links) (node : Node) (word : ℕ → Word) (own : ℕ → Option ℤ) where
  abbrev pub AreRow : Word → Word → List ℕ → Type 0
  AreRow onward before [] = Unit {0}
  AreRow onward before (number ∷ rest) =
      IsLinked memory object links node (word_at word own number) (next_or links.head onward (first_of rest)) before number × AreRow onward (To number (pos links.back)) rest

  pub row_nodes : (after before : Word) (blocks : List ℕ) → AreRow (moved after (pos links.head -ℤ pos links.head)) before blocks → AreNodes memory object links node word own after before blocks
  row_nodes after before [] row = tt
  row_nodes after before (number ∷ []) row = (row.0, tt)
  row_nodes after before (number ∷ (next ∷ rest)) row = (row.0, row_nodes after (To number (pos links.back)) (next ∷ rest) row.1)

  pub row_append : (onward before : Word) (front rest : List ℕ) → AreRow (next_or links.head onward (first_of rest)) before front → AreRow onward (last_word links.back before front) rest → AreRow onward before (front ++ rest)
  row_append onward before [] rest ahead behind = behind
  row_append onward before (number ∷ []) rest ahead behind = (ahead.0, behind)
  row_append onward before (number ∷ (next ∷ front)) rest ahead behind = (ahead.0, row_append onward (To number (pos links.back)) (next ∷ front) rest ahead.1 behind)

-- the ends of a row
pub next_is : (head : ℕ) (onward : Word) (blocks : List ℕ) → moved onward (pos head -ℤ pos head) ≡ onward → end_word (first_of blocks) onward head (pos head) ≡ next_or head onward (first_of blocks)
next_is head onward [] still = still
next_is head onward (number ∷ rest) still = refl

pub last_is : (back : ℕ) (before : Word) (blocks : List ℕ) → moved before (pos back -ℤ pos back) ≡ before → end_word (last_of blocks) before back (pos back) ≡ last_word back before blocks
last_is back before [] still = still
last_is back before (number ∷ rest) still = walk number rest
  where
    walk : (number : ℕ) (rest : List ℕ) → To (last_or number rest) (pos back) ≡ last_word back (To number (pos back)) rest
    walk number [] = refl
    walk number (next ∷ rest) = walk next rest
