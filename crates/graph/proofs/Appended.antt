-- Rows of nodes, one behind the other.
use Rattle.std.proofs.Common.{◌≡◌, ℕ, ◌^◌, ◌%◌, ◌<◌, Bool, List, [], ◌∷◌, ◌++◌, Option, refl, sym, ◌∙◌, ap, subst, arith}
use Rattle.std.specs.Prelude.{ℤ, pos, ◌-ℤ◌, ◌+ℤ◌, nat_lt}
use Rattle.std.specs.Int.{w64, cast_signed}
use Rattle.std.proofs.lemmas.Bool.{lt-ltb}
use Rattle.std.proofs.lemmas.Int.{ints}
use Rattle.bytes_core.specs.declared.block.Block.{Block}
use Rattle.bytes_core.specs.declared.word.Word.{Word}
use Rattle.bytes_core.specs.declared.word.Word.TheVariants.{To}
use Rattle.bytes_core.specs.Value.{wrapped, moved}
use Rattle.graph.specs.declared.object.Links.{Links}
use Rattle.graph.specs.declared.object.Object.{Object}
use Rattle.graph.specs.declared.template.Node.{Node}
use Rattle.graph.specs.Meaning.{IsLinked, AreNodes, first_of, end_word, word_at}
use Rattle.graph.specs.NodeRows.{word_before, RowsAreAppended}

-- moved by nothing
moved_here : (block place : ℕ) → place < 2 ^ 63 → moved (To block (pos place)) (pos place -ℤ pos place) ≡ To block (pos place)
moved_here block place small =
    let none : pos place +ℤ (pos place -ℤ pos place) ≡ pos place = omega (arith, ints) in
    let same : place % 2 ^ 64 ≡ place = omega arith in
    ap (λ (z : ℤ). To block (cast_signed w64 (wrapped z))) none
    ∙ ap (λ (n : ℕ). To block (cast_signed w64 n)) same
    ∙ ap (To block) (signed (nat_lt place (2 ^ 63)) refl)
  where
    signed : (b : Bool) → nat_lt place (2 ^ 63) ≡ b → cast_signed w64 place ≡ pos place
    signed b is = rw (lt-ltb place (2 ^ 63) small) refl

module _ (memory : List Block) (object : Object) (links : Links) (node : Node) (word : ℕ → Word) (own : ℕ → Option ℤ) (after : Word) (number : ℕ) (rest : List ℕ) (small : links.head < 2 ^ 63) where
  -- the link of the last front node
  onward_same : (front : List ℕ) → end_word (first_of (front ++ number ∷ rest)) after links.head (pos links.head) ≡ end_word (first_of front) (To number (pos links.head)) links.head (pos links.head)
  onward_same [] = sym (moved_here number links.head small)
  onward_same (first ∷ front) = refl

  apart : (before : Word) (front : List ℕ) → AreNodes memory object links node word own after before (front ++ number ∷ rest) →
      AreNodes memory object links node word own (To number (pos links.head)) before front × AreNodes memory object links node word own after (word_before links before front) (number ∷ rest)
  apart before [] are = (tt, are)
  apart before (first ∷ front) (is, others) =
      let both = apart (To first (pos links.back)) front others in
      ((subst (λ (onward : Word). IsLinked memory object links node (word_at word own first) onward before first) (onward_same front) is, both.0), both.1)

  together : (before : Word) (front : List ℕ) → AreNodes memory object links node word own (To number (pos links.head)) before front → AreNodes memory object links node word own after (word_before links before front) (number ∷ rest) →
      AreNodes memory object links node word own after before (front ++ number ∷ rest)
  together before [] none are = are
  together before (first ∷ front) (is, others) are = (
    subst (λ (onward : Word). IsLinked memory object links node (word_at word own first) onward before first) (sym (onward_same front)) is,
    together (To first (pos links.back)) front others are,
  )

pub rows_are_appended : RowsAreAppended
rows_are_appended memory object links node word own after before front number rest small = (
  apart memory object links node word own after number rest small before front,
  λ both. together memory object links node word own after number rest small before front both.0 both.1,
)
