-- The blocks of a segment: the last is that of a region, and the others are the nodes of the rest.
use Rattle.std.proofs.Common.{◌≡◌, ℕ, ◌+◌, ◌-◌, ◌^◌, ◌<◌, ◌≤◌, Bool, true, List, [], ◌∷◌, ◌++◌, length, ℤ, pos, Option, None, refl, sym, ◌∙◌, ap, subst, length-append, arith}
use Rattle.std.specs.Prelude.{◌-ℤ◌}
use Rattle.std.proofs.lemmas.Option.{same_Some}
use Rattle.bytes_core.specs.declared.block.Block.{Block}
use Rattle.bytes_core.specs.declared.word.Word.{Word}
use Rattle.bytes_core.specs.declared.word.Word.TheVariants.{To}
use Rattle.bytes_core.specs.Value.{word_bytes, moved}
use Rattle.graph.specs.declared.object.Links.{Links}
use Rattle.graph.specs.declared.object.Object.{Object}
use Rattle.graph.specs.declared.value.Target.TheVariants.{Last}
use Rattle.graph.specs.declared.value.Value.TheVariants.{Address}
use Rattle.graph.specs.declared.parts.Parts.{Parts}
use Rattle.graph.specs.NodeRows.{word_before}
use Rattle.graph.specs.Whole.{IsGraph}
use Rattle.graph.specs.Meaning.{HoldsBack, StandsAt, first_of, last_or, last_of, end_word, word_at, AreNodes, HasBlocksAs, HasBlocks, Ends, HasWord}
use Rattle.graph.proofs.Appended.{rows_are_appended}
use Rattle.materialise.specs.SplitFirst.{own_values, link_value}
use Rattle.materialise.proofs.FirstCase.{IsSplit, object}
use Rattle.materialise.proofs.FirstForm.{lives}
use Rattle.materialise.proofs.FirstLinked.{AreAlone}
use Rattle.materialise.proofs.LastCase.{change, new_object, rest_links, rest_object}
use Rattle.materialise.proofs.LastLinked.{new_on, new_back}

-- what lies before the last node: the node before it, or what lies before the segment
module _ (links : Links) where
  before_more : (number : ℕ) (rest : List ℕ) → word_before links (To number (pos links.back)) rest ≡ To (last_or number rest) (pos links.back)
  before_more number [] = refl
  before_more number (next ∷ rest) = before_more next rest

  before_is : (outer : Word) (rest : List ℕ) → word_before links (end_word None outer links.back (pos links.back)) rest ≡ end_word (last_of rest) outer links.back (pos links.back)
  before_is outer [] = refl
  before_is outer (number ∷ rest) = before_more number rest

module _ (parts : Parts) (graph : IsGraph parts) (key : ℕ) (split : IsSplit parts key) (memory : List Block) (word : ℕ → Word) (own : ℕ → Option ℤ) where
  abbrev whole : Object
  whole = object parts graph key split

  abbrev behind : Object
  behind = rest_object parts graph key split

  abbrev owned : ℕ
  owned = length parts.values + length (own_values key parts)

  -- the nodes of the rest are linked as those of the whole
  rows_on : (after before : Word) (blocks : List ℕ) → AreNodes memory whole split.links split.node word own after before blocks → AreNodes memory behind (rest_links parts graph key split) split.node word own after before blocks
  rows_on after before [] are = tt
  rows_on after before (number ∷ rest) are =
      (record { block = are.0.block; there = are.0.there; node = are.0.node; next = are.0.next; prev = are.0.prev }, rows_on after (To number (pos split.links.back)) rest are.1)

  rows_back : (after before : Word) (blocks : List ℕ) → AreNodes memory behind (rest_links parts graph key split) split.node word own after before blocks → AreNodes memory whole split.links split.node word own after before blocks
  rows_back after before [] are = tt
  rows_back after before (number ∷ rest) are =
      (record { block = are.0.block; there = are.0.there; node = are.0.node; next = are.0.next; prev = are.0.prev }, rows_back after (To number (pos split.links.back)) rest are.1)

  module _ (twofold : split.links.twofold ≡ true) (small : split.links.head < 2 ^ 63) (rest : List ℕ) (number : ℕ)
      (backward : word owned ≡ end_word (last_of rest) (word split.links.prev_value) split.links.back (pos split.links.back))
      (after : word (owned + 1) ≡ To number (pos split.links.head))
      (still : moved (word split.links.next_value) (pos split.links.head -ℤ pos split.links.head) ≡ word split.links.next_value)
      (count : ℕ) (blocks : ℕ → List ℕ) (ends : ℕ → Ends) (agree : AreAlone key parts word (word_at word own number) split.node.edges)
      (prev : HasWord count blocks ends (Address key (pos split.links.back) Last) (word owned))
      (next : HasWord count blocks ends (change parts graph key split (link_value parts split.links.next_value)) (word split.links.next_value)) where
    -- what lies before the segment
    abbrev outer : Word
    outer = end_word None (word split.links.prev_value) split.links.back (pos split.links.back)

    abbrev After : Word
    After = word split.links.next_value

    live : split.base.live ≡ true
    live = lives parts graph key split

    back_is : word_before split.links outer rest ≡ word owned
    back_is = before_is split.links (word split.links.prev_value) rest ∙ sym backward

    pub apart : HasBlocks memory whole word own (rest ++ number ∷ []) → HasBlocks memory behind word own rest × HasBlocks memory (new_object parts graph key split) word own (number ∷ [])
    apart has =
        let is = subst (λ (b : Bool). HasBlocksAs b memory whole word own (rest ++ number ∷ [])) live has in
        let both = (rows_are_appended memory whole split.links split.node word own After outer rest number [] small).0 is.1 in
        let last = both.1.0 in
        let back = subst (λ (b : Bool). HoldsBack b last.block.bytes split.links.prev (word_before split.links outer rest)) twofold last.prev in (
          subst (λ (b : Bool). HasBlocksAs b memory behind word own rest) (sym live) (
            let enough : split.links.least ≤ length (rest ++ number ∷ []) = is.0 in let long = length-append rest (number ∷ []) in let less : split.links.least - 1 ≤ length rest = omega arith in less,
            subst (λ (w : Word). AreNodes memory behind (rest_links parts graph key split) split.node word own w outer rest) (sym after) (rows_on (To number (pos split.links.head)) outer rest both.0),
          ),
          subst (λ (b : Bool). HasBlocksAs b memory (new_object parts graph key split) word own (number ∷ [])) (sym live) (
            number,
            refl,
            record {
              block = last.block;
              there = last.there;
              node = new_on parts graph key split twofold count blocks ends word (word_at word own number) last.block agree prev next last.node (last.next ∙ ap word_bytes still) (back ∙ ap word_bytes back_is);
            },
          ),
        )

    pub together : HasBlocks memory behind word own rest → HasBlocks memory (new_object parts graph key split) word own (number ∷ []) → HasBlocks memory whole word own (rest ++ number ∷ [])
    together has region =
        let is = subst (λ (b : Bool). HasBlocksAs b memory behind word own rest) live has in
        let one = subst (λ (b : Bool). HasBlocksAs b memory (new_object parts graph key split) word own (number ∷ [])) live region in
        let at = subst (λ (n : ℕ). StandsAt memory (new_object parts graph key split) word n) (sym (same_Some _ _ (ap first_of one.1))) one.2 in
        let node = new_back parts graph key split twofold count blocks ends word (word_at word own number) at.block agree prev next at.node in
        let front = rows_back (To number (pos split.links.head)) outer rest (subst (λ (w : Word). AreNodes memory behind (rest_links parts graph key split) split.node word own w outer rest) after is.1) in
        subst (λ (b : Bool). HasBlocksAs b memory whole word own (rest ++ number ∷ [])) (sym live) (
          let enough : split.links.least - 1 ≤ length rest = is.0 in let long = length-append rest (number ∷ []) in let more : split.links.least ≤ length (rest ++ number ∷ []) = omega arith in more,
          (rows_are_appended memory whole split.links split.node word own After outer rest number [] small).1 (
            front,
            (
              record {
                block = at.block;
                there = at.there;
                node = node.0;
                next = node.1 ∙ sym (ap word_bytes still);
                prev = subst (λ (b : Bool). HoldsBack b at.block.bytes split.links.prev (word_before split.links outer rest)) (sym twofold) (node.2 ∙ sym (ap word_bytes back_is));
              },
              tt,
            ),
          ),
        )
