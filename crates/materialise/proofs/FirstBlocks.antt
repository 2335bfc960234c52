-- The blocks of a segment: the first is that of a region, and the others are the nodes of the rest.
use Rattle.std.proofs.Common.{◌≡◌, ℕ, suc, ◌+◌, ◌-◌, ◌≤◌, Bool, true, false, List, [], ◌∷◌, length, ℤ, pos, Option, None, refl, sym, ◌∙◌, ap, subst, arith}
use Rattle.std.specs.Prelude.{◌-ℤ◌, FitsSigned, if◌then◌else◌}
use Rattle.std.specs.Int.{w64}
use Rattle.std.proofs.lemmas.Option.{same_Some}
use Rattle.bytes_core.specs.declared.block.Block.{Block}
use Rattle.bytes_core.specs.declared.word.Word.{Word}
use Rattle.bytes_core.specs.declared.word.Word.TheVariants.{To}
use Rattle.bytes_core.specs.Value.{word_bytes, moved}
use Rattle.graph.specs.declared.object.Object.{Object}
use Rattle.graph.specs.declared.value.Target.TheVariants.{First}
use Rattle.graph.specs.declared.value.Value.TheVariants.{Address}
use Rattle.graph.specs.declared.parts.Parts.{Parts}
use Rattle.graph.specs.Whole.{IsGraph}
use Rattle.graph.specs.Meaning.{HoldsBack, StandsAt, first_of, end_word, word_at, AreNodes, HasBlocksAs, HasBlocks, Ends, HasWord}
use Rattle.materialise.specs.SplitFirst.{own_values, link_value}
use Rattle.materialise.proofs.FirstCase.{IsSplit, object, change, new_object, rest_links, rest_object}
use Rattle.materialise.proofs.FirstForm.{lives, back_small}
use Rattle.materialise.proofs.FirstLinked.{AreAlone, new_on, new_back}
use Rattle.materialise.proofs.FirstWords.{to_still}

module _ (parts : Parts) (graph : IsGraph parts) (key : ℕ) (split : IsSplit parts key) (memory : List Block) (word : ℕ → Word) (own : ℕ → Option ℤ) where
  abbrev whole : Object
  whole = object parts graph key split

  abbrev behind : Object
  behind = rest_object parts graph key split

  abbrev owned : ℕ
  owned = length parts.values + length (own_values key parts)

  -- the nodes of the rest are linked as those of the whole
  rows_on : (after before : Word) (blocks : List ℕ) → AreNodes memory whole split.links split.node word own after before blocks → AreNodes memory behind (rest_links parts graph key split) split.node word own after before blocks
  rows_on after before [] are = tt
  rows_on after before (number ∷ rest) are =
      (record { block = are.0.block; there = are.0.there; node = are.0.node; next = are.0.next; prev = are.0.prev }, rows_on after (To number (pos split.links.back)) rest are.1)

  rows_back : (after before : Word) (blocks : List ℕ) → AreNodes memory behind (rest_links parts graph key split) split.node word own after before blocks → AreNodes memory whole split.links split.node word own after before blocks
  rows_back after before [] are = tt
  rows_back after before (number ∷ rest) are =
      (record { block = are.0.block; there = are.0.there; node = are.0.node; next = are.0.next; prev = are.0.prev }, rows_back after (To number (pos split.links.back)) rest are.1)

  -- where nodes are linked one way, it does not matter what lies before them
  rows_single : split.links.twofold ≡ false → (after before before' : Word) (blocks : List ℕ) → AreNodes memory behind (rest_links parts graph key split) split.node word own after before blocks →
      AreNodes memory behind (rest_links parts graph key split) split.node word own after before' blocks
  rows_single single after before before' [] are = tt
  rows_single single after before before' (number ∷ rest) are = (
    record {
      block = are.0.block;
      there = are.0.there;
      node = are.0.node;
      next = are.0.next;
      prev = subst (λ (b : Bool). HoldsBack b are.0.block.bytes split.links.prev before') (sym single) tt;
    },
    are.1,
  )

  module _ (number : ℕ) (rest : List ℕ) (onward : word owned ≡ end_word (first_of rest) (word split.links.next_value) split.links.head (pos split.links.head))
      (before : split.links.twofold ≡ true → word (owned + 1) ≡ To number (pos split.links.back))
      (still : split.links.twofold ≡ true → moved (word split.links.prev_value) (pos split.links.back -ℤ pos split.links.back) ≡ word split.links.prev_value)
      (count : ℕ) (blocks : ℕ → List ℕ) (ends : ℕ → Ends) (agree : AreAlone key parts word (word_at word own number) split.node.edges)
      (next : HasWord count blocks ends (Address key (pos split.links.head) First) (word owned))
      (prev : split.links.twofold ≡ true → HasWord count blocks ends (change parts graph key split (link_value parts split.links.prev_value)) (word split.links.prev_value)) where
    -- what lies before the rest
    abbrev middle : Bool → Word
    middle b = end_word None (word (if b then owned + 1 else split.links.prev_value)) split.links.back (pos split.links.back)

    middle_is : split.links.twofold ≡ true → middle true ≡ To number (pos split.links.back)
    middle_is twofold =
        let small = back_small parts graph key split twofold in
        let fits : FitsSigned w64 (pos split.links.back) = record { sfits = small } in
        ap (λ (w : Word). moved w (pos split.links.back -ℤ pos split.links.back)) (before twofold) ∙ to_still split.links.back number (pos split.links.back) fits

    abbrev After : Word
    After = word split.links.next_value

    middle_on : (b : Bool) → split.links.twofold ≡ b → AreNodes memory behind (rest_links parts graph key split) split.node word own After (To number (pos split.links.back)) rest →
        AreNodes memory behind (rest_links parts graph key split) split.node word own After (middle b) rest
    middle_on true twofold are = subst (λ (w : Word). AreNodes memory behind (rest_links parts graph key split) split.node word own After w rest) (sym (middle_is twofold)) are
    middle_on false single are = rows_single single After (To number (pos split.links.back)) (middle false) rest are

    middle_back : (b : Bool) → split.links.twofold ≡ b → AreNodes memory behind (rest_links parts graph key split) split.node word own After (middle b) rest →
        AreNodes memory behind (rest_links parts graph key split) split.node word own After (To number (pos split.links.back)) rest
    middle_back true twofold are = subst (λ (w : Word). AreNodes memory behind (rest_links parts graph key split) split.node word own After w rest) (middle_is twofold) are
    middle_back false single are = rows_single single After (middle false) (To number (pos split.links.back)) rest are

    -- the link back of the first node
    abbrev outer : Word
    outer = end_word None (word split.links.prev_value) split.links.back (pos split.links.back)

    outer_on : (block : Block) (b : Bool) → split.links.twofold ≡ b → HoldsBack b block.bytes split.links.prev outer → HoldsBack b block.bytes split.links.prev (word split.links.prev_value)
    outer_on block true twofold holds = holds ∙ ap word_bytes (still twofold)
    outer_on block false single holds = tt

    outer_back : (block : Block) (b : Bool) → split.links.twofold ≡ b → HoldsBack b block.bytes split.links.prev (word split.links.prev_value) → HoldsBack b block.bytes split.links.prev outer
    outer_back block true twofold holds = holds ∙ sym (ap word_bytes (still twofold))
    outer_back block false single holds = tt

    live : split.base.live ≡ true
    live = lives parts graph key split

    pub apart : HasBlocks memory whole word own (number ∷ rest) → HasBlocks memory behind word own rest × HasBlocks memory (new_object parts graph key split) word own (number ∷ [])
    apart has =
        let is = subst (λ (b : Bool). HasBlocksAs b memory whole word own (number ∷ rest)) live has in
        let first = is.1.0 in (
          subst (λ (b : Bool). HasBlocksAs b memory behind word own rest) (sym live)
              (let enough : split.links.least ≤ suc (length rest) = is.0 in omega arith, middle_on split.links.twofold refl (rows_on After (To number (pos split.links.back)) rest is.1.1)),
          subst (λ (b : Bool). HasBlocksAs b memory (new_object parts graph key split) word own (number ∷ [])) (sym live) (
            number,
            refl,
            record {
              block = first.block;
              there = first.there;
              node = new_on parts graph key split count blocks ends word (word_at word own number) first.block agree next prev first.node (first.next ∙ sym (ap word_bytes onward)) (outer_on first.block split.links.twofold refl first.prev);
            },
          ),
        )

    pub together : HasBlocks memory behind word own rest → HasBlocks memory (new_object parts graph key split) word own (number ∷ []) → HasBlocks memory whole word own (number ∷ rest)
    together has region =
        let is = subst (λ (b : Bool). HasBlocksAs b memory behind word own rest) live has in
        let one = subst (λ (b : Bool). HasBlocksAs b memory (new_object parts graph key split) word own (number ∷ [])) live region in
        let at = subst (λ (n : ℕ). StandsAt memory (new_object parts graph key split) word n) (sym (same_Some _ _ (ap first_of one.1))) one.2 in
        let node = new_back parts graph key split count blocks ends word (word_at word own number) at.block agree next prev at.node in
        subst (λ (b : Bool). HasBlocksAs b memory whole word own (number ∷ rest)) (sym live) (
          let enough : split.links.least - 1 ≤ length rest = is.0 in let more : split.links.least ≤ suc (length rest) = omega arith in more,
          (
            record { block = at.block; there = at.there; node = node.0; next = node.1 ∙ ap word_bytes onward; prev = outer_back at.block split.links.twofold refl node.2 },
            rows_back After (To number (pos split.links.back)) rest (middle_back split.links.twofold refl is.1),
          ),
        )
