-- A block that is put into both of two alike memories: the numbers that it gets become a pair, and what these numbers were
-- paired with, in neither memory a block that matters, becomes another.
use Rattle.std.proofs.Common.{◌≡◌, ◌≢◌, ℕ, zero, suc, ◌+◌, ◌<◌, List, [], ◌∷◌, ◌++◌, length, Bool, true, false, refl, sym, ap, subst, ◌∙◌, ◌⊎◌, inl, inr, Option, None, Some, arith}
use Rattle.std.specs.Prelude.{◌||◌, nat_eq, slice_get, if◌then◌else◌, All}
use Rattle.std.proofs.lemmas.Bool.{cases_eq, cases_order, eq-eqb, ne_eqb, or_left, or_right, or_from, both_ways}
use Rattle.std.proofs.lemmas.Option.{same_Some, none-some, slice_get_past}
use Rattle.std.proofs.lemmas.List.{length-append}
use Rattle.std.proofs.lemmas.List.Elements.{All-weaker}
use Rattle.bytes_core.specs.declared.byte.Byte.{Byte}
use Rattle.bytes_core.specs.declared.byte.Byte.TheVariants.{Num, Part}
use Rattle.bytes_core.specs.declared.block.BlockKind.{BlockKind}
use Rattle.bytes_core.specs.declared.block.Block.{Block}
use Rattle.bytes_core.specs.Placement.{new_block, placed}
use Rattle.graph.specs.AlikeMemories.{NamesAmong, IsDeadOrNone, AreAlike}
use Rattle.graph.specs.AlikeSteps.{ArePlacedAlike}
use Rattle.graph.proofs.AlikeBlocks.{bytes_agree, numbers_renumbered, numbers_name_nothing, AtBoth, BothLive, BothDead, Unpaired, at_both, alike_from}

-- Numbers.

-- numbers with one pair more, `one` and `other`; what these two had becomes a pair
abbrev exchanged : (ℕ → ℕ) → (ℕ → ℕ) → ℕ → ℕ → ℕ → ℕ
exchanged there back one other number = if nat_eq number one then other else (if nat_eq number (back other) then there one else there number)

exchanged-one : (there back : ℕ → ℕ) (one other number : ℕ) → number ≡ one → exchanged there back one other number ≡ other
exchanged-one there back one other number is =
    ap (λ (test : Bool). if test then other else (if nat_eq number (back other) then there one else there number)) (eq-eqb number one is)

exchanged-back : (there back : ℕ → ℕ) (one other number : ℕ) → number ≢ one → number ≡ back other → exchanged there back one other number ≡ there one
exchanged-back there back one other number differ is =
    ap (λ (test : Bool). if test then other else (if nat_eq number (back other) then there one else there number)) (ne_eqb number one differ)
    ∙ ap (λ (test : Bool). if test then there one else there number) (eq-eqb number (back other) is)

exchanged-else : (there back : ℕ → ℕ) (one other number : ℕ) → number ≢ one → number ≢ back other → exchanged there back one other number ≡ there number
exchanged-else there back one other number differ differ' =
    ap (λ (test : Bool). if test then other else (if nat_eq number (back other) then there one else there number)) (ne_eqb number one differ)
    ∙ ap (λ (test : Bool). if test then there one else there number) (ne_eqb number (back other) differ')

module _ (there back : ℕ → ℕ) (same : (number : ℕ) → back (there number) ≡ number) (again : (number : ℕ) → there (back number) ≡ number) where
  -- exchanged there and back
  exchanged-same : (one other number : ℕ) → exchanged back there other one (exchanged there back one other number) ≡ number
  exchanged-same one other number = by_place (cases_eq number one) (cases_eq number (back other))
    where
      by_place : (number ≡ one) ⊎ (number ≡ one → ⊥) → (number ≡ back other) ⊎ (number ≡ back other → ⊥) → exchanged back there other one (exchanged there back one other number) ≡ number
      by_place (inl is) place = exchanged-one back there other one (exchanged there back one other number) (exchanged-one there back one other number is) ∙ sym is
      by_place (inr differ) (inl is) =
          let there_one : exchanged there back one other number ≡ there one = exchanged-back there back one other number differ is in
          exchanged-back back there other one (exchanged there back one other number)
          (λ equal. differ (is ∙ ap back (sym equal ∙ there_one) ∙ same one)) there_one
          ∙ sym is
      by_place (inr differ) (inr differ') =
          let there_number : exchanged there back one other number ≡ there number = exchanged-else there back one other number differ differ' in
          exchanged-else back there other one (exchanged there back one other number)
          (λ equal. differ' (sym (same number) ∙ ap back (sym there_number ∙ equal)))
          (λ equal. differ (sym (same number) ∙ ap back (sym there_number ∙ equal) ∙ same one))
          ∙ ap back there_number ∙ same number

-- Lists.

get_front : {X : Type 0} (items : List X) (item : X) (place : ℕ) → place < length items → slice_get (items ++ item ∷ []) place ≡ slice_get items place
get_front [] item place below = absurd (omega arith)
get_front (first ∷ rest) item zero below = refl
get_front (first ∷ rest) item (suc place) below = get_front rest item place (omega arith)

pub get_last : {X : Type 0} (items : List X) (item : X) → slice_get (items ++ item ∷ []) (length items) ≡ Some item
get_last [] item = refl
get_last (first ∷ rest) item = get_last rest item

-- a block more leaves what stands at other numbers
pub get_other : {X : Type 0} (items : List X) (item : X) (place : ℕ) → place ≢ length items → slice_get (items ++ item ∷ []) place ≡ slice_get items place
get_other items item place differ = by_order (cases_order place (length items))
  where
    by_order : (place ≡ length items) ⊎ ((place < length items) ⊎ (length items < place)) → slice_get (items ++ item ∷ []) place ≡ slice_get items place
    by_order (inl is) = absurd (differ is)
    by_order (inr (inl below)) = get_front items item place below
    by_order (inr (inr above)) =
        let long : length (items ++ item ∷ []) ≡ length items + 1 = length-append items (item ∷ []) in
        slice_get_past (items ++ item ∷ []) place (omega arith) ∙ sym (slice_get_past items place (omega arith))

-- where nothing stands in one memory, nothing is paired
gone_of : (there : ℕ → ℕ) (paired : Bool) (one other : Option Block) → AtBoth there paired one other → one ≡ None → (paired ≡ false) × IsDeadOrNone other
gone_of there paired one other (BothLive inside block block' is is' alike) none = absurd (none-some block (sym none ∙ is))
gone_of there paired one other (BothDead inside block block' is is' alike) none = absurd (none-some block (sym none ∙ is))
gone_of there paired one other (Unpaired outside gone gone') none = (outside, gone')

gone_of' : (there : ℕ → ℕ) (paired : Bool) (one other : Option Block) → AtBoth there paired one other → other ≡ None → (paired ≡ false) × IsDeadOrNone one
gone_of' there paired one other (BothLive inside block block' is is' alike) none = absurd (none-some block' (sym none ∙ is'))
gone_of' there paired one other (BothDead inside block block' is is' alike) none = absurd (none-some block' (sym none ∙ is'))
gone_of' there paired one other (Unpaired outside gone gone') none = (outside, gone)

module _ (there back : ℕ → ℕ) (paired : ℕ → Bool) (memory other : List Block) (are : AreAlike there back paired memory other) (kind : BlockKind) (base : ℕ) (contents : List ℕ) where
  abbrev new : Block
  new = new_block kind base contents

  abbrev there' : ℕ → ℕ
  there' = exchanged there back (length memory) (length other)

  abbrev back' : ℕ → ℕ
  back' = exchanged back there (length other) (length memory)

  abbrev more : ℕ → Bool
  more number = paired number || nat_eq number (length memory)

  at : (number : ℕ) → AtBoth there (paired number) (slice_get memory number) (slice_get other (there number))
  at number = at_both there back paired memory other are number

  -- the number of the new block, and what its number in the other memory was, are outside numbers of blocks that matter
  first_gone : (paired (length memory) ≡ false) × IsDeadOrNone (slice_get other (there (length memory)))
  first_gone = gone_of there (paired (length memory)) (slice_get memory (length memory)) (slice_get other (there (length memory))) (at (length memory))
      (slice_get_past memory (length memory) (omega arith))

  second_gone : (paired (back (length other)) ≡ false) × IsDeadOrNone (slice_get memory (back (length other)))
  second_gone = gone_of' there (paired (back (length other))) (slice_get memory (back (length other))) (slice_get other (there (back (length other)))) (at (back (length other)))
      (ap (slice_get other) (are.again (length other)) ∙ slice_get_past other (length other) (omega arith))

  kept : (number : ℕ) → paired number ≡ true → there' number ≡ there number
  kept number is = exchanged-else there back (length memory) (length other) number
      (λ equal. both_ways (paired number) (ap paired equal ∙ first_gone.0) is)
      (λ equal. both_ways (paired number) (ap paired equal ∙ second_gone.0) is)

  at_new : (number : ℕ) → number ≡ length memory → AtBoth there' (more number) (slice_get (placed memory new) number) (slice_get (placed other new) (there' number))
  at_new number is =
      BothLive (or_right (paired number) (nat_eq number (length memory)) (eq-eqb number (length memory) is)) new new
      (ap (slice_get (placed memory new)) is ∙ get_last memory new)
      (ap (slice_get (placed other new)) (exchanged-one there back (length memory) (length other) number is) ∙ get_last other new)
      (record { live = refl; base = refl; looks = record { live = refl; kind = refl; bytes = sym (numbers_renumbered there' contents) } })

  not_more : (number : ℕ) → paired number ≡ false → number ≢ length memory → more number ≡ false
  not_more number outside differ = or_from (paired number) (nat_eq number (length memory)) outside (ne_eqb number (length memory) differ)

  at_old : (number : ℕ) → number ≢ length memory → number ≡ back (length other) → AtBoth there' (more number) (slice_get (placed memory new) number) (slice_get (placed other new) (there' number))
  at_old number differ is =
      let there_first : there' number ≡ there (length memory) = exchanged-back there back (length memory) (length other) number differ is in
      let not_last : there (length memory) ≢ length other = λ equal. differ (is ∙ ap back (sym equal) ∙ are.same (length memory)) in
      Unpaired (not_more number (ap paired is ∙ second_gone.0) differ)
      (subst IsDeadOrNone (sym (get_other memory new number differ ∙ ap (slice_get memory) is)) second_gone.1)
      (subst IsDeadOrNone (sym (ap (slice_get (placed other new)) there_first ∙ get_other other new (there (length memory)) not_last)) first_gone.1)

  again_at : (number : ℕ) → number ≢ length memory → AtBoth there (paired number) (slice_get memory number) (slice_get other (there number)) →
      AtBoth there' (more number) (slice_get memory number) (slice_get other (there number))
  again_at number differ (BothLive inside block block' is is' alike) = let looks = alike.looks in
      let live = alike.live in
      BothLive (or_left (paired number) (nat_eq number (length memory)) inside) block block' is is' (record {
        live = live;
        base = alike.base;
        looks = record {
          live = looks.live;
          kind = looks.kind;
          bytes = looks.bytes ∙ sym (bytes_agree paired there there' kept block.bytes (are.held number block is live));
        };
      })
  again_at number differ (BothDead inside block block' is is' alike) = BothDead (or_left (paired number) (nat_eq number (length memory)) inside) block block' is is' alike
  again_at number differ (Unpaired outside gone gone') = Unpaired (not_more number outside differ) gone gone'

  at_else : (number : ℕ) → number ≢ length memory → number ≢ back (length other) → AtBoth there' (more number) (slice_get (placed memory new) number) (slice_get (placed other new) (there' number))
  at_else number differ differ' =
      let there_same : there' number ≡ there number = exchanged-else there back (length memory) (length other) number differ differ' in
      let not_last : there number ≢ length other = λ equal. differ' (sym (are.same number) ∙ ap back equal) in
      subst (λ (found : Option Block). AtBoth there' (more number) found (slice_get (placed other new) (there' number))) (sym (get_other memory new number differ))
      (subst (λ (found : Option Block). AtBoth there' (more number) (slice_get memory number) found)
      (sym (ap (slice_get (placed other new)) there_same ∙ get_other other new (there number) not_last))
      (again_at number differ (at number)))

  at_each : (number : ℕ) → AtBoth there' (more number) (slice_get (placed memory new) number) (slice_get (placed other new) (there' number))
  at_each number = by_place (cases_eq number (length memory)) (cases_eq number (back (length other)))
    where
      by_place : (number ≡ length memory) ⊎ (number ≡ length memory → ⊥) → (number ≡ back (length other)) ⊎ (number ≡ back (length other) → ⊥) →
          AtBoth there' (more number) (slice_get (placed memory new) number) (slice_get (placed other new) (there' number))
      by_place (inl is) place = at_new number is
      by_place (inr differ) (inl is) = at_old number differ is
      by_place (inr differ) (inr differ') = at_else number differ differ'

  named_more : (byte : Byte) → NamesAmong paired byte → NamesAmong more byte
  named_more (Num number) names = tt
  named_more (Part block offset k) names = or_left (paired block) (nat_eq block (length memory)) names

  held_each : (number : ℕ) (block : Block) → slice_get (placed memory new) number ≡ Some block → block.live ≡ true → All (NamesAmong more) block.bytes
  held_each number block stands live = by_place (cases_eq number (length memory))
    where
      by_place : (number ≡ length memory) ⊎ (number ≡ length memory → ⊥) → All (NamesAmong more) block.bytes
      by_place (inl is) =
          subst (λ (here : Block). All (NamesAmong more) here.bytes) (same_Some new block (sym (ap (slice_get (placed memory new)) is ∙ get_last memory new) ∙ stands))
          (numbers_name_nothing more contents)
      by_place (inr differ) =
          All-weaker (NamesAmong paired) (NamesAmong more) named_more block.bytes
          (are.held number block (sym (get_other memory new number differ) ∙ stands) live)

  pub placed-alike : ArePlacedAlike there back paired memory other new
  placed-alike = record {
    there' = there';
    back' = back';
    alike = alike_from there' back' more (placed memory new) (placed other new)
        (exchanged-same there back are.same are.again (length memory) (length other))
        (exchanged-same back there are.again are.same (length other) (length memory))
        at_each held_each;
    new = exchanged-one there back (length memory) (length other) (length memory) refl;
    kept = kept;
  }
