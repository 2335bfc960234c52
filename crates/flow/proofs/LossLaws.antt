-- Lost memory where some blocks are hidden.
use Rattle.std.proofs.Common.{◌≡◌, ℕ, List, Bool, true, false, refl, sym, ap, ◌∙◌, Option, None, Some}
use Rattle.std.specs.Prelude.{slice_get, IsTrue, Contains}
use Rattle.std.specs.Option.{option_map}
use Rattle.std.proofs.lemmas.Bool.{false≢true, false_from_ne_true}
use Rattle.std.proofs.lemmas.Option.{same_Some, none-some}
use Rattle.bytes_core.specs.declared.block.Block.{Block}
use Rattle.bytes_core.specs.Loss.{Chain, Root, Link, IsLostBlock, is_lost}
use Rattle.bytes_core.proofs.Chains.{lost_by_chains}
use Rattle.flow.specs.Hiding.{hidden_block, hidden, IsNoMoreLost}
use Rattle.flow.proofs.HiddenBlocks.{slice_get-hidden}

-- a block that lives in the part stands in the whole
shown : (hide : Bool) (found : Option Block) (block : Block) → option_map (hidden_block hide) found ≡ Some block → IsTrue block.live → found ≡ Some block
shown hide None block stands live = absurd (none-some block stands)
shown true (Some original) block stands live =
    absurd (false≢true (ap (λ (one : Block). one.live) (same_Some (hidden_block true original) block stands) ∙ live))
shown false (Some original) block stands live = stands

-- a chain in the part is one in the whole
chain_shown : (hides : ℕ → Bool) (memory : List Block) (roots inside : List ℕ) → ((number : ℕ) → Contains inside number → Chain memory roots number) →
    (target : ℕ) → Chain (hidden hides memory) inside target → Chain memory roots target
chain_shown hides memory roots inside within target (Root one there) = within one there
chain_shown hides memory roots inside within target (Link number one block chain stands live holds) =
    Link number one block (chain_shown hides memory roots inside within number chain)
    (shown (hides number) (slice_get memory number) block (sym (slice_get-hidden hides memory number) ∙ stands) live) live holds

pub no_more_lost : IsNoMoreLost
no_more_lost hides memory roots inside reached within kept =
    false_from_ne_true (is_lost memory roots) (λ lost. let found = (lost_by_chains memory roots).0 lost in by_test found.0 found.1 found.2 (hides found.0) refl)
  where
    by_test : (number : ℕ) (block : Block) → IsLostBlock memory roots number block → (hide : Bool) → hides number ≡ hide → ⊥
    by_test number block lost true is = lost.unreached (reached number block lost.stands is lost.allocated lost.live)
    by_test number block lost false is =
        let stands : slice_get (hidden hides memory) number ≡ Some block = slice_get-hidden hides memory number
        ∙ (ap (option_map (hidden_block (hides number))) lost.stands ∙ ap (λ (hide : Bool). Some (hidden_block hide block)) is) in
        let lost' : IsLostBlock (hidden hides memory) inside number block = record {
          stands = stands;
          allocated = lost.allocated;
          live = lost.live;
          unreached = λ chain. lost.unreached (chain_shown hides memory roots inside within number chain);
        } in
        false≢true (sym kept ∙ (lost_by_chains (hidden hides memory) inside).1 (number, block, lost'))
