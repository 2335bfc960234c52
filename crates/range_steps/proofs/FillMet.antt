-- Each fault that a fill's post lists is met by some state, through any word where there is place for it.
use Rattle.std.proofs.Common.{◌≡◌, ◌≢◌, ℕ, zero, suc, true, List, [], ◌∷◌, Some, refl, ◌∙◌, ap, subst}
use Rattle.std.specs.Prelude.{IsSome, Contains, option_map}
use Rattle.graph.specs.declared.object.Object.{Object}
use Rattle.graph.specs.declared.parts.Parts.{Parts}
use Rattle.graph.specs.declared.post.Post.{Post}
use Rattle.graph.specs.Maps.{held_by}
use Rattle.graph.specs.Whole.{IsGraph}
use Rattle.changes.specs.Posted.{Posted, IsPost}
use Rattle.changes.specs.Reaching.{is_address_held}
use Rattle.changes.proofs.Reached.{none_in}
use Rattle.changes.proofs.Shown.{IsShown}
use Rattle.changes.specs.AnyWords.{HasPlaceForOne, MeetsListed}
use Rattle.changes.specs.Following.{SomeFaults}
use Rattle.changes.proofs.Accesses.{kinds_met, all_kinds_met}
use Rattle.range_steps.specs.Filling.{FaultsFilling, fills_zeros, bytes_filled, fill_post}
use Rattle.range_steps.proofs.FillSound.{fill_held}
use Rattle.range_steps.proofs.FillExact.{target, target_value, source, source_value, post_suc}

module _ (parts : Parts) (graph : IsGraph parts) (at from : ℕ) (address : is_address_held parts at ≡ true) (value_held : IsSome (held_by parts.registers from)) where
  abbrev pub onward : ℕ → ℕ → Object → ℕ → Posted
  onward more = bytes_filled parts (at ∷ from ∷ []) (suc more) (fills_zeros (source_value parts graph at from address value_held).value)

  fill_faults : (more kind : ℕ) → IsShown parts (target parts graph at from address value_held).0 (suc more) kind → SomeFaults parts (FaultsFilling at from (suc more) kind)
  fill_faults more kind shown = record {
    state = shown.state;
    is = shown.is;
    stands = record { given = shown.given; meets = shown.meets };
    faults = record {
      to = shown.given.word (target parts graph at from address value_held).0;
      word = shown.given.word (source parts graph at from address value_held).0;
      address = shown.meets.registers at ∙ ap (option_map shown.given.word) (target parts graph at from address value_held).1;
      value = shown.meets.registers from ∙ ap (option_map shown.given.word) (source parts graph at from address value_held).1;
      fault = shown.fault;
    };
  }

  -- a fill of no byte lists none
  none_met : {A : Type 0} (kind : ℕ) → Contains (fill_post parts at from 0).kinds kind → A
  none_met kind listed =
      let aimed = target parts graph at from address value_held in
      let given = source parts graph at from address value_held in
      none_in kind (subst (λ (p : Posted). Contains p.kinds kind) (fill_held parts at from zero aimed.0 given.0 aimed.1 given.1) listed)

  pub fill_met : (count kind : ℕ) → (fill_post parts at from count).loss ≢ Some 4 → Contains (fill_post parts at from count).kinds kind → SomeFaults parts (FaultsFilling at from count kind)
  fill_met zero kind precise listed = none_met kind listed
  fill_met (suc more) kind precise listed =
      let is = post_suc parts graph at from address value_held more in
      fill_faults more kind
      (kinds_met parts graph (target parts graph at from address value_held).0 (suc more) (target_value parts graph at from address value_held) (onward more) (λ key start object. refl) kind
      (λ any. precise (ap (λ (p : Posted). p.loss) is ∙ any)) (subst (λ (p : Posted). Contains p.kinds kind) is listed))

  -- through any word too
  listed_met : (count kind : ℕ) → HasPlaceForOne parts → Contains (fill_post parts at from count).kinds kind → SomeFaults parts (FaultsFilling at from count kind)
  listed_met zero kind place listed = none_met kind listed
  listed_met (suc more) kind place listed =
      fill_faults more kind
      (all_kinds_met parts graph (target parts graph at from address value_held).0 (suc more) (target_value parts graph at from address value_held) (onward more) (λ key start object. refl) kind place
      (subst (λ (p : Posted). Contains p.kinds kind) (post_suc parts graph at from address value_held more) listed))

pub fill_listed : (parts : Parts) (at from count : ℕ) (given : Post) → IsGraph parts → is_address_held parts at ≡ true → IsSome (held_by parts.registers from) → IsPost (fill_post parts at from count) given →
    MeetsListed parts (λ kind. FaultsFilling at from count kind) given
fill_listed parts at from count given graph address value_held is = record {
  met = λ place kind listed. listed_met parts graph at from address value_held count kind place (subst (λ (kinds : List ℕ). Contains kinds kind) is.kinds listed);
}
