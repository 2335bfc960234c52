-- What is said of posts that the definitions give.
use Rattle.std.proofs.Common.{◌≡◌, ℕ, Bool, true, false, ◌||◌, List, [], ◌∷◌, map, None, refl, sym, ap, ◌∙◌, subst}
use Rattle.std.specs.Prelude.{Contains, ◌↔◌, Result, IfOk, if◌then◌else◌}
use Rattle.cbase.specs.declared.no_memory.NoMemory.{NoMemory}
use Rattle.std.specs.List.{list_any, filter}
use Rattle.std.proofs.lemmas.Bool.{false≢true}
use Rattle.graph.specs.declared.parts.KeyedObject.{KeyedObject}
use Rattle.graph.specs.declared.parts.Parts.{Parts}
use Rattle.graph.specs.declared.post.Post.{Post}
use Rattle.graph.specs.Meaning.{StandsFor}
use Rattle.graph.specs.State.{State, IsState}
use Rattle.graph.specs.Whole.{IsGraph}
use Rattle.changes.specs.Following.{Follows, SomeFaults}
use Rattle.changes.specs.Posted.{Posted, IsPost, SomeStandsFor}
use Rattle.heap_steps.specs.Looking.{loses_some, looked_by, looked}
use Rattle.heap_steps.specs.Posts.{refuse_post, finish_post}
use Rattle.heap_steps.specs.Steps.{Refuses, Finishes, FaultsFinishing}
use Rattle.heap_steps.specs.Unreached.{is_unreached, unreached, may_lead_anywhere}
use Rattle.heap_steps.proofs.Finished.{finish_sound, finish_listed, finish_met, finish_exact}
use Rattle.heap_steps.proofs.Listed.{Contains-none}
use Rattle.heap_steps.proofs.Looked.{some_unreached}
use Rattle.heap_steps.proofs.Refused.{refuse_sound, refuse_exact}

-- Looks for lost blocks.

pub looked_none : (parts : Parts) → unreached parts ≡ [] → IsGraph parts → looked parts ≡ record { graphs = parts ∷ []; kinds = []; loss = None }
looked_none parts none graph = by_some (loses_some parts) refl
  where
    by_some : (b : Bool) → loses_some parts ≡ b → looked_by parts (loses_some parts) (may_lead_anywhere parts) ≡ record { graphs = parts ∷ []; kinds = []; loss = None }
    by_some false is = ap (λ (b : Bool). looked_by parts b (may_lead_anywhere parts)) is
    by_some true is = let some = some_unreached parts graph is in absurd (Contains-none some.0 (subst (λ (keys : List ℕ). Contains keys some.0) none some.1))

pub looked_some : (parts : Parts) (anywhere : Bool) → (unreached parts ≡ [] → ⊥) → may_lead_anywhere parts ≡ anywhere → looked parts ≡ looked_by parts true anywhere
looked_some parts anywhere some is = ap (λ (b : Bool). looked_by parts b (may_lead_anywhere parts)) (by_some (loses_some parts) refl) ∙ ap (looked_by parts true) is
  where
    none_kept : (entries : List KeyedObject) → list_any (is_unreached parts) entries ≡ false → filter (is_unreached parts) entries ≡ []
    none_kept [] none = refl
    none_kept (first ∷ rest) none = by_first (is_unreached parts first) none (λ later. none_kept rest later)
      where
        by_first : (b : Bool) → (b || list_any (is_unreached parts) rest) ≡ false → (list_any (is_unreached parts) rest ≡ false → filter (is_unreached parts) rest ≡ []) → (if b then first ∷ filter (is_unreached parts) rest else filter (is_unreached parts) rest) ≡ []
        by_first true none' later = absurd (false≢true (sym none'))
        by_first false none' later = later none'

    by_some : (b : Bool) → loses_some parts ≡ b → loses_some parts ≡ true
    by_some true is' = is'
    by_some false is' = absurd (some (ap (map (λ (entry : KeyedObject). entry.key)) (none_kept parts.objects is')))

-- Posts.

pub post_is : (one other : Posted) (result : Result Post NoMemory) → one ≡ other → IfOk result (λ post. IsPost one post) → IfOk result (λ post. IsPost other post)
post_is one other result same is = subst (λ (posted : Posted). IfOk result (λ post. IsPost posted post)) same is

pub record SaysRefused (into : ℕ) (parts : Parts) (post : Post) : Type 0 where
  pub sound : (state next : State) → StandsFor parts state → Refuses into state next → SomeStandsFor post.graphs next
  pub exact : (next : State) → IsState next → SomeStandsFor post.graphs next → Follows parts (Refuses into) next

pub says_refused : (into : ℕ) (parts : Parts) (post : Post) → IsGraph parts → IsPost (refuse_post parts into) post → SaysRefused into parts post
says_refused into parts post graph is = record {
  sound = λ state next stands refuses. subst (λ (graphs : List Parts). SomeStandsFor graphs next) (sym is.graphs) (refuse_sound into parts graph state next stands refuses);
  exact = λ next is_state some. refuse_exact into parts graph next is_state (subst (λ (graphs : List Parts). SomeStandsFor graphs next) is.graphs some);
}

pub record SaysFinished (gone : List ℕ) (parts : Parts) (post : Post) : Type 0 where
  pub sound : (state next : State) → IsState state → StandsFor parts state → Finishes gone state next → SomeStandsFor post.graphs next
  pub exact : post.loss ≡ None → (next : State) → IsState next → SomeStandsFor post.graphs next → Follows parts (Finishes gone) next
  pub kinds : (kind : ℕ) → (Contains post.kinds kind ↔ SomeFaults parts (FaultsFinishing gone kind))

pub says_finished : (gone : List ℕ) (parts : Parts) (post : Post) → IsGraph parts → IsPost (finish_post parts gone) post → SaysFinished gone parts post
says_finished gone parts post graph is = record {
  sound = λ state next is_state stands finishes. subst (λ (graphs : List Parts). SomeStandsFor graphs next) (sym is.graphs) (finish_sound gone parts graph state next is_state stands finishes);
  exact = λ none next is_state some. finish_exact gone parts graph (sym is.loss ∙ none) next is_state (subst (λ (graphs : List Parts). SomeStandsFor graphs next) is.graphs some);
  kinds = λ kind. (
    λ there. finish_met gone parts graph kind (subst (λ (kinds : List ℕ). Contains kinds kind) is.kinds there),
    λ faults. subst (λ (kinds : List ℕ). Contains kinds kind) (sym is.kinds) (finish_listed gone parts graph kind faults.state faults.is faults.stands faults.faults),
  );
}
