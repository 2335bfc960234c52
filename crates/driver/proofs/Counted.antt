-- The numbers of live objects of entries, and that entries that are passed over do not cover.
use Rattle.std.proofs.Common.{◌≡◌, ℕ, ◌+◌, List, [], ◌∷◌, ◌++◌, Bool, true, false, refl, sym, ap, subst, ◌∙◌, inl, inr, length, length-append, get_or, arith}
use Rattle.std.proofs.lemmas.Bool.{false≢true}
use Rattle.std.proofs.lemmas.Option.{same_Some, none-some}
use Rattle.std.proofs.lemmas.List.{get_or_append_left}
use Rattle.std.proofs.Math.Seq.{get_or-append_seam}
use Rattle.graph.specs.declared.parts.Parts.{Parts}
use Rattle.graph.specs.Whole.{IsGraph}
use Rattle.cover.specs.Covers.{Covers}
use Rattle.cover.specs.Quick.{live_count}
use Rattle.cover.proofs.Counting.{covers_count}
use Rattle.trail.specs.declared.trail.Entry.{Entry}
use Rattle.trail.specs.Trail.{At}
use Rattle.trail.proofs.Grow.{at_either}
use Rattle.driver.specs.Peers.{IsCountOf, AreCounted, TellsCover}

pub count_of : (graph : Parts) (count : ℕ) → IsGraph graph → count ≡ live_count graph → IsCountOf graph count
count_of graph count graph_is is = record { graph_is = graph_is; count_is = is }

-- an entry with another number of live objects does not cover
pub other_count : (trail : List Entry) (counts : List ℕ) (number : ℕ) (graph : Parts) (count live : ℕ) → AreCounted trail counts → IsCountOf graph live → count ≡ get_or counts number 0 → (count ≡ live → ⊥) →
    TellsCover trail number graph false
other_count trail counts number graph count live counted its is differs entry there =
    let each : IsCountOf entry.graph (get_or counts number 0) = counted.each number entry there in
    (λ no. absurd (false≢true no), λ covers. absurd (differs (is ∙ (each.count_is ∙ (covers_count entry.graph graph each.graph_is its.graph_is covers ∙ sym its.count_is)))))

-- nor does one that may not cover
pub out_of_sight : (trail : List Entry) (number : ℕ) (entry : Entry) (graph : Parts) (may : Bool) → At trail number entry → (Covers entry.graph graph → may ≡ true) → may ≡ false → TellsCover trail number graph false
out_of_sight trail number entry graph may there passes not other other_there =
    let same : entry ≡ other = same_Some _ _ (sym there ∙ other_there) in
    (λ no. absurd (false≢true no), λ covers. absurd (false≢true (sym not ∙ passes (subst (λ (e : Entry). Covers e.graph graph) (sym same) covers))))

-- an entry more
pub counted_more : (trail : List Entry) (counts : List ℕ) (new : Entry) (count : ℕ) → AreCounted trail counts → IsGraph new.graph → count ≡ live_count new.graph →
    AreCounted (trail ++ new ∷ []) (counts ++ count ∷ [])
counted_more trail counts new count counted graph_is is = record {
  each = λ number entry there. elim (at_either trail new entry number there) [
    | inl (less, old) ↦ subst (λ (n : ℕ). IsCountOf entry.graph n) (sym (get_or_append_left counts (count ∷ []) 0 number (omega (arith, counted.long)))) (counted.each number entry old)
    | inr (last, one) ↦ subst (λ (e : Entry). IsCountOf e.graph (get_or (counts ++ count ∷ []) number 0)) one (by_last number last)
  ];
  long = length-append counts (count ∷ []) ∙ (ap (λ (n : ℕ). n + 1) counted.long ∙ sym (length-append trail (new ∷ [])));
}
  where
    by_last : (number : ℕ) → number ≡ length trail → IsCountOf new.graph (get_or (counts ++ count ∷ []) number 0)
    by_last number last =
        let its : get_or (counts ++ count ∷ []) number 0 ≡ count =
        ap (λ (n : ℕ). get_or (counts ++ count ∷ []) n 0) (last ∙ sym counted.long) ∙ get_or-append_seam counts count [] 0 in
        record { graph_is = graph_is; count_is = its ∙ is }

pub counted_nothing : (trail : List Entry) (counts : List ℕ) → trail ≡ [] → counts ≡ [] → AreCounted trail counts
counted_nothing trail counts trail_is counts_is =
    subst (λ (t : List Entry). AreCounted t counts) (sym trail_is)
    (subst (λ (c : List ℕ). AreCounted [] c) (sym counts_is) (record { each = λ number entry there. absurd (none-some entry there); long = refl }))

pub counted_there : (trail trail' : List Entry) (counts counts' : List ℕ) (new : Entry) (count : ℕ) → AreCounted trail counts → trail' ≡ trail ++ new ∷ [] → counts' ≡ counts ++ count ∷ [] →
    IsGraph new.graph → count ≡ live_count new.graph → AreCounted trail' counts'
counted_there trail trail' counts counts' new count counted trail_is counts_is graph_is is =
    subst (λ (t : List Entry). AreCounted t counts') (sym trail_is)
    (subst (λ (c : List ℕ). AreCounted (trail ++ new ∷ []) c) (sym counts_is) (counted_more trail counts new count counted graph_is is))

-- the same as the code has it
pub other_count_there : (trail : List Entry) (counts slice : List ℕ) (number : ℕ) (graph : Parts) (count live : ℕ) → AreCounted trail counts → IsCountOf graph live → slice ≡ counts →
    count ≡ get_or slice number 0 → (count ≡ live → ⊥) → TellsCover trail number graph false
other_count_there trail counts slice number graph count live counted its same is differs =
    other_count trail counts number graph count live counted its (is ∙ ap (λ (c : List ℕ). get_or c number 0) same) differs
