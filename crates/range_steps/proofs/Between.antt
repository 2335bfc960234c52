-- The post of a copy, by where its source and its target lead.
use Rattle.std.proofs.Common.{◌≡◌, ℕ, zero, suc, Bool, true, false, ◌&&◌, List, [], ◌∷◌, ◌++◌, length, Option, None, Some, ◌⊎◌, inl, inr, refl, sym, ◌∙◌, ap, subst, arith}
use Rattle.std.specs.Prelude.{Contains, if◌then◌else◌}
use Rattle.bytes_core.specs.Fault.{overlapping_copy}
use Rattle.graph.specs.declared.object.Object.{Object}
use Rattle.graph.specs.declared.parts.Parts.{Parts}
use Rattle.graph.specs.Maps.{object_at, held_by}
use Rattle.changes.specs.declared.reach.Reach.{Reach}
use Rattle.changes.specs.declared.reach.Reach.TheVariants as to
use Rattle.changes.specs.Parts.{with_object, without_registers}
use Rattle.changes.specs.Posted.{Posted, on_held, on_object, on_reach, reach_faults}
use Rattle.changes.proofs.Meeting.{contains_first, contains_later}
use Rattle.changes.proofs.Reached.{only_one, none_in, IsReached, reach_graph}
use Rattle.range_steps.specs.Copying.{copied_object, copies_all, overlap, object_written, object_copied, may_overlap, with_overlap, copied_between, copied_by, copy_post}

-- the post where both registers hold something
pub post_held : (parts : Parts) (to from length target source : ℕ) (disjoint : Bool) → held_by parts.registers to ≡ Some target → held_by parts.registers from ≡ Some source →
    copy_post parts to from length disjoint ≡ copied_by parts (to ∷ from ∷ []) disjoint length source target
post_held parts to from length target source disjoint to_held from_held =
    ap (λ (o : Option ℕ). on_held o (λ target. on_held (held_by parts.registers from) (λ source. copied_by parts (to ∷ from ∷ []) disjoint length source target))) to_held
    ∙ ap (λ (o : Option ℕ). on_held o (λ source. copied_by parts (to ∷ from ∷ []) disjoint length source target)) from_held

-- an overlap among the faults changes nothing else
pub overlap_loss : (some : Bool) (posted : Posted) → (with_overlap some posted).loss ≡ posted.loss
overlap_loss true posted = refl
overlap_loss false posted = refl

pub overlap_graphs : (some : Bool) (posted : Posted) → (with_overlap some posted).graphs ≡ posted.graphs
overlap_graphs true posted = refl
overlap_graphs false posted = refl

contains_before : (xs ys : List ℕ) (x : ℕ) → Contains xs x → Contains (xs ++ ys) x
contains_before [] ys x has = none_in x has
contains_before (first ∷ rest) ys x (zero, below, is) = (0, omega arith, is)
contains_before (first ∷ rest) ys x (suc place, below, is) = contains_later first x (rest ++ ys) (contains_before rest ys x (place, omega arith, is))

contains_last : (xs : List ℕ) (x : ℕ) → Contains (xs ++ x ∷ []) x
contains_last [] x = contains_first x []
contains_last (first ∷ rest) x = contains_later first x (rest ++ x ∷ []) (contains_last rest x)

pub overlap_keeps : (some : Bool) (posted : Posted) (kind : ℕ) → Contains posted.kinds kind → Contains (with_overlap some posted).kinds kind
overlap_keeps true posted kind has = contains_before posted.kinds (overlapping_copy ∷ []) kind has
overlap_keeps false posted kind has = has

pub overlap_has : (some : Bool) (posted : Posted) → some ≡ true → Contains (with_overlap some posted).kinds overlapping_copy
overlap_has some posted is = subst (λ (b : Bool). Contains (with_overlap b posted).kinds overlapping_copy) (sym is) (contains_last posted.kinds overlapping_copy)

last_cases : (xs : List ℕ) (x kind : ℕ) → Contains (xs ++ x ∷ []) kind → Contains xs kind ⊎ (x ≡ kind)
last_cases [] x kind (zero, below, is) = inr is
last_cases [] x kind (suc place, below, is) = absurd (omega arith)
last_cases (first ∷ rest) x kind (zero, below, is) = inl (0, omega arith, is)
last_cases (first ∷ rest) x kind (suc place, below, is) = later (last_cases rest x kind (place, omega arith, is))
  where
    later : Contains rest kind ⊎ (x ≡ kind) → Contains (first ∷ rest) kind ⊎ (x ≡ kind)
    later (inl has) = inl (contains_later first kind rest has)
    later (inr same) = inr same

-- a kind among the faults is one without the overlap, or that
pub overlap_cases : (some : Bool) (posted : Posted) (kind : ℕ) → Contains (with_overlap some posted).kinds kind → Contains posted.kinds kind ⊎ ((some ≡ true) × (overlapping_copy ≡ kind))
overlap_cases false posted kind has = inl has
overlap_cases true posted kind has = by_last (last_cases posted.kinds overlapping_copy kind has)
  where
    by_last : Contains posted.kinds kind ⊎ (overlapping_copy ≡ kind) → Contains posted.kinds kind ⊎ ((true ≡ true) × (overlapping_copy ≡ kind))
    by_last (inl own) = inl own
    by_last (inr same) = inr (refl, same)

pub no_overlap : (disjoint : Bool) (posted : Posted) → with_overlap (disjoint && false) posted ≡ posted
no_overlap true posted = refl
no_overlap false posted = refl

-- an overlap is never met where the source or the target is never right
pub never : (disjoint other : Bool) (posted : Posted) → with_overlap (disjoint && (other && false)) posted ≡ posted
never true true posted = refl
never true false posted = refl
never false other posted = refl

module _ (parts : Parts) (gone : List ℕ) (disjoint : Bool) (count : ℕ) (source target : Reach) where
  abbrev pub behind_source : ℕ → Object → ℕ → Posted
  behind_source key object from = on_reach parts target (object_copied parts gone disjoint count key object from)

  -- where both lead to bytes of objects
  pub between_rooms : (key from : ℕ) (object : Object) (other at : ℕ) (object' : Object) → source ≡ to.Room key from → object_at parts.objects key ≡ Some object → target ≡ to.Room other at → object_at parts.objects other ≡ Some object' →
      copied_between parts gone disjoint count source target ≡ object_copied parts gone disjoint count key object from other object' at
  between_rooms key from object other at object' source_is stands target_is stands' =
      ap (λ (r : Reach). copied_between parts gone disjoint count r target) source_is
      ∙ ap (λ (r : Reach). copied_between parts gone disjoint count (to.Room key from) r) target_is
      ∙ no_overlap disjoint (on_reach parts (to.Room key from) (λ key object from. on_reach parts (to.Room other at) (object_copied parts gone disjoint count key object from)))
      ∙ ap (λ (o : Option Object). on_object o (λ object. on_reach parts (to.Room other at) (object_copied parts gone disjoint count key object from))) stands
      ∙ ap (λ (o : Option Object). on_object o (λ object'. object_copied parts gone disjoint count key object from other object' at)) stands'

  -- where the source leads to bytes of an object the target decides
  pub between_room : (key from : ℕ) (object : Object) → source ≡ to.Room key from → object_at parts.objects key ≡ Some object →
      copied_between parts gone disjoint count source target ≡ with_overlap (disjoint && may_overlap parts count (to.Room key from) target) (on_reach parts target (object_copied parts gone disjoint count key object from))
  between_room key from object source_is stands =
      ap (λ (r : Reach). copied_between parts gone disjoint count r target) source_is
      ∙ ap (λ (o : Option Object). with_overlap (disjoint && may_overlap parts count (to.Room key from) target) (on_object o (λ object. on_reach parts target (object_copied parts gone disjoint count key object from)))) stands

  -- through any word
  pub any_source : (live : Bool) → source ≡ to.Anything live → (copied_between parts gone disjoint count source target).loss ≡ Some 4
  any_source live is =
      ap (λ (r : Reach). (copied_between parts gone disjoint count r target).loss) is ∙ overlap_loss (disjoint && may_overlap parts count (to.Anything live) target) (reach_faults (to.Anything live))

  pub any_target : (key from : ℕ) (object : Object) (live : Bool) → source ≡ to.Room key from → object_at parts.objects key ≡ Some object → target ≡ to.Anything live → (copied_between parts gone disjoint count source target).loss ≡ Some 4
  any_target key from object live source_is stands target_is =
      ap (λ (p : Posted). p.loss) (between_room key from object source_is stands)
      ∙ overlap_loss (disjoint && may_overlap parts count (to.Room key from) target) (on_reach parts target (object_copied parts gone disjoint count key object from))
      ∙ ap (λ (r : Reach). (on_reach parts r (object_copied parts gone disjoint count key object from)).loss) target_is

  -- a graph of the post is one in which a range is copied
  pub record IsCopied (after : Parts) : Type 0 where
    pub key : ℕ
    pub from : ℕ
    pub object : Object
    pub other : ℕ
    pub at : ℕ
    pub object' : Object
    pub source_is : source ≡ to.Room key from
    pub stands : object_at parts.objects key ≡ Some object
    pub target_is : target ≡ to.Room other at
    pub stands' : object_at parts.objects other ≡ Some object'
    pub apart : (disjoint && overlap other at key from count) ≡ false
    pub same : without_registers gone (with_object other (copied_object object from object' at count) parts) ≡ after
    pub loss : (copied_between parts gone disjoint count source target).loss ≡ (if copies_all object from object' at count then None else Some 3)

  pub copied_graph : (after : Parts) → Contains (copied_between parts gone disjoint count source target).graphs after → IsCopied after
  copied_graph after among = by_overlap (disjoint && overlap two.key two.from one.key one.from count) refl two.among
    where
      one : IsReached parts source behind_source after
      one = reach_graph parts source behind_source after
          (subst (λ (graphs : List Parts). Contains graphs after) (overlap_graphs (disjoint && may_overlap parts count source target) (on_reach parts source behind_source)) among)

      two : IsReached parts target (object_copied parts gone disjoint count one.key one.object one.from) after
      two = reach_graph parts target (object_copied parts gone disjoint count one.key one.object one.from) after one.among

      by_overlap : (b : Bool) → (disjoint && overlap two.key two.from one.key one.from count) ≡ b → Contains (object_written parts gone b count one.object one.from two.key two.object two.from).graphs after → IsCopied after
      by_overlap true is among = none_in after among
      by_overlap false is among = record {
        key = one.key;
        from = one.from;
        object = one.object;
        other = two.key;
        at = two.from;
        object' = two.object;
        source_is = one.is;
        stands = one.stands;
        target_is = two.is;
        stands' = two.stands;
        apart = is;
        same = only_one (without_registers gone (with_object two.key (copied_object one.object one.from two.object two.from count) parts)) after among;
        loss = ap (λ (p : Posted). p.loss) (between_rooms one.key one.from one.object two.key two.from two.object one.is one.stands two.is two.stands)
            ∙ ap (λ (b : Bool). (object_written parts gone b count one.object one.from two.key two.object two.from).loss) is;
      }
