-- What is kept beside the blocks of a memory stays right where a block comes or ends, and tells whether a new one shares an
-- address with a live one.
use Rattle.std.proofs.Common.{◌≡◌, ◌≢◌, ℕ, zero, suc, ◌+◌, ◌<◌, ◌≤◌, Bool, true, false, not, ◌&&◌, ◌||◌, List, [], ◌∷◌, ◌++◌, length, map, get_or, set, nat_eq, nat_le, nat_lt, Option, None, Some, ◌⊎◌, inl, inr, refl, sym, ap, ◌∙◌, subst, le-leb, leb-true, arith}
use Rattle.std.proofs.lemmas.Bool.{cases_eq, cases_lt, cases_order, cases_Bool, and_parts, or_cases, or_left, or_right, false≢true, false_from_ne_true, true_from_ne_false, or_parts, or_from, and_from, le-ltb, lt-ltb, ltb-false}
use Rattle.std.proofs.lemmas.Bool.Decides.{same_from_decides}
use Rattle.std.proofs.lemmas.List.Sums.{sum_by_push, sum_by-cons, sum_by-set, sum_by-le, get_or-le-sum_by}
use Rattle.std.proofs.Math.Nat.{le-max_left}
use Rattle.std.proofs.lemmas.Map.Keys.{any_passes_from_place}
use Rattle.std.proofs.lemmas.Map.Lookups.{exact_unsigned}
use Rattle.std.proofs.lemmas.Option.{none-some, same_Some, slice_get_within, slice_get-map, get_or_from_slice_get}
use Rattle.std.specs.Prelude.{cond, if◌then◌else◌, option_map, slice_get}
use Rattle.std.specs.List.{list_all, list_any, sum_by}
use Rattle.std.specs.Ordering.{nat_cmp, is_eq, is_lt}
use Rattle.std.specs.declared.cmp.Ordering.TheVariants.{Less, Equal, Greater}
use Rattle.std.specs.Cmp.{Equal-is}
use Rattle.std.specs.Map.{lookup}
use Rattle.std.specs.BTreeMap.{BTreeMap, get, is_at, IsUnchanged, Updates, UpdatesBy}
use Rattle.bytes_core.specs.declared.block.Block.{Block}
use Rattle.bytes_core.specs.declared.block.BlockKind.{BlockKind}
use Rattle.bytes_core.specs.declared.block.BlockKind.TheVariants.{Static, Local, Heap}
use Rattle.bytes_core.specs.Indexed.{Head, head, heads, live_base, live_bases, AreBases, heap_share, IsIndexed, IsLastBefore, BeginNotBefore}
use Rattle.bytes_core.specs.Living.{AreLive, fits_there, lives}
use Rattle.bytes_core.specs.Loss.{is_live_heap, is_lost, IsLostBlock}
use Rattle.bytes_core.specs.Placement.{extent, is_placed, are_compatible, can_be_placed}
use Rattle.bytes_core.specs.Release.{is_heap, without}
use Rattle.bytes_core.specs.Valid.{IsMemory}
use Rattle.bytes_core.proofs.Chains.{lost_by_chains}
use Rattle.bytes_core.proofs.Kept.{compatible_back}
use Rattle.bytes_core.proofs.Living.{pushed_old, pushed_new, pushed_cases, put_other, put_cases, passes_at, at_passes, AreLive-none, AreLive-more}

-- a list that is mapped, with one more item and with another one
map_push : {X Y : Type 0} (f : X → Y) (xs : List X) (x : X) → map f (xs ++ x ∷ []) ≡ map f xs ++ f x ∷ []
map_push f [] x = refl
map_push {X} {Y} f (first ∷ rest) x = ap (λ (more : List Y). f first ∷ more) (map_push f rest x)

map_set : {X Y : Type 0} (f : X → Y) (xs : List X) (i : ℕ) (x : X) → map f (set xs i x) ≡ set (map f xs) i (f x)
map_set f [] i x = refl
map_set f (first ∷ rest) zero x = refl
map_set {X} {Y} f (first ∷ rest) (suc i) x = ap (λ (more : List Y). f first ∷ more) (map_set f rest i x)

-- what a table has at other keys than the one that is changed
elsewhere : (key other : ℕ) → (other ≡ key → ⊥) → is_at (nat_cmp key) other ≡ false
elsewhere key other differ = false_from_ne_true (is_eq (nat_cmp key other)) (λ same. differ (sym (exact_unsigned key other ((Equal-is _).0 same))))

-- the order of numbers, as a table compares them
pub cmp_less : (x y : ℕ) → x < y → nat_cmp x y ≡ Less
cmp_less x y before = ap (λ (test : Bool). cond test Less (cond (nat_eq x y) Equal Greater)) (lt-ltb x y before)

pub not_less : (x y : ℕ) → is_lt (nat_cmp x y) ≡ false → y ≤ x
not_less x y not_before = at (cases_lt x y)
  where
    at : (x < y) ⊎ (y ≤ x) → y ≤ x
    at (inl before) = absurd (false≢true (sym not_before ∙ ap is_lt (cmp_less x y before)))
    at (inr behind) = behind

-- the table where nothing was put in
pub bases_unchanged : (begins : List (Option ℕ)) (old new : BTreeMap ℕ ℕ) → IsUnchanged old new → AreBases begins old → AreBases begins new
bases_unchanged begins old new same are base number =
    subst (λ (entries : List (ℕ × ℕ)). ((lookup (is_at (nat_cmp base)) entries ≡ Some number) → (slice_get begins number ≡ Some (Some base)))
    × ((slice_get begins number ≡ Some (Some base)) → (lookup (is_at (nat_cmp base)) entries ≡ Some number))) (sym same) (are base number)

-- the table where nothing lives
bases_none : (bases : BTreeMap ℕ ℕ) → bases.entries ≡ [] → AreBases [] bases
bases_none bases empty base number =
    ((λ is. absurd (none-some number (ap (lookup (is_at (nat_cmp base))) (sym empty) ∙ is))), (λ stands. absurd (none-some (Some base) stands)))

-- the table where a block comes behind the others: one that lives, and one that does not
pub bases_more : (begins : List (Option ℕ)) (old new : BTreeMap ℕ ℕ) (base number : ℕ) → Updates nat_cmp old new base (Some number) → number ≡ length begins →
    AreBases begins old → get nat_cmp old base ≡ None → AreBases (begins ++ Some base ∷ []) new
bases_more begins old new base number changed is are free other found = (there (cases_eq other base), λ stands. back (pushed_cases begins (Some base) (Some other) found stands))
  where
    there : (other ≡ base) ⊎ (other ≡ base → ⊥) → get nat_cmp new other ≡ Some found → slice_get (begins ++ Some base ∷ []) found ≡ Some (Some other)
    there (inl same) has =
        let here : number ≡ found = same_Some number found (sym changed.1 ∙ ap (get nat_cmp new) (sym same) ∙ has) in
        rw (sym here, is, same) (pushed_new begins (Some base))
    there (inr differ) has =
        pushed_old begins (Some base) (Some other) found ((are other found).0 (sym (changed.2 other (elsewhere base other differ)) ∙ has))

    back : (slice_get begins found ≡ Some (Some other)) ⊎ ((found ≡ length begins) × (Some base ≡ Some other)) → get nat_cmp new other ≡ Some found
    back (inl stands) =
        let has : get nat_cmp old other ≡ Some found = (are other found).1 stands in
        let differ : other ≡ base → ⊥ = λ same. none-some found (sym free ∙ ap (get nat_cmp old) (sym same) ∙ has) in
        changed.2 other (elsewhere base other differ) ∙ has
    back (inr (last, same)) = rw (sym (same_Some base other same), last, sym is) changed.1

pub bases_more_dead : (begins : List (Option ℕ)) (bases : BTreeMap ℕ ℕ) → AreBases begins bases → AreBases (begins ++ None ∷ []) bases
bases_more_dead begins bases are other found =
    ((λ has. pushed_old begins None (Some other) found ((are other found).0 has)), (λ stands. back (pushed_cases begins None (Some other) found stands)))
  where
    back : (slice_get begins found ≡ Some (Some other)) ⊎ ((found ≡ length begins) × (None ≡ Some other)) → get nat_cmp bases other ≡ Some found
    back (inl stands) = (are other found).1 stands
    back (inr (last, same)) = absurd (none-some other same)

-- the table where a block ends: one that lived, and one that did not
pub bases_fewer : (begins : List (Option ℕ)) (old new : BTreeMap ℕ ℕ) (base number : ℕ) → UpdatesBy nat_cmp (nat_cmp base) old new None →
    slice_get begins number ≡ Some (Some base) → AreBases begins old → AreBases (set begins number None) new
bases_fewer begins old new base number changed own are other found = (there (cases_eq other base), λ stands. back (put_cases begins None (Some other) number found stands))
  where
    there : (other ≡ base) ⊎ (other ≡ base → ⊥) → get nat_cmp new other ≡ Some found → slice_get (set begins number None) found ≡ Some (Some other)
    there (inl same) has = absurd (none-some found (sym changed.1 ∙ ap (get nat_cmp new) (sym same) ∙ has))
    there (inr differ) has =
        let stands : slice_get begins found ≡ Some (Some other) = (are other found).0 (sym (changed.2 other (elsewhere base other differ)) ∙ has) in
        let apart : found ≡ number → ⊥ = λ same.
        differ (same_Some other base (same_Some (Some other) (Some base) (sym stands ∙ ap (slice_get begins) same ∙ own))) in
        put_other begins None number found apart ∙ stands

    back : ((found ≡ number) × (None ≡ Some other)) ⊎ ((found ≢ number) × (slice_get begins found ≡ Some (Some other))) → get nat_cmp new other ≡ Some found
    back (inl (here, same)) = absurd (none-some other same)
    back (inr (apart, stands)) =
        let has : get nat_cmp old other ≡ Some found = (are other found).1 stands in
        let differ : other ≡ base → ⊥ = λ same.
        apart (same_Some found number (sym has ∙ ap (get nat_cmp old) same ∙ (are base number).1 own)) in
        changed.2 other (elsewhere base other differ) ∙ has

pub bases_fewer_dead : (begins : List (Option ℕ)) (bases : BTreeMap ℕ ℕ) (number : ℕ) → slice_get begins number ≡ Some None → AreBases begins bases → AreBases (set begins number None) bases
bases_fewer_dead begins bases number own are other found = (there, λ stands. back (put_cases begins None (Some other) number found stands))
  where
    there : get nat_cmp bases other ≡ Some found → slice_get (set begins number None) found ≡ Some (Some other)
    there has =
        let stands : slice_get begins found ≡ Some (Some other) = (are other found).0 has in
        let apart : found ≡ number → ⊥ = λ same.
        none-some other (same_Some None (Some other) (sym own ∙ ap (slice_get begins) (sym same) ∙ stands)) in
        put_other begins None number found apart ∙ stands

    back : ((found ≡ number) × (None ≡ Some other)) ⊎ ((found ≢ number) × (slice_get begins found ≡ Some (Some other))) → get nat_cmp bases other ≡ Some found
    back (inl (here, same)) = absurd (none-some other same)
    back (inr (apart, stands)) = (are other found).1 stands

-- a block in the table, and a block of the table
begins_at : (memory : List Block) (number base : ℕ) → slice_get (live_bases (heads memory)) number ≡ Some (Some base) →
    (block : Block) × (slice_get memory number ≡ Some block) × (block.live ≡ true) × (block.base ≡ base)
begins_at memory number base stands =
    at (slice_get memory number) refl (sym (slice_get-map live_base (heads memory) number ∙ ap (option_map live_base) (slice_get-map head memory number)) ∙ stands)
  where
    lives_there : (block : Block) (live : Bool) → block.live ≡ live → slice_get memory number ≡ Some block → (if live then Some block.base else None) ≡ Some base →
        (block : Block) × (slice_get memory number ≡ Some block) × (block.live ≡ true) × (block.base ≡ base)
    lives_there block true live is begins = (block, is, live, same_Some block.base base begins)
    lives_there block false live is begins = absurd (none-some base begins)

    at : (found : Option Block) → slice_get memory number ≡ found → option_map live_base (option_map head found) ≡ Some (Some base) →
        (block : Block) × (slice_get memory number ≡ Some block) × (block.live ≡ true) × (block.base ≡ base)
    at None is begins = absurd (none-some (Some base) begins)
    at (Some block) is begins = lives_there block block.live refl is (same_Some (live_base (head block)) (Some base) begins)

head_at : (memory : List Block) (number : ℕ) (block : Block) → slice_get memory number ≡ Some block → slice_get (heads memory) number ≡ Some (head block)
head_at memory number block stands = slice_get-map head memory number ∙ ap (option_map head) stands

pub base_at : (memory : List Block) (number : ℕ) (block : Block) → slice_get memory number ≡ Some block → slice_get (live_bases (heads memory)) number ≡ Some (live_base (head block))
base_at memory number block stands = slice_get-map live_base (heads memory) number ∙ ap (option_map live_base) (head_at memory number block stands)

live_base_at : (memory : List Block) (number : ℕ) (block : Block) → slice_get memory number ≡ Some block → block.live ≡ true → slice_get (live_bases (heads memory)) number ≡ Some (Some block.base)
live_base_at memory number block stands live = base_at memory number block stands ∙ ap (λ (alive : Bool). Some (if alive then Some block.base else None)) live

pub length_bases : (memory : List Block) → length (live_bases (heads memory)) ≡ length memory
length_bases [] = refl
length_bases (first ∷ rest) = ap suc (length_bases rest)

-- what is kept where there is no block
pub IsIndexed-none : (bases : BTreeMap ℕ ℕ) → bases.entries ≡ [] → IsIndexed [] [] [] bases 0
IsIndexed-none bases empty = record { live = AreLive-none; begins = bases_none bases empty; count = refl }

-- what is kept where a block comes behind the others
pub IsIndexed-more : (memory : List Block) (block : Block) (numbers places : List ℕ) (old new : BTreeMap ℕ ℕ) (heap : ℕ) → IsIndexed (heads memory) numbers places old heap →
    AreBases (live_bases (heads memory) ++ live_base (head block) ∷ []) new →
    IsIndexed (heads (memory ++ block ∷ [])) (if block.live then numbers ++ length places ∷ [] else numbers) (places ++ length numbers ∷ []) new (heap + heap_share (head block))
IsIndexed-more memory block numbers places old new heap is begins = record {
  live = rw (map_push head memory block, map_push (λ (one : Head). one.live) (heads memory) (head block))
      (AreLive-more (map (λ (one : Head). one.live) (heads memory)) numbers places block.live is.live);
  begins = rw (map_push head memory block, map_push live_base (heads memory) (head block)) begins;
  count = rw (map_push head memory block) (ap (λ (n : ℕ). n + heap_share (head block)) is.count ∙ sym (sum_by_push heap_share (heads memory) (head block)));
}

-- what is kept where a block ends
share_of_dead : (kind : BlockKind) (base : ℕ) → heap_share (record { base = base; kind = kind; live = false }) ≡ 0
share_of_dead Static base = refl
share_of_dead Local base = refl
share_of_dead Heap base = refl

-- a block when it has ended
abbrev ended : Block → Block
ended block = record block { live = false }

pub IsIndexed-fewer : (memory : List Block) (number : ℕ) (block : Block) (numbers places fewer others : List ℕ) (old new : BTreeMap ℕ ℕ) (heap less : ℕ) →
    slice_get memory number ≡ Some block → IsIndexed (heads memory) numbers places old heap →
    ((alive : List Bool) → AreLive alive numbers places → AreLive (set alive number false) fewer others) →
    AreBases (set (live_bases (heads memory)) number None) new → less + heap_share (head block) ≡ heap →
    IsIndexed (heads (without memory number (slice_get memory number))) fewer others new less
IsIndexed-fewer memory number block numbers places fewer others old new heap less stands is ends begins counted =
    subst (λ (found : Option Block). IsIndexed (heads (without memory number found)) fewer others new less) (sym stands) (record {
      live = rw (map_set head memory number (ended block), map_set (λ (one : Head). one.live) (heads memory) number (head (ended block)))
          (ends (map (λ (one : Head). one.live) (heads memory)) is.live);
      begins = rw (map_set head memory number (ended block), map_set live_base (heads memory) number (head (ended block))) begins;
      count = rw (map_set head memory number (ended block)) total;
    })
  where
    inside : number < length (heads memory)
    inside = slice_get_within (heads memory) number (head block) (head_at memory number block stands)

    there : get_or (heads memory) number (head block) ≡ head block
    there = get_or_from_slice_get (heads memory) number (head block) (head block) (head_at memory number block stands)

    total : less ≡ sum_by heap_share (set (heads memory) number (head (ended block)))
    total =
        let sums = sum_by-set heap_share (heads memory) number (head (ended block)) (head block) inside in
        let was = ap heap_share there in
        let none : heap_share (head (ended block)) ≡ 0 = share_of_dead block.kind block.base in
        let right = is.count in
        omega (arith, sums, was, none, right, counted)

-- a block of the heap that lives is counted, and there is room to count one more
pub heap_share-le : (memory : List Block) (number : ℕ) (block : Block) (numbers places : List ℕ) (bases : BTreeMap ℕ ℕ) (heap : ℕ) → slice_get memory number ≡ Some block →
    IsIndexed (heads memory) numbers places bases heap → heap_share (head block) ≤ heap
heap_share-le memory number block numbers places bases heap stands is =
    let own = head_at memory number block stands in
    let inside = slice_get_within (heads memory) number (head block) own in
    let same = ap heap_share (get_or_from_slice_get (heads memory) number (head block) (head block) own) in
    let most = get_or-le-sum_by heap_share (heads memory) number (head block) inside in
    let right = is.count in
    omega (arith, same, most, right)

small_share : (one : Head) → heap_share one ≤ 1
small_share one = at (is_heap one.kind && one.live)
  where
    at : (test : Bool) → (if test then 1 else 0) ≤ 1
    at true = omega arith
    at false = omega arith

pub heap-le : (memory : List Block) (numbers places : List ℕ) (bases : BTreeMap ℕ ℕ) (heap : ℕ) → IsIndexed (heads memory) numbers places bases heap → heap ≤ length memory
heap-le memory numbers places bases heap is =
    let most = sum_by-le heap_share 1 (heads memory) (λ k d within. small_share (get_or (heads memory) k d)) in
    let right = is.count in
    let same = length_map memory in
    omega (arith, most, right, same)
  where
    length_map : (memory : List Block) → length (heads memory) ≡ length memory
    length_map [] = refl
    length_map (first ∷ rest) = ap suc (length_map rest)

-- which blocks live, as the search for lost ones has it
map_twice : (memory : List Block) → map (λ (one : Head). one.live) (heads memory) ≡ lives memory
map_twice [] = refl
map_twice (first ∷ rest) = ap (λ (more : List Bool). first.live ∷ more) (map_twice rest)

pub live_of : (memory : List Block) (numbers places : List ℕ) (bases : BTreeMap ℕ ℕ) (heap : ℕ) → IsIndexed (heads memory) numbers places bases heap → AreLive (lives memory) numbers places
live_of memory numbers places bases heap is = subst (λ (alive : List Bool). AreLive alive numbers places) (map_twice memory) is.live

-- what a write leaves
pub heads_kept : (memory : List Block) (number : ℕ) (old new : Block) → number < length memory → old ≡ get_or memory number old → head new ≡ head old → heads (set memory number new) ≡ heads memory
heads_kept [] number old new inside is same = refl
heads_kept (first ∷ rest) zero old new inside is same = ap (λ (one : Head). one ∷ heads rest) (same ∙ ap head is)
heads_kept (first ∷ rest) (suc number) old new inside is same = ap (λ (more : List Head). head first ∷ more) (heads_kept rest number old new (omega arith) is same)

-- whether a block of the heap lives, and none is lost where none does
none_counted : (memory : List Block) → sum_by heap_share (heads memory) ≡ 0 → list_any is_live_heap memory ≡ false
none_counted [] none = refl
none_counted (first ∷ rest) none = at (is_heap first.kind && first.live) refl (none_counted rest)
  where
    sums : sum_by heap_share (heads (first ∷ rest)) ≡ heap_share (head first) + sum_by heap_share (heads rest)
    sums = sum_by-cons heap_share (head first) (heads rest)

    at : (test : Bool) → (is_heap first.kind && first.live) ≡ test → (sum_by heap_share (heads rest) ≡ 0 → list_any is_live_heap rest ≡ false) →
        (is_live_heap first || list_any is_live_heap rest) ≡ false
    at true is more =
        let one : heap_share (head first) ≡ 1 = ap (λ (test : Bool). if test then 1 else 0) is in
        absurd (omega (arith, sums, none, one))
    at false is more = or_from (is_live_heap first) (list_any is_live_heap rest) is (more (omega (arith, sums, none)))

all_counted : (memory : List Block) → list_any is_live_heap memory ≡ false → sum_by heap_share (heads memory) ≡ 0
all_counted [] none = refl
all_counted (first ∷ rest) none =
    let parts = or_parts (is_live_heap first) (list_any is_live_heap rest) none in
    let share : heap_share (head first) ≡ 0 = ap (λ (test : Bool). if test then 1 else 0) parts.0 in
    let more = all_counted rest parts.1 in
    let sums = sum_by-cons heap_share (head first) (heads rest) in
    omega (arith, share, more, sums)

pub none_lives : (memory : List Block) (numbers places : List ℕ) (bases : BTreeMap ℕ ℕ) (heap : ℕ) → IsIndexed (heads memory) numbers places bases heap → heap ≡ 0 →
    list_any is_live_heap memory ≡ false
none_lives memory numbers places bases heap is none = none_counted memory (sym is.count ∙ none)

pub some_lives : (memory : List Block) (numbers places : List ℕ) (bases : BTreeMap ℕ ℕ) (heap : ℕ) → IsIndexed (heads memory) numbers places bases heap →
    nat_lt 0 heap ≡ list_any is_live_heap memory
some_lives memory numbers places bases heap is = at (list_any is_live_heap memory) refl
  where
    at : (some : Bool) → list_any is_live_heap memory ≡ some → nat_lt 0 heap ≡ some
    at false none = let all = all_counted memory none in let right = is.count in le-ltb 0 heap (omega (arith, all, right))
    at true some =
        true_from_ne_false (nat_lt 0 heap) (λ none. let few = ltb-false 0 heap none in
        false≢true (sym (none_lives memory numbers places bases heap is (omega (arith, few))) ∙ some))

pub none_lost : (memory : List Block) (roots : List ℕ) → list_any is_live_heap memory ≡ false → is_lost memory roots ≡ false
none_lost memory roots none =
    false_from_ne_true (is_lost memory roots) (λ lost. let found = (lost_by_chains memory roots).0 lost in at found.0 found.1 found.2)
  where
    at : (number : ℕ) (block : Block) → IsLostBlock memory roots number block → ⊥
    at number block lost =
        false≢true (sym none ∙ any_passes_from_place is_live_heap memory number block lost.stands (and_from (is_heap block.kind) block.live lost.allocated lost.live))

-- two live blocks that may stand in one memory: one ends before the other begins
ends_first : (one other : Block) → are_compatible one other ≡ true → one.live ≡ true → other.live ≡ true → (one.base + extent one ≤ other.base) ⊎ (other.base + extent other ≤ one.base)
ends_first one other is lives also = at (or_cases (nat_le (one.base + extent one) other.base) (nat_le (other.base + extent other) one.base) apart)
  where
    apart : (nat_le (one.base + extent one) other.base || nat_le (other.base + extent other) one.base) ≡ true
    apart =
        subst (λ (live : Bool). (not live || (nat_le (one.base + extent one) other.base || nat_le (other.base + extent other) one.base)) ≡ true) also
        (subst (λ (live : Bool). (not live || (not other.live || (nat_le (one.base + extent one) other.base || nat_le (other.base + extent other) one.base))) ≡ true) lives is)

    at : (nat_le (one.base + extent one) other.base ≡ true) ⊎ (nat_le (other.base + extent other) one.base ≡ true) →
        (one.base + extent one ≤ other.base) ⊎ (other.base + extent other ≤ one.base)
    at (inl before) = inl (leb-true _ _ before)
    at (inr behind) = inr (leb-true _ _ behind)

some_extent : (block : Block) → 16 ≤ extent block
some_extent block = le-max_left 16 (length block.bytes)

-- two blocks of a memory may stand in it
beside : (memory : List Block) → IsMemory memory → (i j : ℕ) (one other : Block) → (i ≡ j → ⊥) → slice_get memory i ≡ Some one → slice_get memory j ≡ Some other → are_compatible one other ≡ true
beside memory valid i j one other differ first second = by_order (cases_order i j)
  where
    read : (at : ℕ) (block : Block) → slice_get memory at ≡ Some block → get_or memory at block ≡ block
    read at block stands = get_or_from_slice_get memory at block block stands

    by_order : (i ≡ j) ⊎ ((i < j) ⊎ (j < i)) → are_compatible one other ≡ true
    by_order (inl same) = absurd (differ same)
    by_order (inr (inl before)) =
        let pair = valid.apart i j one before (slice_get_within memory j other second) in
        rw (get_or_from_slice_get memory i one one first, get_or_from_slice_get memory j other one second) at pair
    by_order (inr (inr behind)) =
        let pair = valid.apart j i one behind (slice_get_within memory i one first) in
        let back : are_compatible other one ≡ true = rw (get_or_from_slice_get memory i one one first, get_or_from_slice_get memory j other one second) at pair in
        compatible_back other.live one.live (nat_le (other.base + extent other) one.base) (nat_le (one.base + extent one) other.base) back

-- a block may stand with all where it may with each one that lives and begins before its end
fits_each : (memory : List Block) (block : Block) →
    ((number : ℕ) (other : Block) → slice_get memory number ≡ Some other → block.live ≡ true → other.live ≡ true → other.base < block.base + extent block → other.base + extent other ≤ block.base) →
    list_all (are_compatible block) memory ≡ true
fits_each memory block each = at_passes (are_compatible block) memory (λ number other stands. at number other stands (cases_Bool block.live) (cases_Bool other.live))
  where
    apart : (other : Block) → (other.base + extent other ≤ block.base) ⊎ (block.base + extent block ≤ other.base) →
        (nat_le (block.base + extent block) other.base || nat_le (other.base + extent other) block.base) ≡ true
    apart other (inl before) = or_right (nat_le (block.base + extent block) other.base) (nat_le (other.base + extent other) block.base) (le-leb _ _ before)
    apart other (inr behind) = or_left (nat_le (block.base + extent block) other.base) (nat_le (other.base + extent other) block.base) (le-leb _ _ behind)

    by_place : (number : ℕ) (other : Block) → slice_get memory number ≡ Some other → block.live ≡ true → other.live ≡ true →
        (other.base < block.base + extent block) ⊎ (block.base + extent block ≤ other.base) →
        (nat_le (block.base + extent block) other.base || nat_le (other.base + extent other) block.base) ≡ true
    by_place number other stands lives also (inl before) = apart other (inl (each number other stands lives also before))
    by_place number other stands lives also (inr behind) = apart other (inr behind)

    at : (number : ℕ) (other : Block) → slice_get memory number ≡ Some other → (block.live ≡ true) ⊎ (block.live ≡ false) → (other.live ≡ true) ⊎ (other.live ≡ false) →
        are_compatible block other ≡ true
    at number other stands (inr dead) also = rw dead refl
    at number other stands (inl lives) (inr dead) = rw (lives, dead) refl
    at number other stands (inl lives) (inl also) = rw (lives, also) (by_place number other stands lives also (cases_lt other.base (block.base + extent block)))

-- no live block begins before the end
pub fits_none : (memory : List Block) (bases : BTreeMap ℕ ℕ) (block : Block) → AreBases (live_bases (heads memory)) bases → BeginNotBefore bases (block.base + extent block) →
    list_all (are_compatible block) memory ≡ true
fits_none memory bases block are none =
    fits_each memory block (λ number other stands lives also before.
    absurd (none-some number (sym (none other.base before) ∙ (are other.base number).1 (live_base_at memory number other stands also))))

-- the one that begins last before the end is apart from the block where all are
pub fits_last : (memory : List Block) (bases : BTreeMap ℕ ℕ) (block : Block) (number : ℕ) → IsMemory memory → AreBases (live_bases (heads memory)) bases →
    IsLastBefore bases (block.base + extent block) number → fits_there block (slice_get memory number) ≡ list_all (are_compatible block) memory
fits_last memory bases block number valid are last =
    let (found, stands, alive, begins) = begins_at memory number last.base ((are last.base number).0 last.begins) in
    with_last found stands alive begins
  where
    with_last : (found : Block) → slice_get memory number ≡ Some found → found.live ≡ true → found.base ≡ last.base → fits_there block (slice_get memory number) ≡ list_all (are_compatible block) memory
    with_last found stands alive begins =
        same_from_decides (fits_there block (slice_get memory number)) (list_all (are_compatible block) memory) (there, back) (λ h. h, λ h. h)
      where
        back : list_all (are_compatible block) memory ≡ true → fits_there block (slice_get memory number) ≡ true
        back all = ap (fits_there block) stands ∙ passes_at (are_compatible block) memory all number found stands

        behind : block.live ≡ true → are_compatible block found ≡ true → found.base + extent found ≤ block.base
        behind lives fits = at (ends_first block found fits lives alive)
          where
            at : (block.base + extent block ≤ found.base) ⊎ (found.base + extent found ≤ block.base) → found.base + extent found ≤ block.base
            at (inl over) = let before = last.before in absurd (omega (arith, over, before, begins))
            at (inr ends) = ends

        each : are_compatible block found ≡ true → (at : ℕ) (other : Block) → slice_get memory at ≡ Some other → block.live ≡ true → other.live ≡ true →
            other.base < block.base + extent block → other.base + extent other ≤ block.base
        each fits at other here lives also before = by_number (cases_eq at number)
          where
            least : other.base ≤ last.base
            least = last.last other.base at ((are other.base at).1 (live_base_at memory at other here also)) before

            ordered : (other.base + extent other ≤ found.base) ⊎ (found.base + extent found ≤ other.base) → other.base + extent other ≤ block.base
            ordered (inl ends) = let end = behind lives fits in let some = some_extent found in omega (arith, ends, end, some)
            ordered (inr over) = let some = some_extent found in let low = least in absurd (omega (arith, over, some, low, begins))

            by_number : (at ≡ number) ⊎ (at ≡ number → ⊥) → other.base + extent other ≤ block.base
            by_number (inl same) =
                let one : other ≡ found = same_Some other found (sym here ∙ ap (slice_get memory) same ∙ stands) in
                subst (λ (b : Block). b.base + extent b ≤ block.base) (sym one) (behind lives fits)
            by_number (inr differ) = ordered (ends_first other found (beside memory valid at number other found differ here stands) also alive)

        there : fits_there block (slice_get memory number) ≡ true → list_all (are_compatible block) memory ≡ true
        there fits = fits_each memory block (each (sym (ap (fits_there block) stands) ∙ fits))

-- no live block begins where one may be put that lives
pub base_free : (memory : List Block) (bases : BTreeMap ℕ ℕ) (block : Block) → AreBases (live_bases (heads memory)) bases → can_be_placed memory block ≡ true → block.live ≡ true →
    get nat_cmp bases block.base ≡ None
base_free memory bases block are lies lives = at (get nat_cmp bases block.base) refl
  where
    all : list_all (are_compatible block) memory ≡ true
    all = (and_parts (is_placed block) (list_all (are_compatible block) memory) lies).1

    at : (found : Option ℕ) → get nat_cmp bases block.base ≡ found → found ≡ None
    at None has = refl
    at (Some number) has = absurd (there (begins_at memory number block.base ((are block.base number).0 has)))
      where
        over : (other : Block) → other.base ≡ block.base → (block.base + extent block ≤ other.base) ⊎ (other.base + extent other ≤ block.base) → ⊥
        over other same (inl before) = let some = some_extent block in absurd (omega (arith, before, some, same))
        over other same (inr behind) = let some = some_extent other in absurd (omega (arith, behind, some, same))

        there : ((other : Block) × (slice_get memory number ≡ Some other) × (other.live ≡ true) × (other.base ≡ block.base)) → ⊥
        there (other, stands, also, same) = over other same (ends_first block other (passes_at (are_compatible block) memory all number other stands) lives also)
