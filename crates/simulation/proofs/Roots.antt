-- Alike states lose the same memory.
use Rattle.std.proofs.Common.{◌≡◌, ℕ, zero, suc, List, [], ◌∷◌, ◌++◌, Bool, true, false, refl, sym, ap, subst, ◌∙◌, arith, ◌⊎◌, ⊎_elim, inl, inr, Some, nat_eq, if◌then◌else◌, Contains}
use Rattle.std.proofs.lemmas.Bool.{false≢true}
use Rattle.std.proofs.lemmas.Option.{same_Some, none-some}
use Rattle.std.proofs.lemmas.List.Elements.{Contains-append_left, Contains-append_right, Contains-append_cases}
use Rattle.bytes_core.specs.declared.block.Block.{Block}
use Rattle.bytes_core.specs.declared.word.Word.{Word}
use Rattle.bytes_core.specs.declared.word.Word.TheVariants.{Plain, To}
use Rattle.bytes_core.specs.Loss.{Chain, Root, Link, is_lost}
use Rattle.bytes_core.proofs.Chains.{lost_by_chains}
use Rattle.c_machine.specs.State.{led_to}
use Rattle.flow.specs.Holding.{Held, held_by}
use Rattle.flow.specs.Machine as graph
use Rattle.simulation.specs.Slots.{Slot, InRegister, KnownAs, Truth, Gone, is_whole, Stands, Among, IsPlain, AreRooted}
use Rattle.simulation.specs.Worlds.{AreSame}

-- members of lists
pub first_in : (xs : List ℕ) (x y : ℕ) → x ≡ y → Contains (x ∷ xs) y
first_in xs x y same = (0, omega arith, same)

pub behind_in : (xs : List ℕ) (x y : ℕ) → Contains xs y → Contains (x ∷ xs) y
behind_in xs x y (at, below, is) = (suc at, omega arith, is)

pub in_cons : (xs : List ℕ) (x y : ℕ) → Contains (x ∷ xs) y → (x ≡ y) ⊎ Contains xs y
in_cons xs x y (zero, below, is) = inl is
in_cons xs x y (suc at, below, is) = inr (at, omega arith, is)

pub in_none : (y : ℕ) → Contains [] y → ⊥
in_none y (at, below, is) = absurd (omega arith)

-- the same roots lose the same memory
chain_same : (memory : List Block) (one other : List ℕ) → ((block : ℕ) → Contains one block → Contains other block) → (target : ℕ) → Chain memory one target → Chain memory other target
chain_same memory one other within target (Root target' there) = Root target (within target there)
chain_same memory one other within target (Link number target' block chain stands live holds) =
    Link number target block (chain_same memory one other within number chain) stands live holds

lost_more : (memory : List Block) (one other : List ℕ) → ((block : ℕ) → Contains one block → Contains other block) → is_lost memory other ≡ true → is_lost memory one ≡ true
lost_more memory one other within lost =
    let found = (lost_by_chains memory other).0 lost in
    (lost_by_chains memory one).1 (
      found.0,
      found.1,
      record {
        stands = found.2.stands;
        allocated = found.2.allocated;
        live = found.2.live;
        unreached = λ chain. found.2.unreached (chain_same memory one other within found.0 chain);
      },
    )

same_bool : (one other : Bool) → (one ≡ true → other ≡ true) → (other ≡ true → one ≡ true) → one ≡ other
same_bool true other there back = sym (there refl)
same_bool false true there back = back refl
same_bool false false there back = refl

pub lost_same : (memory : List Block) (one other : List ℕ) → AreSame one other → is_lost memory one ≡ is_lost memory other
lost_same memory one other same =
    same_bool (is_lost memory one) (is_lost memory other) (lost_more memory other one (λ block. (same block).1)) (lost_more memory one other (λ block. (same block).0))

-- what operands lead to, registers lead to
led_behind : (word : Word) (words : List Word) (block : ℕ) → Contains (led_to words) block → Contains (led_to (word ∷ words)) block
led_behind (Plain number) words block there = there
led_behind (To other offset) words block there = behind_in (led_to words) other block there

led_cases : (word : Word) (words : List Word) (block : ℕ) → Contains (led_to (word ∷ words)) block → ((offset : _) × (word ≡ To block offset)) ⊎ Contains (led_to words) block
led_cases (Plain number) words block there = inr there
led_cases (To other offset) words block there = by_place (in_cons (led_to words) other block there)
  where
    by_place : (other ≡ block) ⊎ Contains (led_to words) block → ((offset' : _) × (To other offset ≡ To block offset')) ⊎ Contains (led_to words) block
    by_place (inl same) = inl (offset, ap (λ (b : ℕ). To b offset) same)
    by_place (inr there) = inr there

registers_lead : (registers : List Held) (register block : ℕ) (offset : _) (held : Held) → held_by registers register ≡ Some held → held.word ≡ To block offset →
    Contains (graph.blocks_of registers) block
registers_lead [] register block offset held found leads = absurd (none-some held found)
registers_lead (first ∷ rest) register block offset held found leads =
    by_test (nat_eq first.register register) found (λ is. registers_lead rest register block offset held is leads)
  where
    behind : (word : Word) → Contains (graph.blocks_of rest) block → Contains (graph.with_block_of word (graph.blocks_of rest)) block
    behind (Plain number) there = there
    behind (To other offset') there = behind_in (graph.blocks_of rest) other block there

    by_test : (here : Bool) → (if here then Some first else held_by rest register) ≡ Some held →
        (held_by rest register ≡ Some held → Contains (graph.blocks_of rest) block) → Contains (graph.with_block_of first.word (graph.blocks_of rest)) block
    by_test true is more =
        let same : first.word ≡ To block offset = ap (λ (h : Held). h.word) (same_Some first held is) ∙ leads in
        subst (λ (w : Word). Contains (graph.with_block_of w (graph.blocks_of rest)) block) (sym same) (first_in (graph.blocks_of rest) block block refl)
    by_test false is more = behind first.word (more is)

pub operands_lead : (memory : List Block) (registers : List Held) (slots : List Slot) (words : List Word) → is_whole slots ≡ true → Stands memory registers slots words →
    (block : ℕ) → Contains (led_to words) block → Contains (graph.blocks_of registers) block
operands_lead memory registers [] [] whole stands block there = absurd (in_none block there)
operands_lead memory registers [] (word ∷ words) whole stands block there = absurd stands
operands_lead memory registers (slot ∷ slots) [] whole stands block there = absurd stands
operands_lead memory registers (InRegister register size plain ∷ slots) (word ∷ words) whole stands block there =
    by_word (led_cases word words block there) (operands_lead memory registers slots words whole stands.2 block)
  where
    by_word : ((offset : _) × (word ≡ To block offset)) ⊎ Contains (led_to words) block → (Contains (led_to words) block → Contains (graph.blocks_of registers) block) →
        Contains (graph.blocks_of registers) block
    by_word (inl leads) more = registers_lead registers register block leads.0 (record { register = register; size = size; word = word }) stands.0 leads.1
    by_word (inr behind) more = more behind
operands_lead memory registers (KnownAs number ∷ slots) (word ∷ words) whole stands block there =
    operands_lead memory registers slots words whole stands.1 block (subst (λ (w : Word). Contains (led_to (w ∷ words)) block) stands.0 there)
operands_lead memory registers (Truth holds ∷ slots) (word ∷ words) whole stands block there = absurd (false≢true whole)
operands_lead memory registers (Gone ∷ slots) (word ∷ words) whole stands block there = absurd (false≢true whole)

among_leads : (slots : List Slot) (words : List Word) (held : Held) (block : ℕ) (offset : _) → Among slots words held → held.word ≡ To block offset → Contains (led_to words) block
among_leads [] words held block offset among leads = absurd among
among_leads (slot ∷ slots) [] held block offset among leads = absurd among
among_leads (InRegister register size plain ∷ slots) (word ∷ words) held block offset (inl same) leads =
    subst (λ (w : Word). Contains (led_to (w ∷ words)) block) (sym (same.1 ∙ leads)) (first_in (led_to words) block block refl)
among_leads (InRegister register size plain ∷ slots) (word ∷ words) held block offset (inr among) leads =
    led_behind word words block (among_leads slots words held block offset among leads)
among_leads (KnownAs number ∷ slots) (word ∷ words) held block offset among leads = led_behind word words block (among_leads slots words held block offset among leads)
among_leads (Truth holds ∷ slots) (word ∷ words) held block offset among leads = led_behind word words block (among_leads slots words held block offset among leads)
among_leads (Gone ∷ slots) (word ∷ words) held block offset among leads = led_behind word words block (among_leads slots words held block offset among leads)

pub leads_back : (registers : List Held) (slots : List Slot) (words : List Word) → AreRooted slots words registers → (block : ℕ) → Contains (graph.blocks_of registers) block →
    Contains (led_to words) block
leads_back [] slots words rooted block there = absurd (in_none block there)
leads_back (first ∷ rest) slots words rooted block there = by_word first.word refl there (leads_back rest slots words rooted.1 block)
  where
    by_root : (offset : _) → first.word ≡ To block offset → IsPlain first.word ⊎ Among slots words first → Contains (led_to words) block
    by_root offset leads (inl plain) = absurd (subst IsPlain leads plain)
    by_root offset leads (inr among) = among_leads slots words first block offset among leads

    by_place : (other : ℕ) (offset : _) → first.word ≡ To other offset → (other ≡ block) ⊎ Contains (graph.blocks_of rest) block →
        (Contains (graph.blocks_of rest) block → Contains (led_to words) block) → Contains (led_to words) block
    by_place other offset leads (inl same) more = by_root offset (leads ∙ ap (λ (b : ℕ). To b offset) same) rooted.0
    by_place other offset leads (inr behind) more = more behind

    by_word : (word : Word) → first.word ≡ word → Contains (graph.with_block_of word (graph.blocks_of rest)) block →
        (Contains (graph.blocks_of rest) block → Contains (led_to words) block) → Contains (led_to words) block
    by_word (Plain number) is there' more = more there'
    by_word (To other offset) is there' more = by_place other offset is (in_cons (graph.blocks_of rest) other block there') more

-- and so the roots of alike states are the same
pub same_all : (a b c d a' d' s' k' o' : List ℕ) → AreSame a a' → AreSame (b ++ c) (s' ++ (k' ++ o')) → AreSame d d' →
    AreSame (a ++ (b ++ (c ++ d))) (s' ++ ((a' ++ d') ++ (k' ++ o')))
same_all a b c d a' d' s' k' o' objects others held x = (there, back)
  where
    from_others : Contains (s' ++ (k' ++ o')) x → Contains (s' ++ ((a' ++ d') ++ (k' ++ o'))) x
    from_others is = ⊎_elim (Contains-append_left s' ((a' ++ d') ++ (k' ++ o')) x)
        (λ is'. Contains-append_right s' ((a' ++ d') ++ (k' ++ o')) x (Contains-append_right (a' ++ d') (k' ++ o') x is')) (Contains-append_cases s' (k' ++ o') x is)

    from_frame : Contains (a' ++ d') x → Contains (s' ++ ((a' ++ d') ++ (k' ++ o'))) x
    from_frame is = Contains-append_right s' ((a' ++ d') ++ (k' ++ o')) x (Contains-append_left (a' ++ d') (k' ++ o') x is)

    into_others : Contains (b ++ c) x → Contains (a ++ (b ++ (c ++ d))) x
    into_others is = Contains-append_right a (b ++ (c ++ d)) x (⊎_elim (Contains-append_left b (c ++ d) x)
        (λ is'. Contains-append_right b (c ++ d) x (Contains-append_left c d x is')) (Contains-append_cases b c x is))

    into_held : Contains d x → Contains (a ++ (b ++ (c ++ d))) x
    into_held is = Contains-append_right a (b ++ (c ++ d)) x (Contains-append_right b (c ++ d) x (Contains-append_right c d x is))

    by_last : Contains c x ⊎ Contains d x → Contains (s' ++ ((a' ++ d') ++ (k' ++ o'))) x
    by_last (inl is) = from_others ((others x).0 (Contains-append_right b c x is))
    by_last (inr is) = from_frame (Contains-append_right a' d' x ((held x).0 is))

    by_caller : Contains b x ⊎ Contains (c ++ d) x → Contains (s' ++ ((a' ++ d') ++ (k' ++ o'))) x
    by_caller (inl is) = from_others ((others x).0 (Contains-append_left b c x is))
    by_caller (inr is) = by_last (Contains-append_cases c d x is)

    by_object : Contains a x ⊎ Contains (b ++ (c ++ d)) x → Contains (s' ++ ((a' ++ d') ++ (k' ++ o'))) x
    by_object (inl is) = from_frame (Contains-append_left a' d' x ((objects x).0 is))
    by_object (inr is) = by_caller (Contains-append_cases b (c ++ d) x is)

    there : Contains (a ++ (b ++ (c ++ d))) x → Contains (s' ++ ((a' ++ d') ++ (k' ++ o'))) x
    there is = by_object (Contains-append_cases a (b ++ (c ++ d)) x is)

    back_frame : Contains a' x ⊎ Contains d' x → Contains (a ++ (b ++ (c ++ d))) x
    back_frame (inl is) = Contains-append_left a (b ++ (c ++ d)) x ((objects x).1 is)
    back_frame (inr is) = into_held ((held x).1 is)

    back_rest : Contains (a' ++ d') x ⊎ Contains (k' ++ o') x → Contains (a ++ (b ++ (c ++ d))) x
    back_rest (inl is) = back_frame (Contains-append_cases a' d' x is)
    back_rest (inr is) = into_others ((others x).1 (Contains-append_right s' (k' ++ o') x is))

    back_first : Contains s' x ⊎ Contains ((a' ++ d') ++ (k' ++ o')) x → Contains (a ++ (b ++ (c ++ d))) x
    back_first (inl is) = into_others ((others x).1 (Contains-append_left s' (k' ++ o') x is))
    back_first (inr is) = back_rest (Contains-append_cases (a' ++ d') (k' ++ o') x is)

    back : Contains (s' ++ ((a' ++ d') ++ (k' ++ o'))) x → Contains (a ++ (b ++ (c ++ d))) x
    back is = back_first (Contains-append_cases s' ((a' ++ d') ++ (k' ++ o')) x is)
