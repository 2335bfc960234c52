-- The way along linked items of one key.
use Rattle.std.proofs.Common.{◌≡◌, ℕ, ◌<◌, ◌≤◌, ◌-◌, List, Option, refl, sym, ap, subst, ◌∙◌, inl, inr, length, get_or, arith}
use Rattle.std.proofs.lemmas.Bool.{cases_lt}
use Rattle.driver.specs.Linked.{HasKey, SaysLast, AreLinked}
use Rattle.driver.specs.Peers.{IsWalked}
use Rattle.driver.proofs.Linking.{key_within}

pub walked_first : (keys : List (Option ℕ)) (newest before : List ℕ) (key : ℕ) (Fails : ℕ → Type 0) → AreLinked keys newest before → IsWalked keys key Fails (get_or newest key 0)
walked_first keys newest before key Fails linked = record {
  none = λ number from has.
      let within : number < length keys = key_within keys key number has in
      let less : number < get_or newest key 0 = (linked.heads key).all number within has in absurd (omega arith);
  there = (linked.heads key).there;
}

pub walked_next : (keys : List (Option ℕ)) (newest before : List ℕ) (key : ℕ) (Fails : ℕ → Type 0) (mark : ℕ) → AreLinked keys newest before → IsWalked keys key Fails mark → 0 < mark → Fails (mark - 1) →
    IsWalked keys key Fails (get_or before (mark - 1) 0)
walked_next keys newest before key Fails mark linked walked some fails =
    let here : HasKey keys key (mark - 1) = walked.there (mark - 1) (omega arith) in
    let last : SaysLast keys key (mark - 1) (get_or before (mark - 1) 0) = linked.items key (mark - 1) here in
    record {
      none = λ other from has. elim (cases_lt other (mark - 1)) [
        | inl less ↦ let below : other < get_or before (mark - 1) 0 = last.all other less has in absurd (omega arith)
        | inr more ↦ elim (cases_lt (mark - 1) other) [
          | inl past ↦ walked.none other (omega arith) has
          | inr same ↦ subst Fails (equal (mark - 1) other more same) fails
        ]
      ];
      there = last.there;
    }
  where
    equal : (one other : ℕ) → one ≤ other → other ≤ one → one ≡ other
    equal one other more same = omega arith

-- the way goes down
pub walked_less : (keys : List (Option ℕ)) (newest before : List ℕ) (key : ℕ) (Fails : ℕ → Type 0) (mark number : ℕ) → AreLinked keys newest before → IsWalked keys key Fails mark →
    0 < mark → number ≡ mark - 1 → get_or before number 0 < mark
walked_less keys newest before key Fails mark number linked walked some is =
    let last : SaysLast keys key number (get_or before number 0) = linked.items key number (walked.there number (omega (arith, is))) in
    let within : get_or before number 0 ≤ number = last.within in omega (arith, is)

-- the same as the code has it
pub walked_from : (keys : List (Option ℕ)) (newest before marks : List ℕ) (key first : ℕ) (Fails : ℕ → Type 0) → AreLinked keys newest before → marks ≡ newest → first ≡ get_or marks key 0 → IsWalked keys key Fails first
walked_from keys newest before marks key first Fails linked same is =
    subst (λ (n : ℕ). IsWalked keys key Fails n) (sym (is ∙ ap (λ (ms : List ℕ). get_or ms key 0) same)) (walked_first keys newest before key Fails linked)

pub walked_on : (keys : List (Option ℕ)) (newest before marks : List ℕ) (key : ℕ) (Fails : ℕ → Type 0) (mark next : ℕ) → AreLinked keys newest before → IsWalked keys key Fails mark → 0 < mark → Fails (mark - 1) →
    marks ≡ before → next ≡ get_or marks (mark - 1) 0 → IsWalked keys key Fails next
walked_on keys newest before marks key Fails mark next linked walked some fails same is =
    subst (λ (n : ℕ). IsWalked keys key Fails n) (sym (is ∙ ap (λ (ms : List ℕ). get_or ms (mark - 1) 0) same)) (walked_next keys newest before key Fails mark linked walked some fails)

pub walked_down : (keys : List (Option ℕ)) (newest before marks : List ℕ) (key : ℕ) (Fails : ℕ → Type 0) (mark next : ℕ) → AreLinked keys newest before → IsWalked keys key Fails mark → 0 < mark →
    marks ≡ before → next ≡ get_or marks (mark - 1) 0 → next < mark
walked_down keys newest before marks key Fails mark next linked walked some same is =
    let less : get_or before (mark - 1) 0 < mark = walked_less keys newest before key Fails mark (mark - 1) linked walked some refl in
    subst (λ (n : ℕ). n < mark) (sym (is ∙ ap (λ (ms : List ℕ). get_or ms (mark - 1) 0) same)) less
