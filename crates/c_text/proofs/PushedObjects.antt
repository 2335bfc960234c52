-- Objects are pushed one by one.
use Rattle.std.proofs.Common.{◌≡◌, Bool, true, false, ◌&&◌, List, [], ◌∷◌, ◌++◌, map, Option, None, Some, option_map, option_and_then, refl, sym, ap, ◌∙◌, append_assoc, if◌then◌else◌}
use Rattle.std.specs.List.{list_all}
use Rattle.c_machine.specs.declared.object.Object.{Object}
use Rattle.c_text.specs.Kept.{is_sized, sized, kept_objects, all_there, IsPushed}

-- one object, and then others
pushed_one : (before : List Object) (object : Option Object) (whole : Bool) (between : List Object) (rest : List (Option Object)) →
    IsPushed before (object ∷ []) whole between →
    option_map (λ (more : List Object). before ++ more) (all_there (object ∷ rest))
    ≡ (if whole then option_map (λ (more : List Object). between ++ more) (all_there rest) else None)
pushed_one before None true between rest is = absurd cc
pushed_one before None false between rest is = refl
pushed_one before (Some object) true between rest is =
    at (all_there rest) ∙ ap (λ (front : List Object). option_map (λ (more : List Object). front ++ more) (all_there rest)) (pushed is)
  where
    pushed : Some (before ++ object ∷ []) ≡ Some between → before ++ object ∷ [] ≡ between
    pushed is = cc

    at : (found : Option (List Object)) →
        option_map (λ (more : List Object). before ++ more) (option_map (λ (objects : List Object). object ∷ objects) found)
        ≡ option_map (λ (more : List Object). (before ++ object ∷ []) ++ more) found
    at None = refl
    at (Some more) = ap Some (sym (append_assoc before (object ∷ []) more))
pushed_one before (Some object) false between rest is = absurd cc

pub one_more : (before : List Object) (object : Option Object) (between : List Object) (rest : List (Option Object)) → IsPushed before (object ∷ []) true between →
    option_map (λ (more : List Object). before ++ more) (all_there (object ∷ rest)) ≡ option_map (λ (more : List Object). between ++ more) (all_there rest)
one_more before object between rest is = pushed_one before object true between rest is

pub one_lacks : (before : List Object) (object : Option Object) (between : List Object) (rest : List (Option Object)) → IsPushed before (object ∷ []) false between →
    option_map (λ (more : List Object). before ++ more) (all_there (object ∷ rest)) ≡ None
one_lacks before object between rest is = pushed_one before object false between rest is

-- all objects whose sizes are kept
pub all_kept : (objects : List Object) → all_there (map sized objects) ≡ kept_objects objects
all_kept [] = refl
all_kept (object ∷ rest) = at (is_sized object) (list_all is_sized rest) (all_kept rest)
  where
    at : (fits fit : Bool) → all_there (map sized rest) ≡ (if fit then Some rest else None) →
        all_there ((if fits then Some object else None) ∷ map sized rest) ≡ (if fits && fit then Some (object ∷ rest) else None)
    at true true is = ap (option_map (λ (objects : List Object). object ∷ objects)) is
    at true false is = ap (option_map (λ (objects : List Object). object ∷ objects)) is
    at false fit is = refl

all_mapped : {A : Type 0} (f : A → Object) (xs : List A) → all_there (map (λ (x : A). sized (f x)) xs) ≡ all_there (map sized (map f xs))
all_mapped {A} f [] = refl
all_mapped {A} f (x ∷ xs) = at (sized (f x)) (all_mapped f xs)
  where
    at : (object : Option Object) → all_there (map (λ (x : A). sized (f x)) xs) ≡ all_there (map sized (map f xs)) →
        all_there (object ∷ map (λ (x : A). sized (f x)) xs) ≡ all_there (object ∷ map sized (map f xs))
    at None is = refl
    at (Some object) is = ap (option_map (λ (objects : List Object). object ∷ objects)) is

-- a list that was empty
pub pushed_whole : {A : Type 0} (f : A → Object) (xs : List A) (whole : Bool) (after : List Object) → IsPushed [] (map (λ (x : A). sized (f x)) xs) whole after →
    (if whole then Some after else None) ≡ kept_objects (map f xs)
pushed_whole {A} f xs whole after is = sym is ∙ none_before (all_there (map (λ (x : A). sized (f x)) xs)) ∙ all_mapped f xs ∙ all_kept (map f xs)
  where
    none_before : (found : Option (List Object)) → option_map (λ (more : List Object). [] ++ more) found ≡ found
    none_before None = refl
    none_before (Some more) = refl

-- two lists, one behind the other
all_append : (xs ys : List (Option Object)) →
    all_there (xs ++ ys) ≡ option_and_then (λ (front : List Object). option_map (λ (more : List Object). front ++ more) (all_there ys)) (all_there xs)
all_append [] ys = none_before (all_there ys)
  where
    none_before : (found : Option (List Object)) → found ≡ option_map (λ (more : List Object). [] ++ more) found
    none_before None = refl
    none_before (Some more) = refl
all_append (None ∷ xs) ys = refl
all_append (Some object ∷ xs) ys =
    ap (option_map (λ (objects : List Object). object ∷ objects)) (all_append xs ys) ∙ at (all_there xs) (all_there ys)
  where
    with_front : Option (List Object) → Option (List Object) → Option (List Object)
    with_front found others = option_and_then (λ (front : List Object). option_map (λ (more : List Object). front ++ more) others) found

    at : (found others : Option (List Object)) →
        option_map (λ (objects : List Object). object ∷ objects) (with_front found others)
        ≡ with_front (option_map (λ (objects : List Object). object ∷ objects) found) others
    at None others = refl
    at (Some front) None = refl
    at (Some front) (Some more) = refl

pub pushed_both : (one other : List (Option Object)) (between : List Object) (whole : Bool) (after : List Object) → IsPushed [] one true between →
    IsPushed between other whole after → IsPushed [] (one ++ other) whole after
pushed_both one other between whole after is also =
    ap (option_map (λ (more : List Object). [] ++ more)) (all_append one other) ∙ at (all_there one) (all_there other) is also
  where
    with_front : Option (List Object) → Option (List Object) → Option (List Object)
    with_front found others = option_and_then (λ (front : List Object). option_map (λ (more : List Object). front ++ more) others) found

    at : (found others : Option (List Object)) → option_map (λ (more : List Object). [] ++ more) found ≡ Some between →
        option_map (λ (more : List Object). between ++ more) others ≡ (if whole then Some after else None) →
        option_map (λ (more : List Object). [] ++ more) (with_front found others) ≡ (if whole then Some after else None)
    at None others is also = absurd cc
    at (Some front) None is also = also
    at (Some front) (Some more) is also =
        let same : front ≡ between = cc in
        ap (λ (front : List Object). Some (front ++ more)) same ∙ also

pub front_lacks : (one other : List (Option Object)) (between after : List Object) → IsPushed [] one false between → IsPushed [] (one ++ other) false after
front_lacks one other between after is = ap (option_map (λ (more : List Object). [] ++ more)) (all_append one other) ∙ at (all_there one) (all_there other) is
  where
    with_front : Option (List Object) → Option (List Object) → Option (List Object)
    with_front found others = option_and_then (λ (front : List Object). option_map (λ (more : List Object). front ++ more) others) found

    at : (found others : Option (List Object)) → option_map (λ (more : List Object). [] ++ more) found ≡ None →
        option_map (λ (more : List Object). [] ++ more) (with_front found others) ≡ None
    at None others is = refl
    at (Some front) others is = absurd cc
