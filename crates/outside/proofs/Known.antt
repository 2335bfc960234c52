-- Known bytes over calls that follow each other.
use Rattle.std.proofs.Common.{ℕ, List, [], Option, None, Some, refl, sym, ◌∙◌}
use Rattle.std.proofs.lemmas.List.{append-nil}
use Rattle.std.specs.Io.KnownBytes.{Appends, Consumes, Keeps}

-- nothing was done
pub keeps_same : (a : Option (List ℕ)) → Keeps a a
keeps_same None = tt
keeps_same (Some xs) = refl

-- one call behind another, and neither took or put a byte
pub keeps_again : (a b c : Option (List ℕ)) → Keeps a b → Keeps b c → Keeps a c
keeps_again None b c first second = tt
keeps_again (Some xs) None c first second = absurd first
keeps_again (Some xs) (Some ys) None first second = absurd second
keeps_again (Some xs) (Some ys) (Some zs) first second = second ∙ first

-- a read behind calls that took no byte
pub keeps_taken : (a b c : Option (List ℕ)) (bytes : List ℕ) → Keeps a b → Consumes b c bytes → Consumes a c bytes
keeps_taken None b c bytes first second = tt
keeps_taken (Some xs) None c bytes first second = absurd first
keeps_taken (Some xs) (Some ys) None bytes first second = absurd second
keeps_taken (Some xs) (Some ys) (Some zs) bytes first second = sym first ∙ second

-- a write behind calls that put no byte
pub keeps_put : (a b c : Option (List ℕ)) (bytes : List ℕ) → Keeps a b → Appends b c bytes → Appends a c bytes
keeps_put None b c bytes first second = tt
keeps_put (Some xs) None c bytes first second = absurd first
keeps_put (Some xs) (Some ys) None bytes first second = absurd second
keeps_put (Some xs) (Some ys) (Some zs) bytes first second = rw (sym first) second

-- a read of no byte
pub taken_nothing : (a b : Option (List ℕ)) → Consumes a b [] → Keeps a b
taken_nothing None b taken = tt
taken_nothing (Some xs) None taken = absurd taken
taken_nothing (Some xs) (Some ys) taken = sym taken

-- a write of no byte
pub put_nothing : (a b : Option (List ℕ)) → Appends a b [] → Keeps a b
put_nothing None b put = tt
put_nothing (Some xs) None put = absurd put
put_nothing (Some xs) (Some ys) put = put ∙ append-nil xs
