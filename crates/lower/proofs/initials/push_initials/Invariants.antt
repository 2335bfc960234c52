-- What is left stands behind what stands there.
use Rattle.std.proofs.Common.{◌≡◌, ◌++◌, drop, option_map}
use Rattle.c_machine.specs.Program.{Program}
use Rattle.c_machine.specs.Trees.{text_of}
use Rattle.lowering.specs.Initials.{initials_within, joined_all}
use Rattle.lowering.specs.Source.{IsSource}
use Rattle.lower.proofs.initials.push_initials.Given as goal

abbrev pub invariant-loop-set : goal.invariant-loop-set
invariant-loop-set l = (p : Program) → IsSource l.source p → (text_of p).statics ≡ l.objects →
    option_map (λ more. l.initials ++ more) (joined_all (λ set. initials_within (text_of p).enough (text_of p) l.statics set.place set.init) (drop l.set-index l.sets))
    ≡ option_map (λ more. l.fn.initials ++ more) (joined_all (λ set. initials_within (text_of p).enough (text_of p) l.statics set.place set.init) l.sets)
