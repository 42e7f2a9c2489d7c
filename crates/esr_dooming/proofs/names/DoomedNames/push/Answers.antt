use Rattle.std.specs.List.{AllByRecursion}
use Rattle.esr_names.specs.Layout.{IsName}
use Rattle.esr_root.specs.Lists.{pushed, all_push}
use Rattle.esr_dooming.proofs.names.DoomedNames.push.Goals as goal

pub invariant_of-self : goal.invariant_of-self
invariant_of-self c =
    pushed (AllByRecursion IsName) c.push.result c.self.inside.items c.push.new.self c.args.name c.push.ensures.ok c.push.ensures.err c.self.invariant
    (all_push IsName c.self.inside.items c.args.name c.self.invariant c.requires)
