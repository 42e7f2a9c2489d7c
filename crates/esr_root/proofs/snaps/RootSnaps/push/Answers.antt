use Rattle.std.proofs.Common.{◌≡◌, List, false, sym, subst}
use Rattle.std.specs.List.{list_any}
use Rattle.esr_root.specs.Snaps.{AreSnaps, clashes}
use Rattle.esr_root.specs.declared.snaps.RootSnap.{RootSnap}
use Rattle.esr_root.specs.Lists.{pushed}
use Rattle.esr_root.specs.RootLists.{AreSnaps-push}
use Rattle.esr_root.proofs.snaps.RootSnaps.push.Goals as goal

pub invariant_of-self : goal.invariant_of-self
invariant_of-self c =
    let fresh = subst (λ (ss : List RootSnap). list_any (λ old. clashes old c.args.snap) ss ≡ false) (sym c.self.view_is) c.requires in
    pushed AreSnaps c.push.result c.self.inside.items c.push.new.self c.args.snap c.push.ensures.ok c.push.ensures.err c.self.invariant
    (AreSnaps-push c.self.inside.items c.args.snap c.self.invariant c.rule.ensures fresh)
