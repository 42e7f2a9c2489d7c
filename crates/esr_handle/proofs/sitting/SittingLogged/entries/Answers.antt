use Rattle.std.proofs.Common.{◌≡◌, ◌-◌, List, length, drop, subst}
use Rattle.esr_core.specs.Entry.{Moment}
use Rattle.esr_handle.proofs.Growing.{entries_are}
use Rattle.esr_handle.proofs.sitting.SittingLogged.entries.Goals as goal

pub returns : goal.returns
returns g c =
    subst (λ (log : List Moment). 1099511627776 - c.left.result - c.self.inside.base ≡ length (drop (length g.B.Since.before) log)) c.self.view_is
    (entries_are g.B.Since.before (g.Q.Desk.seen c.self.inside.desk) c.self.invariant.1 c.self.inside.base c.left.result 1099511627776 c.self.invariant.0 c.left.ensures)
