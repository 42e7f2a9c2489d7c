use Rattle.std.proofs.Common.{List, Bool, subst}
use Rattle.esr_core.specs.Entry.{Moment}
use Rattle.esr_handle.specs.Turned.{Seen, Homed}
use Rattle.esr_handle.proofs.Growing.{begins_came}
use Rattle.esr_handle.proofs.Turns.{has_grown, may_come, is_homed, is_seated}
use Rattle.esr_handle.proofs.seat.TurnEndEnds.home.Goals as goal

pub invariant_of-value : goal.invariant_of-value
invariant_of-value g c =
    (c.self.invariant.1, begins_came g.B.Since.before c.self.inside.lent.turn (g.Q.Desk.seen c.self.inside.lent.desk) c.self.inside.is_told c.self.invariant.3, c.self.invariant.2)

pub home-pass-requires-clause-grown : goal.home-pass-requires-clause-grown
home-pass-requires-clause-grown g c = has_grown g.B.Since.before c.self.inside.lent.turn (g.Q.Desk.seen c.self.inside.lent.desk) c.self.inside.is_told c.self.invariant.3

pub home-pass-requires-clause-may : goal.home-pass-requires-clause-may
home-pass-requires-clause-may g c = may_come g.B.Since.before c.self.inside.lent.turn (g.Q.Desk.seen c.self.inside.lent.desk) c.self.inside.is_told c.self.invariant.3

pub invariant_of-result : goal.invariant_of-result
invariant_of-result g c =
    is_seated g.B.Since.before c.self.inside.lent.turn (g.Q.Desk.seen c.self.inside.lent.desk) c.home-pass.result c.self.invariant.0.below c.home-pass.ensures.seen c.home-pass.ensures.mine
    g.Q.Desk.start g.W.Share.lock c.self.inside.lent.lock.now g.W.Share.total c.self.inside.is_told
    c.self.invariant.0 c.self.invariant.3 c.home-pass.ensures.own c.home-pass.ensures.turns c.is_legal.ensures.legal c.never_fails.ensures

pub returns-clause-pass : goal.returns-clause-pass
returns-clause-pass g c =
    subst (λ (z : Seen × List Moment × Bool). Homed g.B.Since.before z.0 z.1 c.home-pass.result) c.self.view_is
    (is_homed g.B.Since.before c.self.inside.lent.turn (g.Q.Desk.seen c.self.inside.lent.desk) c.home-pass.result c.self.invariant.0.below c.home-pass.ensures.seen c.home-pass.ensures.mine c.self.inside.is_told c.self.invariant.3)
