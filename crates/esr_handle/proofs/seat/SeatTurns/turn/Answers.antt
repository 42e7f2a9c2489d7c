use Rattle.std.proofs.Common.{Bool, length, drop, ap, ◌∙◌, subst}
use Rattle.esr_handle.specs.Turned.{IsSeat, Turned, Seated}
use Rattle.esr_handle.proofs.Turns.{is_turned, is_lent}
use Rattle.esr_handle.proofs.seat.SeatTurns.turn.Goals as goal

pub returns-clause-lent : goal.returns-clause-lent
returns-clause-lent g c =
    is_lent g.Q.Desk.start g.B.Since.before g.W.Share.lock c.self.inside.lock.now g.W.Share.total c.self.inside.pass c.turn-held.result.turn
    (subst (λ (b : Bool). IsSeat g.Q.Desk.start g.B.Since.before g.W.Share.lock g.W.Share.total c.self.inside.lock.now b c.self.inside.pass) (ap (λ (z : Seated). z.is_over) c.self.view_is ∙ c.requires.1) c.self.invariant)
    c.turn-held.ensures.own c.turn-held.ensures.seen c.turn-held.ensures.mine c.turn-held.ensures.turns

pub returns-clause-turned : goal.returns-clause-turned
returns-clause-turned g c = subst (λ (z : Seated). Turned g.Q.Desk.start g.B.Since.before z.pass c.turn-held.result.turn (g.Q.Desk.seen c.value.inside.desk)) c.self.view_is
    (is_turned g.Q.Desk.start g.B.Since.before c.self.inside.pass c.turn-held.result.turn (g.Q.Desk.seen c.value.inside.desk) (ap (drop (length g.B.Since.before)) c.value.view_is ∙ c.turn-held.ensures.value) c.value.invariant.1
    c.turn-held.ensures.seen c.turn-held.ensures.mine c.turn-held.ensures.together
    c.self.invariant.fit c.is_legal.ensures.legal c.is_legal.ensures.numbered c.value.invariant.2 c.each_step_leaves_the_others.ensures.frame c.each_ticket_is_given_once.ensures.below)

pub returns-clause-base : goal.returns-clause-base
returns-clause-base g c = c.value.invariant.0
