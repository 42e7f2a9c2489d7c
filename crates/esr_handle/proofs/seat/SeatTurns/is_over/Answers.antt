use Rattle.std.proofs.Common.{◌≡◌, ◌+◌, ◌≤◌, ◌^◌, ◌++◌, length, false, subst}
use Rattle.esr_handle.specs.Turned.{Seated}
use Rattle.esr_handle.proofs.Turns.{spends}
use Rattle.esr_handle.proofs.seat.SeatTurns.is_over.Goals as goal

pub returns-clause-spent : goal.returns-clause-spent
returns-clause-spent g c =
    subst (λ (z : Seated). c.self.inside.is_over ≡ false → z.pass.left ≡ 0 → 2 ^ 33 ≤ g.Q.Desk.start.earlier_turns + length (g.B.Since.before ++ z.pass.seen)) c.self.view_is
    (spends g.Q.Desk.start g.B.Since.before g.W.Share.lock _ g.W.Share.total c.self.inside.is_over c.self.inside.pass c.self.invariant)
