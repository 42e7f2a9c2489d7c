use Rattle.std.proofs.Common.{sym, ap}
use Rattle.std.specs.Prelude.{is_some}
use Rattle.esr_ops.specs.Plan.{seat_of_code, kind_of_code}
use Rattle.esr_test_lists.proofs.Boards.{settling, of_finalize, renewed}
use Rattle.esr_test_lists.proofs.board.Board.settled.Goals as goal

pub finalized-requires : goal.finalized-requires
finalized-requires c = ap is_some (sym c.in-Some.ensures)

pub invariant_of-self : goal.invariant_of-self
invariant_of-self c =
    renewed (settling c.self.invariant c.in_ok-list.list c.args.ticket (seat_of_code c.in-Some.seat) c.in-Some-raised._generation c.in-Some.ensures c.in-Some-raised.is
    (of_finalize (kind_of_code c.in-Some.seat.kind) c.is_unfinal.result c.is_unfinal.ensures c.if-is_unfinal.false) c.in_ok-list.ensures) c.renew.new.list c.renew.ensures
