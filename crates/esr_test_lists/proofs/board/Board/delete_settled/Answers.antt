use Rattle.std.proofs.Common.{sym, ap}
use Rattle.std.specs.Prelude.{is_some}
use Rattle.esr_ops.specs.Plan.{seat_of_code, kind_of_code}
use Rattle.esr_test_lists.proofs.Boards.{settling_delete, of_delete, renewed}
use Rattle.esr_test_lists.proofs.board.Board.delete_settled.Goals as goal

pub delete_settled-requires : goal.delete_settled-requires
delete_settled-requires c = ap is_some (sym c.in-Some.ensures)

pub invariant_of-self : goal.invariant_of-self
invariant_of-self c =
    renewed (settling_delete c.self.invariant c.in_ok-list.list c.args.ticket (seat_of_code c.in-Some.seat) c.in-Some-raised._generation c.in-Some.ensures c.in-Some-raised.is
    (of_delete (kind_of_code c.in-Some.seat.kind) c.is_no_delete.result c.is_no_delete.ensures c.if-is_no_delete.false) c.in_ok-list.ensures) c.renew.new.list c.renew.ensures
