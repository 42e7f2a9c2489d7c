use Rattle.std.proofs.Common.{sym, ap}
use Rattle.std.specs.Prelude.{is_some}
use Rattle.esr_test_lists.proofs.Boards.{failed, renewed}
use Rattle.esr_test_lists.proofs.board.Board.unit_failed.Goals as goal

pub unit_failed-requires : goal.unit_failed-requires
unit_failed-requires c = ap is_some (sym c.in-Some.ensures)

pub invariant_of-self : goal.invariant_of-self
invariant_of-self c =
    renewed (failed c.self.invariant c.in_ok-list.list c.args.ticket c.in_ok-list.ensures) c.renew.new.list c.renew.ensures
