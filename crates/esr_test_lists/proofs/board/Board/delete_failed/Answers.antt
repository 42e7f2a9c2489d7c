use Rattle.std.proofs.Common.{sym, ap}
use Rattle.std.specs.Prelude.{is_some}
use Rattle.esr_test_lists.proofs.Boards.{undeleted, renewed}
use Rattle.esr_test_lists.proofs.board.Board.delete_failed.Goals as goal

pub delete_failed-requires : goal.delete_failed-requires
delete_failed-requires c = ap is_some (sym c.in-Some.ensures)

pub invariant_of-self : goal.invariant_of-self
invariant_of-self c =
    renewed (undeleted c.self.invariant c.in_ok-list.list c.args.ticket c.in_ok-list.ensures) c.renew.new.list c.renew.ensures
