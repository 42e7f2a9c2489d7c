use Rattle.std.proofs.Common.{sym, ap}
use Rattle.std.specs.Prelude.{is_some}
use Rattle.esr_test_lists.proofs.Boards.{dropping, renewed}
use Rattle.esr_test_lists.proofs.board.Board.dropped.Goals as goal

pub dropped-requires : goal.dropped-requires
dropped-requires c = ap is_some (sym c.in-Some.ensures)

pub invariant_of-self : goal.invariant_of-self
invariant_of-self c =
    renewed (dropping c.self.invariant c.in_ok-list.list c.args.ticket c.in_ok-list.ensures) c.renew.new.list c.renew.ensures
