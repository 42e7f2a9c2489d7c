use Rattle.std.proofs.Common.{sym, ap}
use Rattle.std.specs.Prelude.{is_some}
use Rattle.esr_test_lists.proofs.Boards.{raising, renewed}
use Rattle.esr_test_lists.proofs.board.Board.raised.Goals as goal

pub raised-requires : goal.raised-requires
raised-requires c = ap is_some (sym c.in-Some.ensures)

pub invariant_of-self : goal.invariant_of-self
invariant_of-self c =
    renewed (raising c.self.invariant c.in_ok-list.list c.args.ticket c.args.generation c.in_ok-list.ensures) c.renew.new.list c.renew.ensures
