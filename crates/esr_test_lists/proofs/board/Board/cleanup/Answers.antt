use Rattle.std.proofs.Common.{sym, ◌∙◌}
use Rattle.esr_test_lists.proofs.Boards.{few_ops, cleaning, renewed}
use Rattle.esr_test_lists.proofs.board.Board.cleanup.Goals as goal

pub accept_cleanup-requires : goal.accept_cleanup-requires
accept_cleanup-requires c = few_ops c.self.inside.list.next_op (sym c.is_long.ensures ∙ c.if-is_long.false)

pub invariant_of-self : goal.invariant_of-self
invariant_of-self c =
    renewed (cleaning c.self.invariant c.in_ok-list.list c.in_ok-list.op c.in_ok-list.ensures) c.renew.new.list c.renew.ensures
