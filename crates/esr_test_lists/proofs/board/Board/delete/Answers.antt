use Rattle.std.proofs.Common.{sym, ◌∙◌}
use Rattle.esr_test_lists.proofs.Boards.{few_ops, deleting, renewed}
use Rattle.esr_test_lists.proofs.board.Board.delete.Goals as goal

pub accept_delete-requires : goal.accept_delete-requires
accept_delete-requires c = few_ops c.self.inside.list.next_op (sym c.is_long.ensures ∙ c.if-is_long.false)

pub invariant_of-self : goal.invariant_of-self
invariant_of-self c =
    renewed (deleting c.self.invariant c.in_ok-list.list c.args.names.now c.in_ok-list.op c.in_ok-list.ensures) c.renew.new.list c.renew.ensures
