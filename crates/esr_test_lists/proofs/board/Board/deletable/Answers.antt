use Rattle.std.proofs.Common.{sym, ◌∙◌}
use Rattle.esr_test_lists.proofs.Boards.{few_ops}
use Rattle.esr_test_lists.proofs.board.Board.deletable.Goals as goal

pub accept_delete-requires : goal.accept_delete-requires
accept_delete-requires c = few_ops c.self.inside.list.next_op (sym c.is_long.ensures ∙ c.if-is_long.false)
