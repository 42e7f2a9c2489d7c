use Rattle.std.proofs.Common.{map, sym, ◌∙◌}
use Rattle.esr_formats.specs.Refs.{ref_of_code}
use Rattle.esr_test_lists.proofs.Boards.{few_ops, restoring, renewed}
use Rattle.esr_test_lists.proofs.board.Board.open_restore.Goals as goal

pub open_restore-requires-clause-room : goal.open_restore-requires-clause-room
open_restore-requires-clause-room c = few_ops c.self.inside.list.next_op (sym c.is_long.ensures ∙ c.if-is_long.false)

pub invariant_of-self : goal.invariant_of-self
invariant_of-self c =
    renewed (restoring c.self.invariant c.in_ok-list.list c.args.uuid.number c.args.place.now (map ref_of_code c.in_ok-indices.indices) c.in_ok-list.ensures) c.renew.new.list c.renew.ensures
