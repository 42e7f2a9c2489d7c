use Rattle.std.proofs.Common.{◌<◌, arith}
use Rattle.esr_test_lists.proofs.Boards.{fits, opened_board}
use Rattle.esr_test_lists.proofs.board.board_of.Goals as goal

pub is_past-requires : goal.is_past-requires
is_past-requires c = let low : c.cluster.inside.term < 4294967296 = fits c.cluster.inside.term _ c.is_many.result c.is_many.ensures c.if-is_many.false in omega (arith, low)

pub invariant_of-board : goal.invariant_of-board
invariant_of-board c =
    let low : c.cluster.inside.term < 4294967296 = fits c.cluster.inside.term _ c.is_many.result c.is_many.ensures c.if-is_many.false in
    opened_board c.cluster.inside.term c.requires (omega (arith, low)) (fits c.args.opening.next.number _ c.is_past.result c.is_past.ensures c.if-is_past.false)
