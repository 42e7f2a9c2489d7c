use Rattle.std.proofs.Common.{◌+◌, ◌<◌, arith}
use Rattle.esr_test_lists.proofs.Boards.{elected, fits}
use Rattle.esr_test_lists.proofs.board.Board.elect.Goals as goal

pub invariant_of-self : goal.invariant_of-self
invariant_of-self c =
    let low : c.self.inside.term < 4294967296 = fits c.self.inside.term _ c.is_many.result c.is_many.ensures c.if-is_many.false in
    elected c.self.invariant (c.self.inside.term + 1) c.new-self-inside.result.number (omega (arith, low)) (omega (arith, c.new-self-inside.ensures))
