use Rattle.esr_test_lists.proofs.Boards.{skipped, fits, no_less}
use Rattle.esr_test_lists.proofs.board.Board.skip_to.Goals as goal

pub is_past-requires : goal.is_past-requires
is_past-requires c = c.self.invariant.low_term

pub invariant_of-self : goal.invariant_of-self
invariant_of-self c =
    skipped c.self.invariant c.args.next.number (no_less c.args.next.number c.self.inside.next.number c.is_before.result c.is_before.ensures c.if-is_before.false)
    (fits c.args.next.number _ c.is_past.result c.is_past.ensures c.if-is_past.false)
