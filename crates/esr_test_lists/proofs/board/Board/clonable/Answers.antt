use Rattle.esr_test_lists.proofs.board.Board.clonable.Goals as goal

pub clonable-requires-clause-in_term : goal.clonable-requires-clause-in_term
clonable-requires-clause-in_term c = c.self.invariant.in_term

pub clonable-requires-clause-term : goal.clonable-requires-clause-term
clonable-requires-clause-term c = c.self.invariant.low_term
