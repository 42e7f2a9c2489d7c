use Rattle.std.proofs.Common.{w64, to_z, of_z, subst}
use Rattle.esr_formats.specs.Clusters.{count_of}
use Rattle.esr_ops.specs.Units.{NextUnit}
use Rattle.esr_test_lists.proofs.Boards.{fits, few_tickets, given_in, gave, renewed}
use Rattle.esr_test_lists.proofs.board.Board.take.Goals as goal

pub next_unit-requires : goal.next_unit-requires
next_unit-requires c = few_tickets c.self.invariant (fits c.self.inside.given _ c.is_many.result c.is_many.ensures c.if-is_many.false)

pub invariant_of-self : goal.invariant_of-self
invariant_of-self c =
    let safe = count_of (to_z w64 (of_z w64 c.self.inside.safe)) in
    renewed (gave c.self.invariant c.in-Some.list safe c.in-Some.unit (subst (NextUnit _) c.in-Some.is (c.in_ok-next.ensures.unit _ (given_in c.self.invariant safe)))) c.renew.new.list c.renew.ensures
