use Rattle.std.proofs.Common.{map, sym, ◌∙◌}
use Rattle.esr_core.specs.Entry.{CloneOf}
use Rattle.esr_formats.specs.Refs.{ref_of_code}
use Rattle.esr_test_lists.proofs.Boards.{fits, few_ops, cloned, renewed}
use Rattle.esr_test_lists.proofs.board.Board.open_clone.Goals as goal

pub is_past-requires : goal.is_past-requires
is_past-requires c = c.self.invariant.low_term

pub open_clone-requires-clause-room : goal.open_clone-requires-clause-room
open_clone-requires-clause-room c = few_ops c.self.inside.list.next_op (sym c.is_long.ensures ∙ c.if-is_long.false)

pub invariant_of-self : goal.invariant_of-self
invariant_of-self c =
    let taken : CloneOf = record { source = c.args.source.number; indices = map ref_of_code c.in_ok-taken.taken } in
    renewed (cloned c.self.invariant c.in_ok-list.list c.saturating_add.result c.args.name.now 0 taken (fits c.saturating_add.result _ c.is_past.result c.is_past.ensures c.if-is_past.false) c.in_ok-list.ensures.plan) c.renew.new.list c.renew.ensures
