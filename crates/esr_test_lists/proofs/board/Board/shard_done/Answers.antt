use Rattle.std.proofs.Common.{option_map, sym, ap, ◌∙◌}
use Rattle.std.specs.Prelude.{is_some}
use Rattle.esr_ops.specs.Plan.{seat_of_code}
use Rattle.esr_results.specs.Results.{result_of}
use Rattle.esr_test_lists.proofs.Boards.{done, renewed}
use Rattle.esr_test_lists.proofs.board.Board.shard_done.Goals as goal

pub shard_done-requires : goal.shard_done-requires
shard_done-requires c = ap is_some (sym c.seat.ensures ∙ ap (option_map seat_of_code) c.in-Some-Shard.is)

pub invariant_of-self : goal.invariant_of-self
invariant_of-self c =
    renewed (done c.self.invariant c.in_ok-list.list c.args.ticket (result_of (record { shard = c.in-Some-Shard.shard; generation = c.args.generation; files = 3; bytes = 7 })) c.in_ok-list.ensures) c.renew.new.list c.renew.ensures
