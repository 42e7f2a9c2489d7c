use Rattle.std.proofs.Common.{refl, sym, ap}
use Rattle.std.specs.Prelude.{is_some}
use Rattle.esr_core.specs.World.{Restored}
use Rattle.esr_test_lists.proofs.Boards.{reading, renewed}
use Rattle.esr_test_lists.proofs.board.Board.shard_read.Goals as goal

pub shard_read-requires : goal.shard_read-requires
shard_read-requires c = ap is_some (sym c.in-Some.ensures)

pub invariant_of-self : goal.invariant_of-self
invariant_of-self c =
    renewed (reading c.self.invariant c.in_ok-list.list c.args.ticket (Restored 0 0) refl c.in_ok-list.ensures) c.renew.new.list c.renew.ensures
