use Rattle.std.specs.Ordering.{nat_cmp}
use Rattle.std.specs.BTreeSet.{contains}
use Rattle.esr_results.specs.Pruned.{pruned_of}
use Rattle.esr_dooming.proofs.Naming.{held_pushed}
use Rattle.esr_dooming.proofs.doom.push_held.Goals as goal

pub returns : goal.returns
returns c =
    held_pushed (contains nat_cmp c.args.listed.now) (contains nat_cmp c.args.left.now) (contains nat_cmp c.in_ok-has.has) (pruned_of c.args.shard.now) c.args.held.now c.snapshots-lists.result.now c.files-files.result.now
    c.args.names.now c.push_lists.new.names c.push_files.new.names c.snapshots-lists.ensures c.files-files.ensures.files c.in_ok-has.ensures c.in_ok-push_lists.ensures c.in_ok-push_files.ensures
