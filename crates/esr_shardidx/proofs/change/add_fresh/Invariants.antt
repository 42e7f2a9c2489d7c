use Rattle.std.proofs.Common.{◌≡◌, ◌++◌, take, filter, not}
use Rattle.esr_shardidx.specs.Indices.{has_file}
use Rattle.esr_shardidx.proofs.change.add_fresh.Given as goal

abbrev pub invariant-loop-entry : goal.invariant-loop-entry
invariant-loop-entry l = l.files.items ≡ l.fn.files.items ++ filter (λ e. not (has_file l.entries e.name)) (take l.entry-index l.more)
