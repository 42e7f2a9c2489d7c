use Rattle.std.proofs.Common.{sym, ◌∙◌}
use Rattle.esr_shardidx.proofs.Marking.{marked_all}
use Rattle.esr_shardidx.proofs.marks.marked.Goals as goal

pub returns-then-all_marked : goal.returns-then-all_marked
returns-then-all_marked c = sym (marked_all c.args.entries c.args.marks.now c.requires (sym c.all_marked.ensures ∙ c.if-all_marked.true))
