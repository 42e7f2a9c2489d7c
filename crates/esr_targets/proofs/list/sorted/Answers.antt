use Rattle.std.proofs.Common.{◌∙◌, sym, ap}
use Rattle.esr_model.specs.Places.{sorted_by}
use Rattle.esr_targets.specs.Listed.{target_first}
use Rattle.esr_targets.proofs.Sorting.{put_all, sorted_all, put_next}
use Rattle.esr_targets.proofs.list.sorted.Goals as goal

pub loop-last-init : goal.loop-last-init
loop-last-init g c = sorted_all target_first c.args.found.items ∙ ap (put_all target_first c.args.found.items) (sym c.in_ok-sorted.ensures.items)

pub loop-last-preserved : goal.loop-last-preserved
loop-last-preserved g c =
    put_next target_first (sorted_by target_first c.args.found.items) c.loop-last.left.items c.pop.new.self.items c.loop-last.sorted.items c.deref.result.now c.insert.new.self.items c.in-Some.last c.place_of-place.result
    c.loop-last.invariant c.in-Some.ensures.items c.deref.ensures.value c.place_of-place.ensures.put c.in_ok-insert.ensures.items
