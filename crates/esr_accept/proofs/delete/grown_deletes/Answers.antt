use Rattle.std.proofs.Common.{map, ap, ◌∙◌}
use Rattle.std.proofs.lemmas.List.{take_all}
use Rattle.esr_formats.specs.Ids.{number_of}
use Rattle.esr_accept.specs.AskedDeletes.{growing}
use Rattle.esr_accept.proofs.DeletePlans.{map_more}
use Rattle.esr_accept.proofs.delete.grown_deletes.Goals as goal

pub loop-delete-preserved : goal.loop-delete-preserved
loop-delete-preserved c =
    map_more (growing (map number_of c.args.uuids.now) c.args.number) c.args.deletes.now c.loop-delete.delete-index c.delete-item.result
    c.loop-delete-test.true c.delete-item.is c.loop-delete.copy.items c.in_ok-grown.field-0 c.push.new.self.items c.loop-delete.invariant
    c.in_ok-grown.ensures c.in_ok-push.ensures.items

pub returns : goal.returns
returns c = c.loop-delete.invariant ∙ ap (map (growing (map number_of c.args.uuids.now) c.args.number)) (take_all c.loop-delete.delete-index c.args.deletes.now c.loop-delete-test.false)
