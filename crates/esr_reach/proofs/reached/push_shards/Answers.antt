use Rattle.std.proofs.Common.{◌≡◌, ◌∙◌, ℕ, map, take, length, Option, option_map, arith}
use Rattle.std.proofs.lemmas.List.{length-map, length-take-le}
use Rattle.std.specs.Ordering.{nat_cmp}
use Rattle.std.specs.BTreeSet.{contains}
use Rattle.esr_model.specs.Loops.{item_is}
use Rattle.esr_names.specs.declared.ids.Id.{Id}
use Rattle.esr_formats.specs.Ids.{number_of}
use Rattle.esr_reach.proofs.Pushing.{pushed_shard}
use Rattle.esr_reach.proofs.reached.push_shards.Goals as goal

pub loop-number-preserved : goal.loop-number-preserved
loop-number-preserved c =
    let h : Option Id → Option ℕ = option_map number_of in
    let xs = c.as_slice-generation-items.result.now in
    let k = c.loop-number.number in
    let less = c.loop-number-test.true in
    let len : length (map h (take k xs)) ≡ k = length-map (take k xs) h ∙ length-take-le k xs (omega arith) in
    pushed_shard (contains nat_cmp c.args.listed.now) c.args.held.now c.args.index.now.id.number h xs k _ c.args.names.now c.loop-number.names c.push_place.new.names less (item_is xs k _ less) len c.loop-number.invariant c.in_ok-push_place.ensures
