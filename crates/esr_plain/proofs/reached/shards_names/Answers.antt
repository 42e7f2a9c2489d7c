use Rattle.std.proofs.Common.{◌≡◌, ◌++◌, ℕ, List, map, take, length, Option, option_map, ap, ◌∙◌, subst, arith}
use Rattle.std.proofs.lemmas.List.{length-map, length-take-le}
use Rattle.esr_names.specs.declared.ids.Id.{Id}
use Rattle.esr_names.specs.declared.blob.BlobName.{BlobName as CodeName}
use Rattle.esr_formats.specs.Ids.{number_of}
use Rattle.esr_formats.specs.Roots.{root_snap_of}
use Rattle.esr_formats.specs.Formats.{formats}
use Rattle.esr_model.specs.Image.{At}
use Rattle.esr_plain.specs.Reach.{AreNames, OfShards}
use Rattle.esr_plain.proofs.Reaching.{shards_more, shards_all}
use Rattle.esr_plain.proofs.reached.shards_names.Goals as goal
use Rattle.esr_model.specs.Loops.{item_is}

pub loop-number-preserved : goal.loop-number-preserved
loop-number-preserved c = λ known told.
    let f = formats known told in
    let snaps = map root_snap_of c.args.snaps.now in
    let i = c.args.index.now.id.number in
    let h : Option Id → Option ℕ = option_map number_of in
    let xs = c.as_slice-generation-items.result.now in
    let k = c.loop-number.number in
    let less = c.loop-number-test.true in
    let len : length (map h (take k xs)) ≡ k = length-map (take k xs) h ∙ length-take-le k xs (omega arith) in
    let made = c.in_ok-extend_from_slice.ensures.ok ∙ ap (λ (more : List CodeName). c.loop-number.names ++ more) c.as_slice.ensures in
    shards_more f (At f c.args.image.now) snaps i h xs k _ c.loop-number.names c.extend_from_slice.new.self c.in_ok-more.more less (item_is xs k _ less) len made (c.loop-number.invariant known told) (c.in_ok-more.ensures known told)

pub returns : goal.returns
returns c = λ known told.
    let f = formats known told in
    let snaps = map root_snap_of c.args.snaps.now in
    let i = c.args.index.now.id.number in
    let h : Option Id → Option ℕ = option_map number_of in
    subst (λ (gs : List (Option Id)). AreNames c.loop-number.names (OfShards f (At f c.args.image.now) snaps i (map h gs))) c.as_slice-generation-items.ensures.items
    (shards_all f (At f c.args.image.now) snaps i h c.as_slice-generation-items.result.now c.loop-number.number c.loop-number.names c.loop-number-test.false (c.loop-number.invariant known told))
