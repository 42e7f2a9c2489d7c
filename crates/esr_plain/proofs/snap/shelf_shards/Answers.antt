use Rattle.std.proofs.Common.{◌+◌, ℕ, List, map, take, sym, ap, ◌∙◌, subst}
use Rattle.esr_formats.specs.Roots.{root_of}
use Rattle.esr_formats.specs.Formats.{formats}
use Rattle.esr_model.specs.Values.{IndexRef}
use Rattle.esr_model.specs.Shelf.{ShelfShard}
use Rattle.esr_model.specs.Image.{AllPairs, At, ShardStands}
use Rattle.esr_plain.specs.Places.{place_of}
use Rattle.esr_plain.proofs.Loops.{exact_some, exact_none, pairs_more, pairs_none}
use Rattle.esr_plain.proofs.snap.shelf_shards.Goals as goal

pub returns-in_default : goal.returns-in_default
returns-in_default c = λ known told shards pairs.
    let f = formats known told in
    let stands = ShardStands f (At f c.args.image.now) (root_of c.args.root.now) c.args.uuid.number in
    let places = ap (map place_of) c.as_slice-place-items.ensures ∙ c.in_ok-places.ensures in
    let none = exact_none (stands (place_of c.place-item.result)) c.in_ok-shard.field-0 c.in_default.is (c.in_ok-shard.ensures known told) in
    pairs_none stands place_of c.as_slice-place-items.result.now c.loop-place.place-index c.place-item.result c.loop-place-test.true c.place-item.is none shards
    (subst (λ (ps : List (IndexRef × ℕ)). AllPairs stands ps shards) (sym places) pairs)

pub loop-place-preserved : goal.loop-place-preserved
loop-place-preserved c = λ known told.
    let f = formats known told in
    let stands = ShardStands f (At f c.args.image.now) (root_of c.args.root.now) c.args.uuid.number in
    let places = c.as_slice-place-items.result.now in
    let one = exact_some (stands (place_of c.place-item.result)) c.in_ok-shard.field-0 c.in-Some.shard c.in-Some.is (c.in_ok-shard.ensures known told) in
    subst (λ (shards : List ShelfShard). AllPairs stands (map place_of (take (c.loop-place.place-index + 1) places)) shards) (sym c.in_ok-push.ensures.ok)
    (pairs_more stands place_of places c.loop-place.shards c.loop-place.place-index c.place-item.result c.in-Some.shard c.loop-place-test.true c.place-item.is (c.loop-place.invariant known told) one)
