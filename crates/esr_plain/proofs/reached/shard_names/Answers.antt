use Rattle.std.proofs.Common.{◌≡◌, ◌∷◌, [], List, map, sym, subst}
use Rattle.std.proofs.lemmas.Result.{IfOk-weaker}
use Rattle.esr_names.specs.declared.blob.BlobName.{BlobName as CodeName}
use Rattle.esr_names.specs.declared.blob.BlobName.TheVariants as code
use Rattle.esr_formats.specs.Names.{name_of}
use Rattle.esr_formats.specs.Roots.{root_snap_of}
use Rattle.esr_formats.specs.Shards.{shard_index_of}
use Rattle.esr_formats.specs.Formats.{formats}
use Rattle.esr_model.specs.Names.{ShardIndex}
use Rattle.esr_model.specs.Image.{At}
use Rattle.esr_plain.specs.Exactly.{Always}
use Rattle.esr_plain.specs.Reach.{AreNames, OfHeld, OfShard}
use Rattle.esr_plain.proofs.Blobs.{at_one, was_read, was_unread}
use Rattle.esr_plain.proofs.Reaching.{are_one, names_both, shard_read, shard_unread}
use Rattle.esr_plain.proofs.reached.shard_names.Goals as goal

pub returns-in_default : goal.returns-in_default
returns-in_default c =
    let own = code.ShardIndex c.args.shard c.args.generation in
    IfOk-weaker c.from_slice.result (λ names. names ≡ own ∷ [])
    (λ names. Always (λ f. AreNames names (OfShard f (At f c.args.image.now) (map root_snap_of c.args.snaps.now) c.args.shard.index.number c.args.shard.number c.args.generation.number)))
    (λ names is known told.
    let f = formats known told in
    let has = At f c.args.image.now in
    let snaps = map root_snap_of c.args.snaps.now in
    let i = c.args.shard.index.number in
    let s = c.args.shard.number in
    let g = c.args.generation.number in
    let name = ShardIndex i s g in
    let none = was_unread (λ f. f.shard_index) shard_index_of c.args.image.now name c.in_ok-held.field-0 c.in_ok-held.ensures c.in_default.is known told in
    subst (λ (ns : List CodeName). AreNames ns (OfShard f has snaps i s g)) (sym is) (shard_unread f has snaps i s g (name ∷ []) none (are_one name)))
    c.from_slice.ensures

pub returns : goal.returns
returns c = λ known told.
    let f = formats known told in
    let image = c.args.image.now in
    let snaps = map root_snap_of c.args.snaps.now in
    let i = c.args.shard.index.number in
    let s = c.args.shard.number in
    let g = c.args.generation.number in
    let name = ShardIndex i s g in
    let held = shard_index_of c.in-Some.held in
    let reads = was_read (λ f. f.shard_index) shard_index_of image name c.in_ok-held.field-0 c.in-Some.held c.in_ok-held.ensures c.in-Some.is known told in
    let own = code.ShardIndex c.args.shard c.args.generation in
    let both = names_both (OfHeld snaps held i s) (λ n. n ≡ name) c.in_ok-names.names c.push.new.self (own ∷ []) c.in_ok-push.ensures.ok c.in_ok-names.ensures (are_one name) in
    shard_read f (At f image) snaps i (at_one f image) s g held (map name_of c.push.new.self) reads both
