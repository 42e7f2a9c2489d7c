use Rattle.std.proofs.Common.{ℕ, map, Option, option_map, sym, ap, subst}
use Rattle.std.proofs.lemmas.Result.{IfOk-weaker}
use Rattle.esr_formats.specs.Ids.{number_of}
use Rattle.esr_formats.specs.Roots.{root_snap_of}
use Rattle.esr_formats.specs.Formats.{formats}
use Rattle.esr_model.specs.Image.{At}
use Rattle.esr_plain.specs.Exactly.{Always}
use Rattle.esr_plain.specs.Reach.{AreNames, OfShard, OfPlace}
use Rattle.esr_plain.proofs.Reaching.{place_some}
use Rattle.esr_plain.proofs.reached.place_names.Goals as goal

pub returns-in-Some : goal.returns-in-Some
returns-in-Some c =
    let i = c.args.shard.index.number in
    let s = c.args.shard.number in
    let g = c.in-Some.generation.number in
    let snaps = map root_snap_of c.args.snaps.now in
    let is = ap (option_map number_of) c.in-Some.is in
    IfOk-weaker c.shard_names.result (λ names. Always (λ f. AreNames names (OfShard f (At f c.args.image.now) snaps i s g)))
    (λ names. Always (λ f. AreNames names (OfPlace f (At f c.args.image.now) snaps i s (option_map number_of c.args.generation))))
    (λ names are known told.
    let f = formats known told in
    subst (λ (o : Option ℕ). AreNames names (OfPlace f (At f c.args.image.now) snaps i s o)) (sym is) (place_some f (At f c.args.image.now) snaps i s g names (are known told)))
    c.shard_names.ensures
