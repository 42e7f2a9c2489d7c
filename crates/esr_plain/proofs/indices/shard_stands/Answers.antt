use Rattle.std.proofs.Common.{◌≡◌, true, option_map, ap}
use Rattle.std.proofs.lemmas.Result.{IfOk-weaker}
use Rattle.esr_formats.specs.Ids.{number_of}
use Rattle.esr_formats.specs.Roots.{root_of}
use Rattle.esr_formats.specs.Formats.{formats}
use Rattle.esr_model.specs.Image.{At, IndexStands}
use Rattle.esr_plain.specs.Exactly.{Always}
use Rattle.esr_plain.proofs.Loops.{exact_as}
use Rattle.esr_plain.proofs.Standing.{PlaceStands, place_stands}
use Rattle.esr_plain.proofs.indices.shard_stands.Goals as goal

pub returns-in-Some : goal.returns-in-Some
returns-in-Some c =
    let i = c.args.shard.index.number in
    let s = c.args.shard.number in
    let g = c.in-Some.generation.number in
    let is = ap (option_map number_of) c.in-Some.is in
    IfOk-weaker c.index_stands.result (λ b. Always (λ f. (b ≡ true → IndexStands f (At f c.args.image.now) (root_of c.args.root.now) i s g) × (IndexStands f (At f c.args.image.now) (root_of c.args.root.now) i s g → b ≡ true)))
    (λ b. Always (λ f. (b ≡ true → PlaceStands f (At f c.args.image.now) (root_of c.args.root.now) i s (option_map number_of c.args.generation))
    × (PlaceStands f (At f c.args.image.now) (root_of c.args.root.now) i s (option_map number_of c.args.generation) → b ≡ true)))
    (λ b exact known told.
    let f = formats known told in
    exact_as b (exact known told) (place_stands f (At f c.args.image.now) (root_of c.args.root.now) i s g (option_map number_of c.args.generation) is) (λ all. all g is))
    c.index_stands.ensures
