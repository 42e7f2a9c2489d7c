use Rattle.std.proofs.Common.{List, map, Option, option_map, ap, ◌∙◌, subst}
use Rattle.esr_names.specs.declared.index_ref.IndexRef.{IndexRef as CodeRef}
use Rattle.esr_meta.specs.Info.{Info}
use Rattle.esr_formats.specs.Roots.{root_of, root_snap_of}
use Rattle.esr_formats.specs.Infos.{info_of_code}
use Rattle.esr_formats.specs.Refs.{ref_of_code}
use Rattle.esr_formats.specs.Formats.{formats}
use Rattle.esr_model.specs.Shelf.{ShelfShard}
use Rattle.esr_model.specs.Places.{shelf_places}
use Rattle.esr_model.specs.Image.{AllPairs, At, ShardStands}
use Rattle.esr_plain.specs.Exactly.{Always, IsExactly}
use Rattle.esr_plain.specs.Infos.{InfoStands}
use Rattle.esr_plain.proofs.Loops.{exact_some, exact_none}
use Rattle.esr_plain.proofs.Blobs.{at_one}
use Rattle.esr_plain.proofs.Infos.{snap_no_info, snap_no_shards, snap_stands}
use Rattle.esr_plain.proofs.snap.shelved.Goals.{In-Some}
use Rattle.esr_plain.proofs.snap.shelved.Goals as goal

-- the info that was found stands
info_stands : (c : In-Some) → Always (λ f. InfoStands f (At f c.args.image.now) (root_of c.args.root.now) (root_snap_of c.args.snap.now) (info_of_code c.in-Some.info))
info_stands c = λ known told.
    let f = formats known told in
    subst (λ (o : Option Info). IsExactly (InfoStands f (At f c.args.image.now) (root_of c.args.root.now) (root_snap_of c.args.snap.now)) (option_map info_of_code o)) c.in-Some.is (c.in_ok-info.ensures known told)

pub returns-in_default : goal.returns-in_default
returns-in_default c = λ known told.
    let f = formats known told in
    let has = At f c.args.image.now in
    let root = root_of c.args.root.now in
    let snap = root_snap_of c.args.snap.now in
    let none = subst (λ (o : Option Info). IsExactly (InfoStands f has root snap) (option_map info_of_code o)) c.in_default.is (c.in_ok-info.ensures known told) in
    snap_no_info f has root snap none

pub returns-in_default-2 : goal.returns-in_default-2
returns-in_default-2 c = λ known told.
    let f = formats known told in
    let has = At f c.args.image.now in
    let root = root_of c.args.root.now in
    let snap = root_snap_of c.args.snap.now in
    let info = info_stands (goal.at.returns-in_default-2 c).In-Some known told in
    let indices = c.as_slice-indices.ensures ∙ ap (λ (i : Info). i.indices) c.info.view_is in
    let none = exact_none (AllPairs (ShardStands f has root snap.uuid) (shelf_places (map ref_of_code c.as_slice-indices.result.now))) c.in_ok-shards.field-0 c.in_default-2.is (c.in_ok-shards.ensures known told) in
    snap_no_shards f has root snap (at_one f c.args.image.now) (info_of_code c.in-Some.info) info
    (subst (λ (rs : List CodeRef). (shards : List ShelfShard) → AllPairs (ShardStands f has root snap.uuid) (shelf_places (map ref_of_code rs)) shards → ⊥) indices none)

pub returns : goal.returns
returns c = λ known told.
    let f = formats known told in
    let has = At f c.args.image.now in
    let root = root_of c.args.root.now in
    let snap = root_snap_of c.args.snap.now in
    let info = info_stands (goal.at.returns c).In-Some known told in
    let indices = c.as_slice-indices.ensures ∙ ap (λ (i : Info). i.indices) c.info.view_is in
    let all = exact_some (AllPairs (ShardStands f has root snap.uuid) (shelf_places (map ref_of_code c.as_slice-indices.result.now))) c.in_ok-shards.field-0 c.in-Some-2.shards c.in-Some-2.is (c.in_ok-shards.ensures known told) in
    snap_stands f has root snap (info_of_code c.in-Some.info) c.in_ok-name.name c.in-Some-2.shards (c.in_ok-name.ensures ∙ c.as_str.ensures.text) info
    (subst (λ (rs : List CodeRef). AllPairs (ShardStands f has root snap.uuid) (shelf_places (map ref_of_code rs)) c.in-Some-2.shards) indices all)
