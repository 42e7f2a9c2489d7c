use Rattle.std.proofs.Common.{◌≡◌, ◌∙◌, ap, not, map, Bool, rules}
use Rattle.std.specs.List.{filter}
use Rattle.std.proofs.lemmas.Fn.{filter_same}
use Rattle.esr_formats.specs.Ids.{number_of}
use Rattle.esr_model.specs.Shelf.{Shelved, names_uuid}
use Rattle.esr_plain.proofs.Shelves.{left-filter}
use Rattle.esr_plain.proofs.shelf.left.Goals as goal

pub returns : goal.returns
returns c =
    let uuids = map number_of c.args.uuids.now in
    let stays : Shelved → Bool = λ s. not (names_uuid uuids s.uuid) in
    let filtered : c.retain.new.self.items ≡ filter stays c.into_vec-snaps.result.items = filter_same _ _ _ (λ x b f' k. search rules) _ _ c.retain.ensures.filtered in
    c.from_vec.ensures ∙ filtered ∙ ap (filter stays) c.into_vec-snaps.ensures ∙ left-filter uuids c.args.shelf
