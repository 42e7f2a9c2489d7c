use Rattle.std.proofs.Common.{◌≡◌, ◌+◌, false, List, [], ◌∷◌, drop, map, sym, ap, subst, ◌∙◌, arith}
use Rattle.std.specs.List.{list_any}
use Rattle.std.proofs.lemmas.List.{at_drop_more}
use Rattle.serde_json.specs.View.{view}
use Rattle.serde_json.specs.declared.value.Value.{Value}
use Rattle.esr_names.specs.declared.ids.Id.{Id}
use Rattle.esr_record.specs.Op.{is_id, AreUuids}
use Rattle.esr_record.specs.Reading.{uuids_from}
use Rattle.esr_record.specs.UuidLists.{AreUuids_push}
use Rattle.esr_record.proofs.Rising.{uuids_from_push}
use Rattle.esr_record.proofs.reading.uuids_of.Goals as goal

pub loop-value-preserved : goal.loop-value-preserved
loop-value-preserved c =
    let uuids : List Id = c.loop-value.uuids in
    let uuid : Id = c.in_ok-uuid.uuid in
    let rest : List Value = drop (c.loop-value.value-index + 1) c.args.values.now in
    let turn = at_drop_more (λ (xs : List Value). uuids_from uuids (map view xs)) c.args.values.now c.loop-value.value-index c.value-item.result (omega arith) in
    let item = ap (λ (v : Value). uuids_from uuids (view v ∷ map view rest)) (sym c.value-item.is) in
    let fresh : list_any (is_id uuid) uuids ≡ false = ap (list_any (is_id uuid)) (sym c.as_slice.ensures) ∙ sym c.is_listed.ensures ∙ c.if-is_listed.false in
    let step = uuids_from_push uuids uuid (view c.value-item.result) (map view rest) (sym c.in_ok-uuid.ensures.exact) fresh in
    let pushed = c.in_ok-push.ensures.ok in (
      c.loop-value.invariant.0 ∙ turn ∙ item ∙ step ∙ ap (λ (us : List Id). uuids_from us (map view rest)) (sym pushed),
      subst (AreUuids []) (sym pushed) (AreUuids_push uuids uuid c.loop-value.invariant.1 c.in_ok-uuid.ensures.range fresh),
    )
