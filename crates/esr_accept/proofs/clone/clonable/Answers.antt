use Rattle.std.proofs.Common.{List, refl, sym, ap, ◌∙◌}
use Rattle.std.specs.List.{position}
use Rattle.esr_model.specs.Values.{Bytes}
use Rattle.esr_core.specs.World.{World}
use Rattle.esr_core.specs.Allowed.{IsListed, MayName, MayClone}
use Rattle.esr_formats.specs.Roots.{root_of}
use Rattle.esr_ops.specs.Plan.{IsAskedIn}
use Rattle.esr_accept.specs.Asking.{lacks_index}
use Rattle.esr_accept.proofs.Accepts.{listed, full_is, room_is}
use Rattle.esr_accept.proofs.Clonables.{name_refused, may_name, source_listed, source_unlisted, source_refused, may_clone, ids_spent, id_left}
use Rattle.esr_accept.proofs.clone.clonable.Goals as goal
use Rattle.esr_accept.proofs.clone.clonable.Goals.{After-listed, After-source_refusal, After-is_full}

-- the rules on its name let it
named : (c : After-listed) (w : World) → IsAskedIn c.args.progress.now (root_of c.args.root.now) c.args.term c.args.next.number w → MayName w c.args.name.now
named c w is =
    let s = c.lists-list.result in
    let list = listed s.ops.now s.deletes.now s.completed.now s.tickets.now s.next_op s.restores.now c.args.progress.now c.lists-list.ensures.valid c.lists-list.ensures.view in
    let cleanup = c.open_cleanup.ensures in
    let user = c.name_user-user.ensures in
    may_name s.ops.now s.deletes.now c.args.progress.now (root_of c.args.root.now) c.args.term c.args.next.number list w is c.args.name.now c.open_cleanup.result c.name_user-user.result cleanup user (sym c.in_default.is ∙ c.name_refusal.ensures)

there : (c : After-source_refusal) (w : World) → IsAskedIn c.args.progress.now (root_of c.args.root.now) c.args.term c.args.next.number w → IsListed w c.args.source.now c.in-Some-listed.uuid.number
there c w is =
    let s = c.lists-list.result in
    let list = listed s.ops.now s.deletes.now s.completed.now s.tickets.now s.next_op s.restores.now c.args.progress.now c.lists-list.ensures.valid c.lists-list.ensures.view in
    source_listed s.ops.now s.deletes.now c.args.progress.now (root_of c.args.root.now) c.args.term c.args.next.number list w is c.args.source.now c.listed.result c.listed.ensures c.in-Some-listed.uuid c.in-Some-listed.is

-- the rules on its source let it
clone : (c : After-is_full) (w : World) → IsAskedIn c.args.progress.now (root_of c.args.root.now) c.args.term c.args.next.number w → MayName w c.args.name.now → IsListed w c.args.source.now c.in-Some-listed.uuid.number
    → MayClone w c.args.source.now c.args.name.now c.args.indices.now c.in-Some-listed.uuid.number
clone c w is may listing =
    let s = c.lists-list.result in
    let root = root_of c.args.root.now in
    let uuid = c.in-Some-listed.uuid in
    let missing = c.first_missing-missing.ensures ∙ ap (λ (ns : List Bytes). position (lacks_index root.indices uuid.number) ns) c.as_slice.ensures in
    may_clone s.ops.now s.deletes.now s.completed.now s.tickets.now s.next_op s.restores.now c.args.progress.now c.lists-list.ensures.view
    c.lists-list.ensures.valid root c.args.term c.args.next.number w is c.args.source.now c.args.name.now c.args.indices.now may uuid.number listing
    c.deleting.result c.first_missing-missing.result c.deleting.ensures missing (sym c.in_default-source_refusal.is ∙ c.source_refusal.ensures)

pub returns-in-Some : goal.returns-in-Some
returns-in-Some c w is =
    let s = c.lists-list.result in
    let list = listed s.ops.now s.deletes.now s.completed.now s.tickets.now s.next_op s.restores.now c.args.progress.now c.lists-list.ensures.valid c.lists-list.ensures.view in
    let cleanup = c.open_cleanup.ensures in
    let user = c.name_user-user.ensures in
    name_refused s.ops.now s.deletes.now c.args.progress.now (root_of c.args.root.now) c.args.term c.args.next.number list w is
    c.args.source.now c.args.name.now c.args.indices.now c.open_cleanup.result c.name_user-user.result cleanup user c.in-Some.refusal
    (sym c.in-Some.is ∙ c.name_refusal.ensures)

pub returns-in_default-listed : goal.returns-in_default-listed
returns-in_default-listed c w is =
    let s = c.lists-list.result in
    let list = listed s.ops.now s.deletes.now s.completed.now s.tickets.now s.next_op s.restores.now c.args.progress.now c.lists-list.ensures.valid c.lists-list.ensures.view in (
      refl,
      named (goal.at.returns-in_default-listed c).After-listed w is,
      source_unlisted s.ops.now s.deletes.now c.args.progress.now (root_of c.args.root.now) c.args.term c.args.next.number list w is c.args.source.now c.listed.result c.listed.ensures c.in_default-listed.is,
    )

pub returns-in-Some-source_refusal : goal.returns-in-Some-source_refusal
returns-in-Some-source_refusal c w is =
    let s = c.lists-list.result in
    let root = root_of c.args.root.now in
    let uuid = c.in-Some-listed.uuid in
    let at = goal.at.returns-in-Some-source_refusal c in
    let missing = c.first_missing-missing.ensures ∙ ap (λ (ns : List Bytes). position (lacks_index root.indices uuid.number) ns) c.as_slice.ensures in
    source_refused s.ops.now s.deletes.now s.completed.now s.tickets.now s.next_op s.restores.now c.args.progress.now c.lists-list.ensures.view
    c.lists-list.ensures.valid root c.args.term c.args.next.number w is c.args.source.now c.args.name.now c.args.indices.now
    (named at.After-listed w is) uuid.number (there at.After-source_refusal w is) c.deleting.result c.first_missing-missing.result
    c.deleting.ensures missing c.in-Some-source_refusal.refusal (sym c.in-Some-source_refusal.is ∙ c.source_refusal.ensures)

pub returns-then-is_full : goal.returns-then-is_full
returns-then-is_full c w is =
    let s = c.lists-list.result in
    let list = listed s.ops.now s.deletes.now s.completed.now s.tickets.now s.next_op s.restores.now c.args.progress.now c.lists-list.ensures.valid c.lists-list.ensures.view in
    let at = goal.at.returns-then-is_full c in (
      refl,
      (
        c.in-Some-listed.uuid.number,
        clone at.After-is_full w is (named at.After-listed w is) (there at.After-source_refusal w is),
        full_is s.ops.now s.deletes.now c.args.progress.now (root_of c.args.root.now) c.args.term c.args.next.number list w is (sym c.is_full.ensures ∙ c.if-is_full.true),
      ),
    )

pub returns-then-is_last : goal.returns-then-is_last
returns-then-is_last c w is =
    let s = c.lists-list.result in
    let list = listed s.ops.now s.deletes.now s.completed.now s.tickets.now s.next_op s.restores.now c.args.progress.now c.lists-list.ensures.valid c.lists-list.ensures.view in
    let at = goal.at.returns-then-is_last c in (
      sym is.next_is,
      (
        c.in-Some-listed.uuid.number,
        clone at.After-is_full w is (named at.After-listed w is) (there at.After-source_refusal w is),
        room_is s.ops.now s.deletes.now c.args.progress.now (root_of c.args.root.now) c.args.term c.args.next.number list w is (sym c.is_full.ensures ∙ c.if-is_full.false),
        ids_spent s.ops.now s.deletes.now c.args.progress.now (root_of c.args.root.now) c.args.term c.args.next.number list w is (sym c.is_last.ensures ∙ c.if-is_last.true),
      ),
    )

pub returns : goal.returns
returns c w is =
    let s = c.lists-list.result in
    let list = listed s.ops.now s.deletes.now s.completed.now s.tickets.now s.next_op s.restores.now c.args.progress.now c.lists-list.ensures.valid c.lists-list.ensures.view in
    let at = goal.at.returns c in (
      clone at.After-is_full w is (named at.After-listed w is) (there at.After-source_refusal w is),
      room_is s.ops.now s.deletes.now c.args.progress.now (root_of c.args.root.now) c.args.term c.args.next.number list w is (sym c.is_full.ensures ∙ c.if-is_full.false),
      id_left s.ops.now s.deletes.now c.args.progress.now (root_of c.args.root.now) c.args.term c.args.next.number list w is (sym c.is_last.ensures ∙ c.if-is_last.false),
    )
