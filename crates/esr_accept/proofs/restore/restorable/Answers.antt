use Rattle.std.proofs.Common.{option_map, sym, ap, ◌∙◌, refl}
use Rattle.esr_formats.specs.Ids.{number_of}
use Rattle.esr_formats.specs.Roots.{root_of}
use Rattle.esr_accept.proofs.Restorables.{full_is, room_is, being_deleted, is_spared, is_listed, not_listed}
use Rattle.esr_accept.proofs.restore.restorable.Goals as goal

pub returns-in_default : goal.returns-in_default
returns-in_default c w is root_is =
    (refl, not_listed w (root_of c.args.root.now) root_is c.args.name.now (sym c.listed.ensures ∙ ap (option_map number_of) c.in_default.is))

pub returns-in-Some-deleting : goal.returns-in-Some-deleting
returns-in-Some-deleting c w is root_is =
    let s = c.lists-list.result in
    let listed = sym c.listed.ensures ∙ ap (option_map number_of) c.in-Some.is in
    let found = sym c.deleting.ensures ∙ c.in-Some-deleting.is in (
      c.in-Some.uuid.number,
      is_listed w (root_of c.args.root.now) root_is c.args.name.now c.in-Some.uuid.number listed,
      being_deleted s.ops.now s.deletes.now s.completed.now s.tickets.now s.next_op s.restores.now c.args.progress.now c.lists-list.ensures.view c.lists-list.ensures.valid w is c.in-Some.uuid.number c.in-Some-deleting.op found,
    )

pub returns-then-is_full : goal.returns-then-is_full
returns-then-is_full c w is root_is =
    let s = c.lists-list.result in
    let listed = sym c.listed.ensures ∙ ap (option_map number_of) c.in-Some.is in
    let none = sym c.deleting.ensures ∙ c.in_default-deleting.is in
    let full = sym c.is_full.ensures ∙ c.if-is_full.true in (
      refl,
      (
        c.in-Some.uuid.number,
        is_listed w (root_of c.args.root.now) root_is c.args.name.now c.in-Some.uuid.number listed,
        is_spared s.ops.now s.deletes.now s.completed.now s.tickets.now s.next_op s.restores.now c.args.progress.now c.lists-list.ensures.view c.lists-list.ensures.valid w is c.in-Some.uuid.number none,
        full_is s.ops.now s.deletes.now s.completed.now s.tickets.now s.next_op s.restores.now c.args.progress.now c.lists-list.ensures.view c.lists-list.ensures.valid w is full,
      ),
    )

pub returns : goal.returns
returns c w is root_is =
    let s = c.lists-list.result in
    let listed = sym c.listed.ensures ∙ ap (option_map number_of) c.in-Some.is in
    let none = sym c.deleting.ensures ∙ c.in_default-deleting.is in
    let room = sym c.is_full.ensures ∙ c.if-is_full.false in (
      is_listed w (root_of c.args.root.now) root_is c.args.name.now c.in-Some.uuid.number listed,
      is_spared s.ops.now s.deletes.now s.completed.now s.tickets.now s.next_op s.restores.now c.args.progress.now c.lists-list.ensures.view c.lists-list.ensures.valid w is c.in-Some.uuid.number none,
      room_is s.ops.now s.deletes.now s.completed.now s.tickets.now s.next_op s.restores.now c.args.progress.now c.lists-list.ensures.view c.lists-list.ensures.valid w is room,
    )
