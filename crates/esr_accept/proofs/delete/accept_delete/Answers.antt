use Rattle.std.proofs.Common.{map, sym, ap, ◌∙◌}
use Rattle.esr_formats.specs.Ids.{number_of}
use Rattle.esr_core.specs.Deletes.{running_delete}
use Rattle.esr_accept.proofs.DeleteRules.{full_refused, accepts, number_is}
use Rattle.esr_accept.proofs.delete.accept_delete.Goals as goal

pub returns-in-Some : goal.returns-in-Some
returns-in-Some c w is root_is term_is = c.in-Some.ensures w is root_is (c.in_ok-uuids.ensures.named w is root_is)

pub returns-then-lacks_room : goal.returns-then-lacks_room
returns-then-lacks_room c w is root_is term_is =
    let names = c.args.names.now in
    let named = c.in_ok-uuids.ensures.named w is root_is in
    let may = c.in_default.ensures w is root_is named in
    full_refused w names (map number_of c.in_ok-uuids.uuids) named c.waiting_delete-waiting.result c.running_delete-running.result (c.waiting_delete-waiting.ensures w is term_is) (c.running_delete-running.ensures w is root_is term_is)
    may (sym (c.lacks_room.ensures w is) ∙ c.if-lacks_room.true)

pub returns : goal.returns
returns c w is root_is term_is =
    let names = c.args.names.now in
    let waiting = c.waiting_delete-waiting.result in
    let running = c.running_delete-running.result in
    let named = c.in_ok-uuids.ensures.named w is root_is in
    let may = c.in_default.ensures w is root_is named in
    let waits = c.waiting_delete-waiting.ensures w is term_is in
    let runs = c.running_delete-running.ensures w is root_is term_is in (
      accepts w names (map number_of c.in_ok-uuids.uuids) named waiting running waits runs may (sym (c.lacks_room.ensures w is) ∙ c.if-lacks_room.false),
      number_is w names (map number_of c.in_ok-uuids.uuids) named waiting running waits runs c.next_op.result c.number_by-op.result (c.next_op.ensures ∙ is.next_op) c.number_by-op.ensures,
      c.in_ok-after.ensures w names is term_is named waits (runs ∙ ap (running_delete w) named),
    )
