use Rattle.std.proofs.Common.{sym, subst, List}
use Rattle.esr_core.specs.Entry.{Moment}
use Rattle.esr_desk.specs.Conditions.{CanDraw}
use Rattle.esr_desk.specs.Start.{ticket_of}
use Rattle.esr_steps.proofs.Drawing.{may_note_draw, may_refuse_draw, drawn_ticket}
use Rattle.esr_steps.proofs.writing.draw.Goals as goal

pub refuse-requires-clause-may : goal.refuse-requires-clause-may
refuse-requires-clause-may g c =
    may_refuse_draw g.K.Told.start c.check.new.self c.args.ticket c.args.count c.next_id-first.result.number
    (subst (λ (log : List Moment). CanDraw g.K.Told.start (ticket_of g.K.Told.start log c.args.ticket) c.args.count) (sym c.in_ok-check.ensures.step.0) c.requires.may)
    c.next_id-first.ensures.number c.in_default.ensures.next

pub note-requires-clause-may : goal.note-requires-clause-may
note-requires-clause-may g c =
    may_note_draw g.K.Told.start c.check.new.self c.args.ticket c.args.count c.next_id-first.result.number c.in-Some.next.number
    (subst (λ (log : List Moment). CanDraw g.K.Told.start (ticket_of g.K.Told.start log c.args.ticket) c.args.count) (sym c.in_ok-check.ensures.step.0) c.requires.may)
    c.next_id-first.ensures.number c.in-Some.ensures.next.0 c.in-Some.ensures.next.1

pub returns-clause-own : goal.returns-clause-own
returns-clause-own g c =
    drawn_ticket g.K.Told.start c.args.repo.now c.check.new.self c.note.new.self c.args.ticket c.args.count c.next_id-first.result.number c.in_ok-check.ensures.step.0 c.next_id-first.ensures.number c.requires.may.out c.in_ok-note.ensures.step
