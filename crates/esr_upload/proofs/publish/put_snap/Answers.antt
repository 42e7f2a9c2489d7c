use Rattle.std.proofs.Common.{sym, ap, ◌∙◌, subst}
use Rattle.esr_names.specs.declared.ids.Id.{Id}
use Rattle.esr_model.specs.Names.{ShardSnap}
use Rattle.esr_names.specs.Layout.{IsName}
use Rattle.esr_model.specs.Values.{Has}
use Rattle.esr_desk.specs.Start.{formats_of, ticket_of}
use Rattle.esr_upload.specs.Runs.{went_none}
use Rattle.esr_upload.proofs.Pieces.{own_can}
use Rattle.esr_upload.proofs.Putting.{snap_numbered}
use Rattle.esr_upload.proofs.publish.put_snap.Goals as goal

pub returns-in_err-text-clause-went : goal.returns-in_err-text-clause-went
returns-in_err-text-clause-went g c = went_none g.Q.Desk.start (g.Q.Desk.seen c.args.desk.now) c.args.ticket

pub put_own-requires-clause-layout : goal.put_own-requires-clause-layout
unfolding IsName
put_own-requires-clause-layout g c κs within = c.requires.few

pub put_own-requires-clause-may : goal.put_own-requires-clause-may
put_own-requires-clause-may g c κs within =
    let t = ticket_of g.Q.Desk.start (g.Q.Desk.seen c.args.desk.now) c.args.ticket in
    own_can g.Q.Desk.start t c.args.at.index.number c.args.at.number (ShardSnap c.args.at.index.number c.args.at.number c.uuid.result.number) c.as_slice.result.now c.requires.work
    (λ same. cc) (c.requires.work.work, ap (λ (u : Id). u.number) c.uuid.ensures ∙ sym c.requires.uuid)
    (λ index number is. snap_numbered (formats_of g.Q.Desk.start) g.Q.Desk.start.part_size t number c.args.at.index.number c.args.at.number c.uuid.result.number t.source)
    (λ noted. c.requires.unnoted (subst (λ (u : Id). Has t.noted (ShardSnap c.args.at.index.number c.args.at.number u.number)) c.uuid.ensures noted))

pub put_own-requires-clause-work : goal.put_own-requires-clause-work
put_own-requires-clause-work g c κs within = (c.args.at.index.number, c.args.at.number, c.requires.work.work)
