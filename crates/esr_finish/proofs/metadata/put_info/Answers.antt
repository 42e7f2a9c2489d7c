use Rattle.std.proofs.Common.{inl, refl, [], ◌∷◌, ap, ◌∙◌, sym, subst}
use Rattle.std.proofs.lemmas.Result.{on_ok_weaker}
use Rattle.esr_model.specs.Names.{BlobName, Snap}
use Rattle.esr_names.specs.Layout.{IsName}
use Rattle.esr_model.specs.Values.{Bytes}
use Rattle.esr_meta.specs.Info.{Info}
use Rattle.esr_formats.specs.Infos.{info_of_code}
use Rattle.esr_desk.specs.Start.{formats_of, ticket_of}
use Rattle.esr_finish.specs.Blobs.{info_blob}
use Rattle.esr_finish.specs.Ticket.{Puts, IsUnnoted}
use Rattle.esr_finish.specs.Runs.{went_not}
use Rattle.esr_finish.proofs.Blobs.{info_blob_is}
use Rattle.esr_finish.proofs.Writing.{may_store}
use Rattle.esr_finish.proofs.metadata.put_info.Goals as goal

pub returns-in_err-text-clause-went : goal.returns-in_err-text-clause-went
returns-in_err-text-clause-went g c = went_not g.Q.Desk.start (g.Q.Desk.seen c.args.desk.now) c.args.ticket

pub put-requires-clause-layout : goal.put-requires-clause-layout
unfolding IsName
put-requires-clause-layout g c κs within = tt

pub put-requires-clause-may : goal.put-requires-clause-may
put-requires-clause-may g c κs within =
    let s = g.Q.Desk.start in
    may_store s (ticket_of s (g.Q.Desk.seen c.args.desk.now) c.args.ticket) (info_blob (formats_of s) (info_of_code c.args.info.now)) (Snap c.info.inside.uuid.number) c.as_slice.result.now
    (info_blob_is s c.args.info.now c.info.inside.uuid c.as_slice.result.now (ap (λ (i : Info). i.uuid) c.info.view_is) (c.as_slice.ensures ∙ c.in_ok-text.ensures.text)) c.requires.may (λ same. cc) (c.args.info.now.uuid.number, inl refl)

pub returns-clause-ok : goal.returns-clause-ok
returns-clause-ok g c =
    let s = g.Q.Desk.start in
    let is = info_blob_is s c.args.info.now c.info.inside.uuid c.as_slice.result.now (ap (λ (i : Info). i.uuid) c.info.view_is) (c.as_slice.ensures ∙ c.in_ok-text.ensures.text) in
    on_ok_weaker c.put.result (λ puts. subst (λ (b : BlobName × Bytes). Puts s (g.Q.Desk.seen c.args.desk.now) (g.Q.Desk.seen c.put.new.desk) c.args.ticket (b ∷ [])) is puts) c.put.ensures.ok

pub put-requires-clause-new : goal.put-requires-clause-new
put-requires-clause-new g c κs within =
    let t = ticket_of g.Q.Desk.start (g.Q.Desk.seen c.args.desk.now) c.args.ticket in
    subst (λ (i : Info). IsUnnoted t (Snap i.uuid.number)) (sym c.info.view_is) c.requires.new
