use Rattle.std.proofs.Common.{inr, refl, [], ◌∷◌, ◌∙◌, subst}
use Rattle.std.proofs.lemmas.Result.{on_ok_weaker}
use Rattle.esr_model.specs.Names.{BlobName, IndexMeta}
use Rattle.esr_names.specs.Layout.{IsName}
use Rattle.esr_model.specs.Values.{Bytes}
use Rattle.esr_formats.specs.Refs.{ref_of_code}
use Rattle.esr_desk.specs.Start.{formats_of, ticket_of}
use Rattle.esr_finish.specs.Blobs.{index_blob}
use Rattle.esr_finish.specs.Ticket.{Puts}
use Rattle.esr_finish.specs.Runs.{went_not}
use Rattle.esr_finish.proofs.Blobs.{index_blob_is}
use Rattle.esr_finish.proofs.Writing.{may_store}
use Rattle.esr_finish.proofs.metadata.put_index.Goals as goal

pub returns-in_err-text-clause-went : goal.returns-in_err-text-clause-went
returns-in_err-text-clause-went g c = went_not g.Q.Desk.start (g.Q.Desk.seen c.args.desk.now) c.args.ticket

pub put-requires-clause-layout : goal.put-requires-clause-layout
unfolding IsName
put-requires-clause-layout g c κs within = tt

pub put-requires-clause-may : goal.put-requires-clause-may
put-requires-clause-may g c κs within =
    let s = g.Q.Desk.start in
    may_store s (ticket_of s (g.Q.Desk.seen c.args.desk.now) c.args.ticket) (index_blob (formats_of s) c.args.uuid.number (ref_of_code c.args.index.now)) (IndexMeta c.args.index.now.id.number c.args.uuid.number) c.as_slice.result.now
    (index_blob_is s c.args.index.now c.args.uuid.number c.as_slice.result.now (c.as_slice.ensures ∙ c.in_ok-text.ensures)) c.requires.may (λ same. cc) (c.args.uuid.number, inr (inr (c.args.index.now.id.number, refl)))

pub returns-clause-ok : goal.returns-clause-ok
returns-clause-ok g c =
    let s = g.Q.Desk.start in
    let is = index_blob_is s c.args.index.now c.args.uuid.number c.as_slice.result.now (c.as_slice.ensures ∙ c.in_ok-text.ensures) in
    on_ok_weaker c.put.result (λ puts. subst (λ (b : BlobName × Bytes). Puts s (g.Q.Desk.seen c.args.desk.now) (g.Q.Desk.seen c.put.new.desk) c.args.ticket (b ∷ [])) is puts) c.put.ensures.ok
