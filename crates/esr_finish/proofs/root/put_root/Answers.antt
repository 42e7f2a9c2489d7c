use Rattle.std.proofs.Common.{[], ◌∷◌, refl, ◌∙◌, subst, sym}
use Rattle.esr_core.specs.World.{Ticket}
use Rattle.esr_model.specs.Names.{Root}
use Rattle.esr_model.specs.Values.{Bytes}
use Rattle.esr_names.specs.Layout.{IsName}
use Rattle.esr_formats.specs.Roots.{root_of}
use Rattle.esr_desk.specs.Start.{formats_of, ticket_of}
use Rattle.esr_finish.specs.Blobs.{root_blob}
use Rattle.esr_finish.specs.Ticket.{Wrote, IsUnnoted}
use Rattle.esr_finish.proofs.Blobs.{root_text_is}
use Rattle.esr_unit.specs.declared.trouble.Trouble.TheVariants.{Step}
use Rattle.esr_finish.specs.Refused.{IsPutRefused}
use Rattle.esr_finish.specs.Runs.{taken_on, went_on}
use Rattle.esr_finish.proofs.Runs.{raise_went}
use Rattle.esr_finish.proofs.Stopping.{writing_refused}
use Rattle.esr_finish.proofs.Writing.{root_commits}
use Rattle.esr_core.specs.Entry.{RaiseStep, RaisedTo}
use Rattle.esr_desk.specs.Told.{raise_fresh, raise_tells}
use Rattle.esr_unit.specs.Refusals.{passed_on}
use Rattle.esr_finish.proofs.root.put_root.Goals as goal

pub put-requires-clause-layout : goal.put-requires-clause-layout
unfolding IsName
put-requires-clause-layout g c κs within = c.in_ok-generation.ensures.range

pub put-requires-clause-may : goal.put-requires-clause-may
put-requires-clause-may g c κs within =
    let s = g.Q.Desk.start in
    let root = root_of c.args.root.now in
    let n = c.in_ok-generation.generation in
    let can =
    root_commits s (ticket_of s (g.Q.Desk.seen c.args.desk.now) c.args.ticket) (ticket_of s (g.Q.Desk.seen c.raise.new.self) c.args.ticket) root n c.as_slice.result.now c.requires.may c.in_ok-generation.ensures.own
    (root_text_is s n root c.as_slice.result.now (c.as_slice.ensures ∙ c.in_ok-text.ensures.text)) in
    (c.as_slice.result.now, refl, can)

pub returns-clause-ok : goal.returns-clause-ok
returns-clause-ok g c =
    let s = g.Q.Desk.start in
    let root = root_of c.args.root.now in
    let n = c.in_ok-generation.generation in
    let t1 = ticket_of s (g.Q.Desk.seen c.raise.new.self) c.args.ticket in
    let t2 = ticket_of s (g.Q.Desk.seen c.put.new.desk) c.args.ticket in
    let text = root_text_is s n root c.as_slice.result.now (c.as_slice.ensures ∙ c.in_ok-text.ensures.text) in
    subst (λ (t : Ticket). Wrote t t2 (root_blob (formats_of s) n root ∷ [])) c.in_ok-generation.ensures.own
    (subst (λ (b : Bytes). Wrote t1 t2 ((Root n, b) ∷ [])) text c.in_ok-put.ensures.ok)

pub returns-in_err-generation-clause-went : goal.returns-in_err-generation-clause-went
returns-in_err-generation-clause-went g c =
    raise_went g.Q.Desk.start (g.Q.Desk.seen c.args.desk.now) (g.Q.Desk.seen c.raise.new.self) c.args.ticket c.raise.result c.raise.ensures.step c.raise.ensures.own c.raise.ensures.kept

pub raise-requires-clause-new : goal.raise-requires-clause-new
raise-requires-clause-new g c = raise_fresh g.Q.Desk.start (g.Q.Desk.seen c.args.desk.now) c.args.ticket c.requires.tells c.requires.may.once

pub put-requires-clause-new : goal.put-requires-clause-new
put-requires-clause-new g c κs within =
    let n = c.in_ok-generation.generation in
    subst (λ (t : Ticket). IsUnnoted t (Root n)) (sym c.in_ok-generation.ensures.own) (c.requires.may.unnoted n)

pub put-requires-clause-tells : goal.put-requires-clause-tells
put-requires-clause-tells g c κs within =
    raise_tells g.Q.Desk.start (g.Q.Desk.seen c.args.desk.now) (g.Q.Desk.seen c.raise.new.self) c.args.ticket c.in_ok-generation.generation
    (RaisedTo c.in_ok-generation.generation) c.requires.mine.some c.requires.tells c.in_ok-generation.ensures.step c.in_ok-generation.ensures.own

pub put-requires-clause-mine : goal.put-requires-clause-mine
put-requires-clause-mine g c κs within = taken_on (g.Q.Desk.calls c.args.desk.now) (g.Q.Desk.calls c.raise.new.self) c.args.ticket c.raise.ensures.calls c.requires.mine

pub returns-in_err-generation-clause-refused : goal.returns-in_err-generation-clause-refused
returns-in_err-generation-clause-refused g c =
    let s = g.Q.Desk.start in
    let new = g.Q.Desk.seen c.raise.new.self in
    let refusal = c.in_err-generation.field-0.0 in
    passed_on c.from_residual.result (IsPutRefused s g.Q.Stage.Counted.faults new c.args.ticket) (Step refusal) c.from_residual.ensures.1
    (writing_refused {S = g.row.Q-Stage.Denot} g.row.Q-Fetch.Denot s g.Q.Stage.Counted.faults (g.Q.Desk.seen c.args.desk.now) new c.args.ticket RaiseStep refusal tt (λ fault. refl) c.in_err-generation.ensures.step)

pub returns-in_err-put-clause-calls : goal.returns-in_err-put-clause-calls
returns-in_err-put-clause-calls g c = c.put.ensures.calls ∙ c.raise.ensures.calls

pub returns-clause-calls : goal.returns-clause-calls
returns-clause-calls g c = c.put.ensures.calls ∙ c.raise.ensures.calls

-- ---- how far it went

pub returns-in_err-text-clause-went : goal.returns-in_err-text-clause-went
returns-in_err-text-clause-went g c =
    raise_went g.Q.Desk.start (g.Q.Desk.seen c.args.desk.now) (g.Q.Desk.seen c.raise.new.self) c.args.ticket c.raise.result c.raise.ensures.step c.raise.ensures.own c.raise.ensures.kept

pub returns-in_err-put-clause-went : goal.returns-in_err-put-clause-went
returns-in_err-put-clause-went g c =
    let s = g.Q.Desk.start in
    let old = g.Q.Desk.seen c.args.desk.now in
    let mid = g.Q.Desk.seen c.raise.new.self in
    went_on s old mid (g.Q.Desk.seen c.put.new.desk) c.args.ticket (raise_went s old mid c.args.ticket c.raise.result c.raise.ensures.step c.raise.ensures.own c.raise.ensures.kept) c.put.ensures.went

pub returns-clause-went : goal.returns-clause-went
returns-clause-went g c =
    let s = g.Q.Desk.start in
    let old = g.Q.Desk.seen c.args.desk.now in
    let mid = g.Q.Desk.seen c.raise.new.self in
    went_on s old mid (g.Q.Desk.seen c.put.new.desk) c.args.ticket (raise_went s old mid c.args.ticket c.raise.result c.raise.ensures.step c.raise.ensures.own c.raise.ensures.kept) c.put.ensures.went
