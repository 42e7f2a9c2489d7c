use Rattle.esr_core.specs.Entry.{Refused, DepotFault, BeginStep, LatestStep, WasBegun, WasReplaced, Moment}
use Rattle.esr_names.specs.Layout.{IsName}
use Rattle.esr_model.specs.Names.{Latest}
use Rattle.std.proofs.Common.{◌≡◌, List, Err, sym, ap, ◌∙◌, subst}
use Rattle.esr_desk.specs.declared.refusal.EntryRefusal.{EntryRefusal}
use Rattle.esr_desk.specs.declared.refusal.EntryRefusal.TheVariants as refusals
use Rattle.esr_desk.specs.declared.refusal.StepRefusal.{StepRefusal}
use Rattle.esr_desk.specs.declared.refusal.StepRefusal.TheVariants as steps
use Rattle.esr_desk.specs.Refusals.{told_refusal}
use Rattle.esr_desk.specs.Outcome.{Refusing}
use Rattle.esr_desk.specs.Taken.{tried, begun_by, tried_by}
use Rattle.esr_desk.specs.Start.{ticket_of}
use Rattle.esr_desk.specs.Grew.{outcome_grew_by}
use Rattle.esr_desk.specs.Delete.Cleaned.{latest_put}
use Rattle.esr_unit.specs.Fetch.{IsRefusedBy}
use Rattle.esr_finish.specs.Went.{Went}
use Rattle.esr_finish.proofs.Stopping.{writing_refused, fault_only, no_fault}
use Rattle.esr_finish.specs.Runs.{taken_on, went_on, worked_not}
use Rattle.esr_finish.proofs.Runs.{worked_to, tried_by_worked, begin_went}
use Rattle.esr_desk.specs.Told.{latest_begin_fresh, latest_fresh, latest_begin_tells, latest_tells}
use Rattle.esr_finish.proofs.root.try_latest.Goals as goal
use Rattle.esr_finish.proofs.root.try_latest.Goals.{In-Ok, In-Err-Refused-DepotFault}

pub begin-requires-clause-layout : goal.begin-requires-clause-layout
unfolding IsName
begin-requires-clause-layout g c = tt

-- how far it went after the begin
begun_went : (g : _) (c : In-Ok g) (new : List Moment) → Went g.Q.Desk.start (g.Q.Desk.seen c.begin.new.self) new c.args.ticket → Went g.Q.Desk.start (g.Q.Desk.seen c.args.desk.now) new c.args.ticket
begun_went g c new went =
    let s = g.Q.Desk.start in
    let old = g.Q.Desk.seen c.args.desk.now in
    let mid = g.Q.Desk.seen c.begin.new.self in
    let who = c.args.ticket in
    let t0 = ticket_of s old who in
    went_on s old mid new who
    (record { grew = outcome_grew_by s old mid who (BeginStep Latest) (λ stage. WasBegun) c.begin.result c.begin.ensures.step; worked = worked_to t0 t0 (ticket_of s mid who) (worked_not t0) c.in-Ok.ensures.own })
    went

pub returns-else-is_fault-clause-went : goal.returns-else-is_fault-clause-went
returns-else-is_fault-clause-went g c =
    let s = g.Q.Desk.start in
    let mid = g.Q.Desk.seen c.begin.new.self in
    let new = g.Q.Desk.seen c.latest.new.self in
    let t = ticket_of s mid c.args.ticket in
    begun_went g (goal.at.returns-else-is_fault-clause-went g c).In-Ok new
    (record { grew = outcome_grew_by s mid new c.args.ticket LatestStep (λ done. WasReplaced) c.latest.result c.latest.ensures.step; worked = worked_to t _ (ticket_of s new c.args.ticket) (tried_by_worked t c.latest.result) c.latest.ensures.own })

pub begin-requires-clause-new : goal.begin-requires-clause-new
begin-requires-clause-new g c = latest_begin_fresh g.Q.Desk.start (g.Q.Desk.seen c.args.desk.now) c.args.ticket c.requires.tells c.requires.untried

pub latest-requires-clause-new : goal.latest-requires-clause-new
latest-requires-clause-new g c = latest_fresh g.Q.Desk.start (g.Q.Desk.seen c.args.desk.now) (g.Q.Desk.seen c.begin.new.self) c.args.ticket c.requires.mine.some c.requires.tells c.requires.untried c.in-Ok.ensures.step

-- the container failed in the begin
fault_is : (g : _) (c : In-Err-Refused-DepotFault g) → c.in-Err-Refused-DepotFault.field-0 ≡ steps.Refused refusals.DepotFault
fault_is g c =
    let refused = c.in-Err-Refused-DepotFault in
    let inner : refused.field-0-0 ≡ refusals.DepotFault = rw refused.field-0-is at refused.field-0-0-is in
    refused.field-0-is ∙ ap (λ (e : EntryRefusal). steps.Refused e) inner

pub returns-in-Err-Refused-DepotFault-clause-tells : goal.returns-in-Err-Refused-DepotFault-clause-tells
returns-in-Err-Refused-DepotFault-clause-tells g c =
    let s = g.Q.Desk.start in
    let old = g.Q.Desk.seen c.args.desk.now in
    let new = g.Q.Desk.seen c.begin.new.self in
    let who = c.args.ticket in
    let is = fault_is g (goal.at.returns-in-Err-Refused-DepotFault-clause-tells g c).In-Err-Refused-DepotFault in
    latest_begin_tells s old new who (Refused DepotFault) c.requires.mine.some c.requires.tells
    (subst (λ (e : StepRefusal). Refusing s old new who (BeginStep Latest) (told_refusal e)) is c.in-Err-Refused-DepotFault.ensures.step.0)
    (subst (λ (e : StepRefusal). ticket_of s new who ≡ begun_by {X = Unit {0}} Latest (Err e) (ticket_of s old who)) is c.in-Err-Refused-DepotFault.ensures.own)

pub returns-in-Err-clause-went : goal.returns-in-Err-clause-went
returns-in-Err-clause-went g c =
    begin_went g.Q.Desk.start (g.Q.Desk.seen c.args.desk.now) (g.Q.Desk.seen c.begin.new.self) c.args.ticket Latest c.begin.result c.begin.ensures.step c.begin.ensures.own

pub returns-in-Err-Refused-DepotFault-clause-went : goal.returns-in-Err-Refused-DepotFault-clause-went
returns-in-Err-Refused-DepotFault-clause-went g c =
    begin_went g.Q.Desk.start (g.Q.Desk.seen c.args.desk.now) (g.Q.Desk.seen c.begin.new.self) c.args.ticket Latest c.begin.result c.begin.ensures.step c.begin.ensures.own

pub returns-then-is_err-clause-went : goal.returns-then-is_err-clause-went
returns-then-is_err-clause-went g c =
    begin_went g.Q.Desk.start (g.Q.Desk.seen c.args.desk.now) (g.Q.Desk.seen c.begin.new.self) c.args.ticket Latest c.begin.result c.begin.ensures.step c.begin.ensures.own

pub returns-in-Ok-latest-clause-went : goal.returns-in-Ok-latest-clause-went
returns-in-Ok-latest-clause-went g c =
    let s = g.Q.Desk.start in
    let mid = g.Q.Desk.seen c.begin.new.self in
    let new = g.Q.Desk.seen c.latest.new.self in
    let t = ticket_of s mid c.args.ticket in
    begun_went g (goal.at.returns-in-Ok-latest-clause-went g c).In-Ok new
    (record { grew = outcome_grew_by s mid new c.args.ticket LatestStep (λ done. WasReplaced) c.latest.result c.latest.ensures.step; worked = worked_to t _ (ticket_of s new c.args.ticket) (tried_by_worked t c.latest.result) c.latest.ensures.own })

pub returns-in-Ok-latest-clause-tells : goal.returns-in-Ok-latest-clause-tells
returns-in-Ok-latest-clause-tells g c =
    let s = g.Q.Desk.start in
    latest_tells s (g.Q.Desk.seen c.args.desk.now) (g.Q.Desk.seen c.begin.new.self)
    (g.Q.Desk.seen c.latest.new.self) c.args.ticket WasReplaced c.requires.mine.some c.requires.tells c.in-Ok.ensures.step c.in-Ok.ensures.own c.in-Ok-latest.ensures.step c.in-Ok-latest.ensures.own

pub returns-then-is_fault-clause-tells : goal.returns-then-is_fault-clause-tells
returns-then-is_fault-clause-tells g c =
    let s = g.Q.Desk.start in
    let mid = g.Q.Desk.seen c.begin.new.self in
    let new = g.Q.Desk.seen c.latest.new.self in
    let who = c.args.ticket in
    let is = fault_only c.in-Err-latest.refusal (sym c.is_fault.ensures ∙ c.if-is_fault.true) in
    latest_tells s (g.Q.Desk.seen c.args.desk.now) mid new who (Refused DepotFault) c.requires.mine.some c.requires.tells c.in-Ok.ensures.step c.in-Ok.ensures.own
    (subst (λ (e : StepRefusal). Refusing s mid new who LatestStep (told_refusal e)) is c.in-Err-latest.ensures.step.0)
    (subst (λ (e : StepRefusal). ticket_of s new who ≡ tried_by {X = Unit {0}} (Err e) (ticket_of s mid who)) is c.in-Err-latest.ensures.own)

pub returns-then-is_fault-clause-went : goal.returns-then-is_fault-clause-went
returns-then-is_fault-clause-went g c =
    let s = g.Q.Desk.start in
    let mid = g.Q.Desk.seen c.begin.new.self in
    let new = g.Q.Desk.seen c.latest.new.self in
    let t = ticket_of s mid c.args.ticket in
    begun_went g (goal.at.returns-then-is_fault-clause-went g c).In-Ok new
    (record { grew = outcome_grew_by s mid new c.args.ticket LatestStep (λ done. WasReplaced) c.latest.result c.latest.ensures.step; worked = worked_to t _ (ticket_of s new c.args.ticket) (tried_by_worked t c.latest.result) c.latest.ensures.own })

pub latest-requires-clause-mine : goal.latest-requires-clause-mine
latest-requires-clause-mine g c = taken_on (g.Q.Desk.calls c.args.desk.now) (g.Q.Desk.calls c.begin.new.self) c.args.ticket c.begin.ensures.calls c.requires.mine

pub returns-in-Ok-latest-clause-calls : goal.returns-in-Ok-latest-clause-calls
returns-in-Ok-latest-clause-calls g c = c.latest.ensures.calls ∙ c.begin.ensures.calls

pub returns-then-is_fault-clause-calls : goal.returns-then-is_fault-clause-calls
returns-then-is_fault-clause-calls g c = c.latest.ensures.calls ∙ c.begin.ensures.calls

pub returns-else-is_fault-clause-calls : goal.returns-else-is_fault-clause-calls
returns-else-is_fault-clause-calls g c = c.latest.ensures.calls ∙ c.begin.ensures.calls

pub returns-then-is_fault-clause-ok : goal.returns-then-is_fault-clause-ok
returns-then-is_fault-clause-ok g c =
    let s = g.Q.Desk.start in
    let mid = g.Q.Desk.seen c.begin.new.self in
    let new = g.Q.Desk.seen c.latest.new.self in
    let who = c.args.ticket in
    let is = fault_only c.in-Err-latest.refusal (sym c.is_fault.ensures ∙ c.if-is_fault.true) in
    subst (λ (e : StepRefusal). ticket_of s new who ≡ tried_by {X = Unit {0}} (Err e) (ticket_of s mid who)) is c.in-Err-latest.ensures.own ∙ ap tried c.in-Ok.ensures.own

pub returns-else-is_fault-clause-refused : goal.returns-else-is_fault-clause-refused
returns-else-is_fault-clause-refused g c =
    let refusal = c.in-Err-latest.refusal in
    writing_refused {S = g.row.Q-Stage.Denot} g.row.Q-Fetch.Denot g.Q.Desk.start g.Q.Stage.Counted.faults (g.Q.Desk.seen c.begin.new.self) (g.Q.Desk.seen c.latest.new.self) c.args.ticket LatestStep refusal tt
    (λ fault. absurd (no_fault refusal (sym c.is_fault.ensures ∙ c.if-is_fault.false) fault)) c.in-Err-latest.ensures.step

-- ---- whether it was replaced

pub returns-in-Err-Refused-DepotFault-clause-put : goal.returns-in-Err-Refused-DepotFault-clause-put
returns-in-Err-Refused-DepotFault-clause-put g c =
    let s = g.Q.Desk.start in
    let old = g.Q.Desk.seen c.args.desk.now in
    let new = g.Q.Desk.seen c.begin.new.self in
    let who = c.args.ticket in
    let is = fault_is g (goal.at.returns-in-Err-Refused-DepotFault-clause-put g c).In-Err-Refused-DepotFault in
    let step = subst (λ (e : StepRefusal). IsRefusedBy s old new who (BeginStep Latest) e) is c.in-Err-Refused-DepotFault.ensures.step in
    (old, BeginStep Latest, step.0, tt, step.1)

pub returns-in-Ok-latest-clause-put : goal.returns-in-Ok-latest-clause-put
returns-in-Ok-latest-clause-put g c =
    latest_put g.Q.Desk.start (g.Q.Desk.seen c.begin.new.self) (g.Q.Desk.seen c.latest.new.self) c.args.ticket c.requires.mine.some c.in-Ok-latest.ensures.step

pub returns-then-is_fault-clause-put : goal.returns-then-is_fault-clause-put
returns-then-is_fault-clause-put g c =
    let s = g.Q.Desk.start in
    let mid = g.Q.Desk.seen c.begin.new.self in
    let new = g.Q.Desk.seen c.latest.new.self in
    let who = c.args.ticket in
    let is = fault_only c.in-Err-latest.refusal (sym c.is_fault.ensures ∙ c.if-is_fault.true) in
    let step = subst (λ (e : StepRefusal). IsRefusedBy s mid new who LatestStep e) is c.in-Err-latest.ensures.step in
    (mid, LatestStep, step.0, tt, step.1)
