use Rattle.std.proofs.Common.{◌≡◌, ℕ, List, Option, refl, sym, ap, ◌∙◌, le_refl}
use Rattle.esr_core.specs.Entry.{Entry, Step, Refused, Moment}
use Rattle.esr_ops.specs.Plan.{Plan}
use Rattle.esr_desk.specs.Start.{Start, ticket_of}
use Rattle.esr_desk.specs.Own.{own_of, reader_of, caller_of}
use Rattle.esr_desk.specs.declared.refusal.EntryRefusal.{EntryRefusal}
use Rattle.esr_repo.specs.Next.{Added}
use Rattle.esr_repo.specs.Log.{log_of}
use Rattle.esr_desk.specs.Entries.{step_of}
use Rattle.esr_desk.specs.Refusals.{refusal_of}
use Rattle.esr_repo.specs.Repo.{Kept}
use Rattle.esr_repo.specs.Grown.{own_same}
use Rattle.esr_repo.proofs.Plain.{blocked_added, blocked_repo, free_goes, refused_tickets, refused_readers}
use Rattle.esr_repo.proofs.BlobCalls.{Pushed}
use Rattle.esr_repo.proofs.Pasts.{noted_whole}
use Rattle.esr_repo.proofs.Callers.{blocked_caller}
use Rattle.esr_repo.proofs.Blocked.{Tells, block_tells, block_plain, block_no_fault}
use Rattle.esr_repo.proofs.Failing.{blocked_faults}
use Rattle.esr_repo.proofs.Calms.{no_call, calm_goes}
use Rattle.esr_repo.proofs.repo.Repo.check.Goals as goal

pub returns-in_default-clause-step : goal.returns-in_default-clause-step
returns-in_default-clause-step g c =
    let k : Kept = record { cluster = c.self.inside.cluster; root = c.self.inside.root; infos = c.self.inside.infos.items; plan = c.self.inside.progress; next = c.self.inside.next.number } in (
      refl,
      (free_goes (g.D.Depot.look c.self.inside.depot) g.K.Told.start g.K.Told.clock c.self.inside.history.items k c.self.inside.deposed c.args.self.now c.self.invariant.0.repo c.self.view_is c.args.who
          (step_of c.args.step) (sym c.block.ensures ∙ c.in_default.is) c.requires.fresh c.requires.own).0,
    )

pub returns-in_default-clause-goes : goal.returns-in_default-clause-goes
returns-in_default-clause-goes g c =
    let k : Kept = record { cluster = c.self.inside.cluster; root = c.self.inside.root; infos = c.self.inside.infos.items; plan = c.self.inside.progress; next = c.self.inside.next.number } in
    (free_goes (g.D.Depot.look c.self.inside.depot) g.K.Told.start g.K.Told.clock c.self.inside.history.items k c.self.inside.deposed c.args.self.now c.self.invariant.0.repo c.self.view_is c.args.who
    (step_of c.args.step) (sym c.block.ensures ∙ c.in_default.is) c.requires.fresh c.requires.own).1

pub returns-then-is_err-clause-own : goal.returns-then-is_err-clause-own
returns-then-is_err-clause-own g c = λ k. ap (λ (log : List Moment). own_of g.K.Told.start log k) (ap (log_of (g.D.Depot.look c.self.inside.depot) g.K.Told.clock) c.reserve.ensures.items ∙ c.self.view_is)

pub returns-then-is_err-clause-kept : goal.returns-then-is_err-clause-kept
returns-then-is_err-clause-kept g c = λ k. ap (λ (log : List Moment). ticket_of g.K.Told.start log k) (ap (log_of (g.D.Depot.look c.self.inside.depot) g.K.Told.clock) c.reserve.ensures.items ∙ c.self.view_is)

pub returns-then-is_err-clause-readers : goal.returns-then-is_err-clause-readers
returns-then-is_err-clause-readers g c = λ k. ap (λ (log : List Moment). reader_of g.K.Told.start log k) (ap (log_of (g.D.Depot.look c.self.inside.depot) g.K.Told.clock) c.reserve.ensures.items ∙ c.self.view_is)

pub returns-then-is_err-clause-caller : goal.returns-then-is_err-clause-caller
returns-then-is_err-clause-caller g c = ap (λ (log : List Moment). caller_of g.K.Told.start log) (ap (log_of (g.D.Depot.look c.self.inside.depot) g.K.Told.clock) c.reserve.ensures.items ∙ c.self.view_is)

pub invariant_of-self-2 : goal.invariant_of-self-2
invariant_of-self-2 g c =
    let k : Kept = record { cluster = c.self.inside.cluster; root = c.self.inside.root; infos = c.self.inside.infos.items; plan = c.self.inside.progress; next = c.self.inside.next.number } in
    let e : Entry = record { who = c.args.who; step = step_of c.args.step; reply = Refused (refusal_of c.in-Some.refusal) } in
    let tells = block_tells c.self.inside.deposed c.self.inside.progress c.args.who (step_of c.args.step) c.in-Some.refusal (sym c.block.ensures ∙ c.in-Some.is) in
    let plain = block_plain c.self.inside.deposed c.self.inside.progress c.args.who (step_of c.args.step) c.in-Some.refusal tells in
    let p : Pushed c.self.inside.history.items c.reserve.new.self.items c.push_reserved.new.self.items e = record { reserved = c.reserve.ensures.items; pushed = c.push_reserved.ensures.items } in (
      noted_whole c.laws.ensures (g.D.Depot.look c.self.inside.depot) g.K.Told.start g.K.Told.clock g.K.Told.past c.self.inside.history.items c.reserve.new.self.items c.push_reserved.new.self.items e c.self.invariant.0
          (g.met.D.Depot.only_now c.self.inside.depot) plain c.reserve.ensures.items c.push_reserved.ensures.items
          (blocked_repo c.laws.ensures (g.D.Depot.look c.self.inside.depot) g.K.Told.start g.K.Told.clock c.self.inside.history.items c.reserve.new.self.items c.push_reserved.new.self.items k c.self.inside.deposed c.args.self.now e
          c.self.invariant.0.repo c.self.view_is c.reserve.ensures.items c.push_reserved.ensures.items c.in-Some.refusal tells c.requires.fresh c.requires.own refl),
      blocked_faults c.self.invariant.1 p (g.D.Counted.faults c.self.inside.depot) c.self.inside.progress c.in-Some.refusal tells refl (le_refl (g.D.Counted.faults c.self.inside.depot)),
      calm_goes (g.D.Depot.look c.self.inside.depot).sure c.self.invariant.2 p (g.D.Depot.look c.self.inside.depot).sure
          (block_no_fault c.self.inside.deposed c.self.inside.progress c.args.who (step_of c.args.step) c.in-Some.refusal tells) (no_call (g.D.Depot.look c.self.inside.depot).sure),
    )

pub returns-clause-step : goal.returns-clause-step
returns-clause-step g c =
    let k : Kept = record { cluster = c.self.inside.cluster; root = c.self.inside.root; infos = c.self.inside.infos.items; plan = c.self.inside.progress; next = c.self.inside.next.number } in
    let e : Entry = record { who = c.args.who; step = step_of c.args.step; reply = Refused (refusal_of c.in-Some.refusal) } in
    blocked_added c.laws.ensures (g.D.Depot.look c.self.inside.depot) g.K.Told.start g.K.Told.clock c.self.inside.history.items c.reserve.new.self.items c.push_reserved.new.self.items k c.self.inside.deposed c.args.self.now e
    c.self.invariant.0.repo c.self.view_is c.reserve.ensures.items c.push_reserved.ensures.items c.in-Some.refusal
    (block_tells c.self.inside.deposed c.self.inside.progress c.args.who (step_of c.args.step) c.in-Some.refusal (sym c.block.ensures ∙ c.in-Some.is)) c.requires.fresh refl

pub returns-clause-kept : goal.returns-clause-kept
returns-clause-kept g c =
    let plain = block_plain c.self.inside.deposed c.self.inside.progress c.args.who (step_of c.args.step) c.in-Some.refusal
    (block_tells c.self.inside.deposed c.self.inside.progress c.args.who (step_of c.args.step) c.in-Some.refusal (sym c.block.ensures ∙ c.in-Some.is)) in
    refused_tickets g.K.Told.start c.args.self.now _ c.args.who (step_of c.args.step) (refusal_of c.in-Some.refusal) plain (returns-clause-step g c)

pub returns-clause-readers : goal.returns-clause-readers
returns-clause-readers g c =
    let plain = block_plain c.self.inside.deposed c.self.inside.progress c.args.who (step_of c.args.step) c.in-Some.refusal
    (block_tells c.self.inside.deposed c.self.inside.progress c.args.who (step_of c.args.step) c.in-Some.refusal (sym c.block.ensures ∙ c.in-Some.is)) in
    refused_readers g.K.Told.start c.args.self.now _ c.args.who (step_of c.args.step) (refusal_of c.in-Some.refusal) plain (returns-clause-step g c)

pub returns-clause-caller : goal.returns-clause-caller
returns-clause-caller g c =
    blocked_caller c.self.inside.deposed c.self.inside.progress g.K.Told.start c.args.self.now _ c.args.who (step_of c.args.step) c.in-Some.refusal
    (block_tells c.self.inside.deposed c.self.inside.progress c.args.who (step_of c.args.step) c.in-Some.refusal (sym c.block.ensures ∙ c.in-Some.is)) (returns-clause-step g c)

own_after : (d : Option ℕ) (plan : Plan) (s : Start) (old new : List Moment) (who : ℕ) (step : Step) (refusal : EntryRefusal) → Tells d plan who step refusal → Added s old new who step (Refused (refusal_of refusal)) → (k : ℕ)
    → own_of s new k ≡ own_of s old k
own_after d plan s old new who step refusal tells a k =
    let plain = block_plain d plan who step refusal tells in
    own_same s old new k (refused_tickets s old new who step (refusal_of refusal) plain a k) (refused_readers s old new who step (refusal_of refusal) plain a k) (blocked_caller d plan s old new who step refusal tells a)

pub returns-clause-own : goal.returns-clause-own
returns-clause-own g c =
    own_after c.self.inside.deposed c.self.inside.progress g.K.Told.start c.args.self.now _ c.args.who (step_of c.args.step) c.in-Some.refusal
    (block_tells c.self.inside.deposed c.self.inside.progress c.args.who (step_of c.args.step) c.in-Some.refusal (sym c.block.ensures ∙ c.in-Some.is)) (returns-clause-step g c)
