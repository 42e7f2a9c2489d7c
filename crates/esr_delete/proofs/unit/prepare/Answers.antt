use Rattle.std.proofs.Common.{◌≡◌, Bool, true, false, true≢false, List, None, map, sym, ap, ◌∙◌, subst}
use Rattle.esr_core.specs.World.{Ticket, Deleting}
use Rattle.esr_core.specs.Allowed.{HasPutLatest}
use Rattle.esr_core.specs.Entry.{Moment}
use Rattle.esr_core.specs.Pruning.{dooms}
use Rattle.esr_model.specs.Values.{RootData}
use Rattle.esr_formats.specs.Ids.{number_of}
use Rattle.esr_formats.specs.Names.{name_of}
use Rattle.esr_formats.specs.Roots.{root_of}
use Rattle.esr_results.specs.Pruned.{pruned_of}
use Rattle.esr_desk.specs.declared.hand.Hand.TheVariants as hands
use Rattle.esr_desk.specs.Delete.Conditions.{CanSettleDelete}
use Rattle.esr_desk.specs.Evidence.{evidence}
use Rattle.esr_desk.specs.Start.{formats_of, ticket_of, world_of}
use Rattle.esr_unit.specs.Shown.{Shown}
use Rattle.esr_unit.specs.Refusals.{passed_on}
use Rattle.esr_finish.specs.Runs.{taken_on}
use Rattle.esr_delete.specs.Gathered.{IsUnplanned}
use Rattle.esr_finish.specs.Went.{Went as PutWent}
use Rattle.esr_delete.specs.Planned.{NotesOwn, IsUnwritten, IsIndexed}
use Rattle.esr_delete.specs.Ticket.{IsReady, HasWritten}
use Rattle.esr_delete.specs.Went.{Went}
use Rattle.esr_delete.specs.declared.doom.Written.{Written}
use Rattle.esr_delete.proofs.Going.{put_shown, uuids_same}
use Rattle.esr_delete.proofs.Preparing.{read_free, unwritten, indexed, written, settles, went_read, went_kept, went_planned, went_join, went_then_put}
use Rattle.esr_delete.proofs.Uniting.{if_ok, if_both}
use Rattle.esr_delete.proofs.unit.prepare.Goals as goal
use Rattle.esr_delete.proofs.unit.prepare.Goals.{In_ok-held, In_ok-draft}

-- ---- what was gathered, and the plan

-- the ticket after what was gathered
free_at : (g : _) (c : In_ok-held g) → IsUnplanned (ticket_of g.Q.Desk.start (g.Q.Desk.seen c.gather.new.desk) c.args.ticket) c.args.clean (root_of c.args.copy.now.root) (map number_of c.args.uuids.now)
free_at g c =
    let s = g.Q.Desk.start in
    let who = c.args.ticket in
    read_free (ticket_of s (g.Q.Desk.seen c.args.desk.now) who) (ticket_of s (g.Q.Desk.seen c.gather.new.desk) who) c.args.clean (root_of c.args.copy.now.root) (map number_of c.args.uuids.now) c.requires.may c.gather.ensures.read

-- and after the plan
unwritten_at : (g : _) (c : In_ok-draft g)
    → IsUnwritten g.Q.Desk.start (ticket_of g.Q.Desk.start (g.Q.Desk.seen c.plan.new.desk) c.args.ticket) c.in_ok-held.held (map pruned_of c.in_ok-draft.draft.shards) c.in_ok-draft.draft.first.number (root_of c.in_ok-draft.draft.root)
unwritten_at g c =
    let s = g.Q.Desk.start in
    let who = c.args.ticket in
    let d = c.in_ok-draft.draft in
    let t0 = ticket_of s (g.Q.Desk.seen c.args.desk.now) who in
    let t1 = ticket_of s (g.Q.Desk.seen c.gather.new.desk) who in
    let clean = c.args.clean in
    let root = root_of c.args.copy.now.root in
    let uuids = map number_of c.args.uuids.now in
    unwritten s t1 (ticket_of s (g.Q.Desk.seen c.plan.new.desk) who) clean root (root_of d.root) uuids c.in_ok-held.held
    (map pruned_of d.shards) d.first.number (read_free t0 t1 clean root uuids c.requires.may c.gather.ensures.read) c.in_ok-draft.ensures.ok

went_at : (g : _) (c : In_ok-draft g) → Went g.Q.Desk.start (g.Q.Desk.seen c.args.desk.now) (g.Q.Desk.seen c.plan.new.desk) c.args.ticket
went_at g c =
    let s = g.Q.Desk.start in
    let who = c.args.ticket in
    let seen = g.Q.Desk.seen in
    let d = c.in_ok-draft.draft in
    let clean = c.args.clean in
    let root = root_of c.args.copy.now.root in
    let uuids = map number_of c.args.uuids.now in
    let free = read_free (ticket_of s (seen c.args.desk.now) who) (ticket_of s (seen c.gather.new.desk) who) clean root uuids c.requires.may c.gather.ensures.read in
    went_planned s (seen c.args.desk.now) (seen c.gather.new.desk) (seen c.plan.new.desk) who clean root (root_of d.root) uuids c.in_ok-held.held (map pruned_of d.shards) d.first.number
    (went_read s (seen c.args.desk.now) (seen c.gather.new.desk) who clean root uuids c.requires.may c.gather.ensures.grew c.gather.ensures.read) free c.plan.ensures.grew c.in_ok-draft.ensures.ok

pub returns-in_err-held-clause-went : goal.returns-in_err-held-clause-went
returns-in_err-held-clause-went g c =
    went_read g.Q.Desk.start (g.Q.Desk.seen c.args.desk.now) (g.Q.Desk.seen c.gather.new.desk) c.args.ticket c.args.clean (root_of c.args.copy.now.root) (map number_of c.args.uuids.now) c.requires.may c.gather.ensures.grew c.gather.ensures.read

pub plan-requires-clause-mine : goal.plan-requires-clause-mine
plan-requires-clause-mine g c κs within = taken_on (g.Q.Desk.calls c.args.desk.now) (g.Q.Desk.calls c.gather.new.desk) c.args.ticket c.gather.ensures.calls c.requires.mine

pub plan-requires-clause-may : goal.plan-requires-clause-may
plan-requires-clause-may g c κs within = free_at g (goal.at.plan-requires-clause-may g c).In_ok-held

pub returns-in_err-draft-clause-went : goal.returns-in_err-draft-clause-went
returns-in_err-draft-clause-went g c =
    let s = g.Q.Desk.start in
    let who = c.args.ticket in
    let seen = g.Q.Desk.seen in
    went_kept s (seen c.args.desk.now) (seen c.gather.new.desk) (seen c.plan.new.desk) who
    (went_read s (seen c.args.desk.now) (seen c.gather.new.desk) who c.args.clean (root_of c.args.copy.now.root) (map number_of c.args.uuids.now) c.requires.may c.gather.ensures.grew c.gather.ensures.read) c.plan.ensures.grew
    c.in_err-draft.ensures.kept

pub returns-in_err-draft-clause-calls : goal.returns-in_err-draft-clause-calls
returns-in_err-draft-clause-calls g c = c.plan.ensures.calls ∙ c.gather.ensures.calls

-- ---- the shard indices

pub write_indices-requires-clause-mine : goal.write_indices-requires-clause-mine
write_indices-requires-clause-mine g c κs within = taken_on (g.Q.Desk.calls c.args.desk.now) (g.Q.Desk.calls c.plan.new.desk) c.args.ticket (c.plan.ensures.calls ∙ c.gather.ensures.calls) c.requires.mine

pub write_indices-requires-clause-may : goal.write_indices-requires-clause-may
write_indices-requires-clause-may g c κs within = unwritten_at g (goal.at.write_indices-requires-clause-may g c).In_ok-draft

pub returns-in_err-write_indices-clause-trouble : goal.returns-in_err-write_indices-clause-trouble
returns-in_err-write_indices-clause-trouble g c =
    let s = g.Q.Desk.start in
    let seen = g.Q.Desk.seen in
    let who = c.args.ticket in
    let new = seen c.write_indices.new.desk in
    let e = evidence g.Q.Stage.Counted.faults g.Q.Fetch.Counted.faults g.Q.Shard.Counted.faults g.Q.Target.Counted.faults g.Q.Shard.Shard.told g.Q.Target.Target.told in
    let went = went_then_put s (seen c.args.desk.now) (seen c.plan.new.desk) new who (went_at g (goal.at.returns-in_err-write_indices-clause-trouble g c).In_ok-draft) c.write_indices.ensures.went in
    let trouble = c.in_err-write_indices.field-0.0 in
    passed_on c.from_residual-in_err-write_indices.result (Shown hands.Delete e ⊥ s new who) trouble c.from_residual-in_err-write_indices.ensures.1
    (put_shown e s new who trouble went.worked.uuids went.worked.plan c.refusals_are_of_their_steps.ensures (ap (λ (t : Ticket). t.out) went.worked.is ∙ c.requires.may.out) (ap (λ (t : Ticket). t.work) went.worked.is)
    c.in_err-write_indices.ensures.trouble)

pub returns-in_err-write_indices-clause-went : goal.returns-in_err-write_indices-clause-went
returns-in_err-write_indices-clause-went g c =
    let seen = g.Q.Desk.seen in
    went_then_put g.Q.Desk.start (seen c.args.desk.now) (seen c.plan.new.desk) (seen c.write_indices.new.desk) c.args.ticket (went_at g (goal.at.returns-in_err-write_indices-clause-went g c).In_ok-draft) c.write_indices.ensures.went

pub returns-in_err-write_indices-clause-calls : goal.returns-in_err-write_indices-clause-calls
returns-in_err-write_indices-clause-calls g c = c.write_indices.ensures.calls ∙ c.plan.ensures.calls ∙ c.gather.ensures.calls

-- ---- after them

-- how far it went
put_at : (g : _) (c : In_ok-draft g) (log : List Moment) → PutWent g.Q.Desk.start (g.Q.Desk.seen c.plan.new.desk) log c.args.ticket → Went g.Q.Desk.start (g.Q.Desk.seen c.args.desk.now) log c.args.ticket
put_at g c log put = went_then_put g.Q.Desk.start (g.Q.Desk.seen c.args.desk.now) (g.Q.Desk.seen c.plan.new.desk) log c.args.ticket (went_at g c) put

indexed_at : (g : _) (c : In_ok-draft g) (m : Ticket) → NotesOwn g.Q.Desk.start (ticket_of g.Q.Desk.start (g.Q.Desk.seen c.plan.new.desk) c.args.ticket) m
    → IsIndexed g.Q.Desk.start m c.in_ok-held.held (map pruned_of c.in_ok-draft.draft.shards) c.in_ok-draft.draft.first.number (root_of c.in_ok-draft.draft.root)
indexed_at g c m notes =
    let s = g.Q.Desk.start in
    let d = c.in_ok-draft.draft in
    indexed s (ticket_of s (g.Q.Desk.seen c.plan.new.desk) c.args.ticket) m c.in_ok-held.held (map pruned_of d.shards) d.first.number (root_of d.root) (unwritten_at g c) notes

mode_at : (g : _) (c : In_ok-draft g) (log : List Moment) (clean : Bool) → PutWent g.Q.Desk.start (g.Q.Desk.seen c.plan.new.desk) log c.args.ticket → c.args.clean ≡ clean → (ticket_of g.Q.Desk.start log c.args.ticket).clean ≡ clean
mode_at g c log clean put is = ap (λ (t : Ticket). t.clean) (put_at g c log put).worked.is ∙ c.requires.may.mode ∙ is

-- the unit as it is with its root
written_at : (g : _) (c : In_ok-draft g) (m new : Ticket) (w : Written) → NotesOwn g.Q.Desk.start (ticket_of g.Q.Desk.start (g.Q.Desk.seen c.plan.new.desk) c.args.ticket) m → root_of w.root ≡ root_of c.in_ok-draft.draft.root
    → IsReady g.Q.Desk.start m new (root_of w.root) (map name_of w.names)
    → HasWritten g.Q.Desk.start (ticket_of g.Q.Desk.start (g.Q.Desk.seen c.args.desk.now) c.args.ticket) new × CanSettleDelete g.Q.Desk.start new (root_of w.root)
written_at g c m new w notes same ready =
    let s = g.Q.Desk.start in
    let seen = g.Q.Desk.seen in
    let who = c.args.ticket in
    let d = c.in_ok-draft.draft in
    let t0 = ticket_of s (seen c.args.desk.now) who in
    let t1 = ticket_of s (seen c.gather.new.desk) who in
    let t2 = ticket_of s (seen c.plan.new.desk) who in
    let given = root_of c.args.copy.now.root in
    let uuids = map number_of c.args.uuids.now in
    let shards = map pruned_of d.shards in
    let own = subst (λ (r : RootData). IsReady s m new r (map name_of w.names)) same ready in (
      written s t0 t1 t2 m new c.args.clean given (root_of d.root) uuids c.in_ok-held.held shards d.first.number (map name_of w.names) c.requires.may c.gather.ensures.read c.in_ok-draft.ensures.ok notes own,
      subst (λ (r : RootData). CanSettleDelete s new r) (sym same)
          (settles s t0 t1 t2 m new c.args.clean given (root_of d.root) uuids c.in_ok-held.held shards d.first.number (map name_of w.names) c.requires.may c.gather.ensures.read c.in_ok-draft.ensures.ok notes own),
    )

-- ---- the root of a cleanup

pub write_cleanup-requires-clause-mine : goal.write_cleanup-requires-clause-mine
write_cleanup-requires-clause-mine g c κs within =
    taken_on (g.Q.Desk.calls c.args.desk.now) (g.Q.Desk.calls c.write_indices.new.desk) c.args.ticket (c.write_indices.ensures.calls ∙ c.plan.ensures.calls ∙ c.gather.ensures.calls) c.requires.mine

pub write_cleanup-requires-clause-may : goal.write_cleanup-requires-clause-may
write_cleanup-requires-clause-may g c κs within = indexed_at g (goal.at.write_cleanup-requires-clause-may g c).In_ok-draft (ticket_of g.Q.Desk.start (g.Q.Desk.seen c.write_indices.new.desk) c.args.ticket) c.in_ok-write_indices.ensures.ok

pub write_cleanup-requires-clause-mode : goal.write_cleanup-requires-clause-mode
write_cleanup-requires-clause-mode g c κs within = mode_at g (goal.at.write_cleanup-requires-clause-mode g c).In_ok-draft (g.Q.Desk.seen c.write_indices.new.desk) true c.write_indices.ensures.went c.if-clean.true

pub returns-then-clean-clause-ok : goal.returns-then-clean-clause-ok
returns-then-clean-clause-ok g c =
    let s = g.Q.Desk.start in
    let who = c.args.ticket in
    let m = ticket_of s (g.Q.Desk.seen c.write_indices.new.desk) who in
    let new = ticket_of s (g.Q.Desk.seen c.write_cleanup.new.desk) who in
    let at = (goal.at.returns-then-clean-clause-ok g c).In_ok-draft in
    if_both c.write_cleanup.result (λ w. root_of w.root ≡ root_of c.in_ok-draft.draft.root) (λ w. IsReady s m new (root_of w.root) (map name_of w.names)) (λ w. HasWritten s (ticket_of s (g.Q.Desk.seen c.args.desk.now) who) new)
    (λ w same ready. (written_at g at m new w c.in_ok-write_indices.ensures.ok same ready).0) c.write_cleanup.ensures.root c.write_cleanup.ensures.ok

pub returns-then-clean-clause-settles : goal.returns-then-clean-clause-settles
returns-then-clean-clause-settles g c =
    let s = g.Q.Desk.start in
    let who = c.args.ticket in
    let m = ticket_of s (g.Q.Desk.seen c.write_indices.new.desk) who in
    let new = ticket_of s (g.Q.Desk.seen c.write_cleanup.new.desk) who in
    let at = (goal.at.returns-then-clean-clause-settles g c).In_ok-draft in
    if_both c.write_cleanup.result (λ w. root_of w.root ≡ root_of c.in_ok-draft.draft.root) (λ w. IsReady s m new (root_of w.root) (map name_of w.names)) (λ w. CanSettleDelete s new (root_of w.root))
    (λ w same ready. (written_at g at m new w c.in_ok-write_indices.ensures.ok same ready).1) c.write_cleanup.ensures.root c.write_cleanup.ensures.ok

pub returns-then-clean-clause-names : goal.returns-then-clean-clause-names
returns-then-clean-clause-names g c =
    let s = g.Q.Desk.start in
    let who = c.args.ticket in
    let m = ticket_of s (g.Q.Desk.seen c.write_indices.new.desk) who in
    let new = ticket_of s (g.Q.Desk.seen c.write_cleanup.new.desk) who in
    if_ok c.write_cleanup.result (λ w. IsReady s m new (root_of w.root) (map name_of w.names)) (λ w. s.tells ≡ true → map name_of w.names ≡ dooms (formats_of s) new) (λ w ready. ready.doomed) c.write_cleanup.ensures.ok

pub returns-then-clean-clause-put : goal.returns-then-clean-clause-put
returns-then-clean-clause-put g c =
    let P = HasPutLatest (world_of g.Q.Desk.start (g.Q.Desk.seen c.write_cleanup.new.desk)) c.args.ticket in
    if_ok c.write_cleanup.result (λ w. P) (λ w. c.args.clean ≡ true → P) (λ w put cleans. put) c.write_cleanup.ensures.put

pub returns-then-clean-clause-went : goal.returns-then-clean-clause-went
returns-then-clean-clause-went g c =
    let seen = g.Q.Desk.seen in
    went_join g.Q.Desk.start (seen c.args.desk.now) (seen c.write_indices.new.desk) (seen c.write_cleanup.new.desk) c.args.ticket
    (put_at g (goal.at.returns-then-clean-clause-went g c).In_ok-draft (g.Q.Desk.seen c.write_indices.new.desk) c.write_indices.ensures.went) c.write_cleanup.ensures.went

pub returns-then-clean-clause-calls : goal.returns-then-clean-clause-calls
returns-then-clean-clause-calls g c = c.write_cleanup.ensures.calls ∙ c.write_indices.ensures.calls ∙ c.plan.ensures.calls ∙ c.gather.ensures.calls

-- ---- that of a delete

pub write_delete-requires-clause-mine : goal.write_delete-requires-clause-mine
write_delete-requires-clause-mine g c κs within =
    taken_on (g.Q.Desk.calls c.args.desk.now) (g.Q.Desk.calls c.write_indices.new.desk) c.args.ticket (c.write_indices.ensures.calls ∙ c.plan.ensures.calls ∙ c.gather.ensures.calls) c.requires.mine

pub write_delete-requires-clause-may : goal.write_delete-requires-clause-may
write_delete-requires-clause-may g c κs within = indexed_at g (goal.at.write_delete-requires-clause-may g c).In_ok-draft (ticket_of g.Q.Desk.start (g.Q.Desk.seen c.write_indices.new.desk) c.args.ticket) c.in_ok-write_indices.ensures.ok

pub write_delete-requires-clause-named : goal.write_delete-requires-clause-named
write_delete-requires-clause-named g c κs within =
    let worked = (put_at g (goal.at.write_delete-requires-clause-named g c).In_ok-draft (g.Q.Desk.seen c.write_indices.new.desk) c.write_indices.ensures.went).worked in
    (worked.plan, ap (λ (t : Ticket). t.work) worked.is ∙ ap (λ us. Deleting us worked.plan) (uuids_same worked.uuids (map number_of c.args.uuids.now) worked.before None (sym worked.was ∙ c.requires.may.work)))

pub write_delete-requires-clause-mode : goal.write_delete-requires-clause-mode
write_delete-requires-clause-mode g c κs within = mode_at g (goal.at.write_delete-requires-clause-mode g c).In_ok-draft (g.Q.Desk.seen c.write_indices.new.desk) false c.write_indices.ensures.went c.if-clean.false

pub write_delete-requires-clause-copied : goal.write_delete-requires-clause-copied
write_delete-requires-clause-copied g c κs within =
    c.requires.may.root_is ∙ sym (ap (λ (t : Ticket). t.root) (put_at g (goal.at.write_delete-requires-clause-copied g c).In_ok-draft (g.Q.Desk.seen c.write_indices.new.desk) c.write_indices.ensures.went).worked.is)

pub write_delete-requires-clause-safe : goal.write_delete-requires-clause-safe
write_delete-requires-clause-safe g c κs within = ap (λ (t : Ticket). t.safe) (put_at g (goal.at.write_delete-requires-clause-safe g c).In_ok-draft (g.Q.Desk.seen c.write_indices.new.desk) c.write_indices.ensures.went).worked.is ∙ c.requires.safe

pub returns-else-clean-clause-ok : goal.returns-else-clean-clause-ok
returns-else-clean-clause-ok g c =
    let s = g.Q.Desk.start in
    let who = c.args.ticket in
    let m = ticket_of s (g.Q.Desk.seen c.write_indices.new.desk) who in
    let new = ticket_of s (g.Q.Desk.seen c.write_delete.new.desk) who in
    let at = (goal.at.returns-else-clean-clause-ok g c).In_ok-draft in
    if_both c.write_delete.result (λ w. root_of w.root ≡ root_of c.in_ok-draft.draft.root) (λ w. IsReady s m new (root_of w.root) (map name_of w.names)) (λ w. HasWritten s (ticket_of s (g.Q.Desk.seen c.args.desk.now) who) new)
    (λ w same ready. (written_at g at m new w c.in_ok-write_indices.ensures.ok same ready).0) c.write_delete.ensures.root c.write_delete.ensures.ok

pub returns-else-clean-clause-settles : goal.returns-else-clean-clause-settles
returns-else-clean-clause-settles g c =
    let s = g.Q.Desk.start in
    let who = c.args.ticket in
    let m = ticket_of s (g.Q.Desk.seen c.write_indices.new.desk) who in
    let new = ticket_of s (g.Q.Desk.seen c.write_delete.new.desk) who in
    let at = (goal.at.returns-else-clean-clause-settles g c).In_ok-draft in
    if_both c.write_delete.result (λ w. root_of w.root ≡ root_of c.in_ok-draft.draft.root) (λ w. IsReady s m new (root_of w.root) (map name_of w.names)) (λ w. CanSettleDelete s new (root_of w.root))
    (λ w same ready. (written_at g at m new w c.in_ok-write_indices.ensures.ok same ready).1) c.write_delete.ensures.root c.write_delete.ensures.ok

pub returns-else-clean-clause-names : goal.returns-else-clean-clause-names
returns-else-clean-clause-names g c =
    let s = g.Q.Desk.start in
    let who = c.args.ticket in
    let m = ticket_of s (g.Q.Desk.seen c.write_indices.new.desk) who in
    let new = ticket_of s (g.Q.Desk.seen c.write_delete.new.desk) who in
    if_ok c.write_delete.result (λ w. IsReady s m new (root_of w.root) (map name_of w.names)) (λ w. s.tells ≡ true → map name_of w.names ≡ dooms (formats_of s) new) (λ w ready. ready.doomed) c.write_delete.ensures.ok

pub returns-else-clean-clause-put : goal.returns-else-clean-clause-put
returns-else-clean-clause-put g c =
    if_ok c.write_delete.result (λ w. root_of w.root ≡ root_of c.in_ok-draft.draft.root) (λ w. c.args.clean ≡ true → HasPutLatest (world_of g.Q.Desk.start (g.Q.Desk.seen c.write_delete.new.desk)) c.args.ticket)
    (λ w same cleans. absurd (true≢false (sym cleans ∙ c.if-clean.false))) c.write_delete.ensures.root

pub returns-else-clean-clause-went : goal.returns-else-clean-clause-went
returns-else-clean-clause-went g c =
    let seen = g.Q.Desk.seen in
    went_join g.Q.Desk.start (seen c.args.desk.now) (seen c.write_indices.new.desk) (seen c.write_delete.new.desk) c.args.ticket
    (put_at g (goal.at.returns-else-clean-clause-went g c).In_ok-draft (g.Q.Desk.seen c.write_indices.new.desk) c.write_indices.ensures.went) c.write_delete.ensures.went

pub returns-else-clean-clause-calls : goal.returns-else-clean-clause-calls
returns-else-clean-clause-calls g c = c.write_delete.ensures.calls ∙ c.write_indices.ensures.calls ∙ c.plan.ensures.calls ∙ c.gather.ensures.calls
