use Rattle.std.proofs.Common.{◌≡◌, ◌+◌, ◌<◌, ◌≤◌, IfSome, IsSomeAnd, List, Option, length, take, ap, refl, sym, ◌∙◌, subst, arith}
use Rattle.std.proofs.lemmas.List.{take_all}
use Rattle.esr_core.specs.World.{Ticket}
use Rattle.esr_source.specs.Files.{bytes_at}
use Rattle.esr_source.specs.Told.{ShardTold, FileList}
use Rattle.esr_source.specs.declared.files.ListedFile.{ListedFile}
use Rattle.esr_shardidx.specs.declared.entry.FileEntry.{FileEntry as CodeEntry}
use Rattle.esr_desk.specs.Start.{ticket_of}
use Rattle.esr_upload.specs.Entries.{is_new, new_count, blobs_at, ReadOnce, StoredOne}
use Rattle.esr_upload.proofs.Planning.{count_front, count_next}
use Rattle.esr_upload.proofs.Modelled.{reads_place, reads_listed}
use Rattle.esr_desk.specs.Calls.{Call, HasTaken}
use Rattle.esr_desk.specs.Evidence.{evidence}
use Rattle.esr_upload.specs.Stored.{IsToldBy}
use Rattle.esr_upload.specs.Trouble.{Shown}
use Rattle.esr_unit.specs.declared.trouble.Trouble.TheVariants.{Step}
use Rattle.esr_desk.specs.declared.refusal.StepRefusal.TheVariants.{Memory}
use Rattle.esr_unit.specs.Refusals.{passed_on}
use Rattle.esr_upload.specs.Ends.{memory_shown}
use Rattle.esr_upload.specs.Commits.{writes_keep, writes_at}
use Rattle.esr_upload.proofs.Writing.{told_on}
use Rattle.esr_upload.specs.Runs.{went_none, went_on}
use Rattle.esr_upload.proofs.Going.{read_on, same_read, steady_on}
use Rattle.esr_upload.proofs.Noting.{are_below_later}
use Rattle.esr_upload.proofs.Storing.{StoredFirst, stored_none, stored_next, stored_all, next_short, next_read}
use Rattle.esr_upload.proofs.files.store_files.Goals as goal

pub loop-file-init : goal.loop-file-init
loop-file-init g c =
    let s = g.Q.Desk.start in
    let t = ticket_of s (g.Q.Desk.seen c.args.desk.now) c.args.job.now.ticket in
    record {
      calls = refl;
      told = c.requires.told;
      at = c.requires.work;
      from = c.requires.from;
      drawn = c.requires.drawn;
      below = c.requires.below;
      kept = refl;
      steady = λ sure. refl;
      buffer = refl;
      tells = c.requires.tells;
      went = went_none s (g.Q.Desk.seen c.args.desk.now) c.args.job.now.ticket;
      next = omega arith;
      stored = subst (λ (es : List CodeEntry). StoredFirst s (g.S.Shard.told c.args.shard.now).files c.args.job.now.at.index.number c.args.job.now.at.number c.args.job.now.part_size c.args.first.number 0 c.args.plans.now es t t)
          (sym c.new-entries.ensures) (stored_none s (g.S.Shard.told c.args.shard.now).files c.args.job.now.at.index.number c.args.job.now.at.number c.args.job.now.part_size c.args.first.number c.args.plans.now t);
    }

pub store_one-requires-clause-drew : goal.store_one-requires-clause-drew
store_one-requires-clause-drew g c κs within =
    let inv = c.loop-file.invariant in
    let front = count_front c.args.plans.now c.loop-file.file c.index-plans-file.result c.loop-file-test.true c.index-plans-file.is in
    λ one. record { from = omega (arith, inv.from, inv.next); below = omega (arith, inv.from, inv.next, inv.drawn, front, one) }

pub store_one-requires-clause-short : goal.store_one-requires-clause-short
store_one-requires-clause-short g c κs within =
    next_short (g.S.Shard.told c.args.shard.now).files (g.S.Shard.told c.args.shard.now).listed c.args.plans.now c.loop-file.file c.index-plans-file.result c.requires.reads c.loop-file-test.true c.index-plans-file.is

pub store_one-requires-clause-read : goal.store_one-requires-clause-read
store_one-requires-clause-read g c κs within =
    subst (λ (o : Option FileList). ReadOnce (bytes_at o c.loop-file.file) c.index-plans-file.result.print) (sym (ap (λ (t : ShardTold). t.files) c.loop-file.invariant.kept))
    (next_read (g.S.Shard.told c.args.shard.now).files (g.S.Shard.told c.args.shard.now).listed c.args.plans.now c.loop-file.file c.index-plans-file.result c.requires.reads c.loop-file-test.true c.index-plans-file.is)

pub store_one-requires-clause-place : goal.store_one-requires-clause-place
store_one-requires-clause-place g c κs within =
    subst (λ (o : Option FileList). IfSome o (λ fs. c.loop-file.file < length fs)) (sym (ap (λ (t : ShardTold). t.files) c.loop-file.invariant.kept))
    (reads_place (g.S.Shard.told c.args.shard.now).files (g.S.Shard.told c.args.shard.now).listed c.args.plans.now c.loop-file.file c.requires.reads c.loop-file-test.true)

pub overflow_add-next : goal.overflow_add-next
overflow_add-next g c =
    let front = count_front c.args.plans.now c.loop-file.file c.index-plans-file.result c.loop-file-test.true c.index-plans-file.is in
    let room = c.requires.room in
    let next = c.loop-file.invariant.next in
    let is = c.is_new.ensures in
    let from = c.from.ensures in
    omega (arith, front, room, next, is, from)

pub loop-file-preserved : goal.loop-file-preserved
loop-file-preserved g c =
    let s = g.Q.Desk.start in
    let who = c.args.job.now.ticket in
    let ps = c.args.plans.now in
    let i = c.loop-file.file in
    let p = c.index-plans-file.result in
    let told = (g.S.Shard.told c.args.shard.now).files in
    let index = c.args.job.now.at.index.number in
    let number = c.args.job.now.at.number in
    let old = ticket_of s (g.Q.Desk.seen c.args.desk.now) who in
    let mid = ticket_of s (g.Q.Desk.seen c.loop-file.desk) who in
    let new = ticket_of s (g.Q.Desk.seen c.store_one.new.desk) who in
    let inv = c.loop-file.invariant in
    let e = c.in_ok-entry.entry in
    let one = subst (λ (o : Option FileList). StoredOne s (bytes_at o i) index number p e mid new) (ap (λ (t : ShardTold). t.files) inv.kept) c.in_ok-entry.ensures.stored in
    let blobs = blobs_at index number e one.bytes p.reused in
    let count = count_next ps i p c.loop-file-test.true c.index-plans-file.is in
    let is = c.is_new.ensures in
    let from = c.from.ensures in
    let next = inv.next in
    let after : c.loop-file.next.number + is_new p.reused ≤ c.loop-file.next.number + c.from.result = omega (arith, is, from) in
    record {
      calls = c.store_one.ensures.calls ∙ inv.calls;
      told = told_on s told number blobs mid new one.is inv.told;
      at = writes_at s blobs mid new index number one.is inv.at;
      from = writes_keep (λ (t : Ticket). t.first) (λ t n w. refl) s blobs mid new one.is ∙ inv.from;
      drawn = writes_keep (λ (t : Ticket). t.drawn) (λ t n w. refl) s blobs mid new one.is ∙ inv.drawn;
      below = are_below_later new (c.loop-file.next.number + is_new p.reused) (c.loop-file.next.number + c.from.result) after c.in_ok-entry.ensures.below;
      kept = read_on (g.S.Shard.told c.args.shard.now) (g.S.Shard.told c.loop-file.shard) (g.S.Shard.told c.store_one.new.shard) inv.kept c.store_one.ensures.kept;
      steady = steady_on (g.S.Shard.told c.args.shard.now) (g.S.Shard.told c.loop-file.shard) (g.S.Counted.faults c.args.shard.now) (g.S.Counted.faults c.loop-file.shard) (g.S.Counted.faults c.store_one.new.shard)
          (same_read (g.S.Shard.told c.args.shard.now) (g.S.Shard.told c.loop-file.shard) inv.kept) inv.steady c.store_one.ensures.steady;
      buffer = c.store_one.ensures.buffer ∙ inv.buffer;
      tells = c.in_ok-entry.ensures.tells;
      went = went_on s (g.Q.Desk.seen c.args.desk.now) (g.Q.Desk.seen c.loop-file.desk) (g.Q.Desk.seen c.store_one.new.desk) who inv.went c.store_one.ensures.went;
      next = omega (arith, count, is, from, next);
      stored = subst (λ (es : List CodeEntry). StoredFirst s told index number c.args.job.now.part_size c.args.first.number (i + 1) ps es old new) (sym c.in_ok-push.ensures.ok)
          (stored_next s told (g.S.Shard.told c.args.shard.now).listed index number c.args.job.now.part_size c.args.first.number i c.loop-file.next.number ps p c.loop-file.entries e old mid new
          c.requires.reads c.loop-file-test.true c.index-plans-file.is next inv.stored c.in_ok-entry.ensures.entry one);
    }

pub returns-clause-stored : goal.returns-clause-stored
returns-clause-stored g c =
    let s = g.Q.Desk.start in
    let who = c.args.job.now.ticket in
    let le : length c.args.plans.now ≤ c.loop-file.file = omega arith in
    stored_all s (g.S.Shard.told c.args.shard.now).files (g.S.Shard.told c.args.shard.now).listed c.args.job.now.at.index.number c.args.job.now.at.number c.args.job.now.part_size c.args.first.number c.loop-file.file c.args.plans.now
    c.loop-file.entries (ticket_of s (g.Q.Desk.seen c.args.desk.now) who) (ticket_of s (g.Q.Desk.seen c.loop-file.desk) who) c.requires.reads le c.loop-file.invariant.stored

pub returns-clause-below : goal.returns-clause-below
returns-clause-below g c =
    let ps = c.args.plans.now in
    let i = c.loop-file.file in
    let inv = c.loop-file.invariant in
    let le : length ps ≤ i = omega arith in
    let count : new_count (take i ps) ≡ new_count ps = ap new_count (take_all i ps le) in
    let next = inv.next in
    let last : c.loop-file.next.number ≤ c.args.first.number + new_count ps = omega (arith, next, count) in
    are_below_later (ticket_of g.Q.Desk.start (g.Q.Desk.seen c.loop-file.desk) c.args.job.now.ticket) c.loop-file.next.number (c.args.first.number + new_count ps) last inv.below

pub returns-in_err-entry-clause-went : goal.returns-in_err-entry-clause-went
returns-in_err-entry-clause-went g c = went_on g.Q.Desk.start (g.Q.Desk.seen c.args.desk.now) (g.Q.Desk.seen c.loop-file.desk) (g.Q.Desk.seen c.store_one.new.desk) c.args.job.now.ticket c.loop-file.invariant.went c.store_one.ensures.went

pub returns-in_err-push-clause-went : goal.returns-in_err-push-clause-went
returns-in_err-push-clause-went g c = went_on g.Q.Desk.start (g.Q.Desk.seen c.args.desk.now) (g.Q.Desk.seen c.loop-file.desk) (g.Q.Desk.seen c.store_one.new.desk) c.args.job.now.ticket c.loop-file.invariant.went c.store_one.ensures.went

-- ---- what it leaves of the shard and of the calls

pub store_one-requires-clause-mine : goal.store_one-requires-clause-mine
store_one-requires-clause-mine g c κs within = subst (λ (calls : List Call). HasTaken calls c.args.job.now.ticket) (sym c.loop-file.invariant.calls) c.requires.mine

pub store_one-requires-clause-told : goal.store_one-requires-clause-told
store_one-requires-clause-told g c κs within =
    let s = g.Q.Desk.start in
    subst (λ (o : Option FileList). IsToldBy s o c.args.job.now.at.number (ticket_of s (g.Q.Desk.seen c.loop-file.desk) c.args.job.now.ticket)) (sym (ap (λ (t : ShardTold). t.files) c.loop-file.invariant.kept)) c.loop-file.invariant.told

pub returns-in_err-entry-clause-kept : goal.returns-in_err-entry-clause-kept
returns-in_err-entry-clause-kept g c = read_on (g.S.Shard.told c.args.shard.now) (g.S.Shard.told c.loop-file.shard) (g.S.Shard.told c.store_one.new.shard) c.loop-file.invariant.kept c.store_one.ensures.kept

pub returns-in_err-push-clause-kept : goal.returns-in_err-push-clause-kept
returns-in_err-push-clause-kept g c = read_on (g.S.Shard.told c.args.shard.now) (g.S.Shard.told c.loop-file.shard) (g.S.Shard.told c.store_one.new.shard) c.loop-file.invariant.kept c.store_one.ensures.kept

pub returns-in_err-entry-clause-steady : goal.returns-in_err-entry-clause-steady
returns-in_err-entry-clause-steady g c =
    let inv = c.loop-file.invariant in
    steady_on (g.S.Shard.told c.args.shard.now) (g.S.Shard.told c.loop-file.shard) (g.S.Counted.faults c.args.shard.now) (g.S.Counted.faults c.loop-file.shard) (g.S.Counted.faults c.store_one.new.shard)
    (same_read (g.S.Shard.told c.args.shard.now) (g.S.Shard.told c.loop-file.shard) inv.kept) inv.steady c.store_one.ensures.steady

pub returns-in_err-push-clause-steady : goal.returns-in_err-push-clause-steady
returns-in_err-push-clause-steady g c =
    let inv = c.loop-file.invariant in
    steady_on (g.S.Shard.told c.args.shard.now) (g.S.Shard.told c.loop-file.shard) (g.S.Counted.faults c.args.shard.now) (g.S.Counted.faults c.loop-file.shard) (g.S.Counted.faults c.store_one.new.shard)
    (same_read (g.S.Shard.told c.args.shard.now) (g.S.Shard.told c.loop-file.shard) inv.kept) inv.steady c.store_one.ensures.steady

pub returns-in_err-entry-clause-trouble : goal.returns-in_err-entry-clause-trouble
returns-in_err-entry-clause-trouble g c =
    let s = g.Q.Desk.start in
    let new = g.Q.Desk.seen c.store_one.new.desk in
    let e = evidence g.Q.Stage.Counted.faults g.Q.Fetch.Counted.faults g.Q.Shard.Counted.faults g.Q.Target.Counted.faults g.Q.Shard.Shard.told g.Q.Target.Target.told in
    let n = g.S.Counted.faults c.store_one.new.shard in
    let trouble = c.in_err-entry.field-0.0 in
    passed_on c.from_residual.result (Shown e n (g.S.Shard.told c.args.shard.now).files s new c.args.job.now.ticket) trouble c.from_residual.ensures.1
    (subst (λ (o : Option FileList). Shown e n o s new c.args.job.now.ticket trouble) (ap (λ (t : ShardTold). t.files) c.loop-file.invariant.kept) c.in_err-entry.ensures.trouble)

pub returns-in_err-push-clause-trouble : goal.returns-in_err-push-clause-trouble
returns-in_err-push-clause-trouble g c =
    let s = g.Q.Desk.start in
    let new = g.Q.Desk.seen c.store_one.new.desk in
    let e = evidence g.Q.Stage.Counted.faults g.Q.Fetch.Counted.faults g.Q.Shard.Counted.faults g.Q.Target.Counted.faults g.Q.Shard.Shard.told g.Q.Target.Target.told in
    let n = g.S.Counted.faults c.store_one.new.shard in
    let files = (g.S.Shard.told c.args.shard.now).files in
    passed_on c.from_residual-in_err-push.result (Shown e n files s new c.args.job.now.ticket) (Step Memory) c.from_residual-in_err-push.ensures.1 (memory_shown e n files s new c.args.job.now.ticket)

pub store_one-requires-clause-listed : goal.store_one-requires-clause-listed
store_one-requires-clause-listed g c κs within =
    let told = g.S.Shard.told c.args.shard.now in
    subst (λ (o : Option (List ListedFile)). IsSomeAnd o (λ fs. c.loop-file.file < length fs)) (sym (ap (λ (t : ShardTold). t.listed) c.loop-file.invariant.kept))
    (reads_listed told.files told.listed c.args.plans.now c.loop-file.file c.requires.reads c.loop-file-test.true)
