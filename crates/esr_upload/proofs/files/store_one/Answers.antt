use Rattle.std.proofs.Common.{ℕ, ap, refl, sym, subst}
use Rattle.esr_core.specs.Steps.{Drew}
use Rattle.esr_source.specs.Files.{bytes_at}
use Rattle.esr_shardidx.specs.declared.entry.FileEntry.{FileEntry}
use Rattle.esr_desk.specs.Start.{ticket_of}
use Rattle.esr_upload.specs.Entries.{is_new}
use Rattle.esr_upload.specs.Stored.{AreBelow}
use Rattle.esr_upload.proofs.Noting.{below_new, below_reused}
use Rattle.esr_upload.proofs.Storing.{has_print, stored_new, stored_reused}
use Rattle.esr_upload.specs.Runs.{went_none}
use Rattle.esr_upload.proofs.files.store_one.Goals as goal

pub returns-in_err-try_clone-in-Some-clause-went : goal.returns-in_err-try_clone-in-Some-clause-went
returns-in_err-try_clone-in-Some-clause-went g c = went_none g.Q.Desk.start (g.Q.Desk.seen c.args.desk.now) c.args.job.now.ticket

pub returns-in_err-entry-in-None-clause-went : goal.returns-in_err-entry-in-None-clause-went
returns-in_err-entry-in-None-clause-went g c = went_none g.Q.Desk.start (g.Q.Desk.seen c.args.desk.now) c.args.job.now.ticket

pub returns-in_ok-try_clone-in-Some-clause-went : goal.returns-in_ok-try_clone-in-Some-clause-went
returns-in_ok-try_clone-in-Some-clause-went g c = went_none g.Q.Desk.start (g.Q.Desk.seen c.args.desk.now) c.args.job.now.ticket

pub returns-in_ok-store_file-in-None-clause-below : goal.returns-in_ok-store_file-in-None-clause-below
returns-in_ok-store_file-in-None-clause-below g c =
    let s = g.Q.Desk.start in
    let who = c.args.job.now.ticket in
    below_new s (bytes_at (g.S.Shard.told c.args.shard.now).files c.args.file.place) c.args.job.now.at.index.number c.args.job.now.at.number c.args.file.name.number c.in_ok-entry-in-None.entry c.args.plan.now.reused
    (ticket_of s (g.Q.Desk.seen c.args.desk.now) who) (ticket_of s (g.Q.Desk.seen c.store_file.new.desk) who)
    c.in-None.is (ap (λ (e : FileEntry). e.name.number) c.in_ok-entry-in-None.ensures) c.requires.below c.in_ok-store_file-in-None.ensures.stored

pub returns-in_err-try_clone-in-Some-clause-kept : goal.returns-in_err-try_clone-in-Some-clause-kept
returns-in_err-try_clone-in-Some-clause-kept g c = refl

pub returns-in_ok-try_clone-in-Some-clause-kept : goal.returns-in_ok-try_clone-in-Some-clause-kept
returns-in_ok-try_clone-in-Some-clause-kept g c = refl

pub returns-in_err-entry-in-None-clause-kept : goal.returns-in_err-entry-in-None-clause-kept
returns-in_err-entry-in-None-clause-kept g c = refl

-- ---- what it stores

pub store_file-requires-clause-may : goal.store_file-requires-clause-may
store_file-requires-clause-may g c κs within =
    let t = ticket_of g.Q.Desk.start (g.Q.Desk.seen c.args.desk.now) c.args.job.now.ticket in
    let same = ap (λ (e : FileEntry). e.name.number) c.in_ok-entry-in-None.ensures in
    record {
      out = c.requires.work.out;
      unsettled = c.requires.work.unsettled;
      work = c.requires.work.work;
      drew = subst (λ (id : ℕ). Drew t id) (sym same) (c.requires.drew (ap is_new c.in-None.is));
      below = subst (λ (id : ℕ). AreBelow t id) (sym same) c.requires.below;
    }

pub store_file-requires-clause-print : goal.store_file-requires-clause-print
store_file-requires-clause-print g c κs within =
    has_print (bytes_at (g.S.Shard.told c.args.shard.now).files c.args.file.place) c.args.plan.now.print c.in_ok-entry-in-None.entry (ap (λ (e : FileEntry). e.print) c.in_ok-entry-in-None.ensures) c.requires.read

pub returns-in_ok-store_file-in-None-clause-stored : goal.returns-in_ok-store_file-in-None-clause-stored
returns-in_ok-store_file-in-None-clause-stored g c =
    let s = g.Q.Desk.start in
    let who = c.args.job.now.ticket in
    stored_new s (bytes_at (g.S.Shard.told c.args.shard.now).files c.args.file.place) c.args.job.now.at.index.number c.args.job.now.at.number c.args.plan.now c.in_ok-entry-in-None.entry
    (ticket_of s (g.Q.Desk.seen c.args.desk.now) who) (ticket_of s (g.Q.Desk.seen c.store_file.new.desk) who)
    c.in-None.is (ap (λ (e : FileEntry). e.print) c.in_ok-entry-in-None.ensures) c.in_ok-store_file-in-None.ensures.stored

pub returns-in_ok-try_clone-in-Some-clause-stored : goal.returns-in_ok-try_clone-in-Some-clause-stored
returns-in_ok-try_clone-in-Some-clause-stored g c =
    let s = g.Q.Desk.start in
    stored_reused s (bytes_at (g.S.Shard.told c.args.shard.now).files c.args.file.place) c.args.job.now.at.index.number c.args.job.now.at.number c.args.plan.now _ _
    (ticket_of s (g.Q.Desk.seen c.args.desk.now) c.args.job.now.ticket) c.in-Some.is c.requires.read

pub returns-in_ok-try_clone-in-Some-clause-below : goal.returns-in_ok-try_clone-in-Some-clause-below
returns-in_ok-try_clone-in-Some-clause-below g c =
    below_reused (ticket_of g.Q.Desk.start (g.Q.Desk.seen c.args.desk.now) c.args.job.now.ticket) c.args.file.name.number _ c.args.plan.now.reused c.in-Some.is c.requires.below
