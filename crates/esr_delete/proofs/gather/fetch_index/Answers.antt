use Rattle.std.proofs.Common.{◌≡◌, Some, sym, subst}
use Rattle.esr_model.specs.Values.{Bytes}
use Rattle.esr_formats.specs.Shards.{shard_index_of, shard_index_kind}
use Rattle.esr_desk.specs.declared.hand.Hand.TheVariants as hands
use Rattle.esr_desk.specs.Evidence.{evidence}
use Rattle.esr_unit.specs.declared.trouble.Trouble.{Trouble}
use Rattle.esr_unit.specs.Shown.{Shown}
use Rattle.esr_delete.proofs.Fetching.{unread_shown}
use Rattle.esr_delete.proofs.gather.fetch_index.Goals as goal

pub returns-in-Ok-clause-fetched : goal.returns-in-Ok-clause-fetched
returns-in-Ok-clause-fetched g c = (c.in_ok-bytes.bytes, c.in_ok-bytes.ensures.fetched, subst (λ (b : Bytes). shard_index_kind.read b ≡ Some (shard_index_of c.in-Ok.index)) c.as_slice.ensures c.in-Ok.ensures.read)

pub returns-clause-trouble : goal.returns-clause-trouble
returns-clause-trouble g c =
    let s = g.Q.Desk.start in
    let old = g.Q.Desk.seen c.args.desk.now in
    let new = g.Q.Desk.seen c.fetch_bytes.new.desk in
    let who = c.args.ticket in
    let e = evidence g.Q.Stage.Counted.faults g.Q.Fetch.Counted.faults g.Q.Shard.Counted.faults g.Q.Target.Counted.faults g.Q.Shard.Shard.told g.Q.Target.Target.told in
    subst (λ (t : Trouble g.row.Q-Stage.Denot g.row.Q-Fetch.Denot). Shown hands.Delete e ⊥ s new who t) (sym c.unread.ensures)
    (unread_shown e s old new who c.args.shard c.args.base c.in_ok-bytes.bytes c.as_slice.result.now c.in-Err.refusal c.requires.may c.in_ok-bytes.ensures.fetched c.in_ok-bytes.ensures.found c.as_slice.ensures c.in-Err.ensures.reason)
