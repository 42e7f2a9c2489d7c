use Rattle.std.proofs.Common.{refl, sym, subst, ap, ◌∙◌}
use Rattle.esr_model.specs.Names.{IndexMeta}
use Rattle.esr_meta.specs.Info.{Info}
use Rattle.esr_desk.specs.Start.{ticket_of}
use Rattle.esr_finish.specs.Runs.{taken_on, went_not, went_on}
use Rattle.esr_finish.proofs.Writing.{wrote_none}
use Rattle.esr_finish.specs.Ticket.{IsUnnoted}
use Rattle.esr_finish.proofs.Indices.{ref_at, index_may, index_more}
use Rattle.esr_finish.proofs.Naming.{index_new}
use Rattle.esr_finish.proofs.metadata.put_indices.Goals as goal

pub loop-index-init : goal.loop-index-init
loop-index-init g c =
    let s = g.Q.Desk.start in
    let old = g.Q.Desk.seen c.args.desk.now in
    record { puts = wrote_none (ticket_of s old c.args.ticket); tells = c.requires.tells; went = went_not s old c.args.ticket; calls = refl }

pub put_index-requires-clause-some : goal.put_index-requires-clause-some
put_index-requires-clause-some g c κs within =
    (ref_at c.info.inside.indices c.as_slice-index-items.result.now c.loop-index.index-index c.index-item.result c.info.invariant.indices c.as_slice-index-items.ensures c.loop-index-test.true c.index-item.is).least

pub put_index-requires-clause-most : goal.put_index-requires-clause-most
put_index-requires-clause-most g c κs within =
    (ref_at c.info.inside.indices c.as_slice-index-items.result.now c.loop-index.index-index c.index-item.result c.info.invariant.indices c.as_slice-index-items.ensures c.loop-index-test.true c.index-item.is).most

pub put_index-requires-clause-may : goal.put_index-requires-clause-may
put_index-requires-clause-may g c κs within =
    let s = g.Q.Desk.start in
    let who = c.args.ticket in
    let t0 = ticket_of s (g.Q.Desk.seen c.args.desk.now) who in
    let t1 = ticket_of s (g.Q.Desk.seen c.loop-index.desk) who in
    index_may s t0 t1 c.args.info.now c.info.inside.uuid c.as_slice-index-items.result.now c.loop-index.index-index c.index-item.result c.requires.may c.loop-index.invariant.went.worked (ap (λ (i : Info). i.uuid) c.info.view_is)
    (c.as_slice-index-items.ensures ∙ ap (λ (i : Info). i.indices) c.info.view_is)
    c.loop-index-test.true
    c.index-item.is

pub loop-index-preserved : goal.loop-index-preserved
loop-index-preserved g c =
    let s = g.Q.Desk.start in
    let who = c.args.ticket in
    let old = g.Q.Desk.seen c.args.desk.now in
    let mid = g.Q.Desk.seen c.loop-index.desk in
    let new = g.Q.Desk.seen c.put_index.new.desk in
    record {
      puts = index_more s (ticket_of s old who) (ticket_of s mid who) (ticket_of s new who) c.info.inside.uuid c.as_slice-index-items.result.now c.loop-index.index-index c.index-item.result c.loop-index.invariant.puts c.in_ok-put_index.ensures.ok
          c.loop-index-test.true
          c.index-item.is;
      tells = c.in_ok-put_index.ensures.tells;
      went = went_on s old mid new who c.loop-index.invariant.went c.put_index.ensures.went;
      calls = c.put_index.ensures.calls ∙ c.loop-index.invariant.calls;
    }

pub returns-in_err-put_index-clause-went : goal.returns-in_err-put_index-clause-went
returns-in_err-put_index-clause-went g c =
    let seen = g.Q.Desk.seen in
    went_on g.Q.Desk.start (seen c.args.desk.now) (seen c.loop-index.desk) (seen c.put_index.new.desk) c.args.ticket c.loop-index.invariant.went c.put_index.ensures.went

pub put_index-requires-clause-new : goal.put_index-requires-clause-new
put_index-requires-clause-new g c κs within =
    let s = g.Q.Desk.start in
    let who = c.args.ticket in
    let t0 = ticket_of s (g.Q.Desk.seen c.args.desk.now) who in
    let t1 = ticket_of s (g.Q.Desk.seen c.loop-index.desk) who in
    index_new s t0 t1 c.info.inside.uuid c.info.inside.indices c.as_slice-index-items.result.now c.loop-index.index-index c.index-item.result c.info.invariant.indices c.as_slice-index-items.ensures c.loop-index-test.true c.index-item.is
    (λ id. subst (λ (i : Info). IsUnnoted t0 (IndexMeta id i.uuid.number)) (sym c.info.view_is) (c.requires.new id))
    c.loop-index.invariant.puts

pub put_index-requires-clause-mine : goal.put_index-requires-clause-mine
put_index-requires-clause-mine g c κs within = taken_on (g.Q.Desk.calls c.args.desk.now) (g.Q.Desk.calls c.loop-index.desk) c.args.ticket c.loop-index.invariant.calls c.requires.mine

pub returns-in_err-put_index-clause-calls : goal.returns-in_err-put_index-clause-calls
returns-in_err-put_index-clause-calls g c = c.put_index.ensures.calls ∙ c.loop-index.invariant.calls
