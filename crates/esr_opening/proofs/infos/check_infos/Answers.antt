use Rattle.std.proofs.Common.{◌∙◌, Option, subst, arith, rules}
use Rattle.esr_depot.specs.Image.{Image}
use Rattle.esr_depot.specs.Look.{now}
use Rattle.esr_opening.specs.Listed.{IsInfoOf}
use Rattle.esr_opening.proofs.Looking.{looked_on}
use Rattle.esr_opening.proofs.Listing.{pairs_more, pairs_all}
use Rattle.esr_opening.proofs.Steps.{infos_on}
use Rattle.esr_opening.proofs.infos.check_infos.Goals as goal

pub returns-clause-infos : goal.returns-clause-infos
returns-clause-infos g c = pairs_all (IsInfoOf (now (g.D.Depot.look c.args.depot.now)) c.args.root.now) c.args.snaps.now c.loop-snap.infos c.loop-snap.snap-index c.loop-snap-test.false c.loop-snap.invariant.infos

pub loop-snap-preserved : goal.loop-snap-preserved
loop-snap-preserved g c =
    let first = g.D.Depot.look c.args.depot.now in
    let before = g.D.Depot.look c.loop-snap.depot in
    let after = g.D.Depot.look c.check_info.new.depot in
    let is = c.loop-snap.invariant in
    let same = is.looked.kept.same in
    let root = c.args.root.now in
    let snaps = c.args.snaps.now in
    let index = c.loop-snap.snap-index in
    let s = c.snap-item.result in
    record {
      looked = looked_on first before after (g.D.Counted.faults c.args.depot.now) (g.D.Counted.faults c.loop-snap.depot) (g.D.Counted.faults c.check_info.new.depot) is.looked c.check_info.ensures.looked;
      left = λ i here. infos_on i.blobs root c.args.number snaps index s tt c.loop-snap-test.true c.snap-item.is (c.in_ok-info.ensures.answer i (same ∙ here)) (is.left i here);
      infos =
          pairs_more (IsInfoOf (now first) root) snaps c.loop-snap.infos c.push.new.self index s c.in_ok-info.info c.loop-snap-test.true c.snap-item.is is.infos
          (subst (λ (held : Option Image). IsInfoOf held root s c.in_ok-info.info) same c.in_ok-info.ensures.info) c.in_ok-push.ensures.ok;
      spends = record { spent = omega (arith, is.spends.spent, c.check_info.ensures.spends.spent); sure = search rules };
      calls = omega (arith, is.calls, c.check_info.ensures.calls);
    }
