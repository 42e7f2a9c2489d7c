use Rattle.std.proofs.Common.{map, Some, None, sym, ap, ◌∙◌, arith}
use Rattle.esr_model.specs.Values.{ClusterRecord}
use Rattle.esr_core.specs.Entry.{CloneOf, Clone, AskStep, Accepted}
use Rattle.esr_record.specs.Record.{Record}
use Rattle.esr_formats.specs.Refs.{ref_of_code}
use Rattle.esr_formats.specs.Clusters.{cluster_of}
use Rattle.esr_desk.specs.Start.{world_of}
use Rattle.esr_client.proofs.Clones.{may_ask_clone}
use Rattle.esr_repo.specs.WithOps.{swap_is}
use Rattle.esr_client.proofs.cloning.cloned.Goals as goal

pub chosen_refs-requires-clause-listed : goal.chosen_refs-requires-clause-listed
chosen_refs-requires-clause-listed g c = (c.args.ask.now.source.now, c.requires.may.0.copies.listed)

pub unreachable-requires : goal.unreachable-requires
unreachable-requires g c = omega (arith, c.in_default.ensures.next, c.requires.may.2)

pub returns : goal.returns
returns g c =
    let taken : CloneOf = record { source = c.args.uuid.number; indices = map ref_of_code c.in_ok-refs.refs } in (
      Some taken,
      c.in-Ok.ensures,
      swap_is g.K.Told.start c.args.repo.now 0 (AskStep (Clone c.args.ask.now.source.now c.args.ask.now.name.now c.args.ask.now.indices.now c.args.ask.now.moment (Some taken)))
          (Accepted c.next_op-op.result) None None None c.in_ok-progress.progress c.in-Some.next c.in_ok-renewed.renewed c.in_ok-renewed.ensures.is
          (may_ask_clone g.K.Told.start c.args.repo.now c.args.ask.now.source.now c.args.ask.now.name.now c.args.ask.now.indices.now c.args.ask.now.moment taken c.in_ok-refs.ensures.chosen.0
          c.in_ok-renewed.renewed.cluster c.in_ok-progress.progress c.next_op-op.result c.in-Some.next.number c.rules.ensures.infos c.requires.may c.requires.once
          c.in_ok-refs.ensures.chosen.1 c.in_ok-refs.ensures.chosen.2 c.in_ok-refs.ensures.chosen.3
          (c.in_ok-progress.ensures.plan (world_of g.K.Told.start c.args.repo.now) c.plan.ensures (sym c.next_id-first.ensures.number))
          (c.in_ok-progress.ensures.texts (world_of g.K.Told.start c.args.repo.now) (sym c.next_id-first.ensures.number) g.K.Told.start.known g.K.Told.start.told)
          (c.in_ok-renewed.ensures.ledger ∙ ap (λ (r : Record). (cluster_of r).ledger) c.in_ok-cluster.ensures ∙ ap (λ (x : ClusterRecord). x.ledger) c.record.ensures.record) c.in_ok-renewed.ensures.ops
          c.next_op-op.ensures c.in-Some.ensures.next.0),
    )
