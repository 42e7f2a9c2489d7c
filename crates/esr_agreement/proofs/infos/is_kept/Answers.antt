use Rattle.std.proofs.Common.{sym, subst}
use Rattle.esr_names.specs.declared.ids.Id.{Id}
use Rattle.esr_formats.specs.Shards.{shard_index_of}
use Rattle.esr_agreement.specs.Lists.{IsListOf}
use Rattle.esr_agreement.specs.AgreementTests.{so, not_so}
use Rattle.esr_agreement.proofs.infos.is_kept.Goals as goal

pub returns-then-not-is_of-clause-kept : goal.returns-then-not-is_of-clause-kept
returns-then-not-is_of-clause-kept c = λ e of. absurd (not_so c.is_of.result c.is_of.ensures c.if-not-is_of.true of)

pub returns-then-not-is_of-clause-lost : goal.returns-then-not-is_of-clause-lost
returns-then-not-is_of-clause-lost c = λ e. absurd cc

pub returns-clause-kept : goal.returns-clause-kept
returns-clause-kept c = λ e of. subst (λ (u : Id). IsListOf (shard_index_of c.args.held.now) u.number) c.uuid_of.ensures (so c.has_list.result c.has_list.ensures e)

pub returns-clause-lost : goal.returns-clause-lost
returns-clause-lost c = λ e.
    record {
      of = so c.is_of.result c.is_of.ensures c.if-not-is_of.false;
      unlisted = λ listed. not_so c.has_list.result c.has_list.ensures e (subst (λ (u : Id). IsListOf (shard_index_of c.args.held.now) u.number) (sym c.uuid_of.ensures) listed);
    }
