use Rattle.std.proofs.Common.{map}
use Rattle.esr_formats.specs.Refs.{ref_of_code}
use Rattle.esr_client.proofs.Clones.{chosen_from}
use Rattle.esr_client.proofs.cloning.chosen_refs.Goals as goal

pub returns-clause-chosen : goal.returns-clause-chosen
returns-clause-chosen g c =
    chosen_from g.K.Told.start c.args.repo.now c.args.uuid.number (map ref_of_code c.in_ok-all.all) c.args.ask.now.indices.now (map ref_of_code) c.chosen.result c.in_ok-all.ensures.indices c.in_ok-all.ensures.apart c.chosen.ensures.chosen
