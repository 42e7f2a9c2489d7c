use Rattle.std.proofs.lemmas.Result.{IfOk-weaker}
use Rattle.esr_root.specs.Root.{Root}
use Rattle.esr_root.specs.Changes.{set_generation_of, generation_at}
use Rattle.std.proofs.Common.{◌≡◌, ◌∷◌, [], Option, Some, option_map, ap, ◌∙◌}
use Rattle.esr_names.specs.declared.ids.Id.{Id}
use Rattle.esr_model.specs.Finalize.{larger}
use Rattle.esr_formats.specs.Ids.{number_of}
use Rattle.esr_formats.specs.Roots.{root_of}
use Rattle.esr_results.specs.Results.{result_of}
use Rattle.esr_newroot.specs.Named.{with_done, Becomes, changed}
use Rattle.esr_newroot.proofs.Changed.{known_named}
use Rattle.esr_newroot.proofs.Steps.{with_one}
use Rattle.esr_newroot.proofs.new_root.with_result.Goals as goal

pub set_generation-requires-clause-known : goal.set_generation-requires-clause-known
set_generation-requires-clause-known c = known_named c.args.root.now.indices c.args.name.now c.requires.has.index c.requires.has.there

generation_is : (c : goal.After-set_generation) → Some c.larger-generation.result.number ≡ larger (option_map number_of (generation_at c.args.root.now c.args.name.now c.args.own.now.shard.number)) (Some c.args.own.now.generation.number)
generation_is c = c.larger-generation.ensures ∙ ap (λ (o : Option Id). larger (option_map number_of o) (Some c.args.own.now.generation.number)) c.generation.ensures

pub returns : goal.returns
returns c =
    IfOk-weaker c.set_generation.result (λ (r : Root). r ≡ set_generation_of c.args.root.now c.args.name.now c.args.own.now.shard.number (Some c.larger-generation.result))
    (λ (r : Root). Becomes (root_of c.args.root.now) (root_of r) (changed c.args.name.now (with_done (result_of c.args.own.now ∷ []) c.args.own.now.shard.index.number) (root_of c.args.root.now)))
    (λ r e. with_one c.args.root.now r c.args.name.now c.args.own.now c.larger-generation.result c.requires.has (generation_is c) e) c.set_generation.ensures.value
