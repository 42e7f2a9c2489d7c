use Rattle.std.proofs.Common.{List, map, sym, ap, ◌∙◌, subst}
use Rattle.std.specs.Prelude.{option_copied}
use Rattle.esr_names.specs.declared.index_ref.IndexRef.{IndexRef}
use Rattle.esr_meta.specs.Info.{Info}
use Rattle.esr_formats.specs.Refs.{ref_of_code, AreApart}
use Rattle.esr_progress.specs.Infos.{HasIndices}
use Rattle.esr_desk.specs.Start.{formats_of, world_of}
use Rattle.esr_client.proofs.Restores.{listed_found, found_indices, refs_apart}
use Rattle.esr_client.proofs.restoring.indices_of.Goals as goal
use Rattle.esr_repo.specs.Stepping.{ok_so}

pub unreachable-requires : goal.unreachable-requires
unreachable-requires g c =
    listed_found g.K.Told.start (world_of g.K.Told.start c.args.repo.now) c.infos.result.now c.args.uuid.number c.requires.listed.0 c.infos.ensures c.requires.listed.1 (sym c.info_of.ensures ∙ ap option_copied c.in_default.is)

pub returns-clause-indices : goal.returns-clause-indices
returns-clause-indices g c =
    ok_so c.try_clone.result c.info.inside.indices
    (λ (indices : List IndexRef). HasIndices (formats_of g.K.Told.start) (world_of g.K.Told.start c.args.repo.now) g.K.Told.start.tells c.args.uuid.number (map ref_of_code indices)) c.try_clone.ensures
    (subst (λ (i : Info). HasIndices (formats_of g.K.Told.start) (world_of g.K.Told.start c.args.repo.now) g.K.Told.start.tells c.args.uuid.number (map ref_of_code i.indices)) (sym c.info.view_is)
    (found_indices g.K.Told.start (world_of g.K.Told.start c.args.repo.now) c.infos.result.now c.args.uuid.number c.in-Some.info.now c.infos.ensures (sym c.info_of.ensures ∙ ap option_copied c.in-Some.is)))

pub returns-clause-apart : goal.returns-clause-apart
returns-clause-apart g c = ok_so c.try_clone.result c.info.inside.indices (λ (indices : List IndexRef). AreApart (map ref_of_code indices)) c.try_clone.ensures (refs_apart c.info.inside.indices c.info.invariant.indices)
