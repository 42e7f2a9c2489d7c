use Rattle.std.proofs.Common.{subst}
use Rattle.esr_model.specs.Names.{IndexMeta}
use Rattle.esr_model.specs.Values.{IndexMetadata}
use Rattle.esr_desk.specs.Start.{formats_of}
use Rattle.esr_formats.specs.IndexMetas.{index_meta_of}
use Rattle.esr_formats.specs.Infos.{info_of_code}
use Rattle.esr_formats.specs.Refs.{ref_of_code}
use Rattle.esr_desk.specs.Own.{caller_of}
use Rattle.esr_desk.specs.Check.Shown.{ReadAs}
use Rattle.esr_agreement.specs.AgreementTests.{so, not_so}
use Rattle.esr_check.specs.Names.{Just}
use Rattle.esr_check.proofs.Snapping.{meta_beside}
use Rattle.esr_check.proofs.snap.check_meta.Goals as goal

pub fetch_meta-requires-clause-may : goal.fetch_meta-requires-clause-may
fetch_meta-requires-clause-may g c κs within = c.requires.may

pub returns-then-is_meta_of-clause-meta : goal.returns-then-is_meta_of-clause-meta
returns-then-is_meta_of-clause-meta g c =
    let s = g.Q.Desk.start in
    let new = g.Q.Desk.seen c.fetch_meta.new.desk in
    subst (λ (v : IndexMetadata). ReadAs s (caller_of s new) (IndexMeta c.args.index.now.id.number c.args.uuid.number) (formats_of s).index_meta v) (so c.is_meta_of.result c.is_meta_of.ensures c.if-is_meta_of.true) c.in_ok-meta.ensures.read

pub returns-clause-trouble : goal.returns-clause-trouble
returns-clause-trouble g c =
    let s = g.Q.Desk.start in
    meta_beside s (g.Q.Desk.seen c.args.desk.now) (g.Q.Desk.seen c.fetch_meta.new.desk) (Just (IndexMeta c.args.index.now.id.number c.args.uuid.number)) c.args.uuid.number
    (info_of_code c.args.info.now) (ref_of_code c.args.index.now) (index_meta_of c.in_ok-meta.meta)
    c.fetch_meta.ensures.went c.requires.info c.requires.there c.in_ok-meta.ensures.read (not_so c.is_meta_of.result c.is_meta_of.ensures c.if-is_meta_of.false)
