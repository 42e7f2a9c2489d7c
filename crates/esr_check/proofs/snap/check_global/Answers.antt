use Rattle.std.proofs.Common.{subst}
use Rattle.esr_model.specs.Names.{Meta}
use Rattle.esr_model.specs.Values.{GlobalMeta}
use Rattle.esr_desk.specs.Start.{formats_of}
use Rattle.esr_formats.specs.Globals.{global_of_code}
use Rattle.esr_formats.specs.Infos.{info_of_code}
use Rattle.esr_desk.specs.Own.{caller_of}
use Rattle.esr_desk.specs.Check.Shown.{ReadAs}
use Rattle.esr_agreement.specs.AgreementTests.{so, not_so}
use Rattle.esr_check.specs.Names.{Just}
use Rattle.esr_check.proofs.Snapping.{global_beside}
use Rattle.esr_check.proofs.snap.check_global.Goals as goal

pub fetch_global-requires-clause-may : goal.fetch_global-requires-clause-may
fetch_global-requires-clause-may g c κs within = c.requires.may

pub returns-then-is_global_of-clause-read : goal.returns-then-is_global_of-clause-read
returns-then-is_global_of-clause-read g c =
    let s = g.Q.Desk.start in
    let new = g.Q.Desk.seen c.fetch_global.new.desk in
    subst (λ (v : GlobalMeta). ReadAs s (caller_of s new) (Meta c.args.uuid.number) (formats_of s).global v) (so c.is_global_of.result c.is_global_of.ensures c.if-is_global_of.true) c.in_ok-meta.ensures.read

pub returns-clause-trouble : goal.returns-clause-trouble
returns-clause-trouble g c =
    let s = g.Q.Desk.start in
    global_beside s (g.Q.Desk.seen c.args.desk.now) (g.Q.Desk.seen c.fetch_global.new.desk) (Just (Meta c.args.uuid.number)) c.args.uuid.number (info_of_code c.args.info.now) (global_of_code c.in_ok-meta.meta)
    c.fetch_global.ensures.went c.requires.info c.in_ok-meta.ensures.read (not_so c.is_global_of.result c.is_global_of.ensures c.if-is_global_of.false)
