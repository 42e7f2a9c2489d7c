use Rattle.esr_names.specs.declared.blob.BlobName.TheVariants as codes
use Rattle.esr_model.specs.Names.{Snap}
use Rattle.esr_formats.specs.Infos.{info_of_code}
use Rattle.esr_desk.specs.Own.{caller_of}
use Rattle.esr_check.proofs.Reading.{info_name, as_info, info_unread}
use Rattle.esr_check.proofs.Telling.{unread_tells}
use Rattle.esr_check.proofs.snap.fetch_info.Goals as goal

pub fetch_whole-requires-clause-layout : goal.fetch_whole-requires-clause-layout
fetch_whole-requires-clause-layout g c κs within = info_name c.args.uuid

pub fetch_whole-requires-clause-may : goal.fetch_whole-requires-clause-may
fetch_whole-requires-clause-may g c κs within = c.requires.may

pub returns-in-Ok-clause-read : goal.returns-in-Ok-clause-read
returns-in-Ok-clause-read g c =
    let s = g.Q.Desk.start in
    as_info s (caller_of s (g.Q.Desk.seen c.fetch_whole.new.desk)) (Snap c.args.uuid.number) c.in_ok-bytes.bytes c.as_slice.result.now c.as_slice.ensures c.in_ok-bytes.ensures.fetched (info_of_code c.in-Ok.info) c.in-Ok.ensures.read

pub returns-clause-trouble : goal.returns-clause-trouble
returns-clause-trouble g c =
    info_unread g.Q.Fetch.Counted.faults g.Q.Desk.start (g.Q.Desk.seen c.fetch_whole.new.desk) c.in_ok-bytes.bytes c.as_slice.result.now
    c.in-Err.refusal c.unread.result c.as_slice.ensures c.args.uuid c.unread.ensures c.in_ok-bytes.ensures.fetched c.in-Err.ensures.reason

pub returns-clause-first : goal.returns-clause-first
returns-clause-first g c = unread_tells (codes.Snap c.args.uuid) c.in-Err.refusal c.unread.result c.unread.ensures
