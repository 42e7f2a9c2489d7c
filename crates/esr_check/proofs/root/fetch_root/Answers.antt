use Rattle.esr_names.specs.declared.blob.BlobName.TheVariants as codes
use Rattle.std.proofs.Common.{◌∙◌, subst}
use Rattle.esr_model.specs.Names.{Root}
use Rattle.esr_root.specs.Root.{IsRoot}
use Rattle.esr_formats.specs.Roots.{root_of}
use Rattle.esr_desk.specs.Own.{caller_of}
use Rattle.esr_check.proofs.Reading.{root_name, as_root, root_unread}
use Rattle.esr_check.proofs.Reaching.{can_root}
use Rattle.esr_check.proofs.Telling.{unread_tells}
use Rattle.esr_check.proofs.root.fetch_root.Goals as goal

pub fetch_whole-requires-clause-layout : goal.fetch_whole-requires-clause-layout
fetch_whole-requires-clause-layout g c κs within = root_name c.args.number c.requires.number

pub fetch_whole-requires-clause-may : goal.fetch_whole-requires-clause-may
fetch_whole-requires-clause-may g c κs within =
    let s = g.Q.Desk.start in
    let old = g.Q.Desk.seen c.args.desk.now in
    can_root s old c.args.count.now c.args.number c.requires.so_far c.requires.first c.requires.safe

pub returns-in-Ok-clause-root : goal.returns-in-Ok-clause-root
returns-in-Ok-clause-root g c =
    let s = g.Q.Desk.start in
    record {
      safe = c.fetch_whole.ensures.went.same.safe ∙ c.requires.safe;
      read = as_root s (caller_of s (g.Q.Desk.seen c.fetch_whole.new.desk)) (Root c.args.number) c.in_ok-bytes.bytes c.as_slice.result.now c.as_slice.ensures c.in_ok-bytes.ensures.fetched (root_of c.in-Ok.root) c.in-Ok.ensures.read;
    }

pub returns-in-Ok-clause-rule : goal.returns-in-Ok-clause-rule
returns-in-Ok-clause-rule g c = subst IsRoot c.root.view_is c.root.invariant

pub returns-clause-trouble : goal.returns-clause-trouble
returns-clause-trouble g c =
    root_unread g.Q.Fetch.Counted.faults g.Q.Desk.start (g.Q.Desk.seen c.fetch_whole.new.desk) c.in_ok-bytes.bytes c.as_slice.result.now
    c.in-Err.refusal c.unread.result c.as_slice.ensures c.args.number c.unread.ensures c.in_ok-bytes.ensures.fetched c.in-Err.ensures.reason

pub returns-clause-first : goal.returns-clause-first
returns-clause-first g c = unread_tells (codes.Root c.args.number) c.in-Err.refusal c.unread.result c.unread.ensures
