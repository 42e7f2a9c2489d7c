use Rattle.std.proofs.Common.{ℕ, List, subst}
use Rattle.esr_script.specs.Script.{script_of}
use Rattle.esr_run.specs.Stops.{AreGood, IsBadIn}
use Rattle.esr_run.proofs.Scripts.{good_script, bad_script}
use Rattle.esr_run.proofs.asked.script_asked.Goals as goal

pub returns-clause-err : goal.returns-clause-err
returns-clause-err g c =
    bad_script c.args.part_size (g.I.Lines.left c.args.script.now) (g.I.Counted.faults c.args.script.now) (g.I.Counted.faults c.read_all.new.script) c.in_ok-bytes.bytes c.in-Err.stop
    c.in_ok-bytes.ensures.kept (subst (λ (bytes : List ℕ). IsBadIn (script_of bytes) c.in-Err.stop) c.as_slice.ensures c.in-Err.ensures.err)

pub returns-in-Ok-clause-script : goal.returns-in-Ok-clause-script
returns-in-Ok-clause-script g c =
    good_script c.args.part_size (g.I.Lines.left c.args.script.now) c.in_ok-bytes.bytes c.in-Ok.script
    c.in_ok-bytes.ensures.kept (subst (λ (bytes : List ℕ). AreGood (script_of bytes) c.in-Ok.script) c.as_slice.ensures c.in-Ok.ensures.ok)
