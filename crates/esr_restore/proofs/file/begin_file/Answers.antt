use Rattle.std.proofs.Common.{◌∙◌, Some, ap}
use Rattle.esr_model.specs.Values.{Bytes}
use Rattle.esr_source.specs.Begun.{begun_file}
use Rattle.esr_source.specs.Told.{TargetTold}
use Rattle.esr_restore.proofs.file.begin_file.Goals as goal

pub returns-in-Ok-clause-begun : goal.returns-in-Ok-clause-begun
returns-in-Ok-clause-begun g c =
    ap (λ (t : TargetTold). t.begun) c.in-Ok.ensures.ok
    ∙ ap (λ (name : Bytes). Some (begun_file name (g.Q.Target.Target.told c.args.target.now).files c.args.entry.now.print.len)) c.as_str.ensures.text

pub returns-in-Ok-clause-files : goal.returns-in-Ok-clause-files
returns-in-Ok-clause-files g c = ap (λ (t : TargetTold). t.files) c.in-Ok.ensures.ok

pub returns-in-Ok-clause-made_for : goal.returns-in-Ok-clause-made_for
returns-in-Ok-clause-made_for g c = ap (λ (t : TargetTold). t.made_for) c.in-Ok.ensures.ok

pub returns-in-Ok-clause-is_sure : goal.returns-in-Ok-clause-is_sure
returns-in-Ok-clause-is_sure g c = ap (λ (t : TargetTold). t.is_sure) c.in-Ok.ensures.ok

pub returns-in-Err-Memory-clause-files : goal.returns-in-Err-Memory-clause-files
returns-in-Err-Memory-clause-files g c = ap (λ (t : TargetTold). t.files) c.in-Err-Memory.ensures.err

pub returns-in-Err-Memory-clause-made_for : goal.returns-in-Err-Memory-clause-made_for
returns-in-Err-Memory-clause-made_for g c = ap (λ (t : TargetTold). t.made_for) c.in-Err-Memory.ensures.err

pub returns-in-Err-Memory-clause-is_sure : goal.returns-in-Err-Memory-clause-is_sure
returns-in-Err-Memory-clause-is_sure g c = ap (λ (t : TargetTold). t.is_sure) c.in-Err-Memory.ensures.err

pub returns-in-Err-Failed-clause-files : goal.returns-in-Err-Failed-clause-files
returns-in-Err-Failed-clause-files g c = ap (λ (t : TargetTold). t.files) c.in-Err-Failed.ensures.err

pub returns-in-Err-Failed-clause-made_for : goal.returns-in-Err-Failed-clause-made_for
returns-in-Err-Failed-clause-made_for g c = ap (λ (t : TargetTold). t.made_for) c.in-Err-Failed.ensures.err

pub returns-in-Err-Failed-clause-is_sure : goal.returns-in-Err-Failed-clause-is_sure
returns-in-Err-Failed-clause-is_sure g c = ap (λ (t : TargetTold). t.is_sure) c.in-Err-Failed.ensures.err
