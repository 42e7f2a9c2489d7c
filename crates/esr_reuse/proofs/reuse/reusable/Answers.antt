use Rattle.std.proofs.Common.{◌≡◌, Option, Some, option_map, ◌∙◌, ap}
use Rattle.esr_shardidx.specs.declared.entry.FileEntry.{FileEntry as CodeEntry}
use Rattle.esr_formats.specs.Shards.{entry_of}
use Rattle.esr_reuse.proofs.Found.{reused-is}
use Rattle.esr_reuse.proofs.reuse.reusable.Goals as goal

pub returns-in_ok-try_clone-in-Some : goal.returns-in_ok-try_clone-in-Some
returns-in_ok-try_clone-in-Some c =
    ap (λ (e : CodeEntry). Some (entry_of e)) c.in_ok-try_clone-in-Some.ensures ∙ ap (λ (o : Option CodeEntry). option_map entry_of o) c.in-Some.ensures
    ∙ reused-is c.args.base.now.files c.args.physical.now c.args.print.now

pub returns-in-None : goal.returns-in-None
returns-in-None c = ap (λ (o : Option CodeEntry). option_map entry_of o) c.in-None.ensures ∙ reused-is c.args.base.now.files c.args.physical.now c.args.print.now
