use Rattle.std.proofs.Common.{◌++◌, ◌∙◌, List, map, sym, arith}
use Rattle.std.proofs.lemmas.List.{at_drop_all}
use Rattle.esr_report.specs.declared.reply.Reply.{Reply}
use Rattle.esr_lines.specs.Lines.{lines_text}
use Rattle.esr_report.specs.Code.{reply_of}
use Rattle.esr_lines.proofs.Texts.{no_lines}
use Rattle.esr_lines.proofs.lines.push_lines.Goals as goal

pub returns : goal.returns
returns c =
    let left = c.loop-reply.left.now in
    let past = at_drop_all (λ (rs : List Reply). c.loop-reply.out ++ lines_text left (map reply_of rs)) c.args.replies.now c.loop-reply.reply-index (omega arith) in
    sym (c.loop-reply.invariant ∙ past ∙ no_lines c.loop-reply.out left)
