use Rattle.std.proofs.Common.{◌≡◌, ◌∙◌, sym, ap, take, drop, ◌++◌, length, arith}
use Rattle.std.proofs.lemmas.Grind.{common_steps}
use Rattle.std.proofs.lemmas.List.{drop-drop}
use Rattle.esr_source.proofs.Moved.{moved}
use Rattle.esr_source.proofs.unread.Unread.read.Goals as goal

pub returns-clause-moved : goal.returns-clause-moved
returns-clause-moved c =
    let n = c.min-count.result in
    let bs = c.self.inside.bytes in
    let at = c.self.inside.place in
    let piece = c.copy_from_slice.new.self in
    let is : piece ≡ take n (drop at bs) = grind (arith, common_steps) in
    let len : length piece ≡ n = grind (arith, common_steps) in
    ap (λ after. take n (piece ++ drop n c.args.buf.now) ++ after) (sym (drop-drop n at bs)) ∙ moved n (drop at bs) piece (drop n c.args.buf.now) is len ∙ c.self.view_is
