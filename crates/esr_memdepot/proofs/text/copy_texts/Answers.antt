use Rattle.std.proofs.Common.{◌≡◌, ◌∙◌, true, false, refl, rules}
use Rattle.esr_memdepot.specs.Past.{left_text, is_text_dated}
use Rattle.esr_memdepot.proofs.Held.{rest-is, text-copied, text-skipped, list_all-push}
use Rattle.esr_memdepot.proofs.text.copy_texts.Goals as goal
use Rattle.esr_memdepot.proofs.text.copy_texts.Goals.{then-is_left+in_ok-try_clone+in_ok-push, else-is_left}

pub loop-text-preserved : goal.loop-text-preserved
loop-text-preserved c =
    let q = left_text c.args.moment c.args.leaves in
    let inv = c.loop-text.invariant in
    let rest = rest-is c.args.texts.now c.loop-text.text-index c.text-item.result c.loop-text-test.true c.text-item.is in
    elim c.if-is_left.branch [
      | then-is_left+in_ok-try_clone+in_ok-push w ↦
          let passes : q c.text-item.result ≡ true = search rules in
          rw w.copies-is (rw w.in_ok-push.ensures.items (record {
            same = text-copied q _ c.loop-text.copies.items _ c.text-item.result _ rest passes refl (search rules) ∙ inv.same;
            dated = list_all-push (is_text_dated 0) c.loop-text.copies.items _ inv.dated refl;
          }))
      | else-is_left w ↦
          let fails : q c.text-item.result ≡ false = search rules in
          rw w.copies-is (record { same = text-skipped q _ _ c.text-item.result _ rest fails ∙ inv.same; dated = inv.dated })
    ]
