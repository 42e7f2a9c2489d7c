use Rattle.std.proofs.Common.{◌≡◌, ◌∙◌, true, false, refl, rules}
use Rattle.esr_memdepot.specs.Past.{left_blob, is_dated}
use Rattle.esr_memdepot.proofs.Held.{rest-is, held-copied, held-skipped, list_all-push}
use Rattle.esr_memdepot.proofs.blob.copy_left.Goals as goal
use Rattle.esr_memdepot.proofs.blob.copy_left.Goals.{then-is_left+in_ok-try_clone+in_ok-try_clone-2+in_ok-push, else-is_left}

pub loop-kept-preserved : goal.loop-kept-preserved
loop-kept-preserved c =
    let p = left_blob c.args.moment c.args.leaves in
    let inv = c.loop-kept.invariant in
    let rest = rest-is c.args.blobs.now c.loop-kept.kept-index c.kept-item.result c.loop-kept-test.true c.kept-item.is in
    elim c.if-is_left.branch [
      | then-is_left+in_ok-try_clone+in_ok-try_clone-2+in_ok-push w ↦
          let passes : p c.kept-item.result ≡ true = search rules in
          rw w.copies-is (rw w.in_ok-push.ensures.items (record {
            same = held-copied p _ c.loop-kept.copies.items _ c.kept-item.result _ rest passes refl (search rules) (search rules) ∙ inv.same;
            dated = list_all-push (is_dated 0) c.loop-kept.copies.items _ inv.dated refl;
          }))
      | else-is_left w ↦
          let fails : p c.kept-item.result ≡ false = search rules in
          rw w.copies-is (record { same = held-skipped p _ _ c.kept-item.result _ rest fails ∙ inv.same; dated = inv.dated })
    ]
