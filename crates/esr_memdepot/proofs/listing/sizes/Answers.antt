use Rattle.std.proofs.Common.{◌≡◌, ◌∙◌, true, false, refl, sym, rules}
use Rattle.std.specs.FinMap.{empty, insert}
use Rattle.esr_memdepot.specs.Past.{is_there}
use Rattle.esr_memdepot.proofs.Held.{rest-is, held-skipped}
use Rattle.esr_memdepot.proofs.Sized.{sizes_empty, sizes_more}
use Rattle.esr_memdepot.proofs.listing.sizes.Goals as goal
use Rattle.esr_memdepot.proofs.listing.sizes.Goals.{then-is_none+in_ok-name+in_ok-insert, else-is_none}

pub loop-kept-init : goal.loop-kept-init
loop-kept-init c = (empty, rw c.new-sizes.ensures.empty (sym sizes_empty), refl)

pub loop-kept-preserved : goal.loop-kept-preserved
loop-kept-preserved c =
    let k = c.kept-item.result in
    let inv = c.loop-kept.invariant in
    let rest = rest-is c.args.blobs.now c.loop-kept.kept-index k c.loop-kept-test.true c.kept-item.is in
    elim c.if-is_none.branch [
      | then-is_none+in_ok-name+in_ok-insert w ↦
          let there : is_there k ≡ true = search rules in
          let more = sizes_more c.loop-kept.sizes.entries _ _ k inv.0 w.in_ok-name.name w.len.result rest there (search rules) (search rules) inv.1 in
          rw w.sizes-is (rw w.in_ok-insert.ensures.entries (insert inv.0 k.name k.bytes, more.0, more.1 ∙ inv.2))
      | else-is_none w ↦
          let gone : is_there k ≡ false = search rules in
          rw w.sizes-is (inv.0, inv.1, held-skipped is_there _ _ k inv.0 rest gone ∙ inv.2)
    ]
