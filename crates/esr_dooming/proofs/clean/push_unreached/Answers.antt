use Rattle.std.specs.BTreeSet.{contains}
use Rattle.esr_names.specs.contracts.blob.BlobNameOrd.TheImpl as name_block
use Rattle.esr_reach.specs.NamePieces.{pushed_none}
use Rattle.esr_dooming.specs.Unreached.{blob_piece}
use Rattle.esr_dooming.proofs.Unreaching.{page_next, page_all}
use Rattle.esr_dooming.proofs.clean.push_unreached.Goals as goal

pub loop-blob-init : goal.loop-blob-init
loop-blob-init c = pushed_none c.args.names.now

pub loop-blob-preserved : goal.loop-blob-preserved
loop-blob-preserved c =
    page_next (blob_piece (contains name_block.ghosts.cmp c.args.reached.now)) c.args.names.now c.loop-blob.names c.push_blob.new.names
    c.args.page.now c.loop-blob.blob-index c.blob-item.result c.loop-blob-test.true c.blob-item.is c.loop-blob.invariant
    c.in_ok-push_blob.ensures

pub returns : goal.returns
returns c = page_all (blob_piece (contains name_block.ghosts.cmp c.args.reached.now)) c.args.names.now c.loop-blob.names c.args.page.now c.loop-blob.blob-index c.loop-blob-test.false c.loop-blob.invariant
