use Rattle.std.proofs.Common.{◌≡◌, ◌+◌, ◌≤◌, ◌^◌, false, List, map, flat_map, length}
use Rattle.std.specs.BTreeSet.{contains}
use Rattle.esr_names.specs.contracts.blob.BlobNameOrd.TheImpl as name_block
use Rattle.esr_depot.specs.declared.listing.Listed.{Listed}
use Rattle.esr_model.specs.Cleanup.{last_text}
use Rattle.esr_formats.specs.Names.{name_of}
use Rattle.esr_dooming.specs.Unreached.{blob_piece}
use Rattle.esr_desk.specs.Calls.{Call}
use Rattle.esr_desk.specs.Grew.{GrewBy}
use Rattle.esr_desk.specs.Listing.{page_of}
use Rattle.esr_desk.specs.Start.{ticket_of}
use Rattle.esr_desk.specs.Told.{TellsAll}
use Rattle.esr_delete.proofs.Listing.{HasListed}
use Rattle.esr_delete.proofs.list.list_unreached.Given as goal

abbrev pub invariant-loop-left : goal.invariant-loop-left
invariant-loop-left g l =
    let s = g.Q.Desk.start in
    let old = g.Q.Desk.seen l.fn.desk in
    let now = g.Q.Desk.seen l.desk in
    record {
      pages : List Listed;
      is : HasListed (ticket_of s old l.ticket) (ticket_of s now l.ticket) pages false;
      found : map name_of l.names ≡ flat_map (blob_piece (contains name_block.ghosts.cmp l.reached)) pages;
      last : last_text (page_of l.page) ≡ last_text (page_of pages);
      turns : 2 ^ 33 ≤ l.left + length now;
      tells : TellsAll s now l.ticket;
      grew : GrewBy s l.ticket old now;
      calls : ◌≡◌ {A = List Call} (g.Q.Desk.calls l.desk) (g.Q.Desk.calls l.fn.desk);
    }

abbrev pub decreases-loop-left : goal.decreases-loop-left
decreases-loop-left g l = l.left
