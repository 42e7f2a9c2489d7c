use Rattle.std.proofs.Common.{◌≡◌, map}
use Rattle.std.specs.Option.{option_copied}
use Rattle.esr_depot.specs.Listing.{size_of, page_from}
use Rattle.esr_depot.proofs.listing.first_after.Given as goal

abbrev pub invariant-loop-name : goal.invariant-loop-name
invariant-loop-name l = map size_of l.page ≡ page_from (option_copied l.fn.after) l.yielded
