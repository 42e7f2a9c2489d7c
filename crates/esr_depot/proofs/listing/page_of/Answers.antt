use Rattle.std.proofs.Common.{List, sym, subst, rules}
use Rattle.std.specs.BTreeMap.{IsOrdered}
use Rattle.std.specs.Cmp.Lexicographic.{slice_cmp}
use Rattle.std.specs.Ordering.{nat_cmp}
use Rattle.std.specs.Option.{option_copied}
use Rattle.esr_depot.specs.Listing.{Size, IsPage}
use Rattle.esr_depot.specs.Pages.{page_is}
use Rattle.esr_depot.proofs.Paging.{names_rise}
use Rattle.esr_depot.proofs.listing.page_of.Goals as goal

pub returns-clause-page : goal.returns-clause-page
returns-clause-page c =
    let after = option_copied c.args.after in
    let all = c.args.lengths.entries in
    let ordered : IsOrdered (slice_cmp nat_cmp) c.args.lengths = search rules in
    subst (λ (page : List Size). IsPage after page) (sym c.in_ok-page.ensures.listing) (page_is after all (names_rise all ordered))
