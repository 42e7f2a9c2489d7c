use Rattle.std.proofs.Common.{ℕ, nat_lt, sym, ap}
use Rattle.std.proofs.lemmas.List.{length-map}
use Rattle.esr_desk.specs.Listing.{blob_size_of}
use Rattle.esr_delete.proofs.list.is_last.Goals as goal

pub returns : goal.returns
returns c = ap (λ (n : ℕ). nat_lt n 1000) (sym (length-map c.args.page.now blob_size_of))
