use Rattle.std.proofs.Common.{List, subst, rules}
use Rattle.esr_core.specs.Entry.{Moment}
use Rattle.esr_desk.specs.Start.{world_of}
use Rattle.esr_desk.specs.Numbered.{Numbered}
use Rattle.esr_solo.proofs.Showing.{begins}
use Rattle.esr_solo.proofs.Listing.{begins_targets}
use Rattle.esr_solo.proofs.Committing.{begins_once}
use Rattle.esr_solo.proofs.Testing.{begins_tested}
use Rattle.esr_solo.proofs.Removing.{begins_removed}
use Rattle.esr_solo.proofs.solo.Solo.new.Goals as goal

pub invariant_of-result : goal.invariant_of-result
invariant_of-result g c = (
  search rules,
  begins _ g.K.Told.start c.args.repo c.new.result.items c.requires c.new.ensures.items,
  begins_targets _ g.K.Told.start c.args.repo c.new-2.result.items c.requires c.new-2.ensures.items,
  begins_once g.K.Told.start c.args.repo c.requires,
  subst (λ (l : List Moment). Numbered 1 (world_of g.K.Told.start l)) c.requires c.numbers.ensures.numbers,
  c.numbers.ensures.none,
  begins_tested g.K.Told.start c.args.repo c.requires,
  begins_removed c.args.repo c.requires,
  c.is_legal.ensures,
)
