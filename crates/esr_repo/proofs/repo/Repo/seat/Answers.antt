use Rattle.std.proofs.Common.{option_map, sym, ap, ◌∙◌}
use Rattle.std.proofs.lemmas.Option.{same_Some, none-some}
use Rattle.esr_ops.specs.Plan.{seat_of_code}
use Rattle.esr_repo.specs.Grown.{seat_found}
use Rattle.esr_repo.proofs.repo.Repo.seat.Goals as goal

pub unreachable-requires : goal.unreachable-requires
unreachable-requires g c = none-some _ (ap (option_map seat_of_code) (sym c.in_default.is) ∙ c.seat.ensures ∙ seat_found g.K.Told.start c.args.self.now c.args.ticket c.plan.result.now c.plan.ensures c.requires.out)

pub returns : goal.returns
returns g c = same_Some _ _ (ap (option_map seat_of_code) (sym c.in-Some.is) ∙ c.seat.ensures ∙ seat_found g.K.Told.start c.args.self.now c.args.ticket c.plan.result.now c.plan.ensures c.requires.out)
