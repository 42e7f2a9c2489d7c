use Rattle.std.proofs.Common.{◌≡◌, List, [], drop, sym, subst, arith}
use Rattle.std.specs.List.{AllByRecursion}
use Rattle.std.proofs.lemmas.List.{drop_all}
use Rattle.esr_names.specs.declared.index_ref.IndexRef.{IndexRef}
use Rattle.esr_formats.proofs.Makings.{IsRuled, all_from, AreRefs-apart, makings_write_back}
use Rattle.esr_formats.proofs.laws.making_can_be_written.Goals as goal

pub loop-index-preserved : goal.loop-index-preserved
loop-index-preserved c = λ rest.
    c.loop-index.invariant
    (all_from IsRuled c.as_slice-index-items.result.now c.loop-index.index-index c.index-item.result c.loop-index-test.true c.index-item.is (record { name = c.rule.ensures.name; id = c.rule.ensures.id }) rest)

all_ruled : (c : goal.After-loop-index) → AllByRecursion IsRuled c.args.info.now.indices
all_ruled c =
    let items : List IndexRef = c.as_slice-index-items.result.now in
    let none : drop c.loop-index.index-index items ≡ [] = drop_all c.loop-index.index-index items c.loop-index-test.false in
    subst (AllByRecursion IsRuled) c.as_slice-index-items.ensures (c.loop-index.invariant (subst (AllByRecursion IsRuled) (sym none) tt))

pub returns-clause-written : goal.returns-clause-written
returns-clause-written c = λ known told.
    makings_write_back known told c.args.info.now.name c.args.info.now.uuid c.args.info.now.moment c.args.info.now.indices c.as_str-name.ensures.rule (omega arith) (omega arith) (all_ruled c) c.requires

pub returns-clause-making : goal.returns-clause-making
returns-clause-making c =
    record { indices = AreRefs-apart [] c.args.info.now.indices (λ q has b none. absurd none) (all_ruled c) c.requires; moment = omega arith; name = c.as_str-name.ensures.rule; uuid = omega arith }
