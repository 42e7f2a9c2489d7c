use Rattle.std.proofs.Common.{List, map, sym, ap, ◌++◌}
use Rattle.esr_names.specs.declared.index_ref.IndexRef.{IndexRef as CodeRef}
use Rattle.esr_core.specs.After.{named_refs}
use Rattle.esr_formats.specs.Refs.{ref_of_code}
use Rattle.esr_accept.proofs.Cloned.{named_step, named_end}
use Rattle.esr_accept.proofs.clone.named.Goals as goal

pub loop-name-init : goal.loop-name-init
loop-name-init c = ap (λ (rs : List CodeRef). map ref_of_code rs ++ named_refs (map ref_of_code c.args.all.now) c.args.names.now) (sym c.new-refs.ensures)

pub loop-name-preserved : goal.loop-name-preserved
loop-name-preserved c =
    named_step (map ref_of_code c.args.all.now) c.args.names.now c.loop-name.name-index c.name-item.result c.loop-name-test.true c.name-item.is (named_refs (map ref_of_code c.args.all.now) c.args.names.now) (map ref_of_code c.loop-name.refs)
    (map ref_of_code c.push_named.new.refs) c.loop-name.invariant c.in_ok-push_named.ensures

pub returns : goal.returns
returns c =
    named_end (map ref_of_code c.args.all.now) c.args.names.now c.loop-name.name-index c.loop-name-test.false (named_refs (map ref_of_code c.args.all.now) c.args.names.now) (map ref_of_code c.loop-name.refs) c.loop-name.invariant
