use Rattle.std.proofs.Common.{List, [], ◌∷◌, ◌++◌, map, sym, ap, ◌∙◌}
use Rattle.esr_names.specs.declared.index_ref.IndexRef.{IndexRef as CodeRef}
use Rattle.esr_core.specs.After.{ref_by_name}
use Rattle.esr_formats.specs.Refs.{ref_of_code}
use Rattle.esr_accept.proofs.Cloned.{ref_here, ref_on, ref_none, ref_pushed, ref_left}
use Rattle.esr_accept.proofs.clone.push_named.Goals as goal

pub returns-then-eq : goal.returns-then-eq
returns-then-eq c =
    let x = c.index-item.result in
    ref_pushed c.args.refs.now c.push.new.self c.in_ok-try_clone.field-0 x (ref_by_name (map ref_of_code c.args.all.now) c.args.name.now)
    (c.in_ok-push.ensures.ok ∙ ap (λ (rs : List CodeRef). rs ++ c.in_ok-try_clone.field-0 ∷ []) c.loop-index.invariant.refs) c.in_ok-try_clone.ensures
    (c.loop-index.invariant.search ∙ ref_here c.args.all.now c.loop-index.index-index x c.loop-index-test.true c.index-item.is c.args.name.now (sym c.eq.ensures ∙ c.if-eq.true))

pub loop-index-preserved : goal.loop-index-preserved
loop-index-preserved c =
    let x = c.index-item.result in
    record {
      search = c.loop-index.invariant.search ∙ ref_on c.args.all.now c.loop-index.index-index x c.loop-index-test.true c.index-item.is c.args.name.now (sym c.eq.ensures ∙ c.if-eq.false);
      refs = c.loop-index.invariant.refs;
    }

pub returns : goal.returns
returns c =
    ref_left c.args.refs.now c.loop-index.refs (ref_by_name (map ref_of_code c.args.all.now) c.args.name.now) c.loop-index.invariant.refs
    (c.loop-index.invariant.search ∙ ref_none c.args.all.now c.loop-index.index-index c.loop-index-test.false c.args.name.now)
