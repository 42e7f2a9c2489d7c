use Rattle.std.proofs.Common.{List, map, sym, ap, ◌∙◌, subst}
use Rattle.esr_names.specs.declared.index_ref.IndexRef.{IndexRef as CodeRef}
use Rattle.esr_core.specs.After.{named_refs}
use Rattle.esr_formats.specs.Refs.{ref_of_code, AreApart}
use Rattle.esr_progress.specs.Lowest.{ok_maps}
use Rattle.esr_accept.proofs.Cloned.{all_taken, named_taken, named_apart}
use Rattle.esr_accept.proofs.clone.chosen.Goals as goal

pub returns-then-takes_all-clause-chosen : goal.returns-then-takes_all-clause-chosen
returns-then-takes_all-clause-chosen c =
    ok_maps c.try_clone.result c.try_clone.ensures (λ refs e. ap (λ (rs : List CodeRef). map ref_of_code rs) e ∙ all_taken (map ref_of_code c.args.all.now) c.args.names.now (sym c.takes_all.ensures ∙ c.if-takes_all.true))

pub returns-then-takes_all-clause-apart : goal.returns-then-takes_all-clause-apart
returns-then-takes_all-clause-apart c = ok_maps c.try_clone.result c.try_clone.ensures (λ refs e. subst (λ (rs : List CodeRef). AreApart (map ref_of_code rs)) (sym e) c.requires.apart)

pub returns-clause-chosen : goal.returns-clause-chosen
returns-clause-chosen c =
    ok_maps c.named.result c.named.ensures
    (λ refs e.
    e ∙ (λ j. named_refs (map ref_of_code (c.as_slice.ensures j)) (c.as_slice-2.ensures j)) ∙ named_taken (map ref_of_code c.args.all.now) c.args.names.now (sym c.takes_all.ensures ∙ c.if-takes_all.false))

pub returns-clause-apart : goal.returns-clause-apart
returns-clause-apart c =
    ok_maps c.named.result c.named.ensures
    (λ refs e. subst AreApart (sym (e ∙ λ j. named_refs (map ref_of_code (c.as_slice.ensures j)) (c.as_slice-2.ensures j))) (named_apart (map ref_of_code c.args.all.now) c.args.names.now c.requires.apart c.requires.once))
