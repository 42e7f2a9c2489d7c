use Rattle.std.proofs.Common.{ℕ, List, [], replicate, ap, ◌∙◌}
use Rattle.esr_names.specs.declared.index_ref.IndexRef.{IndexRef as CodeRef}
use Rattle.esr_core.specs.World.{Op}
use Rattle.esr_accept.specs.Asking.{shards_of}
use Rattle.esr_accept.proofs.Cloned.{clone_open, clone_begins}
use Rattle.esr_accept.proofs.clone.begin_clone.Goals as goal

pub new-requires : goal.new-requires
new-requires c =
    clone_open c.args.making c.in_ok-places.places c.in_ok-shards.shards.items (c.in_ok-places.ensures ∙ ap (λ (n : ℕ). replicate n []) c.len.ensures)
    (c.in_ok-shards.ensures ∙ ap (λ (refs : List CodeRef). shards_of 0 refs) c.as_slice.ensures) c.requires.valid c.requires.apart

pub returns : goal.returns
returns c =
    c.new.ensures
    ∙ ap (λ (op : Op). (c.args.number, op))
    (clone_begins c.args.making c.in_ok-places.places c.in_ok-shards.shards.items (c.in_ok-places.ensures ∙ ap (λ (n : ℕ). replicate n []) c.len.ensures)
    (c.in_ok-shards.ensures ∙ ap (λ (refs : List CodeRef). shards_of 0 refs) c.as_slice.ensures) c.args.source)
