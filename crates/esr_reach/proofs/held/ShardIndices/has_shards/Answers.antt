use Rattle.std.proofs.Common.{◌≡◌, ℕ, false, List, map, Option, Some, option_map, is_some, refl, sym, ap, ◌∙◌, subst}
use Rattle.std.proofs.lemmas.Bool.{true≢false}
use Rattle.esr_model.specs.Loops.{all}
use Rattle.esr_names.specs.declared.ids.Id.{Id}
use Rattle.esr_formats.specs.Ids.{number_of}
use Rattle.esr_formats.specs.Shards.{shard_index_of}
use Rattle.esr_model.specs.Image.{at_shard}
use Rattle.esr_reach.specs.Held.{held_at}
use Rattle.esr_reach.proofs.Shards.{copied_some, unheld, held_more}
use Rattle.esr_reach.proofs.held.ShardIndices.has_shards.Goals as goal
use Rattle.esr_reach.proofs.held.ShardIndices.has_shards.Goals.{else-is_some-via-then-is_some+else-is_none, else-is_some-via-else-is_some}

pub returns-then-is_none : goal.returns-then-is_none
returns-then-is_none c =
    let xs = c.as_slice-generation-items.result.now in
    let n = c.loop-number.number in
    let index = c.args.index.now.id.number in
    let some = sym c.is_some.ensures ∙ c.if-is_some.true in
    let none : is_some (held_at c.args.self.now index n) ≡ false = sym (ap is_some c.get.ensures) ∙ copied_some shard_index_of c.get.result ∙ c.if-is_none.ensures in (
      λ e. absurd (true≢false (sym e)),
      λ each. absurd (unheld xs n _ c.args.self.now index c.loop-number-test.true some none
          (λ k g e. each k g (subst (λ (gs : List (Option Id)). at_shard (map (option_map number_of) gs) k ≡ Some g) c.as_slice-generation-items.ensures.items e))),
    )

pub loop-number-preserved : goal.loop-number-preserved
loop-number-preserved c =
    let xs = c.as_slice-generation-items.result.now in
    let n = c.loop-number.number in
    let index = c.args.index.now.id.number in
    held_more xs n _ c.args.self.now index c.loop-number-test.true
    (elim c.else-is_some.branch [
      | else-is_some-via-then-is_some+else-is_none w ↦ λ some. ap is_some (sym w.get.ensures) ∙ copied_some shard_index_of w.get.result ∙ w.if-is_none.ensures
      | else-is_some-via-else-is_some w ↦ λ some. absurd (true≢false (sym some ∙ sym c.is_some.ensures ∙ w.if-is_some.false))
    ])
    c.loop-number.invariant

pub returns : goal.returns
returns c =
    let xs = c.as_slice-generation-items.result.now in
    let whole = all (option_map number_of) xs c.loop-number.number c.loop-number-test.false ∙ ap (λ (gs : List (Option Id)). map (option_map number_of) gs) c.as_slice-generation-items.ensures.items in (
      λ _ k g e. c.loop-number.invariant k g (subst (λ (gs : List (Option ℕ)). at_shard gs k ≡ Some g) (sym whole) e),
      λ _. refl,
    )
