use Rattle.std.proofs.Common.{◌≡◌, ℕ, List, length, Ok, Err, Result, sym, ap, ◌∙◌, arith}
use Rattle.std.specs.Prelude.{insert, slice_set, slice_index_or}
use Rattle.esr_root.specs.Indices.{place_from}
use Rattle.esr_root.specs.Changes.{grown, first}
use Rattle.esr_root.specs.declared.indices.RootIndex.{RootIndex}
use Rattle.esr_root.proofs.Added.{placed_at, placed_before}
use Rattle.esr_root.specs.Lists.{on_ok}
use Rattle.esr_root.proofs.change.enlist.Goals as goal

-- the place by the arguments
placed : (name text : List ℕ) (is slice : List RootIndex) (found answer : Result ℕ ℕ) → found ≡ place_from 0 text slice → text ≡ name → slice ≡ is → found ≡ answer
    → place_from 0 name is ≡ answer
placed name text is slice found answer of same_text same_slice e =
    ap (λ (n : List ℕ). place_from 0 n is) (sym same_text) ∙ ap (λ (js : List RootIndex). place_from 0 text js) (sym same_slice) ∙ sym of ∙ e

pub index_mut-requires : goal.index_mut-requires
index_mut-requires c =
    let there = placed_at c.args.uuid c.args.index.now 0 c.in-Ok.at c.args.indices.now.items
    (placed _ _ _ _ c.place.result (Ok c.in-Ok.at) c.place.ensures c.as_str.ensures.text c.as_slice.ensures.value c.in-Ok.is) in
    omega (arith, there.1, there.2, c.as_slice.ensures.len, ap length c.as_slice.ensures.value)

pub insert-requires : goal.insert-requires
insert-requires c =
    let there = placed_before c.args.uuid c.args.index.now 0 c.in-Err.at c.args.indices.now.items
    (placed _ _ _ _ c.place.result (Err c.in-Err.at) c.place.ensures c.as_str.ensures.text c.as_slice.ensures.value c.in-Err.is) in
    omega (arith, there.1, there.2, c.as_slice.ensures.len, ap length c.as_slice.ensures.value)

pub returns-in-Ok : goal.returns-in-Ok
returns-in-Ok c =
    let items : List RootIndex = c.args.indices.now.items in
    let old : RootIndex = c.index_mut.result.now in
    let there = placed_at c.args.uuid c.args.index.now 0 c.in-Ok.at items
    (placed _ _ _ _ c.place.result (Ok c.in-Ok.at) c.place.ensures c.as_str.ensures.text c.as_slice.ensures.value c.in-Ok.is) in
    let same : c.in-Ok.at ≡ there.0 = omega (arith, there.1) in
    on_ok _ _ c.grow.result (λ grew.
    ap (slice_set items c.in-Ok.at) (grew ∙ ap (grown c.args.uuid c.args.index.now.shards) c.index_mut.ensures.value)
    ∙ ap (λ (k : ℕ). slice_set items k (grown c.args.uuid c.args.index.now.shards (slice_index_or items k old))) same
    ∙ sym (there.3 old)) c.grow.ensures

-- what was put at a place is the index there
put_at : (items all new : List RootIndex) (k j : ℕ) (put one : RootIndex) → new ≡ insert items k put → put ≡ one → k ≡ j → all ≡ insert items j one → new ≡ all
put_at items all new k j put one made same place is = made ∙ ap (insert items k) same ∙ ap (λ (n : ℕ). insert items n one) place ∙ sym is

pub returns-in_ok-insert-in-Err : goal.returns-in_ok-insert-in-Err
returns-in_ok-insert-in-Err c =
    let there = placed_before c.args.uuid c.args.index.now 0 c.in-Err.at c.args.indices.now.items
    (placed _ _ _ _ c.place.result (Err c.in-Err.at) c.place.ensures c.as_str.ensures.text c.as_slice.ensures.value c.in-Err.is) in
    let same : c.in-Err.at ≡ there.0 = omega (arith, there.1) in
    put_at c.args.indices.now.items _ c.insert.new.self.items c.in-Err.at there.0 c.in_ok-first-in-Err.field-0 (first c.args.uuid c.args.index.now)
    c.in_ok-insert-in-Err.ensures.items c.in_ok-first-in-Err.ensures same there.3
