use Rattle.std.proofs.Common.{◌≡◌, ◌∷◌, [], ◌++◌, ◌+◌, ◌<◌, ℕ, List, Bool, cond, length, take, filter, refl, sym, ap, ◌∙◌, arith}
use Rattle.std.specs.List.{list_any}
use Rattle.std.proofs.lemmas.List.{take_more}
use Rattle.std.proofs.lemmas.List.Elements.{filter-append}
use Rattle.esr_names.specs.declared.ids.Id.{Id}
use Rattle.esr_shardidx.specs.declared.index.SnapList.{SnapList}
use Rattle.esr_shardidx.specs.Indices.{is_id, listed_of}
use Rattle.esr_shardidx.proofs.change.listed_of.Goals as goal

pub loop-list-preserved : goal.loop-list-preserved
loop-list-preserved c =
    let i : ℕ = c.loop-list.list-index in
    let lists : List SnapList = c.args.lists.now in
    let listed : List Id = c.args.listed.now in
    let l : SnapList = c.list-item.result in
    let within : i < length lists = omega arith in
    let front : take (i + 1) lists ≡ take i lists ++ l ∷ [] = take_more lists i l within ∙ ap (λ (x : SnapList). take i lists ++ x ∷ []) (sym c.list-item.is) in
    let split : listed_of listed (take (i + 1) lists) ≡ listed_of listed (take i lists) ++ listed_of listed (l ∷ []) = ap (listed_of listed) front ∙ filter-append (λ (x : SnapList). list_any (is_id x.uuid) listed) (take i lists) (l ∷ []) in
    let kept : List SnapList = c.loop-list.kept in
    c.in_ok-keep_list.ensures.ok ∙ ap (λ (b : Bool). kept ++ cond b (l ∷ []) []) (c.in_ok-listed.ensures l.uuid.number)
    ∙ ap (λ (xs : List SnapList). xs ++ listed_of listed (l ∷ [])) c.loop-list.invariant ∙ sym split
