-- Each shard of a restore stands once.
use Rattle.std.proofs.Common.{◌≡◌, ℕ, List, map, sym, ap, ◌∙◌}
use Rattle.esr_model.specs.Values.{Bytes, Has, IndexRef}
use Rattle.esr_model.specs.Places.{places}
use Rattle.esr_core.specs.World.{RestoreShard}
use Rattle.esr_core.specs.Restores.{AreApart, unread, restore_of}
use Rattle.esr_model.specs.Lists.{Has-mapped}
use Rattle.esr_core.specs.Laws.SortedLists.{in_places}
use Rattle.esr_core.specs.Laws.RestoreMaps.{LeavesPlace, apart_one}

-- each stands once
abbrev pub StandOnce : List RestoreShard → Type 0
StandOnce shards = (s z : RestoreShard) → Has shards s → Has shards z → s.ref.id ≡ z.ref.id → s.number ≡ z.number → s ≡ z

pub once_mapped : (g : RestoreShard → RestoreShard) → LeavesPlace g → (shards : List RestoreShard) → StandOnce shards → StandOnce (map g shards)
once_mapped g p shards once s z sm zm i n =
    let (a, am, ae) = Has-mapped g shards s sm in
    let (b, bm, be) = Has-mapped g shards z zm in
    let ids : a.ref.id ≡ b.ref.id = sym (ap (λ (x : IndexRef). x.id) (p.ref a)) ∙ ap (λ (x : RestoreShard). x.ref.id) ae ∙ i ∙ ap (λ (x : RestoreShard). x.ref.id) (sym be) ∙ ap (λ (x : IndexRef). x.id) (p.ref b) in
    let numbers : a.number ≡ b.number = sym (p.number a) ∙ ap (λ (x : RestoreShard). x.number) ae ∙ n ∙ ap (λ (x : RestoreShard). x.number) (sym be) ∙ p.number b in
    sym ae ∙ ap g (once a b am bm ids numbers) ∙ be

-- so they do where it begins
pub once_begun : (uuid : ℕ) (place : Bytes) (indices : List IndexRef) → AreApart indices → StandOnce (restore_of uuid place indices).shards
once_begun uuid place indices apart s z sm zm i n =
    let (a, am, ae) = Has-mapped unread (places indices) s sm in
    let (b, bm, be) = Has-mapped unread (places indices) z zm in
    let refs : a.0 ≡ b.0 = apart_one indices apart a.0 b.0 (in_places indices a am).0 (in_places indices b bm).0 (ap (λ (x : RestoreShard). x.ref.id) ae ∙ i ∙ ap (λ (x : RestoreShard). x.ref.id) (sym be)) in
    let numbers : a.1 ≡ b.1 = ap (λ (x : RestoreShard). x.number) ae ∙ n ∙ ap (λ (x : RestoreShard). x.number) (sym be) in
    sym ae ∙ (λ j. unread (refs j, numbers j)) ∙ be
