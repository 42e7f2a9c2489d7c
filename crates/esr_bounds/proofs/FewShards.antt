-- The ticket of a delete or cleanup has made no more steps than there are shards, and it has listed and doomed names.
use Rattle.std.proofs.Common.{◌≡◌, ℕ, zero, suc, ◌+◌, ◌*◌, ◌≤◌, List, [], ◌∷◌, length, map, true, Option, Some, None, refl, sym, ap, ◌∙◌, subst, inl, inr, ⊎_elim, arith}
use Rattle.std.proofs.lemmas.List.{length-append, length-map}
use Rattle.std.specs.FinMap as fin
use Rattle.esr_model.specs.Lists.{Has-either, Has-map, Has-mapped}
use Rattle.esr_model.specs.Names.{BlobName, ShardIndex}
use Rattle.esr_model.specs.Values.{Has, IndexRef, RootIndex, RootData, IsOneEach, Formats}
use Rattle.esr_model.specs.Places.{places}
use Rattle.esr_model.specs.Image.{index_at, at_shard, at_shard_of}
use Rattle.esr_model.specs.Delete.{PrunedShard}
use Rattle.esr_core.specs.World.{World, Deleting, Ticket, Swap}
use Rattle.esr_core.specs.Restores.{AreOnce}
use Rattle.esr_core.specs.Pruning.{AreOfRoot, dooms}
use Rattle.esr_core.specs.Entry.{AskedIndex, Snapshot, Clone, Step, AskStep, Moment}
use Rattle.esr_core.specs.After.{ref_by, known_id, next_by, refs_from, pending_shards, all_pending, copied_shard, after}
use Rattle.esr_core.specs.History.{world_from, AllKnown, AreTold}
use Rattle.esr_core.specs.Laws.DeleteRoots.{one_found}
use Rattle.esr_bounds.specs.Keys.{made_by, IsHeard}
use Rattle.esr_bounds.specs.Units.{count_asked, shards_by, shards_in}
use Rattle.esr_bounds.specs.Others.{shard_indices, generation_names, most_shards, most_by_shards}
use Rattle.esr_bounds.specs.Laws.{StepLaws, MasterLaws}
use Rattle.esr_bounds.proofs.Few.{few_once}
use Rattle.esr_bounds.proofs.Further.{IsPlan, plus_none, none_plus, shift}
use Rattle.esr_bounds.proofs.Prunes.{pruned_last, few_by}
use Rattle.esr_bounds.proofs.Items.{item_of, asked_items, all_items}
use Rattle.esr_bounds.proofs.Totals.{length_places}
use Rattle.esr_bounds.proofs.RootShards.{RootIn, plan_places, Placed, item_place, places_of, name_place, first_places, placed_last}

-- ---- the index of each place

of_shards : (index first : ℕ) (gs : List (Option ℕ)) (name : BlobName) → Has (shard_indices index first gs) name → (n : ℕ) × (g : ℕ) × (at_shard gs n ≡ Some g) × (ShardIndex index (first + n) g ≡ name)
of_shards index first [] name h = absurd h
of_shards index first (None ∷ gs) name h = let r = of_shards index (suc first) gs name h in (suc r.0, r.1, r.2, ap (λ (k : ℕ). ShardIndex index k r.1) (sym (shift first r.0)) ∙ r.3)
of_shards index first (Some x ∷ gs) name (inl e) = (0, x, refl, ap (λ (k : ℕ). ShardIndex index k x) (sym (plus_none first)) ∙ e)
of_shards index first (Some x ∷ gs) name (inr h) = let r = of_shards index (suc first) gs name h in (suc r.0, r.1, r.2, ap (λ (k : ℕ). ShardIndex index k r.1) (sym (shift first r.0)) ∙ r.3)

of_generations : (xs : List RootIndex) (name : BlobName) → Has (generation_names xs) name → (x : RootIndex) × Has xs x × (n : ℕ) × (g : ℕ) × (at_shard x.generations n ≡ Some g) × (ShardIndex x.id n g ≡ name)
of_generations [] name h = absurd h
of_generations (y ∷ ys) name h = ⊎_elim
    (λ (here : Has (shard_indices y.id 0 y.generations) name). let r = of_shards y.id 0 y.generations name here in (y, inl refl, r.0, r.1, r.2, ap (λ (k : ℕ). ShardIndex y.id k r.1) (sym (none_plus r.0)) ∙ r.3))
    (λ (there : Has (generation_names ys) name). let r = of_generations ys name there in (r.0, inr r.1, r.2, r.3, r.4, r.5))
    (Has-either (shard_indices y.id 0 y.generations) (generation_names ys) name h)

abbrev gen_or : Option ℕ → ℕ
gen_or None = 0
gen_or (Some g) = g

abbrev index_name : RootData → ℕ × ℕ → BlobName
index_name root p = ShardIndex p.0 p.1 (gen_or (at_shard_of (index_at root.indices p.0) p.1))

in_places : (places : List (ℕ × ℕ)) (root : RootData) → IsOneEach root.indices → RootIn places root → (name : BlobName) → Has (generation_names root.indices) name → Has (map (index_name root) places) name
in_places places root one h name had =
    let r = of_generations root.indices name had in
    let is : index_name root (r.0.id, r.2) ≡ name =
    ap (λ (o : Option RootIndex). ShardIndex r.0.id r.2 (gen_or (at_shard_of o r.2))) (one_found root.indices one r.0 r.1 r.0.id refl) ∙ ap (λ (o : Option ℕ). ShardIndex r.0.id r.2 (gen_or o)) r.4 ∙ r.5 in
    subst (Has (map (index_name root) places)) is (Has-map (index_name root) places (r.0.id, r.2) (h r.0 r.2 r.3 r.1 r.4))

-- ---- a plan has no more shards than there are places

abbrev plan_place : PrunedShard → ℕ × ℕ
plan_place p = (p.index, p.number)

once_places : (root : RootData) (shards : List PrunedShard) → AreOfRoot root shards → AreOnce (map plan_place shards)
once_places root [] h = tt
once_places root (p ∷ shards) h = (
  (λ had.
      let r = Has-mapped plan_place shards (plan_place p) had in
      h.1 r.0 r.1 (ap (λ (x : ℕ × ℕ). x.0) (sym r.2)) (ap (λ (x : ℕ × ℕ). x.1) (sym r.2))),
  once_places root shards h.2,
)

-- the shards whose generations go
pub pruned_few : (places : List (ℕ × ℕ)) (root : RootData) (shards : List PrunedShard) → RootIn places root → AreOfRoot root shards → length shards ≤ length places
pruned_few places root shards h of_root =
    subst (λ (n : ℕ). n ≤ length places) (length-map shards plan_place)
    (few_once (map plan_place shards) places (once_places root shards of_root) (λ x had. let r = Has-mapped plan_place shards x had in subst (Has places) r.2 (plan_places places root shards h of_root r.0 r.1)))

pub plan_few : (places : List (ℕ × ℕ)) (root : RootData) (uuids : List ℕ) (s : Swap) → RootIn places root → IsPlan root uuids s → length s.own ≤ length places
plan_few places root uuids s h p = both (length s.own) (length p.shards) (length places) p.few (pruned_few places root p.shards h p.of_root)
  where
    both : (a b c : ℕ) → a ≤ b → b ≤ c → a ≤ c
    both a b c q r = let one : a ≤ b = q in let two : b ≤ c = r in omega (arith, one, two)

-- ---- how many places there are

length_pending : (a : AskedIndex) (r : IndexRef) (first n : ℕ) → length (pending_shards a r first n) ≡ n
length_pending a r first zero = refl
length_pending a r first (suc n) = ap suc (length_pending a r (suc first) n)

ref_shards : (a : AskedIndex) (id : Option ℕ) (next : ℕ) → (ref_by a id next).shards ≡ a.shards
ref_shards a None next = refl
ref_shards a (Some id) next = refl

length_asked : (w : World) (next : ℕ) (indices : List AskedIndex) → length (all_pending indices (refs_from w next indices)) ≡ count_asked indices
length_asked w next [] = refl
length_asked w next (a ∷ indices) =
    let r : IndexRef = ref_by a (known_id w a.name) next in
    length-append (pending_shards a r 0 r.shards) (all_pending indices (refs_from w (next_by (known_id w a.name) next) indices))
    ∙ ap (λ (n : ℕ). n + length (all_pending indices (refs_from w (next_by (known_id w a.name) next) indices))) (length_pending a r 0 r.shards ∙ ref_shards a (known_id w a.name) next)
    ∙ ap (λ (n : ℕ). a.shards + n) (length_asked w (next_by (known_id w a.name) next) indices)

pub length_items : (w : World) (step : Step) → length (asked_items w step) ≡ shards_by step
length_items w (AskStep (Snapshot name indices moment)) = length-map (all_pending indices (refs_from w (suc w.next_id) indices)) (item_of w.next_op None) ∙ length_asked w (suc w.next_id) indices
length_items w (AskStep (Clone source name names moment (Some taken))) =
    length-map (map copied_shard (places taken.indices)) (item_of w.next_op (Some taken.source)) ∙ length-map (places taken.indices) copied_shard ∙ length_places taken.indices
length_items w step = refl

length_all : (f : Formats) (w : World) (log : List Moment) → length (all_items f w log) ≡ shards_in log
length_all f w [] = refl
length_all f w (m ∷ log) =
    length-append (asked_items w m.entry.step) (all_items f (after f w m) log) ∙ ap (λ (n : ℕ). n + length (all_items f (after f w m) log)) (length_items w m.entry.step)
    ∙ ap (λ (n : ℕ). shards_by m.entry.step + n) (length_all f (after f w m) log)

pub length_of : (f : Formats) (w : World) (log : List Moment) → length (places_of (first_places w.root) (all_items f w log)) ≡ most_shards w log
length_of f w log =
    length-append (first_places w.root) (map item_place (all_items f w log))
    ∙ ap (λ (n : ℕ). n + length (map item_place (all_items f w log))) (length-map (generation_names w.root.indices) name_place)
    ∙ ap (λ (n : ℕ). length (generation_names w.root.indices) + n) (length-map (all_items f w log) item_place ∙ length_all f w log)

-- ---- the ticket of a delete or cleanup

-- where it dooms these names
pub delete_by_names : (f : Formats) (size : ℕ) (known : AllKnown f) (laws : StepLaws f size) (masters : MasterLaws f size) (w : World) (log : List Moment) (h : IsHeard f size w log) (told : AreTold log) → IsOneEach w.root.indices
    → (k : ℕ) (t : Ticket) (some : 1 ≤ k)
    → (there : fin.get (world_from f w log).tickets k ≡ Some t) (doomed : List BlobName) → ((name : BlobName) → t.settled ≡ true → Has (dooms f t) name → Has doomed name) → (uuids : List ℕ) (plan : Option Swap)
    → t.work ≡ Deleting uuids plan → made_by log k ≤ 15 + (3 * most_shards w log + (length t.listed + length doomed))
delete_by_names f size known laws masters w log h told one_each k t some there doomed gone uuids plan is =
    subst (λ (n : ℕ). made_by log k ≤ 15 + (3 * n + (length t.listed + length doomed))) (length-map all (index_name t.root) ∙ length_of f w log)
    (few_by f size known laws masters w log h told k t some there (map (index_name t.root) all) doomed (in_places all t.root ticket.1 ticket.0) gone uuids plan is
    (λ s planned. subst (λ (n : ℕ). length s.own ≤ n) (sym (length-map all (index_name t.root))) (plan_few all t.root uuids s ticket.0 ((pruned_last f size known laws masters w log h told).few k t some there uuids s planned))))
  where
    all : List (ℕ × ℕ)
    all = places_of (first_places w.root) (all_items f w log)

    placed : Placed all (world_from f w log)
    placed = placed_last f size laws masters known w log h told one_each

    ticket : RootIn all t.root × IsOneEach t.root.indices
    ticket = placed.tickets k t there

pub delete_by_shards : (f : Formats) (size : ℕ) (known : AllKnown f) (laws : StepLaws f size) (masters : MasterLaws f size) (w : World) (log : List Moment) (h : IsHeard f size w log) (told : AreTold log) → IsOneEach w.root.indices
    → (k : ℕ) (t : Ticket) (some : 1 ≤ k) → (there : fin.get (world_from f w log).tickets k ≡ Some t) (uuids : List ℕ) (plan : Option Swap) → t.work ≡ Deleting uuids plan → made_by log k ≤ most_by_shards f w log t
delete_by_shards f size known laws masters w log h told one_each k t some there uuids plan is = delete_by_names f size known laws masters w log h told one_each k t some there (dooms f t) (λ name settled had. had) uuids plan is
