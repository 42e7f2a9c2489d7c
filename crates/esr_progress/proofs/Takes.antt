-- A list of ops with a ticket more, and the generations of a shard.
use Rattle.std.proofs.Common.{◌≡◌, ℕ, suc, zero, ◌+◌, ◌<◌, Bool, true, false, List, [], ◌∷◌, Option, Some, None, cond, eqb, option_map, map, length, get_or, take, drop, refl, sym, ap, ◌∙◌, subst, arith}
use Rattle.std.specs.FinMap as fin
use Rattle.std.specs.Prelude.{IfSome, slice_get}
use Rattle.std.specs.List.{slice_index_or}
use Rattle.std.proofs.lemmas.Option.{slice_get_read, same_Some, none-some}
use Rattle.std.proofs.Math.ListN.{set}
use Rattle.esr_names.specs.declared.ids.Id.{Id}
use Rattle.esr_root.specs.declared.indices.RootIndex.{RootIndex as CodeIndex}
use Rattle.esr_model.specs.Values.{Has, RootData}
use Rattle.esr_model.specs.Image.{index_at, at_shard, at_shard_of}
use Rattle.esr_core.specs.World.{Op, Deletion}
use Rattle.esr_formats.specs.Ids.{number_of}
use Rattle.esr_formats.specs.Roots.{root_index_of}
use Rattle.esr_ops.specs.Plan.{Plan, Seat, ReaderSeat, RestorePlan, TicketMaps}
use Rattle.esr_ops.specs.Ops.{IsMost, Among, IsDoneAt, later_of}
use Rattle.esr_ops.specs.Inside.{plan_with, numbers_of, AreNumbers, IsProgress}
use Rattle.esr_ops.specs.declared.unit.SeatKind.{SeatKind}
use Rattle.esr_ops.specs.declared.unit.SeatKind.TheVariants as kinds
use Rattle.esr_names.specs.declared.blob.ShardId.{ShardId}
use Rattle.esr_progress.specs.Choice.{IsLiveIn, IsBaseFor, given_entry}
use Rattle.esr_ops.specs.Lists.{left_from}
use Rattle.esr_ops.specs.Most.{most_more, most_either}
use Rattle.esr_ops.specs.Numbers.{entries_from}

-- ---- a ticket more

module _ (ops new : List (ℕ × Op)) (deletes kept : List (ℕ × Deletion)) (completed : List ℕ) (seats : TicketMaps) (next : ℕ)
    (restores stay : List (ℕ × RestorePlan)) (now : Plan) (is : plan_with ops deletes completed seats next restores ≡ now) (same : kept ≡ deletes) (stays : stay ≡ restores) where
  pub progress_with : IsProgress ops deletes next restores → numbers_of new ≡ numbers_of (fin.entries now.ops) → IsProgress new kept next stay
  progress_with h e =
      let numbers : numbers_of ops ≡ numbers_of new = sym (e ∙ ap (λ (p : Plan). numbers_of (fin.entries p.ops)) (sym is) ∙ ap numbers_of (entries_from ops h.ops_numbered.rise)) in
      record {
        ops_numbered = subst (λ ns. AreNumbers ns next) numbers h.ops_numbered;
        deletes_numbered = subst (λ (ds : List (ℕ × Deletion)). AreNumbers (numbers_of ds) next) (sym same) h.deletes_numbered;
        restores_numbered = subst (λ (rs : List (ℕ × RestorePlan)). AreNumbers (numbers_of rs) next) (sym stays) h.restores_numbered;
        apart = λ n a b. h.apart n (subst (λ ns. Has ns n) (sym numbers) a) (subst (λ (ds : List (ℕ × Deletion)). Has (numbers_of ds) n) same b);
        first = h.first;
        most = h.most;
      }

  pub plan_seated : (copy : Plan) (s : Seat) → copy ≡ record now { ops = fin.from_entries new; deletes = fin.from_entries kept; restores = fin.from_entries stay; next_op = next }
      → record copy { seats = fin.insert copy.seats copy.next_ticket s; next_ticket = suc copy.next_ticket }
      ≡ record now { ops = fin.from_entries new; seats = fin.insert now.seats now.next_ticket s; next_ticket = suc now.next_ticket }
  plan_seated copy s e =
      ap (λ (p : Plan). record p { seats = fin.insert p.seats p.next_ticket s; next_ticket = suc p.next_ticket }) e
      ∙ subst
      (λ (p : Plan). record p { ops = fin.from_entries new; deletes = fin.from_entries kept; restores = fin.from_entries stay; next_op = next; seats = fin.insert p.seats p.next_ticket s; next_ticket = suc p.next_ticket }
      ≡ record p { ops = fin.from_entries new; seats = fin.insert p.seats p.next_ticket s; next_ticket = suc p.next_ticket })
      is
      (λ j. plan_with new (same j) completed (record seats { seats = fin.insert seats.seats seats.next s; next = suc seats.next }) next (stays j))

-- a restore's ticket more
module _ (ops kept_ops : List (ℕ × Op)) (deletes kept : List (ℕ × Deletion)) (completed : List ℕ) (seats : TicketMaps)
    (next : ℕ) (restores new : List (ℕ × RestorePlan)) (now : Plan) (is : plan_with ops deletes completed seats next restores ≡ now)
    (same_ops : kept_ops ≡ ops) (same : kept ≡ deletes) where
  pub progress_read : IsProgress ops deletes next restores → numbers_of new ≡ numbers_of (fin.entries now.restores) → IsProgress kept_ops kept next new
  progress_read h e =
      let numbers : numbers_of restores ≡ numbers_of new = sym (e ∙ ap (λ (p : Plan). numbers_of (fin.entries p.restores)) (sym is) ∙ ap numbers_of (entries_from restores h.restores_numbered.rise)) in
      record {
        ops_numbered = subst (λ (es : List (ℕ × Op)). AreNumbers (numbers_of es) next) (sym same_ops) h.ops_numbered;
        deletes_numbered = subst (λ (ds : List (ℕ × Deletion)). AreNumbers (numbers_of ds) next) (sym same) h.deletes_numbered;
        restores_numbered = subst (λ ns. AreNumbers ns next) numbers h.restores_numbered;
        apart = λ n a b. h.apart n (subst (λ (es : List (ℕ × Op)). Has (numbers_of es) n) same_ops a) (subst (λ (ds : List (ℕ × Deletion)). Has (numbers_of ds) n) same b);
        first = h.first;
        most = h.most;
      }

  pub plan_read : (copy : Plan) (s : ReaderSeat) → copy ≡ record now { ops = fin.from_entries kept_ops; deletes = fin.from_entries kept; restores = fin.from_entries new; next_op = next }
      → record copy { readers = fin.insert copy.readers copy.next_ticket s; next_ticket = suc copy.next_ticket }
      ≡ record now { restores = fin.from_entries new; readers = fin.insert now.readers now.next_ticket s; next_ticket = suc now.next_ticket }
  plan_read copy s e =
      ap (λ (p : Plan). record p { readers = fin.insert p.readers p.next_ticket s; next_ticket = suc p.next_ticket }) e
      ∙ subst
      (λ (p : Plan). record p { ops = fin.from_entries kept_ops; deletes = fin.from_entries kept; restores = fin.from_entries new; next_op = next; readers = fin.insert p.readers p.next_ticket s; next_ticket = suc p.next_ticket }
      ≡ record p { restores = fin.from_entries new; readers = fin.insert p.readers p.next_ticket s; next_ticket = suc p.next_ticket })
      is
      (λ j. plan_with (same_ops j) (same j) completed (record seats { readers = fin.insert seats.readers seats.next s; next = suc seats.next }) next new)

-- ---- the root's generation

pub at_shard-in : (gs : List (Option Id)) (k : ℕ) → at_shard (map (option_map number_of) gs) k ≡ option_map number_of (slice_index_or gs k None)
at_shard-in (g ∷ gs) (suc k) = at_shard-in gs k
at_shard-in gs k = refl

module _ (indices : List CodeIndex) (i : ℕ) (x : CodeIndex) (lt : i < length indices) (is : x ≡ get_or indices i x) (id : ℕ) where
  step : (b : Bool) → eqb x.id.number id ≡ b → index_at (map root_index_of (drop i indices)) id ≡ cond b (Some (root_index_of x)) (index_at (map root_index_of (drop (i + 1) indices)) id)
  step b e = ap (λ (rs : List CodeIndex). index_at (map root_index_of rs) id) (left_from indices i x lt is) ∙ ap (λ t. cond t (Some (root_index_of x)) (index_at (map root_index_of (drop (i + 1) indices)) id)) e

  pub index_at-here : (b : Bool) (k : ℕ) → b ≡ eqb x.id.number id → b ≡ true → at_shard_of (index_at (map root_index_of (drop i indices)) id) k ≡ option_map number_of (slice_index_or x.generations k None)
  index_at-here b k e is_true = ap (λ o. at_shard_of o k) (step b (sym e) ∙ ap (λ t. cond t (Some (root_index_of x)) (index_at (map root_index_of (drop (i + 1) indices)) id)) is_true) ∙ at_shard-in x.generations k

  pub index_at-on : (b : Bool) → b ≡ eqb x.id.number id → b ≡ false → index_at (map root_index_of (drop i indices)) id ≡ index_at (map root_index_of (drop (i + 1) indices)) id
  index_at-on b e is_false = step b (sym e) ∙ ap (λ t. cond t (Some (root_index_of x)) (index_at (map root_index_of (drop (i + 1) indices)) id)) is_false

-- ---- the largest generation at which the shard is done

-- of one op more
pub done_step : (index number : ℕ) (ops : List (ℕ × Op)) (i : ℕ) (e : ℕ × Op) (a found most : Option Id) → i < length ops
    → IsMost (Among (take i ops) (λ (x : ℕ × Op). Among x.1.shards (IsDoneAt index number))) (option_map number_of a) → e ≡ get_or ops i e → IsMost (Among e.1.shards (IsDoneAt index number)) (option_map number_of found)
    → option_map number_of most ≡ later_of (option_map number_of a) (option_map number_of found)
    → IsMost (Among (take (i + 1) ops) (λ (x : ℕ × Op). Among x.1.shards (IsDoneAt index number))) (option_map number_of most)
done_step index number ops i e a found most lt before is here now =
    subst (IsMost (Among (take (i + 1) ops) (λ (x : ℕ × Op). Among x.1.shards (IsDoneAt index number)))) (sym now)
    (most_more (λ (x : ℕ × Op). Among x.1.shards (IsDoneAt index number)) ops i e (option_map number_of a) (option_map number_of found) lt before
    (subst (λ (x : ℕ × Op). IsMost (Among x.1.shards (IsDoneAt index number)) (option_map number_of found)) is here))

most_one : (o : Option ℕ) → IsMost (λ g. o ≡ Some g) o
most_one None = λ g e. none-some g e
most_one (Some x) = (refl, λ g e. omega (arith, same_Some x g e))

-- with the root's
pub base_is : (root : RootData) (ops : List (ℕ × Op)) (kind : SeatKind) (shard : ShardId) → kind ≡ kinds.Shard shard → (own done base : Option Id)
    → option_map number_of own ≡ at_shard_of (index_at root.indices shard.index.number) shard.number
    → IsMost (Among ops (λ (x : ℕ × Op). Among x.1.shards (IsDoneAt shard.index.number shard.number))) (option_map number_of done)
    → option_map number_of base ≡ later_of (option_map number_of own) (option_map number_of done) → IsBaseFor root ops kind base
base_is root ops kind shard is own done base root_is done_is now =
    let ofroot : IsMost (λ g. at_shard_of (index_at root.indices shard.index.number) shard.number ≡ Some g) (option_map number_of own) =
    subst (IsMost (λ g. at_shard_of (index_at root.indices shard.index.number) shard.number ≡ Some g)) (sym root_is) (most_one (at_shard_of (index_at root.indices shard.index.number) shard.number)) in
    subst (λ (k : SeatKind). IsBaseFor root ops k base) (sym is)
    (subst (IsMost (IsLiveIn root ops shard.index.number shard.number)) (sym now)
    (most_either (λ g. at_shard_of (index_at root.indices shard.index.number) shard.number ≡ Some g) (Among ops (λ (x : ℕ × Op). Among x.1.shards (IsDoneAt shard.index.number shard.number)))
    (option_map number_of own) (option_map number_of done) ofroot done_is))

-- ---- a shard given

here : (ops : List (ℕ × Op)) (at : ℕ) (x : ℕ × Op) (P : ℕ × Op → Type 0) → at < length ops → x ≡ get_or ops at x → P x → IfSome (slice_get ops at) P
here ops at x P lt is p = subst (λ (o : Option (ℕ × Op)). IfSome o P) (sym (slice_get_read ops (length ops) at x refl lt is)) p

pub given_shard : (ops copied new : List (ℕ × Op)) (at : ℕ) (kind : SeatKind) (shard : ShardId) (ticket : ℕ) (x y : ℕ × Op) → at < length ops → copied ≡ ops → kind ≡ kinds.Shard shard → x ≡ get_or copied at x
    → y ≡ given_entry (kinds.Shard shard) ticket x → new ≡ set copied at y → IfSome (slice_get ops at) (λ (e : ℕ × Op). new ≡ set ops at (given_entry kind ticket e))
given_shard ops copied new at kind shard ticket x y lt same is there now put =
    here ops at x (λ (e : ℕ × Op). new ≡ set ops at (given_entry kind ticket e)) lt (there ∙ ap (λ (es : List (ℕ × Op)). get_or es at x) same)
    (put ∙ (λ i. set (same i) at (now i)) ∙ ap (λ (k : SeatKind). set ops at (given_entry k ticket x)) (sym is))

kept_entry : (kind : SeatKind) (ticket : ℕ) (e : ℕ × Op) → ((shard : ShardId) → kind ≡ kinds.Shard shard → ⊥) → given_entry kind ticket e ≡ e
kept_entry (kinds.Shard shard) ticket e other = absurd (other shard refl)
kept_entry kind ticket e other = refl

pub set_same : {A : Type 0} (xs : List A) (at : ℕ) (x : A) → slice_get xs at ≡ Some x → set xs at x ≡ xs
set_same [] at x e = refl
set_same (y ∷ xs) zero x e = λ i. sym (same_Some y x e) i ∷ xs
set_same (y ∷ xs) (suc at) x e = ap (λ zs. y ∷ zs) (set_same xs at x e)

kept_by : (ops : List (ℕ × Op)) (at : ℕ) (kind : SeatKind) (ticket : ℕ) (o : Option (ℕ × Op)) → slice_get ops at ≡ o → ((shard : ShardId) → kind ≡ kinds.Shard shard → ⊥)
    → IfSome o (λ (e : ℕ × Op). ops ≡ set ops at (given_entry kind ticket e))
kept_by ops at kind ticket None e other = tt
kept_by ops at kind ticket (Some x) e other = sym (set_same ops at x e) ∙ ap (set ops at) (sym (kept_entry kind ticket x other))

pub given_none : (ops copied new : List (ℕ × Op)) (at : ℕ) (kind : SeatKind) (ticket : ℕ) → copied ≡ ops → ((shard : ShardId) → kind ≡ kinds.Shard shard → ⊥) → new ≡ copied
    → IfSome (slice_get ops at) (λ (e : ℕ × Op). new ≡ set ops at (given_entry kind ticket e))
given_none ops copied new at kind ticket same other now =
    subst (λ (es : List (ℕ × Op)). IfSome (slice_get ops at) (λ (e : ℕ × Op). es ≡ set ops at (given_entry kind ticket e))) (sym (now ∙ same)) (kept_by ops at kind ticket (slice_get ops at) refl other)
