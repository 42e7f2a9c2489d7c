-- What each ticket of a world has done is what it may do, so it has made no more steps than so many.
use Rattle.std.proofs.Common.{◌≡◌, ◌≢◌, ◌⊎◌, ℕ, zero, suc, ◌+◌, ◌*◌, ◌<◌, ◌≤◌, List, [], ◌∷◌, ◌++◌, length, map, Option, Some, None, refl, sym, ap, ◌∙◌, subst, inl, inr, ⊎_elim, arith, nat_cmp}
use Rattle.std.specs.Prelude.{if◌then◌else◌}
use Rattle.std.proofs.lemmas.Bool.Decides.{eqb_tells}
use Rattle.std.proofs.lemmas.List.{length-append, length-map}
use Rattle.std.proofs.Math.Nat.{mul-le-mul_right, zero-mul, suc-mul}
use Rattle.std.specs.FinMap as fin
use Rattle.std.proofs.lemmas.Option.{same_Some, none-some}
use Rattle.esr_model.specs.Names.{BlobName, IndexMeta}
use Rattle.esr_model.specs.Values.{Bytes, Has, IndexRef, SnapInfo, ShardResult, Formats}
use Rattle.esr_model.specs.Shelf.{Command}
use Rattle.esr_model.specs.Parts.{parts_from}
use Rattle.esr_core.specs.World.{World, Work, Shard, Finalize, Deleting, Drop, Ticket, Swap, swap, swap_of, metadata}
use Rattle.esr_core.specs.Past.{with_entry, entries_by}
use Rattle.esr_core.specs.Tracked.{Tracked}
use Rattle.esr_core.specs.ReadTracked.{ReadTracked}
use Rattle.esr_core.specs.Changes.{IsUnits, IsNewTicket, SameUnit, Maker, ClientStep, ReaderStep, UnitStep}
use Rattle.esr_core.specs.Entry.{Entry, Moment}
use Rattle.esr_core.specs.After.{after}
use Rattle.esr_core.specs.Allowed.{Allowed}
use Rattle.esr_core.specs.History.{world_from, IsLegal, AllKnown}
use Rattle.esr_bounds.specs.Keys.{Key, BeginKey, CommitKey, FetchKey, key, keys, made_by, IsUnheard, AreHeard, IsUntouched, IsHeard}
use Rattle.esr_bounds.specs.Most.{names_of, base_names, source_names, fetch_names, single_keys, keys_of, IsDelete, MayDo, ids_by, parts_by, names_under, shard_names, swap_names, root_names, most_of_shard, most_of_final, most_of_drop}
use Rattle.esr_bounds.specs.Laws.{StepLaws}
use Rattle.esr_bounds.proofs.Few.{few_once}
use Rattle.esr_bounds.proofs.Names.{Grown, keys_grown}
use Rattle.esr_bounds.proofs.OwnSteps.{DrewFew, own_step}
use Rattle.esr_bounds.proofs.Once.{Kept, counted, never_anew, blocked_unheard, looked_at, step_kept, untouched_kept, heard_kept}
use Rattle.esr_bounds.proofs.Counting.{none_more}

-- ---- what holds of a world

pub record Bounded (f : Formats) (size : ℕ) (w : World) : Type 0 where
  pub few : (k : ℕ) (t : Ticket) → 1 ≤ k → fin.get w.tickets k ≡ Some t → DrewFew f t
  pub listed : (k : ℕ) (t : Ticket) (x : Key) → 1 ≤ k → fin.get w.tickets k ≡ Some t → Has (keys (entries_by w.entries k)) x → MayDo f size t x

-- of one ticket after a step
abbrev BoundedAt : Formats → ℕ → World → ℕ → Ticket → Type 0
BoundedAt f size new k v = DrewFew f v × ((x : Key) → Has (keys (entries_by new.entries k)) x → MayDo f size v x)

may_on : (f : Formats) (size : ℕ) (t v : Ticket) → Grown t v → (x : Key) → MayDo f size t x → MayDo f size v x
may_on f size t v g x (inl h) = inl (keys_grown f size t v g x h)
may_on f size t v g x (inr (own, delete)) = inr (own, stays g.work)
  where
    stays : (v.work ≡ t.work) ⊎ ((uuids : List ℕ) × (s : Swap) × (t.work ≡ Deleting uuids None) × (v.work ≡ Deleting uuids (Some s))) → IsDelete v.work
    stays (inl same) = subst IsDelete (sym same) delete
    stays (inr plans) = subst IsDelete (sym plans.3) tt

-- one that was just given has drawn nothing
new_few : (f : Formats) (w : World) (v : Ticket) → IsNewTicket w v → DrewFew f v
new_few f w v new index number is = none_le v.drawn (ids_by f v.place v.name number v.source) new.drawn
  where
    none_le : (a b : ℕ) → a ≡ 0 → a ≤ b
    none_le a b e = let none : a ≡ 0 = e in omega (arith, none)

module _ (f : Formats) (size : ℕ) (known : AllKnown f) (laws : StepLaws f size) where
  module _ (w : World) (m : Moment) (tracked : Tracked w) (reads : ReadTracked w) (a : Allowed f size w m) (heard : IsUnheard m.entry.reply → ⊥) (kept : Kept w) (bounded : Bounded f size w) where
    -- another's
    other_at : (k : ℕ) (v : Ticket) → 1 ≤ k → k ≢ m.entry.who → fin.get (after f w m).tickets k ≡ Some v → BoundedAt f size (after f w m) k v
    other_at k v some other there = elim (eqb_tells k w.next_ticket) [
      | inl given ↦
          let none : entries_by (after f w m).entries k ≡ [] = laws.others w.entries m.entry k other ∙ kept.none k some (let same : k ≡ w.next_ticket = given.1 in omega (arith, same)) in (
            ⊎_elim
                (λ (old : (t : Ticket) × (fin.get w.tickets k ≡ Some t) × SameUnit t v). absurd (let below : k < w.next_ticket = (tracked.tickets k old.0 old.1).0 in let same : k ≡ w.next_ticket = given.1 in omega (arith, below, same)))
                (λ (new : (k ≡ w.next_ticket) × IsNewTicket w v). new_few f w v new.1)
                ((laws.frame w m).come k v there),
            λ x h. absurd (subst (λ (es : List Entry). Has (keys es) x) none h),
          )
      | inr aside ↦
          let same : fin.get (after f w m).tickets k ≡ fin.get w.tickets k = (laws.frame w m).others k other aside.1 in
          let before : fin.get w.tickets k ≡ Some v = sym same ∙ there in
          (bounded.few k v some before, λ x h. bounded.listed k v x some before (subst (λ (es : List Entry). Has (keys es) x) (laws.others w.entries m.entry k other) h))
    ]

    -- its own
    own_at : (t v : Ticket) → 1 ≤ m.entry.who → fin.get w.tickets m.entry.who ≡ Some t → IsUnits m.entry.step → fin.get (after f w m).tickets m.entry.who ≡ Some v → BoundedAt f size (after f w m) m.entry.who v
    own_at t v some there unit now =
        let own = own_step f size known w m.entry.who t there m.entry.step m.entry.reply m.image unit (looked_at f size laws w m a heard).1 in
        let is : own.0.v ≡ v = same_Some own.0.v v (sym own.0.at ∙ now) in
        let grown : Grown t v = subst (Grown t) is own.0.grown in (
          subst (DrewFew f) is (own.0.few (bounded.few m.entry.who t some there)),
          λ x h. may_on f size t v grown x
              (⊎_elim
              (λ (here : key m.entry.step ≡ x). subst (MayDo f size t) here own.1)
              (λ (before : Has (keys (entries_by w.entries m.entry.who)) x). bounded.listed m.entry.who t x some there before)
              (subst (λ (es : List Entry). Has (keys es) x) (laws.own w.entries m.entry (counted m.entry.reply heard) (never_anew m.entry.who m.entry.step some)) h)),
        )

    mine_at : (v : Ticket) → 1 ≤ m.entry.who → fin.get (after f w m).tickets m.entry.who ≡ Some v → BoundedAt f size (after f w m) m.entry.who v
    mine_at v some now = elim (laws.maker w m a) [
      | inl maker ↦ by maker
      | inr dead ↦ absurd (heard (subst IsUnheard (sym dead.refused) (blocked_unheard w m.entry.who m.entry.step dead.refusal dead.blocks)))
    ]
      where
        by : Maker w m.entry.who m.entry.step → BoundedAt f size (after f w m) m.entry.who v
        by (ClientStep nobody own) = let no : m.entry.who ≡ 0 = nobody in absurd (omega (arith, some, no))
        by (UnitStep t out own) = own_at t v some out.there own now
        by (ReaderStep q reading own) = absurd (⊎_elim
            (λ (old : (t : Ticket) × (fin.get w.tickets m.entry.who ≡ Some t) × SameUnit t v). reads.apart.tickets m.entry.who q old.0 reading.there old.1)
            (λ (new : (m.entry.who ≡ w.next_ticket) × IsNewTicket w v).
            let below : m.entry.who < w.next_ticket = (reads.tracked.tickets m.entry.who q reading.there).1 in
            let same : m.entry.who ≡ w.next_ticket = new.0 in
            omega (arith, below, same))
            ((laws.frame w m).come m.entry.who v now))

    bounded_at : (k : ℕ) (v : Ticket) → 1 ≤ k → fin.get (after f w m).tickets k ≡ Some v → BoundedAt f size (after f w m) k v
    bounded_at k v some there = elim (eqb_tells k m.entry.who) [
      | inl mine ↦ subst (λ (n : ℕ). BoundedAt f size (after f w m) n v) (sym mine.1) (mine_at v (subst (λ (n : ℕ). 1 ≤ n) mine.1 some) (subst (λ (n : ℕ). fin.get (after f w m).tickets n ≡ Some v) mine.1 there))
      | inr other ↦ other_at k v some other.1 there
    ]

    pub step_bounded : Bounded f size (after f w m)
    step_bounded = record { few = λ k v some there. (bounded_at k v some there).0; listed = λ k v x some there h. (bounded_at k v some there).1 x h }

  pub log_bounded : (w : World) (log : List Moment) → Tracked w → ReadTracked w → Kept w → Bounded f size w → IsLegal f size w log → AreHeard log → Bounded f size (world_from f w log)
  log_bounded w [] tracked reads kept bounded legal heard = bounded
  log_bounded w (m ∷ log) tracked reads kept bounded legal heard =
      log_bounded (after f w m) log (laws.tracks w m tracked legal.0) (laws.reads w m tracked reads legal.0) (step_kept f size laws w m tracked reads legal.0 (heard m (inl refl)) kept)
      (step_bounded w m tracked reads legal.0 (heard m (inl refl)) kept bounded) legal.1 (λ n h. heard n (inr h))

-- where nothing was done so far
pub untouched_bounded : (f : Formats) (size : ℕ) (w : World) → IsUntouched w → Bounded f size w
untouched_bounded f size w h = record { few = λ k t some there. absurd (no_ticket k t there); listed = λ k t x some there has. absurd (no_ticket k t there) }
  where
    no_ticket : (k : ℕ) (t : Ticket) → fin.get w.tickets k ≡ Some t → ⊥
    no_ticket k t there = none-some t (sym (fin.get-empty nat_cmp k) ∙ ap (λ m. fin.get m k) (sym h.tickets) ∙ there)

-- ---- how many steps it has made

pub length_keys : (es : List Entry) → length (keys es) ≡ length es
length_keys [] = refl
length_keys (e ∷ es) = ap suc (length_keys es)

-- the entries of a ticket are as many as its steps in the history, and those before
module _ (f : Formats) (size : ℕ) (laws : StepLaws f size) where
  pub made_length : (w : World) (log : List Moment) (k : ℕ) → 1 ≤ k → AreHeard log → length (entries_by (world_from f w log).entries k) ≡ made_by log k + length (entries_by w.entries k)
  made_length w [] k some heard = none_more (length (entries_by w.entries k))
  made_length w (m ∷ log) k some heard = elim (eqb_tells m.entry.who k) [
    | inl mine ↦
        made_length (after f w m) log k some (λ n h. heard n (inr h))
        ∙ ap (λ n. made_by log k + n) (ap length (own mine.1))
        ∙ shift (made_by log k) (length (entries_by w.entries k))
        ∙ ap (λ b. (if b then suc (made_by log k) else made_by log k) + length (entries_by w.entries k)) (sym mine.0)
    | inr other ↦
        made_length (after f w m) log k some (λ n h. heard n (inr h))
        ∙ ap (λ n. made_by log k + n) (ap length (laws.others w.entries m.entry k (λ same. other.1 (sym same))))
        ∙ ap (λ b. (if b then suc (made_by log k) else made_by log k) + length (entries_by w.entries k)) (sym other.0)
  ]
    where
      shift : (a b : ℕ) → a + suc b ≡ suc a + b
      shift a b = omega arith

      own : m.entry.who ≡ k → entries_by (with_entry w.entries m.entry) k ≡ m.entry ∷ entries_by w.entries k
      own mine =
          subst (λ (n : ℕ). entries_by (with_entry w.entries m.entry) n ≡ m.entry ∷ entries_by w.entries n) mine
          (laws.own w.entries m.entry (counted m.entry.reply (heard m (inl refl))) (never_anew m.entry.who m.entry.step (subst (λ (n : ℕ). 1 ≤ n) (sym mine) some)))

-- how long the list is of what a ticket may do
few_fetches : (index number : ℕ) (base source : Option ℕ) → length (base_names index number base ++ source_names index number source) ≤ 2
few_fetches index number None None = let few : 0 ≤ 2 = omega arith in few
few_fetches index number None (Some u) = let few : 1 ≤ 2 = omega arith in few
few_fetches index number (Some g) None = let few : 1 ≤ 2 = omega arith in few
few_fetches index number (Some g) (Some u) = let few : 2 ≤ 2 = omega arith in few

few_fetched : (t : Ticket) (work : Work) → length (fetch_names t work) ≤ 2
few_fetched t (Shard index number) = few_fetches index number t.base t.source
few_fetched t (Finalize info results made) = let none : 0 ≤ 2 = omega arith in none
few_fetched t (Deleting uuids plan) = let none : 0 ≤ 2 = omega arith in none
few_fetched t Drop = let none : 0 ≤ 2 = omega arith in none

all_keys : (a b c d : ℕ) → a ≡ 10 + (b + (c + d)) → b ≤ 2 → (n : ℕ) → c ≡ n → d ≡ n → a ≤ 12 + 2 * n
all_keys a b c d whole few n p q = let is : a ≡ 10 + (b + (c + d)) = whole in let most : b ≤ 2 = few in let one : c ≡ n = p in let two : d ≡ n = q in omega (arith, is, most, one, two)

pub few_keys : (f : Formats) (size : ℕ) (t : Ticket) → length (keys_of f size t) ≤ 12 + 2 * length (names_of f size t)
few_keys f size t =
    all_keys (length (keys_of f size t)) (length (map FetchKey (fetch_names t t.work))) (length (map BeginKey (names_of f size t))) (length (map CommitKey (names_of f size t)))
    (length-append single_keys _
    ∙ ap (λ n. 10 + n) (length-append (map FetchKey (fetch_names t t.work)) _ ∙ ap (λ n. length (map FetchKey (fetch_names t t.work)) + n) (length-append (map BeginKey (names_of f size t)) (map CommitKey (names_of f size t)))))
    (subst (λ n. n ≤ 2) (sym (length-map (fetch_names t t.work) FetchKey)) (few_fetched t t.work)) (length (names_of f size t)) (length-map (names_of f size t) BeginKey) (length-map (names_of f size t) CommitKey)

-- so many steps the ticket of no delete has made at most
pub few_made : (f : Formats) (size : ℕ) (w : World) → Kept w → Bounded f size w → (k : ℕ) (t : Ticket) → 1 ≤ k → fin.get w.tickets k ≡ Some t → (IsDelete t.work → ⊥)
    → length (entries_by w.entries k) ≤ 12 + 2 * length (names_of f size t)
few_made f size w kept bounded k t some there no_delete =
    both (length (entries_by w.entries k)) (length (keys (entries_by w.entries k))) (length (keys_of f size t)) (12 + 2 * length (names_of f size t)) (length_keys (entries_by w.entries k))
    (few_once (keys (entries_by w.entries k)) (keys_of f size t) (kept.once k some) (λ x h. own x (bounded.listed k t x some there h)))
    (few_keys f size t)
  where
    own : (x : Key) → MayDo f size t x → Has (keys_of f size t) x
    own x (inl h) = h
    own x (inr h) = absurd (no_delete h.1)

    both : (a b c d : ℕ) → b ≡ a → b ≤ c → c ≤ d → a ≤ d
    both a b c d same p q = let is : b ≡ a = same in let first : b ≤ c = p in let second : c ≤ d = q in omega (arith, is, first, second)

-- ---- how many names

length_parts : (index number file first n : ℕ) → length (parts_from index number file first n) ≡ n
length_parts index number file first zero = refl
length_parts index number file first (suc n) = ap suc (length_parts index number file (suc first) n)

two_more : (p x y : ℕ) → y ≡ x + (2 + p) → suc (suc (p + x)) ≡ y
two_more p x y e = let is : y ≡ x + (2 + p) = e in omega (arith, is)

length_under : (index number parts first drawn : ℕ) → length (names_under index number parts first drawn) ≡ drawn * (2 + parts)
length_under index number parts first zero = sym (zero-mul (2 + parts))
length_under index number parts first (suc drawn) =
    ap (λ (n : ℕ). suc (suc n))
    (length-append (parts_from index number first 0 parts) (names_under index number parts (suc first) drawn)
    ∙ ap (λ (n : ℕ). n + length (names_under index number parts (suc first) drawn)) (length_parts index number first 0 parts) ∙ ap (λ (n : ℕ). parts + n) (length_under index number parts (suc first) drawn))
    ∙ two_more parts (drawn * (2 + parts)) (suc drawn * (2 + parts)) (suc-mul drawn (2 + parts))

few_roots : (o : Option ℕ) → length (root_names o) ≤ 1
few_roots None = let few : 0 ≤ 1 = omega arith in few
few_roots (Some n) = let few : 1 ≤ 1 = omega arith in few

parts_of_names : (a b c d n : ℕ) → a ≡ b + (c + d) → d ≤ 1 → b + c ≤ n → a ≤ 1 + n
parts_of_names a b c d n whole one few = let is : a ≡ b + (c + d) = whole in let last : d ≤ 1 = one in let most : b + c ≤ n = few in omega (arith, is, last, most)

length_names : (f : Formats) (size : ℕ) (t : Ticket) → length (names_of f size t) ≡ length (shard_names f size t t.work t.first t.drawn) + (length (swap_names (swap f t)) + length (root_names t.raised))
length_names f size t =
    length-append (shard_names f size t t.work t.first t.drawn) (swap_names (swap f t) ++ root_names t.raised) ∙ ap (λ n. length (shard_names f size t t.work t.first t.drawn) + n) (length-append (swap_names (swap f t)) (root_names t.raised))

-- those of its work, and a root
pub names_by : (f : Formats) (size : ℕ) (t : Ticket) (n : ℕ) → length (shard_names f size t t.work t.first t.drawn) + length (swap_names (swap f t)) ≤ n → length (names_of f size t) ≤ 1 + n
names_by f size t n few =
    parts_of_names (length (names_of f size t)) (length (shard_names f size t t.work t.first t.drawn)) (length (swap_names (swap f t))) (length (root_names t.raised)) n (length_names f size t) (few_roots t.raised) few

twice : (a n m : ℕ) → a ≤ 12 + 2 * n → n ≤ 1 + m → a ≤ 12 + 2 * (1 + m)
twice a n m p q = let first : a ≤ 12 + 2 * n = p in let second : n ≤ 1 + m = q in omega (arith, first, second)

-- the metadata of a finalization: two blobs, and one for each index
length_metadata : (f : Formats) (info : SnapInfo) → length (metadata f info) ≡ 2 + length info.indices
length_metadata f info =
    ap (λ (n : ℕ). suc (suc n)) (length-map {A = IndexRef} {B = BlobName × Bytes} info.indices (λ (r : IndexRef). (IndexMeta r.id info.uuid, f.index_meta.text (record { index = r; uuid = info.uuid })))) ∙ as_sum (length info.indices)
  where
    as_sum : (n : ℕ) → suc (suc n) ≡ 2 + n
    as_sum n = omega arith

module _ (f : Formats) (size : ℕ) (w : World) (kept : Kept w) (bounded : Bounded f size w) (k : ℕ) (t : Ticket) (some : 1 ≤ k) (there : fin.get w.tickets k ≡ Some t) where
  made_few : (IsDelete t.work → ⊥) → (n : ℕ) → length (shard_names f size t t.work t.first t.drawn) + length (swap_names (swap f t)) ≤ n → length (entries_by w.entries k) ≤ 12 + 2 * (1 + n)
  made_few no_delete n few = twice (length (entries_by w.entries k)) (length (names_of f size t)) n (few_made f size w kept bounded k t some there no_delete) (names_by f size t n few)

  pub shard_made : (index number : ℕ) → t.work ≡ Shard index number → length (entries_by w.entries k) ≤ most_of_shard f size t.place t.name number t.source
  shard_made index number is = as_two (length (entries_by w.entries k)) (ids_by f t.place t.name number t.source * (2 + parts_by f size t.place t.name number t.source))
      (made_few (λ h. subst IsDelete is h) (1 + ids_by f t.place t.name number t.source * (2 + parts_by f size t.place t.name number t.source))
      (subst (λ (work : Work). length (shard_names f size t work t.first t.drawn) + length (swap_names (swap_of f work t.root)) ≤ 1 + ids_by f t.place t.name number t.source * (2 + parts_by f size t.place t.name number t.source)) (sym is)
      (one_more (length (names_under index number (parts_by f size t.place t.name number t.source) t.first t.drawn))
      (t.drawn * (2 + parts_by f size t.place t.name number t.source)) (ids_by f t.place t.name number t.source * (2 + parts_by f size t.place t.name number t.source))
      (length_under index number (parts_by f size t.place t.name number t.source) t.first t.drawn) (mul-le-mul_right (2 + parts_by f size t.place t.name number t.source) (bounded.few k t some there index number is)))))
    where
      one_more : (a b c : ℕ) → a ≡ b → b ≤ c → suc a + 0 ≤ 1 + c
      one_more a b c same few = let is : a ≡ b = same in let less : b ≤ c = few in omega (arith, is, less)

      as_two : (a n : ℕ) → a ≤ 12 + 2 * (1 + (1 + n)) → a ≤ 12 + 2 * (2 + n)
      as_two a n few = let most : a ≤ 12 + 2 * (1 + (1 + n)) = few in omega (arith, most)

  pub final_made : (info : SnapInfo) (results : List ShardResult) (made : Command) → t.work ≡ Finalize info results made → length (entries_by w.entries k) ≤ most_of_final (length info.indices)
  final_made info results made is = as_three (length (entries_by w.entries k)) (length info.indices)
      (made_few (λ h. subst IsDelete is h) (2 + length info.indices)
      (subst (λ (work : Work). length (shard_names f size t work t.first t.drawn) + length (swap_names (swap_of f work t.root)) ≤ 2 + length info.indices) (sym is)
      (same_le (length (swap_names (swap_of f (Finalize info results made) t.root))) (length info.indices) (length-map (metadata f info) (λ (b : BlobName × Bytes). b.0) ∙ length_metadata f info))))
    where
      same_le : (a n : ℕ) → a ≡ 2 + n → 0 + a ≤ 2 + n
      same_le a n e = let is : a ≡ 2 + n = e in omega (arith, is)

      as_three : (a n : ℕ) → a ≤ 12 + 2 * (1 + (2 + n)) → a ≤ 12 + 2 * (3 + n)
      as_three a n few = let most : a ≤ 12 + 2 * (1 + (2 + n)) = few in omega (arith, most)

  pub drop_made : t.work ≡ Drop → length (entries_by w.entries k) ≤ most_of_drop
  drop_made is = made_few (λ h. subst IsDelete is h) 0
      (subst (λ (work : Work). length (shard_names f size t work t.first t.drawn) + length (swap_names (swap_of f work t.root)) ≤ 0) (sym is) none)
    where
      none : 0 + 0 ≤ 0
      none = omega arith

-- ---- over a history

module _ (f : Formats) (size : ℕ) (known : AllKnown f) (laws : StepLaws f size) (w : World) (log : List Moment) (h : IsHeard f size w log) (k : ℕ) (t : Ticket) (some : 1 ≤ k) (there : fin.get (world_from f w log).tickets k ≡ Some t) where
  pub bounded : Bounded f size (world_from f w log)
  bounded = log_bounded f size known laws w log h.tracked h.readers (untouched_kept w h.untouched) (untouched_bounded f size w h.untouched) h.legal h.heard

  -- none of its entries was there before
  pub made_within : (n : ℕ) → length (entries_by (world_from f w log).entries k) ≤ n → made_by log k ≤ n
  made_within n few =
      let whole : length (entries_by (world_from f w log).entries k) ≡ made_by log k + length (entries_by w.entries k) = made_length f size laws w log k some h.heard in
      let most : length (entries_by (world_from f w log).entries k) ≤ n = few in
      omega (arith, whole, most)

  pub shard_few : (index number : ℕ) → t.work ≡ Shard index number → made_by log k ≤ most_of_shard f size t.place t.name number t.source
  shard_few index number is = made_within (most_of_shard f size t.place t.name number t.source) (shard_made f size (world_from f w log) (heard_kept f size laws w log h) bounded k t some there index number is)

  pub final_few : (info : SnapInfo) (results : List ShardResult) (made : Command) → t.work ≡ Finalize info results made → made_by log k ≤ most_of_final (length info.indices)
  final_few info results made is = made_within (most_of_final (length info.indices)) (final_made f size (world_from f w log) (heard_kept f size laws w log h) bounded k t some there info results made is)

  pub drop_few : t.work ≡ Drop → made_by log k ≤ most_of_drop
  drop_few is = made_within most_of_drop (drop_made f size (world_from f w log) (heard_kept f size laws w log h) bounded k t some there is)
