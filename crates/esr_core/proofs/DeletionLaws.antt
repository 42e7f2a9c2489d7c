-- Each turn keeps what the tickets of deletes and cleanups have read, their plans, and what they doomed.
use Rattle.std.proofs.Common.{◌≡◌, ℕ, suc, ◌≤◌, List, [], ◌∷◌, ◌++◌, Bool, true, false, true≢false, Option, Some, None, refl, sym, ap, ◌∙◌, subst, inl, inr, arith}
use Rattle.std.specs.FinMap as fin
use Rattle.std.proofs.lemmas.Option.{same_Some, none-some}
use Rattle.esr_core.specs.Laws.NumberMaps.{was_in}
use Rattle.esr_model.specs.Names.{BlobName}
use Rattle.esr_model.specs.Values.{Bytes, Has, SnapInfo, ShardResult, Formats}
use Rattle.esr_model.specs.Shelf.{Shelved, Command}
use Rattle.esr_model.specs.Image.{Blobs, IsStored}
use Rattle.esr_model.specs.Delete.{doomed_names}
use Rattle.esr_model.specs.Cleanup.{cleaned_names}
use Rattle.esr_core.specs.World.{World, Finalize, Deleting, Drop, Ticket, Swap, HeldIn, Safely}
use Rattle.esr_core.specs.Ready.{IsShard, IsMaster}
use Rattle.esr_core.specs.Steps.{Removes, MaySettle, FetchFound, reading, listing, shard_ticket, final_ticket, plain_ticket}
use Rattle.esr_core.specs.Pruning.{IsPlanned, doomed_as, doomed_by, dooms, PruneLaw, PruneLaws}
use Rattle.esr_core.specs.Ids.{Law}
use Rattle.esr_core.specs.Turns.{DrawPlan, AddTest, cleaning_ticket, Turn, Stays, Commits, CommitFails, Finds, Raises, Latests, Fetches, SettlesFinal, SettlesDelete, Elects, TakesShard, TakesFinal, TakesDrop, TakesDelete, TakesCleanup, AsksCleanup, CleanDrops, DrawsShard, DrawsPlan, Dones, Ending, Fails, FailsDelete, Drops, AsksCreate, AsksDelete, Merges, Removing, Pages, Deposes, Besides, Tests, TestTurn, DrawsTest, AddsTest, RemovesTests}
use Rattle.esr_core.specs.Laws.BlobFrames.{at_kept}
use Rattle.esr_core.proofs.Adds.{safe_kept}
use Rattle.esr_core.proofs.Besides.{aside_of, kept_aside}
use Rattle.esr_core.proofs.LatestPut.{put_law}
use Rattle.esr_core.specs.Laws.Maps.{Tickets}
use Rattle.esr_model.specs.Lists.{Has-left, Has-right}
use Rattle.esr_core.proofs.Settling.{swap_master}

-- what a cleanup with a plan dooms
pub cleans_is : (f : Formats) (t : Ticket) (uuids : List ℕ) (s : Swap) → t.work ≡ Deleting uuids (Some s) → t.clean ≡ true → dooms f t ≡ cleaned_names f t.raised s.root (s.own ++ t.read) t.listed
cleans_is f t uuids s work clean = ap (doomed_by f t) work ∙ ap (doomed_as f t uuids s) clean

-- it goes by these alone
pub dooms_alike : (f : Formats) (t v : Ticket) (uuids : List ℕ) (s : Swap) → t.work ≡ Deleting uuids (Some s) → v.work ≡ Deleting uuids (Some s) → v.clean ≡ t.clean → v.safe ≡ t.safe → v.root ≡ t.root → v.read ≡ t.read
    → v.raised ≡ t.raised → v.listed ≡ t.listed → dooms f v ≡ dooms f t
dooms_alike f t v uuids s work now clean safe root read raised listed = ap (doomed_by f v) now ∙ ap (doomed_as f v uuids s) clean ∙ by t.clean ∙ sym (ap (doomed_by f t) work)
  where
    by : (b : Bool) → doomed_as f v uuids s b ≡ doomed_as f t uuids s b
    by false = λ j. doomed_names f (safe j) (root j) s.root uuids (read j)
    by true = λ j. cleaned_names f (raised j) s.root (s.own ++ read j) (listed j)

-- so does it once it has settled
pub dooms_settled : (f : Formats) (t : Ticket) (uuids : List ℕ) (s : Swap) → t.work ≡ Deleting uuids (Some s) → dooms f (record t { settled = true }) ≡ dooms f t
dooms_settled f t uuids s work = dooms_alike f t (record t { settled = true }) uuids s work work refl refl refl refl refl refl

module _ (f : Formats) (blobs : Blobs) (doomed : List BlobName) (safe term : ℕ) (tickets : Tickets) (h : PruneLaws f blobs doomed safe term tickets) where
  -- a ticket
  put : (k : ℕ) (v : Ticket) → ((uuids : List ℕ) (plan : Option Swap) → v.out ≡ true → v.settled ≡ false → v.term ≡ term → v.work ≡ Deleting uuids plan → PruneLaw f (Safely f blobs doomed) safe v uuids plan)
      → ((uuids : List ℕ) (s : Swap) → v.settled ≡ true → v.work ≡ Deleting uuids (Some s) → (name : BlobName) → Has (dooms f v) name → Has doomed name) → PruneLaws f blobs doomed safe term (fin.insert tickets k v)
  put k v mine gone =
      record {
        unsettled = λ j u uuids plan e out uns pres is. elim (was_in tickets k v j u e) [
          | inl z ↦ subst (λ (x : Ticket). PruneLaw f (Safely f blobs doomed) safe x uuids plan) z.1
              (mine uuids plan (ap (λ (x : Ticket). x.out) z.1 ∙ out) (ap (λ (x : Ticket). x.settled) z.1 ∙ uns) (ap (λ (x : Ticket). x.term) z.1 ∙ pres) (ap (λ (x : Ticket). x.work) z.1 ∙ is))
          | inr z ↦ h.unsettled j u uuids plan z.1 out uns pres is
        ];
        settled = λ j u uuids s e done is name m. elim (was_in tickets k v j u e) [
          | inl z ↦ gone uuids s (ap (λ (x : Ticket). x.settled) z.1 ∙ done) (ap (λ (x : Ticket). x.work) z.1 ∙ is) name (subst (λ (x : Ticket). Has (dooms f x) name) (sym z.1) m)
          | inr z ↦ h.settled j u uuids s z.1 done is name m
        ];
      }

  -- one given anew in what these don't read
  again : (k : ℕ) (t : Ticket) → fin.get tickets k ≡ Some t → (noted : List BlobName) (wrote : List (BlobName × Bytes)) (raised : Option ℕ) (tried out : Bool) → (out ≡ true → t.out ≡ true)
      → (t.settled ≡ true → raised ≡ t.raised) → PruneLaws f blobs doomed safe term (fin.insert tickets k (record t { noted = noted; wrote = wrote; raised = raised; tried_latest = tried; out = out }))
  again k t there noted wrote raised tried out back same =
      put k (record t { noted = noted; wrote = wrote; raised = raised; tried_latest = tried; out = out })
      (λ uuids plan o uns pres is. let old = h.unsettled k t uuids plan there (back o) uns pres is in record { held = old.held; safe_is = old.safe_is; follows = old.follows })
      (λ uuids s done is name m. h.settled k t uuids s there done is name
      (subst (λ (ns : List BlobName). Has ns name) (dooms_alike f t (record t { noted = noted; wrote = wrote; raised = raised; tried_latest = tried; out = out }) uuids s is is refl refl refl refl (same done) refl) m))

  -- one that has ended
  ended : (k : ℕ) (t : Ticket) → fin.get tickets k ≡ Some t → PruneLaws f blobs doomed safe term (fin.insert tickets k (record t { out = false }))
  ended k t there = again k t there t.noted t.wrote t.raised t.tried_latest false (λ e. absurd (true≢false (sym e))) (λ e. refl)

  -- a new one: of a delete it has no plan yet
  new_one : (k : ℕ) (v : Ticket) → v.settled ≡ false → ((uuids : List ℕ) (plan : Option Swap) → v.work ≡ Deleting uuids plan → (v.read ≡ []) × (v.safe ≡ safe) × (plan ≡ None))
      → PruneLaws f blobs doomed safe term (fin.insert tickets k v)
  new_one k v unsettled fresh =
      put k v
      (λ uuids plan o uns pres is. let x = fresh uuids plan is in record {
        held = λ name b m. absurd (subst (λ (xs : List (BlobName × Bytes)). Has xs (name, b)) x.0 m);
        safe_is = x.1;
        follows = λ s e. absurd (none-some s (sym x.2 ∙ e));
      })
      (λ uuids s done is. absurd (true≢false (sym done ∙ unsettled)))

final_other : (info : SnapInfo) (results : List ShardResult) (made : Command) (uuids : List ℕ) (plan : Option Swap) → Finalize info results made ≡ Deleting uuids plan → ⊥
final_other info results made uuids plan e = cc

plan_same : (us vs : List ℕ) (p q : Option Swap) → Deleting us p ≡ Deleting vs q → (us ≡ vs) × (p ≡ q)
plan_same us vs p q e = (cc, cc)

module _ (f : Formats) (w : World) (shelf : List Shelved) (l : Law f w shelf) where
  -- over other blobs, and with more doomed names, where what was held still is
  lifted : (blobs : Blobs) (doomed : List BlobName) → ((name : BlobName) (bytes : Bytes) → HeldIn f w name bytes → Safely f blobs doomed name bytes) → ((name : BlobName) → Has w.doomed name → Has doomed name)
      → PruneLaws f blobs doomed w.safe w.term w.tickets
  lifted blobs doomed keeps more =
      record {
        unsettled = λ k t uuids plan e out uns pres is. let old = l.pruned.unsettled k t uuids plan e out uns pres is in record { held = λ name b m. keeps name b (old.held name b m); safe_is = old.safe_is; follows = old.follows };
        settled = λ k t uuids s e done is name m. more name (l.pruned.settled k t uuids s e done is name m);
      }

  grown : (name : BlobName) (bytes : Bytes) → IsStored f name → fin.get w.blobs (f.names.text name) ≡ None → PruneLaws f (fin.insert w.blobs (f.names.text name) bytes) w.doomed w.safe w.term w.tickets
  grown name bytes named absent = lifted (fin.insert w.blobs (f.names.text name) bytes) w.doomed (safe_kept f w.blobs name bytes named absent w.doomed) (λ n m. m)

  removed : (names : List BlobName) → ((name : BlobName) → Has names name → Has w.doomed name) → (now : Blobs) → Removes f w.blobs now names → PruneLaws f now w.doomed w.safe w.term w.tickets
  removed names doomed now removes = lifted now w.doomed (λ name b h. (removes.stays name b h.0 (λ q. h.1 (doomed name q)), h.1)) (λ n m. m)

  -- a delete has read more
  fetched : (k : ℕ) (name : BlobName) (new : World) (c : FetchFound f w k name new) → PruneLaws f w.blobs w.doomed w.safe w.term (fin.insert w.tickets k (reading c.t name c.bytes))
  fetched k name new c =
      put f w.blobs w.doomed w.safe w.term w.tickets l.pruned k (reading c.t name c.bytes)
      (λ uuids plan o uns pres is.
      let old = l.pruned.unsettled k c.t uuids plan c.out.there o uns pres is in
      let aside = c.aside uuids plan is in
      record {
        held = λ m b has. elim has [
          | inl e ↦ subst (λ (p : BlobName × Bytes). HeldIn f w p.0 p.1) e (c.there, aside.1 uns pres)
          | inr was ↦ old.held m b was
        ];
        safe_is = old.safe_is;
        follows = λ s e. absurd (none-some s (sym aside.0 ∙ e));
      })
      (λ uuids s done is name m. absurd (some_none s (c.aside uuids (Some s) is).0))
    where
      some_none : (s : Swap) → ◌≡◌ {A = Option Swap} (Some s) None → ⊥
      some_none s e = cc

  -- a swap has settled: no other is out
  settles : (k n : ℕ) (t : Ticket) (s : Swap) → MaySettle f w k n t s → t.term ≡ w.term → (doomed : List BlobName) → ((name : BlobName) → Has w.doomed name → Has doomed name)
      → ((uuids : List ℕ) (x : Swap) → t.work ≡ Deleting uuids (Some x) → (name : BlobName) → Has (dooms f t) name → Has doomed name) → PruneLaws f w.blobs doomed (suc n) w.term (fin.insert w.tickets k (record t { settled = true }))
  settles k n t s may present doomed more mine =
      record {
        unsettled = λ j u uuids plan e out uns pres is. elim (was_in w.tickets k (record t { settled = true }) j u e) [
          | inl z ↦ absurd (true≢false (ap (λ (x : Ticket). x.settled) z.1 ∙ uns))
          | inr z ↦ absurd (z.0 (l.lawful.queue.one_swap j k (record { t = u; there = z.1; out = out; unsettled = uns; present = pres; swaps = subst IsMaster (sym is) tt })
              (record { t = t; there = may.out.there; out = may.out.out; unsettled = may.unsettled; present = present; swaps = swap_master f t.work t.root s may.is })))
        ];
        settled = λ j u uuids x e done is name m. elim (was_in w.tickets k (record t { settled = true }) j u e) [
          | inl z ↦
              let work : t.work ≡ Deleting uuids (Some x) = ap (λ (y : Ticket). y.work) z.1 ∙ is in
              mine uuids x work name (subst (λ (ns : List BlobName). Has ns name) (dooms_settled f t uuids x work) (subst (λ (y : Ticket). Has (dooms f y) name) (sym z.1) m))
          | inr z ↦ more name (l.pruned.settled j u uuids x z.1 done is name m)
        ];
      }

  -- a delete has its plan
  planned : (k n : ℕ) (new : World) (d : DrawPlan f w k n new)
      → PruneLaws f w.blobs w.doomed w.safe w.term (fin.insert w.tickets k (record d.t { first = w.next_id; drawn = n; work = Deleting d.named (Some (record { root = d.root; own = d.own; commands = d.commands })) }))
  planned k n new d =
      put f w.blobs w.doomed w.safe w.term w.tickets l.pruned k (record d.t { first = w.next_id; drawn = n; work = Deleting d.named (Some its) })
      (λ uuids plan o uns pres is.
      let old = l.pruned.unsettled k d.t d.named None d.out.there o uns pres d.work in
      let same = plan_same d.named uuids (Some its) plan is in
      record {
        held = old.held;
        safe_is = old.safe_is;
        follows = λ s e.
            let swap : its ≡ s = same_Some its s (same.1 ∙ e) in
            subst (λ (x : List ℕ × Swap). IsPlanned f d.t.clean d.t.root d.t.read w.next_id x.0 x.1) (λ j. (same.0 j, swap j)) d.planned;
      })
      (λ uuids s done is. absurd (true≢false (sym done ∙ d.unsettled)))
    where
      its : Swap
      its = record { root = d.root; own = d.own; commands = d.commands }

  -- in a new term no ticket is of the present one
  elected : PruneLaws f w.blobs w.doomed w.safe (suc w.term) w.tickets
  elected =
      record {
        unsettled = λ k t uuids plan e out uns pres is. let b : t.term ≤ w.term = (l.lawful.sound.rooted.tickets k t e).term in absurd (omega (arith, b, pres));
        settled = l.pruned.settled;
      }

  tested : (name : BlobName) (bytes : Bytes) (new : World) (a : AddTest f w name bytes new) → PruneLaws f (fin.insert w.blobs (f.names.text name) bytes) (name ∷ w.doomed) w.safe w.term w.tickets
  tested name bytes new a =
      lifted (fin.insert w.blobs (f.names.text name) bytes) (name ∷ w.doomed)
      (λ m b h. (
        at_kept f w.blobs name bytes a.named a.absent [] m b h.0,
        λ d. elim d [ inl e ↦ some_none b (sym h.0.0 ∙ ap (λ (n : BlobName). fin.get w.blobs (f.names.text n)) (sym e) ∙ a.absent) | inr was ↦ h.1 was ],
      ))
      (λ n m. inr m)
    where
      some_none : (b : Bytes) → ◌≡◌ {A = Option Bytes} (Some b) None → ⊥
      some_none b e = cc

-- of a world
abbrev In : Formats → World → Type 0
In f w = PruneLaws f w.blobs w.doomed w.safe w.term w.tickets

tests_pruned : (f : Formats) (w : World) (shelf : List Shelved) → Law f w shelf → (new : World) → TestTurn f w new → In f new
tests_pruned f w shelf l new (DrawsTest m d) = subst (In f) (sym d.new_is) l.pruned
tests_pruned f w shelf l new (AddsTest m name bytes a) = subst (In f) (sym a.new_is) (tested f w shelf l name bytes m a)
tests_pruned f w shelf l new (RemovesTests m names r) = subst (In f) (sym r.new_is) (removed f w shelf l names r.doomed r.now r.removes)

pub turn_pruned : (f : Formats) (w new : World) (shelf : List Shelved) → Law f w shelf → Turn f w new → In f new
turn_pruned f w new shelf l (Stays m e) = subst (In f) (sym e) l.pruned
turn_pruned f w new shelf l (Commits m k name c) = subst (In f) (sym c.new_is)
    (again f (fin.insert w.blobs (f.names.text name) c.bytes) w.doomed w.safe w.term w.tickets (grown f w shelf l name c.bytes c.named c.absent) k c.t c.out.there
    (name ∷ c.t.noted) ((name, c.bytes) ∷ c.t.wrote) c.t.raised c.t.tried_latest c.t.out (λ o. o) (λ e. refl))
turn_pruned f w new shelf l (CommitFails m k name c) = elim c.leaves [
  | inl e ↦ subst (In f) (sym e) l.pruned
  | inr e ↦ subst (In f) (sym e.1) (grown f w shelf l name c.bytes c.named e.0)
]
turn_pruned f w new shelf l (Finds m k name d) = subst (In f) (sym d.new_is) (again f w.blobs w.doomed w.safe w.term w.tickets l.pruned k d.t d.out.there (name ∷ d.t.noted) d.t.wrote d.t.raised d.t.tried_latest d.t.out (λ o. o) (λ e. refl))
turn_pruned f w new shelf l (Raises m k d) =
    subst (In f) (sym d.new_is) (again f w.blobs w.doomed w.safe w.term w.tickets l.pruned k d.t d.out.there d.t.noted d.t.wrote (Some w.pending) d.t.tried_latest d.t.out (λ o. o) (λ e. absurd (true≢false (sym e ∙ d.unsettled))))
turn_pruned f w new shelf l (Latests m k d) = subst (In f) (sym d.tries.new_is)
    (again f d.now w.doomed w.safe w.term w.tickets (put_law f w shelf l d.now d.puts).pruned k d.tries.t d.tries.out.there d.tries.t.noted d.tries.t.wrote d.tries.t.raised true d.tries.t.out (λ o. o) (λ e. refl))
turn_pruned f w new shelf l (Fetches m k name c) = subst (In f) (sym c.new_is) (fetched f w shelf l k name m c)
turn_pruned f w new shelf l (SettlesFinal m k n t s d) =
    subst (In f) (sym d.new_is) (settles f w shelf l k n t s d.may d.present w.doomed (λ name h. h) (λ uuids x work. absurd (final_other d.info d.results d.made uuids (Some x) (sym d.work ∙ work))))
turn_pruned f w new shelf l (SettlesDelete m k n t s d) = subst (In f) (sym d.new_is)
    (settles f w shelf l k n t s d.may d.present (d.names ++ w.doomed) (λ name h. Has-right d.names w.doomed name h) (λ uuids x work name h. Has-left d.names w.doomed name (d.gives name h)))
turn_pruned f w new shelf l (Elects m d) = subst (In f) (sym d.new_is) (elected f w shelf l)
turn_pruned f w new shelf l (TakesShard m o op s base d) = subst (In f) (sym d.new_is)
    (new_one f w.blobs w.doomed w.safe w.term w.tickets l.pruned w.next_ticket (shard_ticket w o op s base) refl (λ uuids plan e. absurd cc))
turn_pruned f w new shelf l (TakesFinal m o op results d) = subst (In f) (sym d.new_is)
    (new_one f w.blobs w.doomed w.safe w.term w.tickets l.pruned w.next_ticket (final_ticket f w o op results) refl (λ uuids plan e. absurd (final_other _ results _ uuids plan e)))
turn_pruned f w new shelf l (TakesDrop m o d) = subst (In f) (sym d.new_is) (new_one f w.blobs w.doomed w.safe w.term w.tickets l.pruned w.next_ticket (plain_ticket w o Drop) refl (λ uuids plan e. absurd cc))
turn_pruned f w new shelf l (TakesDelete m n x d) = subst (In f) (sym d.new_is)
    (new_one f w.blobs w.doomed w.safe w.term w.tickets l.pruned w.next_ticket (plain_ticket w n (Deleting x.uuids None)) refl (λ uuids plan e. (refl, refl, sym (plan_same x.uuids uuids None plan e).1)))
turn_pruned f w new shelf l (TakesCleanup m n x d) = subst (In f) (sym d.new_is)
    (new_one f w.blobs w.doomed w.safe w.term w.tickets l.pruned w.next_ticket (cleaning_ticket w n) refl (λ uuids plan e. (refl, refl, sym (plan_same [] uuids None plan e).1)))
turn_pruned f w new shelf l (DrawsShard m k n d) = subst (In f) (sym d.new_is)
    (put f w.blobs w.doomed w.safe w.term w.tickets l.pruned k (record d.t { first = w.next_id; drawn = n }) (λ uuids plan o uns pres is. absurd (subst IsShard is d.shard)) (λ uuids s done is. absurd (subst IsShard is d.shard)))
turn_pruned f w new shelf l (DrawsPlan m k n d) = subst (In f) (sym d.new_is) (planned f w shelf l k n m d)
turn_pruned f w new shelf l (Dones m k r d) = subst (In f) (sym d.new_is) (ended f w.blobs w.doomed w.safe w.term w.tickets l.pruned k d.t d.out.there)
turn_pruned f w new shelf l (Ending m k d) = subst (In f) (sym d.new_is) (ended f w.blobs w.doomed w.safe w.term w.tickets l.pruned k d.t d.out.there)
turn_pruned f w new shelf l (Fails m k d) = subst (In f) (sym d.new_is) (ended f w.blobs w.doomed w.safe w.term w.tickets l.pruned k d.t d.out.there)
turn_pruned f w new shelf l (FailsDelete m k d) = subst (In f) (sym d.new_is) (ended f w.blobs w.doomed w.safe w.term w.tickets l.pruned k d.t d.out.there)
turn_pruned f w new shelf l (Drops m k d) = subst (In f) (sym d.new_is) (ended f w.blobs w.doomed w.safe w.term w.tickets l.pruned k d.t d.out.there)
turn_pruned f w new shelf l (AsksCleanup m d) = subst (In f) (sym d.new_is) l.pruned
turn_pruned f w new shelf l (CleanDrops m k d) = subst (In f) (sym d.new_is) (ended f w.blobs w.doomed w.safe w.term w.tickets l.pruned k d.t d.out.there)
turn_pruned f w new shelf l (AsksCreate m op d) = subst (In f) (sym d.new_is) l.pruned
turn_pruned f w new shelf l (AsksDelete m uuids d) = subst (In f) (sym d.new_is) l.pruned
turn_pruned f w new shelf l (Merges m uuids n d) = subst (In f) (sym d.new_is) l.pruned
turn_pruned f w new shelf l (Removing m k names d) = subst (In f) (sym d.new_is) (removed f w shelf l names d.doomed d.now d.removes)
turn_pruned f w new shelf l (Pages m k page d) = subst (In f) (sym d.new_is)
    (put f w.blobs w.doomed w.safe w.term w.tickets l.pruned k (listing d.t page)
    (λ uuids plan o uns pres is. let old = l.pruned.unsettled k d.t uuids plan d.out.there o uns pres is in record { held = old.held; safe_is = old.safe_is; follows = old.follows })
    (λ uuids s done is. absurd (true≢false (sym done ∙ d.unsettled))))
turn_pruned f w new shelf l (Deposes m up d e) = subst (In f) (sym e) (turn_pruned f w up shelf l d)
turn_pruned f w new shelf l (Tests m t) = tests_pruned f w shelf l m t
turn_pruned f w new shelf l (Besides m up d r) = kept_aside (In f) up m (aside_of f up m r) (turn_pruned f w up shelf l d)
