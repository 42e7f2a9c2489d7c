-- The next id stays one of the present term, and the uuids that open deletes name stay below it.
use Rattle.std.proofs.Common.{◌≡◌, ◌⊎◌, ℕ, suc, ◌+◌, ◌<◌, ◌≤◌, List, ◌++◌, Bool, true, false, refl, sym, ap, ◌∙◌, subst, inl, inr, arith}
use Rattle.std.specs.Prelude.{if◌then◌else◌}
use Rattle.std.specs.FinMap as fin
use Rattle.esr_core.specs.Laws.NumberMaps.{was_in, left_in}
use Rattle.esr_model.specs.Values.{Has, Formats}
use Rattle.esr_model.specs.Shelf.{Shelved}
use Rattle.esr_model.specs.Kept.{first_id}
use Rattle.esr_core.specs.World.{World, Deletion}
use Rattle.esr_core.specs.Turns.{IsKnown, Turn, Stays, Commits, CommitFails, Finds, Raises, Latests, Fetches, SettlesFinal, SettlesDelete, Elects, TakesShard, TakesFinal, TakesDrop, TakesDelete, TakesCleanup, AsksCleanup, CleanDrops, DrawsShard, DrawsPlan, Dones, Ending, Fails, FailsDelete, Drops, AsksCreate, AsksDelete, Merges, Removing, Pages, Deposes, Besides, Tests, TestTurn, DrawsTest, AddsTest, RemovesTests}
use Rattle.esr_core.specs.Ids.{DeletionIds, InTerm, Law}
use Rattle.esr_core.proofs.Besides.{aside_of, term_aside, kept_aside}
use Rattle.esr_model.specs.Lists.{Has-either}
use Rattle.esr_core.specs.Laws.Maps.{Deletes}

-- the same term and next id
same_term : (w new : World) → new.term ≡ w.term → new.next_id ≡ w.next_id → InTerm w → InTerm new
same_term w new t n h =
    record {
      from = subst (λ x. first_id x ≤ new.next_id) (sym t) (subst (λ x. first_id w.term ≤ x) (sym n) h.from);
      below = subst (λ x. new.next_id < first_id (suc x)) (sym t) (subst (λ x. x < first_id (suc w.term)) (sym n) h.below);
    }

-- some ids drawn
drawn_term : (w new : World) (n : ℕ) → new.term ≡ w.term → new.next_id ≡ w.next_id + n → w.next_id + n < first_id (suc w.term) → InTerm w → InTerm new
drawn_term w new n t e fits h =
    record {
      from = subst (λ x. first_id x ≤ new.next_id) (sym t) (subst (λ x. first_id w.term ≤ x) (sym e) (let b : first_id w.term ≤ w.next_id = h.from in omega (arith, b)));
      below = subst (λ x. new.next_id < first_id (suc x)) (sym t) (subst (λ x. x < first_id (suc w.term)) (sym e) fits);
    }

pub one_more : (n : ℕ) → suc n ≡ n + 1
one_more n = omega arith

abbrev term_of : World → ℕ
term_of w = w.term

abbrev next_of : World → ℕ
next_of w = w.next_id

abbrev deletes_of : World → Deletes
deletes_of w = w.deletes

tests_term : (f : Formats) (w : World) → InTerm w → (new : World) → TestTurn f w new → InTerm new
tests_term f w l new (DrawsTest m d) = drawn_term w m 1 (ap term_of d.new_is) (ap next_of d.new_is ∙ one_more w.next_id) (let b : suc w.next_id < first_id (suc w.term) = d.fits in omega (arith, b)) l
tests_term f w l new (AddsTest m name bytes a) = same_term w m (ap term_of a.new_is) (ap next_of a.new_is) l
tests_term f w l new (RemovesTests m names r) = same_term w m (ap term_of r.new_is) (ap next_of r.new_is) l

pub turn_in_term : (f : Formats) (w new : World) → InTerm w → Turn f w new → InTerm new
turn_in_term f w new l (Stays m e) = same_term w m (ap term_of e) (ap next_of e) l
turn_in_term f w new l (Commits m k name h) = same_term w m (ap term_of h.new_is) (ap next_of h.new_is) l
turn_in_term f w new l (CommitFails m k name h) = elim h.leaves [ inl e ↦ same_term w m (ap term_of e) (ap next_of e) l | inr e ↦ same_term w m (ap term_of e.1) (ap next_of e.1) l ]
turn_in_term f w new l (Finds m k name h) = same_term w m (ap term_of h.new_is) (ap next_of h.new_is) l
turn_in_term f w new l (Raises m k h) = same_term w m (ap term_of h.new_is) (ap next_of h.new_is) l
turn_in_term f w new l (Latests m k h) = same_term w m (ap term_of h.tries.new_is) (ap next_of h.tries.new_is) l
turn_in_term f w new l (Fetches m k name h) = same_term w m (ap term_of h.new_is) (ap next_of h.new_is) l
turn_in_term f w new l (SettlesFinal m k n t s h) = same_term w m (ap term_of h.new_is) (ap next_of h.new_is) l
turn_in_term f w new l (SettlesDelete m k n t s h) = same_term w m (ap term_of h.new_is) (ap next_of h.new_is) l
turn_in_term f w new l (Elects m h) = subst InTerm (sym h.new_is) (record { from = omega arith; below = omega arith })
turn_in_term f w new l (TakesShard m o op s base h) = same_term w m (ap term_of h.new_is) (ap next_of h.new_is) l
turn_in_term f w new l (TakesFinal m o op results h) = same_term w m (ap term_of h.new_is) (ap next_of h.new_is) l
turn_in_term f w new l (TakesDrop m o h) = same_term w m (ap term_of h.new_is) (ap next_of h.new_is) l
turn_in_term f w new l (TakesDelete m n x h) = same_term w m (ap term_of h.new_is) (ap next_of h.new_is) l
turn_in_term f w new l (TakesCleanup m n x h) = same_term w m (ap term_of h.new_is) (ap next_of h.new_is) l
turn_in_term f w new l (DrawsShard m k n h) = drawn_term w m n (ap term_of h.new_is) (ap next_of h.new_is) h.fits l
turn_in_term f w new l (DrawsPlan m k n h) = drawn_term w m n (ap term_of h.new_is) (ap next_of h.new_is) h.fits l
turn_in_term f w new l (Dones m k r h) = same_term w m (ap term_of h.new_is) (ap next_of h.new_is) l
turn_in_term f w new l (Ending m k h) = same_term w m (ap term_of h.new_is) (ap next_of h.new_is) l
turn_in_term f w new l (Fails m k h) = same_term w m (ap term_of h.new_is) (ap next_of h.new_is) l
turn_in_term f w new l (FailsDelete m k h) = same_term w m (ap term_of h.new_is) (ap next_of h.new_is) l
turn_in_term f w new l (Drops m k h) = same_term w m (ap term_of h.new_is) (ap next_of h.new_is) l
turn_in_term f w new l (AsksCleanup m h) = same_term w m (ap term_of h.new_is) (ap next_of h.new_is) l
turn_in_term f w new l (CleanDrops m k h) = same_term w m (ap term_of h.new_is) (ap next_of h.new_is) l
turn_in_term f w new l (AsksCreate m op h) = drawn_term w m h.drawn (ap term_of h.new_is) (ap next_of h.new_is) h.fits l
turn_in_term f w new l (AsksDelete m uuids h) = same_term w m (ap term_of h.new_is) (ap next_of h.new_is) l
turn_in_term f w new l (Merges m uuids n h) = same_term w m (ap term_of h.new_is) (ap next_of h.new_is) l
turn_in_term f w new l (Pages m k page h) = same_term w m (ap term_of h.new_is) (ap next_of h.new_is) l
turn_in_term f w new l (Removing m k names h) = same_term w m (ap term_of h.new_is) (ap next_of h.new_is) l
turn_in_term f w new l (Deposes m up h e) = same_term up m (ap term_of e) (ap next_of e) (turn_in_term f w up l h)
turn_in_term f w new l (Tests m t) = tests_term f w l m t
turn_in_term f w new l (Besides m up h r) = term_aside up m (aside_of f up m r) (turn_in_term f w up l h)

same_below : (w new : World) → new.next_id ≡ w.next_id → new.deletes ≡ w.deletes → DeletionIds w.next_id w.deletes → DeletionIds new.next_id new.deletes
same_below w new n e h = subst (λ c. DeletionIds c new.deletes) (sym n) (subst (DeletionIds w.next_id) (sym e) h)

more_below : (w new : World) (n : ℕ) → new.next_id ≡ w.next_id + n → new.deletes ≡ w.deletes → DeletionIds w.next_id w.deletes → DeletionIds new.next_id new.deletes
more_below w new n is e h = subst (λ c. DeletionIds c new.deletes) (sym is) (subst (DeletionIds (w.next_id + n)) (sym e) (λ d x there u m. let b : u < w.next_id = h d x there u m in omega (arith, b)))

less_below : (w new : World) (o : ℕ) → new.next_id ≡ w.next_id → new.deletes ≡ fin.remove w.deletes o → DeletionIds w.next_id w.deletes → DeletionIds new.next_id new.deletes
less_below w new o n e h = subst (λ c. DeletionIds c new.deletes) (sym n) (subst (DeletionIds w.next_id) (sym e) (λ d x there u m. h d x (left_in w.deletes o d x there).1 u m))

put_below : (w new : World) (o : ℕ) (v : Deletion) → new.next_id ≡ w.next_id → new.deletes ≡ fin.insert w.deletes o v → ((u : ℕ) → Has v.uuids u → u < w.next_id) → DeletionIds w.next_id w.deletes
    → DeletionIds new.next_id new.deletes
put_below w new o v n e mine h = subst (λ c. DeletionIds c new.deletes) (sym n) (subst (DeletionIds w.next_id) (sym e) (λ d x there u m. elim (was_in w.deletes o v d x there) [
  | inl z ↦ mine u (subst (λ (y : Deletion). Has y.uuids u) (sym z.1) m)
  | inr z ↦ h d x z.1 u m
]))

module _ (f : Formats) (w : World) (shelf : List Shelved) (l : Law f w shelf) where
  known_below : (u : ℕ) → IsKnown w u → u < w.next_id
  known_below u (inl h) = subst (λ x. x < w.next_id) h.2 (l.ids.root.snapshots h.0 h.1)
  known_below u (inr h) = subst (λ x. x < w.next_id) h.3 (l.ids.ops h.0 h.1 h.2).uuid

  chosen : (b : Bool) (a c : Deletes) → ((if b then a else c) ≡ a) ⊎ ((if b then a else c) ≡ c)
  chosen true a c = inl refl
  chosen false a c = inr refl

tests_deletions : (f : Formats) (w : World) (shelf : List Shelved) → Law f w shelf → (new : World) → TestTurn f w new → DeletionIds new.next_id new.deletes
tests_deletions f w shelf l new (DrawsTest m d) = more_below w m 1 (ap next_of d.new_is ∙ one_more w.next_id) (ap deletes_of d.new_is) l.deletions
tests_deletions f w shelf l new (AddsTest m name bytes a) = same_below w m (ap next_of a.new_is) (ap deletes_of a.new_is) l.deletions
tests_deletions f w shelf l new (RemovesTests m names r) = same_below w m (ap next_of r.new_is) (ap deletes_of r.new_is) l.deletions

pub turn_deletions : (f : Formats) (w new : World) (shelf : List Shelved) → Law f w shelf → Turn f w new → DeletionIds new.next_id new.deletes
turn_deletions f w new shelf l (Stays m e) = same_below w m (ap next_of e) (ap deletes_of e) l.deletions
turn_deletions f w new shelf l (Commits m k name h) = same_below w m (ap next_of h.new_is) (ap deletes_of h.new_is) l.deletions
turn_deletions f w new shelf l (CommitFails m k name h) = elim h.leaves [ inl e ↦ same_below w m (ap next_of e) (ap deletes_of e) l.deletions | inr e ↦ same_below w m (ap next_of e.1) (ap deletes_of e.1) l.deletions ]
turn_deletions f w new shelf l (Finds m k name h) = same_below w m (ap next_of h.new_is) (ap deletes_of h.new_is) l.deletions
turn_deletions f w new shelf l (Raises m k h) = same_below w m (ap next_of h.new_is) (ap deletes_of h.new_is) l.deletions
turn_deletions f w new shelf l (Latests m k h) = same_below w m (ap next_of h.tries.new_is) (ap deletes_of h.tries.new_is) l.deletions
turn_deletions f w new shelf l (Fetches m k name h) = same_below w m (ap next_of h.new_is) (ap deletes_of h.new_is) l.deletions
turn_deletions f w new shelf l (SettlesFinal m k n t s h) = less_below w m t.op (ap next_of h.new_is) (ap deletes_of h.new_is) l.deletions
turn_deletions f w new shelf l (SettlesDelete m k n t s h) = elim (chosen f w shelf l h.cleans w.deletes (fin.remove w.deletes t.op)) [
  | inl e ↦ same_below w m (ap next_of h.new_is) (ap deletes_of h.new_is ∙ e) l.deletions
  | inr e ↦ less_below w m t.op (ap next_of h.new_is) (ap deletes_of h.new_is ∙ e) l.deletions
]
turn_deletions f w new shelf l (Elects m h) =
    subst (λ (x : World). DeletionIds x.next_id x.deletes) (sym h.new_is) (λ d x there u has. let b : u < w.next_id = l.deletions d x there u has in let c : w.next_id < first_id (suc w.term) = l.in_term.below in omega (arith, b, c))
turn_deletions f w new shelf l (TakesShard m o op s base h) = same_below w m (ap next_of h.new_is) (ap deletes_of h.new_is) l.deletions
turn_deletions f w new shelf l (TakesFinal m o op results h) = same_below w m (ap next_of h.new_is) (ap deletes_of h.new_is) l.deletions
turn_deletions f w new shelf l (TakesDrop m o h) = same_below w m (ap next_of h.new_is) (ap deletes_of h.new_is) l.deletions
turn_deletions f w new shelf l (TakesDelete m n x h) = same_below w m (ap next_of h.new_is) (ap deletes_of h.new_is) l.deletions
turn_deletions f w new shelf l (TakesCleanup m n x h) = same_below w m (ap next_of h.new_is) (ap deletes_of h.new_is) l.deletions
turn_deletions f w new shelf l (DrawsShard m k n h) = more_below w m n (ap next_of h.new_is) (ap deletes_of h.new_is) l.deletions
turn_deletions f w new shelf l (DrawsPlan m k n h) = more_below w m n (ap next_of h.new_is) (ap deletes_of h.new_is) l.deletions
turn_deletions f w new shelf l (Dones m k r h) = same_below w m (ap next_of h.new_is) (ap deletes_of h.new_is) l.deletions
turn_deletions f w new shelf l (Ending m k h) = same_below w m (ap next_of h.new_is) (ap deletes_of h.new_is) l.deletions
turn_deletions f w new shelf l (Fails m k h) = same_below w m (ap next_of h.new_is) (ap deletes_of h.new_is) l.deletions
turn_deletions f w new shelf l (FailsDelete m k h) = put_below w m h.t.op (record h.x { failed = true }) (ap next_of h.new_is) (ap deletes_of h.new_is) (λ u has. l.deletions h.t.op h.x h.there u has) l.deletions
turn_deletions f w new shelf l (Drops m k h) = less_below w m h.t.op (ap next_of h.new_is) (ap deletes_of h.new_is) l.deletions
turn_deletions f w new shelf l (AsksCleanup m h) = put_below w m w.next_op _ (ap next_of h.new_is) (ap deletes_of h.new_is) (λ u has. absurd has) l.deletions
turn_deletions f w new shelf l (CleanDrops m k h) = less_below w m h.t.op (ap next_of h.new_is) (ap deletes_of h.new_is) l.deletions
turn_deletions f w new shelf l (AsksCreate m op h) = more_below w m h.drawn (ap next_of h.new_is) (ap deletes_of h.new_is) l.deletions
turn_deletions f w new shelf l (AsksDelete m uuids h) = put_below w m w.next_op _ (ap next_of h.new_is) (ap deletes_of h.new_is) (λ u has. known_below f w shelf l u (h.known u has)) l.deletions
turn_deletions f w new shelf l (Merges m uuids n h) = put_below w m n (record h.x { uuids = h.x.uuids ++ h.more }) (ap next_of h.new_is) (ap deletes_of h.new_is)
    (λ u has. elim (Has-either h.x.uuids h.more u has) [ inl was ↦ l.deletions n h.x h.there u was | inr new_one ↦ known_below f w shelf l u (h.known u new_one) ]) l.deletions
turn_deletions f w new shelf l (Pages m k page h) = same_below w m (ap next_of h.new_is) (ap deletes_of h.new_is) l.deletions
turn_deletions f w new shelf l (Removing m k names h) = same_below w m (ap next_of h.new_is) (ap deletes_of h.new_is) l.deletions
turn_deletions f w new shelf l (Deposes m up h e) = same_below up m (ap next_of e) (ap deletes_of e) (turn_deletions f w up shelf l h)
turn_deletions f w new shelf l (Tests m t) = tests_deletions f w shelf l m t
turn_deletions f w new shelf l (Besides m up h r) = kept_aside (λ (x : World). DeletionIds x.next_id x.deletes) up m (aside_of f up m r) (turn_deletions f w up shelf l h)
