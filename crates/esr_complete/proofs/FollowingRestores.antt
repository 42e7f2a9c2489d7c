-- What a history tells of its restores and their tickets, over the world that it leads to.
use Rattle.std.proofs.Common.{◌≡◌, ◌⊎◌, ℕ, suc, ◌<◌, ◌≤◌, Bool, true, false, true≢false, List, [], ◌∷◌, ◌++◌, Option, Some, None, map, refl, sym, ap, ◌∙◌, subst, inl, inr, arith, nat_cmp}
use Rattle.std.specs.FinMap.{FinMap}
use Rattle.std.specs.FinMap as fin
use Rattle.std.proofs.lemmas.Option.{same_Some, none-some}
use Rattle.esr_core.specs.Laws.NumberMaps.{was_in, same_in, other_in, split_at}
use Rattle.esr_model.specs.Values.{Bytes, Has, IndexRef}
use Rattle.esr_model.specs.Places.{places}
use Rattle.esr_core.specs.World.{World, ReadState, Unread, BeingRead, Restored, NotRestored, RestoreShard, Restoring, Reader}
use Rattle.esr_core.specs.Restores.{restore_of, unread, waits, any_waits, put_restore, handed, ended, reader_of}
use Rattle.esr_core.specs.ReadTracked.{RestoresTracked}
use Rattle.esr_core.specs.Entry.{Restore, GivenRestore, RestoredShard, Step, AskStep, ReadStep, Reply, HasEnded, AcceptedRestore, Entry}
use Rattle.esr_report.specs.Replies.{ReadShard, same_shard, shard_ticket_by, shard_ticket, shard_end_by, shard_end_at, ticket_end, read_shard}
use Rattle.esr_model.specs.Lists.{Has-map, Has-append, Has-mapped}
use Rattle.esr_core.specs.Laws.RestoreMaps.{LeavesPlace, handed_is, ended_is, handed_place, ended_place, some_waits, begun_unread, put_was, put_other, put_same}
use Rattle.esr_complete.proofs.Following.{gave, told}
use Rattle.esr_complete.proofs.RestoreTickets.{ticket_stays, ticket_given, end_given, ends_none, other_end, own_end, other_op, other_place, ticket_same, ticket_other, IsRestored, restored_stays}

abbrev pub Restores : Type 0
Restores = FinMap nat_cmp Restoring

abbrev pub Readers : Type 0
Readers = FinMap nat_cmp Reader

-- a restore that was accepted
pub record AskedRestore : Type 0 where
  pub op : ℕ
  pub uuid : ℕ
  pub indices : List IndexRef

abbrev pub opens : Reply → Option AskedRestore
opens (AcceptedRestore op uuid indices) = Some (record { op = op; uuid = uuid; indices = indices })
opens reply = None

-- the shard of a restore, as the report names it
abbrev pub shard_at : ℕ → Restoring → RestoreShard → ReadShard
shard_at o r s = read_shard o r.uuid (s.ref, s.number)

-- what is told of a shard in this state
abbrev pub IsToldAs : List Entry → ReadShard → ReadState → Type 0
IsToldAs es y Unread = shard_ticket es y ≡ None
IsToldAs es y (BeingRead k) = shard_ticket es y ≡ Some k
IsToldAs es y (Restored files bytes) = IsRestored es y
IsToldAs es y (NotRestored why) = ⊥

-- the restore is open with this shard
pub record IsOpenAt (restores : Restores) (o uuid : ℕ) (p : IndexRef × ℕ) : Type 0 where
  pub r : Restoring
  pub there : fin.get restores o ≡ Some r
  pub uuid_is : r.uuid ≡ uuid
  pub s : RestoreShard
  pub s_there : Has r.shards s
  pub ref_is : s.ref ≡ p.0
  pub number_is : s.number ≡ p.1

-- each shard of a restore that was accepted stands in its open restore, or was restored
abbrev pub AreRestored : Restores → List Entry → Type 0
AreRestored restores es = (e : Entry) (a : AskedRestore) → Has es e → opens e.reply ≡ Some a → (p : IndexRef × ℕ) → Has (places a.indices) p → IsOpenAt restores a.op a.uuid p ⊎ IsRestored es (read_shard a.op a.uuid p)

-- The history tells the ticket of each shard of an open restore, and its end. No ticket that is out has ended, nor one that
-- is still to be given; and none was given for a restore that is still to come.
pub record FollowsRestores (restores : Restores) (readers : Readers) (next_op next_ticket : ℕ) (es : List Entry) : Type 0 where
  pub unended : (k : ℕ) (q : Reader) → fin.get readers k ≡ Some q → q.out ≡ true → ticket_end es k ≡ None
  pub fresh : (k : ℕ) → next_ticket ≤ k → ticket_end es k ≡ None
  pub untaken : (y : ReadShard) → next_op ≤ y.op → shard_ticket es y ≡ None
  pub shards : (o : ℕ) (r : Restoring) (s : RestoreShard) → fin.get restores o ≡ Some r → Has r.shards s → IsToldAs es (shard_at o r s) s.state
  pub asked : AreRestored restores es

abbrev pub RestoresIn : World → List Entry → Type 0
RestoresIn w es = FollowsRestores w.restores w.readers w.next_op w.next_ticket es

-- ---- one more entry

told_stays : (es : List Entry) (x : Entry) (y : ReadShard) (state : ReadState) → IsToldAs es y state → shard_ticket_by x.reply y ≡ None → IsToldAs (es ++ x ∷ []) y state
told_stays es x y Unread h none = ticket_given es x y h ∙ none
told_stays es x y (BeingRead k) h none = ticket_stays es (x ∷ []) y k h
told_stays es x y (Restored files bytes) h none = restored_stays es (x ∷ []) y h
told_stays es x y (NotRestored why) h none = absurd h

-- the state that is told where the shard waits no more
over_restored : (es : List Entry) (y : ReadShard) (state : ReadState) → waits state ≡ false → IsToldAs es y state → IsRestored es y
over_restored es y (Restored files bytes) over h = h
over_restored es y (NotRestored why) over h = absurd h
over_restored es y state over h = absurd (true≢false over)

restored_on : (restores now : Restores) (es : List Entry) (x : Entry) → AreRestored restores es
    → ((o uuid : ℕ) (p : IndexRef × ℕ) → IsOpenAt restores o uuid p → IsOpenAt now o uuid p ⊎ IsRestored (es ++ x ∷ []) (read_shard o uuid p))
    → ((a : AskedRestore) → opens x.reply ≡ Some a → (p : IndexRef × ℕ) → Has (places a.indices) p → IsOpenAt now a.op a.uuid p) → AreRestored now (es ++ x ∷ [])
restored_on restores now es x was kept new e a has opened p m = elim (Has-append es x e has) [
  | inl before ↦ elim (was e a before opened p m) [ inl stands ↦ kept a.op a.uuid p stands | inr restored ↦ inr (restored_stays es (x ∷ []) (read_shard a.op a.uuid p) restored) ]
  | inr is ↦ inl (new a (ap (λ (y : Entry). opens y.reply) is ∙ opened) p m)
]

open_same : (restores now : Restores) (o uuid : ℕ) (p : IndexRef × ℕ) → fin.get now o ≡ fin.get restores o → IsOpenAt restores o uuid p → IsOpenAt now o uuid p
open_same restores now o uuid p same h = record { r = h.r; there = same ∙ h.there; uuid_is = h.uuid_is; s = h.s; s_there = h.s_there; ref_is = h.ref_is; number_is = h.number_is }

-- one of the restores goes on with its shards
open_on : (restores now : Restores) (o : ℕ) (r : Restoring) (g : RestoreShard → RestoreShard) → LeavesPlace g → fin.get restores o ≡ Some r → fin.get now o ≡ Some (record r { shards = map g r.shards })
    → (uuid : ℕ) (p : IndexRef × ℕ)
    → IsOpenAt restores o uuid p → IsOpenAt now o uuid p
open_on restores now o r g places there now_there uuid p h =
    let one : h.r ≡ r = same_Some h.r r (sym h.there ∙ there) in
    record {
      r = record r { shards = map g r.shards };
      there = now_there;
      uuid_is = ap (λ (z : Restoring). z.uuid) (sym one) ∙ h.uuid_is;
      s = g h.s;
      s_there = Has-map g r.shards h.s (subst (λ (z : Restoring). Has z.shards h.s) one h.s_there);
      ref_is = places.ref h.s ∙ h.ref_is;
      number_is = places.number h.s ∙ h.number_is;
    }

-- the entry gives no ticket of a restore, ends none, and opens no restore
pub record IsSilent (x : Entry) : Type 0 where
  pub no_ticket : (y : ReadShard) → shard_ticket_by x.reply y ≡ None
  pub no_end : (k : ℕ) → 1 ≤ k → shard_end_at k x ≡ None
  pub no_restore : opens x.reply ≡ None

pub silent : (who : ℕ) (step : Step) (reply : Reply) → ((y : ReadShard) → shard_ticket_by reply y ≡ None) → shard_end_by step reply ≡ None → opens reply ≡ None → IsSilent (told who step reply)
silent who step reply no_ticket none no_restore = record { no_ticket = no_ticket; no_end = λ k from. ends_none k (told who step reply) none; no_restore = no_restore }

-- who 0 has no ticket
pub silent_caller : (step : Step) (reply : Reply) → ((y : ReadShard) → shard_ticket_by reply y ≡ None) → opens reply ≡ None → IsSilent (told 0 step reply)
silent_caller step reply no_ticket no_restore = record { no_ticket = no_ticket; no_end = λ k from. other_end k (told 0 step reply) (λ e. let zero : 0 ≡ k = e in omega (arith, from, zero)); no_restore = no_restore }

-- ---- a step that leaves restores

-- a ticket that is out was out
abbrev pub WereOut : Readers → Readers → Type 0
WereOut readers later = (k : ℕ) (q : Reader) → fin.get later k ≡ Some q → q.out ≡ true → (z : Reader) × (fin.get readers k ≡ Some z) × (z.out ≡ true)

pub were_same : (readers : Readers) → WereOut readers readers
were_same readers k q e out = (q, e, out)

pub were_again : (readers : Readers) (key : ℕ) (old new : Reader) → fin.get readers key ≡ Some old → new.out ≡ old.out → WereOut readers (fin.insert readers key new)
were_again readers key old new there same k q e out = elim (was_in readers key new k q e) [
  | inl is ↦ (old, ap (fin.get readers) is.0 ∙ there, sym same ∙ ap (λ (z : Reader). z.out) is.1 ∙ out)
  | inr is ↦ (q, is.1, out)
]

module _ (restores : Restores) (readers : Readers) (next_op next_ticket : ℕ) (es : List Entry) (h : FollowsRestores restores readers next_op next_ticket es) (t : RestoresTracked next_op next_ticket restores readers) where
  pub restores_stay : (later : Readers) (ops tickets : ℕ) (x : Entry) → WereOut readers later → next_op ≤ ops → next_ticket ≤ tickets → IsSilent x → FollowsRestores restores later ops tickets (es ++ x ∷ [])
  restores_stay later ops tickets x were more_ops more_tickets quiet =
      record {
        unended = λ k q e out. let (z, there, was) = were k q e out in end_given es x k (h.unended k z there was) ∙ quiet.no_end k (t.tickets k z there).0;
        fresh = λ k le. end_given es x k (h.fresh k (omega (arith, more_tickets, le))) ∙ quiet.no_end k (let first : 1 ≤ next_ticket = t.first in omega (arith, first, more_tickets, le));
        untaken = λ y le. ticket_given es x y (h.untaken y (omega (arith, more_ops, le))) ∙ quiet.no_ticket y;
        shards = λ o r s e m. told_stays es x (shard_at o r s) s.state (h.shards o r s e m) (quiet.no_ticket (shard_at o r s));
        asked = restored_on restores restores es x h.asked (λ o uuid p was. inl was) (λ a e. absurd (none-some a (sym quiet.no_restore ∙ e)));
      }

  -- ---- a restore is opened

  pub restore_begins : (name place : Bytes) (uuid : ℕ) (indices : List IndexRef)
      → FollowsRestores (put_restore restores next_op (restore_of uuid place indices)) readers (suc next_op) next_ticket (es ++ told 0 (AskStep (Restore name place)) (AcceptedRestore next_op uuid indices) ∷ [])
  restore_begins name place uuid indices =
      let r : Restoring = restore_of uuid place indices in
      let now : Restores = put_restore restores next_op r in
      let x : Entry = told 0 (AskStep (Restore name place)) (AcceptedRestore next_op uuid indices) in
      record {
        unended = λ k q e out. end_given es x k (h.unended k q e out) ∙ ends_none k x refl;
        fresh = λ k le. end_given es x k (h.fresh k le) ∙ ends_none k x refl;
        untaken = λ y le. ticket_given es x y (h.untaken y (omega (arith, le)));
        shards = λ o q s e m. elim (put_was restores next_op r o q e) [
          | inl is ↦
              let mine : IsToldAs (es ++ x ∷ []) (shard_at next_op r s) Unread = ticket_given es x (shard_at next_op r s) (h.untaken (shard_at next_op r s) (omega arith)) in
              let state : s.state ≡ Unread = begun_unread uuid place indices s (subst (λ (z : Restoring). Has z.shards s) (sym is.1) m) in
              subst (λ (n : ℕ). IsToldAs (es ++ x ∷ []) (shard_at n q s) s.state) (sym is.0)
              (subst (λ (z : Restoring). IsToldAs (es ++ x ∷ []) (shard_at next_op z s) s.state) is.1 (subst (IsToldAs (es ++ x ∷ []) (shard_at next_op r s)) (sym state) mine))
          | inr is ↦ told_stays es x (shard_at o q s) s.state (h.shards o q s is.1 m) refl
        ];
        asked = restored_on restores now es x h.asked
            (λ o u p was. inl (open_same restores now o u p (put_other restores next_op r o (λ e. let below : o < next_op = t.numbers o was.r was.there in let same : o ≡ next_op = e in omega (arith, below, same))) was))
            (λ a e p m. subst (λ (b : AskedRestore). IsOpenAt now b.op b.uuid p) (same_Some (record { op = next_op; uuid = uuid; indices = indices }) a e)
            (begun p (subst (λ (b : AskedRestore). Has (places b.indices) p) (sym (same_Some (record { op = next_op; uuid = uuid; indices = indices }) a e)) m)));
      }
    where
      begun : (p : IndexRef × ℕ) → Has (places indices) p → IsOpenAt (put_restore restores next_op (restore_of uuid place indices)) next_op uuid p
      begun p m =
          let there : Has (restore_of uuid place indices).shards (unread p) = Has-map unread (places indices) p m in
          record {
            r = restore_of uuid place indices;
            there = put_same restores next_op (restore_of uuid place indices) (some_waits (restore_of uuid place indices).shards (unread p) there refl);
            uuid_is = refl;
            s = unread p;
            s_there = there;
            ref_is = refl;
            number_is = refl;
          }

  -- ---- a shard is given

  module _ (o : ℕ) (r : Restoring) (s : RestoreShard) (there : fin.get restores o ≡ Some r) (s_there : Has r.shards s) (is_unread : s.state ≡ Unread) where
    abbrev given_entry : Entry
    given_entry = gave next_ticket o (GivenRestore s.ref.id s.number r.uuid)

    -- other shards have it no more than before
    given_other : (y : ReadShard) → same_shard (shard_at o r s) y ≡ false → shard_ticket_by given_entry.reply y ≡ None
    given_other y apart = ticket_other next_ticket (shard_at o r s) y apart

    given_mine : shard_ticket (es ++ given_entry ∷ []) (shard_at o r s) ≡ Some next_ticket
    given_mine = ticket_given es given_entry (shard_at o r s) (subst (IsToldAs es (shard_at o r s)) is_unread (h.shards o r s there s_there)) ∙ ticket_same next_ticket (shard_at o r s)

    given_told : (z : RestoreShard) → Has (map (handed next_ticket s.ref.id s.number) r.shards) z → IsToldAs (es ++ given_entry ∷ []) (shard_at o r z) z.state
    given_told z m =
        let (a, am, is) = Has-mapped (handed next_ticket s.ref.id s.number) r.shards z m in
        elim (handed_is next_ticket s.ref.id s.number a) [
          | inl i ↦
              let same : s ≡ a = sym (t.distinct o r a s there am s_there i.0 i.1) in
              let mine : IsToldAs (es ++ given_entry ∷ []) (shard_at o r a) (BeingRead next_ticket) = subst (λ (b : RestoreShard). shard_ticket (es ++ given_entry ∷ []) (shard_at o r b) ≡ Some next_ticket) same given_mine in
              subst (λ (b : RestoreShard). IsToldAs (es ++ given_entry ∷ []) (shard_at o r b) b.state) (sym i.2 ∙ is) mine
          | inr i ↦
              subst (λ (b : RestoreShard). IsToldAs (es ++ given_entry ∷ []) (shard_at o r b) b.state) (sym i.1 ∙ is)
              (told_stays es given_entry (shard_at o r a) a.state (h.shards o r a there am) (given_other (shard_at o r a) (other_place (shard_at o r s) (shard_at o r a) (λ index number. i.0 (sym index) (sym number)))))
        ]

    pub shard_given : FollowsRestores (fin.insert restores o (record r { shards = map (handed next_ticket s.ref.id s.number) r.shards })) (fin.insert readers next_ticket (reader_of o r s)) next_op (suc next_ticket) (es ++ given_entry ∷ [])
    shard_given =
        let x : Entry = given_entry in
        let new : Restoring = record r { shards = map (handed next_ticket s.ref.id s.number) r.shards } in
        let now : Restores = fin.insert restores o new in
        record {
          unended = λ k q e out. elim (was_in readers next_ticket (reader_of o r s) k q e) [
            | inl is ↦ let same : k ≡ next_ticket = is.0 in end_given es x k (h.fresh k (omega (arith, same))) ∙ ends_none k x refl
            | inr is ↦ end_given es x k (h.unended k q is.1 out) ∙ ends_none k x refl
          ];
          fresh = λ k le. end_given es x k (h.fresh k (omega (arith, le))) ∙ ends_none k x refl;
          untaken = λ y le. ticket_given es x y (h.untaken y le) ∙ given_other y (other_op (shard_at o r s) y (λ e. let below : o < next_op = t.numbers o r there in let same : o ≡ y.op = e in omega (arith, below, le, same)));
          shards = λ p q z e m. elim (was_in restores o new p q e) [
            | inl is ↦
                subst (λ (n : ℕ). IsToldAs (es ++ x ∷ []) (shard_at n q z) z.state) (sym is.0)
                (subst (λ (b : Restoring). IsToldAs (es ++ x ∷ []) (shard_at o b z) z.state) is.1 (given_told z (subst (λ (b : Restoring). Has b.shards z) (sym is.1) m)))
            | inr is ↦ told_stays es x (shard_at p q z) z.state (h.shards p q z is.1 m) (given_other (shard_at p q z) (other_op (shard_at o r s) (shard_at p q z) (λ e. is.0 (sym e))))
          ];
          asked = restored_on restores now es x h.asked
              (λ p u place was. inl (elim (split_at p o) [
                | inl same ↦ subst (λ (n : ℕ). IsOpenAt now n u place) (sym same)
                    (open_on restores now o r (handed next_ticket s.ref.id s.number) (handed_place next_ticket s.ref.id s.number) there (same_in restores o new) u place (subst (λ (n : ℕ). IsOpenAt restores n u place) same was))
                | inr apart ↦ open_same restores now p u place (other_in restores o new p apart) was
              ]))
              (λ a e. absurd (none-some a e));
        }

  -- ---- a shard is restored

  module _ (k : ℕ) (q : Reader) (files bytes : ℕ) (q_there : fin.get readers k ≡ Some q) (q_out : q.out ≡ true) (r : Restoring) (there : fin.get restores q.op ≡ Some r) where
    abbrev end_entry : Entry
    end_entry = told k (ReadStep (RestoredShard files bytes)) HasEnded

    end_told : (z : RestoreShard) → Has (map (ended k (Restored files bytes)) r.shards) z → IsToldAs (es ++ end_entry ∷ []) (shard_at q.op r z) z.state
    end_told z m =
        let (a, am, is) = Has-mapped (ended k (Restored files bytes)) r.shards z m in
        elim (ended_is k (Restored files bytes) a) [
          | inl i ↦
              let mine : IsToldAs (es ++ end_entry ∷ []) (shard_at q.op r a) (Restored files bytes) =
              record {
                k = k;
                ticket_is = ticket_stays es (end_entry ∷ []) (shard_at q.op r a) k (subst (IsToldAs es (shard_at q.op r a)) i.0 (h.shards q.op r a there am));
                files = files;
                bytes = bytes;
                end_is = end_given es end_entry k (h.unended k q q_there q_out) ∙ own_end k end_entry refl;
              } in
              subst (λ (b : RestoreShard). IsToldAs (es ++ end_entry ∷ []) (shard_at q.op r b) b.state) (sym i.1 ∙ is) mine
          | inr i ↦ subst (λ (b : RestoreShard). IsToldAs (es ++ end_entry ∷ []) (shard_at q.op r b) b.state) (sym i.1 ∙ is) (told_stays es end_entry (shard_at q.op r a) a.state (h.shards q.op r a there am) refl)
        ]

    -- a restore goes on, or each of its shards was restored
    end_open : (b : Bool) → any_waits (map (ended k (Restored files bytes)) r.shards) ≡ b → (u : ℕ) (p : IndexRef × ℕ) → IsOpenAt restores q.op u p
        → IsOpenAt (put_restore restores q.op (record r { shards = map (ended k (Restored files bytes)) r.shards })) q.op u p ⊎ IsRestored (es ++ end_entry ∷ []) (read_shard q.op u p)
    end_open true some u p was =
        let new : Restoring = record r { shards = map (ended k (Restored files bytes)) r.shards } in
        inl (open_on restores (put_restore restores q.op new) q.op r (ended k (Restored files bytes)) (ended_place k (Restored files bytes)) there (put_same restores q.op new some) u p was)
    end_open false none u p was =
        let one : was.r ≡ r = same_Some was.r r (sym was.there ∙ there) in
        let z : RestoreShard = ended k (Restored files bytes) was.s in
        let m : Has (map (ended k (Restored files bytes)) r.shards) z = Has-map (ended k (Restored files bytes)) r.shards was.s (subst (λ (b : Restoring). Has b.shards was.s) one was.s_there) in
        let uuid : r.uuid ≡ u = ap (λ (b : Restoring). b.uuid) (sym one) ∙ was.uuid_is in
        let ref : z.ref ≡ p.0 = (ended_place k (Restored files bytes)).ref was.s ∙ was.ref_is in
        let number : z.number ≡ p.1 = (ended_place k (Restored files bytes)).number was.s ∙ was.number_is in
        inr (subst (IsRestored (es ++ end_entry ∷ [])) (λ i. read_shard q.op (uuid i) (ref i, number i)) (over_restored (es ++ end_entry ∷ []) (shard_at q.op r z) z.state (unwaiting (waits z.state) z refl m) (end_told z m)))
      where
        unwaiting : (b : Bool) (z : RestoreShard) → waits z.state ≡ b → Has (map (ended k (Restored files bytes)) r.shards) z → waits z.state ≡ false
        unwaiting false z is m = is
        unwaiting true z is m = absurd (true≢false (sym (some_waits (map (ended k (Restored files bytes)) r.shards) z m is) ∙ none))

    pub shard_ends : FollowsRestores (put_restore restores q.op (record r { shards = map (ended k (Restored files bytes)) r.shards })) (fin.insert readers k (record q { out = false })) next_op next_ticket (es ++ end_entry ∷ [])
    shard_ends =
        let x : Entry = end_entry in
        let new : Restoring = record r { shards = map (ended k (Restored files bytes)) r.shards } in
        let now : Restores = put_restore restores q.op new in
        record {
          unended = λ j u e out. elim (was_in readers k (record q { out = false }) j u e) [
            | inl is ↦ absurd (true≢false (sym out ∙ ap (λ (z : Reader). z.out) (sym is.1)))
            | inr is ↦ end_given es x j (h.unended j u is.1 out) ∙ other_end j x (λ e. is.0 (sym e))
          ];
          fresh = λ j le. end_given es x j (h.fresh j le) ∙ other_end j x (λ e. let below : k < next_ticket = (t.tickets k q q_there).1 in let same : k ≡ j = e in omega (arith, below, le, same));
          untaken = λ y le. ticket_given es x y (h.untaken y le);
          shards = λ o u z e m. elim (put_was restores q.op new o u e) [
            | inl is ↦
                subst (λ (n : ℕ). IsToldAs (es ++ x ∷ []) (shard_at n u z) z.state) (sym is.0)
                (subst (λ (b : Restoring). IsToldAs (es ++ x ∷ []) (shard_at q.op b z) z.state) is.1 (end_told z (subst (λ (b : Restoring). Has b.shards z) (sym is.1) m)))
            | inr is ↦ told_stays es x (shard_at o u z) z.state (h.shards o u z is.1 m) refl
          ];
          asked = restored_on restores now es x h.asked
              (λ o u p was. elim (split_at o q.op) [
                | inl same ↦ subst (λ (n : ℕ). IsOpenAt now n u p ⊎ IsRestored (es ++ x ∷ []) (read_shard n u p)) (sym same)
                    (end_open (any_waits new.shards) refl u p (subst (λ (n : ℕ). IsOpenAt restores n u p) same was))
                | inr apart ↦ inl (open_same restores now o u p (put_other restores q.op new o apart) was)
              ])
              (λ a e. absurd (none-some a e));
        }
