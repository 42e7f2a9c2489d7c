-- What each step of a restore leaves of the order of restores and their tickets.
use Rattle.std.proofs.Common.{◌≡◌, ◌≢◌, ℕ, suc, ◌<◌, ◌≤◌, List, true, false, true≢false, Some, map, refl, sym, ap, ◌∙◌, subst, inl, inr, arith, nat_cmp}
use Rattle.std.specs.FinMap.{FinMap}
use Rattle.std.specs.FinMap as fin
use Rattle.std.proofs.lemmas.Option.{same_Some}
use Rattle.esr_core.specs.Laws.NumberMaps.{was_in, same_in, other_in, split_at}
use Rattle.esr_model.specs.Names.{BlobName}
use Rattle.esr_model.specs.Values.{Bytes, Has, IndexRef}
use Rattle.esr_core.specs.World.{ReadState, Unread, BeingRead, RestoreShard, Restoring, Reader}
use Rattle.esr_core.specs.Restores.{AreApart, restore_of, waits, any_waits, put_restore, handed, ended, reader_of, read_more}
use Rattle.esr_core.specs.ReadTracked.{ReaderTracked, IsReadBy, RestoresTracked}
use Rattle.esr_model.specs.Lists.{Has-mapped, Has-map}
use Rattle.esr_core.specs.Laws.RestoreMaps.{unread_read, some_waits, handed_is, ended_is, handed_place, ended_place, begun_unread, put_was, put_other, put_same}
use Rattle.esr_core.proofs.Restoring.{once_mapped, once_begun}

abbrev Restores : Type 0
Restores = FinMap nat_cmp Restoring

abbrev Readers : Type 0
Readers = FinMap nat_cmp Reader

-- more numbers are given
pub tracked_up : (a b c d : ℕ) (restores : Restores) (readers : Readers) → a ≤ c → b ≤ d → RestoresTracked a b restores readers → RestoresTracked c d restores readers
tracked_up a b c d restores readers ac bd l =
    record {
      first = let x : 1 ≤ b = l.first in omega (arith, x, bd);
      numbers = λ o r e. let x : o < a = l.numbers o r e in omega (arith, x, ac);
      tickets = λ k q e. let h = l.tickets k q e in let x : k < b = h.1 in (h.0, omega (arith, x, bd));
      waiting = l.waiting;
      readers = l.readers;
      held = l.held;
      distinct = l.distinct;
    }

module _ (next_op next_ticket : ℕ) (restores : Restores) (readers : Readers) (l : RestoresTracked next_op next_ticket restores readers) where
  -- the shard of a ticket, where its restore stays and it isn't touched
  moved : (now : Restores) (k : ℕ) (q : Reader) (h : ReaderTracked restores k q) → fin.get now q.op ≡ Some h.r → ReaderTracked now k q
  moved now k q h e = record { r = h.r; there = e; uuid_is = h.uuid_is; place_is = h.place_is; s = h.s; s_there = h.s_there; state = h.state; index_is = h.index_is; number_is = h.number_is; name_is = h.name_is }

  -- ---- a restore is opened

  pub tracked_opened : (uuid : ℕ) (place : Bytes) (indices : List IndexRef) → AreApart indices → RestoresTracked (suc next_op) next_ticket (put_restore restores next_op (restore_of uuid place indices)) readers
  tracked_opened uuid place indices apart =
      let r : Restoring = restore_of uuid place indices in
      record {
        first = l.first;
        numbers = λ o x e. elim (put_was restores next_op r o x e) [ inl h ↦ omega (arith, h.0) | inr h ↦ let b : o < next_op = l.numbers o x h.1 in omega (arith, b) ];
        tickets = l.tickets;
        waiting = λ o x e. elim (put_was restores next_op r o x e) [ inl h ↦ subst (λ (y : Restoring). any_waits y.shards ≡ true) h.1 h.2 | inr h ↦ l.waiting o x h.1 ];
        readers = λ k q e out. let h = l.readers k q e out in moved (put_restore restores next_op r) k q h (put_other restores next_op r q.op (λ same. let b : q.op < next_op = l.numbers q.op h.r h.there in omega (arith, b, same)) ∙ h.there);
        held = λ o x s k e m state. elim (put_was restores next_op r o x e) [
          | inl h ↦ absurd (unread_read (sym (begun_unread uuid place indices s (subst (λ (y : Restoring). Has y.shards s) (sym h.1) m)) ∙ state))
          | inr h ↦ l.held o x s k h.1 m state
        ];
        distinct = λ o x s z e sm zm. elim (put_was restores next_op r o x e) [
          | inl h ↦ once_begun uuid place indices apart s z (subst (λ (y : Restoring). Has y.shards s) (sym h.1) sm) (subst (λ (y : Restoring). Has y.shards z) (sym h.1) zm)
          | inr h ↦ l.distinct o x s z h.1 sm zm
        ];
      }

  -- ---- a shard goes to a ticket

  module _ (o : ℕ) (r : Restoring) (s : RestoreShard) (there : fin.get restores o ≡ Some r) (s_there : Has r.shards s) (unread : s.state ≡ Unread) where
    abbrev now : Restoring
    now = record r { shards = map (handed next_ticket s.ref.id s.number) r.shards }

    abbrev own : RestoreShard
    own = record s { state = BeingRead next_ticket }

    own_in : Has (map (handed next_ticket s.ref.id s.number) r.shards) own
    own_in = elim (handed_is next_ticket s.ref.id s.number s) [
      | inl h ↦ subst (Has (map (handed next_ticket s.ref.id s.number) r.shards)) h.2 (Has-map (handed next_ticket s.ref.id s.number) r.shards s s_there)
      | inr h ↦ absurd (h.0 refl refl)
    ]

    -- what another ticket reads stays
    others : (k : ℕ) (q : Reader) → ReaderTracked restores k q → ReaderTracked (fin.insert restores o now) k q
    others k q h = elim (split_at q.op o) [
      | inr apart ↦ moved (fin.insert restores o now) k q h (other_in restores o now q.op apart ∙ h.there)
      | inl same ↦
          let one : h.r ≡ r = same_Some _ _ (sym h.there ∙ ap (fin.get restores) same ∙ there) in
          let mine : Has r.shards h.s = subst (λ (y : Restoring). Has y.shards h.s) one h.s_there in
          elim (handed_is next_ticket s.ref.id s.number h.s) [
            | inl z ↦ absurd (unread_read (sym unread ∙ ap (λ (y : RestoreShard). y.state) (l.distinct o r s h.s there s_there mine (sym z.0) (sym z.1)) ∙ h.state))
            | inr z ↦ record {
              r = now;
              there = ap (fin.get (fin.insert restores o now)) same ∙ same_in restores o now;
              uuid_is = h.uuid_is ∙ ap (λ (y : Restoring). y.uuid) one;
              place_is = h.place_is ∙ ap (λ (y : Restoring). y.place) one;
              s = h.s;
              s_there = subst (Has (map (handed next_ticket s.ref.id s.number) r.shards)) z.1 (Has-map (handed next_ticket s.ref.id s.number) r.shards h.s mine);
              state = h.state;
              index_is = h.index_is;
              number_is = h.number_is;
              name_is = h.name_is;
            }
          ]
    ]

    fresh_reader : ReaderTracked (fin.insert restores o now) next_ticket (reader_of o r s)
    fresh_reader = record { r = now; there = same_in restores o now; uuid_is = refl; place_is = refl; s = own; s_there = own_in; state = refl; index_is = refl; number_is = refl; name_is = refl }

    stays : (k : ℕ) (q : Reader) → fin.get readers k ≡ Some q → fin.get (fin.insert readers next_ticket (reader_of o r s)) k ≡ Some q
    stays k q e = other_in readers next_ticket (reader_of o r s) k (λ same. let b : k < next_ticket = (l.tickets k q e).1 in omega (arith, b, same)) ∙ e

    read_by : (p : ℕ) (z : RestoreShard) (k : ℕ) → IsReadBy readers p z k → IsReadBy (fin.insert readers next_ticket (reader_of o r s)) p z k
    read_by p z k h = record { q = h.q; there = stays k h.q h.there; out = h.out; op_is = h.op_is; index_is = h.index_is; number_is = h.number_is }

    held_now : (z : RestoreShard) (k : ℕ) → Has (map (handed next_ticket s.ref.id s.number) r.shards) z → z.state ≡ BeingRead k → IsReadBy (fin.insert readers next_ticket (reader_of o r s)) o z k
    held_now z k m state =
        let (a, am, ae) = Has-mapped (handed next_ticket s.ref.id s.number) r.shards z m in
        elim (handed_is next_ticket s.ref.id s.number a) [
          | inl h ↦
              let is : z ≡ record a { state = BeingRead next_ticket } = sym ae ∙ h.2 in
              let same : next_ticket ≡ k = read_one (sym (ap (λ (y : RestoreShard). y.state) is) ∙ state) in
              record {
                q = reader_of o r s;
                there = ap (fin.get (fin.insert readers next_ticket (reader_of o r s))) (sym same) ∙ same_in readers next_ticket (reader_of o r s);
                out = refl;
                op_is = refl;
                index_is = sym h.0 ∙ ap (λ (y : RestoreShard). y.ref.id) (sym is);
                number_is = sym h.1 ∙ ap (λ (y : RestoreShard). y.number) (sym is);
              }
          | inr h ↦
              let is : z ≡ a = sym ae ∙ h.1 in
              subst (λ y. IsReadBy (fin.insert readers next_ticket (reader_of o r s)) o y k) (sym is) (read_by o a k (l.held o r a k there am (sym (ap (λ (y : RestoreShard). y.state) is) ∙ state)))
        ]
      where
        read_one : {a b : ℕ} → BeingRead a ≡ BeingRead b → a ≡ b
        read_one e = cc

    pub tracked_handed : RestoresTracked next_op (suc next_ticket) (fin.insert restores o (record r { shards = map (handed next_ticket s.ref.id s.number) r.shards })) (fin.insert readers next_ticket (reader_of o r s))
    tracked_handed =
        record {
          first = omega arith;
          numbers = λ p x e. elim (was_in restores o now p x e) [ inl h ↦ subst (λ y. y < next_op) (sym h.0) (l.numbers o r there) | inr h ↦ l.numbers p x h.1 ];
          tickets = λ k q e. elim (was_in readers next_ticket (reader_of o r s) k q e) [
            | inl h ↦ let same : k ≡ next_ticket = h.0 in (let first : 1 ≤ next_ticket = l.first in omega (arith, same, first), omega (arith, same))
            | inr h ↦ let x = l.tickets k q h.1 in let b : k < next_ticket = x.1 in (x.0, omega (arith, b))
          ];
          waiting = λ p x e. elim (was_in restores o now p x e) [
            | inl h ↦ subst (λ (y : Restoring). any_waits y.shards ≡ true) h.1 (some_waits (map (handed next_ticket s.ref.id s.number) r.shards) own own_in refl)
            | inr h ↦ l.waiting p x h.1
          ];
          readers = λ k q e out. elim (was_in readers next_ticket (reader_of o r s) k q e) [
            | inl h ↦ subst (λ j. ReaderTracked (fin.insert restores o now) j q) (sym h.0) (subst (ReaderTracked (fin.insert restores o now) next_ticket) h.1 fresh_reader)
            | inr h ↦ others k q (l.readers k q h.1 out)
          ];
          held = λ p x z k e m state. elim (was_in restores o now p x e) [
            | inl h ↦ subst (λ j. IsReadBy (fin.insert readers next_ticket (reader_of o r s)) j z k) (sym h.0) (held_now z k (subst (λ (y : Restoring). Has y.shards z) (sym h.1) m) state)
            | inr h ↦ read_by p z k (l.held p x z k h.1 m state)
          ];
          distinct = λ p x a b e am bm. elim (was_in restores o now p x e) [
            | inl h ↦ once_mapped (handed next_ticket s.ref.id s.number) (handed_place next_ticket s.ref.id s.number) r.shards
                (λ y z. l.distinct o r y z there) a b (subst (λ (y : Restoring). Has y.shards a) (sym h.1) am) (subst (λ (y : Restoring). Has y.shards b) (sym h.1) bm)
            | inr h ↦ l.distinct p x a b h.1 am bm
          ];
        }

  -- ---- a ticket reads more

  module _ (k : ℕ) (q : Reader) (there : fin.get readers k ≡ Some q) (name : BlobName) (bytes : Bytes) where
    abbrev more : Reader
    more = read_more q name bytes

    pub tracked_more : RestoresTracked next_op next_ticket restores (fin.insert readers k (read_more q name bytes))
    tracked_more =
        record {
          first = l.first;
          numbers = l.numbers;
          tickets = λ j x e. elim (was_in readers k more j x e) [ inl h ↦ subst (λ i. (1 ≤ i) × (i < next_ticket)) (sym h.0) (l.tickets k q there) | inr h ↦ l.tickets j x h.1 ];
          waiting = l.waiting;
          readers = λ j x e out. elim (was_in readers k more j x e) [
            | inl h ↦
                let y = l.readers k q there (ap (λ (z : Reader). z.out) h.1 ∙ out) in
                subst (λ i. ReaderTracked restores i x) (sym h.0) (subst (ReaderTracked restores k) h.1
                (record { r = y.r; there = y.there; uuid_is = y.uuid_is; place_is = y.place_is; s = y.s; s_there = y.s_there; state = y.state; index_is = y.index_is; number_is = y.number_is; name_is = y.name_is }))
            | inr h ↦ l.readers j x h.1 out
          ];
          held = λ o r s j e m state.
              let h = l.held o r s j e m state in
              elim (split_at j k) [
                | inl same ↦
                    let one : h.q ≡ q = same_Some _ _ (sym h.there ∙ ap (fin.get readers) same ∙ there) in
                    record {
                      q = more;
                      there = ap (fin.get (fin.insert readers k more)) same ∙ same_in readers k more;
                      out = ap (λ (z : Reader). z.out) (sym one) ∙ h.out;
                      op_is = ap (λ (z : Reader). z.op) (sym one) ∙ h.op_is;
                      index_is = ap (λ (z : Reader). z.index) (sym one) ∙ h.index_is;
                      number_is = ap (λ (z : Reader). z.number) (sym one) ∙ h.number_is;
                    }
                | inr away ↦ record { q = h.q; there = other_in readers k more j away ∙ h.there; out = h.out; op_is = h.op_is; index_is = h.index_is; number_is = h.number_is }
              ];
          distinct = l.distinct;
        }

  -- ---- a shard ends

  module _ (k : ℕ) (q : Reader) (q_there : fin.get readers k ≡ Some q) (r : Restoring) (there : fin.get restores q.op ≡ Some r) (state : ReadState) (over : waits state ≡ false) where
    abbrev after : Restoring
    after = record r { shards = map (ended k state) r.shards }

    abbrev gone : Reader
    gone = record q { out = false }

    still : (j : ℕ) (x : Reader) → j ≢ k → ReaderTracked restores j x → ReaderTracked (put_restore restores q.op after) j x
    still j x away h = elim (split_at x.op q.op) [
      | inr apart ↦ moved (put_restore restores q.op after) j x h (put_other restores q.op after x.op apart ∙ h.there)
      | inl same ↦
          let one : h.r ≡ r = same_Some _ _ (sym h.there ∙ ap (fin.get restores) same ∙ there) in
          let mine : Has r.shards h.s = subst (λ (y : Restoring). Has y.shards h.s) one h.s_there in
          elim (ended_is k state h.s) [
            | inl z ↦ absurd (away (read_one (sym h.state ∙ z.0)))
            | inr z ↦
                let left : Has (map (ended k state) r.shards) h.s = subst (Has (map (ended k state) r.shards)) z.1 (Has-map (ended k state) r.shards h.s mine) in
                record {
                  r = after;
                  there = ap (fin.get (put_restore restores q.op after)) same ∙ put_same restores q.op after (some_waits (map (ended k state) r.shards) h.s left (ap waits h.state));
                  uuid_is = h.uuid_is ∙ ap (λ (y : Restoring). y.uuid) one;
                  place_is = h.place_is ∙ ap (λ (y : Restoring). y.place) one;
                  s = h.s;
                  s_there = left;
                  state = h.state;
                  index_is = h.index_is;
                  number_is = h.number_is;
                  name_is = h.name_is;
                }
          ]
    ]
      where
        read_one : {a b : ℕ} → BeingRead a ≡ BeingRead b → a ≡ b
        read_one e = cc

    read_on : (p : ℕ) (z : RestoreShard) (j : ℕ) → j ≢ k → IsReadBy readers p z j → IsReadBy (fin.insert readers k gone) p z j
    read_on p z j away h = record { q = h.q; there = other_in readers k gone j away ∙ h.there; out = h.out; op_is = h.op_is; index_is = h.index_is; number_is = h.number_is }

    -- a shard that is still being read isn't that of the ticket
    held_on : (z : RestoreShard) (j : ℕ) → Has (map (ended k state) r.shards) z → z.state ≡ BeingRead j → IsReadBy (fin.insert readers k gone) q.op z j
    held_on z j m is =
        let (a, am, ae) = Has-mapped (ended k state) r.shards z m in
        elim (ended_is k state a) [
          | inl h ↦ absurd (true≢false (sym (ap waits (ap (λ (y : RestoreShard). y.state) (sym h.1 ∙ ae) ∙ is)) ∙ over))
          | inr h ↦
              let same : z ≡ a = sym ae ∙ h.1 in
              let is_a : a.state ≡ BeingRead j = sym (ap (λ (y : RestoreShard). y.state) same) ∙ is in
              subst (λ y. IsReadBy (fin.insert readers k gone) q.op y j) (sym same) (read_on q.op a j (λ e. h.0 (is_a ∙ ap BeingRead e)) (l.held q.op r a j there am is_a))
        ]

    -- of another restore no shard is read by the ticket
    elsewhere : (p : ℕ) (x : Restoring) (z : RestoreShard) (j : ℕ) → p ≢ q.op → IsReadBy readers p z j → j ≢ k
    elsewhere p x z j apart h same = apart (sym h.op_is ∙ ap (λ (y : Reader). y.op) (same_Some h.q q (sym h.there ∙ ap (fin.get readers) same ∙ q_there)))

    pub tracked_ended : RestoresTracked next_op next_ticket (put_restore restores q.op (record r { shards = map (ended k state) r.shards })) (fin.insert readers k (record q { out = false }))
    tracked_ended =
        record {
          first = l.first;
          numbers = λ p x e. elim (put_was restores q.op after p x e) [ inl h ↦ subst (λ y. y < next_op) (sym h.0) (l.numbers q.op r there) | inr h ↦ l.numbers p x h.1 ];
          tickets = λ j x e. elim (was_in readers k gone j x e) [ inl h ↦ subst (λ i. (1 ≤ i) × (i < next_ticket)) (sym h.0) (l.tickets k q q_there) | inr h ↦ l.tickets j x h.1 ];
          waiting = λ p x e. elim (put_was restores q.op after p x e) [ inl h ↦ subst (λ (y : Restoring). any_waits y.shards ≡ true) h.1 h.2 | inr h ↦ l.waiting p x h.1 ];
          readers = λ j x e out. elim (was_in readers k gone j x e) [
            | inl h ↦ absurd (true≢false (sym out ∙ ap (λ (y : Reader). y.out) (sym h.1)))
            | inr h ↦ still j x h.0 (l.readers j x h.1 out)
          ];
          held = λ p x z j e m is. elim (put_was restores q.op after p x e) [
            | inl h ↦ subst (λ i. IsReadBy (fin.insert readers k gone) i z j) (sym h.0) (held_on z j (subst (λ (y : Restoring). Has y.shards z) (sym h.1) m) is)
            | inr h ↦ let was = l.held p x z j h.1 m is in read_on p z j (elsewhere p x z j h.0 was) was
          ];
          distinct = λ p x a b e am bm. elim (put_was restores q.op after p x e) [
            | inl h ↦ once_mapped (ended k state) (ended_place k state) r.shards (λ y z. l.distinct q.op r y z there) a b (subst (λ (y : Restoring). Has y.shards a) (sym h.1) am) (subst (λ (y : Restoring). Has y.shards b) (sym h.1) bm)
            | inr h ↦ l.distinct p x a b h.1 am bm
          ];
        }
