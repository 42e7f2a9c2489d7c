-- What a delete that is asked changes in the order of a world.
use Rattle.std.proofs.Common.{◌≡◌, ◌⊎◌, ℕ, suc, ◌<◌, ◌≤◌, List, [], true, false, Option, Some, None, refl, sym, ap, ◌∙◌, subst, inl, inr, arith}
use Rattle.std.specs.FinMap as fin
use Rattle.esr_core.specs.Laws.NumberMaps.{was_in, other_in}
use Rattle.esr_model.specs.Values.{Bytes, Has}
use Rattle.esr_core.specs.World.{World, Op, ShardWork, Deletion, Ticket}
use Rattle.esr_core.specs.Ready.{Stopped, IsMaster}
use Rattle.esr_core.specs.Deletes.{with_named, named_uuids, waiting_delete, running_delete, aborted_ops, delete_merged, delete_by, asked_delete}
use Rattle.esr_core.specs.Turns.{Aborts}
use Rattle.esr_core.specs.After.{cleanup_opened}
use Rattle.esr_core.specs.Tracked.{Tracked}
use Rattle.esr_core.specs.Laws.Maps.{Ops, Deletes}
use Rattle.esr_core.proofs.Naming.{Alike, alike_same, named_from}
use Rattle.esr_core.specs.Laws.DeleteAsks.{Waits, waits, aborts}
use Rattle.esr_core.proofs.AskedDeletes.{unfinal}

-- an op after it
abbrev Became : ℕ → Op → Op → Type 0
Became by old op = (op ≡ old) ⊎ (op ≡ record old { aborted = Some by })

uuid_stays : (by : ℕ) (old op : Op) → Became by old op → old.uuid ≡ op.uuid
uuid_stays by old op (inl e) = ap (λ (y : Op). y.uuid) (sym e)
uuid_stays by old op (inr e) = ap (λ (y : Op). y.uuid) (sym e)

source_stays : (by : ℕ) (old op : Op) → Became by old op → old.source ≡ op.source
source_stays by old op (inl e) = ap (λ (y : Op). y.source) (sym e)
source_stays by old op (inr e) = ap (λ (y : Op). y.source) (sym e)

shards_stay : (by : ℕ) (old op : Op) → Became by old op → old.shards ≡ op.shards
shards_stay by old op (inl e) = ap (λ (y : Op). y.shards) (sym e)
shards_stay by old op (inr e) = ap (λ (y : Op). y.shards) (sym e)

alike_now : (by next : ℕ) (old op : Op) → Became by old op → Alike next old op
alike_now by next old op (inl e) = subst (Alike next old) (sym e) (alike_same next old)
alike_now by next old op (inr e) =
    let a = alike_same next old in subst (Alike next old) (sym e) (record { name = a.name; uuid = a.uuid; indices = a.indices; g = a.g; shards = a.shards; ref = a.ref; number = a.number; done = a.done })

stopped_on : (by : ℕ) (old op : Op) → Became by old op → Stopped old → Stopped op
stopped_on by old op (inl e) h = subst Stopped (sym e) h
stopped_on by old op (inr e) h = subst Stopped (sym e) (elim h [ inl failed ↦ inl failed | inr aborted ↦ inr (by, refl) ])

-- ops of which some are aborted, with other deletes that no ticket of the present term has
module _ (w : World) (l : Tracked w) (now : Ops) (by : ℕ) (a : Aborts w.ops now by)
    (whole : (k : ℕ) (t : Ticket) → fin.get w.tickets k ≡ Some t → t.out ≡ true → t.settled ≡ false → t.term ≡ w.term → IsMaster t.work → fin.get now t.op ≡ fin.get w.ops t.op)
    (deletes : Deletes) (next_op : ℕ) (le : w.next_op ≤ next_op) (below : (d : ℕ) (x : Deletion) → fin.get deletes d ≡ Some x → d < next_op)
    (apart : (o : ℕ) (op : Op) (x : Deletion) → fin.get w.ops o ≡ Some op → fin.get deletes o ≡ Some x → ⊥)
    (taken : (k : ℕ) (t : Ticket) → fin.get w.tickets k ≡ Some t → t.out ≡ true → t.term ≡ w.term → fin.get deletes t.op ≡ fin.get w.deletes t.op)
    (alike : (d : ℕ) (x : Deletion) → d < w.next_op → fin.get deletes d ≡ Some x → (y : Deletion) × (fin.get w.deletes d ≡ Some y) × (x.clean ≡ y.clean)) where
  tracked_aborts : Tracked (record w { ops = now; deletes = deletes; next_op = next_op })
  tracked_aborts =
      record {
        numbers = λ o op e. let (old, there, how) = a.was o op e in let b : o < w.next_op = l.numbers o old there in omega (arith, b, le);
        delete_numbers = below;
        apart = λ o op x e h. let (old, there, how) = a.was o op e in apart o old x there h;
        tickets = l.tickets;
        begun = λ k t e. let b : t.op < w.next_op = l.begun k t e in omega (arith, b, le);
        first_ticket = l.first_ticket;
        shards = λ k t i n e out is.
            let h = l.shards k t i n e out is in
            let (op, there, how) = a.stays t.op h.op h.op_there in
            record {
              op = op;
              op_there = there;
              uuid_is = h.uuid_is ∙ uuid_stays by h.op op how;
              source_is = h.source_is ∙ source_stays by h.op op how;
              s = h.s;
              s_there = subst (λ (ss : List ShardWork). Has ss h.s) (shards_stay by h.op op how) h.s_there;
              state = h.state;
              index_is = h.index_is;
              number_is = h.number_is;
              place_is = h.place_is;
              name_is = h.name_is;
            };
        held = λ o op s k e m state. let (old, there, how) = a.was o op e in l.held o old s k there (subst (λ (ss : List ShardWork). Has ss s) (sym (shards_stay by old op how)) m) state;
        finals = λ k t info rs made e out uns pres is.
            let h = l.finals k t info rs made e out uns pres is in
            record { op = h.op; op_there = whole k t e out uns pres (subst IsMaster (sym is) tt) ∙ h.op_there; done = h.done; goes = h.goes; uuid_is = h.uuid_is; info_is = h.info_is; root_is = h.root_is };
        drops = λ k t e out pres is.
            let d = l.drops k t e out pres is in
            record {
              stopped = λ op there. let (old, was, how) = a.was t.op op there in stopped_on by old op how (d.stopped old was);
              idle = d.idle;
              failed = λ x there. d.failed x (sym (taken k t e out pres) ∙ there);
            };
        deleting = λ k t uuids plan e out uns pres is.
            let h = l.deleting k t uuids plan e out uns pres is in
            record { x = h.x; there = taken k t e out pres ∙ h.there; unfailed = h.unfailed; root_is = h.root_is; planned = h.planned };
        deletions = record {
          modes = λ k t uuids plan e is x at. let (y, was, same) = alike t.op x (l.begun k t e) at in same ∙ l.deletions.modes k t uuids plan e is y was;
          cleaning = λ k t e out pres clean.
              let h = l.deletions.cleaning k t e out pres clean in
              record { x = h.x; there = taken k t e out pres ∙ h.there; cleans = h.cleans; unfailed = h.unfailed; alone = h.alone };
        };
        one_swap = l.one_swap;
        named = named_from w.root w.ops now w.next_id l.named (λ o op e. let (old, there, how) = a.was o op e in (old, there, alike_now by w.next_id old op how));
        in_term = record { from = l.in_term.from; below = l.in_term.below };
      }

-- a new delete or cleanup, which aborts some ops or none
tracked_opens : (w : World) → Tracked w → (now : Ops) → Aborts w.ops now w.next_op
    → ((k : ℕ) (t : Ticket) → fin.get w.tickets k ≡ Some t → t.out ≡ true → t.settled ≡ false → t.term ≡ w.term → IsMaster t.work → fin.get now t.op ≡ fin.get w.ops t.op)
    → (new : Deletion) → Tracked (record w { ops = now; deletes = fin.insert w.deletes w.next_op new; next_op = suc w.next_op })
tracked_opens w l now a whole new =
    tracked_aborts w l now w.next_op a whole
    (fin.insert w.deletes w.next_op new) (suc w.next_op) (omega arith)
    (λ d x there. elim (was_in w.deletes w.next_op new d x there) [ inl z ↦ let same : d ≡ w.next_op = z.0 in omega (arith, same) | inr z ↦ let b : d < w.next_op = l.delete_numbers d x z.1 in omega (arith, b) ])
    (λ o op x there of. elim (was_in w.deletes w.next_op new o x of) [ inl z ↦ let same : o ≡ w.next_op = z.0 in let b : o < w.next_op = l.numbers o op there in absurd (omega (arith, same, b)) | inr z ↦ l.apart o op x there z.1 ])
    (λ k t e out pres. other_in w.deletes w.next_op new t.op (λ same. let b : t.op < w.next_op = l.begun k t e in omega (arith, b, same)))
    (λ d x lt at. elim (was_in w.deletes w.next_op new d x at) [ inl z ↦ absurd (let same : d ≡ w.next_op = z.0 in omega (arith, lt, same)) | inr z ↦ (x, z.1, refl) ])

-- none
pub none_aborted : (ops : Ops) (by : ℕ) → Aborts ops ops by
none_aborted ops by = record { was = λ o op e. (op, e, inl refl); stays = λ o old e. (old, e, inl refl); first = λ o old op b e h a. some_is op old (sym h ∙ e) }
  where
    some_is : (x y : Op) → Some x ≡ Some y → x ≡ y
    some_is x y e = cc

pub tracked_cleanup : (w : World) → Tracked w → Tracked (cleanup_opened w)
tracked_cleanup w l = tracked_opens w l w.ops (none_aborted w.ops w.next_op) (λ k t e out uns pres master. refl) (record { uuids = []; clean = true; failed = false })

module _ (w : World) (l : Tracked w) (names : List Bytes) where
  merged : (d : ℕ) → Waits w d → Tracked (delete_merged w names d (fin.get w.deletes d))
  merged d h =
      let now : Deletion = record h.x { uuids = with_named w h.x.uuids names } in
      subst (λ (x : Option Deletion). Tracked (delete_merged w names d x)) (sym h.there)
      (tracked_aborts w l (aborted_ops w (named_uuids w names) d) d (aborts w (named_uuids w names) d) (unfinal w (named_uuids w names) d)
      (fin.insert w.deletes d now) w.next_op (omega arith)
      (λ e x there. elim (was_in w.deletes d now e x there) [ inl z ↦ subst (λ (n : ℕ). n < w.next_op) (sym z.0) (l.delete_numbers d h.x h.there) | inr z ↦ l.delete_numbers e x z.1 ])
      (λ o op x there of. elim (was_in w.deletes d now o x of) [ inl z ↦ l.apart d op h.x (ap (fin.get w.ops) (sym z.0) ∙ there) h.there | inr z ↦ l.apart o op x there z.1 ])
      (λ k t e out pres. other_in w.deletes d now t.op (h.idle k t e out pres))
      (λ e x lt at. elim (was_in w.deletes d now e x at) [ inl z ↦ (h.x, ap (fin.get w.deletes) z.0 ∙ h.there, ap (λ (y : Deletion). y.clean) (sym z.1)) | inr z ↦ (x, z.1, refl) ]))

  opened : Tracked (delete_by w names None None)
  opened =
      tracked_opens w l (aborted_ops w (named_uuids w names) w.next_op) (aborts w (named_uuids w names) w.next_op) (unfinal w (named_uuids w names) w.next_op) (record { uuids = named_uuids w names; clean = false; failed = false })

  pub tracked_delete : Tracked (asked_delete w names)
  tracked_delete = by (waiting_delete w) (running_delete w (named_uuids w names)) refl
    where
      by : (waiting running : Option ℕ) → waiting_delete w ≡ waiting → Tracked (delete_by w names waiting running)
      by (Some d) running is = merged d (waits w d is)
      by None (Some d) is = l
      by None None is = opened
