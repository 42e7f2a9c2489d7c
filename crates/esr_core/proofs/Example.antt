-- The definitions admit a whole snapshot: step by step, from an empty container to the settle.
use Rattle.std.proofs.Common.{◌≡◌, ◌≢◌, ℕ, suc, ◌+◌, ◌<◌, List, [], ◌∷◌, ◌++◌, true, false, true≢false, Some, None, refl, sym, ap, ◌∙◌, subst, inl, inr, arith, nat_cmp, lit<}
use Rattle.std.specs.Cmp.{nat_cmp_total}
use Rattle.std.specs.Cmp.Lexicographic.{slice_cmp, nat_list_cmp_total}
use Rattle.std.specs.FinMap.{FinMap, nat_cmp-IsAntisymmetric}
use Rattle.std.specs.FinMap as fin
use Rattle.std.proofs.lemmas.Option.{none-some}
use Rattle.esr_model.specs.Names.{BlobName, Root, Latest, Snap, Meta}
use Rattle.esr_model.specs.Values.{Bytes, Has, ReadsBack, Formats}
use Rattle.esr_model.specs.Shelf.{Command, Create}
use Rattle.esr_model.specs.Kept.{first_id}
use Rattle.esr_model.specs.Finalize.{finalized_root}
use Rattle.esr_model.specs.Image.{Image, Blobs, IsStored, global_of}
use Rattle.esr_core.specs.World.{World, Op, Shard, Finalize, Ticket, Deletion, info_of, metadata, shelved_of, record_of, image_of, no_root}
use Rattle.esr_core.specs.Steps.{final_ticket, writing}
use Rattle.esr_core.specs.Past.{entries_by, Repeats}
use Rattle.esr_core.specs.Entry.{Snapshot, GivenFinalize, Step, AskStep, TakeStep, CommitStep, LatestStep, RaiseStep, SettleStep, Reply, Accepted, Gave, WasDone, WasReplaced, RaisedTo, WasSettled, Entry, Moment}
use Rattle.esr_core.specs.After.{taken_by, with_given, committing, settled_of, after}
use Rattle.esr_core.specs.Allowed as allowed
use Rattle.esr_core.specs.Allowed.{latest_text, Allows, HasReady, Commits}
use Rattle.esr_core.specs.History.{IsLegal, AreTold, commands_at, committed, command_of}
use Rattle.esr_core.specs.Example.{begun, bare_op, CanWrite, HasSnapshot}
use Rattle.esr_core.specs.Laws.BlobFrames.{text_one}
use Rattle.esr_core.specs.Laws.Maps.{get_same, get_other, get_was, texts_same, nothing}

-- a history that goes on to a world, with its commands
record Runs (f : Formats) (size : ℕ) (w : World) (cs : List Command) : Type 0 where
  log : List Moment
  legal : IsLegal f size w log
  told : AreTold log
  commands : committed f 1 w log ≡ cs

abbrev shown : Formats → ℕ → Step → Reply → World → Moment
shown f who step reply next = record { entry = record { who = who; step = step; reply = reply }; image = Some (image_of f next) }

-- none of the entries is of the step
abbrev AreOthers : List Entry → Step → Type 0
AreOthers [] step = Unit {0}
AreOthers (e ∷ entries) step = (Repeats e.step step → ⊥) × AreOthers entries step

others_new : (entries : List Entry) (step : Step) → AreOthers entries step → (e : Entry) → Has entries e → Repeats e.step step → ⊥
others_new [] step h e m r = absurd m
others_new (x ∷ entries) step h e (inl same) r = h.0 (subst (λ (y : Entry). Repeats y.step step) (sym same) r)
others_new (x ∷ entries) step h e (inr m) r = others_new entries step h.1 e m r

-- a step more at the beginning
goes : (f : Formats) (size : ℕ) (w next : World) (who : ℕ) (step : Step) (reply : Reply) (cs : List Command) → ((p : ℕ) (q : Op) → fin.get w.ops p ≡ Some q → q.aborted ≡ None) → AreOthers (entries_by w.entries who) step
    → w.deposed ≡ false → Allows f size w who step reply (Some (image_of f next)) → after f w (shown f who step reply next) ≡ next
    → ReadsBack f.cluster (record_of next) → (mine : List Command) → commands_at f 1 w who step reply ≡ mine → Runs f size next cs → Runs f size w (mine ++ cs)
goes f size w next who step reply cs clear new alive allows e back mine is rest =
    record {
      log = shown f who step reply next ∷ rest.log;
      legal = (
        record {
          answered = inl (alive, allows);
          aborted = λ by d a. absurd (none-some by (sym (clear a.t.op a.op a.op_there) ∙ a.by_is));
          once = λ d. others_new (entries_by w.entries who) step new;
          record_back = subst (λ x. ReadsBack f.cluster (record_of x)) (sym e) back;
          text = λ image same. text image same;
        },
        subst (λ x. IsLegal f size x rest.log) (sym e) rest.legal,
      );
      told = ((image_of f next, refl), rest.told);
      commands = λ j. is j ++ (ap (λ x. committed f 1 x rest.log) e ∙ rest.commands) j;
    }
  where
    text : (image : Image) → Some (image_of f next) ≡ Some image → image.text ≡ Some (f.cluster.text (record_of (after f w (shown f who step reply next))))
    text image same = ap (λ (x : Image). x.text) (sym (one _ _ same)) ∙ ap (λ x. Some (f.cluster.text (record_of x))) (sym e)
      where
        one : (a b : Image) → Some a ≡ Some b → a ≡ b
        one a b h = cc

module _ (f : Formats) (size : ℕ) (name : Bytes) (moment : ℕ) (can : CanWrite f name moment) where
  abbrev op : Op
  op = bare_op name moment

  abbrev ops : FinMap nat_cmp Op
  ops = fin.insert fin.empty 1 op

  op_there : fin.get ops 1 ≡ Some op
  op_there = get_same nat_cmp_total nat_cmp-IsAntisymmetric fin.empty 1 op

  only_op : (p : ℕ) (q : Op) → fin.get ops p ≡ Some q → p ≡ 1
  only_op p q e = elim (get_was nat_cmp_total nat_cmp-IsAntisymmetric fin.empty 1 op p q e) [ inl h ↦ h.0 | inr h ↦ absurd (nothing p q h.1) ]

  abbrev uuid : ℕ
  uuid = first_id 1

  -- what is asked and answered
  abbrev e1 : Entry
  e1 = record { who = 0; step = AskStep (Snapshot name [] moment); reply = Accepted 1 }

  abbrev e2 : Entry
  e2 = record { who = 0; step = TakeStep; reply = Gave 1 1 (GivenFinalize (info_of op []) []) }

  abbrev e3 : Entry
  e3 = record { who = 1; step = CommitStep (Snap uuid); reply = WasDone }

  abbrev e4 : Entry
  e4 = record { who = 1; step = CommitStep (Meta uuid); reply = WasDone }

  abbrev e5 : Entry
  e5 = record { who = 1; step = RaiseStep; reply = RaisedTo 0 }

  abbrev e6 : Entry
  e6 = record { who = 1; step = CommitStep (Root 0); reply = WasDone }

  abbrev e7 : Entry
  e7 = record { who = 1; step = LatestStep; reply = WasReplaced }

  abbrev e8 : Entry
  e8 = record { who = 1; step = SettleStep; reply = WasSettled }

  -- no op is aborted
  clear : (p : ℕ) (q : Op) → fin.get ops p ≡ Some q → q.aborted ≡ None
  clear p q e = elim (get_was nat_cmp_total nat_cmp-IsAntisymmetric fin.empty 1 op p q e) [ inl h ↦ ap (λ (x : Op). x.aborted) (sym h.1) | inr h ↦ absurd (nothing p q h.1) ]

  -- asked
  abbrev w1 : World
  w1 = record begun { ops = fin.insert fin.empty 1 op; next_op = 2; completed = 1 ∷ []; next_id = suc (first_id 1); entries = e1 ∷ [] }

  abbrev t2 : Ticket
  t2 = final_ticket f w1 1 op []

  -- taken
  abbrev w2 : World
  w2 = record w1 { tickets = fin.insert fin.empty 1 t2; next_ticket = 2; entries = e2 ∷ w1.entries }

  abbrev snap_text : Bytes
  snap_text = f.info.text (info_of op [])

  abbrev meta_text : Bytes
  meta_text = f.global.text (global_of (info_of op []))

  abbrev t3 : Ticket
  t3 = writing t2 (Snap uuid) snap_text

  abbrev b3 : Blobs
  b3 = fin.insert fin.empty (f.names.text (Snap uuid)) snap_text

  abbrev w3 : World
  w3 = record w2 { blobs = b3; tickets = fin.insert w2.tickets 1 t3; entries = e3 ∷ w2.entries }

  abbrev t4 : Ticket
  t4 = writing t3 (Meta uuid) meta_text

  abbrev b4 : Blobs
  b4 = fin.insert b3 (f.names.text (Meta uuid)) meta_text

  abbrev w4 : World
  w4 = record w3 { blobs = b4; tickets = fin.insert w3.tickets 1 t4; entries = e4 ∷ w3.entries }

  -- raised
  abbrev t5 : Ticket
  t5 = record t4 { raised = Some 0 }

  abbrev w5 : World
  w5 = record w4 { pending = 1; tickets = fin.insert w4.tickets 1 t5; entries = e5 ∷ w4.entries }

  abbrev root_text : Bytes
  root_text = f.root.text (finalized_root no_root (info_of op []) [])

  abbrev t6 : Ticket
  t6 = writing t5 (Root 0) root_text

  abbrev b6 : Blobs
  b6 = fin.insert b4 (f.names.text (Root 0)) root_text

  abbrev w6 : World
  w6 = record w5 { blobs = b6; tickets = fin.insert w5.tickets 1 t6; entries = e6 ∷ w5.entries }

  abbrev t7 : Ticket
  t7 = record t6 { tried_latest = true }

  abbrev w7 : World
  w7 = record w6 { blobs = fin.insert b6 (f.names.text Latest) (latest_text 0); tickets = fin.insert w6.tickets 1 t7; entries = e7 ∷ w6.entries }

  abbrev t8 : Ticket
  t8 = record t7 { settled = true }

  -- settled
  abbrev w8 : World
  w8 = record w7 { safe = 1; root = finalized_root no_root (info_of op []) []; ops = fin.remove w7.ops 1; deletes = fin.remove fin.empty 1; tickets = fin.insert w7.tickets 1 t8; entries = e8 ∷ w7.entries }

  got : (m : FinMap nat_cmp Ticket) (t : Ticket) → fin.get (fin.insert m 1 t) 1 ≡ Some t
  got m t = get_same nat_cmp_total nat_cmp-IsAntisymmetric m 1 t

  -- a name that was not put is free
  free : (a b : BlobName) → IsStored f a → IsStored f b → a ≢ b → (m : Blobs) (bytes : Bytes) → fin.get m (f.names.text b) ≡ None → fin.get (fin.insert m (f.names.text a) bytes) (f.names.text b) ≡ None
  free a b sa sb apart m bytes none = get_other nat_list_cmp_total texts_same m (f.names.text a) bytes (f.names.text b) (λ e. apart (sym (text_one f b a sb.0 sa.0 e))) ∙ none

  nothing_there : (text : Bytes) → fin.get (fin.empty {X = Bytes} {R = slice_cmp nat_cmp}) text ≡ None
  nothing_there text = fin.get-empty (slice_cmp nat_cmp) text

  none_before : (p : ℕ) → p < 1 → HasReady w1 p → ⊥
  none_before p below (inl h) = let e : p ≡ 1 = only_op p h.0 h.2.op_there in omega (arith, below, e)
  none_before p below (inr (inl h)) = let e : p ≡ 1 = only_op p h.0 h.2.op_there in omega (arith, below, e)
  none_before p below (inr (inr (inl h))) = elim h.stopped [
    | inl z ↦ let e : p ≡ 1 = only_op p z.0 z.1 in omega (arith, below, e)
    | inr z ↦ nothing p z.0 z.1
  ]
  none_before p below (inr (inr (inr (inl h)))) = elim h.1 [ inl z ↦ nothing p h.0 z.there | inr z ↦ nothing p h.0 z.there ]
  none_before p below (inr (inr (inr (inr h)))) = nothing p h.0 h.2.there

  -- what the ticket has noted
  both_noted : (t : Ticket) → Has t.noted (Snap uuid) → Has t.noted (Meta uuid) → (n : BlobName) (b : Bytes) → Has (metadata f (info_of op [])) (n, b) → Has t.noted n
  both_noted t s m n b (inl e) = subst (Has t.noted) (ap (λ (p : BlobName × Bytes). p.0) e) s
  both_noted t s m n b (inr (inl e)) = subst (Has t.noted) (ap (λ (p : BlobName × Bytes). p.0) e) m
  both_noted t s m n b (inr (inr h)) = absurd h

  -- its work is none of a shard
  not_shard : (i n : ℕ) → Finalize (info_of op []) [] (Create (shelved_of f fin.empty op)) ≡ Shard i n → ⊥
  not_shard i n e = cc

  abbrev commit3 : Commits f size w2 1 (Snap uuid)
  commit3 = record {
    t = t2;
    out = record { there = got fin.empty t2; out = refl };
    unsettled = refl;
    bytes = snap_text;
    named = can.snap;
    may = inl (record { root = finalized_root no_root (info_of op []) []; own = metadata f (info_of op []); commands = Create (shelved_of f fin.empty op) ∷ [] }, refl, inl (inl refl));
    numbered = λ i n e. absurd (not_shard i n e);
    late = λ c. absurd (true≢false (sym c));
  }

  abbrev commit4 : Commits f size w3 1 (Meta uuid)
  commit4 = record {
    t = t3;
    out = record { there = got w2.tickets t3; out = refl };
    unsettled = refl;
    bytes = meta_text;
    named = can.meta;
    may = inl (record { root = finalized_root no_root (info_of op []) []; own = metadata f (info_of op []); commands = Create (shelved_of f fin.empty op) ∷ [] }, refl, inl (inr (inl refl)));
    numbered = λ i n e. absurd (not_shard i n e);
    late = λ c. absurd (true≢false (sym c));
  }

  abbrev commit6 : Commits f size w5 1 (Root 0)
  commit6 =
      record {
        t = t5;
        out = record { there = got w4.tickets t5; out = refl };
        unsettled = refl;
        bytes = root_text;
        named = can.root;
        may = inl (
          record { root = finalized_root no_root (info_of op []) []; own = metadata f (info_of op []); commands = Create (shelved_of f fin.empty op) ∷ [] },
          refl,
          inr (0, refl, record { unsettled = refl; raised = refl; text = refl; ready = both_noted t5 (inr (inl refl)) (inl refl) }),
        );
        numbered = λ i n e. absurd (not_shard i n e);
        late = λ c. absurd (true≢false (sym c));
      }

  told : (m : Blobs) (n : BlobName) (bytes : Bytes) → fin.get (fin.insert m (f.names.text n) bytes) (f.names.text n) ≡ Some bytes
  told m n bytes = get_same nat_list_cmp_total texts_same m (f.names.text n) bytes

  step8 : Runs f size w7 (Create (shelved_of f fin.empty op) ∷ [])
  step8 = goes f size w7 w8 1 SettleStep WasSettled [] clear (λ r. r, (λ r. r, (λ r. r, (λ r. r, (λ r. r, tt))))) refl
      (allowed.Settling 1 _ (record {
        t = t7;
        s = record { root = finalized_root no_root (info_of op []) []; own = metadata f (info_of op []); commands = Create (shelved_of f fin.empty op) ∷ [] };
        n = 0;
        may = record { out = record { there = got w6.tickets t7; out = refl }; is = refl; unsettled = refl; raised = refl; written = inl refl; ready = both_noted t7 (inr (inr (inl refl))) (inr (inl refl)); tried = refl };
        present = refl;
        info = info_of op [];
        results = [];
        made = Create (shelved_of f fin.empty op);
        work = refl;
      }) refl)
      (λ j. record (settled_of f w7 1 (got w6.tickets t7 j)) { blobs = w7.blobs; entries = e8 ∷ w7.entries })
      can.settled_record (Create (shelved_of f fin.empty op) ∷ []) (ap (command_of f 1) (got w6.tickets t7))
      (record { log = []; legal = tt; told = tt; commands = refl })

  step7 : Runs f size w6 (Create (shelved_of f fin.empty op) ∷ [])
  step7 = goes f size w6 w7 1 LatestStep WasReplaced _ clear (λ r. r, (λ r. r, (λ r. r, (λ r. r, tt)))) refl
      (allowed.Replacing 1 _ (record {
        t = t6;
        out = record { there = got w5.tickets t6; out = refl };
        s = record { root = finalized_root no_root (info_of op []) []; own = metadata f (info_of op []); commands = Create (shelved_of f fin.empty op) ∷ [] };
        is = refl;
        unsettled = refl;
        n = 0;
        raised = refl;
        written = inl refl;
      }) can.latest refl)
      (λ j. record (with_given w6 1 (λ (t : Ticket). record t { tried_latest = true }) (got w5.tickets t6 j)) { blobs = w7.blobs; entries = e7 ∷ w6.entries })
      can.raised_record [] refl step8

  step6 : Runs f size w5 (Create (shelved_of f fin.empty op) ∷ [])
  step6 = goes f size w5 w6 1 (CommitStep (Root 0)) WasDone _ clear (λ r. r, (λ r. cc, (λ r. cc, tt))) refl
      (allowed.Committing 1 (Root 0) _ commit6 (
        free (Meta uuid) (Root 0) can.meta can.root (λ e. cc) b3 meta_text (free (Snap uuid) (Root 0) can.snap can.root (λ e. cc) fin.empty snap_text (nothing_there (f.names.text (Root 0)))),
        refl,
      ))
      (λ j. record (with_given w5 1 (committing (Root 0) (told b4 (Root 0) root_text j)) (got w4.tickets t5 j)) { blobs = b6; entries = e6 ∷ w5.entries })
      can.raised_record [] refl step7

  step5 : Runs f size w4 (Create (shelved_of f fin.empty op) ∷ [])
  step5 = goes f size w4 w5 1 RaiseStep (RaisedTo 0) _ clear (λ r. r, (λ r. r, tt)) refl
      (allowed.Raising 1 0 _ (record {
        may = record {
          t = t4;
          out = record { there = got w3.tickets t4; out = refl };
          s = record { root = finalized_root no_root (info_of op []) []; own = metadata f (info_of op []); commands = Create (shelved_of f fin.empty op) ∷ [] };
          is = refl;
          unsettled = refl;
          once = refl;
        };
        present = refl;
        n_is = refl;
        room = lit< tt;
      }) refl)
      (λ j. record (record (with_given w4 1 (λ (t : Ticket). record t { raised = Some 0 }) (got w3.tickets t4 j)) { pending = 1 }) { blobs = b4; entries = e5 ∷ w4.entries })
      can.raised_record [] refl step6

  step4 : Runs f size w3 (Create (shelved_of f fin.empty op) ∷ [])
  step4 = goes f size w3 w4 1 (CommitStep (Meta uuid)) WasDone _ clear (λ r. cc, tt) refl
      (allowed.Committing 1 (Meta uuid) _ commit4 (free (Snap uuid) (Meta uuid) can.snap can.meta (λ e. cc) fin.empty snap_text (nothing_there (f.names.text (Meta uuid))), refl))
      (λ j. record (with_given w3 1 (committing (Meta uuid) (told b3 (Meta uuid) meta_text j)) (got w2.tickets t3 j)) { blobs = b4; entries = e4 ∷ w3.entries })
      can.open_record [] refl step5

  step3 : Runs f size w2 (Create (shelved_of f fin.empty op) ∷ [])
  step3 = goes f size w2 w3 1 (CommitStep (Snap uuid)) WasDone _ clear tt refl
      (allowed.Committing 1 (Snap uuid) _ commit3 (nothing_there (f.names.text (Snap uuid)), refl))
      (λ j. record (with_given w2 1 (committing (Snap uuid) (told fin.empty (Snap uuid) snap_text j)) (got fin.empty t2 j)) { blobs = b3; entries = e3 ∷ w2.entries })
      can.open_record [] refl step4

  step2 : Runs f size w1 (Create (shelved_of f fin.empty op) ∷ [])
  step2 = goes f size w1 w2 0 TakeStep (Gave 1 1 (GivenFinalize (info_of op []) [])) _ clear tt refl
      (allowed.Giving 1 1 (GivenFinalize (info_of op []) []) _ refl none_before
      (record {
        op = op;
        ready = record {
          op_there = op_there;
          done = tt;
          goes = record { unfailed = refl; unaborted = refl };
          no_barrier = λ b. nothing b.number b.deletion b.there;
          no_swap = λ k h. nothing k h.t h.there;
          earliest = λ p q e g nb before. before.0 refl;
        };
        info_is = refl;
        root_back = can.root_back;
      }) refl)
      (λ j. record (taken_by f w1 1 (GivenFinalize (info_of op []) []) (op_there j)) { blobs = w1.blobs; entries = e2 ∷ w1.entries })
      can.open_record [] refl step3

  step1 : Runs f size begun (Create (shelved_of f fin.empty op) ∷ [])
  step1 = goes f size begun w1 0 (AskStep (Snapshot name [] moment)) (Accepted 1) _ (λ p q e. absurd (nothing p q e)) tt refl
      (allowed.Accepting name [] moment 1 _ (record {
        number = refl;
        distinct = tt;
        no_cleanup = λ d x e. absurd (nothing d x e);
        unused = λ u h. elim h [ inl z ↦ z.1 | inr z ↦ nothing z.0 z.1 z.2 ];
        room = few;
        fits = lit< tt;
        texts = can.texts;
      }) refl)
      refl can.open_record [] refl step2
    where
      few : fin.len (fin.empty {X = Op} {R = nat_cmp}) + fin.len (fin.empty {X = Deletion} {R = nat_cmp}) < 1000
      few = let a : fin.len (fin.empty {X = Op} {R = nat_cmp}) ≡ 0 = fin.len-empty nat_cmp Op in let b : fin.len (fin.empty {X = Deletion} {R = nat_cmp}) ≡ 0 = fin.len-empty nat_cmp Deletion in omega (arith, a, b)

  pub a_snapshot : HasSnapshot f size name
  a_snapshot = let r = step1 in record { log = r.log; legal = r.legal; told = r.told; command = r.commands }
