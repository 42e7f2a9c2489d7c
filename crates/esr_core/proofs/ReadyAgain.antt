-- While no ticket is out, readiness goes by the open ops alone: elections and what who 0 reads make nothing ready.
use Rattle.std.proofs.Common.{◌≡◌, ℕ, Bool, true, false, Option, Some, None, refl, sym, ap, ◌∙◌, subst, inl, inr}
use Rattle.std.specs.Prelude.{if◌then◌else◌}
use Rattle.std.specs.FinMap as fin
use Rattle.esr_model.specs.Names.{BlobName}
use Rattle.esr_model.specs.Values.{Bytes, Formats}
use Rattle.esr_model.specs.Image.{Image}
use Rattle.esr_core.specs.World.{World, record_of}
use Rattle.esr_core.specs.Ready.{Barrier, Before, AnyReady, AShard, AFinalize, ADrop, ADelete, ACleanup, ARestore, NoTicketOut, SameWork, LeavesWork}
use Rattle.esr_core.specs.Entry.{Read, DrawTest, CommitTest, Step, ElectStep, LookStep, ReadStep, DepotFault, HasEnded, Reply, DrawnFrom, WasDone, Refused, Moment}
use Rattle.esr_core.specs.After.{done_step, has_text, told_blob, test_left, read_by, faulted, answered, after}

barrier_was : (w v : World) → SameWork w v → (o : ℕ) → Barrier w.deletes o → Barrier v.deletes o
barrier_was w v s o b = record { number = b.number; deletion = b.deletion; there = ap (λ m. fin.get m b.number) s.deletes ∙ b.there; before = b.before }

-- what is ready in v is ready in w
pub ready_again : (w v : World) → SameWork w v → NoTicketOut w → AnyReady v → AnyReady w
ready_again w v s none (AShard o op z r) =
    AShard o op z (record {
      op_there = ap (λ m. fin.get m o) (sym s.ops) ∙ r.op_there;
      s_there = r.s_there;
      pending = r.pending;
      goes = r.goes;
      no_barrier = λ b. r.no_barrier (barrier_was w v s o b);
      first = λ p q y lt there m i n. r.first p q y lt (ap (λ x. fin.get x p) s.ops ∙ there) m i n;
      unread = λ p x y lt there m i n. r.unread p x y lt (ap (λ c. fin.get c p) s.restores ∙ there) m i n;
    })
ready_again w v s none (AFinalize o op results r) =
    AFinalize o op results (record {
      op_there = ap (λ m. fin.get m o) (sym s.ops) ∙ r.op_there;
      done = r.done;
      goes = r.goes;
      no_barrier = λ b. r.no_barrier (barrier_was w v s o b);
      no_swap = λ k h. none.tickets k h.t h.there h.out;
      earliest = λ p q there goes free before. r.earliest p q (ap (λ x. fin.get x p) s.ops ∙ there) goes
          (λ b. free (record { number = b.number; deletion = b.deletion; there = ap (λ m. fin.get m b.number) (sym s.deletes) ∙ b.there; before = b.before }))
          (subst (λ c. Before c p o) (sym s.completed) before);
    })
ready_again w v s none (ADrop o r) =
    ADrop o (record {
      stopped = elim r.stopped [ inl h ↦ inl (h.0, ap (λ m. fin.get m o) (sym s.ops) ∙ h.1, h.2) | inr h ↦ inr (h.0, ap (λ m. fin.get m o) (sym s.deletes) ∙ h.1, h.2) ];
      idle = λ k h. none.tickets k h.t h.there h.out;
    })
ready_again w v s none (ADelete d x r) =
    ADelete d x (record {
      there = ap (λ m. fin.get m d) (sym s.deletes) ∙ r.there;
      unfailed = r.unfailed;
      deletes = r.deletes;
      first = λ p q lt there. r.first p q lt (ap (λ m. fin.get m p) s.ops ∙ there);
      first_delete = λ b. r.first_delete (barrier_was w v s d b);
      no_swap = λ k h. none.tickets k h.t h.there h.out;
    })
ready_again w v s none (ACleanup d x r) =
    ACleanup d x (record {
      there = ap (λ m. fin.get m d) (sym s.deletes) ∙ r.there;
      unfailed = r.unfailed;
      cleans = r.cleans;
      no_op = λ o op there. r.no_op o op (ap (λ m. fin.get m o) s.ops ∙ there);
      no_other = λ e y there. r.no_other e y (ap (λ m. fin.get m e) s.deletes ∙ there);
      no_ticket = λ k t there out. none.tickets k t there out;
    })
ready_again w v s none (ARestore o x z r) = ARestore o x z (record { there = ap (λ m. fin.get m o) (sym s.restores) ∙ r.there; s_there = r.s_there; unread = r.unread })

-- ---- what who 0 leaves of it

same_work : (w : World) → SameWork w w
same_work w = record { ops = refl; deletes = refl; completed = refl; restores = refl }

same_left : (w : World) (name : BlobName) (was now : Option Bytes) → SameWork w (test_left w name was now)
same_left w name None (Some bytes) = record { ops = refl; deletes = refl; completed = refl; restores = refl }
same_left w name was now = same_work w

module _ (f : Formats) (w : World) where
  same_elected : (reply : Reply) (image : Option Image) → SameWork w (done_step f w 0 ElectStep reply image)
  same_elected reply image = record { ops = refl; deletes = refl; completed = refl; restores = refl }

  same_fallen : (b : Bool) (up : World) → SameWork w up → SameWork w (record (if b then up else w) { deposed = true })
  same_fallen true up s = record { ops = s.ops; deletes = s.deletes; completed = s.completed; restores = s.restores }
  same_fallen false up s = record { ops = refl; deletes = refl; completed = refl; restores = refl }

  same_read : (read : Read) (reply : Reply) (image : Option Image) → SameWork w (read_by f w 0 read reply image)
  same_read DrawTest (DrawnFrom first) image = record { ops = refl; deletes = refl; completed = refl; restores = refl }
  same_read (CommitTest name) WasDone image = record { ops = refl; deletes = refl; completed = refl; restores = refl }
  same_read read reply image = same_work w

  same_faulted : (step : Step) (image : Option Image) → LeavesWork step → SameWork w (faulted f w 0 step image)
  same_faulted ElectStep image h =
      let up : World = done_step f w 0 ElectStep HasEnded image in same_fallen (has_text image (f.cluster.text (record_of up))) up (same_elected HasEnded image)
  same_faulted LookStep image h = same_work w
  same_faulted (ReadStep (CommitTest name)) image h = same_left w name (fin.get w.blobs (f.names.text name)) (told_blob f image name)
  same_faulted (ReadStep read) image h = same_work w
  same_faulted step image h = absurd h

  same_done : (step : Step) (reply : Reply) (image : Option Image) → LeavesWork step → SameWork w (done_step f w 0 step reply image)
  same_done ElectStep reply image h = same_elected reply image
  same_done LookStep reply image h = same_work w
  same_done (ReadStep read) reply image h = same_read read reply image
  same_done step reply image h = absurd h

  same_answered : (step : Step) (reply : Reply) (image : Option Image) → LeavesWork step → SameWork w (answered f w 0 step reply image)
  same_answered step (Refused DepotFault) image h = same_faulted step image h
  same_answered step (Refused refusal) image h = same_work w
  same_answered step reply image h = same_done step reply image h

  pub client_leaves : (m : Moment) → m.entry.who ≡ 0 → LeavesWork m.entry.step → SameWork w (after f w m)
  client_leaves m who h =
      let s : SameWork w (answered f w m.entry.who m.entry.step m.entry.reply m.image) =
      subst (λ k. SameWork w (answered f w k m.entry.step m.entry.reply m.image)) (sym who) (same_answered m.entry.step m.entry.reply m.image h) in
      record { ops = s.ops; deletes = s.deletes; completed = s.completed; restores = s.restores }
