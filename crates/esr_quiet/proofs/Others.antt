-- A step leaves all tickets but its own; a take leaves all but the one that it gives.
use Rattle.std.proofs.Common.{◌≡◌, ◌≢◌, ℕ, List, [], ◌∷◌, ◌++◌, Option, Some, None, refl, sym, ap, ◌∙◌, subst}
use Rattle.std.specs.FinMap as fin
use Rattle.esr_model.specs.Values.{Formats}
use Rattle.esr_model.specs.Image.{Image}
use Rattle.esr_core.specs.World.{World, Op, ShardWork, Ticket, RestoreShard, Restoring}
use Rattle.esr_core.specs.Restores.{restore_shard}
use Rattle.esr_core.specs.Entry.{Given, GivenShard, GivenFinalize, GivenRestore, GivenClone, Step, TakeStep, DepotFault, Reply, Gave, Refused, Moment}
use Rattle.esr_core.specs.After.{taken_shard, taken_restore_shard, taken_restore, taken_by, shard_of, answered, after}
use Rattle.esr_core.specs.Allowed.{Allowed}
use Rattle.esr_core.specs.Changes.{StepChange, NewTicket, OwnTicket, Settlement, UnitEnd, DeletionFailure, OpDrop, SwapFault}
use Rattle.esr_core.specs.History.{world_from, IsLegal}
use Rattle.esr_core.specs.Laws.TakeAnswers.{take_gave}
use Rattle.esr_core.specs.Laws.ChangeLaws.{change_of}
use Rattle.esr_desk.specs.Start.{Start, Legal, formats_of, or_no_ticket, ticket_of}
use Rattle.esr_desk.specs.Grew.{AllOf}
use Rattle.esr_core.specs.Laws.NumberMaps.{other_in}
use Rattle.esr_core.specs.Laws.Histories.{world_parts}
use Rattle.esr_quiet.specs.PrefixLaws.{legal_rest}
use Rattle.esr_quiet.proofs.Alone.{IsTake}

abbrev held : World → ℕ → Option Ticket
held w q = fin.get w.tickets q

-- it gives no unit
abbrev pub GivesNone : Reply → Type 0
GivesNone reply = (ticket op : ℕ) (unit : Given) → reply ≢ Gave ticket op unit

-- ---- a take

others_shard : (w : World) (o : ℕ) (op : Op) (base : Option ℕ) (s : Option ShardWork) (q : ℕ) → q ≢ w.next_ticket → held (taken_shard w o op base s) q ≡ held w q
others_shard w o op base None q apart = refl
others_shard w o op base (Some s) q apart = other_in w.tickets w.next_ticket _ q apart

others_restore_shard : (w : World) (o : ℕ) (r : Restoring) (s : Option RestoreShard) (q : ℕ) → held (taken_restore_shard w o r s) q ≡ held w q
others_restore_shard w o r None q = refl
others_restore_shard w o r (Some s) q = refl

others_restore : (w : World) (o index number : ℕ) (r : Option Restoring) (q : ℕ) → held (taken_restore w o index number r) q ≡ held w q
others_restore w o index number None q = refl
others_restore w o index number (Some r) q = others_restore_shard w o r (restore_shard r.shards index number) q

others_taken : (f : Formats) (w : World) (o : ℕ) (unit : Given) (op : Option Op) (q : ℕ) → q ≢ w.next_ticket → held (taken_by f w o unit op) q ≡ held w q
others_taken f w o (GivenShard index number base) (Some op) q apart = others_shard w o op base (shard_of op.shards index number) q apart
others_taken f w o (GivenShard index number base) None q apart = refl
others_taken f w o (GivenClone index number source base) (Some op) q apart = others_shard w o op base (shard_of op.shards index number) q apart
others_taken f w o (GivenClone index number source base) None q apart = refl
others_taken f w o (GivenFinalize info results) None q apart = refl
others_taken f w o (GivenRestore index number uuid) op q apart = others_restore w o index number (fin.get w.restores o) q
others_taken f w o unit op q apart = other_in w.tickets w.next_ticket _ q apart

-- that gives none
take_leaves : (f : Formats) (w : World) (k : ℕ) (reply : Reply) (image : Option Image) (q : ℕ) → GivesNone reply → held (answered f w k TakeStep reply image) q ≡ held w q
take_leaves f w k (Gave ticket op unit) image q none = absurd (none ticket op unit refl)
take_leaves f w k (Refused DepotFault) image q none = refl
take_leaves f w k reply image q none = refl

-- ---- each step

module _ (f : Formats) (w : World) (k : ℕ) (step : Step) (no_take : IsTake step → ⊥) (q : ℕ) (apart : q ≢ k) where
  kept : (new : World) → StepChange f w k step new → held new q ≡ held w q
  kept new (NewTicket take t is ops same) = absurd (no_take (subst IsTake (sym take) tt))
  kept new (OwnTicket t v there unit settled next_id pending id_above above) = other_in w.tickets k v q apart
  kept new (Settlement is t s n names deletes there swapped raised left) = other_in w.tickets k _ q apart
  kept new (UnitEnd t op v completed there op_there same) = other_in w.tickets k _ q apart
  kept new (DeletionFailure t x there found) = other_in w.tickets k _ q apart
  kept new (OpDrop is t there) = other_in w.tickets k _ q apart
  kept new (SwapFault swaps up change) = kept up change
  kept new other = refl

others_answered : (f : Formats) (w : World) (k : ℕ) (step : Step) (reply : Reply) (image : Option Image) (q : ℕ) → q ≢ k → GivesNone reply → held (answered f w k step reply image) q ≡ held w q
others_answered f w k TakeStep reply image q apart none = take_leaves f w k reply image q none
others_answered f w k step reply image q apart none = kept f w k step (λ x. x) q apart (answered f w k step reply image) (change_of f w k step reply image)

others_after : (f : Formats) (w : World) (m : Moment) (q : ℕ) → q ≢ m.entry.who → GivesNone m.entry.reply → held (after f w m) q ≡ held w q
others_after f w m q apart none = others_answered f w m.entry.who m.entry.step m.entry.reply m.image q apart none

-- ---- which step gives

-- a ticket that is given is the next one, and nobody's step gave it
pub given_by : (f : Formats) (size : ℕ) (w : World) (m : Moment) → Allowed f size w m → (ticket op : ℕ) (unit : Given) → m.entry.reply ≡ Gave ticket op unit → (m.entry.who ≡ 0) × (ticket ≡ w.next_ticket)
given_by f size w m a ticket op unit is = let g = take_gave f size w m ticket op unit a is in (g.who_is, g.number)

-- ---- histories

others_stay : (f : Formats) (size : ℕ) (more : List Moment) (w : World) (who k : ℕ) → IsLegal f size w more → AllOf who more → who ≢ 0 → k ≢ who → held (world_from f w more) k ≡ held w k
others_stay f size [] w who k legal own ticket apart = refl
others_stay f size (m ∷ more) w who k legal own ticket apart =
    others_stay f size more (after f w m) who k legal.1 own.1 ticket apart
    ∙ others_after f w m k (λ e. apart (e ∙ own.0)) (λ given op unit e. ticket (sym own.0 ∙ (given_by f size w m legal.0 given op unit e).0))

module _ (s : Start) where
  abbrev f : Formats
  f = formats_of s

  goes_on : (log more : List Moment) (k : ℕ) → held (world_from f (world_from f s.world log) more) k ≡ held (world_from f s.world log) k → ticket_of s (log ++ more) k ≡ ticket_of s log k
  goes_on log more k same = ap or_no_ticket (ap (λ (w : World). held w k) (world_parts f log more s.world) ∙ same)

  pub steps_stay : (log more : List Moment) (who k : ℕ) → Legal s (log ++ more) → AllOf who more → who ≢ 0 → k ≢ who → ticket_of s (log ++ more) k ≡ ticket_of s log k
  steps_stay log more who k legal own ticket apart = goes_on log more k (others_stay f s.part_size more (world_from f s.world log) who k (legal_rest f s.part_size log more s.world legal) own ticket apart)

  pub gift_stays : (log : List Moment) (m : Moment) (ticket op : ℕ) (unit : Given) (k : ℕ) → Legal s (log ++ m ∷ []) → m.entry.step ≡ TakeStep → m.entry.reply ≡ Gave ticket op unit → k ≢ ticket
      → ticket_of s (log ++ m ∷ []) k ≡ ticket_of s log k
  gift_stays log m ticket op unit k legal step reply apart =
      let w : World = world_from f s.world log in
      let is : (m.entry.who ≡ 0) × (ticket ≡ w.next_ticket) = given_by f s.part_size w m (legal_rest f s.part_size log (m ∷ []) s.world legal).0 ticket op unit reply in
      let now : held (answered f w m.entry.who m.entry.step m.entry.reply m.image) k ≡ held (taken_by f w op unit (fin.get w.ops op)) k =
      (λ j. held (answered f w m.entry.who (step j) (reply j) m.image) k) in
      goes_on log (m ∷ []) k (now ∙ others_taken f w op unit (fin.get w.ops op) k (λ e. apart (e ∙ sym is.1)))

  pub nothing_stays : (log : List Moment) (m : Moment) (k : ℕ) → Legal s (log ++ m ∷ []) → m.entry.who ≡ 0 → GivesNone m.entry.reply → k ≢ 0 → ticket_of s (log ++ m ∷ []) k ≡ ticket_of s log k
  nothing_stays log m k legal nobody none apart = goes_on log (m ∷ []) k (others_after f (world_from f s.world log) m k (λ e. apart (e ∙ nobody)) none)
