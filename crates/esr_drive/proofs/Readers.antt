-- No number is that of a restore's ticket and of another unit's, so the number of a unit that has ended is over.
use Rattle.std.proofs.Common.{◌≡◌, ℕ, ◌<◌, true, false, true≢false, List, Option, Some, None, refl, sym, ap}
use Rattle.std.specs.FinMap as fin
use Rattle.esr_model.specs.Values.{Formats}
use Rattle.esr_core.specs.World.{World, Reader, Ticket}
use Rattle.esr_core.specs.Entry.{Moment}
use Rattle.esr_core.specs.Tracked.{Tracked}
use Rattle.esr_core.specs.ReadTracked.{ReadTracked}
use Rattle.esr_desk.specs.Start.{Start, Legal, formats_of, world_of, or_no_ticket, ticket_of}
use Rattle.esr_desk.specs.Own.{or_no_reader, reader_of}
use Rattle.esr_desk.specs.Grew.{GrewBy}
use Rattle.esr_drive.specs.Laws.{Laws}
use Rattle.esr_drive.specs.Over.{IsOver}
use Rattle.esr_drive.proofs.Coming.{next_on, ticket_on, reader_on}

ticket_there : (o : Option Ticket) → (or_no_ticket o).out ≡ true → (t : Ticket) × (o ≡ Some t)
ticket_there None out = absurd (true≢false (sym out))
ticket_there (Some t) out = (t, refl)

reader_there : (o : Option Reader) → (or_no_reader o).out ≡ true → (q : Reader) × (o ≡ Some q)
reader_there None out = absurd (true≢false (sym out))
reader_there (Some q) out = (q, refl)

no_reader_by : (w : World) (k : ℕ) (t : Ticket) → ReadTracked w → fin.get w.tickets k ≡ Some t → (o : Option Reader) → fin.get w.readers k ≡ o → fin.get w.readers k ≡ None
no_reader_by w k t l there None is = is
no_reader_by w k t l there (Some q) is = absurd (l.apart.tickets k q t is there)

no_ticket_by : (w : World) (k : ℕ) (q : Reader) → ReadTracked w → fin.get w.readers k ≡ Some q → (o : Option Ticket) → fin.get w.tickets k ≡ o → fin.get w.tickets k ≡ None
no_ticket_by w k q l there None is = is
no_ticket_by w k q l there (Some t) is = absurd (l.apart.tickets k q t there is)

module _ (laws : Laws) (s : Start) (tracked : ReadTracked s.world) (ops : Tracked s.world) (who : ℕ) (old new : List Moment) (legal : Legal s old) (g : GrewBy s who old new) where
  abbrev f : Formats
  f = formats_of s

  reads : ReadTracked (world_of s old)
  reads = laws.reads f s.part_size s.world old ops tracked legal

  -- of the unit of an op
  pub op_over : (ticket_of s old who).out ≡ true → (ticket_of s new who).out ≡ false → IsOver s new who
  op_over out ended =
      let w : World = world_of s old in
      let t = ticket_there (fin.get w.tickets who) out in
      let none : fin.get w.readers who ≡ None = no_reader_by w who t.0 reads t.1 (fin.get w.readers who) refl in
      let low : who < w.next_ticket = ((laws.tracked f s.part_size s.world old ops legal).tickets who t.0 t.1).0 in
      record { given = next_on laws s old g.more new g.is who low; ticket = ended; reader = reader_on laws s old g.more new g.is who low (ap (λ (o : Option Reader). (or_no_reader o).out) none) }

  -- of that of a restore
  pub restore_over : (reader_of s old who).out ≡ true → (reader_of s new who).out ≡ false → IsOver s new who
  restore_over out ended =
      let w : World = world_of s old in
      let q = reader_there (fin.get w.readers who) out in
      let none : fin.get w.tickets who ≡ None = no_ticket_by w who q.0 reads q.1 (fin.get w.tickets who) refl in
      let low : who < w.next_ticket = (reads.tracked.tickets who q.0 q.1).1 in
      record { given = next_on laws s old g.more new g.is who low; ticket = ticket_on laws s old g.more new g.is who low (ap (λ (o : Option Ticket). (or_no_ticket o).out) none); reader = ended }
