-- A round: a unit is taken, and worked.
use Rattle.std.proofs.Common.{◌≡◌, ◌≢◌, ℕ, ◌+◌, ◌≤◌, true, List, [], ◌∷◌, length, length-append, refl, ap, ◌∙◌, arith}
use Rattle.esr_core.specs.Entry.{Step, TakeStep, Reply, Gave, Moment}
use Rattle.esr_ops.specs.Units.{given_of}
use Rattle.esr_desk.specs.declared.unit.Unit.{Unit as Taken}
use Rattle.esr_desk.specs.Start.{Start}
use Rattle.esr_desk.specs.Outcome.{Stepped}
use Rattle.esr_desk.specs.Grew.{GrewBy, NoneOut}
use Rattle.esr_quiet.specs.Asked.{GrewAsking}
use Rattle.esr_quiet.specs.Asking.{asking_on, asking_by, asking_stepped}
use Rattle.esr_drive.specs.Laws.{Laws}
use Rattle.esr_drive.specs.Over.{NoReaderOut, IsOver}
use Rattle.esr_drive.specs.Takes.{idle_takes, round_takes}
use Rattle.esr_drive.specs.Works.{WorksOnly}
use Rattle.esr_drive.proofs.Resting.{unit_rest, unit_readers}
use Rattle.esr_drive.proofs.Works.{works_on, works_by, works_took}

stepped_longer : (s : Start) (old new : List Moment) (who : ℕ) (step : Step) (reply : Reply) → Stepped s old new who step reply → length old + 1 ≤ length new
stepped_longer s old new who step reply h =
    let last : Moment = record { entry = record { who = who; step = step; reply = reply }; image = h.image } in
    let front : length h.front ≡ length old + length h.waited.others = ap length h.waited.grew ∙ length-append old h.waited.others in
    let whole : length new ≡ length h.front + length (last ∷ []) = ap length h.is ∙ length-append h.front (last ∷ []) in
    omega (arith, front, whole)

grew_longer : (s : Start) (who : ℕ) (old new : List Moment) → GrewBy s who old new → length old ≤ length new
grew_longer s who old new g = let whole : length new ≡ length old + length g.more = ap length g.is ∙ length-append old g.more in omega (arith, whole)

-- the answer by which a unit is given
abbrev pub gift : Taken → Reply
gift u = Gave u.ready.ticket u.ready.op (given_of u.ready)

-- the unit was given, and the steps since are of its ticket, but for those of others
pub record Round (s : Start) (old took new : List Moment) (u : Taken) : Type 0 where
  pub some : u.ready.ticket ≢ 0
  pub gave : Stepped s old took 0 TakeStep (gift u)
  pub grew : GrewBy s u.ready.ticket took new

module _ {s : Start} {old took new : List Moment} {u : Taken} (r : Round s old took new u) where
  -- it adds a step at least
  pub round_longer : length old + 1 ≤ length new
  round_longer =
      let first = stepped_longer s old took 0 TakeStep (gift u) r.gave in
      let second = grew_longer s u.ready.ticket took new r.grew in
      omega (arith, first, second)

  pub round_asks : GrewAsking s [] old new
  round_asks = asking_on s [] [] old took new (asking_stepped s old took TakeStep (gift u) r.gave) (asking_by s u.ready.ticket took new r.some r.grew)

  pub round_works : s.alone ≡ true → WorksOnly old new
  round_works alone = works_on old took new (works_took s old took (gift u) alone r.gave) (works_by s u.ready.ticket took new alone r.some r.grew)

  pub round_idle : s.alone ≡ true → idle_takes new ≡ idle_takes old
  round_idle alone = round_takes s old old took new u.ready.ticket u.ready.op (given_of u.ready) alone r.some refl r.gave r.grew

  module _ (laws : Laws) (alone : s.alone ≡ true) (over : IsOver s new u.ready.ticket) where
    pub round_rest : NoneOut s old → NoneOut s new
    round_rest rest = unit_rest laws s alone old took new u.ready.ticket u.ready.op (given_of u.ready) r.some r.gave r.grew over rest

    pub round_readers : NoReaderOut s old → NoReaderOut s new
    round_readers rest = unit_readers laws s alone old took new u.ready.ticket u.ready.op (given_of u.ready) r.some r.gave r.grew over rest
