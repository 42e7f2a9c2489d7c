-- Over a legal history the law holds, for the shelf with the commands that count.
use Rattle.std.proofs.Common.{◌≡◌, ◌⊎◌, ℕ, suc, ◌≤◌, List, [], ◌∷◌, ◌++◌, true, false, true≢false, Option, Some, None, map, refl, sym, ap, ◌∙◌, subst, inl, inr, arith}
use Rattle.std.specs.Prelude.{if◌then◌else◌}
use Rattle.std.specs.FinMap as fin
use Rattle.std.proofs.lemmas.Option.{same_Some, none-some}
use Rattle.esr_model.specs.Values.{ReadsBack, ShardResult, Formats}
use Rattle.esr_model.specs.Shelf.{Shelved, Command, shelf_after}
use Rattle.esr_model.specs.Image.{Image}
use Rattle.esr_model.specs.Kept.{Kept}
use Rattle.esr_core.specs.World.{World, Done, Ticket, Swap, marked, record_of, image_of}
use Rattle.esr_core.specs.Steps.{MaySettle, completing}
use Rattle.esr_core.specs.Ids.{Law}
use Rattle.esr_core.specs.Past.{is_counted, with_entry}
use Rattle.esr_core.specs.Entry.{DoneStep, HasEnded, Refusal, Refused, StaleTerm, Moment}
use Rattle.esr_core.specs.After.{answered, done_of, done_by, blobs_in, stepped, after}
use Rattle.esr_core.specs.Allowed.{Allows, Allowed, Blocks, ByFailedSwap, ByDelete, IsBlocked, SameBlobs, DoneAs, Dones as DonesBy}
use Rattle.esr_core.specs.History.{world_from, IsLegal, AreTold, commands_at, committed, Lasts}
use Rattle.esr_core.specs.Turns.{DoneFound, Turn, Stays, Commits, CommitFails, Finds, Raises, Latests, Fetches, SettlesFinal, SettlesDelete, Elects, TakesShard, TakesFinal, TakesDrop, TakesDelete, TakesCleanup, AsksCleanup, CleanDrops, DrawsShard, DrawsPlan, Dones, Ending, Fails, FailsDelete, Drops, AsksCreate, AsksDelete, Merges, Removing, Pages, Deposes, commands_of, Besides, Calls, Tests, TestTurn, DrawsTest, AddsTest, RemovesTests}
use Rattle.esr_core.specs.Laws.Histories.{legal_parts, told_parts}
use Rattle.esr_core.proofs.Besides.{aside_of}
use Rattle.esr_core.specs.Laws.Asides.{unheard_stays, blocked_stays}
use Rattle.esr_core.proofs.Blocked.{blocked_none}
use Rattle.esr_core.proofs.Turning.{turn_law}
use Rattle.esr_core.proofs.Moments.{Turned, plain, turn_by}
use Rattle.esr_core.proofs.Accepting.{accepted}
use Rattle.esr_core.proofs.PruneTurns.{prune_turn}
use Rattle.esr_core.proofs.Storing.{done_found}
use Rattle.esr_core.proofs.Cloning.{cloned_found}
use Rattle.esr_core.proofs.Laws.{kept_of}
use Rattle.esr_core.proofs.Lists.{shelf_after-append}

-- `safe` never falls
pub settled_above : (f : Formats) (w : World) (shelf : List Shelved) → Law f w shelf → (k n : ℕ) (t : Ticket) (s : Swap) → MaySettle f w k n t s → t.term ≡ w.term → w.safe ≤ n
settled_above f w shelf l k n t s may present = ((l.lawful.sound.rooted.tickets k t may.out.there).last s (record { is = may.is; out = may.out.out; unsettled = may.unsettled }) present n may.raised).1

same_safe : (w new up : World) → new ≡ up → up.safe ≡ w.safe → w.safe ≤ new.safe
same_safe w new up e s = let a : new.safe ≡ up.safe = ap (λ (x : World). x.safe) e in omega (arith, a, s)

tests_safe : (f : Formats) (w new : World) → TestTurn f w new → w.safe ≤ new.safe
tests_safe f w new (DrawsTest m d) = same_safe w m _ d.new_is refl
tests_safe f w new (AddsTest m name bytes a) = same_safe w m _ a.new_is refl
tests_safe f w new (RemovesTests m names r) = same_safe w m _ r.new_is refl

pub turn_safe : (f : Formats) (w new : World) (shelf : List Shelved) → Law f w shelf → Turn f w new → w.safe ≤ new.safe
turn_safe f w new shelf l (Stays m e) = same_safe w m w e refl
turn_safe f w new shelf l (Commits m k name h) = same_safe w m _ h.new_is refl
turn_safe f w new shelf l (CommitFails m k name h) = elim h.leaves [ inl e ↦ same_safe w m w e refl | inr e ↦ same_safe w m _ e.1 refl ]
turn_safe f w new shelf l (Finds m k name h) = same_safe w m _ h.new_is refl
turn_safe f w new shelf l (Raises m k h) = same_safe w m _ h.new_is refl
turn_safe f w new shelf l (Latests m k h) = same_safe w m _ h.tries.new_is refl
turn_safe f w new shelf l (Fetches m k name h) = same_safe w m _ h.new_is refl
turn_safe f w new shelf l (SettlesFinal m k n t s h) = let a : m.safe ≡ suc n = ap (λ (x : World). x.safe) h.new_is in let b : w.safe ≤ n = settled_above f w shelf l k n t s h.may h.present in omega (arith, a, b)
turn_safe f w new shelf l (SettlesDelete m k n t s h) = let a : m.safe ≡ suc n = ap (λ (x : World). x.safe) h.new_is in let b : w.safe ≤ n = settled_above f w shelf l k n t s h.may h.present in omega (arith, a, b)
turn_safe f w new shelf l (Elects m h) = same_safe w m _ h.new_is refl
turn_safe f w new shelf l (TakesShard m o op s base h) = same_safe w m _ h.new_is refl
turn_safe f w new shelf l (TakesFinal m o op results h) = same_safe w m _ h.new_is refl
turn_safe f w new shelf l (TakesDrop m o h) = same_safe w m _ h.new_is refl
turn_safe f w new shelf l (TakesDelete m n x h) = same_safe w m _ h.new_is refl
turn_safe f w new shelf l (TakesCleanup m n x h) = same_safe w m _ h.new_is refl
turn_safe f w new shelf l (DrawsShard m k n h) = same_safe w m _ h.new_is refl
turn_safe f w new shelf l (DrawsPlan m k n h) = same_safe w m _ h.new_is refl
turn_safe f w new shelf l (Dones m k r h) = same_safe w m _ h.new_is refl
turn_safe f w new shelf l (Ending m k h) = same_safe w m _ h.new_is refl
turn_safe f w new shelf l (Fails m k h) = same_safe w m _ h.new_is refl
turn_safe f w new shelf l (FailsDelete m k h) = same_safe w m _ h.new_is refl
turn_safe f w new shelf l (Drops m k h) = same_safe w m _ h.new_is refl
turn_safe f w new shelf l (AsksCleanup m h) = same_safe w m _ h.new_is refl
turn_safe f w new shelf l (CleanDrops m k h) = same_safe w m _ h.new_is refl
turn_safe f w new shelf l (AsksCreate m op h) = same_safe w m _ h.new_is refl
turn_safe f w new shelf l (AsksDelete m uuids h) = same_safe w m _ h.new_is refl
turn_safe f w new shelf l (Merges m uuids n h) = same_safe w m _ h.new_is refl
turn_safe f w new shelf l (Pages m k page h) = same_safe w m _ h.new_is refl
turn_safe f w new shelf l (Removing m k names h) = same_safe w m _ h.new_is refl
turn_safe f w new shelf l (Tests m t) = tests_safe f w m t
turn_safe f w new shelf l (Besides m up h r) = let a : w.safe ≤ up.safe = turn_safe f w up shelf l h in let b : m.safe ≡ up.safe = ap (λ (x : World). x.safe) (aside_of f up m r).new_is in omega (arith, a, b)
turn_safe f w new shelf l (Deposes m up h e) = let a : w.safe ≤ up.safe = turn_safe f w up shelf l h in let b : m.safe ≡ up.safe = ap (λ (x : World). x.safe) e in omega (arith, a, b)

-- a step of a legal history, with the law of the world after it
pub record Stepped (f : Formats) (w : World) (shelf : List Shelved) (m : Moment) (new : World) : Type 0 where
  pub commands : List Command
  pub law : Law f new (shelf_after shelf commands)
  pub rises : w.safe ≤ new.safe
  pub early : (safe : ℕ) → safe ≤ w.safe → commands_at f safe w m.entry.who m.entry.step m.entry.reply ≡ []
  pub counted : (safe : ℕ) → new.safe ≤ safe → (new.deposed ≡ true → safe ≡ new.safe) → commands_at f safe w m.entry.who m.entry.step m.entry.reply ≡ commands
  pub alone : w.deposed ≡ true → (new.deposed ≡ true) × (new.safe ≡ w.safe)
  -- it is a turn with these commands, or changes nothing
  pub made : ((w.deposed ≡ false) × ((t : Turn f w new) × (commands ≡ commands_of f w new t))) ⊎ ((new ≡ w) × (commands ≡ []))

-- each step in a world that isn't deposed is a turn
step_turn : (f : Formats) (size : ℕ) (w : World) (shelf : List Shelved) → Law f w shelf → (m : Moment) (i : Image) → m.image ≡ Some i → Allows f size w m.entry.who m.entry.step m.entry.reply m.image
    → Turned f w m.entry.who m.entry.step m.entry.reply (after f w m)
step_turn f size w shelf l m i told alive = turn_by f size w shelf l i doing (accepted f w shelf l) (prune_turn f w shelf l i) m.entry.who m.entry.step m.entry.reply m.image told alive
  where
    doing : (k : ℕ) (r : ShardResult) → DonesBy f size w k r (Some i) → i.blobs ≡ w.blobs → Turned f w k (DoneStep r) HasEnded (stepped f w (record { entry = record { who = k; step = DoneStep r; reply = HasEnded }; image = Some i }))
    doing k r d same =
        plain f w k (DoneStep r) HasEnded _
        (Dones _ k r (by_source d.t.source refl d.done _ ((λ j. record (done_of w k r (d.out.there j)) { blobs = i.blobs }) ∙ (λ j. record (done_by w k r d.t (d.op_there j)) { blobs = same j })))) refl refl
      where
        by_source : (o : Option ℕ) → d.t.source ≡ o → DoneAs f size d.t r o → (new : World) → new ≡ record w {
          ops = fin.insert w.ops d.t.op (record d.op { shards = map (marked k (Done r)) d.op.shards });
          tickets = fin.insert w.tickets k (record d.t { out = false });
          completed = completing w.completed d.t.op (map (marked k (Done r)) d.op.shards);
        }
            → DoneFound f w k r new
        by_source None at b = done_found f size w shelf l k d.t d.out r d.is d.op d.op_there d.s d.s_there d.state (d.source_is ∙ at) b
        by_source (Some source) at b = cloned_found f w shelf l k d.t d.out r d.is source at b d.op d.op_there (d.source_is ∙ at) d.s d.s_there d.state

pub turned_law : (f : Formats) (w : World) (shelf : List Shelved) → Law f w shelf → w.deposed ≡ false → (m : Moment) → Turned f w m.entry.who m.entry.step m.entry.reply (after f w m) → Stepped f w shelf m (after f w m)
turned_law f w shelf l alive m t =
    record {
      commands = commands_of f w (after f w m) t.turn;
      law = turn_law f w (after f w m) shelf l alive t.turn;
      rises = turn_safe f w (after f w m) shelf l t.turn;
      early = t.early;
      counted = t.commands;
      alone = λ e. absurd (true≢false (sym e ∙ alive));
      made = inl (alive, (t.turn, refl));
    }

-- one that is refused before it is looked at
pub blocked_law : (f : Formats) (w : World) (shelf : List Shelved) → Law f w shelf → (m : Moment) → IsBlocked w m → Stepped f w shelf m (after f w m)
blocked_law f w shelf l m b = by b.refusal b.blocks b.refused
  where
    by : (refusal : Refusal) → Blocks w m.entry.who m.entry.step refusal → m.entry.reply ≡ Refused refusal → Stepped f w shelf m (after f w m)
    by _ (ByFailedSwap place d) refused =
        let same : after f w m ≡ w = blocked_stays f w m b ∙ (λ j. record w { entries = if is_counted (refused j) then m.entry ∷ w.entries else w.entries }) in
        record {
          commands = [];
          law = subst (λ x. Law f x shelf) (sym same) l;
          rises = let e : (after f w m).safe ≡ w.safe = ap (λ (x : World). x.safe) same in omega (arith, e);
          early = λ safe below. blocked_none f w safe m b;
          counted = λ safe above only. blocked_none f w safe m b;
          alone = λ e. (ap (λ (x : World). x.deposed) same ∙ e, ap (λ (x : World). x.safe) same);
          made = inr (same, refl);
        }
    by _ (ByDelete o alive aborted) refused =
        turned_law f w shelf l alive m (record {
          turn = Besides _ w (Stays w refl) (Calls _ w.caller (with_entry w.entries m.entry) (blocked_stays f w m b));
          commands = λ safe above only. blocked_none f w safe m b;
          early = λ safe below. blocked_none f w safe m b;
        })

pub step_law : (f : Formats) (size : ℕ) (w : World) (shelf : List Shelved) → Law f w shelf → (m : Moment) (i : Image) → m.image ≡ Some i → Allowed f size w m → Stepped f w shelf m (after f w m)
step_law f size w shelf l m i told a = elim a.answered [
  | inl alive ↦ turned_law f w shelf l alive.0 m (step_turn f size w shelf l m i told alive.1)
  | inr dead ↦ blocked_law f w shelf l m dead
]

-- what a list of moments leaves
pub lasts : (f : Formats) (size : ℕ) (log : List Moment) (w : World) (shelf : List Shelved) → Law f w shelf → IsLegal f size w log → AreTold log → Lasts f w (world_from f w log)
lasts f size [] w shelf l legal told = record { rises = omega arith; alone = λ e. refl }
lasts f size (m ∷ log) w shelf l legal told =
    let s = step_law f size w shelf l m told.0.0 told.0.1 legal.0 in
    let rest = lasts f size log (after f w m) (shelf_after shelf s.commands) s.law legal.1 told.1 in
    record {
      rises = omega (arith, s.rises, rest.rises);
      alone = λ e. let h = s.alone e in rest.alone h.0 ∙ h.1;
    }

-- the law over a legal history
pub legal_law : (f : Formats) (size : ℕ) (log : List Moment) (w : World) (shelf : List Shelved) → Law f w shelf → IsLegal f size w log → AreTold log
    → Law f (world_from f w log) (shelf_after shelf (committed f (world_from f w log).safe w log))
legal_law f size [] w shelf l legal told = l
legal_law f size (m ∷ log) w shelf l legal told =
    let s = step_law f size w shelf l m told.0.0 told.0.1 legal.0 in
    let rest = lasts f size log (after f w m) (shelf_after shelf s.commands) s.law legal.1 told.1 in
    let last : World = world_from f (after f w m) log in
    let mine : commands_at f last.safe w m.entry.who m.entry.step m.entry.reply ≡ s.commands = s.counted last.safe rest.rises rest.alone in
    let law : Law f last (shelf_after (shelf_after shelf s.commands) (committed f last.safe (after f w m) log)) = legal_law f size log (after f w m) (shelf_after shelf s.commands) s.law legal.1 told.1 in
    subst (Law f last) (sym (shelf_after-append shelf s.commands (committed f last.safe (after f w m) log)) ∙ ap (λ cs. shelf_after shelf (cs ++ committed f last.safe (after f w m) log)) (sym mine)) law

-- the image after a moment is that of the world
pub image_is : (f : Formats) (size : ℕ) (w : World) (m : Moment) (i : Image) → m.image ≡ Some i → Allowed f size w m → i ≡ image_of f (after f w m)
image_is f size w m i told a = λ j. record { blobs = blobs_told m.image told j; text = a.text i told j }
  where
    blobs_told : (image : Option Image) → image ≡ Some i → i.blobs ≡ blobs_in image w.blobs
    blobs_told None e = absurd (none-some i e)
    blobs_told (Some x) e = ap (λ (y : Image). y.blobs) (sym (same_Some _ _ e))

world_append : (f : Formats) (log : List Moment) (w : World) (m : Moment) → world_from f w (log ++ m ∷ []) ≡ after f (world_from f w log) m
world_append f [] w m = refl
world_append f (x ∷ log) w m = world_append f log (after f w x) m

last_allowed : (f : Formats) (size : ℕ) (log : List Moment) (w : World) (m : Moment) → IsLegal f size w (log ++ m ∷ []) → Allowed f size (world_from f w log) m
last_allowed f size [] w m legal = legal.0
last_allowed f size (x ∷ log) w m legal = last_allowed f size log (after f w x) m legal.1

-- the image after the last moment is kept for the commands that count in it
pub image_kept : (f : Formats) (size : ℕ) (log : List Moment) (w : World) (shelf : List Shelved) (m : Moment) (i : Image) → Law f w shelf → m.image ≡ Some i → IsLegal f size w (log ++ m ∷ []) → AreTold (log ++ m ∷ [])
    → Kept f i (shelf_after shelf (committed f (world_from f w (log ++ m ∷ [])).safe w (log ++ m ∷ [])))
image_kept f size log w shelf m i l image legal told =
    let all : List Moment = log ++ m ∷ [] in
    let a = last_allowed f size log w m legal in
    let last : World = world_from f w all in
    let same : last ≡ after f (world_from f w log) m = world_append f log w m in
    let back : ReadsBack f.cluster (record_of last) = subst (λ x. ReadsBack f.cluster (record_of x)) (sym same) a.record_back in
    subst (λ x. Kept f x (shelf_after shelf (committed f last.safe w all))) (ap (image_of f) same ∙ sym (image_is f size (world_from f w log) m i image a))
    (kept_of f last _ (legal_law f size all w shelf l legal told) back)

-- ---- a history in two parts

committed_parts : (f : Formats) (safe : ℕ) (xs ys : List Moment) (w : World) → committed f safe w (xs ++ ys) ≡ committed f safe w xs ++ committed f safe (world_from f w xs) ys
committed_parts f safe [] ys w = refl
committed_parts f safe (x ∷ xs) ys w =
    ap (λ cs. commands_at f safe w x.entry.who x.entry.step x.entry.reply ++ cs) (committed_parts f safe xs ys (after f w x)) ∙ sym (append_assoc (commands_at f safe w x.entry.who x.entry.step x.entry.reply) _ _)
  where
    append_assoc : (xs ys zs : List Command) → (xs ++ ys) ++ zs ≡ xs ++ (ys ++ zs)
    append_assoc [] ys zs = refl
    append_assoc (x ∷ xs) ys zs = ap (λ ds. x ∷ ds) (append_assoc xs ys zs)

-- no later command counts in an image
pub later_none : (f : Formats) (size : ℕ) (log : List Moment) (w : World) (shelf : List Shelved) (safe : ℕ) → Law f w shelf → safe ≤ w.safe → IsLegal f size w log → AreTold log → committed f safe w log ≡ []
later_none f size [] w shelf safe l below legal told = refl
later_none f size (m ∷ log) w shelf safe l below legal told =
    let s = step_law f size w shelf l m told.0.0 told.0.1 legal.0 in
    (λ j. s.early safe below j ++ later_none f size log (after f w m) (shelf_after shelf s.commands) safe s.law (omega (arith, below, s.rises)) legal.1 told.1 j)

append_one : (log : List Moment) (m : Moment) (rest : List Moment) → (log ++ m ∷ []) ++ rest ≡ log ++ m ∷ rest
append_one [] m rest = refl
append_one (x ∷ log) m rest = ap (λ ms. x ∷ ms) (append_one log m rest)

-- each image of a history is kept for the commands of all of it that count in the image
pub each_image : (f : Formats) (size : ℕ) (log rest : List Moment) (w : World) (shelf : List Shelved) (m : Moment) (i : Image) → Law f w shelf → m.image ≡ Some i → IsLegal f size w (log ++ m ∷ rest) → AreTold (log ++ m ∷ rest)
    → Kept f i (shelf_after shelf (committed f (world_from f w (log ++ m ∷ [])).safe w (log ++ m ∷ rest)))
each_image f size log rest w shelf m i l image legal told =
    let all : List Moment = log ++ m ∷ [] in
    let same : (log ++ m ∷ []) ++ rest ≡ log ++ m ∷ rest = append_one log m rest in
    let legals = legal_parts f size all rest w (subst (IsLegal f size w) (sym same) legal) in
    let tolds = told_parts all rest (subst AreTold (sym same) told) in
    let safe : ℕ = (world_from f w all).safe in
    let kept = image_kept f size log w shelf m i l image legals.0 tolds.0 in
    let law = legal_law f size all w shelf l legals.0 tolds.0 in
    let none : committed f safe (world_from f w all) rest ≡ [] = later_none f size rest (world_from f w all) _ safe law (omega arith) legals.1 tolds.1 in
    let mine : committed f safe w (log ++ m ∷ rest) ≡ committed f safe w all = ap (committed f safe w) (sym same) ∙ committed_parts f safe all rest w ∙ ap (λ cs. committed f safe w all ++ cs) none ∙ nil (committed f safe w all) in
    subst (λ cs. Kept f i (shelf_after shelf cs)) (sym mine) kept
  where
    nil : (cs : List Command) → cs ++ [] ≡ cs
    nil [] = refl
    nil (c ∷ cs) = ap (λ ds. c ∷ ds) (nil cs)

-- a step of an older term changes nothing, but that it was made
pub stale_stays : (f : Formats) (w : World) (m : Moment) (own now : ℕ) → m.entry.reply ≡ Refused (StaleTerm own now) → SameBlobs w m.image → after f w m ≡ record w { entries = m.entry ∷ w.entries }
stale_stays f w m own now e same =
    unheard_stays f w m (StaleTerm own now) e refl
    ((λ j. record (answered f w m.entry.who m.entry.step (e j) m.image) { blobs = blobs_in m.image w.blobs }) ∙ (λ j. record w { blobs = stay m.image same j }))
    ∙ (λ j. record w { entries = if is_counted (e j) then m.entry ∷ w.entries else w.entries })
  where
    stay : (image : Option Image) → SameBlobs w image → blobs_in image w.blobs ≡ w.blobs
    stay None h = refl
    stay (Some i) h = h
