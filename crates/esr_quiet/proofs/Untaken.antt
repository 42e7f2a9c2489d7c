-- A name is taken only where its ticket tried to commit it, whatever calls fail: so none is where no ticket makes a step twice.
use Rattle.std.proofs.Common.{◌≡◌, ◌⊎◌, ℕ, zero, suc, ◌≤◌, true, true≢false, List, [], ◌∷◌, ◌++◌, append-nil, append_assoc, Option, refl, sym, ap, ◌∙◌, subst, inl, inr, arith, nat_cmp}
use Rattle.std.specs.FinMap as fin
use Rattle.esr_model.specs.Names.{BlobName}
use Rattle.esr_model.specs.Values.{Formats, Has}
use Rattle.esr_model.specs.Image.{Image, Present}
use Rattle.esr_core.specs.World.{World, Opened, OpenedEmpty, OpenedRecord}
use Rattle.esr_core.specs.Entry.{Step, CommitStep, NameTaken, Refusal, DepotFault, Reply, WasDone, Refused, Moment}
use Rattle.esr_core.specs.After.{after}
use Rattle.esr_core.specs.Allowed as allowed
use Rattle.esr_core.specs.Allowed.{Told, Commits, IsMetadata, Allows, Blocks, ByFailedSwap, ByDelete, Allowed}
use Rattle.esr_core.specs.Laws.Asides.{blocked_stays}
use Rattle.esr_core.specs.Laws.Maps.{nothing}
use Rattle.esr_desk.specs.Once.{IsSingle, uncounted, WasMade, NoneTwice}
use Rattle.esr_desk.specs.Start.{Start, formats_of, world_of}
use Rattle.esr_quiet.specs.OverKept.{IsLawful}
use Rattle.esr_quiet.specs.Untaken.{MayLeave, WasTried, NoneTaken}
use Rattle.esr_quiet.proofs.FreeCommits.{own_metadata}
use Rattle.esr_core.specs.Laws.NumberMaps.{some_none}
use Rattle.esr_core.specs.Laws.Histories.{world_parts}
use Rattle.esr_quiet.proofs.Numbers.{Numbered, numbered_from}
use Rattle.esr_quiet.proofs.OverKept.{step_at}
use Rattle.esr_quiet.specs.PrefixLaws.{place_of, has_at}
use Rattle.esr_quiet.proofs.Prefixes.{told_at}
use Rattle.esr_quiet.proofs.SpareFrame.{Spare}
use Rattle.esr_quiet.proofs.SpareSteps.{step_spare}

-- ---- a commit that was refused so

abbrev Tells : Formats → ℕ → World → ℕ → Step → Reply → Option Image → Type 0
Tells f size w who (CommitStep name) (Refused (NameTaken other)) image = Commits f size w who name × (IsMetadata name → ⊥) × Told image (λ blobs. Present f w.blobs name × (blobs ≡ w.blobs))
Tells f size w who step reply image = Unit {0}

tells : (f : Formats) (size : ℕ) (w : World) (who : ℕ) (step : Step) (reply : Reply) (image : Option Image) → Allows f size w who step reply image → Tells f size w who step reply image
tells f size w who step reply image (allowed.Taken k name im c aside there) = (c, aside, there)
tells f size w who step reply image a = tt

-- its ticket tried to commit the name, where all else is spare
tried_name : (f : Formats) (tried : ℕ → BlobName → Type 0) (w : World) → Spare f tried w → (size k : ℕ) (name : BlobName) (c : Commits f size w k name) → (IsMetadata name → ⊥) → Present f w.blobs name → tried k name
tried_name f tried w l size k name c aside present = elim c.may [
  | inl h ↦ elim h.2 [
    | inl own ↦ elim (own_metadata f c.t.work c.t.root h.0 h.1 name c.bytes own) [
      | inl metadata_name ↦ absurd (aside metadata_name)
      | inr plan ↦ l.plans k c.t plan.0 h.0 name c.bytes c.out.there plan.1 own present
    ]
    | inr root ↦ subst (tried k) (sym root.1) (l.roots k root.0 c.t c.out.there root.2.raised (subst (Present f w.blobs) root.1 present))
  ]
  | inr h ↦ l.shards k c.t name c.out.there c.out.out h.1 present
]

-- ---- at the start no op is open, and no ticket is out

opened_spare : (f : Formats) (tried : ℕ → BlobName → Type 0) (image : Image) (w : World) → Opened f image w → Spare f tried w
opened_spare f tried image w (OpenedEmpty e) =
    record {
      shards = λ k t name there. absurd (nothing k t there);
      plans = λ k t uuids s name bytes there. absurd (nothing k t there);
      pending = λ o op s there. absurd (nothing o op there);
      roots = λ k n t there. absurd (nothing k t there);
      own = (λ j k n t u there. absurd (nothing j t there), λ j k id t u there. absurd (nothing j t there));
      drawn = λ k t uuids s name bytes there. absurd (nothing k t there);
    }
opened_spare f tried image w (OpenedRecord cluster text root is reads of_root) =
    record {
      shards = λ k t name there. absurd (nothing k t there);
      plans = λ k t uuids s name bytes there. absurd (nothing k t there);
      pending = λ o op s there. absurd (nothing o op there);
      roots = λ k n t there. absurd (nothing k t there);
      own = (λ j k n t u there. absurd (nothing j t there), λ j k id t u there. absurd (nothing j t there));
      drawn = λ k t uuids s name bytes there. absurd (nothing k t there);
    }

pub opened_numbered : (f : Formats) (image : Image) (w : World) → Opened f image w → Numbered w
opened_numbered f image w (OpenedEmpty e) = record { next = one; none = fin.get-empty nat_cmp 0 }
  where
    one : 1 ≤ 1
    one = omega arith
opened_numbered f image w (OpenedRecord cluster text root is reads of_root) = record { next = one; none = fin.get-empty nat_cmp 0 }
  where
    one : 1 ≤ 1
    one = omega arith

-- ---- of a history

made_of : (reply : Reply) → MayLeave reply → WasMade reply
made_of WasDone left place e = cc
made_of (Refused DepotFault) left place e = cc
made_of reply left place e = absurd left

-- a moment of it stands before another one, is that, or stands after it
parts_of : (front back : List Moment) (m n : Moment) → Has (front ++ m ∷ back) n → Has front n ⊎ ((m ≡ n) ⊎ Has back n)
parts_of [] back m n (inl e) = inr (inl e)
parts_of [] back m n (inr h) = inr (inr h)
parts_of (x ∷ front) back m n (inl e) = inl (inl e)
parts_of (x ∷ front) back m n (inr h) = elim (parts_of front back m n h) [ inl a ↦ inl (inr a) | inr b ↦ inr b ]

taken_made : (name : BlobName) → WasMade (Refused (NameTaken name))
taken_made name place e = cc

module _ (s : Start) (log : List Moment) (lawful : IsLawful s log) where
  abbrev f : Formats
  f = formats_of s

  -- a record swap has failed, or all is spare
  abbrev State : List Moment → Type 0
  State front = ((world_of s front).deposed ≡ true) ⊎ Spare f (WasTried log) (world_of s front)

  state_next : (front back : List Moment) (m : Moment) → log ≡ front ++ m ∷ back → State front → State (front ++ m ∷ [])
  state_next front back m is h =
      let w : World = world_of s front in
      let here : Allowed f s.part_size w m = step_at s log lawful.over front back m is in
      let now : world_of s (front ++ m ∷ []) ≡ after f w m = world_parts f front (m ∷ []) s.world in
      let has : Has log m = subst (λ (l : List Moment). Has l m) (sym is) (has_at front back m) in
      let told = told_at log m lawful.over.told has in
      let law = lawful.lawful front (m ∷ back) is in
      let next : ((after f w m).deposed ≡ true) ⊎ Spare f (WasTried log) (after f w m) = elim h [
        | inl deposed ↦ inl (elim here.answered [
          | inl alive ↦ absurd (true≢false (sym deposed ∙ alive.0))
          | inr dead ↦ ap (λ (x : World). x.deposed) (blocked_stays f w m dead) ∙ deposed
        ])
        | inr spare ↦ step_spare f s.part_size (WasTried log) w law.0 law.1 spare m (λ name step left. record { moment = m; there = has; of = refl; step = step; left = left }) told.0 told.1 here
      ] in
      subst (λ (x : World). (x.deposed ≡ true) ⊎ Spare f (WasTried log) x) (sym now) next

  state_on : (done rest back : List Moment) → log ≡ done ++ (rest ++ back) → State done → State (done ++ rest)
  state_on done [] back is h = subst State (sym (append-nil done)) h
  state_on done (m ∷ rest) back is h =
      subst State (append_assoc done (m ∷ []) rest)
      (state_on (done ++ m ∷ []) rest back (is ∙ sym (append_assoc done (m ∷ []) (rest ++ back))) (state_next done (rest ++ back) m is h))

  state_at : (front back : List Moment) → log ≡ front ++ back → State front
  state_at front back is = state_on [] front back is (inr (opened_spare f (WasTried log) lawful.over.image s.world lawful.over.opened))

  module _ (front back : List Moment) (m : Moment) (name : BlobName) (is : log ≡ front ++ m ∷ back) (step : m.entry.step ≡ CommitStep name) (reply : m.entry.reply ≡ Refused (NameTaken name)) where
    abbrev w : World
    w = world_of s front

    has : Has log m
    has = subst (λ (l : List Moment). Has l m) (sym is) (has_at front back m)

    never : (refusal : Refusal) → Blocks w m.entry.who m.entry.step refusal → Refused (NameTaken name) ≡ Refused refusal → ⊥
    never _ (ByFailedSwap place d) e = cc
    never _ (ByDelete by d aborted) e = cc

    alive : w.deposed ≡ true → ⊥
    alive deposed = elim (step_at s log lawful.over front back m is).answered [
      | inl living ↦ true≢false (sym deposed ∙ living.0)
      | inr dead ↦ never dead.refusal dead.blocks (sym reply ∙ dead.refused)
    ]

    refused : Tells f s.part_size w m.entry.who (CommitStep name) (Refused (NameTaken name)) m.image
    refused = elim (step_at s log lawful.over front back m is).answered [
      | inl living ↦
          subst (λ st. Tells f s.part_size w m.entry.who st (Refused (NameTaken name)) m.image) step
          (subst (λ r. Tells f s.part_size w m.entry.who m.entry.step r m.image) reply (tells f s.part_size w m.entry.who m.entry.step m.entry.reply m.image living.1))
      | inr dead ↦ absurd (never dead.refusal dead.blocks (sym reply ∙ dead.refused))
    ]

    present : Present f w.blobs name
    present = let told = told_at log m lawful.over.told has in (subst (λ im. Told im (λ blobs. Present f w.blobs name × (blobs ≡ w.blobs))) told.1 refused.2).0

    -- its ticket tried to commit it
    was_tried : WasTried log m.entry.who name
    was_tried = elim (state_at front (m ∷ back) is) [
      | inl deposed ↦ absurd (alive deposed)
      | inr spare ↦ tried_name f (WasTried log) w spare s.part_size m.entry.who name refused.0 refused.1 present
    ]

    -- it is that of a ticket
    of_ticket : 1 ≤ m.entry.who
    of_ticket = go m.entry.who refl
      where
        go : (who : ℕ) → m.entry.who ≡ who → 1 ≤ m.entry.who
        go zero e =
            let numbered : Numbered w = numbered_from f front s.world (opened_numbered f lawful.over.image s.world lawful.over.opened) in
            absurd (some_none refused.0.t (sym refused.0.out.there ∙ ap (fin.get w.tickets) e ∙ numbered.none))
        go (suc k) e = omega (arith, e)

    -- once and again
    twice : NoneTwice log → ⊥
    twice none =
        let x = was_tried in
        elim (parts_of front back m x.moment (subst (λ (l : List Moment). Has l x.moment) is x.there)) [
          | inl before ↦ none front back m is of_ticket single made x.moment before x.of (made_of x.moment.entry.reply x.left) (ap uncounted (x.step ∙ sym step))
          | inr (inl same) ↦ subst MayLeave (ap (λ (n : Moment). n.entry.reply) (sym same) ∙ reply) x.left
          | inr (inr later) ↦
              let p = place_of back x.moment later in
              let at : log ≡ (front ++ m ∷ p.front) ++ x.moment ∷ p.back = is ∙ ap (λ (l : List Moment). front ++ m ∷ l) p.is ∙ sym (append_assoc front (m ∷ p.front) (x.moment ∷ p.back)) in
              none (front ++ m ∷ p.front) p.back x.moment at (subst (λ (k : ℕ). 1 ≤ k) (sym x.of) of_ticket) (subst IsSingle (sym x.step) tt)
              (made_of x.moment.entry.reply x.left) m (has_at front p.front m) (sym x.of) made (ap uncounted (step ∙ sym x.step))
        ]
      where
        single : IsSingle m.entry.step
        single = subst IsSingle (sym step) tt

        made : WasMade m.entry.reply
        made = subst WasMade (sym reply) (taken_made name)

  pub none_taken : NoneTwice log → NoneTaken log
  none_taken none m name has step reply = let p = place_of log m has in twice p.front p.back m name p.is step reply none
