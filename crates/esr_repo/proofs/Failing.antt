-- What a repository keeps of the container's failures, after a step.
use Rattle.std.proofs.Common.{◌≡◌, ℕ, ◌+◌, ◌-◌, ◌^◌, ◌≤◌, Bool, true, false, true≢false, cond, List, [], ◌∷◌, ◌++◌, length, Option, Some, None, Err, refl, sym, ap, ◌∙◌, subst, inl, inr, arith, append-nil, append_assoc}
use Rattle.std.specs.Prelude.{min}
use Rattle.std.proofs.lemmas.List.Sums.{sum_by_push}
use Rattle.esr_model.specs.Values.{Formats}
use Rattle.esr_model.specs.Image.{Image}
use Rattle.esr_core.specs.World.{World}
use Rattle.esr_core.specs.Entry.{Read, Prune, Step, Reply, Refused, DeposedAt, DepotFault, Entry, Moment}
use Rattle.esr_core.specs.After.{swaps_record}
use Rattle.esr_core.specs.Allowed.{VerifyAllows, ReadAllows, PruneAllows, Allows}
use Rattle.esr_core.specs.Allowed as allowed
use Rattle.esr_depot.specs.declared.error.CallError.{CallError}
use Rattle.esr_depot.specs.declared.error.CallError.TheVariants.{Failed}
use Rattle.esr_depot.specs.Calls.{up, HasCause, has_failed}
use Rattle.esr_ops.specs.Plan.{Plan}
use Rattle.esr_desk.specs.Start.{Start, formats_of, world_of}
use Rattle.esr_repo.specs.Log.{calls}
use Rattle.esr_repo.specs.May.{is_refused, MayNote}
use Rattle.esr_repo.specs.Counted.{is_fault, fault_entries, IsCounted}
use Rattle.esr_repo.specs.Deposed.{FailedSwap, AreDeposedSo}
use Rattle.esr_repo.specs.KeptFaults.{IsKeptOfFaults}
use Rattle.esr_repo.proofs.BlobCalls.{Pushed, more_is}
use Rattle.esr_repo.proofs.Pasts.{IsCut, cut_is}
use Rattle.esr_desk.specs.declared.refusal.EntryRefusal.{EntryRefusal}
use Rattle.esr_desk.specs.Refusals.{refusal_of}
use Rattle.esr_repo.proofs.Blocked.{Tells, OfSwap, OfDelete}

-- ---- the count

same_count : (start n more before after : ℕ) → min (start + n) (2 ^ 64 - 1) ≤ before → more ≡ n + 0 → before ≤ after → min (start + more) (2 ^ 64 - 1) ≤ after
same_count start n more before after h is later = omega arith

one_more : (start n more before after : ℕ) → min (start + n) (2 ^ 64 - 1) ≤ before → more ≡ n + 1 → up before ≤ after → min (start + more) (2 ^ 64 - 1) ≤ after
one_more start n more before after h is rose = omega arith

pub entries_more : (es : List Entry) (e : Entry) (fault : Bool) → is_fault e.reply ≡ fault → fault_entries (es ++ e ∷ []) ≡ fault_entries es + cond fault 1 0
entries_more es e fault is = sum_by_push (λ (x : Entry). cond (is_fault x.reply) 1 0) es e ∙ ap (λ (b : Bool). fault_entries es + cond b 1 0) is

-- ---- the swap that failed

-- it is one of a longer history too
swap_stays : (es rest : List Entry) (place : ℕ) → FailedSwap es place → FailedSwap (es ++ rest) place
swap_stays es rest place f =
    record {
      front = f.front;
      entry = f.entry;
      back = f.back ++ rest;
      is = ap (λ (l : List Entry). l ++ rest) f.is ∙ append_assoc f.front (f.entry ∷ f.back) rest;
      place_is = f.place_is;
      swaps = f.swaps;
      reply = f.reply;
    }

-- the last entry is one
swap_last : (es : List Entry) (e : Entry) (place : ℕ) → place ≡ length es → swaps_record e.step ≡ true → e.reply ≡ Refused DepotFault → FailedSwap (es ++ e ∷ []) place
swap_last es e place is swaps reply = record { front = es; entry = e; back = []; is = refl; place_is = sym is; swaps = swaps; reply = reply }

-- each refusal names one, where the last entry does
named_more : (es : List Entry) (e : Entry) → AreDeposedSo es → ((place : ℕ) → e.reply ≡ Refused (DeposedAt place) → FailedSwap es place) → AreDeposedSo (es ++ e ∷ [])
named_more es e named last front back x place is refused = by (cut_is es e front (x ∷ back) is)
  where
    never : x ∷ back ≡ [] → ⊥
    never q = cc

    inside : (rest : List Entry) → es ≡ front ++ rest → x ∷ back ≡ rest ++ e ∷ [] → FailedSwap front place
    inside [] whole rest_is =
        let same : x ≡ e = cc in
        subst (λ (l : List Entry). FailedSwap l place) (whole ∙ append-nil front) (last place (ap (λ (y : Entry). y.reply) (sym same) ∙ refused))
    inside (y ∷ rest) whole rest_is =
        let same : x ≡ y = cc in
        named front rest y place whole (ap (λ (z : Entry). z.reply) (sym same) ∙ refused)

    by : IsCut es e front (x ∷ back) → FailedSwap front place
    by (inl end) = absurd (never end.1)
    by (inr c) = inside c.0 c.1 c.2

-- ---- answers

-- the answer tells no failure, neither its own nor one before it
abbrev pub tells_none : Reply → Bool
tells_none (Refused DepotFault) = false
tells_none (Refused (DeposedAt place)) = false
tells_none reply = true

pub no_fault : (reply : Reply) → tells_none reply ≡ true → is_fault reply ≡ false
no_fault (Refused DepotFault) none = absurd (true≢false (sym none))
no_fault (Refused refusal) none = refl
no_fault reply none = refl

not_deposed : (reply : Reply) (place : ℕ) → tells_none reply ≡ true → reply ≡ Refused (DeposedAt place) → ⊥
not_deposed reply place none is = true≢false (sym none ∙ ap tells_none is)

-- a step that wasn't refused
pub told_none : (reply : Reply) → is_refused reply ≡ false → tells_none reply ≡ true
told_none (Refused refusal) h = absurd (true≢false h)
told_none reply h = refl

verify_never : (f : Formats) (w : World) (read : Read) (place : ℕ) (image : Option Image) → VerifyAllows f w read (Refused (DeposedAt place)) image → ⊥
verify_never f w read place image h = elim h [ ]

read_never : (f : Formats) (w : World) (who : ℕ) (read : Read) (place : ℕ) (image : Option Image) → ReadAllows f w who read (Refused (DeposedAt place)) image → ⊥
read_never f w who read place image h = elim h [ ]

prune_never : (f : Formats) (w : World) (who : ℕ) (prune : Prune) (place : ℕ) (image : Option Image) → PruneAllows f w who prune (Refused (DeposedAt place)) image → ⊥
prune_never f w who prune place image h = elim h [ ]

never_deposed : (f : Formats) (part_size : ℕ) (w : World) (who : ℕ) (step : Step) (place : ℕ) (image : Option Image) → Allows f part_size w who step (Refused (DeposedAt place)) image → ⊥
never_deposed f part_size w who step place image (allowed.Ruled command refusal im rule same) = elim rule [ ]
never_deposed f part_size w who step place image (allowed.Verifying read reply im h) = verify_never f w read place image h
never_deposed f part_size w who step place image (allowed.Reading k read reply im h same) = read_never f w who read place image h
never_deposed f part_size w who step place image (allowed.Pruning k prune reply im h) = prune_never f w who prune place image h

-- a step without a call of the container
pub noted_none : {s : Start} {log : List Moment} {who : ℕ} {step : Step} {reply : Reply} {plan : Option Plan} {next : ℕ} → MayNote s log who step reply plan next → tells_none reply ≡ true
noted_none {s} {log} {who} {step} {reply} {plan} {next} may = go reply (may.allows None (λ image e. absurd (untold image e)) tt) may.plain
  where
    untold : (image : Image) → None ≡ Some image → ⊥
    untold image e = cc

    go : (r : Reply) → Allows (formats_of s) s.part_size (world_of s log) who step r None → calls step r ≡ false → tells_none r ≡ true
    go (Refused DepotFault) a plain = absurd (true≢false plain)
    go (Refused (DeposedAt place)) a plain = absurd (never_deposed (formats_of s) s.part_size (world_of s log) who step place None a)
    go r a plain = refl

-- a call that failed
pub failed_so : (error : CallError) → error ≡ Failed → has_failed {T = Unit {0}} (Err error) ≡ true
failed_so error is = ap (λ (x : CallError). has_failed {T = Unit {0}} (Err x)) is

-- ---- after a step

-- nothing was added
pub same_faults : {start before : ℕ} {es : List Entry} {d : Option ℕ} (mid : List Entry) (after : ℕ) → IsKeptOfFaults start before es d → before ≤ after → mid ≡ es → IsKeptOfFaults start after mid d
same_faults {start} {before} {es} {d} mid after k later is =
    subst (λ (l : List Entry). IsKeptOfFaults start after l d) (sym is)
    (record { counted = raised k.counted later; named = k.named; fallen = k.fallen })
  where
    raised : IsCounted start before es → before ≤ after → IsCounted start after es
    raised h later = same_count start (fault_entries es) (fault_entries es) before after h (omega arith) later

module _ {start before : ℕ} {es mid es' : List Entry} {d : Option ℕ} {e : Entry} (k : IsKeptOfFaults start before es d) (p : Pushed es mid es' e) (after : ℕ) where
  grown : es' ≡ es ++ e ∷ []
  grown = more_is es mid es' e p

  -- what is kept before, of one entry more
  stays : (place : ℕ) → d ≡ Some place → FailedSwap (es ++ e ∷ []) place
  stays place is = swap_stays es (e ∷ []) place (k.fallen place is)

  counted_same : is_fault e.reply ≡ false → before ≤ after → IsCounted start after (es ++ e ∷ [])
  counted_same is later = same_count start (fault_entries es) (fault_entries (es ++ e ∷ [])) before after k.counted (entries_more es e false is) later

  counted_more : is_fault e.reply ≡ true → up before ≤ after → IsCounted start after (es ++ e ∷ [])
  counted_more is rose = one_more start (fault_entries es) (fault_entries (es ++ e ∷ [])) before after k.counted (entries_more es e true is) rose

  -- an entry that tells no failure
  pub unfailed_faults : tells_none e.reply ≡ true → before ≤ after → IsKeptOfFaults start after es' d
  unfailed_faults none later =
      subst (λ (l : List Entry). IsKeptOfFaults start after l d) (sym grown)
      (record {
        counted = counted_same (no_fault e.reply none) later;
        named = named_more es e k.named (λ place is. absurd (not_deposed e.reply place none is));
        fallen = stays;
      })

  -- an entry that tells that the place is of a swap that failed
  pub deposed_faults : (place : ℕ) → d ≡ Some place → e.reply ≡ Refused (DeposedAt place) → before ≤ after → IsKeptOfFaults start after es' d
  deposed_faults place fell is later =
      subst (λ (l : List Entry). IsKeptOfFaults start after l d) (sym grown)
      (record {
        counted = counted_same (ap is_fault is) later;
        named = named_more es e k.named (λ other told. k.fallen other (fell ∙ ap Some (same_place place other (sym is ∙ told))));
        fallen = stays;
      })
    where
      same_place : (a b : ℕ) → Refused (DeposedAt a) ≡ Refused (DeposedAt b) → a ≡ b
      same_place a b q = cc

  -- an entry of a step that was refused before it was looked at
  pub blocked_faults : (plan : Plan) (refusal : EntryRefusal) → Tells d plan e.who e.step refusal → e.reply ≡ Refused (refusal_of refusal) → before ≤ after → IsKeptOfFaults start after es' d
  blocked_faults plan refusal (OfSwap place fell) is later = deposed_faults place fell is later
  blocked_faults plan refusal (OfDelete op none aborted) is later = unfailed_faults (ap tells_none is) later

  -- a call that failed: the container counted it
  failed_named : e.reply ≡ Refused DepotFault → AreDeposedSo (es ++ e ∷ [])
  failed_named is = named_more es e k.named (λ place told. absurd (never place (sym is ∙ told)))
    where
      never : (place : ℕ) → Refused DepotFault ≡ Refused (DeposedAt place) → ⊥
      never place q = cc

  pub failed_faults : (failed : Bool) → HasCause before after failed → failed ≡ true → e.reply ≡ Refused DepotFault → IsKeptOfFaults start after es' d
  failed_faults failed cause has is =
      subst (λ (l : List Entry). IsKeptOfFaults start after l d) (sym grown)
      (record { counted = counted_more (ap is_fault is) (cause.rose has); named = failed_named is; fallen = stays })

  -- a record swap that failed, at the place that is kept from then on
  pub fallen_faults : (failed : Bool) (place : ℕ) → HasCause before after failed → failed ≡ true → place ≡ length es → swaps_record e.step ≡ true → e.reply ≡ Refused DepotFault → IsKeptOfFaults start after es' (Some place)
  fallen_faults failed place cause has at swaps is =
      subst (λ (l : List Entry). IsKeptOfFaults start after l (Some place)) (sym grown)
      (record {
        counted = counted_more (ap is_fault is) (cause.rose has);
        named = failed_named is;
        fallen = λ other same. subst (FailedSwap (es ++ e ∷ [])) (some_same place other same) (swap_last es e place at swaps is);
      })
    where
      some_same : (a b : ℕ) → Some a ≡ Some b → a ≡ b
      some_same a b q = cc

-- ---- the beginning

pub begun_faults : (start now : ℕ) → start ≤ now → IsKeptOfFaults start now [] None
begun_faults start now h = record { counted = counted; named = λ front back e place is. absurd (never front e back is); fallen = λ place is. absurd (none place is) }
  where
    counted : IsCounted start now []
    counted = same_count start 0 0 start now (omega arith) (omega arith) h

    no_cons : (e : Entry) (back : List Entry) → [] ≡ e ∷ back → ⊥
    no_cons e back q = cc

    never : (front : List Entry) (e : Entry) (back : List Entry) → [] ≡ front ++ e ∷ back → ⊥
    never [] e back q = no_cons e back q
    never (x ∷ front) e back q = no_cons x (front ++ e ∷ back) q

    none : (place : ℕ) → None ≡ Some place → ⊥
    none place q = cc
