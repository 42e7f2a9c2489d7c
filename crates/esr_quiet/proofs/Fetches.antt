-- Each fetch of a restore, a check or a verification finds its blob where each world of the history is lawful and free.
use Rattle.std.proofs.Common.{◌≡◌, ◌⊎◌, ℕ, List, ◌∷◌, ◌++◌, Option, Some, None, refl, sym, ◌∙◌, subst, inl, inr}
use Rattle.std.specs.FinMap as fin
use Rattle.esr_model.specs.Names.{BlobName}
use Rattle.esr_model.specs.Values.{Formats}
use Rattle.esr_model.specs.Image.{Image}
use Rattle.esr_core.specs.World.{World}
use Rattle.esr_core.specs.Entry.{Read, ReadBlob, Step, AskStep, ReadStep, Refusal, DepotFault, Reply, WasFetched, WasAbsent, Refused, Moment}
use Rattle.esr_core.specs.Allowed as allowed
use Rattle.esr_core.specs.Allowed.{Fetcher, ByReader, ByCheck, ByVerify, ReadAllows, ReadFound, ReadMissing, ReadFault, VerifyAllows, VerifyingAll, Allows, Allowed}
use Rattle.esr_core.specs.Laws.NumberMaps.{some_none}
use Rattle.esr_desk.specs.Start.{Start, formats_of, world_of}
use Rattle.esr_quiet.specs.Smooth.{IsSmooth, EachFetchFinds}
use Rattle.esr_quiet.specs.Prefixes.{Prefixes}
use Rattle.esr_quiet.specs.Refusals.{IsSwapStep, IsOfRule, IsOfTerm}
use Rattle.esr_quiet.specs.PrefixLaws.{place_of, quiet_at, legal_at}
use Rattle.esr_quiet.proofs.Prefixes.{told_at}
use Rattle.esr_quiet.proofs.OverKept.{smooth_lawful, smooth_alive}
use Rattle.esr_quiet.proofs.Restores as restores
use Rattle.esr_quiet.proofs.Restores.{IsServing, missed_at}
use Rattle.esr_quiet.proofs.Checks as checks
use Rattle.esr_quiet.proofs.Texted.{texted_at}
use Rattle.esr_quiet.proofs.Rules.{by_rule}

-- ---- what a fetch is answered

abbrev Tells : Step → Reply → Type 0
Tells (ReadStep (ReadBlob name)) reply = (reply ≡ WasFetched) ⊎ ((reply ≡ WasAbsent) ⊎ ((refusal : Refusal) × (reply ≡ Refused refusal)))
Tells step reply = Unit {0}

read_tells : (f : Formats) (w : World) (who : ℕ) (read : Read) (reply : Reply) (image : Option Image) → ReadAllows f w who read reply image → Tells (ReadStep read) reply
read_tells f w who read reply image (ReadFound k name im stored by told) = inl refl
read_tells f w who read reply image (ReadMissing k name im stored by none) = inr (inl refl)
read_tells f w who read reply image (ReadFault k name im stored by) = inr (inr (DepotFault, refl))
read_tells f w who read reply image a = tt

verify_tells : (f : Formats) (w : World) (read : Read) (reply : Reply) (image : Option Image) → VerifyAllows f w read reply image → Tells (ReadStep read) reply
verify_tells f w read reply image (VerifyingAll im may same) = tt
verify_tells f w read reply image a = tt

tells : (f : Formats) (size : ℕ) (w : World) (who : ℕ) (step : Step) (reply : Reply) (image : Option Image) → Allows f size w who step reply image → Tells step reply
tells f size w who step reply image (allowed.Reading k read rep im a same) = read_tells f w k read rep im a
tells f size w who step reply image (allowed.Verifying read rep im a) = verify_tells f w read rep im a
tells f size w who step reply image a = tt

told_by : (f : Formats) (size : ℕ) (w : World) (m : Moment) (name : BlobName) → Allowed f size w m → m.entry.step ≡ ReadStep (ReadBlob name) → Tells (ReadStep (ReadBlob name)) m.entry.reply
told_by f size w m name a step = elim a.answered [
  | inl alive ↦ subst (λ (st : Step). Tells st m.entry.reply) step (tells f size w m.entry.who m.entry.step m.entry.reply m.image alive.1)
  | inr dead ↦ inr (inr (dead.refusal, dead.refused))
]

-- no rule refuses it
unruled : (s : Start) (front : List Moment) (m : Moment) (name : BlobName) (refusal : Refusal) → m.entry.step ≡ ReadStep (ReadBlob name) → IsOfRule front m refusal ⊎ IsOfTerm s front m refusal → ⊥
unruled s front m name refusal step (inl rule) = let both : AskStep rule.0.0 ≡ ReadStep (ReadBlob name) = sym rule.0.1 ∙ step in cc
unruled s front m name refusal step (inr old) = subst IsSwapStep step old.swaps

-- ---- what may be fetched is there

module _ (s : Start) (log : List Moment) (smooth : IsSmooth s log) (prefixes : Prefixes s log) (all_serve : (front back : List Moment) → log ≡ front ++ back → IsServing (formats_of s) (world_of s front)) where
  there : (front back : List Moment) (m : Moment) → log ≡ front ++ m ∷ back → (name : BlobName) (image : Image) (who : ℕ) → Fetcher (formats_of s) (world_of s front) name (Some image) who
      → fin.get (world_of s front).blobs ((formats_of s).names.text name) ≡ None → ⊥
  there front back m is name image who (ByReader k q reading may) none = restores.is_there (formats_of s) (world_of s front) (all_serve front (m ∷ back) is) k q reading name image may none
  there front back m is name image who (ByCheck may) none =
      checks.found s log (smooth_lawful s log smooth prefixes) (smooth_alive s log smooth) all_serve front back m is name may.reached none
  there front back m is name image who (ByVerify may) none =
      let (bytes, wrote) = (texted_at s log smooth prefixes front (m ∷ back) is).written name may.committed in
      some_none bytes (sym ((prefixes.free front (m ∷ back) is).wrote name bytes wrote may.unremoved).0 ∙ none)

  pub each_finds : EachFetchFinds log
  each_finds m name has step =
      let f : Formats = formats_of s in
      let p = place_of log m has in
      let may : Allowed f s.part_size (world_of s p.front) m = legal_at s log smooth p.front p.back m p.is in
      elim (told_by f s.part_size (world_of s p.front) m name may step) [
        | inl found ↦ found
        | inr other ↦ elim other [
          | inl absent ↦
              let told = told_at log m smooth.told has in
              let missed = missed_at f s.part_size (world_of s p.front) m name (quiet_at s log smooth p.front (m ∷ p.back) p.is).present may step absent told.0 told.1 in
              absurd (there p.front p.back m p.is name told.0 m.entry.who missed.0 missed.1)
          | inr refused ↦ absurd (unruled s p.front m name refused.0 step (by_rule s log smooth prefixes p.front p.back m refused.0 p.is refused.1))
        ]
      ]
