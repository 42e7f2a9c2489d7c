-- Each delete that a history tells as asked for names what a line of the script names.
use Rattle.std.proofs.Common.{◌≡◌, ℕ, true, true≢false, ◌==◌, ◌&&◌, List, ◌∷◌, refl, sym, ap, ◌∙◌, subst, inl, inr}
use Rattle.esr_model.specs.Values.{Bytes, Has}
use Rattle.esr_core.specs.Entry.{Asked, Clone, Step, AskStep, Reply, Entry, Moment}
use Rattle.esr_model.specs.Lists.{Has-mapped}
use Rattle.esr_script.specs.declared.item.ScriptLine.{ScriptLine}
use Rattle.esr_desk.specs.Start.{Start, formats_of, world_of}
use Rattle.esr_quiet.specs.Asked.{is_line_ask, is_asked, as_asked, asked_steps}
use Rattle.esr_quiet.specs.Smooth.{IsSmooth, NoneFailed}
use Rattle.esr_quiet.specs.Refusals.{AreByRule}
use Rattle.esr_quiet.specs.Askers.{AsksOrElects, asker}
use Rattle.esr_quiet.specs.PrefixLaws.{quiet_at, legal_at, place_of}
use Rattle.esr_report.specs.Replies.{names_it}
use Rattle.esr_complete.specs.Lines.{steps_of, entries_of}
use Rattle.esr_complete.proofs.OpEnds.{IsCalm, calm_unblocked}
use Rattle.esr_complete.proofs.Histories.{calm_of}
use Rattle.esr_complete.proofs.Facts.{AsksAll}
use Rattle.esr_complete.proofs.InTurn.{in_asked, lines_naming}

-- a command that names is a step as it was asked for
named_step : (command : Asked) (name : Bytes) → names_it command name ≡ true → as_asked (AskStep command) ≡ AskStep command
named_step (Clone source of names moment taken) name named = absurd (true≢false (sym named))
named_step command name named = refl

module _ (s : Start) (log : List Moment) (lines : List ScriptLine) (moment : ℕ) (smooth : IsSmooth s log) (none : NoneFailed log) (by_rule : AreByRule s log) (asked : asked_steps log ≡ steps_of moment lines) where
  -- who 0 asks
  nobody : (m : Moment) (command : Asked) → Has log m → m.entry.step ≡ AskStep command → m.entry.who ≡ 0
  nobody m command has step =
      let p = place_of log m has in
      elim (asker (formats_of s) s.part_size (world_of s p.front) m (legal_at s log smooth p.front p.back m p.is) (subst AsksOrElects (sym step) tt)) [
        | inl zero ↦ zero
        | inr dead ↦
            absurd (calm_unblocked (Unit {0}) (world_of s p.front) m.entry.who m.entry.step dead.refusal (quiet_at s log smooth p.front (m ∷ p.back) p.is).present
            (subst (λ (r : Reply). IsCalm (Unit {0}) r m.entry.step) dead.refused (calm_of s log none by_rule m has)) dead.blocks)
      ]

  pub asks_all : AsksAll lines (entries_of log)
  asks_all e command name has step named =
      let (m, there, is) = Has-mapped (λ (y : Moment). y.entry) log e has in
      let own : m.entry.step ≡ AskStep command = ap (λ (y : Entry). y.step) is ∙ step in
      let by_who : is_asked m.entry ≡ true = (λ i. (nobody m command there own i == 0) && is_line_ask (own i)) in
      let as_own : as_asked m.entry.step ≡ AskStep command = ap as_asked own ∙ named_step command name named in
      lines_naming moment lines command name (subst (λ (l : List Step). Has l (AskStep command)) asked (subst (Has (asked_steps log)) as_own (in_asked log m there by_who))) named
