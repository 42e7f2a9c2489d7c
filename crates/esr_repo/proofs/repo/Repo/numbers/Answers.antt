use Rattle.esr_repo.proofs.repo.Repo.numbers.Goals as goal

pub returns-clause-numbers : goal.returns-clause-numbers
returns-clause-numbers g c = record {
  next = c.rules.ensures.tracked.first_ticket;
  tickets = λ k t there. (c.rules.ensures.tracked.tickets k t there).0;
  readers = λ k q there. (c.rules.ensures.read_tracked.tracked.tickets k q there).1;
}

pub returns-clause-none : goal.returns-clause-none
returns-clause-none g c = c.self.invariant.0.repo.steady.no_entries
