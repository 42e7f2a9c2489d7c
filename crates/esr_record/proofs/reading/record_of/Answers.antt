use Rattle.std.proofs.Common.{arith}
use Rattle.std.proofs.lemmas.Int.{ints}
use Rattle.esr_record.proofs.reading.record_of.Goals as goal

pub returns-clause-valid : goal.returns-clause-valid
returns-clause-valid c =
    record {
      numbers =
          record {
            least = omega (arith, ints, c.in_ok-safe.ensures.range);
            order = omega (arith, ints, c.in_ok-safe.ensures.range, c.in_ok-pending.ensures.range, c.if-safe-pending.false);
            most = omega (arith, ints, c.in_ok-pending.ensures.range);
            below = omega (arith, ints, c.in_ok-term.ensures.range);
          };
      ops = c.in_ok-ops.ensures.valid;
    }
