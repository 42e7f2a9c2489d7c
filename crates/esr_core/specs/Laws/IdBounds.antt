-- Ids below one number lie below each higher one.
use Rattle.std.proofs.Common.{ℕ, ◌<◌, ◌≤◌, arith}
use Rattle.esr_model.specs.Values.{RootData}
use Rattle.esr_model.specs.Kept.{RootIds}

pub up : (x c d : ℕ) → c ≤ d → x < c → x < d
up x c d le h = omega (arith, le, h)

pub root_up : (root : RootData) (c d : ℕ) → c ≤ d → RootIds root c → RootIds root d
root_up root c d le h =
    record {
      generations = λ i k g e. up g c d le (h.generations i k g e);
      snapshots = λ s m. up s.uuid c d le (h.snapshots s m);
      ids = λ x m. up x.id c d le (h.ids x m);
      uuids = λ x u m has. up u c d le (h.uuids x u m has);
      one_name = h.one_name;
    }
