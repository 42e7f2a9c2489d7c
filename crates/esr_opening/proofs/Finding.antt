-- The record and the root are found, or aren't.
use Rattle.std.proofs.Common.{◌≡◌, ℕ, ◌≤◌, ℤ, Option, Some, Result, Ok, Err, refl, sym, ap, ◌∙◌}
use Rattle.esr_depot.specs.Image.{Image as Held}
use Rattle.esr_record.specs.Record.{Record}
use Rattle.esr_root.specs.Root.{Root}
use Rattle.esr_opening.specs.Found.{Obstacle, record_in, found}
use Rattle.esr_opening.specs.Looked.{Refuses, Blames}
use Rattle.esr_opening.specs.Terms.{whole_root_in, own_checks}
use Rattle.esr_opening.specs.declared.refusal.OpenRefusal.{OpenRefusal}
use Rattle.esr_opening.proofs.Answering.{refuses_before, refused_first, blames_refuses}
use Rattle.esr_opening.proofs.Steps.{no_found_record, no_found_root, no_found_own, all_found}

-- the record, where the container tells
abbrev pub HasRecord : Option Held → Record → Type 0
HasRecord held cluster = (i : Held) → held ≡ Some i → record_in i.blobs i.text ≡ Ok cluster

abbrev pub HasRoot : Option Held → ℤ → Root → Type 0
HasRoot held safe root = (i : Held) → held ≡ Some i → whole_root_in i.blobs safe ≡ Ok root

pub record_refused : {F : Type 0} (faults : F → ℕ) (a : Option Held) (x y : ℕ) (e : OpenRefusal F) → Refuses faults a x y (λ (i : Held). record_in i.blobs i.text) e → Refuses faults a x y found e
record_refused faults a x y e h = refused_first faults a x y (λ (i : Held). record_in i.blobs i.text) found e (λ i o here fails. no_found_record i o fails) h

root_from : (a b : Option Held) (cluster : Record) (safe : ℤ) (root : Root) → b ≡ a → safe ≡ cluster.safe → HasRoot b safe root → (i : Held) → a ≡ Some i → whole_root_in i.blobs cluster.safe ≡ Ok root
root_from a b cluster safe root same is h i here = ap (whole_root_in i.blobs) (sym is) ∙ h i (same ∙ here)

pub root_refused : {F : Type 0} (faults : F → ℕ) (a b : Option Held) (x y z : ℕ) (cluster : Record) (safe : ℤ) (e : OpenRefusal F) → b ≡ a → x ≤ y → safe ≡ cluster.safe → HasRecord a cluster
    → Refuses faults b y z (λ (i : Held). whole_root_in i.blobs safe) e → Refuses faults a x z found e
root_refused faults a b x y z cluster safe e same le is record_there h =
    refused_first faults a x z (λ (i : Held). whole_root_in i.blobs cluster.safe) found e (λ i o here fails. no_found_root i cluster o (record_there i here) fails)
    (refuses_before faults a b x y z (λ (i : Held). whole_root_in i.blobs safe) (λ (i : Held). whole_root_in i.blobs cluster.safe) e same le (λ i here. ap (whole_root_in i.blobs) (sym is)) h)

pub own_refused : {F : Type 0} (faults : F → ℕ) (a b : Option Held) (x z : ℕ) (cluster : Record) (safe : ℤ) (root : Root) (e : OpenRefusal F) → b ≡ a → safe ≡ cluster.safe → HasRecord a cluster → HasRoot b safe root
    → Blames (own_checks cluster root) e → Refuses faults a x z found e
own_refused faults a b x z cluster safe root e same is record_there root_there h =
    blames_refuses faults a x z (own_checks cluster root) found e (λ i o here fails. no_found_own i cluster root o (record_there i here) (root_from a b cluster safe root same is root_there i here) fails) h

pub both_found : (a b : Option Held) (cluster : Record) (safe : ℤ) (root : Root) (x : Unit {0}) → b ≡ a → safe ≡ cluster.safe → HasRecord a cluster → HasRoot b safe root → own_checks cluster root ≡ Ok x
    → (i : Held) → a ≡ Some i → found i ≡ Ok (cluster, root)
both_found a b cluster safe root x same is record_there root_there own i here = all_found i cluster root x (record_there i here) (root_from a b cluster safe root same is root_there i here) own
