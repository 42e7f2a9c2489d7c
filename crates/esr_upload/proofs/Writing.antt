-- What a ticket was told, as blobs are committed one after another.
use Rattle.std.proofs.Common.{◌≡◌, ℕ, true, List, [], ◌∷◌, ◌++◌, Option, refl, ap, ◌∙◌, subst}
use Rattle.esr_model.specs.Names.{BlobName}
use Rattle.esr_model.specs.Values.{Bytes}
use Rattle.esr_core.specs.World.{Ticket}
use Rattle.esr_core.specs.After.{committing}
use Rattle.esr_desk.specs.Start.{Start, told_bytes}
use Rattle.esr_desk.specs.Taken.{after_writes}
use Rattle.esr_upload.specs.Stored.{IsToldBy}
use Rattle.esr_upload.specs.Commits.{writes_keep}

pub writes_on : (s : Start) (ws us : List (BlobName × Bytes)) (t : Ticket) → after_writes s (ws ++ us) t ≡ after_writes s us (after_writes s ws t)
writes_on s [] us t = refl
writes_on s (w ∷ ws) us t = writes_on s ws us (committing w.0 (told_bytes s w.1) t)

pub told_on : (s : Start) (told : Option (List (Bytes × Bytes))) (number : ℕ) (ws : List (BlobName × Bytes)) (old new : Ticket) → new ≡ after_writes s ws old → IsToldBy s told number old → IsToldBy s told number new
told_on s told number ws old new is by = record {
  source_is = writes_keep (λ (t : Ticket). t.source) (λ t n w. refl) s ws old new is ∙ by.source_is;
  tells = λ known.
      let place : new.place ≡ old.place = writes_keep (λ (t : Ticket). t.place) (λ t n w. refl) s ws old new is in
      let name : new.name ≡ old.name = writes_keep (λ (t : Ticket). t.name) (λ t n w. refl) s ws old new is in
      let known_old = subst (λ (n : Bytes). s.known old.place n number ≡ true) name (subst (λ (p : Bytes). s.known p new.name number ≡ true) place known) in
      let same = by.tells known_old in
      (same.0, same.1, ap (λ (n : Bytes). s.told new.place n number) name ∙ ap (λ (p : Bytes). s.told p old.name number) place ∙ same.2);
}
