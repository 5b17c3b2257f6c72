-- The files of a disc that is split.
use Rattle.std.proofs.Common.{◌≡◌, ◌∙◌, ℕ, ◌<◌, List, length, map, get_or, Ok, sym, subst, arith}
use Rattle.std.specs.Prelude.{All, Contains}
use Rattle.std.proofs.lemmas.List.{get_or-map, length-map}
use Rattle.rip_outside.specs.Files.{Files}
use Rattle.image_mender.specs.declared.image.Part.{Part}
use Rattle.rip_inputs.specs.Opening.{Opened}
use Rattle.track_split.specs.Tracks.{split_names}
use Rattle.engine_steps.specs.Outcome.{Outcome}
use Rattle.engine_steps.specs.Steps.{free, opened}
use Rattle.cmd_split.specs.SplitOutcome.{IsSplitOutcome, split_in}

-- ---- pieces are in the image's files

abbrev pub names_of_parts : List Part → List (List ℕ)
names_of_parts image = map (λ (p : Part). p.name) image

pub own_names : (image : List Part) → All (λ (p : Part). Contains (names_of_parts image) p.name) image
own_names image k d below =
    let p : Part = get_or image k d in
    (k, (let size = length-map image (λ (p : Part). p.name) in omega arith), get_or-map (λ (p : Part). p.name) image k d p.name below)

pub apart_pieces : (image : List Part) (parts : List (List ℕ)) (pieces : List (List Part)) → All (λ (p : Part). Contains parts p.name → ⊥) image
    → All (λ (piece : List Part). All (λ (p : Part). Contains (names_of_parts image) p.name) piece) pieces → All (λ (piece : List Part). All (λ (p : Part). Contains parts p.name → ⊥) piece) pieces
apart_pieces image parts pieces apart named k d below j e inside among =
    let p : Part = get_or (get_or pieces k d) j e in
    let there : Contains (names_of_parts image) p.name = named k d below j e inside in
    let size = length-map image (λ (p : Part). p.name) in
    let in_image : there.0 < length image = omega (arith, there.1) in
    let own : Part = get_or image there.0 p in
    let same : own.name ≡ p.name = sym (get_or-map (λ (p : Part). p.name) image there.0 p p.name in_image) ∙ there.2 in
    apart there.0 p in_image (subst (λ (name : List ℕ). Contains parts name) (sym same) among)

pub split_meets : (input folder : List ℕ) (rip : Opened) (files : Files) (o : Outcome) → opened input files ≡ Ok rip → free (split_names folder (length rip.toc.starts)) rip.names files ≡ Ok tt
    → o ≡ split_in folder rip → IsSplitOutcome input folder files o
split_meets input folder rip files o found is_free is = rw (found, is_free) is
