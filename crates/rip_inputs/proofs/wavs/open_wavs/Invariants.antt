use Rattle.std.proofs.Common.{◌≡◌, take, Ok, Some}
use Rattle.std.specs.Prelude.{All}
use Rattle.rip_outside.specs.Files.{Files}
use Rattle.rip_outside.specs.Reading.{OnlyReads}
use Rattle.image_mender.specs.Joined.{AreInFiles, EndsInRange}
use Rattle.rip_inputs.specs.Opening.{lengths_of, wavs_opened}
use Rattle.rip_inputs.specs.Telling.{IsShort, part_names, wavs_of}
use Rattle.rip_inputs.proofs.StepLaws.{TookAtMost}
use Rattle.rip_inputs.proofs.wavs.open_wavs.Given as goal

abbrev pub invariant-loop-name : goal.invariant-loop-name
invariant-loop-name g l = record {
  read : (files : Files) → g.S.Shelf.held l.initial.shelf ≡ Some files → wavs_opened (take l.name-index l.names) files ≡ Ok (wavs_of l.parts.items files);
  inside : (files : Files) → g.S.Shelf.held l.initial.shelf ≡ Some files → AreInFiles l.parts.items files;
  named : part_names l.parts.items ≡ take l.name-index l.names;
  short : All IsShort l.parts.items;
  ends : All EndsInRange l.parts.items;
  only : OnlyReads g.S.Shelf l.initial.shelf l.shelf;
  took : TookAtMost (g.S.Shelf.held l.initial.shelf) (lengths_of (take l.name-index l.names)) (g.S.Shelf.taken l.initial.shelf) (g.S.Shelf.taken l.shelf);
}
