use Rattle.std.proofs.Common.{◌≡◌, ◌*◌, List, ℕ, map, vec_len}
use Rattle.std.specs.Prelude.{All, Contains, sum_by}
use Rattle.std.specs.List.{range_with_len}
use Rattle.rip_outside.specs.Files.{Files}
use Rattle.disc_toc.specs.Toc.{toc_of}
use Rattle.image_mender.specs.declared.image.Part.{Part}
use Rattle.image_mender.specs.Joined.{AreInFiles, joined_words, word_count}
use Rattle.track_split.specs.Cuts.{cut_place, piece_words}
use Rattle.track_split.proofs.cutting.cut_tracks.Given as goal

abbrev pub invariant-loop-i : goal.invariant-loop-i
invariant-loop-i l = record {
  words : (files : Files) → AreInFiles l.image files → map (λ parts. joined_words parts files) l.list.items ≡ map (piece_words (toc_of l.layout) (joined_words l.image files)) (range_with_len 0 l.i);
  inside : (files : Files) → AreInFiles l.image files → All (λ parts. AreInFiles parts files) l.list.items;
  named : (names : List (List ℕ)) → All (λ (part : Part). Contains names part.name) l.image → All (λ (parts : List Part). All (λ (part : Part). Contains names part.name) parts) l.list.items;
  many : vec_len l.list ≡ l.i;
  count : sum_by word_count l.list.items ≡ 1176 * cut_place (toc_of l.layout) l.i;
}
