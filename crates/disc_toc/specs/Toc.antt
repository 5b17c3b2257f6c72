-- What a layout says.
use Rattle.std.specs.Prelude.{ℕ, List}
use Rattle.disc_toc.specs.declared.layout.Layout.{Layout}

-- a disc's table of contents: the pregap, the start of each track and the end of the audio, in sectors
pub record Toc : Type 0 where
  pub pregap : ℕ
  pub starts : List ℕ
  pub sectors : ℕ

abbrev pub toc_of : Layout → Toc
toc_of layout = record { pregap = layout.pregap; starts = layout.starts; sectors = layout.sectors }
