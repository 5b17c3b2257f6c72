use Rattle.std.proofs.Common.{◌≡◌, take, map}
use Rattle.disc_toc.specs.Joined.{start_of}
use Rattle.disc_toc.proofs.joined.starts.Given as goal

abbrev pub invariant-loop-track : goal.invariant-loop-track
invariant-loop-track l = l.list.items ≡ map (start_of l.words) (take l.track-index l.tracks)
