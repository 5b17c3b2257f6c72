use Rattle.std.proofs.Common.{◌≡◌, subst, map, List}
use Rattle.cue_sheet.specs.declared.sheet.CueTrack.{CueTrack}
use Rattle.cue_sheet.specs.Reading.{sheet_of}
use Rattle.disc_toc.specs.Layout.{IsLayout}
use Rattle.disc_toc.specs.Joined.{sectors_in, start_of}
use Rattle.disc_toc.proofs.JoinedLaws.{joined_layout}
use Rattle.disc_toc.proofs.joined.layout_of.Goals as goal

pub invariant_of-result : goal.invariant_of-result
invariant_of-result c =
    let read = c.in-Ok.ensures in
    let layout : IsLayout c.args.cue.now.pregap (map (start_of c.args.words.now) c.args.cue.now.tracks) (sectors_in c.args.words.now) =
    joined_layout (sheet_of c.args.cue.now) c.args.words.now c.args.cue.now.valid c.requires.same read.0 in
    let starts : c.in-Ok-starts.starts ≡ map (start_of c.args.words.now) c.args.cue.now.tracks =
    subst (λ (tracks : List CueTrack). c.in-Ok-starts.starts ≡ map (start_of c.args.words.now) tracks) c.as_slice.ensures c.in-Ok-starts.ensures in
    record { valid = rw (starts, read.1) layout }
