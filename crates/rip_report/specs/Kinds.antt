-- The kinds of refusals as they are printed, each by its name.
use Rattle.std.specs.Prelude.{ℕ, List, ◌++◌, codes}
use Rattle.std.specs.Fmt.{decimal}
use Rattle.batch_list.specs.declared.fail.ListKind.{ListKind}
use Rattle.batch_list.specs.declared.fail.ListKind.TheVariants.{TooLong as TooLongList, NotToml, NoDiscs, TooMany, BadDisc, BadWords}
use Rattle.cue_sheet.specs.declared.fail.CueKind.{CueKind}
use Rattle.cue_sheet.specs.declared.fail.CueKind.TheVariants.{SheetTooLong, UnknownWord, BadQuote, NameNotText, NotWave as NotWaveFile, TooManyFiles, NoFile, BadNumber, DataTrack, TrackOrder, NoTrack, IndexOrder, BadTime, NoIndex01, LatePregap, Postgap, NoTracks}
use Rattle.wav_frames.specs.declared.fail.WavKind.{WavKind}
use Rattle.wav_frames.specs.declared.fail.WavKind.TheVariants.{NotRiff, NotWave, NoFmt, FmtShort, NotPcm, NotStereo, NotCdRate, Not16Bit, NoData, DataPastEnd, StreamedLength, HalfSample}
use Rattle.disc_toc.specs.declared.reading.LayoutKind.{LayoutKind}
use Rattle.disc_toc.specs.declared.reading.LayoutKind.TheVariants.{NotWholeSectors, IndexPastEnd, StartOrder, TooLong, TooShort}
use Rattle.disc_toc.specs.declared.difference.LayoutPart.{LayoutPart}
use Rattle.disc_toc.specs.declared.difference.LayoutPart.TheVariants.{Pregap, Sectors, Tracks as TrackNumber, Start}
use Rattle.parity_store.specs.declared.reading.RecordKind.{RecordKind}
use Rattle.parity_store.specs.declared.reading.RecordKind.TheVariants.{Mark, Length, Npar, Tracks, Spare, Layout, Digest}
use Rattle.rip_report.specs.declared.status.ResponseKind.{ResponseKind}
use Rattle.rip_report.specs.declared.status.ResponseKind.TheVariants.{TooLong as TooLongResponse, Cut}

-- why a line of a cue sheet, or the sheet, is refused
abbrev pub cue_kind_text : CueKind → List ℕ
cue_kind_text SheetTooLong = codes "SheetTooLong"
cue_kind_text UnknownWord = codes "UnknownWord"
cue_kind_text BadQuote = codes "BadQuote"
cue_kind_text NameNotText = codes "NameNotText"
cue_kind_text NotWaveFile = codes "NotWave"
cue_kind_text TooManyFiles = codes "TooManyFiles"
cue_kind_text NoFile = codes "NoFile"
cue_kind_text BadNumber = codes "BadNumber"
cue_kind_text DataTrack = codes "DataTrack"
cue_kind_text TrackOrder = codes "TrackOrder"
cue_kind_text NoTrack = codes "NoTrack"
cue_kind_text IndexOrder = codes "IndexOrder"
cue_kind_text BadTime = codes "BadTime"
cue_kind_text NoIndex01 = codes "NoIndex01"
cue_kind_text LatePregap = codes "LatePregap"
cue_kind_text Postgap = codes "Postgap"
cue_kind_text NoTracks = codes "NoTracks"

-- why a WAV file is refused
abbrev pub wav_kind_text : WavKind → List ℕ
wav_kind_text NotRiff = codes "NotRiff"
wav_kind_text NotWave = codes "NotWave"
wav_kind_text NoFmt = codes "NoFmt"
wav_kind_text FmtShort = codes "FmtShort"
wav_kind_text NotPcm = codes "NotPcm"
wav_kind_text NotStereo = codes "NotStereo"
wav_kind_text NotCdRate = codes "NotCdRate"
wav_kind_text Not16Bit = codes "Not16Bit"
wav_kind_text NoData = codes "NoData"
wav_kind_text DataPastEnd = codes "DataPastEnd"
wav_kind_text StreamedLength = codes "StreamedLength"
wav_kind_text HalfSample = codes "HalfSample"

-- why files and tracks are no layout
abbrev pub layout_kind_text : LayoutKind → List ℕ
layout_kind_text (NotWholeSectors file) = codes "NotWholeSectors file " ++ decimal file
layout_kind_text (IndexPastEnd track) = codes "IndexPastEnd track " ++ decimal track
layout_kind_text (StartOrder track) = codes "StartOrder track " ++ decimal track
layout_kind_text (TooLong sectors) = codes "TooLong sectors " ++ decimal sectors
layout_kind_text (TooShort sectors) = codes "TooShort sectors " ++ decimal sectors

-- why a file is no record
abbrev pub record_kind_text : RecordKind → List ℕ
record_kind_text Mark = codes "Mark"
record_kind_text (Length found wanted) = codes "Length " ++ decimal found ++ codes " wanted " ++ decimal wanted
record_kind_text (Npar found) = codes "Npar " ++ decimal found
record_kind_text (Tracks found) = codes "Tracks " ++ decimal found
record_kind_text (Spare found) = codes "Spare " ++ decimal found
record_kind_text Layout = codes "Layout"
record_kind_text Digest = codes "Digest"

-- why a file is no response
abbrev pub response_kind_text : ResponseKind → List ℕ
response_kind_text TooLongResponse = codes "TooLong"
response_kind_text (Cut at) = codes "Cut at " ++ decimal at

-- why a list of discs is refused
abbrev pub list_kind_text : ListKind → List ℕ
list_kind_text TooLongList = codes "TooLong"
list_kind_text NotToml = codes "NotToml"
list_kind_text NoDiscs = codes "NoDiscs"
list_kind_text TooMany = codes "TooMany"
list_kind_text (BadDisc disc) = codes "BadDisc " ++ decimal disc
list_kind_text (BadWords disc word) = codes "BadWords " ++ decimal disc ++ codes " word " ++ decimal word

-- in which part two layouts differ
abbrev pub layout_part_text : LayoutPart → List ℕ
layout_part_text Pregap = codes "pregap"
layout_part_text Sectors = codes "sectors"
layout_part_text TrackNumber = codes "tracks"
layout_part_text (Start track) = codes "start " ++ decimal track
