use Rattle.std.proofs.Common.{◌≡◌, ◌++◌, ◌∷◌, [], rules}
use Rattle.track_split.specs.Sheets.{index_line, number_line, pregap_lines, text_of_lines}
use Rattle.track_split.proofs.WritingLaws.{grows_both}
use Rattle.track_split.proofs.sheets.push_entry.Goals as goal

pub returns : goal.returns
returns c =
    let old = c.args.text.now.items in
    let first : c.push_number.new.text.items ≡ old ++ text_of_lines (number_line c.args.number ∷ []) = search rules in
    let second : c.push_pregap.new.text.items ≡ c.push_number.new.text.items ++ text_of_lines (pregap_lines c.args.pregap) = search rules in
    grows_both old c.push_number.new.text.items c.push_pregap.new.text.items c.push_index.new.text.items c.push_index.result (number_line c.args.number) (pregap_lines c.args.pregap) (index_line c.args.time) first second c.push_index.ensures
