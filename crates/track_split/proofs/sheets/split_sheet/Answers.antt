use Rattle.std.proofs.Common.{◌≡◌, ◌∙◌, ◌+◌, ◌<◌, ◌≤◌, ◌++◌, ◌∷◌, [], length, ap, ap₂, rules, arith}
use Rattle.std.specs.Prelude.{slice_index}
use Rattle.disc_toc.specs.Toc.{toc_of}
use Rattle.track_split.specs.Sheets.{entry_lines, file_line, first_only, split_text, text_of_lines, track_file}
use Rattle.track_split.proofs.WritingLaws.{all_written, grows_twice, next_lines, none_split, own_lines, split_left, split_next}
use Rattle.track_split.proofs.sheets.split_sheet.Goals as goal

pub loop-i-preserved : goal.loop-i-preserved
loop-i-preserved c =
    let layout = c.args.layout.now in
    let i = c.loop-i.i in
    let below : i < length layout.starts = omega (arith, c.loop-i-test.true, c.loop-i.auto.i-end, ap length c.as_slice-i-end.ensures) in
    let named : c.push_file.new.text.items ≡ c.loop-i.text.items ++ text_of_lines (file_line (track_file (i + 1)) ∷ []) = search rules in
    let entered : c.push_entry.new.text.items ≡ c.push_file.new.text.items ++ text_of_lines (entry_lines (i + 1) c.pregap_of.result c.own_time.result) = search rules in
    let entry : c.push_entry.new.text.items ≡ c.push_file.new.text.items ++ text_of_lines (entry_lines (i + 1) (first_only layout.pregap i) (first_only (slice_index layout.starts 0) i)) =
    entered ∙ ap₂ (λ gap time. c.push_file.new.text.items ++ text_of_lines (entry_lines (i + 1) gap time)) c.pregap_of.ensures.value c.own_time.ensures.value in
    let grown = grows_twice c.loop-i.text.items c.push_file.new.text.items c.push_entry.new.text.items (file_line (track_file (i + 1)) ∷ []) (entry_lines (i + 1) (first_only layout.pregap i) (first_only (slice_index layout.starts 0) i)) named entry in
    next_lines c.loop-i.text.items c.push_entry.new.text.items (split_text (toc_of layout)) (split_left layout.pregap i layout.starts) (own_lines layout.pregap i layout.starts) (split_left layout.pregap (i + 1) layout.starts)
    grown (split_next layout.pregap i layout.starts below) c.loop-i.invariant

pub returns : goal.returns
returns c =
    let layout = c.args.layout.now in
    let end : length layout.starts ≤ c.loop-i.i = omega (arith, c.loop-i-test.false, c.loop-i.auto.i-end, ap length c.as_slice-i-end.ensures) in
    all_written c.loop-i.text.items (split_text (toc_of layout)) (split_left layout.pregap c.loop-i.i layout.starts) (none_split layout.pregap c.loop-i.i layout.starts layout.valid.some end) c.loop-i.invariant
