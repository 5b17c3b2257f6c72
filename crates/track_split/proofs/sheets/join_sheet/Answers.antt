use Rattle.std.proofs.Common.{◌≡◌, ◌∙◌, ◌+◌, ◌<◌, ◌++◌, drop, length, ap, ap₂, rules, arith, get_or}
use Rattle.disc_toc.specs.Toc.{toc_of}
use Rattle.disc_ids.proofs.PlaceLaws.{start_below}
use Rattle.track_split.specs.Sheets.{entry_lines, first_only, join_text, joined_lines, text_of_lines}
use Rattle.track_split.proofs.WritingLaws.{joined_next, next_lines}
use Rattle.track_split.proofs.sheets.join_sheet.Goals as goal

pub push_entry-requires-clause-time : goal.push_entry-requires-clause-time
push_entry-requires-clause-time c =
    let layout = c.args.layout.now in
    let i = c.loop-i.i in
    let below : i < length layout.starts = omega (arith, c.loop-i-test.true, c.loop-i.auto.i-end, ap length c.as_slice-starts.ensures) in
    omega (arith, start_below layout.pregap layout.starts layout.sectors layout.valid i below, layout.valid.fits, ap (λ xs. get_or xs i 0) c.as_slice-starts.ensures)

pub loop-i-preserved : goal.loop-i-preserved
loop-i-preserved c =
    let layout = c.args.layout.now in
    let i = c.loop-i.i in
    let below : i < length layout.starts = omega (arith, c.loop-i-test.true, c.loop-i.auto.i-end, ap length c.as_slice-starts.ensures) in
    let start = get_or c.as_slice-starts.result.now i 0 in
    let entered : c.push_entry.new.text.items ≡ c.loop-i.text.items ++ text_of_lines (entry_lines (i + 1) c.pregap_of.result start) = search rules in
    let entry : c.push_entry.new.text.items ≡ c.loop-i.text.items ++ text_of_lines (entry_lines (i + 1) (first_only layout.pregap i) (get_or layout.starts i 0)) =
    entered ∙ ap₂ (λ gap time. c.loop-i.text.items ++ text_of_lines (entry_lines (i + 1) gap time)) c.pregap_of.ensures.value (ap (λ xs. get_or xs i 0) c.as_slice-starts.ensures) in
    next_lines c.loop-i.text.items c.push_entry.new.text.items (join_text c.args.name.now (toc_of layout)) (joined_lines (i + 1) (first_only layout.pregap i) (drop i layout.starts))
    (entry_lines (i + 1) (first_only layout.pregap i) (get_or layout.starts i 0)) (joined_lines (i + 1 + 1) (first_only layout.pregap (i + 1)) (drop (i + 1) layout.starts))
    entry (joined_next layout.pregap i layout.starts below) c.loop-i.invariant
