use Rattle.accurip_sums.specs.declared.pair.Sums.{Sums}
use Rattle.rip_report.specs.Sums.{track_lines}
use Rattle.rip_report.proofs.SumLaws.{track_lines_more}
use Rattle.rip_report.proofs.sums.track_lines.Goals as goal

pub loop-i-init : goal.loop-i-init
unfolding track_lines
loop-i-init c = c.new-text.ensures.bytes

pub loop-i-preserved : goal.loop-i-preserved
loop-i-preserved c =
    let none : Sums = record { v1 = 0; v2 = 0 } in
    let more = track_lines_more c.args.sums.now c.loop-i.i none c.loop-i-test.true in
    cc (more, c.in_ok-line.ensures, c.in_ok-push_str.ensures.bytes)
