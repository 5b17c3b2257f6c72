use Rattle.std.proofs.Common.{◌≡◌, ◌+◌, arith, ◌∙◌, sym, refl, Ok, Err, length}
use Rattle.std.proofs.lemmas.Bool.{eqb-true}
use Rattle.cue_sheet.specs.Reading.{line_reading, sheet_end, sheet_of}
use Rattle.cue_sheet.specs.Progress.{state_of}
use Rattle.cue_sheet.proofs.ReadingLaws.{next_line, refused_line, at_end, sheet_read}
use Rattle.cue_sheet.proofs.SoundLaws.{line_sound}
use Rattle.cue_sheet.proofs.reading.read_cue.Goals as goal

pub loop-rest-preserved : goal.loop-rest-preserved
loop-rest-preserved c =
    let l = c.loop-rest in
    let split = c.split_line.ensures.lines in
    let read : line_reading (state_of l.progress) c.split_line.result.0.now ≡ Ok (state_of c.read_line.new.progress) = c.in-Ok.ensures in
    record {
      reading = l.invariant.reading ∙ next_line (l.line + 1) (state_of l.progress) (state_of c.read_line.new.progress) _ l.rest.now _ split read;
      sound = line_sound (state_of l.progress) _ _ l.invariant.sound read;
      few = omega (arith, c.split_line.ensures.shorter);
    }

pub returns-in-Err-Refused : goal.returns-in-Err-Refused
returns-in-Err-Refused c =
    let l = c.loop-rest in
    let refused : line_reading (state_of l.progress) c.split_line.result.0.now ≡ Err c.in-Err-Refused.kind = rw c.in-Err-Refused.field-0-is at c.in-Err-Refused.ensures in
    rw c.in-Err-Refused.kind-is (sheet_read c.args.bytes.now ∙ l.invariant.reading ∙ refused_line (l.line + 1) (state_of l.progress) c.in-Err-Refused.kind _ l.rest.now _ c.split_line.ensures.lines refused)

pub returns-in-Ok-finish : goal.returns-in-Ok-finish
returns-in-Ok-finish c =
    let l = c.loop-rest in
    let none : length l.rest.now ≡ 0 = eqb-true _ 0 (sym c.loop-rest-test.ensures) in
    let whole : sheet_end (state_of l.progress) ≡ Ok (sheet_of c.in-Ok-finish.cue) = c.in-Ok-finish.ensures in
    at_end c.args.bytes.now l.rest.now (l.line + 1) (state_of l.progress) none l.invariant.reading ∙ rw whole refl

pub returns-in-Err : goal.returns-in-Err
returns-in-Err c =
    let l = c.loop-rest in
    let none : length l.rest.now ≡ 0 = eqb-true _ 0 (sym c.loop-rest-test.ensures) in
    let whole : sheet_end (state_of l.progress) ≡ Err c.in-Err.kind = c.in-Err.ensures in
    at_end c.args.bytes.now l.rest.now (l.line + 1) (state_of l.progress) none l.invariant.reading ∙ rw whole refl
