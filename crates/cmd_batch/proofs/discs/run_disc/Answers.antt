use Rattle.std.proofs.lemmas.Result.{err_from_is_err_and}
use Rattle.rip_words.specs.Command.{texts}
use Rattle.cmd_batch.proofs.ChainLaws.{begun_anew}
use Rattle.cmd_batch.proofs.discs.run_disc.Goals as goal

pub returns-in_err-put_part : goal.returns-in_err-put_part
returns-in_err-put_part g c =
    let fail = err_from_is_err_and c.from_residual.result c.from_residual.ensures.1 in
    let told = c.tell_words-told.result in
    let begun = c.forget.ensures in
    let ran = begun_anew g.F.Shelf (texts c.as_slice.result.now) c.args.words.now c.args.files.now c.forget.new.self c.tell_words-told.new.shelf told c.as_slice.ensures begun.same begun.faults begun.taken begun.crashes c.tell_words-told.ensures in
    rw (fail.1, fail.2) (told, ran, c.in_err-put_part.ensures.part)

pub returns : goal.returns
returns g c =
    let told = c.tell_words-told.result in
    let begun = c.forget.ensures in
    let ran = begun_anew g.F.Shelf (texts c.as_slice.result.now) c.args.words.now c.args.files.now c.forget.new.self c.tell_words-told.new.shelf told c.as_slice.ensures begun.same begun.faults begun.taken begun.crashes c.tell_words-told.ensures in
    (told, ran, c.in_ok-put_part.ensures.later, c.in_ok-put_part.ensures.part, c.is_done.ensures)
