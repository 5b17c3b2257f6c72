use Rattle.std.proofs.Common.{◌∙◌, codes, refl}
use Rattle.toml.proofs.Views.{table_get}
use Rattle.batch_list.proofs.reading.disc_array.Goals as goal

pub returns-in_err-get : goal.returns-in_err-get
returns-in_err-get c =
    let found = table_get c.get.result (codes "disc") c.args.document.now.entries c.get.ensures.value in
    rw (c.from_residual.ensures, ← rw c.in_err-get.was at found) refl

pub returns : goal.returns
returns c =
    let found = table_get c.get.result (codes "disc") c.args.document.now.entries c.get.ensures.value in
    c.as_array.ensures ∙ rw (← rw c.in_ok-get.was at found) refl
