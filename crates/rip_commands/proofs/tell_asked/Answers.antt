use Rattle.std.proofs.Common.{◌≡◌, Err, Ok, rules, subst}
use Rattle.std.specs.Prelude.{IfOk, Result}
use Rattle.rip_words.specs.Command.{MayRunCommand}
use Rattle.rip_words.specs.declared.Command.{Command}
use Rattle.rip_words.specs.declared.WordsFail.{WordsFail}
use Rattle.rip_words.specs.declared.WordsFail.TheVariants.{Usage as UsageFail}
use Rattle.rip_commands.specs.Look.{look}
use Rattle.rip_commands.proofs.RanLaws.{reads_command, reads_usage, told_usage, told_wanting}
use Rattle.rip_commands.proofs.tell_asked.Goals as goal

pub returns-in-Ok : goal.returns-in-Ok
returns-in-Ok g c = λ read is.
    let was : c.args.asked ≡ Ok c.in-Ok.command = search rules in
    let may : MayRunCommand c.in-Ok.command = subst (λ (a : Result Command WordsFail). IfOk a MayRunCommand) was c.requires in
    rw (reads_command c.args.asked c.in-Ok.command read was is) (record {
      ran = c.tell.ensures.ran;
      crashes = c.tell.ensures.crashes;
      no_file = c.tell.ensures.no_file;
      names = λ _. may.names;
    })

pub returns-in-Err-Usage : goal.returns-in-Err-Usage
returns-in-Err-Usage g c = λ read is.
    let was : c.args.asked ≡ Err (UsageFail c.in-Err-Usage.word) = search rules in
    rw (reads_usage c.args.asked c.in-Err-Usage.word read was is) (told_usage c.in-Err-Usage.word (look g.F.Shelf c.args.shelf.now) _ c.refuse.result c.refuse.ensures)

pub returns-in-Err-Oom : goal.returns-in-Err-Oom
returns-in-Err-Oom g c = λ read is. told_wanting read (look g.F.Shelf c.args.shelf.now) _ c.wanting.result c.wanting.ensures
