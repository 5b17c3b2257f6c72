use Rattle.std.proofs.Common.{◌≡◌, ◌∙◌, sym, ap, rules, map}
use Rattle.std.specs.Prelude.{filter}
use Rattle.std.specs.FinMap.{keys}
use Rattle.std.specs.Map.{keys_of}
use Rattle.std.specs.Map.Iter.{deref}
use Rattle.std.specs.String.{string_bytes}
use Rattle.std.proofs.lemmas.Map.Iter.{iter_end}
use Rattle.rip_outside.specs.Files.{Files}
use Rattle.rip_outside.specs.Listing.{names_in, stands_in}
use Rattle.rip_memory.specs.FileTable.{files_in}
use Rattle.rip_memory.proofs.KeyLaws.{keys_in}
use Rattle.rip_memory.proofs.file_table.FileTable.names_in.Goals as goal

pub returns : goal.returns
returns c =
    let es = c.self.inside.files.entries in
    let all : map deref c.loop-name.yielded ≡ keys_of es = search (rules, iter_end) in
    let names : map string_bytes (map deref c.loop-name.yielded) ≡ keys (files_in es) = ap (map string_bytes) all ∙ sym (keys_in es c.keys-name-items.ensures.ordered) in
    c.of.ensures ∙ c.loop-name.invariant ∙ ap (filter (stands_in c.args.folder.now)) names ∙ ap (λ (files : Files). names_in c.args.folder.now files) c.self.view_is
