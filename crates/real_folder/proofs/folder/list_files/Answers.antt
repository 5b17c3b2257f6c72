use Rattle.std.proofs.Common.{◌∙◌, ap}
use Rattle.real_folder.proofs.ListingLaws.{grown_inside, none_sorted, texts_inside}
use Rattle.real_folder.proofs.folder.list_files.Goals as goal
use Rattle.real_folder.proofs.folder.list_files.Goals.{then-branch+in_ok-name_in+in_ok-insert, else-branch}

pub loop-entry-preserved : goal.loop-entry-preserved
loop-entry-preserved g c = elim c.if-branch.branch [
  | then-branch+in_ok-name_in+in_ok-insert w ↦
      grown_inside c.args.folder.now c.loop-entry.names.keys w.insert.new.self.keys c.if-branch.names.keys w.in_ok-name_in.field-0 (ap (λ s. s.keys) w.names-is) w.in_ok-insert.ensures.keys c.loop-entry.invariant w.in_ok-name_in.ensures
  | else-branch w ↦ rw w.names-is c.loop-entry.invariant
]

pub returns-clause-inside : goal.returns-clause-inside
returns-clause-inside g c = texts_inside c.args.folder.now c.loop-entry.names.keys c.in_ok-in_order.field-0 c.in_ok-in_order.ensures.names c.loop-entry.invariant

pub returns-in_default-clause-ordered : goal.returns-in_default-clause-ordered
returns-in_default-clause-ordered g c = none_sorted c.of.result (c.of.ensures ∙ c.new.ensures.items)
