use Rattle.rip_commands.specs.Seen.{seen}
use Rattle.rip_words.specs.Command.{request_reading, texts}
use Rattle.rip_outside.proofs.FilesLaws.{when_told}
use Rattle.engine_steps.proofs.CrashingLaws.{safe_when}
use Rattle.cmd_batch.proofs.EndLaws.{decides as batch_decides, own_faults, takes as batch_takes, to_the_end}
use Rattle.cmd_batch.proofs.StopLaws.{survives as batch_survives}
use Rattle.rip_engine.proofs.AgainLaws.{read_again}
use Rattle.rip_engine.proofs.MergeLaws.{merges_by, survives_by}
use Rattle.rip_engine.proofs.RequestLaws.{of_batch, of_command}
use Rattle.rip_engine.proofs.StoredLaws.{stored_by}
use Rattle.rip_engine.proofs.Headline.{finds_damaged_of, repairs_of}
use Rattle.rip_engine.proofs.Ending.{decides, decides_without_files, read_has_cause, write_has_cause, sink_has_cause, memory_keeps, nothing_written, takes, trial_leaves, completes, answer_told, done_told}
use Rattle.rip_engine.proofs.run.Goals as goal

pub returns-clause-outcome : goal.returns-clause-outcome
returns-clause-outcome g c = of_command (request_reading (texts c.args.words.now)) _ _ (λ read ran. decides read (seen g.F.Shelf g.K.Sink c.args.files.now c.args.out.now) (seen g.F.Shelf g.K.Sink c.run_request.new.files c.run_request.new.out) ran.0 c.run_request.result ran.1.ran ran.2) c.run_request.ensures.one

pub returns-clause-no_file : goal.returns-clause-no_file
returns-clause-no_file g c = of_command (request_reading (texts c.args.words.now)) _ _ (λ read ran. decides_without_files read (seen g.F.Shelf g.K.Sink c.args.files.now c.args.out.now) (seen g.F.Shelf g.K.Sink c.run_request.new.files c.run_request.new.out) ran.0 c.run_request.result ran.1.ran ran.2 ran.1.no_file) c.run_request.ensures.one

pub returns-clause-stores : goal.returns-clause-stores
returns-clause-stores g c = of_command (request_reading (texts c.args.words.now)) _ _ (λ read ran. stored_by read (seen g.F.Shelf g.K.Sink c.args.files.now c.args.out.now) (seen g.F.Shelf g.K.Sink c.run_request.new.files c.run_request.new.out) c.run_request.result (decides read (seen g.F.Shelf g.K.Sink c.args.files.now c.args.out.now) (seen g.F.Shelf g.K.Sink c.run_request.new.files c.run_request.new.out) ran.0 c.run_request.result ran.1.ran ran.2)) c.run_request.ensures.one

pub returns-clause-repairs : goal.returns-clause-repairs
returns-clause-repairs g c = of_command (request_reading (texts c.args.words.now)) _ _ (λ read ran. repairs_of read (seen g.F.Shelf g.K.Sink c.args.files.now c.args.out.now) (seen g.F.Shelf g.K.Sink c.run_request.new.files c.run_request.new.out) c.run_request.result (decides read (seen g.F.Shelf g.K.Sink c.args.files.now c.args.out.now) (seen g.F.Shelf g.K.Sink c.run_request.new.files c.run_request.new.out) ran.0 c.run_request.result ran.1.ran ran.2) (completes read (seen g.F.Shelf g.K.Sink c.args.files.now c.args.out.now) (seen g.F.Shelf g.K.Sink c.run_request.new.files c.run_request.new.out) ran.0 c.run_request.result ran.1.ran ran.2)) c.run_request.ensures.one

pub returns-clause-finds_damaged : goal.returns-clause-finds_damaged
returns-clause-finds_damaged g c = of_command (request_reading (texts c.args.words.now)) _ _ (λ read ran. finds_damaged_of read (seen g.F.Shelf g.K.Sink c.args.files.now c.args.out.now) (seen g.F.Shelf g.K.Sink c.run_request.new.files c.run_request.new.out) c.run_request.result (decides read (seen g.F.Shelf g.K.Sink c.args.files.now c.args.out.now) (seen g.F.Shelf g.K.Sink c.run_request.new.files c.run_request.new.out) ran.0 c.run_request.result ran.1.ran ran.2) (completes read (seen g.F.Shelf g.K.Sink c.args.files.now c.args.out.now) (seen g.F.Shelf g.K.Sink c.run_request.new.files c.run_request.new.out) ran.0 c.run_request.result ran.1.ran ran.2) (repairs_of read (seen g.F.Shelf g.K.Sink c.args.files.now c.args.out.now) (seen g.F.Shelf g.K.Sink c.run_request.new.files c.run_request.new.out) c.run_request.result (decides read (seen g.F.Shelf g.K.Sink c.args.files.now c.args.out.now) (seen g.F.Shelf g.K.Sink c.run_request.new.files c.run_request.new.out) ran.0 c.run_request.result ran.1.ran ran.2) (completes read (seen g.F.Shelf g.K.Sink c.args.files.now c.args.out.now) (seen g.F.Shelf g.K.Sink c.run_request.new.files c.run_request.new.out) ran.0 c.run_request.result ran.1.ran ran.2))) c.run_request.ensures.one

pub returns-clause-reads_again : goal.returns-clause-reads_again
returns-clause-reads_again g c = of_command (request_reading (texts c.args.words.now)) _ _ (λ read ran. read_again read (seen g.F.Shelf g.K.Sink c.args.files.now c.args.out.now) (seen g.F.Shelf g.K.Sink c.run_request.new.files c.run_request.new.out) c.run_request.result (decides read (seen g.F.Shelf g.K.Sink c.args.files.now c.args.out.now) (seen g.F.Shelf g.K.Sink c.run_request.new.files c.run_request.new.out) ran.0 c.run_request.result ran.1.ran ran.2) (λ is. ran.1.names (done_told ran.0 _ _ _ _ c.run_request.result ran.2 is))) c.run_request.ensures.one

pub returns-clause-merges : goal.returns-clause-merges
returns-clause-merges g c = of_command (request_reading (texts c.args.words.now)) _ _ (λ read ran. merges_by read (seen g.F.Shelf g.K.Sink c.args.files.now c.args.out.now) (seen g.F.Shelf g.K.Sink c.run_request.new.files c.run_request.new.out) c.run_request.result (decides read (seen g.F.Shelf g.K.Sink c.args.files.now c.args.out.now) (seen g.F.Shelf g.K.Sink c.run_request.new.files c.run_request.new.out) ran.0 c.run_request.result ran.1.ran ran.2)) c.run_request.ensures.one

pub returns-clause-read_fault : goal.returns-clause-read_fault
returns-clause-read_fault g c = of_command (request_reading (texts c.args.words.now)) _ _ (λ read ran. read_has_cause read (seen g.F.Shelf g.K.Sink c.args.files.now c.args.out.now) (seen g.F.Shelf g.K.Sink c.run_request.new.files c.run_request.new.out) ran.0 c.run_request.result ran.1.ran ran.2) c.run_request.ensures.one

pub returns-clause-write_fault : goal.returns-clause-write_fault
returns-clause-write_fault g c = of_command (request_reading (texts c.args.words.now)) _ _ (λ read ran. write_has_cause read (seen g.F.Shelf g.K.Sink c.args.files.now c.args.out.now) (seen g.F.Shelf g.K.Sink c.run_request.new.files c.run_request.new.out) ran.0 c.run_request.result ran.1.ran ran.2) c.run_request.ensures.one

pub returns-clause-sink_fault : goal.returns-clause-sink_fault
returns-clause-sink_fault g c = of_command (request_reading (texts c.args.words.now)) _ _ (λ read ran. sink_has_cause read (seen g.F.Shelf g.K.Sink c.args.files.now c.args.out.now) (seen g.F.Shelf g.K.Sink c.run_request.new.files c.run_request.new.out) ran.0 c.run_request.result ran.1.ran ran.2) c.run_request.ensures.one

pub returns-clause-want_of_memory : goal.returns-clause-want_of_memory
returns-clause-want_of_memory g c = of_command (request_reading (texts c.args.words.now)) _ _ (λ read ran. memory_keeps read (seen g.F.Shelf g.K.Sink c.args.files.now c.args.out.now) (seen g.F.Shelf g.K.Sink c.run_request.new.files c.run_request.new.out) ran.0 c.run_request.result ran.1.ran ran.2) c.run_request.ensures.one

pub returns-clause-nothing_written : goal.returns-clause-nothing_written
returns-clause-nothing_written g c = of_command (request_reading (texts c.args.words.now)) _ _ (λ read ran. nothing_written read (seen g.F.Shelf g.K.Sink c.args.files.now c.args.out.now) (seen g.F.Shelf g.K.Sink c.run_request.new.files c.run_request.new.out) ran.0 c.run_request.result ran.1.ran ran.2) c.run_request.ensures.one

pub returns-clause-completes : goal.returns-clause-completes
returns-clause-completes g c = of_command (request_reading (texts c.args.words.now)) _ _ (λ read ran. completes read (seen g.F.Shelf g.K.Sink c.args.files.now c.args.out.now) (seen g.F.Shelf g.K.Sink c.run_request.new.files c.run_request.new.out) ran.0 c.run_request.result ran.1.ran ran.2) c.run_request.ensures.one

pub returns-clause-bytes_taken : goal.returns-clause-bytes_taken
returns-clause-bytes_taken g c = of_command (request_reading (texts c.args.words.now)) _ _ (λ read ran. takes read (seen g.F.Shelf g.K.Sink c.args.files.now c.args.out.now) (seen g.F.Shelf g.K.Sink c.run_request.new.files c.run_request.new.out) ran.0 c.run_request.result ran.1.ran ran.2) c.run_request.ensures.one

pub returns-clause-trial_leaves_files : goal.returns-clause-trial_leaves_files
returns-clause-trial_leaves_files g c = of_command (request_reading (texts c.args.words.now)) _ _ (λ read ran. trial_leaves read (seen g.F.Shelf g.K.Sink c.args.files.now c.args.out.now) (seen g.F.Shelf g.K.Sink c.run_request.new.files c.run_request.new.out) ran.0 c.run_request.result ran.1.ran ran.2) c.run_request.ensures.one

pub returns-clause-survives : goal.returns-clause-survives
returns-clause-survives g c = of_command (request_reading (texts c.args.words.now)) _ _ (λ read ran. safe_when _ _ _ _ _ (λ is. answer_told ran.0 _ _ _ _ c.run_request.result ran.2 is) ran.1.crashes) c.run_request.ensures.one

pub returns-clause-merge_survives : goal.returns-clause-merge_survives
returns-clause-merge_survives g c = of_command (request_reading (texts c.args.words.now)) _ _ (λ read ran.
    let tells = g.met.F.Shelf.tells_held in
    let merged = merges_by read (seen g.F.Shelf g.K.Sink c.args.files.now c.args.out.now) (seen g.F.Shelf g.K.Sink c.run_request.new.files c.run_request.new.out) c.run_request.result (decides read (seen g.F.Shelf g.K.Sink c.args.files.now c.args.out.now) (seen g.F.Shelf g.K.Sink c.run_request.new.files c.run_request.new.out) ran.0 c.run_request.result ran.1.ran ran.2) in
    survives_by read c.run_request.result (g.F.Shelf.held c.args.files.now) (g.F.Shelf.held c.run_request.new.files) (g.F.Shelf.crashes c.args.files.now) (g.F.Shelf.crashes c.run_request.new.files)
    (tells c.args.files.now) (tells c.run_request.new.files) (safe_when _ _ _ _ _ (λ is. answer_told ran.0 _ _ _ _ c.run_request.result ran.2 is) ran.1.crashes)
    (λ from to files is ended told. let held = when_told (g.F.Shelf.held c.args.files.now) _ (merged from to is ended) files told in (held.0, held.1, held.2))) c.run_request.ensures.one

pub returns-clause-batch_outcome : goal.returns-clause-batch_outcome
returns-clause-batch_outcome g c = of_batch (request_reading (texts c.args.words.now)) _ _ (λ list ran. batch_decides list (seen g.F.Shelf g.K.Sink c.args.files.now c.args.out.now) (seen g.F.Shelf g.K.Sink c.run_request.new.files c.run_request.new.out) (g.F.Shelf.crashes c.args.files.now) (g.F.Shelf.crashes c.run_request.new.files) c.run_request.result ran) c.run_request.ensures.batch

pub returns-clause-batch_own_faults : goal.returns-clause-batch_own_faults
returns-clause-batch_own_faults g c = of_batch (request_reading (texts c.args.words.now)) _ _ (λ list ran. own_faults list (seen g.F.Shelf g.K.Sink c.args.files.now c.args.out.now) (seen g.F.Shelf g.K.Sink c.run_request.new.files c.run_request.new.out) (g.F.Shelf.crashes c.args.files.now) (g.F.Shelf.crashes c.run_request.new.files) c.run_request.result ran) c.run_request.ensures.batch

pub returns-clause-batch_to_the_end : goal.returns-clause-batch_to_the_end
returns-clause-batch_to_the_end g c = of_batch (request_reading (texts c.args.words.now)) _ _ (λ list ran. to_the_end list (seen g.F.Shelf g.K.Sink c.args.files.now c.args.out.now) (seen g.F.Shelf g.K.Sink c.run_request.new.files c.run_request.new.out) (g.F.Shelf.crashes c.args.files.now) (g.F.Shelf.crashes c.run_request.new.files) c.run_request.result ran) c.run_request.ensures.batch

pub returns-clause-batch_bytes_taken : goal.returns-clause-batch_bytes_taken
returns-clause-batch_bytes_taken g c = of_batch (request_reading (texts c.args.words.now)) _ _ (λ list ran. batch_takes list (seen g.F.Shelf g.K.Sink c.args.files.now c.args.out.now) (seen g.F.Shelf g.K.Sink c.run_request.new.files c.run_request.new.out) (g.F.Shelf.crashes c.args.files.now) (g.F.Shelf.crashes c.run_request.new.files) c.run_request.result ran) c.run_request.ensures.batch

pub returns-clause-batch_survives : goal.returns-clause-batch_survives
returns-clause-batch_survives g c =
    let tells = g.met.F.Shelf.tells_held in
    of_batch (request_reading (texts c.args.words.now)) _ _ (λ list ran. batch_survives list (seen g.F.Shelf g.K.Sink c.args.files.now c.args.out.now) (seen g.F.Shelf g.K.Sink c.run_request.new.files c.run_request.new.out) (g.F.Shelf.crashes c.args.files.now) (g.F.Shelf.crashes c.run_request.new.files) c.run_request.result
    (tells c.args.files.now) (tells c.run_request.new.files) ran) c.run_request.ensures.batch
