use Rattle.std.proofs.Common.{◌≡◌, ◌∙◌, ℕ, ◌+◌, ◌<◌, ◌≤◌, List, [], ◌∷◌, ◌++◌, length, take, get_or, Global, Ok, Err, Vec, arith, rules, ap₂}
use Rattle.std.specs.FinMap.{get}
use Rattle.std.proofs.lemmas.Result.{err_from_is_err_and}
use Rattle.std.proofs.lemmas.List.{map-append, take_more}
use Rattle.std.proofs.lemmas.List.Elements.{All-push}
use Rattle.std.proofs.lemmas.List.Sums.{sum_by_more, sum_by_more_le}
use Rattle.rip_outside.specs.Files.{Files, bytes_at}
use Rattle.rip_outside.proofs.FilesLaws.{if_told, when_told}
use Rattle.rip_outside.proofs.ReadingLaws.{reads_none, reads_twice}
use Rattle.image_mender.specs.Joined.{EndsInRange, IsInFile, part_words}
use Rattle.image_mender.specs.declared.image.Part.{Part}
use Rattle.rip_inputs.specs.Opening.{lengths_of, wav_opened, wavs_opened}
use Rattle.rip_inputs.specs.Telling.{TellsOpening, IsShort, wavs_of}
use Rattle.rip_inputs.proofs.StepLaws.{TellsOpening-Err, OpeningTakes-Err, TookAtMost-none, TookAtMost-more, TookAtMost-told}
use Rattle.rip_inputs.proofs.WavLaws.{none_opened, wavs_opened-more, wavs_opened-refused}
use Rattle.rip_inputs.proofs.wavs.open_wavs.Goals as goal

-- the files so far and the next one are among all of them
within_all : (names : List (List ℕ)) (i : ℕ) (name : List ℕ) (files : Files) → i < length names → name ≡ get_or names i name → lengths_of (take i names) files + length (bytes_at name files) ≤ lengths_of names files
within_all names i name files inside is = rw is (sum_by_more_le (λ name. length (bytes_at name files)) names i name inside)

one_more : (names : List (List ℕ)) (i : ℕ) (name : List ℕ) (files : Files) → i < length names → name ≡ get_or names i name → lengths_of (take i names) files + length (bytes_at name files) ≤ lengths_of (take (i + 1) names) files
one_more names i name files inside is = rw (sum_by_more (λ name. length (bytes_at name files)) names i name inside, ← is) (omega arith)

pub loop-name-init : goal.loop-name-init
loop-name-init g c =
    let none : c.new-parts.result.items ≡ [] = c.new-parts.ensures.items in
    record {
      read = λ files told. rw none (none_opened files);
      inside = search rules;
      named = search rules;
      short = search rules;
      ends = search rules;
      only = reads_none _ _;
      took = TookAtMost-none _ _ _;
    }

pub returns-in_err-part-clause-answer : goal.returns-in_err-part-clause-answer
returns-in_err-part-clause-answer g c =
    let l = c.loop-name in
    let name = c.name-item.result in
    let p = err_from_is_err_and c.from_residual.result c.from_residual.ensures.1 in
    rw (p.1, p.2) (if_told (g.S.Shelf.held c.args.shelf.now) _ (λ files told.
    let refused = when_told (g.S.Shelf.held l.shelf) (λ files. TellsOpening {T = Part} (λ part. part_words part files) (Err c.in_err-part.field-0.0) (wav_opened c.as_str.result.now (get files c.as_str.result.now)))
    c.in_err-part.ensures.answer files (l.invariant.only.same ∙ told) in
    TellsOpening-Err {U = Vec Part Global} (λ (part : Part). part_words part files) (λ parts. wavs_of parts.items files) (wav_opened name (get files name)) (wavs_opened c.args.names.now files) c.in_err-part.field-0.0
    (rw c.as_str.ensures at refused)
    (λ refusal e. wavs_opened-refused c.args.names.now l.name-index name files (wavs_of l.parts.items files) refusal (omega arith) c.name-item.is (l.invariant.read files told) e)))

pub returns-in_err-part-clause-taken : goal.returns-in_err-part-clause-taken
returns-in_err-part-clause-taken g c =
    let l = c.loop-name in
    let name = c.name-item.result in
    let p = err_from_is_err_and c.from_residual.result c.from_residual.ensures.1 in
    rw (p.1, p.2) (OpeningTakes-Err Part (Vec Part Global) (g.S.Shelf.held c.args.shelf.now) (g.S.Shelf.held l.shelf) (lengths_of (take l.name-index c.args.names.now)) (λ files. length (bytes_at c.as_str.result.now files)) (lengths_of c.args.names.now) c.in_err-part.field-0.0 _ _ _
    l.invariant.took l.invariant.only.same (λ files told. rw c.as_str.ensures (within_all c.args.names.now l.name-index name files (omega arith) c.name-item.is)) c.in_err-part.ensures.taken)

pub returns-then-is_err-clause-taken : goal.returns-then-is_err-clause-taken
returns-then-is_err-clause-taken g c =
    let l = c.loop-name in
    let name = c.name-item.result in
    TookAtMost-told _ _ _ _ (TookAtMost-more (g.S.Shelf.held c.args.shelf.now) (g.S.Shelf.held l.shelf) (lengths_of (take l.name-index c.args.names.now)) (λ files. length (bytes_at name files)) (lengths_of c.args.names.now) _ _ _
    l.invariant.took l.invariant.only.same (λ files told. within_all c.args.names.now l.name-index name files (omega arith) c.name-item.is) (rw c.as_str.ensures at c.in_ok-part.ensures.taken))

pub loop-name-preserved : goal.loop-name-preserved
loop-name-preserved g c =
    let l = c.loop-name in
    let name = c.name-item.result in
    let part = c.in_ok-part.part in
    let pushed : c.push.new.self.items ≡ l.parts.items ++ part ∷ [] = search rules in
    let same_name : part.name ≡ name = c.in_ok-part.ensures.named ∙ c.as_str.ensures in
    record {
      read = λ files told.
          let here : wav_opened name (get files name) ≡ Ok (part_words part files) = rw c.as_str.ensures at (when_told (g.S.Shelf.held l.shelf) (λ files. wav_opened c.as_str.result.now (get files c.as_str.result.now) ≡ Ok (part_words part files)) c.in_ok-part.ensures.answer files (l.invariant.only.same ∙ told)) in
          rw (pushed, map-append) (wavs_opened-more c.args.names.now l.name-index name files (wavs_of l.parts.items files) (part_words part files) (omega arith) c.name-item.is (l.invariant.read files told) here);
      inside = λ files told.
          rw pushed (All-push (λ (part : Part). IsInFile part files) l.parts.items part (l.invariant.inside files told) (when_told (g.S.Shelf.held l.shelf) (λ files. IsInFile part files) c.in_ok-part.ensures.inside files (l.invariant.only.same ∙ told)));
      named = rw (pushed, map-append, take_more c.args.names.now l.name-index name (omega arith)) (ap₂ (λ x y. x ++ y ∷ []) l.invariant.named (same_name ∙ c.name-item.is));
      short = rw pushed (All-push IsShort l.parts.items part l.invariant.short c.in_ok-part.ensures.short);
      ends = rw pushed (All-push EndsInRange l.parts.items part l.invariant.ends c.in_ok-part.ensures.ends);
      only = reads_twice _ _ _ _ l.invariant.only c.in_ok-part.ensures.only;
      took = TookAtMost-more (g.S.Shelf.held c.args.shelf.now) (g.S.Shelf.held l.shelf) (lengths_of (take l.name-index c.args.names.now)) (λ files. length (bytes_at name files)) (lengths_of (take (l.name-index + 1) c.args.names.now)) _ _ _
          l.invariant.took l.invariant.only.same (λ files told. one_more c.args.names.now l.name-index name files (omega arith) c.name-item.is) (rw c.as_str.ensures at c.in_ok-part.ensures.taken);
    }

pub returns-in_err-part-clause-only : goal.returns-in_err-part-clause-only
returns-in_err-part-clause-only g c = reads_twice _ _ _ _ c.loop-name.invariant.only c.open_part.ensures.only

pub returns-then-is_err-clause-only : goal.returns-then-is_err-clause-only
returns-then-is_err-clause-only g c = reads_twice _ _ _ _ c.loop-name.invariant.only c.open_part.ensures.only
