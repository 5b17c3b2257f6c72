-- A rip and a response have one list of matches, and how many bytes are read for it.
use Rattle.std.proofs.Common.{◌≡◌, ◌∙◌, ◌+◌, ◌≤◌, ◌++◌, ◌∷◌, [], ℕ, List, length, Option, Some, Result, Ok, Err, ap, sym, arith, zero-add}
use Rattle.std.specs.Option.{option_to_list}
use Rattle.rip_outside.specs.Files.{Files, bytes_at}
use Rattle.accurip_match.specs.Name.{response_name}
use Rattle.accurip_match.specs.declared.block.Block.{Block}
use Rattle.accurip_match.specs.declared.listing.Match.{Match}
use Rattle.accurip_match.proofs.ListedLaws.{one_list}
use Rattle.accurip_match.proofs.ResponseLaws.{none_cut, one_cut, one_response}
use Rattle.rip_inputs.specs.Opening.{Opened, lengths_of, names_read}
use Rattle.rip_inputs.proofs.LengthLaws.{lengths_of-append}
use Rattle.rip_report.specs.Matches.{matches_text}
use Rattle.rip_report.specs.declared.status.ResponseKind.TheVariants.{Cut}
use Rattle.rip_report.specs.declared.status.Status.{Status}
use Rattle.rip_report.specs.declared.status.Status.TheVariants.{Done, ResponseRefused}
use Rattle.engine_steps.specs.Steps.{opened}
use Rattle.engine_steps.specs.Outcome.{Outcome, answered}
use Rattle.engine_steps.proofs.OutcomeLaws.{then_of_one, then_one}
use Rattle.cmd_match.specs.MatchOutcome.{AreRead, IsMatchOutcome, matched_names, response_bytes, response_under}

-- a response is read in one way
read_once : (bytes : List ℕ) (p q : Result (List Block) Status) → AreRead bytes p → AreRead bytes q → p ≡ q
read_once bytes (Ok blocks) (Ok blocks') is also = ap Ok (one_response bytes blocks blocks' is also)
read_once bytes (Ok blocks) (Err status) is also = absurd (none_cut bytes blocks also.1 also.0 is also.2 also.3)
read_once bytes (Err status) (Ok blocks) is also = absurd (none_cut bytes blocks is.1 is.0 also is.2 is.3)
read_once bytes (Err status) (Err status') is also =
    ap Err (is.4 ∙ ap (λ at. ResponseRefused (Cut at)) (one_cut bytes is.1 also.1 is.0 also.0 is.2 also.2 is.3 also.3) ∙ sym also.4)

-- the words and the files have one outcome
pub match_once : (input resp : List ℕ) (files : Files) (a b : Outcome) → IsMatchOutcome input resp files a → IsMatchOutcome input resp files b → a ≡ b
match_once input resp files a b is also =
    then_one (opened input files) _ a b
    (λ rip _. then_one (response_bytes (response_name resp rip.toc) files) _ a b
    (λ bytes _. then_of_one (AreRead bytes) _ a b (read_once bytes)
    (λ blocks _ is also. is.2 ∙ ap (λ (list : List Match). answered Done (matches_text list)) (one_list rip.toc blocks rip.words is.0 also.0 is.1 also.1) ∙ sym also.2)))
    is also

-- ---- the bytes of the files that are read

-- those of the rip's files and of the response
pub with_response : (input resp : List ℕ) (files : Files) (rip : Opened) → opened input files ≡ Ok rip
    → lengths_of (matched_names input resp files) files ≡ lengths_of (names_read input files) files + length (bytes_at (response_name resp rip.toc) files)
with_response input resp files rip is =
    let name = response_name resp rip.toc in
    let under : response_under resp (opened input files) ≡ Some name = ap (response_under resp) is in
    let named : lengths_of (matched_names input resp files) files ≡ lengths_of (names_read input files ++ name ∷ []) files = ap (λ (names : Option (List ℕ)). lengths_of (names_read input files ++ option_to_list names) files) under in
    let both = lengths_of-append (names_read input files) (name ∷ []) files in
    let one : lengths_of (name ∷ []) files ≡ length (bytes_at name files) = zero-add (length (bytes_at name files)) in
    named ∙ both ∙ ap (λ n. lengths_of (names_read input files) files + n) one

pub rip_matched : (input resp : List ℕ) (files : Files) → lengths_of (names_read input files) files ≤ lengths_of (matched_names input resp files) files
rip_matched input resp files =
    let parts = lengths_of-append (names_read input files) (option_to_list (response_under resp (opened input files))) files in omega (arith, parts)
