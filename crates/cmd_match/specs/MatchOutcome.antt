-- What `match` comes to.
use Rattle.std.specs.Prelude.{◌≡◌, ℕ, List, ◌++◌, length, nat_le, Option, None, Some, Result, Ok, Err, if◌then◌else◌}
use Rattle.std.specs.FinMap.{get}
use Rattle.std.specs.Option.{option_to_list}
use Rattle.rip_outside.specs.Files.{Files}
use Rattle.accurip_match.specs.Matching.{AreMatches}
use Rattle.accurip_match.specs.Name.{response_name}
use Rattle.accurip_match.specs.Response.{AreBlocks, IsCut}
use Rattle.accurip_match.specs.declared.block.Block.{Block}
use Rattle.accurip_match.specs.declared.listing.Match.{Match}
use Rattle.rip_inputs.specs.Opening.{Opened, names_read}
use Rattle.rip_report.specs.Matches.{matches_text}
use Rattle.rip_report.specs.declared.status.ResponseKind.TheVariants.{Cut, TooLong}
use Rattle.rip_report.specs.declared.status.Status.{Status}
use Rattle.rip_report.specs.declared.status.Status.TheVariants.{Done, NoResponse, ResponseRefused}
use Rattle.engine_steps.specs.Steps.{opened}
use Rattle.engine_steps.specs.Outcome.{Outcome, Then, ThenOf, answered}

-- the bytes of the file with this name, which is held and has at most 65,536 of them
abbrev pub response_found : List ℕ → Option (List ℕ) → Result (List ℕ) Status
response_found name None = Err (NoResponse name)
response_found name (Some bytes) = if nat_le (length bytes) 65536 then Ok bytes else Err (ResponseRefused TooLong)

abbrev pub response_bytes : List ℕ → Files → Result (List ℕ) Status
response_bytes name files = response_found name (get files name)

-- the bytes are these blocks to their end, or a block that begins at some place among them is cut
abbrev pub AreRead : List ℕ → Result (List Block) Status → Type 0
AreRead bytes (Ok blocks) = AreBlocks bytes 0 (length bytes) blocks
AreRead bytes (Err status) = (at : ℕ) × (before : List Block) × AreBlocks bytes 0 at before × IsCut bytes at × (status ≡ ResponseRefused (Cut at))

-- what is told are all matches of the rip with these blocks, and no others
abbrev pub IsMatchedBy : Opened → List Block → Outcome → Type 0
IsMatchedBy rip blocks outcome = (matches : List Match) × AreMatches rip.toc blocks rip.words matches × (outcome ≡ answered Done (matches_text matches))

-- `match INPUT RESP` tells the matches of the rip INPUT with the response of its disc under RESP.
abbrev pub IsMatchOutcome : List ℕ → List ℕ → Files → Outcome → Type 0
IsMatchOutcome input resp files =
    Then (opened input files) (λ rip.
    Then (response_bytes (response_name resp rip.toc) files) (λ bytes.
    ThenOf (AreRead bytes) (λ blocks.
    IsMatchedBy rip blocks)))

-- ---- the names that are read

-- the response's name, once the rip's layout is known
abbrev pub response_under : List ℕ → Result Opened Status → Option (List ℕ)
response_under resp (Ok rip) = Some (response_name resp rip.toc)
response_under resp (Err status) = None

-- the names of a rip's files and its response's, as far as they are read
abbrev pub matched_names : List ℕ → List ℕ → Files → List (List ℕ)
matched_names input resp files = names_read input files ++ option_to_list (response_under resp (opened input files))
