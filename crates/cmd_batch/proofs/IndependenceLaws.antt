-- A disc that has nothing to do with what the discs before it write comes to what it comes to alone.
use Rattle.std.proofs.Common.{◌≡◌, ◌≢◌, ℕ, zero, suc, List, [], ◌∷◌, ◌++◌, take, Option, None, Some, Result, Ok, Err, sym, subst}
use Rattle.std.specs.Prelude.{Contains, IfSome, flat_map, false, slice_get}
use Rattle.std.proofs.lemmas.List.Elements.{Contains-append_left, Contains-append_right, Contains-push}
use Rattle.rip_outside.specs.Files.{Files}
use Rattle.rip_outside.specs.Listing.{names_in, stands_in}
use Rattle.rip_outside.specs.Outputs.{Output, after_outputs, part_of}
use Rattle.rip_words.specs.Command.{command_reading}
use Rattle.rip_words.specs.declared.Command.{Command}
use Rattle.engine_steps.specs.Outcome.{Outcome}
use Rattle.rip_outside.proofs.ListedLaws.{StandsNone, listed_same}
use Rattle.rip_outside.proofs.OutputLaws.{IsApartFrom, other_stays, outputs_more}
use Rattle.rip_commands.specs.Outcomes.{IsOutcomeOf}
use Rattle.cmd_batch.specs.Apart.{DiscsAreIndependent, IsApart, folder_listed, names_met, names_written}
use Rattle.cmd_batch.specs.BatchOutcome.{AreOutcomes}
use Rattle.cmd_batch.proofs.ApartLaws.{command_so}
use Rattle.cmd_batch.proofs.SameLaws.{SameAt}

-- what outcomes write, one after another
abbrev writes : List Outcome → List Output
writes outcomes = flat_map (λ (o : Outcome). o.outputs) outcomes

-- the outcome of the disc at this index, over what the discs before it leave
at_disc : (discs : List (List (List ℕ))) (files : Files) (outcomes : List Outcome) (i : ℕ) (words : List (List ℕ)) (outcome : Outcome) → AreOutcomes discs files outcomes
    → slice_get discs i ≡ Some words → slice_get outcomes i ≡ Some outcome → IsOutcomeOf (command_reading words) (after_outputs (writes (take i outcomes)) files) outcome
at_disc [] files outcomes zero words outcome are here there = cc
at_disc [] files outcomes (suc i) words outcome are here there = cc
at_disc (first ∷ rest) files [] i words outcome are here there = absurd are
at_disc (first ∷ rest) files (one ∷ others) zero words outcome are here there =
    let same : first ≡ words = cc in
    let also : one ≡ outcome = cc in
    rw (← same, ← also) are.0
at_disc (first ∷ rest) files (one ∷ others) (suc i) words outcome are here there =
    subst (λ (f : Files). IsOutcomeOf (command_reading words) f outcome) (sym (outputs_more one.outputs (writes (take i others)) files))
    (at_disc rest (after_outputs one.outputs files) others i words outcome are.1 here there)

-- ---- names that aren't written

-- one output's names
abbrev pair : Output → List (List ℕ)
pair out = out.name ∷ part_of out.name ∷ []

module _ (P : List ℕ → Type 0) where
  -- what holds of each name that is written holds of each output's
  abbrev Each : List Output → Type 0
  Each [] = Unit {0}
  Each (out ∷ outs) = P out.name × P (part_of out.name) × Each outs

  each_of : (outs : List Output) → ((name : List ℕ) → Contains (flat_map pair outs) name → P name) → Each outs
  each_of [] all = tt
  each_of (out ∷ outs) all =
      let rest = flat_map pair outs in (
        all out.name (Contains-append_left (pair out) rest out.name (Contains-append_left (out.name ∷ []) (part_of out.name ∷ []) out.name (Contains-push [] out.name))),
        all (part_of out.name) (Contains-append_left (pair out) rest (part_of out.name) (Contains-push (out.name ∷ []) (part_of out.name))),
        each_of outs (λ name some. all name (Contains-append_right (pair out) rest name some)),
      )

  each_more : (outs others : List Output) → Each outs → Each others → Each (outs ++ others)
  each_more [] others first second = second
  each_more (out ∷ outs) others first second = (first.0, first.1, each_more outs others first.2 second)

  each_written : (outcomes : List Outcome) → ((name : List ℕ) → Contains (names_written outcomes) name → P name) → Each (writes outcomes)
  each_written [] all = tt
  each_written (one ∷ others) all =
      each_more one.outputs (writes others)
      (each_of one.outputs (λ name some. all name (Contains-append_left (flat_map pair one.outputs) (names_written others) name some)))
      (each_written others (λ name some. all name (Contains-append_right (flat_map pair one.outputs) (names_written others) name some)))

-- a name that differs from each that is written is apart from them
apart_from : (name : List ℕ) (outs : List Output) → Each (λ written. written ≢ name) outs → IsApartFrom name outs
apart_from name [] each = tt
apart_from name (out ∷ outs) each = ((λ e. each.1 (sym e)), (λ e. each.0 (sym e)), apart_from name outs each.2)

stands_none : (folder : List ℕ) (outs : List Output) → Each (λ written. stands_in folder written ≡ false) outs → StandsNone folder outs
stands_none folder [] each = tt
stands_none folder (out ∷ outs) each = (each.0, each.1, stands_none folder outs each.2)

-- these names are none of those that are written
same_at : (names : List (List ℕ)) (outcomes : List Outcome) (files : Files) → ((name : List ℕ) → Contains (names_written outcomes) name → Contains names name → ⊥)
    → SameAt names files (after_outputs (writes outcomes) files)
same_at [] outcomes files apart = tt
same_at (name ∷ names) outcomes files apart = (
  other_stays (writes outcomes) name files (apart_from name (writes outcomes) (each_written (λ written. written ≢ name) outcomes
      (λ written some same. apart written some (subst (Contains (name ∷ names)) (sym same) (Contains-append_left (name ∷ []) names name (Contains-push [] name)))))),
  same_at names outcomes files (λ written some met. apart written some (Contains-append_right (name ∷ []) names written met)),
)

-- ---- the law

alone : (read : Result Command ℕ) (files : Files) (before : List Outcome) (outcome : Outcome) → ((name : List ℕ) → Contains (names_written before) name → IsApart read files name)
    → IsOutcomeOf read (after_outputs (writes before) files) outcome → IsOutcomeOf read files outcome
alone (Err word) files before outcome apart is = is
alone (Ok command) files before outcome apart is =
    command_so command files (after_outputs (writes before) files) (same_at (names_met command files) before files (λ name some. (apart name some).0)) (by (folder_listed command) (λ name some. (apart name some).1)) outcome is
  where
    by : (listed : Option (List ℕ)) → ((name : List ℕ) → Contains (names_written before) name → IfSome listed (λ folder. stands_in folder name ≡ false))
        → IfSome listed (λ folder. names_in folder (after_outputs (writes before) files) ≡ names_in folder files)
    by None apart = tt
    by (Some folder) apart = listed_same folder (writes before) files (stands_none folder (writes before) (each_written (λ written. stands_in folder written ≡ false) before apart))

pub independent : (discs : List (List (List ℕ))) (files : Files) (outcomes : List Outcome) → DiscsAreIndependent discs files outcomes
independent discs files outcomes are i words outcome here there apart =
    alone (command_reading words) files (take i outcomes) outcome apart (at_disc discs files outcomes i words outcome are here there)
