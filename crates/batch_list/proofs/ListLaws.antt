-- What a list is: at most a thousand discs, each with the words of a command other than `batch`.
use Rattle.std.proofs.Common.{◌≡◌, ℕ, ◌+◌, ◌≤◌, Bool, true, false, cond, List, [], ◌∷◌, length, Option, None, Some, Result, Ok, Err, refl, ap, arith, add-one, ◌∙◌}
use Rattle.std.specs.Prelude.{◌≢◌, All, IfOk, nat_lt, ◌==◌}
use Rattle.std.specs.List.{AllByRecursion}
use Rattle.std.specs.Option.{option_map_or}
use Rattle.std.specs.Result.{result_map_both}
use Rattle.std.specs.Str.{is_utf8}
use Rattle.std.proofs.lemmas.Bool.{ltb-false}
use Rattle.std.proofs.lemmas.List.Elements.{All-from_recursion}
use Rattle.toml.specs.Data.{Data, Members}
use Rattle.toml.specs.Parse.{parse_document}
use Rattle.rip_words.specs.Command.{command_reading}
use Rattle.rip_words.specs.declared.Command.{Command}
use Rattle.batch_list.specs.declared.fail.ListKind.{ListKind}
use Rattle.batch_list.specs.declared.fail.ListKind.TheVariants.{TooLong, NotToml, NoDiscs, TooMany, BadDisc, BadWords}
use Rattle.batch_list.specs.declared.fail.ListFail.{ListFail}
use Rattle.batch_list.specs.declared.fail.ListFail.TheVariants.{Refused, Oom}
use Rattle.batch_list.specs.Reading.{IsDiscWords, Lists, all_read, disc_reading, disc_words, discs_in, discs_reading, list_reading, words_for}
use Rattle.batch_list.proofs.ReadingLaws.{discs_from}

-- what a list is that has so many discs at most, and which refusals may come
pub record IsRead (most : ℕ) (reading : Result (List (List (List ℕ))) ListKind) : Type 0 where
  pub few : (lists : List (List (List ℕ))) → reading ≡ Ok lists → length lists ≤ most
  pub commands : (lists : List (List (List ℕ))) → reading ≡ Ok lists → AllByRecursion IsDiscWords lists
  pub short : reading ≢ Err TooLong

-- ---- a disc

checked_words : (number : ℕ) (words read : List (List ℕ)) (meaning : Result Command ℕ) → command_reading words ≡ meaning
    → result_map_both (λ command. words) (BadWords number) meaning ≡ Ok read → IsDiscWords read
checked_words number words read (Err word) is_meaning e = cc
checked_words number words read (Ok command) is_meaning e =
    let same : words ≡ read = cc in
    rw (← same) rw is_meaning refl

disc_is_read : (number : ℕ) (disc : Data) (read : List (List ℕ)) → disc_reading number disc ≡ Ok read → IsDiscWords read
unfolding disc_reading
disc_is_read number disc read e = by (disc_words disc) e
  where
    by : (words : Option (List (List ℕ))) → option_map_or (words_for number) words (Err (BadDisc number)) ≡ Ok read → IsDiscWords read
    by None e = cc
    by (Some words) e = checked_words number words read (command_reading words) refl e

unread_words : (number : ℕ) (words : List (List ℕ)) (meaning : Result Command ℕ) → result_map_both (λ command. words) (BadWords number) meaning ≢ Err TooLong
unread_words number words (Err word) e = cc
unread_words number words (Ok command) e = cc

disc_is_short : (number : ℕ) (disc : Data) → disc_reading number disc ≢ Err TooLong
unfolding disc_reading
disc_is_short number disc = by (disc_words disc)
  where
    by : (words : Option (List (List ℕ))) → option_map_or (words_for number) words (Err (BadDisc number)) ≢ Err TooLong
    by None e = cc
    by (Some words) e = unread_words number words (command_reading words) e

-- ---- the discs

more_discs : (number most : ℕ) (disc : Data) (first : Result (List (List ℕ)) ListKind) (rest : List (Result (List (List ℕ)) ListKind)) → disc_reading number disc ≡ first
    → IsRead most (all_read rest) → IsRead (most + 1) (all_read (first ∷ rest))
more_discs number most disc (Err refusal) rest e others = record {
  few = λ lists read. cc;
  commands = λ lists read. cc;
  short = λ read. let same : refusal ≡ TooLong = cc in disc_is_short number disc (e ∙ ap Err same);
}
more_discs number most disc (Ok first) rest e others = by (all_read rest) others
  where
    by : (reading : Result (List (List (List ℕ))) ListKind) → IsRead most reading → IsRead (most + 1) (result_map_both (λ lists. first ∷ lists) (λ refusal. refusal) reading)
    by (Err refusal) others = record {
      few = λ lists read. cc;
      commands = λ lists read. cc;
      short = λ read. others.short read;
    }
    by (Ok later) others = record {
      few = λ lists read. let same : first ∷ later ≡ lists = cc in rw (← same) (omega (arith, others.few later refl));
      commands = λ lists read. let same : first ∷ later ≡ lists = cc in rw (← same) (disc_is_read number disc first e, others.commands later refl);
      short = λ read. cc;
    }

discs_are_read : (number : ℕ) (discs : List Data) → IsRead (length discs) (discs_from number discs)
discs_are_read number [] = record {
  few = λ lists read. let same : [] ≡ lists = cc in rw (← same) (omega arith);
  commands = λ lists read. let same : [] ≡ lists = cc in rw (← same) tt;
  short = λ read. cc;
}
discs_are_read number (disc ∷ rest) = rw (← add-one (length rest)) (more_discs number (length rest) disc (disc_reading number disc) _ refl (discs_are_read (number + 1) rest))

-- ---- the whole

no_list : (most : ℕ) (kind : ListKind) → kind ≢ TooLong → IsRead most (Err kind)
no_list most kind other = record {
  few = λ lists read. cc;
  commands = λ lists read. cc;
  short = λ read. other cc;
}

discs_are_listed : (discs : List Data) → IsRead 1000 (discs_reading discs)
unfolding discs_reading
discs_are_listed discs = by (length discs == 0) (nat_lt 1000 (length discs)) refl
  where
    by : (none many : Bool) → nat_lt 1000 (length discs) ≡ many → IsRead 1000 (cond none (Err NoDiscs) (cond many (Err TooMany) (discs_from 1 discs)))
    by true many e = no_list 1000 NoDiscs (λ same. cc)
    by false true e = no_list 1000 TooMany (λ same. cc)
    by false false e =
        let all = discs_are_read 1 discs in
        record {
          few = λ lists read. omega (arith, all.few lists read, ltb-false 1000 (length discs) e);
          commands = all.commands;
          short = all.short;
        }

-- what any text is read as
list_is_read : (text : List ℕ) → IsRead 1000 (list_reading text)
unfolding list_reading
list_is_read text = by (is_utf8 text) (parse_document text)
  where
    by : (utf8 : Bool) (document : Option Members) → IsRead 1000 (cond utf8 (option_map_or (λ read. discs_reading (discs_in read)) document (Err NotToml)) (Err NotToml))
    by false document = no_list 1000 NotToml (λ same. cc)
    by true None = no_list 1000 NotToml (λ same. cc)
    by true (Some document) = discs_are_listed (discs_in document)

-- ---- what a call answers

pub few_are_listed : (answer : Result (List (List (List ℕ))) ListFail) (text : List ℕ) → Lists answer (list_reading text) → IfOk answer (λ lists. length lists ≤ 1000)
few_are_listed (Ok lists) text read = (list_is_read text).few lists read
few_are_listed (Err fail) text read = tt

pub commands_are_listed : (answer : Result (List (List (List ℕ))) ListFail) (text : List ℕ) → Lists answer (list_reading text) → IfOk answer (All IsDiscWords)
commands_are_listed (Ok lists) text read = All-from_recursion IsDiscWords lists ((list_is_read text).commands lists read)
commands_are_listed (Err fail) text read = tt

pub length_is_unread : (answer : Result (List (List (List ℕ))) ListFail) (text : List ℕ) → Lists answer (list_reading text) → answer ≢ Err (Refused TooLong)
length_is_unread (Ok lists) text read e = cc
length_is_unread (Err Oom) text read e = cc
length_is_unread (Err (Refused kind)) text read e = let same : kind ≡ TooLong = cc in (list_is_read text).short (read ∙ ap Err same)
