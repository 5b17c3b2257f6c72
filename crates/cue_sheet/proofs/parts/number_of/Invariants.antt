use Rattle.std.proofs.Common.{◌≡◌, ◌<◌, ◌≤◌, drop}
use Rattle.std.specs.Str.{all_ascii_digits}
use Rattle.std.specs.Str.Parse.{digits_value, digits_value_after}
use Rattle.cue_sheet.proofs.parts.number_of.Given as goal

abbrev pub invariant-loop-byte : goal.invariant-loop-byte
invariant-loop-byte l = record {
  digits : all_ascii_digits l.word ≡ all_ascii_digits (drop l.byte-index l.word);
  value : digits_value_after 10 l.value (drop l.byte-index l.word) ≡ digits_value 10 l.word;
  none : l.byte-index ≤ 0 → l.value < 1;
  one : l.byte-index ≤ 1 → l.value < 10;
  two : l.byte-index ≤ 2 → l.value < 100;
  three : l.byte-index ≤ 3 → l.value < 1000;
}
