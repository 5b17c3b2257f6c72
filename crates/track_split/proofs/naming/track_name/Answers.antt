use Rattle.std.proofs.Common.{◌≡◌, ◌∙◌, ◌+◌, ◌/◌, ◌%◌, ◌<◌, ◌++◌, ◌∷◌, [], ap, rules, arith, get_or, string_bytes}
use Rattle.std.specs.Prelude.{codes}
use Rattle.track_split.proofs.WritingLaws.{name_made}
use Rattle.track_split.proofs.naming.track_name.Goals as goal

pub returns : goal.returns
returns c =
    let folder = c.args.folder.now in
    let tens = 48 + c.args.number / 10 in
    let ones = 48 + c.args.number % 10 in
    let first : get_or c.two_digits.result 0 0 ≡ tens = ap (λ xs. get_or xs 0 0) c.two_digits.ensures in
    let second : get_or c.two_digits.result 1 0 ≡ ones = ap (λ xs. get_or xs 1 0) c.two_digits.ensures in
    let low : get_or c.two_digits.result 0 0 < 128 = omega (arith, first, c.requires) in
    let small : get_or c.two_digits.result 1 0 < 128 = omega (arith, second) in
    let zero : string_bytes c.in_ok-name.name ≡ folder = search rules in
    let one : string_bytes c.push_str.new.self ≡ string_bytes c.in_ok-name.name ++ codes "track" = search rules in
    let two : string_bytes c.push.new.self ≡ string_bytes c.push_str.new.self ++ tens ∷ [] = c.in_ok-push.ensures.bytes ∙ ap (λ more. string_bytes c.push_str.new.self ++ more) (c.in_ok-push.ensures.ascii low ∙ ap (λ b. b ∷ []) first) in
    let three : string_bytes c.push-2.new.self ≡ string_bytes c.push.new.self ++ ones ∷ [] = c.in_ok-push-2.ensures.bytes ∙ ap (λ more. string_bytes c.push.new.self ++ more) (c.in_ok-push-2.ensures.ascii small ∙ ap (λ b. b ∷ []) second) in
    let four : string_bytes c.push_str-2.new.self ≡ string_bytes c.push-2.new.self ++ codes ".wav" = search rules in
    c.of.ensures ∙ name_made folder (string_bytes c.in_ok-name.name) (string_bytes c.push_str.new.self) (string_bytes c.push.new.self) (string_bytes c.push-2.new.self) (string_bytes c.push_str-2.new.self) tens ones zero one two three four
