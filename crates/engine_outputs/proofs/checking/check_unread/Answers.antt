use Rattle.std.proofs.Common.{◌≡◌, ◌<◌, ◌≤◌, List, ℕ, false, true, length, subst, rules, arith}
use Rattle.std.specs.Prelude.{All}
use Rattle.std.specs.List.{list_any}
use Rattle.std.specs.Str.{bytes_eq}
use Rattle.std.proofs.lemmas.List.{take_all}
use Rattle.engine_outputs.proofs.FreeLaws.{unread_more, unread_next, unread_stopped}
use Rattle.engine_outputs.proofs.checking.check_unread.Goals as goal

pub returns-then-is_among-clause-answer : goal.returns-then-is_among-clause-answer
returns-then-is_among-clause-answer c = λ outs are.
    let parts = c.args.parts.now in
    let i = c.loop-part.part-index in
    let part = c.part-item.result in
    let below : i < length parts = omega (arith, c.loop-part-test.true) in
    let any : list_any (bytes_eq part) c.args.read.now ≡ true = search rules in
    let named : c.in_ok-name.name ≡ part = search rules in
    unread_stopped outs parts c.args.read.now i part c.in_ok-name.name are below c.part-item.is any named (c.loop-part.invariant.read outs are)

pub loop-part-preserved : goal.loop-part-preserved
loop-part-preserved c =
    let parts = c.args.parts.now in
    let i = c.loop-part.part-index in
    let part = c.part-item.result in
    let below : i < length parts = omega (arith, c.loop-part-test.true) in
    let any : list_any (bytes_eq part) c.args.read.now ≡ false = search rules in
    record {
      read = λ outs are. unread_next outs parts c.args.read.now i part are below c.part-item.is any (c.loop-part.invariant.read outs are);
      unread = unread_more parts c.args.read.now i part below c.part-item.is any c.loop-part.invariant.unread;
    }

pub returns-clause-unread : goal.returns-clause-unread
returns-clause-unread c =
    let parts = c.args.parts.now in
    let end : length parts ≤ c.loop-part.part-index = omega (arith, c.loop-part-test.false) in
    subst (λ (ps : List (List ℕ)). All (λ p. list_any (bytes_eq p) c.args.read.now ≡ false) ps) (take_all c.loop-part.part-index parts end) c.loop-part.invariant.unread
