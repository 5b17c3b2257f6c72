use Rattle.std.proofs.Common.{◌≡◌, ◌+◌, length, rules}
use Rattle.image_mender.proofs.RunLaws.{run_more}
use Rattle.image_mender.proofs.sealing.Sealer.count.Goals as goal

pub returns-in-Some-clause-counted : goal.returns-in-Some-clause-counted
returns-in-Some-clause-counted c y is seals =
    let more : c.in-Some.behind ≡ c.args.self.now.behind + length c.args.words.now = search rules in
    record {
      front = seals.front;
      whole = run_more seals.front y c.args.words.now c.args.self.now.behind c.args.self.now.word c.run_word-word.result c.in-Some.behind seals.whole c.run_word-word.ensures.runs (c.are_all.ensures c.if-are_all.true) more;
      hashed = seals.hashed;
      alone = seals.alone;
    }
