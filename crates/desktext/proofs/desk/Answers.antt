use Rattle.desktext.proofs.Steps.{put_whole}
use Rattle.desktext.proofs.desk.Goals as goal

pub returns : goal.returns
returns c =
    let fed = c.feed-fed in
    let first = c.start in
    put_whole c.args.input.now first.result first.ensures fed.result.state fed.ensures.state_value fed.ensures.put c.finish.ensures
