use Rattle.radio.proofs.Numbers.{put-one, put-two, put-three}
use Rattle.radio.proofs.put_number.Goals as goal

pub returns-then-x-lt-GROUP : goal.returns-then-x-lt-GROUP
returns-then-x-lt-GROUP c = rw (put-one c.args.x c.if-x-lt-GROUP.true) c.put.ensures

pub returns-then-y-lt-GROUP : goal.returns-then-y-lt-GROUP
returns-then-y-lt-GROUP c = rw (put-two c.args.x c.if-x-lt-GROUP.false c.if-y-lt-GROUP.true) c.put-then-y-lt-GROUP.ensures

pub returns : goal.returns
returns c = rw (put-three c.args.x c.if-x-lt-GROUP.false c.if-y-lt-GROUP.false) c.put-2.ensures
