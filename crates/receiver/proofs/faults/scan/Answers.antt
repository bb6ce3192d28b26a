use Rattle.receiver.proofs.HeldSums.{upto_none}
use Rattle.receiver.proofs.faults.scan.Goals as goal

pub loop-k-init : goal.loop-k-init
loop-k-init c = upto_none c.args.held c.args.lengths.now
