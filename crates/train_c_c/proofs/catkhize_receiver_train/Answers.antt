-- The export meets its contract by that of the call that it hands its arguments on to. Rattle finds this by itself; with the answer here, an export
-- that hands on other arguments is refused because its call says something else, and not because a search ends.
use Rattle.train_c_c.proofs.catkhize_receiver_train.Goals as goal

pub returns : goal.returns
returns c = c.catkhize_receiver_train.ensures
