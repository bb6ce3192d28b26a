-- Document 02, 2026-06: a train that was converted, in either direction, is one of those that demand 3's second half speaks of, under the transaction
-- and the version of the train that was read. Assumes nothing.
use Rattle.std.specs.Prelude.{◌≡◌, ◌<◌, None}
use Rattle.std.proofs.Common.{subst, arith}
use Rattle.segmentation.specs.declared.FrozenMessage.{FrozenMessage}
use Rattle.segmentation.specs.Frozen.{Proposal, head_at}
use Rattle.segmentation.specs.Accepted.{frozen_acceptable}
use Rattle.dialect.specs.declared.Dialect.{Dialect}
use Rattle.dialect.specs.Convert.{convert_refusal, convert_of}
use Rattle.dialect.specs.Statement.{again}
use Rattle.dialect.proofs.Theorems.{keeps, again_accepted, again_plan}
use Rattle.delivery.specs.Demand.{TrainFor, frozen, frozen_train_of}

pub converted_served : (d : Dialect) (q : Proposal) → convert_refusal d q ≡ None
    → TrainFor (head_at q.heads 0).segment.transaction_id q.version q.message q.count (frozen_train_of (convert_of d q).plan q.message)
converted_served d q ok =
    let two = (frozen_acceptable (again d q) (again_accepted d q ok)).cutting.at_least in
    let first : 0 < q.count = omega (arith, two) in
    subst (λ (f : FrozenMessage). TrainFor (head_at q.heads 0).segment.transaction_id q.version q.message q.count (frozen_train_of f q.message))
    (again_plan d q ok)
    (frozen (again d q).heads q.count q.joined q.budget q.ceiling ((keeps d q ok).each 0 first).same_transaction (again_accepted d q ok))
