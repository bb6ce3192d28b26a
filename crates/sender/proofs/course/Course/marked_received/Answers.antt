-- `sender::course::Course::marked_received` meets its contract: an entry that is set is one of the first bit_count. Assumes nothing.
use mathlib.Core.Path.{ap, ◌∙◌}
use mathlib.Core.Bool.{Bool, ◌&&◌}
use lib.Dec.{ltb}
use Rattle.words.specs.Marks.{marked}
use Rattle.words.specs.Laws.{words_of_ext}
use Rattle.sender.proofs.Marking.{made, change, received_is}
use Rattle.response.specs.Responses.{entry_at, is_received}
use Rattle.sender.proofs.course.Course.marked_received.Goals as goal

pub returns : goal.returns
returns c = rw (← c.count.ensures) (
    let x = c.args in
    let n = c.count.result in
    let b = x.map.bit_count in
    change (λ j t. ltb j n && t) c.first.result c.first-2.result (λ j. ltb j b && marked x.map.received j) (made c.first.result (λ j. ltb j b && marked x.map.received j) c.first.ensures) c.first-2.ensures
    ∙ words_of_ext (λ j. ltb j n && (ltb j b && marked x.map.received j)) (λ j. ltb j n && is_received (entry_at x.map j)) (λ i h. ap (λ (t : Bool). ltb i n && t) (received_is (ltb i b) (marked x.map.received i))))
