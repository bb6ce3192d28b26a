-- `receiver_answers::put_reply` meets its contract, case by case: 46 times 0, or 1, the response and the two figures, one behind the other. Assumes nothing.
use Prim.Native.Nat.{◌+◌}
use native.Mathlib.Omega.{arith}
use mathlib.Core.Path.{◌≡◌, refl}
use mathlib.Core.List.{[], ◌∷◌, ◌++◌}
use lib.ListN.{length, length-append}
use Rattle.image.specs.Numbers.{spell, length_spell}
use Rattle.image.specs.Spelling.{put_next}
use Rattle.image_link.specs.Responses.{response_image, response_layout}
use Rattle.receiver_answers.specs.Answers.{reply_image}
use Rattle.receiver_answers.proofs.put_reply.Goals as goal

pub returns-in-None : goal.returns-in-None
unfolding reply_image
returns-in-None c = rw c.in-None.is (c.put.ensures, refl)

pub returns-in-Some : goal.returns-in-Some
unfolding reply_image
returns-in-Some c =
    let x = c.args in
    let r = c.in-Some.x in
    let response = response_image r.response in
    let count = spell 2 r.missing.count in
    let first = spell 2 r.missing.first in
    let p = c.put_response.ensures in
    let wide : length response ≡ 41 = response_layout.wide r.response p.1 in
    let two : length count ≡ 2 = length_spell 2 r.missing.count in
    let three : length first ≡ 2 = length_spell 2 r.missing.first in
    let flagged = put_next x.dst.now x.at (1 ∷ []) response _ _ (x.at + 1) 1 c.put-in-Some.ensures refl refl p.0 in
    let figures = put_next _ (x.at + 42) count first _ _ (x.at + 42 + 2) 2 c.put-in-Some-2.ensures.0 two refl c.put-in-Some-3.ensures.0 in
    rw c.in-Some.is
    (put_next x.dst.now x.at (1 ∷ response) (count ++ first) _ _ (x.at + 42) 42 flagged (omega arith) refl figures, simp length-append (omega arith))
