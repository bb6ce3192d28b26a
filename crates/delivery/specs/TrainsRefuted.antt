-- The definitions that the laws of proofs/TrainsRefuted speak of.
use Rattle.std.specs.Prelude.{ℕ, ◌+◌, Bool, cond, not, ◌&&◌, length, eqb, leb}
use Rattle.tsar.specs.Kinds.{is_continue}
use Rattle.receiver.specs.Record.{is_held, length_at}
use Rattle.receiver.specs.Answers.{refuses}
use Rattle.receiver.specs.Receive.{kind}
use Rattle.delivery.specs.Calls.{receive, advance, cancel, release, StepFunction, ours}

-- ---- the wrong receivers

-- ours, but where segment 1 is held it refuses a Continue whose length is unlike that of segment 1
abbrev pub choosy : (ℕ → ℕ → Bool) → StepFunction
choosy unlike r store (receive a out) =
    cond (is_continue (kind a) && is_held r 1 && unlike (length_at r 1) (length a.octets)) (refuses (38, 0) r store out) (ours r store (receive a out))
choosy unlike r store (advance n) = ours r store (advance n)
choosy unlike r store (cancel n) = ours r store (cancel n)
choosy unlike r store (release n) = ours r store (release n)

-- takes Continues of one length alone, as plan_message's are
abbrev pub one_length : StepFunction
one_length = choosy (λ first this. not (eqb first this))

-- takes those too that are one octet shorter, as the even planner's are
abbrev pub at_most_one_shorter : StepFunction
at_most_one_shorter = choosy (λ first this. not (leb this first && leb first (this + 1)))
