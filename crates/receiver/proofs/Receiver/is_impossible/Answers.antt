-- A fault of the lengths, one of the state, or the profile.
use Rattle.std.specs.Prelude.{◌≡◌, List, [], ◌∷◌, ◌++◌, Bool, not, ◌||◌}
use Rattle.std.proofs.Common.{◌∙◌, sym, ap}
use Rattle.link.specs.Profile.{known_profile}
use Rattle.tsar.specs.Rows.{any_of}
use Rattle.receiver.specs.Record.{impossible, kind_at}
use Rattle.receiver.specs.Steps.{length_faults, state_faults}
use Rattle.receiver.proofs.AnyOf.{any_append}
use Rattle.receiver.proofs.Receiver.is_impossible.Goals as goal
use Rattle.receiver.proofs.Receiver.is_impossible.Goals.{then-lengths_impossible, else-lengths_impossible}

split : (cs ds : List Bool) {b : Bool} → any_of cs ≡ b → any_of (cs ++ ds) ≡ (b || any_of ds)
split cs ds e = any_append cs ds ∙ ap (λ (t : Bool). t || any_of ds) e

pub returns-then-state_impossible : goal.returns-then-state_impossible
unfolding impossible
returns-then-state_impossible c =
    let x = c.args.self.now in
    let of_lengths = length_faults x.held x.lengths x.progress.stored_octets x.terms.maximum_message_octets in
    let of_state = state_faults x.progress x.held (kind_at x 0) in
    let of_profile : List Bool = not (known_profile x.terms.profile) ∷ [] in
    elim c.if-lengths_impossible.branch [
      | then-lengths_impossible w ↦ c.if-state_impossible.true ∙ sym (split of_lengths (of_state ++ of_profile) (sym c.lengths_impossible.ensures ∙ w.if-lengths_impossible.true))
      | else-lengths_impossible w ↦ c.if-state_impossible.true
          ∙ sym (split of_lengths (of_state ++ of_profile) (sym c.lengths_impossible.ensures ∙ w.if-lengths_impossible.false)
          ∙ split of_state of_profile (sym w.state_impossible.ensures ∙ sym w.value-is ∙ c.if-state_impossible.true))
    ]
