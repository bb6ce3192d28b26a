-- The reception in a train's answer carries the figures of its response's own map, as that of a single call does. Assumes nothing.
use Prim.Native.Nat.{ℕ, ◌+◌}
use mathlib.Core.List.{List, [], ◌∷◌}
use Rattle.tsar.specs.Rows.{either}
use Rattle.tsar.specs.Reading.{Decoded, decoded, refused as unread, segment_of as decode_of}
use Rattle.link.specs.declared.MobileIdentity.{MobileIdentity}
use Rattle.link.specs.declared.HigherLayerProtocol.{HigherLayerProtocol}
use Rattle.receiver.specs.declared.Receiver.{Receiver}
use Rattle.receiver.specs.Record.{interval_of}
use Rattle.receiver.specs.Answers.{Answer, refused, answered, Step}
use Rattle.receiver.specs.Figured.{Carried, CarriedIn, OwnFigures, receive_own}
use Rattle.train_c.specs.Walk.{Train, train, start_of, stops, after, arrival_of, decoded_step, train_step, train_of}

-- what a segment's step makes of a train, where what it goes on to keeps this
after_own : (go : Train → Train) (t : Train) (s : Step) → ((u : Train) → Carried OwnFigures u.response → Carried OwnFigures (go u).response) → Carried OwnFigures t.response
    → (a : Answer) → CarriedIn OwnFigures a → Carried OwnFigures (after go t a s.receiver s.store s.output).response
after_own go t s keeps h (refused n) k = h
after_own go t s keeps h (answered x m) k =
    let u = train 0 s.receiver s.store s.output (t.received + 1) x m in
    either (λ (v : Train). Carried OwnFigures v.response) (stops x m s.receiver) u (go u) (λ e. k) (λ e. keeps u k)

module _ (peer : MobileIdentity) (protocol : HigherLayerProtocol) (reading : ℕ) where
  decoded_own : (d : Decoded) (r : Receiver) (store output : List ℕ) → CarriedIn OwnFigures (decoded_step peer protocol reading d r store output).answer
  decoded_own (decoded s unparsed) r store output = receive_own (interval_of r) r (arrival_of peer protocol reading s unparsed) store output
  decoded_own (unread n) r store output = tt

  step_own : (r : Receiver) (octets store output : List ℕ) → CarriedIn OwnFigures (train_step peer protocol reading r octets store output).answer
  unfolding train_step
  step_own r octets store output = decoded_own (decode_of r.terms.version octets) r store output

  -- from where the train stands
  onward_own : (l : List (List ℕ)) (t : Train) → Carried OwnFigures t.response → Carried OwnFigures (train_of peer protocol reading l t).response
  unfolding train_of
  onward_own [] t h = h
  onward_own (octets ∷ rest) t h =
      let s = train_step peer protocol reading t.receiver octets t.store t.output in
      after_own (train_of peer protocol reading rest) t s (onward_own rest) h s.answer (step_own t.receiver octets t.store t.output)

  -- of the very train that the export's contract cites
  pub train_own : (l : List (List ℕ)) (r : Receiver) (store output : List ℕ) → Carried OwnFigures (train_of peer protocol reading l (start_of r store output)).response
  train_own l r store output = onward_own l (start_of r store output) tt
