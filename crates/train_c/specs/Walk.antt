-- What a train does: its segments are decoded under the record's version and received one after another, up to the first that is refused, or
-- whose reception carries a response or a message, or that leaves a receiver that takes no segments.
use Rattle.std.specs.Prelude.{Bool, true, false, cond, not, ◌||◌, List, [], ◌∷◌, ℕ, zero, suc, ◌+◌, take, drop, Option, Some, None}
use Rattle.tsar.specs.Layout.{WholeSegment}
use Rattle.tsar.specs.Reading.{Decoded, decoded, refused as unread, segment_of as decode_of}
use Rattle.link.specs.declared.MobileIdentity.{MobileIdentity}
use Rattle.link.specs.declared.HigherLayerProtocol.{HigherLayerProtocol}
use Rattle.receiver.specs.declared.Receiver.{Receiver}
use Rattle.receiver.specs.declared.Reported.{Reported}
use Rattle.receiver.specs.Record.{interval_of, taking}
use Rattle.receiver.specs.Answers.{Answer, refused, answered, Step, refuses}
use Rattle.receiver.specs.Receive.{Arrival, receive_of}
use Rattle.codec_c.specs.Codes.{code_of}
use Rattle.image.specs.Numbers.{number_of}
use Rattle.train_c.specs.declared.Walked.{Walked}

-- the octets of each segment: the next two octets of the lengths say how many of the octets that are left, as far as they go
unfoldable pub segments_of : ℕ → List ℕ → List ℕ → List (List ℕ)
segments_of zero lengths octets = []
segments_of (suc n) lengths octets = take (number_of 2 lengths) octets ∷ segments_of n (drop 2 lengths) (drop (number_of 2 lengths) octets)

-- where a train stands: its number (0, or that of the refusal at which it stopped), the receiver and what it is lent, how many segments
-- were received, and what the last of them was answered
pub record Train : Type 0 where
  pub code : ℕ
  pub receiver : Receiver
  pub store : List ℕ
  pub output : List ℕ
  pub received : ℕ
  pub response : Option Reported
  pub message : Option ℕ

abbrev pub train : ℕ → Receiver → List ℕ → List ℕ → ℕ → Option Reported → Option ℕ → Train
train code r store output n response message =
    record { code = code; receiver = r; store = store; output = output; received = n; response = response; message = message }

-- before its first segment
abbrev pub start_of : Receiver → List ℕ → List ℕ → Train
start_of r store output = train 0 r store output 0 None None

-- whether a reception carries anything: a response, or a message
abbrev pub carries : Option Reported → Option ℕ → Bool
carries None None = false
carries None (Some n) = true
carries (Some x) message = true

-- whether a reception ends the train: it carries something, or it leaves a receiver that takes no segments
abbrev pub stops : Option Reported → Option ℕ → Receiver → Bool
stops response message r = carries response message || not (taking r.progress.state)

-- what a segment's step makes of it: a refusal ends it, and so does a reception that stops it; else it goes on
abbrev pub after : (Train → Train) → Train → Answer → Receiver → List ℕ → List ℕ → Train
after go t (refused n) r store output = train (code_of n) r store output t.received t.response t.message
after go t (answered response message) r store output =
    cond (stops response message r) (train 0 r store output (t.received + 1) response message)
    (go (train 0 r store output (t.received + 1) response message))

-- all segments of a train come from one peer under one protocol, at one reading
module _ (peer : MobileIdentity) (protocol : HigherLayerProtocol) (reading : ℕ) where
  -- a segment and the number of octets that decoding left unparsed
  abbrev pub arrival_of : WholeSegment → ℕ → Arrival
  arrival_of s unparsed =
      record {
        peer = peer;
        protocol = protocol;
        segment = record { transaction_id = s.transaction_id; sequence_number = s.sequence_number; kind = s.kind };
        octets = s.segment_data;
        unparsed = unparsed;
        reading = reading;
      }

  abbrev pub decoded_step : Decoded → Receiver → List ℕ → List ℕ → Step
  decoded_step (decoded s unparsed) r store output = receive_of (interval_of r) r (arrival_of s unparsed) store output
  decoded_step (unread n) r store output = refuses n r store output

  -- one segment, by its octets
  unfoldable pub train_step : Receiver → List ℕ → List ℕ → List ℕ → Step
  train_step r octets store output = decoded_step (decode_of r.terms.version octets) r store output

  -- the segments from where the train stands
  unfoldable pub train_of : List (List ℕ) → Train → Train
  train_of [] t = t
  train_of (octets ∷ rest) t =
      let s = train_step t.receiver octets t.store t.output in
      after (train_of rest) t s.answer s.receiver s.store s.output

-- what code says of a train, with the store and the output that it left
abbrev pub walked : Walked → List ℕ → List ℕ → Train
walked w store output = train w.code w.receiver store output w.received w.reception.response w.reception.message
