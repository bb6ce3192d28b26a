-- The definitions that the laws of proofs/AfterRelease speak of.
use Rattle.std.specs.Prelude.{ℕ, ◌≤◌, ◌<◌, min, ◌≡◌, List, true, false, cond, length, get_or, None}
use Rattle.link.specs.Peer.{same_identity, same_protocol}
use Rattle.tsar.specs.Writing.{codec_rows}
use Rattle.tsar.specs.Rows.{Refusal, refusal}
use Rattle.receiver.specs.declared.ReceiverState.TheVariants.{Canceled}
use Rattle.receiver.specs.declared.Receiver.{Receiver}
use Rattle.receiver.specs.Record.{taking, complete, store_octets, wiped, impossible}
use Rattle.receiver.specs.Answers.{Step, refuses}
use Rattle.receiver.specs.Receive.{Arrival, receive_of}
use Rattle.receiver.specs.Advance.{cancel_of}
use Rattle.delivery.specs.Calls.{Call, cancel, release, is_refused}
use Rattle.delivery.specs.Occasions.{Emptied}

-- ---- a closed receiver, whatever its record is

-- document 01's tests before receive's 38 pass: 60, 61, 62, 33, 30, 31, 32, codec, 35; those behind it, 36 and 34, are not asked
pub record Before38 (r : Receiver) (a : Arrival) (store out : List ℕ) : Type 0 where
  pub room : store_octets ≤ length store
  pub long_enough : min r.terms.maximum_message_octets store_octets ≤ length out
  pub possible : impossible r ≡ false
  pub not_back : r.progress.last_monotonic_ms ≤ a.reading
  pub same_peer : same_identity a.peer r.terms.peer ≡ true
  pub same_protocol_lem : same_protocol a.protocol r.terms.protocol ≡ true
  pub same_transaction : a.segment.transaction_id ≡ r.terms.transaction_id
  pub codec : refusal (codec_rows r.terms.version a.segment (length a.octets)) ≡ None
  pub parsed : a.unparsed ≡ 0

-- a receive that is refused and changes nothing, with 38 where the tests before it pass
pub record IsClosed (interval : ℕ) (a : Arrival) (r : Receiver) (store out : List ℕ) : Type 0 where
  pub number : Refusal
  pub refused_with : receive_of interval r a store out ≡ refuses number r store out
  pub closed_38 : Before38 r a store out → receive_of interval r a store out ≡ refuses (38, 0) r store out

-- ---- what a release that is not refused leaves

-- Canceled, with an empty record and a wiped store; and the answer is that of any cancel that is not refused
pub record Released (r : Receiver) (store : List ℕ) (now' : ℕ) (st : Step) : Type 0 where
  pub answers : (x : Receiver) (l : List ℕ) (n : ℕ) → is_refused (cancel_of x l n).answer ≡ false → st.answer ≡ (cancel_of x l n).answer
  pub canceled : st.receiver.progress.state ≡ Canceled
  pub emptied : Emptied r (release now') st
  pub wiped_store : st.store ≡ wiped store

-- the call that gives a receiver up, by its state: release where it is Complete, else cancel
abbrev pub giving_up : Receiver → ℕ → Call
giving_up r now' = cond (complete r.progress.state) (release now') (cancel now')

-- it takes no segments, and every octet of the store's slots is 0
abbrev pub GivenUp : Step → Type 0
GivenUp st = (taking st.receiver.progress.state ≡ false) × ((i : ℕ) → i < store_octets → get_or st.store i 0 ≡ 0)
