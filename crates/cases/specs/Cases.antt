-- The proved cases of document 01, 'corners': P1 to P14, by one statement over one list, under version 1.
-- A case holds what goes in and what must come out; `given` puts in its place what the definitions give; the theorem (proofs/AllCases) says of each case that nothing
-- changes: of P10 for every first octet d and any octets behind it, of P11 and P12 for any octets. Each mark has all that its line says up to the next
-- mark. Assumes nothing.
use Rattle.std.specs.Prelude.{◌≡◌, List, [], ◌∷◌, ℕ, zero, suc, length, replicate, Option, Some, None}
use Rattle.link.specs.declared.HigherLayerProtocol.TheVariants.{Segmented}
use Rattle.tsar.specs.declared.Compression.TheVariants as compression
use Rattle.tsar.specs.declared.AcknowledgmentWindow.TheVariants as window
use Rattle.tsar.specs.declared.CrcStatus.TheVariants as status
use Rattle.tsar.specs.declared.OptionalServices.{OptionalServices}
use Rattle.tsar.specs.declared.MessageCrc.TheVariants as crc
use Rattle.tsar.specs.declared.SegmentKind.{SegmentKind}
use Rattle.tsar.specs.declared.SegmentKind.TheVariants as kind'
use Rattle.tsar.specs.declared.Segment.{Segment}
use Rattle.tsar.specs.Rows.{Refusal}
use Rattle.tsar.specs.Layout.{whole, written}
use Rattle.tsar.specs.Reading.{Decoded, decoded, refused, segment_of}
use Rattle.tsar.specs.Writing.{Written, wrote, encode_of}
use Rattle.segmentation.specs.Plan.{Planning, unsegmented, refused as plan_refused, segmented, plan_message}
use Rattle.segmentation.proofs.Even.{length_at}
use Rattle.response.specs.declared.Status.TheVariants.{Aborted}
use Rattle.receiver.specs.declared.ReceiverState.{ReceiverState}
use Rattle.receiver.specs.declared.ReceiverState.TheVariants.{Receiving, Complete, Failed}
use Rattle.receiver.specs.declared.Receiver.{Receiver}
use Rattle.receiver.specs.declared.Terms.{Terms}
use Rattle.receiver.specs.Record.{interval_of}
use Rattle.receiver.specs.Answers.{Answer, answered}
use Rattle.receiver.specs.Receive.{Arrival, receive_of}
use Rattle.receiver.specs.Advance.{try_new_of}
use Rattle.delivery.specs.Demand.{train_of}

-- a case: octets that are read, with what that gives; a segment with its data, written into an output of so many octets A5, with the answer and the
-- output that are left; a message cut under a budget and Prohibited, with the data lengths of its segments, once as their heads say and once as
-- their data have, and the octets of its Begin; a message planned so, with the number of its segments, or the refusal; segments with their data
-- received one after another, with each answer and state
pub data Case : Type 0 where
  reads : List ℕ → Decoded → Case
  writes : Segment → List ℕ → ℕ → Written → Case
  cuts : List ℕ → ℕ → List ℕ → List ℕ → List ℕ → Case
  makes : List ℕ → ℕ → Option ℕ → Option Refusal → Case
  receives : List (Segment × List ℕ) → List (Answer × ReceiverState) → Case

-- ---- what the definitions give

-- plan_message's plan under Prohibited, transaction 0, version 1 and a ceiling that is the budget
abbrev pub planning : List ℕ → ℕ → Planning
planning m budget = plan_message (length m) budget 0 window.Prohibited 1 budget

-- f 0 to f (n - 1)
unfoldable pub up_to : ℕ → (ℕ → ℕ) → List ℕ
up_to zero f = []
up_to (suc n) f = f 0 ∷ up_to n (λ i. f (suc i))

-- what the plan's public call gives for each segment: the data length that its head says
abbrev head_lengths : Planning → List ℕ
head_lengths unsegmented = []
head_lengths (plan_refused n) = []
head_lengths (segmented p) = up_to p.count (length_at p)

-- and that of its data out of the message
abbrev data_lengths : Planning → List ℕ → List ℕ
data_lengths unsegmented m = []
data_lengths (plan_refused n) m = []
data_lengths (segmented p) m = up_to p.count (λ i. length (train_of p m i).segment_data)

abbrev begin_octets : Planning → List ℕ → List ℕ
begin_octets unsegmented m = []
begin_octets (plan_refused n) m = []
begin_octets (segmented p) m = written (train_of p m 0)

abbrev pub count_in : Planning → Option ℕ
count_in unsegmented = None
count_in (plan_refused n) = None
count_in (segmented p) = Some p.count

abbrev pub refusal_in : Planning → Option Refusal
refusal_in unsegmented = None
refusal_in (plan_refused n) = Some n
refusal_in (segmented p) = None

-- a receiver of a peer, for messages of at most 10 octets
abbrev terms : Terms
terms =
    record { peer = record { kind = 1; width = 34; value = 5 }; protocol = Segmented 0; transaction_id = 0; version = 1; profile = 1; maximum_message_octets = 10 }

abbrev arrival : Segment × List ℕ → Arrival
arrival x = record { peer = terms.peer; protocol = terms.protocol; segment = x.0; octets = x.1; unparsed = 0; reading = 0 }

-- each segment is received, at reading 0, on what the last one left
unfoldable pub receive_all : Receiver → List ℕ → List (Segment × List ℕ) → List (Answer × ReceiverState)
receive_all r store [] = []
receive_all r store (x ∷ xs) =
    let st = receive_of (interval_of r) r (arrival x) store (replicate 10 0xa5) in
    (st.answer, st.receiver.progress.state) ∷ receive_all st.receiver st.store xs

-- what the definitions give for a case, in the case's own form; a receiver is new, and its store filled with A5
unfoldable pub given : Case → Case
given (reads l d) = reads l (segment_of 1 l)
given (writes s l n w) = writes s l n (encode_of 1 s l (replicate n 0xa5))
given (cuts m budget hs ls os) = cuts m budget (head_lengths (planning m budget)) (data_lengths (planning m budget) m) (begin_octets (planning m budget) m)
given (makes m budget n r) = makes m budget (count_in (planning m budget)) (refusal_in (planning m budget))
given (receives xs ys) = receives xs (receive_all (try_new_of terms 0).receiver (replicate 65280 0xa5) xs)

-- ---- the segments that the cases speak of

-- a segment of a transaction and a sequence number
abbrev segment : ℕ → ℕ → SegmentKind → Segment
segment transaction sequence k = record { transaction_id = transaction; sequence_number = sequence; kind = k }

-- no compression, acknowledgment every four, no CRC
abbrev every4 : OptionalServices
every4 = record { compression = compression.None; acknowledgment_window = window.Every4; crc_status = status.None }

-- P1: a Begin without parameters
abbrev bare_begin : Segment
bare_begin = segment 0 0 (kind'.Begin None None)

-- P2: a Continue of transaction 3
abbrev continue_data : Segment
continue_data = segment 3 1 (kind'.Continue None)

-- P3: an End with a CRC-16
abbrev end_crc : Segment
end_crc = segment 0 1 (kind'.End None (Some (crc.Crc16 0x1234)))

-- P5: a Begin with services
abbrev begin_services : Segment
begin_services = segment 0 0 (kind'.Begin None (Some every4))

-- P6: a Continue without parameters
abbrev bare_continue : Segment
bare_continue = segment 0 1 (kind'.Continue None)

-- P9: a Begin with a length and services
abbrev begin_both : Segment
begin_both = segment 0 0 (kind'.Begin (Some 5) (Some every4))

-- P13: an End at sequence 1
abbrev bare_end : Segment
bare_end = segment 0 1 (kind'.End None None)

-- P14: a Continue at sequence 255
abbrev continue_255 : Segment
continue_255 = segment 0 255 (kind'.Continue None)

-- ---- the list

-- P1 to P14, in document 01's order; d and the octets behind it are P10's message, m and n are P11's and P12's
unfoldable pub cases : (d o₁ o₂ o₃ o₄ o₅ o₆ : ℕ) (m n : List ℕ) → List Case
cases d o₁ o₂ o₃ o₄ o₅ o₆ m n =
    -- P1
    reads (0x00 ∷ 0x00 ∷ 0x00 ∷ []) (decoded (whole bare_begin []) 0)
    ∷ writes bare_begin [] 5 (record { answer = wrote 3; output = 0x00 ∷ 0x00 ∷ 0x00 ∷ 0xa5 ∷ 0xa5 ∷ [] })
    -- P2
    ∷ reads (0x0b ∷ 0x01 ∷ 0x02 ∷ 0x41 ∷ 0x42 ∷ []) (decoded (whole continue_data (0x41 ∷ 0x42 ∷ [])) 0)
    ∷ writes continue_data (0x41 ∷ 0x42 ∷ []) 6 (record { answer = wrote 5; output = 0x0b ∷ 0x01 ∷ 0x02 ∷ 0x41 ∷ 0x42 ∷ 0xa5 ∷ [] })
    -- P3
    ∷ reads (0x10 ∷ 0x01 ∷ 0x00 ∷ 0x21 ∷ 0x23 ∷ 0x40 ∷ []) (decoded (whole end_crc []) 0)
    ∷ writes end_crc [] 8 (record { answer = wrote 6; output = 0x10 ∷ 0x01 ∷ 0x00 ∷ 0x21 ∷ 0x23 ∷ 0x40 ∷ 0xa5 ∷ 0xa5 ∷ [] })
    -- P4
    ∷ reads (0x10 ∷ 0x01 ∷ 0x00 ∷ 0x21 ∷ 0x23 ∷ 0x41 ∷ []) (refused (7, 0))
    -- P5
    ∷ reads (0x00 ∷ 0x00 ∷ 0x00 ∷ 0x20 ∷ 0x08 ∷ []) (decoded (whole begin_services []) 0)
    ∷ writes begin_services [] 7 (record { answer = wrote 5; output = 0x00 ∷ 0x00 ∷ 0x00 ∷ 0x20 ∷ 0x08 ∷ 0xa5 ∷ 0xa5 ∷ [] })
    ∷ reads (0x00 ∷ 0x00 ∷ 0x00 ∷ 0x20 ∷ 0x09 ∷ []) (refused (7, 0))
    -- P6
    ∷ reads (0x08 ∷ 0x01 ∷ 0x00 ∷ 0x20 ∷ 0x08 ∷ []) (decoded (whole bare_continue []) 2)
    -- P7
    ∷ reads (0x00 ∷ 0x00 ∷ 0x00 ∷ 0x10 ∷ 0x05 ∷ 0x10 ∷ 0x05 ∷ []) (refused (8, 0))
    ∷ reads (0x00 ∷ 0x00 ∷ 0x00 ∷ 0x10 ∷ []) (refused (2, 0))
    -- P8
    ∷ reads (0x00 ∷ 0x01 ∷ 0x00 ∷ []) (refused (6, 3))
    -- P9
    ∷ reads (0x00 ∷ 0x00 ∷ 0x00 ∷ 0x20 ∷ 0x08 ∷ 0x10 ∷ 0x05 ∷ []) (decoded (whole begin_both []) 0)
    ∷ reads (0x00 ∷ 0x00 ∷ 0x00 ∷ 0x10 ∷ 0x05 ∷ 0x20 ∷ 0x08 ∷ []) (decoded (whole begin_both []) 0)
    ∷ writes begin_both [] 9
    (record { answer = wrote 7; output = 0x00 ∷ 0x00 ∷ 0x00 ∷ 0x10 ∷ 0x05 ∷ 0x20 ∷ 0x08 ∷ 0xa5 ∷ 0xa5 ∷ [] })
    -- P10
    ∷ cuts (d ∷ o₁ ∷ o₂ ∷ o₃ ∷ o₄ ∷ o₅ ∷ o₆ ∷ []) 6 (1 ∷ 3 ∷ 3 ∷ []) (1 ∷ 3 ∷ 3 ∷ []) (0x00 ∷ 0x00 ∷ 0x01 ∷ d ∷ 0x10 ∷ 0x07 ∷ [])
    -- P11
    ∷ makes m 4 (Some 256) None
    -- P12
    ∷ makes n 4 None (Some (22, 0))
    -- P13
    ∷ receives ((bare_begin, []) ∷ (bare_end, []) ∷ []) ((answered None None, Receiving) ∷ (answered None (Some 0), Complete) ∷ [])
    -- P14
    ∷ receives ((bare_begin, []) ∷ (continue_255, []) ∷ []) ((answered None None, Receiving) ∷ (answered None None, Failed Aborted) ∷ [])
    ∷ []

-- ---- the statement

-- the definitions give what a case says
abbrev pub Gives : Case → Type 0
Gives c = given c ≡ c

abbrev pub All : List Case → Type 0
All [] = Unit {0}
All (c ∷ cs) = Gives c × All cs
