-- What the program notes of a call is what the call answered and left: its event, read off the octets of RECEPTION and of RECEIVER as the
-- exports' definitions spell them, says what was handed over and whether the receiver is Failed; and the figures that it prints of a response's
-- map are the answer's. An advance writes REPLY before nine zeros, which is RECEPTION without a message. Assumes nothing.
use Prim.Native.Nat.{ℕ, ◌+◌, ◌^◌, ◌<◌}
use mathlib.Core.Path.{◌≡◌, refl, sym, ap, ap₂, ◌∙◌}
use mathlib.Core.Bool.{Bool, true, false, cond}
use Rattle.std.specs.Prelude.{Option, Some, None}
use mathlib.Core.List.{List, [], ◌∷◌, ◌++◌, append-nil, append_assoc}
use native.Mathlib.Omega.{arith}
use borrow.Author.Tests.{le-ltb}
use lib.Dec.{eqb, ltb}
use lib.ListN.{length, get_or, drop, length-append}
use lib.Seq.{drop_at, drop-drop, get_or-drop}
use Rattle.response.specs.declared.Missing.{Missing}
use Rattle.receiver.specs.declared.Receiver.{Receiver}
use Rattle.receiver.specs.declared.Reported.{Reported}
use Rattle.receiver.specs.declared.ReceiverState.{ReceiverState}
use Rattle.receiver.specs.declared.ReceiverState.TheVariants.{AwaitingBegin, Receiving, Complete, Failed, Expired, Canceled}
use Rattle.image.specs.Numbers.{spell, number_of, length_spell, number_back}
use Rattle.image_link.specs.Marks.{marks_wide}
use Rattle.image_link.specs.Peers.{peer_image, protocol_image}
use Rattle.image_link.specs.Responses.{response_image, support_layout}
use Rattle.receiver_answers.specs.Answers.{reply_image, message_image, reception_image}
use Rattle.receiver_image.specs.Parts.{state_number, state_image}
use Rattle.receiver_image.specs.Heads.{head_image, terms_image, standing_image, progress_image}
use Rattle.receiver_image.specs.Images.{image_of}
use Rattle.report.specs.declared.outcome.Event.{Event}
use Rattle.report.specs.declared.outcome.Event.TheVariants as event
use Rattle.report.specs.Outcome.{number_at, handed_in, call_event, missing_in, first_missing_in}

-- what an event has of it
abbrev pub Handed : Type 0
Handed = Option ℕ

-- what a call's message is
abbrev pub handed_of : Option ℕ → Handed
handed_of None = None
handed_of (Some n) = Some n

abbrev pub is_failed : ReceiverState → Bool
is_failed AwaitingBegin = false
is_failed Receiving = false
is_failed Complete = false
is_failed (Failed s) = true
is_failed Expired = false
is_failed Canceled = false

-- a number of octets is one of 64 bits
abbrev pub MessageFits : Option ℕ → Type 0
MessageFits None = Unit {0}
MessageFits (Some n) = n < 256 ^ 8

-- ---- the message, behind the 46 octets of a reply

response_wide : (x : Reported) → length (1 ∷ response_image x.response) ≡ 42
unfolding response_image
response_wide x =
    let a = length_spell 2 x.response.acknowledgments.bit_count in
    let b = marks_wide x.response.acknowledgments.received in
    let c = support_layout.wide x.response.optional_services_support tt in
    simp length-append (omega arith)

reply_wide : (r : Option Reported) → length (reply_image r) ≡ 46
unfolding reply_image
reply_wide None = refl
reply_wide (Some x) =
    let a : length (1 ∷ response_image x.response) ≡ 42 = response_wide x in
    let b = length_spell 2 x.missing.count in
    let c = length_spell 2 x.missing.first in
    simp length-append (omega arith)

behind_reply : (r : Option Reported) (m : Option ℕ) → drop 46 (reception_image r m) ≡ message_image m
unfolding reception_image
behind_reply r m = drop_at (reply_image r) (message_image m) 46 (reply_wide r)

flag_at : (r : Option Reported) (m : Option ℕ) → get_or (reception_image r m) 46 0 ≡ get_or (message_image m) 0 0
flag_at r m = sym (get_or-drop 46 (reception_image r m) 0 0) ∙ ap (λ (l : List ℕ). get_or l 0 0) (behind_reply r m)

behind_flag : (r : Option Reported) (m : Option ℕ) → drop 47 (reception_image r m) ≡ drop 1 (message_image m)
behind_flag r m = sym (drop-drop 1 46 (reception_image r m)) ∙ ap (drop 1) (behind_reply r m)

-- the flag and the number that follows it, as they are read
read_handed : List ℕ → List ℕ → Handed
read_handed flag rest = cond (eqb (get_or flag 0 0) 0) None (Some (cond (ltb (length rest) 8) 0 (number_of 8 rest)))

spelled_number : (n : ℕ) → n < 256 ^ 8 → number_of 8 (spell 8 n) ≡ n
spelled_number n h = ap (number_of 8) (sym (append-nil (spell 8 n))) ∙ number_back 8 n [] h

message_read : (m : Option ℕ) → MessageFits m → read_handed (message_image m) (drop 1 (message_image m)) ≡ handed_of m
unfolding message_image read_handed
message_read None f = refl
message_read (Some n) f =
    ap (λ (k : ℕ). Some (cond (ltb k 8) 0 (number_of 8 (spell 8 n)))) (length_spell 8 n) ∙ ap Some (spelled_number n f)

handed_read : (r : Option Reported) (m : Option ℕ) → MessageFits m → handed_in (reception_image r m) ≡ handed_of m
unfolding read_handed
handed_read r m f =
    ap₂ {C = Handed} (λ (x : ℕ) (l : List ℕ). cond (eqb x 0) None (Some (cond (ltb (length l) 8) 0 (number_of 8 l)))) (flag_at r m) (behind_flag r m)
    ∙ message_read m f

-- ---- the figures, behind the flag and the 41 octets of a response

-- a number that stands at a place is read there
number_there : (w n : ℕ) (rest l : List ℕ) (at : ℕ) → drop at l ≡ spell w n ++ rest → n < 256 ^ w → number_at w l at ≡ n
number_there w n rest l at e h =
    let wide : length (spell w n ++ rest) ≡ w + length rest = length-append (spell w n) rest ∙ ap (λ (k : ℕ). k + length rest) (length_spell w n) in
    ap (λ (d : List ℕ). cond (ltb (length d) w) 0 (number_of w d)) e
    ∙ ap (λ (b : Bool). cond b 0 (number_of w (spell w n ++ rest))) (le-ltb (length (spell w n ++ rest)) w (omega arith))
    ∙ number_back w n rest h

behind_response : (x : Reported) (m : Option ℕ) → drop 42 (reception_image (Some x) m) ≡ spell 2 x.missing.count ++ (spell 2 x.missing.first ++ message_image m)
unfolding reception_image reply_image
behind_response x m =
    let front : List ℕ = 1 ∷ response_image x.response in
    let count = spell 2 x.missing.count in
    let first = spell 2 x.missing.first in
    ap (drop 42) (append_assoc front (count ++ first) (message_image m)) ∙ drop_at front ((count ++ first) ++ message_image m) 42 (response_wide x)
    ∙ append_assoc count first (message_image m)

-- figures are numbers of 16 bits
abbrev pub MissingFits : Missing → Type 0
MissingFits x = (x.count < 256 ^ 2) × (x.first < 256 ^ 2)

-- those that the program reads are those that the call answered
pub figures_read : (x : Reported) (m : Option ℕ) → MissingFits x.missing
    → (missing_in (reception_image (Some x) m) ≡ x.missing.count) × (first_missing_in (reception_image (Some x) m) ≡ x.missing.first)
figures_read x m f =
    let l = reception_image (Some x) m in
    let count = spell 2 x.missing.count in
    let rest = spell 2 x.missing.first ++ message_image m in
    let behind = sym (drop-drop 2 42 l) ∙ ap (drop 2) (behind_response x m) ∙ drop_at count rest 2 (length_spell 2 x.missing.count) in
    (number_there 2 x.missing.count rest l 42 (behind_response x m) f.0, number_there 2 x.missing.first (message_image m) l 44 behind f.1)

-- ---- the state

state_at : (s : Receiver) (rest : List ℕ) → get_or (image_of s ++ rest) 24 0 ≡ state_number s.progress.state
unfolding image_of head_image terms_image progress_image standing_image state_image peer_image protocol_image spell
state_at s rest = refl

failed_number : (s : ReceiverState) → eqb (state_number s) 3 ≡ is_failed s
failed_number AwaitingBegin = refl
failed_number Receiving = refl
failed_number Complete = refl
failed_number (Failed s) = refl
failed_number Expired = refl
failed_number Canceled = refl

-- the event of a call that answered r and m and left s, with anything behind RECEIVER
pub call_noted : (r : Option Reported) (m : Option ℕ) (s : Receiver) (rest : List ℕ) → MessageFits m
    → call_event (reception_image r m) (image_of s ++ rest) ≡ event.Call (handed_of m) (is_failed s.progress.state)
call_noted r m s rest f =
    ap₂ {C = Event} (λ (h : Handed) (b : Bool). event.Call h b) (handed_read r m f)
    (ap (λ (x : ℕ). eqb x 3) (state_at s rest) ∙ failed_number s.progress.state)
