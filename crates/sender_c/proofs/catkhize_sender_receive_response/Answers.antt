-- `sender_c::catkhize_sender_receive_response` meets its contract: a short response is refused as a short record is, and past that its own tests refuse
-- it, by `refuse`, or it is `on_sender`, by the step. Assumes nothing.
use Rattle.std.specs.Prelude.{◌++◌, ◌<◌, ◌≤◌, length, ℕ, List, Bool, true, false, not, cond, Some, None}
use Rattle.std.proofs.Common.{◌≡◌, rules, ap, ◌∙◌, sym}
use borrow.Author.Tests.{lt-ltb, le-ltb}
use Rattle.image.specs.Cases.{protocol_of}
use Rattle.image_link.specs.Responses.{response_ok, response_of}
use Rattle.response.specs.declared.Response.{Response}
use Rattle.sender.specs.Calls.{Step, receive_response_of}
use Rattle.sender.specs.Says.{sent}
use Rattle.sender_image.specs.Images.{record_of}
use Rattle.tsar.specs.Rows.{refusal, refusal_pass}
use Rattle.codec_c.specs.Codes.{misspelled, unnamed}
use Rattle.sender_c.specs.Calls.{Call, call, Met, state_tests, response_own, response_tests, response_step, arrival_of}
use Rattle.sender_c.specs.Laws.{response_refused, response_long, met_alike}
use Rattle.sender_c.proofs.Handed.{refused, none_fails, some_holds}
use Rattle.sender_c.proofs.catkhize_sender_receive_response.Goals as goal

pub returns-then-response-lt-RESPONSE_OCTETS : goal.returns-then-response-lt-RESPONSE_OCTETS
returns-then-response-lt-RESPONSE_OCTETS c =
    let x = c.args in
    response_refused x.«record».now x.protocol x.response.now x.answer.now _ c.if-response-lt-RESPONSE_OCTETS.true

-- past the test of its length, the tests as the code makes them are those of the contract
past : (image answer response : List ℕ) (protocol : ℕ) (step : Step) (c : Call) → 41 ≤ length response
    → Met (state_tests image answer ++ response_own (response_ok response) protocol) image answer step c → Met (response_tests image protocol response answer) image answer step c
past image answer response protocol step c l =
    met_alike (state_tests image answer ++ response_own (response_ok response) protocol) (response_tests image protocol response answer) image answer step c
    (response_long image protocol response answer l)

own_misspelled : (ok : Bool) (protocol : ℕ) → ok ≡ false → refusal (response_own ok protocol) ≡ Some misspelled
own_misspelled ok protocol e = ap (λ (b : Bool). refusal (response_own b protocol)) e

own_unnamed : (ok : Bool) (protocol : ℕ) → ok ≡ true → 2 < protocol → refusal (response_own ok protocol) ≡ Some unnamed
own_unnamed ok protocol e l =
    ap (λ (b : Bool). refusal (response_own b protocol)) e ∙ ap (λ (b : Bool). cond b (Some unnamed) None) (lt-ltb 2 protocol l)

pub returns-in_default : goal.returns-in_default
returns-in_default c =
    let x = c.args in
    let l = x.response.now in
    let p = c.refuse in
    let none : c.get_response.result ≡ None = search rules in
    let own = response_own (response_ok l) x.protocol in
    let step = response_step x.«record».now (arrival_of x.peer_kind x.peer_width x.peer_value x.protocol x.protocol_octet l x.unparsed x.reading) in
    past x.«record».now x.answer.now l x.protocol step (call p.result x.«record».now x.answer.now) c.if-response-lt-RESPONSE_OCTETS.false
    (p.ensures own step (refused own step misspelled (record_of x.«record».now)
    (own_misspelled (response_ok l) x.protocol (none_fails (response_ok l) (response_of l) (sym c.get_response.ensures ∙ none)))))

pub returns-then-protocol-gt-MAX_PROTOCOL : goal.returns-then-protocol-gt-MAX_PROTOCOL
returns-then-protocol-gt-MAX_PROTOCOL c =
    let x = c.args in
    let l = x.response.now in
    let p = c.refuse-then-protocol-gt-MAX_PROTOCOL in
    let own = response_own (response_ok l) x.protocol in
    let step = response_step x.«record».now (arrival_of x.peer_kind x.peer_width x.peer_value x.protocol x.protocol_octet l x.unparsed x.reading) in
    let is = some_holds (response_ok l) (response_of l) c.in-Some.received (sym c.get_response.ensures ∙ c.in-Some.is) in
    past x.«record».now x.answer.now l x.protocol step (call p.result x.«record».now x.answer.now) c.if-response-lt-RESPONSE_OCTETS.false
    (p.ensures own step (refused own step unnamed (record_of x.«record».now)
    (own_unnamed (response_ok l) x.protocol is.0 c.if-protocol-gt-MAX_PROTOCOL.true)))

pub returns : goal.returns
returns c =
    let x = c.args in
    let l = x.response.now in
    let p = c.on_sender in
    let own = response_own (response_ok l) x.protocol in
    let given : Response → Step = λ r. receive_response_of (record_of x.«record».now) (record { peer = record { kind = x.peer_kind; width = x.peer_width; value = x.peer_value }; protocol = protocol_of x.protocol x.protocol_octet; response = r; unparsed = x.unparsed; reading = x.reading }) in
    let step = response_step x.«record».now (arrival_of x.peer_kind x.peer_width x.peer_value x.protocol x.protocol_octet l x.unparsed x.reading) in
    let is = some_holds (response_ok l) (response_of l) c.in-Some.received (sym c.get_response.ensures ∙ c.in-Some.is) in
    past x.«record».now x.answer.now l x.protocol step (call p.result p.new.«record» p.new.answer) c.if-response-lt-RESPONSE_OCTETS.false
    (p.ensures own step (refusal_pass own (ap not is.0, (le-ltb 2 x.protocol c.if-protocol-gt-MAX_PROTOCOL.false, tt))) (λ r q.
    let said : sent r ≡ given c.in-Some.received = search rules in
    said ∙ ap given (sym is.1)))
