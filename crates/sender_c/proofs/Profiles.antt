-- Document 02, 2026-11, of the sender's exports: a profile is no number that names a case. One other than 1 or 2 gives 16384, which is 64, behind 30 and
-- 31; 258 comes before it, for the protocol alone. Octets of a record of neither profile spell it, and each call that can refuse gives 15872, which is
-- 62, and changes no octet. Assumes nothing.
use mathlib.Core.Path.{◌≡◌, sym, ap, ◌∙◌}
use mathlib.Core.Bool.{Bool, true, false, not}
use mathlib.Core.List.{List, []}
use Rattle.std.specs.Prelude.{None}
use Prim.Native.Nat.{ℕ, ◌-◌, ◌^◌, ◌≤◌, ◌<◌}
use lib.ListN.{length}
use lib.Seq.{sets}
use borrow.Author.Tests.{le-ltb, lt-ltb}
use Rattle.octets.specs.Laws.{sets_nil}
use Rattle.tsar.specs.Rows.{Refusal, refusal, refusal_pass, start, skip, stop}
use Rattle.link.specs.Peer.{identity_refused, protocol_served}
use Rattle.sender.specs.CallList.{Call as SenderCall, advance, cancel, submitted, accepted, lower_failed, receive_response}
use Rattle.sender.specs.Own.{ours, neither_62}
use Rattle.sender.specs.declared.Arrival.{Arrival}
use Rattle.sender.specs.declared.Terms.{Terms}
use Rattle.sender.specs.declared.Sender.{Sender}
use Rattle.sender.specs.declared.SenderState.{SenderState}
use Rattle.sender.specs.Calls.{answered}
use Rattle.sender.specs.TryNew.{try_new_of}
use Rattle.sender.specs.Made.{made_terms}
use Rattle.sender.proofs.Profiles.{gives_64}
use Rattle.image.specs.Cases.{protocol_of}
use Rattle.image_link.specs.Responses.{response_ok}
use Rattle.plan_image.specs.Plans.{plan_of, plan_ok}
use Rattle.sender_image.specs.Images.{image_of, record_of, image_ok, image_kept}
use Rattle.sender_answers.specs.Answers.{failure_of}
use Rattle.codec_c.specs.Codes.{short, unnamed}
use Rattle.sender_c.specs.Calls.{Call, call, peer_of, terms_of, step_call, sender_call, made_call, new_call, new_tests, new_step, state_tests, advance_step, cancel_step, submitted_step, accepted_step, failed_tests, failed_step, response_tests, response_step}
use Rattle.sender_c.specs.Laws.{call_refused, call_done}

-- ---- a new sender

module _ (image plan message : List ℕ) (kind width value protocol octet version profile number reading : ℕ) where
  abbrev made : Call
  made = new_call (new_tests image protocol plan) image (new_step (terms_of kind width value protocol octet version profile number) plan message reading)

  -- what it asks of try_new
  abbrev pub asked : Terms
  asked = record { peer = record { kind = kind; width = width; value = value }; protocol = protocol_of protocol octet; version = version; profile = profile; number = number }

  module _ (room : 6131 ≤ length image) (plan_room : 5958 ≤ length plan) (spelled : plan_ok plan ≡ true) where
    -- 64, whatever the plan and the version; the record is left as it was
    pub export_64 : protocol ≤ 2 → identity_refused (peer_of kind width value) ≡ false → protocol_served (protocol_of protocol octet) ≡ true → (profile ≡ 1 → ⊥) → (profile ≡ 2 → ⊥)
        → made ≡ call 16384 image []
    unfolding new_call
    export_64 named peer served e f =
        let step = new_step (terms_of kind width value protocol octet version profile number) plan message reading in
        let passed = refusal_pass (new_tests image protocol plan) (le-ltb (length image) 6131 room, (le-ltb (length plan) 5958 plan_room, (ap not spelled, (le-ltb 2 protocol named, tt)))) in
        sym (call_done (new_tests image protocol plan) image [] (made_call image step) passed)
        ∙ simp (gives_64 (terms_of kind width value protocol octet version profile number) (plan_of plan) message reading peer served e f)

    -- 258 comes before it, whatever the profile
    pub export_258 : 2 < protocol → made ≡ call 66048 image []
    unfolding new_call
    export_258 l =
        let tests = new_tests image protocol plan in
        let step = new_step (terms_of kind width value protocol octet version profile number) plan message reading in
        sym (call_refused tests image [] (made_call image step) unnamed
        (stop short (skip (skip (skip (start tests) (le-ltb (length image) 6131 room)) (le-ltb (length plan) 5958 plan_room)) (ap not spelled)) (lt-ltb 2 protocol l)))

    -- where try_new makes a sender: 0, and the record's octets are those of a sender of these terms, the profile among them
    pub export_made : protocol ≤ 2 → (x : SenderState) → (try_new_of asked (plan_of plan) message reading).answer ≡ answered x
        → (s : Sender) × (made ≡ call 0 (sets image 0 (image_of s)) []) × (s.terms ≡ asked)
    unfolding new_call
    export_made named x e =
        let step = try_new_of asked (plan_of plan) message reading in
        let passed = refusal_pass (new_tests image protocol plan) (le-ltb (length image) 6131 room, (le-ltb (length plan) 5958 plan_room, (ap not spelled, (le-ltb 2 protocol named, tt)))) in
        (step.sender, sym (call_done (new_tests image protocol plan) image [] (made_call image step) passed) ∙ simp e, made_terms asked (plan_of plan) message reading x e)

-- ---- a record of neither profile, whose ticket last given is one of 64 bits

module _ (image answer : List ℕ) (room : 6131 ≤ length image) (answer_room : 4 ≤ length answer) (spelled : image_ok image ≡ true)
    (not_1 : (record_of image).terms.profile ≡ 1 → ⊥) (not_2 : (record_of image).terms.profile ≡ 2 → ⊥) (ticket : (record_of image).progress.last_ticket ≤ 2 ^ 64 - 1) where
  gives_62 : (tests : List (Bool × Refusal)) → refusal tests ≡ None → (c : SenderCall) → sender_call tests image answer (ours (record_of image) c) ≡ call 15872 image answer
  unfolding sender_call
  gives_62 tests passed c =
      sym (call_done tests image answer (step_call image answer (ours (record_of image) c)) passed)
      ∙ ap (step_call image answer) (neither_62 (record_of image) not_1 not_2 ticket c)
      ∙ (λ i. call 15872 (image_kept image room spelled i) (sets_nil answer 0 i))

  state_62 : (c : SenderCall) → sender_call (state_tests image answer) image answer (ours (record_of image) c) ≡ call 15872 image answer
  state_62 c = gives_62 (state_tests image answer) (refusal_pass (state_tests image answer) (le-ltb (length image) 6131 room, (le-ltb (length answer) 4 answer_room, (ap not spelled, tt)))) c

  pub advance_62 : (reading : ℕ) → sender_call (state_tests image answer) image answer (advance_step image reading) ≡ call 15872 image answer
  advance_62 reading = state_62 (advance reading)

  pub cancel_62 : (reading : ℕ) → sender_call (state_tests image answer) image answer (cancel_step image reading) ≡ call 15872 image answer
  cancel_62 reading = state_62 (cancel reading)

  pub submitted_62 : (number ticket queued observed : ℕ) → sender_call (state_tests image answer) image answer (submitted_step image number ticket queued observed) ≡ call 15872 image answer
  submitted_62 number ticket queued observed = state_62 (submitted number ticket queued observed)

  pub accepted_62 : (number ticket reading : ℕ) → sender_call (state_tests image answer) image answer (accepted_step image number ticket reading) ≡ call 15872 image answer
  accepted_62 number ticket reading = state_62 (accepted number ticket reading)

  pub failed_62 : (number ticket failure cause reading : ℕ) → failure ≤ 2 → sender_call (failed_tests image failure answer) image answer (failed_step image number ticket failure cause reading) ≡ call 15872 image answer
  failed_62 number ticket failure cause reading named =
      gives_62 (failed_tests image failure answer)
      (refusal_pass (failed_tests image failure answer) (le-ltb (length image) 6131 room, (le-ltb (length answer) 4 answer_room, (ap not spelled, (le-ltb 2 failure named, tt)))))
      (lower_failed number ticket (failure_of failure cause) reading)

  pub response_62 : (response : List ℕ) (protocol : ℕ) (a : Arrival) → 41 ≤ length response → response_ok response ≡ true → protocol ≤ 2
      → sender_call (response_tests image protocol response answer) image answer (response_step image a) ≡ call 15872 image answer
  response_62 response protocol a long ok named =
      gives_62 (response_tests image protocol response answer)
      (refusal_pass (response_tests image protocol response answer) (le-ltb (length image) 6131 room, (le-ltb (length response) 41 long, (le-ltb (length answer) 4 answer_room, (ap not spelled, (ap not ok, (le-ltb 2 protocol named, tt)))))))
      (receive_response a)
