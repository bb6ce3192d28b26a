-- What holds of every reached record beside the invariant, kept by each call: what 62 asks for, and what the order of the states brings.
use Rattle.std.specs.Prelude.{ℕ, suc, ◌<◌, ◌≡◌, refl, ◌≢◌, List, [], ◌∷◌, Bool, true, false, ◌&&◌, ◌||◌, get_or, set, eqb, Option, Some, None}
use Rattle.std.proofs.Common.{sym, ◌∙◌, subst, ⊎_elim, arith, get_or-set_same, get_or-set_other, eqb-true}
use Rattle.std.proofs.lemmas.Bool.{false≢true, not-false}
use Rattle.words.specs.Marks.{marked, no_marks, all_below}
use Rattle.words.specs.Search.{all_below_ext}
use Rattle.words.specs.Laws.{marked_words_of}
use Rattle.words.specs.declared.Words.{Words}
use Rattle.tsar.specs.Layout.{type_of}
use Rattle.tsar.specs.Reading.{begin_test}
use Rattle.tsar.specs.Kinds.{is_begin, is_end, compresses, selects_crc, prohibited}
use Rattle.tsar.specs.declared.OptionalServices.{OptionalServices}
use Rattle.tsar.specs.declared.SegmentKind.{SegmentKind}
use Rattle.tsar.specs.declared.SegmentKind.TheVariants.{Begin, Continue, End}
use Rattle.response.specs.declared.Status.{Status}
use Rattle.receiver.specs.declared.Slot.{Slot}
use Rattle.receiver.specs.declared.ReceiverState.{ReceiverState}
use Rattle.receiver.specs.declared.ReceiverState.TheVariants.{AwaitingBegin, Receiving, Complete, Failed, Expired, Canceled}
use Rattle.receiver.specs.declared.Terms.{Terms}
use Rattle.receiver.specs.declared.Receiver.{Receiver}
use Rattle.receiver.specs.Record.{taking, awaiting, receiving, complete, receiving_or_complete, running, no_slot, empty_slots, full_with}
use Rattle.receiver.specs.Answers.{Step}
use Rattle.receiver.specs.Receive.{Arrival, sequence, kind, settle, services_of, Stage, before, begun, noted, keeping, fails, repeats, keeps, finishes}
use Rattle.receiver.specs.Advance.{no_services, empty, try_new_of, fires}
use Rattle.delivery.specs.Calls.{Call, receive, advance, cancel, release, Left, step_of, after, then, FitsTypes, AllFitTypes}
use Rattle.delivery.specs.Lists.{never, and_left, and_rest, holding, marked_here, marked_other}
use Rattle.delivery.specs.Rules.{Admitted, New, services_with, end_with, fills, by_rules, by_receive, by_advance, by_cancel, by_release}
use Rattle.delivery.specs.Body.{end_cases}
use Rattle.delivery.specs.Invariant.{InvOf, open_takes, shut, then_inv, made_is}

-- an end is known, and every slot up to it is held
abbrev pub filled : Words → Option ℕ → Bool
filled held None = false
filled held (Some e) = all_below (suc e) (marked held)

-- what holds of a record beside Inv
pub record Ready (state : ReceiverState) (services : OptionalServices) (held : Words) (slots : List Slot) (end_sequence : Option ℕ) (stated : Option ℕ) (count : ℕ) (cutoff : Option ℕ) : Type 0 where
  -- a closed receiver counts nothing
  pub no_octets : taking state ≡ false → count ≡ 0
  -- in Receiving and Complete slot 0 is a held Begin, and the services have neither compression nor a CRC
  pub begun : receiving_or_complete state ≡ true → (marked held 0 && is_begin (get_or slots 0 no_slot).kind) ≡ true
  pub plain : receiving_or_complete state ≡ true → (compresses services.compression || selects_crc services.crc_status) ≡ false
  -- a deadline runs only in Receiving, and there always under Prohibited
  pub idle : receiving state ≡ false → cutoff ≡ None
  pub waits : receiving state ≡ true → prohibited services.acknowledgment_window ≡ true → running cutoff ≡ true
  -- Complete has all up to its end, Receiving lacks some where it knows an end
  pub full : complete state ≡ true → filled held end_sequence ≡ true
  pub unfilled : receiving state ≡ true → filled held end_sequence ≡ false
  -- before the Begin there is no end and no stated length, and the services are the default ones
  pub no_end : awaiting state ≡ true → end_sequence ≡ None
  pub no_length : awaiting state ≡ true → stated ≡ None
  pub no_services_lem : awaiting state ≡ true → services ≡ no_services

-- of a receiver
abbrev pub ReadyOf : Receiver → Type 0
ReadyOf r =
    let p = r.progress in
    Ready p.state p.services r.held r.slots p.end_sequence p.message_length p.stored_octets p.deadline_monotonic_ms

-- ---- states

-- a receiver that takes segments and is not open awaits the Begin
awaits : (s : ReceiverState) → taking s ≡ true → receiving_or_complete s ≡ false → awaiting s ≡ true
awaits AwaitingBegin k e = refl
awaits Receiving k e = sym e
awaits Complete k e = sym e
awaits (Failed n) k e = k
awaits Expired k e = k
awaits Canceled k e = k

-- a closed record
closed_ready : (s : ReceiverState) → taking s ≡ false → (v : OptionalServices) (z : Option ℕ) (n : Option ℕ) → Ready s v no_marks empty_slots z n 0 None
closed_ready s f v z n = record {
  no_octets = λ e. refl;
  begun = λ e. never _ f (open_takes s e);
  plain = λ e. never _ f (open_takes s e);
  idle = λ e. refl;
  waits = λ e p. never _ (shut s f).1 e;
  full = λ e. never _ (shut s f).2 e;
  unfilled = λ e. never _ (shut s f).1 e;
  no_end = λ e. never _ (shut s f).0 e;
  no_length = λ e. never _ (shut s f).0 e;
  no_services_lem = λ e. never _ (shut s f).0 e;
}

-- ---- a new segment's kind

-- a Begin that the codec takes has number 0
begin_zero : (k : SegmentKind) (q : ℕ) → is_begin k ≡ true → begin_test (type_of k) q ≡ false → q ≡ 0
begin_zero (Begin n s) q b e = eqb-true q 0 (not-false _ e)
begin_zero (Continue n) q b e = absurd (false≢true b)
begin_zero (End n c) q b e = absurd (false≢true b)

-- the services with a new segment are served where a Begin's are, and else where the old ones were
plain_after : (v : OptionalServices) (k : SegmentKind)
    → (is_begin k && (compresses (services_of v k).compression || selects_crc (services_of v k).crc_status)) ≡ false
    → (is_begin k ≡ false → (compresses v.compression || selects_crc v.crc_status) ≡ false)
    → (compresses (services_of v k).compression || selects_crc (services_of v k).crc_status) ≡ false
plain_after v (Begin n s) e h = e
plain_after v (Continue n) e h = h refl
plain_after v (End n c) e h = h refl

-- the slots up to an end are held with one more segment where they were but for it
filled_with : (held : Words) (q : ℕ) (z : Option ℕ) → ((e : ℕ) → z ≡ Some e → e < 256) → filled (holding held q) z ≡ full_with held q z
filled_with held q None h = refl
filled_with held q (Some e) h =
    let l = h e refl in
    all_below_ext (suc e) (marked (holding held q)) (λ t. eqb t q || marked held t) (λ i k. marked_words_of (λ t. eqb t q || marked held t) i (omega arith))

-- ---- receive

module _ (interval : ℕ) (t : Terms) (w : Left) (I : InvOf t w) (S : ReadyOf w.receiver) (a : Arrival) (o : List ℕ) (seq : sequence a < 256) where
  abbrev r : Receiver
  r = w.receiver

  abbrev Next : Step → Type 0
  Next st = ReadyOf st.receiver

  module _ (A : Admitted r a w.store o) (N : New r a) where
    -- only a Begin finds a receiver that is not open
    open_else : is_begin (kind a) ≡ false → receiving_or_complete r.progress.state ≡ true
    open_else b = go (receiving_or_complete r.progress.state) refl
      where
        go : (x : Bool) → receiving_or_complete r.progress.state ≡ x → x ≡ true
        go true e = refl
        go false e = never _ b (not-false _ (and_rest _ _ A.begin_there (awaits r.progress.state A.takes e)))

    -- slot 0 is a held Begin
    first_there : (marked (holding r.held (sequence a)) 0 && is_begin (get_or (set r.slots (sequence a) (record { kind = kind a })) 0 no_slot).kind) ≡ true
    first_there = go (is_begin (kind a)) refl
      where
        go : (b : Bool) → is_begin (kind a) ≡ b → (marked (holding r.held (sequence a)) 0 && is_begin (get_or (set r.slots (sequence a) (record { kind = kind a })) 0 no_slot).kind) ≡ true
        go true b =
            let z : sequence a ≡ 0 = begin_zero (kind a) (sequence a) b A.begin_first in
            let m : marked (holding r.held (sequence a)) 0 ≡ true = subst (λ (k : ℕ). marked (holding r.held (sequence a)) k ≡ true) z (marked_here r.held (sequence a) seq) in
            let g : get_or (set r.slots (sequence a) (record { kind = kind a })) 0 no_slot ≡ record { kind = kind a } =
            subst (λ (k : ℕ). get_or (set r.slots (sequence a) (record { kind = kind a })) k no_slot ≡ record { kind = kind a }) z
            (get_or-set_same r.slots (sequence a) (record { kind = kind a }) no_slot (omega (arith, I.long_slots))) in
            rw (m, g) b
        go false b =
            let g = S.begun (open_else b) in
            let ne : 0 ≢ sequence a = λ z. never _ N.free (subst (λ (k : ℕ). marked r.held k ≡ true) z (and_left _ _ g)) in
            rw (marked_other r.held (sequence a) 0 (omega arith) ne, get_or-set_other r.slots (sequence a) 0 (record { kind = kind a }) no_slot ne) g

    -- the services are served
    served : (compresses (services_with r a).compression || selects_crc (services_with r a).crc_status) ≡ false
    served = plain_after r.progress.services (kind a) N.served (λ b. S.plain (open_else b))

    -- the end is below 256
    end_small : (e : ℕ) → end_with r a ≡ Some e → e < 256
    end_small e z =
        ⊎_elim (λ (h : (is_end (kind a) ≡ true) × (sequence a ≡ e)). omega (arith, h.1))
        (λ (h : r.progress.end_sequence ≡ Some e). ((I.body A.takes).ended e h).0)
        (end_cases r.progress.end_sequence (kind a) (sequence a) e z)

    -- held
    kept_ready : fills r a ≡ false → Next (settle interval keeps r a w.store o)
    kept_ready e' = record {
      no_octets = λ e. absurd (false≢true (sym e));
      begun = λ e. first_there;
      plain = λ e. served;
      idle = λ e. absurd (false≢true (sym e));
      waits = λ e b. refl;
      full = λ e. absurd (false≢true e);
      unfilled = λ e. filled_with r.held (sequence a) (end_with r a) end_small ∙ e';
      no_end = λ e. absurd (false≢true e);
      no_length = λ e. absurd (false≢true e);
      no_services_lem = λ e. absurd (false≢true e);
    }

    -- and complete
    finished_ready : fills r a ≡ true → Next (settle interval finishes r a w.store o)
    finished_ready e' = record {
      no_octets = λ e. absurd (false≢true (sym e));
      begun = λ e. first_there;
      plain = λ e. served;
      idle = λ e. refl;
      waits = λ e b. absurd (false≢true e);
      full = λ e. filled_with r.held (sequence a) (end_with r a) end_small ∙ e';
      unfilled = λ e. absurd (false≢true e);
      no_end = λ e. absurd (false≢true e);
      no_length = λ e. absurd (false≢true e);
      no_services_lem = λ e. absurd (false≢true e);
    }

  -- a repeat
  again_ready : Next (settle interval repeats r a w.store o)
  again_ready = record {
    no_octets = S.no_octets;
    begun = S.begun;
    plain = S.plain;
    idle = λ e. rw e (S.idle e);
    waits = λ e b. rw e;
    full = S.full;
    unfilled = S.unfilled;
    no_end = S.no_end;
    no_length = S.no_length;
    no_services_lem = S.no_services_lem;
  }

  -- a reception that fails
  fails_ready : (st : Stage) (s : Status) → Next (settle interval (fails st s) r a w.store o)
  fails_ready before s = closed_ready (Failed s) refl _ _ _
  fails_ready begun s = closed_ready (Failed s) refl _ _ _
  fails_ready noted s = closed_ready (Failed s) refl _ _ _
  fails_ready keeping s = closed_ready (Failed s) refl _ _ _

  -- receive keeps it
  pub receive_ready : ReadyOf (then (step_of interval) w (receive a o)).receiver
  receive_ready =
      by_receive Next interval r a w.store o (λ n e. S) (λ A. closed_ready Expired refl _ _ _) S
      (λ A. by_rules (λ out. Next (settle interval out r a w.store o)) r a w.store (λ st s n. fails_ready st s) (λ e. again_ready) S (λ N right. finished_ready A N) (kept_ready A))

-- ---- advance, cancel and release

module _ (interval : ℕ) (w : Left) (S : ReadyOf w.receiver) (now' : ℕ) where
  -- advance keeps it
  pub advance_ready : ReadyOf (then (step_of interval) w (advance now')).receiver
  advance_ready = by_advance (λ st. ReadyOf st.receiver) w.receiver w.store now' (λ n e. S) (λ K b p e f. fired b p f)
    where
      fired : (b p : Bool) → prohibited w.receiver.progress.services.acknowledgment_window ≡ p → ReadyOf (fires b p w.receiver w.store now').receiver
      fired false p e = S
      fired true true e = closed_ready Expired refl _ _ _
      fired true false e = record {
        no_octets = S.no_octets;
        begun = S.begun;
        plain = S.plain;
        idle = λ f. refl;
        waits = λ f b. never _ e b;
        full = S.full;
        unfilled = S.unfilled;
        no_end = S.no_end;
        no_length = S.no_length;
        no_services_lem = S.no_services_lem;
      }

  -- cancel keeps it
  pub cancel_ready : ReadyOf (then (step_of interval) w (cancel now')).receiver
  cancel_ready = by_cancel (λ st. ReadyOf st.receiver) w.receiver w.store now' (λ n e. S) (λ K s. closed_ready Canceled refl _ _ _)

  -- release keeps it
  pub release_ready : ReadyOf (then (step_of interval) w (release now')).receiver
  release_ready = by_release (λ st. ReadyOf st.receiver) w.receiver w.store now' (λ n e. S) (λ K s. closed_ready Canceled refl _ _ _)

-- each call keeps it
pub then_ready : (interval : ℕ) (t : Terms) (w : Left) (c : Call) → FitsTypes c → InvOf t w → ReadyOf w.receiver → ReadyOf (then (step_of interval) w c).receiver
then_ready interval t w (receive a o) h I S = receive_ready interval t w I S a o h
then_ready interval t w (advance n) h I S = advance_ready interval w S n
then_ready interval t w (cancel n) h I S = cancel_ready interval w S n
then_ready interval t w (release n) h I S = release_ready interval w S n

-- the record of a try_new that refuses nothing has it
pub start_ready : (t : Terms) (made : ℕ) → (try_new_of t made).refused ≡ None → ReadyOf (try_new_of t made).receiver
start_ready t made e = subst (λ (z : Receiver). ReadyOf z) (sym (made_is t made e)) fresh
  where
    fresh : ReadyOf (empty t AwaitingBegin made)
    fresh = record {
      no_octets = λ f. refl;
      begun = λ f. absurd (false≢true f);
      plain = λ f. absurd (false≢true f);
      idle = λ f. refl;
      waits = λ f b. absurd (false≢true f);
      full = λ f. absurd (false≢true f);
      unfilled = λ f. absurd (false≢true f);
      no_end = λ f. refl;
      no_length = λ f. refl;
      no_services_lem = λ f. refl;
    }

-- and every list of calls keeps both
pub after_both : (interval : ℕ) (t : Terms) (w : Left) (cs : List Call) → AllFitTypes cs → InvOf t w → ReadyOf w.receiver
    → InvOf t (after (step_of interval) w cs) × ReadyOf (after (step_of interval) w cs).receiver
after_both interval t w [] h I S = (I, S)
after_both interval t w (c ∷ cs) h I S =
    after_both interval t (then (step_of interval) w c) cs h.1 (then_inv interval t w c h.0 I) (then_ready interval t w c h.0 I S)
