-- The ways in which a call can end, each with the facts that hold there: a claim on what every call leaves is shown by these cases.
use Rattle.std.specs.Prelude.{ℕ, ◌+◌, ◌-◌, ◌≤◌, min, ◌≡◌, Bool, true, false, not, ◌&&◌, ◌||◌, length, eqb, Option, Some, None}
use Rattle.std.proofs.Math.Path.{refl}
use mathlib.Core.List.{List, [], ◌∷◌, ◌++◌}
use Rattle.std.proofs.Common.{ltb-false}
use Rattle.std.proofs.lemmas.Bool.{not-false}
use Rattle.words.specs.Marks.{marked}
use Rattle.tsar.specs.Rows.{Refusal, first_of, refusal, refusal_none, by_rows, either}
use Rattle.tsar.specs.Kinds.{is_begin, is_continue, is_end, compresses, selects_crc, has_crc, prohibited, states_other}
use Rattle.tsar.specs.Layout.{type_of}
use Rattle.tsar.specs.Reading.{begin_test}
use Rattle.tsar.specs.Writing.{length_in, crc_in}
use Rattle.tsar.specs.declared.OptionalServices.{OptionalServices}
use Rattle.response.specs.Responses.{status_number}
use Rattle.response.specs.declared.Status.{Status}
use Rattle.response.specs.declared.Status.TheVariants as status
use Rattle.receiver.specs.declared.Receiver.{Receiver}
use Rattle.receiver.specs.Record.{taking, awaiting, receiving, complete, late, due, states_below, states_above, clash, past_end, other_end, store_octets, clear_past, full_with, impossible}
use Rattle.receiver.specs.Answers.{Step, refuses}
use Rattle.receiver.specs.Receive.{Arrival, sequence, kind, services_of, stated_of, end_of, unserved, receive_rows, slot_rules, settle, late_or, receive_after, receive_of, Stage, before, begun, noted, keeping, Outcome, fails, repeats, closes, keeps, finishes}
use Rattle.receiver.specs.Advance.{clock_rows, fires, advance_after, advance_of, cancel_rows, cancel_after, cancel_of, release_rows, release_of}
use Rattle.delivery.specs.Lists.{and_rest, or_left, or_right}

-- ---- receive

-- what holds of a receive that is not refused
pub record Admitted (r : Receiver) (a : Arrival) (store out : List ℕ) : Type 0 where
  pub room : store_octets ≤ length store
  pub output_room : min r.terms.maximum_message_octets store_octets ≤ length out
  pub not_back : r.progress.last_monotonic_ms ≤ a.reading
  pub short : length a.octets ≤ 255
  pub begin_first : begin_test (type_of (kind a)) (sequence a) ≡ false
  pub takes : taking r.progress.state ≡ true
  pub begin_there : (awaiting r.progress.state && not (is_begin (kind a))) ≡ false

-- the services, the stated length, the end and the count with the segment
abbrev pub services_with : Receiver → Arrival → OptionalServices
services_with r a = services_of r.progress.services (kind a)

abbrev pub stated_with : Receiver → Arrival → Option ℕ
stated_with r a = stated_of r.progress.message_length (length_in (kind a))

abbrev pub end_with : Receiver → Arrival → Option ℕ
end_with r a = end_of r.progress.end_sequence (kind a) (sequence a)

abbrev pub count_with : Receiver → Arrival → ℕ
count_with r a = r.progress.stored_octets + length a.octets

-- the slots up to the end are held once the segment is
abbrev pub fills : Receiver → Arrival → Bool
fills r a = full_with r.held (sequence a) (end_with r a)

-- what holds of a segment that is newly held
pub record New (r : Receiver) (a : Arrival) : Type 0 where
  pub free : marked r.held (sequence a) ≡ false
  pub unfinished : complete r.progress.state ≡ false
  pub not_255 : (is_continue (kind a) && eqb (sequence a) 255) ≡ false
  pub served : (is_begin (kind a) && (compresses (services_with r a).compression || selects_crc (services_with r a).crc_status)) ≡ false
  pub no_crc : has_crc (crc_in (kind a)) ≡ false
  pub in_place : (is_end (kind a) && (eqb (sequence a) 0 || other_end r.progress.end_sequence (sequence a) || not (clear_past r.held (sequence a)))) ≡ false
  pub inside : past_end r.progress.end_sequence (sequence a) ≡ false
  pub agrees : clash r.progress.message_length (length_in (kind a)) ≡ false
  pub stated_fits : states_above (stated_with r a) r.terms.maximum_message_octets ≡ false
  pub fits : length a.octets ≤ r.terms.maximum_message_octets - r.progress.stored_octets
  pub not_passed : states_below (stated_with r a) (count_with r a) ≡ false

-- no status of services that are not served is Received
unserved_other : (v : OptionalServices) → eqb (status_number (unserved v)) 10 ≡ false
unserved_other v =
    either (λ (u : Status). eqb (status_number u) 10 ≡ false) (compresses v.compression && selects_crc v.crc_status) status.MultipleServicesUnsupported _ (λ e. refl)
    (λ e. either (λ (u : Status). eqb (status_number u) 10 ≡ false) (compresses v.compression) status.CompressionUnsupported status.CrcSelectionUnsupported (λ e. refl) (λ e. refl))

module _ (P : Outcome → Type 0) (r : Receiver) (a : Arrival) (store : List ℕ)
    (failed : (st : Stage) (s : Status) → eqb (status_number s) 10 ≡ false → P (fails st s)) (repeated : marked r.held (sequence a) ≡ true → P repeats) (closed' : P closes)
    (finished : New r a → states_other (stated_with r a) (count_with r a) ≡ false → fills r a ≡ true → P finishes) (kept' : New r a → fills r a ≡ false → P keeps) where
  -- by the rules of the slots: it fails, with a status other than Received; repeats a held segment; finds the message complete; or is held
  pub by_rules : P (first_of (slot_rules r a store) keeps)
  by_rules = by_rows P (slot_rules r a store) keeps (
    (λ e. failed before _ refl),
    λ f0. (
      (λ e. failed before _ refl),
      λ f1. (
        repeated,
        λ f2. (
          (λ e. closed'),
          λ f3. (
            (λ e. failed before _ refl),
            λ f4. (
              (λ e. failed begun _ (unserved_other (services_with r a))),
              λ f5. (
                (λ e. failed before _ refl),
                λ f6. (
                  (λ e. failed before _ refl),
                  λ f7. (
                    (λ e. failed begun _ refl),
                    λ f8. (
                      (λ e. failed begun _ refl),
                      λ f9. (
                        (λ e. failed noted _ refl),
                        λ f10. (
                          (λ e. failed noted _ refl),
                          λ f11.
                              let n : New r a = record {
                                free = f2;
                                unfinished = f3;
                                not_255 = f4;
                                served = f5;
                                no_crc = f6;
                                in_place = f7;
                                inside = f8;
                                agrees = f9;
                                stated_fits = or_left (states_above (stated_with r a) r.terms.maximum_message_octets) _ f10;
                                fits = ltb-false _ _ (or_right (states_above (stated_with r a) r.terms.maximum_message_octets) _ f10);
                                not_passed = f11;
                              } in
                              ((λ e. failed keeping _ refl), λ f12. ((λ e. finished n (and_rest _ _ f12 e) e), kept' n)),
                        ),
                      ),
                    ),
                  ),
                ),
              ),
            ),
          ),
        ),
      ),
    ),
  )

module _ (P : Step → Type 0) (interval : ℕ) (r : Receiver) (a : Arrival) (store o : List ℕ)
    (refused' : (n : Refusal) → refusal (receive_rows interval r a store o) ≡ Some n → P (refuses n r store o))
    (expired : Admitted r a store o → P (late_or interval true true r a store o)) (due' : P (late_or interval true false r a store o))
    (settled : Admitted r a store o → P (settle interval (first_of (slot_rules r a store) keeps) r a store o)) where
  -- by whether it is late, and then by whether responses are prohibited
  in_time : Admitted r a store o → (b p : Bool) → P (late_or interval b p r a store o)
  in_time A true true = expired A
  in_time A true false = due'
  in_time A false p = settled A

  -- where no row holds
  admitted : refusal (receive_rows interval r a store o) ≡ None → Admitted r a store o
  admitted e =
      let f = refusal_none (receive_rows interval r a store o) e in
      record {
        room = ltb-false _ _ (f 0);
        output_room = ltb-false _ _ (f 1);
        not_back = ltb-false _ _ (f 3);
        short = ltb-false _ _ (f 9);
        begin_first = f 10;
        takes = not-false _ (f 14);
        begin_there = f 15;
      }

  -- receive: it is refused; late, where it expires or is refused with 37; or the rules of the slots settle it
  pub by_receive : P (receive_of interval r a store o)
  unfolding receive_of
  by_receive = go (refusal (receive_rows interval r a store o)) refl
    where
      go : (v : Option Refusal) → refusal (receive_rows interval r a store o) ≡ v → P (receive_after interval v r a store o)
      go (Some n) e = refused' n e
      go None e = in_time (admitted e) (late r.progress.deadline_monotonic_ms a.reading) (prohibited r.progress.services.acknowledgment_window)

-- ---- advance, cancel and release

-- what holds of one that 60, 62 and 33 do not refuse
pub record Clocked (r : Receiver) (store : List ℕ) (now' : ℕ) : Type 0 where
  pub room : store_octets ≤ length store
  pub possible : impossible r ≡ false
  pub not_back : r.progress.last_monotonic_ms ≤ now'

module _ (P : Step → Type 0) (r : Receiver) (store : List ℕ) (now' : ℕ) where
  -- where none of the clock's rows holds, whatever rows stand behind them
  clocked : (rows : List (Bool × Refusal)) → refusal (clock_rows r store now' ++ rows) ≡ None → Clocked r store now'
  clocked rows e =
      let f = refusal_none (clock_rows r store now' ++ rows) e in
      record { room = ltb-false _ _ (f 0); possible = f 1; not_back = ltb-false _ _ (f 2) }

  -- advance: it is refused, or the deadline is due or not
  pub by_advance : ((n : Refusal) → refusal (clock_rows r store now') ≡ Some n → P (refuses n r store []))
      → (Clocked r store now' → (b p : Bool) → due r.progress.deadline_monotonic_ms now' ≡ b → prohibited r.progress.services.acknowledgment_window ≡ p → P (fires b p r store now'))
      → P (advance_of r store now')
  unfolding advance_of
  by_advance f g = go (refusal (clock_rows r store now')) refl
    where
      go : (v : Option Refusal) → refusal (clock_rows r store now') ≡ v → P (advance_after v r store now')
      go (Some n) e = f n e
      go None e = g (clocked [] e) (due r.progress.deadline_monotonic_ms now') (prohibited r.progress.services.acknowledgment_window) refl refl

  -- what rows decide by cancel_after: it is refused, or closed
  by_closing : (rows : List (Bool × Refusal)) → ((n : Refusal) → refusal rows ≡ Some n → P (refuses n r store []))
      → (refusal rows ≡ None → P (cancel_after None r store now'))
      → P (cancel_after (refusal rows) r store now')
  by_closing rows f g = go (refusal rows) refl
    where
      go : (v : Option Refusal) → refusal rows ≡ v → P (cancel_after v r store now')
      go (Some n) e = f n e
      go None e = g e

  -- cancel: it is refused, or cancels an open reception
  pub by_cancel : ((n : Refusal) → refusal (cancel_rows r store now') ≡ Some n → P (refuses n r store []))
      → (Clocked r store now' → (awaiting r.progress.state || receiving r.progress.state) ≡ true → P (cancel_after None r store now'))
      → P (cancel_of r store now')
  unfolding cancel_of
  by_cancel f g = by_closing (cancel_rows r store now') f (λ e. g (clocked ((not (awaiting r.progress.state || receiving r.progress.state), (38, 0)) ∷ []) e) (not-false _ (refusal_none (cancel_rows r store now') e 3)))

  -- release: it is refused, or releases a Complete one
  pub by_release : ((n : Refusal) → refusal (release_rows r store now') ≡ Some n → P (refuses n r store []))
      → (Clocked r store now' → complete r.progress.state ≡ true → P (cancel_after None r store now'))
      → P (release_of r store now')
  unfolding release_of
  by_release f g = by_closing (release_rows r store now') f (λ e. g (clocked ((not (complete r.progress.state), (38, 0)) ∷ []) e) (not-false _ (refusal_none (release_rows r store now') e 3)))
