-- What a single call answers and leaves, on any record and store: when it answers Received, the store's length, the last reading, the terms.
use Rattle.std.specs.Prelude.{ℕ, ◌+◌, ◌*◌, ◌≤◌, ◌≡◌, refl, ◌⊎◌, List, Bool, true, false, cond, ◌&&◌, length, eqb, leb, Option, Some, None}
use Rattle.std.proofs.Common.{sym, ap, ◌∙◌, inl, inr, arith}
use Rattle.std.proofs.lemmas.Bool.{false≢true}
use Rattle.std.proofs.Math.Seq.{length-sets}
use Rattle.octets.specs.Octets.{length_wiped}
use Rattle.tsar.specs.Rows.{first_of, either}
use Rattle.tsar.specs.Kinds.{prohibited}
use Rattle.tsar.specs.declared.Segment.{Segment}
use Rattle.response.specs.Responses.{status_number}
use Rattle.response.specs.declared.Status.{Status}
use Rattle.response.specs.declared.Status.TheVariants as status
use Rattle.response.specs.declared.Response.{Response}
use Rattle.receiver.specs.declared.ReceiverState.{ReceiverState}
use Rattle.receiver.specs.declared.ReceiverState.TheVariants.{AwaitingBegin, Receiving, Complete, Failed, Expired, Canceled}
use Rattle.receiver.specs.declared.Terms.{Terms}
use Rattle.receiver.specs.declared.Receiver.{Receiver}
use Rattle.receiver.specs.declared.Reported.{Reported}
use Rattle.receiver.specs.Record.{complete, store_octets, slot_octets}
use Rattle.receiver.specs.Answers.{Answer, refused, answered, Step, respond, required, required_response, listed_in, fail_response}
use Rattle.receiver.specs.Receive.{Arrival, sequence, slot_rules, settle, kept, at_stage, Stage, before, begun, noted, keeping, Outcome, fails, repeats, closes, keeps, finishes}
use Rattle.receiver.specs.Advance.{fires}
use Rattle.delivery.specs.Calls.{Call, receive, advance, cancel, release, step_of}
use Rattle.delivery.specs.Delivery.{reading}
use Rattle.delivery.specs.Rules.{by_rules, by_receive, by_advance, by_cancel, by_release}

-- ---- Received

-- a response without its figures
abbrev pub response_in : Option Reported → Option Response
response_in None = None
response_in (Some x) = Some x.response

-- the response that an answer asks for
abbrev pub responded : Answer → Option Response
responded (refused n) = None
responded (answered x m) = response_in x

-- a response, where there is one, has status s
abbrev Has : Status → Option Reported → Type 0
Has s None = Unit {0}
Has s (Some x) = x.response.status ≡ s

-- a response has the status asked for
respond_has : (r : Receiver) (s : Status) (next : Bool) → Has s (respond r s next)
respond_has r s next = either (Has s) (prohibited r.progress.services.acknowledgment_window) None (Some _) (λ e. tt) (λ e. refl)

-- so has one that a taken segment is due
required_has : (r : Receiver) (x : Segment) (s : Status) → Has s (required_response r x s)
required_has r x s = either (Has s) (required r x s) (respond r s false) None (λ e. respond_has r s false) (λ e. tt)

-- a support list keeps the status
listed_has : (b : Bool) (s : Status) (y : Option Reported) → Has s y → Has s (listed_in b y)
listed_has b s None h = tt
listed_has true s (Some y) h = h
listed_has false s (Some y) h = h

-- the response to a failure has its status
fail_has : (r : Receiver) (s : Status) → Has s (fail_response r s)
fail_has r s = listed_has (eqb (status_number s) 13 && leb 5 r.terms.version) s (respond r s false) (respond_has r s false)

-- a step answers Received only if it leaves Complete
abbrev Tells : Step → Type 0
Tells st = (x : Response) → responded st.answer ≡ Some x → x.status ≡ status.Received → st.receiver.progress.state ≡ Complete

-- a response with another status
other_status : {A : Type 0} (s : Status) (y : Option Reported) → Has s y → eqb (status_number s) 10 ≡ false → (x : Response) → response_in y ≡ Some x → x.status ≡ status.Received → A
other_status s None h n x e f = absurd (let z : ◌≡◌ {A = ℕ} 0 1 = cc in omega arith)
other_status s (Some y) h n x e f =
    let z : s ≡ status.Received = cc in
    absurd (false≢true (sym n ∙ ap (λ (u : Status). eqb (status_number u) 10) z))

-- the state that is complete
is_complete : (s : ReceiverState) → complete s ≡ true → s ≡ Complete
is_complete AwaitingBegin e = absurd (false≢true e)
is_complete Receiving e = absurd (false≢true e)
is_complete Complete e = refl
is_complete (Failed n) e = absurd (false≢true e)
is_complete Expired e = absurd (false≢true e)
is_complete Canceled e = absurd (false≢true e)

module _ (interval : ℕ) (r : Receiver) (a : Arrival) (store o : List ℕ) where
  -- a failure never answers Received
  failed_tells : (st : Stage) (s : Status) → eqb (status_number s) 10 ≡ false → Tells (settle interval (fails st s) r a store o)
  failed_tells st s n x = other_status s (fail_response (at_stage r a st) s) (fail_has (at_stage r a st) s) n x

  -- a repeat does only in Complete
  repeated_tells : Tells (settle interval repeats r a store o)
  repeated_tells = go (complete r.progress.state) refl
    where
      go : (b : Bool) → complete r.progress.state ≡ b → (x : Response) → response_in (required_response r a.segment (cond b status.Received status.Continuing)) ≡ Some x → x.status ≡ status.Received → r.progress.state ≡ Complete
      go true e x f g = is_complete r.progress.state e
      go false e x f g = other_status status.Continuing (required_response r a.segment status.Continuing) (required_has r a.segment status.Continuing) refl x f g

  -- a held segment does not
  kept_tells : Tells (settle interval keeps r a store o)
  kept_tells x =
      let r' = kept r a Receiving (Some (a.reading + interval)) in
      other_status status.Continuing (required_response r' a.segment status.Continuing) (required_has r' a.segment status.Continuing) refl x

  -- so no segment does otherwise
  settled_tells : Tells (settle interval (first_of (slot_rules r a store) keeps) r a store o)
  settled_tells =
      by_rules (λ out. Tells (settle interval out r a store o)) r a store failed_tells (λ e. repeated_tells) (λ x f. absurd (let z : ◌≡◌ {A = ℕ} 0 1 = cc in omega arith))
      (λ N right e x f g. refl) (λ N e. kept_tells)

-- a call answers a response with status Received only if it leaves the receiver Complete
pub received_complete : (interval : ℕ) (r : Receiver) (store : List ℕ) (c : Call) (x : Response)
    → responded (step_of interval r store c).answer ≡ Some x → x.status ≡ status.Received → (step_of interval r store c).receiver.progress.state ≡ Complete
received_complete interval r store (receive a o) =
    by_receive Tells interval r a store o (λ n e x f. absurd (let z : ◌≡◌ {A = ℕ} 0 1 = cc in omega arith)) (λ A x f. absurd (let z : ◌≡◌ {A = ℕ} 0 1 = cc in omega arith))
    (λ x f. absurd (let z : ◌≡◌ {A = ℕ} 0 1 = cc in omega arith)) (λ A. settled_tells interval r a store o)
received_complete interval r store (advance now') = by_advance Tells r store now' (λ n e x f. absurd (let z : ◌≡◌ {A = ℕ} 0 1 = cc in omega arith)) (λ K b p e f. fired b p)
  where
    fired : (b p : Bool) → Tells (fires b p r store now')
    fired false p x f = absurd (let z : ◌≡◌ {A = ℕ} 0 1 = cc in omega arith)
    fired true true x f = absurd (let z : ◌≡◌ {A = ℕ} 0 1 = cc in omega arith)
    fired true false x f = other_status status.InterSegmentTimeout (respond r status.InterSegmentTimeout true) (respond_has r status.InterSegmentTimeout true) refl x f
received_complete interval r store (cancel now') =
    by_cancel Tells r store now' (λ n e x f. absurd (let z : ◌≡◌ {A = ℕ} 0 1 = cc in omega arith)) (λ K s x f. absurd (let z : ◌≡◌ {A = ℕ} 0 1 = cc in omega arith))
received_complete interval r store (release now') =
    by_release Tells r store now' (λ n e x f. absurd (let z : ◌≡◌ {A = ℕ} 0 1 = cc in omega arith)) (λ K s x f. absurd (let z : ◌≡◌ {A = ℕ} 0 1 = cc in omega arith))

-- ---- the store's length

-- a step leaves a store as long as store
abbrev AsLong : List ℕ → Step → Type 0
AsLong store st = length st.store ≡ length store

-- a call leaves the store as long as it was
pub store_length : (interval : ℕ) (r : Receiver) (store : List ℕ) (c : Call) → length (step_of interval r store c).store ≡ length store
store_length interval r store (receive a o) =
    by_receive (AsLong store) interval r a store o (λ n e. refl) (λ A. length_wiped store_octets store) refl (λ A. settled (first_of (slot_rules r a store) keeps))
  where
    settled : (out : Outcome) → AsLong store (settle interval out r a store o)
    settled (fails st s) = length_wiped store_octets store
    settled repeats = refl
    settled closes = refl
    settled keeps = length-sets store (slot_octets * sequence a) a.octets
    settled finishes = length-sets store (slot_octets * sequence a) a.octets
store_length interval r store (advance now') = by_advance (AsLong store) r store now' (λ n e. refl) (λ K b p e f. fired b p)
  where
    fired : (b p : Bool) → AsLong store (fires b p r store now')
    fired false p = refl
    fired true true = length_wiped store_octets store
    fired true false = refl
store_length interval r store (cancel now') = by_cancel (AsLong store) r store now' (λ n e. refl) (λ K s. length_wiped store_octets store)
store_length interval r store (release now') = by_release (AsLong store) r store now' (λ n e. refl) (λ K s. length_wiped store_octets store)

-- ---- the last reading

-- the reading l stays, or is the call's, n, which is at or after it
abbrev pub Reads : ℕ → ℕ → Step → Type 0
Reads l n st = (st.receiver.progress.last_monotonic_ms ≡ l) ⊎ ((st.receiver.progress.last_monotonic_ms ≡ n) × (l ≤ n))

-- a call leaves the last reading, or takes its own, which is at or after the last
pub last_reading : (interval : ℕ) (r : Receiver) (store : List ℕ) (c : Call) → Reads r.progress.last_monotonic_ms (reading c) (step_of interval r store c)
last_reading interval r store (receive a o) =
    by_receive (Reads r.progress.last_monotonic_ms a.reading) interval r a store o (λ n e. inl refl) (λ A. inr (refl, A.not_back)) (inl refl)
    (λ A. inr (settled (first_of (slot_rules r a store) keeps), A.not_back))
  where
    settled : (out : Outcome) → (settle interval out r a store o).receiver.progress.last_monotonic_ms ≡ a.reading
    settled (fails st s) = refl
    settled repeats = refl
    settled closes = refl
    settled keeps = refl
    settled finishes = refl
last_reading interval r store (advance now') = by_advance (Reads r.progress.last_monotonic_ms now') r store now' (λ n e. inl refl) (λ K b p e f. fired K.not_back b p)
  where
    fired : r.progress.last_monotonic_ms ≤ now' → (b p : Bool) → Reads r.progress.last_monotonic_ms now' (fires b p r store now')
    fired l false p = inr (refl, l)
    fired l true true = inr (refl, l)
    fired l true false = inr (refl, l)
last_reading interval r store (cancel now') = by_cancel (Reads r.progress.last_monotonic_ms now') r store now' (λ n e. inl refl) (λ K s. inr (refl, K.not_back))
last_reading interval r store (release now') = by_release (Reads r.progress.last_monotonic_ms now') r store now' (λ n e. inl refl) (λ K s. inr (refl, K.not_back))

-- ---- the terms

-- a step leaves the terms t
abbrev Has-terms : Terms → Step → Type 0
Has-terms t st = st.receiver.terms ≡ t

-- a call leaves the terms as they were, the profile among them, whatever record it is made on
pub terms_kept : (interval : ℕ) (r : Receiver) (store : List ℕ) (c : Call) → (step_of interval r store c).receiver.terms ≡ r.terms
terms_kept interval r store (receive a o) =
    by_receive (Has-terms r.terms) interval r a store o (λ n e. refl) (λ A. refl) refl (λ A. settled (first_of (slot_rules r a store) keeps))
  where
    settled : (out : Outcome) → Has-terms r.terms (settle interval out r a store o)
    settled (fails before s) = refl
    settled (fails begun s) = refl
    settled (fails noted s) = refl
    settled (fails keeping s) = refl
    settled repeats = refl
    settled closes = refl
    settled keeps = refl
    settled finishes = refl
terms_kept interval r store (advance now') = by_advance (Has-terms r.terms) r store now' (λ n e. refl) (λ K b p e f. fired b p)
  where
    fired : (b p : Bool) → Has-terms r.terms (fires b p r store now')
    fired false p = refl
    fired true true = refl
    fired true false = refl
terms_kept interval r store (cancel now') = by_cancel (Has-terms r.terms) r store now' (λ n e. refl) (λ K s. refl)
terms_kept interval r store (release now') = by_release (Has-terms r.terms) r store now' (λ n e. refl) (λ K s. refl)
