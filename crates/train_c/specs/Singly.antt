-- A train beside single calls: the steps of its segments, each decoded and received on what the one before it left, where among them a train
-- ends, and what a caller gives to the next call.
use Rattle.std.specs.Prelude.{◌≡◌, true, List, [], ◌∷◌, ◌++◌, ℕ, zero, suc, ◌+◌, ◌-◌, ◌*◌, ◌/◌, ◌≤◌, ◌<◌, length, get_or, take, drop, Option, None}
use Rattle.tsar.specs.Rows.{Refusal}
use Rattle.link.specs.declared.MobileIdentity.{MobileIdentity}
use Rattle.link.specs.declared.HigherLayerProtocol.{HigherLayerProtocol}
use Rattle.receiver.specs.declared.Receiver.{Receiver}
use Rattle.receiver.specs.declared.Reported.{Reported}
use Rattle.receiver.specs.Record.{taking}
use Rattle.receiver.specs.Answers.{refused, answered, Step}
use Rattle.codec_c.specs.Codes.{code_of}
use Rattle.image.specs.Numbers.{number_of}
use Rattle.train_c.specs.Walk.{Train, train, segments_of, start_of, train_step, train_of}

-- the steps of segments, one by one
module _ (peer : MobileIdentity) (protocol : HigherLayerProtocol) (reading : ℕ) where
  unfoldable pub steps_of : List (List ℕ) → Receiver → List ℕ → List ℕ → List Step
  steps_of [] r store output = []
  steps_of (octets ∷ rest) r store output =
      let s = train_step peer protocol reading r octets store output in
      s ∷ steps_of rest s.receiver s.store s.output

-- what the last of some steps has, or what there was before them
abbrev pub last_of : {A : Type 0} → A → (Step → A) → List Step → A
last_of a f [] = a
last_of a f (s ∷ rest) = last_of (f s) f rest

-- a segment that was received and answered with no response and no message, and the receiver takes more
pub record Empty (s : Step) : Type 0 where
  pub nothing : s.answer ≡ answered None None
  pub takes : taking s.receiver.progress.state ≡ true

-- all of them
abbrev pub AllEmpty : List Step → Type 0
AllEmpty [] = Unit {0}
AllEmpty (s ∷ rest) = Empty s × AllEmpty rest

-- where a train that has received k segments ends, among the steps of those that are left: behind the last, none of which carried anything;
-- behind the first that is received and ends it, which stands in the answer; at the first that is refused, with which the answer has no
-- response and no message
pub data Ends (k : ℕ) (r : Receiver) (store output : List ℕ) (steps : List Step) (t : Train) : Type 0 where
  all : AllEmpty steps
      → t ≡ train 0 (last_of r (λ s. s.receiver) steps) (last_of store (λ s. s.store) steps) (last_of output (λ s. s.output) steps) (k + length steps) None None
      → Ends k r store output steps t
  behind : (before : List Step) (s : Step) (rest : List Step) (x : Option Reported) (m : Option ℕ) → steps ≡ before ++ s ∷ rest → AllEmpty before
      → s.answer ≡ answered x m → (Empty s → ⊥) → t ≡ train 0 s.receiver s.store s.output (k + (length before + 1)) x m
      → Ends k r store output steps t
  at : (before : List Step) (s : Step) (rest : List Step) (n : Refusal) → steps ≡ before ++ s ∷ rest → AllEmpty before → s.answer ≡ refused n
      → 256 ≤ code_of n → t ≡ train (code_of n) s.receiver s.store s.output (k + length before) None None → Ends k r store output steps t

-- what a caller of a train has: of the segments that were received all but the last carried nothing and left the receiver taking, and the
-- last stands in the answer; with 0 the call leaves what the last of them left, and going on with the segments that were not received makes
-- the steps that are left, of which each such call makes one or more; with a refusal the answer has no response and no message
pub record Kept (peer : MobileIdentity) (protocol : HigherLayerProtocol) (reading : ℕ) (l : List (List ℕ)) (r : Receiver) (store output : List ℕ) (steps : List Step) (t : Train) : Type 0 where
  pub there : t.received ≤ length steps
  pub before : AllEmpty (take (t.received - 1) steps)
  pub last : (i : ℕ) (d : Step) → i + 1 ≡ t.received → (get_or steps i d).answer ≡ answered t.response t.message
  pub receiver_left : t.code ≡ 0 → t.receiver ≡ last_of r (λ s. s.receiver) (take t.received steps)
  pub store_left : t.code ≡ 0 → t.store ≡ last_of store (λ s. s.store) (take t.received steps)
  pub output_left : t.code ≡ 0 → t.output ≡ last_of output (λ s. s.output) (take t.received steps)
  pub onward : t.code ≡ 0 → steps_of peer protocol reading (drop t.received l) t.receiver t.store t.output ≡ drop t.received steps
  pub moves : t.code ≡ 0 → 0 < length steps → 0 < t.received
  pub beside : 0 < t.code → (t.response ≡ None) × (t.message ≡ None)

-- of the very train that the export's contract cites
abbrev pub LosesNothing : Type 0
LosesNothing =
    (peer : MobileIdentity) (protocol : HigherLayerProtocol) (reading : ℕ) (l : List (List ℕ)) (r : Receiver) (store output : List ℕ)
    → let steps = steps_of peer protocol reading l r store output in
    let t = train_of peer protocol reading l (start_of r store output) in
    Ends 0 r store output steps t × Kept peer protocol reading l r store output steps t

-- ---- by lengths and octets, as a caller has them

-- the segments that a call is given: an odd last octet of the lengths is no length
abbrev pub given : List ℕ → List ℕ → List (List ℕ)
given lengths octets = segments_of (length lengths / 2) lengths octets

-- the sum of the first k lengths
unfoldable pub lengths_sum : ℕ → List ℕ → ℕ
lengths_sum zero lengths = 0
lengths_sum (suc k) lengths = number_of 2 lengths + lengths_sum k (drop 2 lengths)

-- lengths without the first 2 * k octets, and octets without as many as the first k lengths say, as far as they go, are the segments behind
-- the first k
abbrev pub Behind : Type 0
Behind = (k : ℕ) (lengths octets : List ℕ) → given (drop (2 * k) lengths) (drop (lengths_sum k lengths) octets) ≡ drop k (given lengths octets)

-- so a caller that goes on after 0 with the lengths and octets behind those received makes the steps that are left
abbrev pub GoesOn : Type 0
GoesOn =
    (peer : MobileIdentity) (protocol : HigherLayerProtocol) (reading : ℕ) (lengths octets : List ℕ) (r : Receiver) (store output : List ℕ)
    → let steps = steps_of peer protocol reading (given lengths octets) r store output in
    let t = train_of peer protocol reading (given lengths octets) (start_of r store output) in
    t.code ≡ 0
    → steps_of peer protocol reading (given (drop (2 * t.received) lengths) (drop (lengths_sum t.received lengths) octets)) t.receiver t.store t.output
    ≡ drop t.received steps
